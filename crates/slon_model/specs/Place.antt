-- What the rules know of one database.
use Rattle.std.specs.Prelude.{ℕ, ◌+◌, ◌==◌, ◌&&◌, nat_le, if◌then◌else◌, Bool, true, false, List, [], ◌∷◌, length}
use Rattle.std.specs.Prelude.{filter, map, Option, None, option_map, unwrap_or}
use Rattle.std.specs.FinMap.{empty}
use Rattle.std.specs.List.{list_any}
use Rattle.std.specs.Str.{bytes_eq}
use Rattle.std.specs.Option.{option_or}
use Rattle.slon_model.specs.declared.numbering.Numbering.{Numbering}
use Rattle.slon_model.specs.declared.numbering.Numbering.TheVariants.{Xids, Actions}
use Rattle.slon_model.specs.Names.{Named, find_named}
use Rattle.slon_model.specs.Rows.{Action, member, play_rows, holder_in, Rows as TableOf}
use Rattle.slon_model.specs.Snapshots.{Snapshot, first_or, snapshot_text}
use Rattle.slon_model.specs.Config.{live_nodes}
use Rattle.slon_model.specs.Views.{View}
use Rattle.slon_model.specs.Deeds.{Node, Deed, Doing, Logged, brought_in, knowledge, progress}

-- How a database stands: it is up; it is down; or it is down and a commit of it is in doubt, which stands or not.
pub data Standing : Type 0 where
  IsRunning : Standing
  IsFallen : Standing
  IsDoubtful : (stands : Bool) → Standing

abbrev pub is_running : Standing → Bool
is_running IsRunning = true
is_running others = false

-- The next number to be drawn, and the durable ceiling that no number reaches which is drawn before it rises.
pub record Counter : Type 0 where
  pub next : ℕ
  pub ceiling : ℕ

-- What a table was filled with: the number of the first action behind that, and its rows then.
pub record Filling : Type 0 where
  pub first : ℕ
  pub rows : TableOf

pub record Place : Type 0 where
  pub standing : Standing
  -- its tables with their numbers of columns, the newest first
  pub tables : Named ℕ
  -- all accepted writes, the newest first
  pub actions : List Action
  -- the transactions whose commit stands, the newest first
  pub commits : List ℕ
  -- what tables were filled with from elsewhere, by their names, the newest first
  pub fillings : Named Filling
  -- the open transactions, by their names, the oldest first
  pub opens : Named ℕ
  -- the ids of transactions, and the numbers of actions
  pub xids : Counter
  pub numbers : Counter
  -- one more with each transaction of the store; 0 where not even its first rows stand
  pub stamp : ℕ
  -- the greatest count of faults that was told
  pub told : ℕ
  -- the node that it is
  pub node : Option Node
  -- the id of the node that a commit in doubt would make it
  pub promised : Option ℕ

-- ---- numbers that are drawn

-- the ceilings rise by as much as this
abbrev pub block : ℕ
block = 64

abbrev pub first_counter : Counter
first_counter = record { next = 1; ceiling = 1 }

abbrev pub counter : Numbering → Place → Counter
counter Xids p = p.xids
counter Actions p = p.numbers

abbrev pub with_counter : Numbering → Counter → Place → Place
with_counter Xids c p = record p { xids = c }
with_counter Actions c p = record p { numbers = c }

-- one number is drawn
abbrev pub drawn : Counter → Counter
drawn c = record { next = c.next + 1; ceiling = c.ceiling }

-- the ceiling is one block higher
abbrev pub lifted : Counter → Counter
lifted c = record { next = c.next; ceiling = c.ceiling + block }

-- all below the ceiling counts as drawn
abbrev pub resumed : Counter → Counter
resumed c = record { next = c.ceiling; ceiling = c.ceiling }

-- a transaction of the store
abbrev pub stamped : Place → Place
stamped p = record p { stamp = p.stamp + 1 }

-- a draw at the ceiling lifts it, in a transaction of the store of its own
abbrev pub raised : Numbering → Place → Place
raised kind p =
    if (counter kind p).next == (counter kind p).ceiling then stamped
    (with_counter kind (lifted (counter kind p)) p) else p

-- ---- what is known of rows and transactions

-- the ids of the open transactions, the oldest first
abbrev pub open_xids : Place → List ℕ
open_xids p = map (λ o. o.1) p.opens

-- what a table was last filled with, or else nothing before all its actions
abbrev pub filling_of : List ℕ → Named Filling → Filling
filling_of table fillings = unwrap_or (find_named table fillings) (record { first = 0; rows = empty })

-- the rows that the actions behind a filling that pass a test make of it
abbrev pub rows_since : (Action → Bool) → List ℕ → List Action → Filling → TableOf
rows_since test table actions f = play_rows (λ a. test a && nat_le f.first a.number) table actions f.rows

-- the rows of a table that stand
abbrev pub standing_rows : Place → List ℕ → TableOf
standing_rows p table = rows_since (λ a. member a.xid p.commits) table p.actions (filling_of table p.fillings)

-- the rows that a transaction sees: its own and those that stand
abbrev pub seen_rows : ℕ → Place → List ℕ → TableOf
seen_rows xid p table =
    rows_since (λ a. member a.xid (xid ∷ p.commits)) table p.actions (filling_of table p.fillings)

-- an open transaction wrote the table
abbrev pub has_writer : List ℕ → Place → Bool
has_writer table p = list_any (λ a. member a.xid (open_xids p) && bytes_eq table a.table) p.actions

-- Tables are filled with these rows behind all actions. None is filled that an open transaction wrote, since 66 is told
-- before.
abbrev pub filled : Place → Named TableOf → Named Filling → Named Filling
filled p [] fillings = fillings
filled p (r ∷ rs) fillings =
    if has_writer r.0 p then filled p rs fillings
    else (r.0, record { first = p.numbers.next; rows = r.1 }) ∷ filled p rs fillings

-- by deeds, the newest first
abbrev pub filled_by : Place → List Deed → Named Filling → Named Filling
filled_by p [] fillings = fillings
filled_by p (d ∷ ds) fillings = filled p (brought_in d.doing).rows (filled_by p ds fillings)

-- the open transaction that wrote a row
abbrev pub holder : List ℕ → List ℕ → Place → Option ℕ
holder table key p = holder_in table key (open_xids p) p.actions

-- the actions that are a transaction's own, and how many they are
abbrev pub own_actions : ℕ → Place → List Action
own_actions xid p = filter (λ a. a.xid == xid) p.actions

abbrev pub own_count : ℕ → Place → ℕ
own_count xid p = length (own_actions xid p)

-- the snapshot that is taken now
abbrev pub taken : Place → Snapshot
taken p = record { xmin = first_or p.xids.next (open_xids p); xmax = p.xids.next; running = open_xids p }

-- ---- going down, and the first rows

-- a database of whose first rows none stands
abbrev pub bare_place : Place
bare_place =
    record {
      standing = IsFallen;
      tables = [];
      actions = [];
      commits = [];
      fillings = [];
      opens = [];
      xids = first_counter;
      numbers = first_counter;
      stamp = 0;
      told = 0;
      node = None;
      promised = None;
    }

-- a commit in doubt that stands after all
abbrev pub surely : Standing → Standing
surely (IsDoubtful stands) = IsDoubtful true
surely others = others

-- the first rows stand
abbrev pub founded : Place → Place
founded p = record p { standing = surely p.standing; xids = lifted p.xids; numbers = lifted p.numbers; stamp = 1 }

-- a database that goes down, or stays down
abbrev pub downed : Standing → Standing
downed IsRunning = IsFallen
downed others = others

-- after a fault with this count
abbrev pub fallen : ℕ → Place → Place
fallen count p = record p { standing = downed p.standing; opens = []; told = count }

-- after a commit in doubt, which stands or not
abbrev pub doubted : Bool → Place → Place
doubted stands p = record p { standing = IsDoubtful stands; opens = [] }

-- ---- a database among nodes

-- a deed of the node, as it is done now
abbrev pub deed : Place → List (List ℕ × TableOf) → List Logged → Doing → Deed
deed p rows logs doing = record { first = p.numbers.next; rows = rows; logs = logs; doing = doing }

-- the id of the node that it is, or that a commit in doubt would make it
abbrev pub node_id : Place → Option ℕ
node_id p = option_or (option_map (λ n. n.id) p.node) p.promised

-- how far the node is in the stream of each live node
abbrev pub progress_of : Node → List (ℕ × ℕ)
progress_of n = let k = knowledge n in map (λ x. (x, progress x k)) (live_nodes k.config)

-- a set of which it keeps progress, with the era and the snapshot
abbrev pub kept_text : ℕ × View → ℕ × ℕ × List ℕ
kept_text v = (v.0, v.1.era, snapshot_text v.1.seen)

abbrev pub kept_of : Node → List (ℕ × ℕ × List ℕ)
kept_of n = map kept_text (knowledge n).views
