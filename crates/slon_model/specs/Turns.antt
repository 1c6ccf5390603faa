-- The turns of the daemons: the slon of a node is turned on and off, nodes are cut off and joined again, and a node
-- emits a SYNC.
use Rattle.std.specs.Prelude.{ℕ, ◌==◌, ◌&&◌, ◌||◌, if◌then◌else◌, not, Bool, false, List, [], ◌∷◌, ◌++◌}
use Rattle.std.specs.Prelude.{filter, find, Option, Some, None, Result, Ok, Err}
use Rattle.std.specs.List.{list_any}
use Rattle.std.specs.Str.{bytes_eq}
use Rattle.slon_model.specs.declared.reply.Answer.TheVariants.{Done}
use Rattle.slon_model.specs.declared.reply.Refusal.{Refusal}
use Rattle.slon_model.specs.declared.reply.Refusal.TheVariants as refused
use Rattle.slon_model.specs.declared.reply.Reply.TheVariants.{Accepted, Refused}
use Rattle.slon_model.specs.Rows.{member}
use Rattle.slon_model.specs.Snapshots.{Snapshot}
use Rattle.slon_model.specs.Events.{Event, last_sync}
use Rattle.slon_model.specs.Deeds.{held, progress}
use Rattle.slon_model.specs.Place.{Place, is_running, node_id, taken}
use Rattle.slon_model.specs.Sessions.{World, Memory, Stated, Outcome, Excess, Seat, no_change, forgotten, bind, when}
use Rattle.slon_model.specs.Sessions.{checked, seat_of, excess_of}
use Rattle.slon_model.specs.Membership.{synced}

abbrev pub is_id : ℕ → Option ℕ → Bool
is_id node None = false
is_id node (Some own) = own == node

-- the first database that is this node, or would be by a commit in doubt
abbrev pub at_node : ℕ → World → Option (List ℕ × Place)
at_node node w = find (λ e. is_id node (node_id e.1)) w.places

-- ---- on and off

-- What a session switched: the nodes whose slon is on, and the pairs of nodes that are cut off from one another.
pub record Switches : Type 0 where
  pub started : List ℕ
  pub cuts : List (ℕ × ℕ)

abbrev pub switches_of : Memory → Switches
switches_of m = record { started = m.started; cuts = m.cuts }

-- refused by 44 alone: no database of the session is the node
abbrev pub switched_at : ℕ → (List ℕ → Memory) → Option (List ℕ × Place) → World → Outcome
switched_at node m None w = no_change w (Refused (refused.NoNode node))
switched_at node m (Some e) w = record { reply = Accepted Done; commits = []; falls = None; memory = m e.0 }

abbrev pub switched : ℕ → (List ℕ → Memory) → World → Outcome
switched node m w = switched_at node m (at_node node w) w

-- the nodes whose slon is on, with one more
abbrev pub with_started : ℕ → List ℕ → List ℕ
with_started node started = if member node started then started else started ++ node ∷ []

abbrev pub without_started : ℕ → List ℕ → List ℕ
without_started node started = filter (λ other. not (other == node)) started

-- `start N`
abbrev pub start_outcome : ℕ → World → Outcome
start_outcome node w = switched node (λ name. record w.memory { started = with_started node w.memory.started }) w

-- `stop N`: its queue and what it fetched are gone
abbrev pub stop_outcome : ℕ → World → Outcome
stop_outcome node w =
    switched node (λ name. forgotten name (record w.memory { started = without_started node w.memory.started })) w

-- ---- cuts, whichever of the two is named first

abbrev pub cuts_both : ℕ → ℕ → ℕ × ℕ → Bool
cuts_both a b c = (c.0 == a && c.1 == b) || (c.0 == b && c.1 == a)

-- one of these cuts is between the two
abbrev pub are_cut : ℕ → ℕ → List (ℕ × ℕ) → Bool
are_cut a b cuts = list_any (cuts_both a b) cuts

abbrev pub is_cut : ℕ → ℕ → Memory → Bool
is_cut a b m = are_cut a b m.cuts

abbrev pub with_cut : ℕ → ℕ → List (ℕ × ℕ) → List (ℕ × ℕ)
with_cut a b cuts = if are_cut a b cuts then cuts else cuts ++ (a, b) ∷ []

abbrev pub without_cut : ℕ → ℕ → List (ℕ × ℕ) → List (ℕ × ℕ)
without_cut a b cuts = filter (λ c. not (cuts_both a b c)) cuts

abbrev pub with_cuts : List (ℕ × ℕ) → World → Outcome
with_cuts cuts w =
    record { reply = Accepted Done; commits = []; falls = None; memory = record w.memory { cuts = cuts } }

-- `cut N N` and `join N N`, which are never refused
abbrev pub cut_outcome : ℕ → ℕ → World → Outcome
cut_outcome a b w = with_cuts (with_cut a b w.memory.cuts) w

abbrev pub join_outcome : ℕ → ℕ → World → Outcome
join_outcome a b w = with_cuts (without_cut a b w.memory.cuts) w

-- ---- turns that commit

-- 44, 16
abbrev pub seat_at : ℕ → Option (List ℕ × Place) → Result Seat Refusal
seat_at node None = Err (refused.NoNode node)
seat_at node (Some e) =
    if is_running e.1.standing then seat_of (refused.NoNode node) e e.1.node else Err (refused.Down e.0)

-- 44, 16, 67
abbrev pub on_turn : ℕ → World → Result Seat Refusal
on_turn node w =
    bind (seat_at node (at_node node w))
    (λ s. checked (when (not (member node w.memory.started)) (refused.Off node) ∷ []) s)

-- it is done, with this in memory; or a number would be too big
abbrev pub turned_by : World → Memory → Stated → Option Excess → Outcome
turned_by w m stated None =
    record { reply = Accepted stated.answer; commits = stated.commits; falls = None; memory = m }
turned_by w m stated (Some e) =
    record { reply = Refused (refused.TooBig e.space); commits = []; falls = Some e.name; memory = w.memory }

abbrev pub turned : World → Memory → Stated → Outcome
turned w m stated = turned_by w m stated (excess_of stated.commits w.places)

-- what a turn comes to: it is refused, or what it found says what it leaves in memory and what is stated
abbrev pub taken_turn : {X : Type 0} → World → (X → Memory) → (X → Stated) → Result X Refusal → Outcome
taken_turn w left stated (Err refusal) = no_change w (Refused refusal)
taken_turn w left stated (Ok x) = turned w (left x) (stated x)

-- a turn that leaves this in memory
abbrev pub turn_by : World → Memory → Result Stated Refusal → Outcome
turn_by w m due = taken_turn w (λ stated. m) (λ stated. stated) due

-- ---- SYNC

abbrev pub same_snapshot : Snapshot → Snapshot → Bool
same_snapshot a b = a.xmin == b.xmin && (a.xmax == b.xmax && bytes_eq a.running b.running)

abbrev pub has_snapshot : Snapshot → Option Event → Bool
has_snapshot s None = false
has_snapshot s (Some e) = same_snapshot e.taken s

-- the last SYNC of the node has the present snapshot
abbrev pub is_synced : Seat → Bool
is_synced s = has_snapshot (taken s.place) (last_sync s.node.id (held s.node) (progress s.node.id s.known))

-- 60, and a SYNC
abbrev pub sync_at : Seat → Result Stated Refusal
sync_at s = checked (when (is_synced s) refused.Nothing ∷ []) (synced s)

-- `sync N`: 44, 16, 67, 60
abbrev pub sync_turn : ℕ → World → Result Stated Refusal
sync_turn node w = bind (on_turn node w) sync_at

abbrev pub sync_outcome : ℕ → World → Outcome
sync_outcome node w = turn_by w w.memory (sync_turn node w)
