-- What a database keeps in memory of the node that it is.
use Rattle.std.specs.Prelude.{◌≡◌, ℕ, ◌^◌, ◌==◌, ◌&&◌, ◌||◌, nat_lt, nat_le, if◌then◌else◌, Bool, true, false, List}
use Rattle.std.specs.Prelude.{length, filter_map, Option, Some, None, is_some}
use Rattle.std.specs.List.{list_all, list_any}
use Rattle.std.specs.Str.{bytes_eq}
use Rattle.std.specs.Option.{option_map}
use Rattle.std.specs.FinMap.{get}
use Rattle.slon_base.specs.Codec.{IsText}
use Rattle.store_rows.specs.Rows.{IsId}
use Rattle.node_rows.specs.declared.rows.TableRow.{TableRow}
use Rattle.change_capture.specs.declared.action.Action.{Action}
use Rattle.change_capture.specs.declared.action.Change.{Change}
use Rattle.change_capture.specs.declared.action.Change.TheVariants.{Put, Set, Remove}
use Rattle.change_capture.specs.declared.log_row.LogRow.{LogRow}
use Rattle.change_capture.specs.Capture.{log_row}
use Rattle.slon_model.specs.Forms.{is_table_name, is_value}
use Rattle.slon_model.specs.Spoken.{greatest_column}
use Rattle.node_rows.specs.declared.body.Body.{Body}
use Rattle.node_rows.specs.declared.body.Body.TheVariants.{DropSet, SetAddTable}
use Rattle.slon_model.specs.Events.{Event}
use Rattle.slon_model.specs.Maps.{entry_at}
use Rattle.slon_model.specs.Config.{Config, is_origin, member_of, change}
use Rattle.slon_model.specs.Deeds.{Node, knowledge}
use Rattle.node_state.specs.declared.memory.Identity.{Identity}
use Rattle.node_state.specs.declared.memory.Member.{Member}
use Rattle.node_state.specs.declared.memory.Members.{Members}

-- ---- what the rules say of it

abbrev pub identity_of : Option Node → Option Identity
identity_of found = option_map (λ n. record { id = n.id; cluster = n.cluster }) found

abbrev pub member_as : ℕ → Config → ℕ × TableRow → Member
member_as own c e = record { table = e.0; set = e.1.set_id; leads = is_origin own e.1.set_id c }

abbrev pub member_at : Option Node → List ℕ → Option Member
member_at None name = None
member_at (Some n) name =
    let c = (knowledge n).config in option_map (λ e. member_as n.id c e) (member_of name c)

-- a table of this name is or was in a set
abbrev pub is_used : List ℕ → Config → Bool
is_used name c = list_any (λ e. bytes_eq name e.1.name) c.tables

abbrev pub is_named : List ℕ → Option Node → Bool
is_named name None = false
is_named name (Some n) = is_used name (knowledge n).config

-- the memory is what the rules know of the node
pub record IsKnown (node : Option Node) (identity : Option Identity) (members : Members) : Type 0 where
  pub identity_is : identity ≡ identity_of node
  pub members_are : (name : List ℕ) → get members.live name ≡ member_at node name
  pub names_are : (name : List ℕ) → is_some (get members.names name) ≡ is_named name node

-- the member, unless it is one of this set
abbrev pub outside : ℕ → Option Member → Option Member
outside set None = None
outside set (Some member) = if member.set == set then None else Some member

-- what is kept of the table of a name, once the node met an event with this body: whether it leads the set of a table
-- that is put into one is told
abbrev pub learned_as : Bool → Body → List ℕ → Option Member → Option Member
learned_as leads (DropSet set) other before = outside set before
learned_as leads (SetAddTable set table name comment) other before =
    if bytes_eq other name then Some (record { table = table; set = set; leads = leads }) else before
learned_as leads others other before = before

-- a table that it puts into a set itself is one of a set of which it is the origin
abbrev pub learned_member : Body → List ℕ → Option Member → Option Member
learned_member = learned_as true

-- and whether a table of this name is or was in a set
abbrev pub learned_name : Body → List ℕ → Bool → Bool
learned_name (SetAddTable set table name comment) other before = bytes_eq other name || before
learned_name others other before = before

-- a table that is put into a set is put into one that is known, and neither its id nor its name was used
abbrev pub IsHomed : Body → Config → Type 0
IsHomed (SetAddTable set table name comment) c =
    (is_some (entry_at set c.sets) ≡ true) × (is_some (entry_at table c.tables) ≡ false) × (is_used name c ≡ false)
IsHomed others c = Unit {0}

-- An event changes the tables of sets and their names in no other way.
pub record LearnsAs (leads : Bool) (n : Node) (e : Event) : Type 0 where
  pub members : let c = change e (knowledge n).config in
      (name : List ℕ) → option_map (λ t. member_as n.id c t) (member_of name c)
      ≡ learned_as leads e.body name (member_at (Some n) name)
  pub names : (name : List ℕ) →
      is_used name (change e (knowledge n).config) ≡ learned_name e.body name (is_used name (knowledge n).config)
  pub home : IsHomed e.body (knowledge n).config

-- the node emits it, or it is one of another node
abbrev pub Learns : Node → Event → Type 0
Learns n e = LearnsAs true n e

abbrev pub LearnsOfOther : Node → Event → Type 0
LearnsOfOther n e = LearnsAs false n e

-- ---- forms

-- the id of a node is in its range
abbrev pub IsIdentified : Option Identity → Type 0
IsIdentified identity = (i : Identity) → identity ≡ Some i → IsId i.id

-- and its cluster can be spelled
abbrev pub CanIdentity : Option Identity → Type 0
CanIdentity identity = (i : Identity) → identity ≡ Some i → IsId i.id × IsText i.cluster

-- the ids of members are in their range
abbrev pub AreMembers : Members → Type 0
AreMembers members = (name : List ℕ) (m : Member) → get members.live name ≡ Some m → IsId m.table × IsId m.set

-- ---- the rows that a commit logs

-- the key and the values of a change are of their forms, and its columns are few
abbrev pub is_change : Change → Bool
is_change (Put key row) = is_value key && list_all is_value row && nat_le (length row) greatest_column
is_change (Set key columns) =
    is_value key && list_all (λ c. is_value c.1) columns && nat_le (length columns) greatest_column
    && list_all (λ c. nat_le c.0 greatest_column) columns
is_change (Remove key) = is_value key

-- an action whose row can be logged
abbrev pub is_captured : Action → Bool
is_captured a = is_table_name a.table && nat_lt a.number (2 ^ 63) && is_change a.change

-- and all actions of a transaction of this id
abbrev pub are_captured : ℕ → List Action → Bool
are_captured xid actions = nat_lt xid (2 ^ 63) && list_all is_captured actions

abbrev pub logged_as : ℕ → Action → Option Member → Option (ℕ × LogRow)
logged_as xid a None = None
logged_as xid a (Some member) = if member.leads then Some (a.number, log_row xid member.table a) else None

-- the rows of these actions of a transaction, each with its number
abbrev pub log_rows_of : Members → ℕ → List Action → List (ℕ × LogRow)
log_rows_of members xid actions = filter_map (λ a. logged_as xid a (get members.live a.table)) actions
