-- The tables of sets, as the rows of sets and tables name them.
use Rattle.std.specs.Prelude.{◌≡◌, ℕ, ◌==◌, ◌&&◌, if◌then◌else◌, is_some, Bool, List, [], Option, Some, None}
use Rattle.std.specs.Option.{option_map}
use Rattle.std.specs.Str.{bytes_eq}
use Rattle.std.specs.BTreeMap as by_id
use Rattle.std.specs.BTreeMap.{BTreeMap}
use Rattle.std.specs.FinMap.{FinMap, get}
use Rattle.std.specs.Ordering.{nat_cmp}
use Rattle.slon_base.specs.Keeper.{key_cmp}
use Rattle.node_rows.specs.declared.rows.SetRow.{SetRow}
use Rattle.node_rows.specs.declared.rows.TableRow.{TableRow}
use Rattle.slon_model.specs.Maps.{Map, entry_at}
use Rattle.slon_model.specs.Config.{Config, live_set, leads_row, member_of}
use Rattle.node_state.specs.declared.memory.Member.{Member}
use Rattle.node_state.specs.declared.memory.Members.{Members}
use Rattle.node_state.specs.Known.{member_as, is_used}

-- tables by their names, and names
abbrev pub MemberMap : Type 0
MemberMap = FinMap key_cmp Member

abbrev pub NameMap : Type 0
NameMap = FinMap key_cmp (Unit {0})

-- what is known of the cluster as far as these rows say it
abbrev pub config_of : Map SetRow → Map TableRow → Config
config_of sets tables =
    record { nodes = []; paths = []; sets = sets; tables = tables; subscriptions = []; fences = [] }

-- the member of this name
abbrev pub member_in : ℕ → Config → List ℕ → Option Member
member_in own c name = option_map (member_as own c) (member_of name c)

-- these are the members of all names, and all names of tables
pub record AreThose (own : ℕ) (c : Config) (members : Members) : Type 0 where
  pub live : (name : List ℕ) → get members.live name ≡ member_in own c name
  pub names : (name : List ℕ) → is_some (get members.names name) ≡ is_used name c

-- whether the node is the origin of a set, if the set is live
abbrev pub leading : ℕ → Option SetRow → Option Bool
leading own row = option_map (λ r. r.origin == own) (live_set row)

abbrev pub flat : {X : Type 0} → Option (Option X) → Option X
flat None = None
flat (Some o) = o

-- the map says of each set whether the node is its origin
abbrev pub AreLeads : ℕ → Map SetRow → BTreeMap ℕ (Option Bool) → Type 0
AreLeads own sets leads = (set : ℕ) → flat (by_id.get nat_cmp leads set) ≡ leading own (entry_at set sets)

-- the member of this name that one table is
abbrev pub member_by : ℕ → Map SetRow → ℕ × TableRow → List ℕ → Option Member
member_by own sets e name =
    let set = live_set (entry_at e.1.set_id sets) in
    if e.1.live && bytes_eq name e.1.name && is_some set
    then Some (record { table = e.0; set = e.1.set_id; leads = leads_row own set }) else None
