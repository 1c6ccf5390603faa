-- Which rows are read of a node, and which of them are not in their form.
use Rattle.std.specs.Prelude.{◌≡◌, ◌⊎◌, ◌<◌, ◌^◌, ℕ, Bool, true, false, List, [], ◌∷◌, Option, Some, None, is_some}
use Rattle.std.specs.Option.{option_map}
use Rattle.std.specs.FinMap.{get, entries}
use Rattle.slon_base.specs.Keeper.{Store, after}
use Rattle.slon_base.specs.Codec.{number_bytes, text_bytes, AllAre}
use Rattle.store_rows.specs.Rows.{IsId}
use Rattle.store_rows.specs.Scan.{spelled_rows}
use Rattle.store_rows.specs.Space.{AllOf}
use Rattle.node_rows.specs.declared.rows.NodeRow.{NodeRow}
use Rattle.node_rows.specs.declared.rows.SetRow.{SetRow}
use Rattle.node_rows.specs.Spellings.{node_bytes, CanNode, set_bytes, CanSet, table_bytes, CanTable}
use Rattle.slon_model.specs.declared.fault.DbFault.{DbFault}
use Rattle.slon_model.specs.World.{halt_in}
use Rattle.set_config.specs.Holds.{pair_key}
use Rattle.node_state.specs.declared.memory.Identity.{Identity}
use Rattle.node_state.specs.declared.memory.Member.{Member}
use Rattle.node_state.specs.declared.memory.Members.{Members}
use Rattle.event_store.specs.Formed.{Lacks}
use Rattle.event_store.specs.Kept.{seen_view}
use Rattle.event_store.specs.Spellings.{view_bytes, CanView}
use Rattle.node_state.specs.Known.{CanIdentity}

-- ---- as a database comes up

-- the id and the cluster of a node stand in the meta numbers, or no id
pub record HasIdentity (m : Store) : Type 0 where
  pub identity : Option Identity
  pub formed : CanIdentity identity
  pub id : get (m 1) (4 ∷ []) ≡ option_map (λ i. number_bytes i.id) identity
  pub cluster : (i : Identity) → identity ≡ Some i → get (m 1) (5 ∷ []) ≡ Some (text_bytes i.cluster)

-- all pairs of a space behind the empty key are rows of this kind, by their ids
pub record AreRowsOf {X : Type 0} (value : X → List ℕ) (Can : X → Type 0) (space : ℕ) (m : Store) : Type 0 where
  pub found : List (ℕ × X)
  pub can : AllAre (λ e. IsId e.0 × Can e.1) found
  pub spelled : after [] (entries (m space)) ≡ spelled_rows [] number_bytes value found

-- an id of a node stands there
abbrev pub is_node : Store → Bool
is_node m = is_some (get (m 1) (4 ∷ []))

-- the sets are read, and then the tables of sets
abbrev pub HandedSets : Store → ℕ → Type 0
HandedSets m space =
    Lacks 6 (AreRowsOf set_bytes CanSet 6 m) space
    ⊎ (AreRowsOf set_bytes CanSet 6 m × Lacks 7 (AreRowsOf table_bytes CanTable 7 m) space)

-- the identity is read; of a node the sets too, and then the tables of sets
abbrev pub HandedNode : Store → ℕ → Type 0
HandedNode m space =
    Lacks 1 (HasIdentity m) space
    ⊎ (HasIdentity m × (is_node m ≡ true) × HandedSets m space)

-- ---- as a row of a table is to be written

-- the row of a set, or nothing
pub record IsSet (entry : Option (List ℕ)) : Type 0 where
  pub row : Option SetRow
  pub can : AllOf CanSet row
  pub spelled : entry ≡ option_map set_bytes row

-- of a table in a set of which the node is the origin the set is read, if the node does not receive it
pub record HandedSet (members : Members) (table : List ℕ) (m : Store) (space : ℕ) : Type 0 where
  pub member : Member
  pub found : get members.live table ≡ Some member
  pub received : get (m 9) (number_bytes member.set) ≡ None
  pub leads : member.leads ≡ true
  pub misspelled : Lacks 6 (IsSet (get (m 6) (number_bytes member.set))) space

-- nothing in the store keeps an application from writing a table: the node does not receive its set, and where it is
-- the origin of the set, no row says that the set is locked
pub record IsOpenTo (members : Members) (table : List ℕ) (m : Store) : Type 0 where
  pub sent : (member : Member) → get members.live table ≡ Some member → get (m 9) (number_bytes member.set) ≡ None
  pub unlocked : (member : Member) → get members.live table ≡ Some member → member.leads ≡ true →
      (row : SetRow) → CanSet row → get (m 6) (number_bytes member.set) ≡ Some (set_bytes row) →
      row.locked ≡ false

-- what was found says whether it is so
abbrev pub IsOpenAs : Members → List ℕ → Store → Option DbFault → Type 0
IsOpenAs members table m None = IsOpenTo members table m
IsOpenAs members table m (Some fault) = IsOpenTo members table m → ⊥

-- a refusal is no halt
abbrev pub IsPlain : Option DbFault → Type 0
IsPlain None = Unit {0}
IsPlain (Some fault) = halt_in fault ≡ None

-- ---- as its status is told

-- one byte from 0 to 3
pub record IsLogByte (entry : Option (List ℕ)) : Type 0 where
  pub status : ℕ
  pub small : status < 4
  pub spelled : entry ≡ Some (status ∷ [])

-- a number, or nothing
pub record IsCount (entry : Option (List ℕ)) : Type 0 where
  pub number : Option ℕ
  pub small : AllOf (λ n. n < 2 ^ 63) number
  pub spelled : entry ≡ option_map number_bytes number

-- how far the node of this id is in the stream of a node
abbrev pub HasCount : ℕ → Store → ℕ → Type 0
HasCount own m node = IsCount (get (m 11) (pair_key (node, own)))

-- one of these rows is that of the node, and says that it is live
abbrev pub IsLiveIn : List (ℕ × NodeRow) → ℕ → Type 0
IsLiveIn [] node = ⊥
IsLiveIn (e ∷ es) node = ((node ≡ e.0) × (e.1.live ≡ true)) ⊎ IsLiveIn es node

-- how far the node is in the stream of each live one of these is read
abbrev pub HandedCounts : ℕ → List (ℕ × NodeRow) → Store → ℕ → Type 0
HandedCounts own rows m space = (node : ℕ) × IsLiveIn rows node × Lacks 11 (HasCount own m node) space

-- the nodes are read, and how far the node is in the stream of each live one
abbrev pub HandedProgress : ℕ → Store → ℕ → Type 0
HandedProgress own m space =
    Lacks 4 (AreRowsOf node_bytes CanNode 4 m) space
    ⊎ ((rows : AreRowsOf node_bytes CanNode 4 m) × HandedCounts own rows.found m space)

-- what the node keeps of sets
abbrev pub AreViews : Store → Type 0
AreViews m = AreRowsOf (λ v. view_bytes (seen_view v)) (λ v. CanView (seen_view v)) 9 m

-- that is read, and then how far the node is
abbrev pub HandedKept : ℕ → Store → ℕ → Type 0
HandedKept own m space = Lacks 9 (AreViews m) space ⊎ (AreViews m × HandedProgress own m space)

-- the status of the log is read, and then the rest
abbrev pub HandedStatus : ℕ → Store → ℕ → Type 0
HandedStatus own m space =
    Lacks 1 (IsLogByte (get (m 1) (6 ∷ []))) space
    ⊎ (IsLogByte (get (m 1) (6 ∷ [])) × HandedKept own m space)
