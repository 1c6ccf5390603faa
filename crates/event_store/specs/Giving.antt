-- What a new node is given of the streams, row by row.
use Rattle.std.specs.Prelude.{◌≡◌, ℕ, ◌==◌, ◌||◌, if◌then◌else◌, List, [], ◌∷◌, Option, Some, None}
use Rattle.std.specs.FinMap.{get, entries}
use Rattle.slon_base.specs.Codec.{number_bytes, AllAre}
use Rattle.slon_base.specs.Keeper.{Store, after, put_at, del_at}
use Rattle.store_rows.specs.Scan.{ranged, spelled_rows}
use Rattle.slon_model.specs.Maps.{pair_at}
use Rattle.set_config.specs.Holds.{AreIds, pair_key}
use Rattle.event_store.specs.Spellings.{IsStored}
use Rattle.event_store.specs.Streams.{Streams}

-- a row of how far a node is in the stream of an origin, by these two
abbrev pub Confirmation : Type 0
Confirmation = (ℕ × ℕ) × ℕ

abbrev pub IsConfirmation : Confirmation → Type 0
IsConfirmation r = AreIds r.0 × IsStored r.1

-- all pairs of the space of confirmations are such rows
pub record AreConfirmations (m : Store) : Type 0 where
  pub rows : List Confirmation
  pub can : AllAre IsConfirmation rows
  pub spelled : ranged [] (after [] (entries (m 11))) ≡ spelled_rows [] pair_key number_bytes rows

-- no other node told it how far it is itself
abbrev pub HearsOfOthers : Streams → Type 0
HearsOfOthers s = (origin : ℕ) → pair_at origin s.own s.told ≡ None

-- ---- one row, and another

-- at a key the row becomes this one, or none is left there
abbrev pub Turn : Type 0
Turn = Option ((ℕ × ℕ) × Option ℕ)

abbrev pub turned : Turn → Store → Store
turned None m = m
turned (Some (i, None)) m = del_at 11 (pair_key i) m
turned (Some (i, Some n)) m = put_at 11 (pair_key i) (number_bytes n) m

-- the turns of these rows, one after the other
abbrev pub all_turned : (Confirmation → Turn) → List Confirmation → Store → Store
all_turned turn [] m = m
all_turned turn (r ∷ rs) m = all_turned turn rs (turned (turn r) m)

-- confirmations of a node by itself are none, nor are those of the new node
abbrev pub forgets : ℕ → Confirmation → Turn
forgets new r = if r.0.1 == new || r.0.1 == r.0.0 then Some (r.0, None) else None

-- as far as the node of the copied store is, the new node is
abbrev pub passes : ℕ → ℕ → Confirmation → Turn
passes own new r = if r.0.1 == own then Some ((r.0.0, new), Some r.1) else None

-- ---- a space without pairs

-- the pairs of this space are gone, but for one whose key has no byte
pub record IsCleared (space : ℕ) (m n : Store) : Type 0 where
  pub gone : after [] (entries (n space)) ≡ []
  pub within : (q v : List ℕ) → get (n space) q ≡ Some v → get (m space) q ≡ Some v
  pub others : (other : ℕ) → (other ≡ space → ⊥) → n other ≡ m other
