-- One kind of rows in one space.
use Rattle.std.specs.Prelude.{◌≡◌, ℕ, List, Option, Some, None, option_map, Result, Ok, Err}
use Rattle.std.specs.FinMap.{get, insert, remove}
use Rattle.slon_base.specs.Keeper.{Space, Store, Kept}
use Rattle.store_rows.specs.declared.stop.Stop.{Stop}
use Rattle.store_rows.specs.Steps.{IsOutside}

-- what stands, if something does, has this property
abbrev pub AllOf : {X : Type 0} → (X → Type 0) → Option X → Type 0
AllOf Can None = Unit {0}
AllOf Can (Some x) = Can x

-- every value
abbrev pub Any : {X : Type 0} → X → Type 0
Any x = Unit {0}

-- The space has at each key of a kind the spelling of what stands there, which can be spelled, and it has no other key.
pub record IsSpace {I X : Type 0} (key : I → List ℕ) (IsOne : I → Type 0) (value : X → List ℕ) (Can : X → Type 0)
    (entry : I → Option X) (space : Space) : Type 0 where
  pub lookups : (i : I) → IsOne i → get space (key i) ≡ option_map value (entry i)
  pub spelled : (i : I) → IsOne i → AllOf Can (entry i)
  pub keys : (q v : List ℕ) → get space q ≡ Some v → (i : I) × IsOne i × (q ≡ key i)

-- another value at one key, or none
abbrev pub written : Option (List ℕ) → List ℕ → Space → Space
written None key space = remove space key
written (Some value) key space = insert space key value

-- what stands is changed at one key
pub record Alters {I X : Type 0} (IsOne : I → Type 0) (i : I) (now : Option X) (old new : I → Option X) : Type 0 where
  pub here : new i ≡ now
  pub there : (j : I) → IsOne j → (j ≡ i → ⊥) → new j ≡ old j

-- a store is pending that has this property
pub record IsPending (P : Store → Type 0) (k : Kept) : Type 0 where
  pub store : Store
  pub is : k.pending ≡ Some (Some store)
  pub has : P store

-- what is pending has this property, or there was no memory, or the store failed
abbrev pub Becomes : {T : Type 0} → (Store → Type 0) → Kept → Result T Stop → Type 0
Becomes P new (Ok u) = IsPending P new
Becomes P new (Err stop) = IsOutside stop
