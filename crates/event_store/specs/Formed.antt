-- What is in its form in a store, and what is read of it.
use Rattle.std.specs.Prelude.{◌≡◌, ℕ, List, Option, Result, Ok, Err}
use Rattle.std.specs.Option.{option_map}
use Rattle.std.specs.FinMap.{get}
use Rattle.slon_base.specs.Codec.{number_bytes}
use Rattle.slon_base.specs.Keeper.{Store}
use Rattle.store_rows.specs.Space.{AllOf}
use Rattle.store_rows.specs.declared.stop.Stop.{Stop}
use Rattle.store_rows.specs.declared.stop.Stop.TheVariants.{Failed, NoMemory, BadRow, TooBig}
use Rattle.set_config.specs.Holds.{pair_key}
use Rattle.event_store.specs.Spellings.{IsStored, event_bytes, CanEvent}

-- a row of this kind, or nothing
pub record IsRow {X : Type 0} (value : X → List ℕ) (Can : X → Type 0) (entry : Option (List ℕ)) : Type 0 where
  pub row : Option X
  pub can : AllOf Can row
  pub spelled : entry ≡ option_map value row

-- how far this node is in the stream of this origin
abbrev pub HasProgress : ℕ → ℕ → Store → Type 0
HasProgress own origin m = IsRow number_bytes IsStored (get (m 11) (pair_key (origin, own)))

-- the event of this origin with this number
abbrev pub HasEvent : ℕ → ℕ → Store → Type 0
HasEvent origin number m = IsRow event_bytes CanEvent (get (m 10) (pair_key (origin, number)))

-- what stands in this space is not in its form
abbrev pub Lacks : ℕ → Type 0 → ℕ → Type 0
Lacks space IsFormed other = (other ≡ space) × (IsFormed → ⊥)

-- work stopped at a row that is not in its form only where it was handed one
abbrev pub StopsAt : (ℕ → Type 0) → Stop → Type 0
StopsAt handed Failed = Unit {0}
StopsAt handed NoMemory = Unit {0}
StopsAt handed (BadRow space) = handed space
StopsAt handed (TooBig space) = ⊥

-- and where it went on it was handed none
abbrev pub Reads : {T : Type 0} → (ℕ → Type 0) → Result T Stop → Type 0
Reads handed (Ok x) = (space : ℕ) → handed space → ⊥
Reads handed (Err stop) = StopsAt handed stop

-- the same of work that also stops where a number would be above the limit
abbrev pub ReadsBelow : {T : Type 0} → (ℕ → Type 0) → Result T Stop → Type 0
ReadsBelow handed (Ok x) = (space : ℕ) → handed space → ⊥
ReadsBelow handed (Err (TooBig other)) = (space : ℕ) → handed space → ⊥
ReadsBelow handed (Err stop) = StopsAt handed stop
