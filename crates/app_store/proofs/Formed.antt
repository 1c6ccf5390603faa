-- What is read, and what is not in its form.
use Rattle.std.proofs.Common.{◌≡◌, ℕ, List, Option, Some, None, subst, inl, inr}
use Rattle.slon_base.specs.Codec.{text_bytes}
pub use Rattle.event_store.proofs.Formed.{none_lacks, stops_at, stops_as, passes_on}
use Rattle.app_store.specs.Formed.{IsNumber, IsCeiling, AreNumbers, NumbersStand, AreListed, Lacks}
use Rattle.app_store.specs.Formed.{HandedList, columns_at}
use Rattle.app_store.specs.Spelled.{meta, tables, rows, stamp_key}
use Rattle.app_store.specs.Works.{AreSmall}
use Rattle.app_store.specs.declared.look.Numbers.{Numbers}
use Rattle.std.specs.FinMap.{get}
use Rattle.slon_base.specs.Keeper.{Store}

-- a ceiling is a number
pub number_of : {entry : Option (List ℕ)} → IsCeiling entry → IsNumber entry
number_of ceiling = record { number = Some ceiling.number; small = ceiling.small; spelled = ceiling.spelled }

-- the stamp is a number, if there is one
pub stamp_of : {m : Store} → AreNumbers m → IsNumber (get (m meta) stamp_key)
stamp_of {m} are = of are.numbers are.small are.stand
  where
    of : (numbers : Option Numbers) → AreSmall numbers → NumbersStand m numbers → IsNumber (get (m meta) stamp_key)
    of None small stand = record { number = None; small = tt; spelled = stand }
    of (Some n) small stand = record { number = Some n.stamp; small = small.0; spelled = stand.0 }

-- the number of columns of a table, by its spelled name
pub reads_of : (table : List ℕ) (m : Store) {name : List ℕ} → name ≡ text_bytes table →
    ((space : ℕ) → Lacks tables (IsNumber (get (m tables) name)) space → ⊥) →
    (space : ℕ) → Lacks tables (IsNumber (columns_at table m)) space → ⊥
reads_of table m is none space lacks = none space (
  lacks.0,
  λ formed. lacks.1 (subst
      (λ k. IsNumber (get (m tables) k)) is formed),
)

-- the same, and its rows
pub listed_none : (table : List ℕ) (m : Store) {first second : List ℕ} → first ≡ text_bytes table → second ≡
    text_bytes table →
    ((space : ℕ) → Lacks tables (IsNumber (get (m tables) first)) space → ⊥) →
    ((space : ℕ) → Lacks rows (AreListed second m) space → ⊥) → (space : ℕ) → HandedList table m space → ⊥
listed_none table m is same none none_listed space (inl lacks) = reads_of table m is none space lacks
listed_none table m is same none none_listed space (inr (there, lacks)) =
    none_listed space (lacks.0, λ are. lacks.1 (subst (λ k. AreListed k m) same are))
