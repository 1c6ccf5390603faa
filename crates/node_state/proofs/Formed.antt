-- What is read, and what is not in its form.
use Rattle.std.proofs.Common.{ℕ, Result, Ok, Err}
use Rattle.std.specs.Prelude.{IfOk, OnOk}
use Rattle.store_rows.specs.declared.stop.Stop.{Stop}
pub use Rattle.event_store.proofs.Formed.{none_lacks, stops_at, stops_as, passes_on, gives_stop}
use Rattle.event_store.specs.Formed.{Reads}

-- the same is handed to the caller
pub reads_as : {T : Type 0} (few many : ℕ → Type 0) (result : Result T Stop) →
    ((space : ℕ) → few space → many space) → ((space : ℕ) → many space → few space) → Reads few result →
    Reads many result
reads_as few many (Ok x) on back reads = λ space handed. reads space (back space handed)
reads_as few many (Err stop) on back reads = stops_as few many stop on reads

-- a value that has a property has another one
pub if_ok : {T E : Type 0} (P Q : T → Type 0) (result : Result T E) → ((x : T) → P x → Q x) → IfOk result P →
    IfOk result Q
if_ok P Q (Ok x) on ok = on x ok
if_ok P Q (Err e) on ok = tt

pub on_ok : {T E : Type 0} (P Q : Type 0) (result : Result T E) → (P → Q) → OnOk result P → OnOk result Q
on_ok P Q (Ok x) on ok = on ok
on_ok P Q (Err e) on ok = tt

-- what holds anyway
pub on_any : {T E P : Type 0} (result : Result T E) → P → OnOk result P
on_any (Ok x) p = p
on_any (Err e) p = tt
