-- What a call promises of the value that it gives, where it gives one.
use Rattle.std.proofs.Common.{◌≡◌, Ok, Result, subst}
use Rattle.std.specs.Prelude.{IfOk}

pub at_ok : {T E : Type 0} (P : T → Type 0) (result : Result T E) (x : T) → result ≡ Ok x → IfOk result P → P x
at_ok P result x is on = subst (λ r. IfOk r P) is on
