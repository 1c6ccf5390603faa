-- What holds of the value of an option.
use Rattle.std.proofs.Common.{◌≡◌, Option, Some, None, refl, sym, ◌∙◌}
use Rattle.std.specs.Option.{IfSome}
use Rattle.std.proofs.lemmas.Option.{none-some}

pub if_some : {X : Type 0} (P : X → Type 0) (o : Option X) → ((x : X) → o ≡ Some x → P x) → IfSome o P
if_some P None each = tt
if_some P (Some x) each = each x refl

-- an option has no value, or has one
pub not_both : {X Y : Type 0} (o : Option Y) (y : Y) → o ≡ None → o ≡ Some y → X
not_both o y none some = absurd (none-some y (sym none ∙ some))
