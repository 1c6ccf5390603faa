-- Whether there is a row.
use Rattle.std.proofs.Common.{◌≡◌, Bool, ◌∙◌}
use Rattle.std.specs.Prelude.{Result, Ok, Err, IfOk, IfErr}
use Rattle.store_rows.specs.declared.stop.Stop.{Stop}
use Rattle.store_rows.specs.Steps.{Gives, IsOutside}

pub gives_found : {x y : Bool} (result : Result Bool Stop) → IfOk result (λ found. found ≡ x) →
    IfErr result IsOutside → x ≡ y → Gives (λ found. found ≡ y) result
gives_found (Ok found) ok only same = ok ∙ same
gives_found (Err stop) ok only same = only
