use Rattle.std.proofs.Common.{◌≡◌, ◌∙◌, ◌∷◌, [], Some, refl, sym}
use Rattle.log_switch.proofs.switch.status.Goals as goal

pub returns-in-Some-clause-gives : goal.returns-in-Some-clause-gives
returns-in-Some-clause-gives g c m status seen small is =
    let same : Some c.in-Some.bytes ≡ Some (status ∷ []) =
    sym c.in-Some.is ∙ c.in_ok-bytes.ensures.gives m seen ∙ is in
    let bytes : c.in-Some.bytes ≡ status ∷ [] = cc in
    rw (c.read_status.ensures.again status small (c.as_slice.ensures ∙ bytes)) refl
