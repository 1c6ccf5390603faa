use Rattle.std.proofs.Common.{◌∙◌, ap, Some, subst}
use Rattle.slon_model.specs.Deeds.{knowledge}
use Rattle.slon_model.specs.Place.{is_running}
use Rattle.app_store.proofs.Upright.{up_at, running}
use Rattle.remote_worker.specs.Fetching.{IsLed}
use Rattle.remote_worker.specs.Working.{seen_copying}
use Rattle.remote_worker.proofs.Finding.{given_led, given_other}
use Rattle.remote_worker.proofs.Looking.{seen_as_is, seen_each, seen_fails, seen_then}
use Rattle.remote_worker.proofs.fetching.given_by.Goals as goal

pub returns-in_ok-stored_snapshot-in-Ok-true-clause-looks : goal.returns-in_ok-stored_snapshot-in-Ok-true-clause-looks
returns-in_ok-stored_snapshot-in-Ok-true-clause-looks g c =
    let a = seen_copying c.args.copying in
    let up = ap (λ m. m.up) c.in-Ok-true.ensures.same ∙ c.requires.up in
    let seen = c.in_ok-stored_snapshot-in-Ok-true in
    seen_as_is (Some seen.field-0) (λ q here led. given_led a q seen.field-0
    (seen.ensures.taken q here (ap is_running (running (up_at here up)).0))
    (λ k there. subst (IsLed a (knowledge k).config) c.in-Ok-true.field-0-test (led k there))) c.in-Ok-true.ensures

pub returns-in-Ok-false-clause-looks : goal.returns-in-Ok-false-clause-looks
returns-in-Ok-false-clause-looks g c =
    let a = seen_copying c.args.copying in
    seen_each c.forwarded.result (λ q found both. given_other a q found (λ k there.
    subst (IsLed a (knowledge k).config) c.in-Ok-false.field-0-test (both.0 k there)) both.1)
    (seen_then c.forwarded.result c.in-Ok-false.ensures c.forwarded.ensures.looks)

pub returns-in-Err-clause-looks : goal.returns-in-Err-clause-looks
returns-in-Err-clause-looks g c = seen_fails c.in-Err.ensures
