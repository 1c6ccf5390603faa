use Rattle.std.proofs.Common.{◌≡◌, Some, refl, sym, subst}
use Rattle.slon_model.specs.Deeds.{knowledge}
use Rattle.remote_worker.specs.declared.loading.Load.TheVariants.{Syncs}
use Rattle.remote_worker.specs.Loading.{IsStill}
use Rattle.remote_worker.proofs.Left.{syncs_still}
use Rattle.remote_worker.proofs.standing.left_of.Goals as goal

pub returns-in_ok-still_of-in-Some-Syncs-clause-looks :
    goal.returns-in_ok-still_of-in-Some-Syncs-clause-looks
returns-in_ok-still_of-in-Some-Syncs-clause-looks g c p ready memory =
    let fetches = c.in-Some-Syncs.fetches in
    let left = c.in_ok-still_of-in-Some-Syncs.field-0 in
    let found = c.in_ok-still_of-in-Some-Syncs.ensures.looks p ready refl in
    let some = c.in-Some-Syncs.is in
    let load = c.in-Some-Syncs.field-0-is in
    let inside = c.in-Some-Syncs.fetches-is in
    let is : c.args.load ≡ Some (Syncs fetches) = cc in (
      λ n node. subst (λ l. IsStill (knowledge n) l (Some (Syncs left))) (sym is)
          (syncs_still (knowledge n) fetches left (found.0 n node)),
      found.1,
    )
