use Rattle.std.proofs.Common.{◌∙◌, [], ◌∷◌, Option, Some, refl, ap}
use Rattle.std.proofs.lemmas.Result.{err_from_is_err_and}
use Rattle.std.specs.Option.{option_map}
use Rattle.slon_base.specs.Keeper.{Store, put_at}
use Rattle.store_rows.proofs.Causes.{outside_within}
use Rattle.node_store.proofs.Midways.{midway_begun, midway_on, breaks_on, enters_as}
use Rattle.node_store.proofs.writing.write_events.Goals as goal

pub returns-in_err-put_pair-in-Ok-clause-enters : goal.returns-in_err-put_pair-in-Ok-clause-enters
returns-in_err-put_pair-in-Ok-clause-enters g c =
    let put = c.in_err-put_pair-in-Ok.ensures in
    enters_as _ _ c.from_residual-in_err-put_pair-in-Ok.result
    (err_from_is_err_and c.from_residual-in_err-put_pair-in-Ok.result
    c.from_residual-in_err-put_pair-in-Ok.ensures.1)
    (breaks_on _ (midway_on (midway_begun c.in_ok-begin.ensures) c.in-Ok.ensures.safe) put.safe
    (outside_within _ put.only) refl)

pub returns-in-Ok-clause-writes : goal.returns-in-Ok-clause-writes
returns-in-Ok-clause-writes g c e told held =
    let emits = c.in-Ok.ensures.emits e told (c.in_ok-begin.ensures.opened ∙ ap (λ h. Some h) held) in
    let put = c.in_ok-put_pair-in-Ok.ensures in (
      emits.store,
      put.put
          ∙ ap (λ (q : Option (Option Store)). option_map (option_map (put_at 1 (1 ∷ []) c.as_slice.result.now)) q)
          emits.is
          ∙ ap (λ v. Some (Some (put_at 1 (1 ∷ []) v emits.store))) (c.as_slice.ensures ∙ c.in_ok-stamp.ensures),
      emits.has,
    )
