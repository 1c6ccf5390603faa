use Rattle.std.proofs.Common.{◌∙◌, filter, refl, ap, arith}
use Rattle.app_store.specs.Base.{base_of}
use Rattle.app_store.proofs.Pending.{sight-idle}
use Rattle.app_store.proofs.Upright.{up_at}
use Rattle.node_state.specs.Held.{seen_views}
use Rattle.node_store.proofs.Emitted.{held_node}
use Rattle.node_store.proofs.Lookups.{look_stops, look_fits}
use Rattle.node_store.proofs.Synced.{node_of}
use Rattle.remote_worker.specs.Standing.{stands_in}
use Rattle.remote_worker.proofs.standing.still_of.Goals as goal

pub returns-in_ok-kept_still-in-Ok-clause-looks : goal.returns-in_ok-kept_still-in-Ok-clause-looks
returns-in_ok-kept_still-in-Ok-clause-looks g c p ready memory =
    let b = base_of g.K.Keeper.kept c.args.own.now in
    let at = up_at ready c.requires.up in
    let seen = sight-idle b.kept (c.args.own.now.idle c.requires.up) ∙ ready.fits.held.1 in (
      λ n is.
          c.in_ok-kept_still-in-Ok.ensures.is
          ∙ ap (λ vs. filter (stands_in vs) c.args.fetches) (ap seen_views c.as_slice.ensures.value
          ∙ c.in-Ok.ensures.says ready.fits.held.0 n seen (held_node n at is)),
      look_fits at (record {
        held = c.in-Ok.ensures.safe.held;
        later = c.in-Ok.ensures.safe.later;
        memory = refl;
      }),
    )

pub returns-in-Err-clause-looks : goal.returns-in-Err-clause-looks
returns-in-Err-clause-looks g c p ready memory =
    let b = base_of g.K.Keeper.kept c.args.own.now in
    let at = up_at ready c.requires.up in
    let seen = sight-idle b.kept (c.args.own.now.idle c.requires.up) ∙ ready.fits.held.1 in
    let here = node_of at c.requires.node in
    look_stops at (record {
      held = c.in-Err.ensures.safe.held;
      down = c.fall.ensures.down;
      rose = λ failed. c.in-Err.ensures.safe.rises failed _ (omega arith);
      fault_is = c.fall.ensures.fault;
    }) memory (c.in-Err.ensures.says ready.fits.held.0 here.0 seen (held_node here.0 at here.1))
