use Rattle.std.proofs.Common.{◌∙◌, refl, sym, subst, arith}
use Rattle.app_store.specs.Base.{base_of}
use Rattle.app_store.proofs.Pending.{sight-idle}
use Rattle.app_store.proofs.Upright.{up_at}
use Rattle.node_store.proofs.Emitted.{held_node}
use Rattle.node_store.proofs.Lookups.{look_stops, look_fits}
use Rattle.node_store.proofs.Synced.{node_of}
use Rattle.remote_listener.specs.Asking.{Hands}
use Rattle.remote_listener.proofs.listener.Listener+Linked.ask.Goals as goal

pub returns-in-Ok-clause-looks : goal.returns-in-Ok-clause-looks
returns-in-Ok-clause-looks g c p ready memory =
    let b = base_of g.K.Keeper.kept c.args.server.now in
    let at = up_at ready c.requires.up in
    let seen = sight-idle b.kept (c.args.server.now.idle c.requires.up) ∙ ready.fits.held.1 in (
      λ n is. subst (Hands c.args.self.node c.args.self.state.wants n) (sym c.hold.ensures.handed)
          (subst (λ ws. Hands c.args.self.node ws n c.in-Ok.found) c.as_slice-wants.ensures.value
          (c.in-Ok.ensures.says ready.fits.held.0 n seen (held_node n at is))),
      look_fits at (record {
        held = c.in-Ok.ensures.safe.held;
        later = c.in-Ok.ensures.safe.later;
        memory = refl;
      }),
    )

pub returns-clause-looks : goal.returns-clause-looks
returns-clause-looks g c p ready memory =
    let b = base_of g.K.Keeper.kept c.args.server.now in
    let at = up_at ready c.requires.up in
    let seen = sight-idle b.kept (c.args.server.now.idle c.requires.up) ∙ ready.fits.held.1 in
    look_stops at (record {
      held = c.in-Err.ensures.safe.held;
      down = c.fall.ensures.down;
      rose = λ failed. c.in-Err.ensures.safe.rises failed _ (omega arith);
      fault_is = c.fall.ensures.fault;
    }) memory
    (let here = node_of at c.requires.node in
    c.in-Err.ensures.says ready.fits.held.0 here.0 seen (held_node here.0 at here.1))
