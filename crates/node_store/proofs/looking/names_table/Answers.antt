use Rattle.std.proofs.Common.{◌∙◌, refl, arith}
use Rattle.node_state.specs.Known.{is_named}
use Rattle.std.proofs.Common.{ap}
use Rattle.app_store.proofs.Upright.{up_at, running}
use Rattle.node_store.proofs.Lookups.{look_fits}
use Rattle.node_store.proofs.looking.names_table.Goals as goal

pub returns-clause-looks : goal.returns-clause-looks
returns-clause-looks g c p ready memory =
    let at = up_at ready c.requires.up in (
      λ n is. c.names.ensures ∙ (running at).1.known.names_are c.args.name.now ∙ ap (is_named c.args.name.now) is,
      look_fits at (record { held = refl; later = omega arith; memory = refl }),
    )
