use Rattle.std.proofs.Common.{Err, refl, subst}
use Rattle.slon_model.specs.Deeds.{knowledge}
use Rattle.app_store.specs.Base.{base_of}
use Rattle.remote_worker.specs.Loading.{IsStill}
use Rattle.slonik_exec.proofs.Telling.{not_short}
use Rattle.slonik_exec.proofs.Works.{replied}
use Rattle.slon_turns.proofs.Recalling.{fell_ends}
use Rattle.slon_turns.proofs.planning.recall.Goals as goal

pub returns-in-Ok-clause-recalls : goal.returns-in-Ok-clause-recalls
returns-in-Ok-clause-recalls g c p n ready is =
    let look = c.in-Ok.ensures.looks p ready refl in (
      subst (λ l. IsStill (knowledge n) l c.in-Ok.fetched.state.load) c.with.ensures.load_is (look.0 n is),
      look.1,
    )

pub returns-in_ok-told-in-Err-clause-runs : goal.returns-in_ok-told-in-Err-clause-runs
returns-in_ok-told-in-Err-clause-runs g c =
    let kept = g.K.Keeper.kept in
    replied (Err c.in-Err.fault) (base_of kept c.args.own.now.database) (base_of kept c.still.new.own)
    c.in_ok-told-in-Err.ensures.reply c.in-Err.ensures.acts

pub returns-in_ok-told-in-Err-clause-recalls : goal.returns-in_ok-told-in-Err-clause-recalls
returns-in_ok-told-in-Err-clause-recalls g c p n ready is =
    let full = not_short c.told.result c.in_ok-told-in-Err.field-0 c.in-Err.fault c.in_ok-told-in-Err.was
    c.told.ensures.memory in
    fell_ends (c.in-Err.ensures.looks p ready full) c.in_ok-told-in-Err.ensures.reply
