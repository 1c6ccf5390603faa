use Rattle.std.proofs.Common.{Err, refl}
use Rattle.app_store.specs.Base.{base_of}
use Rattle.slonik_exec.proofs.Telling.{not_short}
use Rattle.slonik_exec.proofs.Works.{replied}
use Rattle.slon_turns.proofs.Recalling.{fell_ends}
use Rattle.slon_turns.proofs.following.take_log.Goals as goal

pub returns-in-Ok-clause-gives : goal.returns-in-Ok-clause-gives
returns-in-Ok-clause-gives g c = (
  (c.in-Ok.ensures.acts, c.in-Ok.ensures.same),
  λ p n ready is past. let seen = c.in-Ok.ensures.looks p ready refl past in (seen.0 n is, seen.1),
)

pub returns-in_ok-told-in-Err : goal.returns-in_ok-told-in-Err
returns-in_ok-told-in-Err g c =
    let kept = g.K.Keeper.kept in
    let reply = c.in_ok-told-in-Err.field-0 in
    let fault = c.in-Err.fault in
    let told = c.in_ok-told-in-Err.ensures.reply in
    let full = not_short c.told.result reply fault c.in_ok-told-in-Err.was c.told.ensures.memory in
    record {
      can = tt;
      gives = (
        replied (Err fault) (base_of kept c.args.provider.now.database) (base_of kept c.fetch_run.new.provider) told
            c.in-Err.ensures.acts,
        λ p n ready is past. fell_ends (c.in-Err.ensures.looks p ready full past) told,
      );
      name = refl;
    }
