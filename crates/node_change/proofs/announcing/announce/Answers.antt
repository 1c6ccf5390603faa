use Rattle.std.proofs.Common.{sym}
use Rattle.std.proofs.lemmas.Result.{err_from_is_err_and}
use Rattle.store_rows.proofs.Spaces.{pending_as}
use Rattle.slon_model.specs.Deeds.{knowledge}
use Rattle.event_store.specs.Streams.{streams_of}
use Rattle.node_change.proofs.Emitting.{emission, emit_stops, change_stops}
use Rattle.node_change.proofs.Meeting.{shows_streams, shows_config}
use Rattle.node_change.proofs.announcing.announce.Goals as goal

pub returns-in_err-number-clause-turns : goal.returns-in_err-number-clause-turns
returns-in_err-number-clause-turns g c n m own is held home =
    let old = g.K.Keeper.kept c.args.keeper.now in
    let result = c.from_residual.result in
    emit_stops n m _ old (g.K.Keeper.kept c.emit.new.keeper) result
    (err_from_is_err_and result c.from_residual.ensures.1)
    (c.in_err-number.ensures.turns m (streams_of n) own (shows_streams is held))

pub returns-in_err-change-clause-turns : goal.returns-in_err-change-clause-turns
returns-in_err-change-clause-turns g c n m own is held home =
    let old = g.K.Keeper.kept c.args.keeper.now in
    let result = c.from_residual-in_err-change.result in
    let emits = c.in_ok-number.ensures.turns m (streams_of n) own (shows_streams is held) in
    let p = shows_config held emits.2 in
    change_stops n m _ old (g.K.Keeper.kept c.change.new.keeper) result
    (err_from_is_err_and result c.from_residual-in_err-change.ensures.1)
    (c.in_err-change.ensures.turns emits.2.store (knowledge n).config p)

pub returns-clause-turns : goal.returns-clause-turns
returns-clause-turns g c n m own is held home =
    let emits = c.in_ok-number.ensures.turns m (streams_of n) own (shows_streams is held) in
    let p = shows_config held emits.2 in (
      emits.0,
      emits.1,
      pending_as (λ new shows. emission (record {
        held = held;
        own = sym own;
        next = emits.0;
        small = emits.1;
        keeps = c.requires.keeps;
        can = c.requires.can.1;
        home = home;
        streams = emits.2.has;
        config = shows;
      })) (c.in_ok-change.ensures.turns emits.2.store (knowledge n).config p),
    )
