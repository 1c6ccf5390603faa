use Rattle.std.proofs.Common.{arith}
use Rattle.std.proofs.lemmas.Result.{err_from_is_err_and}
use Rattle.store_rows.proofs.Spaces.{pending_same, sees}
use Rattle.event_store.proofs.Formed.{outside_below}
use Rattle.event_store.proofs.Emitting.{next_of, emits_stop}
use Rattle.event_store.proofs.streams.emit.Goals as goal

pub returns-in_err-write_event-clause-turns : goal.returns-in_err-write_event-clause-turns
returns-in_err-write_event-clause-turns g c base s own p =
    let result = c.from_residual-in_err-write_event.result in
    emits_stop base s _ (g.K.Keeper.kept c.args.keeper.now) (g.K.Keeper.kept c.write_event.new.keeper) result
    (err_from_is_err_and result c.from_residual-in_err-write_event.ensures.1)
    c.in_err-write_event.ensures.only

pub returns-in_err-write_event-clause-form : goal.returns-in_err-write_event-clause-form
returns-in_err-write_event-clause-form g c m seen =
    let result = c.from_residual-in_err-write_event.result in
    outside_below _ result (err_from_is_err_and result c.from_residual-in_err-write_event.ensures.1)
    c.in_err-write_event.ensures.only

pub returns-clause-turns : goal.returns-clause-turns
returns-clause-turns g c base s own p =
    let last = c.in_ok-progress.ensures.says p.store s (sees p) own p.has.streams in (
      next_of s c.args.own _ _ own last c.unwrap_or-number.ensures,
      omega (arith, c.if-number-gt-STORED_LIMIT.false),
      c.in_ok-write_event.ensures.turns base s own (pending_same p c.in_ok-progress.ensures.same),
    )
