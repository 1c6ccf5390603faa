use Rattle.std.proofs.Common.{arith}
use Rattle.std.proofs.lemmas.Result.{err_from_is_err_and}
use Rattle.store_rows.proofs.Putting.{puts_on, puts_within}
use Rattle.store_rows.proofs.Spaces.{hands_stop}
use Rattle.event_store.proofs.writing.write_event.Goals as goal

pub returns-in_err-put_event-clause-turns : goal.returns-in_err-put_event-clause-turns
returns-in_err-put_event-clause-turns g c base s own p =
    hands_stop _ _ c.from_residual.result (err_from_is_err_and c.from_residual.result c.from_residual.ensures.1)
    (c.in_err-put_event.ensures.turns base s p)

pub returns-in_err-put_progress-clause-turns : goal.returns-in_err-put_progress-clause-turns
returns-in_err-put_progress-clause-turns g c base s own p =
    let result = c.from_residual-in_err-put_progress.result in
    hands_stop _ _ result (err_from_is_err_and result c.from_residual-in_err-put_progress.ensures.1)
    (c.in_err-put_progress.ensures.turns base _ own (c.in_ok-put_event.ensures.turns base s p))

pub returns-clause-turns : goal.returns-clause-turns
returns-clause-turns g c base s own p =
    c.put_news.ensures.turns base _
    (c.in_ok-put_progress.ensures.turns base _ own (c.in_ok-put_event.ensures.turns base s p))

pub returns-in_err-put_event-clause-puts : goal.returns-in_err-put_event-clause-puts
returns-in_err-put_event-clause-puts g c = puts_within 1 3 c.in_err-put_event.ensures.puts (omega arith)

pub returns-in_err-put_progress-clause-puts : goal.returns-in_err-put_progress-clause-puts
returns-in_err-put_progress-clause-puts g c =
    puts_on 1 1 3 c.in_ok-put_event.ensures.puts c.in_err-put_progress.ensures.puts (omega arith)

pub returns-clause-puts : goal.returns-clause-puts
returns-clause-puts g c =
    puts_on 2 1 3 (puts_on 1 1 2 c.in_ok-put_event.ensures.puts c.in_ok-put_progress.ensures.puts (omega arith))
    c.put_news.ensures.puts (omega arith)
