use Rattle.std.proofs.Common.{◌∙◌, ap, sym, arith, Ok}
use Rattle.slon_base.proofs.Spelled.{number_front, number_not_short}
use Rattle.slon_base.proofs.row.RowIn.u64.Goals as goal

pub returns-then-number-gt-STORED_LIMIT-clause-again :
    goal.returns-then-number-gt-STORED_LIMIT-clause-again
returns-then-number-gt-STORED_LIMIT-clause-again c n rest small is =
    let parts = number_front n c.in-Some.number rest c.in-Some.rest.now (omega arith) c.in-Some.ensures.found.0 (sym is
    ∙ sym c.self.view_is ∙ c.in-Some.ensures.found.1) in
    absurd (omega (arith, parts.0))

pub returns-in-None-clause-again : goal.returns-in-None-clause-again
returns-in-None-clause-again c n rest small is =
    absurd (number_not_short n rest _ (c.self.view_is ∙ is) c.in-None.ensures.short)

pub returns-else-number-gt-STORED_LIMIT-clause-again :
    goal.returns-else-number-gt-STORED_LIMIT-clause-again
returns-else-number-gt-STORED_LIMIT-clause-again c n rest small is =
    let parts = number_front c.in-Some.number n c.in-Some.rest.now rest c.in-Some.ensures.found.0 (omega arith)
    (sym c.in-Some.ensures.found.1 ∙ c.self.view_is ∙ is) in
    (ap (λ k. Ok k) parts.0, parts.1)
