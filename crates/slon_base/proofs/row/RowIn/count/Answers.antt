use Rattle.std.proofs.Common.{◌∙◌, ap, sym, Ok}
use Rattle.slon_base.proofs.Spelled.{count_front, count_not_short}
use Rattle.slon_base.proofs.row.RowIn.count.Goals as goal

pub returns-in-None-clause-again : goal.returns-in-None-clause-again
returns-in-None-clause-again c n rest small is =
    absurd (count_not_short n rest _ (c.self.view_is ∙ is) c.in-None.ensures.short)

pub returns-in-Some-clause-again : goal.returns-in-Some-clause-again
returns-in-Some-clause-again c n rest small is =
    let parts = count_front c.in-Some.count n c.in-Some.rest.now rest c.in-Some.ensures.found.0 small
    (sym c.in-Some.ensures.found.1 ∙ c.self.view_is ∙ is) in
    (ap (λ k. Ok k) parts.0, parts.1)
