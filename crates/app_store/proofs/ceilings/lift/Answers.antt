use Rattle.std.proofs.Common.{◌∙◌, sym, refl, arith}
use Rattle.app_store.specs.Works.{StopsIt}
use Rattle.app_store.proofs.Serving.{not_past}
use Rattle.app_store.proofs.ceilings.lift.Goals as goal

pub returns-in-Err-clause-lifts : goal.returns-in-Err-clause-lifts
returns-in-Err-clause-lifts g c m held =
    let raised = c.in-Err.ensures.raises m held in
    let stamp = c.if-stamp-ge-STORED_LIMIT.false in
    let ceiling = c.if-ceiling.false in
    StopsIt c.in-Err.stop refl (sym c.must_raise.ensures ∙ c.if-not-must_raise.false)
    (not_past c.args.stamp.now c.args.counters.now.ceiling (omega (arith, stamp))
    (omega (arith, ceiling, c.ceiling.ensures.value))) raised.0 raised.1
