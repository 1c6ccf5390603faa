use Rattle.std.proofs.Common.{◌≡◌, ◌==◌, ◌-◌, ◌∙◌, length, sym, ap, false}
use Rattle.node_keeper.specs.MemKept.{is_touched}
use Rattle.node_keeper.proofs.Touching.{touched_at, touched_more}
use Rattle.node_keeper.proofs.mem_keeper.touch.Goals as goal

pub returns-clause-ok : goal.returns-clause-ok
returns-clause-ok c other untouched = (
  untouched,
  ap (λ s. s == other) (sym c.if-last-space.true)
      ∙ touched_at c.deref.result.now (length c.deref.result.now - 1) c.in-Some.last.now other
      (sym c.in-Some.ensures.value) (ap (λ ts. is_touched ts other) c.deref.ensures.value ∙ untouched),
)

pub returns-2-clause-ok : goal.returns-2-clause-ok
returns-2-clause-ok c other untouched =
    touched_more c.args.touched.now.items c.args.space other
    (ap (λ ts. is_touched ts other) (sym c.in_ok-push.ensures.items) ∙ untouched)
