use Rattle.std.proofs.Common.{sym, ◌∙◌}
use Rattle.slonik_expand.proofs.Semicolons.{closed_other, closed_here}
use Rattle.slonik_expand.proofs.forms.closed_len.Goals as goal
use Rattle.slonik_expand.proofs.forms.closed_len.Goals.{then-is_sign, else-is_sign}

pub loop-i-preserved : goal.loop-i-preserved
loop-i-preserved c =
    elim c.if-is_sign.branch [
      | then-is_sign w ↦ rw w.len-is (closed_here _ _)
      | else-is_sign w ↦ rw w.len-is (closed_other _ _
          (record { at = _; token = c.index-tokens-i.result; within = c.loop-i-test.true; is = c.index-tokens-i.is })
          (sym c.is_sign.ensures ∙ w.if-is_sign.false) c.loop-i.invariant)
    ]
