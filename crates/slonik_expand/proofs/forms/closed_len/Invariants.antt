use Rattle.std.proofs.Common.{take}
use Rattle.slonik_expand.proofs.Semicolons.{IsClosed}
use Rattle.slonik_expand.proofs.forms.closed_len.Given as goal

abbrev pub invariant-loop-i : goal.invariant-loop-i
invariant-loop-i l = IsClosed (take l.i l.tokens) l.len
