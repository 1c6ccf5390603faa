use Rattle.std.proofs.Common.{◌-◌, ◌≤◌}
use Rattle.slon_base.proofs.Compared.{StartAlike}
use Rattle.slon_base.proofs.compare.order_of_bytes.Given as goal

-- what was compared is the same
abbrev pub invariant-loop-at : goal.invariant-loop-at
invariant-loop-at l = StartAlike l.at l.left l.right × (l.at ≤ l.common)

abbrev pub decreases-loop-at : goal.decreases-loop-at
decreases-loop-at l = l.last - l.at
