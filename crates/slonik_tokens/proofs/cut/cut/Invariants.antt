use Rattle.std.proofs.Common.{length}
use Rattle.slonik_tokens.proofs.Goes.{Goes, reached}
use Rattle.slonik_tokens.proofs.cut.cut.Given as goal

abbrev pub invariant-loop-first : goal.invariant-loop-first
invariant-loop-first l = Goes l.text
    (reached l.rest l.after_include l.line l.tokens.items)

abbrev pub decreases-loop-first : goal.decreases-loop-first
decreases-loop-first l = length l.rest
