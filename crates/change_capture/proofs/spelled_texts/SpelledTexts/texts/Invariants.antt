use Rattle.std.proofs.Common.{◌≡◌, ◌++◌, length}
use Rattle.change_capture.proofs.spelled_texts.SpelledTexts.texts.Given as goal

abbrev pub invariant-loop-texts : goal.invariant-loop-texts
invariant-loop-texts l = l.texts ++ l.rest ≡ l.self

abbrev pub decreases-loop-texts : goal.decreases-loop-texts
decreases-loop-texts l = length l.rest
