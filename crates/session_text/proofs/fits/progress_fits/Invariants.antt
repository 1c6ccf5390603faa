use Rattle.std.proofs.Common.{drop}
use Rattle.std.specs.List.{AllByRecursion}
use Rattle.session_text.specs.Replies.{ProgressFits}
use Rattle.session_text.proofs.fits.progress_fits.Given as goal

abbrev pub invariant-loop-node : goal.invariant-loop-node
invariant-loop-node l =
    AllByRecursion ProgressFits (drop l.node-index l.progress) → AllByRecursion ProgressFits l.progress
