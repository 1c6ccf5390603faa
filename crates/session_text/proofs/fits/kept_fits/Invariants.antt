use Rattle.std.proofs.Common.{drop}
use Rattle.std.specs.List.{AllByRecursion}
use Rattle.session_text.specs.Replies.{KeptFits}
use Rattle.session_text.proofs.fits.kept_fits.Given as goal

abbrev pub invariant-loop-set : goal.invariant-loop-set
invariant-loop-set l = AllByRecursion KeptFits (drop l.set-index l.kept) → AllByRecursion KeptFits l.kept
