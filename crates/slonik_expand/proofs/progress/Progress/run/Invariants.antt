use Rattle.std.proofs.Common.{◌≡◌, ℕ, ◌-◌, ◌≤◌, List, length, drop}
use Rattle.slonik_expand.specs.Expansion.{Making, Ending, expand_from}
use Rattle.slonik_expand.specs.Steps.{making_of}
use Rattle.slonik_expand.proofs.progress.Progress.run.Given as goal

abbrev pub invariant-loop-at : goal.invariant-loop-at
invariant-loop-at l = record {
  on : l.start ≤ l.at;
  ends : (include : List ℕ → Making → Ending)
      → expand_from include 0 (drop l.start l.tokens) (making_of l.fn.self)
      ≡ expand_from include 0 (drop l.at l.tokens) (making_of l.self);
}

abbrev pub decreases-loop-at : goal.decreases-loop-at
decreases-loop-at l = length l.tokens - l.at
