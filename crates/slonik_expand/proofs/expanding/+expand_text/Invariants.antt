use Rattle.std.proofs.Common.{◌≡◌, ℕ, ◌-◌, List, Option, Some, length, drop}
use Rattle.slonik_expand.specs.Ends.{Stays}
use Rattle.slonik_expand.specs.Expansion.{expand_from, include_at}
use Rattle.slonik_expand.specs.Steps.{making_of}
use Rattle.slonik_expand.proofs.expanding.+expand_text.Given as goal

abbrev pub invariant-loop-behind : goal.invariant-loop-behind
invariant-loop-behind g l = record {
  files : Stays (g.F.Files.filed l.fn.files) (g.F.Files.filed l.files);
  ends : (names : List ℕ → Option (List ℕ)) → (g.F.Files.filed l.fn.files).names ≡ Some names
      → expand_from (include_at names l.levels) 0 l.tokens (making_of l.fn.progress)
      ≡ expand_from (include_at names l.levels) 0 (drop l.at l.tokens) (making_of l.progress);
}

abbrev pub decreases-loop-behind : goal.decreases-loop-behind
decreases-loop-behind g l = length l.tokens - l.at

abbrev pub decreases-expand_text : goal.decreases-expand_text
decreases-expand_text g l = l.levels
