use Rattle.std.proofs.Common.{◌≡◌, ◌+◌, ◌∷◌, ◌++◌, drop}
use Rattle.change_capture.specs.Capture.{numbered, paired}
use Rattle.change_capture.proofs.capture.put_arguments.Given as goal

abbrev pub invariant-loop-value : goal.invariant-loop-value
invariant-loop-value l = record {
  number : l.number ≡ l.value-index + 1;
  named : l.arguments ++ paired (numbered (l.number + 1) (drop l.value-index l.values)) ≡ paired
      (numbered 1 (l.key ∷ l.values));
}
