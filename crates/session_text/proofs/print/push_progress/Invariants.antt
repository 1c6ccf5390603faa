use Rattle.std.proofs.Common.{◌≡◌, ◌++◌, drop, string_bytes}
use Rattle.slon_model.specs.Printed.{progress_text}
use Rattle.session_text.proofs.print.push_progress.Given as goal

abbrev pub invariant-loop-node : goal.invariant-loop-node
invariant-loop-node l =
    string_bytes l.line ++ progress_text (drop l.node-index l.progress)
    ≡ string_bytes l.fn.line ++ progress_text l.progress
