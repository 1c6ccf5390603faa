use Rattle.std.proofs.Common.{◌≡◌, ◌++◌, drop, string_bytes}
use Rattle.session_text.specs.Joining.{behind_commas}
use Rattle.session_text.proofs.print.push_behind_commas.Given as goal

abbrev pub invariant-loop-value : goal.invariant-loop-value
invariant-loop-value l =
    string_bytes l.line ++ behind_commas (drop l.value-index l.values)
    ≡ string_bytes l.fn.line ++ behind_commas l.values
