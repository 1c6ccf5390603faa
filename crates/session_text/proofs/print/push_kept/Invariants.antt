use Rattle.std.proofs.Common.{◌≡◌, ◌++◌, drop, string_bytes}
use Rattle.slon_model.specs.Printed.{kept_text}
use Rattle.session_text.proofs.print.push_kept.Given as goal

abbrev pub invariant-loop-set : goal.invariant-loop-set
invariant-loop-set l =
    string_bytes l.line ++ kept_text (drop l.set-index l.kept) ≡ string_bytes l.fn.line ++ kept_text l.kept
