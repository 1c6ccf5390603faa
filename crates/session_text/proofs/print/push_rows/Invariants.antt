use Rattle.std.proofs.Common.{◌≡◌, ◌++◌, drop, string_bytes}
use Rattle.slon_model.specs.Printed.{rows_text}
use Rattle.session_text.proofs.print.push_rows.Given as goal

abbrev pub invariant-loop-key : goal.invariant-loop-key
invariant-loop-key l =
    string_bytes l.line ++ rows_text (drop l.key-index l.rows) ≡ string_bytes l.fn.line ++ rows_text l.rows
