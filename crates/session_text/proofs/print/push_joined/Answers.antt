use Rattle.std.proofs.Common.{append_assoc, string_bytes}
use Rattle.std.proofs.lemmas.Result.{IfOk-equal}
use Rattle.session_text.specs.Joining.{behind_commas}
use Rattle.session_text.proofs.Joins.{joined_first}
use Rattle.session_text.proofs.print.push_joined.Goals as goal

pub returns-in_ok-push_str-in-Some : goal.returns-in_ok-push_str-in-Some
returns-in_ok-push_str-in-Some c =
    IfOk-equal c.push_behind_commas.result _ _ _ c.push_behind_commas.ensures
    (rw (c.in_ok-push_str-in-Some.ensures.bytes, c.as_str.ensures.value, c.in-Some.ensures.cases.0, joined_first)
    (append_assoc (string_bytes c.args.line.now) c.in-Some.first.now (behind_commas c.in-Some.rest.now)))
