use Rattle.std.proofs.Common.{append_assoc}
use Rattle.std.proofs.lemmas.Result.{IfOk-equal}
use Rattle.session_text.proofs.print.push_fault.Goals as goal

pub returns : goal.returns
returns c =
    IfOk-equal c.push_number.result _ _ _ c.push_number.ensures (rw c.in_ok-push_named.ensures (simp append_assoc))
