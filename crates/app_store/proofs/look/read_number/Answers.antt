use Rattle.std.proofs.Common.{◌∙◌, sym, []}
use Rattle.std.proofs.lemmas.Bool.{false≢true}
use Rattle.std.proofs.lemmas.List.{append-nil}
use Rattle.app_store.proofs.look.read_number.Goals as goal

pub returns-in_default-clause-again : goal.returns-in_default-clause-again
returns-in_default-clause-again c n small is =
    absurd (c.in_default.not-Ok n (c.u64.ensures.again n [] small (c.new-row.ensures ∙ c.as_slice.ensures ∙ is
    ∙ sym (append-nil _))).0)

pub returns-in-Err-clause-again : goal.returns-in-Err-clause-again
returns-in-Err-clause-again c n small is =
    absurd (false≢true (c.in-Err.ensures.ok.1 (c.in-Ok.ensures.again n [] small (c.new-row.ensures ∙ c.as_slice.ensures
    ∙ is ∙ sym (append-nil _))).1))
