use Rattle.std.proofs.Common.{◌∙◌, sym, ap, length, List, ℕ}
use Rattle.change_capture.proofs.Texts.{length_from}
use Rattle.change_capture.proofs.spelled_texts.SpelledTexts.len.Goals as goal

pub returns : goal.returns
returns c =
    sym (length_from c.self.inside.count c.self.inside.spelled)
    ∙ ap (λ (l : List (List ℕ)). length l) c.self.view_is
