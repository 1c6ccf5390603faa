use Rattle.std.proofs.Common.{◌≡◌, ◌∙◌, List, ℕ, sym, ap, arith, length}
use Rattle.std.proofs.lemmas.Bool.Decides.{nat_tests}
use Rattle.change_capture.proofs.Texts.{length_from}
use Rattle.change_capture.proofs.spelled_texts.SpelledTexts.is_same.Goals as goal

pub returns-else-self-others : goal.returns-else-self-others
returns-else-self-others c =
    let here = c.self.inside in
    let there = c.others.inside in (
      λ is. let same : here.count ≡ there.count = grind (arith, nat_tests) in absurd (c.if-self-others.false same),
      λ is. absurd (c.if-self-others.false (sym (length_from here.count here.spelled)
          ∙ ap (λ (l : List (List ℕ)). length l) (c.self.view_is ∙ is ∙ sym c.others.view_is)
          ∙ length_from there.count there.spelled)),
    )
