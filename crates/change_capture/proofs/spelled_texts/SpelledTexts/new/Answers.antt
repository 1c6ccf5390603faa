use Rattle.std.proofs.Common.{◌∙◌, length, refl}
use Rattle.change_capture.proofs.Texts.{left_of, spelled_to}
use Rattle.change_capture.proofs.spelled_texts.SpelledTexts.new.Goals as goal

pub invariant_of-result : goal.invariant_of-result
invariant_of-result c =
    let texts = c.args.texts.now in
    let all = c.finish.ensures
    ∙ spelled_to c.loop-text.spelled texts c.loop-text.text-index c.loop-text-test.false c.loop-text.invariant.spelled in
    (left_of (length texts) c.finish.result texts c.requires.each refl all).are_left

pub returns : goal.returns
returns c =
    let texts = c.args.texts.now in
    let all = c.finish.ensures
    ∙ spelled_to c.loop-text.spelled texts c.loop-text.text-index c.loop-text-test.false c.loop-text.invariant.spelled in
    (left_of (length texts) c.finish.result texts c.requires.each refl all).are
