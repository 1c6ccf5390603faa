use Rattle.std.proofs.Common.{◌∙◌, ◌++◌, ap}
use Rattle.std.proofs.lemmas.Result.{IfOk-equal}
use Rattle.slon_base.specs.Codec.{text_bytes, all_bytes}
use Rattle.change_capture.proofs.spelled_texts.SpelledTexts.spell_all.Goals as goal

pub returns : goal.returns
returns c =
    let out = c.args.out.now in
    IfOk-equal c.bytes.result _ _ _ c.bytes.ensures.ok
    (ap (λ l. out ++ l) (c.as_slice.ensures ∙ c.self.invariant.is
    ∙ ap (λ texts. all_bytes text_bytes texts) c.self.view_is))
