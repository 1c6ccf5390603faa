use Rattle.std.proofs.Common.{◌∙◌, ap, length, take}
use Rattle.std.proofs.lemmas.List.{take-take}
use Rattle.slon_base.proofs.compact.Compact.from_front.Goals as goal

pub returns-in-Some : goal.returns-in-Some
returns-in-Some c =
    c.first_of.ensures ∙ ap (take (length c.args.slice.now)) c.in-Some.ensures.cases.same
    ∙ take-take (length c.args.slice.now) 30 c.args.whole.now c.if-slice-le-INLINE_LEN.true ∙ c.requires
