use Rattle.std.proofs.Common.{◌∙◌, sym, subst}
use Rattle.std.specs.Str.{IsUtf8}
use Rattle.slon_base.proofs.Spelled.{text_front, text_not_short}
use Rattle.slon_base.proofs.row.RowIn.str.Goals as goal

pub returns-in_default-clause-again : goal.returns-in_default-clause-again
returns-in_default-clause-again c t rest short utf8 is =
    absurd (text_not_short t rest _ short (c.self.view_is ∙ is) c.in_default.ensures.short)

pub returns-then-not-is_text-clause-again : goal.returns-then-not-is_text-clause-again
returns-then-not-is_text-clause-again c t rest short utf8 is =
    let parts = text_front t c.in-Some.front.now rest c.in-Some.rest.now short c.in-Some.ensures.found.0 (sym is
    ∙ sym c.self.view_is ∙ c.in-Some.ensures.found.1) in
    let holds = c.is_text.ensures.1 (subst IsUtf8 parts.0 utf8) in
    let lacks = c.if-not-is_text.true in
    cc

pub returns-clause-again : goal.returns-clause-again
returns-clause-again c t rest short utf8 is =
    let parts = text_front c.in-Some.front.now t c.in-Some.rest.now rest c.in-Some.ensures.found.0 short
    (sym c.in-Some.ensures.found.1 ∙ c.self.view_is ∙ is) in
    (c.from_utf8_unchecked.ensures ∙ parts.0, parts.1)
