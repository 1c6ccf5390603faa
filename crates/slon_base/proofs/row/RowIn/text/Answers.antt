use Rattle.std.proofs.Common.{◌∙◌, sym, subst}
use Rattle.std.specs.Str.{IsUtf8}
use Rattle.slon_base.proofs.Spelled.{text_front, text_not_short}
use Rattle.slon_base.proofs.row.RowIn.text.Goals as goal

pub returns-in_default-clause-again : goal.returns-in_default-clause-again
returns-in_default-clause-again c t rest short utf8 is =
    absurd (text_not_short t rest _ short (c.self.view_is ∙ is) c.in_default.ensures.short)

pub returns-in-Ok-None-clause-again : goal.returns-in-Ok-None-clause-again
returns-in-Ok-None-clause-again c t rest short utf8 is =
    let parts = text_front t c.in-Some.front.now rest c.in-Some.rest.now short c.in-Some.ensures.found.0 (sym is
    ∙ sym c.self.view_is ∙ c.in-Some.ensures.found.1) in
    absurd ((rw c.in-Ok-None.field-0-is at c.in-Ok-None.ensures) (subst IsUtf8 parts.0 utf8))

pub returns-in-Ok-Some-clause-again : goal.returns-in-Ok-Some-clause-again
returns-in-Ok-Some-clause-again c t rest short utf8 is =
    let parts = text_front c.in-Some.front.now t c.in-Some.rest.now rest c.in-Some.ensures.found.0 short
    (sym c.in-Some.ensures.found.1 ∙ c.self.view_is ∙ is) in
    ((rw c.in-Ok-Some.field-0-is at c.in-Ok-Some.ensures).0 ∙ parts.0, parts.1)
