use Rattle.std.proofs.Common.{◌∙◌, sym, subst}
use Rattle.std.specs.Str.{IsUtf8}
use Rattle.slon_base.proofs.Spelled.{text_front, text_not_short}
use Rattle.slon_base.proofs.row.RowIn.known_str.Goals as goal

pub unreachable-requires : goal.unreachable-requires
unreachable-requires c =
    let has = c.requires in
    absurd (text_not_short has.text has.rest _ has.can.short (c.self.view_is ∙ has.is) c.in_default.ensures.short)

pub from_utf8_unchecked-requires : goal.from_utf8_unchecked-requires
from_utf8_unchecked-requires c =
    let has = c.requires in
    let parts =
    text_front has.text c.in-Some.front.now has.rest c.in-Some.rest.now has.can.short c.in-Some.ensures.found.0
    (sym has.is ∙ sym c.self.view_is ∙ c.in-Some.ensures.found.1) in
    subst IsUtf8 parts.0 has.can.utf8

pub returns : goal.returns
returns c t rest short is =
    let parts = text_front c.in-Some.front.now t c.in-Some.rest.now rest c.in-Some.ensures.found.0 short
    (sym c.in-Some.ensures.found.1 ∙ c.self.view_is ∙ is) in
    (c.from_utf8_unchecked.ensures ∙ parts.0, parts.1)
