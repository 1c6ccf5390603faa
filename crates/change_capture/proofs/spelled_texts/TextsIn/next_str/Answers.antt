use Rattle.std.proofs.Common.{◌∷◌, ◌-◌, ◌∙◌, sym, arith}
use Rattle.slon_base.specs.Codec.{text_bytes, all_bytes}
use Rattle.change_capture.proofs.Texts.{next_text, left_of, some_left}
use Rattle.change_capture.proofs.spelled_texts.TextsIn.next_str.Goals as goal

pub known_str-requires : goal.known_str-requires
known_str-requires c =
    let next = next_text c.self.inside.left c.self.inside.row (some_left c.self.inside.left c.if-self-eq0.false) c.self.invariant in
    record { text = next.text; rest = all_bytes text_bytes next.more; can = next.can; is = next.row_is }

pub invariant_of-self : goal.invariant_of-self
invariant_of-self c =
    let left = c.self.inside.left in
    let next = next_text left c.self.inside.row (some_left left c.if-self-eq0.false) c.self.invariant in
    let read = c.known_str.ensures next.text (all_bytes text_bytes next.more) next.can.short next.row_is in
    (left_of (left - 1) c.known_str.new.self next.more next.cans (omega (arith, next.count)) read.1).are_left

pub returns : goal.returns
returns c =
    let left = c.self.inside.left in
    let next = next_text left c.self.inside.row (some_left left c.if-self-eq0.false) c.self.invariant in
    let read = c.known_str.ensures next.text (all_bytes text_bytes next.more) next.can.short next.row_is in
    let more = left_of (left - 1) c.known_str.new.self next.more next.cans (omega (arith, next.count)) read.1 in
    sym c.self.view_is ∙ next.are ∙ (λ i. sym read.0 i ∷ sym more.are i)
