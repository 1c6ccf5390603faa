use Rattle.std.proofs.Common.{◌∙◌, ◌-◌, length, take}
use Rattle.change_capture.specs.Texts.{texts_from}
use Rattle.change_capture.proofs.Texts.{front_of, texts_read}
use Rattle.change_capture.proofs.spelled_texts.SpelledTexts.read_all.Goals as goal

pub invariant_of-result : goal.invariant_of-result
invariant_of-result c =
    let front =
    c.in_ok-from_slice.ensures ∙ (λ i. take (length (c.rest-whole.ensures i) - length (c.rest.ensures i))
    (c.rest-whole.ensures i)) in
    let f =
    front_of c.args.row.now c.skip_texts.new.row c.in_ok-from_slice.field-0 c.args.count
    c.in_ok-skip_texts.ensures.found front in
    f.are_left

pub returns-clause-can : goal.returns-clause-can
returns-clause-can c =
    let front =
    c.in_ok-from_slice.ensures ∙ (λ i. take (length (c.rest-whole.ensures i) - length (c.rest.ensures i))
    (c.rest-whole.ensures i)) in
    let f =
    front_of c.args.row.now c.skip_texts.new.row c.in_ok-from_slice.field-0 c.args.count
    c.in_ok-skip_texts.ensures.found front in
    (f.len, f.can)

pub returns-clause-found : goal.returns-clause-found
returns-clause-found c =
    let front =
    c.in_ok-from_slice.ensures ∙ (λ i. take (length (c.rest-whole.ensures i) - length (c.rest.ensures i))
    (c.rest-whole.ensures i)) in
    let f =
    front_of c.args.row.now c.skip_texts.new.row c.in_ok-from_slice.field-0 c.args.count
    c.in_ok-skip_texts.ensures.found front in
    f.is

pub returns-clause-again : goal.returns-clause-again
returns-clause-again c texts rest all count is =
    let front =
    c.in_ok-from_slice.ensures ∙ (λ i. take (length (c.rest-whole.ensures i) - length (c.rest.ensures i))
    (c.rest-whole.ensures i)) in
    let f =
    front_of c.args.row.now c.skip_texts.new.row c.in_ok-from_slice.field-0 c.args.count
    c.in_ok-skip_texts.ensures.found front in
    let skipped = c.in_ok-skip_texts.ensures.again texts rest all count is in
    (f.are ∙ (λ i. texts_from (count i) (is i)) ∙ texts_read texts rest all, skipped.1)
