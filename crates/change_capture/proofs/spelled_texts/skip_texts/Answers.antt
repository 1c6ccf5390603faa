use Rattle.std.proofs.Common.{◌≡◌, ◌∙◌, [], ◌∷◌, ◌++◌, ap, arith, refl, subst}
use Rattle.slon_base.specs.Codec.{text_bytes, all_bytes}
use Rattle.store_rows.proofs.Reading.{next_one, last_one}
use Rattle.change_capture.specs.Texts.{texts_from, PassesTexts}
use Rattle.change_capture.proofs.Texts.{passes_on}
use Rattle.change_capture.proofs.spelled_texts.skip_texts.Goals as goal

pub loop-init : goal.loop-init
loop-init c = record {
  left = λ texts rest all count is.
      record { left = texts; can = all; counted = omega (arith, count); row_is = is; whole = refl };
  passed = record { can = tt; is = refl };
}

pub returns-in_err-str-clause-again : goal.returns-in_err-str-clause-again
returns-in_err-str-clause-again c texts rest all count is =
    let next = next_one c.loop-test.true (c.loop.invariant.left texts rest all count is) in
    let read = c.in_err-str.ensures.again next.x
    (all_bytes text_bytes next.more ++ rest) next.can.short next.can.utf8 next.row_is in
    absurd read.0

pub loop-preserved : goal.loop-preserved
loop-preserved c =
    let row = c.args.row.now in
    let text = c.in_ok-str.field-0.now in
    let found = c.in_ok-str.ensures.found in
    let on =
    passes_on c.loop.counter row c.loop.row c.str.new.self text c.loop.invariant.passed
    (record { short = found.0; utf8 = found.1 }) found.2 in
    record {
      left = λ texts rest all count is.
          let next = next_one c.loop-test.true (c.loop.invariant.left texts rest all count is) in
          let read = c.in_ok-str.ensures.again next.x
          (all_bytes text_bytes next.more ++ rest) next.can.short next.can.utf8 next.row_is in
          record {
            left = next.more;
            can = next.cans;
            counted = next.counted;
            row_is = read.1;
            whole = ap (λ l. l ++ next.more) (on.is ∙ ap (λ x. texts_from c.loop.counter row ++ x ∷ []) read.0)
                ∙ next.whole;
          };
      passed = on.passes;
    }

pub returns-clause-found : goal.returns-clause-found
returns-clause-found c =
    let all : c.loop.counter ≡ c.args.count = omega (arith, c.loop-test.false, c.loop.auto.counter-end) in
    subst (λ n. PassesTexts n c.args.row.now c.loop.row) all c.loop.invariant.passed

pub returns-clause-again : goal.returns-clause-again
returns-clause-again c texts rest all count is =
    (refl, (last_one c.loop-test.false (c.loop.invariant.left texts rest all count is)).1)
