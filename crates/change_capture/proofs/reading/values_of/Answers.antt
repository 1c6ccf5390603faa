use Rattle.std.proofs.Common.{◌+◌, ◌∷◌, [], ◌++◌, refl, sym, ap, ◌∙◌, lit<}
use Rattle.change_capture.specs.Capture.{numbered, paired}
use Rattle.change_capture.proofs.Numbers.{not_printed}
use Rattle.change_capture.proofs.Pairs.{next_value, named_on, none_odd, numbered_on}
use Rattle.change_capture.proofs.reading.values_of.Goals as goal

pub returns-then-not-branch : goal.returns-then-not-branch
returns-then-not-branch c values e =
    let done = c.loop-number.values in
    let is = c.loop-number.invariant ∙ ap (λ l. paired (numbered 2 done) ++ l) c.in-Some.ensures in
    let next = next_value 2 done values c.in-Some.number.now c.next_str.new.self (sym is ∙ e) in
    not_printed _ c.in-Some.number.now _ _ c.if-not-branch.true c.in_ok-is_number.ensures
    (ap (λ n. n + 2) c.len.ensures) next

pub returns-in-None : goal.returns-in-None
returns-in-None c values e =
    let done = c.loop-number.values in
    let none = rw c.in-None.is at c.in_ok-next_text.ensures in
    let is = c.loop-number.invariant ∙ ap (λ l. paired (numbered 2 done) ++ l) c.in-Some.ensures
    ∙ ap (λ l. paired (numbered 2 done) ++ c.in-Some.number.now ∷ l) none in
    none_odd (numbered 2 done) (numbered 2 values) (c.in-Some.number.now ∷ []) refl (lit< tt) (sym is ∙ e)

pub loop-number-preserved : goal.loop-number-preserved
loop-number-preserved c =
    let done = c.loop-number.values in
    let value = c.in-Some-2.value in
    let some = rw c.in-Some-2.is at c.in_ok-next_text.ensures in
    let is = c.loop-number.invariant ∙ ap (λ l. paired (numbered 2 done) ++ l) c.in-Some.ensures
    ∙ ap (λ l. paired (numbered 2 done) ++ c.in-Some.number.now ∷ l) some in
    let printed = c.in_ok-is_number.ensures.0 c.if-not-branch.false in
    rw (c.in_ok-push-in-Some-2.ensures.ok, numbered_on 2 done value, ← c.len.ensures)
    (named_on c.args.arguments _ (numbered 2 done) c.in-Some.number.now value (c.len.result + 2) is printed)
