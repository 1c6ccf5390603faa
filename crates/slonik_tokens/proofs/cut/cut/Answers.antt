use Rattle.std.proofs.Common.{◌∙◌, refl, sym, arith}
use Rattle.slonik_tokens.proofs.Goes.{reached, front, goes_as, begins, ends, blank_room, behind_blank, token_room}
use Rattle.slonik_tokens.proofs.Goes.{behind_token_at, fails}
use Rattle.slonik_tokens.proofs.cut.cut.Goals as goal

pub loop-first-init : goal.loop-first-init
loop-first-init c = begins _ _ c.new-tokens.ensures.items

pub split_at-requires : goal.split_at-requires
split_at-requires c = omega (arith, blank_room c.loop-first.rest.now, c.blank_len-blank.ensures)

pub loop-first-preserved-then-blank-gt0 : goal.loop-first-preserved-then-blank-gt0
loop-first-preserved-then-blank-gt0 c =
    let at = reached c.loop-first.rest.now c.loop-first.after_include c.loop-first.line c.loop-first.tokens.items in
    let f =
    front at c.in-Some.first.now c.in-Some.field-0-1.now _ c.in-Some.ensures.cases.0 c.blank_len-blank.ensures in
    goes_as _ _ _ c.split_at.ensures.back refl (omega (arith, c.lines_in-line.ensures)) refl
    (behind_blank _ at f c.if-blank-gt0.true c.loop-first.invariant)

pub returns-in-None : goal.returns-in-None
returns-in-None c =
    let at = reached c.loop-first.rest.now c.loop-first.after_include c.loop-first.line c.loop-first.tokens.items in
    let f =
    front at c.in-Some.first.now c.in-Some.field-0-1.now _ c.in-Some.ensures.cases.0 c.blank_len-blank.ensures in
    fails _ at f c.if-blank-gt0.false (sym c.in-None.is ∙ c.in_ok-token_at.ensures) c.loop-first.invariant

pub split_at-requires-in-Some-2 : goal.split_at-requires-in-Some-2
split_at-requires-in-Some-2 c =
    (token_room c.loop-first.after_include c.loop-first.rest.now c.in-Some-2.token c.in-Some-2.len
    (sym c.in-Some-2.is ∙ c.in_ok-token_at.ensures)).1

pub loop-first-smaller : goal.loop-first-smaller
loop-first-smaller c =
    omega (
      arith,
      (token_room c.loop-first.after_include c.loop-first.rest.now c.in-Some-2.token c.in-Some-2.len
          (sym c.in-Some-2.is ∙ c.in_ok-token_at.ensures)).0,
      c.split_at-in-Some-2.ensures.back_len,
    )

pub loop-first-preserved : goal.loop-first-preserved
loop-first-preserved c =
    let at = reached c.loop-first.rest.now c.loop-first.after_include c.loop-first.line c.loop-first.tokens.items in
    let f =
    front at c.in-Some.first.now c.in-Some.field-0-1.now _ c.in-Some.ensures.cases.0 c.blank_len-blank.ensures in
    let found = sym c.in-Some-2.is ∙ c.in_ok-token_at.ensures in
    goes_as _ _ _ c.split_at-in-Some-2.ensures.back c.is_word-after_include.ensures refl
    c.in_ok-push-in-Some-2.ensures.items
    (behind_token_at _ at f _ c.in-Some-2.token c.if-blank-gt0.false found c.loop-first.invariant)

pub returns : goal.returns
returns c = ends _ _ c.in_default.ensures.cases c.loop-first.invariant
