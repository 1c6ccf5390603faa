use Rattle.std.proofs.Common.{sym, arith}
use Rattle.slonik_parse.proofs.Digits.{number_past}
use Rattle.slonik_parse.proofs.values.magnitude.Goals as goal

pub returns-then-number-high : goal.returns-then-number-high
returns-then-number-high c =
    let past = c.if-number-high.true in
    sym (number_past c.args.high c.loop-digit.number c.loop-digit.digit-index c.args.digits.now
    c.loop-digit.invariant.value c.loop-digit-test.true (omega (arith, c.from.ensures)))
