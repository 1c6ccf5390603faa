use Rattle.std.proofs.Common.{arith}
use Rattle.session_text.proofs.Numbers.{number_past}
use Rattle.session_text.proofs.words.number_of.Goals as goal

pub returns-then-number-from : goal.returns-then-number-from
returns-then-number-from c =
    let past = c.if-number-from.true in
    number_past c.args.low c.args.high c.loop-digit.number c.loop-digit.digit-index c.args.word.now
    c.loop-digit.invariant.value c.loop-digit-test.true
    (omega (arith, past, c.from-in-loop-digit.ensures, c.from.ensures))
