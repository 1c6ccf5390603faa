use Rattle.std.proofs.Common.{ap, sym, ◌∙◌, subst, arith}
use Rattle.std.specs.Fmt.{decimal}
use Rattle.std.specs.Str.{IsUtf8}
use Rattle.std.specs.Result.{result_ok}
use Rattle.std.proofs.lemmas.Str.{IsUtf8-from_ascii}
use Rattle.std.proofs.lemmas.Fmt.{parse-decimal, IsAscii-decimal}
use Rattle.txn_core.proofs.read.number_of.Goals as goal

pub returns-in-Ok : goal.returns-in-Ok
returns-in-Ok c n small is =
    let read = parse-decimal 64 n c.in-Ok.digits.now c.parse.result (omega (arith, small)) (omega (arith, small))
    (c.in-Ok.ensures.cases.0 ∙ is) c.parse.ensures.value.0 in
    c.ok.ensures.value ∙ ap result_ok read

pub returns-in-Err : goal.returns-in-Err
returns-in-Err c n small is =
    absurd (c.in-Err.ensures.cases.0
    (subst IsUtf8 (sym is) (IsUtf8-from_ascii (decimal n) (IsAscii-decimal n (omega (arith, small))))))
