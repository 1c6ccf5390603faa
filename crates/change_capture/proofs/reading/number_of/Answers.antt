use Rattle.std.proofs.Common.{◌∙◌}
use Rattle.change_capture.proofs.Numbers.{not_printed, parsed, unparsed}
use Rattle.change_capture.proofs.reading.number_of.Goals as goal

pub returns-in-Err : goal.returns-in-Err
returns-in-Err c n printed =
    unparsed n c.args.text.now c.as_str-shown.result.now c.as_str-shown.ensures.value printed c.in-Err.ensures.value.0

pub returns-else-branch : goal.returns-else-branch
returns-else-branch c n printed =
    let same =
    parsed c.in-Ok.number n c.args.text.now c.as_str-shown.result.now c.as_str-shown.ensures.value printed
    c.in-Ok.ensures.value.0 in
    not_printed _ c.as_str-shown.result.now c.from.result n c.if-branch.false c.in_ok-is_number-in-Ok.ensures
    (c.from.ensures ∙ same) (c.as_str-shown.ensures.value ∙ printed.is)
