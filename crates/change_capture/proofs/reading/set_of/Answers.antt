use Rattle.std.proofs.Common.{◌∷◌, [], ◌++◌, ◌-◌, length, take, refl, sym, ap, ◌∙◌, arith, length-append}
use Rattle.std.proofs.lemmas.Result.{err_from_is_err_and}
use Rattle.std.specs.Fmt.{decimal}
use Rattle.change_capture.specs.declared.log_row.LogCommand.TheVariants.{Update}
use Rattle.change_capture.specs.Capture.{paired}
use Rattle.change_capture.specs.Reading.{AreNamed, IsLoggedBy}
use Rattle.change_capture.proofs.Changes.{set_of, set_at}
use Rattle.change_capture.proofs.Lists.{back_two}
use Rattle.change_capture.proofs.Numbers.{not_printed}
use Rattle.change_capture.proofs.Pairs.{paired-append, paired_same}
use Rattle.change_capture.proofs.Results.{carried}
use Rattle.change_capture.proofs.reading.set_of.Goals as goal

pub returns-in_default : goal.returns-in_default
returns-in_default c change logged =
    let s = set_of c.args.columns c.args.arguments.now change logged in
    omega (
      arith,
      c.in_default.len_below,
      ap length s.named,
      length-append (paired s.columns) (decimal 1 ∷ s.key ∷ []),
    )

pub returns-then-not-is_key_number : goal.returns-then-not-is_key_number
returns-then-not-is_key_number c change logged =
    let texts = c.args.arguments.now in
    let back =
    back_two texts c.number-item.result c.key-item.result c.in-len2-up.len_at_least c.number-item.is c.key-item.is in
    let s = set_at c.args.columns texts (take (length texts - 2) texts) _ _ change back logged in
    not_printed _ c.as_str.result.now 1 1 c.if-not-is_key_number.true c.is_key_number.ensures refl
    (c.as_str.ensures.value ∙ s.number_is)

pub returns-in_err-changed : goal.returns-in_err-changed
returns-in_err-changed c =
    let texts = c.args.arguments.now in
    let front = take (length texts - 2) texts in
    let back =
    back_two texts c.number-item.result c.key-item.result c.in-len2-up.len_at_least c.number-item.is c.key-item.is in
    carried (IsLoggedBy Update c.args.columns texts) (AreNamed front) c.from_residual.result
    (err_from_is_err_and c.from_residual.result c.from_residual.ensures.1)
    (λ change logged.
    let s = set_at c.args.columns texts front _ _ change back logged in
    (s.columns, record { fits = s.fits; named = s.front_is }))
    c.in_err-changed.ensures

pub returns-then-len-columns : goal.returns-then-len-columns
returns-then-len-columns c change logged =
    let texts = c.args.arguments.now in
    let back =
    back_two texts c.number-item.result c.key-item.result c.in-len2-up.len_at_least c.number-item.is c.key-item.is in
    let s = set_at c.args.columns texts (take (length texts - 2) texts) _ _ change back logged in
    let read = c.in_ok-changed.ensures in
    let same = paired_same c.in_ok-changed.changed s.columns read.fits s.fits (sym read.named ∙ s.front_is) in
    c.if-len-columns.true (c.len.ensures ∙ ap length same ∙ sym s.counted)

pub returns : goal.returns
returns c =
    let texts = c.args.arguments.now in
    let back =
    back_two texts c.number-item.result c.key-item.result c.in-len2-up.len_at_least c.number-item.is c.key-item.is in
    let read = c.in_ok-changed.ensures in
    let number = sym c.as_str.ensures.value ∙ c.is_key_number.ensures.0 c.if-not-is_key_number.false in
    record {
      can = read.fits;
      command = refl;
      columns = sym c.if-len-columns.false ∙ c.len.ensures;
      arguments = back ∙ (λ i. read.named i ++ number i ∷ sym c.in_ok-copy.ensures i ∷ [])
          ∙ sym (paired-append c.in_ok-changed.changed ((1, c.in_ok-copy.field-0) ∷ []));
    }
