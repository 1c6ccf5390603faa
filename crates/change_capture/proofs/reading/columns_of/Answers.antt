use Rattle.std.proofs.Common.{ℕ, ◌<◌, ◌^◌, List, ◌++◌, sym, ap, ◌∙◌}
use Rattle.std.proofs.lemmas.Result.{err_from_is_err_and}
use Rattle.store_rows.proofs.Reading.{all_snoc}
use Rattle.change_capture.specs.Capture.{paired}
use Rattle.change_capture.specs.Reading.{AreNamed, IsPrinted}
use Rattle.change_capture.proofs.Lists.{front_two}
use Rattle.change_capture.proofs.Pairs.{next_column, named_on, none_odd}
use Rattle.change_capture.proofs.Results.{carried}
use Rattle.change_capture.proofs.reading.columns_of.Goals as goal

pub returns-in_err-number_of : goal.returns-in_err-number_of
returns-in_err-number_of c =
    let two =
    front_two c.loop-rest.rest.now c.number-item.result c.value-item.result c.in-len2-up.len_at_least
    c.number-item.is c.value-item.is in
    let is = c.loop-rest.invariant.named ∙ ap (λ l. paired c.loop-rest.columns ++ l) two in
    carried (AreNamed c.args.arguments.now) (IsPrinted c.number-item.result) c.from_residual.result
    (err_from_is_err_and c.from_residual.result c.from_residual.ensures.1)
    (λ columns named. next_column c.loop-rest.columns columns _ _ _ named.fits (sym is ∙ named.named))
    c.in_err-number_of.ensures

pub loop-rest-preserved : goal.loop-rest-preserved
loop-rest-preserved c =
    let done = c.loop-rest.columns in
    let two =
    front_two c.loop-rest.rest.now c.number-item.result c.value-item.result c.in-len2-up.len_at_least
    c.number-item.is c.value-item.is in
    let is = c.loop-rest.invariant.named ∙ ap (λ l. paired c.loop-rest.columns ++ l) two in
    let n = c.in_ok-number_of.field-0 in
    let printed = c.in_ok-number_of.ensures in
    record {
      fits = rw c.in_ok-push.ensures.ok (all_snoc (λ (column : ℕ × List ℕ). column.0 < 2 ^ 32) done
          (n, c.in_ok-copy.field-0) c.loop-rest.invariant.fits printed.fits);
      named = rw (c.in_ok-push.ensures.ok, c.in_ok-copy.ensures)
          (named_on c.args.arguments.now _ done c.number-item.result c.value-item.result n is printed.is);
    }

pub returns-else-is_empty : goal.returns-else-is_empty
returns-else-is_empty c columns named =
    none_odd c.loop-rest.columns columns c.loop-rest.rest.now c.if-is_empty.ensures c.in_default.len_below
    (sym c.loop-rest.invariant.named ∙ named.named)
