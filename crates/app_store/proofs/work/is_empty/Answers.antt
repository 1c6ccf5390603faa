use Rattle.std.proofs.Common.{◌∙◌, arith, below_more}
use Rattle.std.specs.FinMap.{empty_of_len}
use Rattle.std.proofs.lemmas.Result.{err_from_is_err_and}
use Rattle.store_rows.proofs.Spaces.{looked_on, safe_on, sight_same, handed_safe}
use Rattle.app_store.proofs.work.is_empty.Goals as goal

pub loop-space-preserved : goal.loop-space-preserved
loop-space-preserved g c =
    let l = c.loop-space.invariant.looked in
    let counted = c.in_ok-count_pairs.ensures in
    record {
      looked = looked_on l counted.safe counted.same;
      none = λ m seen. below_more _ _ (c.loop-space.invariant.none m seen)
          (empty_of_len _ (omega (arith, counted.gives m (sight_same l ∙ seen))));
    }

pub returns-in_err-count_pairs-clause-safe : goal.returns-in_err-count_pairs-clause-safe
returns-in_err-count_pairs-clause-safe g c =
    handed_safe _ _ c.from_residual.result (err_from_is_err_and c.from_residual.result c.from_residual.ensures.1)
    (safe_on c.loop-space.invariant.looked c.in_err-count_pairs.ensures.safe)

pub returns-clause-tells : goal.returns-clause-tells
returns-clause-tells g c m seen space below = c.loop-space.invariant.none m seen space
    (omega (arith, c.loop-space-test.false))
