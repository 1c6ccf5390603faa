use Rattle.std.proofs.Common.{◌∙◌, ◌+◌, [], ◌∷◌, ◌++◌, ap, arith, refl, sym}
use Rattle.std.proofs.lemmas.Result.{err_from_is_err_and}
use Rattle.slon_base.specs.Codec.{all_bytes}
use Rattle.store_rows.proofs.Reading.{hands_on, next_one, last_one, length_snoc, all_snoc, bytes_snoc}
use Rattle.store_rows.proofs.lists.read_many.Goals as goal

pub loop-init : goal.loop-init
loop-init g c = record {
  left = λ xs rest all count is. rw c.in_ok-found.ensures (record {
    left = xs;
    can = all;
    counted = omega (arith, count);
    row_is = is;
    whole = refl;
  });
  spelled = rw c.in_ok-found.ensures refl;
  count = rw c.in_ok-found.ensures refl;
  can = rw c.in_ok-found.ensures tt;
}

pub returns-in_err-value-clause-again : goal.returns-in_err-value-clause-again
returns-in_err-value-clause-again g c xs rest all count is =
    let next = next_one c.loop-test.true (c.loop.invariant.left xs rest all count is) in
    let err = err_from_is_err_and c.from_residual-in_err-value.result c.from_residual-in_err-value.ensures.1 in
    hands_on g.L.Filled.seen xs rest c.read.new.row c.from_residual-in_err-value.result err
    (c.in_err-value.ensures.again next.x (all_bytes g.X.Spelled.bytes next.more ++ rest) next.can next.row_is)

pub loop-preserved : goal.loop-preserved
loop-preserved g c = record {
  left = λ xs rest all count is.
      let next = next_one c.loop-test.true (c.loop.invariant.left xs rest all count is) in
      let read = c.in_ok-value.ensures.again next.x
      (all_bytes g.X.Spelled.bytes next.more ++ rest) next.can next.row_is in
      record {
        left = next.more;
        can = next.cans;
        counted = next.counted;
        row_is = read.1;
        whole = ap (λ l. l ++ next.more) (c.in_ok-add.ensures
            ∙ ap (λ x. (g.L.Filled.seen c.loop.found) ++ x ∷ []) read.0) ∙ next.whole;
      };
  spelled = rw c.in_ok-add.ensures (c.loop.invariant.spelled
      ∙ ap (λ r. all_bytes g.X.Spelled.bytes (g.L.Filled.seen c.loop.found) ++ r) c.in_ok-value.ensures.found
      ∙ sym (bytes_snoc g.X.Spelled.bytes (g.L.Filled.seen c.loop.found) c.in_ok-value.value c.read.new.row));
  count = rw c.in_ok-add.ensures (length_snoc (g.L.Filled.seen c.loop.found) c.in_ok-value.value
      ∙ ap (λ n. n + 1) c.loop.invariant.count);
  can = rw c.in_ok-add.ensures
      (all_snoc g.X.Spelled.Can (g.L.Filled.seen c.loop.found) c.in_ok-value.value c.loop.invariant.can
      c.in_ok-value.ensures.can);
}

pub returns-clause-again : goal.returns-clause-again
returns-clause-again g c xs rest all count is =
    last_one c.loop-test.false (c.loop.invariant.left xs rest all count is)
