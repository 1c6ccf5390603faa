use Rattle.std.proofs.Common.{◌≡◌, [], option_map, sym, ap, ◌∙◌, arith}
use Rattle.std.specs.FinMap.{len, entries, len-entries}
use Rattle.std.proofs.lemmas.Result.{err_from_is_err_and}
use Rattle.slon_base.specs.Keeper.{put_at, after, first}
use Rattle.store_rows.specs.Scan.{key_of}
use Rattle.store_rows.proofs.Scanning.{comes}
use Rattle.store_rows.proofs.Spaces.{looked_on, looked_none, sight_same}
use Rattle.node_change.proofs.Both.{well_none, well_on, well_looked, safe_as, then_as, value_as, from_stops, to_stops}
use Rattle.node_change.proofs.Both.{both_handed}
use Rattle.node_change.proofs.Pairs.{none_copied, one_copied, copied_at, all_copied, counted}
use Rattle.node_change.proofs.copying.copy_space.Goals as goal

pub loop-init : goal.loop-init
loop-init g c =
    let is = c.in_ok-limit.ensures.same in
    record {
      looked = looked_on looked_none (safe_as is c.count_pairs.ensures.safe) (then_as is c.count_pairs.ensures.same);
      well = well_none;
      opened = c.requires.opened;
      limited = λ m seen. value_as (λ n. n ≡ len (m c.args.space)) is (c.count_pairs.ensures.gives m seen);
      copying = λ m seen. none_copied;
    }

pub returns-in_err-last-clause-safe : goal.returns-in_err-last-clause-safe
returns-in_err-last-clause-safe g c =
    let result = c.from_residual-in_err-last.result in
    both_handed _ _ _ _ result (err_from_is_err_and result c.from_residual-in_err-last.ensures.1)
    (from_stops (record { is = c.in_err-last.ensures.same; on = c.in_err-last.ensures.side })
    (well_looked c.loop.invariant.looked) c.next_pair.ensures.safe c.loop.invariant.well)

pub returns-in_err-sided-in-Some-clause-safe : goal.returns-in_err-sided-in-Some-clause-safe
returns-in_err-sided-in-Some-clause-safe g c =
    let i = c.loop.invariant in
    let result = c.from_residual-in_err-sided-in-Some.result in
    let read = safe_as c.in_ok-last.ensures.same c.next_pair.ensures.safe in
    both_handed _ _ _ _ result (err_from_is_err_and result c.from_residual-in_err-sided-in-Some.ensures.1)
    (to_stops (record { is = c.in_err-sided-in-Some.ensures.same; on = c.in_err-sided-in-Some.ensures.side })
    (well_on (well_looked i.looked) read) i.well c.put_pair.ensures.safe)

pub returns-in-None-clause-put : goal.returns-in-None-clause-put
returns-in-None-clause-put g c m seen =
    let i = c.loop.invariant in
    all_copied _ _ (i.copying m seen) c.key_of.ensures c.in-None.is
    (value_as (λ o. o ≡ first (after c.key_of.result.now (entries (m c.args.space)))) c.in_ok-last.ensures.same
    (c.next_pair.ensures.gives m (sight_same i.looked ∙ seen)))

pub loop-preserved : goal.loop-preserved
loop-preserved g c =
    let i = c.loop.invariant in
    let to = g.T.Keeper.kept c.loop.to in
    let now = g.T.Keeper.kept c.put_pair.new.keeper in
    let read = c.in_ok-last.ensures.same in
    let done = c.in_ok-sided-in-Some.ensures.same in
    let safe = safe_as done c.put_pair.ensures.safe in
    let at = sym (ap (λ o. key_of o []) c.in-Some.is) in
    let put : now.pending ≡ option_map (option_map (put_at c.args.space c.in-Some.key c.in-Some.value)) to.pending =
    then_as done c.put_pair.ensures.put
    ∙ (λ k. option_map (option_map (put_at c.args.space (c.as_slice.ensures k) (c.as_slice-in-Some.ensures k)))
    to.pending) in
    record {
      looked = looked_on i.looked (safe_as read c.next_pair.ensures.safe) (then_as read c.next_pair.ensures.same);
      well = well_on i.well safe;
      opened = safe.opened ∙ i.opened;
      limited = i.limited;
      copying = λ m seen. copied_at at (one_copied now (c.in-Some.key, c.in-Some.value) (i.copying m seen)
          (comes _ _ (c.in-Some.key, c.in-Some.value) c.key_of.ensures c.in-Some.is
          (value_as (λ o. o ≡ first (after c.key_of.result.now (entries (m c.args.space)))) read
          (c.next_pair.ensures.gives m (sight_same i.looked ∙ seen)))) put);
    }

pub returns-clause-put : goal.returns-clause-put
returns-clause-put g c m seen =
    counted (c.loop.invariant.copying m seen)
    (omega (arith, c.loop-test.false, c.loop.invariant.limited m seen, len-entries (m c.args.space)))
