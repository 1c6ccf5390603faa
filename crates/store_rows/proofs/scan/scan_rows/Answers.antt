use Rattle.std.proofs.Common.{◌∙◌, ◌++◌, ◌∷◌, [], sym, ap, refl, arith, drop, length}
use Rattle.std.specs.Prelude.{nat_eq}
use Rattle.std.specs.List.{starts_with}
use Rattle.std.specs.FinMap.{entries, len-entries}
use Rattle.std.proofs.lemmas.List.{drop_at}
use Rattle.std.proofs.lemmas.Result.{err_from_is_err_and}
use Rattle.slon_base.proofs.Order.{prefixed}
use Rattle.store_rows.proofs.Putting.{puts_on}
use Rattle.store_rows.proofs.Spaces.{looked_on, looked_none, safe_on, sight_same, handed_safe}
use Rattle.store_rows.specs.Scan.{key_of}
use Rattle.store_rows.proofs.Reading.{all_snoc}
use Rattle.store_rows.proofs.Scanning.{none_ahead, none_gone, comes, none_comes, lacking, at_end, all_in}
use Rattle.store_rows.proofs.Scanning.{ahead_at, gone_at, next_row, gone_on, all_counted, counted_in}
use Rattle.store_rows.proofs.scan.scan_rows.Goals as goal

pub loop-init : goal.loop-init
loop-init g c =
    record {
      looked = looked_on looked_none c.in_ok-limit.ensures.safe c.in_ok-limit.ensures.same;
      puts = c.in_ok-limit.ensures.puts;
      can = rw (c.in_ok-found.ensures) tt;
      scanned = λ m rows seen can is. rw (c.in_ok-found.ensures) (none_ahead rows can is);
      gone = λ m seen. rw (c.in_ok-found.ensures) none_gone;
    }

pub returns-in_err-last-clause-safe : goal.returns-in_err-last-clause-safe
returns-in_err-last-clause-safe g c =
    let i = c.loop.invariant in
    handed_safe _ _ c.from_residual-in_err-last.result
    (err_from_is_err_and c.from_residual-in_err-last.result c.from_residual-in_err-last.ensures.1)
    (safe_on i.looked c.in_err-last.ensures.safe)

pub returns-in-None-clause-gives : goal.returns-in-None-clause-gives
returns-in-None-clause-gives g c m rows seen can is =
    let i = c.loop.invariant in
    at_end (i.scanned m rows seen can is) (none_comes c.args.prefix.now (entries (m c.args.space)) _ _
    c.key_of.ensures c.in-None.is
    (c.in_ok-last.ensures.gives m (sight_same i.looked ∙ seen)))

pub returns-in-None-clause-found : goal.returns-in-None-clause-found
returns-in-None-clause-found g c m seen =
    let i = c.loop.invariant in
    all_in (i.gone m seen) (none_comes c.args.prefix.now (entries (m c.args.space)) _ _ c.key_of.ensures c.in-None.is
    (c.in_ok-last.ensures.gives m (sight_same i.looked ∙ seen)))

pub returns-then-not-begin_with-clause-gives : goal.returns-then-not-begin_with-clause-gives
returns-then-not-begin_with-clause-gives g c m rows seen can is =
    let i = c.loop.invariant in
    let lacks = ap (λ k. starts_with nat_eq k c.args.prefix.now) (sym c.as_slice.ensures)
    ∙ sym c.begin_with.ensures.value ∙ c.if-not-begin_with.true in
    at_end (i.scanned m rows seen can is) (lacking c.args.prefix.now
    (comes _ _ (c.in-Some.key, c.in-Some.value) c.key_of.ensures c.in-Some.is
    (c.in_ok-last.ensures.gives m (sight_same i.looked ∙ seen))) lacks)

pub returns-then-not-begin_with-clause-found : goal.returns-then-not-begin_with-clause-found
returns-then-not-begin_with-clause-found g c m seen =
    let i = c.loop.invariant in
    let lacks = ap (λ k. starts_with nat_eq k c.args.prefix.now) (sym c.as_slice.ensures)
    ∙ sym c.begin_with.ensures.value ∙ c.if-not-begin_with.true in
    all_in (i.gone m seen) (lacking c.args.prefix.now
    (comes _ _ (c.in-Some.key, c.in-Some.value) c.key_of.ensures c.in-Some.is
    (c.in_ok-last.ensures.gives m (sight_same i.looked ∙ seen))) lacks)

pub returns-in-Err-clause-gives : goal.returns-in-Err-clause-gives
returns-in-Err-clause-gives g c m rows seen can is =
    let i = c.loop.invariant in
    let has = ap (λ k. starts_with nat_eq k c.args.prefix.now) (sym c.as_slice.ensures)
    ∙ sym c.begin_with.ensures.value ∙ c.if-not-begin_with.false in
    let next = comes _ _ (c.in-Some.key, c.in-Some.value) c.key_of.ensures c.in-Some.is
    (c.in_ok-last.ensures.gives m (sight_same i.looked ∙ seen)) in
    let row = next_row (m c.args.space) (i.scanned m rows seen can is) next has in
    c.in-Err.ensures.gives row.row.0 row.row.1 row.can.0 row.can.1
    (c.split_at.ensures.back ∙ ap (drop (length c.args.prefix.now))
    (c.as_slice-in-Some.ensures ∙ ap (λ e. e.0) row.is)
    ∙ drop_at c.args.prefix.now (g.I.Spelled.bytes row.row.0) (length c.args.prefix.now) refl)
    (c.as_slice-in-Some-2.ensures ∙ ap (λ e. e.1) row.is)

pub loop-preserved : goal.loop-preserved
loop-preserved g c =
    let i = c.loop.invariant in
    let has = ap (λ k. starts_with nat_eq k c.args.prefix.now) (sym c.as_slice.ensures)
    ∙ sym c.begin_with.ensures.value ∙ c.if-not-begin_with.false in
    let at_is = sym (ap (λ o. key_of o c.args.from.now) c.in-Some.is) in
    record {
      looked = looked_on i.looked c.in_ok-last.ensures.safe c.in_ok-last.ensures.same;
      puts = puts_on 0 0 0 i.puts c.in_ok-last.ensures.puts (omega arith);
      can = rw c.in_ok-push-in-Ok.ensures.ok
          (all_snoc (λ e. g.I.Spelled.Can e.0 × g.X.Spelled.Can e.1) c.loop.found c.in-Ok.row i.can
          c.in-Ok.ensures.can);
      scanned = λ m rows seen can is.
          let next = comes _ _ (c.in-Some.key, c.in-Some.value) c.key_of.ensures c.in-Some.is
          (c.in_ok-last.ensures.gives m (sight_same i.looked ∙ seen)) in
          let row = next_row (m c.args.space) (i.scanned m rows seen can is) next has in
          let read = c.in-Ok.ensures.gives row.row.0 row.row.1 row.can.0 row.can.1
          (c.split_at.ensures.back ∙ ap (drop (length c.args.prefix.now)) (c.as_slice-in-Some.ensures
          ∙ ap (λ e. e.0) row.is)
          ∙ drop_at c.args.prefix.now (g.I.Spelled.bytes row.row.0) (length c.args.prefix.now) refl)
          (c.as_slice-in-Some-2.ensures ∙ ap (λ e. e.1) row.is) in
          ahead_at at_is (sym (c.in_ok-push-in-Ok.ensures.ok ∙ ap (λ x. c.loop.found ++ x ∷ []) read)) row.ahead;
      gone = λ m seen.
          let next = comes _ _ (c.in-Some.key, c.in-Some.value) c.key_of.ensures c.in-Some.is
          (c.in_ok-last.ensures.gives m (sight_same i.looked ∙ seen)) in
          let read = c.in-Ok.ensures in
          let key_is = prefixed c.args.prefix.now c.in-Some.key has
          ∙ ap (λ k. c.args.prefix.now ++ drop (length c.args.prefix.now) k) (sym c.as_slice-in-Some.ensures)
          ∙ ap (λ k. c.args.prefix.now ++ k) (sym c.split_at.ensures.back ∙ read.found.0) in
          let value_is = sym c.as_slice-in-Some-2.ensures ∙ read.found.1 in
          gone_at at_is (sym c.in_ok-push-in-Ok.ensures.ok)
          (gone_on (m c.args.space) c.in-Ok.row (i.gone m seen) next has read.can (λ k. (key_is k, value_is k)));
    }

pub returns-clause-gives : goal.returns-clause-gives
returns-clause-gives g c m rows seen can is =
    all_counted (c.loop.invariant.scanned m rows seen can is) (omega (
      arith,
      c.in_ok-limit.ensures.gives m seen,
      len-entries (m c.args.space),
    ))

pub returns-clause-found : goal.returns-clause-found
returns-clause-found g c m seen =
    counted_in (c.loop.invariant.gone m seen) (omega (
      arith,
      c.in_ok-limit.ensures.gives m seen,
      len-entries (m c.args.space),
    ))

pub returns-in_err-last-clause-puts : goal.returns-in_err-last-clause-puts
returns-in_err-last-clause-puts g c = puts_on 0 0 0 c.loop.invariant.puts c.in_err-last.ensures.puts (omega arith)

pub returns-in-None-clause-puts : goal.returns-in-None-clause-puts
returns-in-None-clause-puts g c = puts_on 0 0 0 c.loop.invariant.puts c.in_ok-last.ensures.puts (omega arith)

pub returns-then-not-begin_with-clause-puts : goal.returns-then-not-begin_with-clause-puts
returns-then-not-begin_with-clause-puts g c =
    puts_on 0 0 0 c.loop.invariant.puts c.in_ok-last.ensures.puts (omega arith)

pub returns-in_err-push-in-Ok-clause-puts : goal.returns-in_err-push-in-Ok-clause-puts
returns-in_err-push-in-Ok-clause-puts g c =
    puts_on 0 0 0 c.loop.invariant.puts c.in_ok-last.ensures.puts (omega arith)

pub returns-in-Err-clause-puts : goal.returns-in-Err-clause-puts
returns-in-Err-clause-puts g c = puts_on 0 0 0 c.loop.invariant.puts c.in_ok-last.ensures.puts (omega arith)
