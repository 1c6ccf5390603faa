use Rattle.std.proofs.Common.{◌≡◌, ◌∙◌, ℕ, ◌+◌, ◌-◌, ◌<◌, ◌^◌, ◌∷◌, Option, Some, None, ap, arith, drop, length, refl}
use Rattle.std.proofs.Common.{rules, subst, sym}
use Rattle.std.specs.List.{AllByRecursion}
use Rattle.std.specs.Option.{option_map}
use Rattle.std.proofs.lemmas.List.{drop_more}
use Rattle.slon_base.specs.Keeper.{Store}
use Rattle.change_capture.specs.declared.log_row.LogRow.{LogRow}
use Rattle.change_capture.specs.Spellings.{CanLogRow}
use Rattle.log_switch.specs.Holds.{put_logs}
use Rattle.store_rows.proofs.Putting.{LeavesRoom, none_more, room_end, room_first, room_on}
use Rattle.log_switch.proofs.appending.append.Goals as goal

pub loop-number-init : goal.loop-number-init
loop-number-init g c =
    let all = length c.args.rows.now in
    let old = (g.K.Keeper.kept c.args.keeper.now).puts in
    let puts : LeavesRoom (all - 0) all old old = room_first 0 (all - 0) all (none_more refl) (omega arith) in
    search (rules, puts)

-- one more row, and then the others
both : (f h : Store → Store) (o : Option (Option Store)) →
    option_map (option_map f) (option_map (option_map h) o) ≡ option_map (option_map (λ m. f (h m))) o
both f h None = refl
both f h (Some None) = refl
both f h (Some (Some m)) = refl

pub loop-number-preserved : goal.loop-number-preserved
loop-number-preserved g c =
    let rows = c.args.rows.now in
    let all = length rows in
    let at = c.loop-number.number-index in
    let more = drop (at + 1) rows in
    let origin = c.args.origin in
    let mid = g.K.Keeper.kept c.loop-number.keeper in
    let row : ℕ × LogRow = c.loop-number-item.result in
    let step = drop_more rows at row c.loop-number-test.true ∙ ap (λ r. r ∷ more) (sym c.loop-number-item.is) in
    let before = c.loop-number.invariant in
    let put = c.in_ok-put_row_in.ensures in
    record {
      still = λ n most. put.safe.still n (before.still n most);
      puts = room_on 1 (all - at) (all - (at + 1)) all before.puts put.puts (omega (arith, c.loop-number-test.true));
      rests = λ n up. put.safe.quiet refl n (before.rests n up);
      told = λ told from. put.safe.told told (before.told told from);
      later = omega (arith, before.later, put.safe.later);
      held = put.safe.held ∙ before.held;
      doubts = put.safe.doubts ∙ before.doubts;
      opened = put.safe.opened ∙ before.opened;
      can = (subst (AllByRecursion (λ r. (r.0 < 2 ^ 63) × CanLogRow r.1)) step before.can).1;
      rest = ap (option_map (option_map (put_logs origin more))) put.put
          ∙ both (put_logs origin more) _ mid.pending
          ∙ ap (λ rs. option_map (option_map (put_logs origin rs)) mid.pending) (sym step) ∙ before.rest;
    }

pub returns-in_err-put_row_in-clause-puts : goal.returns-in_err-put_row_in-clause-puts
returns-in_err-put_row_in-clause-puts g c =
    let all = length c.args.rows.now in
    let at = c.loop-number.number-index in
    room_end (all - (at + 1)) all (room_on 1 (all - at) (all - (at + 1)) all c.loop-number.invariant.puts
    c.in_err-put_row_in.ensures.puts (omega (arith, c.loop-number-test.true)))

pub returns-clause-puts : goal.returns-clause-puts
returns-clause-puts g c =
    let all = length c.args.rows.now in
    room_end (all - c.loop-number.number-index) all c.loop-number.invariant.puts
