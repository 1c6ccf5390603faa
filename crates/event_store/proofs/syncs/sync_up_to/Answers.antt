use Rattle.std.proofs.Common.{◌≡◌, ◌∙◌, ◌+◌, ◌-◌, Some, rules, sym, ap, arith}
use Rattle.std.proofs.lemmas.Result.{err_from_is_err_and}
use Rattle.std.specs.Option.{option_map}
use Rattle.slon_base.specs.Keeper.{Store, sight}
use Rattle.store_rows.proofs.Spaces.{sight_on}
use Rattle.slon_model.specs.Events.{last_sync}
use Rattle.txn_core.specs.Snapshots.{seen_as}
use Rattle.event_store.specs.Holds.{HoldsStreams}
use Rattle.event_store.specs.Streams.{Streams}
use Rattle.event_store.specs.Syncing.{taken_of}
use Rattle.event_store.proofs.Formed.{gives_stop}
use Rattle.event_store.proofs.LastSync.{passed, reached, none_left}
use Rattle.event_store.proofs.syncs.sync_up_to.Goals as goal

pub returns-in_err-found-clause-says : goal.returns-in_err-found-clause-says
returns-in_err-found-clause-says g c m s seen held =
    let old = g.K.Keeper.kept c.args.keeper.now in
    let mid = g.K.Keeper.kept c.loop-back.keeper in
    let before = c.loop-back.invariant in
    gives_stop _ c.from_residual.result (err_from_is_err_and c.from_residual.result c.from_residual.ensures.1)
    (c.in_err-found.ensures.says m s (sight_on old mid before.held before.same ∙ seen) held)

pub returns-in-Some-clause-says : goal.returns-in-Some-clause-says
returns-in-Some-clause-says g c m s seen held =
    let old = g.K.Keeper.kept c.args.keeper.now in
    let mid = g.K.Keeper.kept c.loop-back.keeper in
    let before = c.loop-back.invariant in
    reached c.args.own s.events c.args.last c.loop-back.back c.in_ok-found.found _ (record {
      more = c.loop-back-test.true;
      there = c.in_ok-found.ensures.says m s (sight_on old mid before.held before.same ∙ seen) held;
    }) (sym c.sync_taken.ensures ∙ ap (option_map seen_as) c.in-Some.is)
    ∙ before.behind m s seen held

pub loop-back-preserved : goal.loop-back-preserved
loop-back-preserved g c =
    let old = g.K.Keeper.kept c.args.keeper.now in
    let mid = g.K.Keeper.kept c.loop-back.keeper in
    let before = c.loop-back.invariant in
    let behind : (m : Store) (s : Streams) → sight old ≡ Some m → HoldsStreams s m →
    taken_of (last_sync c.args.own s.events (c.args.last - (c.loop-back.back + 1)))
    ≡ taken_of (last_sync c.args.own s.events c.args.last) =
    λ m s seen held. passed c.args.own s.events c.args.last c.loop-back.back c.in_ok-found.found (record {
      more = c.loop-back-test.true;
      there = c.in_ok-found.ensures.says m s (sight_on old mid before.held before.same ∙ seen) held;
    }) (sym c.sync_taken.ensures ∙ ap (option_map seen_as) c.in_default.is)
    ∙ before.behind m s seen held in
    search (rules, behind)

pub returns-clause-says : goal.returns-clause-says
returns-clause-says g c m s seen held =
    sym (none_left c.args.own s.events c.args.last c.loop-back.back
    (omega (arith, c.loop-back-test.false)))
    ∙ c.loop-back.invariant.behind m s seen held
