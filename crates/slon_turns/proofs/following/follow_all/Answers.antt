use Rattle.std.proofs.Common.{rules, ◌∙◌, [], true, sym, subst, ap}
use Rattle.std.specs.List.{AllByRecursion}
use Rattle.std.specs.Vec.Iter.{into_iter_items}
use Rattle.std.proofs.lemmas.List.{nil_from_length}
use Rattle.event_store.specs.Seen.{seen_event}
use Rattle.remote_worker.specs.Loading.{CanFetch}
use Rattle.remote_worker.specs.Running.{CanRun, sets_of_all}
use Rattle.slonik_exec.specs.Databases.{bases_of}
use Rattle.slonik_exec.proofs.Hearing.{same_itself}
use Rattle.slonik_exec.proofs.Trying.{tries_itself}
use Rattle.slon_turns.specs.Following.{CanGive, FollowsGroup, RunsLooked, Way, group_of}
use Rattle.slon_turns.proofs.Several.{AreRead, LeavesSets, all_both, none_read, read_next, runs_told, sets_all}
use Rattle.slon_turns.proofs.Several.{sets_next, sets_told}
use Rattle.slon_turns.proofs.following.follow_all.Goals as goal

pub loop-run-init : goal.loop-run-init
loop-run-init g c =
    let kept = g.K.Keeper.kept in
    let ds = c.args.databases.now in
    let way = c.args.way in
    let t : Way =
    record { node = way.node; index = way.index; cuts = way.cuts.now; bounds = c.args.bounds.now } in
    let e = seen_event c.args.event.now in
    let all = c.args.sets in
    let items = c.into_iter-run-iterator.ensures.into_iter_gives.0 ∙ c.into_vec-run-items.ensures in
    let can_left = subst (AllByRecursion CanRun) (sym items) c.in_ok-runs_of.ensures.can in
    let read : AreRead kept way.index ds ds = record {
      distinct = c.requires.distinct;
      seat = c.requires.seat;
      tries = tries_itself true (bases_of kept ds);
      same = same_itself (bases_of kept ds);
    } in
    let sets = sym (ap sets_of_all items ∙ c.in_ok-runs_of.ensures.sets) in
    let left = sets_of_all (into_iter_items c.into_iter-run-iterator.result) in
    let leaves : LeavesSets kept t e all left c.new-fetches.result ds ds =
    subst (λ fetches. LeavesSets kept t e all left fetches ds ds) (sym c.new-fetches.ensures)
    (subst (λ l. LeavesSets kept t e all l [] ds ds) sets (none_read kept t e all ds)) in
    search (rules, can_left, read, leaves)

pub follow_run-requires-clause-distinct : goal.follow_run-requires-clause-distinct
follow_run-requires-clause-distinct g c = c.loop-run.invariant.read.distinct

pub follow_run-requires-clause-seat : goal.follow_run-requires-clause-seat
follow_run-requires-clause-seat g c = c.loop-run.invariant.read.seat

pub follow_run-requires-clause-can : goal.follow_run-requires-clause-can
follow_run-requires-clause-can g c = (
  c.requires.can.0,
  (subst (AllByRecursion CanRun) c.in-Some.ensures.steps.0 c.loop-run.invariant.can_left).0,
)

pub loop-run-preserved : goal.loop-run-preserved
loop-run-preserved g c =
    let kept = g.K.Keeper.kept in
    let ds = c.args.databases.now in
    let mids = c.loop-run.databases in
    let news = c.follow_run.new.databases in
    let way = c.args.way in
    let t : Way =
    record { node = way.node; index = way.index; cuts = way.cuts.now; bounds = c.args.bounds.now } in
    let e = seen_event c.args.event.now in
    let all = c.args.sets in
    let left = into_iter_items c.next.new.self in
    let r = c.in-Some.run' in
    let more = c.in-Gives.more in
    let before = c.loop-run.invariant in
    let found = c.in_ok-reply.ensures in
    let step = c.in-Some.ensures.steps.0 in
    let runs_can = subst (AllByRecursion CanRun) step before.can_left in
    let can_left = runs_can.1 in
    let can_more = subst (CanGive (AllByRecursion CanFetch)) c.in-Gives.is found.can in
    let runs = subst (λ o. RunsLooked (bases_of kept mids) o (bases_of kept news)) c.in-Gives.is found.runs in
    let follows = subst (λ o. FollowsGroup kept t e (group_of r) mids o news) c.in-Gives.is found.follows in
    let can = subst (AllByRecursion CanFetch) (sym c.in_ok-push_all-in-Gives.ensures)
    (all_both CanFetch c.loop-run.fetches more before.can can_more) in
    let read = read_next news before.read runs in
    let leaves : LeavesSets kept t e all (sets_of_all left) c.push_all.new.fetches ds news =
    subst (λ fetches. LeavesSets kept t e all (sets_of_all left) fetches ds news)
    (sym c.in_ok-push_all-in-Gives.ensures)
    (sets_next {t = t} {e = e} {all = all} {left = sets_of_all left} news r more
    (before.read, c.requires.seat, runs_can.0)
    (subst (λ items. LeavesSets kept t e all (sets_of_all items) c.loop-run.fetches ds mids) step before.leaves)
    follows) in
    search (rules, can_left, can, read, leaves)

pub returns-in-Told : goal.returns-in-Told
returns-in-Told g c =
    let kept = g.K.Keeper.kept in
    let ds = c.args.databases.now in
    let mids = c.loop-run.databases in
    let news = c.follow_run.new.databases in
    let way = c.args.way in
    let t : Way =
    record { node = way.node; index = way.index; cuts = way.cuts.now; bounds = c.args.bounds.now } in
    let e = seen_event c.args.event.now in
    let all = c.args.sets in
    let r = c.in-Some.run' in
    let before = c.loop-run.invariant in
    let found = c.in_ok-reply.ensures in
    let step = c.in-Some.ensures.steps.0 in
    let runs_can = subst (AllByRecursion CanRun) step before.can_left in
    record {
      can = tt;
      runs = runs_told c.in-Told.reply news before.read
          (subst (λ o. RunsLooked (bases_of kept mids) o (bases_of kept news)) c.in-Told.is found.runs);
      follows = sets_told {t = t} {e = e} {all = all} news (sets_of_all (into_iter_items c.next.new.self)) r
          (before.read, c.requires.seat, runs_can.0)
          (subst (λ items. LeavesSets kept t e all (sets_of_all items) c.loop-run.fetches ds mids) step before.leaves)
          (subst (λ o. FollowsGroup kept t e (group_of r) mids o news) c.in-Told.is found.follows);
    }

pub returns : goal.returns
returns g c =
    let kept = g.K.Keeper.kept in
    let ds = c.args.databases.now in
    let way = c.args.way in
    let t : Way =
    record { node = way.node; index = way.index; cuts = way.cuts.now; bounds = c.args.bounds.now } in
    let e = seen_event c.args.event.now in
    let all = c.args.sets in
    let last = c.loop-run.invariant in
    let end = nil_from_length (into_iter_items c.loop-run.run-iterator)
    (sym last.counted ∙ c.in-None.ensures.steps.0) in
    record {
      can = last.can;
      runs = (last.read.tries, last.read.same);
      follows = sets_all {e = e} {all = all} kept t ds c.loop-run.databases
          (subst (λ left. LeavesSets kept t e all (sets_of_all left) c.loop-run.fetches ds c.loop-run.databases) end
          last.leaves);
    }
