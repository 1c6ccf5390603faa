use Rattle.std.proofs.Common.{get_or, set, None, Some, subst}
use Rattle.std.proofs.lemmas.List.{get_or_default}
use Rattle.std.proofs.lemmas.Result.{IfOk-weaker}
use Rattle.event_store.specs.Seen.{seen_event}
use Rattle.app_store.specs.Base.{base_of}
use Rattle.slonik_exec.specs.Answering.{AtSeat, Checks}
use Rattle.slonik_exec.proofs.Lifting.{runs_worked}
use Rattle.slon_turns.specs.Following.{FollowsAt, Way, group_of}
use Rattle.slon_turns.specs.Planning.{link_checks}
use Rattle.slon_turns.proofs.Mids.{mids_distinct, worked_here}
use Rattle.slon_turns.proofs.Providers.{DoneAt, Linked, link_ended, link_passed, look_done, runs_behind}
use Rattle.slon_turns.proofs.following.follow_run.Goals as goal

pub check_link-requires-clause-ids : goal.check_link-requires-clause-ids
check_link-requires-clause-ids g c = (c.requires.can.0, c.requires.can.1.can.0.provider)

pub returns-in-Some : goal.returns-in-Some
returns-in-Some g c =
    let kept = g.K.Keeper.kept in
    let items = c.args.databases.now in
    let way = c.args.way in
    let k = group_of c.args.run in
    let e = seen_event c.args.event.now in
    let reply = c.in-Some.reply in
    let x = get_or items way.index c.index-databases-way.result in
    let y = c.check_link.new.own in
    let held = get_or_default items way.index c.index-databases-way.result x c.requires.seat.0 in
    let t : Way =
    record { node = way.node; index = way.index; cuts = way.cuts.now; bounds = c.args.bounds.now } in
    let l : Linked kept t k items x y (Some reply) = record {
      done = record {
        distinct = c.requires.distinct;
        inside = c.requires.seat.0;
        held = held;
        name = c.in_ok-reply.ensures.name;
      };
      checks = subst (λ o. Checks x.name (base_of kept x.database) o (base_of kept y.database)) c.in-Some.is
          c.in_ok-reply.ensures.checks;
      refuses = subst (λ o. AtSeat x.name (link_checks way.node k.first.provider way.cuts.now)
          (base_of kept x.database) o (base_of kept y.database)) c.in-Some.is c.in_ok-reply.ensures.refuses;
    } in
    record {
      can = tt;
      runs = runs_worked reply
          (worked_here kept items way.index x y c.requires.distinct (c.requires.seat.0, held) l.done.name) l.checks;
      follows = link_ended e k l;
    }

pub follow_at-requires-clause-distinct : goal.follow_at-requires-clause-distinct
follow_at-requires-clause-distinct g c =
    let kept = g.K.Keeper.kept in
    let items = c.args.databases.now in
    let way = c.args.way in
    let x = get_or items way.index c.index-databases-way.result in
    let y = c.check_link.new.own in
    let d : DoneAt kept items way.index x y = record {
      distinct = c.requires.distinct;
      inside = c.requires.seat.0;
      held = get_or_default items way.index c.index-databases-way.result x c.requires.seat.0;
      name = c.in_ok-reply.ensures.name;
    } in
    mids_distinct (look_done d (subst (λ o. Checks x.name (base_of kept x.database) o (base_of kept y.database))
    c.in_default.is c.in_ok-reply.ensures.checks))

pub returns : goal.returns
returns g c =
    let kept = g.K.Keeper.kept in
    let items = c.args.databases.now in
    let way = c.args.way in
    let k = group_of c.args.run in
    let e = seen_event c.args.event.now in
    let t : Way =
    record { node = way.node; index = way.index; cuts = way.cuts.now; bounds = c.args.bounds.now } in
    let x = get_or items way.index c.index-databases-way.result in
    let y = c.check_link.new.own in
    let l : Linked kept t k items x y None = record {
      done = record {
        distinct = c.requires.distinct;
        inside = c.requires.seat.0;
        held = get_or_default items way.index c.index-databases-way.result x c.requires.seat.0;
        name = c.in_ok-reply.ensures.name;
      };
      checks = subst (λ o. Checks x.name (base_of kept x.database) o (base_of kept y.database)) c.in_default.is
          c.in_ok-reply.ensures.checks;
      refuses = subst (λ o. AtSeat x.name (link_checks way.node k.first.provider way.cuts.now)
          (base_of kept x.database) o (base_of kept y.database)) c.in_default.is c.in_ok-reply.ensures.refuses;
    } in
    let news = c.follow_at.new.databases in
    record {
      can = c.follow_at.ensures.can;
      runs = IfOk-weaker c.follow_at.result _ _ (λ given runs. runs_behind news given (look_done l.done l.checks) runs)
          c.follow_at.ensures.runs;
      follows = IfOk-weaker c.follow_at.result _ _ (λ given follows.
          link_passed {t = t} news e k given l
          (subst (λ n. FollowsAt kept (record { node = way.node; event = e; known = n }) k (set items way.index y) given
          news) c.start_of-known.ensures follows)) c.follow_at.ensures.follows;
    }
