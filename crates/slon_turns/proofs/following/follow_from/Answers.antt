use Rattle.std.proofs.Common.{◌≡◌, Some, get_or, set, map, sym, subst}
use Rattle.std.proofs.lemmas.List.{get_or_default}
use Rattle.std.proofs.lemmas.Result.{IfOk-weaker}
use Rattle.slon_model.specs.Deeds.{Node}
use Rattle.slon_model.specs.Place.{Place}
use Rattle.event_store.specs.declared.event.Event.{Event}
use Rattle.event_store.specs.Seen.{seen_event}
use Rattle.app_store.specs.Base.{base_of}
use Rattle.app_store.specs.Fits.{Fits, Ready}
use Rattle.slon_base.specs.Codec.{AllAre}
use Rattle.remote_worker.specs.Keeping.{CanFollow, seen_kept}
use Rattle.remote_worker.specs.Working.{waits_as}
use Rattle.slonik_exec.specs.Databases.{bases_of}
use Rattle.slonik_exec.proofs.Lifting.{runs_worked}
use Rattle.slonik_exec.proofs.Trying.{runs_then}
use Rattle.slon_turns.specs.Following.{CanGive, KeepsAt, Way, sets_kept}
use Rattle.slon_turns.proofs.Learning.{from_same, learns_passed}
use Rattle.slon_turns.proofs.Mids.{mids_distinct, mids_seat, mids_try, worked_here}
use Rattle.slon_turns.proofs.Onwards.{event_same, onward_failed, onward_passed}
use Rattle.slon_turns.proofs.Providers.{DoneAt, look_done}
use Rattle.slon_turns.proofs.following.follow_from.Goals as goal

pub returns-in-Told : goal.returns-in-Told
returns-in-Told g c =
    let kept = g.K.Keeper.kept in
    let ds = c.args.databases.now in
    let way = c.args.way in
    let i = way.index in
    let t : Way =
    record { node = way.node; index = i; cuts = way.cuts.now; bounds = c.args.held.now.bounds.items } in
    let x = get_or ds i c.index-databases-way.result in
    let y = c.read_sets.new.own in
    let d : DoneAt kept ds i x y = record {
      distinct = c.requires.distinct;
      inside = c.requires.seat.0;
      held = get_or_default ds i c.index-databases-way.result x c.requires.seat.0;
      name = c.in_ok-reply.ensures.name;
    } in
    let keeps = subst (λ o. KeepsAt c.args.round.taken.node
    (seen_event c.in-Some.event.now) x.name (base_of kept x.database) o (base_of kept y.database)) c.in-Told.is
    c.in_ok-reply.ensures.keeps in
    record {
      runs = runs_worked c.in-Told.reply (worked_here kept ds i x y d.distinct (d.inside, d.held) d.name) keeps.0;
      follows = onward_failed {t = t} d keeps;
      learns = from_same kept t c.args.round (ds, c.args.held.now);
    }

pub follow_sets-requires-clause-can : goal.follow_sets-requires-clause-can
follow_sets-requires-clause-can g c = (
  c.requires.can,
  subst (CanGive (AllAre CanFollow)) c.in-Gives.is c.in_ok-reply.ensures.can,
)

pub follow_sets-requires-clause-distinct : goal.follow_sets-requires-clause-distinct
follow_sets-requires-clause-distinct g c =
    let kept = g.K.Keeper.kept in
    let ds = c.args.databases.now in
    let i = c.args.way.index in
    let x = get_or ds i c.index-databases-way.result in
    let y = c.read_sets.new.own in
    let d : DoneAt kept ds i x y = record {
      distinct = c.requires.distinct;
      inside = c.requires.seat.0;
      held = get_or_default ds i c.index-databases-way.result x c.requires.seat.0;
      name = c.in_ok-reply.ensures.name;
    } in
    let keeps = subst (λ o. KeepsAt c.args.round.taken.node
    (seen_event c.in-Some.event.now) x.name (base_of kept x.database) o (base_of kept y.database)) c.in-Gives.is
    c.in_ok-reply.ensures.keeps in
    mids_distinct (look_done d keeps.0)

pub follow_sets-requires-clause-seat : goal.follow_sets-requires-clause-seat
follow_sets-requires-clause-seat g c =
    let kept = g.K.Keeper.kept in
    let ds = c.args.databases.now in
    let i = c.args.way.index in
    let x = get_or ds i c.index-databases-way.result in
    let y = c.read_sets.new.own in
    let d : DoneAt kept ds i x y = record {
      distinct = c.requires.distinct;
      inside = c.requires.seat.0;
      held = get_or_default ds i c.index-databases-way.result x c.requires.seat.0;
      name = c.in_ok-reply.ensures.name;
    } in
    let keeps = subst (λ o. KeepsAt c.args.round.taken.node
    (seen_event c.in-Some.event.now) x.name (base_of kept x.database) o (base_of kept y.database)) c.in-Gives.is
    c.in_ok-reply.ensures.keeps in
    mids_seat (look_done d keeps.0) c.requires.seat

pub returns-in-Gives : goal.returns-in-Gives
returns-in-Gives g c =
    let kept = g.K.Keeper.kept in
    let ds = c.args.databases.now in
    let way = c.args.way in
    let i = way.index in
    let t : Way =
    record { node = way.node; index = i; cuts = way.cuts.now; bounds = c.args.held.now.bounds.items } in
    let r = c.args.round in
    let x = get_or ds i c.index-databases-way.result in
    let y = c.read_sets.new.own in
    let news = c.follow_sets.new.databases in
    let ks = map seen_kept c.in-Gives.sets in
    let e = c.in-Some.event.now in
    let d : DoneAt kept ds i x y = record {
      distinct = c.requires.distinct;
      inside = c.requires.seat.0;
      held = get_or_default ds i c.index-databases-way.result x c.requires.seat.0;
      name = c.in_ok-reply.ensures.name;
    } in
    let keeps = subst (λ o. KeepsAt r.taken.node (seen_event e) x.name
    (base_of kept x.database) o (base_of kept y.database)) c.in-Gives.is c.in_ok-reply.ensures.keeps in
    let sets : (p : Place) (n : Node) → Ready p (base_of kept x.database) → p.node ≡ Some n → n.id ≡ r.taken.node →
    (o : Event) → waits_as r.taken.origin r.taken.state.number c.args.held.now.queue ≡ Some o →
    (ks ≡ sets_kept n (seen_event o)) × Fits p (base_of kept y.database) = λ p n ready is own o found.
    let at = keeps.1 p n ready is in
    (subst (λ (z : Event). ks ≡ sets_kept n (seen_event z)) (event_same (sym c.in-Some.ensures) found) (at.0 own), at.1)
    in
    record {
      runs = IfOk-weaker c.follow_sets.result _ _ (λ reply runs.
          runs_then reply (bases_of kept ds) (bases_of kept (set ds i y)) (bases_of kept news)
          (mids_try (look_done d keeps.0)) runs) c.follow_sets.ensures.runs;
      follows = IfOk-weaker c.follow_sets.result _ _ (λ reply follows.
          onward_passed {t = t} {r = r} {ks = ks} news (d, keeps.0) sets follows) c.follow_sets.ensures.follows;
      learns = IfOk-weaker c.follow_sets.result _ _ (λ reply learns.
          learns_passed {t = t} {r = r} {ks = ks} c.follow_sets.new.held (d, keeps.0) sets learns)
          c.follow_sets.ensures.learns;
    }
