use Rattle.std.proofs.Common.{◌≡◌, ◌∙◌, ℕ, true, List, get_or, set, None, Some, map, refl, sym, ap, subst}
use Rattle.std.proofs.lemmas.List.{get_or_default}
use Rattle.std.specs.List.{AllByRecursion}
use Rattle.store_rows.specs.Rows.{IsId}
use Rattle.store_rows.specs.Space.{AllOf}
use Rattle.event_store.specs.declared.event.Event.{Event}
use Rattle.event_store.specs.Seen.{seen_event}
use Rattle.app_store.specs.Base.{base_of}
use Rattle.remote_worker.specs.Keeping.{seen_kept}
use Rattle.remote_worker.specs.Loading.{CanFetch, CanLoad, last_logged}
use Rattle.remote_worker.specs.Working.{IsAble, waits_as}
use Rattle.node_state.proofs.Formed.{if_ok}
use Rattle.slonik_exec.specs.Databases.{bases_of, Runs}
use Rattle.slonik_exec.proofs.Distinct.{distinct_tries}
use Rattle.slonik_exec.proofs.Lifting.{runs_worked}
use Rattle.slonik_exec.proofs.Trying.{runs_then}
use Rattle.slon_turns.specs.declared.bounds.Bound.{Bound}
use Rattle.slon_turns.specs.declared.held.Held.{Held}
use Rattle.slon_turns.specs.declared.following.Looked.TheVariants.{Told, Gives}
use Rattle.slon_turns.specs.Bounds.{IsKnownBy, learned}
use Rattle.slon_turns.specs.Following.{CanGive, FollowsAll, FollowsSets, LearnsSets, RunsLooked, Way}
use Rattle.slon_turns.proofs.Follows.{seat_same}
use Rattle.slon_turns.proofs.Handed.{at_ok}
use Rattle.slon_turns.proofs.Learning.{sets_learn, sets_same}
use Rattle.slon_turns.proofs.Mids.{worked_here}
use Rattle.slon_turns.proofs.Onwards.{EndsOnward, event_same, sets_ended, sets_known, sets_stopped}
use Rattle.slon_turns.proofs.Several.{AreRead}
use Rattle.slon_turns.proofs.following.follow_sets.Goals as goal

pub follow_all-requires-clause-can : goal.follow_all-requires-clause-can
follow_all-requires-clause-can g c = (subst IsId (sym c.requires.own) c.requires.can.0.1, c.requires.can.1)

-- the way of the node, by what it knows
abbrev way_by : (node index : ℕ) (cuts : List (ℕ × ℕ)) → List Bound → Way
way_by node index cuts bounds = record { node = node; index = index; cuts = cuts; bounds = bounds }

pub returns-in-Told : goal.returns-in-Told
returns-in-Told g c =
    let kept = g.K.Keeper.kept in
    let ds = c.args.databases.now in
    let news = c.follow_all.new.databases in
    let way = c.args.way in
    let held = c.args.held.now in
    let t = way_by way.node way.index way.cuts.now held.bounds.items in
    let ks = map seen_kept c.args.sets in
    let found = c.in_ok-reply.ensures in
    record {
      runs = subst (λ o. RunsLooked (bases_of kept ds) o (bases_of kept news)) c.in-Told.is found.runs;
      follows = sets_stopped {x = c.args.round} kept t ds news (λ o is.
          subst (λ (e : Event). FollowsAll kept t (seen_event e) ks ds (Told c.in-Told.reply) news)
          (event_same (sym c.in-Some.ensures) is)
          (subst (λ bs. FollowsAll kept (way_by way.node way.index way.cuts.now bs) (seen_event c.in-Some.event.now) ks
          ds (Told c.in-Told.reply) news) c.as_slice.ensures.value
          (subst (λ o. FollowsAll kept (way_by way.node way.index way.cuts.now c.as_slice.result.now)
          (seen_event c.in-Some.event.now) ks ds o news) c.in-Told.is found.follows)));
      learns = sets_same kept t c.args.round ks (ds, held);
    }

pub end_at-ended-requires-clause-able : goal.end_at-ended-requires-clause-able
end_at-ended-requires-clause-able g c =
    let queue = c.args.held.now.queue in
    let taken = c.args.round.taken in
    subst (λ o. IsAble (waits_as o c.with-fetched.result.state.number queue)) (sym c.with-fetched.ensures.origin)
    (subst (λ n. IsAble (waits_as taken.origin n queue)) (sym c.with-fetched.ensures.number) c.requires.can.0.0)

pub end_at-ended-requires-clause-can : goal.end_at-ended-requires-clause-can
end_at-ended-requires-clause-can g c =
    subst CanLoad (sym c.with-fetched.ensures.load_is)
    (subst (CanGive (AllByRecursion CanFetch)) c.in-Gives.is c.in_ok-reply.ensures.can)

pub end_at-ended-requires-clause-up : goal.end_at-ended-requires-clause-up
end_at-ended-requires-clause-up g c =
    let kept = g.K.Keeper.kept in
    let ds = c.args.databases.now in
    let news = c.follow_all.new.databases in
    let i = c.args.way.index in
    let runs = subst (λ o. RunsLooked (bases_of kept ds) o (bases_of kept news)) c.in-Gives.is
    c.in_ok-reply.ensures.runs in
    let distinct = distinct_tries true None (bases_of kept ds) (bases_of kept news) runs.0 c.requires.distinct in
    let seat = seat_same kept ds news i runs.1 distinct c.requires.seat in
    let y = get_or news i c.index-databases-way.result in
    let held = get_or_default news i c.index-databases-way.result y seat.0 in
    (seat.1 y held).here.up y held

pub end_at-ended-requires-clause-node : goal.end_at-ended-requires-clause-node
end_at-ended-requires-clause-node g c =
    let kept = g.K.Keeper.kept in
    let ds = c.args.databases.now in
    let news = c.follow_all.new.databases in
    let i = c.args.way.index in
    let runs = subst (λ o. RunsLooked (bases_of kept ds) o (bases_of kept news)) c.in-Gives.is
    c.in_ok-reply.ensures.runs in
    let distinct = distinct_tries true None (bases_of kept ds) (bases_of kept news) runs.0 c.requires.distinct in
    let seat = seat_same kept ds news i runs.1 distinct c.requires.seat in
    let y = get_or news i c.index-databases-way.result in
    let held = get_or_default news i c.index-databases-way.result y seat.0 in
    (seat.1 y held).node y held

pub returns-in-Gives : goal.returns-in-Gives
returns-in-Gives g c =
    let kept = g.K.Keeper.kept in
    let ds = c.args.databases.now in
    let news = c.follow_all.new.databases in
    let way = c.args.way in
    let i = way.index in
    let old = c.args.held.now in
    let t = way_by way.node i way.cuts.now old.bounds.items in
    let x = c.args.round in
    let ks = map seen_kept c.args.sets in
    let fetches = c.in-Gives.fetches in
    let found = c.in_ok-reply.ensures in
    let runs = subst (λ o. RunsLooked (bases_of kept ds) o (bases_of kept news)) c.in-Gives.is found.runs in
    let distinct = distinct_tries true None (bases_of kept ds) (bases_of kept news) runs.0 c.requires.distinct in
    let seat = seat_same kept ds news i runs.1 distinct c.requires.seat in
    let read : AreRead kept i ds news = record { distinct = distinct; seat = seat; tries = runs.0; same = runs.1 } in
    let y = get_or news i c.index-databases-way.result in
    let z = c.end_at-ended.new.own in
    let held = get_or_default news i c.index-databases-way.result y seat.0 in
    let follows : (o : Event) → waits_as x.taken.origin x.taken.state.number old.queue ≡ Some o →
    FollowsAll kept t (seen_event o) ks ds (Gives fetches) news = λ o is.
    subst (λ (e : Event). FollowsAll kept t (seen_event e) ks ds (Gives fetches) news)
    (event_same (sym c.in-Some.ensures) is)
    (subst (λ bs. FollowsAll kept (way_by way.node i way.cuts.now bs) (seen_event c.in-Some.event.now) ks ds
    (Gives fetches) news) c.as_slice.ensures.value
    (subst (λ o. FollowsAll kept (way_by way.node i way.cuts.now c.as_slice.result.now)
    (seen_event c.in-Some.event.now) ks ds o news) c.in-Gives.is found.follows)) in
    let known = c.known_by-known.result in
    let last = c.last_logged.ensures ∙ ap last_logged c.as_slice-in-Gives.ensures.value in
    let left : Held = record c.end_at-ended.new.held { bounds = c.learn_behind.new.bounds } in
    record {
      runs = if_ok _ (λ reply. Runs (bases_of kept ds) reply (bases_of kept (set news i z))) c.learn_behind.result
          (λ reply turned. runs_then reply (bases_of kept ds) (bases_of kept news) (bases_of kept (set news i z)) runs.0
          (runs_worked reply (worked_here kept news i y z distinct (seat.0, held) c.end_at-ended.ensures.name)
          (at_ok _ c.end_at-ended.result reply turned.0 c.end_at-ended.ensures.answers))) c.learn_behind.ensures;
      follows = if_ok _ (λ reply. FollowsSets kept t x ks (ds, old) reply (set news i z, left)) c.learn_behind.result
          (λ reply turned. sets_known {mid = c.end_at-ended.new.held} kept ds (set news i z) (refl, refl)
          (sets_ended {t = t} {x = x} z fetches (read, c.requires.seat.0) follows (λ e at.
          let same = at ∙ get_or_default news i e c.index-databases-way.result seat.0 in
          subst (λ q. (z.name ≡ q.name) × EndsOnward x fetches q.name (base_of kept q.database, old) reply
          (base_of kept z.database, c.end_at-ended.new.held)) (sym same) (
            c.end_at-ended.ensures.name,
            record {
              fetched = c.with-fetched.result;
              with = c.with-fetched.ensures;
              answers = at_ok _ c.end_at-ended.result reply turned.0 c.end_at-ended.ensures.answers;
              ends = at_ok _ c.end_at-ended.result reply turned.0 c.end_at-ended.ensures.ends;
            },
          )))) c.learn_behind.ensures;
      learns = if_ok _ (λ reply. LearnsSets kept t x ks (ds, old) left) c.learn_behind.result (λ reply turned.
          sets_learn {kept = kept} {t = t} {x = x} {ks = ks} (record {
            news = news;
            fetches = fetches;
            known = known;
            xmin = c.in-Some.event.now.taken.xmin;
            follows = follows;
            each = λ e at. subst (λ (o : Event). AllOf (IsKnownBy (seen_event o) (last_logged fetches)) known)
                (event_same (sym c.in-Some.ensures) at)
                (subst (λ n. AllOf (IsKnownBy (seen_event c.in-Some.event.now) n) known) last c.known_by-known.ensures);
          }) left
          (turned.1 ∙ ap (λ b. learned c.in-Some.event.now.taken.xmin known b.items) c.end_at-ended.ensures.bounds))
          c.learn_behind.ensures;
    }
