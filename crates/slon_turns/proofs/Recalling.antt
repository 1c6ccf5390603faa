-- What a node is to do with the event that it took, by what it keeps of that.
use Rattle.std.proofs.Common.{◌≡◌, ◌∙◌, ◌==◌, ℕ, Bool, true, false, cond, List, [], Option, Some, None, Result, Ok, Err}
use Rattle.std.proofs.Common.{refl, sym, ap, subst}
use Rattle.std.specs.Prelude.{IfOk}
use Rattle.std.proofs.lemmas.Bool.{eq-eqb}
use Rattle.slon_model.specs.declared.fault.DbFault.{DbFault}
use Rattle.slon_model.specs.declared.reply.Reply.{Reply}
use Rattle.slon_model.specs.Maps.{entry_at}
use Rattle.slon_model.specs.Following.{Found, FoundNothing}
use Rattle.slon_model.specs.Deeds.{knowledge}
use Rattle.slon_model.specs.Sessions.{Fetch as FetchOf, Memory, bind}
use Rattle.slon_model.specs.Place.{Place}
use Rattle.slon_model.specs.World.{refusal_of}
use Rattle.slon_model.specs.Working.{fetched_for, fetches_at, still}
use Rattle.store_rows.specs.Rows.{IsId}
use Rattle.set_config.proofs.Entries.{eq_of}
use Rattle.event_store.specs.declared.event.Event.{Event}
use Rattle.event_store.specs.declared.queue.Queue.{Queue}
use Rattle.event_store.specs.Seen.{seen_event}
use Rattle.app_store.specs.Base.{Base}
use Rattle.app_store.specs.Fits.{Fits, Ready}
use Rattle.app_store.specs.Parts.{FellTo, Fell}
use Rattle.node_store.specs.Acting.{Acts}
use Rattle.node_store.proofs.Chaining.{acts_then}
use Rattle.remote_worker.specs.declared.carrying.Copying.{Copying}
use Rattle.remote_worker.specs.declared.carrying.Errand.{Errand}
use Rattle.remote_worker.specs.declared.carrying.Errand.TheVariants.{Copy}
use Rattle.remote_worker.specs.declared.fetches.Fetches.{Fetches}
use Rattle.remote_worker.specs.declared.fetches.Kept.{Kept}
use Rattle.remote_worker.specs.declared.worker.Taken.{Taken}
use Rattle.remote_worker.specs.declared.worker.Worker.{Worker}
use Rattle.remote_worker.specs.Fetching.{CanCopy}
use Rattle.remote_worker.specs.Kept.{FitsFetch, for_number, kept_at}
use Rattle.remote_worker.specs.Loading.{CanLoad, HasFound}
use Rattle.remote_worker.specs.Working.{waits_as, IsAble}
use Rattle.remote_worker.proofs.Abilities.{found_is}
use Rattle.slonik_exec.specs.Answering.{EndsAt, BrokenAt}
use Rattle.slonik_exec.proofs.Asking.{one_place}
use Rattle.slonik_exec.proofs.Telling.{words_at}
use Rattle.slonik_exec.proofs.Works.{answers_then}
use Rattle.slon_turns.specs.declared.held.Held.{Held}
use Rattle.slon_turns.specs.declared.planning.Plan.{Plan}
use Rattle.slon_turns.specs.declared.planning.Plan.TheVariants.{Told, Has, Bring, Follow}
use Rattle.slon_turns.specs.declared.working.Aim.{Aim}
use Rattle.slon_turns.specs.declared.working.Aim.TheVariants.{Fetch, Apply}
use Rattle.slon_turns.specs.Applying.{Post, PostFits, due_at, end_at, found_kept, seat_in}
use Rattle.slon_turns.specs.Holding.{Holds, Keeps}
use Rattle.slon_turns.specs.Planning.{CanPlan, IsPlanned, IsPlannedAnew, PlanRuns, Plans, PlansFrom}
use Rattle.slon_turns.specs.Planning.{PlansOwn, kept_to}
use Rattle.slon_turns.specs.Polling.{Waits}
use Rattle.slon_turns.specs.Recalling.{IsAnew, IsBringer, IsRecalled, PlansAnew, Recalls}
use Rattle.slon_turns.specs.Working.{recalled}
use Rattle.slon_turns.proofs.Linking as linking
use Rattle.slon_turns.proofs.Linking.{breaks_told, link_reaches, link_told, planned_alone}

-- ---- what is kept

-- What is kept of fetches at a database, in the code and by the rules.
record Stock : Type 0 where
  name : List ℕ
  memory : Memory
  fetches : Fetches
  keeps : Keeps name memory fetches

abbrev stock_of : {s : Post} {old : Base × Held} → PostFits s old → Stock
stock_of {s} {old} fits = record {
  name = s.name;
  memory = s.memory;
  fetches = old.1.fetches;
  keeps = fits.holds.keeps;
}

-- by the rules too what the code keeps of the event is kept
kept_found : (aim : Aim) (origin number : ℕ) (s : Stock) (kept : Kept) →
    Some kept ≡ kept_to aim number (kept_at origin s.fetches) →
    (e : Event) → (e.origin ≡ origin) × (e.number ≡ number) →
    (f : Found) × (recalled aim s.name (seen_event e) s.memory ≡ Some f) × HasFound e.origin f kept.load
kept_found Fetch origin number s kept is e same = absurd cc
kept_found Apply origin number s kept is e (from, at) =
    subst R (sym from) (at_number (kept_at origin s.fetches) is (s.keeps origin))
  where
    R : ℕ → Type 0
    R o =
        (f : Found) × (fetched_for e.number (entry_at o (fetches_at s.name s.memory)) ≡ Some f)
        × HasFound o f kept.load

    entry : (k : Kept) (o : Option FetchOf) → FitsFetch origin o (Some k) → k ≡ kept → k.number ≡ number →
        (f : Found) × (fetched_for e.number o ≡ Some f) × HasFound origin f kept.load
    entry k None fits same is = absurd fits
    entry k (Some fe) (equal, has) same is = (
      fe.found,
      ap (λ b. cond b (Some fe.found) None) (eq-eqb fe.number e.number (equal ∙ is ∙ sym at)),
      subst (λ (x : Kept). HasFound origin fe.found x.load) same has,
    )

    tested : (k : Kept) (b : Bool) → (k.number == number) ≡ b → Some kept ≡ cond b (Some k) None →
        FitsFetch origin (entry_at origin (fetches_at s.name s.memory)) (Some k) → R origin
    tested k true equal is fits =
        let same : k ≡ kept = cc in
        entry k (entry_at origin (fetches_at s.name s.memory)) fits same (eq_of k.number number equal)
    tested k false equal is fits = absurd cc

    at_number : (o : Option Kept) → Some kept ≡ for_number number o →
        FitsFetch origin (entry_at origin (fetches_at s.name s.memory)) o → R origin
    at_number None is fits = absurd cc
    at_number (Some k) is fits = tested k (k.number == number) refl is fits

-- and where it keeps nothing of it nothing is kept
nothing_kept : (aim : Aim) (origin number : ℕ) (s : Stock) → None ≡ kept_to aim number (kept_at origin s.fetches) →
    (e : Event) → (e.origin ≡ origin) × (e.number ≡ number) → recalled aim s.name (seen_event e) s.memory ≡ None
nothing_kept Fetch origin number s is e same = refl
nothing_kept Apply origin number s is e (from, at) =
    subst (λ o. fetched_for e.number (entry_at o (fetches_at s.name s.memory)) ≡ None) (sym from)
    (at_number (kept_at origin s.fetches) is (s.keeps origin))
  where
    entry : (k : Kept) (o : Option FetchOf) → FitsFetch origin o (Some k) → (k.number == number) ≡ false →
        fetched_for e.number o ≡ None
    entry k None fits other = absurd fits
    entry k (Some fe) (equal, has) other =
        ap (λ b. cond b (Some fe.found) None) (ap (λ n. n == e.number) equal ∙ ap (λ n. k.number == n) at ∙ other)

    lacking : (o : Option FetchOf) → FitsFetch origin o None → fetched_for e.number o ≡ None
    lacking None fits = refl
    lacking (Some fe) fits = absurd fits

    tested : (k : Kept) (b : Bool) → (k.number == number) ≡ b → None ≡ cond b (Some k) None →
        FitsFetch origin (entry_at origin (fetches_at s.name s.memory)) (Some k) →
        fetched_for e.number (entry_at origin (fetches_at s.name s.memory)) ≡ None
    tested k true equal is fits = absurd cc
    tested k false equal is fits = entry k (entry_at origin (fetches_at s.name s.memory)) fits equal

    at_number : (o : Option Kept) → None ≡ for_number number o →
        FitsFetch origin (entry_at origin (fetches_at s.name s.memory)) o →
        fetched_for e.number (entry_at origin (fetches_at s.name s.memory)) ≡ None
    at_number None is fits = lacking (entry_at origin (fetches_at s.name s.memory)) fits
    at_number (Some k) is fits = tested k (k.number == number) refl is fits

-- ---- it keeps something

-- The node took this event, of which it keeps this, and holds the rest.
pub record Recall (s : Post) (taken : Worker Taken) (kept : Kept) (old : Base × Held) (held : Held) : Type 0 where
  pub plan : IsPlanned s taken old.1.queue
  pub fits : PostFits s old
  pub is : Some kept ≡ kept_to s.goal.aim taken.state.number (kept_at taken.origin old.1.fetches)
  pub queue : held.queue ≡ old.1.queue
  pub rest : (other : ℕ) → (taken.origin == other) ≡ false →
      kept_at other held.fetches ≡ kept_at other old.1.fetches

pub recall_plans : {s : Post} {taken : Worker Taken} {kept : Kept} {old : Base × Held} {held : Held} {mid : Base}
    (new : Base) (plan : Plan) → Recall s taken kept old held → Ready s.place mid → IsRecalled taken plan →
    Recalls s.name kept.load mid plan new → Plans s old.1.queue plan (new, held)
recall_plans {s} {old = old} new (Told reply) r ready same recalls = λ find.
    breaks_told (due_at s.goal s.memory (seat_in s) find) (recalls s.place s.node ready r.fits.is)
    (subst (Waits s.name s.memory) (sym r.queue) r.fits.holds.waits)
recall_plans {s} {taken} {kept} {old} {held} new (Has w) r ready same recalls =
    let e = r.plan.event in
    let at = found_is taken.origin taken.state.number old.1.queue e r.plan.took.found in
    let found = kept_found s.goal.aim taken.origin taken.state.number (stock_of r.fits) kept r.is e at in
    let left = recalls s.place s.node ready r.fits.is in (
      record {
        event = e;
        found = still (knowledge s.node) found.0;
        for = record {
          found = ap (λ o. waits_as o w.state.number old.1.queue) same.origin
              ∙ ap (λ n. waits_as taken.origin n old.1.queue) same.number ∙ r.plan.took.found;
          kind = same.kind ∙ r.plan.took.kind;
          finds = left.0 e.origin found.0 found.2;
        };
        due = λ find. r.plan.due find
            ∙ ap (λ o. bind (found_kept s.memory (seat_in s) (seen_event e) find o) (end_at s e)) found.1;
      },
      record {
        waits = subst (Waits s.name s.memory) (sym r.queue) r.fits.holds.waits;
        keeps = λ other apart. subst (FitsFetch other (entry_at other (fetches_at s.name s.memory)))
            (sym (r.rest other (ap (λ o. o == other) (sym same.origin) ∙ apart))) (r.fits.holds.keeps other);
      },
      left.1,
    )
recall_plans new others r ready same recalls = absurd same

-- ---- it keeps nothing

-- The node took this event, of which it keeps nothing, and holds what it held.
pub record Anew (s : Post) (taken : Worker Taken) (old : Base × Held) (held : Held) (name : List ℕ)
    (cuts : List (ℕ × ℕ)) : Type 0 where
  pub plan : IsPlanned s taken old.1.queue
  pub fits : PostFits s old
  pub none : None ≡ kept_to s.goal.aim taken.state.number (kept_at taken.origin old.1.fetches)
  pub queue : held.queue ≡ old.1.queue
  pub same : (other : ℕ) → kept_at other held.fetches ≡ kept_at other old.1.fetches
  pub named : s.name ≡ name
  pub cut : s.memory.cuts ≡ cuts

anew_holds : {s : Post} {taken : Worker Taken} {old : Base × Held} {held : Held} {name : List ℕ}
    {cuts : List (ℕ × ℕ)} → Anew s taken old held name cuts → Holds s.name s.memory held
anew_holds {s} a = record {
  waits = subst (Waits s.name s.memory) (sym a.queue) a.fits.holds.waits;
  keeps = λ other. subst (FitsFetch other (entry_at other (fetches_at s.name s.memory))) (sym (a.same other))
      (a.fits.holds.keeps other);
}

abbrev anew_planned : {s : Post} {taken : Worker Taken} {old : Base × Held} {held : Held} {name : List ℕ}
    {cuts : List (ℕ × ℕ)} → Anew s taken old held name cuts → IsPlannedAnew s taken old.1.queue
anew_planned {s} {taken} {old} a = record {
  plan = a.plan;
  none = nothing_kept s.goal.aim taken.origin taken.state.number (stock_of a.fits) a.none a.plan.event
      (found_is taken.origin taken.state.number old.1.queue a.plan.event a.plan.took.found);
}

pub anew_plans : {s : Post} {taken : Worker Taken} {old : Base × Held} {held : Held} {name : List ℕ}
    {cuts : List (ℕ × ℕ)} {mid : Base} (new : Base) (plan : Plan) → Anew s taken old held name cuts →
    Ready s.place mid → IsAnew taken plan → PlansAnew taken cuts name mid plan new →
    Plans s old.1.queue plan (new, held)
anew_plans {s} new (Told reply) a ready same (c, some, told) = λ find.
    link_told {plan = anew_planned a} (record { some = some; named = a.named; cut = a.cut })
    (told s.place s.node ready a.fits.is) (anew_holds a) find
anew_plans {s} {taken} {old} {held} {mid = mid} new (Has w) a ready (with, none) is =
    let p = anew_planned a in
    let e = a.plan.event in (
      record {
        event = e;
        found = FoundNothing;
        for = record {
          found = ap (λ o. waits_as o w.state.number old.1.queue) with.origin
              ∙ ap (λ n. waits_as taken.origin n old.1.queue) with.number ∙ a.plan.took.found;
          kind = with.kind ∙ a.plan.took.kind;
          finds = subst (HasFound e.origin FoundNothing) (sym with.load_is) refl;
        };
        due = planned_alone p none;
      },
      record { waits = (anew_holds a).waits; keeps = λ other apart. (anew_holds a).keeps other },
      subst (Fits s.place) (sym is) ready.fits,
    )
anew_plans {s} {taken} {old} {held} new (Follow w) a ready (same, some) is = (
  subst (λ x. IsPlannedAnew s x old.1.queue) (sym same) (anew_planned a),
  ap (λ (x : Worker Taken). x.state.errand) same ∙ some,
  anew_holds a,
  subst (Fits s.place) (sym is) ready.fits,
)
anew_plans {s} {taken} {old} {held} {name} {cuts} new (Bring w c) a ready sent told =
    let p = anew_planned a in
    let t : linking.Told p c name cuts = record { some = sent.some; named = a.named; cut = a.cut } in
    let checked = told s.place s.node ready a.fits.is in (
      subst (λ x. IsPlannedAnew s x old.1.queue) (sym sent.same) p,
      ap (λ (x : Worker Taken). x.state.errand) sent.same ∙ sent.some,
      link_reaches t checked.0,
      anew_holds a,
      checked.1,
    )

-- ---- over every store

-- nothing failed before, and the memory was as it had been
pub runs_on : {old mid : Base} (name : List ℕ) (new : Base) (plan : Plan) → Acts None old mid →
    mid.memory ≡ old.memory → PlanRuns name mid plan new → PlanRuns name old plan new
runs_on name new (Told reply) acts same runs = answers_then acts runs
runs_on name new others acts same runs = (acts_then None _ _ _ acts runs.0, runs.1 ∙ same)

-- an event that can be applied
pub recall_can : (queue : Queue) (taken : Worker Taken) (plan : Plan) →
    IsAble (waits_as taken.origin taken.state.number queue) → IsRecalled taken plan → CanPlan queue plan
recall_can queue taken (Told reply) able same = tt
recall_can queue taken (Has w) able same = (
  subst (λ o. IsAble (waits_as o w.state.number queue)) (sym same.origin)
      (subst (λ n. IsAble (waits_as taken.origin n queue)) (sym same.number) able),
  same.can,
)
recall_can queue taken others able same = absurd same

pub anew_can : (queue : Queue) (taken : Worker Taken) (plan : Plan) →
    IsAble (waits_as taken.origin taken.state.number queue) × IsId taken.node × IsBringer taken.state.errand →
    IsAnew taken plan → CanPlan queue plan
anew_can queue taken (Told reply) able same = tt
anew_can queue taken (Has w) (able, id, brings) (with, none) = (
  subst (λ o. IsAble (waits_as o w.state.number queue)) (sym with.origin)
      (subst (λ n. IsAble (waits_as taken.origin n queue)) (sym with.number) able),
  subst CanLoad (sym with.load_is) tt,
)
anew_can queue taken (Bring w c) (able, id, brings) sent =
    subst (λ (x : Worker Taken). CanPlan queue (Bring x c)) (sym sent.same)
    (able, id, subst IsBringer sent.some brings, sent.apart)
anew_can queue taken (Follow w) (able, id, brings) same =
    subst (λ (x : Worker Taken). CanPlan queue (Follow x)) (sym same.0) (able, id)

pub bringer_of : (o : Option Errand) → ((c : Copying) → o ≡ Some (Copy c) → CanCopy c) → IsBringer o
bringer_of None can = tt
bringer_of (Some (Copy c)) can = can c refl
bringer_of (Some others) can = tt

-- it is about the same event
pub recall_own : (own : ℕ) (taken : Worker Taken) (plan : Plan) → taken.node ≡ own → IsRecalled taken plan →
    PlansOwn own plan
recall_own own taken (Told reply) is same = tt
recall_own own taken (Has w) is same = same.node ∙ is
recall_own own taken others is same = absurd same

pub anew_own : (own : ℕ) (taken : Worker Taken) (plan : Plan) → taken.node ≡ own → IsAnew taken plan →
    PlansOwn own plan
anew_own own taken (Told reply) is same = tt
anew_own own taken (Has w) is same = same.0.node ∙ is
anew_own own taken (Bring w c) is sent = ap (λ (x : Worker Taken). x.node) sent.same ∙ is
anew_own own taken (Follow w) is same = ap (λ (x : Worker Taken). x.node) same.0 ∙ is

pub recall_from : (origin : ℕ) (taken : Worker Taken) (plan : Plan) → taken.origin ≡ origin → IsRecalled taken plan →
    PlansFrom origin plan
recall_from origin taken (Told reply) is same = tt
recall_from origin taken (Has w) is same = same.origin ∙ is
recall_from origin taken others is same = absurd same

pub anew_from : (origin : ℕ) (taken : Worker Taken) (plan : Plan) → taken.origin ≡ origin → IsAnew taken plan →
    PlansFrom origin plan
anew_from origin taken (Told reply) is same = tt
anew_from origin taken (Has w) is same = same.0.origin ∙ is
anew_from origin taken (Bring w c) is sent = ap (λ (x : Worker Taken). x.origin) sent.same ∙ is
anew_from origin taken (Follow w) is same = ap (λ (x : Worker Taken). x.origin) same.0 ∙ is

-- the store of the node failed, with no check
pub fell_ends : {name : List ℕ} {p : Place} {reply : Reply} {fault : DbFault} {new : Base} →
    FellTo p p fault new → reply ≡ refusal_of (words_at name) fault → EndsAt name p [] reply new
fell_ends {name} {p} {new = new} (Fell count stands is rose fits) told =
    BrokenAt count (told ∙ ap (refusal_of (words_at name)) is) rose (one_place p count stands new fits)

-- two facts of a result
pub if_two : {X E : Type 0} {P Q R : X → Type 0} (r : Result X E) → ((x : X) → P x → Q x → R x) →
    IfOk r P → IfOk r Q → IfOk r R
if_two (Ok x) both p q = both x p q
if_two (Err e) both p q = tt
