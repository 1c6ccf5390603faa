-- The turn of a node that reads what was logged for the sets that it keeps.
use Rattle.std.proofs.Common.{◌≡◌, ◌∙◌, ◌<◌, ◌||◌, ℕ, true, List, [], ◌∷◌, get_or, length, map, set, Option, None, Some}
use Rattle.std.proofs.Common.{Result, Ok, refl, sym, ap, subst}
use Rattle.std.proofs.lemmas.List.{get_or_default, get_or-set_same}
use Rattle.std.specs.Prelude.{unwrap_or}
use Rattle.std.specs.Str.{bytes_eq}
use Rattle.slon_base.specs.Keeper.{Kept as KeptStore}
use Rattle.slon_base.specs.declared.fault.Halt.{Halt as HaltOf}
use Rattle.slon_base.specs.declared.keeper.Keeper.{Ghosts}
use Rattle.slon_model.specs.declared.reply.Refusal.{Refusal}
use Rattle.slon_model.specs.declared.reply.Reply.{Reply}
use Rattle.slon_model.specs.Deeds.{Node}
use Rattle.slon_model.specs.Events.{Event}
use Rattle.slon_model.specs.Following.{FoundSyncs, SetSync, kept_from}
use Rattle.slon_model.specs.Names.{Named}
use Rattle.slon_model.specs.Place.{Place}
use Rattle.slon_model.specs.Sessions.{World, Memory, Seat, bind}
use Rattle.slon_model.specs.Views.{View, Views}
use Rattle.slon_model.specs.Working.{ToFollow as FollowBy, provider_of, providers_in}
use Rattle.slon_model.specs.World.{is_of, is_of_one}
use Rattle.slon_model.proofs.Names.{bytes_itself}
use Rattle.slon_laws.specs.Fetches.{KeepFormed}
use Rattle.slon_laws.specs.Spelled.{IsSpelled}
use Rattle.slon_laws.specs.Worlds.{AllPlaces}
use Rattle.event_store.specs.declared.event.Event as declared
use Rattle.event_store.specs.Seen.{seen_event}
use Rattle.app_store.specs.Base.{Base, base_of}
use Rattle.app_store.specs.Fits.{Fits, Ready}
use Rattle.remote_worker.specs.declared.carrying.Errand.TheVariants.{Follow}
use Rattle.remote_worker.specs.declared.loading.Load.TheVariants.{Syncs}
use Rattle.remote_worker.specs.declared.loading.SetFetch.{SetFetch}
use Rattle.remote_worker.specs.declared.worker.Fetched.{Fetched}
use Rattle.remote_worker.specs.declared.worker.Taken.{Taken}
use Rattle.remote_worker.specs.declared.worker.Worker.{Worker}
use Rattle.remote_worker.specs.Keeping.{Kept, kept_for}
use Rattle.remote_worker.specs.Loading.{HasFound, HaveFetches}
use Rattle.remote_worker.specs.Working.{IsWith, waits_as}
use Rattle.slonik_exec.specs.declared.databases.Named.{Named as NamedDatabase}
use Rattle.slonik_exec.specs.Answering.{Answers, AtSeat, Checks}
use Rattle.slonik_exec.specs.Databases.{AreReady, bases_of}
use Rattle.slonik_exec.specs.Executing.{Breaks, Comes, Refuses}
use Rattle.slonik_exec.specs.Turning.{SitsOn}
use Rattle.slonik_exec.proofs.Lifting.{put_worked}
use Rattle.slonik_exec.proofs.Seating.{ready_mids}
use Rattle.slon_turns.specs.declared.following.Looked.TheVariants.{Told, Gives}
use Rattle.slon_turns.specs.declared.following.Round.{Round}
use Rattle.slon_turns.specs.declared.held.Held.{Held}
use Rattle.slon_turns.specs.declared.planning.Plan.TheVariants.{Follow as FollowPlan}
use Rattle.slon_turns.specs.Applying.{EndsWith, Finder, Post, WorksHere, end_at, followed_with, left_in, nodes_at}
use Rattle.slon_turns.specs.Applying.{seat_in}
use Rattle.slon_turns.specs.Bounds.{AreBounds}
use Rattle.slon_turns.specs.Fetching.{post_of}
use Rattle.slon_turns.specs.Following.{Arrives, BrokenSo, EndsLook, FollowsAll, FollowsFrom, FollowsSets, Onward}
use Rattle.slon_turns.specs.Following.{Heeds, RefusedSo, Way, due_onward, followed_each, followed_kept, goal_of}
use Rattle.slon_turns.specs.Following.{onward_post, sets_kept}
use Rattle.slon_turns.specs.Holding.{Holds, Keeps}
use Rattle.slon_turns.specs.Planning.{IsPlannedAnew}
use Rattle.slon_turns.specs.Polling.{Waits}
use Rattle.slon_turns.specs.Working.{CanTurn, Carries, CarriesOut, Due, Goal, TakesUp, Turn, left_after, sources_in}
use Rattle.slon_turns.specs.Working.{stated_turn, turned}
use Rattle.slon_turns.proofs.Applying.{left_fault, left_refused}
use Rattle.slon_turns.proofs.Follows.{name_same, or_left}
use Rattle.slon_turns.proofs.Linking.{breaks_told, planned_follow}
use Rattle.slon_turns.proofs.Mids.{mids_ready, worked_here}
use Rattle.slon_turns.proofs.Providers.{DoneAt, look_done}
use Rattle.slon_turns.proofs.Several.{AreRead}
use Rattle.slon_turns.proofs.Taking.{Planned, Turned, can_turn, goes_at, one_here, post_fits, sources_are, up_here}
use Rattle.slon_turns.proofs.Taking.{worked_due}
use Rattle.slon_turns.proofs.Turned.{own_id}
use Rattle.slon_turns.proofs.Visits.{calm_quiet}
use Rattle.slon_turns.proofs.Waiting.{keeps_but}

-- ---- what is due

-- what is due of each set, as the code has it and by the rules
each_same : (m : Memory) (s : Seat) (e : Event) (find : Finder) (vs : Views) →
    followed_each m s e find (map (kept_for s.node.id s.known.config e) vs) ≡ followed_with m s e find vs
each_same m s e find [] = refl
each_same m s e find (v ∷ vs) =
    ap (λ r. bind (followed_kept m s e find (kept_for s.node.id s.known.config e v))
    (λ t. bind r (λ ts. Ok (t ∷ ts)))) (each_same m s e find vs)

-- and from which nodes
providers_same : (s : Seat) (e : Event) (vs : Views) →
    map (λ (k : Kept). k.provider) (map (kept_for s.node.id s.known.config e) vs)
    ≡ map (λ (v : ℕ × View). provider_of e.origin s v.0) vs
providers_same s e [] = refl
providers_same s e (v ∷ vs) = ap (λ ns. provider_of e.origin s v.0 ∷ ns) (providers_same s e vs)

-- ---- at the node's own database

-- what it came to there is what the turn comes to
pub arrives_here : {K : Type 0} {g : Ghosts K} {kept : K → KeptStore} {ds : List (NamedDatabase K g)} {i : ℕ}
    {x y : NamedDatabase K g} {node : ℕ} {goal : Goal} {taken : Worker Taken} {w : World} {held left : Held}
    {reply : Reply} (t : Turned kept ds i x y) → AreReady w (bases_of kept ds) →
    (o : Onward node goal taken w x.name held) →
    Answers x.name (base_of kept x.database) reply (base_of kept y.database) →
    WorksHere (onward_post o) (due_onward o) reply (base_of kept y.database, left) →
    Arrives o reply (bases_of kept (set ds i y)) left
arrives_here {kept = kept} {ds} {i} {x} {y} {w = w} {reply = reply} t ready o answers works =
    let at = worked_here kept ds i x y t.distinct (t.inside, t.held) t.name in
    record {
      comes = subst (Comes w (stated_turn (due_onward o)) reply) (put_worked at)
          (goes_at (record { found = o.sits.found; running = o.sits.running; fits = ready.fits }) works.goes);
      own = λ other halt told.
          or_left (bytes_eq other x.name) _
          (ap (bytes_eq other) (sym (answers.own other halt told)) ∙ bytes_itself other);
      waits = works.stays.waits;
      keeps = λ up. works.stays.keeps (up_here t up);
    }

-- ---- what was read

-- one event was found
pub event_same : {found : Option declared.Event} {e o : declared.Event} → found ≡ Some e → found ≡ Some o → e ≡ o
event_same is other = cc

-- what the turn comes to, by what is due of the sets
abbrev due_by : Post → declared.Event → Result (List SetSync) Refusal → Result Due Refusal
due_by p e r = bind (bind r (λ ts. Ok (FoundSyncs ts))) (end_at p e)

due_sets : {node : ℕ} {goal : Goal} {taken : Worker Taken} {w : World} {name : List ℕ} {held : Held}
    (o : Onward node goal taken w name held) (ks : List Kept) → ks ≡ sets_kept o.sits.own (seen_event o.event) →
    due_onward o ≡ due_by (onward_post o) o.event
    (followed_each w.memory (seat_in (onward_post o)) (seen_event o.event) (nodes_at w) ks)
due_sets {w = w} o ks are =
    let p = onward_post o in
    let s = seat_in p in
    let e = seen_event o.event in
    sym (ap (due_by p o.event) (ap (followed_each w.memory s e (nodes_at w)) are
    ∙ each_same w.memory s e (nodes_at w) (kept_from e.origin s.known)))

-- one of the sets could not be read
pub arrives_told : {node : ℕ} {goal : Goal} {taken : Worker Taken} {w : World} {name : List ℕ} {held : Held}
    {reply : Reply} {new : Named Base} (o : Onward node goal taken w name held) (ks : List Kept) →
    ks ≡ sets_kept o.sits.own (seen_event o.event) →
    EndsLook w name (map (λ (k : Kept). k.provider) ks)
    (followed_each w.memory (seat_in (onward_post o)) (seen_event o.event) (nodes_at w) ks) reply new →
    Arrives o reply new held
arrives_told {goal = goal} {w = w} {name} {held} {new = new} o ks are (RefusedSo refusal due calm is fits) =
    let all = due_sets o ks are ∙ ap (due_by (onward_post o) o.event) due in
    let left = left_refused goal (Some (name, o.sits.place)) (due_onward o) refusal w.memory calm in
    subst (λ r. Arrives o r new held) (sym is) (record {
      comes = Refuses refusal (ap stated_turn all) refl fits;
      own = λ other halt told. let none = calm_quiet refusal calm in absurd cc;
      waits = subst (λ m. Waits name m held.queue) (sym left) o.holds.waits;
      keeps = λ up. subst (λ m. Keeps name m held.fetches) (sym left) o.holds.keeps;
    })
arrives_told {goal = goal} {w = w} {name} {held} {new = new} o ks are (BrokenSo b among) =
    let s = seat_in (onward_post o) in
    let e = seen_event o.event in
    let left = left_fault goal (Some (name, o.sits.place)) (due_onward o) b.name b.count w.memory in
    let nodes = sym (ap (map (λ (k : Kept). k.provider)) are ∙ providers_same s e (kept_from e.origin s.known)) in
    let named = ap (λ ns. bytes_eq b.name name || is_of_one b.name ns w) nodes ∙ among in
    subst (λ r. Arrives o r new held) (sym b.told) (record {
      comes = Breaks b.name b.count refl b.can b.fits;
      own = λ other halt told.
          subst (λ n. (bytes_eq n name || is_of_one n (providers_in e.origin s FollowBy) w) ≡ true)
          (ap (λ (z : Option (List ℕ × HaltOf)). (unwrap_or z (other, halt)).0) told) named;
      waits = subst (λ m. Waits name m held.queue) (sym left) o.holds.waits;
      keeps = λ up. subst (λ m. Keeps name m held.fetches) (sym left) o.holds.keeps;
    })

-- All were read, and what becomes of that at the node's own database.
pub record EndsOnward (x : Round) (fetches : List SetFetch) (name : List ℕ) (old : Base × Held) (reply : Reply)
    (new : Base × Held) : Type 0 where
  pub fetched : Worker Fetched
  pub with : IsWith x.taken (Some (Syncs fetches)) fetched
  pub answers : Answers name old.0 reply new.0
  pub ends : EndsWith x.aim name fetched old reply new

pub arrives_read : {K : Type 0} {g : Ghosts K} {kept : K → KeptStore} {ds : List (NamedDatabase K g)} {i : ℕ}
    {y z : NamedDatabase K g} {node : ℕ} {x : Round} {w : World} {held left : Held} {reply : Reply}
    (ts : List SetSync) (fetches : List SetFetch) → Turned kept ds i y z × AreReady w (bases_of kept ds) →
    EndsOnward x fetches y.name (base_of kept y.database, held) reply (base_of kept z.database, left) →
    (o : Onward node (goal_of x) x.taken w y.name held) →
    due_onward o ≡ end_at (onward_post o) o.event (FoundSyncs ts) × HaveFetches o.event.origin ts fetches →
    CanTurn (due_onward o) → Arrives o reply (bases_of kept (set ds i z)) left
arrives_read {kept = kept} {ds} {i} {y} {z} {x = x} {w} {held} {left} {reply} ts fetches (t, ready) e o (due, have)
    can =
    let p = onward_post o in
    let f = e.fetched in
    let fits = post_fits kept ds i y (t.distinct, t.inside, t.held) (ready, o.holds) (goal_of x) o.sits in
    arrives_here t ready o e.answers
    (subst (λ r. WorksHere p r reply (base_of kept z.database, left)) (sym due)
    (e.ends p o.event (FoundSyncs ts) refl
    (ap (λ origin. record { aim = x.aim; origin = origin }) (sym e.with.origin))
    (record {
      found = ap (λ origin. waits_as origin f.state.number held.queue) e.with.origin
          ∙ ap (λ n. waits_as x.taken.origin n held.queue) e.with.number ∙ o.took.found;
      kind = e.with.kind ∙ o.took.kind;
      finds = subst (HasFound o.event.origin (FoundSyncs ts)) (sym e.with.load_is) (ts, refl, have);
    })
    (record {
      ready = fits.ready;
      is = o.sits.is;
      waits = o.holds.waits;
      keeps = keeps_but f.origin y.name w.memory held.fetches o.holds.keeps;
    }) (subst CanTurn due can)))

-- the same for these sets, at the database that stands at the index of the node
pub sets_ended : {K : Type 0} {g : Ghosts K} {kept : K → KeptStore} {t : Way} {x : Round} {ks : List Kept}
    {olds news : List (NamedDatabase K g)} {held left : Held} {reply : Reply} (z : NamedDatabase K g)
    (fetches : List SetFetch) → AreRead kept t.index olds news × (t.index < length olds) →
    ((o : declared.Event) → waits_as x.taken.origin x.taken.state.number held.queue ≡ Some o →
    FollowsAll kept t (seen_event o) ks olds (Gives fetches) news) →
    ((y : NamedDatabase K g) → y ≡ get_or news t.index y → (z.name ≡ y.name)
    × EndsOnward x fetches y.name (base_of kept y.database, held) reply (base_of kept z.database, left)) →
    FollowsSets kept t x ks (olds, held) reply (set news t.index z, left)
sets_ended {kept = kept} {t} {x} {ks} {olds} {news} {held} {left} {reply} z fetches (r, inside) follows ends w d
    ready heeds is o are can =
    let found = follows o.event o.took.found w d ready heeds is o.sits in
    let mids = ready_mids ready found.3 in
    let y = get_or news t.index d in
    let y_held = get_or_default news t.index d y r.seat.0 in
    let named = name_same kept olds news t.index d r.same inside is in
    let end = ends y y_held in
    let due = due_sets o ks are ∙ ap (due_by (onward_post o) o.event) found.1 in
    subst (λ n. (q : Onward t.node (goal_of x) x.taken w n held) →
    due_onward q ≡ end_at (onward_post q) q.event (FoundSyncs found.0) × HaveFetches q.event.origin found.0 fetches →
    CanTurn (due_onward q) → Arrives q reply (bases_of kept (set news t.index z)) left) named
    (λ q. arrives_read {kept = kept} {ds = news} {i = t.index} {y = y} {z = z} {x = x} found.0 fetches (
      record { distinct = r.distinct; inside = r.seat.0; held = y_held; name = end.0 },
      mids,
    ) end.1 q) o (due, found.2) can

pub sets_stopped : {K : Type 0} {g : Ghosts K} {x : Round} {ks : List Kept} {held : Held} {reply : Reply}
    (kept : K → KeptStore) (t : Way) (olds news : List (NamedDatabase K g)) →
    ((o : declared.Event) → waits_as x.taken.origin x.taken.state.number held.queue ≡ Some o →
    FollowsAll kept t (seen_event o) ks olds (Told reply) news) →
    FollowsSets kept t x ks (olds, held) reply (news, held)
sets_stopped {ks = ks} kept t olds news follows w d ready heeds is o are can =
    arrives_told o ks are (follows o.event o.took.found w d ready heeds is o.sits)

-- more is known behind it
pub sets_known : {K : Type 0} {g : Ghosts K} {t : Way} {x : Round} {ks : List Kept} {held mid left : Held}
    {reply : Reply} (kept : K → KeptStore) (old new : List (NamedDatabase K g)) →
    (left.queue ≡ mid.queue) × (left.fetches ≡ mid.fetches) →
    FollowsSets kept t x ks (old, held) reply (new, mid) → FollowsSets kept t x ks (old, held) reply (new, left)
sets_known {left = left} {reply} kept old new (queue, fetches) follows w d ready heeds is o are can =
    let a = follows w d ready heeds is o are can in
    record {
      comes = a.comes;
      own = a.own;
      waits = subst (Waits d.name (left_in (onward_post o) (due_onward o) reply)) (sym queue) a.waits;
      keeps = λ up. subst (Keeps d.name (left_in (onward_post o) (due_onward o) reply)) (sym fetches) (a.keeps up);
    }

-- ---- behind a look at the sets

-- the store of the node failed
pub onward_failed : {K : Type 0} {g : Ghosts K} {kept : K → KeptStore} {t : Way} {r : Round}
    {ds : List (NamedDatabase K g)} {x y : NamedDatabase K g} {held : Held} {reply : Reply} →
    DoneAt kept ds t.index x y →
    Checks x.name (base_of kept x.database) (Some reply) (base_of kept y.database)
    × AtSeat x.name (λ s. []) (base_of kept x.database) (Some reply) (base_of kept y.database) →
    FollowsFrom kept t r (ds, held) reply (set ds t.index y, held)
onward_failed {kept = kept} {t} {r} {ds} {x} {y} {held} {reply} d (answers, ends) w e ready heeds is =
    subst (λ z. (o : Onward t.node (goal_of r) r.taken w z.name held) → CanTurn (due_onward o) →
    Arrives o reply (bases_of kept (set ds t.index y)) held)
    (sym (one_here ds t.index x e (d.inside, d.held) is))
    (λ o can.
    let at : Turned kept ds t.index x y = record {
      distinct = d.distinct;
      inside = d.inside;
      held = d.held;
      name = d.name;
    } in
    let fits = post_fits kept ds t.index x (d.distinct, d.inside, d.held) (ready, o.holds) (goal_of r) o.sits in
    arrives_here at ready o answers
    (breaks_told (due_onward o) (ends o.sits.place o.sits.own fits.ready o.sits.is) o.holds.waits))

-- they were looked up, and then read
pub onward_passed : {K : Type 0} {g : Ghosts K} {kept : K → KeptStore} {t : Way} {r : Round} {ks : List Kept}
    {ds : List (NamedDatabase K g)} {x y : NamedDatabase K g} {held left : Held} {reply : Reply}
    (news : List (NamedDatabase K g)) →
    DoneAt kept ds t.index x y × Checks x.name (base_of kept x.database) None (base_of kept y.database) →
    ((p : Place) (n : Node) → Ready p (base_of kept x.database) → p.node ≡ Some n → n.id ≡ r.taken.node →
    (e : declared.Event) → waits_as r.taken.origin r.taken.state.number held.queue ≡ Some e →
    (ks ≡ sets_kept n (seen_event e)) × Fits p (base_of kept y.database)) →
    FollowsSets kept t r ks (set ds t.index y, held) reply (news, left) →
    FollowsFrom kept t r (ds, held) reply (news, left)
onward_passed {kept = kept} {t} {r} {ks} {ds} {x} {y} {held} {left} {reply} news (d, checks) keeps follows w e ready
    heeds is =
    subst (λ z. (o : Onward t.node (goal_of r) r.taken w z.name held) → CanTurn (due_onward o) →
    Arrives o reply (bases_of kept news) left)
    (sym (one_here ds t.index x e (d.inside, d.held) is))
    (λ o can.
    let look = look_done d checks in
    let fits = post_fits kept ds t.index x (d.distinct, d.inside, d.held) (ready, o.holds) (goal_of r) o.sits in
    let found = keeps o.sits.place o.sits.own fits.ready o.sits.is (sym o.took.node) o.event o.took.found in
    let mids = mids_ready look ready (o.sits.found, o.sits.running) found.1 in
    let y_held = sym (get_or-set_same ds t.index y y d.inside) in
    subst (λ n. (q : Onward t.node (goal_of r) r.taken w n held) → ks ≡ sets_kept q.sits.own (seen_event q.event) →
    CanTurn (due_onward q) → Arrives q reply (bases_of kept news) left) d.name
    (follows w y mids heeds y_held) o found.0 can)

-- ---- behind a plan

-- What a node does that reads what was logged, in a session.
record Going (t : Turn) (v : World) (name : List ℕ) (w : Worker Taken) (goal : Goal) : Type 0 where
  held : Held
  sits : SitsOn t.node v name
  holds : Holds name v.memory held
  plan : IsPlannedAnew (post_of goal sits) w held.queue
  some : w.state.errand ≡ Some Follow
  takes : TakesUp t.node goal.origin v
  spelled : AllPlaces IsSpelled v
  formed : KeepFormed v

abbrev onward_of : {t : Turn} {v : World} {name : List ℕ} {w : Worker Taken} {goal : Goal} →
    (o : Going t v name w goal) → Onward t.node goal w v name o.held
onward_of o = record {
  sits = o.sits;
  holds = o.holds;
  event = o.plan.plan.event;
  took = o.plan.plan.took;
  next = o.plan.plan.next;
}

carries_onward : {t : Turn} {v : World} {name : List ℕ} {w : Worker Taken} {goal : Goal} {reply : Reply}
    {new : Named Base} {left : Held} → (o : Going t v name w goal) →
    (CanTurn (due_onward (onward_of o)) → Arrives (onward_of o) reply new left) →
    Carries goal t.node v name reply new left
carries_onward {t} {v} {name} {w} {goal} {reply} {new} {left} o arrives =
    let s = o.sits in
    let due : turned goal t.node v ≡ due_onward (onward_of o)
    = worked_due goal s ∙ planned_follow o.plan o.some (nodes_at v) in
    let d = arrives (subst CanTurn due (can_turn goal t.node v o.takes o.spelled o.formed)) in
    let same = ap (λ r. left_after goal (Some (name, s.place)) r reply v.memory) (sym due)
    ∙ ap (λ z. left_after goal z (turned goal t.node v) reply v.memory) (sym s.at) in
    record {
      comes = subst (λ r. Comes v (stated_turn r) reply new) (sym due) d.comes;
      own = λ other halt told.
          ap (λ e. is_of other e || is_of_one other (sources_in goal t.node v) v) s.at
          ∙ ap (λ ns. bytes_eq other name || is_of_one other ns v) (sources_are s o.plan Follow o.some)
          ∙ d.own other halt told;
      waits = subst (λ m. Waits name m left.queue) same d.waits;
      keeps = λ up. subst (λ m. Keeps name m left.fetches) same (d.keeps up);
    }

-- it read what was logged
pub carries_followed : {K : Type 0} {g : Ghosts K} {kept : K → KeptStore} {ds : List (NamedDatabase K g)}
    {x y : NamedDatabase K g} {reply : Reply} {held mid left : Held} {t : Turn} {w : Worker Taken}
    (news : List (NamedDatabase K g)) →
    Planned kept t ds held mid (FollowPlan w) x y × (w.origin ≡ t.goal.origin) →
    FollowsFrom kept (record { node = w.node; index = t.index; cuts = t.cuts; bounds = mid.bounds.items })
    (record { taken = w; aim = t.goal.aim }) (set ds t.index y, mid) reply (news, left) →
    CarriesOut kept t (ds, held) reply (news, left)
carries_followed {kept = kept} {ds} {x} {y} {reply} {held} {mid} {left} {t} {w} news (p, from) follows v d ready cuts
    known is =
    subst (λ e. SitsOn t.node v e.name → Holds e.name v.memory held → TakesUp t.node t.goal.origin v → KeepFormed v →
    Carries t.goal t.node v e.name reply (bases_of kept news) left)
    (sym (one_here ds t.index x d (p.look.inside, p.look.held) is))
    (λ s holds takes keep.
    let plan = p.plans (post_of t.goal s) refl refl cuts
    (post_fits kept ds t.index x (p.look.distinct, p.look.inside, p.look.held) (ready, holds) t.goal s) in
    let mids = mids_ready p.look ready (s.found, s.running) plan.3 in
    let goal : Goal = record { aim = t.goal.aim; origin = w.origin } in
    let aims : goal ≡ t.goal = ap (λ o. record { aim = t.goal.aim; origin = o }) from in
    let again = subst (IsPlannedAnew (post_of t.goal s) w) (sym p.queue) plan.0 in
    let o : Going t v x.name w goal = record {
      held = mid;
      sits = s;
      holds = plan.2;
      plan = subst (λ z. IsPlannedAnew (post_of z s) w mid.queue) (sym aims) again;
      some = plan.1;
      takes = subst (λ z. TakesUp t.node z v) (sym from) takes;
      spelled = ready.spelled;
      formed = keep;
    } in
    let own : w.node ≡ t.node = plan.0.plan.took.node ∙ own_id t.node v x.name s in
    let heeds : Heeds (record { node = t.node; index = t.index; cuts = t.cuts; bounds = mid.bounds.items }) v
    = record { cuts = cuts; bounds = subst (AreBounds v) (sym (ap (λ b. b.items) p.bounds)) known } in
    let as_own = subst (λ n. FollowsFrom kept
    (record { node = n; index = t.index; cuts = t.cuts; bounds = mid.bounds.items })
    (record { taken = w; aim = t.goal.aim }) (set ds t.index y, mid) reply (news, left)) own follows in
    subst (λ z. Carries z t.node v x.name reply (bases_of kept news) left) aims
    (carries_onward o
    (subst (λ n. (q : Onward t.node goal w v n mid) → CanTurn (due_onward q) →
    Arrives q reply (bases_of kept news) left)
    p.look.name (as_own v y mids heeds (sym (get_or-set_same ds t.index y y p.look.inside))) (onward_of o))))
