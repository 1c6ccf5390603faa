-- What a node knows of the transactions of other nodes behind a turn.
use Rattle.std.proofs.Common.{◌≡◌, ◌∙◌, ℕ, List, get_or, set, None, Option, Some, refl, sym, ap, subst}
use Rattle.std.proofs.lemmas.List.{get_or-set_same}
use Rattle.std.specs.FinMap.{get, insert, remove}
use Rattle.slon_base.specs.Keeper.{Kept as KeptStore}
use Rattle.slon_base.specs.declared.keeper.Keeper.{Ghosts}
use Rattle.store_rows.specs.Space.{AllOf}
use Rattle.slon_model.specs.Deeds.{Node}
use Rattle.slon_model.specs.Place.{Place}
use Rattle.slon_model.specs.Sessions.{seat}
use Rattle.slon_model.specs.Turns.{Switches}
use Rattle.event_store.specs.declared.event.Event as declared
use Rattle.event_store.specs.Seen.{seen_event}
use Rattle.app_store.specs.Base.{base_of}
use Rattle.app_store.specs.Fits.{Fits, Ready}
use Rattle.remote_worker.specs.declared.loading.SetFetch.{SetFetch}
use Rattle.remote_worker.specs.declared.worker.Taken.{Taken}
use Rattle.remote_worker.specs.declared.worker.Worker.{Worker}
use Rattle.remote_worker.specs.Keeping.{Kept}
use Rattle.remote_worker.specs.Loading.{last_logged}
use Rattle.remote_worker.specs.Working.{waits_as}
use Rattle.slonik_exec.specs.declared.databases.Named.{Named as NamedDatabase}
use Rattle.slonik_exec.specs.declared.reaching.Reached.TheVariants.{At}
use Rattle.slonik_exec.specs.Answering.{Checks}
use Rattle.slonik_exec.specs.Databases.{bases_of}
use Rattle.slonik_exec.specs.Turning.{HasTurn, SitsOn}
use Rattle.slon_turns.specs.declared.bounds.Bound.{Bound}
use Rattle.slon_turns.specs.declared.following.Looked.TheVariants.{Gives}
use Rattle.slon_turns.specs.declared.following.Round.{Round}
use Rattle.slon_turns.specs.declared.held.Held.{Held}
use Rattle.slon_turns.specs.declared.planning.Plan.TheVariants.{Follow as FollowPlan}
use Rattle.slon_turns.specs.Bounds.{AreBounds, AreLearned, IsKnownBy, learned}
use Rattle.slon_turns.specs.Fetching.{post_of}
use Rattle.slon_turns.specs.Following.{FollowsAll, Heeds, LearnsFrom, LearnsSets, Onward, Way, goal_of, sets_kept}
use Rattle.slon_turns.specs.Holding.{Holdings, Holds, IsTaken}
use Rattle.slon_turns.specs.Planning.{IsPlannedAnew}
use Rattle.slon_turns.specs.Turning.{Kept as Both}
use Rattle.slon_turns.specs.Working.{Goal, Learns, LearnsAt, Turn}
use Rattle.slon_turns.proofs.Entries.{last_taken}
use Rattle.slon_turns.proofs.Known.{learned_more, learned_none}
use Rattle.slon_turns.proofs.Mids.{mids_ready}
use Rattle.slon_turns.proofs.Providers.{DoneAt, look_done}
use Rattle.slon_turns.proofs.Taking.{Planned, one_here, post_fits}
use Rattle.slon_turns.proofs.Turned.{own_id}
use Rattle.slon_turns.proofs.Waiting.{bounds_beside, taken_bounds, taken_keeps, taken_waits}

-- ---- what was read

-- nothing is learned
pub sets_same : {K : Type 0} {g : Ghosts K} (kept : K → KeptStore) (t : Way) (x : Round) (ks : List Kept)
    (old : List (NamedDatabase K g) × Held) → LearnsSets kept t x ks old old.1
sets_same kept t x ks old w d ready heeds is o are = learned_none w x.taken.origin refl

pub from_same : {K : Type 0} {g : Ghosts K} (kept : K → KeptStore) (t : Way) (x : Round)
    (old : List (NamedDatabase K g) × Held) → LearnsFrom kept t x old old.1
from_same kept t x old w d ready heeds is o = learned_none w x.taken.origin refl

-- What was read of these sets, and what is known by that and by the event that was taken.
pub record Readings {K : Type 0} {g : Ghosts K} (kept : K → KeptStore) (t : Way) (x : Round) (ks : List Kept)
    (olds : List (NamedDatabase K g)) (held : Held) : Type 0 where
  pub news : List (NamedDatabase K g)
  pub fetches : List SetFetch
  pub known : Option Bound
  pub xmin : ℕ
  pub follows : (e : declared.Event) → waits_as x.taken.origin x.taken.state.number held.queue ≡ Some e →
      FollowsAll kept t (seen_event e) ks olds (Gives fetches) news
  pub each : (e : declared.Event) → waits_as x.taken.origin x.taken.state.number held.queue ≡ Some e →
      AllOf (IsKnownBy (seen_event e) (last_logged fetches)) known

pub sets_learn : {K : Type 0} {g : Ghosts K} {kept : K → KeptStore} {t : Way} {x : Round} {ks : List Kept}
    {olds : List (NamedDatabase K g)} {held : Held} (r : Readings kept t x ks olds held) (left : Held) →
    left.bounds.items ≡ learned r.xmin r.known held.bounds.items → LearnsSets kept t x ks (olds, held) left
sets_learn {x = x} {ks} {held = held} r left becomes w d ready heeds is o are =
    let found = r.follows o.event o.took.found w d ready heeds is o.sits in
    let s = seat d.name o.sits.place o.sits.own in
    let e = seen_event o.event in
    subst (AreLearned w x.taken.origin held.bounds.items) (sym becomes)
    (learned_more w x.taken.origin r.xmin r.known held.bounds.items (λ b some.
    let k = subst (AllOf (IsKnownBy e (last_logged r.fetches))) some (r.each o.event o.took.found) in
    record {
      seat = s;
      event = e;
      next = o.next;
      number = k.0;
      taken = last_taken w s e k.0 ks r.fetches (record { syncs = found.0; due = found.1; have = found.2 }) k.1;
      is = k.2;
    }))

-- behind a look at the sets
pub learns_passed : {K : Type 0} {g : Ghosts K} {kept : K → KeptStore} {t : Way} {r : Round} {ks : List Kept}
    {ds : List (NamedDatabase K g)} {x y : NamedDatabase K g} {held : Held} (left : Held) →
    DoneAt kept ds t.index x y × Checks x.name (base_of kept x.database) None (base_of kept y.database) →
    ((p : Place) (n : Node) → Ready p (base_of kept x.database) → p.node ≡ Some n → n.id ≡ r.taken.node →
    (e : declared.Event) → waits_as r.taken.origin r.taken.state.number held.queue ≡ Some e →
    (ks ≡ sets_kept n (seen_event e)) × Fits p (base_of kept y.database)) →
    LearnsSets kept t r ks (set ds t.index y, held) left → LearnsFrom kept t r (ds, held) left
learns_passed {kept = kept} {t} {r} {ks} {ds} {x} {y} {held} left (d, checks) keeps learns w e ready heeds is =
    subst (λ z. Onward t.node (goal_of r) r.taken w z.name held →
    AreLearned w r.taken.origin held.bounds.items left.bounds.items)
    (sym (one_here ds t.index x e (d.inside, d.held) is))
    (λ o.
    let fits = post_fits kept ds t.index x (d.distinct, d.inside, d.held) (ready, o.holds) (goal_of r) o.sits in
    let found = keeps o.sits.place o.sits.own fits.ready o.sits.is (sym o.took.node) o.event o.took.found in
    let mids = mids_ready (look_done d checks) ready (o.sits.found, o.sits.running) found.1 in
    subst (λ n. (q : Onward t.node (goal_of r) r.taken w n held) → ks ≡ sets_kept q.sits.own (seen_event q.event) →
    AreLearned w r.taken.origin held.bounds.items left.bounds.items) d.name
    (learns w y mids heeds (sym (get_or-set_same ds t.index y y d.inside))) o found.0)

-- ---- behind a plan

-- nothing is learned
pub learns_same : {K : Type 0} {g : Ghosts K} (kept : K → KeptStore) (t : Turn) (ds : List (NamedDatabase K g))
    (held left : Held) → left.bounds ≡ held.bounds → LearnsAt kept t (ds, held) left
learns_same kept t ds held left same w d ready cuts known is s holds =
    learned_none w t.goal.origin (ap (λ b. b.items) same)

-- it read what was logged
pub learns_followed : {K : Type 0} {g : Ghosts K} {kept : K → KeptStore} {ds : List (NamedDatabase K g)}
    {x y : NamedDatabase K g} {held mid : Held} {t : Turn} {w : Worker Taken} (left : Held) →
    Planned kept t ds held mid (FollowPlan w) x y × (w.origin ≡ t.goal.origin) →
    LearnsFrom kept (record { node = w.node; index = t.index; cuts = t.cuts; bounds = mid.bounds.items })
    (record { taken = w; aim = t.goal.aim }) (set ds t.index y, mid) left → LearnsAt kept t (ds, held) left
learns_followed {kept = kept} {ds} {x} {y} {held} {mid} {t} {w} left (p, from) learns v d ready cuts known is =
    subst (λ e. SitsOn t.node v e.name → Holds e.name v.memory held →
    AreLearned v t.goal.origin held.bounds.items left.bounds.items)
    (sym (one_here ds t.index x d (p.look.inside, p.look.held) is))
    (λ s holds.
    let plan = p.plans (post_of t.goal s) refl refl cuts
    (post_fits kept ds t.index x (p.look.distinct, p.look.inside, p.look.held) (ready, holds) t.goal s) in
    let mids = mids_ready p.look ready (s.found, s.running) plan.3 in
    let goal : Goal = record { aim = t.goal.aim; origin = w.origin } in
    let aims : goal ≡ t.goal = ap (λ o. record { aim = t.goal.aim; origin = o }) from in
    let again = subst (λ z. IsPlannedAnew (post_of z s) w mid.queue) (sym aims)
    (subst (IsPlannedAnew (post_of t.goal s) w) (sym p.queue) plan.0) in
    let o : Onward t.node goal w v x.name mid = record {
      sits = s;
      holds = plan.2;
      event = again.plan.event;
      took = again.plan.took;
      next = again.plan.next;
    } in
    let same = ap (λ b. b.items) p.bounds in
    let own : w.node ≡ t.node = plan.0.plan.took.node ∙ own_id t.node v x.name s in
    let as_own = subst (λ n. LearnsFrom kept
    (record { node = n; index = t.index; cuts = t.cuts; bounds = mid.bounds.items })
    (record { taken = w; aim = t.goal.aim }) (set ds t.index y, mid) left) own learns in
    let heeds : Heeds (record { node = t.node; index = t.index; cuts = t.cuts; bounds = mid.bounds.items }) v
    = record { cuts = cuts; bounds = subst (AreBounds v) (sym same) known } in
    let all = subst (λ n. Onward t.node goal w v n mid →
    AreLearned v w.origin mid.bounds.items left.bounds.items) p.look.name
    (as_own v y mids heeds (sym (get_or-set_same ds t.index y y p.look.inside))) o in
    subst (λ origin. AreLearned v origin held.bounds.items left.bounds.items) from
    (subst (λ bs. AreLearned v w.origin bs left.bounds.items) same all))

-- ---- all turns

-- the turn is refused
pub learns_nothing : (goal : Goal) (node : ℕ) (on : Switches) (old : Both) → Learns goal node on old old.held
learns_nothing goal node on old w ready started cuts holds known name = learned_none w goal.origin refl

-- What a node knows behind a turn with what it holds taken out.
pub record LearnedAt {K : Type 0} (g : Ghosts K) (kept : K → KeptStore) (t : Turn) : Type 0 where
  pub old : List (NamedDatabase K g) × Held
  pub left : Held
  pub learns : LearnsAt kept t old left

pub learns_carried : {K : Type 0} {g : Ghosts K} {kept : K → KeptStore} {on : Switches} {t : Turn}
    (held : Holdings) (key : List ℕ) (e : LearnedAt g kept t) (x : NamedDatabase K g) →
    HasTurn kept t.node on.started e.old.0 (At t.index) × (t.cuts ≡ on.cuts) → x ≡ get_or e.old.0 t.index x →
    (key ≡ x.name) × IsTaken (get held key) e.old.1 →
    Learns t.goal t.node on (record { bases = bases_of kept e.old.0; held = held })
    (insert (remove held key) key e.left)
learns_carried {kept = kept} {on} {t} held key e x (turns, same) is (named, taken) =
    subst (λ n. Learns t.goal t.node on (record { bases = bases_of kept e.old.0; held = held })
    (insert (remove held n) n e.left)) (sym named)
    (λ w ready started cuts holds known.
    let s = turns w ready.fits started x is in
    let took = subst (λ n. IsTaken (get held n) e.old.1) named taken in
    let bounds = taken_bounds (get held x.name) e.old.1 took in
    let here = e.learns w x ready (cuts ∙ sym same) (subst (AreBounds w) bounds (known x.name)) is s (record {
      waits = taken_waits x.name w.memory (get held x.name) e.old.1 took (holds.waits x.name s.place s.found s.running);
      keeps = taken_keeps x.name w.memory (get held x.name) e.old.1 took (holds.keeps x.name s.place s.found s.running);
    }) in
    bounds_beside (AreLearned w t.goal.origin) held x.name e.left (λ bs. learned_none w t.goal.origin refl)
    (subst (λ bs. AreLearned w t.goal.origin bs e.left.bounds.items) (sym bounds) here))
