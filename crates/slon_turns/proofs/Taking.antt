-- The turn of a node that applies an event is one that the rules allow.
use Rattle.std.proofs.Common.{◌≡◌, ◌∙◌, ◌<◌, ◌||◌, ℕ, Bool, true, false, not}
use Rattle.std.proofs.Common.{List, [], ◌∷◌, cond, filter, get_or, length, nat_lt, set}
use Rattle.std.proofs.Common.{Option, Some, None, Result}
use Rattle.std.proofs.Common.{Ok, Err, refl, sym, ap, subst}
use Rattle.std.proofs.lemmas.List.{get_or_default, get_or-set_same}
use Rattle.std.specs.FinMap.{get, insert, remove}
use Rattle.std.specs.Option.{option_map}
use Rattle.std.specs.Str.{bytes_eq}
use Rattle.slon_base.specs.Keeper.{Kept as KeptStore}
use Rattle.slon_base.specs.declared.keeper.Keeper.{Ghosts}
use Rattle.slon_model.specs.declared.reply.Refusal.{Refusal}
use Rattle.slon_model.specs.declared.reply.Refusal.TheVariants as refused
use Rattle.slon_model.specs.declared.reply.Reply.{Reply}
use Rattle.slon_model.specs.declared.reply.Reply.TheVariants as replied
use Rattle.slon_model.specs.Names.{Named, find_named, put_named}
use Rattle.slon_model.specs.Maps.{with_entry}
use Rattle.slon_model.specs.Events.{Event}
use Rattle.slon_model.specs.Following.{Found, FoundSyncs, brought_of, kept_from, tables_in}
use Rattle.slon_model.specs.Deeds.{Node}
use Rattle.slon_model.specs.Place.{Place, is_running}
use Rattle.slon_model.specs.Rows.{member}
use Rattle.slon_model.specs.Sessions.{World, Memory, Seat, Stated, bind, checked, seat, seat_of, when, writer_of}
use Rattle.slon_model.specs.Turns.{Switches, at_node, on_turn, seat_at}
use Rattle.slon_model.specs.Polls.{line_of, queue_at, with_queue}
use Rattle.slon_model.specs.Working.{Carried, Errand, Fetched as FetchedBy, ToCopy, ToFollow, carried, carried_at}
use Rattle.slon_model.specs.Working.{errand_of, fetch_sources, fetch_sources_at, fetched, fetched_at, fetches_at}
use Rattle.slon_model.specs.Working.{followed, followed_all, found_by, found_for, found_or, having_fetched, kept_fetch}
use Rattle.slon_model.specs.Working.{next_at, providers_in, settled, sources_at, sources_by, sources_for, sources_or}
use Rattle.slon_model.specs.Working.{taken_up, worked}
use Rattle.slon_model.specs.Views.{Views}
use Rattle.slon_model.specs.World.{is_of, is_of_one}
use Rattle.slon_model.proofs.Names.{bytes_itself, put_found}
use Rattle.slon_laws.specs.Fetches.{KeepFormed}
use Rattle.slon_laws.specs.Spelled.{IsSpelled}
use Rattle.slon_laws.specs.Worlds.{AllPlaces}
use Rattle.slon_laws.proofs.Fillable.{formed_keep_on, work_formed, work_unwritten}
use Rattle.event_store.specs.declared.queue.Queue.{Queue}
use Rattle.event_store.specs.Seen.{seen_event}
use Rattle.app_store.specs.Base.{Base, base_of}
use Rattle.remote_worker.specs.declared.carrying.Copying.{Copying}
use Rattle.remote_worker.specs.declared.carrying.Errand as declared
use Rattle.remote_worker.specs.declared.carrying.Errand.TheVariants.{Copy as CopyFrom}
use Rattle.remote_worker.specs.declared.worker.Fetched.{Fetched}
use Rattle.remote_worker.specs.declared.worker.Taken.{Taken}
use Rattle.remote_worker.specs.declared.worker.Worker.{Worker}
use Rattle.remote_worker.specs.Fetching.{is_loud}
use Rattle.remote_worker.specs.Working.{seen_errand}
use Rattle.slonik_exec.specs.declared.databases.Named.{Named as NamedDatabase}
use Rattle.slonik_exec.specs.declared.reaching.Reached.TheVariants.{At, Refused}
use Rattle.slonik_exec.specs.Answering.{Answers}
use Rattle.slonik_exec.specs.Databases.{AreReady, bases_of, told_by}
use Rattle.slonik_exec.specs.Executing.{Comes, Refuses, Stands}
use Rattle.slonik_exec.specs.Heard.{AreDistinct}
use Rattle.slonik_exec.specs.Turning.{HasTurn, SitsOn}
use Rattle.slonik_exec.proofs.Lifting.{Sits, put_worked, comes_at, still_all}
use Rattle.slonik_exec.proofs.Stores.{ready_here}
use Rattle.slon_turns.specs.declared.fetching.Trip.{Trip}
use Rattle.slon_turns.specs.declared.held.Held.{Held}
use Rattle.slon_turns.specs.declared.planning.Plan.{Plan}
use Rattle.slon_turns.specs.declared.planning.Plan.TheVariants.{Told, Has, Bring}
use Rattle.slon_turns.specs.declared.working.Aim.{Aim}
use Rattle.slon_turns.specs.declared.working.Aim.TheVariants.{Fetch, Apply}
use Rattle.slon_turns.specs.declared.working.Work.{Work}
use Rattle.slon_turns.specs.Bounds.{AreBounds}
use Rattle.slon_turns.specs.Applying.{due_at, due_of, EndsWith, Finder, followed_with, nodes_at}
use Rattle.slon_turns.specs.Applying.{IsFor, PostFits, WorksHere, found_kept, found_with}
use Rattle.slon_turns.specs.Applying.{goal_in, left_in, seat_in}
use Rattle.slon_turns.specs.Fetching.{BringsFrom, Delivers, Sent, due_sent, goal_of, post_of}
use Rattle.slon_turns.specs.Holding.{Holdings, Holds, IsTaken, IsUpIn, Keeps, KeepsIn, WaitsIn}
use Rattle.slon_turns.specs.Planning.{IsPlannedAnew, PlansAt, Reaches}
use Rattle.slon_turns.specs.Polling.{GoesAt, Once, Never, Waits}
use Rattle.slon_turns.specs.Turning.{Kept}
use Rattle.slon_turns.specs.Working.{CanCarry, CanTurn, Carries, CarriesOut, Due, Goal, TakesUp, ToApply, ToKeep, Turn}
use Rattle.slon_turns.specs.Working.{Works, end_by, gives_up, left_after, recalled, sources_in, sources_to, stated_turn}
use Rattle.slon_turns.specs.Working.{turned, turned_to}
use Rattle.slon_turns.proofs.Applying.{left_refused}
use Rattle.slon_turns.proofs.Linking.{planned_copy}
use Rattle.slon_turns.proofs.Mids.{LookedAt, found_here, mids_distinct, mids_inside, mids_ready, worked_here}
use Rattle.slon_turns.proofs.Waiting.{taken_bounds, fetches_beside, keeps_beside, queue_beside}
use Rattle.slon_turns.proofs.Waiting.{taken_keeps, taken_waits, waits_beside}

-- ---- what the turn comes to

bind_bind : {A B C : Type 0} (r : Result A Refusal) (f : A → Result B Refusal) (h : B → Result C Refusal) →
    bind (bind r f) h ≡ bind r (λ a. bind (f a) h)
bind_bind (Ok a) f h = refl
bind_bind (Err refusal) f h = refl

followed_so : (w : World) (s : Seat) (e : Event) (vs : Views) →
    followed_all w s e vs ≡ followed_with w.memory s e (nodes_at w) vs
followed_so w s e [] = refl
followed_so w s e (v ∷ vs) =
    ap (λ r. bind (followed w s e v) (λ t. bind r (λ ts. Ok (t ∷ ts)))) (followed_so w s e vs)

found_so : (w : World) (s : Seat) (e : Event) (c : Option Errand) →
    found_by w s e c ≡ found_with w.memory s e (nodes_at w) c
found_so w s e None = refl
found_so w s e (Some (ToCopy c)) = refl
found_so w s e (Some ToFollow) =
    ap (λ r. bind r (λ ts. Ok (FoundSyncs ts))) (followed_so w s e (kept_from e.origin s.known))

kept_so : (w : World) (s : Seat) (e : Event) (o : Option Found) →
    found_or w s e o ≡ found_kept w.memory s e (nodes_at w) o
kept_so w s e None = found_so w s e (errand_of s e)
kept_so w s e (Some f) = refl

abbrev turned_seat : (aim : Aim) (origin : ℕ) (w : World) (s : Seat) → Result Due Refusal
turned_seat Fetch origin w s = bind (bind (taken_up (next_at w.memory s origin)) (fetched_at w s)) (λ x. Ok (ToKeep x))
turned_seat Apply origin w s =
    bind (bind (taken_up (next_at w.memory s origin)) (carried_at w s)) (λ c. Ok (ToApply c))

seat_due : (aim : Aim) (origin : ℕ) (w : World) (s : Seat) →
    turned_seat aim origin w s ≡ due_at (record { aim = aim; origin = origin }) w.memory s (nodes_at w)
seat_due Fetch origin w s =
    bind_bind (taken_up (next_at w.memory s origin)) (fetched_at w s) (λ x. Ok (ToKeep x))
    ∙ ap (bind (taken_up (next_at w.memory s origin))) (λ i e.
    (bind_bind (found_by w s e (errand_of s e)) (λ f. Ok (having_fetched s e f)) (λ x. Ok (ToKeep x))
    ∙ ap (λ r. bind r (end_by Fetch s e)) (found_so w s e (errand_of s e))) i)
seat_due Apply origin w s =
    bind_bind (taken_up (next_at w.memory s origin)) (carried_at w s) (λ c. Ok (ToApply c))
    ∙ ap (bind (taken_up (next_at w.memory s origin))) (λ i e.
    (bind_bind (found_for w s e) (settled s e) (λ c. Ok (ToApply c))
    ∙ ap (λ r. bind r (end_by Apply s e)) (kept_so w s e (kept_fetch s.name e.origin e w.memory))) i)

-- at its seat
turned_here : (aim : Aim) (node origin : ℕ) (w : World) (s : Seat) → on_turn node w ≡ Ok s →
    turned_to aim node origin w ≡ turned_seat aim origin w s
turned_here Fetch node origin w s is =
    ap (λ r. bind (bind r (λ z. bind (taken_up (next_at w.memory z origin)) (fetched_at w z))) (λ x. Ok (ToKeep x))) is
turned_here Apply node origin w s is =
    ap (λ r. bind (bind r (λ z. bind (taken_up (next_at w.memory z origin)) (carried_at w z))) (λ c. Ok (ToApply c))) is

pub worked_due : {node : ℕ} {w : World} {name : List ℕ} (goal : Goal) (s : SitsOn node w name) →
    turned goal node w ≡ due_at goal w.memory (seat_in (post_of goal s)) (nodes_at w)
worked_due {node} {w} goal s =
    let p = seat_in (post_of goal s) in
    turned_here goal.aim node goal.origin w p s.due ∙ seat_due goal.aim goal.origin w p

-- what is in memory behind it
pub left_here : {node : ℕ} {w : World} {name : List ℕ} (goal : Goal) (s : SitsOn node w name) (reply : Reply) →
    left_in (post_of goal s) (due_at goal w.memory (seat_in (post_of goal s)) (nodes_at w)) reply
    ≡ left_after goal (at_node node w) (turned goal node w) reply w.memory
left_here {node} {w} goal s reply =
    ap (λ o. left_after goal o (due_at goal w.memory (seat_in (post_of goal s)) (nodes_at w)) reply w.memory) (sym s.at)
    ∙ ap (λ due. left_after goal (at_node node w) due reply w.memory) (sym (worked_due goal s))

-- what is to be applied can be applied
pub can_turn : (goal : Goal) (node : ℕ) (w : World) → TakesUp node goal.origin w → AllPlaces IsSpelled w →
    KeepFormed w → CanTurn (turned goal node w)
can_turn goal node w takes spelled keep = by goal.aim
  where
    kept : (r : Result FetchedBy Refusal) (c : Carried) → bind r (λ x. Ok (ToKeep x)) ≡ Ok (ToApply c) → ⊥
    kept (Ok x) c is = absurd cc
    kept (Err refusal) c is = absurd cc

    applied : (r : Result Carried Refusal) (c : Carried) → bind r (λ x. Ok (ToApply x)) ≡ Ok (ToApply c) → r ≡ Ok c
    applied (Ok x) c is = let same : x ≡ c = cc in ap (λ z. Ok z) same
    applied (Err refusal) c is = absurd cc

    carries : (c : Carried) → worked node goal.origin w ≡ Ok c → CanCarry c
    carries c is = record {
      takes = takes c is;
      fills = record {
        unwritten = work_unwritten node goal.origin w c (formed_keep_on w keep) is;
        formed = work_formed node goal.origin w c spelled keep is;
      };
    }

    by : (aim : Aim) → CanTurn (turned_to aim node goal.origin w)
    by Fetch c is = absurd (kept (fetched node goal.origin w) c is)
    by Apply c is = carries c (applied (worked node goal.origin w) c is)

-- ---- at the database that has its turn

-- The database at an index, before and behind what was done there.
pub record Turned {K : Type 0} {g : Ghosts K} (kept : K → KeptStore) (ds : List (NamedDatabase K g)) (i : ℕ)
    (x y : NamedDatabase K g) : Type 0 where
  pub distinct : AreDistinct (bases_of kept ds)
  pub inside : i < length ds
  pub held : x ≡ get_or ds i x
  pub name : y.name ≡ x.name

-- what a database comes to that may commit is what the session comes to
pub goes_at : {w : World} {name : List ℕ} {p : Place} {bases : Named Base} {due : Result Stated Refusal}
    {reply : Reply} {new : Base} → Sits w name p bases → GoesAt name p due reply new →
    Comes w due reply (put_named name new bases)
goes_at s (Once comes) = comes_at s comes
goes_at {w} s (Never answer is told fits) =
    Stands (record { answer = answer; commits = [] }) is refl told (still_all {w = w} s fits)

-- the database that stands at an index is up
pub up_here : {K : Type 0} {g : Ghosts K} {kept : K → KeptStore} {ds : List (NamedDatabase K g)} {i : ℕ}
    {x y : NamedDatabase K g} → Turned kept ds i x y → IsUpIn x.name (bases_of kept (set ds i y)) →
    (base_of kept y.database).memory.up ≡ true
up_here {kept = kept} {ds} {i} {x} {y} t up =
    up (base_of kept y.database)
    (ap (find_named x.name) (sym (put_worked (worked_here kept ds i x y t.distinct (t.inside, t.held) t.name)))
    ∙ put_found x.name (base_of kept y.database) (base_of kept x.database) (bases_of kept ds)
    (found_here kept ds i x t.distinct (t.inside, t.held)))

-- what it came to there is what the turn comes to
pub carries_here : {K : Type 0} {g : Ghosts K} {kept : K → KeptStore} {ds : List (NamedDatabase K g)} {i : ℕ}
    {x y : NamedDatabase K g} {node : ℕ} {w : World} {reply : Reply} {held : Held} (goal : Goal)
    (t : Turned kept ds i x y) → AreReady w (bases_of kept ds) → (s : SitsOn node w x.name) →
    Answers x.name (base_of kept x.database) reply (base_of kept y.database) →
    WorksHere (post_of goal s) (due_at goal w.memory (seat_in (post_of goal s)) (nodes_at w)) reply
    (base_of kept y.database, held) →
    Carries goal node w x.name reply (bases_of kept (set ds i y)) held
carries_here {kept = kept} {ds} {i} {x} {y} {node} {w} {reply} {held} goal t ready s answers works =
    let due_is = worked_due goal s in
    let at = worked_here kept ds i x y t.distinct (t.inside, t.held) t.name in
    let left = left_here goal s reply in
    record {
      comes = subst (λ due. Comes w (stated_turn due) reply (bases_of kept (set ds i y))) (sym due_is)
          (subst (Comes w (stated_turn (due_at goal w.memory (seat_in (post_of goal s)) (nodes_at w))) reply)
          (put_worked at)
          (goes_at (record { found = s.found; running = s.running; fits = ready.fits }) works.goes));
      own = λ other halt told.
          ap (λ o. is_of other o || is_of_one other (sources_in goal node w) w) s.at
          ∙ ap (λ b. b || is_of_one other (sources_in goal node w) w)
          (ap (bytes_eq other) (sym (answers.own other halt told)) ∙ bytes_itself other);
      waits = subst (λ m. Waits x.name m held.queue) left works.stays.waits;
      keeps = λ up. subst (λ m. Keeps x.name m held.fetches) left (works.stays.keeps (up_here t up));
    }

-- the same under another name that is its name
pub carries_named : {K : Type 0} {g : Ghosts K} {kept : K → KeptStore} {ds : List (NamedDatabase K g)} {i : ℕ}
    {x y : NamedDatabase K g} {node : ℕ} {w : World} {reply : Reply} {held : Held} {name : List ℕ} (goal : Goal) →
    Turned kept ds i x y × (x.name ≡ name) → AreReady w (bases_of kept ds) → (s : SitsOn node w name) →
    Answers x.name (base_of kept x.database) reply (base_of kept y.database) →
    WorksHere (post_of goal s) (due_at goal w.memory (seat_in (post_of goal s)) (nodes_at w)) reply
    (base_of kept y.database, held) →
    Carries goal node w name reply (bases_of kept (set ds i y)) held
carries_named {kept = kept} {ds} {i} {x} {y} {node} {w} {reply} {held} goal (t, same) ready s answers =
    subst (λ n. (z : SitsOn node w n) →
    WorksHere (post_of goal z) (due_at goal w.memory (seat_in (post_of goal z)) (nodes_at w)) reply
    (base_of kept y.database, held) → Carries goal node w n reply (bases_of kept (set ds i y)) held) same
    (λ z. carries_here goal t ready z answers) s

-- the database of the node, as the rules have it
pub post_fits : {K : Type 0} {g : Ghosts K} {node : ℕ} {w : World} {held : Held} (kept : K → KeptStore)
    (ds : List (NamedDatabase K g)) (i : ℕ) (x : NamedDatabase K g) →
    AreDistinct (bases_of kept ds) × (i < length ds) × (x ≡ get_or ds i x) →
    AreReady w (bases_of kept ds) × Holds x.name w.memory held → (goal : Goal) (s : SitsOn node w x.name) →
    PostFits (post_of goal s) (base_of kept x.database, held)
post_fits {w = w} kept ds i x (distinct, inside, at) (ready, holds) goal s = record {
  ready = ready_here x.name (base_of kept x.database) w (bases_of kept ds) s.place ready
      (found_here kept ds i x distinct (inside, at)) s.found;
  is = s.is;
  holds = holds;
}

-- what stands at an index is one
pub one_here : {X : Type 0} (xs : List X) (i : ℕ) (x d : X) → (i < length xs) × (x ≡ get_or xs i x) →
    d ≡ get_or xs i d → d ≡ x
one_here xs i x d (inside, held) is = is ∙ get_or_default xs i d x inside ∙ sym held

-- the node replied by what its own database told
pub carries_told : {K : Type 0} {g : Ghosts K} {kept : K → KeptStore} {ds : List (NamedDatabase K g)}
    {x y : NamedDatabase K g} {reply : Reply} {held left : Held} (t : Turn) → Turned kept ds t.index x y →
    Answers x.name (base_of kept x.database) reply (base_of kept y.database) →
    PlansAt t.goal t.cuts x.name (base_of kept x.database, held) (Told reply) (base_of kept y.database, left) →
    CarriesOut kept t (ds, held) reply (set ds t.index y, left)
carries_told {kept = kept} {ds} {x} {y} {reply} {held} {left} t at answers plans w d ready cuts known is =
    subst (λ e. SitsOn t.node w e.name → Holds e.name w.memory held → TakesUp t.node t.goal.origin w → KeepFormed w →
    Carries t.goal t.node w e.name reply (bases_of kept (set ds t.index y)) left)
    (sym (one_here ds t.index x d (at.inside, at.held) is))
    (λ s holds takes keep. carries_here t.goal at ready s answers
    (plans (post_of t.goal s) refl refl cuts
    (post_fits kept ds t.index x (at.distinct, at.inside, at.held) (ready, holds) t.goal s) (nodes_at w)))

-- ---- behind a plan

-- The node planned, and then did what it planned with the database and with what it holds as that left them.
pub record Planned {K : Type 0} {g : Ghosts K} (kept : K → KeptStore) (t : Turn) (ds : List (NamedDatabase K g))
    (held mid : Held) (plan : Plan) (x y : NamedDatabase K g) : Type 0 where
  pub look : LookedAt kept ds t.index x y
  pub plans : PlansAt t.goal t.cuts x.name (base_of kept x.database, held) plan (base_of kept y.database, mid)
  pub queue : mid.queue ≡ held.queue
  pub bounds : mid.bounds ≡ held.bounds

-- all was there that comes with the event
pub carries_had : {K : Type 0} {g : Ghosts K} {kept : K → KeptStore} {ds : List (NamedDatabase K g)}
    {x y : NamedDatabase K g} {reply : Reply} {held mid left : Held} {t : Turn} {f : Worker Fetched}
    (z : NamedDatabase K g) →
    Planned kept t ds held mid (Has f) x y × (f.origin ≡ t.goal.origin) → z.name ≡ y.name →
    Answers y.name (base_of kept y.database) reply (base_of kept z.database) →
    EndsWith t.goal.aim y.name f (base_of kept y.database, mid) reply (base_of kept z.database, left) →
    CarriesOut kept t (ds, held) reply (set (set ds t.index y) t.index z, left)
carries_had {kept = kept} {ds} {x} {y} {reply} {held} {mid} {left} {t} {f} z (p, from) named answers ends v d ready
    cuts known is =
    subst (λ e. SitsOn t.node v e.name → Holds e.name v.memory held → TakesUp t.node t.goal.origin v → KeepFormed v →
    Carries t.goal t.node v e.name reply (bases_of kept (set (set ds t.index y) t.index z)) left)
    (sym (one_here ds t.index x d (p.look.inside, p.look.held) is))
    (λ s holds takes keep.
    let post = post_of t.goal s in
    let fits = post_fits kept ds t.index x (p.look.distinct, p.look.inside, p.look.held) (ready, holds) t.goal s in
    let plan = p.plans post refl refl cuts fits in
    let had = plan.0 in
    let due = had.due (nodes_at v) in
    carries_named {kept = kept} t.goal (
      record {
        distinct = mids_distinct p.look;
        inside = mids_inside p.look;
        held = sym (get_or-set_same ds t.index y y p.look.inside);
        name = named;
      },
      p.look.name,
    ) (mids_ready p.look ready (s.found, s.running) plan.2) s answers
    (subst (λ r. WorksHere post r reply (base_of kept z.database, left)) (sym due)
    (ends post had.event had.found (sym p.look.name)
    (ap (λ o. record { aim = t.goal.aim; origin = o }) (sym from))
    (subst (λ q. IsFor f q had.event had.found) (sym p.queue) had.for)
    (record {
      ready = record { fits = plan.2; sound = fits.ready.sound; spelled = fits.ready.spelled };
      is = s.is;
      waits = plan.1.waits;
      keeps = plan.1.keeps;
    })
    (subst CanTurn (worked_due t.goal s ∙ due) (can_turn t.goal t.node v takes ready.spelled keep)))))

-- the nodes of which the databases are read besides that of the node
sources_as : (aim : Aim) (node origin : ℕ) (v : World) (s : Seat) (e : Event) → on_turn node v ≡ Ok s →
    next_at v.memory s origin ≡ Some e →
    sources_to aim node origin v ≡ sources_or s e (recalled aim s.name e v.memory)
sources_as Fetch node origin v s e due next = ap (fetch_sources_at v origin) due ∙ ap (fetch_sources s) next
sources_as Apply node origin v s e due next = ap (sources_at v origin) due ∙ ap (sources_for v s) next

pub sources_are : {node : ℕ} {v : World} {name : List ℕ} {goal : Goal} {w : Worker Taken} {queue : Queue}
    (s : SitsOn node v name) (plan : IsPlannedAnew (post_of goal s) w queue) (c : declared.Errand) →
    w.state.errand ≡ Some c →
    sources_in goal node v ≡ providers_in plan.plan.event.origin (seat_in (post_of goal s)) (seen_errand c)
sources_are {node} {v} {goal = goal} s plan c some =
    let p = seat_in (post_of goal s) in
    let e = seen_event plan.plan.event in
    sources_as goal.aim node goal.origin v p e s.due plan.plan.next
    ∙ ap (sources_or p e) plan.none
    ∙ ap (sources_by e.origin p) (sym plan.plan.took.errand ∙ ap (option_map seen_errand) some)

-- a name that is that of the node, or of the one provider
or_one : (a b : Bool) → (a || b) ≡ true → (a || (b || false)) ≡ true
or_one true b is = refl
or_one false true is = refl
or_one false false is = is

-- What a node does that brings something, in a session.
record Going {K : Type 0} {g : Ghosts K} (kept : K → KeptStore) (t : Turn) (v : World) (name : List ℕ)
    (mids news : List (NamedDatabase K g)) (w : Worker Taken) (c : Copying) : Type 0 where
  held : Held
  left : Held
  reply : Reply
  sits : SitsOn t.node v name
  holds : Holds name v.memory held
  plan : IsPlannedAnew (post_of t.goal sits) w held.queue
  some : w.state.errand ≡ Some (CopyFrom c)
  reaches : Reaches (post_of t.goal sits) c.provider
  from : w.origin ≡ t.goal.origin
  takes : TakesUp t.node t.goal.origin v
  spelled : AllPlaces IsSpelled v
  formed : KeepFormed v

abbrev trip_by : Turn → Worker Taken → Copying → Trip
trip_by t w c = record { taken = w; copying = c; aim = t.goal.aim }

-- it aims at what the turn aims at
aims_so : (t : Turn) (w : Worker Taken) (c : Copying) → w.origin ≡ t.goal.origin →
    goal_of (trip_by t w c) ≡ t.goal
aims_so t w c from = ap (λ o. record { aim = t.goal.aim; origin = o }) from

-- under the goal that its errand has
record Sending (goal : Goal) (t : Turn) (v : World) (name : List ℕ) (w : Worker Taken) (c : Copying)
    (held : Held) (sits : SitsOn t.node v name) : Type 0 where
  plan : IsPlannedAnew (post_of goal sits) w held.queue
  reaches : Reaches (post_of goal sits) c.provider

sending : {K : Type 0} {g : Ghosts K} {kept : K → KeptStore} {t : Turn} {v : World} {name : List ℕ}
    {mids news : List (NamedDatabase K g)} {w : Worker Taken} {c : Copying} →
    (o : Going kept t v name mids news w c) → Sending (goal_of (trip_by t w c)) t v name w c o.held o.sits
sending {t = t} {v} {name} {w = w} {c} o =
    subst (λ goal. Sending goal t v name w c o.held o.sits) (sym (aims_so t w c o.from))
    (record { plan = o.plan; reaches = o.reaches })

abbrev sent_by : {K : Type 0} {g : Ghosts K} {kept : K → KeptStore} {t : Turn} {v : World} {name : List ℕ}
    {mids news : List (NamedDatabase K g)} {w : Worker Taken} {c : Copying} →
    (o : Going kept t v name mids news w c) → Sent (trip_by t w c) v name o.held
sent_by {t = t} o = record {
  id = t.node;
  sits = o.sits;
  holds = o.holds;
  event = (sending o).plan.plan.event;
  took = (sending o).plan.plan.took;
  reaches = (sending o).reaches;
}

carries_going : {K : Type 0} {g : Ghosts K} {kept : K → KeptStore} {t : Turn} {v : World} {name : List ℕ}
    {mids news : List (NamedDatabase K g)} {w : Worker Taken} {c : Copying} →
    (o : Going kept t v name mids news w c) →
    ((z : Sent (trip_by t w c) v name o.held) →
    CanTurn (due_sent z) → Delivers z o.reply (bases_of kept news) o.left) →
    Carries t.goal t.node v name o.reply (bases_of kept news) o.left
carries_going {kept = kept} {t} {v} {name} {news = news} {w} {c} o brings =
    subst (λ goal. Carries goal t.node v name o.reply (bases_of kept news) o.left) (aims_so t w c o.from)
    (let s = o.sits in
    let goal = goal_of (trip_by t w c) in
    let plan = (sending o).plan in
    let due : turned goal t.node v ≡ due_sent (sent_by o)
    = worked_due goal s ∙ planned_copy plan c o.some (nodes_at v) in
    let can = can_turn goal t.node v (subst (λ x. TakesUp t.node x v) (sym o.from) o.takes) o.spelled o.formed in
    let d = brings (sent_by o) (subst CanTurn due can) in
    let left = ap (λ r. left_after goal (Some (name, s.place)) r o.reply v.memory) (sym due)
    ∙ ap (λ z. left_after goal z (turned goal t.node v) o.reply v.memory) (sym s.at) in
    record {
      comes = subst (λ r. Comes v (stated_turn r) o.reply (bases_of kept news)) (sym due) d.comes;
      own = λ other halt told.
          ap (λ e. is_of other e || is_of_one other (sources_in goal t.node v) v) s.at
          ∙ ap (λ ns. bytes_eq other name || is_of_one other ns v) (sources_are s plan (CopyFrom c) o.some)
          ∙ or_one (bytes_eq other name) (is_of other (at_node c.provider v)) (d.own other halt told);
      waits = subst (λ m. Waits name m o.left.queue) left d.waits;
      keeps = λ up. subst (λ m. Keeps name m o.left.fetches) left (d.keeps up);
    })

-- it brought something
pub carries_brought : {K : Type 0} {g : Ghosts K} {kept : K → KeptStore} {ds : List (NamedDatabase K g)}
    {x y : NamedDatabase K g} {reply : Reply} {held mid left : Held} {t : Turn} {w : Worker Taken}
    {c : Copying} (news : List (NamedDatabase K g)) →
    Planned kept t ds held mid (Bring w c) x y × (w.origin ≡ t.goal.origin) →
    BringsFrom kept (trip_by t w c) t.index (set ds t.index y, mid) reply (news, left) →
    CarriesOut kept t (ds, held) reply (news, left)
carries_brought {kept = kept} {ds} {x} {y} {reply} {held} {mid} {left} {t} {w} {c} news (p, from) brings v d ready
    cuts known is =
    subst (λ e. SitsOn t.node v e.name → Holds e.name v.memory held → TakesUp t.node t.goal.origin v → KeepFormed v →
    Carries t.goal t.node v e.name reply (bases_of kept news) left)
    (sym (one_here ds t.index x d (p.look.inside, p.look.held) is))
    (λ s holds takes keep.
    let plan = p.plans (post_of t.goal s) refl refl cuts
    (post_fits kept ds t.index x (p.look.distinct, p.look.inside, p.look.held) (ready, holds) t.goal s) in
    let mids = mids_ready p.look ready (s.found, s.running) plan.4 in
    let o : Going kept t v x.name (set ds t.index y) news w c = record {
      held = mid;
      left = left;
      reply = reply;
      sits = s;
      holds = plan.3;
      plan = subst (IsPlannedAnew (post_of t.goal s) w) (sym p.queue) plan.0;
      some = plan.1;
      reaches = plan.2;
      from = from;
      takes = takes;
      spelled = ready.spelled;
      formed = keep;
    } in
    carries_going o
    (subst (λ n. (z : Sent (trip_by t w c) v n mid) →
    CanTurn (due_sent z) → Delivers z reply (bases_of kept news) left) p.look.name
    (brings v y mids (sym (get_or-set_same ds t.index y y p.look.inside)))))

-- ---- all turns

-- a refusal of the turn itself tells of no open transaction
calm_turn : (node : ℕ) (w : World) (refusal : Refusal) → on_turn node w ≡ Err refusal → is_loud refusal ≡ false
calm_turn node w refusal = seated (at_node node w)
  where
    calm : (other : Refusal) → other ≡ refusal → is_loud other ≡ false → is_loud refusal ≡ false
    calm other same is = subst (λ r. is_loud r ≡ false) same is

    off : Seat → Result Seat Refusal
    off s = checked (when (not (member node w.memory.started)) (refused.Off node) ∷ []) s

    started : (b : Bool) (s : Seat) → checked (when b (refused.Off node) ∷ []) s ≡ Err refusal →
        is_loud refusal ≡ false
    started true s is = let same : refused.Off node ≡ refusal = cc in calm (refused.Off node) same refl
    started false s is = absurd cc

    owned : (e : List ℕ × Place) (o : Option Node) → bind (seat_of (refused.NoNode node) e o) off ≡ Err refusal →
        is_loud refusal ≡ false
    owned e None is = let same : refused.NoNode node ≡ refusal = cc in calm (refused.NoNode node) same refl
    owned e (Some n) is = started (not (member node w.memory.started)) (seat e.0 e.1 n) is

    up : (e : List ℕ × Place) (b : Bool) →
        bind (cond b (seat_of (refused.NoNode node) e e.1.node) (Err (refused.Down e.0))) off ≡ Err refusal →
        is_loud refusal ≡ false
    up e true is = owned e e.1.node is
    up e false is = let same : refused.Down e.0 ≡ refusal = cc in calm (refused.Down e.0) same refl

    seated : (o : Option (List ℕ × Place)) → bind (seat_at node o) off ≡ Err refusal → is_loud refusal ≡ false
    seated None is = let same : refused.NoNode node ≡ refusal = cc in calm (refused.NoNode node) same refl
    seated (Some e) is = up e (is_running e.1.standing) is

-- the turn is refused
turned_refused : (aim : Aim) (node origin : ℕ) (w : World) (refusal : Refusal) → on_turn node w ≡ Err refusal →
    turned_to aim node origin w ≡ Err refusal
turned_refused Fetch node origin w refusal is =
    ap (λ r. bind (bind r (λ z. bind (taken_up (next_at w.memory z origin)) (fetched_at w z))) (λ x. Ok (ToKeep x))) is
turned_refused Apply node origin w refusal is =
    ap (λ r. bind (bind r (λ z. bind (taken_up (next_at w.memory z origin)) (carried_at w z))) (λ c. Ok (ToApply c))) is

pub work_refused : {K : Type 0} {g : Ghosts K} (kept : K → KeptStore) (work : Work) (on : Switches)
    (ds : List (NamedDatabase K g)) (held : Holdings) (refusal : Refusal) →
    (told_by (replied.Refused refusal) ≡ None) × HasTurn kept work.node on.started ds (Refused refusal) →
    let old : Kept = record { bases = bases_of kept ds; held = held } in
    Works (goal_in work) work.node on old (replied.Refused refusal) old
work_refused kept work on ds held refusal (quiet, turns) w ready started cuts holds known takes keep =
    let goal = goal_in work in
    let at = turns w ready.fits started in
    let is = turned_refused work.aim work.node work.origin w refusal at in
    let left = left_refused goal (at_node work.node w) (turned goal work.node w) refusal w.memory
    (calm_turn work.node w refusal at) in
    record {
      comes = Refuses refusal (ap stated_turn is) refl ready.fits;
      own = λ name halt told. let none = quiet in absurd cc;
      waits = λ name here. subst (λ m. WaitsIn name m (get held name)) (sym left) here;
      keeps = λ name here up. subst (λ m. KeepsIn name m (get held name)) (sym left) here;
    }

-- what the node does is its own
abbrev seat_by : Due → Seat
seat_by (ToKeep x) = x.seat
seat_by (ToApply c) = c.seat

own_end : (aim : Aim) (s : Seat) (e : Event) (f : Found) (x : Due) → end_by aim s e f ≡ Ok x → seat_by x ≡ s
own_end Fetch s e f x is =
    let same : ToKeep (having_fetched s e f) ≡ x = cc in subst (λ z. seat_by z ≡ s) same refl
own_end Apply s e f x is = by (option_map refused.Busy (writer_of (tables_in f) s.place)) is
  where
    by : (o : Option Refusal) → bind (checked (o ∷ []) (carried s e (brought_of s.place f))) (λ c. Ok (ToApply c))
        ≡ Ok x → seat_by x ≡ s
    by None is =
        let same : ToApply (carried s e (brought_of s.place f)) ≡ x = cc in subst (λ z. seat_by z ≡ s) same refl
    by (Some refusal) is = absurd cc

own_due : (goal : Goal) (m : Memory) (find : Finder) (s : Seat) (x : Due) → due_at goal m s find ≡ Ok x →
    seat_by x ≡ s
own_due goal m find s x is = by (taken_up (next_at m s goal.origin)) is
  where
    more : (e : Event) (r : Result Found Refusal) → bind r (end_by goal.aim s e) ≡ Ok x → seat_by x ≡ s
    more e (Ok f) is = own_end goal.aim s e f x is
    more e (Err refusal) is = absurd cc

    by : (r : Result Event Refusal) → bind r (λ e. due_of goal.aim m s e find) ≡ Ok x → seat_by x ≡ s
    by (Ok e) is = more e (found_kept m s e find (recalled goal.aim s.name e m)) is
    by (Err refusal) is = absurd cc

-- what is held at other databases is as it was
record Beside (name : List ℕ) (m n : Memory) : Type 0 where
  queue : (other : List ℕ) → bytes_eq other name ≡ false → queue_at other n ≡ queue_at other m
  fetches : (other : List ℕ) → bytes_eq other name ≡ false → fetches_at other n ≡ fetches_at other m

own_left : (goal : Goal) (name : List ℕ) (p : Place) (due : Result Due Refusal) (reply : Reply) (m : Memory) →
    ((x : Due) → due ≡ Ok x → (seat_by x).name ≡ name) →
    Beside name m (left_after goal (Some (name, p)) due reply m)
own_left goal name p (Ok (ToKeep x)) (replied.Accepted answer) m own = record {
  queue = λ other apart. refl;
  fetches = λ other apart. fetches_beside other x.seat.name _ m (ap (bytes_eq other) (own (ToKeep x) refl) ∙ apart);
}
own_left goal name p (Ok (ToApply c)) (replied.Accepted answer) m own = record {
  queue = λ other apart. queue_beside other c.seat.name _ m (ap (bytes_eq other) (own (ToApply c) refl) ∙ apart);
  fetches = λ other apart.
      let queue = queue_at c.seat.name m in
      let left = filter (λ e. nat_lt c.event.number e.number) (line_of c.event.origin queue) in
      fetches_beside other c.seat.name _ (with_queue c.seat.name (with_entry c.event.origin left queue) m)
      (ap (bytes_eq other) (own (ToApply c) refl) ∙ apart);
}
own_left goal name p (Ok x) others m own = record { queue = λ other apart. refl; fetches = λ other apart. refl }
own_left goal name p (Err (refused.Busy xid)) (replied.Refused (refused.Busy other)) m own = by goal.aim
  where
    by : (aim : Aim) → Beside name m (gives_up aim goal.origin (Some (name, p)) m)
    by Fetch = record { queue = λ other apart. refl; fetches = λ other apart. refl }
    by Apply = record {
      queue = λ other apart. refl;
      fetches = λ other apart. fetches_beside other name _ m apart;
    }
own_left goal name p (Err (refused.Busy xid)) (replied.Refused others) m own =
    record { queue = λ other apart. refl; fetches = λ other apart. refl }
own_left goal name p (Err (refused.Busy xid)) others m own =
    record { queue = λ other apart. refl; fetches = λ other apart. refl }
own_left goal name p (Err others) reply m own =
    record { queue = λ other apart. refl; fetches = λ other apart. refl }

-- What came of a turn with what the node holds taken out.
pub record Ended {K : Type 0} (g : Ghosts K) (kept : K → KeptStore) (t : Turn) : Type 0 where
  pub old : List (NamedDatabase K g) × Held
  pub reply : Reply
  pub new : List (NamedDatabase K g) × Held
  pub carries : CarriesOut kept t old reply new

-- it is what the turn comes to
pub works_carried : {K : Type 0} {g : Ghosts K} {kept : K → KeptStore} {on : Switches} {t : Turn}
    (held : Holdings) (key : List ℕ) (e : Ended g kept t) (x : NamedDatabase K g) →
    HasTurn kept t.node on.started e.old.0 (At t.index) × (t.cuts ≡ on.cuts) → x ≡ get_or e.old.0 t.index x →
    (key ≡ x.name) × IsTaken (get held key) e.old.1 →
    Works t.goal t.node on (record { bases = bases_of kept e.old.0; held = held }) e.reply
    (record { bases = bases_of kept e.new.0; held = insert (remove held key) key e.new.1 })
works_carried {kept = kept} {on} {t} held key e x (turns, same) is (named, taken) =
    subst (λ n. Works t.goal t.node on (record { bases = bases_of kept e.old.0; held = held }) e.reply
    (record { bases = bases_of kept e.new.0; held = insert (remove held n) n e.new.1 })) (sym named)
    (λ w ready started cuts holds known takes keep.
    let s = turns w ready.fits started x is in
    let took = subst (λ n. IsTaken (get held n) e.old.1) named taken in
    let bounds = taken_bounds (get held x.name) e.old.1 took in
    let here = e.carries w x ready (cuts ∙ sym same) (subst (AreBounds w) bounds (known x.name)) is s (record {
      waits = taken_waits x.name w.memory (get held x.name) e.old.1 took (holds.waits x.name s.place s.found s.running);
      keeps = taken_keeps x.name w.memory (get held x.name) e.old.1 took (holds.keeps x.name s.place s.found s.running);
    }) takes keep in
    let memory = left_after t.goal (at_node t.node w) (turned t.goal t.node w) e.reply w.memory in
    let beside : Beside x.name w.memory memory =
    subst (λ o. Beside x.name w.memory (left_after t.goal o (turned t.goal t.node w) e.reply w.memory)) (sym s.at)
    (own_left t.goal x.name s.place (turned t.goal t.node w) e.reply w.memory (λ z done.
    ap (λ (q : Seat). q.name) (own_due t.goal w.memory (nodes_at w) (seat_in (post_of t.goal s)) z
    (sym (worked_due t.goal s) ∙ done)))) in
    record {
      comes = here.comes;
      own = here.own;
      waits = λ other there. waits_beside w.memory held (record {
        name = x.name;
        memory = memory;
        held = e.new.1;
        here = here.waits;
        beside = beside.queue;
      }) other there;
      keeps = λ other there up. keeps_beside w.memory held (bases_of kept e.new.0) (record {
        name = x.name;
        memory = memory;
        held = e.new.1;
        here = here.keeps;
        beside = beside.fetches;
      }) other there up;
    })
