-- A turn of which its node made a plan: the database at its index, and what the turn comes to behind the plan.
use Rattle.std.proofs.Common.{◌≡◌, ◌∙◌, ◌<◌, ℕ, Bool, true, false, List, None, Result, IfOk, get_or, length, set}
use Rattle.std.proofs.Common.{sym, ap, subst}
use Rattle.std.proofs.lemmas.Bool.{true≢false}
use Rattle.std.proofs.lemmas.List.{get_or_default, get_or-set_same}
use Rattle.std.proofs.lemmas.Result.{IfOk-weaker}
use Rattle.slon_base.specs.Keeper.{Kept as KeptStore}
use Rattle.slon_base.specs.declared.keeper.Keeper.{Ghosts}
use Rattle.slon_model.specs.declared.reply.Reply.{Reply}
use Rattle.app_store.specs.Base.{Base, base_of}
use Rattle.node_store.specs.Acting.{Acts}
use Rattle.remote_worker.specs.declared.worker.Fetched.{Fetched}
use Rattle.remote_worker.specs.declared.worker.Worker.{Worker}
use Rattle.slonik_exec.specs.declared.databases.Named.{Named as NamedDatabase}
use Rattle.slonik_exec.specs.Answering.{Answers}
use Rattle.slonik_exec.specs.Databases.{Runs, bases_of}
use Rattle.slonik_exec.specs.Heard.{AreDistinct}
use Rattle.slonik_exec.proofs.Lifting.{runs_worked}
use Rattle.slonik_exec.proofs.Trying.{runs_then}
use Rattle.slon_turns.specs.declared.held.Held.{Held}
use Rattle.slon_turns.specs.declared.planning.Plan.{Plan}
use Rattle.slon_turns.specs.declared.planning.Plan.TheVariants.{Told, Has}
use Rattle.slon_turns.specs.declared.working.Work.{Work}
use Rattle.slon_turns.specs.Applying.{EndsWith, goal_in}
use Rattle.slon_turns.specs.Planning.{PlanRuns, PlansAt, PlansFrom}
use Rattle.slon_turns.specs.Working.{CarriesOut, Turn}
use Rattle.slon_turns.proofs.Listens.{if_both}
use Rattle.slon_turns.proofs.Mids.{LookedAt, mids_distinct, mids_inside, mids_try, worked_here}
use Rattle.slon_turns.proofs.Taking.{Planned, carries_had}

-- the turn that is asked for
abbrev pub turn_in : Work → ℕ → List (ℕ × ℕ) → Turn
turn_in work index cuts = record { node = work.node; goal = goal_in work; index = index; cuts = cuts }

-- ---- the database that was looked at

-- the plan is to reply
abbrev pub is_told : Plan → Bool
is_told (Told reply) = true
is_told others = false

goes_on : (name : List ℕ) (old new : Base) (plan : Plan) → is_told plan ≡ false → PlanRuns name old plan new →
    Acts None old new × (new.memory ≡ old.memory)
goes_on name old new (Told reply) none runs = absurd (true≢false none)
goes_on name old new others none runs = runs

-- A plan that goes on leaves the database at its index looked at.
pub look_on : {K : Type 0} {g : Ghosts K} {y : NamedDatabase K g} {plan next : Plan} (kept : K → KeptStore)
    (ds : List (NamedDatabase K g)) (i : ℕ) (d : NamedDatabase K g) →
    AreDistinct (bases_of kept ds) × (i < length ds) → y.name ≡ (get_or ds i d).name →
    (plan ≡ next) × (is_told next ≡ false) →
    PlanRuns (get_or ds i d).name (base_of kept (get_or ds i d).database) plan (base_of kept y.database) →
    LookedAt kept ds i (get_or ds i d) y
look_on {y = y} {plan} {next} kept ds i d (distinct, inside) name (is, none) runs =
    let x = get_or ds i d in
    let on = goes_on x.name (base_of kept x.database) (base_of kept y.database) plan (ap is_told is ∙ none) runs in
    record {
      distinct = distinct;
      inside = inside;
      held = get_or_default ds i d (get_or ds i d) inside;
      name = name;
      acts = on.0;
      same = on.1;
    }

-- and is of the origin that was asked for
pub planned_on : {K : Type 0} {g : Ghosts K} {kept : K → KeptStore} {ds : List (NamedDatabase K g)}
    {x y : NamedDatabase K g} {held mid : Held} {plan next : Plan} (t : Turn) → LookedAt kept ds t.index x y →
    plan ≡ next →
    PlansAt t.goal t.cuts x.name (base_of kept x.database, held) plan (base_of kept y.database, mid) →
    PlansFrom t.goal.origin plan → (mid.queue ≡ held.queue) × (mid.bounds ≡ held.bounds) →
    Planned kept t ds held mid next x y × PlansFrom t.goal.origin next
planned_on {kept = kept} {x = x} {y} {held} {mid} t look is plans from (queue, bounds) =
    let next = subst (λ p. PlansAt t.goal t.cuts x.name (base_of kept x.database, held) p
    (base_of kept y.database, mid)) is plans in
    (record { look = look; plans = next; queue = queue; bounds = bounds }, subst (PlansFrom t.goal.origin) is from)

-- ---- what follows

-- the databases behind what follows a look
pub runs_on : {K : Type 0} {g : Ghosts K} {kept : K → KeptStore} {ds : List (NamedDatabase K g)} {i : ℕ}
    {x y : NamedDatabase K g} {E : Type 0} (result : Result Reply E) (news : List (NamedDatabase K g)) →
    LookedAt kept ds i x y → IfOk result (λ reply. Runs (bases_of kept (set ds i y)) reply (bases_of kept news)) →
    IfOk result (λ reply. Runs (bases_of kept ds) reply (bases_of kept news))
runs_on {kept = kept} {ds} {i} {y = y} result news look runs =
    IfOk-weaker result _ _ (λ reply runs.
    runs_then reply (bases_of kept ds) (bases_of kept (set ds i y)) (bases_of kept news) (mids_try look) runs) runs

-- What was done at the database that was looked at, where all was there that comes with the event.
pub record IsEnded {K : Type 0} {g : Ghosts K} {E : Type 0} (kept : K → KeptStore) (y s z : NamedDatabase K g)
    (result : Result Reply E) : Type 0 where
  pub same : s ≡ y
  pub name : z.name ≡ s.name
  pub answers : IfOk result (λ reply. Answers s.name (base_of kept s.database) reply (base_of kept z.database))

ended_name : {K : Type 0} {g : Ghosts K} {E : Type 0} {kept : K → KeptStore} {y s z : NamedDatabase K g}
    {result : Result Reply E} → IsEnded kept y s z result → z.name ≡ y.name
ended_name e = e.name ∙ ap (λ d. d.name) e.same

ended_answers : {K : Type 0} {g : Ghosts K} {E : Type 0} {kept : K → KeptStore} {y s z : NamedDatabase K g}
    {result : Result Reply E} → IsEnded kept y s z result →
    IfOk result (λ reply. Answers y.name (base_of kept y.database) reply (base_of kept z.database))
ended_answers {kept = kept} {z = z} {result} e =
    subst (λ d. IfOk result (λ reply. Answers d.name (base_of kept d.database) reply (base_of kept z.database)))
    e.same e.answers

pub runs_ended : {K : Type 0} {g : Ghosts K} {E : Type 0} {kept : K → KeptStore} {ds : List (NamedDatabase K g)}
    {i : ℕ} {x y s z : NamedDatabase K g} {result : Result Reply E} → LookedAt kept ds i x y →
    IsEnded kept y s z result →
    IfOk result (λ reply. Runs (bases_of kept ds) reply (bases_of kept (set (set ds i y) i z)))
runs_ended {kept = kept} {ds} {i} {x} {y} {s} {z} {result} look e =
    let mids = set ds i y in
    let at = worked_here kept mids i y z (mids_distinct look)
    (mids_inside look, sym (get_or-set_same ds i y y look.inside)) (ended_name e) in
    runs_on result (set mids i z) look
    (IfOk-weaker result _ _ (λ reply answers. runs_worked reply at answers) (ended_answers e))

pub carries_ended : {K : Type 0} {g : Ghosts K} {E : Type 0} {kept : K → KeptStore} {ds : List (NamedDatabase K g)}
    {x y s z : NamedDatabase K g} {result : Result Reply E} {held mid : Held} {t : Turn} {f : Worker Fetched}
    (left : Held) → Planned kept t ds held mid (Has f) x y × (f.origin ≡ t.goal.origin) → IsEnded kept y s z result →
    IfOk result (λ reply. EndsWith t.goal.aim s.name f (base_of kept s.database, mid) reply
    (base_of kept z.database, left)) →
    IfOk result (λ reply. CarriesOut kept t (ds, held) reply (set (set ds t.index y) t.index z, left))
carries_ended {kept = kept} {y = y} {s} {z} {result} {mid = mid} {t} {f} left plan e ends =
    if_both result (λ reply answers ends. carries_had {kept = kept} {t = t} {f = f} z plan (ended_name e) answers ends)
    (ended_answers e)
    (subst (λ d. IfOk result (λ reply. EndsWith t.goal.aim d.name f (base_of kept d.database, mid) reply
    (base_of kept z.database, left))) e.same ends)
