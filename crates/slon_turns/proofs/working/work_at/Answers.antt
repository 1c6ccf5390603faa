use Rattle.std.proofs.Common.{◌∙◌, get_or, refl, sym, subst}
use Rattle.std.proofs.lemmas.List.{get_or_default, get_or-set_same}
use Rattle.std.proofs.lemmas.Result.{IfOk-weaker}
use Rattle.app_store.specs.Base.{base_of}
use Rattle.remote_worker.specs.Working.{waits_as, IsAble}
use Rattle.slonik_exec.proofs.Lifting.{runs_worked}
use Rattle.slon_turns.specs.declared.planning.Plan.TheVariants.{Bring, Follow}
use Rattle.slon_turns.specs.Planning.{CanPlan, PlanRuns, PlansAt}
use Rattle.slon_turns.proofs.Ahead.{carries_ended, look_on, planned_on, runs_ended, runs_on, turn_in}
use Rattle.slon_turns.proofs.Learning.{learns_followed, learns_same}
use Rattle.slon_turns.proofs.Mids.{mids_distinct, mids_seat, worked_here}
use Rattle.slon_turns.proofs.Onwards.{carries_followed}
use Rattle.slon_turns.proofs.Taking.{carries_brought, carries_told}
use Rattle.slon_turns.proofs.working.work_at.Goals as goal

pub returns-in-Told : goal.returns-in-Told
returns-in-Told g c =
    let kept = g.K.Keeper.kept in
    let items = c.args.databases.now in
    let i = c.args.index in
    let inside = c.requires.seat.0 in
    let x = get_or items i c.index-databases-index.result in
    let y = c.plan_at.new.own in
    let held = get_or_default items i c.index-databases-index.result x inside in
    let name = c.in_ok-reply.ensures.name in
    let t = turn_in c.args.work i c.args.cuts.now in
    let runs = subst (λ p. PlanRuns x.name (base_of kept x.database) p (base_of kept y.database)) c.in-Told.is
    c.in_ok-reply.ensures.runs in
    let plans = subst (λ p. PlansAt t.goal t.cuts x.name (base_of kept x.database, c.args.held.now) p
    (base_of kept y.database, c.plan_at.new.held)) c.in-Told.is c.in_ok-reply.ensures.plans in
    record {
      runs = runs_worked c.in-Told.reply (worked_here kept items i x y c.requires.distinct (inside, held) name) runs;
      carries = carries_told {kept = kept} t
          (record { distinct = c.requires.distinct; inside = inside; held = held; name = name }) runs plans;
      learns = learns_same kept t items c.args.held.now c.plan_at.new.held c.plan_at.ensures.bounds;
    }

pub end_at-requires-clause-able : goal.end_at-requires-clause-able
end_at-requires-clause-able g c =
    let can = subst (CanPlan c.args.held.now.queue) c.in-Has.is c.in_ok-reply.ensures.can in
    subst (λ q. IsAble (waits_as c.in-Has.fetched.origin c.in-Has.fetched.state.number q))
    (sym c.plan_at.ensures.queue) can.0

pub end_at-requires-clause-can : goal.end_at-requires-clause-can
end_at-requires-clause-can g c = (subst (CanPlan c.args.held.now.queue) c.in-Has.is c.in_ok-reply.ensures.can).1

pub fetch_from-requires-clause-can : goal.fetch_from-requires-clause-can
fetch_from-requires-clause-can g c =
    subst (λ q. CanPlan q (Bring c.in-Bring.taken c.in-Bring.copying)) (sym c.plan_at.ensures.queue)
    (subst (CanPlan c.args.held.now.queue) c.in-Bring.is c.in_ok-reply.ensures.can)

pub returns-in-Has-clause-runs : goal.returns-in-Has-clause-runs
returns-in-Has-clause-runs g c =
    let look = look_on g.K.Keeper.kept c.args.databases.now c.args.index c.index-databases-index.result
    (c.requires.distinct, c.requires.seat.0) c.in_ok-reply.ensures.name (c.in-Has.is, refl)
    c.in_ok-reply.ensures.runs in
    let same = get_or-set_same _ _ _ c.index-databases-index-in-Has.result c.requires.seat.0 in
    runs_ended look (record { same = same; name = c.end_at.ensures.name; answers = c.end_at.ensures.answers })

pub returns-in-Has-clause-carries : goal.returns-in-Has-clause-carries
returns-in-Has-clause-carries g c =
    let look = look_on g.K.Keeper.kept c.args.databases.now c.args.index c.index-databases-index.result
    (c.requires.distinct, c.requires.seat.0) c.in_ok-reply.ensures.name (c.in-Has.is, refl)
    c.in_ok-reply.ensures.runs in
    let t = turn_in c.args.work c.args.index c.args.cuts.now in
    let plan = planned_on t look c.in-Has.is c.in_ok-reply.ensures.plans c.in_ok-reply.ensures.from
    (c.plan_at.ensures.queue, c.plan_at.ensures.bounds) in
    let same = get_or-set_same _ _ _ c.index-databases-index-in-Has.result c.requires.seat.0 in
    carries_ended c.end_at.new.held plan
    (record { same = same; name = c.end_at.ensures.name; answers = c.end_at.ensures.answers }) c.end_at.ensures.ends

pub fetch_from-requires-clause-distinct : goal.fetch_from-requires-clause-distinct
fetch_from-requires-clause-distinct g c =
    let look = look_on g.K.Keeper.kept c.args.databases.now c.args.index c.index-databases-index.result
    (c.requires.distinct, c.requires.seat.0) c.in_ok-reply.ensures.name (c.in-Bring.is, refl)
    c.in_ok-reply.ensures.runs in
    mids_distinct look

pub fetch_from-requires-clause-seat : goal.fetch_from-requires-clause-seat
fetch_from-requires-clause-seat g c =
    let look = look_on g.K.Keeper.kept c.args.databases.now c.args.index c.index-databases-index.result
    (c.requires.distinct, c.requires.seat.0) c.in_ok-reply.ensures.name (c.in-Bring.is, refl)
    c.in_ok-reply.ensures.runs in
    mids_seat look c.requires.seat

pub returns-in-Bring-clause-runs : goal.returns-in-Bring-clause-runs
returns-in-Bring-clause-runs g c =
    let look = look_on g.K.Keeper.kept c.args.databases.now c.args.index c.index-databases-index.result
    (c.requires.distinct, c.requires.seat.0) c.in_ok-reply.ensures.name (c.in-Bring.is, refl)
    c.in_ok-reply.ensures.runs in
    runs_on c.fetch_from.result c.fetch_from.new.databases look c.fetch_from.ensures.runs

pub returns-in-Bring-clause-carries : goal.returns-in-Bring-clause-carries
returns-in-Bring-clause-carries g c =
    let look = look_on g.K.Keeper.kept c.args.databases.now c.args.index c.index-databases-index.result
    (c.requires.distinct, c.requires.seat.0) c.in_ok-reply.ensures.name (c.in-Bring.is, refl)
    c.in_ok-reply.ensures.runs in
    let t = turn_in c.args.work c.args.index c.args.cuts.now in
    let plan = planned_on t look c.in-Bring.is c.in_ok-reply.ensures.plans c.in_ok-reply.ensures.from
    (c.plan_at.ensures.queue, c.plan_at.ensures.bounds) in
    IfOk-weaker c.fetch_from.result _ _ (λ reply brings.
    carries_brought {kept = g.K.Keeper.kept} {t = t} {w = c.in-Bring.taken} {c = c.in-Bring.copying}
    c.fetch_from.new.databases plan brings) c.fetch_from.ensures.brings

pub follow_from-requires-clause-can : goal.follow_from-requires-clause-can
follow_from-requires-clause-can g c =
    subst (λ q. CanPlan q (Follow c.in-Follow.taken)) (sym c.plan_at.ensures.queue)
    (subst (CanPlan c.args.held.now.queue) c.in-Follow.is c.in_ok-reply.ensures.can)

pub follow_from-requires-clause-distinct : goal.follow_from-requires-clause-distinct
follow_from-requires-clause-distinct g c =
    let look = look_on g.K.Keeper.kept c.args.databases.now c.args.index c.index-databases-index.result
    (c.requires.distinct, c.requires.seat.0) c.in_ok-reply.ensures.name (c.in-Follow.is, refl)
    c.in_ok-reply.ensures.runs in
    mids_distinct look

pub follow_from-requires-clause-seat : goal.follow_from-requires-clause-seat
follow_from-requires-clause-seat g c =
    let look = look_on g.K.Keeper.kept c.args.databases.now c.args.index c.index-databases-index.result
    (c.requires.distinct, c.requires.seat.0) c.in_ok-reply.ensures.name (c.in-Follow.is, refl)
    c.in_ok-reply.ensures.runs in
    mids_seat look c.requires.seat

pub returns-in-Follow-clause-runs : goal.returns-in-Follow-clause-runs
returns-in-Follow-clause-runs g c =
    let look = look_on g.K.Keeper.kept c.args.databases.now c.args.index c.index-databases-index.result
    (c.requires.distinct, c.requires.seat.0) c.in_ok-reply.ensures.name (c.in-Follow.is, refl)
    c.in_ok-reply.ensures.runs in
    runs_on c.follow_from.result c.follow_from.new.databases look c.follow_from.ensures.runs

pub returns-in-Follow-clause-carries : goal.returns-in-Follow-clause-carries
returns-in-Follow-clause-carries g c =
    let look = look_on g.K.Keeper.kept c.args.databases.now c.args.index c.index-databases-index.result
    (c.requires.distinct, c.requires.seat.0) c.in_ok-reply.ensures.name (c.in-Follow.is, refl)
    c.in_ok-reply.ensures.runs in
    let t = turn_in c.args.work c.args.index c.args.cuts.now in
    let plan = planned_on t look c.in-Follow.is c.in_ok-reply.ensures.plans c.in_ok-reply.ensures.from
    (c.plan_at.ensures.queue, c.plan_at.ensures.bounds) in
    IfOk-weaker c.follow_from.result _ _ (λ reply follows.
    carries_followed {kept = g.K.Keeper.kept} {t = t} {w = c.in-Follow.taken} c.follow_from.new.databases plan follows)
    c.follow_from.ensures.follows

pub returns-in-Has-clause-learns : goal.returns-in-Has-clause-learns
returns-in-Has-clause-learns g c =
    IfOk-weaker c.end_at.result _ _ (λ reply answers.
    learns_same g.K.Keeper.kept (turn_in c.args.work c.args.index c.args.cuts.now) c.args.databases.now c.args.held.now
    c.end_at.new.held (c.end_at.ensures.bounds ∙ c.plan_at.ensures.bounds)) c.end_at.ensures.answers

pub returns-in-Bring-clause-learns : goal.returns-in-Bring-clause-learns
returns-in-Bring-clause-learns g c =
    IfOk-weaker c.fetch_from.result _ _ (λ reply runs.
    learns_same g.K.Keeper.kept (turn_in c.args.work c.args.index c.args.cuts.now) c.args.databases.now c.args.held.now
    c.fetch_from.new.held (c.fetch_from.ensures.bounds ∙ c.plan_at.ensures.bounds)) c.fetch_from.ensures.runs

pub returns-in-Follow-clause-learns : goal.returns-in-Follow-clause-learns
returns-in-Follow-clause-learns g c =
    let look = look_on g.K.Keeper.kept c.args.databases.now c.args.index c.index-databases-index.result
    (c.requires.distinct, c.requires.seat.0) c.in_ok-reply.ensures.name (c.in-Follow.is, refl)
    c.in_ok-reply.ensures.runs in
    let t = turn_in c.args.work c.args.index c.args.cuts.now in
    let plan = planned_on t look c.in-Follow.is c.in_ok-reply.ensures.plans c.in_ok-reply.ensures.from
    (c.plan_at.ensures.queue, c.plan_at.ensures.bounds) in
    IfOk-weaker c.follow_from.result _ _ (λ reply learns.
    learns_followed {kept = g.K.Keeper.kept} {t = t} {w = c.in-Follow.taken} c.follow_from.new.held plan learns)
    c.follow_from.ensures.learns
