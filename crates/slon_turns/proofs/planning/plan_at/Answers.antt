use Rattle.std.proofs.Common.{◌≡◌, ◌∙◌, ◌==◌, ℕ, true, List, Option, Some, None, Err, refl, sym, ap, subst, is_some}
use Rattle.std.proofs.lemmas.Bool.{false≢true}
use Rattle.std.proofs.lemmas.Result.{IfOk-weaker}
use Rattle.std.specs.Prelude.{◌&&◌, if◌then◌else◌, codes}
use Rattle.store_rows.specs.Rows.{IsId}
use Rattle.slon_model.specs.declared.reply.Refusal.TheVariants.{Nothing, NotBuilt as IsUnbuilt}
use Rattle.slon_model.specs.declared.reply.Reply.TheVariants.{Refused}
use Rattle.slon_model.specs.World.{refusal_of}
use Rattle.node_state.specs.declared.memory.Identity.{Identity}
use Rattle.node_state.specs.Known.{IsIdentified}
use Rattle.app_store.specs.Base.{Base, base_of}
use Rattle.node_store.specs.Acting.{own_id}
use Rattle.remote_worker.specs.Kept.{kept_at}
use Rattle.remote_worker.specs.Working.{Takes}
use Rattle.remote_worker.proofs.Abilities.{able_of, due_copies}
use Rattle.slonik_exec.proofs.Telling.{not_short, words_at}
use Rattle.slonik_exec.proofs.Works.{ready_still, replied}
use Rattle.slon_turns.specs.declared.held.Held.{Held}
use Rattle.slon_turns.specs.Applying.{due_at, seat_in, WorksHere}
use Rattle.slon_turns.specs.Planning.{kept_to}
use Rattle.slon_turns.specs.Recalling.{Recalls}
use Rattle.slon_turns.proofs.Applying.{due_taken, found_due, missing_due, next_here, refused_here, stops_here}
use Rattle.slon_turns.proofs.Applying.{taken_planned}
use Rattle.slon_turns.proofs.Recalling.{anew_can, anew_from, anew_own, anew_plans, bringer_of, if_two, recall_can}
use Rattle.slon_turns.proofs.Recalling.{recall_from, recall_own, recall_plans, runs_on}
use Rattle.slon_turns.proofs.planning.plan_at.Goals as goal

-- the id of a node is in its range
own_small : (o : Option Identity) → IsIdentified o → is_some o ≡ true → IsId (own_id o)
own_small None identified some = absurd (false≢true some)
own_small (Some i) identified some = identified i refl

pub returns-in-Err-clause-runs : goal.returns-in-Err-clause-runs
returns-in-Err-clause-runs g c =
    let kept = g.K.Keeper.kept in
    replied (Err c.in-Err.fault) (base_of kept c.args.own.now.database) (base_of kept c.resume.new.own)
    c.in_ok-told-in-Err.ensures.reply c.in-Err.ensures.acts

pub returns-in-Err-clause-plans : goal.returns-in-Err-clause-plans
returns-in-Err-clause-plans g c s aimed named cuts fits find =
    let reply = c.in_ok-told-in-Err.field-0 in
    let fault = c.in-Err.fault in
    let full = not_short c.told.result reply fault c.in_ok-told-in-Err.was c.told.ensures.memory in
    stops_here s (due_at s.goal s.memory (seat_in s) find) (c.in-Err.ensures.looks s.place fits.ready full)
    (c.in_ok-told-in-Err.ensures.reply ∙ ap (λ n. refusal_of (words_at n) fault) (sym named)) fits.holds.waits

pub returns-in-Missing-clause-plans : goal.returns-in-Missing-clause-plans
returns-in-Missing-clause-plans g c s aimed named cuts fits find =
    let look = c.in-Ok.ensures.looks s.place fits.ready refl in
    let next = next_here s c.in-Ok.ready c.args.work.origin (ap (λ x. x.origin) aimed, c.in-Ok.ensures.own.1)
    (look.0 s.node fits.is) in
    refused_here s (due_at s.goal s.memory (seat_in s) find) Nothing
    (base_of g.K.Keeper.kept c.resume.new.own, c.args.held.now)
    (missing_due next fits c.in-Missing.ensures find, refl) (look.1, fits.holds)

pub returns-in_ok-word-in-NotBuilt-clause-plans : goal.returns-in_ok-word-in-NotBuilt-clause-plans
returns-in_ok-word-in-NotBuilt-clause-plans g c s aimed named cuts fits find =
    let look = c.in-Ok.ensures.looks s.place fits.ready refl in
    let next = next_here s c.in-Ok.ready c.args.work.origin (ap (λ x. x.origin) aimed, c.in-Ok.ensures.own.1)
    (look.0 s.node fits.is) in
    let found = subst (Takes c.in-Ok.ready c.args.held.now.queue) c.in-NotBuilt.is c.take.ensures in
    let new : Base × Held = (base_of g.K.Keeper.kept c.resume.new.own, c.args.held.now) in
    subst (λ (word : List ℕ). WorksHere s (due_at s.goal s.memory (seat_in s) find) (Refused (IsUnbuilt word))
    new) (sym c.in_ok-word-in-NotBuilt.ensures)
    (refused_here s (due_at s.goal s.memory (seat_in s) find) (IsUnbuilt (codes "work")) new
    (found_due next fits found.0 found.1 found.2 find, refl) (look.1, fits.holds))

pub returns-in-Some-clause-can : goal.returns-in-Some-clause-can
returns-in-Some-clause-can g c =
    let queue = c.args.held.now.queue in
    let took = subst (Takes c.in-Ok.ready queue) c.in-Due.is c.take.ensures in
    IfOk-weaker c.recall.result _ _ (λ plan same.
    recall_can queue c.in-Due.taken plan (able_of (due_taken queue c.in-Due.taken took)) same) c.recall.ensures.same

pub returns-in-Some-clause-own : goal.returns-in-Some-clause-own
returns-in-Some-clause-own g c =
    let took = subst (Takes c.in-Ok.ready c.args.held.now.queue) c.in-Due.is c.take.ensures in
    let own = own_id c.args.own.now.database.state.node.identity in
    IfOk-weaker c.recall.result _ _ (λ plan same.
    recall_own own c.in-Due.taken plan (took.0 ∙ c.in-Ok.ensures.own.0) same) c.recall.ensures.same

pub returns-in-Some-clause-from : goal.returns-in-Some-clause-from
returns-in-Some-clause-from g c =
    let took = subst (Takes c.in-Ok.ready c.args.held.now.queue) c.in-Due.is c.take.ensures in
    IfOk-weaker c.recall.result _ _ (λ plan same.
    recall_from c.args.work.origin c.in-Due.taken plan (took.1 ∙ c.in-Ok.ensures.own.1) same) c.recall.ensures.same

pub returns-in-Some-clause-runs : goal.returns-in-Some-clause-runs
returns-in-Some-clause-runs g c =
    IfOk-weaker c.recall.result _ _ (λ plan runs. runs_on _ _ plan c.in-Ok.ensures.acts c.in-Ok.ensures.same runs)
    c.recall.ensures.runs

pub returns-in-Some-clause-plans : goal.returns-in-Some-clause-plans
returns-in-Some-clause-plans g c =
    let held = c.args.held.now in
    let t = c.in-Due.taken in
    let load = c.in-Some.kept.load in
    let mid = base_of g.K.Keeper.kept c.resume.new.own in
    let new = base_of g.K.Keeper.kept c.recall.new.own.database in
    if_two c.recall.result (λ plan same recalls s aimed named cuts fits.
    let look = c.in-Ok.ensures.looks s.place fits.ready refl in
    let next = next_here s c.in-Ok.ready c.args.work.origin (ap (λ x. x.origin) aimed, c.in-Ok.ensures.own.1)
    (look.0 s.node fits.is) in
    let took = subst (Takes c.in-Ok.ready held.queue) c.in-Due.is c.take.ensures in
    recall_plans _ plan (record {
      plan = taken_planned t next fits took;
      fits = fits;
      is = sym c.in-Some.is ∙ c.take_kept.ensures.value
          ∙ ap (λ a. kept_to a t.state.number (kept_at t.origin held.fetches)) (sym (ap (λ x. x.aim) aimed));
      queue = refl;
      rest = λ other apart.
          c.take_kept.ensures.rest other
          ∙ ap (λ o. if is_some o && t.origin == other then None else kept_at other held.fetches) c.in-Some.is
          ∙ ap (λ b. if b then None else kept_at other held.fetches) apart;
    }) (ready_still fits.ready look.1) same (subst (λ n. Recalls n load mid plan new) (sym named) recalls))
    c.recall.ensures.same c.recall.ensures.recalls

pub plan_anew-requires-clause-node : goal.plan_anew-requires-clause-node
plan_anew-requires-clause-node g c =
    let queue = c.args.held.now.queue in
    let took = subst (Takes c.in-Ok.ready queue) c.in-Due.is c.take.ensures in
    let t = c.in-Due.taken in
    let due = due_taken queue t took in
    let memory = c.args.own.now.database.state.node in (
      subst IsId (sym (took.0 ∙ c.in-Ok.ensures.own.0))
          (own_small memory.identity memory.identified c.requires.node),
      bringer_of t.state.errand (λ x is. due_copies due is),
    )

pub returns-in-None-clause-can : goal.returns-in-None-clause-can
returns-in-None-clause-can g c =
    let queue = c.args.held.now.queue in
    let took = subst (Takes c.in-Ok.ready queue) c.in-Due.is c.take.ensures in
    let t = c.in-Due.taken in
    let due = due_taken queue t took in
    let memory = c.args.own.now.database.state.node in
    let id = subst IsId (sym (took.0 ∙ c.in-Ok.ensures.own.0))
    (own_small memory.identity memory.identified c.requires.node) in
    let brings = bringer_of t.state.errand (λ x is. due_copies due is) in
    IfOk-weaker c.plan_anew.result _ _ (λ plan same. anew_can queue t plan (able_of due, id, brings) same)
    c.plan_anew.ensures.anew

pub returns-in-None-clause-own : goal.returns-in-None-clause-own
returns-in-None-clause-own g c =
    let took = subst (Takes c.in-Ok.ready c.args.held.now.queue) c.in-Due.is c.take.ensures in
    let own = own_id c.args.own.now.database.state.node.identity in
    IfOk-weaker c.plan_anew.result _ _ (λ plan same.
    anew_own own c.in-Due.taken plan (took.0 ∙ c.in-Ok.ensures.own.0) same) c.plan_anew.ensures.anew

pub returns-in-None-clause-from : goal.returns-in-None-clause-from
returns-in-None-clause-from g c =
    let took = subst (Takes c.in-Ok.ready c.args.held.now.queue) c.in-Due.is c.take.ensures in
    IfOk-weaker c.plan_anew.result _ _ (λ plan same.
    anew_from c.args.work.origin c.in-Due.taken plan (took.1 ∙ c.in-Ok.ensures.own.1) same) c.plan_anew.ensures.anew

pub returns-in-None-clause-runs : goal.returns-in-None-clause-runs
returns-in-None-clause-runs g c =
    IfOk-weaker c.plan_anew.result _ _ (λ plan runs. runs_on _ _ plan c.in-Ok.ensures.acts c.in-Ok.ensures.same runs)
    c.plan_anew.ensures.runs

pub returns-in-None-clause-plans : goal.returns-in-None-clause-plans
returns-in-None-clause-plans g c =
    let held = c.args.held.now in
    let t = c.in-Due.taken in
    if_two c.plan_anew.result (λ plan same plans s aimed named cuts fits.
    let look = c.in-Ok.ensures.looks s.place fits.ready refl in
    let next = next_here s c.in-Ok.ready c.args.work.origin (ap (λ x. x.origin) aimed, c.in-Ok.ensures.own.1)
    (look.0 s.node fits.is) in
    let took = subst (Takes c.in-Ok.ready held.queue) c.in-Due.is c.take.ensures in
    anew_plans _ plan (record {
      plan = taken_planned t next fits took;
      fits = fits;
      none = sym c.in-None.is ∙ c.take_kept.ensures.value
          ∙ ap (λ a. kept_to a t.state.number (kept_at t.origin held.fetches)) (sym (ap (λ x. x.aim) aimed));
      queue = refl;
      same = λ other.
          c.take_kept.ensures.rest other
          ∙ ap (λ o. if is_some o && t.origin == other then None else kept_at other held.fetches) c.in-None.is;
      named = named;
      cut = cuts;
    }) (ready_still fits.ready look.1) same plans) c.plan_anew.ensures.anew c.plan_anew.ensures.plans
