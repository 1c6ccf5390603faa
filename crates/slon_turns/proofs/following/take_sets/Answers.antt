use Rattle.std.proofs.Common.{◌≡◌, ◌∙◌, Option, Ok, Err, refl, subst}
use Rattle.std.proofs.lemmas.Result.{IfOk-weaker}
use Rattle.slon_model.specs.declared.reply.Refusal.{Refusal}
use Rattle.slon_model.specs.Place.{Place}
use Rattle.slon_model.specs.Sessions.{first_refusal}
use Rattle.event_store.specs.Seen.{seen_event}
use Rattle.app_store.specs.Base.{base_of}
use Rattle.node_store.specs.Polling.{OfNode}
use Rattle.remote_worker.specs.Fetching.{IsCalm, provider_checks}
use Rattle.slonik_exec.proofs.Telling.{not_short}
use Rattle.slonik_exec.proofs.Works.{looked_by, passes, refuses, stops}
use Rattle.slon_turns.specs.Following.{Group, Reader, group_of}
use Rattle.slon_turns.proofs.Follows.{Due, takes_behind}
use Rattle.slon_turns.proofs.Visits.{calm_quiet}
use Rattle.slon_turns.proofs.following.take_sets.Goals as goal

-- what is found of the provider
abbrev SaysAt : Reader → Group → Place → Option Refusal → Type 0
SaysAt r k = OfNode (λ n refusal. first_refusal (provider_checks r.node k.first.provider r.event n) ≡ refusal)

pub returns-in-Some-clause-takes : goal.returns-in-Some-clause-takes
returns-in-Some-clause-takes g c =
    let r : Reader =
    record { node = c.args.node; event = seen_event c.args.event.now; known = c.args.known } in
    let k = group_of c.args.run in
    let refusal = c.in-Some.refusal in
    let looks = c.in-Ok.ensures.looks in
    let done = refuses c.args.provider.now.name (Due r k) refusal
    (calm_quiet refusal (subst IsCalm c.in-Some.is c.in-Ok.ensures.calm))
    (looked_by (SaysAt r k) {was = Ok c.in-Ok.refusal} refl looks.acts (looks.looks, looks.same))
    (λ p n ready is says. says n is ∙ c.in-Some.is) in
    (done.checks, λ p n ready is past. done.refuses p n ready is)

pub returns-in-None-clause-takes : goal.returns-in-None-clause-takes
returns-in-None-clause-takes g c =
    let r : Reader =
    record { node = c.args.node; event = seen_event c.args.event.now; known = c.args.known } in
    let k = group_of c.args.run in
    let looks = c.in-Ok.ensures.looks in
    let new = base_of g.K.Keeper.kept c.take_log.new.provider.database in
    let first = passes c.args.provider.now.name (Due r k)
    (looked_by (SaysAt r k) {was = Ok c.in-Ok.refusal} refl looks.acts (looks.looks, looks.same))
    (λ p n ready is says. says n is ∙ c.in-None.is) in
    IfOk-weaker c.take_log.result _ _ (λ given gives. takes_behind r k new given first gives) c.take_log.ensures.gives

pub returns-in_ok-told-in-Err : goal.returns-in_ok-told-in-Err
returns-in_ok-told-in-Err g c =
    let reply = c.in_ok-told-in-Err.field-0 in
    let fault = c.in-Err.fault in
    let r : Reader =
    record { node = c.args.node; event = seen_event c.args.event.now; known = c.args.known } in
    let k = group_of c.args.run in
    let looks = c.in-Err.ensures.looks in
    let done = stops c.args.provider.now.name (Due r k)
    (looked_by (SaysAt r k) {was = Err fault} refl looks.acts (looks.looks, looks.same)) (record {
      is = c.in_ok-told-in-Err.ensures.reply;
      memory = not_short c.told.result reply fault c.in_ok-told-in-Err.was c.told.ensures.memory;
    }) in
    record { can = tt; takes = (done.checks, λ p n ready is past. done.refuses p n ready is); name = refl }
