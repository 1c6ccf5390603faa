use Rattle.std.proofs.Common.{◌≡◌, ◌∙◌, ℕ, List, [], Option, Err, map, refl, sym, ap}
use Rattle.slon_model.specs.declared.reply.Refusal.{Refusal}
use Rattle.slon_model.specs.Deeds.{knowledge}
use Rattle.slon_model.specs.Events.{Event}
use Rattle.slon_model.specs.Place.{Place}
use Rattle.slon_model.specs.Sessions.{Seat}
use Rattle.event_store.specs.Seen.{seen_event}
use Rattle.node_store.specs.Polling.{OfNode}
use Rattle.remote_worker.specs.declared.keeping.KeptSet.{KeptSet}
use Rattle.remote_worker.specs.Keeping.{kept_among, seen_kept}
use Rattle.slonik_exec.proofs.Telling.{not_short}
use Rattle.slonik_exec.proofs.Works.{looked_by, stops}
use Rattle.slon_turns.proofs.following.read_sets.Goals as goal

-- what is looked up of the sets that the node keeps
abbrev KeptAt : ℕ → Event → Place → List KeptSet → Type 0
KeptAt own e = OfNode (λ n sets. map seen_kept sets ≡ kept_among own (knowledge n).config e (knowledge n).views)

abbrev Nothing : Seat → List (Option Refusal)
Nothing s = []

pub returns-in-Ok-clause-keeps : goal.returns-in-Ok-clause-keeps
returns-in-Ok-clause-keeps g c =
    let e = seen_event c.args.event.now in (
      (c.in-Ok.ensures.acts, c.in-Ok.ensures.same),
      λ p n ready is. let seen = c.in-Ok.ensures.looks p ready refl in (
        λ own. seen.0 n is
            ∙ ap (λ id. kept_among id (knowledge n).config e (knowledge n).views) (sym own),
        seen.1,
      ),
    )

pub returns-in_ok-told-in-Err : goal.returns-in_ok-told-in-Err
returns-in_ok-told-in-Err g c =
    let reply = c.in_ok-told-in-Err.field-0 in
    let fault = c.in-Err.fault in
    let done = stops c.args.own.now.name Nothing
    (looked_by (KeptAt c.args.node (seen_event c.args.event.now)) {was = Err fault} refl c.in-Err.ensures.acts
    (c.in-Err.ensures.looks, c.in-Err.ensures.same)) (record {
      is = c.in_ok-told-in-Err.ensures.reply;
      memory = not_short c.told.result reply fault c.in_ok-told-in-Err.was c.told.ensures.memory;
    }) in
    record { can = tt; keeps = (done.checks, done.refuses); name = refl }
