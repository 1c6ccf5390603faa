-- What becomes of an event with which all is there that comes with it: it is kept, applied, or refused.
use Rattle.std.proofs.Common.{◌≡◌, ◌∙◌, ◌==◌, ℕ, List, [], ◌∷◌, Option}
use Rattle.std.proofs.Common.{Some, None, Result, Ok, Err, refl, sym, ap, subst}
use Rattle.std.specs.Prelude.{if◌then◌else◌}
use Rattle.std.specs.Option.{option_map}
use Rattle.slon_model.specs.declared.fault.DbFault.{DbFault}
use Rattle.slon_model.specs.declared.reply.Answer.TheVariants.{Fetched as IsFetched}
use Rattle.slon_model.specs.declared.reply.Refusal.{Refusal}
use Rattle.slon_model.specs.declared.reply.Refusal.TheVariants as refused
use Rattle.slon_model.specs.declared.reply.Reply.{Reply}
use Rattle.slon_model.specs.declared.reply.Reply.TheVariants.{Accepted, Refused}
use Rattle.slon_model.specs.Maps.{with_entry}
use Rattle.slon_model.specs.Following.{Found, brought_of, count_of}
use Rattle.slon_model.specs.Place.{Place}
use Rattle.slon_model.specs.Sessions.{bind, checked, writer_of}
use Rattle.slon_model.specs.Working.{Carried, carried, fetch_of, fetches_at, having_fetched, with_fetches}
use Rattle.slon_model.specs.World.{refusal_of}
use Rattle.event_store.specs.declared.event.Event.{Event}
use Rattle.event_store.specs.Seen.{seen_event}
use Rattle.app_store.specs.Base.{Base}
use Rattle.app_store.specs.Fits.{Fits, Ready}
use Rattle.app_store.specs.Parts.{FellTo}
use Rattle.remote_worker.specs.declared.worker.Fetched.{Fetched}
use Rattle.remote_worker.specs.declared.worker.Worker.{Worker}
use Rattle.remote_worker.specs.Kept.{FitsFetch, kept_at}
use Rattle.remote_worker.specs.Loading.{HasFound, names_loaded, rows_loaded}
use Rattle.remote_worker.proofs.Abilities.{found_is}
use Rattle.remote_worker.proofs.Counted.{rows_counted}
use Rattle.remote_worker.proofs.Left.{found_named}
use Rattle.slonik_exec.specs.Answering.{RefusesAt}
use Rattle.slonik_exec.proofs.Telling.{words_at}
use Rattle.slonik_exec.proofs.Works.{ready_still}
use Rattle.slon_turns.specs.declared.held.Held.{Held}
use Rattle.slon_turns.specs.declared.working.Aim.TheVariants.{Fetch, Apply}
use Rattle.slon_turns.specs.Applying.{AppliesAt, EndsWith, IsPut, Post, WorksHere, end_at, left_in, seat_in}
use Rattle.slon_turns.specs.Holding.{Keeps, Stays}
use Rattle.slon_turns.specs.Polling.{Never, Once, Waits}
use Rattle.slon_turns.specs.Working.{Due, ToApply, ToKeep, end_by, gives_up, stated_turn}
use Rattle.slon_turns.proofs.Applying.{stops_here}
use Rattle.slon_turns.proofs.Waiting.{keeps_with, keeps_without}

-- what is applied of an event with this
abbrev carried_with : Post → Event → Found → Carried
carried_with s e f = carried (seat_in s) (seen_event e) (brought_of s.place f)

-- by what is found of the open transactions
abbrev settled_by : Post → Event → Found → Option ℕ → Result Due Refusal
settled_by s e f o =
    bind (checked (option_map refused.Busy o ∷ []) (carried_with s e f)) (λ c. Ok (ToApply c))

settled_is : (s : Post) (e : Event) (f : Found) (w : Worker Fetched) (o : Option ℕ) →
    HasFound e.origin f w.state.load × (o ≡ writer_of (names_loaded w.state.load) s.place) →
    end_by Apply (seat_in s) (seen_event e) f ≡ settled_by s e f o
settled_is s e f w o (finds, is) =
    ap (λ names. settled_by s e f (writer_of names s.place)) (found_named e.origin f w.state.load finds)
    ∙ ap (settled_by s e f) (sym is)

-- no open transaction wrote one of the tables
pub settle_applied : {name : List ℕ} {w : Worker Fetched} {old mid : Base} {held : Held} {reply : Reply}
    {new : Base × Held} →
    ((p : Place) → Ready p old → (None ≡ writer_of (names_loaded w.state.load) p) × Fits p mid) →
    AppliesAt name w (mid, held) reply new → EndsWith Apply name w (old, held) reply new
settle_applied {w = w} {reply = reply} {new} looked applies s e f named aimed for fits can =
    let look = looked s.place fits.ready in
    let due : end_at s e f ≡ Ok (ToApply (carried_with s e f)) =
    ap (λ goal. end_by goal.aim (seat_in s) (seen_event e) f) aimed ∙ settled_is s e f w None (for.finds, look.0) in
    subst (λ d. WorksHere s d reply new) (sym due)
    (applies s e f named aimed for (record {
      ready = ready_still fits.ready look.1;
      is = fits.is;
      waits = fits.waits;
      keeps = fits.keeps;
    }) (can (carried_with s e f) due))

-- one did, and what was fetched is given up
pub settle_busy : {name : List ℕ} {w : Worker Fetched} {old : Base × Held} {new : Base × Held} (xid : ℕ) →
    ((p : Place) → Ready p old.0 → (Some xid ≡ writer_of (names_loaded w.state.load) p) × Fits p new.0) →
    new.1.queue ≡ old.1.queue →
    ((other : ℕ) → kept_at other new.1.fetches ≡ (if w.origin == other then None else kept_at other old.1.fetches)) →
    EndsWith Apply name w old (Refused (refused.Busy xid)) new
settle_busy {w = w} {old} {new} xid looked queue rest s e f named aimed for fits can =
    let look = looked s.place fits.ready in
    let due : end_at s e f ≡ Err (refused.Busy xid) =
    ap (λ goal. end_by goal.aim (seat_in s) (seen_event e) f) aimed
    ∙ settled_is s e f w (Some xid) (for.finds, look.0) in
    record {
      goes = Once (RefusesAt (refused.Busy xid) (ap stated_turn due) refl look.1);
      stays = subst (λ d. Stays s.name (left_in s d (Refused (refused.Busy xid))) new.0 new.1) (sym due)
          (subst (λ goal. Stays s.name (gives_up goal.aim goal.origin (Some (s.name, s.place)) s.memory) new.0 new.1)
          (sym aimed) (record {
            waits = subst (Waits s.name s.memory) (sym queue) fits.waits;
            keeps = λ up. keeps_without w.origin s.name s.memory old.1.fetches new.1.fetches fits.keeps rest;
          }));
    }

-- the store of the node failed
pub settle_stops : {name : List ℕ} {w : Worker Fetched} {old : Base} {held : Held} {reply : Reply} {new : Base}
    (fault : DbFault) → ((p : Place) → Ready p old → FellTo p p fault new) →
    reply ≡ refusal_of (words_at name) fault → EndsWith Apply name w (old, held) reply (new, held)
settle_stops fault falls told s e f named aimed for fits can =
    stops_here s (end_at s e f) (falls s.place fits.ready)
    (told ∙ ap (λ n. refusal_of (words_at n) fault) (sym named)) fits.waits

-- ---- what is kept

-- what was put of an origin is what was fetched for it
put_fits : (w : Worker Fetched) (e : Event) (f : Found) (old new : Held) → IsPut w old.fetches new.fetches →
    (e.origin ≡ w.origin) × (e.number ≡ w.state.number) → HasFound e.origin f w.state.load →
    FitsFetch w.origin (Some (record { number = e.number; found = f })) (kept_at w.origin new.fetches)
put_fits w e f old new put (origin, number) finds =
    subst (FitsFetch w.origin (Some (record { number = e.number; found = f }))) (sym put.here) (
      number ∙ sym put.is.number,
      subst (HasFound w.origin f) (sym put.is.load) (subst (λ o. HasFound o f w.state.load) origin finds),
    )

pub keep_ended : {name : List ℕ} {w : Worker Fetched} {base : Base} {old new : Held} {reply : Reply} →
    IsPut w old.fetches new.fetches → new.queue ≡ old.queue →
    reply ≡ Accepted (IsFetched w.state.number (rows_loaded w.state.load)) →
    EndsWith Fetch name w (base, old) reply (base, new)
keep_ended {w = w} {base} {old} {new} {reply} put queue told s e f named aimed for fits can =
    let is = found_is w.origin w.state.number old.queue e for.found in
    let x = having_fetched (seat_in s) (seen_event e) f in
    let due : end_at s e f ≡ Ok (ToKeep x) = ap (λ goal. end_by goal.aim (seat_in s) (seen_event e) f) aimed in
    let said : reply ≡ Accepted (IsFetched e.number (count_of f)) = told
    ∙ ap (λ n. Accepted (IsFetched n (rows_loaded w.state.load))) (sym is.1)
    ∙ ap (λ n. Accepted (IsFetched e.number n)) (sym (rows_counted e.origin f w.state.load for.finds)) in
    record {
      goes = Never (IsFetched e.number (count_of f)) (ap stated_turn due) said fits.ready.fits;
      stays = subst (λ d. Stays s.name (left_in s d reply) base new) (sym due)
          (subst (λ r. Stays s.name (left_in s (Ok (ToKeep x)) r) base new) (sym said) (record {
            waits = subst (Waits s.name s.memory) (sym queue) fits.waits;
            keeps = λ up. subst (λ o. Keeps s.name
                (with_fetches s.name (with_entry o (fetch_of x) (fetches_at s.name s.memory)) s.memory) new.fetches)
                (sym is.0)
                (keeps_with w.origin s.name s.memory (fetch_of x) old.fetches new.fetches
                (fits.keeps, put_fits w e f old new put is for.finds) put.others);
          }));
    }
