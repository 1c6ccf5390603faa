-- What a turn comes to that brings something, at the two databases that it concerns, by what was fetched.
use Rattle.std.proofs.Common.{◌≡◌, ◌∙◌, true, false, None, Some, Err, refl, sym, ap, subst}
use Rattle.std.proofs.lemmas.Bool.{true≢false}
use Rattle.slon_model.specs.declared.fault.DbFault.{DbFault}
use Rattle.slon_model.specs.declared.reply.Refusal.{Refusal}
use Rattle.slon_model.specs.declared.reply.Refusal.TheVariants as refused
use Rattle.slon_model.specs.declared.reply.Reply.{Reply}
use Rattle.slon_model.specs.declared.reply.Reply.TheVariants as replied
use Rattle.slon_model.specs.Sessions.{bind, seat}
use Rattle.slon_model.specs.World.{refusal_of}
use Rattle.event_store.specs.declared.event.Event.{Event}
use Rattle.event_store.specs.Seen.{seen_event}
use Rattle.app_store.specs.Fits.{Fits}
use Rattle.app_store.specs.Parts.{FellTo, Fell}
use Rattle.node_change.specs.declared.side.Side.{Side}
use Rattle.node_change.specs.declared.side.Side.TheVariants.{From, To}
use Rattle.node_store.specs.Joining.{Pair}
use Rattle.remote_worker.specs.declared.fetching.Found.{Found}
use Rattle.remote_worker.specs.declared.fetching.Found.TheVariants.{Brings}
use Rattle.remote_worker.specs.declared.worker.Fetched.{Fetched}
use Rattle.remote_worker.specs.declared.worker.Worker.{Worker}
use Rattle.remote_worker.specs.Fetching.{Asked, Fetches, IsFound, fetched, is_loud}
use Rattle.remote_worker.specs.Looking.{FallsOne}
use Rattle.remote_worker.specs.Working.{waits_as, IsWith, seen_copying}
use Rattle.slonik_exec.specs.Databases.{told_by}
use Rattle.slonik_exec.specs.Stored.{Couple, name_at}
use Rattle.slonik_exec.proofs.Asking.{one_place}
use Rattle.slonik_exec.proofs.Seats.{same_up}
use Rattle.slonik_exec.proofs.Telling.{words_at}
use Rattle.slon_turns.specs.declared.fetching.Trip.{Trip}
use Rattle.slon_turns.specs.declared.held.Held.{Held}
use Rattle.slon_turns.specs.Applying.{EndsWith, WorksHere, end_at, seat_in}
use Rattle.slon_turns.specs.Fetching.{Visit, WorksBetween, ByOwn, ByProvider, due_from}
use Rattle.slon_turns.specs.Working.{CanTurn}
use Rattle.slon_turns.proofs.Applying.{refused_here, stops_here}
use Rattle.slon_turns.proofs.Waiting.{keeps_but}

-- a refusal of what is fetched tells of no store
pub calm_quiet : (refusal : Refusal) → is_loud refusal ≡ false → told_by (replied.Refused refusal) ≡ None
calm_quiet (refused.Fault database count) calm = absurd (true≢false calm)
calm_quiet others calm = refl

-- what is asked for
abbrev pub asked_of : Trip → Event → Asked
asked_of a e = record { copying = a.copying; own = a.taken.node; event = seen_event e }

-- what was fetched is so at these two
pub found_by : {a : Trip} {old : Couple} {held : Held} (v : Visit a old held) (e : Event) (given : Found) →
    waits_as a.taken.origin a.taken.state.number held.queue ≡ Some e →
    Fetches (asked_of a e) v.post.place v.provider given →
    IsFound v.event.origin (fetched (seen_copying a.copying) (seen_event v.event) (seat_in v.post)
    (seat old.names.to v.provider v.node)) given
found_by {a} {old} v e given is fetches =
    let some : Some e ≡ Some v.event = sym is ∙ v.took.found in
    let same : e ≡ v.event = cc in
    subst (λ x. Fetches (asked_of a x) v.post.place v.provider given) same fetches v.post.node v.node v.post.name
    old.names.to v.fits.is v.is (sym v.took.node) v.id

-- it is refused
pub refused_between : {a : Trip} {old : Couple} {held : Held} (v : Visit a old held) (refusal : Refusal)
    (new : Pair) →
    (fetched (seen_copying a.copying) (seen_event v.event) (seat_in v.post) (seat old.names.to v.provider v.node)
    ≡ Err refusal) × (is_loud refusal ≡ false) →
    Fits v.post.place new.from × Fits v.provider new.to →
    WorksBetween v.post (old.names.to, v.provider) (due_from v) (replied.Refused refusal) new held
refused_between {held = held} v refusal new (is, calm) (own, other) =
    ByOwn (refused_here v.post (due_from v) refusal (new.from, held) (
      ap (λ r. bind r (end_at v.post v.event)) is,
      calm,
    ) (own, v.fits.holds)) other

-- what was fetched is kept, or the event is applied with it
pub ended_between : {a : Trip} {old : Couple} {held : Held} {reply : Reply} (v : Visit a old held)
    (w : Worker Fetched) (mid new : Pair) (left : Held) →
    IsFound v.event.origin (fetched (seen_copying a.copying) (seen_event v.event) (seat_in v.post)
    (seat old.names.to v.provider v.node)) (Brings w) × IsWith a.taken w.state.load w →
    (Fits v.post.place mid.from × Fits v.provider new.to) × CanTurn (due_from v) →
    EndsWith a.aim old.names.from w (mid.from, held) reply (new.from, left) →
    WorksBetween v.post (old.names.to, v.provider) (due_from v) reply new left
ended_between {a} {old} {held} {reply} v w mid new left ((f, is, finds), same) ((own, other), can) ends =
    let e = v.event in
    let due : due_from v ≡ end_at v.post e f = ap (λ r. bind r (end_at v.post e)) is in
    let found : waits_as w.origin w.state.number held.queue ≡ Some e =
    ap (λ o. waits_as o w.state.number held.queue) same.origin
    ∙ ap (λ n. waits_as a.taken.origin n held.queue) same.number ∙ v.took.found in
    ByOwn (subst (λ d. WorksHere v.post d reply (new.from, left)) (sym due)
    (ends v.post e f v.named (v.aimed ∙ ap (λ o. record { aim = a.aim; origin = o }) (sym same.origin))
    (record { found = found; kind = same.kind ∙ v.took.kind; finds = finds })
    (record {
      ready = record { fits = own; sound = v.fits.ready.sound; spelled = v.fits.ready.spelled };
      is = v.fits.is;
      waits = v.fits.holds.waits;
      keeps = keeps_but w.origin v.post.name v.post.memory held.fetches v.fits.holds.keeps;
    }) (subst CanTurn due can))) other

-- a store failed
pub falls_between : {a : Trip} {old : Couple} {held : Held} {reply : Reply} (v : Visit a old held) (side : Side)
    (fault : DbFault) (new : Pair) → FallsOne side v.post.place v.provider fault new →
    (reply ≡ refusal_of (words_at (name_at side old.names)) fault) × (old.bases.to.memory.up ≡ true) →
    WorksBetween v.post (old.names.to, v.provider) (due_from v) reply new held
falls_between {old = old} {held} v From fault new (fell, still) (told, up) =
    ByOwn (stops_here v.post (due_from v) fell
    (told ∙ ap (λ n. refusal_of (words_at n) fault) (sym v.named)) v.fits.holds.waits) still
falls_between {old = old} {held} {reply} v To fault new (still, fell) (told, up) = by fell
  where
    by : FellTo v.provider v.provider fault new.to →
        WorksBetween v.post (old.names.to, v.provider) (due_from v) reply new held
    by (Fell count stands is rose fits) =
        ByProvider count (told ∙ ap (refusal_of (words_at old.names.to)) is)
        (sym (same_up v.provider old.bases.to v.ready.fits) ∙ up, rose)
        (one_place v.provider count stands new.to fits) still v.fits.holds
