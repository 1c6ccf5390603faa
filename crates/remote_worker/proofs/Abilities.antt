-- What a node can carry out leaves how far it is in sets; and the event that was found is the one that is applied.
use Rattle.std.proofs.Common.{◌≡◌, ◌∙◌, ◌<◌, ◌^◌, ℕ, Bool, true, false, cond, List, [], ◌∷◌, Option, Some, None}
use Rattle.std.proofs.Common.{Result, Err, refl, sym, ap, subst}
use Rattle.std.proofs.lemmas.Bool.{false≢true}
use Rattle.std.specs.Prelude.{◌==◌, ◌&&◌, if◌then◌else◌, not, option_map}
use Rattle.std.specs.List.{find, list_all}
use Rattle.store_rows.specs.Rows.{IsId}
use Rattle.node_rows.specs.declared.body.Body.{Body}
use Rattle.node_rows.specs.declared.body.Body.TheVariants.{EnableSubscription, MoveSet, FailoverSet, Sync}
use Rattle.node_rows.specs.Spellings.{CanBody}
use Rattle.slon_model.specs.declared.fault.DbFault.{DbFault}
use Rattle.slon_model.specs.declared.reply.Answered.{Answered}
use Rattle.slon_model.specs.Working as rules
use Rattle.slon_model.specs.Working.{can_carry_out, errand_in}
use Rattle.set_config.proofs.Entries.{eq_of}
use Rattle.event_store.specs.declared.event.Event.{Event}
use Rattle.event_store.specs.declared.queue.Queue.{Queue}
use Rattle.event_store.specs.Keeping.{KeepsViews}
use Rattle.event_store.specs.Queueing.{waiting}
use Rattle.event_store.specs.Seen.{seen_event}
use Rattle.event_store.proofs.Queues.{waiting_of}
use Rattle.app_store.specs.Base.{Base}
use Rattle.node_store.specs.declared.bringing.Brought.{Brought}
use Rattle.node_store.specs.Bringing.{AppliesWith}
use Rattle.remote_worker.specs.declared.carrying.Copying.{Copying}
use Rattle.remote_worker.specs.declared.carrying.Errand.TheVariants.{Copy}
use Rattle.remote_worker.specs.declared.worker.Ready.{Ready}
use Rattle.remote_worker.specs.declared.worker.Taken.{Taken}
use Rattle.remote_worker.specs.declared.worker.Worker.{Worker}
use Rattle.remote_worker.specs.Fetching.{CanCopy}
use Rattle.remote_worker.specs.Working.{Applies, IsAble, IsDue, seen_errand, waits_as}

pub keeps : (body : Body) → can_carry_out body ≡ true → KeepsViews body
keeps (MoveSet set old new era feeds) can = absurd (false≢true can)
keeps (FailoverSet failed limit sets) can = absurd (false≢true can)
keeps others can = tt

-- so what is due leaves it too
pub able_of : {ready : Worker Ready} {found : Option Event} {taken : Taken} → IsDue ready found taken → IsAble found
able_of due = (due.event, due.is, keeps due.event.body due.can)

-- ---- the event that was found

-- what is found among events has the number that was sought, and what all of them have
found_both : (number origin : ℕ) (es : List Event) (e : Event) →
    list_all (λ (f : Event). f.origin == origin) es ≡ true → find (λ f. f.number == number) es ≡ Some e →
    ((e.number == number) ≡ true) × ((e.origin == origin) ≡ true)
found_both number origin [] e all found = absurd cc
found_both number origin (f ∷ fs) e all found =
    by (f.number == number) refl (f.origin == origin) refl all (found_both number origin fs e) found
  where
    by : (b : Bool) → (f.number == number) ≡ b → (a : Bool) → (f.origin == origin) ≡ a →
        (a && list_all (λ (g : Event). g.origin == origin) fs) ≡ true →
        (list_all (λ (g : Event). g.origin == origin) fs ≡ true → find (λ g. g.number == number) fs ≡ Some e →
        ((e.number == number) ≡ true) × ((e.origin == origin) ≡ true)) →
        cond b (Some f) (find (λ g. g.number == number) fs) ≡ Some e →
        ((e.number == number) ≡ true) × ((e.origin == origin) ≡ true)
    by b is false from all more here = absurd (false≢true all)
    by true is true from all more here =
        let same : f ≡ e = cc in
        (subst (λ x. (x.number == number) ≡ true) same is, subst (λ x. (x.origin == origin) ≡ true) same from)
    by false is true from all more here = more all here

-- so the event that was found is of the origin, and has the number
pub found_is : (origin number : ℕ) (queue : Queue) (e : Event) → waits_as origin number queue ≡ Some e →
    (e.origin ≡ origin) × (e.number ≡ number)
found_is origin number queue e found =
    let is = found_both number origin (waiting origin queue) e (waiting_of queue origin) found in
    (eq_of e.origin origin is.1, eq_of e.number number is.0)

-- ---- what is to be brought

abbrev CanBringIf : Option rules.Errand → Type 0
CanBringIf None = Unit {0}
CanBringIf (Some (rules.ToCopy c)) = IsId c.set_id × IsId c.provider × (c.era < 2 ^ 63)
CanBringIf (Some others) = Unit {0}

-- what an event asks for that can be spelled can be spelled
ruled_can : (own : ℕ) (receives : Bool) (origin : ℕ) (body : Body) → CanBody body →
    CanBringIf (errand_in own receives origin body)
ruled_can own receives origin (EnableSubscription set provider receiver forward era) can = by (receiver == own)
  where
    by : (b : Bool) → CanBringIf
        (if b then Some (rules.ToCopy (record { set_id = set; provider = provider; era = era })) else None)
    by true = (can.0, can.1, can.3)
    by false = tt
ruled_can own receives origin Sync can = by (receives && not (origin == own))
  where
    by : (b : Bool) → CanBringIf (if b then Some rules.ToFollow else None)
    by true = tt
    by false = tt
ruled_can own receives origin others can = tt

pub due_copies : {ready : Worker Ready} {found : Option Event} {taken : Taken} {c : Copying} →
    IsDue ready found taken → taken.errand ≡ Some (Copy c) → CanCopy c
due_copies {ready} {c = c} due is =
    let can = subst CanBringIf (sym due.errand ∙ ap (option_map seen_errand) is)
    (ruled_can ready.node ready.state.receives ready.origin due.event.body due.event.can.body) in
    record { set_id = can.0; provider = can.1; era = can.2 }

-- ---- where it is applied

pub applied_found : {found : Option Event} {e : Event} {old new : Base} {result : Result Answered DbFault}
    (brought : Option Brought) → found ≡ Some e → AppliesWith (seen_event e) brought old result new →
    Applies found brought old result new
applied_found {e = e} {old} {new} {result} brought is applies other there =
    let some : Some e ≡ Some other = sym is ∙ there in
    let same : e ≡ other = cc in
    subst (λ x. AppliesWith (seen_event x) brought old result new) same applies

-- what holds of a fault holds of the call that hands it on
pub handed_on : {T : Type 0} (P : Result T DbFault → Type 0) {fault : DbFault} (result : Result T DbFault) →
    (y : DbFault) × (result ≡ Err y) × (y ≡ fault) → P (Err fault) → P result
handed_on P result (y, is, same) holds = subst P (sym is) (subst (λ f. P (Err f)) (sym same) holds)
