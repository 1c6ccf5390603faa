-- A node that applies an event logs nothing of its own: the rows come from the origin of the event, another node.
use Rattle.std.proofs.Common.{◌≡◌, ◌∙◌, ℕ, Bool, true, false, cond, List, [], ◌∷◌, Option, Some, None, refl, sym, ap}
use Rattle.std.proofs.Common.{not, subst}
use Rattle.std.specs.Prelude.{◌==◌, option_map, ◌&&◌}
use Rattle.std.specs.List.{AllByRecursion}
use Rattle.std.proofs.lemmas.Bool.{eq-eqb, false≢true}
use Rattle.node_rows.specs.declared.body.Body.{Body}
use Rattle.node_rows.specs.declared.body.Body.TheVariants.{Sync, EnableSubscription}
use Rattle.slon_model.specs.Names.{Named}
use Rattle.slon_model.specs.Events.{Event}
use Rattle.slon_model.specs.Deeds.{Brought, Knowledge}
use Rattle.slon_model.specs.Logs.{logged}
use Rattle.slon_model.specs.Following.{Found, FoundSyncs, brought_of, tables_in, kept_from}
use Rattle.slon_model.specs.Place.{Place}
use Rattle.slon_model.specs.Sessions.{World, Seat, writer_of}
use Rattle.slon_model.specs.Tasks.{Act}
use Rattle.slon_model.specs.Turns.{on_turn}
use Rattle.slon_model.specs.Working.{Carried, Errand, Fetched, ToCopy, ToFollow, carried, errand_in, errand_of}
use Rattle.slon_model.specs.Working.{fetch_of, fetched, found_by, found_for, found_or, kept_fetch, next_at, provided}
use Rattle.slon_model.specs.Working.{receives_from, settled, stands, still, taken_up, worked, followed_all, given_at}
use Rattle.slon_model.specs.World.{Happening, Step, outcome}
use Rattle.slon_model.proofs.Names.{all_map, one_found}
use Rattle.slon_laws.specs.Fetches.{AllKept}
use Rattle.slon_laws.specs.Sound.{AreNamedOnce}
use Rattle.slon_laws.specs.Turning.{AllHold, IsFormed}
use Rattle.slon_laws.proofs.Fetches.{OfFetch, all_kept, kept_for, kept_step}
use Rattle.slon_laws.proofs.Following.{AllTaken, logs_own, rows_own}
use Rattle.slon_laws.proofs.Holds.{HoldsOf, on_step}
use Rattle.slon_laws.proofs.Identity.{IsNodeOf, id_of, keeps_id}
use Rattle.slon_laws.proofs.Lists.{all_filtered}
use Rattle.slon_laws.proofs.Owners.{OnSome}
use Rattle.slon_laws.proofs.Results.{OnOk, any_bind, any_ok, bind_ok, kept_ok}
use Rattle.slon_laws.proofs.Seats.{IsSeat, turn_ok}
use Rattle.slon_laws.proofs.Providers.{copied_ok, followed_ok}
use Rattle.slon_model.specs.declared.reply.Refusal.TheVariants as refused

-- what comes to the node of a seat is of other origins
abbrev pub IsForeign : Seat → Brought → Type 0
IsForeign s b = AllByRecursion (λ l. l.origin ≡ s.node.id → ⊥) b.logs

-- what is found for a SYNC is of this origin, while P holds
abbrev pub IsOfOrigin : Type 0 → ℕ → Found → Type 0
IsOfOrigin P origin (FoundSyncs ts) = P × AllTaken (λ l. l.origin ≡ origin) ts
IsOfOrigin P origin others = Unit {0}

origin_then : (P Q : Type 0) → (P → Q) → (origin : ℕ) (f : Found) → IsOfOrigin P origin f → IsOfOrigin Q origin f
origin_then P Q on origin (FoundSyncs ts) is = (on is.0, is.1)
origin_then P Q on origin others is = tt

still_origin : (P : Type 0) (origin : ℕ) (k : Knowledge) (f : Found) → IsOfOrigin P origin f →
    IsOfOrigin P origin (still k f)
still_origin P origin k (FoundSyncs ts) is =
    (is.0, all_filtered (λ t. AllByRecursion (λ l. l.origin ≡ origin) t.rows) (stands k) ts is.1)
still_origin P origin k others is = tt

-- the origin is another node than this one
abbrev pub IsApart : ℕ → Seat → Type 0
IsApart origin s = (origin == s.node.id) ≡ false

brought_foreign : (s : Seat) (origin : ℕ) (f : Found) → IsOfOrigin (IsApart origin s) origin f →
    IsForeign s (brought_of s.place f)
brought_foreign s origin (FoundSyncs ts) is =
    all_map (λ l. l.origin ≡ origin) (λ l. l.origin ≡ s.node.id → ⊥)
    (λ l of own. false≢true (sym is.0 ∙ eq-eqb origin s.node.id (sym of ∙ own))) _ (logs_own s.place origin ts is.1)
brought_foreign s origin others is = tt

-- ---- what is found

-- a node follows an origin only where it is another node
abbrev FollowsOther : ℕ → ℕ → Errand → Type 0
FollowsOther own origin (ToCopy c) = Unit {0}
FollowsOther own origin ToFollow = (origin == own) ≡ false

errand_other : (own : ℕ) (receives : Bool) (origin : ℕ) (body : Body) →
    OnSome (FollowsOther own origin) (errand_in own receives origin body)
errand_other own receives origin (EnableSubscription set provider receiver forward era) =
    elim (receiver == own) as (λ b. OnSome (FollowsOther own origin)
    (cond b (Some (ToCopy (record { set_id = set; provider = provider; era = era }))) None)) [
      | true ↦ tt
      | false ↦ tt
    ]
errand_other own receives origin Sync = by receives (origin == own) refl
  where
    by : (r same : Bool) → (origin == own) ≡ same →
        OnSome (FollowsOther own origin) (cond (r && not same) (Some ToFollow) None)
    by true false other = other
    by true true same = tt
    by false same is = tt
errand_other own receives origin others = tt

found_origin : (w : World) (s : Seat) (e : Event) (a : Option Errand) →
    OnSome (FollowsOther s.node.id e.origin) a → OnOk (IsOfOrigin (IsApart e.origin s) e.origin) (found_by w s e a)
found_origin w s e None other = tt
found_origin w s e (Some (ToCopy c)) other =
    any_bind (IsOfOrigin (IsApart e.origin s) e.origin) (provided c.provider w s e) _
    (λ p. copied_ok (IsOfOrigin (IsApart e.origin s) e.origin) c s e p (given_at c p) tt (λ v. tt))
found_origin w s e (Some ToFollow) other =
    bind_ok (AllTaken (λ l. l.origin ≡ e.origin)) (IsOfOrigin (IsApart e.origin s) e.origin)
    (followed_all w s e (kept_from e.origin s.known)) _
    (followed_ok (λ p. Unit {0}) (λ t. AllByRecursion (λ l. l.origin ≡ e.origin) t.rows) w s e
    (λ provider. any_ok (λ p. Unit {0}) (provided provider w s e) (λ p. tt))
    (λ p any v. rows_own s.node.id s.known e (logged p.node) v) (kept_from e.origin s.known))
    (λ ts own. (other, own))

errand_found : (w : World) (s : Seat) (e : Event) →
    OnOk (IsOfOrigin (IsApart e.origin s) e.origin) (found_by w s e (errand_of s e))
errand_found w s e =
    found_origin w s e (errand_of s e) (errand_other s.node.id (receives_from e.origin s.known) e.origin e.body)

-- ---- what is kept

-- the database of this name is a node, and the origin is another one
abbrev pub IsOtherThan : ℕ → List ℕ → Named Place → Type 0
IsOtherThan origin name ps = (id : ℕ) × ((origin == id) ≡ false) × HoldsOf (IsNodeOf id) name ps

abbrev IsKeptForeign : Named Place → OfFetch
IsKeptForeign ps name origin f = IsOfOrigin (IsOtherThan origin name ps) origin f.found

-- so it is with all that is kept
abbrev pub KeepForeign : World → Type 0
KeepForeign w = AllKept (λ name origin f. IsOfOrigin (IsOtherThan origin name w.places) origin f.found) w.memory.fetches

fetched_foreign : (w : World) → AreNamedOnce w.places → (node origin : ℕ) →
    OnOk (λ x. IsKeptForeign w.places x.seat.name x.event.origin (fetch_of x)) (fetched node origin w)
fetched_foreign w once node origin =
    bind_ok (IsSeat w.places) Kept (on_turn node w) _ (turn_ok node w once)
    (λ s seat. any_bind Kept (taken_up (next_at w.memory s origin)) _
    (λ e. bind_ok (IsOfOrigin (IsApart e.origin s) e.origin) Kept (found_by w s e (errand_of s e)) _
    (errand_found w s e)
    (λ f is. origin_then (IsApart e.origin s) (IsOtherThan e.origin s.name w.places)
    (λ other. (s.node.id, other, (s.place, seat.found, ap id_of seat.node))) e.origin f is)))
  where
    Kept : Fetched → Type 0
    Kept x = IsKeptForeign w.places x.seat.name x.event.origin (fetch_of x)

pub foreign_step : (w v : World) (h : Happening) → Step w h v → AreNamedOnce w.places →
    ((act : Act) → AllHold IsFormed (outcome act w).commits w.places) → KeepForeign w → KeepForeign v
foreign_step w v h step once acts keep =
    all_kept (IsKeptForeign w.places) (IsKeptForeign v.places)
    (λ name origin f. origin_then (IsOtherThan origin name w.places) (IsOtherThan origin name v.places)
    (λ (id, other, there). (id, other, on_step (keeps_id id) name w v h step acts there)) origin f.found)
    v.memory.fetches
    (kept_step (IsKeptForeign w.places) w v h step (fetched_foreign w once) keep)

-- ---- a turn

apart_at : (w : World) (s : Seat) (origin : ℕ) → IsSeat w.places s → IsOtherThan origin s.name w.places →
    IsApart origin s
apart_at w s origin seat (id, other, (q, found, is)) =
    let one = one_found q s.place (sym found ∙ seat.found) in
    let same = one_found id s.node.id (sym is ∙ ap (λ (p : Place). id_of p.node) one ∙ ap id_of seat.node) in
    subst (λ i. (origin == i) ≡ false) same other

for_foreign : (w : World) (s : Seat) (e : Event) → IsSeat w.places s → KeepForeign w →
    OnOk (IsOfOrigin (IsApart e.origin s) e.origin) (found_for w s e)
for_foreign w s e seat keep = by (kept_fetch s.name e.origin e w.memory) refl
  where
    by : (o : Option Found) → kept_fetch s.name e.origin e w.memory ≡ o →
        OnOk (IsOfOrigin (IsApart e.origin s) e.origin) (found_or w s e o)
    by None none = errand_found w s e
    by (Some f) some =
        let k = kept_for (IsKeptForeign w.places) s.name e w.memory f keep some in
        still_origin (IsApart e.origin s) e.origin s.known f
        (subst (IsOfOrigin (IsApart e.origin s) e.origin) k.found
        (origin_then (IsOtherThan e.origin s.name w.places) (IsApart e.origin s) (apart_at w s e.origin seat) e.origin
        k.fetch.found k.has))

-- An event that a node of the session applies, with which it logs nothing of its own.
pub record CarriesForeign (ps : Named Place) (c : Carried) : Type 0 where
  pub seat : IsSeat ps c.seat
  pub foreign : IsForeign c.seat c.brought

pub work_foreign : (w : World) → AreNamedOnce w.places → KeepForeign w → (node origin : ℕ) →
    OnOk (CarriesForeign w.places) (worked node origin w)
work_foreign w once keep node origin =
    bind_ok (IsSeat w.places) (CarriesForeign w.places) (on_turn node w) _ (turn_ok node w once)
    (λ s seat. any_bind (CarriesForeign w.places) (taken_up (next_at w.memory s origin)) _
    (λ e. bind_ok (IsOfOrigin (IsApart e.origin s) e.origin) (CarriesForeign w.places) (found_for w s e) (settled s e)
    (for_foreign w s e seat keep)
    (λ f is. kept_ok (CarriesForeign w.places)
    (option_map refused.Busy (writer_of (tables_in f) s.place) ∷ []) (carried s e (brought_of s.place f))
    (record { seat = seat; foreign = brought_foreign s e.origin f is }))))
