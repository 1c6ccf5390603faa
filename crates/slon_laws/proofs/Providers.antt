-- What is found at providers: a copy of a set, and what is taken of each set with a SYNC.
use Rattle.std.proofs.Common.{ℕ, [], ◌∷◌, Option, Some, None}
use Rattle.std.specs.List.{AllByRecursion}
use Rattle.slon_model.specs.Events.{Event}
use Rattle.slon_model.specs.Views.{View, Views, first_view}
use Rattle.slon_model.specs.Logs.{logged}
use Rattle.slon_model.specs.Following.{Found, FoundCopy, FoundNothing, SetSync, set_sync}
use Rattle.slon_model.specs.Sessions.{World, Seat}
use Rattle.slon_model.specs.Working.{Copying, copied, copy_checks, followed, followed_all, provided, provider_of}
use Rattle.slon_model.specs.Working.{rows_at, names_taken}
use Rattle.slon_laws.proofs.Results.{OnOk, bind_ok, kept_ok}
use Rattle.slon_model.specs.Snapshots.{Snapshot}

-- what holds of nothing and of each copy holds of what is copied
pub copied_ok : (P : Found → Type 0) (c : Copying) (s : Seat) (e : Event) (p : Seat) (seen : Option Snapshot) →
    P FoundNothing → ((v : View) → P (FoundCopy c.set_id v (rows_at p.place (names_taken s c.set_id)))) →
    OnOk P (copied c s e p seen)
copied_ok P c s e p None none some = none
copied_ok P c s e p (Some seen) none some =
    let names = names_taken s c.set_id in
    kept_ok P (copy_checks s.place p.place names)
    (FoundCopy c.set_id (first_view c.era e.origin e.number seen) (rows_at p.place names))
    (some (first_view c.era e.origin e.number seen))

-- what holds of all that is taken of a set from a provider that is found holds of all that is taken
pub followed_ok : (Q : Seat → Type 0) (P : SetSync → Type 0) (w : World) (s : Seat) (e : Event) →
    ((provider : ℕ) → OnOk Q (provided provider w s e)) →
    ((p : Seat) → Q p → (v : ℕ × View) → P (set_sync s.node.id s.known e (logged p.node) v)) →
    (vs : Views) → OnOk (AllByRecursion P) (followed_all w s e vs)
followed_ok Q P w s e from takes [] = tt
followed_ok Q P w s e from takes (v ∷ more) =
    bind_ok P (AllByRecursion P) (followed w s e v) _
    (bind_ok Q P (provided (provider_of e.origin s v.0) w s e) _ (from (provider_of e.origin s v.0))
    (λ p is. takes p is v))
    (λ t here. bind_ok (AllByRecursion P) (AllByRecursion P) (followed_all w s e more) _
    (followed_ok Q P w s e from takes more) (λ ts all. (here, all)))
