-- The owner of a set is a node of the session, which says that it is the origin of the set.
use Rattle.std.proofs.Common.{◌≡◌, ℕ, Bool, true, false, cond, [], ◌∷◌, Option, Some, None, Result, Ok, Err, refl}
use Rattle.std.specs.Prelude.{◌&&◌}
use Rattle.std.proofs.lemmas.Bool.{and_parts}
use Rattle.slon_model.specs.declared.reply.Refusal.{Refusal}
use Rattle.slon_model.specs.Names.{Named}
use Rattle.slon_model.specs.Place.{Place}
use Rattle.slon_model.specs.Sessions.{World, Running, Seat}
use Rattle.slon_model.specs.Reaching.{beats, best_of, better, claims, found_owner, owner, seat_on_line}
use Rattle.slon_laws.specs.Sound.{AreNamedOnce}
use Rattle.slon_laws.proofs.Owners.{OnSome}
use Rattle.stream_laws.proofs.Seats.{IsSeat, OnOk, owner_ok}

better_claims : (set : ℕ) (best found : Option Seat) → OnSome (λ s. claims set s ≡ true) best →
    OnSome (λ s. claims set s ≡ true) (better set best found)
better_claims set best None is = is
better_claims set best (Some s) is = by (claims set s && beats set s best) refl
  where
    by : (b : Bool) → (claims set s && beats set s best) ≡ b →
        OnSome (λ s. claims set s ≡ true) (cond b (Some s) best)
    by true passes = (and_parts (claims set s) (beats set s best) passes).0
    by false fails = is

best_claims : (set : ℕ) (run : Running) (es : Named Place) (best : Option Seat) →
    OnSome (λ s. claims set s ≡ true) best → OnSome (λ s. claims set s ≡ true) (best_of set run best es)
best_claims set run [] best is = is
best_claims set run (e ∷ es) best is =
    best_claims set run es (better set best (seat_on_line run e)) (better_claims set best (seat_on_line run e) is)

owner_claims : (run : Running) (set : ℕ) (w : World) → OnOk (λ s. claims set s ≡ true) (owner run set w)
owner_claims run set w = by (best_of set run None w.places) (best_claims set run w.places None tt)
  where
    by : (o : Option Seat) → OnSome (λ s. claims set s ≡ true) o → OnOk (λ s. claims set s ≡ true) (found_owner set o)
    by None is = tt
    by (Some s) is = is

both_ok : {A : Type 0} (P Q : A → Type 0) (r : Result A Refusal) → OnOk P r → OnOk Q r → OnOk (λ a. P a × Q a) r
both_ok P Q (Ok a) one two = (one, two)
both_ok P Q (Err refusal) one two = tt

abbrev pub IsClaiming : ℕ → World → Seat → Type 0
IsClaiming set w s = IsSeat w.places s × (claims set s ≡ true)

pub owner_claiming : (run : Running) (set : ℕ) (w : World) → AreNamedOnce w.places →
    OnOk (IsClaiming set w) (owner run set w)
owner_claiming run set w once =
    both_ok (IsSeat w.places) (λ s. claims set s ≡ true) (owner run set w) (owner_ok run set w once)
    (owner_claims run set w)
