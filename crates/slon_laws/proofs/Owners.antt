-- The owner of a set is a node of the session, so what holds of each of those holds of it.
use Rattle.std.proofs.Common.{◌≡◌, ℕ, true, false, cond, List, [], ◌∷◌, Option, Some, None, refl}
use Rattle.std.specs.Prelude.{◌&&◌}
use Rattle.std.specs.List.{AllByRecursion}
use Rattle.slon_model.specs.Names.{Named}
use Rattle.slon_model.specs.Deeds.{Node}
use Rattle.slon_model.specs.Place.{Place, is_running}
use Rattle.slon_model.specs.Sessions.{World, Running, Seat, seat}
use Rattle.slon_model.specs.Reaching.{is_on_line, seat_at_place, seat_on_line, claims, beats, better, best_of}

-- P of what there is, if there is something
abbrev pub OnSome : {A : Type 0} → (A → Type 0) → Option A → Type 0
OnSome P None = Unit {0}
OnSome P (Some a) = P a

-- P of the node that a database is, if it is one
abbrev pub OfNode : (Seat → Type 0) → List ℕ × Place → Type 0
OfNode P e = (n : Node) → e.1.node ≡ Some n → P (seat e.0 e.1 n)

place_is : (P : Seat → Type 0) (e : List ℕ × Place) → OfNode P e → OnSome P (seat_at_place e.0 e.1 e.1.node)
place_is P e each = by e.1.node refl
  where
    by : (o : Option Node) → e.1.node ≡ o → OnSome P (seat_at_place e.0 e.1 o)
    by None is = tt
    by (Some n) is =
        elim (is_running e.1.standing) as (λ b. OnSome P (cond b (Some (seat e.0 e.1 n)) None)) [
          | true ↦ each n is
          | false ↦ tt
        ]

line_is : (P : Seat → Type 0) (run : Running) (e : List ℕ × Place) → OfNode P e → OnSome P (seat_on_line run e)
line_is P run e each =
    elim (is_on_line run.lines e.0) as (λ b. OnSome P (cond b (seat_at_place e.0 e.1 e.1.node) None)) [
      | true ↦ place_is P e each
      | false ↦ tt
    ]

better_is : (P : Seat → Type 0) (set : ℕ) (best found : Option Seat) → OnSome P best → OnSome P found →
    OnSome P (better set best found)
better_is P set best None is one = is
better_is P set best (Some s) is one =
    elim (claims set s && beats set s best) as (λ b. OnSome P (cond b (Some s) best)) [
      | true ↦ one
      | false ↦ is
    ]

best_is : (P : Seat → Type 0) (set : ℕ) (run : Running) (es : Named Place) (best : Option Seat) →
    AllByRecursion (OfNode P) es → OnSome P best → OnSome P (best_of set run best es)
best_is P set run [] best each is = is
best_is P set run (e ∷ es) best each is =
    best_is P set run es (better set best (seat_on_line run e)) each.1
    (better_is P set best (seat_on_line run e) is (line_is P run e each.0))

pub owner_is : (P : Seat → Type 0) (set : ℕ) (run : Running) (w : World) → AllByRecursion (OfNode P) w.places →
    OnSome P (best_of set run None w.places)
owner_is P set run w each = best_is P set run w.places None each tt
