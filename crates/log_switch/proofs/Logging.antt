-- A store whose log gets more rows.
use Rattle.std.proofs.Common.{◌≡◌, ℕ, ◌<◌, ◌^◌, Bool, true, false, cond, List, [], ◌∷◌, Some, refl, sym, ap, ◌∙◌}
use Rattle.std.proofs.Common.{arith}
use Rattle.std.specs.Prelude.{◌==◌, ◌&&◌}
use Rattle.std.specs.List.{AllByRecursion}
use Rattle.std.proofs.lemmas.Bool.Decides.{nat_tests}
use Rattle.slon_base.specs.Codec.{number_bytes}
use Rattle.slon_base.specs.Keeper.{Store, put_at}
use Rattle.slon_base.proofs.Spelled.{number_front, number_bytes-same}
use Rattle.store_rows.specs.Rows.{IsId}
use Rattle.store_rows.specs.Space.{Alters}
use Rattle.store_rows.proofs.Spaces.{altered}
use Rattle.change_capture.specs.declared.log_row.LogRow.{LogRow}
use Rattle.change_capture.specs.Spellings.{log_row_bytes, CanLogRow}
use Rattle.log_switch.specs.Holds.{Logged, IsNumbered, log_key, logged_at, HoldsLog, put_logs, logged_more}

-- a key is spelled by one origin and one number
key_unique : (a b : ℕ × ℕ) → IsNumbered a → IsNumbered b → log_key a ≡ log_key b → a ≡ b
key_unique a b one two is =
    let parts = number_front a.0 b.0 (number_bytes a.1) (number_bytes b.1) (omega (arith, one.0.1))
    (omega (arith, two.0.1)) is in
    let back = number_bytes-same a.1 b.1 (omega (arith, one.1)) (omega (arith, two.1)) parts.1 in
    λ k. (parts.0 k, back k)

-- the test of a row for its key
named : (a b c d : ℕ) → (a == c && b == d) ≡ true → (a ≡ c) × (b ≡ d)
named a b c d is = (grind (arith, nat_tests), grind (arith, nat_tests))

-- the row in front is found at its key, and no other is hidden
alters_first : (l : Logged) (ls : List Logged) →
    Alters IsNumbered (l.origin, l.number) (Some l.row) (logged_at ls) (logged_at (l ∷ ls))
alters_first l ls = record {
  here = ap (λ b. cond b (Some l.row) (logged_at ls (l.origin, l.number))) (self l.origin l.number);
  there = λ j one differ. other j (l.origin == j.0 && l.number == j.1) refl differ;
}
  where
    self : (a b : ℕ) → (a == a && b == b) ≡ true
    self a b = grind (arith, nat_tests)

    other : (j : ℕ × ℕ) (b : Bool) → (l.origin == j.0 && l.number == j.1) ≡ b → (j ≡ (l.origin, l.number) → ⊥) →
        cond b (Some l.row) (logged_at ls j) ≡ logged_at ls j
    other j true is differ =
        let same = named l.origin l.number j.0 j.1 is in
        absurd (differ (λ k. (sym same.0 k, sym same.1 k)))
    other j false is differ = refl

-- one row more
holds_one : (items : List Logged) (m : Store) (l : Logged) → IsNumbered (l.origin, l.number) → CanLogRow l.row →
    HoldsLog items m → HoldsLog (l ∷ items) (put_at 15 (log_key (l.origin, l.number)) (log_row_bytes l.row) m)
holds_one items m l one can held =
    altered (record { unique = key_unique; one = one; can = can; alters = alters_first l items }) held

-- A store that holds a log, after these rows of an origin are put, holds the log with them in front.
pub holds_more : (origin : ℕ) (rows : List (ℕ × LogRow)) (items : List Logged) (m : Store) → IsId origin →
    AllByRecursion (λ r. (r.0 < 2 ^ 63) × CanLogRow r.1) rows → HoldsLog items m →
    HoldsLog (logged_more origin rows items) (put_logs origin rows m)
holds_more origin [] items m id can held = held
holds_more origin (r ∷ rs) items m id can held =
    let l : Logged = record { origin = origin; number = r.0; row = r.1 } in
    holds_more origin rs (l ∷ items) (put_at 15 (log_key (origin, r.0)) (log_row_bytes r.1) m) id can.1
    (holds_one items m l (id, can.0.0) can.0.1 held)

-- The other spaces stay as they were.
pub others_stay : (origin : ℕ) (rows : List (ℕ × LogRow)) (m : Store) (space : ℕ) → (space == 15) ≡ false →
    put_logs origin rows m space ≡ m space
others_stay origin [] m space other = refl
others_stay origin (r ∷ rs) m space other =
    let next = put_at 15 (log_key (origin, r.0)) (log_row_bytes r.1) m in
    others_stay origin rs next space other ∙ ap (λ b. cond b (next 15) (m space)) other
