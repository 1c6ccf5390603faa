-- A map stays ordered when an entry is put or taken away.
use Rattle.std.proofs.Common.{◌≡◌, ℕ, ◌<◌, Bool, true, false, cond, List, [], ◌∷◌, Some, refl, sym, subst, arith, map}
use Rattle.std.specs.Prelude.{◌==◌, nat_lt, not, unwrap_or, filter}
use Rattle.std.specs.List.{AllByRecursion}
use Rattle.std.proofs.lemmas.Bool.{eqb-true, ltb-true}
use Rattle.std.proofs.lemmas.Bool.Decides.{nat_tests}
use Rattle.slon_base.specs.Codec.{AllAre}
use Rattle.store_rows.specs.Rows.{IsId}
use Rattle.slon_model.specs.Maps.{Map, Map2, ids, entry_at, with_entry, without_entry, row_at, with_pair, without_pair}
use Rattle.slon_model.specs.Snapshots.{Rising}
use Rattle.event_store.specs.Ordered.{IsOrdered, AreOrdered}

-- ---- an entry is put

-- what all entries have, they have with one more
pub all_with : {X : Type 0} (P : ℕ × X → Type 0) (id : ℕ) (x : X) (es : Map X) → P (id, x) → AllAre P es →
    AllAre P (with_entry id x es)
all_with P id x [] here all = (here, tt)
all_with P id x (e ∷ es) here all =
    elim (nat_lt id e.0) as (λ b. AllAre P (cond b ((id, x) ∷ e ∷ es)
    (cond (id == e.0) ((id, x) ∷ es) (e ∷ with_entry id x es)))) [
      | true ↦ (here, all)
      | false ↦ elim (id == e.0) as (λ b. AllAre P (cond b ((id, x) ∷ es) (e ∷ with_entry id x es))) [
        | true ↦ (here, all.1)
        | false ↦ (all.0, all_with P id x es here all.1)
      ]
    ]

-- an id that is below all ids and below one more
pub below_with : {X : Type 0} (least id : ℕ) (x : X) (es : Map X) → least < id →
    AllByRecursion (λ y. least < y) (ids es) → AllByRecursion (λ y. least < y) (ids (with_entry id x es))
below_with least id x [] less all = (less, tt)
below_with least id x (e ∷ es) less all =
    elim (nat_lt id e.0) as (λ b. AllByRecursion (λ y. least < y) (ids (cond b ((id, x) ∷ e ∷ es)
    (cond (id == e.0) ((id, x) ∷ es) (e ∷ with_entry id x es))))) [
      | true ↦ (less, all)
      | false ↦ elim (id == e.0) as (λ b. AllByRecursion (λ y. least < y)
          (ids (cond b ((id, x) ∷ es) (e ∷ with_entry id x es)))) [
            | true ↦ (less, all.1)
            | false ↦ (all.0, below_with least id x es less all.1)
          ]
    ]

-- a lesser id is below all that another one is below
pub lesser : (least less : ℕ) (xs : List ℕ) → least < less → AllByRecursion (λ y. less < y) xs →
    AllByRecursion (λ y. least < y) xs
lesser least less [] below all = tt
lesser least less (x ∷ xs) below all = (omega (arith, below, all.0), lesser least less xs below all.1)

pub higher : (a b : ℕ) → nat_lt a b ≡ false → (a == b) ≡ false → b < a
higher a b before differ = grind (arith, nat_tests)

pub rising_with : {X : Type 0} (id : ℕ) (x : X) (es : Map X) → Rising (ids es) → Rising (ids (with_entry id x es))
rising_with id x [] rising = (tt, tt)
rising_with {X} id x (e ∷ es) rising =
    step (nat_lt id e.0) refl (id == e.0) refl (rising_with id x es rising.1)
  where
    step : (before : Bool) → nat_lt id e.0 ≡ before → (same : Bool) → (id == e.0) ≡ same →
        Rising (ids (with_entry id x es)) →
        Rising (ids (cond before ((id, x) ∷ e ∷ es) (cond same ((id, x) ∷ es) (e ∷ with_entry id x es))))
    step true before same here later =
        let less = ltb-true id e.0 before in
        ((less, lesser id e.0 (ids es) less rising.0), rising)
    step false before true here later = subst (λ k. Rising (k ∷ ids es)) (sym (eqb-true id e.0 here)) rising
    step false before false here later = (below_with e.0 id x es (higher id e.0 before here) rising.0, later)

pub ordered_with : {X : Type 0} (id : ℕ) (x : X) (es : Map X) → IsId id → IsOrdered es → IsOrdered (with_entry id x es)
ordered_with id x es one ordered = record {
  ids_are = all_with (λ e. IsId e.0) id x es one ordered.ids_are;
  rising = rising_with id x es ordered.rising;
}

-- ---- entries are taken away

pub all_filtered : {X : Type 0} (P : X → Type 0) (p : X → Bool) (xs : List X) → AllAre P xs → AllAre P (filter p xs)
all_filtered P p [] all = tt
all_filtered P p (x ∷ xs) all =
    elim (p x) as (λ b. AllAre P (cond b (x ∷ filter p xs) (filter p xs))) [
      | true ↦ (all.0, all_filtered P p xs all.1)
      | false ↦ all_filtered P p xs all.1
    ]

pub below_filtered : {X : Type 0} (least : ℕ) (p : ℕ × X → Bool) (es : Map X) →
    AllByRecursion (λ y. least < y) (ids es) → AllByRecursion (λ y. least < y) (ids (filter p es))
below_filtered least p [] all = tt
below_filtered least p (e ∷ es) all =
    elim (p e) as (λ b. AllByRecursion (λ y. least < y) (ids (cond b (e ∷ filter p es) (filter p es)))) [
      | true ↦ (all.0, below_filtered least p es all.1)
      | false ↦ below_filtered least p es all.1
    ]

pub rising_filtered : {X : Type 0} (p : ℕ × X → Bool) (es : Map X) → Rising (ids es) → Rising (ids (filter p es))
rising_filtered p [] rising = tt
rising_filtered p (e ∷ es) rising =
    elim (p e) as (λ b. Rising (ids (cond b (e ∷ filter p es) (filter p es)))) [
      | true ↦ (below_filtered e.0 p es rising.0, rising_filtered p es rising.1)
      | false ↦ rising_filtered p es rising.1
    ]

pub ordered_without : {X : Type 0} (id : ℕ) (es : Map X) → IsOrdered es → IsOrdered (without_entry id es)
ordered_without id es ordered = record {
  ids_are = all_filtered (λ e. IsId e.0) (λ e. not (id == e.0)) es ordered.ids_are;
  rising = rising_filtered (λ e. not (id == e.0)) es ordered.rising;
}

-- ---- two ids

pub row_ordered : {X : Type 0} (first : ℕ) (m : Map2 X) → AllAre (λ e. IsOrdered e.1) m → IsOrdered (row_at first m)
row_ordered first [] all = record { ids_are = tt; rising = tt }
row_ordered first (e ∷ es) all =
    elim (first == e.0) as (λ b. IsOrdered (unwrap_or (cond b (Some e.1) (entry_at first es)) [])) [
      | true ↦ all.0
      | false ↦ row_ordered first es all.1
    ]

pub with_row : {X : Type 0} (first : ℕ) (row : Map X) (m : Map2 X) → IsId first → IsOrdered row → AreOrdered m →
    AreOrdered (with_entry first row m)
with_row first row m one ordered are = record {
  firsts = ordered_with first row m one are.firsts;
  seconds = all_with (λ e. IsOrdered e.1) first row m ordered are.seconds;
}

pub with_one : {X : Type 0} (first second : ℕ) (x : X) (m : Map2 X) → IsId first → IsId second → AreOrdered m →
    AreOrdered (with_pair first second x m)
with_one first second x m one two are =
    with_row first (with_entry second x (row_at first m)) m one
    (ordered_with second x (row_at first m) two (row_ordered first m are.seconds)) are

pub without_one : {X : Type 0} (first second : ℕ) (m : Map2 X) → IsId first → AreOrdered m →
    AreOrdered (without_pair first second m)
without_one first second m one are =
    with_row first (without_entry second (row_at first m)) m one
    (ordered_without second (row_at first m) (row_ordered first m are.seconds)) are

-- the entries become others at the same ids
below_mapped : {X Y : Type 0} (least : ℕ) (f : ℕ × X → ℕ × Y) (es : Map X) → ((e : ℕ × X) → (f e).0 ≡ e.0) →
    AllByRecursion (λ y. least < y) (ids es) → AllByRecursion (λ y. least < y) (ids (map f es))
below_mapped least f [] same all = tt
below_mapped least f (e ∷ es) same all =
    (subst (λ k. least < k) (sym (same e)) all.0, below_mapped least f es same all.1)

pub ordered_mapped : {X Y : Type 0} (f : ℕ × X → ℕ × Y) (es : Map X) → ((e : ℕ × X) → (f e).0 ≡ e.0) →
    IsOrdered es → IsOrdered (map f es)
ordered_mapped f [] same ordered = record { ids_are = tt; rising = tt }
ordered_mapped f (e ∷ es) same ordered =
    let rest = ordered_mapped f es same (record { ids_are = ordered.ids_are.1; rising = ordered.rising.1 }) in
    record {
      ids_are = (subst IsId (sym (same e)) ordered.ids_are.0, rest.ids_are);
      rising = (
        subst (λ k. AllByRecursion (λ y. k < y) (ids (map f es))) (sym (same e))
            (below_mapped e.0 f es same ordered.rising.0),
        rest.rising,
      );
    }

pub ordered_filtered : {X : Type 0} (p : ℕ × X → Bool) (es : Map X) → IsOrdered es → IsOrdered (filter p es)
ordered_filtered p es ordered = record {
  ids_are = all_filtered (λ e. IsId e.0) p es ordered.ids_are;
  rising = rising_filtered p es ordered.rising;
}
