-- The end of a transaction in the spaces that it touched is its end in all.
use Rattle.std.proofs.Common.{◌≡◌, ℕ, zero, suc, ◌≤◌, Bool, true, false, ◌==◌, ◌||◌, List, [], ◌∷◌, ◌++◌, length, map}
use Rattle.std.proofs.Common.{get_or, set, refl, sym, ap, ◌∙◌, arith}
use Rattle.std.specs.Prelude.{nat_lt, slice_get, Some}
use Rattle.std.specs.FinMap.{empty, entries, same_entries_map}
use Rattle.std.proofs.lemmas.Bool.{false≢true, eqb-true, eq-eqb, ltb-true, ltb-false}
use Rattle.std.proofs.lemmas.List.{get_or-set_same, get_or-set_other}
use Rattle.std.proofs.Math.Seq.{map-set_same}
use Rattle.slon_base.specs.Keeper.{Space}
use Rattle.node_keeper.specs.MemKept.{ended, ended_in, is_touched, IsTracked, Touches}

abbrev at : List (Space × Space) → ℕ → Space × Space
at spaces space = get_or spaces space (empty, empty)

-- to end twice is to end once
twice : (commits : Bool) (p : Space × Space) → ended commits (ended commits p) ≡ ended commits p
twice true p = refl
twice false p = refl

settled : (commits : Bool) (p : Space × Space) → entries (ended commits p).1 ≡ entries (ended commits p).0
settled true p = refl
settled false p = refl

same : (commits : Bool) (p : Space × Space) → entries p.1 ≡ entries p.0 → p ≡ ended commits p
same true p is = let path = same_entries_map p.1 p.0 is in λ i. (sym path i, p.1)
same false p is = let path = same_entries_map p.1 p.0 is in λ i. (p.0, path i)

none_touched : (commits : Bool) (spaces : List (Space × Space)) →
    ((space : ℕ) → entries (at spaces space).1 ≡ entries (at spaces space).0) →
    spaces ≡ map (ended commits) spaces
none_touched commits [] all = refl
none_touched commits (p ∷ ps) all = λ i. same commits p (all 0) i ∷ none_touched commits ps (λ space. all (suc space)) i

other : (a b : ℕ) → (a == b) ≡ false → b ≡ a → ⊥
other a b differ is = false≢true (sym differ ∙ eq-eqb a b (sym is))

-- what is set past the end is not there
past : (l : List (Space × Space)) (i : ℕ) (p : Space × Space) → length l ≤ i → set l i p ≡ l
past [] i p le = refl
past (q ∷ qs) zero p le = absurd (omega (arith, le))
past (q ∷ qs) (suc i) p le = ap (λ l. q ∷ l) (past qs i p (omega (arith, le)))

absent : (l : List (Space × Space)) (i : ℕ) → length l ≤ i → at l i ≡ (empty, empty)
absent [] i le = refl
absent (q ∷ qs) zero le = absurd (omega (arith, le))
absent (q ∷ qs) (suc i) le = absent qs i (omega (arith, le))

-- one of the touched spaces is ended
still_tracked : (commits : Bool) (t : ℕ) (ts : List ℕ) (spaces : List (Space × Space)) → IsTracked (t ∷ ts) spaces →
    IsTracked ts (set spaces t (ended commits (at spaces t)))
still_tracked commits t ts spaces tracked space untouched =
    elim (t == space) as (λ b. (t == space) ≡ b →
    entries (at (set spaces t (ended commits (at spaces t))) space).1 ≡ entries
    (at (set spaces t (ended commits (at spaces t))) space).0) [
      | true ↦ λ is. here (eqb-true t space is) (nat_lt t (length spaces)) refl
      | false ↦ λ differ.
          let elsewhere = get_or-set_other spaces t space (ended commits (at spaces t)) (empty, empty)
          (other t space differ) in
          ap (λ p. entries p.1) elsewhere ∙ tracked space (ap (λ b. b || is_touched ts space) differ ∙ untouched)
          ∙ sym (ap (λ p. entries p.0) elsewhere)
    ] refl
  where
    now : List (Space × Space)
    now = set spaces t (ended commits (at spaces t))

    here : t ≡ space → (b : Bool) → nat_lt t (length spaces) ≡ b → entries (at now space).1 ≡ entries (at now space).0
    here is true low =
        let stands = ap (at now) (sym is) ∙ get_or-set_same spaces t (ended commits (at spaces t)) (empty, empty)
        (ltb-true t (length spaces) low) in
        ap (λ p. entries p.1) stands ∙ settled commits (at spaces t) ∙ sym (ap (λ p. entries p.0) stands)
    here is false high =
        let gone = ap (λ l. at l space) (past spaces t (ended commits (at spaces t)) (ltb-false t (length spaces) high))
        ∙ ap (at spaces) (sym is) ∙ absent spaces t (ltb-false t (length spaces) high) in
        ap (λ p. entries p.1) gone ∙ sym (ap (λ p. entries p.0) gone)

pub all_ended : (commits : Bool) (touched : List ℕ) (spaces : List (Space × Space)) → IsTracked touched spaces →
    ended_in commits touched spaces ≡ map (ended commits) spaces
all_ended commits [] spaces tracked = none_touched commits spaces (λ space. tracked space refl)
all_ended commits (t ∷ ts) spaces tracked =
    all_ended commits ts (set spaces t (ended commits (at spaces t))) (still_tracked commits t ts spaces tracked)
    ∙ map-set_same (ended commits) spaces t (ended commits (at spaces t)) (empty, empty) (twice commits (at spaces t))

neither : (a b : Bool) → (a || b) ≡ false → (a ≡ false) × (b ≡ false)
neither true b is = absurd (false≢true (sym is))
neither false b is = (refl, is)

pub touched_more : (ts : List ℕ) (space other : ℕ) → is_touched (ts ++ space ∷ []) other ≡ false →
    (is_touched ts other ≡ false) × ((space == other) ≡ false)
touched_more [] space other is = (refl, (neither (space == other) false is).0)
touched_more (t ∷ ts) space other is = by (t == other) refl is (touched_more ts space other)
  where
    by : (b : Bool) → (t == other) ≡ b → (b || is_touched (ts ++ space ∷ []) other) ≡ false →
        (is_touched (ts ++ space ∷ []) other ≡ false → (is_touched ts other ≡ false) × ((space == other) ≡ false)) →
        ((b || is_touched ts other) ≡ false) × ((space == other) ≡ false)
    by true e is rest = absurd (false≢true (sym is))
    by false e is rest = rest is

-- another space than the touched ones is not the one that is among them at a place
pub touched_at : (ts : List ℕ) (i space other : ℕ) → slice_get ts i ≡ Some space → is_touched ts other ≡ false →
    (space == other) ≡ false
touched_at [] zero space other is untouched = absurd cc
touched_at [] (suc i) space other is untouched = absurd cc
touched_at (t ∷ ts) zero space other is untouched =
    let same : t ≡ space = cc in
    ap (λ s. s == other) (sym same) ∙ (neither (t == other) (is_touched ts other) untouched).0
touched_at (t ∷ ts) (suc i) space other is untouched =
    touched_at ts i space other is (neither (t == other) (is_touched ts other) untouched).1

-- a space that a change is in is touched from then on
pub tracked_more : (ts new : List ℕ) (space : ℕ) (old : List (Space × Space)) (p : Space × Space) →
    Touches space ts new → IsTracked ts old → IsTracked new (set old space p)
tracked_more ts new space old p touches tracked other_space untouched =
    let parts = touches other_space untouched in
    let elsewhere = get_or-set_other old space other_space p (empty, empty) (other space other_space parts.1) in
    ap (λ q. entries q.1) elsewhere ∙ tracked other_space parts.0 ∙ sym (ap (λ q. entries q.0) elsewhere)
