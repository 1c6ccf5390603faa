-- Maps whose ids rise: each id stands once.
use Rattle.std.proofs.Common.{◌≡◌, ◌≢◌, ◌⊎◌, inl, inr, ℕ, ◌<◌, Bool, true, false, cond, [], ◌∷◌, Option, Some, None}
use Rattle.std.proofs.Common.{refl, sym, ap, subst, ◌∙◌, arith, not}
use Rattle.std.specs.Prelude.{◌==◌, nat_lt}
use Rattle.std.specs.List.{AllByRecursion}
use Rattle.std.proofs.lemmas.Bool.{false≢true, false_from_ne_true, eqb-true, eq-eqb, ltb-true, lt-ltb}
use Rattle.slon_model.specs.Maps.{Map, entry_at, with_entry, without_entry}
use Rattle.std.proofs.lemmas.Grind.{common_steps}
use Rattle.slon_model.specs.Views.{View, with_views}
use Rattle.slon_model.proofs.Names.{all_map, one_found}
use Rattle.stream_laws.specs.Nodes.{IsAmong}
use Rattle.stream_laws.proofs.Lists.{all_among, all_filtered, all_with, entry-with}
use Rattle.view_laws.specs.Known.{AreRising}

pub with_rising : {X : Type 0} (id : ℕ) (x : X) (es : Map X) → AreRising es → AreRising (with_entry id x es)
with_rising id x [] rising = (tt, tt)
with_rising id x (e ∷ es) rising = by (with_rising id x es rising.1) (nat_lt id e.0) refl (id == e.0) refl
  where
    -- those behind it are above it
    above : id < e.0 → AllByRecursion (λ f. id < f.0) es
    above less = all_map (λ f. e.0 < f.0) (λ f. id < f.0) (λ f more. omega (arith, less, more)) es rising.0

    by : AreRising (with_entry id x es) → (less : Bool) → nat_lt id e.0 ≡ less → (same : Bool) → (id == e.0) ≡ same →
        AreRising (cond less ((id, x) ∷ e ∷ es) (cond same ((id, x) ∷ es) (e ∷ with_entry id x es)))
    by rest true less same is =
        let first = ltb-true id e.0 less in ((first, above first), rising)
    by rest false less true same =
        let one = eqb-true id e.0 same in
        (all_map (λ f. e.0 < f.0) (λ f. id < f.0) (λ f more. omega (arith, one, more)) es rising.0, rising.1)
    by rest false less false differ = (
      all_with (λ f. e.0 < f.0) id x es (over less differ) rising.0,
      rest,
    )
      where
        over : nat_lt id e.0 ≡ false → (id == e.0) ≡ false → e.0 < id
        over not_less other =
            let ge : (id < e.0 → ⊥) = λ under. false≢true (sym not_less ∙ lt-ltb id e.0 under) in
            let ne : id ≢ e.0 = λ same. false≢true (sym other ∙ eq-eqb id e.0 same) in
            omega (arith, ge, ne)

-- a look where an entry was taken away
pub entry-without : {X : Type 0} (q id : ℕ) (es : Map X) →
    entry_at q (without_entry id es) ≡ cond (q == id) None (entry_at q es)
entry-without {X} q id [] = none None (q == id)
  where
    none : (o : Option X) (b : Bool) → o ≡ cond b o o
    none o true = refl
    none o false = refl
entry-without q id (e ∷ es) = grind (arith, common_steps, entry-without q id es)

above_without : {X : Type 0} (k id : ℕ) (es : Map X) → AllByRecursion (λ f. k < f.0) es →
    AllByRecursion (λ f. k < f.0) (without_entry id es)
above_without k id es all = all_filtered (λ f. k < f.0) (λ e. not (id == e.0)) es all

-- the ids of a map without an entry rise
pub without_rising : {X : Type 0} (id : ℕ) (es : Map X) → AreRising es → AreRising (without_entry id es)
without_rising id [] rising = tt
without_rising id (e ∷ es) rising = by (id == e.0) (without_rising id es rising.1)
  where
    by : (b : Bool) → AreRising (without_entry id es) →
        AreRising (cond (not b) (e ∷ without_entry id es) (without_entry id es))
    by true rest = rest
    by false rest = (above_without e.0 id es rising.0, rest)

-- what is found stands in the map
pub found_stands : {X : Type 0} (id : ℕ) (x : X) (es : Map X) → entry_at id es ≡ Some x → IsAmong (id, x) es
found_stands id x [] found = absurd cc
found_stands {X} id x (e ∷ es) found = by (id == e.0) refl found (found_stands id x es)
  where
    by : (b : Bool) → (id == e.0) ≡ b → cond b (Some e.1) (entry_at id es) ≡ Some x →
        (entry_at id es ≡ Some x → IsAmong (id, x) es) → IsAmong (id, x) (e ∷ es)
    by true same here later =
        inl (ap (λ k. (k, x)) (eqb-true id e.0 same) ∙ ap (λ y. (e.0, y)) (sym (one_found e.1 x here)))
    by false other there later = inr (later there)

-- and what stands in it is found
pub stands_found : {X : Type 0} (id : ℕ) (x : X) (es : Map X) → AreRising es → IsAmong (id, x) es →
    entry_at id es ≡ Some x
stands_found id x [] rising among = absurd among
stands_found {X} id x (e ∷ es) rising (inl is) =
    subst (λ (f : ℕ × X). entry_at id (f ∷ es) ≡ Some x) is
    (ap (λ b. cond b (Some x) (entry_at id es)) (eq-eqb id id refl))
stands_found {X} id x (e ∷ es) rising (inr later) =
    let above : e.0 < id = all_among (λ f. e.0 < f.0) (id, x) es rising.0 later in
    let other = false_from_ne_true (id == e.0) (λ same. let one = eqb-true id e.0 same in
    absurd (omega (arith, above, one))) in
    ap (λ b. cond b (Some e.1) (entry_at id es)) other ∙ stands_found id x es rising.1 later

-- ---- several entries

pub views_rising : (new old : Map View) → AreRising old → AreRising (with_views new old)
views_rising [] old rising = rising
views_rising (v ∷ more) old rising = with_rising v.0 v.1 (with_views more old) (views_rising more old rising)

-- what is found behind them is one of them, or was found before
pub found_in : (id : ℕ) (y : View) (new old : Map View) → entry_at id (with_views new old) ≡ Some y →
    IsAmong (id, y) new ⊎ ((entry_at id old ≡ Some y) × AllByRecursion (λ v. v.0 ≢ id) new)
found_in id y [] old found = inr (found, tt)
found_in id y (v ∷ more) old found =
    by (id == v.0) refl (sym (entry-with id v.0 v.1 (with_views more old)) ∙ found) (found_in id y more old)
  where
    by : (b : Bool) → (id == v.0) ≡ b → cond b (Some v.1) (entry_at id (with_views more old)) ≡ Some y →
        (entry_at id (with_views more old) ≡ Some y →
        IsAmong (id, y) more ⊎ ((entry_at id old ≡ Some y) × AllByRecursion (λ v. v.0 ≢ id) more)) →
        IsAmong (id, y) (v ∷ more) ⊎ ((entry_at id old ≡ Some y) × AllByRecursion (λ v. v.0 ≢ id) (v ∷ more))
    by true same here later =
        inl (inl (ap (λ k. (k, y)) (eqb-true id v.0 same) ∙ ap (λ x. (v.0, x)) (sym (one_found v.1 y here))))
    by false other there later =
        elim (later there) [
          | inl among ↦ inl (inr among)
          | inr kept ↦ inr (kept.0, ((λ same. false≢true (sym other ∙ eq-eqb id v.0 (sym same))), kept.1))
        ]

-- an id that was there is there still
pub there_in : (id : ℕ) (y : View) (new old : Map View) → entry_at id old ≡ Some y →
    (x : View) × (entry_at id (with_views new old) ≡ Some x)
there_in id y [] old found = (y, found)
there_in id y (v ∷ more) old found = by (id == v.0) refl (there_in id y more old found)
  where
    by : (b : Bool) → (id == v.0) ≡ b → (x : View) × (entry_at id (with_views more old) ≡ Some x) →
        (x : View) × (entry_at id (with_views (v ∷ more) old) ≡ Some x)
    by true same later = (
      v.1,
      entry-with id v.0 v.1 (with_views more old)
          ∙ ap (λ b. cond b (Some v.1) (entry_at id (with_views more old))) same,
    )
    by false other later = (
      later.0,
      entry-with id v.0 v.1 (with_views more old)
          ∙ ap (λ b. cond b (Some v.1) (entry_at id (with_views more old))) other ∙ later.1,
    )
