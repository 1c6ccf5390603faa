-- A database at an index, and under its name.
use Rattle.std.proofs.Common.{◌≡◌, ◌∙◌, ℕ, zero, suc, ◌<◌, ◌≤◌, Bool, true, false, cond, List, [], ◌∷◌, length, map}
use Rattle.std.proofs.Common.{get_or, set, Option, Some, None, refl, sym, ap, subst, true≢false, arith}
use Rattle.std.specs.List.{position, position_or_len}
use Rattle.std.specs.Str.{bytes_eq}
use Rattle.std.proofs.lemmas.List.Quantifiers.{position-Some}
use Rattle.std.proofs.lemmas.List.Sums.{fails_before_first}
use Rattle.std.proofs.lemmas.Grind.{common_steps}
use Rattle.slon_model.specs.Names.{Named, find_named, put_named}
use Rattle.slon_model.specs.Place.{Place}
use Rattle.slon_model.specs.Sessions.{World}
use Rattle.slon_model.proofs.Names.{all_found}
use Rattle.slon_laws.specs.Sound.{Sound}
use Rattle.slon_laws.specs.Spelled.{IsSpelled}
use Rattle.app_store.specs.Base.{Base}
use Rattle.app_store.specs.Fits.{Fits, Ready}
use Rattle.slonik_exec.specs.Databases.{FitsAll, AreReady}

-- ---- an index and a name

found_here : (b : Bool) (x : Base) (others : Option Base) → b ≡ true → cond b (Some x) others ≡ Some x
found_here true x others is = refl
found_here false x others is = absurd (true≢false (sym is))

found_later : (b : Bool) (x : Base) (others : Option Base) (y : Base) → b ≡ false → others ≡ Some y →
    cond b (Some x) others ≡ Some y
found_later false x others y is at = at
found_later true x others y is at = absurd (true≢false is)

put_here : (b : Bool) (name : List ℕ) (y : List ℕ × Base) (bs others : Named Base) → b ≡ true → y.0 ≡ name →
    y ∷ bs ≡ cond b ((name, y.1) ∷ bs) others
put_here true name y bs others is same = ap (λ n. (n, y.1) ∷ bs) same
put_here false name y bs others is same = absurd (true≢false (sym is))

put_later : (b : Bool) (first others expected : Named Base) → b ≡ false → others ≡ expected →
    others ≡ cond b first expected
put_later false first others expected is same = same
put_later true first others expected is same = absurd (true≢false is)

-- the element of this index is the first one of the name
pub record IsFirst {X : Type 0} (f : X → List ℕ × Base) (name : List ℕ) (d : X) (items : List X) (i : ℕ) : Type 0 where
  pub inside : i < length items
  pub named : bytes_eq name (f (get_or items i d)).0 ≡ true
  pub before : (k : ℕ) → k < i → bytes_eq name (f (get_or items k d)).0 ≡ false

pub first_later : {X : Type 0} (f : X → List ℕ × Base) (name : List ℕ) (d x : X) (xs : List X) (i : ℕ) →
    IsFirst f name d (x ∷ xs) (suc i) → IsFirst f name d xs i
first_later f name d x xs i first =
    record {
      inside = omega (arith, first.inside);
      named = first.named;
      before = λ k less. first.before (suc k) (omega (arith, less));
    }

-- it is what the name finds
pub find_at : {X : Type 0} (f : X → List ℕ × Base) (name : List ℕ) (d : X) (items : List X) (i : ℕ) →
    IsFirst f name d items i →
    find_named name (map f items) ≡ Some (f (get_or items i d)).1
find_at f name d [] i first = absurd (omega (arith, first.inside))
find_at f name d (x ∷ xs) zero first = found_here (bytes_eq name (f x).0) (f x).1
    (find_named name (map f xs)) first.named
find_at f name d (x ∷ xs) (suc i) first =
    found_later (bytes_eq name (f x).0) (f x).1 (find_named name (map f xs)) (f (get_or xs i d)).1
    (first.before 0 (omega arith))
    (find_at f name d xs i (first_later f name d x xs i first))

-- and setting it is putting another under the name
pub put_at : {X : Type 0} (f : X → List ℕ × Base) (name : List ℕ) (d y : X) (items : List X) (i : ℕ) →
    IsFirst f name d items i × ((f y).0 ≡ (f (get_or items i d)).0) →
    map f (set items i y) ≡ put_named name (f y).1 (map f items)
put_at f name d y [] i (first, same) = absurd (omega (arith, first.inside))
put_at f name d y (x ∷ xs) zero (first, same) =
    put_here (bytes_eq name (f x).0) (f x).0 (f y) (map f xs) (f x ∷ put_named name (f y).1 (map f xs)) first.named same
put_at f name d y (x ∷ xs) (suc i) (first, same) =
    put_later (bytes_eq name (f x).0) (((f x).0, (f y).1) ∷ map f xs) (f x ∷ map f (set xs i y))
    (f x ∷ put_named name (f y).1 (map f xs))
    (first.before 0 (omega arith)) (ap (λ bs. f x ∷ bs)
    (put_at f name d y xs i (first_later f name d x xs i first, same)))

-- an element at the first index of a name
pub record IsAt {X : Type 0} (f : X → List ℕ × Base) (name : List ℕ) (items : List X) (i : ℕ) (x : X) : Type 0 where
  pub at : position (λ x. bytes_eq name (f x).0) items ≡ Some i
  pub held : x ≡ get_or items i x

pub is_first : {X : Type 0} (f : X → List ℕ × Base) (name : List ℕ) (d : X) (items : List X) (i : ℕ) →
    position (λ x. bytes_eq name (f x).0) items ≡ Some i → IsFirst f name d items i
is_first f name d items i at =
    let first = position-Some (λ x. bytes_eq name (f x).0) items i d at in
    record { inside = first.0; named = first.1; before = first.2 }

pub find_position : {X : Type 0} (f : X → List ℕ × Base) (name : List ℕ) (items : List X) (i : ℕ) (x : X) →
    IsAt f name items i x →
    find_named name (map f items) ≡ Some (f x).1
find_position f name items i x is =
    find_at f name x items i (is_first f name x items i is.at) ∙ ap (λ z. Some (f z).1) (sym is.held)

pub put_position : {X : Type 0} (f : X → List ℕ × Base) (name : List ℕ) (items : List X) (i : ℕ) (x y : X) →
    IsAt f name items i x × ((f y).0 ≡ (f x).0) → map f (set items i y) ≡ put_named name (f y).1 (map f items)
put_position f name items i x y (is, same) =
    put_at f name x y items i (is_first f name x items i is.at, same ∙ ap (λ z. (f z).0) is.held)

none_passes : {X : Type 0} (p : X → Bool) (xs : List X) (d : X) → position p xs ≡ None → (k : ℕ) → k < length xs →
    p (get_or xs k d) ≡ false
none_passes p xs d none k less =
    let outside : length xs ≤ position_or_len p xs = grind (arith, common_steps) in
    fails_before_first p xs k d (omega (arith, outside, less))

find_none : {X : Type 0} (f : X → List ℕ × Base) (name : List ℕ) (d : X) (items : List X) →
    ((k : ℕ) → k < length items → bytes_eq name (f (get_or items k d)).0 ≡ false) → find_named name (map f items) ≡ None
find_none f name d [] all = refl
find_none f name d (x ∷ xs) all = rw (all 0 (omega arith))
    (find_none f name d xs (λ k less. all (suc k) (omega (arith, less))))

pub find_missing : {X : Type 0} (f : X → List ℕ × Base) (name : List ℕ) (items : List X) →
    position (λ x. bytes_eq name (f x).0) items ≡ None →
    find_named name (map f items) ≡ None
find_missing f name [] none = refl
find_missing f name (x ∷ xs) none =
    find_none f name x (x ∷ xs) (none_passes (λ y. bytes_eq name (f y).0) (x ∷ xs) x none)

-- ---- names and databases that agree

-- the place under a name that has a database
pub record Fitting (name : List ℕ) (places : Named Place) (bases : Named Base) (b : Base) : Type 0 where
  pub place : Place
  pub found : find_named name places ≡ Some place
  pub fits : Fits place b
  pub puts : (q : Place) (d : Base) → Fits q d → FitsAll (put_named name q places) (put_named name d bases)

pub fitting : (name : List ℕ) (b : Base) (places : Named Place) (bases : Named Base) → FitsAll places bases →
    find_named name bases ≡ Some b → Fitting name places bases b
fitting name b [] [] all found = absurd cc
fitting name b [] (e ∷ es) all found = absurd all
fitting name b (p ∷ ps) [] all found = absurd all
fitting name b (p ∷ ps) (e ∷ es) all found = go (bytes_eq name e.0) (bytes_eq name p.0) (ap (bytes_eq name) all.0) refl
    (fitting name b ps es all.2) found
  where
    go : (c d : Bool) → d ≡ c → bytes_eq name p.0 ≡ d → (find_named name es ≡ Some b → Fitting name ps es b) →
        cond c (Some e.1) (find_named name es) ≡ Some b → Fitting name (p ∷ ps) (e ∷ es) b
    go true true same there others at =
        let is : e.1 ≡ b = cc in
        record {
          place = p.1;
          found = rw there refl;
          fits = subst (Fits p.1) is all.1;
          puts = λ q d fit. rw (sym (ap (bytes_eq name) all.0) ∙ there, there) (all.0, fit, all.2);
        }
    go false false same there others at =
        let rest = others at in
        record {
          place = rest.place;
          found = rw there rest.found;
          fits = rest.fits;
          puts = λ q d fit. rw (sym (ap (bytes_eq name) all.0) ∙ there, there) (all.0, all.1, rest.puts q d fit);
        }
    go true false same there others at = absurd (true≢false (sym same))
    go false true same there others at = absurd (true≢false same)

pub missing_fits : (name : List ℕ) (places : Named Place) (bases : Named Base) → FitsAll places bases →
    find_named name bases ≡ None → find_named name places ≡ None
missing_fits name [] [] all none = refl
missing_fits name [] (e ∷ es) all none = absurd all
missing_fits name (p ∷ ps) [] all none = absurd all
missing_fits name (p ∷ ps) (e ∷ es) all none = go (bytes_eq name e.0) (bytes_eq name p.0)
    (ap (bytes_eq name) all.0) refl (missing_fits name ps es all.2) none
  where
    go : (c d : Bool) → d ≡ c → bytes_eq name p.0 ≡ d → (find_named name es ≡ None → find_named name ps ≡ None) →
        cond c (Some e.1) (find_named name es) ≡ None → find_named name (p ∷ ps) ≡ None
    go true true same there others at = absurd cc
    go false false same there others at = rw there (others at)
    go true false same there others at = absurd (true≢false (sym same))
    go false true same there others at = absurd (true≢false same)

pub same_length : (places : Named Place) (bases : Named Base) → FitsAll places bases → length places ≡ length bases
same_length [] [] all = refl
same_length [] (e ∷ es) all = absurd all
same_length (p ∷ ps) [] all = absurd all
same_length (p ∷ ps) (e ∷ es) all = ap suc (same_length ps es all.2)

-- ---- databases that are ready

-- what is known of the place of a database
pub ready_place : (name : List ℕ) (b : Base) (w : World) (bases : Named Base) → AreReady w bases →
    (fit : Fitting name w.places bases b) → Ready fit.place b
ready_place name b w bases ready fit = record {
  fits = fit.fits;
  sound = all_found Sound name fit.place w.places ready.sound fit.found;
  spelled = all_found IsSpelled name fit.place w.places ready.spelled fit.found;
}

-- the place of a database that is ready
pub record Readied (name : List ℕ) (w : World) (bases : Named Base) (b : Base) : Type 0 where
  pub place : Place
  pub found : find_named name w.places ≡ Some place
  pub ready : Ready place b
  pub puts : (q : Place) (d : Base) → Fits q d → FitsAll (put_named name q w.places) (put_named name d bases)

pub ready_at : (name : List ℕ) (b : Base) (w : World) (bases : Named Base) → AreReady w bases →
    find_named name bases ≡ Some b → Readied name w bases b
ready_at name b w bases ready found =
    let fit = fitting name b w.places bases ready.fits found in
    record {
      place = fit.place;
      found = fit.found;
      ready = ready_place name b w bases ready fit;
      puts = fit.puts;
    }

-- another database under a name whose place stays
pub fits_put : (name : List ℕ) (q : Place) (d : Base) (places : Named Place) (bases : Named Base) →
    FitsAll places bases → Fits q d → FitsAll (put_named name q places) (put_named name d bases)
fits_put name q d [] [] all fits = tt
fits_put name q d [] (e ∷ es) all fits = absurd all
fits_put name q d (p ∷ ps) [] all fits = absurd all
fits_put name q d (p ∷ ps) (e ∷ es) all fits = go (bytes_eq name e.0) (bytes_eq name p.0)
    (ap (bytes_eq name) all.0) (fits_put name q d ps es all.2 fits)
  where
    go : (c e_is : Bool) → e_is ≡ c → FitsAll (put_named name q ps) (put_named name d es) →
        FitsAll (cond e_is ((p.0, q) ∷ ps) (p ∷ put_named name q ps)) (cond c ((e.0, d) ∷ es) (e ∷ put_named name d es))
    go true true same rest = (all.0, fits, all.2)
    go false false same rest = (all.0, all.1, rest)
    go true false same rest = absurd (true≢false (sym same))
    go false true same rest = absurd (true≢false same)
