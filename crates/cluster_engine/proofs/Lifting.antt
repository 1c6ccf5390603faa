-- The databases of a session and their names.
use Rattle.std.proofs.Common.{◌≡◌, ◌∙◌, ℕ, Bool, true, false, cond, List, [], ◌∷◌, ◌++◌, map, is_some, Option, Some}
use Rattle.std.proofs.Common.{None}
use Rattle.std.proofs.Common.{refl, sym, ap}
use Rattle.std.specs.Prelude.{◌&&◌}
use Rattle.std.specs.List.{position}
use Rattle.std.specs.Str.{bytes_eq}
use Rattle.slon_model.specs.Names.{Named, find_named, put_named}
use Rattle.slon_model.specs.Place.{Place}
use Rattle.slon_model.proofs.Names.{bytes_same, find-put, put_other}
use Rattle.app_store.specs.Base.{Base}
use Rattle.app_store.specs.Fits.{Fits}
use Rattle.slonik_exec.specs.Databases.{FitsAll}
use Rattle.slonik_exec.specs.Heard.{AreDistinct}
use Rattle.slonik_exec.proofs.Lists.{find_missing, find_at, is_first, fitting, missing_fits}

-- whether there is a database of a name
pub find_some : {X : Type 0} (f : X → List ℕ × Base) (name : List ℕ) (items : List X) →
    is_some (find_named name (map f items)) ≡ is_some (position (λ x. bytes_eq name (f x).0) items)
find_some f name [] = refl
find_some f name (y ∷ ys) = by_case (position (λ x. bytes_eq name (f x).0) (y ∷ ys)) refl
  where
    by_case : (found : Option ℕ) → position (λ x. bytes_eq name (f x).0) (y ∷ ys) ≡ found →
        is_some (find_named name (map f (y ∷ ys))) ≡ is_some found
    by_case None is = ap is_some (find_missing f name (y ∷ ys) is)
    by_case (Some i) is = ap is_some (find_at f name y (y ∷ ys) i (is_first f name y (y ∷ ys) i is))

pub same_some : (name : List ℕ) (places : Named Place) (bases : Named Base) → FitsAll places bases →
    is_some (find_named name places) ≡ is_some (find_named name bases)
same_some name places bases all = by_case (find_named name bases) refl
  where
    by_case : (found : Option Base) → find_named name bases ≡ found → is_some (find_named name places) ≡ is_some found
    by_case None is = ap is_some (missing_fits name places bases all is)
    by_case (Some b) is = ap is_some (fitting name b places bases all is).found

-- a new database behind the others
pub fits_more : (name : List ℕ) (p : Place) (b : Base) (places : Named Place) (bases : Named Base) →
    FitsAll places bases → Fits p b → FitsAll (places ++ (name, p) ∷ []) (bases ++ (name, b) ∷ [])
fits_more name p b [] [] all here = (refl, here, tt)
fits_more name p b [] (e ∷ es) all here = absurd all
fits_more name p b (q ∷ qs) [] all here = absurd all
fits_more name p b (q ∷ qs) (e ∷ es) all here = (all.0, all.1, fits_more name p b qs es all.2 here)

-- ---- no name stands twice

lacks_put : (k name : List ℕ) (x : Base) (es : Named Base) → find_named k es ≡ None →
    find_named k (put_named name x es) ≡ None
lacks_put k name x es none = by (bytes_eq k name) refl
  where
    by : (c : Bool) → bytes_eq k name ≡ c → find_named k (put_named name x es) ≡ None
    by false is = put_other k name x es is ∙ none
    by true is =
        find-put k name x es ∙ ap (λ b. cond (b && is_some (find_named name es)) (Some x) (find_named k es)) is
        ∙ ap (λ o. cond (is_some o) (Some x) (find_named k es))
        (ap (λ n. find_named n es) (sym (bytes_same k name is)) ∙ none) ∙ none

pub distinct_put : (name : List ℕ) (x : Base) (es : Named Base) → AreDistinct es → AreDistinct (put_named name x es)
distinct_put name x [] distinct = tt
distinct_put name x (e ∷ es) distinct =
    elim (bytes_eq name e.0) as (λ b. AreDistinct (cond b ((e.0, x) ∷ es) (e ∷ put_named name x es))) [
      | true ↦ distinct
      | false ↦ (lacks_put e.0 name x es distinct.0, distinct_put name x es distinct.1)
    ]
