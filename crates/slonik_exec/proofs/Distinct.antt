-- No name of a database stands twice, whatever was done with them.
use Rattle.std.proofs.Common.{◌≡◌, ◌∙◌, ℕ, Bool, true, false, cond, List, [], ◌∷◌, ◌++◌, Option, Some, None, is_some}
use Rattle.std.proofs.Common.{refl, ap}
use Rattle.std.specs.Str.{bytes_eq}
use Rattle.slon_model.specs.Names.{Named, find_named}
use Rattle.slon_model.proofs.Names.{find-behind, bytes_turned_false}
use Rattle.app_store.specs.Base.{Base}
use Rattle.slonik_exec.specs.Databases.{Trouble, TriesAll, trouble_later}
use Rattle.slonik_exec.specs.Heard.{AreDistinct}

find_tries : (calm : Bool) (told : Option Trouble) (name : List ℕ) (olds news : Named Base) →
    TriesAll calm told olds news → find_named name olds ≡ None → find_named name news ≡ None
find_tries calm told name [] [] tries none = none
find_tries calm told name [] (n ∷ ns) tries none = absurd tries
find_tries calm told name (o ∷ os) [] tries none = absurd tries
find_tries calm told name (o ∷ os) (n ∷ ns) tries none =
    by (bytes_eq name o.0) (ap (bytes_eq name) tries.0) none
    (find_tries calm (trouble_later told o.0) name os ns tries.2)
  where
    by : (b : Bool) → bytes_eq name n.0 ≡ b → cond b (Some o.1) (find_named name os) ≡ None →
        (find_named name os ≡ None → find_named name ns ≡ None) → find_named name (n ∷ ns) ≡ None
    by true is at later = absurd cc
    by false is at later = ap (λ b. cond b (Some n.1) (find_named name ns)) is ∙ later at

-- a step over all databases keeps their names
pub distinct_tries : (calm : Bool) (told : Option Trouble) (olds news : Named Base) → TriesAll calm told olds news →
    AreDistinct olds → AreDistinct news
distinct_tries calm told [] [] tries distinct = tt
distinct_tries calm told [] (n ∷ ns) tries distinct = absurd tries
distinct_tries calm told (o ∷ os) [] tries distinct = absurd tries
distinct_tries calm told (o ∷ os) (n ∷ ns) tries distinct = (
  ap (λ name. find_named name ns) tries.0
      ∙ find_tries calm (trouble_later told o.0) o.0 os ns tries.2 distinct.0,
  distinct_tries calm (trouble_later told o.0) os ns tries.2 distinct.1,
)

-- another database behind the others, of a name that there is not
pub distinct_behind : (name : List ℕ) (b : Base) (bases : Named Base) → find_named name bases ≡ None →
    AreDistinct bases → AreDistinct (bases ++ (name, b) ∷ [])
distinct_behind name b [] none distinct = (refl, tt)
distinct_behind name b (e ∷ es) none distinct =
    by (bytes_eq name e.0) refl none (distinct_behind name b es)
  where
    by : (c : Bool) → bytes_eq name e.0 ≡ c → cond c (Some e.1) (find_named name es) ≡ None →
        (find_named name es ≡ None → AreDistinct es → AreDistinct (es ++ (name, b) ∷ [])) →
        AreDistinct (e ∷ (es ++ (name, b) ∷ []))
    by true is at later = absurd cc
    by false is at later = (
      find-behind e.0 name b es ∙ ap (λ o. cond (is_some o) o (cond (bytes_eq e.0 name) (Some b) None)) distinct.0
          ∙ ap (λ c. cond c (Some b) None) (bytes_turned_false name e.0 is),
      later at distinct.1,
    )
