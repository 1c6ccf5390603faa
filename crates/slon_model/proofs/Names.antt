-- The laws of maps from names.
use Rattle.std.proofs.Common.{◌≡◌, ℕ, Bool, true, false, cond, List, [], ◌∷◌, ◌++◌, Option, Some, None, is_some, refl}
use Rattle.std.proofs.Common.{sym, ap, subst, ◌∙◌}
use Rattle.std.specs.Prelude.{◌&&◌, not}
use Rattle.std.specs.List.{AllByRecursion}
use Rattle.std.specs.Str.{bytes_eq}
use Rattle.std.proofs.lemmas.Bool.{false≢true, false_from_ne_true}
use Rattle.std.proofs.lemmas.Slice.Eq.{bytes_eq-Decides}
use Rattle.slon_model.specs.Names.{Named, find_named, put_named, without}

-- ---- texts compared

pub bytes_same : (a b : List ℕ) → bytes_eq a b ≡ true → a ≡ b
bytes_same a b = (bytes_eq-Decides a b).0

pub bytes_itself : (a : List ℕ) → bytes_eq a a ≡ true
bytes_itself a = (bytes_eq-Decides a a).1 refl

pub bytes_turned : (a b : List ℕ) → bytes_eq a b ≡ true → bytes_eq b a ≡ true
bytes_turned a b is = (bytes_eq-Decides b a).1 (sym (bytes_same a b is))

pub bytes_turned_false : (a b : List ℕ) → bytes_eq a b ≡ false → bytes_eq b a ≡ false
bytes_turned_false a b is = false_from_ne_true _ (λ same. false≢true (sym is ∙ bytes_turned b a same))

another : (k name first : List ℕ) → bytes_eq k first ≡ true → bytes_eq name first ≡ false → bytes_eq k name ≡ false
another k name first at other = ap (λ y. bytes_eq y name) (bytes_same k first at) ∙ bytes_turned_false name first other

-- ---- what is found

here_put : {X : Type 0} (c : Bool) (x first : X) (o : Option X) →
    cond c (Some x) o ≡ cond (c && true) (Some x) (cond c (Some first) o)
here_put true x first o = refl
here_put false x first o = refl

-- a change of another entry than the first
behind_changed : {X : Type 0} (c d : Bool) (first : X) (o n : Option X) → (c ≡ true → d ≡ false) →
    cond c (Some first) (cond d n o) ≡ cond d n (cond c (Some first) o)
behind_changed true d first o n apart = sym (ap (λ b. cond b n (Some first)) (apart refl))
behind_changed false d first o n apart = refl

none_put : {X : Type 0} (d : Bool) (x : X) → None ≡ cond (d && false) (Some x) None
none_put true x = refl
none_put false x = refl

-- an entry that is put is found under its name, where there was one, and all others are found as before
pub find-put : {X : Type 0} (k name : List ℕ) (x : X) (es : Named X) →
    find_named k (put_named name x es) ≡ cond (bytes_eq k name && is_some (find_named name es)) (Some x)
    (find_named k es)
find-put k name x [] = none_put (bytes_eq k name) x
find-put k name x (e ∷ es) =
    elim (bytes_eq name e.0)
    as (λ b. bytes_eq name e.0 ≡ b → find_named k (cond b ((e.0, x) ∷ es) (e ∷ put_named name x es))
    ≡ cond (bytes_eq k name && is_some (cond b (Some e.1) (find_named name es))) (Some x) (find_named k (e ∷ es))) [
      | true ↦ λ same. here_put (bytes_eq k e.0) x e.1 (find_named k es)
          ∙ sym
          (ap (λ c. cond (c && true) (Some x) (find_named k (e ∷ es))) (ap (bytes_eq k) (bytes_same name e.0 same)))
      | false ↦
          λ other. ap (cond (bytes_eq k e.0) (Some e.1)) (find-put k name x es)
          ∙ behind_changed (bytes_eq k e.0) (bytes_eq k name && is_some (find_named name es)) e.1 (find_named k es)
          (Some x)
          (λ at. ap (λ b. b && is_some (find_named name es)) (another k name e.0 at other))
    ] refl

here_without : {X : Type 0} (c d : Bool) (first : X) (o r : Option X) → d ≡ c → r ≡ cond d None o →
    r ≡ cond d None (cond c (Some first) o)
here_without true d first o r same is =
    is ∙ ap (λ b. cond b None o) same ∙ sym (ap (λ b. cond b None (Some first)) same)
here_without false d first o r same is = is

none_without : {X : Type 0} (d : Bool) (o : Option X) → o ≡ None → o ≡ cond d None o
none_without true o is = is
none_without false o is = refl

-- a name that is taken away is not found, and all others are found as before
pub find-without : {X : Type 0} (k name : List ℕ) (es : Named X) →
    find_named k (without name es) ≡ cond (bytes_eq k name) None (find_named k es)
find-without k name [] = none_without (bytes_eq k name) None refl
find-without k name (e ∷ es) =
    elim (bytes_eq name e.0) as (λ b. bytes_eq name e.0 ≡ b →
    find_named k (cond (not b) (e ∷ without name es) (without name es)) ≡ cond (bytes_eq k name) None
    (find_named k (e ∷ es))) [
      | true ↦
          λ same. here_without (bytes_eq k e.0) (bytes_eq k name) e.1 (find_named k es) (find_named k (without name es))
          (ap (bytes_eq k) (bytes_same name e.0 same)) (find-without k name es)
      | false ↦
          λ other. ap (cond (bytes_eq k e.0) (Some e.1)) (find-without k name es)
          ∙ behind_changed (bytes_eq k e.0) (bytes_eq k name) e.1 (find_named k es) None
          (λ at. another k name e.0 at other)
    ] refl

-- an entry behind the others is found where there was none
pub find-behind : {X : Type 0} (k name : List ℕ) (x : X) (es : Named X) →
    find_named k (es ++ (name, x) ∷ []) ≡ cond (is_some (find_named k es)) (find_named k es)
    (cond (bytes_eq k name) (Some x) None)
find-behind k name x [] = refl
find-behind k name x (e ∷ es) =
    elim (bytes_eq k e.0) as (λ b. cond b (Some e.1) (find_named k (es ++ (name, x) ∷ []))
    ≡ cond (is_some (cond b (Some e.1) (find_named k es))) (cond b (Some e.1) (find_named k es))
    (cond (bytes_eq k name) (Some x) None)) [
      | true ↦ refl
      | false ↦ find-behind k name x es
    ]

-- what is found is found still, with another behind it
pub found_behind : {X : Type 0} (k name : List ℕ) (x y : X) (es : Named X) → find_named k es ≡ Some y →
    find_named k (es ++ (name, x) ∷ []) ≡ Some y
found_behind k name x y es found =
    find-behind k name x es ∙ ap (λ o. cond (is_some o) o (cond (bytes_eq k name) (Some x) None)) found

-- what is put where an entry was
pub put_found : {X : Type 0} (name : List ℕ) (x y : X) (es : Named X) → find_named name es ≡ Some y →
    find_named name (put_named name x es) ≡ Some x
put_found name x y es found =
    find-put name name x es ∙ ap (λ o. cond (bytes_eq name name && is_some o) (Some x) (find_named name es)) found
    ∙ ap (λ b. cond (b && true) (Some x) (find_named name es)) (bytes_itself name)

pub put_other : {X : Type 0} (k name : List ℕ) (x : X) (es : Named X) → bytes_eq k name ≡ false →
    find_named k (put_named name x es) ≡ find_named k es
put_other k name x es other =
    find-put k name x es ∙ ap (λ b. cond (b && is_some (find_named name es)) (Some x) (find_named k es)) other

-- ---- what holds of all

pub all_map : {X : Type 0} (P Q : X → Type 0) (f : (x : X) → P x → Q x) (xs : List X) → AllByRecursion P xs →
    AllByRecursion Q xs
all_map P Q f [] all = tt
all_map P Q f (x ∷ xs) all = (f x all.0, all_map P Q f xs all.1)

pub all_put : {X : Type 0} (P : X → Type 0) (name : List ℕ) (x : X) (es : Named X) → P x →
    AllByRecursion (λ e. P e.1) es → AllByRecursion (λ e. P e.1) (put_named name x es)
all_put P name x [] is all = tt
all_put P name x (e ∷ es) is all =
    elim (bytes_eq name e.0) as (λ b. AllByRecursion (λ e. P e.1) (cond b ((e.0, x) ∷ es) (e ∷ put_named name x es))) [
      | true ↦ (is, all.1)
      | false ↦ (all.0, all_put P name x es is all.1)
    ]

pub all_behind : {X : Type 0} (P : X → Type 0) (name : List ℕ) (x : X) (es : Named X) → P x →
    AllByRecursion (λ e. P e.1) es → AllByRecursion (λ e. P e.1) (es ++ (name, x) ∷ [])
all_behind P name x [] is all = (is, tt)
all_behind P name x (e ∷ es) is all = (all.0, all_behind P name x es is all.1)

pub all_found : {X : Type 0} (P : X → Type 0) (name : List ℕ) (x : X) (es : Named X) → AllByRecursion (λ e. P e.1) es →
    find_named name es ≡ Some x → P x
all_found P name x [] all found = absurd cc
all_found P name x (e ∷ es) all found =
    elim (bytes_eq name e.0) as (λ b. cond b (Some e.1) (find_named name es) ≡ Some x → P x) [
      | true ↦ λ here. let same : e.1 ≡ x = cc in subst P same all.0
      | false ↦ λ later. all_found P name x es all.1 later
    ] found

-- what is found is one
pub one_found : {X : Type 0} (x y : X) → Some x ≡ Some y → x ≡ y
one_found x y is = cc
