-- Open transactions by their names, and lists of ids.
use Rattle.std.proofs.Common.{◌≡◌, ℕ, ◌<◌, Bool, true, false, cond, List, [], ◌∷◌, ◌++◌, Some, None, refl, sym, ap}
use Rattle.std.proofs.Common.{subst, ◌∙◌, arith, ◌⊎◌, inl, inr}
use Rattle.std.specs.Prelude.{◌==◌, ◌||◌, not}
use Rattle.std.specs.List.{AllByRecursion}
use Rattle.std.specs.Str.{bytes_eq}
use Rattle.std.proofs.lemmas.Bool.{false≢true, true≢false, eqb-true, eq-eqb, or_cases, or_right}
use Rattle.slon_model.specs.Rows.{member}
use Rattle.slon_model.specs.Names.{Named, find_named, without}
use Rattle.slon_model.proofs.Names.{bytes_turned_false}
use Rattle.slon_model.specs.Snapshots.{Rising}
use Rattle.slon_laws.specs.Sound.{AreNamedOnce, ids_of}

pub or_parts : (a b : Bool) → (a || b) ≡ false → (a ≡ false) × (b ≡ false)
or_parts true b is = absurd (true≢false is)
or_parts false b is = (refl, is)

-- what follows of two facts on each
pub all_two : {X : Type 0} (P Q R : X → Type 0) (f : (x : X) → P x → Q x → R x) (xs : List X) → AllByRecursion P xs →
    AllByRecursion Q xs → AllByRecursion R xs
all_two P Q R f [] ps qs = tt
all_two P Q R f (x ∷ xs) ps qs = (f x ps.0 qs.0, all_two P Q R f xs ps.1 qs.1)

-- ---- lists of ids

pub member_all : (P : ℕ → Type 0) (x : ℕ) (xs : List ℕ) → AllByRecursion P xs → member x xs ≡ true → P x
member_all P x [] all is = absurd (false≢true is)
member_all P x (y ∷ ys) all is = elim (or_cases (x == y) (member x ys) is) [
  | inl same ↦ subst P (sym (eqb-true x y same)) all.0
  | inr more ↦ member_all P x ys all.1 more
]

pub all_member : (P : ℕ → Type 0) (xs : List ℕ) → ((x : ℕ) → member x xs ≡ true → P x) → AllByRecursion P xs
all_member P [] each = tt
all_member P (x ∷ xs) each = (
  each x (ap (λ b. b || member x xs) (eq-eqb x x refl)),
  all_member P xs (λ y is. each y (or_right (y == x) (member y xs) is)),
)

-- a new id behind the others
pub member_behind : (x n : ℕ) (name : List ℕ) (os : Named ℕ) → member x (ids_of (os ++ (name, n) ∷ [])) ≡ true →
    (member x (ids_of os) ≡ true) ⊎ (x ≡ n)
member_behind x n name [] is = elim (or_cases (x == n) false is) [
  | inl same ↦ inr (eqb-true x n same)
  | inr none ↦ absurd (false≢true none)
]
member_behind x n name (o ∷ os) is = elim (or_cases (x == o.1) (member x (ids_of (os ++ (name, n) ∷ []))) is) [
  | inl same ↦ inl (ap (λ b. b || member x (ids_of os)) same)
  | inr more ↦ elim (member_behind x n name os more) [
    | inl old ↦ inl (or_right (x == o.1) (member x (ids_of os)) old)
    | inr new ↦ inr new
  ]
]

all_behind : (P : ℕ → Type 0) (n : ℕ) (name : List ℕ) (os : Named ℕ) → AllByRecursion P (ids_of os) → P n →
    AllByRecursion P (ids_of (os ++ (name, n) ∷ []))
all_behind P n name [] all is = (is, tt)
all_behind P n name (o ∷ os) all is = (all.0, all_behind P n name os all.1 is)

pub rising_behind : (n : ℕ) (name : List ℕ) (os : Named ℕ) → AllByRecursion (λ x. x < n) (ids_of os) →
    Rising (ids_of os) → Rising (ids_of (os ++ (name, n) ∷ []))
rising_behind n name [] below rising = (tt, tt)
rising_behind n name (o ∷ os) below rising =
    (all_behind (λ y. o.1 < y) n name os rising.0 below.0, rising_behind n name os below.1 rising.1)

-- ---- names

pub unnamed_behind : {X : Type 0} (k name : List ℕ) (x : X) (os : Named X) → bytes_eq k name ≡ false →
    find_named k os ≡ None → find_named k (os ++ (name, x) ∷ []) ≡ None
unnamed_behind k name x [] other none = ap (λ b. cond b (Some x) None) other
unnamed_behind {X} k name x (o ∷ os) other none =
    elim (bytes_eq k o.0) as (λ b. cond b (Some o.1) (find_named k os) ≡ None →
    cond b (Some o.1) (find_named k (os ++ (name, x) ∷ [])) ≡ None) [
      | true ↦ λ found. found
      | false ↦ λ absent. unnamed_behind k name x os other absent
    ] none

pub named_behind : {X : Type 0} (name : List ℕ) (x : X) (es : Named X) → find_named name es ≡ None → AreNamedOnce es →
    AreNamedOnce (es ++ (name, x) ∷ [])
named_behind name x [] none named = (refl, tt)
named_behind name x (e ∷ es) none named =
    elim (bytes_eq name e.0) as (λ b. bytes_eq name e.0 ≡ b → cond b (Some e.1) (find_named name es) ≡ None →
    AreNamedOnce ((e ∷ es) ++ (name, x) ∷ [])) [
      | true ↦ λ same found. absurd cc
      | false ↦
          λ other absent. (
            unnamed_behind e.0 name x es (bytes_turned_false name e.0 other) named.0,
            named_behind name x es absent named.1,
          )
    ] refl none

pub found_member : (name : List ℕ) (x : ℕ) (os : Named ℕ) → find_named name os ≡ Some x → member x (ids_of os) ≡ true
found_member name x [] is = absurd cc
found_member name x (o ∷ os) is =
    elim (bytes_eq name o.0) as (λ b. cond b (Some o.1) (find_named name os) ≡ Some x →
    member x (ids_of (o ∷ os)) ≡ true) [
      | true ↦ λ found. let same : o.1 ≡ x = cc in ap (λ b. b || member x (ids_of os)) (eq-eqb x o.1 (sym same))
      | false ↦ λ found. or_right (x == o.1) (member x (ids_of os)) (found_member name x os found)
    ] is

-- ---- a name taken away

all_without : (P : ℕ → Type 0) (name : List ℕ) (os : Named ℕ) → AllByRecursion P (ids_of os) →
    AllByRecursion P (ids_of (without name os))
all_without P name [] all = tt
all_without P name (o ∷ os) all =
    elim (bytes_eq name o.0)
    as (λ b. AllByRecursion P (ids_of (cond (not b) (o ∷ without name os) (without name os)))) [
      | true ↦ all_without P name os all.1
      | false ↦ (all.0, all_without P name os all.1)
    ]

pub rising_without : (name : List ℕ) (os : Named ℕ) → Rising (ids_of os) → Rising (ids_of (without name os))
rising_without name [] rising = tt
rising_without name (o ∷ os) rising =
    elim (bytes_eq name o.0) as (λ b. Rising (ids_of (cond (not b) (o ∷ without name os) (without name os)))) [
      | true ↦ rising_without name os rising.1
      | false ↦ (all_without (λ y. o.1 < y) name os rising.0, rising_without name os rising.1)
    ]

pub member_without : (x : ℕ) (name : List ℕ) (os : Named ℕ) → member x (ids_of (without name os)) ≡ true →
    member x (ids_of os) ≡ true
member_without x name os =
    member_all (λ y. member y (ids_of os) ≡ true) x (ids_of (without name os))
    (all_without (λ y. member y (ids_of os) ≡ true) name os
    (all_member (λ y. member y (ids_of os) ≡ true) (ids_of os) (λ y is. is)))

unnamed_without : (k name : List ℕ) (os : Named ℕ) → find_named k os ≡ None → find_named k (without name os) ≡ None
unnamed_without k name [] none = refl
unnamed_without k name (o ∷ os) none =
    elim (bytes_eq k o.0) as (λ b. bytes_eq k o.0 ≡ b → cond b (Some o.1) (find_named k os) ≡ None →
    find_named k (cond (not (bytes_eq name o.0)) (o ∷ without name os) (without name os)) ≡ None) [
      | true ↦ λ same found. absurd cc
      | false ↦
          λ other absent. elim (bytes_eq name o.0)
          as (λ b. find_named k (cond (not b) (o ∷ without name os) (without name os)) ≡ None) [
            | true ↦ unnamed_without k name os absent
            | false ↦ ap (λ b. cond b (Some o.1) (find_named k (without name os))) other
                ∙ unnamed_without k name os absent
          ]
    ] refl none

pub named_without : (name : List ℕ) (os : Named ℕ) → AreNamedOnce os → AreNamedOnce (without name os)
named_without name [] named = tt
named_without name (o ∷ os) named =
    elim (bytes_eq name o.0) as (λ b. AreNamedOnce (cond (not b) (o ∷ without name os) (without name os))) [
      | true ↦ named_without name os named.1
      | false ↦ (unnamed_without o.0 name os named.0, named_without name os named.1)
    ]

not_below : (x : ℕ) (xs : List ℕ) → AllByRecursion (λ y. x < y) xs → member x xs ≡ true → ⊥
not_below x xs above is = let less : x < x = member_all (λ y. x < y) x xs above is in omega (arith, less)

-- with the name its id is taken away
pub member_taken : (x : ℕ) (name : List ℕ) (os : Named ℕ) → AreNamedOnce os → Rising (ids_of os) →
    find_named name os ≡ Some x → member x (ids_of (without name os)) ≡ true → ⊥
member_taken x name [] named rising found is = false≢true is
member_taken x name (o ∷ os) named rising found is =
    elim (bytes_eq name o.0) as (λ b. cond b (Some o.1) (find_named name os) ≡ Some x →
    member x (ids_of (cond (not b) (o ∷ without name os) (without name os))) ≡ true → ⊥) [
      | true ↦ λ here among. let same : o.1 ≡ x = cc in
          not_below x (ids_of os) (subst (λ y. AllByRecursion (λ z. y < z) (ids_of os)) same rising.0)
          (member_without x name os among)
      | false ↦ λ later among. elim (or_cases (x == o.1) (member x (ids_of (without name os))) among) [
        | inl same ↦
            not_below o.1 (ids_of os) rising.0 (ap (λ y. member y (ids_of os)) (sym (eqb-true x o.1 same))
            ∙ found_member name x os later)
        | inr more ↦ member_taken x name os named.1 rising.1 later more
      ]
    ] found is
