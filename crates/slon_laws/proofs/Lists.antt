-- What holds of all elements of a list.
use Rattle.std.proofs.Common.{◌≡◌, ℕ, Bool, true, false, cond, List, [], ◌∷◌, ◌++◌, map, filter, reverse, flat_map}
use Rattle.std.proofs.Common.{refl, sym, subst, inl, inr, Option, Some, None}
use Rattle.std.proofs.lemmas.Bool.{eqb-true}
use Rattle.std.specs.Prelude.{◌==◌, nat_lt, filter_map}
use Rattle.std.specs.List.{AllByRecursion, cons_option}
use Rattle.std.proofs.lemmas.List.{reverse-append}
use Rattle.std.specs.Str.{bytes_eq}
use Rattle.slon_model.specs.Names.{Named, find_named}
use Rattle.slon_model.specs.Maps.{Map, entry_at, with_entry}
use Rattle.slon_model.proofs.Names.{bytes_same}
use Rattle.slon_laws.specs.Lists.{IsAmong}
use Rattle.slon_laws.proofs.Owners.{OnSome}

pub all_among : {X : Type 0} (P : X → Type 0) (x : X) (xs : List X) → AllByRecursion P xs → IsAmong x xs → P x
all_among P x [] all among = absurd among
all_among P x (y ∷ ys) all (inl is) = subst P (sym is) all.0
all_among P x (y ∷ ys) all (inr later) = all_among P x ys all.1 later

pub among_all : {X : Type 0} (P : X → Type 0) (xs : List X) → ((x : X) → IsAmong x xs → P x) → AllByRecursion P xs
among_all P [] each = tt
among_all P (x ∷ xs) each = (each x (inl refl), among_all P xs (λ y later. each y (inr later)))

pub all_appended : {X : Type 0} (P : X → Type 0) (xs ys : List X) → AllByRecursion P xs → AllByRecursion P ys →
    AllByRecursion P (xs ++ ys)
all_appended P [] ys one two = two
all_appended P (x ∷ xs) ys one two = (one.0, all_appended P xs ys one.1 two)

-- those that pass a test
pub all_passed : {X : Type 0} (P Q : X → Type 0) (test : X → Bool) → ((x : X) → P x → test x ≡ true → Q x) →
    (xs : List X) → AllByRecursion P xs → AllByRecursion Q (filter test xs)
all_passed P Q test each [] all = tt
all_passed P Q test each (x ∷ xs) all =
    elim (test x) as (λ b. test x ≡ b → AllByRecursion Q (cond b (x ∷ filter test xs) (filter test xs))) [
      | true ↦ λ passes. (each x all.0 passes, all_passed P Q test each xs all.1)
      | false ↦ λ fails. all_passed P Q test each xs all.1
    ] refl

pub all_filtered : {X : Type 0} (P : X → Type 0) (test : X → Bool) (xs : List X) → AllByRecursion P xs →
    AllByRecursion P (filter test xs)
all_filtered P test xs all = all_passed P P test (λ x is passes. is) xs all

pub all_reversed : {X : Type 0} (P : X → Type 0) (xs : List X) → AllByRecursion P xs → AllByRecursion P (reverse xs)
all_reversed P [] all = tt
all_reversed P (x ∷ xs) all =
    subst (AllByRecursion P) (sym (reverse-append (x ∷ []) xs))
    (all_appended P (reverse xs) (x ∷ []) (all_reversed P xs all.1) (all.0, tt))

pub all_mapped : {X Y : Type 0} (P : X → Type 0) (Q : Y → Type 0) (f : X → Y) → ((x : X) → P x → Q (f x)) →
    (xs : List X) → AllByRecursion P xs → AllByRecursion Q (map f xs)
all_mapped P Q f each [] all = tt
all_mapped P Q f each (x ∷ xs) all = (each x all.0, all_mapped P Q f each xs all.1)

pub all_flat : {X Y : Type 0} (P : X → Type 0) (Q : Y → Type 0) (f : X → List Y) →
    ((x : X) → P x → AllByRecursion Q (f x)) → (xs : List X) → AllByRecursion P xs → AllByRecursion Q (flat_map f xs)
all_flat P Q f each [] all = tt
all_flat P Q f each (x ∷ xs) all =
    all_appended Q (f x) (flat_map f xs) (each x all.0) (all_flat P Q f each xs all.1)

pub all_each : {X : Type 0} (P : X → Type 0) → ((x : X) → P x) → (xs : List X) → AllByRecursion P xs
all_each P each [] = tt
all_each P each (x ∷ xs) = (each x, all_each P each xs)

-- of what a function gives, where it gives something
pub all_given : {X Y : Type 0} (P : X → Type 0) (Q : Y → Type 0) (f : X → Option Y) →
    ((x : X) → P x → OnSome Q (f x)) → (xs : List X) → AllByRecursion P xs → AllByRecursion Q (filter_map f xs)
all_given P Q f each [] all = tt
all_given {Y = Y} P Q f each (x ∷ xs) all = by (f x) (each x all.0) (all_given P Q f each xs all.1)
  where
    by : (o : Option Y) → OnSome Q o → AllByRecursion Q (filter_map f xs) →
        AllByRecursion Q (cons_option o (filter_map f xs))
    by None is more = more
    by (Some y) is more = (is, more)

-- what all entries have, they have with one more
pub all_with : {X : Type 0} (P : ℕ × X → Type 0) (id : ℕ) (x : X) (es : Map X) → P (id, x) → AllByRecursion P es →
    AllByRecursion P (with_entry id x es)
all_with P id x [] here all = (here, tt)
all_with P id x (e ∷ es) here all =
    elim (nat_lt id e.0) as (λ b. AllByRecursion P (cond b ((id, x) ∷ e ∷ es)
    (cond (id == e.0) ((id, x) ∷ es) (e ∷ with_entry id x es)))) [
      | true ↦ (here, all)
      | false ↦ elim (id == e.0) as (λ b. AllByRecursion P (cond b ((id, x) ∷ es) (e ∷ with_entry id x es))) [
        | true ↦ (here, all.1)
        | false ↦ (all.0, all_with P id x es here all.1)
      ]
    ]

-- ---- maps from names

-- what all entries have, the one that is found has
pub all_named : {X : Type 0} (P : List ℕ × X → Type 0) (name : List ℕ) (x : X) (es : Named X) → AllByRecursion P es →
    find_named name es ≡ Some x → P (name, x)
all_named P name x [] all found = absurd cc
all_named P name x (e ∷ es) all found =
    elim (bytes_eq name e.0)
    as (λ b. bytes_eq name e.0 ≡ b → cond b (Some e.1) (find_named name es) ≡ Some x → P (name, x)) [
      | true ↦ λ same here. let is : e.1 ≡ x = cc in
          subst (λ k. P (k, x)) (sym (bytes_same name e.0 same)) (subst (λ y. P (e.0, y)) is all.0)
      | false ↦ λ other later. all_named P name x es all.1 later
    ] refl found

-- ---- maps from ids

-- what all entries have, the one that is found has
pub all_entry : {X : Type 0} (P : ℕ × X → Type 0) (id : ℕ) (x : X) (es : Map X) → AllByRecursion P es →
    entry_at id es ≡ Some x → P (id, x)
all_entry P id x [] all found = absurd cc
all_entry P id x (e ∷ es) all found =
    elim (id == e.0) as (λ b. (id == e.0) ≡ b → cond b (Some e.1) (entry_at id es) ≡ Some x → P (id, x)) [
      | true ↦ λ same here. let is : e.1 ≡ x = cc in
          subst (λ k. P (k, x)) (sym (eqb-true id e.0 same)) (subst (λ y. P (e.0, y)) is all.0)
      | false ↦ λ other later. all_entry P id x es all.1 later
    ] refl found
