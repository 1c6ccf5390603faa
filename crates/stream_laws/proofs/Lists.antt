-- What holds of all elements of a list, and what is found in a map.
use Rattle.std.proofs.Common.{◌≡◌, ◌≢◌, inl, inr, ℕ, Bool, true, false, cond, List, [], ◌∷◌, ◌++◌}
use Rattle.std.proofs.Common.{find, Option, Some, None, refl, sym, ap, subst, ◌∙◌, is_some, unwrap_or, arith, eq-eqb}
use Rattle.std.proofs.Common.{map, ◌⊎◌}
use Rattle.std.specs.Prelude.{option_map}
use Rattle.std.specs.Prelude.{◌==◌, ◌||◌, nat_lt}
use Rattle.std.specs.List.{AllByRecursion, list_any}
use Rattle.std.proofs.lemmas.Bool.{eqb-true, false≢true, false_from_ne_true, or_right, true≢false}
use Rattle.std.proofs.lemmas.Grind.{common_steps}
use Rattle.slon_model.specs.Maps.{Map, entry_at, with_entry, number_at}
pub use Rattle.slon_laws.proofs.Lists.{all_appended, all_passed, all_filtered, all_reversed, all_mapped, all_flat}
pub use Rattle.slon_laws.proofs.Lists.{all_among, all_each, all_entry, all_named, all_with, among_all}
use Rattle.stream_laws.specs.Nodes.{IsAmong}

-- ---- maps of which the entries are changed

-- what the change leaves of each
pub part-mapped : {X Y : Type 0} (part : X → Y) (g : ℕ × X → ℕ × X) (q : ℕ) (es : Map X) →
    ((e : ℕ × X) → ((g e).0 ≡ e.0) × (part (g e).1 ≡ part e.1)) →
    option_map part (entry_at q (map g es)) ≡ option_map part (entry_at q es)
part-mapped part g q [] same = refl
part-mapped part g q (e ∷ es) same =
    ap (λ i. option_map part (cond (q == i) (Some (g e).1) (entry_at q (map g es)))) (same e).0
    ∙ by (part-mapped part g q es same) (q == e.0)
  where
    by : option_map part (entry_at q (map g es)) ≡ option_map part (entry_at q es) → (b : Bool) →
        option_map part (cond b (Some (g e).1) (entry_at q (map g es)))
        ≡ option_map part (cond b (Some e.1) (entry_at q es))
    by later true = ap Some (same e).1
    by later false = later

-- the ids that are there
pub there-mapped : {X : Type 0} (g : ℕ × X → ℕ × X) (q : ℕ) (es : Map X) → ((e : ℕ × X) → (g e).0 ≡ e.0) →
    is_some (entry_at q (map g es)) ≡ is_some (entry_at q es)
there-mapped {X} g q es same =
    sym (some (entry_at q (map g es))) ∙ ap is_some (part-mapped none g q es (λ e. (same e, refl)))
    ∙ some (entry_at q es)
  where
    none : X → ℕ
    none x = 0

    some : (o : Option X) → is_some (option_map none o) ≡ is_some o
    some None = refl
    some (Some x) = refl

-- a test that the change leaves
pub any-mapped : {X : Type 0} (test : X → Bool) (g : X → X) (xs : List X) → ((x : X) → test (g x) ≡ test x) →
    list_any test (map g xs) ≡ list_any test xs
any-mapped test g [] same = refl
any-mapped test g (x ∷ xs) same =
    ap (λ b. b || list_any test (map g xs)) (same x) ∙ ap (λ b. test x || b) (any-mapped test g xs same)

-- what is found of entries of which one is changed
pub entry-changed : {X : Type 0} (f : X → X) (set id : ℕ) (es : Map X) →
    entry_at id (map (λ e. cond (e.0 == set) (e.0, f e.1) e) es)
    ≡ cond (id == set) (option_map f (entry_at id es)) (entry_at id es)
entry-changed f set id [] = by (id == set)
  where
    by : (b : Bool) → None ≡ cond b (option_map f None) None
    by true = refl
    by false = refl
entry-changed {X} f set id (e ∷ es) = at (e.0 == set) refl (entry-changed f set id es)
  where
    rest : Map X
    rest = map (λ e. cond (e.0 == set) (e.0, f e.1) e) es

    Later : Type 0
    Later = entry_at id rest ≡ cond (id == set) (option_map f (entry_at id es)) (entry_at id es)

    push : (b : Bool) → Some (cond b (f e.1) e.1) ≡ cond b (Some (f e.1)) (Some e.1)
    push true = refl
    push false = refl

    hit : (b : Bool) → (e.0 == set) ≡ b → (c : Bool) → (id == e.0) ≡ c → Later →
        cond c (Some (cond b (f e.1) e.1)) (entry_at id rest)
        ≡ cond (id == set) (option_map f (cond c (Some e.1) (entry_at id es))) (cond c (Some e.1) (entry_at id es))
    hit b same true here later =
        push b
        ∙ ap (λ d. cond d (Some (f e.1)) (Some e.1)) (sym (ap (λ i. i == set) (eqb-true id e.0 here) ∙ same))
    hit b same false other later = later

    at : (b : Bool) → (e.0 == set) ≡ b → Later →
        entry_at id (cond b (e.0, f e.1) e ∷ rest)
        ≡ cond (id == set) (option_map f (entry_at id (e ∷ es))) (entry_at id (e ∷ es))
    at true same later = hit true same (id == e.0) refl later
    at false other later = hit false other (id == e.0) refl later

-- ---- one of a list

-- what is made of one
pub mapped_among : {X Y : Type 0} (f : X → Y) (y : Y) (xs : List X) → IsAmong y (map f xs) →
    (x : X) × IsAmong x xs × (y ≡ f x)
mapped_among f y [] among = absurd among
mapped_among f y (x ∷ xs) (inl is) = (x, inl refl, is)
mapped_among f y (x ∷ xs) (inr later) =
    let there = mapped_among f y xs later in (there.0, inr there.1, there.2)

pub among_map : {X Y : Type 0} (f : X → Y) (x : X) (xs : List X) → IsAmong x xs → IsAmong (f x) (map f xs)
among_map f x [] among = absurd among
among_map f x (y ∷ ys) (inl is) = inl (ap f is)
among_map f x (y ∷ ys) (inr later) = inr (among_map f x ys later)

-- of two lists behind one another
pub append_parts : {X : Type 0} (x : X) (xs ys : List X) → IsAmong x (xs ++ ys) → IsAmong x xs ⊎ IsAmong x ys
append_parts x [] ys among = inr among
append_parts x (y ∷ xs) ys (inl is) = inl (inl is)
append_parts x (y ∷ xs) ys (inr later) =
    elim (append_parts x xs ys later) [ inl here ↦ inl (inr here) | inr there ↦ inr there ]

-- an entry of a map with one more
pub with_among : {X : Type 0} (id : ℕ) (x : X) (es : Map X) (e : ℕ × X) → IsAmong e (with_entry id x es) →
    (e ≡ (id, x)) ⊎ IsAmong e es
with_among id x [] e (inl is) = inl is
with_among id x [] e (inr never) = absurd never
with_among {X} id x (f ∷ es) e among = by (nat_lt id f.0) (id == f.0) (with_among id x es e) among
  where
    by : (less same : Bool) → (IsAmong e (with_entry id x es) → (e ≡ (id, x)) ⊎ IsAmong e es) →
        IsAmong e (cond less ((id, x) ∷ f ∷ es) (cond same ((id, x) ∷ es) (f ∷ with_entry id x es))) →
        (e ≡ (id, x)) ⊎ IsAmong e (f ∷ es)
    by true same rest (inl is) = inl is
    by true same rest (inr later) = inr later
    by false true rest (inl is) = inl is
    by false true rest (inr later) = inr (inr later)
    by false false rest (inl is) = inr (inl is)
    by false false rest (inr later) = elim (rest later) [ inl is ↦ inl is | inr there ↦ inr (inr there) ]

-- ---- all elements

-- one that is found by a test has what all have, and passes
pub found_all : {X : Type 0} (P : X → Type 0) (test : X → Bool) (xs : List X) (x : X) → AllByRecursion P xs →
    find test xs ≡ Some x → P x × (test x ≡ true)
found_all P test [] x all found = absurd cc
found_all P test (y ∷ ys) x all found =
    elim (test y) as (λ b. test y ≡ b → cond b (Some y) (find test ys) ≡ Some x → P x × (test x ≡ true)) [
      | true ↦ λ passes here. let same : y ≡ x = cc in (subst P same all.0, ap test (sym same) ∙ passes)
      | false ↦ λ fails later. found_all P test ys x all.1 later
    ] refl found

pub among_behind : {X : Type 0} (x : X) (more xs : List X) → IsAmong x xs → IsAmong x (more ++ xs)
among_behind x [] xs among = among
among_behind x (y ∷ ys) xs among = inr (among_behind x ys xs among)

-- one that passes a test is among those of which some does
pub among_any : {X : Type 0} (test : X → Bool) (x : X) (xs : List X) → IsAmong x xs → test x ≡ true →
    list_any test xs ≡ true
among_any test x [] among passes = absurd among
among_any test x (y ∷ ys) (inl is) passes = ap (λ b. b || list_any test ys) (ap test (sym is) ∙ passes)
among_any test x (y ∷ ys) (inr later) passes = or_right (test y) (list_any test ys) (among_any test x ys later passes)

-- and where some does, there is one
pub any_among : {X : Type 0} (test : X → Bool) (xs : List X) → list_any test xs ≡ true →
    (x : X) × IsAmong x xs × (test x ≡ true)
any_among test [] passes = absurd (false≢true passes)
any_among {X = X} test (x ∷ xs) passes = by (test x) refl (any_among test xs) passes
  where
    by : (b : Bool) → test x ≡ b → (list_any test xs ≡ true → (y : X) × IsAmong y xs × (test y ≡ true)) →
        (b || list_any test xs) ≡ true → (y : X) × IsAmong y (x ∷ xs) × (test y ≡ true)
    by true is on some = (x, inl refl, is)
    by false is on some = let later = on some in (later.0, inr later.1, later.2)

-- ---- maps from ids

-- a look where an entry was put
pub entry-with : {X : Type 0} (q id : ℕ) (x : X) (es : Map X) →
    entry_at q (with_entry id x es) ≡ cond (q == id) (Some x) (entry_at q es)
entry-with q id x [] = refl
entry-with q id x (e ∷ es) = grind (arith, common_steps, entry-with q id x es)

pub number_with : (q id x : ℕ) (es : Map ℕ) → number_at q (with_entry id x es) ≡ cond (q == id) x (number_at q es)
number_with q id x es = ap (λ o. unwrap_or o 0) (entry-with q id x es) ∙ by (q == id)
  where
    by : (b : Bool) → unwrap_or (cond b (Some x) (entry_at q es)) 0 ≡ cond b x (number_at q es)
    by true = refl
    by false = refl

pub number_beside : (q id x : ℕ) (es : Map ℕ) → q ≢ id → number_at q (with_entry id x es) ≡ number_at q es
number_beside q id x es apart =
    number_with q id x es
    ∙ ap (λ b. cond b x (number_at q es)) (false_from_ne_true (q == id) (λ same. apart (eqb-true q id same)))

pub number_here : (id x : ℕ) (es : Map ℕ) → number_at id (with_entry id x es) ≡ x
number_here id x es = number_with id id x es ∙ ap (λ b. cond b x (number_at id es)) (eq-eqb id id refl)

-- the ids that are there, with one more
pub there-with : {X : Type 0} (q id : ℕ) (x : X) (es : Map X) →
    is_some (entry_at q (with_entry id x es)) ≡ (q == id || is_some (entry_at q es))
there-with q id x es = ap is_some (entry-with q id x es) ∙ by (q == id)
  where
    by : (b : Bool) → is_some (cond b (Some x) (entry_at q es)) ≡ (b || is_some (entry_at q es))
    by true = refl
    by false = refl

-- an entry at a new id is one more that passes a test, or does not
pub any-with : {X : Type 0} (test : ℕ × X → Bool) (id : ℕ) (x : X) (es : Map X) → is_some (entry_at id es) ≡ false →
    list_any test (with_entry id x es) ≡ (test (id, x) || list_any test es)
any-with test id x [] new = refl
any-with test id x (e ∷ es) new =
    by (any-with test id x es) (nat_lt id e.0) (id == e.0) new
  where
    swap : (a b c d : Bool) → d ≡ (a || c) → (b || d) ≡ (a || (b || c))
    swap true true c d is = refl
    swap true false c d is = is
    swap false b c d is = ap (λ t. b || t) is

    by : (is_some (entry_at id es) ≡ false → list_any test (with_entry id x es) ≡ (test (id, x) || list_any test es)) →
        (less same : Bool) → is_some (cond same (Some e.1) (entry_at id es)) ≡ false →
        list_any test (cond less ((id, x) ∷ e ∷ es) (cond same ((id, x) ∷ es) (e ∷ with_entry id x es)))
        ≡ (test (id, x) || list_any test (e ∷ es))
    by later true same new = refl
    by later false true new = absurd (true≢false new)
    by later false false new = swap (test (id, x)) (test e) (list_any test es) _ (later new)

-- an id that is there is there still
pub there_with : {X : Type 0} (q id : ℕ) (x : X) (es : Map X) → is_some (entry_at q es) ≡ true →
    is_some (entry_at q (with_entry id x es)) ≡ true
there_with q id x es is = there-with q id x es ∙ or_right (q == id) (is_some (entry_at q es)) is

pub there_here : {X : Type 0} (id : ℕ) (x : X) (es : Map X) → is_some (entry_at id (with_entry id x es)) ≡ true
there_here id x es = there-with id id x es ∙ ap (λ b. b || is_some (entry_at id es)) (eq-eqb id id refl)
