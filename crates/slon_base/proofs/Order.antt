-- The entries of a space in the order of their keys.
use Rattle.std.proofs.Common.{◌≡◌, ℕ, ◌<◌, Bool, true, false, cond, T, List, [], ◌∷◌, ◌++◌, length, take, drop, Some}
use Rattle.std.proofs.Common.{None, refl, sym, ap, subst, ◌∙◌, arith}
use Rattle.std.proofs.lemmas.Bool.{false≢true, eq-eqb}
use Rattle.std.proofs.lemmas.List.{take-append-drop}
use Rattle.std.proofs.lemmas.Slice.Eq.{bytes_eq-Decides}
use Rattle.std.specs.Prelude.{nat_eq, ◌&&◌}
use Rattle.std.specs.declared.cmp.Ordering.{Ordering}
use Rattle.std.specs.declared.cmp.Ordering.TheVariants.{Less, Equal, Greater}
use Rattle.std.specs.Ordering.{nat_cmp, is_lt, is_eq, ordering_then}
use Rattle.std.specs.Cmp.{nat_cmp_total, tied_itself, alike_right}
use Rattle.std.specs.Cmp.Lexicographic.{nat_list_cmp_total}
use Rattle.std.specs.FinMap.{nat_cmp-IsAntisymmetric}
use Rattle.std.specs.FinMap.Entries.{find, is_sorted, below_all}
use Rattle.slon_base.specs.Keeper.{key_cmp, after}
use lib.Pointwise.{pointwise}
pub use Rattle.slon_lemmas.proofs.Keys.{same_keys, equal_of, less_of, apart, tied}
pub use Rattle.slon_lemmas.proofs.Tests.{front_of, back_of}

abbrev pub Entries : Type 0
Entries = List (List ℕ × List ℕ)

-- the test of a key against another, by their order
not_eq_of_less : {o : Ordering} → o ≡ Less → is_eq o ≡ false
not_eq_of_less is = ap is_eq is

-- what follows a prefix is greater than the prefix
pub behind : (p y : List ℕ) → 0 < length y → key_cmp p (p ++ y) ≡ Less
behind [] [] some = absurd (omega arith)
behind [] (y ∷ ys) some = refl
behind (x ∷ p) y some = ap (λ o. ordering_then o (key_cmp p (p ++ y))) (tied_itself nat_cmp_total x) ∙ behind p y some

-- a step past an entry with another key
pub past : {V : Type 0} (q : List ℕ) (e : List ℕ × V) (es : List (List ℕ × V)) → is_eq (key_cmp q e.0) ≡ false →
    find key_cmp q (e ∷ es) ≡ find key_cmp q es
past q e es other = ap (λ b. cond b (Some e.1) (find key_cmp q es)) other

-- a greater key is found behind
pub find-after : (q at : List ℕ) (es : Entries) → key_cmp at q ≡ Less → find key_cmp q (after at es) ≡ find key_cmp q es
find-after q at [] less = refl
find-after q at (e ∷ es) less =
    elim (is_lt (key_cmp at e.0)) as (λ b. is_lt (key_cmp at e.0) ≡ b → find key_cmp q
    (cond b (e ∷ es) (after at es)) ≡ find key_cmp q (e ∷ es)) [
      | true ↦ λ is. refl
      | false ↦ λ is. find-after q at es less ∙ sym (past q e es (other is))
    ] refl
  where
    decide : (b : Bool) → (b ≡ true → ⊥) → b ≡ false
    decide true unless = absurd (unless refl)
    decide false unless = refl

    other : is_lt (key_cmp at e.0) ≡ false → is_eq (key_cmp q e.0) ≡ false
    other is =
        decide _ (λ tied. false≢true (sym is ∙ ap is_lt (sym (alike_right nat_list_cmp_total q e.0 at (equal_of _ tied))
        ∙ less)))

-- a key before all of these is not among them
pub find_none : {V : Type 0} (q first : List ℕ) (es : List (List ℕ × V)) → ((g : List ℕ) → key_cmp first g ≡ Less →
    key_cmp q g ≡ Less) → T (below_all key_cmp first es) → find key_cmp q es ≡ None
find_none q first [] before sorted = refl
find_none q first (e ∷ es) before sorted =
    past q e es (not_eq_of_less (before e.0 (less_of _ (front_of _ _ sorted)))) ∙ find_none q first es before
    (back_of _ _ sorted)

-- a key before the first of the entries is not among them
pub find_before : (q : List ℕ) (e : List ℕ × List ℕ) (es : Entries) → key_cmp q e.0 ≡ Less →
    T (is_sorted key_cmp (e ∷ es)) → find key_cmp q (e ∷ es) ≡ None
find_before q e es less sorted =
    past q e es (not_eq_of_less less) ∙ find_none q e.0 es (λ g below. nat_list_cmp_total.trans q e.0 g less below)
    (front_of _ _ sorted)

-- all these entries have greater keys
after_all : (first : List ℕ) (es : Entries) → T (below_all key_cmp first es) → after first es ≡ es
after_all first [] sorted = refl
after_all first (e ∷ es) sorted = ap (λ o. cond (is_lt o) (e ∷ es) (after first es)) (less_of _ (front_of _ _ sorted))

-- the entry that comes next is found at its key, and behind it comes the rest
pub after-next : (at : List ℕ) (all : Entries) (e : List ℕ × List ℕ) (es : Entries) → T (is_sorted key_cmp all) →
    after at all ≡ e ∷ es →
    (find key_cmp e.0 all ≡ Some e.1) × (after e.0 all ≡ es) × T (is_sorted key_cmp (e ∷ es)) × (key_cmp at e.0 ≡ Less)
after-next at [] e es sorted is = absurd cc
after-next at (f ∷ fs) e es sorted is =
    elim (is_lt (key_cmp at f.0)) as (λ b. is_lt (key_cmp at f.0) ≡ b → cond b (f ∷ fs) (after at fs) ≡ e ∷ es →
    Next at (f ∷ fs) e es) [
      | true ↦ λ below found. here below found
      | false ↦ λ not_below found. later (after-next at fs e es (back_of _ _ sorted) found)
    ] refl is
  where
    Next : List ℕ → Entries → List ℕ × List ℕ → Entries → Type 0
    Next at all e es = (find key_cmp e.0 all ≡ Some e.1) × (after e.0 all ≡ es) × T (is_sorted key_cmp (e ∷ es))
        × (key_cmp at e.0 ≡ Less)

    t_of : (b : Bool) → b ≡ true → T b
    t_of b is = subst T (sym is) tt

    at_first : (is_lt (key_cmp at f.0) ≡ true) → Next at (f ∷ fs) f fs
    at_first below = (
      ap (λ o. cond (is_eq o) (Some f.1) (find key_cmp f.0 fs)) (tied_itself nat_list_cmp_total f.0),
      ap (λ o. cond (is_lt o) (f ∷ fs) (after f.0 fs)) (tied_itself nat_list_cmp_total f.0) ∙ after_all f.0 fs
          (front_of _ _ sorted),
      sorted,
      less_of _ (t_of _ below),
    )

    here : (is_lt (key_cmp at f.0) ≡ true) → f ∷ fs ≡ e ∷ es → Next at (f ∷ fs) e es
    here below found =
        let head : f ≡ e = cc in
        let tail : fs ≡ es = cc in
        subst (λ (p : (List ℕ × List ℕ) × Entries). Next at (f ∷ fs) p.0 p.1) (λ i. (head i, tail i)) (at_first below)

    none_is_no : find key_cmp e.0 fs ≡ Some e.1 → find key_cmp e.0 fs ≡ None → ⊥
    none_is_no some none = let bad : Some e.1 ≡ None = sym some ∙ none in absurd cc

    later : Next at fs e es → Next at (f ∷ fs) e es
    later n =
        elim (key_cmp e.0 f.0) as (λ o. key_cmp e.0 f.0 ≡ o → Next at (f ∷ fs) e es) [
          | Less ↦ λ less. absurd
              (none_is_no n.0 (find_none e.0 f.0 fs (λ g below. nat_list_cmp_total.trans e.0 f.0 g less below)
              (front_of _ _ sorted)))
          | Equal ↦ λ tied. absurd
              (none_is_no n.0 (find_none e.0 f.0 fs (λ g below. nat_list_cmp_total.congr e.0 f.0 g tied ∙ below)
              (front_of _ _ sorted)))
          | Greater ↦ λ greater. (
            past e.0 f fs (ap is_eq greater) ∙ n.0,
            ap (λ o. cond (is_lt o) (f ∷ fs) (after e.0 fs)) greater ∙ n.1,
            n.2,
            n.3,
          )
        ] refl

-- what is greater than a key with the prefix and lacks the prefix is greater than all that have it
pub past_prefix : (p r y e : List ℕ) → key_cmp (p ++ r) e ≡ Less → pointwise nat_eq p (take (length p) e) ≡ false →
    key_cmp (p ++ y) e ≡ Less
past_prefix [] r y e less lacks = absurd (false≢true (sym lacks))
past_prefix (x ∷ p) r y [] less lacks = let bad : Greater ≡ Less = less in absurd cc
past_prefix (x ∷ p) r y (c ∷ e) less lacks =
    elim (nat_cmp x c) as (λ o. nat_cmp x c ≡ o → ordering_then o (key_cmp (p ++ r) e) ≡ Less → ordering_then o
    (key_cmp (p ++ y) e) ≡ Less) [
      | Less ↦ λ is below. refl
      | Equal ↦ λ is below. past_prefix p r y e below (lacks_behind (nat_cmp-IsAntisymmetric x c is))
      | Greater ↦ λ is below. let bad : Greater ≡ Less = below in absurd cc
    ] refl less
  where
    lacks_behind : x ≡ c → pointwise nat_eq p (take (length p) e) ≡ false
    lacks_behind same = ap (λ b. b && pointwise nat_eq p (take (length p) e)) (sym (eq-eqb x c same)) ∙ lacks

-- a key with the prefix is the prefix and what follows it
pub prefixed : (p key : List ℕ) → pointwise nat_eq p (take (length p) key) ≡ true → key ≡ p ++ drop (length p) key
prefixed p key is =
    sym (take-append-drop (length p) key) ∙ ap (λ front. front ++ drop (length p) key)
    (sym ((bytes_eq-Decides p (take (length p) key)).0 is))
