-- Maps of ids with one entry changed.
use Rattle.std.proofs.Common.{◌≡◌, ℕ, Bool, true, false, cond, [], ◌∷◌, ◌++◌, Option, Some, None, refl, sym, ap, ◌∙◌}
use Rattle.std.proofs.Common.{arith, unwrap_or, option_map, is_some}
use Rattle.std.specs.Prelude.{◌==◌, nat_lt, not}
use Rattle.std.proofs.lemmas.Bool.{false≢true}
use Rattle.std.proofs.lemmas.Grind.{common_steps}
use Rattle.slon_base.specs.Codec.{number_bytes}
use Rattle.slon_base.proofs.Spelled.{number_front}
use Rattle.store_rows.specs.Rows.{IsId}
use Rattle.store_rows.specs.Space.{Alters}
use Rattle.slon_model.specs.Maps.{Map, Map2, entry_at, with_entry, without_entry, row_at, pair_at}
use Rattle.set_config.specs.Holds.{AreIds, pair_key}

-- ---- tests

pub eq_of : (a b : ℕ) → (a == b) ≡ true → a ≡ b
eq_of a b is = grind (arith, common_steps)

pub self_eq : (a : ℕ) → (a == a) ≡ true
self_eq a = grind (arith, common_steps)

pub not_eq : (a b : ℕ) → (a ≡ b → ⊥) → (a == b) ≡ false
not_eq a b differ = elim (a == b) as (λ t. (a == b) ≡ t → t ≡ false) [
  | true ↦ λ is. absurd (differ (eq_of a b is))
  | false ↦ λ is. refl
] refl

pub twice : {A : Type 0} (b : Bool) (x y z : A) → cond b x z ≡ cond b x (cond b y z)
twice true x y z = refl
twice false x y z = refl

swapped : {A : Type 0} (b d : Bool) (x y z : A) → (b ≡ true → d ≡ true → ⊥) →
    cond d y (cond b x z) ≡ cond b x (cond d y z)
swapped true true x y z never = absurd (never refl refl)
swapped true false x y z never = refl
swapped false d x y z never = refl

-- ---- entries

-- what is seen at an id behind the first entry, where another id has this now
abbrev seen : {X : Type 0} → ℕ → ℕ → Option X → ℕ × X → Map X → Option X
seen q id now e es = cond (q == id) now (cond (q == e.0) (Some e.1) (entry_at q es))

-- the first entry is at the id
first_seen : {X : Type 0} (q id : ℕ) (now : Option X) (e : ℕ × X) (es : Map X) → (id == e.0) ≡ true →
    cond (q == id) now (entry_at q es) ≡ seen q id now e es
first_seen q id now e es is =
    twice (q == id) now (Some e.1) (entry_at q es)
    ∙ ap (λ k. cond (q == id) now (cond (q == k) (Some e.1) (entry_at q es))) (eq_of id e.0 is)

-- the first entry is at another id
other_seen : {X : Type 0} (q id : ℕ) (now : Option X) (e : ℕ × X) (es : Map X) → (id == e.0) ≡ false →
    cond (q == e.0) (Some e.1) (cond (q == id) now (entry_at q es)) ≡ seen q id now e es
other_seen q id now e es is =
    swapped (q == id) (q == e.0) now (Some e.1) (entry_at q es)
    (λ one two. false≢true (sym is ∙ ap (λ k. k == e.0) (sym (eq_of q id one)) ∙ two))

-- a look where an entry was put
pub entry-with : {X : Type 0} (q id : ℕ) (x : X) (es : Map X) →
    entry_at q (with_entry id x es) ≡ cond (q == id) (Some x) (entry_at q es)
entry-with q id x [] = refl
entry-with q id x (e ∷ es) =
    elim (nat_lt id e.0) as (λ b. entry_at q (cond b ((id, x) ∷ e ∷ es)
    (cond (id == e.0) ((id, x) ∷ es) (e ∷ with_entry id x es))) ≡ seen q id (Some x) e es) [
      | true ↦ refl
      | false ↦ elim (id == e.0) as (λ b. (id == e.0) ≡ b →
          entry_at q (cond b ((id, x) ∷ es) (e ∷ with_entry id x es)) ≡ seen q id (Some x) e es) [
            | true ↦ λ is. first_seen q id (Some x) e es is
            | false ↦ λ is. ap (cond (q == e.0) (Some e.1)) (entry-with q id x es) ∙ other_seen q id (Some x) e es is
          ] refl
    ]

-- a look where an entry was taken away
pub entry-without : {X : Type 0} (q id : ℕ) (es : Map X) →
    entry_at q (without_entry id es) ≡ cond (q == id) None (entry_at q es)
entry-without {X} q id [] = none_both None (q == id)
  where
    none_both : (o : Option X) (b : Bool) → o ≡ cond b o o
    none_both o true = refl
    none_both o false = refl
entry-without q id (e ∷ es) =
    elim (id == e.0) as (λ b. (id == e.0) ≡ b →
    entry_at q (cond (not b) (e ∷ without_entry id es) (without_entry id es)) ≡ seen q id None e es) [
      | true ↦ λ is. entry-without q id es ∙ first_seen q id None e es is
      | false ↦ λ is. ap (cond (q == e.0) (Some e.1)) (entry-without q id es) ∙ other_seen q id None e es is
    ] refl

-- one entry is changed, and the others are not
pub alters_one : {X : Type 0} (id : ℕ) (now : Option X) (old new : Map X) →
    ((q : ℕ) → entry_at q new ≡ cond (q == id) now (entry_at q old)) →
    Alters IsId id now (λ q. entry_at q old) (λ q. entry_at q new)
alters_one id now old new look = record {
  here = look id ∙ ap (λ b. cond b now (entry_at id old)) (self_eq id);
  there = λ j one differ. look j ∙ ap (λ b. cond b now (entry_at j old)) (not_eq j id differ);
}

-- a row of a map of maps that was put
pub row-with : {X : Type 0} (q first : ℕ) (row : Map X) (m : Map2 X) →
    row_at q (with_entry first row m) ≡ cond (q == first) row (row_at q m)
row-with q first row m =
    ap (λ o. unwrap_or o []) (entry-with q first row m)
    ∙ elim (q == first) as (λ b. unwrap_or (cond b (Some row) (entry_at q m)) [] ≡ cond b row (row_at q m)) [
      | true ↦ refl
      | false ↦ refl
    ]

-- one pair is changed, and the others are not
pub alters_pair : {X : Type 0} (i : ℕ × ℕ) (now : Option X) (row : Map X) (m : Map2 X) →
    ((q : ℕ) → entry_at q row ≡ cond (q == i.1) now (pair_at i.0 q m)) →
    Alters AreIds i now (λ j. pair_at j.0 j.1 m) (λ j. pair_at j.0 j.1 (with_entry i.0 row m))
alters_pair i now row m look = record {
  here =
      ap (entry_at i.1) (row-with i.0 i.0 row m ∙ ap (λ b. cond b row (row_at i.0 m)) (self_eq i.0)) ∙ look i.1
      ∙ ap (λ b. cond b now (pair_at i.0 i.1 m)) (self_eq i.1);
  there = λ j one differ. ap (entry_at j.1) (row-with j.0 i.0 row m)
      ∙ elim (j.0 == i.0) as (λ b. (j.0 == i.0) ≡ b →
      entry_at j.1 (cond b row (row_at j.0 m)) ≡ pair_at j.0 j.1 m) [
        | true ↦ λ is. look j.1
            ∙ ap (λ b. cond b now (pair_at i.0 j.1 m))
            (not_eq j.1 i.1 (λ same. differ (λ k. (eq_of j.0 i.0 is k, same k))))
            ∙ ap (λ f. pair_at f j.1 m) (sym (eq_of j.0 i.0 is))
        | false ↦ λ is. refl
      ] refl;
}

-- ---- keys

-- a key is spelled by one id, or by one pair of ids
pub id_unique : (a b : ℕ) → IsId a → IsId b → number_bytes a ≡ number_bytes b → a ≡ b
id_unique a b one two is = (number_front a b [] [] (omega (arith, one.1)) (omega (arith, two.1))
    (ap (λ l. l ++ []) is)).0

pub pair_unique : (a b : ℕ × ℕ) → AreIds a → AreIds b → pair_key a ≡ pair_key b → a ≡ b
pair_unique a b one two is =
    let parts = number_front a.0 b.0 (number_bytes a.1) (number_bytes b.1) (omega (arith, one.0.1))
    (omega (arith, two.0.1)) is in
    let back = id_unique a.1 b.1 one.1 two.1 parts.1 in
    λ k. (parts.0 k, back k)

-- what is spelled stands where something does
pub some_mapped : {X Y : Type 0} (f : X → Y) (o : Option X) → is_some (option_map f o) ≡ is_some o
some_mapped f None = refl
some_mapped f (Some x) = refl
