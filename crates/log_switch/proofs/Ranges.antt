-- The pairs of a space that come after a key and have a prefix.
use Rattle.std.proofs.Common.{◌≡◌, ℕ, true, false, cond, T, List, [], ◌∷◌, ◌++◌, length, Some, refl, sym, ap}
use Rattle.std.proofs.Common.{◌∙◌}
use Rattle.std.specs.Prelude.{nat_eq}
use Rattle.std.specs.List.{starts_with}
use Rattle.std.specs.Cmp.Lexicographic.{nat_list_cmp_total}
use Rattle.std.specs.Ordering.{is_eq, is_lt, ordering_reverse}
use Rattle.std.specs.declared.cmp.Ordering.TheVariants.{Less, Greater}
use Rattle.std.specs.FinMap.{get, entries, entries_sorted, get-entries}
use Rattle.std.specs.FinMap.Entries.{find, is_sorted, below_all}
use Rattle.std.proofs.lemmas.List.{take_at}
use Rattle.std.proofs.lemmas.Slice.Eq.{bytes_eq-Decides}
use Rattle.slon_base.specs.Codec.{AllAre}
use Rattle.slon_base.specs.Keeper.{Space, key_cmp, after}
use Rattle.slon_base.proofs.Order.{Entries, tied, less_of, front_of, back_of, find-after}
use Rattle.store_rows.specs.Scan.{ranged}
use Rattle.store_rows.proofs.Listing.{after_sorted, after_below, find-ranged}

-- ---- all are found at their keys

abbrev AreFound : Entries → Entries → Type 0
AreFound es all = AllAre (λ e. find key_cmp e.0 all ≡ Some e.1) es

past_key : (e : List ℕ × List ℕ) (es fs : Entries) → T (below_all key_cmp e.0 fs) → AreFound fs es →
    AreFound fs (e ∷ es)
past_key e es [] below found = tt
past_key e es (f ∷ fs) below found =
    let less = less_of (key_cmp e.0 f.0) (front_of _ _ below) in
    let greater : key_cmp f.0 e.0 ≡ Greater =
    nat_list_cmp_total.antisymm f.0 e.0 ∙ ap ordering_reverse less in (
      ap (λ o. cond (is_eq o) (Some e.1) (find key_cmp f.0 es)) greater ∙ found.0,
      past_key e es fs (back_of _ _ below) found.1,
    )

all_found : (es : Entries) → T (is_sorted key_cmp es) → AreFound es es
all_found [] sorted = tt
all_found (e ∷ es) sorted = (
  ap (λ b. cond b (Some e.1) (find key_cmp e.0 es)) (tied e.0),
  past_key e es es (front_of _ _ sorted) (all_found es (back_of _ _ sorted)),
)

all_after : (P : List ℕ × List ℕ → Type 0) (at : List ℕ) (es : Entries) → AllAre P es → AllAre P (after at es)
all_after P at [] all = tt
all_after P at (e ∷ es) all = elim (is_lt (key_cmp at e.0)) as (λ b. AllAre P (cond b (e ∷ es) (after at es))) [
  | true ↦ all
  | false ↦ all_after P at es all.1
]

pub all_ranged : (P : List ℕ × List ℕ → Type 0) (prefix : List ℕ) (es : Entries) → AllAre P es →
    AllAre P (ranged prefix es)
all_ranged P prefix [] all = tt
all_ranged P prefix (e ∷ es) all =
    elim (starts_with nat_eq e.0 prefix) as (λ b. AllAre P (cond b (e ∷ ranged prefix es) [])) [
      | true ↦ (all.0, all_ranged P prefix es all.1)
      | false ↦ tt
    ]

-- ---- looks

-- a look for a key with the front in the range is one in the space
pub has_front : (p y : List ℕ) → starts_with nat_eq (p ++ y) p ≡ true
has_front p y = (bytes_eq-Decides p _).1 (sym (take_at p y (length p) refl))

pub find_in : (p r y : List ℕ) (space : Space) → key_cmp (p ++ r) (p ++ y) ≡ Less →
    find key_cmp (p ++ y) (ranged p (after (p ++ r) (entries space))) ≡ get space (p ++ y)
find_in p r y space less =
    find-ranged p r (p ++ y) (after (p ++ r) (entries space))
    (after_sorted (p ++ r) (entries space) (entries_sorted space))
    (after_below (p ++ r) (entries space) (entries_sorted space)) (has_front p y)
    ∙ find-after (p ++ y) (p ++ r) (entries space) less
    ∙ sym (get-entries space (p ++ y))

-- what ascends behind a key comes after it
pub below_each : (k : List ℕ) (es : Entries) → T (below_all key_cmp k es) → AllAre (λ e. key_cmp k e.0 ≡ Less) es
below_each k [] below = tt
below_each k (e ∷ es) below = (less_of _ (front_of _ _ below), below_each k es (back_of _ _ below))

there_all : (space : Space) (es : Entries) → AreFound es (entries space) → AllAre (λ e. get space e.0 ≡ Some e.1) es
there_all space [] found = tt
there_all space (e ∷ es) found = (get-entries space e.0 ∙ found.0, there_all space es found.1)

-- all in a range stand in the space
pub all_there : (prefix at : List ℕ) (space : Space) →
    AllAre (λ e. get space e.0 ≡ Some e.1) (ranged prefix (after at (entries space)))
all_there prefix at space =
    let all = entries space in
    let P : List ℕ × List ℕ → Type 0 = λ e. find key_cmp e.0 all ≡ Some e.1 in
    there_all space (ranged prefix (after at all))
    (all_ranged P prefix (after at all) (all_after P at all (all_found all (entries_sorted space))))
