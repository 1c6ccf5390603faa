-- A tree's entries, with their keys as bytes, are a finite map's.
use Rattle.std.proofs.Common.{◌≡◌, ℕ, suc, Bool, true, false, cond, List, [], ◌∷◌, length, Option, None, T, refl}
use Rattle.std.proofs.Common.{true≢false, sym, ap, subst, ◌∙◌}
use Rattle.std.specs.Global.{Vec}
use Rattle.std.specs.declared.cmp.Ordering.{Ordering}
use Rattle.std.specs.declared.cmp.Ordering.TheVariants.{Less, Equal, Greater}
use Rattle.std.specs.Ordering.{nat_cmp, is_eq, match_ordering, ordering_reverse}
use Rattle.std.specs.Prelude.{not}
use Rattle.std.specs.Cmp.{alike_right}
use Rattle.std.specs.Cmp.Lexicographic.{slice_cmp, nat_list_cmp_total}
use Rattle.std.specs.Map.{lookup, remove_entry}
use Rattle.std.specs.BTreeMap.{insert_entry}
use Rattle.std.specs.FinMap.{get, insert, empty, entries, len, len-entries, empty_of_len, from_sorted, get-from_sorted}
use Rattle.std.specs.FinMap.{entries-from_sorted, entries-insert, same_entries_map, same_map, remove, get-remove}
use Rattle.std.specs.FinMap.{slice_cmp-IsAntisymmetric, nat_cmp-IsAntisymmetric}
use Rattle.std.specs.FinMap.Entries.{find, put, is_sorted, below_all, where_key, by_order, is_sorted-put}
use Rattle.std.specs.FinMap.Entries.{is_sorted-where_key, find-where_key}
use Rattle.slon_lemmas.proofs.Keys.{less_of}
use Rattle.slon_lemmas.proofs.Tests.{front_of, back_of}
use Rattle.slon_base.specs.Keeper.{key_cmp}
use Rattle.slon_base.specs.ByteMap.{pairs}

abbrev IsInOrder : {V : Type 0} → List (Vec ℕ × V) → Type 0
IsInOrder es = is_sorted key_cmp (pairs es) ≡ true

abbrev order_of : Vec ℕ → Vec ℕ → Ordering
order_of a b = slice_cmp nat_cmp a.items b.items

pub lookup-pairs : {V : Type 0} (q : List ℕ) (es : List (Vec ℕ × V)) →
    lookup (λ k. is_eq (slice_cmp nat_cmp q k.items)) es ≡ find key_cmp q (pairs es)
lookup-pairs q [] = refl
lookup-pairs q (e ∷ es) = ap (cond (is_eq (slice_cmp nat_cmp q e.0.items)) _) (lookup-pairs q es)

pub put-pairs : {V : Type 0} (k : Vec ℕ) (v : V) (es : List (Vec ℕ × V)) →
    pairs (insert_entry order_of es k v) ≡ put key_cmp k.items v (pairs es)
put-pairs k v [] = refl
put-pairs {V} k v (e ∷ es) =
    elim (slice_cmp nat_cmp k.items e.0.items) as (λ o. pairs (match_ordering o ((k, v) ∷ e ∷ es) ((e.0, v) ∷ es)
    (e ∷ insert_entry order_of es k v))
    ≡ by_order o ((k.items, v) ∷ (e.0.items, e.1) ∷ pairs es) ((e.0.items, v) ∷ pairs es)
    ((e.0.items, e.1) ∷ put key_cmp k.items v (pairs es))) [
      | Less ↦ refl
      | Equal ↦ refl
      | Greater ↦ ap (λ (rest : List (List ℕ × V)). (e.0.items, e.1) ∷ rest) (put-pairs k v es)
    ]

pub get_by-pairs : {V : Type 0} (q : List ℕ) (es : List (Vec ℕ × V)) → IsInOrder es →
    lookup (λ k. is_eq (slice_cmp nat_cmp q k.items)) es ≡ get (from_sorted {R = key_cmp} (pairs es)) q
get_by-pairs q es sorted = lookup-pairs q es ∙ sym (get-from_sorted key_cmp (pairs es) q (subst T (sym sorted) tt))

pub in_order-insert : {V : Type 0} (k : Vec ℕ) (v : V) (es : List (Vec ℕ × V)) → IsInOrder es →
    IsInOrder (insert_entry order_of es k v)
in_order-insert k v es sorted = ap (is_sorted key_cmp) (put-pairs k v es)
    ∙ true_from (is_sorted key_cmp (put key_cmp k.items v (pairs es)))
    (is_sorted-put key_cmp nat_list_cmp_total k.items v (pairs es) (subst T (sym sorted) tt))
  where
    true_from : (b : Bool) → T b → b ≡ true
    true_from true t = refl
    true_from false t = absurd t

pub from_sorted-insert : {V : Type 0} (k : Vec ℕ) (v : V) (es : List (Vec ℕ × V)) → IsInOrder es →
    from_sorted {R = key_cmp} (pairs (insert_entry order_of es k v)) ≡ insert (from_sorted (pairs es)) k.items v
from_sorted-insert k v es sorted =
    same_entries_map _ _ (entries-from_sorted key_cmp _ (subst T (sym (in_order-insert k v es sorted)) tt)
    ∙ put-pairs k v es
    ∙ ap (put key_cmp k.items v) (sym (entries-from_sorted key_cmp (pairs es) (subst T (sym sorted) tt)))
    ∙ sym (entries-insert nat_list_cmp_total (from_sorted (pairs es)) k.items v))

pub entries-pairs : {V : Type 0} (es : List (Vec ℕ × V)) → IsInOrder es →
    pairs es ≡ entries (from_sorted {R = key_cmp} (pairs es))
entries-pairs es sorted = sym (entries-from_sorted key_cmp (pairs es) (subst T (sym sorted) tt))

pub len-pairs : {V : Type 0} (es : List (Vec ℕ × V)) → IsInOrder es →
    length es ≡ len (from_sorted {R = key_cmp} (pairs es))
len-pairs {V} es sorted = length-pairs es ∙ ap length (entries-pairs es sorted)
    ∙ sym (len-entries (from_sorted {R = key_cmp} (pairs es)))
  where
    length-pairs : (es : List (Vec ℕ × V)) → length es ≡ length (pairs es)
    length-pairs [] = refl
    length-pairs (e ∷ es) = ap suc (length-pairs es)

pub from_sorted-none : {V : Type 0} → from_sorted {X = V} {R = key_cmp} [] ≡ empty
from_sorted-none {V} = empty_of_len _ (len-entries (from_sorted {X = V} {R = key_cmp} [])
    ∙ ap length (entries-from_sorted {X = V} key_cmp [] tt))

-- ---- a key taken away

-- all these keys are greater, and stay
all_stay : {V : Type 0} (q first : List ℕ) (es : List (List ℕ × V)) → key_cmp q first ≡ Equal →
    T (below_all key_cmp first es) → where_key key_cmp (λ x. not (is_eq (key_cmp q x))) es ≡ es
all_stay q first [] same below = refl
all_stay {V} q first (e ∷ es) same below =
    ap (λ o. cond (not (is_eq o)) (e ∷ where_key key_cmp (λ x. not (is_eq (key_cmp q x))) es)
    (where_key key_cmp (λ x. not (is_eq (key_cmp q x))) es)) (nat_list_cmp_total.congr q first e.0 same
    ∙ less_of (key_cmp first e.0) (front_of _ _ below))
    ∙ ap (λ (rest : List (List ℕ × V)). e ∷ rest) (all_stay q first es same (back_of _ _ below))

removed-pairs : {V : Type 0} (q : List ℕ) (es : List (Vec ℕ × V)) → T (is_sorted key_cmp (pairs es)) →
    pairs (remove_entry (λ k. is_eq (slice_cmp nat_cmp q k.items)) es) ≡ where_key key_cmp
    (λ x. not (is_eq (key_cmp q x))) (pairs es)
removed-pairs q [] sorted = refl
removed-pairs {V} q (e ∷ es) sorted =
    elim (key_cmp q e.0.items) as (λ o. key_cmp q e.0.items ≡ o →
    pairs (cond (is_eq o) es (e ∷ remove_entry (λ k. is_eq (slice_cmp nat_cmp q k.items)) es))
    ≡ cond (not (is_eq o)) ((e.0.items, e.1) ∷ where_key key_cmp (λ x. not (is_eq (key_cmp q x))) (pairs es))
    (where_key key_cmp (λ x. not (is_eq (key_cmp q x))) (pairs es))) [
      | Less ↦ λ is. ap (λ (rest : List (List ℕ × V)). (e.0.items, e.1) ∷ rest)
          (removed-pairs q es (back_of _ _ sorted))
      | Equal ↦ λ is. sym (all_stay q e.0.items (pairs es) is (front_of _ _ sorted))
      | Greater ↦ λ is. ap (λ (rest : List (List ℕ × V)). (e.0.items, e.1) ∷ rest)
          (removed-pairs q es (back_of _ _ sorted))
    ] refl

pub in_order-remove : {V : Type 0} (q : List ℕ) (es : List (Vec ℕ × V)) → IsInOrder es →
    IsInOrder (remove_entry (λ k. is_eq (slice_cmp nat_cmp q k.items)) es)
in_order-remove q es sorted = ap (is_sorted key_cmp) (removed-pairs q es (subst T (sym sorted) tt))
    ∙ true_from _ (is_sorted-where_key key_cmp (λ x. not (is_eq (key_cmp q x))) (pairs es) (subst T (sym sorted) tt))
  where
    true_from : (b : Bool) → T b → b ≡ true
    true_from true t = refl
    true_from false t = absurd t

pub from_sorted-remove : {V : Type 0} (q : List ℕ) (es : List (Vec ℕ × V)) → IsInOrder es →
    from_sorted {R = key_cmp} (pairs (remove_entry (λ k. is_eq (slice_cmp nat_cmp q k.items)) es)) ≡ remove
    (from_sorted (pairs es)) q
from_sorted-remove {V} q es sorted =
    same_map nat_list_cmp_total same_keys _ _ (λ x.
    get-from_sorted key_cmp _ x (subst T (sym (in_order-remove q es sorted)) tt)
    ∙ ap (find key_cmp x) (removed-pairs q es (subst T (sym sorted) tt))
    ∙ find-where_key key_cmp (λ k. not (is_eq (key_cmp q k))) x (λ k same. ap (λ o. not (is_eq o))
    (sym (alike_right nat_list_cmp_total x k q same))) (pairs es)
    ∙ turned (is_eq (key_cmp q x)) (is_eq (key_cmp x q)) (symmetric q x) (find key_cmp x (pairs es))
    ∙ ap (cond (is_eq (key_cmp x q)) None) (sym (get-from_sorted key_cmp (pairs es) x (subst T (sym sorted) tt)))
    ∙ sym (get-remove nat_list_cmp_total (from_sorted (pairs es)) q x))
  where
    same_keys : (x y : List ℕ) → key_cmp x y ≡ Equal → x ≡ y
    same_keys = slice_cmp-IsAntisymmetric nat_cmp-IsAntisymmetric

    turned : (a b : Bool) → a ≡ b → (o : Option V) → cond (not a) o None ≡ cond b None o
    turned true true is o = refl
    turned false false is o = refl
    turned true false is o = absurd (true≢false is)
    turned false true is o = absurd (true≢false (sym is))

    symmetric : (a b : List ℕ) → is_eq (key_cmp a b) ≡ is_eq (key_cmp b a)
    symmetric a b = ap is_eq (nat_list_cmp_total.antisymm a b) ∙ reversed (key_cmp b a)
      where
        reversed : (o : Ordering) → is_eq (ordering_reverse o) ≡ is_eq o
        reversed Less = refl
        reversed Equal = refl
        reversed Greater = refl
