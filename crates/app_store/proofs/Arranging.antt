-- Rows that were sorted by their keys are the entries of the map that has them.
use Rattle.std.proofs.Common.{◌≡◌, ℕ, suc, ◌≤◌, ◌<◌, Bool, true, false, cond, not, T, List, [], ◌∷◌, length, get_or}
use Rattle.std.proofs.Common.{Option, Some, None, refl, sym, ap, subst, ◌∙◌, arith}
use Rattle.std.specs.Prelude.{◌&&◌}
use Rattle.std.specs.List.{filter}
use Rattle.std.specs.List.Sorted.{ties, IsStableBy}
use Rattle.std.specs.Ordering.{is_eq, is_lt, ordering_reverse}
use Rattle.std.specs.declared.cmp.Ordering.{Ordering}
use Rattle.std.specs.declared.cmp.Ordering.TheVariants.{Less, Equal, Greater}
use Rattle.std.specs.Cmp.Lexicographic.{nat_list_cmp_total}
use Rattle.std.specs.FinMap.{get, entries, from_sorted, get-from_sorted, entries-from_sorted, same_map}
use Rattle.std.specs.FinMap.Entries.{find, is_sorted, below_all}
use Rattle.std.proofs.lemmas.Bool.{false≢true}
use Rattle.std.proofs.lemmas.List.Sorted.{sorted_far, ranks_by}
use Rattle.slon_base.specs.Keeper.{key_cmp}
use Rattle.slon_base.proofs.Order.{same_keys, tied}
use Rattle.slon_model.specs.Rows.{Row, Rows}
use Rattle.app_store.specs.Scan.{row_before, AreArranged}

abbrev pub Listed : Type 0
Listed = List (List ℕ × Row)

-- rows tie where they have one key
tied_test : (x e : List ℕ × Row) → ties row_before x e ≡ is_eq (key_cmp x.0 e.0)
tied_test x e = ap (λ o. not (is_lt (key_cmp x.0 e.0)) && not (is_lt o)) (nat_list_cmp_total.antisymm e.0 x.0)
    ∙ either (key_cmp x.0 e.0)
  where
    either : (o : Ordering) → (not (is_lt o) && not (is_lt (ordering_reverse o))) ≡ is_eq o
    either Less = refl
    either Equal = refl
    either Greater = refl

-- the value of the first
abbrev value_of : Listed → Option Row
value_of [] = None
value_of (e ∷ es) = Some e.1

pub find-tied : (x : List ℕ × Row) (es : Listed) →
    find key_cmp x.0 es ≡ value_of (filter (ties row_before x) es)
find-tied x [] = refl
find-tied x (e ∷ es) = ap (cond (is_eq (key_cmp x.0 e.0)) (Some e.1)) (find-tied x es) ∙ pick (is_eq (key_cmp x.0 e.0))
    ∙ ap (λ b. value_of (cond b (e ∷ others) others)) (sym (tied_test x e))
  where
    others : Listed
    others = filter (ties row_before x) es

    pick : (b : Bool) → cond b (Some e.1) (value_of (filter (ties row_before x) es)) ≡ value_of (cond b
        (e ∷ filter (ties row_before x) es) (filter (ties row_before x) es))
    pick true = refl
    pick false = refl

-- no two of the rows have one key
abbrev pub AreAlone : Listed → Type 0
AreAlone rows = (x : List ℕ × Row) → length (filter (ties row_before x) rows) ≤ 1

-- none of these comes before the row
abbrev NoneBefore : List ℕ × Row → Listed → Type 0
NoneBefore x [] = Unit {0}
NoneBefore x (y ∷ ys) = (row_before y x ≡ false) × NoneBefore x ys

abbrev Ascend : Listed → Type 0
Ascend [] = Unit {0}
Ascend (x ∷ xs) = NoneBefore x xs × Ascend xs

none_before_of : (x : List ℕ × Row) (xs : Listed) → ((k : ℕ) → k < length xs → row_before (get_or xs k x) x ≡ false) →
    NoneBefore x xs
none_before_of x [] each = tt
none_before_of x (y ∷ ys) each = (each 0 (omega arith), none_before_of x ys (λ k below. each (suc k) (omega arith)))

ascend_of : (xs : Listed) → ((i j : ℕ) (d : List ℕ × Row) → i ≤ j → j < length xs →
    row_before (get_or xs j d) (get_or xs i d) ≡ false) → Ascend xs
ascend_of [] each = tt
ascend_of (x ∷ xs) each = (
  none_before_of x xs (λ k below. each 0 (suc k) x (omega arith) (omega arith)),
  ascend_of xs (λ i j d le below. each (suc i) (suc j) d (omega arith) (omega arith)),
)

-- one row more leaves no fewer
fewer : (p : List ℕ × Row → Bool) (y : List ℕ × Row) (ys : Listed) → length (filter p ys) ≤ length (filter p (y ∷ ys))
fewer p y ys = elim (p y) as (λ b. length (filter p ys) ≤ length (cond b (y ∷ filter p ys) (filter p ys))) [
  | true ↦ omega arith
  | false ↦ omega arith
]

both : (a b : Bool) → T a → T b → T (a && b)
both true b s t = t
both false b s t = absurd s

-- a row of the same key is counted
one_tied : (x y : List ℕ × Row) (ys : Listed) → is_eq (key_cmp x.0 y.0) ≡ true →
    length (filter (ties row_before x) (y ∷ ys)) ≡ suc (length (filter (ties row_before x) ys))
one_tied x y ys is = let others = filter (ties row_before x) ys in
    ap (λ b. length (cond b (y ∷ others) others)) (tied_test x y ∙ is)

front_below : (x : List ℕ × Row) (xs : Listed) → NoneBefore x xs → length (filter (ties row_before x) xs) ≤ 0 →
    T (below_all key_cmp x.0 xs)
front_below x [] none few = tt
front_below x (y ∷ ys) none few =
    elim (key_cmp x.0 y.0) as (λ o. key_cmp x.0 y.0 ≡ o → T (is_lt (key_cmp x.0 y.0) && below_all key_cmp x.0 ys)) [
      | Less ↦ λ is. both _ _ (subst T (sym (ap is_lt is)) tt)
          (front_below x ys none.1 (omega (arith, few, fewer (ties row_before x) y ys)))
      | Equal ↦ λ is. absurd (omega (arith, few, one_tied x y ys (ap is_eq is)))
      | Greater ↦ λ is. absurd (false≢true (sym none.0 ∙ ap is_lt (nat_list_cmp_total.antisymm y.0 x.0)
          ∙ ap (λ o. is_lt (ordering_reverse o)) is))
    ] refl

strict : (xs : Listed) → Ascend xs → AreAlone xs → T (is_sorted key_cmp xs)
strict [] ascend alone = tt
strict (x ∷ xs) ascend alone = both _ _
    (front_below x xs ascend.0 (omega (arith, alone x, one_tied x x xs (tied x.0))))
    (strict xs ascend.1 (λ z. omega (arith, alone z, fewer (ties row_before z) x xs)))

-- the same rows are found
same_found : (rows listed : Listed) → IsStableBy row_before rows listed → (key : List ℕ) →
    find key_cmp key listed ≡ find key_cmp key rows
same_found rows listed stable key = let x : List ℕ × Row = (key, []) in
    find-tied x listed ∙ ap value_of (stable x) ∙ sym (find-tied x rows)

pub arranged : (rows listed : Listed) (table : Rows) → AreArranged rows listed → AreAlone rows → ((key : List ℕ) →
    find key_cmp key rows ≡ get table key) → listed ≡ entries table
arranged rows listed table is alone found =
    let order = ranks_by nat_list_cmp_total (λ (e : List ℕ × Row). e.0) in
    let sorted = strict listed (ascend_of listed (sorted_far row_before order listed is.0))
    (λ x. subst (λ (l : Listed). length l ≤ 1) (sym (is.1 x)) (alone x)) in
    sym (entries-from_sorted key_cmp listed sorted)
    ∙ ap entries (same_map nat_list_cmp_total same_keys (from_sorted listed) table (λ key.
    get-from_sorted key_cmp listed key sorted ∙ same_found rows listed is.1 key ∙ found key))

-- where no value is found, no row ties
pub none_tied : (x : List ℕ × Row) (es : Listed) → find key_cmp x.0 es ≡ None →
    length (filter (ties row_before x) es) ≤ 0
none_tied x es is = no_value (filter (ties row_before x) es) (sym (find-tied x es) ∙ is)
  where
    no_value : (l : Listed) → value_of l ≡ None → length l ≤ 0
    no_value [] none = omega arith
    no_value (e ∷ l) none = absurd cc

-- one row more, which may tie, is alone where no other ties
pub alone_more : (x d : List ℕ × Row) (ds : Listed) → length (filter (ties row_before x) ds) ≤ 0 →
    length (filter (ties row_before x) (d ∷ ds)) ≤ 1
alone_more x d ds none = let others = filter (ties row_before x) ds in
    elim (ties row_before x d) as (λ b. length (cond b (d ∷ others) others) ≤ 1) [
      | true ↦ omega arith
      | false ↦ omega arith
    ]

-- one row more that does not tie
pub alone_past : (x d : List ℕ × Row) (ds : Listed) → is_eq (key_cmp x.0 d.0) ≡ false →
    length (filter (ties row_before x) ds) ≤ 1 → length (filter (ties row_before x) (d ∷ ds)) ≤ 1
alone_past x d ds other few = let others = filter (ties row_before x) ds in
    subst (λ b. length (cond b (d ∷ others) others) ≤ 1) (sym (tied_test x d ∙ other)) few
