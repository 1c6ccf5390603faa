-- What the slots show, by look-ups.
use Rattle.std.proofs.Common.{◌≡◌, ℕ, ◌+◌, ◌-◌, ◌≤◌, Bool, true, false, cond, List, [], ◌∷◌, length, Option, Some, None}
use Rattle.std.proofs.Common.{is_some, IsSome, refl, sym, ◌∙◌, ap, subst, arith, zero, suc, T, ◌&&◌}
use Rattle.std.proofs.lemmas.Bool.{false≢true}
use mir.Val.{bool_byte}
use Rattle.std.specs.declared.cmp.Ordering.TheVariants.{Less, Equal}
use Rattle.std.specs.Ordering.{is_eq, is_lt, eq_by_cmp}
use Rattle.std.specs.Cmp.Lexicographic.{nat_list_cmp_total}
use Rattle.std.specs.List.{AllByRecursion, filter}
use Rattle.std.specs.List.Sorted.{IsStrictlySortedBy}
use Rattle.std.specs.Map.{lookup, keys_of, KeepsOthers}
use Rattle.std.specs.BTreeMap.{UpdatesBy, WritesThrough}
use Rattle.std.specs.FinMap.{empty, get, len, entries, from_sorted, get-from_sorted, get-insert, get-remove}
use Rattle.std.specs.FinMap.{len-entries, len-insert, len-remove, empty_of_len, get-empty, entries-from_sorted}
use Rattle.std.specs.FinMap.{same_map, slice_cmp-IsAntisymmetric, nat_cmp-IsAntisymmetric}
use Rattle.std.specs.FinMap.Entries.{find, below_all, is_sorted}
use Rattle.std.specs.Option.{option_flatten}
use Rattle.slon_base.specs.Keeper.{key_cmp, Space, after}
use Rattle.slon_base.proofs.Order.{same_keys, equal_of, less_of}
use Rattle.node_keeper.specs.Slots.{Slot, SlotMap, IsInOrder, HasSlot, slot_at, shown, living, pairs, with_at}

pub same_space : (m n : Space) → ((q : List ℕ) → get m q ≡ get n q) → m ≡ n
same_space m n h = same_map nat_list_cmp_total (slice_cmp-IsAntisymmetric nat_cmp-IsAntisymmetric) m n h

pub get-with_at : (key : List ℕ) (o : Option (List ℕ)) (m : Space) (q : List ℕ) →
    get (with_at key o m) q ≡ cond (eq_by_cmp key_cmp q key) o (get m q)
get-with_at key None m q = get-remove nat_list_cmp_total m key q
get-with_at key (Some v) m q = get-insert nat_list_cmp_total m key v q

-- no key after this one is equal to it
missed : (q k : List ℕ) (es : List (List ℕ × Slot)) → key_cmp q k ≡ Equal →
    AllByRecursion (λ y. key_cmp k y ≡ Less) (keys_of es) → lookup (λ y. is_eq (key_cmp q y)) es ≡ None
missed q k [] same below = refl
missed q k (e ∷ es) same below =
    ap (λ o. cond (is_eq o) (Some e.1) (lookup (λ y. is_eq (key_cmp q y)) es))
    (nat_list_cmp_total.congr q k e.0 same ∙ below.0) ∙ missed q k es same below.1

flatten-cond : (b : Bool) (x y : Option Slot) → option_flatten (cond b x y) ≡ cond b (option_flatten x)
    (option_flatten y)
flatten-cond true x y = refl
flatten-cond false x y = refl

find-shown : (q key : List ℕ) (slot : Slot) (others : List (List ℕ × List ℕ)) (rest : Option Slot) →
    find key_cmp q others ≡ option_flatten rest → (is_eq (key_cmp q key) ≡ true → rest ≡ None)
    → find key_cmp q (shown key slot others) ≡ option_flatten (cond (is_eq (key_cmp q key)) (Some slot) rest)
find-shown q key None others rest same none =
    elim (is_eq (key_cmp q key)) as (λ b. is_eq (key_cmp q key) ≡ b → find key_cmp q others ≡ option_flatten
    (cond b (Some None) rest)) [
      | true ↦ λ e. same ∙ ap option_flatten (none e)
      | false ↦ λ e. same
    ] refl
find-shown q key (Some v) others rest same none =
    ap (cond (is_eq (key_cmp q key)) (Some v)) same ∙ sym (flatten-cond (is_eq (key_cmp q key)) (Some (Some v)) rest)

find-living : (q : List ℕ) (es : List (List ℕ × Slot)) → IsStrictlySortedBy key_cmp (keys_of es) →
    find key_cmp q (living es) ≡ option_flatten (lookup (λ k. is_eq (key_cmp q k)) es)
unfolding IsStrictlySortedBy
find-living q [] s = refl
find-living q (e ∷ es) s = find-shown q e.0 e.1 (living es) _ (find-living q es s.1) (λ eq. missed q e.0 es
    (equal_of _ eq) s.0)

both : (a b : Bool) → T a → T b → T (a && b)
both true b p r = r
both false b p r = absurd p

below-shown : (k key : List ℕ) (slot : Slot) (others : List (List ℕ × List ℕ)) → key_cmp k key ≡ Less →
    T (below_all key_cmp k others) → T (below_all key_cmp k (shown key slot others))
below-shown k key None others e t = t
below-shown k key (Some v) others e t = both _ _ (subst (λ o. T (is_lt o)) (sym e) tt) t

below-living : (k : List ℕ) (es : List (List ℕ × Slot)) → AllByRecursion (λ y. key_cmp k y ≡ Less)
    (keys_of es) → T (below_all key_cmp k (living es))
below-living k [] h = tt
below-living k (e ∷ es) h = below-shown k e.0 e.1 (living es) h.0 (below-living k es h.1)

sorted-shown : (key : List ℕ) (slot : Slot) (others : List (List ℕ × List ℕ)) → T (below_all key_cmp key others) →
    T (is_sorted key_cmp others) → T (is_sorted key_cmp (shown key slot others))
sorted-shown key None others b s = s
sorted-shown key (Some v) others b s = both _ _ b s

sorted-living : (es : List (List ℕ × Slot)) → IsStrictlySortedBy key_cmp (keys_of es) →
    T (is_sorted key_cmp (living es))
unfolding IsStrictlySortedBy
sorted-living [] s = tt
sorted-living (e ∷ es) s = sorted-shown e.0 e.1 (living es) (below-living e.0 es s.0) (sorted-living es s.1)

pub get-pairs : (m : SlotMap) (q : List ℕ) → IsInOrder m → get (pairs m) q ≡ option_flatten (slot_at m q)
get-pairs m q s = get-from_sorted key_cmp (living m.entries) q (sorted-living m.entries s) ∙ find-living q m.entries s

pub entries-pairs : (m : SlotMap) → IsInOrder m → entries (pairs m) ≡ living m.entries
entries-pairs m s = entries-from_sorted key_cmp (living m.entries) (sorted-living m.entries s)

length-shown : (key : List ℕ) (slot : Slot) (others : List (List ℕ × List ℕ)) (n : ℕ) → length others ≤ n →
    length (shown key slot others) ≤ n + 1
length-shown key None others n h = omega arith
length-shown key (Some v) others n h = omega arith

length-living : (es : List (List ℕ × Slot)) → length (living es) ≤ length es
length-living [] = omega arith
length-living (e ∷ es) = omega (arith, length-shown e.0 e.1 (living es) (length es) (length-living es))

pub len-pairs : (m : SlotMap) → IsInOrder m → len (pairs m) ≤ length m.entries
len-pairs m s = rw (len-entries (pairs m), entries-pairs m s) (length-living m.entries)

-- ---- after a change of the slot of one key

apart : (q key k : List ℕ) → is_eq (key_cmp q key) ≡ false → is_eq (key_cmp key k) ≡ true → is_eq (key_cmp q k) ≡ false
apart q key k ne e = let same : key ≡ k = same_keys key k (equal_of _ e) in
    subst (λ x. is_eq (key_cmp q x) ≡ false) same ne

-- m is changed to n at the key
abbrev Turns : List ℕ → Option Slot → SlotMap → SlotMap → Type 0
Turns key w m n = (q : List ℕ) → slot_at n q ≡ cond (is_eq (key_cmp q key)) w (slot_at m q)

turns_by : (key : List ℕ) (w : Option Slot) (m n : SlotMap) → UpdatesBy key_cmp (λ k. key_cmp key k) m n w →
    Turns key w m n
unfolding KeepsOthers
turns_by key w m n u q =
    elim (is_eq (key_cmp q key)) as (λ b. is_eq (key_cmp q key) ≡ b → slot_at n q ≡ cond b w (slot_at m q)) [
      | true ↦ λ e. ap (slot_at n) (same_keys q key (equal_of _ e)) ∙ u.1
      | false ↦ λ e. u.3 (λ k. is_eq (key_cmp q k)) (λ x y t. ap is_eq (nat_list_cmp_total.congr q x y
          (equal_of _ t))) (λ k t. apart q key k e t)
    ] refl

pairs_turn : (key : List ℕ) (w : Option Slot) (m n : SlotMap) → IsInOrder m → IsInOrder n → Turns key w m n →
    pairs n ≡ with_at key (option_flatten w) (pairs m)
pairs_turn key w m n s t u = same_space _ _ (λ q.
    get-pairs n q t ∙ ap option_flatten (u q) ∙ flatten-cond _ w (slot_at m q)
    ∙ ap (cond (is_eq (key_cmp q key)) (option_flatten w)) (sym (get-pairs m q s))
    ∙ sym (get-with_at key (option_flatten w) (pairs m) q))

keeps_slots : (key : List ℕ) (slot : Slot) (m n : SlotMap) → Turns key (Some slot) m n → (q : List ℕ) → HasSlot m q →
    HasSlot n q
keeps_slots key slot m n u q h = ap is_some (u q)
    ∙ elim (is_eq (key_cmp q key)) as (λ b. is_some
    (cond b (Some slot) (slot_at m q)) ≡ true) [ true ↦ refl | false ↦ h ]

pub with_at-same : (key : List ℕ) (o : Option (List ℕ)) (m : Space) → get m key ≡ o → with_at key o m ≡ m
with_at-same key o m e = same_space _ _ (λ q. get-with_at key o m q
    ∙ elim (is_eq (key_cmp q key)) as (λ b. is_eq (key_cmp q key) ≡ b → cond b o (get m q) ≡ get m q) [
      | true ↦ λ h. sym e ∙ ap (get m) (sym (same_keys q key (equal_of _ h)))
      | false ↦ λ h. refl
    ] refl)

len-cond : (had has : Bool) (n l : ℕ) → (had ≡ true → 1 ≤ n) → l ≡ cond has (cond had n (n + 1)) (cond had (n - 1) n) →
    l + bool_byte had ≡ n + bool_byte has
len-cond true true n l p e = omega arith
len-cond true false n l p e = let h : 1 ≤ n = p refl in omega arith
len-cond false true n l p e = omega arith
len-cond false false n l p e = omega arith

-- a space with a pair is not empty
some_pair : (m : Space) (key : List ℕ) → is_some (get m key) ≡ true → 1 ≤ len m
some_pair m key h =
    elim (len m) as (λ n. len m ≡ n → 1 ≤ n) [
      | zero ↦ λ e. absurd (false≢true (sym (ap (λ x. is_some (get x key)) (empty_of_len m e)
          ∙ ap is_some (get-empty key_cmp key)) ∙ h))
      | suc n ↦ λ e. omega arith
    ] refl

len-with_at : (key : List ℕ) (o : Option (List ℕ)) (m : Space) →
    len (with_at key o m) + bool_byte (is_some (get m key)) ≡ len m + bool_byte (is_some o)
len-with_at key None m = len-cond (is_some (get m key)) false (len m) _ (some_pair m key)
    (len-remove nat_list_cmp_total m key)
len-with_at key (Some v) m = len-cond (is_some (get m key)) true (len m) _ (some_pair m key)
    (len-insert nat_list_cmp_total m key v)

pub none_pairs : (m : SlotMap) → m.entries ≡ [] → pairs m ≡ empty
none_pairs m e = same_space _ _ (λ q. ap (λ es. get (from_sorted {R = key_cmp} (living es)) q) e
    ∙ get-from_sorted key_cmp [] q tt ∙ sym (get-empty key_cmp q))

pub bool_byte-le : (b : Bool) → bool_byte b ≤ 1
bool_byte-le true = omega arith
bool_byte-le false = omega arith

-- n is m with this slot at the key
pub record Turned (key : List ℕ) (slot : Slot) (m n : SlotMap) : Type 0 where
  pub shows : pairs n ≡ with_at key slot (pairs m)
  pub counts : len (pairs n) + bool_byte (is_some (get (pairs m) key)) ≡ len (pairs m) + bool_byte (is_some slot)
  pub keeps : (q : List ℕ) → HasSlot m q → HasSlot n q

pub turned : (key : List ℕ) (slot : Slot) (m n : SlotMap) → IsInOrder m → IsInOrder n →
    UpdatesBy key_cmp (λ k. key_cmp key k) m n (Some slot) → Turned key slot m n
turned key slot m n s t u =
    let turns = turns_by key (Some slot) m n u in
    let shows = pairs_turn key (Some slot) m n s t turns in
    record {
      shows = shows;
      counts = ap (λ x. len x + bool_byte (is_some (get (pairs m) key))) shows ∙ len-with_at key slot (pairs m);
      keeps = keeps_slots key slot m n turns;
    }

-- the same, written through what `get_mut` lends
pub written : {old w : Slot} (key : List ℕ) (slot : Slot) (m n : SlotMap) → IsInOrder m → Some old ≡ slot_at m key →
    w ≡ slot → WritesThrough key_cmp (λ k. key_cmp key k) m w n → Turned key slot m n
written {w = w} key slot m n s e is h =
    subst (λ x. Turned key x m n) is (turned key w m n s h.4 (h.3 (subst IsSome e refl)))

-- a slot with no value shows nothing
pub swept : (key : List ℕ) (m n : SlotMap) → IsInOrder m → IsInOrder n → slot_at m key ≡ Some None →
    UpdatesBy key_cmp (λ k. key_cmp key k) m n None → pairs n ≡ pairs m
swept key m n s t e u = pairs_turn key None m n s t (turns_by key None m n u)
    ∙ with_at-same key None (pairs m) (get-pairs m key s ∙ ap option_flatten e)

-- ---- the pairs after a key

all_above : (start k : List ℕ) (es : List (List ℕ × Slot)) → key_cmp start k ≡ Less →
    AllByRecursion (λ y. key_cmp k y ≡ Less) (keys_of es) → AllByRecursion (λ y. key_cmp start y ≡ Less)
    (keys_of es)
all_above start k [] e h = tt
all_above start k (x ∷ es) e h = (nat_list_cmp_total.trans start k x.0 e h.0, all_above start k es e h.1)

after-below : (start : List ℕ) (xs : List (List ℕ × List ℕ)) → T (below_all key_cmp start xs) → after start xs ≡ xs
after-below start [] h = refl
after-below start (e ∷ es) h =
    elim (is_lt (key_cmp start e.0)) as (λ b. T (b && below_all key_cmp start es) →
    cond b (e ∷ es) (after start es) ≡ e ∷ es) [
      | true ↦ λ _. refl
      | false ↦ λ t. absurd t
    ] h

after-shown : (start k : List ℕ) (slot : Slot) (others : List (List ℕ × List ℕ)) (b : Bool) →
    is_lt (key_cmp start k) ≡ b → (b ≡ true → after start others ≡ others) → after start (shown k slot others) ≡ cond b
    (shown k slot others) (after start others)
after-shown start k None others true e same = same refl
after-shown start k None others false e same = refl
after-shown start k (Some v) others b e same = ap (λ x. cond x ((k, v) ∷ others) (after start others)) e

pub living-between : (start : List ℕ) (es : List (List ℕ × Slot)) → IsStrictlySortedBy key_cmp (keys_of es) →
    living (filter (λ e. is_lt (key_cmp start e.0) && true) es) ≡ after start (living es)
unfolding IsStrictlySortedBy
living-between start [] s = refl
living-between start (e ∷ es) s =
    let rest = living-between start es s.1 in
    let others = filter (λ (e : List ℕ × Slot). is_lt (key_cmp start e.0) && true) es in
    elim (is_lt (key_cmp start e.0)) as (λ b. is_lt (key_cmp start e.0) ≡ b →
    living (cond (b && true) (e ∷ others) others) ≡ after start (shown e.0 e.1 (living es))) [
      | true ↦ λ h.
          let above = all_above start e.0 es (less_of _ (subst T (sym h) tt)) s.0 in
          let same = after-below start (living es) (below-living start es above) in
          ap (shown e.0 e.1) (rest ∙ same) ∙ sym (after-shown start e.0 e.1 (living es) true h (λ _. same))
      | false ↦ λ h. rest ∙ sym (after-shown start e.0 e.1 (living es) false h (λ no. absurd (false≢true no)))
    ] refl

-- what was at a key, put back
pub with_at-back : (key : List ℕ) (old new : Option (List ℕ)) (m : Space) → old ≡ get m key →
    with_at key old (with_at key new m) ≡ m
with_at-back key old new m e = same_space _ _ (λ q. get-with_at key old (with_at key new m) q
    ∙ ap (cond (eq_by_cmp key_cmp q key) old) (get-with_at key new m q)
    ∙ elim (is_eq (key_cmp q key)) as (λ b. is_eq (key_cmp q key) ≡ b → cond b old (cond b new (get m q)) ≡ get m q) [
      | true ↦ λ h. e ∙ ap (get m) (sym (same_keys q key (equal_of _ h)))
      | false ↦ λ h. refl
    ] refl)
