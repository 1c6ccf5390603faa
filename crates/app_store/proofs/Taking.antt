-- The ids of the open transactions, put in order, are those that the rules have.
use Rattle.std.proofs.Common.{◌≡◌, ℕ, ◌<◌, ◌^◌, Bool, true, false, cond, T, List, [], ◌∷◌, map, Option, Some, None}
use Rattle.std.proofs.Common.{refl, sym, ap, subst, ◌∙◌, arith, ◌⊎◌, inl, inr}
use Rattle.std.specs.Prelude.{◌==◌, unwrap_or}
use Rattle.std.specs.List.{AllByRecursion}
use Rattle.std.specs.Str.{bytes_eq}
use Rattle.std.specs.Ordering.{is_eq, is_lt, nat_cmp, match_ordering, MatchOrdering}
use Rattle.std.specs.declared.cmp.Ordering.{Ordering}
use Rattle.std.specs.declared.cmp.Ordering.TheVariants.{Less, Equal, Greater}
use Rattle.std.specs.Cmp.{ranks}
use Rattle.std.specs.BTreeSet.{insert_key}
use Rattle.std.specs.FinMap.{get, get-empty, entries, entries_sorted, get-entries}
use Rattle.std.specs.FinMap.Entries.{find, is_sorted, below_all}
use Rattle.std.proofs.lemmas.Bool.{false≢true, eq-eqb, eqb-true, or_cases, or_left, or_right, and_parts}
use Rattle.slon_base.specs.Keeper.{key_cmp}
use Rattle.slon_model.specs.Rows.{member}
use Rattle.slon_model.specs.Names.{Named, find_named}
use Rattle.slon_model.specs.Place.{Place, is_running, open_xids, taken}
use Rattle.slon_model.proofs.Names.{all_map, bytes_same, bytes_itself}
use Rattle.slon_model.specs.Snapshots.{Snapshot, IsSnapshot, Rising, first_or}
use Rattle.slon_laws.specs.Sound.{AreNamedOnce, ids_of}
use Rattle.slon_laws.proofs.Opens.{member_all, all_member, found_member}
use Rattle.app_store.specs.declared.opens.Transaction.{Transaction}
use Rattle.app_store.specs.Base.{Memory, Base}
use Rattle.app_store.specs.Closed.{IsClosed}
use Rattle.app_store.specs.Fits.{Runs, OpensAs, Ready}
use Rattle.app_store.specs.Taking.{put_xids, IsTakenOf}
use Rattle.slon_base.proofs.Order.{tied, equal_of, same_keys}
use Rattle.app_store.proofs.Standing.{running_as}

-- ---- an id put among others

abbrev pub entry_xids : List (List ℕ × Transaction) → List ℕ
entry_xids es = map (λ e. e.1.xid) es

module _ (x k : ℕ) (ks : List ℕ) where
  abbrev placed : Ordering → List ℕ
  placed o = match_ordering o (x ∷ k ∷ ks) (k ∷ ks) (k ∷ insert_key nat_cmp ks x)

all_put : (P : ℕ → Type 0) (x : ℕ) (ks : List ℕ) → P x → AllByRecursion P ks →
    AllByRecursion P (insert_key nat_cmp ks x)
all_put P x [] is all = (is, tt)
all_put P x (k ∷ ks) is all = elim (nat_cmp x k) as (λ o. AllByRecursion P (placed x k ks o)) [
  | Less ↦ (is, all)
  | Equal ↦ all
  | Greater ↦ (all.0, all_put P x ks is all.1)
]

rising_put : (x : ℕ) (ks : List ℕ) → Rising ks → Rising (insert_key nat_cmp ks x)
rising_put x [] rising = (tt, tt)
rising_put x (k ∷ ks) rising = by (rising_put x ks rising.1) (nat_cmp x k) (ranks x k)
  where
    by : Rising (insert_key nat_cmp ks x) → (o : Ordering) → MatchOrdering o (x < k) (x ≡ k) (k < x) →
        Rising (placed x k ks o)
    by rest Less less =
        ((less, all_map (λ y. k < y) (λ y. x < y) (λ y more. omega (arith, less, more)) ks rising.0), rising)
    by rest Equal same = rising
    by rest Greater more = (all_put (λ y. k < y) x ks more rising.0, rest)

-- the id is there now, and the others are as before
put_there : (x : ℕ) (ks : List ℕ) → member x (insert_key nat_cmp ks x) ≡ true
put_there x [] = or_left (x == x) false (eq-eqb x x refl)
put_there x (k ∷ ks) = by (put_there x ks) (nat_cmp x k) (ranks x k)
  where
    by : member x (insert_key nat_cmp ks x) ≡ true → (o : Ordering) → MatchOrdering o (x < k) (x ≡ k) (k < x) →
        member x (placed x k ks o) ≡ true
    by rest Less less = or_left (x == x) (member x (k ∷ ks)) (eq-eqb x x refl)
    by rest Equal same = or_left (x == k) (member x ks) (eq-eqb x k same)
    by rest Greater more = or_right (x == k) (member x (insert_key nat_cmp ks x)) rest

put_stays : (x y : ℕ) (ks : List ℕ) → member y ks ≡ true → member y (insert_key nat_cmp ks x) ≡ true
put_stays x y [] is = absurd (false≢true is)
put_stays x y (k ∷ ks) is = elim (nat_cmp x k) as (λ o. member y (placed x k ks o) ≡ true) [
  | Less ↦ or_right (y == x) (member y (k ∷ ks)) is
  | Equal ↦ is
  | Greater ↦ elim (or_cases (y == k) (member y ks) is) [
    | inl same ↦ or_left (y == k) (member y (insert_key nat_cmp ks x)) same
    | inr more ↦ or_right (y == k) (member y (insert_key nat_cmp ks x)) (put_stays x y ks more)
  ]
]

put_only : (x y : ℕ) (ks : List ℕ) → member y (insert_key nat_cmp ks x) ≡ true → (y ≡ x) ⊎ (member y ks ≡ true)
put_only x y ks is =
    member_all (λ z. (z ≡ x) ⊎ (member z ks ≡ true)) y (insert_key nat_cmp ks x)
    (all_put (λ z. (z ≡ x) ⊎ (member z ks ≡ true)) x ks (inl refl) (each ks (λ z among. among))) is
  where
    each : (zs : List ℕ) → ((z : ℕ) → member z zs ≡ true → member z ks ≡ true) →
        AllByRecursion (λ z. (z ≡ x) ⊎ (member z ks ≡ true)) zs
    each [] among = tt
    each (z ∷ zs) among = (
      inr (among z (or_left (z == z) (member z zs) (eq-eqb z z refl))),
      each zs (λ w is. among w (or_right (w == z) (member w zs) is)),
    )

-- ---- those of all entries

pub rising_all : (ks : List ℕ) (es : List (List ℕ × Transaction)) → Rising ks → Rising (put_xids ks es)
rising_all ks [] rising = rising
rising_all ks (e ∷ es) rising = rising_all (insert_key nat_cmp ks e.1.xid) es (rising_put e.1.xid ks rising)

pub all_there : (y : ℕ) (ks : List ℕ) (es : List (List ℕ × Transaction)) → (member y ks ≡ true)
    ⊎ (member y (entry_xids es) ≡ true) → member y (put_xids ks es) ≡ true
all_there y ks [] (inl is) = is
all_there y ks [] (inr none) = absurd (false≢true none)
all_there y ks (e ∷ es) (inl is) = all_there y (insert_key nat_cmp ks e.1.xid) es (inl (put_stays e.1.xid y ks is))
all_there y ks (e ∷ es) (inr is) = elim (or_cases (y == e.1.xid) (member y (entry_xids es)) is) [
  | inl same ↦
      all_there y (insert_key nat_cmp ks e.1.xid) es
      (inl (subst (λ z. member z (insert_key nat_cmp ks e.1.xid) ≡ true) (sym (eqb-true y e.1.xid same))
      (put_there e.1.xid ks)))
  | inr more ↦ all_there y (insert_key nat_cmp ks e.1.xid) es (inr more)
]

pub all_only : (y : ℕ) (ks : List ℕ) (es : List (List ℕ × Transaction)) → member y (put_xids ks es) ≡ true →
    (member y ks ≡ true) ⊎ (member y (entry_xids es) ≡ true)
all_only y ks [] is = inl is
all_only y ks (e ∷ es) is = elim (all_only y (insert_key nat_cmp ks e.1.xid) es is) [
  | inl before ↦ elim (put_only e.1.xid y ks before) [
    | inl same ↦ inr (or_left (y == e.1.xid) (member y (entry_xids es)) (eq-eqb y e.1.xid same))
    | inr was ↦ inl was
  ]
  | inr more ↦ inr (or_right (y == e.1.xid) (member y (entry_xids es)) more)
]

-- ---- entries found by their names

found_entry : (name : List ℕ) (t : Transaction) (es : List (List ℕ × Transaction)) → find key_cmp name es ≡ Some t →
    member t.xid (entry_xids es) ≡ true
found_entry name t [] found = absurd cc
found_entry name t (e ∷ es) found =
    elim (is_eq (key_cmp name e.0)) as (λ b. cond b (Some e.1) (find key_cmp name es) ≡ Some t →
    member t.xid (entry_xids (e ∷ es)) ≡ true) [
      | true ↦
          λ here. or_left (t.xid == e.1.xid) (member t.xid (entry_xids es))
          (eq-eqb t.xid e.1.xid (ap (λ o. (unwrap_or o e.1).xid) (sym here)))
      | false ↦ λ later. or_right (t.xid == e.1.xid) (member t.xid (entry_xids es)) (found_entry name t es later)
    ] found

abbrev pub IsFound : ℕ → List (List ℕ × Transaction) → Type 0
IsFound y es = (name : List ℕ) × (t : Transaction) × (find key_cmp name es ≡ Some t) × (t.xid ≡ y)

pub true_of : (b : Bool) → T b → b ≡ true
true_of true t = refl
true_of false t = absurd t

-- no entry behind one has its name
pub none_below : (q : List ℕ) (es : List (List ℕ × Transaction)) → below_all key_cmp q es ≡ true →
    find key_cmp q es ≡ None
none_below q [] below = refl
none_below q (e ∷ es) below =
    let parts = and_parts (is_lt (key_cmp q e.0)) (below_all key_cmp q es) below in
    ap (λ b. cond b (Some e.1) (find key_cmp q es)) (unlike (key_cmp q e.0) parts.0) ∙ none_below q es parts.1
  where
    unlike : (o : Ordering) → is_lt o ≡ true → is_eq o ≡ false
    unlike Less is = refl
    unlike Equal is = absurd (false≢true is)
    unlike Greater is = absurd (false≢true is)

entry_found : (y : ℕ) (es : List (List ℕ × Transaction)) → is_sorted key_cmp es ≡ true →
    member y (entry_xids es) ≡ true → IsFound y es
entry_found y [] sorted is = absurd (false≢true is)
entry_found y (e ∷ es) sorted is =
    let parts = and_parts (below_all key_cmp e.0 es) (is_sorted key_cmp es) sorted in
    elim (or_cases (y == e.1.xid) (member y (entry_xids es)) is) [
      | inl same ↦
          (e.0, e.1, ap (λ b. cond b (Some e.1) (find key_cmp e.0 es)) (tied e.0), sym (eqb-true y e.1.xid same))
      | inr more ↦ behind parts.0 (entry_found y es parts.1 more)
    ]
  where
    behind : below_all key_cmp e.0 es ≡ true → IsFound y es → IsFound y (e ∷ es)
    behind below f = elim (is_eq (key_cmp f.0 e.0)) as (λ b. is_eq (key_cmp f.0 e.0) ≡ b → IsFound y (e ∷ es)) [
      | true ↦ λ same. let none : find key_cmp f.0 es ≡ None =
          ap (λ q. find key_cmp q es) (same_keys f.0 e.0 (equal_of (key_cmp f.0 e.0) same)) ∙ none_below e.0 es below in
          let bad : None ≡ Some f.1 = sym none ∙ f.2 in absurd cc
      | false ↦ λ other. (f.0, f.1, ap (λ b. cond b (Some e.1) (find key_cmp f.0 es)) other ∙ f.2, f.3)
    ] refl

pub taken_of : (m : Memory) (s : Snapshot) → s.xmax ≡ m.xids.next → s.xmin ≡ first_or s.xmax s.running →
    s.running ≡ put_xids [] (entries m.opens) → IsTakenOf m s
taken_of m s last first running = record {
  last = last;
  first = first;
  rising = subst Rising (sym running) (rising_all [] (entries m.opens) tt);
  lists = λ x. (
    λ is. elim (all_only x [] (entries m.opens) (subst (λ xs. member x xs ≡ true) running is)) [
      | inl none ↦ absurd (false≢true none)
      | inr among ↦ let f =
          entry_found x (entries m.opens) (true_of (is_sorted key_cmp (entries m.opens)) (entries_sorted m.opens))
          among in (f.0, f.1, get-entries m.opens f.0 ∙ f.2, f.3)
    ],
    λ f. subst (λ xs. member x xs ≡ true) (sym running)
        (all_there x [] (entries m.opens)
        (inr
        (subst (λ y. member y (entry_xids (entries m.opens)) ≡ true) f.3
        (found_entry f.0 f.1 (entries m.opens) (sym (get-entries m.opens f.0) ∙ f.2))))),
  );
}

-- ---- two rising lists of the same ids

above_first : (x : ℕ) (xs : List ℕ) → AllByRecursion (λ y. x < y) xs → (z : ℕ) → member z xs ≡ true → x < z
above_first x xs all z is = member_all (λ y. x < y) z xs all is

pub rising_same : (xs ys : List ℕ) → Rising xs → Rising ys → ((x : ℕ) → member x xs ≡ true → member x ys ≡ true) →
    ((x : ℕ) → member x ys ≡ true → member x xs ≡ true) → xs ≡ ys
rising_same [] [] one two there back = refl
rising_same [] (y ∷ ys) one two there back =
    absurd (false≢true (back y (or_left (y == y) (member y ys) (eq-eqb y y refl))))
rising_same (x ∷ xs) [] one two there back =
    absurd (false≢true (there x (or_left (x == x) (member x xs) (eq-eqb x x refl))))
rising_same (x ∷ xs) (y ∷ ys) one two there back = λ i. same i ∷ rising_same xs ys one.1 two.1 on off i
  where
    same : x ≡ y
    same = elim (or_cases (x == y) (member x ys) (there x (or_left (x == x) (member x xs) (eq-eqb x x refl)))) [
      | inl is ↦ eqb-true x y is
      | inr later ↦ elim (or_cases (y == x) (member y xs) (back y (or_left (y == y) (member y ys) (eq-eqb y y refl)))) [
        | inl is ↦ sym (eqb-true y x is)
        | inr after ↦ let up : y < x = above_first y ys two.0 x later in
            let down : x < y = above_first x xs one.0 y after in absurd (omega (arith, up, down))
      ]
    ]

    on : (z : ℕ) → member z xs ≡ true → member z ys ≡ true
    on z is = elim (or_cases (z == y) (member z ys) (there z (or_right (z == x) (member z xs) is))) [
      | inl first ↦ let less : x < z = above_first x xs one.0 z is in let at : z ≡ y = eqb-true z y first in
          absurd (omega (arith, less, at, same))
      | inr more ↦ more
    ]

    off : (z : ℕ) → member z ys ≡ true → member z xs ≡ true
    off z is = elim (or_cases (z == x) (member z xs) (back z (or_right (z == y) (member z ys) is))) [
      | inl first ↦ let less : y < z = above_first y ys two.0 z is in let at : z ≡ x = eqb-true z x first in
          absurd (omega (arith, less, at, same))
      | inr more ↦ more
    ]

-- ---- by the rules

pub named_once : (y : ℕ) (os : Named ℕ) → AreNamedOnce os → member y (ids_of os) ≡ true → (name : List ℕ)
    × (find_named name os ≡ Some y)
named_once y [] named is = absurd (false≢true is)
named_once y (o ∷ os) named is = elim (or_cases (y == o.1) (member y (ids_of os)) is) [
  | inl same ↦ (
    o.0,
    ap (λ b. cond b (Some o.1) (find_named o.0 os)) (bytes_itself o.0)
        ∙ ap (λ n. Some n) (sym (eqb-true y o.1 same)),
  )
  | inr more ↦ behind (named_once y os named.1 more)
]
  where
    behind : (name : List ℕ) × (find_named name os ≡ Some y) → (name : List ℕ) × (find_named name (o ∷ os) ≡ Some y)
    behind f =
        elim (bytes_eq f.0 o.0) as (λ b. bytes_eq f.0 o.0 ≡ b → (name : List ℕ) × (find_named name (o ∷ os) ≡ Some y)) [
          | true ↦ λ same. let none : find_named f.0 os ≡ None =
              ap (λ n. find_named n os) (bytes_same f.0 o.0 same) ∙ named.0 in let bad : None ≡ Some y =
              sym none ∙ f.1 in
              absurd cc
          | false ↦ λ other. (f.0, ap (λ b. cond b (Some o.1) (find_named f.0 os)) other ∙ f.1)
        ] refl

opened_there : (p : Place) (name : List ℕ) (x : ℕ) (o : Option Transaction) → OpensAs p (Some x) o → (t : Transaction)
    × (o ≡ Some t) × (t.xid ≡ x)
opened_there p name x None opens = absurd opens
opened_there p name x (Some t) opens = (t, refl, opens.xid_is)

opened_back : (p : Place) (name : List ℕ) (t : Transaction) (o : Option ℕ) → find_named name p.opens ≡ o →
    OpensAs p o (Some t) → member t.xid (open_xids p) ≡ true
opened_back p name t None found opens = absurd opens
opened_back p name t (Some x) found opens =
    subst (λ y. member y (open_xids p) ≡ true) (sym opens.xid_is) (found_member name x p.opens found)

pub taken_is : (b : Base) (s : Snapshot) → IsTakenOf b.memory s → (p : Place) → Ready p b →
    is_running p.standing ≡ true → s ≡ taken p
taken_is b s is p ready running = λ i. record { xmin = (first i); xmax = (last i); running = (lists i) }
  where
    runs : Runs p b.memory
    runs = running_as p b ready.fits running

    last : s.xmax ≡ p.xids.next
    last = is.last ∙ ap (λ c. c.next) runs.xids

    lists : s.running ≡ open_xids p
    lists = rising_same s.running (open_xids p) is.rising ready.sound.running
        (λ x among. let f = (is.lists x).0 among in
        subst (λ y. member y (open_xids p) ≡ true) f.3
        (opened_back p f.0 f.1 (find_named f.0 p.opens) refl
        (subst (OpensAs p (find_named f.0 p.opens)) f.2 (runs.opened f.0))))
        (λ x among. let f = named_once x p.opens ready.sound.named among in
        let t =
        opened_there p f.0 x (get b.memory.opens f.0)
        (subst (λ o. OpensAs p o (get b.memory.opens f.0)) f.1 (runs.opened f.0)) in
        (is.lists x).1 (f.0, t.0, t.1, t.2))

    first : s.xmin ≡ first_or p.xids.next (open_xids p)
    first = is.first ∙ (λ i. first_or (last i) (lists i))

pub taken_has_form : (b : Base) (s : Snapshot) → IsTakenOf b.memory s → b.memory.xids.next < 2 ^ 63 → (p : Place) →
    Ready p b → is_running p.standing ≡ true → IsSnapshot s
taken_has_form b s is few p ready running = record {
  first = is.first;
  rising = is.rising;
  below = all_member (λ x. x < s.xmax) s.running
      (λ x among. let opened = ready.sound.opened x (subst (λ q. member x q.running ≡ true) same among) in
      let last = ap (λ q. q.xmax) same in omega (arith, opened, last));
  small = (let last = is.last in omega (arith, few, last));
}
  where
    same : s ≡ taken p
    same = taken_is b s is p ready running

-- a database with nothing open lists no transaction
pub taken_closed : (m : Memory) (s : Snapshot) → IsTakenOf m s → IsClosed m.opens m.locks → s.running ≡ []
taken_closed m s is closed = none s.running (λ x among. let f = (is.lists x).0 among in
    let found = sym (ap (λ o. get o f.0) closed.opens_are) ∙ f.2 in
    let bad : None ≡ Some f.1 = sym (get-empty key_cmp f.0) ∙ found in absurd cc)
  where
    none : (xs : List ℕ) → ((x : ℕ) → member x xs ≡ true → ⊥) → xs ≡ []
    none [] absent = refl
    none (x ∷ xs) absent = absurd (absent x (or_left (x == x) (member x xs) (eq-eqb x x refl)))
