-- What the rules say of open transactions and of locks after each change of a place.
use Rattle.std.proofs.Common.{◌≡◌, ℕ, ◌<◌, ◌≤◌, Bool, true, false, cond, List, [], ◌∷◌, ◌++◌, length, Option, Some}
use Rattle.std.proofs.Common.{None, refl, sym, ap, ◌∙◌, arith}
use Rattle.std.specs.Prelude.{◌==◌, ◌&&◌, ◌||◌, nat_le, not, filter}
use Rattle.std.specs.List.{AllByRecursion}
use Rattle.std.specs.Str.{bytes_eq}
use Rattle.std.specs.FinMap.{get}
use Rattle.std.proofs.lemmas.Bool.{false≢true, true≢false, false_from_ne_true, eqb-true, and_parts}
use Rattle.slon_model.specs.Names.{Named, find_named, without}
use Rattle.slon_model.specs.Rows.{Action, change_key, touches, is_on, member, holder_in}
use Rattle.slon_model.specs.Place.{Filling, rows_since}
use Rattle.slon_laws.specs.Sound.{Pairs, IsLocked, conflicts, AreNamedOnce, ids_of}
use Rattle.slon_model.specs.Snapshots.{Rising}
use Rattle.slon_laws.proofs.Keys.{agree_at}
use Rattle.slon_laws.proofs.Played.{play_agrees}
use Rattle.slon_model.proofs.Names.{bytes_same}
use Rattle.slon_laws.proofs.Locks.{from_one_row}
use Rattle.slon_laws.proofs.Opens.{member_without, member_taken}
use Rattle.app_store.specs.Fits.{has_written}

-- ---- ids

or_same : (a b c : Bool) → (a || (b || c)) ≡ ((a || b) || c)
or_same true b c = refl
or_same false b c = refl

pub member_snoc : (z n : ℕ) (name : List ℕ) (os : Named ℕ) →
    member z (ids_of (os ++ (name, n) ∷ [])) ≡ (member z (ids_of os) || (z == n))
member_snoc z n name [] = or_false (z == n)
  where
    or_false : (b : Bool) → (b || false) ≡ b
    or_false true = refl
    or_false false = refl
member_snoc z n name (o ∷ os) =
    ap (λ b. (z == o.1) || b) (member_snoc z n name os) ∙ or_same (z == o.1) (member z (ids_of os)) (z == n)

-- another opened id stays open
pub member_kept : (z x : ℕ) (name : List ℕ) (os : Named ℕ) → AreNamedOnce os → find_named name os ≡ Some x →
    (z == x) ≡ false → member z (ids_of os) ≡ true → member z (ids_of (without name os)) ≡ true
member_kept z x name [] named found differ is = is
member_kept z x name (o ∷ os) named found differ is =
    elim (bytes_eq name o.0) as (λ b. bytes_eq name o.0 ≡ b → cond b (Some o.1) (find_named name os) ≡ Some x →
    member z (ids_of (cond (not b) (o ∷ without name os) (without name os))) ≡ true) [
      | true ↦ λ here first. let same : o.1 ≡ x = cc in
          ap (λ es. member z (ids_of es)) (all_kept os (ap (λ k. find_named k os) (bytes_same name o.0 here) ∙ named.0))
          ∙ elim (z == o.1) as (λ b. (z == o.1) ≡ b → (b || member z (ids_of os)) ≡ true →
          member z (ids_of os) ≡ true) [
            | true ↦ λ one _. absurd (false≢true (sym differ ∙ ap (λ y. z == y) (sym same) ∙ one))
            | false ↦ λ _ more. more
          ] refl is
      | false ↦
          λ other later. elim (z == o.1)
          as (λ b. (b || member z (ids_of os)) ≡ true → (b || member z (ids_of (without name os))) ≡ true) [
            | true ↦ λ _. refl
            | false ↦ λ more. member_kept z x name os named.1 later differ more
          ] is
    ] refl found
  where
    all_kept : (es : Named ℕ) → find_named name es ≡ None → without name es ≡ es
    all_kept [] none = refl
    all_kept (e ∷ es) none =
        elim (bytes_eq name e.0) as (λ b. cond b (Some e.1) (find_named name es) ≡ None →
        cond (not b) (e ∷ without name es) (without name es) ≡ e ∷ es) [
          | true ↦ λ found. absurd cc
          | false ↦ λ absent. ap (λ rest. e ∷ rest) (all_kept es absent)
        ] none

-- ---- actions of a transaction

-- a transaction that wrote no row of this key
pub unwritten : (x : ℕ) (table key : List ℕ) (actions : List Action) → has_written x table key actions ≡ false →
    AllByRecursion (λ a. is_on table key a ≡ true → (a.xid == x) ≡ false) actions
unwritten x table key [] none = tt
unwritten x table key (a ∷ rest) none =
    elim (a.xid == x) as (λ b. (a.xid == x) ≡ b → ((b && is_on table key a) || has_written x table key rest) ≡ false →
    AllByRecursion (λ a. is_on table key a ≡ true → (a.xid == x) ≡ false) (a ∷ rest)) [
      | true ↦
          λ own is. elim (is_on table key a)
          as (λ b. is_on table key a ≡ b → (b || has_written x table key rest) ≡ false →
          AllByRecursion (λ a. is_on table key a ≡ true → (a.xid == x) ≡ false) (a ∷ rest)) [
            | true ↦ λ on bad. absurd (true≢false bad)
            | false ↦ λ off less. ((λ on. absurd (false≢true (sym off ∙ on))), unwritten x table key rest less)
          ] refl is
      | false ↦ λ other is. ((λ on. other), unwritten x table key rest is)
    ] refl none

-- no action is of this transaction
abbrev pub NoneOf : ℕ → List Action → Type 0
NoneOf x actions = AllByRecursion (λ a. (a.xid == x) ≡ false) actions

pub none_written : (x : ℕ) (table key : List ℕ) (actions : List Action) → NoneOf x actions →
    has_written x table key actions ≡ false
none_written x table key [] none = refl
none_written x table key (a ∷ rest) none =
    ap (λ b. (b && is_on table key a) || has_written x table key rest) none.0 ∙ none_written x table key rest none.1

pub none_counted : (x : ℕ) (actions : List Action) → NoneOf x actions → length (filter (λ a. a.xid == x) actions) ≡ 0
none_counted x [] none = refl
none_counted x (a ∷ rest) none =
    ap (λ b. length (cond b (a ∷ filter (λ a. a.xid == x) rest) (filter (λ a. a.xid == x) rest))) none.0
    ∙ none_counted x rest none.1

pub counted_none : (x : ℕ) (actions : List Action) → length (filter (λ a. a.xid == x) actions) ≡ 0 → NoneOf x actions
counted_none x [] zero = tt
counted_none x (a ∷ rest) zero =
    elim (a.xid == x)
    as (λ b. (a.xid == x) ≡ b → length (cond b (a ∷ filter (λ a. a.xid == x) rest) (filter (λ a. a.xid == x) rest))
    ≡ 0 → NoneOf x (a ∷ rest)) [
      | true ↦ λ own more. absurd (omega (arith, more))
      | false ↦ λ other less. (other, counted_none x rest less)
    ] refl zero

pub counted_at_most : (x : ℕ) (actions : List Action) → length (filter (λ a. a.xid == x) actions) ≤ length actions
counted_at_most x [] = omega arith
counted_at_most x (a ∷ rest) =
    elim (a.xid == x) as (λ b. length (cond b (a ∷ filter (λ a. a.xid == x) rest) (filter (λ a. a.xid == x) rest))
    ≤ length (a ∷ rest)) [
      | true ↦ omega (arith, counted_at_most x rest)
      | false ↦ omega (arith, counted_at_most x rest)
    ]

-- a later id has no action
pub none_later : (n x : ℕ) (actions : List Action) → AllByRecursion (λ a. a.xid < n) actions → n ≤ x → NoneOf x actions
none_later n x [] known le = tt
none_later n x (a ∷ rest) known le = (
  false_from_ne_true _ (λ is. let same = eqb-true a.xid x is in absurd (omega (arith, same, known.0, le))),
  none_later n x rest known.1 le,
)

-- ---- rows by tests that agree

-- the action is of one of these transactions, and behind a filling
abbrev pub is_behind : Filling → List ℕ → Action → Bool
is_behind f xs a = member a.xid xs && nat_le f.first a.number

-- a transaction without actions sees what the others see
pub rows_unwritten : (x : ℕ) (xs : List ℕ) (table : List ℕ) (actions : List Action) (f : Filling) → NoneOf x actions →
    rows_since (λ a. member a.xid (x ∷ xs)) table actions f ≡ rows_since (λ a. member a.xid xs) table actions f
rows_unwritten x xs table actions f none =
    play_agrees (is_behind f (x ∷ xs)) (is_behind f xs) table actions f.rows (each actions none)
  where
    each : (es : List Action) → NoneOf x es → AllByRecursion (λ a. is_behind f (x ∷ xs) a ≡ is_behind f xs a) es
    each [] none = tt
    each (a ∷ rest) none =
        (ap (λ b. (b || member a.xid xs) && nat_le f.first a.number) none.0, each rest none.1)

-- a transaction that did not write a row sees what the others see
pub seen_unwritten : (x : ℕ) (xs : List ℕ) (table key : List ℕ) (actions : List Action) (f : Filling) →
    AllByRecursion (λ a. is_on table key a ≡ true → (a.xid == x) ≡ false) actions →
    get (rows_since (λ a. member a.xid (x ∷ xs)) table actions f) key
    ≡ get (rows_since (λ a. member a.xid xs) table actions f) key
seen_unwritten x xs table key actions f none =
    agree_at (is_behind f (x ∷ xs)) (is_behind f xs) table key actions f.rows (each actions none)
  where
    each : (es : List Action) → AllByRecursion (λ a. is_on table key a ≡ true → (a.xid == x) ≡ false) es →
        AllByRecursion (λ a. is_on table key a ≡ true → is_behind f (x ∷ xs) a ≡ is_behind f xs a) es
    each [] all = tt
    each (a ∷ rest) all =
        ((λ on. ap (λ b. (b || member a.xid xs) && nat_le f.first a.number) (all.0 on)), each rest all.1)

-- ---- rows of one transaction

on_parts : (table key : List ℕ) (a : Action) → is_on table key a ≡ true → (a.table ≡ table)
    × (change_key a.change ≡ key)
on_parts table key a on =
    let parts = and_parts (bytes_eq table a.table) (touches key a.change) on in
    (sym (bytes_same table a.table parts.0), sym (bytes_same key (change_key a.change) (parts.1)))

both_conflict : (table key : List ℕ) (a b : Action) → is_on table key a ≡ true → is_on table key b ≡ true →
    conflicts a b ≡ true
both_conflict table key a b on also =
    let one = on_parts table key a on in
    let two = on_parts table key b also in
    from_one_row a b (one.0 ∙ sym two.0) (one.1 ∙ sym two.1)

differ_from : (x y z : ℕ) → z ≡ y → (y == x) ≡ false → (z == x) ≡ false
differ_from x y z same other = ap (λ n. n == x) same ∙ other

-- two transactions that are open
pub record TwoOpen (xids : List ℕ) : Type 0 where
  pub one : ℕ
  pub other : ℕ
  pub one_opened : member one xids ≡ true
  pub other_opened : member other xids ≡ true
  pub differ : (other == one) ≡ false

-- a row that an open transaction wrote before is written by it alone
one_before : {xids : List ℕ} (two : TwoOpen xids) (table key : List ℕ) (b : Action) (rest : List Action) →
    AllByRecursion (λ a. IsLocked xids a b) rest → is_on table key b ≡ true →
    has_written two.other table key rest ≡ true → (b.xid == two.one) ≡ false
one_before two table key b [] locked on wrote = absurd (false≢true wrote)
one_before {xids} two table key b (a ∷ rest) locked on wrote =
    elim (a.xid == two.other) as (λ c. (a.xid == two.other) ≡ c →
    ((c && is_on table key a) || has_written two.other table key rest) ≡ true → (b.xid == two.one) ≡ false) [
      | true ↦
          λ own is. elim (is_on table key a)
          as (λ c. is_on table key a ≡ c → (c || has_written two.other table key rest) ≡ true →
          (b.xid == two.one) ≡ false) [
            | true ↦ λ also _. let same = eqb-true a.xid two.other own in
                differ_from two.one two.other b.xid
                (sym (locked.0 (both_conflict table key a b also on) (ap (λ z. member z xids) same ∙ two.other_opened))
                ∙ same) two.differ
            | false ↦ λ off more. one_before two table key b rest locked.1 on more
          ] refl is
      | false ↦ λ differs is. one_before two table key b rest locked.1 on is
    ] refl wrote

-- no earlier action of another open transaction is on a row that this action wrote
none_before : {xids : List ℕ} (two : TwoOpen xids) (table key : List ℕ) (b : Action) (rest : List Action) →
    AllByRecursion (λ a. IsLocked xids a b) rest → b.xid ≡ two.other → is_on table key b ≡ true →
    AllByRecursion (λ a. is_on table key a ≡ true → (a.xid == two.one) ≡ false) rest
none_before two table key b [] locked same on = tt
none_before {xids} two table key b (a ∷ rest) locked same on = (
  (λ also. false_from_ne_true _ (λ own.
      let is = eqb-true a.xid two.one own in
      let held : a.xid ≡ b.xid =
      locked.0 (both_conflict table key a b also on) (ap (λ z. member z xids) is ∙ two.one_opened) in
      false≢true (sym two.differ ∙ ap (λ z. z == two.one) (sym (held ∙ same)) ∙ own))),
  none_before two table key b rest locked.1 same on,
)

pub written_by_one : {xids : List ℕ} (two : TwoOpen xids) (table key : List ℕ) (actions : List Action) →
    Pairs (IsLocked xids) actions → has_written two.other table key actions ≡ true →
    AllByRecursion (λ a. is_on table key a ≡ true → (a.xid == two.one) ≡ false) actions
written_by_one two table key [] locked wrote = tt
written_by_one two table key (b ∷ rest) locked wrote =
    elim (b.xid == two.other) as (λ c. (b.xid == two.other) ≡ c →
    ((c && is_on table key b) || has_written two.other table key rest) ≡ true →
    AllByRecursion (λ a. is_on table key a ≡ true → (a.xid == two.one) ≡ false) (b ∷ rest)) [
      | true ↦ λ own is. let same = eqb-true b.xid two.other own in
          elim (is_on table key b) as (λ c. is_on table key b ≡ c → (c || has_written two.other table key rest) ≡ true →
          AllByRecursion (λ a. is_on table key a ≡ true → (a.xid == two.one) ≡ false) (b ∷ rest)) [
            | true ↦
                λ on _. (
                  (λ _. differ_from two.one two.other b.xid same two.differ),
                  none_before two table key b rest locked.0 same on,
                )
            | false ↦
                λ off more. (
                  (λ on. absurd (false≢true (sym off ∙ on))),
                  written_by_one two table key rest locked.1 more,
                )
          ] refl is
      | false ↦
          λ differs is. (
            (λ on. one_before two table key b rest locked.0 on is),
            written_by_one two table key rest locked.1 is,
          )
    ] refl wrote

-- ---- holders

pub no_holder : (table key : List ℕ) (actions : List Action) → holder_in table key [] actions ≡ None
no_holder table key [] = refl
no_holder table key (a ∷ rest) =
    ap (λ b. cond b (Some a.xid) (holder_in table key [] rest)) (and_false (is_on table key a))
    ∙ no_holder table key rest
  where
    and_false : (b : Bool) → (b && false) ≡ false
    and_false true = refl
    and_false false = refl

-- ids that agree on the actions have the same holders
pub holders_agree : (table key : List ℕ) (xs ys : List ℕ) (actions : List Action) →
    AllByRecursion (λ a. member a.xid xs ≡ member a.xid ys) actions →
    holder_in table key xs actions ≡ holder_in table key ys actions
holders_agree table key xs ys [] agree = refl
holders_agree table key xs ys (a ∷ rest) agree =
    ap (λ b. cond (is_on table key a && b) (Some a.xid) (holder_in table key xs rest)) agree.0
    ∙ ap (cond (is_on table key a && member a.xid ys) (Some a.xid)) (holders_agree table key xs ys rest agree.1)

none_held : (table key : List ℕ) (xs : List ℕ) (actions : List Action) →
    AllByRecursion (λ a. is_on table key a ≡ true → member a.xid xs ≡ false) actions →
    holder_in table key xs actions ≡ None
none_held table key xs [] none = refl
none_held table key xs (a ∷ rest) none =
    elim (is_on table key a)
    as (λ b. is_on table key a ≡ b → cond (b && member a.xid xs) (Some a.xid) (holder_in table key xs rest)
    ≡ None) [
      | true ↦ λ on. ap (λ b. cond b (Some a.xid) (holder_in table key xs rest)) (none.0 on)
          ∙ none_held table key xs rest none.1
      | false ↦ λ off. none_held table key xs rest none.1
    ] refl

-- a holder after a transaction ended
abbrev pub freed : ℕ → Option ℕ → Option ℕ
freed x None = None
freed x (Some y) = cond (y == x) None (Some y)

-- what is open after a transaction ended: the others
pub record Ended (x : ℕ) (before after : List ℕ) : Type 0 where
  pub less : (z : ℕ) → member z after ≡ true → member z before ≡ true
  pub gone : member x after ≡ true → ⊥
  pub kept : (z : ℕ) → (z == x) ≡ false → member z before ≡ true → member z after ≡ true

pub ended_names : (x : ℕ) (name : List ℕ) (os : Named ℕ) → AreNamedOnce os → Rising (ids_of os) →
    find_named name os ≡ Some x → Ended x (ids_of os) (ids_of (without name os))
ended_names x name os named rising found = record {
  less = λ z is. member_without z name os is;
  gone = member_taken x name os named rising found;
  kept = λ z differ is. member_kept z x name os named found differ is;
}

held_before : {x : ℕ} {before after : List ℕ} (table key : List ℕ) (b : Action) (rest : List Action) →
    Ended x before after → AllByRecursion (λ a. IsLocked before a b) rest → b.xid ≡ x → is_on table key b ≡ true →
    AllByRecursion (λ a. is_on table key a ≡ true → member a.xid after ≡ false) rest
held_before table key b [] ended locked same on = tt
held_before {x} {before} {after} table key b (a ∷ rest) ended locked same on = (
  (λ also. false_from_ne_true _
      (λ is. ended.gone
      (ap (λ z. member z after)
      (sym (locked.0 (both_conflict table key a b also on) (ended.less a.xid is) ∙ same)) ∙ is))),
  held_before table key b rest ended locked.1 same on,
)

pub released : (table key : List ℕ) (x : ℕ) (before after : List ℕ) (actions : List Action) → Ended x before after →
    Pairs (IsLocked before) actions → holder_in table key after actions ≡ freed x (holder_in table key before actions)
released table key x before after [] ended locked = refl
released table key x before after (b ∷ rest) ended locked =
    elim (is_on table key b)
    as (λ c. is_on table key b ≡ c → cond (c && member b.xid after) (Some b.xid) (holder_in table key after rest)
    ≡ freed x (cond (c && member b.xid before) (Some b.xid) (holder_in table key before rest))) [
      | true ↦
          λ on. elim (member b.xid before)
          as (λ m. member b.xid before ≡ m → cond (member b.xid after) (Some b.xid) (holder_in table key after rest)
          ≡ freed x (cond m (Some b.xid) (holder_in table key before rest))) [
            | true ↦
                λ was. elim (b.xid == x)
                as (λ c. (b.xid == x) ≡ c → cond (member b.xid after) (Some b.xid) (holder_in table key after rest)
                ≡ cond c None (Some b.xid)) [
                  | true ↦ λ own. let same = eqb-true b.xid x own in
                      ap (λ m. cond m (Some b.xid) (holder_in table key after rest))
                      (false_from_ne_true _ (λ is. ended.gone (ap (λ z. member z after) (sym same) ∙ is)))
                      ∙ none_held table key after rest
                      (held_before table key b rest ended locked.0 same on)
                  | false ↦
                      λ other. ap (λ m. cond m (Some b.xid) (holder_in table key after rest))
                      (ended.kept b.xid other was)
                ] refl
            | false ↦
                λ was. ap (λ m. cond m (Some b.xid) (holder_in table key after rest))
                (false_from_ne_true _ (λ is. false≢true (sym was ∙ ended.less b.xid is)))
                ∙ released table key x before after rest ended locked.1
          ] refl
      | false ↦ λ off. released table key x before after rest ended locked.1
    ] refl
