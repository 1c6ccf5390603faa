-- The ties between the maps of a lock table, kept by each change.
use Rattle.std.proofs.Common.{◌≡◌, ℕ, Bool, true, false, cond, ◌==◌, ◌&&◌, ◌||◌, if◌then◌else◌, List, [], ◌∷◌, ◌++◌}
use Rattle.std.proofs.Common.{map, Option, Some, None, Vec, Result, Ok, Err, OnOk, MatchOption, bytes_eq, refl, sym}
use Rattle.std.proofs.Common.{◌∙◌, ap, subst}
use Rattle.std.proofs.lemmas.Bool.{and_parts, and_from, eq-eqb, false≢true}
use borrow.Author.Tests.{eqb-true}
use Rattle.std.specs.declared.alloc.Global.{Global}
use Rattle.std.specs.Ordering.{is_eq}
use Rattle.std.specs.Map.{lookup}
use Rattle.std.specs.Option.{option_map}
use Rattle.std.specs.Cmp.{nat_eq_equiv}
use Rattle.std.specs.Cmp.Lexicographic.{bytes_decides}
use Rattle.slon_base.specs.Keeper.{key_cmp}
use Rattle.txn_core.specs.Locks.{Locks, holder_of, holder_at, without, IsFree, IsFirstWriter}
use Rattle.txn_core.specs.LockMaps.{Keyed, HolderMap, WriterMap, OwnedMap, at_key, key_in, holder_in, locks_of}
use Rattle.txn_core.specs.LockMaps.{writes_in, IsFirst, owned_by, has_row, has_table, released, Tied}
use Rattle.txn_core.proofs.Holding.{Lock, is_on, here, without_own}

-- ---- the view

lookup-map : {V W : Type 0} (g : V → W) (test : List ℕ → Bool) (es : List (Vec ℕ Global × V)) →
    lookup test (map (λ e. (e.0.items, g e.1)) es) ≡ option_map g (lookup (λ k. test k.items) es)
lookup-map g test [] = refl
lookup-map g test (e ∷ es) =
    elim (test e.0.items) as (λ b. cond b (Some (g e.1)) (lookup test (map (λ e. (e.0.items, g e.1)) es)) ≡ option_map g
    (cond b (Some e.1) (lookup (λ k. test k.items) es))) [
      | true ↦ refl
      | false ↦ lookup-map g test es
    ]

option_map-same : {V : Type 0} (o : Option V) → option_map (λ v. v) o ≡ o
option_map-same None = refl
option_map-same (Some v) = refl

holder_at-keys : (key : List ℕ) (o : Option (Keyed ℕ)) →
    holder_at key (option_map (λ keys. map (λ f. (f.0.items, f.1)) keys.entries) o) ≡ key_in key o
holder_at-keys key None = refl
holder_at-keys key (Some keys) = lookup-map (λ v. v) (λ k. is_eq (key_cmp key k)) keys.entries
    ∙ option_map-same (at_key key keys)

pub holder_seen : (t k : List ℕ) (m : HolderMap) → holder_of t k (locks_of m) ≡ holder_in t k m
unfolding holder_of holder_in
holder_seen t k m = ap (holder_at k) (lookup-map (λ keys. map (λ f. (f.0.items, f.1)) keys.entries)
    (λ q. is_eq (key_cmp t q)) m.entries) ∙ holder_at-keys k (at_key t m)

pub whatever_passed : {T E P : Type 0} (r : Result T E) → P → OnOk r P
whatever_passed (Ok x) p = p
whatever_passed (Err e) p = tt

-- ---- rows among others

pub more_rows : (t k : List ℕ) (xs ys : List (List ℕ × List ℕ)) → has_row t k xs ≡ true → has_row t k (xs ++ ys) ≡ true
more_rows t k [] ys h = absurd (false≢true h)
more_rows t k (x ∷ xs) ys h =
    elim (bytes_eq x.0 t && bytes_eq x.1 k) as (λ b. (b || has_row t k xs) ≡ true →
    (b || has_row t k (xs ++ ys)) ≡ true) [
      | true ↦ λ _. refl
      | false ↦ λ e. more_rows t k xs ys e
    ] h

or_true : (b : Bool) → (b || true) ≡ true
or_true true = refl
or_true false = refl

or_false : (b : Bool) → b ≡ true → (b || false) ≡ true
or_false true e = refl
or_false false e = absurd (false≢true e)

pub last_row : (t k : List ℕ) (row : List ℕ × List ℕ) (xs : List (List ℕ × List ℕ)) →
    (bytes_eq row.0 t && bytes_eq row.1 k) ≡ true → has_row t k (xs ++ row ∷ []) ≡ true
last_row t k row [] e = or_false _ e
last_row t k row (x ∷ xs) e = ap (λ b. (bytes_eq x.0 t && bytes_eq x.1 k) || b) (last_row t k row xs e) ∙ or_true _

pub table_of_row : (t k : List ℕ) (rows : List (List ℕ × List ℕ)) → has_row t k rows ≡ true → has_table t rows ≡ true
table_of_row t k [] h = absurd (false≢true h)
table_of_row t k (x ∷ xs) h = by (bytes_eq x.0 t) (bytes_eq x.1 k) (table_of_row t k xs) h
  where
    by : (a b : Bool) → (has_row t k xs ≡ true → has_table t xs ≡ true) → ((a && b) || has_row t k xs) ≡ true →
        (a || has_table t xs) ≡ true
    by true b rest e = refl
    by false b rest e = rest e

-- ---- a loop that gives back the locks of rows

-- ---- the ties

-- The maps of a lock table.
pub record Maps : Type 0 where
  pub holders : HolderMap
  pub writers : WriterMap
  pub owned : OwnedMap

abbrev pub IsTied : Maps → Type 0
IsTied m = Tied m.holders m.writers m.owned

-- every lock is held by whom it was held before
abbrev pub SameHolders : HolderMap → HolderMap → Type 0
SameHolders h h' = (t k : List ℕ) → holder_in t k h' ≡ holder_in t k h

-- no transaction has a row less
abbrev pub Grows : OwnedMap → OwnedMap → Type 0
Grows o o' = (t k : List ℕ) (x : ℕ) → has_row t k (owned_by x o) ≡ true → has_row t k (owned_by x o') ≡ true

-- the lock is held by its transaction afterwards, and all others as before
abbrev pub Gives : Lock → HolderMap → HolderMap → Type 0
Gives l h h' = (t k : List ℕ) → holder_in t k h' ≡ (if is_on l t k then Some l.xid else holder_in t k h)

-- the row is among those of the transaction afterwards
abbrev pub Owns : Lock → OwnedMap → OwnedMap → Type 0
Owns l o o' =
    (x : ℕ) → owned_by x o' ≡ (if l.xid == x then owned_by x o ++ (l.table, l.key) ∷ [] else owned_by x o)

abbrev pub maps : HolderMap → WriterMap → OwnedMap → Maps
maps h w o = record { holders = h; writers = w; owned = o }

-- nothing is changed but that a transaction has more rows
pub tied_still : (m n : Maps) → IsTied m → SameHolders m.holders n.holders →
    ((t : List ℕ) (x : ℕ) → writes_in t x n.writers ≡ writes_in t x m.writers) → Grows m.owned n.owned → IsTied n
tied_still m n tied hs ws os = record {
  owns = λ t k x e. os t k x (tied.owns t k x (sym (hs t k) ∙ e));
  writes = λ t k x e. ws t x ∙ tied.writes t k x (sym (hs t k) ∙ e);
  wrote = λ t x e. let f = tied.wrote t x (sym (ws t x) ∙ e) in (f.0, hs t f.0 ∙ f.1);
}

-- the rows after one was added
pub rows_grow : (l : Lock) (o o' : OwnedMap) → Owns l o o' → Grows o o'
rows_grow l o o' os t k x h = ap (has_row t k) (os x)
    ∙ elim (l.xid == x) as (λ b. has_row t k (cond b (owned_by x o ++ (l.table, l.key) ∷ []) (owned_by x o)) ≡ true) [
      | true ↦ more_rows t k (owned_by x o) ((l.table, l.key) ∷ []) h
      | false ↦ h
    ]

-- a lock that was given and taken back at once
pub put_back : (l : Lock) (h h' h'' : HolderMap) → holder_in l.table l.key h ≡ None → Gives l h h' →
    ((t k : List ℕ) →
    holder_in t k h'' ≡ (if is_on l t k then without l.xid (holder_in t k h') else holder_in t k h')) →
    SameHolders h h''
put_back l h h' h'' free given back t k =
    back t k ∙ ap (λ o. cond (is_on l t k) (without l.xid o) o) (given t k)
    ∙ elim (is_on l t k) as (λ b. is_on l t k ≡ b →
    cond b (without l.xid (cond b (Some l.xid) (holder_in t k h))) (cond b (Some l.xid) (holder_in t k h))
    ≡ holder_in t k h) [
      | true ↦ λ e. without_own l.xid (Some l.xid) refl
          ∙ sym (here (λ a b. holder_in a b h ≡ None) l.table l.key t k free e)
      | false ↦ λ e. refl
    ] refl

some_one : (x y : ℕ) → Some x ≡ Some y → x ≡ y
some_one x y e = cc

none_held : (x : ℕ) (o : Option ℕ) → o ≡ None → o ≡ Some x → ⊥
none_held x o e f = cc

-- a lock that nobody held was given
pub tied_taken : (l : Lock) (m n : Maps) → IsTied m → holder_in l.table l.key m.holders ≡ None →
    Gives l m.holders n.holders →
    ((t : List ℕ) (x : ℕ) →
    writes_in t x n.writers ≡ (if bytes_eq l.table t && l.xid == x then true else writes_in t x m.writers)) →
    Owns l m.owned n.owned → IsTied n
tied_taken l m n tied free hs ws os = record {
  owns = λ t k x e. elim (is_on l t k) as (λ b. is_on l t k ≡ b →
      cond b (Some l.xid) (holder_in t k m.holders) ≡ Some x → has_row t k (owned_by x n.owned) ≡ true) [
        | true ↦ λ at e. ap (has_row t k) (os x
            ∙ ap (λ b. cond b (owned_by x m.owned ++ (l.table, l.key) ∷ []) (owned_by x m.owned))
            (eq-eqb l.xid x (some_one l.xid x e))) ∙ last_row t k (l.table, l.key) (owned_by x m.owned) at
        | false ↦ λ at e. rows_grow l m.owned n.owned os t k x (tied.owns t k x e)
      ] refl (sym (hs t k) ∙ e);
  writes = λ t k x e. ws t x ∙ elim (is_on l t k) as (λ b. is_on l t k ≡ b →
      cond b (Some l.xid) (holder_in t k m.holders) ≡ Some x →
      cond (bytes_eq l.table t && l.xid == x) true (writes_in t x m.writers) ≡ true) [
        | true ↦ λ at e. ap (λ b. cond b true (writes_in t x m.writers)) (and_from (bytes_eq l.table t) (l.xid == x)
            (and_parts (bytes_eq l.table t) (bytes_eq l.key k) at).0 (eq-eqb l.xid x (some_one l.xid x e)))
        | false ↦ λ at e. either (bytes_eq l.table t && l.xid == x) (writes_in t x m.writers) (tied.writes t k x e)
      ] refl (sym (hs t k) ∙ e);
  wrote = λ t x e. elim (bytes_eq l.table t && l.xid == x) as (λ b. (bytes_eq l.table t && l.xid == x) ≡ b →
      cond b true (writes_in t x m.writers) ≡ true → (k : List ℕ) × (holder_in t k n.holders ≡ Some x)) [
        | true ↦ λ at e.
            let p = and_parts (bytes_eq l.table t) (l.xid == x) at in (
              l.key,
              hs t l.key ∙ ap (λ b. cond b (Some l.xid) (holder_in t l.key m.holders)) (and_from (bytes_eq l.table t)
                  (bytes_eq l.key l.key) p.0 ((bytes_decides l.key l.key).1 refl)) ∙ ap Some (eqb-true l.xid x p.1),
            )
        | false ↦ λ at e. let f = tied.wrote t x e in (f.0, hs t f.0 ∙ kept t f.0 x f.1)
      ] refl (sym (ws t x) ∙ e);
}
  where
    either : (b c : Bool) → c ≡ true → cond b true c ≡ true
    either true c e = refl
    either false c e = e

    kept : (t k : List ℕ) (x : ℕ) → holder_in t k m.holders ≡ Some x →
        cond (is_on l t k) (Some l.xid) (holder_in t k m.holders) ≡ Some x
    kept t k x e = elim (is_on l t k) as (λ b. is_on l t k ≡ b →
        cond b (Some l.xid) (holder_in t k m.holders) ≡ Some x) [
          | true ↦
              λ at. absurd (none_held x (holder_in t k m.holders)
              (here (λ a b. holder_in a b m.holders ≡ None) l.table l.key t k free at) e)
          | false ↦ λ at. e
        ] refl

-- The rows of a transaction.
pub record Own (xid : ℕ) (m : Maps) : Type 0 where
  pub rows : List (List ℕ × List ℕ)
  pub all : rows ≡ owned_by xid m.owned

abbrev pub own_rows : (xid : ℕ) (m : Maps) (rows : List (List ℕ × List ℕ)) → rows ≡ owned_by xid m.owned → Own xid m
own_rows xid m rows all = record { rows = rows; all = all }

-- the transaction holds no lock afterwards, and all others are held as before
abbrev pub GivesBack : ℕ → HolderMap → HolderMap → Type 0
GivesBack xid h h' = (t k : List ℕ) → holder_in t k h' ≡ without xid (holder_in t k h)

-- all locks of a transaction were given back
pub all_released : (xid : ℕ) (m : Maps) (own : Own xid m) (h' : HolderMap) → IsTied m →
    ((t k : List ℕ) → holder_in t k h' ≡ released xid t k own.rows (holder_in t k m.holders)) →
    GivesBack xid m.holders h'
all_released xid m own h' tied hs t k =
    hs t k ∙ elim (has_row t k own.rows) as (λ b. has_row t k own.rows ≡ b →
    cond b (without xid (holder_in t k m.holders)) (holder_in t k m.holders) ≡ without xid (holder_in t k m.holders)) [
      | true ↦ λ e. refl
      | false ↦ λ e. other (holder_in t k m.holders) (λ held. absurd (false≢true (sym e ∙ ap (has_row t k) own.all
          ∙ tied.owns t k xid held)))
    ] refl
  where
    other : (held : Option ℕ) → (held ≡ Some xid → held ≡ without xid held) → held ≡ without xid held
    other None f = refl
    other (Some x) f = elim (x == xid) as (λ b. (x == xid) ≡ b → Some x ≡ cond {A = Option ℕ} b None (Some x)) [
      | true ↦ λ e. f (ap Some (eqb-true x xid e)) ∙ ap (λ b. cond {A = Option ℕ} b None (Some x)) e
      | false ↦ λ e. refl
    ] refl

-- who holds a lock afterwards held it before, and is another
still_held : (xid x : ℕ) (o : Option ℕ) → without xid o ≡ Some x → (o ≡ Some x) × ((xid == x) ≡ false)
still_held xid x None e = absurd (none_held x None refl e)
still_held xid x (Some y) e = elim (y == xid) as (λ b. (y == xid) ≡ b → cond {A = Option ℕ} b None (Some y) ≡ Some x →
    (Some y ≡ Some x) × ((xid == x) ≡ false)) [
      | true ↦ λ at e. absurd (none_held x None refl e)
      | false ↦ λ at e. (e, nat_eq_equiv.symm xid x ∙ ap (λ z. z == xid) (sym (some_one y x e)) ∙ at)
    ] refl e

pub tied_released : (xid : ℕ) (m n : Maps) (own : Own xid m) → IsTied m → GivesBack xid m.holders n.holders →
    ((t : List ℕ) (x : ℕ) →
    writes_in t x n.writers ≡ (if has_table t own.rows && xid == x then false else writes_in t x m.writers)) →
    ((x : ℕ) → owned_by x n.owned ≡ (if xid == x then [] else owned_by x m.owned)) → IsTied n
tied_released xid m n own tied hs ws os = record {
  owns = λ t k x e.
      let p = still_held xid x (holder_in t k m.holders) (sym (hs t k) ∙ e) in
      ap (has_row t k) (os x ∙ ap (λ b. cond b [] (owned_by x m.owned)) p.1) ∙ tied.owns t k x p.0;
  writes = λ t k x e.
      let p = still_held xid x (holder_in t k m.holders) (sym (hs t k) ∙ e) in
      ws t x ∙ unmoved (has_table t own.rows) (xid == x) (writes_in t x m.writers) p.1 ∙ tied.writes t k x p.0;
  wrote = λ t x e. elim (xid == x) as (λ b. (xid == x) ≡ b →
      cond (has_table t own.rows && b) false (writes_in t x m.writers) ≡ true →
      (k : List ℕ) × (holder_in t k n.holders ≡ Some x)) [
        | true ↦ λ at e. absurd (gone t x at e)
        | false ↦ λ at e.
            let f = tied.wrote t x (sym (unmoved (has_table t own.rows) false (writes_in t x m.writers) refl) ∙ e) in (
              f.0,
              hs t f.0 ∙ ap (without xid) f.1
                  ∙ ap (λ b. cond {A = Option ℕ} b None (Some x)) (nat_eq_equiv.symm x xid ∙ at),
            )
      ] refl (sym (ws t x) ∙ e);
}
  where
    unmoved : (a b c : Bool) → b ≡ false → cond (a && b) false c ≡ c
    unmoved true b c e = ap (λ d. cond d false c) e
    unmoved false b c e = refl

    both_out : (a c : Bool) → cond (a && true) false c ≡ true → (a ≡ false) × (c ≡ true)
    both_out true c e = absurd (false≢true e)
    both_out false c e = (refl, e)

    gone : (t : List ℕ) (x : ℕ) → (xid == x) ≡ true →
        cond (has_table t own.rows && true) false (writes_in t x m.writers) ≡ true → ⊥
    gone t x at e =
        let p = both_out (has_table t own.rows) (writes_in t x m.writers) e in
        let f = tied.wrote t x p.1 in
        let same = eqb-true xid x at in
        let row : has_row t f.0 own.rows ≡ true =
        ap (has_row t f.0) own.all ∙ tied.owns t f.0 xid (f.1 ∙ ap Some (sym same)) in
        false≢true (sym p.0 ∙ table_of_row t f.0 own.rows row)

-- the least transaction of the table's set is the first that holds a lock on it
pub first_writer : (table : List ℕ) (r : Option ℕ) (locks : Locks) (m : Maps) → IsTied m →
    ((t k : List ℕ) → holder_of t k locks ≡ holder_in t k m.holders) →
    MatchOption r ((x : ℕ) → writes_in table x m.writers ≡ false) (λ x. IsFirst table x m.writers) →
    MatchOption r ((k : List ℕ) → holder_of table k locks ≡ None) (λ x. IsFirstWriter x table locks)
first_writer table None locks m tied seen first = λ k. seen table k ∙ nobody k (holder_in table k m.holders) refl
  where
    nobody : (k : List ℕ) (held : Option ℕ) → holder_in table k m.holders ≡ held → held ≡ None
    nobody k None e = refl
    nobody k (Some x) e = absurd (false≢true (sym (first x) ∙ tied.writes table k x e))
first_writer table (Some x) locks m tied seen first = record {
  holds = let f = tied.wrote table x first.writes in (f.0, seen table f.0 ∙ f.1);
  least = λ k y e. first.least y (tied.writes table k y (sym (seen table k) ∙ e));
}

-- ---- a lock that is held

pub free_own : (xid x : ℕ) (o : Option ℕ) → o ≡ Some x → x ≡ xid → IsFree xid o
free_own xid x o e same = subst (IsFree xid) (sym e) same

pub free_none : (xid : ℕ) (o : Option ℕ) → o ≡ None → IsFree xid o
free_none xid o e = subst (IsFree xid) (sym e) tt

pub own_again : (xid : ℕ) (table key t k : List ℕ) (locks : Locks) → holder_of table key locks ≡ Some xid →
    holder_of t k locks ≡ (if bytes_eq table t && bytes_eq key k then Some xid else holder_of t k locks)
own_again xid table key t k locks e = elim (bytes_eq table t && bytes_eq key k) as (λ b. (bytes_eq table t
    && bytes_eq key k) ≡ b → holder_of t k locks ≡ cond b (Some xid) (holder_of t k locks)) [
      | true ↦ λ at. here (λ a b. holder_of a b locks ≡ Some xid) table key t k e at
      | false ↦ λ at. refl
    ] refl
