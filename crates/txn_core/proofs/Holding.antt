-- Who holds the lock of a row, after a change at one row.
use Rattle.std.proofs.Common.{◌≡◌, ℕ, Bool, true, false, cond, eqb, ◌&&◌, List, Option, Some, None, bytes_eq, refl, sym}
use Rattle.std.proofs.Common.{◌∙◌}
use Rattle.std.proofs.Common.{ap, subst}
use Rattle.std.proofs.lemmas.Bool.{and_parts, eq-eqb}
use borrow.Author.Tests.{eqb-true}
use Rattle.std.specs.Option.{option_eq}
use Rattle.std.specs.Cmp.Lexicographic.{bytes_decides}
use Rattle.txn_core.specs.Locks.{without}
use Rattle.txn_core.specs.LockMaps.{HolderMap, holder_in}

-- what holds of the row holds where the row is named
pub here : (P : List ℕ → List ℕ → Type 0) (table key t k : List ℕ) → P table key →
    (bytes_eq table t && bytes_eq key k) ≡ true → P t k
here P table key t k p e =
    let h = and_parts (bytes_eq table t) (bytes_eq key k) e in
    subst (λ x. P x k) ((bytes_decides table t).0 h.0) (subst (P table) ((bytes_decides key k).0 h.1) p)

pub is_held : (o : Option ℕ) (xid : ℕ) → option_eq eqb o (Some xid) ≡ true → o ≡ Some xid
is_held None xid e = cc
is_held (Some x) xid e = ap Some (eqb-true x xid e)

pub not_held : (o : Option ℕ) (xid : ℕ) → option_eq eqb o (Some xid) ≡ false → without xid o ≡ o
not_held None xid e = refl
not_held (Some x) xid e = ap (λ b. cond {A = Option ℕ} b None (Some x)) e

pub without_own : (xid : ℕ) (o : Option ℕ) → o ≡ Some xid → without xid o ≡ None
without_own xid o e = ap (without xid) e ∙ ap (λ b. cond {A = Option ℕ} b None (Some xid)) (eq-eqb xid xid refl)

-- A lock of a row, of a transaction.
pub record Lock : Type 0 where
  pub xid : ℕ
  pub table : List ℕ
  pub key : List ℕ

-- it is on this row
abbrev pub is_on : Lock → List ℕ → List ℕ → Bool
is_on l t k = bytes_eq l.table t && bytes_eq l.key k

-- the lock of the row is taken from the transaction that holds it
pub taken_back : (l : Lock) (t k : List ℕ) (m n : HolderMap) → holder_in l.table l.key m ≡ Some l.xid →
    holder_in t k n ≡ cond (is_on l t k) None (holder_in t k m) →
    holder_in t k n ≡ cond (is_on l t k) (without l.xid (holder_in t k m)) (holder_in t k m)
taken_back l t k m n held e = e ∙ elim (is_on l t k) as (λ b. is_on l t k ≡ b →
    cond b None (holder_in t k m) ≡ cond b (without l.xid (holder_in t k m)) (holder_in t k m)) [
      | true ↦
          λ h. sym (without_own l.xid (holder_in t k m)
          (here (λ x y. holder_in x y m ≡ Some l.xid) l.table l.key t k held h))
      | false ↦ λ h. refl
    ] refl

-- the transaction holds no lock of the row, and nothing is changed
pub left_so : (l : Lock) (t k : List ℕ) (m n : HolderMap) →
    without l.xid (holder_in l.table l.key m) ≡ holder_in l.table l.key m → holder_in t k n ≡ holder_in t k m →
    holder_in t k n ≡ cond (is_on l t k) (without l.xid (holder_in t k m)) (holder_in t k m)
left_so l t k m n other e = e ∙ elim (is_on l t k) as (λ b. is_on l t k ≡ b →
    holder_in t k m ≡ cond b (without l.xid (holder_in t k m)) (holder_in t k m)) [
      | true ↦
          λ h. sym (here (λ x y. without l.xid (holder_in x y m) ≡ holder_in x y m) l.table l.key t k other h)
      | false ↦ λ h. refl
    ] refl
