-- The rows of each transaction, after a change of those of one.
use Rattle.std.proofs.Common.{◌≡◌, ℕ, Bool, true, false, cond, ◌==◌, if◌then◌else◌, List, [], ◌∷◌, ◌++◌, Option, Some}
use Rattle.std.proofs.Common.{None, Vec, refl, ◌∙◌, ap}
use Rattle.std.specs.declared.alloc.Global.{Global}
use Rattle.std.specs.Ordering.{is_eq, nat_cmp}
use Rattle.std.specs.Cmp.{unsigned_tied}
use Rattle.std.specs.BTreeMap.{UpdatesBy, get}
use borrow.Author.Tests.{eqb-true}
use Rattle.txn_core.specs.LockMaps.{OwnedMap, owned_by, rows_of}

rows_of-cond : (b : Bool) (w o : Option (Vec (List ℕ × List ℕ) Global)) → rows_of (cond b w o) ≡ cond b (rows_of w)
    (rows_of o)
rows_of-cond true w o = refl
rows_of-cond false w o = refl

pub changed : (xid x : ℕ) (w : Option (Vec (List ℕ × List ℕ) Global)) (m n : OwnedMap) →
    UpdatesBy nat_cmp (nat_cmp xid) m n w → owned_by x n ≡ (if xid == x then rows_of w else owned_by x m)
unfolding owned_by
changed xid x w m n u = ap rows_of (u.0 x) ∙ rows_of-cond (is_eq (nat_cmp xid x)) w (get nat_cmp m x)
    ∙ ap (λ b. cond b (rows_of w) (rows_of (get nat_cmp m x))) (unsigned_tied xid x)

pub taken_out : (xid x : ℕ) (m n : OwnedMap) → UpdatesBy nat_cmp (nat_cmp xid) m n None →
    owned_by x n ≡ (if xid == x then [] else owned_by x m)
taken_out xid x m n u = changed xid x None m n u

-- the rows of the transaction are those before and one more
pub one_more : (xid x : ℕ) (row : List ℕ × List ℕ) (v : Vec (List ℕ × List ℕ) Global) (m n : OwnedMap) →
    UpdatesBy nat_cmp (nat_cmp xid) m n (Some v) → v.items ≡ owned_by xid m ++ row ∷ [] →
    owned_by x n ≡ (if xid == x then owned_by x m ++ row ∷ [] else owned_by x m)
one_more xid x row v m n u e = changed xid x (Some v) m n u ∙ elim (xid == x) as (λ b. (xid == x) ≡ b →
    cond b v.items (owned_by x m) ≡ cond b (owned_by x m ++ row ∷ []) (owned_by x m)) [
      | true ↦ λ h. e ∙ ap (λ y. owned_by y m ++ row ∷ []) (eqb-true xid x h)
      | false ↦ λ h. refl
    ] refl

-- what was there stays
pub kept : (xid x : ℕ) (v : Vec (List ℕ × List ℕ) Global) (m n : OwnedMap) → UpdatesBy nat_cmp (nat_cmp xid) m n
    (Some v) → v.items ≡ owned_by xid m → owned_by x n ≡ owned_by x m
kept xid x v m n u e = changed xid x (Some v) m n u ∙ elim (xid == x) as (λ b. (xid == x) ≡ b →
    cond b v.items (owned_by x m) ≡ owned_by x m) [
      | true ↦ λ h. e ∙ ap (λ y. owned_by y m) (eqb-true xid x h)
      | false ↦ λ h. refl
    ] refl
