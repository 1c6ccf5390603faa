-- The set of transactions of each table, after a change of one set.
use Rattle.std.proofs.Common.{◌≡◌, ℕ, Bool, true, false, cond, ◌==◌, ◌&&◌, if◌then◌else◌, List, [], Option, Some, None}
use Rattle.std.proofs.Common.{bytes_eq, ◌<◌, ◌≤◌, ◌↔◌, IsTrue, IsSome, IfSome, MatchOption, ◌∷◌, length, arith, refl}
use Rattle.std.proofs.Common.{sym, ◌∙◌, ap}
use Rattle.std.specs.Ordering.{is_eq, is_gt, nat_cmp, MatchOrdering}
use Rattle.std.specs.declared.cmp.Ordering.{Ordering}
use Rattle.std.specs.declared.cmp.Ordering.TheVariants.{Less, Equal, Greater}
use Rattle.std.specs.Cmp.{unsigned_tied, ranks}
use Rattle.std.specs.List.{list_any}
use Rattle.std.specs.Cmp.Lexicographic.{bytes_decides}
use Rattle.std.proofs.lemmas.Bool.{and_parts}
use Rattle.std.specs.BTreeSet.{BTreeSet, UpdatesBy, contains, btree_set_len, IsLowerBound}
use Rattle.txn_core.specs.LockMaps.{WriterMap, writes_in, at_key, xid_in, IsFirst}
use Rattle.txn_core.proofs.KeyedMaps.{Turned, within, within_same}

pub updated : (xid x : ℕ) (b : Bool) (s n : BTreeSet ℕ) → UpdatesBy nat_cmp (nat_cmp xid) s n b →
    contains nat_cmp n x ≡ cond (xid == x) b (contains nat_cmp s x)
updated xid x b s n u = u.0 x ∙ ap (λ t. cond t b (contains nat_cmp s x)) (unsigned_tied xid x)

pub same_keys : (x : ℕ) (s n : BTreeSet ℕ) → n.keys ≡ s.keys → contains nat_cmp n x ≡ contains nat_cmp s x
same_keys x s n e = ap (list_any (λ k. is_eq (nat_cmp x k))) e

pub no_keys : (x : ℕ) (s : BTreeSet ℕ) → s.keys ≡ [] → contains nat_cmp s x ≡ false
no_keys x s e = ap (list_any (λ k. is_eq (nat_cmp x k))) e

-- the transaction is put into the table's set, or taken out
pub writers_changed : (xid x : ℕ) (t : List ℕ) (b : Bool) (s : Turned (BTreeSet ℕ)) →
    contains nat_cmp s.value x ≡ cond (xid == x) b (xid_in x (at_key s.key s.old)) →
    writes_in t x s.new ≡ (if bytes_eq s.key t && xid == x then b else writes_in t x s.old)
unfolding writes_in
writers_changed xid x t b s e = within (xid_in x) (xid == x) b s t e

pub writers_same : (x : ℕ) (t : List ℕ) (s : Turned (BTreeSet ℕ)) →
    contains nat_cmp s.value x ≡ xid_in x (at_key s.key s.old) → writes_in t x s.new ≡ writes_in t x s.old
unfolding writes_in
writers_same x t s e = within_same (xid_in x) s t e

-- the table has no set
pub none_removed : (xid x : ℕ) (table t : List ℕ) (m n : WriterMap) → at_key table m ≡ None → n ≡ m →
    writes_in t x n ≡ (if bytes_eq table t && xid == x then false else writes_in t x m)
unfolding writes_in
none_removed xid x table t m n none e = ap (writes_in t x) e
    ∙ elim (bytes_eq table t && xid == x) as (λ b. (bytes_eq table t && xid == x) ≡ b →
    writes_in t x m ≡ cond b false (writes_in t x m)) [
      | true ↦ λ h. ap (xid_in x)
          (sym (ap (λ y. at_key y m) ((bytes_decides table t).0 (and_parts (bytes_eq table t) (xid == x) h).0)) ∙ none)
      | false ↦ λ h. refl
    ] refl

not_above : (k x : ℕ) → is_gt (nat_cmp k x) ≡ false → k ≤ x
not_above k x e = by (nat_cmp k x) (ranks k x) e
  where
    by : (o : Ordering) → MatchOrdering o (k < x) (k ≡ x) (x < k) → is_gt o ≡ false → k ≤ x
    by Less h e = omega (arith, h)
    by Equal h e = omega (arith, h)
    by Greater h e = cc

no_first : (x : ℕ) (ks : List ℕ) → (0 < length ks → ⊥) → list_any (λ k. is_eq (nat_cmp x k)) ks ≡ false
no_first x [] h = refl
no_first x (k ∷ ks) h = absurd (h (omega arith))

-- the least of the table's set is its least transaction
pub first_is_least : (table : List ℕ) (set : BTreeSet ℕ) (m : WriterMap) (found : Option ℕ) → Some set ≡ at_key table m
    → (IsSome found ↔ (0 < btree_set_len set)) → IfSome found (λ k. IsTrue (contains nat_cmp set k)) →
    IfSome found (λ k. IsLowerBound nat_cmp set k)
    → MatchOption found ((x : ℕ) → writes_in table x m ≡ false) (λ x. IsFirst table x m)
unfolding writes_in
first_is_least table set m None is variant has least = λ x. sym (ap (xid_in x) is)
    ∙ no_first x set.keys (λ h. true_is (variant.1 h))
  where
    true_is : false ≡ true → ⊥
    true_is e = cc
first_is_least table set m (Some k) is variant has least = record {
  writes = sym (ap (xid_in k) is) ∙ has;
  least = λ x h. not_above k x (least x (ap (xid_in x) is ∙ h));
}
