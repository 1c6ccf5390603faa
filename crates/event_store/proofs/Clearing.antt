-- A space whose pairs are taken away, one after the other.
use Rattle.std.proofs.Common.{◌≡◌, ℕ, ◌+◌, ◌≤◌, ◌<◌, Bool, true, false, cond, List, [], ◌∷◌, length, Option, Some, None}
use Rattle.std.proofs.Common.{refl, sym, ap, ◌∙◌, arith, option_map, is_some, eq-eqb, unwrap_or}
use Rattle.std.specs.Prelude.{◌-◌}
use Rattle.std.specs.Ordering.{is_eq}
use Rattle.std.specs.Cmp.Lexicographic.{nat_list_cmp_total}
use Rattle.std.specs.FinMap.{get, remove, entries, len, contains_key, get-entries, get-remove, len-remove, len-entries}
use Rattle.std.specs.FinMap.{entries_sorted}
use Rattle.slon_base.specs.Keeper.{Store, Kept, key_cmp, sight, after, first, del_at}
use Rattle.slon_base.proofs.Order.{Entries, after-next}
use Rattle.store_rows.specs.Space.{IsPending}
use Rattle.set_config.proofs.Entries.{not_eq}
use Rattle.event_store.specs.Giving.{IsCleared}

-- This many pairs are taken away, and those that are left were there.
pub record Clearing (space : ℕ) (m : Store) (k : Kept) (n : ℕ) : Type 0 where
  pub store : Store
  pub is : k.pending ≡ Some (Some store)
  pub within : (q v : List ℕ) → get (store space) q ≡ Some v → get (m space) q ≡ Some v
  pub others : (other : ℕ) → (other ≡ space → ⊥) → store other ≡ m other
  pub count : len (store space) + n ≤ len (m space)

pub none_cleared : (space : ℕ) (m : Store) (old mid : Kept) → old.pending ≡ Some (Some m) →
    mid.pending ≡ old.pending → Clearing space m mid 0
none_cleared space m old mid is same = record {
  store = m;
  is = same ∙ is;
  within = λ q v got. got;
  others = λ other differ. refl;
  count = omega arith;
}

pub sees_pending : (k : Kept) (m : Store) → k.pending ≡ Some (Some m) → sight k ≡ Some m
sees_pending k m is = ap (λ o. unwrap_or o k.held) is

pub sees_left : {space : ℕ} {m : Store} {k : Kept} {n : ℕ} (c : Clearing space m k n) → sight k ≡ Some c.store
sees_left {k = k} c = sees_pending k c.store c.is

-- ---- one more

first_is : (es : Entries) (e : List ℕ × List ℕ) → Some e ≡ first es → (more : Entries) × (es ≡ e ∷ more)
first_is [] e is = absurd cc
first_is (f ∷ fs) e is = let same : e ≡ f = cc in (fs, ap (λ x. x ∷ fs) (sym same))

left_out : (b : Bool) (o : Option (List ℕ)) (v : List ℕ) → cond b None o ≡ Some v → o ≡ Some v
left_out true o v is = absurd cc
left_out false o v is = is

pub one_more : {space : ℕ} {m : Store} {old : Kept} {n : ℕ} (mid new : Kept) (c : Clearing space m old n)
    (e : List ℕ × List ℕ) → n < len (m space) → mid.pending ≡ old.pending →
    Some e ≡ first (after [] (entries (c.store space))) →
    new.pending ≡ option_map (option_map (del_at space e.0)) mid.pending → Clearing space m new (n + 1)
one_more {space} {m} {old} {n} mid new c e fewer same next put =
    let left = c.store space in
    let there = first_is (after [] (entries left)) e next in
    let found = (after-next [] (entries left) e there.0 (entries_sorted left) there.1).0 in
    let has : contains_key left e.0 ≡ true = ap is_some (get-entries left e.0 ∙ found) in
    let here : del_at space e.0 c.store space ≡ remove left e.0 =
    ap (λ b. cond b (remove left e.0) left) (eq-eqb space space refl) in
    record {
      store = del_at space e.0 c.store;
      is = put ∙ ap (option_map (option_map (del_at space e.0))) (same ∙ c.is);
      within = λ q v got. c.within q v (left_out (is_eq (key_cmp q e.0)) (get left q) v
          (sym (get-remove nat_list_cmp_total left e.0 q) ∙ ap (λ s. get s q) (sym here) ∙ got));
      others = λ other differ. ap (λ b. cond b (remove left e.0) (c.store other)) (not_eq other space differ)
          ∙ c.others other differ;
      count = omega (
        arith,
        fewer,
        c.count,
        ap len here ∙ len-remove nat_list_cmp_total left e.0 ∙ ap (λ b. cond b (len left - 1) (len left)) has,
      );
    }

-- ---- all

first_none : (es : Entries) → None ≡ first es → es ≡ []
first_none [] is = refl
first_none (e ∷ es) is = absurd cc

none_after : (es : Entries) → length es ≤ 0 → after [] es ≡ []
none_after [] few = refl
none_after (e ∷ es) few = absurd (omega (arith, few))

pub all_gone : {space : ℕ} {m : Store} {old : Kept} {n : ℕ} (new : Kept) (c : Clearing space m old n) →
    new.pending ≡ old.pending → None ≡ first (after [] (entries (c.store space))) → IsPending (IsCleared space m) new
all_gone {space} new c same none = record {
  store = c.store;
  is = same ∙ c.is;
  has = record { gone = first_none (after [] (entries (c.store space))) none; within = c.within; others = c.others };
}

pub all_counted : {space : ℕ} {m : Store} {k : Kept} {n : ℕ} (c : Clearing space m k n) → len (m space) ≤ n →
    IsPending (IsCleared space m) k
all_counted {space} c all = record {
  store = c.store;
  is = c.is;
  has = record {
    gone = none_after (entries (c.store space)) (omega (arith, all, c.count, len-entries (c.store space)));
    within = c.within;
    others = c.others;
  };
}
