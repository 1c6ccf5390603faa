-- Locks of rows, and the order that they make.
use Rattle.std.proofs.Common.{◌≡◌, ℕ, true, false, cond, List, [], ◌∷◌, Some, refl, sym, subst, ◌∙◌, inl, inr}
use Rattle.std.specs.Prelude.{◌==◌, ◌&&◌}
use Rattle.std.specs.List.{AllByRecursion}
use Rattle.std.specs.Str.{bytes_eq}
use Rattle.std.proofs.lemmas.Bool.{false≢true, eqb-true, eq-eqb, or_cases, and_parts, and_from}
use Rattle.slon_model.specs.Rows.{Action, change_key, touches, is_on, member, holder_in}
use Rattle.slon_laws.specs.Sound.{meets, conflicts, Pairs, IsLocked, before, IsOrdered}
use Rattle.slon_laws.specs.Allowed.{IsFree}
use Rattle.slon_model.proofs.Names.{bytes_same, bytes_itself, bytes_turned, all_map}

-- ---- pairs

pub pairs_map : (Q : Action → Type 0) (P R : Action → Action → Type 0) (f : (a b : Action) → Q a → P a b → R a b)
    (actions : List Action) → AllByRecursion Q actions → Pairs P actions → Pairs R actions
pairs_map Q P R f [] all pairs = tt
pairs_map Q P R f (b ∷ rest) all pairs = (heads rest all.1 pairs.0, pairs_map Q P R f rest all.1 pairs.1)
  where
    heads : (xs : List Action) → AllByRecursion Q xs → AllByRecursion (λ a. P a b) xs → AllByRecursion (λ a. R a b) xs
    heads [] qs ps = tt
    heads (a ∷ xs) qs ps = (f a b qs.0 ps.0, heads xs qs.1 ps.1)

pub pairs_both : (P O R : Action → Action → Type 0) (f : (a b : Action) → P a b → O a b → R a b)
    (actions : List Action) → Pairs P actions → Pairs O actions → Pairs R actions
pairs_both P O R f [] ps os = tt
pairs_both P O R f (b ∷ rest) ps os = (heads rest ps.0 os.0, pairs_both P O R f rest ps.1 os.1)
  where
    heads : (xs : List Action) → AllByRecursion (λ a. P a b) xs → AllByRecursion (λ a. O a b) xs →
        AllByRecursion (λ a. R a b) xs
    heads [] qs rs = tt
    heads (a ∷ xs) qs rs = (f a b qs.0 rs.0, heads xs qs.1 rs.1)

pub pairs_each : (P R : Action → Action → Type 0) (f : (a b : Action) → P a b → R a b) (actions : List Action) →
    Pairs P actions → Pairs R actions
pairs_each P R f actions pairs = pairs_both P P R (λ a b one other. f a b one) actions pairs pairs

-- ---- rows

-- two actions in conflict are on one row
pub one_row : (a b : Action) → conflicts a b ≡ true → (a.table ≡ b.table) × (change_key a.change ≡ change_key b.change)
one_row a b is =
    let parts = and_parts (bytes_eq a.table b.table) (meets a.change b.change) is in
    (bytes_same a.table b.table parts.0, bytes_same (change_key a.change) (change_key b.change) (parts.1))

pub from_one_row : (a b : Action) → a.table ≡ b.table → change_key a.change ≡ change_key b.change → conflicts a b ≡ true
from_one_row a b tables keys =
    and_from (bytes_eq a.table b.table) (meets a.change b.change) (same a.table b.table tables)
    (same (change_key a.change) (change_key b.change) keys)
  where
    same : (x y : List ℕ) → x ≡ y → bytes_eq x y ≡ true
    same x y is = subst (λ z. bytes_eq x z ≡ true) is (bytes_itself x)

pub on_row : (table key : List ℕ) (a : Action) → is_on table key a ≡ true → (table ≡ a.table)
    × (key ≡ change_key a.change)
on_row table key a is =
    let parts = and_parts (bytes_eq table a.table) (touches key a.change) is in
    (bytes_same table a.table parts.0, bytes_same key (change_key a.change) (parts.1))

pub conflict_on : (a b : Action) → conflicts a b ≡ true → is_on b.table (change_key b.change) a ≡ true
conflict_on a b is =
    let parts = and_parts (bytes_eq a.table b.table) (meets a.change b.change) is in
    and_from (bytes_eq b.table a.table) (touches (change_key b.change) a.change) (bytes_turned a.table b.table parts.0)
    (bytes_turned (change_key a.change) (change_key b.change) (parts.1))

-- ---- the holder of a row

-- a row that no other transaction holds can be written
pub holder_frees : (new : Action) (xids : List ℕ) (actions : List Action) →
    IsFree new.xid (holder_in new.table (change_key new.change) xids actions) → Pairs (IsLocked xids) actions →
    AllByRecursion (λ a. IsLocked xids a new) actions
holder_frees new xids [] free pairs = tt
holder_frees new xids (c ∷ rest) free pairs =
    elim (is_on new.table (change_key new.change) c && member c.xid xids)
    as (λ b. (is_on new.table (change_key new.change) c && member c.xid xids) ≡ b →
    IsFree new.xid (cond b (Some c.xid) (holder_in new.table (change_key new.change) xids rest)) →
    AllByRecursion (λ a. IsLocked xids a new) (c ∷ rest)) [
      | true ↦
          λ is own. (
            (λ conflict is_open. own),
            all_map (λ a. IsLocked xids a c) (λ a. IsLocked xids a new)
                (λ a locked. through a is own locked) rest pairs.0,
          )
      | false ↦
          λ not free_behind. (
            (λ conflict is_open.
                absurd (false≢true (sym not ∙ and_from (is_on new.table (change_key new.change) c) (member c.xid xids)
                (conflict_on c new conflict) is_open))),
            holder_frees new xids rest free_behind pairs.1,
          )
    ] refl free
  where
    through : (a : Action) → (is_on new.table (change_key new.change) c && member c.xid xids) ≡ true → c.xid ≡ new.xid →
        IsLocked xids a c → IsLocked xids a new
    through a is own locked conflict is_open =
        let row = one_row a new conflict in
        let here =
        on_row new.table (change_key new.change) c
        (and_parts (is_on new.table (change_key new.change) c) (member c.xid xids) is).0 in
        locked (from_one_row a c (row.0 ∙ here.0) (row.1 ∙ here.1)) is_open ∙ own

-- ---- the order of commits

-- a commit comes last: what it comes after is no open transaction of the same row
pub order_committed : (x : ℕ) (xids commits : List ℕ) → member x xids ≡ true → (a b : Action) → IsLocked xids a b →
    IsOrdered commits a b → IsOrdered (x ∷ commits) a b
order_committed x xids commits is_open a b locked ordered conflict differ came_a came_b =
    elim (x == b.xid) as (λ c. (x == b.xid) ≡ c → cond c (member a.xid commits) (before a.xid b.xid commits) ≡ true) [
      | true ↦ λ is. earlier
      | false ↦ λ not. ordered conflict differ earlier (elim (or_cases (b.xid == x) (member b.xid commits) came_b) [
        | inl same ↦ absurd (false≢true (sym not ∙ eq-eqb x b.xid (sym (eqb-true b.xid x same))))
        | inr came ↦ came
      ])
    ] refl
  where
    earlier : member a.xid commits ≡ true
    earlier = elim (or_cases (a.xid == x) (member a.xid commits) came_a) [
      | inl same ↦
          absurd (differ (locked conflict (subst (λ y. member y xids ≡ true) (sym (eqb-true a.xid x same)) is_open)))
      | inr came ↦ came
    ]
