-- Confirmations that are turned, row by row.
use Rattle.std.proofs.Common.{◌≡◌, ◌⊎◌, inl, inr, ℕ, Bool, true, false, cond, List, [], ◌∷◌, Option, Some, None, refl}
use Rattle.std.proofs.Common.{sym, ap, ◌∙◌, eq-eqb}
use Rattle.std.specs.Prelude.{◌==◌, ◌&&◌}
use Rattle.std.proofs.lemmas.Bool.{and_parts, and_from, false≢true, false_from_ne_true}
use borrow.Author.Tests.{eqb-true}
use Rattle.slon_base.specs.Codec.{AllAre}
use Rattle.slon_base.specs.Keeper.{Store}
use Rattle.store_rows.specs.Space.{AllOf, Alters}
use Rattle.store_rows.proofs.Spaces.{altered}
use Rattle.set_config.specs.Holds.{AreIds}
use Rattle.set_config.proofs.Entries.{pair_unique}
use Rattle.event_store.specs.Spellings.{IsStored}
use Rattle.event_store.specs.Giving.{Confirmation, Turn, turned, all_turned}
use Rattle.event_store.proofs.Listed.{Confirmed, Confirms}

-- ---- what stands

same_name : ℕ × ℕ → ℕ × ℕ → Bool
same_name j i = j.0 == i.0 && j.1 == i.1

same_itself : (j i : ℕ × ℕ) → j ≡ i → same_name j i ≡ true
unfolding same_name
same_itself j i is = and_from _ _ (eq-eqb j.0 i.0 (ap (λ k. k.0) is)) (eq-eqb j.1 i.1 (ap (λ k. k.1) is))

same_of : (j i : ℕ × ℕ) → same_name j i ≡ true → j ≡ i
unfolding same_name
same_of j i is =
    let parts = and_parts (j.0 == i.0) (j.1 == i.1) is in
    let first = eqb-true j.0 i.0 parts.0 in
    let second = eqb-true j.1 i.1 parts.1 in
    λ k. (first k, second k)

pub entry_turned : Turn → Confirmed → Confirmed
entry_turned None entry j = entry j
entry_turned (Some t) entry j = cond (same_name j t.0) t.1 (entry j)

pub all_entries : (Confirmation → Turn) → List Confirmation → Confirmed → Confirmed
all_entries turn [] entry = entry
all_entries turn (r ∷ rs) entry = all_entries turn rs (entry_turned (turn r) entry)

-- ---- the space

abbrev pub CanTurn : Turn → Type 0
CanTurn None = Unit {0}
CanTurn (Some t) = AreIds t.0 × AllOf IsStored t.1

alters_turned : (i : ℕ × ℕ) (now : Option ℕ) (entry : Confirmed) →
    Alters AreIds i now entry (entry_turned (Some (i, now)) entry)
unfolding entry_turned
alters_turned i now entry = record {
  here = ap (λ b. cond b now (entry i)) (same_itself i i refl);
  there = λ j ids differ. ap (λ b. cond b now (entry j))
      (false_from_ne_true _ (λ same. differ (same_of j i same)));
}

turned_space : (t : Turn) (entry : Confirmed) (m : Store) → CanTurn t → Confirms entry (m 11) →
    Confirms (entry_turned t entry) (turned t m 11)
unfolding entry_turned
turned_space None entry m can is = is
turned_space (Some (i, None)) entry m can is =
    altered (record { unique = pair_unique; one = can.0; can = can.1; alters = alters_turned i None entry }) is
turned_space (Some (i, Some n)) entry m can is =
    altered (record { unique = pair_unique; one = can.0; can = can.1; alters = alters_turned i (Some n) entry }) is

pub all_space : (turn : Confirmation → Turn) (rows : List Confirmation) (entry : Confirmed) (m : Store) →
    AllAre (λ r. CanTurn (turn r)) rows → Confirms entry (m 11) →
    Confirms (all_entries turn rows entry) (all_turned turn rows m 11)
unfolding all_entries
all_space turn [] entry m can is = is
all_space turn (r ∷ rs) entry m can is =
    all_space turn rs (entry_turned (turn r) entry) (turned (turn r) m) can.1
    (turned_space (turn r) entry m can.0 is)

turned_others : (t : Turn) (m : Store) (space : ℕ) → (space == 11) ≡ false → turned t m space ≡ m space
turned_others None m space other = refl
turned_others (Some (i, None)) m space other =
    ap (λ b. cond b (turned (Some (i, None)) m 11) (m space)) other
turned_others (Some (i, Some n)) m space other =
    ap (λ b. cond b (turned (Some (i, Some n)) m 11) (m space)) other

pub all_others : (turn : Confirmation → Turn) (rows : List Confirmation) (m : Store) (space : ℕ) →
    (space == 11) ≡ false → all_turned turn rows m space ≡ m space
all_others turn [] m space other = refl
all_others turn (r ∷ rs) m space other =
    all_others turn rs (turned (turn r) m) space other ∙ turned_others (turn r) m space other

-- ---- what becomes of one of them

-- if it turns what stands here, then to this
abbrev pub TurnsTo : ℕ × ℕ → Option ℕ → Turn → Type 0
TurnsTo j now None = Unit {0}
TurnsTo j now (Some t) = j ≡ t.0 → t.1 ≡ now

-- it turns what stands here
abbrev pub IsTurned : ℕ × ℕ → Turn → Type 0
IsTurned j None = ⊥
IsTurned j (Some t) = j ≡ t.0

abbrev pub HasTurn : (Confirmation → Turn) → ℕ × ℕ → List Confirmation → Type 0
HasTurn turn j [] = ⊥
HasTurn turn j (r ∷ rs) = IsTurned j (turn r) ⊎ HasTurn turn j rs

one_settled : {Later : Type 0} (t : Turn) (entry : Confirmed) (j : ℕ × ℕ) (now : Option ℕ) → TurnsTo j now t →
    (entry j ≡ now) ⊎ (IsTurned j t ⊎ Later) → (entry_turned t entry j ≡ now) ⊎ Later
unfolding entry_turned
one_settled None entry j now to (inl is) = inl is
one_settled None entry j now to (inr (inl here)) = absurd here
one_settled None entry j now to (inr (inr later)) = inr later
one_settled {Later} (Some t) entry j now to either =
    elim (same_name j t.0) as (λ b. same_name j t.0 ≡ b → (cond b t.1 (entry j) ≡ now) ⊎ Later) [
      | true ↦ λ is. inl (to (same_of j t.0 is))
      | false ↦ λ other. of other either
    ] refl
  where
    of : same_name j t.0 ≡ false → (entry j ≡ now) ⊎ (IsTurned j (Some t) ⊎ Later) → (entry j ≡ now) ⊎ Later
    of other (inl is) = inl is
    of other (inr (inl here)) = absurd (false≢true (sym other ∙ same_itself j t.0 here))
    of other (inr (inr later)) = inr later

-- where each row that turns it turns it to this, and it was this or one turns it, it is this
pub settled : (turn : Confirmation → Turn) (rows : List Confirmation) (entry : Confirmed) (j : ℕ × ℕ)
    (now : Option ℕ) → AllAre (λ r. TurnsTo j now (turn r)) rows → (entry j ≡ now) ⊎ HasTurn turn j rows →
    all_entries turn rows entry j ≡ now
unfolding all_entries
settled turn [] entry j now to (inl is) = is
settled turn [] entry j now to (inr none) = absurd none
settled turn (r ∷ rs) entry j now to either =
    settled turn rs (entry_turned (turn r) entry) j now to.1 (one_settled (turn r) entry j now to.0 either)
