-- The rows of the space of confirmations, as a list.
use Rattle.std.proofs.Common.{◌≡◌, ◌⊎◌, inl, inr, ℕ, true, false, cond, List, [], ◌∷◌, Option, Some, refl, ◌∙◌}
use Rattle.std.specs.FinMap.{entries}
use Rattle.slon_base.specs.Codec.{number_bytes, AllAre}
use Rattle.slon_base.specs.Keeper.{Space, after}
use Rattle.store_rows.specs.Scan.{ranged, spelled_rows}
use Rattle.store_rows.specs.Space.{IsSpace}
use Rattle.set_config.specs.Holds.{AreIds, pair_key}
use Rattle.set_config.specs.Loaded.{same_pair}
use Rattle.set_config.specs.Rows.{row_of}
use Rattle.set_config.proofs.Keyed.{pair_test, pair_range}
use Rattle.set_config.proofs.Ranges.{scanned_rows, row_found}
use Rattle.event_store.specs.Spellings.{IsStored}
use Rattle.event_store.specs.Giving.{Confirmation, IsConfirmation}
pub use Rattle.set_config.proofs.Ranges.{are_map}

-- how far each node is in each stream
abbrev pub Confirmed : Type 0
Confirmed = ℕ × ℕ → Option ℕ

abbrev pub Confirms : Confirmed → Space → Type 0
Confirms entry space = IsSpace pair_key AreIds number_bytes IsStored entry space

abbrev pub IsIn : {X : Type 0} → X → List X → Type 0
IsIn x [] = ⊥
IsIn x (y ∷ ys) = (x ≡ y) ⊎ IsIn x ys

-- these are all rows of the space, and each is what stands
pub record Listed (entry : Confirmed) (space : Space) : Type 0 where
  pub rows : List Confirmation
  pub can : AllAre IsConfirmation rows
  pub spelled : ranged [] (after [] (entries space)) ≡ spelled_rows [] pair_key number_bytes rows
  pub stand : AllAre (λ r. entry r.0 ≡ Some r.1) rows
  pub all : (i : ℕ × ℕ) → AreIds i → (n : ℕ) → entry i ≡ Some n → IsIn (i, n) rows

-- what is found for two ids is one of the rows
is_in : (i : ℕ × ℕ) (n : ℕ) (rows : List Confirmation) → row_of same_pair i rows ≡ Some n → IsIn (i, n) rows
is_in i n [] found = absurd cc
is_in i n (r ∷ rs) found =
    elim (same_pair i r.0) as (λ b. same_pair i r.0 ≡ b → cond b (Some r.1) (row_of same_pair i rs) ≡ Some n →
    IsIn (i, n) (r ∷ rs)) [
      | true ↦ λ same here.
          let ids = pair_test.of i r.0 same in
          let number : n ≡ r.1 = cc in
          inl (λ k. (ids k, number k))
      | false ↦ λ other behind. inr (is_in i n rs behind)
    ] refl found

pub listed : {entry : Confirmed} (space : Space) → Confirms entry space → Listed entry space
listed space is =
    let r = scanned_rows space pair_range is in
    record {
      rows = r.rows;
      can = r.can;
      spelled = r.spelled;
      stand = r.stand;
      all = λ i ids n at. is_in i n r.rows (row_found space i pair_test pair_range is r ids ∙ at);
    }
