-- What the key of a subscription says.
use Rattle.std.specs.Prelude.{◌≡◌, ℕ, ◌==◌, if◌then◌else◌, List, Option, Some, None}
use Rattle.std.specs.Option.{option_map}
use Rattle.store_rows.specs.Space.{AllOf}
use Rattle.set_config.specs.Holds.{AreIds, pair_key}

-- the key of a pair of ids, or no pair
pub record IsPairKey (found : Option (List ℕ × List ℕ)) : Type 0 where
  pub ids : Option (ℕ × ℕ)
  pub can : AllOf AreIds ids
  pub spelled : option_map (λ e. e.0) found ≡ option_map pair_key ids

-- the receiver of a subscription, if it is one to this set
abbrev pub receiver_of : ℕ → ℕ × ℕ → Option ℕ
receiver_of set i = if i.0 == set then Some i.1 else None
