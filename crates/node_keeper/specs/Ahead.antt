-- Pairs that were read ahead.
use Rattle.std.specs.Prelude.{◌≡◌, ℕ, List, length, take}
use Rattle.std.specs.FinMap.{entries}
use Rattle.slon_base.specs.Keeper.{Space, after}

-- these are the first pairs of the space with greater keys
abbrev pub IsAhead : List ℕ → List (List ℕ × List ℕ) → Space → Type 0
IsAhead key ahead space = take (length ahead) (after key (entries space)) ≡ ahead
