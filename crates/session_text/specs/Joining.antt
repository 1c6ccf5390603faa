-- Values with commas.
use Rattle.std.specs.Prelude.{ℕ, List, [], ◌∷◌, ◌++◌, codes}

-- each value behind a comma
abbrev pub behind_commas : List (List ℕ) → List ℕ
behind_commas [] = []
behind_commas (value ∷ more) = codes "," ++ value ++ behind_commas more
