-- What is copied of one store into another.
use Rattle.std.specs.Prelude.{ℕ, ◌==◌, if◌then◌else◌, List, [], ◌∷◌}
use Rattle.std.specs.FinMap.{insert, entries}
use Rattle.slon_base.specs.Keeper.{Space, Store, after}

-- a space with these pairs put into it, one after the other
abbrev pub with_pairs : List (List ℕ × List ℕ) → Space → Space
with_pairs [] space = space
with_pairs (e ∷ es) space = with_pairs es (insert space e.0 e.1)

-- a store with these pairs put into one space
abbrev pub put_pairs : ℕ → List (List ℕ × List ℕ) → Store → Store
put_pairs space es m = λ other. if other == space then with_pairs es (m space) else m other

-- the pairs of a space, but for one whose key has no byte
abbrev pub pairs_of : Space → List (List ℕ × List ℕ)
pairs_of space = after [] (entries space)

-- the pairs of these spaces of a store put into another one
abbrev pub copied : List ℕ → Store → Store → Store
copied [] from to = to
copied (space ∷ spaces) from to = copied spaces from (put_pairs space (pairs_of (from space)) to)
