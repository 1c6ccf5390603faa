-- Finite maps from names, as lists of pairs: what stands first under a name counts.
use Rattle.std.specs.Prelude.{ℕ, if◌then◌else◌, not, List, [], ◌∷◌, filter, Option, Some, None}
use Rattle.std.specs.Str.{bytes_eq}

abbrev pub Named : Type 0 → Type 0
Named X = List (List ℕ × X)

-- what stands under a name
abbrev pub find_named : {X : Type 0} → List ℕ → Named X → Option X
find_named name [] = None
find_named name (e ∷ es) = if bytes_eq name e.0 then Some e.1 else find_named name es

-- another entry under a name that is there
abbrev pub put_named : {X : Type 0} → List ℕ → X → Named X → Named X
put_named name x [] = []
put_named name x (e ∷ es) = if bytes_eq name e.0 then (e.0, x) ∷ es else e ∷ put_named name x es

-- what stands under other names
abbrev pub without : {X : Type 0} → List ℕ → Named X → Named X
without name es = filter (λ e. not (bytes_eq name e.0)) es
