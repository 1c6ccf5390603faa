-- The entries of a map with keys of bytes.
use Rattle.std.specs.Prelude.{ℕ, List, map}
use Rattle.std.specs.Global.{Vec}

-- each key as its bytes
abbrev pub pairs : {V : Type 0} → List (Vec ℕ × V) → List (List ℕ × V)
pairs es = map (λ e. (e.0.items, e.1)) es
