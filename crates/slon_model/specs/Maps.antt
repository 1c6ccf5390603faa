-- Finite maps from ids, as lists of pairs that ascend by id; and maps from two ids, as maps of maps.
use Rattle.std.specs.Prelude.{ℕ, ◌==◌, if◌then◌else◌, not, nat_lt, List, [], ◌∷◌, filter, map, Option, Some, None}
use Rattle.std.specs.Prelude.{unwrap_or}

abbrev pub Map : Type 0 → Type 0
Map X = List (ℕ × X)

-- what stands at an id
abbrev pub entry_at : {X : Type 0} → ℕ → Map X → Option X
entry_at id [] = None
entry_at id (e ∷ es) = if id == e.0 then Some e.1 else entry_at id es

-- another entry at an id, which may be there
abbrev pub with_entry : {X : Type 0} → ℕ → X → Map X → Map X
with_entry id x [] = (id, x) ∷ []
with_entry id x (e ∷ es) =
    if nat_lt id e.0 then (id, x) ∷ e ∷ es else (if id == e.0 then (id, x) ∷ es else e ∷ with_entry id x es)

-- none at an id
abbrev pub without_entry : {X : Type 0} → ℕ → Map X → Map X
without_entry id es = filter (λ e. not (id == e.0)) es

-- the number at an id, or else 0
abbrev pub number_at : ℕ → Map ℕ → ℕ
number_at id m = unwrap_or (entry_at id m) 0

abbrev pub ids : {X : Type 0} → Map X → List ℕ
ids m = map (λ e. e.0) m

-- ---- two ids

abbrev pub Map2 : Type 0 → Type 0
Map2 X = List (ℕ × List (ℕ × X))

-- all entries whose first id is this one, by their second
abbrev pub row_at : {X : Type 0} → ℕ → Map2 X → Map X
row_at first m = unwrap_or (entry_at first m) []

abbrev pub pair_at : {X : Type 0} → ℕ → ℕ → Map2 X → Option X
pair_at first second m = entry_at second (row_at first m)

abbrev pub with_pair : {X : Type 0} → ℕ → ℕ → X → Map2 X → Map2 X
with_pair first second x m = with_entry first (with_entry second x (row_at first m)) m

abbrev pub without_pair : {X : Type 0} → ℕ → ℕ → Map2 X → Map2 X
without_pair first second m = with_entry first (without_entry second (row_at first m)) m
