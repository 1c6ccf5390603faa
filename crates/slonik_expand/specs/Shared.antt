-- What definitions stand for whose parts are tokens and earlier definitions.
use Rattle.std.specs.Prelude.{ℕ, ◌+◌, ◌-◌, ◌^◌, min, nat_lt, ◌&&◌, Bool, true, List, [], ◌∷◌, ◌++◌, slice_get}
use Rattle.std.specs.Prelude.{slice_index_or, Option, Some, None}
use Rattle.slonik_tokens.specs.declared.token.Token.{Token}
use Rattle.slonik_expand.specs.declared.definition.Part.{Part}
use Rattle.slonik_expand.specs.declared.definition.Part.TheVariants.{Single, Earlier}
use Rattle.slonik_expand.specs.declared.definition.Definition.{Definition}

-- a number that counting ends at
abbrev pub capped : ℕ → ℕ
capped n = min n (2 ^ 64 - 1)

-- what a part stands for, where the table has what each definition stands for
unfoldable pub part_tokens : List (List Token) → Part → List Token
part_tokens table (Single token) = token ∷ []
part_tokens table (Earlier place) = slice_index_or table place []

-- what parts stand for, where the table has what each definition stands for
unfoldable pub parts_tokens : List (List Token) → List Part → List Token
parts_tokens table [] = []
parts_tokens table (part ∷ parts) = part_tokens table part ++ parts_tokens table parts

-- The values of some definitions, behind those of the definitions before them. A definition's value is made of its
-- parts and
-- of the values before it.
unfoldable pub values_behind : {X : Type 0} → (List X → List Part → X) → List X → List Definition → List X
values_behind value table [] = table
values_behind value table (definition ∷ made) =
    values_behind value (table ++ value table definition.parts.items ∷ []) made

-- what each definition stands for
unfoldable pub meanings : List Definition → List (List Token)
meanings made = values_behind parts_tokens [] made

-- what the definition at a place stands for
unfoldable pub meaning : List Definition → ℕ → List Token
meaning made place = slice_index_or (meanings made) place []

-- a token, or a definition before a place
unfoldable pub is_below : ℕ → Part → Bool
is_below place (Single token) = true
is_below place (Earlier other) = nat_lt other place

unfoldable pub are_below : ℕ → List Part → Bool
are_below place [] = true
are_below place (part ∷ parts) = is_below place part && are_below place parts

-- the parts of each definition, of which the first stands at a place, are tokens and definitions before it
unfoldable pub are_ordered : ℕ → List Definition → Bool
are_ordered place [] = true
are_ordered place (definition ∷ made) = are_below place definition.parts.items && are_ordered (place + 1) made

-- the parts of a definition, if there is one
abbrev pub parts_in : Option Definition → List Part
parts_in None = []
parts_in (Some definition) = definition.parts.items

-- the parts of the definition at a place
abbrev pub parts_at : List Definition → ℕ → List Part
parts_at made place = parts_in (slice_get made place)

-- the earlier definition that is the only part
abbrev pub only_earlier : List Part → Option ℕ
only_earlier (Earlier place ∷ []) = Some place
only_earlier _ = None

-- a definition joins the others, unless it is an earlier one
abbrev pub made_with : Definition → Option ℕ → List Definition → List Definition
made_with definition None made = made ++ definition ∷ []
made_with definition (Some place) made = made
