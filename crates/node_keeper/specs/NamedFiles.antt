-- Files by their names.
use Rattle.std.specs.Prelude.{ℕ, nat_eq, List, [], Option, slice_index_or, drop, position}
use Rattle.std.specs.Cmp.Lexicographic.{pointwise}
use Rattle.std.specs.Option.{option_map}
use Rattle.node_keeper.specs.declared.mem_files.Entered.{Entered}

-- the bytes of the file at a place, or none past the last
abbrev pub file_at : List (List ℕ × List ℕ) → ℕ → List ℕ
file_at files place = (slice_index_or files place ([], [])).1

-- the bytes of the first file of a name
abbrev pub named : List (List ℕ × List ℕ) → List ℕ → Option (List ℕ)
named files name = option_map (file_at files) (position (λ f. pointwise nat_eq f.0 name) files)

-- what is left of an entered file
abbrev pub rest_of : List (List ℕ × List ℕ) → Entered → List ℕ
rest_of files entered = drop entered.at (file_at files entered.file)
