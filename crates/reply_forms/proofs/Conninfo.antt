-- The name of a database that stands in a text on one line is on one line.
use Rattle.std.proofs.Common.{◌≡◌, ℕ, zero, suc, true, false, cond, List, [], ◌∷◌, length, take, drop, Option}
use Rattle.std.proofs.Common.{Some, None, refl}
use Rattle.std.specs.Prelude.{codes, unwrap_or}
use Rattle.std.specs.Option.{option_or}
use Rattle.std.specs.List.{AllByRecursion, slice_split, onto_first}
use Rattle.std.specs.Str.{bytes_eq}
use Rattle.std.proofs.lemmas.Bool.{and_parts, and_from}
use Rattle.slon_model.specs.Forms.{is_line_byte, is_line}
use Rattle.slon_model.specs.Spoken.{IsLine}
use Rattle.slon_model.specs.Reaching.{is_blank, behind_prefix, last_behind, database_in}

-- a text that is there is on one line
abbrev pub IsLineIn : Option (List ℕ) → Type 0
IsLineIn None = Unit {0}
IsLineIn (Some text) = IsLine text

onto_line : (c : ℕ) (parts : List (List ℕ)) → is_line_byte c ≡ true → AllByRecursion IsLine parts →
    AllByRecursion IsLine (onto_first c parts)
onto_line c [] one all = (and_from (is_line_byte c) true one refl, tt)
onto_line c (part ∷ parts) one all = (and_from (is_line_byte c) (is_line part) one all.0, all.1)

words_line : (text : List ℕ) → IsLine text → AllByRecursion IsLine (slice_split is_blank text)
words_line [] line = (refl, tt)
words_line (c ∷ cs) line =
    let h = and_parts (is_line_byte c) (is_line cs) line in
    elim (is_blank c) as (λ b. AllByRecursion IsLine (cond b ([] ∷ slice_split is_blank cs)
    (onto_first c (slice_split is_blank cs)))) [
      | true ↦ (refl, words_line cs h.1)
      | false ↦ onto_line c (slice_split is_blank cs) h.0 (words_line cs h.1)
    ]

rest_line : (n : ℕ) (text : List ℕ) → IsLine text → IsLine (drop n text)
rest_line zero text line = line
rest_line (suc n) [] line = line
rest_line (suc n) (c ∷ cs) line = rest_line n cs (and_parts (is_line_byte c) (is_line cs) line).1

behind_line : (prefix word : List ℕ) → IsLine word → IsLineIn (behind_prefix prefix word)
behind_line prefix word line =
    elim (bytes_eq (take (length prefix) word) prefix)
    as (λ b. IsLineIn (cond b (Some (drop (length prefix) word)) None)) [
      | true ↦ rest_line (length prefix) word line
      | false ↦ tt
    ]

either_line : (a b : Option (List ℕ)) → IsLineIn a → IsLineIn b → IsLineIn (option_or a b)
either_line None b first second = second
either_line (Some text) b first second = first

last_line : (prefix : List ℕ) (words : List (List ℕ)) → AllByRecursion IsLine words →
    IsLineIn (last_behind prefix words)
last_line prefix [] all = tt
last_line prefix (word ∷ words) all =
    either_line (last_behind prefix words) (behind_prefix prefix word) (last_line prefix words all.1)
    (behind_line prefix word all.0)

or_nothing : (o : Option (List ℕ)) → IsLineIn o → IsLine (unwrap_or o [])
or_nothing None line = refl
or_nothing (Some text) line = line

-- the database that a conninfo names
pub database_line : (conninfo : List ℕ) → IsLine conninfo → IsLine (database_in conninfo)
database_line conninfo line =
    let words = slice_split is_blank conninfo in
    let all = words_line conninfo line in
    or_nothing (option_or (last_behind (codes "dbname=") words) (last_behind (codes "service=") words))
    (either_line (last_behind (codes "dbname=") words) (last_behind (codes "service=") words)
    (last_line (codes "dbname=") words all) (last_line (codes "service=") words all))
