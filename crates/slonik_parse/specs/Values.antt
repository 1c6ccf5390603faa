-- What a token is as a value: a name, a string, a number in its range, a word that answers.
use Rattle.std.specs.Prelude.{ℕ, ◌+◌, ◌-◌, ◌*◌, ◌%◌, ◌==◌, ◌&&◌, if◌then◌else◌, not, nat_le, Bool, true, false, List}
use Rattle.std.specs.Prelude.{[], ◌∷◌, length, codes, Option, Some, None}
use Rattle.std.specs.Option.{option_map}
use Rattle.std.specs.List.{list_all}
use Rattle.std.specs.Char.{is_ascii_digit}
use Rattle.slonik_tokens.specs.declared.token.Token.{Token}
use Rattle.slonik_tokens.specs.declared.token.Token.TheVariants.{Word, Number, Quoted, Mark, NameUse, Path}
use Rattle.slonik_tokens.specs.Spelling.{is_identifier}
use Rattle.slonik_tokens.specs.Tokens.{is_word}
use Rattle.slonik_script.specs.declared.script.NodeChoice.{NodeChoice}
use Rattle.slonik_script.specs.declared.script.NodeChoice.TheVariants.{All, Node}

-- a word, or a string that is one
abbrev pub name_in : Token → Option (List ℕ)
name_in (Word text) = Some text
name_in (Number text) = None
name_in (Quoted text) = if is_identifier text then Some text else None
name_in (Mark sign) = None
name_in (NameUse name) = None
name_in (Path path) = None

-- a string
abbrev pub string_in : Token → Option (List ℕ)
string_in (Word text) = None
string_in (Number text) = None
string_in (Quoted text) = Some text
string_in (Mark sign) = None
string_in (NameUse name) = None
string_in (Path path) = None

-- the number that digits spell, after the number that those before them spell
abbrev pub value_from : ℕ → List ℕ → ℕ
value_from n [] = n
value_from n (d ∷ ds) = value_from (10 * n + (d - 48)) ds

-- digits, at least one
abbrev pub are_digits : List ℕ → Bool
are_digits digits = not (length digits == 0) && list_all is_ascii_digit digits

-- the number that digits spell, if it is at most high
abbrev pub magnitude : ℕ → List ℕ → Option ℕ
magnitude high digits = if are_digits digits && nat_le (value_from 0 digits) high then Some (value_from 0 digits)
    else None

-- a number from 0 to high: -0 is 0, and no other has a minus
abbrev pub natural : ℕ → List ℕ → Option ℕ
natural high [] = None
natural high (c ∷ cs) = if c == 45 then magnitude 0 cs else magnitude high (c ∷ cs)

-- a number from -128 to 255, modulo 256
abbrev pub status : List ℕ → Option ℕ
status [] = None
status (c ∷ cs) = if c == 45 then option_map (λ n. (256 - n) % 256) (magnitude 128 cs) else magnitude 255 (c ∷ cs)

-- the number, if it is not 0
abbrev pub above_zero : Option ℕ → Option ℕ
above_zero None = None
above_zero (Some n) = if n == 0 then None else Some n

-- the greatest id
abbrev pub id_limit : ℕ
id_limit = 2147483647

abbrev pub id_in : Token → Option ℕ
id_in (Word text) = None
id_in (Number text) = above_zero (natural id_limit text)
id_in (Quoted text) = None
id_in (Mark sign) = None
id_in (NameUse name) = None
id_in (Path path) = None

-- the greatest time, in seconds
abbrev pub seconds_limit : ℕ
seconds_limit = 1000000000

abbrev pub seconds_in : Token → Option ℕ
seconds_in (Word text) = None
seconds_in (Number text) = natural seconds_limit text
seconds_in (Quoted text) = None
seconds_in (Mark sign) = None
seconds_in (NameUse name) = None
seconds_in (Path path) = None

abbrev pub status_in : Token → Option ℕ
status_in (Word text) = None
status_in (Number text) = status text
status_in (Quoted text) = None
status_in (Mark sign) = None
status_in (NameUse name) = None
status_in (Path path) = None

-- YES or NO
abbrev pub answer_in : Token → Option Bool
answer_in token = if is_word (codes "yes") token then Some true
    else (if is_word (codes "no") token then Some false else None)

-- an id or ALL
abbrev pub choice_in : Token → Option NodeChoice
choice_in token = if is_word (codes "all") token then Some All else option_map Node (id_in token)
