-- How tokens are spelled, and how a text falls into separators, comments and tokens.
use Rattle.std.specs.Prelude.{◌≡◌, ℕ, ◌+◌, ◌==◌, ◌&&◌, ◌||◌, if◌then◌else◌, not, Bool, true, false, List, [], ◌∷◌, ◌++◌}
use Rattle.std.specs.Prelude.{Result, Ok, Err, codes}
use Rattle.std.specs.List.{list_all}
use Rattle.std.specs.Char.{is_ascii_alphabetic, is_ascii_alphanumeric, is_ascii_digit}
use Rattle.std.specs.Str.{IsUtf8}
use Rattle.slonik_tokens.specs.Tokens.{is_word}
use Rattle.slonik_tokens.specs.declared.token.Sign.{Sign}
use Rattle.slonik_tokens.specs.declared.token.Sign.TheVariants.{Semicolon, Comma, Equals, OpenBracket, CloseBracket}
use Rattle.slonik_tokens.specs.declared.token.Sign.TheVariants.{OpenBrace, CloseBrace}
use Rattle.slonik_tokens.specs.declared.token.Token.{Token}
use Rattle.slonik_tokens.specs.declared.token.Token.TheVariants.{Word, Number, Quoted, Mark, NameUse, Path}

-- a space, a tab, a carriage return or the end of a line
abbrev pub is_separator : ℕ → Bool
is_separator c = c == 32 || c == 9 || c == 13 || c == 10

-- a letter or `_`
abbrev pub is_word_start : ℕ → Bool
is_word_start c = is_ascii_alphabetic c || c == 95

-- a letter, a digit or `_`
abbrev pub is_word_byte : ℕ → Bool
is_word_byte c = is_ascii_alphanumeric c || c == 95

-- a quote
abbrev pub is_quote : ℕ → Bool
is_quote c = c == 39

-- no end of a line
abbrev pub is_line_byte : ℕ → Bool
is_line_byte c = not (c == 10)

-- no end of a line and no `>`
abbrev pub is_path_byte : ℕ → Bool
is_path_byte c = not (c == 10 || c == 62)

abbrev pub is_identifier : List ℕ → Bool
is_identifier [] = false
is_identifier (c ∷ cs) = is_word_start c && list_all is_word_byte cs

-- digits, at least one
abbrev pub are_digits : List ℕ → Bool
are_digits [] = false
are_digits (c ∷ cs) = list_all is_ascii_digit (c ∷ cs)

-- digits with a `-` before them or none
abbrev pub is_number : List ℕ → Bool
is_number [] = false
is_number (c ∷ cs) = if c == 45 then are_digits cs else are_digits (c ∷ cs)

-- each quote twice
abbrev pub doubled : List ℕ → List ℕ
doubled [] = []
doubled (c ∷ cs) = if is_quote c then 39 ∷ 39 ∷ doubled cs else c ∷ doubled cs

abbrev pub sign_byte : Sign → ℕ
sign_byte Semicolon = 59
sign_byte Comma = 44
sign_byte Equals = 61
sign_byte OpenBracket = 40
sign_byte CloseBracket = 41
sign_byte OpenBrace = 123
sign_byte CloseBrace = 125

-- the bytes of a token
abbrev pub spelling : Token → List ℕ
spelling (Word text) = text
spelling (Number text) = text
spelling (Quoted text) = 39 ∷ doubled text ++ 39 ∷ []
spelling (Mark sign) = sign_byte sign ∷ []
spelling (NameUse name) = 64 ∷ name
spelling (Path path) = 60 ∷ path ++ 62 ∷ []

-- there is such a token
abbrev pub HasForm : Token → Type 0
HasForm (Word text) = is_identifier text ≡ true
HasForm (Number text) = is_number text ≡ true
HasForm (Quoted text) = IsUtf8 text × (list_all is_line_byte text ≡ true)
HasForm (Mark sign) = Unit {0}
HasForm (NameUse name) = is_identifier name ≡ true
HasForm (Path path) = IsUtf8 path × (list_all is_path_byte path ≡ true)

-- these bytes spell the token
abbrev pub IsSpelled : Token → List ℕ → Type 0
IsSpelled token bytes = (bytes ≡ spelling token) × HasForm token

-- the text is over, or goes on with another byte
abbrev pub Stops : (ℕ → Bool) → List ℕ → Type 0
Stops goes_on [] = Unit {0}
Stops goes_on (c ∷ cs) = goes_on c ≡ false

-- a token ends before the rest: a longer one would be another
abbrev pub Ends : Token → List ℕ → Type 0
Ends (Word text) rest = Stops is_word_byte rest
Ends (Number text) rest = Stops is_ascii_digit rest
Ends (Quoted text) rest = Stops is_quote rest
Ends (Mark sign) rest = Unit {0}
Ends (NameUse name) rest = Stops is_word_byte rest
Ends (Path path) rest = Unit {0}

-- the token may stand there, where `path` says that the token before is INCLUDE
abbrev pub is_allowed : Bool → Token → Bool
is_allowed path (Word text) = true
is_allowed path (Number text) = true
is_allowed path (Quoted text) = true
is_allowed path (Mark sign) = true
is_allowed path (NameUse name) = true
is_allowed path (Path text) = path

-- a piece of a text
pub data Piece : Type 0 where
  -- a separator
  Separator : ℕ → Piece
  -- a comment, of which this stands behind the `#`
  Comment : List ℕ → Piece
  -- a token, with its bytes
  Lexeme : Token → List ℕ → Piece

abbrev pub bytes_of : Piece → List ℕ
bytes_of (Separator c) = c ∷ []
bytes_of (Comment body) = 35 ∷ body
bytes_of (Lexeme token bytes) = bytes

-- a piece may stand before the rest
abbrev pub Stands : Bool → Piece → List ℕ → Type 0
Stands path (Separator c) rest = is_separator c ≡ true
Stands path (Comment body) rest = IsUtf8 body × (list_all is_line_byte body ≡ true) × Stops is_line_byte rest
Stands path (Lexeme token bytes) rest = IsSpelled token bytes × Ends token rest × (is_allowed path token ≡ true)

-- whether the token before is INCLUDE, behind a piece
abbrev pub path_behind : Bool → Piece → Bool
path_behind path (Separator c) = path
path_behind path (Comment body) = path
path_behind path (Lexeme token bytes) = is_word (codes "include") token

-- whether it is behind these pieces
abbrev pub path_after : Bool → List Piece → Bool
path_after path [] = path
path_after path (piece ∷ pieces) = path_after (path_behind path piece) pieces

-- the bytes are these pieces, each as it may stand there, and then the rest
abbrev pub Falls : Bool → List ℕ → List Piece → List ℕ → Type 0
Falls path bytes [] rest = bytes ≡ rest
Falls path bytes (piece ∷ pieces) rest =
    (more : List ℕ) × (bytes ≡ bytes_of piece ++ more) × Stands path piece more
    × Falls (path_behind path piece) more pieces rest

-- there is more of the text, and no piece begins it
abbrev pub IsStuck : Bool → List ℕ → Type 0
IsStuck path rest =
    (rest ≡ [] → ⊥) × ((piece : Piece) (more : List ℕ) → rest ≡ bytes_of piece ++ more → Stands path piece more → ⊥)

-- the tokens of pieces
abbrev pub tokens_of : List Piece → List Token
tokens_of [] = []
tokens_of (Separator c ∷ pieces) = tokens_of pieces
tokens_of (Comment body ∷ pieces) = tokens_of pieces
tokens_of (Lexeme token bytes ∷ pieces) = token ∷ tokens_of pieces

-- how many lines a byte ends
abbrev pub lines_in : ℕ → ℕ
lines_in c = if c == 10 then 1 else 0

-- how many lines the pieces end
abbrev pub lines_of : List Piece → ℕ
lines_of [] = 0
lines_of (Separator c ∷ pieces) = lines_in c + lines_of pieces
lines_of (Comment body ∷ pieces) = lines_of pieces
lines_of (Lexeme token bytes ∷ pieces) = lines_of pieces

-- What a text is read as, by the grammar: the tokens of pieces that are all of it; or the line, from 1 on, where no
-- piece
-- goes on behind the pieces before.
unfoldable pub ReadsText : List ℕ → Result (List Token) ℕ → Type 0
ReadsText text (Ok tokens) = (pieces : List Piece) × Falls false text pieces [] × (tokens ≡ tokens_of pieces)
ReadsText text (Err line) = (pieces : List Piece) × (rest : List ℕ) × Falls false text pieces rest
    × IsStuck (path_after false pieces) rest × (line ≡ 1 + lines_of pieces)
