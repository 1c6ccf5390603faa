-- The cut of a text, from left to right.
use Rattle.std.specs.Prelude.{ℕ, zero, suc, ◌+◌, ◌-◌, ◌==◌, ◌&&◌, ◌||◌, if◌then◌else◌, Bool, true, false, List, [], ◌∷◌}
use Rattle.std.specs.Prelude.{◌++◌, length, drop, Option, Some, None, Result, Ok, Err, codes}
use Rattle.std.specs.List.{take_while, prefix_len}
use Rattle.std.specs.Option.{option_map}
use Rattle.std.specs.Char.{is_ascii_digit}
use Rattle.std.specs.Str.{is_utf8}
use Rattle.slonik_tokens.specs.Tokens.{is_word}
use Rattle.slonik_tokens.specs.Spelling.{is_separator, is_word_start, is_word_byte, is_quote, is_line_byte}
use Rattle.slonik_tokens.specs.Spelling.{is_path_byte, spelling, lines_in}
use Rattle.slonik_tokens.specs.declared.token.Sign.{Sign}
use Rattle.slonik_tokens.specs.declared.token.Sign.TheVariants.{Semicolon, Comma, Equals, OpenBracket, CloseBracket}
use Rattle.slonik_tokens.specs.declared.token.Sign.TheVariants.{OpenBrace, CloseBrace}
use Rattle.slonik_tokens.specs.declared.token.Token.{Token}
use Rattle.slonik_tokens.specs.declared.token.Token.TheVariants.{Word, Number, Quoted, Mark, NameUse, Path}

-- the bytes, where they are UTF-8
unfoldable pub text_in : List ℕ → Option (List ℕ)
text_in bytes = if is_utf8 bytes then Some bytes else None

-- the comment whose `#` stands before these bytes, and 0 where none does
abbrev pub comment_len : List ℕ → ℕ
comment_len bytes = if is_utf8 (take_while is_line_byte bytes) then prefix_len is_line_byte bytes + 1 else 0

-- the length of the separator or comment at the front, and 0 where none is there
unfoldable pub blank_len : List ℕ → ℕ
blank_len [] = 0
blank_len (c ∷ cs) = if is_separator c then 1 else (if c == 35 then comment_len cs else 0)

-- the identifier at the front
unfoldable pub identifier_at : List ℕ → Option (List ℕ)
identifier_at [] = None
identifier_at (c ∷ cs) = if is_word_start c then text_in (take_while is_word_byte (c ∷ cs)) else None

-- the number at the front, where that is a digit or a `-`
unfoldable pub number_at : List ℕ → Option (List ℕ)
number_at [] = None
number_at (c ∷ cs) = if c == 45 && prefix_len is_ascii_digit cs == 0 then None else text_in
    (c ∷ take_while is_ascii_digit cs)

-- the text, with this one before it
abbrev pub behind : List ℕ → Option (List ℕ) → Option (List ℕ)
behind front None = None
behind front (Some text) = Some (front ++ text)

-- what stands up to the quote that closes the string, with one quote for two; a quote stands before these bytes, or
-- none
abbrev pub unquoted : List ℕ → Bool → Option (List ℕ)
unquoted [] true = Some []
unquoted [] false = None
unquoted (c ∷ cs) true = if is_quote c then behind (39 ∷ []) (unquoted cs false) else Some []
unquoted (c ∷ cs) false = if is_quote c then unquoted cs true
    else (if c == 10 then None else behind (c ∷ []) (unquoted cs false))

abbrev pub text_of : Option (List ℕ) → Option (List ℕ)
text_of None = None
text_of (Some bytes) = text_in bytes

-- the text of the string whose first quote stands before these bytes
unfoldable pub quoted_at : List ℕ → Option (List ℕ)
quoted_at bytes = text_of (unquoted bytes false)

-- the first byte is this one
abbrev pub begins : ℕ → List ℕ → Bool
begins b [] = false
begins b (c ∷ cs) = c == b

-- the path whose `<` stands before these bytes
unfoldable pub path_at : List ℕ → Option (List ℕ)
path_at bytes = if begins 62 (drop (prefix_len is_path_byte bytes) bytes) then text_in (take_while is_path_byte bytes)
    else None

-- the sign of a byte
unfoldable pub sign_of : ℕ → Option Sign
sign_of c =
    if c == 59 then Some Semicolon else
    (if c == 44 then Some Comma else
    (if c == 61 then Some Equals else
    (if c == 40 then Some OpenBracket else
    (if c == 41 then Some CloseBracket else
    (if c == 123 then Some OpenBrace else
    (if c == 125 then Some CloseBrace else None))))))

-- the token at the front, where `path` says that the token before is INCLUDE
unfoldable pub token_at : Bool → List ℕ → Option Token
token_at path [] = None
token_at path (c ∷ cs) =
    if c == 39 then option_map Quoted (quoted_at cs) else
    (if c == 64 then option_map NameUse (identifier_at cs) else
    (if c == 60 && path then option_map Path (path_at cs) else
    (if is_word_start c then option_map Word (identifier_at (c ∷ cs)) else
    (if c == 45 || is_ascii_digit c then option_map Number (number_at (c ∷ cs)) else
    option_map Mark (sign_of c)))))

-- a token with the number of its bytes
abbrev pub sized : Option Token → Option (Token × ℕ)
sized found = option_map (λ token. (token, length (spelling token))) found

abbrev pub behind_token : Token → Result (List Token) ℕ → Result (List Token) ℕ
behind_token token (Ok tokens) = Ok (token ∷ tokens)
behind_token token (Err lines) = Err lines

abbrev pub behind_lines : ℕ → Result (List Token) ℕ → Result (List Token) ℕ
behind_lines count (Ok tokens) = Ok tokens
behind_lines count (Err lines) = Err (count + lines)

-- one step: over the blank at the front, if it has bytes, or else over the token; `go` has the rest, without the
-- first byte, of which it passes this number
abbrev pub step : ℕ → Option Token → ℕ → Bool → (Bool → ℕ → Result (List Token) ℕ) → Result (List Token) ℕ
step (suc blank) found lines path go = behind_lines lines (go path blank)
step zero None lines path go = Err 0
step zero (Some token) lines path go =
    behind_token token (go (is_word (codes "include") token) (length (spelling token) - 1))

-- the tokens behind the first `pass` bytes, or how many lines end before the first place that begins none
unfoldable pub cut_from : List ℕ → Bool → ℕ → Result (List Token) ℕ
cut_from [] path pass = Ok []
cut_from (c ∷ cs) path (suc pass) = cut_from cs path pass
cut_from (c ∷ cs) path zero =
    step (blank_len (c ∷ cs)) (token_at path (c ∷ cs)) (lines_in c) path (λ behind pass. cut_from cs behind pass)

-- the cut goes on behind these tokens, in this line
abbrev pub resume : List Token → ℕ → Result (List Token) ℕ → Result (List Token) ℕ
resume tokens line (Ok more) = Ok (tokens ++ more)
resume tokens line (Err lines) = Err (line + lines)

-- The tokens of a text, or the line, from 1 on, of the first place that begins none.
unfoldable pub cut_of : List ℕ → Result (List Token) ℕ
cut_of text = resume [] 1 (cut_from text false 0)
