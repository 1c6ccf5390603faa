-- What the expansion of a script gives.
use Rattle.std.specs.Prelude.{ℕ, zero, suc, ◌+◌, ◌-◌, ◌&&◌, ◌||◌, if◌then◌else◌, not, nat_lt, Bool, true, false, List}
use Rattle.std.specs.Prelude.{[], ◌∷◌, ◌++◌, length, codes, Option, Some, None, Result, Ok, Err}
use Rattle.std.specs.Option.{option_map}
use Rattle.std.specs.Str.{bytes_eq}
use Rattle.slonik_tokens.specs.Cut.{cut_of}
use Rattle.slonik_tokens.specs.Tokens.{is_word, is_sign}
use Rattle.slonik_script.specs.declared.refusal.ScriptRefusal.{ScriptRefusal}
use Rattle.slonik_script.specs.declared.refusal.ScriptRefusal.TheVariants.{BadToken, Undefined, Depth, NoFile, TooMany}
use Rattle.slonik_tokens.specs.declared.token.Sign.TheVariants.{Semicolon, OpenBrace, CloseBrace}
use Rattle.slonik_tokens.specs.declared.token.Token.{Token}
use Rattle.slonik_expand.specs.declared.place.Place.{Place}
use Rattle.slonik_tokens.specs.declared.token.Token.TheVariants.{Word, Number, Quoted, Mark, NameUse, Path}

-- the greatest number of tokens of a script
abbrev pub token_limit : ℕ
token_limit = 65536

-- how many levels of files may be included
abbrev pub level_limit : ℕ
level_limit = 8

-- A place tells where the next token of a script comes to stand: whether it is the first one or follows `;`, `{` or
-- `}`,
-- whether it follows a TRY that starts a statement, and whether it stands in a try block. This is the first one's.
abbrev pub first_place : Place
first_place = record { starts = true; tries = false; inside = false }

-- a statement may start behind this token
abbrev pub ends_statement : Token → Bool
ends_statement token = is_sign Semicolon token || is_sign OpenBrace token || is_sign CloseBrace token

-- the place behind a token that stands at a place
abbrev pub place_after : Token → Place → Place
place_after token place = record {
  starts = ends_statement token;
  tries = place.starts && is_word (codes "try") token;
  inside = if is_sign CloseBrace token then false else (if is_sign OpenBrace token then place.inside
      || place.tries else place.inside);
}

-- What was made so far: the tokens that came out, the place of the next one, what each name stands for, and how many
-- bytes the included files may still hold.
pub record Making : Type 0 where
  pub out : List Token
  pub place : Place
  pub names : List ℕ → Option (List Token)
  pub left : ℕ

-- How an expansion ends: made; refused, with the bytes that are left then; or the files hold too many bytes.
pub data Ending : Type 0 where
  Made : (making : Making) → Ending
  Wrong : (refusal : ScriptRefusal) → (left : ℕ) → Ending
  Long : Ending

abbrev pub and_then : Ending → (Making → Ending) → Ending
and_then (Made making) more = more making
and_then (Wrong refusal left) more = Wrong refusal left
and_then Long more = Long

-- the place behind tokens, of which the first stands at a place
abbrev pub place_behind : List Token → Place → Place
place_behind [] place = place
place_behind (token ∷ tokens) place = place_behind tokens (place_after token place)

-- tokens come out
abbrev pub put_all : List Token → Making → Making
put_all tokens m = record m { out = m.out ++ tokens; place = place_behind tokens m.place }

-- not more tokens than the limit came out
abbrev pub within_limit : Making → Ending
within_limit m = if nat_lt token_limit (length m.out) then Wrong TooMany m.left else Made m

-- tokens and others behind them, or the first name that stands for nothing
abbrev pub joined : Result (List Token) (List ℕ) → Result (List Token) (List ℕ) → Result (List Token) (List ℕ)
joined (Ok front) (Ok tokens) = Ok (front ++ tokens)
joined (Ok front) (Err name) = Err name
joined (Err name) others = Err name

-- what a name stands for
abbrev pub meant : List ℕ → Option (List Token) → Result (List Token) (List ℕ)
meant name None = Err name
meant name (Some tokens) = Ok tokens

-- a token, or what its name stands for
abbrev pub replaced_one : (List ℕ → Option (List Token)) → Token → Result (List Token) (List ℕ)
replaced_one names (NameUse name) = meant name (names name)
replaced_one names (Word text) = Ok (Word text ∷ [])
replaced_one names (Number text) = Ok (Number text ∷ [])
replaced_one names (Quoted text) = Ok (Quoted text ∷ [])
replaced_one names (Mark sign) = Ok (Mark sign ∷ [])
replaced_one names (Path path) = Ok (Path path ∷ [])

-- the tokens with each name replaced by what it stands for, or the first name that stands for nothing
abbrev pub replaced : (List ℕ → Option (List Token)) → List Token → Result (List Token) (List ℕ)
replaced names [] = Ok []
replaced names (token ∷ tokens) = joined (replaced_one names token) (replaced names tokens)

-- a name stands for these tokens from now on
abbrev pub define : List ℕ → List Token → Making → Making
define name tokens m = record m { names = λ other. if bytes_eq other name then Some tokens else m.names other }

-- the end of a definition whose names were replaced
abbrev pub defined : List ℕ → Result (List Token) (List ℕ) → Making → Ending
defined name (Ok tokens) m = Made (define name tokens m)
defined name (Err missing) m = Wrong (Undefined missing) m.left

-- the end of a use of a name
abbrev pub used : List ℕ → Option (List Token) → Making → Ending
used name None m = Wrong (Undefined name) m.left
used name (Some tokens) m = within_limit (put_all tokens m)

-- the tokens before the first `;`, if there is one
abbrev pub before_semicolon : List Token → Option (List Token)
before_semicolon [] = None
before_semicolon (token ∷ tokens) =
    if is_sign Semicolon token then Some [] else option_map (λ front. token ∷ front) (before_semicolon tokens)

-- What the first of some tokens begins.
pub data Form : Type 0 where
  -- the token itself
  Itself : Form
  -- `@name`
  Use : (name : List ℕ) → Form
  -- `DEFINE name tokens ;`
  Definition : (name : List ℕ) → (tokens : List Token) → Form
  -- `INCLUDE <path> ;`
  Inclusion : (path : List ℕ) → Form

abbrev pub definition : List ℕ → Option (List Token) → Form
definition name None = Itself
definition name (Some tokens) = Definition name tokens

-- what begins with DEFINE and goes on so
abbrev pub definition_in : List Token → Form
definition_in (Word name ∷ tokens) = definition name (before_semicolon tokens)
definition_in _ = Itself

-- what begins with INCLUDE and goes on so
abbrev pub inclusion_in : List Token → Form
inclusion_in (Path path ∷ token ∷ tokens) = if is_sign Semicolon token then Inclusion path else Itself
inclusion_in _ = Itself

-- what begins with a token that may begin a DEFINE or an INCLUDE
abbrev pub form_in : Token → List Token → Form
form_in token tokens = if is_word (codes "define") token then definition_in tokens
    else (if is_word (codes "include") token then inclusion_in tokens else Itself)

-- what begins with this token at this place and goes on so
abbrev pub form_at : Place → Token → List Token → Form
form_at place (NameUse name) tokens = Use name
form_at place (Word text) tokens = if place.starts && not place.inside then form_in (Word text) tokens else Itself
form_at place (Number text) tokens = Itself
form_at place (Quoted text) tokens = Itself
form_at place (Mark sign) tokens = Itself
form_at place (Path path) tokens = Itself

-- the end of the first form, and how many more tokens belong to it
abbrev pub first_of_form : (List ℕ → Making → Ending) → Token → Form → Making → Ending × ℕ
first_of_form include token Itself m = (within_limit (put_all (token ∷ []) m), 0)
first_of_form include token (Use name) m = (used name (m.names name) m, 0)
first_of_form include token (Definition name tokens) m = (defined name (replaced m.names tokens) m, length tokens + 2)
first_of_form include token (Inclusion path) m = (include path m, 2)

-- The expansion of tokens, of which the first `passed` belong to a form before them.
unfoldable pub expand_from : (List ℕ → Making → Ending) → ℕ → List Token → Making → Ending
expand_from include passed [] m = Made m
expand_from include (suc passed) (token ∷ tokens) m = expand_from include passed tokens m
expand_from include zero (token ∷ tokens) m =
    let first : Ending × ℕ = first_of_form include token (form_at m.place token tokens) m in
    and_then first.0 (expand_from include first.1 tokens)

-- the tokens of a file
abbrev pub of_file : (List Token → Making → Ending) → Result (List Token) ℕ → Making → Ending
of_file expand (Ok tokens) m = expand tokens m
of_file expand (Err line) m = Wrong (BadToken line) m.left

-- a file with these bytes is included, if that many are left
abbrev pub include_bytes : (List Token → Making → Ending) → List ℕ → Making → Ending
include_bytes expand bytes m =
    if nat_lt m.left (length bytes) then Long else of_file expand (cut_of bytes)
    (record m { left = m.left - length bytes })

-- the file of a path is included, if there is one
abbrev pub include_file : (List Token → Making → Ending) → List ℕ → Option (List ℕ) → Making → Ending
include_file expand path None m = Wrong (NoFile path) m.left
include_file expand path (Some bytes) m = include_bytes expand bytes m

-- What an INCLUDE of a path gives over the files that these names have, where this number of levels of files may still
-- be included.
unfoldable pub include_at : (List ℕ → Option (List ℕ)) → ℕ → List ℕ → Making → Ending
include_at files zero path m = Wrong (Depth path) m.left
include_at files (suc levels) path m = include_file (expand_from (include_at files levels) 0) path (files path) m

-- The expansion of tokens over the files that these names have, where this number of levels of files may still be
-- included.
abbrev pub expand_at : (List ℕ → Option (List ℕ)) → ℕ → List Token → Making → Ending
expand_at files levels tokens m = expand_from (include_at files levels) 0 tokens m

-- what was made before the first token
abbrev pub nothing_made : ℕ → Making
nothing_made left = record { out = []; place = first_place; names = λ name. None; left = left }

-- The expansion of a script's tokens over files, where the included files may hold this number of bytes.
abbrev pub expansion_of : (List ℕ → Option (List ℕ)) → ℕ → List Token → Ending
expansion_of files left tokens = expand_at files level_limit tokens (nothing_made left)
