-- What is wrong with tokens that are no script.
use Rattle.std.specs.Prelude.{◌≡◌, ℕ, ◌+◌, true, false, List, [], ◌∷◌, ◌++◌, length, codes, None, Err}
use Rattle.slonik_script.specs.declared.refusal.ScriptRefusal.{ScriptRefusal}
use Rattle.slonik_script.specs.declared.refusal.ScriptRefusal.TheVariants.{BadToken, BadSyntax, UnknownOption}
use Rattle.slonik_script.specs.declared.refusal.ScriptRefusal.TheVariants.{MissingOption, NoPreamble, NotInProfile}
use Rattle.slonik_script.specs.declared.refusal.ScriptRefusal.TheVariants.{NotInTry, Undefined, Depth, NoFile, TooMany}
use Rattle.slonik_tokens.specs.declared.token.Sign.TheVariants.{CloseBracket}
use Rattle.slonik_tokens.specs.declared.token.Token.{Token}
use Rattle.slonik_tokens.specs.declared.token.Token.TheVariants.{Word}
use Rattle.slonik_tokens.specs.Tokens.{is_sign}
use Rattle.slonik_parse.specs.declared.form.OptionName.{OptionName}
use Rattle.slonik_parse.specs.declared.misparse.Misparse.TheVariants as misparse
use Rattle.slonik_script.specs.declared.script.Command.{Command}
use Rattle.slonik_script.specs.declared.script.Script.{Script}
use Rattle.slonik_parse.specs.declared.state.Block.{Block}
use Rattle.slonik_parse.specs.declared.state.Block.TheVariants.{Try as InTry}
use Rattle.slonik_parse.specs.Choices.{begins_with, is_left_out, is_not_in_try, is_option_left_out, option_at}
use Rattle.slonik_parse.specs.Forms.{option_text}
use Rattle.slonik_parse.specs.Given.{made}
use Rattle.slonik_parse.specs.Grammar.{IsScript}
use Rattle.slonik_parse.specs.Machine.{lower}
use Rattle.slonik_parse.specs.Places.{Stands, BeforeOption, BehindOption}

-- the words that a script begins with
abbrev pub preamble : List (List ℕ)
preamble = codes "cluster" ∷ codes "name" ∷ []

-- The tokens are refused so, for another cause than a token with which no script goes on.
pub data IsRefused : List Token → ScriptRefusal → Type 0 where
  no_preamble : (tokens : List Token) → begins_with preamble tokens ≡ false → IsRefused tokens NoPreamble
  command_left_out : (front rest : List Token) (block : Block) (text : List ℕ) → Stands block front
      → is_left_out (Word text ∷ rest) ≡ true → IsRefused (front ++ Word text ∷ rest) (NotInProfile (lower text))
  option_left_out : (at : BeforeOption) (rest : List Token) (text : List ℕ)
      → is_option_left_out at.verb (Word text ∷ rest) ≡ true
      → IsRefused (at.front ++ Word text ∷ rest) (NotInProfile (lower text))
  unknown_option : (at : BeforeOption) (rest : List Token) (text : List ℕ) → option_at at.verb (Word text) ≡ None
      → is_option_left_out at.verb (Word text ∷ rest) ≡ false
      → IsRefused (at.front ++ Word text ∷ rest) (UnknownOption (lower text))
  not_in_try : (front rest : List Token) (script : Script) (commands : List Command) (text : List ℕ)
      → Stands (InTry script commands) front → is_not_in_try (Word text ∷ rest) ≡ true
      → IsRefused (front ++ Word text ∷ rest) (NotInTry (lower text))
  missing_option : (at : BehindOption) (rest : List Token) (closes : Token) (name : OptionName)
      → is_sign CloseBracket closes ≡ true → made at.verb at.given ≡ Err (misparse.MissingOption name)
      → IsRefused (at.front ++ closes ∷ rest) (MissingOption (option_text name))
  missing_option_there : (at : BeforeOption) (rest : List Token) (closes : Token) (name : OptionName)
      → is_sign CloseBracket closes ≡ true → made at.verb at.given ≡ Err (misparse.MissingOption name)
      → IsRefused (at.front ++ closes ∷ rest) (MissingOption (option_text name))

-- some script begins with these tokens
abbrev pub GoesOn : List Token → Type 0
GoesOn front = (more : List Token) × (script : Script) × IsScript (front ++ more) script

-- no script goes on with the first of the rest behind these tokens, or ends behind them where there is no rest
abbrev pub StopsBefore : List Token → List Token → Type 0
StopsBefore front [] = (script : Script) → IsScript front script → ⊥
StopsBefore front (token ∷ rest) = (more : List Token) (script : Script) → IsScript (front ++ token ∷ more) script → ⊥

-- A script goes on up to the token of this number, from 1 on, and none goes on with it; there is no other cause.
abbrev pub IsBadSyntax : List Token → ℕ → Type 0
IsBadSyntax tokens place =
    (front : List Token) × (rest : List Token) × (tokens ≡ front ++ rest) × (place ≡ length front + 1)
    × GoesOn front × StopsBefore front rest × ((refusal : ScriptRefusal) → IsRefused tokens refusal → ⊥)

-- the tokens are refused so
abbrev pub Refuses : List Token → ScriptRefusal → Type 0
Refuses tokens (BadSyntax place) = IsBadSyntax tokens place
Refuses tokens (UnknownOption word) = IsRefused tokens (UnknownOption word)
Refuses tokens (MissingOption words) = IsRefused tokens (MissingOption words)
Refuses tokens NoPreamble = IsRefused tokens NoPreamble
Refuses tokens (NotInProfile word) = IsRefused tokens (NotInProfile word)
Refuses tokens (NotInTry word) = IsRefused tokens (NotInTry word)
Refuses tokens (BadToken line) = ⊥
Refuses tokens (Undefined name) = ⊥
Refuses tokens (Depth path) = ⊥
Refuses tokens (NoFile path) = ⊥
Refuses tokens TooMany = ⊥
