-- What tokens give: a script, or the first refusal.
use Rattle.std.specs.Prelude.{◌≡◌, ℕ, ◌+◌, ◌-◌, ◌&&◌, if◌then◌else◌, List, [], ◌∷◌, length, codes, Result, Ok, Err}
use Rattle.slonik_tokens.specs.declared.fault.ParseFault.{ParseFault}
use Rattle.slonik_tokens.specs.declared.fault.ParseFault.TheVariants.{Refused, ReadFault, TooLong}
use Rattle.slonik_tokens.specs.declared.fault.ParseFault.TheVariants.{NoMemory as OutOfMemory}
use Rattle.slonik_script.specs.declared.refusal.ScriptRefusal.{ScriptRefusal}
use Rattle.slonik_script.specs.declared.refusal.ScriptRefusal.TheVariants as refusal
use Rattle.slonik_tokens.specs.declared.token.Token.{Token}
use Rattle.slonik_tokens.specs.Tokens.{is_word}
use Rattle.slonik_expand.specs.Expansion.{Ending, Made, Wrong as Refuses, Long}
use Rattle.slonik_parse.specs.declared.misparse.Misparse.{Misparse}
use Rattle.slonik_parse.specs.declared.misparse.Misparse.TheVariants.{Misfit, UnknownOption, MissingOption}
use Rattle.slonik_parse.specs.declared.misparse.Misparse.TheVariants.{NotInProfile, NotInTry, NoMemory}
use Rattle.slonik_script.specs.declared.script.Script.{Script}
use Rattle.slonik_parse.specs.Forms.{option_text}
use Rattle.slonik_parse.specs.Machine.{Wrong, run, behind_preamble}

-- what a misparse at the token of a number is called
abbrev pub refused_at : ℕ → Misparse → ScriptRefusal
refused_at place Misfit = refusal.BadSyntax place
refused_at place (UnknownOption word) = refusal.UnknownOption word
refused_at place (MissingOption option) = refusal.MissingOption (option_text option)
refused_at place (NotInProfile word) = refusal.NotInProfile word
refused_at place (NotInTry word) = refusal.NotInTry word
refused_at place NoMemory = refusal.BadSyntax place

-- what a script with this number of tokens gives
abbrev pub placed : ℕ → Result Script Wrong → Result Script ScriptRefusal
placed total (Ok script) = Ok script
placed total (Err wrong) = Err (refused_at (total + 1 - wrong.left) wrong.misparse)

-- what the tokens of a script give
unfoldable pub script_in : List Token → Result Script ScriptRefusal
script_in [] = Err refusal.NoPreamble
script_in (first ∷ []) = Err refusal.NoPreamble
script_in (first ∷ second ∷ tokens) =
    if is_word (codes "cluster") first && is_word (codes "name") second then placed (length tokens + 2)
    (run tokens behind_preamble)
    else Err refusal.NoPreamble

-- what was answered is what the tokens give, unless memory runs out
abbrev pub Reads : Result Script ScriptRefusal → Result Script ParseFault → Type 0
Reads read (Ok script) = read ≡ Ok script
Reads read (Err (Refused refused)) = read ≡ Err refused
Reads read (Err ReadFault) = ⊥
Reads read (Err TooLong) = ⊥
Reads read (Err OutOfMemory) = Unit {0}

-- What was answered, with the bytes that are left then, is what an expansion and then its tokens give, unless memory
-- runs out or the files fail.
abbrev pub Parses : Ending → Result Script ParseFault → ℕ → Type 0
Parses ending (Err ReadFault) left = Unit {0}
Parses ending (Err OutOfMemory) left = Unit {0}
Parses ending (Err TooLong) left = ending ≡ Long
Parses (Made making) (Ok script) left = (script_in making.out ≡ Ok script) × (left ≡ making.left)
Parses (Made making) (Err (Refused refused)) left = (script_in making.out ≡ Err refused) × (left ≡ making.left)
Parses (Refuses refused rest) (Ok script) left = ⊥
Parses (Refuses refused rest) (Err (Refused other)) left = (other ≡ refused) × (left ≡ rest)
Parses Long (Ok script) left = ⊥
Parses Long (Err (Refused refused)) left = ⊥
