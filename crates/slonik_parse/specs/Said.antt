-- What is answered for a script, said by the grammar.
use Rattle.std.specs.Prelude.{◌≡◌, ℕ, Result, Ok, Err}
use Rattle.slonik_tokens.specs.declared.fault.ParseFault.{ParseFault}
use Rattle.slonik_tokens.specs.declared.fault.ParseFault.TheVariants.{Refused, ReadFault, TooLong, NoMemory}
use Rattle.slonik_script.specs.declared.refusal.ScriptRefusal.{ScriptRefusal}
use Rattle.slonik_expand.specs.Expansion.{Ending, Made, Wrong, Long}
use Rattle.slonik_script.specs.declared.script.Script.{Script}
use Rattle.slonik_parse.specs.Grammar.{IsScript}
use Rattle.slonik_parse.specs.Refusals.{Refuses}

-- What was answered, with the bytes that are left then, is what the grammar says of the tokens that an expansion made,
-- or
-- how the expansion ended, unless memory runs out or the files fail.
abbrev pub Says : Ending → Result Script ParseFault → ℕ → Type 0
Says ending (Err ReadFault) left = Unit {0}
Says ending (Err NoMemory) left = Unit {0}
Says (Made making) (Ok script) left = IsScript making.out script × (left ≡ making.left)
Says (Made making) (Err (Refused refusal)) left = Refuses making.out refusal × (left ≡ making.left)
Says (Made making) (Err TooLong) left = ⊥
Says (Wrong refused rest) (Ok script) left = ⊥
Says (Wrong refused rest) (Err (Refused refusal)) left = (refusal ≡ refused) × (left ≡ rest)
Says (Wrong refused rest) (Err TooLong) left = ⊥
Says Long (Ok script) left = ⊥
Says Long (Err (Refused refusal)) left = ⊥
Says Long (Err TooLong) left = Unit {0}

-- this script was answered, unless memory ran out or the files failed
abbrev pub IsAccepted : Script → Result Script ParseFault → Type 0
IsAccepted script (Ok answer) = answer ≡ script
IsAccepted script (Err (Refused refusal)) = ⊥
IsAccepted script (Err ReadFault) = Unit {0}
IsAccepted script (Err TooLong) = ⊥
IsAccepted script (Err NoMemory) = Unit {0}

-- this refusal was answered, unless memory ran out or the files failed
abbrev pub IsRefusal : ScriptRefusal → Result Script ParseFault → Type 0
IsRefusal refusal (Ok answer) = ⊥
IsRefusal refusal (Err (Refused answer)) = answer ≡ refusal
IsRefusal refusal (Err ReadFault) = Unit {0}
IsRefusal refusal (Err TooLong) = ⊥
IsRefusal refusal (Err NoMemory) = Unit {0}
