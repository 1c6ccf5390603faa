-- What a call of the expansion answers, and what it leaves.
use Rattle.std.specs.Prelude.{◌≡◌, ℕ, ◌≤◌, List, Result, Ok, Err}
use Rattle.slon_base.specs.Outside.{Filed}
use Rattle.slonik_tokens.specs.declared.fault.ParseFault.{ParseFault}
use Rattle.slonik_tokens.specs.declared.fault.ParseFault.TheVariants.{Refused, ReadFault, TooLong, NoMemory}
use Rattle.slonik_tokens.specs.declared.token.Token.{Token}
use Rattle.slonik_expand.specs.Expansion.{Ending, Made, Wrong, Long}

-- the ending is that these tokens came out, and this number of bytes is left
abbrev pub IsMade : Ending → List Token → ℕ → Type 0
IsMade (Made making) tokens left = (making.out ≡ tokens) × (making.left ≡ left)
IsMade (Wrong refusal rest) tokens left = ⊥
IsMade Long tokens left = ⊥

-- the ending is this fault, unless memory runs out or the files fail
abbrev pub EndsSo : Ending → ℕ → ParseFault → Type 0
EndsSo ending left (Refused refusal) = ending ≡ Wrong refusal left
EndsSo ending left ReadFault = Unit {0}
EndsSo ending left TooLong = ending ≡ Long
EndsSo ending left NoMemory = Unit {0}

-- What was answered, seen by `view`, with what is left then, is this ending, unless memory runs out or the files fail.
abbrev pub Ends : {X : Type 0} → (X → List Token) → Ending → Result X ParseFault → ℕ → Type 0
Ends view ending (Ok x) left = IsMade ending (view x) left
Ends view ending (Err fault) left = EndsSo ending left fault

-- The files are as before, but for how often they failed.
pub record Stays (old new : Filed) : Type 0 where
  pub faults : old.faults ≤ new.faults
  pub names : new.names ≡ old.names
  pub stack : new.stack ≡ old.stack
