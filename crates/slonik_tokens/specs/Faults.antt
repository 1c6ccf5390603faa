-- What a call that may be refused answers.
use Rattle.std.specs.Prelude.{◌≡◌, ℕ, List, Result, Ok, Err}
use Rattle.slon_base.specs.declared.fault.OutFault.{OutFault}
use Rattle.slon_base.specs.declared.fault.OutFault.TheVariants.{Failed, NoMemory as OutOfMemory}
use Rattle.slonik_script.specs.declared.refusal.ScriptRefusal.{ScriptRefusal}
use Rattle.slonik_script.specs.declared.refusal.ScriptRefusal.TheVariants.{BadToken, BadSyntax, UnknownOption}
use Rattle.slonik_script.specs.declared.refusal.ScriptRefusal.TheVariants.{MissingOption, NoPreamble, NotInProfile}
use Rattle.slonik_script.specs.declared.refusal.ScriptRefusal.TheVariants.{NotInTry, Undefined, Depth, NoFile, TooMany}
use Rattle.slonik_tokens.specs.declared.fault.ParseFault.{ParseFault}
use Rattle.slonik_tokens.specs.declared.fault.ParseFault.TheVariants.{Refused, ReadFault, TooLong, NoMemory}
use Rattle.slonik_tokens.specs.declared.token.Token.{Token}

-- a fault of the files as one of the reader
abbrev pub fault_of : OutFault → ParseFault
fault_of Failed = ReadFault
fault_of OutOfMemory = NoMemory

-- the line of a refusal that is 80, and nothing else
abbrev pub IsBadToken : Result (List Token) ℕ → ScriptRefusal → Type 0
IsBadToken cut (BadToken line) = cut ≡ Err line
IsBadToken cut (BadSyntax place) = ⊥
IsBadToken cut (UnknownOption word) = ⊥
IsBadToken cut (MissingOption words) = ⊥
IsBadToken cut NoPreamble = ⊥
IsBadToken cut (NotInProfile word) = ⊥
IsBadToken cut (NotInTry word) = ⊥
IsBadToken cut (Undefined name) = ⊥
IsBadToken cut (Depth path) = ⊥
IsBadToken cut (NoFile path) = ⊥
IsBadToken cut TooMany = ⊥

-- the line where the cut ends, unless memory runs out
abbrev pub EndsCut : Result (List Token) ℕ → ParseFault → Type 0
EndsCut cut (Refused refusal) = IsBadToken cut refusal
EndsCut cut ReadFault = ⊥
EndsCut cut TooLong = ⊥
EndsCut cut NoMemory = Unit {0}

-- What was answered, seen by `view`, is the cut of a text, unless memory runs out.
abbrev pub Cuts : {X : Type 0} → (X → List Token) → Result (List Token) ℕ → Result X ParseFault → Type 0
Cuts view cut (Ok x) = cut ≡ Ok (view x)
Cuts view cut (Err fault) = EndsCut cut fault
