-- What a call that reads a part of a script answers.
use Rattle.std.specs.Prelude.{◌≡◌, Option, Some, None, Result, Ok, Err}
use Rattle.slonik_parse.specs.declared.misparse.Misparse.{Misparse}
use Rattle.slonik_parse.specs.declared.misparse.Misparse.TheVariants.{Misfit, UnknownOption, MissingOption}
use Rattle.slonik_parse.specs.declared.misparse.Misparse.TheVariants.{NotInProfile, NotInTry, NoMemory}

-- it fails so, unless memory runs out
abbrev pub FailsSo : {T : Type 0} → Result T Misparse → Misparse → Type 0
FailsSo read Misfit = read ≡ Err Misfit
FailsSo read (UnknownOption word) = read ≡ Err (UnknownOption word)
FailsSo read (MissingOption option) = read ≡ Err (MissingOption option)
FailsSo read (NotInProfile word) = read ≡ Err (NotInProfile word)
FailsSo read (NotInTry word) = read ≡ Err (NotInTry word)
FailsSo read NoMemory = Unit {0}

-- What was answered is what reading gives, unless memory runs out.
abbrev pub Answers : {T : Type 0} → Result T Misparse → Result T Misparse → Type 0
Answers read (Ok x) = read ≡ Ok x
Answers read (Err e) = FailsSo read e

-- a value, or no fit
abbrev pub fit : {T : Type 0} → Option T → Result T Misparse
fit None = Err Misfit
fit (Some x) = Ok x

-- what goes on with a value, if it was read
abbrev pub and_then : {S T : Type 0} → Result S Misparse → (S → Result T Misparse) → Result T Misparse
and_then (Ok x) more = more x
and_then (Err e) more = Err e

-- What was changed in place is what reading gives, unless memory runs out.
abbrev pub Sets : {T : Type 0} → Result T Misparse → T → Result (Unit {0}) Misparse → Type 0
Sets read new (Ok _) = read ≡ Ok new
Sets read new (Err e) = FailsSo read e
