-- What the reading of a file answers.
use Rattle.std.specs.Prelude.{◌≡◌, ℕ, ◌<◌, ◌≤◌, List, length, drop, Option, Some, None, Result, Ok, Err}
use Rattle.slon_base.specs.Outside.{Filed}
use Rattle.slonik_tokens.specs.declared.fault.ParseFault.{ParseFault}
use Rattle.slonik_tokens.specs.declared.fault.ParseFault.TheVariants.{Refused, ReadFault, TooLong, NoMemory}

-- the files are as before, but for how often they failed and what is left of the file entered last
pub record KeepsOthers (old new : Filed) : Type 0 where
  pub faults : old.faults ≤ new.faults
  pub names : new.names ≡ old.names
  pub depth : length new.stack ≡ length old.stack
  pub others : drop 1 new.stack ≡ drop 1 old.stack

-- why bytes are not read, unless memory runs out or the files fail: there are too many
abbrev pub IsUnread : List ℕ → ℕ → ParseFault → Type 0
IsUnread bytes limit (Refused refusal) = ⊥
IsUnread bytes limit ReadFault = Unit {0}
IsUnread bytes limit TooLong = limit < length bytes
IsUnread bytes limit NoMemory = Unit {0}

-- what was read, seen by `view`, is all of the bytes
abbrev pub IsWhole : {X : Type 0} → (X → List ℕ) → List ℕ → ℕ → Result X ParseFault → Type 0
IsWhole view bytes limit (Ok x) = (view x ≡ bytes) × (length bytes ≤ limit)
IsWhole view bytes limit (Err fault) = IsUnread bytes limit fault

-- why a file is not read
abbrev pub IsUnreadFile : Option (List ℕ) → ℕ → ParseFault → Type 0
IsUnreadFile found limit (Refused refusal) = ⊥
IsUnreadFile found limit ReadFault = Unit {0}
IsUnreadFile found limit TooLong = (bytes : List ℕ) × (found ≡ Some bytes) × (limit < length bytes)
IsUnreadFile found limit NoMemory = Unit {0}

-- what was read, seen by `view`, is the whole file, or there is none
abbrev pub IsFile : {X : Type 0} → (X → List ℕ) → Option (List ℕ) → ℕ → Result (Option X) ParseFault → Type 0
IsFile view found limit (Ok None) = found ≡ None
IsFile view found limit (Ok (Some x)) = (found ≡ Some (view x)) × (length (view x) ≤ limit)
IsFile view found limit (Err fault) = IsUnreadFile found limit fault
