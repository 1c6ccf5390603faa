-- Files and the output, and what each of their calls does.
use Rattle.std.specs.Prelude.{◌≡◌, ℕ, ◌≤◌, List, [], ◌∷◌, ◌++◌, length, take, drop, Option, Some, None, Result, IfOk}
use Rattle.std.specs.Prelude.{OnErr, IsErrOf, OnOk, Bool, true, false}
use Rattle.std.specs.List.{concat}
use Rattle.std.specs.Option.{option_map}
use Rattle.slon_base.specs.Counts.{Rose}
use Rattle.slon_base.specs.declared.fault.OutFault.{OutFault}
use Rattle.slon_base.specs.declared.fault.OutFault.TheVariants.{Failed, NoMemory}

-- the count of faults never falls, and rises where a call fails
pub record Tells {T : Type 0} (old new : ℕ) (result : Result T OutFault) : Type 0 where
  pub later : old ≤ new
  pub failed : IsErrOf result Failed → Rose old new

-- Files: what each name holds, where that is told; what is left of each entered file, the one entered last first,
-- with None where that is not told; what was left of the file that was left last, where that is told; and the count of
-- faults.
pub record Filed : Type 0 where
  pub names : Option (List ℕ → Option (List ℕ))
  pub stack : List (Option (List ℕ))
  pub unread : Option (List ℕ)
  pub faults : ℕ

-- what is left of a file that is entered now
abbrev pub HoldsFile : Option (List ℕ → Option (List ℕ)) → List ℕ → Option (List ℕ) → Type 0
HoldsFile None name left = Unit {0}
HoldsFile (Some names) name left = left ≡ names name

-- no file has the name, where that is told
abbrev pub HasNoFile : Option (List ℕ → Option (List ℕ)) → List ℕ → Type 0
HasNoFile None name = Unit {0}
HasNoFile (Some names) name = names name ≡ None

-- what is left is told where the files tell
abbrev pub IsTold : Option (List ℕ → Option (List ℕ)) → Option (List ℕ) → Type 0
IsTold None left = Unit {0}
IsTold (Some names) None = ⊥
IsTold (Some names) (Some bytes) = Unit {0}

-- what entering does to the stack
abbrev pub Entered : List ℕ → Filed → List (Option (List ℕ)) → Bool → Type 0
Entered name old stack true = (left : Option (List ℕ)) × (stack ≡ left ∷ old.stack) × HoldsFile old.names name left
    × IsTold old.names left
Entered name old stack false = (stack ≡ old.stack) × HasNoFile old.names name

pub record Enters (name : List ℕ) (old new : Filed) (result : Result Bool OutFault) : Type 0 where
  pub cause : Tells old.faults new.faults result
  pub names : new.names ≡ old.names
  pub unread : new.unread ≡ old.unread
  pub entered : IfOk result (Entered name old new.stack)
  pub failed : OnErr result (new.stack ≡ old.stack)

-- the first bytes of what was left stand in front of the buffer, and the rest is left; there are none only at the end
abbrev pub Reads : List ℕ → ℕ → Option (List ℕ) → Option (List ℕ) → Type 0
Reads into n None after = Unit {0}
Reads into n (Some left) after = (take n into ≡ take n left) × (n ≤ length left) × (after ≡ Some (drop n left))
    × (n ≡ 0 → left ≡ [])

-- the file entered last, if there is one
abbrev pub top : List (Option (List ℕ)) → Option (List ℕ)
top [] = None
top (left ∷ others) = left

pub record ReadsOn (into : List ℕ) (old new : Filed) (result : Result ℕ OutFault) : Type 0 where
  pub cause : Tells old.faults new.faults result
  pub names : new.names ≡ old.names
  pub unread : new.unread ≡ old.unread
  pub depth : length new.stack ≡ length old.stack
  pub others : drop 1 new.stack ≡ drop 1 old.stack
  pub failed : OnErr result (new.stack ≡ old.stack)
  pub count : IfOk result (λ n. n ≤ length into)
  pub bytes : IfOk result (λ n. Reads into n (top old.stack) (top new.stack))

pub record Leaves (old new : Filed) : Type 0 where
  pub names : new.names ≡ old.names
  pub stack : new.stack ≡ drop 1 old.stack
  pub unread : new.unread ≡ top old.stack
  pub faults : new.faults ≡ old.faults

-- The output: the pieces that were written, in order, where that is told, and the count of faults.
pub record Poured : Type 0 where
  pub pieces : Option (List (List ℕ))
  pub faults : ℕ

-- the bytes that were written
abbrev pub written : Poured → Option (List ℕ)
written p = option_map concat p.pieces

-- one more piece was written
abbrev pub with_piece : List ℕ → Option (List (List ℕ)) → Option (List (List ℕ))
with_piece piece pieces = option_map (λ before. before ++ piece ∷ []) pieces

-- a first part of the piece was written
abbrev pub WritesPart : List ℕ → Option (List (List ℕ)) → Option (List (List ℕ)) → Type 0
WritesPart piece None after = Unit {0}
WritesPart piece (Some before) after = (n : ℕ) × (n ≤ length piece) × (after ≡ Some (before ++ take n piece ∷ []))

pub record Writes (piece : List ℕ) (old new : Poured) (result : Result (Unit {0}) OutFault) : Type 0 where
  pub cause : Tells old.faults new.faults result
  pub ok : OnOk result (new.pieces ≡ with_piece piece old.pieces)
  pub failed : IsErrOf result Failed → WritesPart piece old.pieces new.pieces
  pub no_memory : IsErrOf result NoMemory → new.pieces ≡ old.pieces
