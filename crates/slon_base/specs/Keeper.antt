-- What a store holds, and what each of its calls does.
use Rattle.std.specs.Prelude.{◌≡◌, ◌⊎◌, ℕ, ◌+◌, ◌-◌, ◌^◌, ◌≤◌, ◌==◌, if◌then◌else◌, Bool, true, false, List, []}
use Rattle.std.specs.Prelude.{◌∷◌, Option, Some, None, Result, Ok, Err, IfOk, OnOk, OnErr, IsErrOf, unwrap_or, is_some}
use Rattle.std.specs.Prelude.{suc, min}
use Rattle.std.specs.Option.{option_map}
use Rattle.std.specs.declared.cmp.Ordering.{Ordering}
use Rattle.std.specs.Ordering.{nat_cmp, is_lt}
use Rattle.std.specs.Cmp.Lexicographic.{slice_cmp}
use Rattle.std.specs.FinMap.{FinMap, get, insert, remove, entries, empty, len}
use Rattle.slon_base.specs.Counts.{Rose, Within}
use Rattle.slon_base.specs.Charges.{KeepsTold}
use Rattle.slon_base.specs.declared.charge.Charge.{Charge}
use Rattle.slon_base.specs.declared.fault.KeepFault.{KeepFault}
use Rattle.slon_base.specs.declared.fault.KeepFault.TheVariants.{Failed, NoMemory}

-- keys are ordered by their bytes
abbrev pub key_cmp : List ℕ → List ℕ → Ordering
key_cmp = slice_cmp nat_cmp

-- the pairs of one space
abbrev pub Space : Type 0
Space = FinMap key_cmp (List ℕ)

-- the pairs of all spaces
abbrev pub Store : Type 0
Store = ℕ → Space

-- a store with no pairs
abbrev pub nothing : Store
nothing space = empty

-- one pair put into one space
abbrev pub put_at : ℕ → List ℕ → List ℕ → Store → Store
put_at space key value m = λ other. if other == space then insert (m space) key value else m other

-- the pair of one key taken from one space
abbrev pub del_at : ℕ → List ℕ → Store → Store
del_at space key m = λ other. if other == space then remove (m space) key else m other

-- A store and what is said of it. A store that does not tell has None for what is held, and Some None for what is
-- pending; with no transaction nothing is pending, and that is None.
pub record Kept : Type 0 where
  pub held : Option Store
  pub pending : Option (Option Store)
  -- at most how many calls can still fail, where that is told
  pub can_fail : Option ℕ
  -- which calls it was told to fail on purpose
  pub told : Charge
  pub faults : ℕ
  pub doubts : ℕ
  -- how many pairs were put, where that is told, up to the last value of a u64
  pub puts : Option ℕ

-- what reads see
abbrev pub sight : Kept → Option Store
sight k = unwrap_or k.pending k.held

-- the count of pairs that were put, after one more
abbrev pub one_put : Option ℕ → Option ℕ
one_put puts = option_map (λ n. min (n + 1) (2 ^ 64 - 1)) puts

-- and after none
abbrev pub none_put : Option ℕ → Option ℕ
none_put puts = puts

-- the failures to come before the call, as the call left their bound
abbrev pub one_more : {T : Type 0} → Result T KeepFault → Option ℕ → Option ℕ
one_more (Ok x) left = left
one_more (Err Failed) left = option_map suc left
one_more (Err NoMemory) left = left

-- the call failed, or wanted memory
abbrev pub is_failure : {T : Type 0} → Result T KeepFault → Bool
is_failure (Ok x) = false
is_failure (Err fault) = true

-- the call failed, and not for want of memory
abbrev pub is_doubt : {T : Type 0} → Result T KeepFault → Bool
is_doubt (Ok x) = false
is_doubt (Err Failed) = true
is_doubt (Err NoMemory) = false

-- A failure has a cause: a count rose, and one failure fewer is to come. A call that does not fail counts no fault.
-- What the store was told to fail goes on.
pub record HasCause {T : Type 0} (old new : Kept) (result : Result T KeepFault) : Type 0 where
  pub later : old.faults ≤ new.faults
  pub failed : IsErrOf result Failed → Rose old.faults new.faults
  pub quiet : is_doubt result ≡ false → new.faults ≡ old.faults
  pub told : KeepsTold old.told new.told
  pub left : Within old.can_fail (one_more result new.can_fail)

-- a read gives what P says of what it sees, and changes nothing
pub record Reads {T : Type 0} (P : Store → T → Type 0) (old new : Kept) (result : Result T KeepFault) : Type 0 where
  pub cause : HasCause old new result
  pub gives : (m : Store) → sight old ≡ Some m → IfOk result (P m)
  pub ok : OnOk result (new.pending ≡ old.pending)
  pub opened : is_some new.pending ≡ is_some old.pending
  pub held : new.held ≡ old.held
  pub doubts : new.doubts ≡ old.doubts
  pub puts : new.puts ≡ old.puts

abbrev pub Gets : ℕ → List ℕ → Kept → Kept → Result (Option (List ℕ)) KeepFault → Type 0
Gets space key = Reads (λ m found. found ≡ get (m space) key)

abbrev pub Counts : ℕ → Kept → Kept → Result ℕ KeepFault → Type 0
Counts space = Reads (λ m count. count ≡ len (m space))

-- the entries with greater keys
abbrev pub after : List ℕ → List (List ℕ × List ℕ) → List (List ℕ × List ℕ)
after key [] = []
after key (e ∷ es) = if is_lt (key_cmp key e.0) then e ∷ es else after key es

-- the first entry, if there is one
abbrev pub first : List (List ℕ × List ℕ) → Option (List ℕ × List ℕ)
first [] = None
first (e ∷ es) = Some e

abbrev pub GetsNext : ℕ → List ℕ → Kept → Kept → Result (Option (List ℕ × List ℕ)) KeepFault → Type 0
GetsNext space key = Reads (λ m found. found ≡ first (after key (entries (m space))))

-- a change of what is pending, and of the count of pairs that were put, which a call that fails leaves
pub record Changes {T : Type 0} (change : Store → Store) (count : Option ℕ → Option ℕ) (old new : Kept)
    (result : Result T KeepFault) : Type 0 where
  pub cause : HasCause old new result
  pub ok : OnOk result (new.pending ≡ option_map (option_map change) old.pending)
  pub opened : is_some new.pending ≡ true
  pub held : new.held ≡ old.held
  pub doubts : new.doubts ≡ old.doubts
  pub puts : OnOk result (new.puts ≡ count old.puts)
  pub unput : OnErr result (new.puts ≡ old.puts)

pub record Begins {T : Type 0} (old new : Kept) (result : Result T KeepFault) : Type 0 where
  pub cause : HasCause old new result
  pub ok : OnOk result (new.pending ≡ Some old.held)
  pub failed : is_failure result ≡ true → new.pending ≡ None
  pub held : new.held ≡ old.held
  pub doubts : new.doubts ≡ old.doubts
  pub puts : new.puts ≡ old.puts

pub record Commits {T : Type 0} (old new : Kept) (result : Result T KeepFault) : Type 0 where
  pub cause : HasCause old new result
  pub ok : OnOk result (new.pending ≡ None)
  pub stands : OnOk result (old.pending ≡ Some new.held)
  pub in_doubt : IsErrOf result Failed → (new.held ≡ old.held) ⊎ (old.pending ≡ Some new.held)
  pub no_memory : IsErrOf result NoMemory → new.held ≡ old.held
  -- the count of doubts rises exactly where a commit fails
  pub doubts : old.doubts ≤ new.doubts
  pub doubted : IsErrOf result Failed → Rose old.doubts new.doubts
  pub sure : is_doubt result ≡ false → new.doubts ≡ old.doubts
  pub puts : new.puts ≡ old.puts

-- nothing is pending afterwards, also where it fails
pub record RollsBack {T : Type 0} (old new : Kept) (result : Result T KeepFault) : Type 0 where
  pub cause : HasCause old new result
  pub closed : new.pending ≡ None
  pub held : new.held ≡ old.held
  pub doubts : new.doubts ≡ old.doubts
  pub puts : new.puts ≡ old.puts
