-- The faults of the files.
use Rattle.std.proofs.Common.{ℕ, ◌≤◌, List, Err, refl, arith, inl, inr}
use Rattle.std.specs.Result.{IsErrOf}
use Rattle.slon_base.specs.Counts.{Rose}
use Rattle.slon_base.specs.declared.fault.OutFault.{OutFault}
use Rattle.slon_base.specs.declared.fault.OutFault.TheVariants.{Failed, NoMemory as OutOfMemory}
use Rattle.slonik_tokens.specs.declared.fault.ParseFault.TheVariants.{ReadFault}
use Rattle.slonik_tokens.specs.Faults.{fault_of}
use Rattle.slonik_expand.specs.Reading.{IsUnread}

pub rose_since : (old mid new : ℕ) → old ≤ mid → Rose mid new → Rose old new
rose_since old mid new h (inl more) = inl (omega arith)
rose_since old mid new h (inr last) = inr last

pub failed_since : {T X : Type 0} (old mid new : ℕ) (fault : OutFault) → old ≤ mid
    → (IsErrOf {T = T} (Err fault) Failed → Rose mid new) → IsErrOf {T = X} (Err (fault_of fault)) ReadFault
    → Rose old new
failed_since old mid new Failed h rose e = rose_since old mid new h (rose refl)
failed_since old mid new OutOfMemory h rose e = cc

pub unread_fault : (bytes : List ℕ) (limit : ℕ) (fault : OutFault) → IsUnread bytes limit (fault_of fault)
unread_fault bytes limit Failed = tt
unread_fault bytes limit OutOfMemory = tt
