-- What the cause of a failure gives.
use Rattle.std.proofs.Common.{◌≡◌, ℕ, ◌≤◌, suc, Option, Some, None, Result, Ok, Err, inl, inr, arith, refl, sym, ◌∙◌}
use Rattle.std.proofs.Common.{is_some, true, true≢false}
use Rattle.std.specs.Option.{option_map}
use Rattle.slon_base.specs.Counts.{Rose, Within}
use Rattle.slon_base.specs.Keeper.{Kept, Store, HasCause, Reads, Changes, one_more}
use Rattle.store_rows.specs.Steps.{Safe, IsOutside, IsWithinLimit, IsOfSpace}
use Rattle.store_rows.specs.declared.stop.Stop.{Stop}
use Rattle.store_rows.specs.declared.stop.Stop.TheVariants.{Failed as StopFailed, NoMemory as StopNoMemory, BadRow}
use Rattle.store_rows.specs.declared.stop.Stop.TheVariants.{TooBig}
use Rattle.slon_base.specs.declared.fault.KeepFault.{KeepFault}
use Rattle.slon_base.specs.declared.fault.KeepFault.TheVariants.{Failed, NoMemory}
use Rattle.store_rows.specs.Spending.{IsAtMost, Stays, IsUpTo, Rests}

-- a bound on a bound
within_on : (n : ℕ) (a b : Option ℕ) → Within (Some n) a → Within a b → Within (Some n) b
within_on n None b one two = absurd one
within_on n (Some x) None one two = absurd two
within_on n (Some x) (Some y) one two = omega (arith, one, two)

one_less : {T : Type 0} (n : ℕ) (result : Result T KeepFault) (left : Option ℕ) → Within (Some n)
    (one_more result left) → Within (Some n) left
one_less n (Ok x) left within = within
one_less n (Err Failed) None within = absurd within
one_less n (Err Failed) (Some m) within = omega (arith, within)
one_less n (Err NoMemory) left within = within

pub stays : {T : Type 0} {old new : Kept} {result : Result T KeepFault} → HasCause old new result →
    Stays old.can_fail new.can_fail
unfolding IsAtMost
stays {T} {old} {new} {result} cause n most = one_less n result new.can_fail
    (within_on n old.can_fail (one_more result new.can_fail) most cause.left)

pub spends : {T : Type 0} {old new : Kept} → HasCause {T = T} old new (Err Failed) → (n : ℕ) → IsAtMost n old.can_fail →
    IsAtMost n (option_map suc new.can_fail)
unfolding IsAtMost
spends {T} {old} {new} cause n most = within_on n old.can_fail (option_map suc new.can_fail) most cause.left

rose_later : {a b c : ℕ} → a ≤ b → Rose b c → Rose a c
rose_later le (inl lt) = inl (omega arith)
rose_later le (inr last) = inr last

pub rose : {T : Type 0} {old new : Kept} → HasCause {T = T} old new (Err Failed) → (n : ℕ) → n ≤ old.faults →
    Rose n new.faults
rose cause n le = rose_later le (cause.failed refl)

-- a call that does not fail
pub quiet : {T : Type 0} {old new : Kept} {x : T} → HasCause old new (Ok x) → Rests old.faults new.faults
unfolding IsUpTo
quiet cause n up = omega (arith, cause.quiet refl, up)

pub quiet_short : {T : Type 0} {old new : Kept} → HasCause {T = T} old new (Err NoMemory) → Rests old.faults new.faults
unfolding IsUpTo
quiet_short cause n up = omega (arith, cause.quiet refl, up)

-- a call that failed
failed_safe : {T U : Type 0} {old new : Kept} → HasCause {T = T} old new (Err Failed) →
    new.held ≡ old.held → new.doubts ≡ old.doubts →
    is_some new.pending ≡ is_some old.pending → Safe {T = U} old new (Err StopFailed)
failed_safe cause held doubts opened = record {
  still = stays cause;
  spends = λ failed. spends cause;
  later = cause.later;
  rises = λ failed. rose cause;
  quiet = λ none. absurd (true≢false none);
  told = cause.told;
  held = held;
  doubts = doubts;
  opened = opened;
}

pub read_failed : {T U : Type 0} {P : Store → T → Type 0} {old new : Kept} → Reads P old new (Err Failed) →
    Safe {T = U} old new (Err StopFailed)
read_failed r = failed_safe r.cause r.held r.doubts r.opened

pub change_failed : {T U : Type 0} {f : Store → Store} {count : Option ℕ → Option ℕ} {old new : Kept} →
    is_some old.pending ≡ true → Changes {T = T} f count old new (Err Failed) → Safe {T = U} old new (Err StopFailed)
change_failed was r = failed_safe r.cause r.held r.doubts (r.opened ∙ sym was)

pub outside_within : (stop : Stop) → IsOutside stop → IsWithinLimit stop
outside_within StopFailed outside = tt
outside_within StopNoMemory outside = tt
outside_within (BadRow space) outside = tt
outside_within (TooBig space) outside = outside

pub outside_space : (space : ℕ) (stop : Stop) → IsOutside stop → IsOfSpace space stop
outside_space space StopFailed outside = tt
outside_space space StopNoMemory outside = tt
outside_space space (BadRow other) outside = absurd outside
outside_space space (TooBig other) outside = outside
