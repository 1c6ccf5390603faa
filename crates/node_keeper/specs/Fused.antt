-- What a fuse does: which calls it fails, what it leaves, and what is told of it.
use Rattle.std.specs.Prelude.{◌≡◌, ℕ, ◌+◌, ◌&&◌, Bool, true, false, if◌then◌else◌, Option, Result, Ok, Err}
use Rattle.slon_base.specs.Keeper.{Kept, Commits, RollsBack, is_doubt}
use Rattle.slon_base.specs.declared.fault.KeepFault.{KeepFault}
use Rattle.slon_base.specs.declared.fault.KeepFault.TheVariants.{Failed}
use Rattle.node_keeper.specs.Plan.{capped}
use Rattle.slon_base.specs.declared.charge.Charge.{Charge}
use Rattle.slon_base.specs.Charges.{burnt, burnt_by_commit, is_blown, keeps, strikes, strikes_commit, bound, GoesOn}
use Rattle.node_keeper.specs.declared.fuse.Fuse.{Fuse}

-- what is told of a fuse, by what is told of the store that it passes calls on to
abbrev pub fuse_kept : {K : Type 0} → (K → Kept) → Fuse K → Kept
fuse_kept kept f = record {
  held = (kept f.keeper).held;
  pending = (kept f.keeper).pending;
  can_fail = bound f.charge (kept f.keeper).can_fail;
  told = f.charge;
  faults = capped ((kept f.keeper).faults + f.own_faults);
  doubts = capped ((kept f.keeper).doubts + f.own_doubts);
  puts = (kept f.keeper).puts;
}

-- the same where it is told another charge, with this bound on failures to come
abbrev pub told_so : Charge → Option ℕ → Kept → Kept
told_so charge left k = record {
  held = k.held;
  pending = k.pending;
  can_fail = left;
  told = charge;
  faults = k.faults;
  doubts = k.doubts;
  puts = k.puts;
}

-- only the charge is another one
pub record IsCharged {K : Type 0} (told : Charge) (old new : Fuse K) : Type 0 where
  pub charge : new.charge ≡ told
  pub keeper : new.keeper ≡ old.keeper
  pub faults : new.own_faults ≡ old.own_faults
  pub doubts : new.own_doubts ≡ old.own_doubts

-- What a call left that the fuse counted: another charge, and an own count of faults that rose where the fuse fails the
-- call.
abbrev pub Burns : {K : Type 0} → Charge → Fuse K → Fuse K → Type 0
Burns charge old new = (new.charge ≡ charge)
    × (new.own_faults ≡ (if is_blown charge then capped (old.own_faults + 1) else old.own_faults))

-- A call that is neither a commit nor a rollback: it does not reach the wrapped store where the fuse fails it, and else
-- it does there what P says.
pub record Fuses {T : Type 0} {K : Type 0} (P : Kept → Kept → Result T KeepFault → Type 0) (kept : K →
    Kept) (old new : Fuse K) (result : Result T KeepFault) : Type 0 where
  pub burns : Burns (burnt old.charge) old new
  pub goes_on : GoesOn old.charge new.charge
  pub doubts : new.own_doubts ≡ old.own_doubts
  pub fails : strikes old.charge ≡ true → (result ≡ Err Failed) × (new.keeper ≡ old.keeper)
  pub passes : strikes old.charge ≡ false → P (kept old.keeper) (kept new.keeper) result

-- a rollback always reaches the wrapped store
pub record FusesRollback {K : Type 0} (kept : K → Kept) (old new : Fuse K) (result : Result (Unit {0}) KeepFault) : Type
    0 where
  pub burns : Burns (burnt old.charge) old new
  pub goes_on : GoesOn old.charge new.charge
  pub doubts : new.own_doubts ≡ old.own_doubts
  pub reaches : (answer : Result (Unit {0}) KeepFault) × RollsBack (kept old.keeper) (kept new.keeper) answer
      × (result ≡ (if strikes old.charge then Err Failed else answer))

-- what a fuse answers for a commit that it fails and that the wrapped store answered
abbrev pub masked : Result (Unit {0}) KeepFault → KeepFault
masked (Ok x) = Failed
masked (Err fault) = fault

-- A commit that the fuse fails: where it is to be kept, the wrapped store made it, or told why not, and else it does
-- not reach the wrapped store.
abbrev pub FailsCommit : {K : Type 0} → Bool → (K → Kept) → Fuse K → Fuse K → Result (Unit {0}) KeepFault → Type 0
FailsCommit true kept old new result = (answer : Result (Unit {0}) KeepFault)
    × Commits (kept old.keeper) (kept new.keeper) answer × (result ≡ Err (masked answer))
FailsCommit false kept old new result = (result ≡ Err Failed) × (new.keeper ≡ old.keeper)

pub record FusesCommit {K : Type 0} (kept : K → Kept) (old new : Fuse K) (result : Result (Unit {0}) KeepFault) : Type 0
  where
    pub burns : new.charge ≡ burnt_by_commit old.charge
    pub faults : new.own_faults ≡ (if strikes_commit old.charge
        && is_doubt result then capped (old.own_faults + 1) else old.own_faults)
    pub goes_on : GoesOn old.charge new.charge
    pub doubts : new.own_doubts ≡ (if strikes_commit old.charge
        && is_doubt result then capped (old.own_doubts + 1) else old.own_doubts)
    pub fails : strikes_commit old.charge ≡ true → FailsCommit (keeps old.charge) kept old new result
    pub passes : strikes_commit old.charge ≡ false → Commits (kept old.keeper) (kept new.keeper) result
