-- What the reads and the transactions of a step do to the store, and why they stop.
use Rattle.std.specs.Prelude.{◌≡◌, ◌⊎◌, ◌≤◌, Bool, true, false, Option, Some, None, Result, Ok, Err, OnOk, IfErr}
use Rattle.std.specs.Prelude.{is_some}
use Rattle.slon_base.specs.Keeper.{Kept, Store, sight}
use Rattle.slon_base.specs.Charges.{KeepsTold}
use Rattle.slon_base.specs.Counts.{Rose}
use Rattle.store_rows.specs.declared.stop.Stop.{Stop}
use Rattle.store_rows.specs.Spending.{PutsUpTo, Stays, Spends, Rests}
use Rattle.store_rows.specs.Steps.{Rises, Gives, IsOutside, IsWithinLimit, is_failed, is_stop_failed}
use Rattle.app_store.specs.declared.transact.Made.{Made}
use Rattle.app_store.specs.declared.transact.Made.TheVariants.{Done, InDoubt}

-- What is known of the failures of a store over a step that failed or not: a bound on those to come is kept, and a
-- failure takes one from it; a fault that was counted is told; and what the store was told to fail goes on.
pub record Knows (failed : Bool) (old new : Kept) : Type 0 where
  pub still : Stays old.can_fail new.can_fail
  pub spends : Spends failed old.can_fail new.can_fail
  pub quiet : failed ≡ false → Rests old.faults new.faults
  pub told : KeepsTold old.told new.told

abbrev pub IsSure : {T : Type 0} → Kept → Kept → Result T Stop → Type 0
IsSure old new result = Knows (is_failed result) old new

-- faults are told where the count rose, and no number is above the limit
pub record IsCounted {T : Type 0} (old new : Kept) (result : Result T Stop) : Type 0 where
  pub later : old.faults ≤ new.faults
  pub failed : is_failed result ≡ true → Rose old.faults new.faults
  pub within : IfErr result IsWithinLimit

-- a look at the store, which changes nothing
pub record Looks {T : Type 0} (says : Store → Result T Stop → Type 0) (old new : Kept)
    (result : Result T Stop) : Type 0 where
  pub sure : IsSure old new result
  pub counted : IsCounted old new result
  pub held : new.held ≡ old.held
  pub doubts : new.doubts ≡ old.doubts
  pub opened : is_some new.pending ≡ is_some old.pending
  pub gives : (m : Store) → sight old ≡ Some m → says m result

-- the result is this one, or there was no memory, or the store failed
abbrev pub Says : {T : Type 0} → T → Result T Stop → Type 0
Says right = Gives (λ x. x ≡ right)

-- a transaction begins
pub record Starts (old new : Kept) (result : Result (Unit {0}) Stop) : Type 0 where
  pub sure : Knows (is_failed result) old new
  pub later : old.faults ≤ new.faults
  pub rises : Rises (is_failed result) old.faults new.faults
  pub held : new.held ≡ old.held
  pub doubts : new.doubts ≡ old.doubts
  pub only : IfErr result IsOutside
  pub opened : OnOk result (new.pending ≡ Some old.held)
  pub puts : PutsUpTo 0 old.puts new.puts

-- no transaction is left pending, but where its commit is in doubt
abbrev pub Closes : Kept → Result Made Stop → Type 0
Closes new (Ok Done) = is_some new.pending ≡ false
Closes new (Ok InDoubt) = Unit {0}
Closes new (Err stop) = Unit {0}

-- the store failed in a transaction, at its commit too
abbrev pub fails_made : Result Made Stop → Bool
fails_made (Ok Done) = false
fails_made (Ok InDoubt) = true
fails_made (Err stop) = is_stop_failed stop

-- the count of doubts rises exactly where a commit is in doubt
abbrev pub Doubts : Kept → Kept → Result Made Stop → Type 0
Doubts old new (Ok Done) = new.doubts ≡ old.doubts
Doubts old new (Ok InDoubt) = Rose old.faults new.faults × Rose old.doubts new.doubts
Doubts old new (Err stop) = new.doubts ≡ old.doubts

-- what the end of a transaction leaves
abbrev pub EndsAs : Kept → Kept → Result Made Stop → Type 0
EndsAs old new (Ok Done) = old.pending ≡ Some new.held
EndsAs old new (Ok InDoubt) = (new.held ≡ old.held) ⊎ (old.pending ≡ Some new.held)
EndsAs old new (Err stop) = (new.held ≡ old.held) × IsOutside stop

pub record Finishes (old new : Kept) (result : Result Made Stop) : Type 0 where
  pub sure : Knows (fails_made result) old new
  pub counted : IsCounted old new result
  pub closed : Closes new result
  pub doubts : Doubts old new result
  pub ends : EndsAs old new result
  pub puts : PutsUpTo 0 old.puts new.puts

-- what a transaction leaves of what was held: with its change, and where its commit failed with the change or without
abbrev pub Leaves : (Store → Store) → Store → Result Made Stop → Kept → Type 0
Leaves change m (Ok Done) new = new.held ≡ Some (change m)
Leaves change m (Ok InDoubt) new = (new.held ≡ Some m) ⊎ (new.held ≡ Some (change m))
Leaves change m (Err stop) new = (new.held ≡ Some m) × IsOutside stop

-- a transaction
pub record Transacts (change : Store → Store) (old new : Kept) (result : Result Made Stop) : Type 0 where
  pub sure : Knows (fails_made result) old new
  pub counted : IsCounted old new result
  pub closed : Closes new result
  pub doubts : Doubts old new result
  pub leaves : (m : Store) → old.held ≡ Some m → Leaves change m result new

-- what is promised of a transaction over every store
pub record Tries (old new : Kept) (result : Result Made Stop) : Type 0 where
  pub sure : Knows (fails_made result) old new
  pub counted : IsCounted old new result
  pub closed : Closes new result
  pub doubts : Doubts old new result

-- a transaction that may be refused before it begins
abbrev pub ClosesOr : Kept → Result (Option Made) Stop → Type 0
ClosesOr new (Ok None) = is_some new.pending ≡ false
ClosesOr new (Ok (Some made)) = Closes new (Ok made)
ClosesOr new (Err stop) = Unit {0}

abbrev pub fails_made_or : Result (Option Made) Stop → Bool
fails_made_or (Ok None) = false
fails_made_or (Ok (Some made)) = fails_made (Ok made)
fails_made_or (Err stop) = is_stop_failed stop

abbrev pub DoubtsOr : Kept → Kept → Result (Option Made) Stop → Type 0
DoubtsOr old new (Ok None) = new.doubts ≡ old.doubts
DoubtsOr old new (Ok (Some made)) = Doubts old new (Ok made)
DoubtsOr old new (Err stop) = new.doubts ≡ old.doubts

abbrev pub LeavesOr : Bool → (Store → Store) → Store → Result (Option Made) Stop → Kept → Type 0
LeavesOr refused change m (Ok None) new = (refused ≡ true) × (new.held ≡ Some m)
LeavesOr refused change m (Ok (Some made)) new = (refused ≡ false) × Leaves change m (Ok made) new
LeavesOr refused change m (Err stop) new = (new.held ≡ Some m) × IsOutside stop

pub record TriesOr (old new : Kept) (result : Result (Option Made) Stop) : Type 0 where
  pub sure : Knows (fails_made_or result) old new
  pub counted : IsCounted old new result
  pub closed : ClosesOr new result
  pub doubts : DoubtsOr old new result
