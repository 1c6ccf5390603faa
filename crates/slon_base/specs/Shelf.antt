-- The shelf of stores, and what its call does.
use Rattle.std.specs.Prelude.{◌≡◌, ◌⊎◌, ℕ, Bool, true, List, [], ◌∷◌, ◌++◌, Option, Some, Result, IfOk, OnOk, OnErr}
use Rattle.std.specs.Option.{option_map}
use Rattle.slon_base.specs.Keeper.{Kept, Store, nothing}
use Rattle.slon_base.specs.Counts.{Within}
use Rattle.slon_base.specs.Outside.{Tells}
use Rattle.slon_base.specs.declared.fault.OutFault.{OutFault}

-- What is told of a store to come: that it begins empty and tells its rows, and at most how many of its calls can fail.
pub record Promise : Type 0 where
  pub begins_empty : Bool
  pub tells_rows : Bool
  pub can_fail : Option ℕ

-- What is told of the store of each place; for which stores the shelf was asked, in order, each by its folder, if there
-- is one, and its place, where that is told; and the count of faults.
pub record Shelved : Type 0 where
  pub promise : ℕ → Promise
  pub asked : Option (List (Option (List ℕ) × ℕ))
  pub faults : ℕ

-- the shelf was asked once more
abbrev pub with_asked : Option (List ℕ) × ℕ → Option (List (Option (List ℕ) × ℕ)) → Option (List (Option (List ℕ) × ℕ))
with_asked one asked = option_map (λ before. before ++ one ∷ []) asked

-- a store as it was promised
pub record IsAsPromised (p : Promise) (k : Kept) : Type 0 where
  pub told : p.tells_rows ≡ true → (m : Store) × (k.held ≡ Some m)
  pub empty : p.begins_empty ≡ true → p.tells_rows ≡ true → k.held ≡ Some nothing
  pub left : Within p.can_fail k.can_fail

pub record Gives {S : Type 0} (folder : Option (List ℕ)) (place : ℕ) (kept : S → Kept) (old new : Shelved)
    (result : Result S OutFault) : Type 0 where
  pub cause : Tells old.faults new.faults result
  pub promise : new.promise ≡ old.promise
  pub asked : OnOk result (new.asked ≡ with_asked (folder, place) old.asked)
  pub unasked : OnErr result ((new.asked ≡ old.asked) ⊎ (new.asked ≡ with_asked (folder, place) old.asked))
  pub store : IfOk result (λ store. IsAsPromised (old.promise place) (kept store))
