-- Snapshots of the program, seen as those of the model, and how their text is read.
use Rattle.std.specs.Prelude.{◌≡◌, ℕ, ◌<◌, ◌^◌, Bool, true, nat_lt, ◌&&◌, List, [], ◌∷◌, ◌++◌, codes, Result, Ok, Err}
use Rattle.std.specs.List.{AllByRecursion}
use Rattle.std.specs.Fmt.{decimal}
use Rattle.slon_model.specs.Snapshots.{Snapshot, Rising, first_or, snapshot_text}
use Rattle.txn_core.specs.declared.snapshot.Snapshot as declared
use Rattle.txn_core.specs.declared.fault.BadSnapshot.{BadSnapshot}
use Rattle.txn_core.specs.declared.fault.BadSnapshot.TheVariants.{NotCanonical, NoMemory}

-- the snapshot of the model
abbrev pub seen_as : declared.Snapshot → Snapshot
seen_as s = record { xmin = s.xmin; xmax = s.xmax; running = s.running }

-- the form that a snapshot has that is printed: that of every snapshot, with numbers up to the last one
pub record IsPrinted (s : Snapshot) : Type 0 where
  pub first : s.xmin ≡ first_or s.xmax s.running
  pub rising : Rising s.running
  pub below : AllByRecursion (λ x. x < s.xmax) s.running
  pub small : s.xmax < 2 ^ 64

-- the text is that of this snapshot, or of none, or memory ran out
abbrev pub Parses : List ℕ → Result declared.Snapshot BadSnapshot → Type 0
Parses text (Ok s) = IsPrinted (seen_as s) × (snapshot_text (seen_as s) ≡ text)
Parses text (Err NotCanonical) = (s : Snapshot) → IsPrinted s → ¬ (snapshot_text s ≡ text)
Parses text (Err NoMemory) = Unit {0}

-- each id behind a comma
abbrev pub behind_commas : List ℕ → List ℕ
behind_commas [] = []
behind_commas (x ∷ xs) = codes "," ++ decimal x ++ behind_commas xs

-- each id is below the one behind it, and the last is below the limit
abbrev pub rises_below : ℕ → List ℕ → Bool
rises_below limit [] = true
rises_below limit (x ∷ xs) = nat_lt x (first_or limit xs) && rises_below limit xs

-- these ids were read, or memory ran out
abbrev pub GetsIds : List ℕ → Result (List ℕ) BadSnapshot → Type 0
GetsIds xs (Ok found) = found ≡ xs
GetsIds xs (Err NotCanonical) = ⊥
GetsIds xs (Err NoMemory) = Unit {0}

-- this snapshot was read, or memory ran out
abbrev pub GetsSnapshot : Snapshot → Result declared.Snapshot BadSnapshot → Type 0
GetsSnapshot s (Ok found) = seen_as found ≡ s
GetsSnapshot s (Err NotCanonical) = ⊥
GetsSnapshot s (Err NoMemory) = Unit {0}
