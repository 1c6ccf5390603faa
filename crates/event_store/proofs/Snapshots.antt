-- Snapshots that can be spelled.
use Rattle.std.proofs.Common.{◌≡◌, ℕ, ◌<◌, ◌^◌, List, [], ◌∷◌, ◌++◌, ◌∙◌, append_assoc, arith}
use Rattle.std.specs.List.{AllByRecursion}
use Rattle.slon_base.specs.Codec.{number_bytes, many_bytes, AllAre, AreMany}
use Rattle.slon_model.specs.Snapshots.{Snapshot, IsSnapshot}
use Rattle.txn_core.specs.Snapshots.{IsPrinted}
use Rattle.txn_core.proofs.SnapshotTexts.{xmin_le}
use Rattle.event_store.specs.Spellings.{IsStored, CanSnapshot, snapshot_bytes}

-- the form of a snapshot that is stored is that of one that is printed
pub printed : (s : Snapshot) → IsSnapshot s → IsPrinted s
printed s f = let small = f.small in
    record { first = f.first; rising = f.rising; below = f.below; small = omega (arith, small) }

pub formed : (s : Snapshot) → IsPrinted s → s.xmax < 2 ^ 63 → IsSnapshot s
formed s f small = record { first = f.first; rising = f.rising; below = f.below; small = small }

pub xmin_stored : (s : Snapshot) → CanSnapshot s → IsStored s.xmin
xmin_stored s can = let small = can.formed.small in omega (arith, small, xmin_le s (printed s can.formed))

all_stored : (limit : ℕ) (xs : List ℕ) → limit < 2 ^ 63 → AllByRecursion (λ x. x < limit) xs → AllAre IsStored xs
all_stored limit [] small below = tt
all_stored limit (x ∷ xs) small below =
    let at = below.0 in (omega (arith, small, at), all_stored limit xs small below.1)

pub ids_stored : (s : Snapshot) → CanSnapshot s → AreMany IsStored s.running
ids_stored s can = record {
  few = can.few;
  each = all_stored s.xmax s.running can.formed.small can.formed.below;
}

-- its first number is read in front of the rest
pub first_part : {row : List ℕ} (s : Snapshot) (rest : List ℕ) → row ≡ snapshot_bytes s ++ rest →
    row ≡ number_bytes s.xmin ++ (number_bytes s.xmax ++ (many_bytes number_bytes s.running ++ rest))
first_part s rest is = is ∙ simp append_assoc
