-- What a store in memory tells.
use Rattle.std.specs.Prelude.{◌≡◌, ℕ, Bool, true, false, List, [], ◌∷◌, ◌==◌, ◌||◌, Option, Some, None, slice_index_or}
use Rattle.std.specs.Prelude.{slice_set, if◌then◌else◌}
use Rattle.std.specs.FinMap.{empty, entries}
use Rattle.slon_base.specs.Keeper.{Space, Store, Kept}
use Rattle.slon_base.specs.declared.charge.Charge.TheVariants.{Off}
use Rattle.node_keeper.specs.declared.fault_plan.FaultPlan.{FaultPlan}
use Rattle.node_keeper.specs.declared.mem_keeper.Phase.{Phase}
use Rattle.node_keeper.specs.declared.mem_keeper.Phase.TheVariants.{Idle, Open, Torn}
use Rattle.node_keeper.specs.Plan.{left}

-- of each space what is held, and what is pending
abbrev pub held_store : List (Space × Space) → Store
held_store spaces space = (slice_index_or spaces space (empty, empty)).0

abbrev pub pending_store : List (Space × Space) → Store
pending_store spaces space = (slice_index_or spaces space (empty, empty)).1

-- what is pending, by the phase of the transaction
abbrev pub pending_in : Phase → Store → Option (Option Store)
pending_in Idle store = None
pending_in Open store = Some (Some store)
pending_in Torn store = Some None

-- with no transaction, what is pending is what is held
abbrev pub IsSettled : Phase → List (Space × Space) → Type 0
IsSettled phase spaces = phase ≡ Idle → (space : ℕ) → entries (pending_store spaces space) ≡ entries
    (held_store spaces space)

-- the phase after a call that failed
abbrev pub torn : Phase → Phase
torn Idle = Idle
torn others = Torn

abbrev pub is_open : Phase → Bool
is_open Open = true
is_open others = false

-- a space after a transaction that holds what was pending, or does not
abbrev pub ended : Bool → Space × Space → Space × Space
ended commits p = if commits then (p.1, p.1) else (p.0, p.0)

-- the space is among these
abbrev pub is_touched : List ℕ → ℕ → Bool
is_touched [] space = false
is_touched (t ∷ ts) space = (t == space) || is_touched ts space

-- the second list has all of the first one, and this space
abbrev pub Touches : ℕ → List ℕ → List ℕ → Type 0
Touches space old new =
    (other : ℕ) → is_touched new other ≡ false → (is_touched old other ≡ false) × ((space == other) ≡ false)

-- what is pending is what is held in each space that no change of the transaction is in
abbrev pub IsTracked : List ℕ → List (Space × Space) → Type 0
IsTracked touched spaces =
    (space : ℕ) → is_touched touched space ≡ false → entries (pending_store spaces space) ≡ entries
    (held_store spaces space)

-- the spaces after the end of a transaction in these
abbrev pub ended_in : Bool → List ℕ → List (Space × Space) → List (Space × Space)
ended_in commits [] spaces = spaces
ended_in commits (t ∷ ts) spaces =
    ended_in commits ts (slice_set spaces t (ended commits (slice_index_or spaces t (empty, empty))))

-- the store as it is told
abbrev pub mem_kept : List (Space × Space) → FaultPlan → Phase → ℕ → ℕ → Kept
mem_kept spaces plan phase doubts puts = record {
  held = Some (held_store spaces);
  pending = pending_in phase (pending_store spaces);
  can_fail = Some (left plan.fails.items plan.calls);
  told = Off;
  faults = plan.faults;
  doubts = doubts;
  puts = Some puts;
}
