-- The slots of one space, and the pairs that they show.
use Rattle.std.specs.Prelude.{◌≡◌, ℕ, true, List, [], ◌∷◌, Option, Some, None, is_some}
use Rattle.std.specs.Ordering.{is_eq}
use Rattle.std.specs.BTreeMap.{BTreeMap, IsOrdered}
use Rattle.std.specs.Map.{lookup}
use Rattle.std.specs.FinMap.{from_sorted, insert, remove}
use Rattle.slon_base.specs.Keeper.{key_cmp, Space}

-- a slot has a value, or none where it was taken away
abbrev pub Slot : Type 0
Slot = Option (List ℕ)

abbrev pub SlotMap : Type 0
SlotMap = BTreeMap (List ℕ) Slot

abbrev pub IsInOrder : SlotMap → Type 0
IsInOrder m = IsOrdered key_cmp m

-- the slot of a key
abbrev pub slot_at : SlotMap → List ℕ → Option Slot
slot_at m key = lookup (λ k. is_eq (key_cmp key k)) m.entries

abbrev pub HasSlot : SlotMap → List ℕ → Type 0
HasSlot m key = is_some (slot_at m key) ≡ true

-- a slot before the pairs of the others
abbrev pub shown : List ℕ → Slot → List (List ℕ × List ℕ) → List (List ℕ × List ℕ)
shown key None others = others
shown key (Some value) others = (key, value) ∷ others

-- the slots with a value
abbrev pub living : List (List ℕ × Slot) → List (List ℕ × List ℕ)
living [] = []
living (e ∷ es) = shown e.0 e.1 (living es)

-- the pairs that the slots show
abbrev pub pairs : SlotMap → Space
pairs m = from_sorted (living m.entries)

-- the space with this value at the key, or with none there
abbrev pub with_at : List ℕ → Option (List ℕ) → Space → Space
with_at key None m = remove m key
with_at key (Some value) m = insert m key value
