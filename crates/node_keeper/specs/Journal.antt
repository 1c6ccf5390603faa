-- The changes of an open transaction, the oldest first.
use Rattle.std.specs.Prelude.{ℕ, ◌<◌, List, [], ◌∷◌, slice_index_or}
use Rattle.slon_base.specs.Keeper.{Space}
use Rattle.node_keeper.specs.declared.journaled.Change.{Change}
use Rattle.node_keeper.specs.Slots.{SlotMap, HasSlot, with_at}

-- the pairs before these changes, the newest undone first
abbrev pub undone : List Change → Space → Space
undone [] m = m
undone (c ∷ cs) m = with_at c.key c.old (undone cs m)

-- the keys of the first n changes have slots
abbrev pub HaveSlots : SlotMap → List Change → ℕ → Type 0
HaveSlots m changes n = (k : ℕ) (d : Change) → k < n → HasSlot m (slice_index_or changes k d).key
