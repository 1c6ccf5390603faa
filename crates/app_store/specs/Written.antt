-- What open transactions wrote.
use Rattle.std.specs.Prelude.{◌≡◌, ℕ, true, List, [], ◌∷◌, ◌++◌, Option, Some, None}
use Rattle.std.specs.FinMap.{get, insert}
use Rattle.change_capture.specs.declared.action.Action.{Action}
use Rattle.node_state.specs.Known.{are_captured}
use Rattle.app_store.specs.declared.opens.Transaction.{Transaction}
use Rattle.app_store.specs.Spelled.{Writes}
use Rattle.app_store.specs.Closed.{Opens}
use Rattle.app_store.specs.Formed.{AreValues}

abbrev pub with_write : List ℕ → Option (List ℕ) → Action → Transaction → Transaction
with_write key value action t =
    record { xid = t.xid; actions = t.actions ++ action ∷ []; writes = insert t.writes key value }

-- what a transaction wrote at a key
abbrev pub written_at : List ℕ → Option Transaction → Option (Option (List ℕ))
written_at key None = None
written_at key (Some t) = get t.writes key

-- Values of a row in their form, or a row that was taken away. It is said by a double negation, so that a ghost field
-- can hold it.
abbrev pub IsWritten : Option (List ℕ) → Type 0
IsWritten written = (AreValues written → ⊥) → ⊥

-- the rows that a transaction wrote are in their form
abbrev pub AreInForm : Writes → Type 0
AreInForm writes = (key : List ℕ) (written : Option (List ℕ)) → get writes key ≡ Some written → IsWritten written

-- all that the open transactions wrote is in its form, and their actions can be logged
abbrev pub AreWritten : Opens → Type 0
AreWritten opens = (name : List ℕ) (t : Transaction) → get opens name ≡ Some t →
    AreInForm t.writes × (are_captured t.xid t.actions ≡ true)
