-- What becomes of a node that does one thing.
use Rattle.std.specs.Prelude.{◌≡◌, ℕ, ◌<◌, true, List, [], ◌∷◌, Some}
use Rattle.slon_base.specs.Keeper.{Store}
use Rattle.slon_model.specs.Events.{Event}
use Rattle.slon_model.specs.Names.{Named}
use Rattle.slon_model.specs.Rows.{Rows}
use Rattle.slon_model.specs.Views.{View}
use Rattle.slon_model.specs.Deeds.{Node, Deed, Doing, Emits, Applies, Hears, Brought, Logged, knowledge}
use Rattle.slon_model.specs.Deeds.{nothing_brought, progress, with_deeds}
use Rattle.slon_model.specs.Following.{onto}
use Rattle.change_capture.specs.declared.log_row.LogRow.{LogRow}
use Rattle.change_capture.specs.Capture.{log_row}
use Rattle.node_state.specs.Held.{HoldsNode, IsMet, action_as, is_own}

-- the store holds the node with one more deed, which does this and logs nothing, and the spaces of the database are as
-- before
pub record HasDone (n : Node) (doing : Doing) (m new : Store) : Type 0 where
  pub held : (d : Deed) → d.doing ≡ doing → d.logs ≡ [] → HoldsNode (Some (with_deeds (d ∷ []) n)) new
  pub own : (space : ℕ) → is_own space ≡ true → new space ≡ m space

-- it emits the event
abbrev pub HasEmitted : Node → Event → Store → Store → Type 0
HasEmitted n e = HasDone n (Emits e)

-- it applies the event of another node, and brings nothing with it
abbrev pub HasApplied : Node → Event → Store → Store → Type 0
HasApplied n e = HasDone n (Applies e nothing_brought)

-- ---- what comes with an event

-- the row that an action is logged as, with its number
abbrev pub row_of : Logged → ℕ × LogRow
row_of l = (l.action.number, log_row l.action.xid l.table_id (action_as l.action))

-- what is brought, with this of one set more
abbrev pub with_view : ℕ × View → Brought → Brought
with_view kept b = record b { views = kept ∷ b.views }

-- with these actions logged too, the last of them first
abbrev pub with_logs : List Logged → Brought → Brought
with_logs logs b = record b { logs = onto logs b.logs }

-- the store holds the node with one more deed, which applies the event, and keeps and logs what is brought with it,
-- whatever rows come with that
abbrev pub HoldsKept : Node → Event → Brought → Store → Type 0
HoldsKept n e b new =
    (rows : Named Rows) (count : ℕ) (d : Deed) → d.doing ≡ Applies e (record b { rows = rows; count = count }) →
    d.logs ≡ b.logs → HoldsNode (Some (with_deeds (d ∷ []) n)) new

-- and the spaces of the database are as before
pub record HasKept (n : Node) (e : Event) (b : Brought) (m new : Store) : Type 0 where
  pub held : HoldsKept n e b new
  pub own : (space : ℕ) → is_own space ≡ true → new space ≡ m space

-- ---- confirmations

-- it hears these confirmations
abbrev pub HasHeard : Node → List (ℕ × ℕ × ℕ) → Store → Store → Type 0
HasHeard n confirms = HasDone n (Hears confirms)

-- the node knows the node that emitted the event, and has met no event of it that is as late
pub record CanApply (n : Node) (e : Event) : Type 0 where
  pub known : IsMet e.origin (knowledge n).config
  pub later : progress e.origin (knowledge n) < e.number
