-- The law of the replies that a legal history has.
use Rattle.std.specs.Prelude.{ℕ, List}
use Rattle.std.specs.List.{AllByRecursion}
use Rattle.slon_model.specs.World.{World, start, Happening, Leads, replies_of}
use Rattle.slon_laws.specs.Worlds.{AllSpoken}
use Rattle.session_text.specs.Replies.{NumbersFit, HasForm}

-- Each reply to spoken commands whose numbers are of their types has its form.
abbrev pub RepliesHaveForms : Type 0
RepliesHaveForms =
    (limit : ℕ) (history : List Happening) (w : World) → Leads (start limit) history w → AllSpoken history →
    AllByRecursion NumbersFit (replies_of history) → AllByRecursion HasForm (replies_of history)
