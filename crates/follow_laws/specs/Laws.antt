-- The laws of what nodes that subscribe hold, in every session that a legal history leads to.
use Rattle.std.specs.Prelude.{◌≡◌, ◌≢◌, ◌⊎◌, ℕ, List, ◌++◌, Some}
use Rattle.slon_model.specs.Names.{find_named}
use Rattle.slon_model.specs.Config.{names_of}
use Rattle.slon_model.specs.Views.{View}
use Rattle.slon_model.specs.Deeds.{Node, knowledge, view_of}
use Rattle.slon_model.specs.Eras.{image_in}
use Rattle.slon_model.specs.Place.{Place, standing_rows, taken}
use Rattle.slon_model.specs.World.{World, start, Happening, Leads}
use Rattle.stream_laws.specs.Nodes.{IsAmong}
use Rattle.stream_laws.specs.Applied.{applied_events}
use Rattle.image_laws.specs.Facts.{IsHeldBy}
use Rattle.view_laws.specs.Laws.{IsEnding}

-- ---- tables

-- The database of a node that keeps a set in this view: another node of the session is the origin of the set, and what
-- stands in the table here is what the snapshot of the view sees of the table there. The table is in the set there, or
-- the set has ended there by an event that the node has not applied yet.
pub record HoldsAsSeen (w : World) (p : Place) (n : Node) (set : ℕ) (v : View) (table : List ℕ) : Type 0 where
  pub name : List ℕ
  pub place : Place
  pub found : find_named name w.places ≡ Some place
  pub origin : Node
  pub at : place.node ≡ Some origin
  pub own : origin.id ≡ v.origin
  pub apart : v.origin ≢ n.id
  pub held : IsHeldBy origin.id (knowledge origin).config set table ⊎ IsEnding set n origin
  pub rows : standing_rows p table ≡ image_in place origin set v.era table v.seen

-- Of each set that a node keeps, each table that it knows holds what the snapshot that it keeps sees at the origin.
abbrev pub TablesFollow : Type 0
TablesFollow =
    (limit : ℕ) (history : List Happening) (w : World) → Leads (start limit) history w →
    (name : List ℕ) (p : Place) → find_named name w.places ≡ Some p → (n : Node) → p.node ≡ Some n →
    (set : ℕ) (v : View) → view_of set (knowledge n) ≡ Some v →
    (table : List ℕ) → IsAmong table (names_of set (knowledge n).config) → HoldsAsSeen w p n set v table

-- The history went through a session in which the origin of the set took the snapshot of the view. What each table of
-- the set held there at that time, all of them at once, stands at the node that keeps the view.
pub record WasSo (limit : ℕ) (whole : List Happening) (w : World) (p : Place) (n : Node) (set : ℕ) (v : View) :
    Type 0 where
  pub history : List Happening
  pub before : World
  pub leads : Leads (start limit) history before
  pub later : List Happening
  pub goes_on : Leads before later w
  pub all : later ++ history ≡ whole
  pub name : List ℕ
  pub place : Place
  pub found : find_named name before.places ≡ Some place
  pub origin : Node
  pub at : place.node ≡ Some origin
  pub own : origin.id ≡ v.origin
  pub seen : v.seen ≡ taken place
  pub rows : (table : List ℕ) → IsAmong table (names_of set (knowledge n).config) →
      IsHeldBy origin.id (knowledge origin).config set table × (standing_rows p table ≡ standing_rows place table)

-- A set that a node keeps stands there as it stood at its origin in an earlier session.
abbrev pub SetsWereSo : Type 0
SetsWereSo =
    (limit : ℕ) (history : List Happening) (w : World) → Leads (start limit) history w →
    (name : List ℕ) (p : Place) → find_named name w.places ≡ Some p → (n : Node) → p.node ≡ Some n →
    (set : ℕ) (v : View) → view_of set (knowledge n) ≡ Some v → WasSo limit history w p n set v

-- Nothing but the events that a node applies changes a table that it keeps.
abbrev pub TablesStay : Type 0
TablesStay =
    (limit : ℕ) (history later : List Happening) (w v : World) → Leads (start limit) history w → Leads w later v →
    (name : List ℕ) (p q : Place) → find_named name w.places ≡ Some p → find_named name v.places ≡ Some q →
    (n m : Node) → p.node ≡ Some n → q.node ≡ Some m → applied_events m ≡ applied_events n →
    (set : ℕ) (view : View) → view_of set (knowledge n) ≡ Some view →
    (table : List ℕ) → IsAmong table (names_of set (knowledge n).config) →
    standing_rows q table ≡ standing_rows p table
