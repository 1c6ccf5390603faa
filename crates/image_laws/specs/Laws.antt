-- The laws of what snapshots see, in every session that a legal history leads to.
use Rattle.std.specs.Prelude.{◌≡◌, ℕ, suc, ◌≤◌, ◌↔◌, true, List, Option, Some, None}
use Rattle.slon_model.specs.Names.{find_named}
use Rattle.slon_model.specs.Rows.{Action, member}
use Rattle.slon_model.specs.Snapshots.{Snapshot, Covers, sees}
use Rattle.slon_model.specs.Config.{era_of}
use Rattle.slon_model.specs.Deeds.{Node, Logged, knowledge}
use Rattle.slon_model.specs.Logs.{logged}
use Rattle.slon_model.specs.Place.{Place, standing_rows, taken}
use Rattle.slon_model.specs.Eras.{Stretch, stretch_of, is_within, image_of, image_in, delta_on}
use Rattle.slon_model.specs.World.{World, start, Happening, Leads}
use Rattle.slon_laws.specs.Older.{IsOlder}
use Rattle.image_laws.specs.Deltas.{applied, IsRead}
use Rattle.image_laws.specs.Facts.{IsHeldBy, IsOf, IsLogged}
use Rattle.stream_laws.specs.Nodes.{IsAmong}
use Rattle.image_laws.specs.Moments.{count_of, IsTaken, IsOrder, HasMoments}

-- A legal history took this snapshot in the database of this name, and went on to this session.
pub record WasTaken (limit : ℕ) (name : List ℕ) (w : World) (s : Snapshot) : Type 0 where
  pub history : List Happening
  pub later : List Happening
  pub before : World
  pub leads : Leads (start limit) history before
  pub goes_on : Leads before later w
  pub place : Place
  pub found : find_named name before.places ≡ Some place
  pub is : s ≡ taken place

-- ---- a delta

-- Of two snapshots of one database, of which one sees all that the other one sees: the committed actions of an era on a
-- table that the first sees and the second does not, in the order of their numbers, make what the first sees of the
-- table out of what the second sees of it.
abbrev pub DeltaLeads : Type 0
DeltaLeads =
    (limit : ℕ) (name : List ℕ) (w : World) (p : Place) → find_named name w.places ≡ Some p →
    (old new : Snapshot) → WasTaken limit name w old → WasTaken limit name w new → Covers new old →
    (s : Stretch) →
    delta_on p.actions p.commits old new s (image_of p.actions p.commits old (Some s))
    ≡ image_of p.actions p.commits new (Some s)

-- ---- an image

-- What a snapshot that is taken at the origin of a set sees of a table of it, in the era in which it is taken, is what
-- the table holds then, whatever happens later.
abbrev pub ImageIsCommittedRows : Type 0
ImageIsCommittedRows =
    (limit : ℕ) (history later : List Happening) (w v : World) → Leads (start limit) history w → Leads w later v →
    (name : List ℕ) (p q : Place) → find_named name w.places ≡ Some p → find_named name v.places ≡ Some q →
    (n m : Node) → p.node ≡ Some n → q.node ≡ Some m →
    (set : ℕ) (table : List ℕ) → IsHeldBy n.id (knowledge n).config set table →
    image_in q m set (era_of set (knowledge n).config) table (taken p) ≡ standing_rows p table

-- ---- moments

-- There is an order in which the transactions of a node's database ended, such that each snapshot of its stream, and
-- that of now, sees exactly the first ones in this order, up to a number.
abbrev pub SnapshotsAreMoments : Type 0
SnapshotsAreMoments =
    (limit : ℕ) (history : List Happening) (w : World) → Leads (start limit) history w →
    (name : List ℕ) (p : Place) → find_named name w.places ≡ Some p → (n : Node) → p.node ≡ Some n → HasMoments p n

-- Of two snapshots that were taken in one order, one sees all that the other sees exactly where it sees
-- at least as many as ended.
abbrev pub CountsTell : Type 0
CountsTell =
    (order : ℕ → Option ℕ) (now : ℕ) → IsOrder order now → (a b : Snapshot) → IsTaken order now a →
    IsTaken order now b → Covers a b ↔ (count_of b ≤ count_of a)

-- All actions that were drawn in a database up to one that a snapshot of it sees are of transactions that had begun
-- before the snapshot was taken; so it is whatever comes later.
abbrev pub SnapshotsDivide : Type 0
SnapshotsDivide =
    (limit : ℕ) (name : List ℕ) (w : World) (p : Place) → find_named name w.places ≡ Some p → (k : Snapshot) →
    WasTaken limit name w k → (a : Action) → IsAmong a p.actions → sees k a.xid ≡ true → IsOlder (suc a.number) k.xmax p

-- It stays so.
abbrev pub OlderStay : Type 0
OlderStay =
    (limit : ℕ) (history later : List Happening) (w v : World) → Leads (start limit) history w → Leads w later v →
    (name : List ℕ) (p q : Place) → find_named name w.places ≡ Some p → find_named name v.places ≡ Some q →
    (number xid : ℕ) → IsOlder number xid p → IsOlder number xid q

-- ---- logs

-- The stretch lasts, and of its table the log of the node has the committed actions since it began, and no others.
pub record LogHas (p : Place) (n : Node) (s : Stretch) : Type 0 where
  pub lasts : s.last ≡ None
  pub all : (a : Action) → IsAmong a p.actions → a.table ≡ s.table → member a.xid p.commits ≡ true →
      is_within s a ≡ true → IsLogged (logged n) a
  pub only : (l : Logged) → IsAmong l (logged n) → l.action.table ≡ s.table → IsOf p n.id s l

-- Each table of a set of which a node is the origin has a stretch, and the log of the node has exactly its actions.
abbrev pub LogsHaveTheActions : Type 0
LogsHaveTheActions =
    (limit : ℕ) (history : List Happening) (w : World) → Leads (start limit) history w →
    (name : List ℕ) (p : Place) → find_named name w.places ≡ Some p → (n : Node) → p.node ≡ Some n →
    (set : ℕ) (table : List ℕ) → IsHeldBy n.id (knowledge n).config set table →
    (s : Stretch) × (stretch_of set (era_of set (knowledge n).config) table n ≡ Some s) × LogHas p n s

-- The snapshot was taken while the node had the table in this set, of which it was the origin, in this era.
pub record WasHeld (limit : ℕ) (name : List ℕ) (w : World) (k : Snapshot) (set era : ℕ) (table : List ℕ) : Type 0 where
  pub taken : WasTaken limit name w k
  pub node : Node
  pub at : taken.place.node ≡ Some node
  pub held : IsHeldBy node.id (knowledge node).config set table
  pub is_era : era ≡ era_of set (knowledge node).config

-- Of a table, the log of the node has the committed actions of a stretch that a snapshot sees, and no others of such
-- transactions, whether the stretch lasts or not.
pub record LogHad (p : Place) (n : Node) (s : Stretch) (k : Snapshot) : Type 0 where
  pub all : (a : Action) → IsAmong a p.actions → a.table ≡ s.table → member a.xid p.commits ≡ true →
      is_within s a ≡ true → sees k a.xid ≡ true → IsLogged (logged n) a
  pub only : (l : Logged) → IsAmong l (logged n) → l.action.table ≡ s.table → sees k l.action.xid ≡ true →
      IsOf p n.id s l × (is_within s l.action ≡ true)

-- So it is of a table of a set of which the node was the origin as the snapshot was taken, though the set may have
-- ended.
abbrev pub LogsHadTheActions : Type 0
LogsHadTheActions =
    (limit : ℕ) (name : List ℕ) (w : World) (p : Place) → find_named name w.places ≡ Some p → (n : Node) →
    p.node ≡ Some n → (k : Snapshot) (set era : ℕ) (table : List ℕ) → WasHeld limit name w k set era table →
    (s : Stretch) × (stretch_of set era table n ≡ Some s) × LogHad p n s k

-- What is read of the log of the origin between two snapshots, of which the later one sees all that the earlier one
-- sees, applied in the order of numbers, leads from what the earlier one sees of a table to what the later one sees.
abbrev pub ReadingLeads : Type 0
ReadingLeads =
    (limit : ℕ) (name : List ℕ) (w : World) (p : Place) → find_named name w.places ≡ Some p → (n : Node) →
    p.node ≡ Some n → (old new : Snapshot) → WasTaken limit name w old → WasTaken limit name w new → Covers new old →
    (set : ℕ) (table : List ℕ) → IsHeldBy n.id (knowledge n).config set table → (actions : List Action) →
    IsRead n table old new actions →
    applied actions (image_in p n set (era_of set (knowledge n).config) table old)
    ≡ image_in p n set (era_of set (knowledge n).config) table new

-- The same where the table was in the set as the later snapshot was taken, though the set may have ended since.
abbrev pub ReadingLed : Type 0
ReadingLed =
    (limit : ℕ) (name : List ℕ) (w : World) (p : Place) → find_named name w.places ≡ Some p → (n : Node) →
    p.node ≡ Some n → (old new : Snapshot) → WasTaken limit name w old → Covers new old → (set era : ℕ)
    (table : List ℕ) → WasHeld limit name w new set era table → (actions : List Action) →
    IsRead n table old new actions →
    applied actions (image_in p n set era table old) ≡ image_in p n set era table new
