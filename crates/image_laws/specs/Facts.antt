-- What holds of the stretches of every node, as histories go on.
use Rattle.std.specs.Prelude.{◌≡◌, ℕ, ◌≤◌, ◌&&◌, nat_le, true, List, find, Some, None}
use Rattle.std.specs.Str.{bytes_eq}
use Rattle.std.specs.List.{AllByRecursion}
use Rattle.slon_model.specs.Rows.{Action, member, play_rows}
use Rattle.slon_model.specs.Config.{Config, is_origin, era_of, set_of}
use Rattle.slon_model.specs.Deeds.{Node, Logged, knowledge}
use Rattle.slon_model.specs.Logs.{logged}
use Rattle.slon_model.specs.Place.{Filling, Place, filling_of, open_xids, rows_since}
use Rattle.slon_model.specs.Eras.{Stretch, reigns, stretches, is_stretch}
use Rattle.slon_laws.specs.Sound.{Sound}
use Rattle.stream_laws.specs.Nodes.{IsAmong}
use Rattle.image_laws.specs.Fits.{IsListed, IsWhole}

-- The committed rows of a table, which was last filled so, are what it held before the stretch, and the committed
-- actions since. Open transactions wrote it only since then.
pub record Fills (actions : List Action) (commits xids : List ℕ) (filling : Filling) (s : Stretch) : Type 0 where
  pub rows : rows_since (λ a. member a.xid commits) s.table actions filling
      ≡ play_rows (λ a. member a.xid commits && nat_le s.first a.number) s.table actions s.before
  pub inside : AllByRecursion (λ a. bytes_eq s.table a.table ≡ true → member a.xid xids ≡ true →
      nat_le s.first a.number ≡ true) actions

abbrev pub FillsAt : Place → Stretch → Type 0
FillsAt p s = Fills p.actions p.commits (open_xids p) (filling_of s.table p.fillings) s

-- each known table of this name is in the set
abbrev pub IsOnlyIn : ℕ → List ℕ → Config → Type 0
IsOnlyIn set table c = AllByRecursion (λ e. bytes_eq table e.1.name ≡ true → e.1.set_id ≡ set) c.tables

-- While a stretch lasts the era stands, the table is in the set and in no other, and the stretch makes its rows.
pub record Lasts (p : Place) (own : ℕ) (c : Config) (s : Stretch) : Type 0 where
  pub stands : reigns own c s ≡ true
  pub member : set_of s.table c ≡ Some s.set_id
  pub only : IsOnlyIn s.set_id s.table c
  pub fills : FillsAt p s

-- A stretch is of a table that is known.
pub record HoldsStretch (p : Place) (own : ℕ) (c : Config) (s : Stretch) : Type 0 where
  pub listed : IsListed s.table c
  pub begun : s.first ≤ p.numbers.next
  pub lasts : s.last ≡ None → Lasts p own c s

-- the node is the origin of this live set, and the table is in it
abbrev pub IsHeldBy : ℕ → Config → ℕ → List ℕ → Type 0
IsHeldBy own c set table = (set_of table c ≡ Some set) × (is_origin own set c ≡ true)

-- its stretch is one of these, and lasts
pub record HasStretch (c : Config) (all : List Stretch) (set : ℕ) (table : List ℕ) : Type 0 where
  pub stretch : Stretch
  pub found : find (is_stretch set (era_of set c) table) all ≡ Some stretch
  pub lasts : stretch.last ≡ None

-- What holds of the stretches of a node of this id that knows this.
pub record StretchesHold (p : Place) (own : ℕ) (c : Config) (all : List Stretch) : Type 0 where
  pub whole : IsWhole own c
  pub each : AllByRecursion (HoldsStretch p own c) all
  pub there : (set : ℕ) (table : List ℕ) → IsHeldBy own c set table → HasStretch c all set table

abbrev pub NodeHolds : Place → Node → Type 0
NodeHolds p n = StretchesHold p n.id (knowledge n).config (stretches n)

abbrev pub Holds : Place → Type 0
Holds p = Sound p × ((n : Node) → p.node ≡ Some n → NodeHolds p n)

-- ---- logs

-- The entry of a log is a committed action on the table of the stretch, since it began.
pub record IsOf (p : Place) (own : ℕ) (s : Stretch) (l : Logged) : Type 0 where
  pub set_id : l.set_id ≡ s.set_id
  pub era : l.era ≡ s.era
  pub origin : l.origin ≡ own
  pub among : IsAmong l.action p.actions
  pub came : member l.action.xid p.commits ≡ true
  pub first : nat_le s.first l.action.number ≡ true

-- the action stands in the log
abbrev pub IsLogged : List Logged → Action → Type 0
IsLogged log a = (l : Logged) × IsAmong l log × (l.action ≡ a)

-- Of the table of a stretch the log has the committed actions since it began, and no others.
pub record HasLogged (p : Place) (own : ℕ) (log : List Logged) (s : Stretch) : Type 0 where
  pub all : AllByRecursion (λ a. bytes_eq s.table a.table ≡ true → member a.xid p.commits ≡ true →
      nat_le s.first a.number ≡ true → IsLogged log a) p.actions
  pub only : AllByRecursion (λ l. bytes_eq s.table l.action.table ≡ true → IsOf p own s l) log

-- What holds of the log of a node: it is of tables that are known, and has what lasts.
pub record LogHolds (p : Place) (n : Node) : Type 0 where
  pub listed : AllByRecursion (λ l. IsListed l.action.table (knowledge n).config) (logged n)
  pub each : AllByRecursion (λ s. s.last ≡ None → HasLogged p n.id (logged n) s) (stretches n)

abbrev pub HoldsAll : Place → Type 0
HoldsAll p = Holds p × ((n : Node) → p.node ≡ Some n → LogHolds p n)
