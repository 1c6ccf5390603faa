-- The reign of one origin over a set, and what a snapshot sees of a table of the set in it.
use Rattle.std.specs.Prelude.{ℕ, ◌==◌, ◌&&◌, if◌then◌else◌, not, nat_le, nat_lt, Bool, true, List, [], ◌∷◌, ◌++◌, map}
use Rattle.std.specs.Prelude.{find, filter_map, Option, Some, None}
use Rattle.std.specs.Str.{bytes_eq}
use Rattle.std.specs.FinMap.{empty}
use Rattle.slon_model.specs.Rows.{Rows, Action, member, play_rows}
use Rattle.slon_model.specs.Snapshots.{Snapshot, sees}
use Rattle.slon_model.specs.Config.{Config, is_origin, era_of, set_of}
use Rattle.slon_model.specs.Deeds.{Node, Deed, Knowledge, learned_all}
use Rattle.slon_model.specs.Place.{Place}

-- A table in an era of its set, at the origin of that era: the number of the first action there that counts, that of
-- the first one that counts no more, if the era has ended, and what the table held before.
pub record Stretch : Type 0 where
  pub set_id : ℕ
  pub era : ℕ
  pub table : List ℕ
  pub first : ℕ
  pub last : Option ℕ
  pub before : Rows

-- the era stands
abbrev pub reigns : ℕ → Config → Stretch → Bool
reigns own c s = is_origin own s.set_id c && s.era == era_of s.set_id c

-- rows that are given to a table of a set begin a stretch, where the node is the origin of that set
abbrev pub stretch_in : ℕ → ℕ → Config → List ℕ × Rows → Option ℕ → Option Stretch
stretch_in own first c given None = None
stretch_in own first c given (Some set) =
    if is_origin own set c then Some (record {
      set_id = set;
      era = era_of set c;
      table = given.0;
      first = first;
      last = None;
      before = given.1;
    }) else None

abbrev pub begun : ℕ → Config → Deed → List Stretch
begun own c d = filter_map (λ given. stretch_in own d.first c given (set_of given.0 c)) d.rows

-- a stretch ends with the deed by which its era does
abbrev pub ended : ℕ → Config → ℕ → Option ℕ → Stretch → Stretch
ended own c number (Some last) s = s
ended own c number None s = if reigns own c s then s else record s { last = Some number }

-- the stretches after a deed behind which the node knows this
abbrev pub stretches_by : ℕ → Config → Deed → List Stretch → List Stretch
stretches_by own c d before = begun own c d ++ map (λ s. ended own c d.first s.last s) before

abbrev pub stretches_from : ℕ → Knowledge → List Deed → List Stretch
stretches_from own given [] = []
stretches_from own given (d ∷ ds) =
    stretches_by own (learned_all own given (d ∷ ds)).config d (stretches_from own given ds)

-- all stretches of a node, the newest first
abbrev pub stretches : Node → List Stretch
stretches n = stretches_from n.id n.given n.deeds

-- it is that of a table in an era of a set
abbrev pub is_stretch : ℕ → ℕ → List ℕ → Stretch → Bool
is_stretch set era table s = s.set_id == set && (s.era == era && bytes_eq table s.table)

abbrev pub stretch_of : ℕ → ℕ → List ℕ → Node → Option Stretch
stretch_of set era table n = find (is_stretch set era table) (stretches n)

abbrev pub is_before : ℕ → Option ℕ → Bool
is_before number None = true
is_before number (Some last) = nat_lt number last

-- the action is one of the era
abbrev pub is_within : Stretch → Action → Bool
is_within s a = nat_le s.first a.number && is_before a.number s.last

-- What a snapshot sees of a table: what it held before, and then the committed actions of the era that the snapshot
-- sees.
abbrev pub image_of : List Action → List ℕ → Snapshot → Option Stretch → Rows
image_of actions commits seen None = empty
image_of actions commits seen (Some s) =
    play_rows (λ a. (sees seen a.xid && member a.xid commits) && is_within s a) s.table actions s.before

-- the same, at the database of the origin of that era, which is a node
abbrev pub image_in : Place → Node → ℕ → ℕ → List ℕ → Snapshot → Rows
image_in p n set era table seen = image_of p.actions p.commits seen (stretch_of set era table n)

-- the committed actions of the era that one snapshot sees and another does not, played on rows
abbrev pub delta_on : List Action → List ℕ → Snapshot → Snapshot → Stretch → Rows → Rows
delta_on actions commits old new s rows =
    play_rows (λ a. ((sees new a.xid && not (sees old a.xid)) && member a.xid commits) && is_within s a) s.table actions
    rows
