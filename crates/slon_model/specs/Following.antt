-- What a node takes with a SYNC of the sets that it keeps: the rows that its provider has logged between two snapshots.
use Rattle.std.specs.Prelude.{ℕ, ◌+◌, ◌==◌, ◌&&◌, not, if◌then◌else◌, Bool, List, [], ◌∷◌, filter, length, map}
use Rattle.std.specs.Prelude.{flat_map, sum_by, unwrap_or}
use Rattle.std.specs.List.{list_any}
use Rattle.std.specs.FinMap.{entries}
use Rattle.std.specs.Str.{bytes_eq}
use Rattle.slon_model.specs.Names.{Named, find_named}
use Rattle.slon_model.specs.Maps.{Map, with_entry}
use Rattle.slon_model.specs.Rows.{Rows, apply}
use Rattle.slon_model.specs.Snapshots.{Snapshot, sees}
use Rattle.slon_model.specs.Events.{Event}
use Rattle.slon_model.specs.Config.{Config, forwards, is_origin, tables_of}
use Rattle.slon_model.specs.Views.{View, view_after}
use Rattle.slon_model.specs.Deeds.{Brought, Knowledge, Logged, nothing_brought}
use Rattle.slon_model.specs.Place.{Place, standing_rows}

-- ---- the rows of a log

-- what was logged of one origin, by the numbers of the actions
abbrev pub numbered : ℕ → List Logged → Map Logged
numbered origin [] = []
numbered origin (l ∷ logs) =
    if l.origin == origin then with_entry l.action.number l (numbered origin logs) else numbered origin logs

-- it is on one of these tables, which has the same id and the same name
abbrev pub is_on_one : Map (List ℕ) → Logged → Bool
is_on_one tables l = list_any (λ t. t.0 == l.table_id && bytes_eq l.action.table t.1) tables

-- the new snapshot sees its transaction, which the old one does not
abbrev pub is_new : Snapshot → Snapshot → Logged → Bool
is_new old new l = sees new l.action.xid && not (sees old l.action.xid)

-- What was logged of an origin on these tables between two snapshots, in the order of the numbers of the actions.
abbrev pub delta : ℕ → Map (List ℕ) → Snapshot → Snapshot → List Logged → List Logged
delta origin tables old new logs =
    filter (λ l. is_on_one tables l && is_new old new l) (map (λ e. e.1) (numbered origin logs))

-- ---- a SYNC

-- What a node takes of a set with a SYNC: how far it was in the set as this was read, and how far it is behind the
-- SYNC, the tables to which it takes rows, the rows of the log, in their order, and whether it logs them too.
pub record SetSync : Type 0 where
  pub set_id : ℕ
  pub before : View
  pub view : View
  pub tables : Map (List ℕ)
  pub rows : List Logged
  pub forwards : Bool

-- the tables of a set to which a node of this id takes rows, by their ids: none, where it is itself the origin
abbrev pub tables_taken : ℕ → ℕ → Config → Map (List ℕ)
tables_taken own set c = if is_origin own set c then [] else map (λ e. (e.0, e.1.name)) (tables_of set c)

abbrev pub set_sync : ℕ → Knowledge → Event → List Logged → ℕ × View → SetSync
set_sync own k e logs v =
    record {
      set_id = v.0;
      before = v.1;
      view = view_after e v.1;
      tables = tables_taken own v.0 k.config;
      rows = delta e.origin (tables_taken own v.0 k.config) v.1.seen e.taken logs;
      forwards = forwards v.0 own k.config;
    }

-- the sets that the node keeps of this origin
abbrev pub kept_from : ℕ → Knowledge → Map View
kept_from origin k = filter (λ v. v.1.origin == origin) k.views

-- ---- what comes of that

-- these in front of others, the last of them first
abbrev pub onto : {X : Type 0} → List X → List X → List X
onto [] others = others
onto (x ∷ xs) others = onto xs (x ∷ others)

-- the rows of a table of a database where these tables were filled
abbrev pub content : Place → Named Rows → List ℕ → Rows
content here rows table = unwrap_or (find_named table rows) (standing_rows here table)

-- each of these actions is done, the first one first
abbrev pub with_actions : Place → List Logged → Named Rows → Named Rows
with_actions here [] rows = rows
with_actions here (l ∷ more) rows =
    with_actions here more ((l.action.table, apply l.action.change (content here rows l.action.table)) ∷ rows)

abbrev pub with_sync : Place → SetSync → Brought → Brought
with_sync here t b =
    record {
      views = (t.set_id, t.view) ∷ b.views;
      rows = with_actions here t.rows b.rows;
      logs = if t.forwards then onto t.rows b.logs else b.logs;
      count = b.count + length t.rows;
    }

abbrev pub with_syncs : Place → List SetSync → Brought → Brought
with_syncs here [] b = b
with_syncs here (t ∷ more) b = with_syncs here more (with_sync here t b)

-- ---- what is found for an event

-- how many rows these tables have
abbrev pub rows_in : Named Rows → ℕ
rows_in rows = sum_by (λ r. length (entries r.1)) rows

-- What a node finds that is to come with an event: nothing, a copy of a set, or what it takes of sets with a SYNC.
pub data Found : Type 0 where
  FoundNothing : Found
  FoundCopy : (set_id : ℕ) (view : View) (rows : Named Rows) → Found
  FoundSyncs : (syncs : List SetSync) → Found

-- what that brings to a database
abbrev pub brought_of : Place → Found → Brought
brought_of here FoundNothing = nothing_brought
brought_of here (FoundCopy set view rows) =
    record { views = (set, view) ∷ []; rows = rows; logs = []; count = rows_in rows }
brought_of here (FoundSyncs syncs) = with_syncs here syncs nothing_brought

-- how many rows were found
abbrev pub count_of : Found → ℕ
count_of FoundNothing = 0
count_of (FoundCopy set view rows) = rows_in rows
count_of (FoundSyncs syncs) = sum_by (λ t. length t.rows) syncs

-- the names of the tables that it fills
abbrev pub tables_in : Found → List (List ℕ)
tables_in FoundNothing = []
tables_in (FoundCopy set view rows) = map (λ r. r.0) rows
tables_in (FoundSyncs syncs) = flat_map (λ t. map (λ u. u.1) t.tables) syncs
