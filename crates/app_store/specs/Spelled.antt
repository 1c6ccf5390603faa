-- How a database stands in its store, space by space.
use Rattle.std.specs.Prelude.{◌≡◌, ℕ, ◌==◌, if◌then◌else◌, ◌<◌, ◌^◌, List, [], ◌∷◌, ◌++◌}
use Rattle.std.specs.Prelude.{length}
use Rattle.std.specs.Prelude.{slice_index_or, Option, Some, None}
use Rattle.std.specs.FinMap.{FinMap, get, entries}
use Rattle.slon_base.specs.Keeper.{Space, Store, put_at, del_at, key_cmp}
use Rattle.slon_base.specs.Codec.{number_bytes, text_bytes, list_bytes, IsText}
use Rattle.store_rows.specs.Space.{IsSpace, Any}
use Rattle.slon_model.specs.Rows.{Rows}
use Rattle.slon_model.specs.Names.{find_named}
use Rattle.slon_model.specs.Place.{Place, standing_rows}
use Rattle.app_store.specs.declared.layout.TheConstants.{META, TABLES, ROWS}
use Rattle.change_capture.specs.declared.log_row.LogRow.{LogRow}
use Rattle.log_switch.specs.Holds.{put_logs}
use Rattle.slon_model.specs.Deeds.{Node}
use Rattle.node_state.specs.declared.memory.Identity.{Identity}
use Rattle.node_state.specs.Held.{HoldsNode, log_of}
use Rattle.app_store.specs.declared.transact.Put.{Put}

-- a text whose length can be spelled
abbrev pub IsShort : List ℕ → Type 0
IsShort text = length text < 2 ^ 32

abbrev pub AreShort : List (List ℕ) → Type 0
AreShort texts = (i : ℕ) → length (slice_index_or texts i []) < 2 ^ 32

-- a number that can be stored, if there is one
abbrev pub IsSmall : Option ℕ → Type 0
IsSmall None = Unit {0}
IsSmall (Some n) = n < 2 ^ 63

-- the spaces in use
abbrev pub meta : ℕ
meta = META

abbrev pub tables : ℕ
tables = TABLES

abbrev pub rows : ℕ
rows = ROWS

-- the key of a meta number
abbrev pub meta_key : ℕ → List ℕ
meta_key number = number ∷ []

abbrev pub stamp_key : List ℕ
stamp_key = meta_key 1

abbrev pub xid_ceiling_key : List ℕ
xid_ceiling_key = meta_key 2

abbrev pub action_ceiling_key : List ℕ
action_ceiling_key = meta_key 3

abbrev pub log_status_key : List ℕ
log_status_key = meta_key 6

-- the id and the cluster of a node by the numbers of their keys
abbrev pub identity_at : Option Node → ℕ → Option (List ℕ)
identity_at None key = None
identity_at (Some n) key =
    if key == 4 then Some (number_bytes n.id) else (if key == 5 then Some (text_bytes n.cluster) else None)

-- the values of the meta entries by the numbers of their keys
abbrev pub entries_at : ℕ → ℕ → ℕ → Option Node → ℕ → Option (List ℕ)
entries_at stamp xids numbers own key =
    if key == 1 then Some (number_bytes stamp)
    else (if key == 2 then Some (number_bytes xids)
    else (if key == 3 then Some (number_bytes numbers)
    else (if key == 6 then Some (log_of own ∷ []) else identity_at own key)))

-- without a stamp there are none
abbrev pub meta_at : ℕ → ℕ → ℕ → Option Node → ℕ → Option (List ℕ)
meta_at stamp xids numbers own key = if stamp == 0 then None else entries_at stamp xids numbers own key

-- the space of the meta entries, with this stamp, these ceilings and this node
abbrev pub IsMeta : ℕ → ℕ → ℕ → Option Node → Space → Type 0
IsMeta stamp xids numbers own = IsSpace meta_key Any (λ value. value) Any (meta_at stamp xids numbers own)

-- whichever node it is
abbrev pub HasNumbers : ℕ → ℕ → ℕ → Space → Type 0
HasNumbers stamp xids numbers space = (node : Option Node) × IsMeta stamp xids numbers node space

-- the space of the tables: each under its name, with its number of columns
abbrev pub AreTables : List (List ℕ × ℕ) → Space → Type 0
AreTables ts = IsSpace text_bytes Any number_bytes Any (λ name. find_named name ts)

-- the key of a row: its table and its key
abbrev pub row_key : List ℕ → List ℕ → List ℕ
row_key table key = text_bytes table ++ text_bytes key

-- a key of a row of some table
abbrev pub IsRowKey : List ℕ → Type 0
IsRowKey q = (table : List ℕ) × (key : List ℕ) × (q ≡ row_key table key) × IsText table × IsText key

-- the space of the rows: each row under its table and its key
abbrev pub AreRows : (List ℕ → Rows) → Space → Type 0
AreRows standing = IsSpace {I = List ℕ × List ℕ} (λ i. row_key i.0 i.1) (λ i. IsText i.0) list_bytes Any
    (λ i. get (standing i.0) i.1)

-- What a store holds of a database, and it holds nothing else.
pub record Holds (p : Place) (m : Store) : Type 0 where
  pub meta_numbers : IsMeta p.stamp p.xids.ceiling p.numbers.ceiling p.node (m meta)
  pub table_rows : AreTables p.tables (m tables)
  pub rows_held : AreRows (standing_rows p) (m rows)
  pub node_held : HoldsNode p.node m
  -- without its first rows it is no node
  pub bare : p.stamp ≡ 0 → p.node ≡ None

-- the rows that a transaction puts, and those that it takes away
abbrev pub Writes : Type 0
Writes = FinMap key_cmp (Option (List ℕ))

-- what was written at a key, or else what is there
abbrev pub over : {A : Type 0} → Option (Option A) → Option A → Option A
over None there = there
over (Some written) there = written

-- one row written into the space of the rows
abbrev pub write_at : List ℕ → Option (List ℕ) → Store → Store
write_at key None m = del_at rows key m
write_at key (Some value) m = put_at rows key value m

abbrev pub write_all : List (List ℕ × Option (List ℕ)) → Store → Store
write_all [] m = m
write_all (e ∷ es) m = write_all es (write_at e.0 e.1 m)

-- pairs put one after the other
abbrev pub put_all : List Put → Store → Store
put_all [] m = m
put_all (p ∷ ps) m = put_all ps (put_at p.space p.key.now p.value.now m)

-- the first rows of a database, with its stamp and its ceilings
abbrev pub first_rows : List ℕ → List ℕ → Store → Store
first_rows stamp ceiling m =
    put_at meta stamp_key stamp (put_at meta xid_ceiling_key ceiling (put_at meta action_ceiling_key ceiling
    (put_at meta log_status_key (0 ∷ []) m)))

-- a new table, with the stamp of its transaction
abbrev pub new_table : List ℕ → List ℕ → List ℕ → Store → Store
new_table table columns stamp m = put_at meta stamp_key stamp (put_at tables table columns m)

-- a ceiling that rises, with the stamp of its transaction
abbrev pub new_ceiling : List ℕ → List ℕ → List ℕ → Store → Store
new_ceiling key ceiling stamp m = put_at meta stamp_key stamp (put_at meta key ceiling m)

-- the rows that a node logs
abbrev pub with_logs : Option Identity → List (ℕ × LogRow) → Store → Store
with_logs None logs m = m
with_logs (Some identity) logs m = put_logs identity.id logs m

-- What a transaction puts: its writes, and the rows that it logs.
pub record Batch : Type 0 where
  pub identity : Option Identity
  pub logs : List (ℕ × LogRow)
  pub writes : Writes

-- the writes of a transaction and what it logs, with its stamp
abbrev pub new_rows : Batch → List ℕ → Store → Store
new_rows b stamp m = put_at meta stamp_key stamp (with_logs b.identity b.logs (write_all (entries b.writes) m))
