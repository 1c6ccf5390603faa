-- Which task is handed a row that is not in its form, and what it answers then.
use Rattle.std.specs.Prelude.{◌≡◌, ◌⊎◌, ◌<◌, ◌^◌, ◌==◌, ◌&&◌, nat_le, ℕ, Bool, true, false, not, List, ◌∷◌, length}
use Rattle.std.specs.Prelude.{Option, Some, None, Result, Ok, Err}
use Rattle.std.specs.FinMap.{get}
use Rattle.slon_base.specs.Keeper.{Store}
use Rattle.slon_base.specs.Codec.{number_bytes}
use Rattle.slon_base.specs.declared.fault.Halt.{Halt}
use Rattle.slon_base.specs.declared.fault.Halt.TheVariants.{Fault, NoMemory, BadRow}
use Rattle.slon_model.specs.declared.fault.DbFault.{DbFault}
use Rattle.slon_model.specs.declared.reply.Answered.{Answered}
use Rattle.slon_model.specs.Rows.{Change, Put, Set, Remove, change_key}
use Rattle.slon_model.specs.Tasks.{Task, Write, write_by, ToMake, ToWrite, ToList, ToTell, ToRise, Subject, OnOne}
use Rattle.slon_model.specs.Deciding.{are_columns}
use Rattle.slon_model.specs.World.{halt_in}
use Rattle.txn_core.specs.Locks.{holder_of, without}
use Rattle.node_state.specs.declared.memory.Identity.{Identity}
use Rattle.node_state.specs.Handed.{HandedNode, HandedSet, HandedStatus, IsOpenTo}
use Rattle.app_store.specs.declared.opens.Transaction.{Transaction}
use Rattle.app_store.specs.declared.writes.Target.{Target}
use Rattle.app_store.specs.Base.{Memory, Base}
use Rattle.app_store.specs.Formed.{IsNumber, AreNumbers, AreValues, Lacks, columns_at, HandedList}
use Rattle.app_store.specs.Serves.{halts, trouble, is_rising}
use Rattle.app_store.specs.Spelled.{meta, tables, rows, row_key, over}
use Rattle.app_store.specs.Written.{written_at}

-- ---- what is handed

-- an open transaction of this name has this id, and the table has this width
pub record HasWidth (name table : List ℕ) (xid width : ℕ) (memory : Memory) (m : Store) : Type 0 where
  pub transaction : Transaction
  pub opened : get memory.opens name ≡ Some transaction
  pub xid_is : transaction.xid ≡ xid
  pub small : width < 2 ^ 63
  pub width_is : columns_at table m ≡ Some (number_bytes width)

-- an update of columns that the table has reads the values of its row
abbrev pub reads_values : Change → ℕ → Bool
reads_values (Set key columns) width = are_columns columns width
reads_values others width = false

-- the columns of a write fit a table of this width
abbrev pub fits_stored : Change → ℕ → Bool
fits_stored (Put key row) width = nat_le (length (key ∷ row)) 16 && (length (key ∷ row) == width)
fits_stored (Set key columns) width = are_columns columns width
fits_stored (Remove key) width = true

-- a write that gets as far as the set of its table, whose row is not in its form
pub record HandedSetOf (w : Write) (memory : Memory) (m : Store) (space : ℕ) : Type 0 where
  pub xid : ℕ
  pub width : ℕ
  pub wide : HasWidth w.name w.table xid width memory m
  pub fit : fits_stored w.change width ≡ true
  pub set : HandedSet memory.members w.table m space

-- a write that gets as far as a stored row, whose values are not in their form
pub record HandedRow (w : Write) (memory : Memory) (m : Store) : Type 0 where
  pub xid : ℕ
  pub width : ℕ
  pub wide : HasWidth w.name w.table xid width memory m
  pub reads : reads_values w.change width ≡ true
  pub allowed : IsOpenTo memory.members w.table m
  pub free : without xid (holder_of w.table (change_key w.change) memory.locks) ≡ None
  pub unwritten : written_at (row_key w.table (change_key w.change)) (get memory.opens w.name) ≡ None
  pub misspelled : AreValues (get (m rows) (row_key w.table (change_key w.change))) → ⊥

-- a write of an open transaction whose table's number of columns is not in its form, or that is handed such a set or
-- such a row
abbrev pub HandedWrite : Write → Memory → Store → ℕ → Type 0
HandedWrite w memory m space =
    ((transaction : Transaction) × (get memory.opens w.name ≡ Some transaction)
    × Lacks tables (IsNumber (columns_at w.table m)) space)
    ⊎ HandedSetOf w memory m space
    ⊎ ((space ≡ rows) × HandedRow w memory m)

-- of a node the status is read
abbrev pub HandedTold : Option Identity → Store → ℕ → Type 0
HandedTold None m space = ⊥
HandedTold (Some identity) m space = HandedStatus identity.id m space

-- A task that acts on this store is handed a row of this space that is not in its form. The others read no row.
abbrev pub Handed : Task → Memory → Store → ℕ → Type 0
Handed (ToMake table columns) memory m space = Lacks tables (IsNumber (columns_at table m)) space
Handed (ToWrite w) memory m space = HandedWrite w memory m space
Handed (ToList table) memory m space = HandedList table m space
Handed ToTell memory m space = HandedTold memory.identity m space
Handed ToRise memory m space = HandedNode m space ⊎ Lacks meta (AreNumbers m) space
Handed others memory m space = ⊥

-- ---- what is told

-- What is answered to a task that is handed such rows: that one is not in its form, with the space of one of them; or
-- the store failed, or there was no memory; or else it was handed none.
abbrev pub Tells : (ℕ → Type 0) → Option Halt → Type 0
Tells handed (Some (BadRow space)) = handed space
Tells handed (Some (Fault count)) = Unit {0}
Tells handed (Some NoMemory) = Unit {0}
Tells handed others = (space : ℕ) → handed space → ⊥

-- no row is read
abbrev pub Nothing : ℕ → Type 0
Nothing space = ⊥

-- of a store that tells what it holds
abbrev pub Told : Base → (Store → Type 0) → Type 0
Told b says = (m : Store) → b.kept.held ≡ Some m → says m

-- The task answers that a row is not in its form exactly where it is handed one, with its space, unless the store
-- failed or there was no memory. It is handed none where the database is down, or is up and is to come up.
abbrev pub Hands : Task → Base → Result Answered DbFault → Type 0
Hands task old result = Told old (λ m. Tells (λ space. (old.memory.up ≡ not (is_rising task))
    × Handed task old.memory m space) (trouble result))

abbrev pub HandsOn : Subject → Base → Result Answered DbFault → Type 0
HandsOn (OnOne database task) old result = Hands task old result
HandsOn others old result = Unit {0}

-- ---- the parts of a write

-- nothing but the counts of a store was changed
pub record Same (old new : Base) : Type 0 where
  pub memory : new.memory ≡ old.memory
  pub held : new.kept.held ≡ old.kept.held

-- What a write finds first is the id of its transaction and the width of its table, and nothing is changed. Else it is
-- answered as a write that is handed these rows.
abbrev pub ReadsWidth : List ℕ → List ℕ → Base → Store → Result (ℕ × ℕ) DbFault → Base → Type 0
ReadsWidth name table old m (Ok found) new = HasWidth name table found.0 found.1 old.memory m × Same old new
ReadsWidth name table old m (Err fault) new =
    (change : Change) → Tells (HandedWrite (write_by name table change) old.memory m) (halt_in fault)

-- a row is not in its form, or the store failed, or there was no memory
abbrev pub is_told : Option Halt → Bool
is_told (Some (BadRow space)) = true
is_told (Some (Fault count)) = true
is_told (Some NoMemory) = true
is_told others = false

-- A table that may be written, whose set is in its form, or is not read. Else it is answered as one that is handed the
-- set, or nothing in the store is against the write.
abbrev pub ReadsOpen : List ℕ → Base → Store → Result (Unit {0}) DbFault → Base → Type 0
ReadsOpen table old m (Ok u) new =
    IsOpenTo old.memory.members table m × ((space : ℕ) → HandedSet old.memory.members table m space → ⊥) × Same old new
ReadsOpen table old m (Err fault) new =
    Tells (HandedSet old.memory.members table m) (halt_in fault)
    × (IsOpenTo old.memory.members table m → is_told (halt_in fault) ≡ true)

-- the values at a key as the transaction of this name sees them
abbrev pub seen_at : List ℕ → List ℕ → Memory → Store → Option (List ℕ)
seen_at name key memory m = over (written_at key (get memory.opens name)) (get (m rows) key)

abbrev pub ReadsSeen : List ℕ → List ℕ → Base → Store → Result Target DbFault → Base → Type 0
ReadsSeen name key old m (Ok target) new = (target.seen ≡ seen_at name key old.memory m) × Same old new
ReadsSeen name key old m (Err fault) new = Tells Nothing (halt_in fault)

-- the row is free, or it is refused since another transaction wrote it
abbrev pub ReadsFree : ℕ → List ℕ → List ℕ → Memory → Result Target DbFault → Type 0
ReadsFree xid table key memory (Ok target) = without xid (holder_of table key memory.locks) ≡ None
ReadsFree xid table key memory (Err fault) =
    halt_in fault ≡ None → without xid (holder_of table key memory.locks) ≡ None → ⊥

-- what a write of this row with these columns is handed
abbrev pub UpdatesRow : Write → ℕ → Base → Result (Option ℕ) DbFault → Store → Type 0
UpdatesRow w xid old result m =
    (width : ℕ) → HasWidth w.name w.table xid width old.memory m → reads_values w.change width ≡ true →
    IsOpenTo old.memory.members w.table m → Tells (λ space. (space ≡ rows) × HandedRow w old.memory m) (halts result)
