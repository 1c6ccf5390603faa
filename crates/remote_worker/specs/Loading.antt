-- What comes with an event, as the code has it of what the rules find.
use Rattle.std.specs.Prelude.{◌≡◌, ◌-◌, ℕ, nat_lt, if◌then◌else◌, List, [], ◌∷◌, Option, Some, None, flat_map, fold}
use Rattle.std.specs.Prelude.{length, map, slice_get, sum_by}
use Rattle.std.specs.List.{AllByRecursion}
use Rattle.slon_model.specs.Names.{Named}
use Rattle.slon_model.specs.Rows.{Rows}
use Rattle.slon_model.specs.Deeds.{Knowledge}
use Rattle.slon_model.specs.Following as rules
use Rattle.slon_model.specs.Following.{FoundCopy, FoundNothing, FoundSyncs, rows_in}
use Rattle.slon_model.specs.Working.{still}
use Rattle.change_capture.specs.declared.log_row.LogRow.{LogRow}
use Rattle.change_apply.specs.Copied.{AreListed, Listed}
use Rattle.event_store.specs.Kept.{seen_view}
use Rattle.node_store.specs.declared.bringing.Brought.{Brought}
use Rattle.node_store.specs.declared.bringing.Brought.TheVariants.{Copy as CopyOf, Syncs as SyncsOf}
use Rattle.node_store.specs.declared.bringing.SetCopy.{SetCopy}
use Rattle.node_store.specs.Bringing.{CanKeep, CanSync, HasSync, rows_listed}
use Rattle.remote_worker.specs.declared.loading.Load.{Load}
use Rattle.remote_worker.specs.declared.loading.Load.TheVariants.{Copy, Syncs}
use Rattle.remote_worker.specs.declared.loading.SetFetch.{SetFetch}

-- ---- by the rules

-- the code has this of what the rules have a node take of a set with a SYNC
pub record HasFetch (origin : ℕ) (t : rules.SetSync) (given : SetFetch) : Type 0 where
  pub before : t.before ≡ seen_view given.before
  pub tables : t.tables ≡ given.tables
  pub sync : HasSync origin t given.sync

abbrev pub HaveFetches : ℕ → List rules.SetSync → List SetFetch → Type 0
HaveFetches origin [] [] = Unit {0}
HaveFetches origin (t ∷ ts) (g ∷ given) = HasFetch origin t g × HaveFetches origin ts given
HaveFetches origin ts given = ⊥

-- of a set that is copied
pub record HasCopy (rows : Named Rows) (given : SetCopy) : Type 0 where
  pub listed : AreListed rows given.tables
  pub count : rows_in rows ≡ rows_listed given.tables

-- of what the rules find with an event of this origin
abbrev pub HasFound : ℕ → rules.Found → Option Load → Type 0
HasFound origin f None = f ≡ FoundNothing
HasFound origin f (Some (Copy given)) =
    (rows : Named Rows) × (f ≡ FoundCopy given.set (seen_view given.view) rows) × HasCopy rows given
HasFound origin f (Some (Syncs given)) =
    (ts : List rules.SetSync) × (f ≡ FoundSyncs ts) × HaveFetches origin ts given

-- it can be spelled
abbrev pub CanFetch : SetFetch → Type 0
CanFetch f = CanSync f.sync

abbrev pub CanLoad : Option Load → Type 0
CanLoad None = Unit {0}
CanLoad (Some (Copy given)) = CanKeep given
CanLoad (Some (Syncs given)) = AllByRecursion CanFetch given

-- ---- what is read off it

-- how many rows there are
abbrev pub rows_fetched : List SetFetch → ℕ
rows_fetched fetches = sum_by (λ f. length f.sync.rows) fetches

abbrev pub rows_loaded : Option Load → ℕ
rows_loaded None = 0
rows_loaded (Some (Copy given)) = rows_listed given.tables
rows_loaded (Some (Syncs fetches)) = rows_fetched fetches

-- the last of these rows
abbrev pub last_row : List (ℕ × LogRow) → Option (ℕ × LogRow)
last_row rows = slice_get rows (length rows - 1)

-- the greater one of this number and that of the row
abbrev pub greater : Option ℕ → Option (ℕ × LogRow) → Option ℕ
greater found None = found
greater None (Some row) = Some row.0
greater (Some other) (Some row) = if nat_lt row.0 other then Some other else Some row.0

-- the greatest number of an action that was logged of these sets
abbrev pub last_logged : List SetFetch → Option ℕ
last_logged fetches = fold (λ found f. greater found (last_row f.sync.rows)) None fetches

-- the names of the tables that are filled
abbrev pub names_listed : Listed → List (List ℕ)
names_listed tables = map (λ t. t.0) tables

abbrev pub names_fetched : List SetFetch → List (List ℕ)
names_fetched fetches = flat_map (λ f. map (λ t. t.1) f.tables) fetches

abbrev pub names_loaded : Option Load → List (List ℕ)
names_loaded None = []
names_loaded (Some (Copy given)) = names_listed given.tables
names_loaded (Some (Syncs fetches)) = names_fetched fetches

-- what it brings
abbrev pub brought_by : Option Load → Option Brought
brought_by None = None
brought_by (Some (Copy given)) = Some (CopyOf given)
brought_by (Some (Syncs fetches)) = Some (SyncsOf (map (λ f. f.sync) fetches))

-- ---- what is left of it

-- what the code has of what was found is what it has of what stands of that still, at a node that knows this
abbrev pub IsStill : Knowledge → Option Load → Option Load → Type 0
IsStill k old new = (origin : ℕ) (f : rules.Found) → HasFound origin f old → HasFound origin (still k f) new
