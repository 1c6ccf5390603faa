-- Each table is in a set that is known, and has its name alone, still when an event has changed what is known.
use Rattle.std.proofs.Common.{◌≡◌, ◌∙◌, ℕ, Bool, true, false, cond, [], ◌∷◌, Some, refl, ap}
use Rattle.std.specs.Prelude.{◌==◌, ◌||◌, is_some, nat_lt}
use Rattle.std.specs.List.{list_any}
use Rattle.std.specs.Str.{bytes_eq}
use Rattle.slon_base.specs.Codec.{AllAre}
use Rattle.node_rows.specs.declared.body.Body.{Body}
use Rattle.node_rows.specs.declared.body.Body.TheVariants.{StoreSet, DropSet, SetAddTable, MoveSet, FailoverSet}
use Rattle.node_rows.specs.declared.rows.SetRow.{SetRow}
use Rattle.node_rows.specs.declared.rows.TableRow.{TableRow}
use Rattle.slon_model.specs.Maps.{Map, entry_at, with_entry}
use Rattle.slon_model.specs.Config.{Config, change_by, dropped_tables}
use Rattle.event_store.specs.Keeping.{KeepsViews}
use Rattle.event_store.proofs.Ordered.{all_with}
use Rattle.node_state.specs.Held.{AreHomed, NamesDiffer}
use Rattle.node_state.specs.Known.{IsHomed}
use Rattle.node_state.proofs.Dropping.{ended_sets, names_same, still_set}
use Rattle.node_state.proofs.Learning.{any_with, bytes_symmetric}
use Rattle.node_change.proofs.Orderly.{known_with}

-- ---- a set more

homes_with : (id : ℕ) (row : SetRow) (sets : Map SetRow) (tables : Map TableRow) →
    AllAre (λ e. is_some (entry_at e.1.set_id sets) ≡ true) tables →
    AllAre (λ e. is_some (entry_at e.1.set_id (with_entry id row sets)) ≡ true) tables
homes_with id row sets [] homes = tt
homes_with id row sets (e ∷ es) homes =
    (known_with e.1.set_id id row sets homes.0, homes_with id row sets es homes.1)

-- ---- a table more

-- a name that no table had, at an id that none had
named_with : (id : ℕ) (row : TableRow) (es : Map TableRow) → is_some (entry_at id es) ≡ false →
    list_any (λ t. bytes_eq row.name t.1.name) es ≡ false → NamesDiffer es → NamesDiffer (with_entry id row es)
named_with id row [] free unused once = (refl, tt)
named_with id row (e ∷ es) free unused once =
    by (nat_lt id e.0) (id == e.0) free (bytes_eq row.name e.1.name) refl unused (named_with id row es)
  where
    by : (before same : Bool) → is_some (cond same (Some e.1) (entry_at id es)) ≡ false → (named : Bool) →
        bytes_eq row.name e.1.name ≡ named → (named || list_any (λ t. bytes_eq row.name t.1.name) es) ≡ false →
        (is_some (entry_at id es) ≡ false → list_any (λ t. bytes_eq row.name t.1.name) es ≡ false → NamesDiffer es →
        NamesDiffer (with_entry id row es)) →
        NamesDiffer (cond before ((id, row) ∷ e ∷ es) (cond same ((id, row) ∷ es) (e ∷ with_entry id row es)))
    by true same free named is unused later =
        (ap (λ b. b || list_any (λ t. bytes_eq row.name t.1.name) es) is ∙ unused, once)
    by false true free named is unused later = absurd cc
    by false false free true is unused later = absurd cc
    by false false free false is unused later = (
      any_with (λ t. bytes_eq e.1.name t.1.name) id row es free
          ∙ ap (λ b. b || list_any (λ t. bytes_eq e.1.name t.1.name) es) (bytes_symmetric e.1.name row.name ∙ is)
          ∙ once.0,
      later free unused once.1,
    )

-- ---- a set ends

homes_left : (set : ℕ) (sets : Map SetRow) (es : Map TableRow) →
    AllAre (λ e. is_some (entry_at e.1.set_id sets) ≡ true) es →
    AllAre (λ e. is_some (entry_at e.1.set_id (ended_sets set sets)) ≡ true) (dropped_tables set es)
homes_left set sets [] homes = tt
homes_left set sets (e ∷ es) homes = (by (e.1.set_id == set), homes_left set sets es homes.1)
  where
    by : (b : Bool) →
        is_some (entry_at (cond b (e.0, record e.1 { live = false }) e).1.set_id (ended_sets set sets)) ≡ true
    by true = still_set set e.1.set_id sets homes.0
    by false = still_set set e.1.set_id sets homes.0

named_left : (set : ℕ) (es : Map TableRow) → NamesDiffer es → NamesDiffer (dropped_tables set es)
named_left set [] once = tt
named_left set (e ∷ es) once = (by (e.1.set_id == set), named_left set es once.1)
  where
    by : (b : Bool) →
        list_any (λ t. bytes_eq (cond b (e.0, record e.1 { live = false }) e).1.name t.1.name) (dropped_tables set es)
        ≡ false
    by true = names_same (bytes_eq e.1.name) set es ∙ once.0
    by false = names_same (bytes_eq e.1.name) set es ∙ once.0

-- ---- an event

pub change_homed : (origin number : ℕ) (body : Body) (c : Config) → KeepsViews body → IsHomed body c → AreHomed c →
    AreHomed (change_by origin number body c)
change_homed origin number (StoreSet set by comment) c keeps home homes =
    (homes_with set _ c.sets c.tables homes.0, homes.1)
change_homed origin number (SetAddTable set table name comment) c keeps home homes = (
  all_with (λ e. is_some (entry_at e.1.set_id c.sets) ≡ true) table _ c.tables home.0 homes.0,
  named_with table _ c.tables home.1 home.2 homes.1,
)
change_homed origin number (DropSet set) c keeps home homes =
    (homes_left set c.sets c.tables homes.0, named_left set c.tables homes.1)
change_homed origin number (MoveSet set old new era feeds) c keeps home homes = absurd keeps
change_homed origin number (FailoverSet failed limit sets) c keeps home homes = absurd keeps
change_homed origin number others c keeps home homes = homes
