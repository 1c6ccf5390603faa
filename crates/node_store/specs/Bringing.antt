-- What a node takes of a set with an event of another node, and what its store holds then.
use Rattle.std.specs.Prelude.{◌≡◌, ℕ, ◌+◌, ◌*◌, ◌==◌, if◌then◌else◌, Bool, true, false, List}
use Rattle.std.specs.Prelude.{[], ◌∷◌, Option, Some, None, Result, length, map, sum_by}
use Rattle.std.specs.List.{AllByRecursion}
use Rattle.slon_base.specs.Codec.{IsText}
use Rattle.slon_base.specs.Keeper.{Store, Kept}
use Rattle.store_rows.specs.Rows.{IsId}
use Rattle.store_rows.specs.declared.stop.Stop.{Stop}
use Rattle.slon_model.specs.declared.fault.DbFault.{DbFault}
use Rattle.slon_model.specs.declared.reply.Answer.TheVariants.{Done}
use Rattle.slon_model.specs.declared.reply.Answered.{Answered}
use Rattle.slon_model.specs.Names.{Named}
use Rattle.slon_model.specs.Rows.{Rows}
use Rattle.slon_model.specs.Events.{Event, is_sync}
use Rattle.slon_model.specs.Deeds.{Node, Deed, Brought, Applies, Logged, knowledge, nothing_brought, with_deeds}
use Rattle.slon_model.specs.Following as rules
use Rattle.slon_model.specs.Following.{onto, with_syncs}
use Rattle.slon_model.specs.Place.{Place, has_writer, standing_rows}
use Rattle.slon_laws.specs.Spelled.{AreFormed, IsWritten}
use Rattle.change_capture.specs.declared.action.Action.{Action}
use Rattle.change_capture.specs.declared.log_row.LogRow.{LogRow}
use Rattle.change_capture.specs.Actions.{change_of}
use Rattle.log_switch.specs.Between.{CanBeLogged}
use Rattle.change_apply.specs.Applied.{CanApply, HoldsRows}
use Rattle.change_apply.specs.Copied.{AreListed, CanCopyAll, Listed, with_tables}
use Rattle.event_store.specs.Kept.{seen_view}
use Rattle.event_store.specs.Spellings.{CanView}
use Rattle.node_state.specs.Held.{HoldsNode, action_as, is_own}
use Rattle.node_state.specs.Known.{IsHomed, LearnsOfOther}
pub use Rattle.node_change.specs.Done.{row_of}
use Rattle.node_change.specs.Done as done
use Rattle.node_change.specs.Done.{HoldsKept}
use Rattle.app_store.specs.Base.{Base}
use Rattle.app_store.specs.Fits.{Ready}
use Rattle.app_store.specs.Serves.{is_memory, trouble}
use Rattle.node_store.specs.declared.bringing.Brought as declared
use Rattle.node_store.specs.declared.bringing.Brought.TheVariants.{Copy, Syncs}
use Rattle.node_store.specs.declared.bringing.SetCopy.{SetCopy}
use Rattle.node_store.specs.declared.bringing.SetSync.{SetSync}
use Rattle.node_store.specs.Acting.{ActsAs, WritesAs, does}

-- ---- what is taken

-- how many rows these tables have
abbrev pub rows_listed : Listed → ℕ
rows_listed tables = sum_by (λ t. length t.1) tables

-- The code has this of what the rules have a node bring: one set with the rows of its tables.
pub record HasSet (b : Brought) (given : SetCopy) : Type 0 where
  pub views : b.views ≡ (given.set, seen_view given.view) ∷ []
  pub rows : AreListed b.rows given.tables
  pub logs : b.logs ≡ []
  pub count : b.count ≡ rows_listed given.tables

-- The code has these of the actions that an origin logged: their rows, and the actions themselves.
pub record HasLogged (origin : ℕ) (logs : List Logged) (rows : List (ℕ × LogRow)) (actions : List Action) : Type 0
  where
    pub rows_are : rows ≡ map row_of logs
    pub actions_are : actions ≡ map (λ l. action_as l.action) logs
    pub from : AllByRecursion (λ l. l.origin ≡ origin) logs
    pub written : AllByRecursion (λ l. IsWritten l.action) logs

-- the code has this of what the rules have a node take of a set with a SYNC
pub record HasSync (origin : ℕ) (t : rules.SetSync) (given : SetSync) : Type 0 where
  pub set_id : t.set_id ≡ given.set
  pub view : t.view ≡ seen_view given.view
  pub logged : HasLogged origin t.rows given.rows given.actions
  pub forwards : t.forwards ≡ given.forwards

abbrev pub HaveSyncs : ℕ → List rules.SetSync → List SetSync → Type 0
HaveSyncs origin [] [] = Unit {0}
HaveSyncs origin (t ∷ ts) (g ∷ given) = HasSync origin t g × HaveSyncs origin ts given
HaveSyncs origin ts given = ⊥

-- of what it takes of all sets, where its database is at this place
abbrev pub HasAll : ℕ → Place → Brought → List SetSync → Type 0
HasAll origin p b given =
    (ts : List rules.SetSync) × HaveSyncs origin ts given × (b ≡ with_syncs p ts nothing_brought)

-- of what it brings with an event of this origin
abbrev pub IsBrought : ℕ → Place → Brought → Option declared.Brought → Type 0
IsBrought origin p b None = b ≡ nothing_brought
IsBrought origin p b (Some (Copy given)) = HasSet b given
IsBrought origin p b (Some (Syncs given)) = HasAll origin p b given

-- it can be spelled
pub record CanKeep (given : SetCopy) : Type 0 where
  pub set_id : IsId given.set
  pub view : CanView (seen_view given.view)
  pub tables : CanCopyAll given.tables

-- rows of a log and actions can be spelled, and each row has one action
pub record CanLogAll (rows : List (ℕ × LogRow)) (actions : List Action) : Type 0 where
  pub same_number : length actions ≡ length rows
  pub rows_can : AllByRecursion CanBeLogged rows
  pub actions_can : AllByRecursion (λ a. IsText a.table × CanApply (change_of a.change)) actions

pub record CanSync (given : SetSync) : Type 0 where
  pub set_id : IsId given.set
  pub view : CanView (seen_view given.view)
  pub logged : CanLogAll given.rows given.actions

abbrev pub CanBring : Option declared.Brought → Type 0
CanBring None = Unit {0}
CanBring (Some (Copy given)) = CanKeep given
CanBring (Some (Syncs given)) = AllByRecursion CanSync given

-- ---- how many pairs are put

-- what is taken of sets with an event, where that is no copy of a set
abbrev pub deltas_of : Option declared.Brought → Option (List SetSync)
deltas_of None = Some []
deltas_of (Some (Copy given)) = None
deltas_of (Some (Syncs given)) = Some given

-- how many rows the deltas have
abbrev pub rows_synced : List SetSync → ℕ
rows_synced deltas = sum_by (λ d. length d.rows) deltas

-- At most how many pairs a node puts as it applies a SYNC with these deltas: two for each row, which is logged and done
-- to its table, four for each set, and six more.
abbrev pub puts_allowed : List SetSync → ℕ
puts_allowed deltas = 2 * rows_synced deltas + 4 * length deltas + 6

-- how many of these it puts for the event itself and for what comes with it
abbrev pub puts_taken : List SetSync → ℕ
puts_taken deltas = 2 * rows_synced deltas + length deltas + 3

-- The event is a SYNC, and these deltas come with it.
pub record IsSyncWith (deltas : List SetSync) (event : Event) (brought : Option declared.Brought) : Type 0 where
  pub sync : is_sync event.body ≡ true
  pub brings : deltas_of brought ≡ Some deltas

-- Rows with which tables can be filled: no open transaction wrote one of these, and the rows have their forms.
pub record CanFill (p : Place) (rs : Named Rows) : Type 0 where
  pub unwritten : AllByRecursion (λ r. has_writer r.0 p ≡ false) rs
  pub formed : AllByRecursion (λ r. AreFormed r.1) rs

-- ---- what a store holds behind that

-- An event of another node that a node can apply whose store holds it and the rows of this place.
pub record CanTake (n : Node) (e : Event) (p : Place) (m : Store) : Type 0 where
  pub held : HoldsNode (Some n) m
  pub rows : HoldsRows (standing_rows p) m
  pub takes : done.CanApply n e
  pub home : IsHomed e.body (knowledge n).config

-- what is brought, with these actions logged too, if the node forwards their set
abbrev pub with_forwarded : Bool → List Logged → Brought → Brought
with_forwarded forwards logs b = record b { logs = if forwards then onto logs b.logs else b.logs }

-- The store holds the node with one more deed, which applies the event and keeps and logs what is brought so far, and
-- what is brought so far in the tables of the place; the other spaces of the database are as before.
pub record HasSynced (n : Node) (e : Event) (p : Place) (m : Store) (b : Brought) (new : Store) : Type 0 where
  pub held : HoldsKept n e b new
  pub own : (space : ℕ) → is_own space ≡ true → (space == 3) ≡ false → new space ≡ m space
  pub rows : HoldsRows (with_tables b.rows (standing_rows p)) new

-- The store holds the node with one more deed, which applies the event with what it brings, and these rows in their
-- tables; the other spaces of the database are as before.
pub record HasBrought (n : Node) (e : Event) (b : Brought) (tables : List ℕ → Rows) (m new : Store) : Type 0 where
  pub held : (d : Deed) → d.doing ≡ Applies e b → d.logs ≡ b.logs → HoldsNode (Some (with_deeds (d ∷ []) n)) new
  pub own : (space : ℕ) → is_own space ≡ true → (space == 3) ≡ false → new space ≡ m space
  pub rows : HoldsRows (with_tables b.rows tables) new

-- what is pending behind it, with the next stamp; or there was no memory, or the store failed
abbrev pub WritesBrought : Node → Event → Brought → (List ℕ → Rows) → Store → ℕ → Result (Unit {0}) Stop → Kept →
    Type 0
WritesBrought n e b tables m = WritesAs (HasBrought n e b tables m)

-- From every place that fits, whose node can apply this event of another one and learns no more of it than that, and
-- where the tables can be filled: it applies the event with what it brings, in one commit.
abbrev pub AppliesWith : Event → Option declared.Brought → Base → Result Answered DbFault → Base → Type 0
AppliesWith e given old result new =
    (p : Place) (n : Node) → Ready p old → p.node ≡ Some n → is_memory (trouble result) ≡ false → done.CanApply n e →
    LearnsOfOther n e → (b : Brought) → IsBrought e.origin p b given → CanFill p b.rows → (name : List ℕ) →
    ActsAs (does name p (Applies e b)) Done p result new
