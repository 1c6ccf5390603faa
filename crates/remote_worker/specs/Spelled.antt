-- That what was fetched can be spelled is known in one way at most.
use Rattle.std.specs.Prelude.{ℕ, ◌<◌, List, [], ◌∷◌, Option, Some, None}
use Rattle.std.specs.Coded.{Coded-set, coded_ℕ, coded_bool, coded_list, le_prop, ×_prop, Unit-prop}
use Rattle.std.specs.List.{AllByRecursion-prop}
use Rattle.std.specs.Str.{IsUtf8}
use Rattle.std.proofs.lemmas.Str.{chars_from_encodes}
use mathlib.Core.HLevel.{Σ_prop_path}
use mathlib.Core.Path.{◌∙◌, sym}
use Rattle.slon_base.specs.Codec.{IsText, AreTexts}
use Rattle.store_rows.specs.Rows.{IsId}
use Rattle.slon_model.specs.Rows.{Change, Put, Set, Remove}
use Rattle.slon_model.specs.Snapshots.{Snapshot, Rising}
use Rattle.slon_model.specs.Views.{View}
use Rattle.change_capture.specs.declared.action.Action.{Action}
use Rattle.change_capture.specs.declared.log_row.LogRow.{LogRow}
use Rattle.change_capture.specs.Actions.{change_of}
use Rattle.change_capture.specs.Spellings.{CanLogRow}
use Rattle.log_switch.specs.Between.{CanBeLogged}
use Rattle.change_apply.specs.Applied.{CanApply}
use Rattle.change_apply.specs.Copied.{CanCopy, CanCopyAll}
use Rattle.event_store.specs.Kept.{seen_view}
use Rattle.event_store.specs.Spellings.{CanSnapshot, CanView}
use Rattle.node_store.specs.declared.bringing.SetCopy.{SetCopy}
use Rattle.node_store.specs.Bringing.{CanKeep, CanLogAll}
use Rattle.remote_worker.specs.declared.loading.Load.{Load}
use Rattle.remote_worker.specs.declared.loading.Load.TheVariants.{Copy, Syncs}
use Rattle.remote_worker.specs.declared.loading.SetFetch.{SetFetch}
use Rattle.remote_worker.specs.Loading.{CanFetch, CanLoad}

IsId-prop : (n : ℕ) → IsProp (IsId n)
IsId-prop n = ×_prop le_prop le_prop

IsUtf8-prop : (bytes : List ℕ) → IsProp (IsUtf8 bytes)
IsUtf8-prop bytes a b =
    Σ_prop_path (λ cs. ×_prop (Coded-set coded_bool _ _) (Coded-set (coded_list coded_ℕ) _ _))
    (chars_from_encodes a.0 bytes a a.1.1 ∙ sym (chars_from_encodes b.0 bytes a b.1.1))

IsText-prop : (text : List ℕ) → IsProp (IsText text)
IsText-prop text a b = λ i. record {
  short = le_prop a.short b.short i;
  utf8 = IsUtf8-prop text a.utf8 b.utf8 i;
}

AreTexts-prop : (texts : List (List ℕ)) → IsProp (AreTexts texts)
AreTexts-prop texts a b = λ i. record {
  few = le_prop a.few b.few i;
  each = AllByRecursion-prop IsText IsText-prop texts a.each b.each i;
}

-- ---- views

Rising-prop : (xs : List ℕ) → IsProp (Rising xs)
Rising-prop [] = Unit-prop
Rising-prop (x ∷ xs) = ×_prop (AllByRecursion-prop (λ y. x < y) (λ y. le_prop) xs) (Rising-prop xs)

CanSnapshot-prop : (s : Snapshot) → IsProp (CanSnapshot s)
CanSnapshot-prop s a b = λ i. record {
  formed = record {
    first = Coded-set coded_ℕ _ _ a.formed.first b.formed.first i;
    rising = Rising-prop s.running a.formed.rising b.formed.rising i;
    below = AllByRecursion-prop (λ x. x < s.xmax) (λ x. le_prop) s.running a.formed.below b.formed.below i;
    small = le_prop a.formed.small b.formed.small i;
  };
  few = le_prop a.few b.few i;
}

CanView-prop : (v : View) → IsProp (CanView v)
CanView-prop v a b = λ i. record {
  era = le_prop a.era b.era i;
  origin = IsId-prop v.origin a.origin b.origin i;
  number = le_prop a.number b.number i;
  seen = CanSnapshot-prop v.seen a.seen b.seen i;
  base_era = le_prop a.base_era b.base_era i;
  base = CanSnapshot-prop v.base a.base b.base i;
}

-- ---- rows

CanApply-prop : (c : Change) → IsProp (CanApply c)
CanApply-prop (Put key row) = ×_prop (IsText-prop key) (AreTexts-prop row)
CanApply-prop (Set key columns) =
    ×_prop (IsText-prop key) (AllByRecursion-prop (λ c. IsText c.1) (λ c. IsText-prop c.1) columns)
CanApply-prop (Remove key) = IsText-prop key

CanLogRow-prop : (row : LogRow) → IsProp (CanLogRow row)
CanLogRow-prop row a b = λ i. record {
  xid = le_prop a.xid b.xid i;
  table = IsId-prop row.table a.table b.table i;
  two = Coded-set coded_ℕ _ _ a.two b.two i;
  names = AllByRecursion-prop IsText (λ t. IsText-prop t) row.names a.names b.names i;
  columns = le_prop a.columns b.columns i;
  arguments = AreTexts-prop row.arguments a.arguments b.arguments i;
}

CanLogAll-prop : (rows : List (ℕ × LogRow)) (actions : List Action) → IsProp (CanLogAll rows actions)
CanLogAll-prop rows actions a b = λ i. record {
  same_number = Coded-set coded_ℕ _ _ a.same_number b.same_number i;
  rows_can = AllByRecursion-prop CanBeLogged (λ r. ×_prop le_prop (CanLogRow-prop r.1)) rows a.rows_can b.rows_can i;
  actions_can = AllByRecursion-prop (λ a. IsText a.table × CanApply (change_of a.change))
      (λ a. ×_prop (IsText-prop a.table) (CanApply-prop (change_of a.change))) actions a.actions_can b.actions_can i;
}

-- ---- what was fetched

CanCopy-prop : (rows : _) → IsProp (CanCopy rows)
CanCopy-prop rows =
    AllByRecursion-prop (λ r. IsText r.0 × AreTexts r.1) (λ r. ×_prop (IsText-prop r.0) (AreTexts-prop r.1)) rows

CanCopyAll-prop : (tables : _) → IsProp (CanCopyAll tables)
CanCopyAll-prop tables =
    AllByRecursion-prop (λ t. IsText t.0 × CanCopy t.1) (λ t. ×_prop (IsText-prop t.0) (CanCopy-prop t.1)) tables

CanKeep-prop : (c : SetCopy) → IsProp (CanKeep c)
CanKeep-prop c a b = λ i. record {
  set_id = IsId-prop c.set a.set_id b.set_id i;
  view = CanView-prop (seen_view c.view) a.view b.view i;
  tables = CanCopyAll-prop c.tables a.tables b.tables i;
}

CanFetch-prop : (f : SetFetch) → IsProp (CanFetch f)
CanFetch-prop f a b = λ i. record {
  set_id = IsId-prop f.sync.set a.set_id b.set_id i;
  view = CanView-prop (seen_view f.sync.view) a.view b.view i;
  logged = CanLogAll-prop f.sync.rows f.sync.actions a.logged b.logged i;
}

pub CanLoad-prop : (load : Option Load) → IsProp (CanLoad load)
CanLoad-prop None = Unit-prop
CanLoad-prop (Some (Copy given)) = CanKeep-prop given
CanLoad-prop (Some (Syncs given)) = AllByRecursion-prop CanFetch CanFetch-prop given
