-- An event of its parts, and that it is known in one way at most that it can be spelled.
use Rattle.std.specs.Prelude.{ℕ, ◌<◌, List, [], ◌∷◌}
use Rattle.std.specs.Coded.{Coded-set, coded_ℕ, coded_bool, coded_list, le_prop, ×_prop, Unit-prop}
use Rattle.std.specs.List.{AllByRecursion-prop}
use Rattle.std.specs.Str.{IsUtf8}
use Rattle.std.proofs.lemmas.Str.{chars_from_encodes}
use mathlib.Core.HLevel.{×₃_prop, Σ_prop_path}
use mathlib.Core.Path.{◌∙◌, sym}
use Rattle.slon_base.specs.Codec.{IsText, AllAre, AreMany}
use Rattle.store_rows.specs.Rows.{IsId}
use Rattle.node_rows.specs.declared.body.Body.{Body}
use Rattle.node_rows.specs.declared.body.Body.TheVariants.{Sync, StoreNode, DropNode, StorePath, DropPath, StoreSet}
use Rattle.node_rows.specs.declared.body.Body.TheVariants.{DropSet, SetAddTable, SubscribeSet, EnableSubscription}
use Rattle.node_rows.specs.declared.body.Body.TheVariants.{UnsubscribeSet, MoveSet, AcceptSet, FailoverSet}
use Rattle.node_rows.specs.Spellings.{CanFeed, CanBeTaken, CanBody}
use Rattle.slon_model.specs.Events.{Event}
use Rattle.slon_model.specs.Snapshots.{Snapshot as Model, Rising, IsSnapshot}
use Rattle.txn_core.specs.declared.snapshot.Snapshot.{Snapshot}
use Rattle.txn_core.specs.Snapshots.{seen_as}
use Rattle.event_store.specs.Spellings.{CanSnapshot, CanEvent}

-- the event of this origin with this number, whose row has these parts
abbrev pub event_by : ℕ → ℕ → Snapshot → Body → Event
event_by origin number taken body =
    record { origin = origin; number = number; taken = seen_as taken; body = body }

-- ---- in one way at most

IsId-prop : (n : ℕ) → IsProp (IsId n)
IsId-prop n = ×_prop le_prop le_prop

AllAre-prop : {X : Type 0} (P : X → Type 0) → ((x : X) → IsProp (P x)) → (xs : List X) → IsProp (AllAre P xs)
AllAre-prop P each [] = Unit-prop
AllAre-prop P each (x ∷ xs) = ×_prop (each x) (AllAre-prop P each xs)

AreMany-prop : {X : Type 0} (P : X → Type 0) → ((x : X) → IsProp (P x)) → (xs : List X) → IsProp (AreMany P xs)
AreMany-prop P each xs a b = λ i. record {
  few = le_prop a.few b.few i;
  each = AllAre-prop P each xs a.each b.each i;
}

IsUtf8-prop : (bytes : List ℕ) → IsProp (IsUtf8 bytes)
IsUtf8-prop bytes a b =
    Σ_prop_path (λ cs. ×_prop (Coded-set coded_bool _ _) (Coded-set (coded_list coded_ℕ) _ _))
    (chars_from_encodes a.0 bytes a a.1.1 ∙ sym (chars_from_encodes b.0 bytes a b.1.1))

IsText-prop : (text : List ℕ) → IsProp (IsText text)
IsText-prop text a b = λ i. record {
  short = le_prop a.short b.short i;
  utf8 = IsUtf8-prop text a.utf8 b.utf8 i;
}

CanFeed-prop : (f : _) → IsProp (CanFeed f)
CanFeed-prop f = ×_prop (IsId-prop f.0) (×_prop (IsId-prop f.1.0) Unit-prop)

CanBeTaken-prop : (s : _) → IsProp (CanBeTaken s)
CanBeTaken-prop s = ×_prop (IsId-prop s.0) (×_prop le_prop (AreMany-prop CanFeed CanFeed-prop s.1.1))

CanBody-prop : (body : Body) → IsProp (CanBody body)
CanBody-prop Sync = Unit-prop
CanBody-prop (StoreNode node comment) = ×_prop (IsId-prop node) (IsText-prop comment)
CanBody-prop (DropNode node) = IsId-prop node
CanBody-prop (StorePath server client conninfo) =
    ×₃_prop (IsId-prop server) (IsId-prop client) (IsText-prop conninfo)
CanBody-prop (DropPath server client) = ×_prop (IsId-prop server) (IsId-prop client)
CanBody-prop (StoreSet set origin comment) = ×₃_prop (IsId-prop set) (IsId-prop origin) (IsText-prop comment)
CanBody-prop (DropSet set) = IsId-prop set
CanBody-prop (SetAddTable set table name comment) = λ a b i. (
  IsId-prop set a.0 b.0 i,
  IsId-prop table a.1 b.1 i,
  IsText-prop name a.2 b.2 i,
  IsText-prop comment a.3 b.3 i,
)
CanBody-prop (SubscribeSet set provider receiver forward) =
    ×₃_prop (IsId-prop set) (IsId-prop provider) (IsId-prop receiver)
CanBody-prop (EnableSubscription set provider receiver forward era) = λ a b i. (
  IsId-prop set a.0 b.0 i,
  IsId-prop provider a.1 b.1 i,
  IsId-prop receiver a.2 b.2 i,
  le_prop a.3 b.3 i,
)
CanBody-prop (UnsubscribeSet set receiver) = ×_prop (IsId-prop set) (IsId-prop receiver)
CanBody-prop (MoveSet set old new era feeds) = λ a b i. (
  IsId-prop set a.0 b.0 i,
  IsId-prop old a.1 b.1 i,
  IsId-prop new a.2 b.2 i,
  le_prop a.3 b.3 i,
  AreMany-prop CanFeed CanFeed-prop feeds a.4 b.4 i,
)
CanBody-prop (AcceptSet set old new era moved) = λ a b i. (
  IsId-prop set a.0 b.0 i,
  IsId-prop old a.1 b.1 i,
  IsId-prop new a.2 b.2 i,
  le_prop a.3 b.3 i,
  le_prop a.4 b.4 i,
)
CanBody-prop (FailoverSet failed limit sets) =
    ×₃_prop (IsId-prop failed) le_prop (AreMany-prop CanBeTaken CanBeTaken-prop sets)

Rising-prop : (xs : List ℕ) → IsProp (Rising xs)
Rising-prop [] = Unit-prop
Rising-prop (x ∷ xs) = ×_prop (AllByRecursion-prop (λ y. x < y) (λ y. le_prop) xs) (Rising-prop xs)

IsSnapshot-prop : (s : Model) → IsProp (IsSnapshot s)
IsSnapshot-prop s a b = λ i. record {
  first = Coded-set coded_ℕ _ _ a.first b.first i;
  rising = Rising-prop s.running a.rising b.rising i;
  below = AllByRecursion-prop (λ x. x < s.xmax) (λ x. le_prop) s.running a.below b.below i;
  small = le_prop a.small b.small i;
}

CanSnapshot-prop : (s : Model) → IsProp (CanSnapshot s)
CanSnapshot-prop s a b = λ i. record {
  formed = IsSnapshot-prop s a.formed b.formed i;
  few = le_prop a.few b.few i;
}

pub CanEvent-prop : (e : Event) → IsProp (CanEvent e)
CanEvent-prop e a b = λ i. record {
  numbered = ×_prop (IsId-prop e.origin) le_prop a.numbered b.numbered i;
  taken = CanSnapshot-prop e.taken a.taken b.taken i;
  body = CanBody-prop e.body a.body b.body i;
}
