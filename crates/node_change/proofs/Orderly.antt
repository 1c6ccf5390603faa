-- The ids of a configuration ascend still when an event has changed it.
use Rattle.std.proofs.Common.{◌≡◌, ℕ, Bool, true, false, cond, [], ◌∷◌, Option, Some, None, refl}
use Rattle.std.proofs.Common.{ap, ◌∙◌}
use Rattle.std.specs.Prelude.{◌==◌, is_some, not}
use Rattle.store_rows.specs.Rows.{IsId}
use Rattle.node_rows.specs.declared.body.Body.{Body}
use Rattle.node_rows.specs.declared.body.Body.TheVariants.{StoreNode, DropNode, StorePath, DropPath, StoreSet}
use Rattle.node_rows.specs.declared.body.Body.TheVariants.{DropSet, SetAddTable, SubscribeSet, EnableSubscription}
use Rattle.node_rows.specs.declared.body.Body.TheVariants.{UnsubscribeSet, MoveSet, FailoverSet}
use Rattle.node_rows.specs.declared.rows.NodeRow.{NodeRow}
use Rattle.node_rows.specs.declared.rows.Subscription.{Subscription}
use Rattle.node_rows.specs.Spellings.{CanBody}
use Rattle.slon_model.specs.Maps.{Map, Map2, entry_at, with_entry, without_entry, pair_at}
use Rattle.slon_model.specs.Events.{Event}
use Rattle.slon_model.specs.Config.{Config, named_node, enabled, change_by, change}
use Rattle.event_store.specs.Keeping.{KeepsViews}
use Rattle.set_config.proofs.Entries.{entry-with}
use Rattle.event_store.specs.Ordered.{IsOrdered, AreOrdered}
use Rattle.event_store.proofs.Ordered.{all_filtered, all_with, ordered_mapped, ordered_with, ordered_without}
use Rattle.event_store.proofs.Ordered.{with_one, without_one}
use Rattle.node_state.specs.Held.{IsOrderly, IsMet, AreMet}

-- ---- a configuration

whole : {c : Config} → IsOrdered c.nodes → AreOrdered c.paths → IsOrdered c.sets → IsOrdered c.tables →
    AreOrdered c.subscriptions → IsOrdered c.fences → IsOrderly c
whole nodes paths sets tables subscriptions fences = record {
  nodes = nodes;
  paths = paths;
  sets = sets;
  tables = tables;
  subscriptions = subscriptions;
  fences = fences;
}

named_ordered : (node : ℕ) (nodes : Map NodeRow) → IsId node → IsOrdered nodes → IsOrdered (named_node node nodes)
named_ordered node nodes one ordered =
    elim (is_some (entry_at node nodes)) as
    (λ b. IsOrdered (cond b nodes (with_entry node (record { live = true; comment = [] }) nodes))) [
      | true ↦ ordered
      | false ↦ ordered_with node _ nodes one ordered
    ]

enabled_ordered : (set receiver number : ℕ) (m : Map2 Subscription) (o : Option Subscription) → IsId set →
    IsId receiver → AreOrdered m → AreOrdered (enabled set receiver number m o)
enabled_ordered set receiver number m None one two are = are
enabled_ordered set receiver number m (Some s) one two are = with_one set receiver _ m one two are

-- a row keeps its id
same_id : {X : Type 0} (x : X) (e : ℕ × X) (b : Bool) → (cond {A = ℕ × X} b (e.0, x) e).0 ≡ e.0
same_id x e true = refl
same_id x e false = refl

-- nobody has one of the rows any more
rows_without : {X : Type 0} (first : ℕ) (m : Map2 X) → AreOrdered m → AreOrdered (without_entry first m)
rows_without first m are = record {
  firsts = ordered_without first m are.firsts;
  seconds = all_filtered (λ e. IsOrdered e.1) (λ e. not (first == e.0)) m are.seconds;
}

pub change_orderly : (origin number : ℕ) (body : Body) (c : Config) → KeepsViews body → CanBody body → IsOrderly c →
    IsOrderly (change_by origin number body c)
change_orderly origin number (StoreNode node comment) c keeps can o =
    whole (ordered_with node _ c.nodes can.0 o.nodes) o.paths o.sets o.tables o.subscriptions o.fences
change_orderly origin number (DropNode node) c keeps can o =
    whole (ordered_with node _ c.nodes can o.nodes) o.paths o.sets o.tables o.subscriptions o.fences
change_orderly origin number (StorePath server client conninfo) c keeps can o =
    whole o.nodes (with_one client server conninfo c.paths can.1 can.0 o.paths) o.sets o.tables o.subscriptions o.fences
change_orderly origin number (DropPath server client) c keeps can o =
    whole o.nodes (without_one client server c.paths can.1 o.paths) o.sets o.tables o.subscriptions o.fences
change_orderly origin number (StoreSet set by comment) c keeps can o =
    whole o.nodes o.paths (ordered_with set _ c.sets can.0 o.sets) o.tables o.subscriptions o.fences
change_orderly origin number (DropSet set) c keeps can o =
    whole o.nodes o.paths (ordered_mapped _ c.sets (λ e. same_id (record e.1 { live = false }) e (e.0 == set)) o.sets)
    (ordered_mapped _ c.tables (λ e. same_id (record e.1 { live = false }) e (e.1.set_id == set)) o.tables)
    (rows_without set c.subscriptions o.subscriptions) o.fences
change_orderly origin number (SetAddTable set table name comment) c keeps can o =
    whole o.nodes o.paths o.sets (ordered_with table _ c.tables can.1 o.tables) o.subscriptions o.fences
change_orderly origin number (SubscribeSet set provider receiver forward) c keeps can o =
    whole (named_ordered receiver c.nodes can.2 o.nodes) o.paths o.sets o.tables
    (with_one set receiver _ c.subscriptions can.0 can.2 o.subscriptions) o.fences
change_orderly origin number (EnableSubscription set provider receiver forward era) c keeps can o =
    whole o.nodes o.paths o.sets o.tables
    (enabled_ordered set receiver number c.subscriptions (pair_at set receiver c.subscriptions) can.0 can.2
    o.subscriptions) o.fences
change_orderly origin number (UnsubscribeSet set receiver) c keeps can o =
    whole o.nodes o.paths o.sets o.tables (without_one set receiver c.subscriptions can.0 o.subscriptions) o.fences
change_orderly origin number (MoveSet set old new era feeds) c keeps can o = absurd keeps
change_orderly origin number (FailoverSet failed limit sets) c keeps can o = absurd keeps
change_orderly origin number others c keeps can o = o

-- ---- the nodes that are known

-- what is known is known still where an entry is put
pub known_with : {X : Type 0} (q id : ℕ) (x : X) (es : Map X) → is_some (entry_at q es) ≡ true →
    is_some (entry_at q (with_entry id x es)) ≡ true
known_with q id x es is = ap is_some (entry-with q id x es) ∙ step (q == id)
  where
    step : (b : Bool) → is_some (cond b (Some x) (entry_at q es)) ≡ true
    step true = refl
    step false = is

known_named : (q node : ℕ) (nodes : Map NodeRow) → is_some (entry_at q nodes) ≡ true →
    is_some (entry_at q (named_node node nodes)) ≡ true
known_named q node nodes is = step (is_some (entry_at node nodes))
  where
    row : NodeRow
    row = record { live = true; comment = [] }

    step : (b : Bool) → is_some (entry_at q (cond b nodes (with_entry node row nodes))) ≡ true
    step true = is
    step false = known_with q node row nodes is

-- a node that is known is known still when an event has changed the configuration
pub change_known : (origin number q : ℕ) (body : Body) (c : Config) → KeepsViews body → IsMet q c →
    IsMet q (change_by origin number body c)
change_known origin number q (StoreNode node comment) c keeps is = known_with q node _ c.nodes is
change_known origin number q (DropNode node) c keeps is = known_with q node _ c.nodes is
change_known origin number q (SubscribeSet set provider receiver forward) c keeps is =
    known_named q receiver c.nodes is
change_known origin number q (MoveSet set old new era feeds) c keeps is = absurd keeps
change_known origin number q (FailoverSet failed limit sets) c keeps is = absurd keeps
change_known origin number q others c keeps is = is

-- and so are the nodes that events are there of, with the one that emitted this event
pub change_met : (e : Event) (c : Config) (progress : Map ℕ) → KeepsViews e.body → IsMet e.origin (change e c) →
    AreMet progress c → AreMet (with_entry e.origin e.number progress) (change e c)
change_met e c progress keeps here met =
    all_with (λ p. is_some (entry_at p.0 (change e c).nodes) ≡ true) e.origin e.number progress here
    (each progress met)
  where
    each : (ps : Map ℕ) → AreMet ps c → AreMet ps (change e c)
    each [] met = tt
    each (p ∷ ps) met = (change_known e.origin e.number p.0 e.body c keeps met.0, each ps met.1)
