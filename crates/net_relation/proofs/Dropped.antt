-- A node that is dropped stays so.
use Rattle.std.proofs.Common.{◌≡◌, ℕ, Bool, true, false, cond, List, [], Option, Some, None, is_some, refl, sym}
use Rattle.std.proofs.Common.{ap, ◌∙◌}
use Rattle.std.specs.Prelude.{◌==◌, option_map, unwrap_or}
use Rattle.std.proofs.lemmas.Bool.{eqb-true, false≢true, not-true, not_from_false}
use Rattle.node_rows.specs.declared.rows.NodeRow.{NodeRow}
use Rattle.node_rows.specs.declared.body.Body.{Body}
use Rattle.node_rows.specs.declared.body.Body.TheVariants.{StoreNode, DropNode, SubscribeSet, FailoverSet}
use Rattle.net_laws.specs.Net.{Node as NetNode}
use Rattle.slon_model.specs.Maps.{Map, entry_at, with_entry}
use Rattle.slon_model.specs.Events.{Event}
use Rattle.slon_model.specs.Config.{Config, change, change_by, named_node, stored_node}
use Rattle.slon_model.specs.Membership.{is_dropped}
use Rattle.stream_laws.specs.Making.{is_emitted}
use Rattle.stream_laws.proofs.Lists.{entry-with}
use Rattle.net_relation.specs.Matching.{HasDropped, IsWhole}

-- the node of another row is dropped still, and so is that of this one, if it was
dropped_with : (id node : ℕ) (row : NodeRow) (nodes : Map NodeRow) →
    (is_dropped (entry_at node nodes) ≡ true → row.live ≡ false) → is_dropped (entry_at id nodes) ≡ true →
    is_dropped (entry_at id (with_entry node row nodes)) ≡ true
dropped_with id node row nodes dead is = ap is_dropped (entry-with id node row nodes) ∙ by (id == node) refl
  where
    by : (b : Bool) → (id == node) ≡ b → is_dropped (cond b (Some row) (entry_at id nodes)) ≡ true
    by true same =
        not_from_false row.live (dead (ap (λ k. is_dropped (entry_at k nodes)) (sym (eqb-true id node same)) ∙ is))
    by false other = is

dropped_stored : (id node : ℕ) (comment : List ℕ) (nodes : Map NodeRow) → is_dropped (entry_at id nodes) ≡ true →
    is_dropped (entry_at id (stored_node node comment nodes)) ≡ true
dropped_stored id node comment nodes = dropped_with id node _ nodes (dead (entry_at node nodes))
  where
    dead : (o : Option NodeRow) → is_dropped o ≡ true →
        unwrap_or (option_map (λ (row : NodeRow). row.live) o) true ≡ false
    dead None is = absurd (false≢true is)
    dead (Some row) is = not-true row.live is

dropped_named : (id node : ℕ) (nodes : Map NodeRow) → is_dropped (entry_at id nodes) ≡ true →
    is_dropped (entry_at id (named_node node nodes)) ≡ true
dropped_named id node nodes is = by (is_some (entry_at node nodes)) refl
  where
    unknown : (o : Option NodeRow) → is_some o ≡ false → is_dropped o ≡ true → true ≡ false
    unknown None none never = sym never
    unknown (Some row) none is = none

    by : (b : Bool) → is_some (entry_at node nodes) ≡ b → is_dropped (entry_at id (cond b nodes
        (with_entry node (record { live = true; comment = [] }) nodes))) ≡ true
    by true known = is
    by false none = dropped_with id node _ nodes (unknown (entry_at node nodes) none) is

-- behind an event with this origin and number
pub dropped_stays : (id : ℕ) (i : ℕ × ℕ) (body : Body) (c : Config) → is_emitted body ≡ true → HasDropped id c →
    HasDropped id (change_by i.0 i.1 body c)
dropped_stays id i (StoreNode node comment) c emitted is = dropped_stored id node comment c.nodes is
dropped_stays id i (DropNode node) c emitted is = dropped_with id node _ c.nodes (λ any. refl) is
dropped_stays id i (SubscribeSet set provider receiver forward) c emitted is = dropped_named id receiver c.nodes is
dropped_stays id i (FailoverSet failed limit sets) c emitted is = absurd (false≢true emitted)
dropped_stays id i others c emitted is = is

pub whole_stays : (e : Event) (c : Config) {node : NetNode} → is_emitted e.body ≡ true → IsWhole c node →
    IsWhole (change e c) node
whole_stays e c emitted old = record {
  keeps = old.keeps;
  bars = λ id barred. dropped_stays id (e.origin, e.number) e.body c emitted (old.bars id barred);
  has = old.has;
}
