-- A store that holds a node, with the meta entries of the node.
use Rattle.std.proofs.Common.{◌≡◌, ℕ, true, false, cond, List, [], ◌∷◌, Some, refl, sym, ap, ◌∙◌}
use Rattle.std.specs.Prelude.{◌==◌}
use Rattle.std.specs.Cmp.Lexicographic.{nat_list_cmp_total}
use Rattle.std.specs.FinMap.{get, insert, get-insert}
use Rattle.std.proofs.lemmas.Bool.{false≢true}
use Rattle.slon_base.specs.Codec.{number_bytes, text_bytes}
use Rattle.slon_base.specs.Keeper.{Space, Store, put_at}
use Rattle.slon_base.proofs.Order.{apart, tied}
use Rattle.slon_model.specs.Deeds.{Node}
use Rattle.set_config.proofs.Entries.{not_eq}
use Rattle.node_state.specs.Held.{NodeHeld, is_own}
use Rattle.node_state.proofs.Staying.{node_stays}
use Rattle.node_change.specs.Becoming.{IsNode, named}

-- the store of a database that became a node, without the meta entries of the node
pub record Made (n : Node) (m mid : Store) : Type 0 where
  pub held : NodeHeld n mid
  pub own : (space : ℕ) → is_own space ≡ true → mid space ≡ m space

pub put_others : (used : ℕ) (key value : List ℕ) (m : Store) (space : ℕ) → (space == used) ≡ false →
    put_at used key value m space ≡ m space
put_others used key value m space other = ap (λ b. cond b (insert (m used) key value) (m space)) other

named_others : (id : ℕ) (cluster : List ℕ) (m : Store) (space : ℕ) → (space == 1) ≡ false →
    named id cluster m space ≡ m space
named_others id cluster m space other =
    put_others 1 (5 ∷ []) (text_bytes cluster) (put_at 1 (4 ∷ []) (number_bytes id) m) space other
    ∙ put_others 1 (4 ∷ []) (number_bytes id) m space other

-- what stands at the key that was put, and at another one
here : (space : Space) (key value : List ℕ) → get (insert space key value) key ≡ Some value
here space key value =
    get-insert nat_list_cmp_total space key value key
    ∙ ap (λ b. cond b (Some value) (get space key)) (tied key)

there : (space : Space) (key value other : List ℕ) → (other ≡ key → ⊥) →
    get (insert space key value) other ≡ get space other
there space key value other differ =
    get-insert nat_list_cmp_total space key value other
    ∙ ap (λ b. cond b (Some value) (get space other)) (apart other key differ)

pub named_node : {n : Node} {m mid : Store} → Made n m mid → IsNode n m (named n.id n.cluster mid)
named_node {n} {m} {mid} made = record {
  held = node_stays (Some n) mid (named n.id n.cluster mid)
      (λ space other. named_others n.id n.cluster mid space
      (not_eq space 1 (λ same. false≢true (sym other ∙ ap is_own same)))) made.held;
  identity = record {
    id = there with_id (5 ∷ []) (text_bytes n.cluster) (4 ∷ []) (λ same. absurd cc)
        ∙ here (mid 1) (4 ∷ []) (number_bytes n.id);
    cluster = here with_id (5 ∷ []) (text_bytes n.cluster);
  };
  entries = λ key not_id not_cluster. there with_id (5 ∷ []) (text_bytes n.cluster) key not_cluster
      ∙ there (mid 1) (4 ∷ []) (number_bytes n.id) key not_id ∙ ap (λ s. get s key) (made.own 1 refl);
  own = λ space own other. named_others n.id n.cluster mid space other ∙ made.own space own;
}
  where
    with_id : Space
    with_id = insert (mid 1) (4 ∷ []) (number_bytes n.id)
