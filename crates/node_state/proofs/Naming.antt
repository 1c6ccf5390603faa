-- Which node a database is, by its meta entries.
use Rattle.std.proofs.Common.{◌≡◌, ℕ, List, [], ◌∷◌, Option, Some, None, refl, ap, subst, ◌∙◌, inl, inr}
use Rattle.std.specs.Option.{option_map}
use Rattle.std.specs.FinMap.{get}
use Rattle.slon_base.specs.Codec.{number_bytes, text_bytes, IsText}
use Rattle.slon_base.specs.Keeper.{Store}
use Rattle.store_rows.specs.Rows.{IsId}
use Rattle.store_rows.specs.Space.{AllOf}
use Rattle.node_state.specs.declared.memory.Identity.{Identity}
use Rattle.slon_model.specs.Deeds.{Node, knowledge}
use Rattle.node_state.specs.Handed.{HasIdentity, HandedSets, HandedNode}
use Rattle.node_state.specs.Held.{NodeHeld, HoldsNode, HasMeta}
use Rattle.node_state.specs.declared.memory.Members.{Members}
use Rattle.node_state.specs.Known.{CanIdentity, IsKnown, identity_of}
use Rattle.node_state.specs.Members.{AreThose}

-- the id that stands, if one does
abbrev pub id_in : Option Identity → Option ℕ
id_in identity = option_map (λ i. i.id) identity

pub record HasId (m : Store) (identity : Option Identity) : Type 0 where
  pub can : AllOf IsId (id_in identity)
  pub spelled : get (m 1) (4 ∷ []) ≡ option_map number_bytes (id_in identity)

pub has_id : {m : Store} (has : HasIdentity m) → HasId m has.identity
has_id {m} has = by has.identity has.formed has.id
  where
    by : (o : Option Identity) → CanIdentity o → get (m 1) (4 ∷ []) ≡ option_map (λ i. number_bytes i.id) o → HasId m o
    by None can is = record { can = tt; spelled = is }
    by (Some i) can is = record { can = (can i refl).0; spelled = is }

-- the cluster of a node whose id stands
pub record HasCluster (m : Store) (id : ℕ) (identity : Option Identity) : Type 0 where
  pub cluster : List ℕ
  pub can : IsText cluster
  pub spelled : get (m 1) (5 ∷ []) ≡ Some (text_bytes cluster)
  pub whole : identity ≡ Some (record { id = id; cluster = cluster })

pub has_cluster : {m : Store} (id : ℕ) (has : HasIdentity m) → Some id ≡ id_in has.identity →
    HasCluster m id has.identity
has_cluster {m} id has is = by has.identity has.formed has.cluster is
  where
    by : (o : Option Identity) → CanIdentity o →
        ((i : Identity) → o ≡ Some i → get (m 1) (5 ∷ []) ≡ Some (text_bytes i.cluster)) → Some id ≡ id_in o →
        HasCluster m id o
    by None can cluster is = absurd cc
    by (Some i) can cluster is = let same : i.id ≡ id = cc in record {
      cluster = i.cluster;
      can = (can i refl).1;
      spelled = cluster i refl;
      whole = λ k. Some (record { id = same k; cluster = i.cluster });
    }

-- the meta entries have this identity
abbrev pub Has : Store → Option Identity → Type 0
Has m identity = (has : HasIdentity m) × (has.identity ≡ identity)

-- that of an id with a cluster
pub with_identity : (m : Store) (id : ℕ) (cluster : List ℕ) → IsId id × IsText cluster →
    get (m 1) (4 ∷ []) ≡ Some (number_bytes id) → get (m 1) (5 ∷ []) ≡ Some (text_bytes cluster) →
    Has m (Some (record { id = id; cluster = cluster }))
with_identity m id cluster can at_id at_cluster = (
  record {
    identity = Some (record { id = id; cluster = cluster });
    formed = λ i is. let same : record { id = id; cluster = cluster } ≡ i = cc in
        subst (λ (x : Identity). IsId x.id × IsText x.cluster) same can;
    id = at_id;
    cluster = λ i is. let same : cluster ≡ i.cluster = cc in at_cluster ∙ ap (λ l. Some (text_bytes l)) same;
  },
  refl,
)

-- that of no node
pub no_identity : (m : Store) → get (m 1) (4 ∷ []) ≡ None → Has m None
no_identity m none =
    (record { identity = None; formed = λ i is. absurd cc; id = none; cluster = λ i is. absurd cc }, refl)

-- ---- a node that is held

-- the meta entries of a node have its identity
pub meta_identity : (node : Option Node) (m : Store) → HoldsNode node m → HasMeta node (m 1) →
    Has m (identity_of node)
meta_identity None m held is = no_identity m is.id
meta_identity (Some n) m held is = with_identity m n.id n.cluster (held.id, held.cluster) is.id is.cluster

-- what was read of a node is what is known of it
pub known_some : (node : Option Node) (m : Store) (identity : Identity) (members : Members) → HoldsNode node m →
    Some identity ≡ identity_of node →
    ((n : Node) → NodeHeld n m → AreThose identity.id (knowledge n).config members) →
    IsKnown node (Some identity) members
known_some None m identity members held is those = absurd cc
known_some (Some n) m identity members held is those =
    let id : identity.id ≡ n.id = cc in
    record {
      identity_is = is;
      members_are = (subst (λ own. AreThose own (knowledge n).config members) id (those n held)).live;
      names_are = (those n held).names;
    }

-- the identity was read, and then the tables of the sets
pub node_formed : (m : Store) → HasIdentity m → ((space : ℕ) → HandedSets m space → ⊥) → (space : ℕ) →
    HandedNode m space → ⊥
node_formed m has none space (inl lacks) = lacks.1 has
node_formed m has none space (inr (is, node, handed)) = none space handed
