-- A node that is to provide a set in the place of the origin is ready for that by all that the origin emitted.
use Rattle.std.proofs.Common.{◌≡◌, ◌≢◌, ◌⊎◌, inl, inr, ℕ, ◌≤◌, true, cond, List, []}
use Rattle.std.proofs.Common.{Option, Some, None}
use Rattle.std.proofs.Common.{refl, ap, subst, arith, is_some, unwrap_or}
use Rattle.std.specs.Prelude.{◌==◌}
use Rattle.std.specs.List.{AllByRecursion}
use Rattle.std.proofs.lemmas.Bool.{eqb-true, false_from_ne_true}
use Rattle.node_rows.specs.declared.rows.Subscription.{Subscription}
use Rattle.net_laws.specs.Subscriptions.{Subscription as Row}
use Rattle.net_laws.specs.Subscriptions.{row}
use Rattle.slon_model.specs.Maps.{Map, Map2, entry_at, number_at, pair_at, row_at}
use Rattle.slon_model.specs.Deeds.{Node, knowledge, progress, stream, told_of}
use Rattle.slon_model.specs.Sessions.{Seat}
use Rattle.slon_model.specs.Subscribing.{NewFeed}
use Rattle.stream_laws.specs.Nodes.{HasConfirmed, Nodes, nodes_in}
use Rattle.stream_laws.specs.Facts.{RowConfirmed}
use Rattle.stream_laws.proofs.Lists.{all_entry}
use Rattle.stream_laws.proofs.Seats.{IsSeat, seat_node}
use Rattle.view_laws.specs.Past.{Past}
use Rattle.view_laws.proofs.Moments.{regular_now}
use Rattle.net_relation.specs.Reading.{read, unfed}
use Rattle.net_relation.proofs.Feeding.{NodeFeeds}
use Rattle.net_relation.proofs.Rowed.{has_row}
use Rattle.net_relation.proofs.Leading.{feeds_at}
use Rattle.net_relation.proofs.Links.{CanFeed, CanRelay}

-- One of these nodes, or none, has this id, and is as far as this in the stream of y.
abbrev pub IsAsFar : Nodes → Node → ℕ → ℕ → Type 0
IsAsFar all y id far =
    (far ≤ 0) ⊎ ((name : List ℕ) × (o : Node) × (all name ≡ Some o) × (o.id ≡ id) × (far ≤ progress y.id (knowledge o)))

-- The provider has its subscription by what y has emitted, which was enabled, and forwards. It has applied the last
-- event on it.
pub record Relay (all : Nodes) (y : Node) (f : NewFeed) : Type 0 where
  pub other : f.provider ≢ y.id
  pub known : Subscription
  pub has : pair_at f.set_id f.provider (knowledge y).config.subscriptions ≡ Some known
  pub forward : known.forward ≡ true
  pub feed : Row
  pub made : row unfed f.provider (read f.set_id (stream y)) ≡ Some feed
  pub ready : feed.ready ≡ true
  pub far : IsAsFar all y f.provider known.mark

-- ---- what it was told

told_far : (nodes : Nodes) (x k : ℕ) (told : Map2 ℕ) → AllByRecursion (RowConfirmed nodes) told →
    (number_at k (row_at x told) ≤ 0) ⊎ HasConfirmed nodes (x, k, number_at k (row_at x told))
told_far nodes x k told all = by (entry_at x told) refl
  where
    at : (row : Map ℕ) → RowConfirmed nodes (x, row) → (o : Option ℕ) → entry_at k row ≡ o →
        (unwrap_or o 0 ≤ 0) ⊎ HasConfirmed nodes (x, k, unwrap_or o 0)
    at row confirmed None none = inl (omega arith)
    at row confirmed (Some n) some =
        inr (all_entry (λ c. HasConfirmed nodes (x, c.0, c.1)) k n row confirmed some)

    by : (o : Option (Map ℕ)) → entry_at x told ≡ o →
        (number_at k (unwrap_or o []) ≤ 0) ⊎ HasConfirmed nodes (x, k, number_at k (unwrap_or o []))
    by None none = inl (omega arith)
    by (Some row) some = at row (all_entry (RowConfirmed nodes) x row told all some) (entry_at k row) refl

-- another node is as far as the node at its seat was told of it
told_as_far : (t : Past) (s : Seat) → IsSeat t.world.places s → (r : ℕ) → r ≢ s.node.id → (k : ℕ) →
    k ≤ told_of s.node.id s.node.id r (knowledge s.node) → IsAsFar (nodes_in t.world.places) s.node r k
told_as_far t s is r other k most =
    by (told_far (nodes_in t.world.places) x.id r (knowledge x).told
    ((regular_now t).nodes.each s.name x (seat_node t.world.places s is)).told)
  where
    x : Node
    x = s.node

    told : k ≤ number_at r (row_at x.id (knowledge x).told)
    told =
        subst (λ b. k ≤ cond b (progress x.id (knowledge x)) (number_at r (row_at x.id (knowledge x).told)))
        (false_from_ne_true (r == x.id) (λ same. other (eqb-true r x.id same))) most

    by : (number_at r (row_at x.id (knowledge x).told) ≤ 0) ⊎ HasConfirmed (nodes_in t.world.places)
        (x.id, r, number_at r (row_at x.id (knowledge x).told)) → IsAsFar (nodes_in t.world.places) x r k
    by (inl none) = inl (omega (arith, told, none))
    by (inr c) = inr (c.name, c.node, c.is, c.own, (let within = c.within in omega (arith, told, within)))

-- ---- the provider and the receiver

-- The provider is y, or is ready for that, and a receiver that subscribes has applied the last event on that.
pub record AreReadyFor (all : Nodes) (y : Node) (f : NewFeed) : Type 0 where
  pub provides : (f.provider ≡ y.id) ⊎ Relay all y f
  pub settled : (row : Subscription) → pair_at f.set_id f.receiver (knowledge y).config.subscriptions ≡ Some row →
      IsAsFar all y f.receiver row.mark

relay_of : (t : Past) (s : Seat) → IsSeat t.world.places s → (f : NewFeed) → CanFeed s.node f →
    (f.provider ≡ s.node.id) ⊎ Relay (nodes_in t.world.places) s.node f
relay_of t s is f can = by can.provides
  where
    x : Node
    x = s.node

    own : nodes_in t.world.places s.name ≡ Some x
    own = seat_node t.world.places s is

    feeds : NodeFeeds x
    feeds = feeds_at t s.name x own

    relays : CanRelay x f → Relay (nodes_in t.world.places) x f
    relays r = record {
      other = r.other;
      known = r.row;
      has = r.has;
      forward = r.forward;
      feed = u.0;
      made = u.1;
      ready = feeds.ready f.set_id f.provider u.0 u.1;
      far = told_as_far t s is f.provider r.other r.row.mark r.told;
    }
      where
        u : (u : Row) × (row unfed f.provider (read f.set_id (stream x)) ≡ Some u)
        u = has_row t s is f.set_id f.provider can.leads feeds.rows (ap is_some r.has)

    by : (f.provider ≡ x.id) ⊎ CanRelay x f → (f.provider ≡ x.id) ⊎ Relay (nodes_in t.world.places) x f
    by (inl same) = inl same
    by (inr r) = inr (relays r)

pub ready_of : (t : Past) (s : Seat) → IsSeat t.world.places s → (f : NewFeed) → CanFeed s.node f →
    AreReadyFor (nodes_in t.world.places) s.node f
ready_of t s is f can = record {
  provides = relay_of t s is f can;
  settled = λ row has. told_as_far t s is f.receiver can.apart row.mark (can.settled row has);
}
