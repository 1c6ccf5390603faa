-- How a session and the net of a set are related: the origin of the set, and each other node.
use Rattle.std.specs.Prelude.{◌≡◌, ◌≢◌, ℕ, true, false, List, Option, Some}
use Rattle.std.specs.List.{AllByRecursion}
use Rattle.net_laws.specs.Subscriptions.{Subscription as Row, is_over, up_to, row}
use Rattle.net_laws.specs.Net.{Net, Node as NetNode, Logs, Leads as NetLeads, member, owned}
use Rattle.slon_model.specs.Maps.{entry_at, pair_at}
use Rattle.slon_model.specs.Config.{Config}
use Rattle.slon_model.specs.Membership.{is_dropped}
use Rattle.slon_model.specs.Views.{View}
use Rattle.slon_model.specs.Deeds.{Node, Logged, knowledge, stream, progress, view_of}
use Rattle.slon_model.specs.Logs.{logged}
use Rattle.slon_model.specs.Place.{Place, taken}
use Rattle.stream_laws.specs.Nodes.{IsAmong, Nodes}
use Rattle.image_laws.specs.Moments.{count_of, IsOrder, IsTaken}
use Rattle.net_relation.specs.Reading.{read, unfed, plain, first_net, moment_of}

-- ---- subscriptions

-- the configuration has the subscription of the receiver
abbrev pub HasRow : ℕ → ℕ → Row → Config → Type 0
HasRow set receiver u c = pair_at set receiver c.subscriptions ≡ Some (plain u)

-- ---- nodes that are dropped

-- the configuration has the node as dropped
abbrev pub HasDropped : ℕ → Config → Type 0
HasDropped id c = is_dropped (entry_at id c.nodes) ≡ true

-- the node of the net has no other one as dropped
abbrev pub BarsNoOther : Config → NetNode → Type 0
BarsNoOther c node = (id : ℕ) → member id node.barred ≡ true → HasDropped id c

-- it has exactly these as dropped
abbrev pub BarsExactly : Config → NetNode → Type 0
BarsExactly c node = (id : ℕ) → member id node.barred ≡ is_dropped (entry_at id c.nodes)

-- ---- the origin

-- The net has the stream of the origin, and counts its transactions. Each one counts as one of the era, until the set
-- ends.
pub record MatchesOrigin (set : ℕ) (p : Place) (x : Node) (n : Net) : Type 0 where
  pub origin : n.origin ≡ x.id
  pub start : n.start ≡ unfed
  pub stream : n.stream ≡ read set (stream x)
  pub now : n.now ≡ count_of (taken p)
  pub full : is_over n.stream ≡ false → n.full ≡ n.now
  -- the subscriptions of the net are those that the origin has
  pub rows : (r : ℕ) (u : Row) → owned n r ≡ Some u → HasRow set r u (knowledge x).config
  pub bars : BarsNoOther (knowledge x).config (n.nodes x.id)

-- ---- the other nodes

-- The base of a view, and that its snapshots were taken in the database whose transactions ended in this order.
pub record IsKept (order : ℕ → Option ℕ) (now : ℕ) (v : View) (node : NetNode) : Type 0 where
  pub base : node.base ≡ count_of v.base
  pub seen : IsTaken order now v.seen
  pub began : IsTaken order now v.base

-- An entry of the log of the origin, on a table of the set, of the transaction that ended as this one.
pub record IsEntry (set : ℕ) (order : ℕ → Option ℕ) (x : Node) (l : Logged) (moment : ℕ) : Type 0 where
  pub among : IsAmong l (logged x)
  pub of : l.set_id ≡ set
  pub own : l.origin ≡ x.id
  pub ended : order l.action.xid ≡ Some moment

-- no node has given a set up so far, or has cleaned its logs, or has others as dropped than its configuration has
pub record IsWhole (c : Config) (node : NetNode) : Type 0 where
  pub keeps : node.gave_up ≡ false
  pub bars : BarsNoOther c node
  pub has : node.cleaned ≡ 0

-- Node o has made of the stream of x what the node of the net has made of it.
pub record MatchesNode (set : ℕ) (order : ℕ → Option ℕ) (now : ℕ) (x o : Node) (node : NetNode) : Type 0 where
  pub reached : node.progress ≡ progress x.id (knowledge o)
  pub view : node.view ≡ moment_of x.id (view_of set (knowledge o))
  pub kept : (v : View) → view_of set (knowledge o) ≡ Some v → v.origin ≡ x.id → IsKept order now v node
  -- it has its own subscription as its net has it
  pub row : (u : Row) → row unfed o.id (up_to node.progress (read set (stream x))) ≡ Some u →
      HasRow set o.id u (knowledge o).config
  -- what the net says that it logged is in its log
  pub logs : (l : Logged) (moment : ℕ) → IsEntry set order x l moment → Logs node.log moment →
      IsAmong l (logged o)
  pub whole : IsWhole (knowledge o).config node

-- ---- the whole

-- So it is of the database of the origin, and of all nodes of the session.
pub record Matches (set : ℕ) (order : ℕ → Option ℕ) (all : Nodes) (p : Place) (x : Node) (n : Net) : Type 0 where
  pub origin : MatchesOrigin set p x n
  pub events : AllByRecursion (λ e. IsTaken order n.now e.taken) (stream x)
  pub nodes : (name : List ℕ) (o : Node) → all name ≡ Some o → o.id ≢ x.id →
      MatchesNode set order n.now x o (n.nodes o.id)
  -- each node, the origin too, has exactly those as dropped that its configuration has so
  pub bars : (name : List ℕ) (o : Node) → all name ≡ Some o → BarsExactly (knowledge o).config (n.nodes o.id)

-- There is a net of the set that has gone by steps to where the session is.
pub record HasNet (set : ℕ) (all : Nodes) (p : Place) (x : Node) : Type 0 where
  pub order : ℕ → Option ℕ
  pub is : IsOrder order (count_of (taken p))
  pub now : IsTaken order (count_of (taken p)) (taken p)
  pub net : Net
  pub leads : NetLeads (first_net x.id) net
  pub matches : Matches set order all p x net
