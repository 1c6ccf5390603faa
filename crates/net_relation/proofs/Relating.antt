-- A net beside a session: what is known of it, and what it needs as the origin goes on, or another node.
use Rattle.std.proofs.Common.{◌≡◌, ◌≢◌, ◌⊎◌, inl, inr, ℕ, ◌<◌, ◌≤◌, Bool, true, false, cond, List, ◌++◌}
use Rattle.std.proofs.Common.{length}
use Rattle.std.proofs.Common.{Option, Some, None, refl, sym, ap, subst, ◌∙◌, arith}
use mathlib.Core.Path.{fun_ext}
use Rattle.std.specs.List.{AllByRecursion}
use Rattle.std.specs.Str.{bytes_eq}
use Rattle.std.proofs.lemmas.List.{map-append}
use Rattle.net_laws.specs.Subscriptions.{up_to, row}
use Rattle.net_laws.specs.Net.{Net, Node as NetNode, Here, Leads, Logs, member}
use Rattle.net_laws.specs.Sound.{Sound}
use Rattle.net_laws.proofs.Laws.{logs_are_committed}
use Rattle.slon_model.specs.Events.{Event}
use Rattle.slon_model.specs.Deeds.{Logged, Node, knowledge, stream, progress, view_of}
use Rattle.slon_model.specs.Logs.{logged}
use Rattle.slon_model.specs.Place.{Place}
use Rattle.slon_model.specs.Sessions.{World}
use Rattle.slon_model.proofs.Names.{bytes_itself, bytes_same, one_found}
use Rattle.stream_laws.specs.Nodes.{IsAmong, Nodes, node_in}
use Rattle.stream_laws.proofs.Growing.{placed}
use Rattle.image_laws.specs.Moments.{IsTaken}
use Rattle.image_laws.proofs.Orders.{AreApart, order_in}
use Rattle.image_laws.proofs.Ticking.{ClockAt}
use Rattle.view_laws.specs.Past.{Moment}
use Rattle.net_relation.specs.Reading.{said, read, unfed, fresh, first_net, moment_of}
use Rattle.net_relation.specs.Matching.{IsEntry, MatchesNode, MatchesOrigin}
use Rattle.net_relation.proofs.Earlier.{WasThen}
use Rattle.net_relation.proofs.Moments.{order_old, taken_more}
use Rattle.net_relation.proofs.Nets.{leads_on, net_sound, up_to_behind}
use Rattle.net_relation.proofs.Stepping.{Looks, with_look}

-- ---- nodes by their names

abbrev pub nodes_of : Looks → Nodes
nodes_of f name = node_in (f name)

pub nodes_with : (name : List ℕ) (q : Place) (f : Looks) →
    nodes_of (with_look name q f) ≡ placed name q.node (nodes_of f)
nodes_with name q f = fun_ext (λ k. by (bytes_eq k name) k)
  where
    by : (b : Bool) (k : List ℕ) → node_in (cond b (Some q) (f k)) ≡ cond b q.node (node_in (f k))
    by true k = refl
    by false k = refl

-- a database whose node is as it was
pub nodes_same : (name : List ℕ) (q : Place) (f : Looks) → q.node ≡ nodes_of f name →
    nodes_of (with_look name q f) ≡ nodes_of f
nodes_same name q f same = fun_ext (λ k. by k (bytes_eq k name) refl)
  where
    by : (k : List ℕ) (b : Bool) → bytes_eq k name ≡ b → node_in (cond b (Some q) (f k)) ≡ node_in (f k)
    by k true at = same ∙ ap (nodes_of f) (sym (bytes_same k name at))
    by k false other = refl

-- ---- a net

-- The net of a set, beside a database and its node, and all nodes of the session.
pub record Netted (set : ℕ) (ended : List ℕ) (all : Nodes) (p : Place) (x : Node) : Type 0 where
  pub net : Net
  pub leads : Leads (first_net x.id) net
  pub origin : MatchesOrigin set p x net
  pub now : net.now ≡ length ended
  pub events : AllByRecursion (λ e. IsTaken (order_in ended) (length ended) e.taken) (stream x)
  pub nodes : (name : List ℕ) (o : Node) → all name ≡ Some o → o.id ≢ x.id →
      MatchesNode set (order_in ended) (length ended) x o (net.nodes o.id)
  -- what is no node has applied nothing
  pub strangers : (id : ℕ) → ((name : List ℕ) (o : Node) → all name ≡ Some o → o.id ≢ id) → net.nodes id ≡ fresh

-- The database of this name has an order of what has ended, and where it is a node, a net. What was so in the sessions
-- before bears on that.
pub record Origin (set : ℕ) (Was : World → Type 0) (name : List ℕ) (all : Nodes) (p : Place) : Type 0 where
  pub ended : List ℕ
  pub clock : ClockAt p ended
  pub is : (x : Node) → p.node ≡ Some x → Netted set ended all p x
  pub then : (m : Moment Was) → m.name ≡ name → WasThen set ended p.node m.session m.place m.node

pub netted_sound : {set : ℕ} {ended : List ℕ} {all : Nodes} {p : Place} {x : Node} (n : Netted set ended all p x) →
    Sound n.net
netted_sound {x = x} n = net_sound x.id n.net n.leads

pub node_behind : {set : ℕ} {ended : List ℕ} {all : Nodes} {p : Place} {x : Node} (n : Netted set ended all p x) →
    (id : ℕ) → (n.net.nodes id).progress ≤ length (read set (stream x))
node_behind n id =
    let behind = (netted_sound n).behind id in
    let long = ap length n.origin.stream in
    omega (arith, behind, long)

pub logged_below : {set : ℕ} {ended : List ℕ} {all : Nodes} {p : Place} {x : Node} (n : Netted set ended all p x) →
    (id moment : ℕ) → Logs (n.net.nodes id).log moment → moment < length ended
logged_below n id moment logs =
    let less = logs_are_committed n.net (netted_sound n) id moment logs in
    let now = n.now in
    omega (arith, less, now)

-- What another node is compared with: the node of the net, for a set of this origin, where `now` transactions have
-- ended there in this order.
pub record Frame : Type 0 where
  pub set_id : ℕ
  pub order : ℕ → Option ℕ
  pub now : ℕ
  pub leader : Node

abbrev pub FitsNode : Frame → Node → NetNode → Type 0
FitsNode f o node = MatchesNode f.set_id f.order f.now f.leader o node

abbrev pub frame : ℕ → List ℕ → Node → Frame
frame set ended x = record { set_id = set; order = order_in ended; now = length ended; leader = x }

-- ---- the origin goes on

-- The origin has emitted more, and of what it has logged the rest is of transactions that had not ended.
pub record Grown (ended more : List ℕ) (x y : Node) : Type 0 where
  pub id : y.id ≡ x.id
  pub new : List Event
  pub all : stream y ≡ new ++ stream x
  pub logs : (l : Logged) → IsAmong l (logged y) → l.origin ≡ y.id →
      IsAmong l (logged x) ⊎ (order_in ended l.action.xid ≡ None)
  pub apart : AreApart (more ++ ended)

matches_later : (set : ℕ) {ended more : List ℕ} {x y : Node} (g : Grown ended more x y) (o : Node) (node : NetNode) →
    (node.progress ≤ length (read set (stream x))) × ((moment : ℕ) → Logs node.log moment → moment < length ended) →
    MatchesNode set (order_in ended) (length ended) x o node →
    MatchesNode set (order_in (more ++ ended)) (length (more ++ ended)) y o node
matches_later set {ended} {more} {x} {y} g o node below old = record {
  reached = old.reached ∙ ap (λ i. progress i (knowledge o)) (sym g.id);
  view = old.view ∙ ap (λ i. moment_of i (view_of set (knowledge o))) (sym g.id);
  kept = λ v found own.
      let k = old.kept v found (own ∙ g.id) in
      record {
        base = k.base;
        seen = taken_more more ended v.seen g.apart k.seen;
        began = taken_more more ended v.base g.apart k.began;
      };
  row = λ u is. old.row u (ap (row unfed o.id) (sym prefix) ∙ is);
  logs = λ l moment e logs.
      let was = order_old more ended l.action.xid moment e.ended (below.1 moment logs) in
      by l moment e logs was (g.logs l e.among e.own);
  whole = old.whole;
}
  where
    prefix : up_to node.progress (read set (stream y)) ≡ up_to node.progress (read set (stream x))
    prefix =
        ap (λ es. up_to node.progress (read set es)) g.all
        ∙ ap (up_to node.progress) (map-append (said set) g.new (stream x))
        ∙ up_to_behind (read set g.new) (read set (stream x)) node.progress below.0

    by : (l : Logged) (moment : ℕ) → IsEntry set (order_in (more ++ ended)) y l moment → Logs node.log moment →
        order_in ended l.action.xid ≡ Some moment → IsAmong l (logged x) ⊎ (order_in ended l.action.xid ≡ None) →
        IsAmong l (logged o)
    by l moment e logs was (inl among) =
        old.logs l moment (record { among = among; of = e.of; own = e.own ∙ g.id; ended = was }) logs
    by l moment e logs was (inr none) = let never : Some moment ≡ None = sym was ∙ none in absurd cc

-- What the net becomes as the origin goes on.
pub record NetLater {set : ℕ} {ended : List ℕ} {all : Nodes} {p : Place} {x : Node} (n : Netted set ended all p x)
    (more : List ℕ) (q : Place) (y : Node) : Type 0 where
  pub net : Net
  pub leads : Leads n.net net
  pub nodes : net.nodes ≡ n.net.nodes
  pub origin : MatchesOrigin set q y net
  pub now : net.now ≡ length (more ++ ended)
  pub events : AllByRecursion (λ e. IsTaken (order_in (more ++ ended)) (length (more ++ ended)) e.taken) (stream y)

pub origin_later : {set : ℕ} {ended : List ℕ} {all : Nodes} {p : Place} {x : Node} (n : Netted set ended all p x)
    (more : List ℕ) (q : Place) (y : Node) → Grown ended more x y → NetLater n more q y →
    Netted set (more ++ ended) all q y
origin_later {set} {ended} {all} {p} {x} n more q y g l = record {
  net = l.net;
  leads = subst (λ i. Leads (first_net i) l.net) (sym g.id) (leads_on (first_net x.id) n.net l.net n.leads l.leads);
  origin = l.origin;
  now = l.now;
  events = l.events;
  nodes = λ name o is other.
      subst (λ (f : ℕ → NetNode). MatchesNode set (order_in (more ++ ended)) (length (more ++ ended)) y o (f o.id))
      (sym l.nodes)
      (matches_later set g o (n.net.nodes o.id) (node_behind n o.id, logged_below n o.id)
      (n.nodes name o is (λ same. other (same ∙ sym g.id))));
  strangers = λ id none. ap (λ (f : ℕ → NetNode). f id) l.nodes ∙ n.strangers id none;
}

-- the origin is found as it is now
pub origin_placed : {set : ℕ} {ended : List ℕ} {all : Nodes} {p : Place} {y : Node} (n : Netted set ended all p y)
    (name : List ℕ) → ((x : Node) → all name ≡ Some x → x.id ≡ y.id) → Netted set ended (placed name (Some y) all) p y
origin_placed {set} {ended} {all} {p} {y} n name was = record {
  net = n.net;
  leads = n.leads;
  origin = n.origin;
  now = n.now;
  events = n.events;
  nodes = λ k o is other. by k o other (bytes_eq k name) is;
  strangers = λ id none. n.strangers id (λ k o is same. stays id none k o is same (bytes_eq k name) refl);
}
  where
    by : (k : List ℕ) (o : Node) → o.id ≢ y.id → (b : Bool) → cond b (Some y) (all k) ≡ Some o →
        MatchesNode set (order_in ended) (length ended) y o (n.net.nodes o.id)
    by k o other true is = absurd (other (ap (λ (m : Node). m.id) (sym (one_found y o is))))
    by k o other false is = n.nodes k o is other

    stays : (id : ℕ) → ((k : List ℕ) (o : Node) → placed name (Some y) all k ≡ Some o → o.id ≢ id) →
        (k : List ℕ) (o : Node) → all k ≡ Some o → o.id ≡ id → (b : Bool) → bytes_eq k name ≡ b → ⊥
    stays id none k o is same true at =
        none k y (ap (λ b. cond b (Some y) (all k)) at)
        (sym (was o (ap all (sym (bytes_same k name at)) ∙ is)) ∙ same)
    stays id none k o is same false at = none k o (ap (λ b. cond b (Some y) (all k)) at ∙ is) same

-- ---- another node goes on

-- What the nodes of the net become as another node goes on, and what that one makes of the stream then.
pub record NodeLater {set : ℕ} {ended : List ℕ} {all : Nodes} {p : Place} {x : Node} (n : Netted set ended all p x)
    (name : List ℕ) (o : Node) : Type 0 where
  pub nodes : ℕ → NetNode
  pub leads : Leads n.net (record n.net { nodes = nodes })
  -- the others are as they were, and so is the origin
  pub leader : nodes x.id ≡ n.net.nodes x.id
  pub rest : (k : List ℕ) (m : Node) → all k ≡ Some m → bytes_eq k name ≡ false → nodes m.id ≡ n.net.nodes m.id
  pub others : (id : ℕ) → id ≢ o.id → nodes id ≡ n.net.nodes id
  pub is : o.id ≢ x.id → MatchesNode set (order_in ended) (length ended) x o (nodes o.id)

pub node_later : {set : ℕ} {ended : List ℕ} {all : Nodes} {p : Place} {x : Node} (n : Netted set ended all p x)
    (name : List ℕ) (o : Node) → ((m : Node) → all name ≡ Some m → m.id ≡ o.id) → NodeLater n name o →
    Netted set ended (placed name (Some o) all) p x
node_later {set} {ended} {all} {p} {x} n name o was l = record {
  net = record n.net { nodes = l.nodes };
  leads = leads_on (first_net x.id) n.net (record n.net { nodes = l.nodes }) n.leads l.leads;
  origin = record {
    origin = n.origin.origin;
    start = n.origin.start;
    stream = n.origin.stream;
    now = n.origin.now;
    full = n.origin.full;
    rows = n.origin.rows;
    bars = λ id barred. n.origin.bars id (ap (λ (d : NetNode). member id d.barred) (sym l.leader) ∙ barred);
  };
  now = n.now;
  events = n.events;
  nodes = λ k m is other. by k m other (bytes_eq k name) refl is;
  strangers = λ id none.
      l.others id (λ same. none name o (ap (λ b. cond b (Some o) (all name)) (bytes_itself name)) (sym same))
      ∙ n.strangers id (λ k m is same. stays id none k m is same (bytes_eq k name) refl);
}
  where
    by : (k : List ℕ) (m : Node) → m.id ≢ x.id → (b : Bool) → bytes_eq k name ≡ b → cond b (Some o) (all k) ≡ Some m →
        MatchesNode set (order_in ended) (length ended) x m (l.nodes m.id)
    by k m other true at is =
        subst (λ (i : Node). MatchesNode set (order_in ended) (length ended) x i (l.nodes i.id)) (one_found o m is)
        (l.is (λ same. other (ap (λ (i : Node). i.id) (sym (one_found o m is)) ∙ same)))
    by k m other false at is =
        subst (MatchesNode set (order_in ended) (length ended) x m) (sym (l.rest k m is at)) (n.nodes k m is other)

    stays : (id : ℕ) → ((k : List ℕ) (m : Node) → placed name (Some o) all k ≡ Some m → m.id ≢ id) →
        (k : List ℕ) (m : Node) → all k ≡ Some m → m.id ≡ id → (b : Bool) → bytes_eq k name ≡ b → ⊥
    stays id none k m is same true at =
        none k o (ap (λ b. cond b (Some o) (all k)) at)
        (sym (was m (ap all (sym (bytes_same k name at)) ∙ is)) ∙ same)
    stays id none k m is same false at = none k m (ap (λ b. cond b (Some o) (all k)) at ∙ is) same

-- where the net stays as it is
abbrev pub still : {set : ℕ} {ended : List ℕ} {all : Nodes} {p : Place} {x : Node} (n : Netted set ended all p x)
    (name : List ℕ) (o : Node) →
    (o.id ≢ x.id → MatchesNode set (order_in ended) (length ended) x o (n.net.nodes o.id)) → NodeLater n name o
still n name o is =
    record {
      nodes = n.net.nodes;
      leads = Here;
      leader = refl;
      rest = λ k m there other. refl;
      others = λ id other. refl;
      is = is;
    }
