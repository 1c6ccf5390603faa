-- A database goes on by itself, and each net goes on with it: transactions end, and a node logs what it committed.
use Rattle.std.proofs.Common.{◌≡◌, ◌⊎◌, inl, inr, ℕ, Bool, true, false, List, [], ◌∷◌, ◌++◌, length, Option}
use Rattle.std.proofs.Common.{Some, None, refl, sym, ap, subst, ◌∙◌, arith, not}
use Rattle.std.specs.Prelude.{◌==◌, ◌&&◌, nat_lt, option_map}
use Rattle.std.specs.List.{AllByRecursion}
use Rattle.std.proofs.lemmas.Bool.{eqb-true}
use Rattle.std.proofs.lemmas.List.{length-append}
use Rattle.net_laws.specs.Subscriptions.{row, up_to}
use Rattle.net_laws.specs.Net.{Net, Node as NetNode, member as is_barred}
use Rattle.slon_model.specs.Rows.{Action, member}
use Rattle.slon_model.specs.Deeds.{Knowledge, Logged, Node, knowledge, progress, stream, view_of}
use Rattle.slon_model.specs.Logs.{logged, own_logs}
use Rattle.slon_model.specs.Moves.{with_commit}
use Rattle.slon_model.specs.Place.{Place, open_xids, own_actions}
use Rattle.slon_model.specs.Sessions.{World}
use Rattle.slon_model.proofs.Names.{all_map, one_found}
use Rattle.stream_laws.specs.Nodes.{IsAmong, Nodes, node_in}
use Rattle.stream_laws.proofs.Growing.{placed}
use Rattle.stream_laws.proofs.Lists.{all_among, among_all}
use Rattle.image_laws.specs.Moments.{IsTaken}
use Rattle.image_laws.proofs.Logging.{among_right, filtered_among}
use Rattle.image_laws.proofs.Orders.{order_in}
use Rattle.image_laws.proofs.Ticking.{ClockAt, TickedAt}
use Rattle.slon_laws.proofs.Spells.{own_logs_have}
use Rattle.net_relation.specs.Matching.{HasDropped, HasRow, IsWhole, MatchesNode}
use Rattle.net_relation.specs.Reading.{moment_of, read, unfed}
use Rattle.net_relation.proofs.Earlier.{IsOwn, LogsOn, then_later}
use Rattle.net_relation.proofs.Moments.{count_is, none_ended, taken_more}
use Rattle.net_relation.proofs.Nets.{Ticked, ticks}
use Rattle.net_relation.proofs.Places.{NodeWent, Went}
use Rattle.net_relation.proofs.Relating.{FitsNode, Frame, frame, Netted, Origin, node_later, nodes_of}
use Rattle.net_relation.proofs.Relating.{nodes_same, nodes_with, origin_later, origin_placed, still}
use Rattle.net_relation.proofs.Stepping.{Here, IsPut, Looks, There, is_put, with_look}

-- ---- what a commit logs

pub among_either : {X : Type 0} (x : X) (xs ys : List X) → IsAmong x (xs ++ ys) → IsAmong x xs ⊎ IsAmong x ys
among_either x [] ys among = inr among
among_either x (y ∷ xs) ys (inl is) = inl (inl is)
among_either x (y ∷ xs) ys (inr later) = by (among_either x xs ys later)
  where
    by : IsAmong x xs ⊎ IsAmong x ys → IsAmong x (y ∷ xs) ⊎ IsAmong x ys
    by (inl first) = inl (inr first)
    by (inr second) = inr second

own_logged : (own : ℕ) (p : Place) (n : Node) (xid : ℕ) (l : Logged) →
    IsAmong l (own_logs own (knowledge n) (own_actions xid p)) → l.action.xid ≡ xid
own_logged own p n xid l among =
    let there = all_among (λ (l : Logged). IsAmong l.action (own_actions xid p)) l
    (own_logs own (knowledge n) (own_actions xid p))
    (own_logs_have (λ a. IsAmong a (own_actions xid p)) own (knowledge n) (own_actions xid p)
    (among_all (λ a. IsAmong a (own_actions xid p)) (own_actions xid p) (λ a is. is))) among in
    eqb-true l.action.xid xid (filtered_among (λ (a : Action). a.xid == xid) l.action p.actions there).1

-- a transaction that is open has not ended
open_unended : (p : Place) (ended : List ℕ) → ClockAt p ended → (xid : ℕ) → member xid (open_xids p) ≡ true →
    order_in ended xid ≡ None
open_unended p ended c xid runs =
    none_ended ended xid (c.each xid ∙ ap (λ b. nat_lt xid p.xids.next && not b) runs ∙ by (nat_lt xid p.xids.next))
  where
    by : (b : Bool) → (b && false) ≡ false
    by true = refl
    by false = refl

-- ---- the origin

-- What the node of a database is as it goes on: what it emitted and knows stays.
pub record NodeOn (p : Place) (x y : Node) : Type 0 where
  pub id : y.id ≡ x.id
  pub emitted : stream y ≡ stream x
  pub known : knowledge y ≡ knowledge x
  pub logs : (l : Logged) → IsAmong l (logged y) → IsAmong l (logged x) ⊎ (member l.action.xid (open_xids p) ≡ true)
  pub kept : (l : Logged) → IsAmong l (logged x) → IsAmong l (logged y)

node_same : (p : Place) (x : Node) → NodeOn p x x
node_same p x =
    record { id = refl; emitted = refl; known = refl; logs = λ l among. inl among; kept = λ l among. among }

node_logs : (p : Place) (x : Node) (xid : ℕ) → member xid (open_xids p) ≡ true → NodeOn p x (with_commit xid p x)
node_logs p x xid runs = record {
  id = refl;
  emitted = refl;
  known = refl;
  logs = λ l among. by l (among_either l (own_logs x.id (knowledge x) (own_actions xid p)) (logged x) among);
  kept = λ l among. among_right l (own_logs x.id (knowledge x) (own_actions xid p)) (logged x) among;
}
  where
    by : (l : Logged) → IsAmong l (own_logs x.id (knowledge x) (own_actions xid p)) ⊎ IsAmong l (logged x) →
        IsAmong l (logged x) ⊎ (member l.action.xid (open_xids p) ≡ true)
    by l (inl new) = inr (ap (λ i. member i (open_xids p)) (own_logged x.id p x xid l new) ∙ runs)
    by l (inr old) = inl old

-- the node behind, and what it was
pub node_on : (p q : Place) → NodeWent p q.node → (y : Node) → q.node ≡ Some y →
    (x : Node) × (p.node ≡ Some x) × NodeOn p x y
node_on p q (inl same) y is = (y, sym same ∙ is, node_same p y)
node_on p q (inr (xid, log, runs)) y is = by p.node refl (sym log ∙ is)
  where
    by : (o : Option Node) → p.node ≡ o → option_map (with_commit xid p) o ≡ Some y →
        (x : Node) × (p.node ≡ Some x) × NodeOn p x y
    by None at none = absurd cc
    by (Some x) at some =
        (x, at, subst (NodeOn p x) (one_found (with_commit xid p x) y some) (node_logs p x xid runs))

-- what it has logged of its own
went_logs : (p q : Place) {ended : List ℕ} → ClockAt p ended → NodeWent p q.node → LogsOn ended p.node q.node
went_logs p q {ended} c went l (y, is, among, own) = by (on.2.logs l among)
  where
    on : (x : Node) × (p.node ≡ Some x) × NodeOn p x y
    on = node_on p q went y is

    by : IsAmong l (logged on.0) ⊎ (member l.action.xid (open_xids p) ≡ true) →
        IsOwn p.node l ⊎ (order_in ended l.action.xid ≡ None)
    by (inl old) = inl (on.0, on.1, old, own ∙ on.2.id)
    by (inr runs) = inr (open_unended p ended c l.action.xid runs)

origin_went : {set : ℕ} {ended : List ℕ} {all : Nodes} {p : Place} {x : Node} (n : Netted set ended all p x)
    (q : Place) (y : Node) → ClockAt p ended → NodeOn p x y → (k : TickedAt q ended) →
    Netted set (k.more ++ ended) all q y
origin_went {set} {ended} {all} {p} {x} n q y c on k =
    origin_later n k.more q y (record {
      id = on.id;
      new = [];
      all = on.emitted;
      logs = λ l among own. by l (on.logs l among);
      apart = k.clock.apart;
    }) (record {
      net = later.0;
      leads = t.leads;
      nodes = t.nodes;
      origin = record {
        origin = t.origin ∙ n.origin.origin ∙ sym on.id;
        start = t.start ∙ n.origin.start;
        stream = t.stream ∙ n.origin.stream ∙ ap (read set) (sym on.emitted);
        now = now ∙ sym (count_is q (k.more ++ ended) k.clock);
        full = t.full;
        rows = λ r u is.
            subst (λ (j : Knowledge).
            HasRow set r u j.config) (sym on.known)
            (n.origin.rows r u
            (sym (ap (λ s. row s r later.0.stream) t.start ∙ ap (row n.net.start r) t.stream) ∙ is));
        bars = λ id barred.
            subst (λ (j : Knowledge). HasDropped id j.config) (sym on.known)
            (n.origin.bars id (sym (ap (λ (f : ℕ → NetNode). is_barred id (f y.id).barred) t.nodes
            ∙ ap (λ i. is_barred id (n.net.nodes i).barred) on.id) ∙ barred));
      };
      now = now;
      events =
          subst (AllByRecursion (λ e. IsTaken (order_in (k.more ++ ended)) (length (k.more ++ ended)) e.taken))
          (sym on.emitted)
          (all_map (λ e. IsTaken (order_in ended) (length ended) e.taken)
          (λ e. IsTaken (order_in (k.more ++ ended)) (length (k.more ++ ended)) e.taken)
          (λ e is. taken_more k.more ended e.taken k.clock.apart is) (stream x) n.events);
    })
  where
    later : (v : Net) × Ticked (length k.more) n.net v
    later = ticks (length k.more) n.net n.origin.full

    t : Ticked (length k.more) n.net later.0
    t = later.1

    now : later.0.now ≡ length (k.more ++ ended)
    now =
        let first = t.now in
        let before = n.now in
        let long = length-append k.more ended in
        omega (arith, first, before, long)

    by : (l : Logged) → IsAmong l (logged x) ⊎ (member l.action.xid (open_xids p) ≡ true) →
        IsAmong l (logged x) ⊎ (order_in ended l.action.xid ≡ None)
    by l (inl old) = inl old
    by l (inr runs) = inr (open_unended p ended c l.action.xid runs)

-- ---- another node

on_matches : (f : Frame) {p : Place} {o m : Node} (on : NodeOn p o m) (node : NetNode) → FitsNode f o node →
    FitsNode f m node
on_matches f {o = o} {m} on node old = record {
  reached = old.reached ∙ ap (λ (j : Knowledge). progress f.leader.id j) (sym on.known);
  view = old.view ∙ ap (λ (j : Knowledge). moment_of f.leader.id (view_of f.set_id j)) (sym on.known);
  kept = λ v found own. old.kept v (ap (view_of f.set_id) (sym on.known) ∙ found) own;
  row = λ u is.
      subst (λ (j : Knowledge). HasRow f.set_id m.id u j.config) (sym on.known)
      (subst (λ i. HasRow f.set_id i u (knowledge o).config) (sym on.id)
      (old.row u (ap (λ i. row unfed i (up_to node.progress (read f.set_id (stream f.leader)))) (sym on.id) ∙ is)));
  logs = λ l moment e logs. on.kept l (old.logs l moment e logs);
  whole = subst (λ (j : Knowledge). IsWhole j.config node) (sym on.known) old.whole;
}

-- ---- every database

-- each database of a session under this name has its order, and its net
abbrev pub NetAt : ℕ → (World → Type 0) → List ℕ → Looks → Type 0
NetAt set Was a f = (p : Place) → f a ≡ Some p → Origin set Was a (nodes_of f) p

some_node : (p : Place) (x : Node) (f : Looks) (name : List ℕ) → f name ≡ Some p → p.node ≡ Some x →
    nodes_of f name ≡ Some x
some_node p x f name found is = ap node_in found ∙ is

-- a database under a name went on by itself
pub went_net : (set : ℕ) {Was : World → Type 0} (a : List ℕ) (f : Looks) (name : List ℕ) {p : Place} (q : Place) →
    f name ≡ Some p → Went p q → NetAt set Was a f → NetAt set Was a (with_look name q f)
went_net set {Was} a f name {p} q found went was r there = by (is_put name q f a r there)
  where
    here : Origin set Was a (nodes_of f) p → Origin set Was a (nodes_of (with_look name q f)) q
    here o = record {
      ended = ticked.more ++ o.ended;
      clock = ticked.clock;
      is = λ y is.
          let on = node_on p q went.node y is in
          subst (λ all. Netted set (ticked.more ++ o.ended) all q y)
          (sym (nodes_with name q f ∙ ap (λ k. placed name k (nodes_of f)) is))
          (origin_placed (origin_went (o.is on.0 on.1) q y o.clock on.2 ticked) name
          (λ x at. ap (λ (m : Node). m.id) (one_found x on.0 (sym at ∙ some_node p on.0 f name found on.1))
          ∙ sym on.2.id));
      then = λ m same.
          then_later ticked.more o.ended ticked.clock.apart (went_logs p q o.clock went.node) (o.then m same);
    }
      where
        ticked : TickedAt q o.ended
        ticked = went.ticks o.ended o.clock

    other : (r : Place) (x : Node) (ended : List ℕ) → Netted set ended (nodes_of f) r x → (k : Option Node) →
        q.node ≡ k → Netted set ended (nodes_of (with_look name q f)) r x
    other r x ended n None none =
        subst (λ all. Netted set ended all r x)
        (sym (nodes_same name q f (none ∙ sym (ap node_in found ∙ was_none went.node)))) n
      where
        was_none : NodeWent p q.node → p.node ≡ None
        was_none (inl same) = sym same ∙ none
        was_none (inr log) = no_map p.node (sym log.1 ∙ none)
          where
            no_map : (o : Option Node) → option_map (with_commit log.0 p) o ≡ None → o ≡ None
            no_map None is = refl
            no_map (Some m) is = absurd cc
    other r x ended n (Some m) is =
        let on = node_on p q went.node m is in
        subst (λ all. Netted set ended all r x) (sym (nodes_with name q f ∙ ap (λ k. placed name k (nodes_of f)) is))
        (node_later n name m
        (λ i at. ap (λ (j : Node). j.id) (one_found i on.0 (sym at ∙ some_node p on.0 f name found on.1))
        ∙ sym on.2.id)
        (still n name m (λ apart. subst (λ i. MatchesNode set (order_in ended) (length ended) x m (n.net.nodes i))
        (sym on.2.id) (on_matches (frame set ended x) on.2 (n.net.nodes on.0.id)
        (n.nodes name on.0 (some_node p on.0 f name found on.1) (λ same. apart (on.2.id ∙ same)))))))

    by : IsPut name q f a r → Origin set Was a (nodes_of (with_look name q f)) r
    by (Here at same) =
        subst (Origin set Was a (nodes_of (with_look name q f))) (sym same) (here (was p (ap f at ∙ found)))
    by (There differs at) =
        let o = was r at in
        record {
          ended = o.ended;
          clock = o.clock;
          is = λ x is. other r x o.ended (o.is x is) q.node refl;
          then = o.then;
        }
