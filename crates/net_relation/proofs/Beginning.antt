-- A database becomes a node: its own nets begin, and in all others it passes by what has been emitted so far.
use Rattle.std.proofs.Common.{◌≡◌, ◌≢◌, ℕ, ◌≤◌, Bool, true, false, cond, List, [], length, Option, Some, None, refl}
use Rattle.std.proofs.Common.{sym, ap, subst, ◌∙◌, arith}
use Rattle.std.specs.Prelude.{◌==◌}
use Rattle.std.specs.List.{AllByRecursion}
use Rattle.std.proofs.lemmas.Bool.{eq-eqb, eqb-true, false≢true}
use Rattle.node_rows.specs.declared.body.Body.{Body}
use Rattle.node_rows.specs.declared.body.Body.TheVariants.{DropSet, SubscribeSet, EnableSubscription, UnsubscribeSet}
use Rattle.net_laws.specs.Subscriptions.{DropSet as Ends}
use Rattle.net_laws.specs.Updates.{set_at}
use Rattle.net_laws.specs.Subscriptions.{Subscribe, Enable, Unsubscribe, Unrelated, row, up_to}
use Rattle.net_laws.specs.Net.{Leads, Net, Node as NetNode, member}
use Rattle.net_laws.proofs.Updates.{set_here, set_other}
use Rattle.slon_model.specs.Snapshots.{Snapshot}
use Rattle.slon_model.specs.Deeds.{Node, knowledge, progress, stream, view_of}
use Rattle.slon_model.specs.Place.{Place}
use Rattle.slon_model.specs.Sessions.{next_event}
use Rattle.slon_model.specs.Views.{View}
use Rattle.stream_laws.specs.Nodes.{IsKnown, Nodes, nodes_in, node_in}
use Rattle.stream_laws.proofs.Commits.{free_id}
use Rattle.stream_laws.proofs.Joins.{IsFree, none_emitted}
use Rattle.stream_laws.proofs.Lists.{all_mapped, number_beside}
use Rattle.image_laws.specs.Moments.{IsTaken, count_of}
use Rattle.image_laws.proofs.Orders.{order_in}
use Rattle.image_laws.proofs.Ticking.{ClockAt}
use Rattle.view_laws.specs.Past.{Past}
use Rattle.view_laws.proofs.Viewed.{seen_now}
use Rattle.view_laws.proofs.Moments.{now_stays, regular_now}
use Rattle.net_relation.specs.Reading.{first_net, fresh, moment_of, read, said, said_by, unfed}
use Rattle.net_relation.specs.Matching.{MatchesNode}
use Rattle.net_relation.proofs.Feeding.{IsFeed}
use Rattle.net_relation.proofs.Leading.{feeds_at}
use Rattle.net_relation.proofs.Links.{Join, giver, joined}
use Rattle.net_relation.proofs.Moments.{count_is}
use Rattle.net_relation.proofs.Nets.{Passed, Spares, Ticked, all_up_to, at_fresh, passes, spared_none, ticks}
use Rattle.net_relation.proofs.Relating.{Netted, NodeLater}

-- ---- a net that begins

pub fresh_matches : (set : ℕ) (order : ℕ → Option ℕ) (now : ℕ) (y o : Node) → stream y ≡ [] →
    (progress y.id (knowledge o) ≡ 0) × (moment_of y.id (view_of set (knowledge o)) ≡ None) →
    MatchesNode set order now y o fresh
fresh_matches set order now y o none is = record {
  reached = sym is.0;
  view = sym is.1;
  kept = λ v found own.
      let some : moment_of y.id (view_of set (knowledge o)) ≡ Some (count_of v.seen) =
      ap (moment_of y.id) found
      ∙ ap (λ b. cond b (Some (count_of v.seen)) None) (eq-eqb v.origin y.id own) in
      let never : None ≡ Some (count_of v.seen) = sym is.1 ∙ some in absurd cc;
  row = λ u has.
      let never : row unfed o.id [] ≡ Some u = sym (ap (λ es. row unfed o.id (up_to 0 (read set es))) none) ∙ has in
      absurd cc;
  logs = λ l moment e never. absurd never;
  whole = record { keeps = refl; bars = λ id never. absurd (false≢true never); has = refl };
}

-- all other nodes have applied nothing of it
pub new_net : (set : ℕ) (ended : List ℕ) (all : Nodes) (q : Place) (y : Node) → stream y ≡ [] → ClockAt q ended →
    ((name : List ℕ) (o : Node) → all name ≡ Some o → o.id ≢ y.id →
    (progress y.id (knowledge o) ≡ 0) × (moment_of y.id (view_of set (knowledge o)) ≡ None)) →
    Netted set ended all q y
new_net set ended all q y none clock others = record {
  net = later.0;
  leads = t.leads;
  origin = record {
    origin = t.origin;
    start = t.start;
    stream = t.stream ∙ ap (read set) (sym none);
    now = now ∙ sym (count_is q ended clock);
    full = t.full;
    rows = λ r u is.
        let never : row unfed r [] ≡ Some u =
        sym (ap (λ s. row s r later.0.stream) t.start ∙ ap (row unfed r) t.stream) ∙ is in
        absurd cc;
    bars = λ id barred.
        absurd (false≢true (sym (ap (λ (f : ℕ → NetNode). member id (f y.id).barred) t.nodes) ∙ barred));
  };
  now = now;
  events = subst (AllByRecursion (λ e. IsTaken (order_in ended) (length ended) e.taken)) (sym none) tt;
  nodes = λ name o is other.
      subst (λ (f : ℕ → NetNode). MatchesNode set (order_in ended) (length ended) y o (f o.id)) (sym t.nodes)
      (fresh_matches set (order_in ended) (length ended) y o none (others name o is other));
  strangers = λ id free. ap (λ (f : ℕ → NetNode). f id) t.nodes;
}
  where
    later : (v : Net) × Ticked (length ended) (first_net y.id) v
    later = ticks (length ended) (first_net y.id) (λ on. refl)

    t : Ticked (length ended) (first_net y.id) later.0
    t = later.1

    now : later.0.now ≡ length ended
    now = let now = t.now in omega (arith, now)

-- ---- a node that joins

-- the id of the new node is that of no other
pub join_free : (t : Past) (j : Join t.world) → IsFree j.new.id (nodes_in t.world.places)
join_free t j = free_id t.world.places j.new (regular_now t).nodes

-- nobody knows anything of its stream
pub joined_none : (t : Past) (j : Join t.world) (set : ℕ) (name : List ℕ) (o : Node) →
    nodes_in t.world.places name ≡ Some o →
    (progress j.new.id (knowledge o) ≡ 0) × (moment_of j.new.id (view_of set (knowledge o)) ≡ None)
joined_none t j set name o is = (
  none_emitted j.new.id (nodes_in t.world.places) (knowledge o).config (knowledge o).progress (join_free t j)
      ((regular_now t).nodes.each name o is).marked.emitted,
  by (view_of set (knowledge o)) refl,
)
  where
    at : (v : View) → view_of set (knowledge o) ≡ Some v → (b : Bool) → (v.origin == j.new.id) ≡ b →
        cond b (Some (count_of v.seen)) None ≡ None
    at v found true own =
        let seen = seen_now t name o is set v found in
        let now = now_stays t seen.moment.session seen.moment.was seen.moment.name seen.moment.place seen.moment.node
        seen.moment.found seen.moment.at in
        absurd (join_free t j seen.moment.name now.2.node (ap node_in now.1 ∙ now.2.is)
        (now.2.id ∙ seen.own ∙ eqb-true v.origin j.new.id own))
    at v found false other = refl

    by : (k : Option View) → view_of set (knowledge o) ≡ k → moment_of j.new.id k ≡ None
    by None none = refl
    by (Some v) found = at v found (v.origin == j.new.id) refl

-- nor does the node that stores it
pub giver_other : (t : Past) (j : Join t.world) → j.seat.node.id ≢ j.new.id
giver_other t j same =
    join_free t j j.seat.name j.seat.node (ap node_in j.is.found ∙ j.is.node) same

pub giver_none : (t : Past) (j : Join t.world) (set : ℕ) →
    (progress j.new.id (knowledge (giver j)) ≡ 0) × (moment_of j.new.id (view_of set (knowledge (giver j))) ≡ None)
giver_none t j set =
    let before = joined_none t j set j.seat.name j.seat.node (ap node_in j.is.found ∙ j.is.node) in (
      number_beside j.new.id j.seat.node.id (next_event j.seat)
          (knowledge j.seat.node).progress (λ same. giver_other t j (sym same)) ∙ before.0,
      before.1,
    )

-- no event so far is of a subscription of it
feed_spares : (set r : ℕ) (x : Node) (k : Snapshot) (body : Body) →
    IsFeed x.id (stream x) (knowledge x).config body → (IsKnown r (knowledge x).config → ⊥) →
    Spares r (said_by set k body)
feed_spares set r x k (SubscribeSet id provider receiver forward) is none = by (id == set)
  where
    by : (b : Bool) → Spares r (cond b (Subscribe receiver provider forward) Unrelated)
    by true = λ same. none (subst (λ i. IsKnown i (knowledge x).config) same is.1)
    by false = tt
feed_spares set r x k (EnableSubscription id provider receiver forward era) is none = by (id == set)
  where
    by : (b : Bool) → Spares r (cond b (Enable receiver) Unrelated)
    by true = λ same. none (subst (λ i. IsKnown i (knowledge x).config) same is.0.1)
    by false = tt
feed_spares set r x k (UnsubscribeSet id receiver) is none = by (id == set)
  where
    by : (b : Bool) → Spares r (cond b (Unsubscribe receiver) Unrelated)
    by true = λ same. none (subst (λ i. IsKnown i (knowledge x).config) same is.1)
    by false = tt
feed_spares set r x k (DropSet id) is none =
    elim (id == set) as (λ b. Spares r (cond b Ends Unrelated)) [ true ↦ tt | false ↦ tt ]
feed_spares set r x k others is none = tt

pub joined_spared : (t : Past) (j : Join t.world) (set : ℕ) (name : List ℕ) (x : Node) →
    nodes_in t.world.places name ≡ Some x → AllByRecursion (Spares j.new.id) (read set (stream x))
joined_spared t j set name x is =
    all_mapped (λ e. IsFeed x.id (stream x) (knowledge x).config e.body) (Spares j.new.id) (said set)
    (λ e feed. feed_spares set j.new.id x e.taken e.body feed
    (λ known. false≢true (sym (j.new.unknown name x is) ∙ known))) (stream x) (feeds_at t name x is).feeds

-- The net of another node, which has emitted so much.
pub record Joining (set : ℕ) (ended : List ℕ) (t : Past) (j : Join t.world) (all : Nodes) (p : Place) (x : Node) :
    Type 0 where
  pub netted : Netted set ended all p x
  pub free : (name : List ℕ) (o : Node) → all name ≡ Some o → o.id ≢ j.new.id
  pub other : x.id ≢ j.new.id
  pub far : progress x.id (knowledge (giver j)) ≤ length (read set (stream x))
  pub spares : AllByRecursion (Spares j.new.id) (read set (stream x))

pub joined_later : {set : ℕ} {ended : List ℕ} {t : Past} {j : Join t.world} {all : Nodes} {p : Place} {x : Node}
    (k : Joining set ended t j all p x) → NodeLater k.netted j.new.name (joined j)
joined_later {set} {ended} {t} {j} {all} {p} {x} k = record {
  nodes = set_at j.new.id (at_fresh far) n.nodes;
  leads = subst (Leads n) passed.1.is passed.1.leads;
  leader = set_other j.new.id (at_fresh far) n.nodes x.id k.other;
  rest = λ name m is other. set_other j.new.id (at_fresh far) n.nodes m.id (k.free name m is);
  others = λ id other. set_other j.new.id (at_fresh far) n.nodes id other;
  is = λ apart.
      subst (MatchesNode set (order_in ended) (length ended) x (joined j))
      (sym (set_here j.new.id (at_fresh far) n.nodes j.new.id refl)) (record {
        reached = refl;
        view = refl;
        kept = λ v found own. absurd cc;
        row = λ u has.
            let never : None ≡ Some u =
            sym (spared_none j.new.id (up_to far (read set (stream x)))
            (all_up_to (Spares j.new.id) far (read set (stream x)) k.spares)) ∙ has in
            absurd cc;
        logs = λ l moment e never. absurd never;
        whole = record { keeps = refl; bars = λ id never. absurd (false≢true never); has = refl };
      });
}
  where
    n : Net
    n = k.netted.net

    far : ℕ
    far = progress x.id (knowledge (giver j))

    passed : (v : Net) × Passed j.new.id far n v
    passed =
        passes j.new.id far n (k.netted.strangers j.new.id k.free)
        (let most = k.far in let long = ap length k.netted.origin.stream in omega (arith, most, long))
        (subst (AllByRecursion (Spares j.new.id)) (sym k.netted.origin.stream) k.spares)
