-- Each set of each node of a session has a net, which goes on with every command.
use Rattle.std.proofs.Common.{◌≡◌, ◌≢◌, ◌⊎◌, inl, inr, ℕ, true, false, List, [], ◌∷◌, length}
use Rattle.std.proofs.Common.{Some, None, refl, sym, ap, subst, ◌∙◌}
use Rattle.std.specs.List.{AllByRecursion}
use Rattle.std.specs.Str.{bytes_eq}
use Rattle.std.proofs.lemmas.Bool.{cases_eq, true≢false}
use Rattle.net_laws.specs.Subscriptions.{Subscription as Row, row}
use Rattle.net_laws.specs.Net.{Here as HereNet, member}
use Rattle.net_laws.proofs.Prefixes.{up_to_whole}
use Rattle.slon_model.specs.Names.{find_named}
use Rattle.slon_model.specs.Events.{Event}
use Rattle.slon_model.specs.Deeds.{Hears as HearsOf, Logged, Node, knowledge, stream, with_deeds}
use Rattle.slon_model.specs.Logs.{logged}
use Rattle.slon_model.specs.Membership.{first_of_cluster}
use Rattle.slon_model.specs.Place.{Place, deed, taken}
use Rattle.slon_model.specs.Reaching.{commit_of}
use Rattle.slon_model.specs.Sessions.{Commit, committing}
use Rattle.slon_model.proofs.Names.{bytes_itself, one_found}
use Rattle.stream_laws.specs.Nodes.{IsAmong, Nodes, nodes_in, node_in}
use Rattle.stream_laws.specs.Making.{is_emitted}
use Rattle.stream_laws.proofs.Growing.{placed}
use Rattle.stream_laws.proofs.Lists.{all_among}
use Rattle.stream_laws.proofs.Seats.{seat_node}
use Rattle.stream_laws.proofs.Statements.{has_stored}
use Rattle.image_laws.specs.Moments.{IsTaken, count_of}
use Rattle.image_laws.proofs.Orders.{order_in}
use Rattle.image_laws.proofs.Ticking.{ClockAt}
use Rattle.view_laws.specs.Past.{Moment, Past, WasUpTo}
use Rattle.view_laws.proofs.Doing.{Hears, Takes}
use Rattle.view_laws.proofs.Moments.{regular_now, sound_now}
use Rattle.view_laws.proofs.Owned.{brought_own}
use Rattle.view_laws.proofs.Saying.{may_emitted}
use Rattle.net_relation.specs.Reading.{read, unfed}
use Rattle.net_relation.specs.Matching.{HasDropped, HasRow, MatchesNode}
use Rattle.net_relation.proofs.Telling.{coming_later}
use Rattle.net_relation.proofs.Beginning.{new_net}
use Rattle.net_relation.proofs.Behind.{begun_node, heard_node, taken_node, told_logs, told_node}
use Rattle.net_relation.proofs.Beside.{Work, beside_matches, other_row, row_stored}
use Rattle.net_relation.proofs.Dropped.{dropped_stays}
use Rattle.net_relation.proofs.Earlier.{IsOwn, WasThen, then_still}
use Rattle.net_relation.proofs.Emitting.{next_number, told_matches, told_net}
use Rattle.net_relation.proofs.Feeding.{left_feed}
use Rattle.net_relation.proofs.Going.{NetAt, among_either}
use Rattle.net_relation.proofs.Leading.{Known, feeds_at, one_storer}
use Rattle.net_relation.proofs.Links.{Begins, CanLeave, HearsSome, Linked, TakesOne, Telling, Tells}
use Rattle.net_relation.proofs.Relating.{Netted, NodeLater, Origin, frame, node_later, nodes_of, nodes_with}
use Rattle.net_relation.proofs.Relating.{origin_later, origin_placed, still}
use Rattle.net_relation.proofs.Rows.{row_beside}
use Rattle.net_relation.proofs.Stepping.{Here, IsPut, Looks, There, is_put}
use Rattle.net_relation.proofs.Stepping.{look, with_look}
use Rattle.net_relation.proofs.Views.{behind}
use Rattle.net_relation.proofs.Relaying.{ready_of}

-- ---- the origin commits

-- with the same transactions ended
retaken : {set : ℕ} {ended : List ℕ} {all : Nodes} {p q : Place} {y : Node} → Netted set ended all p y →
    count_of (taken q) ≡ count_of (taken p) → Netted set ended all q y
retaken n same = record {
  net = n.net;
  leads = n.leads;
  origin = record {
    origin = n.origin.origin;
    start = n.origin.start;
    stream = n.origin.stream;
    now = n.origin.now ∙ sym same;
    full = n.origin.full;
    rows = n.origin.rows;
    bars = n.origin.bars;
  };
  now = n.now;
  events = n.events;
  nodes = n.nodes;
  strangers = n.strangers;
}

-- A commit of the database of an origin, and what its node is then.
record Leading (set : ℕ) (ended : List ℕ) (t : Past) (c : Commit) (p : Place) : Type 0 where
  found : find_named c.name t.world.places ≡ Some p
  clock : ClockAt p ended
  netted : (x : Node) → p.node ≡ Some x → Netted set ended (nodes_in t.world.places) p x

-- the origin takes in what is not of its own stream
leader_stays : {set : ℕ} {ended : List ℕ} {all : Nodes} {p : Place} {x : Node} (n : Netted set ended all p x)
    (q : Place) (y : Node) → ClockAt p ended → (y.id ≡ x.id) × (stream y ≡ stream x) ×
    (count_of (taken q) ≡ count_of (taken p)) →
    ((l : Logged) → IsAmong l (logged y) → l.origin ≡ y.id → IsAmong l (logged x)) →
    ((r : ℕ) (u : Row) → HasRow set r u (knowledge x).config → row unfed r (read set (stream x)) ≡ Some u →
    HasRow set r u (knowledge y).config) →
    ((id : ℕ) → HasDropped id (knowledge x).config → HasDropped id (knowledge y).config) → Netted set ended all q y
leader_stays {set} {ended} {all} {p} {x} n q y clock same logs rows drops =
    origin_later n [] q y (record {
      id = same.0;
      new = [];
      all = same.1;
      logs = λ l among own. inl (logs l among own);
      apart = clock.apart;
    }) (record {
      net = n.net;
      leads = HereNet;
      nodes = refl;
      origin = record {
        origin = n.origin.origin ∙ sym same.0;
        start = n.origin.start;
        stream = n.origin.stream ∙ ap (read set) (sym same.1);
        now = n.origin.now ∙ sym same.2;
        full = n.origin.full;
        rows = λ r u has.
            rows r u (n.origin.rows r u has)
            (sym (ap (λ s. row s r n.net.stream) n.origin.start ∙ ap (row unfed r) n.origin.stream) ∙ has);
        bars = λ id barred.
            drops id (n.origin.bars id (sym (ap (λ i. member id (n.net.nodes i).barred) same.0) ∙ barred));
      };
      now = n.now;
      events = subst (AllByRecursion (λ e. IsTaken (order_in ended) (length ended) e.taken))
          (sym same.1) n.events;
    })

told_leader : (set : ℕ) (ended : List ℕ) (t : Past) (c : Commit) (p : Place) → Leading set ended t c p →
    (d : Telling t.world c p) →
    Netted set ended (nodes_in t.world.places) (committing c p)
    (with_deeds (commit_of d.seat d.emits).deeds d.seat.node)
told_leader set ended t c p l d =
    retaken (told_net d.seat d.emits d.may (ready_of t d.seat d.is) (next_number t d.seat d.is)
    (sound_now t d.seat.name d.seat.place d.is.found) (subst (λ q. ClockAt q ended) (sym d.at) l.clock)
    (subst (λ q. Netted set ended (nodes_in t.world.places) q d.seat.node) (sym d.at)
    (l.netted d.seat.node (ap (λ (q : Place). q.node) (sym d.at) ∙ d.is.node))))
    (ap (λ q. count_of (taken q)) (sym d.at))

-- what a node has of its own behind an event of another one it had before
taken_own : (t : Past) {c : Commit} {p : Place} (d : Takes t c p) (l : Logged) →
    IsAmong l (logged (behind d.carried)) → l.origin ≡ d.carried.seat.node.id → IsAmong l (logged d.carried.seat.node)
taken_own t d l among own = by (among_either l d.carried.brought.logs (logged d.carried.seat.node) among)
  where
    by : IsAmong l d.carried.brought.logs ⊎ IsAmong l (logged d.carried.seat.node) →
        IsAmong l (logged d.carried.seat.node)
    by (inl new) =
        absurd (d.is.work.other (sym (all_among (λ (l : Logged). l.origin ≡ d.carried.event.origin) l
        d.carried.brought.logs
        (brought_own t d.carried.seat d.carried.event d.carried.brought d.is.brings) new) ∙ own))
    by (inr old) = old

taken_leader : (set : ℕ) (ended : List ℕ) (t : Past) (c : Commit) (p : Place) → Leading set ended t c p →
    (d : Takes t c p) →
    Netted set ended (nodes_in t.world.places) (committing c p) (behind d.carried)
taken_leader set ended t c p l d =
    leader_stays (l.netted x (ap (λ (q : Place). q.node) (sym d.at) ∙ d.is.work.seat.node)) (committing c p)
    (behind d.carried) l.clock (refl, refl, refl) (taken_own t d)
    (λ r u has stands. row_beside set r e (knowledge x).config u emitted
    (other_row t d.carried d.is known d.is.work.other set r
    (row_stored t known set r (length (read set (stream x))) u
    (ap (row unfed r) (up_to_whole (read set (stream x))) ∙ stands))) has)
    (λ id was. dropped_stays id (e.origin, e.number) e.body (knowledge x).config emitted was)
  where
    x : Node
    x = d.carried.seat.node

    e : Event
    e = d.carried.event

    emitted : is_emitted e.body ≡ true
    emitted = may_emitted e.origin e.body (knowledge x).config d.is.work.may

    known : Known t
    known =
        record { name = d.carried.seat.name; node = x; is = seat_node t.world.places d.carried.seat d.is.work.seat }

heard_leader : (set : ℕ) (ended : List ℕ) (t : Past) (c : Commit) (p : Place) → Leading set ended t c p →
    (d : Hears t.world c p) → Netted set ended (nodes_in t.world.places) (committing c p)
    (with_deeds (deed d.seat.place [] [] (HearsOf d.confirms) ∷ []) d.seat.node)
heard_leader set ended t c p l d =
    leader_stays (l.netted d.seat.node (ap (λ (q : Place). q.node) (sym d.at) ∙ d.is.node)) (committing c p)
    (with_deeds (deed d.seat.place [] [] (HearsOf d.confirms) ∷ []) d.seat.node) l.clock (refl, refl, refl)
    (λ l among own. among) (λ r u has stands. has) (λ id was. was)

-- ---- another node commits

-- A database with its net, and a commit of another one.
record Following (set : ℕ) (t : Past) (c : Commit) (p : Place) : Type 0 where
  name : List ℕ
  place : Place
  found : find_named name t.world.places ≡ Some place
  leader : Node
  at : place.node ≡ Some leader
  ended : List ℕ
  clock : ClockAt place ended
  netted : Netted set ended (nodes_in t.world.places) place leader
  then : (m : Moment (WasUpTo t)) → m.name ≡ name → WasThen set ended place.node m.session m.place m.node
  there : find_named c.name t.world.places ≡ Some p
  apart : bytes_eq name c.name ≡ false

-- the node that commits is another one
follower_other : (set : ℕ) (t : Past) (c : Commit) (p : Place) (f : Following set t c p) (o : Node) →
    p.node ≡ Some o → o.id ≢ f.leader.id
follower_other set t c p f o is same =
    true≢false (sym (ap (bytes_eq f.name) (sym ((regular_now t).nodes.apart f.name c.name f.leader o
    (ap node_in f.found ∙ f.at) (ap node_in f.there ∙ is) (sym same))) ∙ bytes_itself f.name) ∙ f.apart)

-- what it makes of the stream
follower_matches : (set : ℕ) (t : Past) (c : Commit) (p : Place) (f : Following set t c p) (o : Node) →
    p.node ≡ Some o →
    MatchesNode set (order_in f.ended) (length f.ended) f.leader o (f.netted.net.nodes o.id)
follower_matches set t c p f o is =
    f.netted.nodes c.name o (ap node_in f.there ∙ is) (follower_other set t c p f o is)

told_follower : (set : ℕ) (t : Past) (c : Commit) (p : Place) (f : Following set t c p) (d : Telling t.world c p) →
    NodeLater f.netted c.name (with_deeds (commit_of d.seat d.emits).deeds d.seat.node)
told_follower set t c p f d =
    still f.netted c.name (with_deeds (commit_of d.seat d.emits).deeds d.seat.node)
    (λ apart. told_matches (frame set f.ended f.leader) d.seat d.emits
    (f.netted.net.nodes d.seat.node.id) d.may (
      leave,
      λ can rowed. follower_other set t c p f d.seat.node is
          (one_storer t teller (record { name = f.name; node = f.leader; is = ap node_in f.found ∙ f.at }) set (
            has_stored (nodes_in t.world.places) (regular_now t).nodes d.seat.name d.seat.node teller.is set can.leads,
            row_stored t (record { name = f.name; node = f.leader; is = ap node_in f.found ∙ f.at }) set d.seat.node.id
                (f.netted.net.nodes d.seat.node.id).progress rowed.0 rowed.1,
          )),
    ) apart (follower_matches set t c p f d.seat.node is))
  where
    is : p.node ≡ Some d.seat.node
    is = ap (λ (q : Place). q.node) (sym d.at) ∙ d.is.node

    teller : Known t
    teller =
        record { name = d.seat.name; node = d.seat.node; is = seat_node t.world.places d.seat d.is }

    leave : (id receiver : ℕ) → CanLeave d.seat.node id receiver → receiver ≢ d.seat.node.id
    leave id receiver can =
        (left_feed t d.seat d.is (feeds_at t d.seat.name d.seat.node teller.is) id receiver can).2

taken_follower : (set : ℕ) (t : Past) (c : Commit) (p : Place) (f : Following set t c p) (d : Takes t c p) →
    NodeLater f.netted d.carried.seat.name (behind d.carried)
taken_follower set t c p f d = elim (cases_eq d.carried.event.origin f.leader.id) [
  | inl own ↦ coming_later set t (record { work = work; own = own })
  | inr other ↦ still f.netted d.carried.seat.name (behind d.carried) (λ apart. beside_matches work other)
]
  where
    work : Work set t
    work = record {
      name = f.name;
      place = f.place;
      found = f.found;
      leader = f.leader;
      at = f.at;
      ended = f.ended;
      clock = f.clock;
      netted = f.netted;
      carried = d.carried;
      origin = d.origin;
      is = d.is;
      other = follower_other set t c p f d.carried.seat.node
          (ap (λ (q : Place). q.node) (sym d.at) ∙ d.is.work.seat.node);
      then = f.then;
    }

heard_follower : (set : ℕ) (t : Past) (c : Commit) (p : Place) (f : Following set t c p) (d : Hears t.world c p) →
    NodeLater f.netted c.name (with_deeds (deed d.seat.place [] [] (HearsOf d.confirms) ∷ []) d.seat.node)
heard_follower set t c p f d =
    still f.netted c.name (with_deeds (deed d.seat.place [] [] (HearsOf d.confirms) ∷ []) d.seat.node)
    (λ apart. let old = follower_matches set t c p f d.seat.node (ap (λ (q : Place). q.node) (sym d.at) ∙ d.is.node) in
    record {
      reached = old.reached;
      view = old.view;
      kept = old.kept;
      row = old.row;
      logs = old.logs;
      whole = old.whole;
    })

-- ---- one commit

does_leader : {set : ℕ} {ended : List ℕ} (t : Past) (c : Commit) (p : Place) → Leading set ended t c p →
    Linked t c p → (y : Node) → (committing c p).node ≡ Some y →
    Netted set ended (placed c.name (Some y) (nodes_in t.world.places)) (committing c p) y
does_leader {set} {ended} t c p l does y is = by does
  where
    q : Place
    q = committing c p

    all : Nodes
    all = nodes_in t.world.places

    -- the node of the database was one of this id
    finish : (m : Node) → q.node ≡ Some m → ((x : Node) → p.node ≡ Some x → x.id ≡ m.id) →
        Netted set ended all q m → Netted set ended (placed c.name (Some y) all) q y
    finish m at was n =
        subst (λ (i : Node). Netted set ended (placed c.name (Some i) all) q i) (one_found m y (sym at ∙ is))
        (origin_placed n c.name (λ x there. was x (sym (ap node_in l.found) ∙ there)))

    one : (o : Node) → p.node ≡ Some o → (x : Node) → p.node ≡ Some x → x.id ≡ o.id
    one o at x there = ap (λ (m : Node). m.id) (one_found x o (sym there ∙ at))

    by : Linked t c p → Netted set ended (placed c.name (Some y) all) q y
    by (Tells d) =
        finish _ (told_node d) (one d.seat.node (ap (λ (r : Place). r.node) (sym d.at) ∙ d.is.node))
        (told_leader set ended t c p l d)
    by (TakesOne d) =
        finish _ (taken_node d)
        (one d.carried.seat.node (ap (λ (r : Place). r.node) (sym d.at) ∙ d.is.work.seat.node))
        (taken_leader set ended t c p l d)
    by (HearsSome d) =
        finish _ (heard_node d) (one d.seat.node (ap (λ (r : Place). r.node) (sym d.at) ∙ d.is.node))
        (heard_leader set ended t c p l d)
    by (Begins d) =
        finish (first_of_cluster d.id d.comment d.run) (begun_node d)
        (λ x there. no_node x (sym (d.alone c.name) ∙ ap node_in l.found ∙ there))
        (new_net set ended all q (first_of_cluster d.id d.comment d.run) refl l.clock
        (λ name o there other. no_node o (sym (d.alone name) ∙ there)))
      where
        no_node : {X : Type 0} (x : Node) → None ≡ Some x → X
        no_node x never = absurd cc

does_follower : (set : ℕ) (t : Past) (c : Commit) (p : Place) (f : Following set t c p) → Linked t c p →
    Netted set f.ended (placed c.name (committing c p).node (nodes_in t.world.places)) f.place f.leader
does_follower set t c p f does = by does
  where
    all : Nodes
    all = nodes_in t.world.places

    finish : (o m : Node) → p.node ≡ Some o → ((committing c p).node ≡ Some m) × (o.id ≡ m.id) →
        NodeLater f.netted c.name m → Netted set f.ended (placed c.name (committing c p).node all) f.place f.leader
    finish o m at is later =
        subst (λ k. Netted set f.ended (placed c.name k all) f.place f.leader) (sym is.0)
        (node_later f.netted c.name m
        (λ i there. ap (λ (j : Node). j.id) (one_found i o (sym there ∙ ap node_in f.there ∙ at)) ∙ is.1) later)

    by : Linked t c p → Netted set f.ended (placed c.name (committing c p).node all) f.place f.leader
    by (Tells d) =
        finish d.seat.node _ (ap (λ (r : Place). r.node) (sym d.at) ∙ d.is.node) (told_node d, refl)
        (told_follower set t c p f d)
    by (TakesOne d) =
        finish d.carried.seat.node _ (ap (λ (r : Place). r.node) (sym d.at) ∙ d.is.work.seat.node) (taken_node d, refl)
        (subst (λ name. NodeLater f.netted name (behind d.carried)) (sym (ap (λ (k : Commit). k.name) d.commit))
        (taken_follower set t c p f d))
    by (HearsSome d) =
        finish d.seat.node _ (ap (λ (r : Place). r.node) (sym d.at) ∙ d.is.node) (heard_node d, refl)
        (heard_follower set t c p f d)
    by (Begins d) =
        let never : None ≡ Some f.leader = sym (d.alone f.name) ∙ ap node_in f.found ∙ f.at in absurd cc

-- what the node of the database has logged of its own it had logged before
own_stays : (t : Past) (c : Commit) (p : Place) → find_named c.name t.world.places ≡ Some p → Linked t c p →
    (l : Logged) → IsOwn (committing c p).node l → IsOwn p.node l
own_stays t c p found does l (y, is, among, own) = by does
  where
    -- the node that it is behind the commit
    behind_is : (m : Node) → (committing c p).node ≡ Some m → IsAmong l (logged m) × (l.origin ≡ m.id)
    behind_is m at =
        subst (λ (i : Node). IsAmong l (logged i) × (l.origin ≡ i.id)) (one_found y m (sym is ∙ at)) (among, own)

    by : Linked t c p → IsOwn p.node l
    by (Tells d) =
        let of = behind_is _ (told_node d) in (
          d.seat.node,
          ap (λ (r : Place). r.node) (sym d.at) ∙ d.is.node,
          subst (IsAmong l) (told_logs d.seat d.emits d.may) of.0,
          of.1,
        )
    by (TakesOne d) =
        let of = behind_is _ (taken_node d) in (
          d.carried.seat.node,
          ap (λ (r : Place). r.node) (sym d.at) ∙ d.is.work.seat.node,
          taken_own t d l of.0 of.1,
          of.1,
        )
    by (HearsSome d) =
        let of = behind_is _ (heard_node d) in
        (d.seat.node, ap (λ (r : Place). r.node) (sym d.at) ∙ d.is.node, of.0, of.1)
    by (Begins d) = absurd (behind_is _ (begun_node d)).0

pub does_net : (set : ℕ) (a : List ℕ) (t : Past) (c : Commit) (p : Place) → find_named c.name t.world.places ≡ Some p →
    Linked t c p → NetAt set (WasUpTo t) a (look t.world) →
    NetAt set (WasUpTo t) a (with_look c.name (committing c p) (look t.world))
does_net set a t c p found does was r there = by (is_put c.name q f a r there)
  where
    q : Place
    q = committing c p

    f : Looks
    f = look t.world

    here : Origin set (WasUpTo t) a (nodes_of f) p → Origin set (WasUpTo t) a (nodes_of (with_look c.name q f)) q
    here o = record {
      ended = o.ended;
      clock = record { each = o.clock.each; count = o.clock.count; apart = o.clock.apart };
      is = λ y is.
          subst (λ all. Netted set o.ended all q y)
          (sym (nodes_with c.name q f ∙ ap (λ k. placed c.name k (nodes_of f)) is))
          (does_leader t c p (record { found = found; clock = o.clock; netted = o.is }) does y is);
      then = λ m same. then_still o.ended (own_stays t c p found does) (o.then m same);
    }

    by : IsPut c.name q f a r → Origin set (WasUpTo t) a (nodes_of (with_look c.name q f)) r
    by (Here at same) =
        subst (Origin set (WasUpTo t) a (nodes_of (with_look c.name q f))) (sym same) (here (was p (ap f at ∙ found)))
    by (There differs at) =
        let o = was r at in
        record {
          ended = o.ended;
          clock = o.clock;
          is = λ x is.
              subst (λ all. Netted set o.ended all r x) (sym (nodes_with c.name q f))
              (does_follower set t c p (record {
                name = a;
                place = r;
                found = at;
                leader = x;
                at = is;
                ended = o.ended;
                clock = o.clock;
                netted = o.is x is;
                then = o.then;
                there = found;
                apart = differs;
              }) does);
          then = o.then;
        }
