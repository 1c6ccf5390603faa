-- A node applies an event of the stream of a net: the node of the net does too.
use Rattle.std.proofs.Common.{◌≡◌, ◌≢◌, ◌⊎◌, inl, inr, ℕ, ◌≤◌, Bool, true, false, cond, List, ◌∷◌, not, suc}
use Rattle.std.proofs.Common.{length, Option, Some, None, refl, sym, ap, subst, ◌∙◌, arith, unwrap_or}
use Rattle.std.specs.Prelude.{◌+◌, ◌==◌, max, option_map, ◌&&◌}
use Rattle.std.specs.Str.{bytes_eq}
use Rattle.std.proofs.lemmas.Bool.{eqb-true, eq-eqb, true≢false, le-ltb, lt-ltb, cases_eq, cases_lt}
use Rattle.node_rows.specs.declared.rows.Subscription.{Subscription}
use Rattle.node_rows.specs.declared.body.Body.{Body}
use Rattle.node_rows.specs.declared.body.Body.TheVariants.{Sync, DropSet, SubscribeSet, EnableSubscription}
use Rattle.node_rows.specs.declared.body.Body.TheVariants.{UnsubscribeSet}
use Rattle.net_laws.specs.Subscriptions.{DropSet as Ends}
use Rattle.net_laws.specs.Updates.{set_at}
use Rattle.net_laws.specs.Subscriptions.{Event as Said, Subscribe, Enable, Unsubscribe, Unrelated}
use Rattle.net_laws.specs.Subscriptions.{Subscription as Row}
use Rattle.net_laws.specs.Subscriptions.{last_moment, row, up_to}
use Rattle.net_laws.specs.Net.{Applies as AppliesStep, Copies as CopiesTurn, Here, IsIn, IsStale, Logs, More}
use Rattle.net_laws.specs.Net.{Skips}
use Rattle.net_laws.specs.Net.{Net}
use Rattle.net_laws.specs.Net.{Node as NetNode, Passes, Syncs as SyncsTurn, Turn, configured, copied, heard, passed}
use Rattle.net_laws.specs.Net.{stretch}
use Rattle.net_laws.specs.Net.{synced}
use Rattle.net_laws.proofs.Laws.{view_has_row}
use Rattle.net_laws.proofs.Prefixes.{length_up_to}
use Rattle.net_laws.proofs.Updates.{set_here, set_other}
use Rattle.slon_model.specs.Maps.{number_at, with_entry, pair_at}
use Rattle.slon_model.specs.Snapshots.{Snapshot, covers, sees}
use Rattle.slon_model.specs.Events.{Event, is_sync}
use Rattle.slon_model.specs.Deeds.{Logged, Node, knowledge, stream, view_of, Knowledge, progress}
use Rattle.slon_model.specs.Logs.{logged}
use Rattle.slon_model.specs.Sessions.{Seat}
use Rattle.slon_model.specs.Views.{View, later_of, view_after}
use Rattle.slon_model.specs.Working.{Copying, ToCopy, errand_in, receives_from, ToFollow}
use Rattle.slon_model.proofs.Names.{bytes_itself, one_found}
use Rattle.stream_laws.specs.Nodes.{IsAmong, nodes_in, IsEvent}
use Rattle.stream_laws.proofs.Lists.{all_among, number_here}
use Rattle.image_laws.specs.Moments.{IsOrder, IsTaken, count_of, is_ended}
use Rattle.image_laws.proofs.Logging.{among_left, among_right}
use Rattle.image_laws.proofs.Orders.{order_in, order_is}
use Rattle.image_laws.proofs.Ticking.{counts_tell}
use Rattle.view_laws.specs.Past.{Past}
use Rattle.view_laws.proofs.Brought.{IsCopied, IsSynced, same_id, copied_view}
use Rattle.view_laws.proofs.Emitted.{emitted_in}
use Rattle.view_laws.proofs.Moments.{covers_passes, passes_covers, regular_now}
use Rattle.view_laws.proofs.Reaching.{own_covered}
use Rattle.view_laws.proofs.Saying.{may_emitted}
use Rattle.view_laws.proofs.Unmoved.{since, view_then}
use Rattle.net_relation.specs.Reading.{moment_of, read, said, said_by, unfed, plain}
use Rattle.net_relation.specs.Matching.{IsEntry, IsKept, IsWhole, MatchesNode, HasRow}
use Rattle.net_relation.proofs.Beside.{Before, worker, worker_at, worker_before}
use Rattle.net_relation.proofs.Coming.{IsLeader, source_leads}
use Rattle.net_relation.proofs.Readied.{IsReady, ready_before, ready_or_not}
use Rattle.net_relation.proofs.Coming.{Coming, FindingOf, Source, comes, configured_is, event_among, event_of}
use Rattle.net_relation.proofs.Coming.{heard_bounded, heard_of, is_at, node_of, reached_is, row_then, source_then}
use Rattle.net_relation.proofs.Dropped.{whole_stays}
use Rattle.net_relation.proofs.Entries.{Forwarding, entry_logged}
use Rattle.net_relation.proofs.Leading.{IsAsked, copy_comes}
use Rattle.net_relation.proofs.Relating.{FitsNode, NodeLater, frame, netted_sound, node_behind}
use Rattle.net_relation.proofs.Rows.{row_changed}
use Rattle.net_relation.proofs.Views.{behind}
use Rattle.net_relation.proofs.Coming.{copy_ordered, origin_then}
use Rattle.net_relation.proofs.Giving.{gives_the_same}
use Rattle.net_relation.specs.Laws.{Keeper}
use Rattle.slon_model.specs.Following.{SetSync, set_sync}
use Rattle.stream_laws.proofs.Copies.{IsTakenOf}
use Rattle.stream_laws.proofs.Seats.{seat_node}
use Rattle.stream_laws.proofs.Streams.{number_within}
use Rattle.std.proofs.lemmas.List.{length-map, map-append}

-- ---- the later one of two snapshots

pub later_max : (order : ℕ → Option ℕ) (now : ℕ) → IsOrder order now → (a b : Snapshot) → IsTaken order now a →
    IsTaken order now b → count_of (later_of a b) ≡ max (count_of a) (count_of b)
later_max order now is a b one two = by (covers a b) refl
  where
    by : (c : Bool) → covers a b ≡ c → count_of (cond c a b) ≡ max (count_of a) (count_of b)
    by true passes =
        let less = (counts_tell order now is a b one two).0 (passes_covers a b passes) in omega (arith, less)
    by false fails = elim (cases_lt (count_of a) (count_of b)) [
      | inl less ↦ omega (arith, less)
      | inr most ↦
          absurd (true≢false (sym (covers_passes a b ((counts_tell order now is a b one two).1 most)) ∙ fails))
    ]

later_taken : (order : ℕ → Option ℕ) (now : ℕ) (a b : Snapshot) → IsTaken order now a → IsTaken order now b →
    IsTaken order now (later_of a b)
later_taken order now a b one two = by (covers a b)
  where
    by : (c : Bool) → IsTaken order now (cond c a b)
    by true = one
    by false = two

-- ---- what the node becomes

-- The node of the net behind its turn: one event further, with what the node makes of the view, the base and the log.
pub record Turned (set : ℕ) (t : Past) (c : Coming set t) : Type 0 where
  pub node : NetNode
  pub turn : Turn c.work.netted.net (worker c.work).id (said set (event_of c)) node
  pub far : node.progress ≡ (node_of c).progress + 1
  pub view : node.view ≡ moment_of c.work.leader.id (view_of set (knowledge (behind c.work.carried)))
  pub kept : (v : View) → view_of set (knowledge (behind c.work.carried)) ≡ Some v → v.origin ≡ c.work.leader.id →
      IsKept (order_in c.work.ended) (length c.work.ended) v node
  pub logs : (l : Logged) (moment : ℕ) →
      IsEntry set (order_in c.work.ended) c.work.leader l moment → Logs node.log moment →
      IsAmong l (logged (behind c.work.carried))
  pub whole : IsWhole (knowledge (worker c.work)).config node

turned_matches : (set : ℕ) (t : Past) (c : Coming set t) (k : Turned set t c) →
    MatchesNode set (order_in c.work.ended) (length c.work.ended) c.work.leader (behind c.work.carried) k.node
turned_matches set t c k = record {
  reached =
      k.far
      ∙ (let at = reached_is set t c in
      let there : number_at c.work.leader.id (with_entry e.origin e.number (knowledge o).progress) ≡ e.number =
      subst (λ i. number_at i (with_entry e.origin e.number (knowledge o).progress) ≡ e.number) c.own
      (number_here e.origin e.number (knowledge o).progress) in
      omega (arith, at, there));
  view = k.view;
  kept = k.kept;
  row = λ u has.
      row_changed set o.id (heard_of c) e (knowledge o).config
      (may_emitted e.origin e.body (knowledge o).config c.work.is.work.may) number (worker_before c.work).row u
      (sym (ap (λ i. row unfed o.id (up_to i (read set (stream c.work.leader)))) k.far
      ∙ ap (row unfed o.id) (is_at set t c).next) ∙ has);
  logs = k.logs;
  whole =
      whole_stays e (knowledge o).config (may_emitted e.origin e.body (knowledge o).config c.work.is.work.may) k.whole;
}
  where
    o : Node
    o = worker c.work

    e : Event
    e = event_of c

    number : e.number ≡ length (heard_of c) + 1
    number =
        let at = reached_is set t c in
        let far = length_up_to (node_of c).progress (read set (stream c.work.leader))
        (node_behind c.work.netted o.id) in
        omega (arith, at, far)

pub turned_later : (set : ℕ) (t : Past) (c : Coming set t) → Turned set t c →
    NodeLater c.work.netted c.work.carried.seat.name (behind c.work.carried)
turned_later set t c k = record {
  nodes = set_at o.id k.node n.nodes;
  leads = More Here (AppliesStep o.id (record {
    event = said set (event_of c);
    node = k.node;
    comes = comes set t c;
    turn = k.turn;
  }) refl);
  leader = set_other o.id k.node n.nodes c.work.leader.id (λ same. c.work.other (sym same));
  rest = λ name m is other. set_other o.id k.node n.nodes m.id (λ same. apart name m is other same);
  others = λ id other. set_other o.id k.node n.nodes id other;
  is = λ apart. subst (FitsNode (frame set c.work.ended c.work.leader) (behind c.work.carried))
      (sym (set_here o.id k.node n.nodes o.id refl)) (turned_matches set t c k);
}
  where
    o : Node
    o = worker c.work

    n : Net
    n = c.work.netted.net

    apart : (name : List ℕ) (m : Node) → nodes_in t.world.places name ≡ Some m →
        bytes_eq name c.work.carried.seat.name ≡ false → m.id ≡ o.id → ⊥
    apart name m is other same =
        let one = (regular_now t).nodes.apart name c.work.carried.seat.name m o is (worker_at c.work) same in
        true≢false (sym (ap (bytes_eq name) (sym one) ∙ bytes_itself name) ∙ other)

-- ---- a SYNC that is followed

pub moment_own : (origin : ℕ) (v : View) → v.origin ≡ origin → moment_of origin (Some v) ≡ Some (count_of v.seen)
moment_own origin v own = ap (λ b. cond b (Some (count_of v.seen)) None) (eq-eqb v.origin origin own)

-- A SYNC of the origin of the set, and the view that the node keeps.
pub record Syncing (set : ℕ) (t : Past) (c : Coming set t) : Type 0 where
  pub synced : IsSynced t c.work.carried.seat (event_of c) c.work.carried.brought
  pub view : View
  pub found : view_of set (knowledge (worker c.work)) ≡ Some view
  pub own : view.origin ≡ (event_of c).origin
  pub now : view_of set (knowledge (behind c.work.carried)) ≡ Some (view_after (event_of c) view)

sync_taken : (set : ℕ) (t : Past) (c : Coming set t) →
    IsTaken (order_in c.work.ended) (length c.work.ended) (event_of c).taken
sync_taken set t c =
    all_among (λ e. IsTaken (order_in c.work.ended) (length c.work.ended) e.taken) (event_of c) (stream c.work.leader)
    c.work.netted.events (event_among set t c)

abbrev sync_source : {set : ℕ} {t : Past} (c : Coming set t) (s : Syncing set t c) → Source c s.synced.at
sync_source c s = origin_then c s.synced.at

-- The node has its subscription to the set as it finds what there is for the SYNC.
record Rowed {set : ℕ} {t : Past} (c : Coming set t) (s : Syncing set t c) (u : Row) : Type 0 where
  has : HasRow set s.synced.at.seat.node.id u (knowledge s.synced.at.seat.node).config
  found : view_of set (knowledge s.synced.at.seat.node) ≡ Some s.view

-- its provider gives what the origin would
sync_same : {set : ℕ} {t : Past} (c : Coming set t) (s : Syncing set t c) (u : Row) → Rowed c s u → (y : SetSync) →
    IsTakenOf s.synced.at.to.world s.synced.at.seat (event_of c) (set, s.view) y →
    y.rows ≡ (set_sync s.synced.at.seat.node.id (knowledge s.synced.at.seat.node) (event_of c)
    (logged (sync_source c s).seat.node) (set, s.view)).rows
sync_same {set} {t} c s u r y taken =
    ap (λ (z : SetSync). z.rows) taken.is
    ∙ ap (λ k. (set_sync then.node.id k e (logged p.node) (set, s.view)).rows) known
    ∙ gives_the_same set a.to (record {
      name = x.name;
      leader = x.node;
      at = x.is;
      keeper = keeper;
      event = e;
      own = sym x.own;
      giver_name = p.name;
      giver = p.node;
      there = there;
      serves = (source_then set t c a (sync_source c s)).has keeper e (record {
        name = p.name;
        node = p.node;
        is = there;
        row = plain u;
        has = r.has;
        own = sym (taken.reached.0.0.1
            ∙ ap (λ (k : Knowledge). provider_by (pair_at set then.node.id k.config.subscriptions)) known
            ∙ ap provider_by r.has);
        among = x.among;
        sync = ap is_sync s.synced.follows.body;
        next = a.work.next ∙ ap (λ i. suc (progress i (knowledge then.node))) (sym x.own);
        applied = subst (λ i. e.number ≤ progress i (knowledge p.node)) (sym x.own) taken.reached.1;
      });
    })
  where
    a : FindingOf c
    a = s.synced.at

    e : Event
    e = event_of c

    then : Seat
    then = a.seat

    known : then.known ≡ knowledge then.node
    known = a.work.seat.known

    x : IsEvent (nodes_in a.to.world.places) e
    x = a.work.event

    p : Seat
    p = taken.provider

    there : nodes_in a.to.world.places p.name ≡ Some p.node
    there = seat_node a.to.world.places p taken.reached.0.0.0

    provider_by : Option Subscription → ℕ
    provider_by o = unwrap_or (option_map (λ (u : Subscription). u.provider) o) e.origin

    keeper : Keeper a.to.world set x.node
    keeper = record {
      name = then.name;
      node = then.node;
      is = seat_node a.to.world.places then a.work.seat;
      view = s.view;
      keeps = r.found;
      own = s.own ∙ sym x.own;
    }

-- what is new in the log of the origin between the two snapshots is logged
sync_logs : {set : ℕ} {t : Past} (c : Coming set t) (s : Syncing set t c) (u : Row) → Rowed c s u × (u.forward ≡ true) →
    (l : Logged) (moment : ℕ) →
    IsEntry set (order_in c.work.ended) c.work.leader l moment →
    IsIn moment (stretch (count_of s.view.seen) (count_of (event_of c).taken)) →
    IsAmong l (logged (behind c.work.carried))
sync_logs {set} {t} c s u r l moment e inside =
    among_left l c.work.carried.brought.logs (logged (worker c.work))
    (entry_logged t c.work.carried set f l (record {
      among = (source_then set t c s.synced.at (sync_source c s)).logs c.work.leader c.work.at l e.among (
        e.own,
        own_covered a.to (sync_source c s).seat (sync_source c s).is (event_of c)
            (emitted_in a.to (event_of c) a.work.event) (sym (sync_source c s).own) l.action.xid seen,
      );
      of = e.of;
      seen = seen;
      unseen = kept.seen.sees l.action.xid ∙ ap (λ o. is_ended o (count_of s.view.seen)) e.ended
          ∙ le-ltb moment (count_of s.view.seen) inside.from;
    }))
  where
    a : FindingOf c
    a = s.synced.at

    f : Forwarding t c.work.carried set
    f = record {
      origin = c.work.origin;
      is = c.work.is;
      synced = s.synced;
      view = s.view;
      found = r.0.found;
      own = s.own;
      forwards = ap (λ o. unwrap_or (option_map (λ (s : Subscription). s.forward) o) false) r.0.has ∙ r.1;
      source = (sync_source c s).seat;
      there = (sync_source c s).is;
      led = (sync_source c s).own;
      same = sync_same c s u r.0;
    }

    kept : IsKept (order_in c.work.ended) (length c.work.ended) s.view (node_of c)
    kept = (worker_before c.work).kept s.view s.found (s.own ∙ c.own)

    seen : sees (event_of c).taken l.action.xid ≡ true
    seen =
        (sync_taken set t c).sees l.action.xid ∙ ap (λ o. is_ended o (count_of (event_of c).taken)) e.ended
        ∙ lt-ltb moment (count_of (event_of c).taken) inside.to

pub sync_turned : (set : ℕ) (t : Past) (c : Coming set t) → Syncing set t c → Turned set t c
sync_turned set t c s = record {
  node = synced m v u.0.forward (node_of c);
  turn = SyncsTurn m v u.0 (ap (said_by set (event_of c).taken) s.synced.follows.body) viewed u.1.0 refl;
  far = refl;
  view = sym (ap (moment_of c.work.leader.id) s.now
      ∙ moment_own c.work.leader.id (view_after (event_of c) s.view) (s.own ∙ c.own)
      ∙ ap Some (later_max (order_in c.work.ended) (length c.work.ended) order s.view.seen (event_of c).taken kept.seen
      (sync_taken set t c)));
  kept = λ w found own.
      subst (λ (w : View). IsKept (order_in c.work.ended) (length c.work.ended) w (synced m v u.0.forward (node_of c)))
      (one_found (view_after (event_of c) s.view) w (sym s.now ∙ found)) (record {
        base = kept.base;
        seen = later_taken (order_in c.work.ended) (length c.work.ended) s.view.seen (event_of c).taken kept.seen
            (sync_taken set t c);
        began = kept.began;
      });
  logs = λ l moment e. by u.0.forward refl l moment e;
  whole = record { keeps = old.whole.keeps; bars = old.whole.bars; has = old.whole.has };
}
  where
    old : Before c.work
    old = worker_before c.work

    kept : IsKept (order_in c.work.ended) (length c.work.ended) s.view (node_of c)
    kept = old.kept s.view s.found (s.own ∙ c.own)

    order : IsOrder (order_in c.work.ended) (length c.work.ended)
    order = order_is c.work.ended c.work.clock.apart

    m : ℕ
    m = count_of (event_of c).taken

    v : ℕ
    v = count_of s.view.seen

    viewed : (node_of c).view ≡ Some v
    viewed = old.view ∙ ap (moment_of c.work.leader.id) s.found ∙ moment_own c.work.leader.id s.view (s.own ∙ c.own)

    u : (u : Row) × ((configured c.work.netted.net (worker c.work).id (worker c.work).id ≡ Some u) × (u.ready ≡ true))
    u = view_has_row c.work.netted.net (netted_sound c.work.netted) (worker c.work).id v viewed

    rowed : Rowed c s u.0
    rowed = record {
      has = row_then set t c s.synced.at (sync_source c s) u.0
          (sym (configured_is set t c (worker c.work).id) ∙ u.1.0);
      found = view_then t (since c.work.origin c.work.carried c.work.is s.synced.at) set s.view s.found s.own;
    }

    before : (l : Logged) (moment : ℕ) →
        IsEntry set (order_in c.work.ended) c.work.leader l moment → Logs (node_of c).log moment →
        IsAmong l (logged (behind c.work.carried))
    before l moment e logs =
        among_right l c.work.carried.brought.logs (logged (worker c.work)) (old.logs l moment e logs)

    by : (b : Bool) → u.0.forward ≡ b → (l : Logged) (moment : ℕ) →
        IsEntry set (order_in c.work.ended) c.work.leader l moment →
        Logs (cond b (stretch v m ∷ (node_of c).log) (node_of c).log) moment →
        IsAmong l (logged (behind c.work.carried))
    by true is l moment e (inl inside) = sync_logs c s u.0 (rowed, is) l moment e inside
    by true is l moment e (inr logs) = before l moment e logs
    by false is l moment e logs = before l moment e logs

-- ---- a copy

asked_body : (own : ℕ) (receives : Bool) (origin : ℕ) (body : Body) (k : Copying) →
    errand_in own receives origin body ≡ Some (ToCopy k) →
    (provider : ℕ) × (forward : Bool) × (era : ℕ) × (body ≡ EnableSubscription k.set_id provider own forward era)
asked_body own receives origin (EnableSubscription id provider receiver forward era) k asked =
    by (receiver == own) refl asked
  where
    first : Copying
    first = record { set_id = id; provider = provider; era = era }

    by : (b : Bool) → (receiver == own) ≡ b → cond b (Some (ToCopy first)) None ≡ Some (ToCopy k) →
        (p : ℕ) × (f : Bool) × (e : ℕ)
        × (EnableSubscription id provider receiver forward era ≡ EnableSubscription k.set_id p own f e)
    by true same is =
        let one : first ≡ k = cc in (
          provider,
          forward,
          era,
          ap (λ i. EnableSubscription i provider receiver forward era) (ap (λ (j : Copying). j.set_id) one)
              ∙ ap (λ r. EnableSubscription k.set_id provider r forward era) (eqb-true receiver own same),
        )
    by false other is = absurd cc
asked_body own receives origin Sync k asked = by (receives && not (origin == own)) asked
  where
    by : (b : Bool) → cond b (Some ToFollow) None ≡ Some (ToCopy k) →
        (p : ℕ) × (f : Bool) × (e : ℕ) × (Sync ≡ EnableSubscription k.set_id p own f e)
    by true is = absurd cc
    by false is = absurd cc
asked_body own receives origin others k asked = absurd cc

-- The set is copied.
pub record CopyMade (set : ℕ) (t : Past) (c : Coming set t) : Type 0 where
  pub made : IsCopied t c.work.carried.seat (event_of c) c.work.carried.brought
  pub same : made.copy.copying.set_id ≡ set
  pub now : view_of set (knowledge (behind c.work.carried)) ≡ Some (copied_view made.copy)

pub copy_turned : (set : ℕ) (t : Past) (c : Coming set t) → CopyMade set t c → Turned set t c
copy_turned set t c s = record {
  node = copied v (node_of c);
  turn = CopiesTurn v u.0 enables (configured_same ∙ u.1.0)
      (let most = heard_bounded set t c s.made in
      let same = ap (λ z. last_moment (up_to (node_of c).progress z)) c.work.netted.origin.stream in
      omega (arith, most, same))
      (let past = ordered.past in let now = c.work.netted.now in omega (arith, past, now)) refl;
  far = refl;
  view = sym (ap (moment_of c.work.leader.id) s.now ∙ moment_own c.work.leader.id first c.own);
  kept = λ w found own.
      subst (λ (w : View). IsKept (order_in c.work.ended) (length c.work.ended) w (copied v (node_of c)))
      (one_found first w (sym s.now ∙ found)) (record { base = refl; seen = ordered; began = ordered });
  logs = λ l moment e logs.
      among_right l c.work.carried.brought.logs (logged (worker c.work)) (old.logs l moment e logs);
  whole = record { keeps = old.whole.keeps; bars = old.whole.bars; has = old.whole.has };
}
  where
    old : Before c.work
    old = worker_before c.work

    n : Net
    n = c.work.netted.net

    o : Node
    o = worker c.work

    first : View
    first = copied_view s.made.copy

    ordered : IsTaken (order_in c.work.ended) (length c.work.ended) s.made.copy.seen
    ordered = copy_ordered set t c s.made

    v : ℕ
    v = count_of s.made.copy.seen

    enables : said set (event_of c) ≡ Enable o.id
    enables =
        let a : Seat = s.made.at.seat in
        let body = asked_body a.node.id (receives_from (event_of c).origin a.known) (event_of c).origin
        (event_of c).body s.made.copy.copying s.made.copy.asked in
        ap (said_by set (event_of c).taken) body.3
        ∙ ap (λ b. cond b (Enable a.node.id) Unrelated) (eq-eqb s.made.copy.copying.set_id set s.same)
        ∙ ap Enable (same_id t c.work.carried.seat (event_of c) s.made.at c.work.is.work.seat)

    configured_same : configured n o.id o.id ≡ row n.start o.id (heard n o.id)
    configured_same = refl

    u : (u : Row) × ((row n.start o.id (heard n o.id) ≡ Some u) × (u.ready ≡ false))
    u =
        let next = comes set t c in
        let more = next.more in
        (netted_sound c.work.netted).expected ((node_of c).progress + 1) (omega (arith, more)) o.id (heard n o.id)
        (next.next ∙ ap (λ e. e ∷ heard n o.id) enables)

-- ---- any other event

-- the event is of no subscription of the node itself to the set
abbrev pub IsOfOthers : ℕ → ℕ → Body → Type 0
IsOfOthers set own (SubscribeSet id provider receiver forward) = id ≡ set → receiver ≡ own → ⊥
IsOfOthers set own (UnsubscribeSet id receiver) = id ≡ set → receiver ≡ own → ⊥
IsOfOthers set own (DropSet id) = id ≡ set → ⊥
IsOfOthers set own others = Unit {0}

-- It says how the node itself receives the set, or that it is to give the set up, or that the set ends; or neither.
pub data Concerns (set own : ℕ) (body : Body) : Type 0 where
  TellsHow : (provider : ℕ) (forward : Bool) → body ≡ SubscribeSet set provider own forward → Concerns set own body
  TellsEnd : body ≡ UnsubscribeSet set own → Concerns set own body
  TellsDrop : body ≡ DropSet set → Concerns set own body
  TellsOthers : IsOfOthers set own body → Concerns set own body

pub concerned : (set own : ℕ) (body : Body) → Concerns set own body
concerned set own (SubscribeSet id provider receiver forward) = by (cases_eq id set) (cases_eq receiver own)
  where
    by : (id ≡ set) ⊎ (id ≢ set) → (receiver ≡ own) ⊎ (receiver ≢ own) →
        Concerns set own (SubscribeSet id provider receiver forward)
    by (inl same) (inl at) =
        TellsHow provider forward
        (ap (λ i. SubscribeSet i provider receiver forward) same ∙ ap (λ r. SubscribeSet set provider r forward) at)
    by (inr other) at = TellsOthers (λ same here. other same)
    by (inl same) (inr other) = TellsOthers (λ id here. other here)
concerned set own (UnsubscribeSet id receiver) = by (cases_eq id set) (cases_eq receiver own)
  where
    by : (id ≡ set) ⊎ (id ≢ set) → (receiver ≡ own) ⊎ (receiver ≢ own) → Concerns set own (UnsubscribeSet id receiver)
    by (inl same) (inl at) = TellsEnd (ap (λ i. UnsubscribeSet i receiver) same ∙ ap (λ r. UnsubscribeSet set r) at)
    by (inr other) at = TellsOthers (λ same here. other same)
    by (inl same) (inr other) = TellsOthers (λ id here. other here)
concerned set own (DropSet id) = elim (cases_eq id set) [
  | inl same ↦ TellsDrop (ap DropSet same)
  | inr other ↦ TellsOthers other
]
concerned set own others = TellsOthers tt

-- The view stays, as no SYNC was followed and no set was copied.
pub record Passing (set : ℕ) (t : Past) (c : Coming set t) : Type 0 where
  pub same : view_of set (knowledge (behind c.work.carried)) ≡ view_of set (knowledge (worker c.work))
  pub sync : (v : View) → view_of set (knowledge (worker c.work)) ≡ Some v → is_sync (event_of c).body ≡ true →
      (event_of c).origin ≡ v.origin → ⊥
  pub copy : (k : IsCopied t c.work.carried.seat (event_of c) c.work.carried.brought) → k.copy.copying.set_id ≡ set → ⊥
  pub others : IsOfOthers set (worker c.work).id (event_of c).body

no_sync : (set : ℕ) (t : Past) (c : Coming set t) → Passing set t c → (event_of c).body ≡ Sync →
    (node_of c).view ≡ None
no_sync set t c s is = (worker_before c.work).view ∙ by (view_of set (knowledge (worker c.work))) refl
  where
    at : (v : View) → view_of set (knowledge (worker c.work)) ≡ Some v → (b : Bool) →
        (v.origin == c.work.leader.id) ≡ b → cond b (Some (count_of v.seen)) None ≡ None
    at v found true own =
        absurd (s.sync v found (ap is_sync is) (c.own ∙ sym (eqb-true v.origin c.work.leader.id own)))
    at v found false other = refl

    by : (o : Option View) → view_of set (knowledge (worker c.work)) ≡ o → moment_of c.work.leader.id o ≡ None
    by None none = refl
    by (Some v) found = at v found (v.origin == c.work.leader.id) refl

-- by all that the origin has emitted the node subscribes since this event; so it did as it found what there is for it
asked_then : (set : ℕ) (t : Past) (c : Coming set t) (a : FindingOf c) →
    IsReady (worker c.work).id (read set (stream c.work.leader)) (event_of c).number →
    IsReady (worker c.work).id (read set (stream a.work.event.node)) (event_of c).number
asked_then set t c a ready =
    ready_before (worker c.work).id (event_of c).number (read set lead.more) (read set (stream y.node))
    (let within = (number_within y.node.id (stream y.node) (event_of c)
    ((regular_now a.to).nodes.each y.name y.node y.is).emitted y.among).1 in
    let long = length-map (stream y.node) (said set) in
    omega (arith, within, long))
    (subst (λ z. IsReady (worker c.work).id z (event_of c).number)
    (ap (read set) lead.all ∙ map-append (said set) lead.more (stream y.node)) ready)
  where
    y : IsEvent (nodes_in a.to.world.places) (event_of c)
    y = a.work.event

    lead : IsLeader c a (origin_then c a)
    lead = source_leads set t c a (origin_then c a)

-- the node is to copy the set, and nothing came of that: its subscription is gone at the origin
copy_skipped : (set : ℕ) (t : Past) (c : Coming set t) → Passing set t c →
    IsAsked t c.work.carried set →
    IsReady (worker c.work).id (read set (stream c.work.leader)) (event_of c).number
    ⊎ (IsReady (worker c.work).id (read set (stream c.work.leader)) (event_of c).number → ⊥) →
    IsStale c.work.netted.net (worker c.work).id
copy_skipped set t c s asked (inl ready) =
    let comes = copy_comes t c.work.carried c.work.origin c.work.is set asked
    (λ a. ((source_then set t c a (origin_then c a)).finds, asked_then set t c a ready)) in
    absurd (s.copy comes.0 comes.1)
copy_skipped set t c s asked (inr gone) = λ u has ready made.
    gone (
      u,
      sym (ap (λ b. row b (worker c.work).id c.work.netted.net.stream) c.work.netted.origin.start
          ∙ ap (row unfed (worker c.work).id) c.work.netted.origin.stream) ∙ has,
      ready,
      (let at = reached_is set t c in omega (arith, made, at)),
    )

pass_turn : (set : ℕ) (t : Past) (c : Coming set t) → Passing set t c →
    Turn c.work.netted.net (worker c.work).id (said set (event_of c)) (passed (node_of c))
pass_turn set t c s = by (event_of c).body refl
  where
    o : Node
    o = worker c.work

    Turns : Said → Type 0
    Turns e = Turn c.work.netted.net o.id e (passed (node_of c))

    others : (body : Body) → (event_of c).body ≡ body → IsOfOthers set o.id body
    others body is = subst (IsOfOthers set o.id) is s.others

    by : (body : Body) → (event_of c).body ≡ body → Turns (said_by set (event_of c).taken body)
    by Sync is = Passes (inl (no_sync set t c s is)) refl
    by (SubscribeSet id provider receiver forward) is = at (id == set) refl
      where
        at : (b : Bool) → (id == set) ≡ b → Turns (cond b (Subscribe receiver provider forward) Unrelated)
        at true same =
            Passes (inl (λ own. absurd (others (SubscribeSet id provider receiver forward) is
            (eqb-true id set same) own))) refl
        at false other = Passes (inl tt) refl
    by (UnsubscribeSet id receiver) is = at (id == set) refl
      where
        at : (b : Bool) → (id == set) ≡ b → Turns (cond b (Unsubscribe receiver) Unrelated)
        at true same = Passes (inl (others (UnsubscribeSet id receiver) is (eqb-true id set same))) refl
        at false other = Passes (inl tt) refl
    by (DropSet id) is = at (id == set) refl
      where
        at : (b : Bool) → (id == set) ≡ b → Turns (cond b Ends Unrelated)
        at true same = absurd (others (DropSet id) is (eqb-true id set same))
        at false other = Passes (inl tt) refl
    by (EnableSubscription id provider receiver forward era) is = at (id == set) refl (cases_eq receiver o.id)
      where
        at : (b : Bool) → (id == set) ≡ b → (receiver ≡ o.id) ⊎ (receiver ≢ o.id) →
            Turns (cond b (Enable receiver) Unrelated)
        at true same (inl own) =
            Skips (ap Enable own) (inr (copy_skipped set t c s (record {
              provider = provider;
              forward = forward;
              era = era;
              body = is ∙ ap (λ i. EnableSubscription i provider receiver forward era) (eqb-true id set same)
                  ∙ ap (λ r. EnableSubscription set provider r forward era) own;
            }) (ready_or_not o.id (read set (stream c.work.leader)) (event_of c).number))) refl
        at true same (inr other) = Passes (inl other) refl
        at false other any = Passes (inl tt) refl
    by others is = Passes (inl tt) refl

pub pass_turned : (set : ℕ) (t : Past) (c : Coming set t) → Passing set t c → Turned set t c
pass_turned set t c s = record {
  node = passed (node_of c);
  turn = pass_turn set t c s;
  far = refl;
  view = old.view ∙ ap (moment_of c.work.leader.id) (sym s.same);
  kept = λ v found own.
      let k = old.kept v (sym s.same ∙ found) own in record { base = k.base; seen = k.seen; began = k.began };
  logs = λ l moment e logs.
      among_right l c.work.carried.brought.logs (logged (worker c.work)) (old.logs l moment e logs);
  whole = record { keeps = old.whole.keeps; bars = old.whole.bars; has = old.whole.has };
}
  where
    old : Before c.work
    old = worker_before c.work
