-- What the laws of nets say of sessions.
use Rattle.std.proofs.Common.{◌≡◌, ◌≢◌, ℕ, ◌<◌, ◌≤◌, true, cond, List, ◌∷◌, ◌++◌, length}
use Rattle.std.proofs.Common.{Some, None, refl, sym, ap, subst, ◌∙◌, arith}
use Rattle.std.specs.Prelude.{◌+◌, max}
use Rattle.std.proofs.lemmas.Bool.{eq-eqb, false_from_ne_true, true≢false}
use Rattle.net_laws.specs.Subscriptions.{Sync as Syncs, Subscription as Row, last_moment, row, up_to}
use Rattle.net_laws.specs.Net.{configured, heard}
use Rattle.net_laws.specs.Sound.{Sound}
use Rattle.net_laws.proofs.Prefixes.{moment_between}
use Rattle.net_laws.proofs.Laws.{active_has_view, backup_serves, copy_covers, copy_finds, forwarder_logs, logged_once}
use Rattle.net_laws.proofs.Laws.{logs_are_committed, logs_hold, view_covers, view_has_row, views_rise}
use Rattle.slon_model.specs.Events.{Event, is_sync}
use Rattle.slon_model.specs.Deeds.{Node, knowledge, stream}
use Rattle.slon_model.specs.Place.{Place}
use Rattle.stream_laws.specs.Nodes.{IsAmong, nodes_in}
use Rattle.stream_laws.proofs.Lists.{all_among}
use Rattle.stream_laws.proofs.Streams.{Found, among_found}
use Rattle.image_laws.specs.Moments.{IsOrder, IsTaken, count_of}
use Rattle.image_laws.proofs.Ticking.{counts_tell}
use Rattle.view_laws.specs.Past.{Past, past}
use Rattle.view_laws.proofs.Viewed.{seen_now}
use Rattle.view_laws.proofs.Moments.{regular_now}
use Rattle.net_relation.specs.Reading.{moment_of, plain, read, said_by, unfed}
use Rattle.net_relation.specs.Matching.{HasNet, HasRow, IsKept, MatchesNode}
use Rattle.net_relation.specs.Laws.{ForwardersLog, ForwardersServe, KeepersSee, Keeper, KeepersSubscribe, LawsApply}
use Rattle.net_relation.proofs.Nets.{net_sound, said_next}
use Rattle.net_relation.proofs.Sessions.{sessions_have_nets}
use Rattle.net_relation.proofs.Providing.{place_of, row_forwards, sync_body}
use Rattle.net_relation.proofs.Moments.{seen_moment, unseen_moment}

pub laws_apply : LawsApply
laws_apply w p x set n = record {
  covers = view_covers n.net sound;
  copies = copy_covers n.net sound;
  rows = view_has_row n.net sound;
  rise = views_rise n.net sound;
  provider = logs_hold n.net sound;
  backup = backup_serves n.net sound;
  forwarder = forwarder_logs n.net sound;
  once = logged_once n.net sound;
  committed = logs_are_committed n.net sound;
  finds = copy_finds n.net sound;
  active = active_has_view n.net sound;
}
  where
    sound : Sound n.net
    sound = net_sound x.id n.net n.leads

-- ---- a node that keeps a set

-- A session, one of its nodes with its net of a set, and another node that keeps the set.
record Kept (set : ℕ) (t : Past) : Type 0 where
  name : List ℕ
  leader : Node
  at : nodes_in t.world.places name ≡ Some leader
  keeper : Keeper t.world set leader

abbrev place_is : {set : ℕ} {t : Past} → Kept set t → Place
place_is {t = t} k = (place_of t k.name k.leader k.at).0

net_of : (set : ℕ) (t : Past) (k : Kept set t) → HasNet set (nodes_in t.world.places) (place_is k) k.leader
net_of set t k =
    let p = place_of t k.name k.leader k.at in
    sessions_have_nets t.limit t.history t.world t.leads k.name p.0 p.1 k.leader p.2 set

abbrev keeper_node : {set : ℕ} {t : Past} → Kept set t → Node
keeper_node k = k.keeper.node

-- it is another node than the origin
keeper_other : (set : ℕ) (t : Past) (k : Kept set t) → (keeper_node k).id ≢ k.leader.id
keeper_other set t k same =
    (seen_now t k.keeper.name (keeper_node k) k.keeper.is set k.keeper.view k.keeper.keeps).apart
    (k.keeper.own ∙ sym same)

-- The node of the net of it, by the net and what it has made of that.
record Seen (set : ℕ) (t : Past) (k : Kept set t) (n : HasNet set (nodes_in t.world.places) (place_is k) k.leader) :
    Type 0 where
  matches : MatchesNode set n.order n.net.now k.leader (keeper_node k) (n.net.nodes (keeper_node k).id)
  viewed : (n.net.nodes (keeper_node k).id).view ≡ Some (count_of k.keeper.view.seen)
  kept : IsKept n.order n.net.now k.keeper.view (n.net.nodes (keeper_node k).id)
  row : Row
  has : configured n.net (keeper_node k).id (keeper_node k).id ≡ Some row
  known : HasRow set (keeper_node k).id row (knowledge (keeper_node k)).config

-- two nodes that keep a set may be seen in one net
seen_in : (set : ℕ) (t : Past) (k : Kept set t) (n : HasNet set (nodes_in t.world.places) (place_is k) k.leader) →
    Seen set t k n
seen_in set t k n = record {
  matches = m;
  viewed = viewed;
  kept = m.kept k.keeper.view k.keeper.keeps k.keeper.own;
  row = u.0;
  has = u.1.0;
  known = m.row u.0
      (sym (ap (λ s. row s o.id (heard n.net o.id)) n.matches.origin.start
      ∙ ap (λ z. row unfed o.id (up_to (n.net.nodes o.id).progress z)) n.matches.origin.stream) ∙ u.1.0);
}
  where
    o : Node
    o = keeper_node k

    m : MatchesNode set n.order n.net.now k.leader o (n.net.nodes o.id)
    m = n.matches.nodes k.keeper.name o k.keeper.is (keeper_other set t k)

    viewed : (n.net.nodes o.id).view ≡ Some (count_of k.keeper.view.seen)
    viewed =
        m.view ∙ ap (moment_of k.leader.id) k.keeper.keeps
        ∙ ap (λ b. cond b (Some (count_of k.keeper.view.seen)) None)
        (eq-eqb k.keeper.view.origin k.leader.id k.keeper.own)

    u : (u : Row) × ((configured n.net o.id o.id ≡ Some u) × (u.ready ≡ true))
    u = view_has_row n.net (net_sound k.leader.id n.net n.leads) o.id (count_of k.keeper.view.seen) viewed

pub keepers_subscribe : KeepersSubscribe
keepers_subscribe limit history w leads name x at set keeper =
    let t = past limit history w leads in
    let k : Kept set t = record { name = name; leader = x; at = at; keeper = keeper } in
    let s = seen_in set t k (net_of set t k) in
    (plain s.row, s.known)

-- ---- what forwarders have logged

pub forwarders_log : ForwardersLog
forwarders_log limit history w leads name x at set keeper forward l e =
    s.matches.logs l moment.0 (record { among = e.among; of = e.of; own = e.own; ended = moment.1 })
    (forwarder_logs n.net (net_sound x.id n.net n.leads) o.id (count_of keeper.view.seen) s.row s.viewed s.has
    (row_forwards set o s.row s.known forward) moment.0 (record {
      from =
          let base = s.kept.base in
          let most = unseen_moment n.order n.net.now keeper.view.base l.action.xid moment.0 s.kept.began
          (moment.1, e.unseen) in
          omega (arith, base, most);
      to = moment.2;
    }))
  where
    t : Past
    t = past limit history w leads

    k : Kept set t
    k = record { name = name; leader = x; at = at; keeper = keeper }

    o : Node
    o = keeper.node

    n : HasNet set (nodes_in w.places) (place_is k) x
    n = net_of set t k

    s : Seen set t k n
    s = seen_in set t k n

    moment : (m : ℕ) × (n.order l.action.xid ≡ Some m) × (m < count_of keeper.view.seen)
    moment = seen_moment n.order n.net.now keeper.view.seen l.action.xid s.kept.seen e.seen

-- the last moment of a prefix that ends with a SYNC
synced_moment : (set : ℕ) (t : Past) (name : List ℕ) (x : Node) → nodes_in t.world.places name ≡ Some x → (e : Event) →
    IsAmong e (stream x) → is_sync e.body ≡ true →
    count_of e.taken ≤ last_moment (up_to e.number (read set (stream x)))
synced_moment set t name x at e among sync =
    let found : Found x.id (stream x) e =
    among_found x.id (stream x) e ((regular_now t).nodes.each name x at).emitted among in
    let next = said_next set found.later e found.earlier (length found.earlier) refl in
    let number : length found.earlier + 1 ≡ e.number = let far = found.are.1 in omega (arith, far) in
    let z = up_to (length found.earlier) (read set (found.later ++ e ∷ found.earlier)) in
    let here : up_to e.number (read set (stream x)) ≡ Syncs (count_of e.taken) ∷ z =
    ap (λ es. up_to e.number (read set es)) found.all
    ∙ ap (λ i. up_to i (read set (found.later ++ e ∷ found.earlier))) (sym number) ∙ next.1
    ∙ ap (λ body. said_by set e.taken body ∷ z) (sync_body e.body sync) in
    let last : last_moment (up_to e.number (read set (stream x))) ≡ max (count_of e.taken) (last_moment z) =
    ap last_moment here in
    omega (arith, last)

pub keepers_see : KeepersSee
keepers_see limit history w leads name x at set keeper e sync =
    (counts_tell n.order n.net.now (subst (IsOrder n.order) (sym n.matches.origin.now) n.is) keeper.view.seen e.taken
    s.kept.seen (all_among (λ e. IsTaken n.order n.net.now e.taken) e (stream x) n.matches.events sync.among)).1
    (let first = synced_moment set t name x at e sync.among sync.sync in
    let applied = sync.applied in
    let reached = s.matches.reached in
    let between = moment_between e.number (n.net.nodes o.id).progress (read set (stream x))
    (omega (arith, applied, reached)) in
    let heard_is : last_moment (heard n.net o.id)
    ≡ last_moment (up_to (n.net.nodes o.id).progress (read set (stream x))) =
    ap (λ z. last_moment (up_to (n.net.nodes o.id).progress z)) n.matches.origin.stream in
    let covers = (view_covers n.net (net_sound x.id n.net n.leads) o.id (count_of keeper.view.seen) s.viewed).0 in
    omega (arith, first, between, heard_is, covers))
  where
    t : Past
    t = past limit history w leads

    k : Kept set t
    k = record { name = name; leader = x; at = at; keeper = keeper }

    o : Node
    o = keeper.node

    n : HasNet set (nodes_in w.places) (place_is k) x
    n = net_of set t k

    s : Seen set t k n
    s = seen_in set t k n

-- from the base of the other one on, it has logged all up to its view, which sees all that the SYNC does
pub forwarders_serve : ForwardersServe
forwarders_serve limit history w leads name x at set keeper other forward covers e sync l is =
    forwarders_log limit history w leads name x at set keeper forward l (record {
      among = is.among;
      of = is.of;
      own = is.own;
      seen = keepers_see limit history w leads name x at set keeper e sync l.action.xid is.seen;
      unseen = false_from_ne_true _ (λ sees. true≢false (sym (covers l.action.xid sees) ∙ is.unseen));
    })
