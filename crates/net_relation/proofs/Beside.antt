-- A node applies an event of another stream than that of a net: the net stays as it is.
use Rattle.std.proofs.Common.{◌≡◌, ◌≢◌, ℕ, Bool, true, false, cond, List, [], ◌∷◌, length, Option, Some, None, refl}
use Rattle.std.proofs.Common.{sym, ap, subst, ◌∙◌}
use Rattle.std.specs.Prelude.{◌+◌, ◌==◌}
use Rattle.std.specs.List.{AllByRecursion}
use Rattle.std.proofs.lemmas.Bool.{eqb-true, false≢true, false_from_ne_true}
use Rattle.node_rows.specs.declared.body.Body.{Body}
use Rattle.node_rows.specs.declared.body.Body.TheVariants.{DropSet, SubscribeSet, EnableSubscription, UnsubscribeSet}
use Rattle.net_laws.specs.Subscriptions.{Event as Said, Subscribe, Enable, Unsubscribe, DropSet as Ends, Unrelated}
use Rattle.net_laws.specs.Subscriptions.{Subscription as Row}
use Rattle.net_laws.specs.Subscriptions.{changed, enabled, last_moment, row, up_to}
use Rattle.slon_model.specs.Events.{Event}
use Rattle.slon_model.specs.Snapshots.{Snapshot}
use Rattle.slon_model.specs.Config.{Config}
use Rattle.slon_model.specs.Names.{find_named}
use Rattle.slon_model.specs.Deeds.{Node, knowledge, stream, view_of}
use Rattle.slon_model.specs.Logs.{logged}
use Rattle.slon_model.specs.Place.{Place}
use Rattle.slon_model.specs.Views.{View, view_after, based}
use Rattle.slon_model.specs.Working.{Carried}
use Rattle.slon_model.proofs.Names.{one_found}
use Rattle.stream_laws.specs.Nodes.{nodes_in, node_in}
use Rattle.stream_laws.specs.Making.{HasStored}
use Rattle.stream_laws.proofs.Lists.{all_among, all_mapped, number_beside}
use Rattle.stream_laws.proofs.Seats.{seat_node}
use Rattle.image_laws.specs.Moments.{count_of}
use Rattle.image_laws.proofs.Logging.{among_right}
use Rattle.image_laws.proofs.Orders.{order_in}
use Rattle.image_laws.proofs.Ticking.{ClockAt}
use Rattle.view_laws.specs.Laws.{GoesOn}
use Rattle.view_laws.specs.Past.{Moment, Past, WasUpTo}
use Rattle.view_laws.proofs.Doing.{IsTaken}
use Rattle.view_laws.proofs.Going.{takes_on}
use Rattle.view_laws.proofs.Saying.{may_emitted}
use Rattle.net_relation.specs.Reading.{moment_of, read, said, said_by, unfed}
use Rattle.net_relation.specs.Matching.{IsKept, MatchesNode}
use Rattle.net_relation.proofs.Dropped.{whole_stays}
use Rattle.net_relation.proofs.Earlier.{WasThen}
use Rattle.net_relation.proofs.Feeding.{IsFeed}
use Rattle.net_relation.proofs.Leading.{Known, feeds_at, one_storer}
use Rattle.net_relation.proofs.Nets.{all_up_to}
use Rattle.net_relation.proofs.Relating.{Netted}
use Rattle.net_relation.proofs.Rows.{IsBeside, row_beside}
use Rattle.net_relation.proofs.Views.{Copied, Followed, Keeps, Left, Turned, ViewTaken, behind, view_taken}
use Rattle.view_laws.proofs.Unmoved.{left_from, turned_from}
use Rattle.view_laws.specs.Known.{enables, leaves}
use Rattle.view_laws.proofs.Brought.{copied_view}
use Rattle.view_laws.proofs.Copied.{copy_asks}

-- ---- a node at work

-- A database of the session with its net, and another node that applies an event.
pub record Work (set : ℕ) (t : Past) : Type 0 where
  pub name : List ℕ
  pub place : Place
  pub found : find_named name t.world.places ≡ Some place
  pub leader : Node
  pub at : place.node ≡ Some leader
  pub ended : List ℕ
  pub clock : ClockAt place ended
  pub netted : Netted set ended (nodes_in t.world.places) place leader
  pub carried : Carried
  pub origin : ℕ
  pub is : IsTaken t origin carried
  pub other : carried.seat.node.id ≢ leader.id
  pub then : (m : Moment (WasUpTo t)) → m.name ≡ name → WasThen set ended place.node m.session m.place m.node

-- the node that applies it
abbrev pub worker : {set : ℕ} {t : Past} → Work set t → Node
worker w = w.carried.seat.node

abbrev pub leader_known : {set : ℕ} {t : Past} → Work set t → Known t
leader_known w = record { name = w.name; node = w.leader; is = ap node_in w.found ∙ w.at }

pub leader_at : {set : ℕ} {t : Past} (w : Work set t) → nodes_in t.world.places w.name ≡ Some w.leader
leader_at w = ap node_in w.found ∙ w.at

pub worker_at : {set : ℕ} {t : Past} (w : Work set t) → nodes_in t.world.places w.carried.seat.name ≡ Some (worker w)
worker_at {t = t} w = seat_node t.world.places w.carried.seat w.is.work.seat

-- what it has made of the stream so far
abbrev pub Before : {set : ℕ} {t : Past} → Work set t → Type 0
Before {set} w = MatchesNode set (order_in w.ended) (length w.ended) w.leader (worker w)
    (w.netted.net.nodes (worker w).id)

pub worker_before : {set : ℕ} {t : Past} (w : Work set t) → Before w
worker_before w = w.netted.nodes w.carried.seat.name (worker w) (worker_at w) w.other

-- ---- who says that a node subscribes

-- P of each event by which a node subscribes
abbrev SaysOf : Type 0 → Said → Type 0
SaysOf P (Subscribe r p f) = P
SaysOf P others = Unit {0}

-- where there is a subscription, some event said so
said_so : (P : Type 0) (r : ℕ) (z : List Said) → AllByRecursion (SaysOf P) z → (u : Row) → row unfed r z ≡ Some u → P
said_so P r [] all u is = absurd cc
said_so P r (e ∷ z) all u is = by e (said_so P r z all.1) all.0 is
  where
    k : ℕ
    k = length z + 1

    enables : (o : Option Row) → ((t : Row) → o ≡ Some t → P) → enabled k o ≡ Some u → P
    enables None rest is = absurd cc
    enables (Some t) rest is = rest t refl

    either : (b : Bool) (o : Option Row) → (o ≡ Some u → P) → (row unfed r z ≡ Some u → P) →
        cond b o (row unfed r z) ≡ Some u → P
    either true o one two is = one is
    either false o one two is = two is

    none : {X : Type 0} (o : Option Row) → o ≡ None → o ≡ Some u → X
    none o is some = let never : None ≡ Some u = sym is ∙ some in absurd cc

    by : (e : Said) → ((t : Row) → row unfed r z ≡ Some t → P) → SaysOf P e →
        changed r k (last_moment z) e (row unfed r z) ≡ Some u → P
    by (Subscribe n p f) rest here is = here
    by (Enable n) rest here is =
        either (r == n) (enabled k (row unfed r z)) (enables (row unfed r z) rest) (rest u) is
    by (Unsubscribe n) rest here is = either (r == n) None (none None refl) (rest u) is
    by Ends rest here is = none None refl is
    by others rest here is = rest u is

said_by_feed : (set own : ℕ) (all : List Event) (c : Config) (k : Snapshot) (body : Body) → IsFeed own all c body →
    SaysOf (HasStored set all) (said_by set k body)
said_by_feed set own all c k (SubscribeSet id provider receiver forward) is = by (id == set) refl
  where
    by : (b : Bool) → (id == set) ≡ b →
        SaysOf (HasStored set all) (cond b (Subscribe receiver provider forward) Unrelated)
    by true same = subst (λ i. HasStored i all) (eqb-true id set same) is.0
    by false other = tt
said_by_feed set own all c k (EnableSubscription id provider receiver forward era) is = by (id == set)
  where
    by : (b : Bool) → SaysOf (HasStored set all) (cond b (Enable receiver) Unrelated)
    by true = tt
    by false = tt
said_by_feed set own all c k (UnsubscribeSet id receiver) is = by (id == set)
  where
    by : (b : Bool) → SaysOf (HasStored set all) (cond b (Unsubscribe receiver) Unrelated)
    by true = tt
    by false = tt
said_by_feed set own all c k (DropSet id) is = by (id == set)
  where
    by : (b : Bool) → SaysOf (HasStored set all) (cond b Ends Unrelated)
    by true = tt
    by false = tt
said_by_feed set own all c k others is = tt

-- who has a subscription by what it heard, has it of the node that stored the set
pub row_stored : (t : Past) (x : Known t) (set r k : ℕ) (u : Row) →
    row unfed r (up_to k (read set (stream x.node))) ≡ Some u → HasStored set (stream x.node)
row_stored t x set r k u has =
    said_so (HasStored set es) r (up_to k (read set es)) (all_up_to (SaysOf (HasStored set es)) k (read set es)
    (all_mapped (λ e. IsFeed x.node.id es (knowledge x.node).config e.body) (SaysOf (HasStored set es)) (said set)
    (λ e feed. said_by_feed set x.node.id es (knowledge x.node).config e.taken e.body feed) es
    (feeds_at t x.name x.node x.is).feeds)) u has
  where
    es : List Event
    es = stream x.node

-- an event of a node that did not store the set is of no subscription to it
stored_beside : (set r own : ℕ) (es : List Event) (c : Config) (body : Body) → IsFeed own es c body →
    (HasStored set es → ⊥) → IsBeside set r body
stored_beside set r own es c (SubscribeSet id p n f) is none = λ same at. none (subst (λ i. HasStored i es) same is.0)
stored_beside set r own es c (EnableSubscription id p n f era) is none =
    λ same at. none (subst (λ i. HasStored i es) same is.0.0)
stored_beside set r own es c (UnsubscribeSet id n) is none = λ same at. none (subst (λ i. HasStored i es) same is.0)
stored_beside set r own es c (DropSet id) is none = λ same. none (subst (λ i. HasStored i es) same is)
stored_beside set r own es c others is none = tt

-- so a subscription of another stream stays
pub other_row : (t : Past) (x : Carried) {origin : ℕ} → IsTaken t origin x → (k : Known t) →
    x.event.origin ≢ k.node.id → (set r : ℕ) → HasStored set (stream k.node) → IsBeside set r x.event.body
other_row t x is k apart set r stored =
    stored_beside set r y.id (stream y) (knowledge y).config x.event.body
    (all_among (λ e. IsFeed y.id (stream y) (knowledge y).config e.body) x.event (stream y)
    (feeds_at t is.work.event.name y is.work.event.is).feeds is.work.event.among)
    (λ other. apart (sym is.work.event.own
    ∙ one_storer t (record { name = is.work.event.name; node = y; is = is.work.event.is }) k set (other, stored)))
  where
    y : Node
    y = is.work.event.node

-- ---- the view

moment_other : (origin : ℕ) (v : View) → v.origin ≢ origin → moment_of origin (Some v) ≡ None
moment_other origin v apart =
    ap (λ b. cond b (Some (count_of v.seen)) None)
    (false_from_ne_true (v.origin == origin) (λ same. apart (eqb-true v.origin origin same)))

-- who is to copy a set by an event does not give one up by it
pub copy_stays : (set id node own : ℕ) (body : Body) → enables id node body ≡ true → leaves set own body ≡ false
copy_stays set id node own (EnableSubscription other provider receiver forward era) is = refl
copy_stays set id node own others is = absurd (false≢true is)

same_moment : {set : ℕ} {t : Past} (w : Work set t) → w.carried.event.origin ≢ w.leader.id →
    ViewTaken t w.carried set →
    moment_of w.leader.id (view_of set (knowledge (behind w.carried)))
    ≡ moment_of w.leader.id (view_of set (knowledge (worker w)))
same_moment w apart (Keeps same sync copy) = ap (moment_of w.leader.id) same
same_moment w apart (Turned v found turns now) = ap (moment_of w.leader.id) now ∙ sym (ap (moment_of w.leader.id) found)
same_moment {set} {t} w apart (Left v found left now) =
    ap (moment_of w.leader.id) now
    ∙ sym (ap (moment_of w.leader.id) found
    ∙ moment_other w.leader.id v (λ own. apart (sym (left_from t w.carried w.origin w.is set v found left) ∙ own)))
same_moment {set} {t} w apart (Copied k same now) =
    ap (moment_of w.leader.id) now
    ∙ moment_other w.leader.id first apart
    ∙ sym (by (view_of set (knowledge (worker w))) refl)
  where
    first : View
    first = copied_view k.copy

    by : (o : Option View) → view_of set (knowledge (worker w)) ≡ o → moment_of w.leader.id o ≡ None
    by None none = refl
    by (Some v) is =
        moment_other w.leader.id v (λ own.
        let same : GoesOn set v (worker w) = record {
          view = v;
          found = is;
          origin = refl;
          era = refl;
          covers = λ i sees. sees;
        } in
        let on : GoesOn set v (behind w.carried) =
        takes_on t w.carried w.origin w.is set v
        (copy_stays set k.copy.copying.set_id k.at.seat.node.id (worker w).id w.carried.event.body
        (copy_asks k.at.to.world k.at.seat w.carried.event k.found k.copy)) same in
        let one = one_found first on.view (sym now ∙ on.found) in
        apart (ap (λ (v : View). v.origin) one ∙ on.origin ∙ own))
same_moment w apart (Followed f v is own now) =
    ap (moment_of w.leader.id) now
    ∙ moment_other w.leader.id (view_after w.carried.event v) (λ same. apart (sym own ∙ same))
    ∙ sym (moment_other w.leader.id v (λ same. apart (sym own ∙ same)))
    ∙ ap (moment_of w.leader.id) (sym is)

same_kept : {set : ℕ} {t : Past} (w : Work set t) → w.carried.event.origin ≢ w.leader.id →
    ViewTaken t w.carried set → (v : View) → view_of set (knowledge (behind w.carried)) ≡ Some v →
    v.origin ≡ w.leader.id →
    IsKept (order_in w.ended) (length w.ended) v (w.netted.net.nodes (worker w).id)
same_kept w apart (Keeps same sync copy) v found own = (worker_before w).kept v (sym same ∙ found) own
same_kept {set} {t} w apart (Turned u had turns now) v found own =
    absurd (apart (sym (turned_from t w.carried w.origin w.is set u had turns)
    ∙ ap (λ (v : View). v.origin) (one_found (based u) v (sym now ∙ found)) ∙ own))
same_kept w apart (Left u had left now) v found own = let never : None ≡ Some v = sym now ∙ found in absurd cc
same_kept {set} {t} w apart (Copied k same now) v found own =
    absurd (apart (ap (λ (v : View). v.origin) (one_found (copied_view k.copy) v (sym now ∙ found)) ∙ own))
same_kept w apart (Followed f u is of now) v found own =
    absurd (apart (sym of ∙ ap (λ (v : View). v.origin) (one_found (view_after w.carried.event u) v (sym now ∙ found))
    ∙ own))

-- ---- the whole

pub beside_matches : {set : ℕ} {t : Past} (w : Work set t) → w.carried.event.origin ≢ w.leader.id →
    MatchesNode set (order_in w.ended) (length w.ended) w.leader (behind w.carried)
    (w.netted.net.nodes (worker w).id)
beside_matches {set} {t} w apart = record {
  reached = old.reached ∙ sym (number_beside w.leader.id e.origin e.number (knowledge o).progress
      (λ same. apart (sym same)));
  view = old.view ∙ sym (same_moment w apart taken);
  kept = same_kept w apart taken;
  row = λ u has.
      row_beside set o.id e (knowledge o).config u (may_emitted e.origin e.body (knowledge o).config w.is.work.may)
      (other_row t w.carried w.is (leader_known w) apart set o.id
      (row_stored t (leader_known w) set o.id (w.netted.net.nodes o.id).progress u has)) (old.row u has);
  logs = λ l moment is logs. among_right l w.carried.brought.logs (logged o) (old.logs l moment is logs);
  whole =
      whole_stays e (knowledge o).config (may_emitted e.origin e.body (knowledge o).config w.is.work.may) old.whole;
}
  where
    o : Node
    o = worker w

    e : Event
    e = w.carried.event

    old : Before w
    old = worker_before w

    taken : ViewTaken t w.carried set
    taken = view_taken t w.carried w.origin w.is set
