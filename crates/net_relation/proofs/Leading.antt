-- The node that stored a set is its origin, and alone says who receives it. A receiver that is told to copies the set,
-- unless it was told to give that up by then.
use Rattle.std.proofs.Common.{◌≡◌, ℕ, Bool, true, false, cond, List, Option, Some, None, is_some}
use Rattle.std.proofs.Common.{◌∷◌, [], ◌⊎◌, length, ◌≢◌, inl, inr, ◌≤◌, suc}
use Rattle.std.proofs.Common.{refl, sym, ap, subst, ◌∙◌, arith}
use Rattle.std.specs.Prelude.{◌==◌, ◌&&◌, ◌+◌}
use Rattle.std.proofs.lemmas.Bool.{and_from, eq-eqb, eqb-true, false≢true, true≢false, cases_eq}
use Rattle.node_rows.specs.declared.rows.SetRow.{SetRow}
use Rattle.node_rows.specs.declared.body.Body.{Body}
use Rattle.node_rows.specs.declared.body.Body.TheVariants.{DropSet as EndsSet, EnableSubscription, SubscribeSet, Sync}
use Rattle.node_rows.specs.declared.body.Body.TheVariants.{UnsubscribeSet}
use Rattle.net_laws.specs.Subscriptions.{DropSet, Enable, Event as Said, Subscribe, Subscription as Row, Unrelated}
use Rattle.net_laws.specs.Subscriptions.{Unsubscribe, changed, last_moment, row}
use Rattle.slon_model.specs.Names.{find_named}
use Rattle.slon_model.specs.Maps.{entry_at}
use Rattle.slon_model.specs.Events.{Event}
use Rattle.slon_model.specs.Config.{era_of, is_origin, leads_row, set_row, forwards}
use Rattle.slon_model.specs.Deeds.{Knowledge, Node, knowledge, stream, progress, view_of}
use Rattle.slon_model.specs.Place.{Place, taken}
use Rattle.slon_model.specs.Sessions.{Seat}
use Rattle.slon_model.specs.Working.{Carried, Copying, Errand, ToCopy, errand_in, errand_of, receives_from}
use Rattle.slon_model.specs.Working.{still_leads, forwarded, given_at}
use Rattle.slon_model.proofs.Names.{one_found}
use Rattle.stream_laws.specs.Nodes.{IsAmong, IsEvent, nodes_in, node_in}
use Rattle.stream_laws.specs.Facts.{Facts}
use Rattle.stream_laws.specs.Laws.{AreMadeOnce}
use Rattle.stream_laws.specs.Making.{HasStored, IsMade, OfSet}
use Rattle.stream_laws.proofs.Applies.{IsSetOf}
use Rattle.stream_laws.proofs.Copies.{IsVain, NoErrand, one_leader, GivenNoMore, HasReached}
use Rattle.stream_laws.proofs.Laws.{marks_are_made_once}
use Rattle.stream_laws.proofs.Lists.{all_among}
use Rattle.stream_laws.proofs.Seats.{seat_node, IsSeat}
use Rattle.stream_laws.proofs.Streams.{number_within, one_node}
use Rattle.stream_laws.proofs.Works.{IsWork}
use Rattle.view_laws.specs.Past.{Past, Moment, WasUpTo}
use Rattle.view_laws.proofs.Brought.{Brings, Copies, Finding, IsBrought, IsCopied, Nothing, same_id}
use Rattle.view_laws.proofs.Doing.{IsTaken}
use Rattle.view_laws.proofs.Moments.{regular_now, past_of, reached_up_to}
use Rattle.net_relation.proofs.Feeding.{IsFeed, NodeFeeds, era_one, feeds_now}
use Rattle.view_laws.specs.Known.{AreLive, IsLive, IsSeen, ends}
use Rattle.view_laws.proofs.Copied.{live_or_over}
use Rattle.view_laws.proofs.Ended.{Ending, ending_leader, ending_of}
use Rattle.view_laws.proofs.Once.{live_now}
use Rattle.view_laws.proofs.Viewed.{seen_now}
use Rattle.image_laws.proofs.Staying.{IsOver}
use Rattle.image_laws.proofs.Stretching.{owns_leads}
use Rattle.std.specs.List.{AllByRecursion}
use Rattle.slon_model.specs.Views.{View}
use Rattle.net_relation.proofs.Earlier.{CopiesFind}
use Rattle.net_relation.proofs.Readied.{IsReady}
use Rattle.net_relation.specs.Reading.{read, said_by, unfed}

-- ---- who stored a set

some_entry : {X : Type 0} (o : Option X) → is_some o ≡ true → (x : X) × (o ≡ Some x)
some_entry None none = absurd (false≢true none)
some_entry (Some x) some = (x, refl)

pub stored_owns : (t : Past) (name : List ℕ) (n : Node) → nodes_in t.world.places name ≡ Some n → (set : ℕ) →
    HasStored set (stream n) → IsSetOf set n.id (knowledge n).config
stored_owns t name n is set (e, among, makes) = (row.0, row.1, sym own)
  where
    laws : AreMadeOnce t.world
    laws = marks_are_made_once t.limit t.history t.world t.leads

    f : Facts (nodes_in t.world.places) n
    f = (regular_now t).nodes.each name n is

    made : IsMade (nodes_in t.world.places) (OfSet set)
    made = record { name = name; node = n; is = is; event = e; among = among; makes = makes }

    row : (r : SetRow) × (entry_at set (knowledge n).config.sets ≡ Some r)
    row = some_entry (entry_at set (knowledge n).config.sets)
        (laws.known name n is (OfSet set) (record {
          made = made;
          within =
              let within = number_within n.id (stream n) e f.emitted among in
              let whole = f.whole in
              omega (arith, within.1, whole);
        }))

    own : n.id ≡ row.0.origin
    own =
        let by = laws.origins name n is set row.0 row.1 in
        let same = (laws.once (OfSet set) made by.0).0 in
        ap (λ (m : Node). m.id) (one_found n by.0.node (sym is ∙ ap (nodes_in t.world.places) same ∙ by.0.is)) ∙ by.1

-- A node of the session, by the name of its database.
pub record Known (t : Past) : Type 0 where
  pub name : List ℕ
  pub node : Node
  pub is : nodes_in t.world.places name ≡ Some node

-- no two nodes stored one set
pub one_storer : (t : Past) (a b : Known t) (set : ℕ) → HasStored set (stream a.node) × HasStored set (stream b.node) →
    a.node.id ≡ b.node.id
one_storer t a b set stored =
    one_leader (nodes_in t.world.places) (regular_now t).nodes set
    (record { name = a.name; node = a.node; is = a.is; leads = stored_owns t a.name a.node a.is set stored.0 })
    (record { name = b.name; node = b.node; is = b.is; leads = stored_owns t b.name b.node b.is set stored.1 })

-- what is known of the events of subscriptions
pub feeds_at : (t : Past) (name : List ℕ) (n : Node) → nodes_in t.world.places name ≡ Some n → NodeFeeds n
feeds_at t name n is = by (find_named name t.world.places) refl is
  where
    by : (o : Option Place) → find_named name t.world.places ≡ o → node_in o ≡ Some n → NodeFeeds n
    by None found none = absurd cc
    by (Some p) found at = feeds_now t name p n found at

-- ---- a set with a subscription

-- it has not ended by these events
abbrev Lasts : ℕ → List Event → Type 0
Lasts set es = AllByRecursion (λ e. ends set e.body ≡ false) es

-- no node subscribes to a set that has ended, and none stays subscribed
row_lasts : (set r : ℕ) (es : List Event) → AreLive es → (u : Row) → row unfed r (read set es) ≡ Some u → Lasts set es
row_lasts set r [] live u none = absurd cc
row_lasts set r (e ∷ es) live u is = by e.body live.0 (row_lasts set r es live.1) is
  where
    z : List Said
    z = read set es

    changed_by : Said → Option Row
    changed_by s = changed r (length z + 1) (last_moment z) s (row unfed r z)

    by : (body : Body) → IsLive es body → ((v : Row) → row unfed r z ≡ Some v → Lasts set es) →
        changed_by (said_by set e.taken body) ≡ Some u → (ends set body ≡ false) × Lasts set es
    by (SubscribeSet id p n f) live rest is = (refl, at (id == set) refl is)
      where
        at : (b : Bool) → (id == set) ≡ b → changed_by (cond b (Subscribe n p f) Unrelated) ≡ Some u → Lasts set es
        at true same is = subst (λ i. Lasts i es) (eqb-true id set same) live
        at false other is = rest u is
    by (EnableSubscription id p n f era) live rest is = (refl, at (id == set) refl is)
      where
        at : (b : Bool) → (id == set) ≡ b → changed_by (cond b (Enable n) Unrelated) ≡ Some u → Lasts set es
        at true same is = subst (λ i. Lasts i es) (eqb-true id set same) live
        at false other is = rest u is
    by (UnsubscribeSet id n) live rest is = (refl, at (id == set) is)
      where
        here : (b : Bool) → cond b None (row unfed r z) ≡ Some u → Lasts set es
        here true none = absurd cc
        here false is = rest u is

        at : (b : Bool) → changed_by (cond b (Unsubscribe n) Unrelated) ≡ Some u → Lasts set es
        at true is = here (r == n) is
        at false is = rest u is
    by (EndsSet id) live rest is = at (id == set) is
      where
        at : (b : Bool) → changed_by (cond b DropSet Unrelated) ≡ Some u → (b ≡ false) × Lasts set es
        at true none = absurd cc
        at false is = (refl, rest u is)
    by others live rest is = (refl, rest u is)

-- so the node that stored it leads it
row_leads : (t : Past) (x : Known t) (set r : ℕ) → HasStored set (stream x.node) → (u : Row) →
    row unfed r (read set (stream x.node)) ≡ Some u → is_origin x.node.id set (knowledge x.node).config ≡ true
row_leads t x set r stored u has = by (live_or_over set (knowledge n).config)
  where
    n : Node
    n = x.node

    owns : IsSetOf set n.id (knowledge n).config
    owns = stored_owns t x.name n x.is set stored

    never : (e : Ending t set) → ⊥
    never e =
        let own = ending_leader t set e (record { name = x.name; node = n; is = x.is; leads = owns }) in
        let one = one_node (nodes_in t.world.places) (regular_now t).nodes e.is.name x.name e.is.node n e.is.is
        (x.is, e.is.own ∙ own) in
        true≢false (sym (ap (ends set) e.body ∙ eq-eqb set set refl)
        ∙ all_among (λ e. ends set e.body ≡ false) e.event (stream n)
        (row_lasts set r (stream n) (live_now t x.name n x.is) u has)
        (subst (λ (m : Node). IsAmong e.event (stream m)) one e.is.among))

    by : (is_some (set_row set (knowledge n).config) ≡ true) ⊎ IsOver set (knowledge n).config →
        is_origin n.id set (knowledge n).config ≡ true
    by (inl live) =
        owns_leads n.id set (knowledge n).config
        (ap (leads_row n.id) owns.1 ∙ eq-eqb owns.0.origin n.id owns.2) live
    by (inr over) = absurd (never (ending_of t x.name n x.is set over (ap is_some owns.1)).0)

-- ---- the copy

-- An event by which the node at its seat, which applies it next, is to copy a set.
record Asking (u : Past) (s : Seat) (e : Event) (set : ℕ) : Type 0 where
  origin : ℕ
  work : IsWork u.world origin s e
  provider : ℕ
  forward : Bool
  era : ℕ
  body : e.body ≡ EnableSubscription set provider s.node.id forward era
  ready : IsReady s.node.id (read set (stream work.event.node)) e.number

abbrev asked_copy : {u : Past} {s : Seat} {e : Event} {set : ℕ} → Asking u s e set → Copying
asked_copy {set = set} a = record { set_id = set; provider = a.provider; era = a.era }

asked_errand : (u : Past) (s : Seat) (e : Event) (set : ℕ) (a : Asking u s e set) →
    errand_of s e ≡ Some (ToCopy (asked_copy a))
asked_errand u s e set a =
    ap (errand_in s.node.id (receives_from e.origin s.known) e.origin) a.body
    ∙ ap (λ b. cond b (Some (ToCopy (asked_copy a))) None) (eq-eqb s.node.id s.node.id refl)

-- the node that emitted it
abbrev asked_by : {u : Past} {s : Seat} {e : Event} {set : ℕ} → Asking u s e set → Node
asked_by a = a.work.event.node

asked_feed : (u : Past) (s : Seat) (e : Event) (set : ℕ) (a : Asking u s e set) →
    IsFeed (asked_by a).id (stream (asked_by a)) (knowledge (asked_by a)).config
    (EnableSubscription set a.provider s.node.id a.forward a.era)
asked_feed u s e set a =
    subst (IsFeed y.node.id (stream y.node) (knowledge y.node).config) a.body
    (all_among (λ e. IsFeed y.node.id (stream y.node) (knowledge y.node).config e.body) e (stream y.node)
    (feeds_at u y.name y.node y.is).feeds y.among)
  where
    y : IsEvent (nodes_in u.world.places) e
    y = a.work.event

-- a provider leads the set in that era, if it is that node
asked_leads : (u : Past) (s : Seat) (e : Event) (set : ℕ) (a : Asking u s e set) → (p : Seat) →
    IsSeat u.world.places p → p.node ≡ asked_by a → still_leads (asked_copy a) p ≡ true
asked_leads u s e set a p at one =
    ap (λ (k : Knowledge). is_origin p.node.id set k.config && era_of set k.config == a.era) at.known
    ∙ ap (λ (n : Node). is_origin n.id set (knowledge n).config && era_of set (knowledge n).config == a.era) one
    ∙ and_from (is_origin y.id set (knowledge y).config) (era_of set (knowledge y).config == a.era) leads
    (eq-eqb (era_of set (knowledge y).config) a.era
    (era_one y.id set (knowledge y).config (feeds_at u a.work.event.name y a.work.event.is).eras leads ∙ sym feed.1))
  where
    y : Node
    y = asked_by a

    feed : IsFeed y.id (stream y) (knowledge y).config (EnableSubscription set a.provider s.node.id a.forward a.era)
    feed = asked_feed u s e set a

    leads : is_origin y.id set (knowledge y).config ≡ true
    leads =
        row_leads u (record { name = a.work.event.name; node = y; is = a.work.event.is }) set s.node.id feed.0.0
        a.ready.0 a.ready.1

-- a set is in its first era where a snapshot of it was taken
seen_era : (u : Past) (n : Node) (set : ℕ) (v : View) → IsSeen (WasUpTo u) n set v → v.era ≡ 1
seen_era u n set v seen =
    seen.era ∙ era_one m.node.id set (knowledge m.node).config
    (feeds_at (past_of u m.session (reached_up_to u m.session m.was)) m.name m.node (ap node_in m.found ∙ m.at)).eras
    seen.leads
  where
    m : Moment (WasUpTo u)
    m = seen.moment

-- another one keeps the set, and forwards it
asked_forwards : {u : Past} {s : Seat} {e : Event} {set : ℕ} (a : Asking u s e set) (p : Seat) →
    HasReached u.world e a.provider s p → CopiesFind set u.world (asked_by a) → p.node.id ≢ (asked_by a).id →
    (v : View) × (forwarded (asked_copy a) p (view_of set p.known) ≡ Some v.seen)
asked_forwards {u} {s} {e} {set} a p at finds other = (
  found.0,
  ap (λ (k : Knowledge). forwarded (asked_copy a) p (view_of set k)) is.known
      ∙ ap (forwarded (asked_copy a) p) found.1
      ∙ ap (λ b. cond b (Some found.0.seen) None)
      (and_from (found.0.era == a.era) (forwards set p.node.id p.known.config)
      (eq-eqb found.0.era a.era (seen_era u p.node set found.0 seen ∙ sym (asked_feed u s e set a).1))
      (ap (λ (k : Knowledge). forwards set p.node.id k.config) is.known ∙ found.3)),
)
  where
    y : IsEvent (nodes_in u.world.places) e
    y = a.work.event

    is : IsSeat u.world.places p
    is = at.0.0.0

    there : nodes_in u.world.places p.name ≡ Some p.node
    there = seat_node u.world.places p is

    found : (v : View) × (view_of set (knowledge p.node) ≡ Some v) × (v.origin ≡ y.node.id)
        × (forwards set p.node.id (knowledge p.node).config ≡ true)
    found = finds (record {
      name = s.name;
      node = s.node;
      is = seat_node u.world.places s a.work.seat;
      event = e;
      among = y.among;
      provider = a.provider;
      forward = a.forward;
      era = a.era;
      body = a.body;
      next = a.work.next ∙ ap (λ i. suc (progress i (knowledge s.node))) (sym y.own);
      ready = a.ready;
      giver_name = p.name;
      giver = p.node;
      at = there;
      own = at.0.0.1;
      other = other;
      applied = subst (λ i. e.number ≤ progress i (knowledge p.node)) (sym y.own) at.1;
    })

    seen : IsSeen (WasUpTo u) p.node set found.0
    seen = seen_now u p.name p.node there set found.0 found.1

one_copying : (a : Option Errand) (c d : Copying) → a ≡ Some (ToCopy c) → a ≡ Some (ToCopy d) → c ≡ d
one_copying a c d one two = let same : Some (ToCopy c) ≡ Some (ToCopy d) = sym one ∙ two in cc

-- so something is given
asked_given : {u : Past} {s : Seat} {e : Event} {set : ℕ} (a : Asking u s e set) (p : Seat) →
    HasReached u.world e a.provider s p → CopiesFind set u.world (asked_by a) → given_at (asked_copy a) p ≡ None → ⊥
asked_given {u} {s} {e} {set} a p at finds none = elim (cases_eq p.node.id y.node.id) [
  | inl same ↦ leads (one_node (nodes_in u.world.places) (regular_now u).nodes p.name y.name p.node y.node
      (seat_node u.world.places p at.0.0.0) (y.is, same))
  | inr other ↦ by (still_leads (asked_copy a) p) (asked_forwards a p at finds other) none
]
  where
    y : IsEvent (nodes_in u.world.places) e
    y = a.work.event

    leads : p.node ≡ y.node → ⊥
    leads one =
        let never : Some (taken p.place) ≡ None =
        sym (ap (λ b. cond b (Some (taken p.place)) (forwarded (asked_copy a) p (view_of set p.known)))
        (asked_leads u s e set a p at.0.0.0 one)) ∙ none in absurd cc

    by : (b : Bool) → (v : View) × (forwarded (asked_copy a) p (view_of set p.known) ≡ Some v.seen) →
        cond b (Some (taken p.place)) (forwarded (asked_copy a) p (view_of set p.known)) ≡ None → ⊥
    by true given never = absurd cc
    by false (v, is) never = let both : Some v.seen ≡ None = sym is ∙ never in absurd cc

-- so there is something to be found
not_vain : (u : Past) (s : Seat) (e : Event) (set : ℕ) (a : Asking u s e set) → CopiesFind set u.world (asked_by a) →
    IsVain u.world s e → ⊥
not_vain u s e set a finds (NoErrand none) =
    let never : None ≡ Some (ToCopy (asked_copy a)) = sym none ∙ asked_errand u s e set a in absurd cc
not_vain u s e set a finds (GivenNoMore k asked p at over) =
    let same = one_copying (errand_of s e) k (asked_copy a) asked (asked_errand u s e set a) in
    asked_given a p (subst (λ (c : Copying). HasReached u.world e c.provider s p) same at) finds
    (subst (λ c. given_at c p ≡ None) same over)

-- An event by which the node that applies it is to copy a set.
pub record IsAsked (t : Past) (x : Carried) (set : ℕ) : Type 0 where
  pub provider : ℕ
  pub forward : Bool
  pub era : ℕ
  pub body : x.event.body ≡ EnableSubscription set provider x.seat.node.id forward era

pub copy_comes : (t : Past) (x : Carried) (origin : ℕ) → IsTaken t origin x → (set : ℕ) → IsAsked t x set →
    ((f : Finding t x.seat x.event) → CopiesFind set f.to.world f.work.event.node
    × IsReady x.seat.node.id (read set (stream f.work.event.node)) x.event.number) →
    (k : IsCopied t x.seat x.event x.brought) × (k.copy.copying.set_id ≡ set)
copy_comes t x origin is set a finds = by is.brings
  where
    -- as it was found
    then : (f : Finding t x.seat x.event) → Asking f.to f.seat x.event set
    then f = record {
      origin = f.origin;
      work = f.work;
      provider = a.provider;
      forward = a.forward;
      era = a.era;
      body = a.body ∙ ap (λ id. EnableSubscription set a.provider id a.forward a.era)
          (sym (same_id t x.seat x.event f is.work.seat));
      ready =
          subst (λ id. IsReady id (read set (stream f.work.event.node)) x.event.number)
          (sym (same_id t x.seat x.event f is.work.seat)) (finds f).1;
    }

    by : IsBrought t x.seat x.event x.brought →
        (k : IsCopied t x.seat x.event x.brought) × (k.copy.copying.set_id ≡ set)
    by (Nothing n) = absurd (not_vain n.at.to n.at.seat x.event set (then n.at) (finds n.at).0 n.vain)
    by (Copies k) = (
      k,
      ap (λ (c : Copying). c.set_id) (one_copying (errand_of k.at.seat x.event) k.copy.copying
          (asked_copy (then k.at)) k.copy.asked (asked_errand k.at.to k.at.seat x.event set (then k.at))),
    )
    by (Brings s) =
        let never : EnableSubscription set a.provider x.seat.node.id a.forward a.era ≡ Sync =
        sym a.body ∙ s.follows.body in
        absurd cc
