-- A subscription that a node has by its configuration is one by what it has emitted.
use Rattle.std.proofs.Common.{◌≡◌, ◌⊎◌, inl, inr, ℕ, Bool, true, false, cond, List, [], ◌∷◌, Option, Some, None}
use Rattle.std.proofs.Common.{refl, sym, ap, subst, ◌∙◌, is_some, length, not}
use Rattle.std.specs.Prelude.{◌==◌, ◌&&◌, ◌||◌, ◌+◌}
use Rattle.std.proofs.lemmas.Bool.{and_from, and_parts, eq-eqb, eqb-true, false≢true, not-true, or_cases}
use Rattle.std.proofs.lemmas.Bool.{true≢false}
use Rattle.node_rows.specs.declared.body.Body.{Body}
use Rattle.node_rows.specs.declared.body.Body.TheVariants.{Sync, DropSet, SubscribeSet, EnableSubscription}
use Rattle.node_rows.specs.declared.body.Body.TheVariants.{UnsubscribeSet}
use Rattle.net_laws.specs.Subscriptions.{DropSet as Ends}
use Rattle.net_laws.specs.Subscriptions.{Enable, Subscribe, Unrelated, Unsubscribe, Event as Said}
use Rattle.net_laws.specs.Subscriptions.{Subscription as Row}
use Rattle.net_laws.specs.Subscriptions.{enabled, last_moment, row, subscribed}
use Rattle.slon_model.specs.Snapshots.{Snapshot}
use Rattle.slon_model.specs.Events.{Event}
use Rattle.slon_model.specs.Config.{is_origin}
use Rattle.slon_model.specs.Deeds.{knowledge, stream}
use Rattle.slon_model.specs.Sessions.{Seat}
use Rattle.stream_laws.specs.Nodes.{IsAmong, nodes_in}
use Rattle.stream_laws.proofs.Copies.{origin_row}
use Rattle.stream_laws.proofs.Seats.{IsSeat, seat_node}
use Rattle.stream_laws.proofs.Streams.{one_node}
use Rattle.view_laws.specs.Known.{HasFeed, is_fed, is_on_feed, leaves}
use Rattle.view_laws.specs.Past.{Past}
use Rattle.view_laws.proofs.Copied.{feeder_is}
use Rattle.view_laws.proofs.Fed.{feeds_now}
use Rattle.view_laws.proofs.FedBy.{Fed, fed_now}
use Rattle.view_laws.proofs.Moments.{regular_now}
use Rattle.net_relation.specs.Reading.{read, said_by, unfed}

-- the receiver that is told to copy a set has a subscription by the events before, with the provider that it is told
abbrev pub IsRowed : List Event → Body → Type 0
IsRowed earlier (EnableSubscription set provider receiver forward era) =
    (u : Row) × (row unfed receiver (read set earlier) ≡ Some u) × (u.provider ≡ provider)
IsRowed earlier others = Unit {0}

abbrev pub AreRowed : List Event → Type 0
AreRowed [] = Unit {0}
AreRowed (e ∷ es) = IsRowed es e.body × AreRowed es

-- ---- what the origin has emitted

some_stays : (set r : ℕ) (k : Snapshot) (body : Body) (z : List Said) → leaves set r body ≡ false →
    is_some (row unfed r z) ≡ true → is_some (row unfed r (said_by set k body ∷ z)) ≡ true
some_stays set r k (SubscribeSet id provider receiver forward) z stays had = by (id == set)
  where
    at : (c : Bool) (made : Row) → is_some (cond c (Some made) (row unfed r z)) ≡ true
    at true made = refl
    at false made = had

    by : (b : Bool) →
        is_some (row unfed r (cond b (Subscribe receiver provider forward) Unrelated ∷ z)) ≡ true
    by true = at (r == receiver) _
    by false = had
some_stays set r k (EnableSubscription id provider receiver forward era) z stays had = by (id == set)
  where
    kept : (n : ℕ) (o : Option Row) → is_some o ≡ true → is_some (enabled n o) ≡ true
    kept n None none = absurd (false≢true none)
    kept n (Some u) some = refl

    at : (c : Bool) (n : ℕ) → is_some (cond c (enabled n (row unfed r z)) (row unfed r z)) ≡ true
    at true n = kept n (row unfed r z) had
    at false n = had

    by : (b : Bool) → is_some (row unfed r (cond b (Enable receiver) Unrelated ∷ z)) ≡ true
    by true = at (r == receiver) _
    by false = had
some_stays set r k (UnsubscribeSet id receiver) z stays had = by (id == set) refl
  where
    at : (c : Bool) → (r == receiver) ≡ c → (id == set) ≡ true → is_some (cond c None (row unfed r z)) ≡ true
    at true same own =
        absurd (true≢false (sym (and_from (id == set) (receiver == r) own
        (eq-eqb receiver r (sym (eqb-true r receiver same)))) ∙ stays))
    at false other own = had

    by : (b : Bool) → (id == set) ≡ b → is_some (row unfed r (cond b (Unsubscribe receiver) Unrelated ∷ z)) ≡ true
    by true own = at (r == receiver) refl own
    by false other = had
some_stays set r k (DropSet id) z stays had = by (id == set) refl
  where
    by : (b : Bool) → (id == set) ≡ b → is_some (row unfed r (cond b Ends Unrelated ∷ z)) ≡ true
    by true own = absurd (true≢false (sym own ∙ stays))
    by false other = had
some_stays set r k Sync z stays had = had
some_stays set r k others z stays had = had

-- the event by which a receiver subscribes, or is told to copy the set, makes a subscription, or finds one
on_made : (set r : ℕ) (k : Snapshot) (es : List Event) (body : Body) → IsRowed es body → is_on_feed set r body ≡ true →
    is_some (row unfed r (said_by set k body ∷ read set es)) ≡ true
on_made set r k es (SubscribeSet id provider receiver forward) rowed on =
    let both = and_parts (id == set) (receiver == r) (left (id == set && receiver == r) on) in
    ap (λ b. is_some (row unfed r (cond b (Subscribe receiver provider forward) Unrelated ∷ read set es))) both.0
    ∙ ap (λ b. is_some (cond b (Some made) (row unfed r (read set es))))
    (eq-eqb r receiver (sym (eqb-true receiver r both.1)))
  where
    made : Row
    made =
        subscribed (length (read set es) + 1) (last_moment (read set es)) provider forward (row unfed r (read set es))

    left : (b : Bool) → (b || false) ≡ true → b ≡ true
    left true is = refl
    left false is = is
on_made set r k es (EnableSubscription id provider receiver forward era) rowed on =
    some_stays set r k (EnableSubscription id provider receiver forward era) (read set es) refl
    (subst (λ i. is_some (row unfed r (read i es)) ≡ true) (eqb-true id set both.0)
    (subst (λ i. is_some (row unfed i (read id es)) ≡ true) (eqb-true receiver r both.1) (ap is_some rowed.1)))
  where
    both : ((id == set) ≡ true) × ((receiver == r) ≡ true)
    both = and_parts (id == set) (receiver == r) on
on_made set r k es others rowed on = absurd (false≢true on)

-- the subscription of a receiver that subscribes by these events is there
fed_row : (set r : ℕ) (es : List Event) → AreRowed es → is_fed set r es ≡ true →
    is_some (row unfed r (read set es)) ≡ true
fed_row set r [] rowed fed = absurd (false≢true fed)
fed_row set r (f ∷ es) rowed fed =
    by (or_cases (is_on_feed set r f.body) (not (leaves set r f.body) && is_fed set r es) fed)
    (fed_row set r es rowed.1)
  where
    by : (is_on_feed set r f.body ≡ true) ⊎ ((not (leaves set r f.body) && is_fed set r es) ≡ true) →
        (is_fed set r es ≡ true → is_some (row unfed r (read set es)) ≡ true) →
        is_some (row unfed r (said_by set f.taken f.body ∷ read set es)) ≡ true
    by (inl on) rest = on_made set r f.taken es f.body rowed.0 on
    by (inr later) rest =
        let parts = and_parts (not (leaves set r f.body)) (is_fed set r es) later in
        some_stays set r f.taken f.body (read set es) (not-true (leaves set r f.body) parts.0) (rest parts.1)

some_row : (o : Option Row) → is_some o ≡ true → (u : Row) × (o ≡ Some u)
some_row None none = absurd (false≢true none)
some_row (Some u) some = (u, refl)

-- An event of the node at its seat which is of a subscription to a set.
pub record TellsOf (s : Seat) (set r : ℕ) : Type 0 where
  pub event : Event
  pub among : IsAmong event (stream s.node)
  pub on : is_on_feed set r event.body ≡ true

-- the origin of a set has emitted what made each subscription to it
pub tells_of : (t : Past) (s : Seat) → IsSeat t.world.places s → (set r : ℕ) →
    is_origin s.node.id set (knowledge s.node).config ≡ true → HasFeed set r (knowledge s.node).config → TellsOf s set r
tells_of t s is set r leads had = record {
  event = fed.event;
  among =
      subst (λ n. IsAmong fed.event (stream n)) (one_node (nodes_in t.world.places) (regular_now t).nodes
      fed.is.name s.name fed.is.node s.node fed.is.is (
        own,
        sym (feeder_is t fed.event fed.is set fed.feeds s is
            (origin_row s.node.id set (knowledge s.node).config leads)),
      )) fed.is.among;
  on = fed.on;
}
  where
    own : nodes_in t.world.places s.name ≡ Some s.node
    own = seat_node t.world.places s is

    fed : Fed t set r
    fed = fed_now t s.name s.node own set r had

-- and has that subscription by its events
pub has_row : (t : Past) (s : Seat) → IsSeat t.world.places s → (set r : ℕ) →
    is_origin s.node.id set (knowledge s.node).config ≡ true → AreRowed (stream s.node) →
    HasFeed set r (knowledge s.node).config → (u : Row) × (row unfed r (read set (stream s.node)) ≡ Some u)
has_row t s is set r leads rowed had =
    let told = tells_of t s is set r leads had in
    some_row (row unfed r (read set (stream s.node))) (fed_row set r (stream s.node) rowed
    (sym (feeds_now t s.name s.node (seat_node t.world.places s is) set r told.event told.among told.on) ∙ had))
