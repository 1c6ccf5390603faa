-- Each event was emitted in a session of the history, with the snapshot of then.
use Rattle.std.proofs.Common.{◌≡◌, inl, inr, ℕ, ◌<◌, true, List, [], ◌∷◌, ◌++◌, refl, sym, ap, subst, ◌∙◌, arith}
use Rattle.std.proofs.lemmas.Bool.{eqb-true, false≢true}
use Rattle.node_rows.specs.declared.body.Body.{Body}
use Rattle.node_rows.specs.declared.body.Body.TheVariants.{Sync, DropSet, SubscribeSet, EnableSubscription}
use Rattle.node_rows.specs.declared.body.Body.TheVariants.{UnsubscribeSet}
use Rattle.slon_model.specs.Config.{is_origin}
use Rattle.slon_model.specs.Events.{Event, is_sync}
use Rattle.slon_model.specs.Place.{taken}
use Rattle.slon_model.specs.Deeds.{Node, knowledge, stream}
use Rattle.slon_model.specs.Sessions.{World, Seat, Emission}
use Rattle.slon_model.proofs.Names.{all_map}
use Rattle.stream_laws.specs.Nodes.{IsAmong, nodes_in, IsEvent}
use Rattle.stream_laws.proofs.Streams.{Found, among_found, number_within}
use Rattle.view_laws.proofs.Reached.{regular_now}
use Rattle.stream_laws.proofs.Lists.{all_among}
use Rattle.stream_laws.proofs.Seats.{IsSeat}
use Rattle.view_laws.specs.Known.{AllTaken, AreTaken, IsEmitted, IsTakenAt, AreEmitted, feeds}
use Rattle.view_laws.specs.Past.{Past, Moment, WasBefore, WasUpTo}
use Rattle.view_laws.proofs.Doing.{IsAllowed}
use Rattle.view_laws.proofs.Living.{IsOfFeed, NodeLives, Says, knew, node_lives}
use Rattle.view_laws.proofs.Walking.{lives_in}

-- a moment among more sessions
abbrev pub moment_of : (Was Now : World → Type 0) → ((u : World) → Was u → Now u) → Moment Was → Moment Now
moment_of Was Now on m =
    record {
      session = m.session;
      was = on m.session m.was;
      name = m.name;
      place = m.place;
      found = m.found;
      node = m.node;
      at = m.at;
    }

abbrev pub moment_later : (t : Past) → Moment (WasBefore t) → Moment (WasUpTo t)
moment_later t m = moment_of (WasBefore t) (WasUpTo t) (λ u was. inr was) m

-- the session of now
abbrev pub moment_now : (t : Past) (s : Seat) → IsSeat t.world.places s → Moment (WasUpTo t)
moment_now t s is =
    record {
      session = t.world;
      was = inl refl;
      name = s.name;
      place = s.place;
      found = is.found;
      node = s.node;
      at = is.node;
    }

emitted_later : (t : Past) (e : Event) → IsEmitted (WasBefore t) e → IsEmitted (WasUpTo t) e
emitted_later t e is =
    record { moment = moment_later t is.moment; own = is.own; taken = is.taken; leads = is.leads }

-- who tells of a subscription to a set is the origin of it
allowed_leads : (s : Seat) (body : Body) → IsAllowed s body → (set : ℕ) → feeds set body ≡ true →
    is_origin s.node.id set (knowledge s.node).config ≡ true
allowed_leads s (SubscribeSet id provider receiver forward) may set feed = absurd may
allowed_leads s (EnableSubscription id provider receiver forward era) may set feed = absurd may
allowed_leads s (UnsubscribeSet id receiver) may set feed =
    subst (λ i. is_origin s.node.id i (knowledge s.node).config ≡ true) (eqb-true id set feed) may
allowed_leads s (DropSet id) may set feed =
    subst (λ i. is_origin s.node.id i (knowledge s.node).config ≡ true) (eqb-true id set feed) may
allowed_leads s others may set feed = absurd (false≢true feed)

feed_leads : (s : Seat) (n : Node) (body : Body) → IsOfFeed s n body → (set : ℕ) → feeds set body ≡ true →
    is_origin s.node.id set (knowledge s.node).config ≡ true
feed_leads s n (SubscribeSet id provider receiver forward) is set feed =
    subst (λ i. is_origin s.node.id i (knowledge s.node).config ≡ true) (eqb-true id set feed) is.0
feed_leads s n (EnableSubscription id provider receiver forward era) is set feed =
    subst (λ i. is_origin s.node.id i (knowledge s.node).config ≡ true) (eqb-true id set feed) is.0
feed_leads s n (UnsubscribeSet id receiver) is set feed = absurd is
feed_leads s n (DropSet id) is set feed = absurd is
feed_leads s n others is set feed = absurd (false≢true feed)

says_leads : (s : Seat) (n : Node) (m : Emission) → Says s n m → (set : ℕ) → feeds set m.body ≡ true →
    is_origin s.node.id set (knowledge s.node).config ≡ true
says_leads s n m (inl may) = allowed_leads s m.body may.1
says_leads s n m (inr feed) = feed_leads s n m.body feed

events_emitted : NodeLives AreEmitted
events_emitted = record {
  later = λ t n. all_map (IsEmitted (WasBefore t)) (IsEmitted (WasUpTo t)) (emitted_later t) (stream n);
  logs = λ t n p xid was. was;
  tells = λ t s is number m n says was. (
    record { moment = moment_now t s is; own = refl; taken = refl; leads = says_leads s n m says },
    was,
  );
  takes = λ t knew x origin is was. was;
  hears = λ t s confirms was. was;
  becomes = λ t knew n deeds views knows.
      subst (λ ds. AreEmitted (WasUpTo t) (record n { deeds = ds })) (sym deeds) tt;
}

-- ---- SYNCs

taken_later : (t : Past) (own : ℕ) (es : List Event) → AllTaken (WasBefore t) own es → AllTaken (WasUpTo t) own es
taken_later t own [] all = tt
taken_later t own (e ∷ es) all = (
  λ sync. let at = all.0 sync in
      record { moment = moment_later t at.moment; is_own = at.is_own; taken = at.taken; before = at.before },
  taken_later t own es all.1,
)

-- who emits a SYNC has emitted no other event in that commit
sync_alone : (s : Seat) (n : Node) (m : Emission) → Says s n m → is_sync m.body ≡ true → n ≡ s.node
sync_alone s n m (inl may) sync = may.0
sync_alone s n m (inr feed) sync = by m.body sync feed
  where
    by : (body : Body) → is_sync body ≡ true → IsOfFeed s n body → n ≡ s.node
    by Sync sync same = same
    by others sync feed = absurd (false≢true sync)

syncs_taken : NodeLives AreTaken
syncs_taken = record {
  later = λ t n. taken_later t n.id (stream n);
  logs = λ t n p xid was. was;
  tells = λ t s is number m n says was. (
    λ sync. let same = sync_alone s n m says sync in
        record {
          moment = moment_now t s is;
          is_own = ap (λ (x : Node). x.id) (sym same);
          taken = refl;
          before = ap stream (sym same);
        },
    was,
  );
  takes = λ t knew x origin is was. was;
  hears = λ t s confirms was. was;
  becomes = λ t knew n deeds views knows.
      subst (λ ds. AreTaken (WasUpTo t) (record n { deeds = ds })) (sym deeds) tt;
}

taken_at : (Was : World → Type 0) (own : ℕ) (later : List Event) (e : Event) (earlier : List Event) →
    AllTaken Was own (later ++ e ∷ earlier) → is_sync e.body ≡ true → IsTakenAt Was own earlier e
taken_at Was own [] e earlier all sync = all.0 sync
taken_at Was own (f ∷ later) e earlier all sync = taken_at Was own later e earlier all.1 sync

-- The session in which a SYNC was emitted: what the node had emitted there is of lower numbers.
pub record SyncAt (t : Past) (e : Event) : Type 0 where
  pub moment : Moment (WasUpTo t)
  pub own : moment.node.id ≡ e.origin
  pub taken : e.taken ≡ taken moment.place
  pub before : (f : Event) → IsAmong f (stream moment.node) → f.number < e.number

pub sync_in : (t : Past) (e : Event) → IsEvent (nodes_in t.world.places) e → is_sync e.body ≡ true → SyncAt t e
sync_in t e is sync = record {
  moment = moment_later t at.moment;
  own = at.is_own ∙ is.own;
  taken = at.taken;
  before = λ g among.
      let within = number_within is.node.id f.earlier g f.are.3 (subst (IsAmong g) at.before among) in
      let number = f.are.1 in
      omega (arith, within.1, number);
}
  where
    f : Found is.node.id (stream is.node) e
    f = among_found is.node.id (stream is.node) e ((regular_now t).nodes.each is.name is.node is.is).emitted is.among

    at : IsTakenAt (WasBefore t) is.node.id f.earlier e
    at = taken_at (WasBefore t) is.node.id f.later e f.earlier
        (subst (AllTaken (WasBefore t) is.node.id) f.all
        (knew AreTaken t (lives_in (node_lives syncs_taken) t) is.name is.node is.is)) sync

pub sync_feeds : (set : ℕ) (body : Body) → is_sync body ≡ true → feeds set body ≡ true → ⊥
sync_feeds set Sync sync feed = false≢true feed
sync_feeds set others sync feed = false≢true sync

-- what is known of when any event was emitted
abbrev pub sync_emitted : (t : Past) (e : Event) → is_sync e.body ≡ true → SyncAt t e → IsEmitted (WasUpTo t) e
sync_emitted t e sync at = record {
  moment = at.moment;
  own = at.own;
  taken = at.taken;
  leads = λ set feed. absurd (sync_feeds set e.body sync feed);
}

-- ---- every event

-- each event of the session was emitted in one of its history
pub emitted_in : (t : Past) (e : Event) → IsEvent (nodes_in t.world.places) e → IsEmitted (WasUpTo t) e
emitted_in t e is =
    emitted_later t e (all_among (IsEmitted (WasBefore t)) e (stream is.node)
    (knew AreEmitted t (lives_in (node_lives events_emitted) t) is.name is.node is.is) is.among)
