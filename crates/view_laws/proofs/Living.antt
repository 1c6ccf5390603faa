-- What each deed of a node keeps is kept by every history.
use Rattle.std.proofs.Common.{◌≡◌, ◌⊎◌, inl, inr, ℕ, true, List, [], ◌∷◌, Option, Some, None}
use Rattle.std.proofs.Common.{refl, sym, ap, subst, ◌∙◌}
use Rattle.std.specs.Prelude.{◌+◌, ◌==◌, option_map}
use Rattle.std.specs.Option.{option_or}
use Rattle.node_rows.specs.declared.body.Body.{Body}
use Rattle.node_rows.specs.declared.body.Body.TheVariants.{Sync, SubscribeSet, EnableSubscription}
use Rattle.slon_model.specs.Names.{find_named}
use Rattle.slon_model.specs.Events.{Event}
use Rattle.slon_model.specs.Config.{is_origin}
use Rattle.slon_model.specs.Maps.{pair_at}
use Rattle.std.proofs.lemmas.Bool.{and_from, eq-eqb}
use Rattle.slon_model.specs.Deeds.{Node, Deed, Emits, Hears as HearsOf, knowledge, stream, with_deeds}
use Rattle.slon_model.specs.Place.{Place, deed, taken}
use Rattle.slon_model.specs.Moves.{Move, done, with_commit}
use Rattle.slon_model.specs.Deciding.{decide, move_of}
use Rattle.slon_model.specs.Sessions.{World, Commit, Seat, Emission, committing, emissions, next_event, tells}
use Rattle.slon_model.specs.Working.{Carried}
use Rattle.slon_model.proofs.Names.{all_found, one_found}
use Rattle.slon_laws.specs.Worlds.{AllPlaces}
use Rattle.stream_laws.specs.Nodes.{nodes_in, node_in}
use Rattle.stream_laws.proofs.Seats.{IsSeat}
use Rattle.stream_laws.proofs.Steps.{Logs, prepared_node, done_logs}
use Rattle.view_laws.proofs.Doing.{IsTaken}
use Rattle.view_laws.specs.Known.{subscribes}
use Rattle.view_laws.specs.Past.{Past, PastUpTo, WasBefore, WasUpTo}
use Rattle.view_laws.proofs.Doing.{IsAllowed, AreAllowed, IsOne, AreChanges, AreFeeds, taking, KnowsFrom}
use Rattle.view_laws.proofs.Doing.{Does, DoesTell, DoesTake, DoesHear, DoesBecome}
use Rattle.view_laws.proofs.Walking.{Passes, LivesOn}

abbrev pub event_of : Seat → ℕ → Body → Event
event_of s number body = record { origin = s.node.id; number = number; taken = taken s.place; body = body }

abbrev pub deed_of : Seat → ℕ → Emission → Deed
deed_of s number m = deed s.place m.rows [] (Emits (event_of s number m.body))

-- The node at its seat, which did not have the subscription of the receiver, has emitted a SYNC, and then the event by
-- which the receiver subscribes to the set.
pub record HasSubscribed (set receiver : ℕ) (s : Seat) (n : Node) : Type 0 where
  pub event : Event
  pub sync : Event
  pub all : stream n ≡ event ∷ sync ∷ stream s.node
  pub subscribes : subscribes set receiver event.body ≡ true
  pub body : sync.body ≡ Sync
  pub new : pair_at set receiver (knowledge s.node).config.subscriptions ≡ None

-- The node at its seat has emitted a SYNC.
pub record HasSynced (s : Seat) (n : Node) : Type 0 where
  pub sync : Event
  pub all : stream n ≡ sync ∷ stream s.node
  pub body : sync.body ≡ Sync

-- An event of a subscription to a set of which the node at its seat is the origin, which is this one by now.
abbrev pub IsOfFeed : Seat → Node → Body → Type 0
IsOfFeed s n Sync = n ≡ s.node
IsOfFeed s n (SubscribeSet set provider receiver forward) =
    (is_origin s.node.id set (knowledge s.node).config ≡ true) × HasSynced s n
IsOfFeed s n (EnableSubscription set provider receiver forward era) =
    (is_origin s.node.id set (knowledge s.node).config ≡ true) × HasSubscribed set receiver s n
IsOfFeed s n others = ⊥

-- The node at its seat, as it is by now in a commit, may emit it.
abbrev pub Says : Seat → Node → Emission → Type 0
Says s n m = ((n ≡ s.node) × IsAllowed s m.body) ⊎ IsOfFeed s n m.body

-- What was known of each node of the session before the step.
abbrev pub Knew : ((World → Type 0) → Node → Type 0) → Past → Type 0
Knew J t = (name : List ℕ) (m : Node) → nodes_in t.world.places name ≡ Some m → J (WasBefore t) m

-- and in each session before
abbrev pub KnewAll : ((World → Type 0) → Node → Type 0) → Past → Type 0
KnewAll J t = (s : Past) → PastUpTo t s → Knew J s

-- What holds of a new node, and is kept by each deed of a node. It may speak of the sessions before.
pub record NodeLives (J : (World → Type 0) → Node → Type 0) : Type 0 where
  pub later : (t : Past) (n : Node) → J (WasBefore t) n → J (WasUpTo t) n
  pub logs : (t : Past) (n : Node) (p : Place) (xid : ℕ) → J (WasUpTo t) n → J (WasUpTo t) (with_commit xid p n)
  pub tells : (t : Past) (s : Seat) → IsSeat t.world.places s → (number : ℕ) (m : Emission) (n : Node) → Says s n m →
      J (WasUpTo t) n → J (WasUpTo t) (with_deeds (deed_of s number m ∷ []) n)
  pub takes : (t : Past) → KnewAll J t → (x : Carried) (origin : ℕ) → IsTaken t origin x →
      J (WasUpTo t) x.seat.node → J (WasUpTo t) (with_deeds (taking x).deeds x.seat.node)
  pub hears : (t : Past) (s : Seat) (confirms : List (ℕ × ℕ × ℕ)) → J (WasUpTo t) s.node →
      J (WasUpTo t) (with_deeds (deed s.place [] [] (HearsOf confirms) ∷ []) s.node)
  pub becomes : (t : Past) → Knew J t → (n : Node) → n.deeds ≡ [] → n.given.views ≡ [] → KnowsFrom t.world n →
      J (WasUpTo t) n

abbrev pub OfNode : ((World → Type 0) → Node → Type 0) → (World → Type 0) → Place → Type 0
OfNode J Was p = (n : Node) → p.node ≡ Some n → J Was n

-- what is known of every node of a session
pub knew : (J : (World → Type 0) → Node → Type 0) (t : Past) → AllPlaces (OfNode J (WasBefore t)) t.world → Knew J t
knew J t all name m is = by (find_named name t.world.places) refl is
  where
    by : (o : Option Place) → find_named name t.world.places ≡ o → node_in o ≡ Some m → J (WasBefore t) m
    by None found none = absurd cc
    by (Some p) found at = all_found (OfNode J (WasBefore t)) name p t.world.places all found m at

-- ---- a commit

-- the node of a database that does these deeds
pub does_node : (c : Commit) (p : Place) (n : Node) → c.becomes ≡ None → p.node ≡ Some n →
    (committing c p).node ≡ Some (with_deeds c.deeds n)
does_node c p n none is =
    ap (λ o. option_map (with_deeds c.deeds) (option_or o p.node)) none ∙ ap (option_map (with_deeds c.deeds)) is

-- each event keeps it
abbrev pub TellsKeep : Seat → (Node → Type 0) → Type 0
TellsKeep s T = (number : ℕ) (m : Emission) (n : Node) → Says s n m → T n → T (with_deeds (deed_of s number m ∷ []) n)

pub tells_lives : (T : Node → Type 0) (s : Seat) → TellsKeep s T → (ms : List Emission) → AreAllowed s ms → T s.node →
    T (with_deeds (emissions s (next_event s) ms) s.node)
tells_lives T s tell ms (IsOne m same may) was =
    subst (λ ms. T (with_deeds (emissions s (next_event s) ms) s.node)) (sym same)
    (tell (next_event s) m s.node (inl (refl, may)) was)
tells_lives T s tell ms (AreFeeds era f same may) was =
    subst (λ ms. T (with_deeds (emissions s (next_event s) ms) s.node)) (sym same)
    (tell (next_event s + 1 + 1) (tells enables) two
    (inr (
      may.leads,
      record {
        event = event_of s (next_event s + 1) first;
        sync = event_of s (next_event s) Sync;
        all = refl;
        subscribes =
            and_from (f.set_id == f.set_id) (f.receiver == f.receiver) (eq-eqb f.set_id f.set_id refl)
            (eq-eqb f.receiver f.receiver refl);
        body = refl;
        new = may.new;
      },
    ))
    (tell (next_event s + 1) (tells first) one
    (inr (may.leads, record { sync = event_of s (next_event s) Sync; all = refl; body = refl }))
    (tell (next_event s) (tells Sync) s.node (inr refl) was)))
  where
    first : Body
    first = SubscribeSet f.set_id f.provider f.receiver f.forward

    enables : Body
    enables = EnableSubscription f.set_id f.provider f.receiver f.forward era

    one : Node
    one = with_deeds (deed_of s (next_event s) (tells Sync) ∷ []) s.node

    two : Node
    two = with_deeds (deed_of s (next_event s + 1) (tells first) ∷ []) one
tells_lives T s tell ms (AreChanges f same leads) was =
    subst (λ ms. T (with_deeds (emissions s (next_event s) ms) s.node)) (sym same)
    (tell (next_event s + 1) (tells (SubscribeSet f.set_id f.provider f.receiver f.forward))
    (with_deeds (deed_of s (next_event s) (tells Sync) ∷ []) s.node)
    (inr (leads, record { sync = event_of s (next_event s) Sync; all = refl; body = refl }))
    (tell (next_event s) (tells Sync) s.node (inr refl) was))

commits_live : {J : (World → Type 0) → Node → Type 0} → NodeLives J → (t : Past) → KnewAll J t → (c : Commit)
    (p : Place) → Does t c p → OfNode J (WasUpTo t) p → OfNode J (WasUpTo t) (committing c p)
commits_live {J} l t before c p (DoesTell d) was m at =
    subst (J (WasUpTo t)) (one_found _ m (sym node ∙ at))
    (subst (λ (k : Commit). J (WasUpTo t) (with_deeds k.deeds d.seat.node)) (sym d.commit)
    (tells_lives (J (WasUpTo t)) d.seat (l.tells t d.seat d.is) d.emits d.may (was d.seat.node here)))
  where
    here : p.node ≡ Some d.seat.node
    here = ap (λ (q : Place). q.node) (sym d.at) ∙ d.is.node

    node : (committing c p).node ≡ Some (with_deeds c.deeds d.seat.node)
    node = does_node c p d.seat.node (ap (λ (k : Commit). k.becomes) d.commit) here
commits_live {J} l t before c p (DoesTake d) was m at =
    subst (J (WasUpTo t)) (one_found _ m (sym node ∙ at))
    (subst (λ (k : Commit). J (WasUpTo t) (with_deeds k.deeds d.carried.seat.node)) (sym d.commit)
    (l.takes t before d.carried d.origin d.is (was d.carried.seat.node here)))
  where
    here : p.node ≡ Some d.carried.seat.node
    here = ap (λ (q : Place). q.node) (sym d.at) ∙ d.is.work.seat.node

    node : (committing c p).node ≡ Some (with_deeds c.deeds d.carried.seat.node)
    node = does_node c p d.carried.seat.node (ap (λ (k : Commit). k.becomes) d.commit) here
commits_live {J} l t before c p (DoesHear d) was m at =
    subst (J (WasUpTo t)) (one_found _ m (sym node ∙ at))
    (subst (λ (k : Commit). J (WasUpTo t) (with_deeds k.deeds d.seat.node)) (sym d.commit)
    (l.hears t d.seat d.confirms (was d.seat.node here)))
  where
    here : p.node ≡ Some d.seat.node
    here = ap (λ (q : Place). q.node) (sym d.at) ∙ d.is.node

    node : (committing c p).node ≡ Some (with_deeds c.deeds d.seat.node)
    node = does_node c p d.seat.node (ap (λ (k : Commit). k.becomes) d.commit) here
commits_live {J} l t before c p (DoesBecome d) was m at =
    subst (J (WasUpTo t)) (one_found d.node m (sym node ∙ at))
    (l.becomes t (before t (inl refl)) d.node d.deeds d.views d.knows)
  where
    node : (committing c p).node ≡ Some d.node
    node =
        ap (λ (k : Commit). option_map (with_deeds k.deeds) (option_or k.becomes p.node)) d.commit

-- ---- a task of the database

done_lives : {J : (World → Type 0) → Node → Type 0} → NodeLives J → (t : Past) (move : Move) (p : Place) →
    OfNode J (WasUpTo t) p → OfNode J (WasUpTo t) (done move p)
done_lives {J} l t move p was m at = by (done_logs move p)
  where
    made : (xid : ℕ) (o : Option Node) → p.node ≡ o → option_map (with_commit xid p) o ≡ Some m → J (WasUpTo t) m
    made xid None is none = absurd cc
    made xid (Some n) is some =
        subst (J (WasUpTo t)) (one_found (with_commit xid p n) m some) (l.logs t n p xid (was n is))

    by : Logs p (done move p).node → J (WasUpTo t) m
    by (inl same) = was m (sym same ∙ at)
    by (inr (xid, log)) = made xid p.node refl (sym log ∙ at)

-- what every deed keeps of a node lives on
pub node_lives : {J : (World → Type 0) → Node → Type 0} → NodeLives J → LivesOn (OfNode J)
node_lives {J} l = record {
  bare = λ t n is. absurd cc;
  stays = λ t p was n is. l.later t n (was n is);
  passes = λ t all. record {
    stays = λ p was n is. l.later t n (was.1 n is);
    prepares = λ move p was n is. l.later t n (was.1 n (sym (prepared_node move p) ∙ is));
    moves = λ task p may was. done_lives l t (move_of (decide task p)) p (λ n is. l.later t n (was.1 n is));
    falls = λ count p was. was;
    wavers = λ stands p was. was;
    promises = λ node p was. was;
    commits = λ c p step was.
        commits_live l t (λ s to. knew J s (all s to)) c p step.does (λ n is. l.later t n (was.1 n is));
  };
}

-- ---- one node

-- What each deed of a script or a turn keeps.
pub record NodeDoes (t : Past) (T : Node → Type 0) : Type 0 where
  pub tells : (s : Seat) → IsSeat t.world.places s → TellsKeep s T
  pub takes : (x : Carried) (origin : ℕ) → IsTaken t origin x → T x.seat.node →
      T (with_deeds (taking x).deeds x.seat.node)
  pub hears : (s : Seat) (confirms : List (ℕ × ℕ × ℕ)) → T s.node →
      T (with_deeds (deed s.place [] [] (HearsOf confirms) ∷ []) s.node)

-- and each commit of rows
pub record NodeGoes (t : Past) (T : Node → Type 0) : Type 0 where
  pub logs : (n : Node) (p : Place) (xid : ℕ) → T n → T (with_commit xid p n)
  pub does : NodeDoes t T

-- the database is such a node
abbrev pub HasNode : (Node → Type 0) → Place → Type 0
HasNode T p = (n : Node) × (p.node ≡ Some n) × T n

pub commits_goes : {T : Node → Type 0} (t : Past) → NodeDoes t T → (c : Commit) (p : Place) → Does t c p →
    HasNode T p → HasNode T (committing c p)
commits_goes {T} t l c p (DoesTell d) (n, is, was) = (
  with_deeds c.deeds d.seat.node,
  does_node c p d.seat.node (ap (λ (k : Commit). k.becomes) d.commit) here,
  subst (λ (k : Commit). T (with_deeds k.deeds d.seat.node)) (sym d.commit)
      (tells_lives T d.seat (l.tells d.seat d.is) d.emits d.may
      (subst T (one_found n d.seat.node (sym is ∙ here)) was)),
)
  where
    here : p.node ≡ Some d.seat.node
    here = ap (λ (q : Place). q.node) (sym d.at) ∙ d.is.node
commits_goes {T} t l c p (DoesTake d) (n, is, was) = (
  with_deeds c.deeds d.carried.seat.node,
  does_node c p d.carried.seat.node (ap (λ (k : Commit). k.becomes) d.commit) here,
  subst (λ (k : Commit). T (with_deeds k.deeds d.carried.seat.node)) (sym d.commit)
      (l.takes d.carried d.origin d.is (subst T (one_found n d.carried.seat.node (sym is ∙ here)) was)),
)
  where
    here : p.node ≡ Some d.carried.seat.node
    here = ap (λ (q : Place). q.node) (sym d.at) ∙ d.is.work.seat.node
commits_goes {T} t l c p (DoesHear d) (n, is, was) = (
  with_deeds c.deeds d.seat.node,
  does_node c p d.seat.node (ap (λ (k : Commit). k.becomes) d.commit) here,
  subst (λ (k : Commit). T (with_deeds k.deeds d.seat.node)) (sym d.commit)
      (l.hears d.seat d.confirms (subst T (one_found n d.seat.node (sym is ∙ here)) was)),
)
  where
    here : p.node ≡ Some d.seat.node
    here = ap (λ (q : Place). q.node) (sym d.at) ∙ d.is.node
commits_goes t l c p (DoesBecome d) (n, is, was) =
    let never : None ≡ Some n = sym d.none ∙ is in absurd cc

done_goes : {T : Node → Type 0} (t : Past) → NodeGoes t T → (move : Move) (p : Place) → HasNode T p →
    HasNode T (done move p)
done_goes {T} t l move p (n, is, was) = by (done_logs move p)
  where
    by : Logs p (done move p).node → HasNode T (done move p)
    by (inl same) = (n, same ∙ is, was)
    by (inr (xid, log)) =
        (with_commit xid p n, log ∙ ap (option_map (with_commit xid p)) is, l.logs n p xid was)

-- it holds of the node of a database later
pub node_passes : {T : Node → Type 0} (t : Past) → NodeGoes t T → Passes t (HasNode T) (HasNode T)
node_passes {T} t l = record {
  stays = λ p was. was;
  prepares = λ move p (n, is, was). (n, prepared_node move p ∙ is, was);
  moves = λ task p may was. done_goes t l (move_of (decide task p)) p was;
  falls = λ count p was. was;
  wavers = λ stands p was. was;
  promises = λ node p was. was;
  commits = λ c p step was. commits_goes t l.does c p step.does was;
}
