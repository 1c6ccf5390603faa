-- What comes of reading what was logged for the sets that a node keeps, each set at its provider.
use Rattle.std.specs.Prelude.{◌≡◌, ◌||◌, ℕ, true, false, List, [], ◌∷◌, get_or, map, None, Some, Result, Ok, Err}
use Rattle.std.specs.Str.{bytes_eq}
use Rattle.slon_base.specs.Keeper.{Kept as KeptStore}
use Rattle.slon_base.specs.declared.fault.Halt.{Halt as HaltOf}
use Rattle.slon_base.specs.declared.keeper.Keeper.{Ghosts}
use Rattle.slon_model.specs.declared.reply.Refusal.{Refusal}
use Rattle.slon_model.specs.declared.reply.Reply.{Reply}
use Rattle.slon_model.specs.declared.reply.Reply.TheVariants.{Refused}
use Rattle.slon_model.specs.Deeds.{Node, knowledge}
use Rattle.slon_model.specs.Events.{Event}
use Rattle.slon_model.specs.Following.{SetSync}
use Rattle.slon_model.specs.Logs.{logged}
use Rattle.slon_model.specs.Names.{Named, find_named}
use Rattle.slon_model.specs.Place.{Place}
use Rattle.slon_model.specs.Sessions.{World, Memory, Seat, bind, first_refusal, seat}
use Rattle.slon_model.specs.Working.{ToFollow, next_at, providers_in}
use Rattle.slon_model.specs.World.{is_of_one}
use Rattle.event_store.specs.declared.event.Event as declared
use Rattle.event_store.specs.Seen.{seen_event}
use Rattle.app_store.specs.Base.{Base}
use Rattle.app_store.specs.Fits.{Fits, Ready}
use Rattle.remote_worker.specs.declared.keeping.KeptSet.{KeptSet}
use Rattle.remote_worker.specs.declared.loading.SetFetch.{SetFetch}
use Rattle.remote_worker.specs.declared.worker.Taken.{Taken}
use Rattle.remote_worker.specs.declared.worker.Worker.{Worker}
use Rattle.remote_worker.specs.Fetching.{is_loud, provider_checks}
use Rattle.remote_worker.specs.declared.running.Run.{Run}
use Rattle.remote_worker.specs.Keeping.{HaveEndedBy, Kept, kept_among, seen_kept, taken_of}
use Rattle.remote_worker.specs.Loading.{HaveFetches}
use Rattle.remote_worker.specs.Running.{seen_run, taken_run}
use Rattle.slonik_exec.specs.declared.databases.Named.{Named as NamedDatabase}
use Rattle.slonik_exec.specs.Answering.{AtSeat, Checks, EndsAt}
use Rattle.slonik_exec.specs.Databases.{AreReady, FitsAll, Runs, TriesAll, bases_of, told_by}
use Rattle.slonik_exec.specs.Executing.{Comes}
use Rattle.slonik_exec.specs.Heard.{AreSame, BreaksDown}
use Rattle.slonik_exec.specs.Turning.{SitsOn}
use Rattle.slon_turns.specs.declared.bounds.Bound.{Bound}
use Rattle.slon_turns.specs.declared.following.Looked.{Looked}
use Rattle.slon_turns.specs.declared.following.Looked.TheVariants.{Told, Gives}
use Rattle.slon_turns.specs.declared.following.Round.{Round}
use Rattle.slon_turns.specs.declared.held.Held.{Held}
use Rattle.slon_turns.specs.Applying.{Finder, Post, end_at, left_in, nodes_at, provided_in, seat_in, syncs_with}
use Rattle.slon_turns.specs.Bounds.{AreBounds, AreLearned}
use Rattle.slon_turns.specs.Fetching.{post_of}
use Rattle.slon_turns.specs.Holding.{Holds, IsUpIn, Keeps}
use Rattle.slon_turns.specs.Planning.{TookUp, link_checks}
use Rattle.slon_turns.specs.Polling.{Waits}
use Rattle.slon_turns.specs.Working.{CanTurn, Due, Goal, stated_turn}

-- ---- over every store

-- what was read can be spelled
abbrev pub CanGive : {T : Type 0} → (T → Type 0) → Looked T → Type 0
CanGive P (Told reply) = Unit {0}
CanGive P (Gives x) = P x

-- nothing failed, or what is replied tells what did
abbrev pub RunsLooked : {T : Type 0} → Named Base → Looked T → Named Base → Type 0
RunsLooked old (Told reply) new = Runs old reply new
RunsLooked old (Gives x) new = TriesAll true None old new × AreSame old new

-- ---- at the provider

-- the sets of the event's origin that a node keeps
abbrev pub sets_kept : Node → Event → List Kept
sets_kept n e = kept_among n.id (knowledge n).config e (knowledge n).views

-- Sets that are read together: they have the provider of the first one, and the node is as far in each of them.
pub record Group : Type 0 where
  pub first : Kept
  pub all : List Kept

abbrev pub group_of : Run → Group
group_of r = record { first = seen_kept r.first; all = seen_run r }

-- Who reads, with which event, and from which number of an action on.
pub record Reader : Type 0 where
  pub node : ℕ
  pub event : Event
  pub known : ℕ

-- So it is from every place of the provider where what it has logged below that number had ended as the node was as
-- far as it is in the set.
abbrev pub AtProvider : Event → ℕ → Kept → Base → (Place → Node → Type 0) → Type 0
AtProvider e known k old says =
    (p : Place) (n : Node) → Ready p old → p.node ≡ Some n → HaveEndedBy e.origin known k p → says p n

-- what a provider has logged for sets, or its store failed
abbrev pub GivesAt : Event → ℕ → Group → List ℕ → Base → Looked (List SetFetch) → Base → Type 0
GivesAt e known k name old (Told reply) new =
    Checks name old (Some reply) new × AtProvider e known k.first old (λ p n. EndsAt name p [] reply new)
GivesAt e known k name old (Gives fetches) new =
    Checks name old None new
    × AtProvider e known k.first old (λ p n. HaveFetches e.origin (taken_run e (logged n) k.all) fetches × Fits p new)

-- the sets that the node keeps, or its store failed
abbrev pub KeepsAt : ℕ → Event → List ℕ → Base → Looked (List KeptSet) → Base → Type 0
KeepsAt node e name old (Told reply) new =
    Checks name old (Some reply) new × AtSeat name (λ s. []) old (Some reply) new
KeepsAt node e name old (Gives sets) new =
    Checks name old None new
    × ((p : Place) (n : Node) → Ready p old → p.node ≡ Some n →
    (n.id ≡ node → map seen_kept sets ≡ sets_kept n e) × Fits p new)

-- 62, 63, or what the provider has logged for the sets
abbrev pub TakesAt : Reader → Group → List ℕ → Base → Looked (List SetFetch) → Base → Type 0
TakesAt r k name old (Told reply) new =
    Checks name old (Some reply) new
    × AtProvider r.event r.known k.first old
    (λ p n. EndsAt name p (provider_checks r.node k.first.provider r.event n) reply new)
TakesAt r k name old (Gives fetches) new =
    Checks name old None new
    × AtProvider r.event r.known k.first old
    (λ p n. (first_refusal (provider_checks r.node k.first.provider r.event n) ≡ None)
    × Fits p new × HaveFetches r.event.origin (taken_run r.event (logged n) k.all) fetches)

-- ---- under the rules

-- what is taken of these sets, each from its provider, where nodes are found so
abbrev pub followed_kept : Memory → Seat → Event → Finder → Kept → Result SetSync Refusal
followed_kept m s e find k =
    bind (provided_in k.provider m s e (find k.provider)) (λ p. Ok (taken_of e (logged p.node) k))

abbrev pub followed_each : Memory → Seat → Event → Finder → List Kept → Result (List SetSync) Refusal
followed_each m s e find [] = Ok []
followed_each m s e find (k ∷ ks) =
    bind (followed_kept m s e find k) (λ t. bind (followed_each m s e find ks) (λ ts. Ok (t ∷ ts)))

-- what is taken of sets that are read together
abbrev pub followed_group : Memory → Seat → Event → Finder → Group → Result (List SetSync) Refusal
followed_group m s e find k =
    bind (provided_in k.first.provider m s e (find k.first.provider))
    (λ p. Ok (taken_run e (logged p.node) k.all))

-- It is refused, and tells of no store; or the store of the node or of one of its providers failed, which is told, and
-- all others agree as before.
pub data EndsLook {X : Type 0} (w : World) (name : List ℕ) (among : List ℕ) (due : Result X Refusal) (reply : Reply)
    (new : Named Base) : Type 0 where
  RefusedSo : (refusal : Refusal) → due ≡ Err refusal → is_loud refusal ≡ false → reply ≡ Refused refusal →
      FitsAll w.places new → EndsLook w name among due reply new
  BrokenSo : (b : BreaksDown w reply new) → (bytes_eq b.name name || is_of_one b.name among w) ≡ true →
      EndsLook w name among due reply new

-- or the code has what is due, and all databases agree as before
abbrev pub LooksTo : {X T : Type 0} → (X → T → Type 0) → World → List ℕ → List ℕ → Result X Refusal → Looked T →
    Named Base → Type 0
LooksTo has w name among due (Told reply) new = EndsLook w name among due reply new
LooksTo {X} has w name among due (Gives t) new = (x : X) × (due ≡ Ok x) × has x t × FitsAll w.places new

-- what any node has logged of the origin below that number had ended as the node was as far as it is in the set
abbrev pub HadEnded : World → Reader → Kept → Type 0
HadEnded w r k =
    (name : List ℕ) (p : Place) → find_named name w.places ≡ Some p → HaveEndedBy r.event.origin r.known k p

-- from all databases that agree, at a node that reaches the provider
abbrev pub FollowsAt : {K : Type 0} {g : Ghosts K} → (K → KeptStore) → Reader → Group →
    List (NamedDatabase K g) → Looked (List SetFetch) → List (NamedDatabase K g) → Type 0
FollowsAt kept r k old given new =
    (w : World) (s : Seat) → AreReady w (bases_of kept old) → s.node.id ≡ r.node →
    first_refusal (link_checks s.node.id k.first.provider w.memory.cuts s) ≡ None → HadEnded w r k.first →
    LooksTo (HaveFetches r.event.origin) w s.name (k.first.provider ∷ [])
    (followed_group w.memory s r.event (nodes_at w) k) given (bases_of kept new)

-- A node that reads: its id, the index of its database, the pairs of nodes that are cut off, and what it knows of the
-- transactions of other nodes.
pub record Way : Type 0 where
  pub node : ℕ
  pub index : ℕ
  pub cuts : List (ℕ × ℕ)
  pub bounds : List Bound

-- these are cut off in the session, and what it knows is so
pub record Heeds (t : Way) (w : World) : Type 0 where
  pub cuts : w.memory.cuts ≡ t.cuts
  pub bounds : AreBounds w t.bounds

-- from all databases that agree, at the node, which has its turn
abbrev pub FollowsGroup : {K : Type 0} {g : Ghosts K} → (K → KeptStore) → Way → Event → Group →
    List (NamedDatabase K g) → Looked (List SetFetch) → List (NamedDatabase K g) → Type 0
FollowsGroup {K} {g} kept t e k old given new =
    (w : World) (d : NamedDatabase K g) → AreReady w (bases_of kept old) → Heeds t w →
    d ≡ get_or old t.index d → (s : SitsOn t.node w d.name) →
    LooksTo (HaveFetches e.origin) w d.name (k.first.provider ∷ [])
    (followed_group w.memory (seat d.name s.place s.own) e (nodes_at w) k) given (bases_of kept new)

abbrev pub FollowsAll : {K : Type 0} {g : Ghosts K} → (K → KeptStore) → Way → Event → List Kept →
    List (NamedDatabase K g) → Looked (List SetFetch) → List (NamedDatabase K g) → Type 0
FollowsAll {K} {g} kept t e ks old given new =
    (w : World) (d : NamedDatabase K g) → AreReady w (bases_of kept old) → Heeds t w →
    d ≡ get_or old t.index d → (s : SitsOn t.node w d.name) →
    LooksTo (HaveFetches e.origin) w d.name (map (λ (k : Kept). k.provider) ks)
    (followed_each w.memory (seat d.name s.place s.own) e (nodes_at w) ks) given (bases_of kept new)

-- ---- the turn

-- A node that is to read what was logged, for an event that it took.
pub record Onward (node : ℕ) (goal : Goal) (taken : Worker Taken) (w : World) (name : List ℕ) (held : Held) : Type 0
  where
    pub sits : SitsOn node w name
    pub holds : Holds name w.memory held
    pub event : declared.Event
    pub took : TookUp (post_of goal sits) taken held.queue event
    pub next : next_at w.memory (seat name sits.place sits.own) goal.origin ≡ Some (seen_event event)

abbrev pub onward_post : {node : ℕ} {goal : Goal} {taken : Worker Taken} {w : World} {name : List ℕ} {held : Held} →
    Onward node goal taken w name held → Post
onward_post {goal = goal} o = post_of goal o.sits

-- what the turn comes to then
abbrev pub due_onward : {node : ℕ} {goal : Goal} {taken : Worker Taken} {w : World} {name : List ℕ} {held : Held} →
    Onward node goal taken w name held → Result Due Refusal
due_onward {w = w} o =
    let p = onward_post o in
    bind (syncs_with w.memory (seat_in p) (seen_event o.event) (nodes_at w)) (end_at p o.event)

-- what comes of it at all databases, and at what the node holds
pub record Arrives {node : ℕ} {goal : Goal} {taken : Worker Taken} {w : World} {name : List ℕ} {held : Held}
    (o : Onward node goal taken w name held) (reply : Reply) (new : Named Base) (left : Held) : Type 0 where
  pub comes : Comes w (stated_turn (due_onward o)) reply new
  pub own : (other : List ℕ) (halt : HaltOf) → told_by reply ≡ Some (other, halt) →
      (bytes_eq other name
      || is_of_one other (providers_in o.event.origin (seat_in (onward_post o)) ToFollow) w) ≡ true
  pub waits : Waits name (left_in (onward_post o) (due_onward o) reply) left.queue
  pub keeps : IsUpIn name new → Keeps name (left_in (onward_post o) (due_onward o) reply) left.fetches

-- what a turn aims at that reads what was logged
abbrev pub goal_of : Round → Goal
goal_of x = record { aim = x.aim; origin = x.taken.origin }

abbrev pub FollowsFrom : {K : Type 0} {g : Ghosts K} → (K → KeptStore) → Way → Round →
    List (NamedDatabase K g) × Held → Reply → List (NamedDatabase K g) × Held → Type 0
FollowsFrom {K} {g} kept t x old reply new =
    (w : World) (d : NamedDatabase K g) → AreReady w (bases_of kept old.0) → Heeds t w →
    d ≡ get_or old.0 t.index d → (o : Onward t.node (goal_of x) x.taken w d.name old.1) → CanTurn (due_onward o) →
    Arrives o reply (bases_of kept new.0) new.1

-- where these are the sets that the node keeps
abbrev pub FollowsSets : {K : Type 0} {g : Ghosts K} → (K → KeptStore) → Way → Round → List Kept →
    List (NamedDatabase K g) × Held → Reply → List (NamedDatabase K g) × Held → Type 0
FollowsSets {K} {g} kept t x ks old reply new =
    (w : World) (d : NamedDatabase K g) → AreReady w (bases_of kept old.0) → Heeds t w →
    d ≡ get_or old.0 t.index d → (o : Onward t.node (goal_of x) x.taken w d.name old.1) →
    ks ≡ sets_kept o.sits.own (seen_event o.event) → CanTurn (due_onward o) →
    Arrives o reply (bases_of kept new.0) new.1

-- ---- what is learned

-- what the node knows behind the turn
abbrev pub LearnsFrom : {K : Type 0} {g : Ghosts K} → (K → KeptStore) → Way → Round →
    List (NamedDatabase K g) × Held → Held → Type 0
LearnsFrom {K} {g} kept t x old left =
    (w : World) (d : NamedDatabase K g) → AreReady w (bases_of kept old.0) → Heeds t w →
    d ≡ get_or old.0 t.index d → Onward t.node (goal_of x) x.taken w d.name old.1 →
    AreLearned w x.taken.origin old.1.bounds.items left.bounds.items

-- where these are the sets that the node keeps
abbrev pub LearnsSets : {K : Type 0} {g : Ghosts K} → (K → KeptStore) → Way → Round → List Kept →
    List (NamedDatabase K g) × Held → Held → Type 0
LearnsSets {K} {g} kept t x ks old left =
    (w : World) (d : NamedDatabase K g) → AreReady w (bases_of kept old.0) → Heeds t w →
    d ≡ get_or old.0 t.index d → (o : Onward t.node (goal_of x) x.taken w d.name old.1) →
    ks ≡ sets_kept o.sits.own (seen_event o.event) →
    AreLearned w x.taken.origin old.1.bounds.items left.bounds.items
