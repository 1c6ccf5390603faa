-- What a statement of a script comes to is told in words that have their forms, and its commits are of databases whose
-- names are names.
use Rattle.std.proofs.Common.{◌≡◌, ℕ, Bool, true, false, cond, List, [], ◌∷◌, Option, Some, None, refl, sym, subst}
use Rattle.std.specs.Prelude.{◌==◌, not, is_some, is_none, filter, option_map, Result, Ok, Err}
use Rattle.std.specs.List.{AllByRecursion, list_any}
use Rattle.std.specs.Str.{bytes_eq}
use Rattle.slonik_script.specs.declared.script.Command.{Command as Order}
use Rattle.slonik_script.specs.declared.script.Command.TheVariants as order
use Rattle.slon_model.specs.declared.reply.Refusal.{Refusal}
use Rattle.slon_model.specs.declared.reply.Refusal.TheVariants as refused
use Rattle.slon_model.specs.Names.{Named, find_named}
use Rattle.slon_model.specs.Maps.{Map, entry_at, pair_at}
use Rattle.slon_model.specs.Spoken.{IsName, IsLine, IsOrder, AreNodeLines}
use Rattle.node_rows.specs.declared.body.Body.TheVariants.{Sync, StoreNode, DropNode, StorePath, DropPath, StoreSet}
use Rattle.node_rows.specs.declared.body.Body.TheVariants.{DropSet, UnsubscribeSet}
use Rattle.slon_model.specs.Config.{era_of, has_path, is_live}
use Rattle.slon_model.specs.Deeds.{Node}
use Rattle.slon_model.specs.Place.{Place, is_running, node_id}
use Rattle.slon_model.specs.Sessions.{World, Running, Commit, Emission, Stated, Seat, bind, when, first_refusal}
use Rattle.slon_model.specs.Sessions.{next_event, tells}
use Rattle.slon_model.specs.Sessions.{unless_refused, checked, seat_of, writer_of}
use Rattle.slon_model.specs.Reaching.{database_in, database_up, database_by, database_of_line, is_node_of, reach}
use Rattle.slon_model.specs.Reaching.{nodes_of, down_among, any_down, known_somewhere, origin_checks, origin_of}
use Rattle.slon_model.specs.Reaching.{receiver_with, best_of, emitting, found_owner, owner}
use Rattle.slon_model.specs.Membership.{comment_of, already, first_node, stored_by, init_cluster, store_node}
use Rattle.slon_model.specs.Membership.{drop_node, is_dropped, set_used_by, store_path, drop_path, sync_node}
use Rattle.slon_model.specs.Sets.{adding, create_set, drop_set, NewTable, set_add_table}
use Rattle.slon_model.specs.Subscribing.{NewFeed, subscribing, all_tell, bodies_of, feed_checks, subscribe_set}
use Rattle.slon_model.specs.Subscribing.{leave_checks, told_bodies, unsubscribe_set}
use Rattle.node_rows.specs.declared.rows.Subscription.{Subscription}
use Rattle.slon_model.specs.Scripts.{first_word, ordered}
use Rattle.slon_model.proofs.Names.{all_map, bytes_same}
use Rattle.slon_laws.proofs.Owners.{OnSome, OfNode, owner_is}
use Rattle.reply_forms.proofs.Words.{AnswerReads, RefusalReads}
use Rattle.reply_forms.proofs.Said.{BodyReads, CommitReads, emissions_read}
use Rattle.reply_forms.proofs.Conninfo.{IsLineIn, database_line}

-- ---- refusals

-- a refusal that is there reads well
abbrev pub Tells : Option Refusal → Type 0
Tells None = Unit {0}
Tells (Some refusal) = RefusalReads refusal

-- a refusal reads well, and what is given is like this
abbrev pub Gives : {A : Type 0} → (A → Type 0) → Result A Refusal → Type 0
Gives P (Ok a) = P a
Gives P (Err refusal) = RefusalReads refusal

pub bind_gives : {A B : Type 0} (P : A → Type 0) (Q : B → Type 0) (r : Result A Refusal) (f : A → Result B Refusal) →
    Gives P r → ((a : A) → P a → Gives Q (f a)) → Gives Q (bind r f)
bind_gives P Q (Ok a) f one next = next a one
bind_gives P Q (Err refusal) f one next = one

first_tells : (checks : List (Option Refusal)) → AllByRecursion Tells checks → Tells (first_refusal checks)
first_tells [] all = tt
first_tells (None ∷ more) all = first_tells more all.1
first_tells (Some refusal ∷ more) all = all.0

unless_gives : {A : Type 0} (P : A → Type 0) (o : Option Refusal) (a : A) → Tells o → P a →
    Gives P (unless_refused o a)
unless_gives P None a reads one = one
unless_gives P (Some refusal) a reads one = reads

pub checked_gives : {A : Type 0} (P : A → Type 0) (checks : List (Option Refusal)) (a : A) →
    AllByRecursion Tells checks →
    P a → Gives P (checked checks a)
checked_gives P checks a all one = unless_gives P (first_refusal checks) a (first_tells checks all) one

pub when_tells : (b : Bool) (refusal : Refusal) → RefusalReads refusal → Tells (when b refusal)
when_tells true refusal reads = reads
when_tells false refusal reads = tt

option_tells : {X : Type 0} (f : X → Refusal) (o : Option X) → ((x : X) → RefusalReads (f x)) → Tells (option_map f o)
option_tells f None reads = tt
option_tells f (Some x) reads = reads x

already_tells : (node : Option ℕ) → Tells (already node)
already_tells node = option_tells refused.AlreadyNode node (λ x. tt)

-- ---- databases and their names

-- the names of databases are names
abbrev pub AreNamed : Named Place → Type 0
AreNamed ps = AllByRecursion (λ e. IsName e.0) ps

pub all_filter : {X : Type 0} (P : X → Type 0) (test : X → Bool) (xs : List X) → AllByRecursion P xs →
    AllByRecursion P (filter test xs)
all_filter P test [] all = tt
all_filter P test (x ∷ xs) all =
    elim (test x) as (λ b. AllByRecursion P (cond b (x ∷ filter test xs) (filter test xs))) [
      | true ↦ (all.0, all_filter P test xs all.1)
      | false ↦ all_filter P test xs all.1
    ]

-- the name of a database that is found is a name
pub name_found : (name : List ℕ) (p : Place) (ps : Named Place) → AreNamed ps → find_named name ps ≡ Some p →
    IsName name
name_found name p [] all found = absurd cc
name_found name p (e ∷ es) all found =
    elim (bytes_eq name e.0)
    as (λ b. bytes_eq name e.0 ≡ b → cond b (Some e.1) (find_named name es) ≡ Some p → IsName name) [
      | true ↦ λ is here. subst IsName (sym (bytes_same name e.0 is)) all.0
      | false ↦ λ other later. name_found name p es all.1 later
    ] refl found

down_tells : (ps : Named Place) → AreNamed ps → Tells (down_among ps)
down_tells [] all = tt
down_tells (e ∷ es) all =
    elim (is_running e.1.standing) as (λ b. Tells (cond b (down_among es) (Some (refused.Down e.0)))) [
      | true ↦ down_tells es all.1
      | false ↦ all.0
    ]

any_tells : (w : World) → AreNamed w.places → Tells (any_down w)
any_tells w named =
    down_tells (nodes_of w) (all_filter (λ e. IsName e.0) (λ e. is_some (node_id e.1)) w.places named)

-- ---- reaching

-- What a script says and where it runs: its NODE lines are lines, and the names of databases are names.
pub record Runs (run : Running) (w : World) : Type 0 where
  pub lines : AreNodeLines run.lines
  pub named : AreNamed w.places

-- a database with its name
abbrev pub IsOne : List ℕ × Place → Type 0
IsOne e = IsName e.0

abbrev IsSeat : Seat → Type 0
IsSeat s = IsName s.name

entry_line : (id : ℕ) (lines : Map (List ℕ)) → AreNodeLines lines → IsLineIn (entry_at id lines)
entry_line id [] all = tt
entry_line id (e ∷ es) all =
    elim (id == e.0) as (λ b. IsLineIn (cond b (Some e.1) (entry_at id es))) [
      | true ↦ all.0
      | false ↦ entry_line id es all.1
    ]

up_gives : (name : List ℕ) (o : Option Place) → IsLine name → ((p : Place) → o ≡ Some p → IsName name) →
    Gives IsOne (database_up name o)
up_gives name None line named = line
up_gives name (Some p) line named =
    elim (is_running p.standing) as (λ b. Gives IsOne (cond b (Ok (name, p)) (Err (refused.Down name)))) [
      | true ↦ named p refl
      | false ↦ named p refl
    ]

by_gives : (w : World) (id : ℕ) (o : Option (List ℕ)) → IsLineIn o → AreNamed w.places →
    Gives IsOne (database_by w id o)
by_gives w id None line named = tt
by_gives w id (Some conninfo) line named =
    let name = database_in conninfo in
    up_gives name (find_named name w.places) (database_line conninfo line)
    (λ p found. name_found name p w.places named found)

line_gives : (run : Running) (id : ℕ) (w : World) → Runs run w → Gives IsOne (database_of_line run id w)
line_gives run id w runs = by_gives w id (entry_at id run.lines) (entry_line id run.lines runs.lines) runs.named

seat_gives : (none : Refusal) (e : List ℕ × Place) (o : Option Node) → RefusalReads none → IsOne e →
    Gives IsSeat (seat_of none e o)
seat_gives none e None reads one = reads
seat_gives none e (Some n) reads one = one

reach_gives : (run : Running) (id : ℕ) (w : World) → Runs run w → Gives IsSeat (reach run id w)
reach_gives run id w runs =
    bind_gives IsOne IsSeat (database_of_line run id w) _ (line_gives run id w runs) (λ e one.
    bind_gives IsSeat IsSeat (seat_of (refused.NotInitialised id) e e.1.node) _
    (seat_gives (refused.NotInitialised id) e e.1.node tt one) (λ s named.
    checked_gives IsSeat (when (not (is_node_of run id s)) (refused.OtherNode id) ∷ []) s
    (when_tells _ _ tt, tt) named))

origin_gives : (run : Running) (origin set : ℕ) (w : World) → Runs run w → Gives IsSeat (origin_of run origin set w)
origin_gives run origin set w runs =
    bind_gives IsSeat IsSeat (reach run origin w) _ (reach_gives run origin w runs) (λ s named.
    checked_gives IsSeat (origin_checks s set) s (when_tells _ _ tt, (when_tells _ _ tt, tt)) named)

owner_gives : (run : Running) (set : ℕ) (w : World) → Runs run w → Gives IsSeat (owner run set w)
owner_gives run set w runs =
    by (best_of set run None w.places)
    (owner_is IsSeat set run w (all_map IsOne (OfNode IsSeat) (λ e named n is. named) w.places runs.named))
  where
    by : (best : Option Seat) → OnSome IsSeat best → Gives IsSeat (found_owner set best)
    by None named = tt
    by (Some s) named = named

-- ---- statements

-- the databases of commits have names, and what is emitted reads well
abbrev pub AreCommits : List Commit → Type 0
AreCommits cs = AllByRecursion (λ c. IsName c.name × CommitReads c) cs

-- what an accepted statement answers reads well
abbrev pub StatedReads : Stated → Type 0
StatedReads stated = AnswerReads stated.answer × AreCommits stated.commits

-- a node emits events that read well
pub emitting_reads : (s : Seat) (ms : List Emission) → IsSeat s → AllByRecursion (λ m. BodyReads m.body) ms →
    StatedReads (emitting s ms)
emitting_reads s ms named all = (tt, ((named, (emissions_read s (next_event s) ms all, tt)), tt))

init_gives : (id : ℕ) (comment : Option (List ℕ)) (run : Running) (w : World) → Runs run w →
    Gives StatedReads (init_cluster id comment run w)
init_gives id comment run w runs =
    bind_gives IsOne StatedReads (database_of_line run id w) _ (line_gives run id w runs) (λ e one.
    checked_gives StatedReads (down_among w.places ∷ already (first_node w) ∷ []) _
    (down_tells w.places runs.named, (already_tells (first_node w), tt)) (tt, ((one, (tt, tt)), tt)))

node_gives : (id event_node : ℕ) (comment : Option (List ℕ)) (run : Running) (w : World) → Runs run w →
    Gives StatedReads (store_node id event_node comment run w)
node_gives id event_node comment run w runs =
    bind_gives IsSeat StatedReads (reach run event_node w) _ (reach_gives run event_node w runs) (λ s named.
    bind_gives IsOne StatedReads (database_of_line run id w) _ (line_gives run id w runs) (λ e one.
    checked_gives StatedReads (already (node_id e.1) ∷ any_down w
    ∷ when (known_somewhere (λ c. is_some (entry_at id c.nodes)) w) (refused.IdUsed id) ∷ [])
    (stored_by s e.0 id (comment_of comment) run)
    (already_tells (node_id e.1), (any_tells w runs.named, (when_tells _ _ tt, tt))) (
      tt,
      (
        (named, (emissions_read s (next_event s) (tells (StoreNode id (comment_of comment)) ∷ []) (tt, tt), tt)),
        ((one, (tt, tt)), tt),
      ),
    )))

drop_node_gives : (id event_node : ℕ) (run : Running) (w : World) → Runs run w →
    Gives StatedReads (drop_node id event_node run w)
drop_node_gives id event_node run w runs =
    bind_gives IsSeat StatedReads (reach run event_node w) _ (reach_gives run event_node w runs) (λ s named.
    checked_gives StatedReads (when (id == event_node) (refused.SameNode id)
    ∷ when (not (is_live id s.known.config)) (refused.NoNode id)
    ∷ option_map refused.StillUsed (set_used_by id s.known.config) ∷ []) _ (
      when_tells _ _ tt,
      (when_tells _ _ tt, (option_tells refused.StillUsed (set_used_by id s.known.config) (λ x. tt), tt)),
    )
    (emitting_reads s (tells (DropNode id) ∷ []) named (tt, tt)))

path_gives : (server client : ℕ) (conninfo : List ℕ) (run : Running) (w : World) → Runs run w →
    Gives StatedReads (store_path server client conninfo run w)
path_gives server client conninfo run w runs =
    bind_gives IsSeat StatedReads (reach run client w) _ (reach_gives run client w runs) (λ s named.
    checked_gives StatedReads (when (client == server) (refused.SameNode client)
    ∷ when (is_dropped (entry_at server s.known.config.nodes)) (refused.NoNode server) ∷ []) _
    (when_tells _ _ tt, (when_tells _ _ tt, tt))
    (emitting_reads s (tells (StorePath server client conninfo) ∷ []) named (tt, tt)))

drop_gives : (server client : ℕ) (run : Running) (w : World) → Runs run w →
    Gives StatedReads (drop_path server client run w)
drop_gives server client run w runs =
    bind_gives IsSeat StatedReads (reach run client w) _ (reach_gives run client w runs) (λ s named.
    checked_gives StatedReads (when (not (has_path client server s.known.config)) (refused.NoPath server) ∷ []) _
    (when_tells _ _ tt, tt) (emitting_reads s (tells (DropPath server client) ∷ []) named (tt, tt)))

set_gives : (id origin : ℕ) (comment : Option (List ℕ)) (run : Running) (w : World) → Runs run w →
    Gives StatedReads (create_set id origin comment run w)
set_gives id origin comment run w runs =
    bind_gives IsSeat StatedReads (reach run origin w) _ (reach_gives run origin w runs) (λ s named.
    checked_gives StatedReads
    (any_down w ∷ when (known_somewhere (λ c. is_some (entry_at id c.sets)) w) (refused.IdUsed id) ∷ []) _
    (any_tells w runs.named, (when_tells _ _ tt, tt))
    (emitting_reads s (tells (StoreSet id origin (comment_of comment)) ∷ []) named (tt, tt)))

table_gives : (origin : ℕ) (t : NewTable) (run : Running) (w : World) → IsLine t.name → Runs run w →
    Gives StatedReads (set_add_table origin t run w)
table_gives origin t run w line runs =
    let used_id = known_somewhere (λ c. is_some (entry_at t.id c.tables)) w in
    let used_name = known_somewhere (λ c. list_any (λ e. bytes_eq t.name e.1.name) c.tables) w in
    bind_gives IsSeat StatedReads (origin_of run origin t.set_id w) _ (origin_gives run origin t.set_id w runs)
    (λ s named.
    let receiver = receiver_with (λ e. true) t.set_id s.known.config in
    let receives = option_tells refused.HasReceivers receiver (λ x. tt) in
    let writer = writer_of (t.name ∷ []) s.place in
    let busy = option_tells refused.Busy writer (λ x. tt) in
    checked_gives StatedReads (option_map refused.HasReceivers receiver
    ∷ when (is_none (find_named t.name s.place.tables)) (refused.NoTable t.name) ∷ any_down w
    ∷ when used_id (refused.IdUsed t.id) ∷ when used_name (refused.TableUsed t.name)
    ∷ option_map refused.Busy writer ∷ []) _
    (receives, (when_tells _ _ line, (any_tells w runs.named, (when_tells _ _ tt, (when_tells _ _ line, (busy, tt))))))
    (emitting_reads s (adding s t ∷ []) named (line, tt)))

-- the events of a subscription, new or not
told_read : (f : NewFeed) (era : ℕ) (o : Option Subscription) →
    AllByRecursion (λ m. BodyReads m.body) (all_tell (bodies_of era f o))
told_read f era None = (tt, (tt, (tt, tt)))
told_read f era (Some row) = (tt, (tt, tt))

feed_gives : (f : NewFeed) (run : Running) (w : World) → Runs run w → Gives StatedReads (subscribe_set f run w)
feed_gives f run w runs =
    bind_gives IsSeat StatedReads (owner run f.set_id w) _ (owner_gives run f.set_id w runs) (λ s named.
    checked_gives StatedReads (feed_checks s f) _ (
      when_tells _ _ tt,
      (
        when_tells _ _ tt,
        (
          when_tells _ _ tt,
          (
            when_tells _ _ tt,
            (
              when_tells _ _ tt,
              (when_tells _ _ tt, (when_tells _ _ tt, (when_tells _ _ tt, tt))),
            ),
          ),
        ),
      ),
    )
    (emitting_reads s (all_tell (told_bodies f s.known.config)) named
    (told_read f (era_of f.set_id s.known.config) (pair_at f.set_id f.receiver s.known.config.subscriptions))))

leave_gives : (set receiver : ℕ) (run : Running) (w : World) → Runs run w →
    Gives StatedReads (unsubscribe_set set receiver run w)
leave_gives set receiver run w runs =
    bind_gives IsSeat StatedReads (owner run set w) _ (owner_gives run set w runs) (λ s named.
    checked_gives StatedReads (leave_checks set receiver s.known.config) _ (when_tells _ _ tt, (when_tells _ _ tt, tt))
    (emitting_reads s (tells (UnsubscribeSet set receiver) ∷ []) named (tt, tt)))

ends_gives : (id origin : ℕ) (run : Running) (w : World) → Runs run w → Gives StatedReads (drop_set id origin run w)
ends_gives id origin run w runs =
    bind_gives IsSeat StatedReads (origin_of run origin id w) _ (origin_gives run origin id w runs)
    (λ s named. emitting_reads s (tells (DropSet id) ∷ []) named (tt, tt))

sync_gives : (id : ℕ) (run : Running) (w : World) → Runs run w → Gives StatedReads (sync_node id run w)
sync_gives id run w runs =
    bind_gives IsSeat StatedReads (reach run id w) _ (reach_gives run id w runs)
    (λ s named. emitting_reads s (tells Sync ∷ []) named (tt, tt))

-- the word of a statement that cannot be run yet is on one line
word_line : (o : Order) → IsLine (first_word o)
word_line (order.Sleep seconds) = refl
word_line others = refl

-- What a command of a script comes to reads well.
pub ordered_gives : (o : Order) (run : Running) (w : World) → IsOrder o → Runs run w →
    Gives StatedReads (ordered o run w)
ordered_gives (order.InitCluster id comment) run w texts runs = init_gives id comment run w runs
ordered_gives (order.StoreNode id event_node comment) run w texts runs = node_gives id event_node comment run w runs
ordered_gives (order.DropNode id event_node) run w texts runs = drop_node_gives id event_node run w runs
ordered_gives (order.StorePath server client conninfo retry) run w texts runs =
    path_gives server client conninfo run w runs
ordered_gives (order.DropPath server client) run w texts runs = drop_gives server client run w runs
ordered_gives (order.CreateSet id origin comment) run w texts runs = set_gives id origin comment run w runs
ordered_gives (order.DropSet id origin) run w texts runs = ends_gives id origin run w runs
ordered_gives (order.SetAddTable set origin id name key comment) run w texts runs =
    table_gives origin (record { set_id = set; id = id; name = name; comment = comment_of comment }) run w texts runs
ordered_gives (order.SubscribeSet set provider receiver forward) run w texts runs =
    feed_gives (subscribing set provider receiver forward) run w runs
ordered_gives (order.UnsubscribeSet set receiver) run w texts runs = leave_gives set receiver run w runs
ordered_gives (order.Sync id) run w texts runs = sync_gives id run w runs
ordered_gives others run w texts runs = word_line others
