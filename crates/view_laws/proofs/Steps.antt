-- What the commits of every statement and every turn do.
use Rattle.std.proofs.Common.{◌≡◌, ℕ, true, List, [], ◌∷◌, Option, Some, None, Result}
use Rattle.std.proofs.Common.{refl, sym, ap, subst, ◌∙◌}
use Rattle.std.specs.Prelude.{option_map}
use Rattle.slonik_script.specs.declared.script.Command.{Command as Order}
use Rattle.slonik_script.specs.declared.script.Command.TheVariants as order
use Rattle.node_rows.specs.declared.body.Body.{Body}
use Rattle.node_rows.specs.declared.body.Body.TheVariants.{Sync, StoreNode, DropNode, StorePath, DropPath, StoreSet}
use Rattle.node_rows.specs.declared.body.Body.TheVariants.{DropSet, UnsubscribeSet}
use Rattle.node_rows.specs.declared.rows.Subscription.{Subscription}
use Rattle.slon_model.specs.declared.command.Delivery.{Delivery}
use Rattle.slon_model.specs.declared.command.Delivery.TheVariants.{Lost}
use Rattle.slon_model.specs.declared.reply.Refusal.{Refusal}
use Rattle.slon_model.specs.declared.reply.Refusal.TheVariants as refused
use Rattle.slon_model.specs.Names.{find_named}
use Rattle.slon_model.specs.Config.{era_of, is_origin}
use Rattle.slon_model.specs.Tasks.{Act}
use Rattle.slon_model.specs.Deeds.{Node, Brought, Knowledge, knowledge, with_deeds}
use Rattle.slon_model.specs.Sessions.{World, Running, Commit, Stated, Seat, Emission, bind, tells, committing}
use Rattle.slon_model.specs.Sessions.{stood_at}
use Rattle.slon_model.specs.Maps.{pair_at}
use Rattle.slon_model.specs.Membership.{comment_of, already, first_node, init_cluster, store_node, store_path}
use Rattle.slon_model.specs.Membership.{drop_node, drop_path, becoming, first_of_cluster, joining, stored_by}
use Rattle.slon_model.specs.Reaching.{database_of_line, reach, down_among, receiver_with}
use Rattle.slon_model.specs.Reaching.{origin_of, owner, commit_of, emitting}
use Rattle.slon_model.specs.Sets.{NewTable, adding, create_set, drop_set, set_add_table}
use Rattle.slon_model.specs.Subscribing.{NewFeed, subscribing, feed_checks, bodies_of, told_bodies, all_tell}
use Rattle.slon_model.specs.Subscribing.{subscribe_set, unsubscribe_set}
use Rattle.slon_model.specs.Scripts.{ordered}
use Rattle.slon_model.specs.Turns.{on_turn, sync_turn}
use Rattle.slon_model.specs.Polls.{Poll, polled, stated_by, hearing}
use Rattle.slon_model.specs.Working.{Carried, applied_by, fetched, worked}
use Rattle.slon_model.specs.World.{outcome}
use Rattle.slon_model.proofs.Names.{put_other}
use Rattle.slon_laws.specs.Turning.{HoldsAt, AllHold}
use Rattle.slon_laws.proofs.Fillable.{AreUnwritten, brought_unwritten}
use Rattle.slon_laws.proofs.Leaves.{outcome_has}
use Rattle.slon_laws.proofs.Results.{any_ok}
use Rattle.stream_laws.specs.Nodes.{node_in}
use Rattle.stream_laws.proofs.Commits.{Newcomer, other_name}
use Rattle.stream_laws.proofs.Seats.{OnOk, ok_then, IsSeat, IsFound, IsReached, IsLeading, bind_ok, checked_ok, kept_ok}
use Rattle.stream_laws.proofs.Seats.{all_none, turn_ok, origin_ok, already_none, line_ok}
use Rattle.stream_laws.proofs.Seats.{reach_ok, no_nodes, seat_node}
use Rattle.stream_laws.proofs.Statements.{create_checks, table_checks}
use Rattle.stream_laws.proofs.Waiting.{IsPoll, polled_ok}
use Rattle.stream_laws.proofs.Works.{IsCarried, worked_ok}
use Rattle.image_laws.proofs.Fitting.{newcomer, store_checks}
use Rattle.view_laws.specs.Past.{Past}
use Rattle.view_laws.proofs.Claiming.{IsClaiming, owner_claiming}
use Rattle.view_laws.proofs.Brought.{brought_is, there_on}
use Rattle.view_laws.proofs.Reached.{regular_now}
use Rattle.view_laws.proofs.Doing.{IsAllowed, AreAllowed, IsOne, AreChanges, AreFeeds, taking, KnowsNone, KnowsGiven}
use Rattle.view_laws.proofs.Doing.{IsStep, IsTaken}
use Rattle.view_laws.proofs.Doing.{DoesTell, DoesTake, DoesHear, DoesBecome}

abbrev AreSteps : Past → List Commit → Type 0
AreSteps t cs = AllHold (IsStep t) cs t.world.places

abbrev IsStated : Past → Stated → Type 0
IsStated t stated = AreSteps t stated.commits

-- ---- a node emits events

emits_step : (t : Past) (s : Seat) (ms : List Emission) → IsSeat t.world.places s → AreAllowed s ms →
    IsStated t (emitting s ms)
emits_step t s ms is may = (
  subst (HoldsAt (IsStep t) (commit_of s ms)) (sym is.found) (record {
    found = is.found;
    does = DoesTell (record { seat = s; is = is; at = refl; emits = ms; may = may; commit = refl });
  }),
  tt,
)

-- one of a kind that brings no table
tells_step : (t : Past) (s : Seat) (body : Body) → IsSeat t.world.places s → IsAllowed s body →
    IsStated t (emitting s (tells body ∷ []))
tells_step t s body is may = emits_step t s (tells body ∷ []) is (IsOne (tells body) refl may)

reached : (t : Past) (id : ℕ) (run : Running) (f : Seat → Result Stated Refusal) →
    ((s : Seat) → IsReached t.world.places id s → OnOk (IsStated t) (f s)) →
    OnOk (IsStated t) (bind (reach run id t.world) f)
reached t id run f on =
    bind_ok (IsReached t.world.places id) (IsStated t) (reach run id t.world) f (reach_ok run id t.world) on

-- ---- a database becomes a node

abbrev init_checks : World → List (Option Refusal)
init_checks w = down_among w.places ∷ already (first_node w) ∷ []

init_step : (id : ℕ) (comment : Option (List ℕ)) (run : Running) (t : Past) →
    OnOk (IsStated t) (init_cluster id comment run t.world)
init_step id comment run t =
    bind_ok (IsFound t.world.places) (IsStated t) (database_of_line run id t.world) _ (line_ok run id t.world)
    (λ e found. checked_ok (IsStated t) (init_checks t.world) _ (λ none. (
      subst (HoldsAt (IsStep t) (becoming e.0 (first_of_cluster id (comment_of comment) run))) (sym found) (record {
        found = found;
        does = DoesBecome (record {
          node = first_of_cluster id (comment_of comment) run;
          none =
              sym (ap node_in found) ∙ no_nodes t.world.places
              (already_none (first_node t.world) (all_none (init_checks t.world) none).1.0) e.0;
          commit = refl;
          deeds = refl;
          views = refl;
          knows = KnowsNone (refl, refl, refl);
        });
      }),
      tt,
    )))

stores_step : (t : Past) (s : Seat) (c : Newcomer t.world.places) (comment : List ℕ) (run : Running) →
    IsSeat t.world.places s → IsStated t (stored_by s c.name c.id comment run)
stores_step t s c comment run is = (
  one.0,
  (
    subst (HoldsAt (IsStep t) (becoming c.name joined)) (sym found) (record {
      found = c.found;
      does = DoesBecome (record {
        node = joined;
        none = c.none;
        commit = refl;
        deeds = refl;
        views = refl;
        knows = KnowsGiven (record {
          name = s.name;
          giver = s.node;
          is = seat_node t.world.places s is;
          sets = refl;
          tables = refl;
          subscriptions = refl;
        });
      });
    }),
    tt,
  ),
)
  where
    body : Body
    body = StoreNode c.id comment

    commit : Commit
    commit = commit_of s (tells body ∷ [])

    joined : Node
    joined = joining c.id (with_deeds commit.deeds s.node) run

    one : IsStated t (emitting s (tells body ∷ []))
    one = tells_step t s body is refl

    found : find_named c.name (stood_at commit (find_named s.name t.world.places) t.world.places) ≡ Some c.place
    found =
        ap (λ o. find_named c.name (stood_at commit o t.world.places)) is.found
        ∙ put_other c.name s.name (committing commit s.place) t.world.places (other_name t.world.places s c is)
        ∙ c.found

store_step : (id event_node : ℕ) (comment : Option (List ℕ)) (run : Running) (t : Past) →
    OnOk (IsStated t) (store_node id event_node comment run t.world)
store_step id event_node comment run t =
    reached t event_node run _
    (λ s is. bind_ok (IsFound t.world.places) (IsStated t) (database_of_line run id t.world) _ (line_ok run id t.world)
    (λ e found. checked_ok (IsStated t) (store_checks id t.world e) (stored_by s e.0 id (comment_of comment) run)
    (λ none. stores_step t s (newcomer t.world id e found (all_none (store_checks id t.world e) none))
    (comment_of comment) run is.0)))

-- ---- the other statements

create_step : (id origin : ℕ) (comment : Option (List ℕ)) (run : Running) (t : Past) →
    OnOk (IsStated t) (create_set id origin comment run t.world)
create_step id origin comment run t =
    reached t origin run _
    (λ s is. kept_ok (IsStated t) (create_checks id t.world)
    (emitting s (tells (StoreSet id origin (comment_of comment)) ∷ []))
    (tells_step t s (StoreSet id origin (comment_of comment)) is.0 refl))

drop_step : (id origin : ℕ) (run : Running) (t : Past) → OnOk (IsStated t) (drop_set id origin run t.world)
drop_step id origin run t =
    bind_ok (IsLeading t.world.places id) (IsStated t) (origin_of run origin id t.world) _
    (origin_ok run origin id t.world) (λ s is. tells_step t s (DropSet id) is.0 is.1)

none_receives : (o : Option ℕ) → option_map refused.HasReceivers o ≡ None → o ≡ None
none_receives None none = refl
none_receives (Some node) none = absurd cc

table_step : (origin : ℕ) (new : NewTable) (run : Running) (t : Past) →
    OnOk (IsStated t) (set_add_table origin new run t.world)
table_step origin new run t =
    bind_ok (IsLeading t.world.places new.set_id) (IsStated t) (origin_of run origin new.set_id t.world) _
    (origin_ok run origin new.set_id t.world)
    (λ s is. checked_ok (IsStated t) (table_checks new t.world s) (emitting s (adding s new ∷ []))
    (λ none. emits_step t s (adding s new ∷ []) is.0 (IsOne (adding s new) refl (
      ap (λ (k : Knowledge). receiver_with (λ e. true) new.set_id k.config) (sym is.0.known)
          ∙ none_receives _ (all_none (table_checks new t.world s) none).0,
      is.1,
    ))))

drop_node_step : (id event_node : ℕ) (run : Running) (t : Past) →
    OnOk (IsStated t) (drop_node id event_node run t.world)
drop_node_step id event_node run t =
    reached t event_node run _
    (λ s is. let done = tells_step t s (DropNode id) is.0 refl in search (kept_ok (IsStated t), done))

path_step : (server client : ℕ) (conninfo : List ℕ) (run : Running) (t : Past) →
    OnOk (IsStated t) (store_path server client conninfo run t.world)
path_step server client conninfo run t =
    reached t client run _
    (λ s is. let done = tells_step t s (StorePath server client conninfo) is.0 refl in
    search (kept_ok (IsStated t), done))

no_path_step : (server client : ℕ) (run : Running) (t : Past) →
    OnOk (IsStated t) (drop_path server client run t.world)
no_path_step server client run t =
    reached t client run _
    (λ s is. let done = tells_step t s (DropPath server client) is.0 refl in search (kept_ok (IsStated t), done))

-- the events of a subscription, by what the origin has of it
feed_allowed : (s : Seat) (f : NewFeed) (era : ℕ) → is_origin s.node.id f.set_id (knowledge s.node).config ≡ true →
    (o : Option Subscription) → pair_at f.set_id f.receiver (knowledge s.node).config.subscriptions ≡ o →
    AreAllowed s (all_tell (bodies_of era f o))
feed_allowed s f era leads None new = AreFeeds era f refl (record { leads = leads; new = new })
feed_allowed s f era leads (Some row) had = AreChanges f refl leads

feed_step : (f : NewFeed) (run : Running) (t : Past) → OnOk (IsStated t) (subscribe_set f run t.world)
feed_step f run t =
    bind_ok (IsClaiming f.set_id t.world) (IsStated t) (owner run f.set_id t.world) _
    (owner_claiming run f.set_id t.world (regular_now t).once)
    (λ s is. checked_ok (IsStated t) (feed_checks s f) (emitting s (all_tell (told_bodies f s.known.config)))
    (λ none. emits_step t s (all_tell (told_bodies f s.known.config)) is.0
    (subst (λ (k : Knowledge). AreAllowed s (all_tell (told_bodies f k.config))) (sym is.0.known)
    (feed_allowed s f (era_of f.set_id (knowledge s.node).config)
    (subst (λ (k : Knowledge). is_origin s.node.id f.set_id k.config ≡ true) is.0.known is.1)
    (pair_at f.set_id f.receiver (knowledge s.node).config.subscriptions) refl))))

leave_step : (set receiver : ℕ) (run : Running) (t : Past) →
    OnOk (IsStated t) (unsubscribe_set set receiver run t.world)
leave_step set receiver run t =
    bind_ok (IsClaiming set t.world) (IsStated t) (owner run set t.world) _
    (owner_claiming run set t.world (regular_now t).once)
    (λ s is. let done = tells_step t s (UnsubscribeSet set receiver) is.0
    (subst (λ (k : Knowledge). is_origin s.node.id set k.config ≡ true) is.0.known is.1) in
    search (kept_ok (IsStated t), done))

ordered_step : (t : Past) → (o : Order) (run : Running) → OnOk (IsStated t) (ordered o run t.world)
ordered_step t (order.InitCluster id comment) run = init_step id comment run t
ordered_step t (order.StoreNode id event_node comment) run = store_step id event_node comment run t
ordered_step t (order.DropNode id event_node) run = drop_node_step id event_node run t
ordered_step t (order.StorePath server client conninfo retry) run = path_step server client conninfo run t
ordered_step t (order.DropPath server client) run = no_path_step server client run t
ordered_step t (order.CreateSet id origin comment) run = create_step id origin comment run t
ordered_step t (order.DropSet id origin) run = drop_step id origin run t
ordered_step t (order.SetAddTable set origin id name key comment) run =
    table_step origin (record { set_id = set; id = id; name = name; comment = comment_of comment }) run t
ordered_step t (order.SubscribeSet set provider receiver forward) run =
    feed_step (subscribing set provider receiver forward) run t
ordered_step t (order.UnsubscribeSet set receiver) run = leave_step set receiver run t
ordered_step t (order.Sync id) run = reached t id run _ (λ s is. tells_step t s Sync is.0 refl)
ordered_step t others run = tt

-- ---- the turns

sync_step : (t : Past) → (node : ℕ) → OnOk (IsStated t) (sync_turn node t.world)
sync_step t node =
    bind_ok (IsSeat t.world.places) (IsStated t) (on_turn node t.world) _ (turn_ok node t.world (regular_now t).once)
    (λ s is. let done = tells_step t s Sync is refl in search (kept_ok (IsStated t), done))

hears_step : (t : Past) (s : Seat) (confirms : List (ℕ × ℕ × ℕ)) → IsSeat t.world.places s →
    AreSteps t (hearing s confirms)
hears_step t s [] is = tt
hears_step t s (c ∷ cs) is = (
  subst (HoldsAt (IsStep t) _) (sym is.found) (record {
    found = is.found;
    does = DoesHear (record { seat = s; is = is; at = refl; confirms = c ∷ cs; commit = refl });
  }),
  tt,
)

poll_step : (t : Past) (delivery : Delivery) (b : Poll) → IsPoll t.world b → AreSteps t (stated_by delivery b).commits
poll_step t Lost b is = tt
poll_step t others b is = hears_step t b.seat b.confirms is.seat

-- what a turn applies is the next event, and what there is for that
pub carried_taken : (t : Past) (origin : ℕ) (x : Carried) → IsCarried t.world origin x → IsTaken t origin x
carried_taken t origin x is = record {
  work = is.work;
  brings = brought_is t origin x is;
  unwritten =
      subst (λ (b : Brought). AreUnwritten x.seat.place b.rows) (sym is.is)
      (brought_unwritten x.seat.place is.found (there_on t origin x.seat x.event is.found is.work is.there) is.free);
}

work_step : (t : Past) (origin : ℕ) (x : Carried) → IsCarried t.world origin x → AreSteps t (applied_by x).commits
work_step t origin x is = (
  subst (HoldsAt (IsStep t) (taking x)) (sym is.work.seat.found) (record {
    found = is.work.seat.found;
    does = DoesTake (record {
      carried = x;
      origin = origin;
      is = carried_taken t origin x is;
      at = refl;
      commit = refl;
    });
  }),
  tt,
)

-- ---- each command

-- the commits of what a command does
pub outcome_steps : (t : Past) (act : Act) → AllHold (IsStep t) (outcome act t.world).commits t.world.places
outcome_steps t act =
    outcome_has t.world (λ commits queues fetches. AreSteps t commits) (record {
      nothing = tt;
      stops = λ name. tt;
      gives_up = λ name origin. tt;
      orders = ordered_step t;
      syncs = sync_step t;
      polls = λ node server delivery.
          ok_then (IsPoll t.world) (λ b. AreSteps t (stated_by delivery b).commits) (polled node server t.world)
          (polled_ok node server t.world (regular_now t)) (poll_step t delivery);
      fetches = λ node origin. any_ok (λ x. Unit {0}) (fetched node origin t.world) (λ x. tt);
      works = λ node origin.
          ok_then (IsCarried t.world origin) (λ x. AreSteps t (applied_by x).commits) (worked node origin t.world)
          (worked_ok node origin t.world (regular_now t)) (work_step t origin);
    }) act
