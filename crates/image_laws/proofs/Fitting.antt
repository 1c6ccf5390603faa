-- The commits of every statement and every turn are such that stretches hold behind them.
use Rattle.slon_model.specs.World.{outcome}
use Rattle.slon_model.specs.Tasks.{Act}
use Rattle.std.proofs.Common.{◌≡◌, ◌≢◌, ℕ, true, false, cond, List, [], ◌∷◌, Option, Some, None, Result, refl}
use Rattle.std.proofs.Common.{◌++◌, sym, ap, subst, ◌∙◌, is_some}
use Rattle.std.specs.Prelude.{◌==◌, ◌+◌}
use Rattle.std.specs.Str.{bytes_eq}
use Rattle.std.specs.List.{list_any, AllByRecursion}
use Rattle.std.proofs.lemmas.Bool.{true≢false, false_from_ne_true, eqb-true, eq-eqb}
use Rattle.std.proofs.lemmas.List.{append_assoc}
use Rattle.slonik_script.specs.declared.script.Command.{Command as Order}
use Rattle.slon_model.specs.declared.command.Delivery.{Delivery}
use Rattle.slon_model.specs.declared.command.Delivery.TheVariants.{Lost}
use Rattle.slon_model.specs.declared.reply.Refusal.{Refusal}
use Rattle.node_rows.specs.declared.rows.NodeRow.{NodeRow}
use Rattle.node_rows.specs.declared.rows.SetRow.{SetRow}
use Rattle.node_rows.specs.declared.rows.Subscription.{Subscription}
use Rattle.node_rows.specs.declared.body.Body.{Body}
use Rattle.node_rows.specs.declared.body.Body.TheVariants.{Sync, StoreNode, DropNode, StorePath, DropPath, StoreSet}
use Rattle.node_rows.specs.declared.body.Body.TheVariants.{DropSet}
use Rattle.node_rows.specs.declared.body.Body.TheVariants.{SetAddTable, UnsubscribeSet, MoveSet, FailoverSet}
use Rattle.slon_model.specs.Names.{Named, find_named}
use Rattle.slon_model.specs.Maps.{entry_at, pair_at}
use Rattle.slon_model.specs.Events.{Event}
use Rattle.slon_model.specs.Config.{Config, change_by, era_of, leads_row}
use Rattle.slon_model.specs.Deeds.{Node, Deed, Doing, Emits, Applies, Hears, Brought, Logged, brought_in}
use Rattle.slon_model.specs.Deeds.{knowledge, learned, with_deeds}
use Rattle.slon_model.specs.Place.{Place, deed, taken, node_id}
use Rattle.slon_model.specs.Sessions.{World, Running, Commit, Stated, Seat, Emission, bind, tells, when, writer_of}
use Rattle.slon_model.specs.Sessions.{emissions, next_event, committing, stood_at}
use Rattle.slon_model.specs.Membership.{comment_of, already, first_node, init_cluster, store_node, store_path}
use Rattle.slon_model.specs.Membership.{drop_node, drop_path, becoming, first_of_cluster, joining, stored_by}
use Rattle.slon_model.specs.Reaching.{database_of_line, reach, down_among, any_down, known_somewhere, origin_of, owner}
use Rattle.slon_model.specs.Reaching.{commit_of, emitting}
use Rattle.slon_model.specs.Sets.{NewTable, adding, create_set, drop_set, set_add_table}
use Rattle.slon_model.specs.Subscribing.{NewFeed, subscribing, bodies_of, told_bodies, all_tell, subscribe_set}
use Rattle.slon_model.specs.Subscribing.{unsubscribe_set}
use Rattle.slon_model.specs.Scripts.{ordered}
use Rattle.slon_model.specs.Turns.{on_turn, sync_turn}
use Rattle.slon_model.specs.Polls.{Poll, polled, stated_by, hearing}
use Rattle.slon_model.specs.Following.{Found, FoundCopy, FoundNothing, FoundSyncs}
use Rattle.slon_model.specs.Working.{Carried, applied_by, fetched, stands, still, worked}
use Rattle.slon_model.proofs.Names.{put_other, all_found, all_map, bytes_itself, one_found}
use Rattle.slon_laws.specs.Turning.{IsWithin, HoldsAt, AllHold}
use Rattle.slon_laws.proofs.Acting.{outcome_all}
use Rattle.slon_laws.specs.Worlds.{AllPlaces}
use Rattle.stream_laws.specs.Nodes.{node_in}
use Rattle.stream_laws.specs.Making.{OfSet, OfTable, OfName, tells_of}
use Rattle.stream_laws.specs.Facts.{IsRegular}
use Rattle.slon_laws.proofs.Lists.{all_filtered}
use Rattle.stream_laws.proofs.Lists.{all_appended}
use Rattle.stream_laws.proofs.Lists.{there_here, there_with}
use Rattle.stream_laws.proofs.Seats.{OnOk, ok_then, IsSeat, IsFound, IsReached, IsLeading, bind_ok, checked_ok, kept_ok}
use Rattle.stream_laws.proofs.Seats.{all_none, when_none, turn_ok, owner_ok, origin_ok, already_none, line_ok, reach_ok}
use Rattle.stream_laws.proofs.Seats.{unknown, no_nodes, no_node_at, seat_node}
use Rattle.stream_laws.proofs.Statements.{create_checks, table_checks}
use Rattle.stream_laws.proofs.Emits.{known_changed}
use Rattle.stream_laws.proofs.Commits.{Newcomer, other_name}
use Rattle.stream_laws.proofs.Waiting.{IsPoll, polled_ok}
use Rattle.stream_laws.proofs.Applies.{IsSetOf, MayCome}
use Rattle.stream_laws.proofs.Works.{IsWork, IsCarried, IsFetched, IsThere, Fresh, Kept, fetched_ok, worked_ok}
use Rattle.image_laws.specs.Fits.{IsWhole, IsKept, Fit, Keeps, CreatesSet, AddsTable, FollowsTable, DropsSet, IsFirst}
use Rattle.image_laws.specs.Fits.{IsDoneNow, AllDone, IsOfOther, AreOfOthers, BringOthers, LogOthers, MayStand, Does}
use Rattle.image_laws.specs.Fits.{Becomes, IsFit, is_owner}
use Rattle.image_laws.specs.Facts.{Holds, NodeHolds}
use Rattle.slon_laws.specs.Fetches.{AllKept}
use Rattle.slon_laws.proofs.Fetches.{IsKeptFor, OfFetch, kept_for}
use Rattle.slon_laws.proofs.Holds.{HoldsOf}
use Rattle.slon_laws.proofs.Leaves.{Leaves, outcome_has}
use Rattle.slon_laws.proofs.Results.{any_ok, none_busy}
use Rattle.image_laws.proofs.Staying.{Stays, deed_stays, stays_itself}
use Rattle.image_laws.proofs.Others.{FoundOthers, brought_others, found_others, other_stays, others_map}
use Rattle.slonik_script.specs.declared.script.Command.TheVariants as order
use Rattle.slon_model.specs.declared.reply.Refusal.TheVariants as refused

-- ---- a session

-- What the node of the database of a name fetched is of sets of other nodes, as the node knew them then. The database
-- is that node still.
pub record KeptOthers (ps : Named Place) (name : List ℕ) (f : Found) : Type 0 where
  pub node : Node
  pub whole : IsWhole node.id (knowledge node).config
  pub others : FoundOthers node.id (knowledge node).config f
  pub stays : HoldsOf (Stays node) name ps

abbrev pub IsKeptOthers : World → OfFetch
IsKeptOthers w name origin f = KeptOthers w.places name f.found

abbrev pub KeepOthers : World → Type 0
KeepOthers w = AllKept (IsKeptOthers w) w.memory.fetches

-- what holds of it before a step
pub record Ready (w : World) : Type 0 where
  pub regular : IsRegular w
  pub holds : AllPlaces Holds w
  pub kept : KeepOthers w

abbrev pub AreFit : World → List Commit → Type 0
AreFit w cs = AllHold IsFit cs w.places

abbrev IsStated : World → Stated → Type 0
IsStated w stated = AreFit w stated.commits

node_holds : (w : World) → Ready w → (s : Seat) → IsSeat w.places s → NodeHolds s.place s.node
node_holds w r s is = (all_found Holds s.name s.place w.places r.holds is.found).1 s.node is.node

-- ---- a node emits events

abbrev event_of : Seat → ℕ → Body → Event
event_of s number body = record { origin = s.node.id; number = number; taken = taken s.place; body = body }

abbrev deed_of : Seat → ℕ → Emission → Deed
deed_of s number m = deed s.place m.rows [] (Emits (event_of s number m.body))

done_now : (s : Seat) (number : ℕ) (m : Emission) (n : Node) → IsDoneNow s.place n (deed_of s number m)
done_now s number m n = record {
  first = refl;
  taken = λ e doing. let one : event_of s number m.body ≡ e = cc in ap (λ (k : Event). k.taken) (sym one);
  logs = tt;
}

-- each of these is fit for the node behind the ones before it
abbrev AllFit : Seat → ℕ → List Emission → Node → Type 0
AllFit s number [] n = Unit {0}
AllFit s number (m ∷ ms) n =
    Fit s.place n (deed_of s number m) × AllFit s (number + 1) ms (with_deeds (deed_of s number m ∷ []) n)

-- deeds that are done behind others of the same commit
done_behind : (p : Place) (n : Node) (later earlier : List Deed) → AllDone p n earlier →
    AllDone p (with_deeds earlier n) later → AllDone p n (later ++ earlier)
done_behind p n [] earlier before behind = before
done_behind p n (d ∷ ds) earlier before behind = (
  done_behind p n ds earlier before behind.0,
  subst (λ all. IsDoneNow p (record n { deeds = all }) d) (sym (append_assoc ds earlier n.deeds)) behind.1,
  subst (λ all. Fit p (record n { deeds = all }) d) (sym (append_assoc ds earlier n.deeds)) behind.2,
)

all_done : (s : Seat) (ms : List Emission) (number : ℕ) (n : Node) → AllFit s number ms n →
    AllDone s.place n (emissions s number ms)
all_done s [] number n fit = tt
all_done s (m ∷ ms) number n fit =
    done_behind s.place n (emissions s (number + 1) ms) (deed_of s number m ∷ []) (tt, done_now s number m n, fit.0)
    (all_done s ms (number + 1) (with_deeds (deed_of s number m ∷ []) n) fit.1)

-- what is emitted brings nothing
none_brought : (s : Seat) (number : ℕ) (ms : List Emission) (c : Config) →
    BringOthers s.node.id c (emissions s number ms)
none_brought s number [] c = tt
none_brought s number (m ∷ ms) c =
    all_appended (λ d. AreOfOthers s.node.id c (brought_in d.doing).rows) (emissions s (number + 1) ms)
    (deed_of s number m ∷ []) (none_brought s (number + 1) ms c) (tt, tt)

emits_fit : (w : World) (s : Seat) (ms : List Emission) → IsSeat w.places s → AllFit s (next_event s) ms s.node →
    IsStated w (emitting s ms)
emits_fit w s ms is fit =
    let does = Does s.node is.node refl (all_done s ms (next_event s) s.node fit)
    (none_brought s (next_event s) ms _) in
    (subst (HoldsAt IsFit (commit_of s ms)) (sym is.found) does, tt)

-- behind an event of this body the sets and tables are as they were
abbrev IsQuiet : Body → Type 0
IsQuiet body =
    (origin number : ℕ) (c : Config) →
    ((change_by origin number body c).sets ≡ c.sets) × ((change_by origin number body c).tables ≡ c.tables)

-- events that give no rows
told_fit : (s : Seat) (bodies : List Body) (number : ℕ) (n : Node) → AllByRecursion IsQuiet bodies →
    AllFit s number (all_tell bodies) n
told_fit s [] number n quiet = tt
told_fit s (body ∷ more) number n quiet =
    let same = quiet.0 s.node.id number (knowledge n).config in (
      Keeps refl (record {
        sets = same.0;
        tables = same.1;
        nodes = λ id known. known_changed id s.node.id number body (knowledge n).config known;
      }),
      told_fit s more (number + 1) (with_deeds (deed_of s number (tells body) ∷ []) n) quiet.1,
    )

quiet_fit : (w : World) (s : Seat) (bodies : List Body) → IsSeat w.places s → AllByRecursion IsQuiet bodies →
    IsStated w (emitting s (all_tell bodies))
quiet_fit w s bodies is quiet =
    emits_fit w s (all_tell bodies) is (told_fit s bodies (next_event s) s.node quiet)

abbrev all_kept : (c : Config) → IsKept c c
all_kept c = record { sets = refl; tables = refl; nodes = λ id known. known }

-- ---- reaching a node

reached : (w : World) (id : ℕ) (run : Running) (f : Seat → Result Stated Refusal) →
    ((s : Seat) → IsReached w.places id s → OnOk (IsStated w) (f s)) → OnOk (IsStated w) (bind (reach run id w) f)
reached w id run f on = bind_ok (IsReached w.places id) (IsStated w) (reach run id w) f (reach_ok run id w) on

-- ---- a database becomes a node

init_fit : (id : ℕ) (comment : Option (List ℕ)) (run : Running) (w : World) →
    OnOk (IsStated w) (init_cluster id comment run w)
init_fit id comment run w =
    bind_ok (IsFound w.places) (IsStated w) (database_of_line run id w) _ (line_ok run id w)
    (λ e found. checked_ok (IsStated w) (down_among w.places ∷ already (first_node w) ∷ []) _
    (λ none. (
      subst (HoldsAt IsFit (becoming e.0 (first_of_cluster id (comment_of comment) run))) (sym found)
          (Becomes (first_of_cluster id (comment_of comment) run)
          (sym (ap node_in found) ∙ no_nodes w.places
          (already_none (first_node w) (all_none (down_among w.places ∷ already (first_node w) ∷ []) none).1.0) e.0)
          refl refl (record {
            deeds = refl;
            whole = record {
              knows =
                  let row : NodeRow = record { live = true; comment = comment_of comment } in
                  ap (λ b. is_some (cond b (Some row) None)) (eq-eqb id id refl);
              sets = λ set row is. absurd cc;
              tables = tt;
              names = λ e f never other same. absurd never;
              live = λ e never some. absurd never;
              ended = λ e never owns live. absurd never;
            };
            leads = λ set. refl;
          })),
      tt,
    )))

-- the id of the new node is of no set's origin
new_leads_none : (id : ℕ) (c : Config) → ((set : ℕ) (row : SetRow) → entry_at set c.sets ≡ Some row →
    is_some (entry_at row.origin c.nodes) ≡ true) → is_some (entry_at id c.nodes) ≡ false → (set : ℕ) →
    is_owner id set c ≡ false
new_leads_none id c known new set = by (entry_at set c.sets) refl
  where
    by : (o : Option SetRow) → entry_at set c.sets ≡ o → leads_row id o ≡ false
    by None is = refl
    by (Some row) is =
        false_from_ne_true (row.origin == id) (λ same. true≢false (sym (known set row is)
        ∙ ap (λ k. is_some (entry_at k c.nodes)) (eqb-true row.origin id same) ∙ new))

stores_fit : (w : World) → Ready w → (s : Seat) (c : Newcomer w.places) (comment : List ℕ) (run : Running) →
    IsSeat w.places s → IsStated w (stored_by s c.name c.id comment run)
stores_fit w r s c comment run is =
    (one.0, (subst (HoldsAt IsFit (becoming c.name joined)) (sym found) (Becomes joined c.none refl refl first), tt))
  where
    body : Body
    body = StoreNode c.id comment

    known : Config
    known = (knowledge s.node).config

    whole : IsWhole s.node.id known
    whole = (node_holds w r s is).whole

    commit : Commit
    commit = commit_of s (tells body ∷ [])

    joined : Node
    joined = joining c.id (with_deeds commit.deeds s.node) run

    one : IsStated w (emitting s (tells body ∷ []))
    one = quiet_fit w s (body ∷ []) is (λ origin number c. (refl, refl), tt)

    found : find_named c.name (stood_at commit (find_named s.name w.places) w.places) ≡ Some c.place
    found =
        ap (λ o. find_named c.name (stood_at commit o w.places)) is.found
        ∙ put_other c.name s.name (committing commit s.place) w.places (other_name w.places s c is) ∙ c.found

    none : (set : ℕ) → is_owner c.id set known ≡ false
    none = new_leads_none c.id known whole.sets (c.unknown s.name s.node (seat_node w.places s is))

    first : IsFirst joined
    first = record {
      deeds = refl;
      whole = record {
        knows = there_here c.id _ known.nodes;
        sets = λ set row at. there_with row.origin c.id _ known.nodes (whole.sets set row at);
        tables = whole.tables;
        names = whole.names;
        live = whole.live;
        ended = λ e among owns live. absurd (true≢false (sym owns ∙ none e.1.set_id));
      };
      leads = none;
    }

-- what is looked at before a database joins
abbrev pub store_checks : ℕ → World → List ℕ × Place → List (Option Refusal)
store_checks id w e =
    already (node_id e.1) ∷ any_down w
    ∷ when (known_somewhere (λ c. is_some (entry_at id c.nodes)) w) (refused.IdUsed id) ∷ []

abbrev pub newcomer : (w : World) (id : ℕ) (e : List ℕ × Place) → IsFound w.places e →
    AllByRecursion (λ o. o ≡ None) (store_checks id w e) → Newcomer w.places
newcomer w id e found none = record {
  name = e.0;
  place = e.1;
  found = found;
  none = no_node_at w.places e found (already_none (node_id e.1) none.0);
  id = id;
  unknown = unknown (λ c. is_some (entry_at id c.nodes)) w.places (when_none _ (refused.IdUsed id) none.1.1.0);
}

store_fit : (id event_node : ℕ) (comment : Option (List ℕ)) (run : Running) (w : World) → Ready w →
    OnOk (IsStated w) (store_node id event_node comment run w)
store_fit id event_node comment run w r =
    reached w event_node run _
    (λ s is. bind_ok (IsFound w.places) (IsStated w) (database_of_line run id w) _ (line_ok run id w)
    (λ e found. checked_ok (IsStated w) (store_checks id w e) (stored_by s e.0 id (comment_of comment) run)
    (λ none. stores_fit w r s (newcomer w id e found (all_none (store_checks id w e) none)) (comment_of comment) run
    is.0)))

-- ---- sets

create_fit : (id origin : ℕ) (comment : Option (List ℕ)) (run : Running) (w : World) → Ready w →
    OnOk (IsStated w) (create_set id origin comment run w)
create_fit id origin comment run w r =
    reached w origin run _
    (λ s is. checked_ok (IsStated w) (create_checks id w)
    (emitting s (tells (StoreSet id origin (comment_of comment)) ∷ []))
    (λ none. emits_fit w s (tells (StoreSet id origin (comment_of comment)) ∷ []) is.0 (
      CreatesSet (record {
        set_id = id;
        origin = origin;
        comment = comment_of comment;
        event = event_of s (next_event s) (StoreSet id origin (comment_of comment));
        met = refl;
        body = refl;
        rows = refl;
        known =
            ap (λ k. is_some (entry_at k (knowledge s.node).config.nodes)) (sym is.1)
            ∙ (node_holds w r s is.0).whole.knows;
        new =
            unknown (λ c. is_some (entry_at id c.sets)) w.places (when_none _ (refused.IdUsed id)
            (all_none (create_checks id w) none).1.0) s.name s.node (seat_node w.places s is.0);
      }),
      tt,
    )))

adds_fit : (t : NewTable) (w : World) (s : Seat) → IsLeading w.places t.set_id s →
    AllByRecursion (λ o. o ≡ None) (table_checks t w s) → IsStated w (emitting s (adding s t ∷ []))
adds_fit t w s is none =
    let node = seat_node w.places s is.0 in
    emits_fit w s (adding s t ∷ []) is.0 (
      AddsTable (record {
        table = record {
          set_id = t.set_id;
          table_id = t.id;
          name = t.name;
          comment = t.comment;
          event = event_of s (next_event s) (adding s t).body;
          met = refl;
          body = refl;
          new =
              unknown (λ c. is_some (entry_at t.id c.tables)) w.places
              (when_none _ (refused.IdUsed t.id) none.1.1.1.0) s.name s.node node;
          unused =
              unknown (λ c. list_any (λ e. bytes_eq t.name e.1.name) c.tables) w.places
              (when_none _ (refused.TableUsed t.name) none.1.1.1.1.0) s.name s.node node;
        };
        rows = refl;
        leads = is.1;
        free = none_busy (writer_of (t.name ∷ []) s.place) none.1.1.1.1.1.0;
      }),
      tt,
    )

table_fit : (origin : ℕ) (t : NewTable) (run : Running) (w : World) → OnOk (IsStated w) (set_add_table origin t run w)
table_fit origin t run w =
    bind_ok (IsLeading w.places t.set_id) (IsStated w) (origin_of run origin t.set_id w) _
    (origin_ok run origin t.set_id w)
    (λ s is. checked_ok (IsStated w) (table_checks t w s) (emitting s (adding s t ∷ []))
    (λ none. adds_fit t w s is (all_none (table_checks t w s) none)))

drop_fit : (id origin : ℕ) (run : Running) (w : World) → OnOk (IsStated w) (drop_set id origin run w)
drop_fit id origin run w =
    bind_ok (IsLeading w.places id) (IsStated w) (origin_of run origin id w) _ (origin_ok run origin id w)
    (λ s is. emits_fit w s (tells (DropSet id) ∷ []) is.0 (
      DropsSet (record {
        set_id = id;
        event = event_of s (next_event s) (DropSet id);
        met = refl;
        body = refl;
        rows = refl;
      }),
      tt,
    ))

-- ---- all of them

drop_node_fit : (id event_node : ℕ) (run : Running) (w : World) → OnOk (IsStated w) (drop_node id event_node run w)
drop_node_fit id event_node run w =
    reached w event_node run _
    (λ s is. let fit = quiet_fit w s (DropNode id ∷ []) is.0 (λ origin number c. (refl, refl), tt) in
    search (kept_ok (IsStated w), fit))

path_fit : (server client : ℕ) (conninfo : List ℕ) (run : Running) (w : World) →
    OnOk (IsStated w) (store_path server client conninfo run w)
path_fit server client conninfo run w =
    reached w client run _
    (λ s is. let fit = quiet_fit w s (StorePath server client conninfo ∷ []) is.0
    (λ origin number c. (refl, refl), tt) in
    search (kept_ok (IsStated w), fit))

no_path_fit : (server client : ℕ) (run : Running) (w : World) → OnOk (IsStated w) (drop_path server client run w)
no_path_fit server client run w =
    reached w client run _
    (λ s is. let fit = quiet_fit w s (DropPath server client ∷ []) is.0
    (λ origin number c. (refl, refl), tt) in
    search (kept_ok (IsStated w), fit))

sync_is_quiet : AllByRecursion IsQuiet (Sync ∷ [])
sync_is_quiet = (λ origin number c. (refl, refl), tt)

feed_is_quiet : (era : ℕ) (f : NewFeed) (o : Option Subscription) → AllByRecursion IsQuiet (bodies_of era f o)
feed_is_quiet era f None =
    (λ origin number c. (refl, refl), (λ origin number c. (refl, refl), (λ origin number c. (refl, refl), tt)))
feed_is_quiet era f (Some row) = (λ origin number c. (refl, refl), (λ origin number c. (refl, refl), tt))

feed_fit : (f : NewFeed) (run : Running) (w : World) → Ready w → OnOk (IsStated w) (subscribe_set f run w)
feed_fit f run w r =
    bind_ok (IsSeat w.places) (IsStated w) (owner run f.set_id w) _ (owner_ok run f.set_id w r.regular.once)
    (λ s is. let had = pair_at f.set_id f.receiver s.known.config.subscriptions in
    let fit = quiet_fit w s (told_bodies f s.known.config) is
    (feed_is_quiet (era_of f.set_id s.known.config) f had) in
    search (kept_ok (IsStated w), fit))

leave_fit : (set receiver : ℕ) (run : Running) (w : World) → Ready w →
    OnOk (IsStated w) (unsubscribe_set set receiver run w)
leave_fit set receiver run w r =
    bind_ok (IsSeat w.places) (IsStated w) (owner run set w) _ (owner_ok run set w r.regular.once)
    (λ s is. let fit = quiet_fit w s (UnsubscribeSet set receiver ∷ []) is (λ origin number c. (refl, refl), tt) in
    search (kept_ok (IsStated w), fit))

ordered_fit : (w : World) → Ready w → (o : Order) (run : Running) → OnOk (IsStated w) (ordered o run w)
ordered_fit w r (order.InitCluster id comment) run = init_fit id comment run w
ordered_fit w r (order.StoreNode id event_node comment) run = store_fit id event_node comment run w r
ordered_fit w r (order.DropNode id event_node) run = drop_node_fit id event_node run w
ordered_fit w r (order.StorePath server client conninfo retry) run = path_fit server client conninfo run w
ordered_fit w r (order.DropPath server client) run = no_path_fit server client run w
ordered_fit w r (order.CreateSet id origin comment) run = create_fit id origin comment run w r
ordered_fit w r (order.DropSet id origin) run = drop_fit id origin run w
ordered_fit w r (order.SetAddTable set origin id name key comment) run =
    table_fit origin (record { set_id = set; id = id; name = name; comment = comment_of comment }) run w
ordered_fit w r (order.SubscribeSet set provider receiver forward) run =
    feed_fit (subscribing set provider receiver forward) run w r
ordered_fit w r (order.UnsubscribeSet set receiver) run = leave_fit set receiver run w r
ordered_fit w r (order.Sync id) run =
    reached w id run _ (λ s is. quiet_fit w s (Sync ∷ []) is.0 sync_is_quiet)
ordered_fit w r others run = tt

sync_fit : (w : World) → Ready w → (node : ℕ) → OnOk (IsStated w) (sync_turn node w)
sync_fit w r node =
    bind_ok (IsSeat w.places) (IsStated w) (on_turn node w) _ (turn_ok node w r.regular.once)
    (λ s is. let fit = quiet_fit w s (Sync ∷ []) is sync_is_quiet in
    search (kept_ok (IsStated w), fit))

-- what the node of a seat knows behind one more deed
abbrev known_then : Seat → Doing → Config
known_then s doing = (learned s.node.id doing (knowledge s.node)).config

-- What the node of a seat does, which is no event of its own: what comes with it, and what it logs, is of sets of other
-- nodes.
record IsOneDeed (s : Seat) (logs : List Logged) (doing : Doing) : Type 0 where
  silent : (e : Event) → doing ≡ Emits e → ⊥
  fit : Fit s.place s.node (deed s.place [] logs doing)
  brings : AreOfOthers s.node.id (known_then s doing) (brought_in doing).rows
  logged : LogOthers s.node.id (knowledge s.node).config logs

does_fit : (w : World) (s : Seat) (logs : List Logged) (doing : Doing) → IsSeat w.places s → IsOneDeed s logs doing →
    AreFit w (record { name = s.name; becomes = None; deeds = deed s.place [] logs doing ∷ [] } ∷ [])
does_fit w s logs doing is d =
    let now : IsDoneNow s.place s.node (deed s.place [] logs doing) =
    record { first = refl; taken = λ e emits. absurd (d.silent e emits); logs = d.logged } in (
      subst (HoldsAt IsFit _) (sym is.found) (Does s.node is.node refl (tt, now, d.fit) (d.brings, tt)),
      tt,
    )

hears_fit : (w : World) (s : Seat) (confirms : List (ℕ × ℕ × ℕ)) → IsSeat w.places s → AreFit w (hearing s confirms)
hears_fit w s [] is = tt
hears_fit w s (c ∷ cs) is =
    does_fit w s [] (Hears (c ∷ cs)) is (record {
      silent = λ e emits. absurd cc;
      fit = Keeps refl (all_kept (knowledge s.node).config);
      brings = tt;
      logged = tt;
    })

poll_fit : (w : World) (delivery : Delivery) (b : Poll) → IsPoll w b → AreFit w (stated_by delivery b).commits
poll_fit w Lost b is = tt
poll_fit w others b is = hears_fit w b.seat b.confirms is.seat

-- ---- a node applies an event

-- another node is the origin of the set
other_leads : (own origin set : ℕ) (c : Config) → origin ≢ own → IsSetOf set origin c → is_owner own set c ≡ false
other_leads own origin set c other (row, found, from) =
    ap (leads_row own) found
    ∙ false_from_ne_true (row.origin == own) (λ same. other (sym from ∙ eqb-true row.origin own same))

abbrev DoesFit : Seat → Event → Brought → Type 0
DoesFit s e b = Fit s.place s.node (deed s.place [] b.logs (Applies e b))

applies_fit : (w : World) (by : ℕ) (s : Seat) (e : Event) (b : Brought) → IsWork w by s e → (body : Body) →
    (e.body ≡ body) × MayCome e.origin body (knowledge s.node).config → DoesFit s e b
applies_fit w by s e b work (StoreSet set origin comment) (is, may) =
    CreatesSet (record {
      set_id = set;
      origin = origin;
      comment = comment;
      event = e;
      met = refl;
      body = is;
      rows = refl;
      known = ap (λ id. is_some (entry_at id (knowledge s.node).config.nodes)) may ∙ work.knows;
      new = work.new (OfSet set) (ap (λ b. tells_of b (OfSet set)) is ∙ eq-eqb set set refl);
    })
applies_fit w by s e b work (SetAddTable set table name comment) (is, may) =
    FollowsTable (record {
      table = record {
        set_id = set;
        table_id = table;
        name = name;
        comment = comment;
        event = e;
        met = refl;
        body = is;
        new = work.new (OfTable table) (ap (λ b. tells_of b (OfTable table)) is ∙ eq-eqb table table refl);
        unused = work.new (OfName name) (ap (λ b. tells_of b (OfName name)) is ∙ bytes_itself name);
      };
      rows = refl;
      known = ap is_some may.0.1;
      other = other_leads s.node.id e.origin set (knowledge s.node).config work.other may.0;
    })
applies_fit w by s e b work (DropSet set) (is, may) =
    DropsSet (record { set_id = set; event = e; met = refl; body = is; rows = refl })
applies_fit w by s e b work (MoveSet set old new era feeds) (is, may) = absurd (true≢false (sym may))
applies_fit w by s e b work (FailoverSet failed limit sets) (is, may) = absurd (true≢false (sym may))
applies_fit w by s e b work others (is, may) =
    let c = (knowledge s.node).config in
    Keeps refl (subst (λ b. IsKept c (change_by e.origin e.number b c)) (sym is) (record {
      sets = refl;
      tables = refl;
      nodes = λ id. known_changed id e.origin e.number others c;
    }))

pub fetched_others : (w : World) → Ready w → (node origin : ℕ) →
    OnOk (λ x. KeptOthers w.places x.seat.name x.found) (fetched node origin w)
fetched_others w r node origin =
    ok_then (IsFetched w origin) (λ x. KeptOthers w.places x.seat.name x.found) (fetched node origin w)
    (fetched_ok node origin w r.regular)
    (λ x is. record {
      node = x.seat.node;
      whole = (node_holds w r x.seat is.work.seat).whole;
      others = found_others w x.seat x.event x.found is.work.seat
          (node_holds w r x.seat is.work.seat).whole is.finds;
      stays = (
        x.seat.place,
        is.work.seat.found,
        stays_itself x.seat.node x.seat.place is.work.seat.node,
      );
    })

-- ---- what a node knows later

-- what there is for an event
there_others : (w : World) → Ready w → (s : Seat) (e : Event) (f : Found) → IsSeat w.places s → IsThere w s e f →
    FoundOthers s.node.id (knowledge s.node).config f
there_others w r s e f is (Fresh finds) = found_others w s e f is (node_holds w r s is).whole finds
there_others w r s e f is (Kept g some same) =
    subst (FoundOthers s.node.id (knowledge s.node).config) (sym same)
    (still_others g (subst (λ (m : Node). FoundOthers m.id (knowledge m).config g) one
    (others_map k.node.id now.2.node.id (knowledge k.node).config (knowledge now.2.node).config
    (other_stays k.node now.0 now.2 k.whole) g (subst (FoundOthers k.node.id (knowledge k.node).config) for.found
    k.others))))
  where
    for : IsKeptFor (IsKeptOthers w) s.name e g
    for = kept_for (IsKeptOthers w) s.name e w.memory g r.kept some

    k : KeptOthers w.places s.name for.fetch.found
    k = for.has

    now : HoldsOf (Stays k.node) s.name w.places
    now = k.stays

    one : now.2.node ≡ s.node
    one = one_found now.2.node s.node (sym now.2.is
        ∙ ap (λ (p : Place). p.node) (one_found now.0 s.place (sym now.1 ∙ is.found)) ∙ is.node)

    still_others : (g : Found) → FoundOthers s.node.id (knowledge s.node).config g →
        FoundOthers s.node.id (knowledge s.node).config (still s.known g)
    still_others (FoundSyncs ts) all =
        all_filtered (λ t. LogOthers s.node.id (knowledge s.node).config t.rows) (stands s.known) ts all
    still_others FoundNothing all = all
    still_others (FoundCopy set view rows) all = all

work_fit : (w : World) → Ready w → (by : ℕ) (c : Carried) → IsCarried w by c → AreFit w (applied_by c).commits
work_fit w r by c is =
    does_fit w s c.brought.logs (Applies e c.brought) seat (record {
      silent = λ f emits. absurd cc;
      fit = fit;
      brings =
          all_map (λ x. IsOfOther n.id (knowledge n).config x.0) (λ x. IsOfOther n.id (knowledge behind).config x.0)
          (λ x of. subst (λ (m : Node). IsOfOther m.id (knowledge m).config x.0) (sym one)
          (other_stays n after then (node_holds w r s seat).whole x.0 of)) c.brought.rows brings.0;
      logged = brings.1;
    })
  where
    s : Seat
    s = c.seat

    e : Event
    e = c.event

    n : Node
    n = c.seat.node

    seat : IsSeat w.places s
    seat = is.work.seat

    fit : DoesFit s e c.brought
    fit = applies_fit w by s e c.brought is.work e.body (refl, is.work.may)

    brings : AreOfOthers n.id (knowledge n).config c.brought.rows × LogOthers n.id (knowledge n).config c.brought.logs
    brings =
        subst (λ (b : Brought). AreOfOthers n.id (knowledge n).config b.rows
        × LogOthers n.id (knowledge n).config b.logs) (sym is.is)
        (brought_others s.place n.id (knowledge n).config is.found (there_others w r s e is.found seat is.there))

    d : Deed
    d = deed s.place [] c.brought.logs (Applies e c.brought)

    behind : Node
    behind = with_deeds (d ∷ []) n

    after : Place
    after = record s.place { node = Some behind }

    then : Stays n after
    then =
        deed_stays n s.place after (record { node = n; deed = d; first = refl; fit = fit }) (seat.node, refl)
        (all_found Holds s.name s.place w.places r.holds seat.found) (stays_itself n s.place seat.node)

    one : behind ≡ then.node
    one = one_found behind then.node then.is

-- ---- each command

leaves : (w : World) → Ready w → Leaves w (λ commits queues fetches. AreFit w commits)
leaves w r = record {
  nothing = tt;
  stops = λ name. tt;
  gives_up = λ name origin. tt;
  orders = ordered_fit w r;
  syncs = sync_fit w r;
  polls = λ node server delivery.
      ok_then (IsPoll w) (λ b. AreFit w (stated_by delivery b).commits) (polled node server w)
      (polled_ok node server w r.regular) (poll_fit w delivery);
  fetches = λ node origin. any_ok (λ x. Unit {0}) (fetched node origin w) (λ x. tt);
  works = λ node origin.
      ok_then (IsCarried w origin) (λ c. AreFit w (applied_by c).commits) (worked node origin w)
      (worked_ok node origin w r.regular) (work_fit w r origin);
}

all_stand : (cs : List Commit) (ps : Named Place) → AllHold IsWithin cs ps → AllHold IsFit cs ps →
    AllHold MayStand cs ps
all_stand [] ps within fit = tt
all_stand (c ∷ cs) ps within fit =
    (by (find_named c.name ps) within.0 fit.0, all_stand cs (stood_at c (find_named c.name ps) ps) within.1 fit.1)
  where
    by : (o : Option Place) → HoldsAt IsWithin c o → HoldsAt IsFit c o → HoldsAt MayStand c o
    by None one other = tt
    by (Some p) one other = (one, other)

-- the commits of what a command does
pub outcome_fit : (w : World) → Ready w → (act : Act) → AllHold MayStand (outcome act w).commits w.places
outcome_fit w r act =
    all_stand (outcome act w).commits w.places (outcome_all act w)
    (outcome_has w (λ commits queues fetches. AreFit w commits) (leaves w r) act)
