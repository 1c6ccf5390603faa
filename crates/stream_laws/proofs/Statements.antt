-- Each statement of a script goes on by commits behind which the nodes of the session went on.
use Rattle.std.proofs.Common.{◌≡◌, ℕ, Bool, true, false, cond, List, [], ◌∷◌, Option, Some, None, Result, refl}
use Rattle.std.proofs.Common.{subst, ◌∙◌, is_some, is_none, sym, ap, not}
use Rattle.std.specs.Prelude.{option_map}
use Rattle.std.specs.List.{list_any}
use Rattle.std.specs.Str.{bytes_eq}
use Rattle.std.proofs.lemmas.Bool.{false≢true, false_from_ne_true, eqb-true}
use Rattle.slonik_script.specs.declared.script.Command.{Command as Order}
use Rattle.slonik_script.specs.declared.script.Command.TheVariants as order
use Rattle.node_rows.specs.declared.rows.SetRow.{SetRow}
use Rattle.node_rows.specs.declared.rows.Subscription.{Subscription}
use Rattle.node_rows.specs.declared.body.Body.{Body}
use Rattle.node_rows.specs.declared.body.Body.TheVariants.{Sync, DropNode, StorePath, DropPath, StoreSet, DropSet}
use Rattle.node_rows.specs.declared.body.Body.TheVariants.{UnsubscribeSet}
use Rattle.slon_model.specs.declared.reply.Refusal.{Refusal}
use Rattle.slon_model.specs.declared.reply.Refusal.TheVariants as refused
use Rattle.slon_model.specs.Names.{find_named}
use Rattle.slon_model.specs.Maps.{entry_at, pair_at}
use Rattle.slon_model.specs.Config.{Config, live_set, leads_row, is_origin, era_of}
use Rattle.slon_model.specs.Deeds.{Node, knowledge, stream}
use Rattle.slon_model.specs.Place.{node_id}
use Rattle.slon_model.specs.Sessions.{World, Running, Stated, Seat, Emission, bind, tells, when, writer_of}
use Rattle.slon_model.specs.Membership.{comment_of, already, first_node, init_cluster, store_node, store_path}
use Rattle.slon_model.specs.Membership.{drop_node, drop_path}
use Rattle.slon_model.specs.Reaching.{database_of_line, reach, down_among, any_down, known_somewhere, origin_of}
use Rattle.slon_model.specs.Reaching.{owner, emitting, receiver_with}
use Rattle.slon_model.specs.Sets.{NewTable, adding, create_set, drop_set, set_add_table}
use Rattle.slon_model.specs.Subscribing.{NewFeed, subscribing, bodies_of, told_bodies, all_tell, subscribe_set}
use Rattle.slon_model.specs.Subscribing.{unsubscribe_set}
use Rattle.slon_model.specs.Scripts.{ordered}
use Rattle.slon_model.proofs.Names.{bytes_same, one_found}
use Rattle.stream_laws.specs.Nodes.{IsAmong, Nodes, nodes_in}
use Rattle.stream_laws.specs.Making.{Mark, OfSet, OfTable, OfName, OfEnd, tells_of, has_mark, is_ended, IsMade}
use Rattle.stream_laws.specs.Making.{HasLasted, HasStored}
use Rattle.stream_laws.specs.Facts.{AreRegular, IsRegular}
use Rattle.stream_laws.proofs.Seats.{OnOk, IsSeat, IsFound, bind_ok, checked_ok, kept_ok, none_first, all_none}
use Rattle.stream_laws.proofs.Seats.{when_none, already_none, line_ok, IsReached, reach_ok, IsLeading, origin_ok}
use Rattle.stream_laws.proofs.Seats.{owner_ok, unknown, no_nodes, no_node_at, seat_node}
use Rattle.stream_laws.proofs.Streams.{one_node, own_told, IsUnknown, none_made}
use Rattle.stream_laws.proofs.Applies.{end_stored}
use Rattle.stream_laws.proofs.Lists.{among_all}
use Rattle.stream_laws.proofs.Emits.{MayEmit, AreFree, AreAllowed, free_allowed}
use Rattle.stream_laws.proofs.Commits.{AllGoOn, emits_all, inits_all, stores_all}

abbrev pub IsStated : World → Stated → Type 0
IsStated w stated = AllGoOn (nodes_in w.places) stated.commits w.places

pub emits_stated : (w : World) → IsRegular w → (s : Seat) → IsSeat w.places s → (ms : List Emission) →
    AreAllowed (nodes_in w.places) s.node ms → IsStated w (emitting s ms)
emits_stated w regular s is ms allowed = emits_all w.places s ms is allowed regular.nodes

-- events that make nothing known for good
pub free_stated : (w : World) → IsRegular w → (s : Seat) → IsSeat w.places s → (ms : List Emission) → AreFree ms →
    IsStated w (emitting s ms)
free_stated w regular s is ms free =
    emits_stated w regular s is ms (free_allowed (nodes_in w.places) s.node ms free)

init_stated : (id : ℕ) (comment : Option (List ℕ)) (run : Running) (w : World) → IsRegular w →
    OnOk (IsStated w) (init_cluster id comment run w)
init_stated id comment run w regular =
    bind_ok (IsFound w.places) (IsStated w) (database_of_line run id w) _ (line_ok run id w)
    (λ e found. checked_ok (IsStated w) (down_among w.places ∷ already (first_node w) ∷ []) _
    (λ none. inits_all w.places e id (comment_of comment) run found
    (no_nodes w.places
    (already_none (first_node w) (none_first _ _ (none_first (down_among w.places) _ none).1).0)) regular.nodes))

-- a statement of the node that a script reaches
reached_stated : (w : World) (id : ℕ) (run : Running) (f : Seat → Result Stated Refusal) →
    ((s : Seat) → IsReached w.places id s → OnOk (IsStated w) (f s)) → OnOk (IsStated w) (bind (reach run id w) f)
reached_stated w id run f on = bind_ok (IsReached w.places id) (IsStated w) (reach run id w) f (reach_ok run id w) on

store_stated : (id event_node : ℕ) (comment : Option (List ℕ)) (run : Running) (w : World) → IsRegular w →
    OnOk (IsStated w) (store_node id event_node comment run w)
store_stated id event_node comment run w regular =
    reached_stated w event_node run _
    (λ s is. bind_ok (IsFound w.places) (IsStated w) (database_of_line run id w) _ (line_ok run id w)
    (λ e found. checked_ok (IsStated w)
    (already (node_id e.1) ∷ any_down w
    ∷ when (known_somewhere (λ c. is_some (entry_at id c.nodes)) w) (refused.IdUsed id) ∷ []) _
    (λ none. let parts = none_first (already (node_id e.1)) _ none in
    let last = none_first _ _ (none_first (any_down w) _ parts.1).1 in
    stores_all w.places s (record {
      name = e.0;
      place = e.1;
      found = found;
      none = no_node_at w.places e found (already_none (node_id e.1) parts.0);
      id = id;
      unknown = unknown (λ c. is_some (entry_at id c.nodes)) w.places (when_none _ (refused.IdUsed id) last.0);
    }) (comment_of comment) run is.0 regular.nodes)))

drop_node_stated : (id event_node : ℕ) (run : Running) (w : World) → IsRegular w →
    OnOk (IsStated w) (drop_node id event_node run w)
drop_node_stated id event_node run w regular =
    reached_stated w event_node run _
    (λ s is. let done = free_stated w regular s is.0 (tells (DropNode id) ∷ []) (refl, tt) in
    search (kept_ok (IsStated w), done))

path_stated : (server client : ℕ) (conninfo : List ℕ) (run : Running) (w : World) → IsRegular w →
    OnOk (IsStated w) (store_path server client conninfo run w)
path_stated server client conninfo run w regular =
    reached_stated w client run _
    (λ s is. let done = free_stated w regular s is.0 (tells (StorePath server client conninfo) ∷ []) (refl, tt) in
    search (kept_ok (IsStated w), done))

no_path_stated : (server client : ℕ) (run : Running) (w : World) → IsRegular w →
    OnOk (IsStated w) (drop_path server client run w)
no_path_stated server client run w regular =
    reached_stated w client run _
    (λ s is. let done = free_stated w regular s is.0 (tells (DropPath server client) ∷ []) (refl, tt) in
    search (kept_ok (IsStated w), done))

feeds_free : (era : ℕ) (f : NewFeed) (o : Option Subscription) → AreFree (all_tell (bodies_of era f o))
feeds_free era f None = (refl, (refl, (refl, tt)))
feeds_free era f (Some row) = (refl, (refl, tt))

feed_stated : (f : NewFeed) (run : Running) (w : World) → IsRegular w → OnOk (IsStated w) (subscribe_set f run w)
feed_stated f run w regular =
    bind_ok (IsSeat w.places) (IsStated w) (owner run f.set_id w) _ (owner_ok run f.set_id w regular.once)
    (λ s is. let had = pair_at f.set_id f.receiver s.known.config.subscriptions in
    let done = free_stated w regular s is (all_tell (told_bodies f s.known.config))
    (feeds_free (era_of f.set_id s.known.config) f had) in
    search (kept_ok (IsStated w), done))

leave_stated : (set receiver : ℕ) (run : Running) (w : World) → IsRegular w →
    OnOk (IsStated w) (unsubscribe_set set receiver run w)
leave_stated set receiver run w regular =
    bind_ok (IsSeat w.places) (IsStated w) (owner run set w) _ (owner_ok run set w regular.once)
    (λ s is. let done = free_stated w regular s is (tells (UnsubscribeSet set receiver) ∷ []) (refl, tt) in
    search (kept_ok (IsStated w), done))

-- ---- sets

-- what is looked at before a set begins
abbrev pub create_checks : ℕ → World → List (Option Refusal)
create_checks id w =
    any_down w ∷ when (known_somewhere (λ c. is_some (entry_at id c.sets)) w) (refused.IdUsed id) ∷ []

-- a set that no node knows may begin at each node
set_may : (nodes : Nodes) → AreRegular nodes → (n : Node) (id : ℕ) (comment : List ℕ) → IsUnknown nodes (OfSet id) →
    MayEmit nodes n (StoreSet id n.id comment)
set_may nodes regular n id comment unknown = record { may = refl; unmade = by }
  where
    by : (mark : Mark) → tells_of (StoreSet id n.id comment) mark ≡ true → IsMade nodes mark → ⊥
    by (OfSet set) same made =
        none_made nodes regular (OfSet id) unknown (subst (λ k. IsMade nodes (OfSet k)) (eqb-true set id same) made)
    by others makes made = absurd (false≢true makes)

set_stated : (id origin : ℕ) (comment : Option (List ℕ)) (run : Running) (w : World) → IsRegular w →
    OnOk (IsStated w) (create_set id origin comment run w)
set_stated id origin comment run w regular =
    reached_stated w origin run _
    (λ s is. checked_ok (IsStated w) (create_checks id w) (emitting s (tells (new_set origin) ∷ []))
    (λ none. emits_stated w regular s is.0 (tells (new_set origin) ∷ []) (
      subst (λ by. MayEmit (nodes_in w.places) s.node (new_set by)) is.1
          (set_may (nodes_in w.places) regular.nodes s.node id (comment_of comment)
          (unknown (has_mark (OfSet id)) w.places
          (when_none _ (refused.IdUsed id) (all_none (create_checks id w) none).1.0))),
      tt,
    )))
  where
    new_set : ℕ → Body
    new_set by = StoreSet id by (comment_of comment)

-- what is looked at before a table comes into a set
abbrev pub table_checks : NewTable → World → Seat → List (Option Refusal)
table_checks t w s =
    option_map refused.HasReceivers (receiver_with (λ e. true) t.set_id s.known.config)
    ∷ when (is_none (find_named t.name s.place.tables)) (refused.NoTable t.name)
    ∷ any_down w
    ∷ when (known_somewhere (λ c. is_some (entry_at t.id c.tables)) w) (refused.IdUsed t.id)
    ∷ when (known_somewhere (λ c. list_any (λ e. bytes_eq t.name e.1.name) c.tables) w) (refused.TableUsed t.name)
    ∷ option_map refused.Busy (writer_of (t.name ∷ []) s.place) ∷ []

-- the origin of a live set
origin_row : (own set : ℕ) (c : Config) → is_origin own set c ≡ true →
    (row : SetRow) × (entry_at set c.sets ≡ Some row) × (row.origin ≡ own)
origin_row own set c leads = by (entry_at set c.sets) refl leads
  where
    live : (row : SetRow) (b : Bool) → leads_row own (cond b (Some row) None) ≡ true → row.origin ≡ own
    live row true same = eqb-true row.origin own same
    live row false none = absurd (false≢true none)

    by : (o : Option SetRow) → entry_at set c.sets ≡ o → leads_row own (live_set o) ≡ true →
        (row : SetRow) × (entry_at set c.sets ≡ Some row) × (row.origin ≡ own)
    by None is none = absurd (false≢true none)
    by (Some row) is leads = (row, is, live row row.live leads)

-- the node that is the origin of a set has stored it, whether that is live or not
pub owner_stored : (nodes : Nodes) → AreRegular nodes → (name : List ℕ) (n : Node) → nodes name ≡ Some n → (set : ℕ) →
    (row : SetRow) × (entry_at set (knowledge n).config.sets ≡ Some row) × (row.origin ≡ n.id) →
    HasStored set (stream n)
owner_stored nodes regular name n is set row =
    let made = (regular.each name n is).marked.origins set row.0 row.1 in
    let same = one_node nodes regular made.0.name name made.0.node n made.0.is (is, made.1 ∙ row.2) in
    (made.0.event, subst (λ x. IsAmong made.0.event (stream x)) same made.0.among, made.0.makes)

pub has_stored : (nodes : Nodes) → AreRegular nodes → (name : List ℕ) (n : Node) → nodes name ≡ Some n → (set : ℕ) →
    is_origin n.id set (knowledge n).config ≡ true → HasStored set (stream n)
has_stored nodes regular name n is set leads =
    owner_stored nodes regular name n is set (origin_row n.id set (knowledge n).config leads)

-- a live set has not ended
pub live_marked : (own set : ℕ) (c : Config) → is_origin own set c ≡ true → has_mark (OfEnd set) c ≡ false
live_marked own set c leads = by (entry_at set c.sets) leads
  where
    live : (row : SetRow) (b : Bool) → leads_row own (cond b (Some row) None) ≡ true → not b ≡ false
    live row true leads = refl
    live row false leads = absurd (false≢true leads)

    by : (o : Option SetRow) → leads_row own (live_set o) ≡ true → is_ended o ≡ false
    by None leads = refl
    by (Some row) leads = live row row.live leads

-- so its origin has not emitted that it has
pub has_lasted : (nodes : Nodes) → AreRegular nodes → (name : List ℕ) (n : Node) → nodes name ≡ Some n → (set : ℕ) →
    is_origin n.id set (knowledge n).config ≡ true → HasLasted set (stream n)
has_lasted nodes regular name n is set leads =
    among_all (λ e. tells_of e.body (OfEnd set) ≡ false) (stream n)
    (λ e among. false_from_ne_true (tells_of e.body (OfEnd set)) (λ ended.
    false≢true (sym (live_marked n.id set (knowledge n).config leads)
    ∙ own_told nodes regular name n is e among (OfEnd set) ended)))

-- A table comes into a set of which the node is the origin, where no node knows the table or its name.
pub record NewIn (nodes : Nodes) (t : NewTable) (s : Seat) : Type 0 where
  pub regular : AreRegular nodes
  pub is : nodes s.name ≡ Some s.node
  pub leads : is_origin s.node.id t.set_id (knowledge s.node).config ≡ true
  pub table : IsUnknown nodes (OfTable t.id)
  pub named : IsUnknown nodes (OfName t.name)

table_may : (nodes : Nodes) (t : NewTable) (s : Seat) → NewIn nodes t s → MayEmit nodes s.node (adding s t).body
table_may nodes t s new = record {
  may = (
    has_stored nodes new.regular s.name s.node new.is t.set_id new.leads,
    has_lasted nodes new.regular s.name s.node new.is t.set_id new.leads,
  );
  unmade = by;
}
  where
    by : (mark : Mark) → tells_of (adding s t).body mark ≡ true → IsMade nodes mark → ⊥
    by (OfTable table) same made =
        none_made nodes new.regular (OfTable t.id) new.table
        (subst (λ k. IsMade nodes (OfTable k)) (eqb-true table t.id same) made)
    by (OfName name) same made =
        none_made nodes new.regular (OfName t.name) new.named
        (subst (λ k. IsMade nodes (OfName k)) (bytes_same name t.name same) made)
    by others makes made = absurd (false≢true makes)

-- a set ends at its origin
drop_may : (nodes : Nodes) → AreRegular nodes → (s : Seat) (set : ℕ) → nodes s.name ≡ Some s.node →
    is_origin s.node.id set (knowledge s.node).config ≡ true → MayEmit nodes s.node (DropSet set)
drop_may nodes regular s set is leads =
    record { may = has_stored nodes regular s.name s.node is set leads; unmade = by }
  where
    none : IsMade nodes (OfEnd set) → ⊥
    none made =
        let stored = end_stored nodes regular set made in
        let row = origin_row s.node.id set (knowledge s.node).config leads in
        let own = (regular.each s.name s.node is).marked.origins set row.0 row.1 in
        let names = regular.once (OfSet set) stored.0 own.0 in
        let one : stored.0.node ≡ own.0.node = one_found _ _ (sym stored.0.is ∙ ap nodes names.0 ∙ own.0.is) in
        let node : made.node ≡ s.node =
        sym stored.1 ∙ one ∙ one_node nodes regular own.0.name s.name own.0.node s.node own.0.is (is, own.1 ∙ row.2) in
        false≢true (sym (live_marked s.node.id set (knowledge s.node).config leads)
        ∙ own_told nodes regular s.name s.node is made.event
        (subst (λ (n : Node). IsAmong made.event (stream n)) node made.among) (OfEnd set) made.makes)

    by : (mark : Mark) → tells_of (DropSet set) mark ≡ true → IsMade nodes mark → ⊥
    by (OfEnd id) same made = none (subst (λ k. IsMade nodes (OfEnd k)) (eqb-true id set same) made)
    by others makes made = absurd (false≢true makes)

drop_stated : (id origin : ℕ) (run : Running) (w : World) → IsRegular w → OnOk (IsStated w) (drop_set id origin run w)
drop_stated id origin run w regular =
    bind_ok (IsLeading w.places id) (IsStated w) (origin_of run origin id w) _ (origin_ok run origin id w)
    (λ s is. emits_stated w regular s is.0 (tells (DropSet id) ∷ [])
    (drop_may (nodes_in w.places) regular.nodes s id (seat_node w.places s is.0) is.1, tt))

table_stated : (origin : ℕ) (t : NewTable) (run : Running) (w : World) → IsRegular w →
    OnOk (IsStated w) (set_add_table origin t run w)
table_stated origin t run w regular =
    bind_ok (IsLeading w.places t.set_id) (IsStated w) (origin_of run origin t.set_id w) _
    (origin_ok run origin t.set_id w)
    (λ s is. checked_ok (IsStated w) (table_checks t w s) (emitting s (adding s t ∷ []))
    (λ none. let checks = all_none (table_checks t w s) none in
    emits_stated w regular s is.0 (adding s t ∷ []) (
      table_may (nodes_in w.places) t s (record {
        regular = regular.nodes;
        is = seat_node w.places s is.0;
        leads = is.1;
        table = unknown (has_mark (OfTable t.id)) w.places (when_none _ (refused.IdUsed t.id) checks.1.1.1.0);
        named = unknown (has_mark (OfName t.name)) w.places (when_none _ (refused.TableUsed t.name) checks.1.1.1.1.0);
      }),
      tt,
    )))

-- ---- all of them

pub ordered_stated : (o : Order) (run : Running) (w : World) → IsRegular w → OnOk (IsStated w) (ordered o run w)
ordered_stated (order.InitCluster id comment) run w regular = init_stated id comment run w regular
ordered_stated (order.StoreNode id event_node comment) run w regular = store_stated id event_node comment run w regular
ordered_stated (order.DropNode id event_node) run w regular = drop_node_stated id event_node run w regular
ordered_stated (order.StorePath server client conninfo retry) run w regular =
    path_stated server client conninfo run w regular
ordered_stated (order.DropPath server client) run w regular = no_path_stated server client run w regular
ordered_stated (order.CreateSet id origin comment) run w regular = set_stated id origin comment run w regular
ordered_stated (order.DropSet id origin) run w regular = drop_stated id origin run w regular
ordered_stated (order.SetAddTable set origin id name key comment) run w regular =
    table_stated origin (record { set_id = set; id = id; name = name; comment = comment_of comment }) run w regular
ordered_stated (order.SubscribeSet set provider receiver forward) run w regular =
    feed_stated (subscribing set provider receiver forward) run w regular
ordered_stated (order.UnsubscribeSet set receiver) run w regular = leave_stated set receiver run w regular
ordered_stated (order.Sync id) run w regular =
    reached_stated w id run _ (λ s is. free_stated w regular s is.0 (tells Sync ∷ []) (refl, tt))
ordered_stated others run w regular = tt
