-- What a statement or a turn commits: nothing, one commit of a node, or the two by which a node joins.
use Rattle.std.proofs.Common.{◌≡◌, ◌≢◌, ℕ, Bool, true, false, List, [], ◌∷◌, Option, Some, None, Result}
use Rattle.std.proofs.Common.{is_none, is_some, not, refl, sym, subst, ◌∙◌, ◌⊎◌, inl, inr, ◌≤◌, ap}
use Rattle.std.specs.Prelude.{◌==◌, ◌&&◌, option_map, unwrap_or}
use Rattle.std.specs.List.{AllByRecursion}
use Rattle.std.proofs.lemmas.Bool.{eqb-true, eq-eqb, true≢false, and_parts, not-false, or_parts}
use Rattle.slonik_script.specs.declared.script.Command.{Command as Order}
use Rattle.slonik_script.specs.declared.script.Command.TheVariants as order
use Rattle.node_rows.specs.declared.rows.NodeRow.{NodeRow}
use Rattle.node_rows.specs.declared.body.Body.{Body}
use Rattle.node_rows.specs.declared.body.Body.TheVariants.{Sync, StoreNode, DropNode, StorePath, DropPath, StoreSet}
use Rattle.node_rows.specs.declared.body.Body.TheVariants.{DropSet, SubscribeSet, EnableSubscription, UnsubscribeSet}
use Rattle.view_laws.specs.Known.{ends}
use Rattle.view_laws.proofs.Once.{stream_live}
use Rattle.slon_model.specs.Sets.{drop_set}
use Rattle.slon_model.specs.Deeds.{stream}
use Rattle.stream_laws.proofs.Seats.{seat_node}
use Rattle.slon_model.specs.declared.command.Delivery.{Delivery}
use Rattle.slon_model.specs.declared.command.Delivery.TheVariants.{Lost}
use Rattle.slon_model.specs.declared.reply.Refusal.{Refusal}
use Rattle.slon_model.specs.declared.reply.Refusal.TheVariants as refused
use Rattle.slon_model.specs.Names.{find_named}
use Rattle.slon_model.specs.Maps.{entry_at, pair_at}
use Rattle.slon_model.specs.Config.{Config, era_of, is_known, is_live_row, is_origin, forwards}
use Rattle.slon_model.specs.Tasks.{Act}
use Rattle.slon_model.specs.Deeds.{Node, Knowledge, knowledge, with_deeds, told_of}
use Rattle.slon_model.specs.Place.{Place}
use Rattle.slon_model.specs.Sessions.{World, Running, Commit, Stated, Seat, Emission, bind, tells}
use Rattle.slon_model.specs.Membership.{comment_of, already, first_node, init_cluster, store_node, store_path}
use Rattle.slon_model.specs.Membership.{drop_node, drop_path, becoming, first_of_cluster, joining, stored_by}
use Rattle.slon_model.specs.Reaching.{database_of_line, reach, down_among, claims}
use Rattle.slon_model.specs.Reaching.{origin_of, owner, commit_of, emitting}
use Rattle.slon_model.specs.Sets.{NewTable, adding, create_set, set_add_table}
use Rattle.slon_model.specs.Subscribing.{NewFeed, subscribing, feed_checks, feed_bodies, all_tell, changed_bodies}
use Rattle.slon_model.specs.Subscribing.{bodies_of, told_bodies, is_waiting, is_provider, provides as is_provided}
use Rattle.slon_model.specs.Subscribing.{is_unfed, leave_checks, unsubscribe_set}
use Rattle.slon_model.specs.Subscribing.{subscribe_set, is_active, is_confirmed, is_relayed}
use Rattle.slon_model.specs.Scripts.{ordered}
use Rattle.slon_model.specs.Turns.{on_turn, sync_turn}
use Rattle.slon_model.specs.Polls.{Poll, polled, stated_by, hearing}
use Rattle.slon_model.specs.Working.{Carried, applied_by, fetched, worked}
use Rattle.slon_model.specs.World.{outcome}
use Rattle.slon_laws.proofs.Leaves.{outcome_has}
use Rattle.slon_laws.proofs.Results.{any_ok}
use Rattle.stream_laws.specs.Nodes.{nodes_in}
use Rattle.stream_laws.specs.Making.{is_emitted}
use Rattle.stream_laws.specs.Facts.{IsRegular}
use Rattle.stream_laws.proofs.Commits.{Newcomer}
use Rattle.stream_laws.proofs.Seats.{OnOk, ok_then, IsSeat, IsFound, IsReached, IsLeading, bind_ok, checked_ok}
use Rattle.stream_laws.proofs.Seats.{kept_ok}
use Rattle.stream_laws.proofs.Seats.{all_none, when_none, turn_ok, origin_ok, already_none, line_ok}
use Rattle.stream_laws.proofs.Seats.{reach_ok, no_nodes}
use Rattle.stream_laws.proofs.Waiting.{IsPoll, polled_ok}
use Rattle.stream_laws.proofs.Works.{IsCarried, worked_ok}
use Rattle.image_laws.proofs.Fitting.{newcomer, store_checks}
use Rattle.view_laws.specs.Known.{HasFeed}
use Rattle.view_laws.specs.Past.{Past}
use Rattle.view_laws.proofs.Doing.{Takes, Hears, taking}
use Rattle.view_laws.proofs.Steps.{carried_taken}
use Rattle.view_laws.proofs.Claiming.{IsClaiming, owner_claiming}
use Rattle.std.proofs.lemmas.Bool.{eqb-false, false≢true, leb-true}
use Rattle.node_rows.specs.declared.rows.Subscription.{Subscription}

-- ---- what a node emits

-- an event that is of no subscription, and by which no set ends
abbrev pub is_plain : Body → Bool
is_plain (SubscribeSet set provider receiver forward) = false
is_plain (EnableSubscription set provider receiver forward era) = false
is_plain (UnsubscribeSet set receiver) = false
is_plain (DropSet set) = false
is_plain others = is_emitted others

-- The provider is another node than this one. It subscribes to the set and forwards it, and this node was told that it
-- has applied the last event on its subscription.
pub record CanRelay (n : Node) (f : NewFeed) : Type 0 where
  pub other : f.provider ≢ n.id
  pub row : Subscription
  pub has : pair_at f.set_id f.provider (knowledge n).config.subscriptions ≡ Some row
  pub forward : row.forward ≡ true
  pub told : row.mark ≤ told_of n.id n.id f.provider (knowledge n)

-- The node may emit the events of a subscription: it is the origin of the set, and the provider or one that has such a
-- provider, and it knows the receiver, which is another node. If the receiver subscribes to the set, this node was told
-- that it has applied the last event on that. It is to forward the set, or no node has the set from it.
pub record CanFeed (n : Node) (f : NewFeed) : Type 0 where
  pub leads : is_origin n.id f.set_id (knowledge n).config ≡ true
  pub knows : is_some (entry_at f.receiver (knowledge n).config.nodes) ≡ true
  pub provides : (f.provider ≡ n.id) ⊎ CanRelay n f
  pub distinct : f.provider ≢ f.receiver
  pub apart : f.receiver ≢ n.id
  pub settled : (row : Subscription) →
      pair_at f.set_id f.receiver (knowledge n).config.subscriptions ≡ Some row →
      row.mark ≤ told_of n.id n.id f.receiver (knowledge n)
  pub keeps : (f.forward ≡ true) ⊎ (is_provided f.receiver f.set_id (knowledge n).config ≡ false)
  pub live : AllByRecursion (λ e. ends f.set_id e.body ≡ false) (stream n)

-- The node may emit that a subscription ends: it is the origin of the set, the receiver subscribes to that, and no node
-- has the set from it.
pub record CanLeave (n : Node) (set receiver : ℕ) : Type 0 where
  pub leads : is_origin n.id set (knowledge n).config ≡ true
  pub had : HasFeed set receiver (knowledge n).config
  pub provides : is_provided receiver set (knowledge n).config ≡ false
  pub live : AllByRecursion (λ e. ends set e.body ≡ false) (stream n)

-- The node may emit that a set ends: it is the origin of the set, and has not ended it before.
pub record CanEnd (n : Node) (set : ℕ) : Type 0 where
  pub leads : is_origin n.id set (knowledge n).config ≡ true
  pub live : AllByRecursion (λ e. ends set e.body ≡ false) (stream n)

abbrev pub feeding : Node → NewFeed → List Emission
feeding n f = all_tell (feed_bodies (era_of f.set_id (knowledge n).config) f)

-- the events of a subscription that is there
abbrev pub changing : NewFeed → List Emission
changing f = all_tell (changed_bodies f)

-- the event by which a subscription ends
abbrev pub leaving : ℕ → ℕ → List Emission
leaving set receiver = tells (UnsubscribeSet set receiver) ∷ []

-- the event by which a set ends
abbrev pub ending : ℕ → List Emission
ending set = tells (DropSet set) ∷ []

pub data MayTell (n : Node) (ms : List Emission) : Type 0 where
  Alone : (m : Emission) → ms ≡ m ∷ [] → is_plain m.body ≡ true → MayTell n ms
  Feeds : (f : NewFeed) → ms ≡ feeding n f → CanFeed n f →
      pair_at f.set_id f.receiver (knowledge n).config.subscriptions ≡ None → MayTell n ms
  Changes : (f : NewFeed) → ms ≡ changing f → CanFeed n f → HasFeed f.set_id f.receiver (knowledge n).config →
      MayTell n ms
  Leaves : (set receiver : ℕ) → ms ≡ leaving set receiver → CanLeave n set receiver → MayTell n ms
  EndsSet : (set : ℕ) → ms ≡ ending set → CanEnd n set → MayTell n ms

-- ---- one commit

-- A node emits events.
pub record Telling (w : World) (c : Commit) (p : Place) : Type 0 where
  pub seat : Seat
  pub is : IsSeat w.places seat
  pub at : seat.place ≡ p
  pub emits : List Emission
  pub may : MayTell seat.node emits
  pub commit : c ≡ commit_of seat emits

-- The first database of a session becomes a node.
pub record Beginning (w : World) (c : Commit) (p : Place) : Type 0 where
  pub id : ℕ
  pub comment : List ℕ
  pub run : Running
  pub alone : (name : List ℕ) → nodes_in w.places name ≡ None
  pub commit : c ≡ becoming c.name (first_of_cluster id comment run)

pub data Linked (t : Past) (c : Commit) (p : Place) : Type 0 where
  Tells : Telling t.world c p → Linked t c p
  TakesOne : Takes t c p → Linked t c p
  HearsSome : Hears t.world c p → Linked t c p
  Begins : Beginning t.world c p → Linked t c p

-- ---- two commits

-- A node stores another one, which becomes a node by what the first one knows then.
pub record Join (w : World) : Type 0 where
  pub seat : Seat
  pub is : IsSeat w.places seat
  pub new : Newcomer w.places
  pub comment : List ℕ
  pub run : Running

abbrev pub stores : {w : World} → Join w → Commit
stores j = commit_of j.seat (tells (StoreNode j.new.id j.comment) ∷ [])

abbrev pub giver : {w : World} → Join w → Node
giver j = with_deeds (stores j).deeds j.seat.node

abbrev pub joined : {w : World} → Join w → Node
joined j = joining j.new.id (giver j) j.run

abbrev pub joins : {w : World} → Join w → Commit
joins j = becoming j.new.name (joined j)

pub data Links (t : Past) (cs : List Commit) : Type 0 where
  Nothing : cs ≡ [] → Links t cs
  One : (c : Commit) (p : Place) → cs ≡ c ∷ [] → find_named c.name t.world.places ≡ Some p → Linked t c p → Links t cs
  Two : (j : Join t.world) → cs ≡ stores j ∷ joins j ∷ [] → Links t cs

-- ---- the statements

abbrev IsStated : Past → Stated → Type 0
IsStated t stated = Links t stated.commits

emits_link : (t : Past) (s : Seat) (ms : List Emission) → IsSeat t.world.places s → MayTell s.node ms →
    IsStated t (emitting s ms)
emits_link t s ms is may =
    One (commit_of s ms) s.place refl is.found
    (Tells (record { seat = s; is = is; at = refl; emits = ms; may = may; commit = refl }))

tells_link : (t : Past) (s : Seat) (m : Emission) → IsSeat t.world.places s → is_plain m.body ≡ true →
    IsStated t (emitting s (m ∷ []))
tells_link t s m is may = emits_link t s (m ∷ []) is (Alone m refl may)

reached : (t : Past) (id : ℕ) (run : Running) (f : Seat → Result Stated Refusal) →
    ((s : Seat) → IsReached t.world.places id s → OnOk (IsStated t) (f s)) →
    OnOk (IsStated t) (bind (reach run id t.world) f)
reached t id run f on =
    bind_ok (IsReached t.world.places id) (IsStated t) (reach run id t.world) f (reach_ok run id t.world) on

abbrev init_checks : World → List (Option Refusal)
init_checks w = down_among w.places ∷ already (first_node w) ∷ []

init_link : (id : ℕ) (comment : Option (List ℕ)) (run : Running) (t : Past) →
    OnOk (IsStated t) (init_cluster id comment run t.world)
init_link id comment run t =
    bind_ok (IsFound t.world.places) (IsStated t) (database_of_line run id t.world) _ (line_ok run id t.world)
    (λ e found. checked_ok (IsStated t) (init_checks t.world) _ (λ none.
    One (becoming e.0 (first_of_cluster id (comment_of comment) run)) e.1 refl found (Begins (record {
      id = id;
      comment = comment_of comment;
      run = run;
      alone = no_nodes t.world.places (already_none (first_node t.world) (all_none (init_checks t.world) none).1.0);
      commit = refl;
    }))))

store_link : (id event_node : ℕ) (comment : Option (List ℕ)) (run : Running) (t : Past) →
    OnOk (IsStated t) (store_node id event_node comment run t.world)
store_link id event_node comment run t =
    reached t event_node run _
    (λ s is. bind_ok (IsFound t.world.places) (IsStated t) (database_of_line run id t.world) _ (line_ok run id t.world)
    (λ e found. checked_ok (IsStated t) (store_checks id t.world e) (stored_by s e.0 id (comment_of comment) run)
    (λ none. Two (record {
      seat = s;
      is = is.0;
      new = newcomer t.world id e found (all_none (store_checks id t.world e) none);
      comment = comment_of comment;
      run = run;
    }) refl)))

create_link : (id origin : ℕ) (comment : Option (List ℕ)) (run : Running) (t : Past) →
    OnOk (IsStated t) (create_set id origin comment run t.world)
create_link id origin comment run t =
    reached t origin run _
    (λ s is. let done = tells_link t s (tells (StoreSet id origin (comment_of comment))) is.0 refl in
    search (kept_ok (IsStated t), done))

table_link : (origin : ℕ) (n : NewTable) (run : Running) (t : Past) →
    OnOk (IsStated t) (set_add_table origin n run t.world)
table_link origin n run t =
    bind_ok (IsLeading t.world.places n.set_id) (IsStated t) (origin_of run origin n.set_id t.world) _
    (origin_ok run origin n.set_id t.world)
    (λ s is. let done = tells_link t s (adding s n) is.0 refl in search (kept_ok (IsStated t), done))

drop_node_link : (id event_node : ℕ) (run : Running) (t : Past) →
    OnOk (IsStated t) (drop_node id event_node run t.world)
drop_node_link id event_node run t =
    reached t event_node run _
    (λ s is. let done = tells_link t s (tells (DropNode id)) is.0 refl in search (kept_ok (IsStated t), done))

path_link : (server client : ℕ) (conninfo : List ℕ) (run : Running) (t : Past) →
    OnOk (IsStated t) (store_path server client conninfo run t.world)
path_link server client conninfo run t =
    reached t client run _
    (λ s is. let done = tells_link t s (tells (StorePath server client conninfo)) is.0 refl in
    search (kept_ok (IsStated t), done))

no_path_link : (server client : ℕ) (run : Running) (t : Past) →
    OnOk (IsStated t) (drop_path server client run t.world)
no_path_link server client run t =
    reached t client run _
    (λ s is. let done = tells_link t s (tells (DropPath server client)) is.0 refl in
    search (kept_ok (IsStated t), done))

-- ---- SUBSCRIBE SET

known_there : (id : ℕ) (c : Config) → is_known id c ≡ true → is_some (entry_at id c.nodes) ≡ true
known_there id c known = by (entry_at id c.nodes) (and_parts (is_live_row (entry_at id c.nodes)) _ known).0
  where
    by : (o : Option NodeRow) → is_live_row o ≡ true → is_some o ≡ true
    by None never = absurd (true≢false (sym never))
    by (Some row) live = refl

-- who is active has a subscription, of which it has confirmed the last event
active_row : (s : Seat) (node : ℕ) (o : Option Subscription) → is_confirmed s node o ≡ true →
    (u : Subscription) × (o ≡ Some u) × (u.mark ≤ told_of s.node.id s.node.id node s.known)
active_row s node None is = absurd (false≢true is)
active_row s node (Some u) is = (u, refl, leb-true u.mark (told_of s.node.id s.node.id node s.known) is)

can_provide : (s : Seat) (f : NewFeed) → (is_relayed s f && not (is_active s f.set_id f.provider)) ≡ false →
    (is_relayed s f && not (forwards f.set_id f.provider s.known.config)) ≡ false → s.known ≡ knowledge s.node →
    (f.provider ≡ s.node.id) ⊎ CanRelay s.node f
can_provide s f active forward known = by (f.provider == s.node.id) refl active forward
  where
    by : (b : Bool) → (f.provider == s.node.id) ≡ b → (not b && not (is_active s f.set_id f.provider)) ≡ false →
        (not b && not (forwards f.set_id f.provider s.known.config)) ≡ false →
        (f.provider ≡ s.node.id) ⊎ CanRelay s.node f
    by true same active forward = inl (eqb-true f.provider s.node.id same)
    by false differ active forward = inr (record {
      other = eqb-false f.provider s.node.id differ;
      row = u.0;
      has = subst (λ (k : Knowledge). pair_at f.set_id f.provider k.config.subscriptions ≡ Some u.0) known u.1;
      forward =
          sym (ap (λ o. unwrap_or (option_map (λ (s : Subscription). s.forward) o) false) u.1)
          ∙ not-false (forwards f.set_id f.provider s.known.config) forward;
      told = subst (λ (k : Knowledge). u.0.mark ≤ told_of s.node.id s.node.id f.provider k) known u.2;
    })
      where
        u : (u : Subscription) × (pair_at f.set_id f.provider s.known.config.subscriptions ≡ Some u)
            × (u.mark ≤ told_of s.node.id s.node.id f.provider s.known)
        u = active_row s f.provider (pair_at f.set_id f.provider s.known.config.subscriptions)
            (not-false (is_active s f.set_id f.provider) active)

-- a receiver that subscribes has confirmed the last event on that
not_waiting : (s : Seat) (f : NewFeed) → is_waiting s f ≡ false → (row : Subscription) →
    pair_at f.set_id f.receiver s.known.config.subscriptions ≡ Some row →
    row.mark ≤ told_of s.node.id s.node.id f.receiver s.known
not_waiting s f none row has =
    leb-true row.mark (told_of s.node.id s.node.id f.receiver s.known)
    (not-false _ (sym (ap (λ o. is_some o && not (is_confirmed s f.receiver o)) has) ∙ none))

not_provider : (s : Seat) (f : NewFeed) → is_provider s f ≡ false →
    (f.forward ≡ true) ⊎ (is_provided f.receiver f.set_id s.known.config ≡ false)
not_provider s f none = by f.forward refl none
  where
    by : (b : Bool) → f.forward ≡ b → (not b && is_provided f.receiver f.set_id s.known.config) ≡ false →
        (f.forward ≡ true) ⊎ (is_provided f.receiver f.set_id s.known.config ≡ false)
    by true on none = inl on
    by false off none = inr none

can_feed : (t : Past) (s : Seat) (f : NewFeed) → IsSeat t.world.places s → claims f.set_id s ≡ true →
    AllByRecursion (λ o. o ≡ None) (feed_checks s f) → CanFeed s.node f
can_feed t s f is claimed none = record {
  leads = leads;
  live = stream_live t s.name s.node (seat_node t.world.places s is) f.set_id leads;
  knows = subst (λ (k : Knowledge). is_some (entry_at f.receiver k.config.nodes) ≡ true) is.known
      (known_there f.receiver s.known.config
      (not-false (is_known f.receiver s.known.config) (when_none _ (refused.NoNode f.receiver) none.0)));
  provides =
      can_provide s f (when_none _ (refused.NotActive f.provider) none.1.1.1.0)
      (when_none _ (refused.NotForwarding f.provider) none.1.1.1.1.0) is.known;
  distinct = λ same. true≢false (sym (eq-eqb f.receiver f.provider (sym same)) ∙ others.1);
  apart = λ same. true≢false (sym (eq-eqb f.receiver s.node.id same) ∙ others.0);
  settled = λ row has.
      subst (λ (k : Knowledge). row.mark ≤ told_of s.node.id s.node.id f.receiver k) is.known
      (not_waiting s f (when_none _ (refused.NotActive f.receiver) none.1.1.1.1.1.0) row
      (subst (λ (k : Knowledge). pair_at f.set_id f.receiver k.config.subscriptions ≡ Some row) (sym is.known) has));
  keeps =
      subst (λ (k : Knowledge). (f.forward ≡ true) ⊎ (is_provided f.receiver f.set_id k.config ≡ false)) is.known
      (not_provider s f (when_none _ (refused.HasReceivers f.receiver) none.1.1.1.1.1.1.0));
}
  where
    leads : is_origin s.node.id f.set_id (knowledge s.node).config ≡ true
    leads = subst (λ (k : Knowledge). is_origin s.node.id f.set_id k.config ≡ true) is.known claimed

    others : ((f.receiver == s.node.id) ≡ false) × ((f.receiver == f.provider) ≡ false)
    others = or_parts (f.receiver == s.node.id) (f.receiver == f.provider)
        (when_none _ (refused.SameNode f.receiver) none.1.1.0)

-- by what the origin has of the subscription
feed_told : (n : Node) (f : NewFeed) → CanFeed n f → (o : Option Subscription) →
    pair_at f.set_id f.receiver (knowledge n).config.subscriptions ≡ o →
    MayTell n (all_tell (bodies_of (era_of f.set_id (knowledge n).config) f o))
feed_told n f can None new = Feeds f refl can new
feed_told n f can (Some row) had = Changes f refl can (ap is_some had)

feed_link : (f : NewFeed) (run : Running) (t : Past) → IsRegular t.world →
    OnOk (IsStated t) (subscribe_set f run t.world)
feed_link f run t r =
    bind_ok (IsClaiming f.set_id t.world) (IsStated t) (owner run f.set_id t.world) _
    (owner_claiming run f.set_id t.world r.once)
    (λ s is. checked_ok (IsStated t) (feed_checks s f)
    (emitting s (all_tell (told_bodies f s.known.config)))
    (λ none. subst (λ (k : Knowledge). IsStated t (emitting s (all_tell (told_bodies f k.config))))
    (sym is.0.known)
    (emits_link t s (all_tell (told_bodies f (knowledge s.node).config)) is.0
    (feed_told s.node f (can_feed t s f is.0 is.1 (all_none (feed_checks s f) none))
    (pair_at f.set_id f.receiver (knowledge s.node).config.subscriptions) refl))))

-- ---- UNSUBSCRIBE SET

some_left : {X : Type 0} (o : Option X) → is_none o ≡ false → is_some o ≡ true
some_left None never = absurd (true≢false never)
some_left (Some x) is = refl

can_leave : (t : Past) (s : Seat) (set receiver : ℕ) → IsSeat t.world.places s → claims set s ≡ true →
    AllByRecursion (λ o. o ≡ None) (leave_checks set receiver s.known.config) → CanLeave s.node set receiver
can_leave t s set receiver is claimed none = record {
  leads = leads;
  live = stream_live t s.name s.node (seat_node t.world.places s is) set leads;
  had =
      subst (λ (k : Knowledge). HasFeed set receiver k.config) is.known
      (some_left (pair_at set receiver s.known.config.subscriptions)
      (when_none (is_unfed set receiver s.known.config) (refused.NotActive receiver) none.0));
  provides =
      subst (λ (k : Knowledge). is_provided receiver set k.config ≡ false) is.known
      (when_none (is_provided receiver set s.known.config) (refused.HasReceivers receiver) none.1.0);
}
  where
    leads : is_origin s.node.id set (knowledge s.node).config ≡ true
    leads = subst (λ (k : Knowledge). is_origin s.node.id set k.config ≡ true) is.known claimed

leave_link : (set receiver : ℕ) (run : Running) (t : Past) → IsRegular t.world →
    OnOk (IsStated t) (unsubscribe_set set receiver run t.world)
leave_link set receiver run t r =
    bind_ok (IsClaiming set t.world) (IsStated t) (owner run set t.world) _ (owner_claiming run set t.world r.once)
    (λ s is. checked_ok (IsStated t) (leave_checks set receiver s.known.config)
    (emitting s (tells (UnsubscribeSet set receiver) ∷ []))
    (λ none. emits_link t s (tells (UnsubscribeSet set receiver) ∷ []) is.0 (Leaves set receiver refl
    (can_leave t s set receiver is.0 is.1 (all_none (leave_checks set receiver s.known.config) none)))))

-- ---- DROP SET

drop_link : (id origin : ℕ) (run : Running) (t : Past) → OnOk (IsStated t) (drop_set id origin run t.world)
drop_link id origin run t =
    bind_ok (IsLeading t.world.places id) (IsStated t) (origin_of run origin id t.world) _
    (origin_ok run origin id t.world)
    (λ s is. emits_link t s (ending id) is.0 (EndsSet id refl (record {
      leads = is.1;
      live = stream_live t s.name s.node (seat_node t.world.places s is.0) id is.1;
    })))

ordered_link : (t : Past) → IsRegular t.world → (o : Order) (run : Running) → OnOk (IsStated t) (ordered o run t.world)
ordered_link t r (order.InitCluster id comment) run = init_link id comment run t
ordered_link t r (order.StoreNode id event_node comment) run = store_link id event_node comment run t
ordered_link t r (order.DropNode id event_node) run = drop_node_link id event_node run t
ordered_link t r (order.StorePath server client conninfo retry) run = path_link server client conninfo run t
ordered_link t r (order.DropPath server client) run = no_path_link server client run t
ordered_link t r (order.CreateSet id origin comment) run = create_link id origin comment run t
ordered_link t r (order.DropSet id origin) run = drop_link id origin run t
ordered_link t r (order.SetAddTable set origin id name key comment) run =
    table_link origin (record { set_id = set; id = id; name = name; comment = comment_of comment }) run t
ordered_link t r (order.SubscribeSet set provider receiver forward) run =
    feed_link (subscribing set provider receiver forward) run t r
ordered_link t r (order.UnsubscribeSet set receiver) run = leave_link set receiver run t r
ordered_link t r (order.Sync id) run = reached t id run _ (λ s is. tells_link t s (tells Sync) is.0 refl)
ordered_link t r others run = tt

-- ---- the turns

sync_link : (t : Past) → IsRegular t.world → (node : ℕ) → OnOk (IsStated t) (sync_turn node t.world)
sync_link t r node =
    bind_ok (IsSeat t.world.places) (IsStated t) (on_turn node t.world) _ (turn_ok node t.world r.once)
    (λ s is. let done = tells_link t s (tells Sync) is refl in search (kept_ok (IsStated t), done))

hears_link : (t : Past) (s : Seat) (confirms : List (ℕ × ℕ × ℕ)) → IsSeat t.world.places s →
    Links t (hearing s confirms)
hears_link t s [] is = Nothing refl
hears_link t s (c ∷ cs) is =
    One _ s.place refl is.found
    (HearsSome (record { seat = s; is = is; at = refl; confirms = c ∷ cs; commit = refl }))

poll_link : (t : Past) (delivery : Delivery) (b : Poll) → IsPoll t.world b → Links t (stated_by delivery b).commits
poll_link t Lost b is = Nothing refl
poll_link t others b is = hears_link t b.seat b.confirms is.seat

work_link : (t : Past) (origin : ℕ) (x : Carried) → IsCarried t.world origin x → Links t (applied_by x).commits
work_link t origin x is =
    One (taking x) x.seat.place refl is.work.seat.found (TakesOne (record {
      carried = x;
      origin = origin;
      is = carried_taken t origin x is;
      at = refl;
      commit = refl;
    }))

-- what the command of an act commits
pub outcome_links : (t : Past) → IsRegular t.world → (act : Act) → Links t (outcome act t.world).commits
outcome_links t r act =
    outcome_has t.world (λ commits queues fetches. Links t commits) (record {
      nothing = Nothing refl;
      stops = λ name. Nothing refl;
      gives_up = λ name origin. Nothing refl;
      orders = ordered_link t r;
      syncs = sync_link t r;
      polls = λ node server delivery.
          ok_then (IsPoll t.world) (λ b. Links t (stated_by delivery b).commits) (polled node server t.world)
          (polled_ok node server t.world r) (poll_link t delivery);
      fetches = λ node origin.
          ok_then (λ x. Unit {0}) (λ x. Links t []) (fetched node origin t.world)
          (any_ok (λ x. Unit {0}) (fetched node origin t.world) (λ x. tt)) (λ x any. Nothing refl);
      works = λ node origin.
          ok_then (IsCarried t.world origin) (λ x. Links t (applied_by x).commits) (worked node origin t.world)
          (worked_ok node origin t.world r) (work_link t origin);
    }) act
