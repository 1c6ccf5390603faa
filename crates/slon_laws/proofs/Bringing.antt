-- The commits of every command fill tables with rows that have their forms, and log such actions, where all databases
-- hold such rows and have logged such actions.
use Rattle.std.proofs.Common.{◌≡◌, refl, ℕ, ◌+◌, Bool, true, false, cond, List, [], ◌∷◌, Option, Some, None, Err, ap}
use Rattle.std.proofs.Common.{is_some, subst, sym, ◌∙◌}
use Rattle.std.specs.Prelude.{◌==◌, find, filter_map, not, option_map, unwrap_or, nat_lt}
use Rattle.std.specs.List.{AllByRecursion, cons_option}
use Rattle.std.specs.Str.{bytes_eq}
use Rattle.std.specs.Option.{option_or}
use Rattle.slonik_script.specs.declared.script.Command.{Command as Order}
use Rattle.slon_model.specs.declared.command.Delivery.{Delivery}
use Rattle.slon_model.specs.declared.command.Delivery.TheVariants.{Once, Lost, Again}
use Rattle.slon_model.specs.declared.reply.Answer.TheVariants.{Done}
use Rattle.slon_model.specs.Names.{Named, find_named, put_named}
use Rattle.slon_model.specs.Rows.{Rows, member}
use Rattle.slon_model.specs.Events.{Event}
use Rattle.slon_model.specs.Config.{has_path, is_known}
use Rattle.slon_model.specs.Deeds.{Node, Deed, Applies, Brought, Knowledge, Logged, brought_in, nothing_brought}
use Rattle.slon_model.specs.Deeds.{with_deeds}
use Rattle.slon_model.specs.Place.{Place, deed, is_running, node_id, standing_rows}
use Rattle.slon_model.specs.Maps.{entry_at}
use Rattle.slon_model.specs.Sessions.{World, Running, Commit, Stated, Seat, Emission, emissions, seat_of, committing}
use Rattle.slon_model.specs.Sessions.{stood_at, next_event, tells, when, writer_of}
use Rattle.slon_model.specs.Reaching.{any_down, commit_of, database_of_line, down_among, emitting, known_somewhere}
use Rattle.slon_model.specs.Reaching.{origin_of, owner, reach}
use Rattle.slon_model.specs.Membership.{already, becoming, comment_of, first_id, first_node, first_of_cluster}
use Rattle.slon_model.specs.Membership.{init_cluster, joining, store_node, stored_by, synced}
use Rattle.slon_model.specs.Sets.{NewTable, adding}
use Rattle.slon_model.specs.Subscribing.{all_tell, subscribing, told_bodies}
use Rattle.slon_model.specs.Scripts.{ordered}
use Rattle.node_rows.specs.declared.body.Body.TheVariants.{Sync, StoreNode, DropNode, StorePath, DropPath, StoreSet}
use Rattle.node_rows.specs.declared.body.Body.TheVariants.{DropSet, UnsubscribeSet}
use Rattle.slon_model.specs.Turns.{at_node, is_cut, is_synced, on_turn, seat_at}
use Rattle.slon_model.specs.Polls.{Poll, brings_nothing, hearing, poll_of, served, stated_by}
use Rattle.slon_model.specs.Following.{Found, FoundCopy, FoundNothing, FoundSyncs, brought_of, content, kept_from}
use Rattle.slon_model.specs.Following.{set_sync, tables_in, tables_taken}
use Rattle.slon_model.specs.Logs.{logged}
use Rattle.slon_model.specs.Working.{Carried, Errand, ToCopy, ToFollow, applied_by, carried, errand_of, fetched}
use Rattle.slon_model.specs.Working.{found_by, found_for, found_or, kept_fetch, linked_to, next_at, provided, rows_at}
use Rattle.slon_model.specs.Working.{settled, stands, still, taken_up, worked, followed_all, progress_in, given_at}
use Rattle.slon_model.specs.Working.{names_taken}
use Rattle.slon_model.proofs.Names.{all_found, all_map, bytes_same, one_found, put_found, put_other}
use Rattle.slon_model.specs.Tasks.{Act}
use Rattle.slon_model.specs.World.{outcome}
use Rattle.slon_laws.specs.Fetches.{IsFormedFound, IsFormedSync, KeepFormed}
use Rattle.slon_laws.specs.Sound.{AreNamedOnce}
use Rattle.slon_laws.specs.Spelled.{IsSpelled, IsWritten, AreFilled, AreFormed, AreWritten, IsFormedCommit, AreForeign}
use Rattle.slon_laws.specs.Spelled.{IsAlone, IsFormedDeed, logs_in}
use Rattle.slon_laws.specs.Turning.{AllHold, HoldsAt, IsFormed, IsWithin}
use Rattle.slon_laws.specs.Worlds.{AllPlaces}
use Rattle.slon_laws.proofs.Fetches.{kept_for}
use Rattle.slon_laws.proofs.Following.{Makes, delta_has, syncs_have, sync_on}
use Rattle.slon_laws.proofs.Foreign.{CarriesForeign, KeepForeign, work_foreign}
use Rattle.slon_laws.proofs.Formed.{applied_formed, standing_formed}
use Rattle.slon_laws.proofs.Lists.{all_appended, all_filtered}
use Rattle.slon_laws.proofs.Owners.{OnSome}
use Rattle.slon_laws.proofs.Results.{OnOk, all_none, any_bind, any_ok, bind_ok, both_ok, checked_ok, kept_ok, ok_then}
use Rattle.slon_laws.proofs.Seats.{IsFound, already_none, line_ok, no_node}
use Rattle.slon_laws.proofs.Leaves.{outcome_has}
use Rattle.slon_laws.proofs.Providers.{copied_ok, followed_ok}
use Rattle.slon_model.specs.Views.{View}
use Rattle.slonik_script.specs.declared.script.Command.TheVariants as order
use Rattle.slon_model.specs.declared.reply.Refusal.TheVariants as refused

-- P of what is found among all that have it
all_find : {X : Type 0} (P : X → Type 0) (test : X → Bool) (xs : List X) → AllByRecursion P xs → OnSome P (find test xs)
all_find P test [] all = tt
all_find P test (x ∷ xs) all =
    elim (test x)
    as (λ b. OnSome P (cond b (Some x) (find test xs))) [ true ↦ all.0 | false ↦ all_find P test xs all.1 ]

-- ---- what statements and other turns commit

-- a deed brings no rows, and logs nothing
abbrev IsPlainDeed : Deed → Type 0
IsPlainDeed d = ((brought_in d.doing).rows ≡ []) × (d.logs ≡ [])

-- so does each deed of a commit, by which no database becomes a node
abbrev IsPlain : Commit → Type 0
IsPlain c = AllByRecursion IsPlainDeed c.deeds × (c.becomes ≡ None)

abbrev ArePlain : List Commit → Type 0
ArePlain cs = AllByRecursion IsPlain cs

-- such a commit is formed, whatever database it is made on
plain_formed : (c : Commit) → IsPlain c → (p : Place) → IsFormedCommit c p
plain_formed c plain p = record {
  deeds = all_map IsPlainDeed IsFormedDeed
      (λ d is. (subst AreFilled (sym is.0) tt, subst AreWritten (sym is.1) tt)) c.deeds plain.0;
  fresh = ap logs_in plain.1;
  foreign = by (option_or c.becomes p.node);
  alone = subst (λ o. IsAlone o p.node) (sym plain.1) tt;
}
  where
    by : (o : Option Node) → AreForeign c.deeds o
    by None = tt
    by (Some n) =
        all_map IsPlainDeed (λ d. AllByRecursion (λ l. l.origin ≡ n.id → ⊥) d.logs)
        (λ d is. subst (AllByRecursion (λ (l : Logged). l.origin ≡ n.id → ⊥)) (sym is.1) tt) c.deeds plain.0

-- these commits are formed, each on the database that it is made on
abbrev AreFormedCommits : World → List Commit → Type 0
AreFormedCommits w cs = AllHold IsFormedCommit cs w.places

plain_all : (cs : List Commit) (ps : Named Place) → ArePlain cs → AllHold IsFormedCommit cs ps
plain_all [] ps plain = tt
plain_all (c ∷ cs) ps plain = (
  by (find_named c.name ps),
  plain_all cs (stood_at c (find_named c.name ps) ps) plain.1,
)
  where
    by : (o : Option Place) → HoldsAt IsFormedCommit c o
    by None = tt
    by (Some p) = plain_formed c plain.0 p

-- events of a node bring nothing, and it logs nothing with them
emissions_plain : (s : Seat) (number : ℕ) (ms : List Emission) → AllByRecursion IsPlainDeed (emissions s number ms)
emissions_plain s number [] = tt
emissions_plain s number (m ∷ ms) =
    all_appended IsPlainDeed (emissions s (number + 1) ms) _ (emissions_plain s (number + 1) ms) ((refl, refl), tt)

abbrev IsFormedStated : World → Stated → Type 0
IsFormedStated w stated = AreFormedCommits w stated.commits

emitting_formed : (w : World) (s : Seat) (ms : List Emission) → IsFormedStated w (emitting s ms)
emitting_formed w s ms =
    plain_all (emitting s ms).commits w.places ((emissions_plain s (next_event s) ms, refl), tt)

-- ---- databases that become nodes

-- a database that is none becomes one
becomes_formed : (name : List ℕ) (n : Node) (o : Option Place) → logged n ≡ [] → OnSome (λ p. p.node ≡ None) o →
    HoldsAt IsFormedCommit (becoming name n) o
becomes_formed name n None fresh none = tt
becomes_formed name n (Some p) fresh none = record { deeds = tt; fresh = fresh; foreign = tt; alone = none }

none_nodes : (ps : Named Place) → first_id (filter_map (λ e. node_id e.1) ps) ≡ None →
    AllByRecursion (λ e. e.1.node ≡ None) ps
none_nodes [] none = tt
none_nodes (e ∷ es) none = by (node_id e.1) refl none (none_nodes es)
  where
    by : (o : Option ℕ) → node_id e.1 ≡ o → first_id (cons_option o (filter_map (λ e. node_id e.1) es)) ≡ None →
        (first_id (filter_map (λ e. node_id e.1) es) ≡ None → AllByRecursion (λ e. e.1.node ≡ None) es) →
        (e.1.node ≡ None) × AllByRecursion (λ e. e.1.node ≡ None) es
    by None is none later = (no_node e.1 is, later none)
    by (Some id) is none later = absurd cc

-- what is found among databases of which none is a node
found_none : (name : List ℕ) (ps : Named Place) → AllByRecursion (λ e. e.1.node ≡ None) ps →
    OnSome (λ p. p.node ≡ None) (find_named name ps)
found_none name ps all = by (find_named name ps) refl
  where
    by : (o : Option Place) → find_named name ps ≡ o → OnSome (λ p. p.node ≡ None) o
    by None found = tt
    by (Some p) found = all_found (λ p. p.node ≡ None) name p ps all found

-- a database that is no node is none behind a commit by which no database becomes one
none_behind : (k : List ℕ) (p : Place) (c : Commit) (ps : Named Place) → c.becomes ≡ None →
    (find_named k ps ≡ Some p) × (p.node ≡ None) →
    OnSome (λ p. p.node ≡ None) (find_named k (stood_at c (find_named c.name ps) ps))
none_behind k p c ps plain (found, none) = by (find_named c.name ps) refl
  where
    here : (q : Place) → p ≡ q → (committing c q).node ≡ None
    here q one =
        ap (λ o. option_map (with_deeds c.deeds) (option_or o q.node)) plain
        ∙ ap (option_map (with_deeds c.deeds)) (subst (λ (r : Place). r.node ≡ None) one none)

    at : (q : Place) → find_named c.name ps ≡ Some q → (b : Bool) → bytes_eq k c.name ≡ b →
        OnSome (λ p. p.node ≡ None) (find_named k (put_named c.name (committing c q) ps))
    at q is true same =
        let key = bytes_same k c.name same in
        subst (OnSome (λ p. p.node ≡ None))
        (sym (ap (λ i. find_named i (put_named c.name (committing c q) ps)) key
        ∙ put_found c.name (committing c q) q ps is))
        (here q (one_found p q (sym found ∙ ap (λ i. find_named i ps) key ∙ is)))
    at q is false other =
        subst (OnSome (λ p. p.node ≡ None)) (sym (put_other k c.name (committing c q) ps other ∙ found)) none

    by : (o : Option Place) → find_named c.name ps ≡ o →
        OnSome (λ p. p.node ≡ None) (find_named k (stood_at c o ps))
    by None is = subst (OnSome (λ p. p.node ≡ None)) (sym found) none
    by (Some q) is = at q is (bytes_eq k c.name) refl

init_formed : (id : ℕ) (comment : Option (List ℕ)) (run : Running) (w : World) →
    OnOk (IsFormedStated w) (init_cluster id comment run w)
init_formed id comment run w =
    any_bind (IsFormedStated w) (database_of_line run id w) _
    (λ e. let checks = down_among w.places ∷ already (first_node w) ∷ [] in
    let n = first_of_cluster id (comment_of comment) run in
    checked_ok (IsFormedStated w) checks (record { answer = Done; commits = becoming e.0 n ∷ [] })
    (λ none. (
      becomes_formed e.0 n (find_named e.0 w.places) refl
          (found_none e.0 w.places (none_nodes w.places (already_none (first_node w) (all_none checks none).1.0))),
      tt,
    )))

store_formed : (id event_node : ℕ) (comment : Option (List ℕ)) (run : Running) (w : World) →
    OnOk (IsFormedStated w) (store_node id event_node comment run w)
store_formed id event_node comment run w =
    any_bind (IsFormedStated w) (reach run event_node w) _
    (λ s. bind_ok (IsFound w.places) (IsFormedStated w) (database_of_line run id w) _ (line_ok run id w)
    (λ e found. let checks = already (node_id e.1) ∷ any_down w
    ∷ when (known_somewhere (λ c. is_some (entry_at id c.nodes)) w) (refused.IdUsed id) ∷ [] in
    checked_ok (IsFormedStated w) checks (stored_by s e.0 id (comment_of comment) run)
    (λ none. let first = commit_of s (tells (StoreNode id (comment_of comment)) ∷ []) in
    let plain = emissions_plain s (next_event s) (tells (StoreNode id (comment_of comment)) ∷ []) in (
      (plain_all (first ∷ []) w.places ((plain, refl), tt)).0,
      (
        becomes_formed e.0 (joining id (with_deeds first.deeds s.node) run)
            (find_named e.0 (stood_at first (find_named first.name w.places) w.places)) refl
            (none_behind e.0 e.1 first w.places refl
            (found, no_node e.1 (already_none (node_id e.1) (all_none checks none).0))),
        tt,
      ),
    ))))

-- ---- every statement

ordered_formed : (o : Order) (run : Running) (w : World) → OnOk (IsFormedStated w) (ordered o run w)
ordered_formed (order.InitCluster id comment) run w = init_formed id comment run w
ordered_formed (order.StoreNode id event_node comment) run w = store_formed id event_node comment run w
ordered_formed (order.DropNode id event_node) run w =
    any_bind (IsFormedStated w) (reach run event_node w) _
    (λ s. let done = emitting_formed w s (tells (DropNode id) ∷ []) in
    search (kept_ok (IsFormedStated w), done))
ordered_formed (order.StorePath server client conninfo retry) run w =
    any_bind (IsFormedStated w) (reach run client w) _
    (λ s. let done = emitting_formed w s (tells (StorePath server client conninfo) ∷ []) in
    search (kept_ok (IsFormedStated w), done))
ordered_formed (order.DropPath server client) run w =
    any_bind (IsFormedStated w) (reach run client w) _
    (λ s. let done = emitting_formed w s (tells (DropPath server client) ∷ []) in
    search (kept_ok (IsFormedStated w), done))
ordered_formed (order.CreateSet id origin comment) run w =
    any_bind (IsFormedStated w) (reach run origin w) _
    (λ s. let done = emitting_formed w s (tells (StoreSet id origin (comment_of comment)) ∷ []) in
    search (kept_ok (IsFormedStated w), done))
ordered_formed (order.DropSet id origin) run w =
    any_bind (IsFormedStated w) (origin_of run origin id w) _
    (λ s. emitting_formed w s (tells (DropSet id) ∷ []))
ordered_formed (order.SetAddTable set origin id name key comment) run w =
    any_bind (IsFormedStated w) (origin_of run origin set w) _
    (λ s. let t : NewTable = record { set_id = set; id = id; name = name; comment = comment_of comment } in
    let done = emitting_formed w s (adding s t ∷ []) in
    search (kept_ok (IsFormedStated w), done))
ordered_formed (order.SubscribeSet set provider receiver forward) run w =
    any_bind (IsFormedStated w) (owner run set w) _
    (λ s. let f = subscribing set provider receiver forward in
    let done = emitting_formed w s (all_tell (told_bodies f s.known.config)) in
    search (kept_ok (IsFormedStated w), done))
ordered_formed (order.UnsubscribeSet set receiver) run w =
    any_bind (IsFormedStated w) (owner run set w) _
    (λ s. let done = emitting_formed w s (tells (UnsubscribeSet set receiver) ∷ []) in
    search (kept_ok (IsFormedStated w), done))
ordered_formed (order.Sync id) run w =
    any_bind (IsFormedStated w) (reach run id w) _ (λ s. emitting_formed w s (tells Sync ∷ []))
ordered_formed others run w = tt

poll_plain : (delivery : Delivery) (s : Seat) (confirms : List (ℕ × ℕ × ℕ)) → ArePlain (hearing s confirms)
poll_plain delivery s [] = tt
poll_plain delivery s (c ∷ cs) = ((((refl, refl), tt), refl), tt)

-- ---- what is brought

-- what a node holds is spelled, and what it has logged is such as writes make it
pub record IsSpelledSeat (s : Seat) : Type 0 where
  pub place : IsSpelled s.place
  pub logged : AreWritten (logged s.node)

seat_spelled : (node : ℕ) (found : Option (List ℕ × Place)) → OnSome (λ e. IsSpelled e.1) found →
    OnOk IsSpelledSeat (seat_at node found)
seat_spelled node None spelled = tt
seat_spelled node (Some e) spelled =
    elim (is_running e.1.standing) as (λ b. OnOk IsSpelledSeat
    (cond b (seat_of (refused.NoNode node) e e.1.node) (Err (refused.Down e.0)))) [
      | true ↦ by e.1.node spelled.logged
      | false ↦ tt
    ]
  where
    by : (n : Option Node) → AreWritten (logs_in n) → OnOk IsSpelledSeat (seat_of (refused.NoNode node) e n)
    by None written = tt
    by (Some n) written = record { place = spelled; logged = written }

-- the database of a node that is found
place_spelled : (w : World) → AllPlaces IsSpelled w → (node : ℕ) → OnSome (λ e. IsSpelled e.1) (at_node node w)
place_spelled w all node = all_find (λ e. IsSpelled e.1) _ w.places all

turn_spelled : (w : World) → AllPlaces IsSpelled w → (node : ℕ) → OnOk IsSpelledSeat (on_turn node w)
turn_spelled w all node =
    bind_ok IsSpelledSeat IsSpelledSeat (seat_at node (at_node node w)) _
    (seat_spelled node (at_node node w) (place_spelled w all node))
    (λ s is. kept_ok IsSpelledSeat (when (not (member node w.memory.started)) (refused.Off node) ∷ []) s is)

provided_spelled : (w : World) → AllPlaces IsSpelled w → (s : Seat) (e : Event) (provider : ℕ) →
    OnOk IsSpelledSeat (provided provider w s e)
provided_spelled w all s e provider =
    bind_ok IsSpelledSeat IsSpelledSeat _ _
    (bind_ok (OnSome (λ e. IsSpelled e.1)) IsSpelledSeat (linked_to provider w.memory s (at_node provider w)) _
    (kept_ok (OnSome (λ e. IsSpelled e.1))
    (when (not (has_path s.node.id provider s.known.config)) (refused.NoPath provider)
    ∷ when (is_cut s.node.id provider w.memory) (refused.Severed s.node.id provider)
    ∷ when (provider == s.node.id) (refused.NoNode provider) ∷ []) (at_node provider w)
    (place_spelled w all provider)) (seat_spelled provider))
    (λ p is. kept_ok IsSpelledSeat
    (when (not (is_known s.node.id p.known.config)) (refused.NotKnown s.node.id)
    ∷ when (nat_lt (progress_in e p) e.number) (refused.Behind provider (progress_in e p) e.number) ∷ []) p is)

-- it fills tables with rows that have their forms, and such actions are logged with it
abbrev pub IsFormedBrought : Brought → Type 0
IsFormedBrought b = AreFilled b.rows × AreWritten b.logs

tables_formed : (p : Place) → IsSpelled p → (names : List (List ℕ)) → AreFilled (rows_at p names)
tables_formed p spelled [] = tt
tables_formed p spelled (name ∷ more) = (standing_formed p name spelled, tables_formed p spelled more)

-- what is read of a log of such actions
sync_formed : (own : ℕ) (k : Knowledge) (e : Event) (logs : List Logged) → AreWritten logs → (v : ℕ × View) →
    IsFormedSync (set_sync own k e logs v)
sync_formed own k e logs written v = record {
  written =
      delta_has (λ l. IsWritten l.action) (λ l. IsWritten l.action) (tables_taken own v.0 k.config)
      (λ l is on. is) e.origin v.1.seen e.taken logs written;
  on = sync_on own k e logs v;
}

found_formed : (w : World) → AllPlaces IsSpelled w → (s : Seat) (e : Event) (a : Option Errand) →
    OnOk IsFormedFound (found_by w s e a)
found_formed w all s e None = tt
found_formed w all s e (Some (ToCopy c)) =
    bind_ok IsSpelledSeat IsFormedFound (provided c.provider w s e) _ (provided_spelled w all s e c.provider)
    (λ p there. copied_ok IsFormedFound c s e p (given_at c p) tt
    (λ v. tables_formed p.place there.place (names_taken s c.set_id)))
found_formed w all s e (Some ToFollow) =
    bind_ok (AllByRecursion IsFormedSync) IsFormedFound (followed_all w s e (kept_from e.origin s.known)) _
    (followed_ok IsSpelledSeat IsFormedSync w s e (provided_spelled w all s e)
    (λ p there v. sync_formed s.node.id s.known e (logged p.node) there.logged v) (kept_from e.origin s.known))
    (λ ts formed. formed)

-- what a turn fetches
pub fetch_formed : (w : World) → AllPlaces IsSpelled w → (node origin : ℕ) →
    OnOk (λ x. IsFormedFound x.found) (fetched node origin w)
fetch_formed w all node origin =
    any_bind (λ x. IsFormedFound x.found) (on_turn node w) _
    (λ s. any_bind (λ x. IsFormedFound x.found) (taken_up (next_at w.memory s origin)) _
    (λ e. bind_ok IsFormedFound (λ x. IsFormedFound x.found) (found_by w s e (errand_of s e)) _
    (found_formed w all s e (errand_of s e)) (λ f is. is)))

still_formed : (k : Knowledge) (f : Found) → IsFormedFound f → IsFormedFound (still k f)
still_formed k (FoundSyncs ts) is = all_filtered IsFormedSync (stands k) ts is
still_formed k FoundNothing is = is
still_formed k (FoundCopy set view rows) is = is

-- what a turn finds for an event that it applies
pub for_formed : (w : World) → AllPlaces IsSpelled w → KeepFormed w → (s : Seat) (e : Event) →
    OnOk IsFormedFound (found_for w s e)
for_formed w all keep s e = by (kept_fetch s.name e.origin e w.memory) refl
  where
    by : (o : Option Found) → kept_fetch s.name e.origin e w.memory ≡ o → OnOk IsFormedFound (found_or w s e o)
    by None none = found_formed w all s e (errand_of s e)
    by (Some f) some =
        let k = kept_for (λ name origin f. IsFormedFound f.found) s.name e w.memory f keep some in
        still_formed s.known f (subst IsFormedFound k.found k.has)

-- an action that a write made makes rows that have their forms
makes_formed : (here : Place) → IsSpelled here → Makes here (λ r. AreFormed r.1) (λ l. IsWritten l.action)
makes_formed here spelled rows l formed written =
    applied_formed l.action.change (content here rows l.action.table) (written.change, written.formed)
    (by (find_named l.action.table rows) refl)
  where
    by : (o : Option Rows) → find_named l.action.table rows ≡ o →
        AreFormed (unwrap_or o (standing_rows here l.action.table))
    by None none = standing_formed here l.action.table spelled
    by (Some r) found = all_found AreFormed l.action.table r rows formed found

-- what comes of what is found
brought_formed : (here : Place) (f : Found) → IsSpelled here → IsFormedFound f → IsFormedBrought (brought_of here f)
brought_formed here FoundNothing spelled is = (tt, tt)
brought_formed here (FoundCopy set view rows) spelled is = (is, tt)
brought_formed here (FoundSyncs ts) spelled is =
    syncs_have here (λ r. AreFormed r.1) (λ l. IsWritten l.action) (makes_formed here spelled) ts nothing_brought
    (all_map IsFormedSync (λ t. AreWritten t.rows) (λ t is. is.written) ts is) (tt, tt)

-- what a turn brings has rows that have their forms, and logs actions that do
pub work_brings : (w : World) → AllPlaces IsSpelled w → KeepFormed w → (node origin : ℕ) →
    OnOk (λ c. IsFormedBrought c.brought) (worked node origin w)
work_brings w all keep node origin =
    bind_ok IsSpelledSeat IsFormedCarried (on_turn node w) _ (turn_spelled w all node)
    (λ s here. any_bind IsFormedCarried (taken_up (next_at w.memory s origin)) _
    (λ e. bind_ok IsFormedFound IsFormedCarried (found_for w s e) (settled s e) (for_formed w all keep s e)
    (λ f is. kept_ok IsFormedCarried (option_map refused.Busy (writer_of (tables_in f) s.place) ∷ [])
    (carried s e (brought_of s.place f)) (brought_formed s.place f here.place is))))
  where
    IsFormedCarried : Carried → Type 0
    IsFormedCarried c = IsFormedBrought c.brought

-- the one commit of a turn that applies an event
carried_formed : (w : World) (c : Carried) → IsFormedBrought c.brought → CarriesForeign w.places c →
    AreFormedCommits w (applied_by c).commits
carried_formed w c formed carries = (
  subst (HoldsAt IsFormedCommit made) (sym carries.seat.found) (record {
    deeds = (formed, tt);
    fresh = refl;
    foreign = subst (AreForeign made.deeds) (sym carries.seat.node) (carries.foreign, tt);
    alone = tt;
  }),
  tt,
)
  where
    made : Commit
    made = record {
      name = c.seat.name;
      becomes = None;
      deeds = deed c.seat.place [] c.brought.logs (Applies c.event c.brought) ∷ [];
    }

-- What is known of the databases of a session, and of what their nodes keep.
pub record IsFormedWorld (w : World) : Type 0 where
  pub once : AreNamedOnce w.places
  pub spelled : AllPlaces IsSpelled w
  pub formed : KeepFormed w
  pub foreign : KeepForeign w

work_formed_commits : (w : World) → IsFormedWorld w → (node origin : ℕ) →
    OnOk (λ c. AreFormedCommits w (applied_by c).commits) (worked node origin w)
work_formed_commits w is node origin =
    ok_then (λ c. IsFormedBrought c.brought × CarriesForeign w.places c)
    (λ c. AreFormedCommits w (applied_by c).commits) (worked node origin w)
    (both_ok (λ c. IsFormedBrought c.brought) (CarriesForeign w.places) (worked node origin w)
    (work_brings w is.spelled is.formed node origin) (work_foreign w is.once is.foreign node origin))
    (λ c is. carried_formed w c is.0 is.1)

-- ---- every command

abbrev IsFormedPoll : World → Delivery → Poll → Type 0
IsFormedPoll w delivery b = AreFormedCommits w (stated_by delivery b).commits

outcome_is_formed : (w : World) → IsFormedWorld w → (act : Act) → AreFormedCommits w (outcome act w).commits
outcome_is_formed w is act =
    outcome_has w (λ cs queues fetches. AreFormedCommits w cs) (record {
      nothing = tt;
      stops = λ name. tt;
      gives_up = λ name origin. tt;
      orders = λ o run. ordered_formed o run w;
      syncs = λ node. any_bind (IsFormedStated w) (on_turn node w) _
          (λ s. kept_ok (IsFormedStated w) (when (is_synced s) refused.Nothing ∷ []) (synced s)
          (emitting_formed w s (tells Sync ∷ [])));
      polls = λ node server delivery. any_bind (IsFormedPoll w delivery) (on_turn node w) _
          (λ s. any_bind (IsFormedPoll w delivery) (served server w.memory s (at_node server w)) _
          (λ p. let b = poll_of w.memory s p in
          kept_ok (IsFormedPoll w delivery) (when (brings_nothing b) refused.Nothing ∷ []) b
          (plain_all (stated_by delivery b).commits w.places (polled delivery b))));
      fetches = λ node origin. any_ok (λ x. Unit {0}) (fetched node origin w) (λ x. tt);
      works = work_formed_commits w is;
    }) act
  where
    polled : (delivery : Delivery) (b : Poll) → ArePlain (stated_by delivery b).commits
    polled Lost b = tt
    polled Once b = poll_plain Once b.seat b.confirms
    polled Again b = poll_plain Again b.seat b.confirms

-- what holds of each of the commits, and what does too
both_hold : (F G : Commit → Place → Type 0) (cs : List Commit) (ps : Named Place) → AllHold F cs ps →
    AllHold G cs ps → AllHold (λ c p. F c p × G c p) cs ps
both_hold F G [] ps one other = tt
both_hold F G (c ∷ cs) ps one other = (
  by (find_named c.name ps) one.0 other.0,
  both_hold F G cs (stood_at c (find_named c.name ps) ps) one.1 other.1,
)
  where
    by : (o : Option Place) → HoldsAt F c o → HoldsAt G c o → HoldsAt (λ c p. F c p × G c p) c o
    by None one other = tt
    by (Some p) one other = (one, other)

pub outcome_formed : (w : World) → IsFormedWorld w → (act : Act) →
    AllHold IsWithin (outcome act w).commits w.places → AllHold IsFormed (outcome act w).commits w.places
outcome_formed w is act within =
    both_hold IsWithin IsFormedCommit (outcome act w).commits w.places within (outcome_is_formed w is act)
