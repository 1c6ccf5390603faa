-- What a node that forwards a set logs with a SYNC: all that the origin logged on the set between the two snapshots.
use Rattle.std.proofs.Common.{◌≡◌, inl, inr, ℕ, Bool, true, false, cond, List, [], ◌∷◌, Some, refl, sym, ap, subst, ◌≢◌}
use Rattle.std.proofs.Common.{◌∙◌, ◌<◌, suc, arith}
use Rattle.std.specs.Prelude.{◌==◌, ◌&&◌, filter, map}
use Rattle.std.specs.Str.{bytes_eq}
use Rattle.std.proofs.lemmas.Bool.{eq-eqb, false_from_ne_true, true≢false}
use Rattle.node_rows.specs.declared.rows.TableRow.{TableRow}
use Rattle.slon_model.specs.Maps.{entry_at}
use Rattle.slon_model.specs.Snapshots.{covers, sees}
use Rattle.slon_model.specs.Events.{Event, is_sync}
use Rattle.slon_model.specs.Config.{forwards, names_of}
use Rattle.slon_model.specs.Deeds.{Brought, Logged, Node, knowledge, nothing_brought, progress, stream, view_of}
use Rattle.slon_model.specs.Deeds.{Knowledge}
use Rattle.slon_model.specs.Following.{SetSync, delta, is_new, is_on_one, kept_from, numbered, onto, set_sync}
use Rattle.slon_model.specs.Following.{tables_taken, with_sync, with_syncs}
use Rattle.slon_model.specs.Logs.{logged}
use Rattle.slon_model.specs.Place.{Place}
use Rattle.slon_model.specs.Sessions.{Seat}
use Rattle.slon_model.specs.Views.{View}
use Rattle.slon_model.specs.Working.{Carried}
use Rattle.slon_model.proofs.Names.{bytes_itself, bytes_same}
use Rattle.stream_laws.specs.Nodes.{IsAmong, IsEvent, nodes_in}
use Rattle.stream_laws.specs.Facts.{Facts}
use Rattle.stream_laws.specs.Laws.{AreMadeOnce, IsProper}
use Rattle.stream_laws.specs.Making.{HasStored, OfName, has_mark, tells_of}
use Rattle.stream_laws.proofs.Applies.{IsSetOf}
use Rattle.stream_laws.proofs.Copies.{Leading, one_leader, origin_row, IsTakenOf}
use Rattle.stream_laws.proofs.Laws.{marks_are_made_once}
use Rattle.stream_laws.proofs.Lists.{all_among, any_among}
use Rattle.stream_laws.proofs.Seats.{IsSeat, seat_node}
use Rattle.stream_laws.proofs.Statements.{owner_stored}
use Rattle.stream_laws.proofs.Streams.{number_within, one_node}
use Rattle.image_laws.proofs.Had.{Owned}
use Rattle.image_laws.proofs.Logging.{among_filtered, filtered_among}
use Rattle.view_laws.specs.Contents.{actions_on}
use Rattle.view_laws.specs.Known.{IsLoggedAs, IsSeen, leaves}
use Rattle.view_laws.specs.Past.{Past, WasBefore, WasUpTo}
use Rattle.view_laws.proofs.Agreeing.{table_known, table_or_left}
use Rattle.view_laws.proofs.Lasting.{Between}
use Rattle.view_laws.proofs.Late.{late_unseen}
use Rattle.view_laws.proofs.Standing.{Viewer, left_behind, viewer_event}
use Rattle.view_laws.proofs.Brought.{IsSynced, taken_at}
use Rattle.view_laws.proofs.Doing.{IsTaken}
use Rattle.view_laws.proofs.Viewed.{seen_now}
use Rattle.view_laws.proofs.Moments.{NodeAt, passes_covers, regular_now}
use Rattle.view_laws.proofs.Numbered.{IsNumbered, are_numbered, mapped_among}
use Rattle.view_laws.proofs.Rising.{found_stands}
use Rattle.view_laws.proofs.Tables.{KnownTable, Table, logged_table, one_table, table_of, told_now}
use Rattle.view_laws.proofs.Tables.{table_origin}
use Rattle.view_laws.proofs.Taken.{Follows, delta_read, entry_own, set_delta}
use Rattle.view_laws.proofs.Readings.{Reads, ReadsFrom, read_at, reads_follows}
use Rattle.view_laws.proofs.Unmoved.{syncs_are}
use Rattle.net_relation.proofs.Leading.{one_storer}
use Rattle.net_relation.proofs.Stretches.{one_entry}
use Rattle.view_laws.proofs.Copied.{leading_now}

-- ---- what a brought log has

onto_old : {X : Type 0} (x : X) (xs others : List X) → IsAmong x others → IsAmong x (onto xs others)
onto_old x [] others among = among
onto_old x (y ∷ ys) others among = onto_old x ys (y ∷ others) (inr among)

onto_new : {X : Type 0} (x : X) (xs others : List X) → IsAmong x xs → IsAmong x (onto xs others)
onto_new x [] others among = absurd among
onto_new x (y ∷ ys) others (inl is) = onto_old x ys (y ∷ others) (inl is)
onto_new x (y ∷ ys) others (inr later) = onto_new x ys (y ∷ others) later

logs_kept : (here : Place) (ts : List SetSync) (b : Brought) (l : Logged) → IsAmong l b.logs →
    IsAmong l (with_syncs here ts b).logs
logs_kept here [] b l among = among
logs_kept here (t ∷ ts) b l among = logs_kept here ts (with_sync here t b) l (by t.forwards)
  where
    by : (f : Bool) → IsAmong l (cond f (onto t.rows b.logs) b.logs)
    by true = onto_old l t.rows b.logs among
    by false = among

logs_new : (here : Place) (ts : List SetSync) (b : Brought) (t : SetSync) → IsAmong t ts → t.forwards ≡ true →
    (l : Logged) → IsAmong l t.rows → IsAmong l (with_syncs here ts b).logs
logs_new here [] b t among forwards l row = absurd among
logs_new here (s ∷ ts) b t (inl is) forwards l row =
    logs_kept here ts (with_sync here s b) l
    (subst (λ f. IsAmong l (cond f (onto s.rows b.logs) b.logs))
    (sym (ap (λ (r : SetSync). r.forwards) (sym is) ∙ forwards))
    (onto_new l s.rows b.logs (subst (λ (r : SetSync). IsAmong l r.rows) is row)))
logs_new here (s ∷ ts) b t (inr later) forwards l row = logs_new here ts (with_sync here s b) t later forwards l row

-- ---- a SYNC that is followed

-- A node that keeps a set finds what there is for its next event, a SYNC of the origin, which is as at this seat.
pub record Keeping (t : Past) (s : Seat) (ev : Event) (set : ℕ) : Type 0 where
  pub seat : IsSeat t.world.places s
  pub source : Seat
  pub is : IsSeat t.world.places source
  pub led : source.node.id ≡ ev.origin
  pub apart : ev.origin ≢ s.node.id
  pub view : View
  pub found : view_of set (knowledge s.node) ≡ Some view
  pub own : view.origin ≡ ev.origin
  pub event : IsEvent (nodes_in t.world.places) ev
  pub sync : is_sync ev.body ≡ true
  pub next : ev.number ≡ suc (progress ev.origin (knowledge s.node))

-- the origin of the set
abbrev leader : {t : Past} {s : Seat} {ev : Event} {set : ℕ} → Keeping t s ev set → Node
leader f = f.source.node

leader_is : (t : Past) (s : Seat) (ev : Event) (set : ℕ) (f : Keeping t s ev set) →
    nodes_in t.world.places f.source.name ≡ Some (leader f)
leader_is t s ev set f = seat_node t.world.places f.source f.is

-- it is the origin of the set, which may have ended since
leader_owns : (t : Past) (s : Seat) (ev : Event) (set : ℕ) (f : Keeping t s ev set) →
    IsSetOf set (leader f).id (knowledge (leader f)).config
leader_owns t s ev set f =
    subst (λ (n : Node). IsSetOf set n.id (knowledge n).config)
    (one_node (nodes_in t.world.places) (regular_now t).nodes now.0.name f.source.name now.0.node (leader f) now.0.is
    (leader_is t s ev set f, now.1 ∙ seen.own ∙ f.own ∙ sym f.led)) now.0.leads
  where
    seen : IsSeen (WasUpTo t) s.node set f.view
    seen = seen_now t s.name s.node (seat_node t.world.places s f.seat) set f.view f.found

    now : (y : Leading (nodes_in t.world.places) set) × (y.node.id ≡ seen.moment.node.id)
    now = leading_now t seen.moment set seen.leads

-- An entry of its log on the set, between the two snapshots.
pub record IsNewEntry {t : Past} {s : Seat} {ev : Event} {set : ℕ} (f : Keeping t s ev set) (l : Logged) : Type 0 where
  pub among : IsAmong l (logged f.source.node)
  pub of : l.set_id ≡ set
  pub seen : sees ev.taken l.action.xid ≡ true
  pub unseen : sees f.view.seen l.action.xid ≡ false

-- the table of the entry, as the log says
abbrev entry_table : (t : Past) (s : Seat) (ev : Event) (set : ℕ) (f : Keeping t s ev set) (l : Logged) →
    IsAmong l (logged (leader f)) → Table t
entry_table t s ev set f l among =
    logged_table t f.source.name (leader f) (leader_is t s ev set f) l
    (all_among (IsLoggedAs (WasBefore t) (leader f)) l (logged (leader f))
    (told_now t f.source.name (leader f) (leader_is t s ev set f)).logs among)

-- The origin has emitted the event by which the table came into the set, and knows it.
record EntryKnown (t : Past) (set : ℕ) (y : Node) (l : Logged) : Type 0 where
  known : KnownTable t
  at : known.node ≡ y
  named : l.action.table ≡ known.entry.1.name
  of : known.entry.1.set_id ≡ set

entry_known : (t : Past) (s : Seat) (ev : Event) (set : ℕ) (f : Keeping t s ev set) (l : Logged) → IsNewEntry f l →
    EntryKnown t set (leader f) l
entry_known t s ev set f l i = record {
  known = known;
  at = refl;
  named = named;
  of = sym (one_table t table (table_of t known) named).0 ∙ i.of;
}
  where
    y : Node
    y = leader f

    table : Table t
    table = entry_table t s ev set f l i.among

    laws : AreMadeOnce t.world
    laws = marks_are_made_once t.limit t.history t.world t.leads

    maker : Node
    maker = table.is.node

    stored : HasStored set (stream maker)
    stored =
        let before = (subst (IsProper maker table.event.number) table.body
        (laws.bodies table.is.name maker table.is.is table.event table.is.among)).0 in
        subst (λ i. HasStored i (stream maker)) i.of (before.0, before.1, before.3)

    one : maker ≡ y
    one = one_node (nodes_in t.world.places) (regular_now t).nodes table.is.name f.source.name maker y
        table.is.is (
          leader_is t s ev set f,
          one_storer t (record { name = table.is.name; node = maker; is = table.is.is })
              (record { name = f.source.name; node = y; is = leader_is t s ev set f }) set (
                stored,
                owner_stored (nodes_in t.world.places) (regular_now t).nodes f.source.name y
                    (leader_is t s ev set f) set (leader_owns t s ev set f),
              ),
        )

    facts : Facts (nodes_in t.world.places) y
    facts = (regular_now t).nodes.each f.source.name y (leader_is t s ev set f)

    there : IsAmong table.event (stream y)
    there = subst (λ (n : Node). IsAmong table.event (stream n)) one table.is.among

    knows : has_mark (OfName l.action.table) (knowledge y).config ≡ true
    knows = laws.known f.source.name y (leader_is t s ev set f) (OfName l.action.table) (record {
      made = record {
        name = f.source.name;
        node = y;
        is = leader_is t s ev set f;
        event = table.event;
        among = there;
        makes = ap (λ body. tells_of body (OfName l.action.table)) table.body ∙ bytes_itself l.action.table;
      };
      within =
          let within = number_within y.id (stream y) table.event facts.emitted there in
          let whole = facts.whole in
          omega (arith, within.1, whole);
    })

    entry : (r : ℕ × TableRow) × IsAmong r (knowledge y).config.tables × (bytes_eq l.action.table r.1.name ≡ true)
    entry = any_among (λ r. bytes_eq l.action.table r.1.name) (knowledge y).config.tables knows

    known : KnownTable t
    known = record {
      name = f.source.name;
      node = y;
      is = leader_is t s ev set f;
      entry = entry.0;
      among = entry.1;
    }

    named : l.action.table ≡ entry.0.1.name
    named = bytes_same l.action.table entry.0.1.name entry.2

-- so the table is one of its own
entry_owned : (t : Past) (s : Seat) (ev : Event) (set : ℕ) (f : Keeping t s ev set) (l : Logged) →
    (k : EntryKnown t set (leader f) l) → Owned (leader f) k.known.entry.1.name
entry_owned t s ev set f l k =
    let owns = leader_owns t s ev set f in record {
      entry = k.known.entry;
      among = subst (λ (n : Node). IsAmong k.known.entry (knowledge n).config.tables) k.at k.known.among;
      named = refl;
      row = owns.0;
      found = ap (λ i. entry_at i (knowledge (leader f)).config.sets) k.of ∙ owns.1;
      owns = eq-eqb owns.0.origin (leader f).id owns.2;
    }

-- A node that keeps the set knows the table of the entry: as that came into the set the node was not told yet to give
-- it up, since the SYNC came before that, and sees the entry.
entry_named : (t : Past) (s : Seat) (ev : Event) (set : ℕ) (f : Keeping t s ev set) (l : Logged) → IsNewEntry f l →
    IsAmong l.action.table (names_of set (knowledge s.node).config)
entry_named t s ev set f l i = elim (table_or_left t k.known viewer (sym k.of)) [
  | inl known ↦
      subst (λ name. IsAmong name (names_of set (knowledge s.node).config)) (sym k.named)
      (subst (λ i. IsAmong k.known.entry.1.name (names_of i (knowledge s.node).config)) k.of known)
  | inr left ↦ absurd (late_unseen t (record {
    at = record {
      name = f.source.name;
      place = f.source.place;
      found = f.is.found;
      node = y;
      at = f.is.node;
    };
    table = table;
    there = there;
    owned = entry_owned t s ev set f l k;
    entry = l;
    among = i.among;
    on = k.named;
  }) ev (subst (λ (n : Node). IsAmong ev (stream n)) (one_node (nodes_in t.world.places) (regular_now t).nodes
      f.event.name f.source.name f.event.node y f.event.is (leader_is t s ev set f, f.event.own ∙ sym f.led))
      f.event.among) (before left) i.seen)
]
  where
    y : Node
    y = leader f

    k : EntryKnown t set y l
    k = entry_known t s ev set f l i

    own : nodes_in t.world.places s.name ≡ Some s.node
    own = seat_node t.world.places s f.seat

    viewer : Viewer t
    viewer = record {
      name = s.name;
      node = s.node;
      is = own;
      set_id = set;
      view = f.view;
      seen = seen_now t s.name s.node own set f.view f.found;
    }

    table : Table t
    table = table_of t k.known

    from : table.event.origin ≡ f.view.origin
    from = table_origin t table s.node f.view (subst (λ i. IsSeen (WasUpTo t) s.node i f.view) (sym k.of) viewer.seen)

    there : IsAmong table.event (stream y)
    there =
        subst (λ (n : Node). IsAmong table.event (stream n)) (one_node (nodes_in t.world.places) (regular_now t).nodes
        table.is.name f.source.name table.is.node y table.is.is
        (leader_is t s ev set f, table.is.own ∙ from ∙ f.own ∙ sym f.led)) table.is.among

    before : Between (leaves set s.node.id) (stream (viewer_event t viewer).node) viewer.seen.enabled table.event →
        ev.number < table.event.number
    before b =
        let behind = left_behind t viewer table.event b in
        let next = f.next in
        let at = ap (λ i. progress i (knowledge s.node)) f.own in
        omega (arith, behind, next, at)

-- the node knows it too, as a table to which it takes rows
entry_follows : (t : Past) (s : Seat) (ev : Event) (set : ℕ) (f : Keeping t s ev set) (l : Logged) → IsNewEntry f l →
    (w : Follows t) × (w.table.node ≡ s.node) × (w.node ≡ leader f) × (w.table.entry.1.set_id ≡ set)
    × (w.table.entry.1.name ≡ l.action.table) × (w.top ≡ ev.taken)
entry_follows t s ev set f l i =
    (reads_follows t r from (read_at t r), refl, refl, there.2, sym there.3, refl)
  where
    there : (r : ℕ × TableRow) × IsAmong r (knowledge s.node).config.tables × (r.1.set_id ≡ set)
        × (l.action.table ≡ r.1.name)
    there = table_known set (knowledge s.node).config l.action.table (entry_named t s ev set f l i)

    own : nodes_in t.world.places s.name ≡ Some s.node
    own = seat_node t.world.places s f.seat

    r : Reads t
    r = record {
      table = record { name = s.name; node = s.node; is = own; entry = there.0; among = there.1 };
      view = f.view;
      seen =
          subst (λ i. IsSeen (WasUpTo t) s.node i f.view) (sym there.2)
          (seen_now t s.name s.node own set f.view f.found);
      event = ev;
      is = f.event;
      sync = f.sync;
      own = sym f.own;
      next =
          let next = f.next in
          let at = ap (λ i. progress i (knowledge s.node)) f.own in
          omega (arith, next, at);
      more = false_from_ne_true (covers f.view.seen ev.taken) (λ all. true≢false
          (sym (passes_covers f.view.seen ev.taken all l.action.xid i.seen) ∙ i.unseen));
    }

    from : ReadsFrom t r
    from = record {
      at = record {
        name = f.source.name;
        place = f.source.place;
        found = f.is.found;
        node = leader f;
        at = f.is.node;
      };
      own = f.led;
      other = false_from_ne_true _ (λ leads. f.apart (sym f.led
          ∙ one_leader (nodes_in t.world.places) (regular_now t).nodes set (record {
            name = f.source.name;
            node = leader f;
            is = leader_is t s ev set f;
            leads = leader_owns t s ev set f;
          }) (record {
            name = s.name;
            node = s.node;
            is = own;
            leads =
                subst (λ i. IsSetOf i s.node.id (knowledge s.node).config) there.2
                (origin_row s.node.id there.0.1.set_id (knowledge s.node).config leads);
          })));
    }

-- what it takes of the set of the log of the origin
abbrev pub sync_of : {t : Past} {s : Seat} {ev : Event} {set : ℕ} → Keeping t s ev set → SetSync
sync_of {s = s} {ev} {set} f =
    set_sync s.node.id (knowledge s.node) ev (logged f.source.node) (set, f.view)

-- so it takes the entry
entry_taken : (t : Past) (s : Seat) (ev : Event) (set : ℕ) (f : Keeping t s ev set) (l : Logged) → IsNewEntry f l →
    IsAmong l (sync_of f).rows
entry_taken t s ev set f l e =
    subst (λ (m : Logged). IsAmong m sync.rows)
    (one_entry t origin k l (of.among, e.among) made.2 (of.own ∙ sym own)) there
  where
    n : Node
    n = s.node

    origin : NodeAt t
    origin = record {
      name = f.source.name;
      place = f.source.place;
      found = f.is.found;
      node = leader f;
      at = f.is.node;
    }

    sync : SetSync
    sync = sync_of f

    w : (w : Follows t) × (w.table.node ≡ n) × (w.node ≡ leader f) × (w.table.entry.1.set_id ≡ set)
        × (w.table.entry.1.name ≡ l.action.table) × (w.top ≡ ev.taken)
    w = entry_follows t s ev set f l e

    own : l.origin ≡ ev.origin
    own =
        entry_own t w.0 l (subst (λ (m : Node). IsAmong l (logged m)) (sym w.2) e.among) (sym w.4)
        (ap (λ k. sees k l.action.xid) w.5 ∙ e.seen)
        ∙ ap (λ (m : Node). m.id) w.2 ∙ f.led

    taken : IsAmong l.action (actions_on l.action.table sync.rows)
    taken =
        subst (λ ls. IsAmong l.action (actions_on l.action.table ls)) rows_are
        (subst (λ name. IsAmong l.action (actions_on name (set_delta w.0 f.view.seen))) w.4
        ((delta_read t w.0 f.view.seen).all l (subst (λ (m : Node). IsAmong l (logged m)) (sym w.2) e.among) (record {
          on = sym w.4;
          seen = ap (λ k. sees k l.action.xid) w.5 ∙ e.seen;
          unseen = e.unseen;
        })))
      where
        rows_are : set_delta w.0 f.view.seen ≡ sync.rows
        rows_are =
            ap (λ k. delta w.0.node.id
            (tables_taken w.0.table.node.id w.0.table.entry.1.set_id (knowledge w.0.table.node).config) f.view.seen
            k (logged w.0.node)) w.5
            ∙ ap (λ (m : Node). delta m.id
            (tables_taken w.0.table.node.id w.0.table.entry.1.set_id (knowledge w.0.table.node).config) f.view.seen
            ev.taken (logged m)) w.2
            ∙ ap (λ (m : Node). delta (leader f).id
            (tables_taken m.id w.0.table.entry.1.set_id (knowledge m).config) f.view.seen
            ev.taken (logged (leader f))) w.1
            ∙ ap (λ i. delta (leader f).id (tables_taken n.id i (knowledge n).config) f.view.seen ev.taken
            (logged (leader f))) w.3
            ∙ ap (λ i. delta i (tables_taken n.id set (knowledge n).config) f.view.seen ev.taken
            (logged (leader f))) f.led

    made : (k : Logged) × IsAmong k (filter (λ l'. bytes_eq l.action.table l'.action.table) sync.rows)
        × (l.action ≡ k.action)
    made = mapped_among (λ (k : Logged). k.action) l.action
        (filter (λ l'. bytes_eq l.action.table l'.action.table) sync.rows) taken

    k : Logged
    k = made.0

    there : IsAmong k sync.rows
    there = (filtered_among (λ l'. bytes_eq l.action.table l'.action.table) k sync.rows made.1).0

    of : IsNumbered ev.origin (logged (leader f)) (k.action.number, k)
    of =
        let passes = filtered_among (λ l'. is_on_one (tables_taken n.id set (knowledge n).config) l'
        && is_new f.view.seen ev.taken l') k
        (map (λ e. e.1) (numbered ev.origin (logged (leader f)))) there in
        let entry = mapped_among (λ (e : ℕ × Logged). e.1) k (numbered ev.origin (logged (leader f))) passes.0 in
        let is = all_among (IsNumbered ev.origin (logged (leader f))) entry.0
        (numbered ev.origin (logged (leader f))) (are_numbered ev.origin (logged (leader f))) entry.1 in
        record {
          number = refl;
          own = ap (λ (m : Logged). m.origin) entry.2 ∙ is.own;
          among = subst (λ m. IsAmong m (logged (leader f))) (sym entry.2) is.among;
        }

-- ---- what is brought

-- A node that forwards a set applies a SYNC of its origin, and brings what it found for that, which is the same as what
-- there was in the log of the origin.
pub record Forwarding (t : Past) (x : Carried) (set : ℕ) : Type 0 where
  pub origin : ℕ
  pub is : IsTaken t origin x
  pub synced : IsSynced t x.seat x.event x.brought
  pub view : View
  pub found : view_of set (knowledge synced.at.seat.node) ≡ Some view
  pub own : view.origin ≡ x.event.origin
  pub forwards : forwards set synced.at.seat.node.id (knowledge synced.at.seat.node).config ≡ true
  pub source : Seat
  pub there : IsSeat synced.at.to.world.places source
  pub led : source.node.id ≡ x.event.origin
  pub same : (y : SetSync) → IsTakenOf synced.at.to.world synced.at.seat x.event (set, view) y →
      y.rows ≡ (set_sync synced.at.seat.node.id (knowledge synced.at.seat.node) x.event (logged source.node)
      (set, view)).rows

-- as it was found
abbrev pub keeping : {t : Past} {x : Carried} {set : ℕ} (f : Forwarding t x set) →
    Keeping f.synced.at.to f.synced.at.seat x.event set
keeping f =
    record {
      seat = f.synced.at.work.seat;
      source = f.source;
      is = f.there;
      led = f.led;
      apart = f.synced.at.work.other;
      view = f.view;
      found = f.found;
      own = f.own;
      event = f.synced.at.work.event;
      sync = ap is_sync f.synced.follows.body;
      next = f.synced.at.work.next;
    }

-- it logs such an entry
pub entry_logged : (t : Past) (x : Carried) (set : ℕ) (f : Forwarding t x set) (l : Logged) →
    IsNewEntry (keeping f) l → IsAmong l x.brought.logs
entry_logged t x set f l e =
    subst (λ (b : Brought). IsAmong l b.logs) (sym y.is)
    (subst (λ ts. IsAmong l (with_syncs x.seat.place ts nothing_brought).logs) (sym (syncs_are t f.origin x f.is y))
    (logs_new x.seat.place y.follows.syncs nothing_brought taken.0 taken.1
    (ap (λ (z : SetSync). z.forwards) taken.2.is
    ∙ ap (λ (k : Knowledge). forwards set then.node.id k.config) then_known ∙ f.forwards) l
    (subst (IsAmong l) (sym (f.same taken.0 taken.2)) (entry_taken y.at.to then x.event set (keeping f) l e))))
  where
    y : IsSynced t x.seat x.event x.brought
    y = f.synced

    then : Seat
    then = y.at.seat

    then_known : then.known ≡ knowledge then.node
    then_known = y.at.work.seat.known

    taken : (z : SetSync) × IsAmong z y.follows.syncs × IsTakenOf y.at.to.world then x.event (set, f.view) z
    taken =
        taken_at (set, f.view) (kept_from x.event.origin then.known) y.follows.syncs y.follows.taken
        (subst (λ k. IsAmong (set, f.view) (kept_from x.event.origin k)) (sym then_known)
        (among_filtered (λ u. u.1.origin == x.event.origin) (set, f.view) (knowledge then.node).views
        (found_stands set f.view (knowledge then.node).views f.found)
        (eq-eqb f.view.origin x.event.origin f.own)))
