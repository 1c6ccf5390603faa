-- A SYNC brings each table of a set that a node keeps to what the table held at the origin as the SYNC was emitted.
use Rattle.std.proofs.Common.{◌≡◌, ◌≢◌, ℕ, ◌<◌, Bool, true, false, cond, List, [], ◌∷◌, Some, refl, sym, ap, subst}
use Rattle.std.proofs.Common.{◌∙◌, arith, map, filter, suc}
use Rattle.std.specs.Prelude.{◌==◌, ◌&&◌}
use Rattle.std.specs.Str.{bytes_eq}
use Rattle.std.specs.List.{AllByRecursion}
use Rattle.std.proofs.lemmas.Bool.{false≢true, false_from_ne_true, and_parts, eqb-true, eq-eqb}
use Rattle.node_rows.specs.declared.rows.TableRow.{TableRow}
use Rattle.slon_model.specs.Names.{find_named}
use Rattle.slon_model.specs.Maps.{Map}
use Rattle.slon_model.specs.Rows.{Action, Rows}
use Rattle.slon_model.specs.Snapshots.{Covers, covers}
use Rattle.slon_model.specs.Config.{Config, era_of, is_origin, is_table_of, tables_of}
use Rattle.slon_model.specs.Deeds.{Knowledge, Logged, knowledge, progress, view_of}
use Rattle.slon_model.specs.Eras.{image_in}
use Rattle.slon_model.specs.Following.{SetSync, delta, is_on_one, kept_from, set_sync, tables_taken}
use Rattle.slon_model.specs.Logs.{logged}
use Rattle.slon_model.specs.Place.{standing_rows, taken}
use Rattle.slon_model.specs.Sessions.{Seat}
use Rattle.slon_model.specs.Views.{View}
use Rattle.slon_model.specs.Events.{Event, is_sync}
use Rattle.slon_model.proofs.Names.{bytes_same}
use Rattle.slon_laws.proofs.Following.{delta_has}
use Rattle.slon_laws.proofs.Later.{HoldsOf}
use Rattle.stream_laws.specs.Nodes.{IsAmong, IsEvent, nodes_in}
use Rattle.stream_laws.proofs.Lists.{all_each, all_mapped, all_passed, any_among}
use Rattle.stream_laws.proofs.Seats.{IsSeat, seat_node}
use Rattle.image_laws.specs.Deltas.{IsRead, applied}
use Rattle.image_laws.specs.Facts.{IsHeldBy}
use Rattle.image_laws.proofs.Images.{image_is_committed_rows, reading_led}
use Rattle.image_laws.proofs.Logging.{among_filtered, filtered_among}
use Rattle.view_laws.specs.Contents.{actions_on}
use Rattle.view_laws.specs.Known.{AreRising, IsSeen}
use Rattle.view_laws.specs.Past.{Past, Moment, WasUpTo}
use Rattle.follow_laws.proofs.Contents.{actions_none, synced, synced_none, synced_one}
use Rattle.view_laws.proofs.Viewed.{rising_now}
use Rattle.follow_laws.proofs.Kept.{other_leads}
use Rattle.view_laws.proofs.Moments.{node_now, now_stays, one_name, reached_up_to}
use Rattle.view_laws.proofs.Divided.{was_taken}
use Rattle.view_laws.proofs.Numbered.{mapped_among}
use Rattle.view_laws.proofs.Rising.{found_stands}
use Rattle.image_laws.proofs.Staying.{Stays}
use Rattle.view_laws.proofs.Tables.{KnownTable, held_then, one_table, table_of, moment_today, Today}
use Rattle.view_laws.proofs.Taken.{Follows, delta_read}
use Rattle.view_laws.proofs.Readings.{ReadAt, Reads, ReadsFrom, read_at, reads_follows}
use Rattle.follow_laws.proofs.Tabled.{IsLike}

-- ---- moments of the origin

-- what a snapshot sees of a table is what the table held then
pub image_then : (t : Past) (m : Moment (WasUpTo t)) (now : Today t m) (set : ℕ) (table : List ℕ) →
    IsHeldBy m.node.id (knowledge m.node).config set table →
    image_in now.place now.node set (era_of set (knowledge m.node).config) table (taken m.place)
    ≡ standing_rows m.place table
image_then t m now set table held =
    let r = reached_up_to t m.session m.was in
    image_is_committed_rows t.limit r.history r.later m.session t.world r.leads r.goes_on m.name m.place now.place
    m.found (ap (λ k. find_named k t.world.places) now.same ∙ now.found) m.node now.node m.at now.at set table held

-- A moment of the origin of a set, with the snapshot and the era of a view, at which it held a table of the set.
pub record HeldAt (t : Past) (set : ℕ) (table : List ℕ) (v : View) : Type 0 where
  pub moment : Moment (WasUpTo t)
  pub own : moment.node.id ≡ v.origin
  pub seen : v.seen ≡ taken moment.place
  pub era : v.era ≡ era_of set (knowledge moment.node).config
  pub held : IsHeldBy moment.node.id (knowledge moment.node).config set table

-- a table held the same at two moments of its origin with one snapshot
pub same_rows : (t : Past) (set : ℕ) (table : List ℕ) (v : View) (a b : HeldAt t set table v) →
    standing_rows a.moment.place table ≡ standing_rows b.moment.place table
same_rows t set table v a b =
    sym (image_then t a.moment first set table a.held)
    ∙ ap (λ era. image_in now.0 now.2.node set era table (taken a.moment.place)) (sym a.era ∙ b.era)
    ∙ ap (image_in now.0 now.2.node set (era_of set (knowledge b.moment.node).config) table) (sym a.seen ∙ b.seen)
    ∙ image_then t b.moment second set table b.held
  where
    now_of : (m : Moment (WasUpTo t)) → HoldsOf (Stays m.node) m.name t.world.places
    now_of m = now_stays t m.session m.was m.name m.place m.node m.found m.at

    now : HoldsOf (Stays a.moment.node) a.moment.name t.world.places
    now = now_of a.moment

    also : HoldsOf (Stays b.moment.node) b.moment.name t.world.places
    also = now_of b.moment

    first : Today t a.moment
    first = moment_today t a.moment

    second : Today t b.moment
    second = record {
      name = a.moment.name;
      same = one_name t (node_now t b.moment also) (node_now t a.moment now)
          (also.2.id ∙ b.own ∙ sym a.own ∙ sym now.2.id);
      place = now.0;
      found = now.1;
      node = now.2.node;
      at = now.2.is;
    }

-- the moment of the snapshot of a view that a node keeps
abbrev pub held_at : (t : Past) (k : KnownTable t) (v : View) → IsSeen (WasUpTo t) k.node k.entry.1.set_id v →
    HeldAt t k.entry.1.set_id k.entry.1.name v
held_at t k v seen =
    record { moment = seen.moment; own = seen.own; seen = seen.seen; era = seen.era; held = held_then t k v seen }

-- ---- what a node takes of a table

-- The tables that a node knew as it read a log, beside one that it knows.
pub record Reading (t : Past) : Type 0 where
  pub table : KnownTable t
  pub own : ℕ
  pub known : Knowledge
  pub later : (f : ℕ × TableRow) → IsAmong f known.config.tables → IsLike (knowledge table.node).config f
  pub event : Event
  pub log : List Logged

-- of other sets nothing comes to the table
others_none : (t : Past) (r : Reading t) (v : ℕ × View) → v.0 ≢ r.table.entry.1.set_id →
    actions_on r.table.entry.1.name (set_sync r.own r.known r.event r.log v).rows ≡ []
others_none t r v apart =
    actions_none table (set_sync r.own r.known r.event r.log v).rows
    (delta_has (λ l. Unit {0}) (λ l. bytes_eq table l.action.table ≡ false) (tables_taken r.own v.0 c)
    (λ l any on. false_from_ne_true _ (λ same. apart (by l same (is_origin r.own v.0 c) refl on)))
    r.event.origin v.1.seen r.event.taken r.log (all_each (λ l. Unit {0}) (λ l. tt) r.log))
  where
    table : List ℕ
    table = r.table.entry.1.name

    c : Config
    c = r.known.config

    entry : ℕ × TableRow → ℕ × List ℕ
    entry e = (e.0, e.1.name)

    by : (l : Logged) → bytes_eq table l.action.table ≡ true → (b : Bool) → is_origin r.own v.0 c ≡ b →
        is_on_one (cond b [] (map entry (tables_of v.0 c))) l ≡ true → v.0 ≡ r.table.entry.1.set_id
    by l same true leads on = absurd (false≢true on)
    by l same false other on =
        let found =
        any_among (λ t. t.0 == l.table_id && bytes_eq l.action.table t.1) (map entry (tables_of v.0 c)) on in
        let made = mapped_among entry found.0 (tables_of v.0 c) found.1 in
        let there = filtered_among (is_table_of v.0) made.0 c.tables made.1 in
        let named =
        bytes_same l.action.table found.0.1
        (and_parts (found.0.0 == l.table_id) (bytes_eq l.action.table found.0.1) found.2).1 in
        let set = eqb-true made.0.1.set_id v.0 (and_parts made.0.1.live (made.0.1.set_id == v.0) there.1).1 in
        let like = r.later made.0 there.0 in
        let known : KnownTable t =
        record {
          name = r.table.name;
          node = r.table.node;
          is = r.table.is;
          entry = like.entry;
          among = like.among;
        } in
        sym (like.set_id ∙ set) ∙ (one_table t (table_of t known) (table_of t r.table)
        (like.name ∙ ap (λ (u : ℕ × List ℕ). u.1) (sym made.2) ∙ sym named
        ∙ sym (bytes_same table l.action.table same))).0

-- where none of these sets is the one of the table, nothing comes
pub synced_nothing : (t : Past) (r : Reading t) (kept : Map View) →
    AllByRecursion (λ v. v.0 ≢ r.table.entry.1.set_id) kept → (rows : Rows) →
    synced r.table.entry.1.name (map (set_sync r.own r.known r.event r.log) kept) rows ≡ rows
synced_nothing t r kept none rows =
    synced_none r.table.entry.1.name (map (set_sync r.own r.known r.event r.log) kept) rows
    (all_mapped (λ v. v.0 ≢ r.table.entry.1.set_id)
    (λ (s : SetSync). actions_on r.table.entry.1.name s.rows ≡ []) (set_sync r.own r.known r.event r.log)
    (others_none t r) kept none)

-- A node follows a set that it keeps, with a SYNC of its origin, and this is one of the tables.
pub record Syncing (t : Past) : Type 0 where
  pub seat : Seat
  pub event : Event
  pub is : IsSeat t.world.places seat
  -- the origin of the event
  pub source : Seat
  pub there : IsSeat t.world.places source
  pub led : source.node.id ≡ event.origin
  pub from : IsEvent (nodes_in t.world.places) event
  pub sync : is_sync event.body ≡ true
  pub next : event.number ≡ suc (progress event.origin (knowledge seat.node))
  pub entry : ℕ × TableRow
  pub among : IsAmong entry (knowledge seat.node).config.tables
  pub view : View
  pub found : view_of entry.1.set_id (knowledge seat.node) ≡ Some view
  pub seen : IsSeen (WasUpTo t) seat.node entry.1.set_id view

abbrev pub synced_table : {t : Past} → Syncing t → KnownTable t
synced_table {t} y =
    record {
      name = y.seat.name;
      node = y.seat.node;
      is = seat_node t.world.places y.seat y.is;
      entry = y.entry;
      among = y.among;
    }

abbrev reading_of : {t : Past} → Syncing t → Reading t
reading_of y =
    record {
      table = synced_table y;
      own = y.seat.node.id;
      known = knowledge y.seat.node;
      later = λ f among. record { entry = f; among = among; set_id = refl; name = refl };
      event = y.event;
      log = logged y.source.node;
    }

-- what it keeps of the origin
abbrev pub kept_of : {t : Past} → Syncing t → Map View
kept_of y = kept_from y.event.origin (knowledge y.seat.node)

abbrev pub sync_of : {t : Past} (y : Syncing t) → ℕ × View → SetSync
sync_of y = set_sync y.seat.node.id (knowledge y.seat.node) y.event (logged y.source.node)

filter_rising : {X : Type 0} (test : ℕ × X → Bool) (es : Map X) → AreRising es → AreRising (filter test es)
filter_rising test [] rising = tt
filter_rising test (e ∷ es) rising =
    elim (test e) as (λ b. AreRising (cond b (e ∷ filter test es) (filter test es))) [
      | true ↦ (
        all_passed (λ f. e.0 < f.0) (λ f. e.0 < f.0) test (λ f less passes. less) es rising.0,
        filter_rising test es rising.1,
      )
      | false ↦ filter_rising test es rising.1
    ]

-- where the set is one of the origin, what comes is what comes of the set
pub synced_of : (t : Past) (y : Syncing t) → y.view.origin ≡ y.event.origin → (rows : Rows) →
    synced y.entry.1.name (map (sync_of y) (kept_of y)) rows
    ≡ applied (actions_on y.entry.1.name (sync_of y (y.entry.1.set_id, y.view)).rows) rows
synced_of t y from rows =
    synced_one y.entry.1.name (sync_of y) y.entry.1.set_id y.view (kept_of y) rows (
      filter_rising (λ v. v.1.origin == y.event.origin) (knowledge y.seat.node).views
          (rising_now t y.seat.name y.seat.node (synced_table y).is),
      all_each (λ v. v.0 ≢ y.entry.1.set_id → actions_on y.entry.1.name (sync_of y v).rows ≡ [])
          (others_none t (reading_of y)) (kept_of y),
    ) (among_filtered (λ v. v.1.origin == y.event.origin) (y.entry.1.set_id, y.view)
    (knowledge y.seat.node).views
    (found_stands y.entry.1.set_id y.view (knowledge y.seat.node).views y.found)
    (eq-eqb y.view.origin y.event.origin from))

-- ---- what it leads to

-- that origin is the one of the view
source_name : (t : Past) (y : Syncing t) → y.view.origin ≡ y.event.origin → (m : Moment (WasUpTo t)) →
    m.node.id ≡ y.view.origin → m.name ≡ y.source.name
source_name t y from m own =
    let p = y.source in
    let now = now_stays t m.session m.was m.name m.place m.node m.found m.at in
    one_name t (node_now t m now)
    (record { name = p.name; place = p.place; found = y.there.found; node = p.node; at = y.there.node })
    (now.2.id ∙ own ∙ from ∙ sym y.led)

abbrev today : (t : Past) (y : Syncing t) → y.view.origin ≡ y.event.origin → (m : Moment (WasUpTo t)) →
    m.node.id ≡ y.view.origin → Today t m
today t y from m own =
    record {
      name = y.source.name;
      same = source_name t y from m own;
      place = y.source.place;
      found = y.there.found;
      node = y.source.node;
      at = y.there.node;
    }

-- the SYNC sees more than the view
abbrev pub more_of : {t : Past} (y : Syncing t) → y.view.origin ≡ y.event.origin →
    covers y.view.seen y.event.taken ≡ false → Reads t
more_of y from more =
    record {
      table = synced_table y;
      view = y.view;
      seen = y.seen;
      event = y.event;
      is = y.from;
      sync = y.sync;
      own = sym from;
      next =
          let next = y.next in
          let at = ap (λ i. progress i (knowledge y.seat.node)) from in
          omega (arith, next, at);
      more = more;
    }

-- what the table held as the snapshot of the view was taken becomes what it held as the SYNC was emitted
pub sync_leads : (t : Past) (y : Syncing t) (from : y.view.origin ≡ y.event.origin)
    (more : covers y.view.seen y.event.taken ≡ false) →
    applied (actions_on y.entry.1.name (sync_of y (y.entry.1.set_id, y.view)).rows)
    (standing_rows y.seen.moment.place y.entry.1.name)
    ≡ standing_rows (read_at t (more_of y from more)).at.moment.place y.entry.1.name
sync_leads t y from more =
    ap (applied actions) (sym (image_then t y.seen.moment first set table held)
    ∙ ap (λ era. image_in p.place p.node set era table (taken y.seen.moment.place)) (sym a.era)
    ∙ ap (image_in p.place p.node set era table) (sym y.seen.seen))
    ∙ reading_led t.limit p.name t.world p.place y.there.found p.node y.there.node y.view.seen
    y.event.taken (was_taken t y.seen.moment p.name first.same y.view.seen y.seen.seen)
    (subst (Covers y.event.taken) (sym y.seen.seen) (subst (λ k. Covers k (taken y.seen.moment.place))
    (sym a.at.taken) a.later.covers)) set era table follows.held actions read
    ∙ ap (image_in p.place p.node set era table) a.at.taken
    ∙ image_then t a.at.moment second set table a.held
  where
    p : Seat
    p = y.source

    set : ℕ
    set = y.entry.1.set_id

    table : List ℕ
    table = y.entry.1.name

    r : Reads t
    r = more_of y from more

    a : ReadAt t r
    a = read_at t r

    era : ℕ
    era = era_of set (knowledge a.at.moment.node).config

    first : Today t y.seen.moment
    first = today t y from y.seen.moment y.seen.own

    second : Today t a.at.moment
    second = today t y from a.at.moment (a.at.own ∙ sym from)

    held : IsHeldBy y.seen.moment.node.id (knowledge y.seen.moment.node).config set table
    held = held_then t (synced_table y) y.view y.seen

    reads : ReadsFrom t r
    reads = record {
      at = record { name = p.name; place = p.place; found = y.there.found; node = p.node; at = y.there.node };
      own = y.led;
      other = other_leads t y.seat.name y.seat.node (synced_table y).is set y.view y.seen;
    }

    follows : Follows t
    follows = reads_follows t r reads a

    actions : List Action
    actions = actions_on table (sync_of y (set, y.view)).rows

    read : IsRead p.node table y.view.seen y.event.taken actions
    read =
        subst (λ id. IsRead p.node table y.view.seen y.event.taken
        (actions_on table (delta id (tables_taken y.seat.node.id set (knowledge y.seat.node).config)
        y.view.seen y.event.taken (logged p.node)))) y.led
        (delta_read t follows y.view.seen)
