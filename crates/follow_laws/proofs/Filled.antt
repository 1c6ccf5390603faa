-- Each table that a node keeps was filled with what it held at the origin, and nothing has come on it since.
use Rattle.follow_laws.proofs.Synced.{more_of}
use Rattle.slon_model.specs.Events.{is_sync}
use Rattle.view_laws.proofs.Copied.{leading_now}
use Rattle.view_laws.proofs.Brought.{same_id}
use Rattle.view_laws.proofs.Tables.{set_known}
use Rattle.view_laws.specs.Known.{enables}
use Rattle.slon_model.specs.Maps.{entry_at}
use Rattle.slon_model.specs.Config.{set_row}
use Rattle.follow_laws.proofs.Tabled.{still_like}
use Rattle.view_laws.proofs.Tables.{whole_now}
use Rattle.std.proofs.Common.{is_some}
use Rattle.stream_laws.proofs.Copies.{origin_row}
use Rattle.std.proofs.Common.{◌≡◌, ◌≢◌, inl, ℕ, ◌<◌, ◌≤◌, Bool, true, false, cond, List, Option, Some, []}
use Rattle.std.proofs.Common.{arith, None, refl, sym, ap, subst, ◌∙◌, map, unwrap_or}
use Rattle.std.specs.Prelude.{◌==◌}
use Rattle.std.specs.Str.{bytes_eq}
use Rattle.std.specs.List.{AllByRecursion}
use Rattle.std.proofs.lemmas.Bool.{false_from_ne_true, and_from, and_parts, eqb-true, eq-eqb}
use Rattle.node_rows.specs.declared.body.Body.{Body}
use Rattle.node_rows.specs.declared.body.Body.TheVariants.{Sync, EnableSubscription}
use Rattle.node_rows.specs.declared.rows.TableRow.{TableRow}
use Rattle.slon_model.specs.Names.{find_named}
use Rattle.slon_model.specs.Rows.{Action, Rows}
use Rattle.slon_model.specs.Snapshots.{covers}
use Rattle.slon_model.specs.Events.{Event}
use Rattle.slon_model.specs.Config.{Config, change_by, is_table_of, names_of, tables_of, is_origin}
use Rattle.slon_model.specs.Deeds.{Node, Brought, Knowledge, knowledge, nothing_brought}
use Rattle.slon_model.specs.Deeds.{progress, view_of, with_deeds}
use Rattle.slon_model.specs.Following.{content, kept_from, set_sync, with_syncs, tables_taken}
use Rattle.slon_model.specs.Logs.{logged}
use Rattle.slon_model.specs.Place.{Filling, Place, filling_of, standing_rows}
use Rattle.slon_model.specs.Maps.{Map}
use Rattle.slon_model.specs.Sessions.{Seat, committing}
use Rattle.slon_model.specs.Views.{View, view_after}
use Rattle.slon_model.specs.Working.{Carried, ToCopy, errand_in, names_taken, Copying}
use Rattle.slon_model.proofs.Names.{all_map, bytes_same, all_found}
use Rattle.slon_laws.specs.Sound.{Sound}
use Rattle.stream_laws.specs.Nodes.{IsAmong, nodes_in, IsEvent}
use Rattle.stream_laws.proofs.Copies.{Leading}
use Rattle.stream_laws.proofs.Lists.{all_mapped, all_passed, among_all}
use Rattle.stream_laws.proofs.Seats.{seat_node, IsSeat}
use Rattle.image_laws.proofs.Logging.{among_filtered}
use Rattle.image_laws.specs.Deltas.{applied}
use Rattle.image_laws.specs.Facts.{IsHeldBy}
use Rattle.view_laws.proofs.Doing.{IsTaken, taking}
use Rattle.view_laws.specs.Contents.{actions_on}
use Rattle.follow_laws.specs.Filled.{AreFilled, IsFilled}
use Rattle.view_laws.specs.Known.{IsEmitted, IsSeen, leaves}
use Rattle.view_laws.specs.Past.{Past, WasBefore, WasUpTo, PastUpTo}
use Rattle.follow_laws.proofs.Contents.{AreBefore, content_syncs, covered_none, filled_stands, filling_by, synced}
use Rattle.follow_laws.proofs.Contents.{filling_filled, rows_found, rows_none}
use Rattle.view_laws.proofs.Brought.{IsCopied, IsSynced, was_then, copied_view, earlier}
use Rattle.view_laws.proofs.Emitted.{moment_of, sync_emitted}
use Rattle.follow_laws.proofs.Kept.{filled_later}
use Rattle.view_laws.proofs.Moments.{passes_covers, sound_now, event_now}
use Rattle.view_laws.proofs.Numbered.{among_map}
use Rattle.view_laws.proofs.Readings.{read_at}
use Rattle.view_laws.proofs.Ended.{asked_live, view_live}
use Rattle.view_laws.proofs.Seen.{Copier, copied_since, is_older, newer_seen, same_seen, seen_from, seen_taken}
use Rattle.view_laws.proofs.Seen.{source_of}
use Rattle.follow_laws.proofs.Tabled.{table_then, tables_stay_known}
use Rattle.view_laws.proofs.Unmoved.{since, syncs_are, view_then}
use Rattle.view_laws.proofs.Viewed.{seen_now}
use Rattle.follow_laws.proofs.Synced.{Reading, Syncing, held_at, same_rows, sync_leads, sync_of, synced_of}
use Rattle.follow_laws.proofs.Synced.{synced_table}
use Rattle.view_laws.proofs.Tables.{KnownTable, held_then, known_within, one_table, table_of}
use Rattle.view_laws.proofs.Tables.{table_origin}
use Rattle.view_laws.proofs.Copied.{CopySource, FromForwarder, FromOrigin, copy_asks, enables_feeds, feeder_is}
use Rattle.view_laws.proofs.Copied.{feeder_leads}
use Rattle.view_laws.proofs.Copied.{seen_leads}
use Rattle.view_laws.proofs.Agreeing.{known_there, table_known}
use Rattle.slon_laws.specs.Worlds.{AllPlaces}
use Rattle.std.proofs.lemmas.Simd.{map-map}
use Rattle.net_relation.proofs.Providing.{event_seat, event_seat_is}
use Rattle.follow_laws.proofs.Given.{Follow, synced_same}

-- ---- what a table is filled with by an event

-- An event that a node of the session applies.
pub record Taking (t : Past) : Type 0 where
  pub carried : Carried
  pub origin : ℕ
  pub is : IsTaken t origin carried
  -- what held before, and of all databases of the sessions before
  pub filled : AreFilled (WasBefore t) carried.seat.place
  pub knew : (s : Past) → PastUpTo t s → AllPlaces (AreFilled (WasBefore s)) s.world

-- the node and the database behind it
abbrev pub node_then : {t : Past} → Taking t → Node
node_then k = with_deeds (taking k.carried).deeds k.carried.seat.node

abbrev pub place_then : {t : Past} → Taking t → Place
place_then k = committing (taking k.carried) k.carried.seat.place

-- the table is filled so behind it
abbrev pub FilledThen : {t : Past} → Taking t → ℕ × TableRow → View → Type 0
FilledThen {t} k e v = IsFilled (WasUpTo t) (place_then k) (node_then k) e.1.set_id v e.1.name

-- what it is filled with
filling_then : (t : Past) (k : Taking t) (table : List ℕ) →
    filling_of table (place_then k).fillings
    ≡ filling_by k.carried.seat.place (filling_of table k.carried.seat.place.fillings)
    (find_named table k.carried.brought.rows)
filling_then t k table =
    filling_filled k.carried.seat.place k.carried.brought.rows k.carried.seat.place.fillings table
    k.is.unwritten

-- no action is behind it
before_then : (t : Past) (k : Taking t) (table : List ℕ) →
    AreBefore table (filling_of table k.carried.seat.place.fillings).first k.carried.seat.place.actions →
    AreBefore table (filling_of table (place_then k).fillings).first (place_then k).actions
before_then t k table before =
    subst (λ (f : Filling). AreBefore table f.first p.actions) (sym (filling_then t k table))
    (by (find_named table k.carried.brought.rows))
  where
    p : Place
    p = k.carried.seat.place

    sound : Sound p
    sound = sound_now t k.carried.seat.name p k.is.work.seat.found

    by : (o : Option Rows) → AreBefore table (filling_by p (filling_of table p.fillings) o).first p.actions
    by None = before
    by (Some rows) =
        all_map (λ a. a.number < p.numbers.next) (λ a. bytes_eq table a.table ≡ true → a.number < p.numbers.next)
        (λ a below on. below) p.actions sound.numbered

-- and its rows are the content of the table behind what is brought
rows_then : (t : Past) (k : Taking t) (table : List ℕ) →
    AreBefore table (filling_of table k.carried.seat.place.fillings).first k.carried.seat.place.actions →
    (filling_of table (place_then k).fillings).rows ≡ content k.carried.seat.place k.carried.brought.rows table
rows_then t k table before =
    ap (λ (f : Filling). f.rows) (filling_then t k table) ∙ by (find_named table k.carried.brought.rows)
  where
    p : Place
    p = k.carried.seat.place

    by : (o : Option Rows) →
        (filling_by p (filling_of table p.fillings) o).rows ≡ unwrap_or o (standing_rows p table)
    by None = sym (filled_stands p table before)
    by (Some rows) = refl

-- a table that the node kept before
pub was_filled : (t : Past) (k : Taking t) (e : ℕ × TableRow) →
    IsAmong e (knowledge k.carried.seat.node).config.tables →
    (v : View) → view_of e.1.set_id (knowledge k.carried.seat.node) ≡ Some v →
    IsFilled (WasUpTo t) k.carried.seat.place k.carried.seat.node e.1.set_id v e.1.name
was_filled t k e among v found =
    filled_later t k.carried.seat.place k.carried.seat.node e.1.set_id v e.1.name
    (k.filled k.carried.seat.node k.is.work.seat.node e among v found)

-- where the content is as before, and the node keeps the set
pub still_filled : (t : Past) (k : Taking t) (e : ℕ × TableRow) →
    IsAmong e (knowledge k.carried.seat.node).config.tables →
    (v : View) → view_of e.1.set_id (knowledge k.carried.seat.node) ≡ Some v →
    (content k.carried.seat.place k.carried.brought.rows e.1.name ≡ standing_rows k.carried.seat.place e.1.name)
    × (leaves e.1.set_id k.carried.seat.node.id k.carried.event.body ≡ false) → FilledThen k e v
still_filled t k e among v found (same, stays) =
    let f = was_filled t k e among v found in
    record {
      seen = seen_taken t k.carried e.1.set_id v stays f.seen;
      rows =
          rows_then t k e.1.name f.before ∙ same ∙ filled_stands k.carried.seat.place e.1.name f.before ∙ f.rows;
      before = before_then t k e.1.name f.before;
    }

-- ---- a copy

-- a set is copied with the event of a new subscription
pub copy_body : (own : ℕ) (receives : Bool) (origin : ℕ) (body : Body) (c : Copying) →
    errand_in own receives origin body ≡ Some (ToCopy c) → (d : Config) (number : ℕ) →
    (change_by origin number body d).tables ≡ d.tables
copy_body own receives origin (EnableSubscription set provider receiver forward era) c asked d number = refl
copy_body own receives origin Sync c asked d number = refl
copy_body own receives origin others c asked d number = absurd cc

-- the node that leads a set that is copied
copy_leader : (t : Past) (s : Seat) (e : Event) (b : Brought) (c : IsCopied t s e b) →
    (leader : Leading (nodes_in t.world.places) c.copy.copying.set_id) × (leader.node.id ≡ e.origin)
copy_leader t s e b c =
    let set = c.copy.copying.set_id in
    let y : IsEvent (nodes_in t.world.places) e =
    event_now t e (record { session = c.at.to.world; was = was_then c.at; is = c.at.work.event }) in (
      record {
        name = y.name;
        node = y.node;
        is = y.is;
        leads =
            feeder_leads t e y set (enables_feeds set c.at.seat.node.id e.body
            (copy_asks c.at.to.world c.at.seat e c.found c.copy));
      },
      y.own,
    )

-- A copy of a set that a node makes with the event.
abbrev Copies : {t : Past} → Taking t → Type 0
Copies {t} k = IsCopied t k.carried.seat k.carried.event k.carried.brought

-- the node that copies the set does not lead it, so it copies all tables of the set that it knows
names_are : (t : Past) (k : Taking t) (c : Copies k) → names_taken c.at.seat c.copy.copying.set_id
    ≡ names_of c.copy.copying.set_id (knowledge c.at.seat.node).config
names_are t k c =
    ap (λ (j : Knowledge). map (λ (u : ℕ × List ℕ). u.1) (tables_taken n.id set j.config)) c.at.work.seat.known
    ∙ ap (λ b. map (λ (u : ℕ × List ℕ). u.1) (cond b [] (map entry (tables_of set (knowledge n).config)))) other
    ∙ map-map (λ (u : ℕ × List ℕ). u.1) entry (tables_of set (knowledge n).config)
  where
    n : Node
    n = c.at.seat.node

    set : ℕ
    set = c.copy.copying.set_id

    entry : ℕ × TableRow → ℕ × List ℕ
    entry e = (e.0, e.1.name)

    other : is_origin n.id set (knowledge n).config ≡ false
    other =
        false_from_ne_true _ (λ leads. c.at.work.other (sym (feeder_is c.at.to k.carried.event c.at.work.event set
        (enables_feeds set n.id k.carried.event.body (copy_asks c.at.to.world c.at.seat k.carried.event c.found c.copy))
        c.at.seat c.at.work.seat (origin_row n.id set (knowledge n).config leads) ∙ c.at.work.event.own)))

-- A table of the set, which the node knows.
record CopiedTable (t : Past) (k : Taking t) (c : Copies k) : Type 0 where
  entry : ℕ × TableRow
  among : IsAmong entry (knowledge k.carried.seat.node).config.tables
  same : entry.1.set_id ≡ c.copy.copying.set_id

abbrev known_copied : {t : Past} {k : Taking t} {c : Copies k} → CopiedTable t k c → KnownTable t
known_copied {t} {k} e =
    record {
      name = k.carried.seat.name;
      node = k.carried.seat.node;
      is = seat_node t.world.places k.carried.seat k.is.work.seat;
      entry = e.entry;
      among = e.among;
    }

-- the set has not ended
copied_live : (t : Past) (k : Taking t) (c : Copies k) (e : CopiedTable t k c) →
    is_some (set_row e.entry.1.set_id (knowledge k.carried.seat.node).config) ≡ true
copied_live t k c e =
    asked_live t (record {
      name = k.carried.seat.name;
      node = k.carried.seat.node;
      is = seat_node t.world.places k.carried.seat k.is.work.seat;
      set_id = e.entry.1.set_id;
      event = k.carried.event;
      from = k.is.work.event;
      enables =
          subst (λ i. enables i k.carried.seat.node.id k.carried.event.body ≡ true) (sym e.same)
          (subst (λ id. enables c.copy.copying.set_id id k.carried.event.body ≡ true)
          (same_id t k.carried.seat k.carried.event c.at k.is.work.seat)
          (copy_asks c.at.to.world c.at.seat k.carried.event c.found c.copy));
      next = k.is.work.next;
    }) (set_known t (known_copied e))

-- the node knew it as it copied the set
table_was : (t : Past) (k : Taking t) (c : Copies k) (e : CopiedTable t k c) →
    IsAmong e.entry (knowledge c.at.seat.node).config.tables
table_was t k c e =
    table_then t (since k.origin k.carried k.is c.at) e.entry e.among (copied_live t k c e)
    (subst (λ i. (leader : Leading (nodes_in t.world.places) i) × (leader.node.id ≡ k.carried.event.origin))
    (sym e.same) (copy_leader t k.carried.seat k.carried.event k.carried.brought c))

-- what stood in the table at the provider comes
copy_rows : (t : Past) (k : Taking t) (c : Copies k) (e : CopiedTable t k c) →
    filling_of e.entry.1.name (place_then k).fillings ≡ record {
      first = k.carried.seat.place.numbers.next;
      rows = standing_rows c.copy.provider.place e.entry.1.name;
    }
copy_rows t k c e =
    filling_then t k table
    ∙ ap (filling_by k.carried.seat.place (filling_of table k.carried.seat.place.fillings))
    (ap (λ (b : Brought). find_named table b.rows) c.is
    ∙ rows_found c.copy.provider.place table (names_taken c.at.seat set) named)
  where
    table : List ℕ
    table = e.entry.1.name

    set : ℕ
    set = c.copy.copying.set_id

    known : KnownTable t
    known = known_copied e

    live : e.entry.1.live ≡ true
    live = (whole_now t known.name known.node known.is).live e.entry e.among (copied_live t k c e)

    named : IsAmong table (names_taken c.at.seat set)
    named =
        subst (IsAmong table) (sym (names_are t k c))
        (among_map (λ (f : ℕ × TableRow). f.1.name) e.entry (tables_of set (knowledge c.at.seat.node).config)
        (among_filtered (is_table_of set) e.entry (knowledge c.at.seat.node).config.tables (table_was t k c e)
        (and_from e.entry.1.live (e.entry.1.set_id == set) live
        (eq-eqb e.entry.1.set_id set e.same))))

-- a provider that keeps the set has the table, filled with what it held at the origin
provider_filled : (t : Past) (k : Taking t) (c : Copies k) (e : CopiedTable t k c) → (v : View) →
    view_of c.copy.copying.set_id (knowledge c.copy.provider.node) ≡ Some v →
    IsFilled (WasUpTo c.at.to) c.copy.provider.place c.copy.provider.node c.copy.copying.set_id v e.entry.1.name
provider_filled t k c e v found =
    subst (IsFilled (WasUpTo u) p.place p.node set v) (sym there.3)
    (subst (λ i. IsFilled (WasUpTo u) p.place p.node i v there.0.1.name) there.2
    (filled_later u p.place p.node there.0.1.set_id v there.0.1.name
    (all_found (AreFilled (WasBefore u)) p.name p.place u.world.places (k.knew u c.at.within) seat.found p.node
    seat.node there.0 there.1 v (ap (λ i. view_of i (knowledge p.node)) there.2 ∙ found))))
  where
    u : Past
    u = c.at.to

    p : Seat
    p = c.copy.provider

    set : ℕ
    set = c.copy.copying.set_id

    seat : IsSeat u.world.places p
    seat = c.copy.reached.0.0.0

    at : nodes_in u.world.places p.name ≡ Some p.node
    at = seat_node u.world.places p seat

    known : KnownTable u
    known = record {
      name = c.at.seat.name;
      node = c.at.seat.node;
      is = seat_node u.world.places c.at.seat c.at.work.seat;
      entry = e.entry;
      among = table_was t k c e;
    }

    y : IsEvent (nodes_in u.world.places) k.carried.event
    y = c.at.work.event

    -- the provider is no less far in the stream of the origin than the node
    origin : (table_of u known).event.origin ≡ k.carried.event.origin
    origin =
        let seen = seen_now u p.name p.node at set v found in
        table_origin u (table_of u known) p.node v (subst (λ i. IsSeen (WasUpTo u) p.node i v) (sym e.same) seen)
        ∙ seen_leads u p.node set v seen (record {
          name = y.name;
          node = y.node;
          is = y.is;
          leads =
              feeder_leads u k.carried.event y set (enables_feeds set c.at.seat.node.id k.carried.event.body
              (copy_asks u.world c.at.seat k.carried.event c.found c.copy));
        }) ∙ y.own

    within : (table_of u known).event.number ≤ progress (table_of u known).event.origin (knowledge c.at.seat.node) →
        (table_of u known).event.number ≤ progress (table_of u known).event.origin (knowledge p.node)
    within less =
        let next = c.at.work.next in
        let far = c.copy.reached.1 in
        let here = ap (λ i. progress i (knowledge c.at.seat.node)) origin in
        let there = ap (λ i. progress i (knowledge p.node)) origin in
        omega (arith, less, next, far, here, there)

    live : is_some (entry_at e.entry.1.set_id (knowledge p.node).config.sets) ≡ true →
        is_some (set_row e.entry.1.set_id (knowledge p.node).config) ≡ true
    live =
        subst (λ i. is_some (entry_at i (knowledge p.node).config.sets) ≡ true →
        is_some (set_row i (knowledge p.node).config) ≡ true) (sym e.same) (view_live u (record {
          name = p.name;
          node = p.node;
          is = at;
          set_id = set;
          view = v;
          seen = seen_now u p.name p.node at set v found;
        }))

    named : IsAmong e.entry.1.name (names_of set (knowledge p.node).config)
    named =
        subst (λ i. IsAmong e.entry.1.name (names_of i (knowledge p.node).config)) e.same
        (known_there u known p.name p.node at (within (known_within u known)) live)

    there : (f : ℕ × TableRow) × IsAmong f (knowledge p.node).config.tables × (f.1.set_id ≡ set)
        × (e.entry.1.name ≡ f.1.name)
    there = table_known set (knowledge p.node).config e.entry.1.name named

-- the copy, with what is known of its provider by the table
abbrev copier_of : (t : Past) (k : Taking t) (c : Copies k) → CopiedTable t k c → Copier t
copier_of t k c e =
    record {
      seat = k.carried.seat;
      event = k.carried.event;
      brought = k.carried.brought;
      is = k.is.work.seat;
      copied = c;
      seen = λ v found. (provider_filled t k c e v found).seen;
      node = node_then k;
      id = refl;
      applied = inl refl;
      since = copied_since t k.carried k.origin k.is c;
    }

-- a table of the set that is copied
pub copy_filled : (t : Past) (k : Taking t) (c : Copies k) (e : ℕ × TableRow) →
    IsAmong e (knowledge k.carried.seat.node).config.tables → e.1.set_id ≡ c.copy.copying.set_id →
    IsFilled (WasUpTo t) (place_then k) (node_then k) c.copy.copying.set_id (copied_view c.copy) e.1.name
copy_filled t k c e among same = by (source_of (copier_of t k c table))
  where
    table : CopiedTable t k c
    table = record { entry = e; among = among; same = same }

    p : Place
    p = k.carried.seat.place

    before : AreBefore e.1.name (filling_of e.1.name (place_then k).fillings).first p.actions
    before =
        subst (λ (f : Filling). AreBefore e.1.name f.first p.actions) (sym (copy_rows t k c table))
        (all_map (λ a. a.number < p.numbers.next) (λ a. bytes_eq e.1.name a.table ≡ true → a.number < p.numbers.next)
        (λ a below on. below) p.actions (sound_now t k.carried.seat.name p k.is.work.seat.found).numbered)

    rows : (filling_of e.1.name (place_then k).fillings).rows ≡ standing_rows c.copy.provider.place e.1.name
    rows = ap (λ (f : Filling). f.rows) (copy_rows t k c table)

    by : CopySource c.copy.copying c.copy.provider c.copy.seen →
        IsFilled (WasUpTo t) (place_then k) (node_then k) c.copy.copying.set_id (copied_view c.copy) e.1.name
    by (FromOrigin leads era seen) = record {
      seen = seen_from t (copier_of t k c table) (FromOrigin leads era seen);
      rows = rows;
      before = before;
    }
    by (FromForwarder v found era forward seen) =
        let given = provider_filled t k c table v found in
        record {
          seen = seen_from t (copier_of t k c table) (FromForwarder v found era forward seen);
          rows = rows ∙ filled_stands c.copy.provider.place e.1.name given.before ∙ given.rows;
          before = before;
        }

-- a table of another set
pub copy_beside : (t : Past) (k : Taking t) (c : Copies k) (e : ℕ × TableRow) →
    IsAmong e (knowledge k.carried.seat.node).config.tables → e.1.set_id ≢ c.copy.copying.set_id →
    content k.carried.seat.place k.carried.brought.rows e.1.name ≡ standing_rows k.carried.seat.place e.1.name
copy_beside t k c e among apart =
    ap (λ o. unwrap_or o (standing_rows k.carried.seat.place e.1.name))
    (ap (λ (b : Brought). find_named e.1.name b.rows) c.is
    ∙ rows_none c.copy.provider.place e.1.name (names_taken then set)
    (subst (AllByRecursion (λ name. bytes_eq e.1.name name ≡ false)) (sym (names_are t k c))
    (all_mapped (λ (f : ℕ × TableRow). bytes_eq e.1.name f.1.name ≡ false) (λ name. bytes_eq e.1.name name ≡ false)
    (λ f. f.1.name) (λ f is. is) (tables_of set c0)
    (all_passed (λ f. IsAmong f c0.tables) (λ f. bytes_eq e.1.name f.1.name ≡ false) (is_table_of set) other c0.tables
    (among_all (λ f. IsAmong f c0.tables) c0.tables (λ f among. among))))))
  where
    set : ℕ
    set = c.copy.copying.set_id

    then : Seat
    then = c.at.seat

    c0 : Config
    c0 = (knowledge then.node).config

    own : nodes_in t.world.places k.carried.seat.name ≡ Some k.carried.seat.node
    own = seat_node t.world.places k.carried.seat k.is.work.seat

    known : (f : ℕ × TableRow) → IsAmong f (knowledge k.carried.seat.node).config.tables → KnownTable t
    known f among =
        record { name = k.carried.seat.name; node = k.carried.seat.node; is = own; entry = f; among = among }

    other : (f : ℕ × TableRow) → IsAmong f c0.tables → is_table_of set f ≡ true → bytes_eq e.1.name f.1.name ≡ false
    other f there on =
        let like = still_like f (knowledge k.carried.seat.node).config
        (tables_stay_known t k.carried.seat k.carried.event c.at k.is.work.seat f there) in
        false_from_ne_true _ (λ same. apart ((one_table t (table_of t (known e among))
        (table_of t (known like.entry like.among)) (bytes_same e.1.name f.1.name same ∙ sym like.name)).0
        ∙ like.set_id ∙ eqb-true f.1.set_id set (and_parts f.1.live (f.1.set_id == set) on).1))

-- ---- a SYNC

-- what the node followed, as it found that
abbrev follow_of : (t : Past) (k : Taking t) (y : IsSynced t k.carried.seat k.carried.event k.carried.brought) →
    Follow y.at.to
follow_of t k y =
    record {
      origin = y.at.origin;
      seat = y.at.seat;
      event = k.carried.event;
      work = y.at.work;
      read = y.found;
      follows = y.follows;
    }

-- what is read beside a table that the node knows
abbrev pub reading : (t : Past) (k : Taking t) → IsSynced t k.carried.seat k.carried.event k.carried.brought →
    (e : ℕ × TableRow) → IsAmong e (knowledge k.carried.seat.node).config.tables → Reading t
reading t k y e among =
    record {
      table = record {
        name = k.carried.seat.name;
        node = k.carried.seat.node;
        is = seat_node t.world.places k.carried.seat k.is.work.seat;
        entry = e;
        among = among;
      };
      own = y.at.seat.node.id;
      known = knowledge y.at.seat.node;
      later = λ f there. still_like f (knowledge k.carried.seat.node).config
          (tables_stay_known t k.carried.seat k.carried.event y.at k.is.work.seat f there);
      event = k.carried.event;
      log = logged y.at.work.event.node;
    }

-- the sets of the origin that the node keeps
abbrev pub kept_then : (t : Past) (k : Taking t) → IsSynced t k.carried.seat k.carried.event k.carried.brought →
    Map View
kept_then t k y = kept_from k.carried.event.origin (knowledge y.at.seat.node)

-- the content of a table behind it
pub sync_content : (t : Past) (k : Taking t) (y : IsSynced t k.carried.seat k.carried.event k.carried.brought)
    (table : List ℕ) →
    content k.carried.seat.place k.carried.brought.rows table
    ≡ synced table (map (set_sync y.at.seat.node.id (knowledge y.at.seat.node) k.carried.event
    (logged y.at.work.event.node)) (kept_then t k y)) (standing_rows k.carried.seat.place table)
sync_content t k y table =
    ap (λ (b : Brought). content here b.rows table) y.is
    ∙ ap (λ ts. content here (with_syncs here ts nothing_brought).rows table)
    (syncs_are t k.origin k.carried k.is y)
    ∙ content_syncs here table y.follows.syncs nothing_brought
    ∙ synced_same y.at.to (follow_of t k y) table (standing_rows here table)
  where
    here : Place
    here = k.carried.seat.place

-- a table of a set of its origin
pub sync_filled : (t : Past) (k : Taking t) (y : IsSynced t k.carried.seat k.carried.event k.carried.brought)
    (e : ℕ × TableRow) (among : IsAmong e (knowledge k.carried.seat.node).config.tables) (v : View) →
    view_of e.1.set_id (knowledge k.carried.seat.node) ≡ Some v → v.origin ≡ k.carried.event.origin →
    FilledThen k e (view_after k.carried.event v)
sync_filled t k y e among v found from = by (covers v.seen event.taken) refl
  where
    event : Event
    event = k.carried.event

    then : Past
    then = y.at.to

    n : Node
    n = y.at.seat.node

    own : nodes_in then.world.places y.at.seat.name ≡ Some n
    own = seat_node then.world.places y.at.seat y.at.work.seat

    was : IsFilled (WasUpTo t) k.carried.seat.place k.carried.seat.node e.1.set_id v e.1.name
    was = was_filled t k e among v found

    here : nodes_in t.world.places k.carried.seat.name ≡ Some k.carried.seat.node
    here = seat_node t.world.places k.carried.seat k.is.work.seat

    live : is_some (set_row e.1.set_id (knowledge k.carried.seat.node).config) ≡ true
    live =
        view_live t (record {
          name = k.carried.seat.name;
          node = k.carried.seat.node;
          is = here;
          set_id = e.1.set_id;
          view = v;
          seen = was.seen;
        }) (set_known t (reading t k y e among).table)

    -- the origin of the set
    leader : (x : Leading (nodes_in t.world.places) e.1.set_id) × (x.node.id ≡ was.seen.moment.node.id)
    leader = leading_now t was.seen.moment e.1.set_id was.seen.leads

    -- the view and the table, as the log was read
    found_then : view_of e.1.set_id (knowledge n) ≡ Some v
    found_then = view_then t (since k.origin k.carried k.is y.at) e.1.set_id v found from

    among_then : IsAmong e (knowledge n).config.tables
    among_then =
        table_then t (since k.origin k.carried k.is y.at) e among live (leader.0, leader.1 ∙ was.seen.own ∙ from)

    z : Syncing then
    z = record {
      seat = y.at.seat;
      event = event;
      is = y.at.work.seat;
      source = event_seat then y.at.work.event;
      there = event_seat_is then y.at.work.event;
      led = y.at.work.event.own;
      from = y.at.work.event;
      sync = ap is_sync y.follows.body;
      next = y.at.work.next;
      entry = e;
      among = among_then;
      view = v;
      found = found_then;
      seen = seen_now then y.at.seat.name n own e.1.set_id v found_then;
    }

    stays : leaves e.1.set_id k.carried.seat.node.id event.body ≡ false
    stays = ap (leaves e.1.set_id k.carried.seat.node.id) y.follows.body

    actions : List Action
    actions = actions_on e.1.name (sync_of z (e.1.set_id, v)).rows

    known : KnownTable t
    known = (reading t k y e among).table

    held : IsHeldBy z.seen.moment.node.id (knowledge z.seen.moment.node).config e.1.set_id e.1.name
    held = held_then then (synced_table z) v z.seen

    -- what the table held at the origin at the two moments with the snapshot of the view
    same : standing_rows was.seen.moment.place e.1.name ≡ standing_rows z.seen.moment.place e.1.name
    same =
        same_rows t e.1.set_id e.1.name v (held_at t known v was.seen) (record {
          moment = moment_of (WasUpTo then) (WasUpTo t) (earlier y.at) z.seen.moment;
          own = z.seen.own;
          seen = z.seen.seen;
          era = z.seen.era;
          held = held;
        })

    -- its rows are those of before with what was taken
    now : (filling_of e.1.name (place_then k).fillings).rows
        ≡ applied actions (standing_rows was.seen.moment.place e.1.name)
    now =
        rows_then t k e.1.name was.before ∙ sync_content t k y e.1.name
        ∙ synced_of then z from (standing_rows k.carried.seat.place e.1.name)
        ∙ ap (applied actions) (filled_stands k.carried.seat.place e.1.name was.before ∙ was.rows)

    by : (b : Bool) → covers v.seen event.taken ≡ b →
        FilledThen k e (record v { number = event.number; seen = cond b v.seen event.taken })
    by true covered = record {
      seen = same_seen (WasUpTo t) (node_then k) e.1.set_id v event.number
          (seen_taken t k.carried e.1.set_id v stays was.seen);
      rows =
          now ∙ ap (λ ls. applied (actions_on e.1.name ls) (standing_rows was.seen.moment.place e.1.name))
          (covered_none event.origin _ v.seen event.taken (logged y.at.work.event.node)
          (passes_covers v.seen event.taken covered));
      before = before_then t k e.1.name was.before;
    }
    by false differ =
        let a = read_at then (more_of z from differ) in
        let emitted_now : IsEmitted (WasUpTo t) event = record {
          moment = moment_of (WasUpTo then) (WasUpTo t) (earlier y.at) a.at.moment;
          own = a.at.own;
          taken = a.at.taken;
          leads = (sync_emitted then event z.sync a.at).leads;
        } in
        let later = is_older t k.carried.seat.node e.1.set_id v event (emitted_now, sym from) was.seen differ in
        record {
          seen = newer_seen (WasUpTo t) (node_then k) e.1.set_id v event (emitted_now, sym from)
              (seen_taken t k.carried e.1.set_id v stays was.seen)
              (later, (a.held.1, a.era ∙ sym z.seen.era ∙ was.seen.era));
          rows = now ∙ ap (applied actions) same ∙ sync_leads then z from differ;
          before = before_then t k e.1.name was.before;
        }
