-- A node that keeps a set knows the tables that the origin has in it, unless it is to give the set up soon.
use Rattle.std.proofs.Common.{◌≡◌, ◌⊎◌, inl, inr, ℕ, ◌<◌, ◌≤◌, true, List, Option, Some, None, refl}
use Rattle.std.proofs.Common.{sym, ap, subst, ◌∙◌, arith}
use Rattle.std.specs.Prelude.{◌==◌, ◌&&◌, is_some, option_map}
use Rattle.std.specs.Str.{bytes_eq}
use Rattle.std.proofs.lemmas.Bool.{and_from, and_parts, eq-eqb, eqb-true}
use Rattle.node_rows.specs.declared.rows.TableRow.{TableRow}
use Rattle.slon_model.specs.Config.{Config, is_table_of, member_of, names_of, set_of, set_row, tables_of}
use Rattle.slon_model.specs.Deeds.{Node, knowledge, progress, stream, view_of}
use Rattle.slon_model.specs.Views.{View}
use Rattle.slon_model.specs.Events.{Event}
use Rattle.slon_model.specs.Maps.{entry_at, number_at}
use Rattle.slon_model.proofs.Names.{bytes_itself, bytes_same, one_found}
use Rattle.stream_laws.specs.Nodes.{IsAmong, IsEvent, nodes_in, node_in}
use Rattle.stream_laws.specs.Making.{OfName, tells_of}
use Rattle.stream_laws.proofs.Laws.{marks_are_made_once}
use Rattle.stream_laws.proofs.Lists.{among_all, any_among, found_all}
use Rattle.stream_laws.proofs.Streams.{among_found, one_node}
use Rattle.image_laws.specs.Facts.{IsHeldBy}
use Rattle.image_laws.proofs.Logging.{among_filtered, filtered_among}
use Rattle.view_laws.specs.Known.{IsSeen, adds as adds_to, leaves}
use Rattle.view_laws.specs.Laws.{IsEnding, IsLeaving, TablesAgree}
use Rattle.view_laws.proofs.Copied.{live_or_over}
use Rattle.view_laws.proofs.Ended.{ending_at, view_live}
use Rattle.view_laws.specs.Past.{Past, past, WasUpTo}
use Rattle.view_laws.proofs.Viewed.{seen_now}
use Rattle.view_laws.proofs.Lasting.{Between}
use Rattle.view_laws.proofs.Standing.{Viewer, added_or_left, left_later, viewer_event, viewer_far, viewer_other}
use Rattle.view_laws.proofs.Moments.{regular_now, NodeAt, now_stays}
use Rattle.view_laws.proofs.Numbered.{among_map, mapped_among}
use Rattle.view_laws.proofs.Tables.{KnownTable, Table, one_table, table_of, held_today, held_then}
use Rattle.view_laws.proofs.Tables.{moment_today, set_known, table_origin, whole_now}
use Rattle.slon_laws.proofs.Later.{HoldsOf}
use Rattle.image_laws.proofs.Staying.{IsOver, Stays}

-- a table of a set is a known one
pub table_known : (set : ℕ) (c : Config) (table : List ℕ) → IsAmong table (names_of set c) →
    (e : ℕ × TableRow) × IsAmong e c.tables × (e.1.set_id ≡ set) × (table ≡ e.1.name)
table_known set c table among =
    let made = mapped_among (λ (e : ℕ × TableRow). e.1.name) table (tables_of set c) among in
    let there = filtered_among (is_table_of set) made.0 c.tables made.1 in
    (made.0, there.0, eqb-true made.0.1.set_id set (and_parts made.0.1.live (made.0.1.set_id == set) there.1).1, made.2)

-- a table that is found in a set is known in it
pub member_known : (table : List ℕ) (c : Config) (set : ℕ) → set_of table c ≡ Some set →
    (e : ℕ × TableRow) × IsAmong e c.tables × (e.1.set_id ≡ set) × (table ≡ e.1.name)
member_known table c set is = by (member_of table c) refl is
  where
    by : (o : Option (ℕ × TableRow)) → member_of table c ≡ o → option_map (λ e. e.1.set_id) o ≡ Some set →
        (e : ℕ × TableRow) × IsAmong e c.tables × (e.1.set_id ≡ set) × (table ≡ e.1.name)
    by None found none = absurd cc
    by (Some e) found some =
        let both = found_all (λ e. IsAmong e c.tables) _ c.tables e
        (among_all (λ e. IsAmong e c.tables) c.tables (λ e among. among)) found in
        let named = (and_parts (e.1.live && bytes_eq table e.1.name) (is_some (set_row e.1.set_id c)) both.1).0 in (
          e,
          both.0,
          one_found e.1.set_id set some,
          bytes_same table e.1.name (and_parts e.1.live (bytes_eq table e.1.name) named).1,
        )

-- a node that is as far as the event of a table that another one knows, knows it too, if it has the set as live
pub known_there : (t : Past) (k : KnownTable t) (name : List ℕ) (n : Node) → nodes_in t.world.places name ≡ Some n →
    (table_of t k).event.number ≤ progress (table_of t k).event.origin (knowledge n) →
    (is_some (entry_at k.entry.1.set_id (knowledge n).config.sets) ≡ true →
    is_some (set_row k.entry.1.set_id (knowledge n).config) ≡ true) →
    IsAmong k.entry.1.name (names_of k.entry.1.set_id (knowledge n).config)
known_there t k name n is within live =
    subst (λ text. IsAmong text (names_of set (knowledge n).config)) (sym named)
    (among_map (λ (e : ℕ × TableRow). e.1.name) mark.0 (tables_of set (knowledge n).config)
    (among_filtered (is_table_of set) mark.0 (knowledge n).config.tables mark.1
    (and_from mark.0.1.live (mark.0.1.set_id == set)
    ((whole_now t name n is).live mark.0 mark.1 (subst (λ i. is_some (set_row i (knowledge n).config) ≡ true)
    (sym one_set) (live (subst (λ i. is_some (entry_at i (knowledge n).config.sets) ≡ true) one_set
    (set_known t other))))) (eq-eqb mark.0.1.set_id set one_set))))
  where
    set : ℕ
    set = k.entry.1.set_id

    table : Table t
    table = table_of t k

    mark : (f : ℕ × TableRow) × IsAmong f (knowledge n).config.tables × (bytes_eq k.entry.1.name f.1.name ≡ true)
    mark =
        any_among (λ f. bytes_eq k.entry.1.name f.1.name) (knowledge n).config.tables
        ((marks_are_made_once t.limit t.history t.world t.leads).known name n is (OfName k.entry.1.name) (record {
          made = record {
            name = table.is.name;
            node = table.is.node;
            is = table.is.is;
            event = table.event;
            among = table.is.among;
            makes =
                ap (λ body. tells_of body (OfName k.entry.1.name)) table.body ∙ bytes_itself k.entry.1.name;
          };
          within =
              subst (λ id. table.event.number ≤ number_at id (knowledge n).progress) (sym table.is.own) within;
        }))

    named : k.entry.1.name ≡ mark.0.1.name
    named = bytes_same k.entry.1.name mark.0.1.name mark.2

    other : KnownTable t
    other = record { name = name; node = n; is = is; entry = mark.0; among = mark.1 }

    one_set : mark.0.1.set_id ≡ set
    one_set = (one_table t (table_of t other) table (sym named)).0

-- A table of a set that a node keeps: the node knows it, or has not applied yet that it is to give the set up, which
-- the origin had told it before the table came into the set.
pub table_or_left : (t : Past) (k : KnownTable t) (v : Viewer t) → v.set_id ≡ k.entry.1.set_id →
    IsAmong k.entry.1.name (names_of k.entry.1.set_id (knowledge v.node).config)
    ⊎ Between (leaves v.set_id v.node.id) (stream (viewer_event t v).node) v.seen.enabled (table_of t k).event
table_or_left t k v same = by (added_or_left t v table.event table.is (origin, adds))
  where
    table : Table t
    table = table_of t k

    origin : table.event.origin ≡ v.view.origin
    origin = table_origin t table v.node v.view (subst (λ i. IsSeen (WasUpTo t) v.node i v.view) same v.seen)

    adds : adds_to v.set_id table.event.body ≡ true
    adds = ap (adds_to v.set_id) table.body ∙ eq-eqb k.entry.1.set_id v.set_id (sym same)

    by : (table.event.number < v.seen.enabled.number)
        ⊎ Between (leaves v.set_id v.node.id) (stream (viewer_event t v).node) v.seen.enabled table.event →
        IsAmong k.entry.1.name (names_of k.entry.1.set_id (knowledge v.node).config)
        ⊎ Between (leaves v.set_id v.node.id) (stream (viewer_event t v).node) v.seen.enabled table.event
    by (inl less) =
        inl (known_there t k v.name v.node v.is
        (subst (λ i. table.event.number ≤ progress i (knowledge v.node)) (sym origin)
        (let far = viewer_far t v in omega (arith, less, far)))
        (subst (λ i. is_some (entry_at i (knowledge v.node).config.sets) ≡ true →
        is_some (set_row i (knowledge v.node).config) ≡ true) same (view_live t v)))
    by (inr left) = inr left

-- the origin of a set that a node keeps has each table in the set that the node knows, or has ended the set
origin_holds : (t : Past) (k : KnownTable t) (v : View) → view_of k.entry.1.set_id (knowledge k.node) ≡ Some v →
    (x : NodeAt t) → x.node.id ≡ v.origin →
    IsHeldBy x.node.id (knowledge x.node).config k.entry.1.set_id k.entry.1.name
    ⊎ IsEnding k.entry.1.set_id k.node x.node
origin_holds t k v found x own = by (live_or_over set (knowledge x.node).config)
  where
    set : ℕ
    set = k.entry.1.set_id

    seen : IsSeen (WasUpTo t) k.node k.entry.1.set_id v
    seen = seen_now t k.name k.node k.is k.entry.1.set_id v found

    now : HoldsOf (Stays seen.moment.node) seen.moment.name t.world.places
    now = now_stays t seen.moment.session seen.moment.was seen.moment.name seen.moment.place seen.moment.node
        seen.moment.found seen.moment.at

    one : now.2.node ≡ x.node
    one = one_node (nodes_in t.world.places) (regular_now t).nodes seen.moment.name x.name now.2.node x.node
        (ap node_in now.1 ∙ now.2.is) (ap node_in x.found ∙ x.at, now.2.id ∙ seen.own ∙ sym own)

    by : (is_some (set_row set (knowledge x.node).config) ≡ true) ⊎ IsOver set (knowledge x.node).config →
        IsHeldBy x.node.id (knowledge x.node).config set k.entry.1.name ⊎ IsEnding set k.node x.node
    by (inl live) =
        inl (subst (λ (m : Node). IsHeldBy m.id (knowledge m).config set k.entry.1.name) one
        (held_today t seen.moment (moment_today t seen.moment) set k.entry.1.name (held_then t k v seen)
        (subst (λ (m : Node). is_some (set_row set (knowledge m).config) ≡ true) (sym one) live)).0)
    by (inr over) =
        inr (ending_at t (record {
          name = k.name;
          node = k.node;
          is = k.is;
          set_id = set;
          view = v;
          seen = seen;
        }) x.name x.node (ap node_in x.found ∙ x.at) own over)

-- the origin has told a node to give the set up, which that has not applied
leaving : (t : Past) (v : Viewer t) (name : List ℕ) (m : Node) → nodes_in t.world.places name ≡ Some m →
    m.id ≡ v.view.origin → (e : Event) →
    Between (leaves v.set_id v.node.id) (stream (viewer_event t v).node) v.seen.enabled e → IsLeaving v.set_id v.node m
leaving t v name m is own e b = record {
  event = b.closed.event;
  among =
      subst (λ (x : Node). IsAmong b.closed.event (stream x)) (one_node (nodes_in t.world.places) (regular_now t).nodes
      y.name name y.node m y.is (is, y.own ∙ v.seen.of ∙ sym own)) b.closed.among;
  leaves = b.closed.done;
  later =
      subst (λ i. progress i (knowledge v.node) < b.closed.event.number) (sym own)
      (left_later t v b.closed.event (viewer_other t v b.closed.event b.closed.among from)
      (from, b.closed.done, b.closed.later));
}
  where
    y : IsEvent (nodes_in t.world.places) v.seen.enabled
    y = viewer_event t v

    from : b.closed.event.origin ≡ v.view.origin
    from =
        (among_found y.node.id (stream y.node) b.closed.event ((regular_now t).nodes.each y.name y.node y.is).emitted
        b.closed.among).are.0 ∙ y.own ∙ v.seen.of

pub tables_agree : TablesAgree
tables_agree limit history w leads a b p q found_a found_b n m is_n is_m set v view own table = (
  λ among.
      let e = table_known set (knowledge n).config table among in
      subst (λ text. IsHeldBy m.id (knowledge m).config set text ⊎ IsEnding set n m) (sym e.3)
      (subst (λ i. IsHeldBy m.id (knowledge m).config i e.0.1.name ⊎ IsEnding i n m) e.2
      (origin_holds t (record { name = a; node = n; is = here; entry = e.0; among = e.1 }) v
      (ap (λ i. view_of i (knowledge n)) e.2 ∙ view)
      (record { name = b; place = q; found = found_b; node = m; at = is_m }) own)),
  λ held.
      let e = member_known table (knowledge m).config set held.0 in
      let k : KnownTable t = record { name = b; node = m; is = there; entry = e.0; among = e.1 } in
      elim (table_or_left t k viewer (sym e.2)) [
        | inl known ↦
            inl (subst (λ text. IsAmong text (names_of set (knowledge n).config)) (sym e.3)
            (subst (λ i. IsAmong e.0.1.name (names_of i (knowledge n).config)) e.2 known))
        | inr left ↦ inr (leaving t viewer b m there own (table_of t k).event left)
      ],
)
  where
    t : Past
    t = past limit history w leads

    here : nodes_in w.places a ≡ Some n
    here = ap node_in found_a ∙ is_n

    there : nodes_in w.places b ≡ Some m
    there = ap node_in found_b ∙ is_m

    viewer : Viewer t
    viewer =
        record { name = a; node = n; is = here; set_id = set; view = v; seen = seen_now t a n here set v view }
