-- Nodes agree on the tables of sets, and the origin of a set knew all of them as a node copied the set, and has them
-- still.
use Rattle.std.proofs.Common.{◌≡◌, ◌⊎◌, inl, inr, ℕ, true, List, ◌∷◌, ◌≤◌, Option, Some, None}
use Rattle.std.proofs.Common.{refl, sym, ap, subst, ◌∙◌, arith, is_some}
use Rattle.std.specs.Prelude.{◌&&◌}
use Rattle.std.specs.Str.{bytes_eq}
use Rattle.std.proofs.lemmas.Bool.{false≢true, and_from, eq-eqb}
use Rattle.node_rows.specs.declared.body.Body.TheVariants.{SetAddTable}
use Rattle.node_rows.specs.declared.rows.TableRow.{TableRow}
use Rattle.slon_model.specs.Names.{find_named}
use Rattle.slon_model.specs.Maps.{entry_at}
use Rattle.slon_model.specs.Events.{Event}
use Rattle.slon_model.specs.Config.{Config, set_of, set_row, era_of}
use Rattle.slon_model.specs.Deeds.{Node, Logged, knowledge, progress, stream}
use Rattle.slon_model.specs.Place.{Place}
use Rattle.slon_model.specs.Views.{View}
use Rattle.slon_model.proofs.Names.{all_found, bytes_itself, bytes_same, one_found}
use Rattle.slon_laws.proofs.Later.{HoldsOf}
use Rattle.stream_laws.specs.Nodes.{IsAmong, nodes_in, node_in, IsEvent}
use Rattle.stream_laws.specs.Making.{AreEmitted as AreNumbered, IsMet, Mark, OfSet, OfName, tells_of, IsMade, MayFollow}
use Rattle.stream_laws.specs.Facts.{AreRegular, Facts}
use Rattle.stream_laws.proofs.Copies.{Leading}
use Rattle.stream_laws.proofs.Laws.{marks_are_made_once}
use Rattle.stream_laws.proofs.Lists.{all_among, among_any, among_behind, any_among}
use Rattle.stream_laws.proofs.Streams.{among_earlier, among_found, number_within, one_node, same_number}
use Rattle.image_laws.specs.Facts.{Holds, IsHeldBy}
use Rattle.image_laws.specs.Fits.{IsWhole}
use Rattle.image_laws.proofs.Images.{ready_world}
use Rattle.view_laws.specs.Known.{AreTold, IsLoggedAs, IsSeen, IsTold, adds as adds_to}
use Rattle.view_laws.specs.Past.{Past, WasBefore, WasUpTo, Moment}
use Rattle.view_laws.proofs.Living.{knew, node_lives}
use Rattle.view_laws.proofs.Moments.{Reached, event_now, now_stays, past_of, reached_up_to, regular_now}
use Rattle.view_laws.proofs.Standing.{Viewer, before_first}
use Rattle.image_laws.proofs.Dropping.{found_member, lead_is_live}
use Rattle.image_laws.proofs.Staying.{IsOver, Stays}
use Rattle.view_laws.proofs.Told.{heard_was, tables_told}
use Rattle.view_laws.proofs.Walking.{lives_in}
use Rattle.view_laws.proofs.Copied.{leading_now, stays_leading}

-- ---- one event

abbrev pub made_by : (t : Past) (e : Event) → IsEvent (nodes_in t.world.places) e → (mark : Mark) →
    tells_of e.body mark ≡ true →
    IsMade (nodes_in t.world.places) mark
made_by t e is mark makes =
    record { name = is.name; node = is.node; is = is.is; event = e; among = is.among; makes = makes }

-- a mark is made by one event
pub one_event : (t : Past) (a b : Event) → IsEvent (nodes_in t.world.places) a → IsEvent (nodes_in t.world.places) b →
    (mark : Mark) → (tells_of a.body mark ≡ true) × (tells_of b.body mark ≡ true) → a ≡ b
one_event t a b is_a is_b mark make =
    same_number is_b.node.id (stream is_b.node) a b ((regular_now t).nodes.each is_b.name is_b.node is_b.is).emitted
    (subst (λ n. IsAmong a (stream n)) node is_a.among) is_b.among once.1
  where
    once : (is_a.name ≡ is_b.name) × (a.number ≡ b.number)
    once = (regular_now t).nodes.once mark (made_by t a is_a mark make.0) (made_by t b is_b mark make.1)

    node : is_a.node ≡ is_b.node
    node = one_found is_a.node is_b.node (sym is_a.is ∙ ap (nodes_in t.world.places) once.0 ∙ is_b.is)

-- ---- one table

-- A table that an event of the session says.
pub record Table (t : Past) : Type 0 where
  pub event : Event
  pub is : IsEvent (nodes_in t.world.places) event
  pub set_id : ℕ
  pub id : ℕ
  pub name : List ℕ
  pub comment : List ℕ
  pub body : event.body ≡ SetAddTable set_id id name comment

-- tables of one name are one
pub one_table : (t : Past) (a b : Table t) → a.name ≡ b.name →
    (a.set_id ≡ b.set_id) × (a.id ≡ b.id) × (a.comment ≡ b.comment)
one_table t a b same = by (sym a.body ∙ ap (λ (e : Event). e.body) event ∙ b.body)
  where
    tells : (c : Table t) → c.name ≡ a.name → tells_of c.event.body (OfName a.name) ≡ true
    tells c is = ap (λ body. tells_of body (OfName a.name)) c.body ∙ ap (bytes_eq a.name) is ∙ bytes_itself a.name

    event : a.event ≡ b.event
    event = one_event t a.event b.event a.is b.is (OfName a.name) (tells a refl, tells b (sym same))

    by : SetAddTable a.set_id a.id a.name a.comment ≡ SetAddTable b.set_id b.id b.name b.comment →
        (a.set_id ≡ b.set_id) × (a.id ≡ b.id) × (a.comment ≡ b.comment)
    by is = (cc, cc, cc)

pub told_now : (t : Past) (name : List ℕ) (n : Node) → nodes_in t.world.places name ≡ Some n →
    AreTold (WasBefore t) n
told_now t = knew AreTold t (lives_in (node_lives tables_told) t)

-- a table that a node knows
abbrev pub known_table : (t : Past) (name : List ℕ) (n : Node) → nodes_in t.world.places name ≡ Some n →
    (e : ℕ × TableRow) → IsTold (WasBefore t) n e → Table t
known_table t name n is e told = record {
  event = told.event;
  is = event_now t told.event (heard_was t name n is told.event told.heard);
  set_id = e.1.set_id;
  id = e.0;
  name = e.1.name;
  comment = e.1.comment;
  body = told.body;
}

-- the table of an action that a node logged
abbrev pub logged_table : (t : Past) (name : List ℕ) (n : Node) → nodes_in t.world.places name ≡ Some n → (l : Logged) →
    IsLoggedAs (WasBefore t) n l → Table t
logged_table t name n is l told = record {
  event = told.event;
  is = event_now t told.event (heard_was t name n is told.event told.heard);
  set_id = l.set_id;
  id = l.table_id;
  name = l.action.table;
  comment = told.comment;
  body = told.body;
}

-- ---- the set of a table

-- A table that a node of the session knows.
pub record KnownTable (t : Past) : Type 0 where
  pub name : List ℕ
  pub node : Node
  pub is : nodes_in t.world.places name ≡ Some node
  pub entry : ℕ × TableRow
  pub among : IsAmong entry (knowledge node).config.tables

pub entry_told : (t : Past) (k : KnownTable t) → IsTold (WasBefore t) k.node k.entry
entry_told t k =
    all_among (IsTold (WasBefore t) k.node) k.entry (knowledge k.node).config.tables
    (told_now t k.name k.node k.is).tables k.among

abbrev pub table_of : (t : Past) → KnownTable t → Table t
table_of t k = known_table t k.name k.node k.is k.entry (entry_told t k)

-- what is known of the configuration of each node
pub whole_now : (t : Past) (name : List ℕ) (n : Node) → nodes_in t.world.places name ≡ Some n →
    IsWhole n.id (knowledge n).config
whole_now t name n is = by (find_named name t.world.places) refl is
  where
    by : (o : Option Place) → find_named name t.world.places ≡ o → node_in o ≡ Some n →
        IsWhole n.id (knowledge n).config
    by None found none = absurd cc
    by (Some p) found at =
        ((all_found Holds name p t.world.places (ready_world t.limit t.history t.world t.leads).holds found).1 n
        at).whole

-- the set of each known table is known
pub set_known : (t : Past) (k : KnownTable t) →
    is_some (entry_at k.entry.1.set_id (knowledge k.node).config.sets) ≡ true
set_known t k =
    let c = (knowledge k.node).config in
    all_among (λ e. is_some (entry_at e.1.set_id c.sets) ≡ true) k.entry c.tables
    (whole_now t k.name k.node k.is).tables
    k.among

-- a node finds each table that it knows in its set, if that is live
pub found_in_set : (t : Past) (k : KnownTable t) →
    is_some (set_row k.entry.1.set_id (knowledge k.node).config) ≡ true →
    set_of k.entry.1.name (knowledge k.node).config ≡ Some k.entry.1.set_id
found_in_set t k live =
    found_member k.node.id c k.entry.1.name k.entry whole k.among
    (and_from (k.entry.1.live && bytes_eq k.entry.1.name k.entry.1.name) (is_some (set_row k.entry.1.set_id c))
    (and_from k.entry.1.live (bytes_eq k.entry.1.name k.entry.1.name) (whole.live k.entry k.among live)
    (bytes_itself k.entry.1.name)) live)
  where
    c : Config
    c = (knowledge k.node).config

    whole : IsWhole k.node.id c
    whole = whole_now t k.name k.node k.is

-- ---- the tables of a set that a node keeps

-- the node that says a table of a set made the set known
abbrev pub set_made : (t : Past) (table : Table t) → IsMade (nodes_in t.world.places) (OfSet table.set_id)
set_made t table =
    let found = among_found table.is.node.id (stream table.is.node) table.event
    ((regular_now t).nodes.each table.is.name table.is.node table.is.is).emitted table.is.among in
    let stored = (subst (MayFollow table.is.node.id found.earlier) table.body found.are.2).0 in
    record {
      name = table.is.name;
      node = table.is.node;
      is = table.is.is;
      event = stored.0;
      among =
          subst (IsAmong stored.0) (sym found.all)
          (among_behind stored.0 found.later (table.event ∷ found.earlier) (inr stored.1));
      makes = stored.2;
    }

-- it is the node that leads the set
pub made_by_leader : (t : Past) (table : Table t) (leader : Leading (nodes_in t.world.places) table.set_id) →
    table.is.node.id ≡ leader.node.id
made_by_leader t table leader =
    let row = leader.leads in
    let by = ((regular_now t).nodes.each leader.name leader.node leader.is).marked.origins table.set_id row.0 row.1 in
    let once = (regular_now t).nodes.once (OfSet table.set_id) by.0 (set_made t table) in
    let node = one_found by.0.node table.is.node
    (sym by.0.is ∙ ap (nodes_in t.world.places) once.0 ∙ table.is.is) in
    ap (λ (n : Node). n.id) (sym node) ∙ by.1 ∙ row.2

-- a node has applied the event of each table that it knows, or was given it
pub known_within : (t : Past) (k : KnownTable t) →
    (table_of t k).event.number ≤ progress (table_of t k).event.origin (knowledge k.node)
known_within t k =
    subst (λ i. table.event.number ≤ progress i (knowledge k.node)) (ap (λ (n : Node). n.id) node ∙ table.is.own)
    (let within = met.within in let number = once.1 in omega (arith, within, number))
  where
    table : Table t
    table = table_of t k

    mark : Mark
    mark = OfName k.entry.1.name

    met : IsMet (nodes_in t.world.places) (knowledge k.node).progress mark
    met = (marks_are_made_once t.limit t.history t.world t.leads).met k.name k.node k.is mark
        (among_any (λ e. bytes_eq k.entry.1.name e.1.name) k.entry (knowledge k.node).config.tables k.among
        (bytes_itself k.entry.1.name))

    once : (met.made.name ≡ table.is.name) × (met.made.event.number ≡ table.event.number)
    once = (regular_now t).nodes.once mark met.made (made_by t table.event table.is mark
        (ap (λ body. tells_of body mark) table.body ∙ bytes_itself k.entry.1.name))

    node : met.made.node ≡ table.is.node
    node = one_found met.made.node table.is.node
        (sym met.made.is ∙ ap (nodes_in t.world.places) once.0 ∙ table.is.is)

-- the node that says a table of the set is the origin of each view of it
pub table_origin : (t : Past) (table : Table t) (n : Node) (v : View) → IsSeen (WasUpTo t) n table.set_id v →
    table.event.origin ≡ v.origin
table_origin t table n v seen =
    let y = leading_now t seen.moment table.set_id seen.leads in
    sym table.is.own ∙ made_by_leader t table y.0 ∙ y.1 ∙ seen.own

-- an event by which a table came into a set that a node knows, was emitted before the snapshot was taken that the node
-- keeps of the set
was_before : (t : Past) (k : KnownTable t) (v : View) (seen : IsSeen (WasUpTo t) k.node k.entry.1.set_id v) →
    IsAmong (table_of t k).event (stream seen.moment.node)
was_before t k v seen =
    among_earlier now.2.node.id now.2.more (stream then) table.event (subst (AreNumbered now.2.node.id) now.2.all are)
    (subst (IsAmong table.event) now.2.all (subst (λ n. IsAmong table.event (stream n)) one table.is.among))
    (let before = before_first t viewer table.event table.is (origin, adds, within) in
    let low = (number_within then.id (stream then) seen.first (regular_then.each seen.moment.name then
    (ap node_in seen.moment.found ∙ seen.moment.at)).emitted seen.before).1 in
    omega (arith, before, low))
  where
    table : Table t
    table = table_of t k

    then : Node
    then = seen.moment.node

    viewer : Viewer t
    viewer = record { name = k.name; node = k.node; is = k.is; set_id = k.entry.1.set_id; view = v; seen = seen }

    origin : table.event.origin ≡ v.origin
    origin = table_origin t table k.node v seen

    adds : adds_to k.entry.1.set_id table.event.body ≡ true
    adds = ap (adds_to k.entry.1.set_id) table.body ∙ eq-eqb k.entry.1.set_id k.entry.1.set_id refl

    within : table.event.number ≤ progress v.origin (knowledge k.node)
    within = subst (λ i. table.event.number ≤ progress i (knowledge k.node)) origin (known_within t k)

    -- the node that was the origin then, now
    now : HoldsOf (Stays then) seen.moment.name t.world.places
    now = now_stays t seen.moment.session seen.moment.was seen.moment.name seen.moment.place then
        seen.moment.found seen.moment.at

    there : nodes_in t.world.places seen.moment.name ≡ Some now.2.node
    there = ap node_in now.1 ∙ now.2.is

    are : AreNumbered now.2.node.id (stream now.2.node)
    are = ((regular_now t).nodes.each seen.moment.name now.2.node there).emitted

    regular_then : AreRegular (nodes_in seen.moment.session.places)
    regular_then =
        let r = reached_up_to t seen.moment.session seen.moment.was in
        let regular = regular_now (past_of t seen.moment.session r) in
        regular.nodes

    one : table.is.node ≡ now.2.node
    one = one_node (nodes_in t.world.places) (regular_now t).nodes table.is.name seen.moment.name table.is.node
        now.2.node table.is.is (there, table.is.own ∙ origin ∙ sym seen.own ∙ sym now.2.id)

-- the origin of the set knew it then, and knew it in the set
pub held_then : (t : Past) (k : KnownTable t) (v : View) (seen : IsSeen (WasUpTo t) k.node k.entry.1.set_id v) →
    IsHeldBy seen.moment.node.id (knowledge seen.moment.node).config k.entry.1.set_id k.entry.1.name
held_then t k v seen = (
  ap (λ name. set_of name (knowledge then).config) (bytes_same k.entry.1.name mark.0.1.name mark.2)
      ∙ found_in_set s other
      (subst (λ i. is_some (set_row i (knowledge then).config) ≡ true) (sym one_set.0)
      (lead_is_live then.id k.entry.1.set_id (knowledge then).config seen.leads))
      ∙ ap Some one_set.0,
  seen.leads,
)
  where
    table : Table t
    table = table_of t k

    then : Node
    then = seen.moment.node

    among : IsAmong table.event (stream then)
    among = was_before t k v seen

    reached : Reached t seen.moment.session
    reached = reached_up_to t seen.moment.session seen.moment.was

    s : Past
    s = past_of t seen.moment.session reached

    there : nodes_in seen.moment.session.places seen.moment.name ≡ Some then
    there = ap node_in seen.moment.found ∙ seen.moment.at

    facts : Facts (nodes_in seen.moment.session.places) then
    facts = (regular_now s).nodes.each seen.moment.name then there

    mark : (f : ℕ × TableRow) × IsAmong f (knowledge then).config.tables × (bytes_eq k.entry.1.name f.1.name ≡ true)
    mark =
        any_among (λ f. bytes_eq k.entry.1.name f.1.name) (knowledge then).config.tables
        ((marks_are_made_once s.limit s.history s.world s.leads).known seen.moment.name then there
        (OfName k.entry.1.name)
        (record {
          made = record {
            name = seen.moment.name;
            node = then;
            is = there;
            event = table.event;
            among = among;
            makes =
                ap (λ body. tells_of body (OfName k.entry.1.name)) table.body ∙ bytes_itself k.entry.1.name;
          };
          within = let within = number_within then.id (stream then) table.event facts.emitted among in
              let whole = facts.whole in
              omega (arith, within.1, whole);
        }))

    other : KnownTable s
    other = record { name = seen.moment.name; node = then; is = there; entry = mark.0; among = mark.1 }

    one_set : (mark.0.1.set_id ≡ table.set_id) × (mark.0.0 ≡ table.id) × (mark.0.1.comment ≡ table.comment)
    one_set = one_table s (table_of s other) (record {
      event = table.event;
      is = record {
        name = seen.moment.name;
        node = then;
        is = there;
        own = sym (among_found then.id (stream then) table.event facts.emitted among).are.0;
        among = among;
      };
      set_id = table.set_id;
      id = table.id;
      name = table.name;
      comment = table.comment;
      body = table.body;
    }) (sym (bytes_same k.entry.1.name mark.0.1.name mark.2))

-- ---- the origin now

-- The database of a moment, as it is now.
pub record Today (t : Past) (m : Moment (WasUpTo t)) : Type 0 where
  pub name : List ℕ
  pub same : m.name ≡ name
  pub place : Place
  pub found : find_named name t.world.places ≡ Some place
  pub node : Node
  pub at : place.node ≡ Some node

-- of each moment there is one, under the same name
abbrev pub moment_today : (t : Past) (m : Moment (WasUpTo t)) → Today t m
moment_today t m =
    let now = now_stays t m.session m.was m.name m.place m.node m.found m.at in
    record { name = m.name; same = refl; place = now.0; found = now.1; node = now.2.node; at = now.2.is }

-- it holds the table now as it did then, if the set is live
pub held_today : (t : Past) (m : Moment (WasUpTo t)) (d : Today t m) (set : ℕ) (table : List ℕ) →
    IsHeldBy m.node.id (knowledge m.node).config set table → is_some (set_row set (knowledge d.node).config) ≡ true →
    IsHeldBy d.node.id (knowledge d.node).config set table
    × (era_of set (knowledge d.node).config ≡ era_of set (knowledge m.node).config)
held_today t m d set table held live =
    let leads = stays_leading m.node now.0 d.node now.2 node set held.1 live in (
      (
        by (subst (λ (n : Node). (set_of table (knowledge n).config ≡ Some set) ⊎ IsOver set (knowledge n).config)
            (one_found now.2.node d.node (sym now.2.is ∙ node)) (now.2.members table set held.0)),
        leads.0,
      ),
      leads.1,
    )
  where
    by : (set_of table (knowledge d.node).config ≡ Some set) ⊎ IsOver set (knowledge d.node).config →
        set_of table (knowledge d.node).config ≡ Some set
    by (inl there) = there
    by (inr over) = absurd (false≢true (sym (ap is_some over) ∙ live))

    now : HoldsOf (Stays m.node) m.name t.world.places
    now = now_stays t m.session m.was m.name m.place m.node m.found m.at

    node : now.0.node ≡ Some d.node
    node =
        ap (λ (p : Place). p.node) (one_found now.0 d.place (sym now.1
        ∙ ap (λ k. find_named k t.world.places) d.same ∙ d.found)) ∙ d.at
