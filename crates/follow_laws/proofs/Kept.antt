-- Nothing but what comes with events changes the tables that a node keeps.
use Rattle.std.proofs.Common.{◌≡◌, ◌⊎◌, inl, inr, ℕ, Bool, true, false, cond, List, [], ◌∷◌, Some, None, refl, sym}
use Rattle.std.proofs.Common.{ap, subst, ◌∙◌, arith, is_some}
use Rattle.std.specs.Prelude.{◌==◌, ◌&&◌}
use Rattle.std.specs.Str.{bytes_eq}
use Rattle.std.proofs.lemmas.Bool.{eq-eqb, eqb-true, false≢true, false_from_ne_true, true≢false}
use Rattle.node_rows.specs.declared.body.Body.{Body}
use Rattle.node_rows.specs.declared.body.Body.TheVariants.{SetAddTable, DropSet, MoveSet, FailoverSet}
use Rattle.node_rows.specs.declared.rows.TableRow.{TableRow}
use Rattle.slon_model.specs.declared.fault.DbFault.TheVariants.{NotOrigin, SetLocked}
use Rattle.slon_model.specs.Config.{Config, change_by, is_locked, is_origin, set_of}
use Rattle.slon_model.specs.Deciding.{closed_at, closed_set}
use Rattle.slon_model.specs.Deeds.{Node, knowledge, progress, view_of, with_deeds}
use Rattle.slon_model.specs.Moves.{Move, Founds, Writes, done}
use Rattle.slon_model.specs.Place.{Place, filling_of}
use Rattle.slon_model.specs.Sessions.{World, Seat, Emission, emissions, next_event}
use Rattle.slon_model.specs.Views.{View}
use Rattle.slon_model.specs.Working.{Carried}
use Rattle.slon_model.proofs.Names.{bytes_same}
use Rattle.stream_laws.specs.Nodes.{IsAmong, nodes_in}
use Rattle.stream_laws.specs.Applied.{applied_events}
use Rattle.stream_laws.specs.Making.{is_emitted}
use Rattle.stream_laws.proofs.Copies.{Leading, one_leader, origin_row}
use Rattle.stream_laws.proofs.Lists.{mapped_among, with_among}
use Rattle.image_laws.proofs.Dropping.{dropped, dropped_other, dropped_set}
use Rattle.stream_laws.proofs.Seats.{seat_node}
use Rattle.image_laws.proofs.Since.{first_fillings, first_same, prepared_fillings, prepared_same}
use Rattle.view_laws.proofs.Doing.{IsTaken, AreAllowed, IsAllowed}
use Rattle.view_laws.specs.Known.{IsSeen, adds as adds_to, leaves}
use Rattle.follow_laws.specs.Filled.{IsFilled}
use Rattle.view_laws.specs.Past.{Past, WasBefore, WasUpTo}
use Rattle.follow_laws.proofs.Contents.{AreBefore}
use Rattle.view_laws.proofs.Viewed.{seen_now}
use Rattle.view_laws.proofs.Living.{IsOfFeed, Says, deed_of, event_of, tells_lives}
use Rattle.view_laws.proofs.Moments.{regular_now}
use Rattle.follow_laws.proofs.Opened.{IsOpenMove}
use Rattle.view_laws.proofs.Seen.{same_views, seen_later, seen_same}
use Rattle.view_laws.proofs.Tables.{KnownTable, Table, found_in_set, set_known, table_origin}
use Rattle.view_laws.proofs.Saying.{may_emitted, says_emitted}
use Rattle.view_laws.proofs.Standing.{Viewer, added_within}
use Rattle.view_laws.proofs.Copied.{leading_now}
use Rattle.view_laws.proofs.Ended.{view_live}

-- ---- the same fillings

pub filled_later : (t : Past) (p : Place) (n : Node) (set : ℕ) (v : View) (table : List ℕ) →
    IsFilled (WasBefore t) p n set v table → IsFilled (WasUpTo t) p n set v table
filled_later t p n set v table f =
    record { seen = seen_later t n set v f.seen; rows = f.rows; before = f.before }

-- A database that is filled as before, and whose node applied the same.
pub record Alike : Type 0 where
  pub before : Place
  pub behind : Place
  pub node : Node
  pub later : Node
  pub fillings : behind.fillings ≡ before.fillings
  pub actions : behind.actions ≡ before.actions
  pub id : later.id ≡ node.id
  pub applied : applied_events later ≡ applied_events node

pub same_filled : (Was : World → Type 0) (a : Alike) (set : ℕ) (v : View) (table : List ℕ) →
    IsFilled Was a.before a.node set v table → IsFilled Was a.behind a.later set v table
same_filled Was a set v table f = record {
  seen = seen_same Was a.node a.later a.id a.applied set v f.seen;
  rows = ap (λ fillings. (filling_of table fillings).rows) a.fillings ∙ f.rows;
  before =
      subst (λ fillings. AreBefore table (filling_of table fillings).first a.behind.actions) (sym a.fillings)
      (subst (AreBefore table (filling_of table a.before.fillings).first) (sym a.actions) f.before);
}

-- ---- a task of the database

pub done_fillings : (move : Move) (p : Place) → (done move p).fillings ≡ p.fillings
done_fillings Founds p = first_fillings p
done_fillings others p = prepared_fillings others p

-- no write comes on a table that is closed
pub done_before : (move : Move) (p : Place) (table : List ℕ) (first : ℕ) → IsOpenMove p move →
    ((name : List ℕ) → bytes_eq table name ≡ true → closed_at name p.node ≡ None → ⊥) →
    AreBefore table first p.actions → AreBefore table first (done move p).actions
done_before (Writes xid name change) p table first is_open never before = (
  λ on. absurd (never name on is_open),
  subst (AreBefore table first) (sym (prepared_same (Writes xid name change) p).actions) before,
)
done_before Founds p table first is_open never before =
    subst (AreBefore table first) (sym (first_same p).actions) before
done_before others p table first is_open never before =
    subst (AreBefore table first) (sym (prepared_same others p).actions) before

-- a table of a set that the node keeps is closed
pub kept_closed : (t : Past) (k : KnownTable t) (v : View) → view_of k.entry.1.set_id (knowledge k.node) ≡ Some v →
    (name : List ℕ) → bytes_eq k.entry.1.name name ≡ true → closed_at name (Some k.node) ≡ None → ⊥
kept_closed t k v found name same none = never is
  where
    viewer : Viewer t
    viewer = record {
      name = k.name;
      node = k.node;
      is = k.is;
      set_id = k.entry.1.set_id;
      view = v;
      seen = seen_now t k.name k.node k.is k.entry.1.set_id v found;
    }

    never : Some (NotOrigin k.entry.1.set_id) ≡ None → ⊥
    never same = absurd cc

    is : Some (NotOrigin k.entry.1.set_id) ≡ None
    is =
        sym (ap (closed_set k.node.id (knowledge k.node))
        (ap (λ table. set_of table (knowledge k.node).config) (sym (bytes_same k.entry.1.name name same))
        ∙ found_in_set t k (view_live t viewer (set_known t k)))
        ∙ ap (λ o. cond (is_some o) (Some (NotOrigin k.entry.1.set_id))
        (cond (is_origin k.node.id k.entry.1.set_id (knowledge k.node).config
        && is_locked k.entry.1.set_id (knowledge k.node).config) (Some (SetLocked k.entry.1.set_id)) None)) found)
        ∙ none

-- ---- tables that come

-- the event brings the table, or drops it with its set
abbrev IsOfTable : ℕ × TableRow → Body → Type 0
IsOfTable e body = (body ≡ SetAddTable e.1.set_id e.0 e.1.name e.1.comment) ⊎ (body ≡ DropSet e.1.set_id)

-- a table that is known behind an event was known so, or the event is of it
comes_by : (origin number : ℕ) (body : Body) (c : Config) → is_emitted body ≡ true → (e : ℕ × TableRow) →
    IsAmong e (change_by origin number body c).tables → IsAmong e c.tables ⊎ IsOfTable e body
comes_by origin number (SetAddTable set table name comment) c may e among =
    elim (with_among table _ c.tables e among) [
      | inl is ↦ inr (inl (ap (λ (f : ℕ × TableRow). SetAddTable f.1.set_id f.0 f.1.name f.1.comment) (sym is)))
      | inr there ↦ inl there
    ]
comes_by origin number (DropSet set) c may e among = by (made.0.1.set_id == set) refl
  where
    made : (f : ℕ × TableRow) × IsAmong f c.tables × (e ≡ dropped set f)
    made = mapped_among (dropped set) e c.tables among

    by : (b : Bool) → (made.0.1.set_id == set) ≡ b → IsAmong e c.tables ⊎ IsOfTable e (DropSet set)
    by true same =
        inr (inr (ap DropSet (sym (ap (λ (f : ℕ × TableRow). f.1.set_id) made.2 ∙ dropped_set set made.0
        ∙ eqb-true made.0.1.set_id set same))))
    by false other =
        inl (subst (λ f. IsAmong f c.tables) (sym (made.2 ∙ dropped_other set made.0 other)) made.1)
comes_by origin number (MoveSet set old new era feeds) c may e among = absurd (false≢true may)
comes_by origin number (FailoverSet failed limit sets) c may e among = absurd (false≢true may)
comes_by origin number others c may e among = inl among

-- ---- the origin of a set that a node keeps is another node

pub other_leads : (t : Past) (name : List ℕ) (n : Node) → nodes_in t.world.places name ≡ Some n → (set : ℕ) (v : View) →
    IsSeen (WasUpTo t) n set v → is_origin n.id set (knowledge n).config ≡ false
other_leads t name n is set v seen =
    false_from_ne_true _ (λ leads. seen.apart (sym seen.own ∙ sym now.1
    ∙ one_leader (nodes_in t.world.places) (regular_now t).nodes set now.0
    (record { name = name; node = n; is = is; leads = origin_row n.id set (knowledge n).config leads })))
  where
    now : (y : Leading (nodes_in t.world.places) set) × (y.node.id ≡ seen.moment.node.id)
    now = leading_now t seen.moment set seen.leads

-- ---- a node emits events

-- A node in the middle of its commit knows what it knew before, and tables of its own sets.
pub record IsAhead (s : Seat) (n : Node) : Type 0 where
  pub id : n.id ≡ s.node.id
  pub views : (knowledge n).views ≡ (knowledge s.node).views
  pub applied : applied_events n ≡ applied_events s.node
  pub tables : (e : ℕ × TableRow) → IsAmong e (knowledge n).config.tables →
      IsAmong e (knowledge s.node).config.tables ⊎ (is_origin s.node.id e.1.set_id (knowledge s.node).config ≡ true)

allowed_own : (s : Seat) (n : Node) (m : Emission) → Says s n m → (e : ℕ × TableRow) → IsOfTable e m.body →
    is_origin s.node.id e.1.set_id (knowledge s.node).config ≡ true
allowed_own s n m (inl may) e (inl is) = (subst (IsAllowed s) is may.1).1
allowed_own s n m (inl may) e (inr is) = subst (IsAllowed s) is may.1
allowed_own s n m (inr feed) e (inl is) = absurd (subst (IsOfFeed s n) is feed)
allowed_own s n m (inr feed) e (inr is) = absurd (subst (IsOfFeed s n) is feed)

stays_ahead : (s : Seat) (number : ℕ) (m : Emission) (n : Node) → Says s n m → IsAhead s n →
    IsAhead s (with_deeds (deed_of s number m ∷ []) n)
stays_ahead s number m n says a = record {
  id = a.id;
  views = same_views (event_of s number m.body) m.body (knowledge n).views (says_emitted s n m says) ∙ a.views;
  applied = a.applied;
  tables = λ e among. elim (comes_by s.node.id number m.body (knowledge n).config (says_emitted s n m says) e among) [
    | inl there ↦ a.tables e there
    | inr is ↦ inr (allowed_own s n m says e is)
  ];
}

pub tells_ahead : (s : Seat) (ms : List Emission) → AreAllowed s ms →
    IsAhead s (with_deeds (emissions s (next_event s) ms) s.node)
tells_ahead s ms may =
    tells_lives (IsAhead s) s (λ number m n. stays_ahead s number m n) ms may
    (record { id = refl; views = refl; applied = refl; tables = λ e among. inl among })

-- ---- a node applies an event

-- a table that is known behind an event of another node, of a set that the node keeps then, was known before
pub takes_known : (t : Past) (x : Carried) (origin : ℕ) → IsTaken t origin x → (e : ℕ × TableRow) (v : View) →
    (view_of e.1.set_id (knowledge x.seat.node) ≡ Some v)
    × (leaves e.1.set_id x.seat.node.id x.event.body ≡ false) →
    IsAmong e (change_by x.event.origin x.event.number x.event.body (knowledge x.seat.node).config).tables →
    IsAmong e (knowledge x.seat.node).config.tables
takes_known t x origin is e v (found, stays) among =
    elim (comes_by x.event.origin x.event.number x.event.body (knowledge n).config
    (may_emitted x.event.origin x.event.body (knowledge n).config is.work.may) e among) [
      | inl there ↦ there
      | inr (inl adds) ↦ absurd (never adds)
      | inr (inr drops) ↦ absurd (true≢false (sym (ap (leaves e.1.set_id n.id) drops
          ∙ eq-eqb e.1.set_id e.1.set_id refl) ∙ stays))
    ]
  where
    n : Node
    n = x.seat.node

    own : nodes_in t.world.places x.seat.name ≡ Some n
    own = seat_node t.world.places x.seat is.work.seat

    viewer : Viewer t
    viewer = record {
      name = x.seat.name;
      node = n;
      is = own;
      set_id = e.1.set_id;
      view = v;
      seen = seen_now t x.seat.name n own e.1.set_id v found;
    }

    -- the origin would have told the node before to give the set up
    never : x.event.body ≡ SetAddTable e.1.set_id e.0 e.1.name e.1.comment → ⊥
    never body =
        let table : Table t = record {
          event = x.event;
          is = is.work.event;
          set_id = e.1.set_id;
          id = e.0;
          name = e.1.name;
          comment = e.1.comment;
          body = body;
        } in
        let from = table_origin t table n v viewer.seen in
        let next = is.work.next in
        let at = ap (λ i. progress i (knowledge n)) from in
        elim (added_within t viewer x.event is.work.event
        (from, ap (adds_to e.1.set_id) body ∙ eq-eqb e.1.set_id e.1.set_id refl)) [
          | inl before ↦ omega (arith, before, next, at)
          | inr behind ↦ omega (arith, behind, next, at)
        ]
