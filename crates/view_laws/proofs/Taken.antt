-- What a node takes of a table with a SYNC is what the origin logged of it between the two snapshots.
use Rattle.slon_model.specs.Config.{set_row}
use Rattle.view_laws.proofs.Tables.{whole_now}
use Rattle.std.proofs.Common.{is_some}
use Rattle.std.proofs.Common.{◌≡◌, ℕ, Bool, true, false, cond, List, [], Some, refl}
use Rattle.std.proofs.Common.{sym, ap, subst, ◌∙◌, map, filter, not}
use Rattle.std.specs.Prelude.{◌==◌, ◌&&◌}
use Rattle.std.specs.Str.{bytes_eq}
use Rattle.std.proofs.lemmas.Bool.{and_parts, and_from, eq-eqb}
use Rattle.node_rows.specs.declared.rows.TableRow.{TableRow}
use Rattle.slon_model.specs.Names.{find_named}
use Rattle.slon_model.specs.Maps.{Map, entry_at}
use Rattle.slon_model.specs.Rows.{Action}
use Rattle.slon_model.specs.Snapshots.{Snapshot, sees}
use Rattle.slon_model.specs.Config.{Config, is_origin, is_table_of, tables_of}
use Rattle.slon_model.specs.Deeds.{Node, Logged, knowledge}
use Rattle.slon_model.specs.Eras.{Stretch, is_stretch, stretch_of, stretches}
use Rattle.slon_model.specs.Following.{delta, is_new, is_on_one, numbered, tables_taken}
use Rattle.slon_model.specs.Logs.{logged}
use Rattle.slon_model.specs.Place.{Place}
use Rattle.slon_model.proofs.Names.{bytes_itself, bytes_same}
use Rattle.stream_laws.specs.Nodes.{IsAmong, node_in}
use Rattle.stream_laws.proofs.Lists.{all_among, all_each, among_any}
use Rattle.image_laws.specs.Deltas.{IsBetween, IsRead}
use Rattle.image_laws.specs.Laws.{WasHeld}
use Rattle.image_laws.proofs.Found.{find_has}
use Rattle.image_laws.proofs.Images.{logs_had_the_actions}
use Rattle.image_laws.proofs.Logging.{among_filtered, filtered_among}
use Rattle.view_laws.specs.Contents.{actions_on}
use Rattle.view_laws.specs.Known.{IsLoggedAs}
use Rattle.view_laws.specs.Past.{Past, WasBefore}
use Rattle.view_laws.proofs.Moments.{sound_now}
use Rattle.view_laws.proofs.Numbered.{IsNumbered, among_map, are_numbered, mapped_among, numbered_all}
use Rattle.view_laws.proofs.Numbered.{numbered_sorted, same_action, sorted_actions, sorted_filter}
use Rattle.view_laws.proofs.Owned.{owned_now}
use Rattle.view_laws.proofs.Rising.{found_stands}
use Rattle.view_laws.proofs.Tables.{KnownTable, logged_table, one_table, table_of, told_now}

-- A table that a node knows, of a live set that it does not lead, and the node that led the set as this snapshot was
-- taken there.
pub record Follows (t : Past) : Type 0 where
  pub table : KnownTable t
  pub live : is_some (set_row table.entry.1.set_id (knowledge table.node).config) ≡ true
  pub other : is_origin table.node.id table.entry.1.set_id (knowledge table.node).config ≡ false
  pub name : List ℕ
  pub place : Place
  pub found : find_named name t.world.places ≡ Some place
  pub node : Node
  pub at : place.node ≡ Some node
  pub top : Snapshot
  pub era : ℕ
  pub held : WasHeld t.limit name t.world top table.entry.1.set_id era table.entry.1.name

abbrev pub table_name : {t : Past} → Follows t → List ℕ
table_name f = f.table.entry.1.name

-- what the node takes of the set
abbrev pub set_delta : {t : Past} → Follows t → Snapshot → List Logged
set_delta f old =
    delta f.node.id (tables_taken f.table.node.id f.table.entry.1.set_id (knowledge f.table.node).config) old f.top
    (logged f.node)

-- the stretch of a table is of that table
stretch_table : (set era : ℕ) (table : List ℕ) (n : Node) (s : Stretch) → stretch_of set era table n ≡ Some s →
    s.table ≡ table
stretch_table set era table n s found =
    let passes = (find_has (λ t. Unit {0}) (is_stretch set era table) s (stretches n)
    (all_each (λ t. Unit {0}) (λ t. tt) (stretches n)) found).1 in
    let first = and_parts (s.set_id == set) (s.era == era && bytes_eq table s.table) passes in
    sym (bytes_same table s.table (and_parts (s.era == era) (bytes_eq table s.table) first.1).1)

-- each entry on the table that the snapshot sees is of the node itself
pub entry_own : (t : Past) (f : Follows t) (l : Logged) → IsAmong l (logged f.node) → l.action.table ≡ table_name f →
    sees f.top l.action.xid ≡ true → l.origin ≡ f.node.id
entry_own t f l among on seen =
    let log = logs_had_the_actions t.limit f.name t.world f.place f.found f.node f.at f.top f.table.entry.1.set_id f.era
    (table_name f) f.held in
    (log.2.only l among (on ∙ sym (stretch_table f.table.entry.1.set_id f.era (table_name f) f.node log.0 log.1))
    seen).0.origin

-- and names the id by which the other node knows the table
entry_id : (t : Past) (f : Follows t) (l : Logged) → IsAmong l (logged f.node) → l.action.table ≡ table_name f →
    l.table_id ≡ f.table.entry.0
entry_id t f l among on =
    let is = ap node_in f.found ∙ f.at in
    (one_table t (logged_table t f.name f.node is l
    (all_among (IsLoggedAs (WasBefore t) f.node) l (logged f.node) (told_now t f.name f.node is).logs among))
    (table_of t f.table) on).1

-- so it is on one of the tables to which that takes rows
entry_on : (t : Past) (f : Follows t) (l : Logged) → IsAmong l (logged f.node) → l.action.table ≡ table_name f →
    is_on_one (tables_taken f.table.node.id f.table.entry.1.set_id (knowledge f.table.node).config) l ≡ true
entry_on t f l among on =
    ap (λ b. is_on_one (cond b [] (map entry (tables_of set c))) l) f.other
    ∙ among_any (λ t. t.0 == l.table_id && bytes_eq l.action.table t.1) (entry f.table.entry)
    (map entry (tables_of set c))
    (among_map entry f.table.entry (tables_of set c) (among_filtered (is_table_of set) f.table.entry c.tables
    f.table.among (and_from f.table.entry.1.live (f.table.entry.1.set_id == set) ((whole_now t f.table.name f.table.node
    f.table.is).live f.table.entry f.table.among f.live)
    (eq-eqb f.table.entry.1.set_id set refl))))
    (and_from (f.table.entry.0 == l.table_id) (bytes_eq l.action.table (table_name f))
    (eq-eqb f.table.entry.0 l.table_id (sym (entry_id t f l among on)))
    (subst (λ name. bytes_eq l.action.table name ≡ true) on (bytes_itself l.action.table)))
  where
    set : ℕ
    set = f.table.entry.1.set_id

    c : Config
    c = (knowledge f.table.node).config

    entry : ℕ × TableRow → ℕ × List ℕ
    entry e = (e.0, e.1.name)

-- what passes the tests of a delta
abbrev delta_test : {t : Past} → Follows t → Snapshot → Snapshot → Logged → Bool
delta_test f old new l =
    is_on_one (tables_taken f.table.node.id f.table.entry.1.set_id (knowledge f.table.node).config) l
    && is_new old new l

-- each entry between the snapshots is taken
all_taken : (t : Past) (f : Follows t) (old : Snapshot) (l : Logged) → IsAmong l (logged f.node) →
    IsBetween (table_name f) old f.top l → IsAmong l.action (actions_on (table_name f) (set_delta f old))
all_taken t f old l among between =
    subst (λ a. IsAmong a (actions_on (table_name f) (set_delta f old))) (sym same)
    (among_map (λ (k : Logged). k.action) k (filter (λ l. bytes_eq (table_name f) l.action.table) (set_delta f old))
    (among_filtered (λ l. bytes_eq (table_name f) l.action.table) k (set_delta f old)
    (among_filtered (delta_test f old f.top) k (map (λ e. e.1) (numbered f.node.id (logged f.node)))
    (among_map (λ (e : ℕ × Logged). e.1) (l.action.number, k) (numbered f.node.id (logged f.node)) stands)
    (and_from (is_on_one tables k) (is_new old new k) (entry_on t f k is.among on)
    (ap (λ (a : Action). sees new a.xid && not (sees old a.xid)) (sym same)
    ∙ and_from (sees new l.action.xid) (not (sees old l.action.xid)) between.seen (ap not between.unseen))))
    (subst (λ name. bytes_eq (table_name f) name ≡ true) (sym on) (bytes_itself (table_name f)))))
  where
    tables : Map (List ℕ)
    tables = tables_taken f.table.node.id f.table.entry.1.set_id (knowledge f.table.node).config

    own : l.origin ≡ f.node.id
    own = entry_own t f l among between.on between.seen

    new : Snapshot
    new = f.top

    found : (k : Logged) × (entry_at l.action.number (numbered f.node.id (logged f.node)) ≡ Some k)
    found = numbered_all f.node.id (logged f.node) l among own

    k : Logged
    k = found.0

    stands : IsAmong (l.action.number, k) (numbered f.node.id (logged f.node))
    stands = found_stands l.action.number k (numbered f.node.id (logged f.node)) found.1

    is : IsNumbered f.node.id (logged f.node) (l.action.number, k)
    is = all_among (IsNumbered f.node.id (logged f.node)) (l.action.number, k)
        (numbered f.node.id (logged f.node)) (are_numbered f.node.id (logged f.node)) stands

    owned : (j : Logged) → IsAmong j (logged f.node) → j.origin ≡ f.node.id → IsAmong j.action f.place.actions
    owned j among own =
        all_among (λ j. j.origin ≡ f.node.id → IsAmong j.action f.place.actions) j (logged f.node)
        (owned_now t f.name f.place f.node f.found f.at) among own

    same : l.action ≡ k.action
    same = same_action f.place.actions l.action k.action (sound_now t f.name f.place f.found).rising
        (owned l among own) (owned k is.among is.own) is.number

    on : k.action.table ≡ table_name f
    on = ap (λ (a : Action). a.table) (sym same) ∙ between.on

-- and no others are
only_taken : (t : Past) (f : Follows t) (old : Snapshot) (a : Action) →
    IsAmong a (actions_on (table_name f) (set_delta f old)) →
    (l : Logged) × IsAmong l (logged f.node) × (l.action ≡ a) × IsBetween (table_name f) old f.top l
only_taken t f old a among =
    let made = mapped_among (λ (k : Logged). k.action) a
    (filter (λ l. bytes_eq (table_name f) l.action.table) (set_delta f old)) among in
    let named = filtered_among (λ l. bytes_eq (table_name f) l.action.table) made.0 (set_delta f old) made.1 in
    let passes = filtered_among (delta_test f old f.top) made.0 (map (λ e. e.1) (numbered f.node.id (logged f.node)))
    named.0 in
    let entry = mapped_among (λ (e : ℕ × Logged). e.1) made.0 (numbered f.node.id (logged f.node)) passes.0 in
    let is = all_among (IsNumbered f.node.id (logged f.node)) entry.0 (numbered f.node.id (logged f.node))
    (are_numbered f.node.id (logged f.node)) entry.1 in
    let new_one = and_parts (is_on_one (tables_taken f.table.node.id f.table.entry.1.set_id
    (knowledge f.table.node).config) made.0) (is_new old new made.0) passes.1 in
    let seen = and_parts (sees new made.0.action.xid) (not (sees old made.0.action.xid)) new_one.1 in (
      made.0,
      subst (λ l. IsAmong l (logged f.node)) (sym entry.2) is.among,
      sym made.2,
      record {
        on = sym (bytes_same (table_name f) made.0.action.table named.1);
        seen = seen.0;
        unseen = not-true _ seen.1;
      },
    )
  where
    new : Snapshot
    new = f.top

    not-true : (b : Bool) → not b ≡ true → b ≡ false
    not-true true is = sym is
    not-true false is = refl

-- what is taken of the table is read between the two snapshots
pub delta_read : (t : Past) (f : Follows t) (old : Snapshot) →
    IsRead f.node (table_name f) old f.top (actions_on (table_name f) (set_delta f old))
delta_read t f old = record {
  in_order =
      sorted_actions (filter (λ l. bytes_eq (table_name f) l.action.table) (set_delta f old))
      (sorted_filter (λ l. bytes_eq (table_name f) l.action.table) (set_delta f old)
      (sorted_filter (delta_test f old f.top) (map (λ e. e.1) (numbered f.node.id (logged f.node)))
      (numbered_sorted f.node.id (logged f.node))));
  all = all_taken t f old;
  only = only_taken t f old;
}
