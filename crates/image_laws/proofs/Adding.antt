-- A table comes into a set, and its stretch begins; and what any deed of a node keeps.
use Rattle.std.proofs.Common.{◌≡◌, ℕ, ◌<◌, Bool, true, false, cond, List, [], ◌∷◌, ◌++◌, map, Option, Some, None}
use Rattle.std.proofs.Common.{refl, sym, ap, subst, ◌∙◌, is_some, arith, ◌⊎◌, inl, inr}
use Rattle.std.specs.Prelude.{◌==◌, ◌&&◌, ◌||◌, find, filter_map, option_map, nat_le}
use Rattle.std.specs.Str.{bytes_eq}
use Rattle.std.specs.List.{AllByRecursion, list_any}
use Rattle.std.proofs.lemmas.Bool.{false≢true, true≢false, false_from_ne_true, lt-leb, eq-eqb, and_parts, and_right}
use Rattle.std.proofs.lemmas.Bool.{and_from}
use Rattle.std.proofs.lemmas.List.{append-nil}
use Rattle.node_rows.specs.declared.rows.SetRow.{SetRow}
use Rattle.node_rows.specs.declared.rows.TableRow.{TableRow}
use Rattle.node_rows.specs.declared.body.Body.{Body}
use Rattle.slon_model.specs.Events.{Event}
use Rattle.slon_model.specs.Maps.{entry_at, with_entry}
use Rattle.slon_model.specs.Rows.{Rows, Action, member, play_rows}
use Rattle.slon_model.specs.Config.{Config, live_set, leads_row, is_origin, era_of, set_row, set_of, change_by, change}
use Rattle.slon_model.specs.Deeds.{Node, Deed, Doing, Emits, Knowledge, learned, met_by, knowledge, with_deeds}
use Rattle.slon_model.specs.Logs.{named}
use Rattle.slon_model.specs.Place.{Place, open_xids, standing_rows}
use Rattle.slon_model.specs.Sessions.{writer_of}
use Rattle.slon_model.specs.Eras.{Stretch, stretch_in, begun, stretches, stretches_by, is_stretch}
use Rattle.slon_model.proofs.Names.{all_map, bytes_itself, bytes_same, bytes_turned}
use Rattle.slon_laws.specs.Sound.{Sound}
use Rattle.slon_laws.proofs.Opens.{member_all}
use Rattle.slon_laws.proofs.Played.{play_skips}
use Rattle.stream_laws.specs.Nodes.{IsAmong}
use Rattle.stream_laws.proofs.Lists.{all_with, among_any, with_among}
use Rattle.image_laws.specs.Fits.{IsListed, IsWhole, Comes, Adds, Follows, Fit, Keeps, CreatesSet, AddsTable}
use Rattle.image_laws.specs.Fits.{FollowsTable, DropsSet, is_owner}
use Rattle.image_laws.specs.Facts.{FillsAt, HoldsStretch, IsHeldBy, HasStretch, StretchesHold, NodeHolds}
use Rattle.image_laws.proofs.Found.{IsNew, find_mapped, find_past, find_alone, find_none, any_none, any_with, any_here}
use Rattle.image_laws.proofs.Stretching.{Before, Stay, listed_member, behind, all_behind, there_behind, keeps_holds}
use Rattle.image_laws.proofs.Stretching.{kept_stay, created_stay, owns_not}
use Rattle.image_laws.proofs.Stretching.{creates_holds, none_begin, same_stretch}
use Rattle.image_laws.proofs.Dropping.{dropped_stay, drops_holds}

-- ---- what a new stretch begins with

-- no open transaction has written the table
none_wrote : (name : List ℕ) (x : ℕ) (actions : List Action) →
    list_any (λ a. a.xid == x && named a.table (name ∷ [])) actions ≡ false →
    AllByRecursion (λ a. bytes_eq name a.table ≡ true → (a.xid == x) ≡ true → ⊥) actions
none_wrote name x actions none =
    all_map (λ a. (a.xid == x && named a.table (name ∷ [])) ≡ false)
    (λ a. bytes_eq name a.table ≡ true → (a.xid == x) ≡ true → ⊥) each actions
    (any_none (λ a. a.xid == x && named a.table (name ∷ [])) actions none)
  where
    each : (a : Action) → (a.xid == x && named a.table (name ∷ [])) ≡ false → bytes_eq name a.table ≡ true →
        (a.xid == x) ≡ true → ⊥
    each a not on own =
        true≢false (sym (and_from (a.xid == x) (named a.table (name ∷ [])) own
        (ap (λ b. b || false) (bytes_turned name a.table on))) ∙ not)

-- what holds of each open transaction and each action holds of each action of an open transaction
each_open : (xids : List ℕ) (name : List ℕ) (actions : List Action) →
    AllByRecursion (λ x. AllByRecursion (λ a. bytes_eq name a.table ≡ true → (a.xid == x) ≡ true → ⊥) actions) xids →
    AllByRecursion (λ a. bytes_eq name a.table ≡ true → member a.xid xids ≡ true → ⊥) actions
each_open xids name [] all = tt
each_open xids name (a ∷ rest) all = (
  λ on is_open. member_all (λ x. bytes_eq name a.table ≡ true → (a.xid == x) ≡ true → ⊥) a.xid xids
      (all_map _ (λ x. bytes_eq name a.table ≡ true → (a.xid == x) ≡ true → ⊥) (λ x both. both.0) xids all) is_open on
      (eq-eqb a.xid a.xid refl),
  each_open xids name rest
      (all_map _ (λ x. AllByRecursion (λ a. bytes_eq name a.table ≡ true → (a.xid == x) ≡ true → ⊥) rest)
      (λ x both. both.1) xids all),
)

-- the stretch that begins with the rows that stand
fills_first : (p : Place) (s : Stretch) → Sound p → s.first ≡ p.numbers.next → s.before ≡ standing_rows p s.table →
    writer_of (s.table ∷ []) p ≡ None → FillsAt p s
fills_first p s sound first before free = record {
  rows =
      sym before
      ∙ sym (ap (λ actions. play_rows test s.table actions s.before) (sym (append-nil p.actions))
      ∙ play_skips test s.table p.actions [] s.before none);
  inside =
      all_map (λ a. bytes_eq s.table a.table ≡ true → member a.xid (open_xids p) ≡ true → ⊥)
      (λ a. bytes_eq s.table a.table ≡ true → member a.xid (open_xids p) ≡ true → nat_le s.first a.number ≡ true)
      (λ a never on is_open. absurd (never on is_open)) p.actions
      (each_open (open_xids p) s.table p.actions
      (all_map _ (λ x. AllByRecursion (λ a. bytes_eq s.table a.table ≡ true → (a.xid == x) ≡ true → ⊥) p.actions)
      (λ x none. none_wrote s.table x p.actions none) (open_xids p) (find_none _ (open_xids p) free)));
}
  where
    test : Action → Bool
    test a = member a.xid p.commits && nat_le s.first a.number

    none : AllByRecursion (λ a. test a ≡ false) p.actions
    none =
        all_map (λ a. a.number < p.numbers.next) (λ a. test a ≡ false)
        (λ a below. and_right (member a.xid p.commits) (nat_le s.first a.number)
        (lt-leb s.first a.number (omega (arith, below, first)))) p.actions sound.numbered

-- ---- the table comes into the set

leads_known : (own : ℕ) (o : Option SetRow) → leads_row own (live_set o) ≡ true → is_some o ≡ true
leads_known own None leads = absurd (false≢true leads)
leads_known own (Some row) leads = refl

leads_live : (own : ℕ) (o : Option SetRow) → leads_row own o ≡ true → is_some o ≡ true
leads_live own None leads = absurd (false≢true leads)
leads_live own (Some row) leads = refl

-- A table that the node did not know, as it comes into a set.
pub record Coming : Type 0 where
  was : Before
  id : ℕ
  row : TableRow
  fresh : IsNew id was.known.tables
  unused : list_any (λ e. bytes_eq row.name e.1.name) was.known.tables ≡ false
  live : row.live ≡ true

abbrev now_known : Coming → Config
now_known k = record k.was.known { tables = with_entry k.id k.row k.was.known.tables }

-- the test by which a table of this name is found
abbrev is_member : Config → List ℕ → ℕ × TableRow → Bool
is_member c table e = e.1.live && bytes_eq table e.1.name && is_some (set_row e.1.set_id c)

not_member : (c : Config) (table : List ℕ) (e : ℕ × TableRow) → bytes_eq table e.1.name ≡ false →
    is_member c table e ≡ false
not_member c table e other = by e.1.live
  where
    by : (b : Bool) → (b && bytes_eq table e.1.name && is_some (set_row e.1.set_id c)) ≡ false
    by true = ap (λ b. b && is_some (set_row e.1.set_id c)) other
    by false = refl

-- it is found in its set, if that is live
found_alone : (k : Coming) → is_member k.was.known k.row.name (k.id, k.row) ≡ true →
    set_of k.row.name (now_known k) ≡ Some k.row.set_id
found_alone k passes =
    ap (option_map (λ e. e.1.set_id))
    (find_alone (is_member k.was.known k.row.name) k.id k.row k.was.known.tables k.fresh passes
    (all_map (λ e. bytes_eq k.row.name e.1.name ≡ false) (λ e. is_member k.was.known k.row.name e ≡ false)
    (not_member k.was.known k.row.name) k.was.known.tables
    (any_none (λ e. bytes_eq k.row.name e.1.name) k.was.known.tables k.unused)))

-- and where it is not found, all are found as before
found_past : (k : Coming) (table : List ℕ) → is_member k.was.known table (k.id, k.row) ≡ false →
    set_of table (now_known k) ≡ set_of table k.was.known
found_past k table other =
    ap (option_map (λ e. e.1.set_id))
    (find_past (is_member k.was.known table) k.id k.row k.was.known.tables k.fresh other)

-- a table that was known has another name
another_name : (k : Coming) (table : List ℕ) → IsListed table k.was.known → bytes_eq table k.row.name ≡ false
another_name k table listed =
    false_from_ne_true (bytes_eq table k.row.name) (λ same. true≢false (sym listed
    ∙ ap (λ name. list_any (λ e. bytes_eq name e.1.name) k.was.known.tables) (bytes_same table k.row.name same)
    ∙ k.unused))

-- the tables that were known stay in their sets
still_there : (k : Coming) → Stay k.was.known (now_known k)
still_there k = record {
  listed = λ table listed. any_with (λ e. bytes_eq table e.1.name) k.id k.row k.was.known.tables k.fresh listed;
  member = λ table set is. inl (found_past k table (not_member k.was.known table (k.id, k.row)
      (another_name k table (listed_member table k.was.known set is))) ∙ is);
  only = λ table set listed only.
      all_with (λ e. bytes_eq table e.1.name ≡ true → e.1.set_id ≡ set) k.id k.row k.was.known.tables
      (λ same. absurd (true≢false (sym same ∙ another_name k table listed))) only;
}

whole_with : (k : Coming) → is_some (entry_at k.row.set_id k.was.known.sets) ≡ true →
    (is_owner k.was.own k.row.set_id k.was.known ≡ true → is_some (set_row k.row.set_id k.was.known) ≡ true) →
    IsWhole k.was.own (now_known k)
whole_with k known own = record {
  knows = k.was.holds.whole.knows;
  sets = k.was.holds.whole.sets;
  tables =
      all_with (λ e. is_some (entry_at e.1.set_id k.was.known.sets) ≡ true) k.id k.row k.was.known.tables known
      k.was.holds.whole.tables;
  names = λ e f first second.
      by e f (with_among k.id k.row k.was.known.tables e first) (with_among k.id k.row k.was.known.tables f second);
  live = λ e among some.
      elim (with_among k.id k.row k.was.known.tables e among) [
        | inl is ↦ ap (λ (e : ℕ × TableRow). e.1.live) is ∙ k.live
        | inr there ↦ k.was.holds.whole.live e there some
      ];
  ended = λ e among owns live.
      elim (with_among k.id k.row k.was.known.tables e among) [
        | inl is ↦
            subst (λ (f : ℕ × TableRow). is_some (set_row f.1.set_id k.was.known) ≡ true) (sym is)
            (own (subst (λ (f : ℕ × TableRow). is_owner k.was.own f.1.set_id k.was.known ≡ true) is owns))
        | inr there ↦ k.was.holds.whole.ended e there owns live
      ];
}
  where
    other : (e : ℕ × TableRow) → IsAmong e k.was.known.tables → e.1.name ≡ k.row.name → ⊥
    other e among same =
        true≢false (sym (among_any (λ e. bytes_eq k.row.name e.1.name) e k.was.known.tables among
        (subst (λ name. bytes_eq k.row.name name ≡ true) (sym same) (bytes_itself k.row.name))) ∙ k.unused)

    by : (e f : ℕ × TableRow) → (e ≡ (k.id, k.row)) ⊎ IsAmong e k.was.known.tables →
        (f ≡ (k.id, k.row)) ⊎ IsAmong f k.was.known.tables → e.1.name ≡ f.1.name → e.1.set_id ≡ f.1.set_id
    by e f (inl one) (inl two) same = ap (λ (e : ℕ × TableRow). e.1.set_id) (one ∙ sym two)
    by e f (inl one) (inr two) same =
        absurd (other f two (sym same ∙ ap (λ (e : ℕ × TableRow). e.1.name) one))
    by e f (inr one) (inl two) same = absurd (other e one (same ∙ ap (λ (e : ℕ × TableRow). e.1.name) two))
    by e f (inr one) (inr two) same = k.was.holds.whole.names e f one two same

-- ---- into a set of the node

-- A table that a node puts into one of its sets, by a deed.
pub record Adding : Type 0 where
  table : Coming
  sound : Sound table.was.place
  deed : Deed
  first : deed.first ≡ table.was.place.numbers.next
  rows : deed.rows ≡ (table.row.name, standing_rows table.was.place table.row.name) ∷ []
  leads : is_origin table.was.own table.row.set_id table.was.known ≡ true
  free : writer_of (table.row.name ∷ []) table.was.place ≡ None

-- the stretch that begins
abbrev pub new_stretch : Adding → Stretch
new_stretch a = record {
  set_id = a.table.row.set_id;
  era = era_of a.table.row.set_id a.table.was.known;
  table = a.table.row.name;
  first = a.deed.first;
  last = None;
  before = standing_rows a.table.was.place a.table.row.name;
}

found_here : (a : Adding) → set_of a.table.row.name (now_known a.table) ≡ Some a.table.row.set_id
found_here a =
    let k = a.table in
    found_alone k
    (ap (λ b. b && bytes_eq k.row.name k.row.name && is_some (set_row k.row.set_id k.was.known)) k.live
    ∙ ap (λ b. b && is_some (set_row k.row.set_id k.was.known)) (bytes_itself k.row.name)
    ∙ leads_live k.was.own (set_row k.row.set_id k.was.known) a.leads)

begins : (a : Adding) → begun a.table.was.own (now_known a.table) a.deed ≡ new_stretch a ∷ []
begins a =
    ap (filter_map (λ given. stretch_in own a.deed.first c given (set_of given.0 c))) a.rows
    ∙ ap (λ o. by o) (found_here a)
    ∙ ap (λ b. if_leads b) a.leads
  where
    own : ℕ
    own = a.table.was.own

    c : Config
    c = now_known a.table

    by : Option ℕ → List Stretch
    by o = filter_map (λ (given : List ℕ × Rows). stretch_in own a.deed.first c given o)
        ((a.table.row.name, standing_rows a.table.was.place a.table.row.name) ∷ [])

    if_leads : Bool → List Stretch
    if_leads b = filter_map (λ (o : Option Stretch). o) (cond b (Some (new_stretch a)) None ∷ [])

new_holds : (a : Adding) → HoldsStretch a.table.was.place a.table.was.own (now_known a.table) (new_stretch a)
new_holds a = record {
  listed =
      any_here (λ e. bytes_eq k.row.name e.1.name) k.id k.row k.was.known.tables k.fresh (bytes_itself k.row.name);
  begun = let first = a.first in omega (arith, first);
  lasts = λ none. record {
    stands = and_from (is_origin k.was.own k.row.set_id k.was.known) (era == era) a.leads (eq-eqb era era refl);
    member = found_here a;
    only =
        all_with (λ e. bytes_eq k.row.name e.1.name ≡ true → e.1.set_id ≡ k.row.set_id) k.id k.row k.was.known.tables
        (λ same. refl) (all_map (λ e. bytes_eq k.row.name e.1.name ≡ false)
        (λ e. bytes_eq k.row.name e.1.name ≡ true → e.1.set_id ≡ k.row.set_id)
        (λ e other same. absurd (true≢false (sym same ∙ other))) k.was.known.tables
        (any_none (λ e. bytes_eq k.row.name e.1.name) k.was.known.tables k.unused));
    fills = fills_first k.was.place (new_stretch a) a.sound a.first refl a.free;
  };
}
  where
    k : Coming
    k = a.table

    era : ℕ
    era = era_of k.row.set_id k.was.known

-- what became of the stretches that were there
abbrev all_later : Coming → Deed → List Stretch
all_later k d = map (behind k.was.own (now_known k) d) k.was.all

there_now : (a : Adding) (set : ℕ) (table : List ℕ) → IsHeldBy a.table.was.own (now_known a.table) set table →
    HasStretch (now_known a.table) (new_stretch a ∷ all_later a.table a.deed) set table
there_now a set table held = by (bytes_eq table k.row.name) refl
  where
    k : Coming
    k = a.table

    rest : List Stretch
    rest = all_later k a.deed

    era : ℕ
    era = era_of set k.was.known

    test : Stretch → Bool
    test = is_stretch set era table

    by : (b : Bool) → bytes_eq table k.row.name ≡ b → HasStretch (now_known k) (new_stretch a ∷ rest) set table
    by true same =
        let one : Some k.row.set_id ≡ Some set =
        sym (found_here a) ∙ ap (λ name. set_of name (now_known k)) (sym (bytes_same table k.row.name same)) ∙ held.0 in
        let here : k.row.set_id ≡ set = cc in
        let passes : test (new_stretch a) ≡ true =
        and_from (k.row.set_id == set) (era_of k.row.set_id k.was.known == era && bytes_eq table k.row.name)
        (eq-eqb k.row.set_id set here)
        (and_from (era_of k.row.set_id k.was.known == era) (bytes_eq table k.row.name)
        (eq-eqb (era_of k.row.set_id k.was.known) era (ap (λ i. era_of i k.was.known) here)) same) in
        record {
          stretch = new_stretch a;
          found = ap (λ b. cond b (Some (new_stretch a)) (find test rest)) passes;
          lasts = refl;
        }
    by false other =
        let past = found_past k table (not_member k.was.known table (k.id, k.row) other) in
        let there =
        there_behind k.was (now_known k) a.deed set table (sym past ∙ held.0, held.1)
        (record { origin = held.1; era = refl }) in
        let misses : test (new_stretch a) ≡ false =
        and_right (k.row.set_id == set) (era_of k.row.set_id k.was.known == era && bytes_eq table k.row.name)
        (and_right (era_of k.row.set_id k.was.known == era) (bytes_eq table k.row.name) other) in
        record {
          stretch = there.stretch;
          found = ap (λ b. cond b (Some (new_stretch a)) (find test rest)) misses ∙ there.found;
          lasts = there.lasts;
        }

-- the stretches behind a deed by which the table comes
abbrev HoldsWith : Coming → Deed → Type 0
HoldsWith k d = StretchesHold k.was.place k.was.own (now_known k) (stretches_by k.was.own (now_known k) d k.was.all)

all_still : (k : Coming) (d : Deed) →
    AllByRecursion (HoldsStretch k.was.place k.was.own (now_known k)) (all_later k d)
all_still k d =
    all_behind k.was.place k.was.own k.was.known (now_known k) d (still_there k) k.was.all k.was.holds.each

adds_holds : (a : Adding) → HoldsWith a.table a.deed
adds_holds a =
    subst (StretchesHold k.was.place k.was.own (now_known k))
    (ap (λ first. first ++ all_later k a.deed) (sym (begins a))) (record {
      whole =
          whole_with k (leads_known k.was.own (entry_at k.row.set_id k.was.known.sets) a.leads)
          (λ owns. leads_live k.was.own (set_row k.row.set_id k.was.known) a.leads);
      each = (new_holds a, all_still k a.deed);
      there = there_now a;
    })
  where
    k : Coming
    k = a.table

-- ---- into a set of another node

-- A table that comes into a set of which the node is not the origin.
record Following : Type 0 where
  table : Coming
  deed : Deed
  rows : deed.rows ≡ []
  known : is_some (entry_at table.row.set_id table.was.known.sets) ≡ true
  other : is_owner table.was.own table.row.set_id table.was.known ≡ false

-- what the node holds as an origin it held before
held_before : (f : Following) (set : ℕ) (table : List ℕ) → IsHeldBy f.table.was.own (now_known f.table) set table →
    set_of table f.table.was.known ≡ Some set
held_before f set table held = by (is_member k.was.known table (k.id, k.row)) refl
  where
    k : Coming
    k = f.table

    by : (b : Bool) → is_member k.was.known table (k.id, k.row) ≡ b → set_of table k.was.known ≡ Some set
    by true passes =
        let parts = and_parts (k.row.live && bytes_eq table k.row.name) (is_some (set_row k.row.set_id k.was.known))
        passes in
        let name = bytes_same table k.row.name (and_parts k.row.live (bytes_eq table k.row.name) parts.0).1 in
        let one : Some k.row.set_id ≡ Some set =
        sym (found_alone k (ap (λ name. is_member k.was.known name (k.id, k.row)) (sym name) ∙ passes))
        ∙ ap (λ name. set_of name (now_known k)) (sym name) ∙ held.0 in
        let here : k.row.set_id ≡ set = cc in
        absurd (true≢false (sym held.1 ∙ ap (λ i. is_origin k.was.own i k.was.known) (sym here)
        ∙ owns_not k.was.own k.row.set_id k.was.known f.other))
    by false other = sym (found_past k table other) ∙ held.0

follows_holds : (f : Following) → HoldsWith f.table f.deed
follows_holds f =
    subst (StretchesHold k.was.place k.was.own (now_known k))
    (sym (none_begin k.was.own (now_known k) f.deed k.was.all f.rows)) (record {
      whole = whole_with k f.known (λ owns. absurd (true≢false (sym owns ∙ f.other)));
      each = all_still k f.deed;
      there = λ set table held.
          there_behind k.was (now_known k) f.deed set table (held_before f set table held, held.1)
          (record { origin = held.1; era = refl });
    })
  where
    k : Coming
    k = f.table

-- ---- any deed of a node

abbrev pub before_deed : (p : Place) (n : Node) → NodeHolds p n → Before
before_deed p n h =
    record { place = p; own = n.id; known = (knowledge n).config; all = stretches n; holds = h }

-- what holds where the node knows this behind the deed
abbrev HoldsBy : Place → Node → Deed → Config → Type 0
HoldsBy p n d c = StretchesHold p n.id c (stretches_by n.id c d (stretches n))

-- ---- what is found behind a deed

-- the stretch of another table is found as before, with what the deed makes of it
abbrev FindsBy : Node → Deed → (Stretch → Bool) → Config → Type 0
FindsBy n d test c =
    find test (stretches_by n.id c d (stretches n)) ≡ option_map (behind n.id c d) (find test (stretches n))

finds_rest : (n : Node) (d : Deed) (set era : ℕ) (table : List ℕ) (c : Config) → d.rows ≡ [] →
    FindsBy n d (is_stretch set era table) c
finds_rest n d set era table c none =
    ap (find (is_stretch set era table)) (none_begin n.id c d (stretches n) none)
    ∙ find_mapped (is_stretch set era table) (behind n.id c d)
    (same_stretch n.id c d (is_stretch set era table) (λ s last. refl)) (stretches n)

finds_added : (a : Adding) (set era : ℕ) (table : List ℕ) → IsListed table a.table.was.known →
    find (is_stretch set era table) (stretches_by a.table.was.own (now_known a.table) a.deed a.table.was.all)
    ≡ option_map (behind a.table.was.own (now_known a.table) a.deed)
    (find (is_stretch set era table) a.table.was.all)
finds_added a set era table listed =
    ap (λ first. find test (first ++ rest)) (begins a)
    ∙ ap (λ b. cond b (Some (new_stretch a)) (find test rest)) misses
    ∙ find_mapped test (behind k.was.own (now_known k) a.deed)
    (same_stretch k.was.own (now_known k) a.deed test (λ s last. refl)) k.was.all
  where
    k : Coming
    k = a.table

    test : Stretch → Bool
    test = is_stretch set era table

    rest : List Stretch
    rest = all_later k a.deed

    misses : test (new_stretch a) ≡ false
    misses =
        and_right (k.row.set_id == set) (era_of k.row.set_id k.was.known == era && bytes_eq table k.row.name)
        (and_right (era_of k.row.set_id k.was.known == era) (bytes_eq table k.row.name) (another_name k table listed))

-- A deed of a node of a database.
pub record OneDeed (p : Place) : Type 0 where
  pub node : Node
  pub deed : Deed
  pub first : deed.first ≡ p.numbers.next
  pub fit : Fit p node deed

abbrev coming_of : (p : Place) (d : OneDeed p) → NodeHolds p d.node → Comes d.node d.deed → Coming
coming_of p d h k = record {
  was = before_deed p d.node h;
  id = k.table_id;
  row = record { set_id = k.set_id; name = k.name; live = true; comment = k.comment };
  fresh = k.new;
  unused = k.unused;
  live = refl;
}

abbrev pub adding_of : (p : Place) (d : OneDeed p) → Sound p → NodeHolds p d.node → Adds p d.node d.deed → Adding
adding_of p d sound h a = record {
  table = coming_of p d h a.table;
  sound = sound;
  deed = d.deed;
  first = d.first;
  rows = a.rows;
  leads = a.leads;
  free = a.free;
}

abbrev following_of : (p : Place) (d : OneDeed p) → NodeHolds p d.node → Follows d.node d.deed → Following
following_of p d h f =
    record { table = coming_of p d h f.table; deed = d.deed; rows = f.rows; known = f.known; other = f.other }

-- what the node knows behind it
abbrev pub known_behind : (p : Place) → OneDeed p → Config
known_behind p d = (learned d.node.id d.deed.doing (knowledge d.node)).config

-- the event that a node meets by a deed, if it meets one, says what it then knows
abbrev changed_by : Option Event → Config → Config
changed_by None c = c
changed_by (Some e) c = change e c

met_changes : (own : ℕ) (k : Knowledge) (doing : Doing) →
    (learned own doing k).config ≡ changed_by (met_by doing) k.config
met_changes own k (Emits e) = refl
met_changes own k others = refl

pub told : (p : Place) (d : OneDeed p) (e : Event) (body : Body) → met_by d.deed.doing ≡ Some e → e.body ≡ body →
    known_behind p d ≡ change_by e.origin e.number body (knowledge d.node).config
told p d e body met is =
    met_changes d.node.id (knowledge d.node) d.deed.doing
    ∙ ap (λ o. changed_by o (knowledge d.node).config) met
    ∙ ap (λ body. change_by e.origin e.number body (knowledge d.node).config) is

pub deed_holds : (p : Place) (d : OneDeed p) → Sound p → NodeHolds p d.node →
    NodeHolds p (with_deeds (d.deed ∷ []) d.node)
deed_holds p d sound h = by d.fit
  where
    by : Fit p d.node d.deed → NodeHolds p (with_deeds (d.deed ∷ []) d.node)
    by (Keeps none kept) = keeps_holds (before_deed p d.node h) _ d.deed none kept
    by (CreatesSet a) =
        subst (HoldsBy p d.node d.deed) (sym (told p d a.event _ a.met a.body))
        (creates_holds (before_deed p d.node h) a.set_id _ d.deed a.rows a.new a.known)
    by (AddsTable a) =
        subst (HoldsBy p d.node d.deed) (sym (told p d a.table.event _ a.table.met a.table.body))
        (adds_holds (adding_of p d sound h a))
    by (FollowsTable f) =
        subst (HoldsBy p d.node d.deed) (sym (told p d f.table.event _ f.table.met f.table.body))
        (follows_holds (following_of p d h f))
    by (DropsSet e) =
        subst (HoldsBy p d.node d.deed) (sym (told p d e.event _ e.met e.body))
        (drops_holds (before_deed p d.node h) e.set_id (e.event.origin, e.event.number) d.deed e.rows)

pub finds_behind : (p : Place) (d : OneDeed p) (set era : ℕ) (table : List ℕ) → Sound p → NodeHolds p d.node →
    IsListed table (knowledge d.node).config →
    FindsBy d.node d.deed (is_stretch set era table) (known_behind p d)
finds_behind p d set era table sound h listed = by d.fit
  where
    by : Fit p d.node d.deed → FindsBy d.node d.deed (is_stretch set era table) (known_behind p d)
    by (Keeps none kept) = finds_rest d.node d.deed set era table (known_behind p d) none
    by (CreatesSet a) = finds_rest d.node d.deed set era table (known_behind p d) a.rows
    by (AddsTable a) =
        subst (FindsBy d.node d.deed (is_stretch set era table))
        (sym (told p d a.table.event _ a.table.met a.table.body))
        (finds_added (adding_of p d sound h a) set era table listed)
    by (FollowsTable f) = finds_rest d.node d.deed set era table (known_behind p d) f.rows
    by (DropsSet e) = finds_rest d.node d.deed set era table (known_behind p d) e.rows

-- ---- tables behind a deed

-- tables that were known stay in their sets
pub stays_behind : (p : Place) (d : OneDeed p) → Sound p → NodeHolds p d.node →
    Stay (knowledge d.node).config (known_behind p d)
stays_behind p d sound h = by d.fit
  where
    comes : Comes d.node d.deed → Stay (knowledge d.node).config (known_behind p d)
    comes k =
        subst (Stay (knowledge d.node).config) (sym (told p d k.event _ k.met k.body))
        (still_there (coming_of p d h k))

    by : Fit p d.node d.deed → Stay (knowledge d.node).config (known_behind p d)
    by (Keeps none kept) = kept_stay (knowledge d.node).config (known_behind p d) kept
    by (CreatesSet a) =
        subst (Stay (knowledge d.node).config) (sym (told p d a.event _ a.met a.body))
        (created_stay d.node.id (knowledge d.node).config a.set_id _ h.whole a.new)
    by (AddsTable a) = comes a.table
    by (FollowsTable f) = comes f.table
    by (DropsSet e) =
        subst (Stay (knowledge d.node).config) (sym (told p d e.event _ e.met e.body))
        (dropped_stay d.node.id (knowledge d.node).config e.set_id (e.event.origin, e.event.number) h.whole)

-- the stretch that begins with a table
abbrev pub new_behind : (p : Place) (d : OneDeed p) → Sound p → NodeHolds p d.node → Adds p d.node d.deed → Stretch
new_behind p d sound h a = new_stretch (adding_of p d sound h a)

pub begins_behind : (p : Place) (d : OneDeed p) (sound : Sound p) (h : NodeHolds p d.node) (a : Adds p d.node d.deed) →
    begun d.node.id (known_behind p d) d.deed ≡ new_behind p d sound h a ∷ []
begins_behind p d sound h a =
    ap (λ c. begun d.node.id c d.deed) (told p d a.table.event _ a.table.met a.table.body)
    ∙ begins (adding_of p d sound h a)
