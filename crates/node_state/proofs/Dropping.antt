-- What a node learns of the tables of sets by an event by which a set ends.
use Rattle.std.proofs.Common.{◌≡◌, ◌∙◌, ℕ, Bool, true, false, cond, List, [], ◌∷◌, Option, Some, None, T, refl, sym, ap}
use Rattle.std.proofs.Common.{subst, is_some, map}
use Rattle.std.specs.Prelude.{◌==◌, ◌&&◌, ◌||◌}
use Rattle.std.specs.Cmp.Lexicographic.{nat_list_cmp_total}
use Rattle.std.specs.FinMap.{get, empty, entries, entries_sorted, get-empty, get-entries, get-insert, insert}
use Rattle.std.specs.FinMap.Entries.{find, is_sorted}
use Rattle.std.specs.List.{list_any}
use Rattle.std.specs.Option.{option_or}
use Rattle.std.specs.Ordering.{is_eq}
use Rattle.std.specs.declared.cmp.Ordering.TheVariants.{Less}
use Rattle.std.specs.Str.{bytes_eq}
use Rattle.std.proofs.lemmas.Bool.{eqb-true, false≢true}
use Rattle.std.proofs.lemmas.Map.Text.{is_eq-slice_cmp}
use Rattle.std.proofs.lemmas.Slice.Eq.{bytes_eq-Decides}
use Rattle.slon_lemmas.proofs.Tests.{back_of, front_of}
use Rattle.slon_base.specs.Keeper.{key_cmp}
use Rattle.slon_base.proofs.Order.{find_none}
use Rattle.store_rows.specs.Rows.{IsId}
use Rattle.node_rows.specs.declared.body.Body.TheVariants.{DropSet}
use Rattle.node_rows.specs.declared.rows.SetRow.{SetRow}
use Rattle.node_rows.specs.declared.rows.TableRow.{TableRow}
use Rattle.slon_model.specs.Maps.{Map, entry_at}
use Rattle.slon_model.specs.Events.{Event}
use Rattle.slon_model.specs.Config.{Config, dropped_tables, leads_row, live_set}
use Rattle.slon_model.specs.Deeds.{Node, knowledge}
use Rattle.node_state.specs.declared.memory.Member.{Member}
use Rattle.node_state.specs.Held.{AreHomed, NamesDiffer}
use Rattle.node_state.specs.Known.{LearnsAs, outside}
use Rattle.node_state.specs.Members.{MemberMap, config_of, member_by, member_in}
use Rattle.node_state.proofs.Joining.{in_more, or_none}
use Rattle.node_state.proofs.Learning.{with_body}
use Rattle.node_state.proofs.Nobody.{AreLive}

-- ---- the rows

-- a set and a table that are not live
abbrev ended : ℕ × SetRow → ℕ × SetRow
ended e = (e.0, record e.1 { live = false })

abbrev dropped : ℕ × TableRow → ℕ × TableRow
dropped e = (e.0, record e.1 { live = false })

-- the set ends among these
abbrev pub ended_sets : ℕ → Map SetRow → Map SetRow
ended_sets set sets = map (λ e. cond (e.0 == set) (ended e) e) sets

-- another one is as it was
pub other_set : (set q : ℕ) (sets : Map SetRow) → (q == set) ≡ false →
    entry_at q (ended_sets set sets) ≡ entry_at q sets
other_set set q [] other = refl
other_set set q (e ∷ es) other = by (e.0 == set) refl (q == e.0) refl (other_set set q es other)
  where
    by : (ends : Bool) → (e.0 == set) ≡ ends → (here : Bool) → (q == e.0) ≡ here →
        entry_at q (ended_sets set es) ≡ entry_at q es →
        entry_at q (cond ends (ended e) e ∷ ended_sets set es) ≡ entry_at q (e ∷ es)
    by true is true same later =
        let bad : false ≡ true = sym other ∙ ap (λ k. k == set) (eqb-true q e.0 same) ∙ is in
        absurd cc
    by true is false same later =
        ap (λ b. cond b (Some (ended e).1) (entry_at q (ended_sets set es))) same ∙ later
        ∙ sym (ap (λ b. cond b (Some e.1) (entry_at q es)) same)
    by false is here same later = ap (λ o. cond (q == e.0) (Some e.1) o) later

-- and all that were known are known
pub still_set : (set q : ℕ) (sets : Map SetRow) → is_some (entry_at q sets) ≡ true →
    is_some (entry_at q (ended_sets set sets)) ≡ true
still_set set q [] is = is
still_set set q (e ∷ es) is = by (e.0 == set) (q == e.0) refl is (still_set set q es)
  where
    by : (ends here : Bool) → (q == e.0) ≡ here → is_some (cond here (Some e.1) (entry_at q es)) ≡ true →
        (is_some (entry_at q es) ≡ true → is_some (entry_at q (ended_sets set es)) ≡ true) →
        is_some (entry_at q (cond ends (ended e) e ∷ ended_sets set es)) ≡ true
    by true true same is later =
        ap (λ b. is_some (cond b (Some (ended e).1) (entry_at q (ended_sets set es)))) same
    by false true same is later = ap (λ b. is_some (cond b (Some e.1) (entry_at q (ended_sets set es)))) same
    by true false same is later =
        ap (λ b. is_some (cond b (Some (ended e).1) (entry_at q (ended_sets set es)))) same ∙ later is
    by false false same is later =
        ap (λ b. is_some (cond b (Some e.1) (entry_at q (ended_sets set es)))) same ∙ later is

-- a test of the names of tables gives what it gave
pub names_same : (p : List ℕ → Bool) (set : ℕ) (es : Map TableRow) →
    list_any (λ e. p e.1.name) (dropped_tables set es) ≡ list_any (λ e. p e.1.name) es
names_same p set [] = refl
names_same p set (e ∷ es) = by (e.1.set_id == set) (names_same p set es)
  where
    by : (b : Bool) → list_any (λ t. p t.1.name) (dropped_tables set es) ≡ list_any (λ t. p t.1.name) es →
        list_any (λ t. p t.1.name) (cond b (dropped e) e ∷ dropped_tables set es)
        ≡ list_any (λ t. p t.1.name) (e ∷ es)
    by true later = ap (λ b. p e.1.name || b) later
    by false later = ap (λ b. p e.1.name || b) later

-- ---- the members

-- no table of the name of one before it
none_behind : (own : ℕ) (sets : Map SetRow) (name : List ℕ) (es : Map TableRow) →
    list_any (λ t. bytes_eq name t.1.name) es ≡ false → member_in own (config_of sets es) name ≡ None
none_behind own sets name [] none = refl
none_behind own sets name (e ∷ es) none =
    in_more own sets e es name
    ∙ by (bytes_eq name e.1.name) refl none (none_behind own sets name es)
  where
    rest : Option Member
    rest = member_in own (config_of sets es) name

    found : Option SetRow
    found = live_set (entry_at e.1.set_id sets)

    here : Member
    here = record { table = e.0; set = e.1.set_id; leads = leads_row own found }

    never : (live set : Bool) → option_or (cond (live && false && set) (Some here) None) rest ≡ rest
    never true set = refl
    never false set = refl

    by : (b : Bool) → bytes_eq name e.1.name ≡ b → (b || list_any (λ t. bytes_eq name t.1.name) es) ≡ false →
        (list_any (λ t. bytes_eq name t.1.name) es ≡ false → rest ≡ None) →
        option_or (member_by own sets e name) rest ≡ None
    by true is none later = absurd (false≢true (sym none))
    by false is none later =
        ap (λ b. option_or (cond (e.1.live && b && is_some found) (Some here) None) rest) is
        ∙ never e.1.live (is_some found) ∙ later none

-- a name is that of one table
members_left : (own set : ℕ) (sets : Map SetRow) (es : Map TableRow) (name : List ℕ) → NamesDiffer es →
    member_in own (config_of (ended_sets set sets) (dropped_tables set es)) name
    ≡ outside set (member_in own (config_of sets es) name)
members_left own set sets [] name once = refl
members_left own set sets (e ∷ es) name once =
    in_more own (ended_sets set sets) (cond (e.1.set_id == set) (dropped e) e)
    (dropped_tables set es) name
    ∙ ap (option_or (member_by own (ended_sets set sets)
    (cond (e.1.set_id == set) (dropped e) e) name)) (members_left own set sets es name once.1)
    ∙ by (e.1.set_id == set) refl
    ∙ ap (outside set) (sym (in_more own sets e es name))
  where
    rest : Option Member
    rest = member_in own (config_of sets es) name

    of : Option SetRow → Member
    of found = record { table = e.0; set = e.1.set_id; leads = leads_row own found }

    -- it was one of the set, and the last one of its name
    gone : (live named some : Bool) (m : Member) → m.set ≡ e.1.set_id → (e.1.set_id == set) ≡ true →
        (named ≡ true → rest ≡ None) →
        outside set rest ≡ outside set (option_or (cond (live && named && some) (Some m) None) rest)
    gone false named some m at is last = refl
    gone true false some m at is last = refl
    gone true true false m at is last = refl
    gone true true true m at is last =
        ap (outside set) (last refl)
        ∙ sym (ap (λ b. cond b None (Some m)) (ap (λ k. k == set) at ∙ is))

    -- it is one of another set
    stays : (b : Bool) (m : Member) → m.set ≡ e.1.set_id → (e.1.set_id == set) ≡ false →
        option_or (cond b (Some m) None) (outside set rest) ≡ outside set (option_or (cond b (Some m) None) rest)
    stays true m at is = sym (ap (λ b. cond b None (Some m)) (ap (λ k. k == set) at ∙ is))
    stays false m at is = refl

    none : bytes_eq name e.1.name ≡ true → rest ≡ None
    none named =
        let same : name ≡ e.1.name = (bytes_eq-Decides name e.1.name).0 named in
        none_behind own sets name es (ap (λ k. list_any (λ t. bytes_eq k t.1.name) es) same ∙ once.0)

    by : (b : Bool) → (e.1.set_id == set) ≡ b →
        option_or (member_by own (ended_sets set sets) (cond b (dropped e) e) name)
        (outside set rest) ≡ outside set (option_or (member_by own sets e name) rest)
    by true is =
        let found = live_set (entry_at e.1.set_id sets) in
        gone e.1.live (bytes_eq name e.1.name) (is_some found) (of found) refl is none
    by false is =
        let found = live_set (entry_at e.1.set_id sets) in
        ap (λ o. let l = live_set o in
        option_or (cond (e.1.live && bytes_eq name e.1.name && is_some l) (Some (of l)) None) (outside set rest))
        (other_set set e.1.set_id sets is)
        ∙ stays (e.1.live && bytes_eq name e.1.name && is_some found) (of found) refl is

-- an event by which the set ends
pub drop_learns : {leads : Bool} {set : ℕ} (n : Node) (e : Event) → e.body ≡ DropSet set →
    AreHomed (knowledge n).config → LearnsAs leads n e
drop_learns {leads} {set} n e is homes =
    subst (λ body. LearnsAs leads n (with_body e body)) (sym is) (record {
      members = λ name. members_left n.id set c.sets c.tables name homes.1;
      names = λ name. names_same (bytes_eq name) set c.tables;
      home = tt;
    })
  where
    c : Config
    c = (knowledge n).config

-- ---- what is kept in memory

-- These members were taken over, and those that are left are to be looked at: together they are all but those of the
-- set.
pub record Goes (set : ℕ) (all : Option Member) (name : List ℕ) (rest : List (List ℕ × Member)) (left : MemberMap) :
    Type 0 where
  pub sorted : T (is_sorted key_cmp rest)
  pub ahead : is_some (find key_cmp name rest) ≡ true → get left name ≡ None
  pub is : option_or (get left name) (outside set (find key_cmp name rest)) ≡ outside set all

abbrev pub AreLeft : ℕ → MemberMap → List (List ℕ × Member) → MemberMap → Type 0
AreLeft set all rest left = (name : List ℕ) → Goes set (get all name) name rest left

pub none_left_yet : (set : ℕ) (all left : MemberMap) → left ≡ empty → AreLeft set all (entries all) left
none_left_yet set all left is name = record {
  sorted = entries_sorted all;
  ahead = λ found. none;
  is = ap (λ o. option_or o (outside set (find key_cmp name (entries all)))) none
      ∙ ap (outside set) (sym (get-entries all name));
}
  where
    none : get left name ≡ None
    none = ap (λ (ms : MemberMap). get ms name) is ∙ get-empty key_cmp name

-- a key comes once among the entries
once_among : (name key : List ℕ) (m : Member) (rest : List (List ℕ × Member)) →
    T (is_sorted key_cmp ((key, m) ∷ rest)) → is_eq (key_cmp name key) ≡ true → find key_cmp name rest ≡ None
once_among name key m rest sorted same =
    find_none name key rest
    (subst (λ k. (g : List ℕ) → key_cmp key g ≡ Less → key_cmp k g ≡ Less) (sym is) (λ g less. less))
    (front_of _ _ sorted)
  where
    is : name ≡ key
    is = (bytes_eq-Decides name key).0 (sym (is_eq-slice_cmp name key) ∙ same)

-- the next one is one of the set
pub passed_by : (set : ℕ) (all left : MemberMap) (key : List ℕ) (m : Member) (rest : List (List ℕ × Member)) →
    (m.set == set) ≡ true → AreLeft set all ((key, m) ∷ rest) left → AreLeft set all rest left
passed_by set all left key m rest of_set goes name = by (is_eq (key_cmp name key)) refl (goes name)
  where
    by : (b : Bool) → is_eq (key_cmp name key) ≡ b → Goes set (get all name) name ((key, m) ∷ rest) left →
        Goes set (get all name) name rest left
    by true same g =
        let none = g.ahead (ap (λ b. is_some (cond b (Some m) (find key_cmp name rest))) same) in
        let over = once_among name key m rest g.sorted same in
        record {
          sorted = back_of _ _ g.sorted;
          ahead = λ found. none;
          is = ap (λ o. option_or o (outside set (find key_cmp name rest))) none ∙ ap (outside set) over
              ∙ sym (ap (λ b. cond b None (Some m)) of_set)
              ∙ sym (ap (λ b. outside set (cond b (Some m) (find key_cmp name rest))) same)
              ∙ sym (ap (λ o. option_or o (outside set (find key_cmp name ((key, m) ∷ rest)))) none) ∙ g.is;
        }
    by false other g = record {
      sorted = back_of _ _ g.sorted;
      ahead = λ found. g.ahead (ap (λ b. is_some (cond b (Some m) (find key_cmp name rest))) other ∙ found);
      is = sym (ap (λ b. option_or (get left name) (outside set (cond b (Some m) (find key_cmp name rest)))) other)
          ∙ g.is;
    }

-- the next one is of another set, and taken over
pub taken_over : (set : ℕ) (all left new : MemberMap) (e : List ℕ × Member) (rest : List (List ℕ × Member)) →
    ((e.1.set == set) ≡ false) × (new ≡ insert left e.0 e.1) → AreLeft set all (e ∷ rest) left →
    AreLeft set all rest new
taken_over set all left new e rest (of_other, is) goes name = by (is_eq (key_cmp name e.0)) refl (goes name)
  where
    now : get new name ≡ cond (is_eq (key_cmp name e.0)) (Some e.1) (get left name)
    now = ap (λ (ms : MemberMap). get ms name) is ∙ get-insert nat_list_cmp_total left e.0 e.1 name

    by : (b : Bool) → is_eq (key_cmp name e.0) ≡ b → Goes set (get all name) name (e ∷ rest) left →
        Goes set (get all name) name rest new
    by true same g =
        let none = g.ahead (ap (λ b. is_some (cond b (Some e.1) (find key_cmp name rest))) same) in
        let over = once_among name e.0 e.1 rest g.sorted same in
        let here = now ∙ ap (λ b. cond b (Some e.1) (get left name)) same in
        record {
          sorted = back_of _ _ g.sorted;
          ahead = λ found. absurd (false≢true (sym (ap is_some over) ∙ found));
          is = ap (λ o. option_or o (outside set (find key_cmp name rest))) here
              ∙ sym (ap (λ b. cond b None (Some e.1)) of_other)
              ∙ sym (ap (λ b. outside set (cond b (Some e.1) (find key_cmp name rest))) same)
              ∙ sym (ap (λ o. option_or o (outside set (find key_cmp name (e ∷ rest)))) none) ∙ g.is;
        }
    by false other g =
        let here = now ∙ ap (λ b. cond b (Some e.1) (get left name)) other in
        record {
          sorted = back_of _ _ g.sorted;
          ahead = λ found. here
              ∙ g.ahead (ap (λ b. is_some (cond b (Some e.1) (find key_cmp name rest))) other ∙ found);
          is = let ahead = find key_cmp name rest in
              ap (λ o. option_or o (outside set ahead)) here
              ∙ sym (ap (λ b. option_or (get left name) (outside set (cond b (Some e.1) ahead))) other) ∙ g.is;
        }

pub all_left : (set : ℕ) (all left : MemberMap) → AreLeft set all [] left → (name : List ℕ) →
    get left name ≡ outside set (get all name)
all_left set all left goes name = sym (or_none (get left name)) ∙ (goes name).is

-- their ids are in their range
pub left_live : (set : ℕ) (all left : MemberMap) →
    ((name : List ℕ) → get left name ≡ outside set (get all name)) → AreLive all → AreLive left
left_live set all left are live name m found = by (get all name) refl (sym (are name) ∙ found)
  where
    by : (o : Option Member) → get all name ≡ o → outside set o ≡ Some m → IsId m.table × IsId m.set
    by None at none = absurd cc
    by (Some other) at is = step (other.set == set) is
      where
        step : (b : Bool) → cond b None (Some other) ≡ Some m → IsId m.table × IsId m.set
        step true none = absurd cc
        step false same = let one : other ≡ m = cc in live name m (at ∙ ap Some one)
