-- What a node learns of the tables of sets by an event that it emits or applies.
use Rattle.std.proofs.Common.{◌≡◌, ℕ, Bool, true, false, cond, List, [], ◌∷◌, Option, Some, None, refl, sym, ap, subst}
use Rattle.std.proofs.Common.{◌∙◌, is_some}
use Rattle.std.specs.Prelude.{◌&&◌, ◌||◌, ◌==◌, nat_lt, find}
use Rattle.std.specs.List.{list_any}
use Rattle.std.specs.Option.{option_map, option_or}
use Rattle.std.specs.Str.{bytes_eq}
use Rattle.std.proofs.lemmas.Bool.{eqb-true, false_from_ne_true, false≢true}
use Rattle.std.proofs.lemmas.Slice.Eq.{bytes_eq-Decides}
use Rattle.slon_base.specs.Codec.{AllAre}
use Rattle.node_rows.specs.declared.body.Body.{Body}
use Rattle.node_rows.specs.declared.body.Body.TheVariants.{StoreSet, DropSet, SetAddTable, MoveSet, FailoverSet}
use Rattle.node_rows.specs.declared.rows.SetRow.{SetRow}
use Rattle.node_rows.specs.declared.rows.TableRow.{TableRow}
use Rattle.slon_model.specs.Maps.{Map, entry_at, with_entry}
use Rattle.slon_model.specs.Events.{Event}
use Rattle.slon_model.specs.Config.{Config, live_set, leads_row, set_row, is_origin, member_of}
use Rattle.slon_model.specs.Deeds.{Node, knowledge}
use Rattle.set_config.proofs.Entries.{entry-with}
use Rattle.node_state.specs.declared.memory.Member.{Member}
use Rattle.node_state.specs.Held.{AreHomed}
use Rattle.node_state.specs.Known.{LearnsAs, Learns, is_used, member_as}
use Rattle.node_state.specs.Members.{config_of, member_in}
use Rattle.node_state.proofs.Joining.{in_more}

-- ---- names

pub bytes_symmetric : (a b : List ℕ) → bytes_eq a b ≡ bytes_eq b a
bytes_symmetric a b =
    elim (bytes_eq a b) as (λ x. bytes_eq a b ≡ x → x ≡ bytes_eq b a) [
      | true ↦ λ is. sym ((bytes_eq-Decides b a).1 (sym ((bytes_eq-Decides a b).0 is)))
      | false ↦
          λ is. sym
          (false_from_ne_true _
          (λ same. false≢true (sym is ∙ (bytes_eq-Decides a b).1 (sym ((bytes_eq-Decides b a).0 same)))))
    ] refl

-- ---- events that change neither sets nor tables

-- what this body names changes neither the sets nor the tables of sets
abbrev pub is_plain : Body → Bool
is_plain (StoreSet set by comment) = false
is_plain (DropSet set) = false
is_plain (SetAddTable set table name comment) = false
is_plain (MoveSet set old new era feeds) = false
is_plain (FailoverSet failed limit sets) = false
is_plain others = true

-- the event with another body
abbrev pub with_body : Event → Body → Event
with_body e body = record e { body = body }

plain_body : (leads : Bool) (n : Node) (e : Event) (body : Body) → is_plain body ≡ true →
    LearnsAs leads n (with_body e body)
plain_body leads n e (StoreSet set by comment) plain = absurd cc
plain_body leads n e (DropSet set) plain = absurd cc
plain_body leads n e (SetAddTable set table name comment) plain = absurd cc
plain_body leads n e (MoveSet set old new era feeds) plain = absurd cc
plain_body leads n e (FailoverSet failed limit sets) plain = absurd cc
plain_body leads n e others plain = record { members = λ name. refl; names = λ name. refl; home = tt }

-- and so the node learns nothing of them
pub plain_learns : {leads : Bool} (n : Node) (e : Event) → is_plain e.body ≡ true → LearnsAs leads n e
plain_learns {leads} n e plain = plain_body leads n e e.body plain

-- ---- a new set

-- A set of which the node has not heard.
pub record IsNewSet (n : Node) (set : ℕ) : Type 0 where
  pub free : is_some (entry_at set (knowledge n).config.sets) ≡ false
  pub homes : AreHomed (knowledge n).config

-- tables find their sets alike in two maps of sets
abbrev AreAlike : Map SetRow → Map SetRow → Map TableRow → Type 0
AreAlike sets others tables = AllAre (λ e. entry_at e.1.set_id others ≡ entry_at e.1.set_id sets) tables

-- and then the members are the same
members_alike : (own : ℕ) (sets others : Map SetRow) (tables : Map TableRow) (name : List ℕ) →
    AreAlike sets others tables →
    member_in own (config_of others tables) name ≡ member_in own (config_of sets tables) name
members_alike own sets others [] name alike = refl
members_alike own sets others (e ∷ es) name alike =
    in_more own others e es name
    ∙ (λ i. option_or (of (alike.0 i)) (members_alike own sets others es name alike.1 i))
    ∙ sym (in_more own sets e es name)
  where
    of : Option SetRow → Option Member
    of found = let set = live_set found in
        cond (e.1.live && bytes_eq name e.1.name && is_some set)
        (Some (record { table = e.0; set = e.1.set_id; leads = leads_row own set })) None

-- a set is put that no table is in
sets_alike : (set : ℕ) (row : SetRow) (sets : Map SetRow) (tables : Map TableRow) →
    is_some (entry_at set sets) ≡ false → AllAre (λ e. is_some (entry_at e.1.set_id sets) ≡ true) tables →
    AreAlike sets (with_entry set row sets) tables
sets_alike set row sets [] free homes = tt
sets_alike set row sets (e ∷ es) free homes =
    (entry-with e.1.set_id set row sets ∙ step (e.1.set_id == set) refl, sets_alike set row sets es free homes.1)
  where
    step : (b : Bool) → (e.1.set_id == set) ≡ b →
        cond b (Some row) (entry_at e.1.set_id sets) ≡ entry_at e.1.set_id sets
    step true is =
        let same = ap (λ q. is_some (entry_at q sets)) (eqb-true e.1.set_id set is) in
        let bad : true ≡ false = sym homes.0 ∙ same ∙ free in
        absurd cc
    step false is = refl

-- an event that stores the set
pub set_learns : {leads : Bool} {set by : ℕ} {comment : List ℕ} (n : Node) (e : Event) →
    e.body ≡ StoreSet set by comment → IsNewSet n set → LearnsAs leads n e
set_learns {leads} {set} {by} {comment} n e is new =
    subst (λ body. LearnsAs leads n (with_body e body)) (sym is) (record {
      members = λ name. members_alike n.id c.sets (with_entry set row c.sets) c.tables name
          (sets_alike set row c.sets c.tables new.free new.homes.0);
      names = λ name. refl;
      home = tt;
    })
  where
    c : Config
    c = (knowledge n).config

    row : SetRow
    row = record { origin = by; era = 1; locked = false; live = true; comment = comment }

-- ---- a table is put into a set

-- The node is the origin of the set, which is live, and it has heard neither of the table nor of its name.
pub record IsNewTable (n : Node) (set table : ℕ) (name : List ℕ) : Type 0 where
  pub leads : is_origin n.id set (knowledge n).config ≡ true
  pub free : is_some (entry_at table (knowledge n).config.tables) ≡ false
  pub unused : is_used name (knowledge n).config ≡ false

-- The same, where the set is live and the node is its origin or not.
pub record IsNewTableOf (leads : Bool) (n : Node) (set table : ℕ) (name : List ℕ) : Type 0 where
  pub live : is_some (set_row set (knowledge n).config) ≡ true
  pub leads_is : is_origin n.id set (knowledge n).config ≡ leads
  pub free : is_some (entry_at table (knowledge n).config.tables) ≡ false
  pub unused : is_used name (knowledge n).config ≡ false

-- a test of the entries where one is put at an id that is free
pub any_with : {X : Type 0} (p : ℕ × X → Bool) (id : ℕ) (x : X) (es : Map X) → is_some (entry_at id es) ≡ false →
    list_any p (with_entry id x es) ≡ (p (id, x) || list_any p es)
any_with p id x [] free = refl
any_with {X} p id x (e ∷ es) free = step (nat_lt id e.0) (id == e.0) free (any_with p id x es)
  where
    turned : (a b : Bool) → (a || (b || list_any p es)) ≡ (b || (a || list_any p es))
    turned true true = refl
    turned true false = refl
    turned false b = refl

    step : (before same : Bool) → is_some (cond same (Some e.1) (entry_at id es)) ≡ false →
        (is_some (entry_at id es) ≡ false → list_any p (with_entry id x es) ≡ (p (id, x) || list_any p es)) →
        list_any p (cond before ((id, x) ∷ e ∷ es) (cond same ((id, x) ∷ es) (e ∷ with_entry id x es)))
        ≡ (p (id, x) || (p e || list_any p es))
    step true same free later = refl
    step false true free later = absurd cc
    step false false free later = ap (λ b. p e || b) (later free) ∙ turned (p e) (p (id, x))

-- the first entry that passes a test, where one is put that does not
find_other : {X : Type 0} (p : ℕ × X → Bool) (id : ℕ) (x : X) (es : Map X) → is_some (entry_at id es) ≡ false →
    p (id, x) ≡ false → find p (with_entry id x es) ≡ find p es
find_other p id x [] free not = ap (λ b. cond b (Some (id, x)) None) not
find_other {X} p id x (e ∷ es) free not = step (nat_lt id e.0) (id == e.0) free (find_other p id x es)
  where
    step : (before same : Bool) → is_some (cond same (Some e.1) (entry_at id es)) ≡ false →
        (is_some (entry_at id es) ≡ false → p (id, x) ≡ false → find p (with_entry id x es) ≡ find p es) →
        find p (cond before ((id, x) ∷ e ∷ es) (cond same ((id, x) ∷ es) (e ∷ with_entry id x es))) ≡ find p (e ∷ es)
    step true same free later = ap (λ b. cond b (Some (id, x)) (find p (e ∷ es))) not
    step false true free later = absurd cc
    step false false free later = ap (λ o. cond (p e) (Some e) o) (later free not)

-- and where it alone passes
find_alone : {X : Type 0} (p : ℕ × X → Bool) (id : ℕ) (x : X) (es : Map X) → list_any p es ≡ false →
    p (id, x) ≡ true → find p (with_entry id x es) ≡ Some (id, x)
find_alone p id x [] none is = ap (λ b. cond b (Some (id, x)) None) is
find_alone {X} p id x (e ∷ es) none is =
    step (nat_lt id e.0) (id == e.0) (p e) refl none (find_alone p id x es)
  where
    front : (rest : Map X) → find p ((id, x) ∷ rest) ≡ Some (id, x)
    front rest = ap (λ b. cond b (Some (id, x)) (find p rest)) is

    step : (before same passes : Bool) → p e ≡ passes → (passes || list_any p es) ≡ false →
        (list_any p es ≡ false → p (id, x) ≡ true → find p (with_entry id x es) ≡ Some (id, x)) →
        find p (cond before ((id, x) ∷ e ∷ es) (cond same ((id, x) ∷ es) (e ∷ with_entry id x es))) ≡ Some (id, x)
    step true same passes at none later = front (e ∷ es)
    step false true passes at none later = front es
    step false false true at none later = absurd cc
    step false false false at none later =
        ap (λ b. cond b (Some e) (find p (with_entry id x es))) at ∙ later none is

-- no table of a name that is not used passes a test that asks for the name
none_named : (p : ℕ × TableRow → Bool) (name : List ℕ) (es : Map TableRow) →
    ((e : ℕ × TableRow) → bytes_eq name e.1.name ≡ false → p e ≡ false) →
    list_any (λ e. bytes_eq name e.1.name) es ≡ false → list_any p es ≡ false
none_named p name [] asks unused = refl
none_named p name (e ∷ es) asks unused =
    step (bytes_eq name e.1.name) refl unused (none_named p name es asks)
  where
    step : (b : Bool) → bytes_eq name e.1.name ≡ b → (b || list_any (λ t. bytes_eq name t.1.name) es) ≡ false →
        (list_any (λ t. bytes_eq name t.1.name) es ≡ false → list_any p es ≡ false) →
        (p e || list_any p es) ≡ false
    step true at unused later = absurd cc
    step false at unused later = ap (λ b. b || list_any p es) (asks e at) ∙ later unused

asks_name : (live named set : Bool) → named ≡ false → (live && named && set) ≡ false
asks_name true named set other = λ i. true && other i && set
asks_name false named set other = refl

-- the node that is the origin of a live set knows the set
is_live : (own : ℕ) (o : Option SetRow) → leads_row own o ≡ true → is_some o ≡ true
is_live own None leads = cc
is_live own (Some row) leads = refl

is_there : (o : Option SetRow) → is_some (live_set o) ≡ true → is_some o ≡ true
is_there None live = cc
is_there (Some row) live = refl

-- an event that puts the table into the set
pub table_known : {leads : Bool} {set table : ℕ} {name comment : List ℕ} (n : Node) (e : Event) →
    e.body ≡ SetAddTable set table name comment → IsNewTableOf leads n set table name → LearnsAs leads n e
table_known {leads} {set} {table} {name} {comment} n e is new =
    subst (λ body. LearnsAs leads n (with_body e body)) (sym is) (record {
      members = λ q. at q (bytes_eq q name) refl;
      names = λ q. any_with (λ t. bytes_eq q t.1.name) table row c.tables new.free;
      home = (is_there (entry_at set c.sets) new.live, new.free, new.unused);
    })
  where
    c : Config
    c = (knowledge n).config

    row : TableRow
    row = record { set_id = set; name = name; live = true; comment = comment }

    test : List ℕ → ℕ × TableRow → Bool
    test q t = t.1.live && bytes_eq q t.1.name && is_some (set_row t.1.set_id c)

    here : Bool → Member
    here leads = record { table = table; set = set; leads = leads }

    others : (q : List ℕ) → q ≡ name → list_any (test q) c.tables ≡ false
    others q same =
        none_named (test q) q c.tables
        (λ t other. asks_name t.1.live (bytes_eq q t.1.name) (is_some (set_row t.1.set_id c)) other)
        (subst (λ k. is_used k c ≡ false) (sym same) new.unused)

    at : (q : List ℕ) (b : Bool) → bytes_eq q name ≡ b →
        option_map (member_as n.id c) (find (test q) (with_entry table row c.tables))
        ≡ cond b (Some (here leads)) (option_map (member_as n.id c) (member_of q c))
    at q true same =
        ap (option_map (member_as n.id c))
        (find_alone (test q) table row c.tables (others q ((bytes_eq-Decides q name).0 same))
        (λ i. true && same i && new.live i))
        ∙ ap (λ l. Some (here l)) new.leads_is
    at q false other =
        ap (option_map (member_as n.id c))
        (find_other (test q) table row c.tables new.free (λ i. true && other i && is_some (set_row set c)))

-- and so where the node is the origin of the set
pub table_learns : {set table : ℕ} {name comment : List ℕ} (n : Node) (e : Event) →
    e.body ≡ SetAddTable set table name comment → IsNewTable n set table name → Learns n e
table_learns {set} n e is new =
    table_known n e is (record {
      live = is_live n.id (set_row set (knowledge n).config) new.leads;
      leads_is = new.leads;
      free = new.free;
      unused = new.unused;
    })
