-- The tables of sets as the rows name them.
use Rattle.std.proofs.Common.{◌≡◌, ℕ, Bool, true, false, cond, List, [], ◌∷◌, Option, Some, None, refl, sym, ap, subst}
use Rattle.std.proofs.Common.{◌∙◌, is_some}
use Rattle.std.specs.Prelude.{◌&&◌, ◌||◌, ◌==◌, find}
use Rattle.std.specs.Bool.{then_some}
use Rattle.std.specs.BTreeMap as by_id
use Rattle.std.specs.BTreeMap.{BTreeMap, Updates}
use Rattle.std.specs.Cmp.{nat_eq_equiv, unsigned_tied}
use Rattle.std.specs.Map.{lookup}
use Rattle.std.specs.Option.{option_map, option_or}
use Rattle.std.specs.Ordering.{is_eq, nat_cmp}
use borrow.Author.Tests.{eqb-true}
use Rattle.std.specs.Str.{bytes_eq}
use Rattle.std.specs.Cmp.Lexicographic.{nat_list_cmp_total}
use Rattle.std.specs.FinMap.{get, empty, insert, get-insert, get-empty}
use Rattle.std.proofs.lemmas.Map.Text.{is_eq-slice_cmp}
use Rattle.std.proofs.lemmas.Slice.Eq.{bytes_eq-Decides}
use Rattle.slon_base.specs.Keeper.{key_cmp}
use Rattle.slon_base.specs.Codec.{AllAre}
use Rattle.store_rows.specs.Rows.{IsId}
use Rattle.node_rows.specs.declared.rows.SetRow.{SetRow}
use Rattle.node_rows.specs.declared.rows.TableRow.{TableRow}
use Rattle.node_rows.specs.Spellings.{CanTable}
use Rattle.slon_model.specs.Maps.{Map, entry_at}
use Rattle.slon_model.specs.Config.{Config, set_row, member_of, live_set, leads_row}
use Rattle.node_state.specs.declared.memory.Member.{Member}
use Rattle.node_state.specs.declared.memory.Members.{Members}
use Rattle.node_state.specs.Known.{AreMembers, member_as, is_used}
use Rattle.node_state.specs.Members.{MemberMap, NameMap, config_of, member_in, member_by, leading, flat, AreLeads}
use Rattle.node_state.specs.Members.{AreThose}

-- ---- options

or_assoc : {X : Type 0} (a b c : Option X) → option_or (option_or a b) c ≡ option_or a (option_or b c)
or_assoc None b c = refl
or_assoc (Some x) b c = refl

pub or_none : {X : Type 0} (a : Option X) → option_or a None ≡ a
or_none None = refl
or_none (Some x) = refl

-- ---- the sets, by id

-- what is marked of a set, if it is among these rows
abbrev pub marked : ℕ → Map SetRow → ℕ → Option (Option Bool)
marked own sets set = option_map (λ r. leading own (Some r)) (entry_at set sets)

-- the sets that are marked and those that are left are all
abbrev pub AreMarked : ℕ → BTreeMap ℕ (Option Bool) → Map SetRow → Map SetRow → Type 0
AreMarked own leads left all =
    (set : ℕ) → option_or (by_id.get nat_cmp leads set) (marked own left set) ≡ marked own all set

pub none_marked : (own : ℕ) (leads : BTreeMap ℕ (Option Bool)) (sets : Map SetRow) → leads.entries ≡ [] →
    AreMarked own leads sets sets
none_marked own leads sets none set =
    ap (λ es. option_or (lookup (λ k. is_eq (nat_cmp set k)) es) (marked own sets set)) none

-- all are marked
pub all_marked : (own : ℕ) (leads : BTreeMap ℕ (Option Bool)) (sets : Map SetRow) → AreMarked own leads [] sets →
    AreLeads own sets leads
all_marked own leads sets are set =
    ap flat (sym (or_none (by_id.get nat_cmp leads set)) ∙ are set) ∙ of (entry_at set sets)
  where
    of : (o : Option SetRow) → flat (option_map (λ r. leading own (Some r)) o) ≡ leading own o
    of None = refl
    of (Some r) = refl

-- a row of a set, as it is marked
pub leading_some : (own : ℕ) (row : SetRow) → then_some row.live (row.origin == own) ≡ leading own (Some row)
leading_some own row = by row.live
  where
    by : (b : Bool) → then_some b (row.origin == own) ≡ option_map (λ r. r.origin == own) (cond b (Some row) None)
    by true = refl
    by false = refl

-- a set that is marked already
pub marked_past : (own : ℕ) (leads : BTreeMap ℕ (Option Bool)) (e : ℕ × SetRow) (left all : Map SetRow) →
    is_some (by_id.get nat_cmp leads e.0) ≡ true → AreMarked own leads (e ∷ left) all → AreMarked own leads left all
marked_past own leads e left all some are set =
    step (set == e.0) refl ∙ are set
  where
    first : {X : Type 0} (o a b : Option X) → is_some o ≡ true → option_or o a ≡ option_or o b
    first None a b is = cc
    first (Some x) a b is = refl

    step : (b : Bool) → (set == e.0) ≡ b → option_or (by_id.get nat_cmp leads set) (marked own left set)
        ≡ option_or (by_id.get nat_cmp leads set) (marked own (e ∷ left) set)
    step true is =
        first (by_id.get nat_cmp leads set) (marked own left set) (marked own (e ∷ left) set)
        (ap (λ k. is_some (by_id.get nat_cmp leads k)) (eqb-true set e.0 is) ∙ some)
    step false is =
        ap (λ b. option_or (by_id.get nat_cmp leads set)
        (option_map (λ r. leading own (Some r)) (cond b (Some e.1) (entry_at set left)))) (sym is)

-- a set that is marked now
pub marked_on : (own : ℕ) (leads new : BTreeMap ℕ (Option Bool)) (e : ℕ × SetRow) (left all : Map SetRow) →
    (by_id.get nat_cmp leads e.0 ≡ None) × Updates nat_cmp leads new e.0 (Some (leading own (Some e.1))) →
    AreMarked own leads (e ∷ left) all → AreMarked own new left all
marked_on own leads new e left all (none, updates) are set =
    ap (λ o. option_or o (marked own left set))
    (updates.0 set ∙ ap (λ b. cond b here (by_id.get nat_cmp leads set))
    (unsigned_tied e.0 set ∙ nat_eq_equiv.symm e.0 set))
    ∙ step (set == e.0) refl ∙ are set
  where
    here : Option (Option Bool)
    here = Some (leading own (Some e.1))

    step : (b : Bool) → (set == e.0) ≡ b →
        option_or (cond b here (by_id.get nat_cmp leads set)) (marked own left set)
        ≡ option_or (by_id.get nat_cmp leads set) (marked own (e ∷ left) set)
    step true is =
        ap (λ b. option_or None (option_map (λ r. leading own (Some r)) (cond b (Some e.1) (entry_at set left))))
        (sym is)
        ∙ ap (λ o. option_or o (marked own (e ∷ left) set))
        (sym (ap (by_id.get nat_cmp leads) (eqb-true set e.0 is) ∙ none))
    step false is =
        ap (λ b. option_or (by_id.get nat_cmp leads set)
        (option_map (λ r. leading own (Some r)) (cond b (Some e.1) (entry_at set left)))) (sym is)

-- ---- one row more

-- the members of these rows are that of the first, and those of the others
pub in_more : (own : ℕ) (sets : Map SetRow) (e : ℕ × TableRow) (es : Map TableRow) (name : List ℕ) →
    member_in own (config_of sets (e ∷ es)) name
    ≡ option_or (member_by own sets e name) (member_in own (config_of sets es) name)
in_more own sets e es name =
    step (e.1.live && bytes_eq name e.1.name && is_some (set_row e.1.set_id (config_of sets es)))
  where
    c : Config
    c = config_of sets es

    step : (b : Bool) → option_map (member_as own c) (cond b (Some e) (member_of name c))
        ≡ option_or (cond b (Some (member_as own c e)) None) (option_map (member_as own c) (member_of name c))
    step true = refl
    step false = refl

-- a row is added, and the rest is left
pub joined : (own : ℕ) (sets : Map SetRow) (e : ℕ × TableRow) (es : Map TableRow) (name : List ℕ)
    (old new : Option Member) → new ≡ option_or old (member_by own sets e name) →
    option_or new (member_in own (config_of sets es) name)
    ≡ option_or old (member_in own (config_of sets (e ∷ es)) name)
joined own sets e es name old new is =
    ap (λ o. option_or o (member_in own (config_of sets es) name)) is
    ∙ or_assoc old (member_by own sets e name) (member_in own (config_of sets es) name)
    ∙ ap (option_or old) (sym (in_more own sets e es name))

-- a table whose name is free gets it
pub record IsNew (members : MemberMap) (own : ℕ) (sets : Map SetRow) (e : ℕ × TableRow) (leads : Bool) : Type 0 where
  pub live : e.1.live ≡ true
  pub free : get members e.1.name ≡ None
  pub some : Some leads ≡ leading own (entry_at e.1.set_id sets)

pub added : (members : MemberMap) (own : ℕ) (sets : Map SetRow) (e : ℕ × TableRow) (leads : Bool) →
    IsNew members own sets e leads → (name : List ℕ) →
    get (insert members e.1.name (record { table = e.0; set = e.1.set_id; leads = leads })) name
    ≡ option_or (get members name) (member_by own sets e name)
added members own sets e leads is name =
    get-insert nat_list_cmp_total members e.1.name here name
    ∙ ap (λ b. cond b (Some here) (get members name)) (is_eq-slice_cmp name e.1.name)
    ∙ step (bytes_eq name e.1.name) refl (live_set (entry_at e.1.set_id sets)) is.some
    ∙ ap (λ l. option_or (get members name) (by l)) (sym is.live)
  where
    here : Member
    here = record { table = e.0; set = e.1.set_id; leads = leads }

    of : Option SetRow → Member
    of set = record { table = e.0; set = e.1.set_id; leads = leads_row own set }

    by : Bool → Option Member
    by live =
        let set = live_set (entry_at e.1.set_id sets) in
        cond (live && bytes_eq name e.1.name && is_some set) (Some (of set)) None

    named : bytes_eq name e.1.name ≡ true → get members name ≡ None
    named same = ap (get members) ((bytes_eq-Decides name e.1.name).0 same) ∙ is.free

    step : (b : Bool) → bytes_eq name e.1.name ≡ b → (set : Option SetRow) →
        Some leads ≡ option_map (λ r. r.origin == own) set →
        cond b (Some here) (get members name)
        ≡ option_or (get members name) (cond (true && b && is_some set) (Some (of set)) None)
    step b same None some = absurd cc
    step true same (Some row) some =
        let leads_is : leads ≡ (row.origin == own) = cc in
        ap (λ l. Some (record here { leads = l })) leads_is
        ∙ ap (λ o. option_or o (Some (of (Some row)))) (sym (named same))
    step false same (Some row) some = sym (or_none (get members name))

-- no rows have no members
pub none_yet : (own : ℕ) (sets : Map SetRow) (tables : Map TableRow) (members : MemberMap) → members ≡ empty →
    (name : List ℕ) →
    option_or (get members name) (member_in own (config_of sets tables) name)
    ≡ member_in own (config_of sets tables) name
none_yet own sets tables members is name =
    let none = ap (λ (ms : MemberMap). get ms name) is ∙ get-empty key_cmp name in
    ap (λ o. option_or o (member_in own (config_of sets tables) name)) none

-- ---- the names of all tables

or_more : (a b c : Bool) → ((a || b) || c) ≡ (a || (b || c))
or_more true b c = refl
or_more false b c = refl

or_true : (a : Bool) → (a || true) ≡ true
or_true true = refl
or_true false = refl

or_false : (a : Bool) → (a || false) ≡ a
or_false true = refl
or_false false = refl

-- one more name
pub name_put : (names : NameMap) (name q : List ℕ) →
    is_some (get (insert names name tt) q) ≡ (is_some (get names q) || bytes_eq q name)
name_put names name q =
    ap is_some (get-insert nat_list_cmp_total names name tt q
    ∙ ap (λ b. cond b (Some tt) (get names q)) (is_eq-slice_cmp q name))
    ∙ by (bytes_eq q name)
  where
    by : (b : Bool) → is_some (cond b (Some tt) (get names q)) ≡ (is_some (get names q) || b)
    by true = sym (or_true (is_some (get names q)))
    by false = sym (or_false (is_some (get names q)))

or_turned : (a b : Bool) → (a || b) ≡ (b || a)
or_turned true b = sym (or_true b)
or_turned false b = sym (or_false b)

pub name_learned : (names : NameMap) (name q : List ℕ) →
    is_some (get (insert names name tt) q) ≡ (bytes_eq q name || is_some (get names q))
name_learned names name q = name_put names name q ∙ or_turned (is_some (get names q)) (bytes_eq q name)

-- no names are those of no rows
pub no_names : (sets : Map SetRow) (tables : Map TableRow) (names : NameMap) → names ≡ empty → (name : List ℕ) →
    (is_some (get names name) || is_used name (config_of sets tables)) ≡ is_used name (config_of sets tables)
no_names sets tables names is name =
    ap (λ (ns : NameMap). is_some (get ns name) || is_used name (config_of sets tables)) is
    ∙ ap (λ o. is_some o || is_used name (config_of sets tables)) (get-empty key_cmp name)

-- the name of a row is added, and the rest is left
pub name_joined : (sets : Map SetRow) (e : ℕ × TableRow) (es : Map TableRow) (name : List ℕ) (old new : NameMap) →
    new ≡ insert old e.1.name tt →
    (is_some (get new name) || is_used name (config_of sets es))
    ≡ (is_some (get old name) || is_used name (config_of sets (e ∷ es)))
name_joined sets e es name old new is =
    ap (λ (ns : NameMap). is_some (get ns name) || is_used name (config_of sets es)) is
    ∙ ap (λ b. b || is_used name (config_of sets es)) (name_put old e.1.name name)
    ∙ or_more (is_some (get old name)) (bytes_eq name e.1.name) (is_used name (config_of sets es))

-- ---- all that is known of the cluster

-- members and names are those of the sets and the tables, whatever else is known
pub those_of : {own : ℕ} {c : Config} {members : Members} → AreThose own (config_of c.sets c.tables) members →
    AreThose own c members
those_of those = record { live = those.live; names = those.names }

-- ---- their ids

found_can : {X : Type 0} (Can : X → Type 0) (p : X → Bool) (xs : List X) → AllAre Can xs → (x : X) →
    find p xs ≡ Some x → Can x
found_can Can p [] all x is = absurd cc
found_can {X} Can p (y ∷ ys) all x is = step (p y) is (found_can Can p ys all.1 x)
  where
    step : (b : Bool) → cond b (Some y) (find p ys) ≡ Some x → (find p ys ≡ Some x → Can x) → Can x
    step true is later = let same : y ≡ x = cc in subst Can same all.0
    step false is later = later is

pub members_are : (own : ℕ) (sets : Map SetRow) (tables : Map TableRow) (members : Members) →
    AllAre (λ e. IsId e.0 × CanTable e.1) tables → AreThose own (config_of sets tables) members → AreMembers members
members_are own sets tables members can those name m is =
    by (member_of name c) refl (sym (those.live name) ∙ is)
  where
    c : Config
    c = config_of sets tables

    by : (o : Option (ℕ × TableRow)) → member_of name c ≡ o → option_map (member_as own c) o ≡ Some m →
        IsId m.table × IsId m.set
    by None at found = absurd cc
    by (Some e) at found =
        let same : member_as own c e ≡ m = cc in
        let one = found_can (λ (x : ℕ × TableRow). IsId x.0 × CanTable x.1) _ tables can e at in
        subst (λ (x : Member). IsId x.table × IsId x.set) same (one.0, one.1.0)
