-- A set ends: its tables are in no set any more, and all others are as they were.
use Rattle.std.proofs.Common.{◌≡◌, ◌⊎◌, inl, inr, ℕ, Bool, true, false, cond, List, Option, Some, None, refl}
use Rattle.std.proofs.Common.{sym, ap, subst, ◌∙◌, is_some, []}
use Rattle.std.specs.Prelude.{◌==◌, ◌&&◌, option_map}
use Rattle.std.specs.Str.{bytes_eq}
use Rattle.std.proofs.lemmas.Bool.{false≢true, true≢false, false_from_ne_true, eqb-true, eq-eqb, and_parts}
use Rattle.node_rows.specs.declared.rows.SetRow.{SetRow}
use Rattle.node_rows.specs.declared.rows.TableRow.{TableRow}
use Rattle.node_rows.specs.declared.body.Body.TheVariants.{DropSet}
use Rattle.slon_model.specs.Maps.{entry_at}
use Rattle.slon_model.specs.Config.{Config, change_by, live_set, leads_row, is_origin, set_row, set_of, member_of}
use Rattle.slon_model.specs.Deeds.{Deed}
use Rattle.slon_model.specs.Eras.{stretches_by}
use Rattle.slon_model.proofs.Names.{bytes_same}
use Rattle.stream_laws.specs.Nodes.{IsAmong}
use Rattle.stream_laws.proofs.Lists.{all_among, all_mapped, among_all, among_map, any-mapped, entry-changed, found_all}
use Rattle.stream_laws.proofs.Lists.{mapped_among, there-mapped}
use Rattle.image_laws.specs.Fits.{IsWhole, is_owner}
use Rattle.image_laws.specs.Facts.{IsHeldBy, StretchesHold}
use Rattle.image_laws.proofs.Found.{find_none}
use Rattle.image_laws.proofs.Stretching.{Before, IsOver, Stay, all_behind, there_behind, none_begin, same_leads}

-- ---- the set of a table

-- the test by which a table of this name is found
abbrev pub is_member : Config → List ℕ → ℕ × TableRow → Bool
is_member c table e = e.1.live && bytes_eq table e.1.name && is_some (set_row e.1.set_id c)

-- What is known of a table that is found in a live set.
pub record Member (c : Config) (table : List ℕ) (e : ℕ × TableRow) : Type 0 where
  pub live : e.1.live ≡ true
  pub named : table ≡ e.1.name
  pub set_live : is_some (set_row e.1.set_id c) ≡ true

pub member_parts : (c : Config) (table : List ℕ) (e : ℕ × TableRow) → is_member c table e ≡ true → Member c table e
member_parts c table e passes =
    let parts = and_parts (e.1.live && bytes_eq table e.1.name) (is_some (set_row e.1.set_id c)) passes in
    let first = and_parts e.1.live (bytes_eq table e.1.name) parts.0 in
    record { live = first.0; named = bytes_same table e.1.name first.1; set_live = parts.1 }

-- a table that is found in a set is known
pub member_entry : (c : Config) (table : List ℕ) (set : ℕ) → set_of table c ≡ Some set →
    (e : ℕ × TableRow) × IsAmong e c.tables × (is_member c table e ≡ true) × (e.1.set_id ≡ set)
member_entry c table set is = by (member_of table c) refl is
  where
    by : (o : Option (ℕ × TableRow)) → member_of table c ≡ o → option_map (λ e. e.1.set_id) o ≡ Some set →
        (e : ℕ × TableRow) × IsAmong e c.tables × (is_member c table e ≡ true) × (e.1.set_id ≡ set)
    by None found none = absurd cc
    by (Some e) found some =
        let both = found_all (λ e. IsAmong e c.tables) (is_member c table) c.tables e
        (among_all (λ e. IsAmong e c.tables) c.tables (λ e among. among)) found in
        (e, both.0, both.1, cc)

-- its set is known
pub member_row : (table : List ℕ) (set : ℕ) (c : Config) → set_of table c ≡ Some set →
    (row : SetRow) × (entry_at set c.sets ≡ Some row)
member_row table set c is = by (entry_at set c.sets) refl live
  where
    e : (e : ℕ × TableRow) × IsAmong e c.tables × (is_member c table e ≡ true) × (e.1.set_id ≡ set)
    e = member_entry c table set is

    live : is_some (set_row set c) ≡ true
    live = ap (λ k. is_some (set_row k c)) (sym e.3) ∙ (member_parts c table e.0 e.2).set_live

    by : (o : Option SetRow) → entry_at set c.sets ≡ o → is_some (live_set o) ≡ true →
        (row : SetRow) × (entry_at set c.sets ≡ Some row)
    by None found none = absurd (false≢true none)
    by (Some row) found some = (row, found)

-- and a table that passes the test is found in its set
pub found_member : (own : ℕ) (c : Config) (table : List ℕ) (e : ℕ × TableRow) → IsWhole own c → IsAmong e c.tables →
    is_member c table e ≡ true → set_of table c ≡ Some e.1.set_id
found_member own c table e whole among passes = by (member_of table c) refl
  where
    by : (o : Option (ℕ × TableRow)) → member_of table c ≡ o → option_map (λ e. e.1.set_id) o ≡ Some e.1.set_id
    by None none =
        absurd (true≢false (sym passes
        ∙ all_among (λ e. is_member c table e ≡ false) e c.tables (find_none (is_member c table) c.tables none) among))
    by (Some f) found =
        let both = found_all (λ e. IsAmong e c.tables) (is_member c table) c.tables f
        (among_all (λ e. IsAmong e c.tables) c.tables (λ e among. among)) found in
        ap Some (whole.names f e both.0 among
        (sym (member_parts c table f both.1).named ∙ (member_parts c table e passes).named))

-- ---- a set that ends

-- what is known behind an event by which the set ends, of this origin and number
abbrev pub config_without : ℕ → ℕ × ℕ → Config → Config
config_without set i c = change_by i.0 i.1 (DropSet set) c

-- a table of the set is dropped
abbrev pub dropped : ℕ → ℕ × TableRow → ℕ × TableRow
dropped set e = cond (e.1.set_id == set) (e.0, record e.1 { live = false }) e

pub dropped_set : (set : ℕ) (e : ℕ × TableRow) → (dropped set e).1.set_id ≡ e.1.set_id
dropped_set set e = by (e.1.set_id == set)
  where
    by : (b : Bool) → (cond b (e.0, record e.1 { live = false }) e).1.set_id ≡ e.1.set_id
    by true = refl
    by false = refl

pub dropped_name : (set : ℕ) (e : ℕ × TableRow) → (dropped set e).1.name ≡ e.1.name
dropped_name set e = by (e.1.set_id == set)
  where
    by : (b : Bool) → (cond b (e.0, record e.1 { live = false }) e).1.name ≡ e.1.name
    by true = refl
    by false = refl

-- another one is not
pub dropped_other : (set : ℕ) (e : ℕ × TableRow) → (e.1.set_id == set) ≡ false → dropped set e ≡ e
dropped_other set e other = ap (λ b. cond b (e.0, record e.1 { live = false }) e) other

-- the row of a set that ends
abbrev pub over : SetRow → SetRow
over row = record row { live = false }

pub entry-dropped : (set id : ℕ) (i : ℕ × ℕ) (c : Config) →
    entry_at id (config_without set i c).sets
    ≡ cond (id == set) (option_map over (entry_at id c.sets)) (entry_at id c.sets)
entry-dropped set id i c = entry-changed over set id c.sets

-- another set is as it was
pub entry_other : (set id : ℕ) (i : ℕ × ℕ) (c : Config) → (id == set) ≡ false →
    entry_at id (config_without set i c).sets ≡ entry_at id c.sets
entry_other set id i c other =
    entry-dropped set id i c ∙ ap (λ b. cond b (option_map over (entry_at id c.sets)) (entry_at id c.sets)) other

-- and this one is over
pub set_over : (set : ℕ) (i : ℕ × ℕ) (c : Config) → IsOver set (config_without set i c)
set_over set i c =
    ap live_set (entry-dropped set set i c
    ∙ ap (λ b. cond b (option_map over (entry_at set c.sets)) (entry_at set c.sets)) (eq-eqb set set refl))
    ∙ by (entry_at set c.sets)
  where
    by : (o : Option SetRow) → live_set (option_map over o) ≡ None
    by None = refl
    by (Some row) = refl

-- the node is the origin of no set that is over
pub leads_live : (own set : ℕ) (c : Config) → IsOver set c → is_origin own set c ≡ true → ⊥
leads_live own set c is leads = false≢true (sym (ap (leads_row own) is) ∙ leads)

-- what it leads is live
pub lead_is_live : (own set : ℕ) (c : Config) → is_origin own set c ≡ true → is_some (set_row set c) ≡ true
lead_is_live own set c leads = by (set_row set c) leads
  where
    by : (o : Option SetRow) → leads_row own o ≡ true → is_some o ≡ true
    by None leads = absurd (false≢true leads)
    by (Some row) leads = refl

pub dropped_whole : (own : ℕ) (c : Config) (set : ℕ) (i : ℕ × ℕ) → IsWhole own c → IsWhole own (config_without set i c)
dropped_whole own c set i w = record {
  knows = w.knows;
  sets = λ id row is. by id row (id == set) (sym (entry-dropped set id i c) ∙ is);
  tables =
      all_mapped (λ e. is_some (entry_at e.1.set_id c.sets) ≡ true)
      (λ e. is_some (entry_at e.1.set_id (config_without set i c).sets) ≡ true) (dropped set)
      (λ e known. ap (λ id. is_some (entry_at id (config_without set i c).sets)) (dropped_set set e)
      ∙ there e.1.set_id ∙ known) c.tables w.tables;
  names = λ e f first second same.
      let one = mapped_among (dropped set) e c.tables first in
      let two = mapped_among (dropped set) f c.tables second in
      ap (λ (e : ℕ × TableRow). e.1.set_id) one.2 ∙ dropped_set set one.0
      ∙ w.names one.0 two.0 one.1 two.1
      (sym (ap (λ (e : ℕ × TableRow). e.1.name) one.2 ∙ dropped_name set one.0) ∙ same
      ∙ ap (λ (e : ℕ × TableRow). e.1.name) two.2 ∙ dropped_name set two.0)
      ∙ sym (ap (λ (e : ℕ × TableRow). e.1.set_id) two.2 ∙ dropped_set set two.0);
  ended = λ e among owns live.
      let from = mapped_among (dropped set) e c.tables among in
      subst (λ (e : ℕ × TableRow). is_some (set_row e.1.set_id (config_without set i c)) ≡ true) (sym from.2)
      (ended_of from.0 (from.0.1.set_id == set) refl from.1
      (subst (λ (e : ℕ × TableRow). is_owner own e.1.set_id (config_without set i c) ≡ true) from.2 owns)
      (ap (λ (e : ℕ × TableRow). e.1.live) (sym from.2) ∙ live));
  live = λ e among some.
      let from = mapped_among (dropped set) e c.tables among in
      ap (λ (e : ℕ × TableRow). e.1.live) from.2
      ∙ live_of from.0 (from.0.1.set_id == set) refl from.1
      (subst (λ (e : ℕ × TableRow). is_some (set_row e.1.set_id (config_without set i c)) ≡ true) from.2 some);
}
  where
    ended_of : (f : ℕ × TableRow) (b : Bool) → (f.1.set_id == set) ≡ b → IsAmong f c.tables →
        is_owner own (dropped set f).1.set_id (config_without set i c) ≡ true → (dropped set f).1.live ≡ true →
        is_some (set_row (dropped set f).1.set_id (config_without set i c)) ≡ true
    ended_of f true same among owns live =
        absurd (false≢true (sym (ap (λ b. (cond b (f.0, record f.1 { live = false }) f).1.live) same) ∙ live))
    ended_of f false other among owns live =
        let row = ap (λ k. entry_at k (config_without set i c).sets) (dropped_set set f)
        ∙ entry_other set f.1.set_id i c other in
        ap (λ o. is_some (live_set o)) row
        ∙ w.ended f among (ap (leads_row own) (sym row) ∙ owns)
        (ap (λ (e : ℕ × TableRow). e.1.live) (sym (dropped_other set f other)) ∙ live)

    live_of : (f : ℕ × TableRow) (b : Bool) → (f.1.set_id == set) ≡ b → IsAmong f c.tables →
        is_some (set_row (dropped set f).1.set_id (config_without set i c)) ≡ true → (dropped set f).1.live ≡ true
    live_of f true same among some =
        absurd (false≢true (sym (ap is_some (subst (λ k. IsOver k (config_without set i c))
        (sym (dropped_set set f ∙ eqb-true f.1.set_id set same)) (set_over set i c))) ∙ some))
    live_of f false other among some =
        ap (λ (e : ℕ × TableRow). e.1.live) (dropped_other set f other)
        ∙ w.live f among (sym (ap (λ o. is_some (live_set o)) (ap (λ k. entry_at k (config_without set i c).sets)
        (dropped_set set f) ∙ entry_other set f.1.set_id i c other)) ∙ some)

    same_id : (b : Bool) (e : ℕ × SetRow) → (cond b (e.0, over e.1) e).0 ≡ e.0
    same_id true e = refl
    same_id false e = refl

    there : (id : ℕ) → is_some (entry_at id (config_without set i c).sets) ≡ is_some (entry_at id c.sets)
    there id = there-mapped _ id c.sets (λ e. same_id (e.0 == set) e)

    row_of : (id : ℕ) (row : SetRow) (o : Option SetRow) → entry_at id c.sets ≡ o → option_map over o ≡ Some row →
        is_some (entry_at row.origin c.nodes) ≡ true
    row_of id row None found is = absurd cc
    row_of id row (Some old) found is =
        let one : over old ≡ row = cc in
        ap (λ (r : SetRow). is_some (entry_at r.origin c.nodes)) (sym one) ∙ w.sets id old found

    by : (id : ℕ) (row : SetRow) (b : Bool) →
        cond b (option_map over (entry_at id c.sets)) (entry_at id c.sets) ≡ Some row →
        is_some (entry_at row.origin c.nodes) ≡ true
    by id row true is = row_of id row (entry_at id c.sets) refl is
    by id row false is = w.sets id row is

-- ---- the tables of other sets

-- a table of another set passes the test as before
member_still : (set : ℕ) (i : ℕ × ℕ) (c : Config) (table : List ℕ) (e : ℕ × TableRow) → (e.1.set_id == set) ≡ false →
    is_member (config_without set i c) table e ≡ is_member c table e
member_still set i c table e other =
    ap (λ o. e.1.live && bytes_eq table e.1.name && is_some (live_set o)) (entry_other set e.1.set_id i c other)

pub dropped_stay : (own : ℕ) (c : Config) (set : ℕ) (i : ℕ × ℕ) → IsWhole own c → Stay c (config_without set i c)
dropped_stay own c set i w = record {
  listed = λ table listed.
      any-mapped (λ e. bytes_eq table e.1.name) (dropped set) c.tables
      (λ e. ap (bytes_eq table) (dropped_name set e)) ∙ listed;
  member = λ table id is.
      let e = member_entry c table id is in by table id e.0 (e.1, e.2, e.3) (e.0.1.set_id == set) refl;
  only = λ table id listed only.
      all_mapped (λ e. bytes_eq table e.1.name ≡ true → e.1.set_id ≡ id)
      (λ e. bytes_eq table e.1.name ≡ true → e.1.set_id ≡ id) (dropped set)
      (λ e is named. dropped_set set e ∙ is (ap (bytes_eq table) (sym (dropped_name set e)) ∙ named)) c.tables only;
}
  where
    by : (table : List ℕ) (id : ℕ) (e : ℕ × TableRow) →
        IsAmong e c.tables × (is_member c table e ≡ true) × (e.1.set_id ≡ id) → (b : Bool) → (e.1.set_id == set) ≡ b →
        (set_of table (config_without set i c) ≡ Some id) ⊎ IsOver id (config_without set i c)
    by table id e is true same =
        inr (subst (λ k. IsOver k (config_without set i c)) (sym (eqb-true e.1.set_id set same) ∙ is.2)
        (set_over set i c))
    by table id e is false other =
        inl (found_member own (config_without set i c) table e (dropped_whole own c set i w)
        (subst (λ f. IsAmong f (config_without set i c).tables) (dropped_other set e other)
        (among_map (dropped set) e c.tables is.0)) (member_still set i c table e other ∙ is.1)
        ∙ ap Some is.2)

-- a table that is found in a set of the node was found in it before
held_before : (own : ℕ) (c : Config) (set : ℕ) (i : ℕ × ℕ) → IsWhole own c → (id : ℕ) (table : List ℕ) →
    IsHeldBy own (config_without set i c) id table → (set_of table c ≡ Some id) × ((id == set) ≡ false)
held_before own c set i w id table held =
    (found_member own c table f.0 w f.1 (sym (member_still set i c table f.0 of_other) ∙ passes) ∙ ap Some of, other)
  where
    new : Config
    new = config_without set i c

    other : (id == set) ≡ false
    other =
        false_from_ne_true (id == set) (λ same. leads_live own id new
        (subst (λ k. IsOver k new) (sym (eqb-true id set same)) (set_over set i c)) held.1)

    e : (e : ℕ × TableRow) × IsAmong e new.tables × (is_member new table e ≡ true) × (e.1.set_id ≡ id)
    e = member_entry new table id held.0

    f : (f : ℕ × TableRow) × IsAmong f c.tables × (e.0 ≡ dropped set f)
    f = mapped_among (dropped set) e.0 c.tables e.1

    of : f.0.1.set_id ≡ id
    of = sym (dropped_set set f.0) ∙ ap (λ (e : ℕ × TableRow). e.1.set_id) (sym f.2) ∙ e.3

    of_other : (f.0.1.set_id == set) ≡ false
    of_other = ap (λ k. k == set) of ∙ other

    passes : is_member new table f.0 ≡ true
    passes = ap (is_member new table) (sym (f.2 ∙ dropped_other set f.0 of_other)) ∙ e.2

pub drops_holds : (b : Before) (set : ℕ) (i : ℕ × ℕ) (d : Deed) → d.rows ≡ [] →
    StretchesHold b.place b.own (config_without set i b.known)
    (stretches_by b.own (config_without set i b.known) d b.all)
drops_holds b set i d none =
    subst (StretchesHold b.place b.own new) (sym (none_begin b.own new d b.all none)) (record {
      whole = dropped_whole b.own b.known set i b.holds.whole;
      each =
          all_behind b.place b.own b.known new d (dropped_stay b.own b.known set i b.holds.whole) b.all b.holds.each;
      there = λ id table held.
          let before = held_before b.own b.known set i b.holds.whole id table held in
          let leads = same_leads b.own b.known new id (entry_other set id i b.known before.1) held.1 in
          there_behind b new d id table (before.0, leads.1) leads.0;
    })
  where
    new : Config
    new = config_without set i b.known
