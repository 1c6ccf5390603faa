-- The stretches of a node after one more deed that gives no rows to tables.
use Rattle.std.proofs.Common.{◌≡◌, ℕ, Bool, true, false, cond, List, [], ◌++◌, map, Option, Some, None, refl, sym, ap}
use Rattle.std.proofs.Common.{subst, ◌∙◌, is_some, ◌⊎◌, inl, inr}
use Rattle.std.specs.Prelude.{◌==◌, ◌&&◌, find, filter_map, option_map, unwrap_or}
use Rattle.std.specs.Str.{bytes_eq}
use Rattle.std.specs.List.{AllByRecursion}
use Rattle.std.proofs.lemmas.Bool.{false≢true, false_from_ne_true, eqb-true, eq-eqb, and_parts, and_from}
use Rattle.node_rows.specs.declared.rows.SetRow.{SetRow}
use Rattle.node_rows.specs.declared.rows.TableRow.{TableRow}
use Rattle.slon_model.specs.Maps.{Map, entry_at, with_entry}
use Rattle.slon_model.specs.Config.{Config, live_set, leads_row, is_origin, era_of, set_row, set_of, member_of}
use Rattle.slon_model.specs.Deeds.{Deed}
use Rattle.slon_model.specs.Place.{Place}
use Rattle.slon_model.specs.Eras.{Stretch, reigns, stretch_in, ended, stretches_by, is_stretch}
use Rattle.slon_model.proofs.Names.{all_map}
use Rattle.stream_laws.specs.Nodes.{IsAmong}
use Rattle.stream_laws.proofs.Lists.{all_among, all_mapped, entry-with, there_with}
use Rattle.image_laws.specs.Fits.{IsListed, IsWhole, IsKept, is_owner}
use Rattle.image_laws.specs.Facts.{HoldsStretch, IsHeldBy, IsOnlyIn, HasStretch, StretchesHold}
use Rattle.image_laws.proofs.Found.{find_any, IsNew, find_agrees, find_mapped, find_has}

-- ---- who is the origin of a set

-- who leads a set is its origin
pub leads_owns : (own set : ℕ) (c : Config) → is_origin own set c ≡ true → is_owner own set c ≡ true
leads_owns own set c leads = by (entry_at set c.sets) leads
  where
    live : (row : SetRow) (b : Bool) → leads_row own (cond b (Some row) None) ≡ true → leads_row own (Some row) ≡ true
    live row true leads = leads
    live row false leads = absurd (false≢true leads)

    by : (o : Option SetRow) → leads_row own (live_set o) ≡ true → leads_row own o ≡ true
    by None leads = absurd (false≢true leads)
    by (Some row) leads = live row row.live leads

pub owns_not : (own set : ℕ) (c : Config) → is_owner own set c ≡ false → is_origin own set c ≡ false
owns_not own set c other =
    false_from_ne_true (is_origin own set c) (λ leads. false≢true (sym other ∙ leads_owns own set c leads))

-- the origin of a live set leads it
pub owns_leads : (own set : ℕ) (c : Config) → is_owner own set c ≡ true → is_some (set_row set c) ≡ true →
    is_origin own set c ≡ true
owns_leads own set c owns live = by (entry_at set c.sets) owns live
  where
    still : (row : SetRow) (b : Bool) → leads_row own (Some row) ≡ true → is_some (cond b (Some row) None) ≡ true →
        leads_row own (cond b (Some row) None) ≡ true
    still row true owns some = owns
    still row false owns none = absurd (false≢true none)

    by : (o : Option SetRow) → leads_row own o ≡ true → is_some (live_set o) ≡ true → leads_row own (live_set o) ≡ true
    by None owns none = absurd (false≢true none)
    by (Some row) owns some = still row row.live owns some

-- ---- each stretch

abbrev pub behind : ℕ → Config → Deed → Stretch → Stretch
behind own c d s = ended own c d.first s.last s

-- it is of the same table, era and set
pub same_stretch : (own : ℕ) (c : Config) (d : Deed) (test : Stretch → Bool) →
    ((s : Stretch) (last : Option ℕ) → test (record s { last = last }) ≡ test s) → (s : Stretch) →
    test (behind own c d s) ≡ test s
same_stretch own c d test same s = by s.last
  where
    by : (o : Option ℕ) → test (ended own c d.first o s) ≡ test s
    by (Some last) = refl
    by None = elim (reigns own c s) as (λ b. test (cond b s (record s { last = Some d.first })) ≡ test s) [
      | true ↦ refl
      | false ↦ same s (Some d.first)
    ]

-- only its end changes
pub behind_same : (own : ℕ) (c : Config) (d : Deed) (s : Stretch) →
    behind own c d s ≡ record s { last = (behind own c d s).last }
behind_same own c d s = by s.last refl
  where
    by : (o : Option ℕ) → s.last ≡ o → ended own c d.first o s ≡ record s { last = (ended own c d.first o s).last }
    by (Some last) is = refl
    by None is =
        elim (reigns own c s) as (λ b. cond b s (record s { last = Some d.first })
        ≡ record s { last = (cond b s (record s { last = Some d.first })).last }) [
          | true ↦ refl
          | false ↦ refl
        ]

-- what lasts behind a deed lasted before it
pub lasted : (own : ℕ) (c : Config) (d : Deed) (s : Stretch) → (behind own c d s).last ≡ None → s.last ≡ None
lasted own c d s = by s.last refl
  where
    by : (o : Option ℕ) → s.last ≡ o → (ended own c d.first o s).last ≡ None → o ≡ None
    by None is none = refl
    by (Some last) is none = let never : Some last ≡ None = sym is ∙ none in absurd cc

-- it lasts where its era stands
lasts_still : (own : ℕ) (c : Config) (d : Deed) (s : Stretch) → s.last ≡ None → reigns own c s ≡ true →
    behind own c d s ≡ s
lasts_still own c d s none stands =
    ap (λ o. ended own c d.first o s) none ∙ ap (λ b. cond b s (record s { last = Some d.first })) stands

-- a table of a set is known
pub listed_member : (table : List ℕ) (c : Config) (set : ℕ) → set_of table c ≡ Some set → IsListed table c
listed_member table c set is = by (member_of table c) refl is
  where
    named : (e : ℕ × TableRow) → (e.1.live && bytes_eq table e.1.name && is_some (set_row e.1.set_id c)) ≡ true →
        bytes_eq table e.1.name ≡ true
    named e passes = middle e.1.live (bytes_eq table e.1.name) (is_some (set_row e.1.set_id c)) passes
      where
        middle : (a b d : Bool) → (a && b && d) ≡ true → b ≡ true
        middle true true d is = refl
        middle true false d is = absurd (false≢true is)
        middle false b d is = absurd (false≢true is)

    by : (o : Option (ℕ × TableRow)) → member_of table c ≡ o → option_map (λ e. e.1.set_id) o ≡ Some set →
        IsListed table c
    by None found none = absurd cc
    by (Some e) found some = find_any _ (λ e. bytes_eq table e.1.name) named e c.tables found

-- the set is not live
abbrev pub IsOver : ℕ → Config → Type 0
IsOver set c = set_row set c ≡ None

-- Tables that are known are known still, and in their sets, if those are live still.
pub record Stay (old new : Config) : Type 0 where
  pub listed : (table : List ℕ) → IsListed table old → IsListed table new
  pub member : (table : List ℕ) (set : ℕ) → set_of table old ≡ Some set → (set_of table new ≡ Some set) ⊎ IsOver set new
  pub only : (table : List ℕ) (set : ℕ) → IsListed table old → IsOnlyIn set table old → IsOnlyIn set table new

each_behind : (p : Place) (own : ℕ) (old new : Config) (d : Deed) → Stay old new → (s : Stretch) →
    HoldsStretch p own old s →
    HoldsStretch p own new (behind own new d s)
each_behind p own old new d stay s h = by s.last refl
  where
    still : reigns own new s ≡ true → (set_of s.table new ≡ Some s.set_id) ⊎ IsOver s.set_id new →
        set_of s.table new ≡ Some s.set_id
    still stands (inl there) = there
    still stands (inr over) =
        absurd (false≢true (sym (ap (leads_row own) over)
        ∙ (and_parts (is_origin own s.set_id new) (s.era == era_of s.set_id new) stands).0))

    by : (o : Option ℕ) → s.last ≡ o → HoldsStretch p own new (ended own new d.first o s)
    by (Some last) is = record {
      listed = stay.listed s.table h.listed;
      begun = h.begun;
      lasts = λ none. let never : Some last ≡ None = sym is ∙ none in absurd cc;
    }
    by None is =
        elim (reigns own new s)
        as (λ b. reigns own new s ≡ b → HoldsStretch p own new (cond b s (record s { last = Some d.first }))) [
          | true ↦ λ stands. record {
            listed = stay.listed s.table h.listed;
            begun = h.begun;
            lasts = λ none. record {
              stands = stands;
              member = still stands (stay.member s.table s.set_id (h.lasts none).member);
              only = stay.only s.table s.set_id h.listed (h.lasts none).only;
              fills = (h.lasts none).fills;
            };
          }
          | false ↦ λ over. record {
            listed = stay.listed s.table h.listed;
            begun = h.begun;
            lasts = λ none. absurd cc;
          }
        ] refl

pub all_behind : (p : Place) (own : ℕ) (old new : Config) (d : Deed) → Stay old new → (all : List Stretch) →
    AllByRecursion (HoldsStretch p own old) all → AllByRecursion (HoldsStretch p own new) (map (behind own new d) all)
all_behind p own old new d stay all holds =
    all_mapped (HoldsStretch p own old) (HoldsStretch p own new) (behind own new d)
    (each_behind p own old new d stay) all holds

-- no rows, no stretch that begins
pub none_begin : (own : ℕ) (c : Config) (d : Deed) (all : List Stretch) → d.rows ≡ [] →
    stretches_by own c d all ≡ map (behind own c d) all
none_begin own c d all none =
    ap (λ rows. filter_map (λ given. stretch_in own d.first c given (set_of given.0 c)) rows
    ++ map (behind own c d) all) none

-- ---- a table of a set of the node

-- What held before a deed.
pub record Before : Type 0 where
  pub place : Place
  pub own : ℕ
  pub known : Config
  pub all : List Stretch
  pub holds : StretchesHold place own known all

-- the node is still the origin of the set, in the same era
pub record Leads (own : ℕ) (old new : Config) (set : ℕ) : Type 0 where
  pub origin : is_origin own set new ≡ true
  pub era : era_of set new ≡ era_of set old

-- its stretch lasts
pub there_behind : (b : Before) (new : Config) (d : Deed) (set : ℕ) (table : List ℕ) →
    IsHeldBy b.own b.known set table → Leads b.own b.known new set →
    HasStretch new (map (behind b.own new d) b.all) set table
there_behind b new d set table held leads = record {
  stretch = s;
  found =
      ap (λ era. find (is_stretch set era table) (map (behind b.own new d) b.all)) leads.era
      ∙ find_mapped (is_stretch set era table) (behind b.own new d)
      (same_stretch b.own new d (is_stretch set era table) (λ s last. refl)) b.all
      ∙ ap (option_map (behind b.own new d)) there.found
      ∙ ap Some (lasts_still b.own new d s there.lasts stands);
  lasts = there.lasts;
}
  where
    era : ℕ
    era = era_of set b.known

    there : HasStretch b.known b.all set table
    there = b.holds.there set table held

    s : Stretch
    s = there.stretch

    has : HoldsStretch b.place b.own b.known s × (is_stretch set era table s ≡ true)
    has = find_has (HoldsStretch b.place b.own b.known) (is_stretch set era table) s b.all b.holds.each there.found

    stands : reigns b.own new s ≡ true
    stands =
        let parts = and_parts (s.set_id == set) (s.era == era && bytes_eq table s.table) has.1 in
        let here : s.set_id ≡ set = eqb-true s.set_id set parts.0 in
        let now : s.era ≡ era = eqb-true s.era era (and_parts (s.era == era) (bytes_eq table s.table) parts.1).0 in
        and_from (is_origin b.own s.set_id new) (s.era == era_of s.set_id new)
        (ap (λ k. is_origin b.own k new) here ∙ leads.origin)
        (eq-eqb s.era (era_of s.set_id new) (now ∙ sym leads.era ∙ ap (λ k. era_of k new) (sym here)))

-- ---- sets and tables that stay

abbrev leads_by : ℕ → Option SetRow → Bool
leads_by own o = leads_row own (live_set o)

abbrev era_by : Option SetRow → ℕ
era_by o = unwrap_or (option_map (λ row. row.era) (live_set o)) 0

-- a set whose row is as before
pub same_leads : (own : ℕ) (old new : Config) (set : ℕ) → entry_at set new.sets ≡ entry_at set old.sets →
    is_origin own set new ≡ true → Leads own old new set × (is_origin own set old ≡ true)
same_leads own old new set same is =
    (record { origin = is; era = ap era_by same }, ap (leads_by own) (sym same) ∙ is)

kept_whole : (own : ℕ) (old new : Config) → IsKept old new → IsWhole own old → IsWhole own new
kept_whole own old new kept w = record {
  knows = kept.nodes own w.knows;
  sets = λ set row is. kept.nodes row.origin (w.sets set row (ap (entry_at set) (sym kept.sets) ∙ is));
  tables =
      subst (λ tables. AllByRecursion (λ e. is_some (entry_at e.1.set_id new.sets) ≡ true) tables) (sym kept.tables)
      (subst (λ sets. AllByRecursion (λ e. is_some (entry_at e.1.set_id sets) ≡ true) old.tables) (sym kept.sets)
      w.tables);
  names = subst (λ (tables : Map TableRow). (e f : ℕ × TableRow) → IsAmong e tables → IsAmong f tables →
      e.1.name ≡ f.1.name → e.1.set_id ≡ f.1.set_id) (sym kept.tables) w.names;
  live = λ e among some.
      w.live e (subst (IsAmong e) kept.tables among)
      (subst (λ sets. is_some (live_set (entry_at e.1.set_id sets)) ≡ true) kept.sets some);
  ended = λ e among owns live.
      subst (λ sets. is_some (live_set (entry_at e.1.set_id sets)) ≡ true) (sym kept.sets)
      (w.ended e (subst (IsAmong e) kept.tables among)
      (subst (λ sets. leads_row own (entry_at e.1.set_id sets) ≡ true) kept.sets owns) live);
}

same_set : (old new : Config) → IsKept old new → (table : List ℕ) → set_of table new ≡ set_of table old
same_set old new kept table i = set_of table (record old { sets = kept.sets i; tables = kept.tables i })

pub kept_stay : (old new : Config) → IsKept old new → Stay old new
kept_stay old new kept = record {
  listed = λ table listed. subst (λ tables. IsListed table (record new { tables = tables })) (sym kept.tables) listed;
  member = λ table set is. inl (same_set old new kept table ∙ is);
  only = λ table set listed only.
      subst (λ tables. IsOnlyIn set table (record new { tables = tables })) (sym kept.tables) only;
}

pub keeps_holds : (b : Before) (new : Config) (d : Deed) → d.rows ≡ [] → IsKept b.known new →
    StretchesHold b.place b.own new (stretches_by b.own new d b.all)
keeps_holds b new d none kept =
    subst (StretchesHold b.place b.own new) (sym (none_begin b.own new d b.all none)) (record {
      whole = kept_whole b.own b.known new kept b.holds.whole;
      each = all_behind b.place b.own b.known new d (kept_stay b.known new kept) b.all b.holds.each;
      there = λ set table held.
          let leads = same_leads b.own b.known new set (ap (entry_at set) kept.sets) held.1 in
          there_behind b new d set table (sym (same_set b.known new kept table) ∙ held.0, leads.1) leads.0;
    })

-- ---- a set that begins

-- a set that was known has the same row
another_set : (sets : Map SetRow) (id : ℕ) (row : SetRow) → IsNew id sets → (set : ℕ) →
    is_some (entry_at set sets) ≡ true → entry_at set (with_entry id row sets) ≡ entry_at set sets
another_set sets id row new set known =
    entry-with set id row sets
    ∙ ap (λ b. cond b (Some row) (entry_at set sets))
    (false_from_ne_true (set == id) (λ same. false≢true (sym new
    ∙ ap (λ k. is_some (entry_at k sets)) (sym (eqb-true set id same)) ∙ known)))

-- the set of a table is known
known_set : (own : ℕ) (c : Config) (set : ℕ) (table : List ℕ) → IsWhole own c → set_of table c ≡ Some set →
    is_some (entry_at set c.sets) ≡ true
known_set own c set table w is = by (member_of table c) refl is
  where
    by : (o : Option (ℕ × TableRow)) → member_of table c ≡ o → option_map (λ e. e.1.set_id) o ≡ Some set →
        is_some (entry_at set c.sets) ≡ true
    by None found none = absurd cc
    by (Some e) found some =
        let here : e.1.set_id ≡ set = cc in
        ap (λ k. is_some (entry_at k c.sets)) (sym here)
        ∙ (find_has (λ e. is_some (entry_at e.1.set_id c.sets) ≡ true) _ e c.tables w.tables found).0

-- each table is found in its set still
created_set : (own : ℕ) (c : Config) (id : ℕ) (row : SetRow) → IsWhole own c → IsNew id c.sets → (table : List ℕ) →
    set_of table (record c { sets = with_entry id row c.sets }) ≡ set_of table c
created_set own c id row w fresh table =
    ap (option_map (λ e. e.1.set_id)) (find_agrees _ _ c.tables
    (all_map (λ e. is_some (entry_at e.1.set_id c.sets) ≡ true)
    (λ e. (e.1.live && bytes_eq table e.1.name
    && is_some (set_row e.1.set_id (record c { sets = with_entry id row c.sets })))
    ≡ (e.1.live && bytes_eq table e.1.name && is_some (set_row e.1.set_id c)))
    (λ e known. ap (λ o. e.1.live && bytes_eq table e.1.name && is_some (live_set o))
    (another_set c.sets id row fresh e.1.set_id known)) c.tables w.tables))

pub created_stay : (own : ℕ) (c : Config) (id : ℕ) (row : SetRow) → IsWhole own c → IsNew id c.sets →
    Stay c (record c { sets = with_entry id row c.sets })
created_stay own c id row w fresh = record {
  listed = λ table listed. listed;
  member = λ table set is. inl (created_set own c id row w fresh table ∙ is);
  only = λ table set listed only. only;
}

pub creates_holds : (b : Before) (id : ℕ) (row : SetRow) (d : Deed) → d.rows ≡ [] → IsNew id b.known.sets →
    is_some (entry_at row.origin b.known.nodes) ≡ true →
    StretchesHold b.place b.own (record b.known { sets = with_entry id row b.known.sets })
    (stretches_by b.own (record b.known { sets = with_entry id row b.known.sets }) d b.all)
creates_holds b id row d none fresh origin =
    subst (StretchesHold b.place b.own new) (sym (none_begin b.own new d b.all none)) (record {
      whole = record {
        knows = b.holds.whole.knows;
        sets = λ set r is. by set r (set == id) (sym (entry-with set id row b.known.sets) ∙ is);
        tables =
            all_map (λ e. is_some (entry_at e.1.set_id b.known.sets) ≡ true)
            (λ e. is_some (entry_at e.1.set_id new.sets) ≡ true)
            (λ e known. there_with e.1.set_id id row b.known.sets known) b.known.tables b.holds.whole.tables;
        names = b.holds.whole.names;
        live = λ e among some.
            b.holds.whole.live e among (ap (λ o. is_some (live_set o)) (sym (same_row e among)) ∙ some);
        ended = λ e among owns live.
            ap (λ o. is_some (live_set o)) (same_row e among)
            ∙ b.holds.whole.ended e among (ap (leads_row b.own) (sym (same_row e among)) ∙ owns) live;
      };
      each = all_behind b.place b.own b.known new d stay b.all b.holds.each;
      there = λ set table held.
          let before = sym (one_set table) ∙ held.0 in
          let known = known_set b.own b.known set table b.holds.whole before in
          let leads = same_leads b.own b.known new set (another_set b.known.sets id row fresh set known) held.1 in
          there_behind b new d set table (before, leads.1) leads.0;
    })
  where
    new : Config
    new = record b.known { sets = with_entry id row b.known.sets }

    same_row : (e : ℕ × TableRow) → IsAmong e b.known.tables →
        entry_at e.1.set_id new.sets ≡ entry_at e.1.set_id b.known.sets
    same_row e among =
        another_set b.known.sets id row fresh e.1.set_id
        (all_among (λ e. is_some (entry_at e.1.set_id b.known.sets) ≡ true) e b.known.tables b.holds.whole.tables among)

    by : (set : ℕ) (r : SetRow) (c : Bool) → cond c (Some row) (entry_at set b.known.sets) ≡ Some r →
        is_some (entry_at r.origin b.known.nodes) ≡ true
    by set r true is =
        let one : row ≡ r = cc in
        ap (λ (k : SetRow). is_some (entry_at k.origin b.known.nodes)) (sym one) ∙ origin
    by set r false is = b.holds.whole.sets set r is

    stay : Stay b.known new
    stay = created_stay b.own b.known id row b.holds.whole fresh

    one_set : (table : List ℕ) → set_of table new ≡ set_of table b.known
    one_set = created_set b.own b.known id row b.holds.whole fresh
