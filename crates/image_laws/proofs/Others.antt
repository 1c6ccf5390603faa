-- What is found for an event, and what comes of it, is of sets of other nodes.
use Rattle.std.proofs.Common.{◌≡◌, ℕ, Bool, true, false, cond, List, [], ◌∷◌, Option, Some, None, refl}
use Rattle.std.proofs.Common.{sym, ap, subst, ◌∙◌, is_some, map, inl, inr}
use Rattle.std.specs.Prelude.{◌==◌, ◌&&◌}
use Rattle.std.specs.Str.{bytes_eq}
use Rattle.std.specs.List.{AllByRecursion}
use Rattle.std.proofs.lemmas.Bool.{false≢true, eqb-true, and_parts}
use Rattle.node_rows.specs.declared.rows.SetRow.{SetRow}
use Rattle.node_rows.specs.declared.rows.TableRow.{TableRow}
use Rattle.slon_model.specs.Maps.{entry_at}
use Rattle.slon_model.specs.Events.{Event}
use Rattle.slon_model.specs.Config.{Config, is_origin, is_table_of, leads_row, tables_of}
use Rattle.slon_model.specs.Deeds.{Node, Knowledge, Logged}
use Rattle.slon_model.specs.Deeds.{knowledge, nothing_brought}
use Rattle.slon_model.specs.Place.{Place, standing_rows, taken}
use Rattle.slon_model.specs.Sessions.{World, Seat}
use Rattle.slon_model.specs.Following.{Found, FoundCopy, FoundNothing, FoundSyncs, SetSync, brought_of, is_on_one}
use Rattle.slon_model.specs.Following.{kept_from, set_sync, tables_taken}
use Rattle.slon_model.specs.Logs.{logged}
use Rattle.slon_model.specs.Working.{names_taken}
use Rattle.slon_model.proofs.Names.{all_map, bytes_same}
use Rattle.stream_laws.specs.Nodes.{IsAmong}
use Rattle.stream_laws.proofs.Lists.{all_among, all_each, all_mapped, all_passed, among_all, any_among}
use Rattle.stream_laws.proofs.Seats.{IsSeat}
use Rattle.stream_laws.proofs.Copies.{Finds, Nothing, Copies, Brings, AreTakenOf}
use Rattle.image_laws.specs.Fits.{IsWhole}
use Rattle.image_laws.specs.Fits.{IsOfOther, AreOfOthers, LogOthers, is_owner}
use Rattle.image_laws.proofs.Stretching.{owns_leads}
use Rattle.std.proofs.lemmas.Bool.{true≢false, false_from_ne_true}
use Rattle.slon_laws.proofs.Following.{delta_has, syncs_have}
use Rattle.image_laws.proofs.Staying.{IsRowOf, IsTableOf, Stays}
use Rattle.slon_model.specs.Views.{Views}

-- what is found for an event is of sets of other nodes than the one of this id
abbrev pub FoundOthers : ℕ → Config → Found → Type 0
FoundOthers own c FoundNothing = Unit {0}
FoundOthers own c (FoundCopy set view rows) = AreOfOthers own c rows
FoundOthers own c (FoundSyncs ts) = AllByRecursion (λ t. LogOthers own c t.rows) ts

-- ---- the tables of a set

-- the tables of a set of another node
pub tables_others : (own set : ℕ) (c : Config) → IsWhole own c → is_origin own set c ≡ false →
    AllByRecursion (λ e. IsOfOther own c e.1.name) (tables_of set c)
tables_others own set c whole other =
    all_passed (λ e. IsAmong e c.tables) (λ e. IsOfOther own c e.1.name) (is_table_of set)
    (λ e among on. let parts = and_parts e.1.live (e.1.set_id == set) on in record {
      entry = e;
      among = among;
      named = refl;
      other = false_from_ne_true (is_owner own e.1.set_id c) (λ owns.
          true≢false (sym (owns_leads own e.1.set_id c owns (whole.ended e among owns parts.0))
          ∙ ap (λ id. is_origin own id c) (eqb-true e.1.set_id set parts.1) ∙ other));
    }) c.tables (among_all (λ e. IsAmong e c.tables) c.tables (λ e among. among))

-- an action on a table to which a node takes rows is on one of a set of another node
pub taken_other : (own set : ℕ) (c : Config) → IsWhole own c → (l : Logged) →
    is_on_one (tables_taken own set c) l ≡ true →
    IsOfOther own c l.action.table
taken_other own set c whole l = by (is_origin own set c) refl
  where
    entry : ℕ × TableRow → ℕ × List ℕ
    entry e = (e.0, e.1.name)

    by : (b : Bool) → is_origin own set c ≡ b →
        is_on_one (cond b [] (map entry (tables_of set c))) l ≡ true → IsOfOther own c l.action.table
    by true leads on = absurd (false≢true on)
    by false other on =
        let found =
        any_among (λ t. t.0 == l.table_id && bytes_eq l.action.table t.1) (map entry (tables_of set c)) on in
        subst (IsOfOther own c)
        (sym (bytes_same l.action.table found.0.1
        (and_parts (found.0.0 == l.table_id) (bytes_eq l.action.table found.0.1) found.2).1))
        (all_among (λ t. IsOfOther own c t.1) found.0 (map entry (tables_of set c))
        (all_mapped (λ e. IsOfOther own c e.1.name) (λ t. IsOfOther own c t.1) entry (λ e is. is) (tables_of set c)
        (tables_others own set c whole other)) found.1)

-- a table to which a node takes rows is one of a set of another node
pub names_others : (own set : ℕ) (c : Config) → IsWhole own c →
    AllByRecursion (λ t. IsOfOther own c t.1) (tables_taken own set c)
names_others own set c whole = by (is_origin own set c) refl
  where
    entry : ℕ × TableRow → ℕ × List ℕ
    entry e = (e.0, e.1.name)

    by : (b : Bool) → is_origin own set c ≡ b →
        AllByRecursion (λ t. IsOfOther own c t.1) (cond b [] (map entry (tables_of set c)))
    by true leads = tt
    by false other =
        all_mapped (λ e. IsOfOther own c e.1.name) (λ t. IsOfOther own c t.1) entry (λ e is. is) (tables_of set c)
        (tables_others own set c whole other)

-- what is taken of sets is on such tables
pub taken_others : (w : World) (s : Seat) (e : Event) →
    (s.known ≡ knowledge s.node) × IsWhole s.node.id (knowledge s.node).config → (vs : Views) (ts : List SetSync) →
    AreTakenOf w s e vs ts → AllByRecursion (λ t. LogOthers s.node.id (knowledge s.node).config t.rows) ts
taken_others w s e known [] [] taken = tt
taken_others w s e known [] (t ∷ ts) taken = absurd taken
taken_others w s e known (v ∷ vs) [] taken = absurd taken
taken_others w s e known (v ∷ vs) (t ∷ ts) (here, more) = (
  subst (λ (t : SetSync). LogOthers s.node.id c t.rows) (sym here.is)
      (subst (λ (k : Knowledge). LogOthers s.node.id c (set_sync s.node.id k e log v).rows) (sym known.0)
      (delta_has (λ l. Unit {0}) (λ l. IsOfOther s.node.id c l.action.table) (tables_taken s.node.id v.0 c)
      (λ l any on. taken_other s.node.id v.0 c known.1 l on) e.origin v.1.seen e.taken log
      (all_each (λ l. Unit {0}) (λ l. tt) log))),
  taken_others w s e known vs ts more,
)
  where
    c : Config
    c = (knowledge s.node).config

    log : List Logged
    log = logged here.provider.node

-- what is found for an event is so
pub found_others : (w : World) (s : Seat) (e : Event) (f : Found) → IsSeat w.places s →
    IsWhole s.node.id (knowledge s.node).config → Finds w s e f → FoundOthers s.node.id (knowledge s.node).config f
found_others w s e f is whole (Nothing none silent) =
    subst (FoundOthers s.node.id (knowledge s.node).config) (sym none) tt
found_others w s e f is whole (Copies k) =
    subst (FoundOthers s.node.id known) (sym k.is)
    (all_mapped (IsOfOther s.node.id known) (λ r. IsOfOther s.node.id known r.0)
    (λ name. (name, standing_rows k.provider.place name)) (λ name of. of) (names_taken s set)
    (all_mapped (λ t. IsOfOther s.node.id known t.1) (IsOfOther s.node.id known) (λ t. t.1) (λ t is. is)
    (tables_taken s.node.id set s.known.config)
    (subst (λ (m : Knowledge). AllByRecursion (λ t. IsOfOther s.node.id known t.1)
    (tables_taken s.node.id set m.config)) (sym is.known) (names_others s.node.id set known whole))))
  where
    set : ℕ
    set = k.copying.set_id

    known : Config
    known = (knowledge s.node).config
found_others w s e f is whole (Brings k) =
    subst (FoundOthers s.node.id (knowledge s.node).config) (sym k.is)
    (taken_others w s e (is.known, whole) (kept_from e.origin s.known) k.syncs k.taken)

-- ---- what a node knows later

-- what holds of tables of other nodes' sets holds of what is found
pub others_map : (own later : ℕ) (c d : Config) →
    ((table : List ℕ) → IsOfOther own c table → IsOfOther later d table) → (f : Found) → FoundOthers own c f →
    FoundOthers later d f
others_map own later c d on FoundNothing is = tt
others_map own later c d on (FoundCopy set view rows) is =
    all_map (λ r. IsOfOther own c r.0) (λ r. IsOfOther later d r.0) (λ r. on r.0) rows is
others_map own later c d on (FoundSyncs ts) is =
    all_map (λ (t : SetSync). LogOthers own c t.rows) (λ t. LogOthers later d t.rows)
    (λ t. all_map (λ l. IsOfOther own c l.action.table) (λ l. IsOfOther later d l.action.table)
    (λ l. on l.action.table) t.rows) ts is

-- a table of a set of another node is one still
pub other_stays : (n : Node) (q : Place) (s : Stays n q) → IsWhole n.id (knowledge n).config → (table : List ℕ) →
    IsOfOther n.id (knowledge n).config table → IsOfOther s.node.id (knowledge s.node).config table
other_stays n q s whole table is = entry (s.tables is.entry is.among)
  where
    c : Config
    c = (knowledge n).config

    still : (row : SetRow) → entry_at is.entry.1.set_id c.sets ≡ Some row →
        IsRowOf is.entry.1.set_id row (knowledge s.node).config →
        is_owner s.node.id is.entry.1.set_id (knowledge s.node).config ≡ false
    still row found (inl same) =
        ap (leads_row s.node.id) same ∙ ap (λ id. leads_row id (Some row)) s.id ∙ ap (leads_row n.id) (sym found)
        ∙ is.other
    still row found (inr ended) =
        ap (leads_row s.node.id) ended ∙ ap (λ id. leads_row id (Some row)) s.id ∙ ap (leads_row n.id) (sym found)
        ∙ is.other

    by : (o : Option SetRow) → entry_at is.entry.1.set_id c.sets ≡ o → is_some o ≡ true →
        is_owner s.node.id is.entry.1.set_id (knowledge s.node).config ≡ false
    by None none some = absurd (false≢true some)
    by (Some row) found some = still row found (s.rows is.entry.1.set_id row found)

    other : is_owner s.node.id is.entry.1.set_id (knowledge s.node).config ≡ false
    other =
        by (entry_at is.entry.1.set_id c.sets) refl
        (all_among (λ e. is_some (entry_at e.1.set_id c.sets) ≡ true) is.entry c.tables whole.tables is.among)

    entry : IsTableOf is.entry (knowledge s.node).config → IsOfOther s.node.id (knowledge s.node).config table
    entry (inl among) = record { entry = is.entry; among = among; named = is.named; other = other }
    entry (inr (among, over)) =
        record {
          entry = (is.entry.0, record is.entry.1 { live = false });
          among = among;
          named = is.named;
          other = other;
        }

-- what comes of it
pub brought_others : (here : Place) (own : ℕ) (c : Config) (f : Found) → FoundOthers own c f →
    AreOfOthers own c (brought_of here f).rows × LogOthers own c (brought_of here f).logs
brought_others here own c FoundNothing is = (tt, tt)
brought_others here own c (FoundCopy set view rows) is = (is, tt)
brought_others here own c (FoundSyncs ts) is =
    syncs_have here (λ r. IsOfOther own c r.0) (λ l. IsOfOther own c l.action.table) (λ rows l old is. is) ts
    nothing_brought is (tt, tt)
