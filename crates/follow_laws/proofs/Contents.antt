-- What tables hold that were filled, and what is taken of one table with a SYNC.
use Rattle.std.proofs.Common.{◌≡◌, ◌≢◌, inl, inr, ℕ, ◌<◌, Bool, true, false, cond, List, [], ◌∷◌, Option, Some}
use Rattle.std.proofs.Common.{None, refl, sym, ap, subst, ◌∙◌, arith, map, filter, unwrap_or, not}
use Rattle.std.specs.Prelude.{◌&&◌, nat_le}
use Rattle.std.specs.Str.{bytes_eq}
use Rattle.std.specs.List.{AllByRecursion}
use Rattle.std.specs.FinMap.{empty}
use Rattle.std.proofs.lemmas.Bool.{false≢true, true≢false, and_right, lt-leb}
use Rattle.slon_model.specs.Names.{Named, find_named}
use Rattle.slon_model.specs.Maps.{Map}
use Rattle.slon_model.specs.Rows.{Action, Rows, apply, member, play_rows}
use Rattle.slon_model.specs.Snapshots.{Snapshot, sees}
use Rattle.slon_model.specs.Deeds.{Brought, Deed, Logged, brought_in}
use Rattle.slon_model.specs.Following.{SetSync, content, delta, is_new, is_on_one, numbered, with_actions, with_sync}
use Rattle.slon_model.specs.Following.{with_syncs}
use Rattle.slon_model.specs.Place.{Filling, Place, filled, filled_by, filling_of, standing_rows}
use Rattle.slon_model.specs.Views.{View}
use Rattle.slon_model.specs.Working.{rows_at}
use Rattle.slon_model.proofs.Names.{all_map, bytes_itself, bytes_same}
use Rattle.slon_laws.proofs.Fillable.{AreUnwritten}
use Rattle.slon_laws.proofs.Played.{play_agrees_on}
use Rattle.stream_laws.specs.Nodes.{IsAmong}
use Rattle.stream_laws.proofs.Lists.{all_among}
use Rattle.image_laws.specs.Deltas.{applied}
use Rattle.view_laws.specs.Contents.{actions_on}
use Rattle.view_laws.specs.Known.{AreRising}

-- ---- a table without actions since it was filled

-- each action on the table came before
abbrev pub AreBefore : List ℕ → ℕ → List Action → Type 0
AreBefore table first actions = AllByRecursion (λ a. bytes_eq table a.table ≡ true → a.number < first) actions

none_played : (table : List ℕ) (actions : List Action) (start : Rows) →
    play_rows (λ a. false) table actions start ≡ start
none_played table [] start = refl
none_played table (a ∷ rest) start = none_played table rest start

-- it holds what it was filled with
pub filled_stands : (p : Place) (table : List ℕ) →
    AreBefore table (filling_of table p.fillings).first p.actions →
    standing_rows p table ≡ (filling_of table p.fillings).rows
filled_stands p table before =
    play_agrees_on (λ a. member a.xid p.commits && nat_le f.first a.number) (λ a. false) table p.actions f.rows
    (all_map (λ a. bytes_eq table a.table ≡ true → a.number < f.first)
    (λ a. bytes_eq table a.table ≡ true → (member a.xid p.commits && nat_le f.first a.number) ≡ false)
    (λ a less on. and_right (member a.xid p.commits) (nat_le f.first a.number) (lt-leb f.first a.number (less on)))
    p.actions before) ∙ none_played table p.actions f.rows
  where
    f : Filling
    f = filling_of table p.fillings

-- ---- tables that are filled

-- what a table is filled with, if these rows are for it
abbrev pub filling_by : Place → Filling → Option Rows → Filling
filling_by p old None = old
filling_by p old (Some rows) = record { first = p.numbers.next; rows = rows }

pub filling_filled : (p : Place) (rs : Named Rows) (fillings : Named Filling) (table : List ℕ) → AreUnwritten p rs →
    filling_of table (filled p rs fillings) ≡ filling_by p (filling_of table fillings) (find_named table rs)
filling_filled p [] fillings table free = refl
filling_filled p (r ∷ rs) fillings table free =
    ap (λ b. filling_of table (cond b (filled p rs fillings)
    ((r.0, record { first = p.numbers.next; rows = r.1 }) ∷ filled p rs fillings))) free.0
    ∙ by (bytes_eq table r.0) (filling_filled p rs fillings table free.1)
  where
    none : Filling
    none = record { first = 0; rows = empty }

    by : (b : Bool) →
        filling_of table (filled p rs fillings) ≡ filling_by p (filling_of table fillings) (find_named table rs) →
        unwrap_or (cond b (Some (record { first = p.numbers.next; rows = r.1 }))
        (find_named table (filled p rs fillings))) none
        ≡ filling_by p (filling_of table fillings) (cond b (Some r.1) (find_named table rs))
    by true rest = refl
    by false rest = rest

-- deeds that bring nothing
pub none_filled : (p : Place) (ds : List Deed) (fillings : Named Filling) →
    AllByRecursion (λ d. (brought_in d.doing).rows ≡ []) ds → filled_by p ds fillings ≡ fillings
none_filled p [] fillings none = refl
none_filled p (d ∷ ds) fillings none =
    ap (λ rows. filled p rows (filled_by p ds fillings)) none.0 ∙ none_filled p ds fillings none.1

-- ---- a copy

pub rows_found : (there : Place) (table : List ℕ) (names : List (List ℕ)) → IsAmong table names →
    find_named table (rows_at there names) ≡ Some (standing_rows there table)
rows_found there table [] among = absurd among
rows_found there table (name ∷ more) among = by (rows_found there table more) (bytes_eq table name) refl among
  where
    by : (IsAmong table more → find_named table (rows_at there more) ≡ Some (standing_rows there table)) →
        (b : Bool) → bytes_eq table name ≡ b → IsAmong table (name ∷ more) →
        cond b (Some (standing_rows there name)) (find_named table (rows_at there more))
        ≡ Some (standing_rows there table)
    by rest true same among = ap (λ k. Some (standing_rows there k)) (sym (bytes_same table name same))
    by rest false other (inl is) =
        absurd (true≢false (sym (subst (λ k. bytes_eq table k ≡ true) is (bytes_itself table)) ∙ other))
    by rest false other (inr later) = rest later

pub rows_none : (there : Place) (table : List ℕ) (names : List (List ℕ)) →
    AllByRecursion (λ name. bytes_eq table name ≡ false) names → find_named table (rows_at there names) ≡ None
rows_none there table [] none = refl
rows_none there table (name ∷ more) none =
    ap (λ b. cond b (Some (standing_rows there name)) (find_named table (rows_at there more))) none.0
    ∙ rows_none there table more none.1

-- ---- a SYNC

actions_step : (here : Place) (table : List ℕ) (l : Logged) (rows : Named Rows) →
    content here ((l.action.table, apply l.action.change (content here rows l.action.table)) ∷ rows) table
    ≡ cond (bytes_eq table l.action.table) (apply l.action.change (content here rows table)) (content here rows table)
actions_step here table l rows = by (bytes_eq table l.action.table) refl
  where
    by : (b : Bool) → bytes_eq table l.action.table ≡ b →
        unwrap_or (cond b (Some (apply l.action.change (content here rows l.action.table))) (find_named table rows))
        (standing_rows here table)
        ≡ cond b (apply l.action.change (content here rows table)) (content here rows table)
    by true same =
        ap (λ name. apply l.action.change (content here rows name)) (sym (bytes_same table l.action.table same))
    by false other = refl

-- the actions on a table are done on it
content_actions : (here : Place) (table : List ℕ) (ls : List Logged) (rows : Named Rows) →
    content here (with_actions here ls rows) table ≡ applied (actions_on table ls) (content here rows table)
content_actions here table [] rows = refl
content_actions here table (l ∷ more) rows =
    content_actions here table more _ ∙ ap (applied (actions_on table more)) (actions_step here table l rows)
    ∙ by (bytes_eq table l.action.table)
  where
    by : (b : Bool) →
        applied (actions_on table more)
        (cond b (apply l.action.change (content here rows table)) (content here rows table))
        ≡ applied (map (λ (k : Logged). k.action) (cond b (l ∷ filter (λ l. bytes_eq table l.action.table) more)
        (filter (λ l. bytes_eq table l.action.table) more))) (content here rows table)
    by true = refl
    by false = refl

-- of several sets, one after the other
abbrev pub synced : List ℕ → List SetSync → Rows → Rows
synced table [] rows = rows
synced table (t ∷ more) rows = synced table more (applied (actions_on table t.rows) rows)

pub content_syncs : (here : Place) (table : List ℕ) (ts : List SetSync) (b : Brought) →
    content here (with_syncs here ts b).rows table ≡ synced table ts (content here b.rows table)
content_syncs here table [] b = refl
content_syncs here table (t ∷ more) b =
    content_syncs here table more (with_sync here t b)
    ∙ ap (synced table more) (content_actions here table t.rows b.rows)

pub synced_none : (table : List ℕ) (ts : List SetSync) (rows : Rows) →
    AllByRecursion (λ t. actions_on table t.rows ≡ []) ts → synced table ts rows ≡ rows
synced_none table [] rows none = refl
synced_none table (t ∷ more) rows none =
    ap (λ actions. synced table more (applied actions rows)) none.0 ∙ synced_none table more rows none.1

-- where the table is of one of them
pub synced_one : (table : List ℕ) (sync : ℕ × View → SetSync) (set : ℕ) (y : View) (vs : Map View) (rows : Rows) →
    AreRising vs × AllByRecursion (λ v. v.0 ≢ set → actions_on table (sync v).rows ≡ []) vs → IsAmong (set, y) vs →
    synced table (map sync vs) rows ≡ applied (actions_on table (sync (set, y)).rows) rows
synced_one table sync set y [] rows are among = absurd among
synced_one table sync set y (v ∷ vs) rows are (inl is) =
    synced_none table (map sync vs) (applied (actions_on table (sync v).rows) rows) (others vs are.0.0 are.1.1)
    ∙ ap (λ u. applied (actions_on table (sync u).rows) rows) (sym is)
  where
    here : v.0 ≡ set
    here = ap (λ (u : ℕ × View). u.0) (sym is)

    others : (us : Map View) → AllByRecursion (λ f. v.0 < f.0) us →
        AllByRecursion (λ v. v.0 ≢ set → actions_on table (sync v).rows ≡ []) us →
        AllByRecursion (λ t. actions_on table t.rows ≡ []) (map sync us)
    others [] less none = tt
    others (u ∷ us) less none = (
      none.0 (λ same. let above = less.0 in absurd (omega (arith, above, same, here))),
      others us less.1 none.1,
    )
synced_one table sync set y (v ∷ vs) rows are (inr later) =
    ap (λ actions. synced table (map sync vs) (applied actions rows)) (are.1.0 (λ same.
    let above : v.0 < set = all_among (λ f. v.0 < f.0) (set, y) vs are.0.0 later in
    absurd (omega (arith, above, same))))
    ∙ synced_one table sync set y vs rows (are.0.1, are.1.1) later

-- ---- nothing is taken

pub actions_none : (table : List ℕ) (ls : List Logged) →
    AllByRecursion (λ l. bytes_eq table l.action.table ≡ false) ls → actions_on table ls ≡ []
actions_none table [] none = refl
actions_none table (l ∷ more) none =
    ap (λ b. map (λ (k : Logged). k.action) (cond b (l ∷ filter (λ l. bytes_eq table l.action.table) more)
    (filter (λ l. bytes_eq table l.action.table) more))) none.0 ∙ actions_none table more none.1

filter_none : (test : Logged → Bool) (ls : List Logged) → ((l : Logged) → test l ≡ false) → filter test ls ≡ []
filter_none test [] none = refl
filter_none test (l ∷ more) none =
    ap (λ b. cond b (l ∷ filter test more) (filter test more)) (none l) ∙ filter_none test more none

-- a snapshot that covers another one leaves nothing between them
pub covered_none : (origin : ℕ) (tables : Map (List ℕ)) (old new : Snapshot) (logs : List Logged) →
    ((x : ℕ) → sees new x ≡ true → sees old x ≡ true) → delta origin tables old new logs ≡ []
covered_none origin tables old new logs covers =
    filter_none (λ l. is_on_one tables l && is_new old new l) (map (λ e. e.1) (numbered origin logs))
    (λ l. and_right (is_on_one tables l) (is_new old new l) (by (sees new l.action.xid) (sees old l.action.xid)
    (covers l.action.xid)))
  where
    by : (a b : Bool) → (a ≡ true → b ≡ true) → (a && not b) ≡ false
    by true true on = refl
    by true false on = absurd (false≢true (on refl))
    by false b on = refl
