-- What the origin of a set logs of a table: the committed actions on it since it came into the set, and no others.
use Rattle.slon_laws.specs.Sound.{Sound}
use Rattle.std.proofs.Common.{◌≡◌, ℕ, suc, ◌<◌, Bool, true, false, cond, List, [], ◌∷◌, ◌++◌, map, length, Option, ◌⊎◌}
use Rattle.std.proofs.Common.{Some, None, refl, sym, ap, subst, ◌∙◌, arith, inl, inr, filter}
use Rattle.std.specs.Prelude.{◌==◌, ◌||◌, filter_map, option_map, nat_le}
use Rattle.std.specs.Str.{bytes_eq}
use Rattle.std.specs.List.{AllByRecursion, list_any, cons_option}
use Rattle.std.proofs.lemmas.Bool.{true≢false, eqb-true, and_parts, or_cases, lt-leb, or_right}
use Rattle.node_rows.specs.declared.rows.TableRow.{TableRow}
use Rattle.slon_model.specs.Rows.{Action, member}
use Rattle.slon_model.specs.Config.{Config, is_origin, era_of, set_of, member_of}
use Rattle.slon_model.specs.Deeds.{Node, Deed, Logged, Knowledge, knowledge, with_deeds}
use Rattle.slon_model.specs.Logs.{logged, logged_on, own_logs}
use Rattle.slon_model.specs.Place.{Place, open_xids, own_actions}
use Rattle.slon_model.specs.Moves.{with_commit, commit_deed}
use Rattle.slon_model.specs.Eras.{Stretch, stretches}
use Rattle.slon_model.proofs.Names.{all_map, bytes_itself, bytes_same}
use Rattle.stream_laws.specs.Nodes.{IsAmong}
use Rattle.stream_laws.proofs.Lists.{all_appended, all_among, among_all, among_any, all_mapped}
use Rattle.image_laws.specs.Fits.{IsListed, Keeps, CreatesSet, AddsTable, FollowsTable, DropsSet, Fit, IsOfOther}
use Rattle.image_laws.specs.Fits.{LogOthers}
use Rattle.image_laws.specs.Facts.{Lasts, HoldsStretch, NodeHolds, IsOf, IsLogged, HasLogged, LogHolds}
use Rattle.image_laws.proofs.Adding.{OneDeed, known_behind, stays_behind, new_behind, begins_behind}
use Rattle.image_laws.proofs.Filling.{not_filled}
use Rattle.image_laws.proofs.Stretching.{listed_member, behind, behind_same, lasted, none_begin}

-- ---- lists

pub among_left : {X : Type 0} (x : X) (xs ys : List X) → IsAmong x xs → IsAmong x (xs ++ ys)
among_left x [] ys among = absurd among
among_left x (y ∷ xs) ys (inl is) = inl is
among_left x (y ∷ xs) ys (inr later) = inr (among_left x xs ys later)

pub among_right : {X : Type 0} (x : X) (xs ys : List X) → IsAmong x ys → IsAmong x (xs ++ ys)
among_right x [] ys among = among
among_right x (y ∷ xs) ys among = inr (among_right x xs ys among)

among_mapped : {X Y : Type 0} (f : X → Option Y) (x : X) (y : Y) (xs : List X) → IsAmong x xs → f x ≡ Some y →
    IsAmong y (filter_map f xs)
among_mapped f x y [] among is = absurd among
among_mapped f x y (z ∷ zs) among is = by among (λ later. among_mapped f x y zs later is) (f z) refl
  where
    by : IsAmong x (z ∷ zs) → (IsAmong x zs → IsAmong y (filter_map f zs)) → (o : Option _) → f z ≡ o →
        IsAmong y (cons_option o (filter_map f zs))
    by (inl here) on o at =
        subst (λ o. IsAmong y (cons_option o (filter_map f zs))) (sym is ∙ ap f here ∙ at) (inl refl)
    by (inr later) on None at = on later
    by (inr later) on (Some w) at = inr (on later)

pub among_filtered : {X : Type 0} (test : X → Bool) (x : X) (xs : List X) → IsAmong x xs → test x ≡ true →
    IsAmong x (filter test xs)
among_filtered test x [] among is = absurd among
among_filtered test x (y ∷ ys) among is = by among (λ later. among_filtered test x ys later is) (test y) refl
  where
    by : IsAmong x (y ∷ ys) → (IsAmong x ys → IsAmong x (filter test ys)) → (b : Bool) → test y ≡ b →
        IsAmong x (cond b (y ∷ filter test ys) (filter test ys))
    by (inl here) on true at = inl here
    by (inl here) on false at = absurd (true≢false (sym is ∙ ap test here ∙ at))
    by (inr later) on true at = inr (on later)
    by (inr later) on false at = on later

pub filtered_among : {X : Type 0} (test : X → Bool) (x : X) (xs : List X) → IsAmong x (filter test xs) →
    IsAmong x xs × (test x ≡ true)
filtered_among test x [] among = absurd among
filtered_among test x (y ∷ ys) among = by (filtered_among test x ys) (test y) refl among
  where
    by : (IsAmong x (filter test ys) → IsAmong x ys × (test x ≡ true)) → (b : Bool) → test y ≡ b →
        IsAmong x (cond b (y ∷ filter test ys) (filter test ys)) → IsAmong x (y ∷ ys) × (test x ≡ true)
    by on true at (inl here) = (inl here, ap test here ∙ at)
    by on true at (inr later) = let there = on later in (inr there.0, there.1)
    by on false at later = let there = on later in (inr there.0, there.1)

-- what holds of each that is made of one of these
all_made : {X Y : Type 0} (P : Y → Type 0) (f : X → Option Y) (xs : List X) →
    ((x : X) → IsAmong x xs → (y : Y) → f x ≡ Some y → P y) → AllByRecursion P (filter_map f xs)
all_made P f [] each = tt
all_made P f (x ∷ xs) each = by (all_made P f xs (λ y later. each y (inr later))) (f x) refl
  where
    by : AllByRecursion P (filter_map f xs) → (o : Option _) → f x ≡ o →
        AllByRecursion P (cons_option o (filter_map f xs))
    by rest None at = rest
    by rest (Some y) at = (each x (inl refl) y at, rest)

pub none_counted : {X : Type 0} (test : X → Bool) (xs : List X) → (length (filter test xs) == 0) ≡ true →
    AllByRecursion (λ x. test x ≡ false) xs
none_counted test [] none = tt
none_counted test (x ∷ xs) none = by (none_counted test xs) (test x) refl none
  where
    by : ((length (filter test xs) == 0) ≡ true → AllByRecursion (λ x. test x ≡ false) xs) → (b : Bool) → test x ≡ b →
        (length (cond b (x ∷ filter test xs) (filter test xs)) == 0) ≡ true →
        AllByRecursion (λ x. test x ≡ false) (x ∷ xs)
    by on true at some = let never = eqb-true (suc (length (filter test xs))) 0 some in absurd (omega (arith, never))
    by on false at rest = (at, on rest)

-- ---- the database goes on, its node does nothing

-- it has more actions, of which none stands
pub record Further (p q : Place) : Type 0 where
  pub more : List Action
  pub actions : q.actions ≡ more ++ p.actions
  pub commits : q.commits ≡ p.commits
  pub none : AllByRecursion (λ a. member a.xid p.commits ≡ false) more

-- the same, or a commit of no actions
pub record Alike (p q : Place) : Type 0 where
  pub among : (a : Action) → IsAmong a p.actions → IsAmong a q.actions
  pub came : (a : Action) → IsAmong a q.actions → member a.xid q.commits ≡ true →
      IsAmong a p.actions × (member a.xid p.commits ≡ true)
  pub still : (x : ℕ) → member x p.commits ≡ true → member x q.commits ≡ true

logged_alike : (p q : Place) (own : ℕ) (log : List Logged) (s : Stretch) → Alike p q → HasLogged p own log s →
    HasLogged q own log s
logged_alike p q own log s k h = record {
  all = among_all _ q.actions (λ a among on came first.
      let was = k.came a among came in
      all_among _ a p.actions h.all was.0 on was.1 first);
  only = all_map (λ l. bytes_eq s.table l.action.table ≡ true → IsOf p own s l)
      (λ l. bytes_eq s.table l.action.table ≡ true → IsOf q own s l)
      (λ l is on. let one = is on in record {
        set_id = one.set_id;
        era = one.era;
        origin = one.origin;
        among = k.among l.action one.among;
        came = k.still l.action.xid one.came;
        first = one.first;
      }) log h.only;
}

pub log_alike : (p q : Place) (n : Node) → Alike p q → LogHolds p n → LogHolds q n
log_alike p q n k h = record {
  listed = h.listed;
  each =
      all_map (λ s. s.last ≡ None → HasLogged p n.id (logged n) s) (λ s. s.last ≡ None → HasLogged q n.id (logged n) s)
      (λ s is none. logged_alike p q n.id (logged n) s k (is none)) (stretches n) h.each;
}

pub further_alike : (p q : Place) → Further p q → Alike p q
further_alike p q f = record {
  among = λ a among. subst (IsAmong a) (sym f.actions) (among_right a f.more p.actions among);
  came = λ a among came.
      let here = ap (member a.xid) (sym f.commits) ∙ came in
      (by a f.more f.none here (subst (IsAmong a) f.actions among), here);
  still = λ x came. ap (member x) f.commits ∙ came;
}
  where
    by : (a : Action) (more : List Action) → AllByRecursion (λ a. member a.xid p.commits ≡ false) more →
        member a.xid p.commits ≡ true → IsAmong a (more ++ p.actions) → IsAmong a p.actions
    by a [] none came among = among
    by a (b ∷ more) none came (inl here) =
        absurd (true≢false (sym came ∙ ap (λ (c : Action). member c.xid p.commits) here ∙ none.0))
    by a (b ∷ more) none came (inr later) = by a more none.1 came later

-- ---- a deed

-- a stretch is the same but for its end
same_log : (p : Place) (own : ℕ) (log : List Logged) (s : Stretch) (last : Option ℕ) → HasLogged p own log s →
    HasLogged p own log (record s { last = last })
same_log p own log s last h = record {
  all = h.all;
  only = all_map (λ l. bytes_eq s.table l.action.table ≡ true → IsOf p own s l)
      (λ l. bytes_eq s.table l.action.table ≡ true → IsOf p own (record s { last = last }) l)
      (λ l is on. let one = is on in record {
        set_id = one.set_id;
        era = one.era;
        origin = one.origin;
        among = one.among;
        came = one.came;
        first = one.first;
      }) log h.only;
}

-- the stretches behind a deed have what they had
each_logged : (p : Place) (own : ℕ) (log : List Logged) (c : Config) (d : Deed) (all : List Stretch) →
    AllByRecursion (λ s. s.last ≡ None → HasLogged p own log s) all →
    AllByRecursion (λ s. s.last ≡ None → HasLogged p own log s) (map (behind own c d) all)
each_logged p own log c d all holds =
    all_mapped (λ s. s.last ≡ None → HasLogged p own log s) (λ s. s.last ≡ None → HasLogged p own log s)
    (behind own c d)
    (λ s is none. subst (HasLogged p own log) (sym (behind_same own c d s))
    (same_log p own log s (behind own c d s).last (is (lasted own c d s none)))) all holds

-- A stretch that begins now, of a table that was not known.
record IsFresh (p : Place) (c : Config) (s : Stretch) : Type 0 where
  first : s.first ≡ p.numbers.next
  unused : IsListed s.table c → ⊥

-- a new stretch has nothing in the log, and nothing to log
none_logged : (p : Place) (own : ℕ) (log : List Logged) (c : Config) (s : Stretch) → Sound p → IsFresh p c s →
    AllByRecursion (λ l. IsListed l.action.table c) log → HasLogged p own log s
none_logged p own log c s sound fresh listed = record {
  all = all_map (λ a. a.number < p.numbers.next) (λ a. bytes_eq s.table a.table ≡ true →
      member a.xid p.commits ≡ true → nat_le s.first a.number ≡ true → IsLogged log a)
      (λ a below on came late.
      let first = fresh.first in
      absurd (true≢false (sym late ∙ lt-leb s.first a.number (omega (arith, below, first))))) p.actions sound.numbered;
  only = all_map (λ l. IsListed l.action.table c) (λ l. bytes_eq s.table l.action.table ≡ true → IsOf p own s l)
      (λ l is on. absurd (fresh.unused (ap (λ name. list_any (λ e. bytes_eq name e.1.name) c.tables)
      (bytes_same s.table l.action.table on) ∙ is))) log listed;
}

-- a table of a set of another node is known
other_listed : (own : ℕ) (c : Config) (table : List ℕ) → IsOfOther own c table → IsListed table c
other_listed own c table o =
    among_any (λ e. bytes_eq table e.1.name) o.entry c.tables o.among
    (subst (λ name. bytes_eq table name ≡ true) (sym o.named) (bytes_itself table))

-- of the table of a stretch that lasts, the log is as it was behind actions on tables of sets of other nodes
beside_logged : (p : Place) (own : ℕ) (c : Config) (new log : List Logged) (s : Stretch) →
    LogOthers own c new × Lasts p own c s → HasLogged p own log s → HasLogged p own (new ++ log) s
beside_logged p own c new log s (others, lasts) h = record {
  all =
      all_map (λ a. bytes_eq s.table a.table ≡ true → member a.xid p.commits ≡ true →
      nat_le s.first a.number ≡ true → IsLogged log a) (λ a. bytes_eq s.table a.table ≡ true →
      member a.xid p.commits ≡ true → nat_le s.first a.number ≡ true → IsLogged (new ++ log) a)
      (λ a is on came first.
      let there = is on came first in (there.0, among_right there.0 new log there.1, there.2)) p.actions h.all;
  only =
      all_appended (λ l. bytes_eq s.table l.action.table ≡ true → IsOf p own s l) new log
      (all_map (λ l. IsOfOther own c l.action.table) (λ l. bytes_eq s.table l.action.table ≡ true → IsOf p own s l)
      (λ l other on. absurd (true≢false (sym on ∙ not_filled p own c s lasts l.action.table other))) new others)
      h.only;
}

pub deed_logs : (p : Place) (d : OneDeed p) → Sound p → NodeHolds p d.node →
    LogOthers d.node.id (knowledge d.node).config d.deed.logs → LogHolds p d.node →
    LogHolds p (with_deeds (d.deed ∷ []) d.node)
deed_logs p d sound h others k = record {
  listed =
      all_map (λ l. IsListed l.action.table (knowledge d.node).config)
      (λ l. IsListed l.action.table (known_behind p d))
      (λ l is. (stays_behind p d sound h).listed l.action.table is) log listed;
  each = by d.fit;
}
  where
    log : List Logged
    log = d.deed.logs ++ logged d.node

    listed : AllByRecursion (λ l. IsListed l.action.table (knowledge d.node).config) log
    listed =
        all_appended (λ l. IsListed l.action.table (knowledge d.node).config) d.deed.logs (logged d.node)
        (all_map (λ l. IsOfOther d.node.id (knowledge d.node).config l.action.table)
        (λ l. IsListed l.action.table (knowledge d.node).config)
        (λ l. other_listed d.node.id (knowledge d.node).config l.action.table) d.deed.logs others) k.listed

    Each : List Stretch → Type 0
    Each all = AllByRecursion (λ s. s.last ≡ None → HasLogged p d.node.id log s) all

    before : (all : List Stretch) → AllByRecursion (HoldsStretch p d.node.id (knowledge d.node).config) all →
        AllByRecursion (λ s. s.last ≡ None → HasLogged p d.node.id (logged d.node) s) all → Each all
    before [] holds logs = tt
    before (s ∷ more) holds logs = (
      λ none. beside_logged p d.node.id (knowledge d.node).config d.deed.logs (logged d.node) s
          (others, holds.0.lasts none) (logs.0 none),
      before more holds.1 logs.1,
    )

    rest : Each (map (behind d.node.id (known_behind p d) d.deed) (stretches d.node))
    rest =
        each_logged p d.node.id log (known_behind p d) d.deed (stretches d.node)
        (before (stretches d.node) h.each k.each)

    none : d.deed.rows ≡ [] → Each (stretches (with_deeds (d.deed ∷ []) d.node))
    none is = subst Each (sym (none_begin d.node.id (known_behind p d) d.deed (stretches d.node) is)) rest

    by : Fit p d.node d.deed → Each (stretches (with_deeds (d.deed ∷ []) d.node))
    by (Keeps is kept) = none is
    by (CreatesSet a) = none a.rows
    by (AddsTable a) =
        subst Each (ap (λ first. first ++ map (behind d.node.id (known_behind p d) d.deed) (stretches d.node))
        (sym (begins_behind p d sound h a))) (
          (λ last. none_logged p d.node.id log (knowledge d.node).config (new_behind p d sound h a) sound
              (record { first = d.first; unused = λ known. true≢false (sym known ∙ a.table.unused) }) listed),
          rest,
        )
    by (FollowsTable f) = none f.rows
    by (DropsSet e) = none e.rows

-- ---- a commit

-- The table of an action of a transaction that commits, with its set.
record Entry (c : Config) (own : ℕ) (a : Action) : Type 0 where
  row : ℕ × TableRow
  found : member_of a.table c ≡ Some row
  leads : is_origin own row.1.set_id c ≡ true

-- what is logged of an action, if it is
entry_of : (own : ℕ) (k : Knowledge) (a : Action) (l : Logged) →
    logged_on own k a (member_of a.table k.config) ≡ Some l →
    (e : Entry k.config own a) × (l.action ≡ a) × (l.set_id ≡ e.row.1.set_id)
    × (l.era ≡ era_of e.row.1.set_id k.config) × (l.origin ≡ own)
entry_of own k a l = by (member_of a.table k.config) refl
  where
    entry : ℕ × TableRow → Logged
    entry row = record {
      set_id = row.1.set_id;
      table_id = row.0;
      era = era_of row.1.set_id k.config;
      origin = own;
      action = a;
    }

    leads : (row : ℕ × TableRow) → member_of a.table k.config ≡ Some row → (b : Bool) →
        is_origin own row.1.set_id k.config ≡ b → cond b (Some (entry row)) None ≡ Some l →
        (e : Entry k.config own a) × (l.action ≡ a) × (l.set_id ≡ e.row.1.set_id)
        × (l.era ≡ era_of e.row.1.set_id k.config) × (l.origin ≡ own)
    leads row found true is some =
        let one : entry row ≡ l = cc in (
          record { row = row; found = found; leads = is },
          ap (λ (m : Logged). m.action) (sym one),
          ap (λ (m : Logged). m.set_id) (sym one),
          ap (λ (m : Logged). m.era) (sym one),
          ap (λ (m : Logged). m.origin) (sym one),
        )
    leads row found false is some = absurd cc

    by : (o : Option (ℕ × TableRow)) → member_of a.table k.config ≡ o → logged_on own k a o ≡ Some l →
        (e : Entry k.config own a) × (l.action ≡ a) × (l.set_id ≡ e.row.1.set_id)
        × (l.era ≡ era_of e.row.1.set_id k.config) × (l.origin ≡ own)
    by None found none = absurd cc
    by (Some row) found some = leads row found (is_origin own row.1.set_id k.config) refl some

-- A commit of a transaction that is open, at a database whose node has this log.
pub record Committing (p q : Place) (n : Node) : Type 0 where
  pub xid : ℕ
  pub is_open : member xid (open_xids p) ≡ true
  pub actions : q.actions ≡ p.actions
  pub commits : q.commits ≡ xid ∷ p.commits
  pub holds : NodeHolds p n
  pub logs : LogHolds p n

-- the set of the table of an entry
entry_set : (c : Config) (own : ℕ) (a : Action) (e : Entry c own a) → set_of a.table c ≡ Some e.row.1.set_id
entry_set c own a e = ap (option_map (λ (row : ℕ × TableRow). row.1.set_id)) e.found

-- what is logged of an action on the table of a stretch that lasts
has_entry : (own : ℕ) (k : Knowledge) (a : Action) (set : ℕ) → set_of a.table k.config ≡ Some set →
    is_origin own set k.config ≡ true → (l : Logged) × (logged_on own k a (member_of a.table k.config) ≡ Some l)
    × (l.action ≡ a)
has_entry own k a set is leads = by (member_of a.table k.config) is
  where
    by : (o : Option (ℕ × TableRow)) → option_map (λ e. e.1.set_id) o ≡ Some set →
        (l : Logged) × (logged_on own k a o ≡ Some l) × (l.action ≡ a)
    by None none = absurd cc
    by (Some row) some =
        let here : row.1.set_id ≡ set = cc in
        let entry : Logged = record {
          set_id = row.1.set_id;
          table_id = row.0;
          era = era_of row.1.set_id k.config;
          origin = own;
          action = a;
        } in
        (entry, ap (λ b. cond b (Some entry) None) (ap (λ k2. is_origin own k2 k.config) here ∙ leads), refl)

committing_logs : (p q : Place) (n : Node) (k : Committing p q n) (s : Stretch) → s.last ≡ None →
    HoldsStretch p n.id (knowledge n).config s → HasLogged p n.id (logged n) s →
    HasLogged q n.id (own_logs n.id (knowledge n) (own_actions k.xid p) ++ logged n) s
committing_logs p q n k s none is h = record {
  all = subst (AllByRecursion _) (sym k.actions) (among_all _ p.actions (λ a among on came first.
      by_xid a among on first (or_cases (a.xid == k.xid) (member a.xid p.commits)
      (ap (member a.xid) (sym k.commits) ∙ came))));
  only = all_appended _ new (logged n)
      (all_made _ f own (λ a among l made on. new_is a l among made on))
      (all_map (λ l. bytes_eq s.table l.action.table ≡ true → IsOf p n.id s l)
      (λ l. bytes_eq s.table l.action.table ≡ true → IsOf q n.id s l)
      (λ l was on. let one = was on in record {
        set_id = one.set_id;
        era = one.era;
        origin = one.origin;
        among = subst (IsAmong l.action) (sym k.actions) one.among;
        came = ap (member l.action.xid) k.commits ∙ or_right (l.action.xid == k.xid) _ one.came;
        first = one.first;
      }) (logged n) h.only);
}
  where
    known : Knowledge
    known = knowledge n

    own : List Action
    own = own_actions k.xid p

    f : Action → Option Logged
    f a = logged_on n.id known a (member_of a.table known.config)

    new : List Logged
    new = own_logs n.id known own

    lasts : Lasts p n.id known.config s
    lasts = is.lasts none

    parts : (is_origin n.id s.set_id known.config ≡ true) × ((s.era == era_of s.set_id known.config) ≡ true)
    parts = and_parts (is_origin n.id s.set_id known.config) (s.era == era_of s.set_id known.config) lasts.stands

    table_of : (a : Action) → bytes_eq s.table a.table ≡ true → set_of a.table known.config ≡ Some s.set_id
    table_of a on = ap (λ name. set_of name known.config) (sym (bytes_same s.table a.table on)) ∙ lasts.member

    by_xid : (a : Action) → IsAmong a p.actions → bytes_eq s.table a.table ≡ true → nat_le s.first a.number ≡ true →
        ((a.xid == k.xid) ≡ true) ⊎ (member a.xid p.commits ≡ true) → IsLogged (new ++ logged n) a
    by_xid a among on first (inl own_one) =
        let entry = has_entry n.id known a s.set_id (table_of a on) parts.0 in (
          entry.0,
          among_left entry.0 new (logged n)
              (among_mapped f a entry.0 own (among_filtered (λ a. a.xid == k.xid) a p.actions among own_one) entry.1),
          entry.2,
        )
    by_xid a among on first (inr came) =
        let there = all_among _ a p.actions h.all among on came first in
        (there.0, among_right there.0 new (logged n) there.1, there.2)

    new_is : (a : Action) (l : Logged) → IsAmong a own → f a ≡ Some l → bytes_eq s.table l.action.table ≡ true →
        IsOf q n.id s l
    new_is a l among made on =
        let entry = entry_of n.id known a l made in
        let there = filtered_among (λ a. a.xid == k.xid) a p.actions among in
        let mine : a.xid ≡ k.xid = eqb-true a.xid k.xid there.1 in
        let on_a : bytes_eq s.table a.table ≡ true = ap (λ (b : Action). bytes_eq s.table b.table) (sym entry.1) ∙ on in
        let same : entry.0.row.1.set_id ≡ s.set_id =
        let one : Some entry.0.row.1.set_id ≡ Some s.set_id =
        sym (entry_set known.config n.id a entry.0) ∙ table_of a on_a in cc in
        record {
          set_id = entry.2 ∙ same;
          era = entry.3 ∙ ap (λ set. era_of set known.config) same
              ∙ sym (eqb-true s.era (era_of s.set_id known.config) parts.1);
          origin = entry.4;
          among = subst (λ b. IsAmong b q.actions) (sym entry.1)
              (subst (IsAmong a) (sym k.actions) there.0);
          came = ap (λ (b : Action). member b.xid q.commits) entry.1
              ∙ ap (member a.xid) k.commits ∙ ap (λ b. b || member a.xid p.commits) there.1;
          first = ap (λ (b : Action). nat_le s.first b.number) entry.1
              ∙ all_among _ a p.actions lasts.fills.inside there.0 on_a
              (ap (λ x. member x (open_xids p)) mine ∙ k.is_open);
        }

pub committed_logs : (p q : Place) (n : Node) (k : Committing p q n) → LogHolds q (with_commit k.xid p n)
committed_logs p q n k = record {
  listed =
      all_appended _ (own_logs n.id (knowledge n) (own_actions k.xid p)) (logged n)
      (all_made _ (λ a. logged_on n.id (knowledge n) a (member_of a.table (knowledge n).config)) (own_actions k.xid p)
      (λ a among l made.
      let entry = entry_of n.id (knowledge n) a l made in
      subst (λ (b : Action). IsListed b.table (knowledge n).config) (sym entry.1)
      (listed_member a.table (knowledge n).config entry.0.row.1.set_id
      (entry_set (knowledge n).config n.id a entry.0)))) k.logs.listed;
  each = by (stretches n) k.holds.each k.logs.each;
}
  where
    log : List Logged
    log = own_logs n.id (knowledge n) (own_actions k.xid p) ++ logged n

    by : (all : List Stretch) → AllByRecursion (HoldsStretch p n.id (knowledge n).config) all →
        AllByRecursion (λ s. s.last ≡ None → HasLogged p n.id (logged n) s) all →
        AllByRecursion (λ s. s.last ≡ None → HasLogged q n.id log s)
        (map (behind n.id (knowledge n).config (commit_deed k.xid p n)) all)
    by [] holds logs = tt
    by (s ∷ more) holds logs = (
      λ none.
          let was = lasted n.id (knowledge n).config (commit_deed k.xid p n) s none in
          subst (HasLogged q n.id log) (sym (behind_same n.id (knowledge n).config (commit_deed k.xid p n) s))
          (same_log q n.id log s (behind n.id (knowledge n).config (commit_deed k.xid p n) s).last
          (committing_logs p q n k s was holds.0 (logs.0 was))),
      by more holds.1 logs.1,
    )
