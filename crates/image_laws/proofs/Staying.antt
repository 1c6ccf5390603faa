-- A database that is a node is the same node later: its stream only grows, and each set and table that it knows stays,
-- unless the set ends.
use Rattle.std.proofs.Common.{◌≡◌, ℕ, Bool, true, false, cond, List, [], ◌∷◌, ◌++◌, Some, None, refl, sym, ap}
use Rattle.std.proofs.Common.{subst, ◌∙◌, ◌⊎◌, inl, inr, is_some, Option}
use Rattle.std.specs.Prelude.{filter_map, option_map, ◌==◌}
use Rattle.std.specs.Option.{option_or}
use Rattle.std.proofs.lemmas.Bool.{true≢false, false≢true, false_from_ne_true, eqb-true}
use Rattle.std.proofs.lemmas.List.{append_assoc}
use Rattle.std.proofs.lemmas.List.Elements.{filter_map-append}
use Rattle.node_rows.specs.declared.rows.SetRow.{SetRow}
use Rattle.node_rows.specs.declared.rows.TableRow.{TableRow}
use Rattle.slon_model.specs.Maps.{Map, entry_at, with_entry}
use Rattle.slon_model.specs.Events.{Event}
use Rattle.slon_model.specs.Config.{Config, live_set, set_of}
use Rattle.slon_model.specs.Deeds.{Node, Deed, Logged, knowledge, emitted_by}
use Rattle.slon_model.specs.Deeds.{stream, with_deeds}
use Rattle.slon_model.specs.Logs.{logged}
use Rattle.slon_model.specs.Place.{Place}
use Rattle.slon_model.specs.Moves.{Move, prepared, done, commit_deed, with_commit}
use Rattle.slon_model.specs.Sessions.{Commit, committing, in_doubt}
use Rattle.slon_model.proofs.Names.{one_found}
use Rattle.slon_laws.specs.Keeps.{KeepsTasks}
use Rattle.slon_laws.specs.Turning.{Turned, Commits, Falls, Doubts}
use Rattle.stream_laws.specs.Nodes.{IsAmong}
use Rattle.stream_laws.proofs.Lists.{all_among, among_map, entry-with}
use Rattle.stream_laws.proofs.Steps.{Logs, prepared_node, done_logs}
use Rattle.image_laws.specs.Fits.{Comes, Fit, Keeps, CreatesSet, AddsTable, FollowsTable, AllDone, IsFit, MayStand}
use Rattle.image_laws.specs.Fits.{Does, Becomes, DropsSet, IsWhole}
use Rattle.image_laws.specs.Facts.{Holds}
use Rattle.image_laws.proofs.Adding.{OneDeed, known_behind, stays_behind, told}
use Rattle.image_laws.proofs.Continuing.{doing_so, fit_beside}
use Rattle.image_laws.proofs.Dropping.{config_without, dropped, entry-dropped, entry_other, member_row, over, set_over}
pub use Rattle.image_laws.proofs.Stretching.{IsOver}
use Rattle.image_laws.proofs.Found.{IsNew, new_parts, with_new}
use Rattle.image_laws.proofs.Moving.{doing_holds}

-- What each way in which a database goes on keeps of it, where its stretches hold.
pub record KeptLater (R : Place → Type 0) : Type 0 where
  pub tasks : KeepsTasks (λ task. Unit {0}) (λ p. Holds p × R p) R
  pub turns : (p q : Place) → Turned MayStand p q → Holds p → R p → R q

-- the set has the row, or it has ended since it had it
abbrev pub IsRowOf : ℕ → SetRow → Config → Type 0
IsRowOf set row c = (entry_at set c.sets ≡ Some row) ⊎ (entry_at set c.sets ≡ Some (over row))

-- the table is known so, or it is dropped with its set
abbrev pub IsTableOf : ℕ × TableRow → Config → Type 0
IsTableOf e c = IsAmong e c.tables ⊎ (IsAmong (e.0, record e.1 { live = false }) c.tables × IsOver e.1.set_id c)

-- The database is the node still, which has no less.
pub record Stays (n : Node) (q : Place) : Type 0 where
  pub node : Node
  pub is : q.node ≡ Some node
  pub id : node.id ≡ n.id
  pub more : List Event
  pub all : stream node ≡ more ++ stream n
  pub newer : List Logged
  pub log : logged node ≡ newer ++ logged n
  pub rows : (set : ℕ) (row : SetRow) → entry_at set (knowledge n).config.sets ≡ Some row →
      IsRowOf set row (knowledge node).config
  pub tables : (e : ℕ × TableRow) → IsAmong e (knowledge n).config.tables → IsTableOf e (knowledge node).config
  pub members : (table : List ℕ) (set : ℕ) → set_of table (knowledge n).config ≡ Some set →
      (set_of table (knowledge node).config ≡ Some set) ⊎ IsOver set (knowledge node).config

pub stays_itself : (n : Node) (q : Place) → q.node ≡ Some n → Stays n q
stays_itself n q is = record {
  node = n;
  is = is;
  id = refl;
  more = [];
  all = refl;
  newer = [];
  log = refl;
  rows = λ set row found. inl found;
  tables = λ e among. inl among;
  members = λ table set found. inl found;
}

same_stays : (n : Node) (q r : Place) → r.node ≡ q.node → Stays n q → Stays n r
same_stays n q r same s = record {
  node = s.node;
  is = same ∙ s.is;
  id = s.id;
  more = s.more;
  all = s.all;
  newer = s.newer;
  log = s.log;
  rows = s.rows;
  tables = s.tables;
  members = s.members;
}

-- ---- a deed

-- the row of a set that was known
row_beside : (sets : Map SetRow) (id : ℕ) (new : SetRow) → IsNew id sets → (set : ℕ) (row : SetRow) →
    entry_at set sets ≡ Some row → entry_at set (with_entry id new sets) ≡ Some row
row_beside sets id new fresh set row found =
    entry-with set id new sets
    ∙ ap (λ b. cond b (Some new) (entry_at set sets)) (false_from_ne_true (set == id) (λ same.
    true≢false (sym (ap is_some found) ∙ ap (λ k. is_some (entry_at k sets)) (eqb-true set id same) ∙ fresh)))
    ∙ found

-- a set that is known stays as it is, unless it ends
row_behind : (p : Place) (d : OneDeed p) (set : ℕ) (row : SetRow) →
    entry_at set (knowledge d.node).config.sets ≡ Some row → IsRowOf set row (known_behind p d)
row_behind p d set row found = by d.fit
  where
    Row : Config → Type 0
    Row c = IsRowOf set row c

    known : Config
    known = (knowledge d.node).config

    comes : Comes d.node d.deed → IsRowOf set row (known_behind p d)
    comes k = subst Row (sym (told p d k.event _ k.met k.body)) (inl found)

    ends : (id : ℕ) (i : ℕ × ℕ) (b : Bool) → (set == id) ≡ b → Row (config_without id i known)
    ends id i true same =
        inr (entry-dropped id set i known
        ∙ ap (λ b. cond b (option_map over (entry_at set known.sets)) (entry_at set known.sets)) same
        ∙ ap (option_map over) found)
    ends id i false other = inl (entry_other id set i known other ∙ found)

    by : Fit p d.node d.deed → IsRowOf set row (known_behind p d)
    by (Keeps none kept) = inl (ap (entry_at set) kept.sets ∙ found)
    by (CreatesSet a) =
        subst Row (sym (told p d a.event _ a.met a.body))
        (inl (row_beside known.sets a.set_id _ a.new set row found))
    by (AddsTable a) = comes a.table
    by (FollowsTable f) = comes f.table
    by (DropsSet e) =
        subst Row (sym (told p d e.event _ e.met e.body))
        (ends e.set_id (e.event.origin, e.event.number) (set == e.set_id) refl)

-- a row of a set that is not live, later
row_over : (set : ℕ) (row : SetRow) (c : Config) → live_set (Some row) ≡ None → IsRowOf set row c → IsOver set c
row_over set row c none (inl same) = ap live_set same ∙ none
row_over set row c none (inr ended) = ap live_set ended

-- a known set that is over stays so
over_behind : (p : Place) (d : OneDeed p) (set : ℕ) → is_some (entry_at set (knowledge d.node).config.sets) ≡ true →
    IsOver set (knowledge d.node).config → IsOver set (known_behind p d)
over_behind p d set known is = by (entry_at set (knowledge d.node).config.sets) refl known
  where
    by : (o : Option SetRow) → entry_at set (knowledge d.node).config.sets ≡ o → is_some o ≡ true →
        IsOver set (known_behind p d)
    by None none some = absurd (false≢true some)
    by (Some row) found some =
        row_over set row (known_behind p d) (ap live_set (sym found) ∙ is) (row_behind p d set row found)

-- an entry stays beside a new one
among_new : {X : Type 0} (id : ℕ) (x : X) (es : Map X) (e : ℕ × X) → IsNew id es → IsAmong e es →
    IsAmong e (with_entry id x es)
among_new id x [] e new among = absurd among
among_new {X} id x (f ∷ es) e new among =
    elim (with_new id x f es new) [
      | inl put ↦ subst (IsAmong e) (sym put) (inr among)
      | inr put ↦ subst (IsAmong e) (sym put) (by (among_new id x es e (new_parts id f es new).1) among)
    ]
  where
    by : (IsAmong e es → IsAmong e (with_entry id x es)) → IsAmong e (f ∷ es) → IsAmong e (f ∷ with_entry id x es)
    by rest (inl is) = inl is
    by rest (inr later) = inr (rest later)

-- so does a table
tables_behind : (p : Place) (d : OneDeed p) (e : ℕ × TableRow) → IsAmong e (knowledge d.node).config.tables →
    IsTableOf e (known_behind p d)
tables_behind p d e among = by d.fit
  where
    known : Config
    known = (knowledge d.node).config

    comes : Comes d.node d.deed → IsTableOf e (known_behind p d)
    comes k =
        subst (IsTableOf e) (sym (told p d k.event _ k.met k.body))
        (inl (among_new k.table_id _ known.tables e k.new among))

    ends : (id : ℕ) (i : ℕ × ℕ) (b : Bool) → (e.1.set_id == id) ≡ b →
        IsAmong (cond b (e.0, record e.1 { live = false }) e) (config_without id i known).tables →
        IsTableOf e (config_without id i known)
    ends id i true same there =
        inr (
          there,
          subst (λ k. IsOver k (config_without id i known)) (sym (eqb-true e.1.set_id id same))
              (set_over id i known),
        )
    ends id i false other there = inl there

    by : Fit p d.node d.deed → IsTableOf e (known_behind p d)
    by (Keeps none kept) = inl (subst (IsAmong e) (sym kept.tables) among)
    by (CreatesSet a) = subst (IsTableOf e) (sym (told p d a.event _ a.met a.body)) (inl among)
    by (AddsTable a) = comes a.table
    by (FollowsTable f) = comes f.table
    by (DropsSet x) =
        subst (IsTableOf e) (sym (told p d x.event _ x.met x.body))
        (ends x.set_id (x.event.origin, x.event.number) (e.1.set_id == x.set_id) refl
        (among_map (dropped x.set_id) e known.tables among))

pub deed_stays : (n : Node) (q r : Place) (d : OneDeed q) → (q.node ≡ Some d.node) ×
    (r.node ≡ Some (with_deeds (d.deed ∷ []) d.node)) → Holds q → Stays n q → Stays n r
deed_stays n q r d is h s = record {
  node = with_deeds (d.deed ∷ []) d.node;
  is = is.1;
  id = ap (λ (m : Node). m.id) one ∙ s.id;
  more = filter_map (λ d. emitted_by d.doing) (d.deed ∷ []) ++ s.more;
  all =
      filter_map-append (λ d. emitted_by d.doing) (d.deed ∷ []) d.node.deeds
      ∙ ap (λ es. filter_map (λ d. emitted_by d.doing) (d.deed ∷ []) ++ es) (ap stream one ∙ s.all)
      ∙ sym (append_assoc (filter_map (λ d. emitted_by d.doing) (d.deed ∷ [])) s.more (stream n));
  newer = d.deed.logs ++ s.newer;
  log =
      ap (λ ls. d.deed.logs ++ ls) (ap logged one ∙ s.log)
      ∙ sym (append_assoc d.deed.logs s.newer (logged n));
  rows = λ set row found.
      rows set row (subst (λ (m : Node). IsRowOf set row (knowledge m).config) (sym one) (s.rows set row found));
  tables = λ e among.
      tables e (subst (λ (m : Node). IsTableOf e (knowledge m).config) (sym one) (s.tables e among));
  members = λ table set found.
      members table set found
      (subst (λ (m : Node). (set_of table (knowledge m).config ≡ Some set) ⊎ IsOver set (knowledge m).config) (sym one)
      (s.members table set found));
}
  where
    one : d.node ≡ s.node
    one = one_found d.node s.node (sym is.0 ∙ s.is)

    c : Config
    c = (knowledge d.node).config

    whole : IsWhole d.node.id c
    whole = (h.1 d.node is.0).whole

    rows : (set : ℕ) (row : SetRow) → IsRowOf set row c → IsRowOf set row (known_behind q d)
    rows set row (inl same) = row_behind q d set row same
    rows set row (inr ended) = elim (row_behind q d set (over row) ended) [ inl is ↦ inr is | inr is ↦ inr is ]

    tables : (e : ℕ × TableRow) → IsTableOf e c → IsTableOf e (known_behind q d)
    tables e (inl among) = tables_behind q d e among
    tables e (inr (among, gone)) =
        inr (
          elim (tables_behind q d (e.0, record e.1 { live = false }) among) [
            | inl there ↦ there
            | inr both ↦ both.0
          ],
          over_behind q d e.1.set_id
              (all_among (λ e. is_some (entry_at e.1.set_id c.sets) ≡ true) (e.0, record e.1 { live = false }) c.tables
              whole.tables among) gone,
        )

    members : (table : List ℕ) (set : ℕ) → set_of table (knowledge n).config ≡ Some set →
        (set_of table c ≡ Some set) ⊎ IsOver set c →
        (set_of table (known_behind q d) ≡ Some set) ⊎ IsOver set (known_behind q d)
    members table set found (inl there) = (stays_behind q d h.0 (h.1 d.node is.0)).member table set there
    members table set found (inr gone) = inr (over_behind q d set known gone)
      where
        row : (row : SetRow) × (entry_at set (knowledge n).config.sets ≡ Some row)
        row = member_row table set (knowledge n).config found

        known : is_some (entry_at set c.sets) ≡ true
        known =
            subst (λ (m : Node). is_some (entry_at set (knowledge m).config.sets) ≡ true) (sym one)
            (elim (s.rows set row.0 row.1) [ inl same ↦ ap is_some same | inr ended ↦ ap is_some ended ])

-- ---- a task of the database

done_stays : (n : Node) (move : Move) (q : Place) → Holds q → Stays n q → Stays n (done move q)
done_stays n move q h s = by (done_logs move q)
  where
    by : Logs q (done move q).node → Stays n (done move q)
    by (inl same) = same_stays n q (done move q) same s
    by (inr (xid, log)) =
        deed_stays n q (done move q) (record {
          node = s.node;
          deed = commit_deed xid q s.node;
          first = refl;
          fit = Keeps refl (record { sets = refl; tables = refl; nodes = λ id known. known });
        }) (s.is, log ∙ ap (option_map (with_commit xid q)) s.is) h s

-- ---- a commit of a script or a turn

pub deeds_stay : (n : Node) (q : Place) (m : Node) (ds : List Deed) → q.node ≡ Some m → AllDone q m ds →
    Holds q × Stays n q → Stays n (doing_so q m ds)
deeds_stay n q m [] is done on = same_stays n q (doing_so q m []) (sym is) on.1
deeds_stay n q m (d ∷ ds) is done on =
    deed_stays n (doing_so q m ds) (doing_so q m (d ∷ ds)) (record {
      node = with_deeds ds m;
      deed = d;
      first = done.1.first;
      fit = fit_beside q (Some (with_deeds ds m)) (with_deeds ds m) d done.2;
    }) (refl, refl) (doing_holds q m ds is done.0 on.0) (deeds_stay n q m ds is done.0 on)

commit_stays : (n : Node) (c : Commit) (q : Place) → IsFit c q → Holds q → Stays n q → Stays n (committing c q)
commit_stays n c q (Does m is none done others) h s =
    same_stays n (doing_so q m c.deeds) (committing c q)
    (ap (λ o. option_map (with_deeds c.deeds) (option_or o q.node)) none
    ∙ ap (option_map (with_deeds c.deeds)) is) (deeds_stay n q m c.deeds is done (h, s))
commit_stays n c q (Becomes m none is deeds new) h s =
    let never : None ≡ Some s.node = sym none ∙ s.is in absurd cc

turned_stays : (n : Node) (p q : Place) → Turned MayStand p q → Holds p → Stays n p → Stays n q
turned_stays n p q (Commits c fit is) h s = subst (Stays n) (sym is) (commit_stays n c p fit.1 h s)
turned_stays n p q (Falls count is) h s = subst (Stays n) (sym is) (same_stays n p _ refl s)
turned_stays n p q (Doubts c stands fit is) h s = subst (Stays n) (sym is) (by stands)
  where
    by : (b : Bool) → Stays n (in_doubt c b p)
    by true = same_stays n (committing c p) _ refl (commit_stays n c p fit.1 h s)
    by false = same_stays n p _ refl s

pub node_stays : (n : Node) → KeptLater (Stays n)
node_stays n = record {
  tasks = record {
    stays = λ q is. is.1;
    prepares = λ task move q may is. same_stays n q (prepared move q) (prepared_node move q) is.1;
    moves = λ task move q one may is. done_stays n move q is.0 is.1;
    falls = λ count q s. same_stays n q _ refl s;
    wavers = λ stands q s. same_stays n q _ refl s;
  };
  turns = turned_stays n;
}
