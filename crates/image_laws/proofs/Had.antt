-- The log of a node, of a table of a set of which it was the origin: all that a snapshot of then sees had come into it.
use Rattle.std.proofs.Common.{◌≡◌, ◌⊎◌, inl, inr, ℕ, Bool, true, false, cond, List, [], ◌∷◌, ◌++◌, Option, Some}
use Rattle.std.proofs.Common.{None, refl, sym, ap, subst, ◌∙◌}
use Rattle.std.specs.Prelude.{◌==◌, option_map}
use Rattle.std.specs.Option.{option_or}
use Rattle.std.specs.List.{AllByRecursion}
use Rattle.std.proofs.lemmas.Bool.{eqb-true, false≢true, true≢false}
use Rattle.std.proofs.lemmas.List.{append_assoc}
use Rattle.node_rows.specs.declared.rows.SetRow.{SetRow}
use Rattle.node_rows.specs.declared.rows.TableRow.{TableRow}
use Rattle.slon_model.specs.Maps.{entry_at}
use Rattle.slon_model.specs.Rows.{member}
use Rattle.slon_model.specs.Snapshots.{Snapshot, sees}
use Rattle.slon_model.specs.Tasks.{Task}
use Rattle.slon_model.specs.Config.{Config, leads_row}
use Rattle.slon_model.specs.Deeds.{Deed, Logged, Node, knowledge, with_deeds}
use Rattle.slon_model.specs.Logs.{logged, own_logs}
use Rattle.slon_model.specs.Moves.{Move, Commits, Founds, done, with_commit}
use Rattle.slon_model.specs.Place.{Place, open_xids, own_actions, own_count, taken}
use Rattle.slon_model.specs.Sessions.{Commit, committing, in_doubt}
use Rattle.slon_model.proofs.Names.{all_map, one_found}
use Rattle.slon_laws.specs.Allowed.{MayMove}
use Rattle.slon_laws.specs.Sound.{Sound}
use Rattle.slon_laws.specs.Turning.{Turned, Commits as CommitsOne, Falls as GoesDown, Doubts}
use Rattle.slon_laws.proofs.Opens.{found_member}
use Rattle.slon_laws.proofs.Spells.{own_logs_have}
use Rattle.stream_laws.specs.Nodes.{IsAmong}
use Rattle.stream_laws.proofs.Lists.{all_appended, all_each, all_passed}
use Rattle.stream_laws.proofs.Steps.{first_rows_node, prepared_node}
use Rattle.image_laws.specs.Facts.{Holds, IsHeldBy}
use Rattle.image_laws.specs.Fits.{AllDone, Becomes, Does, IsFit, IsOfOther, IsWhole, MayStand, is_owner}
use Rattle.image_laws.proofs.Continuing.{doing_so, fit_beside}
use Rattle.image_laws.proofs.Others.{other_stays}
use Rattle.image_laws.proofs.Dropping.{is_member, member_entry, member_parts, over}
use Rattle.image_laws.proofs.Moving.{doing_holds}
use Rattle.image_laws.proofs.Since.{Since, keeps_since, unseen_open}
use Rattle.image_laws.proofs.Staying.{IsRowOf, IsTableOf, KeptLater, Stays, deed_stays, deeds_stay, node_stays}
use Rattle.image_laws.proofs.Staying.{stays_itself}
use Rattle.image_laws.proofs.Stretching.{leads_owns}

-- ---- a table of a set of the node

-- The node knows the table, and is or was the origin of its set.
pub record Owned (n : Node) (table : List ℕ) : Type 0 where
  pub entry : ℕ × TableRow
  pub among : IsAmong entry (knowledge n).config.tables
  pub named : entry.1.name ≡ table
  pub row : SetRow
  pub found : entry_at entry.1.set_id (knowledge n).config.sets ≡ Some row
  pub owns : (row.origin == n.id) ≡ true

-- so it is of each table that it holds
pub held_owned : (n : Node) (set : ℕ) (table : List ℕ) → IsHeldBy n.id (knowledge n).config set table → Owned n table
held_owned n set table held = by (entry_at e.0.1.set_id c.sets) refl owns
  where
    c : Config
    c = (knowledge n).config

    e : (e : ℕ × TableRow) × IsAmong e c.tables × (is_member c table e ≡ true) × (e.1.set_id ≡ set)
    e = member_entry c table set held.0

    owns : is_owner n.id e.0.1.set_id c ≡ true
    owns = ap (λ i. is_owner n.id i c) e.3 ∙ leads_owns n.id set c held.1

    by : (o : Option SetRow) → entry_at e.0.1.set_id c.sets ≡ o → leads_row n.id o ≡ true → Owned n table
    by None found none = absurd (false≢true none)
    by (Some row) found is = record {
      entry = e.0;
      among = e.1;
      named = sym (member_parts c table e.0 e.2).named;
      row = row;
      found = found;
      owns = is;
    }

-- and so it stays
pub owned_later : (n : Node) (table : List ℕ) (q : Place) → Owned n table → (s : Stays n q) → Owned s.node table
owned_later n table q o s = by (s.tables o.entry o.among) (s.rows o.entry.1.set_id o.row o.found)
  where
    owns : (o.row.origin == s.node.id) ≡ true
    owns = ap (λ id. o.row.origin == id) s.id ∙ o.owns

    with_row : (e : ℕ × TableRow) → IsAmong e (knowledge s.node).config.tables →
        (e.1.name ≡ table) × (e.1.set_id ≡ o.entry.1.set_id) →
        IsRowOf o.entry.1.set_id o.row (knowledge s.node).config → Owned s.node table
    with_row e among of (inl same) = record {
      entry = e;
      among = among;
      named = of.0;
      row = o.row;
      found = ap (λ i. entry_at i (knowledge s.node).config.sets) of.1 ∙ same;
      owns = owns;
    }
    with_row e among of (inr ended) = record {
      entry = e;
      among = among;
      named = of.0;
      row = over o.row;
      found = ap (λ i. entry_at i (knowledge s.node).config.sets) of.1 ∙ ended;
      owns = owns;
    }

    by : IsTableOf o.entry (knowledge s.node).config → IsRowOf o.entry.1.set_id o.row (knowledge s.node).config →
        Owned s.node table
    by (inl among) row = with_row o.entry among (o.named, refl) row
    by (inr (among, ended)) row =
        with_row (o.entry.0, record o.entry.1 { live = false }) among (o.named, refl) row

-- it is of no set of another node
pub owned_own : (n : Node) (table : List ℕ) → IsWhole n.id (knowledge n).config → Owned n table →
    IsOfOther n.id (knowledge n).config table → ⊥
owned_own n table whole o other =
    let same = whole.names other.entry o.entry other.among o.among (other.named ∙ sym o.named) in
    true≢false (sym o.owns ∙ sym (ap (leads_row n.id) o.found)
    ∙ ap (λ i. is_owner n.id i (knowledge n).config) (sym same) ∙ other.other)

-- ---- what comes into its log

-- What the node has logged since, on the table, the snapshot does not see.
pub record LogsUnseen (k : Snapshot) (table : List ℕ) (before : List Logged) (o : Option Node) : Type 0 where
  pub newer : List Logged
  pub log : (m : Node) → o ≡ Some m → logged m ≡ newer ++ before
  pub unseen : AllByRecursion (λ l. l.action.table ≡ table → sees k l.action.xid ≡ false) newer

same_log : {k : Snapshot} {table : List ℕ} {before : List Logged} {o p : Option Node} → p ≡ o →
    LogsUnseen k table before o → LogsUnseen k table before p
same_log same l = record { newer = l.newer; log = λ m is. l.log m (sym same ∙ is); unseen = l.unseen }

more_log : {k : Snapshot} {table : List ℕ} {before : List Logged} (n m : Node) (more : List Logged) →
    logged m ≡ more ++ logged n → AllByRecursion (λ l. l.action.table ≡ table → sees k l.action.xid ≡ false) more →
    LogsUnseen k table before (Some n) → LogsUnseen k table before (Some m)
more_log {before = before} n m more all unseen l = record {
  newer = more ++ l.newer;
  log = λ x is.
      ap logged (sym (one_found m x is)) ∙ all ∙ ap (λ ls. more ++ ls) (l.log n refl)
      ∙ sym (append_assoc more l.newer before);
  unseen = all_appended _ more l.newer unseen l.unseen;
}

-- The database where a snapshot was taken, later.
pub record HadLogs (p : Place) (n : Node) (table : List ℕ) (q : Place) : Type 0 where
  pub stays : Stays n q
  pub since : Since p q
  pub logs : LogsUnseen (taken p) table (logged n) q.node

-- A database as it was at some time, with its node of then, and a table of a set of which that is or was the origin.
record HadTable : Type 0 where
  place : Place
  node : Node
  table : List ℕ
  sound : Sound place
  owned : Owned node table

abbrev Had : HadTable → Place → Type 0
Had t q = HadLogs t.place t.node t.table q

abbrev Unseen : HadTable → Option Node → Type 0
Unseen t o = LogsUnseen (taken t.place) t.table (logged t.node) o

-- a commit of rows: its transaction was open
commit_logs : (t : HadTable) (q : Place) → Since t.place q → (xid : ℕ) → member xid (open_xids q) ≡ true →
    (o : Option Node) → Unseen t o → Unseen t (option_map (with_commit xid q) o)
commit_logs t q since xid is_open None l = record { newer = []; log = λ m is. absurd cc; unseen = tt }
commit_logs t q since xid is_open (Some m) l =
    more_log m (with_commit xid q m) (own_logs m.id (knowledge m) (own_actions xid q)) refl
    (all_map (λ l. sees (taken t.place) l.action.xid ≡ false) _ (λ l unseen on. unseen)
    (own_logs m.id (knowledge m) (own_actions xid q))
    (own_logs_have (λ a. sees (taken t.place) a.xid ≡ false) m.id (knowledge m) (own_actions xid q)
    (all_passed (λ a. Unit {0}) (λ a. sees (taken t.place) a.xid ≡ false) (λ a. a.xid == xid)
    (λ a any own. ap (sees (taken t.place)) (eqb-true a.xid xid own)
    ∙ unseen_open t.place q t.sound since.lasts xid is_open) q.actions
    (all_each (λ a. Unit {0}) (λ a. tt) q.actions)))) l

-- each move
done_unseen : (t : HadTable) (task : Task) (move : Move) (q : Place) → MayMove task q move → Had t q →
    Unseen t (done move q).node
done_unseen t task (Commits name xid) q may h = by (own_count xid q == 0)
  where
    made : Unseen t (option_map (with_commit xid q) q.node)
    made = commit_logs t q h.since xid (found_member name xid q.opens may.allows) q.node h.logs

    by : (b : Bool) → Unseen t (cond b q.node (option_map (with_commit xid q) q.node))
    by true = h.logs
    by false = made
done_unseen t task Founds q may h = same_log (first_rows_node q) h.logs
done_unseen t task others q may h = same_log (prepared_node others q) h.logs

-- the deeds of a commit of a script or a turn
deeds_unseen : (t : HadTable) (q : Place) (m : Node) (ds : List Deed) →
    (q.node ≡ Some m) × AllDone q m ds × Holds q → Had t q → Unseen t (Some (with_deeds ds m))
deeds_unseen t q m [] (is, done, h) l = same_log (sym is) l.logs
deeds_unseen t q m (d ∷ ds) (is, done, h) l =
    more_log before (with_deeds (d ∷ ds) m) d.logs refl
    (all_map (λ l. IsOfOther before.id (knowledge before).config l.action.table)
    (λ l. l.action.table ≡ t.table → sees (taken t.place) l.action.xid ≡ false)
    (λ l other on. absurd (owned_own before t.table whole own
    (subst (IsOfOther before.id (knowledge before).config) on other))) d.logs done.1.logs)
    (deeds_unseen t q m ds (is, done.0, h) l)
  where
    before : Node
    before = with_deeds ds m

    stays : Stays t.node (doing_so q m ds)
    stays = deeds_stay t.node q m ds is done.0 (h, l.stays)

    own : Owned before t.table
    own =
        subst (λ (x : Node). Owned x t.table) (one_found stays.node before (sym stays.is))
        (owned_later t.node t.table (doing_so q m ds) t.owned stays)

    whole : IsWhole before.id (knowledge before).config
    whole = ((doing_holds q m ds is done.0 h).1 before refl).whole

commit_unseen : (t : HadTable) (c : Commit) (q : Place) → IsFit c q → Holds q → Had t q →
    Unseen t (committing c q).node
commit_unseen t c q (Does m is none done others) h l =
    same_log (ap (λ o. option_map (with_deeds c.deeds) (option_or o q.node)) none
    ∙ ap (option_map (with_deeds c.deeds)) is) (deeds_unseen t q m c.deeds (is, done, h) l)
commit_unseen t c q (Becomes m none is deeds new) h l =
    let never : None ≡ Some l.stays.node = sym none ∙ l.stays.is in absurd cc

-- ---- any step

since_turned : (p q r : Place) → Sound p → Turned MayStand q r → Since p q → Since p r
since_turned p q r sound (CommitsOne c fit is) s =
    subst (Since p) (sym is) ((keeps_since p sound).commits c q fit.0 s)
since_turned p q r sound (GoesDown count is) s =
    subst (Since p) (sym is) ((keeps_since p sound).tasks.falls count q s)
since_turned p q r sound (Doubts c stands fit is) s =
    subst (Since p) (sym is)
    ((keeps_since p sound).promises _ _ ((keeps_since p sound).tasks.wavers stands _ (by stands)))
  where
    by : (b : Bool) → Since p (cond b (committing c q) q)
    by true = (keeps_since p sound).commits c q fit.0 s
    by false = s

pub had_later : (p : Place) (n : Node) (table : List ℕ) → Sound p → Owned n table → KeptLater (HadLogs p n table)
had_later p n table sound o = record {
  tasks = record {
    stays = λ q is. is.1;
    prepares = λ task move q may is. record {
      stays = (node_stays n).tasks.prepares task move q may (is.0, is.1.stays);
      since = (keeps_since p sound).tasks.prepares task move q may (is.0.0, is.1.since);
      logs = same_log (prepared_node move q) is.1.logs;
    };
    moves = λ task move q one may is. record {
      stays = (node_stays n).tasks.moves task move q one may (is.0, is.1.stays);
      since = (keeps_since p sound).tasks.moves task move q tt may (is.0.0, is.1.since);
      logs = done_unseen t task move q may is.1;
    };
    falls = λ count q h. record {
      stays = (node_stays n).tasks.falls count q h.stays;
      since = (keeps_since p sound).tasks.falls count q h.since;
      logs = same_log refl h.logs;
    };
    wavers = λ stands q h. record {
      stays = (node_stays n).tasks.wavers stands q h.stays;
      since = (keeps_since p sound).tasks.wavers stands q h.since;
      logs = same_log refl h.logs;
    };
  };
  turns = λ q r turned holds h. record {
    stays = (node_stays n).turns q r turned holds h.stays;
    since = since_turned p q r sound turned h.since;
    logs = by q r turned holds h;
  };
}
  where
    t : HadTable
    t = record { place = p; node = n; table = table; sound = sound; owned = o }

    by : (q r : Place) → Turned MayStand q r → Holds q → Had t q → Unseen t r.node
    by q r (CommitsOne c fit is) holds h =
        same_log (ap (λ (x : Place). x.node) is) (commit_unseen t c q fit.1 holds h)
    by q r (GoesDown count is) holds h = same_log (ap (λ (x : Place). x.node) is) h.logs
    by q r (Doubts c stands fit is) holds h = same_log (ap (λ (x : Place). x.node) is) (either stands)
      where
        either : (b : Bool) → Unseen t (in_doubt c b q).node
        either true = same_log refl (commit_unseen t c q fit.1 holds h)
        either false = same_log refl h.logs

-- ---- a table that comes later

-- The entry is on another table, or of a transaction that the snapshot does not see, or its table is in no set of the
-- node.
abbrev pub IsLateFor : Snapshot → List ℕ → Node → Logged → Type 0
IsLateFor k table n l =
    l.action.table ≡ table → (sees k l.action.xid ≡ false) ⊎ IsOfOther n.id (knowledge n).config table

-- So it is with all that the node has logged.
abbrev pub AreLateFor : Snapshot → List ℕ → Option Node → Type 0
AreLateFor k table o = (n : Node) → o ≡ Some n → AllByRecursion (IsLateFor k table n) (logged n)

-- and so with that of the database, later than where the snapshot was taken
pub record LateLogs (p : Place) (table : List ℕ) (q : Place) : Type 0 where
  pub since : Since p q
  pub logs : AreLateFor (taken p) table q.node

late_commit : (p q : Place) (table : List ℕ) → Sound p → (xid : ℕ) → Since p q × (member xid (open_xids q) ≡ true) →
    (m : Node) → AllByRecursion (IsLateFor (taken p) table m) (logged m) →
    AllByRecursion (IsLateFor (taken p) table (with_commit xid q m)) (logged (with_commit xid q m))
late_commit p q table sound xid (since, is_open) m all =
    all_appended (IsLateFor (taken p) table m) (own_logs m.id (knowledge m) (own_actions xid q)) (logged m)
    (all_map (λ l. sees (taken p) l.action.xid ≡ false) (IsLateFor (taken p) table m) (λ l unseen on. inl unseen)
    (own_logs m.id (knowledge m) (own_actions xid q))
    (own_logs_have (λ a. sees (taken p) a.xid ≡ false) m.id (knowledge m) (own_actions xid q)
    (all_passed (λ a. Unit {0}) (λ a. sees (taken p) a.xid ≡ false) (λ a. a.xid == xid)
    (λ a any own. ap (sees (taken p)) (eqb-true a.xid xid own) ∙ unseen_open p q sound since.lasts xid is_open)
    q.actions (all_each (λ a. Unit {0}) (λ a. tt) q.actions)))) all

late_done : (p : Place) (table : List ℕ) → Sound p → (task : Task) (move : Move) (q : Place) → MayMove task q move →
    LateLogs p table q → AreLateFor (taken p) table (done move q).node
late_done p table sound task (Commits name xid) q may l n is = by (own_count xid q == 0) is
  where
    made : (o : Option Node) → q.node ≡ o → option_map (with_commit xid q) o ≡ Some n →
        AllByRecursion (IsLateFor (taken p) table n) (logged n)
    made None at none = absurd cc
    made (Some m) at some =
        subst (λ (x : Node). AllByRecursion (IsLateFor (taken p) table x) (logged x))
        (one_found (with_commit xid q m) n some)
        (late_commit p q table sound xid (l.since, found_member name xid q.opens may.allows) m (l.logs m at))

    by : (b : Bool) → cond b q.node (option_map (with_commit xid q) q.node) ≡ Some n →
        AllByRecursion (IsLateFor (taken p) table n) (logged n)
    by true same = l.logs n same
    by false some = made q.node refl some
late_done p table sound task Founds q may l n is = l.logs n (sym (first_rows_node q) ∙ is)
late_done p table sound task others q may l n is = l.logs n (sym (prepared_node others q) ∙ is)

late_deeds : (p : Place) (table : List ℕ) (q : Place) (m : Node) (ds : List Deed) →
    (q.node ≡ Some m) × AllDone q m ds × Holds q → LateLogs p table q →
    AllByRecursion (IsLateFor (taken p) table (with_deeds ds m)) (logged (with_deeds ds m))
late_deeds p table q m [] (is, done, h) l = l.logs m is
late_deeds p table q m (d ∷ ds) (is, done, h) l =
    all_appended (IsLateFor (taken p) table behind) d.logs (logged before)
    (all_map (λ l. IsOfOther before.id (knowledge before).config l.action.table) (IsLateFor (taken p) table behind)
    (λ l other on. inr (still (subst (IsOfOther before.id (knowledge before).config) on other))) d.logs done.1.logs)
    (all_map (IsLateFor (taken p) table before) (IsLateFor (taken p) table behind)
    (λ l late on. elim (late on) [ inl unseen ↦ inl unseen | inr other ↦ inr (still other) ]) (logged before)
    (late_deeds p table q m ds (is, done.0, h) l))
  where
    before : Node
    before = with_deeds ds m

    behind : Node
    behind = with_deeds (d ∷ ds) m

    there : Holds (doing_so q m ds)
    there = doing_holds q m ds is done.0 h

    stays : Stays before (doing_so q m (d ∷ ds))
    stays = deed_stays before (doing_so q m ds) (doing_so q m (d ∷ ds)) (record {
      node = before;
      deed = d;
      first = done.1.first;
      fit = fit_beside q (Some before) before d done.2;
    }) (refl, refl) there (stays_itself before (doing_so q m ds) refl)

    still : IsOfOther before.id (knowledge before).config table → IsOfOther behind.id (knowledge behind).config table
    still other =
        subst (λ (x : Node). IsOfOther x.id (knowledge x).config table) (one_found stays.node behind (sym stays.is))
        (other_stays before (doing_so q m (d ∷ ds)) stays (there.1 before refl).whole table other)

late_fit : (p : Place) (table : List ℕ) (c : Commit) (q : Place) → IsFit c q → Holds q → LateLogs p table q →
    AreLateFor (taken p) table (committing c q).node
late_fit p table c q (Does m is none done others) h l n at =
    subst (λ (x : Node). AllByRecursion (IsLateFor (taken p) table x) (logged x)) (one_found (with_deeds c.deeds m) n
    (sym (ap (λ o. option_map (with_deeds c.deeds) (option_or o q.node)) none
    ∙ ap (option_map (with_deeds c.deeds)) is) ∙ at)) (late_deeds p table q m c.deeds (is, done, h) l)
late_fit p table c q (Becomes m none is deeds new) h l n at =
    subst (λ (x : Node). AllByRecursion (IsLateFor (taken p) table x) (logged x)) (one_found m n
    (sym (ap (λ o. option_map (with_deeds c.deeds) (option_or o q.node)) is ∙ ap (λ ds. Some (with_deeds ds m)) deeds)
    ∙ at)) (subst (λ ds. AllByRecursion (IsLateFor (taken p) table m) (logged (record m { deeds = ds })))
    (sym new.deeds) tt)

pub late_later : (p : Place) (table : List ℕ) → Sound p → KeptLater (LateLogs p table)
late_later p table sound = record {
  tasks = record {
    stays = λ q is. is.1;
    prepares = λ task move q may is. record {
      since = (keeps_since p sound).tasks.prepares task move q may (is.0.0, is.1.since);
      logs = λ n at. is.1.logs n (sym (prepared_node move q) ∙ at);
    };
    moves = λ task move q one may is. record {
      since = (keeps_since p sound).tasks.moves task move q tt may (is.0.0, is.1.since);
      logs = late_done p table sound task move q may is.1;
    };
    falls = λ count q l. record { since = (keeps_since p sound).tasks.falls count q l.since; logs = l.logs };
    wavers = λ stands q l. record { since = (keeps_since p sound).tasks.wavers stands q l.since; logs = l.logs };
  };
  turns = λ q r turned holds l. record {
    since = since_turned p q r sound turned l.since;
    logs = by q r turned holds l;
  };
}
  where
    by : (q r : Place) → Turned MayStand q r → Holds q → LateLogs p table q → (n : Node) → r.node ≡ Some n →
        AllByRecursion (IsLateFor (taken p) table n) (logged n)
    by q r (CommitsOne c fit is) holds l n at =
        late_fit p table c q fit.1 holds l n (sym (ap (λ (x : Place). x.node) is) ∙ at)
    by q r (GoesDown count is) holds l n at = l.logs n (sym (ap (λ (x : Place). x.node) is) ∙ at)
    by q r (Doubts c stands fit is) holds l n at = either stands (sym (ap (λ (x : Place). x.node) is) ∙ at)
      where
        either : (b : Bool) → (in_doubt c b q).node ≡ Some n →
            AllByRecursion (IsLateFor (taken p) table n) (logged n)
        either true there = late_fit p table c q fit.1 holds l n there
        either false there = l.logs n there
