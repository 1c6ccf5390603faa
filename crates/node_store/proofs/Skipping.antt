-- What a node logged of its own that an earlier snapshot sees, and that is not read again.
use Rattle.std.proofs.Common.{◌≡◌, ◌∙◌, ◌<◌, ℕ, Bool, true, false, cond, List, [], ◌∷◌, Option, Some, None}
use Rattle.std.proofs.Common.{refl, sym, ap, subst, arith}
use Rattle.std.specs.Prelude.{◌==◌, ◌&&◌}
use Rattle.std.specs.Option.{option_map}
use Rattle.std.specs.List.{AllByRecursion}
use Rattle.std.proofs.lemmas.Bool.{and_parts, eqb-true, lt-ltb}
use Rattle.change_capture.specs.declared.log_row.LogRow.{LogRow}
use Rattle.slon_model.specs.Deeds.{Logged, Node}
use Rattle.slon_model.specs.Logs.{logged}
use Rattle.slon_model.specs.Snapshots.{Snapshot, sees}
use Rattle.slon_model.specs.Place.{Place}
use Rattle.slon_model.specs.Rows.{Action}
use Rattle.slon_model.proofs.Names.{all_map}
use Rattle.slon_laws.specs.Spelled.{AreOwn, logs_in}
use Rattle.slon_laws.specs.Lists.{IsAmong}
use Rattle.slon_laws.proofs.Lists.{all_among, all_each}
use Rattle.log_switch.specs.Between.{SeesBelow}
use Rattle.log_switch.specs.Holds.{logged_at}
use Rattle.change_capture.specs.Capture.{log_row}
use Rattle.node_state.specs.Held.{action_as, items_of}
use Rattle.node_state.specs.declared.memory.Identity.{Identity}
use Rattle.node_state.specs.Known.{identity_of}
use Rattle.slon_laws.specs.Older.{AreOlder}
use Rattle.node_store.specs.Logged.{HaveEnded}

-- a snapshot sees what ended before its first transaction that runs
sees_ended : (s : Snapshot) (x : ℕ) → x < s.xmin → sees s x ≡ true
sees_ended s x below = rw (lt-ltb x s.xmin below) refl

pub below_seen : (origin first : ℕ) (s : Snapshot) (logs : List Logged) → HaveEnded origin first s.xmin logs →
    SeesBelow first s origin (items_of logs)
below_seen origin first s [] ended number below row found = absurd cc
below_seen origin first s (l ∷ ls) ended number below row found =
    by (below_seen origin first s ls ended.1 number below row) (l.origin == origin && l.action.number == number) refl
    found
  where
    here : LogRow
    here = log_row l.action.xid l.table_id (action_as l.action)

    by : (logged_at (items_of ls) (origin, number) ≡ Some row → sees s row.xid ≡ true) → (b : Bool) →
        (l.origin == origin && l.action.number == number) ≡ b →
        cond b (Some here) (logged_at (items_of ls) (origin, number)) ≡ Some row → sees s row.xid ≡ true
    by others true is found =
        let parts = and_parts (l.origin == origin) (l.action.number == number) is in
        let same : here ≡ row = cc in
        let at = eqb-true l.action.number number parts.1 in
        subst (λ (r : LogRow). sees s r.xid ≡ true) same
        (sees_ended s l.action.xid (ended.0 (eqb-true l.origin origin parts.0) (omega (arith, at, below))))
    by others false other found = others found

-- ---- the node's own actions

own_ended : (own first xmin : ℕ) (actions : List Action) → AreOlder first xmin actions → (logs : List Logged) →
    AllByRecursion (λ l. l.origin ≡ own → IsAmong l.action actions) logs → HaveEnded own first xmin logs
own_ended own first xmin actions older logs owned =
    all_map (λ l. l.origin ≡ own → IsAmong l.action actions)
    (λ l. l.origin ≡ own → l.action.number < first → l.action.xid < xmin)
    (λ l among from. all_among (λ a. a.number < first → a.xid < xmin) l.action actions older (among from)) logs owned

pub ended_own : (origin first xmin : ℕ) (p : Place) (identity : Option Identity) →
    (identity ≡ identity_of p.node) × (option_map (λ i. i.id) identity ≡ Some origin) → AreOwn p.actions p.node →
    AreOlder first xmin p.actions → HaveEnded origin first xmin (logs_in p.node)
ended_own origin first xmin p identity (known, is) owned older =
    by p.node (sym (ap (option_map (λ (i : Identity). i.id)) known) ∙ is) owned
  where
    by : (o : Option Node) → option_map (λ (i : Identity). i.id) (identity_of o) ≡ Some origin → AreOwn p.actions o →
        HaveEnded origin first xmin (logs_in o)
    by None none owned = tt
    by (Some n) is owned =
        let own : n.id ≡ origin = cc in
        subst (λ id. HaveEnded id first xmin (logged n)) own (own_ended n.id first xmin p.actions older
        (logged n) owned)

-- no number is below the first one
pub none_ended : (origin xmin : ℕ) (logs : List Logged) → HaveEnded origin 0 xmin logs
none_ended origin xmin logs =
    all_each (λ l. l.origin ≡ origin → l.action.number < 0 → l.action.xid < xmin)
    (λ l from below. absurd (omega (arith, below))) logs
