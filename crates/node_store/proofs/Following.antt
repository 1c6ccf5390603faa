-- What a node takes of sets with an event, in what is pending.
use Rattle.std.proofs.Common.{◌≡◌, ◌∙◌, ℕ, Bool, true, false, cond, List, [], ◌∷◌, Some, refl, sym, ap, subst}
use Rattle.std.proofs.Common.{map, Result}
use Rattle.std.specs.Prelude.{unwrap_or}
use Rattle.std.specs.Str.{bytes_eq}
use Rattle.std.proofs.lemmas.Slice.Eq.{bytes_eq-Decides}
use Rattle.slon_base.specs.Keeper.{Store, Kept}
use Rattle.store_rows.specs.Space.{Becomes, IsPending}
use Rattle.store_rows.specs.declared.stop.Stop.{Stop}
use Rattle.store_rows.proofs.Spaces.{pending_as}
use Rattle.slon_model.specs.Names.{Named, find_named}
use Rattle.slon_model.specs.Rows.{Change, Put, Set, Remove, Rows, apply}
use Rattle.slon_model.specs.Events.{Event}
use Rattle.slon_model.specs.Deeds.{Node, Brought, Logged, nothing_brought, with_deeds}
use Rattle.slon_model.specs.Following as rules
use Rattle.slon_model.specs.Following.{content, onto, with_actions, with_sync, with_syncs}
use Rattle.slon_model.specs.Place.{Place, standing_rows}
use Rattle.change_capture.specs.Actions.{change_of}
use Rattle.change_apply.specs.Applied.{HoldsRows, OthersStay, acted, acted_all}
use Rattle.change_apply.specs.Copied.{with_tables}
use Rattle.event_store.specs.Kept.{seen_view}
use Rattle.node_state.specs.Held.{action_as, change_as}
use Rattle.node_state.proofs.Staying.{node_stays}
use Rattle.node_change.specs.Done.{HasApplied, HasKept, HoldsKept, with_logs, with_view}
use Rattle.node_change.proofs.Keeping.{kept_none}
use Rattle.node_store.specs.declared.bringing.SetSync.{SetSync}
use Rattle.node_store.specs.Bringing.{CanTake, HasAll, HasBrought, HasSync, HasSynced, HaveSyncs, with_forwarded}
use Rattle.node_store.proofs.Taking.{not_rows, same_tables}

-- ---- the rows of tables

-- what these tables have, or else those of the place
content_is : (p : Place) (rows : Named Rows) (table : List ℕ) →
    content p rows table ≡ with_tables rows (standing_rows p) table
content_is p [] table = refl
content_is p (r ∷ rows) table =
    elim (bytes_eq table r.0) as (λ b. unwrap_or (cond b (Some r.1) (find_named table rows)) (standing_rows p table)
    ≡ cond b r.1 (with_tables rows (standing_rows p) table)) [
      | true ↦ refl
      | false ↦ content_is p rows table
    ]

change_again : (c : Change) → change_of (change_as c) ≡ c
change_again (Put key row) = refl
change_again (Set key columns) = refl
change_again (Remove key) = refl

-- one action
one_acted : (p : Place) (l : Logged) (rows : Named Rows) →
    acted (action_as l.action) (with_tables rows (standing_rows p))
    ≡ with_tables ((l.action.table, apply l.action.change (content p rows l.action.table)) ∷ rows) (standing_rows p)
one_acted p l rows = λ i other. by other (bytes_eq other l.action.table) refl i
  where
    tables : List ℕ → Rows
    tables = with_tables rows (standing_rows p)

    by : (other : List ℕ) (b : Bool) → bytes_eq other l.action.table ≡ b →
        cond b (apply (change_of (change_as l.action.change)) (tables other)) (tables other)
        ≡ cond b (apply l.action.change (content p rows l.action.table)) (tables other)
    by other true is =
        let same : other ≡ l.action.table = (bytes_eq-Decides other l.action.table).0 is in
        λ i. apply (change_again l.action.change i)
        ((ap tables same ∙ sym (content_is p rows l.action.table)) i)
    by other false is = refl

-- all of them
pub all_acted : (p : Place) (logs : List Logged) (rows : Named Rows) →
    acted_all (map (λ l. action_as l.action) logs) (with_tables rows (standing_rows p))
    ≡ with_tables (with_actions p logs rows) (standing_rows p)
all_acted p [] rows = refl
all_acted p (l ∷ logs) rows =
    ap (acted_all (map (λ l. action_as l.action) logs)) (one_acted p l rows)
    ∙ all_acted p logs ((l.action.table, apply l.action.change (content p rows l.action.table)) ∷ rows)

-- ---- one set

-- nothing is taken yet
pub none_synced : {n : Node} {e : Event} {p : Place} {m : Store} (mid : Store) → CanTake n e p m →
    HasApplied n e m mid → HasSynced n e p m nothing_brought mid
none_synced {p = p} {m} mid can has = record {
  held = (kept_none has).held;
  own = λ space one other. has.own space one;
  rows = same_tables (standing_rows p) m mid (has.own 3 refl) can.rows;
}

-- what a set adds beside its rows
abbrev pub also_kept : rules.SetSync → SetSync → Brought → Brought
also_kept t given b = with_forwarded given.forwards t.rows (with_view (given.set, seen_view given.view) b)

pub one_synced : {n : Node} {e : Event} {p : Place} {m : Store} {origin : ℕ} (b : Brought) (t : rules.SetSync)
    (given : SetSync) {old mid : Store} (new : Store) → HasSync origin t given →
    HasSynced n e p m b old × HasKept n e (also_kept t given b) old mid → OthersStay mid new →
    HoldsRows (acted_all given.actions (with_tables b.rows (standing_rows p))) new →
    HasSynced n e p m (with_sync p t b) new
one_synced {n} {e} {p} {m} {origin} b t given {old} {mid} new sync (before, kept) stay rows = record {
  held = subst (λ c. HoldsKept n e c new) same (λ fills count d is logs.
      node_stays (Some (with_deeds (d ∷ []) n)) mid new (λ space other. stay space (not_rows space other))
      (kept.held fills count d is logs));
  own = λ space one other. stay space other ∙ kept.own space one ∙ before.own space one other;
  rows = subst (λ tables. HoldsRows tables new)
      (ap (λ done. acted_all done (with_tables b.rows (standing_rows p))) sync.logged.actions_are
      ∙ all_acted p t.rows b.rows) rows;
}
  where
    same : also_kept t given b ≡ with_forwarded t.forwards t.rows (with_view (t.set_id, t.view) b)
    same = λ i. with_forwarded (sym sync.forwards i) t.rows (with_view (sym sync.set_id i, sym sync.view i) b)

-- ---- what is logged too

-- An event that a node applies in a store, with what comes with it, and what it may log beside it.
pub record Logging : Type 0 where
  pub node : Node
  pub event : Event
  pub store : Store
  pub brought : Brought
  pub logs : List Logged

-- all of it is kept, and logged if the node forwards the set
abbrev pub HasForwarded : Logging → Bool → Store → Type 0
HasForwarded l forwards new = HasKept l.node l.event (with_forwarded forwards l.logs l.brought) l.store new

-- rows that are logged, of a set that the node forwards
pub forwarded_some : (l : Logging) (forwards : Bool) (result : Result (Unit {0}) Stop) (k : Kept) → forwards ≡ true →
    Becomes (HasKept l.node l.event (with_logs l.logs l.brought) l.store) k result →
    Becomes (HasForwarded l forwards) k result
forwarded_some l forwards result k is becomes =
    subst (λ (f : Bool). Becomes (HasForwarded l f) k result) (sym is) becomes

-- and none of one that it does not
pub forwarded_none : (l : Logging) (forwards : Bool) (k : Kept) → forwards ≡ false → k.pending ≡ Some (Some l.store) →
    HoldsKept l.node l.event l.brought l.store → IsPending (HasForwarded l forwards) k
forwarded_none l forwards k not is holds = record {
  store = l.store;
  is = is;
  has = subst (λ (f : Bool). HasForwarded l f l.store) (sym not)
      (record { held = holds; own = λ space own. refl });
}

-- ---- all sets

-- What is taken so far, and what is left of these.
pub record IsTaking (n : Node) (e : Event) (p : Place) (m : Store) (b : Brought) (left : List SetSync) (new : Store) :
    Type 0 where
  pub ts : List rules.SetSync
  pub now : Brought
  pub have : HaveSyncs e.origin ts left
  pub ends : b ≡ with_syncs p ts now
  pub synced : HasSynced n e p m now new

pub all_taking : {n : Node} {e : Event} {p : Place} {m : Store} {b : Brought} (left : List SetSync) {k : Kept} →
    HasAll e.origin p b left → CanTake n e p m → IsPending (HasApplied n e m) k →
    IsPending (IsTaking n e p m b left) k
all_taking left (ts, have, is) can q =
    pending_as (λ mid has. record {
      ts = ts;
      now = nothing_brought;
      have = have;
      ends = is;
      synced = none_synced mid can has;
    }) q

-- The first of the sets that are left, and the others.
pub record IsFirst (e : Event) (p : Place) (b : Brought) (now : Brought) (given : SetSync) (more : List SetSync) :
    Type 0 where
  pub t : rules.SetSync
  pub rest : List rules.SetSync
  pub sync : HasSync e.origin t given
  pub have : HaveSyncs e.origin rest more
  pub ends : b ≡ with_syncs p rest (with_sync p t now)

first_of : (e : Event) (p : Place) (b now : Brought) (given : SetSync) (more : List SetSync)
    (ts : List rules.SetSync) → HaveSyncs e.origin ts (given ∷ more) × (b ≡ with_syncs p ts now) →
    IsFirst e p b now given more
first_of e p b now given more [] (have, ends) = absurd have
first_of e p b now given more (t ∷ rest) (have, ends) =
    record { t = t; rest = rest; sync = have.0; have = have.1; ends = ends }

pub first_taking : {n : Node} {e : Event} {p : Place} {m : Store} {b : Brought} {given : SetSync}
    {more : List SetSync} {store : Store} (x : IsTaking n e p m b (given ∷ more) store) → IsFirst e p b x.now given more
first_taking {e = e} {p} {b = b} {given} {more} x = first_of e p b x.now given more x.ts (x.have, x.ends)

pub one_taking : {n : Node} {e : Event} {p : Place} {m : Store} {b : Brought} {given : SetSync} {more : List SetSync}
    {old new : Kept} → IsPending (IsTaking n e p m b (given ∷ more)) old →
    ((now : Brought) (t : rules.SetSync) → IsPending (HasSynced n e p m now) old → HasSync e.origin t given →
    IsPending (HasSynced n e p m (with_sync p t now)) new) → IsPending (IsTaking n e p m b more) new
one_taking {p = p} q on =
    let first = first_taking q.has in
    pending_as (λ store synced. record {
      ts = first.rest;
      now = with_sync p first.t q.has.now;
      have = first.have;
      ends = first.ends;
      synced = synced;
    }) (on q.has.now first.t (record { store = q.store; is = q.is; has = q.has.synced }) first.sync)

-- what is taken is all
pub synced_brought : {n : Node} {e : Event} {p : Place} {m : Store} (b : Brought) (new : Store) →
    HasSynced n e p m b new → HasBrought n e b (standing_rows p) m new
synced_brought b new s = record {
  held = λ d is logs. s.held b.rows b.count d is logs;
  own = s.own;
  rows = s.rows;
}

pub none_taking : {n : Node} {e : Event} {p : Place} {m : Store} {b : Brought} {k : Kept} →
    IsPending (IsTaking n e p m b []) k → IsPending (HasBrought n e b (standing_rows p) m) k
none_taking {n} {e} {p} {m} {b} q = pending_as (λ store x. by store x.ts x.now x.have x.ends x.synced) q
  where
    by : (store : Store) (ts : List rules.SetSync) (now : Brought) → HaveSyncs e.origin ts [] →
        b ≡ with_syncs p ts now → HasSynced n e p m now store → HasBrought n e b (standing_rows p) m store
    by store [] now have ends synced =
        subst (λ c. HasBrought n e c (standing_rows p) m store) (sym ends) (synced_brought now store synced)
    by store (t ∷ ts) now have ends synced = absurd have
