-- A node that applies an event and keeps, and logs, what comes with it.
use Rattle.std.proofs.Common.{◌≡◌, ℕ, true, List, [], ◌∷◌, ◌++◌, Some, refl, sym, ap, subst, ◌∙◌, map}
use Rattle.std.specs.List.{AllByRecursion}
use Rattle.slon_base.specs.Keeper.{Store, Kept}
use Rattle.store_rows.specs.Rows.{IsId}
use Rattle.store_rows.specs.Space.{IsPending}
use Rattle.slon_model.specs.Maps.{with_entry}
use Rattle.slon_model.specs.Names.{Named}
use Rattle.slon_model.specs.Rows.{Rows}
use Rattle.slon_model.specs.Views.{View, with_views}
use Rattle.slon_model.specs.Events.{Event}
use Rattle.slon_model.specs.Config.{change}
use Rattle.slon_model.specs.Deeds.{Node, Deed, Doing, Brought, Applies, Logged, knowledge, nothing_brought, with_deeds}
use Rattle.slon_model.specs.Following.{onto}
use Rattle.slon_model.specs.Logs.{logged}
use Rattle.change_capture.specs.declared.log_row.LogRow.{LogRow}
use Rattle.log_switch.specs.Between.{CanBeLogged}
use Rattle.log_switch.specs.Holds.{Logged as Item, HoldsLog, put_logs, logged_more}
use Rattle.log_switch.proofs.Logging.{holds_more, others_stay}
use Rattle.event_store.specs.Holds.{ShowsStreams}
use Rattle.event_store.specs.Streams.{Streams, streams_of}
use Rattle.event_store.proofs.Apart.{config_stays}
use Rattle.event_store.proofs.Holding.{moved}
use Rattle.event_store.proofs.Ordered.{ordered_with}
use Rattle.node_state.specs.Held.{NodeHeld, items_of, is_own}
use Rattle.node_state.proofs.Staying as staying
use Rattle.node_state.proofs.Staying.{AreNear}
use Rattle.node_change.specs.Done.{HasApplied, HasKept, HoldsKept, row_of, with_logs, with_view}
use Rattle.node_change.proofs.Meeting.{told_views}
use Rattle.node_change.proofs.Spaces.{own_else, spare_else, no_stream}

-- the rows that come with an event, and how many, change nothing of the node
rows_alike : (n : Node) (d : Deed) (e : Event) (b : Brought) (rows : Named Rows) (count : ℕ) (new : Store) →
    NodeHeld (with_deeds (record d { doing = Applies e b } ∷ []) n) new →
    NodeHeld (with_deeds (record d { doing = Applies e (record b { rows = rows; count = count }) } ∷ []) n) new
rows_alike n d e b rows count new h = record {
  id = h.id;
  cluster = h.cluster;
  config = h.config;
  orderly = h.orderly;
  homes = h.homes;
  self = h.self;
  met = h.met;
  streams = h.streams;
  log = h.log;
  status = h.status;
  behind = h.behind;
  regular = h.regular;
  spare = h.spare;
}

-- an event that brings nothing
pub kept_none : {n : Node} {e : Event} {m new : Store} → HasApplied n e m new → HasKept n e nothing_brought m new
kept_none {n} {e} {new = new} has = record {
  held = λ rows count d is none.
      subst (λ (doing : Doing). NodeHeld (with_deeds (record d { doing = doing } ∷ []) n) new) (sym is)
      (rows_alike n d e nothing_brought rows count new
      (has.held (record d { doing = Applies e nothing_brought }) refl none));
  own = has.own;
}

-- ---- a set that is kept

-- the node behind the event
abbrev pub applied : Node → Event → Brought → Node
applied n e b = with_deeds (record { first = 0; rows = []; logs = b.logs; doing = Applies e b } ∷ []) n

-- what it has of the streams, with this of one set
abbrev pub with_kept : ℕ × View → Streams → Streams
with_kept kept s = record s { views = with_entry kept.0 kept.1 s.views }

view_held : {n : Node} {e : Event} (b : Brought) {mid new : Store} (kept : ℕ × View) →
    HoldsKept n e b mid × ShowsStreams mid (with_kept kept (streams_of (applied n e b))) new → IsId kept.0 →
    (rows : Named Rows) (count : ℕ) (d : Deed) → d.logs ≡ b.logs →
    NodeHeld (with_deeds (record d {
      doing = Applies e (record (with_view kept b) { rows = rows; count = count });
    } ∷ []) n) new
view_held {n} {e} b {mid} {new} kept (holds, shows) id rows count d logs = record {
  id = h.id;
  cluster = h.cluster;
  config = config_stays mid new (with_kept kept (streams_of (applied n e b))) (change e (knowledge n).config) shows
      h.config;
  orderly = h.orderly;
  homes = h.homes;
  self = h.self;
  met = h.met;
  streams = shows.streams;
  log = moved (sym (shows.others 15 refl)) h.log;
  status = h.status;
  behind = h.behind;
  regular = record {
    others = h.regular.others;
    views = ordered_with kept.0 kept.1 (with_views b.views (told_views n e)) id h.regular.views;
    progress = h.regular.progress;
    told = h.regular.told;
    falling = h.regular.falling;
    met = h.regular.met;
  };
  spare = λ space other spare. shows.others space (no_stream space (spare_else space spare))
      ∙ h.spare space other spare;
}
  where
    h : NodeHeld (with_deeds (record d { doing = Applies e (record b { rows = rows; count = count }) } ∷ []) n) mid
    h = holds rows count (record d { doing = Applies e (record b { rows = rows; count = count }) }) refl logs

pub has_kept : {n : Node} {e : Event} (b : Brought) {mid new : Store} (kept : ℕ × View) → HoldsKept n e b mid →
    ShowsStreams mid (with_kept kept (streams_of (applied n e b))) new → IsId kept.0 →
    HasKept n e (with_view kept b) mid new
has_kept {n} {e} b {new = new} kept holds shows id = record {
  held = λ rows count d is logs.
      subst (λ (doing : Doing). NodeHeld (with_deeds (record d { doing = doing } ∷ []) n) new) (sym is)
      (view_held b kept (holds, shows) id rows count d logs);
  own = λ space own. shows.others space (no_stream space (own_else space own));
}

-- what is pending behind the event
pub shows_applied : {n : Node} {e : Event} (b : Brought) {m : Store} {k : Kept} → k.pending ≡ Some (Some m) →
    HoldsKept n e b m → IsPending (ShowsStreams m (streams_of (applied n e b))) k
shows_applied {n} {e} b {m} is holds = record {
  store = m;
  is = is;
  has = record {
    streams =
        (holds b.rows b.count (record { first = 0; rows = []; logs = b.logs; doing = Applies e b }) refl refl).streams;
    others = λ space other. refl;
  };
}

-- two changes in turn
pub kept_on : {n : Node} {e : Event} {b : Brought} {m mid : Store} (new : Store) →
    ((space : ℕ) → is_own space ≡ true → mid space ≡ m space) →
    HasKept n e b mid new → HasKept n e b m new
kept_on new same has = record { held = has.held; own = λ space own. has.own space own ∙ same space own }

-- ---- rows that are logged

-- the log with these rows in front
logs_are : (origin : ℕ) (logs front more : List Logged) → AllByRecursion (λ l. l.origin ≡ origin) logs →
    logged_more origin (map row_of logs) (items_of (front ++ more)) ≡ items_of (onto logs front ++ more)
logs_are origin [] front more from = refl
logs_are origin (l ∷ logs) front more from =
    ap (λ o. logged_more origin (map row_of logs)
    (record { origin = o; number = (row_of l).0; row = (row_of l).1 } ∷ items_of (front ++ more))) (sym from.0)
    ∙ logs_are origin logs (l ∷ front) more from.1

-- Rows that an origin logged, which can be logged here.
pub record AreLogged (origin : ℕ) (logs : List Logged) (rows : List (ℕ × LogRow)) : Type 0 where
  pub id : IsId origin
  pub from : AllByRecursion (λ l. l.origin ≡ origin) logs
  pub are : rows ≡ map row_of logs
  pub can : AllByRecursion CanBeLogged rows

pub has_logged : {n : Node} {e : Event} (b : Brought) (origin : ℕ) (logs : List Logged)
    (rows : List (ℕ × LogRow)) (mid : Store) → AreLogged origin logs rows → HoldsKept n e b mid →
    HasKept n e (with_logs logs b) mid (put_logs origin rows mid)
has_logged {n} {e} b origin logs rows mid a holds = record {
  held = λ fills count d is more.
      subst (λ (doing : Doing). NodeHeld (with_deeds (record d { doing = doing } ∷ []) n) new) (sym is)
      (by fills count d more);
  own = λ space own. others_stay origin rows mid space (own_else space own 15 refl refl);
}
  where
    new : Store
    new = put_logs origin rows mid

    near : AreNear mid new
    near space other not_log = others_stay origin rows mid space not_log

    by : (fills : Named Rows) (count : ℕ) (d : Deed) → d.logs ≡ onto logs b.logs →
        NodeHeld (with_deeds (record d {
          doing = Applies e (record (with_logs logs b) { rows = fills; count = count });
        } ∷ []) n) new
    by fills count d more =
        let h = holds fills count (record d {
          logs = b.logs;
          doing = Applies e (record b { rows = fills; count = count });
        }) refl refl in
        record {
          id = h.id;
          cluster = h.cluster;
          config = staying.config_stays _ mid new near h.config;
          orderly = h.orderly;
          homes = h.homes;
          self = h.self;
          met = h.met;
          streams = staying.streams_stay _ mid new near h.streams;
          log = subst (λ (ls : List Logged). HoldsLog (items_of (ls ++ logged n)) new) (sym more)
              (subst (λ (items : List Item). HoldsLog items new)
              (ap (λ rs. logged_more origin rs (items_of (b.logs ++ logged n))) a.are
              ∙ logs_are origin logs b.logs (logged n) a.from)
              (holds_more origin rows (items_of (b.logs ++ logged n)) mid a.id a.can h.log));
          status = h.status;
          behind = h.behind;
          regular = h.regular;
          spare = λ space other spare. others_stay origin rows mid space (spare_else space spare 15 refl refl)
              ∙ h.spare space other spare;
        }
