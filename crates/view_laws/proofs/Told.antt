-- Each table that a node knows, and each action that it logged, is of an event that says just so.
use Rattle.slon_laws.proofs.Lists.{all_entry}
use Rattle.slon_model.specs.Config.{live_set}
use Rattle.slon_model.specs.Maps.{entry_at}
use Rattle.std.proofs.Common.{option_map}
use Rattle.std.proofs.Common.{unwrap_or}
use Rattle.slon_model.specs.Config.{leads_row}
use Rattle.std.proofs.Common.{◌≡◌, inl, inr, ℕ, Bool, true, false, cond, List, [], ◌∷◌, ◌++◌, Option, Some, None}
use Rattle.std.proofs.Common.{refl, sym, ap, subst, ◌∙◌}
use Rattle.std.specs.Prelude.{◌&&◌, ◌==◌, is_some, filter_map}
use Rattle.std.specs.Str.{bytes_eq}
use Rattle.std.specs.List.{AllByRecursion, cons_option}
use Rattle.std.proofs.lemmas.Bool.{false≢true, and_parts}
use Rattle.node_rows.specs.declared.body.Body.{Body}
use Rattle.node_rows.specs.declared.body.Body.TheVariants.{StoreSet, SetAddTable, DropSet, MoveSet, FailoverSet}
use Rattle.node_rows.specs.declared.rows.SetRow.{SetRow}
use Rattle.node_rows.specs.declared.rows.TableRow.{TableRow}
use Rattle.slon_model.specs.Maps.{Map}
use Rattle.slon_model.specs.Rows.{Action}
use Rattle.slon_model.specs.Events.{Event}
use Rattle.slon_model.specs.Config.{Config, change_by, era_of, is_origin, set_row, member_of}
use Rattle.slon_model.specs.Deeds.{Node, Deed, Applies, Hears as HearsOf, Logged, Knowledge, knowledge, met, met_by}
use Rattle.slon_model.specs.Deeds.{with_deeds}
use Rattle.slon_model.specs.Logs.{logged, logged_on, own_logs}
use Rattle.slon_model.specs.Place.{deed, own_actions}
use Rattle.slon_model.specs.Moves.{with_commit}
use Rattle.slon_model.specs.Sessions.{World, Seat}
use Rattle.slon_model.specs.Following.{kept_from, SetSync, tables_taken}
use Rattle.slon_model.specs.Deeds.{Brought, nothing_brought}
use Rattle.slon_model.proofs.Names.{all_map, bytes_same}
use Rattle.slon_laws.proofs.Following.{syncs_have, delta_has}
use Rattle.slon_laws.proofs.Lists.{all_given}
use Rattle.slon_laws.proofs.Owners.{OnSome}
use Rattle.stream_laws.specs.Nodes.{IsAmong, nodes_in, node_in, IsEvent}
use Rattle.stream_laws.specs.Making.{is_emitted}
use Rattle.image_laws.proofs.Staying.{Stays}
use Rattle.slon_laws.proofs.Later.{HoldsOf}
use Rattle.image_laws.proofs.Dropping.{dropped}
use Rattle.stream_laws.proofs.Lists.{all_among, all_appended, all_each, all_mapped, all_with, found_all}
use Rattle.view_laws.specs.Known.{WasEvent, IsHeard, IsTold, IsLoggedAs, AreTold}
use Rattle.view_laws.specs.Past.{Past, WasBefore, WasUpTo}
use Rattle.view_laws.proofs.Doing.{KnowsFrom, KnowsNone, KnowsGiven, taking}
use Rattle.view_laws.proofs.Living.{NodeLives, Knew, deed_of, event_of}
use Rattle.view_laws.proofs.Brought.{IsBrought, Nothing, Copies, Brings, part_has, was_then}
use Rattle.view_laws.proofs.Reached.{now_stays, regular_now}
use Rattle.view_laws.proofs.Saying.{says_emitted, may_emitted}
use Rattle.stream_laws.proofs.Copies.{IsTakenOf}
use Rattle.view_laws.proofs.Brought.{Finding, taken_each}
use Rattle.stream_laws.proofs.Seats.{IsSeat}
use Rattle.slon_model.specs.Views.{View}

-- ---- events that are heard

event_later : (t : Past) (e : Event) → WasEvent (WasBefore t) e → WasEvent (WasUpTo t) e
event_later t e is = record { session = is.session; was = inr is.was; is = is.is }

pub heard_later : (t : Past) (n : Node) (e : Event) → IsHeard (WasBefore t) n e → IsHeard (WasUpTo t) n e
heard_later t n e (inl met) = inl met
heard_later t n e (inr was) = inr (event_later t e was)

-- what a node of the session heard was of a stream by now
pub heard_was : (t : Past) (name : List ℕ) (n : Node) → nodes_in t.world.places name ≡ Some n → (e : Event) →
    IsHeard (WasBefore t) n e → WasEvent (WasUpTo t) e
heard_was t name n is e (inl among) = record {
  session = t.world;
  was = inl refl;
  is = all_among (IsEvent (nodes_in t.world.places)) e (met n) ((regular_now t).nodes.each name n is).met among;
}
heard_was t name n is e (inr was) = event_later t e was

-- ---- what is heard by another node too

-- all that one heard by then the other heard
abbrev pub HearsToo : (World → Type 0) → Node → (World → Type 0) → Node → Type 0
HearsToo Was n Now m = (e : Event) → IsHeard Was n e → IsHeard Now m e

one_told : (Was Now : World → Type 0) (n m : Node) → HearsToo Was n Now m → (t : ℕ × TableRow) → IsTold Was n t →
    IsTold Now m t
one_told Was Now n m hears t is =
    record { event = is.event; heard = hears is.event is.heard; body = is.body }

all_told : (Was Now : World → Type 0) (n m : Node) → HearsToo Was n Now m → (ts : Map TableRow) →
    AllByRecursion (IsTold Was n) ts → AllByRecursion (IsTold Now m) ts
all_told Was Now n m hears ts all = all_map (IsTold Was n) (IsTold Now m) (one_told Was Now n m hears) ts all

all_logged : (Was Now : World → Type 0) (n m : Node) → HearsToo Was n Now m → (ls : List Logged) →
    AllByRecursion (IsLoggedAs Was n) ls → AllByRecursion (IsLoggedAs Now m) ls
all_logged Was Now n m hears ls all =
    all_map (IsLoggedAs Was n) (IsLoggedAs Now m)
    (λ l is. record {
      event = is.event;
      heard = hears is.event is.heard;
      comment = is.comment;
      body = is.body;
      first = is.first;
    }) ls all

-- ---- an event

-- who meets one more event
pub more_heard : (Was : World → Type 0) (n : Node) (d : Deed) (e : Event) → met_by d.doing ≡ Some e →
    HearsToo Was n Was (with_deeds (d ∷ []) n)
more_heard Was n d e is f (inl among) =
    inl (subst (λ o. IsAmong f (cons_option o (filter_map (λ d. met_by d.doing) n.deeds) ++ n.events)) (sym is)
    (inr among))
more_heard Was n d e is f (inr was) = inr was

-- all sets are in their first eras
abbrev AreFirst : Map SetRow → Type 0
AreFirst sets = AllByRecursion (λ e. e.1.era ≡ 1) sets

-- What is known of sets and tables.
abbrev TellsOf : (World → Type 0) → Node → Config → Type 0
TellsOf Was n c = AllByRecursion (IsTold Was n) c.tables × AreFirst c.sets

-- a set that ends stays in its era
pub ended_first : (set : ℕ) (e : ℕ × SetRow) → e.1.era ≡ 1 →
    (cond (e.0 == set) (e.0, record e.1 { live = false }) e).1.era ≡ 1
ended_first set e is = by (e.0 == set)
  where
    by : (b : Bool) → (cond b (e.0, record e.1 { live = false }) e).1.era ≡ 1
    by true = is
    by false = is

-- a table that is dropped is known by the same event
dropped_told : (Was : World → Type 0) (n : Node) (set : ℕ) (t : ℕ × TableRow) → IsTold Was n t →
    IsTold Was n (dropped set t)
dropped_told Was n set t is = by (t.1.set_id == set)
  where
    by : (b : Bool) → IsTold Was n (cond b (t.0, record t.1 { live = false }) t)
    by true = record { event = is.event; heard = is.heard; body = is.body }
    by false = is

changed_told : (Was : World → Type 0) (n : Node) (e : Event) → IsHeard Was n e → (body : Body) →
    (e.body ≡ body) × (is_emitted body ≡ true) → (c : Config) → TellsOf Was n c →
    TellsOf Was n (change_by e.origin e.number body c)
changed_told Was n e heard (SetAddTable set table name comment) is c told = (
  all_with (IsTold Was n) table (record { set_id = set; name = name; live = true; comment = comment }) c.tables
      (record { event = e; heard = heard; body = is.0 }) told.0,
  told.1,
)
changed_told Was n e heard (StoreSet set by comment) is c told =
    (told.0, all_with (λ e. e.1.era ≡ 1) set _ c.sets refl told.1)
changed_told Was n e heard (DropSet set) is c told = (
  all_mapped (IsTold Was n) (IsTold Was n) (dropped set) (dropped_told Was n set) c.tables told.0,
  all_mapped (λ e. e.1.era ≡ 1) (λ e. e.1.era ≡ 1) _ (ended_first set) c.sets told.1,
)
changed_told Was n e heard (MoveSet set old new era feeds) is c told = absurd (false≢true is.1)
changed_told Was n e heard (FailoverSet failed limit sets) is c told = absurd (false≢true is.1)
changed_told Was n e heard others is c told = told

-- ---- a commit of rows

own_told : (Was : World → Type 0) (n m : Node) → HearsToo Was n Was m → (own : ℕ) →
    TellsOf Was n (knowledge n).config → (actions : List Action) →
    AllByRecursion (IsLoggedAs Was m) (own_logs own (knowledge n) actions)
own_told Was n m hears own told actions =
    all_given (λ a. Unit {0}) (IsLoggedAs Was m) (λ a. logged_on own k a (member_of a.table k.config)) one actions
    (all_each (λ a. Unit {0}) (λ a. tt) actions)
  where
    k : Knowledge
    k = knowledge n

    first : (set : ℕ) → is_origin own set k.config ≡ true → era_of set k.config ≡ 1
    first set leads = by (entry_at set k.config.sets) refl leads
      where
        live : (row : SetRow) → row.era ≡ 1 → (b : Bool) → leads_row own (cond b (Some row) None) ≡ true →
            unwrap_or (option_map (λ (r : SetRow). r.era) (cond b (Some row) None)) 0 ≡ 1
        live row is true leads = is
        live row is false leads = absurd (false≢true leads)

        by : (o : Option SetRow) → entry_at set k.config.sets ≡ o → leads_row own (live_set o) ≡ true →
            unwrap_or (option_map (λ (r : SetRow). r.era) (live_set o)) 0 ≡ 1
        by None found leads = absurd (false≢true leads)
        by (Some row) found leads =
            live row (all_entry (λ e. e.1.era ≡ 1) set row k.config.sets told.1 found) row.live leads

    made : (a : Action) (e : ℕ × TableRow) → IsTold Was n e → a.table ≡ e.1.name → (b : Bool) →
        OnSome (IsLoggedAs Was m) (logged_on own k a (Some e))
    made a e is name b =
        elim (is_origin own e.1.set_id k.config)
        as (λ b. is_origin own e.1.set_id k.config ≡ b → OnSome (IsLoggedAs Was m) (cond b (Some (record {
          set_id = e.1.set_id;
          table_id = e.0;
          era = era_of e.1.set_id k.config;
          origin = own;
          action = a;
        })) None)) [
          | true ↦ λ leads. record {
            event = is.event;
            heard = hears is.event is.heard;
            comment = e.1.comment;
            body = is.body ∙ ap (λ name. SetAddTable e.1.set_id e.0 name e.1.comment) (sym name);
            first = first e.1.set_id leads;
          }
          | false ↦ λ other. tt
        ] refl

    one : (a : Action) → Unit {0} → OnSome (IsLoggedAs Was m) (logged_on own k a (member_of a.table k.config))
    one a any = by (member_of a.table k.config) refl
      where
        by : (o : Option (ℕ × TableRow)) → member_of a.table k.config ≡ o →
            OnSome (IsLoggedAs Was m) (logged_on own k a o)
        by None none = tt
        by (Some e) found =
            let both = found_all (IsTold Was n) _ k.config.tables e told.0 found in
            let named =
            (and_parts (e.1.live && bytes_eq a.table e.1.name) (is_some (set_row e.1.set_id k.config)) both.1).0 in
            made a e both.0 (bytes_same a.table e.1.name (and_parts e.1.live (bytes_eq a.table e.1.name) named).1)
            true

-- ---- what is brought

-- what a node logged before
all_older : {X : Type 0} (P : X → Type 0) (newer older : List X) → AllByRecursion P (newer ++ older) →
    AllByRecursion P older
all_older P [] older all = all
all_older P (x ∷ newer) older all = all_older P newer older all.1

-- the log of another node, as it was in a session
log_then : (t : Past) → Knew AreTold t → (s : Seat) (e : Event) (a : Finding t s e) (p : Seat) →
    IsSeat a.to.world.places p → (m : Node) → AllByRecursion (IsLoggedAs (WasUpTo t) m) (logged p.node)
log_then t knew s e a p is m =
    all_older (IsLoggedAs (WasUpTo t) m) now.2.newer (logged p.node)
    (subst (AllByRecursion (IsLoggedAs (WasUpTo t) m)) now.2.log
    (all_logged (WasBefore t) (WasUpTo t) now.2.node m
    (λ ev heard. inr (heard_was t p.name now.2.node there ev heard)) (logged now.2.node)
    (knew p.name now.2.node there).logs))
  where
    now : HoldsOf (Stays p.node) p.name t.world.places
    now = now_stays t a.to.world (was_then a) p.name p.place p.node is.found is.node

    there : nodes_in t.world.places p.name ≡ Some now.2.node
    there = ap node_in now.1 ∙ now.2.is

-- what a node logs with an event is of a log of another node
brought_logs : (t : Past) → Knew AreTold t → (s : Seat) (e : Event) (b : Brought) → IsBrought t s e b →
    (m : Node) → AllByRecursion (IsLoggedAs (WasUpTo t) m) b.logs
brought_logs t knew s e b (Nothing n) m =
    subst (λ (c : Brought). AllByRecursion (IsLoggedAs (WasUpTo t) m) c.logs) (sym n.none) tt
brought_logs t knew s e b (Copies k) m =
    subst (λ (c : Brought). AllByRecursion (IsLoggedAs (WasUpTo t) m) c.logs) (sym k.is) tt
brought_logs t knew s e b (Brings y) m =
    subst (λ (c : Brought). AllByRecursion (IsLoggedAs (WasUpTo t) m) c.logs) (sym y.is)
    (syncs_have s.place (λ r. Unit {0}) (IsLoggedAs (WasUpTo t) m) (λ rows l old is. tt) y.syncs nothing_brought
    (part_has (λ z. AllByRecursion (IsLoggedAs (WasUpTo t) m) z.rows) s.known y.syncs y.follows.syncs y.part
    (taken_each (λ v. Unit {0}) (λ z. AllByRecursion (IsLoggedAs (WasUpTo t) m) z.rows) rows
    (kept_from e.origin then.known) y.follows.syncs y.follows.taken
    (all_each (λ v. Unit {0}) (λ v. tt) (kept_from e.origin then.known)))) (tt, tt)).1
  where
    then : Seat
    then = y.at.seat

    rows : (v : ℕ × View) (z : SetSync) → Unit {0} → IsTakenOf y.at.to.world then e v z →
        AllByRecursion (IsLoggedAs (WasUpTo t) m) z.rows
    rows v z any taken =
        subst (λ (x : SetSync). AllByRecursion (IsLoggedAs (WasUpTo t) m) x.rows) (sym taken.is)
        (delta_has (IsLoggedAs (WasUpTo t) m) (IsLoggedAs (WasUpTo t) m)
        (tables_taken then.node.id v.0 then.known.config) (λ l is on. is) e.origin v.1.seen e.taken
        (logged taken.provider.node)
        (log_then t knew s e y.at taken.provider taken.reached.0.0.0 m))

-- ---- a new node

new_told : (t : Past) → Knew AreTold t → (n m : Node) → KnowsFrom t.world n → TellsOf (WasUpTo t) m n.given.config
new_told t knew n m (KnowsNone none) =
    (subst (AllByRecursion (IsTold (WasUpTo t) m)) (sym none.1) tt, subst AreFirst (sym none.0) tt)
new_told t knew n m (KnowsGiven g) = (
  subst (AllByRecursion (IsTold (WasUpTo t) m)) (sym g.tables)
      (all_told (WasBefore t) (WasUpTo t) g.giver m (λ e heard. inr (heard_was t g.name g.giver g.is e heard))
      (knowledge g.giver).config.tables (knew g.name g.giver g.is).tables),
  subst AreFirst (sym g.sets) (knew g.name g.giver g.is).sets,
)

-- who meets an event, and logs this
met_told : (t : Past) (n : Node) (d : Deed) (e : Event) → (met_by d.doing ≡ Some e) × (is_emitted e.body ≡ true) →
    (knowledge (with_deeds (d ∷ []) n)).config ≡ change_by e.origin e.number e.body (knowledge n).config →
    AllByRecursion (IsLoggedAs (WasUpTo t) (with_deeds (d ∷ []) n)) d.logs → AreTold (WasUpTo t) n →
    AreTold (WasUpTo t) (with_deeds (d ∷ []) n)
met_told t n d e is changes brings was =
    record {
      tables = subst (λ (c : Config). AllByRecursion (IsTold (WasUpTo t) m) c.tables) (sym changes) both.0;
      sets = subst (λ (c : Config). AreFirst c.sets) (sym changes) both.1;
      logs =
          all_appended (IsLoggedAs (WasUpTo t) m) d.logs (logged n) brings
          (all_logged (WasUpTo t) (WasUpTo t) n m more (logged n) was.logs);
    }
  where
    m : Node
    m = with_deeds (d ∷ []) n

    more : HearsToo (WasUpTo t) n (WasUpTo t) m
    more = more_heard (WasUpTo t) n d e is.0

    heard : IsHeard (WasUpTo t) m e
    heard =
        inl (subst (λ o. IsAmong e (cons_option o (filter_map (λ d. met_by d.doing) n.deeds) ++ n.events)) (sym is.0)
        (inl refl))

    both : TellsOf (WasUpTo t) m (change_by e.origin e.number e.body (knowledge n).config)
    both =
        changed_told (WasUpTo t) m e heard e.body (refl, is.1) (knowledge n).config
        (all_told (WasUpTo t) (WasUpTo t) n m more (knowledge n).config.tables was.tables, was.sets)

pub tables_told : NodeLives AreTold
tables_told = record {
  later = λ t n was. record {
    tables = all_told (WasBefore t) (WasUpTo t) n n (heard_later t n) (knowledge n).config.tables was.tables;
    sets = was.sets;
    logs = all_logged (WasBefore t) (WasUpTo t) n n (heard_later t n) (logged n) was.logs;
  };
  logs = λ t n p xid was. record {
    tables = all_told (WasUpTo t) (WasUpTo t) n (with_commit xid p n) (λ e heard. heard)
        (knowledge n).config.tables was.tables;
    sets = was.sets;
    logs =
        all_appended (IsLoggedAs (WasUpTo t) (with_commit xid p n))
        (own_logs n.id (knowledge n) (own_actions xid p)) (logged n)
        (own_told (WasUpTo t) n (with_commit xid p n) (λ e heard. heard) n.id (was.tables, was.sets)
        (own_actions xid p))
        (all_logged (WasUpTo t) (WasUpTo t) n (with_commit xid p n) (λ e heard. heard) (logged n) was.logs);
  };
  tells = λ t s is number m n says was.
      met_told t n (deed_of s number m) (event_of s number m.body) (refl, says_emitted s n m says) refl tt was;
  takes = λ t knew x origin is was.
      met_told t x.seat.node (deed x.seat.place [] x.brought.logs (Applies x.event x.brought)) x.event
      (refl, may_emitted x.event.origin x.event.body (knowledge x.seat.node).config is.work.may) refl
      (brought_logs t (knew t (inl refl)) x.seat x.event x.brought is.brings (with_deeds (taking x).deeds x.seat.node))
      was;
  hears = λ t s confirms was.
      let m : Node = with_deeds (deed s.place [] [] (HearsOf confirms) ∷ []) s.node in
      record {
        tables = all_told (WasUpTo t) (WasUpTo t) s.node m (λ e heard. heard) (knowledge s.node).config.tables
            was.tables;
        sets = was.sets;
        logs = all_logged (WasUpTo t) (WasUpTo t) s.node m (λ e heard. heard) (logged s.node) was.logs;
      };
  becomes = λ t knew n deeds views knows.
      let first : Node = record n { deeds = [] } in
      let both = new_told t knew n first knows in
      subst (λ ds. AreTold (WasUpTo t) (record n { deeds = ds })) (sym deeds)
      (record { tables = both.0; sets = both.1; logs = tt });
}
