-- What a turn brings can be filled: no open transaction of the node wrote one of the tables, and the rows have their
-- forms. So the test `has_writer` in `filled` never keeps back a table that is copied, or to which a SYNC brings rows.
use Rattle.std.proofs.Common.{◌≡◌, ℕ, Bool, true, false, cond, List, [], ◌∷◌, Option, Some, None, Ok, refl, sym, ap}
use Rattle.std.proofs.Common.{subst, ◌∙◌, find, map, eq-eqb}
use Rattle.std.specs.Prelude.{◌==◌, ◌&&◌, ◌||◌, option_map}
use Rattle.std.specs.List.{AllByRecursion, list_any}
use Rattle.std.specs.Str.{bytes_eq}
use Rattle.std.proofs.lemmas.Bool.{eqb-true, false≢true, true≢false, or_parts, or_right}
use Rattle.slon_model.specs.Names.{Named}
use Rattle.slon_model.specs.Rows.{Action, Rows, member}
use Rattle.slon_model.specs.Logs.{named, logged}
use Rattle.slon_model.specs.Events.{Event}
use Rattle.slon_model.specs.Deeds.{Knowledge, nothing_brought}
use Rattle.slon_model.specs.Place.{Place, has_writer, open_xids}
use Rattle.slon_model.specs.Sessions.{World, Seat, writer_of}
use Rattle.slon_model.specs.Turns.{on_turn}
use Rattle.slon_model.specs.Following.{Found, FoundCopy, FoundNothing, FoundSyncs, brought_of, is_on_one, tables_in}
use Rattle.slon_model.specs.Following.{kept_from}
use Rattle.slon_model.specs.Working.{Carried, Errand, ToCopy, ToFollow, carried, errand_of, fetched, found_by}
use Rattle.slon_model.specs.Working.{found_for, found_or, kept_fetch, next_at, provided, settled, stands, still}
use Rattle.slon_model.specs.Working.{taken_up, worked, followed_all, given_at}
use Rattle.slon_model.specs.World.{Happening, Leads, start}
use Rattle.slon_model.proofs.Names.{all_map, bytes_itself, bytes_same}
use Rattle.slon_laws.specs.Fetches.{FoundOn, IsFormedFound, IsFormedSync, KeepFormed, KeepOn, AreOn}
use Rattle.slon_laws.specs.Spelled.{IsSpelled, AreFilled, AreFormed, AreWritten}
use Rattle.slon_laws.specs.Worlds.{AllPlaces}
use Rattle.slon_laws.proofs.Bringing.{work_brings}
use Rattle.slon_laws.proofs.Fetches.{all_kept, kept_for, kept_step}
use Rattle.slon_laws.proofs.Following.{all_taken_named, syncs_have, sync_on}
use Rattle.slon_laws.proofs.Lists.{all_filtered}
use Rattle.slon_laws.proofs.Results.{OnOk, any_bind, bind_ok, checked_ok, last_none, none_busy, any_ok}
use Rattle.slon_laws.proofs.Providers.{copied_ok, followed_ok}
use Rattle.slon_model.specs.declared.reply.Refusal.TheVariants as refused

-- ---- tables that no open transaction wrote

-- none of these numbers passes a test that finds none
none_passes : (test : ℕ → Bool) (xs : List ℕ) → find test xs ≡ None → (x : ℕ) → member x xs ≡ true → test x ≡ false
none_passes test [] none x among = absurd (false≢true among)
none_passes test (y ∷ ys) none x among = by (none_passes test ys) (test y) refl none (x == y) refl among
  where
    by : (find test ys ≡ None → (x : ℕ) → member x ys ≡ true → test x ≡ false) → (b : Bool) → test y ≡ b →
        cond b (Some y) (find test ys) ≡ None → (same : Bool) → (x == y) ≡ same → (same || member x ys) ≡ true →
        test x ≡ false
    by later true passes here same is among = absurd cc
    by later false fails none true is among = ap test (eqb-true x y is) ∙ fails
    by later false fails none false is among = later none x among

-- where none of these transactions wrote one of several tables, none wrote this one of them
one_unwritten : (names : List (List ℕ)) (opens : List ℕ) (name : List ℕ) → named name names ≡ true →
    (actions : List Action) →
    ((x : ℕ) → member x opens ≡ true → list_any (λ a. a.xid == x && named a.table names) actions ≡ false) →
    list_any (λ a. member a.xid opens && bytes_eq name a.table) actions ≡ false
one_unwritten names opens name among [] none = refl
one_unwritten names opens name among (a ∷ actions) none =
    by (one_unwritten names opens name among actions (λ x is. (or_parts _ _ (none x is)).1)) (member a.xid opens) refl
    (bytes_eq name a.table) refl
  where
    by : list_any (λ a. member a.xid opens && bytes_eq name a.table) actions ≡ false → (open_still : Bool) →
        member a.xid opens ≡ open_still → (same : Bool) → bytes_eq name a.table ≡ same →
        (open_still && same || list_any (λ a. member a.xid opens && bytes_eq name a.table) actions) ≡ false
    by later false closed same is = later
    by later true is false other = later
    by later true is true same =
        let writes = ap (λ b. b && named a.table names) (eq-eqb a.xid a.xid refl)
        ∙ ap (λ table. named table names) (sym (bytes_same name a.table same)) ∙ among in
        absurd (true≢false (sym writes ∙ (or_parts _ _ (none a.xid is)).0))

-- the tables have no writer
abbrev pub AreUnwritten : Place → Named Rows → Type 0
AreUnwritten p rs = AllByRecursion (λ r. has_writer r.0 p ≡ false) rs

-- each of these rows is of one of these tables
abbrev pub AreNamed : List (List ℕ) → Named Rows → Type 0
AreNamed names rs = AllByRecursion (λ r. named r.0 names ≡ true) rs

-- where none of them has a writer
named_unwritten : (here : Place) (names : List (List ℕ)) → writer_of names here ≡ None → (rs : Named Rows) →
    AreNamed names rs → AreUnwritten here rs
named_unwritten here names none rs are =
    all_map (λ r. named r.0 names ≡ true) (λ r. has_writer r.0 here ≡ false)
    (λ r is. one_unwritten names (open_xids here) r.0 is here.actions
    (none_passes (λ x. list_any (λ a. a.xid == x && named a.table names) here.actions) (open_xids here) none)) rs are

-- rows are of the tables that they name
rows_named : (rows : Named Rows) → AreNamed (map (λ r. r.0) rows) rows
rows_named [] = tt
rows_named (r ∷ more) = (
  ap (λ b. b || named r.0 (map (λ r. r.0) more)) (bytes_itself r.0),
  all_map (λ q. named q.0 (map (λ r. r.0) more) ≡ true) (λ q. named q.0 (map (λ r. r.0) (r ∷ more)) ≡ true)
      (λ q is. or_right (bytes_eq q.0 r.0) (named q.0 (map (λ r. r.0) more)) is) more (rows_named more),
)

-- ---- what is brought

-- what is found brings rows to the tables that it names
brought_named : (here : Place) (f : Found) → FoundOn f → AreNamed (tables_in f) (brought_of here f).rows
brought_named here FoundNothing is = tt
brought_named here (FoundCopy set view rows) is = rows_named rows
brought_named here (FoundSyncs ts) is =
    (syncs_have here (λ r. named r.0 (tables_in (FoundSyncs ts)) ≡ true)
    (λ l. named l.action.table (tables_in (FoundSyncs ts)) ≡ true) (λ rows l old is. is) ts nothing_brought
    (all_taken_named ts is) (tt, tt)).0

-- and none where no open transaction wrote one of these tables
pub brought_unwritten : (here : Place) (f : Found) → FoundOn f → writer_of (tables_in f) here ≡ None →
    AreUnwritten here (brought_of here f).rows
brought_unwritten here f is free =
    named_unwritten here (tables_in f) free (brought_of here f).rows (brought_named here f is)

-- ---- what is found

found_on : (w : World) (s : Seat) (e : Event) (a : Option Errand) → OnOk FoundOn (found_by w s e a)
found_on w s e None = tt
found_on w s e (Some (ToCopy c)) =
    any_bind FoundOn (provided c.provider w s e) _
    (λ p. copied_ok FoundOn c s e p (given_at c p) tt (λ v. tt))
found_on w s e (Some ToFollow) =
    bind_ok AreOn FoundOn (followed_all w s e (kept_from e.origin s.known)) _
    (followed_ok (λ p. Unit {0}) (λ t. AllByRecursion (λ l. is_on_one t.tables l ≡ true) t.rows) w s e
    (λ provider. any_ok (λ p. Unit {0}) (provided provider w s e) (λ p. tt))
    (λ p any v. sync_on s.node.id s.known e (logged p.node) v) (kept_from e.origin s.known)) (λ ts on. on)

pub still_on : (k : Knowledge) (f : Found) → FoundOn f → FoundOn (still k f)
still_on k (FoundSyncs ts) is =
    all_filtered (λ t. AllByRecursion (λ l. is_on_one t.tables l ≡ true) t.rows) (stands k) ts is
still_on k others is = tt

for_on : (w : World) → KeepOn w → (s : Seat) (e : Event) → OnOk FoundOn (found_for w s e)
for_on w keep s e = by (kept_fetch s.name e.origin e w.memory) refl
  where
    by : (o : Option Found) → kept_fetch s.name e.origin e w.memory ≡ o → OnOk FoundOn (found_or w s e o)
    by None none = found_on w s e (errand_of s e)
    by (Some f) some =
        let k = kept_for (λ name origin f. FoundOn f.found) s.name e w.memory f keep some in
        still_on s.known f (subst FoundOn k.found k.has)

fetch_on : (w : World) (node origin : ℕ) → OnOk (λ x. FoundOn x.found) (fetched node origin w)
fetch_on w node origin =
    any_bind (λ x. FoundOn x.found) (on_turn node w) _
    (λ s. any_bind (λ x. FoundOn x.found) (taken_up (next_at w.memory s origin)) _
    (λ e. bind_ok FoundOn (λ x. FoundOn x.found) (found_by w s e (errand_of s e)) _
    (found_on w s e (errand_of s e)) (λ f is. is)))

-- so it is with what is kept in every session
pub keep_on_world : (limit : ℕ) (history : List Happening) (w : World) → Leads (start limit) history w → KeepOn w
keep_on_world limit [] w is = subst KeepOn (sym is) tt
keep_on_world limit (h ∷ hs) w leads =
    kept_step (λ name origin f. FoundOn f.found) leads.0 w h leads.2 (fetch_on leads.0)
    (keep_on_world limit hs leads.0 leads.1)

-- ---- the turn

settled_unwritten : (s : Seat) (e : Event) (f : Found) → FoundOn f →
    OnOk (λ c. AreUnwritten c.seat.place c.brought.rows) (settled s e f)
settled_unwritten s e f is =
    checked_ok (λ (c : Carried). AreUnwritten c.seat.place c.brought.rows)
    (option_map refused.Busy (writer_of (tables_in f) s.place) ∷ []) (carried s e (brought_of s.place f))
    (λ none. brought_unwritten s.place f is (none_busy (writer_of (tables_in f) s.place) (last_none [] _ none)))

-- no open transaction of the node wrote one of the tables to which it brings rows
pub work_unwritten : (node origin : ℕ) (w : World) (c : Carried) → KeepOn w → worked node origin w ≡ Ok c →
    AreUnwritten c.seat.place c.brought.rows
work_unwritten node origin w c keep is =
    subst (OnOk Unwritten) is (any_bind Unwritten (on_turn node w) _
    (λ s. any_bind Unwritten (taken_up (next_at w.memory s origin)) _
    (λ e. bind_ok FoundOn Unwritten (found_for w s e) (settled s e) (for_on w keep s e) (settled_unwritten s e))))
  where
    Unwritten : Carried → Type 0
    Unwritten c = AreUnwritten c.seat.place c.brought.rows

-- what has its forms is on its tables
pub formed_on : (f : Found) → IsFormedFound f → FoundOn f
formed_on (FoundSyncs ts) is =
    all_map IsFormedSync (λ t. AllByRecursion (λ l. is_on_one t.tables l ≡ true) t.rows) (λ t is. is.on) ts is
formed_on others is = tt

pub formed_keep_on : (w : World) → KeepFormed w → KeepOn w
formed_keep_on w keep =
    all_kept (λ name origin f. IsFormedFound f.found) (λ name origin f. FoundOn f.found)
    (λ name origin f. formed_on f.found) w.memory.fetches keep

-- the rows that it brings have their forms
pub work_formed : (node origin : ℕ) (w : World) (c : Carried) → AllPlaces IsSpelled w → KeepFormed w →
    worked node origin w ≡ Ok c → AllByRecursion (λ r. AreFormed r.1) c.brought.rows
work_formed node origin w c all keep is =
    (subst (OnOk (λ c. AreFilled c.brought.rows × AreWritten c.brought.logs)) is
    (work_brings w all keep node origin)).0

-- and so have the actions that it logs
pub work_written : (node origin : ℕ) (w : World) (c : Carried) → AllPlaces IsSpelled w → KeepFormed w →
    worked node origin w ≡ Ok c → AreWritten c.brought.logs
work_written node origin w c all keep is =
    (subst (OnOk (λ c. AreFilled c.brought.rows × AreWritten c.brought.logs)) is
    (work_brings w all keep node origin)).1
