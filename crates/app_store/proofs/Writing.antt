-- The parts of a write, and what they come to.
use Rattle.std.proofs.Common.{◌≡◌, ℕ, ◌<◌, ◌≤◌, Bool, true, false, cond, List, [], ◌∷◌, length, take}
use Rattle.std.proofs.Common.{drop, get_or, Option, Some, None, Result, Ok, Err, refl, sym, ap, subst, ◌∙◌, arith}
use Rattle.std.proofs.Common.{is_some}
use Rattle.std.specs.Prelude.{◌==◌, ◌&&◌, nat_le, not, unwrap_or, map}
use Rattle.std.specs.Option.{option_map}
use Rattle.std.specs.Str.{bytes_eq}
use Rattle.std.specs.Cmp.Lexicographic.{nat_list_cmp_total}
use Rattle.std.specs.FinMap.{get, insert, remove, get-insert, get-remove}
use Rattle.std.proofs.lemmas.Bool.{and_from, and_parts, le-leb, leb-true, false≢true, true≢false, false_from_ne_true}
use Rattle.std.proofs.lemmas.Bool.{eqb-true, eq-eqb}
use Rattle.slon_base.specs.Keeper.{Kept, Store}
use Rattle.slon_base.specs.Codec.{list_bytes, IsText, AllTexts}
use Rattle.slon_base.specs.declared.fault.Halt.TheVariants.{TooBig}
use Rattle.slon_model.specs.declared.numbering.Numbering.TheVariants.{Actions}
use Rattle.slon_model.specs.declared.fault.DbFault.{DbFault}
use Rattle.slon_model.specs.declared.fault.DbFault.TheVariants.{Locked, NoTable, NoTransaction, BadWidth, Halt}
use Rattle.slon_model.specs.declared.reply.Answer.TheVariants.{Acted}
use Rattle.slon_model.specs.declared.reply.Answered.{Answered}
use Rattle.slon_model.specs.declared.reply.Answered.TheVariants.{Sure}
use Rattle.slon_model.specs.Names.{find_named}
use Rattle.slon_model.specs.Rows.{Row, Change, Set, change_key, Action as RowsAction, apply, member, is_on, touches}
use Rattle.slon_model.specs.Rows.{holder_in}
use Rattle.change_capture.specs.declared.action.Action.{Action}
use Rattle.node_state.specs.Held.{change_as}
use Rattle.slon_model.specs.Tasks.{Write, ToWrite, key_of, row_of}
use Rattle.slon_model.specs.Spoken.{most_columns, greatest_column, IsValue, AreValues, IsChange}
use Rattle.slon_model.specs.Forms.{is_value}
use Rattle.change_capture.specs.declared.action.Change.TheVariants as captured
use Rattle.node_state.specs.Known.{is_change}
use Rattle.std.specs.List.{AllByRecursion, list_all}
use Rattle.slon_model.proofs.Spoken.{value_text, value_texts}
use Rattle.slon_model.specs.Place.{Place, filling_of, holder, seen_rows, standing_rows, raised, drawn}
use Rattle.slon_model.specs.Deeds.{Node}
use Rattle.slon_model.specs.Moves.{Stays, Writes, written, done, is_last}
use Rattle.slon_model.specs.Deciding.{Decision, Refuses, Accepts, Overflows, refused_if, with_found, limited}
use Rattle.slon_model.specs.Deciding.{unless_held, by_row, decide_row, decide_write, fits as fits_width}
use Rattle.slon_model.specs.Deciding.{result_of, closed_at, unless_closed}
use Rattle.slon_model.proofs.Names.{bytes_same, all_found}
use Rattle.slon_laws.specs.Sound.{Sound}
use Rattle.slon_laws.specs.Keys.{change_at}
use Rattle.slon_laws.specs.Allowed.{IsFree}
use Rattle.slon_laws.proofs.Decides.{either_raised, raised_same}
use Rattle.slon_laws.proofs.Keys.{key_test}
use Rattle.slon_laws.proofs.Opens.{found_member}
use Rattle.slon_laws.proofs.Sounds.{filled_below, sound_raised}
use Rattle.txn_core.specs.Locks.{holder_of, Locks, without}
use Rattle.app_store.specs.declared.opens.Transaction.{Transaction}
use Rattle.app_store.specs.declared.writes.Addition.{Addition}
use Rattle.app_store.specs.declared.writes.Target.{Target}
use Rattle.app_store.specs.Answers.{acted}
use Rattle.app_store.specs.Base.{Memory, Base}
use Rattle.app_store.specs.Fits.{Fits, Runs, OpensAs, IsOpened, Ready}
use Rattle.app_store.specs.Serves.{Comes, answered}
use Rattle.app_store.specs.Parts.{FellTo, RaisedTo, Raises, Bursts, StopsRaise}
use Rattle.app_store.specs.Spelled.{row_key, over, rows}
use Rattle.slon_model.specs.World.{halt_in}
use Rattle.store_rows.specs.declared.stop.Stop.{Stop}
use Rattle.store_rows.specs.declared.stop.Stop.TheVariants.{Failed as StopFailed, NoMemory as StopNoMemory}
use Rattle.store_rows.specs.Steps.{is_stop_failed}
use Rattle.app_store.specs.Steps.{Says, Looks}
use Rattle.app_store.specs.Parts.{halt_of}
use Rattle.app_store.specs.Answers.{acted_or_not}
use Rattle.app_store.specs.Serves.{trouble, halts, is_memory}
use Rattle.app_store.specs.Targets.{Follows, Carried, StopsAt, FoundWidth, HasWidth, IsUnknown, HasNoTable, StopsWidth}
use Rattle.app_store.specs.Targets.{FoundOpen, IsOpen, IsShut, StopsOpen}
use Rattle.app_store.specs.Targets.{IsTarget, ReadTarget, HasTarget, StopsTarget, FoundRow, HasRow, IsHeld, StopsRow}
use Rattle.app_store.specs.Targets.{AddedWrite, Adds, BurstsWrite, StopsWrite, MayAdd, Spot}
use Rattle.app_store.specs.Written.{with_write, written_at}
use Rattle.app_store.proofs.Holding.{holds_same, stored_of}
use Rattle.app_store.proofs.Openings.{IsWrite, opened_other, opened_own}
use Rattle.node_state.proofs.Learning.{bytes_symmetric}
use Rattle.app_store.proofs.Standing.{up_running, fits_running, looked, followed, fell_plain, decided_up, IsUp}
use Rattle.app_store.proofs.Starting.{begun_written}
use Rattle.app_store.proofs.Transacting.{is_named, ids_differ}

-- an open transaction of the rules is one of the code
pub named_opened : (p : Place) (m : Memory) (name : List ℕ) (x : ℕ) → Runs p m → find_named name p.opens ≡ Some x →
    (t : Transaction) × (get m.opens name ≡ Some t) × IsOpened p x t
named_opened p m name x runs is = by (find_named name p.opens) (get m.opens name) is refl (runs.opened name)
  where
    by : (o : Option ℕ) (t : Option Transaction) → o ≡ Some x → get m.opens name ≡ t → OpensAs p o t → (t : Transaction)
        × (get m.opens name ≡ Some t) × IsOpened p x t
    by None t o_is t_is opened = absurd cc
    by (Some y) None o_is t_is opened = absurd opened
    by (Some y) (Some t) o_is t_is opened = let same : y ≡ x = cc in (t, t_is, subst (λ z. IsOpened p z t) same opened)

-- ---- the width of a table

-- a transaction that is open under this name, in a database that is up
pub record HasOpen (name : List ℕ) (p : Place) (b : Base) : Type 0 where
  pub transaction : Transaction
  pub up : IsUp p b
  pub there : get b.memory.opens name ≡ Some transaction

pub width_none : {T : Type 0} {says : Store → Result T Stop → Type 0} {result : Result T Stop} {name : List ℕ}
    {p : Place} (table : List ℕ) (b : Base) (kept : Kept) → HasOpen name p b → None ≡ find_named table p.tables →
    Looks says b.kept kept result → FoundWidth name table p (Err NoTable) (record b { kept = kept })
width_none {name = name} {p = p} table b kept o none looks =
    let named = is_named p b.memory name o.transaction (up_running p b o.up.fits o.up.up).1 o.there in
    HasNoTable named.0 refl named.1 (sym none) (looked p b kept o.up.fits looks.held looks.counted.later)

pub width_found : {T : Type 0} {says : Store → Result T Stop → Type 0} {result : Result T Stop} {name : List ℕ}
    {p : Place} (table : List ℕ) (b : Base) (kept : Kept) (width : ℕ) → (o : HasOpen name p b) →
    Some width ≡ find_named table p.tables → Looks says b.kept kept result →
    FoundWidth name table p (Ok (o.transaction.xid, width)) (record b { kept = kept })
width_found {name = name} {p = p} table b kept width o some looks =
    let t = o.transaction in
    let named = is_named p b.memory name t (up_running p b o.up.fits o.up.up).1 o.there in
    HasWidth t.xid width refl (named.1 ∙ ap (λ x. Some x) (sym named.2.xid_is)) (sym some)
    (looked p b kept o.up.fits looks.held looks.counted.later)

-- ---- a row as the transaction sees it

-- a row that can be spelled, and the transaction that is open in a database that is up
pub record Seeks (s : Spot) (p : Place) (b : Base) : Type 0 where
  pub up : IsUp p b
  pub text : IsText s.table
  pub named : find_named s.name p.opens ≡ Some s.xid

-- its memory runs
seeking : {s : Spot} {p : Place} {b : Base} → Seeks s p b → Runs p b.memory
seeking {p = p} {b = b} k = (up_running p b k.up.fits k.up.up).1

sees_at : {p : Place} {b : Base} (s : Spot) (w : Option (Option (List ℕ))) → Seeks s p b →
    w ≡ written_at (row_key s.table s.key) (get b.memory.opens s.name) →
    over w (option_map list_bytes (get (standing_rows p s.table) s.key)) ≡ option_map list_bytes
    (get (seen_rows s.xid p s.table) s.key)
sees_at {p} {b} s w k is =
    let opened = named_opened p b.memory s.name s.xid (seeking k) k.named in
    ap (λ w. over w (option_map list_bytes (get (standing_rows p s.table) s.key)))
    (is ∙ ap (written_at (row_key s.table s.key)) opened.1) ∙ sym (opened.2.sees s.table s.key k.text)

pub target_written : {p : Place} {b : Base} (s : Spot) (t : Target) → Seeks s p b →
    Some t.seen ≡ written_at (row_key s.table s.key) (get b.memory.opens s.name) → t.key ≡ row_key s.table s.key →
    ReadTarget s.xid s.table s.key p (Ok t) b
target_written s t k is key_is =
    HasTarget t refl (record { key_is = key_is; seen_is = sees_at s (Some t.seen) k is }) k.up.fits

pub target_read : {T : Type 0} {says : Store → Result T Stop → Type 0} {result : Result T Stop} {p : Place} {b : Base}
    (kept : Kept) (s : Spot) (t : Target) → (k : Seeks s p b) →
    None ≡ written_at (row_key s.table s.key) (get b.memory.opens s.name) →
    t.seen ≡ get (k.up.fits.held.0 rows) (row_key s.table s.key) → Looks says b.kept kept result →
    t.key ≡ row_key s.table s.key → ReadTarget s.xid s.table s.key p (Ok t) (record b { kept = kept })
target_read {p = p} {b = b} kept s t k is read looks key_is =
    HasTarget t refl
    (record {
      key_is = key_is;
      seen_is = read ∙ k.up.fits.held.2.rows_held.lookups (s.table, s.key) k.text ∙ sees_at s None k is;
    })
    (looked p b kept k.up.fits looks.held looks.counted.later)

-- ---- a row that is free

pub row_held : {p : Place} {b : Base} (s : Spot) (other : ℕ) → Seeks s p b →
    Some other ≡ without s.xid (holder_of s.table s.key b.memory.locks) →
    FoundRow s.xid s.table s.key p (Err (Locked other)) b
row_held {p} {b} s other k is =
    by (holder s.table s.key p) refl (is ∙ ap (without s.xid) ((seeking k).locked s.table s.key k.text))
  where
    by : (o : Option ℕ) → holder s.table s.key p ≡ o → Some other ≡ without s.xid o →
        FoundRow s.xid s.table s.key p (Err (Locked other)) b
    by None o_is some = absurd cc
    by (Some y) o_is some =
        elim (y == s.xid) as (λ t. (y == s.xid) ≡ t → Some other ≡ cond t None (Some y) →
        FoundRow s.xid s.table s.key p (Err (Locked other)) b) [
          | true ↦ λ same bad. absurd cc
          | false ↦ λ differ found. let same : other ≡ y = ap (λ o. unwrap_or o y) found in
              IsHeld other refl (o_is ∙ ap (λ z. Some z) (sym same)) (ap (λ z. z == s.xid) same ∙ differ) k.up.fits
        ] refl some

pub row_free : {p : Place} {b : Base} (s : Spot) → Seeks s p b →
    None ≡ without s.xid (holder_of s.table s.key b.memory.locks) → IsFree s.xid (holder s.table s.key p)
row_free {p} s k is =
    by (holder s.table s.key p) (is ∙ ap (without s.xid) ((seeking k).locked s.table s.key k.text))
  where
    by : (o : Option ℕ) → None ≡ without s.xid o → IsFree s.xid o
    by None none = tt
    by (Some y) none =
        elim (y == s.xid) as (λ t. (y == s.xid) ≡ t → None ≡ cond t None (Some y) → y ≡ s.xid) [
          | true ↦ λ same _. eqb-true y s.xid same
          | false ↦ λ differ bad. absurd cc
        ] refl none

pub row_from : (xid : ℕ) (table key : List ℕ) (p : Place) (result : Result Target DbFault) (new : Base) →
    IsFree xid (holder table key p) → ReadTarget xid table key p result new → FoundRow xid table key p result new
row_from xid table key p result new free (HasTarget t is target fits) = HasRow t is free target fits
row_from xid table key p result new free (StopsTarget fault is fell) = StopsRow fault is fell

-- ---- a write that is added

-- what is known before a write of a transaction is added
record Adding (s : Spot) (change : Change) (value : Option (List ℕ)) (t : Transaction) (p : Place)
    (m : Memory) : Type 0 where
  sound : Sound p
  runs : Runs p m
  named : find_named s.name p.opens ≡ Some s.xid
  opened : IsOpened p s.xid t
  write : IsWrite s change value p

-- the memory with a write more
abbrev pub with_more : Spot → Addition → Transaction → Locks → Memory → Memory
with_more s d t locks m =
    let action : Action = record { number = m.numbers.next; table = s.table; change = d.change } in
    record m {
      numbers = drawn m.numbers;
      opens = insert (remove m.opens s.name) s.name (with_write d.key d.value action t);
      locks = locks;
    }

-- a write of this row, as it is added
abbrev addition_of : Spot → Change → Option (List ℕ) → Addition
addition_of s change value = record { key = row_key s.table s.key; value = value; change = change_as change }

wrote_runs : {s : Spot} {change : Change} {value : Option (List ℕ)} {t : Transaction} {p : Place} {m : Memory}
    (locks : Locks) → Adding s change value t p m →
    ((u k : List ℕ) → holder_of u k locks ≡ cond (bytes_eq s.table u && bytes_eq s.key k) (Some s.xid)
    (holder_of u k m.locks)) →
    Runs (written s.xid s.table change p)
    (with_more s (addition_of s change value) t locks m)
wrote_runs {s} {change} {value} {t} {p} {m} locks a locks_are = record {
  up = a.runs.up;
  stamp = a.runs.stamp;
  settled = a.runs.settled;
  founded = a.runs.founded;
  xids = a.runs.xids;
  numbers = ap drawn a.runs.numbers;
  opened =
      λ k. subst (OpensAs q (find_named k p.opens))
      (sym (get-insert nat_list_cmp_total (remove m.opens s.name) s.name new k
      ∙ ap (λ x. cond x (Some new) (get (remove m.opens s.name) k)) (key_test k s.name)
      ∙ ap (cond (bytes_eq k s.name) (Some new)) (get-remove nat_list_cmp_total m.opens s.name k
      ∙ ap (λ x. cond x None (get m.opens k)) (key_test k s.name))))
      (by_name k (bytes_eq k s.name) refl);
  locked =
      λ u k text. locks_are u k
      ∙ ap (cond (bytes_eq s.table u && bytes_eq s.key k) (Some s.xid)) (a.runs.locked u k text)
      ∙ ap (λ x. cond x (Some s.xid) (holder u k p)) (on u k ∙ sym (and_true (is_on u k action))
      ∙ ap (λ b. is_on u k action && b) (sym (found_member s.name s.xid p.opens a.named)));
  begun = begun_written s.xid s.table change p m.begun a.runs.begun;
  known = a.runs.known;
  unpromised = a.runs.unpromised;
}
  where
    q : Place
    q = written s.xid s.table change p

    with_number : ℕ → Transaction
    with_number number =
        with_write (row_key s.table s.key) value
        (record { number = number; table = s.table; change = change_as change }) t

    new : Transaction
    new = with_number m.numbers.next

    action : RowsAction
    action = record { number = p.numbers.next; xid = s.xid; table = s.table; change = change }

    and_true : (b : Bool) → (b && true) ≡ b
    and_true true = refl
    and_true false = refl

    on : (u k : List ℕ) → (bytes_eq s.table u && bytes_eq s.key k) ≡ (bytes_eq u s.table && touches k change)
    on u k =
        ap (λ x. x && bytes_eq s.key k) (bytes_symmetric s.table u)
        ∙ ap (λ x. bytes_eq u s.table && x) (bytes_symmetric s.key k ∙ ap (bytes_eq k) (sym a.write.is_key))

    other : (y : ℕ) (k : List ℕ) → bytes_eq k s.name ≡ false → find_named k p.opens ≡ Some y → (s.xid == y) ≡ false
    other y k differ found =
        false_from_ne_true _
        (λ same. false≢true (sym (ids_differ p s.name k a.sound a.named found differ)
        ∙ eq-eqb y s.xid (sym (eqb-true s.xid y same))))

    each : (k : List ℕ) → bytes_eq k s.name ≡ false → (r : Option ℕ) (u : Option Transaction) →
        find_named k p.opens ≡ r → OpensAs p r u → OpensAs q r u
    each k differ None None is opened = tt
    each k differ None (Some u) is opened = opened
    each k differ (Some y) None is opened = opened
    each k differ (Some y) (Some u) is opened =
        opened_other s.xid s.table change (other y k differ is) a.write.open_still opened

    by_name : (k : List ℕ) (x : Bool) → bytes_eq k s.name ≡ x →
        OpensAs q (find_named k p.opens) (cond x (Some new) (cond x None (get m.opens k)))
    by_name k true same =
        subst (λ r. OpensAs q r (Some new)) (sym (ap (λ j. find_named j p.opens) (bytes_same k s.name same) ∙ a.named))
        (subst (λ c. IsOpened q s.xid (with_number c.next)) (sym a.runs.numbers) (opened_own t a.write a.opened))
    by_name k false differ = each k differ (find_named k p.opens) (get m.opens k) refl (a.runs.opened k)

-- what the code has after a write was added
pub record IsAdded (s : Spot) (d : Addition) (number : ℕ) (mid new : Base) : Type 0 where
  pub up : mid.memory.up ≡ true
  pub number_is : number ≡ mid.memory.numbers.next
  pub locks : Locks
  pub table_text : IsText s.table
  pub key_text : IsText s.key
  pub locks_are : (u k : List ℕ) → holder_of u k locks
      ≡ cond (bytes_eq s.table u && bytes_eq s.key k) (Some s.xid) (holder_of u k mid.memory.locks)
  pub is : (t : Transaction) → get mid.memory.opens s.name ≡ Some t →
      new ≡ record mid { memory = with_more s d t locks mid.memory }

pub added : {s : Spot} {change : Change} {d : Addition} {p : Place} {b mid new : Base} (number : ℕ) → Ready p b →
    RaisedTo Actions p (Ok tt) mid → MayAdd s change d p → IsAdded s d number mid new →
    AddedWrite s.xid s.table change p (Ok number) new
added number ready (Bursts is most fits) may more = absurd cc
added number ready (StopsRaise fault less is fell) may more = absurd cc
added {s} {change} {d} {p} {b} {mid} {new} number ready (Raises is less fits) may more =
    let q = raised Actions p in
    let same = raised_same Actions p in
    let runs = (up_running q mid fits more.up) in
    let named : find_named s.name q.opens ≡ Some s.xid = ap (find_named s.name) same.opens ∙ may.opened in
    let opened = named_opened q mid.memory s.name s.xid runs.1 named in
    let sound = sound_raised Actions p ready.sound in
    let value_is : d.value ≡ option_map list_bytes (change_at change (get (seen_rows s.xid q s.table) s.key)) =
    either_raised
    (λ r. d.value ≡ option_map list_bytes (change_at change (get (seen_rows s.xid r s.table) s.key))) Actions p
    may.value_is may.value_is in
    let still : member s.xid q.commits ≡ false =
    false_from_ne_true _ (λ committed. sound.apart s.xid (found_member s.name s.xid q.opens named) committed) in
    let a : Adding s change d.value opened.0 q mid.memory = record {
      sound = sound;
      runs = runs.1;
      named = named;
      opened = opened.2;
      write = record {
        open_still = still;
        table_text = more.table_text;
        key_text = more.key_text;
        is_key = may.key_is;
        value_is = value_is;
        behind = λ table. le-leb (filling_of table q.fillings).first q.numbers.next
            (filled_below table q.numbers.next q.fillings sound.filled);
      };
    } in
    let after = written s.xid s.table change q in
    let rows_stay : (u : List ℕ) → standing_rows after u ≡ standing_rows q u =
    λ u. ap (λ b. cond ((b && nat_le (filling_of u q.fillings).first q.numbers.next) && bytes_eq u s.table)
    (apply change (standing_rows q u)) (standing_rows q u)) still in
    Adds number refl (more.number_is ∙ ap (λ c. c.next) runs.1.numbers ∙ same.number) less
    (subst (Fits after)
    (sym
    (more.is opened.0 opened.1
    ∙ (λ i. record mid {
      memory = with_more s (record { key = may.spelled_is i; value = d.value; change = may.captured_is i }) opened.0
          more.locks mid.memory;
    })))
    (fits_running after _ fits.held.0 runs.0 (wrote_runs more.locks a more.locks_are) fits.told fits.held.1
    (holds_same q after fits.held.0 (λ i. record (stored_of q) { standing = λ u. rows_stay u i }) fits.held.2)))

-- who holds a row that may be written is the transaction itself
pub held_by : {s : Spot} {change : Change} {d : Addition} {p : Place} {mid : Base} (x : ℕ) →
    RaisedTo Actions p (Ok tt) mid → MayAdd s change d p → mid.memory.up ≡ true → IsText s.table →
    holder_of s.table s.key mid.memory.locks ≡ Some x → x ≡ s.xid
held_by x (Bursts is most fits) may up text held = absurd cc
held_by x (StopsRaise fault less is fell) may up text held = absurd cc
held_by {s} {change} {d} {p} {mid = mid} x (Raises is less fits) may up text held =
    let same = raised_same Actions p in
    subst (IsFree s.xid)
    (ap (λ k. holder s.table k p) may.key_is
    ∙ (λ i. holder_in s.table s.key (map (λ o. o.1) (sym same.opens i)) (sym same.actions i))
    ∙ sym ((up_running (raised Actions p) mid fits up).1.locked s.table s.key text) ∙ held) may.free

-- the ceiling did not rise
pub not_added : (xid : ℕ) (table : List ℕ) (change : Change) (p : Place) (fault : DbFault) (new : Base) →
    RaisedTo Actions p (Err fault) new → AddedWrite xid table change p (Err fault) new
not_added xid table change p fault new (Raises is less fits) = absurd cc
not_added xid table change p fault new (Bursts is most fits) = let same : fault ≡ Halt (TooBig 1) = cc in
    BurstsWrite (ap (λ f. Err f) same) most fits
not_added xid table change p fault new (StopsRaise other less is fell) =
    let same : fault ≡ other = cc in
    StopsWrite fault less refl (subst (λ f. FellTo p (raised Actions p) f new) (sym same) fell)

-- ---- what a write of a row comes to

free_held : (xid : ℕ) (o : Option ℕ) (d : Decision) → IsFree xid o → unless_held xid o d ≡ d
free_held xid None d free = refl
free_held xid (Some y) d free = ap (λ b. refused_if (not b) (Locked y) d) (eq-eqb y xid free)

-- the decision on a row that is free
abbrev pub accepted : Write → ℕ → Place → Decision
accepted w xid p = Accepts (Acted p.numbers.next) (Writes xid w.table w.change)

-- the row of a write, which is free, as the transaction sees it
pub record SeesRow (w : Write) (xid : ℕ) (p : Place) : Type 0 where
  pub row : Option Row
  pub free : IsFree xid (holder w.table (change_key w.change) p)
  pub seen : get (seen_rows xid p w.table) (change_key w.change) ≡ row

abbrev by_seen : (w : Write) (xid : ℕ) (p : Place) → SeesRow w xid p → Decision
by_seen w xid p s = by_row w.change (accepted w xid p) s.row

row_decision : (w : Write) (xid : ℕ) (p : Place) → (s : SeesRow w xid p) → decide_row xid w p ≡ by_seen w xid p s
row_decision w xid p s =
    free_held xid (holder w.table (change_key w.change) p) _ s.free ∙ ap (by_row w.change (accepted w xid p)) s.seen

-- a decision that is carried out at once
at_once : (d e : Decision) (p : Place) (result : Result Answered DbFault) (new : Base) → d ≡ e →
    result ≡ Rattle.slon_model.specs.Deciding.sure (result_of (limited p e)) →
    Fits (done (Rattle.slon_model.specs.Deciding.move_of (limited p e)) p) new → Follows (limited p d) p result new
at_once d e p result new is told fits = subst (λ d. Follows (limited p d) p result new) (sym is) (Carried told fits)

-- the row was not found
pub row_stopped : (w : Write) (xid : ℕ) (p : Place) (fault : DbFault) (new : Base) →
    FoundRow xid w.table (change_key w.change) p (Err fault) new →
    Follows (limited p (decide_row xid w p)) p (Err fault) new
row_stopped w xid p fault new (HasRow t is free target fits) = absurd cc
row_stopped w xid p fault new (IsHeld other is held differ fits) =
    let same : fault ≡ Locked other = cc in
    at_once (decide_row xid w p) (Refuses (Locked other)) p (Err fault) new
    (ap
    (λ o. unless_held xid o
    (by_row w.change (accepted w xid p) (get (seen_rows xid p w.table) (change_key w.change)))) held
    ∙ ap
    (λ b. refused_if (not b) (Locked other)
    (by_row w.change (accepted w xid p) (get (seen_rows xid p w.table) (change_key w.change))))
    differ)
    (ap (λ f. Err f) same) fits
row_stopped w xid p fault new (StopsRow other is fell) =
    let same : fault ≡ other = cc in
    StopsAt fault refl
    (fell_plain (limited p (decide_row xid w p)) p fault new (subst (λ f. FellTo p p f new) (sym same) fell))

-- a row that was found
pub record HasFound (xid : ℕ) (table key : List ℕ) (p : Place) (t : Target) (new : Base) : Type 0 where
  pub free : IsFree xid (holder table key p)
  pub target : IsTarget xid table key p t
  pub fits : Fits p new

pub row_parts : (xid : ℕ) (table key : List ℕ) (p : Place) (t : Target) (new : Base) →
    FoundRow xid table key p (Ok t) new → HasFound xid table key p t new
row_parts xid table key p t new (HasRow u is free target fits) =
    let same : u ≡ t = cc in
    record { free = free; target = subst (IsTarget xid table key p) same target; fits = fits }
row_parts xid table key p t new (IsHeld other is held differ fits) = absurd cc
row_parts xid table key p t new (StopsRow other is fell) = absurd cc

-- what was seen, as a row
pub seen_none : (o : Option Row) (seen : Option (List ℕ)) → seen ≡ option_map list_bytes o → is_some seen ≡ false →
    o ≡ None
seen_none None seen is none = refl
seen_none (Some row) seen is none = absurd (true≢false (sym (ap is_some is) ∙ none))

pub seen_some : (o : Option Row) (seen : Option (List ℕ)) (bytes : List ℕ) → seen ≡ option_map list_bytes o →
    seen ≡ Some bytes → (row : Row) × (o ≡ Some row) × (bytes ≡ list_bytes row)
seen_some None seen bytes is some = let bad : None ≡ Some bytes = sym is ∙ some in absurd cc
seen_some (Some row) seen bytes is some = (row, refl, ap (λ o. unwrap_or o bytes) (sym some ∙ is))

pub seen_there : (o : Option Row) (seen : Option (List ℕ)) → seen ≡ option_map list_bytes o → is_some seen ≡ true →
    (row : Row) × (o ≡ Some row)
seen_there None seen is some = absurd (false≢true (sym (ap is_some is) ∙ some))
seen_there (Some row) seen is some = (row, refl)

-- the row that was found is not there
abbrev pub sees_none : {xid : ℕ} {p : Place} {t : Target} {new : Base} (w : Write) →
    HasFound xid w.table (change_key w.change) p t new → is_some t.seen ≡ false → SeesRow w xid p
sees_none {xid} {p} {t} w found is = record {
  row = None;
  free = found.free;
  seen = seen_none (get (seen_rows xid p w.table) (change_key w.change)) t.seen found.target.seen_is is;
}

-- a decision that is told, and changes nothing
pub record Leaves (d : Decision) (p : Place) (result : Result Answered DbFault) : Type 0 where
  pub told : result ≡ Rattle.slon_model.specs.Deciding.sure (result_of (limited p d))
  pub stays : Rattle.slon_model.specs.Deciding.move_of (limited p d) ≡ Stays

-- nothing is written: the key is there already, or the row is not there
pub row_left : (w : Write) (xid : ℕ) (p : Place) (s : SeesRow w xid p) (result : Result Answered DbFault)
    (new : Base) → Fits p new → Leaves (by_row w.change (accepted w xid p) s.row) p result →
    Follows (limited p (decide_row xid w p)) p result new
row_left w xid p s result new fits leaves =
    at_once (decide_row xid w p) (by_seen w xid p s) p result new (row_decision w xid p s) leaves.told
    (subst (λ m. Fits (done m p) new) (sym leaves.stays) fits)

-- a write that was added to it
pub row_added : (w : Write) (xid : ℕ) (p : Place) (s : SeesRow w xid p) (result : Result ℕ DbFault) (new : Base) →
    by_row w.change (accepted w xid p) s.row ≡ accepted w xid p → AddedWrite xid w.table w.change p result new →
    Follows (limited p (decide_row xid w p)) p (answered acted result) new
row_added w xid p s result new accepts adds =
    subst (λ d. Follows (limited p d) p (answered acted result) new) (sym (row_decision w xid p s ∙ accepts))
    (by adds)
  where
    limit : (b : Bool) → is_last Actions p ≡ b → limited p (accepted w xid p) ≡ cond b Overflows (accepted w xid p)
    limit b last = ap (λ b. cond b Overflows (accepted w xid p)) last

    by : AddedWrite xid w.table w.change p result new →
        Follows (limited p (accepted w xid p)) p (answered acted result) new
    by (Adds number same number_is less fits) =
        subst (λ d. Follows d p (answered acted result) new) (sym (limit false less))
        (Carried (ap (answered acted) same ∙ ap (λ n. Ok (Sure (Acted n))) number_is) fits)
    by (BurstsWrite same most fits) =
        subst (λ d. Follows d p (answered acted result) new) (sym (limit true most))
        (Carried (ap (answered acted) same) fits)
    by (StopsWrite fault less same fell) =
        subst (λ d. Follows d p (answered acted result) new) (sym (limit false less))
        (StopsAt fault (ap (answered acted) same) fell)

-- ---- what a write comes to

-- what comes of a decision on a write, while the database is up
write_followed : {b : Base} (w : Write) (p : Place) (d : Decision) (result : Result Answered DbFault) (new : Base) →
    IsUp p b → decide_write w p ≡ d → Follows (limited p d) p result new → Comes (ToWrite w) p result new
write_followed {b} w p d result new u is follows =
    let running = (up_running p b u.fits u.up).0 in
    followed (ToWrite w) p result new running refl
    (subst (λ d. Follows d p result new) (sym (decided_up (ToWrite w) p d running is)) follows)

-- the decision on a row of a table that is open to writes
abbrev by_node : Write → Place → ℕ → Option Node → Decision
by_node w p xid n = unless_closed (closed_at w.table n) (decide_row xid w p)

-- the decision, by what is found under the name of the transaction
abbrev by_xid : Write → Place → Option ℕ → Decision
by_xid w p o = with_found o NoTransaction
    (λ xid. with_found (find_named w.table p.tables) NoTable
    (λ width. refused_if (not (fits_width w.change width)) (BadWidth width) (by_node w p xid p.node)))

-- and by what is found under the name of the table
abbrev by_width : Write → Place → ℕ → Option ℕ → Decision
by_width w p xid o = with_found o NoTable
    (λ width. refused_if (not (fits_width w.change width)) (BadWidth width) (by_node w p xid p.node))

pub width_stopped : (w : Write) (p : Place) (b new : Base) (fault : DbFault) → IsUp p b →
    FoundWidth w.name w.table p (Err fault) new → Comes (ToWrite w) p (Err fault) new
width_stopped w p b new fault u (HasWidth xid width bad named found after) = absurd cc
width_stopped w p b new fault u (IsUnknown same none after) =
    let fault_is : fault ≡ NoTransaction = cc in
    write_followed w p (Refuses NoTransaction) (Err fault) new u (ap (by_xid w p) none)
    (Carried (ap (λ f. Err f) fault_is) after)
width_stopped w p b new fault u (HasNoTable xid same named none after) =
    let fault_is : fault ≡ NoTable = cc in
    write_followed w p (Refuses NoTable) (Err fault) new u (ap (by_xid w p) named ∙ ap (by_width w p xid) none)
    (Carried (ap (λ f. Err f) fault_is) after)
width_stopped w p b new fault u (StopsWidth other same fell) =
    let fault_is : fault ≡ other = cc in
    write_followed w p (decide_write w p) (Err fault) new u refl
    (StopsAt fault refl
    (fell_plain (limited p (decide_write w p)) p fault new (subst (λ f. FellTo p p f new) (sym fault_is) fell)))

-- the transaction and the table, as they were found
pub record IsWide (name table : List ℕ) (xid width : ℕ) (p : Place) (new : Base) : Type 0 where
  pub named : find_named name p.opens ≡ Some xid
  pub found : find_named table p.tables ≡ Some width
  pub fits : Fits p new

pub width_parts : (name table : List ℕ) (p : Place) (xid width : ℕ) (new : Base) →
    FoundWidth name table p (Ok (xid, width)) new → IsWide name table xid width p new
width_parts name table p xid width new (HasWidth x w same named found fits) =
    let pair : ◌≡◌ {A = ℕ × ℕ} (xid, width) (x, w) = cc in
    let one : xid ≡ x = ap (λ (z : ℕ × ℕ). z.0) pair in
    let two : width ≡ w = ap (λ (z : ℕ × ℕ). z.1) pair in
    record { named = named ∙ ap (λ n. Some n) (sym one); found = found ∙ ap (λ n. Some n) (sym two); fits = fits }
width_parts name table p xid width new (IsUnknown same none fits) = absurd cc
width_parts name table p xid width new (HasNoTable x same named none fits) = absurd cc
width_parts name table p xid width new (StopsWidth other same fell) = absurd cc

wide_decision : (w : Write) (xid width : ℕ) (p : Place) (new : Base) (b : Bool) →
    IsWide w.name w.table xid width p new → fits_width w.change width ≡ b →
    decide_write w p ≡ refused_if (not b) (BadWidth width) (by_node w p xid p.node)
wide_decision w xid width p new b wide fit =
    ap (by_xid w p) wide.named ∙ ap (by_width w p xid) wide.found
    ∙ ap (λ f. refused_if (not f) (BadWidth width) (by_node w p xid p.node)) fit

pub bad_width : {xid width : ℕ} (w : Write) (p : Place) (b new : Base) → IsUp p b →
    IsWide w.name w.table xid width p new → fits_width w.change width ≡ false →
    Comes (ToWrite w) p (Err (BadWidth width)) new
bad_width {xid} {width} w p b new u wide wrong =
    write_followed w p (Refuses (BadWidth width)) (Err (BadWidth width)) new u
    (wide_decision w xid width p new false wide wrong) (Carried refl wide.fits)

-- the transaction and the table of a write, whose columns fit
pub record IsFit (w : Write) (xid : ℕ) (p : Place) (mid : Base) : Type 0 where
  pub width : ℕ
  pub wide : IsWide w.name w.table xid width p mid
  pub fit : fits_width w.change width ≡ true

fit_decision : {w : Write} {xid : ℕ} {p : Place} {mid : Base} (o : Option DbFault) → IsFit w xid p mid →
    closed_at w.table p.node ≡ o → decide_write w p ≡ unless_closed o (decide_row xid w p)
fit_decision {w} {xid} {p} {mid} o f is =
    wide_decision w xid f.width p mid true f.wide f.fit ∙ ap (λ c. unless_closed c (decide_row xid w p)) is

-- what the check of the table leaves where the table may be written
pub record HasPassed (table : List ℕ) (p : Place) (new : Base) : Type 0 where
  pub open_is : closed_at table p.node ≡ None
  pub fits : Fits p new

pub open_parts : (table : List ℕ) (p : Place) (new : Base) → FoundOpen table p (Ok tt) new → HasPassed table p new
open_parts table p new (IsOpen same is fits) = record { open_is = is; fits = fits }
open_parts table p new (IsShut fault same is fits) = absurd cc
open_parts table p new (StopsOpen fault same fell) = absurd cc

-- the table may not be written, or the store failed
pub open_stopped : {xid : ℕ} {b mid : Base} (w : Write) (p : Place) (fault : DbFault) (new : Base) → IsUp p b →
    IsFit w xid p mid → FoundOpen w.table p (Err fault) new → Comes (ToWrite w) p (Err fault) new
open_stopped w p fault new u f (IsOpen same is fits) = absurd cc
open_stopped {xid} w p fault new u f (IsShut other same is fits) =
    let fault_is : fault ≡ other = cc in
    write_followed w p (Refuses other) (Err fault) new u (fit_decision (Some other) f is)
    (Carried (ap (λ e. Err e) fault_is) fits)
open_stopped w p fault new u f (StopsOpen other same fell) =
    let fault_is : fault ≡ other = cc in
    write_followed w p (decide_write w p) (Err fault) new u refl
    (StopsAt fault refl
    (fell_plain (limited p (decide_write w p)) p fault new (subst (λ e. FellTo p p e new) (sym fault_is) fell)))

pub write_comes : {xid : ℕ} {b mid : Base} (w : Write) (p : Place) (result : Result Answered DbFault) (new : Base) →
    IsUp p b → IsFit w xid p mid → closed_at w.table p.node ≡ None →
    Follows (limited p (decide_row xid w p)) p result new → Comes (ToWrite w) p result new
write_comes {xid} w p result new u f passed follows =
    write_followed w p (decide_row xid w p) result new u (fit_decision None f passed) follows

-- ---- the number of values of a row

pub table_narrow : (p : Place) (b : Base) (name : List ℕ) (width : ℕ) → Ready p b →
    find_named name p.tables ≡ Some width → width ≤ 16
table_narrow p b name width ready found =
    all_found (λ w. w ≤ most_columns) name width p.tables ready.spelled.narrow found

pub values_fit : (size width : ℕ) → (nat_le size 16 && (size == width)) ≡ true → (size == width) ≡ true
values_fit size width is =
    elim (nat_le size 16) as (λ b. (b && (size == width)) ≡ true → (size == width) ≡ true) [
      | true ↦ λ fit. fit
      | false ↦ λ bad. absurd (false≢true bad)
    ] is

pub values_not_fit : (size width : ℕ) → width ≤ 16 → (nat_le size 16 && (size == width)) ≡ false →
    (size == width) ≡ false
values_not_fit size width narrow is = false_from_ne_true _ (λ same. let equal = eqb-true size width same in
    false≢true (sym is ∙ ap (λ b. b && (size == width)) (le-leb size 16 (omega (arith, equal, narrow))) ∙ same))

-- the key and the row of values
pub values_parted : (values : List (List ℕ)) → 0 < length values → key_of values ∷ row_of values ≡ values
values_parted [] some = absurd (omega arith)
values_parted (value ∷ rest) some = refl

pub parted_row : (values back : List (List ℕ)) → 0 < length values → back ≡ drop 1 values → back ≡ row_of values
parted_row [] back some is = absurd (omega arith)
parted_row (value ∷ rest) back some is = is

pub parted_key : (front values : List (List ℕ)) (key : List ℕ) → 0 < length values → front ≡ take 1 values →
    key ≡ get_or front 0 key → key ≡ key_of values
parted_key front [] key some front_is key_is = absurd (omega arith)
parted_key front (value ∷ rest) key some front_is key_is = key_is ∙ ap (λ f. get_or f 0 key) front_is

-- ---- what a method answers halts as its task does

pub acted_halts : (result : Result ℕ DbFault) → trouble (answered acted result) ≡ halts result
acted_halts (Ok number) = refl
acted_halts (Err fault) = refl

pub acted_or_not_halts : (result : Result (Option ℕ) DbFault) → trouble (answered acted_or_not result) ≡ halts result
acted_or_not_halts (Ok None) = refl
acted_or_not_halts (Ok (Some number)) = refl
acted_or_not_halts (Err fault) = refl

pub acted_calm : (added : Result ℕ DbFault) (told : Result Answered DbFault) → told ≡ answered acted added →
    is_memory (trouble told) ≡ false → is_memory (halts added) ≡ false
acted_calm added told is memory =
    ap is_memory (sym (acted_halts added)) ∙ ap (λ r. is_memory (trouble r)) (sym is) ∙ memory

-- a row that is spelled as it stands is changed, unless there is no memory
pub update_stopped : {A : Type 0} (right : A) (stop : Stop) (fault : DbFault) (count : ℕ) → Says right (Err stop) →
    is_stop_failed stop ≡ false →
    fault ≡ halt_of stop count → is_memory (halt_in fault) ≡ false → ⊥
update_stopped right StopFailed fault count says never is memory = true≢false never
update_stopped right StopNoMemory fault count says never is memory =
    false≢true (sym memory ∙ ap (λ f. is_memory (halt_in f)) is)
update_stopped right others fault count says never is memory = says

-- the values of a row that a line can say are texts
pub parts_texts : (values : List (List ℕ)) → IsValue (key_of values) × AreValues (row_of values) → AllTexts values
parts_texts [] said = tt
parts_texts (value ∷ rest) said = (value_text value said.0, value_texts rest said.1)

-- ---- the forms of what is captured

pub values_formed : (values : List (List ℕ)) → IsValue (key_of values) × AreValues (row_of values) →
    list_all is_value values ≡ true
values_formed [] said = refl
values_formed (value ∷ rest) said = and_from (is_value value) (list_all is_value rest) said.0 said.1

-- a key and a row that are parts of such values
pub put_formed : (values : List (List ℕ)) (key : List ℕ) (row : Row) → 0 < length values →
    (key ≡ key_of values) × (row ≡ row_of values) → list_all is_value values ≡ true →
    nat_le (length values) 16 ≡ true → is_change (captured.Put key row) ≡ true
put_formed [] key row some parts formed few = absurd (omega arith)
put_formed (value ∷ rest) key row some parts formed few =
    (λ i. is_change (captured.Put (parts.0 i) (parts.1 i)))
    ∙ (let both = and_parts (is_value value) (list_all is_value rest) formed in
    let less = leb-true (length (value ∷ rest)) 16 few in
    λ i. both.0 i && both.1 i && le-leb (length rest) 99 (omega (arith, less)) i)

pub set_formed : (key : List ℕ) (columns : List (ℕ × List ℕ)) → IsChange (Set key columns) →
    is_change (captured.Set key columns) ≡ true
set_formed key columns (key_formed, values, few) =
    let numbers = all_below columns few.1 in
    λ i. key_formed i && values i && le-leb (length columns) 99 few.0 i && numbers i
  where
    all_below : (columns : List (ℕ × List ℕ)) → AllByRecursion (λ c. c.0 ≤ greatest_column) columns →
        list_all (λ c. nat_le c.0 greatest_column) columns ≡ true
    all_below [] below = refl
    all_below (c ∷ cs) below =
        and_from (nat_le c.0 greatest_column) _ (le-leb c.0 greatest_column below.0) (all_below cs below.1)
