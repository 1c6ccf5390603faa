-- A table whose rows are taken away and put one after the other.
use Rattle.std.proofs.Common.{◌≡◌, ℕ, Bool, true, false, cond, List, [], ◌∷◌, Option, Some, None, Result, Ok, Err}
use Rattle.std.proofs.Common.{refl, sym, ap, subst, ◌∙◌, IfOk}
use Rattle.std.specs.FinMap.{get, entries}
use Rattle.std.specs.Str.{bytes_eq}
use Rattle.std.proofs.lemmas.Slice.Eq.{bytes_eq-Decides}
use Rattle.slon_base.specs.Codec.{text_bytes, list_bytes, IsText, AreTexts}
use Rattle.slon_base.specs.Keeper.{Store, Kept, after}
use Rattle.store_rows.specs.Scan.{ranged, spelled_rows}
use Rattle.store_rows.specs.Space.{IsPending, Becomes}
use Rattle.store_rows.specs.Steps.{Gives}
use Rattle.store_rows.specs.declared.stop.Stop.{Stop}
use Rattle.store_rows.proofs.Spaces.{pending_as, same_space}
use Rattle.slon_model.specs.Rows.{Row, Rows, Change, Put, Remove, apply}
use Rattle.slon_laws.proofs.Keys.{get-put, get-apply}
use Rattle.change_apply.specs.Applied.{IsKey, HoldsRows, OthersStay, CanApply, changed_in, IsChanged}
use Rattle.change_apply.specs.Copied.{row_in, AreApart, AreRowsOf, CanCopy, AreFound, with_table, played, turned, turns}
use Rattle.change_apply.specs.declared.copying.Turn.{Turn}
use Rattle.change_apply.specs.declared.copying.Turn.TheVariants.{Take, Give}
use Rattle.change_apply.proofs.Logged.{others_stay}

-- ---- what is left of changes

-- The store holds rows of tables, of which these changes make what all make of the first ones.
pub record IsRest (table : List ℕ) (more all : List Change) (tables : List ℕ → Rows) (m : Store) : Type 0 where
  pub now : List ℕ → Rows
  pub held : HoldsRows now m
  pub ends : played table more now ≡ played table all tables

pub all_rest : {table : List ℕ} {all : List Change} {tables : List ℕ → Rows} {k : Kept} →
    IsPending (HoldsRows tables) k → IsPending (IsRest table all all tables) k
all_rest {table} {all} {tables} p = pending_as (λ m held. record { now = tables; held = held; ends = refl }) p

pub one_rest : {table : List ℕ} {c : Change} {more all : List Change} {tables : List ℕ → Rows} {old new : Kept} →
    IsPending (IsRest table (c ∷ more) all tables) old →
    ((now : List ℕ → Rows) → IsPending (HoldsRows now) old → IsPending (HoldsRows (changed_in table c now)) new) →
    IsPending (IsRest table more all tables) new
one_rest {table} {c} p on =
    pending_as (λ m held. record { now = changed_in table c p.has.now; held = held; ends = p.has.ends })
    (on p.has.now (record { store = p.store; is = p.is; has = p.has.held }))

pub none_rest : {table : List ℕ} {all : List Change} {tables : List ℕ → Rows} {k : Kept} →
    IsPending (IsRest table [] all tables) k → IsPending (HoldsRows (played table all tables)) k
none_rest p = pending_as (λ m rest. subst (λ t. HoldsRows t m) rest.ends rest.held) p

pub others_on : {table : List ℕ} {change : Change} {m : Store} {old new : Kept} → IsPending (OthersStay m) old →
    ((n : Store) → old.pending ≡ Some (Some n) → IsPending (IsChanged table change n) new) →
    IsPending (OthersStay m) new
others_on p on =
    pending_as (λ n changed space other. others_stay n changed space other ∙ p.has space other) (on p.store p.is)

-- ---- what all of them make

-- changes in one table leave the others
other_table : (table : List ℕ) (changes : List Change) (tables : List ℕ → Rows) (other : List ℕ) →
    bytes_eq other table ≡ false → played table changes tables other ≡ tables other
other_table table [] tables other is = refl
other_table table (c ∷ changes) tables other is =
    other_table table changes (changed_in table c tables) other is
    ∙ ap (λ b. cond b (apply c (tables other)) (tables other)) is

-- the row with a key behind the rows that are put
or_else : Option Row → Option Row → Option Row
or_else None there = there
or_else (Some row) there = Some row

at_itself : (table : List ℕ) (c : Change) (tables : List ℕ → Rows) →
    changed_in table c tables table ≡ apply c (tables table)
at_itself table c tables =
    ap (λ b. cond b (apply c (tables table)) (tables table)) ((bytes_eq-Decides table table).1 refl)

put_all : (table key : List ℕ) (rows : List (List ℕ × Row)) (tables : List ℕ → Rows) → AreApart rows →
    get (played table (turns Give rows) tables table) key ≡ or_else (row_in rows key) (get (tables table) key)
unfolding or_else
put_all table key [] tables apart = refl
put_all table key (r ∷ rows) tables apart =
    put_all table key rows (changed_in table (Put r.0 r.1) tables) apart.1
    ∙ ap (or_else (row_in rows key)) (ap (λ t. get t key) (at_itself table (Put r.0 r.1) tables)
    ∙ get-put (tables table) r.0 r.1 key)
    ∙ by (bytes_eq key r.0) refl
  where
    by : (b : Bool) → bytes_eq key r.0 ≡ b →
        or_else (row_in rows key) (cond b (Some r.1) (get (tables table) key))
        ≡ or_else (cond b (Some r.1) (row_in rows key)) (get (tables table) key)
    by true same =
        let none : row_in rows key ≡ None =
        ap (row_in rows) ((bytes_eq-Decides key r.0).0 same) ∙ apart.0 in
        ap (λ o. or_else o (Some r.1)) none
    by false other = refl

-- the rows that are taken away are there no more
unless_in : Option Row → Option Row → Option Row
unless_in None there = there
unless_in (Some row) there = None

take_all : (table key : List ℕ) (rows : List (List ℕ × Row)) (tables : List ℕ → Rows) →
    get (played table (turns Take rows) tables table) key ≡ unless_in (row_in rows key) (get (tables table) key)
unfolding unless_in
take_all table key [] tables = refl
take_all table key (r ∷ rows) tables =
    take_all table key rows (changed_in table (Remove r.0) tables)
    ∙ ap (unless_in (row_in rows key)) (ap (λ t. get t key) (at_itself table (Remove r.0) tables)
    ∙ get-apply (Remove r.0) (tables table) key)
    ∙ by (bytes_eq key r.0) (row_in rows key)
  where
    by : (b : Bool) (o : Option Row) → unless_in o (cond b None (get (tables table) key))
        ≡ unless_in (cond b (Some r.1) o) (get (tables table) key)
    by true None = refl
    by true (Some row) = refl
    by false o = refl

-- all rows of the table are taken away, and the given ones put
replaced_at : (table key : List ℕ) (old rows : List (List ℕ × Row)) (tables : List ℕ → Rows) (given : Rows) →
    IsText key → AreRowsOf (tables table) old × AreRowsOf given rows →
    get (played table (turns Give rows) (played table (turns Take old) tables) table) key ≡ get given key
unfolding or_else unless_in
replaced_at table key old rows tables given text are =
    put_all table key rows (played table (turns Take old) tables) are.1.apart
    ∙ ap (or_else (row_in rows key)) (take_all table key old tables
    ∙ ap (λ o. unless_in o (get (tables table) key)) (are.0.lookups key text) ∙ none (get (tables table) key))
    ∙ none_else (row_in rows key) ∙ are.1.lookups key text
  where
    none : (o : Option Row) → unless_in o o ≡ None
    none None = refl
    none (Some row) = refl

    none_else : (o : Option Row) → or_else o None ≡ o
    none_else None = refl
    none_else (Some row) = refl

pub replaced : (table : List ℕ) (old rows : List (List ℕ × Row)) (tables : List ℕ → Rows) (given : Rows) (m : Store) →
    AreRowsOf (tables table) old × AreRowsOf given rows →
    HoldsRows (played table (turns Give rows) (played table (turns Take old) tables)) m →
    HoldsRows (with_table table given tables) m
replaced table old rows tables given m are held = same_space held (λ j one. by j one (bytes_eq j.0 table) refl)
  where
    behind : List ℕ → Rows
    behind = played table (turns Give rows) (played table (turns Take old) tables)

    by : (j : List ℕ × List ℕ) → IsKey j → (b : Bool) → bytes_eq j.0 table ≡ b →
        get (cond b given (tables j.0)) j.1 ≡ get (behind j.0) j.1
    by j one true is =
        let same : j.0 ≡ table = (bytes_eq-Decides j.0 table).0 is in
        sym (replaced_at table j.1 old rows tables given one.1 are) ∙ ap (λ t. get (behind t) j.1) (sym same)
    by j one false is =
        ap (λ t. get t j.1) (sym (other_table table (turns Give rows) (played table (turns Take old) tables) j.0 is
        ∙ other_table table (turns Take old) tables j.0 is))

-- ---- what is read

pub found_if : (table p q : List ℕ) (m : Store) (result : Result (List (List ℕ × Row)) Stop) → p ≡ text_bytes table →
    q ≡ text_bytes table → IfOk result (λ rows. CanCopy rows
    × (ranged p (after q (entries (m 3))) ≡ spelled_rows p text_bytes list_bytes rows)) →
    IfOk result (AreFound table m)
found_if table p q m (Ok rows) one other (can, is) = record {
  can = can;
  spelled =
      subst (λ k. ranged k (after (text_bytes table) (entries (m 3))) ≡ spelled_rows k text_bytes list_bytes rows) one
      (subst (λ k. ranged p (after k (entries (m 3))) ≡ spelled_rows p text_bytes list_bytes rows) other is);
}
found_if table p q m (Err stop) one other is = tt

pub spelled_at : {table : List ℕ} {m : Store} {rows : List (List ℕ × Row)} (p q : List ℕ) → p ≡ text_bytes table →
    q ≡ text_bytes table → AreFound table m rows →
    ranged p (after q (entries (m 3))) ≡ spelled_rows p text_bytes list_bytes rows
spelled_at {table} {m} {rows} p q one other found =
    subst (λ k. ranged k (after q (entries (m 3))) ≡ spelled_rows k text_bytes list_bytes rows) (sym one)
    (subst (λ k. ranged (text_bytes table) (after k (entries (m 3)))
    ≡ spelled_rows (text_bytes table) text_bytes list_bytes rows) (sym other) found.spelled)

pub gives_as : {T : Type 0} (P Q : T → Type 0) (result : Result T Stop) → ((x : T) → P x → Q x) → Gives P result →
    Gives Q result
gives_as P Q (Ok x) on is = on x is
gives_as P Q (Err stop) on is = is

-- what a call made of the pending store is this too
pub becomes_as : {T : Type 0} (P Q : Store → Type 0) (k : Kept) (result : Result T Stop) → ((m : Store) → P m → Q m) →
    Becomes P k result → Becomes Q k result
becomes_as P Q k (Ok u) on p = pending_as on p
becomes_as P Q k (Err stop) on p = p

pub stays_as : {T : Type 0} (m n : Store) (k : Kept) (result : Result T Stop) → OthersStay m n →
    IfOk result (λ u. IsPending (OthersStay n) k) → IfOk result (λ u. IsPending (OthersStay m) k)
stays_as m n k (Ok u) same p = pending_as (λ o later space other. later space other ∙ same space other) p
stays_as m n k (Err stop) same p = tt

-- the words of what is done with a row are texts
pub turned_can : (turn : Turn) (r : List ℕ × Row) → IsText r.0 × AreTexts r.1 → CanApply (turned turn r)
turned_can Take r can = can.0
turned_can Give r can = can
