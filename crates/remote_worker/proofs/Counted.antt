-- How many rows a node brings.
use Rattle.std.proofs.Common.{◌≡◌, ◌∙◌, ◌+◌, ℕ, Bool, true, false, cond, List, [], ◌∷◌, length, Option, Some, None}
use Rattle.std.proofs.Common.{refl, sym, ap, arith}
use Rattle.std.specs.Prelude.{is_some, sum_by}
use Rattle.std.proofs.lemmas.List.{length-map}
use Rattle.std.proofs.lemmas.List.Sums.{sum_by-cons}
use Rattle.std.specs.List.{AllByRecursion}
use Rattle.std.specs.Cmp.Lexicographic.{nat_list_cmp_total}
use Rattle.std.specs.FinMap.{empty, entries, get, get-empty, get-insert, get-remove, insert, len, len-empty}
use Rattle.std.specs.FinMap.{len-entries, len-insert, remove, same_map}
use Rattle.std.specs.Str.{bytes_eq}
use Rattle.slon_base.specs.Codec.{IsText}
use Rattle.slon_base.specs.Keeper.{key_cmp}
use Rattle.slon_base.proofs.Order.{same_keys}
use Rattle.slon_model.specs.Names.{Named}
use Rattle.slon_model.proofs.Names.{bytes_itself, bytes_same}
use Rattle.slon_model.specs.Rows.{Row, Rows}
use Rattle.slon_model.specs.Deeds.{Brought, nothing_brought}
use Rattle.slon_model.specs.Following.{Found, FoundCopy, FoundNothing, FoundSyncs, SetSync as RulesSync}
use Rattle.slon_model.specs.Following.{brought_of, count_of, rows_in, with_sync, with_syncs}
use Rattle.slon_model.specs.Place.{Place}
use Rattle.slon_model.specs.Working.{rows_at}
use Rattle.slon_laws.specs.Spelled.{AreFormed, IsSpelled}
use Rattle.slon_laws.proofs.Formed.{standing_formed}
use Rattle.slon_laws.proofs.Keys.{key_test}
use Rattle.change_apply.specs.Copied.{AreListed, AreRowsOf, CanCopy, CanCopyAll, Listed, row_in}
use Rattle.node_store.specs.Bringing.{row_of, rows_listed}
use Rattle.remote_worker.specs.declared.loading.Load.{Load}
use Rattle.remote_worker.specs.declared.loading.Load.TheVariants.{Copy, Syncs}
use Rattle.remote_worker.specs.declared.loading.SetFetch.{SetFetch}
use Rattle.remote_worker.specs.Loading.{HasFound, HaveFetches, rows_fetched, rows_loaded}

-- ---- one table

-- all keys of these rows are texts
abbrev HaveTexts : Rows → Type 0
HaveTexts table = (key : List ℕ) (row : Row) → get table key ≡ Some row → IsText key

-- the table without its first row, and the row put back
put_again : (table : Rows) (key : List ℕ) (row : Row) → get table key ≡ Some row →
    insert (remove table key) key row ≡ table
put_again table key row is =
    same_map nat_list_cmp_total same_keys (insert (remove table key) key row) table (λ q.
    get-insert nat_list_cmp_total (remove table key) key row q
    ∙ ap (cond _ (Some row)) (get-remove nat_list_cmp_total table key q)
    ∙ ap (λ b. cond b (Some row) (cond b None (get table q))) (key_test q key) ∙ by q (bytes_eq q key) refl)
  where
    by : (q : List ℕ) (b : Bool) → bytes_eq q key ≡ b → cond b (Some row) (cond b None (get table q)) ≡ get table q
    by q true same = sym is ∙ ap (get table) (sym (bytes_same q key same))
    by q false other = refl

removed_at : (table : Rows) (key q : List ℕ) → get (remove table key) q ≡ cond (bytes_eq q key) None (get table q)
removed_at table key q =
    get-remove nat_list_cmp_total table key q ∙ ap (λ b. cond b None (get table q)) (key_test q key)

one_less : (table : Rows) (key : List ℕ) (row : Row) → get table key ≡ Some row →
    len table ≡ len (remove table key) + 1
one_less table key row is =
    ap len (sym (put_again table key row is)) ∙ len-insert nat_list_cmp_total (remove table key) key row
    ∙ ap (λ (o : Option Row). cond (is_some o) (len (remove table key)) (len (remove table key) + 1))
    (removed_at table key key ∙ ap (λ b. cond b None (get table key)) (bytes_itself key))

-- a table that has none of the keys that are texts is empty
no_rows : (table : Rows) → HaveTexts table → ((key : List ℕ) → IsText key → None ≡ get table key) → len table ≡ 0
no_rows table texts none =
    ap len (same_map nat_list_cmp_total same_keys table empty
    (λ q. by q (get table q) refl ∙ sym (get-empty {X = Row} key_cmp q)))
    ∙ len-empty key_cmp Row
  where
    by : (q : List ℕ) (o : Option Row) → get table q ≡ o → o ≡ None
    by q None is = refl
    by q (Some row) is = sym (none q (texts q row is) ∙ is)

rest_of : (table : Rows) (r : List ℕ × Row) (rows : List (List ℕ × Row)) → AreRowsOf table (r ∷ rows) →
    AreRowsOf (remove table r.0) rows
rest_of table r rows are = record {
  apart = are.apart.1;
  lookups = λ key text. by key (bytes_eq key r.0) refl (are.lookups key text) ∙ sym (removed_at table r.0 key);
}
  where
    by : (key : List ℕ) (b : Bool) → bytes_eq key r.0 ≡ b → cond b (Some r.1) (row_in rows key) ≡ get table key →
        row_in rows key ≡ cond b None (get table key)
    by key true same is = ap (row_in rows) (bytes_same key r.0 same) ∙ are.apart.0
    by key false other is = is

one_counted : (table : Rows) (rows : List (List ℕ × Row)) → HaveTexts table → CanCopy rows → AreRowsOf table rows →
    len table ≡ length rows
one_counted table [] texts can are = no_rows table texts are.lookups
one_counted table (r ∷ rows) texts can are =
    one_less table r.0 r.1 here
    ∙ ap (λ n. n + 1) (one_counted (remove table r.0) rows kept can.1 (rest_of table r rows are))
    ∙ omega arith
  where
    here : get table r.0 ≡ Some r.1
    here = sym (are.lookups r.0 can.0.0) ∙ ap (λ b. cond b (Some r.1) (row_in rows r.0)) (bytes_itself r.0)

    kept : HaveTexts (remove table r.0)
    kept key row is = by (bytes_eq key r.0) refl (sym (removed_at table r.0 key) ∙ is)
      where
        by : (b : Bool) → bytes_eq key r.0 ≡ b → cond b None (get table key) ≡ Some row → IsText key
        by true same found = absurd cc
        by false other found = texts key row found

-- ---- the tables that are copied

tables_counted : (rs : Named Rows) (ts : Listed) → AllByRecursion (λ r. AreFormed r.1) rs → CanCopyAll ts →
    AreListed rs ts → sum_by (λ r. length (entries r.1)) rs ≡ rows_listed ts
tables_counted [] [] formed can are = refl
tables_counted [] (t ∷ ts) formed can are = absurd are
tables_counted (r ∷ rs) [] formed can are = absurd are
tables_counted (r ∷ rs) (t ∷ ts) formed can are =
    sum_by-cons (λ r. length (entries r.1)) r rs
    ∙ ap (λ n. n + sum_by (λ r. length (entries r.1)) rs)
    (sym (len-entries r.1) ∙ one_counted r.1 t.1 (λ key row is. (formed.0 key row is).0.0) can.0.1 are.1)
    ∙ ap (λ n. length t.1 + n) (tables_counted rs ts formed.1 can.1 are.2)
    ∙ sym (sum_by-cons (λ t. length t.1) t ts)

-- the rows that stand in tables have their forms
formed_at : (p : Place) (names : List (List ℕ)) → IsSpelled p →
    AllByRecursion (λ (r : List ℕ × Rows). AreFormed r.1) (rows_at p names)
formed_at p [] spelled = tt
formed_at p (name ∷ names) spelled = (standing_formed p name spelled, formed_at p names spelled)

-- so what was read of them is counted
pub rows_read : (p : Place) (names : List (List ℕ)) (ts : Listed) → IsSpelled p → CanCopyAll ts →
    AreListed (rows_at p names) ts → rows_in (rows_at p names) ≡ rows_listed ts
rows_read p names ts spelled can are = tables_counted (rows_at p names) ts (formed_at p names spelled) can are

-- ---- what was logged

fetches_counted : (origin : ℕ) (ts : List RulesSync) (given : List SetFetch) → HaveFetches origin ts given →
    sum_by (λ (t : RulesSync). length t.rows) ts ≡ rows_fetched given
fetches_counted origin [] [] have = refl
fetches_counted origin [] (g ∷ given) have = absurd have
fetches_counted origin (t ∷ ts) [] have = absurd have
fetches_counted origin (t ∷ ts) (g ∷ given) have =
    sum_by-cons (λ (t : RulesSync). length t.rows) t ts
    ∙ ap (λ n. n + sum_by (λ (t : RulesSync). length t.rows) ts)
    (sym (ap length have.0.sync.logged.rows_are ∙ length-map t.rows row_of))
    ∙ ap (λ n. length g.sync.rows + n) (fetches_counted origin ts given have.1)
    ∙ sym (sum_by-cons (λ (f : SetFetch). length f.sync.rows) g given)

-- ---- what is found

pub rows_counted : (origin : ℕ) (f : Found) (given : Option Load) → HasFound origin f given →
    count_of f ≡ rows_loaded given
rows_counted origin f None is = ap count_of is
rows_counted origin f (Some (Copy copy)) (rows, is, has) = ap count_of is ∙ has.count
rows_counted origin f (Some (Syncs fetches)) (ts, is, have) = ap count_of is ∙ fetches_counted origin ts fetches have

-- and that is what is brought
syncs_brought : (p : Place) (ts : List RulesSync) (b : Brought) →
    (with_syncs p ts b).count ≡ b.count + sum_by (λ (t : RulesSync). length t.rows) ts
syncs_brought p [] b = omega arith
syncs_brought p (t ∷ ts) b =
    syncs_brought p ts (with_sync p t b)
    ∙ omega (arith, sum_by (λ (t : RulesSync). length t.rows) ts)
    ∙ ap (λ n. b.count + n) (sym (sum_by-cons (λ (t : RulesSync). length t.rows) t ts))

pub brought_counted : (p : Place) (f : Found) → (brought_of p f).count ≡ count_of f
brought_counted p FoundNothing = refl
brought_counted p (FoundCopy set view rows) = refl
brought_counted p (FoundSyncs ts) = syncs_brought p ts nothing_brought ∙ omega arith
