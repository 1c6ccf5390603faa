-- The rows of one table in a store that holds rows of tables.
use Rattle.std.proofs.Common.{◌≡◌, ℕ, Bool, true, false, cond, T, List, [], ◌∷◌, ◌++◌, length, drop, Option}
use Rattle.std.proofs.Common.{Some, None, refl, sym, ap, subst, ◌∙◌, arith}
use Rattle.std.specs.Prelude.{nat_eq, option_map}
use Rattle.std.specs.List.{starts_with}
use Rattle.std.specs.Ordering.{is_eq}
use Rattle.std.specs.Str.{bytes_eq}
use Rattle.std.specs.FinMap.{get, entries, entries_sorted}
use Rattle.std.specs.FinMap.Entries.{find, is_sorted}
use Rattle.std.proofs.lemmas.List.{append-nil, append_cancel_left}
use Rattle.std.proofs.lemmas.Slice.Eq.{bytes_eq-Decides}
use Rattle.slon_base.specs.Codec.{text_bytes, list_bytes, IsText, AreTexts, AllAre}
use Rattle.slon_base.specs.Keeper.{Store, key_cmp, after}
use Rattle.slon_base.proofs.Order.{Entries, tied, apart, find_none, front_of, back_of, behind, prefixed}
use Rattle.slon_base.proofs.Spelled.{text_front, text_bytes-same, length-text_bytes}
use Rattle.store_rows.specs.Scan.{ranged, spelled_rows}
use Rattle.store_rows.specs.Space.{AllOf}
use Rattle.store_rows.proofs.Listing.{AllHave, have_ranged, after_sorted, sorted_ranged}
use Rattle.slon_model.specs.Rows.{Row, Rows}
use Rattle.log_switch.proofs.Ranges.{find_in, all_there}
use Rattle.change_apply.specs.Applied.{row_key, IsKey, HoldsRows}
use Rattle.change_apply.specs.Copied.{row_in, AreApart, AreRowsOf, CanCopy, AreFound}

-- ---- rows by keys that have one front

-- a look for a key among rows is one for its spelling
same_text : (p a b : List ℕ) → is_eq (key_cmp (p ++ text_bytes a) (p ++ text_bytes b)) ≡ bytes_eq a b
same_text p a b = by (bytes_eq a b) refl
  where
    differ : a ≡ b → bytes_eq a b ≡ false → ⊥
    differ same is = let holds = (bytes_eq-Decides a b).1 same in cc

    by : (t : Bool) → bytes_eq a b ≡ t → is_eq (key_cmp (p ++ text_bytes a) (p ++ text_bytes b)) ≡ bytes_eq a b
    by true is =
        let same : a ≡ b = (bytes_eq-Decides a b).0 is in
        ap (λ k. is_eq (key_cmp (p ++ text_bytes a) (p ++ text_bytes k))) (sym same) ∙ tied (p ++ text_bytes a) ∙ sym is
    by false is =
        apart (p ++ text_bytes a) (p ++ text_bytes b) (λ same. differ
        (text_bytes-same a b (append_cancel_left p (text_bytes a) (text_bytes b) same)) is)
        ∙ sym is

find_row : (p : List ℕ) (rows : List (List ℕ × Row)) (key : List ℕ) →
    find key_cmp (p ++ text_bytes key) (spelled_rows p text_bytes list_bytes rows)
    ≡ option_map list_bytes (row_in rows key)
find_row p [] key = refl
find_row p (r ∷ rows) key =
    ap (λ b. cond b (Some (list_bytes r.1)) rest) (same_text p key r.0) ∙ step (bytes_eq key r.0) (find_row p rows key)
  where
    rest : Option (List ℕ)
    rest = find key_cmp (p ++ text_bytes key) (spelled_rows p text_bytes list_bytes rows)

    step : (b : Bool) → rest ≡ option_map list_bytes (row_in rows key) →
        cond b (Some (list_bytes r.1)) rest ≡ option_map list_bytes (cond b (Some r.1) (row_in rows key))
    step true is = refl
    step false is = is

none_spelled : (o : Option Row) → option_map list_bytes o ≡ None → o ≡ None
none_spelled None is = refl
none_spelled (Some row) is = absurd cc

-- rows whose keys ascend have a key each
ascending_apart : (p : List ℕ) (rows : List (List ℕ × Row)) →
    T (is_sorted key_cmp (spelled_rows p text_bytes list_bytes rows)) → AreApart rows
ascending_apart p [] sorted = tt
ascending_apart p (r ∷ rows) sorted = (
  none_spelled (row_in rows r.0)
      (sym (find_row p rows r.0)
      ∙ find_none (p ++ text_bytes r.0) (p ++ text_bytes r.0) (spelled_rows p text_bytes list_bytes rows)
      (λ g less. less) (front_of _ _ sorted)),
  ascending_apart p rows (back_of _ _ sorted),
)

-- ---- the rows of a table

-- these pairs are rows of the table
record AreRead (table : List ℕ) (tables : List ℕ → Rows) (es : Entries) : Type 0 where
  rows : List (List ℕ × Row)
  can : CanCopy rows
  stand : AllAre (λ r. get (tables table) r.0 ≡ Some r.1) rows
  spelled : es ≡ spelled_rows (text_bytes table) text_bytes list_bytes rows

-- one pair of a table
record IsRead (table : List ℕ) (tables : List ℕ → Rows) (e : List ℕ × List ℕ) : Type 0 where
  row : List ℕ × Row
  can : IsText row.0 × AreTexts row.1
  stands : get (tables table) row.0 ≡ Some row.1
  spelled : e ≡ (text_bytes table ++ text_bytes row.0, list_bytes row.1)

read_one : (table : List ℕ) (tables : List ℕ → Rows) (m : Store) (e : List ℕ × List ℕ) → IsText table →
    HoldsRows tables m → starts_with nat_eq e.0 (text_bytes table) ≡ true → get (m 3) e.0 ≡ Some e.1 →
    IsRead table tables e
read_one table tables m e text held has there = of (held.keys e.0 e.1 there)
  where
    at : (i : List ℕ × List ℕ) → IsKey i → e.0 ≡ row_key i → i.0 ≡ table → (o : Option Row) →
        get (tables i.0) i.1 ≡ o → AllOf AreTexts o → Some e.1 ≡ option_map list_bytes o → IsRead table tables e
    at i one key mine None stands can is = absurd cc
    at i one key mine (Some row) stands can is =
        let value : e.1 ≡ list_bytes row = cc in
        let keyed = key ∙ ap (λ o. text_bytes o ++ text_bytes i.1) mine in
        record {
          row = (i.1, row);
          can = (one.1, can);
          stands = ap (λ o. get (tables o) i.1) (sym mine) ∙ stands;
          spelled = λ k. (keyed k, value k);
        }

    of : (i : List ℕ × List ℕ) × IsKey i × (e.0 ≡ row_key i) → IsRead table tables e
    of (i, one, key) =
        let front = text_front i.0 table (text_bytes i.1) (drop (length (text_bytes table)) e.0) one.0.short text.short
        (sym key ∙ prefixed (text_bytes table) e.0 has) in
        at i one key front.0 (get (tables i.0) i.1) refl (held.spelled i one)
        (sym there ∙ ap (get (m 3)) key ∙ held.lookups i one)

read_all : (table : List ℕ) (tables : List ℕ → Rows) (m : Store) (es : Entries) → IsText table → HoldsRows tables m →
    AllHave (text_bytes table) es → AllAre (λ e. get (m 3) e.0 ≡ Some e.1) es → AreRead table tables es
read_all table tables m [] text held have there = record { rows = []; can = tt; stand = tt; spelled = refl }
read_all table tables m (e ∷ es) text held have there =
    let one = read_one table tables m e text held have.0 there.0 in
    let rest = read_all table tables m es text held have.1 there.1 in
    record {
      rows = one.row ∷ rest.rows;
      can = (one.can, rest.can);
      stand = (one.stands, rest.stand);
      spelled = λ k. one.spelled k ∷ rest.spelled k;
    }

range_of : List ℕ → Store → Entries
range_of table m = ranged (text_bytes table) (after (text_bytes table ++ []) (entries (m 3)))

-- what stands with a key among the rows stands in the table
row_stands : (table : Rows) (key : List ℕ) (rows : List (List ℕ × Row)) →
    AllAre (λ r. get table r.0 ≡ Some r.1) rows → (x : Row) → row_in rows key ≡ Some x → get table key ≡ Some x
row_stands table key [] stand x is = absurd cc
row_stands table key (r ∷ rows) stand x is =
    step (bytes_eq key r.0) refl is (row_stands table key rows stand.1 x)
  where
    step : (b : Bool) → bytes_eq key r.0 ≡ b → cond b (Some r.1) (row_in rows key) ≡ Some x →
        (row_in rows key ≡ Some x → get table key ≡ Some x) → get table key ≡ Some x
    step true same is later = ap (get table) ((bytes_eq-Decides key r.0).0 same) ∙ stand.0 ∙ is
    step false other is later = later is

-- What is read of a table, and that it is the rows of the table.
pub record IsTable (table : List ℕ) (tables : List ℕ → Rows) (m : Store) : Type 0 where
  pub rows : List (List ℕ × Row)
  pub found : AreFound table m rows
  pub are : AreRowsOf (tables table) rows

pub table_of : (table : List ℕ) (tables : List ℕ → Rows) (m : Store) → IsText table → HoldsRows tables m →
    IsTable table tables m
unfolding range_of
table_of table tables m text held = record {
  rows = read.rows;
  found = record {
    can = read.can;
    spelled = ap (λ k. ranged front (after k (entries (m 3)))) (sym (append-nil front))
        ∙ read.spelled;
  };
  are = record {
    apart = ascending_apart front read.rows (subst (λ es. T (is_sorted key_cmp es)) read.spelled sorted);
    lookups = λ key is. by key (row_in read.rows key) refl (get (tables table) key) refl is;
  };
}
  where
    front : List ℕ
    front = text_bytes table

    read : AreRead table tables (range_of table m)
    read =
        read_all table tables m (range_of table m) text held (have_ranged front (after (front ++ []) (entries (m 3))))
        (all_there front (front ++ []) (m 3))

    sorted : T (is_sorted key_cmp (range_of table m))
    sorted =
        sorted_ranged front (after (front ++ []) (entries (m 3)))
        (after_sorted (front ++ []) (entries (m 3)) (entries_sorted (m 3)))

    look : (key : List ℕ) → IsText key →
        option_map list_bytes (row_in read.rows key) ≡ option_map list_bytes (get (tables table) key)
    look key is =
        sym (find_row front read.rows key)
        ∙ ap (find key_cmp (front ++ text_bytes key)) (sym read.spelled)
        ∙ find_in front [] (text_bytes key) (m 3)
        (ap (λ k. key_cmp k (front ++ text_bytes key)) (append-nil front)
        ∙ behind front (text_bytes key) (omega (arith, length-text_bytes key)))
        ∙ held.lookups (table, key) (text, is)

    by : (key : List ℕ) (a : Option Row) → row_in read.rows key ≡ a → (b : Option Row) → get (tables table) key ≡ b →
        IsText key → row_in read.rows key ≡ get (tables table) key
    by key (Some x) is b at text_of = is ∙ sym (row_stands (tables table) key read.rows read.stand x is)
    by key None is None at text_of = is ∙ sym at
    by key None is (Some y) at text_of =
        let bad : None ≡ Some (list_bytes y) =
        ap (option_map list_bytes) (sym is) ∙ look key text_of ∙ ap (option_map list_bytes) at in
        absurd cc
