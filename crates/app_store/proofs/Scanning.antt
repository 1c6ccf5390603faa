-- The pairs behind the name of a table, read as its rows.
use Rattle.std.proofs.Common.{◌≡◌, ℕ, ◌≤◌, Bool, true, false, cond, T, List, [], ◌∷◌, ◌++◌, length, take, drop, Option}
use Rattle.std.proofs.Common.{Some, None, refl, sym, ap, subst, ◌∙◌, arith}
use Rattle.std.specs.Prelude.{nat_eq}
use Rattle.std.specs.List.{starts_with, filter}
use Rattle.std.specs.List.Sorted.{ties}
use Rattle.std.specs.Cmp.{both_ways}
use Rattle.std.specs.Option.{option_map}
use Rattle.std.specs.Ordering.{is_eq}
use Rattle.std.specs.FinMap.{get, entries, entries_sorted, get-entries}
use Rattle.std.specs.FinMap.Entries.{find, is_sorted, below_all}
use Rattle.std.proofs.lemmas.List.{append-nil, take_at}
use Rattle.std.proofs.lemmas.Slice.Eq.{bytes_eq-Decides}
use Rattle.slon_base.specs.Keeper.{Space, key_cmp, after}
use Rattle.slon_base.specs.Codec.{text_bytes, list_bytes, IsText, AreTexts, AllAre}
use Rattle.slon_base.proofs.Spelled.{length-text_bytes, same_front, text_bytes-same}
use Rattle.store_rows.specs.Scan.{ranged, spelled_rows}
use Rattle.slon_base.proofs.Order.{Entries, same_keys, equal_of, tied, behind, find-after, after-next}
use Rattle.slon_base.proofs.Order.{prefixed, find_none, front_of, back_of}
use Rattle.store_rows.proofs.Listing.{find-ranged, after_sorted, after_below, sorted_ranged}
use Rattle.slon_model.specs.Rows.{Row, Rows}
use Rattle.app_store.specs.Scan.{IsTableOf, row_before, AreArranged}
use Rattle.app_store.proofs.Arranging.{AreAlone, arranged, none_tied, alone_more, alone_past}

some_row : {A B : Type 0} (f : A → B) (o : Option A) (y : B) → option_map f o ≡ Some y → (x : A) × (o ≡ Some x)
    × (y ≡ f x)
some_row f None y is = absurd cc
some_row f (Some x) y is = let same : f x ≡ y = cc in (x, refl, sym same)

not_some : {A B : Type 0} (f : A → B) (o : Option A) → option_map f o ≡ None → o ≡ None
not_some f None is = refl
not_some f (Some x) is = absurd cc

text_key : (prefix a b : List ℕ) → prefix ++ text_bytes a ≡ prefix ++ text_bytes b → a ≡ b
text_key prefix a b is = text_bytes-same a b (same_front prefix prefix (text_bytes a) (text_bytes b) refl is).1

has_prefix : (p y : List ℕ) → starts_with nat_eq (p ++ y) p ≡ true
has_prefix p y = (bytes_eq-Decides p (take (length p) (p ++ y))).1 (sym (take_at p y (length p) refl))

-- the rows are those of the table at their keys
abbrev AllHeld : Rows → List (List ℕ × Row) → Type 0
AllHeld table [] = Unit {0}
AllHeld table (e ∷ es) = (get table e.0 ≡ Some e.1) × AllHeld table es

-- pairs that are rows of a table, in the order of their stored keys
pub record Rest (prefix : List ℕ) (table : Rows) (es : Entries) : Type 0 where
  pub rows : List (List ℕ × Row)
  pub can : AllAre (λ e. IsText e.0 × AreTexts e.1) rows
  pub spelled : es ≡ spelled_rows prefix text_bytes list_bytes rows
  pub held : AllHeld table rows

-- one row more in front
more : {prefix : List ℕ} {table : Rows} {space : Space} (e : List ℕ × List ℕ) (es : Entries) →
    IsTableOf prefix table space →
    get space e.0 ≡ Some e.1 → starts_with nat_eq e.0 prefix ≡ true → Rest prefix table es → Rest prefix table (e ∷ es)
more {prefix} {table} {space} e es is there has r =
    let rest = drop (length prefix) e.0 in
    let begins : e.0 ≡ prefix ++ rest = prefixed prefix e.0 has in
    let key = is.keys rest e.1 (ap (get space) (sym begins) ∙ there) in
    let name_is : e.0 ≡ prefix ++ text_bytes key.0 = begins ∙ ap (λ k. prefix ++ k) key.1 in
    let held = some_row list_bytes (get table key.0) e.1 (sym (is.lookups key.0) ∙ ap (get space) (sym name_is)
    ∙ there) in
    record {
      rows = (key.0, held.0) ∷ r.rows;
      can = (is.texts key.0 held.0 held.1, r.can);
      spelled = λ i. (name_is i, held.2 i) ∷ r.spelled i;
      held = (held.1, r.held);
    }

none_left : (prefix : List ℕ) (table : Rows) → Rest prefix table []
none_left prefix table = record { rows = []; can = tt; spelled = refl; held = tt }

rest_of : (prefix at : List ℕ) (table : Rows) (space : Space) (es : Entries) → IsTableOf prefix table space →
    after at (entries space) ≡ es →
    Rest prefix table (ranged prefix es)
rest_of prefix at table space [] is next = none_left prefix table
rest_of prefix at table space (e ∷ es) is next =
    let step = after-next at (entries space) e es (entries_sorted space) next in
    let rest = rest_of prefix e.0 table space es is step.1 in
    elim (starts_with nat_eq e.0 prefix) as (λ b. starts_with nat_eq e.0 prefix ≡ b → Rest prefix table
    (cond b (e ∷ ranged prefix es) [])) [
      | true ↦ λ has. more e (ranged prefix es) is (get-entries space e.0 ∙ step.0) has rest
      | false ↦ λ lacks. none_left prefix table
    ] refl

pub rest_after : (prefix : List ℕ) (table : Rows) (space : Space) → IsTableOf prefix table space → Rest prefix table
    (ranged prefix (after prefix (entries space)))
rest_after prefix table space is = rest_of prefix prefix table space (after prefix (entries space)) is refl

-- stored keys tie where the keys do
same_test : (prefix key d : List ℕ) →
    is_eq (key_cmp (prefix ++ text_bytes key) (prefix ++ text_bytes d)) ≡ is_eq (key_cmp key d)
same_test prefix key d = both_ways _ _
    (λ one. subst (λ k. is_eq (key_cmp key k) ≡ true) (text_key prefix key d (same_keys _ _ (equal_of _ one)))
    (tied key))
    (λ one. subst (λ k. is_eq (key_cmp (prefix ++ text_bytes key) (prefix ++ text_bytes k)) ≡ true)
    (same_keys key d (equal_of _ one)) (tied (prefix ++ text_bytes key)))

-- what is found among stored rows
find-spelled : (prefix key : List ℕ) (rows : List (List ℕ × Row)) → find key_cmp (prefix ++ text_bytes key)
    (spelled_rows prefix text_bytes list_bytes rows) ≡ option_map list_bytes (find key_cmp key rows)
find-spelled prefix key [] = refl
find-spelled prefix key (d ∷ ds) =
    let others = find key_cmp (prefix ++ text_bytes key) (spelled_rows prefix text_bytes list_bytes ds) in
    ap (λ b. cond b (Some (list_bytes d.1)) others) (same_test prefix key d.0)
    ∙ ap (cond (is_eq (key_cmp key d.0)) (Some (list_bytes d.1))) (find-spelled prefix key ds)
    ∙ pick (is_eq (key_cmp key d.0)) (find key_cmp key ds)
  where
    pick : (b : Bool) (o : Option Row) →
        cond b (Some (list_bytes d.1)) (option_map list_bytes o) ≡ option_map list_bytes
        (cond b (Some d.1) o)
    pick true o = refl
    pick false o = refl

-- no two rows have one key
alone_of : (prefix : List ℕ) (rows : List (List ℕ × Row)) →
    T (is_sorted key_cmp (spelled_rows prefix text_bytes list_bytes rows)) → AreAlone rows
alone_of prefix [] sorted x = omega arith
alone_of prefix (d ∷ ds) sorted x =
    elim (is_eq (key_cmp x.0 d.0)) as (λ b. is_eq (key_cmp x.0 d.0) ≡ b →
    length (filter (ties row_before x) (d ∷ ds)) ≤ 1) [
      | true ↦
          λ one. alone_more x d ds (none_tied x ds (ap (λ k. find key_cmp k ds) (same_keys x.0 d.0 (equal_of _ one))
          ∙ not_some list_bytes (find key_cmp d.0 ds) (sym (find-spelled prefix d.0 ds)
          ∙ find_none (prefix ++ text_bytes d.0) (prefix ++ text_bytes d.0)
          (spelled_rows prefix text_bytes list_bytes ds) (λ g less. less) (front_of _ _ sorted))))
      | false ↦ λ other. alone_past x d ds other (alone_of prefix ds (back_of _ _ sorted) x)
    ] refl

find_held : (table : Rows) (key : List ℕ) (row : Row) (rows : List (List ℕ × Row)) → AllHeld table rows →
    find key_cmp key rows ≡ Some row → get table key ≡ Some row
find_held table key row [] held is = absurd cc
find_held table key row (d ∷ ds) held is =
    elim (is_eq (key_cmp key d.0)) as (λ b. is_eq (key_cmp key d.0) ≡ b → cond b (Some d.1) (find key_cmp key ds)
    ≡ Some row → get table key ≡ Some row) [
      | true ↦ λ one found. ap (get table) (same_keys key d.0 (equal_of _ one)) ∙ held.0 ∙ found
      | false ↦ λ other found. find_held table key row ds held.1 found
    ] refl is

-- a row is found where the table has it
found_rows : (prefix : List ℕ) (table : Rows) (space : Space) → (is : IsTableOf prefix table space) → (key : List ℕ) →
    find key_cmp key (rest_after prefix table space is).rows ≡ get table key
found_rows prefix table space is key =
    let r = rest_after prefix table space is in
    let all = after prefix (entries space) in
    let rising = after_sorted prefix (entries space) (entries_sorted space) in
    let q = prefix ++ text_bytes key in
    let less = behind prefix (text_bytes key) (omega (arith, length-text_bytes key)) in
    let ahead = subst (λ p. T (below_all key_cmp p all)) (sym (append-nil prefix))
    (after_below prefix (entries space) (entries_sorted space)) in
    let stored : option_map list_bytes (get table key) ≡ option_map list_bytes (find key_cmp key r.rows) =
    sym (is.lookups key) ∙ get-entries space q ∙ sym (find-after q prefix (entries space) less)
    ∙ sym (find-ranged prefix [] q all rising ahead (has_prefix prefix (text_bytes key)))
    ∙ ap (find key_cmp q) r.spelled ∙ find-spelled prefix key r.rows in
    elim (find key_cmp key r.rows) as (λ o. find key_cmp key r.rows ≡ o → o ≡ get table key) [
      | None ↦ λ none. sym (not_some list_bytes (get table key) (stored ∙ ap (option_map list_bytes) none))
      | Some row ↦ λ some. sym (find_held table key row r.rows r.held some)
    ] refl

-- the rows that are scanned, by their keys, are those of the table
pub all_arranged : (prefix : List ℕ) (table : Rows) (space : Space) → (is : IsTableOf prefix table space) →
    (listed : List (List ℕ × Row)) → AreArranged (rest_after prefix table space is).rows listed → listed ≡ entries table
all_arranged prefix table space is listed order =
    let r = rest_after prefix table space is in
    let rising = sorted_ranged prefix (after prefix (entries space))
    (after_sorted prefix (entries space) (entries_sorted space)) in
    arranged r.rows listed table order
    (alone_of prefix r.rows (subst (λ (es : Entries). T (is_sorted key_cmp es)) r.spelled rising))
    (found_rows prefix table space is)
