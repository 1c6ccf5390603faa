-- The rows of all spaces of a configuration.
use Rattle.std.proofs.Common.{◌≡◌, ℕ, Bool, T, List, [], ◌∷◌, Option, sym, subst}
use Rattle.std.specs.Prelude.{Result, Ok, Err}
use Rattle.std.specs.declared.cmp.Ordering.TheVariants.{Less}
use Rattle.std.specs.FinMap.Entries.{is_sorted, below_all}
use Rattle.slon_base.specs.Codec.{AllAre}
use Rattle.slon_base.specs.Keeper.{Space, Store, key_cmp}
use Rattle.slon_base.proofs.Order.{less_of, front_of, back_of}
use Rattle.store_rows.specs.Scan.{spelled_rows}
use Rattle.store_rows.specs.Space.{IsSpace}
use Rattle.store_rows.specs.Steps.{Gives}
use Rattle.store_rows.specs.declared.stop.Stop.{Stop}
use Rattle.slon_model.specs.Config.{Config}
use Rattle.set_config.specs.Holds.{HoldsConfig}
use Rattle.set_config.specs.Loaded.{Ascend, Lists, IsLoaded, AreRows}
use Rattle.set_config.specs.Loaded.{AreAllRows}
use Rattle.set_config.specs.declared.loading.Config.{Config as Loaded}
use Rattle.set_config.proofs.Keyed.{id_test, id_range, pair_test, pair_range}
use Rattle.set_config.proofs.Ordering.{id_before, pair_before}
use Rattle.set_config.proofs.Ranges.{IsTest, IsRange, are_map, scanned_rows, row_found, sorted_in}

-- ---- rows ascend as their keys do

-- ids are in the order of their keys
abbrev Orders : {I : Type 0} → (I → List ℕ) → (I → Type 0) → (I → I → Type 0) → Type 0
Orders {I} key IsOne IsBefore = (a b : I) → IsOne a → IsOne b → key_cmp (key a) (key b) ≡ Less → IsBefore a b

before_all : {I X : Type 0} (key : I → List ℕ) {IsOne : I → Type 0} {IsBefore : I → I → Type 0} (value : X → List ℕ)
    (i : I) (rows : List (I × X)) → Orders key IsOne IsBefore → IsOne i → AllAre (λ e. IsOne e.0) rows →
    T (below_all key_cmp (key i) (spelled_rows [] key value rows)) → AllAre (λ e. IsBefore i e.0) rows
before_all key value i [] orders one ones below = tt
before_all key value i (e ∷ es) orders one ones below = (
  orders i e.0 one ones.0 (less_of _ (front_of _ _ below)),
  before_all key value i es orders one ones.1 (back_of _ _ below),
)

rows_ascend : {I X : Type 0} (key : I → List ℕ) {IsOne : I → Type 0} {IsBefore : I → I → Type 0} (value : X → List ℕ)
    (rows : List (I × X)) → Orders key IsOne IsBefore → AllAre (λ e. IsOne e.0) rows →
    T (is_sorted key_cmp (spelled_rows [] key value rows)) → Ascend IsBefore rows
rows_ascend key value [] orders ones sorted = tt
rows_ascend key value (e ∷ es) orders ones sorted = (
  before_all key value e.0 es orders ones.0 ones.1 (front_of _ _ sorted),
  rows_ascend key value es orders ones.1 (back_of _ _ sorted),
)

-- ---- one space

-- the rows of a space, and that they list what stands there
record Read {I X : Type 0} (key : I → List ℕ) (IsOne : I → Type 0) (value : X → List ℕ) (Can : X → Type 0)
    (entry : I → Option X) (same : I → I → Bool) (IsBefore : I → I → Type 0) (space : Space) : Type 0 where
  rows : List (I × X)
  are : AreRows key IsOne value Can space rows
  lists : Lists same IsBefore IsOne entry rows

read_of : {I X : Type 0} {key : I → List ℕ} {IsOne : I → Type 0} {value : X → List ℕ} {Can : X → Type 0}
    {entry : I → Option X} {same : I → I → Bool} {IsBefore : I → I → Type 0} (space : Space) → IsTest same →
    IsRange key IsOne [] key IsOne (λ i. i) → Orders key IsOne IsBefore → IsSpace key IsOne value Can entry space →
    Read key IsOne value Can entry same IsBefore space
read_of {key = key} {value = value} space test range orders is =
    let r = scanned_rows space range is in
    let ones = are_map r.rows (λ e can. can.0) r.can in
    record {
      rows = r.rows;
      are = record { can = r.can; spelled = r.spelled };
      lists = record {
        looks = λ i one. row_found space i test range is r one;
        ones = ones;
        ascend = rows_ascend key value r.rows orders ones
            (subst (λ es. T (is_sorted key_cmp es)) r.spelled (sorted_in [] space));
      };
    }

-- ---- all six

-- what a store that holds a configuration has in the spaces of it
pub record HasRows (c : Config) (m : Store) : Type 0 where
  pub rows : Loaded
  pub are : AreAllRows m rows
  pub lists : IsLoaded c rows

pub has_rows : (c : Config) (m : Store) → HoldsConfig c m → HasRows c m
has_rows c m held =
    let nodes = read_of (m 4) id_test id_range id_before held.nodes in
    let paths = read_of (m 5) pair_test pair_range pair_before held.paths in
    let sets = read_of (m 6) id_test id_range id_before held.sets in
    let tables = read_of (m 7) id_test id_range id_before held.tables in
    let subscriptions = read_of (m 8) pair_test pair_range pair_before held.subscriptions in
    let fences = read_of (m 14) id_test id_range id_before held.fences in
    record {
      rows = record {
        nodes = nodes.rows;
        paths = paths.rows;
        sets = sets.rows;
        tables = tables.rows;
        subscriptions = subscriptions.rows;
        fences = fences.rows;
      };
      are = record {
        nodes = nodes.are;
        paths = paths.are;
        sets = sets.are;
        tables = tables.are;
        subscriptions = subscriptions.are;
        fences = fences.are;
      };
      lists = record {
        nodes = nodes.lists;
        paths = paths.lists;
        sets = sets.lists;
        tables = tables.lists;
        subscriptions = subscriptions.lists;
        fences = fences.lists;
      };
    }

-- what is answered has a property of these rows
pub gives_rows : {T : Type 0} (P : T → Type 0) (rows : T) (result : Result T Stop) → P rows →
    Gives (λ found. found ≡ rows) result → Gives P result
gives_rows P rows (Ok found) has is = subst P (sym is) has
gives_rows P rows (Err stop) has is = is
