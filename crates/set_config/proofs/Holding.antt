-- A store that shows what is known of the cluster, with one row changed.
use Rattle.std.proofs.Common.{◌≡◌, ℕ, true, false, cond, List, Option, Some, None, refl, sym, ap, subst, ◌∙◌}
use Rattle.std.proofs.Common.{option_map, is_some}
use Rattle.std.specs.Prelude.{◌==◌, Result, Ok, Err}
use Rattle.std.proofs.lemmas.Bool.{false≢true}
use Rattle.std.specs.FinMap.{get}
use Rattle.slon_base.specs.Keeper.{Store, Kept}
use Rattle.slon_base.specs.Codec.{number_bytes, text_bytes, IsText}
use Rattle.store_rows.specs.Rows.{IsId}
use Rattle.store_rows.specs.Space.{IsSpace, IsPending, Becomes, written}
use Rattle.store_rows.specs.Steps.{Gives, IsOutside}
use Rattle.store_rows.specs.declared.stop.Stop.{Stop}
use Rattle.store_rows.proofs.Spaces.{Turns, altered, same_space, pending_as}
use Rattle.node_rows.specs.declared.rows.NodeRow.{NodeRow}
use Rattle.node_rows.specs.declared.rows.SetRow.{SetRow}
use Rattle.node_rows.specs.declared.rows.TableRow.{TableRow}
use Rattle.node_rows.specs.declared.rows.Subscription.{Subscription}
use Rattle.node_rows.specs.Spellings.{node_bytes, CanNode, set_bytes, CanSet, table_bytes, CanTable}
use Rattle.node_rows.specs.Spellings.{subscription_bytes, CanSubscription, fence_bytes, CanFence}
use Rattle.slon_model.specs.Maps.{Map, Map2, entry_at, with_entry, row_at, pair_at, with_pair, without_pair}
use Rattle.slon_model.specs.Config.{Config}
use Rattle.set_config.specs.Holds.{HoldsConfig, Shows, AreIds, pair_key, is_config}
use Rattle.set_config.proofs.Entries.{id_unique, pair_unique, not_eq, alters_one, alters_pair, entry-with}
use Rattle.set_config.proofs.Entries.{entry-without, some_mapped}

-- ---- the entry at one id, or at two, becomes another

abbrev pub IdTurns : {X : Type 0} → (X → Type 0) → Map X → Map X → ℕ → Option X → Type 0
IdTurns Can old new i now = Turns number_bytes IsId Can (λ j. entry_at j old) (λ j. entry_at j new) i now

abbrev pub PairTurns : {X : Type 0} → (X → Type 0) → Map2 X → Map2 X → ℕ × ℕ → Option X → Type 0
PairTurns Can old new i now = Turns pair_key AreIds Can (λ j. pair_at j.0 j.1 old) (λ j. pair_at j.0 j.1 new) i now

-- an entry is put
pub puts : {X : Type 0} {Can : X → Type 0} (i : ℕ) (x : X) (es : Map X) → IsId i → Can x →
    IdTurns Can es (with_entry i x es) i (Some x)
puts i x es one can = record {
  unique = id_unique;
  one = one;
  can = can;
  alters = alters_one i (Some x) es _ (λ q. entry-with q i x es);
}

pub puts_pair : {X : Type 0} {Can : X → Type 0} (i : ℕ × ℕ) (x : X) (m : Map2 X) → AreIds i → Can x →
    PairTurns Can m (with_pair i.0 i.1 x m) i (Some x)
puts_pair i x m one can = record {
  unique = pair_unique;
  one = one;
  can = can;
  alters = alters_pair i (Some x) _ m (λ q. entry-with q i.1 x (row_at i.0 m));
}

-- an entry is taken away
pub drops_pair : {X : Type 0} {Can : X → Type 0} (i : ℕ × ℕ) (m : Map2 X) → AreIds i →
    PairTurns Can m (without_pair i.0 i.1 m) i None
drops_pair i m one = record {
  unique = pair_unique;
  one = one;
  can = tt;
  alters = alters_pair i None _ m (λ q. entry-without q i.1 (row_at i.0 m));
}

-- ---- a row is put, or taken away

-- what each space holds
whole : {c : Config} {m : Store} → IsSpace number_bytes IsId node_bytes CanNode (λ n. entry_at n c.nodes) (m 4) →
    IsSpace pair_key AreIds text_bytes IsText (λ i. pair_at i.0 i.1 c.paths) (m 5) →
    IsSpace number_bytes IsId set_bytes CanSet (λ s. entry_at s c.sets) (m 6) →
    IsSpace number_bytes IsId table_bytes CanTable (λ t. entry_at t c.tables) (m 7) →
    IsSpace pair_key AreIds subscription_bytes CanSubscription (λ i. pair_at i.0 i.1 c.subscriptions) (m 8) →
    IsSpace number_bytes IsId fence_bytes CanFence (λ n. entry_at n c.fences) (m 14) → HoldsConfig c m
whole nodes paths sets tables subscriptions fences = record {
  nodes = nodes;
  paths = paths;
  sets = sets;
  tables = tables;
  subscriptions = subscriptions;
  fences = fences;
}

-- another value at one key of one space, or none
abbrev pub write_in : ℕ → Option (List ℕ) → List ℕ → Store → Store
write_in space value key m = λ other. cond (other == space) (written value key (m space)) (m other)

elsewhere : (mine : ℕ) (value : Option (List ℕ)) (key : List ℕ) (m : Store) → is_config mine ≡ true →
    (space : ℕ) → is_config space ≡ false → write_in mine value key m space ≡ m space
elsewhere mine value key m is space not_mine =
    ap (λ b. cond b (written value key (m mine)) (m space))
    (not_eq space mine (λ same. false≢true (sym not_mine ∙ ap is_config same ∙ is)))

pub with_nodes : {base : Store} {c : Config} {new : Map NodeRow} {i : ℕ} {now : Option NodeRow}
    (m : Store) → IdTurns CanNode c.nodes new i now → Shows base c m →
    Shows base (record c { nodes = new }) (write_in 4 (option_map node_bytes now) (number_bytes i) m)
with_nodes {i = i} {now = now} m turns s = record {
  config = whole (altered turns s.config.nodes) s.config.paths s.config.sets s.config.tables
      s.config.subscriptions s.config.fences;
  others = λ space other. elsewhere 4 (option_map node_bytes now) (number_bytes i) m refl space other
      ∙ s.others space other;
}

pub with_paths : {base : Store} {c : Config} {new : Map2 (List ℕ)} {i : ℕ × ℕ} {now : Option (List ℕ)}
    (m : Store) → PairTurns IsText c.paths new i now → Shows base c m →
    Shows base (record c { paths = new }) (write_in 5 (option_map text_bytes now) (pair_key i) m)
with_paths {i = i} {now = now} m turns s = record {
  config = whole s.config.nodes (altered turns s.config.paths) s.config.sets s.config.tables
      s.config.subscriptions s.config.fences;
  others = λ space other. elsewhere 5 (option_map text_bytes now) (pair_key i) m refl space other
      ∙ s.others space other;
}

pub with_sets : {base : Store} {c : Config} {new : Map SetRow} {i : ℕ} {now : Option SetRow}
    (m : Store) → IdTurns CanSet c.sets new i now → Shows base c m →
    Shows base (record c { sets = new }) (write_in 6 (option_map set_bytes now) (number_bytes i) m)
with_sets {i = i} {now = now} m turns s = record {
  config = whole s.config.nodes s.config.paths (altered turns s.config.sets) s.config.tables
      s.config.subscriptions s.config.fences;
  others = λ space other. elsewhere 6 (option_map set_bytes now) (number_bytes i) m refl space other
      ∙ s.others space other;
}

pub with_tables : {base : Store} {c : Config} {new : Map TableRow} {i : ℕ} {now : Option TableRow}
    (m : Store) → IdTurns CanTable c.tables new i now → Shows base c m →
    Shows base (record c { tables = new }) (write_in 7 (option_map table_bytes now) (number_bytes i) m)
with_tables {i = i} {now = now} m turns s = record {
  config = whole s.config.nodes s.config.paths s.config.sets (altered turns s.config.tables)
      s.config.subscriptions s.config.fences;
  others = λ space other. elsewhere 7 (option_map table_bytes now) (number_bytes i) m refl space other
      ∙ s.others space other;
}

pub with_subscriptions : {base : Store} {c : Config} {new : Map2 Subscription} {i : ℕ × ℕ} {now : Option Subscription}
    (m : Store) → PairTurns CanSubscription c.subscriptions new i now → Shows base c m →
    Shows base (record c { subscriptions = new }) (write_in 8 (option_map subscription_bytes now) (pair_key i) m)
with_subscriptions {i = i} {now = now} m turns s = record {
  config = whole s.config.nodes s.config.paths s.config.sets s.config.tables
      (altered turns s.config.subscriptions) s.config.fences;
  others = λ space other. elsewhere 8 (option_map subscription_bytes now) (pair_key i) m refl space other
      ∙ s.others space other;
}

-- ---- a map with the same entries

-- the same of what is pending then
pub becomes_as : {T : Type 0} (P Q : Store → Type 0) (new : Kept) (result : Result T Stop) →
    ((m : Store) → P m → Q m) → Becomes P new result → Becomes Q new result
becomes_as P Q new (Ok x) on p = pending_as on p
becomes_as P Q new (Err stop) on p = p

pub same_sets : {base : Store} {c : Config} {m : Store} (new : Map SetRow) →
    ((s : ℕ) → entry_at s new ≡ entry_at s c.sets) → Shows base c m → Shows base (record c { sets = new }) m
same_sets new same s = record {
  config = whole s.config.nodes s.config.paths (same_space s.config.sets (λ i one. same i)) s.config.tables
      s.config.subscriptions s.config.fences;
  others = s.others;
}

pub same_tables : {base : Store} {c : Config} {m : Store} (new : Map TableRow) →
    ((t : ℕ) → IsId t → entry_at t new ≡ entry_at t c.tables) → Shows base c m →
    Shows base (record c { tables = new }) m
same_tables new same s = record {
  config = whole s.config.nodes s.config.paths s.config.sets (same_space s.config.tables same)
      s.config.subscriptions s.config.fences;
  others = s.others;
}

pub same_subscriptions : {base : Store} {c : Config} {m : Store} (new : Map2 Subscription) →
    ((i : ℕ × ℕ) → AreIds i → pair_at i.0 i.1 new ≡ pair_at i.0 i.1 c.subscriptions) → Shows base c m →
    Shows base (record c { subscriptions = new }) m
same_subscriptions new same s = record {
  config = whole s.config.nodes s.config.paths s.config.sets s.config.tables
      (same_space s.config.subscriptions same) s.config.fences;
  others = s.others;
}

-- ---- what is read

-- a stop for the store, or for want of memory, that is passed on
pub gives_stop : {U : Type 0} (P : U → Type 0) {stop : Stop} (result : Result U Stop) →
    (y : Stop) × (result ≡ Err y) × (y ≡ stop) → IsOutside stop → Gives P result
gives_stop P result (y, is, same) outside = subst (Gives P) (sym (is ∙ ap (λ e. Err e) same)) outside

-- whether there is a row of a node
pub heard_of : {base : Store} {c : Config} {k : Kept} (p : IsPending (Shows base c) k) (node : ℕ) → IsId node →
    is_some (get (p.store 4) (number_bytes node)) ≡ is_some (entry_at node c.nodes)
heard_of {c = c} p node one =
    ap is_some (p.has.config.nodes.lookups node one) ∙ some_mapped node_bytes (entry_at node c.nodes)
