-- What a node reads to know which event comes next, and the names of the tables of a set.
use Rattle.std.proofs.Common.{◌≡◌, ℕ, List, [], ◌∷◌, map, filter, refl, ap}
use Rattle.std.specs.Prelude.{◌==◌, ◌||◌}
use Rattle.std.specs.List.{list_any}
use Rattle.slon_base.specs.Keeper.{Store}
use Rattle.node_rows.specs.declared.rows.TableRow.{TableRow}
use Rattle.node_rows.specs.Spellings.{table_bytes, CanTable}
use Rattle.slon_model.specs.Config.{Config, is_table_of}
use Rattle.event_store.specs.declared.view.View.{View}
use Rattle.set_config.specs.Holds.{HoldsConfig}
use Rattle.node_state.specs.Held.{IsOrderly, seen_views}
use Rattle.node_state.proofs.Listing.{HoldsMap}

-- whether a view is one of this origin, before it is seen and then
pub any_seen : (origin : ℕ) (rows : List (ℕ × View)) →
    list_any (λ v. v.1.origin == origin) rows ≡ list_any (λ v. v.1.origin == origin) (seen_views rows)
any_seen origin [] = refl
any_seen origin (r ∷ rs) = ap (λ b. (r.1.origin == origin) || b) (any_seen origin rs)

-- the rows of the tables are in the store
pub tables_held : {c : Config} {m : Store} → HoldsConfig c m → IsOrderly c →
    HoldsMap table_bytes CanTable c.tables (m 7)
tables_held held orderly = record { ordered = orderly.tables; holds = held.tables }

-- the names of the tables of a set among these rows
abbrev pub names_in : ℕ → List (ℕ × TableRow) → List (List ℕ)
names_in set rows = map (λ e. e.1.name) (filter (is_table_of set) rows)
