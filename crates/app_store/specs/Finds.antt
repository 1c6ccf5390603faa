-- What is found of a table, and which of its rows are not in their form.
use Rattle.std.specs.Prelude.{◌≡◌, ℕ, List, [], ◌∷◌, Option, Some, Result, IfOk}
use Rattle.std.specs.Option.{option_map}
use Rattle.std.specs.FinMap.{get}
use Rattle.slon_base.specs.Keeper.{Store}
use Rattle.slon_base.specs.Codec.{number_bytes}
use Rattle.store_rows.specs.declared.stop.Stop.{Stop}
use Rattle.slon_model.specs.declared.reply.Answer.{Answer}
use Rattle.slon_model.specs.Rows.{Row}
use Rattle.slon_model.specs.Deeds.{Node}
use Rattle.slon_model.specs.Deciding.{status_of}
use Rattle.node_state.specs.Held.{HoldsNode, log_of}
use Rattle.node_state.specs.Handed.{HandedStatus}
use Rattle.app_store.specs.Formed.{IsNumber, Lacks, Reads, HandedList}
use Rattle.app_store.specs.Spelled.{meta, tables, log_status_key, IsSmall}
use Rattle.app_store.specs.Steps.{Says}
use Rattle.app_store.specs.Works.{ListsRows}

-- the number of columns of the table of this spelled name
pub record FindsColumns (table : List ℕ) (m : Store) (result : Result (Option ℕ) Stop) : Type 0 where
  pub says : (columns : Option ℕ) → IsSmall columns → get (m tables) table ≡ option_map number_bytes columns →
      Says columns result
  pub found : IfOk result (λ columns. get (m tables) table ≡ option_map number_bytes columns)
  pub small : IfOk result IsSmall
  pub form : Reads (Lacks tables (IsNumber (get (m tables) table))) result

-- the rows of the table of this name
pub record ListsAll (table : List ℕ) (m : Store) (result : Result (Option (List (List ℕ × Row))) Stop) : Type 0 where
  pub says : ListsRows table m result
  pub form : Reads (HandedList table m) result

-- the status of the node of this id
pub record TellsNode (own : ℕ) (m : Store) (result : Result Answer Stop) : Type 0 where
  pub says : (n : Node) → n.id ≡ own → HoldsNode (Some n) m →
      get (m meta) log_status_key ≡ Some (log_of (Some n) ∷ []) → Says (status_of (Some n)) result
  pub form : Reads (HandedStatus own m) result
