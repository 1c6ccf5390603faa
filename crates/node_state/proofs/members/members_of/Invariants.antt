use Rattle.std.proofs.Common.{◌≡◌, ℕ, List, drop, is_some}
use Rattle.std.specs.Prelude.{◌||◌}
use Rattle.std.specs.Option.{option_or}
use Rattle.std.specs.FinMap.{get}
use Rattle.node_state.specs.Known.{is_used}
use Rattle.node_state.specs.Members.{config_of, member_in}
use Rattle.node_state.proofs.members.members_of.Given as goal

abbrev pub invariant-loop-table : goal.invariant-loop-table
invariant-loop-table l =
    let rest = config_of l.sets (drop l.table-index l.tables) in
    let all = config_of l.sets l.tables in
    record {
      live : (name : List ℕ) → option_or (get l.live name) (member_in l.own rest name) ≡ member_in l.own all name;
      names : (name : List ℕ) → (is_some (get l.names name) || is_used name rest) ≡ is_used name all;
    }
