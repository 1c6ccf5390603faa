use Rattle.std.proofs.Common.{◌∙◌, Bool, List, ℕ, filter, subst}
use Rattle.std.proofs.lemmas.Result.{err_from_is_err_and}
use Rattle.slon_model.specs.Deeds.{Logged}
use Rattle.slon_model.specs.Following.{delta, is_on_one}
use Rattle.slon_model.specs.Maps.{ids}
use Rattle.txn_core.specs.Snapshots.{seen_as}
use Rattle.log_switch.specs.Between.{ArePassed, is_between}
use Rattle.set_config.proofs.Holding.{gives_stop}
use Rattle.node_state.specs.Held.{items_of}
use Rattle.change_apply.proofs.Replacing.{gives_as}
use Rattle.node_store.specs.Bringing.{HasLogged}
use Rattle.node_store.specs.Logged as read
use Rattle.node_store.proofs.Delta.{between_written, can_log_rows, delta_found, found_are, logs_from, row_at}
use Rattle.node_store.proofs.Skipping.{below_seen}
use Rattle.node_store.proofs.logged.find_logged.Goals as goal

pub returns-in_err-rows-clause-says : goal.returns-in_err-rows-clause-says
returns-in_err-rows-clause-says g c m logs seen holds written ended =
    gives_stop _ c.from_residual-in_err-rows.result
    (err_from_is_err_and c.from_residual-in_err-rows.result c.from_residual-in_err-rows.ensures.1)
    (c.in_err-rows.ensures.says m (items_of logs) seen holds
    (below_seen c.args.origin c.args.first (seen_as c.args.old.now) logs ended))

pub rows_on-requires : goal.rows_on-requires
rows_on-requires g c = record {
  can = can_log_rows c.in_ok-rows.rows c.in_ok-rows.ensures.numbers c.in_ok-rows.ensures.can;
}

pub returns-clause-says : goal.returns-clause-says
returns-clause-says g c m logs seen holds written ended =
    let tables = c.args.tables.now in
    let old = seen_as c.args.old.now in
    let new = seen_as c.args.new.now in
    let origin = c.args.origin in
    let named = c.as_slice.ensures.value ∙ c.in_ok-wanted.ensures in
    let passed = subst (λ (numbers : List ℕ). ArePassed (is_between numbers old new) origin (items_of logs)
    c.in_ok-rows.rows) named (c.in_ok-rows.ensures.says m (items_of logs) seen holds
    (below_seen origin c.args.first old logs ended)) in
    let test : Logged → Bool = λ l. is_between (ids tables) old new (row_at l) in
    gives_as (read.ArePassed (is_on_one tables) (filter test (logs_from origin logs)))
    (λ found. HasLogged origin (delta origin tables old new logs) found.rows found.actions) c.rows_on.result
    (λ found are. delta_found origin tables old new logs found written are)
    (c.rows_on.ensures.says (filter test (logs_from origin logs)) (between_written origin test logs written)
    (found_are logs written passed))
