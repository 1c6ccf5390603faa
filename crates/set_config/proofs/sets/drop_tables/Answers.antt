use Rattle.std.proofs.Common.{sym, subst, ◌∙◌}
use Rattle.std.proofs.lemmas.Result.{err_from_is_err_and}
use Rattle.store_rows.proofs.Spaces.{becomes, hands_stop, pending_same, sees}
use Rattle.slon_model.specs.Config.{dropped_tables}
use Rattle.set_config.specs.Holds.{Shows}
use Rattle.set_config.specs.Rows.{each, drop_row}
use Rattle.set_config.proofs.Keyed.{id_test, id_range}
use Rattle.set_config.proofs.Ranges.{scanned_rows, row_found}
use Rattle.set_config.proofs.Sweeping.{AreAll, shows_dropped}
use Rattle.set_config.proofs.sets.drop_tables.Goals as goal

pub returns-in_err-rows-clause-turns : goal.returns-in_err-rows-clause-turns
returns-in_err-rows-clause-turns g c base config p =
    let list = scanned_rows (p.store 7) id_range p.has.config.tables in
    hands_stop _ _ c.from_residual.result (err_from_is_err_and c.from_residual.result c.from_residual.ensures.1)
    (c.in_err-rows.ensures.gives p.store list.rows (sees p) list.can list.spelled)

pub returns-clause-turns : goal.returns-clause-turns
returns-clause-turns g c base config p =
    let set = c.args.set in
    let held = p.has.config.tables in
    let list = scanned_rows (p.store 7) id_range held in
    let are : AreAll list.rows config.tables = record {
      can = list.can;
      stand = list.stand;
      all = λ q one. row_found (p.store 7) q id_test id_range held list one;
    } in
    let is = c.as_slice.ensures.value ∙ c.in_ok-rows.ensures.gives p.store list.rows (sees p) list.can list.spelled in
    becomes (Shows base (record config { tables = dropped_tables set config.tables }))
    (each (drop_row set) c.as_slice.result.now) {old = g.K.Keeper.kept c.scan_rows.new.keeper} _
    c.drop_each.result c.drop_each.ensures.put c.drop_each.ensures.only
    (pending_same p c.in_ok-rows.ensures.same)
    (λ m s. subst (λ rows. Shows base (record config { tables = dropped_tables set config.tables })
    (each (drop_row set) rows m)) (sym is) (shows_dropped set list.rows m are s))
