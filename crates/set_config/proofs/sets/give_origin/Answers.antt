use Rattle.std.proofs.Common.{sym, ◌∙◌}
use Rattle.std.proofs.lemmas.Result.{err_from_is_err_and}
use Rattle.store_rows.proofs.Spaces.{hands_stop, pending_as, pending_same}
use Rattle.node_rows.specs.declared.rows.SetRow.{SetRow}
use Rattle.slon_model.specs.Config.{changed_set}
use Rattle.slon_model.specs.Maps.{with_entry}
use Rattle.set_config.specs.Holds.{Shows}
use Rattle.set_config.proofs.Changed.{shows_unchanged, shows_changed}
use Rattle.set_config.proofs.Holding.{becomes_as}
use Rattle.set_config.proofs.sets.give_origin.Goals as goal

pub returns-in_err-find_set-clause-turns : goal.returns-in_err-find_set-clause-turns
returns-in_err-find_set-clause-turns g c base config p =
    hands_stop _ _ c.from_residual.result (err_from_is_err_and c.from_residual.result c.from_residual.ensures.1)
    (c.in_err-find_set.ensures.gives base config p)

pub returns-in-None-clause-turns : goal.returns-in-None-clause-turns
returns-in-None-clause-turns g c base config p =
    let found = c.in_ok-find_set.ensures.gives base config p in
    pending_as
    (shows_unchanged config c.args.set (λ row. record row { origin = c.args.origin; era = c.args.era })
    (sym c.in-None.is ∙ found))
    (pending_same p c.in_ok-find_set.ensures.same)

pub returns-in-Some-clause-turns : goal.returns-in-Some-clause-turns
returns-in-Some-clause-turns g c base config p =
    let change : SetRow → SetRow = λ row. record row { origin = c.args.origin; era = c.args.era } in
    let row = c.in-Some.row in
    let found = c.in_ok-find_set.ensures.gives base config p in
    becomes_as (Shows base (record config { sets = with_entry c.args.set (change row) config.sets }))
    (Shows base (changed_set c.args.set change config)) _ c.put_set.result
    (shows_changed config c.args.set change row (sym c.in-Some.is ∙ found))
    (c.put_set.ensures.turns base config (pending_same p c.in_ok-find_set.ensures.same))
