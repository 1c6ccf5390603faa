use Rattle.std.proofs.Common.{◌∙◌}
use Rattle.std.proofs.lemmas.Result.{err_from_is_err_and}
use Rattle.store_rows.proofs.Spaces.{hands_stop, pending_same, sees}
use Rattle.change_apply.specs.Applied.{HoldsRows}
use Rattle.change_apply.specs.Copied.{with_table, played, turns}
use Rattle.change_apply.specs.declared.copying.Turn.TheVariants.{Take, Give}
use Rattle.change_apply.proofs.Replacing.{replaced, becomes_as, stays_as}
use Rattle.change_apply.proofs.copying.replace_table.Goals as goal

pub returns-in_err-turn_rows-clause-replaces : goal.returns-in_err-turn_rows-clause-replaces
returns-in_err-turn_rows-clause-replaces g c tables given are p =
    let result = c.from_residual-in_err-turn_rows.result in
    hands_stop _ _ result (err_from_is_err_and result c.from_residual-in_err-turn_rows.ensures.1)
    (c.in_err-turn_rows.ensures.turns tables (pending_same p c.in_ok-old.ensures.same))

pub returns-clause-others : goal.returns-clause-others
returns-clause-others g c m is =
    let taken = c.in_ok-turn_rows.ensures.others m (c.in_ok-old.ensures.same ∙ is) in
    stays_as m taken.store (g.K.Keeper.kept c.turn_rows-2.new.keeper) c.turn_rows-2.result taken.has
    (c.turn_rows-2.ensures.others taken.store taken.is)

pub returns-clause-replaces : goal.returns-clause-replaces
returns-clause-replaces g c tables given are p =
    let table = c.args.table.now in
    let old = c.in_ok-old.old in
    let rows = c.args.rows in
    let was = c.in_ok-old.ensures.says p.store tables (sees p) p.has in
    let taken = c.in_ok-turn_rows.ensures.turns tables (pending_same p c.in_ok-old.ensures.same) in
    becomes_as (HoldsRows (played table (turns Give rows) (played table (turns Take old) tables)))
    (HoldsRows (with_table table given tables)) (g.K.Keeper.kept c.turn_rows-2.new.keeper) c.turn_rows-2.result
    (λ m held. replaced table old rows tables given m (was, are) held)
    (c.turn_rows-2.ensures.turns (played table (turns Take old) tables) taken)
