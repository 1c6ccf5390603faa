use Rattle.std.proofs.lemmas.Result.{err_from_is_err_and}
use Rattle.app_store.specs.Spelled.{put_all}
use Rattle.app_store.specs.Steps.{Transacts}
use Rattle.app_store.proofs.Pending.{begun, changed, ended, not_begun, not_changed, exit_as}
use Rattle.app_store.proofs.transact.transact.Goals as goal

pub returns-in_err-begin : goal.returns-in_err-begin
returns-in_err-begin g c =
    exit_as (Transacts (put_all c.args.puts.now) (g.K.Keeper.kept c.args.keeper.now)
    (g.K.Keeper.kept c.begin.new.keeper))
    c.from_residual.result (err_from_is_err_and c.from_residual.result c.from_residual.ensures.1)
    (not_begun c.in_err-begin.ensures)

pub returns-in_err-put_pairs : goal.returns-in_err-put_pairs
returns-in_err-put_pairs g c =
    let p = c.in_err-put_pairs.ensures in
    exit_as (Transacts (put_all c.args.puts.now) (g.K.Keeper.kept c.args.keeper.now)
    (g.K.Keeper.kept c.put_pairs.new.keeper))
    c.from_residual-in_err-put_pairs.result
    (err_from_is_err_and c.from_residual-in_err-put_pairs.result c.from_residual-in_err-put_pairs.ensures.1)
    (not_changed (begun c.in_ok-begin.ensures) p.safe p.only)

pub returns : goal.returns
returns g c =
    let p = c.in_ok-put_pairs.ensures in
    ended c.finish.result (changed _ (begun c.in_ok-begin.ensures) p.safe p.put) c.finish.ensures.ends
