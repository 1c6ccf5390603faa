use Rattle.std.proofs.lemmas.Result.{err_from_is_err_and}
use Rattle.std.specs.FinMap.{entries}
use Rattle.slon_base.specs.Keeper.{put_at}
use Rattle.app_store.specs.Spelled.{write_all, with_logs}
use Rattle.app_store.specs.Steps.{Transacts}
use Rattle.app_store.proofs.Pending.{begun, changed, ended, not_begun, not_changed, exit_as}
use Rattle.app_store.proofs.transact.transact_rows.Goals as goal

pub returns-in_err-begin : goal.returns-in_err-begin
returns-in_err-begin g c =
    exit_as (Transacts (λ m. put_at c.args.last.now.space c.args.last.now.key.now c.args.last.now.value.now
    (with_logs c.args.node.now.identity c.args.logs.now (write_all (entries c.args.rows.now) m)))
    (g.K.Keeper.kept c.args.keeper.now) (g.K.Keeper.kept c.begin.new.keeper))
    c.from_residual.result (err_from_is_err_and c.from_residual.result c.from_residual.ensures.1)
    (not_begun c.in_err-begin.ensures)

pub returns-in_err-write_rows : goal.returns-in_err-write_rows
returns-in_err-write_rows g c =
    let w = c.in_err-write_rows.ensures in
    exit_as (Transacts (λ m. put_at c.args.last.now.space c.args.last.now.key.now c.args.last.now.value.now
    (with_logs c.args.node.now.identity c.args.logs.now (write_all (entries c.args.rows.now) m)))
    (g.K.Keeper.kept c.args.keeper.now) (g.K.Keeper.kept c.write_rows.new.keeper))
    c.from_residual-in_err-write_rows.result
    (err_from_is_err_and c.from_residual-in_err-write_rows.result c.from_residual-in_err-write_rows.ensures.1)
    (not_changed (begun c.in_ok-begin.ensures) w.safe w.only)

pub returns-in_err-write_logs : goal.returns-in_err-write_logs
returns-in_err-write_logs g c =
    let w = c.in_ok-write_rows.ensures in
    let l = c.in_err-write_logs.ensures in
    exit_as (Transacts (λ m. put_at c.args.last.now.space c.args.last.now.key.now c.args.last.now.value.now
    (with_logs c.args.node.now.identity c.args.logs.now (write_all (entries c.args.rows.now) m)))
    (g.K.Keeper.kept c.args.keeper.now) (g.K.Keeper.kept c.write_logs.new.keeper))
    c.from_residual-in_err-write_logs.result
    (err_from_is_err_and c.from_residual-in_err-write_logs.result c.from_residual-in_err-write_logs.ensures.1)
    (not_changed (changed _ (begun c.in_ok-begin.ensures) w.safe w.put) l.safe l.only)

pub returns-in_err-put_pair : goal.returns-in_err-put_pair
returns-in_err-put_pair g c =
    let w = c.in_ok-write_rows.ensures in
    let l = c.in_ok-write_logs.ensures in
    let p = c.in_err-put_pair.ensures in
    exit_as (Transacts (λ m. put_at c.args.last.now.space c.args.last.now.key.now c.args.last.now.value.now
    (with_logs c.args.node.now.identity c.args.logs.now (write_all (entries c.args.rows.now) m)))
    (g.K.Keeper.kept c.args.keeper.now) (g.K.Keeper.kept c.put_pair.new.keeper))
    c.from_residual-in_err-put_pair.result
    (err_from_is_err_and c.from_residual-in_err-put_pair.result c.from_residual-in_err-put_pair.ensures.1)
    (not_changed (changed _ (changed _ (begun c.in_ok-begin.ensures) w.safe w.put) l.safe l.put) p.safe p.only)

pub returns : goal.returns
returns g c =
    let w = c.in_ok-write_rows.ensures in
    let l = c.in_ok-write_logs.ensures in
    let p = c.in_ok-put_pair.ensures in
    ended c.finish.result
    (changed _ (changed _ (changed _ (begun c.in_ok-begin.ensures) w.safe w.put) l.safe l.put) p.safe p.put)
    c.finish.ensures.ends
