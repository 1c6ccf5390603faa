use Rattle.std.proofs.Common.{◌∙◌, ap, subst}
use Rattle.std.specs.FinMap.{entries}
use Rattle.slon_base.specs.Keeper.{put_at}
use Rattle.node_state.specs.Known.{log_rows_of}
use Rattle.app_store.specs.Spelled.{with_logs, write_all}
use Rattle.app_store.specs.Steps.{Leaves}
use Rattle.app_store.proofs.work.make_rows.Goals as goal

pub returns-clause-works : goal.returns-clause-works
returns-clause-works g c m held =
    let last = c.new-last.ensures in
    subst (λ f. Leaves f m c.transact_rows.result (g.K.Keeper.kept c.transact_rows.new.keeper))
    (λ i other. put_at (last.space i) (last.key i) ((last.value ∙ c.as_slice-2.ensures ∙ c.in_ok-stamp.ensures) i)
    (with_logs c.args.node.now.identity ((c.as_slice-3.ensures.value ∙ c.in_ok-logs.ensures.rows
    ∙ ap (log_rows_of c.args.node.now.members c.args.transaction.now.xid) c.as_slice.ensures.value) i)
    (write_all (entries c.args.transaction.now.writes) other)))
    (c.transact_rows.ensures.leaves m held)
