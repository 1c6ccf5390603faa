use Rattle.std.proofs.Common.{◌∙◌, sym}
use Rattle.node_store.proofs.Sifting.{none_added, one_added}
use Rattle.remote_worker.proofs.Together.{both_done, can_copied}
use Rattle.remote_worker.proofs.sharing.copy_on.Goals as goal

pub returns-then-is_on_one-clause-can : goal.returns-then-is_on_one-clause-can
returns-then-is_on_one-clause-can c all =
    both_done c.add_copy.result (λ rows actions.
    can_copied (c.args.number, c.args.row.now) c.args.action.now c.requires.can rows actions all)
    c.add_copy.ensures.rows c.add_copy.ensures.actions

pub returns-then-is_on_one-clause-adds : goal.returns-then-is_on_one-clause-adds
returns-then-is_on_one-clause-adds c l row action =
    both_done c.add_copy.result (λ rows actions.
    one_added c.args.tables.now l (record { row_is = row; action_is = action })
    (sym c.is_on_one.ensures ∙ c.if-is_on_one.true) rows actions) c.add_copy.ensures.rows c.add_copy.ensures.actions

pub returns-else-is_on_one-clause-adds : goal.returns-else-is_on_one-clause-adds
returns-else-is_on_one-clause-adds c l row action =
    none_added c.args.tables.now l c.args.part.now (record { row_is = row; action_is = action })
    (sym c.is_on_one.ensures ∙ c.if-is_on_one.false)
