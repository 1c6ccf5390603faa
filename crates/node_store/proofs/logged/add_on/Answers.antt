use Rattle.std.proofs.Common.{◌∙◌, sym}
use Rattle.node_store.proofs.Sifting.{can_added, none_added, one_added}
use Rattle.node_store.proofs.logged.add_on.Goals as goal

pub returns-in_ok-add-clause-can : goal.returns-in_ok-add-clause-can
returns-in_ok-add-clause-can c all =
    can_added c.in_ok-action.action c.requires.can c.in_ok-action.ensures.found
    c.in_ok-add.ensures.rows c.in_ok-add.ensures.actions
    all

pub returns-in_ok-add-clause-says : goal.returns-in_ok-add-clause-says
returns-in_ok-add-clause-says c l written is =
    one_added c.args.tables.now l (record { row_is = is; action_is = c.in_ok-action.ensures.says l written is })
    (sym c.is_on_one.ensures ∙ c.if-is_on_one.true) c.in_ok-add.ensures.rows c.in_ok-add.ensures.actions

pub returns-else-is_on_one-clause-says : goal.returns-else-is_on_one-clause-says
returns-else-is_on_one-clause-says c l written is =
    none_added c.args.tables.now l c.args.found.now
    (record { row_is = is; action_is = c.in_ok-action.ensures.says l written is })
    (sym c.is_on_one.ensures ∙ c.if-is_on_one.false)
