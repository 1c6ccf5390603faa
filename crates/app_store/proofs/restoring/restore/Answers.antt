use Rattle.std.proofs.Common.{◌∙◌, inl, inr}
use Rattle.std.proofs.lemmas.Result.{err_from_is_err_and}
use Rattle.app_store.specs.Restored.{RestoresTo}
use Rattle.app_store.proofs.Pending.{sight-idle, exit_as}
use Rattle.app_store.proofs.restoring.restore.Goals as goal

pub returns-in_err-stamp-clause-restores : goal.returns-in_err-stamp-clause-restores
returns-in_err-stamp-clause-restores g c m node stamp xids numbers held are =
    exit_as (λ r. RestoresTo m node stamp xids numbers r (g.K.Keeper.kept c.recover.new.keeper))
    c.from_residual-in_err-stamp.result
    (err_from_is_err_and c.from_residual-in_err-stamp.result c.from_residual-in_err-stamp.ensures.1)
    (c.in_err-stamp.ensures.recovers m stamp xids numbers (c.in_ok-node.ensures.safe.held ∙ held) are.stamp_small
    are.xids_small are.numbers_small are.numbers_are)

pub returns-clause-restores : goal.returns-clause-restores
returns-clause-restores g c m node stamp xids numbers held are = (
  c.in_ok-stamp.ensures.recovers m stamp xids numbers (c.in_ok-node.ensures.safe.held ∙ held) are.stamp_small
      are.xids_small are.numbers_small are.numbers_are,
  c.in_ok-node.ensures.says m node (sight-idle (g.K.Keeper.kept c.args.keeper.now) c.requires ∙ held) are.node_held
      are.node_named,
)

pub returns-clause-form : goal.returns-clause-form
returns-clause-form g c m held space handed =
    elim handed [
      | inl node ↦
          c.in_ok-node.ensures.form m (sight-idle (g.K.Keeper.kept c.args.keeper.now) c.requires ∙ held) space node
      | inr lacks ↦ c.in_ok-stamp.ensures.form m (c.in_ok-node.ensures.safe.held ∙ held) space lacks
    ]
