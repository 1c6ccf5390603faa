use Rattle.std.proofs.Common.{◌∙◌, Option, Some, ap, [], ◌∷◌}
use Rattle.std.proofs.lemmas.Result.{err_from_is_err_and}
use Rattle.std.specs.Option.{option_map}
use Rattle.slon_base.specs.Keeper.{Store, put_at}
use Rattle.app_store.proofs.Pending.{exit_as}
use Rattle.node_store.specs.Acting.{KeepsNode}
use Rattle.node_store.proofs.Lookups.{pending_seen}
use Rattle.node_store.proofs.writing.keep_node.Goals as goal

pub returns-in_err-node-clause-keeps : goal.returns-in_err-node-clause-keeps
returns-in_err-node-clause-keeps g c n m store is has =
    exit_as (λ r. KeepsNode n store c.args.stamp.now r (g.K.Keeper.kept c.find_node.new.keeper)) c.from_residual.result
    (err_from_is_err_and c.from_residual.result c.from_residual.ensures.1)
    (c.in_err-node.ensures.says store (Some n)
    (pending_seen (g.K.Keeper.kept c.args.keeper.now) is) has.held has.identity)

pub returns-clause-keeps : goal.returns-clause-keeps
returns-clause-keeps g c n m store is has = (
  c.in_ok-put_pair.ensures.put
      ∙ ap (λ (q : Option (Option Store)). option_map (option_map (put_at 1 (1 ∷ []) c.args.stamp.now)) q)
      (c.in_ok-node.ensures.same ∙ is),
  c.in_ok-node.ensures.says store (Some n) (pending_seen (g.K.Keeper.kept c.args.keeper.now) is) has.held has.identity,
)
