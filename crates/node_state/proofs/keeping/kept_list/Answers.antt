use Rattle.std.proofs.Common.{◌∙◌, ◌++◌, ◌∷◌, [], ap, arith}
use Rattle.node_state.proofs.Views.{listed_on}
use Rattle.node_state.proofs.keeping.kept_list.Goals as goal

pub loop-set-preserved : goal.loop-set-preserved
loop-set-preserved c =
    let kept = c.loop-set.kept in
    let e = c.loop-set-item.result in
    record {
      lists = listed_on c.args.views.now c.loop-set.set-index e kept c.push.new.self (omega arith, c.loop-set-item.is)
          (c.in_ok-push.ensures.ok ∙ ap (λ t. kept ++ (e.0, e.1.era, t) ∷ []) c.in_ok-print.ensures)
          ∙ c.loop-set.invariant.lists;
    }
