use Rattle.std.proofs.Common.{rules, tests}
use Rattle.std.proofs.lemmas.Iterator.{YieldsList-from_slice}
use Rattle.std.proofs.lemmas.Iterator.Search.{any_from_yields_List}
use Rattle.slonik_exec.specs.Turning.{is_this}
use Rattle.slonik_exec.proofs.Downs.{has_node_by}
use Rattle.slonik_exec.proofs.knowing.has_node.Goals as goal

pub returns : goal.returns
returns g c =
    let databases = c.args.databases.now in
    has_node_by g.K.Keeper.kept c.args.node databases c.any.result
    (any_from_yields_List (is_this c.args.node) _ _ c.any.result c.any.ensures.ran
    (YieldsList-from_slice databases cc) (λ x b q k. search (rules, tests)))
