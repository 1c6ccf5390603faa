use Rattle.std.proofs.Common.{◌∙◌, cond, ap, sym}
use Rattle.std.proofs.lemmas.Result.{IfOk-weaker}
use Rattle.txn_core.specs.Snapshots.{seen_as}
use Rattle.txn_core.proofs.Covering.{covers_is}
use Rattle.remote_worker.proofs.keeping.later_of.Goals as goal

pub returns-then-covers : goal.returns-then-covers
returns-then-covers c =
    let a = seen_as c.args.kept.now in
    let b = seen_as c.args.taken.now in
    IfOk-weaker c.copy.result _ _ (λ s is.
    is ∙ ap (λ t. cond t a b) (sym c.if-covers.true ∙ covers_is a b c.covers.result c.covers.ensures)) c.copy.ensures

pub returns : goal.returns
returns c =
    let a = seen_as c.args.kept.now in
    let b = seen_as c.args.taken.now in
    IfOk-weaker c.copy-2.result _ _ (λ s is.
    is ∙ ap (λ t. cond t a b) (sym c.if-covers.false ∙ covers_is a b c.covers.result c.covers.ensures)) c.copy-2.ensures
