use Rattle.std.proofs.Common.{◌∙◌, sym}
use Rattle.remote_listener.proofs.Delivers.{none_kept, all_heard}
use Rattle.remote_listener.proofs.listener.keep.Goals as goal

pub returns-then-is_empty-clause-delivers : goal.returns-then-is_empty-clause-delivers
returns-then-is_empty-clause-delivers g c =
    none_kept c.args.confirms.now _ (sym c.is_empty.ensures ∙ c.if-is_empty.true)

pub returns-clause-delivers : goal.returns-clause-delivers
returns-clause-delivers g c =
    all_heard c.args.confirms.now _ _ c.hear.result (sym c.is_empty.ensures ∙ c.if-is_empty.false)
    c.hear.ensures.hears
