use Rattle.std.proofs.Common.{◌∙◌, true, false, Ok, Err, ap, subst}
use Rattle.std.proofs.lemmas.Bool.{false≢true}
use Rattle.app_store.specs.Base.{base_of}
use Rattle.app_store.specs.Serves.{answered}
use Rattle.node_store.specs.Acting.{FoundsNode, joined, node_of}
use Rattle.slonik_exec.proofs.Founding.{founds_if}
use Rattle.slonik_exec.proofs.membership.found_at.Goals as goal

pub returns-in-Ok-true-clause-founds : goal.returns-in-Ok-true-clause-founds
returns-in-Ok-true-clause-founds g c =
    founds_if c.args.named.now.name c.answered.result (Ok (joined true)) c.answered.ensures
    (λ short. absurd (false≢true short))
    (subst (λ r. FoundsNode (node_of c.args.id c.args.cluster.now c.args.comment.now)
    (base_of g.K.Keeper.kept c.args.named.now.database) (answered joined r)
    (base_of g.K.Keeper.kept c.found.new.database)) (c.in-Ok-true.is ∙ ap (λ b. Ok b) c.in-Ok-true.field-0-test)
    c.found.ensures.founds)

pub returns-in-Ok-false-clause-founds : goal.returns-in-Ok-false-clause-founds
returns-in-Ok-false-clause-founds g c =
    founds_if c.args.named.now.name c.answered-in-Ok-false.result (Ok (joined false)) c.answered-in-Ok-false.ensures
    (λ short. absurd (false≢true short))
    (subst (λ r. FoundsNode (node_of c.args.id c.args.cluster.now c.args.comment.now)
    (base_of g.K.Keeper.kept c.args.named.now.database) (answered joined r)
    (base_of g.K.Keeper.kept c.found.new.database)) (c.in-Ok-false.is ∙ ap (λ b. Ok b) c.in-Ok-false.field-0-test)
    c.found.ensures.founds)

pub returns-in-Err-clause-founds : goal.returns-in-Err-clause-founds
returns-in-Err-clause-founds g c =
    founds_if c.args.named.now.name c.told.result (Err c.in-Err.fault) c.told.ensures.reply
    c.told.ensures.memory
    (subst (λ r. FoundsNode (node_of c.args.id c.args.cluster.now c.args.comment.now)
    (base_of g.K.Keeper.kept c.args.named.now.database) (answered joined r)
    (base_of g.K.Keeper.kept c.found.new.database)) c.in-Err.is c.found.ensures.founds)
