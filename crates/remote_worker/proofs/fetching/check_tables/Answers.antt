use Rattle.std.proofs.Common.{◌∙◌, ◌+◌, ◌∷◌, List, ℕ, Ok, Err, sym, ap, subst, drop}
use Rattle.std.proofs.lemmas.List.{drop_more, drop_all}
use Rattle.std.proofs.lemmas.Result.{err_from_is_err_and}
use Rattle.slon_model.specs.Sessions.{first_refusal}
use Rattle.slon_model.specs.Working.{copy_checks}
use Rattle.slon_base.specs.Codec.{AllAre, IsText}
use Rattle.remote_worker.proofs.Finding.{LeavesOf, bad_table, next_table}
use Rattle.remote_worker.proofs.Looking.{fails, so, then}
use Rattle.remote_worker.proofs.fetching.check_tables.Goals as goal

pub returns-in_err-refusal-clause-looks : goal.returns-in_err-refusal-clause-looks
returns-in_err-refusal-clause-looks g c =
    fails c.from_residual.result (err_from_is_err_and c.from_residual.result c.from_residual.ensures.1)
    (then (Err c.in_err-refusal.field-0.0) c.loop-name.invariant.looks c.in_err-refusal.ensures.looks)

pub returns-in-Some-clause-looks : goal.returns-in-Some-clause-looks
returns-in-Some-clause-looks g c =
    let names = c.args.names.now in
    let at = c.loop-name.name-index in
    let more = drop (at + 1) names in
    let name : List ℕ = c.name-item.result in
    let step = drop_more names at name c.loop-name-test.true ∙ ap (λ n. n ∷ more) (sym c.name-item.is) in
    so (λ p q both. bad_table names more name p q c.in_ok-refusal.field-0 c.in-Some.is
    (subst (λ ns. LeavesOf names ns p q) step both.0, both.1))
    (then (Ok c.in_ok-refusal.field-0) c.loop-name.invariant.looks c.in_ok-refusal.ensures.looks)

pub loop-name-preserved : goal.loop-name-preserved
loop-name-preserved g c =
    let names = c.args.names.now in
    let at = c.loop-name.name-index in
    let more = drop (at + 1) names in
    let name : List ℕ = c.name-item.result in
    let before = c.loop-name.invariant in
    let step = drop_more names at name c.loop-name-test.true ∙ ap (λ n. n ∷ more) (sym c.name-item.is) in
    let text = subst (AllAre IsText) step before.texts in
    let texts = text.1 in
    let same = c.in_ok-refusal.ensures.looks.same in
    let own = ap (λ m. m.up) same.0 ∙ before.up.0 in
    let provider = ap (λ m. m.up) same.1 ∙ before.up.1 in
    let looks = so (λ p q both. next_table names more name p q c.in_ok-refusal.field-0 c.in-None.is
    (subst (λ ns. LeavesOf names ns p q) step both.0, both.1))
    (then (Ok c.in_ok-refusal.field-0) before.looks c.in_ok-refusal.ensures.looks) in
    record { up = (own, provider); texts = texts; looks = looks }

pub returns-clause-looks : goal.returns-clause-looks
returns-clause-looks g c =
    let names = c.args.names.now in
    let end = drop_all c.loop-name.name-index names c.loop-name-test.false in
    so (λ p q leaves. leaves ∙ ap (λ ns. first_refusal (copy_checks p q ns)) end) c.loop-name.invariant.looks
