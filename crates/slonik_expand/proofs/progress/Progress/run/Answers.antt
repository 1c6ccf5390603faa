use Rattle.std.proofs.Common.{◌∙◌, refl, arith}
use Rattle.std.proofs.lemmas.Result.{err_from_is_err_and}
use Rattle.slonik_expand.proofs.Going.{begins, closed_behind, over, went, includes, stopped}
use Rattle.slonik_expand.proofs.progress.Progress.run.Goals as goal

pub form_at-requires : goal.form_at-requires
form_at-requires c = closed_behind c.args.tokens.now c.loop-at.at c.args.closed c.requires

pub returns-in_err-put-in-Itself-clause-runs : goal.returns-in_err-put-in-Itself-clause-runs
returns-in_err-put-in-Itself-clause-runs c include =
    let p = err_from_is_err_and c.from_residual.result c.from_residual.ensures.1 in
    rw (p.1, p.2) (stopped _ _ _ _ (c.loop-at.invariant.ends include)
    (begins _ c.index-tokens-at.result _ c.loop-at-test.true c.index-tokens-at.is c.in-Itself.ensures)
    c.in_err-put-in-Itself.ensures)

pub loop-at-preserved-in-Itself : goal.loop-at-preserved-in-Itself
loop-at-preserved-in-Itself c = record {
  on = omega arith;
  ends = λ include. went _ _ _ _ (c.loop-at.invariant.ends include)
      (begins _ c.index-tokens-at.result _ c.loop-at-test.true c.index-tokens-at.is c.in-Itself.ensures)
      c.in_ok-put-in-Itself.ensures (omega arith);
}

pub returns-in_err-put_named-in-Use-clause-runs : goal.returns-in_err-put_named-in-Use-clause-runs
returns-in_err-put_named-in-Use-clause-runs c include =
    let p = err_from_is_err_and c.from_residual-in_err-put_named-in-Use.result
    c.from_residual-in_err-put_named-in-Use.ensures.1 in
    rw (p.1, p.2) (stopped _ _ _ _ (c.loop-at.invariant.ends include)
    (begins _ c.index-tokens-at.result _ c.loop-at-test.true c.index-tokens-at.is c.in-Use.ensures)
    c.in_err-put_named-in-Use.ensures)

pub loop-at-preserved-in-Use : goal.loop-at-preserved-in-Use
loop-at-preserved-in-Use c = record {
  on = omega arith;
  ends = λ include. went _ _ _ _ (c.loop-at.invariant.ends include)
      (begins _ c.index-tokens-at.result _ c.loop-at-test.true c.index-tokens-at.is c.in-Use.ensures)
      c.in_ok-put_named-in-Use.ensures (omega arith);
}

pub returns-in_err-define-in-Definition-clause-runs : goal.returns-in_err-define-in-Definition-clause-runs
returns-in_err-define-in-Definition-clause-runs c include =
    let p = err_from_is_err_and c.from_residual-in_err-define-in-Definition.result
    c.from_residual-in_err-define-in-Definition.ensures.1 in
    rw (p.1, p.2) (stopped _ _ _ _ (c.loop-at.invariant.ends include)
    (begins _ c.index-tokens-at.result _ c.loop-at-test.true c.index-tokens-at.is c.in-Definition.ensures)
    c.in_err-define-in-Definition.ensures)

pub loop-at-preserved : goal.loop-at-preserved
loop-at-preserved c = record {
  on = omega arith;
  ends = λ include. went _ _ _ _ (c.loop-at.invariant.ends include)
      (begins _ c.index-tokens-at.result _ c.loop-at-test.true c.index-tokens-at.is c.in-Definition.ensures)
      c.in_ok-define-in-Definition.ensures (omega arith);
}

pub returns-in-Inclusion-clause-runs : goal.returns-in-Inclusion-clause-runs
returns-in-Inclusion-clause-runs c include =
    includes _ _ _ (c.loop-at.invariant.ends include)
    (begins _ c.index-tokens-at.result _ c.loop-at-test.true c.index-tokens-at.is c.in-Inclusion.ensures) refl

pub returns-clause-runs : goal.returns-clause-runs
returns-clause-runs c include =
    c.loop-at.invariant.ends include ∙ over include _ _ _ c.loop-at-test.false
