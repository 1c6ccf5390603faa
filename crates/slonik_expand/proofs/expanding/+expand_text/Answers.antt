use Rattle.std.proofs.Common.{◌∙◌, arith}
use Rattle.std.proofs.lemmas.Result.{err_from_is_err_and}
use Rattle.slonik_expand.specs.Expansion.{Long, include_at}
use Rattle.slonik_expand.proofs.Going.{ends_halted, none_failed, too_deep, not_included, tokens_come, ends_after}
use Rattle.slonik_expand.proofs.Going.{goes_after, ran, ran_some, ran_none, stays_on}
use Rattle.slonik_expand.proofs.expanding.+expand_text.Goals as goal

pub returns-in_err-behind-clause-ends : goal.returns-in_err-behind-clause-ends
returns-in_err-behind-clause-ends g t c names told =
    let p = err_from_is_err_and c.from_residual.result c.from_residual.ensures.1 in
    rw (p.1, p.2) (ends_halted _ _ _ _ (c.loop-behind.invariant.ends names told)
    (c.in_err-behind.ensures.runs (include_at names c.args.levels)))

pub returns-in_err-behind-clause-cause : goal.returns-in_err-behind-clause-cause
returns-in_err-behind-clause-cause g t c =
    let p = err_from_is_err_and c.from_residual.result c.from_residual.ensures.1 in
    rw (p.1, p.2) (none_failed _ _ _ _ (c.in_err-behind.ensures.runs (λ path m. Long)))

pub returns-then-levels-eq0-clause-ends : goal.returns-then-levels-eq0-clause-ends
returns-then-levels-eq0-clause-ends g t c names told =
    let i = ran_some _ (ran (record { names = names; levels = c.args.levels }) c.args.tokens.now _ _ _ _
    (c.loop-behind.invariant.ends names told) (c.in_ok-behind.ensures.runs (include_at names c.args.levels)))
    c.in-Some.behind c.in-Some.path c.in-Some.is in
    too_deep _ i _ c.if-levels-eq0.true c.in_ok-path.ensures

pub returns-in_err-included-clause-ends : goal.returns-in_err-included-clause-ends
returns-in_err-included-clause-ends g t c names told =
    let p = err_from_is_err_and c.from_residual-in_err-included.result c.from_residual-in_err-included.ensures.1 in
    let i = ran_some _ (ran (record { names = names; levels = c.args.levels }) c.args.tokens.now _ _ _ _
    (c.loop-behind.invariant.ends names told) (c.in_ok-behind.ensures.runs (include_at names c.args.levels)))
    c.in-Some.behind c.in-Some.path c.in-Some.is in
    rw (p.1, p.2)
    (not_included _ i _ _ (omega arith)
    (c.in_err-included.ensures.ends names (c.loop-behind.invariant.files.names ∙ told) _))

pub returns-in_err-expand_text-clause-ends : goal.returns-in_err-expand_text-clause-ends
returns-in_err-expand_text-clause-ends g t c names told =
    let p = err_from_is_err_and c.from_residual-in_err-expand_text.result
    c.from_residual-in_err-expand_text.ensures.1 in
    let kept = c.loop-behind.invariant.files.names ∙ told in
    let i = ran_some _ (ran (record { names = names; levels = c.args.levels }) c.args.tokens.now _ _ _ _
    (c.loop-behind.invariant.ends names told) (c.in_ok-behind.ensures.runs (include_at names c.args.levels)))
    c.in-Some.behind c.in-Some.path c.in-Some.is in
    let come = tokens_come _ i _ _ _ (omega arith) (c.in_ok-included.ensures.ends names kept _)
    c.as_slice.ensures.value in
    rw (p.1, p.2) (ends_after _ _ _ _ _ come (c.in_err-expand_text.ensures.ends names
    (c.in_ok-included.ensures.files.names ∙ kept)))

pub loop-behind-preserved : goal.loop-behind-preserved
loop-behind-preserved g t c = record {
  files = stays_on _ _ _ (stays_on _ _ _ c.loop-behind.invariant.files c.in_ok-included.ensures.files)
      c.in_ok-expand_text.ensures.files;
  ends = λ names told.
      let kept = c.loop-behind.invariant.files.names ∙ told in
      let i = ran_some _ (ran (record { names = names; levels = c.args.levels }) c.args.tokens.now _ _ _ _
      (c.loop-behind.invariant.ends names told) (c.in_ok-behind.ensures.runs (include_at names c.args.levels)))
      c.in-Some.behind c.in-Some.path c.in-Some.is in
      goes_after _ _ _ _
      (tokens_come _ i _ _ _ (omega arith) (c.in_ok-included.ensures.ends names kept _) c.as_slice.ensures.value)
      (c.in_ok-expand_text.ensures.ends names (c.in_ok-included.ensures.files.names ∙ kept));
}

pub returns-clause-ends : goal.returns-clause-ends
returns-clause-ends g t c names told =
    ran_none _ (ran (record { names = names; levels = c.args.levels }) c.args.tokens.now _ _ _ _
    (c.loop-behind.invariant.ends names told) (c.in_ok-behind.ensures.runs (include_at names c.args.levels)))
    c.in_default.is
