use Rattle.std.proofs.Common.{sym, ◌∙◌}
use Rattle.std.proofs.lemmas.Result.{err_from_is_err_and}
use Rattle.session_text.proofs.Columns.{spot, columns_all, columns_low, columns_next, columns_unread}
use Rattle.session_text.proofs.Said.{handed_none, none_behind}
use Rattle.session_text.proofs.writes.columns_of.Goals as goal

pub returns : goal.returns
returns c = columns_all c.args.words.now c.loop-word.word-index _ _ _ c.loop-word-test.false c.loop-word.invariant

pub returns-in_err-column : goal.returns-in_err-column
returns-in_err-column c =
    let here =
    spot c.args.words.now _ c.loop-word.word-index c.loop-word.last c.loop-word.columns c.loop-word-test.true in
    handed_none _ c.from_residual.result _
    (err_from_is_err_and c.from_residual.result c.from_residual.ensures.1)
    (none_behind _ _ c.in_err-column.field-0.0 (columns_unread here _ c.loop-word.invariant) c.in_err-column.ensures)

pub returns-then-column-last : goal.returns-then-column-last
returns-then-column-last c =
    let here =
    spot c.args.words.now _ c.loop-word.word-index c.loop-word.last c.loop-word.columns c.loop-word-test.true in
    columns_low here _ _ _ c.loop-word.invariant c.in_ok-column.ensures c.if-column-last.true

pub loop-word-preserved : goal.loop-word-preserved
loop-word-preserved c =
    let here =
    spot c.args.words.now _ c.loop-word.word-index c.loop-word.last c.loop-word.columns c.loop-word-test.true in
    rw c.in_ok-push.ensures.ok
    (sym (columns_next here _ _ c.in_ok-column.ensures c.if-column-last.false) ∙ c.loop-word.invariant)
