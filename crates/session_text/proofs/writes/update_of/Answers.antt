use Rattle.session_text.proofs.Said.{update_no_table, heads, handed_behind, update_is, update_no_columns}
use Rattle.session_text.proofs.Said.{update_no_key, update_short}
use Rattle.session_text.proofs.writes.update_of.Goals as goal

pub returns-in_err-table_name_of : goal.returns-in_err-table_name_of
returns-in_err-table_name_of c =
    handed_behind _ _ c.from_residual-in_err-table_name_of.result _ c.from_residual-in_err-table_name_of.ensures.1
    c.in_err-table_name_of.ensures (update_no_table c.args.words.now _ c.if-words-lt5.false)

pub returns-then-words-lt5 : goal.returns-then-words-lt5
returns-then-words-lt5 c = update_short c.args.words.now c.if-words-lt5.true

pub returns-in_err-value_of : goal.returns-in_err-value_of
returns-in_err-value_of c =
    handed_behind _ _ c.from_residual-in_err-value_of.result _ c.from_residual-in_err-value_of.ensures.1
    c.in_err-value_of.ensures (update_no_key c.args.words.now _ c.if-words-lt5.false)

pub returns : goal.returns
returns c =
    update_is c.args.words.now _
    (heads _ _ _ _ _ c.in_ok-name_of.ensures c.in_ok-name_of-2.ensures c.in_ok-table_name_of.ensures) _ _
    c.if-words-lt5.false c.in_ok-value_of.ensures c.in_ok-columns_of.ensures

pub returns-in_err-columns_of : goal.returns-in_err-columns_of
returns-in_err-columns_of c =
    handed_behind _ _ c.from_residual-in_err-columns_of.result _ c.from_residual-in_err-columns_of.ensures.1
    c.in_err-columns_of.ensures (update_no_columns c.args.words.now c.if-words-lt5.false)
