use Rattle.session_text.proofs.Said.{handed_behind, insert_no_table, insert_no_values, heads, insert_is}
use Rattle.session_text.proofs.writes.insert_of.Goals as goal

pub returns : goal.returns
returns c =
    insert_is c.args.words.now _
    (heads _ _ _ _ _ c.in_ok-name_of.ensures c.in_ok-name_of-2.ensures c.in_ok-table_name_of.ensures) _
    c.if-words-lt4.false c.in_ok-values_of.ensures

pub returns-in_err-table_name_of : goal.returns-in_err-table_name_of
returns-in_err-table_name_of c =
    handed_behind _ _ c.from_residual-in_err-table_name_of.result _ c.from_residual-in_err-table_name_of.ensures.1
    c.in_err-table_name_of.ensures (insert_no_table c.args.words.now _ c.if-words-lt4.false)

pub returns-in_err-values_of : goal.returns-in_err-values_of
returns-in_err-values_of c =
    handed_behind _ _ c.from_residual-in_err-values_of.result _ c.from_residual-in_err-values_of.ensures.1
    c.in_err-values_of.ensures (insert_no_values c.args.words.now c.if-words-lt4.false)
