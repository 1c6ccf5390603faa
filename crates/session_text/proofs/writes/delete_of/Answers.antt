use Rattle.session_text.proofs.Said.{handed_behind, delete_no_table, heads, delete_is}
use Rattle.session_text.proofs.writes.delete_of.Goals as goal

pub returns-in_err-table_name_of : goal.returns-in_err-table_name_of
returns-in_err-table_name_of c =
    handed_behind _ _ c.from_residual-in_err-table_name_of.result _ c.from_residual-in_err-table_name_of.ensures.1
    c.in_err-table_name_of.ensures (delete_no_table c.args.words.now _ c.in-len4.len_at_least)

pub returns : goal.returns
returns c =
    delete_is c.args.words.now _
    (heads _ _ _ _ _ c.in_ok-name_of.ensures c.in_ok-name_of-2.ensures c.in_ok-table_name_of.ensures) _
    c.in-len4.len_at_least c.in-len4.len_below c.in_ok-value_of.ensures
