use Rattle.session_text.proofs.Said.{rows_is}
use Rattle.session_text.proofs.read.rows_of.Goals as goal

pub returns : goal.returns
returns c =
    rows_is c.args.words.now _ _ _ c.in-len2.len_at_least c.in-len2.len_below c.in_ok-name_of.ensures
    c.in_ok-table_name_of.ensures
