use Rattle.session_text.proofs.Said.{abort_is}
use Rattle.session_text.proofs.read.abort_of.Goals as goal

pub returns : goal.returns
returns c =
    abort_is c.args.words.now _ _ _ c.in-len2.len_at_least c.in-len2.len_below c.in_ok-name_of.ensures
    c.in_ok-name_of-2.ensures
