use Rattle.session_text.proofs.Said.{commit_is}
use Rattle.session_text.proofs.read.commit_of.Goals as goal

pub returns : goal.returns
returns c =
    commit_is c.args.words.now _ _ _ c.in-len2.len_at_least c.in-len2.len_below c.in_ok-name_of.ensures
    c.in_ok-name_of-2.ensures
