use Rattle.session_reader.proofs.Blocks.{parsed_block, uncut_block}
use Rattle.session_reader.proofs.script.read_text_of.Goals as goal

pub returns-in-Ok-clause-exact : goal.returns-in-Ok-clause-exact
returns-in-Ok-clause-exact g c names told =
    rw c.outcome.ensures
    (parsed_block names c.args.text.now
    (record { before = c.args.left.now; tokens = c.in-Ok.tokens.items; is = c.in-Ok.ensures.exact }) c.parse.result
    c.parse.new.left (c.parse.ensures.exact names told))

pub returns-in-Err-clause-exact : goal.returns-in-Err-clause-exact
returns-in-Err-clause-exact g c names told =
    rw c.refused.ensures
    (uncut_block names c.args.text.now c.in-Err.fault c.args.left.now c.in-Err.ensures.exact)
