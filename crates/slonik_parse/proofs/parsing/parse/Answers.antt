use Rattle.slonik_expand.specs.Expansion.{expansion_of}
use Rattle.slonik_parse.proofs.Saying.{says, is_accepted, is_refused, is_spelled}
use Rattle.slonik_parse.proofs.parsing.parse.Goals as goal

pub returns-clause-grammar : goal.returns-clause-grammar
returns-clause-grammar g c = λ names told.
    says (expansion_of names c.args.left.now c.args.tokens.items) c.read_expanded.result c.read_expanded.new.left
    (c.read_expanded.ensures.exact names told)

pub returns-clause-accepted : goal.returns-clause-accepted
returns-clause-accepted g c = λ names making script told made is.
    is_accepted (expansion_of names c.args.left.now c.args.tokens.items) making script c.read_expanded.result
    c.read_expanded.new.left (c.read_expanded.ensures.exact names told) made is

pub returns-clause-refused : goal.returns-clause-refused
returns-clause-refused g c = λ names making refusal told made is.
    is_refused (expansion_of names c.args.left.now c.args.tokens.items) making refusal c.read_expanded.result
    c.read_expanded.new.left (c.read_expanded.ensures.exact names told) made is

pub returns-clause-spelled : goal.returns-clause-spelled
returns-clause-spelled g c = is_spelled c.read_expanded.result c.read_expanded.ensures.read
