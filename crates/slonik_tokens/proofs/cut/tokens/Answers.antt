use Rattle.slonik_tokens.proofs.Answered.{answer_read, answer_refused, answer_only}
use Rattle.slonik_tokens.proofs.cut.tokens.Goals as goal

pub returns-clause-read : goal.returns-clause-read
returns-clause-read c = answer_read (λ v. v.items) c.args.text.now c.cut.result c.cut.ensures

pub returns-clause-refused : goal.returns-clause-refused
returns-clause-refused c line = answer_refused (λ v. v.items) c.args.text.now c.cut.result line c.cut.ensures

pub returns-clause-only : goal.returns-clause-only
returns-clause-only c outcome = answer_only (λ v. v.items) c.args.text.now c.cut.result outcome c.cut.ensures
