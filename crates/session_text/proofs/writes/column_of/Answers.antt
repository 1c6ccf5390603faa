use Rattle.session_text.proofs.Columns.{column_none, column_some}
use Rattle.session_text.proofs.writes.column_of.Goals as goal

pub returns-in-None : goal.returns-in-None
returns-in-None c = column_none c.args.word.now c.in-None.ensures

pub returns-in-Some : goal.returns-in-Some
returns-in-Some c = rw (column_some c.args.word.now c.in-Some.equals c.in-Some.ensures) c.column_with.ensures
