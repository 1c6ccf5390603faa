use Rattle.std.proofs.Common.{sym}
use Rattle.session_text.proofs.WordForms.{table_name_none, table_name_some}
use Rattle.session_text.proofs.forms.is_table_name.Goals as goal

pub returns-in-None : goal.returns-in-None
returns-in-None c = sym (table_name_none c.args.word.now c.in-None.ensures)

pub returns-then-is_part : goal.returns-then-is_part
returns-then-is_part c =
    rw (table_name_some c.args.word.now c.in-Some.dot c.in-Some.ensures, ← c.if-is_part.ensures)
    c.is_part-then-is_part.ensures

pub returns-else-is_part : goal.returns-else-is_part
returns-else-is_part c =
    rw (table_name_some c.args.word.now c.in-Some.dot c.in-Some.ensures, ← c.if-is_part.ensures) c.if-is_part.false
