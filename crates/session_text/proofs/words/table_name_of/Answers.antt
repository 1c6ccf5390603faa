use Rattle.std.proofs.Common.{sym}
use Rattle.session_text.proofs.WordForms.{table_name_text}
use Rattle.session_text.proofs.words.table_name_of.Goals as goal

pub text_of-requires : goal.text_of-requires
text_of-requires c = table_name_text _ (sym c.if-not-is_table_name.ensures)
