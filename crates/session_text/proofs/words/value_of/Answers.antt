use Rattle.std.proofs.Common.{sym}
use Rattle.session_text.proofs.WordForms.{value_text}
use Rattle.session_text.proofs.words.value_of.Goals as goal

pub text_of-requires : goal.text_of-requires
text_of-requires c = value_text _ (sym c.if-not-is_value.ensures)
