use Rattle.std.proofs.lemmas.Result.{IfOk-weaker}
use Rattle.slonik_tokens.proofs.Texts.{text_found}
use Rattle.slonik_tokens.proofs.lexeme.text_in.Goals as goal

pub returns : goal.returns
returns c = IfOk-weaker c.from_bytes.result _ _ (λ found h. text_found _ found h) c.from_bytes.ensures
