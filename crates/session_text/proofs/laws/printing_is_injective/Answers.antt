use Rattle.session_text.proofs.Unprinting.{one_reply}
use Rattle.session_text.proofs.laws.printing_is_injective.Goals as goal

pub returns : goal.returns
returns c = one_reply
