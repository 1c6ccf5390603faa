use Rattle.session_text.proofs.Unprinting.{one_output}
use Rattle.session_text.proofs.laws.outputs_are_injective.Goals as goal

pub returns : goal.returns
returns c = one_output
