use Rattle.std.proofs.Common.{ap, length}
use Rattle.slon_base.proofs.Padded.{zeros_left}
use Rattle.slon_base.proofs.compact.Compact.from_slice.Goals as goal

pub returns-clause-padded : goal.returns-clause-padded
returns-clause-padded c = zeros_left 30 c.copy_from_slice.new.self _ (ap length c.copy_from_slice.ensures.after)
