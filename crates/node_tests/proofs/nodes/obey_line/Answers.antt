use Rattle.slon_model.proofs.Spoken.{says_spoken}
use Rattle.node_tests.proofs.nodes.obey_line.Goals as goal

pub obey-answered-requires : goal.obey-answered-requires
obey-answered-requires g = says_spoken _ g.in-Some.command (rw g.in-Some.is at g.in_ok-command.ensures)
