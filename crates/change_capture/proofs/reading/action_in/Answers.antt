use Rattle.change_capture.specs.Reading.{IsLogOf}
use Rattle.change_capture.proofs.Changes.{action_same}
use Rattle.change_capture.proofs.Results.{gives_one}
use Rattle.change_capture.proofs.reading.action_in.Goals as goal

pub returns-clause-again : goal.returns-clause-again
returns-clause-again c action is =
    gives_one (IsLogOf c.args.number c.args.row.now) c.read_action.result action
    (λ other also. action_same c.args.number c.args.row.now other action also is) c.read_action.ensures is
