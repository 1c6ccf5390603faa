use Rattle.slonik_expand.proofs.Putting.{defined_gives}
use Rattle.slonik_expand.proofs.progress.Progress.define.Goals as goal

pub returns : goal.returns
returns c =
    defined_gives c.args.self.now c.args.name.now _ c.define.new.self c.define.result c.define.ensures
