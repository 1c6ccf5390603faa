use Rattle.std.proofs.Common.{sym, ◌∙◌}
use Rattle.slonik_expand.proofs.Putting.{named_gives}
use Rattle.slonik_expand.proofs.progress.Progress.put_named.Goals as goal

pub returns-in-Some : goal.returns-in-Some
returns-in-Some c =
    named_gives c.args.self.now c.args.name.now c.in-Some.place c.put_definition.new.self c.put_definition.result
    (sym c.in-Some.is ∙ c.find.ensures) c.put_definition.ensures
