use Rattle.std.proofs.Common.{◌≡◌, drop}
use Rattle.slonik_parse.specs.Choices.{option_among, option_at}
use Rattle.slonik_parse.proofs.choose.option_at.Given as goal

abbrev pub invariant-loop-option : goal.invariant-loop-option
invariant-loop-option l = option_among (drop l.option-index l.option-items) l.token ≡ option_at l.fn.verb l.token
