use Rattle.std.proofs.Common.{take}
use Rattle.slonik_expand.proofs.Keeping.{Stands}
use Rattle.slonik_expand.proofs.definitions.Definitions.definition_of.Given as goal

abbrev pub invariant-loop-token : goal.invariant-loop-token
invariant-loop-token l = Stands l.self (take l.token-index l.tokens) l.definition
