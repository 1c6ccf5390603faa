use Rattle.std.proofs.Common.{drop}
use Rattle.node_store.proofs.Sifting.{AreDone}
use Rattle.node_store.proofs.logged.actions_on.Given as goal

abbrev pub invariant-loop-number : goal.invariant-loop-number
invariant-loop-number l = AreDone l.tables l.rows (drop l.number-index l.rows) l.actions
