use Rattle.std.proofs.Common.{◌≡◌, drop}
use Rattle.slon_base.specs.Codec.{AllAre}
use Rattle.node_rows.specs.Spellings.{CanBody}
use Rattle.node_store.proofs.Learning.{IsLearning}
use Rattle.node_store.proofs.announcing.learn_each.Given as goal

abbrev pub invariant-loop-body : goal.invariant-loop-body
invariant-loop-body l = record {
  can : AllAre CanBody (drop l.body-index l.bodies);
  rest : IsLearning (drop l.body-index l.bodies) l.bodies l.fn.node.members l.node.members;
  identity : l.node.identity ≡ l.fn.node.identity;
}
