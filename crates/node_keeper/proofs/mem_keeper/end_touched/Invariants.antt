use Rattle.std.proofs.Common.{◌≡◌, length, drop}
use Rattle.node_keeper.specs.MemKept.{ended_in}
use Rattle.node_keeper.proofs.mem_keeper.end_touched.Given as goal

abbrev pub invariant-loop-space : goal.invariant-loop-space
invariant-loop-space l = record {
  len : length l.spaces ≡ 256;
  ended : ended_in l.commits (drop l.space-index l.touched) l.spaces ≡ ended_in l.commits l.touched l.fn.spaces;
}
