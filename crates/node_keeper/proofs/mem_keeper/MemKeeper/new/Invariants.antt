use Rattle.std.proofs.Common.{◌≡◌, ℕ, vec_len, slice_index_or}
use Rattle.std.specs.FinMap.{empty}
use Rattle.node_keeper.proofs.mem_keeper.MemKeeper.new.Given as goal

abbrev pub invariant-loop-space : goal.invariant-loop-space
invariant-loop-space l = record {
  full : vec_len l.spaces ≡ l._space;
  none : (space : ℕ) → slice_index_or l.spaces.items space (empty, empty) ≡ (empty, empty);
}
