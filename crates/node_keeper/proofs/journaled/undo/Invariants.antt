use Rattle.std.proofs.Common.{◌≡◌, take, vec_len}
use Rattle.node_keeper.specs.Slots.{pairs}
use Rattle.node_keeper.specs.Journal.{undone, HaveSlots}
use Rattle.node_keeper.proofs.journaled.undo.Given as goal

abbrev pub invariant-loop-index : goal.invariant-loop-index
invariant-loop-index l = record {
  same_len : vec_len l.changes ≡ vec_len l.fn.changes;
  slots : HaveSlots l.slots.map l.changes.items l.index;
  undoes : undone (take l.index l.changes.items) (pairs l.slots.map) ≡ undone l.fn.changes.items (pairs l.fn.slots.map);
}
