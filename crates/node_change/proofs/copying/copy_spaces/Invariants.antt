use Rattle.std.proofs.Common.{◌≡◌, true, is_some, drop, Some}
use Rattle.std.specs.Option.{option_map}
use Rattle.slon_base.specs.Keeper.{Store, sight}
use Rattle.node_change.specs.Both.{IsWell}
use Rattle.node_change.specs.Pairs.{copied}
use Rattle.node_change.proofs.copying.copy_spaces.Given as goal

abbrev pub invariant-loop-space : goal.invariant-loop-space
invariant-loop-space g l =
    let from = g.F.Keeper.kept l.fn.from in
    let now = g.F.Keeper.kept l.from in
    let to = g.T.Keeper.kept l.fn.to in
    let next = g.T.Keeper.kept l.to in
    record {
      from_well : IsWell from now;
      same : now.pending ≡ from.pending;
      to_well : IsWell to next;
      opened : is_some next.pending ≡ true;
      rest : (m : Store) → sight from ≡ Some m →
          option_map (option_map (copied (drop l.space-index l.spaces) m)) next.pending
          ≡ option_map (option_map (copied l.spaces m)) to.pending;
    }
