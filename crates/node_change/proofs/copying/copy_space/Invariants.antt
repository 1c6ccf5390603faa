use Rattle.std.proofs.Common.{◌≡◌, true, is_some, [], Some}
use Rattle.std.specs.FinMap.{len}
use Rattle.slon_base.specs.Keeper.{Store, sight}
use Rattle.store_rows.specs.Scan.{key_of}
use Rattle.store_rows.proofs.Spaces.{Looked}
use Rattle.node_change.specs.Both.{IsWell}
use Rattle.node_change.proofs.Pairs.{Copying}
use Rattle.node_change.proofs.copying.copy_space.Given as goal

abbrev pub invariant-loop : goal.invariant-loop
invariant-loop g l =
    let from = g.F.Keeper.kept l.fn.from in
    let to = g.T.Keeper.kept l.fn.to in
    record {
      looked : Looked from (g.F.Keeper.kept l.from);
      well : IsWell to (g.T.Keeper.kept l.to);
      opened : is_some (g.T.Keeper.kept l.to).pending ≡ true;
      limited : (m : Store) → sight from ≡ Some m → l.limit ≡ len (m l.space);
      copying : (m : Store) → sight from ≡ Some m →
          Copying l.space (m l.space) to (g.T.Keeper.kept l.to) (key_of l.last []) l.counter;
    }
