use Rattle.std.proofs.Common.{◌≡◌, ◌++◌, List, Some}
use Rattle.std.specs.FinMap.{entries}
use Rattle.slon_base.specs.Keeper.{Store, sight, after}
use Rattle.slon_base.specs.Codec.{AllAre}
use Rattle.store_rows.specs.Scan.{key_of, ranged, spelled_rows}
use Rattle.store_rows.specs.Spending.{PutsUpTo}
use Rattle.store_rows.proofs.Spaces.{Looked}
use Rattle.store_rows.proofs.Scanning.{Ahead, Gone}
use Rattle.store_rows.proofs.scan.scan_rows.Given as goal

abbrev pub invariant-loop : goal.invariant-loop
invariant-loop g l =
    record {
      looked : Looked (g.K.Keeper.kept l.fn.keeper) (g.K.Keeper.kept l.keeper);
      puts : PutsUpTo 0 (g.K.Keeper.kept l.fn.keeper).puts (g.K.Keeper.kept l.keeper).puts;
      can : AllAre (λ e. g.I.Spelled.Can e.0 × g.X.Spelled.Can e.1) l.found;
      scanned : (m : Store) (rows : List _) → sight (g.K.Keeper.kept l.fn.keeper) ≡ Some m →
          AllAre (λ e. g.I.Spelled.Can e.0 × g.X.Spelled.Can e.1) rows →
          ranged l.prefix
          (after l.from (entries (m l.space))) ≡ spelled_rows l.prefix g.I.Spelled.bytes g.X.Spelled.bytes rows →
          Ahead l.prefix (λ e. (l.prefix ++ g.I.Spelled.bytes e.0, g.X.Spelled.bytes e.1))
          (λ e. g.I.Spelled.Can e.0 × g.X.Spelled.Can e.1) (entries (m l.space))
          (key_of l.last l.from) l.counter l.found rows;
      gone : (m : Store) → sight (g.K.Keeper.kept l.fn.keeper) ≡ Some m →
          Gone l.prefix (λ e. (l.prefix ++ g.I.Spelled.bytes e.0, g.X.Spelled.bytes e.1))
          (λ e. g.I.Spelled.Can e.0 × g.X.Spelled.Can e.1) (entries (m l.space)) l.from
          (key_of l.last l.from) l.counter l.found;
    }
