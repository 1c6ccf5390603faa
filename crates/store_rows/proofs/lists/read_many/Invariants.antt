use Rattle.std.proofs.Common.{◌≡◌, ℕ, List, ◌++◌, length}
use Rattle.slon_base.specs.Codec.{all_bytes, AllAre}
use Rattle.store_rows.proofs.Reading.{Left}
use Rattle.store_rows.proofs.lists.read_many.Given as goal

abbrev pub invariant-loop : goal.invariant-loop
invariant-loop g l =
    record {
      left : (xs : List _) (rest : List ℕ) → AllAre g.X.Spelled.Can xs → l.count ≡ length xs →
          l.fn.row ≡ all_bytes g.X.Spelled.bytes xs ++ rest →
          Left g.X.Spelled.bytes g.X.Spelled.Can l.row rest l.counter l.count (g.L.Filled.seen l.found) xs;
      spelled : l.fn.row ≡ all_bytes g.X.Spelled.bytes (g.L.Filled.seen l.found) ++ l.row;
      count : length (g.L.Filled.seen l.found) ≡ l.counter;
      can : AllAre g.X.Spelled.Can (g.L.Filled.seen l.found);
    }
