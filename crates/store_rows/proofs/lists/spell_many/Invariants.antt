use Rattle.std.proofs.Common.{◌≡◌, ◌++◌, length, drop}
use Rattle.slon_base.specs.Codec.{count_bytes, all_bytes, AllAre}
use Rattle.store_rows.proofs.lists.spell_many.Given as goal

abbrev pub invariant-loop-value : goal.invariant-loop-value
invariant-loop-value g l =
    record {
      spelled : l.out ++ all_bytes g.X.Spelled.bytes (drop l.value-index l.values) ≡ l.fn.out ++ (count_bytes
          (length l.values) ++ all_bytes g.X.Spelled.bytes l.values);
      can : AllAre g.X.Spelled.Can (drop l.value-index l.values);
    }
