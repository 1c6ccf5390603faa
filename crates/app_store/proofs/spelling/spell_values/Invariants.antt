use Rattle.std.proofs.Common.{◌≡◌, ◌++◌, length, drop}
use Rattle.slon_base.specs.Codec.{count_bytes, all_bytes, text_bytes}
use Rattle.app_store.proofs.spelling.spell_values.Given as goal

abbrev pub invariant-loop-value : goal.invariant-loop-value
invariant-loop-value l = l.out ++ all_bytes text_bytes (drop l.value-index l.values) ≡ count_bytes
    (length l.values) ++ all_bytes text_bytes l.values
