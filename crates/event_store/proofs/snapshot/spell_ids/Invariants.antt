use Rattle.std.proofs.Common.{◌≡◌, ◌++◌, length, drop}
use Rattle.slon_base.specs.Codec.{number_bytes, count_bytes, all_bytes, AllAre}
use Rattle.event_store.specs.Spellings.{IsStored}
use Rattle.event_store.proofs.snapshot.spell_ids.Given as goal

abbrev pub invariant-loop-id : goal.invariant-loop-id
invariant-loop-id l =
    record {
      spelled : l.out ++ all_bytes number_bytes (drop l.id-index l.ids) ≡ l.fn.out ++ (count_bytes (length l.ids)
          ++ all_bytes number_bytes l.ids);
      can : AllAre IsStored (drop l.id-index l.ids);
    }
