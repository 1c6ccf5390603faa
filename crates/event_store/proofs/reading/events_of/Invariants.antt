use Rattle.std.proofs.Common.{◌≡◌, ◌++◌, map}
use Rattle.std.specs.Vec.Iter.{into_iter_items}
use Rattle.slon_base.specs.Codec.{AllAre}
use Rattle.event_store.specs.Behind.{row_as, AreOf}
use Rattle.event_store.specs.Seen.{CanRow}
use Rattle.event_store.specs.Spellings.{IsStored}
use Rattle.event_store.proofs.reading.events_of.Given as goal

abbrev pub invariant-loop-number : goal.invariant-loop-number
invariant-loop-number l =
    let rest = into_iter_items l.number-iterator in
    record {
      rows : AllAre (λ r. IsStored r.0 × CanRow r.1) rest;
      origins : AreOf l.origin l.events;
      made : map row_as l.events ++ rest ≡ l.fn.rows;
    }
