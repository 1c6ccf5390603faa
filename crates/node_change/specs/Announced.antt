-- What becomes of a node that emits an event.
use Rattle.std.specs.Prelude.{◌≡◌, ℕ, ◌≤◌, ◌^◌, Result, Ok, Err}
use Rattle.slon_base.specs.Keeper.{Store, Kept}
use Rattle.store_rows.specs.Space.{IsPending}
use Rattle.store_rows.specs.Steps.{IsOutside}
use Rattle.store_rows.specs.declared.stop.Stop.{Stop}
use Rattle.store_rows.specs.declared.stop.Stop.TheVariants.{TooBig}
use Rattle.slon_model.specs.Events.{Event}
use Rattle.slon_model.specs.Deeds.{Node}
use Rattle.event_store.specs.Emitting.{next_number}
use Rattle.event_store.specs.Spellings.{IsStored}
use Rattle.event_store.specs.Streams.{streams_of}
use Rattle.node_change.specs.Done.{HasEmitted}

-- The node emits its next event, which has its number. Or no number is left for it, and nothing is changed; or there
-- was no memory, or the store failed.
abbrev pub Announces : Node → Store → (ℕ → Event) → Kept → Kept → Result ℕ Stop → Type 0
Announces n m event old new (Ok number) =
    (number ≡ next_number (streams_of n)) × IsStored number × IsPending (HasEmitted n (event number) m) new
Announces n m event old new (Err (TooBig space)) =
    (space ≡ 10) × (2 ^ 63 ≤ next_number (streams_of n)) × (new.pending ≡ old.pending)
Announces n m event old new (Err stop) = IsOutside stop
