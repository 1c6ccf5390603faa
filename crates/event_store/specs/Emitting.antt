-- What becomes of the streams of a node that emits an event.
use Rattle.std.specs.Prelude.{◌≡◌, ℕ, ◌≤◌, ◌^◌, ◌+◌, Result, Ok, Err}
use Rattle.slon_base.specs.Keeper.{Store, Kept}
use Rattle.store_rows.specs.Space.{IsPending}
use Rattle.store_rows.specs.Steps.{IsOutside}
use Rattle.store_rows.specs.declared.stop.Stop.{Stop}
use Rattle.store_rows.specs.declared.stop.Stop.TheVariants.{Failed, NoMemory, BadRow, TooBig}
use Rattle.slon_model.specs.Maps.{number_at}
use Rattle.slon_model.specs.Events.{Event}
use Rattle.event_store.specs.Streams.{Streams, emitted}
use Rattle.event_store.specs.Holds.{ShowsStreams}
use Rattle.event_store.specs.Spellings.{IsStored}

-- the number of the next event of the node
abbrev pub next_number : Streams → ℕ
next_number s = number_at s.own s.progress + 1

-- it stopped for the store, for want of memory, at the row of how far the node is, or since no number was left
abbrev pub IsEmitStop : Stop → Type 0
IsEmitStop Failed = Unit {0}
IsEmitStop NoMemory = Unit {0}
IsEmitStop (BadRow space) = space ≡ 11
IsEmitStop (TooBig space) = space ≡ 10

-- The next event of the node, which has its number, is held from now on. Or no number is left for it, and nothing is
-- changed; or there was no memory, or the store failed.
abbrev pub EmitsNext : Store → Streams → (ℕ → Event) → Kept → Kept → Result ℕ Stop → Type 0
EmitsNext base s event old new (Ok number) =
    (number ≡ next_number s) × IsStored number × IsPending (ShowsStreams base (emitted (event number) s)) new
EmitsNext base s event old new (Err (TooBig space)) =
    (space ≡ 10) × (2 ^ 63 ≤ next_number s) × (new.pending ≡ old.pending)
EmitsNext base s event old new (Err stop) = IsOutside stop
