-- How a store holds what its node has of the streams.
use Rattle.std.specs.Prelude.{◌≡◌, ℕ, Bool, false, ◌==◌, ◌||◌}
use Rattle.slon_base.specs.Codec.{number_bytes}
use Rattle.slon_base.specs.Keeper.{Store}
use Rattle.store_rows.specs.Rows.{IsId}
use Rattle.store_rows.specs.Space.{IsSpace}
use Rattle.slon_model.specs.Maps.{entry_at}
use Rattle.set_config.specs.Holds.{AreIds, pair_key}
use Rattle.event_store.specs.Streams.{Streams, event_at, confirmed_at}
use Rattle.event_store.specs.Spellings.{IsStored, IsNumbered, event_bytes, CanEvent, view_bytes, CanView}

-- each part has a space of its own
pub record HoldsStreams (s : Streams) (m : Store) : Type 0 where
  pub views : IsSpace number_bytes IsId view_bytes CanView (λ set. entry_at set s.views) (m 9)
  pub events : IsSpace pair_key IsNumbered event_bytes CanEvent (λ i. event_at s.events i) (m 10)
  pub confirmations : IsSpace pair_key AreIds number_bytes IsStored (λ i. confirmed_at s i) (m 11)
  pub cleaned : IsSpace number_bytes IsId number_bytes IsStored (λ origin. entry_at origin s.low) (m 12)
  pub news : IsSpace number_bytes IsId number_bytes IsStored (λ origin. entry_at origin s.news) (m 13)

-- the spaces of the streams
abbrev pub is_stream : ℕ → Bool
is_stream space = space == 9 || space == 10 || space == 11 || space == 12 || space == 13

-- a store holds this of the streams, and in all other spaces what the base holds
pub record ShowsStreams (base : Store) (s : Streams) (m : Store) : Type 0 where
  pub streams : HoldsStreams s m
  pub others : (space : ℕ) → is_stream space ≡ false → m space ≡ base space
