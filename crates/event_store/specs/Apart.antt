-- The streams of a node and what it knows of the cluster stand in spaces of their own.
use Rattle.slon_base.specs.Keeper.{Store}
use Rattle.slon_model.specs.Config.{Config}
use Rattle.set_config.specs.Holds.{HoldsConfig, Shows}
use Rattle.event_store.specs.Streams.{Streams}
use Rattle.event_store.specs.Holds.{HoldsStreams, ShowsStreams}

-- A change of the streams leaves what is known of the cluster.
abbrev pub ConfigStays : Type 0
ConfigStays = (base m : Store) (s : Streams) (c : Config) → ShowsStreams base s m → HoldsConfig c base → HoldsConfig c m

-- A change of what is known of the cluster leaves the streams.
abbrev pub StreamsStay : Type 0
StreamsStay = (base m : Store) (s : Streams) (c : Config) → Shows base c m → HoldsStreams s base → HoldsStreams s m
