-- What an event tells a node of a set that it receives.
use Rattle.std.specs.Prelude.{ℕ, ◌==◌, ◌&&◌, if◌then◌else◌}
use Rattle.slon_base.specs.Keeper.{Store}
use Rattle.store_rows.specs.Rows.{IsId}
use Rattle.node_rows.specs.declared.body.Body.{Body}
use Rattle.node_rows.specs.declared.body.Body.TheVariants.{Sync, SubscribeSet, UnsubscribeSet, DropSet}
use Rattle.slon_model.specs.Config.{Config}
use Rattle.set_config.specs.Holds.{HoldsConfig}
use Rattle.event_store.specs.Holds.{ShowsStreams}
use Rattle.event_store.specs.Streams.{Streams}
use Rattle.node_change.specs.declared.forwarding.Told.{Told}
use Rattle.node_change.specs.declared.forwarding.Told.TheVariants.{Nothing, Forwards, Leaves}

-- a store shows these streams, and holds this of the cluster
abbrev pub ShowsBoth : Store → Config → Streams → Store → Type 0
ShowsBoth base c s m = ShowsStreams base s m × HoldsConfig c m

-- what an event tells the node of this id of a set that it receives
abbrev pub told_of : ℕ → Body → Told
told_of own Sync = Nothing
told_of own (SubscribeSet set provider receiver forward) =
    if receiver == own && forward then Forwards set else Nothing
told_of own (UnsubscribeSet set receiver) = if receiver == own then Leaves set else Nothing
told_of own (DropSet set) = Leaves set
told_of own others = Nothing

-- the set has a name in a store
abbrev pub IsOfId : Told → Type 0
IsOfId Nothing = Unit {0}
IsOfId (Forwards set) = IsId set
IsOfId (Leaves set) = IsId set
