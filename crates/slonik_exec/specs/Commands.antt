-- What the parts of a command of a script are like.
use Rattle.std.specs.Prelude.{ℕ, List, Option, None}
use Rattle.slon_base.specs.Codec.{IsText}
use Rattle.store_rows.specs.Rows.{IsId}
use Rattle.slonik_script.specs.declared.script.Command.{Command}
use Rattle.slonik_script.specs.declared.script.Command.TheVariants.{InitCluster, StoreNode, DropNode, StorePath}
use Rattle.slonik_script.specs.declared.script.Command.TheVariants.{DropPath, CreateSet, DropSet}
use Rattle.slonik_script.specs.declared.script.Command.TheVariants.{SetAddTable, SubscribeSet, UnsubscribeSet, Sync}

-- its ids are in their range, and its texts can be stored
abbrev pub IsRunnable : Command → Type 0
IsRunnable (InitCluster id comment) = IsId id
IsRunnable (StoreNode id event_node comment) = IsId id × IsId event_node
IsRunnable (DropNode id event_node) = IsId id × IsId event_node
IsRunnable (StorePath server client conninfo retry) = IsId server × IsId client × IsText conninfo
IsRunnable (DropPath server client) = IsId server × IsId client
IsRunnable (CreateSet id origin comment) = IsId id × IsId origin
IsRunnable (DropSet id origin) = IsId id × IsId origin
IsRunnable (SetAddTable set origin id name key comment) = IsId set × IsId origin × IsId id × IsText name
IsRunnable (SubscribeSet id provider receiver forward) = IsId id × IsId provider × IsId receiver
IsRunnable (UnsubscribeSet id receiver) = IsId id × IsId receiver
IsRunnable (Sync id) = IsId id
IsRunnable others = Unit {0}

-- the comment that it gives, if it does
abbrev pub comment_in : Command → Option (List ℕ)
comment_in (InitCluster id comment) = comment
comment_in (StoreNode id event_node comment) = comment
comment_in (CreateSet id origin comment) = comment
comment_in (SetAddTable set origin id name key comment) = comment
comment_in others = None

-- it is none of those on nodes and their paths, and no SYNC
abbrev pub IsOnSets : Command → Type 0
IsOnSets (InitCluster id comment) = ⊥
IsOnSets (StoreNode id event_node comment) = ⊥
IsOnSets (DropNode id event_node) = ⊥
IsOnSets (StorePath server client conninfo retry) = ⊥
IsOnSets (DropPath server client) = ⊥
IsOnSets (Sync id) = ⊥
IsOnSets others = Unit {0}

-- and it makes no set, ends none, and puts no table into one
abbrev pub IsOnReceivers : Command → Type 0
IsOnReceivers (CreateSet id origin comment) = ⊥
IsOnReceivers (DropSet id origin) = ⊥
IsOnReceivers (SetAddTable set origin id name key comment) = ⊥
IsOnReceivers others = IsOnSets others
