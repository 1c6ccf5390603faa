-- What a delivery does to the database of the node and to what waits there.
use Rattle.std.specs.Prelude.{◌≡◌, Bool, true, false, List, [], ◌∷◌, map, Result, Ok, Err}
use Rattle.slon_model.specs.Maps.{Map}
use Rattle.slon_model.specs.Events.{Event}
use Rattle.slon_model.specs.Polls.{all_queued}
use Rattle.slon_model.specs.declared.fault.DbFault.{DbFault}
use Rattle.event_store.specs.declared.queue.Queue.{Queue}
use Rattle.event_store.specs.Giving.{Confirmation}
use Rattle.event_store.specs.Telling.{named}
use Rattle.app_store.specs.Base.{Base}
use Rattle.slon_model.specs.World.{halt_in}
use Rattle.app_store.specs.Serves.{answered, is_memory}
use Rattle.node_store.specs.Acting.{HearsAll, joined}
use Rattle.remote_listener.specs.Queues.{FitsQueue}

-- the node hears these confirmations in one commit; where there are none, its database is as it was, unless there was
-- no memory
abbrev pub Delivers : List Confirmation → Base → Result Bool DbFault → Base → Type 0
Delivers [] old (Ok doubt) new = (doubt ≡ false) × (new ≡ old)
Delivers [] old (Err fault) new = is_memory (halt_in fault) ≡ true
Delivers (c ∷ cs) old result new = HearsAll (map named (c ∷ cs)) old (answered joined result) new

-- from whatever waits by the rules: these events come behind it, one after the other
abbrev pub Queues : List Event → Queue → Queue → Type 0
Queues events old new = (lines : Map (List Event)) → FitsQueue lines old → FitsQueue (all_queued events lines) new

-- they do, unless the commit is in doubt
abbrev pub QueuesUnless : List Event → Queue → Queue → Bool → Type 0
QueuesUnless events old new true = new ≡ old
QueuesUnless events old new false = Queues events old new

-- where it failed for another cause than want of memory, the same waits as before
abbrev pub StaysQueued : Queue → Queue → DbFault → Type 0
StaysQueued old new fault = is_memory (halt_in fault) ≡ false → new ≡ old
