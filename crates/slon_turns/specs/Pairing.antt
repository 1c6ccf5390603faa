-- A poll at two places of a list of databases.
use Rattle.std.specs.Prelude.{◌≡◌, ◌<◌, true, List, get_or, length, set, is_some}
use Rattle.slon_base.specs.Keeper.{Kept}
use Rattle.slon_base.specs.declared.keeper.Keeper.{Ghosts}
use Rattle.slon_model.specs.declared.reply.Reply.{Reply}
use Rattle.event_store.specs.declared.queue.Queue.{Queue}
use Rattle.slonik_exec.specs.declared.databases.Named.{Named as NamedDatabase}
use Rattle.slonik_exec.specs.declared.membership.Spots.{Spots}
use Rattle.slonik_exec.specs.Stored.{couple_of, pair_of}
use Rattle.slon_turns.specs.declared.polling.Listen.{Listen}
use Rattle.slon_turns.specs.Polling.{ListensTo, RunsBetween}

-- The databases at two places are nodes, and the one is up.
pub record AreMeeting {K : Type 0} {g : Ghosts K} (databases : List (NamedDatabase K g)) (at : Spots) : Type 0 where
  pub inside : at.from < length databases
  pub other : at.to < length databases
  pub apart : at.from ≡ at.to → ⊥
  pub up : (d : NamedDatabase K g) → d ≡ get_or databases at.from d → d.database.state.up ≡ true
  pub node : (d : NamedDatabase K g) → d ≡ get_or databases at.from d → is_some d.database.state.node.identity ≡ true
  pub server : (d : NamedDatabase K g) → d ≡ get_or databases at.to d →
      is_some d.database.state.node.identity ≡ true

-- These two were changed by a poll, which told this.
pub record PolledAt {K : Type 0} {g : Ghosts K} (kept : K → Kept) (by : Listen × Spots)
    (old : List (NamedDatabase K g) × Queue) (reply : Reply) (new : List (NamedDatabase K g) × Queue) : Type 0 where
  pub own_old : NamedDatabase K g
  pub own_new : NamedDatabase K g
  pub server_old : NamedDatabase K g
  pub server_new : NamedDatabase K g
  pub own_held : own_old ≡ get_or old.0 by.1.from own_old
  pub server_held : server_old ≡ get_or old.0 by.1.to server_old
  pub own_name : own_new.name ≡ own_old.name
  pub server_name : server_new.name ≡ server_old.name
  pub is : new.0 ≡ set (set old.0 by.1.from own_new) by.1.to server_new
  pub runs : RunsBetween (couple_of kept own_old server_old) reply (pair_of kept own_new server_new)
  pub listens : ListensTo by.0 (couple_of kept own_old server_old) old.1 reply (pair_of kept own_new server_new) new.1
