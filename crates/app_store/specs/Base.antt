-- What the code keeps of a database, read off it.
use Rattle.std.specs.Prelude.{◌≡◌, ℕ, Bool, false, List, [], ◌∷◌, ◌++◌, Option, None}
use Rattle.std.specs.FinMap.{insert, empty}
use Rattle.slon_base.specs.Keeper.{Kept}
use Rattle.slon_base.specs.declared.keeper.Keeper.{Ghosts}
use Rattle.slon_model.specs.Place.{Counter}
use Rattle.node_keeper.specs.Fused.{fuse_kept}
use Rattle.txn_core.specs.Locks.{Locks}
use Rattle.node_state.specs.declared.memory.Identity.{Identity}
use Rattle.node_state.specs.declared.memory.Members.{Members}
use Rattle.node_state.specs.Known.{IsKnown}
use Rattle.app_store.specs.declared.begun.Begun.{Begun}
use Rattle.app_store.specs.declared.database.Database.{Database}
use Rattle.app_store.specs.declared.state.State.{State}
use Rattle.app_store.specs.Closed.{Opens, IsClosed}

-- What a database keeps in memory.
pub record Memory : Type 0 where
  pub up : Bool
  -- the stamp of the commit that is in doubt
  pub doubt : Option ℕ
  pub stamp : ℕ
  pub xids : Counter
  pub numbers : Counter
  pub opens : Opens
  pub locks : Locks
  -- the transactions that began since it came up
  pub begun : List Begun
  -- which node it is, and the tables of its sets
  pub identity : Option Identity
  pub members : Members

abbrev pub memory_of : State → Memory
memory_of s =
    record {
      up = s.up;
      doubt = s.doubt;
      stamp = s.stamp;
      xids = s.xids;
      numbers = s.numbers;
      opens = s.opens;
      locks = s.locks;
      begun = s.begun;
      identity = s.node.identity;
      members = s.node.members;
    }

-- the memory with a transaction more, which begins with the action that comes next
abbrev pub with_opened : List ℕ → ℕ → Memory → Memory
with_opened name xid m =
    record m {
      opens = insert m.opens name (record { xid = xid; actions = []; writes = empty });
      begun = m.begun ++ record { xid = xid; number = m.numbers.next } ∷ [];
    }

-- What the code keeps of a database: its store and its memory.
pub record Base : Type 0 where
  pub kept : Kept
  pub memory : Memory

abbrev pub base_with : Kept → State → Base
base_with kept s = record { kept = kept; memory = memory_of s }

abbrev pub base_of : {K : Type 0} {g : Ghosts K} → (K → Kept) → Database K g → Base
base_of kept d = base_with (fuse_kept kept d.keeper) d.state

-- the memory of a database that was just made, with its first numbers
pub record IsFresh (up : Bool) (doubt : Option ℕ) (m : Memory) : Type 0 where
  pub up_is : m.up ≡ up
  pub doubt_is : m.doubt ≡ doubt
  pub stamp : m.stamp ≡ 1
  pub xids : m.xids ≡ record { next = 1; ceiling = 65 }
  pub numbers : m.numbers ≡ record { next = 1; ceiling = 65 }
  pub closed : IsClosed m.opens m.locks
  pub begun : m.begun ≡ []
  pub nobody : IsKnown None m.identity m.members

-- a database that goes down forgets what was open, and nothing else
pub record GoesDown (old new : Memory) : Type 0 where
  pub up : new.up ≡ false
  pub doubt : new.doubt ≡ old.doubt
  pub stamp : new.stamp ≡ old.stamp
  pub xids : new.xids ≡ old.xids
  pub numbers : new.numbers ≡ old.numbers
  pub closed : IsClosed new.opens new.locks
  pub identity : new.identity ≡ old.identity
  pub members : new.members ≡ old.members
