-- What a turn comes to by which a node polls another one, on all databases of a session.
use Rattle.std.specs.Prelude.{◌≡◌, ◌||◌, ℕ, true, List, Some}
use Rattle.std.specs.FinMap.{get}
use Rattle.slon_base.specs.declared.fault.Halt.{Halt as HaltOf}
use Rattle.slon_model.specs.declared.reply.Reply.{Reply}
use Rattle.slon_model.specs.Names.{Named}
use Rattle.slon_model.specs.Sessions.{World}
use Rattle.slon_model.specs.Turns.{at_node, is_cut}
use Rattle.slon_model.specs.Polls.{polled, stated_of}
use Rattle.slon_model.specs.World.{is_of}
use Rattle.app_store.specs.Base.{Base}
use Rattle.slonik_exec.specs.Databases.{AreReady, told_by}
use Rattle.slonik_exec.specs.Executing.{Comes}
use Rattle.slon_turns.specs.declared.polling.Listen.{Listen}
use Rattle.slon_turns.specs.Holding.{Holdings, HoldAll, KeepsIn, WaitsIn}
use Rattle.slon_turns.specs.Polling.{left_when}

-- What the turn comes to: the reply and the databases, of which only those of the node and of the server are told of;
-- and what is held at each database behind it.
pub record TakesPoll (l : Listen) (w : World) (held : Holdings) (reply : Reply) (new : Named Base)
    (left : Holdings) : Type 0 where
  pub comes : Comes w (stated_of l.delivery (polled l.node l.server w)) reply new
  pub own : (name : List ℕ) (halt : HaltOf) → told_by reply ≡ Some (name, halt) →
      (is_of name (at_node l.node w) || is_of name (at_node l.server w)) ≡ true
  pub waits : (name : List ℕ) → WaitsIn name w.memory (get held name) →
      WaitsIn name (left_when l.delivery (polled l.node l.server w) reply w.memory) (get left name)
  pub keeps : (name : List ℕ) → KeepsIn name w.memory (get held name) →
      KeepsIn name (left_when l.delivery (polled l.node l.server w) reply w.memory) (get left name)

-- What the code keeps of all databases, and of what their nodes have in memory.
pub record Kept : Type 0 where
  pub bases : Named Base
  pub held : Holdings

-- from all databases that agree, where these slons are on, and the two nodes are cut off or not
abbrev pub Polls : Listen → List ℕ → Kept → Reply → Kept → Type 0
Polls l started old reply new =
    (w : World) → AreReady w old.bases → w.memory.started ≡ started → is_cut l.node l.server w.memory ≡ l.cut →
    HoldAll w old.held → TakesPoll l w old.held reply new.bases new.held
