-- How far a run came, and what its next command leads to.
use Rattle.std.specs.Prelude.{◌≡◌, ℕ, Bool, true, false, List, ◌++◌, Option, Some, Result, Ok, Err}
use Rattle.std.specs.List.{AllByRecursion}
use Rattle.slon_base.specs.Outside.{Filed, top}
use Rattle.slon_model.specs.declared.command.Command.{Command}
use Rattle.slon_model.specs.World.{World, Happening, Leads, IsDue, start, commands_of, replies_of, lines_of}
use Rattle.slon_laws.specs.Worlds.{AllSpoken}
use Rattle.session_text.specs.Handing.{Comes}
use Rattle.session_text.specs.Replies.{NumbersFit}
use Rattle.session_reader.specs.Sessions.{Between, Session}
use Rattle.session_reader.specs.Fetching.{Fetching, to_come}
use Rattle.cluster_engine.specs.Agreed.{Clustered, Agrees}
use Rattle.cluster_engine.specs.Calls.{AllQuiet, AllCertain}
use Rattle.cluster_engine.specs.Failing.{IsWithin}
use Rattle.cluster_engine.specs.Telling.{AreTold}
use Rattle.slon_main.specs.declared.run.Stop.{Stop}
use Rattle.slon_main.specs.Running.{Begun, Pieces, NeverFails, NoneArms, RunsSession, StopsAt}

-- the session with commands before its others
abbrev pub behind_commands : List Command → Session → Session
behind_commands commands session = record { commands = commands ++ session.commands; end = session.end }

-- ---- the reader of sessions

-- where a reader is in its files
pub record Point : Type 0 where
  pub reader : Fetching
  pub files : Filed

-- these commands were handed over, and these bytes are to come
pub record Came (names : List ℕ → Option (List ℕ)) (said : Session) (reader : Fetching) (files : Filed) : Type 0
  where
    pub rest : List ℕ
    pub comes : Comes reader.lines files rest
    pub commands : List Command
    pub session : said ≡ behind_commands commands (to_come names Between reader rest)

-- what the next command leads to: further, to the end, or to a stop
abbrev pub ComesOn : (List ℕ → Option (List ℕ)) → Session → Point → Result Bool Stop → Type 0
ComesOn names said new (Ok true) = Came names said new.reader new.files
ComesOn names said new (Ok false) = StopsAt said (Ok tt)
ComesOn names said new (Err stop) = StopsAt said (Err stop)

-- ---- the run

-- where it is: what is read and written, and the databases
pub record Spot : Type 0 where
  pub reader : Fetching
  pub files : Filed
  pub output : Pieces
  pub cluster : Clustered

-- how it came there
pub record Running (b : Begun) (at : Spot) : Type 0 where
  pub rest : List ℕ
  pub comes : Comes at.reader.lines at.files rest
  pub history : List Happening
  pub world : World
  pub leads : Leads (start b.limit) history world
  pub spoken : AllSpoken history
  pub session : b.said ≡ behind_commands (commands_of history) (to_come b.names Between at.reader rest)
  pub fits : AllByRecursion NumbersFit (replies_of history)
  pub written : at.output ≡ Some (lines_of history)
  pub agrees : Agrees world at.cluster
  pub certain : NeverFails b.shelf → NoneArms (commands_of history) →
      IsDue (start b.limit) history world × AllCertain at.cluster
  pub quiet : AllQuiet at.cluster → IsDue (start b.limit) history world
  pub few : NoneArms (commands_of history) → IsWithin b.shelf.promise history at.cluster
  pub told : AreTold history at.cluster

abbrev pub RunsOn : Begun → Spot → Result Bool Stop → Type 0
RunsOn b next (Ok true) = Running b next
RunsOn b next (Ok false) = RunsSession b next.output next.cluster (top next.files.stack) (Ok tt)
RunsOn b next (Err stop) = RunsSession b next.output next.cluster (top next.files.stack) (Err stop)
