-- How a worked session is computed: each reply is the one that is due, or what a fate leads to.
use Rattle.std.proofs.Common.{ℕ, List, [], ◌∷◌, map, Option, Some, None}
use Rattle.slonik_script.specs.declared.script.Command.{Command as Order}
use Rattle.slonik_script.specs.declared.script.Statement.TheVariants.{Single}
use Rattle.slon_model.specs.declared.reading.Reading.TheVariants.{Read}
use Rattle.slon_model.specs.declared.reply.Answer.TheVariants.{Acted}
use Rattle.slon_model.specs.declared.reply.Reply.{Reply}
use Rattle.slon_model.specs.declared.reply.Reply.TheVariants.{Accepted}
use Rattle.slon_model.specs.Names.{find_named}
use Rattle.slon_model.specs.Rows.{Change}
use Rattle.slon_model.specs.Place.{Place}
use Rattle.slon_model.specs.Moves.{Writes, done}
use Rattle.slon_model.specs.Deciding.{Fate}
use Rattle.slon_model.specs.Tasks.{Act, Subject, OnAll, ToRead, ToStep, ToForget}
use Rattle.slon_model.specs.Sessions.{World, changed}
use Rattle.slon_model.specs.World.{due_on, after_on, reply_by, world_by}

-- A step of a worked session: a command; an act that comes to this fate; or a write of a transaction of this id that is
-- taken as accepted, since the maps of rows do not compute.
pub data Worked : Type 0 where
  Asks : (subject : Subject) → Worked
  Meets : (act : Act) (fate : Fate) → Worked
  Takes : (database : List ℕ) (xid : ℕ) (table : List ℕ) (change : Change) → Worked

abbrev number_of : Option Place → ℕ
number_of None = 0
number_of (Some p) = p.numbers.next

abbrev written_at : List ℕ → ℕ → List ℕ → Change → Option Place → World → World
written_at database xid table change None w = w
written_at database xid table change (Some p) w = changed database (done (Writes xid table change) p) w

abbrev pub said : World → Worked → Reply
said w (Asks subject) = due_on subject w
said w (Meets act fate) = reply_by act fate w
said w (Takes database xid table change) = Accepted (Acted (number_of (find_named database w.places)))

abbrev pub went : World → Worked → World
went w (Asks subject) = after_on subject w
went w (Meets act fate) = world_by act fate w
went w (Takes database xid table change) = written_at database xid table change (find_named database w.places) w

abbrev pub replies : World → List Worked → List Reply
replies w [] = []
replies w (s ∷ ss) = said w s ∷ replies (went w s) ss

-- ---- scripts

-- The cluster of a script, and its NODE lines.
pub record Head : Type 0 where
  pub cluster : List ℕ
  pub nodes : List (ℕ × List ℕ)

-- a script of these statements is read
abbrev pub reads : List ℕ → Head → List Order → Worked
reads name head orders =
    Asks (OnAll (ToRead name (Read (record {
      cluster = head.cluster;
      nodes = head.nodes;
      statements = map (λ o. Single o) orders;
    }))))

abbrev pub step : List ℕ → Worked
step name = Asks (OnAll (ToStep name))

abbrev pub kill : List ℕ → Worked
kill name = Asks (OnAll (ToForget name))

-- a script of one statement, which is run
abbrev pub tried : List ℕ → Head → Order → List Worked → List Worked
tried name head order more = reads name head (order ∷ []) ∷ step name ∷ more

-- and is refused, so that its name is free again
abbrev pub refused_each : List ℕ → Head → List Order → List Worked → List Worked
refused_each name head [] more = more
refused_each name head (order ∷ orders) more = tried name head order (refused_each name head orders more)
