-- What the parts of a run do.
use Rattle.std.specs.Prelude.{◌≡◌, ℕ, suc, zero, ◌+◌, ◌-◌, ◌≤◌, Bool, true, false, List, [], ◌∷◌, ◌++◌, length, take}
use Rattle.std.specs.Prelude.{◌||◌, Option, Some, None, Result, Ok, Err}
use Rattle.std.specs.List.{AllByRecursion}
use Rattle.std.specs.Str.Lines.{lines}
use Rattle.slon_base.specs.Counts.{Rose}
use Rattle.slon_base.specs.Outside.{Filed, with_piece}
use Rattle.slon_base.specs.Shelf.{Shelved}
use Rattle.slon_model.specs.declared.command.Command.{Command}
use Rattle.slon_model.specs.declared.command.Command.TheVariants.{Database}
use Rattle.slon_model.specs.declared.reply.Answer.TheVariants.{Done}
use Rattle.slon_model.specs.declared.reply.Reply.{Reply}
use Rattle.slon_model.specs.declared.reply.Reply.TheVariants.{Accepted}
use Rattle.slon_model.specs.Printed.{reply_line}
use Rattle.slon_model.specs.World.{World, start, Happening, Leads, IsDue, commands_of, replies_of, lines_of}
use Rattle.session_text.specs.Reading.{session_limit}
use Rattle.session_text.specs.Handing.{Comes, behind}
use Rattle.session_text.specs.Replies.{HasForm, NumbersFit}
use Rattle.session_reader.specs.Sessions.{Mode, Between, Ended, BadAt, PastLimit, Session, stopped, in_front, sized}
use Rattle.session_reader.specs.Sessions.{block_of, closed, session_from, session_of}
use Rattle.session_reader.specs.Fetching.{Fetching, ahead_of, to_come, Broken}
use Rattle.cluster_engine.specs.Agreed.{Agrees, Clustered}
use Rattle.cluster_engine.specs.Calls.{arms_later, grant, GoesOn, AllQuiet, StaysQuiet, StaysCertain}
use Rattle.cluster_engine.specs.Failing.{IsWithin, Pays}
use Rattle.cluster_engine.specs.Telling.{AreTold, KeepsTelling}
use Rattle.slon_main.specs.declared.run.Stop.{Stop}
use Rattle.slon_main.specs.declared.run.Stop.TheVariants.{BadLine, Read, Write, NoMemory, NoStore, TooLong}
use Rattle.follow_laws.specs.Subscribed.{Subscribed}

-- the shelf tells that its stores begin empty and tell their rows
abbrev pub Tells : Shelved → Type 0
Tells shelf = (place : ℕ) → ((shelf.promise place).begins_empty ≡ true) × ((shelf.promise place).tells_rows ≡ true)

-- it tells also that they fail at no call
abbrev pub NeverFails : Shelved → Type 0
NeverFails shelf = (place : ℕ) → shelf.promise place ≡
    record { begins_empty = true; tells_rows = true; can_fail = Some 0 }

-- what a call leaves of the shelf: its promises, and a count that never falls
pub record Shelves (old new : Shelved) : Type 0 where
  pub promise : new.promise ≡ old.promise
  pub later : old.faults ≤ new.faults

-- what a shelf was asked for, where that is told
abbrev pub Asked : Type 0
Asked = Option (List (Option (List ℕ) × ℕ))

-- the shelf was asked for this number of stores, in no folder, at the places 0, 1, 2 and so on
abbrev pub asks : ℕ → List (Option (List ℕ) × ℕ)
asks zero = []
asks (suc n) = asks n ++ (None, n) ∷ []

-- the shelf was asked for exactly as many stores as were given
unfoldable pub IsAsked : Asked → ℕ → Type 0
IsAsked asked given = asked ≡ Some (asks given)

abbrev pub AreAsked : Asked → Type 0
AreAsked asked = (n : ℕ) × (asked ≡ Some (asks n))

-- What a call asks the shelf for: the stores that it is given, and one more where it stops for want of one.
abbrev pub AsksOn : {T : Type 0} → Asked → Clustered → Asked → Clustered → Result T Stop → Type 0
AsksOn asked old now new (Ok x) = IsAsked asked old.given → IsAsked now new.given
AsksOn asked old now new (Err stop) = IsAsked asked old.given → AreAsked now

-- the counts of the three objects
pub record Counts : Type 0 where
  pub files : ℕ
  pub shelf : ℕ
  pub out : ℕ

abbrev pub counts : ℕ → ℕ → ℕ → Counts
counts files shelf out = record { files = files; shelf = shelf; out = out }

-- a stop that the writing of a reply can have
abbrev pub is_of_output : Stop → Bool
is_of_output Write = true
is_of_output NoMemory = true
is_of_output others = false

-- A run stops for a fault of an object only where the count of that object rose.
abbrev pub HasCause : {T : Type 0} → Counts → Counts → Result T Stop → Type 0
HasCause old new (Err Read) = Rose old.files new.files
HasCause old new (Err Write) = Rose old.out new.out
HasCause old new (Err (NoStore name)) = Rose old.shelf new.shelf
HasCause old new others = Unit {0}

-- the shelf gave no store
abbrev pub is_no_store : Stop → Bool
is_no_store (NoStore name) = true
is_no_store others = false

-- a stop that a command can have
abbrev pub is_of_command : Stop → Bool
is_of_command stop = is_no_store stop || is_of_output stop

-- a stop that a command at its database can have
abbrev pub is_of_store : Stop → Bool
is_of_store Write = false
is_of_store others = is_of_command others

-- what a call that fetches the next command answers
abbrev pub FetchesSo : (List ℕ → Option (List ℕ)) → Session → Fetching → Filed → Result (Option Command) Stop → Type 0
FetchesSo names before new files (Ok (Some command)) =
    (rest : List ℕ) × Comes new.lines files rest × (before ≡ in_front command (to_come names Between new rest))
FetchesSo names before new files (Ok None) = before ≡ stopped Ended
FetchesSo names before new files (Err (BadLine number)) = before ≡ stopped (BadAt number)
FetchesSo names before new files (Err TooLong) = before ≡ stopped PastLimit
FetchesSo names before new files (Err Read) = Broken names before new files
FetchesSo names before new files (Err NoMemory) = Unit {0}
FetchesSo names before new files (Err others) = ⊥

-- A command goes on by a step that the rules allow, and its reply is written.
pub record Replies (shelf : Shelved) (command : Command) (w : World) (before written : Option (List (List ℕ)))
    (old new : Clustered) : Type 0 where
  pub reply : Reply
  pub goes : GoesOn command w reply new
  pub fits : NumbersFit reply
  pub written_is : written ≡ with_piece (reply_line reply) before
  pub certain : NeverFails shelf → StaysCertain command old reply new
  pub quiet : StaysQuiet reply old new
  pub pays : Pays shelf.promise command old reply new
  pub tells : KeepsTelling command old reply new

-- no store was given to the database that a command was to make, and that might be made
abbrev pub NamesMade : Command → Clustered → Stop → Type 0
NamesMade command old (NoStore name) = (command ≡ Database name) × (grant name old ≡ Accepted Done)
NamesMade command old others = Unit {0}

-- the pieces that were written, where they are told
abbrev pub Pieces : Type 0
Pieces = Option (List (List ℕ))

-- of its reply only the first bytes were written
abbrev pub RepliesInPart : Shelved → Command → World → List (List ℕ) → Pieces → Clustered → Clustered → Type 0
RepliesInPart shelf command w lines written old new =
    (line : List ℕ) × (n : ℕ) × Replies shelf command w (Some lines) (Some (lines ++ line ∷ [])) old new
    × (written ≡ Some (lines ++ take n line ∷ []))

-- what a run begins with: the shelf, how many databases it allows, what the names of files hold, and what the session
-- says
pub record Begun : Type 0 where
  pub shelf : Shelved
  pub limit : ℕ
  pub names : List ℕ → Option (List ℕ)
  pub said : Session

-- the run of a session of these bytes
abbrev pub begun : Shelved → ℕ → (List ℕ → Option (List ℕ)) → List ℕ → Begun
begun shelf limit names bytes =
    record { shelf = shelf; limit = limit; names = names; said = session_of names bytes }

-- no database yet, and no store was given
pub record Starts (limit : ℕ) (cluster : Clustered) : Type 0 where
  pub agrees : Agrees (start limit) cluster
  pub given : cluster.given ≡ 0

-- no command has a store fail later
abbrev pub NoneArms : List Command → Type 0
NoneArms commands = AllByRecursion (λ command. arms_later command ≡ false) commands

-- A history of exactly these commands that the rules allow was run, its lines were written, a piece each, and the
-- databases agree with the rules after it. Its replies have their forms, so that the bytes fix them. Where no store can
-- fail, or none has counted a fault at the end, each reply is the one that is due. Where no command has a store fail,
-- the replies that tell of faults of a database are at most as many as the calls of its store that can fail. What each
-- store is told to fail is what the last crash of its database said, or nothing once that came up. Nodes that subscribe
-- hold what their origins held.
pub record Ran (shelf : Shelved) (limit : ℕ) (said : List Command) (output : Pieces) (cluster : Clustered) : Type 0
  where
    pub history : List Happening
    pub world : World
    pub leads : Leads (start limit) history world
    pub commands : commands_of history ≡ said
    pub written : output ≡ Some (lines_of history)
    pub formed : AllByRecursion HasForm (replies_of history)
    pub agrees : Agrees world cluster
    pub due : NeverFails shelf → NoneArms said → IsDue (start limit) history world
    pub quiet : AllQuiet cluster → IsDue (start limit) history world
    pub few : NoneArms said → IsWithin shelf.promise history cluster
    pub told : AreTold history cluster
    pub subscribed : Subscribed limit history world

-- the first of these commands were run so
pub record RanOn (shelf : Shelved) (limit : ℕ) (said : List Command) (output : Pieces) (cluster : Clustered) : Type 0
  where
    pub first : List Command
    pub others : List Command
    pub parts : said ≡ first ++ others
    pub ran : Ran shelf limit first output cluster

-- the first of these commands were run so, but that of the last line only the first bytes were written
pub record RanInPart (shelf : Shelved) (limit : ℕ) (said : List Command) (output : Pieces) : Type 0 where
  pub before : List (List ℕ)
  pub line : List ℕ
  pub n : ℕ
  pub cluster : Clustered
  pub on : RanOn shelf limit said (Some (before ++ line ∷ [])) cluster
  pub cut : output ≡ Some (before ++ take n line ∷ [])

-- the first of these commands is to make a database of this name, which might be made
pub record IsMaking (name : List ℕ) (cluster : Clustered) (others : List Command) : Type 0 where
  pub behind : List Command
  pub is : others ≡ Database name ∷ behind
  pub free : grant name cluster ≡ Accepted Done

-- These commands are behind what was read whole, as the files failed: the first line of these bytes broke off, what was
-- read of it ends no line, the rest is left in the file, and all that was read lies within the limit; or a file failed
-- that a script includes, of which all lines were read.
pub data IsUnread (names : List ℕ → Option (List ℕ)) (unread : Option (List ℕ)) (others : List Command) : Type 0 where
  InLine : (mode : Mode) (number taken : ℕ) (part left : List ℕ) → behind part ≡ None → unread ≡ Some left →
      taken + length part ≤ session_limit →
      others ≡ (session_from names mode number (session_limit - taken)
      (sized (lines (part ++ left)) (part ++ left))).commands → IsUnread names unread others
  InFile : (name text : List ℕ) (number space : ℕ) (ahead left : List ℕ) → unread ≡ Some left →
      others ≡ (closed name (block_of names space text) (ahead_of names number (ahead ++ left))).commands →
      IsUnread names unread others

-- At its end, at a bad line and at the greatest number of bytes a run has run all commands before it. Without a store
-- it has run all before the one that was to make the database, and at a fault of a file exactly those of what was read
-- whole. Where the output fails, what was written is cut in the line of the last reply, and where there is no memory it
-- is whole lines.
abbrev pub RunsSession : Begun → Pieces → Clustered → Option (List ℕ) → Result (Unit {0}) Stop → Type 0
RunsSession b written cluster unread (Ok u) =
    Ran b.shelf b.limit b.said.commands written cluster × (b.said.end ≡ Ended)
RunsSession b written cluster unread (Err (BadLine number)) =
    Ran b.shelf b.limit b.said.commands written cluster × (b.said.end ≡ BadAt number)
RunsSession b written cluster unread (Err TooLong) =
    Ran b.shelf b.limit b.said.commands written cluster × (b.said.end ≡ PastLimit)
RunsSession b written cluster unread (Err Read) =
    (on : RanOn b.shelf b.limit b.said.commands written cluster) × IsUnread b.names unread on.others
RunsSession b written cluster unread (Err (NoStore name)) =
    (on : RanOn b.shelf b.limit b.said.commands written cluster) × IsMaking name cluster on.others
RunsSession b written cluster unread (Err Write) = RanInPart b.shelf b.limit b.said.commands written
RunsSession b written cluster unread (Err NoMemory) =
    (c : Clustered) × RanOn b.shelf b.limit b.said.commands written c

-- where a run ends
abbrev pub StopsAt : Session → Result (Unit {0}) Stop → Type 0
StopsAt said (Ok u) = said.end ≡ Ended
StopsAt said (Err (BadLine number)) = said.end ≡ BadAt number
StopsAt said (Err TooLong) = said.end ≡ PastLimit
StopsAt said (Err others) = Unit {0}
