-- The printed form of replies and of whole histories.
use Rattle.std.specs.Prelude.{ℕ, List, [], ◌∷◌, ◌++◌, length, codes}
use Rattle.std.specs.Fmt.{decimal}
use Rattle.slonik_script.specs.declared.refusal.ScriptRefusal.{ScriptRefusal}
use Rattle.slonik_script.specs.declared.refusal.ScriptRefusal.TheVariants.{BadToken, BadSyntax, UnknownOption}
use Rattle.slonik_script.specs.declared.refusal.ScriptRefusal.TheVariants.{MissingOption, NoPreamble, NotInProfile}
use Rattle.slonik_script.specs.declared.refusal.ScriptRefusal.TheVariants.{NotInTry, Undefined, Depth, NoFile, TooMany}
use Rattle.slon_model.specs.declared.reply.Answer.{Answer}
use Rattle.slon_model.specs.declared.reply.Answer.TheVariants.{Done, Opened, Acted, Unchanged, Committed, Listed, Kept}
use Rattle.slon_model.specs.declared.reply.Answer.TheVariants.{Lost, Status, Statements, Emitted, Echoed, Ended, Heard}
use Rattle.slon_model.specs.declared.reply.Answer.TheVariants.{LostOnTheWay, Applied, Fetched}
use Rattle.slon_model.specs.declared.reply.EventKind.{EventKind}
use Rattle.slon_model.specs.declared.reply.EventKind.TheVariants as kind
use Rattle.slon_model.specs.declared.reply.Refusal.{Refusal}
use Rattle.slon_model.specs.declared.reply.Refusal.TheVariants.{Fault, Locked, Full, BadRow, NotEmpty, Down, NoDatabase}
use Rattle.slon_model.specs.declared.reply.Refusal.TheVariants.{IdUsed, IsUp, TooBig, NotInitialised, OtherNode}
use Rattle.slon_model.specs.declared.reply.Refusal.TheVariants.{AlreadyNode, NoNode, NoConninfo, HasReceivers, NoSet}
use Rattle.slon_model.specs.declared.reply.Refusal.TheVariants.{TableExists, NameUsed, NoTable, NoTransaction}
use Rattle.slon_model.specs.declared.reply.Refusal.TheVariants.{Duplicate, NotOrigin, SetLocked, BadWidth, TableUsed}
use Rattle.slon_model.specs.declared.reply.Refusal.TheVariants.{Loop, Nothing, NotListed, NotKnown, Busy, Off, Severed}
use Rattle.slon_model.specs.declared.reply.Refusal.TheVariants.{Behind, NotActive, NotForwarding, NoPath, StillUsed}
use Rattle.slon_model.specs.declared.reply.Refusal.TheVariants.{SameNode, Script, ScriptUsed, NoScript}
use Rattle.slon_model.specs.declared.reply.Refusal.TheVariants.{NotBuilt}
use Rattle.slon_model.specs.declared.reply.Reply.{Reply}
use Rattle.slon_model.specs.declared.reply.Reply.TheVariants.{Accepted, Refused, InDoubt}

-- the values of a row joined by commas
abbrev pub joined : List (List ℕ) → List ℕ
joined [] = []
joined (value ∷ []) = value
joined (value ∷ next ∷ more) = value ++ codes "," ++ joined (next ∷ more)

-- ` KEY=V,V`
abbrev pub row_text : List ℕ × List (List ℕ) → List ℕ
row_text row = codes " " ++ row.0 ++ codes "=" ++ joined row.1

-- the rows, one behind the other
abbrev pub rows_text : List (List ℕ × List (List ℕ)) → List ℕ
rows_text [] = []
rows_text (row ∷ more) = row_text row ++ rows_text more

-- ` progress X Q` of each node
abbrev pub progress_text : List (ℕ × ℕ) → List ℕ
progress_text [] = []
progress_text (p ∷ ps) = codes " progress " ++ decimal p.0 ++ codes " " ++ decimal p.1 ++ progress_text ps

-- ` set S era E at SNAPSHOT` of each set
abbrev pub kept_text : List (ℕ × ℕ × List ℕ) → List ℕ
kept_text [] = []
kept_text (k ∷ ks) =
    codes " set " ++ decimal k.0 ++ codes " era " ++ decimal k.1 ++ codes " at " ++ k.2 ++ kept_text ks

-- the word of a kind of events
abbrev pub kind_text : EventKind → List ℕ
kind_text kind.Sync = codes "SYNC"
kind_text kind.StoreNode = codes "STORE_NODE"
kind_text kind.DropNode = codes "DROP_NODE"
kind_text kind.StorePath = codes "STORE_PATH"
kind_text kind.DropPath = codes "DROP_PATH"
kind_text kind.StoreSet = codes "STORE_SET"
kind_text kind.DropSet = codes "DROP_SET"
kind_text kind.SetAddTable = codes "SET_ADD_TABLE"
kind_text kind.SubscribeSet = codes "SUBSCRIBE_SET"
kind_text kind.EnableSubscription = codes "ENABLE_SUBSCRIPTION"
kind_text kind.UnsubscribeSet = codes "UNSUBSCRIBE_SET"
kind_text kind.MoveSet = codes "MOVE_SET"
kind_text kind.AcceptSet = codes "ACCEPT_SET"
kind_text kind.FailoverSet = codes "FAILOVER_SET"

abbrev pub answer_text : Answer → List ℕ
answer_text Done = codes "ok"
answer_text (Opened xid) = codes "ok xid " ++ decimal xid
answer_text (Acted number) = codes "ok action " ++ decimal number
answer_text Unchanged = codes "ok none"
answer_text (Committed actions) = codes "ok actions " ++ decimal actions
answer_text (Listed rows) = codes "ok rows " ++ decimal (length rows) ++ rows_text rows
answer_text Kept = codes "ok kept"
answer_text Lost = codes "ok lost"
answer_text (Status node log progress kept) =
    codes "ok node " ++ decimal node ++ codes " log " ++ decimal log ++ progress_text progress ++ kept_text kept
answer_text (Statements count) = codes "ok statements " ++ decimal count
answer_text (Emitted node number) = codes "ok event " ++ decimal node ++ codes " " ++ decimal number
answer_text (Echoed text) = codes "ok echo " ++ text
answer_text (Ended status) = codes "ok ended " ++ decimal status
answer_text (Heard events confirms) = codes "ok events " ++ decimal events ++ codes " confirms " ++ decimal confirms
answer_text (LostOnTheWay events confirms) =
    codes "ok lost events " ++ decimal events ++ codes " confirms " ++ decimal confirms
answer_text (Applied kind number rows) =
    codes "ok " ++ kind_text kind ++ codes " " ++ decimal number ++ codes " rows " ++ decimal rows
answer_text (Fetched number rows) = codes "ok fetched " ++ decimal number ++ codes " rows " ++ decimal rows

abbrev pub script_text : ScriptRefusal → List ℕ
script_text (BadToken line) = codes "no 80 badtoken " ++ decimal line
script_text (BadSyntax place) = codes "no 81 badsyntax " ++ decimal place
script_text (UnknownOption word) = codes "no 82 unknownoption " ++ word
script_text (MissingOption words) = codes "no 83 missingoption " ++ words
script_text NoPreamble = codes "no 84 nopreamble"
script_text (NotInProfile word) = codes "no 85 notinprofile " ++ word
script_text (NotInTry word) = codes "no 86 notintry " ++ word
script_text (Undefined name) = codes "no 87 undefined " ++ name
script_text (Depth path) = codes "no 88 depth " ++ path
script_text (NoFile path) = codes "no 89 nofile " ++ path
script_text TooMany = codes "no 96 toomany"

abbrev pub refusal_text : Refusal → List ℕ
refusal_text (Fault database count) = codes "no 10 fault " ++ database ++ codes " " ++ decimal count
refusal_text (Locked xid) = codes "no 12 locked " ++ decimal xid
refusal_text (Full limit) = codes "no 13 full " ++ decimal limit
refusal_text (BadRow space) = codes "no 14 badrow " ++ decimal space
refusal_text (NotEmpty database) = codes "no 15 notempty " ++ database
refusal_text (Down database) = codes "no 16 down " ++ database
refusal_text (NoDatabase database) = codes "no 17 nodatabase " ++ database
refusal_text (IdUsed id) = codes "no 18 idused " ++ decimal id
refusal_text (IsUp database) = codes "no 19 isup " ++ database
refusal_text (TooBig space) = codes "no 21 toobig " ++ decimal space
refusal_text (NotInitialised node) = codes "no 41 notinitialised " ++ decimal node
refusal_text (OtherNode node) = codes "no 42 othernode " ++ decimal node
refusal_text (AlreadyNode node) = codes "no 43 alreadynode " ++ decimal node
refusal_text (NoNode node) = codes "no 44 nonode " ++ decimal node
refusal_text (NoConninfo node) = codes "no 45 noconninfo " ++ decimal node
refusal_text (HasReceivers node) = codes "no 46 hasreceivers " ++ decimal node
refusal_text (NoSet set) = codes "no 47 noset " ++ decimal set
refusal_text (TableExists table) = codes "no 50 tableexists " ++ table
refusal_text (NameUsed name) = codes "no 51 nameused " ++ name
refusal_text (NoTable table) = codes "no 52 notable " ++ table
refusal_text (NoTransaction transaction) = codes "no 53 notransaction " ++ transaction
refusal_text Duplicate = codes "no 54 duplicate"
refusal_text (NotOrigin set) = codes "no 55 notorigin " ++ decimal set
refusal_text (SetLocked set) = codes "no 56 setlocked " ++ decimal set
refusal_text (BadWidth columns) = codes "no 57 badwidth " ++ decimal columns
refusal_text (TableUsed table) = codes "no 58 tableused " ++ table
refusal_text (Loop set) = codes "no 59 loop " ++ decimal set
refusal_text Nothing = codes "no 60 nothing"
refusal_text (NotListed server) = codes "no 61 notlisted " ++ decimal server
refusal_text (NotKnown node) = codes "no 62 notknown " ++ decimal node
refusal_text (Behind provider progress number) =
    codes "no 63 behind " ++ decimal provider ++ codes " " ++ decimal progress ++ codes " " ++ decimal number
refusal_text (Busy xid) = codes "no 66 busy " ++ decimal xid
refusal_text (Off node) = codes "no 67 off " ++ decimal node
refusal_text (Severed node other) = codes "no 68 cut " ++ decimal node ++ codes " " ++ decimal other
refusal_text (NotActive node) = codes "no 72 notactive " ++ decimal node
refusal_text (NotForwarding node) = codes "no 73 notforwarding " ++ decimal node
refusal_text (NoPath node) = codes "no 75 nopath " ++ decimal node
refusal_text (StillUsed set) = codes "no 76 stillused " ++ decimal set
refusal_text (SameNode node) = codes "no 78 samenode " ++ decimal node
refusal_text (Script refusal) = script_text refusal
refusal_text (ScriptUsed name) = codes "no 93 scriptused " ++ name
refusal_text (NoScript name) = codes "no 94 noscript " ++ name
refusal_text (NotBuilt word) = codes "no 98 notbuilt " ++ word

-- the line of a reply, without its newline
abbrev pub reply_text : Reply → List ℕ
reply_text (Accepted answer) = answer_text answer
reply_text (Refused refusal) = refusal_text refusal
reply_text (InDoubt database answer) = codes "doubt " ++ database ++ codes " " ++ answer_text answer

-- the line of a reply, with its newline
abbrev pub reply_line : Reply → List ℕ
reply_line reply = reply_text reply ++ codes "\n"
