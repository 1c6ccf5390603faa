-- The forms of what replies hold, and a whole output.
use Rattle.std.specs.Prelude.{◌≡◌, ℕ, ◌^◌, ◌<◌, ◌==◌, ◌||◌, not, Bool, true, List, [], ◌∷◌, ◌++◌, length}
use Rattle.std.specs.List.{list_all, AllByRecursion}
use Rattle.slonik_script.specs.declared.refusal.ScriptRefusal.{ScriptRefusal}
use Rattle.slonik_script.specs.declared.refusal.ScriptRefusal.TheVariants.{BadToken, BadSyntax, UnknownOption}
use Rattle.slonik_script.specs.declared.refusal.ScriptRefusal.TheVariants.{MissingOption, NotInProfile, NotInTry}
use Rattle.slonik_script.specs.declared.refusal.ScriptRefusal.TheVariants.{Undefined, Depth, NoFile}
use Rattle.slon_model.specs.declared.reply.Answer.{Answer}
use Rattle.slon_model.specs.declared.reply.Answer.TheVariants.{Opened, Acted, Committed, Listed, Status, Statements}
use Rattle.slon_model.specs.declared.reply.Answer.TheVariants.{Emitted, Echoed, Ended, Heard, LostOnTheWay, Applied}
use Rattle.slon_model.specs.declared.reply.Answer.TheVariants.{Fetched}
use Rattle.slon_model.specs.declared.reply.Refusal.{Refusal}
use Rattle.slon_model.specs.declared.reply.Refusal.TheVariants.{Fault, Locked, Full, BadRow, NotEmpty, Down, NoDatabase}
use Rattle.slon_model.specs.declared.reply.Refusal.TheVariants.{IdUsed, IsUp, TooBig, NotInitialised, OtherNode}
use Rattle.slon_model.specs.declared.reply.Refusal.TheVariants.{AlreadyNode, NoNode, NoConninfo, HasReceivers, NoSet}
use Rattle.slon_model.specs.declared.reply.Refusal.TheVariants.{TableExists, NameUsed, NoTable, NoTransaction}
use Rattle.slon_model.specs.declared.reply.Refusal.TheVariants.{NotOrigin, SetLocked, BadWidth, TableUsed, Busy, NoPath}
use Rattle.slon_model.specs.declared.reply.Refusal.TheVariants.{Loop, Behind, NotActive, NotForwarding, StillUsed}
use Rattle.slon_model.specs.declared.reply.Refusal.TheVariants.{NotListed, NotKnown, Off, Severed}
use Rattle.slon_model.specs.declared.reply.Refusal.TheVariants.{SameNode, Script, ScriptUsed, NoScript, NotBuilt}
use Rattle.slon_model.specs.declared.reply.Reply.{Reply}
use Rattle.slon_model.specs.declared.reply.Reply.TheVariants.{Accepted, Refused, InDoubt}
use Rattle.slon_model.specs.Forms.{is_name, is_table_name, is_value, is_line}
use Rattle.slon_model.specs.Printed.{reply_line}

-- ---- numbers

-- how far a node is in the stream of another
abbrev pub ProgressFits : ℕ × ℕ → Type 0
ProgressFits progress = (progress.0 < 2 ^ 32) × (progress.1 < 2 ^ 64)

-- a set and its era
abbrev pub KeptFits : ℕ × ℕ × List ℕ → Type 0
KeptFits kept = (kept.0 < 2 ^ 32) × (kept.1 < 2 ^ 64)

-- The numbers of a reply are of its types.
abbrev pub AnswerFits : Answer → Type 0
AnswerFits (Opened xid) = xid < 2 ^ 64
AnswerFits (Acted number) = number < 2 ^ 64
AnswerFits (Committed actions) = actions < 2 ^ 64
AnswerFits (Listed rows) = length rows < 2 ^ 64
AnswerFits (Status node log progress kept) =
    (node < 2 ^ 32) × (log < 256) × AllByRecursion ProgressFits progress × AllByRecursion KeptFits kept
AnswerFits (Statements count) = count < 2 ^ 64
AnswerFits (Emitted node number) = (node < 2 ^ 32) × (number < 2 ^ 64)
AnswerFits (Ended status) = status < 256
AnswerFits (Heard events confirms) = (events < 2 ^ 64) × (confirms < 2 ^ 64)
AnswerFits (LostOnTheWay events confirms) = (events < 2 ^ 64) × (confirms < 2 ^ 64)
AnswerFits (Applied kind number rows) = (number < 2 ^ 64) × (rows < 2 ^ 64)
AnswerFits (Fetched number rows) = (number < 2 ^ 64) × (rows < 2 ^ 64)
AnswerFits others = Unit {0}

abbrev pub ScriptFits : ScriptRefusal → Type 0
ScriptFits (BadToken line) = line < 2 ^ 64
ScriptFits (BadSyntax place) = place < 2 ^ 64
ScriptFits others = Unit {0}

abbrev pub RefusalFits : Refusal → Type 0
RefusalFits (Fault database count) = count < 2 ^ 64
RefusalFits (Locked xid) = xid < 2 ^ 64
RefusalFits (Full limit) = limit < 2 ^ 32
RefusalFits (BadRow space) = space < 256
RefusalFits (IdUsed id) = id < 2 ^ 32
RefusalFits (TooBig space) = space < 256
RefusalFits (NotInitialised node) = node < 2 ^ 32
RefusalFits (OtherNode node) = node < 2 ^ 32
RefusalFits (AlreadyNode node) = node < 2 ^ 32
RefusalFits (NoNode node) = node < 2 ^ 32
RefusalFits (NoConninfo node) = node < 2 ^ 32
RefusalFits (HasReceivers node) = node < 2 ^ 32
RefusalFits (NoSet set) = set < 2 ^ 32
RefusalFits (NotOrigin set) = set < 2 ^ 32
RefusalFits (SetLocked set) = set < 2 ^ 32
RefusalFits (BadWidth columns) = columns < 2 ^ 64
RefusalFits (Loop set) = set < 2 ^ 32
RefusalFits (NotListed server) = server < 2 ^ 32
RefusalFits (NotKnown node) = node < 2 ^ 32
RefusalFits (Busy xid) = xid < 2 ^ 64
RefusalFits (Off node) = node < 2 ^ 32
RefusalFits (Severed node other) = (node < 2 ^ 32) × (other < 2 ^ 32)
RefusalFits (Behind provider progress number) = (provider < 2 ^ 32) × (progress < 2 ^ 64) × (number < 2 ^ 64)
RefusalFits (NotActive node) = node < 2 ^ 32
RefusalFits (NotForwarding node) = node < 2 ^ 32
RefusalFits (NoPath node) = node < 2 ^ 32
RefusalFits (StillUsed set) = set < 2 ^ 32
RefusalFits (SameNode node) = node < 2 ^ 32
RefusalFits (Script refusal) = ScriptFits refusal
RefusalFits others = Unit {0}

abbrev pub NumbersFit : Reply → Type 0
NumbersFit (Accepted answer) = AnswerFits answer
NumbersFit (Refused refusal) = RefusalFits refusal
NumbersFit (InDoubt database answer) = AnswerFits answer

-- ---- words and texts

-- no space and no newline
abbrev pub is_word_byte : ℕ → Bool
is_word_byte c = not (c == 32 || c == 10)

-- the printed snapshot of a set is one word
abbrev pub KeptHasForm : ℕ × ℕ × List ℕ → Type 0
KeptHasForm kept = list_all is_word_byte kept.2 ≡ true

-- the key and the values of a row are of the form of values
abbrev pub RowHasForm : List ℕ × List (List ℕ) → Type 0
RowHasForm row = (is_value row.0 ≡ true) × (list_all is_value row.1 ≡ true)

abbrev pub AnswerHasForm : Answer → Type 0
AnswerHasForm (Listed rows) = (length rows < 2 ^ 64) × AllByRecursion RowHasForm rows
AnswerHasForm (Status node log progress kept) =
    AnswerFits (Status node log progress kept) × AllByRecursion KeptHasForm kept
AnswerHasForm (Echoed text) = is_line text ≡ true
AnswerHasForm others = AnswerFits others

abbrev pub ScriptHasForm : ScriptRefusal → Type 0
ScriptHasForm (UnknownOption word) = is_line word ≡ true
ScriptHasForm (MissingOption words) = is_line words ≡ true
ScriptHasForm (NotInProfile word) = is_line word ≡ true
ScriptHasForm (NotInTry word) = is_line word ≡ true
ScriptHasForm (Undefined name) = is_line name ≡ true
ScriptHasForm (Depth path) = is_line path ≡ true
ScriptHasForm (NoFile path) = is_line path ≡ true
ScriptHasForm others = ScriptFits others

abbrev pub RefusalHasForm : Refusal → Type 0
RefusalHasForm (Fault database count) = (is_name database ≡ true) × (count < 2 ^ 64)
RefusalHasForm (NotEmpty database) = is_name database ≡ true
RefusalHasForm (Down database) = is_name database ≡ true
RefusalHasForm (NoDatabase database) = is_line database ≡ true
RefusalHasForm (IsUp database) = is_name database ≡ true
RefusalHasForm (TableExists table) = is_table_name table ≡ true
RefusalHasForm (NameUsed name) = is_name name ≡ true
RefusalHasForm (NoTable table) = is_line table ≡ true
RefusalHasForm (NoTransaction transaction) = is_name transaction ≡ true
RefusalHasForm (TableUsed table) = is_line table ≡ true
RefusalHasForm (Script refusal) = ScriptHasForm refusal
RefusalHasForm (ScriptUsed name) = is_name name ≡ true
RefusalHasForm (NoScript name) = is_name name ≡ true
RefusalHasForm (NotBuilt word) = is_line word ≡ true
RefusalHasForm others = RefusalFits others

-- The names, keys, values, texts and numbers of a reply are of their forms.
abbrev pub HasForm : Reply → Type 0
HasForm (Accepted answer) = AnswerHasForm answer
HasForm (Refused refusal) = RefusalHasForm refusal
HasForm (InDoubt database answer) = (is_name database ≡ true) × AnswerHasForm answer

-- the lines of replies, one behind the other
abbrev pub lines_text : List Reply → List ℕ
lines_text [] = []
lines_text (reply ∷ more) = reply_line reply ++ lines_text more
