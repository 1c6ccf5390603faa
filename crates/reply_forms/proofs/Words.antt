-- The words of replies have their forms.
use Rattle.std.specs.List.{AllByRecursion}
use Rattle.slonik_script.specs.declared.refusal.ScriptRefusal.{ScriptRefusal}
use Rattle.slonik_script.specs.declared.refusal.ScriptRefusal.TheVariants.{BadToken, BadSyntax, NoPreamble, TooMany}
use Rattle.slon_model.specs.declared.reply.Answer.{Answer}
use Rattle.slon_model.specs.declared.reply.Answer.TheVariants.{Listed, Status, Echoed}
use Rattle.slon_model.specs.declared.reply.Refusal.{Refusal}
use Rattle.slon_model.specs.declared.reply.Refusal.TheVariants as refused
use Rattle.slon_model.specs.declared.reply.Reply.{Reply}
use Rattle.slon_model.specs.declared.reply.Reply.TheVariants.{Accepted, Refused, InDoubt}
use Rattle.slon_model.specs.Spoken.{IsName, IsTableName, IsLine, wrong_text}
use Rattle.session_text.specs.Replies.{RowHasForm, KeptHasForm, ScriptHasForm, ScriptFits, HasForm, NumbersFit}
use Rattle.session_text.specs.Replies.{RefusalHasForm, RefusalFits, AnswerHasForm, AnswerFits}

-- the words of an answer have their forms
abbrev pub AnswerReads : Answer → Type 0
AnswerReads (Listed rows) = AllByRecursion RowHasForm rows
AnswerReads (Status node log progress kept) = AllByRecursion KeptHasForm kept
AnswerReads (Echoed text) = IsLine text
AnswerReads others = Unit {0}

-- those of a refusal
abbrev pub RefusalReads : Refusal → Type 0
RefusalReads (refused.Fault database count) = IsName database
RefusalReads (refused.NotEmpty database) = IsName database
RefusalReads (refused.Down database) = IsName database
RefusalReads (refused.NoDatabase database) = IsLine database
RefusalReads (refused.IsUp database) = IsName database
RefusalReads (refused.TableExists table) = IsTableName table
RefusalReads (refused.NameUsed name) = IsName name
RefusalReads (refused.NoTable table) = IsLine table
RefusalReads (refused.NoTransaction transaction) = IsName transaction
RefusalReads (refused.TableUsed table) = IsLine table
RefusalReads (refused.Script refusal) = IsLine (wrong_text refusal)
RefusalReads (refused.ScriptUsed name) = IsName name
RefusalReads (refused.NoScript name) = IsName name
RefusalReads (refused.NotBuilt word) = IsLine word
RefusalReads others = Unit {0}

-- those of a reply
abbrev pub Reads : Reply → Type 0
Reads (Accepted answer) = AnswerReads answer
Reads (Refused refusal) = RefusalReads refusal
Reads (InDoubt database answer) = IsName database × AnswerReads answer

-- ---- words and numbers

answer_form : (a : Answer) → AnswerReads a → AnswerFits a → AnswerHasForm a
answer_form (Listed rows) words numbers = (numbers, words)
answer_form (Status node log progress kept) words numbers = (numbers, words)
answer_form (Echoed text) words numbers = words
answer_form others words numbers = numbers

script_form : (r : ScriptRefusal) → IsLine (wrong_text r) → ScriptFits r → ScriptHasForm r
script_form (BadToken line) words numbers = numbers
script_form (BadSyntax place) words numbers = numbers
script_form NoPreamble words numbers = numbers
script_form TooMany words numbers = numbers
script_form others words numbers = words

refusal_form : (r : Refusal) → RefusalReads r → RefusalFits r → RefusalHasForm r
refusal_form (refused.Fault database count) words numbers = (words, numbers)
refusal_form (refused.Script refusal) words numbers = script_form refusal words numbers
refusal_form others words numbers = search

-- a reply whose words have their forms, and whose numbers are of their types
pub has_form : (r : Reply) → Reads r → NumbersFit r → HasForm r
has_form (Accepted answer) words numbers = answer_form answer words numbers
has_form (Refused refusal) words numbers = refusal_form refusal words numbers
has_form (InDoubt database answer) words numbers = (words.0, answer_form answer words.1 numbers)
