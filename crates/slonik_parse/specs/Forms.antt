-- The commands of the language and their options, with the words that they are written with.
use Rattle.std.specs.Prelude.{ℕ, List, [], ◌∷◌, ◌++◌, codes}
use Rattle.slonik_parse.specs.declared.form.Verb.{Verb}
use Rattle.slonik_parse.specs.declared.form.Verb.TheVariants.{InitCluster, StoreNode, DropNode, StorePath, DropPath}
use Rattle.slonik_parse.specs.declared.form.Verb.TheVariants.{CreateSet, DropSet, SetAddTable, SubscribeSet}
use Rattle.slonik_parse.specs.declared.form.Verb.TheVariants.{UnsubscribeSet, LockSet, UnlockSet, MoveSet, Failover}
use Rattle.slonik_parse.specs.declared.form.Verb.TheVariants.{Sync, WaitForEvent, Sleep}
use Rattle.slonik_parse.specs.declared.form.OptionName.{OptionName}
use Rattle.slonik_parse.specs.declared.form.OptionName.TheVariants.{Id, Comment, EventNode, Server, Client, Conninfo}
use Rattle.slonik_parse.specs.declared.form.OptionName.TheVariants.{Connretry, Origin, SetId, FullyQualifiedName, Key}
use Rattle.slonik_parse.specs.declared.form.OptionName.TheVariants.{Provider, Receiver, Forward, OldOrigin, NewOrigin}
use Rattle.slonik_parse.specs.declared.form.OptionName.TheVariants.{BackupNode, AwaitedOrigin, Confirmed, WaitOn}
use Rattle.slonik_parse.specs.declared.form.OptionName.TheVariants.{Timeout, Seconds}

-- the words of a command
unfoldable pub verb_words : Verb → List (List ℕ)
verb_words InitCluster = codes "init" ∷ codes "cluster" ∷ []
verb_words StoreNode = codes "store" ∷ codes "node" ∷ []
verb_words DropNode = codes "drop" ∷ codes "node" ∷ []
verb_words StorePath = codes "store" ∷ codes "path" ∷ []
verb_words DropPath = codes "drop" ∷ codes "path" ∷ []
verb_words CreateSet = codes "create" ∷ codes "set" ∷ []
verb_words DropSet = codes "drop" ∷ codes "set" ∷ []
verb_words SetAddTable = codes "set" ∷ codes "add" ∷ codes "table" ∷ []
verb_words SubscribeSet = codes "subscribe" ∷ codes "set" ∷ []
verb_words UnsubscribeSet = codes "unsubscribe" ∷ codes "set" ∷ []
verb_words LockSet = codes "lock" ∷ codes "set" ∷ []
verb_words UnlockSet = codes "unlock" ∷ codes "set" ∷ []
verb_words MoveSet = codes "move" ∷ codes "set" ∷ []
verb_words Failover = codes "failover" ∷ []
verb_words Sync = codes "sync" ∷ []
verb_words WaitForEvent = codes "wait" ∷ codes "for" ∷ codes "event" ∷ []
verb_words Sleep = codes "sleep" ∷ []

-- the words of an option
unfoldable pub option_words : OptionName → List (List ℕ)
option_words Id = codes "id" ∷ []
option_words Comment = codes "comment" ∷ []
option_words EventNode = codes "event" ∷ codes "node" ∷ []
option_words Server = codes "server" ∷ []
option_words Client = codes "client" ∷ []
option_words Conninfo = codes "conninfo" ∷ []
option_words Connretry = codes "connretry" ∷ []
option_words Origin = codes "origin" ∷ []
option_words SetId = codes "set" ∷ codes "id" ∷ []
option_words FullyQualifiedName = codes "fully" ∷ codes "qualified" ∷ codes "name" ∷ []
option_words Key = codes "key" ∷ []
option_words Provider = codes "provider" ∷ []
option_words Receiver = codes "receiver" ∷ []
option_words Forward = codes "forward" ∷ []
option_words OldOrigin = codes "old" ∷ codes "origin" ∷ []
option_words NewOrigin = codes "new" ∷ codes "origin" ∷ []
option_words BackupNode = codes "backup" ∷ codes "node" ∷ []
option_words AwaitedOrigin = codes "origin" ∷ []
option_words Confirmed = codes "confirmed" ∷ []
option_words WaitOn = codes "wait" ∷ codes "on" ∷ []
option_words Timeout = codes "timeout" ∷ []
option_words Seconds = codes "seconds" ∷ []

-- the words with one space between them
abbrev pub spaced : List (List ℕ) → List ℕ
spaced [] = []
spaced (word ∷ []) = word
spaced (word ∷ next ∷ words) = word ++ codes " " ++ spaced (next ∷ words)

unfoldable pub option_text : OptionName → List ℕ
option_text option = spaced (option_words option)

-- the options of a command, the required ones first
unfoldable pub options_of : Verb → List OptionName
options_of InitCluster = Id ∷ Comment ∷ []
options_of StoreNode = Id ∷ EventNode ∷ Comment ∷ []
options_of DropNode = Id ∷ EventNode ∷ []
options_of StorePath = Server ∷ Client ∷ Conninfo ∷ Connretry ∷ []
options_of DropPath = Server ∷ Client ∷ []
options_of CreateSet = Id ∷ Origin ∷ Comment ∷ []
options_of SetAddTable = SetId ∷ Origin ∷ Id ∷ FullyQualifiedName ∷ Key ∷ Comment ∷ []
options_of SubscribeSet = Id ∷ Provider ∷ Receiver ∷ Forward ∷ []
options_of UnsubscribeSet = Id ∷ Receiver ∷ []
options_of MoveSet = Id ∷ OldOrigin ∷ NewOrigin ∷ []
options_of Failover = Id ∷ BackupNode ∷ []
options_of Sync = Id ∷ []
options_of WaitForEvent = AwaitedOrigin ∷ Confirmed ∷ WaitOn ∷ Timeout ∷ []
options_of Sleep = Seconds ∷ []
options_of others = Id ∷ Origin ∷ []
