-- What a word begins: a command, an option, or one that is left out.
use Rattle.std.specs.Prelude.{ℕ, ◌&&◌, ◌||◌, if◌then◌else◌, Bool, true, false, List, [], ◌∷◌, codes, Option, Some, None}
use Rattle.slonik_tokens.specs.declared.token.Token.{Token}
use Rattle.slonik_tokens.specs.Tokens.{is_word}
use Rattle.slonik_parse.specs.declared.form.Verb.{Verb}
use Rattle.slonik_parse.specs.declared.form.Verb.TheVariants.{InitCluster, StoreNode, DropNode, StorePath, DropPath}
use Rattle.slonik_parse.specs.declared.form.Verb.TheVariants.{CreateSet, DropSet, SetAddTable, SubscribeSet}
use Rattle.slonik_parse.specs.declared.form.Verb.TheVariants.{UnsubscribeSet, LockSet, UnlockSet, MoveSet, Failover}
use Rattle.slonik_parse.specs.declared.form.Verb.TheVariants.{Sync, WaitForEvent, Sleep}
use Rattle.slonik_parse.specs.declared.form.OptionName.{OptionName}
use Rattle.slonik_parse.specs.Forms.{options_of, option_words}

-- the tokens begin with these words
abbrev pub begins_with : List (List ℕ) → List Token → Bool
begins_with [] tokens = true
begins_with (word ∷ words) [] = false
begins_with (word ∷ words) (token ∷ tokens) = is_word word token && begins_with words tokens

-- a command that is left out begins here
unfoldable pub is_left_out : List Token → Bool
is_left_out tokens =
    begins_with (codes "clone" ∷ codes "prepare" ∷ []) tokens
    || begins_with (codes "clone" ∷ codes "finish" ∷ []) tokens
    || begins_with (codes "execute" ∷ codes "script" ∷ []) tokens
    || begins_with (codes "repair" ∷ codes "config" ∷ []) tokens
    || begins_with (codes "restart" ∷ codes "node" ∷ []) tokens
    || begins_with (codes "update" ∷ codes "functions" ∷ []) tokens
    || begins_with (codes "uninstall" ∷ codes "node" ∷ []) tokens
    || begins_with (codes "store" ∷ codes "listen" ∷ []) tokens
    || begins_with (codes "drop" ∷ codes "listen" ∷ []) tokens
    || begins_with (codes "merge" ∷ codes "set" ∷ []) tokens
    || begins_with (codes "set" ∷ codes "add" ∷ codes "sequence" ∷ []) tokens
    || begins_with (codes "set" ∷ codes "drop" ∷ codes "sequence" ∷ []) tokens
    || begins_with (codes "set" ∷ codes "drop" ∷ codes "table" ∷ []) tokens
    || begins_with (codes "set" ∷ codes "move" ∷ codes "sequence" ∷ []) tokens
    || begins_with (codes "set" ∷ codes "move" ∷ codes "table" ∷ []) tokens

-- a command begins here that is not allowed in a try block
unfoldable pub is_not_in_try : List Token → Bool
is_not_in_try tokens =
    begins_with (codes "wait" ∷ codes "for" ∷ codes "event" ∷ []) tokens
    || begins_with (codes "sleep" ∷ []) tokens
    || begins_with (codes "echo" ∷ []) tokens
    || begins_with (codes "exit" ∷ []) tokens
    || begins_with (codes "failover" ∷ []) tokens
    || begins_with (codes "try" ∷ []) tokens

-- an option that is left out begins here, in a command of this verb
unfoldable pub is_option_left_out : Verb → List Token → Bool
is_option_left_out SubscribeSet tokens = begins_with (codes "omit" ∷ codes "copy" ∷ []) tokens
is_option_left_out SetAddTable tokens =
    begins_with (codes "tables" ∷ []) tokens || begins_with (codes "add" ∷ codes "sequences" ∷ []) tokens
is_option_left_out _ tokens = false

-- the second of the tokens is this word
unfoldable pub goes_on_with : List ℕ → List Token → Bool
goes_on_with word [] = false
goes_on_with word (first ∷ []) = false
goes_on_with word (first ∷ second ∷ more) = is_word word second

-- the command that begins with STORE, by its second word
unfoldable pub store_at : List Token → Verb
store_at tokens = if goes_on_with (codes "path") tokens then StorePath else StoreNode

-- the command that begins with DROP, by its second word
unfoldable pub drop_at : List Token → Verb
drop_at tokens = if goes_on_with (codes "path") tokens then DropPath
    else (if goes_on_with (codes "set") tokens then DropSet else DropNode)

-- the command on sets that begins with this token
unfoldable pub set_verb_at : Token → Option Verb
set_verb_at token =
    if is_word (codes "create") token then Some CreateSet
    else (if is_word (codes "set") token then Some SetAddTable
    else (if is_word (codes "subscribe") token then Some SubscribeSet
    else (if is_word (codes "unsubscribe") token then Some UnsubscribeSet
    else (if is_word (codes "lock") token then Some LockSet
    else (if is_word (codes "unlock") token then Some UnlockSet
    else (if is_word (codes "move") token then Some MoveSet
    else None))))))

-- the command with options that begins with this token, the first of the tokens
unfoldable pub verb_at : Token → List Token → Option Verb
verb_at token tokens =
    if is_word (codes "init") token then Some InitCluster
    else (if is_word (codes "store") token then Some (store_at tokens)
    else (if is_word (codes "drop") token then Some (drop_at tokens)
    else (if is_word (codes "failover") token then Some Failover
    else (if is_word (codes "sync") token then Some Sync
    else (if is_word (codes "wait") token then Some WaitForEvent
    else (if is_word (codes "sleep") token then Some Sleep
    else set_verb_at token))))))

-- the first of these words is the token
abbrev pub begins_so : Token → List (List ℕ) → Bool
begins_so token [] = false
begins_so token (word ∷ words) = is_word word token

-- the option begins with this token
unfoldable pub begins_option : Token → OptionName → Bool
begins_option token option = begins_so token (option_words option)

-- the first of these options that begins with the token
abbrev pub option_among : List OptionName → Token → Option OptionName
option_among [] token = None
option_among (option ∷ options) token = if begins_option token option then Some option else option_among options token

-- the option of the command that begins with this token
unfoldable pub option_at : Verb → Token → Option OptionName
option_at verb token = option_among (options_of verb) token
