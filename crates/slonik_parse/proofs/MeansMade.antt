-- How values and options of a command are wrong.
use Rattle.std.proofs.Common.{◌≡◌, Option, Some, None, Result, Ok, Err}
use Rattle.slonik_tokens.specs.declared.token.Token.{Token}
use Rattle.slonik_parse.specs.declared.form.Verb.{Verb}
use Rattle.slonik_parse.specs.declared.form.Verb.TheVariants.{InitCluster, StoreNode, DropNode, StorePath, DropPath}
use Rattle.slonik_parse.specs.declared.form.Verb.TheVariants.{CreateSet, DropSet, SetAddTable, SubscribeSet}
use Rattle.slonik_parse.specs.declared.form.Verb.TheVariants.{UnsubscribeSet, LockSet, UnlockSet, MoveSet, Failover}
use Rattle.slonik_parse.specs.declared.form.Verb.TheVariants.{Sync, WaitForEvent, Sleep}
use Rattle.slonik_parse.specs.declared.form.OptionName.{OptionName}
use Rattle.slonik_parse.specs.declared.given.Given.{Given}
use Rattle.slonik_parse.specs.declared.misparse.Misparse.{Misparse}
use Rattle.slonik_parse.specs.declared.misparse.Misparse.TheVariants.{Misfit, MissingOption}
use Rattle.slonik_parse.specs.Answered.{and_then, fit}
use Rattle.slonik_parse.specs.Given.{set_option, made}
use Rattle.slonik_parse.specs.Values.{string_in, id_in}
use Rattle.slonik_parse.specs.declared.form.OptionName.TheVariants.{Id, Comment, EventNode, Server, Client, Conninfo}
use Rattle.slonik_parse.specs.declared.form.OptionName.TheVariants.{Connretry, Origin, SetId, FullyQualifiedName, Key}
use Rattle.slonik_parse.specs.declared.form.OptionName.TheVariants.{Provider, Receiver, Forward, OldOrigin, NewOrigin}
use Rattle.slonik_parse.specs.declared.form.OptionName.TheVariants.{BackupNode, AwaitedOrigin, Confirmed, WaitOn}
use Rattle.slonik_parse.specs.declared.form.OptionName.TheVariants.{Timeout, Seconds}
use Rattle.slonik_parse.specs.Given.{needed, given_by}
use Rattle.slonik_parse.specs.Values.{seconds_in, answer_in, choice_in}

-- no value that fits
pub fit_wrong : {S T : Type 0} (found : Option S) (more : S → T) (misparse : Misparse)
    → and_then (fit found) (λ x. Ok (more x)) ≡ Err misparse → Misfit ≡ misparse
fit_wrong (Some x) more misparse h = cc
fit_wrong None more misparse h = cc

-- what went wrong before
pub and_then_wrong : {S T : Type 0} (read : Result S Misparse) (more : S → T) (misparse : Misparse)
    → and_then read (λ x. Ok (more x)) ≡ Err misparse → read ≡ Err misparse
and_then_wrong (Ok x) more misparse h = cc
and_then_wrong (Err e) more misparse h = cc

given_wrong : {T : Type 0} (found : Option T) (set : T → Given) (misparse : Misparse)
    → given_by found set ≡ Err misparse → Misfit ≡ misparse
given_wrong (Some x) set misparse h = cc
given_wrong None set misparse h = cc

-- a token that is no value of an option does not fit
pub set_wrong : (name : OptionName) (token : Token) (g : Given) (misparse : Misparse)
    → set_option name token g ≡ Err misparse → Misfit ≡ misparse
unfolding set_option
set_wrong Id token g misparse h = given_wrong (id_in token) _ misparse h
set_wrong Comment token g misparse h = given_wrong (string_in token) _ misparse h
set_wrong EventNode token g misparse h = given_wrong (id_in token) _ misparse h
set_wrong Server token g misparse h = given_wrong (id_in token) _ misparse h
set_wrong Client token g misparse h = given_wrong (id_in token) _ misparse h
set_wrong Conninfo token g misparse h = given_wrong (string_in token) _ misparse h
set_wrong Connretry token g misparse h = given_wrong (seconds_in token) _ misparse h
set_wrong Origin token g misparse h = given_wrong (id_in token) _ misparse h
set_wrong SetId token g misparse h = given_wrong (id_in token) _ misparse h
set_wrong FullyQualifiedName token g misparse h = given_wrong (string_in token) _ misparse h
set_wrong Key token g misparse h = given_wrong (string_in token) _ misparse h
set_wrong Provider token g misparse h = given_wrong (id_in token) _ misparse h
set_wrong Receiver token g misparse h = given_wrong (id_in token) _ misparse h
set_wrong Forward token g misparse h = given_wrong (answer_in token) _ misparse h
set_wrong OldOrigin token g misparse h = given_wrong (id_in token) _ misparse h
set_wrong NewOrigin token g misparse h = given_wrong (id_in token) _ misparse h
set_wrong BackupNode token g misparse h = given_wrong (id_in token) _ misparse h
set_wrong AwaitedOrigin token g misparse h = given_wrong (choice_in token) _ misparse h
set_wrong Confirmed token g misparse h = given_wrong (choice_in token) _ misparse h
set_wrong WaitOn token g misparse h = given_wrong (id_in token) _ misparse h
set_wrong Timeout token g misparse h = given_wrong (seconds_in token) _ misparse h
set_wrong Seconds token g misparse h = given_wrong (seconds_in token) _ misparse h

-- an option is missing
abbrev pub IsMissing : Misparse → Type 0
IsMissing misparse = (name : OptionName) × (misparse ≡ MissingOption name)

needed_wrong : {T U : Type 0} (misparse : Misparse) (name : OptionName) (found : Option T)
    (more : T → Result U Misparse) → and_then (needed name found) more ≡ Err misparse
    → ((x : T) → more x ≡ Err misparse → IsMissing misparse) → IsMissing misparse
needed_wrong misparse name None more h go = (name, cc)
needed_wrong misparse name (Some x) more h go = go x h

-- where options make no command, one of them is missing
pub made_wrong : (verb : Verb) (g : Given) (m : Misparse) → made verb g ≡ Err m → IsMissing m
unfolding made
made_wrong InitCluster g m h = needed_wrong m Id g.id _ h (λ a h. cc)
made_wrong StoreNode g m h = needed_wrong m Id g.id _ h (λ a h. needed_wrong m EventNode g.event_node _ h (λ b h. cc))
made_wrong DropNode g m h = needed_wrong m Id g.id _ h (λ a h. needed_wrong m EventNode g.event_node _ h (λ b h. cc))
made_wrong StorePath g m h = needed_wrong m Server g.server _ h
    (λ a h. needed_wrong m Client g.client _ h (λ b h. needed_wrong m Conninfo g.conninfo _ h (λ c h. cc)))
made_wrong DropPath g m h = needed_wrong m Server g.server _ h (λ a h. needed_wrong m Client g.client _ h (λ b h. cc))
made_wrong CreateSet g m h = needed_wrong m Id g.id _ h (λ a h. needed_wrong m Origin g.origin _ h (λ b h. cc))
made_wrong DropSet g m h = needed_wrong m Id g.id _ h (λ a h. needed_wrong m Origin g.origin _ h (λ b h. cc))
made_wrong SetAddTable g m h =
    needed_wrong m SetId g.set_id _ h (λ a h. needed_wrong m Origin g.origin _ h
    (λ b h. needed_wrong m Id g.id _ h (λ c h. needed_wrong m FullyQualifiedName g.fully_qualified_name _ h
    (λ d h. cc))))
made_wrong SubscribeSet g m h =
    needed_wrong m Id g.id _ h (λ a h. needed_wrong m Provider g.provider _ h
    (λ b h. needed_wrong m Receiver g.receiver _ h (λ c h. cc)))
made_wrong UnsubscribeSet g m h = needed_wrong m Id g.id _ h (λ a h. needed_wrong m Receiver g.receiver _ h (λ b h. cc))
made_wrong LockSet g m h = needed_wrong m Id g.id _ h (λ a h. needed_wrong m Origin g.origin _ h (λ b h. cc))
made_wrong UnlockSet g m h = needed_wrong m Id g.id _ h (λ a h. needed_wrong m Origin g.origin _ h (λ b h. cc))
made_wrong MoveSet g m h =
    needed_wrong m Id g.id _ h (λ a h. needed_wrong m OldOrigin g.old_origin _ h
    (λ b h. needed_wrong m NewOrigin g.new_origin _ h (λ c h. cc)))
made_wrong Failover g m h = needed_wrong m Id g.id _ h (λ a h. needed_wrong m BackupNode g.backup_node _ h (λ b h. cc))
made_wrong Sync g m h = needed_wrong m Id g.id _ h (λ a h. cc)
made_wrong WaitForEvent g m h =
    needed_wrong m AwaitedOrigin g.awaited_origin _ h (λ a h.
    needed_wrong m Confirmed g.confirmed _ h (λ b h. needed_wrong m WaitOn g.wait_on _ h (λ c h. cc)))
made_wrong Sleep g m h = needed_wrong m Seconds g.seconds _ h (λ a h. cc)
