-- The options that were given to a command, and the command that they make.
use Rattle.std.specs.Prelude.{Option, Some, None, Result, Ok, Err}
use Rattle.slonik_tokens.specs.declared.token.Token.{Token}
use Rattle.slonik_parse.specs.declared.form.Verb.{Verb}
use Rattle.slonik_parse.specs.declared.form.Verb.TheVariants as verb
use Rattle.slonik_parse.specs.declared.form.OptionName.{OptionName}
use Rattle.slonik_parse.specs.declared.form.OptionName.TheVariants.{Id, Comment, EventNode, Server, Client, Conninfo}
use Rattle.slonik_parse.specs.declared.form.OptionName.TheVariants.{Connretry, Origin, SetId, FullyQualifiedName, Key}
use Rattle.slonik_parse.specs.declared.form.OptionName.TheVariants.{Provider, Receiver, Forward, OldOrigin, NewOrigin}
use Rattle.slonik_parse.specs.declared.form.OptionName.TheVariants.{BackupNode, AwaitedOrigin, Confirmed, WaitOn}
use Rattle.slonik_parse.specs.declared.form.OptionName.TheVariants.{Timeout, Seconds}
use Rattle.slonik_parse.specs.declared.given.Given.{Given}
use Rattle.slonik_parse.specs.declared.misparse.Misparse.{Misparse}
use Rattle.slonik_parse.specs.declared.misparse.Misparse.TheVariants.{Misfit, MissingOption}
use Rattle.slonik_script.specs.declared.script.Command.{Command}
use Rattle.slonik_script.specs.declared.script.Command.TheVariants as command
use Rattle.slonik_parse.specs.Answered.{and_then}
use Rattle.slonik_parse.specs.Values.{id_in, string_in, seconds_in, answer_in, choice_in}

unfoldable pub nothing_given : Given
nothing_given = record {
  id = None;
  comment = None;
  event_node = None;
  server = None;
  client = None;
  conninfo = None;
  connretry = None;
  origin = None;
  set_id = None;
  fully_qualified_name = None;
  key = None;
  provider = None;
  receiver = None;
  forward = None;
  old_origin = None;
  new_origin = None;
  backup_node = None;
  awaited_origin = None;
  confirmed = None;
  wait_on = None;
  timeout = None;
  seconds = None;
}

-- the options that a value makes, if there is one
abbrev pub given_by : {T : Type 0} → Option T → (T → Given) → Result Given Misparse
given_by None set = Err Misfit
given_by (Some x) set = Ok (set x)

-- the options with the value that a token is for one of them
unfoldable pub set_option : OptionName → Token → Given → Result Given Misparse
set_option Id t g = given_by (id_in t) (λ x. record g { id = Some x })
set_option Comment t g = given_by (string_in t) (λ x. record g { comment = Some x })
set_option EventNode t g = given_by (id_in t) (λ x. record g { event_node = Some x })
set_option Server t g = given_by (id_in t) (λ x. record g { server = Some x })
set_option Client t g = given_by (id_in t) (λ x. record g { client = Some x })
set_option Conninfo t g = given_by (string_in t) (λ x. record g { conninfo = Some x })
set_option Connretry t g = given_by (seconds_in t) (λ x. record g { connretry = Some x })
set_option Origin t g = given_by (id_in t) (λ x. record g { origin = Some x })
set_option SetId t g = given_by (id_in t) (λ x. record g { set_id = Some x })
set_option FullyQualifiedName t g = given_by (string_in t) (λ x. record g { fully_qualified_name = Some x })
set_option Key t g = given_by (string_in t) (λ x. record g { key = Some x })
set_option Provider t g = given_by (id_in t) (λ x. record g { provider = Some x })
set_option Receiver t g = given_by (id_in t) (λ x. record g { receiver = Some x })
set_option Forward t g = given_by (answer_in t) (λ x. record g { forward = Some x })
set_option OldOrigin t g = given_by (id_in t) (λ x. record g { old_origin = Some x })
set_option NewOrigin t g = given_by (id_in t) (λ x. record g { new_origin = Some x })
set_option BackupNode t g = given_by (id_in t) (λ x. record g { backup_node = Some x })
set_option AwaitedOrigin t g = given_by (choice_in t) (λ x. record g { awaited_origin = Some x })
set_option Confirmed t g = given_by (choice_in t) (λ x. record g { confirmed = Some x })
set_option WaitOn t g = given_by (id_in t) (λ x. record g { wait_on = Some x })
set_option Timeout t g = given_by (seconds_in t) (λ x. record g { timeout = Some x })
set_option Seconds t g = given_by (seconds_in t) (λ x. record g { seconds = Some x })

-- a value that has to be given
abbrev pub needed : {T : Type 0} → OptionName → Option T → Result T Misparse
needed option None = Err (MissingOption option)
needed option (Some x) = Ok x

-- the command that the options make, or the first one that is missing
unfoldable pub made : Verb → Given → Result Command Misparse
made verb.InitCluster g =
    and_then (needed Id g.id) (λ id. Ok (command.InitCluster id g.comment))
made verb.StoreNode g =
    and_then (needed Id g.id) (λ id. and_then (needed EventNode g.event_node)
    (λ event_node. Ok (command.StoreNode id event_node g.comment)))
made verb.DropNode g =
    and_then (needed Id g.id) (λ id. and_then (needed EventNode g.event_node)
    (λ event_node. Ok (command.DropNode id event_node)))
made verb.StorePath g =
    and_then (needed Server g.server) (λ server. and_then (needed Client g.client)
    (λ client. and_then (needed Conninfo g.conninfo) (λ conninfo.
    Ok (command.StorePath server client conninfo g.connretry))))
made verb.DropPath g =
    and_then (needed Server g.server) (λ server. and_then (needed Client g.client)
    (λ client. Ok (command.DropPath server client)))
made verb.CreateSet g =
    and_then (needed Id g.id) (λ id. and_then (needed Origin g.origin)
    (λ origin. Ok (command.CreateSet id origin g.comment)))
made verb.DropSet g =
    and_then (needed Id g.id) (λ id. and_then (needed Origin g.origin) (λ origin. Ok (command.DropSet id origin)))
made verb.SetAddTable g =
    and_then (needed SetId g.set_id) (λ set_id. and_then (needed Origin g.origin)
    (λ origin. and_then (needed Id g.id) (λ id.
    and_then (needed FullyQualifiedName g.fully_qualified_name)
    (λ name. Ok (command.SetAddTable set_id origin id name g.key g.comment)))))
made verb.SubscribeSet g =
    and_then (needed Id g.id) (λ id. and_then (needed Provider g.provider) (λ provider.
    and_then (needed Receiver g.receiver)
    (λ receiver. Ok (command.SubscribeSet id provider receiver g.forward))))
made verb.UnsubscribeSet g =
    and_then (needed Id g.id) (λ id. and_then (needed Receiver g.receiver)
    (λ receiver. Ok (command.UnsubscribeSet id receiver)))
made verb.LockSet g =
    and_then (needed Id g.id) (λ id. and_then (needed Origin g.origin) (λ origin. Ok (command.LockSet id origin)))
made verb.UnlockSet g =
    and_then (needed Id g.id) (λ id. and_then (needed Origin g.origin) (λ origin. Ok (command.UnlockSet id origin)))
made verb.MoveSet g =
    and_then (needed Id g.id) (λ id. and_then (needed OldOrigin g.old_origin)
    (λ old. and_then (needed NewOrigin g.new_origin) (λ new.
    Ok (command.MoveSet id old new))))
made verb.Failover g =
    and_then (needed Id g.id) (λ id. and_then (needed BackupNode g.backup_node)
    (λ backup. Ok (command.Failover id backup)))
made verb.Sync g = and_then (needed Id g.id) (λ id. Ok (command.Sync id))
made verb.WaitForEvent g =
    and_then (needed AwaitedOrigin g.awaited_origin) (λ origin.
    and_then (needed Confirmed g.confirmed) (λ confirmed. and_then (needed WaitOn g.wait_on) (λ wait_on.
    Ok (command.WaitForEvent origin confirmed wait_on g.timeout))))
made verb.Sleep g = and_then (needed Seconds g.seconds) (λ seconds. Ok (command.Sleep seconds))
