-- Scripts read token by token: what the tokens so far have made, and what may come next.
use Rattle.std.specs.Prelude.{ℕ, ◌+◌, ◌==◌, ◌&&◌, ◌||◌, if◌then◌else◌, List, [], ◌∷◌, ◌++◌, length, map, slice_get}
use Rattle.std.specs.Prelude.{codes, Option, Some, None, Result, Ok, Err}
use Rattle.std.specs.Char.{to_ascii_lowercase}
use Rattle.slonik_tokens.specs.declared.token.Sign.{Sign}
use Rattle.slonik_tokens.specs.declared.token.Sign.TheVariants.{Semicolon, Comma, Equals, OpenBracket, CloseBracket}
use Rattle.slonik_tokens.specs.declared.token.Sign.TheVariants.{OpenBrace, CloseBrace}
use Rattle.slonik_tokens.specs.declared.token.Token.{Token}
use Rattle.slonik_tokens.specs.declared.token.Token.TheVariants.{Word, Number, Quoted, Mark, NameUse, Path}
use Rattle.slonik_tokens.specs.Tokens.{is_word, is_sign, same_sign}
use Rattle.slonik_parse.specs.declared.form.Verb.{Verb}
use Rattle.slonik_parse.specs.declared.form.OptionName.{OptionName}
use Rattle.slonik_parse.specs.declared.given.Given.{Given}
use Rattle.slonik_parse.specs.declared.misparse.Misparse.{Misparse}
use Rattle.slonik_parse.specs.declared.misparse.Misparse.TheVariants.{Misfit, UnknownOption, NotInProfile, NotInTry}
use Rattle.slonik_script.specs.declared.script.Command.{Command}
use Rattle.slonik_script.specs.declared.script.Command.TheVariants.{Echo, Exit}
use Rattle.slonik_script.specs.declared.script.Script.{Script}
use Rattle.slonik_script.specs.declared.script.Statement.TheVariants.{Single, Try as Tried}
use Rattle.slonik_script.specs.declared.script.TryBlock.{TryBlock}
use Rattle.slonik_parse.specs.declared.state.Block.{Block}
use Rattle.slonik_parse.specs.declared.state.Block.TheVariants.{Outside, Try as InTry, Handler as InHandler}
use Rattle.slonik_parse.specs.declared.state.Goal.{Goal}
use Rattle.slonik_parse.specs.declared.state.Goal.TheVariants as goal
use Rattle.slonik_parse.specs.declared.state.Handler.{Handler}
use Rattle.slonik_parse.specs.declared.state.Handler.TheVariants.{Error, Success}
use Rattle.slonik_parse.specs.declared.state.Phrase.{Phrase}
use Rattle.slonik_parse.specs.declared.state.Phrase.TheVariants as phrase
use Rattle.slonik_parse.specs.declared.state.State.{State}
use Rattle.slonik_parse.specs.declared.state.State.TheVariants.{Awaits, At}
use Rattle.slonik_parse.specs.Answered.{and_then, fit}
use Rattle.slonik_parse.specs.Choices.{is_left_out, is_not_in_try, is_option_left_out, verb_at, option_at}
use Rattle.slonik_parse.specs.Forms.{verb_words, option_words}
use Rattle.slonik_parse.specs.Given.{nothing_given, set_option, made}
use Rattle.slonik_parse.specs.Scripts.{with_statement, with_node, empty_script, try_of, with_handler, lacks}
use Rattle.slonik_parse.specs.Values.{name_in, string_in, id_in, status_in}

-- the words of a phrase
unfoldable pub phrase_words : Phrase → List (List ℕ)
phrase_words phrase.Nothing = []
phrase_words phrase.Node = codes "admin" ∷ codes "conninfo" ∷ []
phrase_words (phrase.Verb verb) = verb_words verb
phrase_words (phrase.Option option) = option_words option

-- the block with a command at its end
unfoldable pub with_command : Command → Block → Block
with_command command (Outside script) = Outside (with_statement (Single command) script)
with_command command (InTry script commands) = InTry script (commands ++ command ∷ [])
with_command command (InHandler script tried handler commands) =
    InHandler script tried handler (commands ++ command ∷ [])

-- a word in lower case
abbrev pub lower : List ℕ → List ℕ
lower text = map to_ascii_lowercase text

-- the sign, and then the goal
abbrev pub sign_then : Sign → Goal → State
sign_then sign goal = Awaits phrase.Nothing 0 sign goal

-- a semicolon behind a command, and then the next
abbrev pub after_command : Block → Command → State
after_command block command = sign_then Semicolon (goal.Command (with_command command block))

-- the next word is there, or where there is none the sign
abbrev pub awaited_by : Option (List ℕ) → Phrase → ℕ → Sign → Goal → Token → Result State Misparse
awaited_by None phrase at sign goal token = if is_sign sign token then Ok (At goal) else Err Misfit
awaited_by (Some word) phrase at sign goal token =
    if is_word word token then Ok (Awaits phrase (at + 1) sign goal) else Err Misfit

-- the next word of a phrase is there, or its sign
unfoldable pub awaited : Phrase → ℕ → Sign → Goal → Token → Result State Misparse
awaited phrase at sign goal token = awaited_by (slice_get (phrase_words phrase) at) phrase at sign goal token

-- a command with options begins
unfoldable pub begin_verb : Block → Option Verb → Result State Misparse
begin_verb block None = Err Misfit
begin_verb block (Some verb) = Ok (Awaits (phrase.Verb verb) 1 OpenBracket (goal.Option block verb nothing_given))

-- a command begins, in a block where all may stand
unfoldable pub any_command : Block → List ℕ → Token → List Token → Result State Misparse
any_command block text token tokens =
    if is_left_out tokens then Err (NotInProfile (lower text))
    else (if is_word (codes "echo") token then Ok (At (goal.EchoText block))
    else (if is_word (codes "exit") token then Ok (At (goal.ExitStatus block))
    else begin_verb block (verb_at token tokens)))

-- a NODE line, a try block or a command begins
unfoldable pub begin_outside : Script → List ℕ → Token → List Token → Result State Misparse
begin_outside script text token tokens =
    if is_word (codes "node") token && length script.statements == 0 then Ok (At (goal.NodeId script))
    else (if is_word (codes "try") token then Ok (sign_then OpenBrace (goal.Command (InTry script [])))
    else any_command (Outside script) text token tokens)

-- a command begins in a try block
unfoldable pub begin_tried : Script → List Command → List ℕ → Token → List Token → Result State Misparse
begin_tried script commands text token tokens =
    if is_left_out tokens then Err (NotInProfile (lower text))
    else (if is_not_in_try tokens then Err (NotInTry (lower text))
    else (if is_word (codes "wait") token then Err Misfit
    else begin_verb (InTry script commands) (verb_at token tokens)))

-- something begins with a word in a block
unfoldable pub begin_in : Block → List ℕ → Token → List Token → Result State Misparse
begin_in (Outside script) text token tokens = begin_outside script text token tokens
begin_in (InTry script commands) text token tokens = begin_tried script commands text token tokens
begin_in (InHandler script tried handler commands) text token tokens =
    any_command (InHandler script tried handler commands) text token tokens

-- a block is closed
unfoldable pub close : Block → Result State Misparse
close (Outside script) = Err Misfit
close (InTry script commands) = Ok (At (goal.AfterTry script (try_of commands)))
close (InHandler script tried handler commands) = Ok (At (goal.AfterTry script (with_handler handler commands tried)))

-- something begins in a block, or the block is closed
unfoldable pub command_step : Block → Token → List Token → Result State Misparse
command_step block (Word text) tokens = begin_in block text (Word text) tokens
command_step block (Number text) tokens = Err Misfit
command_step block (Quoted text) tokens = Err Misfit
command_step block (Mark sign) tokens = if same_sign sign CloseBrace then close block else Err Misfit
command_step block (NameUse name) tokens = Err Misfit
command_step block (Path path) tokens = Err Misfit

-- the first option that is missing, else no fit
abbrev pub missing : Result Command Misparse → Result State Misparse
missing (Ok command) = Err Misfit
missing (Err e) = Err e

-- no option begins with a word
abbrev pub no_option : Verb → List ℕ → List Token → Result State Misparse
no_option verb text tokens =
    if is_option_left_out verb tokens then Err (NotInProfile (lower text)) else Err (UnknownOption (lower text))

-- an option begins, or none does
unfoldable pub begin_option : Block → Verb → Given → List ℕ → List Token → Option OptionName → Result State Misparse
begin_option block verb given text tokens (Some option) =
    Ok (Awaits (phrase.Option option) 1 Equals (goal.Value block verb given option))
begin_option block verb given text tokens None = no_option verb text tokens

unfoldable pub option_step : Block → Verb → Given → Token → List Token → Result State Misparse
option_step block verb given (Word text) tokens = begin_option block verb given text tokens (option_at verb (Word text))
option_step block verb given (Number text) tokens = Err Misfit
option_step block verb given (Quoted text) tokens = Err Misfit
option_step block verb given (Mark sign) tokens =
    if same_sign sign CloseBracket then missing (made verb given) else Err Misfit
option_step block verb given (NameUse name) tokens = Err Misfit
option_step block verb given (Path path) tokens = Err Misfit

-- an option has its value
abbrev pub valued : Block → Verb → Result Given Misparse → Result State Misparse
valued block verb made = and_then made (λ given. Ok (At (goal.AfterOption block verb given)))

-- the command that the options make, and the semicolon behind it
abbrev pub closed : Block → Result Command Misparse → Result State Misparse
closed block made = and_then made (λ command. Ok (after_command block command))

-- a comma, or the closing bracket and with it the command
unfoldable pub after_option : Block → Verb → Given → Token → Result State Misparse
after_option block verb given token =
    if is_sign Comma token then Ok (At (goal.Option block verb given))
    else (if is_sign CloseBracket token then closed block (made verb given) else Err Misfit)

-- a semicolon, ON, or the next statement behind a try block
unfoldable pub after_try : Script → TryBlock → Token → List Token → Result State Misparse
after_try script tried token tokens =
    if is_sign Semicolon token then Ok (At (goal.Command (Outside (with_statement (Tried tried) script))))
    else (if is_word (codes "on") token && (lacks Error tried || lacks Success tried) then Ok
    (At (goal.AfterOn script tried))
    else command_step (Outside (with_statement (Tried tried) script)) token tokens)

-- ERROR or SUCCESS, where it did not come before
unfoldable pub handler_at : TryBlock → Token → Option Handler
handler_at tried token =
    if is_word (codes "error") token && lacks Error tried then Some Error
    else (if is_word (codes "success") token && lacks Success tried then Some Success else None)

-- a block behind a try block begins
abbrev pub begin_handler : Script → TryBlock → Option Handler → Result State Misparse
begin_handler script tried None = Err Misfit
begin_handler script tried (Some handler) = Ok (sign_then OpenBrace (goal.Command (InHandler script tried handler [])))

unfoldable pub after_on : Script → TryBlock → Token → Result State Misparse
after_on script tried token = begin_handler script tried (handler_at tried token)

-- the name of the cluster
unfoldable pub cluster_name : Token → Result State Misparse
cluster_name token =
    and_then (fit (name_in token)) (λ name. Ok (sign_then Semicolon (goal.Command (Outside (empty_script name)))))

-- the id of a NODE line
abbrev pub node_id : Script → Token → Result State Misparse
node_id script token = and_then (fit (id_in token)) (λ id. Ok (Awaits phrase.Node 0 Equals (goal.NodeText script id)))

-- the conninfo of a NODE line
unfoldable pub node_text : Script → ℕ → Token → Result State Misparse
node_text script id token =
    and_then (fit (string_in token))
    (λ conninfo. Ok (sign_then Semicolon (goal.Command (Outside (with_node id conninfo script)))))

-- the string of an ECHO, the number of an EXIT
abbrev pub echo_text : Block → Token → Result State Misparse
echo_text block token = and_then (fit (string_in token)) (λ text. Ok (after_command block (Echo text)))

abbrev pub exit_status : Block → Token → Result State Misparse
exit_status block token = and_then (fit (status_in token)) (λ status. Ok (after_command block (Exit status)))

-- what a token does at a goal; the tokens are those from it on
unfoldable pub goal_step : Goal → Token → List Token → Result State Misparse
goal_step goal.ClusterName token tokens = cluster_name token
goal_step (goal.NodeId script) token tokens = node_id script token
goal_step (goal.NodeText script id) token tokens = node_text script id token
goal_step (goal.Command block) token tokens = command_step block token tokens
goal_step (goal.Option block verb given) token tokens = option_step block verb given token tokens
goal_step (goal.Value block verb given option) token tokens = valued block verb (set_option option token given)
goal_step (goal.AfterOption block verb given) token tokens = after_option block verb given token
goal_step (goal.EchoText block) token tokens = echo_text block token
goal_step (goal.ExitStatus block) token tokens = exit_status block token
goal_step (goal.AfterTry script tried) token tokens = after_try script tried token tokens
goal_step (goal.AfterOn script tried) token tokens = after_on script tried token

-- what a token does
unfoldable pub step : State → Token → List Token → Result State Misparse
step (Awaits phrase at sign goal) token tokens = awaited phrase at sign goal token
step (At goal) token tokens = goal_step goal token tokens

-- Where a script goes wrong: with this number of tokens left, the wrong one among them.
pub record Wrong : Type 0 where
  pub misparse : Misparse
  pub left : ℕ

abbrev pub wrong : Misparse → ℕ → Wrong
wrong misparse left = record { misparse = misparse; left = left }

-- the script, if one may end here
abbrev pub goal_end : Goal → Result Script Wrong
goal_end (goal.Command (Outside script)) = Ok script
goal_end (goal.AfterTry script tried) = Ok (with_statement (Tried tried) script)
goal_end _ = Err (wrong Misfit 0)

abbrev pub end_of : State → Result Script Wrong
end_of (Awaits phrase at sign goal) = Err (wrong Misfit 0)
end_of (At goal) = goal_end goal

-- what was made of a token, and then of those behind it
abbrev pub go_on : Result State Misparse → (State → Result Script Wrong) → ℕ → Result Script Wrong
go_on (Ok state) more left = more state
go_on (Err misparse) more left = Err (wrong misparse left)

-- what the tokens make of a state: a script, or the first that is wrong
unfoldable pub run : List Token → State → Result Script Wrong
run [] state = end_of state
run (token ∷ tokens) state = go_on (step state token (token ∷ tokens)) (run tokens) (length tokens + 1)

-- what is read behind CLUSTER NAME
abbrev pub behind_preamble : State
behind_preamble = sign_then Equals goal.ClusterName
