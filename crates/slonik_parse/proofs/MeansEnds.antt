-- Behind the tokens so far some script goes on.
use Rattle.std.proofs.Common.{◌≡◌, ℕ, true, false, List, [], ◌∷◌, ◌++◌, drop, map, codes, refl, subst, append_assoc}
use Rattle.std.proofs.Common.{inl, inr}
use Rattle.std.proofs.lemmas.Bool.{or_cases}
use Rattle.std.proofs.lemmas.List.{append-nil}
use Rattle.slonik_tokens.specs.declared.token.Sign.TheVariants.{Semicolon, Equals, CloseBracket, OpenBrace, CloseBrace}
use Rattle.slonik_tokens.specs.declared.token.Token.{Token}
use Rattle.slonik_tokens.specs.declared.token.Token.TheVariants.{Word, Number, Quoted, Mark}
use Rattle.slonik_parse.specs.declared.form.Verb.{Verb}
use Rattle.slonik_parse.specs.declared.form.OptionName.{OptionName}
use Rattle.slonik_parse.specs.declared.given.Given.{Given}
use Rattle.slonik_script.specs.declared.script.Command.{Command}
use Rattle.slonik_script.specs.declared.script.Command.TheVariants.{Echo, Exit}
use Rattle.slonik_script.specs.declared.script.Script.{Script}
use Rattle.slonik_script.specs.declared.script.Statement.TheVariants.{Try as Tried}
use Rattle.slonik_script.specs.declared.script.TryBlock.{TryBlock}
use Rattle.slonik_parse.specs.declared.state.Block.{Block}
use Rattle.slonik_parse.specs.declared.state.Block.TheVariants.{Outside, Handler as InHandler}
use Rattle.slonik_parse.specs.declared.state.Goal.{Goal}
use Rattle.slonik_parse.specs.declared.state.Goal.TheVariants as goal
use Rattle.slonik_parse.specs.declared.state.Handler.{Handler}
use Rattle.slonik_parse.specs.declared.state.Handler.TheVariants.{Error, Success}
use Rattle.slonik_parse.specs.declared.state.State.{State}
use Rattle.slonik_parse.specs.declared.state.State.TheVariants.{Awaits, At}
use Rattle.slonik_parse.specs.Given.{made}
use Rattle.slonik_parse.specs.Grammar.{NodeWords, Closed, Braced, IsCommand, IsScript, is_option, of_verb, of_echo}
use Rattle.slonik_parse.specs.Grammar.{of_exit, no_commands}
use Rattle.slonik_parse.specs.Grammar.{tried_block, handled_block, script_head, script_node, script_try, handler_word}
use Rattle.slonik_parse.specs.Machine.{phrase_words, with_command}
use Rattle.slonik_parse.specs.Places.{is_tried, Stands, outside, in_try, in_handler, opened, OptionStands, OptionEnds}
use Rattle.slonik_parse.specs.Places.{option_ends}
use Rattle.slonik_parse.specs.Scripts.{with_statement, with_node, empty_script, try_of, with_handler, lacks}
use Rattle.slonik_parse.specs.Refusals.{GoesOn}
use Rattle.slonik_parse.proofs.Means.{NamesCluster, names_cluster, BeginsNode, begins_node, NamesNode, names_node}
use Rattle.slonik_parse.proofs.Means.{NamesOption, names_option, BeginsWith, begins_with_word, HasTried, BeginsHandler}
use Rattle.slonik_parse.proofs.Means.{begins_on, Leads, Means}
use Rattle.slonik_parse.proofs.MeansOptions.{option_ended, stands_with}
use Rattle.slonik_parse.proofs.MeansStep.{stands_tried}
use Rattle.slonik_parse.proofs.MeansFill.{word_fits, words_fit, sign_fits, value_of, with_option, value_fits}
use Rattle.slonik_parse.proofs.MeansFill.{option_tokens, option_fits, required, required_found, some_option}
use Rattle.slonik_parse.proofs.MeansFill.{with_options, options_tokens, more_fit, ok_is, required_make}

-- if a script goes on behind more, one does before it
goes_back : (front more : List Token) → GoesOn (front ++ more) → GoesOn front
goes_back front more goes =
    (more ++ goes.0, goes.1, subst (λ tokens. IsScript tokens goes.1) (simp append_assoc) goes.2)

-- the tokens are a script
goes_here : (front : List Token) (script : Script) → IsScript front script → GoesOn front
goes_here front script is = ([], script, subst (λ tokens. IsScript tokens script) (simp append-nil) is)

-- what stands in a block goes on: the block can be closed
block_goes : (block : Block) (front : List Token) → Stands block front → GoesOn front
block_goes _ _ (outside script front is) = goes_here front script is
block_goes _ _ (in_try script front word commands body is i) = (
  Mark CloseBrace ∷ [],
  with_statement (Tried (try_of commands)) script,
  subst (λ ts. IsScript ts (with_statement (Tried (try_of commands)) script)) (simp append_assoc)
      (script_try front (word ∷ body.brace ∷ body.tokens ++ Mark CloseBrace ∷ []) script (try_of commands) is
      (tried_block word commands (record { opening = body; end = Mark CloseBrace; closes = refl }) i)),
)
block_goes _ _ (in_handler script tried handler before words commands body) =
    let grown = with_handler handler commands tried in
    let braced : Braced false commands = record { opening = body; end = Mark CloseBrace; closes = refl } in (
      Mark CloseBrace ∷ [],
      with_statement (Tried grown) script,
      subst (λ ts. IsScript ts (with_statement (Tried grown) script)) (simp append_assoc)
          (script_try before.front (before.tokens ++ words.on ∷ words.word ∷ body.brace ∷ body.tokens
          ++ Mark CloseBrace ∷ []) script grown before.is
          (handled_block before.tokens tried handler words commands braced before.tries before.free)),
    )

-- a command goes on: a semicolon can follow
command_goes : (block : Block) (command : Command) (front tokens : List Token) → Stands block front
    → IsCommand (is_tried block) tokens command → GoesOn (front ++ tokens)
command_goes block command front tokens stands is =
    goes_back (front ++ tokens) (Mark Semicolon ∷ [])
    (block_goes (with_command command block) (front ++ tokens ++ Mark Semicolon ∷ [])
    (stands_with block command front tokens (Mark Semicolon) stands is refl))

-- options go on: those that are missing can follow, and then the closing bracket
ends_go : (block : Block) (verb : Verb) (given : Given) (front : List Token) → OptionEnds block verb given front
    → GoesOn front
ends_go block verb given _ (option_ends _ options (opened front w stands may) are) =
    let all = with_options (required verb) given in
    let command = ok_is (made verb all) (required_make verb given) in
    let closed : Closed verb all = record {
      options = options ++ options_tokens (required verb);
      end = Mark CloseBracket;
      are = more_fit verb (required verb) options given (required_found verb) are;
      ends = refl;
    } in
    goes_back (front ++ w.first ∷ w.others ++ w.end ∷ [] ++ options)
    (options_tokens (required verb) ++ Mark CloseBracket ∷ [])
    (subst (λ tokens. GoesOn tokens) (simp append_assoc)
    (command_goes block command.0 front (w.first ∷ w.others ++ w.end ∷ (options ++ options_tokens (required verb))
    ++ Mark CloseBracket ∷ []) stands (of_verb verb w all closed command.0 may command.1)))

-- where an option may begin, one can follow
option_goes : (block : Block) (verb : Verb) (given : Given) (front : List Token) → OptionStands block verb given front
    → GoesOn front
option_goes block verb given front stands =
    let some = some_option verb in
    goes_back front (option_tokens some.0)
    (ends_go block verb (with_option some.0 given) (front ++ option_tokens some.0)
    (option_ended (record { block = block; verb = verb; given = given; front = front; stands = stands })
    (with_option some.0 given) (option_tokens some.0) (front ++ option_tokens some.0)
    (option_fits verb some.0 given some.1) refl))

value_goes : (block : Block) (verb : Verb) (given : Given) (name : OptionName) (front : List Token)
    → NamesOption block verb given name front → GoesOn front
value_goes block verb given name _ (names_option front w stands found) =
    let all = front ++ w.first ∷ w.others ++ w.end ∷ [] ++ value_of name ∷ [] in
    goes_back (front ++ w.first ∷ w.others ++ w.end ∷ []) (value_of name ∷ [])
    (ends_go block verb (with_option name given) all
    (option_ended (record { block = block; verb = verb; given = given; front = front; stands = stands })
    (with_option name given) (w.first ∷ w.others ++ w.end ∷ value_of name ∷ []) all
    (is_option name w (value_of name) (with_option name given) found (value_fits name given)) (simp append_assoc)))

cluster_goes : (front : List Token) → NamesCluster front → GoesOn front
cluster_goes _ (names_cluster w) =
    (Word [] ∷ Mark Semicolon ∷ [], empty_script [], script_head w (Word []) (Mark Semicolon) [] refl refl)

node_goes : (script : Script) (id : ℕ) (front : List Token) → NamesNode script id front → GoesOn front
node_goes script id _ (names_node front w is none) = (
  Quoted [] ∷ Mark Semicolon ∷ [],
  with_node id [] script,
  subst (λ tokens. IsScript tokens (with_node id [] script)) (simp append_assoc)
      (script_node front script id w []
      (record { value = Quoted []; end = Mark Semicolon; is_text = refl; ends = refl }) is none),
)

begun_node_goes : (script : Script) (front : List Token) → BeginsNode script front → GoesOn front
begun_node_goes script _ (begins_node front word is none i) =
    let w : NodeWords 1 = record {
      word = word;
      number = Number (codes "1");
      admin = Word (codes "admin");
      conninfo = Word (codes "conninfo");
      equals = Mark Equals;
      is_node = i;
      is_id = refl;
      are = words_fit (codes "admin" ∷ codes "conninfo" ∷ []);
      ends = refl;
    } in
    let behind = w.number ∷ w.admin ∷ w.conninfo ∷ w.equals ∷ [] in
    goes_back (front ++ word ∷ []) behind (subst (λ tokens. GoesOn tokens) (simp append_assoc)
    (node_goes script 1 (front ++ word ∷ behind) (names_node front w is none)))

echo_goes : (block : Block) (front : List Token) → BeginsWith block (codes "echo") front → GoesOn front
echo_goes block _ (begins_with_word front word stands tried is) =
    goes_back (front ++ word ∷ []) (Quoted [] ∷ []) (subst (λ tokens. GoesOn tokens) (simp append_assoc)
    (command_goes block (Echo []) front (word ∷ Quoted [] ∷ []) stands (of_echo word (Quoted []) [] tried is refl)))

exit_goes : (block : Block) (front : List Token) → BeginsWith block (codes "exit") front → GoesOn front
exit_goes block _ (begins_with_word front word stands tried is) =
    goes_back (front ++ word ∷ []) (Number (codes "1") ∷ []) (subst (λ tokens. GoesOn tokens) (simp append_assoc)
    (command_goes block (Exit 1) front (word ∷ Number (codes "1") ∷ []) stands
    (of_exit word (Number (codes "1")) 1 tried is refl)))

tried_goes : (script : Script) (tried : TryBlock) (front : List Token) → HasTried script tried front → GoesOn front
tried_goes script tried front has =
    block_goes (Outside (with_statement (Tried tried) script)) front (stands_tried script tried front has)

on_goes : (script : Script) (tried : TryBlock) (front : List Token) → BeginsHandler script tried front → GoesOn front
on_goes script tried _ (begins_on front tokens on is tries h lack) =
    elim (or_cases (lacks Error tried) (lacks Success tried) lack) as (λ _. GoesOn (front ++ tokens ++ on ∷ [])) [
      | inl error ↦ handler_goes Error error
      | inr success ↦ handler_goes Success success
    ]
  where
    handler_goes : (handler : Handler) → lacks handler tried ≡ true → GoesOn (front ++ tokens ++ on ∷ [])
    handler_goes handler lack =
        goes_back (front ++ tokens ++ on ∷ []) (Word (handler_word handler) ∷ Mark OpenBrace ∷ [])
        (subst (λ ts. GoesOn ts) (simp append_assoc)
        (block_goes (InHandler script tried handler []) (front ++ tokens
        ++ on ∷ Word (handler_word handler) ∷ Mark OpenBrace ∷ [])
        (in_handler script tried handler
        (record { front = front; tokens = tokens; is = is; tries = tries; free = lack })
        (record { on = on; word = _; is_on = h; is_handler = word_fits (handler_word handler) }) []
        (record { brace = Mark OpenBrace; tokens = []; opens = refl; are = no_commands }))))

goal_goes : (goal : Goal) (front : List Token) → Leads goal front → GoesOn front
goal_goes goal.ClusterName front leads = cluster_goes front leads
goal_goes (goal.NodeId script) front leads = begun_node_goes script front leads
goal_goes (goal.NodeText script id) front leads = node_goes script id front leads
goal_goes (goal.Command block) front leads = block_goes block front leads
goal_goes (goal.Option block verb given) front leads = option_goes block verb given front leads
goal_goes (goal.Value block verb given name) front leads = value_goes block verb given name front leads
goal_goes (goal.AfterOption block verb given) front leads = ends_go block verb given front leads
goal_goes (goal.EchoText block) front leads = echo_goes block front leads
goal_goes (goal.ExitStatus block) front leads = exit_goes block front leads
goal_goes (goal.AfterTry script tried) front leads = tried_goes script tried front leads
goal_goes (goal.AfterOn script tried) front leads = on_goes script tried front leads

-- some script begins with the tokens so far
pub goes_on : (state : State) (front : List Token) → Means state front → GoesOn front
goes_on (At goal) front means = goal_goes goal front means
goes_on (Awaits phrase at sign goal) front means =
    let words = map Word (drop at (phrase_words phrase)) in
    goes_back front (words ++ Mark sign ∷ []) (subst (λ tokens. GoesOn tokens) (simp append_assoc)
    (goal_goes goal (front ++ words ++ Mark sign ∷ [])
    (means words (Mark sign) (words_fit (drop at (phrase_words phrase))) (sign_fits sign))))
