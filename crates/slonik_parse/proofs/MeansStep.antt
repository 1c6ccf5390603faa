-- A token keeps what the tokens so far are: behind a try block, and at any state.
use Rattle.std.proofs.Common.{◌≡◌, ◌&&◌, ◌||◌, Bool, true, false, List, [], ◌∷◌, ◌++◌, codes, Option, Some, None, Ok}
use Rattle.std.proofs.Common.{cond, refl, subst, append_assoc}
use Rattle.std.proofs.Common.{ℕ}
use Rattle.std.proofs.lemmas.Bool.{and_parts}
use Rattle.slonik_tokens.specs.declared.token.Sign.TheVariants.{Semicolon, OpenBrace}
use Rattle.slonik_tokens.specs.declared.token.Token.{Token}
use Rattle.slonik_tokens.specs.Tokens.{is_word, is_sign}
use Rattle.slonik_script.specs.declared.script.Command.{Command}
use Rattle.slonik_script.specs.declared.script.Command.TheVariants.{Echo, Exit}
use Rattle.slonik_script.specs.declared.script.Script.{Script}
use Rattle.slonik_script.specs.declared.script.Statement.TheVariants.{Try as Tried}
use Rattle.slonik_script.specs.declared.script.TryBlock.{TryBlock}
use Rattle.slonik_parse.specs.declared.state.Block.{Block}
use Rattle.slonik_parse.specs.declared.state.Block.TheVariants.{Outside, Handler as InHandler}
use Rattle.slonik_parse.specs.declared.state.Goal.{Goal}
use Rattle.slonik_parse.specs.declared.state.Goal.TheVariants as goal
use Rattle.slonik_parse.specs.declared.state.Handler.{Handler}
use Rattle.slonik_parse.specs.declared.state.Handler.TheVariants.{Error, Success}
use Rattle.slonik_parse.specs.declared.state.State.{State}
use Rattle.slonik_parse.specs.declared.state.State.TheVariants.{Awaits, At}
use Rattle.slonik_parse.specs.Answered.{and_then, fit}
use Rattle.slonik_parse.specs.Given.{made}
use Rattle.slonik_parse.specs.Grammar.{IsScript, IsCommand, of_echo, of_exit, no_commands, script_try}
use Rattle.slonik_parse.specs.Grammar.{script_closed_try}
use Rattle.slonik_parse.specs.Grammar.{handler_word}
use Rattle.slonik_parse.specs.Machine.{sign_then, after_command, command_step, after_try, handler_at, begin_handler}
use Rattle.slonik_parse.specs.Machine.{after_on, goal_step, step, end_of}
use Rattle.slonik_parse.specs.Places.{Stands, outside, in_handler}
use Rattle.slonik_parse.specs.Places.{is_tried}
use Rattle.slonik_parse.specs.Scripts.{with_statement, lacks}
use Rattle.slonik_parse.specs.Values.{string_in, status_in}
use Rattle.slonik_parse.proofs.Means.{BeginsWith, begins_with_word, HasTried, has_tried, BeginsHandler, begins_on}
use Rattle.slonik_parse.proofs.Means.{Leads, Means, means_sign, fit_ok}
use Rattle.slonik_parse.proofs.MeansOptions.{step_awaits, step_cluster_name, step_node_id, step_node_text, step_option}
use Rattle.slonik_parse.proofs.MeansOptions.{step_value, step_after_option, means_command}
use Rattle.slonik_parse.proofs.MeansCommand.{step_command, stands_script}

-- behind a try block a statement may begin
pub stands_tried : (script : Script) (tried : TryBlock) (front : List Token) → HasTried script tried front
    → Stands (Outside (with_statement (Tried tried) script)) front
stands_tried script tried _ (has_tried front tokens is tries) =
    outside (with_statement (Tried tried) script) (front ++ tokens) (script_try front tokens script tried is tries)

try_closed : (script : Script) (tried : TryBlock) (front : List Token) (end : Token) → HasTried script tried front
    → is_sign Semicolon end ≡ true
    → Stands (Outside (with_statement (Tried tried) script)) (front ++ end ∷ [])
try_closed script tried _ end (has_tried front tokens is tries) h =
    outside (with_statement (Tried tried) script) (front ++ tokens ++ end ∷ [])
    (script_closed_try front tokens script tried end is tries h)

handler_begun : (script : Script) (tried : TryBlock) (front : List Token) (on : Token) → HasTried script tried front
    → is_word (codes "on") on ≡ true
    → (lacks Error tried || lacks Success tried) ≡ true → BeginsHandler script tried (front ++ on ∷ [])
handler_begun script tried _ on (has_tried front tokens is tries) h lack = begins_on front tokens on is tries h lack

-- What stands where a try block has ended, and what the next token leads to.
record Ended : Type 0 where
  script : Script
  tried : TryBlock
  front : List Token
  has : HasTried script tried front

try_tested : (e : Ended) (next : State) (token : Token) (rest : List Token) (ends on : Bool) →
    (is_sign Semicolon token ≡ ends)
    × ((is_word (codes "on") token && (lacks Error e.tried || lacks Success e.tried)) ≡ on) →
    cond ends (Ok (At (goal.Command (Outside (with_statement (Tried e.tried) e.script)))))
    (cond on (Ok (At (goal.AfterOn e.script e.tried)))
    (command_step (Outside (with_statement (Tried e.tried) e.script)) token (token ∷ rest))) ≡ Ok next →
    Means next (e.front ++ token ∷ [])
try_tested e next token rest true on i h =
    let same : At (goal.Command (Outside (with_statement (Tried e.tried) e.script))) ≡ next = cc in
    subst (λ state. Means state (e.front ++ token ∷ [])) same (try_closed e.script e.tried e.front token e.has i.0)
try_tested e next token rest false true i h =
    let same : At (goal.AfterOn e.script e.tried) ≡ next = cc in
    let both = and_parts (is_word (codes "on") token) (lacks Error e.tried || lacks Success e.tried) i.1 in
    subst (λ state. Means state (e.front ++ token ∷ [])) same
    (handler_begun e.script e.tried e.front token e.has both.0 both.1)
try_tested e next token rest false false i h =
    step_command (Outside (with_statement (Tried e.tried) e.script)) next token rest e.front
    (stands_tried e.script e.tried e.front e.has) h

step_after_try : (script : Script) (tried : TryBlock) (next : State) (token : Token) (rest front : List Token) →
    HasTried script tried front → after_try script tried token (token ∷ rest) ≡ Ok next →
    Means next (front ++ token ∷ [])
unfolding after_try
step_after_try script tried next token rest front has h =
    try_tested (record { script = script; tried = tried; front = front; has = has }) next token rest
    (is_sign Semicolon token) (is_word (codes "on") token && (lacks Error tried || lacks Success tried)) (refl, refl) h

handler_tested : (tried : TryBlock) (token : Token) (handler : Handler) (error success : Bool)
    → (is_word (codes "error") token && lacks Error tried) ≡ error
    → (is_word (codes "success") token && lacks Success tried) ≡ success
    → cond error (Some Error) (cond success (Some Success) None) ≡ Some handler
    → (is_word (handler_word handler) token ≡ true) × (lacks handler tried ≡ true)
handler_tested tried token handler true success i j h =
    let same : Error ≡ handler = cc in
    subst (λ x. (is_word (handler_word x) token ≡ true) × (lacks x tried ≡ true)) same
    (and_parts (is_word (codes "error") token) (lacks Error tried) i)
handler_tested tried token handler false true i j h =
    let same : Success ≡ handler = cc in
    subst (λ x. (is_word (handler_word x) token ≡ true) × (lacks x tried ≡ true)) same
    (and_parts (is_word (codes "success") token) (lacks Success tried) j)
handler_tested tried token handler false false i j h = cc

-- ERROR or SUCCESS, where it did not come before
handler_fits : (tried : TryBlock) (token : Token) (handler : Handler) → handler_at tried token ≡ Some handler
    → (is_word (handler_word handler) token ≡ true) × (lacks handler tried ≡ true)
unfolding handler_at
handler_fits tried token handler h =
    handler_tested tried token handler (is_word (codes "error") token && lacks Error tried)
    (is_word (codes "success") token && lacks Success tried) refl refl h

handler_leads : (script : Script) (tried : TryBlock) (next : State) (token : Token) (front : List Token)
    (found : Option Handler) → (handler_at tried token ≡ found) × (begin_handler script tried found ≡ Ok next) →
    BeginsHandler script tried front → Means next (front ++ token ∷ [])
handler_leads script tried next token front None (e, h) begins = cc
handler_leads script tried next token _ (Some handler) (e, h) (begins_on front tokens on is tries i lack) =
    let same : sign_then OpenBrace (goal.Command (InHandler script tried handler [])) ≡ next = cc in
    let fits = handler_fits tried token handler e in
    subst (λ state. Means state (front ++ tokens ++ on ∷ [] ++ token ∷ [])) same
    (means_sign OpenBrace (goal.Command (InHandler script tried handler [])) (front ++ tokens ++ on ∷ [] ++ token ∷ [])
    (λ opens ends. subst (λ ts. Stands (InHandler script tried handler []) ts) (simp append_assoc)
    (in_handler script tried handler
    (record { front = front; tokens = tokens; is = is; tries = tries; free = fits.1 })
    (record { on = on; word = token; is_on = i; is_handler = fits.0 }) []
    (record { brace = opens; tokens = []; opens = ends; are = no_commands }))))

step_after_on : (script : Script) (tried : TryBlock) (next : State) (token : Token) (front : List Token)
    → BeginsHandler script tried front
    → after_on script tried token ≡ Ok next → Means next (front ++ token ∷ [])
unfolding after_on
step_after_on script tried next token front begins h =
    handler_leads script tried next token front (handler_at tried token) (refl, h) begins

-- What a word says with one token behind it.
record Said (A : Type 0) (tried : Bool) : Type 0 where
  word : List ℕ
  read : Token → Option A
  made : A → Command
  is : (first token : Token) (x : A) → tried ≡ false → is_word word first ≡ true → read token ≡ Some x →
      IsCommand tried (first ∷ token ∷ []) (made x)

step_said : {A : Type 0} (block : Block) (s : Said A (is_tried block)) (next : State) (token : Token)
    (front : List Token) → BeginsWith block s.word front →
    and_then (fit (s.read token)) (λ x. Ok (after_command block (s.made x))) ≡ Ok next →
    Means next (front ++ token ∷ [])
step_said block s next token _ (begins_with_word front word stands tried is) h =
    let found = fit_ok (s.read token) (λ x. after_command block (s.made x)) next h in
    subst (λ state. Means state (front ++ word ∷ [] ++ token ∷ [])) found.2
    (means_command block (s.made found.0) front (word ∷ token ∷ []) (front ++ word ∷ [] ++ token ∷ []) stands
    (s.is word token found.0 tried is found.1) (simp append_assoc))

step_echo : (block : Block) (next : State) (token : Token) (front : List Token) →
    BeginsWith block (codes "echo") front →
    and_then (fit (string_in token)) (λ text. Ok (after_command block (Echo text))) ≡ Ok next →
    Means next (front ++ token ∷ [])
step_echo block = step_said block (record { word = codes "echo"; read = string_in; made = Echo; is = of_echo })

step_exit : (block : Block) (next : State) (token : Token) (front : List Token) →
    BeginsWith block (codes "exit") front →
    and_then (fit (status_in token)) (λ status. Ok (after_command block (Exit status))) ≡ Ok next →
    Means next (front ++ token ∷ [])
step_exit block = step_said block (record { word = codes "exit"; read = status_in; made = Exit; is = of_exit })

goal_steps : (goal : Goal) (next : State) (token : Token) (rest front : List Token) → Leads goal front
    → goal_step goal token (token ∷ rest) ≡ Ok next
    → Means next (front ++ token ∷ [])
unfolding goal_step
goal_steps goal.ClusterName next token rest front leads h = step_cluster_name next token front leads h
goal_steps (goal.NodeId script) next token rest front leads h = step_node_id script next token front leads h
goal_steps (goal.NodeText script id) next token rest front leads h = step_node_text script id next token front leads h
goal_steps (goal.Command block) next token rest front leads h = step_command block next token rest front leads h
goal_steps (goal.Option block verb given) next token rest front leads h =
    step_option (record { block = block; verb = verb; given = given; front = front; stands = leads }) next token
    (token ∷ rest) h
goal_steps (goal.Value block verb given name) next token rest front leads h =
    step_value (record { block = block; verb = verb; given = given; name = name }) next token front leads h
goal_steps (goal.AfterOption block verb given) next token rest front leads h =
    step_after_option block verb given next token front leads h
goal_steps (goal.EchoText block) next token rest front leads h = step_echo block next token front leads h
goal_steps (goal.ExitStatus block) next token rest front leads h = step_exit block next token front leads h
goal_steps (goal.AfterTry script tried) next token rest front leads h =
    step_after_try script tried next token rest front leads h
goal_steps (goal.AfterOn script tried) next token rest front leads h =
    step_after_on script tried next token front leads h

-- a token that goes on keeps what the tokens so far are
pub means_step : (state next : State) (token : Token) (rest front : List Token) → Means state front
    → step state token (token ∷ rest) ≡ Ok next → Means next (front ++ token ∷ [])
unfolding step
means_step (At goal) next token rest front means h = goal_steps goal next token rest front means h
means_step (Awaits phrase at sign goal) next token rest front means h =
    step_awaits (record { phrase = phrase; sign = sign; goal = goal }) at next token (token ∷ rest) front means h

-- where a script may end, the tokens are that script
pub means_end : (state : State) (front : List Token) (script : Script) → Means state front → end_of state ≡ Ok script
    → IsScript front script
means_end (Awaits phrase at sign goal) front script means h = cc
means_end (At (goal.Command (Outside made))) front script means h =
    let same : made ≡ script = cc in subst (λ s. IsScript front s) same (stands_script made front means)
means_end (At (goal.AfterTry made tried)) front script means h =
    let same : with_statement (Tried tried) made ≡ script = cc in
    subst (λ s. IsScript front s) same (stands_script (with_statement (Tried tried) made) front
    (stands_tried made tried front means))
means_end (At _) front script means h = cc
