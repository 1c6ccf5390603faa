-- A token that does not go on is wrong as it is said.
use Rattle.std.proofs.Common.{◌≡◌, ℕ, ◌+◌, ◌==◌, ◌&&◌, ◌||◌, Bool, true, false, List, [], ◌∷◌, ◌++◌, length, drop}
use Rattle.std.proofs.Common.{codes, Option, Some, None, Result, Ok, Err, cond, refl, ap, sym, ◌∙◌, subst, inl, inr}
use Rattle.slonik_tokens.specs.declared.token.Sign.{Sign}
use Rattle.slonik_tokens.specs.declared.token.Sign.TheVariants.{Semicolon, Comma, CloseBracket, OpenBrace, CloseBrace}
use Rattle.slonik_tokens.specs.declared.token.Token.{Token}
use Rattle.slonik_tokens.specs.declared.token.Token.TheVariants.{Word, Mark}
use Rattle.slonik_tokens.specs.Tokens.{is_word, is_sign, same_sign}
use Rattle.slonik_parse.specs.declared.form.Verb.{Verb}
use Rattle.slonik_parse.specs.declared.form.OptionName.{OptionName}
use Rattle.slonik_parse.specs.declared.misparse.Misparse.{Misparse}
use Rattle.slonik_parse.specs.declared.misparse.Misparse.TheVariants.{Misfit, UnknownOption, MissingOption}
use Rattle.slonik_parse.specs.declared.misparse.Misparse.TheVariants.{NotInProfile, NotInTry, NoMemory}
use Rattle.slonik_script.specs.declared.script.Command.{Command}
use Rattle.slonik_script.specs.declared.script.Script.{Script}
use Rattle.slonik_script.specs.declared.script.Statement.TheVariants.{Try as Tried}
use Rattle.slonik_script.specs.declared.script.TryBlock.{TryBlock}
use Rattle.slonik_parse.specs.declared.state.Block.{Block}
use Rattle.slonik_parse.specs.declared.state.Block.TheVariants.{Outside, Try as InTry, Handler as InHandler}
use Rattle.slonik_parse.specs.declared.state.Goal.{Goal}
use Rattle.slonik_parse.specs.declared.state.Goal.TheVariants as goal
use Rattle.slonik_parse.specs.declared.state.Handler.{Handler}
use Rattle.slonik_parse.specs.declared.state.Handler.TheVariants.{Error, Success}
use Rattle.slonik_parse.specs.declared.state.Phrase.{Phrase}
use Rattle.slonik_parse.specs.declared.state.State.{State}
use Rattle.slonik_parse.specs.declared.state.State.TheVariants.{Awaits, At}
use Rattle.slonik_parse.specs.Answered.{and_then}
use Rattle.slonik_parse.specs.Choices.{is_left_out, is_not_in_try, is_option_left_out, verb_at, option_at}
use Rattle.slonik_parse.specs.Forms.{option_text}
use Rattle.slonik_parse.specs.Given.{set_option, made}
use Rattle.slonik_parse.specs.Machine.{phrase_words, lower, sign_then, after_command, awaited_by, begin_verb}
use Rattle.slonik_parse.specs.Machine.{any_command, begin_outside, begin_tried, begin_in, close, command_step, missing}
use Rattle.slonik_parse.specs.Machine.{begin_option, option_step, after_option, after_try, handler_at, begin_handler}
use Rattle.slonik_parse.specs.Machine.{after_on, cluster_name, node_text, goal_step, step}
use Rattle.slonik_parse.specs.Places.{Stands}
use Rattle.slonik_parse.specs.Scripts.{with_statement, lacks}
use Rattle.slonik_parse.specs.Values.{name_in, string_in, id_in, status_in}
use Rattle.slonik_parse.proofs.Pieces.{first_of, awaited-by}
use Rattle.slonik_parse.specs.Places.{BeforeOption, BehindOption}
use Rattle.slonik_parse.proofs.Means.{HasTried, Leads, Means, BeforeTried, if_is}
use Rattle.slonik_parse.proofs.MeansStep.{stands_tried}
use Rattle.slonik_script.specs.declared.refusal.ScriptRefusal.TheVariants as refusal
use Rattle.slonik_parse.specs.Refusals.{IsRefused, command_left_out, option_left_out, unknown_option, not_in_try}
use Rattle.slonik_parse.specs.Refusals.{missing_option, missing_option_there}
use Rattle.slonik_parse.proofs.MeansMade.{fit_wrong, and_then_wrong, set_wrong, made_wrong}

-- the tokens are refused so, where something else than a token that does not fit is wrong
abbrev pub WrongSo : List Token → Misparse → Type 0
WrongSo tokens Misfit = Unit {0}
WrongSo tokens (UnknownOption word) = IsRefused tokens (refusal.UnknownOption word)
WrongSo tokens (MissingOption name) = IsRefused tokens (refusal.MissingOption (option_text name))
WrongSo tokens (NotInProfile word) = IsRefused tokens (refusal.NotInProfile word)
WrongSo tokens (NotInTry word) = IsRefused tokens (refusal.NotInTry word)
WrongSo tokens NoMemory = ⊥

-- a token that does not fit
misfits : (tokens : List Token) (misparse : Misparse) → Misfit ≡ misparse → WrongSo tokens misparse
misfits tokens misparse e = subst (λ m. WrongSo tokens m) e tt

-- a test that led to no value
if_wrong : {A E : Type 0} (b : Bool) (x : A) (e f : E) → cond b (Ok x) (Err e) ≡ Err f → e ≡ f
if_wrong true x e f h = cc
if_wrong false x e f h = cc

awaits_wrong : (phrase : Phrase) (at : ℕ) (sign : Sign) (goal : Goal) (misparse : Misparse) (token : Token)
    (left : List (List ℕ))
    → awaited_by (first_of left) phrase at sign goal token ≡ Err misparse → Misfit ≡ misparse
awaits_wrong phrase at sign goal misparse token [] h = if_wrong (is_sign sign token) (At goal) Misfit misparse h
awaits_wrong phrase at sign goal misparse token (word ∷ left) h =
    if_wrong (is_word word token) (Awaits phrase (at + 1) sign goal) Misfit misparse h

-- a word that begins no option
option_wrong : (at : BeforeOption) (text : List ℕ) (misparse : Misparse) (rest : List Token)
    (found : Option OptionName) (out : Bool) →
    (option_at at.verb (Word text) ≡ found) × (is_option_left_out at.verb (Word text ∷ rest) ≡ out) →
    begin_option at.block at.verb at.given text (Word text ∷ rest) found ≡ Err misparse →
    WrongSo (at.front ++ Word text ∷ rest) misparse
unfolding begin_option
option_wrong at text misparse rest (Some name) out (e, i) h = cc
option_wrong at text misparse rest None true (e, i) h =
    let same : NotInProfile (lower text) ≡ misparse =
    cc (sym h ∙ ap (λ b. cond b (Err (NotInProfile (lower text))) (Err (UnknownOption (lower text)))) i) in
    subst (λ m. WrongSo (at.front ++ Word text ∷ rest) m) same
    (option_left_out at rest text i)
option_wrong at text misparse rest None false (e, i) h =
    let same : UnknownOption (lower text) ≡ misparse =
    cc (sym h ∙ ap (λ b. cond b (Err (NotInProfile (lower text))) (Err (UnknownOption (lower text)))) i) in
    subst (λ m. WrongSo (at.front ++ Word text ∷ rest) m) same
    (unknown_option at rest text e i)

-- the closing bracket where an option is missing
missing_wrong : (at : BeforeOption) (misparse : Misparse) (token : Token) (rest : List Token)
    (read : Result Command Misparse) → made at.verb at.given ≡ read → is_sign CloseBracket token ≡ true →
    missing read ≡ Err misparse → WrongSo (at.front ++ token ∷ rest) misparse
missing_wrong at misparse token rest (Ok command) e i h = misfits (at.front ++ token ∷ rest) misparse (cc)
missing_wrong at misparse token rest (Err error) e i h =
    let lacks_one = made_wrong at.verb at.given error e in
    let same : MissingOption lacks_one.0 ≡ misparse = cc (lacks_one.1) in
    subst (λ m. WrongSo (at.front ++ token ∷ rest) m) same
    (missing_option_there at rest token lacks_one.0 i (e ∙ ap (λ m. Err m) lacks_one.1))

wrong_option : (at : BeforeOption) (misparse : Misparse) (token : Token) (rest : List Token) →
    option_step at.block at.verb at.given token (token ∷ rest) ≡ Err misparse →
    WrongSo (at.front ++ token ∷ rest) misparse
unfolding option_step
wrong_option at misparse (Word text) rest h =
    option_wrong at text misparse rest (option_at at.verb (Word text))
    (is_option_left_out at.verb (Word text ∷ rest)) (refl, refl) h
wrong_option at misparse (Mark sign) rest h =
    elim (if_is (same_sign sign CloseBracket) (missing (made at.verb at.given)) (Err Misfit) (Err misparse) h) as (λ _.
    WrongSo (at.front ++ Mark sign ∷ rest) misparse) [
      | inl is ↦ missing_wrong at misparse (Mark sign) rest (made at.verb at.given) refl is.0 is.1
      | inr is ↦ misfits (at.front ++ Mark sign ∷ rest) misparse (cc (is.1))
    ]
wrong_option at misparse others rest h = misfits (at.front ++ others ∷ rest) misparse (cc)

closed_wrong : (at : BehindOption) (misparse : Misparse) (token : Token) (rest : List Token) (comma closes : Bool)
    → is_sign CloseBracket token ≡ closes
    → cond comma (Ok (At (goal.Option at.block at.verb at.given)))
    (cond closes (and_then (made at.verb at.given) (λ command. Ok (after_command at.block command))) (Err Misfit))
    ≡ Err misparse
    → WrongSo (at.front ++ token ∷ rest) misparse
closed_wrong at misparse token rest true closes e h = cc
closed_wrong at misparse token rest false false e h = misfits (at.front ++ token ∷ rest) misparse (cc)
closed_wrong at misparse token rest false true e h =
    let makes = and_then_wrong (made at.verb at.given) (λ command. after_command at.block command) misparse h in
    let lacks_one = made_wrong at.verb at.given misparse makes in
    subst (λ m. WrongSo (at.front ++ token ∷ rest) m) (sym lacks_one.1)
    (missing_option at rest token lacks_one.0 e (makes ∙ ap (λ m. Err m) lacks_one.1))

wrong_after_option : (at : BehindOption) (misparse : Misparse) (token : Token) (rest : List Token) →
    after_option at.block at.verb at.given token ≡ Err misparse → WrongSo (at.front ++ token ∷ rest) misparse
unfolding after_option
wrong_after_option at misparse token rest h =
    closed_wrong at misparse token rest (is_sign Comma token) (is_sign CloseBracket token) refl h

-- a word that begins no command
verb_wrong : (block : Block) (found : Option Verb) (misparse : Misparse) → begin_verb block found ≡ Err misparse
    → Misfit ≡ misparse
unfolding begin_verb
verb_wrong block None misparse h = cc
verb_wrong block (Some verb) misparse h = cc

left_out : (block : Block) (text : List ℕ) (misparse : Misparse) (rest front : List Token) → Stands block front
    → is_left_out (Word text ∷ rest) ≡ true
    → NotInProfile (lower text) ≡ misparse → WrongSo (front ++ Word text ∷ rest) misparse
left_out block text misparse rest front stands i same =
    subst (λ m. WrongSo (front ++ Word text ∷ rest) m) same (command_left_out front rest block text stands i)

-- A word that is refused: its text, what is behind it, and how it is refused.
record Refusing : Type 0 where
  text : List ℕ
  rest : List Token
  misparse : Misparse

abbrev from_word : Refusing → List Token
from_word w = Word w.text ∷ w.rest

any_wrong : (block : Block) (w : Refusing) (front : List Token) (out echo exit : Bool) →
    (is_left_out (from_word w) ≡ out) × Stands block front →
    cond out (Err (NotInProfile (lower w.text))) (cond echo (Ok (At (goal.EchoText block)))
    (cond exit (Ok (At (goal.ExitStatus block))) (begin_verb block (verb_at (Word w.text) (from_word w)))))
    ≡ Err w.misparse → WrongSo (front ++ from_word w) w.misparse
any_wrong block w front true echo exit i h = left_out block w.text w.misparse w.rest front i.1 i.0 (cc)
any_wrong block w front false true exit i h = cc
any_wrong block w front false false true i h = cc
any_wrong block w front false false false i h =
    misfits (front ++ from_word w) w.misparse
    (verb_wrong block (verb_at (Word w.text) (from_word w)) w.misparse h)

any_command_wrong : (block : Block) (w : Refusing) (front : List Token) → Stands block front →
    any_command block w.text (Word w.text) (from_word w) ≡ Err w.misparse → WrongSo (front ++ from_word w) w.misparse
unfolding any_command
any_command_wrong block w front stands h =
    any_wrong block w front (is_left_out (from_word w)) (is_word (codes "echo") (Word w.text))
    (is_word (codes "exit") (Word w.text)) (refl, stands) h

tried_wrong : (at : BeforeTried) (w : Refusing) (out barred wait : Bool) → is_left_out (from_word w) ≡ out →
    is_not_in_try (from_word w) ≡ barred →
    cond out (Err (NotInProfile (lower w.text))) (cond barred (Err (NotInTry (lower w.text)))
    (cond wait (Err Misfit) (begin_verb (InTry at.script at.commands) (verb_at (Word w.text) (from_word w)))))
    ≡ Err w.misparse → WrongSo (at.front ++ from_word w) w.misparse
tried_wrong at w true barred wait i j h =
    left_out (InTry at.script at.commands) w.text w.misparse w.rest at.front at.stands i (cc)
tried_wrong at w false true wait i j h =
    let same : NotInTry (lower w.text) ≡ w.misparse = cc in
    subst (λ m. WrongSo (at.front ++ from_word w) m) same
    (not_in_try at.front w.rest at.script at.commands w.text at.stands j)
tried_wrong at w false false true i j h = misfits (at.front ++ from_word w) w.misparse (cc)
tried_wrong at w false false false i j h =
    misfits (at.front ++ from_word w) w.misparse
    (verb_wrong (InTry at.script at.commands) (verb_at (Word w.text) (from_word w)) w.misparse h)

begin_tried_wrong : (at : BeforeTried) (w : Refusing) →
    begin_tried at.script at.commands w.text (Word w.text) (from_word w) ≡ Err w.misparse →
    WrongSo (at.front ++ from_word w) w.misparse
unfolding begin_tried
begin_tried_wrong at w h =
    tried_wrong at w (is_left_out (from_word w)) (is_not_in_try (from_word w))
    (is_word (codes "wait") (Word w.text)) refl
    refl h

outside_wrong : (script : Script) (w : Refusing) (front : List Token) (node tries : Bool) →
    Stands (Outside script) front →
    cond node (Ok (At (goal.NodeId script))) (cond tries (Ok (sign_then OpenBrace (goal.Command (InTry script []))))
    (any_command (Outside script) w.text (Word w.text) (from_word w))) ≡ Err w.misparse →
    WrongSo (front ++ from_word w) w.misparse
outside_wrong script w front true tries stands h = cc
outside_wrong script w front false true stands h = cc
outside_wrong script w front false false stands h = any_command_wrong (Outside script) w front stands h

begin_outside_wrong : (script : Script) (w : Refusing) (front : List Token) → Stands (Outside script) front →
    begin_outside script w.text (Word w.text) (from_word w) ≡ Err w.misparse →
    WrongSo (front ++ from_word w) w.misparse
unfolding begin_outside
begin_outside_wrong script w front stands h =
    outside_wrong script w front (is_word (codes "node") (Word w.text) && length script.statements == 0)
    (is_word (codes "try") (Word w.text)) stands h

begin_wrong : (block : Block) (w : Refusing) (front : List Token) → Stands block front →
    begin_in block w.text (Word w.text) (from_word w) ≡ Err w.misparse → WrongSo (front ++ from_word w) w.misparse
unfolding begin_in
begin_wrong (Outside script) w front stands h = begin_outside_wrong script w front stands h
begin_wrong (InTry script commands) w front stands h =
    begin_tried_wrong (record { script = script; commands = commands; front = front; stands = stands }) w h
begin_wrong (InHandler script tried handler commands) w front stands h =
    any_command_wrong (InHandler script tried handler commands) w front stands h

close_wrong : (block : Block) (misparse : Misparse) → close block ≡ Err misparse → Misfit ≡ misparse
unfolding close
close_wrong (Outside script) misparse h = cc
close_wrong others misparse h = cc

wrong_command : (block : Block) (misparse : Misparse) (token : Token) (rest front : List Token) → Stands block front
    → command_step block token (token ∷ rest) ≡ Err misparse → WrongSo (front ++ token ∷ rest) misparse
unfolding command_step
wrong_command block misparse (Word text) rest front stands h =
    begin_wrong block (record { text = text; rest = rest; misparse = misparse }) front stands h
wrong_command block misparse (Mark sign) rest front stands h =
    elim (if_is (same_sign sign CloseBrace) (close block) (Err Misfit) (Err misparse) h) as (λ _.
    WrongSo (front ++ Mark sign ∷ rest) misparse) [
      | inl is ↦ misfits (front ++ Mark sign ∷ rest) misparse (close_wrong block misparse is.1)
      | inr is ↦ misfits (front ++ Mark sign ∷ rest) misparse (cc (is.1))
    ]
wrong_command block misparse others rest front stands h = misfits (front ++ others ∷ rest) misparse (cc)

wrong_after_try : (script : Script) (tried : TryBlock) (misparse : Misparse) (token : Token) (rest front : List Token) →
    HasTried script tried front → after_try script tried token (token ∷ rest) ≡ Err misparse →
    WrongSo (front ++ token ∷ rest) misparse
unfolding after_try
wrong_after_try script tried misparse token rest front has h =
    by (is_sign Semicolon token) (is_word (codes "on") token && (lacks Error tried || lacks Success tried)) h
  where
    by : (ends on : Bool) →
        cond ends (Ok (At (goal.Command (Outside (with_statement (Tried tried) script)))))
        (cond on (Ok (At (goal.AfterOn script tried)))
        (command_step (Outside (with_statement (Tried tried) script)) token (token ∷ rest))) ≡ Err misparse →
        WrongSo (front ++ token ∷ rest) misparse
    by true on h = cc
    by false true h = cc
    by false false h =
        wrong_command (Outside (with_statement (Tried tried) script)) misparse token rest front
        (stands_tried script tried front has) h

handler_wrong : (script : Script) (tried : TryBlock) (misparse : Misparse) (found : Option Handler)
    → begin_handler script tried found ≡ Err misparse → Misfit ≡ misparse
handler_wrong script tried misparse None h = cc
handler_wrong script tried misparse (Some handler) h = cc

goal_wrong : (goal : Goal) (misparse : Misparse) (token : Token) (rest front : List Token) → Leads goal front
    → goal_step goal token (token ∷ rest) ≡ Err misparse
    → WrongSo (front ++ token ∷ rest) misparse
unfolding goal_step cluster_name node_text after_on
goal_wrong goal.ClusterName misparse token rest front leads h =
    misfits (front ++ token ∷ rest) misparse (fit_wrong (name_in token) _ misparse h)
goal_wrong (goal.NodeId script) misparse token rest front leads h =
    misfits (front ++ token ∷ rest) misparse (fit_wrong (id_in token) _ misparse h)
goal_wrong (goal.NodeText script id) misparse token rest front leads h =
    misfits (front ++ token ∷ rest) misparse (fit_wrong (string_in token) _ misparse h)
goal_wrong (goal.Command block) misparse token rest front leads h =
    wrong_command block misparse token rest front leads h
goal_wrong (goal.Option block verb given) misparse token rest front leads h =
    wrong_option (record { block = block; verb = verb; given = given; front = front; stands = leads }) misparse token
    rest
    h
goal_wrong (goal.Value block verb given name) misparse token rest front leads h =
    misfits (front ++ token ∷ rest) misparse (set_wrong name token given misparse
    (and_then_wrong (set_option name token given) (λ more. At (goal.AfterOption block verb more)) misparse h))
goal_wrong (goal.AfterOption block verb given) misparse token rest front leads h =
    wrong_after_option (record { block = block; verb = verb; given = given; front = front; ends = leads }) misparse
    token
    rest h
goal_wrong (goal.EchoText block) misparse token rest front leads h =
    misfits (front ++ token ∷ rest) misparse (fit_wrong (string_in token) _ misparse h)
goal_wrong (goal.ExitStatus block) misparse token rest front leads h =
    misfits (front ++ token ∷ rest) misparse (fit_wrong (status_in token) _ misparse h)
goal_wrong (goal.AfterTry script tried) misparse token rest front leads h =
    wrong_after_try script tried misparse token rest front leads h
goal_wrong (goal.AfterOn script tried) misparse token rest front leads h =
    misfits (front ++ token ∷ rest) misparse (handler_wrong script tried misparse (handler_at tried token) h)

-- a token that does not go on is wrong as it is said
pub means_wrong : (state : State) (misparse : Misparse) (token : Token) (rest front : List Token) → Means state front
    → step state token (token ∷ rest) ≡ Err misparse
    → WrongSo (front ++ token ∷ rest) misparse
means_wrong (At goal) misparse token rest front means h =
    goal_wrong goal misparse token rest front means (unfold step in h)
means_wrong (Awaits phrase at sign goal) misparse token rest front means h =
    misfits (front ++ token ∷ rest) misparse
    (awaits_wrong phrase at sign goal misparse token (drop at (phrase_words phrase))
    (sym (awaited-by phrase at sign goal token (token ∷ rest)) ∙ h))
