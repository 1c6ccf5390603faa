-- What the grammar refuses is refused so.
use Rattle.std.proofs.Common.{◌≡◌, ℕ, ◌+◌, ◌-◌, ◌&&◌, ◌||◌, Bool, true, false, List, [], ◌∷◌, ◌++◌, length, drop, codes}
use Rattle.std.proofs.Common.{None, Err, cond, refl, ap, sym, ◌∙◌, subst, arith}
use Rattle.std.proofs.lemmas.Bool.{and_right}
use Rattle.std.specs.Str.{bytes_eq, str_to_ascii_lowercase}
use Rattle.slonik_script.specs.declared.refusal.ScriptRefusal.{ScriptRefusal}
use Rattle.slonik_script.specs.declared.refusal.ScriptRefusal.TheVariants as refusal
use Rattle.slonik_tokens.specs.declared.token.Sign.TheVariants.{Comma, CloseBracket}
use Rattle.slonik_tokens.specs.declared.token.Token.{Token}
use Rattle.slonik_tokens.specs.declared.token.Token.TheVariants.{Word, Mark}
use Rattle.slonik_tokens.specs.Tokens.{is_word}
use Rattle.slonik_parse.specs.declared.form.Verb.{Verb}
use Rattle.slonik_parse.specs.declared.form.Verb.TheVariants as verb
use Rattle.slonik_parse.specs.declared.misparse.Misparse.{Misparse}
use Rattle.slonik_parse.specs.declared.misparse.Misparse.TheVariants.{UnknownOption, MissingOption, NotInProfile}
use Rattle.slonik_parse.specs.declared.misparse.Misparse.TheVariants.{NotInTry}
use Rattle.slonik_script.specs.declared.script.Command.{Command}
use Rattle.slonik_script.specs.declared.script.Script.{Script}
use Rattle.slonik_parse.specs.declared.given.Given.{Given}
use Rattle.slonik_parse.specs.declared.state.Block.{Block}
use Rattle.slonik_parse.specs.declared.state.Block.TheVariants.{Outside, Try as InTry, Handler as InHandler}
use Rattle.slonik_parse.specs.declared.state.Goal.TheVariants as goal
use Rattle.slonik_parse.specs.declared.state.State.{State}
use Rattle.slonik_parse.specs.declared.state.State.TheVariants.{At}
use Rattle.slonik_parse.specs.Choices.{begins_with, is_left_out, is_not_in_try, is_option_left_out, option_at}
use Rattle.slonik_parse.specs.Choices.{begins_option}
use Rattle.slonik_parse.specs.Forms.{options_of, option_words}
use Rattle.slonik_parse.specs.Machine.{run, step, goal_step, command_step, begin_in, begin_outside, begin_tried}
use Rattle.slonik_parse.specs.Machine.{any_command, option_step, begin_option, after_option, missing, lower}
use Rattle.slonik_parse.specs.Machine.{behind_preamble}
use Rattle.slonik_parse.specs.Outcomes.{script_in, placed, refused_at}
use Rattle.slonik_parse.specs.Places.{BeforeOption}
use Rattle.slonik_parse.specs.Refusals.{IsRefused, preamble, no_preamble, command_left_out, option_left_out}
use Rattle.slonik_parse.specs.Refusals.{unknown_option, not_in_try, missing_option, missing_option_there}
use Rattle.slonik_parse.proofs.Words.{other_word, other_sign, sign_is}
use Rattle.slonik_parse.proofs.Pieces.{run-err}
use Rattle.slonik_parse.proofs.Reaching.{NotOn}
use Rattle.slonik_parse.proofs.Standing.{ReadTo, Anything, stands_read, option_stands_read, option_ends_read}

pub false_unless : (b : Bool) → (b ≡ true → ⊥) → b ≡ false
false_unless true h = absurd (h refl)
false_unless false h = refl

pub or_cases : {P : Type 0} (a b : Bool) → (a || b) ≡ true → (a ≡ true → P) → (b ≡ true → P) → P
or_cases true b h f g = f refl
or_cases false b h f g = g h

pub and_left : (a b : Bool) → (a && b) ≡ true → a ≡ true
and_left true b h = refl
and_left false b h = cc

neither : (a b : Bool) → (a && (b && true)) ≡ false → (a && b) ≡ false
neither true true h = h
neither true false h = refl
neither false b h = refl

pub both : (a b : Bool) → (a && (b && true)) ≡ true → (a ≡ true) × (b ≡ true)
both true true h = (refl, refl)
both true false h = (refl, h)
both false b h = (h, cc)

-- a script behind its preamble
pub script_in-run : (tokens : List Token) → begins_with preamble tokens ≡ true
    → script_in tokens ≡ placed (length tokens) (run (drop 2 tokens) behind_preamble)
unfolding script_in
script_in-run [] h = cc
script_in-run (first ∷ []) h = let e = and_right (is_word (codes "cluster") first) false refl in cc
script_in-run (first ∷ second ∷ tokens) h =
    let words = both (is_word (codes "cluster") first) (is_word (codes "name") second) h in
    let two : length tokens + 2 ≡ length (first ∷ second ∷ tokens) = omega arith in
    ap (λ b. cond (b && is_word (codes "name") second) (placed (length tokens + 2) (run tokens behind_preamble))
    (Err refusal.NoPreamble)) words.0
    ∙ ap (λ b. cond b (placed (length tokens + 2) (run tokens behind_preamble)) (Err refusal.NoPreamble)) words.1
    ∙ ap (λ n. placed n (run tokens behind_preamble)) two

pub without_preamble : (tokens : List Token) → begins_with preamble tokens ≡ false
    → script_in tokens ≡ Err refusal.NoPreamble
unfolding script_in
without_preamble [] h = refl
without_preamble (first ∷ []) h = refl
without_preamble (first ∷ second ∷ tokens) h =
    ap (λ b. cond b (placed (length tokens + 2) (run tokens behind_preamble)) (Err refusal.NoPreamble))
    (neither (is_word (codes "cluster") first) (is_word (codes "name") second) h)

-- what is left out begins with none of the words of what is not
left_out_other : (text : List ℕ) (rest : List Token) (word : List ℕ) → is_left_out (Word text ∷ rest) ≡ true
    → (is_word word (Word text) ≡ true → is_left_out (Word text ∷ rest) ≡ false) → is_word word (Word text) ≡ false
left_out_other text rest word h other = false_unless (is_word word (Word text)) (λ w. let e = other w in cc)

-- NODE, TRY and ON begin nothing that is left out
not_node : (text : List ℕ) (rest : List Token) → is_word (codes "node") (Word text) ≡ true →
    is_left_out (Word text ∷ rest) ≡ false
unfolding is_left_out
not_node text rest w = simp (other_word (codes "node") (Word text) w)

not_try_nor_on : (text : List ℕ) (rest : List Token) →
    (is_word (codes "try") (Word text) ≡ true → is_left_out (Word text ∷ rest) ≡ false)
    × (is_word (codes "on") (Word text) ≡ true → is_left_out (Word text ∷ rest) ≡ false)
unfolding is_left_out
not_try_nor_on text rest =
    (λ w. simp (other_word (codes "try") (Word text) w), λ w. simp (other_word (codes "on") (Word text) w))

any_left_out : (block : Block) (text : List ℕ) (token : Token) (tokens : List Token) → is_left_out tokens ≡ true
    → any_command block text token tokens ≡ Err (NotInProfile (lower text))
unfolding any_command
any_left_out block text token tokens h = simp h

-- a command that is left out is refused in each block
left_out_step : (block : Block) (text : List ℕ) (rest : List Token) → is_left_out (Word text ∷ rest) ≡ true
    → begin_in block text (Word text) (Word text ∷ rest) ≡ Err (NotInProfile (lower text))
unfolding begin_in begin_outside begin_tried
left_out_step (Outside script) text rest h =
    simp (
      left_out_other text rest (codes "node") h (not_node text rest),
      left_out_other text rest (codes "try") h (not_try_nor_on text rest).0,
      any_left_out (Outside script) text (Word text) (Word text ∷ rest) h,
    )
left_out_step (InTry script commands) text rest h = simp h
left_out_step (InHandler script tried handler commands) text rest h =
    any_left_out (InHandler script tried handler commands) text (Word text) (Word text ∷ rest) h

-- what the first of these words says of the word that is there
tests : (word : List ℕ) (words : List (List ℕ)) (text : List ℕ) (rest : List Token) →
    begins_with (word ∷ words) (Word text ∷ rest) ≡ true → (other : List ℕ) →
    is_word other (Word text) ≡ bytes_eq (str_to_ascii_lowercase word) (str_to_ascii_lowercase other)
tests word words text rest h =
    other_word word (Word text) (and_left (is_word word (Word text)) (begins_with words rest) h)

-- what is not allowed in a try block is not left out
try_kept : (text : List ℕ) (rest : List Token) → is_not_in_try (Word text ∷ rest) ≡ true →
    is_left_out (Word text ∷ rest) ≡ false
unfolding is_not_in_try is_left_out
try_kept text rest h =
    let a = begins_with (codes "wait" ∷ codes "for" ∷ codes "event" ∷ []) (Word text ∷ rest) in
    let b = begins_with (codes "sleep" ∷ []) (Word text ∷ rest) in
    let c = begins_with (codes "echo" ∷ []) (Word text ∷ rest) in
    let d = begins_with (codes "exit" ∷ []) (Word text ∷ rest) in
    let e = begins_with (codes "failover" ∷ []) (Word text ∷ rest) in
    let f = begins_with (codes "try" ∷ []) (Word text ∷ rest) in
    or_cases (a || b || c || d || e) f h
    (λ h1. or_cases (a || b || c || d) e h1
    (λ h2. or_cases (a || b || c) d h2
    (λ h3. or_cases (a || b) c h3
    (λ h4. or_cases a b h4 (λ t. simp (tests (codes "wait") (codes "for" ∷ codes "event" ∷ []) text rest t))
    (λ t. simp (tests (codes "sleep") [] text rest t)))
    (λ t. simp (tests (codes "echo") [] text rest t)))
    (λ t. simp (tests (codes "exit") [] text rest t)))
    (λ t. simp (tests (codes "failover") [] text rest t)))
    (λ t. simp (tests (codes "try") [] text rest t))

not_in_try_step : (script : Script) (commands : List Command) (text : List ℕ) (rest : List Token)
    → is_not_in_try (Word text ∷ rest) ≡ true
    → begin_in (InTry script commands) text (Word text) (Word text ∷ rest) ≡ Err (NotInTry (lower text))
unfolding begin_in begin_tried
not_in_try_step script commands text rest h = simp (try_kept text rest h, h)

-- an option that is left out is none of the command's
left_out_none : (v : Verb) (text : List ℕ) (rest : List Token) → is_option_left_out v (Word text ∷ rest) ≡ true →
    option_at v (Word text) ≡ None
unfolding is_option_left_out option_at options_of begins_option option_words
left_out_none verb.SubscribeSet text rest h = simp (tests (codes "omit") (codes "copy" ∷ []) text rest h)
left_out_none verb.SetAddTable text rest h =
    or_cases (begins_with (codes "tables" ∷ []) (Word text ∷ rest))
    (begins_with (codes "add" ∷ codes "sequences" ∷ []) (Word text ∷ rest)) h
    (λ t. simp (tests (codes "tables") [] text rest t))
    (λ t. simp (tests (codes "add") (codes "sequences" ∷ []) text rest t))
left_out_none others text rest h = cc

not_in_try_on : (text : List ℕ) (rest : List Token) → is_word (codes "on") (Word text) ≡ true
    → is_not_in_try (Word text ∷ rest) ≡ false
unfolding is_not_in_try
not_in_try_on text rest w = simp (other_word (codes "on") (Word text) w)

try_not_on_word : (text : List ℕ) (rest : List Token) → is_not_in_try (Word text ∷ rest) ≡ true
    → is_word (codes "on") (Word text) ≡ false
try_not_on_word text rest h =
    false_unless (is_word (codes "on") (Word text)) (λ w. let e = not_in_try_on text rest w in cc)

-- a refusal at a token that is reached
refused_there : (front : List Token) (state : State) (Kind : List Token → Type 0) (token : Token) (rest : List Token)
    (misparse : Misparse) → ReadTo front state Kind →
    Kind (token ∷ rest) × (step state token (token ∷ rest) ≡ Err misparse) →
    script_in (front ++ token ∷ rest)
    ≡ Err (refused_at (length (front ++ token ∷ rest) + 1 - (length rest + 1)) misparse)
refused_there front state Kind token rest misparse r h =
    script_in-run (front ++ token ∷ rest) (r.preamble (token ∷ rest))
    ∙ ap (placed (length (front ++ token ∷ rest))) (r.ran (token ∷ rest) h.0 ∙ run-err state misparse token rest h.1)

-- a word that is no option is refused, as one that is left out or as one that there is not
unread_option : (block : Block) (v : Verb) (given : Given) (text : List ℕ) (rest : List Token) →
    option_at v (Word text) ≡ None → (b : Bool) → is_option_left_out v (Word text ∷ rest) ≡ b →
    step (At (goal.Option block v given)) (Word text) (Word text ∷ rest)
    ≡ cond b (Err (NotInProfile (lower text))) (Err (UnknownOption (lower text)))
unread_option block v given text rest none b h =
    unfold step in unfold goal_step in unfold option_step in unfold begin_option in
    ap (begin_option block v given text (Word text ∷ rest)) none
    ∙ ap (λ b. cond b (Err (NotInProfile (lower text))) (Err (UnknownOption (lower text)))) h

-- a refusal where an option may begin
refused_option : (at : BeforeOption) (token : Token) (rest : List Token) (misparse : Misparse)
    → step (At (goal.Option at.block at.verb at.given)) token (token ∷ rest) ≡ Err misparse
    → script_in (at.front ++ token ∷ rest)
    ≡ Err (refused_at (length (at.front ++ token ∷ rest) + 1 - (length rest + 1)) misparse)
refused_option at token rest misparse h =
    refused_there at.front (At (goal.Option at.block at.verb at.given)) Anything token rest misparse
    (option_stands_read at.block at.verb at.given at.front at.stands) (tt, h)

-- each refusal of the grammar is that of the machine
pub refused : (tokens : List Token) (r : ScriptRefusal) → IsRefused tokens r → script_in tokens ≡ Err r
refused tokens r (no_preamble _ h) = without_preamble tokens h
refused tokens r (command_left_out front rest block text stands h) =
    refused_there front (At (goal.Command block)) NotOn (Word text) rest (NotInProfile (lower text))
    (stands_read block front stands) (
      (refl, left_out_other text rest (codes "on") h (not_try_nor_on text rest).1),
      unfold step in unfold goal_step in unfold command_step in left_out_step block text rest h,
    )
refused tokens r (option_left_out at rest text h) =
    refused_option at (Word text) rest (NotInProfile (lower text))
    (unread_option at.block at.verb at.given text rest (left_out_none at.verb text rest h) true h)
refused tokens r (unknown_option at rest text none h) =
    refused_option at (Word text) rest (UnknownOption (lower text))
    (unread_option at.block at.verb at.given text rest none false h)
refused tokens r (not_in_try front rest script commands text stands h) =
    refused_there front (At (goal.Command (InTry script commands))) NotOn (Word text) rest (NotInTry (lower text))
    (stands_read (InTry script commands) front stands) (
      (refl, try_not_on_word text rest h),
      unfold step in unfold goal_step in unfold command_step in not_in_try_step script commands text rest h,
    )
refused tokens r (missing_option at rest closes name h makes) =
    refused_there at.front (At (goal.AfterOption at.block at.verb at.given)) Anything closes rest (MissingOption name)
    (option_ends_read at.block at.verb at.given at.front at.ends) (
      tt,
      unfold step in unfold goal_step in unfold after_option in
          simp (other_sign CloseBracket Comma closes h, h, makes),
    )
refused tokens r (missing_option_there at rest closes name h makes) =
    subst (λ t. script_in (at.front ++ t ∷ rest) ≡ Err r) (sym (sign_is CloseBracket closes h))
    (refused_option at (Mark CloseBracket) rest (MissingOption name)
    (unfold step in unfold goal_step in unfold option_step in ap missing makes))
