-- What the machine does with what the grammar allows, piece by piece.
use Rattle.std.proofs.Common.{◌≡◌, ℕ, zero, suc, ◌+◌, true, List, [], ◌∷◌, ◌++◌, length, drop, Option, Some, None, Ok}
use Rattle.std.proofs.Common.{Err, cond, if◌then◌else◌, refl, ap, sym, ◌∙◌, subst, append_assoc, slice_get, add-one}
use Rattle.slonik_tokens.specs.declared.token.Sign.{Sign}
use Rattle.slonik_tokens.specs.declared.token.Sign.TheVariants.{Comma, Equals, CloseBracket}
use Rattle.slonik_tokens.specs.declared.token.Token.{Token}
use Rattle.slonik_tokens.specs.declared.token.Token.TheVariants.{Word}
use Rattle.slonik_tokens.specs.Tokens.{is_word, is_sign}
use Rattle.slonik_parse.specs.declared.misparse.Misparse.{Misparse}
use Rattle.slonik_parse.specs.declared.misparse.Misparse.TheVariants.{Misfit}
use Rattle.slonik_parse.specs.declared.state.Block.{Block}
use Rattle.slonik_parse.specs.declared.state.Goal.{Goal}
use Rattle.slonik_parse.specs.declared.state.Goal.TheVariants as goal
use Rattle.slonik_parse.specs.declared.state.Phrase.{Phrase}
use Rattle.slonik_parse.specs.declared.state.Phrase.TheVariants as phrase
use Rattle.slonik_parse.specs.declared.state.State.{State}
use Rattle.slonik_parse.specs.declared.state.State.TheVariants.{Awaits, At}
use Rattle.slonik_parse.specs.declared.form.Verb.{Verb}
use Rattle.slonik_parse.specs.declared.given.Given.{Given}
use Rattle.slonik_parse.specs.declared.form.OptionName.{OptionName}
use Rattle.slonik_script.specs.declared.script.Command.{Command}
use Rattle.slonik_parse.specs.Answered.{and_then}
use Rattle.slonik_parse.specs.Choices.{option_at}
use Rattle.slonik_parse.specs.Forms.{option_words}
use Rattle.slonik_parse.specs.Given.{nothing_given, set_option, made}
use Rattle.slonik_parse.specs.Grammar.{AreWords, IsOption, AreOptions, is_option, one_option, more_options}
use Rattle.slonik_parse.specs.Machine.{wrong, run, step, awaited, awaited_by, phrase_words, sign_then, goal_step}
use Rattle.slonik_parse.specs.Machine.{option_step, begin_option, after_option, after_command, go_on}
use Rattle.slonik_parse.proofs.Words.{other_sign}

-- the first of a list
abbrev pub first_of : {A : Type 0} → List A → Option A
first_of [] = None
first_of (x ∷ xs) = Some x

-- an element by its place is the first of what is left there
pub slice_get-drop : {A : Type 0} (xs : List A) (i : ℕ) → slice_get xs i ≡ first_of (drop i xs)
slice_get-drop [] zero = refl
slice_get-drop [] (suc i) = refl
slice_get-drop (x ∷ xs) zero = refl
slice_get-drop (x ∷ xs) (suc i) = slice_get-drop xs i

-- what is left one place on
pub drop-next : {A : Type 0} (xs : List A) (i : ℕ) (x : A) (rest : List A) → drop i xs ≡ x ∷ rest
    → drop (i + 1) xs ≡ rest
drop-next [] zero x rest e = cc
drop-next [] (suc i) x rest e = cc
drop-next (y ∷ ys) zero x rest e = cc
drop-next (y ∷ ys) (suc i) x rest e =
    let below = drop-next ys i x rest e in
    rw add-one (rw add-one at below)

-- a token that goes on leads to the next state
pub run-ok : (state next : State) (token : Token) (rest : List Token) → step state token (token ∷ rest) ≡ Ok next
    → run (token ∷ rest) state ≡ run rest next
unfolding run
run-ok state next token rest h = ap (λ made. go_on made (run rest) (length rest + 1)) h

-- a token that is wrong ends the run
pub run-err : (state : State) (misparse : Misparse) (token : Token) (rest : List Token)
    → step state token (token ∷ rest) ≡ Err misparse → run (token ∷ rest) state ≡ Err (wrong misparse (length rest + 1))
unfolding run
run-err state misparse token rest h = ap (λ made. go_on made (run rest) (length rest + 1)) h

-- what is awaited is the first of the words that are left, or else the sign
pub awaited-by : (phrase : Phrase) (at : ℕ) (sign : Sign) (goal : Goal) (token : Token) (tokens : List Token)
    → step (Awaits phrase at sign goal) token tokens ≡ awaited_by (first_of (drop at (phrase_words phrase))) phrase at
    sign goal token
unfolding step awaited
awaited-by phrase at sign goal token tokens =
    ap (λ word. awaited_by word phrase at sign goal token) (slice_get-drop (phrase_words phrase) at)

-- What is awaited: the words of a phrase and a sign behind them, which is there.
pub record Awaited : Type 0 where
  pub phrase : Phrase
  pub sign : Sign
  pub goal : Goal
  pub token : Token
  pub rest : List Token
  pub there : is_sign sign token ≡ true

abbrev pub awaited_sign : (phrase : Phrase) (sign : Sign) (goal : Goal) (token : Token) → List Token →
    is_sign sign token ≡ true → Awaited
awaited_sign phrase sign goal token rest there =
    record { phrase = phrase; sign = sign; goal = goal; token = token; rest = rest; there = there }

-- the words that are awaited, and the sign behind them
pub words_read : (a : Awaited) (at : ℕ) (left : List (List ℕ)) (words : List Token) →
    drop at (phrase_words a.phrase) ≡ left → AreWords left words →
    run (words ++ a.token ∷ a.rest) (Awaits a.phrase at a.sign a.goal) ≡ run a.rest (At a.goal)
words_read a at [] [] e fits =
    run-ok (Awaits a.phrase at a.sign a.goal) (At a.goal) a.token a.rest
    (awaited-by a.phrase at a.sign a.goal a.token (a.token ∷ a.rest)
    ∙ ap (λ words. awaited_by (first_of words) a.phrase at a.sign a.goal a.token) e
    ∙ ap (λ b. cond b (Ok (At a.goal)) (Err Misfit)) a.there)
words_read a at (w ∷ ws) (t ∷ ts) e fits =
    run-ok (Awaits a.phrase at a.sign a.goal) (Awaits a.phrase (at + 1) a.sign a.goal) t (ts ++ a.token ∷ a.rest)
    (awaited-by a.phrase at a.sign a.goal t (t ∷ ts ++ a.token ∷ a.rest)
    ∙ ap (λ words. awaited_by (first_of words) a.phrase at a.sign a.goal t) e
    ∙ ap (λ b. cond b (Ok (Awaits a.phrase (at + 1) a.sign a.goal)) (Err Misfit)) fits.0)
    ∙ words_read a (at + 1) ws ts (drop-next (phrase_words a.phrase) at w ws e) fits.1
words_read a at [] others e fits = absurd fits
words_read a at others [] e fits = absurd fits

-- the sign that is awaited
pub sign_read : (sign : Sign) (goal : Goal) (token : Token) (rest : List Token) → is_sign sign token ≡ true
    → run (token ∷ rest) (sign_then sign goal) ≡ run rest (At goal)
unfolding phrase_words
sign_read sign goal token rest h = words_read (awaited_sign phrase.Nothing sign goal token rest h) 0 [] [] refl tt

-- a token that is a word of the language is a word
pub word_is : (word : List ℕ) (token : Token) → is_word word token ≡ true → (text : List ℕ) × (token ≡ Word text)
word_is word (Word text) h = (text, refl)
word_is word others h = cc

-- the first of some words is a word, and the others are the other words
pub words_begin : (words : List (List ℕ)) (first : Token) (others : List Token) → AreWords words (first ∷ others)
    → (text : List ℕ) × (first ≡ Word text) × AreWords (drop 1 words) others
words_begin [] first others fits = absurd fits
words_begin (word ∷ words) first others fits = let found = word_is word first fits.0 in (found.0, found.1, fits.1)

-- what the value of an option leads to
value_read : (block : Block) (verb : Verb) (given all : Given) (name : OptionName) (value : Token) (rest : List Token)
    → set_option name value given ≡ Ok all
    → run (value ∷ rest) (At (goal.Value block verb given name)) ≡ run rest (At (goal.AfterOption block verb all))
value_read block verb given all name value rest h =
    run-ok (At (goal.Value block verb given name)) (At (goal.AfterOption block verb all)) value rest
    (unfold step in unfold goal_step in ap (λ made. and_then made (λ more. Ok (At (goal.AfterOption block verb more))))
    h)

-- the first word of an option
option_word_read : (block : Block) (verb : Verb) (given : Given) (name : OptionName) (text : List ℕ) (rest : List Token)
    → option_at verb (Word text) ≡ Some name
    → run (Word text ∷ rest) (At (goal.Option block verb given))
    ≡ run rest (Awaits (phrase.Option name) 1 Equals (goal.Value block verb given name))
option_word_read block verb given name text rest found =
    run-ok (At (goal.Option block verb given)) (Awaits (phrase.Option name) 1 Equals (goal.Value block verb given name))
    (Word text) rest
    (unfold step in unfold goal_step in unfold option_step in unfold begin_option in
    ap (begin_option block verb given text (Word text ∷ rest)) found)

-- an option
pub option_read : (block : Block) (verb : Verb) (given all : Given) (tokens rest : List Token)
    → IsOption verb given tokens all
    → run (tokens ++ rest) (At (goal.Option block verb given)) ≡ run rest (At (goal.AfterOption block verb all))
unfolding phrase_words
option_read block verb given all tokens rest (is_option name w value more found set) =
    let begun = words_begin (option_words name) w.first w.others w.are in
    let named = goal.Value block verb given name in
    subst (λ t. run ((t ∷ w.others ++ w.end ∷ value ∷ []) ++ rest) (At (goal.Option block verb given))
    ≡ run rest (At (goal.AfterOption block verb more))) (sym begun.1)
    (option_word_read block verb given name begun.0 ((w.others ++ w.end ∷ value ∷ []) ++ rest)
    (subst (λ t. option_at verb t ≡ Some name) begun.1 found)
    ∙ ap (λ tokens. run tokens (Awaits (phrase.Option name) 1 Equals named))
    (append_assoc w.others (w.end ∷ value ∷ []) rest)
    ∙ words_read (awaited_sign (phrase.Option name) Equals named w.end (value ∷ rest) w.ends) 1
    (drop 1 (option_words name)) w.others refl begun.2
    ∙ value_read block verb given more name value rest set)

-- a comma
pub comma_read : (block : Block) (verb : Verb) (given : Given) (comma : Token) (rest : List Token)
    → is_sign Comma comma ≡ true
    → run (comma ∷ rest) (At (goal.AfterOption block verb given)) ≡ run rest (At (goal.Option block verb given))
comma_read block verb given comma rest h =
    run-ok (At (goal.AfterOption block verb given)) (At (goal.Option block verb given)) comma rest
    (unfold step in unfold goal_step in unfold after_option in
    ap (λ b. cond b (Ok (At (goal.Option block verb given)))
    (if is_sign CloseBracket comma then and_then (made verb given) (λ command. Ok (after_command block command))
    else Err Misfit)) h)

-- options
pub options_read : (block : Block) (verb : Verb) (given : Given) (tokens rest : List Token)
    → AreOptions verb tokens given
    → run (tokens ++ rest) (At (goal.Option block verb nothing_given))
    ≡ run rest (At (goal.AfterOption block verb given))
options_read block verb given tokens rest (one_option _ _ is) =
    option_read block verb nothing_given given tokens rest is
options_read block verb given tokens rest (more_options front others before all comma them h is) =
    ap (λ ts. run ts (At (goal.Option block verb nothing_given))) (append_assoc front (comma ∷ others) rest)
    ∙ options_read block verb before front (comma ∷ others ++ rest) them
    ∙ comma_read block verb before comma (others ++ rest) h
    ∙ option_read block verb before given others rest is

-- the closing bracket and the semicolon
pub close_read : (block : Block) (verb : Verb) (given : Given) (command : Command) (closes : Token) (rest : List Token)
    → is_sign CloseBracket closes ≡ true → made verb given ≡ Ok command
    → run (closes ∷ rest) (At (goal.AfterOption block verb given)) ≡ run rest (after_command block command)
close_read block verb given command closes rest h makes =
    run-ok (At (goal.AfterOption block verb given)) (after_command block command) closes rest
    (unfold step in unfold goal_step in unfold after_option in
    ap (λ b. cond b (Ok (At (goal.Option block verb given)))
    (if is_sign CloseBracket closes then and_then (made verb given) (λ c. Ok (after_command block c)) else Err
    Misfit)) (other_sign CloseBracket Comma closes h)
    ∙ ap (λ b. cond b (and_then (made verb given) (λ c. Ok (after_command block c))) (Err Misfit)) h
    ∙ ap (λ m. and_then m (λ c. Ok (after_command block c))) makes)
