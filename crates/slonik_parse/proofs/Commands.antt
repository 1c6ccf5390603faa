-- What the machine does with commands and blocks of them.
use Rattle.std.proofs.Common.{◌≡◌, ℕ, Bool, true, false, List, [], ◌∷◌, ◌++◌, drop, codes, Ok, refl, ap, sym, ◌∙◌}
use Rattle.std.proofs.Common.{subst, append_assoc}
use Rattle.slonik_tokens.specs.declared.token.Sign.TheVariants.{Semicolon, OpenBracket}
use Rattle.slonik_tokens.specs.declared.token.Token.{Token}
use Rattle.slonik_tokens.specs.declared.token.Token.TheVariants.{Word}
use Rattle.slonik_tokens.specs.Tokens.{is_word, is_sign}
use Rattle.slonik_parse.specs.declared.form.Verb.{Verb}
use Rattle.slonik_script.specs.declared.script.Command.{Command}
use Rattle.slonik_script.specs.declared.script.Command.TheVariants.{Echo, Exit}
use Rattle.slonik_parse.specs.declared.state.Block.{Block}
use Rattle.slonik_parse.specs.declared.state.Block.TheVariants.{Outside, Try as InTry, Handler as InHandler}
use Rattle.slonik_parse.specs.declared.state.Goal.{Goal}
use Rattle.slonik_parse.specs.declared.state.Goal.TheVariants as goal
use Rattle.slonik_parse.specs.declared.state.Phrase.TheVariants as phrase
use Rattle.slonik_parse.specs.declared.state.State.{State}
use Rattle.slonik_parse.specs.declared.state.State.TheVariants.{Awaits, At}
use Rattle.slonik_parse.specs.Answered.{and_then, fit}
use Rattle.slonik_parse.specs.Choices.{is_left_out}
use Rattle.slonik_parse.specs.Forms.{verb_words}
use Rattle.slonik_parse.specs.Given.{nothing_given}
use Rattle.slonik_parse.specs.Grammar.{AreWords, IsCommand, AreCommands, of_verb, of_echo, of_exit, no_commands}
use Rattle.slonik_parse.specs.Grammar.{more_commands, may_stand}
use Rattle.slonik_parse.specs.Machine.{run, step, goal_step, command_step, begin_in, begin_outside, begin_tried}
use Rattle.slonik_parse.specs.Machine.{any_command, begin_verb, after_command, with_command, phrase_words}
use Rattle.slonik_parse.specs.Places.{is_tried}
use Rattle.slonik_parse.proofs.Words.{other_word, Begins, begins}
use Rattle.slonik_parse.proofs.Pieces.{run-ok, awaited_sign, words_read, sign_read, word_is, words_begin, options_read}
use Rattle.slonik_parse.proofs.Pieces.{close_read}

-- where a command with options leads
abbrev pub opened_verb : Block → Verb → State
opened_verb block verb = Awaits (phrase.Verb verb) 1 OpenBracket (goal.Option block verb nothing_given)

any_begins : (block : Block) (verb : Verb) (text : List ℕ) (tokens : List Token) → Begins verb (Word text) tokens
    → any_command block text (Word text) tokens ≡ Ok (opened_verb block verb)
unfolding any_command begin_verb
any_begins block verb text tokens b = simp (b.kept, b.plain.not_echo, b.plain.not_exit, b.found)

-- a command with options begins in a block where it may stand
pub verb_begins : (block : Block) (verb : Verb) (text : List ℕ) (tokens : List Token)
    → may_stand (is_tried block) verb ≡ true → Begins verb (Word text) tokens
    → begin_in block text (Word text) tokens ≡ Ok (opened_verb block verb)
unfolding begin_in begin_outside begin_tried begin_verb
verb_begins (Outside script) verb text tokens may b =
    simp (b.plain.not_node, b.plain.not_try, any_begins (Outside script) verb text tokens b)
verb_begins (InTry script commands) verb text tokens may b = simp (b.kept, b.triable may, b.not_wait may, b.found)
verb_begins (InHandler script tried handler commands) verb text tokens may b =
    any_begins (InHandler script tried handler commands) verb text tokens b

regroup : (words options rest : List Token) (first opens closes : Token)
    → (first ∷ words ++ opens ∷ options ++ closes ∷ []) ++ rest ≡ first ∷ words ++ opens ∷ (options ++ closes ∷ rest)
regroup words options rest first opens closes = simp append_assoc

-- a block in which a command may stand, and its bracket
pub record Opening : Type 0 where
  pub block : Block
  pub verb : Verb
  pub opens : Token
  pub may : may_stand (is_tried block) verb ≡ true
  pub bracket : is_sign OpenBracket opens ≡ true

verb_read_text : (o : Opening) (text : List ℕ) (words rest : List Token) →
    AreWords (verb_words o.verb) (Word text ∷ words) → AreWords (drop 1 (verb_words o.verb)) words →
    run (Word text ∷ words ++ o.opens ∷ rest) (At (goal.Command o.block))
    ≡ run rest (At (goal.Option o.block o.verb nothing_given))
unfolding phrase_words
verb_read_text o text words rest fits others =
    run-ok (At (goal.Command o.block)) (opened_verb o.block o.verb) (Word text) (words ++ o.opens ∷ rest)
    (unfold step in unfold goal_step in unfold command_step in
    verb_begins o.block o.verb text (Word text ∷ words ++ o.opens ∷ rest) o.may
    (begins o.verb (Word text) words (o.opens ∷ rest) fits))
    ∙ words_read (awaited_sign (phrase.Verb o.verb) OpenBracket (goal.Option o.block o.verb nothing_given) o.opens rest
    o.bracket) 1 (drop 1 (verb_words o.verb)) words refl others

-- the words of a command and the opening bracket
pub verb_read : (o : Opening) (first : Token) (words rest : List Token) → AreWords (verb_words o.verb) (first ∷ words) →
    run (first ∷ words ++ o.opens ∷ rest) (At (goal.Command o.block))
    ≡ run rest (At (goal.Option o.block o.verb nothing_given))
verb_read o first words rest fits =
    let begun = words_begin (verb_words o.verb) first words fits in
    subst (λ t. run (t ∷ words ++ o.opens ∷ rest) (At (goal.Command o.block))
    ≡ run rest (At (goal.Option o.block o.verb nothing_given))) (sym begun.1)
    (verb_read_text o begun.0 words rest
    (subst (λ t. AreWords (verb_words o.verb) (t ∷ words)) begun.1 fits) begun.2)

-- ECHO and EXIT begin where no try block is
said_begins : (block : Block) (text : List ℕ) (tokens : List Token) → is_tried block ≡ false →
    (is_word (codes "echo") (Word text) ≡ true →
    begin_in block text (Word text) (Word text ∷ tokens) ≡ Ok (At (goal.EchoText block)))
    × (is_word (codes "exit") (Word text) ≡ true →
    begin_in block text (Word text) (Word text ∷ tokens) ≡ Ok (At (goal.ExitStatus block)))
unfolding begin_in begin_outside any_command is_left_out
said_begins (InTry script commands) text tokens free = (λ h. cc, λ h. cc)
said_begins others text tokens free =
    (λ h. simp (other_word (codes "echo") (Word text) h), λ h. simp (other_word (codes "exit") (Word text) h))

-- a command of a word and one token behind it
said_read : (block : Block) (asked : Goal) (text : List ℕ) (token : Token) (rest : List Token) (command : Command) →
    begin_in block text (Word text) (Word text ∷ token ∷ rest) ≡ Ok (At asked) →
    step (At asked) token (token ∷ rest) ≡ Ok (after_command block command) →
    run (Word text ∷ token ∷ rest) (At (goal.Command block)) ≡ run rest (after_command block command)
said_read block asked text token rest command begun done =
    run-ok (At (goal.Command block)) (At asked) (Word text) (token ∷ rest)
    (unfold step in unfold goal_step in unfold command_step in begun)
    ∙ run-ok (At asked) (after_command block command) token rest done

-- a command
pub command_read : (block : Block) (tokens rest : List Token) (command : Command) →
    IsCommand (is_tried block) tokens command →
    run (tokens ++ rest) (At (goal.Command block)) ≡ run rest (after_command block command)
command_read block tokens rest command (of_verb verb w given closed _ may makes) =
    ap (λ ts. run ts (At (goal.Command block)))
    (regroup w.others closed.options rest w.first w.end closed.end)
    ∙ verb_read (record { block = block; verb = verb; opens = w.end; may = may; bracket = w.ends }) w.first w.others
    (closed.options ++ closed.end ∷ rest) w.are
    ∙ options_read block verb given closed.options (closed.end ∷ rest) closed.are
    ∙ close_read block verb given command closed.end rest closed.ends makes
command_read block tokens rest command (of_echo word token text free h is) =
    let w = word_is (codes "echo") word h in
    subst (λ t. run (t ∷ token ∷ rest) (At (goal.Command block)) ≡ run rest (after_command block (Echo text))) (sym w.1)
    (said_read block (goal.EchoText block) w.0 token rest (Echo text)
    ((said_begins block w.0 (token ∷ rest) free).0 (subst (λ t. is_word (codes "echo") t ≡ true) w.1 h))
    (unfold step in unfold goal_step in ap (λ found. and_then (fit found) (λ t. Ok (after_command block (Echo t)))) is))
command_read block tokens rest command (of_exit word token status free h is) =
    let w = word_is (codes "exit") word h in
    let begun = (said_begins block w.0 (token ∷ rest) free).1 (subst (λ t. is_word (codes "exit") t ≡ true) w.1 h) in
    subst (λ t. run (t ∷ token ∷ rest) (At (goal.Command block)) ≡ run rest (after_command block (Exit status)))
    (sym w.1)
    (said_read block (goal.ExitStatus block) w.0 token rest (Exit status) begun
    (unfold step in unfold goal_step in ap (λ found. and_then (fit found) (λ n. Ok (after_command block (Exit n)))) is))

regroup_end : (front tokens rest : List Token) (end : Token)
    → (front ++ tokens ++ end ∷ []) ++ rest ≡ front ++ (tokens ++ end ∷ rest)
regroup_end front tokens rest end = simp append_assoc

-- commands with a semicolon behind each, in a block that keeps them
pub commands_read : (block : List Command → Block) (tried : Bool)
    → ((command : Command) (commands : List Command)
    → with_command command (block commands) ≡ block (commands ++ command ∷ []))
    → ((commands : List Command) → is_tried (block commands) ≡ tried)
    → (tokens rest : List Token) (commands : List Command) → AreCommands tried tokens commands
    → run (tokens ++ rest) (At (goal.Command (block []))) ≡ run rest (At (goal.Command (block commands)))
commands_read block tried keeps same tokens rest commands no_commands = refl
commands_read block tried keeps same tokens rest commands (more_commands front others before command end are is h) =
    ap (λ ts. run ts (At (goal.Command (block [])))) (regroup_end front others rest end)
    ∙ commands_read block tried keeps same front (others ++ end ∷ rest) before are
    ∙ command_read (block before) others (end ∷ rest) command
    (subst (λ b. IsCommand b others command) (sym (same before)) is)
    ∙ sign_read Semicolon (goal.Command (with_command command (block before))) end rest h
    ∙ ap (λ b. run rest (At (goal.Command b))) (keeps command before)
