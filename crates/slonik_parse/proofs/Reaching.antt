-- What the grammar calls a script is read as it.
use Rattle.std.proofs.Common.{◌≡◌, ℕ, Bool, true, false, List, [], ◌∷◌, ◌++◌, drop, codes, Some, Ok, refl, ap, sym, ◌∙◌}
use Rattle.std.proofs.Common.{subst, append_assoc}
use Rattle.slonik_tokens.specs.declared.token.Sign.TheVariants.{Semicolon, Equals}
use Rattle.slonik_tokens.specs.declared.token.Token.{Token}
use Rattle.slonik_tokens.specs.declared.token.Token.TheVariants.{Word, Number, Quoted, Mark, NameUse, Path}
use Rattle.slonik_tokens.specs.Tokens.{is_word, is_sign}
use Rattle.slonik_script.specs.declared.script.Command.{Command}
use Rattle.slonik_script.specs.declared.script.Script.{Script}
use Rattle.slonik_script.specs.declared.script.Statement.TheVariants.{Single, Try as Tried}
use Rattle.slonik_script.specs.declared.script.TryBlock.{TryBlock}
use Rattle.slonik_parse.specs.declared.state.Block.TheVariants.{Outside}
use Rattle.slonik_parse.specs.declared.state.Goal.TheVariants as goal
use Rattle.slonik_parse.specs.declared.state.Phrase.TheVariants as phrase
use Rattle.slonik_parse.specs.declared.state.State.TheVariants.{Awaits, At}
use Rattle.slonik_parse.specs.Answered.{and_then, fit}
use Rattle.slonik_parse.specs.Choices.{begins_with}
use Rattle.slonik_parse.specs.Forms.{verb_words}
use Rattle.slonik_parse.specs.Grammar.{AreWords, IsCommand, IsTry, IsScript, of_verb, of_echo, of_exit, tried_block}
use Rattle.slonik_parse.specs.Grammar.{handled_block, script_head, script_node, script_command, script_try}
use Rattle.slonik_parse.specs.Grammar.{script_closed_try}
use Rattle.slonik_parse.specs.Machine.{run, step, goal_step, command_step, begin_in, begin_outside, cluster_name}
use Rattle.slonik_parse.specs.Machine.{node_text, after_try, sign_then, with_command, behind_preamble, phrase_words}
use Rattle.slonik_parse.specs.Refusals.{preamble}
use Rattle.slonik_parse.specs.Scripts.{with_statement, with_node, empty_script}
use Rattle.slonik_parse.specs.Values.{name_in, id_in, string_in}
use Rattle.slonik_parse.proofs.Words.{other_word, begins}
use Rattle.slonik_parse.proofs.Pieces.{run-ok, awaited_sign, words_read, sign_read}
use Rattle.slonik_parse.proofs.Commands.{command_read}
use Rattle.slonik_parse.proofs.Statements.{try_read, regroup_handler}

-- the tokens do not go on with a try block before them
abbrev pub NotOn : List Token → Type 0
NotOn [] = Unit {0}
NotOn (token ∷ tokens) = (is_sign Semicolon token ≡ false) × (is_word (codes "on") token ≡ false)

-- a word is no sign
pub word_no_sign : (word : List ℕ) (token : Token) → is_word word token ≡ true → is_sign Semicolon token ≡ false
word_no_sign word (Mark sign) h = cc
word_no_sign word others h = refl

pub first_word_no_sign : (words : List (List ℕ)) (first : Token) (others : List Token) → AreWords words (first ∷ others)
    → is_sign Semicolon first ≡ false
first_word_no_sign [] first others fits = absurd fits
first_word_no_sign (word ∷ words) first others fits = word_no_sign word first fits.0

-- a command is none of what goes on with a try block
pub command_not_on : (tried : Bool) (tokens rest : List Token) (command : Command) → IsCommand tried tokens command
    → NotOn (tokens ++ rest)
command_not_on tried tokens rest command (of_verb verb w given closed _ may makes) =
    (first_word_no_sign (verb_words verb) w.first w.others w.are, (begins verb w.first w.others [] w.are).plain.not_on)
command_not_on tried tokens rest command (of_echo word token text free h is) =
    (word_no_sign (codes "echo") word h, other_word (codes "echo") word h (codes "on"))
command_not_on tried tokens rest command (of_exit word token status free h is) =
    (word_no_sign (codes "exit") word h, other_word (codes "exit") word h (codes "on"))

pub try_not_on : (tokens rest : List Token) (block : TryBlock) → IsTry tokens block → NotOn (tokens ++ rest)
try_not_on tokens rest block (tried_block word commands body h) =
    (word_no_sign (codes "try") word h, other_word (codes "try") word h (codes "on"))
try_not_on tokens rest block (handled_block front before handler words commands body is free) =
    let inner = body.opening.tokens in
    subst NotOn (sym (regroup_handler front inner rest words.on words.word body.opening.brace body.end))
    (try_not_on front (words.on ∷ words.word ∷ body.opening.brace ∷ (inner ++ body.end ∷ rest)) before is)

-- behind a try block the next statement is read as elsewhere
pub after_try_same : (script : Script) (tried : TryBlock) (rest : List Token) → NotOn rest
    → run rest (At (goal.AfterTry script tried)) ≡ run rest
    (At (goal.Command (Outside (with_statement (Tried tried) script))))
unfolding run step goal_step after_try
after_try_same script tried [] clear = refl
after_try_same script tried (token ∷ rest) clear = simp (clear.0, clear.1)

-- a semicolon behind a try block
closed_read : (script : Script) (tried : TryBlock) (end : Token) (rest : List Token) → is_sign Semicolon end ≡ true
    → run (end ∷ rest) (At (goal.AfterTry script tried))
    ≡ run rest (At (goal.Command (Outside (with_statement (Tried tried) script))))
closed_read script tried end rest h =
    run-ok (At (goal.AfterTry script tried)) (At (goal.Command (Outside (with_statement (Tried tried) script)))) end
    rest (unfold step in unfold goal_step in unfold after_try in simp h)

-- The tokens are read as the script so far, whatever comes behind them.
pub record Reached (front : List Token) (script : Script) : Type 0 where
  pub preamble : (rest : List Token) → begins_with preamble (front ++ rest) ≡ true
  pub ran : (rest : List Token) → NotOn rest
      → run (drop 2 (front ++ rest)) behind_preamble ≡ run rest (At (goal.Command (Outside script)))

head_read : (name : List ℕ) (equals value end : Token) (rest : List Token) → is_sign Equals equals ≡ true
    → name_in value ≡ Some name → is_sign Semicolon end ≡ true
    → run (equals ∷ value ∷ end ∷ rest) behind_preamble ≡ run rest (At (goal.Command (Outside (empty_script name))))
head_read name equals value end rest h is h2 =
    sign_read Equals goal.ClusterName equals (value ∷ end ∷ rest) h
    ∙ run-ok (At goal.ClusterName) (sign_then Semicolon (goal.Command (Outside (empty_script name)))) value (end ∷ rest)
    (unfold step in unfold goal_step in unfold cluster_name in
    ap (λ found. and_then (fit found) (λ n. Ok (sign_then Semicolon (goal.Command (Outside (empty_script n)))))) is)
    ∙ sign_read Semicolon (goal.Command (Outside (empty_script name))) end rest h2

node_begins : (script : Script) (text : List ℕ) (tokens : List Token) → script.statements ≡ []
    → is_word (codes "node") (Word text) ≡ true
    → begin_in (Outside script) text (Word text) tokens ≡ Ok (At (goal.NodeId script))
unfolding begin_in begin_outside
node_begins script text tokens none h = simp (h, none)

node_word_read : (script : Script) (word : Token) (rest : List Token) → script.statements ≡ []
    → is_word (codes "node") word ≡ true
    → run (word ∷ rest) (At (goal.Command (Outside script))) ≡ run rest (At (goal.NodeId script))
node_word_read script (Word text) rest none h =
    run-ok (At (goal.Command (Outside script))) (At (goal.NodeId script)) (Word text) rest
    (unfold step in unfold goal_step in unfold command_step in node_begins script text (Word text ∷ rest) none h)
node_word_read script (Number text) rest none h = cc
node_word_read script (Quoted text) rest none h = cc
node_word_read script (Mark sign) rest none h = cc
node_word_read script (NameUse name) rest none h = cc
node_word_read script (Path path) rest none h = cc

node_id_read : (script : Script) (id : ℕ) (number : Token) (rest : List Token) → id_in number ≡ Some id
    → run (number ∷ rest) (At (goal.NodeId script)) ≡ run rest (Awaits phrase.Node 0 Equals (goal.NodeText script id))
node_id_read script id number rest is =
    run-ok (At (goal.NodeId script)) (Awaits phrase.Node 0 Equals (goal.NodeText script id)) number rest
    (unfold step in unfold goal_step in ap (λ found. and_then (fit found)
    (λ n. Ok (Awaits phrase.Node 0 Equals (goal.NodeText script n)))) is)

-- its conninfo
node_text_read : (script : Script) (id : ℕ) (text : List ℕ) (value : Token) (rest : List Token)
    → string_in value ≡ Some text
    → run (value ∷ rest) (At (goal.NodeText script id))
    ≡ run rest (sign_then Semicolon (goal.Command (Outside (with_node id text script))))
node_text_read script id text value rest is =
    run-ok (At (goal.NodeText script id)) (sign_then Semicolon (goal.Command (Outside (with_node id text script))))
    value rest
    (unfold step in unfold goal_step in unfold node_text in
    ap (λ found.
    and_then (fit found) (λ t. Ok (sign_then Semicolon (goal.Command (Outside (with_node id t script)))))) is)

both_words : (first second : Token) → is_word (codes "cluster") first ≡ true → is_word (codes "name") second ≡ true
    → (rest : List Token) → begins_with preamble (first ∷ second ∷ rest) ≡ true
both_words first second h h2 rest = simp (h, h2)

-- What comes behind the tokens so far, and the tokens from there on.
pub record Part (front : List Token) : Type 0 where
  pub now : List Token
  pub next : List Token → List Token
  pub same : (rest : List Token) → (front ++ now) ++ rest ≡ front ++ next rest

abbrev pub part : (front now : List Token) (next : List Token → List Token) →
    ((rest : List Token) → (front ++ now) ++ rest ≡ front ++ next rest) → Part front
part front now next same = record { now = now; next = next; same = same }

-- the tokens so far with what follows them, one part later
later : (front : List Token) (p : Part front) (script grown : Script) → Reached front script →
    ((rest : List Token) → NotOn rest → NotOn (p.next rest)) →
    ((rest : List Token) → NotOn rest →
    run (p.next rest) (At (goal.Command (Outside script))) ≡ run rest (At (goal.Command (Outside grown)))) →
    Reached (front ++ p.now) grown
later front p script grown r keeps goes = record {
  preamble = λ rest. ap (begins_with preamble) (p.same rest) ∙ r.preamble (p.next rest);
  ran = λ rest clear. ap (λ ts. run (drop 2 ts) behind_preamble) (p.same rest) ∙ r.ran (p.next rest) (keeps rest clear)
      ∙ goes rest clear;
}

-- the same with a semicolon at the end
later_end : (front tokens : List Token) (end : Token) (script grown : Script) → Reached front script
    → ((rest : List Token) → NotOn rest → NotOn (tokens ++ end ∷ rest))
    → ((rest : List Token) → NotOn rest
    → run (tokens ++ end ∷ rest) (At (goal.Command (Outside script)))
    ≡ run rest (At (goal.Command (Outside grown)))) → Reached (front ++ tokens ++ end ∷ []) grown
later_end front tokens end script grown r keeps goes =
    subst (λ ts. Reached ts grown) (sym (append_assoc front tokens (end ∷ [])))
    (later front (part front (tokens ++ end ∷ []) (λ rest. tokens ++ end ∷ rest) (λ rest. simp append_assoc)) script
    grown r keeps goes)

-- what the grammar calls a script is reached
pub reached : (front : List Token) (script : Script) → IsScript front script → Reached front script
unfolding with_command phrase_words
reached front script (script_head w value end name is h) = record {
  preamble = λ rest. both_words w.first w.second w.is_first w.is_second (w.equals ∷ value ∷ end ∷ rest);
  ran = λ rest clear. head_read name w.equals value end rest w.ends is h;
}
reached front script (script_node before old id w text q is none) =
    let behind : List Token → List Token = λ rest. q.value ∷ q.end ∷ rest in
    let line : List Token → List Token = λ rest. w.word ∷ w.number ∷ w.admin ∷ w.conninfo ∷ w.equals ∷ behind rest in
    later before (part before (line []) line (λ rest. append_assoc before (line []) rest)) old
    (with_node id text old) (reached before old is)
    (λ rest clear. (
      word_no_sign (codes "node") w.word w.is_node,
      other_word (codes "node") w.word w.is_node
          (codes "on"),
    ))
    (λ rest clear. node_word_read old w.word (w.number ∷ w.admin ∷ w.conninfo ∷ w.equals ∷ behind rest) none w.is_node
    ∙ node_id_read old id w.number (w.admin ∷ w.conninfo ∷ w.equals ∷ behind rest) w.is_id
    ∙ words_read (awaited_sign phrase.Node Equals (goal.NodeText old id) w.equals (behind rest) w.ends) 0
    (codes "admin" ∷ codes "conninfo" ∷ []) (w.admin ∷ w.conninfo ∷ []) refl w.are
    ∙ node_text_read old id text q.value (q.end ∷ rest) q.is_text
    ∙ sign_read Semicolon (goal.Command (Outside (with_node id text old))) q.end rest q.ends)
reached front script (script_command before tokens old command end is is2 h) =
    later_end before tokens end old (with_statement (Single command) old) (reached before old is)
    (λ rest clear. command_not_on false tokens (end ∷ rest) command is2)
    (λ rest clear. command_read (Outside old) tokens (end ∷ rest) command is2
    ∙ sign_read Semicolon (goal.Command (with_command command (Outside old))) end rest h)
reached front script (script_try before tokens old block is is2) =
    later before (part before tokens (λ rest. tokens ++ rest) (λ rest. append_assoc before tokens rest)) old
    (with_statement (Tried block) old) (reached before old is)
    (λ rest clear. try_not_on tokens rest block is2)
    (λ rest clear. try_read old tokens rest block is2 ∙ after_try_same old block rest clear)
reached front script (script_closed_try before tokens old block end is is2 h) =
    later_end before tokens end old (with_statement (Tried block) old) (reached before old is)
    (λ rest clear. try_not_on tokens (end ∷ rest) block is2)
    (λ rest clear. try_read old tokens (end ∷ rest) block is2 ∙ closed_read old block end rest h)
