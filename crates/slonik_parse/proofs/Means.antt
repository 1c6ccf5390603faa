-- What the tokens so far are, where a state is reached.
use Rattle.std.proofs.Common.{◌≡◌, ℕ, ◌||◌, Bool, true, false, List, [], ◌∷◌, ◌++◌, drop, codes, Option, Some, None}
use Rattle.std.proofs.Common.{Result, Ok, Err, cond, refl, subst, ◌⊎◌, inl, inr}
use Rattle.std.proofs.lemmas.List.{append-nil}
use Rattle.slonik_tokens.specs.declared.token.Sign.{Sign}
use Rattle.slonik_tokens.specs.declared.token.Sign.TheVariants.{Equals}
use Rattle.slonik_tokens.specs.declared.token.Token.{Token}
use Rattle.slonik_tokens.specs.Tokens.{is_word, is_sign}
use Rattle.slonik_parse.specs.declared.form.Verb.{Verb}
use Rattle.slonik_parse.specs.declared.form.OptionName.{OptionName}
use Rattle.slonik_parse.specs.declared.given.Given.{Given}
use Rattle.slonik_parse.specs.declared.misparse.Misparse.{Misparse}
use Rattle.slonik_script.specs.declared.script.Command.{Command}
use Rattle.slonik_script.specs.declared.script.Script.{Script}
use Rattle.slonik_script.specs.declared.script.TryBlock.{TryBlock}
use Rattle.slonik_parse.specs.declared.state.Block.{Block}
use Rattle.slonik_parse.specs.declared.state.Block.TheVariants.{Try as InTry}
use Rattle.slonik_parse.specs.declared.state.Goal.{Goal}
use Rattle.slonik_parse.specs.declared.state.Goal.TheVariants as goal
use Rattle.slonik_parse.specs.declared.state.Handler.TheVariants.{Error, Success}
use Rattle.slonik_parse.specs.declared.state.State.{State}
use Rattle.slonik_parse.specs.declared.state.State.TheVariants.{Awaits, At}
use Rattle.slonik_parse.specs.Answered.{and_then, fit}
use Rattle.slonik_parse.specs.Choices.{option_at}
use Rattle.slonik_parse.specs.Forms.{option_words}
use Rattle.slonik_parse.specs.Grammar.{AreWords, Phrased, HeadWords, NodeWords, IsTry, IsScript}
use Rattle.slonik_parse.specs.Machine.{phrase_words, sign_then, behind_preamble}
use Rattle.slonik_parse.specs.Places.{is_tried, Stands, OptionStands, OptionEnds}
use Rattle.slonik_parse.specs.Scripts.{lacks}

-- CLUSTER NAME and `=`
pub data NamesCluster : List Token → Type 0 where
  names_cluster : (words : HeadWords) → NamesCluster (words.first ∷ words.second ∷ words.equals ∷ [])

-- a script with no statement, and NODE
pub data BeginsNode (script : Script) : List Token → Type 0 where
  begins_node : (front : List Token) (word : Token) → IsScript front script → script.statements ≡ []
      → is_word (codes "node") word ≡ true → BeginsNode script (front ++ word ∷ [])

-- a script with no statement, and a NODE line up to its `=`
pub data NamesNode (script : Script) (id : ℕ) : List Token → Type 0 where
  names_node : (front : List Token) (words : NodeWords id) → IsScript front script → script.statements ≡ []
      → NamesNode script id (front ++ words.word ∷ words.number ∷ words.admin ∷ words.conninfo ∷ words.equals ∷ [])

-- the words of an option and its `=`, where an option may begin
pub data NamesOption (block : Block) (verb : Verb) (given : Given) (name : OptionName) : List Token → Type 0 where
  names_option : (front : List Token) (words : Phrased (option_words name) Equals) → OptionStands block verb given front
      → option_at verb words.first ≡ Some name
      → NamesOption block verb given name (front ++ words.first ∷ words.others ++ words.end ∷ [])

-- a word where a command may begin, in no try block
pub data BeginsWith (block : Block) (name : List ℕ) : List Token → Type 0 where
  begins_with_word : (front : List Token) (word : Token) → Stands block front → is_tried block ≡ false
      → is_word name word ≡ true → BeginsWith block name (front ++ word ∷ [])

-- a script and a try block
pub data HasTried (script : Script) (tried : TryBlock) : List Token → Type 0 where
  has_tried : (front tokens : List Token) → IsScript front script → IsTry tokens tried
      → HasTried script tried (front ++ tokens)

-- a script, a try block and ON, where a block may come behind that
pub data BeginsHandler (script : Script) (tried : TryBlock) : List Token → Type 0 where
  begins_on : (front tokens : List Token) (on : Token) → IsScript front script → IsTry tokens tried
      → is_word (codes "on") on ≡ true → (lacks Error tried || lacks Success tried) ≡ true
      → BeginsHandler script tried (front ++ tokens ++ on ∷ [])

-- what the tokens so far are, where the goal is read next
abbrev pub Leads : Goal → List Token → Type 0
Leads goal.ClusterName front = NamesCluster front
Leads (goal.NodeId script) front = BeginsNode script front
Leads (goal.NodeText script id) front = NamesNode script id front
Leads (goal.Command block) front = Stands block front
Leads (goal.Option block verb given) front = OptionStands block verb given front
Leads (goal.Value block verb given name) front = NamesOption block verb given name front
Leads (goal.AfterOption block verb given) front = OptionEnds block verb given front
Leads (goal.EchoText block) front = BeginsWith block (codes "echo") front
Leads (goal.ExitStatus block) front = BeginsWith block (codes "exit") front
Leads (goal.AfterTry script tried) front = HasTried script tried front
Leads (goal.AfterOn script tried) front = BeginsHandler script tried front

-- What the tokens so far are, in a state: where words are awaited, whatever fits leads to the goal.
abbrev pub Means : State → List Token → Type 0
Means (At goal) front = Leads goal front
Means (Awaits phrase at sign goal) front =
    (words : List Token) (token : Token) → AreWords (drop at (phrase_words phrase)) words → is_sign sign token ≡ true
    → Leads goal (front ++ words ++ token ∷ [])

-- where no words are awaited, the sign leads to the goal
pub means_sign : (sign : Sign) (goal : Goal) (front : List Token)
    → ((token : Token) → is_sign sign token ≡ true → Leads goal (front ++ token ∷ []))
    → Means (sign_then sign goal) front
unfolding phrase_words
means_sign sign goal front leads [] token fits h = subst (λ tokens. Leads goal tokens) (simp append-nil) (leads token h)
means_sign sign goal front leads (word ∷ words) token fits h = absurd fits

-- behind CLUSTER NAME
pub means_start : (first second : Token) → is_word (codes "cluster") first ≡ true → is_word (codes "name") second ≡ true
    → Means behind_preamble (first ∷ second ∷ [])
means_start first second is_first is_second =
    means_sign Equals goal.ClusterName (first ∷ second ∷ [])
    (λ equals ends. names_cluster (record {
      first = first;
      second = second;
      equals = equals;
      is_first = is_first;
      is_second = is_second;
      ends = ends;
    }))

-- a test that led to a value
pub if_ok : {A E : Type 0} (b : Bool) (x y : A) (e : E) → cond b (Ok x) (Err e) ≡ Ok y → (b ≡ true) × (x ≡ y)
if_ok true x y e h = (refl, cc)
if_ok false x y e h = cc

-- a test, and what it led to
pub if_is : {A : Type 0} (b : Bool) (x y z : A) → cond b x y ≡ z → ((b ≡ true) × (x ≡ z)) ⊎ ((b ≡ false) × (y ≡ z))
if_is true x y z h = inl (refl, h)
if_is false x y z h = inr (refl, h)

-- a reading that led to a value
pub and_then_ok : {S T : Type 0} (read : Result S Misparse) (more : S → T) (y : T)
    → and_then read (λ x. Ok (more x)) ≡ Ok y → (x : S) × (read ≡ Ok x) × (more x ≡ y)
and_then_ok (Ok x) more y h = (x, refl, cc)
and_then_ok (Err e) more y h = cc

-- the value that was there
pub fit_ok : {S T : Type 0} (found : Option S) (more : S → T) (y : T) → and_then (fit found) (λ x. Ok (more x)) ≡ Ok y
    → (x : S) × (found ≡ Some x) × (more x ≡ y)
fit_ok (Some x) more y h = (x, refl, cc)
fit_ok None more y h = cc

-- what stands before a command, where no try block is open
pub record BeforeCommand : Type 0 where
  pub block : Block
  pub front : List Token
  pub stands : Stands block front
  pub tried : is_tried block ≡ false

-- what stands before a command of a try block
pub record BeforeTried : Type 0 where
  pub script : Script
  pub commands : List Command
  pub front : List Token
  pub stands : Stands (InTry script commands) front
