-- What a script is: which tokens spell which script.
use Rattle.std.specs.Prelude.{◌≡◌, ℕ, Bool, true, false, List, [], ◌∷◌, ◌++◌, codes, Some, Ok}
use Rattle.slonik_tokens.specs.declared.token.Sign.{Sign}
use Rattle.slonik_tokens.specs.declared.token.Sign.TheVariants.{Semicolon, Comma, Equals, OpenBracket, CloseBracket}
use Rattle.slonik_tokens.specs.declared.token.Sign.TheVariants.{OpenBrace, CloseBrace}
use Rattle.slonik_tokens.specs.declared.token.Token.{Token}
use Rattle.slonik_tokens.specs.Tokens.{is_word, is_sign}
use Rattle.slonik_parse.specs.declared.form.Verb.{Verb}
use Rattle.slonik_parse.specs.declared.form.Verb.TheVariants.{Failover, WaitForEvent, Sleep}
use Rattle.slonik_parse.specs.declared.form.OptionName.{OptionName}
use Rattle.slonik_parse.specs.declared.given.Given.{Given}
use Rattle.slonik_script.specs.declared.script.Command.{Command}
use Rattle.slonik_script.specs.declared.script.Command.TheVariants.{Echo, Exit}
use Rattle.slonik_script.specs.declared.script.Script.{Script}
use Rattle.slonik_script.specs.declared.script.Statement.TheVariants.{Single, Try as Tried}
use Rattle.slonik_script.specs.declared.script.TryBlock.{TryBlock}
use Rattle.slonik_parse.specs.declared.state.Handler.{Handler}
use Rattle.slonik_parse.specs.declared.state.Handler.TheVariants.{Error, Success}
use Rattle.slonik_parse.specs.Choices.{option_at}
use Rattle.slonik_parse.specs.Forms.{verb_words, option_words}
use Rattle.slonik_parse.specs.Given.{nothing_given, set_option, made}
use Rattle.slonik_parse.specs.Scripts.{with_statement, with_node, empty_script, try_of, with_handler, lacks}
use Rattle.slonik_parse.specs.Values.{name_in, string_in, id_in, status_in}

-- the tokens are these words, in whatever case
abbrev pub AreWords : List (List ℕ) → List Token → Type 0
AreWords [] [] = Unit {0}
AreWords [] (token ∷ tokens) = ⊥
AreWords (word ∷ words) [] = ⊥
AreWords (word ∷ words) (token ∷ tokens) = (is_word word token ≡ true) × AreWords words tokens

-- Tokens that are these words, in whatever case, and a sign behind them.
pub record Phrased (words : List (List ℕ)) (sign : Sign) : Type 0 where
  pub first : Token
  pub others : List Token
  pub end : Token
  pub are : AreWords words (first ∷ others)
  pub ends : is_sign sign end ≡ true

-- An option of a command: its words, `=` and its value. It is given beside those before it; more are all of them.
pub data IsOption (verb : Verb) (given : Given) : List Token → Given → Type 0 where
  is_option : (name : OptionName) (words : Phrased (option_words name) Equals) (value : Token) (more : Given)
      → option_at verb words.first ≡ Some name → set_option name value given ≡ Ok more
      → IsOption verb given (words.first ∷ words.others ++ words.end ∷ value ∷ []) more

-- options with commas between them; of one that comes more than once the last counts
pub data AreOptions (verb : Verb) : List Token → Given → Type 0 where
  one_option : (tokens : List Token) (given : Given) → IsOption verb nothing_given tokens given
      → AreOptions verb tokens given
  more_options : (front tokens : List Token) (given all : Given) (comma : Token) → AreOptions verb front given
      → is_sign Comma comma ≡ true → IsOption verb given tokens all → AreOptions verb (front ++ comma ∷ tokens) all

-- the command may stand in a try block
abbrev pub may_be_tried : Verb → Bool
may_be_tried WaitForEvent = false
may_be_tried Sleep = false
may_be_tried Failover = false
may_be_tried _ = true

-- the command may stand in a block, which is a try block or not
abbrev pub may_stand : Bool → Verb → Bool
may_stand true verb = may_be_tried verb
may_stand false verb = true

-- Options and the bracket behind them.
pub record Closed (verb : Verb) (given : Given) : Type 0 where
  pub options : List Token
  pub end : Token
  pub are : AreOptions verb options given
  pub ends : is_sign CloseBracket end ≡ true

-- a command without the semicolon behind it, in a try block or not
pub data IsCommand (tried : Bool) : List Token → Command → Type 0 where
  of_verb : (verb : Verb) (words : Phrased (verb_words verb) OpenBracket) (given : Given) (closed : Closed verb given)
      (command : Command) → may_stand tried verb ≡ true → made verb given ≡ Ok command
      → IsCommand tried (words.first ∷ words.others ++ words.end ∷ closed.options ++ closed.end ∷ []) command
  of_echo : (word token : Token) (text : List ℕ) → tried ≡ false → is_word (codes "echo") word ≡ true
      → string_in token ≡ Some text → IsCommand tried (word ∷ token ∷ []) (Echo text)
  of_exit : (word token : Token) (status : ℕ) → tried ≡ false → is_word (codes "exit") word ≡ true
      → status_in token ≡ Some status → IsCommand tried (word ∷ token ∷ []) (Exit status)

-- commands, each with a semicolon behind it
pub data AreCommands (tried : Bool) : List Token → List Command → Type 0 where
  no_commands : AreCommands tried [] []
  more_commands : (front tokens : List Token) (commands : List Command) (command : Command) (end : Token)
      → AreCommands tried front commands → IsCommand tried tokens command → is_sign Semicolon end ≡ true
      → AreCommands tried (front ++ tokens ++ end ∷ []) (commands ++ command ∷ [])

-- the word behind ON
abbrev pub handler_word : Handler → List ℕ
handler_word Error = codes "error"
handler_word Success = codes "success"

-- An opening brace and commands behind it, in a try block or not.
pub record Opening (tried : Bool) (commands : List Command) : Type 0 where
  pub brace : Token
  pub tokens : List Token
  pub opens : is_sign OpenBrace brace ≡ true
  pub are : AreCommands tried tokens commands

-- Commands between braces.
pub record Braced (tried : Bool) (commands : List Command) : Type 0 where
  pub opening : Opening tried commands
  pub end : Token
  pub closes : is_sign CloseBrace end ≡ true

-- ON and the word of a handler.
pub record Announced (handler : Handler) : Type 0 where
  pub on : Token
  pub word : Token
  pub is_on : is_word (codes "on") on ≡ true
  pub is_handler : is_word (handler_word handler) word ≡ true

-- a try block with the blocks behind it, each at most once
pub data IsTry : List Token → TryBlock → Type 0 where
  tried_block : (word : Token) (commands : List Command) (body : Braced true commands)
      → is_word (codes "try") word ≡ true
      → IsTry (word ∷ body.opening.brace ∷ body.opening.tokens ++ body.end ∷ []) (try_of commands)
  handled_block : (front : List Token) (block : TryBlock) (handler : Handler) (words : Announced handler)
      (commands : List Command) (body : Braced false commands) → IsTry front block → lacks handler block ≡ true
      → IsTry (front ++ words.on ∷ words.word ∷ body.opening.brace ∷ body.opening.tokens ++ body.end ∷ [])
      (with_handler handler commands block)

-- CLUSTER NAME and `=`.
pub record HeadWords : Type 0 where
  pub first : Token
  pub second : Token
  pub equals : Token
  pub is_first : is_word (codes "cluster") first ≡ true
  pub is_second : is_word (codes "name") second ≡ true
  pub ends : is_sign Equals equals ≡ true

-- A NODE line up to its `=`: NODE, the id, ADMIN CONNINFO and `=`.
pub record NodeWords (id : ℕ) : Type 0 where
  pub word : Token
  pub number : Token
  pub admin : Token
  pub conninfo : Token
  pub equals : Token
  pub is_node : is_word (codes "node") word ≡ true
  pub is_id : id_in number ≡ Some id
  pub are : AreWords (codes "admin" ∷ codes "conninfo" ∷ []) (admin ∷ conninfo ∷ [])
  pub ends : is_sign Equals equals ≡ true

-- A string and the semicolon behind it.
pub record Quote (text : List ℕ) : Type 0 where
  pub value : Token
  pub end : Token
  pub is_text : string_in value ≡ Some text
  pub ends : is_sign Semicolon end ≡ true

-- A script: its head, then NODE lines, then statements.
pub data IsScript : List Token → Script → Type 0 where
  script_head : (words : HeadWords) (value end : Token) (name : List ℕ) → name_in value ≡ Some name
      → is_sign Semicolon end ≡ true
      → IsScript (words.first ∷ words.second ∷ words.equals ∷ value ∷ end ∷ []) (empty_script name)
  script_node : (front : List Token) (script : Script) (id : ℕ) (words : NodeWords id) (text : List ℕ)
      (quote : Quote text) → IsScript front script → script.statements ≡ []
      → IsScript (front ++ words.word ∷ words.number ∷ words.admin ∷ words.conninfo ∷ words.equals ∷ quote.value
      ∷ quote.end ∷ []) (with_node id text script)
  script_command : (front tokens : List Token) (script : Script) (command : Command) (end : Token)
      → IsScript front script → IsCommand false tokens command → is_sign Semicolon end ≡ true
      → IsScript (front ++ tokens ++ end ∷ []) (with_statement (Single command) script)
  script_try : (front tokens : List Token) (script : Script) (block : TryBlock)
      → IsScript front script → IsTry tokens block → IsScript (front ++ tokens) (with_statement (Tried block) script)
  script_closed_try : (front tokens : List Token) (script : Script) (block : TryBlock) (end : Token)
      → IsScript front script → IsTry tokens block → is_sign Semicolon end ≡ true
      → IsScript (front ++ tokens ++ end ∷ []) (with_statement (Tried block) script)
