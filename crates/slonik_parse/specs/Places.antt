-- Where the tokens so far lead: what stands before a place of the grammar.
use Rattle.std.specs.Prelude.{◌≡◌, Bool, true, false, List, [], ◌∷◌, ◌++◌, codes}
use Rattle.slonik_tokens.specs.declared.token.Sign.TheVariants.{Comma, OpenBracket}
use Rattle.slonik_tokens.specs.declared.token.Token.{Token}
use Rattle.slonik_tokens.specs.Tokens.{is_word, is_sign}
use Rattle.slonik_parse.specs.declared.form.Verb.{Verb}
use Rattle.slonik_parse.specs.declared.given.Given.{Given}
use Rattle.slonik_script.specs.declared.script.Command.{Command}
use Rattle.slonik_script.specs.declared.script.Script.{Script}
use Rattle.slonik_script.specs.declared.script.TryBlock.{TryBlock}
use Rattle.slonik_parse.specs.declared.state.Block.{Block}
use Rattle.slonik_parse.specs.declared.state.Block.TheVariants.{Outside, Try as InTry, Handler as InHandler}
use Rattle.slonik_parse.specs.declared.state.Handler.{Handler}
use Rattle.slonik_parse.specs.Forms.{verb_words}
use Rattle.slonik_parse.specs.Given.{nothing_given}
use Rattle.slonik_parse.specs.Grammar.{Phrased, AreOptions, Opening, Announced, IsTry, IsScript, may_stand}
use Rattle.slonik_parse.specs.Scripts.{lacks}

-- the block is a try block
abbrev pub is_tried : Block → Bool
is_tried (Outside script) = false
is_tried (InTry script commands) = true
is_tried (InHandler script tried handler commands) = false

-- What stands before ON: a script, and a try block that lacks the handler.
pub record BeforeOn (script : Script) (tried : TryBlock) (handler : Handler) : Type 0 where
  pub front : List Token
  pub tokens : List Token
  pub is : IsScript front script
  pub tries : IsTry tokens tried
  pub free : lacks handler tried ≡ true

-- A statement or a command may begin behind these tokens, in this block with what was made before.
pub data Stands : Block → List Token → Type 0 where
  outside : (script : Script) (front : List Token) → IsScript front script → Stands (Outside script) front
  in_try : (script : Script) (front : List Token) (word : Token) (commands : List Command)
      (body : Opening true commands) → IsScript front script → is_word (codes "try") word ≡ true
      → Stands (InTry script commands) (front ++ word ∷ body.brace ∷ body.tokens)
  in_handler : (script : Script) (tried : TryBlock) (handler : Handler) (before : BeforeOn script tried handler)
      (words : Announced handler) (commands : List Command) (body : Opening false commands)
      → Stands (InHandler script tried handler commands)
      (before.front ++ before.tokens ++ words.on ∷ words.word ∷ body.brace ∷ body.tokens)

-- nothing, or options with a comma behind each
pub data CommaEnded (verb : Verb) : List Token → Given → Type 0 where
  no_options : CommaEnded verb [] nothing_given
  some_options : (tokens : List Token) (given : Given) (comma : Token) → AreOptions verb tokens given
      → is_sign Comma comma ≡ true
      → CommaEnded verb (tokens ++ comma ∷ []) given

-- behind these tokens stand the options of a command of this verb
pub data Opened (block : Block) (verb : Verb) : List Token → Type 0 where
  opened : (front : List Token) (words : Phrased (verb_words verb) OpenBracket) → Stands block front
      → may_stand (is_tried block) verb ≡ true
      → Opened block verb (front ++ words.first ∷ words.others ++ words.end ∷ [])

-- an option may begin behind these tokens
pub data OptionStands (block : Block) (verb : Verb) (given : Given) : List Token → Type 0 where
  option_stands : (front options : List Token) → Opened block verb front → CommaEnded verb options given
      → OptionStands block verb given (front ++ options)

-- a comma or the closing bracket may stand behind these tokens
pub data OptionEnds (block : Block) (verb : Verb) (given : Given) : List Token → Type 0 where
  option_ends : (front options : List Token) → Opened block verb front → AreOptions verb options given
      → OptionEnds block verb given (front ++ options)

-- What stands before an option.
pub record BeforeOption : Type 0 where
  pub block : Block
  pub verb : Verb
  pub given : Given
  pub front : List Token
  pub stands : OptionStands block verb given front

-- What stands before the comma or the bracket behind an option.
pub record BehindOption : Type 0 where
  pub block : Block
  pub verb : Verb
  pub given : Given
  pub front : List Token
  pub ends : OptionEnds block verb given front
