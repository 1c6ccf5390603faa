-- A token that begins a command keeps what the tokens so far are.
use Rattle.std.proofs.Common.{arith, ◌≡◌, ℕ, ◌==◌, ◌&&◌, Bool, true, false, List, [], ◌∷◌, ◌++◌, length, codes, Option}
use Rattle.std.proofs.Common.{Some, None, Ok, Err, cond, refl, subst, append_assoc, inl, inr}
use Rattle.std.proofs.lemmas.Bool.{cond_both, and_parts}
use Rattle.std.proofs.lemmas.List.{append-nil, nil_from_length}
use Rattle.std.proofs.lemmas.Bool.Decides.{nat_tests}
use Rattle.slonik_tokens.specs.declared.token.Sign.TheVariants.{OpenBracket, OpenBrace, CloseBrace}
use Rattle.slonik_tokens.specs.declared.token.Token.{Token}
use Rattle.slonik_tokens.specs.declared.token.Token.TheVariants.{Word, Mark}
use Rattle.slonik_tokens.specs.Tokens.{is_word, is_sign, same_sign}
use Rattle.slonik_parse.specs.declared.form.Verb.{Verb}
use Rattle.slonik_parse.specs.declared.form.Verb.TheVariants.{InitCluster, StoreNode, DropNode, StorePath, DropPath}
use Rattle.slonik_parse.specs.declared.form.Verb.TheVariants.{CreateSet, DropSet, SetAddTable, SubscribeSet}
use Rattle.slonik_parse.specs.declared.form.Verb.TheVariants.{UnsubscribeSet, LockSet, UnlockSet, MoveSet, Failover}
use Rattle.slonik_parse.specs.declared.form.Verb.TheVariants.{Sync, WaitForEvent, Sleep}
use Rattle.slonik_parse.specs.declared.misparse.Misparse.TheVariants.{Misfit, NotInProfile, NotInTry}
use Rattle.slonik_script.specs.declared.script.Script.{Script}
use Rattle.slonik_parse.specs.declared.state.Block.{Block}
use Rattle.slonik_parse.specs.declared.state.Block.TheVariants.{Outside, Try as InTry, Handler as InHandler}
use Rattle.slonik_parse.specs.declared.state.Goal.TheVariants as goal
use Rattle.slonik_parse.specs.declared.state.Phrase.TheVariants as phrase
use Rattle.slonik_parse.specs.declared.state.State.{State}
use Rattle.slonik_parse.specs.declared.state.State.TheVariants.{Awaits, At}
use Rattle.slonik_parse.specs.Choices.{is_left_out, is_not_in_try, begins_so, verb_at, store_at, drop_at, set_verb_at}
use Rattle.slonik_parse.specs.Choices.{goes_on_with}
use Rattle.slonik_parse.specs.Forms.{verb_words}
use Rattle.slonik_parse.specs.Given.{nothing_given}
use Rattle.slonik_parse.specs.Grammar.{Braced, IsScript, no_commands, tried_block, handled_block, may_stand}
use Rattle.slonik_parse.specs.Machine.{phrase_words, lower, sign_then, begin_verb, any_command, begin_outside}
use Rattle.slonik_parse.specs.Machine.{begin_tried, begin_in, close, command_step}
use Rattle.slonik_parse.specs.Places.{is_tried, Stands, outside, in_try, in_handler, no_options, opened, OptionStands}
use Rattle.slonik_parse.specs.Places.{option_stands}
use Rattle.slonik_parse.specs.Scripts.{try_of, with_handler}
use Rattle.slonik_parse.proofs.Words.{other_word}
use Rattle.slonik_parse.proofs.Means.{begins_node, begins_with_word, HasTried, has_tried, Means, means_sign, if_is}
use Rattle.slonik_parse.proofs.Means.{BeforeCommand, BeforeTried}
use Rattle.slonik_parse.proofs.MeansOptions.{words_join}

-- the command that a test found, or another
chosen : (b : Bool) (verb found : Verb) (more : Option Verb) (P : Verb → Type 0) → cond b (Some verb) more ≡ Some found
    → (b ≡ true → P verb) → (more ≡ Some found → P found) → P found
chosen true verb found more P h this that = let same : verb ≡ found = cc in subst P same (this refl)
chosen false verb found more P h this that = that h

set_verb_begins : (token : Token) (verb : Verb) → set_verb_at token ≡ Some verb
    → begins_so token (verb_words verb) ≡ true
unfolding set_verb_at verb_words
set_verb_begins token verb h =
    chosen (is_word (codes "create") token) CreateSet verb _ (λ v. begins_so token (verb_words v) ≡ true) h (λ is. is)
    (λ h.
    chosen (is_word (codes "set") token) SetAddTable verb _ (λ v. begins_so token (verb_words v) ≡ true) h (λ is. is)
    (λ h.
    chosen (is_word (codes "subscribe") token) SubscribeSet verb _ (λ v. begins_so token (verb_words v) ≡ true) h
    (λ is. is) (λ h.
    chosen (is_word (codes "unsubscribe") token) UnsubscribeSet verb _ (λ v. begins_so token (verb_words v) ≡ true) h
    (λ is. is) (λ h.
    chosen (is_word (codes "lock") token) LockSet verb _ (λ v. begins_so token (verb_words v) ≡ true) h (λ is. is) (λ h.
    chosen (is_word (codes "unlock") token) UnlockSet verb _ (λ v. begins_so token (verb_words v) ≡ true) h (λ is. is)
    (λ h.
    chosen (is_word (codes "move") token) MoveSet verb None (λ v. begins_so token (verb_words v) ≡ true) h (λ is. is)
    (λ h. cc)))))))

store_begins : (token : Token) (tokens : List Token) → is_word (codes "store") token ≡ true
    → begins_so token (verb_words (store_at tokens)) ≡ true
unfolding store_at verb_words
store_begins token tokens h =
    cond_both (goes_on_with (codes "path") tokens) StorePath StoreNode (λ v. begins_so token (verb_words v) ≡ true)
    (λ _. h) (λ _. h)

drop_begins : (token : Token) (tokens : List Token) → is_word (codes "drop") token ≡ true
    → begins_so token (verb_words (drop_at tokens)) ≡ true
unfolding drop_at verb_words
drop_begins token tokens h =
    cond_both (goes_on_with (codes "path") tokens) DropPath (cond (goes_on_with (codes "set") tokens) DropSet DropNode)
    (λ v. begins_so token (verb_words v) ≡ true) (λ _. h)
    (λ _. cond_both (goes_on_with (codes "set") tokens) DropSet DropNode (λ v. begins_so token (verb_words v) ≡ true)
    (λ _. h) (λ _. h))

-- a command that was found begins with the token
pub verb_begins : (token : Token) (tokens : List Token) (verb : Verb) → verb_at token tokens ≡ Some verb
    → begins_so token (verb_words verb) ≡ true
unfolding verb_at verb_words
verb_begins token tokens verb h =
    chosen (is_word (codes "init") token) InitCluster verb _ (λ v. begins_so token (verb_words v) ≡ true) h (λ is. is)
    (λ h.
    chosen (is_word (codes "store") token) (store_at tokens) verb _ (λ v. begins_so token (verb_words v) ≡ true) h
    (λ is. store_begins token tokens is) (λ h.
    chosen (is_word (codes "drop") token) (drop_at tokens) verb _ (λ v. begins_so token (verb_words v) ≡ true) h
    (λ is. drop_begins token tokens is) (λ h.
    chosen (is_word (codes "failover") token) Failover verb _ (λ v. begins_so token (verb_words v) ≡ true) h (λ is. is)
    (λ h.
    chosen (is_word (codes "sync") token) Sync verb _ (λ v. begins_so token (verb_words v) ≡ true) h (λ is. is) (λ h.
    chosen (is_word (codes "wait") token) WaitForEvent verb _ (λ v. begins_so token (verb_words v) ≡ true) h (λ is. is)
    (λ h.
    chosen (is_word (codes "sleep") token) Sleep verb (set_verb_at token) (λ v. begins_so token (verb_words v) ≡ true) h
    (λ is. is) (λ h.
    set_verb_begins token verb h)))))))

-- a command with options begins
means_verb : (block : Block) (verb : Verb) (first : Token) (front : List Token) → Stands block front
    → may_stand (is_tried block) verb ≡ true
    → begins_so first (verb_words verb) ≡ true
    → Means (Awaits (phrase.Verb verb) 1 OpenBracket (goal.Option block verb nothing_given)) (front ++ first ∷ [])
unfolding phrase_words
means_verb block verb first front stands may begins words opens fits ends =
    subst (λ tokens. OptionStands block verb nothing_given tokens) (simp (append_assoc, append-nil))
    (option_stands (front ++ first ∷ words ++ opens ∷ []) []
    (opened front (record {
      first = first;
      others = words;
      end = opens;
      are = words_join (verb_words verb) first words begins fits;
      ends = ends;
    }) stands may)
    no_options)

-- A word that begins something: its text, itself, what is behind it, and where it leads.
pub record Beginning : Type 0 where
  pub text : List ℕ
  pub first : Token
  pub rest : List Token
  pub next : State

abbrev ahead_of : Beginning → List Token
ahead_of b = b.first ∷ b.rest

abbrev pub begun_with : List ℕ → Token → List Token → State → Beginning
begun_with text first rest next = record { text = text; first = first; rest = rest; next = next }

verb_begun : (block : Block) (b : Beginning) (front : List Token) (found : Option Verb) →
    verb_at b.first (ahead_of b) ≡ found → Stands block front →
    ((verb : Verb) → verb_at b.first (ahead_of b) ≡ Some verb → may_stand (is_tried block) verb ≡ true) →
    begin_verb block found ≡ Ok b.next → Means b.next (front ++ b.first ∷ [])
unfolding begin_verb
verb_begun block b front None e stands may h = cc
verb_begun block b front (Some verb) e stands may h =
    let same : Awaits (phrase.Verb verb) 1 OpenBracket (goal.Option block verb nothing_given) ≡ b.next = cc in
    subst (λ state. Means state (front ++ b.first ∷ [])) same
    (means_verb block verb b.first front stands (may verb e) (verb_begins b.first (ahead_of b) verb e))

-- any command may stand where no try block is
may_outside : (tried : Bool) (verb : Verb) → tried ≡ false → may_stand tried verb ≡ true
may_outside false verb h = refl
may_outside true verb h = cc

any_tested : (at : BeforeCommand) (b : Beginning) (out echo exit : Bool) → is_word (codes "echo") b.first ≡ echo →
    is_word (codes "exit") b.first ≡ exit →
    cond out (Err (NotInProfile (lower b.text))) (cond echo (Ok (At (goal.EchoText at.block)))
    (cond exit (Ok (At (goal.ExitStatus at.block))) (begin_verb at.block (verb_at b.first (ahead_of b))))) ≡ Ok b.next →
    Means b.next (at.front ++ b.first ∷ [])
any_tested at b true echo exit i j h = cc
any_tested at b false true exit i j h =
    let same : At (goal.EchoText at.block) ≡ b.next = cc in
    subst (λ state. Means state (at.front ++ b.first ∷ [])) same
    (begins_with_word at.front b.first at.stands at.tried i)
any_tested at b false false true i j h =
    let same : At (goal.ExitStatus at.block) ≡ b.next = cc in
    subst (λ state. Means state (at.front ++ b.first ∷ [])) same
    (begins_with_word at.front b.first at.stands at.tried j)
any_tested at b false false false i j h =
    verb_begun at.block b at.front (verb_at b.first (ahead_of b)) refl at.stands
    (λ verb _. may_outside (is_tried at.block) verb at.tried) h

-- a command that begins where no try block is
any_begun : (at : BeforeCommand) (b : Beginning) → any_command at.block b.text b.first (ahead_of b) ≡ Ok b.next →
    Means b.next (at.front ++ b.first ∷ [])
unfolding any_command
any_begun at b h =
    any_tested at b (is_left_out (ahead_of b)) (is_word (codes "echo") b.first)
    (is_word (codes "exit") b.first) refl refl
    h

step_close : (block : Block) (next : State) (front : List Token) (token : Token) → Stands block front
    → is_sign CloseBrace token ≡ true → close block ≡ Ok next
    → Means next (front ++ token ∷ [])
unfolding close
step_close _ next _ token (outside script front is) h e = cc
step_close _ next _ token (in_try script front word commands body is i) h e =
    let same : At (goal.AfterTry script (try_of commands)) ≡ next = cc in
    let block = word ∷ body.brace ∷ body.tokens ++ token ∷ [] in
    subst (λ state. Means state (front ++ word ∷ body.brace ∷ body.tokens ++ token ∷ [])) same
    (subst (λ ts. HasTried script (try_of commands) ts) (simp append_assoc) (has_tried front block is
    (tried_block word commands (record { opening = body; end = token; closes = h }) i)))
step_close _ next _ token (in_handler script tried handler before words commands body) h e =
    let same : At (goal.AfterTry script (with_handler handler commands tried)) ≡ next = cc in
    let inner = words.on ∷ words.word ∷ body.brace ∷ body.tokens in
    let braced : Braced false commands = record { opening = body; end = token; closes = h } in
    subst (λ state. Means state (before.front ++ before.tokens ++ inner ++ token ∷ [])) same
    (subst (λ ts. HasTried script (with_handler handler commands tried) ts) (simp append_assoc)
    (has_tried before.front (before.tokens ++ inner ++ token ∷ []) before.is
    (handled_block before.tokens tried handler words commands braced before.tries before.free)))

sleep_refused : (first : Token) (rest : List Token) → is_word (codes "sleep") first ≡ true
    → is_not_in_try (first ∷ rest) ≡ true
unfolding is_not_in_try
sleep_refused first rest h = simp (other_word (codes "sleep") first h)

failover_refused : (first : Token) (rest : List Token) → is_word (codes "failover") first ≡ true
    → is_not_in_try (first ∷ rest) ≡ true
unfolding is_not_in_try
failover_refused first rest h = simp (other_word (codes "failover") first h)

-- a command that is not refused in a try block may stand there
may_tried : (verb : Verb) (first : Token) (rest : List Token) → begins_so first (verb_words verb) ≡ true
    → is_not_in_try (first ∷ rest) ≡ false
    → is_word (codes "wait") first ≡ false → may_stand true verb ≡ true
unfolding verb_words
may_tried Sleep first rest h triable not_wait = let refused = sleep_refused first rest h in cc
may_tried Failover first rest h triable not_wait = let refused = failover_refused first rest h in cc
may_tried WaitForEvent first rest h triable not_wait = cc
may_tried _ first rest h triable not_wait = refl

tried_tested : (at : BeforeTried) (b : Beginning) (out barred wait : Bool) → is_not_in_try (ahead_of b) ≡ barred →
    is_word (codes "wait") b.first ≡ wait →
    cond out (Err (NotInProfile (lower b.text))) (cond barred (Err (NotInTry (lower b.text)))
    (cond wait (Err Misfit) (begin_verb (InTry at.script at.commands) (verb_at b.first (ahead_of b))))) ≡ Ok b.next →
    Means b.next (at.front ++ b.first ∷ [])
tried_tested at b true barred wait i j h = cc
tried_tested at b false true wait i j h = cc
tried_tested at b false false true i j h = cc
tried_tested at b false false false i j h =
    verb_begun (InTry at.script at.commands) b at.front (verb_at b.first (ahead_of b)) refl at.stands
    (λ verb e. may_tried verb b.first b.rest (verb_begins b.first (ahead_of b) verb e) i j) h

-- a command that begins in a try block
tried_begun : (at : BeforeTried) (b : Beginning) →
    begin_tried at.script at.commands b.text b.first (ahead_of b) ≡ Ok b.next → Means b.next (at.front ++ b.first ∷ [])
unfolding begin_tried
tried_begun at b h =
    tried_tested at b (is_left_out (ahead_of b)) (is_not_in_try (ahead_of b))
    (is_word (codes "wait") b.first) refl refl h

-- outside of blocks, the tokens are the script
abbrev IsScriptOf : Block → List Token → Type 0
IsScriptOf (Outside script) front = IsScript front script
IsScriptOf (InTry script commands) front = Unit {0}
IsScriptOf (InHandler script tried handler commands) front = Unit {0}

pub stands_script : (script : Script) (front : List Token) → Stands (Outside script) front → IsScript front script
stands_script script front stands = elim stands as (λ block ts _. IsScriptOf block ts) [
  | outside script front is ↦ is
  | in_try script front word commands body is i ↦ tt
  | in_handler script tried handler before words commands body ↦ tt
]

outside_tested : (script : Script) (b : Beginning) (front : List Token) (node tries : Bool) →
    ((is_word (codes "node") b.first && length script.statements == 0) ≡ node)
    × (is_word (codes "try") b.first ≡ tries) → Stands (Outside script) front →
    cond node (Ok (At (goal.NodeId script))) (cond tries (Ok (sign_then OpenBrace (goal.Command (InTry script []))))
    (any_command (Outside script) b.text b.first (ahead_of b))) ≡ Ok b.next → Means b.next (front ++ b.first ∷ [])
outside_tested script b front true tries (i, j) stands h =
    let same : At (goal.NodeId script) ≡ b.next = cc in
    let both = and_parts (is_word (codes "node") b.first) (length script.statements == 0) i in
    let zero : length script.statements ≡ 0 = grind (arith, nat_tests, both.1) in
    subst (λ state. Means state (front ++ b.first ∷ [])) same
    (begins_node front b.first (stands_script script front stands) (nil_from_length script.statements zero) both.0)
outside_tested script b front false true (i, j) stands h =
    let same : sign_then OpenBrace (goal.Command (InTry script [])) ≡ b.next = cc in
    subst (λ state. Means state (front ++ b.first ∷ [])) same
    (means_sign OpenBrace (goal.Command (InTry script [])) (front ++ b.first ∷ [])
    (λ opens ends. subst (λ ts. Stands (InTry script []) ts) (simp append_assoc)
    (in_try script front b.first [] (record { brace = opens; tokens = []; opens = ends; are = no_commands })
    (stands_script script front stands) j)))
outside_tested script b front false false (i, j) stands h =
    any_begun (record { block = Outside script; front = front; stands = stands; tried = refl }) b h

-- a NODE line, a try block or a command that begins
outside_begun : (script : Script) (b : Beginning) (front : List Token) → Stands (Outside script) front →
    begin_outside script b.text b.first (ahead_of b) ≡ Ok b.next → Means b.next (front ++ b.first ∷ [])
unfolding begin_outside
outside_begun script b front stands h =
    outside_tested script b front (is_word (codes "node") b.first && length script.statements == 0)
    (is_word (codes "try") b.first) (refl, refl) stands h

block_begun : (block : Block) (b : Beginning) (front : List Token) → Stands block front →
    begin_in block b.text b.first (ahead_of b) ≡ Ok b.next → Means b.next (front ++ b.first ∷ [])
unfolding begin_in
block_begun (Outside script) b front stands h = outside_begun script b front stands h
block_begun (InTry script commands) b front stands h =
    tried_begun (record { script = script; commands = commands; front = front; stands = stands }) b h
block_begun (InHandler script tried handler commands) b front stands h =
    any_begun (record {
      block = InHandler script tried handler commands;
      front = front;
      stands = stands;
      tried = refl;
    }) b h

pub step_command : (block : Block) (next : State) (token : Token) (rest front : List Token) → Stands block front
    → command_step block token (token ∷ rest) ≡ Ok next → Means next (front ++ token ∷ [])
unfolding command_step
step_command block next (Word text) rest front stands h =
    block_begun block (begun_with text (Word text) rest next) front stands h
step_command block next (Mark sign) rest front stands h =
    elim (if_is (same_sign sign CloseBrace) (close block) (Err Misfit) (Ok next) h) as (λ _.
    Means next (front ++ Mark sign ∷ [])) [
      | inl is ↦ step_close block next front (Mark sign) stands is.0 is.1
      | inr is ↦ cc (is.1)
    ]
step_command block next others rest front stands h = cc
