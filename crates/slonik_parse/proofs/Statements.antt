-- What the machine does with try blocks and whole scripts.
use Rattle.std.proofs.Common.{◌≡◌, ℕ, ◌||◌, Bool, true, false, List, [], ◌∷◌, ◌++◌, codes, Some, Ok, refl, ap, sym, ◌∙◌}
use Rattle.std.proofs.Common.{subst, append_assoc}
use Rattle.slonik_tokens.specs.declared.token.Sign.TheVariants.{OpenBrace, CloseBrace}
use Rattle.slonik_tokens.specs.declared.token.Token.{Token}
use Rattle.slonik_tokens.specs.declared.token.Token.TheVariants.{Word, Number, Quoted, Mark, NameUse, Path}
use Rattle.slonik_tokens.specs.Tokens.{is_word, is_sign}
use Rattle.slonik_script.specs.declared.script.Script.{Script}
use Rattle.slonik_script.specs.declared.script.TryBlock.{TryBlock}
use Rattle.slonik_parse.specs.declared.state.Block.{Block}
use Rattle.slonik_parse.specs.declared.state.Block.TheVariants.{Outside, Try as InTry, Handler as InHandler}
use Rattle.slonik_parse.specs.declared.state.Goal.TheVariants as goal
use Rattle.slonik_parse.specs.declared.state.Handler.{Handler}
use Rattle.slonik_parse.specs.declared.state.Handler.TheVariants.{Error, Success}
use Rattle.slonik_parse.specs.declared.state.State.{State}
use Rattle.slonik_parse.specs.declared.state.State.TheVariants.{At}
use Rattle.slonik_parse.specs.Grammar.{IsTry, tried_block, handled_block, handler_word}
use Rattle.slonik_parse.specs.Machine.{run, step, goal_step, command_step, begin_in, begin_outside, sign_then}
use Rattle.slonik_parse.specs.Machine.{with_command, close, after_try, after_on, handler_at, begin_handler}
use Rattle.slonik_parse.specs.Scripts.{try_of, with_handler, lacks}
use Rattle.slonik_parse.proofs.Words.{other_word, sign_is}
use Rattle.slonik_parse.proofs.Pieces.{run-ok, sign_read}
use Rattle.slonik_parse.proofs.Commands.{commands_read}

-- TRY begins a try block
try_begins : (script : Script) (text : List ℕ) (tokens : List Token) → is_word (codes "try") (Word text) ≡ true
    → begin_in (Outside script) text (Word text) tokens ≡ Ok (sign_then OpenBrace (goal.Command (InTry script [])))
unfolding begin_in begin_outside
try_begins script text tokens h = simp (other_word (codes "try") (Word text) h)

pub try_word_read : (script : Script) (word : Token) (rest : List Token) → is_word (codes "try") word ≡ true
    → run (word ∷ rest) (At (goal.Command (Outside script)))
    ≡ run rest (sign_then OpenBrace (goal.Command (InTry script [])))
try_word_read script (Word text) rest h =
    run-ok (At (goal.Command (Outside script))) (sign_then OpenBrace (goal.Command (InTry script []))) (Word text) rest
    (unfold step in unfold goal_step in unfold command_step in try_begins script text (Word text ∷ rest) h)
try_word_read script (Number text) rest h = cc
try_word_read script (Quoted text) rest h = cc
try_word_read script (Mark sign) rest h = cc
try_word_read script (NameUse name) rest h = cc
try_word_read script (Path path) rest h = cc

-- a closing brace closes a block
brace_read : (block : Block) (next : State) (closes : Token) (rest : List Token) → is_sign CloseBrace closes ≡ true
    → close block ≡ Ok next
    → run (closes ∷ rest) (At (goal.Command block)) ≡ run rest next
brace_read block next closes rest h makes =
    subst (λ t. run (t ∷ rest) (At (goal.Command block)) ≡ run rest next) (sym (sign_is CloseBrace closes h))
    (run-ok (At (goal.Command block)) next (Mark CloseBrace) rest
    (unfold step in unfold goal_step in unfold command_step in makes))

-- ON behind a try block that lacks a handler
pub on_read : (script : Script) (tried : TryBlock) (on : Token) (rest : List Token) → is_word (codes "on") on ≡ true
    → (lacks Error tried || lacks Success tried) ≡ true
    → run (on ∷ rest) (At (goal.AfterTry script tried)) ≡ run rest (At (goal.AfterOn script tried))
on_read script tried (Word text) rest h free =
    run-ok (At (goal.AfterTry script tried)) (At (goal.AfterOn script tried)) (Word text) rest
    (unfold step in unfold goal_step in unfold after_try in simp (h, free))
on_read script tried (Number text) rest h free = cc
on_read script tried (Quoted text) rest h free = cc
on_read script tried (Mark sign) rest h free = cc
on_read script tried (NameUse name) rest h free = cc
on_read script tried (Path path) rest h free = cc

or_right : (a b : Bool) → b ≡ true → (a || b) ≡ true
or_right true b h = refl
or_right false b h = h

pub lacks_one : (handler : Handler) (tried : TryBlock) → lacks handler tried ≡ true
    → (lacks Error tried || lacks Success tried) ≡ true
lacks_one Error tried h = simp h
lacks_one Success tried h = or_right (lacks Error tried) (lacks Success tried) h

handler_found : (handler : Handler) (tried : TryBlock) (word : Token) → lacks handler tried ≡ true
    → is_word (handler_word handler) word ≡ true → handler_at tried word ≡ Some handler
unfolding handler_at
handler_found Error tried word free h = simp (h, free)
handler_found Success tried word free h = simp (other_word (codes "success") word h, free)

-- ERROR or SUCCESS
pub handler_read : (script : Script) (tried : TryBlock) (handler : Handler) (word : Token) (rest : List Token)
    → lacks handler tried ≡ true → is_word (handler_word handler) word ≡ true
    → run (word ∷ rest) (At (goal.AfterOn script tried))
    ≡ run rest (sign_then OpenBrace (goal.Command (InHandler script tried handler [])))
handler_read script tried handler word rest free h =
    run-ok (At (goal.AfterOn script tried)) (sign_then OpenBrace (goal.Command (InHandler script tried handler [])))
    word rest
    (unfold step in unfold goal_step in unfold after_on in
    ap (begin_handler script tried) (handler_found handler tried word free h))

regroup_try : (tokens rest : List Token) (word opens closes : Token)
    → (word ∷ opens ∷ tokens ++ closes ∷ []) ++ rest ≡ word ∷ opens ∷ (tokens ++ closes ∷ rest)
regroup_try tokens rest word opens closes = simp append_assoc

pub regroup_handler : (front tokens rest : List Token) (on word opens closes : Token)
    → (front ++ on ∷ word ∷ opens ∷ tokens ++ closes ∷ []) ++ rest
    ≡ front ++ (on ∷ word ∷ opens ∷ (tokens ++ closes ∷ rest))
regroup_handler front tokens rest on word opens closes = simp append_assoc

-- a try block with the blocks behind it
pub try_read : (script : Script) (tokens rest : List Token) (block : TryBlock) → IsTry tokens block
    → run (tokens ++ rest) (At (goal.Command (Outside script))) ≡ run rest (At (goal.AfterTry script block))
try_read script tokens rest block (tried_block word commands body h) =
    let begins = body.opening in
    let inner = begins.tokens in
    let behind = inner ++ body.end ∷ rest in
    ap (λ ts. run ts (At (goal.Command (Outside script)))) (regroup_try inner rest word begins.brace body.end)
    ∙ try_word_read script word (begins.brace ∷ behind) h
    ∙ sign_read OpenBrace (goal.Command (InTry script [])) begins.brace behind begins.opens
    ∙ commands_read (InTry script) true (unfold with_command in λ c cs. refl) (λ cs. refl) inner (body.end ∷ rest)
    commands begins.are
    ∙ brace_read (InTry script commands) (At (goal.AfterTry script (try_of commands))) body.end rest body.closes
    (unfold close in refl)
try_read script tokens rest block (handled_block front before handler words commands body is free) =
    let begins = body.opening in
    let inner = begins.tokens in
    let behind = begins.brace ∷ (inner ++ body.end ∷ rest) in
    ap (λ ts. run ts (At (goal.Command (Outside script))))
    (regroup_handler front inner rest words.on words.word begins.brace body.end)
    ∙ try_read script front (words.on ∷ words.word ∷ behind) before is
    ∙ on_read script before words.on (words.word ∷ behind) words.is_on (lacks_one handler before free)
    ∙ handler_read script before handler words.word behind free words.is_handler
    ∙ sign_read OpenBrace (goal.Command (InHandler script before handler [])) begins.brace (inner ++ body.end ∷ rest)
    begins.opens
    ∙ commands_read (InHandler script before handler) false (unfold with_command in λ c cs. refl) (λ cs. refl) inner
    (body.end ∷ rest) commands begins.are
    ∙ brace_read (InHandler script before handler commands)
    (At (goal.AfterTry script (with_handler handler commands before))) body.end rest body.closes (unfold close in refl)
