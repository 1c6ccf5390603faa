-- How little a step looks ahead.
use Rattle.std.proofs.Common.{◌≡◌, ◌⊎◌, ℕ, ◌==◌, ◌&&◌, ◌||◌, Bool, true, false, List, [], ◌∷◌, length, codes, Option}
use Rattle.std.proofs.Common.{Some, None, Result, Ok, Err, cond, if◌then◌else◌, refl, ap, ◌∙◌, inl, inr}
use Rattle.slonik_tokens.specs.declared.token.Sign.TheVariants.{Semicolon, OpenBrace, CloseBrace}
use Rattle.slonik_tokens.specs.declared.token.Token.{Token}
use Rattle.slonik_tokens.specs.declared.token.Token.TheVariants.{Word, Number, Quoted, Mark, NameUse, Path}
use Rattle.slonik_tokens.specs.Tokens.{is_word, is_sign, same_sign}
use Rattle.slonik_parse.specs.declared.form.Verb.{Verb}
use Rattle.slonik_parse.specs.declared.form.OptionName.{OptionName}
use Rattle.slonik_parse.specs.declared.given.Given.{Given}
use Rattle.slonik_parse.specs.declared.misparse.Misparse.{Misparse}
use Rattle.slonik_parse.specs.declared.misparse.Misparse.TheVariants.{Misfit, UnknownOption, NotInProfile, NotInTry}
use Rattle.slonik_script.specs.declared.script.Statement.TheVariants.{Try as Tried}
use Rattle.slonik_parse.specs.declared.state.Block.{Block}
use Rattle.slonik_parse.specs.declared.state.Block.TheVariants.{Outside, Try as InTry, Handler as InHandler}
use Rattle.slonik_parse.specs.declared.state.Goal.{Goal}
use Rattle.slonik_parse.specs.declared.state.Goal.TheVariants as goal
use Rattle.slonik_parse.specs.declared.state.Handler.TheVariants.{Error, Success}
use Rattle.slonik_parse.specs.declared.state.State.{State}
use Rattle.slonik_parse.specs.declared.state.State.TheVariants.{Awaits, At}
use Rattle.slonik_parse.specs.Choices.{is_left_out, is_not_in_try, is_option_left_out, verb_at, store_at, drop_at}
use Rattle.slonik_parse.specs.Choices.{goes_on_with, option_at}
use Rattle.slonik_parse.specs.Machine.{step, goal_step, command_step, begin_in, begin_outside, begin_tried, any_command}
use Rattle.slonik_parse.specs.Machine.{begin_verb, option_step, begin_option, after_try, sign_then, lower, close}
use Rattle.slonik_parse.specs.Scripts.{with_statement, lacks}
use Rattle.slonik_parse.proofs.Pieces.{first_of}

-- an answer is an error
abbrev pub Errs : Result State Misparse → Type 0
Errs made = (misparse : Misparse) × (made ≡ Err misparse)

-- An answer with other tokens ahead: the same, or an error, where the first of them is the same; and where the one is
-- no
-- fit, the other is an error.
pub record Alike (ts us : List Token) (one other : Result State Misparse) : Type 0 where
  pub same : first_of us ≡ first_of ts → (next : State) → one ≡ Ok next → (other ≡ Ok next) ⊎ Errs other
  pub errs : one ≡ Err Misfit → Errs other

alike_same : (ts us : List Token) (made : Result State Misparse) → Alike ts us made made
alike_same ts us made = record { same = λ e next h. inl h; errs = λ h. (Misfit, h) }

-- a refusal before, by what is ahead
alike_refused : (ts us : List Token) (a b : Bool) (misparse : Misparse) (one other : Result State Misparse)
    → (misparse ≡ Misfit → ⊥) × Alike ts us one other
    → Alike ts us (cond a (Err misparse) one) (cond b (Err misparse) other)
alike_refused ts us true false misparse one other (differs, al) =
    record { same = λ e next h. cc; errs = λ h. absurd (differs (cc)) }
alike_refused ts us false false misparse one other (differs, al) = al
alike_refused ts us a true misparse one other (differs, al) =
    record { same = λ e next h. inr (misparse, refl); errs = λ h. (misparse, refl) }

-- two refusals
one_of : (ts us : List Token) (a b : Bool) (m n : Misparse) → (m ≡ Misfit → ⊥) → (n ≡ Misfit → ⊥)
    → Alike ts us (cond a (Err m) (Err n)) (cond b (Err m) (Err n))
one_of ts us true true m n f g = alike_same ts us (Err m)
one_of ts us false false m n f g = alike_same ts us (Err n)
one_of ts us true false m n f g = record { same = λ e next h. cc; errs = λ h. (n, refl) }
one_of ts us false true m n f g = record { same = λ e next h. cc; errs = λ h. (m, refl) }

-- a test that does not look ahead
alike_cond : (ts us : List Token) (b : Bool) (here one other : Result State Misparse) → Alike ts us one other
    → Alike ts us (cond b here one) (cond b here other)
alike_cond ts us true here one other al = alike_same ts us here
alike_cond ts us false here one other al = al

abbrev found : List ℕ → Option Token → Bool
found word None = false
found word (Some token) = is_word word token

-- the first token ahead decides what follows a word
goes_on_same : (word : List ℕ) (token : Token) (ts us : List Token) → first_of us ≡ first_of ts
    → goes_on_with word (token ∷ us) ≡ goes_on_with word (token ∷ ts)
unfolding goes_on_with
goes_on_same word token [] [] e = refl
goes_on_same word token [] (u ∷ us) e = cc
goes_on_same word token (t ∷ ts) [] e = cc
goes_on_same word token (t ∷ ts) (u ∷ us) e = ap (λ o. found word o) e

verb_same : (token : Token) (ts us : List Token) → first_of us ≡ first_of ts
    → verb_at token (token ∷ us) ≡ verb_at token (token ∷ ts)
unfolding verb_at store_at drop_at
verb_same token ts us e = simp (goes_on_same (codes "path") token ts us e, goes_on_same (codes "set") token ts us e)

none_cond : (b : Bool) (x : Verb) (y : Option Verb) → cond b (Some x) y ≡ None → (b ≡ false) × (y ≡ None)
none_cond true x y h = cc
none_cond false x y h = (refl, h)

-- whether a word begins a command does not depend on what is ahead
verb_none : (token : Token) (ts us : List Token) → verb_at token ts ≡ None → verb_at token us ≡ None
unfolding verb_at
verb_none token ts us h =
    let a = none_cond (is_word (codes "init") token) _ _ h in
    let b = none_cond (is_word (codes "store") token) _ _ a.1 in
    let c = none_cond (is_word (codes "drop") token) _ _ b.1 in
    let d = none_cond (is_word (codes "failover") token) _ _ c.1 in
    let e = none_cond (is_word (codes "sync") token) _ _ d.1 in
    let f = none_cond (is_word (codes "wait") token) _ _ e.1 in
    let g = none_cond (is_word (codes "sleep") token) _ _ f.1 in
    simp (a.0, b.0, c.0, d.0, e.0, f.0, g.0, g.1)

begun : (block : Block) (v : Option Verb) → begin_verb block v ≡ Err Misfit → v ≡ None
unfolding begin_verb
begun block None h = refl
begun block (Some x) h = cc

alike_verb : (block : Block) (token : Token) (ts us : List Token)
    → Alike ts us (begin_verb block (verb_at token (token ∷ ts))) (begin_verb block (verb_at token (token ∷ us)))
unfolding begin_verb
alike_verb block token ts us = record {
  same = λ e next h. inl (ap (begin_verb block) (verb_same token ts us e) ∙ h);
  errs = λ h. (
    Misfit,
    ap (begin_verb block) (verb_none token (token ∷ ts) (token ∷ us)
        (begun block (verb_at token (token ∷ ts)) h)),
  );
}

alike_any : (block : Block) (text : List ℕ) (token : Token) (ts us : List Token)
    → Alike ts us (any_command block text token (token ∷ ts)) (any_command block text token (token ∷ us))
unfolding any_command
alike_any block text token ts us =
    alike_refused ts us (is_left_out (token ∷ ts)) (is_left_out (token ∷ us)) (NotInProfile (lower text)) _ _ (
      λ e. cc,
      alike_cond ts us (is_word (codes "echo") token) (Ok (At (goal.EchoText block))) _ _
          (alike_cond ts us (is_word (codes "exit") token) (Ok (At (goal.ExitStatus block))) _ _
          (alike_verb block token ts us)),
    )

alike_block : (block : Block) (text : List ℕ) (token : Token) (ts us : List Token)
    → Alike ts us (begin_in block text token (token ∷ ts)) (begin_in block text token (token ∷ us))
unfolding begin_in begin_outside begin_tried
alike_block (Outside script) text token ts us =
    alike_cond ts us (is_word (codes "node") token && length script.statements == 0) (Ok (At (goal.NodeId script))) _ _
    (alike_cond ts us (is_word (codes "try") token) (Ok (sign_then OpenBrace (goal.Command (InTry script [])))) _ _
    (alike_any (Outside script) text token ts us))
alike_block (InTry script commands) text token ts us =
    alike_refused ts us (is_left_out (token ∷ ts)) (is_left_out (token ∷ us)) (NotInProfile (lower text)) _ _ (
      λ e. cc,
      alike_refused ts us (is_not_in_try (token ∷ ts)) (is_not_in_try (token ∷ us)) (NotInTry (lower text)) _ _ (
        λ e. cc,
        alike_cond ts us (is_word (codes "wait") token) (Err Misfit) _ _
            (alike_verb (InTry script commands) token ts us),
      ),
    )
alike_block (InHandler script tried handler commands) text token ts us =
    alike_any (InHandler script tried handler commands) text token ts us

alike_command : (block : Block) (token : Token) (ts us : List Token)
    → Alike ts us (command_step block token (token ∷ ts)) (command_step block token (token ∷ us))
unfolding command_step
alike_command block (Word text) ts us = alike_block block text (Word text) ts us
alike_command block (Number text) ts us = alike_same ts us (Err Misfit)
alike_command block (Quoted text) ts us = alike_same ts us (Err Misfit)
alike_command block (Mark sign) ts us = alike_same ts us (if same_sign sign CloseBrace then close block else Err Misfit)
alike_command block (NameUse name) ts us = alike_same ts us (Err Misfit)
alike_command block (Path path) ts us = alike_same ts us (Err Misfit)

alike_begun : (block : Block) (v : Verb) (given : Given) (text : List ℕ) (ts us : List Token)
    (option : Option OptionName) → Alike ts us (begin_option block v given text (Word text ∷ ts) option)
    (begin_option block v given text (Word text ∷ us) option)
unfolding begin_option
alike_begun block v given text ts us (Some option) = alike_same ts us _
alike_begun block v given text ts us None =
    one_of ts us (is_option_left_out v (Word text ∷ ts)) (is_option_left_out v (Word text ∷ us))
    (NotInProfile (lower text)) (UnknownOption (lower text)) (λ e. cc) (λ e. cc)

alike_option : (block : Block) (v : Verb) (given : Given) (token : Token) (ts us : List Token)
    → Alike ts us (option_step block v given token (token ∷ ts)) (option_step block v given token (token ∷ us))
unfolding option_step
alike_option block v given (Word text) ts us =
    alike_begun block v given text ts us (option_at v (Word text))
alike_option block v given (Number text) ts us = alike_same ts us _
alike_option block v given (Quoted text) ts us = alike_same ts us _
alike_option block v given (Mark sign) ts us = alike_same ts us _
alike_option block v given (NameUse name) ts us = alike_same ts us _
alike_option block v given (Path path) ts us = alike_same ts us _

alike_goal : (g : Goal) (token : Token) (ts us : List Token)
    → Alike ts us (goal_step g token (token ∷ ts)) (goal_step g token (token ∷ us))
unfolding goal_step after_try
alike_goal goal.ClusterName token ts us = alike_same ts us _
alike_goal (goal.NodeId script) token ts us = alike_same ts us _
alike_goal (goal.NodeText script id) token ts us = alike_same ts us _
alike_goal (goal.Command block) token ts us = alike_command block token ts us
alike_goal (goal.Option block v given) token ts us = alike_option block v given token ts us
alike_goal (goal.Value block v given option) token ts us = alike_same ts us _
alike_goal (goal.AfterOption block v given) token ts us = alike_same ts us _
alike_goal (goal.EchoText block) token ts us = alike_same ts us _
alike_goal (goal.ExitStatus block) token ts us = alike_same ts us _
alike_goal (goal.AfterTry script tried) token ts us =
    alike_cond ts us (is_sign Semicolon token) (Ok (At (goal.Command (Outside (with_statement (Tried tried) script)))))
    _ _
    (alike_cond ts us (is_word (codes "on") token && (lacks Error tried || lacks Success tried))
    (Ok (At (goal.AfterOn script tried))) _ _
    (alike_command (Outside (with_statement (Tried tried) script)) token ts us))
alike_goal (goal.AfterOn script tried) token ts us = alike_same ts us _

-- a step with other tokens ahead
pub alike : (state : State) (token : Token) (ts us : List Token)
    → Alike ts us (step state token (token ∷ ts)) (step state token (token ∷ us))
unfolding step
alike (Awaits phrase at sign g) token ts us = alike_same ts us _
alike (At g) token ts us = alike_goal g token ts us
