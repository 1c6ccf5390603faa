-- What stands before a place of the grammar is read up to it.
use Rattle.std.proofs.Common.{◌≡◌, true, false, List, [], ◌∷◌, ◌++◌, drop, codes, refl, ap, sym, ◌∙◌, subst}
use Rattle.std.proofs.Common.{append_assoc, append-nil}
use Rattle.slonik_tokens.specs.declared.token.Sign.TheVariants.{OpenBrace}
use Rattle.slonik_tokens.specs.declared.token.Token.{Token}
use Rattle.slonik_parse.specs.declared.form.Verb.{Verb}
use Rattle.slonik_parse.specs.declared.given.Given.{Given}
use Rattle.slonik_parse.specs.declared.state.Block.{Block}
use Rattle.slonik_parse.specs.declared.state.Block.TheVariants.{Outside, Try as InTry, Handler as InHandler}
use Rattle.slonik_parse.specs.declared.state.Goal.TheVariants as goal
use Rattle.slonik_parse.specs.declared.state.State.{State}
use Rattle.slonik_parse.specs.declared.state.State.TheVariants.{At}
use Rattle.slonik_parse.specs.Choices.{begins_with}
use Rattle.slonik_parse.specs.Forms.{verb_words}
use Rattle.slonik_parse.specs.Given.{nothing_given}
use Rattle.slonik_parse.specs.Machine.{run, with_command, behind_preamble}
use Rattle.slonik_parse.specs.Places.{Stands, outside, in_try, in_handler, no_options, some_options, Opened, opened}
use Rattle.slonik_parse.specs.Places.{OptionStands, option_stands, OptionEnds, option_ends}
use Rattle.slonik_parse.specs.Refusals.{preamble}
use Rattle.slonik_parse.proofs.Words.{other_word, begins}
use Rattle.slonik_parse.proofs.Pieces.{sign_read, options_read, comma_read}
use Rattle.slonik_parse.proofs.Commands.{commands_read, verb_read}
use Rattle.slonik_parse.proofs.Statements.{try_word_read, try_read, on_read, handler_read, lacks_one}
use Rattle.slonik_parse.proofs.Reaching.{Part, part, NotOn, reached, word_no_sign, first_word_no_sign, try_not_on}

-- The tokens are read up to the state, where what comes behind them is of a kind.
pub record ReadTo (front : List Token) (state : State) (Kind : List Token → Type 0) : Type 0 where
  pub preamble : (rest : List Token) → begins_with preamble (front ++ rest) ≡ true
  pub ran : (rest : List Token) → Kind rest → run (drop 2 (front ++ rest)) behind_preamble ≡ run rest state

-- From one state to another, and of what kind the tokens behind each are.
pub record Leap : Type 1 where
  pub old : State
  pub new : State
  pub Kind : List Token → Type 0
  pub Other : List Token → Type 0

abbrev pub leap : (old new : State) (Kind Other : List Token → Type 0) → Leap
leap old new Kind Other = record { old = old; new = new; Kind = Kind; Other = Other }

-- the same, one part later
pub on_from : (front : List Token) (p : Part front) (l : Leap) → ReadTo front l.old l.Kind →
    ((rest : List Token) → l.Other rest → l.Kind (p.next rest)) →
    ((rest : List Token) → l.Other rest → run (p.next rest) l.old ≡ run rest l.new) →
    ReadTo (front ++ p.now) l.new l.Other
on_from front p l r keeps goes = record {
  preamble = λ rest. ap (begins_with preamble) (p.same rest) ∙ r.preamble (p.next rest);
  ran = λ rest k. ap (λ ts. run (drop 2 ts) behind_preamble) (p.same rest) ∙ r.ran (p.next rest) (keeps rest k)
      ∙ goes rest k;
}

abbrev pub Anything : List Token → Type 0
Anything rest = Unit {0}

-- where a command may begin
pub stands_read : (block : Block) (front : List Token) → Stands block front
    → ReadTo front (At (goal.Command block)) NotOn
unfolding with_command
stands_read block front (outside script _ is) = let r =
    reached front script is in record { preamble = r.preamble; ran = r.ran }
stands_read block front (in_try script before word commands body is h) =
    let r = reached before script is in
    let tokens = word ∷ body.brace ∷ body.tokens in
    on_from before (part before tokens (λ rest. tokens ++ rest) (λ rest. append_assoc before tokens rest))
    (leap (At (goal.Command (Outside script))) (At (goal.Command (InTry script commands))) NotOn NotOn)
    (record { preamble = r.preamble; ran = r.ran })
    (λ rest clear. (word_no_sign (codes "try") word h, other_word (codes "try") word h (codes "on")))
    (λ rest clear. try_word_read script word (body.brace ∷ (body.tokens ++ rest)) h
    ∙ sign_read OpenBrace (goal.Command (InTry script [])) body.brace (body.tokens ++ rest) body.opens
    ∙ commands_read (InTry script) true (λ c cs. refl) (λ cs. refl) body.tokens rest commands body.are)
stands_read block front (in_handler script tried handler before words commands body) =
    let r = reached before.front script before.is in
    let behind : List Token → List Token = λ rest. words.on ∷ words.word ∷ body.brace ∷ (body.tokens ++ rest) in
    subst (λ ts. ReadTo ts (At (goal.Command (InHandler script tried handler commands))) NotOn)
    (sym (append_assoc before.front before.tokens (words.on ∷ words.word ∷ body.brace ∷ body.tokens)))
    (on_from before.front (part before.front
    (before.tokens ++ words.on ∷ words.word ∷ body.brace ∷ body.tokens)
    (λ rest. before.tokens ++ behind rest) (λ rest. simp append_assoc))
    (leap (At (goal.Command (Outside script))) (At (goal.Command (InHandler script tried handler commands))) NotOn
    NotOn)
    (record { preamble = r.preamble; ran = r.ran })
    (λ rest clear. try_not_on before.tokens (behind rest) tried before.tries)
    (λ rest clear. try_read script before.tokens (behind rest) tried before.tries
    ∙ on_read script tried words.on (words.word ∷ body.brace ∷ (body.tokens ++ rest)) words.is_on
    (lacks_one handler tried before.free)
    ∙ handler_read script tried handler words.word (body.brace ∷ (body.tokens ++ rest)) before.free words.is_handler
    ∙ sign_read OpenBrace (goal.Command (InHandler script tried handler [])) body.brace (body.tokens ++ rest) body.opens
    ∙ commands_read (InHandler script tried handler) false (λ c cs. refl) (λ cs. refl) body.tokens rest commands
    body.are))

-- where the options of a command begin
pub opened_read : (block : Block) (verb : Verb) (front : List Token) → Opened block verb front
    → ReadTo front (At (goal.Option block verb nothing_given)) Anything
opened_read block verb front (opened before w stands may) =
    subst (λ ts. ReadTo ts (At (goal.Option block verb nothing_given)) Anything)
    (sym (append_assoc before (w.first ∷ w.others) (w.end ∷ [])))
    (on_from before (part before (w.first ∷ w.others ++ w.end ∷ []) (λ rest. w.first ∷ w.others ++ w.end ∷ rest)
    (λ rest. simp append_assoc))
    (leap (At (goal.Command block)) (At (goal.Option block verb nothing_given)) NotOn Anything)
    (stands_read block before stands)
    (λ rest k. (
      first_word_no_sign (verb_words verb) w.first w.others w.are,
      (begins verb w.first w.others [] w.are).plain.not_on,
    ))
    (λ rest k. verb_read (record { block = block; verb = verb; opens = w.end; may = may; bracket = w.ends }) w.first
    w.others rest w.are))

-- where an option may begin
pub option_stands_read : (block : Block) (verb : Verb) (given : Given) (front : List Token)
    → OptionStands block verb given front → ReadTo front (At (goal.Option block verb given)) Anything
option_stands_read block verb given front (option_stands before options is no_options) =
    subst (λ ts. ReadTo ts (At (goal.Option block verb nothing_given)) Anything) (sym (append-nil before))
    (opened_read block verb before is)
option_stands_read block verb given front (option_stands before options is (some_options tokens _ comma are h)) =
    on_from before (part before (tokens ++ comma ∷ []) (λ rest. tokens ++ comma ∷ rest) (λ rest. simp append_assoc))
    (leap (At (goal.Option block verb nothing_given)) (At (goal.Option block verb given)) Anything Anything)
    (opened_read block verb before is)
    (λ rest k. k)
    (λ rest k. options_read block verb given tokens (comma ∷ rest) are ∙ comma_read block verb given comma rest h)

-- where an option has ended
pub option_ends_read : (block : Block) (verb : Verb) (given : Given) (front : List Token)
    → OptionEnds block verb given front → ReadTo front (At (goal.AfterOption block verb given)) Anything
option_ends_read block verb given front (option_ends before options is are) =
    on_from before (part before options (λ rest. options ++ rest) (λ rest. append_assoc before options rest))
    (leap (At (goal.Option block verb nothing_given)) (At (goal.AfterOption block verb given)) Anything Anything)
    (opened_read block verb before is)
    (λ rest k. k)
    (λ rest k. options_read block verb given options rest are)
