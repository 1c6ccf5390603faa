-- From what the machine gives to what the grammar says.
use Rattle.std.proofs.Common.{◌≡◌, ℕ, List, Result, Ok, Err, IfOk, sym, ◌∙◌, subst}
use Rattle.slonik_tokens.specs.declared.fault.ParseFault.{ParseFault}
use Rattle.slonik_tokens.specs.declared.fault.ParseFault.TheVariants.{Refused, ReadFault, TooLong, NoMemory}
use Rattle.slonik_script.specs.declared.refusal.ScriptRefusal.{ScriptRefusal}
use Rattle.slonik_tokens.specs.declared.token.Token.{Token}
use Rattle.slonik_expand.specs.Expansion.{Making, Ending, Made, Wrong, Long}
use Rattle.slonik_script.specs.declared.script.Script.{Script}
use Rattle.slonik_parse.specs.Grammar.{IsScript}
use Rattle.slonik_parse.specs.Outcomes.{script_in, Parses}
use Rattle.slonik_parse.specs.Refusals.{Refuses}
use Rattle.slonik_parse.specs.Said.{Says, IsAccepted, IsRefusal}
use Rattle.slonik_parse.proofs.Readings.{found, wrong_found, refused_only}
use Rattle.slonik_parse.proofs.Whole.{accepted}

pub says : (ending : Ending) (result : Result Script ParseFault) (left : ℕ) → Parses ending result left
    → Says ending result left
says (Made making) (Ok script) left is = (found making.out script is.0, is.1)
says (Made making) (Err (Refused refusal)) left is = (wrong_found making.out refusal is.0, is.1)
says (Made making) (Err ReadFault) left is = tt
says (Made making) (Err TooLong) left is = cc
says (Made making) (Err NoMemory) left is = tt
says (Wrong refused rest) (Ok script) left is = is
says (Wrong refused rest) (Err (Refused refusal)) left is = is
says (Wrong refused rest) (Err ReadFault) left is = tt
says (Wrong refused rest) (Err TooLong) left is = cc
says (Wrong refused rest) (Err NoMemory) left is = tt
says Long (Ok script) left is = is
says Long (Err (Refused refusal)) left is = is
says Long (Err ReadFault) left is = tt
says Long (Err TooLong) left is = tt
says Long (Err NoMemory) left is = tt

accepts : (making : Making) (script : Script) (result : Result Script ParseFault) (left : ℕ)
    → Parses (Made making) result left → IsScript making.out script → IsAccepted script result
accepts making script (Ok answer) left is script_is = let e = sym is.0 ∙ accepted making.out script script_is in cc
accepts making script (Err (Refused refusal)) left is script_is = let e =
    sym is.0 ∙ accepted making.out script script_is in absurd (cc)
accepts making script (Err ReadFault) left is script_is = tt
accepts making script (Err TooLong) left is script_is = absurd (cc)
accepts making script (Err NoMemory) left is script_is = tt

refuses : (making : Making) (refusal : ScriptRefusal) (result : Result Script ParseFault) (left : ℕ)
    → Parses (Made making) result left → Refuses making.out refusal → IsRefusal refusal result
refuses making refusal (Ok answer) left is wrong = let e =
    sym is.0 ∙ refused_only making.out refusal wrong in absurd (cc)
refuses making refusal (Err (Refused answer)) left is wrong = let e =
    sym is.0 ∙ refused_only making.out refusal wrong in cc
refuses making refusal (Err ReadFault) left is wrong = tt
refuses making refusal (Err TooLong) left is wrong = absurd (cc)
refuses making refusal (Err NoMemory) left is wrong = tt

-- a script of the grammar is answered
pub is_accepted : (ending : Ending) (making : Making) (script : Script) (result : Result Script ParseFault) (left : ℕ)
    → Parses ending result left → ending ≡ Made making → IsScript making.out script → IsAccepted script result
is_accepted ending making script result left is e script_is =
    accepts making script result left (subst (λ x. Parses x result left) e is) script_is

-- a refusal of the grammar is answered
pub is_refused : (ending : Ending) (making : Making) (refusal : ScriptRefusal) (result : Result Script ParseFault)
    (left : ℕ) → Parses ending result left → ending ≡ Made making → Refuses making.out refusal
    → IsRefusal refusal result
is_refused ending making refusal result left is e wrong =
    refuses making refusal result left (subst (λ x. Parses x result left) e is) wrong

-- a script that was read is one of the grammar
pub is_spelled : (result : Result Script ParseFault)
    → IfOk result (λ script. (out : List Token) × (script_in out ≡ Ok script))
    → IfOk result (λ script. (out : List Token) × IsScript out script)
is_spelled (Ok script) read = (read.0, found read.0 script read.1)
is_spelled (Err fault) read = read

pub one_script : (tokens : List Token) (one other : Script) → IsScript tokens one → IsScript tokens other → one ≡ other
one_script tokens one other is also = let e = sym (accepted tokens one is) ∙ accepted tokens other also in cc

pub one_refusal : (tokens : List Token) (one other : ScriptRefusal) → Refuses tokens one → Refuses tokens other
    → one ≡ other
one_refusal tokens one other is also = let e = sym (refused_only tokens one is) ∙ refused_only tokens other also in cc

pub never_both : (tokens : List Token) (script : Script) (refusal : ScriptRefusal) → IsScript tokens script
    → Refuses tokens refusal → ⊥
never_both tokens script refusal is also = let e =
    sym (accepted tokens script is) ∙ refused_only tokens refusal also in absurd (cc)
