-- What is answered follows what the grammar reads.
use Rattle.std.proofs.Common.{◌≡◌, ℕ, List, Result, Ok, Err, subst}
use Rattle.std.specs.Result.{IfOk, IsErrOf}
use Rattle.slonik_tokens.specs.Spelling.{ReadsText}
use Rattle.slonik_tokens.specs.Cut.{cut_of}
use Rattle.slonik_tokens.specs.Faults.{Cuts, EndsCut}
use Rattle.slonik_tokens.specs.declared.fault.ParseFault.{ParseFault}
use Rattle.slonik_tokens.specs.declared.fault.ParseFault.TheVariants.{Refused}
use Rattle.slonik_script.specs.declared.refusal.ScriptRefusal.TheVariants.{BadToken}
use Rattle.slonik_tokens.specs.declared.token.Token.{Token}
use Rattle.slonik_tokens.proofs.Readings.{read, only}

pub answer_read : {X : Type 0} (view : X → List Token) (text : List ℕ) (result : Result X ParseFault)
    → Cuts view (cut_of text) result → IfOk result (λ x. ReadsText text (Ok (view x)))
answer_read view text (Ok x) h = subst (ReadsText text) h (read text)
answer_read view text (Err fault) h = tt

pub answer_refused : {X : Type 0} (view : X → List Token) (text : List ℕ) (result : Result X ParseFault) (line : ℕ)
    → Cuts view (cut_of text) result → IsErrOf result (Refused (BadToken line)) → ReadsText text (Err line)
answer_refused view text (Ok x) line h e = cc
answer_refused view text (Err fault) line h e = let same : fault ≡ Refused (BadToken line) =
    cc in subst (ReadsText text) (subst (EndsCut (cut_of text)) same h) (read text)

pub answer_only : {X : Type 0} (view : X → List Token) (text : List ℕ) (result : Result X ParseFault)
    (outcome : Result (List Token) ℕ) → Cuts view (cut_of text) result → ReadsText text outcome
    → Cuts view outcome result
answer_only view text result outcome h k = subst (λ cut. Cuts view cut result) (only text outcome k) h
