-- What the reply of a database that did not do its work tells of its store.
use Rattle.std.proofs.Common.{◌≡◌, ◌∙◌, List, true, false, Result, Ok, Err, refl, sym, ap, subst, ℕ}
use Rattle.std.proofs.Common.{None, not}
use Rattle.std.proofs.lemmas.Bool.{false≢true, false_from_ne_true}
use Rattle.std.specs.Prelude.{is_err}
use Rattle.slon_base.specs.declared.fault.Halt.TheVariants.{Fault, Doubt}
use Rattle.slon_model.specs.declared.fault.DbFault.{DbFault}
use Rattle.slon_model.specs.declared.fault.DbFault.TheVariants.{Halt}
use Rattle.slon_model.specs.declared.reply.Answered.{Answered}
use Rattle.slon_model.specs.declared.reply.Answered.TheVariants.{Sure, InDoubt}
use Rattle.slon_model.specs.declared.reply.Reply.{Reply}
use Rattle.slon_model.specs.Names.{Named}
use Rattle.slon_model.specs.Tasks.{Words}
use Rattle.slon_model.specs.World.{halt_in, refusal_of, reply_of}
use Rattle.app_store.specs.Base.{Base}
use Rattle.app_store.specs.Serves.{is_failure, is_memory, trouble}
use Rattle.slonik_exec.specs.Databases.{told_by, is_calm, TriesAll, Runs}
use Rattle.slonik_exec.specs.Telling.{told_at}
use Rattle.slonik_exec.proofs.Trying.{tries_calmer}

-- the words of a statement at a database of this name
abbrev pub words_at : List ℕ → Words
words_at name = record { database = name; transaction = None; table = None }

-- a fault or a doubt of the store is told, and nothing else
pub told_refusal : (words : Words) (fault : DbFault) → told_by (refusal_of words fault) ≡ told_at words.database
    (halt_in fault)
told_refusal words (Halt (Fault count)) = refl
told_refusal words (Halt Doubt) = refl
told_refusal words others = refl

-- the same of what a database answered
pub told_reply : (words : Words) (result : Result Answered DbFault) →
    told_by (reply_of words result) ≡ told_at words.database (trouble result)
told_reply words (Ok (Sure answer)) = refl
told_reply words (Ok (InDoubt answer)) = refl
told_reply words (Err fault) = told_refusal words fault

-- and a reply that is calm tells that no store failed
pub calm_refusal : (words : Words) (fault : DbFault) → is_calm (refusal_of words fault) ≡ true →
    not (is_failure (halt_in fault)) ≡ true
calm_refusal words (Halt (Fault count)) calm = absurd (false≢true calm)
calm_refusal words (Halt Doubt) calm = absurd (false≢true calm)
calm_refusal words others calm = refl

pub calm_reply : (words : Words) (result : Result Answered DbFault) → is_calm (reply_of words result) ≡ true →
    not (is_failure (trouble result)) ≡ true
calm_reply words (Ok (Sure answer)) calm = refl
calm_reply words (Ok (InDoubt answer)) calm = absurd (false≢true calm)
calm_reply words (Err fault) calm = calm_refusal words fault calm

pub runs_replied : (words : Words) (result : Result Answered DbFault) (reply : Reply) (old new : Named Base) →
    reply ≡ reply_of words result →
    TriesAll (not (is_failure (trouble result))) (told_at words.database (trouble result)) old new →
    Runs old reply new
runs_replied words result reply old new is tries =
    subst (λ r. Runs old r new) (sym is)
    (subst (λ t. TriesAll (is_calm (reply_of words result)) t old new) (sym (told_reply words result))
    (tries_calmer (not (is_failure (trouble result))) (is_calm (reply_of words result))
    (told_at words.database (trouble result)) old new (calm_reply words result) tries))

-- so what is promised with that trouble is promised with the reply
pub runs_told : (words : Words) (fault : DbFault) (reply : Reply) (old new : Named Base) →
    reply ≡ refusal_of words fault →
    TriesAll (not (is_failure (halt_in fault))) (told_at words.database (halt_in fault)) old new →
    Runs old reply new
runs_told words fault reply old new is tries = runs_replied words (Err fault) reply old new is tries

-- a reply was made, so want of memory was not the fault
pub not_short : {E : Type 0} (result : Result Reply E) (reply : Reply) (fault : DbFault) → result ≡ Ok reply →
    (is_memory (halt_in fault) ≡ true → is_err result ≡ true) → is_memory (halt_in fault) ≡ false
not_short result reply fault is memory =
    false_from_ne_true (is_memory (halt_in fault)) (λ short. false≢true (sym (ap is_err is) ∙ memory short))
