-- What the stores are told to fail, over one command more.
use Rattle.std.proofs.Common.{◌≡◌, ◌∙◌, ℕ, Bool, true, false, cond, List, ◌∷◌, is_some, Option, Some, None}
use Rattle.std.proofs.Common.{Result, Ok, Err, refl, sym, ap, subst}
use Rattle.std.specs.Str.{bytes_eq}
use Rattle.slon_base.specs.Charges.{IsFrom}
use Rattle.slon_base.specs.Keeper.{Kept}
use Rattle.slon_base.specs.declared.charge.Charge.{Charge}
use Rattle.slon_base.specs.declared.charge.Charge.TheVariants.{Off}
use Rattle.slon_base.specs.declared.fault.Halt.TheVariants.{Fault as HaltFault, Doubt}
use Rattle.slon_base.proofs.Charging.{goes_on_same}
use Rattle.slon_model.specs.declared.fault.DbFault.{DbFault}
use Rattle.slon_model.specs.declared.fault.DbFault.TheVariants.{IsUp, Halt}
use Rattle.slon_model.specs.declared.command.Command.{Command}
use Rattle.slon_model.specs.declared.command.Command.TheVariants.{Database}
use Rattle.slon_model.specs.declared.command.Crash.{Crash as CrashKind}
use Rattle.slon_model.specs.declared.command.Crash.TheVariants.{Now}
use Rattle.slon_model.specs.declared.reply.Answered.{Answered}
use Rattle.slon_model.specs.declared.reply.Answered.TheVariants.{Sure, InDoubt}
use Rattle.slon_model.specs.declared.reply.Refusal.TheVariants.{NoDatabase}
use Rattle.slon_model.specs.declared.reply.Reply.{Reply}
use Rattle.slon_model.specs.declared.reply.Reply.TheVariants.{Refused}
use Rattle.slon_model.specs.Names.{find_named, put_named}
use Rattle.slon_model.specs.Tasks.{Task, ToCrash, ToRise, Subject, OnOne, subject_of, Words, words_of}
use Rattle.slon_model.specs.World.{Happening, refusal_of, reply_of}
use Rattle.slon_model.proofs.Names.{bytes_same, find-behind, put_found, put_other, one_found}
use Rattle.app_store.specs.Base.{Base}
use Rattle.app_store.specs.Serves.{armed_by, charged}
use Rattle.slonik_exec.specs.Databases.{is_calm}
use Rattle.slonik_exec.specs.Databases.{told_by as told_by_reply}
use Rattle.cluster_engine.specs.Agreed.{Clustered}
use Rattle.cluster_engine.specs.Calls.{happened, Moves, Grants, Misses, Asks, Acts, Adopts, Rejects, Keeps}
use Rattle.cluster_engine.specs.Telling.{told_by, told_on, told_in, AreTold, KeepsTelling}
use Rattle.cluster_engine.proofs.Moving.{IsGranted}
use Rattle.cluster_engine.proofs.Trials.{find_tried, find_lacks}

from_same : (charge : Charge) → IsFrom charge charge
unfolding IsFrom
from_same charge = goes_on_same charge

-- ---- one database

-- a refusal is no answer
refused_crash : (crash : CrashKind) (words : Words) (fault : DbFault) (charge : Charge) →
    told_by (ToCrash crash) (refusal_of words fault) charge ≡ charge
refused_crash crash words (Halt (HaltFault count)) charge = refl
refused_crash crash words (Halt Doubt) charge = refl
refused_crash crash words (Halt others) charge = refl
refused_crash crash words others charge = refl

crashed_from : (crash : CrashKind) (told charge : Charge) → IsFrom told charge →
    IsFrom (armed_by crash told) (armed_by crash charge)
crashed_from Now told charge from = from
crashed_from others told charge from = from_same (armed_by others charge)

rising_from : (words : Words) (fault : DbFault) (told charge : Charge) → IsFrom told charge →
    IsFrom (told_by ToRise (refusal_of words fault) told) (charged ToRise (Err fault) charge)
rising_from words IsUp told charge from = from
rising_from words (Halt (HaltFault count)) told charge from = from_same Off
rising_from words (Halt Doubt) told charge from = from_same Off
rising_from words (Halt others) told charge from = from_same Off
rising_from words others told charge from = from_same Off

-- what a task with this answer tells goes on from what its reply says
told_from : (task : Task) (words : Words) (result : Result Answered DbFault) (told charge : Charge) →
    IsFrom told charge → IsFrom (told_by task (reply_of words result) told) (charged task result charge)
told_from (ToCrash crash) words (Ok (Sure answer)) told charge from = crashed_from crash told charge from
told_from (ToCrash crash) words (Ok (InDoubt answer)) told charge from = from
told_from (ToCrash crash) words (Err fault) told charge from =
    subst (λ c. IsFrom c charge) (sym (refused_crash crash words fault told)) from
told_from ToRise words (Ok (Sure answer)) told charge from = from_same Off
told_from ToRise words (Ok (InDoubt answer)) told charge from = from_same Off
told_from ToRise words (Err fault) told charge from = rising_from words fault told charge from
told_from others words result told charge from = from

-- ---- all databases

-- a command that is about another database, or about none
told_other : (name : List ℕ) (s : Subject) (database : List ℕ) (task : Task) (reply : Reply) (told : Charge) →
    s ≡ OnOne database task → bytes_eq name database ≡ false → told_on name s reply told ≡ told
told_other name s database task reply told is differ =
    ap (λ x. told_on name x reply told) is ∙ ap (λ b. cond b (told_by task reply told) told) differ

told_same : (name : List ℕ) (s : Subject) (database : List ℕ) (task : Task) (reply : Reply) (told : Charge) →
    s ≡ OnOne database task → bytes_eq name database ≡ true → told_on name s reply told ≡ told_by task reply told
told_same name s database task reply told is same =
    ap (λ x. told_on name x reply told) is ∙ ap (λ b. cond b (told_by task reply told) told) same

-- no database of the name
missed : (task : Task) (name : List ℕ) → told_by task (Refused (NoDatabase name)) Off ≡ Off
missed (ToCrash crash) name = refl
missed ToRise name = refl
missed others name = refl

some_none : {X : Type 0} {Y : Type 0} (x : X) → Some x ≡ None → Y
some_none x is = absurd cc

-- the same databases, and a command that tells none of them anything
told_alike : (h : Happening) (history : List Happening) (old new : Clustered) → new ≡ old →
    ((name : List ℕ) → told_in name (h ∷ history) ≡ told_in name history) → AreTold history old →
    AreTold (h ∷ history) new
told_alike h history old new same alike all = record {
  absent = λ name none. alike name
      ∙ all.absent name (ap (λ (c : Clustered). find_named name c.bases) (sym same) ∙ none);
  present = λ name b found. subst (λ c. IsFrom c b.kept.told) (sym (alike name))
      (all.present name b (ap (λ (c : Clustered). find_named name c.bases) (sym same) ∙ found));
}

pub moves_tells : (command : Command) (old : Clustered) (reply : Reply) (new : Clustered) →
    Moves command old reply new → KeepsTelling command old reply new
moves_tells command old reply new (Grants name about told same) choice history all =
    told_alike (happened command reply choice) history old new same
    (λ other. ap (λ s. told_on other s reply (told_in other history)) about) all
moves_tells command old reply new (Misses name task about none told same) choice history all =
    subst (AreTold (happened command reply choice ∷ history)) (sym same) (record {
      absent = λ other lacks. gone other (bytes_eq other name) refl lacks;
      present = λ other b found. here other b (bytes_eq other name) refl found;
    })
  where
    gone : (other : List ℕ) (c : Bool) → bytes_eq other name ≡ c → find_named other old.bases ≡ None →
        told_in other (happened command reply choice ∷ history) ≡ Off
    gone other true is lacks =
        told_same other (subject_of command) name task reply (told_in other history) about is
        ∙ ap (λ r. told_by task r (told_in other history)) told
        ∙ ap (told_by task (Refused (NoDatabase name))) (all.absent other lacks) ∙ missed task name
    gone other false differ lacks =
        told_other other (subject_of command) name task reply (told_in other history) about differ
        ∙ all.absent other lacks

    here : (other : List ℕ) (b : Base) (c : Bool) → bytes_eq other name ≡ c → find_named other old.bases ≡ Some b →
        IsFrom (told_in other (happened command reply choice ∷ history)) b.kept.told
    here other b true is found =
        some_none b (sym found ∙ ap (λ n. find_named n old.bases) (bytes_same other name is) ∙ none)
    here other b false differ found = subst (λ c. IsFrom c b.kept.told)
        (sym (told_other other (subject_of command) name task reply (told_in other history) about differ))
        (all.present other b found)
moves_tells command old reply new (Asks s) choice history all =
    subst (AreTold (happened command reply choice ∷ history)) (sym s.same) (record {
      absent = λ other lacks. gone other (bytes_eq other s.name) refl lacks;
      present = λ other e is. here other e (bytes_eq other s.name) refl is;
    })
  where
    at : (other : List ℕ) → bytes_eq other s.name ≡ true →
        find_named other (put_named s.name s.behind old.bases) ≡ Some s.behind
    at other one = ap (λ n. find_named n (put_named s.name s.behind old.bases)) (bytes_same other s.name one)
        ∙ put_found s.name s.behind s.before old.bases s.found

    gone : (other : List ℕ) (c : Bool) → bytes_eq other s.name ≡ c →
        find_named other (put_named s.name s.behind old.bases) ≡ None →
        told_in other (happened command reply choice ∷ history) ≡ Off
    gone other true one lacks = some_none s.behind (sym (at other one) ∙ lacks)
    gone other false differ lacks =
        told_other other (subject_of command) s.name s.task reply (told_in other history) s.about differ
        ∙ all.absent other (sym (put_other other s.name s.behind old.bases differ) ∙ lacks)

    here : (other : List ℕ) (e : Base) (c : Bool) → bytes_eq other s.name ≡ c →
        find_named other (put_named s.name s.behind old.bases) ≡ Some e →
        IsFrom (told_in other (happened command reply choice ∷ history)) e.kept.told
    here other e true one is =
        let it : s.behind ≡ e = one_found s.behind e (sym (at other one) ∙ is) in
        let found = ap (λ n. find_named n old.bases) (bytes_same other s.name one) ∙ s.found in
        let was = all.present other s.before found in
        subst (λ (x : Base). IsFrom (told_on other (subject_of command) reply (told_in other history)) x.kept.told) it
        (subst (λ c. IsFrom c s.behind.kept.told)
        (sym (told_same other (subject_of command) s.name s.task reply (told_in other history) s.about one
        ∙ ap (λ r. told_by s.task r (told_in other history)) s.told))
        (s.serves.told (told_by s.task (reply_of (words_of (OnOne s.name s.task)) s.result) (told_in other history))
        (told_from s.task (words_of (OnOne s.name s.task)) s.result (told_in other history) s.before.kept.told was)))
    here other e false differ is = subst (λ c. IsFrom c e.kept.told)
        (sym (told_other other (subject_of command) s.name s.task reply (told_in other history) s.about differ))
        (all.present other e (sym (put_other other s.name s.behind old.bases differ) ∙ is))
moves_tells command old reply new (Acts act about acted) choice history all = record {
  absent = λ other lacks. alike other
      ∙ all.absent other (find_lacks (is_calm reply) (told_by_reply reply) other old.bases new.bases acted.runs lacks);
  present = λ other n found.
      let t = find_tried (is_calm reply) (told_by_reply reply) other n old.bases new.bases acted.runs found in
      subst (λ c. IsFrom c n.kept.told) (sym (alike other))
      (t.tried.tries.told (told_in other history) (all.present other t.before t.was));
}
  where
    alike : (other : List ℕ) → told_in other (happened command reply choice ∷ history) ≡ told_in other history
    alike other = ap (λ s. told_on other s reply (told_in other history)) about

-- a database of a name that was free
pub adopts_tells : (name : List ℕ) (kept : Kept) (old : Clustered) (reply : Reply) (new : Clustered) →
    Adopts name kept old reply new → KeepsTelling (Database name) old reply new
adopts_tells name kept old reply new (Rejects b made told same) choice history all =
    subst (AreTold (happened (Database name) reply choice ∷ history)) (sym same)
    (record { absent = all.absent; present = all.present })
adopts_tells name kept old reply new (Keeps b result made memory kept_it told same) choice history all =
    subst (AreTold (happened (Database name) reply choice ∷ history)) (sym same) (record {
      absent = λ other lacks. all.absent other (lacks_more (find_named other old.bases)
          (cond (bytes_eq other name) (Some b) None) (sym (find-behind other name b old.bases) ∙ lacks));
      present = λ other e is. here other e (find_named other old.bases) (bytes_eq other name) refl
          (sym (find-behind other name b old.bases) ∙ is);
    })
  where
    lacks_more : (o more : Option Base) → cond (is_some o) o more ≡ None → o ≡ None
    lacks_more None more lacks = refl
    lacks_more (Some x) more lacks = lacks

    here : (other : List ℕ) (e : Base) (o : Option Base) (c : Bool) → find_named other old.bases ≡ o →
        cond (is_some o) o (cond c (Some b) None) ≡ Some e →
        IsFrom (told_in other (happened (Database name) reply choice ∷ history)) e.kept.told
    here other e (Some x) c was is = all.present other e (was ∙ is)
    here other e None true was is =
        subst (λ (x : Base). IsFrom (told_in other history) x.kept.told) (one_found b e is)
        (subst (λ c. IsFrom c b.kept.told) (sym (all.absent other was)) (made.founds.told Off (from_same Off)))
    here other e None false was is = absurd cc

-- what was granted
pub made_tells : (name : List ℕ) (old mid : Clustered) (reply : Reply) (new : Clustered) → IsGranted name old mid →
    KeepsTelling (Database name) mid reply new → KeepsTelling (Database name) old reply new
made_tells name old mid reply new was tells = subst (λ c. KeepsTelling (Database name) c reply new) was.same tells
