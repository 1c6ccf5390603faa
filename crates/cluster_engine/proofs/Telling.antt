-- Why a fault or a doubt is told, and where none is.
use Rattle.std.proofs.Common.{◌≡◌, ◌∙◌, ℕ, ◌≤◌, Bool, true, false, cond, List, [], ◌∷◌, ◌++◌, length, is_some, nat_lt}
use Rattle.std.proofs.Common.{Some, None, Result, Ok, Err, IfOk, inl, inr, refl, sym, ap, subst, true≢false, arith}
use Rattle.std.specs.List.{AllByRecursion}
use Rattle.std.specs.Str.{bytes_eq}
use Rattle.slon_base.specs.Counts.{Rose}
use Rattle.slon_base.specs.Keeper.{Kept, nothing}
use Rattle.slon_base.specs.declared.fault.Halt.{Halt as HaltOf}
use Rattle.slon_base.specs.declared.fault.Halt.TheVariants.{Doubt, Fault as HaltFault}
use Rattle.slon_model.specs.declared.fault.DbFault.{DbFault}
use Rattle.slon_model.specs.declared.fault.DbFault.TheVariants.{Halt}
use Rattle.slon_model.specs.declared.command.Command.{Command}
use Rattle.slon_model.specs.declared.reply.Answer.TheVariants.{Done}
use Rattle.slon_model.specs.declared.reply.Answered.{Answered}
use Rattle.slon_model.specs.declared.reply.Answered.TheVariants.{InDoubt as AnsweredInDoubt}
use Rattle.slon_model.specs.declared.reply.Refusal.TheVariants as refused
use Rattle.slon_model.specs.declared.reply.Reply.{Reply}
use Rattle.slon_model.specs.declared.reply.Reply.TheVariants.{Accepted, Refused, InDoubt}
use Rattle.slon_model.specs.Names.{Named, find_named, put_named}
use Rattle.slon_model.specs.Spoken.{IsSpoken}
use Rattle.slon_model.specs.Tasks.{Task, ToFound, OnNew, OnOne, Words, words_of}
use Rattle.slon_model.specs.World.{reply_of}
use Rattle.slon_model.proofs.Names.{put_found, all_found, all_put, all_behind}
use Rattle.app_store.specs.Base.{Base}
use Rattle.app_store.specs.Serves.{Caused, is_failure, trouble, settled}
use Rattle.node_store.specs.Acting.{acting}
use Rattle.slonik_exec.specs.Databases.{Trouble, TriesAll, Runs, told_by, is_calm}
use Rattle.slonik_exec.specs.Heard.{AreDistinct}
use Rattle.slonik_exec.proofs.Distinct.{distinct_tries, distinct_behind}
use Rattle.cluster_engine.specs.Agreed.{Clustered}
use Rattle.cluster_engine.specs.Calls.{DoubtRose, arms_on, grant, with_more, Moves, Grants, Misses, Asks, Acts}
use Rattle.cluster_engine.specs.Calls.{ReplyCaused}
use Rattle.cluster_engine.specs.Calls.{is_sure_reply}
use Rattle.cluster_engine.specs.Calls.{AllCertain, StaysCertain, AllQuiet, StaysQuiet, Adopts, Rejects, Keeps}
use Rattle.cluster_engine.specs.Calls.{MakingReplyCaused, Makes, MakesCertain, Steps}
use Rattle.cluster_engine.specs.Subscribing.{Subscribes, SubscribesMade}
use Rattle.cluster_engine.proofs.Lifting.{distinct_put}
use Rattle.cluster_engine.proofs.Certain.{stays_none, never_fails}
use Rattle.cluster_engine.proofs.Stepping.{steps, makes, adopts_done}
use Rattle.cluster_engine.proofs.Subscribing.{subscribes, subscribes_made}
use Rattle.cluster_engine.proofs.Trials.{find_trouble, all_behind_tries, all_before_tries}

-- ---- why a fault is told

-- the database of this name before and after a command
record Both (name : List ℕ) (old new : Clustered) : Type 0 where
  before : Base
  behind : Base
  was : find_named name old.bases ≡ Some before
  is : find_named name new.bases ≡ Some behind

doubted : (name : List ℕ) (old new : Clustered) (both : Both name old new) →
    Rose both.before.kept.faults both.behind.kept.faults × Rose both.before.kept.doubts both.behind.kept.doubts →
    DoubtRose name old new
doubted name old new both (faults, doubts) =
    record {
      before = both.before;
      behind = both.behind;
      was = both.was;
      is = both.is;
      faults = faults;
      doubts = doubts;
    }

answer_caused : (name : List ℕ) (task : Task) (result : Result Answered DbFault) (old new : Clustered) →
    (both : Both name old new) →
    Caused task both.before.kept (trouble result) both.behind.kept →
    ReplyCaused (reply_of (words_of (OnOne name task)) result) old new
answer_caused name task (Ok (AnsweredInDoubt answer)) old new both caused = doubted name old new both caused
answer_caused name task (Err (Halt (HaltFault count))) old new both caused =
    record {
      before = both.before;
      behind = both.behind;
      was = both.was;
      is = both.is;
      rose = caused.0;
      count_is = caused.1;
    }
answer_caused name task (Err (Halt Doubt)) old new both caused = doubted name old new both caused
answer_caused name task others old new both caused = tt

granted_caused : (taken room : Bool) (name : List ℕ) (limit : ℕ) (old new : Clustered) →
    ReplyCaused (cond taken (Refused (refused.NameUsed name))
    (cond room (Accepted Done) (Refused (refused.Full limit)))) old new
granted_caused true room name limit old new = tt
granted_caused false true name limit old new = tt
granted_caused false false name limit old new = tt

-- a step of a script
acted_caused : (reply : Reply) (old new : Clustered) → Runs old.bases reply new.bases → ReplyCaused reply old new
acted_caused (Refused (refused.Fault database count)) old new runs =
    let t = find_trouble false database (HaltFault count) old.bases new.bases runs in
    record {
      before = t.before;
      behind = t.behind;
      was = t.was;
      is = t.is;
      rose = t.tried.tries.caused.0;
      count_is = t.tried.tries.caused.1;
    }
acted_caused (InDoubt database answer) old new runs =
    let t = find_trouble false database Doubt old.bases new.bases runs in
    record {
      before = t.before;
      behind = t.behind;
      was = t.was;
      is = t.is;
      faults = t.tried.tries.caused.0;
      doubts = t.tried.tries.caused.1;
    }
acted_caused others old new runs = tt

pub moves_caused : (command : Command) (old : Clustered) (reply : Reply) (new : Clustered) →
    Moves command old reply new → ReplyCaused reply old new
moves_caused command old reply new (Grants name about told same) =
    subst (λ r. ReplyCaused r old new) (sym told) (granted_caused (is_some (find_named name old.bases))
    (nat_lt (length old.bases) old.limit) name old.limit old new)
moves_caused command old reply new (Misses name task about none told same) = subst (λ r. ReplyCaused r old new)
    (sym told) tt
moves_caused command old reply new (Asks s) =
    subst (λ r. ReplyCaused r old new) (sym s.told) (answer_caused s.name s.task s.result old new (record {
      before = s.before;
      behind = s.behind;
      was = s.found;
      is = ap (λ (c : Clustered). find_named s.name c.bases) s.same
          ∙ put_found s.name s.behind s.before old.bases s.found;
    }) s.serves.caused)
moves_caused command old reply new (Acts act about acted) = acted_caused reply old new acted.runs

made_caused : (name : List ℕ) (kept : Kept) (old new : Clustered) (b : Base) (result : Result Answered DbFault) →
    new ≡ with_more name b old →
    Caused ToFound kept (trouble result) b.kept → MakingReplyCaused name kept
    (reply_of (words_of (OnNew name)) result) old new
made_caused name kept old new b (Ok (AnsweredInDoubt answer)) same caused = (refl, b, same, caused.0, caused.1)
made_caused name kept old new b (Err (Halt (HaltFault count))) same caused = (refl, b, same, caused.0, caused.1)
made_caused name kept old new b (Err (Halt Doubt)) same caused = (refl, b, same, caused.0, caused.1)
made_caused name kept old new b others same caused = tt

adopts_caused : (name : List ℕ) (kept : Kept) (old : Clustered) (reply : Reply) (new : Clustered) →
    Adopts name kept old reply new →
    MakingReplyCaused name kept reply old new
adopts_caused name kept old reply new (Rejects b made told same) = subst (λ r. MakingReplyCaused name kept r old new)
    (sym told) tt
adopts_caused name kept old reply new (Keeps b result made memory kept_it told same) =
    subst (λ r. MakingReplyCaused name kept r old new) (sym told)
    (made_caused name kept old new b (settled result) same made.founds.caused)

-- ---- no fault where none can come

pub answer_sure : (words : Words) (result : Result Answered DbFault) → is_failure (trouble result) ≡ false →
    is_sure_reply (reply_of words result) ≡ true
answer_sure words (Ok (AnsweredInDoubt answer)) is = absurd (true≢false is)
answer_sure words (Err (Halt (HaltFault count))) is = absurd (true≢false is)
answer_sure words (Err (Halt Doubt)) is = absurd (true≢false is)
answer_sure words others is = refl

granted_sure_by : (taken room : Bool) (name : List ℕ) (limit : ℕ) →
    is_sure_reply (cond taken (Refused (refused.NameUsed name))
    (cond room (Accepted Done) (Refused (refused.Full limit)))) ≡ true
granted_sure_by true room name limit = refl
granted_sure_by false true name limit = refl
granted_sure_by false false name limit = refl

pub granted_sure : (name : List ℕ) (c : Clustered) → is_sure_reply (grant name c) ≡ true
granted_sure name c = granted_sure_by (is_some (find_named name c.bases)) (nat_lt (length c.bases) c.limit) name c.limit

-- where no store can fail none is told of
never_troubled : (calm : Bool) (trouble : Trouble) (olds news : Named Base) →
    AllByRecursion (λ e. e.1.kept.can_fail ≡ Some 0) olds → is_failure (Some trouble.1) ≡ true →
    TriesAll calm (Some trouble) olds news → ⊥
never_troubled calm trouble olds news certain fails tries =
    let t = find_trouble calm trouble.0 trouble.1 olds news tries in
    true≢false (sym fails ∙ never_fails (is_failure (Some trouble.1)) t.before.kept.can_fail t.behind.kept.can_fail
    t.tried.tries.spends (all_found (λ (e : Base). e.kept.can_fail ≡ Some 0) trouble.0 t.before olds certain t.was))

acted_sure : (reply : Reply) (old new : Clustered) → AllCertain old → Runs old.bases reply new.bases →
    is_sure_reply reply ≡ true
acted_sure (Refused (refused.Fault database count)) old new certain runs =
    absurd (never_troubled false (database, HaltFault count) old.bases new.bases certain refl runs)
acted_sure (InDoubt database answer) old new certain runs =
    absurd (never_troubled false (database, Doubt) old.bases new.bases certain refl runs)
acted_sure others old new certain runs = refl

acted_certain : (reply : Reply) (old new : Clustered) → AllCertain old → Runs old.bases reply new.bases →
    AllCertain new
acted_certain reply old new certain runs =
    all_behind_tries (λ (e : Base). e.kept.can_fail ≡ Some 0) (λ (e : Base). e.kept.can_fail ≡ Some 0)
    (is_calm reply) (told_by reply) old.bases new.bases
    (λ t o n tried never. stays_none o.kept.can_fail n.kept.can_fail tried.tries.still never) (runs, certain)

pub moves_certain : (command : Command) (old : Clustered) (reply : Reply) (new : Clustered) →
    Moves command old reply new → StaysCertain command old reply new
moves_certain command old reply new (Grants name about told same) certain =
    (ap is_sure_reply told ∙ granted_sure name old, λ armless. subst AllCertain (sym same) certain)
moves_certain command old reply new (Misses name task about none told same) certain =
    (ap is_sure_reply told, λ armless. subst AllCertain (sym same) certain)
moves_certain command old reply new (Asks s) certain =
    let old_bound = s.before.kept.can_fail in
    let new_bound = s.behind.kept.can_fail in
    let here : old_bound ≡ Some 0 = all_found
    (λ (e : Base). e.kept.can_fail ≡ Some 0) s.name s.before old.bases certain s.found in (
      ap is_sure_reply s.told ∙ answer_sure (words_of (OnOne s.name s.task)) s.result
          (never_fails (is_failure (trouble s.result)) old_bound new_bound s.serves.spends here),
      λ armless. subst AllCertain (sym s.same)
          (all_put (λ (e : Base). e.kept.can_fail ≡ Some 0) s.name s.behind old.bases
          (stays_none old_bound new_bound (s.serves.still (sym (ap arms_on s.about) ∙ armless)) here) certain),
    )
moves_certain command old reply new (Acts act about acted) certain =
    (acted_sure reply old new certain acted.runs, λ armless. acted_certain reply old new certain acted.runs)

adopts_certain : (name : List ℕ) (kept : Kept) (old : Clustered) (reply : Reply) (new : Clustered) →
    Adopts name kept old reply new →
    MakesCertain kept old reply new
adopts_certain name kept old reply new (Rejects b made told same) never =
    (ap is_sure_reply told, λ certain. subst AllCertain (sym same) certain)
adopts_certain name kept old reply new (Keeps b result made memory kept_it told same) never = (
  ap is_sure_reply told ∙ answer_sure (words_of (OnNew name)) (settled result)
      (never_fails (is_failure (trouble (settled result))) kept.can_fail b.kept.can_fail made.founds.spends never),
  λ certain. subst AllCertain (sym same) (all_behind (λ (e : Base). e.kept.can_fail ≡ Some 0) name b old.bases
      (stays_none kept.can_fail b.kept.can_fail made.founds.still never) certain),
)

-- ---- no fault where none was counted

-- a count that is 0 did not rise
no_rose : {a b : ℕ} → b ≡ 0 → Rose a b → ⊥
no_rose is (inl more) = absurd (omega (arith, is, more))
no_rose is (inr last) = absurd (omega (arith, is, last))

quiet_sure : (task : Task) (old new : Kept) (result : Result Answered DbFault) → new.faults ≡ 0 →
    Caused task old (trouble result) new →
    is_failure (trouble result) ≡ false
quiet_sure task old new (Ok (AnsweredInDoubt answer)) quiet caused = absurd (no_rose quiet caused.0)
quiet_sure task old new (Err (Halt (HaltFault count))) quiet caused = absurd (no_rose quiet caused.0)
quiet_sure task old new (Err (Halt Doubt)) quiet caused = absurd (no_rose quiet caused.0)
quiet_sure task old new others quiet caused = refl

-- the database that was asked, and all before it
quiet_put : (name : List ℕ) (b d : Base) (bases : Named Base) → find_named name bases ≡ Some b →
    b.kept.faults ≤ d.kept.faults →
    AllByRecursion (λ e. e.1.kept.faults ≡ 0) (put_named name d bases) →
    (d.kept.faults ≡ 0) × AllByRecursion (λ e. e.1.kept.faults ≡ 0) bases
quiet_put name b d [] found later all = absurd cc
quiet_put name b d (e ∷ es) found later all =
    elim (bytes_eq name e.0) as (λ c. cond c (Some e.1) (find_named name es) ≡ Some b →
    AllByRecursion (λ e. e.1.kept.faults ≡ 0) (cond c ((e.0, d) ∷ es) (e ∷ put_named name d es))
    → (d.kept.faults ≡ 0) × ((e.1.kept.faults ≡ 0) × AllByRecursion (λ e. e.1.kept.faults ≡ 0) es)) [
      | true ↦ λ here quiet.
          let same : e.1 ≡ b = cc in
          (quiet.0, (omega (arith, later, quiet.0, ap (λ (x : Base). x.kept.faults) same), quiet.1))
      | false ↦ λ there quiet. let rest = quiet_put name b d es there later quiet.1 in (rest.0, (quiet.0, rest.1))
    ] found all

-- a store that has counted nothing was not told of
quiet_found : (name : List ℕ) (halt : HaltOf) (calm : Bool) (olds news : Named Base) →
    AllByRecursion (λ e. e.1.kept.faults ≡ 0) news →
    ((old new : Kept) → Caused acting old (Some halt) new → Rose old.faults new.faults) →
    TriesAll calm (Some (name, halt)) olds news → ⊥
quiet_found name halt calm olds news quiet rises tries =
    let t = find_trouble calm name halt olds news tries in
    no_rose (all_found (λ (e : Base). e.kept.faults ≡ 0) name t.behind news quiet t.is)
    (rises t.before.kept t.behind.kept t.tried.tries.caused)

quiet_acted : (reply : Reply) (old new : Clustered) → AllQuiet new → Runs old.bases reply new.bases →
    is_sure_reply reply ≡ true
quiet_acted (Refused (refused.Fault database count)) old new quiet runs =
    absurd (quiet_found database (HaltFault count) false old.bases new.bases quiet (λ o n caused. caused.0) runs)
quiet_acted (InDoubt database answer) old new quiet runs =
    absurd (quiet_found database Doubt false old.bases new.bases quiet (λ o n caused. caused.0) runs)
quiet_acted others old new quiet runs = refl

quiet_before : (reply : Reply) (old new : Clustered) → AllQuiet new → Runs old.bases reply new.bases → AllQuiet old
quiet_before reply old new quiet runs =
    all_before_tries (λ (e : Base). e.kept.faults ≡ 0) (λ (e : Base). e.kept.faults ≡ 0)
    (is_calm reply) (told_by reply) old.bases new.bases
    (λ t o n tried none. let later = tried.tries.later in omega (arith, later, none)) (runs, quiet)

pub moves_quiet : (command : Command) (old : Clustered) (reply : Reply) (new : Clustered) →
    Moves command old reply new → StaysQuiet reply old new
moves_quiet command old reply new (Grants name about told same) quiet =
    (ap is_sure_reply told ∙ granted_sure name old, subst AllQuiet same quiet)
moves_quiet command old reply new (Misses name task about none told same) quiet =
    (ap is_sure_reply told, subst AllQuiet same quiet)
moves_quiet command old reply new (Asks s) quiet =
    let parts =
    quiet_put s.name s.before s.behind old.bases s.found s.serves.later (subst AllQuiet s.same quiet) in (
      ap is_sure_reply s.told ∙ answer_sure (words_of (OnOne s.name s.task)) s.result
          (quiet_sure s.task s.before.kept s.behind.kept s.result parts.0 s.serves.caused),
      parts.1,
    )
moves_quiet command old reply new (Acts act about acted) quiet =
    (quiet_acted reply old new quiet acted.runs, quiet_before reply old new quiet acted.runs)

quiet_behind : (name : List ℕ) (b : Base) (bases : Named Base) →
    AllByRecursion (λ e. e.1.kept.faults ≡ 0) (bases ++ (name, b) ∷ []) →
    (b.kept.faults ≡ 0) × AllByRecursion (λ e. e.1.kept.faults ≡ 0) bases
quiet_behind name b [] all = (all.0, tt)
quiet_behind name b (e ∷ es) all = let rest = quiet_behind name b es all.1 in (rest.0, (all.0, rest.1))

adopts_quiet : (name : List ℕ) (kept : Kept) (old : Clustered) (reply : Reply) (new : Clustered) →
    Adopts name kept old reply new → StaysQuiet reply old new
adopts_quiet name kept old reply new (Rejects b made told same) quiet =
    (ap is_sure_reply told, subst AllQuiet same quiet)
adopts_quiet name kept old reply new (Keeps b result made memory kept_it told same) quiet =
    let parts = quiet_behind name b old.bases (subst AllQuiet same quiet) in (
      ap is_sure_reply told ∙ answer_sure (words_of (OnNew name)) (settled result)
          (quiet_sure ToFound kept b.kept (settled result) parts.0 made.founds.caused),
      parts.1,
    )

-- ---- all that is promised of a command

-- what is promised of a command that did this, where there was memory to reply
pub record Promises {E : Type 0} (command : Command) (old : Clustered) (result : Result Reply E)
    (new : Clustered) : Type 0 where
  pub steps : IfOk result (λ reply. Steps command old reply new)
  pub cause : IfOk result (λ reply. ReplyCaused reply old new)
  pub certain : IfOk result (λ reply. StaysCertain command old reply new)
  pub quiet : IfOk result (λ reply. StaysQuiet reply old new)
  pub distinct : AreDistinct old.bases → IfOk result (λ reply. AreDistinct new.bases)
  pub subscribes : IsSpoken command → IfOk result (λ reply. Subscribes command old reply new)

-- no name of a database comes or goes
moves_distinct : (command : Command) (old : Clustered) (reply : Reply) (new : Clustered) →
    Moves command old reply new → AreDistinct old.bases → AreDistinct new.bases
moves_distinct command old reply new (Grants name about told same) distinct =
    subst (λ (c : Clustered). AreDistinct c.bases) (sym same) distinct
moves_distinct command old reply new (Misses name task about none told same) distinct =
    subst (λ (c : Clustered). AreDistinct c.bases) (sym same) distinct
moves_distinct command old reply new (Asks s) distinct =
    subst (λ (c : Clustered). AreDistinct c.bases) (sym s.same)
    (distinct_put s.name s.behind old.bases distinct)
moves_distinct command old reply new (Acts act about acted) distinct =
    distinct_tries (is_calm reply) (told_by reply) old.bases new.bases acted.runs distinct

pub promises : {E : Type 0} (command : Command) (old : Clustered) (result : Result Reply E) (new : Clustered) →
    IfOk result (λ reply. Moves command old reply new) → Promises command old result new
promises command old (Ok reply) new moves = record {
  steps = steps command old reply new moves;
  cause = moves_caused command old reply new moves;
  certain = moves_certain command old reply new moves;
  quiet = moves_quiet command old reply new moves;
  distinct = moves_distinct command old reply new moves;
  subscribes = λ spoken. subscribes command old reply new spoken (steps command old reply new moves);
}
promises command old (Err e) new moves =
    record { steps = tt; cause = tt; certain = tt; quiet = tt; distinct = λ distinct. tt; subscribes = λ spoken. tt }

-- what is promised of the making of a database that did this
pub record MakingPromises (name : List ℕ) (kept : Kept) (old : Clustered) (reply : Reply) (new : Clustered) : Type 0
  where
    pub adopts : Adopts name kept old reply new
    pub makes : kept.held ≡ Some nothing → Makes name old reply new
    pub done : kept.held ≡ Some nothing → kept.can_fail ≡ Some 0 → reply ≡ Accepted Done
    pub cause : MakingReplyCaused name kept reply old new
    pub certain : MakesCertain kept old reply new
    pub quiet : StaysQuiet reply old new
    pub distinct : find_named name old.bases ≡ None → AreDistinct old.bases → AreDistinct new.bases
    pub subscribes : kept.held ≡ Some nothing → SubscribesMade name old reply new

adopts_distinct : (name : List ℕ) (kept : Kept) (old : Clustered) (reply : Reply) (new : Clustered) →
    Adopts name kept old reply new → find_named name old.bases ≡ None → AreDistinct old.bases → AreDistinct new.bases
adopts_distinct name kept old reply new (Rejects b made told same) free distinct =
    subst (λ (c : Clustered). AreDistinct c.bases) (sym same) distinct
adopts_distinct name kept old reply new (Keeps b result made memory kept_it told same) free distinct =
    subst (λ (c : Clustered). AreDistinct c.bases) (sym same) (distinct_behind name b old.bases free distinct)

pub making_promises : (name : List ℕ) (kept : Kept) (old : Clustered) (reply : Reply) (new : Clustered) →
    Adopts name kept old reply new → MakingPromises name kept old reply new
making_promises name kept old reply new adopts = record {
  adopts = adopts;
  makes = makes name kept old reply new adopts;
  done = adopts_done name kept old reply new adopts;
  cause = adopts_caused name kept old reply new adopts;
  certain = adopts_certain name kept old reply new adopts;
  quiet = adopts_quiet name kept old reply new adopts;
  distinct = adopts_distinct name kept old reply new adopts;
  subscribes = λ empty. subscribes_made name old reply new (makes name kept old reply new adopts empty);
}
