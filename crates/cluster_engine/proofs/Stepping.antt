-- From what the calls on the databases of a session do follow steps that the rules allow.
use Rattle.std.proofs.Common.{◌≡◌, ◌∙◌, ◌<◌, ◌&&◌, not, ℕ, zero, suc, Bool, true, false, cond, List, [], ◌∷◌, length}
use Rattle.std.proofs.Common.{drop, Option}
use Rattle.std.proofs.Common.{Some, None, is_some, Result, Ok, Err, refl, sym, ap, subst, true≢false, arith}
use Rattle.slon_base.specs.Keeper.{Kept, nothing}
use Rattle.slonik_script.specs.declared.script.Command.{Command as Order}
use Rattle.slonik_script.specs.declared.script.Command.TheVariants as order
use Rattle.slonik_script.specs.declared.script.Statement.{Statement}
use Rattle.slonik_script.specs.declared.script.Statement.TheVariants.{Single, Try as Tries}
use Rattle.slon_model.specs.declared.fault.DbFault.{DbFault}
use Rattle.slon_model.specs.declared.fault.DbFault.TheVariants.{NotEmpty}
use Rattle.slon_model.specs.declared.command.Command.{Command}
use Rattle.slon_model.specs.declared.command.Command.TheVariants.{Database}
use Rattle.slon_model.specs.declared.reading.Reading.TheVariants.{Read, Wrong}
use Rattle.slon_model.specs.declared.reply.Answer.{Answer}
use Rattle.slon_model.specs.declared.reply.Answer.TheVariants.{Done, Echoed}
use Rattle.slon_model.specs.declared.reply.Answered.{Answered}
use Rattle.slon_model.specs.declared.reply.Answered.TheVariants.{Sure}
use Rattle.slon_model.specs.declared.reply.Refusal.{Refusal}
use Rattle.slon_model.specs.declared.reply.Refusal.TheVariants as refused
use Rattle.slon_model.specs.declared.reply.Reply.{Reply}
use Rattle.slon_model.specs.declared.reply.Reply.TheVariants.{Accepted, Refused}
use Rattle.slon_model.specs.Names.{find_named}
use Rattle.slon_model.specs.Tasks.{Task, ToFound, Act, ToRead, ToStep, ToForget, ToStart, ToStop, ToCut, ToJoin, ToSync}
use Rattle.slon_model.specs.Tasks.{ToListen, ToFetch, ToWork}
use Rattle.slon_model.specs.Tasks.{Subject, OnNew, OnOne, OnAll, Words, words_of}
use Rattle.slon_model.specs.Place.{Place, bare_place}
use Rattle.slon_model.specs.Moves.{commits_at}
use Rattle.slon_model.specs.Deciding.{Decision, Refuses, Accepts as Agreed, Overflows, decide, result_of, move_of, sure}
use Rattle.slon_model.specs.Deciding.{unsure, Fate, AllStand, Breaks, DoubtsAt}
use Rattle.slon_model.specs.Deciding.{Choice, AsDue, AtFault, Wavers, Among, result_by, place_by, Takes}
use Rattle.slon_model.specs.Sessions.{Memory, Running, Commit, Stated, Outcome, Excess, no_change, excess_of}
use Rattle.slon_model.specs.Scripts.{Stepping, quiet, done_by, single, ordered, order_step, step_todo, step_of, read_as}
use Rattle.slon_model.specs.Scripts.{kill_of}
use Rattle.slon_model.specs.Turns.{at_node, switched_at, turned, turned_by, taken_turn, sync_turn}
use Rattle.slon_model.specs.Polls.{polled}
use Rattle.slon_model.specs.Working.{Carried, applied_by, fetched, fetched_by, taken_from, with_fetch, work_ended}
use Rattle.slon_model.specs.Working.{worked}
use Rattle.slon_model.specs.World.{World, Happening, Step, Grants as StepGrants, Denies as StepDenies}
use Rattle.slon_model.specs.World.{Misses as StepMisses, Asks as StepAsks, database_due, due, due_on, ask, asked, after}
use Rattle.slon_model.specs.World.{Acts as StepActs, after_on, adopted, changed, is_accepted, reply_of, outcome}
use Rattle.slon_model.specs.World.{MayEnd, reply_by, world_by, doubt_reply}
use Rattle.slon_model.proofs.Names.{all_found, found_behind}
use Rattle.slon_laws.specs.Sound.{Sound}
use Rattle.slon_laws.specs.Spelled.{IsSpelled}
use Rattle.app_store.specs.Base.{Base}
use Rattle.app_store.specs.Fits.{Ready}
use Rattle.app_store.specs.Serves.{Founds, is_failure, trouble, settled}
use Rattle.slonik_exec.proofs.Seats.{same_up}
use Rattle.slonik_exec.proofs.Lists.{Fitting, fitting, missing_fits, same_length}
use Rattle.slon_turns.specs.Holding.{Holdings}
use Rattle.cluster_engine.specs.Agreed.{Agrees, AllKnown, Clustered, Follows}
use Rattle.cluster_engine.specs.Calls.{grant, Moves, Grants, Misses, Asks, Acts, StepsOn, Steps, fused, is_sure_reply}
use Rattle.cluster_engine.specs.Calls.{Adopts, Rejects, Keeps, Makes, Obeys, happened, with_base}
use Rattle.cluster_engine.proofs.Knowing.{known_behind, known_recalled, known_stay, past_of}
use Rattle.cluster_engine.proofs.Lifting.{same_some, fits_more}
use Rattle.cluster_engine.proofs.Moving.{IsGranted}
use Rattle.cluster_engine.proofs.Certain.{never_fails}
use Rattle.cluster_engine.proofs.Recalling.{recalled_fits}

-- ---- steps that the rules allow

granted_due : (name : List ℕ) (w : World) (c : Clustered) → Agrees w c → grant name c ≡ database_due name w
granted_due name w c agrees = rw (
  same_some name w.places c.bases agrees.fits,
  same_length w.places c.bases agrees.fits,
  agrees.limit,
) refl

-- what is known still is behind a step
known_behind_step : {w v : World} {c : Clustered} {h : Happening} → Follows w c → Step w h v → (held : Holdings) →
    AllKnown w held → AllKnown v held
known_behind_step {v = v} {h = h} follows step held known = known_stay (past_of follows) v h step held known

-- what is known of the place of a database
ready_place : (name : List ℕ) (b : Base) (w : World) (c : Clustered) → Follows w c →
    (fit : Fitting name w.places c.bases b) → Ready fit.place b
ready_place name b w c follows fit = record {
  fits = fit.fits;
  sound = all_found Sound name fit.place w.places follows.sound fit.found;
  spelled = all_found IsSpelled name fit.place w.places follows.spelled fit.found;
}

pub steps : (command : Command) (old : Clustered) (reply : Reply) (new : Clustered) → Moves command old reply new →
    Steps command old reply new
steps command old reply new (Grants name about told same) w follows =
    subst (λ s. StepsOn s command w reply new) (sym about) (
      told ∙ granted_due name w old follows.agrees ∙ ap (λ s. due_on s w) (sym about),
      subst (Agrees w) (sym same) follows.agrees,
    )
steps command old reply new (Misses name task about none told same) w follows =
    subst (λ s. StepsOn s command w reply new) (sym about) (record {
      choice = AsDue;
      world = w;
      step = StepMisses name task about (missing_fits name w.places old.bases follows.agrees.fits none) refl told refl;
      agrees = subst (Agrees w) (sym same) follows.agrees;
    })
steps command old reply new (Asks s) w follows =
    let fit = fitting s.name s.before w.places old.bases follows.agrees.fits s.found in
    let comes = s.serves.goes fit.place (ready_place s.name s.before w old follows fit) s.memory in
    let place = place_by s.task fit.place comes.0 in
    let kept = recalled_fits s.name old w.memory (record {
      before = s.before;
      behind = s.behind;
      here = s.found;
      was = fit.place;
      now = place;
      was_up = sym (same_up fit.place s.before fit.fits);
      now_up = sym (same_up place s.behind comes.2);
    }) fit.found (record { fits = follows.agrees.memory; keeps = follows.agrees.keeps }) in
    let step : Step w (happened command reply comes.0) (changed s.name place w) = StepAsks (record {
      name = s.name;
      task = s.task;
      place = fit.place;
      result = s.result;
      about = s.about;
      found = fit.found;
      takes = comes.1;
      told = s.told;
      is = refl;
    }) in
    subst (λ subject. StepsOn subject command w reply new) (sym s.about) (record {
      choice = comes.0;
      world = changed s.name place w;
      step = step;
      agrees = subst (Agrees (changed s.name place w)) (sym s.same)
          (record {
            limit = follows.agrees.limit;
            fits = fit.puts place s.behind comes.2;
            memory = kept.fits;
            keeps = kept.keeps;
            known = known_behind_step follows step (with_base s.name s.before s.behind old).memory.held
                (known_recalled w s.name old.memory.held (s.behind.memory.up && not s.before.memory.up)
                follows.agrees.known);
          });
    })
steps command old reply new (Acts act about acted) w follows =
    let acts = acted.goes w follows in
    let step : Step w (happened command reply (Among acts.fate)) (world_by act acts.fate w) = StepActs (record {
      act = act;
      fate = acts.fate;
      about = about;
      chosen = refl;
      may = acts.may;
      told = acts.told;
      is = refl;
    }) in
    subst (λ subject. StepsOn subject command w reply new) (sym about) (record {
      choice = Among acts.fate;
      world = world_by act acts.fate w;
      step = step;
      agrees = record {
        limit = acts.agrees.limit;
        fits = acts.agrees.fits;
        memory = acts.agrees.memory;
        keeps = acts.agrees.keeps;
        known = known_behind_step follows step new.memory.held (acted.learns w follows);
      };
    })

-- ---- a step whose reply tells of no fault is the one that is due

wavers_unsure : (d : Decision) (p : Place) (words : Words) → commits_at (move_of d) p ≡ true →
    is_sure_reply (reply_of words (unsure (result_of d))) ≡ false
wavers_unsure (Refuses fault) p words commits = absurd (true≢false (sym commits))
wavers_unsure (Agreed answer move) p words commits = refl
wavers_unsure Overflows p words commits = absurd (true≢false (sym commits))

sure_choice : (task : Task) (p : Place) (choice : Choice) (result : Result Answered DbFault) (words : Words) →
    Takes task p choice result →
    is_sure_reply (reply_of words result) ≡ true →
    (result ≡ sure (result_of (decide task p))) × (place_by task p choice ≡ place_by task p AsDue)
sure_choice task p (AtFault count also) result words takes certain =
    absurd (true≢false (sym certain ∙ ap (λ r. is_sure_reply (reply_of words r)) takes.told))
sure_choice task p (Wavers stands) result words takes certain =
    absurd (true≢false (sym certain ∙ ap (λ r. is_sure_reply (reply_of words r)) takes.told
    ∙ wavers_unsure (decide task p) p words takes.may))
sure_choice task p others result words takes certain = (takes.told, refl)

accepted_after : (b : Bool) → b ≡ true → (w v : World) → v ≡ cond b v w
accepted_after true is w v = refl
accepted_after false is w v = absurd (true≢false (sym is))

denied_after : (b : Bool) → b ≡ false → (w v : World) → w ≡ cond b v w
denied_after false is w v = refl
denied_after true is w v = absurd (true≢false is)

-- what is due on this subject, and what comes after it
abbrev IsDueOn : World → Reply → World → Subject → Type 0
IsDueOn w reply v s = (reply ≡ due_on s w) × (v ≡ after_on s w)

-- a step that commits is accepted
data MayCommit (o : Outcome) : Type 0 where
  Never : o.commits ≡ [] → MayCommit o
  Accepts : (answer : Answer) → o.reply ≡ Accepted answer → MayCommit o

done_commits : (s : Stepping) (w : World) (stated : Stated) (found : Option Excess) →
    MayCommit (done_by s w stated found)
done_commits s w stated None = Accepts stated.answer refl
done_commits s w stated (Some e) = Never refl

single_commits : (s : Stepping) (w : World) (due : Result Stated Refusal) → MayCommit (single s w due)
single_commits s w (Err refusal) = Never refl
single_commits s w (Ok stated) = done_commits s w stated (excess_of stated.commits w.places)

order_commits : (s : Stepping) (w : World) (o : Order) → MayCommit (order_step s w o)
order_commits s w (order.Echo text) = single_commits s w (Ok (quiet (Echoed text)))
order_commits s w (order.Exit status) = Never refl
order_commits s w others = single_commits s w (ordered others s.run w)

todo_commits : (name : List ℕ) (run : Running) (todo : List Statement) (w : World) →
    MayCommit (step_todo name run todo w)
todo_commits name run [] w = Never refl
todo_commits name run (Single o ∷ rest) w = order_commits (record { name = name; run = run; rest = rest }) w o
todo_commits name run (Tries block ∷ rest) w = Never refl

switched_commits : (node : ℕ) (m : List ℕ → Memory) (o : Option (List ℕ × Place)) (w : World) →
    MayCommit (switched_at node m o w)
switched_commits node m None w = Never refl
switched_commits node m (Some e) w = Never refl

turned_commits : (w : World) (m : Memory) (stated : Stated) → MayCommit (turned w m stated)
turned_commits w m stated = by (excess_of stated.commits w.places)
  where
    by : (o : Option Excess) → MayCommit (turned_by w m stated o)
    by None = Accepts stated.answer refl
    by (Some e) = Never refl

taken_commits : {X : Type 0} (w : World) (left : X → Memory) (stated : X → Stated) (due : Result X Refusal) →
    MayCommit (taken_turn w left stated due)
taken_commits w left stated (Err refusal) = Never refl
taken_commits w left stated (Ok x) = turned_commits w (left x) (stated x)

work_commits : (node origin : ℕ) (w : World) (due : Result Carried Refusal) → MayCommit (work_ended node origin w due)
work_commits node origin w (Err (refused.Busy xid)) = Never refl
work_commits node origin w others = taken_commits w (λ c. taken_from c w.memory) applied_by others

act_commits : (act : Act) (w : World) → MayCommit (outcome act w)
act_commits (ToRead name (Wrong refusal)) w =
    elim (is_some (find_named name w.memory.scripts)) as (λ b. MayCommit (cond b
    (no_change w (Refused (refused.ScriptUsed name))) (read_as name (Wrong refusal) w))) [
      | true ↦ Never refl
      | false ↦ Never refl
    ]
act_commits (ToRead name (Read script)) w =
    elim (is_some (find_named name w.memory.scripts)) as (λ b. MayCommit (cond b
    (no_change w (Refused (refused.ScriptUsed name))) (read_as name (Read script) w))) [
      | true ↦ Never refl
      | false ↦ Never refl
    ]
act_commits (ToStep name) w =
    elim (find_named name w.memory.scripts) as (λ o. MayCommit (step_of name o w)) [
      | None ↦ Never refl
      | Some run ↦ todo_commits name run run.todo w
    ]
act_commits (ToForget name) w =
    elim (find_named name w.memory.scripts) as (λ o. MayCommit (kill_of name o w)) [
      | None ↦ Never refl
      | Some run ↦ Never refl
    ]
act_commits (ToStart node) w = switched_commits node _ (at_node node w) w
act_commits (ToStop node) w = switched_commits node _ (at_node node w) w
act_commits (ToCut node other) w = Never refl
act_commits (ToJoin node other) w = Never refl
act_commits (ToSync node) w = taken_commits w _ _ (sync_turn node w)
act_commits (ToListen node server delivery) w = taken_commits w _ _ (polled node server w)
act_commits (ToFetch node origin) w =
    taken_commits w (λ x. with_fetch x w.memory) fetched_by (fetched node origin w)
act_commits (ToWork node origin) w = work_commits node origin w (worked node origin w)

-- a doubt is told where a step commits
doubt_unsure : (before : ℕ) (cs : List Commit) (answer : Answer) → before < length cs →
    is_sure_reply (doubt_reply (drop before cs) (Accepted answer)) ≡ false
doubt_unsure before [] answer less = absurd (omega (arith, less))
doubt_unsure zero (c ∷ cs) answer less = refl
doubt_unsure (suc n) (c ∷ cs) answer less = doubt_unsure n cs answer (omega (arith, less))

doubted_unsure : (before : ℕ) (o : Outcome) → before < length o.commits → MayCommit o →
    is_sure_reply (doubt_reply (drop before o.commits) o.reply) ≡ false
doubted_unsure before o less (Never none) =
    absurd (omega (arith, subst (λ (cs : List Commit). before < length cs) none less))
doubted_unsure before o less (Accepts answer is) =
    ap (λ r. is_sure_reply (doubt_reply (drop before o.commits) r)) is ∙ doubt_unsure before o.commits answer less

-- a script whose reply tells of no fault and no doubt
sure_act : (w : World) (act : Act) (fate : Fate) (reply : Reply) (v : World) → MayEnd act fate w →
    (reply ≡ reply_by act fate w) × (v ≡ world_by act fate w) → is_sure_reply reply ≡ true →
    IsDueOn w reply v (OnAll act)
sure_act w act AllStand reply v may (told, is) certain = (told, is)
sure_act w act (Breaks name count) reply v may (told, is) certain =
    absurd (true≢false (sym certain ∙ ap is_sure_reply told))
sure_act w act (DoubtsAt before stands) reply v may (told, is) certain =
    absurd (true≢false (sym certain ∙ ap is_sure_reply told
    ∙ doubted_unsure before (outcome act w) may (act_commits act w)))

pub sure_step : (w v : World) (h : Happening) → Step w h v → is_sure_reply h.reply ≡ true →
    (h.reply ≡ due w h.command) × (v ≡ after w h.command)
sure_step w v h (StepGrants name result about done takes told same) certain =
    let place = sure_choice ToFound bare_place h.choice result (words_of (OnNew name)) takes
    (sym (ap is_sure_reply told) ∙ certain) in
    subst (IsDueOn w h.reply v) (sym about) (
      told ∙ ap (reply_of (words_of (OnNew name))) place.0 ∙ sym done,
      same ∙ ap (λ q. adopted name q w) place.1
          ∙ accepted_after (is_accepted (database_due name w)) (ap is_accepted done) w
          (adopted name (place_by ToFound bare_place AsDue) w),
    )
sure_step w v h (StepDenies name about denied chosen told same) certain =
    subst (IsDueOn w h.reply v) (sym about) (
      told,
      same ∙ denied_after (is_accepted (database_due name w)) denied w
          (adopted name (place_by ToFound bare_place AsDue) w),
    )
sure_step w v h (StepMisses name task about none chosen told same) certain =
    subst (IsDueOn w h.reply v) (sym about)
    (told ∙ sym (ap (ask (words_of (OnOne name task)) task) none), same ∙ sym (ap (λ p. asked name task p w) none))
sure_step w v h (StepAsks t) certain =
    let words = words_of (OnOne t.name t.task) in
    let place = sure_choice t.task t.place h.choice t.result words t.takes (sym (ap is_sure_reply t.told) ∙ certain) in
    subst (IsDueOn w h.reply v) (sym t.about) (
      t.told ∙ ap (reply_of words) place.0 ∙ sym (ap (ask words t.task) t.found),
      t.is ∙ ap (λ q. changed t.name q w) place.1 ∙ sym (ap (λ o. asked t.name t.task o w) t.found),
    )
sure_step w v h (StepActs t) certain =
    subst (IsDueOn w h.reply v) (sym t.about) (sure_act w t.act t.fate h.reply v t.may (t.told, t.is) certain)

-- ---- a new database

never_not_empty : (choice : Choice) → Err NotEmpty ≡ result_by ToFound bare_place choice → ⊥
never_not_empty (AtFault count also) is = cc
never_not_empty others is = cc

-- an empty store is not refused
pub never_empty : (kept : Kept) (b : Base) → Founds (fused kept) (Err NotEmpty) b → kept.held ≡ Some nothing → ⊥
never_empty kept b founds empty = let comes = founds.begins empty refl in never_not_empty comes.0 comes.1.told

pub makes : (name : List ℕ) (kept : Kept) (old : Clustered) (reply : Reply) (new : Clustered) →
    Adopts name kept old reply new → kept.held ≡ Some nothing →
    Makes name old reply new
makes name kept old reply new (Rejects b made told same) empty w agrees done =
    absurd (never_empty kept b made.founds empty)
makes name kept old reply new (Keeps b result made memory kept_it told same) empty w agrees done =
    let comes = made.founds.begins empty memory in
    record {
      choice = comes.0;
      world = adopted name (place_by ToFound bare_place comes.0) w;
      step = StepGrants name (settled result) refl done comes.1 told refl;
      agrees = subst (Agrees (adopted name (place_by ToFound bare_place comes.0) w)) (sym same)
          (record {
            limit = agrees.limit;
            fits = fits_more name
                (place_by ToFound bare_place comes.0) b w.places old.bases agrees.fits comes.2;
            memory = agrees.memory;
            keeps = λ other up. agrees.keeps other (λ d is. up d (found_behind other name b d old.bases is));
            known = known_behind w (adopted name (place_by ToFound bare_place comes.0) w)
                (λ other p found. found_behind other name (place_by ToFound bare_place comes.0) p w.places found)
                old.memory.held agrees.known;
          });
    }

-- over a store that is empty and cannot fail it is made
sure_begun : (choice : Choice) (result : Result Answered DbFault) → result ≡ result_by ToFound bare_place choice →
    is_failure (trouble result) ≡ false → result ≡ Ok (Sure Done)
sure_begun (AtFault count also) result told certain = absurd
    (true≢false (sym (ap (λ r. is_failure (trouble r)) told) ∙ certain))
sure_begun (Wavers stands) result told certain = absurd
    (true≢false (sym (ap (λ r. is_failure (trouble r)) told) ∙ certain))
sure_begun others result told certain = told

pub adopts_done : (name : List ℕ) (kept : Kept) (old : Clustered) (reply : Reply) (new : Clustered) →
    Adopts name kept old reply new → kept.held ≡ Some nothing →
    kept.can_fail ≡ Some 0 → reply ≡ Accepted Done
adopts_done name kept old reply new (Rejects b made told same) empty never =
    absurd (never_empty kept b made.founds empty)
adopts_done name kept old reply new (Keeps b result made memory kept_it told same) empty never =
    let comes = made.founds.begins empty memory in
    told ∙ ap (reply_of (words_of (OnNew name)))
    (sure_begun comes.0 (settled result) comes.1.told
    (never_fails (is_failure (trouble (settled result))) kept.can_fail b.kept.can_fail made.founds.spends never))

-- a database that was not granted
denied_on : (name : List ℕ) (old : Clustered) (reply : Reply) (new : Clustered) → Steps (Database name) old reply new →
    is_accepted reply ≡ false →
    Obeys (Database name) old reply new
denied_on name old reply new goes refusal w follows =
    let here = goes w follows in
    record {
      choice = AsDue;
      world = w;
      step = StepDenies name refl
          (sym (ap is_accepted here.0) ∙ refusal) refl here.0 refl;
      agrees = here.1;
    }

pub denied : (name : List ℕ) (command : Command) (old : Clustered) (reply : Reply) (new : Clustered) →
    command ≡ Database name →
    Steps command old reply new → is_accepted reply ≡ false → Obeys command old reply new
denied name command old reply new is goes refusal =
    subst (λ c. Obeys c old reply new) (sym is) (denied_on name old reply new
    (subst (λ c. Steps c old reply new) is goes) refusal)

-- a database that was granted and is made
pub obeys_made : (name : List ℕ) (old mid : Clustered) (reply : Reply) (new : Clustered) → IsGranted name old mid →
    Makes name mid reply new →
    Obeys (Database name) old reply new
obeys_made name old mid reply new was makes_it w follows =
    makes_it w (subst (Agrees w) (sym was.same) follows.agrees) (sym (granted_due name w old follows.agrees) ∙ was.done)

-- a command that makes no database
pub obeys_other : (command : Command) (old : Clustered) (reply : Reply) (new : Clustered) →
    ((name : List ℕ) → command ≡ Database name → ⊥) → Steps command old reply new → Obeys command old reply new
obeys_other (Database name) old reply new other goes = absurd (other name refl)
obeys_other others old reply new other goes = goes
