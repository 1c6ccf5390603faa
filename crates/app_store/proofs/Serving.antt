-- What a task promises over every store, by how its last call on the store ended.
use Rattle.std.proofs.Common.{inl, inr, ◌≡◌, ℕ, ◌+◌, ◌≤◌, Bool, true, false, cond, Option, Some, None, Result, Ok, Err}
use Rattle.std.proofs.Common.{refl, sym, ap, subst, ◌∙◌, arith}
use Rattle.std.proofs.lemmas.Bool.{false≢true, true≢false, lt-leb}
use Rattle.std.specs.Prelude.{◌<◌, ◌||◌, nat_le, unwrap_or}
use Rattle.slon_model.specs.Place.{Place, block}
use Rattle.slon_model.specs.Deciding.{decide, calls_up}
use Rattle.slon_model.specs.Moves.{stored_limit}
use Rattle.app_store.specs.Works.{is_past, HasPair}
use Rattle.store_rows.proofs.Causes.{stays}
use Rattle.slon_base.specs.Charges.{IsFrom, KeepsTold}
use Rattle.slon_base.specs.Counts.{Rose}
use Rattle.slon_base.specs.declared.charge.Charge.{Charge}
use Rattle.slon_base.specs.declared.charge.Charge.TheVariants.{Off}
use Rattle.node_keeper.specs.Fused.{told_so}
use Rattle.slon_base.specs.Keeper.{Kept, Store, RollsBack}
use Rattle.slon_base.specs.declared.fault.KeepFault.{KeepFault}
use Rattle.slon_base.specs.declared.fault.Halt.{Halt}
use Rattle.slon_base.specs.declared.fault.Halt.TheVariants.{Fault, Doubt, TooBig}
use Rattle.slon_model.specs.declared.fault.DbFault.{DbFault}
use Rattle.slon_model.specs.declared.fault.DbFault.TheVariants.{Halt as Halts}
use Rattle.slon_model.specs.declared.reply.Answer.{Answer}
use Rattle.slon_model.specs.declared.reply.Answered.{Answered}
use Rattle.slon_model.specs.declared.reply.Answered.TheVariants.{Sure, InDoubt}
use Rattle.slon_model.specs.declared.command.Crash.{Crash as CrashKind}
use Rattle.slon_model.specs.declared.reply.Answer.TheVariants.{Done as IsDone}
use Rattle.slon_model.specs.Tasks.{Task, ToFound, ToCrash, ToRise}
use Rattle.slon_model.specs.World.{halt_in}
use Rattle.store_rows.specs.declared.stop.Stop.{Stop}
use Rattle.store_rows.specs.declared.stop.Stop.TheVariants.{Failed as StopFailed, NoMemory as StopNoMemory}
use Rattle.store_rows.specs.declared.stop.Stop.TheVariants.{TooBig as StopTooBig}
use Rattle.app_store.specs.declared.transact.Made.{Made}
use Rattle.app_store.specs.declared.transact.Made.TheVariants.{Done, InDoubt as MadeInDoubt}
use Rattle.app_store.specs.Base.{Memory, Base, GoesDown}
use Rattle.app_store.specs.Serves.{arms, armed_by, charged, Comes, Goes, Caused, Serves, Falls, trouble, halts}
use Rattle.app_store.specs.Serves.{is_failure, prepares, Need, NeedsNothing, Begins, Rejects, Founds}
use Rattle.app_store.specs.Serves.{IsRefusal, IsNeeded, IsBig, need_of, settled}
use Rattle.app_store.specs.Parts.{FellTo, Part, PartCaused, halt_of}
use Rattle.store_rows.specs.Spending.{Stays, Spends, IsUpTo}
use Rattle.store_rows.specs.Steps.{IsWithinLimit, IsOutside, is_stop_failed, is_failed}
use Rattle.app_store.specs.Steps.{Knows, IsSure, IsCounted, Tries, TriesOr, Looks, fails_made_or}
use Rattle.app_store.specs.Targets.{StopsAt}
use Rattle.app_store.proofs.Pending.{knows_none, knows_on}
use Rattle.app_store.proofs.Standing.{followed, fell_plain, rose_from}
use Rattle.app_store.proofs.Upright.{UpAt, running}

-- ---- how work on a store ended

-- its count of faults only rises, and did where a call failed; and what is known of its failures
pub record Ran (failed : Bool) (old new : Kept) : Type 0 where
  pub later : old.faults ≤ new.faults
  pub rose : failed ≡ true → Rose old.faults new.faults
  pub sure : Knows failed old new

pub ran_not : (k : Kept) → Ran false k k
ran_not k = record { later = omega arith; rose = λ failed. absurd (false≢true failed); sure = knows_none k }

pub ran_sure : {T : Type 0} {old new : Kept} {result : Result T Stop} → IsSure old new result →
    IsCounted old new result → Ran (is_failed result) old new
ran_sure sure counted = record { later = counted.later; rose = counted.failed; sure = sure }

pub ran_looks : {T : Type 0} {P : Store → Result T Stop → Type 0} {old new : Kept} {result : Result T Stop} →
    Looks P old new result → Ran (is_failed result) old new
ran_looks looks = ran_sure looks.sure looks.counted

-- ---- tasks

-- The same of work in which something may have failed untold, or the store was told otherwise.
pub record Worked (failed : Bool) (old new : Kept) : Type 0 where
  pub later : old.faults ≤ new.faults
  pub rose : failed ≡ true → Rose old.faults new.faults
  pub still : Stays old.can_fail new.can_fail
  pub spends : Spends failed old.can_fail new.can_fail

-- how a database that is up begins a task that tells its fuse nothing new
abbrev pub IsBegun : Task → Base → Result Answered DbFault → Type 0
IsBegun task old result = (old.memory.up ≡ true) × (charged task result old.kept.told ≡ old.kept.told)

begun_told : (task : Task) (old new : Base) (result : Result Answered DbFault) →
    charged task result old.kept.told ≡ old.kept.told →
    KeepsTold old.kept.told new.kept.told → KeepsTold (charged task result old.kept.told) new.kept.told
begun_told task old new result same keeps = subst (λ c. KeepsTold c new.kept.told) (sym same) keeps

not_down : (old : Base) {P : Type 0} → old.memory.up ≡ true → old.memory.up ≡ false → P
not_down old up down = absurd (false≢true (sym down ∙ up))

-- nothing failed
pub serves_well : (task : Task) (old new : Base) (result : Result Answered DbFault) → IsBegun task old result →
    trouble result ≡ None → Ran false old.kept new.kept → Goes task old result new → Serves task old result new
serves_well task old new result (up, same) none ran goes = record {
  goes = goes;
  later = ran.later;
  caused = subst (λ t. Caused task old.kept t new.kept) (sym none) tt;
  still = λ quiet. ran.sure.still;
  spends = λ failed. absurd (false≢true (sym (ap is_failure none) ∙ failed));
  quiet = λ other calm. ran.sure.quiet refl;
  falls = subst (λ t. Falls t new.memory) (sym none) tt;
  told = begun_told task old new result same ran.sure.told;
  down = λ down other. not_down old up down;
  big = subst (λ t. IsBig (need_of task) t new.memory) (sym none) tt;
}

-- the memory of a database that went down is down
pub stop_caused : (task : Task) (old new : Kept) (stop : Stop) →
    (is_stop_failed stop ≡ true → Rose old.faults new.faults) → (prepares task ≡ false → new.doubts ≡ old.doubts) →
    Caused task old (halt_in (halt_of stop new.faults)) new
stop_caused task old new StopFailed rose doubts = (rose refl, refl, doubts)
stop_caused task old new others rose doubts = tt

stop_failure : (stop : Stop) (count : ℕ) → is_failure (halt_in (halt_of stop count)) ≡ is_stop_failed stop
stop_failure StopFailed count = refl
stop_failure others count = refl

pub fault_failure : (stop : Stop) (fault : DbFault) (count : ℕ) → fault ≡ halt_of stop count →
    is_failure (halt_in fault) ≡ is_stop_failed stop
fault_failure stop fault count is = ap (λ f. is_failure (halt_in f)) is ∙ stop_failure stop count

pub stop_small : (need : Need) (m : Memory) (stop : Stop) (count : ℕ) → IsWithinLimit stop →
    IsBig need (halt_in (halt_of stop count)) m
stop_small need m (StopTooBig space) count within = absurd within
stop_small need m others count within = tt

pub stop_falls : (m : Memory) (stop : Stop) (count : ℕ) → m.up ≡ false → Falls (halt_in (halt_of stop count)) m
stop_falls m StopNoMemory count down = tt
stop_falls m others count down = down

-- Work on the store stopped, and the database is down.
pub record Halted (task : Task) (old new : Base) (stop : Stop) (fault : DbFault) : Type 0 where
  pub fault_is : fault ≡ halt_of stop new.kept.faults
  pub within : IsWithinLimit stop
  pub ran : Ran (is_stop_failed stop) old.kept new.kept
  pub doubts : prepares task ≡ false → new.kept.doubts ≡ old.kept.doubts
  pub fell : new.memory.up ≡ false

pub serves_stop : (task : Task) (old new : Base) (stop : Stop) (fault : DbFault) → IsBegun task old (Err fault) →
    Halted task old new stop fault → Goes task old (Err fault) new → Serves task old (Err fault) new
serves_stop task old new stop fault (up, same) h goes = record {
  goes = goes;
  later = h.ran.later;
  caused = subst (λ f. Caused task old.kept (halt_in f) new.kept) (sym h.fault_is)
      (stop_caused task old.kept new.kept stop h.ran.rose h.doubts);
  still = λ quiet. h.ran.sure.still;
  spends = λ failed. h.ran.sure.spends (sym (fault_failure stop fault new.kept.faults h.fault_is) ∙ failed);
  quiet = λ other calm. h.ran.sure.quiet (sym (fault_failure stop fault new.kept.faults h.fault_is) ∙ calm);
  falls = subst (λ f. Falls (halt_in f) new.memory) (sym h.fault_is)
      (stop_falls new.memory stop new.kept.faults h.fell);
  told = begun_told task old new (Err fault) same h.ran.sure.told;
  down = λ down other. not_down old up down;
  big = subst (λ f. IsBig (need_of task) (halt_in f) new.memory) (sym h.fault_is)
      (stop_small (need_of task) new.memory stop new.kept.faults h.within);
}

-- a number that would be stored is too big, and the database is down
pub record Bursts (need : Need) (old new : Base) (fault : DbFault) : Type 0 where
  pub fault_is : fault ≡ Halts (TooBig 1)
  pub ran : Ran false old.kept new.kept
  pub needed : IsNeeded need new.memory
  pub fell : new.memory.up ≡ false

pub serves_big : (task : Task) (old new : Base) (fault : DbFault) → IsBegun task old (Err (Halts (TooBig 1))) →
    Bursts (need_of task) old new fault → Goes task old (Err (Halts (TooBig 1))) new → Serves task old (Err fault) new
serves_big task old new fault (up, same) b goes = subst (λ f. Serves task old (Err f) new) (sym b.fault_is) (record {
  goes = goes;
  later = b.ran.later;
  caused = tt;
  still = λ quiet. b.ran.sure.still;
  spends = λ failed. absurd (false≢true failed);
  quiet = λ other calm. b.ran.sure.quiet refl;
  falls = b.fell;
  told = begun_told task old new (Err (Halts (TooBig 1))) same b.ran.sure.told;
  down = λ down other. not_down old up down;
  big = (refl, b.needed, b.fell);
})

-- the same where a doubt is told as a fault
pub settled_stop : (stop : Stop) (fault : DbFault) (count : ℕ) → fault ≡ halt_of stop count →
    settled (Err fault) ≡ Err fault
settled_stop stop fault count is = ap (λ f. settled (Err f)) is ∙ by stop ∙ ap (λ f. Err f) (sym is)
  where
    by : (stop : Stop) → settled (Err (halt_of stop count)) ≡ Err (halt_of stop count)
    by StopFailed = refl
    by others = refl

pub settled_big : (fault : DbFault) → fault ≡ Halts (TooBig 1) → settled (Err fault) ≡ Err fault
settled_big fault is = ap (λ f. settled (Err f)) is ∙ ap (λ f. Err f) (sym is)

pub serves_settled : (task : Task) (old new : Base) (fault : DbFault) → settled (Err fault) ≡ Err fault →
    Serves task old (Err fault) new → Serves task old (settled (Err fault)) new
serves_settled task old new fault is serves = subst (λ r. Serves task old r new) (sym is) serves

-- a commit is in doubt, and the database is down
pub record Doubted (old new : Base) : Type 0 where
  pub ran : Ran true old.kept new.kept
  pub doubts : Rose old.kept.doubts new.kept.doubts
  pub fell : new.memory.up ≡ false

pub serves_doubt : (task : Task) (old new : Base) (answer : Answer) → IsBegun task old (Ok (InDoubt answer)) →
    Doubted old new →
    Goes task old (Ok (InDoubt answer)) new → Serves task old (Ok (InDoubt answer)) new
serves_doubt task old new answer (up, same) d goes = record {
  goes = goes;
  later = d.ran.later;
  caused = (d.ran.rose refl, d.doubts);
  still = λ quiet. d.ran.sure.still;
  spends = λ failed. d.ran.sure.spends refl;
  quiet = λ other calm. absurd (false≢true (sym calm));
  falls = d.fell;
  told = begun_told task old new (Ok (InDoubt answer)) same d.ran.sure.told;
  down = λ down other. not_down old up down;
  big = tt;
}

-- ---- parts

part_caused : (old new : Kept) (stop : Stop) → Ran (is_stop_failed stop) old new →
    PartCaused old (halt_in (halt_of stop new.faults)) new
part_caused old new StopFailed ran = (ran.rose refl, refl)
part_caused old new others ran = tt

-- a part that stopped at the store
pub part_stop : {T : Type 0} (need : Need) (old new : Base) (stop : Stop) (fault : DbFault) →
    (fault ≡ halt_of stop new.kept.faults) × IsWithinLimit stop × (new.memory.up ≡ false) →
    Ran (is_stop_failed stop) old.kept new.kept → Part {T = T} need old new (Err fault)
part_stop need old new stop fault (is, within, fell) ran = record {
  later = ran.later;
  caused = subst (λ f. PartCaused old.kept (halt_in f) new.kept) (sym is) (part_caused old.kept new.kept stop ran);
  knows = subst (λ failed. Knows failed old.kept new.kept) (sym (fault_failure stop fault new.kept.faults is)) ran.sure;
  falls = subst (λ f. Falls (halt_in f) new.memory) (sym is) (stop_falls new.memory stop new.kept.faults fell);
  big = subst (λ f. IsBig need (halt_in f) new.memory) (sym is)
      (stop_small need new.memory stop new.kept.faults within);
}

sooner : (old mid new : Kept) (t : Option Halt) → old.faults ≤ mid.faults → PartCaused mid t new → PartCaused old t new
sooner old mid new (Some (Fault count)) later caused = (rose_from later caused.0, caused.1)
sooner old mid new (Some Doubt) later caused = caused
sooner old mid new others later caused = tt

nothing_big : (need : Need) (t : Option Halt) (m : Memory) → IsBig NeedsNothing t m → IsBig need t m
nothing_big need (Some (TooBig space)) m big = absurd big.1
nothing_big need others m big = tt

-- a look that stopped ends a larger part
pub part_needs : {T : Type 0} (need : Need) (old new : Base) (result : Result T DbFault) →
    Part NeedsNothing old new result → Part need old new result
part_needs need old new result part = record {
  later = part.later;
  caused = part.caused;
  knows = part.knows;
  falls = part.falls;
  big = nothing_big need (halts result) new.memory part.big;
}

-- One part after another, of which the first was done.
pub part_then : {T U : Type 0} (need : Need) (old mid new : Base) (x : T) (result : Result U DbFault) →
    Part NeedsNothing old mid (Ok x) → Part need mid new result → Part need old new result
part_then need old mid new x result first second = record {
  later = omega (arith, first.later, second.later);
  caused = sooner old.kept mid.kept new.kept (halts result) first.later second.caused;
  knows = knows_on first.knows second.knows;
  falls = second.falls;
  big = second.big;
}

-- ---- a task that ends as its last part did

part_causes : (task : Task) (old new : Kept) (t : Option Halt) → prepares task ≡ true → PartCaused old t new →
    Caused task old t new
part_causes task old new (Some (Fault count)) is caused =
    (caused.0, caused.1, λ other. absurd (false≢true (sym other ∙ is)))
part_causes task old new (Some Doubt) is caused = absurd caused
part_causes task old new others is caused = tt

-- what a part answered, as the answer to its task: no part leaves a commit in doubt
pub record Ends {T : Type 0} (task : Task) (old : Base) (part : Result T DbFault) (result : Result Answered DbFault) :
    Type 0 where
  pub begun : IsBegun task old result
  pub prepared : prepares task ≡ true
  pub same : trouble result ≡ halts part

pub serves_part : {T : Type 0} (task : Task) (old new : Base) (part : Result T DbFault)
    (result : Result Answered DbFault) → Ends task old part result → Part (need_of task) old new part →
    Goes task old result new → Serves task old result new
serves_part task old new part result ends promised goes = record {
  goes = goes;
  later = promised.later;
  caused = subst (λ t. Caused task old.kept t new.kept) (sym ends.same)
      (part_causes task old.kept new.kept (halts part) ends.prepared promised.caused);
  still = λ quiet. promised.knows.still;
  spends = λ failed. promised.knows.spends (sym (ap is_failure ends.same) ∙ failed);
  quiet = λ other calm. promised.knows.quiet (sym (ap is_failure ends.same) ∙ calm);
  falls = subst (λ t. Falls t new.memory) (sym ends.same) promised.falls;
  told = begun_told task old new result ends.begun.1 promised.knows.told;
  down = λ down other. not_down old ends.begun.0 down;
  big = subst (λ t. IsBig (need_of task) t new.memory) (sym ends.same) promised.big;
}

-- ---- the limit

-- neither the next stamp nor the ceiling that is lifted passes it
pub not_past : (stamp ceiling : ℕ) → stamp + 1 < stored_limit → ceiling + block < stored_limit →
    is_past stamp ceiling ≡ false
not_past stamp ceiling one other =
    ap (λ b. b || nat_le stored_limit (ceiling + block)) (lt-leb stored_limit (stamp + 1) one)
    ∙ lt-leb stored_limit (ceiling + block) other

-- ---- transactions

-- no commit of it is in doubt
abbrev pub is_calm : Result (Option Made) Stop → Bool
is_calm (Ok (Some MadeInDoubt)) = false
is_calm others = true

calm_failed : (result : Result (Option Made) Stop) → is_calm result ≡ true → fails_made_or result ≡ is_failed result
calm_failed (Ok None) calm = refl
calm_failed (Ok (Some Done)) calm = refl
calm_failed (Ok (Some MadeInDoubt)) calm = absurd (false≢true calm)
calm_failed (Err stop) calm = refl

pub ran_or : {old new : Kept} {result : Result (Option Made) Stop} → is_calm result ≡ true → TriesOr old new result →
    Ran (is_failed result) old new
ran_or {old} {new} {result} calm tries = record {
  later = tries.counted.later;
  rose = tries.counted.failed;
  sure = subst (λ failed. Knows failed old new) (calm_failed result calm) tries.sure;
}

pub ran_or_doubt : {old new : Kept} → TriesOr old new (Ok (Some MadeInDoubt)) → Ran true old new
ran_or_doubt tries = record { later = tries.counted.later; rose = λ _. tries.doubts.0; sure = tries.sure }

pub ran_done : {old new : Kept} → Tries old new (Ok Done) → Ran false old new
ran_done tries = record { later = tries.counted.later; rose = tries.counted.failed; sure = tries.sure }

pub ran_doubt : {old new : Kept} → Tries old new (Ok MadeInDoubt) → Ran true old new
ran_doubt tries = record { later = tries.counted.later; rose = λ _. tries.doubts.0; sure = tries.sure }

pub ran_stop : {old new : Kept} {stop : Stop} → Tries old new (Err stop) → Ran (is_stop_failed stop) old new
ran_stop tries = record { later = tries.counted.later; rose = tries.counted.failed; sure = tries.sure }

-- ---- what calls answered

pub some_actions : (n : ℕ) → (n ≡ 0 → ⊥) → 0 < n
some_actions n differ = omega (arith, differ)

pub none_is : {A : Type 0} (x : A) (b : Bool) → None ≡ cond b (Some x) None → b ≡ false
none_is x true is = absurd cc
none_is x false is = refl

pub some_is : {A : Type 0} (y x : A) (b : Bool) → Some y ≡ cond b (Some x) None → (b ≡ true) × (y ≡ x)
some_is y x true is = (refl, ap (λ o. unwrap_or o y) is)
some_is y x false is = absurd cc

-- what goes down does from wherever the transaction was taken away
pub down_from : {old new : Memory} (from : Memory) → old ≡ record from { opens = old.opens; locks = old.locks } →
    GoesDown old new → GoesDown from new
down_from from same down = record {
  up = down.up;
  doubt = down.doubt ∙ ap (λ m. m.doubt) same;
  stamp = down.stamp ∙ ap (λ m. m.stamp) same;
  xids = down.xids ∙ ap (λ m. m.xids) same;
  numbers = down.numbers ∙ ap (λ m. m.numbers) same;
  closed = down.closed;
  identity = down.identity ∙ ap (λ m. m.identity) same;
  members = down.members ∙ ap (λ m. m.members) same;
}

-- a stop before anything was prepared
pub plain_fell : {p : Place} {b : Base} (task : Task) (fault : DbFault) (new : Base) → UpAt p b →
    calls_up task p.node ≡ true → FellTo p p fault new → Comes task p (Err fault) new
plain_fell {p} task fault new at calls fell =
    followed task p (Err fault) new (running at).0 calls
    (StopsAt fault refl (fell_plain (decide task p) p fault new fell))

-- ---- a database that begins, or whose fuse is told otherwise

-- a rollback; that it fails is not told
pub worked_rollback : {T : Type 0} {old new : Kept} {result : Result T KeepFault} → RollsBack old new result →
    Worked false old new
worked_rollback rolls = record {
  later = rolls.cause.later;
  rose = λ failed. absurd (false≢true failed);
  still = stays rolls.cause;
  spends = λ failed. absurd (false≢true failed);
}

-- work after it
pub worked_on : {old mid new : Kept} {failed : Bool} → Worked false old mid → Ran failed mid new → Worked failed old new
worked_on one two = record {
  later = omega (arith, one.later, two.later);
  rose = λ failed. rose_from one.later (two.rose failed);
  still = λ n most. two.sure.still n (one.still n most);
  spends = λ failed n most. two.sure.spends failed n (one.still n most);
}

-- nothing is told of a store to which a bound is given for the first time
pub worked_told : {failed : Bool} {old mid new : Kept} → mid.faults ≡ old.faults → Stays old.can_fail mid.can_fail →
    Worked failed mid new → Worked failed old new
worked_told {new = new} same still ran = record {
  later = omega (arith, ran.later, same);
  rose = λ failed. subst (λ n. Rose n new.faults) same (ran.rose failed);
  still = λ n most. ran.still n (still n most);
  spends = λ failed n most. ran.spends failed n (still n most);
}

-- A database that was down came up, or its store stopped, and its fuse is told to fail no call.
pub record Risen (failed : Bool) (old new : Base) : Type 0 where
  pub ran : Worked failed old.kept new.kept
  pub told : KeepsTold Off new.kept.told

pub serves_risen : (old new : Base) (answer : Answer) → Risen false old new → Goes ToRise old (Ok (Sure answer)) new →
    Serves ToRise old (Ok (Sure answer)) new
serves_risen old new answer r goes = record {
  goes = goes;
  later = r.ran.later;
  caused = tt;
  still = λ quiet. r.ran.still;
  spends = λ failed. absurd (false≢true failed);
  quiet = λ other. absurd (true≢false other);
  falls = tt;
  told = r.told;
  down = λ down other. absurd (true≢false other);
  big = tt;
}

unrisen : (stop : Stop) (count : ℕ) (charge now : Charge) → KeepsTold Off now →
    KeepsTold (charged ToRise (Err (halt_of stop count)) charge) now
unrisen StopFailed count charge now told = told
unrisen others count charge now told = told

pub serves_unrisen : (old new : Base) (stop : Stop) (fault : DbFault) → Risen (is_stop_failed stop) old new →
    (fault ≡ halt_of stop new.kept.faults) × IsWithinLimit stop × (new.memory.up ≡ false) →
    Goes ToRise old (Err fault) new → Serves ToRise old (Err fault) new
serves_unrisen old new stop fault r (is, within, fell) goes = record {
  goes = goes;
  later = r.ran.later;
  caused = subst (λ f. Caused ToRise old.kept (halt_in f) new.kept) (sym is)
      (stop_caused ToRise old.kept new.kept stop r.ran.rose (λ other. absurd (true≢false other)));
  still = λ quiet. r.ran.still;
  spends = λ failed. r.ran.spends (sym (fault_failure stop fault new.kept.faults is) ∙ failed);
  quiet = λ other. absurd (true≢false other);
  falls = subst (λ f. Falls (halt_in f) new.memory) (sym is) (stop_falls new.memory stop new.kept.faults fell);
  told = subst (λ f. KeepsTold (charged ToRise (Err f) old.kept.told) new.kept.told) (sym is)
      (unrisen stop new.kept.faults old.kept.told new.kept.told r.told);
  down = λ down other. absurd (true≢false other);
  big = subst (λ f. IsBig NeedsNothing (halt_in f) new.memory) (sym is)
      (stop_small NeedsNothing new.memory stop new.kept.faults within);
}

-- a crash that is to come
pub serves_armed : {charge : Charge} (crash : CrashKind) (old new : Base) → arms (ToCrash crash) ≡ true →
    old.memory.up ≡ true →
    (new.kept ≡ told_so charge None old.kept) × (charge ≡ armed_by crash old.kept.told) →
    Goes (ToCrash crash) old (Ok (Sure IsDone)) new → Serves (ToCrash crash) old (Ok (Sure IsDone)) new
serves_armed crash old new armed up (same, is) goes = record {
  goes = goes;
  later = omega (arith, ap (λ k. k.faults) same);
  caused = tt;
  still = λ quiet. absurd (false≢true (sym quiet ∙ armed));
  spends = λ failed. absurd (false≢true failed);
  quiet = λ other calm n most. subst (IsUpTo n) (sym (ap (λ k. k.faults) same)) most;
  falls = tt;
  told = λ c from. subst (IsFrom c) (sym (ap (λ k. k.told) same ∙ is)) from;
  down = λ down other. not_down old up down;
  big = tt;
}

pub founds_well : (kept : Kept) (result : Result Answered DbFault) (new : Base) → trouble result ≡ None →
    Worked false kept new.kept → KeepsTold kept.told new.kept.told → Begins kept result new → Rejects kept result new →
    Founds kept result new
founds_well kept result new none ran told begins rejects = record {
  begins = begins;
  rejects = rejects;
  later = ran.later;
  caused = subst (λ t. Caused ToFound kept t new.kept) (sym none) tt;
  still = ran.still;
  spends = λ failed. absurd (false≢true (sym (ap is_failure none) ∙ failed));
  told = told;
  big = subst (λ t. IsBig NeedsNothing t new.memory) (sym none) tt;
}

pub founds_doubt : (kept : Kept) (answer : Answer) (new : Base) → Worked true kept new.kept →
    KeepsTold kept.told new.kept.told → Rose kept.doubts new.kept.doubts → Begins kept (Ok (InDoubt answer)) new →
    Rejects kept (Ok (InDoubt answer)) new → Founds kept (Ok (InDoubt answer)) new
founds_doubt kept answer new ran told doubts begins rejects = record {
  begins = begins;
  rejects = rejects;
  later = ran.later;
  caused = (ran.rose refl, doubts);
  still = ran.still;
  spends = λ failed. ran.spends refl;
  told = told;
  big = tt;
}

is_refusal : (stop : Stop) (count : ℕ) → IsOutside stop → IsRefusal (Err (halt_of stop count))
is_refusal StopFailed count only = inr (inl (count, refl))
is_refusal StopNoMemory count only = inr (inr refl)
is_refusal others count only = absurd only

-- The making stopped at the store.
pub record Unmade (kept : Kept) (new : Base) (stop : Stop) (fault : DbFault) : Type 0 where
  pub fault_is : fault ≡ halt_of stop new.kept.faults
  pub within : IsWithinLimit stop
  pub ran : Worked (is_stop_failed stop) kept new.kept
  pub told : KeepsTold kept.told new.kept.told
  pub doubts : new.kept.doubts ≡ kept.doubts
  pub full : (m : Store) → HasPair m → kept.held ≡ Some m → IsOutside stop × (new.kept.held ≡ Some m)

pub founds_stop : (kept : Kept) (stop : Stop) (fault : DbFault) (new : Base) → Unmade kept new stop fault →
    Begins kept (Err fault) new → Founds kept (settled (Err fault)) new
founds_stop kept stop fault new u begins =
    subst (λ r. Founds kept r new) (sym (settled_stop stop fault new.kept.faults u.fault_is)) (record {
      begins = begins;
      rejects = λ m pair held.
          let both = u.full m pair held in
          (subst (λ f. IsRefusal (Err f)) (sym u.fault_is) (is_refusal stop new.kept.faults both.0), both.1);
      later = u.ran.later;
      caused = subst (λ f. Caused ToFound kept (halt_in f) new.kept) (sym u.fault_is)
          (stop_caused ToFound kept new.kept stop u.ran.rose (λ _. u.doubts));
      still = u.ran.still;
      spends = λ failed. u.ran.spends (sym (fault_failure stop fault new.kept.faults u.fault_is) ∙ failed);
      told = u.told;
      big = subst (λ f. IsBig NeedsNothing (halt_in f) new.memory) (sym u.fault_is)
          (stop_small NeedsNothing new.memory stop new.kept.faults u.within);
    })
