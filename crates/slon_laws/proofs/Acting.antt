-- What each way in which a database is changed keeps is kept by every step of a script, whichever stores fail.
use Rattle.std.proofs.Common.{◌≡◌, ℕ, zero, suc, Bool, true, false, cond, List, [], ◌∷◌, Option, Some, None, refl, sym}
use Rattle.std.proofs.Common.{subst}
use Rattle.std.specs.Prelude.{take, drop, is_some, Result, Ok, Err}
use Rattle.slonik_script.specs.declared.script.Command.{Command as Order}
use Rattle.slonik_script.specs.declared.script.Command.TheVariants as order
use Rattle.slonik_script.specs.declared.script.Statement.{Statement}
use Rattle.slonik_script.specs.declared.script.Statement.TheVariants.{Single, Try as Tries}
use Rattle.slon_model.specs.declared.reading.Reading.{Reading}
use Rattle.slon_model.specs.declared.reading.Reading.TheVariants.{Read, Wrong}
use Rattle.slon_model.specs.declared.reply.Refusal.{Refusal}
use Rattle.slon_model.specs.declared.reply.Refusal.TheVariants as refused
use Rattle.slon_model.specs.declared.reply.Reply.TheVariants.{Refused}
use Rattle.slon_model.specs.Names.{Named, find_named, put_named}
use Rattle.slon_model.specs.Tasks.{Act, ToRead, ToStep, ToForget, ToStart, ToStop, ToCut, ToJoin, ToSync, ToListen}
use Rattle.slon_model.specs.Tasks.{ToFetch, ToWork}
use Rattle.slon_model.specs.Place.{Place, fallen}
use Rattle.slon_model.specs.Moves.{is_last_stamp}
use Rattle.slon_model.specs.Deciding.{Fate, AllStand, Breaks, DoubtsAt}
use Rattle.slon_model.specs.Sessions.{World, Memory, Running, Commit, Stated, committing, in_doubt, stood_at}
use Rattle.slon_model.specs.Sessions.{stood}
use Rattle.slon_model.specs.Sessions.{felled, felled_at, beyond_at, first_beyond, first_late, no_change, Excess}
use Rattle.slon_model.specs.Sessions.{excess_by, excess_of}
use Rattle.slon_model.specs.Scripts.{Stepping, done_by, single, order_step, statement_step, step_todo, step_of, read_as}
use Rattle.slon_model.specs.Scripts.{ordered, kill_of}
use Rattle.slon_model.specs.Turns.{at_node, switched_at, turned, turned_by, taken_turn, sync_turn}
use Rattle.slon_model.specs.Polls.{polled}
use Rattle.slon_model.specs.Working.{Carried, fetched, fetched_by, with_fetch, worked, applied_by, taken_from}
use Rattle.slon_model.specs.Working.{work_ended}
use Rattle.slon_model.specs.World.{Happening, Acting, outcome, broken_at, wavering, wavering_at}
use Rattle.slon_model.specs.World.{world_by}
use Rattle.slon_laws.specs.Turning.{Commits, Falls, Doubts, Carries, HoldsAt, AllHold, IsWithin}

-- ---- the commits of a script are within the limit

-- the commits and the first one beyond the limit
abbrev AreWithin : List Commit → Named Place → Type 0
AreWithin cs ps = first_beyond cs ps ≡ None

-- where nothing is too big, no stamp is
stamps_within : (beyond late : Option (List ℕ)) → excess_by beyond late ≡ None → beyond ≡ None
stamps_within None late none = refl
stamps_within (Some name) late none = absurd cc

done_within : (s : Stepping) (w : World) (stated : Stated) (o : Option Excess) →
    excess_of stated.commits w.places ≡ o → AreWithin (done_by s w stated o).commits w.places
done_within s w stated None is = stamps_within (first_beyond stated.commits w.places) (first_late stated.commits) is
done_within s w stated (Some e) is = refl

single_within : (s : Stepping) (w : World) (r : Result Stated Refusal) → AreWithin (single s w r).commits w.places
single_within s w (Err refusal) = refl
single_within s w (Ok stated) = done_within s w stated (excess_of stated.commits w.places) refl

order_within : (s : Stepping) (w : World) (o : Order) → AreWithin (order_step s w o).commits w.places
order_within s w (order.Echo text) = refl
order_within s w (order.Exit status) = refl
order_within s w others = single_within s w (ordered others s.run w)

statement_within : (s : Stepping) (w : World) (t : Statement) → AreWithin (statement_step s w t).commits w.places
statement_within s w (Single o) = order_within s w o
statement_within s w (Tries block) = refl

todo_within : (name : List ℕ) (run : Running) (todo : List Statement) (w : World) →
    AreWithin (step_todo name run todo w).commits w.places
todo_within name run [] w = refl
todo_within name run (t ∷ rest) w = statement_within (record { name = name; run = run; rest = rest }) w t

step_within : (name : List ℕ) (o : Option Running) (w : World) → AreWithin (step_of name o w).commits w.places
step_within name None w = refl
step_within name (Some run) w = todo_within name run run.todo w

read_within : (name : List ℕ) (reading : Reading) (w : World) → AreWithin (read_as name reading w).commits w.places
read_within name (Wrong refusal) w = refl
read_within name (Read s) w = refl

kill_within : (name : List ℕ) (o : Option Running) (w : World) → AreWithin (kill_of name o w).commits w.places
kill_within name None w = refl
kill_within name (Some run) w = refl

switched_within : (node : ℕ) (m : List ℕ → Memory) (o : Option (List ℕ × Place)) (w : World) →
    AreWithin (switched_at node m o w).commits w.places
switched_within node m None w = refl
switched_within node m (Some e) w = refl

turned_within : (w : World) (m : Memory) (stated : Stated) → AreWithin (turned w m stated).commits w.places
turned_within w m stated = by (excess_of stated.commits w.places) refl
  where
    by : (o : Option Excess) → excess_of stated.commits w.places ≡ o →
        AreWithin (turned_by w m stated o).commits w.places
    by None is = stamps_within (first_beyond stated.commits w.places) (first_late stated.commits) is
    by (Some e) is = refl

taken_within : {X : Type 0} (w : World) (left : X → Memory) (stated : X → Stated) (due : Result X Refusal) →
    AreWithin (taken_turn w left stated due).commits w.places
taken_within w left stated (Err refusal) = refl
taken_within w left stated (Ok x) = turned_within w (left x) (stated x)

work_within : (node origin : ℕ) (w : World) (due : Result Carried Refusal) →
    AreWithin (work_ended node origin w due).commits w.places
work_within node origin w (Err (refused.Busy xid)) = refl
work_within node origin w due = taken_within w (λ c. taken_from c w.memory) applied_by due

outcome_within : (act : Act) (w : World) → AreWithin (outcome act w).commits w.places
outcome_within (ToRead name reading) w = by (is_some (find_named name w.memory.scripts))
  where
    by : (b : Bool) →
        AreWithin (cond b (no_change w (Refused (refused.ScriptUsed name))) (read_as name reading w)).commits w.places
    by true = refl
    by false = read_within name reading w
outcome_within (ToStep name) w = step_within name (find_named name w.memory.scripts) w
outcome_within (ToForget name) w = kill_within name (find_named name w.memory.scripts) w
outcome_within (ToStart node) w = switched_within node _ (at_node node w) w
outcome_within (ToStop node) w = switched_within node _ (at_node node w) w
outcome_within (ToCut node other) w = refl
outcome_within (ToJoin node other) w = refl
outcome_within (ToSync node) w = taken_within w _ _ (sync_turn node w)
outcome_within (ToListen node server delivery) w = taken_within w _ _ (polled node server w)
outcome_within (ToFetch node origin) w =
    taken_within w (λ x. with_fetch x w.memory) fetched_by (fetched node origin w)
outcome_within (ToWork node origin) w = work_within node origin w (worked node origin w)

-- a commit within the limit, and the others
within_parts : (c : Commit) (p : Place) (more : Option (List ℕ)) → beyond_at c (Some p) more ≡ None →
    (is_last_stamp p ≡ false) × (more ≡ None)
within_parts c p more is = by (is_last_stamp p) refl is
  where
    by : (b : Bool) → is_last_stamp p ≡ b → cond b (Some c.name) more ≡ None → (is_last_stamp p ≡ false) × (more ≡ None)
    by true last none = absurd cc
    by false first none = (first, none)

all_within : (cs : List Commit) (ps : Named Place) → AreWithin cs ps → AllHold IsWithin cs ps
all_within [] ps within = tt
all_within (c ∷ cs) ps within = by (all_within cs) (find_named c.name ps) within
  where
    by : ((qs : Named Place) → AreWithin cs qs → AllHold IsWithin cs qs) → (o : Option Place) →
        beyond_at c o (first_beyond cs (stood_at c o ps)) ≡ None →
        HoldsAt IsWithin c o × AllHold IsWithin cs (stood_at c o ps)
    by on None within = (tt, on ps within)
    by on (Some p) within =
        let parts = within_parts c p _ within in (parts.0, on (put_named c.name (committing c p) ps) parts.1)

-- ---- commits that stand

stood_carries : {F : Commit → Place → Type 0} {R : Named Place → Type 0} → Carries F R → (cs : List Commit)
    (ps : Named Place) → AllHold F cs ps → R ps → R (stood cs ps)
stood_carries k [] ps all is = is
stood_carries {F} {R} k (c ∷ cs) ps all is =
    by (λ qs more on. stood_carries k cs qs more on) (find_named c.name ps) refl all
  where
    by : ((qs : Named Place) → AllHold F cs qs → R qs → R (stood cs qs)) → (o : Option Place) →
        find_named c.name ps ≡ o → HoldsAt F c o × AllHold F cs (stood_at c o ps) → R (stood cs (stood_at c o ps))
    by on None found all = on ps all.1 is
    by on (Some p) found all =
        on (put_named c.name (committing c p) ps) all.1
        (k c.name p (committing c p) ps found (Commits c all.0 refl) is)

-- ---- a database that goes down

felled_carries : {F : Commit → Place → Type 0} {R : Named Place → Type 0} → Carries F R → (o : Option (List ℕ))
    (w : World) → R w.places → R (felled o w).places
felled_carries k None w is = is
felled_carries {R = R} k (Some name) w is = by (find_named name w.places) refl
  where
    by : (o : Option Place) → find_named name w.places ≡ o → R (felled_at name o w).places
    by None found = is
    by (Some p) found = k name p (fallen p.told p) w.places found (Falls p.told refl) is

broken_carries : {F : Commit → Place → Type 0} {R : Named Place → Type 0} → Carries F R → (name : List ℕ) (count : ℕ)
    (o : Option Place) (w : World) → find_named name w.places ≡ o → R w.places → R (broken_at name count o w).places
broken_carries k name count None w found is = is
broken_carries k name count (Some p) w found is = k name p (fallen count p) w.places found (Falls count refl) is

-- ---- a commit in doubt

wavering_carries : {F : Commit → Place → Type 0} {R : Named Place → Type 0} → Carries F R → (n : ℕ) (cs : List Commit)
    (stands : Bool) (w : World) (ps : Named Place) → AllHold F cs ps × R ps → w.places ≡ stood (take n cs) ps →
    R (wavering (drop n cs) stands w).places
wavering_carries {R = R} k zero [] stands w ps is same = subst R (sym same) is.1
wavering_carries {F} {R} k zero (c ∷ cs) stands w ps is same =
    by (find_named c.name w.places) refl (subst (λ qs. HoldsAt F c (find_named c.name qs)) (sym same) is.0.0)
  where
    by : (o : Option Place) → find_named c.name w.places ≡ o → HoldsAt F c o → R (wavering_at c stands o w).places
    by None found holds = subst R (sym same) is.1
    by (Some p) found holds =
        k c.name p (in_doubt c stands p) w.places found (Doubts c stands holds refl) (subst R (sym same) is.1)
wavering_carries {R = R} k (suc n) [] stands w ps is same = subst R (sym same) is.1
wavering_carries {F} {R} k (suc n) (c ∷ cs) stands w ps is same =
    by (λ qs on at. wavering_carries k n cs stands w qs on at) (find_named c.name ps) refl is.0 same
  where
    by : ((qs : Named Place) → AllHold F cs qs × R qs → w.places ≡ stood (take n cs) qs →
        R (wavering (drop n cs) stands w).places) → (o : Option Place) → find_named c.name ps ≡ o →
        HoldsAt F c o × AllHold F cs (stood_at c o ps) → w.places ≡ stood (take n cs) (stood_at c o ps) →
        R (wavering (drop n cs) stands w).places
    by on None found all at = on ps (all.1, is.1) at
    by on (Some p) found all at =
        on (put_named c.name (committing c p) ps)
        (all.1, k c.name p (committing c p) ps found (Commits c all.0 refl) is.1) at

-- ---- a step of a script

-- by commits of which F holds
pub acting_turns : {F : Commit → Place → Type 0} {R : Named Place → Type 0} → Carries F R → (w v : World)
    (h : Happening) (t : Acting w h v) → AllHold F (outcome t.act w).commits w.places → R w.places → R v.places
acting_turns {F} {R} k w v h t all is = subst (λ u. R u.places) (sym t.is) (by t.fate)
  where
    by : (fate : Fate) → R (world_by t.act fate w).places
    by AllStand =
        felled_carries k (outcome t.act w).falls _ (stood_carries k (outcome t.act w).commits w.places all is)
    by (Breaks name count) = broken_carries k name count (find_named name w.places) _ refl is
    by (DoubtsAt before stands) =
        wavering_carries k before (outcome t.act w).commits stands _ w.places (all, is) refl

pub outcome_all : (act : Act) (w : World) → AllHold IsWithin (outcome act w).commits w.places
outcome_all act w = all_within (outcome act w).commits w.places (outcome_within act w)

pub acting_carries : {R : Named Place → Type 0} → Carries IsWithin R → (w v : World) (h : Happening) →
    Acting w h v → R w.places → R v.places
acting_carries k w v h t is =
    acting_turns k w v h t (outcome_all t.act w) is
