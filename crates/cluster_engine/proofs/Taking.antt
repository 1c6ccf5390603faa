-- A turn of a slon that may commit at one database is one that the rules allow.
use Rattle.std.proofs.Common.{◌≡◌, ◌∙◌, ◌<◌, ℕ, true, false, List, take, drop, Option, Some, None, Result, IfOk}
use Rattle.std.proofs.Common.{Ok}
use Rattle.std.proofs.Common.{Err, refl, sym, ap, subst, length}
use Rattle.std.proofs.lemmas.Bool.{false≢true, true≢false}
use Rattle.std.specs.FinMap.{get}
use Rattle.std.specs.List.{AllByRecursion}
use Rattle.std.specs.Prelude.{◌||◌}
use Rattle.slon_base.specs.declared.fault.Halt.{Halt as HaltOf}
use Rattle.slon_base.specs.declared.fault.Halt.TheVariants.{Fault}
use Rattle.slon_model.specs.declared.command.Delivery.{Delivery}
use Rattle.slon_model.specs.declared.command.Delivery.TheVariants.{Once, Lost, Again}
use Rattle.slon_model.specs.declared.reply.Refusal.{Refusal}
use Rattle.slon_model.specs.declared.reply.Refusal.TheVariants as refused
use Rattle.slon_model.specs.declared.reply.Reply.{Reply}
use Rattle.slon_model.specs.declared.reply.Reply.TheVariants.{Accepted, Refused}
use Rattle.slon_model.specs.Names.{Named, find_named}
use Rattle.slon_model.specs.Place.{Place, is_running}
use Rattle.slon_model.specs.Tasks.{Act, ToSync, ToListen, ToFetch, ToWork}
use Rattle.slon_model.specs.Deciding.{AllStand, Breaks, DoubtsAt}
use Rattle.slon_model.specs.Sessions.{World, Memory, Stated, Outcome, Excess, bind, excess_of, no_change, stand}
use Rattle.slon_model.specs.Sessions.{after_outcome, felled, with_memory}
use Rattle.slon_model.specs.Turns.{Switches, turned_by, taken_turn, sync_turn, switches_of, are_cut, at_node}
use Rattle.slon_model.specs.Polls.{Poll, polled, stated_by, left_by}
use Rattle.slon_model.specs.Working.{Carried, Fetched, fetched, fetched_by, given_up, with_fetch, work_ended, worked}
use Rattle.slon_model.specs.World.{outcome, may_break, memory_after, is_accepted, is_of, is_of_one, broken_at, wavering}
use Rattle.slon_model.specs.World.{doubt_reply}
use Rattle.slon_model.proofs.Names.{one_found}
use Rattle.app_store.specs.Base.{Base}
use Rattle.slonik_exec.specs.Databases.{FitsAll, Runs, told_by}
use Rattle.slonik_exec.proofs.Lists.{fitting}
use Rattle.slonik_exec.proofs.Seats.{same_up}
use Rattle.slonik_exec.specs.Executing as executing
use Rattle.slonik_exec.specs.Executing.{Comes}
use Rattle.slonik_exec.specs.Turning.{Turns}
use Rattle.slon_turns.specs.declared.polling.Listen.{Listen}
use Rattle.slon_turns.specs.Polling.{left_when}
use Rattle.slon_turns.specs.Holding.{HoldAll, HoldBounds, Holdings, IsUpIn, KeepBounds, KeepsIn, WaitsIn, bounds_in}
use Rattle.slon_turns.specs.Turning.{Kept, Polls}
use Rattle.slon_turns.specs.declared.working.Aim.{Aim}
use Rattle.slon_turns.specs.declared.working.Aim.TheVariants.{Fetch, Apply}
use Rattle.slon_turns.specs.Working.{Due, Goal, Learns, ToApply, ToKeep, Works, behind, gives_up, left_after}
use Rattle.slon_turns.specs.Working.{sources_to}
use Rattle.slon_turns.specs.Working.{stated_by as due_stated, turned, turned_to}
use Rattle.cluster_engine.specs.Agreed.{Agrees, Clustered, FitsScripts, Follows, IsKnown, Matches}
use Rattle.cluster_engine.specs.Calls.{ActsOn, IsActed}
use Rattle.cluster_engine.proofs.Knowing.{hold_bounds, learn_known, past_of}
use Rattle.cluster_engine.proofs.Rising.{comes_up}
use Rattle.cluster_engine.proofs.Walking.{Remembers, ready_of, fits_kept, denied_doubt, felled_moves, broken_moves}
use Rattle.cluster_engine.proofs.Walking.{wavering_moves}
use Rattle.cluster_engine.proofs.Working.{takes_up}

abbrev pub with_bases : Named Base → Clustered → Clustered
with_bases news c = record c { bases = news }

-- ---- what a turn comes to

-- a turn as any other, which leaves something else in memory where an open transaction stands in the way
abbrev taken_or : {X : Type 0} → World → (X → Memory) → Memory → (X → Stated) → Result X Refusal → Outcome
taken_or w left given stated (Err (refused.Busy xid)) =
    record (no_change w (Refused (refused.Busy xid))) { memory = given }
taken_or w left given stated found = taken_turn w left stated found

-- what it leaves where it is refused
abbrev denied_by : Memory → Refusal → Memory → Memory
denied_by given (refused.Busy xid) m = given
denied_by given others m = m

-- nothing is left then but what was there
taken_plain : {X : Type 0} (w : World) (left : X → Memory) (stated : X → Stated) (found : Result X Refusal) →
    taken_turn w left stated found ≡ taken_or w left w.memory stated found
taken_plain w left stated (Err (refused.Busy xid)) = refl
taken_plain w left stated (Err others) = refl
taken_plain w left stated (Ok x) = refl

denied_is : (w : World) (left given : Memory) (refusal : Refusal) →
    taken_or w (λ (stated : Stated). left) given (λ stated. stated) (Err refusal)
    ≡ record (no_change w (Refused refusal)) { memory = denied_by given refusal w.memory }
denied_is w left given (refused.Busy xid) = refl
denied_is w left given others = refl

-- A turn that comes to this under the rules, and leaves this in memory where it is done, and that where an open
-- transaction stands in the way.
record Turn (act : Act) (w : World) : Type 0 where
  due : Result Stated Refusal
  left : Memory
  given : Memory
  is : outcome act w ≡ taken_or w (λ (stated : Stated). left) given (λ stated. stated) due
  -- it forgets nothing where a store fails
  keeps : memory_after act w.memory ≡ w.memory

-- What the code made of it: with this reply, what is kept in memory agrees.
record Made {act : Act} {w : World} (t : Turn act w) (reply : Reply) (new : Clustered) : Type 0 where
  comes : Comes w t.due reply new.bases
  own : (name : List ℕ) (halt : HaltOf) → told_by reply ≡ Some (name, halt) → may_break act name w ≡ true
  limit : w.limit ≡ new.limit
  done : is_accepted reply ≡ true → Remembers t.left new
  denied : (refusal : Refusal) → t.due ≡ Err refusal → reply ≡ Refused refusal →
      Remembers (denied_by t.given refusal w.memory) new
  -- it was due, and not done
  undone : (stated : Stated) → t.due ≡ Ok stated → is_accepted reply ≡ false → Remembers w.memory new
  broke : (name : List ℕ) (count : ℕ) → reply ≡ Refused (refused.Fault name count) → Remembers w.memory new

turn_goes : {act : Act} {w : World} {reply : Reply} {new : Clustered} (t : Turn act w) → Made t reply new →
    ActsOn act w reply new
turn_goes {act} {w} {reply} {new} t made = by made.comes
  where
    -- the turn is accepted, and a number of it is too big, or none
    stands : (stated : Stated) → t.due ≡ Ok stated → (o : Option Excess) → excess_of stated.commits w.places ≡ o →
        outcome act w ≡ turned_by w t.left stated o
    stands stated is o beyond =
        t.is ∙ ap (taken_or w (λ (x : Stated). t.left) t.given (λ x. x)) is ∙ ap (turned_by w t.left stated) beyond

    kept : Remembers w.memory new → Remembers (memory_after act w.memory) new
    kept same = fits_kept w.memory (memory_after act w.memory) new t.keeps same

    by : Comes w t.due reply new.bases → ActsOn act w reply new
    by (executing.Refuses refusal is told fits) =
        let same : outcome act w
        ≡ record (no_change w (Refused refusal)) { memory = denied_by t.given refusal w.memory } =
        t.is ∙ ap (taken_or w (λ (x : Stated). t.left) t.given (λ x. x)) is
        ∙ denied_is w t.left t.given refusal in
        let left = made.denied refusal is told in
        record {
          fate = AllStand;
          may = tt;
          told = told ∙ sym (ap (λ (x : Outcome). x.reply) same);
          agrees = subst (λ x. Matches (after_outcome x w) new) (sym same)
              (record { limit = made.limit; fits = fits; memory = left.fits; keeps = left.keeps });
        }
    by (executing.Stands stated is beyond told fits) =
        let same = stands stated is None beyond in
        let left = made.done (ap is_accepted told) in
        record {
          fate = AllStand;
          may = tt;
          told = told ∙ sym (ap (λ (x : Outcome). x.reply) same);
          agrees = subst (λ x. Matches (after_outcome x w) new) (sym same)
              (record { limit = made.limit; fits = fits; memory = left.fits; keeps = left.keeps });
        }
    by (executing.Bursts stated e is beyond told fits) =
        let same = stands stated is (Some e) beyond in
        let after = felled_moves (Some e.name) w.memory w in
        let left = fits_kept w.memory (felled (Some e.name) w).memory new after.memory
        (made.undone stated is (ap is_accepted told)) in
        record {
          fate = AllStand;
          may = tt;
          told = told ∙ sym (ap (λ (x : Outcome). x.reply) same);
          agrees = subst (λ x. Matches (after_outcome x w) new) (sym same) (record {
            limit = after.limit ∙ made.limit;
            fits = subst (λ ps. FitsAll ps new.bases) after.places fits;
            memory = left.fits;
            keeps = left.keeps;
          });
        }
    by (executing.Breaks name count told can fits) =
        let m = memory_after act w.memory in
        let after = broken_moves name count (find_named name w.places) m w in
        let left = fits_kept m (broken_at name count (find_named name w.places) (with_memory m w)).memory new
        after.memory (kept (made.broke name count told)) in
        record {
          fate = Breaks name count;
          may = (made.own name (Fault count) (ap told_by told), can);
          told = told;
          agrees = record {
            limit = after.limit ∙ made.limit;
            fits = subst (λ ps. FitsAll ps new.bases) after.places fits;
            memory = left.fits;
            keeps = left.keeps;
          };
        }
    by (executing.Wavers stated before stays is beyond less told fits) =
        let same = stands stated is None beyond in
        let m = memory_after act w.memory in
        let cs = stated.commits in
        let after = wavering_moves (drop before cs) stays m (stand (take before cs) w) in
        let denied = ap is_accepted told ∙ denied_doubt before cs stated.answer less in
        let left = fits_kept m (wavering (drop before cs) stays (stand (take before cs) (with_memory m w))).memory new
        after.memory (kept (made.undone stated is denied)) in
        record {
          fate = DoubtsAt before stays;
          may = subst (λ (x : Outcome). before < length x.commits) (sym same) less;
          told = told ∙ sym (ap (λ (x : Outcome). doubt_reply (drop before x.commits) x.reply) same);
          agrees = subst (λ (x : Outcome). Matches (wavering (drop before x.commits) stays
              (stand (take before x.commits) (record w { memory = m }))) new) (sym same) (record {
                limit = after.limit ∙ made.limit;
                fits = subst (λ ps. FitsAll ps new.bases) after.places fits;
                memory = left.fits;
                keeps = left.keeps;
              });
        }

-- ---- SYNC

denied_same : (refusal : Refusal) (m : Memory) → denied_by m refusal m ≡ m
denied_same (refused.Busy xid) m = refl
denied_same others m = refl

-- what is promised of the databases is promised of the command
pub sync_acted : (node : ℕ) (old : Clustered) (reply : Reply) (news : Named Base) → Runs old.bases reply news →
    Turns node old.memory.switches.started (sync_turn node) old.bases reply news →
    IsActed (ToSync node) old reply (with_bases news old)
sync_acted node old reply news runs turns = record {
  runs = runs;
  limit = refl;
  given = refl;
  goes = λ w follows.
      let takes = turns w (ready_of w old follows) (ap (λ s. s.started) follows.agrees.memory.switches) in
      let same : Remembers w.memory (with_bases news old) =
      record {
        fits = follows.agrees.memory;
        keeps = λ name up. follows.agrees.keeps name
            (comes_up w old.bases reply news follows.agrees.fits takes.comes name up);
      } in
      turn_goes (record {
        due = sync_turn node w;
        left = w.memory;
        given = w.memory;
        is = taken_plain w (λ (stated : Stated). w.memory) (λ stated. stated) (sync_turn node w);
        keeps = refl;
      }) (record {
        comes = takes.comes;
        own = takes.own;
        limit = follows.agrees.limit;
        done = λ accepted. same;
        denied = λ refusal is told. fits_kept w.memory (denied_by w.memory refusal w.memory) (with_bases news old)
            (denied_same refusal w.memory) same;
        undone = λ stated is refused. same;
        broke = λ name count told. same;
      });
  learns = λ w follows. follows.agrees.known;
}

pub sync_if : {E : Type 0} (node : ℕ) (old : Clustered) (news : Named Base) (r : Result Reply E) →
    IfOk r (λ reply. Runs old.bases reply news) →
    IfOk r (λ reply. Turns node old.memory.switches.started (sync_turn node) old.bases reply news) →
    IfOk r (λ reply. IsActed (ToSync node) old reply (with_bases news old))
sync_if node old news (Ok reply) runs turns = sync_acted node old reply news runs turns
sync_if node old news (Err e) runs turns = tt

-- ---- turns by which other events wait

-- the code keeps other databases, and other queues
abbrev pub with_queues : Named Base → Holdings → Clustered → Clustered
with_queues news queues c = record c { bases = news; memory = record c.memory { held = queues } }

-- what a turn leaves in memory where it is done, by what it found
abbrev left_of : {X : Type 0} → (X → Memory) → Result X Refusal → Memory → Memory
left_of left (Ok x) m = left x
left_of left (Err refusal) m = m

-- and with this reply
abbrev left_with : {X : Type 0} → (X → Memory) → Memory → Result X Refusal → Reply → Memory → Memory
left_with left given (Ok x) (Accepted answer) m = left x
left_with left given (Err (refused.Busy xid)) (Refused (refused.Busy other)) m = given
left_with left given found reply m = m

-- A turn that finds this, what that leaves in memory, and what it states, and what it leaves where an open transaction
-- stands in the way. The scripts stay, and what is switched.
record Finding (X : Type 0) (act : Act) (w : World) : Type 0 where
  found : Result X Refusal
  left : X → Memory
  given : Memory
  stated : X → Stated
  is : outcome act w ≡ taken_or w left given stated found
  keeps : memory_after act w.memory ≡ w.memory
  same : (x : X) → ((left x).scripts ≡ w.memory.scripts) × (switches_of (left x) ≡ switches_of w.memory)
  same_given : (given.scripts ≡ w.memory.scripts) × (switches_of given ≡ switches_of w.memory)

-- What the code made of it: with this reply, databases, and what waits there.
record Found {X : Type 0} {act : Act} {w : World} (f : Finding X act w) (old : Clustered) (reply : Reply)
    (news : Named Base) (queues : Holdings) : Type 0 where
  agrees : Agrees w old
  comes : Comes w (bind f.found (λ x. Ok (f.stated x))) reply news
  own : (name : List ℕ) (halt : HaltOf) → told_by reply ≡ Some (name, halt) → may_break act name w ≡ true
  waits : (name : List ℕ) → WaitsIn name (left_with f.left f.given f.found reply w.memory) (get queues name)
  keeps : (name : List ℕ) → IsUpIn name news →
      KeepsIn name (left_with f.left f.given f.found reply w.memory) (get queues name)

-- it is a turn
found_is : {X : Type 0} (w : World) (left : X → Memory) (given : Memory) (stated : X → Stated)
    (found : Result X Refusal) → taken_or w left given stated found
    ≡ taken_or w (λ (x : Stated). left_of left found w.memory) given (λ x. x) (bind found (λ x. Ok (stated x)))
found_is w left given stated (Err (refused.Busy xid)) = refl
found_is w left given stated (Err others) = refl
found_is w left given stated (Ok x) = refl

done_left : {X : Type 0} (left : X → Memory) (given : Memory) (found : Result X Refusal) (reply : Reply)
    (m : Memory) → is_accepted reply ≡ true → left_with left given found reply m ≡ left_of left found m
done_left left given (Ok x) (Accepted answer) m accepted = refl
done_left left given (Err (refused.Busy xid)) (Accepted answer) m accepted = refl
done_left left given (Err others) (Accepted answer) m accepted = refl
done_left left given found others m accepted = absurd (false≢true accepted)

denied_left : {X : Type 0} (left : X → Memory) (given : Memory) (stated : X → Stated) (found : Result X Refusal)
    (refusal : Refusal) (m : Memory) → bind found (λ x. Ok (stated x)) ≡ Err refusal →
    left_with left given found (Refused refusal) m ≡ denied_by given refusal m
denied_left left given stated (Ok x) refusal m is = absurd cc
denied_left {X} left given stated (Err other) refusal m is =
    let same : other ≡ refusal = cc in
    subst (λ (r : Refusal). left_with left given (Err r) (Refused refusal) m ≡ denied_by given refusal m)
    (sym same) (by refusal)
  where
    by : (r : Refusal) → left_with left given (Err r) (Refused r) m ≡ denied_by given r m
    by (refused.Busy xid) = refl
    by others = refl

undone_left : {X : Type 0} (left : X → Memory) (given : Memory) (stated : X → Stated) (found : Result X Refusal)
    (reply : Reply) (m : Memory) → ((s : Stated) × (bind found (λ x. Ok (stated x)) ≡ Ok s)) →
    is_accepted reply ≡ false → left_with left given found reply m ≡ m
undone_left left given stated (Ok x) (Accepted answer) m is refused = absurd (true≢false refused)
undone_left left given stated (Ok x) others m is refused = refl
undone_left left given stated (Err refusal) reply m (s, is) refused = absurd cc

broke_left : {X : Type 0} (left : X → Memory) (given : Memory) (found : Result X Refusal) (name : List ℕ) (count : ℕ)
    (m : Memory) → left_with left given found (Refused (refused.Fault name count)) m ≡ m
broke_left left given (Ok x) name count m = refl
broke_left left given (Err (refused.Busy xid)) name count m = refl
broke_left left given (Err others) name count m = refl

finding_goes : {X : Type 0} {act : Act} {w : World} {old : Clustered} {reply : Reply} {news : Named Base}
    {queues : Holdings} (f : Finding X act w) → Found f old reply news queues →
    ActsOn act w reply (with_queues news queues old)
finding_goes {X} {w = w} {old} {reply} {news} {queues} f found =
    turn_goes (record {
      due = bind f.found (λ x. Ok (f.stated x));
      left = left_of f.left f.found w.memory;
      given = f.given;
      is = f.is ∙ found_is w f.left f.given f.stated f.found;
      keeps = f.keeps;
    }) (record {
      comes = found.comes;
      own = found.own;
      limit = found.agrees.limit;
      done = λ accepted. fits_as _ (same_left f.found)
          (sym (done_left f.left f.given f.found reply w.memory accepted));
      denied = λ refusal is told. fits_as _ (same_denied refusal)
          (sym (denied_left f.left f.given f.stated f.found refusal w.memory is)
          ∙ ap (λ r. left_with f.left f.given f.found r w.memory) (sym told));
      undone = λ stated is refused. fits_as w.memory (refl, refl)
          (sym (undone_left f.left f.given f.stated f.found reply w.memory (stated, is) refused));
      broke = λ name count told. fits_as w.memory (refl, refl)
          (sym (broke_left f.left f.given f.found name count w.memory)
          ∙ ap (λ r. left_with f.left f.given f.found r w.memory) (sym told));
    })
  where
    -- a memory whose scripts and switches are those before agrees, where it is what is left with the reply
    fits_as : (m : Memory) → (m.scripts ≡ w.memory.scripts) × (switches_of m ≡ switches_of w.memory) →
        m ≡ left_with f.left f.given f.found reply w.memory → Remembers m (with_queues news queues old)
    fits_as m same is = record {
      fits = record {
        scripts = subst (λ rs. FitsScripts rs old.memory.scripts) (sym same.0) found.agrees.memory.scripts;
        switches = same.1 ∙ found.agrees.memory.switches;
        waits = λ name. subst (λ n. WaitsIn name n (get queues name)) (sym is) (found.waits name);
      };
      keeps = λ name up. subst (λ n. KeepsIn name n (get queues name)) (sym is) (found.keeps name up);
    }

    same_left : (r : Result X Refusal) → ((left_of f.left r w.memory).scripts ≡ w.memory.scripts)
        × (switches_of (left_of f.left r w.memory) ≡ switches_of w.memory)
    same_left (Ok x) = f.same x
    same_left (Err refusal) = (refl, refl)

    same_denied : (r : Refusal) → ((denied_by f.given r w.memory).scripts ≡ w.memory.scripts)
        × (switches_of (denied_by f.given r w.memory) ≡ switches_of w.memory)
    same_denied (refused.Busy xid) = f.same_given
    same_denied others = (refl, refl)

-- what the code keeps of the databases and of what waits there
abbrev pub kept_of : Clustered → Kept
kept_of c = record { bases = c.bases; held = c.memory.held }

abbrev pub kept_as : Named Base → Holdings → Kept
kept_as news queues = record { bases = news; held = queues }

-- ---- what is held

-- a database is up where its place is running
up_in : (name : List ℕ) (w : World) (c : Clustered) (p : Place) → FitsAll w.places c.bases →
    find_named name w.places ≡ Some p → is_running p.standing ≡ true → IsUpIn name c.bases
up_in name w c p fits found running b is =
    let fit = fitting name b w.places c.bases fits is in
    let same = one_found fit.place p (sym fit.found ∙ found) in
    same_up fit.place b fit.fits ∙ ap (λ (q : Place). is_running q.standing) same ∙ running

holds_all : (w : World) (old : Clustered) → Follows w old → HoldAll w old.memory.held
holds_all w old follows = record {
  waits = λ name p found running. follows.agrees.memory.waits name;
  keeps = λ name p found running.
      follows.agrees.keeps name (up_in name w old p follows.agrees.fits found running);
}

-- what nodes know of the transactions of others is so of all that is logged
bounds_all : (w : World) (old : Clustered) → Follows w old → HoldBounds w old.memory.held
bounds_all w old follows =
    hold_bounds (past_of follows) follows.regular old.memory.held follows.agrees.known

-- ---- polls

polled_same : (delivery : Delivery) (b : Poll) (m : Memory) →
    ((left_by delivery b m).scripts ≡ m.scripts) × (switches_of (left_by delivery b m) ≡ switches_of m)
polled_same Once b m = (refl, refl)
polled_same Lost b m = (refl, refl)
polled_same Again b m = (refl, refl)

polled_left : (delivery : Delivery) (due : Result Poll Refusal) (reply : Reply) (m : Memory) →
    left_when delivery due reply m ≡ left_with (λ b. left_by delivery b m) m due reply m
polled_left delivery (Ok b) (Accepted answer) m = refl
polled_left delivery (Ok b) others m = refl
polled_left delivery (Err (refused.Busy xid)) (Refused (refused.Busy other)) m = refl
polled_left delivery (Err (refused.Busy xid)) (Refused others) m = refl
polled_left delivery (Err (refused.Busy xid)) others m = refl
polled_left delivery (Err others) reply m = refl

-- what is promised of the databases and of what waits is promised of the command
pub poll_acted : (l : Listen) (old : Clustered) (reply : Reply) (news : Named Base) (queues : Holdings) →
    Runs old.bases reply news
    × Polls l old.memory.switches.started (kept_of old) reply (kept_as news queues)
    × KeepBounds old.memory.held queues → are_cut l.node l.server old.memory.switches.cuts ≡ l.cut →
    IsActed (ToListen l.node l.server l.delivery) old reply (with_queues news queues old)
poll_acted l old reply news queues (runs, polls, bounds) cut = record {
  runs = runs;
  limit = refl;
  given = refl;
  goes = λ w follows.
      let due = polled l.node l.server w in
      let fits = follows.agrees.memory in
      let takes = polls w (ready_of w old follows) (ap (λ s. s.started) fits.switches)
      (ap (λ (s : Switches). are_cut l.node l.server s.cuts) fits.switches ∙ cut)
      (holds_all w old follows) in
      finding_goes (record {
        found = due;
        left = λ b. left_by l.delivery b w.memory;
        given = w.memory;
        stated = stated_by l.delivery;
        is = taken_plain w (λ b. left_by l.delivery b w.memory) (stated_by l.delivery) due;
        keeps = refl;
        same = λ b. polled_same l.delivery b w.memory;
        same_given = (refl, refl);
      }) (record {
        agrees = follows.agrees;
        comes = takes.comes;
        own = takes.own;
        waits = λ name. subst (λ m. WaitsIn name m (get queues name)) (polled_left l.delivery due reply w.memory)
            (takes.waits name (fits.waits name));
        keeps = λ name up. subst (λ m. KeepsIn name m (get queues name)) (polled_left l.delivery due reply w.memory)
            (takes.keeps name (follows.agrees.keeps name
            (comes_up w old.bases reply news follows.agrees.fits takes.comes name up)));
      });
  learns = λ w follows name. subst (AllByRecursion (IsKnown w)) (sym (bounds name)) (follows.agrees.known name);
}

pub poll_if : {E : Type 0} (l : Listen) (old : Clustered) (news : Named Base) (queues : Holdings) (r : Result Reply E) →
    IfOk r (λ reply. Runs old.bases reply news) ×
    IfOk r (λ reply. Polls l old.memory.switches.started (kept_of old) reply (kept_as news queues)) ×
    IfOk r (λ reply. KeepBounds old.memory.held queues) →
    are_cut l.node l.server old.memory.switches.cuts ≡ l.cut →
    IfOk r (λ reply. IsActed (ToListen l.node l.server l.delivery) old reply (with_queues news queues old))
poll_if l old news queues (Ok reply) all cut = poll_acted l old reply news queues all cut
poll_if l old news queues (Err e) all cut = tt

-- ---- work

-- the node fetches, or applies
abbrev pub act_of : Goal → ℕ → Act
act_of goal node = by goal.aim
  where
    by : Aim → Act
    by Fetch = ToFetch node goal.origin
    by Apply = ToWork node goal.origin

due_same : (x : Due) (m : Memory) →
    ((behind x m).scripts ≡ m.scripts) × (switches_of (behind x m) ≡ switches_of m)
due_same (ToKeep x) m = (refl, refl)
due_same (ToApply c) m = (refl, refl)

given_same : (origin : ℕ) (m : Memory) (o : Option (List ℕ × Place)) →
    ((given_up origin m o).scripts ≡ m.scripts) × (switches_of (given_up origin m o) ≡ switches_of m)
given_same origin m None = (refl, refl)
given_same origin m (Some e) = (refl, refl)

gives_same : (aim : Aim) (origin : ℕ) (m : Memory) (o : Option (List ℕ × Place)) →
    ((gives_up aim origin o m).scripts ≡ m.scripts) × (switches_of (gives_up aim origin o m) ≡ switches_of m)
gives_same Fetch origin m o = (refl, refl)
gives_same Apply origin m o = given_same origin m o

worked_left : (goal : Goal) (o : Option (List ℕ × Place)) (due : Result Due Refusal) (reply : Reply) (m : Memory) →
    left_after goal o due reply m
    ≡ left_with (λ x. behind x m) (gives_up goal.aim goal.origin o m) due reply m
worked_left goal o (Ok x) (Accepted answer) m = refl
worked_left goal o (Ok x) others m = refl
worked_left goal o (Err (refused.Busy xid)) (Refused (refused.Busy other)) m = refl
worked_left goal o (Err (refused.Busy xid)) (Refused others) m = refl
worked_left goal o (Err (refused.Busy xid)) others m = refl
worked_left goal o (Err others) reply m = refl

-- what the rules say of the turn
work_ends : (node origin : ℕ) (w : World) (due : Result Carried Refusal) → work_ended node origin w due
    ≡ taken_or w (λ x. behind x w.memory) (given_up origin w.memory (at_node node w)) due_stated
    (bind due (λ c. Ok (ToApply c)))
work_ends node origin w (Ok c) = refl
work_ends node origin w (Err (refused.Busy xid)) = refl
work_ends node origin w (Err others) = refl

fetch_ends : (w : World) (due : Result Fetched Refusal) → taken_turn w (λ x. with_fetch x w.memory) fetched_by due
    ≡ taken_or w (λ x. behind x w.memory) w.memory due_stated (bind due (λ x. Ok (ToKeep x)))
fetch_ends w (Ok x) = refl
fetch_ends w (Err (refused.Busy xid)) = refl
fetch_ends w (Err others) = refl

turn_ends : (aim : Aim) (node origin : ℕ) (w : World) →
    outcome (act_of (record { aim = aim; origin = origin }) node) w
    ≡ taken_or w (λ x. behind x w.memory) (gives_up aim origin (at_node node w) w.memory) due_stated
    (turned_to aim node origin w)
turn_ends Fetch node origin w = fetch_ends w (fetched node origin w)
turn_ends Apply node origin w = work_ends node origin w (worked node origin w)

same_memory : (aim : Aim) (node origin : ℕ) (m : Memory) →
    memory_after (act_of (record { aim = aim; origin = origin }) node) m ≡ m
same_memory Fetch node origin m = refl
same_memory Apply node origin m = refl

may_own : (aim : Aim) (node origin : ℕ) (name : List ℕ) (w : World) →
    may_break (act_of (record { aim = aim; origin = origin }) node) name w
    ≡ (is_of name (at_node node w) || is_of_one name (sources_to aim node origin w) w)
may_own Fetch node origin name w = refl
may_own Apply node origin name w = refl

-- what is promised of the databases and of what waits is promised of the command
pub turn_acted : (goal : Goal) (node : ℕ) (old : Clustered) (reply : Reply) (news : Named Base) (queues : Holdings) →
    Runs old.bases reply news →
    Works goal node old.memory.switches (kept_of old) reply (kept_as news queues)
    × Learns goal node old.memory.switches (kept_of old) queues →
    IsActed (act_of goal node) old reply (with_queues news queues old)
turn_acted goal node old reply news queues runs (works, learned) = record {
  runs = runs;
  limit = refl;
  given = refl;
  goes = λ w follows.
      let fits = follows.agrees.memory in
      let takes = works w (ready_of w old follows) (ap (λ s. s.started) fits.switches) (ap (λ s. s.cuts) fits.switches)
      (holds_all w old follows) (bounds_all w old follows) (takes_up node goal.origin w old follows) follows.formed in
      finding_goes (record {
        found = turned goal node w;
        left = λ x. behind x w.memory;
        given = gives_up goal.aim goal.origin (at_node node w) w.memory;
        stated = due_stated;
        is = turn_ends goal.aim node goal.origin w;
        keeps = same_memory goal.aim node goal.origin w.memory;
        same = λ x. due_same x w.memory;
        same_given = gives_same goal.aim goal.origin w.memory (at_node node w);
      }) (record {
        agrees = follows.agrees;
        comes = takes.comes;
        own = λ name halt told. may_own goal.aim node goal.origin name w ∙ takes.own name halt told;
        waits = λ name. subst (λ m. WaitsIn name m (get queues name))
            (worked_left goal (at_node node w) (turned goal node w) reply w.memory)
            (takes.waits name (fits.waits name));
        keeps = λ name up. subst (λ m. KeepsIn name m (get queues name))
            (worked_left goal (at_node node w) (turned goal node w) reply w.memory)
            (takes.keeps name (follows.agrees.keeps name
            (comes_up w old.bases reply news follows.agrees.fits takes.comes name up)) up);
      });
  learns = λ w follows name.
      let switches = follows.agrees.memory.switches in
      learn_known (past_of follows) follows.regular goal.origin
      (bounds_in (get old.memory.held name)) (bounds_in (get queues name))
      (learned w (ready_of w old follows) (ap (λ s. s.started) switches) (ap (λ s. s.cuts) switches)
      (holds_all w old follows) (bounds_all w old follows) name) (follows.agrees.known name);
}

pub turn_if : {E : Type 0} (goal : Goal) (node : ℕ) (old : Clustered) (news : Named Base) (queues : Holdings)
    (r : Result Reply E) → IfOk r (λ reply. Runs old.bases reply news) →
    IfOk r (λ reply. Works goal node old.memory.switches (kept_of old) reply (kept_as news queues)) ×
    IfOk r (λ reply. Learns goal node old.memory.switches (kept_of old) queues) →
    IfOk r (λ reply. IsActed (act_of goal node) old reply (with_queues news queues old))
turn_if goal node old news queues (Ok reply) runs both = turn_acted goal node old reply news queues runs both
turn_if goal node old news queues (Err e) runs both = tt
