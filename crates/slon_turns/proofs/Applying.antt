-- What the work of a node comes to at its database, by the calls that it makes on it.
use Rattle.std.proofs.Common.{◌≡◌, ◌∙◌, ◌+◌, ◌==◌, ℕ, Bool, true, false, cond, not, List, [], ◌∷◌, map, filter}
use Rattle.std.proofs.Common.{Option, Some, None, Result, Ok, Err, refl, sym, ap, subst}
use Rattle.std.specs.Prelude.{nat_lt, codes, if◌then◌else◌, IfOk, IfErr}
use Rattle.std.proofs.lemmas.Bool.{false≢true, true≢false}
use Rattle.std.specs.Cmp.{nat_eq_equiv}
use Rattle.std.specs.List.{find}
use Rattle.std.specs.Option.{option_map}
use Rattle.slon_base.specs.Counts.{Rose}
use Rattle.slon_base.specs.declared.fault.Halt.TheVariants.{Fault}
use Rattle.slon_model.specs.declared.fault.DbFault.{DbFault}
use Rattle.slon_model.specs.declared.fault.DbFault.TheVariants.{Halt}
use Rattle.slon_model.specs.declared.reply.EventKind.{EventKind}
use Rattle.slon_model.specs.declared.reply.Refusal.{Refusal}
use Rattle.slon_model.specs.declared.reply.Refusal.TheVariants as refused
use Rattle.slon_model.specs.declared.reply.Reply.{Reply}
use Rattle.slon_model.specs.declared.reply.Reply.TheVariants as replied
use Rattle.slon_model.specs.Maps.{Map, with_entry}
use Rattle.slon_model.specs.Events.{Event, kind_of}
use Rattle.slon_model.specs.Following.{Found, brought_of}
use Rattle.slon_model.specs.Deeds.{knowledge, progress}
use Rattle.slon_model.specs.Place.{Place, Standing, IsRunning, IsFallen, IsDoubtful, downed, fallen}
use Rattle.slon_model.specs.Place.{is_running}
use Rattle.slon_model.specs.Sessions.{Memory, Stated, bind, checked, in_doubt, when}
use Rattle.slon_model.specs.Polls.{line_of, queue_at, with_queue}
use Rattle.slon_model.specs.Tasks.{Words}
use Rattle.slon_model.specs.Working.{Carried, can_carry_out, carried, errand_in, next_at, receives_from}
use Rattle.slon_model.specs.Working.{taken_up}
use Rattle.slon_model.specs.World.{is_accepted, reply_of, refusal_of}
use Rattle.set_config.proofs.Entries.{eq_of}
use Rattle.event_store.specs.declared.event.Event as declared
use Rattle.event_store.specs.declared.queue.Queue.{Queue}
use Rattle.event_store.specs.Queueing.{waiting}
use Rattle.event_store.specs.Seen.{seen_event}
use Rattle.app_store.specs.Base.{Base}
use Rattle.app_store.specs.Fits.{Fits}
use Rattle.app_store.specs.Parts.{FellTo, Fell}
use Rattle.app_store.specs.Serves.{answered, is_memory, trouble}
use Rattle.node_store.specs.Acting.{joined}
use Rattle.node_store.specs.Bringing.{IsBrought}
use Rattle.remote_listener.specs.Queues.{FitsQueue}
use Rattle.remote_listener.proofs.Lines.{line_with}
use Rattle.remote_worker.specs.declared.worker.Fetched.{Fetched}
use Rattle.remote_worker.specs.declared.worker.Next.TheVariants as next
use Rattle.remote_worker.specs.declared.worker.Ready.{Ready as IsReady}
use Rattle.remote_worker.specs.declared.worker.Settled.{Settled}
use Rattle.remote_worker.specs.declared.worker.Taken.{Taken}
use Rattle.remote_worker.specs.declared.worker.Worker.{Worker}
use Rattle.remote_worker.specs.Fetching.{is_loud}
use Rattle.remote_worker.specs.Kept.{kept_at}
use Rattle.remote_worker.specs.Loading.{rows_loaded}
use Rattle.remote_worker.specs.Working.{waits_as, Applies, Drops, DropsUnless}
use Rattle.remote_worker.specs.Working.{IsDue, IsReady as IsLookedUp, IsSettled, Takes}
use Rattle.remote_worker.proofs.Abilities.{found_is}
use Rattle.remote_worker.proofs.Counted.{brought_counted, rows_counted}
use Rattle.remote_worker.proofs.Left.{found_brought}
use Rattle.slonik_exec.specs.Answering.{ComesAt, RefusesAt, StandsAt, BurstsAt, BreaksAt, WaversAt}
use Rattle.slonik_exec.proofs.Asking.{one_place}
use Rattle.slonik_exec.proofs.Seats.{same_up}
use Rattle.slonik_exec.proofs.Telling.{words_at}
use Rattle.slonik_exec.proofs.Works.{commits_due}
use Rattle.slon_turns.specs.declared.held.Held.{Held}
use Rattle.slon_turns.specs.Holding.{Holds, Keeps, KeepsBut, Stays}
use Rattle.slon_turns.specs.Polling.{Once, Waits}
use Rattle.slon_turns.specs.Working.{Due, Goal, ToApply, left_after, stated_turn}
use Rattle.slon_turns.specs.Applying.{applied_as, due_at, due_of, AppliesAt, Finder, Post, PostFits, left_in}
use Rattle.slon_turns.specs.Applying.{seat_in, WorksHere}
use Rattle.slon_turns.specs.Planning.{IsPlanned}
use Rattle.slon_turns.proofs.Acted.{acts_as}
use Rattle.slon_turns.proofs.Waiting.{keeps_without, queue_here}

-- ---- refusals and failures

-- what is in memory behind a reply that tells of a store that failed
pub left_fault : (goal : Goal) (found : Option (List ℕ × Place)) (due : Result Due Refusal) (name : List ℕ) (count : ℕ)
    (m : Memory) → left_after goal found due (replied.Refused (refused.Fault name count)) m ≡ m
left_fault goal found (Ok x) name count m = refl
left_fault goal found (Err (refused.Busy xid)) name count m = refl
left_fault goal found (Err others) name count m = refl

-- and behind any refusal but that of an open transaction
pub left_refused : (goal : Goal) (found : Option (List ℕ × Place)) (due : Result Due Refusal) (refusal : Refusal)
    (m : Memory) → is_loud refusal ≡ false → left_after goal found due (replied.Refused refusal) m ≡ m
left_refused goal found (Ok x) refusal m calm = refl
left_refused goal found (Err (refused.Busy xid)) (refused.Busy other) m calm = absurd (true≢false calm)
left_refused goal found (Err (refused.Busy xid)) others m calm = refl
left_refused goal found (Err others) refusal m calm = refl

-- what is held is held, whether the database is up or not
pub stays_on : {name : List ℕ} {m : Memory} {base : Base} {held : Held} → Holds name m held → Stays name m base held
stays_on holds = record { waits = holds.waits; keeps = λ up. holds.keeps }

pub refused_here : (s : Post) (due : Result Due Refusal) (refusal : Refusal) (new : Base × Held) →
    (due ≡ Err refusal) × (is_loud refusal ≡ false) → Fits s.place new.0 × Holds s.name s.memory new.1 →
    WorksHere s due (replied.Refused refusal) new
refused_here s due refusal new (is, calm) (fits, holds) = record {
  goes = Once (RefusesAt refusal (ap stated_turn is) refl fits);
  stays = subst (λ m. Stays s.name m new.0 new.1)
      (sym (left_refused s.goal (Some (s.name, s.place)) due refusal s.memory calm)) (stays_on holds);
}

-- what was taken down is not running
downed_stops : (s : Standing) → is_running (downed s) ≡ false
downed_stops IsRunning = refl
downed_stops IsFallen = refl
downed_stops (IsDoubtful stands) = refl

-- a database that fell is down
fell_down : (count : ℕ) (p : Place) (b : Base) → Fits (fallen count p) b → b.memory.up ≡ true → ⊥
fell_down count p b fits up =
    false≢true (sym (downed_stops p.standing) ∙ sym (same_up (fallen count p) b fits) ∙ up)

-- the store of the node failed, with this count
pub record BrokeWith (s : Post) (reply : Reply) (new : Base) : Type 0 where
  pub count : ℕ
  pub is : reply ≡ replied.Refused (refused.Fault s.name count)
  pub rose : Rose s.place.told count
  pub fits : Fits (fallen count s.place) new

pub breaks_here : {s : Post} {reply : Reply} {new : Base × Held} (due : Result Due Refusal) →
    BrokeWith s reply new.0 → Waits s.name s.memory new.1.queue → WorksHere s due reply new
breaks_here {s} {reply} {new} due b waits = record {
  goes = Once (BreaksAt b.count b.is b.rose b.fits);
  stays = subst (λ r. Stays s.name (left_in s due r) new.0 new.1) (sym b.is)
      (subst (λ m. Stays s.name m new.0 new.1)
      (sym (left_fault s.goal (Some (s.name, s.place)) due s.name b.count s.memory))
      (record { waits = waits; keeps = λ up. absurd (fell_down b.count s.place new.0 b.fits up) }));
}

pub stops_here : {new : Base × Held} {fault : DbFault} {reply : Reply} (s : Post)
    (due : Result Due Refusal) → FellTo s.place s.place fault new.0 →
    reply ≡ refusal_of (words_at s.name) fault → Waits s.name s.memory new.1.queue → WorksHere s due reply new
stops_here {new} {fault} {reply} s due fell said waits = by fell
  where
    by : FellTo s.place s.place fault new.0 → WorksHere s due reply new
    by (Fell count stands is rose fits) = breaks_here due (record {
      count = count;
      is = said ∙ ap (refusal_of (words_at s.name)) is;
      rose = rose;
      fits = one_place s.place count stands new.0 fits;
    }) waits

-- ---- which event comes next

found_seen : (number : ℕ) (es : List declared.Event) →
    find (λ e. e.number == number) (map seen_event es) ≡ option_map seen_event (find (λ e. e.number == number) es)
found_seen number [] = refl
found_seen number (e ∷ es) = by (e.number == number) (found_seen number es)
  where
    rest : Option declared.Event
    rest = find (λ f. f.number == number) es

    by : (b : Bool) → find (λ f. f.number == number) (map seen_event es) ≡ option_map seen_event rest →
        cond b (Some (seen_event e)) (find (λ f. f.number == number) (map seen_event es))
        ≡ option_map seen_event (cond b (Some e) rest)
    by true more = refl
    by false more = more

-- What was looked up is what comes next by the rules.
pub record IsNext (s : Post) (w : Worker IsReady) : Type 0 where
  pub node : w.node ≡ s.node.id
  pub origin_is : w.origin ≡ s.goal.origin
  pub number : w.state.number ≡ progress s.goal.origin (knowledge s.node) + 1
  pub receives : w.state.receives ≡ receives_from s.goal.origin (knowledge s.node)

-- what was looked up for this origin
pub next_here : (s : Post) (w : Worker IsReady) (origin : ℕ) → (s.goal.origin ≡ origin) × (w.origin ≡ origin) →
    IsLookedUp origin s.node w → IsNext s w
next_here s w origin (aimed, is) says = record {
  node = says.node;
  origin_is = is ∙ sym aimed;
  number = says.number ∙ ap (λ o. progress o (knowledge s.node) + 1) (sym aimed);
  receives = says.receives ∙ ap (λ o. receives_from o (knowledge s.node)) (sym aimed);
}

next_is : {s : Post} {w : Worker IsReady} {old : Base × Held} → IsNext s w → PostFits s old →
    next_at s.memory (seat_in s) s.goal.origin
    ≡ option_map seen_event (waits_as w.origin w.state.number old.1.queue)
next_is {s} {w} {old} next fits =
    ap (λ k. find (λ e. e.number == k) (line_of s.goal.origin (queue_at s.name s.memory))) (sym next.number)
    ∙ ap (λ o. find (λ e. e.number == w.state.number) (line_of o (queue_at s.name s.memory))) (sym next.origin_is)
    ∙ ap (find (λ e. e.number == w.state.number)) (sym (fits.holds.waits w.origin))
    ∙ found_seen w.state.number (waiting w.origin old.1.queue)

-- what the turn comes to for an event
abbrev comes_of : Post → Finder → Event → Result Due Refusal
comes_of s find e = due_of s.goal.aim s.memory (seat_in s) e find

-- it does not wait
pub missing_due : {s : Post} {w : Worker IsReady} {old : Base × Held} → IsNext s w → PostFits s old →
    waits_as w.origin w.state.number old.1.queue ≡ None → (find : Finder) →
    due_at s.goal s.memory (seat_in s) find ≡ Err refused.Nothing
missing_due {s} next fits none find =
    ap (λ o. bind (taken_up o) (comes_of s find)) (next_is next fits ∙ ap (option_map seen_event) none)

-- the node can carry out what waits, or not
abbrev pub due_by : Post → Finder → declared.Event → Bool → Result Due Refusal
due_by s find e can =
    bind (checked (when (not can) (refused.NotBuilt (codes "work")) ∷ []) (seen_event e)) (comes_of s find)

pub found_due : {s : Post} {w : Worker IsReady} {old : Base × Held} {can : Bool} → IsNext s w →
    PostFits s old → (e : declared.Event) → waits_as w.origin w.state.number old.1.queue ≡ Some e →
    can_carry_out e.body ≡ can → (find : Finder) →
    due_at s.goal s.memory (seat_in s) find ≡ due_by s find e can
found_due {s} next fits e found can find =
    ap (λ o. bind (taken_up o) (comes_of s find)) (next_is next fits ∙ ap (option_map seen_event) found)
    ∙ ap (due_by s find e) can

-- ---- what is taken

-- what was taken is due
pub due_taken : {w : Worker IsReady} (queue : Queue) (t : Worker Taken) → Takes w queue (next.Due t) →
    IsDue w (waits_as t.origin t.state.number queue) t.state
due_taken {w} queue t took =
    subst (λ o. IsDue w (waits_as o t.state.number queue) t.state) (sym took.1)
    (subst (λ n. IsDue w (waits_as w.origin n queue) t.state) (sym took.2) took.3)

-- what was taken is what the node is to fetch or to apply
pub taken_planned : {s : Post} {w : Worker IsReady} {old : Base × Held} (t : Worker Taken) → IsNext s w →
    PostFits s old → Takes w old.1.queue (next.Due t) → IsPlanned s t old.1.queue
taken_planned {s} {w} {old} t next fits took =
    let due = took.3 in record {
      event = due.event;
      took = record {
        found = ap (λ o. waits_as o t.state.number old.1.queue) took.1
            ∙ ap (λ k. waits_as w.origin k old.1.queue) took.2 ∙ due.is;
        node = took.0 ∙ next.node;
        kind = due.kind;
        errand = due.errand
            ∙ ap (λ k. errand_in k w.state.receives w.origin due.event.body) next.node
            ∙ ap (λ r. errand_in s.node.id r w.origin due.event.body) next.receives
            ∙ ap (λ o. errand_in s.node.id (receives_from o (knowledge s.node)) w.origin due.event.body)
            (sym next.origin_is)
            ∙ ap (λ o. errand_in s.node.id (receives_from o (knowledge s.node)) o due.event.body)
            (sym (found_is w.origin w.state.number old.1.queue due.event due.is).0);
      };
      next = next_is next fits ∙ ap (option_map seen_event) due.is;
      due = found_due next fits due.event due.is due.can;
    }

-- ---- what waits where it is applied

filter_seen : (number : ℕ) (es : List declared.Event) →
    map seen_event (filter (λ e. nat_lt number e.number) es)
    ≡ filter (λ f. nat_lt number f.number) (map seen_event es)
filter_seen number [] = refl
filter_seen number (e ∷ es) = by (nat_lt number e.number) (filter_seen number es)
  where
    rest : List declared.Event
    rest = filter (λ f. nat_lt number f.number) es

    seen : List Event
    seen = filter (λ f. nat_lt number f.number) (map seen_event es)

    by : (b : Bool) → map seen_event rest ≡ seen →
        map seen_event (cond b (e ∷ rest) rest) ≡ cond b (seen_event e ∷ seen) seen
    by true more = ap (λ l. seen_event e ∷ l) more
    by false more = more

-- the events of an origin up to a number wait no more by the rules too
drop_fits : (origin number : ℕ) (lines : Map (List Event)) (old new : Queue) → FitsQueue lines old →
    Drops origin number old new →
    FitsQueue (with_entry origin (filter (λ f. nat_lt number f.number) (line_of origin lines)) lines) new
drop_fits origin number lines old new fits drops other =
    by (origin == other) refl
    ∙ sym (line_with other origin kept lines
    ∙ ap (λ b. cond b kept (line_of other lines)) (nat_eq_equiv.symm other origin))
  where
    kept : List Event
    kept = filter (λ f. nat_lt number f.number) (line_of origin lines)

    by : (b : Bool) → (origin == other) ≡ b →
        map seen_event (waiting other new) ≡ cond b kept (line_of other lines)
    by true same =
        ap (λ o. map seen_event (waiting o new)) (sym (eq_of origin other same)) ∙ ap (map seen_event) drops.here
        ∙ filter_seen number (waiting origin old) ∙ ap (filter (λ f. nat_lt number f.number)) (fits origin)
    by false apart = ap (map seen_event) (drops.others other apart) ∙ fits other

-- ---- what is told

-- a fault of a database is told by no acceptance
refusal_denied : (words : Words) (fault : DbFault) → is_accepted (refusal_of words fault) ≡ false
refusal_denied words (Halt (Fault count)) = refl
refusal_denied words (Halt others) = refl
refusal_denied words others = refl

left_denied : (goal : Goal) (found : Option (List ℕ × Place)) (x : Due) (reply : Reply) (m : Memory) →
    is_accepted reply ≡ false → left_after goal found (Ok x) reply m ≡ m
left_denied goal found x (replied.Accepted answer) m denied = absurd (true≢false denied)
left_denied goal found x others m denied = refl

-- where what is due is not refused, and not accepted, the database is down
fell_unless : {name : List ℕ} {p : Place} {stated : Stated} {reply : Reply} {new : Base} →
    ComesAt name p (Ok stated) reply new → is_accepted reply ≡ false → new.memory.up ≡ true → ⊥
fell_unless (RefusesAt refusal due is fits) denied up = absurd cc
fell_unless (StandsAt answer c one last is fits) denied up = true≢false (sym (ap is_accepted is) ∙ denied)
fell_unless {p = p} {new = new} (BurstsAt answer c space one last is fits) denied up =
    fell_down p.told p new fits up
fell_unless {p = p} {new = new} (BreaksAt count is rose fits) denied up = fell_down count p new fits up
fell_unless {p = p} {new = new} (WaversAt answer c stands one last is fits) denied up =
    false≢true (sym (same_up (in_doubt c stands p) new fits) ∙ up)

-- ---- an event that is applied

-- An event that is applied, with what comes with it.
record Load : Type 0 where
  post : Post
  event : declared.Event
  found : Found

abbrev carried_in : Load → Carried
carried_in l = carried (seat_in l.post) (seen_event l.event) (brought_of l.post.place l.found)

abbrev due_in : Load → Result Due Refusal
due_in l = Ok (ToApply (carried_in l))

abbrev told_of : Load → Result Bool DbFault → Reply
told_of l result =
    reply_of (words_at l.post.name)
    (answered (applied_as (kind_of l.event.body) l.event.number (carried_in l).brought.count) result)

-- what is held before a commit with this result, and behind it
record Left (origin number : ℕ) (result : Result Bool DbFault) (old new : Held) : Type 0 where
  queue : IfOk result (DropsUnless origin number old.queue new.queue)
  stays : IfErr result (λ fault. new.queue ≡ old.queue)
  taken : IfOk result (λ doubt. (other : ℕ) → kept_at other new.fetches
      ≡ (if origin == other then None else kept_at other old.fetches))

waits_by : (l : Load) (result : Result Bool DbFault) (old new : Held) → Waits l.post.name l.post.memory old.queue →
    Left l.event.origin l.event.number result old new →
    Waits l.post.name (left_in l.post (due_in l) (told_of l result)) new.queue
waits_by l (Ok false) old new waits left =
    let e = l.event in
    let lines = queue_at l.post.name l.post.memory in
    let kept = filter (λ f. nat_lt e.number f.number) (line_of e.origin lines) in
    subst (λ q. FitsQueue q new.queue) (sym (queue_here l.post.name (with_entry e.origin kept lines) l.post.memory))
    (drop_fits e.origin e.number lines old.queue new.queue waits left.queue)
waits_by l (Ok true) old new waits left = subst (Waits l.post.name l.post.memory) (sym left.queue) waits
waits_by l (Err fault) old new waits left =
    subst (λ m. Waits l.post.name m new.queue)
    (sym (left_denied l.post.goal (Some (l.post.name, l.post.place)) (ToApply (carried_in l))
    (refusal_of (words_at l.post.name) fault) l.post.memory (refusal_denied (words_at l.post.name) fault)))
    (subst (Waits l.post.name l.post.memory) (sym left.stays) waits)

keeps_by : (l : Load) (result : Result Bool DbFault) (old new : Held) (base : Base) →
    KeepsBut l.event.origin l.post.name l.post.memory old.fetches ×
    Left l.event.origin l.event.number result old new →
    ComesAt l.post.name l.post.place (stated_turn (due_in l)) (told_of l result) base → base.memory.up ≡ true →
    Keeps l.post.name (left_in l.post (due_in l) (told_of l result)) new.fetches
keeps_by l (Ok false) old new base (keeps, left) comes up =
    let e = l.event in
    let lines = queue_at l.post.name l.post.memory in
    let kept = filter (λ f. nat_lt e.number f.number) (line_of e.origin lines) in
    keeps_without e.origin l.post.name (with_queue l.post.name (with_entry e.origin kept lines) l.post.memory)
    old.fetches new.fetches keeps left.taken
keeps_by l (Ok true) old new base held comes up = absurd (fell_unless comes refl up)
keeps_by l (Err fault) old new base held comes up =
    absurd (fell_unless comes (refusal_denied (words_at l.post.name) fault) up)

-- What came of an event that was applied: at the database of the node, and at what is held there.
pub record Doing (w : Worker Fetched) (name : List ℕ) (old : Base × Held) (reply : Reply) (new : Base × Held) :
    Type 0 where
  pub settled : Worker Settled
  pub settles : IsSettled w settled
  pub result : Result Bool DbFault
  pub told : reply ≡ reply_of (words_at name)
      (answered (applied_as w.state.kind w.state.number (rows_loaded w.state.load)) result)
  pub full : is_memory (trouble (answered joined result)) ≡ false
  pub applies : Applies (waits_as settled.origin settled.state.number old.1.queue) settled.state.brought old.0
      (answered joined result) new.0
  pub queue : IfOk result (DropsUnless settled.origin settled.state.number old.1.queue new.1.queue)
  pub stays : IfErr result (λ fault. new.1.queue ≡ old.1.queue)
  pub taken : IfOk result (λ doubt. (other : ℕ) → kept_at other new.1.fetches
      ≡ (if w.origin == other then None else kept_at other old.1.fetches))

-- what is held behind it, under the names that the event has
left_found : {w : Worker Fetched} {name : List ℕ} {old new : Base × Held} {reply : Reply} (e : declared.Event)
    (d : Doing w name old reply new) → (e.origin ≡ w.origin) × (e.number ≡ w.state.number) →
    Left e.origin e.number d.result old.1 new.1
left_found {w} {old = old} {new} e d (origin, number) =
    subst (λ o. Left o e.number d.result old.1 new.1) (sym origin)
    (subst (λ k. Left w.origin k d.result old.1 new.1) (sym number) (record {
      queue = subst (λ o. IfOk d.result (DropsUnless o w.state.number old.1.queue new.1.queue)) d.settles.origin
          (subst (λ k. IfOk d.result (DropsUnless d.settled.origin k old.1.queue new.1.queue)) d.settles.number
          d.queue);
      stays = d.stays;
      taken = d.taken;
    }))

pub applies_at : {w : Worker Fetched} {name : List ℕ} {old new : Base × Held} {reply : Reply} →
    Doing w name old reply new → AppliesAt name w old reply new
applies_at {w} {name} {old} {new} {reply} d s e f named aimed for fits can = record {
  goes = Once comes;
  stays = subst (λ r. Stays s.name (left_in s (due_in load) r) new.0 new.1) (sym told) (record {
    waits = waits_by load d.result old.1 new.1 fits.waits left;
    keeps = keeps_by load d.result old.1 new.1 new.0
        (subst (λ o. KeepsBut o s.name s.memory old.1.fetches) (sym is.0) fits.keeps, left)
        (subst (λ r. ComesAt s.name s.place (stated_turn (due_in load)) r new.0) told comes);
  });
}
  where
    load : Load
    load = record { post = s; event = e; found = f }

    is : (e.origin ≡ w.origin) × (e.number ≡ w.state.number)
    is = found_is w.origin w.state.number old.1.queue e for.found

    left : Left e.origin e.number d.result old.1 new.1
    left = left_found e d is

    said : List ℕ → EventKind → ℕ → ℕ → Reply
    said n kind number rows = reply_of (words_at n) (answered (applied_as kind number rows) d.result)

    told : reply ≡ told_of load d.result
    told = d.told
        ∙ ap (λ n. said n w.state.kind w.state.number (rows_loaded w.state.load)) (sym named)
        ∙ ap (λ k. said s.name k w.state.number (rows_loaded w.state.load)) for.kind
        ∙ ap (λ k. said s.name (kind_of e.body) k (rows_loaded w.state.load)) (sym is.1)
        ∙ ap (said s.name (kind_of e.body) e.number)
        (sym (brought_counted s.place f ∙ rows_counted e.origin f w.state.load for.finds))

    due : waits_as d.settled.origin d.settled.state.number old.1.queue ≡ Some e
    due = ap (λ o. waits_as o d.settled.state.number old.1.queue) d.settles.origin
        ∙ ap (λ k. waits_as w.origin k old.1.queue) d.settles.number ∙ for.found

    brings : IsBrought e.origin s.place (brought_of s.place f) d.settled.state.brought
    brings = subst (IsBrought e.origin s.place (brought_of s.place f)) (sym d.settles.brought_is)
        (found_brought e.origin s.place f w.state.load for.finds)

    comes : ComesAt s.name s.place (stated_turn (due_in load)) reply new.0
    comes = commits_due told (record { is = refl; named = refl })
        (acts_as (record { sure = refl; doubt = refl }) d.result
        (d.applies e due s.place s.node fits.ready fits.is d.full can.takes.can can.takes.learns
        (brought_of s.place f) brings can.fills s.name))
