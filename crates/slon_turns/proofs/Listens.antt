-- What a poll comes to at the database of the node that polls, by the calls that it makes on it.
use Rattle.std.proofs.Common.{◌≡◌, ◌∙◌, ℕ, Bool, true, false, List, [], ◌∷◌, map, filter, length, Some}
use Rattle.std.proofs.Common.{Result, Ok, Err, refl, sym, ap, subst}
use Rattle.std.proofs.lemmas.Bool.{true≢false, false≢true, false_from_ne_true}
use Rattle.std.proofs.lemmas.List.{length-map}
use Rattle.std.specs.Prelude.{◌&&◌, is_err, IfOk, IfErr}
use Rattle.slon_model.specs.declared.command.Delivery.{Delivery}
use Rattle.slon_model.specs.declared.command.Delivery.TheVariants.{Once as IsOnce, Lost, Again}
use Rattle.slon_base.specs.declared.fault.Halt.TheVariants.{Fault}
use Rattle.slon_model.specs.declared.fault.DbFault.{DbFault}
use Rattle.slon_model.specs.declared.fault.DbFault.TheVariants.{Halt}
use Rattle.slon_model.specs.declared.reply.Answer.TheVariants.{Heard, LostOnTheWay}
use Rattle.slon_model.specs.declared.reply.Refusal.{Refusal}
use Rattle.slon_model.specs.declared.reply.Refusal.TheVariants as refused
use Rattle.slon_model.specs.declared.reply.Reply.{Reply}
use Rattle.slon_model.specs.declared.reply.Reply.TheVariants as replied
use Rattle.slon_model.specs.Deeds.{Node}
use Rattle.slon_model.specs.Sessions.{Memory, Seat, seat, when, checked}
use Rattle.slon_model.specs.Polls.{Poll, is_empty, all_queued, queue_at, poll_of, brings_nothing, stated_of}
use Rattle.slon_model.specs.Polls.{is_new}
use Rattle.slon_model.specs.Polls as polls
use Rattle.slon_model.specs.Tasks.{Words}
use Rattle.slon_model.specs.World.{halt_in, reply_of, refusal_of}
use Rattle.event_store.specs.declared.queue.Queue.{Queue}
use Rattle.event_store.specs.Giving.{Confirmation}
use Rattle.event_store.specs.Seen.{seen_event}
use Rattle.event_store.specs.Streams.{streams_of}
use Rattle.event_store.specs.Telling.{is_news, named}
use Rattle.app_store.specs.Base.{Base}
use Rattle.app_store.specs.Fits.{Fits, Ready}
use Rattle.app_store.specs.Parts.{FellTo, Fell}
use Rattle.app_store.specs.Serves.{answered, is_memory, trouble}
use Rattle.node_store.specs.Acting.{joined}
use Rattle.remote_listener.specs.declared.reading.Handed.{Handed}
use Rattle.remote_listener.specs.declared.listener.Polled.{Polled}
use Rattle.remote_listener.specs.Delivering.{Delivers, QueuesUnless, StaysQueued}
use Rattle.remote_listener.specs.Queues.{FitsQueue}
use Rattle.slonik_exec.specs.Answering.{RefusesAt, BreaksAt}
use Rattle.slonik_exec.proofs.Asking.{one_place}
use Rattle.slonik_exec.proofs.Telling.{words_at}
use Rattle.slonik_exec.proofs.Works.{commits_due}
use Rattle.slon_turns.specs.Polling.{Waits, left_when, GoesAt, Once, Never, Spot, ListensAt, SpotFits, IsPolled}
use Rattle.slon_turns.specs.Polling.{IsHanded}
use Rattle.slon_turns.specs.Polling.{DeliversAt, brought, heard_as}
use Rattle.slon_turns.proofs.Acted.{acts_as}
use Rattle.slon_turns.proofs.Twice.{twice_waits}
use Rattle.slon_turns.proofs.Brought.{news_named}
use Rattle.slon_turns.proofs.Waiting.{queue_here}

-- ---- refusals and failures

-- what is in memory behind a reply that is no acceptance
pub left_refused : (delivery : Delivery) (due : Result Poll Refusal) (refusal : Refusal) (m : Memory) →
    left_when delivery due (replied.Refused refusal) m ≡ m
left_refused delivery (Ok b) refusal m = refl
left_refused delivery (Err e) refusal m = refl

pub refused_listens : (s : Spot) (due : Result Poll Refusal) (refusal : Refusal) (new : Base) (queue : Queue) →
    due ≡ Err refusal → Fits s.place new → Waits s.name s.memory queue →
    ListensAt s due (replied.Refused refusal) new queue
refused_listens s due refusal new queue is fits waits = record {
  goes = Once (RefusesAt refusal (ap (stated_of s.delivery) is) refl fits);
  waits = subst (λ m. Waits s.name m queue) (sym (left_refused s.delivery due refusal s.memory)) waits;
}

-- the store of the node failed
pub stops_listens : {new : Base} {fault : DbFault} {reply : Reply} (s : Spot) (due : Result Poll Refusal)
    (queue : Queue) → FellTo s.place s.place fault new → reply ≡ refusal_of (words_at s.name) fault →
    Waits s.name s.memory queue → ListensAt s due reply new queue
stops_listens {new} {fault} {reply} s due queue fell said waits = by fell
  where
    by : FellTo s.place s.place fault new → ListensAt s due reply new queue
    by (Fell count stands is rose fits) =
        let told = said ∙ ap (refusal_of (words_at s.name)) is in record {
          goes = Once (BreaksAt count told rose (one_place s.place count stands new fits));
          waits = subst (λ r. Waits s.name (left_when s.delivery due r s.memory) queue) (sym told)
              (subst (λ m. Waits s.name m queue)
              (sym (left_refused s.delivery due (refused.Fault s.name count) s.memory)) waits);
        }

-- ---- what is new

pub empty_map : {X Y : Type 0} (f : X → Y) (xs : List X) → is_empty xs ≡ is_empty (map f xs)
empty_map f [] = refl
empty_map f (x ∷ xs) = refl

pub polled_empty : (s : Spot) (n : Node) (l : Polled) (b : Poll) → IsPolled s n l b →
    (is_empty l.events && is_empty l.confirms) ≡ brings_nothing b
polled_empty s n l b polled =
    ap (λ e. e && is_empty l.confirms) (empty_map seen_event l.events ∙ ap is_empty polled.events)
    ∙ ap (λ e. is_empty b.events && e) (empty_map named l.confirms ∙ ap is_empty polled.confirms)

-- what was looked up of the confirmations at the node
pub polled_is : (s : Spot) (n : Node) (server : Seat) (h : Handed) (l : Polled) → IsHanded s n server h →
    l.events ≡ h.events → l.confirms ≡ filter (is_news (streams_of n)) h.rows →
    IsPolled s n l (poll_of s.memory (seat s.name s.place n) server)
polled_is s n server h l handed events confirms = record {
  own = refl;
  events = ap (map seen_event) events ∙ handed.events;
  confirms = ap (map named) confirms ∙ news_named (streams_of n) h.rows
      ∙ ap (filter (is_new n.id (streams_of n).told)) handed.rows;
}

-- nothing is new, or something is
pub brought_none : (s : Spot) (n : Node) (server : Seat) →
    brings_nothing (poll_of s.memory (seat s.name s.place n) server) ≡ true →
    brought s n server ≡ Err refused.Nothing
brought_none s n server none =
    ap (λ e. checked (when e refused.Nothing ∷ []) (poll_of s.memory (seat s.name s.place n) server)) none

pub brought_some : (s : Spot) (n : Node) (server : Seat) →
    brings_nothing (poll_of s.memory (seat s.name s.place n) server) ≡ false →
    brought s n server ≡ Ok (poll_of s.memory (seat s.name s.place n) server)
brought_some s n server some =
    ap (λ e. checked (when e refused.Nothing ∷ []) (poll_of s.memory (seat s.name s.place n) server)) some

-- ---- deliveries

-- it is lost on the way
pub lost_listens : (s : Spot) (n : Node) (l : Polled) (b : Poll) (new : Base × Queue) → IsPolled s n l b →
    s.delivery ≡ Lost → Fits s.place new.0 × Waits s.name s.memory new.1 →
    ListensAt s (Ok b) (replied.Accepted (LostOnTheWay (length l.events) (length l.confirms))) new.0 new.1
lost_listens s n l b new polled lost (fits, waits) =
    subst (λ d. ListensAt (record s { delivery = d }) (Ok b) reply new.0 new.1) (sym lost) (record {
      goes = Never (LostOnTheWay (length b.events) (length b.confirms)) refl
          (ap (λ e. replied.Accepted (LostOnTheWay e (length l.confirms))) events
          ∙ ap (λ c. replied.Accepted (LostOnTheWay (length b.events) c)) confirms) fits;
      waits = waits;
    })
  where
    reply : Reply
    reply = replied.Accepted (LostOnTheWay (length l.events) (length l.confirms))

    events : length l.events ≡ length b.events
    events = sym (length-map l.events seen_event) ∙ ap length polled.events

    confirms : length l.confirms ≡ length b.confirms
    confirms = sym (length-map l.confirms named) ∙ ap length polled.confirms

-- what was polled, by the rules
abbrev poll_by : Spot → Node → Polled → Poll
poll_by s n l =
    record {
      seat = seat s.name s.place n;
      events = map seen_event l.events;
      confirms = map named l.confirms;
    }

poll_same : (s : Spot) (n : Node) (l : Polled) (b : Poll) → IsPolled s n l b → poll_by s n l ≡ b
poll_same s n l b polled = λ i. record {
  seat = sym polled.own i;
  events = polled.events i;
  confirms = polled.confirms i;
}

-- A delivery of this many events and confirmations, with the reply to it.
record Told (events confirms : ℕ) (name : List ℕ) (result : Result Bool DbFault) (reply : Reply) : Type 0 where
  is : reply ≡ reply_of (words_at name) (answered (heard_as events confirms) result)
  full : is_memory (trouble (answered joined result)) ≡ false

goes_by : {events confirms : ℕ} {reply : Reply} {old new : Base} (s : Spot) (n : Node) (xs : List Confirmation)
    (result : Result Bool DbFault) → Told events confirms s.name result reply →
    Ready s.place old × (s.place.node ≡ Some n) → Delivers xs old result new →
    GoesAt s.name s.place (Ok (record {
      answer = Heard events confirms;
      commits = polls.hearing (seat s.name s.place n) (map named xs);
    })) reply new
goes_by {events} {confirms} s n [] (Ok doubt) told (ready, is) (sure, same) =
    Never (Heard events confirms) refl
    (told.is ∙ ap (λ d. reply_of (words_at s.name) (Ok (heard_as events confirms d))) sure)
    (subst (Fits s.place) (sym same) ready.fits)
goes_by s n [] (Err fault) told (ready, is) short = absurd (true≢false (sym short ∙ told.full))
goes_by {events} {confirms} s n (x ∷ xs) result told (ready, is) hears =
    Once (commits_due told.is (record { is = refl; named = refl })
    (acts_as (record { sure = refl; doubt = refl }) result (hears s.place n ready is told.full s.name)))

-- a fault of a database is told by no acceptance
left_fault : (delivery : Delivery) (b : Poll) (words : Words) (fault : DbFault) (m : Memory) →
    left_when delivery (Ok b) (refusal_of words fault) m ≡ m
left_fault delivery b words (Halt (Fault count)) m = refl
left_fault delivery b words (Halt others) m = refl
left_fault delivery b words others m = refl

-- What a delivery did: to the database of the node, and to what waits there.
pub record Handing (l : Polled) (name : List ℕ) (reply : Reply) (old new : Base × Queue) : Type 0 where
  pub result : Result Bool DbFault
  pub told : reply ≡ reply_of (words_at name) (answered (heard_as (length l.events) (length l.confirms)) result)
  pub full : is_memory (trouble (answered joined result)) ≡ false
  pub delivers : Delivers l.confirms old.0 result new.0
  pub queue : IfOk result (QueuesUnless (map seen_event l.events) old.1 new.1)
  pub stays : IfErr result (StaysQueued old.1 new.1)

-- what waits before a delivery with this result, and behind it
record Left (l : Polled) (result : Result Bool DbFault) (old new : Queue) : Type 0 where
  queue : IfOk result (QueuesUnless (map seen_event l.events) old new)
  stays : IfErr result (StaysQueued old new)

waits_by : {events confirms : ℕ} {reply : Reply} {old : Queue} (s : Spot) (n : Node) (l : Polled)
    (result : Result Bool DbFault) (new : Queue) → Told events confirms s.name result reply →
    Waits s.name s.memory old → Left l result old new →
    Waits s.name (left_when IsOnce (Ok (poll_by s n l)) reply s.memory) new
waits_by s n l (Ok false) new told waits left =
    subst (λ r. Waits s.name (left_when IsOnce (Ok (poll_by s n l)) r s.memory) new) (sym told.is)
    (subst (λ lines. FitsQueue lines new)
    (sym (queue_here s.name (all_queued (map seen_event l.events) (queue_at s.name s.memory)) s.memory))
    (left.queue (queue_at s.name s.memory) waits))
waits_by s n l (Ok true) new told waits left =
    subst (λ r. Waits s.name (left_when IsOnce (Ok (poll_by s n l)) r s.memory) new) (sym told.is)
    (subst (Waits s.name s.memory) (sym left.queue) waits)
waits_by s n l (Err fault) new told waits left =
    subst (λ r. Waits s.name (left_when IsOnce (Ok (poll_by s n l)) r s.memory) new) (sym told.is)
    (subst (λ m. Waits s.name m new) (sym (left_fault IsOnce (poll_by s n l) (words_at s.name) fault s.memory))
    (subst (Waits s.name s.memory) (sym (left.stays told.full)) waits))

once_listens : {old new : Base × Queue} {reply : Reply} (s : Spot) (n : Node) (l : Polled) →
    SpotFits s n old.0 old.1 → Handing l s.name reply old new →
    ListensAt (record s { delivery = IsOnce }) (Ok (poll_by s n l)) reply new.0 new.1
once_listens {new = new} {reply} s n l fits h = record {
  goes = goes_by s n l.confirms h.result told (fits.ready, fits.is) h.delivers;
  waits = waits_by s n l h.result new.1 told fits.waits (record { queue = h.queue; stays = h.stays });
}
  where
    told : Told (length (map seen_event l.events)) (length (map named l.confirms)) s.name h.result reply
    told = record {
      is = h.told
          ∙ ap (λ e. reply_of (words_at s.name) (answered (heard_as e (length l.confirms)) h.result))
          (sym (length-map l.events seen_event))
          ∙ ap (λ c. reply_of (words_at s.name) (answered (heard_as (length (map seen_event l.events)) c) h.result))
          (sym (length-map l.confirms named));
      full = h.full;
    }

pub delivers_at : {name : List ℕ} {old new : Base × Queue} {reply : Reply} (l : Polled) →
    Handing l name reply old new → DeliversAt IsOnce name l old reply new
delivers_at {name} {old} {new} {reply} l h s n b is once fits polled =
    subst (λ x. ListensAt s (Ok x) reply new.0 new.1) (poll_same s n l b polled)
    (subst (λ d. ListensAt (record s { delivery = d }) (Ok (poll_by s n l)) reply new.0 new.1) (sym once)
    (once_listens s n l fits (subst (λ x. Handing l x reply old new) (sym is) h)))

-- what arrives twice is there already the second time
pub again_listens : {new : Base × Queue} {reply : Reply} (s : Spot) (n : Node) (server : Seat) → s.delivery ≡ Again →
    ListensAt (record s { delivery = IsOnce }) (Ok (poll_of s.memory (seat s.name s.place n) server))
    reply new.0 new.1 →
    ListensAt s (Ok (poll_of s.memory (seat s.name s.place n) server)) reply new.0 new.1
again_listens {new} {reply} s n server again once =
    subst (λ d. ListensAt (record s { delivery = d }) (Ok b) reply new.0 new.1) (sym again)
    (record { goes = once.goes; waits = by reply once.waits })
  where
    b : Poll
    b = poll_of s.memory (seat s.name s.place n) server

    by : (r : Reply) → Waits s.name (left_when IsOnce (Ok b) r s.memory) new.1 →
        Waits s.name (left_when Again (Ok b) r s.memory) new.1
    by (replied.Accepted answer) waits = twice_waits s.name b.events s.memory new.1 waits
    by others waits = waits

-- where something is new, what is done of it is what the poll comes to
pub brings_as : {new : Base × Queue} {reply : Reply} (s : Spot) (n : Node) (server : Seat) →
    brings_nothing (poll_of s.memory (seat s.name s.place n) server) ≡ false →
    ListensAt s (Ok (poll_of s.memory (seat s.name s.place n) server)) reply new.0 new.1 →
    ListensAt s (brought s n server) reply new.0 new.1
brings_as {new} {reply} s n server some listens =
    subst (λ due. ListensAt s due reply new.0 new.1) (sym (brought_some s n server some)) listens

-- ---- replies that were told

-- there was memory to tell of a fault, so it was no want of memory
pub told_if : {E : Type 0} (P : Reply → Type 0) (result : Result Reply E) (fault : DbFault) (said : Reply) →
    IfOk result (λ r. r ≡ said) → (is_memory (halt_in fault) ≡ true → is_err result ≡ true) →
    ((r : Reply) → r ≡ said → is_memory (halt_in fault) ≡ false → P r) → IfOk result P
told_if P (Ok r) fault said is memory holds =
    holds r is (false_from_ne_true (is_memory (halt_in fault)) (λ short. false≢true (memory short)))
told_if P (Err e) fault said is memory holds = tt

pub joined_full : (doubt : Bool) → is_memory (trouble (Ok (joined doubt))) ≡ false
joined_full true = refl
joined_full false = refl

pub if_both : {E : Type 0} {P Q R : Reply → Type 0} (r : Result Reply E) → ((x : Reply) → P x → Q x → R x) →
    IfOk r P → IfOk r Q → IfOk r R
if_both (Ok x) both p q = both x p q
if_both (Err e) both p q = tt
