-- What waits at the databases of a session behind a poll.
use Rattle.std.proofs.Common.{◌≡◌, ◌∙◌, ℕ, false, List, [], ◌∷◌, Option, Some, None, Result, Ok, Err, refl, sym, ap}
use Rattle.std.proofs.Common.{subst}
use Rattle.std.specs.FinMap.{get, insert, remove}
use Rattle.std.specs.Str.{bytes_eq}
use Rattle.slon_model.specs.declared.command.Delivery.{Delivery}
use Rattle.slon_model.specs.declared.command.Delivery.TheVariants.{Once, Lost, Again}
use Rattle.slon_model.specs.declared.reply.Refusal.{Refusal}
use Rattle.slon_model.specs.declared.reply.Refusal.TheVariants as refused
use Rattle.slon_model.specs.declared.reply.Reply.{Reply}
use Rattle.slon_model.specs.declared.reply.Reply.TheVariants.{Accepted}
use Rattle.slon_model.specs.Place.{Place}
use Rattle.slon_model.specs.Sessions.{Memory, Seat, bind, checked, unless_refused, first_refusal, when}
use Rattle.slon_model.specs.Polls.{Poll, brings_nothing, served, poll_of, poll_at, queue_at, left_by, delivered}
use Rattle.slon_model.specs.Polls.{all_queued}
use Rattle.slon_model.specs.Working.{fetches_at}
use Rattle.event_store.specs.declared.queue.Queue.{Queue}
use Rattle.slon_turns.specs.Polling.{Waits, left_when, Spot, ListensBetween, AtOwn, AtServer}
use Rattle.slon_turns.specs.declared.held.Held.{Held}
use Rattle.slon_turns.specs.Holding.{Holdings, WaitsIn}
use Rattle.slon_turns.proofs.Listens.{left_refused}
use Rattle.slon_turns.proofs.Waiting.{queue_beside, waits_beside}
use Rattle.node_store.specs.Joining.{Pair}

-- ---- whose poll it is

bound : {A B : Type 0} (r : Result A Refusal) (f : A → Result B Refusal) (b : B) → bind r f ≡ Ok b →
    (a : A) × (f a ≡ Ok b)
bound (Ok a) f b is = (a, is)
bound (Err refusal) f b is = absurd cc

passed : {A : Type 0} (checks : List (Option Refusal)) (a b : A) → checked checks a ≡ Ok b → a ≡ b
passed checks a b is = by (first_refusal checks) is
  where
    by : (o : Option Refusal) → unless_refused o a ≡ Ok b → a ≡ b
    by None is = cc
    by (Some refusal) is = absurd cc

-- what a node polls is its own
pub own_poll : (server : ℕ) (m : Memory) (s : Seat) (found : Option (List ℕ × Place)) (b : Poll) →
    poll_at server m s found ≡ Ok b → b.seat ≡ s
own_poll server m s found b is =
    let at = bound (served server m s found) _ b is in
    ap (λ (x : Poll). x.seat)
    (sym (passed (when (brings_nothing (poll_of m s at.0)) refused.Nothing ∷ []) (poll_of m s at.0) b at.1))

-- ---- at other databases

delivered_beside : (other : List ℕ) (b : Poll) (m : Memory) → bytes_eq other b.seat.name ≡ false →
    queue_at other (delivered b m) ≡ queue_at other m
delivered_beside other b m apart =
    queue_beside other b.seat.name (all_queued b.events (queue_at b.seat.name m)) m apart

left_beside : (delivery : Delivery) (other : List ℕ) (b : Poll) (m : Memory) → bytes_eq other b.seat.name ≡ false →
    queue_at other (left_by delivery b m) ≡ queue_at other m
left_beside Once other b m apart = delivered_beside other b m apart
left_beside Lost other b m apart = refl
left_beside Again other b m apart =
    delivered_beside other b (delivered b m) apart ∙ delivered_beside other b m apart

-- A poll of the database of this name.
pub record OwnPoll (name : List ℕ) (due : Result Poll Refusal) : Type 0 where
  pub own : (b : Poll) → due ≡ Ok b → b.seat.name ≡ name

same_beside : (delivery : Delivery) (other name : List ℕ) (due : Result Poll Refusal) (reply : Reply) (m : Memory) →
    OwnPoll name due → bytes_eq other name ≡ false → queue_at other (left_when delivery due reply m) ≡ queue_at other m
same_beside delivery other name (Ok b) (Accepted answer) m own apart =
    left_beside delivery other b m (ap (bytes_eq other) (own.own b refl) ∙ apart)
same_beside delivery other name (Ok b) others m own apart = refl
same_beside delivery other name (Err refusal) reply m own apart = refl

-- ---- at all

-- What a poll of the database of this name came to, and what is held there behind it.
pub record LeftAt (m : Memory) : Type 0 where
  pub delivery : Delivery
  pub name : List ℕ
  pub due : Result Poll Refusal
  pub reply : Reply
  pub held : Held
  pub own : OwnPoll name due
  pub here : Waits name (left_when delivery due reply m) held.queue

-- the queue of one database is another one
pub waits_left : (m : Memory) (held : Holdings) (l : LeftAt m) (other : List ℕ) → WaitsIn other m (get held other) →
    WaitsIn other (left_when l.delivery l.due l.reply m) (get (insert (remove held l.name) l.name l.held) other)
waits_left m held l =
    waits_beside m held (record {
      name = l.name;
      memory = left_when l.delivery l.due l.reply m;
      held = l.held;
      here = l.here;
      beside = λ other apart. same_beside l.delivery other l.name l.due l.reply m l.own apart;
    })

-- what was fetched is kept
pub fetches_left : (delivery : Delivery) (due : Result Poll Refusal) (reply : Reply) (m : Memory) (other : List ℕ) →
    fetches_at other (left_when delivery due reply m) ≡ fetches_at other m
fetches_left Once (Ok b) (Accepted answer) m other = refl
fetches_left Lost (Ok b) (Accepted answer) m other = refl
fetches_left Again (Ok b) (Accepted answer) m other = refl
fetches_left delivery (Ok b) others m other = refl
fetches_left delivery (Err refusal) reply m other = refl

-- what waits at the node by what the poll came to
pub waits_between : {s : Spot} {server : List ℕ × Place} {due : Result Poll Refusal} {reply : Reply} {new : Pair}
    {queue : Queue} → ListensBetween s server due reply new queue →
    Waits s.name (left_when s.delivery due reply s.memory) queue
waits_between (AtOwn listens still) = listens.waits
waits_between {s} {server} {due} {queue = queue} (AtServer count told can fell fits waits) =
    subst (λ r. Waits s.name (left_when s.delivery due r s.memory) queue) (sym told)
    (subst (λ m. Waits s.name m queue) (sym (left_refused s.delivery due _ s.memory)) waits)
