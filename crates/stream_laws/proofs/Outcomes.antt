-- What a script or a turn comes to: commits behind which the nodes went on, and events that wait as they should.
use Rattle.std.proofs.Common.{ℕ, List, [], ◌∷◌, Result, refl}
use Rattle.node_rows.specs.declared.body.Body.TheVariants.{Sync}
use Rattle.slon_model.specs.declared.command.Delivery.{Delivery}
use Rattle.slon_model.specs.declared.command.Delivery.TheVariants.{Lost}
use Rattle.slon_model.specs.declared.reply.Refusal.{Refusal}
use Rattle.slon_model.specs.Names.{Named}
use Rattle.slon_model.specs.Maps.{Map}
use Rattle.slon_model.specs.Events.{Event}
use Rattle.slon_model.specs.Tasks.{Act}
use Rattle.slon_model.specs.Sessions.{World, Commit, Stated, tells}
use Rattle.slon_model.specs.Scripts.{ordered}
use Rattle.slon_model.specs.Turns.{sync_turn, on_turn}
use Rattle.slon_model.specs.Polls.{Poll, polled, left_by, stated_by}
use Rattle.slon_model.specs.Working.{Carried, fetched, worked, applied_by, taken_from}
use Rattle.slon_model.specs.World.{outcome}
use Rattle.slon_laws.proofs.Leaves.{outcome_has}
use Rattle.slon_laws.proofs.Results.{any_ok}
use Rattle.stream_laws.specs.Nodes.{nodes_in}
use Rattle.stream_laws.specs.Facts.{IsRegular, AllWait}
use Rattle.stream_laws.proofs.Growing.{go_nowhere}
use Rattle.stream_laws.proofs.Seats.{OnOk, ok_then, IsSeat, bind_ok, kept_ok, turn_ok}
use Rattle.stream_laws.proofs.Commits.{AllGoOn, hears_all, applies_all}
use Rattle.stream_laws.proofs.Statements.{IsStated, free_stated, ordered_stated}
use Rattle.stream_laws.proofs.Waiting.{IsPoll, polled_ok, left_waits, taken_waits, forgotten_waits}
use Rattle.stream_laws.proofs.Works.{IsWork, work_ok}

-- Commits go on from the session, and what waits behind them is of streams of the session.
pub record IsOutcome (w : World) (commits : List Commit) (queues : Named (Map (List Event))) : Type 0 where
  pub goes_on : AllGoOn (nodes_in w.places) commits w.places
  pub waits : AllWait (nodes_in w.places) queues

-- with the same events waiting
leaves_waiting : (w : World) → IsRegular w → (r : Result Stated Refusal) → OnOk (IsStated w) r →
    OnOk (λ stated. IsOutcome w stated.commits w.memory.queues) r
leaves_waiting w regular r is =
    ok_then (IsStated w) (λ stated. IsOutcome w stated.commits w.memory.queues) r is
    (λ stated goes. record { goes_on = goes; waits = regular.waits })

sync_stated : (node : ℕ) (w : World) → IsRegular w → OnOk (IsStated w) (sync_turn node w)
sync_stated node w regular =
    bind_ok (IsSeat w.places) (IsStated w) (on_turn node w) _ (turn_ok node w regular.once)
    (λ s is. let done = free_stated w regular s is (tells Sync ∷ []) (refl, tt) in search (kept_ok (IsStated w), done))

poll_stated : (delivery : Delivery) (w : World) (b : Poll) → IsRegular w → IsPoll w b →
    IsStated w (stated_by delivery b)
poll_stated Lost w b regular is = go_nowhere (nodes_in w.places) regular.nodes
poll_stated others w b regular is = hears_all w.places b.seat b.confirms is.seat regular.nodes is.confirms

poll_left : (delivery : Delivery) (w : World) → IsRegular w → (b : Poll) → IsPoll w b →
    IsOutcome w (stated_by delivery b).commits (left_by delivery b w.memory).queues
poll_left delivery w regular b is = record {
  goes_on = poll_stated delivery w b regular is;
  waits = left_waits (nodes_in w.places) delivery b w.memory is.events regular.waits;
}

work_left : (w : World) → IsRegular w → (origin : ℕ) (c : Carried) → IsWork w origin c.seat c.event →
    IsOutcome w (applied_by c).commits (taken_from c w.memory).queues
work_left w regular origin c is = record {
  goes_on = applies_all w.places c is.seat regular.nodes is.event is.next;
  waits = taken_waits (nodes_in w.places) c w.memory regular.waits;
}

silent : (w : World) → IsRegular w → (queues : Named (Map (List Event))) → AllWait (nodes_in w.places) queues →
    IsOutcome w [] queues
silent w regular queues waits = record { goes_on = go_nowhere (nodes_in w.places) regular.nodes; waits = waits }

pub act_outcome : (act : Act) (w : World) → IsRegular w →
    IsOutcome w (outcome act w).commits (outcome act w).memory.queues
act_outcome act w regular = outcome_has w (λ commits queues fetches. IsOutcome w commits queues) (record {
  nothing = silent w regular w.memory.queues regular.waits;
  stops = λ name. silent w regular _ (forgotten_waits (nodes_in w.places) name w.memory regular.waits);
  gives_up = λ name origin. silent w regular w.memory.queues regular.waits;
  orders = λ o run. leaves_waiting w regular (ordered o run w) (ordered_stated o run w regular);
  syncs = λ node. leaves_waiting w regular (sync_turn node w) (sync_stated node w regular);
  polls = λ node server delivery.
      ok_then (IsPoll w) _ (polled node server w) (polled_ok node server w regular) (poll_left delivery w regular);
  fetches = λ node origin. any_ok _ (fetched node origin w)
      (λ x. silent w regular w.memory.queues regular.waits);
  works = λ node origin.
      ok_then (λ c. IsWork w origin c.seat c.event) _ (worked node origin w) (work_ok node origin w regular)
      (work_left w regular origin);
}) act
