-- A join as the code carries it out, and what came of it by the rules.
use Rattle.std.proofs.Common.{◌≡◌, ℕ, ◌+◌, ◌<◌, ◌≤◌, ◌^◌, true, false, List, Some, None, Ok, Err}
use Rattle.std.proofs.Common.{refl, ap, ◌∙◌}
use Rattle.slon_model.specs.Deeds.{knowledge, progress}
use Rattle.slon_model.specs.Moves.{is_last_stamp}
use Rattle.slon_model.specs.Sessions.{has_late}
use Rattle.node_state.specs.declared.memory.NodeMemory.{NodeMemory}
use Rattle.std.specs.Option.{option_map}
use Rattle.node_state.specs.Known.{identity_of}
use Rattle.app_store.proofs.Transacting.{small_stamp, last_stamp}
use Rattle.app_store.proofs.Upright.{WentDown, running}
use Rattle.slon_base.specs.declared.fault.Halt.TheVariants.{TooBig}
use Rattle.slon_model.specs.World.{halt_in}
use Rattle.slon_model.specs.declared.fault.DbFault.TheVariants.{Halt}
use Rattle.store_rows.specs.Steps.{IsOutside}
use Rattle.store_rows.specs.declared.stop.Stop.{Stop}
use Rattle.store_rows.specs.declared.stop.Stop.TheVariants.{TooBig as StopTooBig}
use Rattle.node_change.specs.declared.side.Side.TheVariants.{From, To}
use Rattle.app_store.specs.Serves.{is_memory}
use Rattle.node_store.specs.declared.joining.Fell.{Fell}
use Rattle.node_store.specs.Acting.{are_late}
use Rattle.node_store.specs.Joining.{Pair, Joiner, Stage, Both, WritesBoth, Newcomer, Stamps, JoinsAs, OneBurst}
use Rattle.node_store.specs.Joining.{OneBroke, StopsEvent, both_of, excess_both}
use Rattle.node_store.proofs.Emitted.{emitter_in, is_written, felled_fits}
use Rattle.node_store.proofs.Several.{emission_late}
use Rattle.node_store.proofs.Lookups.{Halts, IsLooked, look_fits, look_stops}
use Rattle.node_store.proofs.Outcomes.{AreUp, WroteBoth, event_of}
use Rattle.node_store.proofs.Pairs.{AreMidway}

-- what the code writes, as the rules name it
abbrev pub newcomer_of : {j : Joiner} {s : Stage} {old : Pair} → AreUp j s old → Newcomer
newcomer_of {j} {s} up = record { id = j.id; run = s.run; held = up.to.ready.fits.held.0 }

abbrev pub stamps_of : Pair → Stamps
stamps_of old = record { from = old.from.memory.stamp + 1; to = old.to.memory.stamp + 1 }

-- Both transactions are written and pending.
pub record Wrote {j : Joiner} {s : Stage} {old : Pair} (up : AreUp j s old) (number : ℕ) (kept : NodeMemory)
    (mid : Pair) : Type 0 where
  pub writes : WritesBoth (emitter_in up.from (event_of up)) (newcomer_of up) (stamps_of old) (Ok (number, kept))
      mid.from.kept mid.to.kept
  pub way : AreMidway old mid
  pub from_memory : mid.from.memory ≡ old.from.memory
  pub to_memory : mid.to.memory ≡ old.to.memory
  pub room : (old.from.memory.stamp + 1 < 2 ^ 63) × (old.to.memory.stamp + 1 < 2 ^ 63)

-- the stamp of the new node would be too big, and that of the event not
pub record AtLimit (old : Pair) : Type 0 where
  pub from : old.from.memory.stamp + 1 < 2 ^ 63
  pub to : 2 ^ 63 ≤ old.to.memory.stamp + 1

-- neither would be
pub record HasRoom (old : Pair) : Type 0 where
  pub from : old.from.memory.stamp + 1 < 2 ^ 63
  pub to : old.to.memory.stamp + 1 < 2 ^ 63

-- ---- which number is too big

both_within : (b : Both) → is_last_stamp b.from ≡ false → is_last_stamp b.to ≡ false →
    has_late b.event.deeds ≡ false → excess_both b ≡ None
both_within b from to late = rw (from, to, late) refl

first_full : (b : Both) → is_last_stamp b.from ≡ true → excess_both b ≡ Some (From, 1)
first_full b from = rw from refl

second_full : (b : Both) → is_last_stamp b.from ≡ false → is_last_stamp b.to ≡ true →
    excess_both b ≡ Some (To, 1)
second_full b from to = rw (from, to) refl

event_full : (b : Both) → is_last_stamp b.from ≡ false → is_last_stamp b.to ≡ false →
    has_late b.event.deeds ≡ true → excess_both b ≡ Some (From, 10)
event_full b from to late = rw (from, to, late) refl

-- ---- one of them falls

-- what came of a join in which one database fell
abbrev OneFell : Joiner → Stage → Fell → Pair → Type 0
OneFell j s fell new = JoinsAs (both_of j s) (progress s.node.id (knowledge s.node) + 1) (Err fell) new

-- ---- both

pub wrote_both : {j : Joiner} {s : Stage} {old mid : Pair} (up : AreUp j s old) (number : ℕ) (kept : NodeMemory) →
    Wrote up number kept mid → WroteBoth up number kept mid
wrote_both {j = j} {s = s} {old} up number kept w =
    let node = w.writes.1 in
    let written = is_written up.from (event_of up) w.writes.0 in record {
      event = record {
        written = written;
        plain = record { members = λ name. refl; names = λ name. refl };
        learns = (up.ready.learns, tt);
        way = w.way.from;
        memory = w.from_memory;
      };
      node = record {
        none = up.ready.none;
        fresh = refl;
        store = node.0;
        pending = node.1;
        is = node.2;
        known = node.3;
        way = w.way.to;
        memory = w.to_memory;
      };
      room = both_within (both_of j s)
          (small_stamp s.from old.from.memory.stamp (running up.from).1.stamp w.room.0)
          (small_stamp s.to old.to.memory.stamp (running up.to).1.stamp w.room.1)
          (emission_late s.from_name s.from s.node (event_of up).parts false written.has.small);
    }

-- ---- a store that stopped before the commits, or a number that is too big

-- the store of the event node stopped
pub from_broke : {j : Joiner} {s : Stage} {old new : Pair} {stop : Stop} (up : AreUp j s old) (fell : Fell) →
    fell.side ≡ From → Halts stop fell.fault old.from new.from → IsLooked old.to new.to →
    (is_memory (halt_in fell.fault) ≡ false) × IsOutside stop → OneFell j s fell new
from_broke {new = new} up fell side halts looked (memory, only) =
    OneBroke From fell.fault (λ i. Err (record { side = side i; fault = fell.fault }))
    (look_stops up.from halts memory only, look_fits up.to looked)

-- or that of the new one
pub to_broke : {j : Joiner} {s : Stage} {old new : Pair} {stop : Stop} (up : AreUp j s old) (fell : Fell) →
    fell.side ≡ To → IsLooked old.from new.from → Halts stop fell.fault old.to new.to →
    (is_memory (halt_in fell.fault) ≡ false) × IsOutside stop → OneFell j s fell new
to_broke {new = new} up fell side looked halts (memory, only) =
    OneBroke To fell.fault (λ i. Err (record { side = side i; fault = fell.fault }))
    (look_fits up.from looked, look_stops up.to halts memory only)

-- a stamp would be too big
pub from_bursts : {j : Joiner} {s : Stage} {old new : Pair} (up : AreUp j s old) (fell : Fell) →
    (fell.side ≡ From) × (fell.fault ≡ Halt (TooBig 1)) → 2 ^ 63 ≤ old.from.memory.stamp + 1 →
    WentDown old.from new.from → IsLooked old.to new.to → OneFell j s fell new
from_bursts {j = j} {s = s} {old} up fell (side, fault) most down looked =
    OneBurst From 1 (λ i. Err (record { side = side i; fault = fault i }))
    (first_full (both_of j s) (last_stamp s.from old.from.memory.stamp (running up.from).1.stamp most))
    (record { from = felled_fits up.from _ down; to = look_fits up.to looked })

-- or the number of the event
pub event_bursts : {j : Joiner} {s : Stage} {old new : Pair} (up : AreUp j s old) (fell : Fell) →
    (fell.side ≡ From) × (fell.fault ≡ Halt (TooBig 10)) → HasRoom old →
    (are_late s.from s.node (event_of up).parts ≡ true) × WentDown old.from new.from → IsLooked old.to new.to →
    OneFell j s fell new
event_bursts {j = j} {s = s} {old} up fell (side, fault) room (late, down) looked =
    OneBurst From 10 (λ i. Err (record { side = side i; fault = fault i }))
    (event_full (both_of j s)
    (small_stamp s.from old.from.memory.stamp (running up.from).1.stamp room.from)
    (small_stamp s.to old.to.memory.stamp (running up.to).1.stamp room.to)
    (emission_late s.from_name s.from s.node (event_of up).parts true late))
    (record { from = felled_fits up.from _ down; to = look_fits up.to looked })

-- why the event node stopped
pub from_stops : {j : Joiner} {s : Stage} {old new : Pair} (up : AreUp j s old) (fell : Fell) (stop : Stop) →
    (fell.side ≡ From) × HasRoom old → StopsEvent (emitter_in up.from (event_of up)) From stop →
    Halts stop fell.fault old.from new.from × (old.from.kept.faults ≤ new.from.kept.faults)
    × (is_memory (halt_in fell.fault) ≡ false) → IsLooked old.to new.to → OneFell j s fell new
from_stops up fell (StopTooBig space) (side, room) stops (h, later, memory) looked =
    event_bursts up fell (side, h.fault_is ∙ ap (λ n. Halt (TooBig n)) stops.0) room
    (stops.1, record { down = h.down; looked = record { held = h.held; later = later } }) looked
from_stops up fell others (side, room) stops (h, later, memory) looked =
    from_broke up fell side h looked (memory, stops)

pub to_bursts : {j : Joiner} {s : Stage} {old new : Pair} (up : AreUp j s old) (fell : Fell) →
    (fell.side ≡ To) × (fell.fault ≡ Halt (TooBig 1)) → AtLimit old → IsLooked old.from new.from →
    WentDown old.to new.to → OneFell j s fell new
to_bursts {j = j} {s = s} {old} up fell (side, fault) limit looked down =
    OneBurst To 1 (λ i. Err (record { side = side i; fault = fault i }))
    (second_full (both_of j s)
    (small_stamp s.from old.from.memory.stamp (running up.from).1.stamp limit.from)
    (last_stamp s.to old.to.memory.stamp (running up.to).1.stamp limit.to))
    (record { from = look_fits up.from looked; to = felled_fits up.to _ down })

-- the cluster that is kept is that of the node
pub cluster_is : {j : Joiner} {s : Stage} {old : Pair} {cluster : List ℕ} (up : AreUp j s old) →
    option_map (λ i. i.cluster) old.from.memory.identity ≡ Some cluster → cluster ≡ s.node.cluster
cluster_is {s = s} {old} {cluster} up some =
    let known : option_map (λ i. i.cluster) old.from.memory.identity ≡ Some s.node.cluster =
    ap (option_map (λ i. i.cluster)) ((running up.from).1.known.identity_is ∙ ap identity_of up.ready.is) in
    cc (some, known)
