-- What came of a join, by the rules.
use Rattle.std.proofs.Common.{◌≡◌, ℕ, ◌+◌, Bool, true, false, [], ◌∷◌, Some, None, Result, Ok, Err, ap, subst}
use Rattle.std.proofs.Common.{◌∙◌, arith}
use Rattle.slon_base.specs.Counts.{Rose}
use Rattle.node_rows.specs.declared.body.Body.TheVariants.{StoreNode}
use Rattle.slon_model.specs.Deeds.{Node, knowledge, progress}
use Rattle.slon_model.specs.Membership.{joining}
use Rattle.slon_model.specs.Place.{Place}
use Rattle.slon_model.specs.Sessions.{committing, in_doubt, tells}
use Rattle.slon_model.specs.declared.fault.DbFault.{DbFault}
use Rattle.store_rows.specs.Steps.{IsOutside, is_stop_failed}
use Rattle.store_rows.specs.declared.stop.Stop.{Stop}
use Rattle.node_change.specs.declared.side.Side.{Side}
use Rattle.node_change.specs.declared.side.Side.TheVariants.{From, To}
use Rattle.node_state.specs.declared.memory.NodeMemory.{NodeMemory}
use Rattle.app_store.specs.Base.{Base, GoesDown}
use Rattle.app_store.specs.Fits.{Fits}
use Rattle.app_store.specs.Parts.{halt_of}
use Rattle.app_store.proofs.Upright.{UpAt}
use Rattle.node_store.specs.declared.joining.Joined.{Joined}
use Rattle.node_store.specs.declared.joining.Joined.TheVariants.{Done, EventInDoubt, NodeInDoubt}
use Rattle.node_store.specs.declared.joining.Fell.{Fell}
use Rattle.node_store.specs.Finishing.{Becomes}
use Rattle.node_store.specs.Joining.{Pair, Joiner, Stage, both_of, IsReady, excess_both, JoinsAs, BothStood}
use Rattle.node_store.specs.Joining.{FirstWavered}
use Rattle.node_store.specs.Joining.{SecondWavered, EndsBoth, HaltsOne, HasStood, IsDoubted, IsSpared, is_short}
use Rattle.node_store.specs.Midways.{Begun}
use Rattle.node_store.proofs.Becoming.{WroteNode, node_stands, node_wavers, halted_short}
use Rattle.node_store.proofs.Emitted.{Announcement, commit_in, node_after, held_stood, either_held, emission_stands}
use Rattle.node_store.proofs.Emitted.{WroteEvent, emission_wavers}
use Rattle.node_store.proofs.Several.{next_is}
use Rattle.node_store.proofs.Lookups.{look_fits}
use Rattle.node_store.proofs.Pairs.{Ending, numbered, begun_way}

-- ---- one database

-- an event that is written and pending, and then stands
pub event_stands : {p : Place} {b mid : Base} {number stamp : ℕ} (at : UpAt p b) (e : Announcement p) (new : Base) →
    WroteEvent at e number mid → HasStood stamp mid new → stamp ≡ b.memory.stamp + 1 → Fits
    (committing (commit_in e) p) new
event_stands {b = b} {number = number} at e new w stood stamp = emission_stands at e new (record {
  store = w.written.store;
  number = number;
  has = w.written.has;
  changed = record {
    held = held_stood w.written new.kept.held stood.finishes.ends;
    later = omega (arith, w.way.later, stood.finishes.counted.later);
  };
  members = b.memory.members;
  learned = w.plain;
  memory = stood.memory ∙ (λ i. record (w.memory i) { stamp = stamp i });
}) w.learns

-- or is in doubt
pub event_wavers : {p : Place} {b mid : Base} {number stamp : ℕ} (at : UpAt p b) (e : Announcement p) (new : Base) →
    WroteEvent at e number mid → IsDoubted stamp mid new → stamp ≡ b.memory.stamp + 1 →
    (stands : Bool) × Fits (in_doubt (commit_in e) stands p) new
event_wavers {mid = mid} at e new w doubted stamp = emission_wavers at e w.written.store new w.written.has (record {
  up = doubted.down.up;
  doubt = doubted.doubt ∙ ap (λ n. Some n) stamp;
  identity = doubted.down.identity ∙ ap (λ m. m.identity) w.memory;
  later = omega (arith, w.way.later, doubted.finishes.counted.later);
  either = either_held w.written new.kept w.way.held doubted.finishes.ends;
})

-- a transaction that was taken back
pub spared_fits : {p : Place} {b mid new : Base} → UpAt p b → Begun b.kept mid.kept → mid.memory ≡ b.memory →
    IsSpared mid new → Fits p new
spared_fits at begun same spared = look_fits at (record {
  held = spared.gives_up.held ∙ begun.held;
  later = omega (arith, begun.later, spared.gives_up.later);
  memory = spared.memory ∙ same;
})

-- ---- both

-- Both are up and agree with the rules.
pub record AreUp (j : Joiner) (s : Stage) (old : Pair) : Type 0 where
  pub ready : IsReady j s old
  pub from : UpAt s.from old.from
  pub to : UpAt s.to old.to

-- the event that stores the node
abbrev pub event_of : {j : Joiner} {s : Stage} {old : Pair} → AreUp j s old → Announcement s.from
event_of {j} {s} up = record {
  node = s.node;
  is = up.ready.is;
  parts = tells (StoreNode j.id j.comment) ∷ [];
  name = s.from_name;
}

-- and the node that it stores
abbrev pub node_in : {j : Joiner} {s : Stage} {old : Pair} → AreUp j s old → Node
node_in {j} {s} up = joining j.id (node_after (event_of up)) s.run

-- What is written and pending in both stores.
pub record WroteBoth {j : Joiner} {s : Stage} {old : Pair} (up : AreUp j s old) (number : ℕ) (kept : NodeMemory)
    (mid : Pair) : Type 0 where
  pub event : WroteEvent up.from (event_of up) number mid.from
  pub node : WroteNode up.to (node_in up) kept mid.to
  pub room : excess_both (both_of j s) ≡ None

-- the number of the event is the next one
number_one : {j : Joiner} {s : Stage} {old mid : Pair} {kept : NodeMemory} (up : AreUp j s old) (number : ℕ) →
    WroteBoth up number kept mid → number ≡ progress s.node.id (knowledge s.node) + 1
number_one {j} {s} up number w =
    w.event.written.has.number_is ∙ next_is s.from s.node (tells (StoreNode j.id j.comment))

pub ends_joins : {j : Joiner} {s : Stage} {old mid new : Pair} (up : AreUp j s old) (e : Ending) (number : ℕ)
    (result : Result Joined Fell) → WroteBoth up number e.kept mid →
    (e.stamps.from ≡ old.from.memory.stamp + 1) × (e.stamps.to ≡ old.to.memory.stamp + 1) →
    EndsBoth e.kept e.stamps mid result new × (is_short (numbered number result) ≡ false) →
    JoinsAs (both_of j s) (progress s.node.id (knowledge s.node) + 1) (numbered number result) new
ends_joins {s = s} {mid = mid} {new = new} up e number (Ok Done) w stamps (ends, long) =
    BothStood (λ i. Ok (number_one up number w i, Done)) w.room (record {
      from = event_stands up.from (event_of up) new.from w.event ends.0 stamps.0;
      to = node_stands up.to (node_in up) s.to_name new.to w.node
          (subst (λ n. Becomes e.kept n mid.to (Ok false) new.to) stamps.1 ends.1);
    })
ends_joins {s = s} {mid = mid} {new = new} up e number (Ok EventInDoubt) w stamps (ends, long) =
    let fits = event_wavers up.from (event_of up) new.from w.event ends.0 stamps.0 in
    FirstWavered fits.0 (λ i. Ok (number_one up number w i, EventInDoubt)) w.room
    (record { from = fits.1; to = spared_fits up.to (begun_way w.node.way) w.node.memory ends.1 })
ends_joins {s = s} {mid = mid} {new = new} up e number (Ok NodeInDoubt) w stamps (ends, long) =
    let fits = node_wavers up.to (node_in up) s.to_name new.to w.node
    (subst (λ n. Becomes e.kept n mid.to (Ok true) new.to) stamps.1 ends.1) in
    SecondWavered fits.0 (λ i. Ok (number_one up number w i, NodeInDoubt)) w.room
    (record { from = event_stands up.from (event_of up) new.from w.event ends.0 stamps.0; to = fits.1 })
ends_joins {j = j} {s = s} {mid = mid} {new = new} up e number (Err f) w stamps (ends, long) = by f.side ends
  where
    by : (side : Side) → HaltsOne side f.fault e.stamps mid new →
        JoinsAs (both_of j s) (progress s.node.id (knowledge s.node) + 1) (Err f) new
    by From halts = halted_short halts.0 long
    by To halts = halted_short halts.1 long

-- ---- before the commits

-- The store of one stopped, and what was pending in the other one is taken back.
pub record BrokeOff (stop : Stop) (fault : DbFault) (old new : Base) : Type 0 where
  pub held : new.kept.held ≡ old.kept.held
  pub down : GoesDown old.memory new.memory
  pub rose : is_stop_failed stop ≡ true → Rose old.kept.faults new.kept.faults
  pub fault_is : fault ≡ halt_of stop new.kept.faults
  pub only : IsOutside stop
