-- A ceiling that rises where a draw needs it, by the rules.
use Rattle.std.proofs.Common.{◌≡◌, ◌∙◌, ℕ, ◌+◌, ◌≤◌, Bool, true, false, cond, Result, Ok, Err, refl, sym, ap, subst}
use Rattle.std.proofs.Common.{arith}
use Rattle.std.specs.Prelude.{◌==◌, ◌&&◌}
use Rattle.slon_base.specs.Keeper.{Kept, Store}
use Rattle.slon_base.specs.Codec.{number_bytes}
use Rattle.slon_base.specs.declared.fault.Halt.TheVariants.{TooBig as HaltTooBig}
use Rattle.slon_model.specs.declared.numbering.Numbering.{Numbering}
use Rattle.slon_model.specs.declared.numbering.Numbering.TheVariants.{Xids, Actions}
use Rattle.slon_model.specs.declared.fault.DbFault.{DbFault}
use Rattle.slon_model.specs.declared.fault.DbFault.TheVariants.{Halt}
use Rattle.slon_model.specs.Names.{find_named}
use Rattle.slon_model.specs.Place.{Place, Counter, IsRunning, counter, with_counter, lifted, stamped, raised, node_id}
use Rattle.slon_model.specs.Moves.{is_last}
use Rattle.store_rows.specs.declared.stop.Stop.{Stop}
use Rattle.app_store.specs.declared.ceilings.Unlifted.{Unlifted}
use Rattle.app_store.specs.declared.ceilings.Unlifted.TheVariants.{TooBig, Stopped as StoppedBy}
use Rattle.app_store.specs.Base.{Memory, Base}
use Rattle.app_store.specs.Fits.{Fits, Runs}
use Rattle.app_store.specs.Serves.{counter_in}
use Rattle.app_store.specs.Parts.{RaisedTo, Raises, Bursts, StopsRaise}
use Rattle.app_store.specs.Spelled.{Holds, new_ceiling}
use Rattle.store_rows.specs.Steps.{IsOutside}
use Rattle.app_store.specs.Works.{Lifts, LeavesIt, LiftsIt, PassesIt, StopsIt, is_past}
use Rattle.app_store.proofs.Holding.{ceiling_key, holds_lifted}
use Rattle.app_store.proofs.Standing.{fits_running, looked, opens_same, crashed_fits, fell_by, Stopped, IsDown}
use Rattle.app_store.proofs.Upright.{UpAt, is_up, running}

-- the memory with another counter and stamp
abbrev pub with_lifted : Numbering → Counter → ℕ → Memory → Memory
with_lifted Xids c stamp m = record m { xids = c; stamp = stamp }
with_lifted Actions c stamp m = record m { numbers = c; stamp = stamp }

counter_same : (kind : Numbering) (p : Place) (m : Memory) → Runs p m → counter_in kind m ≡ counter kind p
counter_same Xids p m runs = runs.xids
counter_same Actions p m runs = runs.numbers

same_memory : (kind : Numbering) (m : Memory) (d : Counter) (stamp : ℕ) → d ≡ counter_in kind m → stamp ≡ m.stamp →
    with_lifted kind d stamp m ≡ m
same_memory Xids m d stamp is same = λ i. record m { xids = is i; stamp = same i }
same_memory Actions m d stamp is same = λ i. record m { numbers = is i; stamp = same i }

-- the place whose ceiling was lifted
abbrev lifted_place : Numbering → Place → Place
lifted_place kind p = stamped (with_counter kind (lifted (counter kind p)) p)

lifted_runs : (kind : Numbering) (p : Place) (m : Memory) (d : Counter) (stamp : ℕ) → Runs p m →
    d ≡ lifted (counter kind p) → stamp ≡ p.stamp + 1 → Runs (lifted_place kind p) (with_lifted kind d stamp m)
lifted_runs Xids p m d stamp runs is same = record {
  up = runs.up;
  stamp = same;
  settled = runs.settled;
  founded = omega arith;
  xids = is;
  numbers = runs.numbers;
  opened =
      λ name. opens_same p (lifted_place Xids p) (find_named name p.opens)
      (Rattle.std.specs.FinMap.get m.opens name) (refl, refl, refl) (runs.opened name);
  locked = runs.locked;
  begun = runs.begun;
  known = runs.known;
  unpromised = runs.unpromised;
}
lifted_runs Actions p m d stamp runs is same = record {
  up = runs.up;
  stamp = same;
  settled = runs.settled;
  founded = omega arith;
  xids = runs.xids;
  numbers = is;
  opened =
      λ name. opens_same p (lifted_place Actions p) (find_named name p.opens)
      (Rattle.std.specs.FinMap.get m.opens name) (refl, refl, refl) (runs.opened name);
  locked = runs.locked;
  begun = runs.begun;
  known = runs.known;
  unpromised = runs.unpromised;
}

lifted_standing : (kind : Numbering) (p : Place) → p.standing ≡ IsRunning → (lifted_place kind p).standing ≡ IsRunning
lifted_standing Xids p is = is
lifted_standing Actions p is = is

lifted_node : (kind : Numbering) (p : Place) → node_id (lifted_place kind p) ≡ node_id p
lifted_node Xids p = refl
lifted_node Actions p = refl

lifted_told : (kind : Numbering) (p : Place) → (lifted_place kind p).told ≡ p.told
lifted_told Xids p = refl
lifted_told Actions p = refl

-- what the tests of the code say of the place
test_same : (kind : Numbering) (p : Place) (m : Memory) (t : Bool) → Runs p m →
    ((counter_in kind m).next == (counter_in kind m).ceiling) ≡ t →
    ((counter kind p).next == (counter kind p).ceiling) ≡ t
test_same kind p m t runs is = ap (λ c. c.next == c.ceiling) (sym (counter_same kind p m runs)) ∙ is

past_same : (kind : Numbering) (p : Place) (m : Memory) (t : Bool) → Runs p m →
    is_past m.stamp (counter_in kind m).ceiling ≡ t → is_past p.stamp (counter kind p).ceiling ≡ t
past_same kind p m t runs is =
    ap (λ c. is_past p.stamp c.ceiling) (sym (counter_same kind p m runs))
    ∙ ap (λ n. is_past n (counter_in kind m).ceiling) (sym runs.stamp) ∙ is

raised_as : (kind : Numbering) (p : Place) (t : Bool) → ((counter kind p).next == (counter kind p).ceiling) ≡ t →
    raised kind p ≡ cond t (lifted_place kind p) p
raised_as kind p t is = ap (λ b. cond b (lifted_place kind p) p) is

last_as : (kind : Numbering) (p : Place) (t u : Bool) → ((counter kind p).next == (counter kind p).ceiling) ≡ t →
    is_past p.stamp (counter kind p).ceiling ≡ u → is_last kind p ≡ (t && u)
last_as kind p t u at past = ap (λ b. b && is_past p.stamp (counter kind p).ceiling) at ∙ ap (λ b. t && b) past

-- the store with the ceiling that is lifted, and with the next stamp
abbrev with_ceiling : Numbering → Base → Store → Store
with_ceiling kind b m =
    new_ceiling (ceiling_key kind) (number_bytes ((counter_in kind b.memory).ceiling + 64))
    (number_bytes (b.memory.stamp + 1)) m

lifted_holds : {p : Place} {b : Base} (kind : Numbering) (at : UpAt p b) →
    Holds (lifted_place kind p) (with_ceiling kind b at.ready.fits.held.0)
lifted_holds {p} {b} kind at =
    let runs = (running at).1 in
    let fits = at.ready.fits in
    subst
    (λ c. Holds (lifted_place kind p)
    (new_ceiling (ceiling_key kind) (number_bytes (c.ceiling + 64))
    (number_bytes (b.memory.stamp + 1)) fits.held.0)) (sym (counter_same kind p b.memory runs))
    (subst
    (λ n. Holds (lifted_place kind p)
    (new_ceiling (ceiling_key kind) (number_bytes ((counter kind p).ceiling + 64))
    (number_bytes (n + 1)) fits.held.0)) (sym runs.stamp)
    (holds_lifted kind p fits.held.0 runs.founded fits.held.2))

-- what the draw of a number made of the counter and of the store
abbrev pub LiftsAt : {p : Place} {b : Base} → UpAt p b → Numbering → Result (Unit {0}) Unlifted → Kept → Counter → ℕ →
    Type 0
LiftsAt {b = b} at kind result new d stamp =
    Lifts (ceiling_key kind) at.ready.fits.held.0 (counter_in kind b.memory) b.memory.stamp result new.held d stamp

pub raised_ok : {p : Place} {b : Base} (kind : Numbering) (kept : Kept) (d : Counter) (stamp : ℕ) (at : UpAt p b) →
    LiftsAt at kind (Ok tt) kept d stamp → b.kept.faults ≤ kept.faults →
    RaisedTo kind p (Ok tt) (record { kept = kept; memory = with_lifted kind d stamp b.memory })
raised_ok {p} {b} kind kept d stamp at lifts later = by lifts
  where
    runs : (p.standing ≡ IsRunning) × Runs p b.memory
    runs = running at

    new : Base
    new = record { kept = kept; memory = with_lifted kind d stamp b.memory }

    by : LiftsAt at kind (Ok tt) kept d stamp → RaisedTo kind p (Ok tt) new
    by (LeavesIt is below held same_counter same_stamp) =
        let under = test_same kind p b.memory false runs.1 below in
        Raises refl (ap (λ t. t && is_past p.stamp (counter kind p).ceiling) under)
        (subst (λ q. Fits q new) (sym (raised_as kind p false under))
        (subst (λ m. Fits p (record { kept = kept; memory = m }))
        (sym (same_memory kind b.memory d stamp same_counter same_stamp))
        (looked p b kept at.ready.fits (held ∙ sym at.ready.fits.held.1) later)))
    by (LiftsIt is at_end within held counter_is stamp_is) =
        let there = test_same kind p b.memory true runs.1 at_end in
        Raises refl (last_as kind p true false there (past_same kind p b.memory false runs.1 within))
        (subst (λ q. Fits q new) (sym (raised_as kind p true there))
        (fits_running (lifted_place kind p) new _ (lifted_standing kind p runs.0)
        (lifted_runs kind p b.memory d stamp runs.1 (counter_is ∙ ap lifted (counter_same kind p b.memory runs.1))
        (stamp_is ∙ ap (λ n. n + 1) runs.1.stamp))
        (omega (arith, at.ready.fits.told, later, lifted_told kind p)) held (lifted_holds kind at)))
    by (PassesIt is at_end past held) = absurd cc
    by (StopsIt stop is at_end within either only) = absurd cc

-- The database went down where a number would pass the limit, and says so.
pub record IsBurst (fault : DbFault) (old new : Base) : Type 0 where
  pub fault_is : fault ≡ Halt (HaltTooBig 1)
  pub later : old.kept.faults ≤ new.kept.faults
  pub down : IsDown old.memory new.memory

pub raised_big : {p : Place} {b : Base} {d : Counter} {stamp : ℕ} (kind : Numbering) (new : Base) (fault : DbFault)
    (at : UpAt p b) → LiftsAt at kind (Err TooBig) new.kept d stamp → IsBurst fault b new →
    RaisedTo kind p (Err fault) new
raised_big {p} {b} {d} {stamp} kind new fault at lifts burst = by lifts
  where
    runs : Runs p b.memory
    runs = (running at).1

    by : LiftsAt at kind (Err TooBig) new.kept d stamp → RaisedTo kind p (Err fault) new
    by (LeavesIt is below held same_counter same_stamp) = absurd cc
    by (LiftsIt is at_end within held counter_is stamp_is) = absurd cc
    by (PassesIt is at_end past held) =
        Bursts (ap (λ f. Err f) burst.fault_is)
        (last_as kind p true true (test_same kind p b.memory true runs at_end)
        (past_same kind p b.memory true runs past))
        (crashed_fits p b new (is_up at) (record {
          down = burst.down;
          held = held ∙ sym at.ready.fits.held.1;
          later = burst.later;
        }))
    by (StopsIt stop is at_end within either only) = absurd cc

pub raised_stop : {p : Place} {b : Base} {d : Counter} {stamp : ℕ} (kind : Numbering) (new : Base) (stop : Stop)
    (fault : DbFault) (at : UpAt p b) → LiftsAt at kind (Err (StoppedBy stop)) new.kept d stamp →
    (IsOutside stop → Stopped stop fault b new) → RaisedTo kind p (Err fault) new
raised_stop {p} {b} {d} {stamp} kind new stop fault at lifts stopped = by lifts
  where
    runs : (p.standing ≡ IsRunning) × Runs p b.memory
    runs = running at

    by : LiftsAt at kind (Err (StoppedBy stop)) new.kept d stamp → RaisedTo kind p (Err fault) new
    by (LeavesIt is below held same_counter same_stamp) = absurd cc
    by (LiftsIt is at_end within held counter_is stamp_is) = absurd cc
    by (PassesIt is at_end past held) = absurd cc
    by (StopsIt other is at_end within either only) =
        let same : stop ≡ other = cc in
        let there = test_same kind p b.memory true runs.1 at_end in
        StopsRaise fault (last_as kind p true false there (past_same kind p b.memory false runs.1 within)) refl
        (fell_by (raised kind p) new stop fault (is_up at) (record {
          change = with_ceiling kind b at.ready.fits.held.0;
          running =
              subst (λ q. q.standing ≡ IsRunning) (sym (raised_as kind p true there)) (lifted_standing kind p runs.0);
          node = ap node_id (raised_as kind p true there) ∙ lifted_node kind p;
          holds =
              subst (λ q. Holds q (with_ceiling kind b at.ready.fits.held.0)) (sym (raised_as kind p true there))
              (lifted_holds kind at);
          either = either;
        }) (stopped (subst IsOutside (sym same) only)))
