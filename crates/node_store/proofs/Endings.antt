-- What came of a commit of one node that was not made: a number that is too big, or a store that stopped.
use Rattle.std.proofs.Common.{◌≡◌, ◌∙◌, ◌+◌, ◌<◌, ◌≤◌, ◌^◌, false, Err, refl, ap}
use Rattle.slon_base.specs.Keeper.{Kept}
use Rattle.slon_base.specs.declared.fault.Halt.TheVariants.{TooBig}
use Rattle.store_rows.specs.declared.stop.Stop.{Stop}
use Rattle.store_rows.specs.Steps.{IsOutside}
use Rattle.slon_model.specs.declared.fault.DbFault.{DbFault}
use Rattle.slon_model.specs.declared.fault.DbFault.TheVariants.{Halt}
use Rattle.slon_model.specs.declared.reply.Answer.{Answer}
use Rattle.slon_model.specs.Place.{Place}
use Rattle.slon_model.specs.Sessions.{Commit}
use Rattle.slon_model.specs.World.{halt_in}
use Rattle.app_store.specs.Base.{Base}
use Rattle.app_store.specs.Serves.{is_memory}
use Rattle.app_store.specs.Steps.{Finishes}
use Rattle.app_store.proofs.Pending.{rose_later}
use Rattle.app_store.proofs.Transacting.{small_stamp, last_stamp}
use Rattle.app_store.proofs.Upright.{UpAt, WentDown, running}
use Rattle.node_store.specs.Acting.{ActsAs, Broke, Burst}
use Rattle.node_store.specs.Midways.{BreaksOff, Midway}
use Rattle.node_store.proofs.Emitted.{felled_fits}
use Rattle.node_store.proofs.Findings.{WentFor}
use Rattle.node_store.proofs.Lookups.{look_stops}
use Rattle.node_store.proofs.Several.{stamp_beyond}

-- the next stamp would be too big
pub stamp_bursts : {c : Commit} {answer : Answer} {p : Place} {b new : Base} {fault : DbFault} (at : UpAt p b) →
    2 ^ 63 ≤ b.memory.stamp + 1 → fault ≡ Halt (TooBig 1) → WentDown b new → ActsAs c answer p (Err fault) new
stamp_bursts {c} {p = p} {b} {new} at most fault went =
    Burst 1 (ap (λ f. Err f) fault) (stamp_beyond c p (last_stamp p b.memory.stamp (running at).1.stamp most))
    (felled_fits at new went)

-- the transaction broke off before its commit
pub entry_breaks : {c : Commit} {answer : Answer} {p : Place} {b new : Base} {stop : Stop} {fault : DbFault}
    (at : UpAt p b) → b.memory.stamp + 1 < 2 ^ 63 → BreaksOff stop b.kept new.kept → WentFor stop fault b new →
    is_memory (halt_in fault) ≡ false → IsOutside stop → ActsAs c answer p (Err fault) new
entry_breaks {p = p} {b} {fault = fault} at room breaks went memory only =
    Broke fault refl (small_stamp p b.memory.stamp (running at).1.stamp room)
    (look_stops at
    (record { held = breaks.held; down = went.down; rose = breaks.failed; fault_is = went.fault_is }) memory only)

-- or its commit was not made
pub commit_breaks : {c : Commit} {answer : Answer} {p : Place} {b new : Base} {mid : Kept} {stop : Stop}
    {fault : DbFault} (at : UpAt p b) → b.memory.stamp + 1 < 2 ^ 63 → Midway b.kept mid →
    Finishes mid new.kept (Err stop) → WentFor stop fault b new → is_memory (halt_in fault) ≡ false →
    ActsAs c answer p (Err fault) new
commit_breaks {p = p} {b} {fault = fault} at room way ends went memory =
    Broke fault refl (small_stamp p b.memory.stamp (running at).1.stamp room) (look_stops at (record {
      held = ends.ends.0 ∙ way.held;
      down = went.down;
      rose = λ failed. rose_later way.later (ends.counted.failed failed);
      fault_is = went.fault_is;
    }) memory ends.ends.1)
