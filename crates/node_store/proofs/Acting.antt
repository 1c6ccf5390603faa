-- What is promised over every store of work on a database, by how its last call on the store ended.
use Rattle.std.proofs.Common.{◌≡◌, false, Option, Some, None, Result, Err, refl, sym, ap, ◌∙◌}
use Rattle.std.proofs.lemmas.Bool.{false≢true}
use Rattle.slon_base.specs.declared.fault.Halt.{Halt as HaltOf}
use Rattle.slon_base.specs.declared.fault.Halt.TheVariants.{Fault, Doubt, TooBig, NoMemory}
use Rattle.slon_model.specs.declared.fault.DbFault.{DbFault}
use Rattle.slon_model.specs.declared.fault.DbFault.TheVariants.{Halt}
use Rattle.slon_model.specs.declared.reply.Answered.{Answered}
use Rattle.slon_model.specs.World.{halt_in}
use Rattle.store_rows.specs.Steps.{is_stop_failed}
use Rattle.store_rows.specs.declared.stop.Stop.{Stop}
use Rattle.app_store.specs.Base.{Base}
use Rattle.app_store.specs.Parts.{Part, PartCaused, halt_of}
use Rattle.app_store.specs.Serves.{NeedsNothing, halts, Caused, Falls, IsBig, answered, is_memory, trouble}
use Rattle.app_store.specs.Serves.{is_failure}
use Rattle.app_store.proofs.Serving.{Ran}
use Rattle.node_store.specs.Acting.{Acts, IsTooBig, acting}
use Rattle.node_store.specs.Midways.{IsOfEvent}

-- what work left of a store in which no call failed
pub record RanWell (old new : Base) : Type 0 where
  pub ran : Ran false old.kept new.kept
  pub doubts : new.kept.doubts ≡ old.kept.doubts

-- the trouble, if there was any, is none of the store
acts_calm : {trouble : Option HaltOf} (old new : Base) → RanWell old new → is_failure trouble ≡ false →
    Caused acting old.kept trouble new.kept × Falls trouble new.memory × IsTooBig trouble new.memory →
    Acts trouble old new
acts_calm old new w calm (caused, falls, big) = record {
  tries = record {
    later = w.ran.later;
    caused = caused;
    sure = λ none. w.doubts;
    still = w.ran.sure.still;
    spends = λ failed. absurd (false≢true (sym calm ∙ failed));
    falls = falls;
    told = w.ran.sure.told;
    big = big;
  };
  quiet = λ none. w.ran.sure.quiet refl;
}

-- nothing failed
pub acts_well : (old new : Base) → RanWell old new → Acts None old new
acts_well old new w = acts_calm old new w refl (tt, tt, tt)

-- Work on the store stopped before a commit, and the database is down.
pub record Stops (old new : Base) (stop : Stop) (fault : DbFault) : Type 0 where
  pub fault_is : fault ≡ halt_of stop new.kept.faults
  pub within : IsOfEvent stop
  pub ran : Ran (is_stop_failed stop) old.kept new.kept
  pub doubts : new.kept.doubts ≡ old.kept.doubts
  pub fell : new.memory.up ≡ false

-- that memory ran out says so
pub never_memory : {T : Type 0} (answer : T → Answered) (result : Result T DbFault) →
    (y : DbFault) × (result ≡ Err y) × (y ≡ Halt NoMemory) → is_memory (trouble (answered answer result)) ≡ false → ⊥
never_memory answer result (y, is, same) memory =
    false≢true (sym memory ∙ ap (λ r. is_memory (trouble (answered answer r))) is
    ∙ ap (λ f. is_memory (halt_in f)) same)

-- a part that stores nothing
pub acts_part : {T : Type 0} (old new : Base) (result : Result T DbFault) → Part NeedsNothing old new result →
    new.kept.doubts ≡ old.kept.doubts → Acts (halts result) old new
acts_part old new result part doubts = record {
  tries = record {
    later = part.later;
    caused = caused (halts result) part.caused;
    sure = λ calm. doubts;
    still = part.knows.still;
    spends = part.knows.spends;
    falls = part.falls;
    told = part.knows.told;
    big = small (halts result) part.big;
  };
  quiet = part.knows.quiet;
}
  where
    caused : (t : Option HaltOf) → PartCaused old.kept t new.kept → Caused acting old.kept t new.kept
    caused None is = tt
    caused (Some (Fault count)) is = (is.0, is.1, λ plain. doubts)
    caused (Some Doubt) is = absurd is
    caused (Some others) is = tt

    small : (t : Option HaltOf) → IsBig NeedsNothing t new.memory → IsTooBig t new.memory
    small None big = tt
    small (Some (TooBig space)) big = absurd big.1
    small (Some others) big = tt
