-- A commit by the answer of its step, and by the answer that is told of it.
use Rattle.std.proofs.Common.{◌≡◌, Bool, true, false, Result, Ok, Err, ap}
use Rattle.slon_base.specs.declared.fault.Halt.TheVariants.{TooBig}
use Rattle.slon_model.specs.declared.fault.DbFault.{DbFault}
use Rattle.slon_model.specs.declared.fault.DbFault.TheVariants.{Halt}
use Rattle.slon_model.specs.declared.reply.Answer.{Answer}
use Rattle.slon_model.specs.declared.reply.Answer.TheVariants.{Done}
use Rattle.slon_model.specs.declared.reply.Answered.{Answered}
use Rattle.slon_model.specs.declared.reply.Answered.TheVariants.{Sure, InDoubt}
use Rattle.slon_model.specs.Place.{Place}
use Rattle.slon_model.specs.Sessions.{Commit}
use Rattle.app_store.specs.Base.{Base}
use Rattle.app_store.specs.Serves.{answered}
use Rattle.node_store.specs.Acting.{ActsAs, Stood, Wavered, Burst, Broke, joined}

-- what is told of a commit that stands, and of one that is in doubt
pub record Says (answer : Answer) (says : Bool → Answered) : Type 0 where
  pub sure : says false ≡ Sure answer
  pub doubt : says true ≡ InDoubt answer

pub acts_as : {c : Commit} {p : Place} {new : Base} {answer : Answer} {says : Bool → Answered} → Says answer says →
    (result : Result Bool DbFault) → ActsAs c Done p (answered joined result) new →
    ActsAs c answer p (answered says result) new
acts_as s (Ok false) (Stood is last fits) = Stood (ap (λ a. Ok a) s.sure) last fits
acts_as s (Ok false) (Wavered stands is last fits) = absurd cc
acts_as s (Ok false) (Burst space is last fits) = absurd cc
acts_as s (Ok false) (Broke fault is last fell) = absurd cc
acts_as s (Ok true) (Stood is last fits) = absurd cc
acts_as s (Ok true) (Wavered stands is last fits) = Wavered stands (ap (λ a. Ok a) s.doubt) last fits
acts_as s (Ok true) (Burst space is last fits) = absurd cc
acts_as s (Ok true) (Broke fault is last fell) = absurd cc
acts_as s (Err e) (Stood is last fits) = absurd cc
acts_as s (Err e) (Wavered stands is last fits) = absurd cc
acts_as s (Err e) (Burst space is last fits) =
    let same : e ≡ Halt (TooBig space) = cc in Burst space (ap (λ f. Err f) same) last fits
acts_as s (Err e) (Broke fault is last fell) =
    let same : e ≡ fault = cc in Broke fault (ap (λ f. Err f) same) last fell
