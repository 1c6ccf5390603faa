-- Work on a database, one call after the other.
use Rattle.std.proofs.Common.{◌≡◌, ◌∙◌, ◌≤◌, Option, Some, None, refl, subst, arith}
use Rattle.slon_base.specs.Counts.{Rose}
use Rattle.slon_base.specs.Keeper.{Kept}
use Rattle.slon_base.specs.declared.fault.Halt.{Halt as HaltOf}
use Rattle.slon_base.specs.declared.fault.Halt.TheVariants.{Fault, Doubt}
use Rattle.app_store.specs.Base.{Base}
use Rattle.app_store.specs.Serves.{Caused}
use Rattle.app_store.proofs.Pending.{rose_later}
use Rattle.node_store.specs.Acting.{acting, Tries, Acts}

-- before the step, the count of faults was no greater, and that of doubts was the same
record Before (old mid : Kept) : Type 0 where
  later : old.faults ≤ mid.faults
  doubts : mid.doubts ≡ old.doubts

caused_since : (old mid new : Kept) (t : Option HaltOf) → Before old mid → Caused acting mid t new →
    Caused acting old t new
caused_since old mid new (Some (Fault count)) b caused =
    (rose_later b.later caused.0, caused.1, λ other. caused.2 other ∙ b.doubts)
caused_since old mid new (Some Doubt) b caused =
    (rose_later b.later caused.0, subst (λ n. Rose n new.doubts) b.doubts caused.1)
caused_since old mid new others b caused = tt

-- one step after another one that did not fail
pub tries_then : (old mid new : Base) (t : Option HaltOf) → Tries None old mid → Tries t mid new → Tries t old new
tries_then old mid new t one two = record {
  later = omega (arith, one.later, two.later);
  caused = caused_since old.kept mid.kept new.kept t (record { later = one.later; doubts = one.sure refl }) two.caused;
  sure = λ calm. two.sure calm ∙ one.sure refl;
  still = λ n most. two.still n (one.still n most);
  spends = λ failed n most. two.spends failed n (one.still n most);
  falls = two.falls;
  told = λ c from. two.told c (one.told c from);
  big = two.big;
}

pub acts_then : (t : Option HaltOf) (old mid new : Base) → Acts None old mid → Acts t mid new → Acts t old new
acts_then t old mid new one two = record {
  tries = tries_then old mid new t one.tries two.tries;
  quiet = λ calm n up. two.quiet calm n (one.quiet refl n up);
}
