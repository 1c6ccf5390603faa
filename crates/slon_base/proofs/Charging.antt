-- How what a store was told to fail goes on.
use Rattle.std.proofs.Common.{◌≡◌, ℕ, ◌-◌, ◌==◌, Bool, true, false, cond, inl, inr, refl, sym, subst, arith}
use Rattle.slon_base.specs.declared.charge.Charge.{Charge}
use Rattle.slon_base.specs.declared.charge.Charge.TheVariants.{Off, After, AtCommit, Blown}
use Rattle.slon_base.specs.Charges.{burnt, burnt_by_commit, GoesOn, IsFrom, KeepsTold}

pub goes_on_same : (charge : Charge) → GoesOn charge charge
goes_on_same Off = refl
goes_on_same (After calls keep) = inl (calls, omega arith, refl)
goes_on_same (AtCommit keep) = inl refl
goes_on_same (Blown keep) = refl

-- one call after another
pub goes_on_after : (a b c : Charge) → GoesOn a b → GoesOn b c → GoesOn a c
goes_on_after Off b c one two = subst (λ x. GoesOn x c) one two
goes_on_after (After calls keep) b c (inl (left, fewer, is)) two = elim (subst (λ x. GoesOn x c) is two) [
  | inl (last, less, same) ↦ inl (last, omega (arith, fewer, less), same)
  | inr blown ↦ inr blown
]
goes_on_after (After calls keep) b c (inr is) two = inr (subst (λ x. GoesOn x c) is two)
goes_on_after (AtCommit keep) b c (inl is) two = subst (λ x. GoesOn x c) is two
goes_on_after (AtCommit keep) b c (inr is) two = inr (subst (λ x. GoesOn x c) is two)
goes_on_after (Blown keep) b c one two = subst (λ x. GoesOn x c) one two

counted_down : (calls : ℕ) (keep : Bool) →
    GoesOn (After calls keep) (cond (calls == 0) (Blown keep) (After (calls - 1) keep))
counted_down calls keep =
    elim (calls == 0) as (λ b. GoesOn (After calls keep) (cond b (Blown keep) (After (calls - 1) keep))) [
      | true ↦ inr refl
      | false ↦ inl (calls - 1, omega arith, refl)
    ]

goes_on_burnt : (charge : Charge) → GoesOn charge (burnt charge)
goes_on_burnt Off = refl
goes_on_burnt (After calls keep) = counted_down calls keep
goes_on_burnt (AtCommit keep) = inl refl
goes_on_burnt (Blown keep) = refl

goes_on_by_commit : (charge : Charge) → GoesOn charge (burnt_by_commit charge)
goes_on_by_commit Off = refl
goes_on_by_commit (After calls keep) = counted_down calls keep
goes_on_by_commit (AtCommit keep) = inr refl
goes_on_by_commit (Blown keep) = refl

-- what a call makes of the charge
pub goes_on_call : (old new : Charge) → new ≡ burnt old → GoesOn old new
goes_on_call old new is = subst (GoesOn old) (sym is) (goes_on_burnt old)

pub goes_on_commit : (old new : Charge) → new ≡ burnt_by_commit old → GoesOn old new
goes_on_commit old new is = subst (GoesOn old) (sym is) (goes_on_by_commit old)

-- what goes on from what went on before
pub keeps_told : (old new : Charge) → GoesOn old new → KeepsTold old new
unfolding IsFrom
keeps_told old new on told from = goes_on_after told old new from on

pub told_on : (old new : Charge) → KeepsTold old new → GoesOn old new
unfolding IsFrom
told_on old new keeps = keeps old (goes_on_same old)
