use Rattle.std.proofs.Common.{◌≡◌, ◌∙◌, ◌+◌, ap, sym, not, cond, refl, arith, ℕ}
use Rattle.std.specs.Result.{is_err}
use Rattle.node_keeper.specs.Plan.{capped}
use Rattle.node_keeper.proofs.Plans.{due_is, left_due}
use Rattle.node_keeper.proofs.fault_plan.FaultPlan.strikes.Goals as goal

pub returns-then-is_err-clause-due : goal.returns-then-is_err-clause-due
returns-then-is_err-clause-due c =
    ap not (sym c.if-is_err.true ∙ c.is_err.ensures.value)
    ∙ due_is c.args.self.now.fails.items c.args.self.now.calls c.binary_search.result
    (omega arith) c.args.self.now.rising (rw c.deref.ensures.value at c.binary_search.ensures.position)

pub returns-then-is_err-clause-counted : goal.returns-then-is_err-clause-counted
returns-then-is_err-clause-counted c = record {
  fails = refl;
  calls = omega arith;
  faults = ap (λ b. cond b (capped (c.args.self.now.faults + 1)) c.args.self.now.faults)
      (returns-then-is_err-clause-due c);
}

pub returns-then-is_err-clause-fewer : goal.returns-then-is_err-clause-fewer
returns-then-is_err-clause-fewer c =
    omega (
      arith,
      left_due c.args.self.now.fails.items c.args.self.now.calls c.binary_search.result
          c.args.self.now.rising (rw c.deref.ensures.value at c.binary_search.ensures.position),
    )

pub returns-clause-due : goal.returns-clause-due
returns-clause-due c =
    ap not (sym c.if-is_err.false ∙ c.is_err.ensures.value)
    ∙ due_is c.args.self.now.fails.items c.args.self.now.calls c.binary_search.result
    (omega arith) c.args.self.now.rising (rw c.deref.ensures.value at c.binary_search.ensures.position)

pub returns-clause-counted : goal.returns-clause-counted
returns-clause-counted c = record {
  fails = refl;
  calls = omega arith;
  faults = c.saturating_add-self.ensures ∙ ap (λ b. cond b (capped (c.args.self.now.faults + 1)) c.args.self.now.faults)
      (returns-clause-due c);
}

pub returns-clause-fewer : goal.returns-clause-fewer
returns-clause-fewer c =
    let listed : ◌≡◌ {A = ℕ} (cond (not (is_err c.binary_search.result)) 1 0) 1 =
    ap (λ b. cond (not b) 1 0) (sym c.is_err.ensures.value ∙ c.if-is_err.false) in
    omega (
      arith,
      listed,
      left_due c.args.self.now.fails.items c.args.self.now.calls c.binary_search.result
          c.args.self.now.rising (rw c.deref.ensures.value at c.binary_search.ensures.position),
    )
