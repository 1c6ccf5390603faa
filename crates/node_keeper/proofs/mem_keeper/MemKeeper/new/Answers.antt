use Rattle.std.proofs.Common.{◌≡◌, ◌∙◌, ℕ, ap, sym, Some, None, arith}
use Rattle.std.specs.FinMap.{entries}
use Rattle.slon_base.specs.declared.charge.Charge.TheVariants.{Off}
use Rattle.node_keeper.specs.MemKept.{held_store, pending_store}
use Rattle.node_keeper.specs.Plan.{left}
use Rattle.node_keeper.proofs.Plans.{left_alike}
use Rattle.node_keeper.proofs.mem_keeper.MemKeeper.new.Goals as goal

pub returns-clause-told : goal.returns-clause-told
returns-clause-told c =
    let plan = c.new-2.ensures in
    let counted = ap (left c.new-2.result.fails.items) plan.calls
    ∙ left_alike c.args.fails.items c.new-2.result.fails.items 0 plan.fails in
    λ i. record {
      held = Some (λ space. (c.loop-space.invariant.none space i).0);
      pending = None;
      can_fail = Some (counted i);
      told = Off;
      faults = plan.faults i;
      doubts = 0;
      puts = Some 0;
    }

pub invariant_of-result : goal.invariant_of-result
invariant_of-result c =
    let spaces = c.loop-space.spaces.items in
    let none = c.loop-space.invariant.none in
    let alike : (space : ℕ) → entries (pending_store spaces space) ≡ entries (held_store spaces space) =
    λ space. ap (λ p. entries p.1) (none space) ∙ sym (ap (λ p. entries p.0) (none space)) in
    record {
      full = omega (arith, c.loop-space.invariant.full, c.loop-space-test.false, c.loop-space.auto._space-end);
      tracked = λ space untouched. alike space;
      settled = λ _ space. alike space;
    }
