use Rattle.std.proofs.Common.{◌≡◌, ◌++◌, take, drop, length, map, ap, sym, subst, ◌∙◌, arith}
use Rattle.std.proofs.lemmas.Grind.{common_steps}
use Rattle.std.specs.FinMap.{entries}
use Rattle.node_keeper.specs.MemKept.{pending_store, held_store, ended, ended_in}
use Rattle.node_keeper.proofs.Kepts.{settled_end}
use Rattle.node_keeper.proofs.Touching.{all_ended}
use Rattle.node_keeper.proofs.mem_keeper.MemKeeper.end.Goals as goal

pub returns-clause-spaces : goal.returns-clause-spaces
returns-clause-spaces c =
    let old = c.args.self.now.spaces in
    let whole : take old.len (c.end_touched.new.spaces ++ drop
    (length c.end_touched.new.spaces) old.items) ≡ c.end_touched.new.spaces =
    grind (arith, common_steps, c.end_touched.auto.spaces, c.as_mut_slice.ensures.len) in
    whole ∙ c.end_touched.ensures.ended
    ∙ ap (λ ts. ended_in c.args.commits ts c.as_mut_slice.result.now) c.as_slice.ensures.value
    ∙ ap (ended_in c.args.commits c.args.self.now.touched.items) c.as_mut_slice.ensures.value
    ∙ all_ended c.args.commits c.args.self.now.touched.items old.items c.args.self.now.tracked

pub invariant_of-self : goal.invariant_of-self
invariant_of-self c =
    let old = c.args.self.now.spaces in
    let whole : take old.len (c.end_touched.new.spaces ++ drop
    (length c.end_touched.new.spaces) old.items) ≡ c.end_touched.new.spaces =
    grind (arith, common_steps, c.end_touched.auto.spaces, c.as_mut_slice.ensures.len) in
    let after : take old.len (c.end_touched.new.spaces ++ drop (length c.end_touched.new.spaces) old.items) ≡ map
    (ended c.args.commits) old.items =
    whole ∙ c.end_touched.ensures.ended
    ∙ ap (λ ts. ended_in c.args.commits ts c.as_mut_slice.result.now) c.as_slice.ensures.value
    ∙ ap (ended_in c.args.commits c.args.self.now.touched.items) c.as_mut_slice.ensures.value
    ∙ all_ended c.args.commits c.args.self.now.touched.items old.items c.args.self.now.tracked in
    record {
      full = c.args.self.now.full;
      tracked = λ space untouched. subst (λ xs. entries (pending_store xs space) ≡ entries (held_store xs space))
          (sym after) (settled_end c.args.commits old.items space);
      settled = λ _ space. subst (λ xs. entries (pending_store xs space) ≡ entries (held_store xs space)) (sym after)
          (settled_end c.args.commits old.items space);
    }
