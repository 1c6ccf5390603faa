use Rattle.std.proofs.Common.{◌≡◌, ◌-◌, take, ap, subst, ◌∙◌, arith}
use Rattle.node_keeper.specs.Slots.{pairs, with_at}
use Rattle.node_keeper.specs.Journal.{undone}
use Rattle.node_keeper.proofs.Undoing.{undo_step, slots_step}
use Rattle.node_keeper.proofs.journaled.undo.Goals as goal

pub loop-index-preserved : goal.loop-index-preserved
loop-index-preserved c =
    let changes = c.loop-index.changes.items in
    let old = pairs c.loop-index.slots.map in
    record {
      same_len = c.loop-index.invariant.same_len;
      slots = slots_step c.loop-index.slots.map c.set.new.self.map changes (c.loop-index.index - 1) _
          (λ k d below. c.loop-index.invariant.slots k d (omega arith)) c.set.ensures.keeps;
      undoes = undo_step changes (c.loop-index.index - 1) _ old (pairs c.set.new.self.map) _ (record {
        change = c.index_mut-change.result.now;
        within = omega (arith, c.loop-index.changes.ok);
        is = c.index_mut-change.ensures.value;
        turned = c.set.ensures.pairs
            ∙ ap (λ o. with_at c.index_mut-change.result.now.key o old) c.take-old.ensures.value;
      }) (subst (λ n. undone (take n changes) old ≡ undone c.args.changes.now.items (pairs c.args.slots.now.map))
          (omega arith) c.loop-index.invariant.undoes);
    }
