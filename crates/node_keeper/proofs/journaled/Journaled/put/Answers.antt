use Rattle.std.proofs.Common.{◌∷◌, [], ◌++◌, Some, false, ap, ◌∙◌}
use Rattle.std.specs.FinMap.{get, insert}
use Rattle.node_keeper.specs.declared.journaled.Change.{Change}
use Rattle.node_keeper.specs.Slots.{pairs}
use Rattle.node_keeper.proofs.Undoing.{pushed}
use Rattle.node_keeper.proofs.journaled.Journaled.put.Goals as goal

pub returns-clause-ok : goal.returns-clause-ok
returns-clause-ok c =
    let items = rw c.unwrap.ensures at c.push.ensures.items in
    let change : Change = record { key = c.in_ok-key.key; old = c.in_ok-old.old; deletes = false } in
    let was = pairs c.self.inside.slots.map in
    let is = c.in_ok-slot.ensures ∙ c.in_ok-key.ensures in
    rw (← c.self.view_is)
    (pushed c.self.inside.changes.items was c.args.key.now (Some c.args.value.now) (record {
      all = c.push.new.self.items;
      pairs = pairs c.put.new.self.map;
      change = change;
      grew = items ∙ ap (λ xs. xs ++ change ∷ []) c.in_ok-reserve.ensures.items;
      same = c.in_ok-key.ensures;
      old = c.in_ok-old.ensures.old ∙ ap (get was) is;
      turned = c.in_ok-old.ensures.ok ∙ ap (λ k. insert was k c.in_ok-value.value) is
          ∙ ap (insert was c.args.key.now) c.in_ok-value.ensures;
    }))
