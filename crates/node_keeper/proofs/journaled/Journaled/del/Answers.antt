use Rattle.std.proofs.Common.{◌∷◌, [], ◌++◌, None, true, ap, ◌∙◌}
use Rattle.node_keeper.specs.declared.journaled.Change.{Change}
use Rattle.std.specs.FinMap.{get}
use Rattle.node_keeper.specs.Slots.{pairs, with_at}
use Rattle.node_keeper.proofs.Undoing.{pushed, absent}
use Rattle.node_keeper.proofs.journaled.Journaled.del.Goals as goal

pub returns-then-is_none-clause-ok : goal.returns-then-is_none-clause-ok
returns-then-is_none-clause-ok c =
    let was = pairs c.self.inside.slots.map in
    rw (← c.self.view_is) (absent (λ v. v.now) _ was c.args.key.now c.get.result
    (c.get.ensures.value ∙ ap (get was) c.in_ok-key.ensures) c.if-is_none.ensures)

pub returns-clause-ok : goal.returns-clause-ok
returns-clause-ok c =
    let items = rw c.unwrap.ensures at c.push.ensures.items in
    let change : Change = record { key = c.in_ok-key.key; old = c.set-old.result; deletes = true } in
    let was = pairs c.self.inside.slots.map in
    rw (← c.self.view_is)
    (pushed c.self.inside.changes.items was c.args.key.now None (record {
      all = c.push.new.self.items;
      pairs = pairs c.set-old.new.self.map;
      change = change;
      grew = items ∙ ap (λ xs. xs ++ change ∷ []) c.in_ok-reserve.ensures.items;
      same = c.in_ok-key.ensures;
      old = c.set-old.ensures.old ∙ ap (get was) c.in_ok-key.ensures;
      turned = c.set-old.ensures.pairs ∙ ap (λ k. with_at k None was) c.in_ok-key.ensures;
    }))
