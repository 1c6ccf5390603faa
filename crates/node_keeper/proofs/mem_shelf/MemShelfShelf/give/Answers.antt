use Rattle.std.proofs.Common.{◌≡◌, Some, None, ap, sym, refl, ◌∙◌, rules}
use Rattle.std.proofs.lemmas.Option.{slice_get_read, slice_get_past}
use Rattle.std.specs.List.{slice_get}
use Rattle.node_keeper.specs.Plan.{left}
use Rattle.node_keeper.specs.MemShelved.{can_fail, keeps}
use Rattle.node_keeper.specs.Told.{kept_of, fresh}
use Rattle.node_keeper.proofs.Promises.{as_promised}
use Rattle.node_keeper.proofs.mem_shelf.MemShelfShelf.give.Goals as goal

pub returns-in_ok-new-in-Some : goal.returns-in_ok-new-in-Some
returns-in_ok-new-in-Some c =
    let found : Some c.in-Some.field-0.now ≡ slice_get c.args.self.now.keepers.items c.args.place =
    sym (slice_get_read c.deref.result.now _ c.args.place c.in-Some.field-0.now refl c.in-Some.ensures.lookup.3.0
    c.in-Some.ensures.lookup.1) ∙ ap (λ xs. slice_get xs c.args.place) c.deref.ensures.value in
    let made : kept_of c.in_ok-new-in-Some.field-0 ≡ fresh
    (can_fail (slice_get c.args.self.now.keepers.items c.args.place)) = c.in_ok-new-in-Some.ensures.told
    ∙ ap fresh (ap (λ xs. left xs 0) (c.in_ok-fails-in-Some.ensures.items ∙ c.as_slice.ensures.value)
    ∙ ap can_fail found) in
    let store = as_promised c.args.self.now.keepers.items c.args.place (kept_of c.in_ok-new-in-Some.field-0) made in
    let keep = c.in_ok-new-in-Some.ensures.keep ∙ ap keeps found in
    search (rules, store, made, keep)

pub returns-in_ok-new-in-None : goal.returns-in_ok-new-in-None
returns-in_ok-new-in-None c =
    let found : None ≡ slice_get c.args.self.now.keepers.items c.args.place =
    sym (slice_get_past c.deref.result.now c.args.place c.in-None.ensures.lookup.3)
    ∙ ap (λ xs. slice_get xs c.args.place) c.deref.ensures.value in
    let made : kept_of c.in_ok-new-in-None.field-0 ≡ fresh
    (can_fail (slice_get c.args.self.now.keepers.items c.args.place)) = c.in_ok-new-in-None.ensures.told
    ∙ ap fresh (ap (λ xs. left xs 0) (c.new-in-None.ensures.items) ∙ ap can_fail found) in
    let store = as_promised c.args.self.now.keepers.items c.args.place (kept_of c.in_ok-new-in-None.field-0) made in
    let keep = c.in_ok-new-in-None.ensures.keep ∙ ap keeps found in
    search (rules, store, made, keep)
