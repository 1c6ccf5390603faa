use Rattle.std.proofs.Common.{◌∙◌, ap}
use Rattle.app_store.specs.Base.{base_of, memory_of}
use Rattle.slon_model.specs.Snapshots.{first_or}
use Rattle.app_store.proofs.Taking.{taken_of, taken_is, taken_has_form, taken_closed}
use Rattle.app_store.proofs.database.Database.snapshot.Goals as goal

pub returns-clause-lists : goal.returns-clause-lists
returns-clause-lists g c =
    taken_of (memory_of c.args.self.now.state) _ c.next-xmax.ensures.value
    (c.least.ensures ∙ ap (first_or c.next-xmax.result) c.as_slice.ensures) c.in_ok-running.ensures

pub returns-clause-down : goal.returns-clause-down
returns-clause-down g c down =
    taken_closed (memory_of c.args.self.now.state) _ (returns-clause-lists g c) (c.args.self.now.state.closed down)

pub returns-clause-taken : goal.returns-clause-taken
returns-clause-taken g c = taken_is (base_of g.K.Keeper.kept c.args.self.now) _ (returns-clause-lists g c)

pub returns-clause-form : goal.returns-clause-form
returns-clause-form g c =
    taken_has_form (base_of g.K.Keeper.kept c.args.self.now) _ (returns-clause-lists g c) c.next-xmax.ensures.small
