use Rattle.std.proofs.Common.{◌∙◌, IfOk, Some, ap, sym, subst}
use Rattle.slon_model.specs.Membership.{comment_of}
use Rattle.slon_model.specs.Scripts.{ordered}
use Rattle.slon_model.specs.Sets as sets
use Rattle.slonik_exec.specs.Commands.{IsRunnable, comment_in}
use Rattle.slonik_exec.specs.Databases.{bases_of}
use Rattle.slonik_exec.specs.Executing.{Executes}
use Rattle.slonik_exec.specs.Reached.{Addresses}
use Rattle.slonik_exec.proofs.Orders.{on_receivers}
use Rattle.slonik_exec.proofs.command.run_on_set.Goals as goal

pub create_set-requires-clause-can : goal.create_set-requires-clause-can
create_set-requires-clause-can g c =
    let both = subst IsRunnable c.in-CreateSet.is c.requires.can.0 in
    (both.0, both.1, c.requires.can.1)

pub returns-in-CreateSet-clause-executes : goal.returns-in-CreateSet-clause-executes
returns-in-CreateSet-clause-executes g c =
    let a : Addresses = record { lines = c.args.caller.lines.now; cluster = c.args.caller.cluster.now } in
    let old = bases_of g.K.Keeper.kept c.args.databases.now in
    let new = bases_of g.K.Keeper.kept c.create_set.new.databases in
    subst (λ o. IfOk c.create_set.result (λ reply. Executes a (ordered o) old reply new)) (sym c.in-CreateSet.is)
    (subst (λ t. IfOk c.create_set.result
    (λ reply. Executes a (sets.create_set c.in-CreateSet.id c.in-CreateSet.origin (Some t)) old reply new))
    (c.requires.said ∙ ap (λ o. comment_of (comment_in o)) c.in-CreateSet.is) c.create_set.ensures.executes)

pub drop_set-requires : goal.drop_set-requires
drop_set-requires g c = record { can = subst IsRunnable c.in-DropSet.is c.requires.can.0 }

pub returns-in-DropSet-clause-executes : goal.returns-in-DropSet-clause-executes
returns-in-DropSet-clause-executes g c =
    let a : Addresses = record { lines = c.args.caller.lines.now; cluster = c.args.caller.cluster.now } in
    let old = bases_of g.K.Keeper.kept c.args.databases.now in
    let new = bases_of g.K.Keeper.kept c.drop_set.new.databases in
    subst (λ o. IfOk c.drop_set.result (λ reply. Executes a (ordered o) old reply new))
    (sym c.in-DropSet.is) c.drop_set.ensures.executes

pub set_add_table-requires-clause-can : goal.set_add_table-requires-clause-can
set_add_table-requires-clause-can g c =
    let all = subst IsRunnable c.in-SetAddTable.is c.requires.can.0 in
    (all.1, all.0, all.2, all.3, c.requires.can.1)

pub returns-in-SetAddTable-clause-executes : goal.returns-in-SetAddTable-clause-executes
returns-in-SetAddTable-clause-executes g c =
    let a : Addresses = record { lines = c.args.caller.lines.now; cluster = c.args.caller.cluster.now } in
    let old = bases_of g.K.Keeper.kept c.args.databases.now in
    let new = bases_of g.K.Keeper.kept c.set_add_table.new.databases in
    subst (λ o. IfOk c.set_add_table.result (λ reply. Executes a (ordered o) old reply new)) (sym c.in-SetAddTable.is)
    (subst (λ t. IfOk c.set_add_table.result
    (λ reply. Executes a (sets.set_add_table c.in-SetAddTable.origin
    (record {
      set_id = c.in-SetAddTable.set_id;
      id = c.in-SetAddTable.id;
      name = c.in-SetAddTable.fully_qualified_name;
      comment = t;
    })) old reply new))
    (c.requires.said ∙ ap
    (λ o. comment_of (comment_in o)) c.in-SetAddTable.is) c.set_add_table.ensures.executes)

pub run_on_receivers-requires-clause-on_receivers : goal.run_on_receivers-requires-clause-on_receivers
run_on_receivers-requires-clause-on_receivers g c =
    on_receivers c.args.command.now (record {
      off = c.requires.on_sets;
      set = c.in_default.not-CreateSet;
      end = c.in_default.not-DropSet;
      table = c.in_default.not-SetAddTable;
    })
