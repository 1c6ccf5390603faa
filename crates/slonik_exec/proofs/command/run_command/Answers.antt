use Rattle.std.proofs.Common.{◌∙◌, IfOk, Some, ap, sym, subst}
use Rattle.slon_model.specs.Membership as membership
use Rattle.slon_model.specs.Membership.{comment_of}
use Rattle.slon_model.specs.Scripts.{ordered}
use Rattle.slonik_exec.specs.Commands.{IsRunnable, comment_in}
use Rattle.slonik_exec.specs.Databases.{bases_of}
use Rattle.slonik_exec.specs.Executing.{Executes}
use Rattle.slonik_exec.specs.Reached.{Addresses}
use Rattle.slonik_exec.proofs.Orders.{on_sets}
use Rattle.slonik_exec.proofs.command.run_command.Goals as goal

pub init_cluster-requires : goal.init_cluster-requires
init_cluster-requires g c = record {
  can = (
    subst IsRunnable c.in-InitCluster.is
        (c.is_runnable.ensures c.if-not-is_runnable.false),
    c.is_short-else-not-is_short.ensures c.if-not-is_short-2.false,
    c.is_short.ensures c.if-not-is_short.false,
  );
}

pub returns-in-InitCluster-clause-executes : goal.returns-in-InitCluster-clause-executes
returns-in-InitCluster-clause-executes g c =
    let a : Addresses = record { lines = c.args.caller.lines.now; cluster = c.args.caller.cluster.now } in
    let old = bases_of g.K.Keeper.kept c.args.databases.now in
    let new = bases_of g.K.Keeper.kept c.init_cluster.new.databases in
    subst (λ o. IfOk c.init_cluster.result (λ reply. Executes a (ordered o) old reply new)) (sym c.in-InitCluster.is)
    (subst (λ t. IfOk c.init_cluster.result
    (λ reply. Executes a (membership.init_cluster c.in-InitCluster.id (Some t)) old reply new))
    (c.in_ok-comment.ensures ∙ ap (λ o. comment_of (comment_in o)) c.in-InitCluster.is) c.init_cluster.ensures.executes)

pub store_node-requires-clause-can : goal.store_node-requires-clause-can
store_node-requires-clause-can g c =
    let both = subst IsRunnable c.in-StoreNode.is (c.is_runnable.ensures c.if-not-is_runnable.false) in
    (both.0, c.is_short.ensures c.if-not-is_short.false)

pub returns-in-StoreNode-clause-executes : goal.returns-in-StoreNode-clause-executes
returns-in-StoreNode-clause-executes g c =
    let a : Addresses = record { lines = c.args.caller.lines.now; cluster = c.args.caller.cluster.now } in
    let old = bases_of g.K.Keeper.kept c.args.databases.now in
    let new = bases_of g.K.Keeper.kept c.store_node.new.databases in
    subst (λ o. IfOk c.store_node.result (λ reply. Executes a (ordered o) old reply new)) (sym c.in-StoreNode.is)
    (subst (λ t. IfOk c.store_node.result
    (λ reply. Executes a (membership.store_node c.in-StoreNode.id c.in-StoreNode.event_node (Some t)) old reply new))
    (c.in_ok-comment.ensures ∙ ap (λ o. comment_of (comment_in o)) c.in-StoreNode.is) c.store_node.ensures.executes)

pub drop_node-requires : goal.drop_node-requires
drop_node-requires g c = record {
  can = subst IsRunnable c.in-DropNode.is (c.is_runnable.ensures c.if-not-is_runnable.false);
}

pub returns-in-DropNode-clause-executes : goal.returns-in-DropNode-clause-executes
returns-in-DropNode-clause-executes g c =
    let a : Addresses = record { lines = c.args.caller.lines.now; cluster = c.args.caller.cluster.now } in
    let old = bases_of g.K.Keeper.kept c.args.databases.now in
    let new = bases_of g.K.Keeper.kept c.drop_node.new.databases in
    subst (λ o. IfOk c.drop_node.result (λ reply. Executes a (ordered o) old reply new)) (sym c.in-DropNode.is)
    c.drop_node.ensures.executes

pub store_path-requires : goal.store_path-requires
store_path-requires g c =
    let all = subst IsRunnable c.in-StorePath.is (c.is_runnable.ensures c.if-not-is_runnable.false) in
    record { can = (all.1, all.0, all.2) }

pub returns-in-StorePath-clause-executes : goal.returns-in-StorePath-clause-executes
returns-in-StorePath-clause-executes g c =
    let a : Addresses = record { lines = c.args.caller.lines.now; cluster = c.args.caller.cluster.now } in
    let old = bases_of g.K.Keeper.kept c.args.databases.now in
    let new = bases_of g.K.Keeper.kept c.store_path.new.databases in
    subst (λ o. IfOk c.store_path.result (λ reply. Executes a (ordered o) old reply new)) (sym c.in-StorePath.is)
    (c.store_path.ensures.executes)

pub returns-in-DropPath-clause-executes : goal.returns-in-DropPath-clause-executes
returns-in-DropPath-clause-executes g c =
    let a : Addresses = record { lines = c.args.caller.lines.now; cluster = c.args.caller.cluster.now } in
    let old = bases_of g.K.Keeper.kept c.args.databases.now in
    let new = bases_of g.K.Keeper.kept c.drop_path.new.databases in
    subst (λ o. IfOk c.drop_path.result (λ reply. Executes a (ordered o) old reply new)) (sym c.in-DropPath.is)
    (c.drop_path.ensures.executes)

pub sync-requires : goal.sync-requires
sync-requires g c = record {
  can = subst IsRunnable c.in-Sync.is (c.is_runnable.ensures c.if-not-is_runnable.false);
}

pub returns-in-Sync-clause-executes : goal.returns-in-Sync-clause-executes
returns-in-Sync-clause-executes g c =
    let a : Addresses = record { lines = c.args.caller.lines.now; cluster = c.args.caller.cluster.now } in
    let old = bases_of g.K.Keeper.kept c.args.databases.now in
    let new = bases_of g.K.Keeper.kept c.sync.new.databases in
    subst (λ o. IfOk c.sync.result (λ reply. Executes a (ordered o) old reply new)) (sym c.in-Sync.is)
    c.sync.ensures.executes

pub run_on_set-requires : goal.run_on_set-requires
run_on_set-requires g c = record {
  on_sets = on_sets c.args.command.now (record {
    init = c.in_default.not-InitCluster;
    node = c.in_default.not-StoreNode;
    leaves = c.in_default.not-DropNode;
    path = c.in_default.not-StorePath;
    drop = c.in_default.not-DropPath;
    sync = c.in_default.not-Sync;
  });
  can = (
    c.is_runnable.ensures c.if-not-is_runnable.false,
    c.is_short.ensures c.if-not-is_short.false,
  );
  said = c.in_ok-comment.ensures;
  distinct = c.requires.distinct;
}
