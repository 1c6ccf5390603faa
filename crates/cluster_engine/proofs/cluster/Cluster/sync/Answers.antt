use Rattle.std.proofs.Common.{◌∙◌, IfOk, sym, subst}
use Rattle.std.proofs.lemmas.List.{with_items_is}
use Rattle.slon_model.specs.Tasks.{ToSync}
use Rattle.slon_model.specs.Turns.{sync_turn}
use Rattle.slonik_exec.specs.Databases.{bases_of, Runs}
use Rattle.slonik_exec.specs.Turning.{Turns}
use Rattle.cluster_engine.specs.Calls.{IsActed}
use Rattle.cluster_engine.specs.Clustered.{cluster_of}
use Rattle.cluster_engine.proofs.Taking.{with_bases, sync_if}
use Rattle.cluster_engine.proofs.cluster.Cluster.sync.Goals as goal

pub returns : goal.returns
returns g c =
    let kept = g.K.Keeper.kept in
    let old = cluster_of kept c.args.self.now in
    let news = bases_of kept c.take_sync.new.databases in
    let items =
    with_items_is c.args.self.now.databases c.take_sync.new.databases
    (c.take_sync.auto.databases ∙ c.deref_mut.ensures.len) in
    subst (λ xs. IfOk c.take_sync.result (λ reply. IsActed (ToSync c.args.node) old reply
    (with_bases (bases_of {g = g.K.Keeper} kept xs) old))) (sym items)
    (sync_if c.args.node old news c.take_sync.result
    (subst (λ xs. IfOk c.take_sync.result (λ reply. Runs (bases_of {g = g.K.Keeper} kept xs) reply news))
    c.deref_mut.ensures.value c.take_sync.ensures.runs)
    (subst (λ xs. IfOk c.take_sync.result (λ reply. Turns c.args.node old.memory.switches.started
    (sync_turn c.args.node) (bases_of {g = g.K.Keeper} kept xs) reply news)) c.deref_mut.ensures.value
    (subst (λ started. IfOk c.take_sync.result (λ reply. Turns c.args.node started (sync_turn c.args.node)
    (bases_of kept c.deref_mut.result.now) reply news)) c.deref.ensures.value c.take_sync.ensures.turns)))
