use Rattle.std.proofs.Common.{◌∙◌, IfOk, ap, sym, subst}
use Rattle.std.proofs.lemmas.List.{with_items_is}
use Rattle.slon_model.specs.Tasks.{ToListen}
use Rattle.slon_model.specs.Turns.{are_cut}
use Rattle.slonik_exec.specs.Databases.{bases_of, Runs}
use Rattle.slon_turns.specs.declared.polling.Listen.{Listen}
use Rattle.slon_turns.specs.Turning.{Polls}
use Rattle.cluster_engine.specs.Calls.{IsActed}
use Rattle.cluster_engine.specs.Clustered.{cluster_of}
use Rattle.cluster_engine.proofs.Taking.{with_queues, kept_as, poll_if}
use Rattle.cluster_engine.proofs.cluster.Cluster.listen.Goals as goal

pub returns : goal.returns
returns g c =
    let kept = g.K.Keeper.kept in
    let old = cluster_of kept c.args.self.now in
    let news = bases_of kept c.take_poll.new.databases in
    let queues = c.take_poll.new.held in
    let l : Listen =
    record { node = c.args.node; server = c.args.server; delivery = c.args.delivery; cut = c.are_cut-cut.result } in
    let items =
    with_items_is c.args.self.now.databases c.take_poll.new.databases
    (c.take_poll.auto.databases ∙ c.deref_mut.ensures.len) in
    subst (λ xs. IfOk c.take_poll.result (λ reply. IsActed (ToListen l.node l.server l.delivery) old reply
    (with_queues (bases_of {g = g.K.Keeper} kept xs) queues old))) (sym items)
    (poll_if l old news queues c.take_poll.result (
      subst (λ xs. IfOk c.take_poll.result (λ reply. Runs (bases_of {g = g.K.Keeper} kept xs) reply news))
          c.deref_mut.ensures.value c.take_poll.ensures.runs,
      subst (λ xs. IfOk c.take_poll.result (λ reply. Polls l old.memory.switches.started
          (kept_as (bases_of {g = g.K.Keeper} kept xs) old.memory.held) reply (kept_as news queues)))
          c.deref_mut.ensures.value
          (subst (λ started. IfOk c.take_poll.result (λ reply. Polls l started
          (kept_as (bases_of kept c.deref_mut.result.now) old.memory.held) reply (kept_as news queues)))
          c.deref.ensures.value c.take_poll.ensures.polls),
      c.take_poll.ensures.bounds,
    ) (sym (c.are_cut-cut.ensures ∙ ap (are_cut l.node l.server) c.as_slice.ensures.value)))
