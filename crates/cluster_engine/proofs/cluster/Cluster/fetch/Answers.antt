use Rattle.std.proofs.Common.{◌≡◌, ◌∙◌, ℕ, List, IfOk, sym, subst}
use Rattle.std.proofs.lemmas.List.{with_items_is}
use Rattle.slon_model.specs.Tasks.{ToFetch}
use Rattle.slon_model.specs.Turns.{Switches}
use Rattle.slonik_exec.specs.Databases.{bases_of, Runs}
use Rattle.slon_turns.specs.declared.working.Aim.TheVariants.{Fetch}
use Rattle.slon_turns.specs.Working.{Goal, Learns, Works}
use Rattle.cluster_engine.specs.Calls.{IsActed}
use Rattle.cluster_engine.specs.Clustered.{cluster_of}
use Rattle.cluster_engine.proofs.Taking.{with_queues, kept_as, turn_if}
use Rattle.cluster_engine.proofs.cluster.Cluster.fetch.Goals as goal

abbrev switched_by : List ℕ → List (ℕ × ℕ) → Switches
switched_by started cuts = record { started = started; cuts = cuts }

pub returns : goal.returns
returns g c =
    let kept = g.K.Keeper.kept in
    let old = cluster_of kept c.args.self.now in
    let node = c.args.node in
    let origin = c.args.origin in
    let aimed : Goal = record { aim = Fetch; origin = origin } in
    let news = bases_of kept c.take_work.new.databases in
    let queues = c.take_work.new.held in
    let switches : switched_by c.deref.result.now c.deref-2.result.now
    ≡ old.memory.switches = λ i. record { started = c.deref.ensures.value i; cuts = c.deref-2.ensures.value i } in
    let items =
    with_items_is c.args.self.now.databases c.take_work.new.databases
    (c.take_work.auto.databases ∙ c.deref_mut.ensures.len) in
    subst (λ xs. IfOk c.take_work.result (λ reply. IsActed (ToFetch node origin) old reply
    (with_queues (bases_of {g = g.K.Keeper} kept xs) queues old))) (sym items)
    (turn_if aimed node old news queues c.take_work.result
    (subst (λ xs. IfOk c.take_work.result (λ reply. Runs (bases_of {g = g.K.Keeper} kept xs) reply news))
    c.deref_mut.ensures.value c.take_work.ensures.runs) (
      subst (λ xs. IfOk c.take_work.result (λ reply. Works aimed node old.memory.switches
          (kept_as (bases_of {g = g.K.Keeper} kept xs) old.memory.held) reply (kept_as news queues)))
          c.deref_mut.ensures.value
          (subst (λ on. IfOk c.take_work.result (λ reply. Works aimed node on
          (kept_as (bases_of kept c.deref_mut.result.now) old.memory.held) reply (kept_as news queues)))
          switches c.take_work.ensures.works),
      subst (λ xs. IfOk c.take_work.result (λ reply. Learns aimed node old.memory.switches
          (kept_as (bases_of {g = g.K.Keeper} kept xs) old.memory.held) queues)) c.deref_mut.ensures.value
          (subst (λ on. IfOk c.take_work.result (λ reply. Learns aimed node on
          (kept_as (bases_of kept c.deref_mut.result.now) old.memory.held) queues)) switches
          c.take_work.ensures.learns),
    ))
