use Rattle.std.proofs.Common.{◌∙◌, Bool, IfOk, Err, ap, sym, subst, refl}
use Rattle.slon_model.specs.Scripts.{ordered}
use Rattle.slon_model.specs.Subscribing as feeds
use Rattle.slonik_exec.specs.Commands.{IsRunnable}
use Rattle.slonik_exec.specs.Databases.{bases_of}
use Rattle.slonik_exec.specs.Executing.{Executes, Refuses}
use Rattle.slonik_exec.specs.Reached.{Addresses}
use Rattle.slon_model.specs.declared.reply.Refusal.TheVariants as refused
use Rattle.slonik_exec.proofs.Orders.{not_built}
use Rattle.slonik_exec.proofs.Storing.{runs_refused}
use Rattle.slonik_exec.proofs.command.run_on_receivers.Goals as goal

pub subscribe_set-requires-clause-can : goal.subscribe_set-requires-clause-can
subscribe_set-requires-clause-can g c = subst IsRunnable c.in-SubscribeSet.is c.requires.can

pub returns-in-SubscribeSet-clause-executes : goal.returns-in-SubscribeSet-clause-executes
returns-in-SubscribeSet-clause-executes g c =
    let a : Addresses = record { lines = c.args.caller.lines.now; cluster = c.args.caller.cluster.now } in
    let arm = c.in-SubscribeSet in
    let old = bases_of g.K.Keeper.kept c.args.databases.now in
    let new = bases_of g.K.Keeper.kept c.subscribe_set.new.databases in
    let feed : Bool → feeds.NewFeed = λ forward.
    record { set_id = arm.id; provider = arm.provider; receiver = arm.receiver; forward = forward } in
    subst (λ o. IfOk c.subscribe_set.result (λ reply. Executes a (ordered o) old reply new)) (sym arm.is)
    (subst (λ b. IfOk c.subscribe_set.result (λ reply. Executes a (feeds.subscribe_set (feed b)) old reply new))
    c.unwrap_or.ensures c.subscribe_set.ensures.executes)

pub unsubscribe_set-requires-clause-can : goal.unsubscribe_set-requires-clause-can
unsubscribe_set-requires-clause-can g c = subst IsRunnable c.in-UnsubscribeSet.is c.requires.can

pub returns-in-UnsubscribeSet-clause-executes : goal.returns-in-UnsubscribeSet-clause-executes
returns-in-UnsubscribeSet-clause-executes g c =
    let a : Addresses = record { lines = c.args.caller.lines.now; cluster = c.args.caller.cluster.now } in
    let old = bases_of g.K.Keeper.kept c.args.databases.now in
    let new = bases_of g.K.Keeper.kept c.unsubscribe_set.new.databases in
    subst (λ o. IfOk c.unsubscribe_set.result (λ reply. Executes a (ordered o) old reply new))
    (sym c.in-UnsubscribeSet.is) c.unsubscribe_set.ensures.executes

pub returns-in_ok-word-in_default : goal.returns-in_ok-word-in_default
returns-in_ok-word-in_default g c = record {
  runs = runs_refused (refused.NotBuilt c.in_ok-word-in_default.word) (bases_of g.K.Keeper.kept c.args.databases.now)
      refl;
  executes = λ w run ready lines cluster.
      Refuses (refused.NotBuilt c.in_ok-word-in_default.word) (not_built c.args.command.now (record {
        off = c.requires.on_receivers;
        feed = c.in_default.not-SubscribeSet;
        leave = c.in_default.not-UnsubscribeSet;
      }) run w ∙ ap (λ word. Err (refused.NotBuilt word))
      (sym (c.in_ok-word-in_default.ensures ∙ c.first_word.ensures)))
      refl ready.fits;
}
