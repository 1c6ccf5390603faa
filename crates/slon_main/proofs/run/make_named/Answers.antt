use Rattle.std.proofs.Common.{◌≡◌, ◌∙◌, sym, subst, refl, true, IfOk, None}
use Rattle.slon_model.specs.Names.{find_named}
use Rattle.slon_model.specs.declared.command.Command.TheVariants.{Database}
use Rattle.cluster_engine.specs.Clustered.{cluster_of}
use Rattle.cluster_engine.specs.Calls.{Makes, Obeys, AllCertain, StaysCertain, StaysQuiet, is_sure_reply}
use Rattle.cluster_engine.specs.Failing.{Pays}
use Rattle.cluster_engine.specs.Telling.{KeepsTelling}
use Rattle.slon_main.specs.Running.{AsksOn, NamesMade, is_no_store}
use Rattle.slon_main.specs.declared.run.Stop.TheVariants.{NoStore}
use Rattle.slon_main.proofs.Asks.{asked_so}
use Rattle.slon_main.proofs.Causes.{names_made}
use Rattle.cluster_engine.proofs.Charges.{moves_tells, made_tells}
use Rattle.cluster_engine.proofs.Failing.{moves_pays, granted_free, made_pays}
use Rattle.cluster_engine.proofs.Moving.{IsGranted, if_ok, if_err, granted}
use Rattle.cluster_engine.proofs.Stepping.{denied, obeys_made}
use Rattle.slon_main.proofs.run.make_named.Goals as goal

pub returns-in_default-clause-asked : goal.returns-in_default-clause-asked
returns-in_default-clause-asked g c = asked_so _ _

pub returns-in_default-step-clause-asked : goal.returns-in_default-step-clause-asked
returns-in_default-step-clause-asked g c = asked_so _ _

pub returns-then-not-is_accepted-clause-obeys : goal.returns-then-not-is_accepted-clause-obeys
returns-then-not-is_accepted-clause-obeys g c tells =
    denied c.args.name (Database c.args.name) _ c.in-Ok-step.reply _ refl c.in-Ok-step.ensures.steps
    (sym c.is_accepted.ensures ∙ c.if-not-is_accepted.true)

pub returns-then-not-is_accepted-clause-pays : goal.returns-then-not-is_accepted-clause-pays
returns-then-not-is_accepted-clause-pays g c tells = moves_pays
    (g.S.Shelf.shelved c.args.shelf.now).promise (Database c.args.name) _ _ _ c.in-Ok-step.ensures.moves

pub returns-then-not-is_accepted-clause-tells : goal.returns-then-not-is_accepted-clause-tells
returns-then-not-is_accepted-clause-tells g c = moves_tells (Database c.args.name) _ _ _ c.in-Ok-step.ensures.moves

pub returns : goal.returns
returns g c =
    let name = c.args.name in
    let copy = c.in-Ok.copy in
    let promise = (g.S.Shelf.shelved c.args.shelf.now).promise in
    let old = cluster_of g.S.Store.Keeper.kept c.args.cluster.now in
    let mid = cluster_of g.S.Store.Keeper.kept c.step.new.self in
    let new = cluster_of g.S.Store.Keeper.kept c.make.new.cluster in
    let was : IsGranted name old mid = granted name (Database name) old mid c.in-Ok-step.reply refl
    c.in-Ok-step.ensures.moves (sym c.is_accepted.ensures ∙ c.if-not-is_accepted.false) in
    let free : find_named copy mid.bases ≡ None =
    subst (λ n. find_named n mid.bases ≡ None) (sym c.in-Ok.ensures) (granted_free name old mid was) in
    record {
      shelf = c.make.ensures.shelf;
      asked =
          subst (λ b. AsksOn (g.S.Shelf.shelved c.args.shelf.now).asked b (g.S.Shelf.shelved c.make.new.shelf).asked new
          c.make.result) was.same c.make.ensures.asked;
      cause = c.make.ensures.cause;
      obeys = λ tells. if_ok (λ reply. Makes copy mid reply new) (λ reply. Obeys (Database name) old reply new)
          c.make.result (λ reply makes. obeys_made name old mid reply new was
          (subst (λ n. Makes n mid reply new) c.in-Ok.ensures makes)) (c.make.ensures.made tells);
      certain = λ never. if_ok (λ reply. (is_sure_reply reply ≡ true) × (AllCertain mid → AllCertain new))
          (λ reply. StaysCertain (Database name) old reply new) c.make.result
          (λ reply both all. (both.0, λ armless. both.1 (subst AllCertain (sym was.same) all)))
          (c.make.ensures.certain never);
      quiet = subst (λ b. IfOk c.make.result (λ reply. StaysQuiet reply b new)) was.same c.make.ensures.quiet;
      pays = λ tells. if_ok (λ reply. Pays promise (Database copy) mid reply new)
          (λ reply. Pays promise (Database name) old reply new) c.make.result
          (λ reply pays. made_pays promise name old mid reply new was
          (subst (λ n. Pays promise (Database n) mid reply new) c.in-Ok.ensures pays))
          (c.make.ensures.pays tells free);
      tells = if_ok (λ reply. KeepsTelling (Database copy) mid reply new)
          (λ reply. KeepsTelling (Database name) old reply new) c.make.result
          (λ reply tells. made_tells name old mid reply new was
          (subst (λ n. KeepsTelling (Database n) mid reply new) c.in-Ok.ensures tells))
          (c.make.ensures.tells free);
      named = if_err (λ stop. is_no_store stop ≡ true → stop ≡ NoStore copy) (NamesMade (Database name) old)
          c.make.result (λ stop named. names_made name copy old stop c.in-Ok.ensures was.done named)
          c.make.ensures.named;
      unmade = if_err (λ stop. is_no_store stop ≡ true → new ≡ mid) (λ stop. is_no_store stop ≡ true → new ≡ old)
          c.make.result (λ stop unmade is. unmade is ∙ was.same) c.make.ensures.unmade;
      stop = c.make.ensures.stop;
      distinct = c.make.ensures.distinct free c.in-Ok-step.ensures.distinct;
    }
