use Rattle.std.proofs.Common.{◌∙◌, Some, ap, subst}
use Rattle.app_store.specs.Base.{base_of}
use Rattle.slonik_exec.specs.Answering.{AtSeat}
use Rattle.slon_turns.specs.Planning.{link_checks}
use Rattle.slon_turns.proofs.planning.plan_anew.Goals as goal

pub returns-in-Some-2-clause-plans : goal.returns-in-Some-2-clause-plans
returns-in-Some-2-clause-plans g c =
    let name = c.args.own.now.name in
    let node = c.args.taken.node in
    let old = base_of g.K.Keeper.kept c.args.own.now.database in
    let new = base_of g.K.Keeper.kept c.check_link.new.own.database in
    let copying = c.in-Copy.copying in (
      copying,
      c.in-Some.is ∙ ap (λ x. Some x) c.in-Copy.is,
      subst (λ o. AtSeat name (link_checks node copying.provider c.args.cuts.now) old o new)
          c.in-Some-2.is c.in_ok-reply-in-Copy.ensures.refuses,
    )

pub returns-in-None-clause-plans : goal.returns-in-None-clause-plans
returns-in-None-clause-plans g c =
    let name = c.args.own.now.name in
    let node = c.args.taken.node in
    let old = base_of g.K.Keeper.kept c.args.own.now.database in
    let new = base_of g.K.Keeper.kept c.check_link.new.own.database in
    subst (λ o. AtSeat name (link_checks node c.in-Copy.copying.provider c.args.cuts.now) old o new)
    c.in-None.is c.in_ok-reply-in-Copy.ensures.refuses
