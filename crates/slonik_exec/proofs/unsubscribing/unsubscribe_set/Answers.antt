use Rattle.std.proofs.Common.{get_or, set, map, subst}
use Rattle.std.proofs.lemmas.List.{get_or_default}
use Rattle.node_state.proofs.Formed.{if_ok}
use Rattle.slon_model.specs.Reaching.{owner}
use Rattle.slon_model.specs.Sessions.{bind}
use Rattle.slon_model.specs.Subscribing.{left_at}
use Rattle.slonik_exec.specs.declared.owning.Owner.TheVariants.{At}
use Rattle.slonik_exec.specs.Answering.{Answers, AtNode}
use Rattle.slonik_exec.specs.Databases.{bases_of, named_base, Runs}
use Rattle.slonik_exec.specs.Executing.{Executes}
use Rattle.slonik_exec.specs.Owned.{RunsOwned, IsOwnerHere, Owns}
use Rattle.slonik_exec.specs.Reached.{Addresses, IsSeatAt}
use Rattle.slonik_exec.proofs.Feeding.{owned_worked, owned_nobody, owned_stopped}
use Rattle.slonik_exec.proofs.Lifting.{runs_worked}
use Rattle.slonik_exec.proofs.Seating.{worked_at}
use Rattle.slonik_exec.proofs.Trying.{runs_then}
use Rattle.slonik_exec.proofs.unsubscribing.unsubscribe_set.Goals as goal

pub returns-in-At : goal.returns-in-At
returns-in-At g c =
    let a : Addresses = record { lines = c.args.caller.lines.now; cluster = c.args.caller.cluster.now } in
    let does = left_at c.args.set c.args.receiver in
    let set_id = c.args.set in
    let f = named_base g.K.Keeper.kept in
    let olds = map f c.args.databases.now in
    let items = c.find_owner.new.databases in
    let i = c.in-At.i in
    let d = c.index-databases-i.result in
    let x = get_or items i d in
    let y = c.leave_at.new.seat in
    let news = map f (set items i y) in
    let runs : RunsOwned olds (At i) (map f items)
    = subst (λ o. RunsOwned olds o (map f items)) c.in-At.is c.in_ok-i.ensures.runs in
    let here : IsSeatAt {g = g.K.Keeper} items i
    = subst (IsOwnerHere {g = g.K.Keeper} items) c.in-At.is c.in_ok-i.ensures.here in
    let owns : Owns g.K.Keeper.kept set_id a.lines olds (At i) items
    = subst (λ o. Owns g.K.Keeper.kept set_id a.lines olds o items) c.in-At.is c.in_ok-i.ensures.owns in
    let held = get_or_default items i d x here.0 in
    let at = worked_at f x.name items i d y (here.1 x held).here.at c.leave_at.ensures.name in
    record {
      runs = if_ok (λ reply. Answers x.name (f x).1 reply (f y).1) (λ reply. Runs olds reply news) c.leave_at.result
          (λ reply answers. runs_then reply olds (map f items) news runs.0 (runs_worked reply at answers))
          c.leave_at.ensures.answers;
      executes = if_ok (λ reply. AtNode x.name does (f x).1 reply (f y).1)
          (λ reply. Executes a (λ run w. bind (owner run set_id w) does) olds reply news) c.leave_at.result
          (λ reply comes. owned_worked {a = a} g.K.Keeper.kept does reply at owns comes) c.leave_at.ensures.comes;
    }

pub returns-in-Nobody-clause-executes : goal.returns-in-Nobody-clause-executes
returns-in-Nobody-clause-executes g c =
    let a : Addresses = record { lines = c.args.caller.lines.now; cluster = c.args.caller.cluster.now } in
    let set_id = c.args.set in
    let olds = bases_of g.K.Keeper.kept c.args.databases.now in
    let items = c.find_owner.new.databases in
    owned_nobody g.K.Keeper.kept set_id a olds items (left_at c.args.set c.args.receiver)
    (subst (λ o. Owns g.K.Keeper.kept set_id a.lines olds o items) c.in-Nobody.is c.in_ok-i.ensures.owns)

pub returns-in-Stopped-clause-executes : goal.returns-in-Stopped-clause-executes
returns-in-Stopped-clause-executes g c =
    let a : Addresses = record { lines = c.args.caller.lines.now; cluster = c.args.caller.cluster.now } in
    let set_id = c.args.set in
    let olds = bases_of g.K.Keeper.kept c.args.databases.now in
    let items = c.find_owner.new.databases in
    owned_stopped g.K.Keeper.kept set_id a olds items (left_at c.args.set c.args.receiver)
    (subst (λ o. Owns g.K.Keeper.kept set_id a.lines olds o items) c.in-Stopped.is c.in_ok-i.ensures.owns)
