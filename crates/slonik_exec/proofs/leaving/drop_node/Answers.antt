use Rattle.std.proofs.Common.{get_or, set, map, subst}
use Rattle.slonik_exec.specs.declared.reaching.Reached.TheVariants.{At}
use Rattle.slon_model.specs.Sessions.{bind}
use Rattle.slon_model.specs.Reaching.{reach}
use Rattle.node_state.proofs.Formed.{if_ok}
use Rattle.slonik_exec.specs.Answering.{Answers, AtNode}
use Rattle.slonik_exec.specs.Databases.{bases_of, named_base, Runs}
use Rattle.slonik_exec.specs.Executing.{Executes}
use Rattle.slonik_exec.specs.Reached.{name_on, Addresses, Reaches, IsNodeAt, IsNodeHere, IsQuietly}
use Rattle.slonik_exec.specs.Statements.{node_dropped}
use Rattle.slonik_exec.proofs.Lifting.{runs_worked}
use Rattle.slonik_exec.proofs.Seating.{worked_at, executes_worked, executes_refused, runs_quiet}
use Rattle.slonik_exec.proofs.leaving.drop_node.Goals as goal

pub returns-in-At : goal.returns-in-At
returns-in-At g c =
    let a : Addresses = record { lines = c.args.caller.lines.now; cluster = c.args.caller.cluster.now } in
    let event_node = c.args.event_node in
    let does = node_dropped c.args.node event_node in
    let f = named_base g.K.Keeper.kept in
    let items = c.args.databases.now in
    let i = c.in-At.i in
    let x = get_or items i c.index-databases-i.result in
    let y = c.drop_node_at.new.seat in
    let here : IsNodeAt {g = g.K.Keeper} (name_on event_node a.lines) items i
    = subst (IsNodeHere {g = g.K.Keeper} (name_on event_node a.lines) items) c.in-At.is c.in_ok-i.ensures.here in
    let at = worked_at f (name_on event_node a.lines) items i c.index-databases-i.result y here.here.at
    c.drop_node_at.ensures.name in
    let reaches : Reaches a event_node (bases_of g.K.Keeper.kept items) (At i)
    = subst (Reaches a event_node (bases_of g.K.Keeper.kept items)) c.in-At.is c.in_ok-i.ensures.reaches in
    record {
      runs = if_ok (λ reply. Answers x.name (f x).1 reply (f y).1)
          (λ reply. Runs (map f items) reply (map f (set items i y))) c.drop_node_at.result
          (λ reply answers. runs_worked reply at answers) c.drop_node_at.ensures.answers;
      executes = if_ok (λ reply. AtNode x.name does (f x).1 reply (f y).1)
          (λ reply. Executes a (λ run w. bind (reach run event_node w) does) (map f items) reply
          (map f (set items i y))) c.drop_node_at.result
          (λ reply comes. executes_worked does reply at reaches comes) c.drop_node_at.ensures.comes;
    }

pub returns-in-Refused : goal.returns-in-Refused
returns-in-Refused g c =
    let a : Addresses = record { lines = c.args.caller.lines.now; cluster = c.args.caller.cluster.now } in
    let bases = bases_of g.K.Keeper.kept c.args.databases.now in
    record {
      runs = runs_quiet c.in-Refused.refusal bases (subst IsQuietly c.in-Refused.is c.in_ok-i.ensures.quiet);
      executes = executes_refused a c.args.event_node bases c.in-Refused.refusal
          (λ run w. node_dropped c.args.node c.args.event_node)
          (subst (Reaches a c.args.event_node bases) c.in-Refused.is c.in_ok-i.ensures.reaches);
    }
