use Rattle.std.proofs.Common.{get_or, set, map, subst}
use Rattle.slonik_exec.specs.declared.reaching.Reached.TheVariants.{At}
use Rattle.slon_model.specs.Sessions.{bind}
use Rattle.slon_model.specs.Reaching.{reach}
use Rattle.slon_model.specs.Sets as rules
use Rattle.node_state.proofs.Formed.{if_ok}
use Rattle.slonik_exec.specs.Answering.{Answers, AtNode}
use Rattle.slonik_exec.specs.Databases.{bases_of, named_base, Runs}
use Rattle.slonik_exec.specs.Executing.{Executes}
use Rattle.slonik_exec.specs.Reached.{name_on, Addresses, Reaches, IsNodeAt, IsNodeHere, IsQuietly}
use Rattle.slonik_exec.specs.Statements.{set_dropped}
use Rattle.slonik_exec.proofs.Lifting.{runs_worked}
use Rattle.slonik_exec.proofs.Ending.{drop_due}
use Rattle.slonik_exec.proofs.Seating.{worked_at, executes_as, executes_worked, executes_refused, runs_quiet}
use Rattle.slonik_exec.proofs.dropping.drop_set.Goals as goal

pub returns-in-At : goal.returns-in-At
returns-in-At g c =
    let a : Addresses = record { lines = c.args.caller.lines.now; cluster = c.args.caller.cluster.now } in
    let id = c.args.set in
    let origin = c.args.origin in
    let does = set_dropped id in
    let f = named_base g.K.Keeper.kept in
    let items = c.args.databases.now in
    let i = c.in-At.i in
    let x = get_or items i c.index-databases-i.result in
    let y = c.drop_set_at.new.seat in
    let here : IsNodeAt {g = g.K.Keeper} (name_on origin a.lines) items i
    = subst (IsNodeHere {g = g.K.Keeper} (name_on origin a.lines) items) c.in-At.is c.in_ok-i.ensures.here in
    let at = worked_at f (name_on origin a.lines) items i c.index-databases-i.result y here.here.at
    c.drop_set_at.ensures.name in
    let reaches : Reaches a origin (bases_of g.K.Keeper.kept items) (At i)
    = subst (Reaches a origin (bases_of g.K.Keeper.kept items)) c.in-At.is c.in_ok-i.ensures.reaches in
    record {
      runs = if_ok (λ reply. Answers x.name (f x).1 reply (f y).1)
          (λ reply. Runs (map f items) reply (map f (set items i y))) c.drop_set_at.result
          (λ reply answers. runs_worked reply at answers) c.drop_set_at.ensures.answers;
      executes = if_ok (λ reply. AtNode x.name does (f x).1 reply (f y).1)
          (λ reply. Executes a (rules.drop_set id origin) (map f items) reply
          (map f (set items i y))) c.drop_set_at.result
          (λ reply comes. executes_as {a = a} (λ run w. bind (reach run origin w) does) (rules.drop_set id origin)
          (drop_due id origin) (executes_worked does reply at reaches comes)) c.drop_set_at.ensures.comes;
    }

pub returns-in-Refused : goal.returns-in-Refused
returns-in-Refused g c =
    let a : Addresses = record { lines = c.args.caller.lines.now; cluster = c.args.caller.cluster.now } in
    let origin = c.args.origin in
    let bases = bases_of g.K.Keeper.kept c.args.databases.now in
    record {
      runs = runs_quiet c.in-Refused.refusal bases (subst IsQuietly c.in-Refused.is c.in_ok-i.ensures.quiet);
      executes = executes_as {a = a} (λ run w. bind (reach run origin w) (set_dropped c.args.set))
          (rules.drop_set c.args.set origin) (drop_due c.args.set origin)
          (executes_refused a origin bases c.in-Refused.refusal (λ run w. set_dropped c.args.set)
          (subst (Reaches a origin bases) c.in-Refused.is c.in_ok-i.ensures.reaches));
    }
