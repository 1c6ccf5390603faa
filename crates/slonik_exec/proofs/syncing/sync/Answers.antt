use Rattle.std.proofs.Common.{get_or, set, map, subst, [], Result, Ok, refl}
use Rattle.node_rows.specs.declared.body.Body.TheVariants.{Sync}
use Rattle.slon_model.specs.declared.reply.Refusal.{Refusal}
use Rattle.slon_model.specs.Sessions.{Seat, Stated}
use Rattle.node_state.proofs.Learning.{plain_learns}
use Rattle.slonik_exec.specs.Emitting.{Emits}
use Rattle.slonik_exec.specs.declared.reaching.Reached.TheVariants.{At}
use Rattle.slon_model.specs.Sessions.{bind}
use Rattle.slon_model.specs.Reaching.{reach}
use Rattle.node_state.proofs.Formed.{if_ok}
use Rattle.slonik_exec.specs.Answering.{Answers}
use Rattle.slonik_exec.specs.Databases.{bases_of, named_base, Runs}
use Rattle.slonik_exec.specs.Executing.{Executes}
use Rattle.slonik_exec.specs.Reached.{name_on, Addresses, Reaches, IsNodeAt, IsNodeHere, IsQuietly}
use Rattle.slon_model.specs.Membership.{synced}
use Rattle.slonik_exec.proofs.Lifting.{runs_worked}
use Rattle.slonik_exec.proofs.Seating.{worked_at, executes_worked, executes_refused, runs_quiet}
use Rattle.slonik_exec.proofs.syncing.sync.Goals as goal

pub returns-in-At : goal.returns-in-At
returns-in-At g c =
    let a : Addresses = record { lines = c.args.caller.lines.now; cluster = c.args.caller.cluster.now } in
    let id = c.args.id in
    let does : Seat → Result Stated Refusal = λ s. Ok (synced s) in
    let f = named_base g.K.Keeper.kept in
    let items = c.args.databases.now in
    let i = c.in-At.i in
    let x = get_or items i c.index-databases-i.result in
    let y = c.emit.new.seat in
    let here : IsNodeAt {g = g.K.Keeper} (name_on id a.lines) items i
    = subst (IsNodeHere {g = g.K.Keeper} (name_on id a.lines) items) c.in-At.is c.in_ok-i.ensures.here in
    let at = worked_at f (name_on id a.lines) items i c.index-databases-i.result y here.here.at
    c.emit.ensures.name in
    let reaches : Reaches a id (bases_of g.K.Keeper.kept items) (At i)
    = subst (Reaches a id (bases_of g.K.Keeper.kept items)) c.in-At.is c.in_ok-i.ensures.reaches in
    record {
      runs = if_ok (λ reply. Answers x.name (f x).1 reply (f y).1)
          (λ reply. Runs (map f items) reply (map f (set items i y))) c.emit.result
          (λ reply answers. runs_worked reply at answers) c.emit.ensures.answers;
      executes = if_ok (λ reply. Emits x.name Sync (f x).1 reply (f y).1)
          (λ reply. Executes a (λ run w. bind (reach run id w) does) (map f items) reply
          (map f (set items i y))) c.emit.result
          (λ reply emits. executes_worked does reply at reaches
          (λ p n ready is. emits p n [] ready is (plain_learns n _ refl))) c.emit.ensures.emits;
    }

pub returns-in-Refused : goal.returns-in-Refused
returns-in-Refused g c =
    let a : Addresses = record { lines = c.args.caller.lines.now; cluster = c.args.caller.cluster.now } in
    let bases = bases_of g.K.Keeper.kept c.args.databases.now in
    record {
      runs = runs_quiet c.in-Refused.refusal bases (subst IsQuietly c.in-Refused.is c.in_ok-i.ensures.quiet);
      executes = executes_refused a c.args.id bases c.in-Refused.refusal
          (λ run w s. Ok (synced s))
          (subst (Reaches a c.args.id bases) c.in-Refused.is c.in_ok-i.ensures.reaches);
    }
