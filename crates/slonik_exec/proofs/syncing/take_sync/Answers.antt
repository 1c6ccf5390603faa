use Rattle.std.proofs.Common.{get_or, set, map, subst}
use Rattle.std.proofs.lemmas.List.{get_or_default}
use Rattle.slon_model.specs.Turns.{sync_at}
use Rattle.node_state.proofs.Formed.{if_ok}
use Rattle.slonik_exec.specs.Answering.{Answers}
use Rattle.slonik_exec.specs.Databases.{bases_of, named_base, Runs}
use Rattle.slonik_exec.specs.Reached.{IsQuietly}
use Rattle.slonik_exec.specs.Turning.{IsSeatHere, HasTurn}
use Rattle.slonik_exec.proofs.Lifting.{runs_worked}
use Rattle.slonik_exec.proofs.Seated.{turns_refused, turns_if}
use Rattle.slonik_exec.proofs.Seating.{worked_at, runs_quiet}
use Rattle.slonik_exec.proofs.syncing.take_sync.Goals as goal

pub returns-in-At : goal.returns-in-At
returns-in-At g c =
    let f = named_base g.K.Keeper.kept in
    let items = c.args.databases.now in
    let i = c.in-At.i in
    let x = get_or items i c.index-databases-i.result in
    let y = c.sync_at.new.seat in
    let here = subst (IsSeatHere {g = g.K.Keeper} items) c.in-At.is c.in_ok-i.ensures.here in
    let turns = subst (HasTurn g.K.Keeper.kept c.args.node c.args.started.now items)
    c.in-At.is c.in_ok-i.ensures.turns in
    let held = get_or_default items i c.index-databases-i.result x here.0 in
    let at = worked_at f x.name items i c.index-databases-i.result y (here.1 x held).here.at c.sync_at.ensures.name in
    record {
      runs = if_ok (λ reply. Answers x.name (f x).1 reply (f y).1)
          (λ reply. Runs (map f items) reply (map f (set items i y))) c.sync_at.result
          (λ reply answers. runs_worked reply at answers) c.sync_at.ensures.answers;
      turns = turns_if g.K.Keeper.kept sync_at c.sync_at.result at turns
          (c.sync_at.ensures.answers, c.sync_at.ensures.comes);
    }

pub returns-in-Refused : goal.returns-in-Refused
returns-in-Refused g c =
    let items = c.args.databases.now in
    let quiet = subst IsQuietly c.in-Refused.is c.in_ok-i.ensures.quiet in
    record {
      runs = runs_quiet c.in-Refused.refusal (bases_of g.K.Keeper.kept items) quiet;
      turns = turns_refused g.K.Keeper.kept c.args.node c.args.started.now items c.in-Refused.refusal sync_at (
        quiet,
        subst (HasTurn g.K.Keeper.kept c.args.node c.args.started.now items) c.in-Refused.is c.in_ok-i.ensures.turns,
      );
    }
