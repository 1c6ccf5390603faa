use Rattle.std.proofs.Common.{arith, Option, Bool, Err}
use Rattle.std.proofs.lemmas.Result.{err_from_is_err_and}
use Rattle.slon_base.specs.Outside.{top}
use Rattle.slon_model.specs.declared.command.Command.{Command}
use Rattle.cluster_engine.specs.Clustered.{cluster_of}
use Rattle.slon_main.specs.Going.{ComesOn, RunsOn}
use Rattle.slon_main.specs.Running.{AsksOn}
use Rattle.slon_main.proofs.Asks.{asks_so}
use Rattle.slon_main.proofs.Causes.{stops_as, stops_since, handed_on, tells_kept}
use Rattle.slon_main.proofs.Runs.{came_on, stops_fetching, stops_ended, stops_running, follows, went_on, ran_all}
use Rattle.slon_main.proofs.Runs.{fetch_stops, command_stops, command_stopped}
use Rattle.slon_main.proofs.run.run_next.Goals as goal

pub run_command-requires-clause-spoken : goal.run_command-requires-clause-spoken
run_command-requires-clause-spoken g c = rw c.in-Some.is at c.in_ok-fetch.ensures.spoken

pub returns-in_err-fetch-clause-cause : goal.returns-in_err-fetch-clause-cause
returns-in_err-fetch-clause-cause g c =
    stops_as (Option Command) Bool _ _ c.in_err-fetch.field-0.0 c.from_residual.result
    (err_from_is_err_and c.from_residual.result c.from_residual.ensures.1) (c.in_err-fetch.ensures.cause _ _)

pub returns-in_err-fetch-clause-comes : goal.returns-in_err-fetch-clause-comes
returns-in_err-fetch-clause-comes g c names said told came =
    handed_on (ComesOn names said (record { reader = c.fetch.new.reader; files = g.F.Files.filed c.fetch.new.files }))
    c.from_residual.result (err_from_is_err_and c.from_residual.result c.from_residual.ensures.1)
    (stops_fetching names said c.in_err-fetch.field-0.0
    (record { reader = c.args.reader.now; files = g.F.Files.filed c.args.files.now })
    (record { reader = c.fetch.new.reader; files = g.F.Files.filed c.fetch.new.files }) came
    (c.in_err-fetch.ensures.fetches names told came.rest came.comes))

pub returns-in_err-fetch-clause-runs : goal.returns-in_err-fetch-clause-runs
returns-in_err-fetch-clause-runs g c b told promised tells running =
    handed_on (RunsOn b (record {
      reader = c.fetch.new.reader;
      files = g.F.Files.filed c.fetch.new.files;
      output = (g.O.Sink.poured c.args.out.now).pieces;
      cluster = cluster_of g.S.Store.Keeper.kept c.args.cluster.now;
    })) c.from_residual.result (err_from_is_err_and c.from_residual.result c.from_residual.ensures.1)
    (fetch_stops b _ c.in_err-fetch.field-0.0
    (record { reader = c.fetch.new.reader; files = g.F.Files.filed c.fetch.new.files }) running
    (c.in_err-fetch.ensures.fetches b.names told running.rest running.comes))

pub returns-in_err-fetch-clause-asked : goal.returns-in_err-fetch-clause-asked
returns-in_err-fetch-clause-asked g c =
    asks_so _ _ (cluster_of g.S.Store.Keeper.kept c.args.cluster.now)
    (cluster_of g.S.Store.Keeper.kept c.args.cluster.now) c.from_residual.result (λ is. is)

pub returns-in-None-clause-comes : goal.returns-in-None-clause-comes
returns-in-None-clause-comes g c names said told came =
    stops_ended names said (record { reader = c.args.reader.now; files = g.F.Files.filed c.args.files.now })
    (record { reader = c.fetch.new.reader; files = g.F.Files.filed c.fetch.new.files }) came
    (rw c.in-None.is at c.in_ok-fetch.ensures.fetches names told came.rest came.comes)

pub returns-in-None-clause-runs : goal.returns-in-None-clause-runs
returns-in-None-clause-runs g c b told promised tells running =
    ran_all b _ (top (g.F.Files.filed c.fetch.new.files).stack)
    (record { reader = c.fetch.new.reader; files = g.F.Files.filed c.fetch.new.files }) running
    (rw c.in-None.is at c.in_ok-fetch.ensures.fetches b.names told running.rest running.comes)

pub returns-in_err-run_command-in-Some-clause-cause : goal.returns-in_err-run_command-in-Some-clause-cause
returns-in_err-run_command-in-Some-clause-cause g c =
    stops_as (Unit {0}) Bool _ _ c.in_err-run_command-in-Some.field-0.0
    c.from_residual-in_err-run_command-in-Some.result
    (err_from_is_err_and c.from_residual-in_err-run_command-in-Some.result
    c.from_residual-in_err-run_command-in-Some.ensures.1)
    (stops_since {T = Unit {0}} (Err c.in_err-run_command-in-Some.field-0.0) _
    (record {
      files = (g.F.Files.filed c.fetch.new.files).faults;
      shelf = (g.S.Shelf.shelved c.args.shelf.now).faults;
      out = (g.O.Sink.poured c.args.out.now).faults;
    }) _ (record { files = c.fetch.ensures.files.faults; shelf = omega arith; out = omega arith })
    (c.in_err-run_command-in-Some.ensures.cause (g.F.Files.filed c.fetch.new.files).faults))

pub returns-in_err-run_command-in-Some-clause-comes : goal.returns-in_err-run_command-in-Some-clause-comes
returns-in_err-run_command-in-Some-clause-comes g c names said told came =
    handed_on (ComesOn names said (record { reader = c.fetch.new.reader; files = g.F.Files.filed c.fetch.new.files }))
    c.from_residual-in_err-run_command-in-Some.result
    (err_from_is_err_and c.from_residual-in_err-run_command-in-Some.result
    c.from_residual-in_err-run_command-in-Some.ensures.1)
    (stops_running said c.in_err-run_command-in-Some.field-0.0 c.in_err-run_command-in-Some.ensures.stop)

pub returns-in_err-run_command-in-Some-clause-runs : goal.returns-in_err-run_command-in-Some-clause-runs
returns-in_err-run_command-in-Some-clause-runs g c b told promised tells running =
    handed_on (RunsOn b (record {
      reader = c.fetch.new.reader;
      files = g.F.Files.filed c.fetch.new.files;
      output = (g.O.Sink.poured c.run_command.new.out).pieces;
      cluster = cluster_of g.S.Store.Keeper.kept c.run_command.new.cluster;
    })) c.from_residual-in_err-run_command-in-Some.result
    (err_from_is_err_and c.from_residual-in_err-run_command-in-Some.result
    c.from_residual-in_err-run_command-in-Some.ensures.1)
    (command_stops b _ (record {
      reader = c.fetch.new.reader;
      files = g.F.Files.filed c.fetch.new.files;
      output = (g.O.Sink.poured c.run_command.new.out).pieces;
      cluster = cluster_of g.S.Store.Keeper.kept c.run_command.new.cluster;
    }) c.in_err-run_command-in-Some.field-0.0 running (record {
      now = g.S.Shelf.shelved c.args.shelf.now;
      command = c.in-Some.command;
      promised = promised;
      fetched = rw c.in-Some.is at c.in_ok-fetch.ensures.fetches b.names told running.rest running.comes;
      spoken = rw c.in-Some.is at c.in_ok-fetch.ensures.spoken;
      ran = command_stopped (record {
        shelf = g.S.Shelf.shelved c.args.shelf.now;
        command = c.in-Some.command;
        old = cluster_of g.S.Store.Keeper.kept c.args.cluster.now;
        new = cluster_of g.S.Store.Keeper.kept c.run_command.new.cluster;
        before = (g.O.Sink.poured c.args.out.now).pieces;
        written = (g.O.Sink.poured c.run_command.new.out).pieces;
      }) c.in_err-run_command-in-Some.field-0.0 (record {
        cut = c.in_err-run_command-in-Some.ensures.cut (tells_kept (g.S.Shelf.shelved c.args.shelf.now) b.shelf
            promised tells);
        silent = c.in_err-run_command-in-Some.ensures.silent;
        named = c.in_err-run_command-in-Some.ensures.named;
        unmade = c.in_err-run_command-in-Some.ensures.unmade;
        stop = c.in_err-run_command-in-Some.ensures.stop;
      });
    }))

pub returns-in_err-run_command-in-Some-clause-asked : goal.returns-in_err-run_command-in-Some-clause-asked
returns-in_err-run_command-in-Some-clause-asked g c =
    handed_on (AsksOn {T = Bool} (g.S.Shelf.shelved c.args.shelf.now).asked
    (cluster_of g.S.Store.Keeper.kept c.args.cluster.now) (g.S.Shelf.shelved c.run_command.new.shelf).asked
    (cluster_of g.S.Store.Keeper.kept c.run_command.new.cluster))
    c.from_residual-in_err-run_command-in-Some.result
    (err_from_is_err_and c.from_residual-in_err-run_command-in-Some.result
    c.from_residual-in_err-run_command-in-Some.ensures.1)
    c.in_err-run_command-in-Some.ensures.asked

pub returns-in_ok-run_command-in-Some-clause-comes : goal.returns-in_ok-run_command-in-Some-clause-comes
returns-in_ok-run_command-in-Some-clause-comes g c names said told came =
    came_on names said c.in-Some.command
    (record { reader = c.args.reader.now; files = g.F.Files.filed c.args.files.now })
    (record { reader = c.fetch.new.reader; files = g.F.Files.filed c.fetch.new.files }) came
    (rw c.in-Some.is at c.in_ok-fetch.ensures.fetches names told came.rest came.comes)

pub returns-in_ok-run_command-in-Some-clause-runs : goal.returns-in_ok-run_command-in-Some-clause-runs
returns-in_ok-run_command-in-Some-clause-runs g c b told promised tells running =
    went_on b (g.S.Shelf.shelved c.args.shelf.now) _ _ running (record {
      command = c.in-Some.command;
      promised = promised;
      fetched = rw c.in-Some.is at c.in_ok-fetch.ensures.fetches b.names told running.rest running.comes;
      spoken = rw c.in-Some.is at c.in_ok-fetch.ensures.spoken;
      replies = c.in_ok-run_command-in-Some.ensures.runs (tells_kept (g.S.Shelf.shelved c.args.shelf.now) b.shelf
          promised tells) running.world (follows b _ running);
    })
