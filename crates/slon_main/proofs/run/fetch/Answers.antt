use Rattle.std.proofs.Common.{Err, ap}
use Rattle.session_reader.specs.Sessions.{Between}
use Rattle.session_reader.specs.Fetching.{to_come}
use Rattle.slon_main.proofs.Runs.{fetched_so}
use Rattle.slon_main.proofs.run.fetch.Goals as goal

pub returns-in-Ok-clause-fetches : goal.returns-in-Ok-clause-fetches
returns-in-Ok-clause-fetches g c names told bytes comes =
    fetched_so names (to_come names Between c.args.reader.now bytes)
    (record { reader = c.next_command.new.self; files = g.F.Files.filed c.next_command.new.files }) c.in-Ok.found
    (c.in-Ok.ensures.fetches names told bytes comes)

pub returns-in-Failed-clause-fetches : goal.returns-in-Failed-clause-fetches
returns-in-Failed-clause-fetches g c names told bytes comes =
    c.in-Err.ensures.breaks names told bytes comes (ap Err c.in-Failed.is)

pub returns-in-BadLine-clause-fetches : goal.returns-in-BadLine-clause-fetches
returns-in-BadLine-clause-fetches g c names told bytes comes =
    rw c.in-BadLine.is at c.in-Err.ensures.fetches names told bytes comes

pub returns-in-PastLimit-clause-fetches : goal.returns-in-PastLimit-clause-fetches
returns-in-PastLimit-clause-fetches g c names told bytes comes =
    rw c.in-PastLimit.is at c.in-Err.ensures.fetches names told bytes comes
