use Rattle.slonik_exec.specs.Databases.{bases_of}
use Rattle.slonik_exec.specs.Heard.{test_of}
use Rattle.slonik_exec.proofs.Hearing.{AreAsked}
use Rattle.slonik_exec.proofs.knowing.known_somewhere.Given as goal

-- the databases before this one were asked, and know nothing of it
abbrev pub invariant-loop-named : goal.invariant-loop-named
invariant-loop-named g l =
    AreAsked (test_of l.question) (bases_of g.K.Keeper.kept l.fn.databases)
    (bases_of g.K.Keeper.kept l.databases) l.named-index
