use Rattle.slonik_exec.specs.Databases.{bases_of}
use Rattle.slonik_exec.proofs.Seeking.{AreSought}
use Rattle.slonik_exec.proofs.owning.find_owner.Given as goal

-- the databases before this one were asked, and this is the best claim of theirs
abbrev pub invariant-loop-i : goal.invariant-loop-i
invariant-loop-i g l =
    AreSought g.K.Keeper.kept (record { set_id = l.set; lines = l.lines })
    (bases_of g.K.Keeper.kept l.fn.databases) l.databases l.i l.best
