use Rattle.std.proofs.Common.{◌≡◌, drop, fold}
use Rattle.slon_turns.specs.Bounds.{raised, start_of}
use Rattle.slon_turns.proofs.bounds.start_of.Given as goal

abbrev pub invariant-loop-bound : goal.invariant-loop-bound
invariant-loop-bound l =
    fold (λ start b. raised l.origin l.xmin start b) l.start (drop l.bound-index l.bounds)
    ≡ start_of l.origin l.xmin l.bounds
