use Rattle.std.proofs.Common.{◌≡◌, drop, fold}
use Rattle.slon_turns.specs.Bounds.{nearer, next_of}
use Rattle.slon_turns.proofs.bounds.next_of.Given as goal

abbrev pub invariant-loop-bound : goal.invariant-loop-bound
invariant-loop-bound l =
    fold (λ next b. nearer l.origin l.start next b) l.next (drop l.bound-index l.bounds)
    ≡ next_of l.origin l.start l.bounds
