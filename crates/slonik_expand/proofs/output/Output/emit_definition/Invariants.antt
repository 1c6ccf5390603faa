use Rattle.slonik_expand.proofs.Walking.{Walks, steps_of, pending_steps}
use Rattle.slonik_expand.proofs.output.Output.emit_definition.Given as goal

abbrev pub invariant-loop-parts : goal.invariant-loop-parts
invariant-loop-parts l =
    Walks (record { made = l.definitions.made.items; place = l.place; old = l.fn.self })
    (record { out = l.self; pending = l.pending.items })

abbrev pub decreases-loop-parts : goal.decreases-loop-parts
decreases-loop-parts l = pending_steps (steps_of l.definitions.made.items) l.pending.items
