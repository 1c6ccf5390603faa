use Rattle.std.proofs.Common.{◌≡◌, map}
use Rattle.std.specs.Option.{option_copied}
use Rattle.slon_model.specs.Reaching.{last_behind}
use Rattle.slonik_exec.proofs.reaching.value_in.Given as goal

-- what was found is that of the words so far
abbrev pub invariant-loop-word : goal.invariant-loop-word
invariant-loop-word l = option_copied l.value ≡ last_behind l.prefix (map (λ w. w.now) l.yielded)
