-- What is told of a store in memory.
use Rattle.std.specs.Prelude.{ℕ, Bool, ◌&&◌, ◌||◌, not, Some, None}
use Rattle.slon_base.specs.Keeper.{Kept, nothing}
use Rattle.slon_base.specs.declared.charge.Charge.TheVariants.{Off}
use Rattle.node_keeper.specs.declared.mem_keeper.MemKeeper.{MemKeeper}
use Rattle.node_keeper.specs.MemKept.{mem_kept, is_open}
use Rattle.node_keeper.specs.Plan.{is_due}

abbrev pub kept_of : MemKeeper → Kept
kept_of k = mem_kept k.spaces.items k.plan k.phase k.doubts k.puts

-- an empty store of which this number of calls can fail
abbrev pub fresh : ℕ → Kept
fresh left = record {
  held = Some nothing;
  pending = None;
  can_fail = Some left;
  told = Off;
  faults = 0;
  doubts = 0;
  puts = Some 0;
}

-- the next call has to fail
abbrev pub fails_next : MemKeeper → Bool
fails_next k = is_due k.plan.fails.items k.plan.calls

-- a commit now would hold what is pending
abbrev pub would_hold : MemKeeper → Bool
would_hold k = is_open k.phase && (not (fails_next k) || k.keep)
