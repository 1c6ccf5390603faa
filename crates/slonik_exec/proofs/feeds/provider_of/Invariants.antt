use Rattle.std.proofs.Common.{◌≡◌, drop}
use Rattle.std.specs.Option.{option_map}
use Rattle.slon_model.specs.Maps.{entry_at}
use Rattle.slonik_exec.proofs.feeds.provider_of.Given as goal

abbrev pub invariant-loop-receiver : goal.invariant-loop-receiver
invariant-loop-receiver l =
    record {
      rest : option_map (λ row. row.provider) (entry_at l.node (drop l.receiver-index l.rows))
          ≡ option_map (λ row. row.provider) (entry_at l.node l.rows);
    }
