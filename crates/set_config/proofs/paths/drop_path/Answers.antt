use Rattle.std.proofs.Common.{ℕ}
use Rattle.slon_base.specs.Keeper.{del_at}
use Rattle.store_rows.proofs.Spaces.{becomes}
use Rattle.set_config.specs.Holds.{pair_key}
use Rattle.set_config.proofs.Holding.{drops_pair, with_paths}
use Rattle.set_config.proofs.paths.drop_path.Goals as goal

pub returns-clause-turns : goal.returns-clause-turns
returns-clause-turns g c base config p =
    let i : ℕ × ℕ = (c.args.client, c.args.server) in
    becomes _ (del_at 5 (pair_key i)) _ c.del_row.result c.del_row.ensures.put c.del_row.ensures.only p
    (λ m. with_paths m (drops_pair i config.paths (c.requires.can.1, c.requires.can.0)))
