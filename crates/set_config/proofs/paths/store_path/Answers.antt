use Rattle.std.proofs.Common.{ℕ}
use Rattle.slon_base.specs.Codec.{text_bytes}
use Rattle.slon_base.specs.Keeper.{put_at}
use Rattle.store_rows.proofs.Spaces.{becomes}
use Rattle.set_config.specs.Holds.{pair_key}
use Rattle.set_config.proofs.Holding.{puts_pair, with_paths}
use Rattle.set_config.proofs.paths.store_path.Goals as goal

pub returns-clause-turns : goal.returns-clause-turns
returns-clause-turns g c base config p =
    let i : ℕ × ℕ = (c.args.client, c.args.server) in
    let text = c.args.conninfo.now in
    becomes _ (put_at 5 (pair_key i) (text_bytes text)) _ c.put_row.result c.put_row.ensures.put
    c.put_row.ensures.only p
    (λ m. with_paths m (puts_pair i text config.paths (c.requires.can.1, c.requires.can.0) c.requires.can.2))
