use Rattle.std.proofs.Common.{ap, ◌∙◌}
use Rattle.txn_core.specs.LockMaps.{holder_in, key_in}
use Rattle.txn_core.proofs.holders.Holders.get.Goals as goal

pub returns-in-Some : goal.returns-in-Some
unfolding holder_in
returns-in-Some c = c.copied.ensures ∙ c.get-in-Some.ensures.value ∙ ap (key_in c.args.key.now) c.in-Some.ensures.value

pub returns-in-None : goal.returns-in-None
unfolding holder_in
returns-in-None c = ap (key_in c.args.key.now) c.in-None.ensures.value
