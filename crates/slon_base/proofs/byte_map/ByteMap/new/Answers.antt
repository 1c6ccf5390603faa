use Rattle.slon_base.proofs.Entries.{from_sorted-none}
use Rattle.slon_base.proofs.byte_map.ByteMap.new.Goals as goal

pub returns : goal.returns
returns g c = rw c.new.ensures.empty from_sorted-none
