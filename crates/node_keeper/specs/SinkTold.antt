-- What is told of an output in memory.
use Rattle.std.specs.Prelude.{Some}
use Rattle.slon_base.specs.Outside.{Poured}
use Rattle.node_keeper.specs.declared.mem_sink.MemSink.{MemSink}

abbrev pub poured_of : MemSink → Poured
poured_of s = record { pieces = Some s.pieces.items; faults = s.plan.faults }
