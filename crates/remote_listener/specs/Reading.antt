-- What is known of the rows that a server hands over, whatever its store holds.
use Rattle.std.specs.Prelude.{Option, Some, None}
use Rattle.slon_base.specs.Codec.{AllAre}
use Rattle.event_store.specs.Giving.{IsConfirmation}
use Rattle.remote_listener.specs.declared.reading.Handed.{Handed}

abbrev pub AreRowsOf : Option Handed → Type 0
AreRowsOf None = Unit {0}
AreRowsOf (Some h) = AllAre IsConfirmation h.rows
