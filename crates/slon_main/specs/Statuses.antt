-- The numbers of statuses.
use Rattle.std.specs.Prelude.{ℕ}
use Rattle.slon_main.specs.declared.status.Status.{Status}
use Rattle.slon_main.specs.declared.status.Status.TheVariants.{Done, Usage, BadLine, ReadFault, WriteFault, NoMemory}
use Rattle.slon_main.specs.declared.status.Status.TheVariants.{NoStore, Missing, TooLong}

-- the number of each status, which is the exit status of the program
abbrev pub number_of : Status → ℕ
number_of Done = 0
number_of Usage = 2
number_of BadLine = 3
number_of ReadFault = 4
number_of WriteFault = 5
number_of NoMemory = 6
number_of NoStore = 7
number_of Missing = 8
number_of TooLong = 9
