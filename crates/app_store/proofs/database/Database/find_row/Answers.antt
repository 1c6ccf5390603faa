use Rattle.app_store.specs.Targets.{spot_of}
use Rattle.app_store.proofs.Standing.{up_from}
use Rattle.app_store.proofs.Writing.{row_held, row_from, row_free}
use Rattle.app_store.proofs.database.Database.find_row.Goals as goal

pub returns-in-Some-clause-finds : goal.returns-in-Some-clause-finds
returns-in-Some-clause-finds g c p ready memory named =
    row_held (spot_of c.args.name.now c.args.xid c.args.table.now c.args.key.now) c.in-Some.xid
    (record { up = up_from ready c.requires.up; text = c.requires.text; named = named }) c.in-Some.ensures

pub returns-in-None-clause-finds : goal.returns-in-None-clause-finds
returns-in-None-clause-finds g c p ready memory named =
    row_from c.args.xid c.args.table.now c.args.key.now p c.read_target.result _
    (row_free (spot_of c.args.name.now c.args.xid c.args.table.now c.args.key.now)
    (record { up = up_from ready c.requires.up; text = c.requires.text; named = named }) c.in-None.ensures)
    (c.read_target.ensures.reads p ready memory c.args.xid named)
