use Rattle.std.proofs.Common.{ap, sym, ◌∙◌, cond, ◌==◌, false}
use Rattle.std.specs.Option.{option_copied_mut}
use Rattle.txn_core.specs.LockMaps.{xid_in}
use Rattle.txn_core.proofs.KeyedMaps.{written, turned}
use Rattle.txn_core.proofs.TableWriters.{updated, writers_changed, none_removed}
use Rattle.txn_core.proofs.writers.Writers.remove.Goals as goal

pub returns-in-Some : goal.returns-in-Some
returns-in-Some c t x =
    let into = c.remove.new.self in
    let turns = written c.args.table.now c.in-Some.xids.now into c.args.self.now.tables (c.get_mut.follows.lender into)
    c.in-Some.ensures.value (c.get_mut.follows.holds into) in
    writers_changed c.args.xid x t false (turned c.args.table.now into _ _ turns)
    (updated c.args.xid x false c.in-Some.xids.now into c.remove.ensures.updates
    ∙ ap (λ o. cond (c.args.xid == x) false (xid_in x o)) c.in-Some.ensures.value)

pub returns-in_default : goal.returns-in_default
returns-in_default c t x =
    none_removed c.args.xid x c.args.table.now t c.args.self.now.tables c.get_mut.follows.lender-at-none
    (sym c.get_mut.ensures.value ∙ ap option_copied_mut c.in_default.is) c.get_mut.follows.holds-at-none
