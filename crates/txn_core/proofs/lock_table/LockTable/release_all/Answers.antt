use Rattle.std.proofs.Common.{◌≡◌, [], refl, ap, sym, ◌∙◌}
use Rattle.txn_core.specs.Locks.{holder_of, without}
use Rattle.txn_core.specs.LockMaps.{owned_by, rows_of}
use Rattle.txn_core.proofs.Ties.{maps, own_rows, holder_seen, all_released, tied_released}
use Rattle.txn_core.proofs.lock_table.LockTable.release_all.Goals as goal

pub invariant_of-self : goal.invariant_of-self
invariant_of-self c =
    let inside = c.self.inside in
    let m = maps inside.holders.tables inside.writers.tables inside.owned.xids in
    let n = maps c.release.new.holders.tables c.release.new.writers.tables c.take.new.self.xids in
    let own = own_rows c.args.xid m c.as_slice.result.now (c.as_slice.ensures.value ∙ c.in-Some.ensures.rows) in
    tied_released c.args.xid m n own c.self.invariant
    (all_released c.args.xid m own c.release.new.holders.tables c.self.invariant c.release.ensures.holders)
    c.release.ensures.writers c.take.ensures.others

pub returns-in-Some : goal.returns-in-Some
returns-in-Some c t k =
    let inside = c.self.inside in
    let m = maps inside.holders.tables inside.writers.tables inside.owned.xids in
    let own = own_rows c.args.xid m c.as_slice.result.now (c.as_slice.ensures.value ∙ c.in-Some.ensures.rows) in
    holder_seen t k c.release.new.holders.tables
    ∙ all_released c.args.xid m own c.release.new.holders.tables c.self.invariant c.release.ensures.holders t k
    ∙ ap (without c.args.xid) (sym (holder_seen t k inside.holders.tables) ∙ ap (holder_of t k) c.self.view_is)

pub returns-in_default : goal.returns-in_default
returns-in_default c t k =
    let inside = c.self.inside in
    let m = maps inside.holders.tables inside.writers.tables inside.owned.xids in
    let own : [] ≡ owned_by c.args.xid inside.owned.xids = sym (ap rows_of c.in_default.is) ∙ c.take.ensures.rows in
    holder_seen t k inside.holders.tables
    ∙ all_released c.args.xid m (own_rows c.args.xid m [] own) inside.holders.tables c.self.invariant (λ t k. refl) t k
    ∙ ap (without c.args.xid) (sym (holder_seen t k inside.holders.tables) ∙ ap (holder_of t k) c.self.view_is)
