use Rattle.std.proofs.Common.{◌≡◌, ℕ, List, None, Some, bytes_eq, ◌&&◌, cond, refl, ap, sym, ◌∙◌}
use Rattle.txn_core.specs.Locks.{holder_of}
use Rattle.txn_core.specs.LockMaps.{holder_in, locks_of}
use Rattle.txn_core.proofs.Holding.{Lock}
use Rattle.txn_core.proofs.KeyedMaps.{whatever_failed}
use Rattle.txn_core.proofs.Ties.{maps, holder_seen, tied_still, rows_grow, put_back, tied_taken}
use Rattle.txn_core.proofs.lock_table.LockTable.take_free.Goals as goal

pub invariant_of-self-in_err-set : goal.invariant_of-self-in_err-set
invariant_of-self-in_err-set c =
    let l : Lock = record { xid = c.args.xid; table = c.args.table.now; key = c.args.key.now } in
    let inside = c.self.inside in
    tied_still (maps inside.holders.tables inside.writers.tables inside.owned.xids)
    (maps c.set.new.self.tables inside.writers.tables c.add.new.self.xids) c.self.invariant
    c.in_err-set.ensures.err (λ t x. refl) (rows_grow l inside.owned.xids c.add.new.self.xids c.in_ok-add.ensures.ok)

pub returns-in_err-set-clause-err : goal.returns-in_err-set-clause-err
returns-in_err-set-clause-err c =
    let old = c.self.inside.holders.tables in
    let same : (t k : List ℕ) → holder_of t k (locks_of c.set.new.self.tables) ≡ holder_of t k c.args.self.now =
    λ t k. holder_seen t k c.set.new.self.tables ∙ c.in_err-set.ensures.err t k ∙ sym (holder_seen t k old)
    ∙ ap (holder_of t k) c.self.view_is in
    whatever_failed _ same

pub invariant_of-self-in-Err : goal.invariant_of-self-in-Err
invariant_of-self-in-Err c =
    let old = c.self.inside.holders.tables in
    let free : holder_in c.args.table.now c.args.key.now old ≡ None =
    sym (holder_seen c.args.table.now c.args.key.now old)
    ∙ ap (holder_of c.args.table.now c.args.key.now) c.self.view_is ∙ c.requires in
    let l : Lock = record { xid = c.args.xid; table = c.args.table.now; key = c.args.key.now } in
    let inside = c.self.inside in
    tied_still (maps old inside.writers.tables inside.owned.xids)
    (maps c.release.new.self.tables c.add-2.new.self.tables c.add.new.self.xids) c.self.invariant
    (put_back l old c.set.new.self.tables c.release.new.self.tables free c.in_ok-set.ensures.ok c.release.ensures)
    c.in-Err.ensures.err (rows_grow l inside.owned.xids c.add.new.self.xids c.in_ok-add.ensures.ok)

pub returns-in-Err-clause-err : goal.returns-in-Err-clause-err
returns-in-Err-clause-err c t k =
    let old = c.self.inside.holders.tables in
    let free : holder_in c.args.table.now c.args.key.now old ≡ None =
    sym (holder_seen c.args.table.now c.args.key.now old)
    ∙ ap (holder_of c.args.table.now c.args.key.now) c.self.view_is ∙ c.requires in
    holder_seen t k c.release.new.self.tables
    ∙ put_back (record { xid = c.args.xid; table = c.args.table.now; key = c.args.key.now }) old c.set.new.self.tables
    c.release.new.self.tables free c.in_ok-set.ensures.ok c.release.ensures t k ∙ sym (holder_seen t k old)
    ∙ ap (holder_of t k) c.self.view_is

pub invariant_of-self-in_default : goal.invariant_of-self-in_default
invariant_of-self-in_default c =
    let old = c.self.inside.holders.tables in
    let free : holder_in c.args.table.now c.args.key.now old ≡ None =
    sym (holder_seen c.args.table.now c.args.key.now old)
    ∙ ap (holder_of c.args.table.now c.args.key.now) c.self.view_is ∙ c.requires in
    tied_taken (record { xid = c.args.xid; table = c.args.table.now; key = c.args.key.now })
    (maps old c.self.inside.writers.tables c.self.inside.owned.xids)
    (maps c.set.new.self.tables c.add-2.new.self.tables c.add.new.self.xids) c.self.invariant free
    c.in_ok-set.ensures.ok c.in_default.ensures.ok c.in_ok-add.ensures.ok

pub returns-clause-ok : goal.returns-clause-ok
returns-clause-ok c t k =
    let old = c.self.inside.holders.tables in
    holder_seen t k c.set.new.self.tables ∙ c.in_ok-set.ensures.ok t k
    ∙ ap (cond (bytes_eq c.args.table.now t && bytes_eq c.args.key.now k) (Some c.args.xid))
    (sym (holder_seen t k old) ∙ ap (holder_of t k) c.self.view_is)
