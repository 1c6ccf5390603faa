use Rattle.std.proofs.Common.{◌≡◌, List, ℕ, ap, sym, ◌∙◌, cond, ◌==◌, true, Some}
use Rattle.txn_core.specs.LockMaps.{writes_in, xid_in, at_key}
use Rattle.txn_core.proofs.KeyedMaps.{whatever_failed, turns_by, turned, written, same_entries}
use Rattle.txn_core.proofs.TableWriters.{updated, same_keys, no_keys, writers_changed, writers_same}
use Rattle.txn_core.proofs.writers.Writers.add.Goals as goal

pub returns-in_err-insert-in-Some-clause-err : goal.returns-in_err-insert-in-Some-clause-err
returns-in_err-insert-in-Some-clause-err c =
    let into = c.insert.new.self in
    let turns = written c.args.table.now c.in-Some.xids.now into c.args.self.now.tables (c.get_mut.follows.lender into)
    c.in-Some.ensures.value (c.get_mut.follows.holds into) in
    let same : (t : List ℕ) (x : ℕ) →
    writes_in t x (c.get_mut.follows.lender into) ≡ writes_in t x c.args.self.now.tables =
    λ t x. writers_same x t (turned c.args.table.now into _ _ turns)
    (same_keys x c.in-Some.xids.now into c.in_err-insert-in-Some.ensures.err ∙ ap (xid_in x) c.in-Some.ensures.value) in
    whatever_failed _ same

pub returns-in_err-insert-in-None-2-clause-err : goal.returns-in_err-insert-in-None-2-clause-err
unfolding writes_in
returns-in_err-insert-in-None-2-clause-err c =
    let old = c.get_mut.follows.lender-at-none in
    let same : (t : List ℕ) (x : ℕ) → writes_in t x c.insert-in-None-2.new.self ≡ writes_in t x c.args.self.now.tables =
    λ t x. ap (xid_in x) (same_entries t old c.insert-in-None-2.new.self c.in_err-insert-in-None-2.ensures.err)
    ∙ ap (writes_in t x) c.get_mut.follows.holds-at-none in
    whatever_failed _ same

pub returns-in_ok-insert-in-Some-clause-ok : goal.returns-in_ok-insert-in-Some-clause-ok
returns-in_ok-insert-in-Some-clause-ok c t x =
    let into = c.insert.new.self in
    let turns = written c.args.table.now c.in-Some.xids.now into c.args.self.now.tables (c.get_mut.follows.lender into)
    c.in-Some.ensures.value (c.get_mut.follows.holds into) in
    writers_changed c.args.xid x t true (turned c.args.table.now into _ _ turns)
    (updated c.args.xid x true c.in-Some.xids.now into c.in_ok-insert-in-Some.ensures.updates
    ∙ ap (λ o. cond (c.args.xid == x) true (xid_in x o)) c.in-Some.ensures.value)

pub returns-in_ok-insert-in-None-2-clause-ok : goal.returns-in_ok-insert-in-None-2-clause-ok
returns-in_ok-insert-in-None-2-clause-ok c = λ t x.
    let old = c.get_mut.follows.lender-at-none in
    let into = c.insert-in-None.new.self in
    let name = c.in_ok-from_slice-in-None.field-0.items in
    let turns = turns_by name (Some into) old c.insert-in-None-2.new.self c.in_ok-insert-in-None-2.ensures.updates in
    let inner = updated c.args.xid x true c.new-xids.result into c.in_ok-insert-in-None.ensures.updates in
    let absent = ap (xid_in x) c.in-None.ensures.value ∙ ap (λ m. xid_in x (at_key c.args.table.now m))
    (sym c.get_mut.follows.holds-at-none) ∙ ap (λ y. xid_in x (at_key y old))
    (sym c.in_ok-from_slice-in-None.ensures.items) in
    let all = writers_changed c.args.xid x t true (turned name into old c.insert-in-None-2.new.self turns) (inner
    ∙ ap (cond (c.args.xid == x) true) (no_keys x c.new-xids.result c.new-xids.ensures.empty ∙ absent)) in
    rw (← c.in_ok-from_slice-in-None.ensures.items, ← c.get_mut.follows.holds-at-none) all
