use Rattle.std.proofs.Common.{◌≡◌, List, ℕ, ap, sym, ◌∙◌, cond, bytes_eq, Some}
use Rattle.txn_core.specs.LockMaps.{holder_in, key_in, at_key}
use Rattle.txn_core.proofs.KeyedMaps.{whatever_failed, turns_by, turned, written, same_entries, at_empty, within}
use Rattle.txn_core.proofs.KeyedMaps.{within_same}
use Rattle.txn_core.proofs.holders.Holders.set.Goals as goal

pub returns-in_err-insert-in-Some-clause-err : goal.returns-in_err-insert-in-Some-clause-err
unfolding holder_in
returns-in_err-insert-in-Some-clause-err c =
    let into = c.insert.new.self in
    let turns = written c.args.table.now c.in-Some.keys.now into c.args.self.now.tables (c.get_mut.follows.lender into)
    c.in-Some.ensures.value (c.get_mut.follows.holds into) in
    let same : (t k : List ℕ) →
    holder_in t k (c.get_mut.follows.lender into) ≡ holder_in t k c.args.self.now.tables =
    λ t k. within_same (key_in k) (turned c.args.table.now into c.args.self.now.tables (c.get_mut.follows.lender into)
    turns) t
    (same_entries k c.in-Some.keys.now into c.in_err-insert-in-Some.ensures.err
    ∙ ap (key_in k) c.in-Some.ensures.value) in
    whatever_failed _ same

pub returns-in_err-insert-in-None-2-clause-err : goal.returns-in_err-insert-in-None-2-clause-err
unfolding holder_in
returns-in_err-insert-in-None-2-clause-err c =
    let old = c.get_mut.follows.lender-at-none in
    let same : (t k : List ℕ) → holder_in t k c.insert-in-None-2.new.self ≡ holder_in t k c.args.self.now.tables =
    λ t k. ap (key_in k) (same_entries t old c.insert-in-None-2.new.self c.in_err-insert-in-None-2.ensures.err)
    ∙ ap (holder_in t k) c.get_mut.follows.holds-at-none in
    whatever_failed _ same

pub returns-in_ok-insert-in-Some-clause-ok : goal.returns-in_ok-insert-in-Some-clause-ok
unfolding holder_in
returns-in_ok-insert-in-Some-clause-ok c = λ t k.
    let into = c.insert.new.self in
    let turns = written c.args.table.now c.in-Some.keys.now into c.args.self.now.tables (c.get_mut.follows.lender into)
    c.in-Some.ensures.value (c.get_mut.follows.holds into) in
    let inner = turns_by c.in_ok-key.key.items (Some c.args.xid) c.in-Some.keys.now into
    c.in_ok-insert-in-Some.ensures.updates k in
    let named = ap (λ x. cond (bytes_eq x k) (Some c.args.xid) (at_key k c.in-Some.keys.now)) c.in_ok-key.ensures.items
    in
    within (key_in k) (bytes_eq c.args.key.now k) (Some c.args.xid)
    (turned c.args.table.now into c.args.self.now.tables (c.get_mut.follows.lender into) turns) t (inner
    ∙ named ∙ ap (λ o. cond (bytes_eq c.args.key.now k) (Some c.args.xid) (key_in k o))
    c.in-Some.ensures.value)

pub returns-in_ok-insert-in-None-2-clause-ok : goal.returns-in_ok-insert-in-None-2-clause-ok
unfolding holder_in
returns-in_ok-insert-in-None-2-clause-ok c = λ t k.
    let old = c.get_mut.follows.lender-at-none in
    let into = c.insert-in-None.new.self in
    let name = c.in_ok-from_slice-in-None.field-0.items in
    let turns = turns_by name (Some into) old c.insert-in-None-2.new.self c.in_ok-insert-in-None-2.ensures.updates in
    let inner = turns_by c.in_ok-key.key.items (Some c.args.xid) c.new-keys.result into
    c.in_ok-insert-in-None.ensures.updates k in
    let named = ap (λ x. cond (bytes_eq x k) (Some c.args.xid) (at_key k c.new-keys.result)) c.in_ok-key.ensures.items
    in
    let none = at_empty k c.new-keys.result c.new-keys.ensures.empty in
    let absent = ap (key_in k) c.in-None.ensures.value ∙ ap (λ m. key_in k (at_key c.args.table.now m))
    (sym c.get_mut.follows.holds-at-none) ∙ ap (λ x. key_in k (at_key x old))
    (sym c.in_ok-from_slice-in-None.ensures.items) in
    let all = within (key_in k) (bytes_eq c.args.key.now k)
    (Some c.args.xid) (turned name into old c.insert-in-None-2.new.self turns) t (inner ∙ named
    ∙ ap (cond (bytes_eq c.args.key.now k) (Some c.args.xid)) (none ∙ absent)) in
    rw (← c.in_ok-from_slice-in-None.ensures.items, ← c.get_mut.follows.holds-at-none) all
