use Rattle.std.proofs.Common.{◌≡◌, ap, sym, ◌∙◌, cond, bytes_eq, Some, None}
use Rattle.std.specs.Option.{option_copied_mut}
use Rattle.txn_core.specs.Locks.{without}
use Rattle.txn_core.specs.LockMaps.{holder_in, key_in}
use Rattle.txn_core.proofs.Holding.{is_held, not_held, taken_back, left_so}
use Rattle.txn_core.proofs.KeyedMaps.{turns_by, turned, written, within, within_same}
use Rattle.txn_core.proofs.holders.Holders.release.Goals as goal

pub returns-then-eq : goal.returns-then-eq
unfolding holder_in
returns-then-eq c t k =
    let into = c.remove.new.self in
    let turns = written c.args.table.now c.in-Some.keys.now into c.args.self.now.tables (c.get_mut.follows.lender into)
    c.in-Some.ensures.value (c.get_mut.follows.holds into) in
    let inner = turns_by c.args.key.now None c.in-Some.keys.now into c.remove.ensures.updates k in
    let held : holder_in c.args.table.now c.args.key.now c.args.self.now.tables ≡ Some c.args.xid =
    sym (c.copied.ensures ∙ c.get.ensures.value ∙ ap (key_in c.args.key.now) c.in-Some.ensures.value)
    ∙ is_held c.copied.result c.args.xid (sym c.eq.ensures ∙ c.if-eq.true) in
    taken_back (record { xid = c.args.xid; table = c.args.table.now; key = c.args.key.now }) t k c.args.self.now.tables
    (c.get_mut.follows.lender into) held
    (within (key_in k) (bytes_eq c.args.key.now k) None
    (turned c.args.table.now into c.args.self.now.tables (c.get_mut.follows.lender into) turns) t (inner
    ∙ ap (λ o. cond (bytes_eq c.args.key.now k) None (key_in k o)) c.in-Some.ensures.value))

pub returns-else-eq : goal.returns-else-eq
unfolding holder_in
returns-else-eq c t k =
    let into = c.in-Some.keys.now in
    let turns = written c.args.table.now into into c.args.self.now.tables (c.get_mut.follows.lender into)
    c.in-Some.ensures.value (c.get_mut.follows.holds into) in
    let was : c.copied.result ≡ holder_in c.args.table.now c.args.key.now c.args.self.now.tables = c.copied.ensures
    ∙ c.get.ensures.value ∙ ap (key_in c.args.key.now) c.in-Some.ensures.value in
    let other = not_held c.copied.result c.args.xid (sym c.eq.ensures ∙ c.if-eq.false) in
    left_so (record { xid = c.args.xid; table = c.args.table.now; key = c.args.key.now }) t k c.args.self.now.tables
    (c.get_mut.follows.lender into)
    (ap (without c.args.xid) (sym was) ∙ other ∙ was)
    (within_same (key_in k) (turned c.args.table.now into c.args.self.now.tables (c.get_mut.follows.lender into) turns)
    t (ap (key_in k) c.in-Some.ensures.value))

pub returns-in_default : goal.returns-in_default
unfolding holder_in
returns-in_default c t k =
    let old = c.args.self.now.tables in
    let none : holder_in c.args.table.now c.args.key.now old ≡ None =
    ap (key_in c.args.key.now) (sym c.get_mut.ensures.value ∙ ap option_copied_mut c.in_default.is) in
    left_so (record { xid = c.args.xid; table = c.args.table.now; key = c.args.key.now }) t k old
    c.get_mut.follows.lender-at-none
    (ap (without c.args.xid) none ∙ sym none) (ap (holder_in t k) c.get_mut.follows.holds-at-none)
