use Rattle.std.proofs.Common.{◌≡◌, Some, None, ap, sym, ◌∙◌, subst}
use Rattle.std.proofs.lemmas.Result.{IfErr-weaker}
use Rattle.txn_core.specs.declared.fault.LockFault.TheVariants.{NoMemory}
use Rattle.txn_core.specs.Locks.{holder_of, Refuses}
use Rattle.txn_core.proofs.Ties.{holder_seen, whatever_passed, free_own, free_none, own_again}
use Rattle.txn_core.proofs.lock_table.LockTable.take.Goals as goal

pub returns-then-holder-xid-clause-free : goal.returns-then-holder-xid-clause-free
returns-then-holder-xid-clause-free c =
    let held : holder_of c.args.table.now c.args.key.now c.args.self.now ≡ Some c.in-Some.holder =
    sym (ap (holder_of c.args.table.now c.args.key.now) c.self.view_is)
    ∙ holder_seen c.args.table.now c.args.key.now c.self.inside.holders.tables ∙ sym c.get.ensures ∙ c.in-Some.is in
    free_own c.args.xid c.in-Some.holder _ held c.if-holder-xid.true

pub returns-then-holder-xid-clause-ok : goal.returns-then-holder-xid-clause-ok
returns-then-holder-xid-clause-ok c t k =
    let held : holder_of c.args.table.now c.args.key.now c.args.self.now ≡ Some c.in-Some.holder =
    sym (ap (holder_of c.args.table.now c.args.key.now) c.self.view_is)
    ∙ holder_seen c.args.table.now c.args.key.now c.self.inside.holders.tables ∙ sym c.get.ensures ∙ c.in-Some.is in
    own_again c.args.xid c.args.table.now c.args.key.now t k c.args.self.now (held ∙ ap Some c.if-holder-xid.true)

pub take_free-requires : goal.take_free-requires
take_free-requires c =
    sym (ap (holder_of c.args.table.now c.args.key.now) c.self.view_is)
    ∙ holder_seen c.args.table.now c.args.key.now c.self.inside.holders.tables ∙ sym c.get.ensures ∙ c.in-None.is

pub returns-else-holder-xid-clause-refused : goal.returns-else-holder-xid-clause-refused
returns-else-holder-xid-clause-refused c =
    let held : holder_of c.args.table.now c.args.key.now c.args.self.now ≡ Some c.in-Some.holder =
    sym (ap (holder_of c.args.table.now c.args.key.now) c.self.view_is)
    ∙ holder_seen c.args.table.now c.args.key.now c.self.inside.holders.tables ∙ sym c.get.ensures ∙ c.in-Some.is in
    (held, c.if-holder-xid.false)

pub returns-in-None-clause-free : goal.returns-in-None-clause-free
returns-in-None-clause-free c =
    let none : holder_of c.args.table.now c.args.key.now c.args.self.now ≡ None =
    sym (ap (holder_of c.args.table.now c.args.key.now) c.self.view_is)
    ∙ holder_seen c.args.table.now c.args.key.now c.self.inside.holders.tables ∙ sym c.get.ensures ∙ c.in-None.is in
    whatever_passed _ (free_none c.args.xid _ none)

pub returns-in-None-clause-refused : goal.returns-in-None-clause-refused
returns-in-None-clause-refused c =
    let none : holder_of c.args.table.now c.args.key.now c.args.self.now ≡ None =
    sym (ap (holder_of c.args.table.now c.args.key.now) c.self.view_is)
    ∙ holder_seen c.args.table.now c.args.key.now c.self.inside.holders.tables ∙ sym c.get.ensures ∙ c.in-None.is in
    IfErr-weaker c.take_free.result (λ fault. fault ≡ NoMemory)
    (Refuses c.args.xid (holder_of c.args.table.now c.args.key.now c.args.self.now))
    (λ fault e. subst (Refuses c.args.xid (holder_of c.args.table.now c.args.key.now c.args.self.now)) (sym e) none)
    c.take_free.ensures.refused
