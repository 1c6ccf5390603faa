use Rattle.std.proofs.Common.{◌≡◌, ◌∙◌, true, sym, subst}
use Rattle.node_state.specs.Known.{are_captured}
use Rattle.app_store.specs.Written.{AreInForm, AreWritten}
use Rattle.app_store.specs.declared.opens.Transaction.{Transaction}
use Rattle.app_store.proofs.Written.{kept_put, less_written, more_written, more_captured}
use Rattle.app_store.proofs.opens.write.Goals as goal

pub returns-in-None-clause-kept : goal.returns-in-None-clause-kept
returns-in-None-clause-kept c kept written captured =
    subst AreWritten (sym c.remove.ensures.map) (less_written _ _ kept)

pub returns-in-Err-clause-kept : goal.returns-in-Err-clause-kept
returns-in-Err-clause-kept c kept written captured =
    subst AreWritten (sym c.remove.ensures.map) (less_written _ _ kept)

pub returns-in-Ok-clause-kept : goal.returns-in-Ok-clause-kept
returns-in-Ok-clause-kept c kept written captured =
    let before =
    subst AreWritten (sym c.remove.ensures.map) (less_written _ _ kept) in
    let t = c.in-Some.transaction in
    let one = kept _ t (sym c.remove.ensures.value ∙ c.in-Some.is) in
    kept_put c.put.result (record { ok = c.put.ensures.ok; err = c.put.ensures.err }) before (
      subst (λ (w : Transaction). AreInForm w.writes) (sym c.in-Ok.ensures)
          (more_written t _ c.args.value one.0 written),
      subst (λ (w : Transaction). are_captured w.xid w.actions ≡ true) (sym c.in-Ok.ensures)
          (more_captured t.xid t.actions c.args.action one.1 captured),
    )
