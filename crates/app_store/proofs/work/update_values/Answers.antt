use Rattle.std.proofs.Common.{◌∙◌, Some, sym, ap}
use Rattle.slon_model.specs.Rows.{updated}
use Rattle.slon_laws.proofs.Formed.{AreTexts-updated}
use Rattle.app_store.proofs.Formed.{none_lacks}
use Rattle.app_store.proofs.Written.{row_written}
use Rattle.app_store.proofs.work.update_values.Goals as goal

pub spelling-requires : goal.spelling-requires
spelling-requires c =
    rw (c.in_ok-row-in-Ok.ensures ∙ ap (updated c.args.columns.now) c.as_slice-in-Ok.ensures.value)
    (AreTexts-updated c.args.columns.now c.in-Ok.values c.requires c.in-Ok.ensures.can)

pub returns-in_ok-spelling-in-Ok-clause-form : goal.returns-in_ok-spelling-in-Ok-clause-form
returns-in_ok-spelling-in-Ok-clause-form c =
    none_lacks (record {
      row = Some c.in-Ok.values;
      texts = c.in-Ok.ensures.can;
      spelled = ap (λ v. Some v) (sym c.as_slice.ensures ∙ c.in-Ok.ensures.found);
    })

pub returns-in_ok-spelling-in-Ok-clause-written : goal.returns-in_ok-spelling-in-Ok-clause-written
returns-in_ok-spelling-in-Ok-clause-written c =
    let row = c.in_ok-row-in-Ok.ensures ∙ ap (updated c.args.columns.now) c.as_slice-in-Ok.ensures.value in
    row_written _ c.in_ok-row-in-Ok.row
    (rw row (AreTexts-updated c.args.columns.now c.in-Ok.values c.requires c.in-Ok.ensures.can))
    c.in_ok-spelling-in-Ok.ensures
