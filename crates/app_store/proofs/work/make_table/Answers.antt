use Rattle.std.proofs.Common.{◌∙◌, sym, ap, subst, is_some, Ok}
use Rattle.std.specs.FinMap.{get}
use Rattle.slon_base.specs.Codec.{number_bytes}
use Rattle.slon_base.specs.Keeper.{put_at}
use Rattle.app_store.specs.Spelled.{tables}
use Rattle.app_store.specs.Steps.{Leaves}
use Rattle.app_store.proofs.Formed.{reads_of}
use Rattle.app_store.proofs.Pending.{held_gives}
use Rattle.app_store.proofs.work.make_table.Goals as goal

pub returns-clause-works : goal.returns-clause-works
returns-clause-works g c m found held small spelled =
    let first = c.new.ensures in
    let last = c.new-2.ensures in
    let named = c.as_slice.ensures ∙ c.in_ok-key.ensures in
    let columns = (held_gives c.requires.idle c.in_ok-found.ensures m held).says found small (ap (get (m tables)) named
    ∙ spelled) in (
      ap is_some (sym columns) ∙ sym c.is_some.ensures ∙ c.if-is_some.false,
      subst (λ f. Leaves f m (Ok c.in_ok-transact.field-0) (g.K.Keeper.kept c.transact.new.keeper))
          (λ i other. put_at (last.space i) (last.key i) ((last.value ∙ c.as_slice-4.ensures ∙ c.in_ok-stamp.ensures) i)
          (put_at (first.space i) ((first.key ∙ c.as_slice-2.ensures ∙ c.in_ok-key.ensures) i)
          ((first.value ∙ c.as_slice-3.ensures ∙ c.in_ok-columns.ensures ∙ ap number_bytes c.from.ensures) i) other))
          (c.in_ok-transact.ensures.leaves m (c.in_ok-found.ensures.held ∙ held)),
    )

pub returns-clause-form : goal.returns-clause-form
returns-clause-form g c m held =
    reads_of c.args.table.now m (c.as_slice.ensures ∙ c.in_ok-key.ensures)
    (held_gives c.requires.idle c.in_ok-found.ensures m held).form
