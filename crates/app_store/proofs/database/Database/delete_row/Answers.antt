use Rattle.std.proofs.Common.{◌∙◌, Some, is_some, refl, sym, ap, subst}
use Rattle.std.specs.FinMap.{get}
use Rattle.slon_model.specs.Place.{seen_rows}
use Rattle.app_store.specs.Base.{base_of}
use Rattle.slon_model.specs.Rows.{Remove}
use Rattle.slon_model.specs.Tasks.{write_by}
use Rattle.slon_model.specs.Deciding.{limited, decide_row}
use Rattle.app_store.specs.Targets.{Follows}
use Rattle.app_store.proofs.Writing.{row_stopped, row_left, row_added, row_parts, sees_none, seen_there, acted_calm}
use Rattle.change_capture.specs.declared.action.Change.TheVariants as captured
use Rattle.node_state.specs.Known.{is_change}
use Rattle.app_store.specs.Handed.{Tells, Nothing}
use Rattle.app_store.proofs.database.Database.delete_row.Goals as goal

pub returns-in-None-clause-writes : goal.returns-in-None-clause-writes
returns-in-None-clause-writes g c p ready memory named =
    let found = c.in-Ok.ensures.finds p ready refl named in
    let parts = row_parts c.args.xid c.args.table.now c.args.key.now p c.in-Ok.target _ found in
    let w = write_by c.args.name.now c.args.table.now (Remove c.args.key.now) in
    row_left w c.args.xid p (sees_none w parts (ap is_some c.in-None.is)) _ _ parts.fits
    (record { told = refl; stays = refl })

pub returns-in_ok-copy-in-Some-clause-writes : goal.returns-in_ok-copy-in-Some-clause-writes
returns-in_ok-copy-in-Some-clause-writes g c p ready memory named =
    let found = c.in-Ok.ensures.finds p ready refl named in
    let parts = row_parts c.args.xid c.args.table.now c.args.key.now p c.in-Ok.target _ found in
    let row =
    seen_there (get (seen_rows c.args.xid p c.args.table.now) c.args.key.now) c.in-Ok.target.seen
    parts.target.seen_is (ap is_some c.in-Some.is) in
    subst
    (λ r. Follows
    (limited p (decide_row c.args.xid (write_by c.args.name.now c.args.table.now (Remove c.args.key.now)) p)) p
    r (base_of g.K.Keeper.kept c.add_write.new.self)) (sym c.some.ensures.value)
    (row_added (write_by c.args.name.now c.args.table.now (Remove c.args.key.now)) c.args.xid p
    (record { row = Some row.0; free = parts.free; seen = row.1 }) c.add_write.result _ refl
    (c.add_write.ensures.adds p (record { fits = parts.fits; sound = ready.sound; spelled = ready.spelled })
    (acted_calm c.add_write.result _ c.some.ensures.value memory) (Remove c.args.key.now)
    (record {
      opened = named;
      free = parts.free;
      key_is = refl;
      spelled_is = parts.target.key_is;
      captured_is = λ i. captured.Remove (c.in_ok-copy-in-Some.ensures i);
      value_is = refl;
    })))

pub returns-in-Err-clause-writes : goal.returns-in-Err-clause-writes
returns-in-Err-clause-writes g c p ready memory named =
    row_stopped (write_by c.args.name.now c.args.table.now (Remove c.args.key.now)) c.args.xid p c.in-Err.fault _
    (c.in-Err.ensures.finds p ready memory named)

pub returns-in_ok-copy-in-Some-clause-form : goal.returns-in_ok-copy-in-Some-clause-form
returns-in_ok-copy-in-Some-clause-form g c m held =
    subst (Tells Nothing) (sym c.some.ensures.halts)
    (c.add_write.ensures.form m ((c.in-Ok.ensures.form m held).1.held ∙ held))

pub add_write-requires-clause-formed : goal.add_write-requires-clause-formed
add_write-requires-clause-formed g c =
    (λ i. is_change (captured.Remove (c.in_ok-copy-in-Some.ensures i))) ∙ c.requires.formed
