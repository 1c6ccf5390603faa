use Rattle.std.proofs.Common.{◌∙◌, Some, is_some, refl, ap, arith}
use Rattle.std.specs.FinMap.{get}
use Rattle.slon_model.specs.Place.{seen_rows}
use Rattle.slon_model.specs.Rows.{Put}
use Rattle.slon_model.specs.Tasks.{write_by}
use Rattle.change_capture.specs.declared.action.Change.TheVariants as captured
use Rattle.node_state.specs.Known.{is_change}
use Rattle.app_store.proofs.Writing.{row_stopped, row_left, row_added, row_parts, sees_none, seen_there, acted_calm}
use Rattle.app_store.proofs.Written.{row_written}
use Rattle.app_store.proofs.database.Database.insert_row.Goals as goal

pub returns-in-Some-clause-writes : goal.returns-in-Some-clause-writes
returns-in-Some-clause-writes g c p ready memory named =
    let found = c.in-Ok.ensures.finds p ready refl named in
    let parts = row_parts c.args.xid c.args.table.now c.args.key.now p c.in-Ok.target _ found in
    let row =
    seen_there (get (seen_rows c.args.xid p c.args.table.now) c.args.key.now) c.in-Ok.target.seen
    parts.target.seen_is (ap is_some c.in-Some.is) in
    row_left (write_by c.args.name.now c.args.table.now (Put c.args.key.now c.args.row.now)) c.args.xid p
    (record { row = Some row.0; free = parts.free; seen = row.1 }) _ _ parts.fits
    (record { told = refl; stays = refl })

pub returns-in_ok-copy_values-in-None-clause-writes : goal.returns-in_ok-copy_values-in-None-clause-writes
returns-in_ok-copy_values-in-None-clause-writes g c p ready memory named =
    let found = c.in-Ok.ensures.finds p ready refl named in
    let parts = row_parts c.args.xid c.args.table.now c.args.key.now p c.in-Ok.target _ found in
    let w = write_by c.args.name.now c.args.table.now (Put c.args.key.now c.args.row.now) in
    row_added w c.args.xid p (sees_none w parts (ap is_some c.in-None.is)) c.add_write.result _ refl
    (c.add_write.ensures.adds p (record { fits = parts.fits; sound = ready.sound; spelled = ready.spelled })
    (acted_calm c.add_write.result _ refl memory) (Put c.args.key.now c.args.row.now)
    (record {
      opened = named;
      free = parts.free;
      key_is = refl;
      spelled_is = parts.target.key_is;
      captured_is = λ i. captured.Put (c.in_ok-copy-in-None.ensures i) (c.in_ok-copy_values-in-None.ensures i);
      value_is = ap (λ v. Some v) c.in_ok-spell_values-in-None.ensures;
    }))

pub returns-in-Err-clause-writes : goal.returns-in-Err-clause-writes
returns-in-Err-clause-writes g c p ready memory named =
    row_stopped (write_by c.args.name.now c.args.table.now (Put c.args.key.now c.args.row.now)) c.args.xid p
    c.in-Err.fault _ (c.in-Err.ensures.finds p ready memory named)

pub add_write-requires-clause-written : goal.add_write-requires-clause-written
add_write-requires-clause-written g c =
    row_written _ c.args.row.now (record { few = omega (arith, c.requires.few); each = c.requires.texts })
    c.in_ok-spell_values-in-None.ensures

pub returns-in_ok-copy_values-in-None-clause-form : goal.returns-in_ok-copy_values-in-None-clause-form
returns-in_ok-copy_values-in-None-clause-form g c m held =
    c.add_write.ensures.form m ((c.in-Ok.ensures.form m held).1.held ∙ held)

pub add_write-requires-clause-formed : goal.add_write-requires-clause-formed
add_write-requires-clause-formed g c =
    (λ i. is_change (captured.Put (c.in_ok-copy-in-None.ensures i) (c.in_ok-copy_values-in-None.ensures i)))
    ∙ c.requires.formed
