use Rattle.std.proofs.Common.{◌≡◌, ◌∙◌, ◌∷◌, Some, is_some, refl, sym, ap, subst}
use Rattle.std.specs.FinMap.{get}
use Rattle.std.specs.Option.{option_map}
use Rattle.slon_base.specs.Codec.{list_bytes}
use Rattle.slon_model.specs.Place.{seen_rows}
use Rattle.app_store.specs.Base.{base_of, memory_of}
use Rattle.app_store.specs.Formed.{AreValues, Lacks}
use Rattle.app_store.specs.Handed.{HandedRow, Tells, Nothing}
use Rattle.app_store.specs.Spelled.{rows}
use Rattle.slon_model.specs.Rows.{Set, updated, member}
use Rattle.slon_model.specs.Tasks.{write_by}
use Rattle.slon_model.specs.Deciding.{limited, decide_row}
use Rattle.app_store.specs.Targets.{Follows}
use Rattle.change_capture.specs.declared.action.Change.TheVariants as captured
use Rattle.node_state.specs.Known.{is_change}
use Rattle.slon_laws.proofs.Formed.{since_formed}
use Rattle.app_store.proofs.Writing.{row_stopped, row_left, row_added, row_parts, sees_none, seen_some, acted_calm}
use Rattle.app_store.proofs.Writing.{update_stopped}
use Rattle.app_store.proofs.Handing.{tells_stop, tells_none, values_formed, values_handed}
use Rattle.app_store.proofs.database.Database.update_row.Goals as goal

pub returns-in-None-clause-writes : goal.returns-in-None-clause-writes
returns-in-None-clause-writes g c p ready memory named =
    let found = c.in-Ok.ensures.finds p ready refl named in
    let parts = row_parts c.args.xid c.args.table.now c.args.key.now p c.in-Ok.target _ found in
    let w = write_by c.args.name.now c.args.table.now (Set c.args.key.now c.args.columns.now) in
    row_left w c.args.xid p (sees_none w parts (ap is_some c.in-None.is)) _ _ parts.fits
    (record { told = refl; stays = refl })

pub returns-in_ok-copy_columns-in-Ok-update_values-clause-writes :
    goal.returns-in_ok-copy_columns-in-Ok-update_values-clause-writes
returns-in_ok-copy_columns-in-Ok-update_values-clause-writes g c p ready memory named =
    let found = c.in-Ok.ensures.finds p ready refl named in
    let parts = row_parts c.args.xid c.args.table.now c.args.key.now p c.in-Ok.target _ found in
    let row =
    seen_some (get (seen_rows c.args.xid p c.args.table.now) c.args.key.now) c.in-Ok.target.seen c.in-Some.values
    parts.target.seen_is c.in-Some.is in
    let texts =
    (since_formed (λ a. member a.xid (c.args.xid ∷ p.commits)) c.args.table.now p ready.spelled c.args.key.now row.0
    row.1).0.1 in
    let value = c.in-Ok-update_values.ensures.says row.0 texts row.2 in
    subst
    (λ r. Follows
    (limited p
    (decide_row c.args.xid
    (write_by c.args.name.now c.args.table.now (Set c.args.key.now c.args.columns.now)) p)) p r
    (base_of g.K.Keeper.kept c.add_write.new.self)) (sym c.some.ensures.value)
    (row_added (write_by c.args.name.now c.args.table.now (Set c.args.key.now c.args.columns.now)) c.args.xid p
    (record { row = Some row.0; free = parts.free; seen = row.1 }) c.add_write.result _ refl
    (c.add_write.ensures.adds p (record { fits = parts.fits; sound = ready.sound; spelled = ready.spelled })
    (acted_calm c.add_write.result _ c.some.ensures.value memory) (Set c.args.key.now c.args.columns.now)
    (record {
      opened = named;
      free = parts.free;
      key_is = refl;
      spelled_is = parts.target.key_is;
      captured_is = λ i. captured.Set (c.in_ok-copy-in-Ok-update_values.ensures i)
          (c.in_ok-copy_columns-in-Ok-update_values.ensures i);
      value_is =
          ap (λ v. Some v) value
          ∙ sym (ap (λ o. option_map list_bytes (option_map (updated c.args.columns.now) o)) row.1);
    })))

pub returns-in-Err-update_values-clause-writes : goal.returns-in-Err-update_values-clause-writes
returns-in-Err-update_values-clause-writes g c p ready memory named =
    let found = c.in-Ok.ensures.finds p ready refl named in
    let parts = row_parts c.args.xid c.args.table.now c.args.key.now p c.in-Ok.target _ found in
    let row =
    seen_some (get (seen_rows c.args.xid p c.args.table.now) c.args.key.now) c.in-Ok.target.seen c.in-Some.values
    parts.target.seen_is c.in-Some.is in
    let texts =
    (since_formed (λ a. member a.xid (c.args.xid ∷ p.commits)) c.args.table.now p ready.spelled c.args.key.now row.0
    row.1).0.1 in
    absurd (update_stopped (list_bytes (updated c.args.columns.now row.0)) c.in-Err-update_values.stop c.fall.result _
    (c.in-Err-update_values.ensures.says row.0 texts row.2) c.in-Err-update_values.ensures.never
    c.fall.ensures.fault memory)

pub returns-in-Err-clause-writes : goal.returns-in-Err-clause-writes
returns-in-Err-clause-writes g c p ready memory named =
    row_stopped (write_by c.args.name.now c.args.table.now (Set c.args.key.now c.args.columns.now)) c.args.xid p
    c.in-Err.fault _ (c.in-Err.ensures.finds p ready memory named)

pub returns-in_ok-copy_columns-in-Ok-update_values-clause-form :
    goal.returns-in_ok-copy_columns-in-Ok-update_values-clause-form
returns-in_ok-copy_columns-in-Ok-update_values-clause-form g c m held width wide reads allowed =
    let found = c.in-Ok.ensures.form m held in
    let w = write_by c.args.name.now c.args.table.now (Set c.args.key.now c.args.columns.now) in
    tells_none (λ space. (space ≡ rows) × HandedRow w (memory_of c.args.self.now.state) m) _
    (values_formed w (memory_of c.args.self.now.state) m (Some c.in-Some.values) (sym c.in-Some.is ∙ found.0)
    (λ unless. c.in-Ok-update_values.ensures.form rows (refl, unless)))
    (subst (Tells Nothing) (sym c.some.ensures.halts)
    (c.add_write.ensures.form m (found.1.held ∙ held)))

pub returns-in-Err-update_values-clause-form : goal.returns-in-Err-update_values-clause-form
returns-in-Err-update_values-clause-form g c m held width wide reads allowed =
    let found = c.in-Ok.ensures.form m held in
    let w = write_by c.args.name.now c.args.table.now (Set c.args.key.now c.args.columns.now) in
    tells_stop (Lacks rows (AreValues (Some c.in-Some.values)))
    (λ space. (space ≡ rows) × HandedRow w (memory_of c.args.self.now.state) m)
    c.in-Err-update_values.stop c.fall.result _ c.fall.ensures.fault
    (λ space lacks. (
      lacks.0,
      values_handed w (memory_of c.args.self.now.state) m c.in-Some.values
          (record {
            xid = c.args.xid;
            width = width;
            wide = wide;
            reads = reads;
            allowed = allowed;
            free = c.in-Ok.ensures.free;
          })
          (sym c.in-Some.is ∙ found.0) c.args.self.now.state.written lacks.1,
    ))
    c.in-Err-update_values.ensures.form

pub add_write-requires-clause-formed : goal.add_write-requires-clause-formed
add_write-requires-clause-formed g c =
    (λ i. is_change (captured.Set (c.in_ok-copy-in-Ok-update_values.ensures i)
    (c.in_ok-copy_columns-in-Ok-update_values.ensures i))) ∙ c.requires.formed
