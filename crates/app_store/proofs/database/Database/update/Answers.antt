use Rattle.std.proofs.Common.{◌≡◌, ◌∙◌, ℕ, List, true, false, Ok, Err, refl, sym, ap, subst}
use Rattle.change_capture.specs.declared.action.Change.TheVariants as captured
use Rattle.node_state.specs.Handed.{IsOpenTo}
use Rattle.node_state.specs.Known.{is_change}
use Rattle.app_store.specs.Base.{Memory, base_of, memory_of}
use Rattle.app_store.specs.Handed.{HandedRow, HasWidth, Tells}
use Rattle.app_store.specs.Spelled.{rows}
use Rattle.slon_model.specs.World.{halt_in}
use Rattle.slon_model.specs.Rows.{Set}
use Rattle.slon_model.specs.Tasks.{ToWrite, Write, write_by}
use Rattle.slon_model.specs.declared.numbering.Numbering.TheVariants.{Actions as NumbersActions}
use Rattle.app_store.specs.Serves.{answered, halts, NeedsNext}
use Rattle.app_store.specs.Answers.{acted_or_not}
use Rattle.slon_model.specs.Deciding.{are_columns}
use Rattle.app_store.specs.Targets.{WritesRow}
use Rattle.app_store.proofs.Handing.{tells_acting, row_handed, width_handed, unfit_handed, set_handed, checked}
use Rattle.app_store.proofs.Standing.{up_from}
use Rattle.app_store.proofs.Serving.{serves_part, part_needs, part_then}
use Rattle.app_store.proofs.Writing.{width_stopped, width_parts, write_comes, acted_or_not_halts}
use Rattle.app_store.proofs.Writing.{open_parts, open_stopped}
use Rattle.app_store.proofs.database.Database.update.Goals as goal

pub returns-in-Ok-check_open-clause-serves : goal.returns-in-Ok-check_open-clause-serves
returns-in-Ok-check_open-clause-serves g c =
    serves_part (ToWrite (write_by c.args.name.now c.args.table.now (Set c.args.key.now c.args.columns.now))) _ _
    c.update_row.result _
    (record { begun = (c.if-not-self.false, refl); prepared = refl; same = acted_or_not_halts c.update_row.result })
    (part_then _ _ (base_of g.K.Keeper.kept c.check_open.new.self) _ tt c.update_row.result
    (part_then _ _ (base_of g.K.Keeper.kept c.find_width.new.self) _ _ (Ok tt) c.in-Ok.ensures.part
    c.in-Ok-check_open.ensures.part) c.update_row.ensures.part) (λ p ready memory.
    let found = c.in-Ok.ensures.finds p ready refl in
    let wide = width_parts c.args.name.now c.args.table.now p c.in-Ok.xid c.in-Ok.width _ found in
    let passed = open_parts c.args.table.now p _ (c.in-Ok-check_open.ensures.finds p
    (record { fits = wide.fits; sound = ready.sound; spelled = ready.spelled }) refl) in
    write_comes (write_by c.args.name.now c.args.table.now (Set c.args.key.now c.args.columns.now)) p
    _ _ (up_from ready c.if-not-self.false)
    (record {
      width = c.in-Ok.width;
      wide = wide;
      fit = subst (λ columns. are_columns columns c.in-Ok.width ≡ true) c.as_slice.ensures
          (sym c.are_columns.ensures ∙ c.if-not-are_columns.false);
    }) passed.open_is
    (subst (λ columns. WritesRow (write_by c.args.name.now c.args.table.now (Set c.args.key.now columns)) c.in-Ok.xid
    (base_of g.K.Keeper.kept c.check_open.new.self) (answered acted_or_not c.update_row.result)
    (base_of g.K.Keeper.kept c.update_row.new.self)) c.as_slice-in-Ok-check_open.ensures c.update_row.ensures.writes p
    (record { fits = passed.fits; sound = ready.sound; spelled = ready.spelled }) memory wide.named))

pub returns-in-Err-check_open-clause-serves : goal.returns-in-Err-check_open-clause-serves
returns-in-Err-check_open-clause-serves g c =
    serves_part {T = Unit {0}}
    (ToWrite (write_by c.args.name.now c.args.table.now (Set c.args.key.now c.args.columns.now)))
    (base_of g.K.Keeper.kept c.args.self.now) _ (Err c.in-Err-check_open.fault) (Err c.in-Err-check_open.fault)
    (record { begun = (c.if-not-self.false, refl); prepared = refl; same = refl })
    (part_needs (NeedsNext NumbersActions) (base_of g.K.Keeper.kept c.args.self.now) _ _
    (part_then _ _ (base_of g.K.Keeper.kept c.find_width.new.self) _ _ (Err c.in-Err-check_open.fault)
    c.in-Ok.ensures.part c.in-Err-check_open.ensures.part)) (λ p ready memory.
    let found = c.in-Ok.ensures.finds p ready refl in
    let wide = width_parts c.args.name.now c.args.table.now p c.in-Ok.xid c.in-Ok.width _ found in
    open_stopped (write_by c.args.name.now c.args.table.now (Set c.args.key.now c.args.columns.now)) p
    c.in-Err-check_open.fault _ (up_from ready c.if-not-self.false)
    (record {
      width = c.in-Ok.width;
      wide = wide;
      fit = subst (λ columns. are_columns columns c.in-Ok.width ≡ true) c.as_slice.ensures
          (sym c.are_columns.ensures ∙ c.if-not-are_columns.false);
    }) (c.in-Err-check_open.ensures.finds p
    (record { fits = wide.fits; sound = ready.sound; spelled = ready.spelled }) memory))

pub returns-in-Err-clause-serves : goal.returns-in-Err-clause-serves
returns-in-Err-clause-serves g c =
    serves_part {T = ℕ × ℕ}
    (ToWrite (write_by c.args.name.now c.args.table.now (Set c.args.key.now c.args.columns.now)))
    (base_of g.K.Keeper.kept c.args.self.now) _ (Err c.in-Err.fault) (Err c.in-Err.fault)
    (record { begun = (c.if-not-self.false, refl); prepared = refl; same = refl })
    (part_needs (NeedsNext NumbersActions)
    (base_of g.K.Keeper.kept c.args.self.now) _ _ c.in-Err.ensures.part) (λ p ready memory.
    width_stopped (write_by c.args.name.now c.args.table.now (Set c.args.key.now c.args.columns.now)) p
    (base_of g.K.Keeper.kept c.args.self.now) _ c.in-Err.fault (up_from ready c.if-not-self.false)
    (c.in-Err.ensures.finds p ready memory))

pub returns-in-Err-clause-hands : goal.returns-in-Err-clause-hands
returns-in-Err-clause-hands g c m held =
    tells_acting _ _ (halt_in c.in-Err.fault) c.if-not-self.false
    (c.in-Err.ensures.form m held (Set c.args.key.now c.args.columns.now))

pub returns-then-not-are_columns-clause-hands : goal.returns-then-not-are_columns-clause-hands
returns-then-not-are_columns-clause-hands g c m held space handed =
    let w = write_by c.args.name.now c.args.table.now (Set c.args.key.now c.args.columns.now) in
    let wide = (c.in-Ok.ensures.form m held).0 in
    let unfit = subst (λ columns. are_columns columns c.in-Ok.width ≡ false) c.as_slice.ensures
    (sym c.are_columns.ensures ∙ c.if-not-are_columns.true) in
    width_handed w (memory_of c.args.self.now.state) m wide
    (unfit_handed w (memory_of c.args.self.now.state) m wide unfit) unfit space handed.1

pub returns-in-Err-check_open-clause-hands : goal.returns-in-Err-check_open-clause-hands
returns-in-Err-check_open-clause-hands g c m held =
    let found = c.in-Ok.ensures.form m held in
    tells_acting _ _ (halt_in c.in-Err-check_open.fault) c.if-not-self.false
    (set_handed (write_by c.args.name.now c.args.table.now (Set c.args.key.now c.args.columns.now))
    (memory_of c.args.self.now.state) m (halt_in c.in-Err-check_open.fault) found.0
    (subst (λ columns. are_columns columns c.in-Ok.width ≡ true) c.as_slice.ensures
    (sym c.are_columns.ensures ∙ c.if-not-are_columns.false))
    (checked c.args.table.now (base_of g.K.Keeper.kept c.args.self.now) m (Err c.in-Err-check_open.fault) found.1
    (c.in-Err-check_open.ensures.form m (found.1.held ∙ held))))

pub returns-in-Ok-check_open-clause-hands : goal.returns-in-Ok-check_open-clause-hands
returns-in-Ok-check_open-clause-hands g c m held =
    let found = c.in-Ok.ensures.form m held in
    let reads = checked c.args.table.now _ m (Ok tt) found.1
    (c.in-Ok-check_open.ensures.form m (found.1.held ∙ held)) in
    let by : List (ℕ × List ℕ) → Write = λ columns. write_by c.args.name.now c.args.table.now
    (Set c.args.key.now columns) in
    let wide = subst (λ memory. HasWidth c.args.name.now c.args.table.now c.in-Ok.xid c.in-Ok.width memory m)
    (sym reads.2.memory) found.0 in
    let fit = subst (λ columns. are_columns columns c.in-Ok.width ≡ true)
    (c.as_slice.ensures ∙ sym c.as_slice-in-Ok-check_open.ensures)
    (sym c.are_columns.ensures ∙ c.if-not-are_columns.false) in
    let allowed = subst (λ (memory : Memory). IsOpenTo memory.members c.args.table.now m) (sym reads.2.memory)
    reads.0 in
    let told = c.update_row.ensures.form m (reads.2.held ∙ held) c.in-Ok.width wide fit allowed in
    let same = subst (λ columns. Tells (λ space. (space ≡ rows)
    × HandedRow (by columns) (memory_of c.check_open.new.self.state) m) (halts c.update_row.result))
    c.as_slice-in-Ok-check_open.ensures told in
    let here = subst (λ memory. Tells (λ space. (space ≡ rows)
    × HandedRow (by c.args.columns.now) memory m) (halts c.update_row.result)) reads.2.memory same in
    tells_acting _ _ _ c.if-not-self.false
    (row_handed (by c.args.columns.now) (memory_of c.args.self.now.state) m _ found.0
    (λ space set. reads.1 space set.set)
    (subst (Tells (λ space. (space ≡ rows) × HandedRow (by c.args.columns.now) (memory_of c.args.self.now.state) m))
    (sym (acted_or_not_halts c.update_row.result)) here))

pub update_row-requires-clause-formed : goal.update_row-requires-clause-formed
update_row-requires-clause-formed g c =
    ap (λ columns. is_change (captured.Set c.args.key.now columns)) c.as_slice-in-Ok-check_open.ensures
    ∙ c.requires.formed
