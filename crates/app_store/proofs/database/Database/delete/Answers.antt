use Rattle.std.proofs.Common.{◌∙◌, ℕ, Ok, Err, refl, sym, subst}
use Rattle.app_store.specs.Base.{base_of, memory_of}
use Rattle.app_store.specs.Handed.{HandedWrite, Tells, Nothing}
use Rattle.slon_model.specs.World.{halt_in}
use Rattle.slon_model.specs.Rows.{Remove}
use Rattle.slon_model.specs.Tasks.{ToWrite, write_by}
use Rattle.slon_model.specs.declared.numbering.Numbering.TheVariants.{Actions as NumbersActions}
use Rattle.app_store.specs.Serves.{NeedsNext}
use Rattle.app_store.proofs.Handing.{tells_acting, tells_none, width_handed, set_handed, checked}
use Rattle.app_store.proofs.Standing.{up_from}
use Rattle.app_store.proofs.Serving.{serves_part, part_needs, part_then}
use Rattle.app_store.proofs.Writing.{width_stopped, width_parts, write_comes, acted_or_not_halts}
use Rattle.app_store.proofs.Writing.{open_parts, open_stopped}
use Rattle.app_store.proofs.database.Database.delete.Goals as goal

pub returns-in-Ok-check_open-clause-serves : goal.returns-in-Ok-check_open-clause-serves
returns-in-Ok-check_open-clause-serves g c =
    serves_part (ToWrite (write_by c.args.name.now c.args.table.now (Remove c.args.key.now))) _ _ c.delete_row.result _
    (record { begun = (c.if-not-self.false, refl); prepared = refl; same = acted_or_not_halts c.delete_row.result })
    (part_then _ _ (base_of g.K.Keeper.kept c.check_open.new.self) _ tt c.delete_row.result
    (part_then _ _ (base_of g.K.Keeper.kept c.find_width.new.self) _ _ (Ok tt) c.in-Ok.ensures.part
    c.in-Ok-check_open.ensures.part) c.delete_row.ensures.part) (λ p ready memory.
    let found = c.in-Ok.ensures.finds p ready refl in
    let wide = width_parts c.args.name.now c.args.table.now p c.in-Ok.xid c.in-Ok.field-0-1 _ found in
    let passed = open_parts c.args.table.now p _ (c.in-Ok-check_open.ensures.finds p
    (record { fits = wide.fits; sound = ready.sound; spelled = ready.spelled }) refl) in
    write_comes (write_by c.args.name.now c.args.table.now (Remove c.args.key.now)) p
    _ _ (up_from ready c.if-not-self.false)
    (record { width = c.in-Ok.field-0-1; wide = wide; fit = refl }) passed.open_is
    (c.delete_row.ensures.writes p
    (record { fits = passed.fits; sound = ready.sound; spelled = ready.spelled }) memory wide.named))

pub returns-in-Err-check_open-clause-serves : goal.returns-in-Err-check_open-clause-serves
returns-in-Err-check_open-clause-serves g c =
    serves_part {T = Unit {0}} (ToWrite (write_by c.args.name.now c.args.table.now (Remove c.args.key.now)))
    (base_of g.K.Keeper.kept c.args.self.now) _ (Err c.in-Err-check_open.fault) (Err c.in-Err-check_open.fault)
    (record { begun = (c.if-not-self.false, refl); prepared = refl; same = refl })
    (part_needs (NeedsNext NumbersActions) (base_of g.K.Keeper.kept c.args.self.now) _ _
    (part_then _ _ (base_of g.K.Keeper.kept c.find_width.new.self) _ _ (Err c.in-Err-check_open.fault)
    c.in-Ok.ensures.part c.in-Err-check_open.ensures.part)) (λ p ready memory.
    let found = c.in-Ok.ensures.finds p ready refl in
    let wide = width_parts c.args.name.now c.args.table.now p c.in-Ok.xid c.in-Ok.field-0-1 _ found in
    open_stopped (write_by c.args.name.now c.args.table.now (Remove c.args.key.now)) p
    c.in-Err-check_open.fault _ (up_from ready c.if-not-self.false)
    (record { width = c.in-Ok.field-0-1; wide = wide; fit = refl })
    (c.in-Err-check_open.ensures.finds p
    (record { fits = wide.fits; sound = ready.sound; spelled = ready.spelled }) memory))

pub returns-in-Err-clause-serves : goal.returns-in-Err-clause-serves
returns-in-Err-clause-serves g c =
    serves_part {T = ℕ × ℕ} (ToWrite (write_by c.args.name.now c.args.table.now (Remove c.args.key.now)))
    (base_of g.K.Keeper.kept c.args.self.now) _ (Err c.in-Err.fault) (Err c.in-Err.fault)
    (record { begun = (c.if-not-self.false, refl); prepared = refl; same = refl })
    (part_needs (NeedsNext NumbersActions)
    (base_of g.K.Keeper.kept c.args.self.now) _ _ c.in-Err.ensures.part) (λ p ready memory.
    width_stopped (write_by c.args.name.now c.args.table.now (Remove c.args.key.now)) p
    (base_of g.K.Keeper.kept c.args.self.now) _ c.in-Err.fault (up_from ready c.if-not-self.false)
    (c.in-Err.ensures.finds p ready memory))

pub returns-in-Err-clause-hands : goal.returns-in-Err-clause-hands
returns-in-Err-clause-hands g c m held =
    tells_acting _ _ (halt_in c.in-Err.fault) c.if-not-self.false
    (c.in-Err.ensures.form m held (Remove c.args.key.now))

pub returns-in-Ok-check_open-clause-hands : goal.returns-in-Ok-check_open-clause-hands
returns-in-Ok-check_open-clause-hands g c m held =
    let found = c.in-Ok.ensures.form m held in
    let reads = checked c.args.table.now _ m (Ok tt) found.1
    (c.in-Ok-check_open.ensures.form m (found.1.held ∙ held)) in
    tells_acting _ _ _ c.if-not-self.false
    (tells_none (HandedWrite (write_by c.args.name.now c.args.table.now (Remove c.args.key.now))
    (memory_of c.args.self.now.state) m) _
    (width_handed (write_by c.args.name.now c.args.table.now (Remove c.args.key.now))
    (memory_of c.args.self.now.state) m found.0 (λ space set. reads.1 space set.set) refl)
    (subst (Tells Nothing) (sym (acted_or_not_halts c.delete_row.result))
    (c.delete_row.ensures.form m (reads.2.held ∙ held))))

pub returns-in-Err-check_open-clause-hands : goal.returns-in-Err-check_open-clause-hands
returns-in-Err-check_open-clause-hands g c m held =
    let found = c.in-Ok.ensures.form m held in
    tells_acting _ _ (halt_in c.in-Err-check_open.fault) c.if-not-self.false
    (set_handed (write_by c.args.name.now c.args.table.now (Remove c.args.key.now))
    (memory_of c.args.self.now.state) m (halt_in c.in-Err-check_open.fault) found.0 refl
    (checked c.args.table.now (base_of g.K.Keeper.kept c.args.self.now) m (Err c.in-Err-check_open.fault) found.1
    (c.in-Err-check_open.ensures.form m (found.1.held ∙ held))))
