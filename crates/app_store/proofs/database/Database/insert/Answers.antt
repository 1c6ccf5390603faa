use Rattle.std.proofs.Common.{◌≡◌, ◌∙◌, ℕ, List, true, false, Ok, Err, refl, sym, ap, subst}
use Rattle.app_store.specs.Base.{base_of, memory_of}
use Rattle.app_store.specs.Handed.{HandedWrite, Tells, Nothing}
use Rattle.slon_model.specs.World.{halt_in}
use Rattle.slon_model.specs.Rows.{Put}
use Rattle.slon_model.specs.Tasks.{ToWrite, write_by, key_of, row_of}
use Rattle.slon_model.specs.declared.numbering.Numbering.TheVariants.{Actions as NumbersActions}
use Rattle.app_store.specs.Serves.{answered, NeedsNext}
use Rattle.app_store.specs.Answers.{acted}
use Rattle.std.specs.Prelude.{◌==◌, ◌&&◌, nat_le, length, take, drop}
use Rattle.std.proofs.lemmas.Bool.{and_parts}
use Rattle.app_store.specs.Targets.{WritesRow}
use Rattle.app_store.proofs.Handing.{tells_acting, tells_none, width_handed, unfit_handed, set_handed, checked}
use Rattle.app_store.proofs.Standing.{up_from}
use Rattle.app_store.proofs.Serving.{serves_part, part_needs, part_then}
use Rattle.app_store.proofs.Writing.{width_stopped, bad_width, width_parts, write_comes, acted_halts, table_narrow}
use Rattle.app_store.proofs.Writing.{open_parts, open_stopped, put_formed, values_fit, values_not_fit, values_parted}
use Rattle.app_store.proofs.Writing.{parted_key, parted_row}
use Rattle.app_store.proofs.database.Database.insert.Goals as goal

pub returns-then-not-are_values-clause-serves : goal.returns-then-not-are_values-clause-serves
returns-then-not-are_values-clause-serves g c =
    serves_part {T = ℕ × ℕ}
    (ToWrite
    (write_by c.args.name.now c.args.table.now (Put (key_of c.args.values.now) (row_of c.args.values.now))))
    (base_of g.K.Keeper.kept c.args.self.now) _ (Ok (c.in-Ok.xid, c.in-Ok.width)) _
    (record { begun = (c.if-not-self.false, refl); prepared = refl; same = refl })
    (part_needs (NeedsNext NumbersActions) (base_of g.K.Keeper.kept c.args.self.now) _ _
    c.in-Ok.ensures.part) (λ p ready memory.
    let found = c.in-Ok.ensures.finds p ready refl in
    let wide = width_parts c.args.name.now c.args.table.now p c.in-Ok.xid c.in-Ok.width _ found in
    bad_width (write_by c.args.name.now c.args.table.now (Put (key_of c.args.values.now) (row_of c.args.values.now))) p
    (base_of g.K.Keeper.kept c.args.self.now) _ (up_from ready c.if-not-self.false) wide
    (subst (λ values. (length values == c.in-Ok.width) ≡ false) (sym (values_parted c.args.values.now c.requires.some))
    (values_not_fit (length c.args.values.now) c.in-Ok.width
    (table_narrow p (base_of g.K.Keeper.kept c.args.self.now) c.args.table.now c.in-Ok.width ready wide.found)
    (sym c.are_values.ensures ∙ c.if-not-are_values.true))))

pub returns-in-Ok-check_open-clause-serves : goal.returns-in-Ok-check_open-clause-serves
returns-in-Ok-check_open-clause-serves g c =
    let front_is = c.split_at.ensures.front ∙ ap (λ (values : List (List ℕ)). take 1 values) c.as_slice.ensures.value in
    let back_is = c.split_at.ensures.back ∙ ap (λ (values : List (List ℕ)). drop 1 values) c.as_slice.ensures.value in
    let key =
    parted_key c.split_at.result.0.now c.args.values.now c.index-first-0.result c.requires.some front_is
    c.index-first-0.is in
    let row = parted_row c.args.values.now c.split_at.result.1.now c.requires.some back_is in
    serves_part
    (ToWrite
    (write_by c.args.name.now c.args.table.now (Put (key_of c.args.values.now) (row_of c.args.values.now)))) _ _
    c.insert_row.result _
    (record { begun = (c.if-not-self.false, refl); prepared = refl; same = acted_halts c.insert_row.result })
    (part_then _ _ (base_of g.K.Keeper.kept c.check_open.new.self) _ tt c.insert_row.result
    (part_then _ _ (base_of g.K.Keeper.kept c.find_width.new.self) _ _ (Ok tt) c.in-Ok.ensures.part
    c.in-Ok-check_open.ensures.part) c.insert_row.ensures.part) (λ p ready memory.
    let found = c.in-Ok.ensures.finds p ready refl in
    let wide = width_parts c.args.name.now c.args.table.now p c.in-Ok.xid c.in-Ok.width _ found in
    let passed = open_parts c.args.table.now p _ (c.in-Ok-check_open.ensures.finds p
    (record { fits = wide.fits; sound = ready.sound; spelled = ready.spelled }) refl) in
    write_comes (write_by c.args.name.now c.args.table.now (Put (key_of c.args.values.now) (row_of c.args.values.now)))
    p _ _ (up_from ready c.if-not-self.false)
    (record {
      width = c.in-Ok.width;
      wide = wide;
      fit = subst (λ values. (length values == c.in-Ok.width) ≡ true)
          (sym (values_parted c.args.values.now c.requires.some))
          (values_fit (length c.args.values.now) c.in-Ok.width
          (sym c.are_values.ensures ∙ c.if-not-are_values.false));
    }) passed.open_is
    (subst (λ k. WritesRow (write_by c.args.name.now c.args.table.now (Put k (row_of c.args.values.now))) c.in-Ok.xid
    (base_of g.K.Keeper.kept c.check_open.new.self) (answered acted c.insert_row.result)
    (base_of g.K.Keeper.kept c.insert_row.new.self)) key
    (subst (λ r. WritesRow (write_by c.args.name.now c.args.table.now (Put c.index-first-0.result r)) c.in-Ok.xid
    (base_of g.K.Keeper.kept c.check_open.new.self) (answered acted c.insert_row.result)
    (base_of g.K.Keeper.kept c.insert_row.new.self)) row c.insert_row.ensures.writes) p
    (record { fits = passed.fits; sound = ready.sound; spelled = ready.spelled }) memory wide.named))

pub returns-in-Err-check_open-clause-serves : goal.returns-in-Err-check_open-clause-serves
returns-in-Err-check_open-clause-serves g c =
    serves_part {T = Unit {0}}
    (ToWrite
    (write_by c.args.name.now c.args.table.now (Put (key_of c.args.values.now) (row_of c.args.values.now))))
    (base_of g.K.Keeper.kept c.args.self.now) _ (Err c.in-Err-check_open.fault) (Err c.in-Err-check_open.fault)
    (record { begun = (c.if-not-self.false, refl); prepared = refl; same = refl })
    (part_needs (NeedsNext NumbersActions) (base_of g.K.Keeper.kept c.args.self.now) _ _
    (part_then _ _ (base_of g.K.Keeper.kept c.find_width.new.self) _ _ (Err c.in-Err-check_open.fault)
    c.in-Ok.ensures.part c.in-Err-check_open.ensures.part)) (λ p ready memory.
    let found = c.in-Ok.ensures.finds p ready refl in
    let wide = width_parts c.args.name.now c.args.table.now p c.in-Ok.xid c.in-Ok.width _ found in
    open_stopped
    (write_by c.args.name.now c.args.table.now (Put (key_of c.args.values.now) (row_of c.args.values.now))) p
    c.in-Err-check_open.fault _ (up_from ready c.if-not-self.false)
    (record {
      width = c.in-Ok.width;
      wide = wide;
      fit = subst (λ values. (length values == c.in-Ok.width) ≡ true)
          (sym (values_parted c.args.values.now c.requires.some))
          (values_fit (length c.args.values.now) c.in-Ok.width
          (sym c.are_values.ensures ∙ c.if-not-are_values.false));
    }) (c.in-Err-check_open.ensures.finds p
    (record { fits = wide.fits; sound = ready.sound; spelled = ready.spelled }) memory))

pub returns-in-Err-clause-serves : goal.returns-in-Err-clause-serves
returns-in-Err-clause-serves g c =
    serves_part {T = ℕ × ℕ}
    (ToWrite
    (write_by c.args.name.now c.args.table.now (Put (key_of c.args.values.now) (row_of c.args.values.now))))
    (base_of g.K.Keeper.kept c.args.self.now) _ (Err c.in-Err.fault) (Err c.in-Err.fault)
    (record { begun = (c.if-not-self.false, refl); prepared = refl; same = refl })
    (part_needs (NeedsNext NumbersActions) (base_of g.K.Keeper.kept c.args.self.now) _ _
    c.in-Err.ensures.part) (λ p ready memory.
    width_stopped
    (write_by c.args.name.now c.args.table.now (Put (key_of c.args.values.now) (row_of c.args.values.now))) p
    (base_of g.K.Keeper.kept c.args.self.now) _ c.in-Err.fault (up_from ready c.if-not-self.false)
    (c.in-Err.ensures.finds p ready memory))

pub returns-in-Err-clause-hands : goal.returns-in-Err-clause-hands
returns-in-Err-clause-hands g c m held =
    tells_acting _ _ (halt_in c.in-Err.fault) c.if-not-self.false
    (c.in-Err.ensures.form m held (Put (key_of c.args.values.now) (row_of c.args.values.now)))

pub returns-in-Ok-check_open-clause-hands : goal.returns-in-Ok-check_open-clause-hands
returns-in-Ok-check_open-clause-hands g c m held =
    let found = c.in-Ok.ensures.form m held in
    let reads = checked c.args.table.now _ m (Ok tt) found.1
    (c.in-Ok-check_open.ensures.form m (found.1.held ∙ held)) in
    tells_acting _ _ _ c.if-not-self.false
    (tells_none (HandedWrite (write_by c.args.name.now c.args.table.now
    (Put (key_of c.args.values.now) (row_of c.args.values.now))) (memory_of c.args.self.now.state) m) _
    (width_handed (write_by c.args.name.now c.args.table.now (Put (key_of c.args.values.now)
    (row_of c.args.values.now))) (memory_of c.args.self.now.state) m found.0 (λ space set. reads.1 space set.set) refl)
    (subst (Tells Nothing) (sym (acted_halts c.insert_row.result))
    (c.insert_row.ensures.form m (reads.2.held ∙ held))))

pub returns-in-Err-check_open-clause-hands : goal.returns-in-Err-check_open-clause-hands
returns-in-Err-check_open-clause-hands g c m held =
    let found = c.in-Ok.ensures.form m held in
    tells_acting _ _ (halt_in c.in-Err-check_open.fault) c.if-not-self.false
    (set_handed (write_by c.args.name.now c.args.table.now (Put (key_of c.args.values.now)
    (row_of c.args.values.now))) (memory_of c.args.self.now.state) m (halt_in c.in-Err-check_open.fault) found.0
    (subst (λ values. (nat_le (length values) 16 && (length values == c.in-Ok.width)) ≡ true)
    (sym (values_parted c.args.values.now c.requires.some))
    (sym c.are_values.ensures ∙ c.if-not-are_values.false))
    (checked c.args.table.now (base_of g.K.Keeper.kept c.args.self.now) m (Err c.in-Err-check_open.fault) found.1
    (c.in-Err-check_open.ensures.form m (found.1.held ∙ held))))

pub returns-then-not-are_values-clause-hands : goal.returns-then-not-are_values-clause-hands
returns-then-not-are_values-clause-hands g c m held space handed =
    let w = write_by c.args.name.now c.args.table.now (Put (key_of c.args.values.now) (row_of c.args.values.now)) in
    let wide = (c.in-Ok.ensures.form m held).0 in
    width_handed w (memory_of c.args.self.now.state) m wide
    (unfit_handed w (memory_of c.args.self.now.state) m wide
    (subst (λ values. (nat_le (length values) 16 && (length values == c.in-Ok.width)) ≡ false)
    (sym (values_parted c.args.values.now c.requires.some))
    (sym c.are_values.ensures ∙ c.if-not-are_values.true))) refl space handed.1

pub insert_row-requires-clause-formed : goal.insert_row-requires-clause-formed
insert_row-requires-clause-formed g c =
    let front_is = c.split_at.ensures.front ∙ ap (λ (values : List (List ℕ)). take 1 values) c.as_slice.ensures.value in
    let back_is = c.split_at.ensures.back ∙ ap (λ (values : List (List ℕ)). drop 1 values) c.as_slice.ensures.value in
    put_formed c.args.values.now _ _ c.requires.some (
      parted_key c.split_at.result.0.now c.args.values.now c.index-first-0.result c.requires.some front_is
          c.index-first-0.is,
      parted_row c.args.values.now c.split_at.result.1.now c.requires.some back_is,
    )
    c.requires.formed (and_parts (nat_le (length c.args.values.now) 16) _
    (sym c.are_values.ensures ∙ c.if-not-are_values.false)).0
