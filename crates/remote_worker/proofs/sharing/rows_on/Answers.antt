use Rattle.std.proofs.Common.{◌∙◌, ◌+◌, ℕ, [], ◌∷◌, drop, length, sym, ap, subst}
use Rattle.std.proofs.lemmas.List.{drop_all, drop_more, nil_from_length}
use Rattle.slon_model.specs.Following.{is_on_one}
use Rattle.change_capture.specs.declared.log_row.LogRow.{LogRow}
use Rattle.node_store.specs.Bringing.{CanLogAll}
use Rattle.remote_worker.proofs.Together.{IsParted, all_parted, can_left, one_parted}
use Rattle.remote_worker.proofs.sharing.rows_on.Goals as goal

pub copy_on-requires : goal.copy_on-requires
copy_on-requires c =
    let items = c.as_slice-number-items.result.now in
    let at = c.loop-number.number-index in
    let item : ℕ × LogRow = c.loop-number-item.result in
    let rest = drop (at + 1) items in
    let step = drop_more items at item c.loop-number-test.true ∙ ap (λ r. r ∷ rest) (sym c.loop-number-item.is) in
    let left = subst (λ actions. CanLogAll (item ∷ rest) actions) c.in-Some.ensures.cases.0
    (subst (λ rows. CanLogAll rows c.loop-number.actions.now) step c.loop-number.invariant.left) in
    record { can = (can_left item c.in-Some.action.now left).0 }

pub loop-number-preserved : goal.loop-number-preserved
loop-number-preserved c =
    let items = c.as_slice-number-items.result.now in
    let at = c.loop-number.number-index in
    let item : ℕ × LogRow = c.loop-number-item.result in
    let rest = drop (at + 1) items in
    let action = c.in-Some.action.now in
    let others = c.in-Some.others.now in
    let before = c.loop-number.invariant in
    let front = c.in-Some.ensures.cases.0 in
    let step = drop_more items at item c.loop-number-test.true ∙ ap (λ r. r ∷ rest) (sym c.loop-number-item.is) in
    let left = subst (λ actions. CanLogAll (item ∷ rest) actions) front
    (subst (λ rows. CanLogAll rows c.loop-number.actions.now) step before.left) in
    record {
      left = (can_left item action left).1;
      can = c.in_ok-copy_on.ensures.can before.can;
      has = λ origin logs read. one_parted c.copy_on.new.part
          (subst (λ actions. IsParted (is_on_one c.args.tables.now) logs c.loop-number.part
          (record { rows = item ∷ rest; actions = actions })) front
          (subst (λ rows. IsParted (is_on_one c.args.tables.now) logs c.loop-number.part
          (record { rows = rows; actions = c.loop-number.actions.now })) step (before.has origin logs read)))
          (λ l row is. c.in_ok-copy_on.ensures.adds l row is);
    }

pub returns-clause-has : goal.returns-clause-has
returns-clause-has c origin logs read =
    let items = c.as_slice-number-items.result.now in
    let last = c.loop-number.invariant in
    let end = drop_all c.loop-number.number-index items c.loop-number-test.false in
    let same = last.left.same_number in
    let none = nil_from_length c.loop-number.actions.now (same ∙ ap (λ rows. length rows) end) in
    all_parted read
    (subst (λ actions. IsParted (is_on_one c.args.tables.now) logs c.loop-number.part
    (record { rows = []; actions = actions })) none
    (subst (λ rows. IsParted (is_on_one c.args.tables.now) logs c.loop-number.part
    (record { rows = rows; actions = c.loop-number.actions.now })) end (last.has origin logs read)))
