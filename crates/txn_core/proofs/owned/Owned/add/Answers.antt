use Rattle.std.proofs.Common.{◌≡◌, ℕ, [], ◌∷◌, ◌++◌, ap, sym, ◌∙◌, subst, IsSome, refl}
use Rattle.std.specs.Map.{lookup}
use Rattle.std.specs.Ordering.{is_eq, nat_cmp}
use Rattle.txn_core.specs.LockMaps.{owned_by, rows_of}
use Rattle.txn_core.proofs.KeyedMaps.{whatever_failed}
use Rattle.txn_core.proofs.OwnedRows.{one_more, kept}
use Rattle.txn_core.proofs.owned.Owned.add.Goals as goal

pub returns-in_err-push-in-Some-clause-err : goal.returns-in_err-push-in-Some-clause-err
unfolding owned_by
returns-in_err-push-in-Some-clause-err c =
    let into = c.push.new.self in
    let map = c.get_mut.follows.lender into in
    let updates = (c.get_mut.follows.holds into).3 (subst IsSome c.in-Some.ensures.value refl) in
    let same : (x : ℕ) → owned_by x map ≡ owned_by x c.args.self.now.xids =
    λ x. kept c.args.xid x into c.args.self.now.xids map updates (c.in_err-push-in-Some.ensures.items
    ∙ ap rows_of c.in-Some.ensures.value) in
    whatever_failed _ same

pub returns-in_err-insert-in-None-clause-err : goal.returns-in_err-insert-in-None-clause-err
unfolding owned_by
returns-in_err-insert-in-None-clause-err c =
    let same : (x : ℕ) → owned_by x c.insert.new.self ≡ owned_by x c.args.self.now.xids =
    λ x. ap (λ es. rows_of (lookup (λ y. is_eq (nat_cmp x y)) es)) c.in_err-insert-in-None.ensures.err
    ∙ ap (owned_by x) c.get_mut.follows.holds-at-none in
    whatever_failed _ same

pub returns-in_ok-push-in-Some-clause-ok : goal.returns-in_ok-push-in-Some-clause-ok
unfolding owned_by
returns-in_ok-push-in-Some-clause-ok c = λ x.
    let into = c.push.new.self in
    let map = c.get_mut.follows.lender into in
    let updates = (c.get_mut.follows.holds into).3 (subst IsSome c.in-Some.ensures.value refl) in
    let row = ap (λ a. (a, c.in_ok-from_slice-2.field-0) ∷ []) c.in_ok-from_slice.ensures
    ∙ ap (λ b. (c.args.table.now, b) ∷ []) c.in_ok-from_slice-2.ensures in
    one_more c.args.xid x (c.args.table.now, c.args.key.now) into c.args.self.now.xids map updates
    (c.in_ok-push-in-Some.ensures.items ∙ ap (λ r. c.in-Some.rows.now.items ++ r) row
    ∙ ap (λ o. rows_of o ++ (c.args.table.now, c.args.key.now) ∷ []) c.in-Some.ensures.value)

pub returns-in_ok-insert-in-None-clause-ok : goal.returns-in_ok-insert-in-None-clause-ok
unfolding owned_by
returns-in_ok-insert-in-None-clause-ok c = λ x.
    let old = c.get_mut.follows.lender-at-none in
    let row = ap (λ a. (a, c.in_ok-from_slice-2.field-0) ∷ []) c.in_ok-from_slice.ensures
    ∙ ap (λ b. (c.args.table.now, b) ∷ []) c.in_ok-from_slice-2.ensures in
    let none = ap rows_of c.in-None.ensures.value ∙ ap (owned_by c.args.xid) (sym c.get_mut.follows.holds-at-none) in
    let items = c.in_ok-push-in-None.ensures.items
    ∙ ap (λ r. r ++ (c.in_ok-from_slice.field-0, c.in_ok-from_slice-2.field-0) ∷ []) (c.new-rows.ensures.items
    ∙ none) ∙ ap (λ r. owned_by c.args.xid old ++ r) row in
    rw (← c.get_mut.follows.holds-at-none) (one_more c.args.xid x (
      c.args.table.now,
      c.args.key.now,
    ) c.push-in-None.new.self old c.insert.new.self c.in_ok-insert-in-None.ensures.updates items)
