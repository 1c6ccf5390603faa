use Rattle.std.proofs.Common.{◌≡◌, ◌∙◌, ℕ, List, rules, ap, sym, subst}
use Rattle.std.specs.List.{filter}
use Rattle.std.specs.List.Sorted.{ties}
use Rattle.std.specs.Ordering.{is_lt}
use Rattle.std.specs.Cmp.Lexicographic.{nat_list_cmp_total}
use Rattle.std.proofs.lemmas.List.Sorted.{ranks_by}
use Rattle.std.proofs.lemmas.Fn.{always_returns_same}
use Rattle.slon_model.specs.Rows.{Row}
use Rattle.app_store.specs.Scan.{row_before, AreArranged}
use Rattle.app_store.proofs.Arranging.{Listed}
use Rattle.app_store.proofs.scan.by_keys.Goals as goal

pub returns : goal.returns
returns c =
    let order = ranks_by nat_list_cmp_total (λ (e : List ℕ × Row). e.0) in
    let answers = always_returns_same _ (λ a r. is_lt r ≡ row_before a.0.now a.1.0.now) _ (λ a r f k. search rules) in
    subst (λ (listed : Listed). AreArranged c.args.rows listed) (sym c.from_vec.ensures) (
      c.in_ok-sort_by.ensures.sorted row_before order answers,
      λ x. c.in_ok-sort_by.ensures.stable row_before order answers x
          ∙ ap (filter (ties row_before x)) c.into_vec-rows.ensures,
    )
