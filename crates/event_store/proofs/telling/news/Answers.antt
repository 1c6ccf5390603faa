use Rattle.std.proofs.Common.{◌≡◌, inr, ℕ, ◌+◌, cond, Some, [], ◌∷◌, ◌++◌, get_or, drop, filter, rules}
use Rattle.std.proofs.Common.{sym, ap, subst, ◌∙◌}
use Rattle.std.proofs.lemmas.List.{drop_more, append-nil}
use Rattle.slon_base.specs.Codec.{AllAre}
use Rattle.slon_base.specs.Keeper.{Store, sight}
use Rattle.store_rows.proofs.Spaces.{sight_on}
use Rattle.event_store.specs.Giving.{Confirmation}
use Rattle.event_store.specs.Holds.{HoldsStreams}
use Rattle.event_store.specs.Streams.{Streams}
use Rattle.event_store.specs.Telling.{is_news, IsOfOther, HandedRows}
use Rattle.event_store.proofs.Listed.{are_map}
use Rattle.event_store.proofs.Heard.{kept_more, filter_more, behind_row}
use Rattle.event_store.proofs.telling.news.Goals as goal
use Rattle.event_store.proofs.telling.news.Goals.{then-branch+in_ok-push, else-branch}

pub loop-row-preserved : goal.loop-row-preserved
loop-row-preserved g c =
    let old = g.K.Keeper.kept c.args.keeper.now in
    let mid = g.K.Keeper.kept c.loop-row.keeper in
    let own = c.args.own in
    let rows = c.args.rows.now in
    let at = c.loop-row.row-index in
    let before = c.loop-row.invariant in
    let row : Confirmation = get_or rows at ((0, 0), 0) in
    let step = drop_more rows at ((0, 0), 0) c.loop-row-test.true in
    let grown : c.if-branch.found ≡ c.loop-row.found ++ cond c.in_ok-is_news.field-0 (row ∷ []) [] =
    elim c.if-branch.branch [
      | then-branch+in_ok-push w ↦ w.found-is ∙ w.in_ok-push.ensures.ok
          ∙ sym (ap (λ b. c.loop-row.found ++ cond b (row ∷ []) []) w.if-branch.true)
      | else-branch w ↦ w.found-is
          ∙ sym (ap (λ b. c.loop-row.found ++ cond b (row ∷ []) []) w.if-branch.false ∙ append-nil c.loop-row.found)
    ] in
    let others : AllAre (IsOfOther own) c.if-branch.found =
    subst (AllAre (IsOfOther own)) (sym grown) (kept_more (IsOfOther own) c.loop-row.found row c.in_ok-is_news.field-0
    before.others c.in_ok-is_news.ensures.other) in
    let rest : (m : Store) (s : Streams) → sight old ≡ Some m → s.own ≡ own → HoldsStreams s m →
    c.if-branch.found ++ filter (is_news s) (drop (at + 1) rows) ≡ filter (is_news s) rows =
    λ m s seen is held.
    ap (λ l. l ++ filter (is_news s) (drop (at + 1) rows)) (grown
    ∙ ap (λ b. c.loop-row.found ++ cond b (row ∷ []) [])
    (c.in_ok-is_news.ensures.says m s (sight_on old mid before.held before.same ∙ seen) is held))
    ∙ filter_more (is_news s) c.loop-row.found row (drop (at + 1) rows)
    ∙ ap (λ l. c.loop-row.found ++ filter (is_news s) l) (sym step) ∙ before.rest m s seen is held in
    let left : (m : Store) → sight old ≡ Some m → (space : ℕ) → HandedRows m own rows space →
    HandedRows m own (drop (at + 1) rows) space =
    λ m seen space handed. behind_row m own row (drop (at + 1) rows) space
    (c.in_ok-is_news.ensures.form m (sight_on old mid before.held before.same ∙ seen) space)
    (subst (λ rs. HandedRows m own rs space) step (before.left m seen space handed)) in
    let fronts : (m : Store) (space : ℕ) → HandedRows m own (drop (at + 1) rows) space → HandedRows m own rows space =
    λ m space more. before.fronts m space (subst (λ rs. HandedRows m own rs space) (sym step) (inr more)) in
    search (rules, others, rest, left, fronts)

pub returns-clause-kept : goal.returns-clause-kept
returns-clause-kept g c = are_map c.loop-row.found (λ r other. other.can) c.loop-row.invariant.others
