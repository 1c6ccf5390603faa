use Rattle.std.proofs.Common.{◌≡◌, ◌∙◌, ◌+◌, ◌∷◌, ◌++◌, [], List, ℕ, Some, drop, rules, subst, sym, ap}
use Rattle.std.proofs.lemmas.List.{drop_more, drop_all}
use Rattle.slon_base.specs.Codec.{AllAre, IsText}
use Rattle.slon_base.specs.Keeper.{Store, sight}
use Rattle.slon_model.specs.Rows.{Row, Rows}
use Rattle.change_apply.specs.Applied.{HoldsRows}
use Rattle.change_apply.specs.Copied.{AreListed, CanCopy, CanCopyAll, Listed, held_in}
use Rattle.change_apply.proofs.Filling.{all_more, read_all, read_on, seen_on}
use Rattle.change_apply.proofs.several.rows_of_tables.Goals as goal

pub loop-table-preserved : goal.loop-table-preserved
loop-table-preserved g c =
    let old = g.K.Keeper.kept c.args.keeper.now in
    let names = c.args.tables.now in
    let at = c.loop-table.table-index in
    let more = drop (at + 1) names in
    let name : List ℕ = c.table-item.result in
    let rows : List (List ℕ × Row) = c.in_ok-rows.rows in
    let before = c.loop-table.invariant in
    let step = drop_more names at name c.loop-table-test.true ∙ ap (λ n. n ∷ more) (sym c.table-item.is) in
    let text = subst (AllAre IsText) step before.texts in
    let pushed = c.in_ok-push.ensures.ok ∙ ap (λ n. c.loop-table.all ++ (n, rows) ∷ []) c.in_ok-copy.ensures in
    let texts = text.1 in
    let can = subst CanCopyAll (sym pushed) (all_more (λ t. IsText t.0 × CanCopy t.1) c.loop-table.all (name, rows)
    before.can (text.0, c.in_ok-rows.ensures.can)) in
    let says : (m : Store) (tables : List ℕ → Rows) → sight old ≡ Some m → HoldsRows tables m → (rest : Listed) →
    AreListed (held_in tables more) rest → AreListed (held_in tables names) (c.push.new.self ++ rest) =
    λ m tables seen held. subst (λ all. (rest : Listed) → AreListed (held_in tables more) rest →
    AreListed (held_in tables names) (all ++ rest)) (sym pushed)
    (read_on tables names name more c.loop-table.all rows
    (c.in_ok-rows.ensures.says m tables
    (seen_on old (g.K.Keeper.kept c.loop-table.keeper) before.pending before.held seen) held)
    (subst (λ ns. (rest : Listed) → AreListed (held_in tables ns) rest →
    AreListed (held_in tables names) (c.loop-table.all ++ rest)) step (before.says m tables seen held))) in
    search (rules, texts, can, says)

pub returns-clause-says : goal.returns-clause-says
returns-clause-says g c m held seen holds =
    let names = c.args.tables.now in
    let end = drop_all c.loop-table.table-index names c.loop-table-test.false in
    read_all held names c.loop-table.all
    (subst (λ ns. (rest : Listed) → AreListed (held_in held ns) rest →
    AreListed (held_in held names) (c.loop-table.all ++ rest)) end (c.loop-table.invariant.says m held seen holds))
