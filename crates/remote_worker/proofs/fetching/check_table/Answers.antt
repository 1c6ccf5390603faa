use Rattle.std.proofs.Common.{◌≡◌, ◌∙◌, ℕ, List, Option, Some, Ok, Err, sym, subst}
use Rattle.std.proofs.lemmas.Result.{err_from_is_err_and}
use Rattle.slon_model.specs.declared.reply.Refusal.TheVariants.{NoTable}
use Rattle.slon_model.specs.Names.{find_named}
use Rattle.slon_model.specs.Place.{Place}
use Rattle.app_store.specs.Base.{base_of}
use Rattle.remote_worker.specs.Fetching.{TableChecked}
use Rattle.remote_worker.proofs.Finding.{has_width, lacks_table}
use Rattle.remote_worker.proofs.Looking.{fails, looked_up, own_look, provider_look, so, then}
use Rattle.remote_worker.proofs.fetching.check_table.Goals as goal

-- what is looked up of a table
abbrev HasWidth : List ℕ → Place → Option ℕ → Type 0
HasWidth name p found = found ≡ find_named name p.tables

pub returns-in_err-at-clause-looks : goal.returns-in_err-at-clause-looks
returns-in_err-at-clause-looks g c =
    fails c.from_residual.result (err_from_is_err_and c.from_residual.result c.from_residual.ensures.1)
    (own_look (HasWidth c.args.name.now) (base_of g.K.Keeper.kept c.args.provider.now) c.width.result
    (Err c.in_err-at.field-0.0) c.in_err-at.ensures
    (looked_up (HasWidth c.args.name.now) c.width.result c.width.ensures.acts c.width.ensures.looks
    c.width.ensures.same))

pub returns-in_err-there-in-Some-clause-looks : goal.returns-in_err-there-in-Some-clause-looks
returns-in_err-there-in-Some-clause-looks g c =
    let moved = c.from_residual-in_err-there-in-Some in
    fails moved.result (err_from_is_err_and moved.result moved.ensures.1)
    (then (Err c.in_err-there-in-Some.field-0.0)
    (own_look (HasWidth c.args.name.now) (base_of g.K.Keeper.kept c.args.provider.now) c.width.result
    (Ok c.in_ok-at.field-0) c.in_ok-at.ensures
    (looked_up (HasWidth c.args.name.now) c.width.result c.width.ensures.acts c.width.ensures.looks
    c.width.ensures.same))
    (provider_look (HasWidth c.args.name.now) (base_of g.K.Keeper.kept c.width.new.database) c.width-in-Some.result
    (Err c.in_err-there-in-Some.field-0.0) c.in_err-there-in-Some.ensures
    (looked_up (HasWidth c.args.name.now) c.width-in-Some.result c.width-in-Some.ensures.acts
    c.width-in-Some.ensures.looks c.width-in-Some.ensures.same)))

pub returns-in_ok-table-in-None-clause-looks : goal.returns-in_ok-table-in-None-clause-looks
returns-in_ok-table-in-None-clause-looks g c =
    let name = c.args.name.now in
    so (λ p q is. subst (λ t. TableChecked name p q (Some (NoTable t))) (sym c.in_ok-table-in-None.ensures)
    (lacks_table name p q (sym c.in-None.is ∙ is)))
    (own_look (HasWidth name) (base_of g.K.Keeper.kept c.args.provider.now) c.width.result
    (Ok c.in_ok-at.field-0) c.in_ok-at.ensures
    (looked_up (HasWidth name) c.width.result c.width.ensures.acts c.width.ensures.looks c.width.ensures.same))

pub returns-in_ok-there-in-Some-clause-looks : goal.returns-in_ok-there-in-Some-clause-looks
returns-in_ok-there-in-Some-clause-looks g c =
    let name = c.args.name.now in
    so (λ p q both. subst (TableChecked name p q) (sym c.width_refusal.ensures.says)
    (has_width name p q c.in-Some.here c.in_ok-there-in-Some.there (sym c.in-Some.is ∙ both.0) both.1))
    (then (Ok c.in_ok-there-in-Some.there)
    (own_look (HasWidth name) (base_of g.K.Keeper.kept c.args.provider.now) c.width.result
    (Ok c.in_ok-at.field-0) c.in_ok-at.ensures
    (looked_up (HasWidth name) c.width.result c.width.ensures.acts c.width.ensures.looks c.width.ensures.same))
    (provider_look (HasWidth name) (base_of g.K.Keeper.kept c.width.new.database) c.width-in-Some.result
    (Ok c.in_ok-there-in-Some.there) c.in_ok-there-in-Some.ensures
    (looked_up (HasWidth name) c.width-in-Some.result c.width-in-Some.ensures.acts c.width-in-Some.ensures.looks
    c.width-in-Some.ensures.same)))
