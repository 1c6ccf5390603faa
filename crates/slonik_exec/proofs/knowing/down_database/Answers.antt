use Rattle.std.proofs.Common.{◌∙◌, rules, tests, sym, ap, subst}
use Rattle.std.proofs.lemmas.Iterator.{YieldsList-from_slice}
use Rattle.std.proofs.lemmas.Iterator.Search.{find_from_yields_List}
use Rattle.std.specs.Option.{option_map, option_copied}
use Rattle.slonik_exec.specs.Databases.{bases_of}
use Rattle.slonik_exec.specs.Reached.{IsDown}
use Rattle.slonik_exec.proofs.Downs.{is_down, name_in, is_down_by}
use Rattle.slonik_exec.proofs.knowing.down_database.Goals as goal

pub returns-in_err-down : goal.returns-in_err-down
returns-in_err-down g c =
    let databases = c.args.databases.now in
    subst (IsDown (bases_of g.K.Keeper.kept databases))
    (ap (λ r. name_in {g = g.K.Keeper} (option_map (λ x. x.now) r)) c.in_err-down.was
    ∙ sym (ap option_copied c.from_residual.ensures))
    (is_down_by g.K.Keeper.kept databases _
    (find_from_yields_List is_down _ _ c.find.result c.find.ensures.ran (YieldsList-from_slice databases cc)
    (λ x b q k. search (rules, tests))))

pub returns : goal.returns
returns g c =
    let databases = c.args.databases.now in
    subst (IsDown (bases_of g.K.Keeper.kept databases))
    (ap (λ r. name_in {g = g.K.Keeper} (option_map (λ x. x.now) r)) c.in_ok-down.was)
    (is_down_by g.K.Keeper.kept databases _
    (find_from_yields_List is_down _ _ c.find.result c.find.ensures.ran (YieldsList-from_slice databases cc)
    (λ x b q k. search (rules, tests))))
