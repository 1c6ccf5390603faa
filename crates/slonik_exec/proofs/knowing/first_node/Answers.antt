use Rattle.std.proofs.Common.{◌∙◌, rules, tests, sym, ap, subst}
use Rattle.std.proofs.lemmas.Iterator.{YieldsList-from_slice}
use Rattle.std.proofs.lemmas.Iterator.Search.{find_from_yields_List}
use Rattle.std.specs.Option.{option_map}
use Rattle.slonik_exec.specs.Databases.{bases_of}
use Rattle.slonik_exec.specs.Reached.{IsFirstNode}
use Rattle.slonik_exec.proofs.Downs.{is_node, id_in, is_first_node_by}
use Rattle.slonik_exec.proofs.Free.{are_free}
use Rattle.slonik_exec.proofs.knowing.first_node.Goals as goal

pub returns-in_err-node-clause-first : goal.returns-in_err-node-clause-first
returns-in_err-node-clause-first g c =
    let databases = c.args.databases.now in
    subst (IsFirstNode (bases_of g.K.Keeper.kept databases))
    (ap (λ r. id_in {g = g.K.Keeper} (option_map (λ x. x.now) r)) c.in_err-node.was ∙ sym c.from_residual.ensures)
    (is_first_node_by g.K.Keeper.kept databases _
    (find_from_yields_List is_node _ _ c.find.result c.find.ensures.ran (YieldsList-from_slice databases cc)
    (λ x b q k. search (rules, tests))))

pub returns-in_err-node-clause-none : goal.returns-in_err-node-clause-none
returns-in_err-node-clause-none g c none =
    let databases = c.args.databases.now in
    are_free databases _
    (find_from_yields_List is_node _ _ c.find.result c.find.ensures.ran (YieldsList-from_slice databases cc)
    (λ x b q k. search (rules, tests)))
    (ap (λ r. id_in {g = g.K.Keeper} (option_map (λ x. x.now) r)) c.in_err-node.was ∙ sym c.from_residual.ensures
    ∙ none)

pub returns-clause-first : goal.returns-clause-first
returns-clause-first g c =
    let databases = c.args.databases.now in
    subst (IsFirstNode (bases_of g.K.Keeper.kept databases))
    (ap (λ r. id_in {g = g.K.Keeper} (option_map (λ x. x.now) r)) c.in_ok-node.was ∙ sym c.node_id.ensures.id)
    (is_first_node_by g.K.Keeper.kept databases _
    (find_from_yields_List is_node _ _ c.find.result c.find.ensures.ran (YieldsList-from_slice databases cc)
    (λ x b q k. search (rules, tests))))

pub returns-clause-none : goal.returns-clause-none
returns-clause-none g c none =
    let databases = c.args.databases.now in
    are_free databases _
    (find_from_yields_List is_node _ _ c.find.result c.find.ensures.ran (YieldsList-from_slice databases cc)
    (λ x b q k. search (rules, tests)))
    (ap (λ r. id_in {g = g.K.Keeper} (option_map (λ x. x.now) r)) c.in_ok-node.was ∙ sym c.node_id.ensures.id ∙ none)
