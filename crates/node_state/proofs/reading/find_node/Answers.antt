use Rattle.std.proofs.Common.{◌∙◌, sym, subst}
use Rattle.std.proofs.lemmas.Result.{err_from_is_err_and}
use Rattle.store_rows.proofs.Spaces.{sight_safe}
use Rattle.node_state.specs.Known.{CanIdentity}
use Rattle.node_state.proofs.Formed.{gives_stop}
use Rattle.node_state.proofs.Naming.{meta_identity, known_some, node_formed}
use Rattle.node_state.proofs.reading.find_node.Goals as goal

pub returns-in_err-find_identity-clause-says : goal.returns-in_err-find_identity-clause-says
returns-in_err-find_identity-clause-says g c m node seen held meta =
    gives_stop _ c.from_residual.result (err_from_is_err_and c.from_residual.result c.from_residual.ensures.1)
    (c.in_err-find_identity.ensures.says m (meta_identity node m held meta).0 seen)

pub invariant_of-result : goal.invariant_of-result
invariant_of-result g c =
    let can = subst CanIdentity c.in-Some.is c.in_ok-find_identity.ensures.can in
    record { identified = λ i is. (can i is).0; numbered = c.in_ok-members-in-Some.ensures.ids }

pub returns-in_ok-members-in-Some-clause-says : goal.returns-in_ok-members-in-Some-clause-says
returns-in_ok-members-in-Some-clause-says g c m node seen held meta =
    let first = c.in_ok-find_identity.ensures in
    let has = meta_identity node m held meta in
    let later = sight_safe first.safe first.same ∙ seen in
    known_some node m c.in-Some.identity c.in_ok-members-in-Some.members held
    (sym c.in-Some.is ∙ first.says m has.0 seen ∙ has.1)
    (λ n at. c.in_ok-members-in-Some.ensures.says m _ later at.config at.orderly)

pub returns-in_ok-members-in-Some-clause-form : goal.returns-in_ok-members-in-Some-clause-form
returns-in_ok-members-in-Some-clause-form g c m seen =
    let first = c.in_ok-find_identity.ensures in
    node_formed m (first.found m seen).0
    (c.in_ok-members-in-Some.ensures.form m (sight_safe first.safe first.same ∙ seen))
