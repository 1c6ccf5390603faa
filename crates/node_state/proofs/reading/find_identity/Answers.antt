use Rattle.std.proofs.Common.{◌≡◌, ◌∙◌, Some, refl, sym, ap, subst}
use Rattle.std.specs.Option.{option_map}
use Rattle.slon_base.specs.Codec.{number_bytes, text_bytes, IsText}
use Rattle.slon_base.specs.Keeper.{Store, sight}
use Rattle.store_rows.specs.Rows.{IsId}
use Rattle.store_rows.specs.Space.{AllOf}
use Rattle.node_state.proofs.reading.find_identity.Given.{Over}
use Rattle.std.proofs.lemmas.Result.{err_from_is_err_and}
use Rattle.store_rows.proofs.Spaces.{sight_safe}
use Rattle.node_state.specs.Handed.{HasIdentity}
use Rattle.node_state.proofs.Formed.{gives_stop, passes_on, stops_at, none_lacks}
use Rattle.node_state.proofs.Naming.{Has, id_in, has_id, has_cluster, with_identity, no_identity}
use Rattle.node_state.proofs.reading.find_identity.Goals as goal

-- what was read is an identity
read_here : (g : Over) (c : goal.In-Some-2 g) (m : Store) → sight (g.K.Keeper.kept c.args.keeper.now) ≡ Some m →
    Has m (Some (record { id = c.in-Some.id; cluster = c.in-Some-2.cluster }))
read_here g c m seen =
    let first = c.in_ok-get_entry.ensures in
    let next = c.in_ok-cluster-in-Some.ensures in
    let later = sight_safe first.safe first.same ∙ seen in
    with_identity m c.in-Some.id c.in-Some-2.cluster
    (subst (AllOf IsId) c.in-Some.is first.can, subst (AllOf IsText) c.in-Some-2.is next.can)
    (first.found m seen ∙ ap (option_map number_bytes) c.in-Some.is)
    (next.found m later ∙ ap (option_map text_bytes) c.in-Some-2.is)

-- an id with no cluster is no identity
lacks_here : (g : Over) (c : goal.In-None-2 g) (m : Store) → sight (g.K.Keeper.kept c.args.keeper.now) ≡ Some m →
    HasIdentity m → ⊥
lacks_here g c m seen has =
    let id = has_id has in
    let first = c.in_ok-get_entry.ensures in
    let same = sym c.in-Some.is ∙ first.gives m (id_in has.identity) seen id.can id.spelled in
    let cluster = has_cluster c.in-Some.id has same in
    let read = sym c.in-None-2.is ∙ c.in_ok-cluster-in-Some.ensures.gives m (Some cluster.cluster)
    (sight_safe first.safe first.same ∙ seen) cluster.can cluster.spelled in
    cc

pub returns-in_err-get_entry-clause-says : goal.returns-in_err-get_entry-clause-says
returns-in_err-get_entry-clause-says g c m has seen =
    let id = has_id has in
    gives_stop _ c.from_residual.result (err_from_is_err_and c.from_residual.result c.from_residual.ensures.1)
    (c.in_err-get_entry.ensures.gives m (id_in has.identity) seen id.can id.spelled)

pub returns-in_err-get_entry-clause-form : goal.returns-in_err-get_entry-clause-form
returns-in_err-get_entry-clause-form g c m seen =
    passes_on _ _ c.from_residual.result (err_from_is_err_and c.from_residual.result c.from_residual.ensures.1)
    (λ space lacks. lacks) (stops_at 1 (HasIdentity m) c.in_err-get_entry.field-0.0 c.in_err-get_entry.ensures.space
    (λ has. let id = has_id has in
    c.in_err-get_entry.ensures.gives m (id_in has.identity) seen id.can id.spelled))

pub returns-in_err-cluster-in-Some-clause-says : goal.returns-in_err-cluster-in-Some-clause-says
returns-in_err-cluster-in-Some-clause-says g c m has seen =
    let id = has_id has in
    let first = c.in_ok-get_entry.ensures in
    let same = sym c.in-Some.is ∙ first.gives m (id_in has.identity) seen id.can id.spelled in
    let cluster = has_cluster c.in-Some.id has same in
    gives_stop _ c.from_residual-in_err-cluster-in-Some.result
    (err_from_is_err_and c.from_residual-in_err-cluster-in-Some.result
    c.from_residual-in_err-cluster-in-Some.ensures.1)
    (c.in_err-cluster-in-Some.ensures.gives m (Some cluster.cluster) (sight_safe first.safe first.same ∙ seen)
    cluster.can cluster.spelled)

pub returns-in_err-cluster-in-Some-clause-form : goal.returns-in_err-cluster-in-Some-clause-form
returns-in_err-cluster-in-Some-clause-form g c m seen =
    let first = c.in_ok-get_entry.ensures in
    passes_on _ _ c.from_residual-in_err-cluster-in-Some.result
    (err_from_is_err_and c.from_residual-in_err-cluster-in-Some.result
    c.from_residual-in_err-cluster-in-Some.ensures.1)
    (λ space lacks. lacks) (stops_at 1 (HasIdentity m) c.in_err-cluster-in-Some.field-0.0
    c.in_err-cluster-in-Some.ensures.space
    (λ has. let id = has_id has in
    let same = sym c.in-Some.is ∙ first.gives m (id_in has.identity) seen id.can id.spelled in
    let cluster = has_cluster c.in-Some.id has same in
    c.in_err-cluster-in-Some.ensures.gives m (Some cluster.cluster) (sight_safe first.safe first.same ∙ seen)
    cluster.can cluster.spelled))

pub returns-in-None-clause-found : goal.returns-in-None-clause-found
returns-in-None-clause-found g c m seen =
    let found = c.in_ok-get_entry.ensures.found m seen in
    no_identity m (found ∙ ap (option_map number_bytes) c.in-None.is)

pub returns-in-Some-2-clause-found : goal.returns-in-Some-2-clause-found
returns-in-Some-2-clause-found g c m seen = read_here g c m seen

pub returns-in-Some-2-clause-says : goal.returns-in-Some-2-clause-says
returns-in-Some-2-clause-says g c m has seen =
    let id = has_id has in
    let first = c.in_ok-get_entry.ensures in
    let same = sym c.in-Some.is ∙ first.gives m (id_in has.identity) seen id.can id.spelled in
    let cluster = has_cluster c.in-Some.id has same in
    let read = sym c.in-Some-2.is ∙ c.in_ok-cluster-in-Some.ensures.gives m (Some cluster.cluster)
    (sight_safe first.safe first.same ∙ seen) cluster.can cluster.spelled in
    let text : c.in-Some-2.cluster ≡ cluster.cluster = cc in
    (λ i. Some (record { id = c.in-Some.id; cluster = text i })) ∙ sym cluster.whole

pub returns-in-Some-2-clause-form : goal.returns-in-Some-2-clause-form
returns-in-Some-2-clause-form g c m seen = none_lacks (read_here g c m seen).0

pub returns-in-None-2-clause-says : goal.returns-in-None-2-clause-says
returns-in-None-2-clause-says g c m has seen = lacks_here g c m seen has

pub returns-in-None-2-clause-form : goal.returns-in-None-2-clause-form
returns-in-None-2-clause-form g c m seen = (refl, lacks_here g c m seen)
