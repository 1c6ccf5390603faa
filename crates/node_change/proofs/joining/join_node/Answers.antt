use Rattle.std.proofs.Common.{refl, sym, ap, subst, ◌∙◌}
use Rattle.std.specs.Option.{option_map}
use Rattle.std.proofs.lemmas.Result.{err_from_is_err_and}
use Rattle.slon_base.specs.Codec.{IsText}
use Rattle.store_rows.specs.Space.{Becomes}
use Rattle.store_rows.proofs.Spaces.{becomes, hands_stop}
use Rattle.slon_model.specs.Membership.{joining}
use Rattle.event_store.specs.Formed.{Lacks, Reads}
use Rattle.event_store.specs.Giving.{AreConfirmations}
use Rattle.event_store.specs.Holds.{ShowsStreams}
use Rattle.event_store.specs.Streams.{given}
use Rattle.event_store.proofs.Clearing.{sees_pending}
use Rattle.event_store.proofs.Formed.{passes_on}
use Rattle.node_change.specs.Becoming.{IsNode, named}
use Rattle.node_change.specs.Both.{stopped}
use Rattle.node_change.specs.Pairs.{put_pairs, pairs_of}
use Rattle.node_change.proofs.Both.{well_on, safe_as, to_stops, to_ends, both_handed, stop_handed}
use Rattle.node_change.proofs.Copies.{pairs_copied}
use Rattle.node_change.proofs.Naming.{named_node}
use Rattle.node_change.proofs.NewNodes.{bare_streams, given_copy, copy_pending, joined_made, same_reads, then_reads}
use Rattle.node_change.proofs.joining.join_node.Goals as goal

pub returns-in_err-sided-clause-safe : goal.returns-in_err-sided-clause-safe
returns-in_err-sided-clause-safe g c =
    let well = c.in_ok-copy_spaces.ensures.safe in
    let result = c.from_residual-in_err-sided.result in
    both_handed _ _ _ _ result (err_from_is_err_and result c.from_residual-in_err-sided.ensures.1)
    (to_stops (record { is = c.in_err-sided.ensures.same; on = c.in_err-sided.ensures.side }) well.0 well.1
    c.give_streams.ensures.safe)

pub returns-in_err-sided-clause-turns : goal.returns-in_err-sided-clause-turns
returns-in_err-sided-clause-turns g c n run m t own cluster seen held known is none =
    let result = c.from_residual-in_err-sided.result in
    let s = bare_streams n in
    let base = given_copy m t in
    let copied = c.in_ok-copy_spaces.ensures.put m seen ∙ ap (option_map (option_map (given_copy m))) is in
    let shown = copy_pending m t (g.T.Keeper.kept c.copy_spaces.new.to) copied held none in
    hands_stop _ _ (stopped result)
    (stop_handed result (err_from_is_err_and result c.from_residual-in_err-sided.ensures.1))
    (subst (Becomes (ShowsStreams base (given c.args.new s)) (g.T.Keeper.kept c.give_streams.new.keeper))
    c.in_err-sided.ensures.same (c.give_streams.ensures.turns base s own held.regular.others shown))

pub returns-in_err-sided-clause-form : goal.returns-in_err-sided-clause-form
returns-in_err-sided-clause-form g c m t seen is =
    let result = c.from_residual-in_err-sided.result in
    let base = given_copy m t in
    let copied = c.in_ok-copy_spaces.ensures.put m seen ∙ ap (option_map (option_map (given_copy m))) is in
    let sees = sees_pending (g.T.Keeper.kept c.copy_spaces.new.to) base copied in
    same_reads base (put_pairs 11 (pairs_of (m 11)) t) (stopped result) refl
    (passes_on _ _ (stopped result)
    (stop_handed result (err_from_is_err_and result c.from_residual-in_err-sided.ensures.1)) (λ space handed. handed)
    (subst (Reads (Lacks 11 (AreConfirmations base))) c.in_err-sided.ensures.same
    (c.give_streams.ensures.form base sees)))

pub returns-in_err-sided-clause-alone : goal.returns-in_err-sided-clause-alone
returns-in_err-sided-clause-alone g c m t seen is none =
    same_reads (put_pairs 11 (pairs_of (m 11)) t) m (stopped c.from_residual-in_err-sided.result)
    (sym (pairs_copied (m 11) (t 11) none)) (returns-in_err-sided-clause-form g c m t seen is)

pub returns-clause-safe : goal.returns-clause-safe
returns-clause-safe g c =
    let well = c.in_ok-copy_spaces.ensures.safe in
    let given = safe_as c.in_ok-sided.ensures.same c.give_streams.ensures.safe in
    to_ends c.sided-2.result c.sided-2.ensures.same c.sided-2.ensures.side well.0 (well_on well.1 given)
    c.put_identity.ensures.safe

pub returns-clause-turns : goal.returns-clause-turns
returns-clause-turns g c n run m t own cluster seen held known is none =
    let new = c.args.new in
    let joined = joining new n run in
    let s = bare_streams n in
    let base = given_copy m t in
    let put = g.T.Keeper.kept c.put_identity.new.keeper in
    let copied = c.in_ok-copy_spaces.ensures.put m seen ∙ ap (option_map (option_map (given_copy m))) is in
    let shown = copy_pending m t (g.T.Keeper.kept c.copy_spaces.new.to) copied held none in
    let given =
    subst (Becomes (ShowsStreams base (given new s)) (g.T.Keeper.kept c.give_streams.new.keeper))
    c.in_ok-sided.ensures.same (c.give_streams.ensures.turns base s own held.regular.others shown) in
    subst (Becomes (IsNode joined t) put) c.sided-2.ensures.same
    (becomes (IsNode joined t) (named new c.args.cluster.now) _ c.put_identity.result c.put_identity.ensures.put
    c.put_identity.ensures.only given
    (λ mid shows. subst (λ x. IsNode joined t (named new x mid)) cluster (named_node (joined_made {run = run} (record {
      held = held;
      known = known;
      none = none;
      can = (c.requires.can.1, subst IsText (sym cluster) c.requires.can.2);
      shows = shows;
    })))))

pub returns-clause-form : goal.returns-clause-form
returns-clause-form g c m t seen is =
    let base = given_copy m t in
    let copied = c.in_ok-copy_spaces.ensures.put m seen ∙ ap (option_map (option_map (given_copy m))) is in
    let sees = sees_pending (g.T.Keeper.kept c.copy_spaces.new.to) base copied in
    let reads = subst (Reads (Lacks 11 (AreConfirmations base))) c.in_ok-sided.ensures.same
    (c.give_streams.ensures.form base sees) in
    same_reads base (put_pairs 11 (pairs_of (m 11)) t) (stopped c.sided-2.result) refl
    (subst (Reads (Lacks 11 (AreConfirmations base))) c.sided-2.ensures.same
    (then_reads (Lacks 11 (AreConfirmations base)) c.put_identity.result reads c.put_identity.ensures.only))

pub returns-clause-alone : goal.returns-clause-alone
returns-clause-alone g c m t seen is none =
    same_reads (put_pairs 11 (pairs_of (m 11)) t) m (stopped c.sided-2.result) (sym (pairs_copied (m 11) (t 11) none))
    (returns-clause-form g c m t seen is)
