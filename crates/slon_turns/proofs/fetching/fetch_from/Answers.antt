use Rattle.std.proofs.Common.{◌∙◌, get_or, refl, sym, ap, subst}
use Rattle.std.proofs.lemmas.List.{get_or_default}
use Rattle.std.proofs.lemmas.Result.{IfOk-weaker}
use Rattle.slon_model.specs.declared.reply.Refusal.TheVariants as refused
use Rattle.slon_model.specs.declared.reply.Reply.TheVariants as replied
use Rattle.slonik_exec.specs.Databases.{bases_of}
use Rattle.slonik_exec.specs.Turning.{is_this}
use Rattle.slonik_exec.proofs.Seated.{found_inside, turning}
use Rattle.slonik_exec.proofs.Seating.{runs_quiet}
use Rattle.slon_turns.specs.declared.fetching.Trip.{Trip}
use Rattle.slon_turns.specs.Fetching.{BringsFrom}
use Rattle.slon_turns.proofs.Fetched.{Pointed, brings_brought, provider_down, provider_missed, runs_brought}
use Rattle.slon_turns.proofs.Fetched.{visiting_at}
use Rattle.slon_turns.proofs.fetching.fetch_from.Goals as goal

pub returns-in_default : goal.returns-in_default
returns-in_default g c =
    let kept = g.K.Keeper.kept in
    let items = c.args.databases.now in
    let a : Trip = c.args.trip in
    record {
      runs = runs_quiet (refused.NoNode a.copying.provider) (bases_of kept items) refl;
      brings = provider_missed kept a c.args.index items c.args.held.now
          (sym c.index_of_node.ensures ∙ c.in_default.is);
      bounds = refl;
    }

pub returns-then-not-is_up : goal.returns-then-not-is_up
returns-then-not-is_up g c =
    let kept = g.K.Keeper.kept in
    let items = c.args.databases.now in
    let a : Trip = c.args.trip in
    let turns = turning {kept = kept} {node = a.copying.provider} items c.in-Some.to c.index-databases-to.result
    (sym c.index_of_node.ensures ∙ c.in-Some.is) c.requires.distinct in
    record {
      runs = runs_quiet (refused.Down c.in_ok-database.database) (bases_of kept items) refl;
      brings = subst (λ n. BringsFrom kept a c.args.index (items, c.args.held.now)
          (replied.Refused (refused.Down n)) (items, c.args.held.now)) (sym c.in_ok-database.ensures)
          (provider_down kept a c.args.index items c.args.held.now turns (sym c.is_up.ensures ∙ c.if-not-is_up.true));
      bounds = refl;
    }

pub fetch_both-requires-clause-visiting : goal.fetch_both-requires-clause-visiting
fetch_both-requires-clause-visiting g c =
    let items = c.args.databases.now in
    let to = c.in-Some.to in
    let x = c.index-databases-to.result in
    let at = sym c.index_of_node.ensures
    ∙ c.in-Some.is
    in
    let p : Pointed g.K.Keeper.kept c.args.trip items
    (record { from = c.args.index; to = to }) = record {
      distinct = c.requires.distinct;
      seat = c.requires.seat;
      own = c.requires.own;
      to = at;
      other = c.requires.can.3;
    } in
    visiting_at x p (λ e held.
    ap (λ z. z.database.state.up)
    (held ∙ get_or_default items to e x (found_inside (is_this c.args.trip.copying.provider) items to x at))
    ∙ sym c.is_up.ensures ∙ c.if-not-is_up.false)

pub returns : goal.returns
returns g c =
    let kept = g.K.Keeper.kept in
    let items = c.args.databases.now in
    let to = c.in-Some.to in
    let x = c.index-databases-to.result in
    let at = sym c.index_of_node.ensures
    ∙ c.in-Some.is
    in
    let p : Pointed kept c.args.trip items
    (record { from = c.args.index; to = to }) = record {
      distinct = c.requires.distinct;
      seat = c.requires.seat;
      own = c.requires.own;
      to = at;
      other = c.requires.can.3;
    } in
    record {
      runs = IfOk-weaker c.fetch_both.result _ _ (λ reply d. runs_brought d p) c.fetch_both.ensures.brought;
      brings = IfOk-weaker c.fetch_both.result _ _ (λ reply d. brings_brought d p (λ e held.
          ap (λ z. z.database.state.up)
          (held ∙ get_or_default items to e x (found_inside (is_this c.args.trip.copying.provider) items to x at))
          ∙ sym c.is_up.ensures ∙ c.if-not-is_up.false)) c.fetch_both.ensures.brought;
      bounds = c.fetch_both.ensures.bounds;
    }
