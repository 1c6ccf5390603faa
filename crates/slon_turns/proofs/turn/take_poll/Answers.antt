use Rattle.std.proofs.Common.{◌≡◌, ◌∙◌, Ok, sym, ap, subst, refl}
use Rattle.std.specs.FinMap.{get, insert, remove}
use Rattle.slon_model.specs.declared.reply.Refusal.TheVariants as refused
use Rattle.slon_model.specs.declared.reply.Reply.{Reply}
use Rattle.node_state.proofs.Formed.{if_ok}
use Rattle.slonik_exec.specs.Databases.{bases_of, Runs}
use Rattle.slonik_exec.specs.declared.Spots.{Spots}
use Rattle.slonik_exec.specs.Reached.{IsQuietly}
use Rattle.slonik_exec.specs.Turning.{HasTurn, IsSeatHere, IsThisAt}
use Rattle.slonik_exec.proofs.Seating.{runs_quiet}
use Rattle.slon_turns.specs.declared.held.Held.{Held}
use Rattle.slon_turns.specs.Holding.{IsTaken, KeepBounds}
use Rattle.slon_turns.specs.Pairing.{PolledAt}
use Rattle.slon_turns.specs.Turning.{Polls}
use Rattle.slon_turns.proofs.Handed.{at_ok}
use Rattle.slon_turns.proofs.Turned.{turn_refused, server_missed, self_listed, Found, meeting_at}
use Rattle.slon_turns.proofs.Turned.{runs_polled, polls_under, own_named}
use Rattle.slon_turns.proofs.Waiting.{bounds_beside, taken_bounds}
use Rattle.slon_turns.proofs.turn.take_poll.Goals as goal

pub returns-in-Refused : goal.returns-in-Refused
returns-in-Refused g c =
    let items = c.args.databases.now in
    let kept = g.K.Keeper.kept in
    let quiet = subst IsQuietly c.in-Refused.is c.in_ok-from.ensures.quiet in
    record {
      runs = runs_quiet c.in-Refused.refusal (bases_of kept items) quiet;
      polls = turn_refused kept c.args.listen c.args.started.now items c.args.held.now c.in-Refused.refusal (
        quiet,
        subst (HasTurn kept c.args.listen.node c.args.started.now items) c.in-Refused.is c.in_ok-from.ensures.turns,
      );
      bounds = λ name. refl;
    }

pub returns-in_default : goal.returns-in_default
returns-in_default g c =
    let items = c.args.databases.now in
    let kept = g.K.Keeper.kept in
    let turns = subst (HasTurn kept c.args.listen.node c.args.started.now items)
    c.in-At.is c.in_ok-from.ensures.turns in
    let at = subst (IsThisAt {g = g.K.Keeper} c.args.listen.node items) c.in-At.is c.in_ok-from.ensures.at in
    record {
      runs = runs_quiet (refused.NoNode c.args.listen.server) (bases_of kept items) refl;
      polls = server_missed kept c.args.listen c.args.started.now items c.args.held.now c.in-At.from
          (sym c.index_of_node.ensures ∙ c.in_default.is) (turns, at);
      bounds = λ name. refl;
    }

pub returns-then-listen : goal.returns-then-listen
returns-then-listen g c =
    let items = c.args.databases.now in
    let kept = g.K.Keeper.kept in
    let turns = subst (HasTurn kept c.args.listen.node c.args.started.now items)
    c.in-At.is c.in_ok-from.ensures.turns in
    let at = subst (IsThisAt {g = g.K.Keeper} c.args.listen.node items) c.in-At.is c.in_ok-from.ensures.at in
    record {
      runs = runs_quiet (refused.NotListed c.args.listen.server) (bases_of kept items) refl;
      polls = self_listed kept c.args.listen c.args.started.now items c.args.held.now c.in-At.from
          c.if-listen.true (turns, at);
      bounds = λ name. refl;
    }

pub poll_both-polled-requires-clause-meeting : goal.poll_both-polled-requires-clause-meeting
poll_both-polled-requires-clause-meeting g c =
    let items = c.args.databases.now in
    let kept = g.K.Keeper.kept in
    let here = subst (IsSeatHere {g = g.K.Keeper} items) c.in-At.is c.in_ok-from.ensures.here in
    let f : Found kept c.args.listen c.args.started.now items (record { from = c.in-At.from; to = c.in-Some.to }) =
    record {
      distinct = c.requires.distinct;
      own_at = subst (IsThisAt {g = g.K.Keeper} c.args.listen.node items) c.in-At.is c.in_ok-from.ensures.at;
      server_at = sym c.index_of_node.ensures ∙ c.in-Some.is;
      turns = subst (HasTurn kept c.args.listen.node c.args.started.now items) c.in-At.is c.in_ok-from.ensures.turns;
      apart = c.if-listen.false;
    } in
    meeting_at f c.index-databases-from.result here

pub returns : goal.returns
returns g c =
    let items = c.args.databases.now in
    let kept = g.K.Keeper.kept in
    let held = c.args.held.now in
    let key = c.in_ok-key.key.items in
    let news = c.poll_both-polled.new.databases in
    let spots : Spots = record { from = c.in-At.from; to = c.in-Some.to } in
    let f : Found kept c.args.listen c.args.started.now items spots =
    record {
      distinct = c.requires.distinct;
      own_at = subst (IsThisAt {g = g.K.Keeper} c.args.listen.node items) c.in-At.is c.in_ok-from.ensures.at;
      server_at = sym c.index_of_node.ensures ∙ c.in-Some.is;
      turns = subst (HasTurn kept c.args.listen.node c.args.started.now items) c.in-At.is c.in_ok-from.ensures.turns;
      apart = c.if-listen.false;
    } in
    let sliced = c.as_slice.ensures.value in
    let own : Held = record c.take-own.result { queue = c.poll_both-polled.new.queue } in
    let taken = subst (λ n. IsTaken (get held n) c.take-own.result) sliced c.take-own.ensures.is in
    let polled : (reply : Reply) → c.poll_both-polled.result ≡ Ok reply → PolledAt kept (c.args.listen, spots)
    (items, c.take-own.result.queue) reply (news, c.poll_both-polled.new.queue) = λ reply is.
    at_ok (λ reply. PolledAt kept (c.args.listen, spots) (items, c.take-own.result.queue) reply
    (news, c.poll_both-polled.new.queue)) c.poll_both-polled.result reply is c.poll_both-polled.ensures.polled in
    let same : c.put_back.new.held ≡ insert c.take-own.new.held key own → insert (remove held key) key own
    ≡ c.put_back.new.held = λ put.
    ap (λ n. insert (remove held n) key own) (sym sliced) ∙ ap (λ m. insert m key own) (sym c.take-own.ensures.map)
    ∙ sym put in
    record {
      runs = if_ok _ (λ reply. Runs (bases_of kept items) reply (bases_of kept news)) c.put_back.result
          (λ reply put. runs_polled (polled reply put.0) f) c.put_back.ensures;
      polls = if_ok _ (λ reply. Polls c.args.listen c.args.started.now
          (record { bases = bases_of kept items; held = held }) reply
          (record { bases = bases_of kept news; held = c.put_back.new.held })) c.put_back.result (λ reply put.
          subst (λ q. Polls c.args.listen c.args.started.now (record { bases = bases_of kept items; held = held }) reply
          (record { bases = bases_of kept news; held = q })) (same put.1)
          (polls_under c.take-own.result held key (polled reply put.0) f
          (c.in_ok-key.ensures ∙ own_named (polled reply put.0) f c.index-databases-from.result, taken)))
          c.put_back.ensures;
      bounds = if_ok _ (λ reply. KeepBounds held c.put_back.new.held) c.put_back.result (λ reply put.
          subst (KeepBounds held) (same put.1)
          (bounds_beside (λ old new. new ≡ old) held key own (λ bounds. refl)
          (sym (taken_bounds (get held key) c.take-own.result taken)))) c.put_back.ensures;
    }
