use Rattle.std.proofs.Common.{◌≡◌, List, arith}
use Rattle.slon_base.specs.Keeper.{Kept}
use Rattle.slon_base.specs.declared.keeper.Keeper.{Ghosts}
use Rattle.slon_model.specs.declared.reply.Reply.{Reply}
use Rattle.event_store.specs.declared.queue.Queue.{Queue}
use Rattle.slonik_exec.specs.declared.databases.Named.{Named as NamedDatabase}
use Rattle.slonik_exec.specs.declared.membership.Spots.{Spots}
use Rattle.slonik_exec.specs.Stored.{couple_of, pair_of}
use Rattle.slon_turns.specs.declared.polling.Listen.{Listen}
use Rattle.slon_turns.specs.Pairing.{PolledAt}
use Rattle.slon_turns.specs.Polling.{ListensTo, RunsBetween}
use Rattle.slon_turns.proofs.Cutting.{Sides, halves, one_first, other_first, other_halves}
use Rattle.slon_turns.proofs.Listens.{if_both}
use Rattle.slon_turns.proofs.turn.poll_both.Goals as goal

-- a poll at two places told this, and left the queue so
abbrev polled_by : {K : Type 0} {g : Ghosts K} {kept : K → Kept} {olds news : List (NamedDatabase K g)} {at : Spots}
    {x one y other : NamedDatabase K g} {l : Listen} {old new : Queue} {reply : Reply} →
    Sides olds at.from at.to x one y other news → (one.name ≡ x.name) × (other.name ≡ y.name) →
    RunsBetween (couple_of kept x y) reply (pair_of kept one other) →
    ListensTo l (couple_of kept x y) old reply (pair_of kept one other) new →
    PolledAt kept (l, at) (olds, old) reply (news, new)
polled_by {x = x} {one} {y} {other} s names runs listens = record {
  own_old = x;
  own_new = one;
  server_old = y;
  server_new = other;
  own_held = s.one_held;
  own_name = names.0;
  server_held = s.other_held;
  server_name = names.1;
  is = s.is;
  runs = runs;
  listens = listens;
}

pub returns-then-spots : goal.returns-then-spots
returns-then-spots g c =
    let at = c.args.spots in
    let cut = c.split_at_mut-front.ensures in
    let h = halves c.args.databases.now at.from at.to (cut.front, cut.back) c.if-spots.true
    c.requires.meeting.other in
    let s = one_first c.poll_between.new.own c.poll_between.new.server h c.index-front-spots.is c.index-back-0.is in
    record {
      polled = if_both c.poll_between.result
          (λ reply runs listens. polled_by s c.poll_between.ensures.names runs listens)
          c.poll_between.ensures.runs c.poll_between.ensures.listens;
    }

pub returns-else-spots : goal.returns-else-spots
returns-else-spots g c =
    let at = c.args.spots in
    let cut = c.split_at_mut-front-else-spots.ensures in
    let h = other_halves c.args.databases.now at.from at.to (cut.front, cut.back) (omega (arith, c.if-spots.false))
    c.requires.meeting.apart c.requires.meeting.inside in
    let done = c.poll_between-else-spots in
    let s = other_first done.new.own done.new.server h c.index-back-0-else-spots.is
    c.index-front-spots-else-spots.is in
    record {
      polled = if_both done.result (λ reply runs listens. polled_by s done.ensures.names runs listens) done.ensures.runs
          done.ensures.listens;
    }
