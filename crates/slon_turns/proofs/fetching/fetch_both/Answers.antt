use Rattle.std.proofs.Common.{◌≡◌, List, arith}
use Rattle.slon_base.specs.Keeper.{Kept}
use Rattle.slon_base.specs.declared.keeper.Keeper.{Ghosts}
use Rattle.slon_model.specs.declared.reply.Reply.{Reply}
use Rattle.slonik_exec.specs.declared.databases.Named.{Named as NamedDatabase}
use Rattle.slonik_exec.specs.declared.membership.Spots.{Spots}
use Rattle.slonik_exec.specs.Stored.{couple_of, pair_of}
use Rattle.slon_turns.specs.declared.fetching.Trip.{Trip}
use Rattle.slon_turns.specs.declared.held.Held.{Held}
use Rattle.slon_turns.specs.Fetching.{BringsTo, BroughtAt}
use Rattle.slon_turns.specs.Polling.{RunsBetween}
use Rattle.slon_turns.proofs.Cutting.{Sides, back_held, front_held, halves, one_first, other_first, other_halves}
use Rattle.slon_turns.proofs.Listens.{if_both}
use Rattle.slon_turns.proofs.fetching.fetch_both.Goals as goal

-- two databases that were changed so, at their places
abbrev brought_by : {K : Type 0} {g : Ghosts K} {kept : K → Kept} {ds news : List (NamedDatabase K g)} {at : Spots}
    {x one y other : NamedDatabase K g} {t : Trip} {old new : Held} {reply : Reply} →
    Sides ds at.from at.to x one y other news → (one.name ≡ x.name) × (other.name ≡ y.name) →
    RunsBetween (couple_of kept x y) reply (pair_of kept one other) →
    BringsTo t (couple_of kept x y) old reply (pair_of kept one other) new →
    BroughtAt kept (t, at) (ds, old) reply (news, new)
brought_by {x = x} {one} {y} {other} s (name, other_name) runs brings = record {
  own_old = x;
  own_new = one;
  server_old = y;
  server_new = other;
  own_held = s.one_held;
  own_name = name;
  server_held = s.other_held;
  server_name = other_name;
  is = s.is;
  runs = runs;
  brings = brings;
}

pub fetch_between-requires-clause-up : goal.fetch_between-requires-clause-up
fetch_between-requires-clause-up g c =
    let at = c.args.spots in
    let cut = c.split_at_mut-front.ensures in
    let h = halves c.args.databases.now at.from at.to (cut.front, cut.back) c.if-spots.true
    c.requires.visiting.other in (
      c.requires.visiting.up _ (front_held h c.index-front-spots.is),
      c.requires.visiting.provider _ (back_held h c.index-back-0.is),
    )

pub fetch_between-requires-clause-nodes : goal.fetch_between-requires-clause-nodes
fetch_between-requires-clause-nodes g c =
    let at = c.args.spots in
    let cut = c.split_at_mut-front.ensures in
    let h = halves c.args.databases.now at.from at.to (cut.front, cut.back) c.if-spots.true
    c.requires.visiting.other in (
      c.requires.visiting.node _ (front_held h c.index-front-spots.is),
      c.requires.visiting.other_node _ (back_held h c.index-back-0.is),
    )

pub fetch_between-requires-else-spots-clause-up : goal.fetch_between-requires-else-spots-clause-up
fetch_between-requires-else-spots-clause-up g c =
    let at = c.args.spots in
    let cut = c.split_at_mut-front-else-spots.ensures in
    let h = other_halves c.args.databases.now at.from at.to (cut.front, cut.back) (omega (arith, c.if-spots.false))
    c.requires.visiting.apart c.requires.visiting.inside in (
      c.requires.visiting.up _ (back_held h c.index-back-0-else-spots.is),
      c.requires.visiting.provider _ (front_held h c.index-front-spots-else-spots.is),
    )

pub fetch_between-requires-else-spots-clause-nodes : goal.fetch_between-requires-else-spots-clause-nodes
fetch_between-requires-else-spots-clause-nodes g c =
    let at = c.args.spots in
    let cut = c.split_at_mut-front-else-spots.ensures in
    let h = other_halves c.args.databases.now at.from at.to (cut.front, cut.back) (omega (arith, c.if-spots.false))
    c.requires.visiting.apart c.requires.visiting.inside in (
      c.requires.visiting.node _ (back_held h c.index-back-0-else-spots.is),
      c.requires.visiting.other_node _ (front_held h c.index-front-spots-else-spots.is),
    )

pub returns-then-spots : goal.returns-then-spots
returns-then-spots g c =
    let at = c.args.spots in
    let cut = c.split_at_mut-front.ensures in
    let h = halves c.args.databases.now at.from at.to (cut.front, cut.back) c.if-spots.true
    c.requires.visiting.other in
    let s = one_first c.fetch_between.new.own c.fetch_between.new.provider h c.index-front-spots.is c.index-back-0.is in
    record {
      brought = if_both c.fetch_between.result
          (λ reply runs brings. brought_by s c.fetch_between.ensures.names runs brings)
          c.fetch_between.ensures.runs c.fetch_between.ensures.brings;
      bounds = c.fetch_between.ensures.bounds;
    }

pub returns-else-spots : goal.returns-else-spots
returns-else-spots g c =
    let at = c.args.spots in
    let cut = c.split_at_mut-front-else-spots.ensures in
    let h = other_halves c.args.databases.now at.from at.to (cut.front, cut.back) (omega (arith, c.if-spots.false))
    c.requires.visiting.apart c.requires.visiting.inside in
    let done = c.fetch_between-else-spots in
    let s = other_first done.new.own done.new.provider h c.index-back-0-else-spots.is
    c.index-front-spots-else-spots.is in
    record {
      brought = if_both done.result (λ reply runs brings. brought_by s done.ensures.names runs brings) done.ensures.runs
          done.ensures.brings;
      bounds = done.ensures.bounds;
    }
