use Rattle.std.proofs.Common.{rules, ◌≡◌, ◌∙◌, ◌<◌, ℕ, Bool, List, [], ◌∷◌, get_or, length, set, Some}
use Rattle.std.proofs.Common.{refl, sym, subst}
use Rattle.std.specs.List.{position}
use Rattle.std.proofs.lemmas.List.{get_or_default, set-get_or}
use Rattle.std.proofs.lemmas.Result.{IfOk-weaker}
use Rattle.slon_model.specs.declared.reply.Refusal.TheVariants as refused
use Rattle.slon_model.specs.declared.reply.Reply.TheVariants as replied
use Rattle.event_store.specs.Seen.{seen_event}
use Rattle.slonik_exec.specs.Databases.{Runs, bases_of}
use Rattle.slonik_exec.specs.Turning.{is_this}
use Rattle.slonik_exec.proofs.Seated.{Turning, found_inside, is_some_this}
use Rattle.slonik_exec.proofs.Seating.{runs_quiet}
use Rattle.slon_turns.specs.declared.following.Looked.TheVariants.{Told}
use Rattle.slon_turns.specs.Following.{FollowsAt, Reader, group_of}
use Rattle.slon_turns.proofs.Providers.{DoneAt, follows_down, follows_missed, follows_taken, runs_taken}
use Rattle.slon_turns.proofs.following.follow_at.Goals as goal

-- what stands at a position is inside
position_inside : {X : Type 0} (p : X → Bool) (xs : List X) (i : ℕ) → position p xs ≡ Some i → i < length xs
position_inside p [] i at = absurd cc
position_inside p (x ∷ xs) i at = found_inside p (x ∷ xs) i x at

pub returns-in_default : goal.returns-in_default
returns-in_default g c =
    let kept = g.K.Keeper.kept in
    let items = c.args.databases.now in
    let k = group_of c.args.run in
    let r : Reader =
    record { node = c.args.node; event = seen_event c.args.event.now; known = c.args.known } in
    record {
      can = tt;
      runs = runs_quiet (refused.NoNode k.first.provider) (bases_of kept items) refl;
      follows = follows_missed kept r k items (sym c.index_of_node.ensures ∙ c.in_default.is);
    }

pub returns-then-not-is_up : goal.returns-then-not-is_up
returns-then-not-is_up g c =
    let kept = g.K.Keeper.kept in
    let items = c.args.databases.now in
    let k = group_of c.args.run in
    let r : Reader =
    record { node = c.args.node; event = seen_event c.args.event.now; known = c.args.known } in
    let to = c.in-Some.to in
    let x = c.index-databases-to.result in
    let at : position (is_this k.first.provider) items ≡ Some to = sym c.index_of_node.ensures ∙ c.in-Some.is in
    let t : Turning kept k.first.provider items to (get_or items to x) = record {
      at = at;
      held = get_or_default items to x (get_or items to x) (found_inside (is_this k.first.provider) items to x at);
      distinct = c.requires.distinct;
    } in
    let same : items ≡ set items to (get_or items to x) = sym (set-get_or items to x) in
    let reply = replied.Refused (refused.Down c.in_ok-database.database) in
    record {
      can = tt;
      runs = subst (λ news. Runs (bases_of kept items) reply (bases_of kept news)) same
          (runs_quiet (refused.Down c.in_ok-database.database) (bases_of kept items) refl);
      follows = subst (FollowsAt kept r k items (Told reply)) same
          (subst (λ n. FollowsAt kept r k items (Told (replied.Refused (refused.Down n))) items)
          (sym c.in_ok-database.ensures) (follows_down r k t (sym c.is_up.ensures ∙ c.if-not-is_up.true)));
    }

pub offset_bounds-databases-to : goal.offset_bounds-databases-to
offset_bounds-databases-to g c =
    let items = c.args.databases.now in
    let p = is_this (group_of c.args.run).first.provider in
    let to = c.in-Some.to in
    let inside = position_inside p items to (sym c.index_of_node.ensures ∙ c.in-Some.is) in
    search (rules, inside, c.well_formed)

pub take_sets-requires-clause-node : goal.take_sets-requires-clause-node
take_sets-requires-clause-node g c =
    let kept = g.K.Keeper.kept in
    let items = c.args.databases.now in
    let k = group_of c.args.run in
    let to = c.in-Some.to in
    let x = c.index-databases-to.result in
    let at : position (is_this k.first.provider) items ≡ Some to = sym c.index_of_node.ensures ∙ c.in-Some.is in
    let t : Turning kept k.first.provider items to (get_or items to x) = record {
      at = at;
      held = get_or_default items to x (get_or items to x) (found_inside (is_this k.first.provider) items to x at);
      distinct = c.requires.distinct;
    } in
    is_some_this {kept = kept} t

pub returns : goal.returns
returns g c =
    let kept = g.K.Keeper.kept in
    let items = c.args.databases.now in
    let k = group_of c.args.run in
    let r : Reader =
    record { node = c.args.node; event = seen_event c.args.event.now; known = c.args.known } in
    let to = c.in-Some.to in
    let x = c.index-databases-to.result in
    let q = get_or items to x in
    let z = c.take_sets.new.provider in
    let at : position (is_this k.first.provider) items ≡ Some to = sym c.index_of_node.ensures ∙ c.in-Some.is in
    let inside = found_inside (is_this k.first.provider) items to x at in
    let held = get_or_default items to x q inside in
    let t : Turning kept k.first.provider items to q
    = record { at = at; held = held; distinct = c.requires.distinct } in
    let d : DoneAt kept items to q z = record {
      distinct = c.requires.distinct;
      inside = inside;
      held = held;
      name = c.take_sets.ensures.name;
    } in
    let up = sym c.is_up.ensures ∙ c.if-not-is_up.false in
    record {
      can = c.take_sets.ensures.can;
      runs = IfOk-weaker c.take_sets.result _ _ (λ given takes. runs_taken r k given d takes) c.take_sets.ensures.takes;
      follows = IfOk-weaker c.take_sets.result _ _ (λ given takes. follows_taken r k given (t, d) up takes)
          c.take_sets.ensures.takes;
    }
