use Rattle.std.proofs.Common.{[], ◌∷◌, ◌++◌, ap, ◌∙◌, arith}
use Rattle.slonik_expand.specs.declared.definition.Part.TheVariants.{Single, Earlier}
use Rattle.slonik_expand.proofs.Walking.{Pops, Enters, steps_of, walks_first, walks_on, walks_single}
use Rattle.slonik_expand.proofs.Walking.{single_steps, earlier_same, earlier_steps, past_same, past_steps, walks_over}
use Rattle.slonik_expand.proofs.output.Output.emit_definition.Goals as goal

pub loop-parts-init : goal.loop-parts-init
loop-parts-init c =
    walks_first _ c.parts.result c.push.new.self.items c.args.definitions.now.ordered c.parts.ensures
    (c.in_ok-push.ensures.items ∙ ap (λ l. l ++ c.parts.result ∷ []) c.new-pending.ensures.items)

-- the part that was taken off is a token
token_popped : (c : goal.In_ok-emit-in-Single) → Pops c.loop-parts.pending.items (Single c.in-Single.token)
    c.push-in-Some-split_first.new.self.items
token_popped c = record {
  popped = _;
  parts = _;
  rest = _;
  was = c.in-Some.ensures.items;
  now = c.in_ok-push-2.ensures.items;
  first = c.in-Some-split_first.ensures.cases.0 ∙ ap (λ p. p ∷ c.in-Some-split_first.rest.now) c.in-Single.is;
}

pub loop-parts-smaller-in-Continue-branch-3 : goal.loop-parts-smaller-in-Continue-branch-3
loop-parts-smaller-in-Continue-branch-3 c = single_steps _ _ _ c.in-Single.token (token_popped c)

pub loop-parts-preserved-in-Continue-branch-3 : goal.loop-parts-preserved-in-Continue-branch-3
loop-parts-preserved-in-Continue-branch-3 c =
    walks_single _ _ _ c.in-Single.token c.loop-parts.invariant (token_popped c) c.in_ok-emit-in-Single.ensures

-- the part that was taken off is an earlier definition, and its parts are pending
entered : (c : goal.In_ok-push-in-Earlier) → Enters c.args.definitions.now.made.items c.loop-parts.pending.items
    c.push-in-Earlier.new.self.items
entered c =
    let first = c.in-Some-split_first.ensures.cases.0 ∙ ap (λ p. p ∷ c.in-Some-split_first.rest.now) c.in-Earlier.is in
    let pops : Pops c.loop-parts.pending.items (Earlier c.in-Earlier.earlier)
    c.push-in-Some-split_first.new.self.items = record {
      popped = _;
      parts = _;
      rest = _;
      was = c.in-Some.ensures.items;
      now = c.in_ok-push-2.ensures.items;
      first = first;
    } in
    record {
      other = _;
      mid = _;
      parts = _;
      pops = pops;
      is = c.parts-in-Earlier.ensures;
      now = c.in_ok-push-in-Earlier.ensures.items;
    }

pub loop-parts-smaller-in-Continue-branch-4 : goal.loop-parts-smaller-in-Continue-branch-4
loop-parts-smaller-in-Continue-branch-4 c =
    earlier_steps c.args.definitions.now.made.items _ _ c.args.definitions.now.ordered (entered c)

pub loop-parts-preserved-in-Continue-branch-4 : goal.loop-parts-preserved-in-Continue-branch-4
loop-parts-preserved-in-Continue-branch-4 c =
    walks_on _ _ _ c.loop-parts.invariant (earlier_same _ _ _ c.args.definitions.now.ordered (entered c))

pub loop-parts-smaller : goal.loop-parts-smaller
loop-parts-smaller c =
    past_steps (steps_of c.args.definitions.now.made.items) c.loop-parts.pending.items c.pop.new.self.items
    c.in-Some.parts c.in-Some.ensures.items

pub loop-parts-preserved : goal.loop-parts-preserved
loop-parts-preserved c =
    walks_on _ _ _ c.loop-parts.invariant
    (past_same _ _ _ _ c.in-Some.ensures.items c.in_default-split_first.ensures.cases)

pub returns : goal.returns
returns c =
    walks_over _ _ c.loop-parts.invariant
    (omega (arith, c.in_default.ensures.cases.0, c.loop-parts.pending.ok.0))
