use Rattle.std.proofs.Common.{◌++◌, [], ◌∷◌, length, sym, ap, ◌∙◌, if◌then◌else◌}
use Rattle.slonik_expand.specs.declared.definition.Part.TheVariants.{Earlier}
use Rattle.slonik_expand.specs.Shared.{meaning}
use Rattle.slonik_expand.proofs.SharedDefinitions.{Pushed, means_earlier, some_counted}
use Rattle.slonik_expand.proofs.definitions.Definitions.add_earlier.Goals as goal

pub returns-in_ok-push-clause-means : goal.returns-in_ok-push-clause-means
returns-in_ok-push-clause-means c =
    let pushed : Pushed (Earlier c.args.place) = record {
      old = c.args.definition.now;
      new = c.push.new.self;
      len = c.len-len.result;
      parts = c.in_ok-push.ensures.parts;
      counted = c.in_ok-push.ensures.len;
    } in
    means_earlier c.args.self.now.made.items c.args.place pushed c.len-len.ensures c.requires

pub returns-in_ok-push-clause-parts : goal.returns-in_ok-push-clause-parts
returns-in_ok-push-clause-parts c =
    let old = c.args.definition.now.parts.items in
    c.in_ok-push.ensures.parts
    ∙ sym (ap (λ b. if b then old else old ++ Earlier c.args.place ∷ [])
    (some_counted (length (meaning c.args.self.now.made.items c.args.place)) c.len-len.result c.if-len-gt0.true
    c.len-len.ensures))
