use Rattle.std.proofs.Common.{◌≡◌, ◌++◌, ◌∷◌, OnOk, subst, append_assoc}
use Rattle.slon_base.specs.Codec.{number_bytes, many_bytes}
use Rattle.node_rows.specs.Spellings.{feed_bytes, taken_bytes}
use Rattle.node_rows.proofs.Bodies.{last_of_five}
use Rattle.node_rows.proofs.body.spell_feeding.Goals as goal

pub returns-in-MoveSet : goal.returns-in-MoveSet
returns-in-MoveSet c =
    let m = c.in-MoveSet in
    rw m.is
    (subst (λ bytes. OnOk c.spell_parts.result (c.spell_parts.new.out ≡ c.args.out.now ++ (12 ∷ bytes)))
    (last_of_five (number_bytes m.set) (number_bytes m.old) (number_bytes m.new) (number_bytes m.era)
    (many_bytes feed_bytes m.feeds)) c.spell_parts.ensures)

pub spell_parts-requires-in-FailoverSet : goal.spell_parts-requires-in-FailoverSet
spell_parts-requires-in-FailoverSet c =
    let can = rw c.in-FailoverSet.is at c.requires.can in ((can.0, can.1), can.2)

pub returns-in-FailoverSet : goal.returns-in-FailoverSet
returns-in-FailoverSet c =
    let f = c.in-FailoverSet in
    let spelled = c.spell_parts-in-FailoverSet in
    rw f.is
    (subst (λ bytes. OnOk spelled.result (spelled.new.out ≡ c.args.out.now ++ (14 ∷ bytes)))
    (append_assoc (number_bytes f.failed) (number_bytes f.limit) (many_bytes taken_bytes f.sets)) spelled.ensures)
