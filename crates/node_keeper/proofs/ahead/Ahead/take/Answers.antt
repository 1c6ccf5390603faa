use Rattle.std.proofs.Common.{◌≡◌, ◌∷◌, ◌++◌, ◌∙◌, Some, refl, ap, sym, subst}
use Rattle.std.specs.Option.{option_to_list}
use Rattle.slon_base.proofs.Order.{Entries}
use Rattle.node_keeper.specs.Ahead.{IsAhead}
use Rattle.node_keeper.proofs.ReadAhead.{taken}
use Rattle.node_keeper.proofs.ahead.Ahead.take.Goals as goal

pub returns-in_ok-key-in-Some-clause-ahead : goal.returns-in_ok-key-in-Some-clause-ahead
returns-in_ok-key-in-Some-clause-ahead c space is =
    let e = c.in-Some.field-0.now in
    let ahead = c.pop_front.new.self.items in
    let key = c.args.self.now.key in
    let first : c.pop_front.result ≡ Some e = c.pop_front.ensures.value e (c.in-Some.ensures.variant.0 refl)
    ∙ ap Some (sym c.in-Some.ensures.lookup) in
    let front : c.args.self.now.pairs.items ≡ e ∷ ahead = c.pop_front.ensures.items
    ∙ ap (λ o. option_to_list o ++ ahead) first in
    subst (λ k. IsAhead k ahead space) (sym c.in_ok-key-in-Some.ensures)
    (taken key e ahead space (subst (λ (ps : Entries). IsAhead key ps space) front is))
