use Rattle.std.proofs.Common.{◌≡◌, Some, ap, sym, subst, ◌∙◌, rules, arith}
use Rattle.slon_base.specs.Keeper.{nothing}
use Rattle.slon_base.specs.Counts.{Within}
use Rattle.node_keeper.specs.Plan.{left}
use Rattle.node_keeper.specs.Told.{kept_of, fresh}
use Rattle.slon_system.proofs.real_shelf.RealShelfShelf.give.Goals as goal

pub returns : goal.returns
returns c =
    let made : kept_of c.in_ok-new.field-0 ≡ fresh 0 =
    c.in_ok-new.ensures.told ∙ ap fresh (ap (λ xs. left xs 0) c.new.ensures.items) in
    record {
      cause = search rules;
      promise = search rules;
      asked = search rules;
      unasked = search rules;
      store = record {
        told = λ _. (nothing, ap (λ x. x.held) made);
        empty = λ _ _. ap (λ x. x.held) made;
        left = subst (λ x. Within (Some 0) x.can_fail) (sym made) (omega arith);
      };
    }
