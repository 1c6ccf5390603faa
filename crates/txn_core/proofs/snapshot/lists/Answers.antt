use Rattle.std.proofs.Common.{◌≡◌, ℕ, ◌==◌, ◌||◌, List, [], ◌∷◌, refl, ◌∙◌, ap}
use Rattle.std.specs.Cmp.{nat_eq_equiv}
use Rattle.std.specs.List.{list_any}
use Rattle.slon_model.specs.Rows.{member}
use Rattle.txn_core.proofs.snapshot.lists.Goals as goal

any_is : (x : ℕ) (ys : List ℕ) → list_any (λ y. y == x) ys ≡ member x ys
any_is x [] = refl
any_is x (y ∷ ys) = ap (λ b. b || list_any (λ z. z == x) ys) (nat_eq_equiv.symm y x)
    ∙ ap (λ b. (x == y) || b) (any_is x ys)

pub returns : goal.returns
returns c = c.contains.ensures.value ∙ any_is c.args.xid c.args.running.now
