use Rattle.std.proofs.Common.{◌≡◌, ℕ, ◌==◌, ◌||◌, List, [], ◌∷◌, refl, ◌∙◌, ap}
use Rattle.std.specs.Cmp.{nat_eq_equiv}
use Rattle.std.specs.List.{list_any}
use Rattle.slon_model.specs.Rows.{member}
use Rattle.log_switch.proofs.selecting.lists.Goals as goal

any_is : (id : ℕ) (xs : List ℕ) → list_any (λ x. x == id) xs ≡ member id xs
any_is id [] = refl
any_is id (x ∷ xs) =
    ap (λ b. b || list_any (λ y. y == id) xs) (nat_eq_equiv.symm x id) ∙ ap (λ b. (id == x) || b) (any_is id xs)

pub returns : goal.returns
returns c = c.contains.ensures.value ∙ any_is c.args.table c.args.tables.now
