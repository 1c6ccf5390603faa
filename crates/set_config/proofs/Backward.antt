-- A list that is gone over from its end.
use Rattle.std.proofs.Common.{◌≡◌, ℕ, zero, suc, ◌+◌, ◌-◌, ◌<◌, ◌≤◌, List, [], ◌∷◌, length, drop, get_or}
use Rattle.std.proofs.Common.{ap, ◌∙◌, arith}
use Rattle.std.proofs.lemmas.List.{drop_more}
use Rattle.slon_base.specs.Codec.{AllAre}

-- one element more
pub one_back : {X : Type 0} (xs : List X) (i : ℕ) (d : X) → 0 < i → i ≤ length xs →
    drop (i - 1) xs ≡ get_or xs (i - 1) d ∷ drop i xs
one_back xs i d some within =
    let next : i - 1 + 1 ≡ i = omega arith in
    drop_more xs (i - 1) d (omega arith) ∙ ap (λ k. get_or xs (i - 1) d ∷ drop k xs) next

-- what each element has
pub at_index : {X : Type 0} (Can : X → Type 0) (xs : List X) (i : ℕ) (d : X) → AllAre Can xs → i < length xs →
    Can (get_or xs i d)
at_index Can [] i d all within = absurd (omega (arith, within))
at_index Can (x ∷ xs) zero d all within = all.0
at_index Can (x ∷ xs) (suc i) d all within = at_index Can xs i d all.1 (omega (arith, within))
