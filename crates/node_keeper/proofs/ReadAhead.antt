-- Pairs that were read ahead stay the next ones while they are taken.
use Rattle.std.proofs.Common.{◌≡◌, ℕ, List, [], ◌∷◌, ◌++◌, length, take, refl, sym, ap, ◌∙◌}
use Rattle.std.proofs.lemmas.List.{take_at}
use Rattle.std.specs.FinMap.{entries, entries_sorted}
use Rattle.slon_base.specs.Keeper.{Space, after}
use Rattle.slon_base.proofs.Order.{Entries, after-next}
use Rattle.node_keeper.specs.Ahead.{IsAhead}

-- what stands in front of all is read ahead
pub in_front : (found rest all : Entries) → found ++ rest ≡ all → take (length found) all ≡ found
in_front found rest all is = ap (take (length found)) (sym is) ∙ take_at found rest (length found) refl

-- the first of what is left to take, and what follows it
split_front : (e : List ℕ × List ℕ) (ahead all : Entries) → take (length (e ∷ ahead)) all ≡ e ∷ ahead →
    (rest : Entries) × (all ≡ e ∷ rest) × (take (length ahead) rest ≡ ahead)
split_front e ahead [] is = absurd cc
split_front e ahead (f ∷ fs) is =
    let head : f ≡ e = cc in
    let tail : take (length ahead) fs ≡ ahead = cc in
    (fs, ap (λ x. x ∷ fs) head, tail)

-- the first pair is taken
pub taken : (key : List ℕ) (e : List ℕ × List ℕ) (ahead : Entries) (space : Space) → IsAhead key (e ∷ ahead) space →
    IsAhead e.0 ahead space
taken key e ahead space is =
    let next = split_front e ahead (after key (entries space)) is in
    let step = after-next key (entries space) e next.0 (entries_sorted space) next.1 in
    ap (take (length ahead)) step.1 ∙ next.2
