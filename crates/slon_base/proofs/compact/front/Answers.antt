use Rattle.std.proofs.Common.{◌≡◌, ◌∙◌, ℕ, List, length, take, min, ap, arith}
use Rattle.std.proofs.lemmas.List.{take_all}
use Rattle.slon_base.proofs.compact.front.Goals as goal

within : (n : ℕ) (xs : List ℕ) → take (min n (length xs)) xs ≡ take n xs
within n xs = grind (arith, take_all)

pub returns : goal.returns
returns c = ap (λ n. take n c.args.bytes.now) c.min.ensures ∙ within c.args.len c.args.bytes.now
