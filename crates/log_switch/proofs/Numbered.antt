-- Rows by numbers, whose keys have one front.
use Rattle.std.proofs.Common.{◌≡◌, ℕ, ◌<◌, ◌^◌, Bool, true, false, cond, List, [], ◌∷◌, ◌++◌, Option, Some, refl, sym}
use Rattle.std.proofs.Common.{ap, ◌∙◌, arith}
use Rattle.std.specs.Prelude.{◌==◌}
use Rattle.std.specs.Cmp.{nat_cmp_total, tied_itself}
use Rattle.std.specs.FinMap.Entries.{find}
use Rattle.std.specs.Option.{option_map}
use Rattle.std.specs.Ordering.{is_eq, ordering_then}
use Rattle.std.proofs.lemmas.Bool.Decides.{nat_tests}
use Rattle.slon_base.specs.Codec.{number_bytes, AllAre}
use Rattle.slon_base.specs.Keeper.{key_cmp}
use Rattle.slon_base.proofs.Order.{apart, tied}
use Rattle.slon_base.proofs.Spelled.{number_bytes-same}
use Rattle.store_rows.specs.Scan.{spelled_rows}
use Rattle.slon_model.specs.Maps.{Map, entry_at}

-- the order of keys with one front is that of what follows it
pub cancel : (p x y : List ℕ) → key_cmp (p ++ x) (p ++ y) ≡ key_cmp x y
cancel [] x y = refl
cancel (c ∷ p) x y =
    ap (λ o. ordering_then o (key_cmp (p ++ x) (p ++ y))) (tied_itself nat_cmp_total c) ∙ cancel p x y

-- a look for a number among rows is one for its key
same_number : (p : List ℕ) (a b : ℕ) → a < 2 ^ 63 → b < 2 ^ 63 → (t : Bool) → (a == b) ≡ t →
    is_eq (key_cmp (p ++ number_bytes a) (p ++ number_bytes b)) ≡ t
same_number p a b one two true is =
    let same : a ≡ b = grind (arith, nat_tests) in
    ap (λ k. is_eq (key_cmp (p ++ number_bytes a) (p ++ number_bytes k))) (sym same) ∙ tied (p ++ number_bytes a)
same_number p a b one two false is =
    ap is_eq (cancel p (number_bytes a) (number_bytes b))
    ∙ apart (number_bytes a) (number_bytes b) (λ same.
    let ids : a ≡ b = number_bytes-same a b (omega (arith, one)) (omega (arith, two)) same in
    differ a b ids is)
  where
    differ : (x y : ℕ) → x ≡ y → (x == y) ≡ false → ⊥
    differ x y same is = grind (arith, nat_tests)

pub find_number : {X : Type 0} (value : X → List ℕ) (p : List ℕ) (n : ℕ) (rows : Map X) → n < 2 ^ 63 →
    AllAre (λ r. r.0 < 2 ^ 63) rows →
    find key_cmp (p ++ number_bytes n) (spelled_rows p number_bytes value rows)
    ≡ option_map value (entry_at n rows)
find_number value p n [] one small = refl
find_number value p n (r ∷ rs) one small =
    ap (λ b. cond b (Some (value r.1)) rest) (same_number p n r.0 one small.0 (n == r.0) refl)
    ∙ step (n == r.0) (find_number value p n rs one small.1)
  where
    rest : Option (List ℕ)
    rest = find key_cmp (p ++ number_bytes n) (spelled_rows p number_bytes value rs)

    step : (b : Bool) → rest ≡ option_map value (entry_at n rs) →
        cond b (Some (value r.1)) rest ≡ option_map value (cond b (Some r.1) (entry_at n rs))
    step true is = refl
    step false is = is
