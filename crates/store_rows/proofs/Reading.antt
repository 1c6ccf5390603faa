-- Reading what was spelled.
use Rattle.std.proofs.Common.{◌≡◌, ℕ, ◌+◌, ◌<◌, ◌≤◌, List, [], ◌∷◌, ◌++◌, length, Result, Err, refl, sym, ap, subst}
use Rattle.std.proofs.Common.{◌∙◌, append_assoc, arith}
use Rattle.std.proofs.lemmas.List.{append-nil}
use Rattle.slon_base.specs.declared.fault.RowFault.{RowFault}
use Rattle.slon_base.specs.declared.fault.RowFault.TheVariants.{NoMemory}
use Rattle.store_rows.specs.declared.stop.Stop.{Stop}
use Rattle.store_rows.specs.declared.stop.Stop.TheVariants.{NoMemory as StopNoMemory}
use Rattle.store_rows.specs.Steps.{IsOutside}
use Rattle.store_rows.specs.Rows.{ReadAs}
use Rattle.slon_base.specs.Codec.{all_bytes, AllAre}

pub memory_outside : (stop : Stop) → stop ≡ StopNoMemory → IsOutside stop
memory_outside stop is = subst IsOutside (sym is) tt

-- a read that failed is handed on
pub hands_on : {T L : Type 0} (seen : L → T) (x : T) (rest left : List ℕ) {fault : RowFault}
    (result : Result L RowFault) → (y : RowFault) × (result ≡ Err y) × (y ≡ fault) → fault ≡ NoMemory →
    ReadAs seen x rest result left
hands_on seen x rest left result (y, is, same) memory =
    subst (λ r. ReadAs seen x rest r left) (sym is) (same ∙ memory)

-- values that are left to be read, behind those that are done
pub record Left {X : Type 0} (bytes : X → List ℕ) (Can : X → Type 0) (row rest : List ℕ) (n count : ℕ)
    (done xs : List X) : Type 0 where
  pub left : List X
  pub can : AllAre Can left
  pub counted : n + length left ≡ count
  pub row_is : row ≡ all_bytes bytes left ++ rest
  pub whole : done ++ left ≡ xs

-- the first of them, and what is left behind it
pub record Next {X : Type 0} (bytes : X → List ℕ) (Can : X → Type 0) (row rest : List ℕ) (n count : ℕ)
    (done xs : List X) : Type 0 where
  pub x : X
  pub more : List X
  pub can : Can x
  pub cans : AllAre Can more
  pub row_is : row ≡ bytes x ++ (all_bytes bytes more ++ rest)
  pub counted : (n + 1) + length more ≡ count
  pub whole : (done ++ x ∷ []) ++ more ≡ xs

pub next_one : {X : Type 0} {bytes : X → List ℕ} {Can : X → Type 0} {row rest : List ℕ} {n count : ℕ}
    {done xs : List X} → n < count → Left bytes Can row rest n count done xs →
    Next bytes Can row rest n count done xs
next_one {X} {bytes} {Can} {row} {rest} {n} {count} {done} {xs} fewer l = of l.left l.can l.counted l.row_is l.whole
  where
    of : (left : List X) → AllAre Can left → n + length left ≡ count → row ≡ all_bytes bytes left ++ rest →
        done ++ left ≡ xs → Next bytes Can row rest n count done xs
    of [] can counted row_is whole = absurd (omega (arith, fewer, counted))
    of (x ∷ ys) can counted row_is whole = record {
      x = x;
      more = ys;
      can = can.0;
      cans = can.1;
      row_is = row_is ∙ append_assoc (bytes x) (all_bytes bytes ys) rest;
      counted = omega (arith, counted);
      whole = append_assoc done (x ∷ []) ys ∙ whole;
    }

pub last_one : {X : Type 0} {bytes : X → List ℕ} {Can : X → Type 0} {row rest : List ℕ} {n count : ℕ}
    {done xs : List X} → count ≤ n → Left bytes Can row rest n count done xs → (done ≡ xs) × (row ≡ rest)
last_one {X} {bytes} {Can} {row} {rest} {n} {count} {done} {xs} all l = of l.left l.counted l.row_is l.whole
  where
    of : (left : List X) → n + length left ≡ count → row ≡ all_bytes bytes left ++ rest → done ++ left ≡ xs →
        (done ≡ xs) × (row ≡ rest)
    of [] counted row_is whole = (sym (append-nil done) ∙ whole, row_is)
    of (x ∷ ys) counted row_is whole = absurd (omega (arith, all, counted))

pub all_snoc : {X : Type 0} (Can : X → Type 0) (xs : List X) (x : X) → AllAre Can xs → Can x → AllAre Can (xs ++ x ∷ [])
all_snoc Can [] x all can = (can, tt)
all_snoc Can (y ∷ ys) x all can = (all.0, all_snoc Can ys x all.1 can)

pub length_snoc : {X : Type 0} (xs : List X) (x : X) → length (xs ++ x ∷ []) ≡ length xs + 1
length_snoc [] x = refl
length_snoc (y ∷ ys) x = omega (arith, length_snoc ys x)

pub bytes_snoc : {X : Type 0} (bytes : X → List ℕ) (xs : List X) (x : X) (rest : List ℕ) →
    all_bytes bytes (xs ++ x ∷ []) ++ rest ≡ all_bytes bytes xs ++ (bytes x ++ rest)
bytes_snoc bytes [] x rest = append_assoc (bytes x) [] rest
bytes_snoc bytes (y ∷ ys) x rest =
    append_assoc (bytes y) (all_bytes bytes (ys ++ x ∷ [])) rest ∙ ap (λ r. bytes y ++ r) (bytes_snoc bytes ys x rest)
    ∙ sym (append_assoc (bytes y) (all_bytes bytes ys) (bytes x ++ rest))
