-- Columns as pairs of texts.
use Rattle.std.proofs.Common.{◌≡◌, ℕ, ◌+◌, ◌*◌, ◌<◌, ◌≤◌, eqb, false, List, [], ◌∷◌, ◌++◌, length, drop, refl}
use Rattle.std.proofs.Common.{sym, ap, ◌∙◌, append_assoc, arith, length-append}
use Rattle.std.proofs.lemmas.Bool.Decides.{nat_tests}
use Rattle.std.proofs.lemmas.Fmt.{decimal_injective}
use Rattle.std.proofs.lemmas.List.{append-nil, at_drop_all}
use Rattle.std.specs.Fmt.{decimal}
use Rattle.change_capture.specs.Capture.{numbered, paired}
use Rattle.change_capture.specs.Reading.{AreColumns, IsPrinted}
use Rattle.change_capture.proofs.Numbers.{small}

-- the pairs of columns that are joined
pub paired-append : (xs ys : List (ℕ × List ℕ)) → paired (xs ++ ys) ≡ paired xs ++ paired ys
paired-append [] ys = refl
paired-append (x ∷ xs) ys = ap (λ l. decimal x.0 ∷ x.1 ∷ l) (paired-append xs ys)

-- behind the last column all are named
pub paired_all : (done : List (List ℕ)) (columns : List (ℕ × List ℕ)) (i : ℕ) → length columns ≤ i →
    done ++ paired (drop i columns) ≡ paired columns → done ≡ paired columns
paired_all done columns i far e =
    sym (append-nil done) ∙ sym (at_drop_all (λ l. done ++ paired l) columns i far) ∙ e

-- two texts for each column
pub length-paired : (columns : List (ℕ × List ℕ)) → length (paired columns) ≡ 2 * length columns
length-paired [] = refl
length-paired (column ∷ columns) = omega (arith, length-paired columns)

-- a column for each value
pub length-numbered : (n : ℕ) (values : List (List ℕ)) → length (numbered n values) ≡ length values
length-numbered n [] = refl
length-numbered n (value ∷ values) = omega (arith, length-numbered (n + 1) values)

-- no columns are named by one text more
pub none_odd : (done columns : List (ℕ × List ℕ)) (rest : List (List ℕ)) → false ≡ eqb (length rest) 0 →
    length rest < 2 → paired done ++ rest ≡ paired columns → ⊥
none_odd done columns rest some few e =
    let one : 0 < length rest = grind (arith, nat_tests) in
    omega (arith, one, few, ap length e, length-append (paired done) rest, length-paired done, length-paired columns)

-- there are no more values than texts
pub few_values : (texts rest values : List (List ℕ)) → texts ≡ paired (numbered 2 values) ++ rest →
    2 * length values + length rest ≡ length texts
few_values texts rest values e = omega (
  arith,
  ap length e,
  length-append (paired (numbered 2 values)) rest,
  length-paired (numbered 2 values),
  length-numbered 2 values,
)

-- one more column is named
pub named_on : (texts rest : List (List ℕ)) (done : List (ℕ × List ℕ)) (number value : List ℕ) (n : ℕ) →
    texts ≡ paired done ++ number ∷ value ∷ rest → number ≡ decimal n →
    texts ≡ paired (done ++ (n, value) ∷ []) ++ rest
named_on texts rest done number value n is printed =
    is ∙ ap (λ d. paired done ++ d ∷ value ∷ rest) printed
    ∙ sym (append_assoc (paired done) (decimal n ∷ value ∷ []) rest)
    ∙ ap (λ l. l ++ rest) (sym (paired-append done ((n, value) ∷ [])))

-- the column that stands behind others
pub next_column : (done columns : List (ℕ × List ℕ)) (number value : List ℕ) (rest : List (List ℕ)) →
    AreColumns columns → paired done ++ number ∷ value ∷ rest ≡ paired columns → (n : ℕ) × IsPrinted number n
next_column [] [] number value rest fits e = cc
next_column (x ∷ done) [] number value rest fits e = cc
next_column [] (column ∷ columns) number value rest fits e = (column.0, record { fits = fits.0; is = cc })
next_column (x ∷ done) (column ∷ columns) number value rest fits e =
    next_column done columns number value rest fits.1 cc

-- the number of the value that stands behind others
pub next_value : (n : ℕ) (done values : List (List ℕ)) (number : List ℕ) (rest : List (List ℕ)) →
    paired (numbered n done) ++ number ∷ rest ≡ paired (numbered n values) → number ≡ decimal (length done + n)
next_value n [] [] number rest e = cc
next_value n (x ∷ done) [] number rest e = cc
next_value n [] (y ∷ values) number rest e =
    let count : n ≡ length {A = List ℕ} [] + n = omega arith in
    let first : number ≡ decimal n = cc in
    first ∙ ap decimal count
next_value n (x ∷ done) (y ∷ values) number rest e =
    let count : length done + (n + 1) ≡ length (x ∷ done) + n = omega arith in
    next_value (n + 1) done values number rest (cc) ∙ ap decimal count

-- one more value
pub numbered_on : (n : ℕ) (done : List (List ℕ)) (value : List ℕ) →
    numbered n (done ++ value ∷ []) ≡ numbered n done ++ (length done + n, value) ∷ []
numbered_on n [] value =
    let count : n ≡ length {A = List ℕ} [] + n = omega arith in
    ap (λ k. (k, value) ∷ []) count
numbered_on n (x ∷ done) value =
    let count : length done + (n + 1) ≡ length (x ∷ done) + n = omega arith in
    ap (λ l. (n, x) ∷ l) (numbered_on (n + 1) done value
    ∙ ap (λ k. numbered (n + 1) done ++ (k, value) ∷ []) count)

-- columns that are named alike are the same
pub paired_same : (xs ys : List (ℕ × List ℕ)) → AreColumns xs → AreColumns ys → paired xs ≡ paired ys → xs ≡ ys
paired_same [] [] f g e = refl
paired_same [] (y ∷ ys) f g e = cc
paired_same (x ∷ xs) [] f g e = cc
paired_same (x ∷ xs) (y ∷ ys) f g e =
    let number = decimal_injective x.0 y.0 (small x.0 f.0) (small y.0 g.0) cc in
    let value : x.1 ≡ y.1 = cc in
    let rest = paired_same xs ys f.1 g.1 cc in
    λ i. (number i, value i) ∷ rest i

-- values that are named alike are the same
pub numbered_same : (n : ℕ) (xs ys : List (List ℕ)) → paired (numbered n xs) ≡ paired (numbered n ys) → xs ≡ ys
numbered_same n [] [] e = refl
numbered_same n [] (y ∷ ys) e = cc
numbered_same n (x ∷ xs) [] e = cc
numbered_same n (x ∷ xs) (y ∷ ys) e =
    let value : x ≡ y = cc in
    let rest = numbered_same (n + 1) xs ys cc in
    λ i. value i ∷ rest i
