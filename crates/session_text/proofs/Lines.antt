-- The first line of bytes, found piece by piece.
use Rattle.std.proofs.Common.{◌≡◌, ℕ, ◌+◌, ◌-◌, ◌<◌, ◌≤◌, eqb, ltb, cond, not, Bool, true, false, List, [], ◌∷◌, ◌++◌}
use Rattle.std.proofs.Common.{length, take, drop, min, Option, Some, None, is_some, unwrap_or, refl, sym, ap, ◌∙◌}
use Rattle.std.proofs.Common.{arith}
use Rattle.std.proofs.Math.Numerals.{one-add}
use Rattle.std.proofs.lemmas.Bool.Decides.{nat_tests}
use Rattle.std.proofs.lemmas.List.{take_min, take_all, length-take, drop-take, drop-drop}
use borrow.Author.Tests.{ltb-true, ltb-false}
use Rattle.std.proofs.lemmas.List.Splits.{length-slice_split}
use Rattle.std.proofs.Math.Nat.{min_comm}
use Rattle.std.specs.List.{slice_range, position, prefix_len, slice_split}
use Rattle.std.specs.Str.Lines.{lines, lines_of_parts, strip_carriage_return}
use Rattle.std.proofs.Math.Seq.{take-append-add}
use Rattle.session_text.specs.Reading.{line_size}
use Rattle.session_text.specs.Handing.{front, behind}

-- a copy that is cut off grows as the list does
pub take_grown : (n m : ℕ) (xs ys : List ℕ) → length xs ≤ n → m ≡ min (length ys) (n - length xs) →
    xs ++ take m ys ≡ take n (xs ++ ys)
take_grown n m xs ys room e =
    let part : take m ys ≡ take (n - length xs) ys =
    ap (λ k. take k ys) (e ∙ min_comm (length ys) (n - length xs)) ∙ take_min (n - length xs) ys in
    let all : length xs + (n - length xs) ≡ n = omega arith in
    ap (λ l. xs ++ l) part ∙ sym (take-append-add xs ys (n - length xs)) ∙ ap (λ k. take k (xs ++ ys)) all

pub front_is : (bs : List ℕ) → front bs ≡ take (prefix_len (λ c. not (eqb c 10)) bs) bs
front_is [] = refl
front_is (c ∷ cs) =
    elim (eqb c 10)
    as (λ b. cond b [] (c ∷ front cs) ≡ take (cond (not b) (1 + prefix_len (λ c. not (eqb c 10)) cs) 0)
    (c ∷ cs)) [ true ↦ refl | false ↦ rw one-add (ap (λ l. c ∷ l) (front_is cs)) ]

pub behind_is : (bs : List ℕ) →
    behind bs ≡ cond (ltb (prefix_len (λ c. not (eqb c 10)) bs) (length bs))
    (Some (drop (prefix_len (λ c. not (eqb c 10)) bs + 1) bs)) None
behind_is [] = refl
behind_is (c ∷ cs) = grind (arith, nat_tests, behind_is cs)

pub front_open : (bs : List ℕ) → behind bs ≡ None → front bs ≡ bs
front_open [] h = refl
front_open (c ∷ cs) h = grind (arith, front_open cs)

pub front-append : (xs ys : List ℕ) → behind xs ≡ None → front (xs ++ ys) ≡ xs ++ front ys
front-append [] ys h = refl
front-append (c ∷ cs) ys h = grind (arith, front-append cs ys)

pub behind-append : (xs ys : List ℕ) → behind xs ≡ None → behind (xs ++ ys) ≡ behind ys
behind-append [] ys h = refl
behind-append (c ∷ cs) ys h = grind (arith, behind-append cs ys)

pub front-append_broken : (xs ys rest : List ℕ) → behind xs ≡ Some rest → front (xs ++ ys) ≡ front xs
front-append_broken [] ys rest h = cc
front-append_broken (c ∷ cs) ys rest h = grind (arith, front-append_broken cs ys rest)

pub behind-append_broken : (xs ys rest : List ℕ) → behind xs ≡ Some rest → behind (xs ++ ys) ≡ Some (rest ++ ys)
behind-append_broken [] ys rest h = cc
behind-append_broken (c ∷ cs) ys rest h = grind (arith, behind-append_broken cs ys rest)

split_broken : (bs rest : List ℕ) → behind bs ≡ Some rest →
    slice_split (λ c. eqb c 10) bs ≡ front bs ∷ slice_split (λ c. eqb c 10) rest
split_broken [] rest h = cc
split_broken (c ∷ cs) rest h = grind (arith, split_broken cs rest)

split_open : (bs : List ℕ) → behind bs ≡ None → slice_split (λ c. eqb c 10) bs ≡ bs ∷ []
split_open [] h = refl
split_open (c ∷ cs) h = grind (arith, split_open cs)

-- there is a part at least
parts_more : (front : List ℕ) (parts : List (List ℕ)) → 0 < length parts →
    lines_of_parts (front ∷ parts) ≡ strip_carriage_return front ∷ lines_of_parts parts
parts_more front [] some = absurd (omega arith)
parts_more front (part ∷ parts) some = refl

split_more : (front : List ℕ) (bs : List ℕ) →
    lines_of_parts (front ∷ slice_split (λ c. eqb c 10) bs) ≡ strip_carriage_return front ∷ lines bs
split_more front bs =
    parts_more front (slice_split (λ c. eqb c 10) bs) (omega (arith, length-slice_split (λ c. eqb c 10) bs))

pub lines_broken : (bs rest : List ℕ) → behind bs ≡ Some rest → lines bs ≡ strip_carriage_return (front bs) ∷ lines rest
lines_broken bs rest h = ap lines_of_parts (split_broken bs rest h) ∙ split_more (front bs) rest

pub lines_open : (bs : List ℕ) → behind bs ≡ None → 0 < length bs → lines bs ≡ bs ∷ []
lines_open bs h some = ap lines_of_parts (split_open bs h) ∙ grind (arith, nat_tests)

-- what a part of a buffer is behind its first bytes
drop-slice_range : (buffer : List ℕ) (start end k : ℕ) → start + k ≤ end →
    drop k (slice_range buffer start end) ≡ slice_range buffer (start + k) end
drop-slice_range buffer start end k h =
    let e : end - start ≡ k + (end - (start + k)) = omega arith in
    ap (λ m. drop k (take m (drop start buffer))) e ∙ drop-take k (end - (start + k)) (drop start buffer)
    ∙ ap (λ l. take (end - (start + k)) l) (drop-drop k start buffer)

same_front : (bs : List ℕ) (n len : ℕ) (b : Bool) → ltb n (length bs) ≡ b →
    len ≡ unwrap_or (cond b (Some n) None) (length bs) → take n bs ≡ take len bs
same_front bs n len true h f = ap (λ k. take k bs) (sym f)
same_front bs n len false h f =
    take_all n bs (omega (arith, ltb-false)) ∙ sym (take_all len bs (omega arith))

pub front_found : (bs : List ℕ) (found : Option ℕ) (len : ℕ) → found ≡ position (λ c. eqb c 10) bs →
    len ≡ unwrap_or found (length bs) → front bs ≡ take len bs
front_found bs found len e f =
    front_is bs
    ∙ same_front bs (prefix_len (λ c. not (eqb c 10)) bs) len _ refl (f ∙ ap (λ o. unwrap_or o (length bs)) e)

-- Where the front of the bytes is cut off, as the reader finds it.
pub record Cut (bs : List ℕ) : Type 0 where
  pub found : Option ℕ
  pub len : ℕ
  pub some : Bool
  pub count : ℕ
  pub finds : found ≡ position (λ c. eqb c 10) bs
  pub ends : len ≡ unwrap_or found (length bs)
  pub breaks : some ≡ is_some found
  pub counts : count ≡ cond some (len + 1) len

abbrev pub cut : (bs : List ℕ) (found : Option ℕ) (len : ℕ) (some : Bool) (count : ℕ) →
    (found ≡ position (λ c. eqb c 10) bs) × (len ≡ unwrap_or found (length bs)) →
    (some ≡ is_some found) × (count ≡ cond some (len + 1) len) → Cut bs
cut bs found len some count is has = record {
  found = found;
  len = len;
  some = some;
  count = count;
  finds = is.0;
  ends = is.1;
  breaks = has.0;
  counts = has.1;
}

-- it is at the first newline, and passes it, or there is none
cut_at : (bs : List ℕ) (cut : Cut bs) (n : ℕ) (b : Bool) → cut.found ≡ cond b (Some n) None →
    (cut.some ≡ b) × (cut.count ≡ cond b (n + 1) (length bs))
cut_at bs cut n true e =
    let some = cut.breaks ∙ ap is_some e in
    (some, rw (some, cut.ends, e) at cut.counts)
cut_at bs cut n false e =
    let some = cut.breaks ∙ ap is_some e in
    (some, rw (some, cut.ends, e) at cut.counts)

behind_part : (bs buffer : List ℕ) (start end n : ℕ) (b : Bool) → bs ≡ slice_range buffer start end →
    ltb n (length bs) ≡ b →
    cond b (Some (drop (n + 1) bs)) None
    ≡ cond b (Some (slice_range buffer (start + cond b (n + 1) (length bs)) end)) None
behind_part bs buffer start end n true part h =
    let within : n < length bs = omega (arith, ltb-true) in
    let long = ap length part ∙ length-take (end - start) (drop start buffer) in
    ap (λ l. Some (drop (n + 1) l)) part ∙ ap (λ l. Some l) (drop-slice_range buffer start end (n + 1) (omega arith))
behind_part bs buffer start end n false part h = refl

-- the bytes behind a newline that is found in a part of a buffer
pub behind_found : (bs buffer : List ℕ) (start end : ℕ) (cut : Cut bs) → bs ≡ slice_range buffer start end →
    behind bs ≡ cond cut.some (Some (slice_range buffer (start + cut.count) end)) None
behind_found bs buffer start end cut part =
    let n = prefix_len (λ c. not (eqb c 10)) bs in
    let at = cut_at bs cut n (ltb n (length bs)) cut.finds in
    rw (at.0, at.1) (behind_is bs ∙ behind_part bs buffer start end n _ part refl)

-- the size of the first line
pub size_open : (bs : List ℕ) → behind bs ≡ None → line_size bs ≡ length bs
size_open [] h = refl
size_open (c ∷ cs) h = grind (arith, size_open cs)

pub size_broken : (bs rest : List ℕ) → behind bs ≡ Some rest → line_size bs + length rest ≡ length bs
size_broken [] rest h = cc
size_broken (c ∷ cs) rest h = grind (arith, size_broken cs rest)

pub drop-size_broken : (bs rest : List ℕ) → behind bs ≡ Some rest → drop (line_size bs) bs ≡ rest
drop-size_broken [] rest h = cc
drop-size_broken (c ∷ cs) rest h =
    elim (eqb c 10) as (λ b. cond b (Some cs) (behind cs) ≡ Some rest → drop (cond b 1 (1 + line_size cs)) (c ∷ cs)
    ≡ rest) [ true ↦ λ e. cc | false ↦ λ e. rw one-add (drop-size_broken cs rest e) ] h

pub size-append : (xs ys : List ℕ) → behind xs ≡ None → line_size (xs ++ ys) ≡ length xs + line_size ys
size-append [] ys h = omega arith
size-append (c ∷ cs) ys h = grind (arith, size-append cs ys)

pub size_more : (xs ys : List ℕ) → line_size xs ≤ line_size (xs ++ ys)
size_more [] ys = omega arith
size_more (c ∷ cs) ys = grind (arith, size_more cs ys)

size_is : (bs : List ℕ) →
    line_size bs ≡ cond (ltb (prefix_len (λ c. not (eqb c 10)) bs) (length bs))
    (prefix_len (λ c. not (eqb c 10)) bs + 1) (length bs)
size_is [] = refl
size_is (c ∷ cs) = grind (arith, nat_tests, size_is cs)

pub size_found : (bs : List ℕ) (cut : Cut bs) → line_size bs ≡ cut.count
size_found bs cut =
    let n = prefix_len (λ c. not (eqb c 10)) bs in
    size_is bs ∙ sym (cut_at bs cut n (ltb n (length bs)) cut.finds).1
