-- The bytes of words of a form, and the two parts of a table's name.
use Rattle.std.proofs.Common.{◌≡◌, ℕ, ◌≤◌, eqb, leb, ◌&&◌, true, List, [], ◌∷◌, ◌++◌, length, refl, subst, lit<}
use Rattle.std.proofs.Common.{arith}
use Rattle.std.proofs.lemmas.Bool.{and_parts, and_from}
use Rattle.std.proofs.lemmas.Bool.Decides.{nat_tests}
use Rattle.std.proofs.lemmas.List.Splits.{join_with_byte-slice_split}
use Rattle.std.proofs.lemmas.Str.{IsAscii-append}
use Rattle.std.proofs.lemmas.Str.Ascii.{IsAscii-cons}
use borrow.Author.Tests.{leb-true}
use Rattle.std.specs.List.{list_all, slice_split, join_with_byte}
use Rattle.std.specs.Str.{IsAscii}
use Rattle.slon_lemmas.proofs.Texts.{ascii_all}
use Rattle.slon_model.specs.Forms.{is_name_byte, is_name, is_first_part_byte, is_part_byte, is_part, are_two_parts}
use Rattle.slon_model.specs.Forms.{is_table_name, is_value_byte, is_value}

-- a name has bytes below 128 alone
pub name_ascii : (word : List ℕ) → is_name word ≡ true → IsAscii word
name_ascii word e = ascii_all is_name_byte (λ c e. grind (arith, nat_tests)) word (and_parts _ _ e).1

-- a value has bytes below 128 alone
pub value_ascii : (word : List ℕ) → is_value word ≡ true → IsAscii word
value_ascii word e = ascii_all is_value_byte (λ c e. grind (arith, nat_tests)) word (and_parts _ _ e).1

-- the first byte of a part may stand further behind too
pub part_bytes : (part : List ℕ) → is_part part ≡ true → list_all is_part_byte part ≡ true
part_bytes [] e = refl
part_bytes (c ∷ cs) e =
    let h = and_parts (is_first_part_byte c && leb (length cs) 30) (list_all is_part_byte cs) e in
    let f = and_parts (is_first_part_byte c) (leb (length cs) 30) h.0 in
    and_from (is_part_byte c) (list_all is_part_byte cs) (grind (arith, nat_tests, f.0)) h.1

-- a part has at most 31 bytes
pub part_short : (part : List ℕ) → is_part part ≡ true → length part ≤ 31
part_short [] e = cc
part_short (c ∷ cs) e =
    let h = and_parts (is_first_part_byte c && leb (length cs) 30) (list_all is_part_byte cs) e in
    let few = leb-true (length cs) 30 (and_parts (is_first_part_byte c) (leb (length cs) 30) h.0).1 in
    omega arith

part_ascii : (part : List ℕ) → is_part part ≡ true → IsAscii part
part_ascii part e = ascii_all is_part_byte (λ c e. grind (arith, nat_tests)) part (part_bytes part e)

-- a table's name is two parts around a dot
pub record TwoParts (word : List ℕ) : Type 0 where
  pub front : List ℕ
  pub back : List ℕ
  pub joined : front ++ 46 ∷ back ≡ word
  pub is_front : is_part front ≡ true
  pub is_back : is_part back ≡ true

parts_by : (parts : List (List ℕ)) (word : List ℕ) → join_with_byte 46 parts ≡ word → are_two_parts parts ≡ true →
    TwoParts word
parts_by (a ∷ b ∷ []) word e h =
    let p = and_parts (is_part a) (is_part b) h in
    record { front = a; back = b; joined = e; is_front = p.0; is_back = p.1 }
parts_by others word e h = cc

pub two_parts : (word : List ℕ) → is_table_name word ≡ true → TwoParts word
two_parts word e = parts_by (slice_split (λ c. eqb c 46) word) word (join_with_byte-slice_split 46 word) e

-- a table's name has bytes below 128 alone
pub table_name_ascii : (word : List ℕ) → is_table_name word ≡ true → IsAscii word
table_name_ascii word e =
    let t = two_parts word e in
    let back = IsAscii-cons 46 t.back (lit< tt) (part_ascii t.back t.is_back) in
    subst IsAscii t.joined (IsAscii-append t.front (46 ∷ t.back) (part_ascii t.front t.is_front) back)
