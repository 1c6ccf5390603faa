-- The forms of words: what a word of a form holds, and how a table's name is found.
use Rattle.std.proofs.Common.{◌≡◌, ℕ, ◌+◌, ◌-◌, ◌<◌, eqb, ◌&&◌, Bool, true, false, List, [], ◌∷◌, length, take, drop}
use Rattle.std.proofs.Common.{Some}
use Rattle.std.proofs.Common.{None, refl, sym, ap, ◌∙◌, arith}
use Rattle.std.proofs.lemmas.Bool.{and_right}
use Rattle.std.proofs.lemmas.List.Splits.{length-slice_split, join_with_byte-slice_split}
use Rattle.std.proofs.lemmas.List.{take_rest}
use Rattle.std.proofs.lemmas.Str.{IsUtf8-from_ascii}
use Rattle.std.specs.List.{slice_split, position, join_with_byte}
use Rattle.std.specs.Str.{IsUtf8}
use Rattle.slon_lemmas.proofs.Splitting.{lacks_by, split_last, split_none, split_some}
use Rattle.slon_model.specs.Forms.{is_name, is_part_byte, is_part, are_two_parts, is_table_name, is_value}
use Rattle.slon_model.proofs.WordBytes.{name_ascii, value_ascii, part_bytes, table_name_ascii}

pub name_text : (word : List ℕ) → is_name word ≡ true → IsUtf8 word
name_text word e = IsUtf8-from_ascii word (name_ascii word e)

pub value_text : (word : List ℕ) → is_value word ≡ true → IsUtf8 word
value_text word e = IsUtf8-from_ascii word (value_ascii word e)

pub table_name_text : (word : List ℕ) → is_table_name word ≡ true → IsUtf8 word
table_name_text word e = IsUtf8-from_ascii word (table_name_ascii word e)

-- a part holds no dot
no_dot : (part : List ℕ) → is_part part ≡ true → slice_split (λ c. eqb c 46) part ≡ part ∷ []
no_dot part e = split_last 46 part (lacks_by is_part_byte 46 part refl (part_bytes part e))

-- behind the first part, the second is the whole rest
two_parts_by : (a bs : List ℕ) (parts : List (List ℕ)) (b : Bool) → is_part bs ≡ b →
    (is_part bs ≡ true → parts ≡ bs ∷ []) → join_with_byte 46 parts ≡ bs → 0 < length parts →
    are_two_parts (a ∷ parts) ≡ (is_part a && b)
two_parts_by a bs [] b e one joined some = absurd (omega arith)
two_parts_by a bs (part ∷ []) b e one joined some =
    ap (λ l. is_part a && is_part l) joined ∙ ap (λ x. is_part a && x) e
two_parts_by a bs (part ∷ next ∷ more) true e one joined some = let h = one e in cc
two_parts_by a bs (part ∷ next ∷ more) false e one joined some = sym (and_right (is_part a) false refl)

two_parts : (a bs : List ℕ) → are_two_parts (a ∷ slice_split (λ c. eqb c 46) bs) ≡ (is_part a && is_part bs)
two_parts a bs =
    two_parts_by a bs (slice_split (λ c. eqb c 46) bs) (is_part bs) refl (no_dot bs) (join_with_byte-slice_split 46 bs)
    (omega (arith, length-slice_split (λ c. eqb c 46) bs))

-- no byte is a dot
pub table_name_none : (word : List ℕ) → None ≡ position (λ c. eqb c 46) word → is_table_name word ≡ false
table_name_none word e = ap are_two_parts (split_none 46 word e)

-- the dot that is found parts the two
pub table_name_some : (word : List ℕ) (dot : ℕ) → Some dot ≡ position (λ c. eqb c 46) word →
    is_table_name word ≡ (is_part (take dot word) && is_part (take (length word - (dot + 1)) (drop (dot + 1) word)))
table_name_some word dot e =
    ap are_two_parts (split_some 46 dot word e) ∙ two_parts (take dot word) (drop (dot + 1) word)
    ∙ ap (λ l. is_part (take dot word) && is_part l) (sym (take_rest word (dot + 1)))
