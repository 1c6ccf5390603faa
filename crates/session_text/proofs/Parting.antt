-- Texts that are parted at spaces: the names, numbers and rows of replies.
use Rattle.std.proofs.Common.{◌≡◌, ℕ, ◌<◌, ◌^◌, eqb, true, false, List, [], ◌∷◌, ◌++◌, map, length, refl, sym, ap}
use Rattle.std.proofs.Common.{◌∙◌, arith, append_assoc, length-append, codes}
use Rattle.std.proofs.lemmas.Bool.{and_parts}
use Rattle.std.proofs.lemmas.List.{append-nil}
use Rattle.std.proofs.lemmas.List.Splits.{join_with_byte-slice_split}
use Rattle.std.proofs.lemmas.Fmt.{decimal_is_IsNumeral}
use borrow.Author.Tests.{leb-true}
use Rattle.std.specs.Fmt.{decimal}
use Rattle.std.specs.List.{list_all, slice_split, join_with_byte, AllByRecursion}
use Rattle.std.specs.Str.Parse.{digits_value}
use Rattle.slon_model.specs.Forms.{is_name_byte, is_name, is_part_byte, is_part, is_table_name}
use Rattle.slon_model.specs.Forms.{is_value_byte, is_value}
use Rattle.slon_model.specs.Printed.{joined, rows_text}
use Rattle.session_text.specs.Replies.{RowHasForm}
use Rattle.session_text.proofs.Joins.{joined_first}
use Rattle.slon_lemmas.proofs.Splitting.{lacks, lacks_by, lacks-append, split_first, split_last}
use Rattle.slon_model.proofs.WordBytes.{part_bytes, two_parts}

pub name_lacks : (byte : ℕ) (name : List ℕ) → is_name_byte byte ≡ false → is_name name ≡ true → lacks byte name ≡ true
name_lacks byte name fails e = lacks_by is_name_byte byte name fails (and_parts _ _ e).1

value_lacks : (byte : ℕ) (value : List ℕ) → is_value_byte byte ≡ false → is_value value ≡ true → lacks byte value ≡ true
value_lacks byte value fails e = lacks_by is_value_byte byte value fails (and_parts _ _ e).1

part_lacks : (byte : ℕ) (part : List ℕ) → is_part_byte byte ≡ false → is_part part ≡ true → lacks byte part ≡ true
part_lacks byte part fails e = lacks_by is_part_byte byte part fails (part_bytes part e)

pub table_lacks : (byte : ℕ) (table : List ℕ) → is_part_byte byte ≡ false → lacks byte (46 ∷ []) ≡ true →
    is_table_name table ≡ true → lacks byte table ≡ true
table_lacks byte table fails dot e =
    let t = two_parts table e in
    ap (lacks byte) (sym t.joined)
    ∙ lacks-append byte t.front (46 ∷ t.back) (part_lacks byte t.front fails t.is_front)
    (lacks-append byte (46 ∷ []) t.back dot (part_lacks byte t.back fails t.is_back))

pub number_back : (n : ℕ) → n < 2 ^ 64 → digits_value 10 (decimal n) ≡ n
number_back n small = (decimal_is_IsNumeral n small).1

-- the values between commas; none have no text
abbrev values_of : List ℕ → List (List ℕ)
values_of [] = []
values_of (c ∷ cs) = slice_split (λ b. eqb b 44) (c ∷ cs)

values_some : (text : List ℕ) → 0 < length text → values_of text ≡ slice_split (λ b. eqb b 44) text
values_some [] some = absurd (omega arith)
values_some (c ∷ cs) some = refl

split_joined : (value : List ℕ) (more : List (List ℕ)) → list_all is_value (value ∷ more) ≡ true →
    slice_split (λ b. eqb b 44) (joined (value ∷ more)) ≡ value ∷ more
split_joined value [] e = split_last 44 value (value_lacks 44 value refl (and_parts _ _ e).0)
split_joined value (next ∷ more) e =
    let h = and_parts (is_value value) (list_all is_value (next ∷ more)) e in
    ap (slice_split (λ b. eqb b 44)) (append_assoc value (44 ∷ []) (joined (next ∷ more)))
    ∙ split_first 44 value (joined (next ∷ more)) (value_lacks 44 value refl h.0)
    ∙ ap (λ l. value ∷ l) (split_joined next more h.1)

values_back : (values : List (List ℕ)) → list_all is_value values ≡ true → values_of (joined values) ≡ values
values_back [] e = refl
values_back (value ∷ more) e =
    let first = and_parts (is_value value) (list_all is_value more) e in
    let some = leb-true 1 (length value) (and_parts _ _ (and_parts _ _ first.0).0).0 in
    let long = ap length (joined_first value more) in
    values_some (joined (value ∷ more)) (omega (arith, long, length-append {A = ℕ})) ∙ split_joined value more e

joined_lacks : (byte : ℕ) (values : List (List ℕ)) → is_value_byte byte ≡ false → lacks byte (44 ∷ []) ≡ true →
    list_all is_value values ≡ true → lacks byte (joined values) ≡ true
joined_lacks byte [] fails comma e = refl
joined_lacks byte (value ∷ []) fails comma e = value_lacks byte value fails (and_parts _ _ e).0
joined_lacks byte (value ∷ next ∷ more) fails comma e =
    let h = and_parts (is_value value) (list_all is_value (next ∷ more)) e in
    lacks-append byte (value ++ 44 ∷ []) (joined (next ∷ more))
    (lacks-append byte value (44 ∷ []) (value_lacks byte value fails h.0) comma)
    (joined_lacks byte (next ∷ more) fails comma h.1)

-- `KEY=V,V`
abbrev pub row_word : List ℕ × List (List ℕ) → List ℕ
row_word row = row.0 ++ codes "=" ++ joined row.1

abbrev row_in : List (List ℕ) → List ℕ × List (List ℕ)
row_in [] = ([], [])
row_in (key ∷ []) = (key, [])
row_in (key ∷ values ∷ more) = (key, values_of values)

abbrev pub row_of : List ℕ → List ℕ × List (List ℕ)
row_of word = row_in (slice_split (λ b. eqb b 61) word)

row_back : (row : List ℕ × List (List ℕ)) → RowHasForm row → row_of (row_word row) ≡ row
row_back row h =
    let parts =
    ap (slice_split (λ b. eqb b 61)) (append_assoc row.0 (61 ∷ []) (joined row.1))
    ∙ split_first 61 row.0 (joined row.1) (value_lacks 61 row.0 refl h.0)
    ∙ ap (λ l. row.0 ∷ l) (split_last 61 (joined row.1) (joined_lacks 61 row.1 refl refl h.1)) in
    ap row_in parts ∙ ap (λ v. (row.0, v)) (values_back row.1 h.1)

row_lacks : (byte : ℕ) (row : List ℕ × List (List ℕ)) → is_value_byte byte ≡ false → lacks byte (44 ∷ []) ≡ true →
    lacks byte (61 ∷ []) ≡ true → RowHasForm row → lacks byte (row_word row) ≡ true
row_lacks byte row fails comma equals h =
    lacks-append byte (row.0 ++ 61 ∷ []) (joined row.1)
    (lacks-append byte row.0 (61 ∷ []) (value_lacks byte row.0 fails h.0) equals)
    (joined_lacks byte row.1 fails comma h.1)

pub rows_split : (word : List ℕ) (rows : List (List ℕ × List (List ℕ))) → lacks 32 word ≡ true →
    AllByRecursion RowHasForm rows → slice_split (λ b. eqb b 32) (word ++ rows_text rows) ≡ word ∷ map row_word rows
rows_split word [] e h = ap (slice_split (λ b. eqb b 32)) (append-nil word) ∙ split_last 32 word e
rows_split word (row ∷ more) e h =
    split_first 32 word (row_word row ++ rows_text more) e
    ∙ ap (λ l. word ∷ l) (rows_split (row_word row) more (row_lacks 32 row refl refl refl h.0) h.1)

pub rows_back : (rows : List (List ℕ × List (List ℕ))) → AllByRecursion RowHasForm rows →
    map row_of (map row_word rows) ≡ rows
rows_back [] h = refl
rows_back (row ∷ more) h =
    ap (λ r. r ∷ map row_of (map row_word more)) (row_back row h.0) ∙ ap (λ l. row ∷ l) (rows_back more h.1)

pub rows_lack : (rows : List (List ℕ × List (List ℕ))) → AllByRecursion RowHasForm rows →
    lacks 10 (rows_text rows) ≡ true
rows_lack [] h = refl
rows_lack (row ∷ more) h =
    lacks-append 10 (row_word row) (rows_text more) (row_lacks 10 row refl refl refl h.0) (rows_lack more h.1)

-- The words between spaces, with the spaces again.
abbrev pub text_of : List (List ℕ) → List ℕ
text_of words = join_with_byte 32 words

pub text_back : (text : List ℕ) → text_of (slice_split (λ b. eqb b 32) text) ≡ text
text_back text = join_with_byte-slice_split 32 text

-- the number that the words are
abbrev pub number_of : List (List ℕ) → ℕ
number_of words = digits_value 10 (text_of words)

pub number_text_back : (n : ℕ) → n < 2 ^ 64 → number_of (slice_split (λ b. eqb b 32) (decimal n)) ≡ n
number_text_back n small = ap (digits_value 10) (text_back (decimal n)) ∙ number_back n small

pub below_word : (n : ℕ) → n < 256 → n < 2 ^ 64
below_word n h = omega arith

pub below_half : (n : ℕ) → n < 2 ^ 32 → n < 2 ^ 64
below_half n h = omega arith

-- a word in front of a space, and the words behind it
pub split_word : (word rest : List ℕ) (words : List (List ℕ)) → lacks 32 word ≡ true →
    slice_split (λ b. eqb b 32) rest ≡ words → slice_split (λ b. eqb b 32) (word ++ 32 ∷ rest) ≡ word ∷ words
split_word word rest words e is = split_first 32 word rest e ∙ ap (λ l. word ∷ l) is
