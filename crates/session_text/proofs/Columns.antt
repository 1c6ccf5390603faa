-- The columns of an update: how a word is parted, and how a list of them is read word by word.
use Rattle.std.proofs.Common.{◌≡◌, ℕ, ◌+◌, ◌-◌, ◌<◌, ◌≤◌, eqb, ltb, cond, Bool, true, false, List, [], ◌∷◌, ◌++◌}
use Rattle.std.proofs.Common.{map, length, take, drop, get_or, Option, Some, None, refl, sym, ap, ◌∙◌, arith}
use Rattle.std.proofs.Common.{append_assoc}
use Rattle.std.proofs.lemmas.Bool.{and_parts}
use Rattle.std.proofs.lemmas.Bool.Decides.{nat_tests}
use Rattle.std.proofs.lemmas.List.Splits.{length-slice_split, join_with_byte-slice_split}
use Rattle.std.proofs.lemmas.List.{take_rest, append-nil, drop_more}
use Rattle.std.proofs.Math.ListN.{drop_of_length-le}
use denote.Ref.{Bor}
use Rattle.std.specs.List.{slice_split, position, join_with_byte}
use Rattle.std.specs.Option.{option_map}
use Rattle.slon_model.specs.Forms.{is_value_byte, is_value, number_between}
use Rattle.slon_model.specs.Lines.{column_with, column_parts, column_of, column_then, columns_behind}
use Rattle.slon_lemmas.proofs.Splitting.{lacks_by, split_last, split_none, split_some}

-- a value is one part
value_alone : (value : List ℕ) → is_value value ≡ true → slice_split (λ c. eqb c 61) value ≡ value ∷ []
value_alone value e = split_last 61 value (lacks_by is_value_byte 61 value refl (and_parts _ _ e).1)

-- where the value is of no form, there is no column
no_value : (column : Option ℕ) (value : List ℕ) → is_value value ≡ false → column_with column value ≡ None
no_value None value e = refl
no_value (Some column) value e = rw e refl

-- behind the number, the value is the whole rest
parts_by : (column value : List ℕ) (parts : List (List ℕ)) (b : Bool) → is_value value ≡ b →
    (is_value value ≡ true → parts ≡ value ∷ []) → join_with_byte 61 parts ≡ value → 0 < length parts →
    column_parts (column ∷ parts) ≡ column_with (number_between 1 99 column) value
parts_by column value [] b e one joined some = absurd (omega arith)
parts_by column value (part ∷ []) b e one joined some = ap (column_with (number_between 1 99 column)) joined
parts_by column value (part ∷ next ∷ more) true e one joined some = let h = one e in cc
parts_by column value (part ∷ next ∷ more) false e one joined some = sym (no_value (number_between 1 99 column) value e)

parts_are : (column value : List ℕ) →
    column_parts (column ∷ slice_split (λ c. eqb c 61) value) ≡ column_with (number_between 1 99 column) value
parts_are column value =
    parts_by column value (slice_split (λ c. eqb c 61) value) (is_value value) refl (value_alone value)
    (join_with_byte-slice_split 61 value) (omega (arith, length-slice_split (λ c. eqb c 61) value))

-- no byte is `=`
pub column_none : (word : List ℕ) → None ≡ position (λ c. eqb c 61) word → column_of word ≡ None
column_none word e = ap column_parts (split_none 61 word e)

-- the `=` that is found parts the number from the value
pub column_some : (word : List ℕ) (equals : ℕ) → Some equals ≡ position (λ c. eqb c 61) word →
    column_of word
    ≡ column_with (number_between 1 99 (take equals word)) (take (length word - (equals + 1)) (drop (equals + 1) word))
column_some word equals e =
    ap column_parts (split_some 61 equals word e) ∙ parts_are (take equals word) (drop (equals + 1) word)
    ∙ ap (column_with (number_between 1 99 (take equals word))) (sym (take_rest word (equals + 1)))

-- The words at this place and behind it, after the columns that were read.
abbrev pub columns_from : ℕ → ℕ → List (ℕ × List ℕ) → List (Bor (List ℕ)) → Option (List (ℕ × List ℕ))
columns_from last i done words =
    option_map (λ rest. done ++ rest) (columns_behind last (map (λ word. word.now) (drop i words)))

pub columns_all : (words : List (Bor (List ℕ))) (i last : ℕ) (done : List (ℕ × List ℕ))
    (whole : Option (List (ℕ × List ℕ))) → length words ≤ i → columns_from last i done words ≡ whole → whole ≡ Some done
columns_all words i last done whole far e =
    sym e
    ∙ ap (λ l. option_map (λ rest. done ++ rest) (columns_behind last (map (λ word. word.now) l)))
    (drop_of_length-le words far) ∙ ap Some (append-nil done)

push_in : (done : List (ℕ × List ℕ)) (x : ℕ × List ℕ) (more : Option (List (ℕ × List ℕ))) →
    option_map (λ rest. done ++ rest) (option_map (λ columns. x ∷ columns) more)
    ≡ option_map (λ rest. (done ++ x ∷ []) ++ rest) more
push_in done x None = refl
push_in done x (Some rest) = ap Some (sym (append_assoc done (x ∷ []) rest))

-- A word among words, behind the columns that were read.
pub record Spot : Type 0 where
  pub words : List (Bor (List ℕ))
  pub d : Bor (List ℕ)
  pub i : ℕ
  pub last : ℕ
  pub done : List (ℕ × List ℕ)
  pub within : i < length words

abbrev pub spot : (words : List (Bor (List ℕ))) → Bor (List ℕ) → (i : ℕ) → ℕ → List (ℕ × List ℕ) → i < length words →
    Spot
spot words d i last done within =
    record { words = words; d = d; i = i; last = last; done = done; within = within }

abbrev columns_here : Spot → Option (List (ℕ × List ℕ))
columns_here s = columns_from s.last s.i s.done s.words

abbrev column_here : Spot → Option (ℕ × List ℕ)
column_here s = column_of (get_or s.words s.i s.d).now

-- the columns of the words behind this one, above a column
abbrev columns_past : Spot → ℕ → Option (List (ℕ × List ℕ))
columns_past s n = columns_behind n (map (λ word. word.now) (drop (s.i + 1) s.words))

abbrev behind_done : Spot → Option (List (ℕ × List ℕ)) → Option (List (ℕ × List ℕ))
behind_done s = option_map (λ rest. s.done ++ rest)

-- the word at this place, and the words behind it
columns_at : (s : Spot) (found : Option (ℕ × List ℕ)) → column_here s ≡ found →
    columns_here s ≡ behind_done s (column_then s.last found (columns_past s))
columns_at s found e =
    ap (λ l. behind_done s (columns_behind s.last (map (λ word. word.now) l))) (drop_more s.words s.i s.d s.within)
    ∙ ap (λ o. behind_done s (column_then s.last o (columns_past s))) e

-- a column that was read, by whether it is above the last
column_read : (s : Spot) (x : ℕ × List ℕ) (b : Bool) → column_here s ≡ Some x → ltb s.last x.0 ≡ b →
    columns_here s ≡ behind_done s (cond b (option_map (λ columns. x ∷ columns) (columns_past s x.0)) None)
column_read s x b e test =
    columns_at s (Some x) e
    ∙ ap (λ b. behind_done s (cond b (option_map (λ columns. x ∷ columns) (columns_past s x.0)) None)) test

pub columns_next : (s : Spot) (column : ℕ) (value : List ℕ) → column_here s ≡ Some (column, value) → s.last < column →
    columns_here s ≡ columns_from column (s.i + 1) (s.done ++ (column, value) ∷ []) s.words
columns_next s column value e above =
    column_read s (column, value) true e (grind (arith, nat_tests))
    ∙ push_in s.done (column, value) (columns_past s column)

pub columns_unread : (s : Spot) (whole : Option (List (ℕ × List ℕ))) → columns_here s ≡ whole → column_here s ≡ None →
    whole ≡ None
columns_unread s whole e unread = sym e ∙ columns_at s None unread

pub columns_low : (s : Spot) (whole : Option (List (ℕ × List ℕ))) (column : ℕ) (value : List ℕ) →
    columns_here s ≡ whole → column_here s ≡ Some (column, value) → column ≤ s.last → whole ≡ None
columns_low s whole column value e read low =
    sym e ∙ column_read s (column, value) false read (grind (arith, nat_tests))
