-- The two parts of a table's name.
use Rattle.std.proofs.Common.{◌≡◌, ℕ, zero, suc, ◌<◌, eqb, not, true, List, [], ◌∷◌, ◌++◌, length, get_or, refl}
use Rattle.std.proofs.Common.{sym, ap, ◌∙◌, arith}
use Rattle.std.proofs.lemmas.Bool.{and_parts, and_from}
use Rattle.std.proofs.lemmas.Bool.Decides.{nat_tests}
use Rattle.slon_lemmas.proofs.Splitting.{lacks, lacks_by, split_first, split_last}
use Rattle.slon_model.proofs.WordBytes.{part_bytes, TwoParts, two_parts}
use Rattle.slon_model.specs.Forms.{is_part_byte, is_part}
use Rattle.slon_model.specs.Spoken.{IsTableName}
use Rattle.change_capture.specs.Capture.{first_part, second_part, parts_of, names_of}
use Rattle.change_capture.specs.Reading.{HasNames}

-- no byte of a part is the dot
part_lacks : (part : List ℕ) → is_part part ≡ true → lacks 46 part ≡ true
part_lacks part e = lacks_by is_part_byte 46 part refl (part_bytes part e)

lacks_at : (byte : ℕ) (text : List ℕ) → lacks byte text ≡ true → (i : ℕ) → i < length text → get_or text i 0 ≡ byte → ⊥
lacks_at byte [] e i within same = absurd (omega arith)
lacks_at byte (c ∷ cs) e zero within same =
    let h = (and_parts (not (eqb c byte)) (lacks byte cs) e).0 in
    grind (arith, nat_tests, h)
lacks_at byte (c ∷ cs) e (suc i) within same =
    lacks_at byte cs (and_parts (not (eqb c byte)) (lacks byte cs) e).1 i (omega (arith, within)) same

pub no_dot : (part : List ℕ) → is_part part ≡ true → (i : ℕ) → i < length part → get_or part i 0 ≡ 46 → ⊥
no_dot part e = lacks_at 46 part (part_lacks part e)

-- two parts around a dot
pub parts_joined : (a b : List ℕ) → is_part a ≡ true → is_part b ≡ true → parts_of (a ++ 46 ∷ b) ≡ a ∷ b ∷ []
parts_joined a b e f = split_first 46 a b (part_lacks a e) ∙ ap (λ l. a ∷ l) (split_last 46 b (part_lacks b f))

-- the parts of a table's name
pub parts_are : (table : List ℕ) (t : TwoParts table) → parts_of table ≡ t.front ∷ t.back ∷ []
parts_are table t = ap parts_of (sym t.joined) ∙ parts_joined t.front t.back t.is_front t.is_back

-- parts that are joined are a table's name
pub joined_is_name : (a b : List ℕ) → is_part a ≡ true → is_part b ≡ true → IsTableName (a ++ 46 ∷ b)
joined_is_name a b e f = rw (parts_joined a b e f) (and_from (is_part a) (is_part b) e f)

-- a table's name by its parts
whole_name : (table : List ℕ) → IsTableName table →
    first_part (parts_of table) ++ 46 ∷ second_part (parts_of table) ≡ table
whole_name table e =
    let t = two_parts table e in
    ap (λ l. first_part l ++ 46 ∷ second_part l) (parts_are table t) ∙ t.joined

-- tables of the same parts
pub table_same : (a b : List ℕ) → IsTableName a → IsTableName b → names_of a ≡ names_of b → a ≡ b
table_same a b f g same =
    let front : first_part (parts_of a) ≡ first_part (parts_of b) = cc in
    let back : second_part (parts_of a) ≡ second_part (parts_of b) = cc in
    sym (whole_name a f) ∙ (λ i. front i ++ 46 ∷ back i) ∙ whole_name b g

-- the name of two parts
pub has_names : (front back : List ℕ) → is_part front ≡ true → is_part back ≡ true →
    HasNames (front ∷ back ∷ []) (front ++ 46 ∷ back)
has_names front back e f = record {
  is_name = joined_is_name front back e f;
  parts = λ i. first_part (sym (parts_joined front back e f) i)
      ∷ second_part (sym (parts_joined front back e f) i) ∷ [];
}
