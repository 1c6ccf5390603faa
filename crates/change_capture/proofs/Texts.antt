-- What is spelled is read back.
use Rattle.std.proofs.Common.{◌≡◌, ℕ, zero, suc, ◌+◌, ◌-◌, ◌^◌, ◌<◌, ◌≤◌, List, [], ◌∷◌, ◌++◌, length, take, drop, refl, sym, ap, ◌∙◌}
use Rattle.std.proofs.Common.{append_assoc, arith, subst, length-append}
use Rattle.std.proofs.lemmas.List.{take_at, drop_at, append-nil, at_drop_all}
use Rattle.std.proofs.lemmas.Nat.{from_be_bytes-to_be_bytes_4}
use Rattle.slon_base.specs.Codec.{count_bytes, text_bytes, list_bytes, many_bytes, all_bytes, IsText, AllTexts, AreTexts}
use Rattle.slon_base.proofs.Spelled.{length-count_bytes, text_split}
use Rattle.store_rows.proofs.Reading.{all_snoc, bytes_snoc, length_snoc}
use Rattle.change_capture.specs.Texts.{count_in, texts_from, PassesTexts, AreLeft}

-- the count in front is read
count_read : (n : ℕ) (rest : List ℕ) → n < 2 ^ 32 → count_in (count_bytes n ++ rest) ≡ n
unfolding count_in count_bytes
count_read n rest small = from_be_bytes-to_be_bytes_4 n small

-- what follows it
behind : (n : ℕ) (rest : List ℕ) → drop 4 (count_bytes n ++ rest) ≡ rest
behind n rest = drop_at (count_bytes n) rest 4 (length-count_bytes n)

-- the first text, and what follows it
record First (t rest bytes : List ℕ) : Type 0 where
  text : take (count_in bytes) (drop 4 bytes) ≡ t
  after : drop (count_in bytes) (drop 4 bytes) ≡ rest

first : (t rest : List ℕ) → length t < 2 ^ 32 → First t rest (text_bytes t ++ rest)
first t rest short =
    let split = text_split t rest in
    let count = ap count_in split ∙ count_read (length t) (t ++ rest) short in
    let drops = ap (λ b. drop 4 b) split ∙ behind (length t) (t ++ rest) in
    record {
      text = (λ i. take (count i) (drops i)) ∙ take_at t rest (length t) refl;
      after = (λ i. drop (count i) (drops i)) ∙ drop_at t rest (length t) refl;
    }

-- texts that follow one another are read
pub texts_read : (texts : List (List ℕ)) (rest : List ℕ) → AllTexts texts →
    texts_from (length texts) (all_bytes text_bytes texts ++ rest) ≡ texts
texts_read [] rest all = refl
texts_read (t ∷ ts) rest all =
    let more = all_bytes text_bytes ts ++ rest in
    let split : all_bytes text_bytes (t ∷ ts) ++ rest ≡ text_bytes t ++ more =
    append_assoc (text_bytes t) (all_bytes text_bytes ts) rest in
    let f = first t more all.0.short in
    ap (texts_from (length (t ∷ ts))) split
    ∙ (λ i. f.text i ∷ texts_from (length ts) (f.after i))
    ∙ ap (λ l. t ∷ l) (texts_read ts rest all.1)

-- a list of texts begins with its count
list_split : (texts : List (List ℕ)) (rest : List ℕ) →
    list_bytes texts ++ rest ≡ count_bytes (length texts) ++ (all_bytes text_bytes texts ++ rest)
unfolding many_bytes
list_split texts rest = append_assoc (count_bytes (length texts)) (all_bytes text_bytes texts) rest

pub length_from : (n : ℕ) (bytes : List ℕ) → length (texts_from n bytes) ≡ n
length_from zero bytes = refl
length_from (suc n) bytes =
    omega (arith, length_from n (drop (count_in bytes) (drop 4 bytes)))

-- one more text is passed
pub record PassesOn (n : ℕ) (old new t : List ℕ) : Type 0 where
  pub passes : PassesTexts (n + 1) old new
  pub is : texts_from (n + 1) old ≡ texts_from n old ++ t ∷ []

pub passes_on : (n : ℕ) (old mid new t : List ℕ) → PassesTexts n old mid → IsText t → mid ≡ text_bytes t ++ new →
    PassesOn n old new t
passes_on n old mid new t p can next =
    let ts = texts_from n old in
    let all = all_snoc IsText ts t p.can can in
    let whole : old ≡ all_bytes text_bytes (ts ++ t ∷ []) ++ new =
    p.is ∙ ap (λ r. all_bytes text_bytes ts ++ r) next ∙ sym (bytes_snoc text_bytes ts t new) in
    let len : length (ts ++ t ∷ []) ≡ n + 1 = length_snoc ts t ∙ ap (λ k. k + 1) (length_from n old) in
    let is : texts_from (n + 1) old ≡ ts ++ t ∷ [] =
    (λ i. texts_from (sym len i) (whole i)) ∙ texts_read (ts ++ t ∷ []) new all in
    record {
      passes = record {
        can = subst AllTexts (sym is) all;
        is = whole ∙ ap (λ l. all_bytes text_bytes l ++ new) (sym is);
      };
      is = is;
    }

-- a list of texts at the front, as its count and what follows
pub record Counted (texts : List (List ℕ)) (rest bytes : List ℕ) : Type 0 where
  pub counted : bytes ≡ count_bytes (length texts) ++ (all_bytes text_bytes texts ++ rest)
  pub read : texts_from (length texts) (all_bytes text_bytes texts ++ rest) ≡ texts

pub counted : (texts : List (List ℕ)) (rest bytes : List ℕ) → AreTexts texts → bytes ≡ list_bytes texts ++ rest →
    Counted texts rest bytes
counted texts rest bytes can is =
    record { counted = is ∙ list_split texts rest; read = texts_read texts rest can.each }

-- texts that are left
pub record Rest (n : ℕ) (bytes : List ℕ) (texts : List (List ℕ)) : Type 0 where
  pub are_left : AreLeft n bytes
  pub are : texts_from n bytes ≡ texts

pub left_of : (n : ℕ) (bytes : List ℕ) (texts : List (List ℕ)) → AllTexts texts → n ≡ length texts →
    bytes ≡ all_bytes text_bytes texts → Rest n bytes texts
left_of n bytes texts all count is =
    let whole : bytes ≡ all_bytes text_bytes texts ++ [] = is ∙ sym (append-nil (all_bytes text_bytes texts)) in
    let are : texts_from n bytes ≡ texts =
    (λ i. texts_from (count i) (whole i)) ∙ texts_read texts [] all in
    record {
      are_left = record { can = subst AllTexts (sym are) all; is = is ∙ ap (all_bytes text_bytes) (sym are) };
      are = are;
    }

-- what was passed at the front of a row
pub record Front (whole left bytes : List ℕ) (count : ℕ) : Type 0 where
  pub are_left : AreLeft count bytes
  pub len : length (texts_from count bytes) ≡ count
  pub can : AllTexts (texts_from count bytes)
  pub are : texts_from count bytes ≡ texts_from count whole
  pub is : whole ≡ all_bytes text_bytes (texts_from count bytes) ++ left

pub front_of : (whole left bytes : List ℕ) (count : ℕ) → PassesTexts count whole left →
    bytes ≡ take (length whole - length left) whole → Front whole left bytes count
front_of whole left bytes count p front =
    let ts = texts_from count whole in
    let all = all_bytes text_bytes ts in
    let lens : length all ≡ length whole - length left = omega (arith, ap length p.is, length-append all left) in
    let bytes_are : bytes ≡ all =
    front ∙ ap (take (length whole - length left)) p.is ∙ take_at all left (length whole - length left) lens in
    let rest = left_of count bytes ts p.can (sym (length_from count whole)) bytes_are in
    record {
      are_left = rest.are_left;
      len = length_from count bytes;
      can = subst AllTexts (sym rest.are) p.can;
      are = rest.are;
      is = p.is ∙ ap (λ l. all_bytes text_bytes l ++ left) (sym rest.are);
    }

-- behind the last text all are spelled
pub spelled_to : (row : List ℕ) (texts : List (List ℕ)) (i : ℕ) → length texts ≤ i →
    row ++ all_bytes text_bytes (drop i texts) ≡ all_bytes text_bytes texts → row ≡ all_bytes text_bytes texts
spelled_to row texts i far e =
    sym (append-nil row) ∙ sym (at_drop_all (λ l. row ++ all_bytes text_bytes l) texts i far) ∙ e

-- the first of the texts that are left
pub record NextText (n : ℕ) (bytes : List ℕ) : Type 0 where
  pub text : List ℕ
  pub more : List (List ℕ)
  pub can : IsText text
  pub cans : AllTexts more
  pub count : n ≡ length more + 1
  pub are : texts_from n bytes ≡ text ∷ more
  pub row_is : bytes ≡ text_bytes text ++ all_bytes text_bytes more

pub next_text : (n : ℕ) (bytes : List ℕ) → 1 ≤ n → AreLeft n bytes → NextText n bytes
next_text zero bytes some a = absurd (omega arith)
next_text (suc n) bytes some a = record {
  text = take (count_in bytes) (drop 4 bytes);
  more = texts_from n (drop (count_in bytes) (drop 4 bytes));
  can = a.can.0;
  cans = a.can.1;
  count = omega (arith, length_from n (drop (count_in bytes) (drop 4 bytes)));
  are = refl;
  row_is = a.is;
}

pub some_left : (n : ℕ) → (n ≡ 0 → ⊥) → 1 ≤ n
some_left zero none = absurd (none refl)
some_left (suc n) none = omega arith
