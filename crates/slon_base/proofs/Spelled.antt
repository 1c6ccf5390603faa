-- No spelling begins another, so what is spelled is read back, whatever follows it.
use Rattle.std.proofs.Common.{◌≡◌, ℕ, ◌+◌, ◌^◌, ◌<◌, ◌≤◌, List, ◌++◌, length, get_or, take, drop, refl, sym, ap, ◌∙◌}
use Rattle.std.proofs.Common.{append_assoc, arith, inl, inr}
use Rattle.std.specs.Int.{w32, w64, from_be_bytes}
use Rattle.std.proofs.lemmas.Bool.{cases_lt}
use Rattle.std.proofs.lemmas.List.{take_at, drop_at, take-append-drop, length-append, length-take, get_or-take}
use Rattle.std.proofs.lemmas.List.{get_or_past}
use Rattle.std.proofs.lemmas.Nat.{be_bytes_4, be_bytes_8, from_be_bytes-to_be_bytes_4, from_be_bytes-to_be_bytes_8}
use Rattle.slon_base.specs.Codec.{number_bytes, count_bytes, text_bytes, IsShortText}

abbrev pub IsBytes : List ℕ → Type 0
IsBytes bytes = (i : ℕ) → get_or bytes i 0 < 256

IsBytes-take : (n : ℕ) (bytes : List ℕ) → IsBytes bytes → IsBytes (take n bytes)
IsBytes-take n bytes h i =
    elim (cases_lt i n) [
      | inl lt ↦ rw (get_or-take n bytes i 0 lt) (h i)
      | inr le ↦ rw (get_or_past (take n bytes) i 0 (omega (arith, length-take n bytes))) (omega arith)
    ]

-- two fronts of one length
pub same_front : (a b x y : List ℕ) → length a ≡ length b → a ++ x ≡ b ++ y → (a ≡ b) × (x ≡ y)
same_front a b x y len e = (
  sym (take_at a x (length a) refl) ∙ ap (take (length a)) e ∙ take_at b y (length a) (sym len),
  sym (drop_at a x (length a) refl) ∙ ap (drop (length a)) e ∙ drop_at b y (length a) (sym len),
)

pub length-number_bytes : (n : ℕ) → length (number_bytes n) ≡ 8
unfolding number_bytes
length-number_bytes n = refl

pub length-count_bytes : (n : ℕ) → length (count_bytes n) ≡ 4
unfolding count_bytes
length-count_bytes n = refl

pub number_bytes-same : (m n : ℕ) → m < 2 ^ 64 → n < 2 ^ 64 → number_bytes m ≡ number_bytes n → m ≡ n
unfolding number_bytes
number_bytes-same m n a b e = sym (from_be_bytes-to_be_bytes_8 m a) ∙ ap (from_be_bytes w64) e
    ∙ from_be_bytes-to_be_bytes_8 n b

pub count_bytes-same : (m n : ℕ) → m < 2 ^ 32 → n < 2 ^ 32 → count_bytes m ≡ count_bytes n → m ≡ n
unfolding count_bytes
count_bytes-same m n a b e = sym (from_be_bytes-to_be_bytes_4 m a) ∙ ap (from_be_bytes w32) e
    ∙ from_be_bytes-to_be_bytes_4 n b

pub number_front : (m n : ℕ) (x y : List ℕ) → m < 2 ^ 64 → n < 2 ^ 64 → number_bytes m ++ x ≡ number_bytes n ++ y →
    (m ≡ n) × (x ≡ y)
number_front m n x y a b e =
    let parts = same_front (number_bytes m) (number_bytes n) x y (length-number_bytes m
    ∙ sym (length-number_bytes n)) e in
    (number_bytes-same m n a b parts.0, parts.1)

pub count_front : (m n : ℕ) (x y : List ℕ) → m < 2 ^ 32 → n < 2 ^ 32 → count_bytes m ++ x ≡ count_bytes n ++ y → (m ≡ n)
    × (x ≡ y)
count_front m n x y a b e =
    let parts = same_front (count_bytes m) (count_bytes n) x y (length-count_bytes m ∙ sym (length-count_bytes n)) e in
    (count_bytes-same m n a b parts.0, parts.1)

pub text_split : (t x : List ℕ) → text_bytes t ++ x ≡ count_bytes (length t) ++ (t ++ x)
unfolding text_bytes
text_split t x = append_assoc (count_bytes (length t)) t x

pub text_front : (a b x y : List ℕ) → length a < 2 ^ 32 → length b < 2 ^ 32 → text_bytes a ++ x ≡ text_bytes b ++ y →
    (a ≡ b) × (x ≡ y)
text_front a b x y short_a short_b e =
    let parts = count_front (length a) (length b) (a ++ x) (b ++ y) short_a short_b (sym (text_split a x) ∙ e
    ∙ text_split b y) in
    same_front a b x y parts.0 parts.1

pub length-text_bytes : (t : List ℕ) → length (text_bytes t) ≡ 4 + length t
unfolding text_bytes
length-text_bytes t = length-append (count_bytes (length t)) t ∙ ap (λ n. n + length t) (length-count_bytes (length t))

-- a list by its front
front_is : (k : ℕ) (bytes front : List ℕ) → take k bytes ≡ front → bytes ≡ front ++ drop k bytes
front_is k bytes front e = sym (take-append-drop k bytes) ∙ ap (λ l. l ++ drop k bytes) e

-- what eight bytes at the front spell
pub number_at-is : (bytes : List ℕ) (n : ℕ) → IsBytes bytes → 8 ≤ length bytes → n ≡ from_be_bytes w64 (take 8 bytes) →
    bytes ≡ number_bytes n ++ drop 8 bytes
unfolding number_bytes
number_at-is bytes n fits long is =
    let eight = be_bytes_8 (take 8 bytes) n (omega (arith, length-take 8 bytes)) (IsBytes-take 8 bytes fits) is in
    front_is 8 bytes (number_bytes n) (sym eight)

-- what four bytes at the front spell
pub count_at-is : (bytes : List ℕ) (n : ℕ) → IsBytes bytes → 4 ≤ length bytes → n ≡ from_be_bytes w32 (take 4 bytes) →
    bytes ≡ count_bytes n ++ drop 4 bytes
unfolding count_bytes
count_at-is bytes n fits long is =
    front_is 4 bytes (count_bytes n)
    (sym (be_bytes_4 (take 4 bytes) n (omega (arith, length-take 4 bytes)) (IsBytes-take 4 bytes fits) is))

-- a text begins with its count
pub text_of_count : (bytes after : List ℕ) (n : ℕ) → bytes ≡ count_bytes n ++ after → n ≤ length after →
    bytes ≡ text_bytes (take n after) ++ drop n after
unfolding text_bytes
text_of_count bytes after n is long =
    let len : length (take n after) ≡ n = omega (arith, length-take n after) in
    is ∙ ap (λ rest. count_bytes n ++ rest) (sym (take-append-drop n after))
    ∙ sym (append_assoc (count_bytes n) (take n after) (drop n after))
    ∙ ap (λ k. (count_bytes k ++ take n after) ++ drop n after) (sym len)

-- a whole text is not short
pub text_not_short : (t rest bytes : List ℕ) → length t < 2 ^ 32 → bytes ≡ text_bytes t ++ rest → IsShortText bytes → ⊥
text_not_short t rest bytes short is (inl few) =
    let len : length bytes ≡ length (text_bytes t) + length rest = ap length is ∙ length-append (text_bytes t) rest in
    omega (arith, len, length-text_bytes t)
text_not_short t rest bytes short is (inr (n, after, small, counted, few)) =
    let parts = count_front n (length t) after (t ++ rest) small short (sym counted ∙ is ∙ text_split t rest) in
    omega (arith, parts.0, ap length parts.1, length-append t rest)

pub number_not_short : (n : ℕ) (rest bytes : List ℕ) → bytes ≡ number_bytes n ++ rest → length bytes < 8 → ⊥
number_not_short n rest bytes is few = omega (
  arith,
  ap length is,
  length-append (number_bytes n) rest,
  length-number_bytes n,
)

pub count_not_short : (n : ℕ) (rest bytes : List ℕ) → bytes ≡ count_bytes n ++ rest → length bytes < 4 → ⊥
count_not_short n rest bytes is few = omega (
  arith,
  ap length is,
  length-append (count_bytes n) rest,
  length-count_bytes n,
)

pub text_bytes-same : (a b : List ℕ) → text_bytes a ≡ text_bytes b → a ≡ b
unfolding text_bytes
text_bytes-same a b e = (same_front (count_bytes (length a)) (count_bytes (length b)) a b (length-count_bytes (length a)
    ∙ sym (length-count_bytes (length b))) e).1
