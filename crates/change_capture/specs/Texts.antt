-- A list of texts, read from the bytes that it is spelled with.
use Rattle.std.specs.Prelude.{ℕ, zero, suc, ◌≡◌, List, [], ◌∷◌, ◌++◌, take, drop}
use Rattle.std.specs.Int.{w32, from_be_bytes}
use Rattle.slon_base.specs.Codec.{text_bytes, all_bytes, AllTexts}

-- the count that bytes begin with
unfoldable pub count_in : List ℕ → ℕ
count_in bytes = from_be_bytes w32 (take 4 bytes)

-- the first of the texts that follow one another
abbrev pub texts_from : ℕ → List ℕ → List (List ℕ)
texts_from zero bytes = []
texts_from (suc n) bytes =
    take (count_in bytes) (drop 4 bytes) ∷ texts_from n (drop (count_in bytes) (drop 4 bytes))

-- this many texts are in front of what is left
pub record PassesTexts (n : ℕ) (bytes left : List ℕ) : Type 0 where
  pub can : AllTexts (texts_from n bytes)
  pub is : bytes ≡ all_bytes text_bytes (texts_from n bytes) ++ left

-- the bytes are those of this many texts
pub record AreLeft (n : ℕ) (bytes : List ℕ) : Type 0 where
  pub can : AllTexts (texts_from n bytes)
  pub is : bytes ≡ all_bytes text_bytes (texts_from n bytes)
