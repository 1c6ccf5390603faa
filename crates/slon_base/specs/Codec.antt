-- How the parts of a row are spelled: numbers with the greatest byte first, and texts and lists behind their lengths.
use Rattle.std.specs.Prelude.{ℕ, ◌≡◌, ◌≤◌, ◌<◌, ◌^◌, ◌⊎◌, List, [], ◌∷◌, ◌++◌, length, Result, Ok, Err}
use Rattle.std.specs.Int.{w32, w64, to_be_bytes}
use Rattle.std.specs.Str.{IsUtf8}
use Rattle.slon_base.specs.declared.fault.RowFault.{RowFault}
use Rattle.slon_base.specs.declared.fault.RowFault.TheVariants.{Short, Trailing, NotCanonical, NoMemory}

-- a number: eight bytes
unfoldable pub number_bytes : ℕ → List ℕ
number_bytes n = to_be_bytes w64 n

-- a length or a count: four bytes
unfoldable pub count_bytes : ℕ → List ℕ
count_bytes n = to_be_bytes w32 n

-- a text: its length, and its bytes
unfoldable pub text_bytes : List ℕ → List ℕ
text_bytes text = count_bytes (length text) ++ text

-- values, one behind the other
abbrev pub all_bytes : {X : Type 0} → (X → List ℕ) → List X → List ℕ
all_bytes bytes [] = []
all_bytes bytes (x ∷ xs) = bytes x ++ all_bytes bytes xs

-- a list: the count of its values, and the values
unfoldable pub many_bytes : {X : Type 0} → (X → List ℕ) → List X → List ℕ
many_bytes bytes xs = count_bytes (length xs) ++ all_bytes bytes xs

-- a list of texts
abbrev pub list_bytes : List (List ℕ) → List ℕ
list_bytes = many_bytes text_bytes

-- each value of a list can be spelled
abbrev pub AllAre : {X : Type 0} → (X → Type 0) → List X → Type 0
AllAre Can [] = Unit {0}
AllAre Can (x ∷ xs) = Can x × AllAre Can xs

-- a list that can be spelled
pub record AreMany {X : Type 0} (Can : X → Type 0) (xs : List X) : Type 0 where
  pub few : length xs < 2 ^ 32
  pub each : AllAre Can xs

-- a text that can be spelled
pub record IsText (text : List ℕ) : Type 0 where
  pub short : length text < 2 ^ 32
  pub utf8 : IsUtf8 text

abbrev pub AllTexts : List (List ℕ) → Type 0
AllTexts = AllAre IsText

-- a list of texts that can be spelled
abbrev pub AreTexts : List (List ℕ) → Type 0
AreTexts = AreMany IsText

-- a text is in front
pub record HasText (bytes : List ℕ) : Type 0 where
  pub text : List ℕ
  pub rest : List ℕ
  pub can : IsText text
  pub is : bytes ≡ text_bytes text ++ rest

-- why a byte is not read
abbrev pub IsNoByte : List ℕ → RowFault → Type 0
IsNoByte bytes Short = bytes ≡ []
IsNoByte bytes Trailing = ⊥
IsNoByte bytes NotCanonical = ⊥
IsNoByte bytes NoMemory = ⊥

-- why a number is not read: fewer than eight bytes, or a number above the limit
abbrev pub IsNoNumber : List ℕ → RowFault → Type 0
IsNoNumber bytes Short = length bytes < 8
IsNoNumber bytes Trailing = ⊥
IsNoNumber bytes NotCanonical = (n : ℕ) × (rest : List ℕ) × (2 ^ 63 ≤ n) × (n < 2 ^ 64)
    × (bytes ≡ number_bytes n ++ rest)
IsNoNumber bytes NoMemory = ⊥

-- why a count is not read
abbrev pub IsNoCount : List ℕ → RowFault → Type 0
IsNoCount bytes Short = length bytes < 4
IsNoCount bytes Trailing = ⊥
IsNoCount bytes NotCanonical = ⊥
IsNoCount bytes NoMemory = ⊥

-- the length of a text or its bytes are not all there
abbrev pub IsShortText : List ℕ → Type 0
IsShortText bytes = (length bytes < 4) ⊎ ((n : ℕ) × (rest : List ℕ) × (n < 2 ^ 32) × (bytes ≡ count_bytes n ++ rest)
    × (length rest < n))

-- why a text is not read: its length or its bytes are not all there, or it is not UTF-8
abbrev pub IsNoText : List ℕ → RowFault → Type 0
IsNoText bytes Short = IsShortText bytes
IsNoText bytes Trailing = ⊥
IsNoText bytes NotCanonical = (text rest : List ℕ) × (length text < 2 ^ 32) × (bytes ≡ text_bytes text ++ rest)
    × ¬ (IsUtf8 text)
IsNoText bytes NoMemory = Unit {0}

-- why a text is not read where it is: the same, as this takes no memory
abbrev pub IsNoStr : List ℕ → RowFault → Type 0
IsNoStr bytes NoMemory = ⊥
IsNoStr bytes fault = IsNoText bytes fault

-- the text was read and the rest is left, or there was no memory for it
abbrev pub MatchRead : Result (List ℕ) RowFault → List ℕ → List ℕ → List ℕ → Type 0
MatchRead (Ok found) text rest left = (found ≡ text) × (left ≡ rest)
MatchRead (Err fault) text rest left = fault ≡ NoMemory
