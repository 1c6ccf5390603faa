-- Texts whose bytes pass a test.
use Rattle.std.proofs.Common.{◌≡◌, ℕ, ◌<◌, Bool, true, List, [], ◌∷◌}
use Rattle.std.proofs.lemmas.Bool.{and_parts}
use Rattle.std.proofs.lemmas.Str.Ascii.{IsAscii-nil, IsAscii-cons}
use Rattle.std.specs.List.{list_all}
use Rattle.std.specs.Str.{IsAscii}

-- where every byte that passes is below 128, the text is of such bytes
pub ascii_all : (p : ℕ → Bool) → ((c : ℕ) → p c ≡ true → c < 128) → (text : List ℕ) → list_all p text ≡ true →
    IsAscii text
ascii_all p small [] e = IsAscii-nil
ascii_all p small (c ∷ cs) e =
    let h = and_parts (p c) (list_all p cs) e in
    IsAscii-cons c cs (small c h.0) (ascii_all p small cs h.1)
