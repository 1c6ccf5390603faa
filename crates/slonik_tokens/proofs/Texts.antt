-- The test of UTF-8.
use Rattle.std.proofs.Common.{◌≡◌, ℕ, Bool, true, false, List, Option, Some, None, MatchOption, refl, sym, ap}
use Rattle.std.proofs.lemmas.Str.{IsUtf8-from_is_utf8, is_utf8-from_IsUtf8}
use Rattle.std.specs.Str.{IsUtf8, is_utf8}
use Rattle.slonik_tokens.specs.Cut.{text_in}

no_text_by : (bytes : List ℕ) (b : Bool) → is_utf8 bytes ≡ b → (IsUtf8 bytes → ⊥) → false ≡ b
no_text_by bytes true e h = absurd (h (IsUtf8-from_is_utf8 bytes e))
no_text_by bytes false e h = refl

pub no_text : (bytes : List ℕ) → (IsUtf8 bytes → ⊥) → false ≡ is_utf8 bytes
no_text bytes h = no_text_by bytes (is_utf8 bytes) refl h

pub is_text : (bytes : List ℕ) → IsUtf8 bytes → true ≡ is_utf8 bytes
is_text bytes h = sym (is_utf8-from_IsUtf8 bytes h)

-- what was found is the text of the bytes
pub text_found : (bytes : List ℕ) (found : Option (List ℕ))
    → MatchOption found (IsUtf8 bytes → ⊥) (λ text. (text ≡ bytes) × IsUtf8 bytes) → found ≡ text_in bytes
unfolding text_in
text_found bytes None h = rw (← no_text bytes h)
text_found bytes (Some text) h = rw (← is_text bytes h.1) (ap Some h.0)
