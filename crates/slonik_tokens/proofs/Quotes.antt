-- Strings: what is read of them, and how they are spelled.
use Rattle.std.proofs.Common.{◌≡◌, ◌∙◌, sym, ℕ, ◌+◌, ◌<◌, add-one, drop, drop-cons, get_or, length-append, eqb, cond}
use Rattle.std.proofs.Common.{Bool, true}
use Rattle.std.proofs.Common.{false, List, [], ◌∷◌, ◌++◌, length, Option, Some, None, refl, ap, append_assoc, arith}
use Rattle.std.proofs.lemmas.Bool.Decides.{nat_tests}
use Rattle.std.specs.Option.{option_map}
use Rattle.slonik_tokens.specs.declared.token.Token.TheVariants.{Quoted}
use Rattle.slonik_tokens.specs.Spelling.{doubled, spelling}
use Rattle.slonik_tokens.specs.Cut.{behind, unquoted, text_in, quoted_at, sized}

pub behind_both : (a b : List ℕ) (found : Option (List ℕ)) → behind (a ++ b) found ≡ behind a (behind b found)
behind_both a b None = refl
behind_both a b (Some text) = ap Some (append_assoc a b text)

doubled_by : (quote : Bool) (c : ℕ) (a b : List ℕ)
    → cond quote (39 ∷ 39 ∷ a ++ b) (c ∷ a ++ b) ≡ cond quote (39 ∷ 39 ∷ a) (c ∷ a) ++ b
doubled_by true c a b = refl
doubled_by false c a b = refl

pub doubled_both : (a b : List ℕ) → doubled (a ++ b) ≡ doubled a ++ doubled b
doubled_both [] b = refl
doubled_both (c ∷ cs) b = rw (doubled_both cs b) (doubled_by (eqb c 39) c (doubled cs) (doubled b))

-- a string whose text is UTF-8
pub quoted_found : (bytes text : List ℕ) → unquoted bytes false ≡ Some text → quoted_at bytes ≡ text_in text
unfolding quoted_at
quoted_found bytes text e = rw e

pub no_quoted : (bytes : List ℕ) → unquoted bytes false ≡ None → quoted_at bytes ≡ None
unfolding quoted_at
no_quoted bytes e = rw e

pub quoted_same : (text items : List ℕ) → Some text ≡ text_in items → text ≡ items
unfolding text_in
quoted_same text items e = grind arith

-- a whole string, with the length of it with both quotes
pub quoted_is : (bytes text items : List ℕ) (len : ℕ) →
    (unquoted bytes false ≡ Some items) × (len ≡ length (doubled items ++ 39 ∷ [])) → Some text ≡ text_in items →
    Some (Quoted text, len + 1) ≡ sized (option_map Quoted (quoted_at bytes))
quoted_is bytes text items len (found, size) same =
    let is : quoted_at bytes ≡ Some text = quoted_found bytes items found ∙ sym same in
    let length_is : len ≡ length (doubled text ++ 39 ∷ []) =
    size ∙ ap (λ t. length (doubled t ++ 39 ∷ [])) (sym (quoted_same text items same)) in
    let all : len + 1 ≡ length (spelling (Quoted text)) = omega (arith, length_is) in
    ap (λ n. Some (Quoted text, n)) all ∙ sym (ap (λ o. sized (option_map Quoted o)) is)

-- its text is no UTF-8
pub quoted_none : (bytes items : List ℕ) → unquoted bytes false ≡ Some items → None ≡ text_in items →
    None ≡ sized (option_map Quoted (quoted_at bytes))
quoted_none bytes items found none =
    sym (ap (λ o. sized (option_map Quoted o)) (quoted_found bytes items found ∙ sym none))

-- what is read of a string: its text so far, whether a quote stands before, and how many bytes these are
pub record Reads (bytes text : List ℕ) (after : Bool) (len index : ℕ) : Type 0 where
  pub found : behind text (unquoted (drop index bytes) after) ≡ unquoted bytes false
  pub read : length (doubled text) + cond after 1 0 ≡ len
  pub place : len ≡ index

kept : (text rest : List ℕ) (c : ℕ) (after : Bool) (whole : Option (List ℕ)) → (c ≡ 10 → ⊥) → eqb c 39 ≡ after
    → behind text (unquoted (c ∷ rest) after) ≡ whole → behind (text ++ c ∷ []) (unquoted rest false) ≡ whole
kept text rest c true whole line quote e = grind (arith, nat_tests, behind_both)
kept text rest c false whole line quote e = grind (arith, nat_tests, behind_both)

opened : (text rest : List ℕ) (c : ℕ) (whole : Option (List ℕ)) → c ≡ 39
    → behind text (unquoted (c ∷ rest) false) ≡ whole → behind text (unquoted rest true) ≡ whole
opened text rest c whole quote e = grind (arith, nat_tests)

grown : (text : List ℕ) (c : ℕ) (after : Bool) → eqb c 39 ≡ after
    → length (doubled (text ++ c ∷ [])) ≡ length (doubled text) + cond after 1 0 + 1
grown text c true quote = rw (doubled_both text (c ∷ []), length-append, quote) (omega arith)
grown text c false quote = rw (doubled_both text (c ∷ []), length-append, quote) (omega arith)

-- a byte of the text comes: no end of a line, and a quote just behind a quote
pub keeps : (bytes text : List ℕ) (len i : ℕ) (after : Bool) → i < length bytes × (get_or bytes i 0 ≡ 10 → ⊥) →
    eqb (get_or bytes i 0) 39 ≡ after → Reads bytes text after len i →
    Reads bytes (text ++ get_or bytes i 0 ∷ []) false (len + 1) (i + 1)
keeps bytes text len i after inside quote r =
    let next : drop i bytes ≡ get_or bytes i 0 ∷ drop (i + 1) bytes = rw add-one (drop-cons bytes i 0 inside.0) in
    record {
      found = kept text (drop (i + 1) bytes) (get_or bytes i 0) after _ inside.1 quote (rw next at r.found);
      read = omega (arith, grown text (get_or bytes i 0) after quote, r.read);
      place = omega (arith, r.place);
    }

-- a quote comes that is not behind a quote
pub opens : (bytes text : List ℕ) (len i : ℕ) → i < length bytes → get_or bytes i 0 ≡ 39 →
    Reads bytes text false len i →
    Reads bytes text true (len + 1) (i + 1)
opens bytes text len i inside quote r =
    let next : drop i bytes ≡ get_or bytes i 0 ∷ drop (i + 1) bytes = rw add-one (drop-cons bytes i 0 inside) in
    record {
      found = opened text (drop (i + 1) bytes) (get_or bytes i 0) _ quote (rw next at r.found);
      read = omega (arith, r.read);
      place = omega (arith, r.place);
    }
