-- A piece that may stand at the front is taken from there.
use Rattle.std.proofs.Common.{◌≡◌, ℕ, suc, ◌+◌, ◌<◌, eqb, cond, not, ◌&&◌, ◌||◌, Bool, true, false, List, [], ◌∷◌, ◌++◌}
use Rattle.std.proofs.Common.{length, Some, None, refl, sym, ap, ◌∙◌, append_assoc, arith}
use Rattle.std.proofs.lemmas.Bool.{and_parts}
use Rattle.std.proofs.lemmas.Bool.Decides.{nat_tests}
use Rattle.std.proofs.lemmas.Str.{IsUtf8-from_ascii, is_utf8-from_IsUtf8}
use Rattle.std.proofs.lemmas.Str.Ascii.{IsAscii-cons}
use borrow.Author.Tests.{eqb-true}
use Rattle.std.specs.Char.{is_ascii_digit}
use Rattle.std.specs.List.{list_all, prefix_len, take_while}
use Rattle.std.specs.Option.{option_map}
use Rattle.std.specs.Str.{IsUtf8, is_utf8}
use Rattle.slon_lemmas.proofs.Texts.{ascii_all}
use Rattle.slonik_tokens.specs.Spelling.{is_separator, is_word_start, is_word_byte, is_quote, is_line_byte}
use Rattle.slonik_tokens.specs.Spelling.{is_path_byte, is_identifier, are_digits, doubled, spelling, HasForm, Stops}
use Rattle.slonik_tokens.specs.Spelling.{Ends, is_allowed, Separator, Comment, Lexeme, Stands}
use Rattle.slonik_tokens.specs.Cut.{text_in, blank_len, identifier_at, number_at, behind, unquoted, text_of, quoted_at}
use Rattle.slonik_tokens.specs.Cut.{begins, path_at, sign_of, token_at}
use Rattle.slonik_tokens.specs.declared.token.Sign.TheVariants.{Semicolon}
use Rattle.slonik_tokens.specs.declared.token.Token.{Token}
use Rattle.slonik_tokens.specs.declared.token.Token.TheVariants.{Word, Number, Quoted, Mark, NameUse, Path}
use Rattle.slonik_tokens.proofs.Runs.{run_again, front_again, rest_again}
use Rattle.slonik_tokens.proofs.Sound.{front_word}

text_again : (text : List ℕ) → IsUtf8 text → text_in text ≡ Some text
unfolding text_in
text_again text h = rw (is_utf8-from_IsUtf8 text h)

identifier_again : (name more : List ℕ) → is_identifier name ≡ true → Stops is_word_byte more
    → identifier_at (name ++ more) ≡ Some name
unfolding identifier_at
identifier_again [] more form stops = cc
identifier_again (c ∷ cs) more form stops =
    let h = and_parts (is_word_start c) (list_all is_word_byte cs) form in
    let start : c < 128 = grind (arith, nat_tests, h.0) in
    let good = IsUtf8-from_ascii (c ∷ cs)
    (IsAscii-cons c cs start (ascii_all is_word_byte (λ c e. grind (arith, nat_tests)) cs h.1)) in
    ap (λ b. cond b (text_in (take_while is_word_byte (c ∷ cs ++ more))) None) h.0
    ∙ ap text_in (front_word c (cs ++ more) h.0 ∙ ap (λ l. c ∷ l) (front_again is_word_byte cs more h.1 stops))
    ∙ text_again (c ∷ cs) good

-- the digits of a number, and what its first byte is
record Digits (c : ℕ) (cs : List ℕ) : Type 0 where
  each : list_all is_ascii_digit cs ≡ true
  some : (eqb c 45 && eqb (length cs) 0) ≡ false
  first : (eqb c 45 || is_ascii_digit c) ≡ true

minus_digits : (c : ℕ) (cs : List ℕ) → eqb c 45 ≡ true → are_digits cs ≡ true → Digits c cs
minus_digits c [] minus e = cc
minus_digits c (d ∷ ds) minus e = record { each = e; some = rw minus (grind (arith, nat_tests)); first = rw minus }

digits_by : (c : ℕ) (cs : List ℕ) (minus : Bool) → eqb c 45 ≡ minus
    → cond minus (are_digits cs) (are_digits (c ∷ cs)) ≡ true → Digits c cs
digits_by c cs true minus e = minus_digits c cs minus e
digits_by c cs false minus e =
    let h = and_parts (is_ascii_digit c) (list_all is_ascii_digit cs) e in
    record { each = h.1; some = rw minus; first = rw minus h.0 }

number_again : (c : ℕ) (cs more : List ℕ) → Digits c cs → Stops is_ascii_digit more
    → number_at (c ∷ cs ++ more) ≡ Some (c ∷ cs)
unfolding number_at
number_again c cs more d stops =
    let first : c < 128 = grind (arith, nat_tests, d.first) in
    let good = IsUtf8-from_ascii (c ∷ cs)
    (IsAscii-cons c cs first (ascii_all is_ascii_digit (λ c e. grind (arith, nat_tests)) cs d.each)) in
    let guard = ap (λ n. eqb c 45 && eqb n 0) (run_again is_ascii_digit cs more d.each stops) ∙ d.some in
    ap (λ b. cond b None (text_in (c ∷ take_while is_ascii_digit (cs ++ more)))) guard
    ∙ ap (λ l. text_in (c ∷ l)) (front_again is_ascii_digit cs more d.each stops) ∙ text_again (c ∷ cs) good

closed : (more : List ℕ) → Stops is_quote more → unquoted more true ≡ Some []
closed [] h = refl
closed (c ∷ cs) h = rw h

unquoted_by : (c : ℕ) (cs more : List ℕ) (quote : Bool) → eqb c 39 ≡ quote → not (eqb c 10) ≡ true
    → unquoted (doubled cs ++ 39 ∷ more) false ≡ Some cs
    → unquoted (cond quote (39 ∷ 39 ∷ doubled cs) (c ∷ doubled cs) ++ 39 ∷ more) false ≡ Some (c ∷ cs)
unquoted_by c cs more true quote line e = ap (behind (39 ∷ [])) e ∙ ap (λ d. Some (d ∷ cs)) (sym (eqb-true c 39 quote))
unquoted_by c cs more false quote line e = let k : eqb c 10 ≡ false = grind (arith, nat_tests) in rw (quote, k, e)

unquoted_again : (text more : List ℕ) → list_all is_line_byte text ≡ true → Stops is_quote more
    → unquoted (doubled text ++ 39 ∷ more) false ≡ Some text
unquoted_again [] more e h = closed more h
unquoted_again (c ∷ cs) more e h =
    let k = and_parts (is_line_byte c) (list_all is_line_byte cs) e in
    unquoted_by c cs more (eqb c 39) refl k.0 (unquoted_again cs more k.1 h)

quoted_again : (text more : List ℕ) → IsUtf8 text → list_all is_line_byte text ≡ true → Stops is_quote more
    → quoted_at ((doubled text ++ 39 ∷ []) ++ more) ≡ Some text
unfolding quoted_at
quoted_again text more good line stops =
    ap (λ l. text_of (unquoted l false)) (append_assoc (doubled text) (39 ∷ []) more)
    ∙ ap text_of (unquoted_again text more line stops) ∙ text_again text good

path_again : (text more : List ℕ) → IsUtf8 text → list_all is_path_byte text ≡ true
    → path_at ((text ++ 62 ∷ []) ++ more) ≡ Some text
unfolding path_at
path_again text more good each =
    rw (append_assoc text (62 ∷ []) more)
    (ap (λ l. cond (begins 62 l) (text_in (take_while is_path_byte (text ++ 62 ∷ more))) None)
    (rest_again is_path_byte text (62 ∷ more) each refl)
    ∙ ap text_in (front_again is_path_byte text (62 ∷ more) each refl) ∙ text_again text good)

-- what a first byte is not
record FirstOfWord (c : ℕ) : Type 0 where
  quote : eqb c 39 ≡ false
  at : eqb c 64 ≡ false
  path : eqb c 60 ≡ false
  separator : is_separator c ≡ false
  comment : eqb c 35 ≡ false

first_of : (c : ℕ) → (is_word_start c || (eqb c 45 || is_ascii_digit c)) ≡ true → FirstOfWord c
first_of c e =
    record {
      quote = grind (arith, nat_tests);
      at = grind (arith, nat_tests);
      path = grind (arith, nat_tests);
      separator = grind (arith, nat_tests);
      comment = grind (arith, nat_tests);
    }

first_of_word : (c : ℕ) → is_word_start c ≡ true → FirstOfWord c
first_of_word c e = first_of c (ap (λ b. b || (eqb c 45 || is_ascii_digit c)) e)

first_of_number : (c : ℕ) → (eqb c 45 || is_ascii_digit c) ≡ true → FirstOfWord c × (is_word_start c ≡ false)
first_of_number c e =
    let none : is_word_start c ≡ false = grind (arith, nat_tests) in
    (first_of c (ap (λ b. b || (eqb c 45 || is_ascii_digit c)) none ∙ e), none)

token_by : (path : Bool) (token : Token) (more : List ℕ) → HasForm token → Ends token more
    → is_allowed path token ≡ true → token_at path (spelling token ++ more) ≡ Some token
unfolding token_at sign_of
token_by path (Word []) more form ends allowed = cc
token_by path (Word (c ∷ cs)) more form ends allowed =
    let h = (and_parts (is_word_start c) (list_all is_word_byte cs) form).0 in
    let f = first_of_word c h in
    rw (f.quote, f.at, f.path, h) (ap (option_map Word) (identifier_again (c ∷ cs) more form ends))
token_by path (Number []) more form ends allowed = cc
token_by path (Number (c ∷ cs)) more form ends allowed =
    let d = digits_by c cs (eqb c 45) refl form in
    let f = first_of_number c d.first in
    rw (f.0.quote, f.0.at, f.0.path, f.1, d.first) (ap (option_map Number) (number_again c cs more d ends))
token_by path (Quoted text) more form ends allowed = ap (option_map Quoted) (quoted_again text more form.0 form.1 ends)
token_by path (Mark Semicolon) more form ends allowed = refl
token_by path (Mark others) more form ends allowed = refl
token_by path (NameUse name) more form ends allowed = ap (option_map NameUse) (identifier_again name more form ends)
token_by path (Path text) more form ends allowed =
    rw allowed (ap (option_map Path) (path_again text more form.0 form.1))

-- a token that may stand at the front is found there
pub token_again : (path : Bool) (token : Token) (bytes more : List ℕ) → Stands path (Lexeme token bytes) more
    → token_at path (bytes ++ more) ≡ Some token
token_again path token bytes more h = ap (λ l. token_at path (l ++ more)) h.0.0 ∙ token_by path token more h.0.1 h.1 h.2

no_blank_by : (token : Token) (more : List ℕ) → HasForm token → blank_len (spelling token ++ more) ≡ 0
unfolding blank_len
no_blank_by (Word []) more form = cc
no_blank_by (Word (c ∷ cs)) more form =
    let f = first_of_word c (and_parts (is_word_start c) (list_all is_word_byte cs) form).0 in
    rw (f.separator, f.comment)
no_blank_by (Number []) more form = cc
no_blank_by (Number (c ∷ cs)) more form =
    let f = first_of_number c (digits_by c cs (eqb c 45) refl form).first in
    rw (f.0.separator, f.0.comment)
no_blank_by (Mark Semicolon) more form = refl
no_blank_by (Mark sign) more form = refl
no_blank_by others more form = refl

-- and no blank stands there
pub no_blank : (path : Bool) (token : Token) (bytes more : List ℕ) → Stands path (Lexeme token bytes) more
    → blank_len (bytes ++ more) ≡ 0
no_blank path token bytes more h = ap (λ l. blank_len (l ++ more)) h.0.0 ∙ no_blank_by token more h.0.1

pub separator_again : (path : Bool) (c : ℕ) (more : List ℕ) → Stands path (Separator c) more → blank_len (c ∷ more) ≡ 1
unfolding blank_len
separator_again path c more h = rw h

pub comment_again : (path : Bool) (body more : List ℕ) → Stands path (Comment body) more
    → blank_len (35 ∷ body ++ more) ≡ suc (length body)
unfolding blank_len
comment_again path body more h =
    ap (λ b. cond b (prefix_len is_line_byte (body ++ more) + 1) 0)
    (ap is_utf8 (front_again is_line_byte body more h.1 h.2) ∙ is_utf8-from_IsUtf8 body h.0)
    ∙ omega (arith, run_again is_line_byte body more h.1 h.2)

-- a token has bytes
pub some_bytes : (token : Token) → HasForm token → (n : ℕ) × (length (spelling token) ≡ suc n)
some_bytes (Word []) form = cc
some_bytes (Word (c ∷ cs)) form = (length cs, refl)
some_bytes (Number []) form = cc
some_bytes (Number (c ∷ cs)) form = (length cs, refl)
some_bytes (Quoted text) form = (length (doubled text ++ 39 ∷ []), refl)
some_bytes (Mark sign) form = (0, refl)
some_bytes (NameUse name) form = (length name, refl)
some_bytes (Path text) form = (length (text ++ 62 ∷ []), refl)
