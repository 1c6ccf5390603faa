-- What the cut takes from the front is a piece that may stand there.
use Rattle.std.proofs.Common.{◌≡◌, ℕ, suc, ◌+◌, eqb, cond, ◌&&◌, ◌||◌, Bool, true, false, List, [], ◌∷◌, ◌++◌, length}
use Rattle.std.proofs.Common.{drop, Option, Some, None, refl, sym, ap, subst, ◌∙◌, append_assoc, arith}
use Rattle.std.proofs.lemmas.Bool.{and_parts, and_from}
use Rattle.std.proofs.lemmas.Bool.Decides.{nat_tests}
use Rattle.std.proofs.lemmas.Str.{IsUtf8-from_is_utf8}
use Rattle.std.proofs.lemmas.List.Folds.{length-prefix_len}
use Rattle.std.proofs.lemmas.List.Sums.{take_while-cons}
use borrow.Author.Tests.{eqb-true}
use Rattle.std.specs.Char.{is_ascii_digit}
use Rattle.std.specs.List.{list_all, prefix_len, take_while}
use Rattle.std.specs.Option.{option_map}
use Rattle.std.specs.Str.{IsUtf8, is_utf8}
use Rattle.slonik_tokens.specs.Spelling.{is_separator, is_word_start, is_word_byte, is_quote, is_line_byte}
use Rattle.slonik_tokens.specs.Spelling.{is_path_byte, is_identifier, are_digits, is_number, doubled, sign_byte}
use Rattle.slonik_tokens.specs.Spelling.{spelling, Stops, Piece, Separator, Comment, Lexeme, bytes_of, Stands}
use Rattle.slonik_tokens.specs.Spelling.{path_behind, tokens_of, lines_in, lines_of}
use Rattle.slonik_tokens.specs.Cut.{text_in, comment_len, blank_len, identifier_at, number_at, behind, unquoted}
use Rattle.slonik_tokens.specs.Cut.{text_of, quoted_at, begins, path_at, sign_of, token_at}
use Rattle.slonik_tokens.specs.declared.token.Sign.{Sign}
use Rattle.slonik_tokens.specs.declared.token.Sign.TheVariants.{Semicolon, Comma, Equals, OpenBracket, CloseBracket}
use Rattle.slonik_tokens.specs.declared.token.Sign.TheVariants.{OpenBrace, CloseBrace}
use Rattle.slonik_tokens.specs.declared.token.Token.{Token}
use Rattle.slonik_tokens.specs.declared.token.Token.TheVariants.{Word, Number, Quoted, Mark, NameUse, Path}
use Rattle.slonik_tokens.proofs.Runs.{Runs, run, stopped}

-- the piece stands at the front of the bytes
pub record Begins (path : Bool) (bytes : List ℕ) (piece : Piece) : Type 0 where
  pub more : List ℕ
  pub parts : bytes ≡ bytes_of piece ++ more
  pub stands : Stands path piece more

-- what follows from either way of a choice
abbrev ByChoice : {A : Type 0} → Bool → A → A → A → Type 0 → Type 0
ByChoice b x y z P = (b ≡ true → x ≡ z → P) → (b ≡ false → y ≡ z → P) → P

-- a choice, taken apart
chosen : {A P : Type 0} (b : Bool) (x y : Option A) (z : A) → cond b x y ≡ Some z → ByChoice b x y (Some z) P
chosen true x y z e f g = f refl e
chosen false x y z e f g = g refl e

counted : {P : Type 0} (b : Bool) (x y n : ℕ) → cond b x y ≡ suc n → ByChoice b x y (suc n) P
counted true x y n e f g = f refl e
counted false x y n e f g = g refl e

mapped : {A B P : Type 0} (f : A → B) (found : Option A) (z : B) → option_map f found ≡ Some z
    → ((x : A) → found ≡ Some x → f x ≡ z → P) → P
mapped f None z e g = cc
mapped f (Some x) z e g = g x refl (cc)

-- a text that was found is that of the bytes
text_is : (bytes text : List ℕ) → text_in bytes ≡ Some text → (bytes ≡ text) × IsUtf8 text
unfolding text_in
text_is bytes text e =
    chosen (is_utf8 bytes) (Some bytes) None text e (λ good same. let k : bytes ≡ text = cc in
    (k, subst IsUtf8 k (IsUtf8-from_is_utf8 bytes good))) (λ _ none. cc)

-- an identifier, and what is behind it
pub record Identifies (bytes name : List ℕ) : Type 0 where
  pub more : List ℕ
  pub parts : bytes ≡ name ++ more
  pub form : is_identifier name ≡ true
  pub stops : Stops is_word_byte more

start_goes_on : (c : ℕ) → is_word_start c ≡ true → is_word_byte c ≡ true
start_goes_on c e = grind (arith, nat_tests)

identifier_is : (c : ℕ) (cs name : List ℕ) → is_word_start c ≡ true → c ∷ take_while is_word_byte cs ≡ name
    → Identifies (c ∷ cs) name
identifier_is c cs name start e =
    let r = run is_word_byte cs in
    record {
      more = drop (prefix_len is_word_byte cs) cs;
      parts = ap (λ l. c ∷ l) r.parts ∙ ap (λ l. l ++ drop (prefix_len is_word_byte cs) cs) e;
      form = subst (λ l. is_identifier l ≡ true) e (and_from (is_word_start c) _ start r.each);
      stops = r.stops;
    }

pub front_word : (c : ℕ) (cs : List ℕ) → is_word_start c ≡ true
    → take_while is_word_byte (c ∷ cs) ≡ c ∷ take_while is_word_byte cs
front_word c cs start = rw (take_while-cons is_word_byte c cs, start_goes_on c start)

pub identifier_sound : (bytes name : List ℕ) → identifier_at bytes ≡ Some name → Identifies bytes name
unfolding identifier_at
identifier_sound [] name e = cc
identifier_sound (c ∷ cs) name e =
    chosen (is_word_start c) _ None name e (λ start f.
    identifier_is c cs name start (sym (front_word c cs start) ∙ (text_is _ name f).0)) (λ _ none. cc)

-- a number, and what is behind it
pub record Numbers (bytes text : List ℕ) : Type 0 where
  pub more : List ℕ
  pub parts : bytes ≡ text ++ more
  pub form : is_number text ≡ true
  pub stops : Stops is_ascii_digit more

some_digits : (cs front rest : List ℕ) → Runs is_ascii_digit cs front rest → (prefix_len is_ascii_digit cs ≡ 0 → ⊥)
    → are_digits front ≡ true
some_digits [] front rest r some = absurd (some refl)
some_digits (c ∷ cs) [] rest r some =
    absurd (some (stopped is_ascii_digit (c ∷ cs) (subst (Stops is_ascii_digit) (sym r.parts) r.stops)))
some_digits (c ∷ cs) (d ∷ front) rest r some = r.each

number_form : (c : ℕ) (cs : List ℕ) → (eqb c 45 || is_ascii_digit c) ≡ true
    → (eqb c 45 && eqb (prefix_len is_ascii_digit cs) 0) ≡ false → (minus : Bool) → eqb c 45 ≡ minus
    → is_number (c ∷ take_while is_ascii_digit cs) ≡ true
number_form c cs first some true minus =
    rw minus (some_digits cs (take_while is_ascii_digit cs) (drop (prefix_len is_ascii_digit cs) cs)
    (run is_ascii_digit cs) (λ none. let k : eqb (prefix_len is_ascii_digit cs) 0 ≡ true = rw none refl in
    let same : false ≡ true = sym some ∙ rw (minus, k) refl in cc))
number_form c cs first some false minus =
    rw minus (and_from (is_ascii_digit c) _ (sym (ap (λ b. b || is_ascii_digit c) minus) ∙ first)
    (run is_ascii_digit cs).each)

number_is : (c : ℕ) (cs text : List ℕ) → is_number (c ∷ take_while is_ascii_digit cs) ≡ true
    → c ∷ take_while is_ascii_digit cs ≡ text → Numbers (c ∷ cs) text
number_is c cs text form e =
    let r = run is_ascii_digit cs in
    record {
      more = drop (prefix_len is_ascii_digit cs) cs;
      parts = ap (λ l. c ∷ l) r.parts ∙ ap (λ l. l ++ drop (prefix_len is_ascii_digit cs) cs) e;
      form = subst (λ l. is_number l ≡ true) e form;
      stops = r.stops;
    }

number_sound : (c : ℕ) (cs text : List ℕ) → (eqb c 45 || is_ascii_digit c) ≡ true → number_at (c ∷ cs) ≡ Some text
    → Numbers (c ∷ cs) text
unfolding number_at
number_sound c cs text first e =
    chosen (eqb c 45 && eqb (prefix_len is_ascii_digit cs) 0) None _ text e (λ _ none. cc)
    (λ some f. number_is c cs text (number_form c cs first some (eqb c 45) refl) (text_is _ text f).0)

-- a string's text, and what is behind the quote that closes it; a quote stands before the bytes, or none
pub record Reads (after : Bool) (bytes text : List ℕ) : Type 0 where
  pub more : List ℕ
  pub parts : cond after (39 ∷ bytes) bytes ≡ doubled text ++ 39 ∷ more
  pub line : list_all is_line_byte text ≡ true
  pub stops : Stops is_quote more

prefixed : {P : Type 0} (c : ℕ) (found : Option (List ℕ)) (text : List ℕ) → behind (c ∷ []) found ≡ Some text
    → ((rest : List ℕ) → found ≡ Some rest → c ∷ rest ≡ text → P) → P
prefixed c None text e g = cc
prefixed c (Some rest) text e g = g rest refl (cc)

-- one more byte of the text, with the bytes that spell it
read_quote : (c : ℕ) (cs rest : List ℕ) → eqb c 39 ≡ true → Reads false cs rest → Reads true (c ∷ cs) (39 ∷ rest)
read_quote c cs rest e r =
    record {
      more = r.more;
      parts = ap (λ d. 39 ∷ d ∷ cs) (eqb-true c 39 e) ∙ ap (λ l. 39 ∷ 39 ∷ l) r.parts;
      line = r.line;
      stops = r.stops;
    }

read_byte : (c : ℕ) (cs rest : List ℕ) → eqb c 39 ≡ false → eqb c 10 ≡ false → Reads false cs rest
    → Reads false (c ∷ cs) (c ∷ rest)
read_byte c cs rest e f r = record {
  more = r.more;
  parts = rw e (ap (λ l. c ∷ l) r.parts);
  line = rw f r.line;
  stops = r.stops;
}

reads : (bytes : List ℕ) (after : Bool) (text : List ℕ) → unquoted bytes after ≡ Some text → Reads after bytes text
reads [] true text e = let k : [] ≡ text =
    cc in record {
      more = [];
      parts = ap (λ l. doubled l ++ 39 ∷ []) k;
      line = ap (list_all is_line_byte) (sym k);
      stops = tt;
    }
reads [] false text e = cc
reads (c ∷ cs) true text e =
    chosen (eqb c 39) _ (Some []) text e (λ quote f. prefixed 39 (unquoted cs false) text f
    (λ rest g same. subst (Reads true (c ∷ cs)) same (read_quote c cs rest quote (reads cs false rest g))))
    (λ quote f. let k : [] ≡ text = cc in subst (Reads true (c ∷ cs)) k
    (record { more = c ∷ cs; parts = refl; line = refl; stops = quote }))
reads (c ∷ cs) false text e =
    chosen (eqb c 39) _ _ text e (λ quote f. let r = reads cs true text f in
    record {
      more = r.more;
      parts = ap (λ d. d ∷ cs) (eqb-true c 39 quote) ∙ r.parts;
      line = r.line;
      stops = r.stops;
    })
    (λ quote f. chosen (eqb c 10) None _ text f (λ _ none. cc)
    (λ line g. prefixed c (unquoted cs false) text g
    (λ rest k same. subst (Reads false (c ∷ cs)) same
    (read_byte c cs rest quote line (reads cs false rest k)))))

text_inside : (found : Option (List ℕ)) (text : List ℕ) → text_of found ≡ Some text → (found ≡ Some text) × IsUtf8 text
text_inside None text e = cc
text_inside (Some bytes) text e = let k = text_is bytes text e in (ap Some k.0, k.1)

quoted_sound : (path : Bool) (c : ℕ) (cs text : List ℕ) → c ≡ 39 → quoted_at cs ≡ Some text
    → Begins path (c ∷ cs) (Lexeme (Quoted text) (spelling (Quoted text)))
unfolding quoted_at
quoted_sound path c cs text same e =
    let k = text_inside (unquoted cs false) text e in
    let r = reads cs false text k.0 in
    record {
      more = r.more;
      parts = ap (λ d. d ∷ cs) same ∙ ap (λ l. 39 ∷ l) (r.parts ∙ sym (append_assoc (doubled text) (39 ∷ []) r.more));
      stands = ((refl, (k.1, r.line)), r.stops, refl);
    }

begun : (b : ℕ) (rest : List ℕ) → begins b rest ≡ true → (more : List ℕ) × (rest ≡ b ∷ more)
begun b [] e = cc
begun b (c ∷ cs) e = (cs, ap (λ d. d ∷ cs) (eqb-true c b e))

path_sound : (c : ℕ) (cs text : List ℕ) → c ≡ 60 → path_at cs ≡ Some text
    → Begins true (c ∷ cs) (Lexeme (Path text) (spelling (Path text)))
unfolding path_at
path_sound c cs text same e =
    chosen (begins 62 (drop (prefix_len is_path_byte cs) cs)) _ None text e (λ closed f.
    let b = begun 62 (drop (prefix_len is_path_byte cs) cs) closed in
    let r = run is_path_byte cs in
    let k = text_is (take_while is_path_byte cs) text f in
    record {
      more = b.0;
      parts = ap (λ d. d ∷ cs) same ∙ ap (λ l. 60 ∷ l)
          (r.parts ∙ ap (λ l. take_while is_path_byte cs ++ l) b.1 ∙ ap (λ l. l ++ 62 ∷ b.0) k.0
          ∙ sym (append_assoc text (62 ∷ []) b.0));
      stands = ((refl, (k.1, subst (λ l. list_all is_path_byte l ≡ true) k.0 r.each)), tt, refl);
    }) (λ _ none. cc)

signed : (c b : ℕ) (found sign : Sign) → eqb c b ≡ true → sign_byte found ≡ b → Some found ≡ Some sign
    → c ≡ sign_byte sign
signed c b found sign e byte same = let k : found ≡ sign = cc in eqb-true c b e ∙ sym byte ∙ ap sign_byte k

sign_sound : (c : ℕ) (sign : Sign) → sign_of c ≡ Some sign → c ≡ sign_byte sign
unfolding sign_of
sign_sound c sign e =
    chosen (eqb c 59) _ _ sign e (λ h k. signed c 59 Semicolon sign h refl k)
    (λ _ e. chosen (eqb c 44) _ _ sign e (λ h k. signed c 44 Comma sign h refl k)
    (λ _ e. chosen (eqb c 61) _ _ sign e (λ h k. signed c 61 Equals sign h refl k)
    (λ _ e. chosen (eqb c 40) _ _ sign e (λ h k. signed c 40 OpenBracket sign h refl k)
    (λ _ e. chosen (eqb c 41) _ _ sign e (λ h k. signed c 41 CloseBracket sign h refl k)
    (λ _ e. chosen (eqb c 123) _ _ sign e (λ h k. signed c 123 OpenBrace sign h refl k)
    (λ _ e. chosen (eqb c 125) _ None sign e (λ h k. signed c 125 CloseBrace sign h refl k) (λ _ none. cc)))))))

-- the token, at each of the ways to find one
found_word : (path : Bool) (bytes name : List ℕ) → Identifies bytes name
    → Begins path bytes (Lexeme (Word name) (spelling (Word name)))
found_word path bytes name k = record { more = k.more; parts = k.parts; stands = ((refl, k.form), k.stops, refl) }

found_number : (path : Bool) (bytes text : List ℕ) → Numbers bytes text
    → Begins path bytes (Lexeme (Number text) (spelling (Number text)))
found_number path bytes text k = record { more = k.more; parts = k.parts; stands = ((refl, k.form), k.stops, refl) }

found_name : (path : Bool) (c : ℕ) (cs name : List ℕ) → c ≡ 64 → Identifies cs name
    → Begins path (c ∷ cs) (Lexeme (NameUse name) (spelling (NameUse name)))
found_name path c cs name e k =
    record {
      more = k.more;
      parts = ap (λ d. d ∷ cs) e ∙ ap (λ l. 64 ∷ l) k.parts;
      stands = ((refl, k.form), k.stops, refl);
    }

found_path : (path : Bool) (c : ℕ) (cs text : List ℕ) → c ≡ 60 → path ≡ true → path_at cs ≡ Some text
    → Begins path (c ∷ cs) (Lexeme (Path text) (spelling (Path text)))
found_path path c cs text e allowed k =
    subst (λ b. Begins b (c ∷ cs) (Lexeme (Path text) (spelling (Path text)))) (sym allowed) (path_sound c cs text e k)

found_sign : (path : Bool) (c : ℕ) (cs : List ℕ) (sign : Sign) → c ≡ sign_byte sign
    → Begins path (c ∷ cs) (Lexeme (Mark sign) (spelling (Mark sign)))
found_sign path c cs sign e = record { more = cs; parts = ap (λ d. d ∷ cs) e; stands = ((refl, tt), tt, refl) }

as_token : (path : Bool) (bytes : List ℕ) (token found : Token) → found ≡ token
    → Begins path bytes (Lexeme found (spelling found)) → Begins path bytes (Lexeme token (spelling token))
as_token path bytes token found e k = subst (λ t. Begins path bytes (Lexeme t (spelling t))) e k

pub token_sound : (path : Bool) (bytes : List ℕ) (token : Token) → token_at path bytes ≡ Some token
    → Begins path bytes (Lexeme token (spelling token))
unfolding token_at
token_sound path [] token e = cc
token_sound path (c ∷ cs) token e =
    let at = as_token path (c ∷ cs) token in
    chosen (eqb c 39) _ _ token e (λ h k. mapped Quoted (quoted_at cs) token k
    (λ text f same. at (Quoted text) same (quoted_sound path c cs text (eqb-true c 39 h) f)))
    (λ _ e. chosen (eqb c 64) _ _ token e (λ h k. mapped NameUse (identifier_at cs) token k
    (λ name f same. at (NameUse name) same (found_name path c cs name (eqb-true c 64 h)
    (identifier_sound cs name f))))
    (λ _ e. chosen (eqb c 60 && path) _ _ token e (λ h k.
    mapped Path (path_at cs) token k (λ text f same. let both = and_parts (eqb c 60) path h in
    at (Path text) same (found_path path c cs text (eqb-true c 60 both.0) both.1 f)))
    (λ _ e. chosen (is_word_start c) _ _ token e (λ h k.
    mapped Word (identifier_at (c ∷ cs)) token k (λ name f same.
    at (Word name) same (found_word path (c ∷ cs) name (identifier_sound (c ∷ cs) name f))))
    (λ _ e. chosen (eqb c 45 || is_ascii_digit c) _ _ token e
    (λ h k. mapped Number (number_at (c ∷ cs)) token k
    (λ text f same. at (Number text) same (found_number path (c ∷ cs) text (number_sound c cs text h f))))
    (λ _ k. mapped Mark (sign_of c) token k (λ sign f same.
    at (Mark sign) same (found_sign path c cs sign (sign_sound c sign f))))))))

-- a piece with no token stands at the front, with a byte more than these, and ends this number of lines
pub record Blank (path : Bool) (bytes : List ℕ) (n count : ℕ) : Type 0 where
  pub piece : Piece
  pub begun : Begins path bytes piece
  pub size : length (bytes_of piece) ≡ suc n
  pub no_token : (pieces : List Piece) → tokens_of (piece ∷ pieces) ≡ tokens_of pieces
  pub ends : (pieces : List Piece) → lines_of (piece ∷ pieces) ≡ count + lines_of pieces
  pub same : path_behind path piece ≡ path

lines_35 : (c : ℕ) → c ≡ 35 → lines_in c ≡ 0
lines_35 c e = rw e

comment_is : (path : Bool) (c : ℕ) (cs : List ℕ) (n : ℕ) → c ≡ 35 → is_utf8 (take_while is_line_byte cs) ≡ true
    → prefix_len is_line_byte cs + 1 ≡ suc n → Blank path (c ∷ cs) n (lines_in c)
comment_is path c cs n same good len =
    let r = run is_line_byte cs in
    record {
      piece = Comment (take_while is_line_byte cs);
      begun = record {
        more = drop (prefix_len is_line_byte cs) cs;
        parts = ap (λ d. d ∷ cs) same ∙ ap (λ l. 35 ∷ l) r.parts;
        stands = (IsUtf8-from_is_utf8 (take_while is_line_byte cs) good, r.each, r.stops);
      };
      size = omega (arith, length-prefix_len is_line_byte cs, len);
      no_token = λ pieces. refl;
      ends = λ pieces. omega (arith, lines_35 c same);
      same = refl;
    }

pub blank_sound : (path : Bool) (c : ℕ) (cs : List ℕ) (n : ℕ) → blank_len (c ∷ cs) ≡ suc n
    → Blank path (c ∷ cs) n (lines_in c)
unfolding blank_len
blank_sound path c cs n e =
    counted (is_separator c) 1 _ n e (λ h k. record {
      piece = Separator c;
      begun = record { more = cs; parts = refl; stands = h };
      size = k;
      no_token = λ pieces. refl;
      ends = λ pieces. refl;
      same = refl;
    })
    (λ _ e. counted (eqb c 35) (comment_len cs) 0 n e (λ h k.
    counted (is_utf8 (take_while is_line_byte cs)) _ 0 n k
    (λ good len. comment_is path c cs n (eqb-true c 35 h) good len) (λ _ none. cc)) (λ _ none. cc))
