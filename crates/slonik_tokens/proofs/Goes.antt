-- How the cut goes on over the rest of a text.
use Rattle.std.proofs.Common.{◌≡◌, ℕ, zero, suc, ◌+◌, ◌<◌, ◌≤◌, List, [], ◌∷◌, ◌++◌, length, drop, eqb, cond, add-zero}
use Rattle.std.proofs.Common.{Bool, true, false, Option, Some, None, Result, Ok, Err, refl, sym, ap, subst, ◌∙◌}
use Rattle.std.proofs.Common.{append_assoc, append-nil, add_assoc, codes, length-append, length-drop, arith}
use Rattle.std.proofs.lemmas.List.{nil_from_length}
use Rattle.slonik_tokens.specs.Tokens.{is_word}
use Rattle.slonik_tokens.specs.Spelling.{spelling, bytes_of, lines_in}
use Rattle.slonik_tokens.specs.Cut.{blank_len, token_at, sized, behind_token, behind_lines, cut_from, cut_of, resume}
use Rattle.slonik_tokens.specs.declared.token.Token.{Token}
use Rattle.slonik_tokens.proofs.Sound.{token_sound, blank_sound}
use Rattle.slonik_tokens.proofs.Complete.{some_bytes}
use Rattle.slonik_tokens.proofs.Readings.{over_blank, over_token, over_none, ended}

-- Where the cut of a text is: what is left of it, whether the token before is INCLUDE, the line, and the tokens so far.
pub record Reached : Type 0 where
  pub rest : List ℕ
  pub path : Bool
  pub line : ℕ
  pub tokens : List Token

pub record Goes (text : List ℕ) (at : Reached) : Type 0 where
  pub same : resume at.tokens at.line (cut_from at.rest at.path 0) ≡ cut_of text
  pub counted : at.line + length at.rest ≤ length text + 1

pub begins : (text : List ℕ) (tokens : List Token) → tokens ≡ []
    → Goes text (record { rest = text; path = false; line = 1; tokens = tokens })
unfolding cut_of
begins text tokens none = rw none (record { same = refl; counted = omega arith })

-- the same place, written so
pub goes_as : (text : List ℕ) (at next : Reached) → next.rest ≡ at.rest → next.path ≡ at.path → next.line ≡ at.line →
    next.tokens ≡ at.tokens → Goes text at → Goes text next
goes_as text at next rest path line tokens g =
    subst (Goes text) (λ i. record {
      rest = sym rest i;
      path = sym path i;
      line = sym line i;
      tokens = sym tokens i;
    }) g

abbrev pub reached : List ℕ → Bool → ℕ → List Token → Reached
reached rest path line tokens = record { rest = rest; path = path; line = line; tokens = tokens }

-- What stands at the front of the rest: its first byte, and how long a blank is there.
pub record Front (at : Reached) : Type 0 where
  pub first : ℕ
  pub tail : List ℕ
  pub blank : ℕ
  pub is : at.rest ≡ first ∷ tail
  pub measured : blank ≡ blank_len at.rest

abbrev pub front : (at : Reached) (first : ℕ) (tail : List ℕ) (blank : ℕ) → at.rest ≡ first ∷ tail →
    blank ≡ blank_len at.rest → Front at
front at first tail blank is measured =
    record { first = first; tail = tail; blank = blank; is = is; measured = measured }

-- the same rest, written so
rest_as : (text rest : List ℕ) (at : Reached) → at.rest ≡ rest → Goes text at → Goes text (record at { rest = rest })
rest_as text rest at e g = record {
  same = ap (λ l. resume at.tokens at.line (cut_from l at.path 0)) (sym e) ∙ g.same;
  counted = omega (arith, g.counted, ap length e);
}

pub ends : (text : List ℕ) (at : Reached) → length at.rest ≡ 0 → Goes text at → cut_of text ≡ Ok at.tokens
ends text at none g =
    let over = rest_as text [] at (nil_from_length at.rest none) g in
    sym over.same ∙ ap (resume at.tokens at.line) (ended at.path) ∙ ap Ok (append-nil at.tokens)

resumed_lines : (tokens : List Token) (line count : ℕ) (cut : Result (List Token) ℕ)
    → resume tokens line (behind_lines count cut) ≡ resume tokens (line + count) cut
resumed_lines tokens line count (Ok more) = refl
resumed_lines tokens line count (Err lines) = ap Err (sym (add_assoc line count lines))

resumed_token : (tokens : List Token) (line : ℕ) (token : Token) (cut : Result (List Token) ℕ)
    → resume tokens line (behind_token token cut) ≡ resume (tokens ++ token ∷ []) line cut
resumed_token tokens line token (Ok more) = ap Ok (sym (append_assoc tokens (token ∷ []) more))
resumed_token tokens line token (Err lines) = refl

line_by : (line : Bool) → cond line 1 0 ≤ 1
line_by true = omega arith
line_by false = omega arith

line_at_most : (c : ℕ) → lines_in c ≤ 1
line_at_most c = line_by (eqb c 10)

room_by : (c : ℕ) (cs : List ℕ) (blank : ℕ) → blank_len (c ∷ cs) ≡ blank → blank ≤ length (c ∷ cs)
room_by c cs zero e = omega arith
room_by c cs (suc n) e =
    let b = blank_sound false c cs n e in
    omega (arith, b.size, ap length b.begun.parts, length-append (bytes_of b.piece) b.begun.more)

pub blank_room : (bytes : List ℕ) → blank_len bytes ≤ length bytes
unfolding blank_len
blank_room [] = omega arith
blank_room (c ∷ cs) = room_by c cs (blank_len (c ∷ cs)) refl

-- the rest behind a blank
blank_by : (text tail : List ℕ) (at : Reached) (c blank : ℕ) → blank_len (c ∷ tail) ≡ blank → 0 < blank →
    Goes text (record at { rest = c ∷ tail }) →
    Goes text (record at { rest = drop blank (c ∷ tail); line = at.line + lines_in c })
blank_by text tail at c zero e some g = absurd (omega arith)
blank_by text tail at c (suc n) e some g =
    let room : suc n ≤ length (c ∷ tail) = subst (λ b. b ≤ length (c ∷ tail)) e (blank_room (c ∷ tail)) in
    record {
      same = sym (resumed_lines at.tokens at.line (lines_in c) (cut_from (drop n tail) at.path 0))
          ∙ ap (resume at.tokens at.line) (sym (over_blank at.path c tail n e)) ∙ g.same;
      counted = omega (arith, g.counted, length-drop n tail, line_at_most c);
    }

pub behind_blank : (text : List ℕ) (at : Reached) (f : Front at) → 0 < f.blank → Goes text at →
    Goes text (record at { rest = drop f.blank at.rest; line = at.line + lines_in f.first })
behind_blank text at f some g =
    subst (λ l. Goes text (record at { rest = drop f.blank l; line = at.line + lines_in f.first })) (sym f.is)
    (blank_by text f.tail at f.first f.blank (sym (f.measured ∙ ap blank_len f.is)) some
    (rest_as text (f.first ∷ f.tail) at f.is g))

sized_some : (found : Option Token) (token : Token) (len : ℕ) → Some (token, len) ≡ sized found
    → (found ≡ Some token) × (length (spelling token) ≡ len)
sized_some None token len e = cc
sized_some (Some other) token len e =
    let same : (token, len) ≡ (other, length (spelling other)) = cc in
    let token_same = sym (ap (λ (p : Token × ℕ). p.0) same) in
    (ap Some token_same, ap (λ t. length (spelling t)) (sym token_same) ∙ sym (ap (λ (p : Token × ℕ). p.1) same))

sized_none : (found : Option Token) → None ≡ sized found → found ≡ None
sized_none None e = refl
sized_none (Some other) e = cc

-- a token that was found has bytes, and these stand at the front
pub token_room : (path : Bool) (bytes : List ℕ) (token : Token) (len : ℕ)
    → Some (token, len) ≡ sized (token_at path bytes) → (0 < len) × (len ≤ length bytes)
token_room path bytes token len e =
    let k = sized_some (token_at path bytes) token len e in
    let b = token_sound path bytes token k.0 in
    let size = some_bytes token b.stands.0.1 in
    (omega (arith, k.1, size.1), omega (arith, k.1, ap length b.parts, length-append (spelling token) b.more))

token_by : (text tail : List ℕ) (at : Reached) (c len : ℕ) (token : Token) →
    (blank_len (c ∷ tail) ≡ 0) × (Some (token, suc len) ≡ sized (token_at at.path (c ∷ tail))) →
    Goes text (record at { rest = c ∷ tail }) → Goes text (record {
      rest = drop len tail;
      path = is_word (codes "include") token;
      line = at.line;
      tokens = at.tokens ++ token ∷ [];
    })
token_by text tail at c len token e g =
    let k = sized_some (token_at at.path (c ∷ tail)) token (suc len) e.1 in
    record {
      same = sym (resumed_token at.tokens at.line token (cut_from (drop len tail) (is_word (codes "include") token) 0))
          ∙ ap (resume at.tokens at.line) (sym (over_token at.path c tail token len e.0 k.0 k.1)) ∙ g.same;
      counted = omega (arith, g.counted, length-drop len tail);
    }

no_blank_at : (at : Reached) (f : Front at) → f.blank ≤ 0 → blank_len (f.first ∷ f.tail) ≡ 0
no_blank_at at f none = sym (f.measured ∙ ap blank_len f.is) ∙ omega arith

-- the rest behind a token
pub behind_token_at : (text : List ℕ) (at : Reached) (f : Front at) (len : ℕ) (token : Token) → f.blank ≤ 0 →
    Some (token, len) ≡ sized (token_at at.path at.rest) → Goes text at → Goes text (record {
      rest = drop len at.rest;
      path = is_word (codes "include") token;
      line = at.line;
      tokens = at.tokens ++ token ∷ [];
    })
behind_token_at text at f zero token none found g = absurd (omega (arith, token_room at.path at.rest token 0 found))
behind_token_at text at f (suc len) token none found g =
    let there : Some (token, suc len) ≡ sized (token_at at.path (f.first ∷ f.tail)) =
    found ∙ ap (λ l. sized (token_at at.path l)) f.is in
    subst (λ l. Goes text (record {
      rest = drop (suc len) l;
      path = is_word (codes "include") token;
      line = at.line;
      tokens = at.tokens ++ token ∷ [];
    })) (sym f.is)
    (token_by text f.tail at f.first len token (no_blank_at at f none, there)
    (rest_as text (f.first ∷ f.tail) at f.is g))

-- no piece begins the rest
pub fails : (text : List ℕ) (at : Reached) (f : Front at) → f.blank ≤ 0 →
    None ≡ sized (token_at at.path at.rest) → Goes text at → cut_of text ≡ Err at.line
fails text at f none found g =
    let there : None ≡ sized (token_at at.path (f.first ∷ f.tail)) =
    found ∙ ap (λ l. sized (token_at at.path l)) f.is in
    sym g.same
    ∙ ap (resume at.tokens at.line)
    (ap (λ l. cut_from l at.path 0) f.is ∙ over_none at.path f.first f.tail (no_blank_at at f none)
    (sized_none (token_at at.path (f.first ∷ f.tail)) there))
    ∙ ap Err (add-zero at.line)
