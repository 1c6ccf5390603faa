-- The cut of a text is what the grammar reads, and nothing else is.
use Rattle.std.proofs.Common.{◌≡◌, ℕ, zero, suc, ◌+◌, ◌-◌, Bool, false, List, [], ◌∷◌, ◌++◌, length, drop, Option, Some}
use Rattle.std.proofs.Common.{None, Result, Ok, Err, refl, sym, ap, subst, ◌∙◌, zero-add, codes, arith}
use Rattle.std.proofs.Math.Seq.{drop-append_seam}
use Rattle.slonik_tokens.specs.Tokens.{is_word}
use Rattle.slonik_tokens.specs.Spelling.{spelling, Piece, Separator, Comment, Lexeme, bytes_of, Stands, path_behind}
use Rattle.slonik_tokens.specs.Spelling.{path_after, Falls, IsStuck, tokens_of, lines_in, lines_of, ReadsText}
use Rattle.slonik_tokens.specs.Cut.{blank_len, token_at, behind_token, behind_lines, step, cut_from, resume, cut_of}
use Rattle.slonik_tokens.specs.declared.token.Token.{Token}
use Rattle.slonik_tokens.proofs.Sound.{Begins, Blank, token_sound, blank_sound}
use Rattle.slonik_tokens.proofs.Complete.{token_again, no_blank, separator_again, comment_again, some_bytes}

-- what the rest of a text is read as, with the lines that end in it
abbrev ReadsFrom : Bool → List ℕ → Result (List Token) ℕ → Type 0
ReadsFrom path bytes (Ok tokens) = (pieces : List Piece) × Falls path bytes pieces [] × (tokens ≡ tokens_of pieces)
ReadsFrom path bytes (Err lines) =
    (pieces : List Piece) × (rest : List ℕ) × Falls path bytes pieces rest × IsStuck (path_after path pieces) rest
    × (lines ≡ lines_of pieces)

with_blank : (path : Bool) (bytes : List ℕ) (n count : ℕ) (b : Blank path bytes n count) (cut : Result (List Token) ℕ)
    → ReadsFrom path b.begun.more cut → ReadsFrom path bytes (behind_lines count cut)
with_blank path bytes n count b (Ok tokens) h = (
  b.piece ∷ h.0,
  (
    b.begun.more,
    b.begun.parts,
    b.begun.stands,
    subst (λ p. Falls p b.begun.more h.0 []) (sym b.same) h.1,
  ),
  h.2 ∙ sym (b.no_token h.0),
)
with_blank path bytes n count b (Err lines) h = (
  b.piece ∷ h.0,
  h.1,
  (
    b.begun.more,
    b.begun.parts,
    b.begun.stands,
    subst (λ p. Falls p b.begun.more h.0 h.1) (sym b.same) h.2,
  ),
  subst (λ p. IsStuck (path_after p h.0) h.1) (sym b.same) h.3,
  ap (λ m. count + m) h.4 ∙ sym (b.ends h.0),
)

with_token : (path : Bool) (bytes : List ℕ) (token : Token) (b : Begins path bytes (Lexeme token (spelling token)))
    (cut : Result (List Token) ℕ) → ReadsFrom (is_word (codes "include") token) b.more cut
    → ReadsFrom path bytes (behind_token token cut)
with_token path bytes token b (Ok tokens) h =
    (Lexeme token (spelling token) ∷ h.0, (b.more, b.parts, b.stands, h.1), ap (λ l. token ∷ l) h.2)
with_token path bytes token b (Err lines) h =
    (Lexeme token (spelling token) ∷ h.0, h.1, (b.more, b.parts, b.stands, h.2), h.3, h.4)

-- no piece stands where none is found
stuck_by : (path : Bool) (bytes : List ℕ) → blank_len bytes ≡ 0 → token_at path bytes ≡ None
    → (piece : Piece) (more : List ℕ) → bytes ≡ bytes_of piece ++ more → Stands path piece more → ⊥
stuck_by path bytes blank none (Separator c) more e h = let k = separator_again path c more h in let f =
    ap blank_len e in omega arith
stuck_by path bytes blank none (Comment body) more e h = let k = comment_again path body more h in let f =
    ap blank_len e in omega arith
stuck_by path bytes blank none (Lexeme token spelled) more e h = let k =
    token_again path token spelled more h in let f = ap (token_at path) e in cc

rest_is : (c : ℕ) (cs front more : List ℕ) (n : ℕ) → c ∷ cs ≡ front ++ more → length front ≡ suc n → drop n cs ≡ more
rest_is c cs front more n e size =
    ap (λ m. drop m (c ∷ cs)) (sym size) ∙ ap (drop (length front)) e ∙ drop-append_seam front more

reads_step : (c : ℕ) (cs : List ℕ) (path : Bool) (blank : ℕ) (found : Option Token) → blank_len (c ∷ cs) ≡ blank
    → token_at path (c ∷ cs) ≡ found → ((behind : Bool) (n : ℕ) → ReadsFrom behind (drop n cs) (cut_from cs behind n))
    → ReadsFrom path (c ∷ cs) (step blank found (lines_in c) path (λ behind pass. cut_from cs behind pass))
reads_step c cs path (suc n) found e f more =
    let b = blank_sound path c cs n e in
    with_blank path (c ∷ cs) n (lines_in c) b (cut_from cs path n)
    (subst (λ l. ReadsFrom path l (cut_from cs path n))
    (rest_is c cs (bytes_of b.piece) b.begun.more n b.begun.parts b.size) (more path n))
reads_step c cs path zero None e f more = ([], c ∷ cs, refl, ((λ none. cc), stuck_by path (c ∷ cs) e f), refl)
reads_step c cs path zero (Some token) e f more =
    let b = token_sound path (c ∷ cs) token f in
    let size = some_bytes token b.stands.0.1 in
    let path' = is_word (codes "include") token in
    let less : length (spelling token) - 1 ≡ size.0 = omega (arith, size.1) in
    with_token path (c ∷ cs) token b (cut_from cs path' (length (spelling token) - 1))
    (subst (λ n. ReadsFrom path' b.more (cut_from cs path' n)) (sym less)
    (subst (λ l. ReadsFrom path' l (cut_from cs path' size.0))
    (rest_is c cs (spelling token) b.more size.0 b.parts size.1) (more path' size.0)))

reads_from : (bytes : List ℕ) (path : Bool) (n : ℕ) → ReadsFrom path (drop n bytes) (cut_from bytes path n)
unfolding cut_from
reads_from [] path zero = ([], refl, refl)
reads_from [] path (suc n) = ([], refl, refl)
reads_from (c ∷ cs) path (suc n) = reads_from cs path n
reads_from (c ∷ cs) path zero =
    reads_step c cs path (blank_len (c ∷ cs)) (token_at path (c ∷ cs)) refl refl (λ behind n. reads_from cs behind n)

numbered : (text : List ℕ) (cut : Result (List Token) ℕ) → ReadsFrom false text cut → ReadsText text (resume [] 1 cut)
unfolding ReadsText
numbered text (Ok tokens) h = h
numbered text (Err lines) h = (h.0, h.1, h.2, h.3, ap (λ n. 1 + n) h.4)

-- the grammar reads what is cut
pub read : (text : List ℕ) → ReadsText text (cut_of text)
unfolding cut_of
read text = numbered text (cut_from text false 0) (reads_from text false 0)

-- bytes that are passed count for nothing
passes : (bytes : List ℕ) (path : Bool) (n : ℕ) → cut_from bytes path n ≡ cut_from (drop n bytes) path 0
unfolding cut_from
passes [] path zero = refl
passes [] path (suc n) = refl
passes (c ∷ cs) path zero = refl
passes (c ∷ cs) path (suc n) = passes cs path n

pub over_blank : (path : Bool) (c : ℕ) (cs : List ℕ) (n : ℕ) → blank_len (c ∷ cs) ≡ suc n
    → cut_from (c ∷ cs) path 0 ≡ behind_lines (lines_in c) (cut_from (drop n cs) path 0)
unfolding cut_from
over_blank path c cs n e = rw e (ap (behind_lines (lines_in c)) (passes cs path n))

pub over_token : (path : Bool) (c : ℕ) (cs : List ℕ) (token : Token) (n : ℕ) → blank_len (c ∷ cs) ≡ 0
    → token_at path (c ∷ cs) ≡ Some token → length (spelling token) ≡ suc n
    → cut_from (c ∷ cs) path 0 ≡ behind_token token (cut_from (drop n cs) (is_word (codes "include") token) 0)
unfolding cut_from
over_token path c cs token n e f size =
    let less : length (spelling token) - 1 ≡ n = omega (arith, size) in
    rw (e, f) (ap (behind_token token) (ap (cut_from cs (is_word (codes "include") token)) less
    ∙ passes cs (is_word (codes "include") token) n))

pub over_none : (path : Bool) (c : ℕ) (cs : List ℕ) → blank_len (c ∷ cs) ≡ 0 → token_at path (c ∷ cs) ≡ None
    → cut_from (c ∷ cs) path 0 ≡ Err 0
unfolding cut_from
over_none path c cs e f = rw (e, f)

abbrev behind_piece : Piece → Result (List Token) ℕ → Result (List Token) ℕ
behind_piece (Separator c) cut = behind_lines (lines_in c) cut
behind_piece (Comment body) cut = behind_lines 0 cut
behind_piece (Lexeme token bytes) cut = behind_token token cut

over_lexeme : (path : Bool) (token : Token) (bytes more : List ℕ) → Stands path (Lexeme token bytes) more
    → cut_from (bytes ++ more) path 0 ≡ behind_token token (cut_from more (is_word (codes "include") token) 0)
over_lexeme path token [] more h = let size = some_bytes token h.0.1 in let same =
    ap length h.0.0 in absurd (omega (arith, size.1))
over_lexeme path token (c ∷ cs) more h =
    let size = some_bytes token h.0.1 in
    let whole : length (c ∷ cs) ≡ suc size.0 = ap length h.0.0 ∙ size.1 in
    over_token path c (cs ++ more) token size.0 (no_blank path token (c ∷ cs) more h)
    (token_again path token (c ∷ cs) more h) size.1
    ∙ ap (λ l. behind_token token (cut_from l (is_word (codes "include") token) 0))
    (rest_is c (cs ++ more) (c ∷ cs) more size.0 refl whole)

over_piece : (path : Bool) (piece : Piece) (more : List ℕ) → Stands path piece more
    → cut_from (bytes_of piece ++ more) path 0 ≡ behind_piece piece (cut_from more (path_behind path piece) 0)
over_piece path (Separator c) more h = over_blank path c more 0 (separator_again path c more h)
over_piece path (Comment body) more h =
    over_blank path 35 (body ++ more) (length body) (comment_again path body more h)
    ∙ ap (λ l. behind_lines 0 (cut_from l path 0)) (drop-append_seam body more)
over_piece path (Lexeme token bytes) more h = over_lexeme path token bytes more h

abbrev joined : List Piece → Result (List Token) ℕ → Result (List Token) ℕ
joined [] cut = cut
joined (piece ∷ pieces) cut = behind_piece piece (joined pieces cut)

along : (pieces : List Piece) (path : Bool) (bytes rest : List ℕ) → Falls path bytes pieces rest
    → cut_from bytes path 0 ≡ joined pieces (cut_from rest (path_after path pieces) 0)
along [] path bytes rest h = ap (λ l. cut_from l path 0) h
along (piece ∷ pieces) path bytes rest h =
    ap (λ l. cut_from l path 0) h.1 ∙ over_piece path piece h.0 h.2
    ∙ ap (behind_piece piece) (along pieces (path_behind path piece) h.0 rest h.3)

joined_ok : (pieces : List Piece) → joined pieces (Ok []) ≡ Ok (tokens_of pieces)
joined_ok [] = refl
joined_ok (Separator c ∷ pieces) = ap (behind_lines (lines_in c)) (joined_ok pieces)
joined_ok (Comment body ∷ pieces) = ap (behind_lines 0) (joined_ok pieces)
joined_ok (Lexeme token bytes ∷ pieces) = ap (behind_token token) (joined_ok pieces)

joined_err : (pieces : List Piece) → joined pieces (Err 0) ≡ Err (lines_of pieces)
joined_err [] = refl
joined_err (Separator c ∷ pieces) = ap (behind_lines (lines_in c)) (joined_err pieces)
joined_err (Comment body ∷ pieces) = ap (behind_lines 0) (joined_err pieces) ∙ ap Err (zero-add (lines_of pieces))
joined_err (Lexeme token bytes ∷ pieces) = ap (behind_token token) (joined_err pieces)

none_by : (c : ℕ) (cs : List ℕ) (path : Bool) (blank : ℕ) (found : Option Token) → blank_len (c ∷ cs) ≡ blank
    → token_at path (c ∷ cs) ≡ found → IsStuck path (c ∷ cs) → cut_from (c ∷ cs) path 0 ≡ Err 0
none_by c cs path (suc n) found e f h = let b =
    blank_sound path c cs n e in absurd (h.1 b.piece b.begun.more b.begun.parts b.begun.stands)
none_by c cs path zero (Some token) e f h = let b =
    token_sound path (c ∷ cs) token f in absurd (h.1 (Lexeme token (spelling token)) b.more b.parts b.stands)
none_by c cs path zero None e f h = over_none path c cs e f

stuck_none : (path : Bool) (rest : List ℕ) → IsStuck path rest → cut_from rest path 0 ≡ Err 0
stuck_none path [] h = absurd (h.0 refl)
stuck_none path (c ∷ cs) h = none_by c cs path (blank_len (c ∷ cs)) (token_at path (c ∷ cs)) refl refl h

pub ended : (path : Bool) → cut_from [] path 0 ≡ Ok []
unfolding cut_from
ended path = refl

-- what the grammar reads is cut, and nothing else
pub only : (text : List ℕ) (outcome : Result (List Token) ℕ) → ReadsText text outcome → cut_of text ≡ outcome
unfolding cut_of ReadsText
only text (Ok tokens) h =
    ap (resume [] 1) (along h.0 false text [] h.1 ∙ ap (joined h.0) (ended (path_after false h.0)) ∙ joined_ok h.0)
    ∙ ap Ok (sym h.2)
only text (Err line) h =
    ap (resume [] 1) (along h.0 false text h.1 h.2 ∙ ap (joined h.0) (stuck_none (path_after false h.0) h.1 h.3)
    ∙ joined_err h.0) ∙ ap Err (sym h.4)
