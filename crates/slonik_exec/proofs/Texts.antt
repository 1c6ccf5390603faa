-- The words of a text, and what stands behind a prefix of one.
use Rattle.std.proofs.Common.{◌≡◌, ◌∙◌, ℕ, zero, suc, ◌+◌, ◌<◌, Bool, true, false, cond, List, [], ◌∷◌, ◌++◌, length}
use Rattle.std.proofs.Common.{take, drop, get_or, Option, Some, None, refl, sym, ap, subst, arith, append_assoc, Bor}
use Rattle.std.proofs.Common.{map}
use Rattle.std.proofs.lemmas.Bool.Decides.{nat_tests}
use Rattle.std.proofs.lemmas.Str.{IsUtf8-take, IsUtf8-drop, IsUtf8-nil, IsCharBoundary-after_ascii}
use Rattle.std.specs.List.{slice_split, onto_first, AllByRecursion}
use Rattle.std.specs.Option.{option_or, option_copied, unwrap_or, MatchOption}
use Rattle.std.specs.Prelude.{codes}
use Rattle.std.specs.Str.{IsUtf8, bytes_eq}
use Rattle.slon_model.specs.Reaching.{is_blank, behind_prefix, last_behind}
use Rattle.slon_model.proofs.Names.{bytes_same}

-- ---- the last word that begins with a prefix

or_assoc : {X : Type 0} (a b c : Option X) → option_or (option_or a b) c ≡ option_or a (option_or b c)
or_assoc (Some x) b c = refl
or_assoc None b c = refl

or_none : {X : Type 0} (o : Option X) → option_or None o ≡ option_or o None
or_none None = refl
or_none (Some x) = refl

-- one word more
pub last_more : (prefix : List ℕ) (words : List (List ℕ)) (word : List ℕ) →
    last_behind prefix (words ++ word ∷ []) ≡ option_or (behind_prefix prefix word) (last_behind prefix words)
last_more prefix [] word = or_none (behind_prefix prefix word)
last_more prefix (w ∷ ws) word =
    ap (λ o. option_or o (behind_prefix prefix w)) (last_more prefix ws word)
    ∙ or_assoc (behind_prefix prefix word) (last_behind prefix ws) (behind_prefix prefix w)

-- what the prefix is stripped of
pub stripped : (prefix word : List ℕ) (r : Option (Bor (List ℕ))) →
    MatchOption r (bytes_eq (take (length prefix) word) prefix ≡ false)
    (λ x. (bytes_eq (take (length prefix) word) prefix ≡ true) × (x.now ≡ drop (length prefix) word)
    × (length x.now + length prefix ≡ length word)) → option_copied r ≡ behind_prefix prefix word
stripped prefix word None is = sym (ap (λ b. cond b (Some (drop (length prefix) word)) None) is)
stripped prefix word (Some x) is =
    ap (λ l. Some l) is.1 ∙ sym (ap (λ b. cond b (Some (drop (length prefix) word)) None) is.0)

copied_or : (a b : Option (Bor (List ℕ))) →
    option_copied (option_or a b) ≡ option_or (option_copied a) (option_copied b)
copied_or None b = refl
copied_or (Some x) b = refl

read_more : (words : List (Bor (List ℕ))) (word : Bor (List ℕ)) →
    map (λ w. w.now) (words ++ word ∷ []) ≡ map (λ w. w.now) words ++ word.now ∷ []
read_more [] word = refl
read_more (w ∷ ws) word = ap (λ l. w.now ∷ l) (read_more ws word)

-- What the words so far gave, one more word, and what it gives.
pub record Reading : Type 0 where
  pub words : List (Bor (List ℕ))
  pub word : Bor (List ℕ)
  pub value : Option (Bor (List ℕ))
  pub found : Option (Bor (List ℕ))
  pub next : Option (Bor (List ℕ))

pub reads_more : (prefix : List ℕ) (r : Reading) → r.next ≡ option_or r.found r.value →
    option_copied r.found ≡ behind_prefix prefix r.word.now →
    option_copied r.value ≡ last_behind prefix (map (λ w. w.now) r.words) →
    option_copied r.next ≡ last_behind prefix (map (λ w. w.now) (r.words ++ r.word ∷ []))
reads_more prefix r next found before =
    ap option_copied next ∙ copied_or r.found r.value
    ∙ ap (λ o. option_or o (option_copied r.value)) found
    ∙ ap (option_or (behind_prefix prefix r.word.now)) before
    ∙ sym (last_more prefix (map (λ w. w.now) r.words) r.word.now)
    ∙ sym (ap (last_behind prefix) (read_more r.words r.word))

-- ---- UTF-8

blank_ascii : (c : ℕ) → is_blank c ≡ true → c < 128
blank_ascii c is = grind (arith, nat_tests)

at_seam : (front : List ℕ) (x : ℕ) (rest : List ℕ) → get_or (front ++ x ∷ rest) (length front) 0 ≡ x
at_seam [] x rest = refl
at_seam (c ∷ cs) x rest = at_seam cs x rest

take_front : (front rest : List ℕ) → take (length front) (front ++ rest) ≡ front
take_front [] rest = refl
take_front (c ∷ cs) rest = ap (λ l. c ∷ l) (take_front cs rest)

drop_front : (front : List ℕ) (x : ℕ) (rest : List ℕ) → drop (suc (length front)) (front ++ x ∷ rest) ≡ rest
drop_front [] x rest = refl
drop_front (c ∷ cs) x rest = drop_front cs x rest

seam_within : (front : List ℕ) (x : ℕ) (rest : List ℕ) → length front < length (front ++ x ∷ rest)
seam_within [] x rest = omega arith
seam_within (c ∷ cs) x rest = let within = seam_within cs x rest in omega (arith, within)

-- a text may be cut at a byte that is ASCII
cut_before : (front : List ℕ) (x : ℕ) (rest : List ℕ) → x < 128 → IsUtf8 (front ++ x ∷ rest) → IsUtf8 front
cut_before front x rest small text =
    let all = front ++ x ∷ rest in
    let within : length front < length all = seam_within front x rest in
    let here : get_or all (length front) 0 ≡ x = at_seam front x rest in
    subst IsUtf8 (take_front front (x ∷ rest))
    (IsUtf8-take all (length front) text
    (omega (arith, within), λ less large. absurd (omega (arith, large, here, small))))

cut_behind : (front : List ℕ) (x : ℕ) (rest : List ℕ) → x < 128 → IsUtf8 (front ++ x ∷ rest) → IsUtf8 rest
cut_behind front x rest small text =
    let all = front ++ x ∷ rest in
    let within : length front < length all = seam_within front x rest in
    let here : get_or all (length front) 0 ≡ x = at_seam front x rest in
    let cut : length front + 1 ≡ suc (length front) = omega arith in
    subst IsUtf8 (ap (λ n. drop n all) cut ∙ drop_front front x rest)
    (IsUtf8-drop all (length front + 1) text
    (IsCharBoundary-after_ascii all (length front) text within (omega (arith, here, small))))

-- a front before the first part
abbrev onto_front : List ℕ → List (List ℕ) → List (List ℕ)
onto_front front [] = front ∷ []
onto_front front (part ∷ parts) = (front ++ part) ∷ parts

front_more : (front : List ℕ) (x : ℕ) (parts : List (List ℕ)) →
    onto_front (front ++ x ∷ []) parts ≡ onto_front front (onto_first x parts)
front_more front x [] = refl
front_more front x (part ∷ parts) = ap (λ l. l ∷ parts) (append_assoc front (x ∷ []) part)

append_nil : (xs : List ℕ) → xs ++ [] ≡ xs
append_nil [] = refl
append_nil (x ∷ xs) = ap (λ l. x ∷ l) (append_nil xs)

front_nil : (parts : List (List ℕ)) → AllByRecursion IsUtf8 (onto_front [] parts) → AllByRecursion IsUtf8 parts
front_nil [] all = tt
front_nil (part ∷ parts) all = all

parts_from : (front bs : List ℕ) → IsUtf8 (front ++ bs) →
    AllByRecursion IsUtf8 (onto_front front (slice_split is_blank bs))
parts_from front [] text = (text, tt)
parts_from front (x ∷ xs) text = by (is_blank x) refl (parts_from [] xs) (parts_from (front ++ x ∷ []) xs)
  where
    by : (b : Bool) → is_blank x ≡ b →
        (IsUtf8 xs → AllByRecursion IsUtf8 (onto_front [] (slice_split is_blank xs))) →
        (IsUtf8 ((front ++ x ∷ []) ++ xs) →
        AllByRecursion IsUtf8 (onto_front (front ++ x ∷ []) (slice_split is_blank xs))) →
        AllByRecursion IsUtf8
        (onto_front front (cond b ([] ∷ slice_split is_blank xs) (onto_first x (slice_split is_blank xs))))
    by true is here later = (
      subst IsUtf8 (sym (append_nil front)) (cut_before front x xs (blank_ascii x is) text),
      front_nil (slice_split is_blank xs) (here (cut_behind front x xs (blank_ascii x is) text)),
    )
    by false is here later =
        subst (AllByRecursion IsUtf8) (front_more front x (slice_split is_blank xs))
        (later (subst IsUtf8 (sym (append_assoc front (x ∷ []) xs)) text))

-- the words of a text are texts
words_text : (bs : List ℕ) → IsUtf8 bs → AllByRecursion IsUtf8 (slice_split is_blank bs)
words_text bs text = front_nil (slice_split is_blank bs) (parts_from [] bs text)

-- what is found is a text
abbrev pub IsTextIn : Option (List ℕ) → Type 0
IsTextIn None = Unit {0}
IsTextIn (Some value) = IsUtf8 value

take_all : (n : ℕ) (xs : List ℕ) → take n xs ++ drop n xs ≡ xs
take_all zero xs = refl
take_all (suc n) [] = refl
take_all (suc n) (x ∷ xs) = ap (λ l. x ∷ l) (take_all n xs)

behind_text : (front : List ℕ) (word : List ℕ) → IsUtf8 word → IsTextIn (behind_prefix (front ++ 61 ∷ []) word)
behind_text front word text = by (bytes_eq (take n word) prefix) refl
  where
    prefix : List ℕ
    prefix = front ++ 61 ∷ []

    n : ℕ
    n = length prefix

    by : (b : Bool) → bytes_eq (take n word) prefix ≡ b → IsTextIn (cond b (Some (drop n word)) None)
    by false is = tt
    by true is =
        cut_behind front 61 (drop n word) (omega arith)
        (subst IsUtf8 (sym (take_all n word) ∙ ap (λ l. l ++ drop n word) (bytes_same (take n word) prefix is)
        ∙ append_assoc front (61 ∷ []) (drop n word)) text)

either_text : (a b : Option (List ℕ)) → IsTextIn a → IsTextIn b → IsTextIn (option_or a b)
either_text None b first second = second
either_text (Some x) b first second = first

last_text : (front : List ℕ) (words : List (List ℕ)) → AllByRecursion IsUtf8 words →
    IsTextIn (last_behind (front ++ 61 ∷ []) words)
last_text front [] all = tt
last_text front (word ∷ words) all =
    either_text (last_behind (front ++ 61 ∷ []) words) (behind_prefix (front ++ 61 ∷ []) word)
    (last_text front words all.1) (behind_text front word all.0)

pub dbname_text : (conninfo : List ℕ) → IsUtf8 conninfo →
    IsTextIn (last_behind (codes "dbname=") (slice_split is_blank conninfo))
dbname_text conninfo text = last_text (codes "dbname") (slice_split is_blank conninfo) (words_text conninfo text)

pub service_text : (conninfo : List ℕ) → IsUtf8 conninfo →
    IsTextIn (last_behind (codes "service=") (slice_split is_blank conninfo))
service_text conninfo text = last_text (codes "service") (slice_split is_blank conninfo) (words_text conninfo text)

-- an empty text where nothing is found
pub or_nothing : (found : Option (Bor (List ℕ))) (other name : Bor (List ℕ)) → name ≡ unwrap_or found other →
    other.now ≡ [] → IsTextIn (option_copied found) → IsUtf8 name.now
or_nothing None other name is empty text = subst IsUtf8 (sym (ap (λ x. x.now) is ∙ empty)) IsUtf8-nil
or_nothing (Some x) other name is empty text = subst IsUtf8 (sym (ap (λ x. x.now) is)) text
