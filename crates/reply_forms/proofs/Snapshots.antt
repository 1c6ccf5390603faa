-- A printed snapshot is one word.
use Rattle.std.proofs.Common.{◌≡◌, ℕ, zero, suc, ◌/◌, ◌%◌, true, false, cond, List, [], ◌∷◌, ◌++◌, map, refl}
use Rattle.std.proofs.Common.{◌∙◌, arith}
use Rattle.std.specs.Prelude.{◌==◌, codes}
use Rattle.std.specs.List.{AllByRecursion, list_all}
use Rattle.std.specs.Fmt.{decimal, digits, digits_onto, digit_glyph}
use Rattle.std.proofs.lemmas.Bool.{and_from}
use Rattle.std.proofs.lemmas.Bool.Decides.{nat_tests}
use Rattle.std.proofs.lemmas.List.Folds.{list_all-append}
use Rattle.slon_model.specs.Snapshots.{Snapshot, ids_text, snapshot_text}
use Rattle.slon_model.specs.Views.{View}
use Rattle.slon_model.specs.Deeds.{Node, knowledge}
use Rattle.slon_model.specs.Place.{kept_text, kept_of}
use Rattle.session_text.specs.Replies.{is_word_byte, KeptHasForm}

-- no space and no newline
abbrev IsWord : List ℕ → Type 0
IsWord text = list_all is_word_byte text ≡ true

joined : (xs ys : List ℕ) → IsWord xs → IsWord ys → IsWord (xs ++ ys)
joined xs ys one other = list_all-append is_word_byte xs ys ∙ and_from _ _ one other

-- ---- numbers

-- a digit is no space and no newline
digit_byte : (d : ℕ) → is_word_byte (digit_glyph false d) ≡ true
digit_byte d = grind (arith, nat_tests)

onto_word : (k n : ℕ) (behind : List ℕ) → IsWord behind → IsWord (digits_onto k 10 false n behind)
onto_word zero n behind word = word
onto_word (suc k) n behind word =
    elim (n / 10 == 0) as (λ b. IsWord (cond b (digit_glyph false (n % 10) ∷ behind)
    (digits_onto k 10 false (n / 10) (digit_glyph false (n % 10) ∷ behind)))) [
      | true ↦ and_from _ _ (digit_byte (n % 10)) word
      | false ↦ onto_word k (n / 10) (digit_glyph false (n % 10) ∷ behind) (and_from _ _ (digit_byte (n % 10)) word)
    ]

decimal_word : (n : ℕ) → IsWord (decimal n)
unfolding digits
decimal_word n = onto_word 64 n [] refl

-- ---- snapshots

ids_word : (xs : List ℕ) → IsWord (ids_text xs)
ids_word [] = refl
ids_word (x ∷ []) = decimal_word x
ids_word (x ∷ y ∷ more) =
    joined (decimal x ++ codes ",") (ids_text (y ∷ more)) (joined (decimal x) (codes ",") (decimal_word x) refl)
    (ids_word (y ∷ more))

snapshot_word : (s : Snapshot) → IsWord (snapshot_text s)
snapshot_word s =
    joined (decimal s.xmin ++ codes ":" ++ decimal s.xmax ++ codes ":") (ids_text s.running)
    (joined (decimal s.xmin ++ codes ":" ++ decimal s.xmax) (codes ":")
    (joined (decimal s.xmin ++ codes ":") (decimal s.xmax)
    (joined (decimal s.xmin) (codes ":") (decimal_word s.xmin) refl) (decimal_word s.xmax)) refl) (ids_word s.running)

-- ---- the sets of which a node keeps progress

texts_formed : (views : List (ℕ × View)) → AllByRecursion KeptHasForm (map kept_text views)
texts_formed [] = tt
texts_formed (v ∷ views) = (snapshot_word v.1.seen, texts_formed views)

pub kept_formed : (n : Node) → AllByRecursion KeptHasForm (kept_of n)
kept_formed n = texts_formed (knowledge n).views
