-- Pieces, one behind the other.
use Rattle.std.proofs.Common.{◌≡◌, ◌∙◌, ℕ, List, [], ◌∷◌, ◌++◌, sym, ap, append-nil}
use Rattle.std.specs.List.{concat}
use Rattle.std.proofs.lemmas.List.Folds.{concat-append}

-- all bytes with one more piece
pub concat_more : (pieces : List (List ℕ)) (bytes piece : List ℕ) → bytes ≡ concat pieces →
    bytes ++ piece ≡ concat (pieces ++ piece ∷ [])
concat_more pieces bytes piece is =
    ap (λ b. b ++ piece) is ∙ ap (λ p. concat pieces ++ p) (sym (append-nil piece))
    ∙ sym (concat-append pieces (piece ∷ []))
