-- Values joined by commas.
use Rattle.std.proofs.Common.{◌≡◌, ℕ, List, [], ◌∷◌, ◌++◌, sym, ap, ◌∙◌, append_assoc}
use Rattle.std.proofs.lemmas.List.{append-nil}
use Rattle.slon_model.specs.Printed.{joined}
use Rattle.session_text.specs.Joining.{behind_commas}

-- each value but the first stands behind a comma
pub joined_first : (value : List ℕ) (more : List (List ℕ)) → joined (value ∷ more) ≡ value ++ behind_commas more
joined_first value [] = sym (append-nil value)
joined_first value (next ∷ more) =
    append_assoc value (44 ∷ []) (joined (next ∷ more)) ∙ ap (λ l. value ++ 44 ∷ l) (joined_first next more)
