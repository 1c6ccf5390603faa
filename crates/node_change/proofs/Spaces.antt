-- The spaces of a database apart from those of the node that it is.
use Rattle.std.proofs.Common.{◌≡◌, ℕ, true, false, refl, sym, ap, ◌∙◌}
use Rattle.std.specs.Prelude.{◌==◌, ◌||◌}
use Rattle.std.proofs.lemmas.Bool.{false≢true}
use Rattle.set_config.proofs.Entries.{not_eq}
use Rattle.set_config.specs.Holds.{is_config}
use Rattle.event_store.specs.Holds.{is_stream}
use Rattle.node_state.specs.Held.{is_own, is_of_node}

-- a space that is none of the node's
abbrev pub IsElse : ℕ → Type 0
IsElse space = (used : ℕ) → is_of_node used ≡ true → is_own used ≡ false → (space == used) ≡ false

pub own_else : (space : ℕ) → is_own space ≡ true → IsElse space
own_else space own used of other =
    not_eq space used (λ same. false≢true (sym other ∙ ap is_own (sym same) ∙ own))

pub spare_else : (space : ℕ) → is_of_node space ≡ false → IsElse space
spare_else space spare used of other =
    not_eq space used (λ same. false≢true (sym spare ∙ ap is_of_node same ∙ of))

pub no_config : (space : ℕ) → IsElse space → is_config space ≡ false
no_config space other = λ k.
    other 4 refl refl k || other 5 refl refl k || other 6 refl refl k || other 7 refl refl k || other 8 refl refl k
    || other 14 refl refl k

pub no_stream : (space : ℕ) → IsElse space → is_stream space ≡ false
no_stream space other = λ k.
    other 9 refl refl k || other 10 refl refl k || other 11 refl refl k || other 12 refl refl k || other 13 refl refl k
