-- What a node can tell another one of how far nodes are in the streams, and what it hears of that.
use Rattle.std.specs.Prelude.{◌≡◌, ◌⊎◌, ℕ, ◌==◌, ◌&&◌, not, nat_lt, Bool, List, [], ◌∷◌, map, flat_map}
use Rattle.slon_base.specs.Keeper.{Store}
use Rattle.slon_model.specs.Maps.{Map}
use Rattle.slon_model.specs.Deeds.{told_progress}
use Rattle.event_store.specs.Formed.{HasProgress, Lacks}
use Rattle.event_store.specs.Giving.{Confirmation, IsConfirmation}
use Rattle.event_store.specs.Hearing.{number_of, IsRaised}
use Rattle.event_store.specs.Streams.{Streams}

-- ---- what is told

-- what is known of a stream, node by node
abbrev pub confirmed_in : ℕ × Map ℕ → List Confirmation
confirmed_in row = map (λ c. ((row.0, c.0), c.1)) row.1

-- how far each node is in each stream, as a node knows it, how far it is itself among it, ascending by origin and node
abbrev pub confirmations_of : Streams → List Confirmation
confirmations_of s = flat_map confirmed_in (told_progress s.own s.progress s.told)

-- ---- what is heard

-- A confirmation that is news for a node: not of a node in its own stream, not of the node itself, and above what it
-- has.
abbrev pub is_news : Streams → Confirmation → Bool
is_news s r = not (r.0.1 == r.0.0) && (not (r.0.1 == s.own) && nat_lt (number_of s r.0) r.1)

-- it is of another node than this one, and not of a node in its own stream
pub record IsOfOther (own : ℕ) (r : Confirmation) : Type 0 where
  pub can : IsConfirmation r
  pub other : r.0.1 ≡ own → ⊥
  pub foreign : r.0.1 ≡ r.0.0 → ⊥

-- as the rules name it: the origin, the node, and how far that is
abbrev pub named : Confirmation → ℕ × ℕ × ℕ
named r = (r.0.0, r.0.1, r.1)

-- What stands is raised by these numbers, one after the other.
abbrev pub AreRaised : List Confirmation → Store → Store → Type 0
AreRaised [] m n = n ≡ m
AreRaised (r ∷ rs) m n = (k : Store) × (rose : Bool) × IsRaised r.0 r.1 rose m k × AreRaised rs k n

-- ---- which rows are read for that, and are not in their form

abbrev pub HandedRow : Store → ℕ → Confirmation → ℕ → Type 0
HandedRow m own r space =
    (r.0.1 ≡ r.0.0 → ⊥) × (r.0.1 ≡ own → ⊥) × Lacks 11 (HasProgress r.0.1 r.0.0 m) space

abbrev pub HandedRows : Store → ℕ → List Confirmation → ℕ → Type 0
HandedRows m own [] space = ⊥
HandedRows m own (r ∷ rs) space = HandedRow m own r space ⊎ HandedRows m own rs space
