-- How far a node is, and how far it heard others, as its streams have it.
use Rattle.std.proofs.Common.{◌≡◌, ◌∙◌, ℕ, Bool, true, false, ap, refl}
use Rattle.std.specs.Prelude.{◌==◌, if◌then◌else◌, unwrap_or}
use Rattle.slon_model.specs.Deeds.{Node, knowledge, progress, told_of}
use Rattle.slon_model.specs.Maps.{entry_at, number_at, pair_at, row_at}
use Rattle.set_config.proofs.Entries.{self_eq}
use Rattle.event_store.specs.Streams.{confirmed_at, streams_of}

-- what it was told of a node in the stream of an origin
pub told_at : (n : Node) (origin node : ℕ) →
    unwrap_or (confirmed_at (streams_of n) (origin, node)) 0 ≡ told_of n.id origin node (knowledge n)
told_at n origin node = by (node == n.id)
  where
    by : (b : Bool) →
        unwrap_or (if b then entry_at origin (knowledge n).progress else pair_at origin node (knowledge n).told) 0
        ≡ (if b then progress origin (knowledge n) else number_at node (row_at origin (knowledge n).told))
    by true = refl
    by false = refl

-- of itself it is how far it is
pub own_at : (n : Node) (origin own : ℕ) → own ≡ n.id →
    unwrap_or (confirmed_at (streams_of n) (origin, own)) 0 ≡ progress origin (knowledge n)
own_at n origin own is =
    told_at n origin own
    ∙ ap (λ b. if b then progress origin (knowledge n) else number_at own (row_at origin (knowledge n).told))
    (ap (λ id. id == n.id) is ∙ self_eq n.id)
