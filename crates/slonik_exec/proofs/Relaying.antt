-- What is checked of a provider that is not the owner of the set.
use Rattle.std.proofs.Common.{◌≡◌, ◌&&◌, ◌==◌, ℕ, Bool, true, not, List, [], ◌∷◌, Option, Some, None, refl, ap, is_some}
use Rattle.node_rows.specs.declared.rows.Subscription.{Subscription}
use Rattle.slon_model.specs.declared.reply.Refusal.{Refusal}
use Rattle.slon_model.specs.Deeds.{Node, knowledge, told_of}
use Rattle.slon_model.specs.Maps.{pair_at}
use Rattle.slon_model.specs.Place.{Place}
use Rattle.slon_model.specs.Sessions.{seat, when, first_refusal}
use Rattle.slon_model.specs.Subscribing.{NewFeed, is_active, is_confirmed, is_waiting}
use Rattle.app_store.specs.Base.{Base}
use Rattle.app_store.specs.Fits.{Ready}
use Rattle.node_store.specs.Reached.{has_heard, waits, is_active_at, is_waiting_at}
use Rattle.slonik_exec.specs.Answering.{is_id}
use Rattle.slonik_exec.proofs.Works.{own_test}

-- what a check of such a provider makes of it, by whether it is the owner
pub relayed_is : (p : Place) (n : Node) (old : Base) (provider : ℕ) (own lacks : Bool) (refusal : Refusal) →
    Ready p old × (p.node ≡ Some n) × (old.memory.up ≡ true) × (is_id provider old.memory.identity ≡ own) →
    first_refusal (when (not (provider == n.id) && lacks) refusal ∷ [])
    ≡ first_refusal (when (not own && lacks) refusal ∷ [])
relayed_is p n old provider own lacks refusal (ready, here, up, is) =
    ap (λ b. first_refusal (when (not b && lacks) refusal ∷ [])) (own_test p n old provider own (ready, here) up is)

-- whether a node is active, as it is looked up and by the rules
pub active_same : (name : List ℕ) (p : Place) (n : Node) (set node : ℕ) →
    is_active_at set node n ≡ is_active (seat name p n) set node
active_same name p n set node = by (pair_at set node (knowledge n).config.subscriptions)
  where
    by : (o : Option Subscription) →
        has_heard (told_of n.id n.id node (knowledge n)) o ≡ is_confirmed (seat name p n) node o
    by None = refl
    by (Some row) = refl

-- and whether it has not confirmed its subscription yet
pub waiting_same : (name : List ℕ) (p : Place) (n : Node) (f : NewFeed) →
    is_waiting_at f.set_id f.receiver n ≡ is_waiting (seat name p n) f
waiting_same name p n f = by (pair_at f.set_id f.receiver (knowledge n).config.subscriptions)
  where
    by : (o : Option Subscription) → waits (told_of n.id n.id f.receiver (knowledge n)) o
        ≡ (is_some o && not (is_confirmed (seat name p n) f.receiver o))
    by None = refl
    by (Some row) = refl
