-- Statements about receivers: SUBSCRIBE SET, UNSUBSCRIBE SET.
use Rattle.std.specs.Prelude.{ℕ, zero, suc, ◌==◌, ◌&&◌, ◌||◌, not, nat_le, is_some, is_none, Bool, false, List, []}
use Rattle.std.specs.Prelude.{◌∷◌, length, Option, Some, None, unwrap_or, Result}
use Rattle.std.specs.List.{list_any}
use Rattle.slon_model.specs.declared.reply.Refusal.{Refusal}
use Rattle.slon_model.specs.declared.reply.Refusal.TheVariants as refused
use Rattle.slon_model.specs.Maps.{Map, entry_at, pair_at}
use Rattle.node_rows.specs.declared.body.Body.{Body}
use Rattle.node_rows.specs.declared.body.Body.TheVariants.{Sync, SubscribeSet, EnableSubscription, UnsubscribeSet}
use Rattle.node_rows.specs.declared.rows.Subscription.{Subscription}
use Rattle.slon_model.specs.Config.{Config, forwards, is_known, era_of, receivers}
use Rattle.slon_model.specs.Deeds.{told_of}
use Rattle.slon_model.specs.Sessions.{World, Running, Seat, Stated, Emission, bind, when, checked, tells}
use Rattle.slon_model.specs.Reaching.{owner, emitting}

-- A node that is to receive a set from another one, and whether it is to forward it.
pub record NewFeed : Type 0 where
  pub set_id : ℕ
  pub provider : ℕ
  pub receiver : ℕ
  pub forward : Bool

-- a FORWARD that is left out means that it is not
abbrev pub subscribing : ℕ → ℕ → ℕ → Option Bool → NewFeed
subscribing set provider receiver forward =
    record { set_id = set; provider = provider; receiver = receiver; forward = unwrap_or forward false }

-- the receiver of the set has a subscription, and has confirmed the last event on it to the origin at this seat
abbrev pub is_confirmed : Seat → ℕ → Option Subscription → Bool
is_confirmed s node None = false
is_confirmed s node (Some row) = nat_le row.mark (told_of s.node.id s.node.id node s.known)

abbrev pub is_active : Seat → ℕ → ℕ → Bool
is_active s set node = is_confirmed s node (pair_at set node s.known.config.subscriptions)

-- the provider is another node than the origin
abbrev pub is_relayed : Seat → NewFeed → Bool
is_relayed s f = not (f.provider == s.node.id)

-- the receiver subscribes to the set, and has not confirmed the last event on its subscription
abbrev pub is_waiting : Seat → NewFeed → Bool
is_waiting s f =
    is_some (pair_at f.set_id f.receiver s.known.config.subscriptions) && not (is_active s f.set_id f.receiver)

-- some receiver of the set has it from this node
abbrev pub provides : ℕ → ℕ → Config → Bool
provides node set c = list_any (λ e. e.1.provider == node) (receivers set c)

-- the receiver is not to forward the set, which another one has from it
abbrev pub is_provider : Seat → NewFeed → Bool
is_provider s f = not f.forward && provides f.receiver f.set_id s.known.config

-- the provider of a subscription passes the test
abbrev pub has_provider : (ℕ → Bool) → Option Subscription → Bool
has_provider test None = false
has_provider test (Some row) = test row.provider

-- from a node one comes to the receiver by the providers of these subscriptions, in fewer steps than the number says
abbrev pub leads_to : ℕ → ℕ → Map Subscription → ℕ → Bool
leads_to zero receiver rows node = false
leads_to (suc n) receiver rows node =
    node == receiver || has_provider (leads_to n receiver rows) (entry_at node rows)

-- the provider has the set from the receiver, directly or by others
abbrev pub is_below : Seat → NewFeed → Bool
is_below s f =
    let rows = receivers f.set_id s.known.config in leads_to (suc (length rows)) f.receiver rows f.provider

-- 44 of the receiver, 44 of the provider; 78 the receiver is the origin or the provider; of a provider that is not the
-- origin 72 it is not active, 73 it does not forward the set; 72 of a receiver that has not confirmed its subscription;
-- 46 it is to stop forwarding while it provides; 59 the provider is below it
abbrev pub feed_checks : Seat → NewFeed → List (Option Refusal)
feed_checks s f =
    when (not (is_known f.receiver s.known.config)) (refused.NoNode f.receiver)
    ∷ when (not (is_known f.provider s.known.config)) (refused.NoNode f.provider)
    ∷ when (f.receiver == s.node.id || f.receiver == f.provider) (refused.SameNode f.receiver)
    ∷ when (is_relayed s f && not (is_active s f.set_id f.provider)) (refused.NotActive f.provider)
    ∷ when (is_relayed s f && not (forwards f.set_id f.provider s.known.config)) (refused.NotForwarding f.provider)
    ∷ when (is_waiting s f) (refused.NotActive f.receiver)
    ∷ when (is_provider s f) (refused.HasReceivers f.receiver)
    ∷ when (is_below s f) (refused.Loop f.set_id) ∷ []

-- what the origin emits of a new subscription: a SYNC, the subscription, and the event at which the receiver copies the
-- set
abbrev pub feed_bodies : ℕ → NewFeed → List Body
feed_bodies era f =
    Sync ∷ SubscribeSet f.set_id f.provider f.receiver f.forward
    ∷ EnableSubscription f.set_id f.provider f.receiver f.forward era ∷ []

-- of one that is there, which the receiver has copied
abbrev pub changed_bodies : NewFeed → List Body
changed_bodies f = Sync ∷ SubscribeSet f.set_id f.provider f.receiver f.forward ∷ []

abbrev pub bodies_of : ℕ → NewFeed → Option Subscription → List Body
bodies_of era f None = feed_bodies era f
bodies_of era f (Some row) = changed_bodies f

-- of that which the origin has
abbrev pub told_bodies : NewFeed → Config → List Body
told_bodies f c = bodies_of (era_of f.set_id c) f (pair_at f.set_id f.receiver c.subscriptions)

abbrev pub all_tell : List Body → List Emission
all_tell [] = []
all_tell (body ∷ more) = tells body ∷ all_tell more

-- what the owner makes of it
abbrev pub fed_at : NewFeed → Seat → Result Stated Refusal
fed_at f s = checked (feed_checks s f) (emitting s (all_tell (told_bodies f s.known.config)))

-- SUBSCRIBE SET: 47 nobody owns the set; and then the checks of its owner
abbrev pub subscribe_set : NewFeed → Running → World → Result Stated Refusal
subscribe_set f run w = bind (owner run f.set_id w) (fed_at f)

-- ---- a subscription ends

-- the receiver has no subscription to the set
abbrev pub is_unfed : ℕ → ℕ → Config → Bool
is_unfed set receiver c = is_none (pair_at set receiver c.subscriptions)

-- 72 it is none of its receivers; 46 another node has the set from it
abbrev pub leave_checks : ℕ → ℕ → Config → List (Option Refusal)
leave_checks set receiver c =
    when (is_unfed set receiver c) (refused.NotActive receiver)
    ∷ when (provides receiver set c) (refused.HasReceivers receiver) ∷ []

-- what the owner makes of it
abbrev pub left_at : ℕ → ℕ → Seat → Result Stated Refusal
left_at set receiver s =
    checked (leave_checks set receiver s.known.config) (emitting s (tells (UnsubscribeSet set receiver) ∷ []))

-- UNSUBSCRIBE SET: 47 nobody owns the set; and then the checks of its owner
abbrev pub unsubscribe_set : ℕ → ℕ → Running → World → Result Stated Refusal
unsubscribe_set set receiver run w = bind (owner run set w) (left_at set receiver)
