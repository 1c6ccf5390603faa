-- Whether a node takes part in a set, by what another one has heard of it.
use Rattle.std.specs.Prelude.{ℕ, nat_le, not, Bool, false, Option, Some, None}
use Rattle.node_rows.specs.declared.rows.Subscription.{Subscription}
use Rattle.slon_model.specs.Deeds.{Node, knowledge, told_of}
use Rattle.slon_model.specs.Maps.{pair_at}

-- a node that has met the event of this number has met the last event on its subscription
abbrev pub has_heard : ℕ → Option Subscription → Bool
has_heard number None = false
has_heard number (Some row) = nat_le row.mark number

-- the node receives the set, and has confirmed the last event on that
abbrev pub is_active_at : ℕ → ℕ → Node → Bool
is_active_at set node n =
    has_heard (told_of n.id n.id node (knowledge n)) (pair_at set node (knowledge n).config.subscriptions)

-- it has not met that event
abbrev pub waits : ℕ → Option Subscription → Bool
waits number None = false
waits number (Some row) = not (nat_le row.mark number)

-- the node receives the set, and has not confirmed the last event on that
abbrev pub is_waiting_at : ℕ → ℕ → Node → Bool
is_waiting_at set node n =
    waits (told_of n.id n.id node (knowledge n)) (pair_at set node (knowledge n).config.subscriptions)
