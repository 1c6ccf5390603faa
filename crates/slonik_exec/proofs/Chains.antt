-- The way from a node up by the providers of a set's receivers.
use Rattle.std.proofs.Common.{◌≡◌, ℕ, suc, Bool, false, ◌||◌, Option, Some, None, ap, ◌∙◌}
use Rattle.std.specs.Prelude.{◌==◌}
use Rattle.std.specs.Option.{option_map}
use Rattle.node_rows.specs.declared.rows.Subscription.{Subscription}
use Rattle.slon_model.specs.Maps.{Map, entry_at}
use Rattle.slon_model.specs.Subscribing.{has_provider, leads_to}

by_provider : (test : ℕ → Bool) (next : ℕ) (row : Option Subscription) →
    option_map (λ r. r.provider) row ≡ Some next → has_provider test row ≡ test next
by_provider test next None is = cc
by_provider test next (Some row) is = ap test cc

-- one step up, from a node that is not the receiver
pub step_up : (k receiver node next : ℕ) (rows : Map Subscription) → (node == receiver) ≡ false →
    option_map (λ row. row.provider) (entry_at node rows) ≡ Some next →
    leads_to (suc (suc k)) receiver rows node ≡ leads_to (suc k) receiver rows next
step_up k receiver node next rows other is =
    ap (λ b. b || has_provider (leads_to (suc k) receiver rows) (entry_at node rows)) other
    ∙ by_provider (leads_to (suc k) receiver rows) next (entry_at node rows) is
