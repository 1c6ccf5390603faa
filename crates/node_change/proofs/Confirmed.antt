-- A node that is told how far other nodes are.
use Rattle.std.proofs.Common.{◌≡◌, ℕ, List, [], ◌∷◌, ◌++◌, map, Result, Ok, Err, refl, sym, subst, ◌∙◌}
use Rattle.slon_base.specs.Codec.{AllAre}
use Rattle.slon_base.specs.Keeper.{Store, Kept}
use Rattle.store_rows.specs.Space.{Becomes}
use Rattle.store_rows.specs.declared.stop.Stop.{Stop}
use Rattle.store_rows.proofs.Spaces.{pending_as}
use Rattle.slon_model.specs.Deeds.{Node, Deed, Doing, Hears, Logged, heard, knowledge, with_deeds}
use Rattle.slon_model.specs.Logs.{logged}
use Rattle.event_store.specs.Following.{GoesOn}
use Rattle.event_store.specs.Holds.{HoldsStreams, ShowsStreams}
use Rattle.event_store.specs.Giving.{Confirmation}
use Rattle.event_store.specs.Streams.{Streams, streams_of}
use Rattle.event_store.specs.Telling.{IsOfOther, named}
use Rattle.event_store.proofs.Apart.{config_stays}
use Rattle.event_store.proofs.Deeds.{hearing_adds}
use Rattle.event_store.proofs.Holding.{moved}
use Rattle.event_store.proofs.Regular.{regular_stays}
use Rattle.log_switch.specs.Holds.{HoldsLog}
use Rattle.node_state.specs.Held.{NodeHeld, items_of}
use Rattle.node_change.specs.Done.{HasHeard}
use Rattle.node_change.proofs.Spaces.{IsElse, own_else, spare_else, no_stream}

-- the streams of a node that heard these
abbrev pub streams_told : List (ℕ × ℕ × ℕ) → Streams → Streams
streams_told confirms s = record s { told = heard confirms s.told }

-- Confirmations that a node hears: what the store held, and what it holds now.
pub record Hearing (n : Node) (confirms : List (ℕ × ℕ × ℕ)) (m new : Store) : Type 0 where
  pub held : NodeHeld n m
  pub goes : GoesOn n (Hears confirms)
  pub streams : ShowsStreams m (streams_told confirms (streams_of n)) new

-- a space that is none of the node's stays
stays : {n : Node} {confirms : List (ℕ × ℕ × ℕ)} {m new : Store} → Hearing n confirms m new → (space : ℕ) →
    IsElse space → new space ≡ m space
stays h space other = h.streams.others space (no_stream space other)

hears_held : {n : Node} {confirms : List (ℕ × ℕ × ℕ)} {m new : Store} → Hearing n confirms m new → (d : Deed) →
    d.doing ≡ Hears confirms → d.logs ≡ [] → NodeHeld (with_deeds (d ∷ []) n) new
hears_held {n} {confirms} {m} {new} h d is none =
    subst (λ (doing : Doing). NodeHeld (with_deeds (record d { doing = doing } ∷ []) n) new) (sym is) hears
  where
    done : Deed
    done = record d { doing = Hears confirms }

    hears : NodeHeld (with_deeds (done ∷ []) n) new
    hears = record {
      id = h.held.id;
      cluster = h.held.cluster;
      config = config_stays m new (streams_told confirms (streams_of n)) (knowledge n).config h.streams h.held.config;
      orderly = h.held.orderly;
      homes = h.held.homes;
      self = h.held.self;
      met = h.held.met;
      streams = subst (λ s. HoldsStreams s new) (sym (hearing_adds n done confirms refl)) h.streams.streams;
      log = subst (λ (logs : List Logged). HoldsLog (items_of (logs ++ logged n)) new) (sym none)
          (moved (sym (h.streams.others 15 refl)) h.held.log);
      status = h.held.status;
      behind = h.held.behind;
      regular = regular_stays n done h.goes h.held.regular;
      spare = λ space other spare. stays h space (spare_else space spare) ∙ h.held.spare space other spare;
    }

pub has_heard : {n : Node} {confirms : List (ℕ × ℕ × ℕ)} {m new : Store} → Hearing n confirms m new →
    HasHeard n confirms m new
has_heard h = record { held = hears_held h; own = λ space own. stays h space (own_else space own) }

-- confirmations of other nodes are what such a node may hear
pub goes_named : (n : Node) (own : ℕ) (rows : List Confirmation) → AllAre (IsOfOther own) rows →
    GoesOn (record n { id = own }) (Hears (map named rows))
goes_named n own [] all = tt
goes_named n own (r ∷ rs) all = ((all.0.other, all.0.can.0), goes_named n own rs all.1)

pub becomes_as : {T : Type 0} {P Q : Store → Type 0} (new : Kept) → ((m : Store) → P m → Q m) →
    (result : Result T Stop) → Becomes P new result → Becomes Q new result
becomes_as new on (Ok x) has = pending_as on has
becomes_as new on (Err stop) outside = outside
