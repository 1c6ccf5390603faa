-- What the deeds of a node change in its streams.
use Rattle.std.specs.Prelude.{◌≡◌, ℕ, ◌<◌, true, List, [], ◌∷◌}
use Rattle.std.specs.FinMap.{empty}
use Rattle.std.specs.List.{AllByRecursion}
use Rattle.slon_base.specs.Keeper.{Store}
use Rattle.store_rows.specs.Rows.{IsId}
use Rattle.set_config.specs.Holds.{AreIds}
use Rattle.slon_model.specs.Maps.{number_at}
use Rattle.slon_model.specs.Events.{Event}
use Rattle.slon_model.specs.Deeds.{Node, Deed, Doing, Brought, Emits, Applies, Commits, Hears, heard, knowledge}
use Rattle.slon_model.specs.Deeds.{with_deeds}
use Rattle.slon_model.specs.Views.{views_emitted, views_told, with_views}
use Rattle.slon_model.specs.Sessions.{Running}
use Rattle.slon_model.specs.Membership.{first_of_cluster, joining}
use Rattle.event_store.specs.Keeping.{KeepsViews}
use Rattle.event_store.specs.Streams.{Streams, streams_of, emitted, given}
use Rattle.event_store.specs.Holds.{HoldsStreams, is_stream}
use Rattle.event_store.specs.Regular.{IsRegular}
use Rattle.event_store.specs.Spellings.{IsNumbered}

-- it is behind all that the node has deleted of its origin
abbrev pub IsBehindLow : Event → Node → Type 0
IsBehindLow e n = number_at e.origin (knowledge n).low < e.number

-- Emitting adds the event to what the node has, and changes the views as the body of the event says.
abbrev pub EmittingAdds : Type 0
EmittingAdds = (n : Node) (d : Deed) (e : Event) → d.doing ≡ Emits e → IsBehindLow e n →
    streams_of (with_deeds (d ∷ []) n)
    ≡ record (emitted e (streams_of n)) { views = views_emitted e e.body (streams_of n).views }

-- An event that keeps the views changes nothing else.
abbrev pub KeepingAdds : Type 0
KeepingAdds = (n : Node) (d : Deed) (e : Event) → d.doing ≡ Emits e → IsBehindLow e n → KeepsViews e.body →
    streams_of (with_deeds (d ∷ []) n) ≡ emitted e (streams_of n)

-- Applying an event of another node adds it to what the node has, changes the views as the event tells how the node
-- receives a set, and it keeps of sets what it brings of them.
abbrev pub ApplyingAdds : Type 0
ApplyingAdds = (n : Node) (d : Deed) (e : Event) (b : Brought) → d.doing ≡ Applies e b → IsBehindLow e n →
    streams_of (with_deeds (d ∷ []) n)
    ≡ record (emitted e (streams_of n)) {
      views = with_views b.views (views_told n.id e.body (knowledge n).config (streams_of n).views);
    }

-- What an application commits changes nothing of the streams.
abbrev pub CommittingStays : Type 0
CommittingStays = (n : Node) (d : Deed) (xid : ℕ) → d.doing ≡ Commits xid →
    streams_of (with_deeds (d ∷ []) n) ≡ streams_of n

-- Confirmations change what the node was told of others, and nothing else of the streams.
abbrev pub HearingAdds : Type 0
HearingAdds = (n : Node) (d : Deed) (confirms : List (ℕ × ℕ × ℕ)) → d.doing ≡ Hears confirms →
    streams_of (with_deeds (d ∷ []) n)
    ≡ record (streams_of n) { told = heard confirms (streams_of n).told }

-- the event has a name in a store, and is behind all events of its origin that the node met
abbrev pub IsNewAt : Node → Event → Type 0
IsNewAt n e = IsNumbered (e.origin, e.number) × (number_at e.origin (knowledge n).progress < e.number)

-- what it emits or applies is new there, the sets of which it brings something have a name in a store, and what it
-- hears is no confirmation of its own
abbrev pub GoesOn : Node → Doing → Type 0
GoesOn n (Emits e) = IsNewAt n e × KeepsViews e.body
GoesOn n (Applies e b) = IsNewAt n e × AllByRecursion (λ v. IsId v.0) b.views
GoesOn n (Hears confirms) = AllByRecursion (λ c. (c.1 ≡ n.id → ⊥) × AreIds (c.0, c.1)) confirms
GoesOn n others = Unit {0}

-- Whatever it does so, what holds of the streams of every node holds of its streams still.
abbrev pub RegularStays : Type 0
RegularStays = (n : Node) (d : Deed) → GoesOn n d.doing → IsRegular (streams_of n) →
    IsRegular (streams_of (with_deeds (d ∷ []) n))

-- ---- nodes that begin

-- The first node of a cluster has nothing of the streams, and an empty store holds that.
abbrev pub FirstHasNone : Type 0
FirstHasNone = (id : ℕ) (comment : List ℕ) (run : Running) (m : Store) →
    ((space : ℕ) → is_stream space ≡ true → m space ≡ empty) →
    HoldsStreams (streams_of (first_of_cluster id comment run)) m

-- A node that joins a cluster has what it is given.
abbrev pub JoiningGives : Type 0
JoiningGives = (id : ℕ) (n : Node) (run : Running) → streams_of (joining id n run) ≡ given id (streams_of n)

-- It holds of both what holds of the streams of every node.
abbrev pub FirstRegular : Type 0
FirstRegular = (id : ℕ) (comment : List ℕ) (run : Running) → IsRegular (streams_of (first_of_cluster id comment run))

abbrev pub GivenRegular : Type 0
GivenRegular = (id : ℕ) (s : Streams) → IsId id → IsId s.own → IsRegular s → IsRegular (given id s)
