-- What a node is told of how far other nodes are in the streams.
use Rattle.std.specs.Prelude.{◌≡◌, ◌⊎◌, ℕ, ◌≤◌, ◌==◌, max, nat_lt, if◌then◌else◌}
use Rattle.std.specs.Prelude.{Bool, List, [], ◌∷◌, Option, Some, None, Result, Ok, Err, unwrap_or}
use Rattle.std.specs.Option.{option_map}
use Rattle.std.specs.FinMap.{get}
use Rattle.slon_base.specs.Codec.{number_bytes, AllAre}
use Rattle.slon_base.specs.Keeper.{Store, Kept, put_at}
use Rattle.store_rows.specs.Space.{IsPending, AllOf}
use Rattle.store_rows.specs.Steps.{IsOutside}
use Rattle.store_rows.specs.declared.stop.Stop.{Stop}
use Rattle.slon_model.specs.Maps.{with_pair}
use Rattle.set_config.specs.Holds.{AreIds, pair_key}
use Rattle.event_store.specs.Formed.{HasProgress, Lacks}
use Rattle.event_store.specs.Giving.{HearsOfOthers}
use Rattle.event_store.specs.Holds.{ShowsStreams}
use Rattle.event_store.specs.Spellings.{IsStored}
use Rattle.event_store.specs.Streams.{Streams, confirmed_at}

-- ---- what stands, by the ids of the origin and of the node

-- how far the node is, and 0 where nothing says so
abbrev pub number_of : Streams → ℕ × ℕ → ℕ
number_of s i = unwrap_or (confirmed_at s i) 0

-- the same of whatever a store has at the key of the two ids
pub record Stands (m : Store) (i : ℕ × ℕ) (number : ℕ) : Type 0 where
  pub row : Option ℕ
  pub can : AllOf IsStored row
  pub spelled : get (m 11) (pair_key i) ≡ option_map number_bytes row
  pub is : number ≡ unwrap_or row 0

-- ---- what is told

-- the node is told that another one is as far as this in the stream of an origin
abbrev pub confirmed_by : ℕ → ℕ → ℕ → Streams → Streams
confirmed_by origin node number s =
    let above = nat_lt (number_of s (origin, node)) number in
    record s { told = if above then with_pair origin node number s.told else s.told }

-- It is answered whether the number was above what stood, and what is pending is what the node has then. Or there was
-- no memory, or the store failed.
abbrev pub Hears : Store → Streams → ℕ × ℕ → ℕ → Kept → Result Bool Stop → Type 0
Hears base s i number new (Ok rose) =
    (rose ≡ nat_lt (number_of s i) number) × IsPending (ShowsStreams base (confirmed_by i.0 i.1 number s)) new
Hears base s i number new (Err stop) = IsOutside stop

-- at the key of the two ids stands the greater of this number and what stood, and all else is as it was
pub record IsRaised (i : ℕ × ℕ) (number : ℕ) (rose : Bool) (m n : Store) : Type 0 where
  pub old : ℕ
  pub stood : Stands m i old
  pub stands : Stands n i (max old number)
  pub rises : rose ≡ nat_lt old number
  pub is : n ≡ (if rose then put_at 11 (pair_key i) (number_bytes number) m else m)

-- ---- who is least far

-- one more node, with how far it is: the lesser of both, and what was found before where both are as far
abbrev pub lesser : Option (ℕ × ℕ) → ℕ × ℕ → ℕ × ℕ
lesser None q = q
lesser (Some p) q = if nat_lt q.1 p.1 then q else p

-- the origin of a stream is left out
abbrev pub with_node : Streams → ℕ → Option (ℕ × ℕ) → ℕ → Option (ℕ × ℕ)
with_node s origin least node_id =
    if node_id == origin then least else Some (lesser least (node_id, number_of s (origin, node_id)))

-- these nodes, one after the other
abbrev pub least_from : Streams → ℕ → Option (ℕ × ℕ) → List ℕ → Option (ℕ × ℕ)
least_from s origin least [] = least
least_from s origin least (n ∷ ns) = least_from s origin (with_node s origin least n) ns

-- The first of these nodes that are least far in the stream of the origin, and how far it is. The origin itself is left
-- out; where no other is, it is answered with how far the node itself is.
abbrev pub least_confirmed : Streams → ℕ → List ℕ → ℕ × ℕ
least_confirmed s origin known = unwrap_or (least_from s origin None known) (origin, number_of s (origin, s.own))

-- ---- which rows are read for that, and are not in their form

abbrev pub HandedNode : Store → ℕ → ℕ → ℕ → Type 0
HandedNode m origin n space = (n ≡ origin → ⊥) × Lacks 11 (HasProgress n origin m) space

abbrev pub HandedNodes : Store → ℕ → List ℕ → ℕ → Type 0
HandedNodes m origin [] space = ⊥
HandedNodes m origin (n ∷ ns) space = HandedNode m origin n space ⊎ HandedNodes m origin ns space

-- the row of the node itself is read where these are the origin alone
abbrev pub AreOrigin : ℕ → List ℕ → Type 0
AreOrigin origin known = AllAre (λ n. n ≡ origin) known

abbrev pub HandedLeast : Store → ℕ → ℕ → List ℕ → ℕ → Type 0
HandedLeast m own origin known space =
    HandedNodes m origin known space ⊎ (AreOrigin origin known × Lacks 11 (HasProgress own origin m) space)

-- ---- laws

-- A node that is told of another one goes on hearing of others alone.
abbrev pub ConfirmingHears : Type 0
ConfirmingHears = (origin node number : ℕ) (s : Streams) → (node ≡ s.own → ⊥) → HearsOfOthers s →
    HearsOfOthers (confirmed_by origin node number s)

-- From then on the other one is as far as the greater of both numbers.
abbrev pub ConfirmingRaises : Type 0
ConfirmingRaises = (origin node number : ℕ) (s : Streams) → (node ≡ s.own → ⊥) →
    number_of (confirmed_by origin node number s) (origin, node) ≡ max (number_of s (origin, node)) number

-- Of no other node, and of no other origin, anything changes.
abbrev pub ConfirmingStays : Type 0
ConfirmingStays = (origin node number : ℕ) (s : Streams) (j : ℕ × ℕ) → AreIds j → (j ≡ (origin, node) → ⊥) →
    confirmed_at (confirmed_by origin node number s) j ≡ confirmed_at s j

-- Each of the nodes but the origin is at least as far as the one that is least far.
abbrev pub LeastIsLeast : Type 0
LeastIsLeast = (s : Streams) (origin : ℕ) (known : List ℕ) →
    AllAre (λ n. (n ≡ origin → ⊥) → (least_confirmed s origin known).1 ≤ number_of s (origin, n)) known
