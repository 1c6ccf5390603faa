-- How the rows of a node's store are spelled, and which can be.
use Rattle.std.specs.Prelude.{ℕ, ◌<◌, ◌^◌, Bool, true, false, List, [], ◌∷◌, ◌++◌}
use Rattle.slon_base.specs.Codec.{number_bytes, text_bytes, many_bytes, IsText, AreMany}
use Rattle.store_rows.specs.Rows.{IsId, flag_byte}
use Rattle.store_rows.specs.Space.{Any}
use Rattle.node_rows.specs.declared.rows.NodeRow.{NodeRow}
use Rattle.node_rows.specs.declared.rows.SetRow.{SetRow}
use Rattle.node_rows.specs.declared.rows.TableRow.{TableRow}
use Rattle.node_rows.specs.declared.rows.Subscription.{Subscription}
use Rattle.node_rows.specs.declared.rows.Fence.{Fence}
use Rattle.node_rows.specs.declared.rows.FenceState.{FenceState}
use Rattle.node_rows.specs.declared.rows.FenceState.TheVariants.{Set, Opened, Closed}
use Rattle.node_rows.specs.declared.body.Body.{Body}
use Rattle.node_rows.specs.declared.body.Body.TheVariants.{Sync, StoreNode, DropNode, StorePath, DropPath, StoreSet}
use Rattle.node_rows.specs.declared.body.Body.TheVariants.{DropSet, SetAddTable, SubscribeSet, EnableSubscription}
use Rattle.node_rows.specs.declared.body.Body.TheVariants.{UnsubscribeSet, MoveSet, AcceptSet, FailoverSet}

-- whether something is live: one byte
abbrev pub life_byte : Bool → ℕ
life_byte true = 1
life_byte false = 2

-- ---- rows

abbrev pub node_bytes : NodeRow → List ℕ
node_bytes r = life_byte r.live ∷ text_bytes r.comment

abbrev pub CanNode : NodeRow → Type 0
CanNode r = IsText r.comment

abbrev pub set_bytes : SetRow → List ℕ
set_bytes r =
    number_bytes r.origin ++ number_bytes r.era ++ flag_byte r.locked ∷ life_byte r.live ∷ text_bytes r.comment

abbrev pub CanSet : SetRow → Type 0
CanSet r = IsId r.origin × (r.era < 2 ^ 63) × IsText r.comment

abbrev pub table_bytes : TableRow → List ℕ
table_bytes r = number_bytes r.set_id ++ text_bytes r.name ++ life_byte r.live ∷ text_bytes r.comment

abbrev pub CanTable : TableRow → Type 0
CanTable r = IsId r.set_id × IsText r.name × IsText r.comment

abbrev pub subscription_bytes : Subscription → List ℕ
subscription_bytes r = number_bytes r.provider ++ flag_byte r.forward ∷ number_bytes r.mark

abbrev pub CanSubscription : Subscription → Type 0
CanSubscription r = IsId r.provider × (r.mark < 2 ^ 63)

abbrev pub state_byte : FenceState → ℕ
state_byte Set = 1
state_byte Opened = 2
state_byte Closed = 3

abbrev pub fence_bytes : Fence → List ℕ
fence_bytes f =
    number_bytes f.limit ++ number_bytes f.backup ++ state_byte f.state ∷ many_bytes number_bytes f.kept
    ++ many_bytes number_bytes f.given_up

abbrev pub CanFence : Fence → Type 0
CanFence f = (f.limit < 2 ^ 63) × IsId f.backup × AreMany IsId f.kept × AreMany IsId f.given_up

-- ---- bodies of events

-- a feed: the receiver, its provider, and whether it forwards
abbrev pub feed_bytes : ℕ × (ℕ × Bool) → List ℕ
feed_bytes f = number_bytes f.0 ++ (number_bytes f.1.0 ++ flag_byte f.1.1 ∷ [])

abbrev pub CanFeed : ℕ × (ℕ × Bool) → Type 0
CanFeed f = IsId f.0 × (IsId f.1.0 × Any f.1.1)

-- a set that is taken over: the set, its new era, and its feeds
abbrev pub taken_bytes : ℕ × (ℕ × List (ℕ × (ℕ × Bool))) → List ℕ
taken_bytes s = number_bytes s.0 ++ (number_bytes s.1.0 ++ many_bytes feed_bytes s.1.1)

abbrev pub CanBeTaken : ℕ × (ℕ × List (ℕ × (ℕ × Bool))) → Type 0
CanBeTaken s = IsId s.0 × ((s.1.0 < 2 ^ 63) × AreMany CanFeed s.1.1)

-- the kind, and the parts behind it
abbrev pub body_bytes : Body → List ℕ
body_bytes Sync = 1 ∷ []
body_bytes (StoreNode node comment) = 2 ∷ number_bytes node ++ text_bytes comment
body_bytes (DropNode node) = 3 ∷ number_bytes node
body_bytes (StorePath server client conninfo) = 4 ∷ number_bytes server ++ (number_bytes client ++ text_bytes conninfo)
body_bytes (DropPath server client) = 5 ∷ number_bytes server ++ number_bytes client
body_bytes (StoreSet set origin comment) = 6 ∷ number_bytes set ++ (number_bytes origin ++ text_bytes comment)
body_bytes (DropSet set) = 7 ∷ number_bytes set
body_bytes (SetAddTable set table name comment) =
    8 ∷ number_bytes set ++ (number_bytes table ++ (text_bytes name ++ text_bytes comment))
body_bytes (SubscribeSet set provider receiver forward) =
    9 ∷ number_bytes set ++ (number_bytes provider ++ (number_bytes receiver ++ flag_byte forward ∷ []))
body_bytes (EnableSubscription set provider receiver forward era) =
    10 ∷ number_bytes set ++ (number_bytes provider ++ (number_bytes receiver ++ flag_byte forward ∷ number_bytes era))
body_bytes (UnsubscribeSet set receiver) = 11 ∷ number_bytes set ++ number_bytes receiver
body_bytes (MoveSet set old new era feeds) =
    12 ∷ number_bytes set ++ (number_bytes old ++ (number_bytes new ++ (number_bytes era
    ++ many_bytes feed_bytes feeds)))
body_bytes (AcceptSet set old new era moved) =
    13 ∷ number_bytes set ++ (number_bytes old ++ (number_bytes new ++ (number_bytes era ++ number_bytes moved)))
body_bytes (FailoverSet failed limit sets) =
    14 ∷ number_bytes failed ++ (number_bytes limit ++ many_bytes taken_bytes sets)

abbrev pub CanBody : Body → Type 0
CanBody Sync = Unit {0}
CanBody (StoreNode node comment) = IsId node × IsText comment
CanBody (DropNode node) = IsId node
CanBody (StorePath server client conninfo) = IsId server × IsId client × IsText conninfo
CanBody (DropPath server client) = IsId server × IsId client
CanBody (StoreSet set origin comment) = IsId set × IsId origin × IsText comment
CanBody (DropSet set) = IsId set
CanBody (SetAddTable set table name comment) = IsId set × IsId table × IsText name × IsText comment
CanBody (SubscribeSet set provider receiver forward) = IsId set × IsId provider × IsId receiver
CanBody (EnableSubscription set provider receiver forward era) =
    IsId set × IsId provider × IsId receiver × (era < 2 ^ 63)
CanBody (UnsubscribeSet set receiver) = IsId set × IsId receiver
CanBody (MoveSet set old new era feeds) = IsId set × IsId old × IsId new × (era < 2 ^ 63) × AreMany CanFeed feeds
CanBody (AcceptSet set old new era moved) = IsId set × IsId old × IsId new × (era < 2 ^ 63) × (moved < 2 ^ 63)
CanBody (FailoverSet failed limit sets) = IsId failed × (limit < 2 ^ 63) × AreMany CanBeTaken sets
