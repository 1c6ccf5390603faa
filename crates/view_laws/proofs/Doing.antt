-- What each commit of a step does, beside the session before the step.
use Rattle.std.specs.Prelude.{◌≡◌, ℕ, true, List, [], ◌∷◌, Some, None}
use Rattle.node_rows.specs.declared.body.Body.{Body}
use Rattle.node_rows.specs.declared.body.Body.TheVariants.{SetAddTable, SubscribeSet, EnableSubscription}
use Rattle.node_rows.specs.declared.body.Body.TheVariants.{DropSet, UnsubscribeSet}
use Rattle.slon_model.specs.Names.{find_named}
use Rattle.slon_model.specs.Config.{is_origin}
use Rattle.slon_model.specs.Maps.{pair_at}
use Rattle.slon_model.specs.Deeds.{Node, Applies, Hears as HearsOf, knowledge}
use Rattle.slon_model.specs.Place.{Place, deed}
use Rattle.slon_model.specs.Sessions.{World, Commit, Seat, Emission}
use Rattle.slon_model.specs.Reaching.{commit_of, receiver_with}
use Rattle.slon_model.specs.Membership.{becoming}
use Rattle.slon_model.specs.Subscribing.{NewFeed, all_tell, changed_bodies, feed_bodies}
use Rattle.slon_model.specs.Working.{Carried}
use Rattle.slon_laws.proofs.Fillable.{AreUnwritten}
use Rattle.stream_laws.specs.Nodes.{nodes_in}
use Rattle.stream_laws.specs.Making.{is_emitted}
use Rattle.stream_laws.proofs.Seats.{IsSeat}
use Rattle.stream_laws.proofs.Works.{IsWork}
use Rattle.view_laws.specs.Past.{Past}
use Rattle.view_laws.proofs.Brought.{IsBrought}

-- The node at its seat may emit an event of this body alone: a table comes into a set of the node only while no node
-- receives it, a node gives up a set of that one, such a set ends, and no node receives a set but by the events of a
-- subscription.
abbrev pub IsAllowed : Seat → Body → Type 0
IsAllowed s (SetAddTable set table name comment) =
    (receiver_with (λ e. true) set (knowledge s.node).config ≡ None)
    × (is_origin s.node.id set (knowledge s.node).config ≡ true)
IsAllowed s (SubscribeSet set provider receiver forward) = ⊥
IsAllowed s (EnableSubscription set provider receiver forward era) = ⊥
IsAllowed s (UnsubscribeSet set receiver) = is_origin s.node.id set (knowledge s.node).config ≡ true
IsAllowed s (DropSet set) = is_origin s.node.id set (knowledge s.node).config ≡ true
IsAllowed s others = is_emitted others ≡ true

-- The node at its seat is the origin of the set, and the receiver does not subscribe to that yet.
pub record MayFeed (s : Seat) (f : NewFeed) : Type 0 where
  pub leads : is_origin s.node.id f.set_id (knowledge s.node).config ≡ true
  pub new : pair_at f.set_id f.receiver (knowledge s.node).config.subscriptions ≡ None

-- one event, or those of a new subscription, or of one that is there
pub data AreAllowed (s : Seat) (ms : List Emission) : Type 0 where
  IsOne : (m : Emission) → ms ≡ m ∷ [] → IsAllowed s m.body → AreAllowed s ms
  AreFeeds : (era : ℕ) (f : NewFeed) → ms ≡ all_tell (feed_bodies era f) → MayFeed s f → AreAllowed s ms
  AreChanges : (f : NewFeed) → ms ≡ all_tell (changed_bodies f) →
      is_origin s.node.id f.set_id (knowledge s.node).config ≡ true → AreAllowed s ms

-- A node emits events.
pub record Tells (w : World) (c : Commit) (p : Place) : Type 0 where
  pub seat : Seat
  pub is : IsSeat w.places seat
  pub at : seat.place ≡ p
  pub emits : List Emission
  pub may : AreAllowed seat emits
  pub commit : c ≡ commit_of seat emits

abbrev pub taking : Carried → Commit
taking x =
    record {
      name = x.seat.name;
      becomes = None;
      deeds = deed x.seat.place [] x.brought.logs (Applies x.event x.brought) ∷ [];
    }

-- A turn found this event for its node, which is the next one of another node, and what there is for it: no open
-- transaction wrote a table to which it brings rows.
pub record IsTaken (t : Past) (origin : ℕ) (x : Carried) : Type 0 where
  pub work : IsWork t.world origin x.seat x.event
  pub brings : IsBrought t x.seat x.event x.brought
  pub unwritten : AreUnwritten x.seat.place x.brought.rows

-- A node applies the next event of another one.
pub record Takes (t : Past) (c : Commit) (p : Place) : Type 0 where
  pub carried : Carried
  pub origin : ℕ
  pub is : IsTaken t origin carried
  pub at : carried.seat.place ≡ p
  pub commit : c ≡ taking carried

-- A node hears confirmations.
pub record Hears (w : World) (c : Commit) (p : Place) : Type 0 where
  pub seat : Seat
  pub is : IsSeat w.places seat
  pub at : seat.place ≡ p
  pub confirms : List (ℕ × ℕ × ℕ)
  pub commit : c ≡ record { name = seat.name; becomes = None; deeds = deed seat.place [] [] (HearsOf confirms) ∷ [] }

-- What a new node knows of sets, tables and subscriptions, a node of the session knows.
pub record IsGiven (w : World) (n : Node) : Type 0 where
  pub name : List ℕ
  pub giver : Node
  pub is : nodes_in w.places name ≡ Some giver
  pub sets : n.given.config.sets ≡ (knowledge giver).config.sets
  pub tables : n.given.config.tables ≡ (knowledge giver).config.tables
  pub subscriptions : n.given.config.subscriptions ≡ (knowledge giver).config.subscriptions

-- or nothing
pub data KnowsFrom (w : World) (n : Node) : Type 0 where
  KnowsNone : (n.given.config.sets ≡ []) × (n.given.config.tables ≡ []) × (n.given.config.subscriptions ≡ []) →
      KnowsFrom w n
  KnowsGiven : IsGiven w n → KnowsFrom w n

-- A database becomes a node, which has done nothing and keeps no set.
pub record Becomes (w : World) (c : Commit) (p : Place) : Type 0 where
  pub node : Node
  pub none : p.node ≡ None
  pub commit : c ≡ becoming c.name node
  pub deeds : node.deeds ≡ []
  pub views : node.given.views ≡ []
  pub knows : KnowsFrom w node

pub data Does (t : Past) (c : Commit) (p : Place) : Type 0 where
  DoesTell : Tells t.world c p → Does t c p
  DoesTake : Takes t c p → Does t c p
  DoesHear : Hears t.world c p → Does t c p
  DoesBecome : Becomes t.world c p → Does t c p

-- It is a commit of a database that is as it was before the step.
pub record IsStep (t : Past) (c : Commit) (p : Place) : Type 0 where
  pub found : find_named c.name t.world.places ≡ Some p
  pub does : Does t c p
