-- What a server answered to a poll, and what the poll comes to by that.
use Rattle.std.proofs.Common.{◌≡◌, ◌∙◌, ℕ, ◌==◌, ◌||◌, Bool, true, false, not, List, [], ◌∷◌, map, Option, Some, None}
use Rattle.std.proofs.Common.{refl, sym, ap, subst}
use Rattle.std.specs.Option.{option_map, option_or}
use Rattle.slon_model.specs.declared.reply.Refusal.TheVariants as refused
use Rattle.slon_model.specs.declared.reply.Reply.{Reply}
use Rattle.slon_model.specs.declared.reply.Reply.TheVariants as replied
use Rattle.slon_model.specs.Config.{heard_in, is_known}
use Rattle.slon_model.specs.Deeds.{Node, knowledge}
use Rattle.slon_model.specs.Place.{Place, node_id}
use Rattle.slon_model.specs.Sessions.{Seat, bind, when, checked, seat}
use Rattle.slon_model.specs.Polls.{is_empty, hears_none}
use Rattle.event_store.specs.declared.queue.Queue.{Queue}
use Rattle.event_store.specs.Telling.{named}
use Rattle.app_store.specs.Base.{Base}
use Rattle.app_store.specs.Fits.{Fits}
use Rattle.remote_listener.specs.declared.reading.Handed.{Handed}
use Rattle.remote_listener.specs.Asking.{want_of, wants_of, all_behind, Hands}
use Rattle.slonik_exec.specs.Stored.{Couple}
use Rattle.slon_turns.specs.declared.polling.Listen.{Listen}
use Rattle.slon_turns.specs.Polling.{Waits, Spot, ListensAt, Meeting, brought, brought_if, IsAnswer}
use Rattle.slon_turns.proofs.Brought.{events_named, told_named}
use Rattle.slon_turns.proofs.Due.{Asking}
use Rattle.slon_turns.proofs.Listens.{refused_listens, empty_map}

-- ---- by what the server answered

-- it knows the node
pub known_listens : {new : Base} {queue : Queue} {reply : Reply} (s : Spot) (n : Node) (server : Seat) →
    is_known n.id server.known.config ≡ true → ListensAt s (brought s n server) reply new queue →
    ListensAt s (brought_if s n server) reply new queue
known_listens {new} {queue} {reply} s n server known listens =
    subst (λ b. ListensAt s (bind (checked (when (not b) (refused.NotKnown n.id) ∷ []) server) (brought s n)) reply new
    queue) (sym known) listens

-- or it does not
pub unknown_listens : {new : Base} {queue : Queue} (s : Spot) (n : Node) (server : Seat) (node : ℕ) →
    is_known n.id server.known.config ≡ false → n.id ≡ node → Fits s.place new × Waits s.name s.memory queue →
    ListensAt s (brought_if s n server) (replied.Refused (refused.NotKnown node)) new queue
unknown_listens {new} {queue} s n server node none own (fits, waits) =
    subst (λ k. ListensAt s (brought_if s n server) (replied.Refused (refused.NotKnown k)) new queue) own
    (refused_listens s (brought_if s n server) (refused.NotKnown n.id) new queue
    (ap (λ b. bind (checked (when (not b) (refused.NotKnown n.id) ∷ []) server) (brought s n)) none) fits waits)

-- ---- whether an origin is heard there

or_true : (b : Bool) → (b || true) ≡ true
or_true true = refl
or_true false = refl

-- the node wants nothing of the server
pub wants_none : (a : Asking) (queue : Queue) (wants : List (ℕ × ℕ)) → wants ≡ wants_of a.server queue a.seat.node →
    a.seat.known ≡ knowledge a.seat.node → is_empty wants ≡ true → hears_none a.server a.seat ≡ true
wants_none a queue wants are known none =
    ap (λ k. (a.server == a.seat.node.id) || is_empty (heard_in a.seat.node.id a.server k.config)) known
    ∙ ap (λ b. (a.server == a.seat.node.id) || b)
    (empty_map (want_of a.seat.node queue) (heard_in a.seat.node.id a.server (knowledge a.seat.node).config)
    ∙ ap is_empty (sym are) ∙ none)
    ∙ or_true (a.server == a.seat.node.id)

-- it wants something of another node
pub wants_some : (a : Asking) (queue : Queue) (wants : List (ℕ × ℕ)) → wants ≡ wants_of a.server queue a.seat.node →
    a.seat.known ≡ knowledge a.seat.node → is_empty wants ≡ false → (a.server == a.seat.node.id) ≡ false →
    hears_none a.server a.seat ≡ false
wants_some a queue wants are known some apart =
    ap (λ k. (a.server == a.seat.node.id) || is_empty (heard_in a.seat.node.id a.server k.config)) known
    ∙ ap (λ b. (a.server == a.seat.node.id) || b)
    (empty_map (want_of a.seat.node queue) (heard_in a.seat.node.id a.server (knowledge a.seat.node).config)
    ∙ ap is_empty (sym are) ∙ some)
    ∙ ap (λ b. b || false) apart

-- ---- what was handed over

-- the id of the node of a place
id_is : (p : Place) (n : Node) (id : ℕ) → p.node ≡ Some n → node_id p ≡ Some id → n.id ≡ id
id_is p n id is same =
    let some : Some n.id ≡ Some id
    = sym (ap (λ (o : Option Node). option_or (option_map (λ m. m.id) o) p.promised) is) ∙ same in
    cc

-- what the server answered is its answer by the rules
pub answer_is : {l : Listen} {old : Couple} {queue : Queue} (m : Meeting l old queue) (server : Node)
    (wants : List (ℕ × ℕ)) (asked : Option Handed) → m.server.node ≡ Some server →
    wants ≡ wants_of l.server queue m.node → Hands m.node.id wants server asked →
    IsAnswer m.spot m.node (seat old.names.to m.server server) asked
answer_is m server wants None is are hands = hands
answer_is {l} {old} {queue} m server wants (Some h) is are hands = (
  hands.0,
  record {
    events = hands.1 ∙ ap (all_behind server) are
        ∙ ap (λ i. all_behind server (wants_of i queue m.node)) (sym (id_is m.server server l.server is m.id))
        ∙ events_named (record {
          name = m.spot.name;
          place = m.spot.place;
          node = m.node;
          memory = m.spot.memory;
          queue = queue;
        }) (seat old.names.to m.server server) m.fits.waits;
    rows = ap (map named) hands.2 ∙ told_named old.names.to m.server server;
  },
)
