-- What a poll comes to under the rules, refusal by refusal.
use Rattle.std.proofs.Common.{◌≡◌, ◌∙◌, ℕ, Bool, true, false, cond, not, List, [], ◌∷◌, Option, Some, Result, Ok, Err}
use Rattle.std.proofs.Common.{ap}
use Rattle.slon_model.specs.declared.reply.Refusal.{Refusal}
use Rattle.slon_model.specs.declared.reply.Refusal.TheVariants as refused
use Rattle.slon_model.specs.Config.{is_known}
use Rattle.slon_model.specs.Deeds.{Node, knowledge}
use Rattle.slon_model.specs.Place.{Place, is_running}
use Rattle.slon_model.specs.Sessions.{Memory, Seat, bind, when, checked, seat, seat_of}
use Rattle.slon_model.specs.Turns.{seat_at, is_cut}
use Rattle.slon_model.specs.Polls.{Poll, hears_none, poll_of, poll_at, brings_nothing}

-- A server that is found under a name, for the node at a seat.
pub record Asking : Type 0 where
  pub server : ℕ
  pub memory : Memory
  pub seat : Seat
  pub found : List ℕ × Place

abbrev pub due_of : Asking → Result Poll Refusal
due_of a = poll_at a.server a.memory a.seat (Some a.found)

-- what is left to decide behind 61 and 68
abbrev behind : Asking → Result (List ℕ × Place) Refusal → Result Poll Refusal
behind a r =
    bind (bind (bind r (λ e. seat_at a.server (Some e)))
    (λ p. checked (when (not (is_known a.seat.node.id p.known.config)) (refused.NotKnown a.seat.node.id) ∷ []) p))
    (λ p. checked (when (brings_nothing (poll_of a.memory a.seat p)) refused.Nothing ∷ []) (poll_of a.memory a.seat p))

-- where it is known whether the node hears of no origin there, and whether the two are cut off
abbrev linked_by : Asking → Bool → Bool → Result (List ℕ × Place) Refusal
linked_by a none cut =
    checked (when none (refused.NotListed a.server) ∷ when cut (refused.Severed a.seat.node.id a.server) ∷ []) a.found

pub unlisted : (a : Asking) → hears_none a.server a.seat ≡ true → due_of a ≡ Err (refused.NotListed a.server)
unlisted a none = ap (λ b. behind a (linked_by a b (is_cut a.seat.node.id a.server a.memory))) none

-- The node hears of an origin there.
pub severed : (a : Asking) → hears_none a.server a.seat ≡ false → is_cut a.seat.node.id a.server a.memory ≡ true →
    due_of a ≡ Err (refused.Severed a.seat.node.id a.server)
severed a some cut =
    ap (λ b. behind a (linked_by a b (is_cut a.seat.node.id a.server a.memory))) some
    ∙ ap (λ b. behind a (linked_by a false b)) cut

-- and is not cut off
pub record IsLinked (a : Asking) : Type 0 where
  pub some : hears_none a.server a.seat ≡ false
  pub joined : is_cut a.seat.node.id a.server a.memory ≡ false

linked : (a : Asking) → IsLinked a → due_of a ≡ behind a (Ok a.found)
linked a l =
    ap (λ b. behind a (linked_by a b (is_cut a.seat.node.id a.server a.memory))) l.some
    ∙ ap (λ b. behind a (linked_by a false b)) l.joined

abbrev seated_by : Asking → Bool → Option Node → Result Seat Refusal
seated_by a up own =
    cond up (seat_of (refused.NoNode a.server) a.found own) (Err (refused.Down a.found.0))

abbrev behind_seat : Asking → Result Seat Refusal → Result Poll Refusal
behind_seat a r =
    bind (bind r
    (λ p. checked (when (not (is_known a.seat.node.id p.known.config)) (refused.NotKnown a.seat.node.id) ∷ []) p))
    (λ p. checked (when (brings_nothing (poll_of a.memory a.seat p)) refused.Nothing ∷ []) (poll_of a.memory a.seat p))

pub down : (a : Asking) → IsLinked a → is_running a.found.1.standing ≡ false → due_of a ≡ Err (refused.Down a.found.0)
down a l fallen = linked a l ∙ ap (λ b. behind_seat a (seated_by a b a.found.1.node)) fallen

-- The server is up, and is this node.
pub record IsServing (a : Asking) (n : Node) : Type 0 where
  pub linked : IsLinked a
  pub running : is_running a.found.1.standing ≡ true
  pub is : a.found.1.node ≡ Some n

abbrev pub server_seat : Asking → Node → Seat
server_seat a n = seat a.found.0 a.found.1 n

pub serving : (a : Asking) (n : Node) → IsServing a n → due_of a ≡ behind_seat a (Ok (server_seat a n))
serving a n s =
    linked a s.linked ∙ ap (λ b. behind_seat a (seated_by a b a.found.1.node)) s.running
    ∙ ap (λ o. behind_seat a (seated_by a true o)) s.is

abbrev known_by : Asking → Node → Bool → Result Poll Refusal
known_by a n known =
    bind (checked (when (not known) (refused.NotKnown a.seat.node.id) ∷ []) (server_seat a n))
    (λ p. checked (when (brings_nothing (poll_of a.memory a.seat p)) refused.Nothing ∷ []) (poll_of a.memory a.seat p))

pub unknown : (a : Asking) (n : Node) → IsServing a n → is_known a.seat.node.id (knowledge n).config ≡ false →
    due_of a ≡ Err (refused.NotKnown a.seat.node.id)
unknown a n s none = serving a n s ∙ ap (known_by a n) none

pub asked : (a : Asking) (n : Node) → IsServing a n → is_known a.seat.node.id (knowledge n).config ≡ true →
    due_of a ≡ (let b = poll_of a.memory a.seat (server_seat a n) in
    checked (when (brings_nothing b) refused.Nothing ∷ []) b)
asked a n s known = serving a n s ∙ ap (known_by a n) known
