-- The event that a turn finds to be applied: the next one of its stream for the node, of an origin that it knows.
use Rattle.std.proofs.Common.{◌≡◌, ◌≢◌, ℕ, suc, true, [], ◌∷◌, Option, Some, None, Ok, is_some, refl, sym, ap, subst}
use Rattle.std.proofs.Common.{◌∙◌, not, arith}
use Rattle.std.specs.Prelude.{codes, option_map, ◌==◌, ◌+◌}
use Rattle.std.proofs.lemmas.Bool.{eqb-true, not-false}
use Rattle.slon_model.specs.Maps.{entry_at}
use Rattle.slon_model.specs.Events.{Event}
use Rattle.slon_model.specs.Deeds.{knowledge, nothing_brought, progress}
use Rattle.slon_model.specs.Following.{Found, brought_of, tables_in}
use Rattle.slon_model.specs.Sessions.{World, Seat, when, writer_of}
use Rattle.slon_model.specs.Turns.{on_turn}
use Rattle.slon_model.specs.Polls.{queue_at, line_of}
use Rattle.slon_model.specs.Working.{Carried, Fetched, carried, next_at, can_carry_out, taken_up, errand_of, fetched}
use Rattle.slon_model.specs.Working.{found_by, found_for, found_or, kept_fetch, settled, still, worked}
use Rattle.slon_model.proofs.Names.{one_found}
use Rattle.slon_laws.proofs.Results.{any_bind}
use Rattle.stream_laws.specs.Nodes.{nodes_in, IsEvent}
use Rattle.stream_laws.specs.Facts.{WaitsIn, IsRegular}
use Rattle.stream_laws.proofs.Lists.{found_all}
use Rattle.stream_laws.proofs.Seats.{OnOk, IsSeat, bind_ok, checked_ok, kept_ok, ok_then, all_none, when_none}
use Rattle.stream_laws.proofs.Seats.{last_none, none_busy, seat_node, turn_ok}
use Rattle.stream_laws.proofs.Marks.{AreNew}
use Rattle.stream_laws.proofs.Applies.{MayCome, Applying, not_own, meeting, may_come}
use Rattle.stream_laws.proofs.Commits.{applying_at}
use Rattle.stream_laws.proofs.Copies.{Finds, found_ok}
use Rattle.stream_laws.proofs.Waiting.{waiting_in}
use Rattle.slon_model.specs.declared.reply.Refusal.TheVariants as refused

-- The seat is that of a node of the session, which can carry out what the event says. It is an event of this origin, of
-- a stream of the session, of another node that this one knows, and the next one of that stream.
pub record IsWork (w : World) (origin : ℕ) (s : Seat) (e : Event) : Type 0 where
  pub seat : IsSeat w.places s
  pub able : can_carry_out e.body ≡ true
  pub event : IsEvent (nodes_in w.places) e
  pub own : e.origin ≡ origin
  pub knows : is_some (entry_at e.origin (knowledge s.node).config.nodes) ≡ true
  pub next : e.number ≡ suc (progress e.origin (knowledge s.node))
  pub other : e.origin ≢ s.node.id
  -- what it makes known is new at the node, which knows the set of a table that comes into one
  pub new : AreNew e.body (knowledge s.node).config
  pub may : MayCome e.origin e.body (knowledge s.node).config

next_work : (w : World) → IsRegular w → (s : Seat) (origin : ℕ) → IsSeat w.places s → (e : Event) →
    next_at w.memory s origin ≡ Some e → can_carry_out e.body ≡ true →
    IsWork w origin s e
next_work w regular s origin is e found able = record {
  seat = is;
  able = able;
  event = waits.0.event;
  own = waits.1;
  knows =
      subst (λ n. is_some (entry_at e.origin (knowledge n).config.nodes) ≡ true)
      (one_found _ _ (sym waits.0.is ∙ seat_node w.places s is)) waits.0.knows;
  next = next;
  other = not_own work regular.nodes;
  new = (meeting work regular.nodes).new;
  may = may_come work regular.nodes;
}
  where
    both : WaitsIn (nodes_in w.places) s.name origin e × ((e.number == progress origin s.known + 1) ≡ true)
    both = found_all (WaitsIn (nodes_in w.places) s.name origin) _ (line_of origin (queue_at s.name w.memory)) e
        (waiting_in (nodes_in w.places) s.name origin w.memory regular.waits) found

    waits : WaitsIn (nodes_in w.places) s.name origin e
    waits = both.0

    next : e.number ≡ suc (progress e.origin (knowledge s.node))
    next =
        let number = eqb-true e.number (progress origin s.known + 1) both.1 in
        let known = ap (progress origin) is.known in
        let at = ap (λ k. progress k (knowledge s.node)) waits.1 in
        omega (arith, number, known, at)

    work : Applying (nodes_in w.places)
    work = applying_at w.places (carried s e nothing_brought) is waits.0.event next

taken_ok : (P : Event → Type 0) (o : Option Event) →
    ((e : Event) → o ≡ Some e → can_carry_out e.body ≡ true → P e) →
    OnOk P (taken_up o)
taken_ok P None from = tt
taken_ok P (Some e) from =
    let can = can_carry_out e.body in
    let checks = when (not can) (refused.NotBuilt (codes "work")) ∷ [] in
    checked_ok P checks e
    (λ none. from e refl (not-false _ (when_none _ (refused.NotBuilt (codes "work")) (all_none checks none).0)))

-- what a turn applies is such an event
pub work_ok : (node origin : ℕ) (w : World) → IsRegular w →
    OnOk (λ c. IsWork w origin c.seat c.event) (worked node origin w)
work_ok node origin w regular =
    bind_ok (IsSeat w.places) Works (on_turn node w) _ (turn_ok node w regular.once)
    (λ s is. bind_ok (IsWork w origin s) Works (taken_up (next_at w.memory s origin)) _
    (taken_ok (IsWork w origin s) (next_at w.memory s origin) (next_work w regular s origin is))
    (λ e work. any_bind Works (found_for w s e) (settled s e)
    (λ f. kept_ok Works (option_map refused.Busy (writer_of (tables_in f) s.place) ∷ [])
    (carried s e (brought_of s.place f)) work)))
  where
    Works : Carried → Type 0
    Works c = IsWork w origin c.seat c.event

-- what is known of the event that a turn applies
pub work_is : (node origin : ℕ) (w : World) (c : Carried) → IsRegular w → worked node origin w ≡ Ok c →
    IsWork w origin c.seat c.event
work_is node origin w c regular is =
    subst (OnOk (λ (c : Carried). IsWork w origin c.seat c.event)) is (work_ok node origin w regular)

-- ---- what comes with it

-- What a turn fetches: such an event, and what it finds for that.
pub record IsFetched (w : World) (origin : ℕ) (x : Fetched) : Type 0 where
  pub work : IsWork w origin x.seat x.event
  pub finds : Finds w x.seat x.event x.found

pub fetched_ok : (node origin : ℕ) (w : World) → IsRegular w → OnOk (IsFetched w origin) (fetched node origin w)
fetched_ok node origin w regular =
    bind_ok (IsSeat w.places) (IsFetched w origin) (on_turn node w) _ (turn_ok node w regular.once)
    (λ s is. bind_ok (IsWork w origin s) (IsFetched w origin) (taken_up (next_at w.memory s origin)) _
    (taken_ok (IsWork w origin s) (next_at w.memory s origin) (next_work w regular s origin is))
    (λ e work. bind_ok (Finds w s e) (IsFetched w origin) (found_by w s e (errand_of s e)) _
    (found_ok w regular s e) (λ f finds. record { work = work; finds = finds })))

-- what there is for an event: what is found now, or what was fetched and still stands
pub data IsThere (w : World) (s : Seat) (e : Event) (f : Found) : Type 0 where
  Fresh : Finds w s e f → IsThere w s e f
  Kept : (g : Found) → kept_fetch s.name e.origin e w.memory ≡ Some g → f ≡ still s.known g → IsThere w s e f

there_ok : (w : World) → IsRegular w → (s : Seat) (e : Event) → IsSeat w.places s →
    OnOk (IsThere w s e) (found_for w s e)
there_ok w regular s e is = by (kept_fetch s.name e.origin e w.memory) refl
  where
    by : (o : Option Found) → kept_fetch s.name e.origin e w.memory ≡ o → OnOk (IsThere w s e) (found_or w s e o)
    by None none =
        ok_then (Finds w s e) (IsThere w s e) (found_by w s e (errand_of s e)) (found_ok w regular s e)
        (λ f finds. Fresh finds)
    by (Some g) some = Kept g some refl

-- What a turn carries out: such an event, and what there is for that, where no open transaction wrote a table of it.
pub record IsCarried (w : World) (origin : ℕ) (c : Carried) : Type 0 where
  pub work : IsWork w origin c.seat c.event
  pub found : Found
  pub there : IsThere w c.seat c.event found
  pub free : writer_of (tables_in found) c.seat.place ≡ None
  pub is : c.brought ≡ brought_of c.seat.place found

pub worked_ok : (node origin : ℕ) (w : World) → IsRegular w → OnOk (IsCarried w origin) (worked node origin w)
worked_ok node origin w regular =
    bind_ok (IsSeat w.places) (IsCarried w origin) (on_turn node w) _ (turn_ok node w regular.once)
    (λ s is. bind_ok (IsWork w origin s) (IsCarried w origin) (taken_up (next_at w.memory s origin)) _
    (taken_ok (IsWork w origin s) (next_at w.memory s origin) (next_work w regular s origin is))
    (λ e work. bind_ok (IsThere w s e) (IsCarried w origin) (found_for w s e) (settled s e)
    (there_ok w regular s e is)
    (λ f there. let checks = option_map refused.Busy (writer_of (tables_in f) s.place) ∷ [] in
    checked_ok (IsCarried w origin) checks (carried s e (brought_of s.place f)) (λ none. record {
      work = work;
      found = f;
      there = there;
      free = none_busy (writer_of (tables_in f) s.place) (last_none [] _ none);
      is = refl;
    }))))
