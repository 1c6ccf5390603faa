-- A node that is to bring something reaches the provider, or not.
use Rattle.std.proofs.Common.{◌≡◌, ◌∙◌, ◌==◌, ℕ, Bool, true, false, cond}
use Rattle.std.proofs.Common.{nat_lt, not, List, [], ◌∷◌, Option, Some, None, Result}
use Rattle.std.proofs.Common.{Err, refl, sym, ap, subst}
use Rattle.std.specs.Option.{option_map}
use Rattle.slon_model.specs.declared.reply.Refusal.{Refusal}
use Rattle.slon_model.specs.declared.reply.Refusal.TheVariants as refused
use Rattle.slon_model.specs.declared.reply.Reply.{Reply}
use Rattle.slon_model.specs.Config.{has_path, is_known}
use Rattle.slon_model.specs.Events.{Event as EventBy}
use Rattle.slon_model.specs.Following.{FoundNothing}
use Rattle.slon_model.specs.Deeds.{Node}
use Rattle.slon_model.specs.Place.{Place, is_running}
use Rattle.slon_model.specs.Sessions.{Seat, bind, checked, first_refusal, seat, seat_of, unless_refused, when}
use Rattle.slon_model.specs.Turns.{are_cut, seat_at}
use Rattle.slon_model.specs.Working.{Copying, copied, given_at, progress_in}
use Rattle.event_store.specs.declared.event.Event.{Event}
use Rattle.event_store.specs.declared.queue.Queue.{Queue}
use Rattle.event_store.specs.Seen.{seen_event}
use Rattle.app_store.specs.Base.{Base}
use Rattle.remote_worker.specs.declared.carrying.Copying as declared
use Rattle.remote_worker.specs.declared.carrying.Errand.TheVariants.{Copy, Follow}
use Rattle.remote_worker.specs.declared.worker.Taken.{Taken}
use Rattle.remote_worker.specs.declared.worker.Worker.{Worker}
use Rattle.remote_worker.specs.Fetching.{fetched, is_loud}
use Rattle.remote_worker.specs.Working.{seen_copying, seen_errand}
use Rattle.slonik_exec.specs.Answering.{EndsAt, RefusedAt, BrokenAt}
use Rattle.slon_turns.specs.declared.held.Held.{Held}
use Rattle.slon_turns.specs.Applying.{due_at, end_at, found_from, found_kept, found_with, Finder, Post}
use Rattle.slon_turns.specs.Applying.{seat_in, syncs_with, WorksHere}
use Rattle.slon_turns.specs.Holding.{Holds}
use Rattle.slon_turns.specs.Planning.{IsPlannedAnew, Reaches, link_checks}
use Rattle.slon_turns.specs.Polling.{Waits}
use Rattle.slon_turns.specs.Working.{Due}
use Rattle.slon_turns.proofs.Applying.{breaks_here, refused_here}

-- ---- what the turn comes to

-- where it is to bring this, and the provider is found so
abbrev pub fetch_due : Post → Event → Copying → Option (List ℕ × Place) → Result Due Refusal
fetch_due s e c found = bind (found_from c s.memory (seat_in s) (seen_event e) found) (end_at s e)

-- 62, 63
abbrev known_at : ℕ → ℕ → EventBy → Seat → Result Seat Refusal
known_at own provider e p =
    checked (when (not (is_known own p.known.config)) (refused.NotKnown own)
    ∷ when (nat_lt (progress_in e p) e.number) (refused.Behind provider (progress_in e p) e.number) ∷ []) p

-- the provider at its seat, or why not
abbrev seated_due : Post → Event → Copying → Result Seat Refusal → Result Due Refusal
seated_due s e c seated =
    bind (bind (bind seated (known_at s.node.id c.provider (seen_event e)))
    (λ p. copied c (seat_in s) (seen_event e) p (given_at c p))) (end_at s e)

-- the same by the one of three refusals, if there is one
abbrev linked_due : Post → Event → Copying → Option (List ℕ × Place) → Option Refusal → Result Due Refusal
linked_due s e c found refusal = seated_due s e c (bind (unless_refused refusal found) (λ f. seat_at c.provider f))

pub fetch_refused : (s : Post) (e : Event) (c : Copying) (found : Option (List ℕ × Place)) (refusal : Refusal) →
    first_refusal (link_checks s.node.id c.provider s.memory.cuts (seat_in s)) ≡ Some refusal →
    fetch_due s e c found ≡ Err refusal
fetch_refused s e c found refusal first = ap (linked_due s e c found) first

-- no database is the provider
pub fetch_missed : (s : Post) (e : Event) (c : Copying) (found : Option (List ℕ × Place)) → Reaches s c.provider →
    found ≡ None → fetch_due s e c found ≡ Err (refused.NoNode c.provider)
fetch_missed s e c found none is =
    ap (linked_due s e c found) none ∙ ap (λ f. seated_due s e c (seat_at c.provider f)) is

-- it is down
pub fetch_down : (s : Post) (e : Event) (c : Copying) (found : Option (List ℕ × Place)) (at : List ℕ × Place) →
    Reaches s c.provider → found ≡ Some at → is_running at.1.standing ≡ false →
    fetch_due s e c found ≡ Err (refused.Down at.0)
fetch_down s e c found at none is down =
    ap (linked_due s e c found) none ∙ ap (λ f. seated_due s e c (seat_at c.provider f)) is
    ∙ ap (λ b. seated_due s e c
    (cond b (seat_of (refused.NoNode c.provider) at at.1.node) (Err (refused.Down at.0)))) down

-- it is up, and this node
pub fetch_reached : (s : Post) (e : Event) (c : Copying) (found : Option (List ℕ × Place)) (at : List ℕ × Place)
    (n : Node) → Reaches s c.provider × (found ≡ Some at) →
    (is_running at.1.standing ≡ true) × (at.1.node ≡ Some n) →
    fetch_due s e c found
    ≡ bind (fetched c (seen_event e) (seat_in s) (seat at.0 at.1 n)) (end_at s e)
fetch_reached s e c found at n (none, is) (up, own) =
    ap (linked_due s e c found) none ∙ ap (λ f. seated_due s e c (seat_at c.provider f)) is
    ∙ ap (λ b. seated_due s e c
    (cond b (seat_of (refused.NoNode c.provider) at at.1.node) (Err (refused.Down at.0)))) up
    ∙ ap (λ o. seated_due s e c (seat_of (refused.NoNode c.provider) at o)) own

-- ---- what was planned

-- nothing comes with the event
pub planned_alone : {s : Post} {w : Worker Taken} {queue : Queue} (p : IsPlannedAnew s w queue) →
    w.state.errand ≡ None → (find : Finder) →
    due_at s.goal s.memory (seat_in s) find ≡ end_at s p.plan.event FoundNothing
planned_alone {s} p none find =
    let e = p.plan.event in
    p.plan.due find
    ∙ ap (λ o. bind (found_kept s.memory (seat_in s) (seen_event e) find o) (end_at s e)) p.none
    ∙ ap (λ o. bind (found_with s.memory (seat_in s) (seen_event e) find o) (end_at s e))
    (sym p.plan.took.errand ∙ ap (option_map seen_errand) none)

-- or a set that is copied
pub planned_copy : {s : Post} {w : Worker Taken} {queue : Queue} (p : IsPlannedAnew s w queue)
    (c : declared.Copying) → w.state.errand ≡ Some (Copy c) → (find : Finder) →
    due_at s.goal s.memory (seat_in s) find ≡ fetch_due s p.plan.event (seen_copying c) (find c.provider)
planned_copy {s} p c some find =
    let e = p.plan.event in
    p.plan.due find
    ∙ ap (λ o. bind (found_kept s.memory (seat_in s) (seen_event e) find o) (end_at s e)) p.none
    ∙ ap (λ o. bind (found_with s.memory (seat_in s) (seen_event e) find o) (end_at s e))
    (sym p.plan.took.errand ∙ ap (option_map seen_errand) some)

-- or what was logged for the sets that the node keeps
pub planned_follow : {s : Post} {w : Worker Taken} {queue : Queue} (p : IsPlannedAnew s w queue) →
    w.state.errand ≡ Some Follow → (find : Finder) →
    due_at s.goal s.memory (seat_in s) find
    ≡ bind (syncs_with s.memory (seat_in s) (seen_event p.plan.event) find) (end_at s p.plan.event)
planned_follow {s} p some find =
    let e = p.plan.event in
    p.plan.due find
    ∙ ap (λ o. bind (found_kept s.memory (seat_in s) (seen_event e) find o) (end_at s e)) p.none
    ∙ ap (λ o. bind (found_with s.memory (seat_in s) (seen_event e) find o) (end_at s e))
    (sym p.plan.took.errand ∙ ap (option_map seen_errand) some)

-- ---- what is told of the link

-- a refusal of the link tells of no store, and of no open transaction
pub calm_link : (node provider : ℕ) (cuts : List (ℕ × ℕ)) (s : Seat) (refusal : Refusal) →
    first_refusal (link_checks node provider cuts s) ≡ Some refusal → is_loud refusal ≡ false
calm_link node provider cuts s refusal =
    by (not (has_path node provider s.known.config)) (are_cut node provider cuts) (provider == node)
  where
    by : (a b c : Bool) → first_refusal (when a (refused.NoPath provider) ∷ when b (refused.Severed node provider)
        ∷ when c (refused.NoNode provider) ∷ []) ≡ Some refusal → is_loud refusal ≡ false
    by true b c is = let same : refused.NoPath provider ≡ refusal = cc in subst (λ r. is_loud r ≡ false) same refl
    by false true c is =
        let same : refused.Severed node provider ≡ refusal = cc in subst (λ r. is_loud r ≡ false) same refl
    by false false true is =
        let same : refused.NoNode provider ≡ refusal = cc in subst (λ r. is_loud r ≡ false) same refl
    by false false false is = absurd cc

-- the store of the node failed
pub breaks_told : {s : Post} {reply : Reply} {new : Base × Held} (due : Result Due Refusal) →
    EndsAt s.name s.place [] reply new.0 → Waits s.name s.memory new.1.queue → WorksHere s due reply new
breaks_told due (RefusedAt refusal first is fits) waits = absurd cc
breaks_told due (BrokenAt count is rose fits) waits =
    breaks_here due (record { count = count; is = is; rose = rose; fits = fits }) waits

pub link_ends : {s : Post} {reply : Reply} {new : Base × Held} (due : Result Due Refusal)
    (checks : List (Option Refusal)) →
    ((refusal : Refusal) → first_refusal checks ≡ Some refusal → (due ≡ Err refusal) × (is_loud refusal ≡ false)) →
    EndsAt s.name s.place checks reply new.0 → Holds s.name s.memory new.1 → WorksHere s due reply new
link_ends {s} {reply} {new} due checks refuses (RefusedAt refusal first is fits) holds =
    subst (λ r. WorksHere s due r new) (sym is)
    (refused_here s due refusal new (refuses refusal first) (fits, holds))
link_ends {s} due checks refuses (BrokenAt count is rose fits) holds =
    breaks_here due (record { count = count; is = is; rose = rose; fits = fits }) holds.waits

-- What is told of the link of a node that is to bring this is what its turn comes to.
pub record Told {s : Post} {w : Worker Taken} {queue : Queue} (plan : IsPlannedAnew s w queue)
    (c : declared.Copying) (name : List ℕ) (cuts : List (ℕ × ℕ)) : Type 0 where
  pub some : w.state.errand ≡ Some (Copy c)
  pub named : s.name ≡ name
  pub cut : s.memory.cuts ≡ cuts

checks_as : {s : Post} {w : Worker Taken} {queue : Queue} {plan : IsPlannedAnew s w queue}
    {c : declared.Copying} {name : List ℕ} {cuts : List (ℕ × ℕ)} → Told plan c name cuts →
    link_checks s.node.id c.provider s.memory.cuts (seat_in s)
    ≡ link_checks w.node c.provider cuts (seat name s.place s.node)
checks_as {s} {w} {plan = plan} {c} t =
    ap (λ k. link_checks k c.provider s.memory.cuts (seat_in s)) (sym plan.plan.took.node)
    ∙ ap (λ x. link_checks w.node c.provider x (seat_in s)) t.cut

pub link_told : {s : Post} {w : Worker Taken} {queue : Queue} {plan : IsPlannedAnew s w queue}
    {c : declared.Copying} {name : List ℕ} {cuts : List (ℕ × ℕ)} {reply : Reply} {new : Base × Held} →
    Told plan c name cuts →
    EndsAt name s.place (link_checks w.node c.provider cuts (seat name s.place s.node)) reply
    new.0 →
    Holds s.name s.memory new.1 → (find : Finder) →
    WorksHere s (due_at s.goal s.memory (seat_in s) find) reply new
link_told {s} {plan = plan} {c} {name} {reply = reply} {new} t ends holds find =
    let e = plan.plan.event in
    subst (λ due. WorksHere s due reply new) (sym (planned_copy plan c t.some find))
    (link_ends (fetch_due s e (seen_copying c) (find c.provider))
    (link_checks s.node.id c.provider s.memory.cuts (seat_in s))
    (λ refusal first. (
      fetch_refused s e (seen_copying c) (find c.provider) refusal first,
      calm_link s.node.id c.provider s.memory.cuts (seat_in s) refusal first,
    ))
    (subst (λ m. EndsAt m s.place (link_checks s.node.id c.provider s.memory.cuts (seat_in s)) reply new.0)
    (sym t.named)
    (subst (λ checks. EndsAt name s.place checks reply new.0) (sym (checks_as t)) ends)) holds)

pub link_reaches : {s : Post} {w : Worker Taken} {queue : Queue} {plan : IsPlannedAnew s w queue}
    {c : declared.Copying} {name : List ℕ} {cuts : List (ℕ × ℕ)} → Told plan c name cuts →
    first_refusal (link_checks w.node c.provider cuts (seat name s.place s.node)) ≡ None →
    Reaches s c.provider
link_reaches t none = ap first_refusal (checks_as t) ∙ none
