-- What each change of a database makes of the order in which its transactions ended.
use Rattle.std.proofs.Common.{◌≡◌, ℕ, zero, suc, ◌+◌, ◌-◌, ◌<◌, ◌≤◌, Bool, true, false, cond, List, [], ◌∷◌, ◌++◌}
use Rattle.std.proofs.Common.{length, Option, Some}
use Rattle.std.proofs.Common.{None, refl, sym, ap, subst, ◌∙◌, arith, inl, inr, not}
use Rattle.std.specs.Prelude.{◌==◌, ◌&&◌, ◌||◌, nat_lt, option_map, filter_map}
use Rattle.std.specs.Option.{option_or}
use Rattle.std.specs.List.{AllByRecursion, cons_option}
use Rattle.std.proofs.lemmas.Bool.{false≢true, true≢false, false_from_ne_true, lt-ltb, le-ltb, eqb-true, and_parts}
use Rattle.std.proofs.lemmas.Bool.{and_from, ltb-true, cases_lt}
use Rattle.std.proofs.lemmas.List.{append_assoc}
use Rattle.slon_model.specs.Names.{Named, find_named, without}
use Rattle.slon_model.specs.Rows.{member}
use Rattle.slon_model.specs.Snapshots.{Snapshot, sees, Covers}
use Rattle.slon_model.specs.Events.{Event}
use Rattle.slon_model.specs.Deeds.{Node, Doing, Emits, emitted_by, stream, with_deeds, Deed}
use Rattle.slon_model.specs.Tasks.{Task}
use Rattle.slon_model.specs.Place.{Place, open_xids, taken, bare_place}
use Rattle.slon_model.specs.Moves.{Move, Founds, Begins, Commits, Aborts, Falls, Rises, prepared, done}
use Rattle.slon_model.specs.Moves.{with_commit, aborted}
use Rattle.slon_model.specs.Sessions.{Commit, committing, in_doubt}
use Rattle.slon_model.proofs.Names.{all_map, one_found}
use Rattle.slon_laws.specs.Sound.{Sound, ids_of}
use Rattle.slon_laws.specs.Allowed.{MayMove}
use Rattle.slon_laws.specs.Keeps.{KeepsTasks}
use Rattle.slon_laws.specs.Turning.{IsWithin, Turned, Commits as CommitsOne, Falls as GoesDown, Doubts}
use Rattle.slon_laws.proofs.Covering.{past}
use Rattle.slon_laws.proofs.Decides.{IsSame}
use Rattle.slon_laws.proofs.Opens.{all_member, found_member}
use Rattle.slon_laws.proofs.Sounds.{keeps_sound, sound_prepared, sound_closed}
use Rattle.stream_laws.proofs.Steps.{Logs, prepared_node, done_logs}
use Rattle.image_laws.specs.Fits.{AllDone, IsFit, MayStand, Does, Becomes}
use Rattle.image_laws.specs.Laws.{CountsTell}
use Rattle.image_laws.specs.Moments.{count_of, is_ended, IsTaken, IsOrder, HasMoments}
use Rattle.image_laws.proofs.Clocks.{Clock, Ticked, no_more, ticked_on, clock_begins, clock_ends, name_out}
use Rattle.image_laws.proofs.Clocks.{none_without}
use Rattle.image_laws.proofs.Clocks.{clock_all_end, clock_skips_all}
use Rattle.image_laws.proofs.Orders.{AreApart, order_in, order_before, order_is}
use Rattle.image_laws.proofs.Since.{prepared_same, first_same, seen_ended}

-- ---- what has ended

abbrev pub ClockAt : Place → List ℕ → Type 0
ClockAt p ended = Clock p.xids.next (open_xids p) ended

abbrev pub TickedAt : Place → List ℕ → Type 0
TickedAt p ended = Ticked p.xids.next (open_xids p) ended

pub same_clock : (p q : Place) (ended : List ℕ) → IsSame p q → ClockAt p ended → ClockAt q ended
same_clock p q ended same c =
    subst (λ next. Clock next (open_xids q) ended) (sym same.xid)
    (subst (λ os. Clock p.xids.next (ids_of os) ended) (sym same.opens) c)

ids_behind : (name : List ℕ) (n : ℕ) (os : Named ℕ) → ids_of (os ++ (name, n) ∷ []) ≡ ids_of os ++ n ∷ []
ids_behind name n [] = refl
ids_behind name n (o ∷ os) = ap (λ ids. o.1 ∷ ids) (ids_behind name n os)

-- a transaction that is open ends
out_ticks : (name : List ℕ) (id : ℕ) (p : Place) (ended : List ℕ) → Sound p → find_named name p.opens ≡ Some id →
    ClockAt p ended → Ticked p.xids.next (ids_of (without name p.opens)) ended
out_ticks name id p ended s found c = record {
  more = id ∷ [];
  clock =
      clock_ends id (s.opened id (found_member name id p.opens found))
      (name_out name id p.opens s.named s.running found) c;
}

aborted_ticks : (name : List ℕ) (p : Place) (ended : List ℕ) → Sound p → ClockAt p ended →
    TickedAt (aborted name p) ended
aborted_ticks name p ended s c = by (find_named name p.opens) refl
  where
    by : (o : Option ℕ) → find_named name p.opens ≡ o → Ticked p.xids.next (ids_of (without name p.opens)) ended
    by None none =
        subst (λ os. Ticked p.xids.next (ids_of os) ended) (sym (none_without name p.opens none)) (no_more c)
    by (Some id) found = out_ticks name id p ended s found c

-- all that are open end
closed_ticks : (p : Place) (ended : List ℕ) → Sound p → ClockAt p ended → Ticked p.xids.next [] ended
closed_ticks p ended s c =
    clock_all_end (open_xids p) s.running (all_member (λ x. x < p.xids.next) (open_xids p) s.opened) c

-- and the ids up to the ceiling are skipped
risen_ticks : (p : Place) (ended : List ℕ) → Sound p → ClockAt p ended → Ticked p.xids.ceiling [] ended
risen_ticks p ended s c =
    let closed = closed_ticks p ended s c in
    let below = s.xids_below in
    subst (λ n. Ticked n [] ended) (omega (arith, below))
    (ticked_on closed.more refl (clock_skips_all (p.xids.ceiling - p.xids.next) closed.clock))

pub done_ticks : (task : Task) (move : Move) (p : Place) (ended : List ℕ) → MayMove task p move → Sound p →
    Sound (prepared move p) → ClockAt p ended → TickedAt (done move p) ended
done_ticks task (Begins name) p ended may s r c =
    let q = prepared (Begins name) p in
    no_more (subst (λ ids. Clock (q.xids.next + 1) ids ended) (sym (ids_behind name q.xids.next q.opens))
    (clock_begins (same_clock p q ended (prepared_same (Begins name) p) c)))
done_ticks task (Commits name xid) p ended may s r c = out_ticks name xid p ended s may.allows c
done_ticks task (Aborts name) p ended may s r c = aborted_ticks name p ended s c
done_ticks task Falls p ended may s r c = closed_ticks p ended s c
done_ticks task Rises p ended may s r c =
    risen_ticks (prepared Rises p) ended r (same_clock p (prepared Rises p) ended (prepared_same Rises p) c)
done_ticks task Founds p ended may s r c = no_more (same_clock p (done Founds p) ended (record {
  xid = (first_same p).xid;
  number = (first_same p).number;
  tables = (first_same p).tables;
  actions = (first_same p).actions;
  commits = (first_same p).commits;
  opens = (first_same p).opens;
}) c)
done_ticks task others p ended may s r c =
    let same = same_clock p (prepared others p) ended (prepared_same others p) c in
    no_more (record { each = same.each; count = same.count; apart = same.apart })

-- ---- the snapshots of events

-- it sees those of the ended transactions that had ended by then
pub record TakenIn (ended : List ℕ) (k : Snapshot) : Type 0 where
  later : List ℕ
  before : List ℕ
  is : ended ≡ later ++ before
  count : count_of k ≡ length before
  sees : (x : ℕ) → sees k x ≡ member x before

taken_on : (more ended : List ℕ) (k : Snapshot) → TakenIn ended k → TakenIn (more ++ ended) k
taken_on more ended k t = record {
  later = more ++ t.later;
  before = t.before;
  is = ap (λ es. more ++ es) t.is ∙ sym (append_assoc more t.later t.before);
  count = t.count;
  sees = t.sees;
}

pub seen_now : (p : Place) → Sound p → (x : ℕ) →
    sees (taken p) x ≡ (nat_lt x p.xids.next && not (member x (open_xids p)))
seen_now p s x = by (nat_lt x p.xids.next && not (member x (open_xids p))) refl
  where
    no_true : (b : Bool) → not b ≡ true → b ≡ false
    no_true true is = absurd (false≢true is)
    no_true false is = refl

    by : (b : Bool) → (nat_lt x p.xids.next && not (member x (open_xids p))) ≡ b → sees (taken p) x ≡ b
    by true is =
        let parts = and_parts (nat_lt x p.xids.next) (not (member x (open_xids p))) is in
        seen_ended p x (ltb-true x p.xids.next parts.0) (λ is_open.
        false≢true (sym (no_true (member x (open_xids p)) parts.1) ∙ is_open))
    by false is =
        false_from_ne_true (sees (taken p) x) (λ seen.
        let was = past x p.xids.next (open_xids p) s.running s.opened seen in
        true≢false (sym (and_from (nat_lt x p.xids.next) (not (member x (open_xids p)))
        (lt-ltb x p.xids.next was.0) (ap not (false_from_ne_true (member x (open_xids p)) was.1))) ∙ is))

taken_now : (p : Place) (ended : List ℕ) → Sound p → ClockAt p ended → TakenIn ended (taken p)
taken_now p ended s c = record {
  later = [];
  before = ended;
  is = refl;
  count = let count = c.count in omega (arith, count);
  sees = λ x. seen_now p s x ∙ sym (c.each x);
}

-- ---- a database

-- What of its transactions has ended, and that the snapshots of its events were taken in this order.
pub record Ticks (p : Place) : Type 0 where
  pub ended : List ℕ
  pub clock : ClockAt p ended
  pub events : (n : Node) → p.node ≡ Some n → AllByRecursion (λ e. TakenIn ended e.taken) (stream n)

events_on : (more ended : List ℕ) (es : List Event) → AllByRecursion (λ e. TakenIn ended e.taken) es →
    AllByRecursion (λ e. TakenIn (more ++ ended) e.taken) es
events_on more ended es all =
    all_map (λ e. TakenIn ended e.taken) (λ e. TakenIn (more ++ ended) e.taken)
    (λ e. taken_on more ended e.taken) es all

-- its node emits nothing
ticks_on : (p q : Place) (t : Ticks p) → TickedAt q t.ended →
    ((m : Node) → q.node ≡ Some m → (n : Node) × (p.node ≡ Some n) × (stream m ≡ stream n)) → Ticks q
ticks_on p q t k same = record {
  ended = k.more ++ t.ended;
  clock = k.clock;
  events = λ m is.
      let was = same m is in
      subst (AllByRecursion (λ e. TakenIn (k.more ++ t.ended) e.taken)) (sym was.2)
      (events_on k.more t.ended (stream was.0) (t.events was.0 was.1));
}

same_stream : (p q : Place) → q.node ≡ p.node → (m : Node) → q.node ≡ Some m →
    (n : Node) × (p.node ≡ Some n) × (stream m ≡ stream n)
same_stream p q same m is = (m, sym same ∙ is, refl)

logged_stream : (p q : Place) → Logs p q.node → (m : Node) → q.node ≡ Some m →
    (n : Node) × (p.node ≡ Some n) × (stream m ≡ stream n)
logged_stream p q (inl same) m is = same_stream p q same m is
logged_stream p q (inr (xid, log)) m is = by p.node refl (sym log ∙ is)
  where
    by : (o : Option Node) → p.node ≡ o → option_map (with_commit xid p) o ≡ Some m →
        (n : Node) × (p.node ≡ Some n) × (stream m ≡ stream n)
    by None at none = absurd cc
    by (Some n) at some = (n, at, ap stream (sym (one_found (with_commit xid p n) m some)))

abbrev pub Ticking : Place → Type 0
Ticking p = Sound p × Ticks p

-- a database with no open transaction any more
closed_on : (p q : Place) → (q.xids.next ≡ p.xids.next) × (open_xids q ≡ []) → q.node ≡ p.node → Ticking p → Ticks q
closed_on p q same node t =
    ticks_on p q t.1 (subst (λ next. Ticked next (open_xids q) t.1.ended) (sym same.0)
    (subst (λ ids. Ticked p.xids.next ids t.1.ended) (sym same.1) (closed_ticks p t.1.ended t.0 t.1.clock)))
    (same_stream p q node)

pub keeps_ticking : KeepsTasks (λ task. Unit {0}) Ticking Ticking
keeps_ticking = record {
  stays = λ p is. is;
  prepares = λ task move p may is. (
    sound_prepared move p is.0,
    ticks_on p (prepared move p) is.1
        (no_more (same_clock p (prepared move p) is.1.ended (prepared_same move p) is.1.clock))
        (same_stream p (prepared move p) (prepared_node move p)),
  );
  moves = λ task move p one may is. (
    keeps_sound.tasks.moves task move p one may is.0,
    ticks_on p (done move p) is.1
        (done_ticks task move p is.1.ended may is.0 (sound_prepared move p is.0) is.1.clock)
        (logged_stream p (done move p) (done_logs move p)),
  );
  falls = λ count p is. (sound_closed is.0, closed_on p _ (refl, refl) refl is);
  wavers = λ stands p is. (sound_closed is.0, closed_on p _ (refl, refl) refl is);
}

pub bare_ticks : Sound bare_place → Ticking bare_place
bare_ticks sound = (
  sound,
  record {
    ended = 0 ∷ [];
    clock = record { each = at; count = refl; apart = (refl, tt) };
    events = λ n is. absurd cc;
  },
)
  where
    at : (x : ℕ) → (x == 0 || false) ≡ (nat_lt x 1 && true)
    at zero = refl
    at (suc x) =
        let other = false_from_ne_true (suc x == 0) (λ same. let is = eqb-true (suc x) 0 same in omega (arith, is)) in
        ap (λ b. b || false) other ∙ sym (ap (λ b. b && true) (le-ltb (suc x) 1 (omega arith)))

-- ---- a commit of a script or a turn

emitted_all : (P : Event → Type 0) (doing : Doing) (es : List Event) → ((e : Event) → doing ≡ Emits e → P e) →
    AllByRecursion P es → AllByRecursion P (cons_option (emitted_by doing) es)
emitted_all P (Emits e) es here all = (here e refl, all)
emitted_all P others es here all = all

deeds_tick : (p : Place) (n : Node) (ds : List Deed) (ended : List ℕ) → TakenIn ended (taken p) → AllDone p n ds →
    AllByRecursion (λ e. TakenIn ended e.taken) (stream n) →
    AllByRecursion (λ e. TakenIn ended e.taken) (stream (with_deeds ds n))
deeds_tick p n [] ended now done all = all
deeds_tick p n (d ∷ ds) ended now done all =
    emitted_all (λ e. TakenIn ended e.taken) d.doing (stream (with_deeds ds n))
    (λ e doing. subst (TakenIn ended) (sym (done.1.taken e doing)) now) (deeds_tick p n ds ended now done.0 all)

commit_ticks : (c : Commit) (p : Place) → IsWithin c p → IsFit c p → Ticking p → Ticking (committing c p)
commit_ticks c p within (Does n is none done others) t = (
  keeps_sound.commits c p within t.0,
  record {
    ended = t.1.ended;
    clock = t.1.clock;
    events = λ m at. by m (sym node ∙ at);
  },
)
  where
    node : (committing c p).node ≡ Some (with_deeds c.deeds n)
    node =
        ap (λ o. option_map (with_deeds c.deeds) (option_or o p.node)) none
        ∙ ap (option_map (with_deeds c.deeds)) is

    by : (m : Node) → Some (with_deeds c.deeds n) ≡ Some m →
        AllByRecursion (λ e. TakenIn t.1.ended e.taken) (stream m)
    by m one =
        subst (λ (k : Node). AllByRecursion (λ e. TakenIn t.1.ended e.taken) (stream k)) (one_found _ m one)
        (deeds_tick p n c.deeds t.1.ended (taken_now p t.1.ended t.0 t.1.clock) done (t.1.events n is))
commit_ticks c p within (Becomes n none is deeds first) t = (
  keeps_sound.commits c p within t.0,
  record {
    ended = t.1.ended;
    clock = t.1.clock;
    events = λ m at. by m (sym node ∙ at);
  },
)
  where
    node : (committing c p).node ≡ Some n
    node =
        ap (λ o. option_map (with_deeds c.deeds) (option_or o p.node)) is ∙ ap (λ ds. Some (with_deeds ds n)) deeds

    by : (m : Node) → Some n ≡ Some m → AllByRecursion (λ e. TakenIn t.1.ended e.taken) (stream m)
    by m one =
        subst (λ (k : Node). AllByRecursion (λ e. TakenIn t.1.ended e.taken) (stream k)) (one_found n m one)
        (subst (λ ds. AllByRecursion (λ e. TakenIn t.1.ended e.taken) (filter_map (λ d. emitted_by d.doing) ds))
        (sym first.deeds) tt)

doubt_ticks : (c : Commit) (stands : Bool) (p : Place) → MayStand c p → Ticking p → Ticking (in_doubt c stands p)
doubt_ticks c stands p fit t = (sound_closed held.0, closed_on r (in_doubt c stands p) (refl, refl) refl held)
  where
    r : Place
    r = cond stands (committing c p) p

    either : (b : Bool) → Ticking (cond b (committing c p) p)
    either true = commit_ticks c p fit.0 fit.1 t
    either false = t

    held : Ticking r
    held = either stands

pub turned_ticks : (p q : Place) → Turned MayStand p q → Ticking p → Ticking q
turned_ticks p q (CommitsOne c fit is) t = subst Ticking (sym is) (commit_ticks c p fit.0 fit.1 t)
turned_ticks p q (GoesDown count is) t =
    subst Ticking (sym is) (sound_closed t.0, closed_on p _ (refl, refl) refl t)
turned_ticks p q (Doubts c stands fit is) t = subst Ticking (sym is) (doubt_ticks c stands p fit t)

-- ---- moments

taken_is : (ended : List ℕ) (k : Snapshot) → AreApart ended → TakenIn ended k →
    IsTaken (order_in ended) (length ended) k
taken_is ended k apart t = record {
  past =
      let count = t.count in
      let long = ap length t.is in
      let more = longer t.later in
      omega (arith, count, long, more);
  sees = λ x.
      t.sees x ∙ sym (order_before t.later t.before x (subst AreApart t.is apart))
      ∙ ap (λ es. is_ended (order_in es x) (length t.before)) (sym t.is)
      ∙ ap (is_ended (order_in ended x)) (sym t.count);
}
  where
    longer : (ls : List ℕ) → length t.before ≤ length (ls ++ t.before)
    longer [] = omega arith
    longer (l ∷ ls) = let more = longer ls in omega (arith, more)

pub has_moments : (p : Place) (n : Node) → Ticking p → p.node ≡ Some n → HasMoments p n
has_moments p n t is = record {
  order = order_in t.1.ended;
  is = subst (IsOrder (order_in t.1.ended)) many (order_is t.1.ended t.1.clock.apart);
  now = subst (λ now. IsTaken (order_in t.1.ended) now (taken p)) many
      (taken_is t.1.ended (taken p) t.1.clock.apart (taken_now p t.1.ended t.0 t.1.clock));
  events =
      all_map (λ e. TakenIn t.1.ended e.taken)
      (λ e. IsTaken (order_in t.1.ended) (count_of (taken p)) e.taken)
      (λ e one. subst (λ now. IsTaken (order_in t.1.ended) now e.taken) many
      (taken_is t.1.ended e.taken t.1.clock.apart one)) (stream n) (t.1.events n is);
}
  where
    many : length t.1.ended ≡ count_of (taken p)
    many = let count = t.1.clock.count in omega (arith, count)

-- ---- covering

ended_later : (o : Option ℕ) (less more : ℕ) → less ≤ more → is_ended o less ≡ true → is_ended o more ≡ true
ended_later None less more at is = absurd (false≢true is)
ended_later (Some moment) less more at is =
    let below = ltb-true moment less is in lt-ltb moment more (omega (arith, below, at))

pub counts_tell : CountsTell
counts_tell order now is a b taken_a taken_b = (most, covers)
  where
    at : (k : Snapshot) → IsTaken order now k → (x moment : ℕ) → order x ≡ Some moment →
        sees k x ≡ nat_lt moment (count_of k)
    at k taken x moment has = taken.sees x ∙ ap (λ o. is_ended o (count_of k)) has

    most : Covers a b → count_of b ≤ count_of a
    most all = elim (cases_lt (count_of a) (count_of b)) [
      | inl less ↦
          -- what ended as the first one that a does not see
          let past = taken_b.past in
          let next = is.onto (count_of a) (omega (arith, less, past)) in
          let seen = all next.0 (at b taken_b next.0 (count_of a) next.1 ∙ lt-ltb (count_of a) (count_of b) less) in
          let below = ltb-true (count_of a) (count_of a) (sym (at a taken_a next.0 (count_of a) next.1) ∙ seen) in
          absurd (omega (arith, below))
      | inr more ↦ more
    ]

    covers : count_of b ≤ count_of a → Covers a b
    covers less x seen =
        taken_a.sees x ∙ ended_later (order x) (count_of b) (count_of a) less (sym (taken_b.sees x) ∙ seen)
