-- Each change of a database keeps it sound.
use Rattle.std.proofs.Common.{◌≡◌, ℕ, ◌+◌, ◌<◌, ◌≤◌, Bool, true, false, cond, List, [], ◌∷◌, Option, Some, None, refl}
use Rattle.std.proofs.Common.{sym, ap, subst, ◌∙◌, arith, inl, inr}
use Rattle.std.specs.Prelude.{◌==◌, ◌&&◌, unwrap_or}
use Rattle.std.specs.FinMap.{empty}
use Rattle.std.specs.List.{AllByRecursion, list_any}
use Rattle.std.specs.Str.{bytes_eq}
use Rattle.std.proofs.lemmas.Bool.{false≢true, eqb-true, eqb-false, or_cases}
use Rattle.slon_model.specs.declared.numbering.Numbering.{Numbering}
use Rattle.slon_model.specs.declared.numbering.Numbering.TheVariants.{Xids, Actions}
use Rattle.slon_model.specs.Names.{Named, find_named, without}
use Rattle.slon_model.specs.Rows.{Rows, Action, Change, change_key, member}
use Rattle.slon_model.specs.Snapshots.{Rising}
use Rattle.slon_model.specs.Tasks.{Task}
use Rattle.slon_model.specs.Place.{Place, Counter, bare_place, counter, with_counter, lifted, stamped, raised}
use Rattle.slon_model.specs.Place.{Filling, filling_of, filled, filled_by, founded, has_writer, holder, open_xids}
use Rattle.slon_model.specs.Deeds.{Deed, brought_in}
use Rattle.slon_model.specs.Moves.{Move, Stays, Founds, Tables, Begins, Writes, Commits, Aborts, Falls, Rises, begun}
use Rattle.slon_model.specs.Moves.{written, committed, aborted, risen, first_rows, prepared, done}
use Rattle.slon_model.proofs.Names.{all_map, all_found, bytes_turned}
use Rattle.slon_laws.specs.Sound.{SoundOf, Sound, IsLocked, IsOrdered, AreNamedOnce, ids_of}
use Rattle.slon_laws.specs.Allowed.{IsFree, Allows}
use Rattle.slon_laws.specs.Keeps.{Keeps}
use Rattle.slon_laws.specs.Turning.{IsWithin}
use Rattle.slon_laws.proofs.Decides.{either_raised, raised_same}
use Rattle.slon_laws.proofs.Opens.{all_member, all_two, or_parts, member_behind, rising_behind, named_behind}
use Rattle.slon_laws.proofs.Opens.{found_member, rising_without}
use Rattle.slon_laws.proofs.Opens.{named_without, member_without, member_taken}
use Rattle.slon_laws.proofs.Locks.{pairs_map, pairs_both, pairs_each, holder_frees, order_committed}

pub sound_bare : Sound bare_place
sound_bare = record {
  known = tt;
  opened = λ x is. absurd (false≢true is);
  ended = λ x is. absurd (false≢true is);
  numbered = tt;
  xids_below = omega arith;
  numbers_below = omega arith;
  apart = λ x is_open came. false≢true is_open;
  running = tt;
  named = tt;
  locked = tt;
  ordered = tt;
  rising = tt;
  filled = tt;
  behind = tt;
}

-- ---- ceilings that rise

-- what keeps the next number and lowers no ceiling
record Higher (old : Counter) : Type 0 where
  new : Counter
  next : new.next ≡ old.next
  ceiling : old.ceiling ≤ new.ceiling

abbrev lifted_higher : (c : Counter) → Higher c
lifted_higher c = record { new = lifted c; next = refl; ceiling = omega arith }

abbrev same_higher : (c : Counter) → Higher c
same_higher c = record { new = c; next = refl; ceiling = omega arith }

sound_higher : {actions : List Action} {commits : List ℕ} {fillings : Named Filling} {opens : Named ℕ}
    {xids numbers : Counter}
    (x : Higher xids) (n : Higher numbers) → SoundOf actions commits fillings opens xids numbers →
    SoundOf actions commits fillings opens x.new n.new
sound_higher {actions} {fillings = fillings} x n s = record {
  known = all_map _ _ (λ a below. omega (arith, below, x.next)) actions s.known;
  apart = s.apart;
  opened = λ y is. let below = s.opened y is in omega (arith, below, x.next);
  running = s.running;
  ended = λ y is. let below = s.ended y is in omega (arith, below, x.next);
  named = s.named;
  numbered = all_map _ _ (λ a below. omega (arith, below, n.next)) actions s.numbered;
  locked = s.locked;
  xids_below = omega (arith, s.xids_below, x.next, x.ceiling);
  ordered = s.ordered;
  numbers_below = omega (arith, s.numbers_below, n.next, n.ceiling);
  rising = s.rising;
  filled = all_map _ _ (λ f below. omega (arith, below, n.next)) fillings s.filled;
  behind = s.behind;
}

sound_founded : (p : Place) → Sound p → Sound (founded p)
sound_founded p s = sound_higher (lifted_higher p.xids) (lifted_higher p.numbers) s

sound_lifted : (kind : Numbering) (p : Place) → Sound p →
    Sound (stamped (with_counter kind (lifted (counter kind p)) p))
sound_lifted Xids p s = sound_higher (lifted_higher p.xids) (same_higher p.numbers) s
sound_lifted Actions p s = sound_higher (same_higher p.xids) (lifted_higher p.numbers) s

pub sound_raised : (kind : Numbering) (p : Place) → Sound p → Sound (raised kind p)
sound_raised kind p s = either_raised Sound kind p s (sound_lifted kind p s)

lifted_room : (kind : Numbering) (p : Place) → (counter kind p).next ≡ (counter kind p).ceiling →
    (counter kind (stamped (with_counter kind (lifted (counter kind p)) p))).next < (counter kind
    (stamped (with_counter kind (lifted (counter kind p)) p))).ceiling
lifted_room Xids p at = omega (arith, at)
lifted_room Actions p at = omega (arith, at)

-- after that a number can be drawn
pub raised_room : (kind : Numbering) (p : Place) → (counter kind p).next ≤ (counter kind p).ceiling →
    (counter kind (raised kind p)).next < (counter kind (raised kind p)).ceiling
raised_room kind p below =
    elim ((counter kind p).next == (counter kind p).ceiling)
    as (λ b. ((counter kind p).next == (counter kind p).ceiling) ≡ b →
    (counter kind (cond b (stamped (with_counter kind (lifted (counter kind p)) p)) p)).next < (counter kind
    (cond b (stamped (with_counter kind (lifted (counter kind p)) p)) p)).ceiling) [
      | true ↦ λ at. lifted_room kind p (eqb-true (counter kind p).next (counter kind p).ceiling at)
      | false ↦ λ not. let differ = eqb-false (counter kind p).next (counter kind p).ceiling not in
          omega (arith, below, differ)
    ] refl

-- ---- fewer open transactions, and none

-- what numbers and open transactions are like that are left
record Left (opens : Named ℕ) (xids numbers : Counter) : Type 0 where
  fewer : Named ℕ
  new_xids : Counter
  new_numbers : Counter
  less : (x : ℕ) → member x (ids_of fewer) ≡ true → member x (ids_of opens) ≡ true
  running : Rising (ids_of fewer)
  named : AreNamedOnce fewer
  later : (xids.next ≤ new_xids.next) × (new_xids.next ≤ new_xids.ceiling)
  more : (numbers.next ≤ new_numbers.next) × (new_numbers.next ≤ new_numbers.ceiling)

sound_left : {actions : List Action} {commits : List ℕ} {fillings : Named Filling} {opens : Named ℕ}
    {xids numbers : Counter}
    (l : Left opens xids numbers) → SoundOf actions commits fillings opens xids numbers →
    SoundOf actions commits fillings l.fewer l.new_xids l.new_numbers
sound_left {actions} {fillings = fillings} {opens = opens} l s = record {
  known = all_map _ _ (λ a known. omega (arith, known, l.later.0)) actions s.known;
  opened = λ x is. let known = s.opened x (l.less x is) in omega (arith, known, l.later.0);
  ended = λ x is. let known = s.ended x is in omega (arith, known, l.later.0);
  numbered = all_map _ _ (λ a known. omega (arith, known, l.more.0)) actions s.numbered;
  xids_below = l.later.1;
  numbers_below = l.more.1;
  apart = λ x is_open came. s.apart x (l.less x is_open) came;
  running = l.running;
  named = l.named;
  locked =
      pairs_each (IsLocked (ids_of opens)) (IsLocked (ids_of l.fewer))
      (λ a b locked conflict is_open. locked conflict (l.less a.xid is_open)) actions s.locked;
  ordered = s.ordered;
  rising = s.rising;
  filled = all_map _ _ (λ f below. omega (arith, below, l.more.0)) fillings s.filled;
  behind = all_map _ _ (λ a behind is_open. behind (l.less a.xid is_open)) actions s.behind;
}

sound_aborted : (name : List ℕ) (p : Place) → Sound p → Sound (aborted name p)
sound_aborted name p s =
    sound_left (record {
      fewer = without name p.opens;
      new_xids = p.xids;
      new_numbers = p.numbers;
      less = λ x. member_without x name p.opens;
      running = rising_without name p.opens s.running;
      named = named_without name p.opens s.named;
      later = (omega arith, s.xids_below);
      more = (omega arith, s.numbers_below);
    }) s

-- no transaction is open any more
abbrev none_left : (opens : Named ℕ) (xids numbers new_xids new_numbers : Counter) →
    (xids.next ≤ new_xids.next) × (new_xids.next ≤ new_xids.ceiling) →
    (numbers.next ≤ new_numbers.next) × (new_numbers.next ≤ new_numbers.ceiling) → Left opens xids numbers
none_left opens xids numbers new_xids new_numbers later more = record {
  fewer = [];
  new_xids = new_xids;
  new_numbers = new_numbers;
  less = λ x is. absurd (false≢true is);
  running = tt;
  named = tt;
  later = later;
  more = more;
}

pub sound_closed : {actions : List Action} {commits : List ℕ} {fillings : Named Filling} {opens : Named ℕ}
    {xids numbers : Counter} →
    SoundOf actions commits fillings opens xids numbers → SoundOf actions commits fillings [] xids numbers
sound_closed {opens = opens} {xids = xids} {numbers = numbers} s =
    sound_left (none_left opens xids numbers xids numbers (omega arith, s.xids_below) (omega arith, s.numbers_below)) s

sound_risen : (p : Place) → Sound p → Sound (risen p)
sound_risen p s =
    sound_left (none_left p.opens p.xids p.numbers (risen p).xids (risen p).numbers (s.xids_below, omega arith)
    (s.numbers_below, omega arith)) s

-- ---- a transaction begins

sound_begun : (name : List ℕ) (p : Place) → find_named name p.opens ≡ None → p.xids.next < p.xids.ceiling → Sound p →
    Sound (begun name p)
sound_begun name p none below s = record {
  known =
      all_map (λ a. a.xid < p.xids.next) (λ a. a.xid < p.xids.next + 1)
      (λ a known. omega (arith, known)) p.actions s.known;
  opened = λ x is. elim (member_behind x p.xids.next name p.opens is) [
    | inl old ↦ let known = s.opened x old in omega (arith, known)
    | inr new ↦ omega (arith, new)
  ];
  ended = λ x is. let known = s.ended x is in omega (arith, known);
  numbered = s.numbered;
  xids_below = omega (arith, below);
  numbers_below = s.numbers_below;
  apart = λ x is_open came. elim (member_behind x p.xids.next name p.opens is_open) [
    | inl old ↦ s.apart x old came
    | inr new ↦ let known = s.ended x came in omega (arith, known, new)
  ];
  running =
      rising_behind p.xids.next name p.opens (all_member (λ x. x < p.xids.next) (ids_of p.opens) s.opened) s.running;
  named = named_behind name p.xids.next p.opens none s.named;
  locked = pairs_map (λ a. a.xid < p.xids.next) (IsLocked (ids_of p.opens)) (IsLocked (ids_of (begun name p).opens))
      (λ a b known locked conflict is_open. locked conflict (old a known is_open)) p.actions s.known s.locked;
  ordered = s.ordered;
  rising = s.rising;
  filled = s.filled;
  behind = all_two (λ a. a.xid < p.xids.next) _ _ (λ a known behind is_open. behind (old a known is_open)) p.actions
      s.known s.behind;
}
  where
    old : (a : Action) → a.xid < p.xids.next → member a.xid (ids_of (begun name p).opens) ≡ true →
        member a.xid (ids_of p.opens) ≡ true
    old a known is_open = elim (member_behind a.xid p.xids.next name p.opens is_open) [
      | inl before ↦ before
      | inr new ↦ absurd (omega (arith, known, new))
    ]

-- ---- a row is written

-- a table was last filled before the next action
pub filled_below : (table : List ℕ) (n : ℕ) (fillings : Named Filling) → AllByRecursion (λ f. f.1.first ≤ n) fillings →
    (filling_of table fillings).first ≤ n
filled_below table n fillings all = by (find_named table fillings) refl
  where
    by : (o : Option Filling) → find_named table fillings ≡ o →
        (unwrap_or o (record { first = 0; rows = empty })).first ≤ n
    by None found = omega arith
    by (Some f) found = all_found (λ f. f.first ≤ n) table f fillings all found

sound_written : (xid : ℕ) (table : List ℕ) (change : Change) (p : Place) → member xid (ids_of p.opens) ≡ true →
    IsFree xid (holder table (change_key change) p) → p.numbers.next < p.numbers.ceiling → Sound p →
    Sound (written xid table change p)
sound_written xid table change p is_open free below s = record {
  known = (s.opened xid is_open, s.known);
  opened = s.opened;
  ended = s.ended;
  numbered = (
    omega arith,
    all_map (λ a. a.number < p.numbers.next) (λ a. a.number < p.numbers.next + 1)
        (λ a before. omega (arith, before)) p.actions s.numbered,
  );
  xids_below = s.xids_below;
  numbers_below = omega (arith, below);
  apart = s.apart;
  running = s.running;
  named = s.named;
  locked = (holder_frees new (ids_of p.opens) p.actions free s.locked, s.locked);
  ordered = (
    all_map (λ a. a.xid < p.xids.next) (λ a. IsOrdered p.commits a new)
        (λ a known conflict differ came_a came. absurd (s.apart xid is_open came)) p.actions s.known,
    s.ordered,
  );
  rising = (s.numbered, s.rising);
  filled =
      all_map (λ f. f.1.first ≤ p.numbers.next) (λ f. f.1.first ≤ p.numbers.next + 1) (λ f below. omega (arith, below))
      p.fillings s.filled;
  behind = ((λ is_open. filled_below table p.numbers.next p.fillings s.filled), s.behind);
}
  where
    new : Action
    new = record { number = p.numbers.next; xid = xid; table = table; change = change }

-- ---- a transaction is committed

sound_committed : (name : List ℕ) (xid : ℕ) (p : Place) → find_named name p.opens ≡ Some xid → Sound p →
    Sound (committed name xid p)
sound_committed name xid p found s = record {
  known = left.known;
  opened = left.opened;
  ended = λ x is. elim (or_cases (x == xid) (member x p.commits) is) [
    | inl same ↦
        subst (λ y. y < p.xids.next) (sym (eqb-true x xid same)) (s.opened xid (found_member name xid p.opens found))
    | inr came ↦ s.ended x came
  ];
  numbered = left.numbered;
  xids_below = left.xids_below;
  numbers_below = left.numbers_below;
  apart = λ x is_open came. elim (or_cases (x == xid) (member x p.commits) came) [
    | inl same ↦
        member_taken xid name p.opens s.named s.running found
        (ap (λ y. member y (ids_of (without name p.opens))) (sym (eqb-true x xid same)) ∙ is_open)
    | inr before ↦ left.apart x is_open before
  ];
  running = left.running;
  named = left.named;
  locked = left.locked;
  ordered = pairs_both (IsLocked (ids_of p.opens)) (IsOrdered p.commits) (IsOrdered (xid ∷ p.commits))
      (order_committed xid (ids_of p.opens) p.commits (found_member name xid p.opens found)) p.actions s.locked
      s.ordered;
  rising = left.rising;
  filled = left.filled;
  behind = left.behind;
}
  where
    left : Sound (aborted name p)
    left = sound_aborted name p s

sound_first : (p : Place) → Sound p → Sound (first_rows p)
sound_first p s = elim (p.stamp == 0) as (λ b. Sound (cond b (founded p) p)) [ true ↦ sound_founded p s | false ↦ s ]

-- ---- tables are filled

-- one table more, which no open transaction wrote
one_filled : (p : Place) (table : List ℕ) (rows : Rows) (fillings : Named Filling) → has_writer table p ≡ false →
    SoundOf p.actions p.commits fillings p.opens p.xids p.numbers →
    SoundOf p.actions p.commits ((table, record { first = p.numbers.next; rows = rows }) ∷ fillings) p.opens p.xids
    p.numbers
one_filled p table rows fillings none s = record {
  known = s.known;
  opened = s.opened;
  ended = s.ended;
  numbered = s.numbered;
  xids_below = s.xids_below;
  numbers_below = s.numbers_below;
  apart = s.apart;
  running = s.running;
  named = s.named;
  locked = s.locked;
  ordered = s.ordered;
  rising = s.rising;
  filled = (omega arith, s.filled);
  behind = still p.actions none s.behind;
}
  where
    on : (b : Bool) (a : Action) → (b ≡ true → ⊥) → (filling_of a.table fillings).first ≤ a.number →
        (unwrap_or (cond b (Some (record { first = p.numbers.next; rows = rows })) (find_named a.table fillings))
        (record { first = 0; rows = empty })).first ≤ a.number
    on true a other behind = absurd (other refl)
    on false a other behind = behind

    still : (actions : List Action) →
        list_any (λ a. member a.xid (open_xids p) && bytes_eq table a.table) actions ≡ false →
        AllByRecursion (λ a. member a.xid (ids_of p.opens) ≡ true → (filling_of a.table fillings).first ≤ a.number)
        actions → AllByRecursion (λ a. member a.xid (ids_of p.opens) ≡ true →
        (filling_of a.table ((table, record { first = p.numbers.next; rows = rows }) ∷ fillings)).first ≤ a.number)
        actions
    still [] none behind = tt
    still (a ∷ rest) none behind =
        let parts = or_parts (member a.xid (open_xids p) && bytes_eq table a.table) _ none in (
          (λ is_open. on (bytes_eq a.table table) a
              (λ same. false≢true (sym parts.0 ∙ ap (λ b. b && bytes_eq table a.table) is_open
              ∙ bytes_turned a.table table same)) (behind.0 is_open)),
          still rest parts.1 behind.1,
        )

rows_filled : (p : Place) (rs : Named Rows) (fillings : Named Filling) →
    SoundOf p.actions p.commits fillings p.opens p.xids p.numbers →
    SoundOf p.actions p.commits (filled p rs fillings) p.opens p.xids p.numbers
rows_filled p [] fillings s = s
rows_filled p (r ∷ rs) fillings s =
    elim (has_writer r.0 p) as (λ b. has_writer r.0 p ≡ b → SoundOf p.actions p.commits
    (cond b (filled p rs fillings) ((r.0, record { first = p.numbers.next; rows = r.1 }) ∷ filled p rs fillings))
    p.opens
    p.xids p.numbers) [
      | true ↦ λ written. rows_filled p rs fillings s
      | false ↦ λ none. one_filled p r.0 r.1 (filled p rs fillings) none (rows_filled p rs fillings s)
    ] refl

pub sound_filled : (p : Place) (ds : List Deed) → Sound p →
    SoundOf p.actions p.commits (filled_by p ds p.fillings) p.opens p.xids p.numbers
sound_filled p [] s = s
sound_filled p (d ∷ ds) s = rows_filled p (brought_in d.doing).rows (filled_by p ds p.fillings) (sound_filled p ds s)

-- ---- each move

pub sound_prepared : (move : Move) (p : Place) → Sound p → Sound (prepared move p)
sound_prepared (Begins name) p s = sound_raised Xids p s
sound_prepared (Writes xid table change) p s = sound_raised Actions p s
sound_prepared Rises p s = sound_first p s
sound_prepared others p s = s

sound_done : (task : Task) (move : Move) (p : Place) → Allows task p move → Sound p → Sound (done move p)
sound_done task Stays p allowed s = s
sound_done task Founds p allowed s = sound_first p s
sound_done task (Tables table columns) p allowed s = s
sound_done task (Begins name) p allowed s =
    let same = (raised_same Xids p).opens in
    sound_begun name (raised Xids p) (ap (find_named name) same ∙ allowed) (raised_room Xids p s.xids_below)
    (sound_raised Xids p s)
sound_done task (Writes xid table change) p allowed s =
    write (raised Actions p) (raised_same Actions p).opens (raised_same Actions p).actions
    (raised_room Actions p s.numbers_below) (sound_raised Actions p s)
  where
    write : (q : Place) → q.opens ≡ p.opens → q.actions ≡ p.actions → q.numbers.next < q.numbers.ceiling → Sound q →
        Sound (written xid table change q)
    write q opens actions room sound =
        sound_written xid table change q (ap (λ os. member xid (ids_of os)) opens
        ∙ found_member allowed.name xid p.opens allowed.opened)
        (rw (opens, actions) allowed.free) room sound
sound_done task (Commits name xid) p allowed s = sound_committed name xid p allowed s
sound_done task (Aborts name) p allowed s = sound_aborted name p s
sound_done task Falls p allowed s = sound_closed s
sound_done task Rises p allowed s = sound_risen (prepared Rises p) (sound_prepared Rises p s)

pub keeps_sound : Keeps IsWithin (λ task. Unit {0}) Sound Sound
keeps_sound = record {
  tasks = record {
    stays = λ p s. s;
    prepares = λ task move p may s. sound_prepared move p s;
    moves = λ task move p one may s. sound_done task move p may.allows s;
    falls = λ count p s. sound_closed s;
    wavers = λ stands p s. sound_closed s;
  };
  commits = λ c p first s. sound_filled p c.deeds s;
  promises = λ node p s. s;
}
