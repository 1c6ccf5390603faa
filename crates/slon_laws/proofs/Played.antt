-- What passes one of two tests is played as what passes the second, and then what passes the first.
use Rattle.std.proofs.Common.{◌≡◌, ℕ, Bool, true, false, cond, List, [], ◌∷◌, ◌++◌, Option, refl}
use Rattle.std.proofs.Common.{sym, ap, ◌∙◌}
use Rattle.std.specs.Prelude.{◌||◌, ◌&&◌}
use Rattle.std.specs.List.{AllByRecursion}
use Rattle.std.specs.Str.{bytes_eq}
use Rattle.std.specs.Cmp.Lexicographic.{nat_list_cmp_total}
use Rattle.std.specs.FinMap.{get, same_map}
use Rattle.std.proofs.lemmas.Bool.{false≢true, true≢false, false_from_ne_true}
use Rattle.slon_model.specs.Rows.{Row, Rows, Action, apply, touches, is_on, play_rows}
use Rattle.slon_laws.specs.Sound.{Pairs, conflicts}
use Rattle.slon_laws.specs.Keys.{change_at}
use Rattle.slon_model.proofs.Names.{all_map}
use Rattle.slon_laws.proofs.Locks.{on_row, from_one_row}
use Rattle.slon_lemmas.proofs.Keys.{same_keys}
use Rattle.slon_laws.proofs.Keys.{get-played, played_at}

-- tests that agree on every action make the same rows
pub play_agrees : (p r : Action → Bool) (table : List ℕ) (actions : List Action) (start : Rows) →
    AllByRecursion (λ a. p a ≡ r a) actions → play_rows p table actions start ≡ play_rows r table actions start
play_agrees p r table [] start agree = refl
play_agrees p r table (a ∷ rest) start agree =
    ap (λ b. cond (b && bytes_eq table a.table) (apply a.change (play_rows p table rest start))
    (play_rows p table rest start)) agree.0
    ∙ ap (λ rows. cond (r a && bytes_eq table a.table) (apply a.change rows) rows)
    (play_agrees p r table rest start agree.1)

-- it is enough that they agree on those on the table
pub play_agrees_on : (p r : Action → Bool) (table : List ℕ) (actions : List Action) (start : Rows) →
    AllByRecursion (λ a. bytes_eq table a.table ≡ true → p a ≡ r a) actions →
    play_rows p table actions start ≡ play_rows r table actions start
play_agrees_on p r table [] start agree = refl
play_agrees_on p r table (a ∷ rest) start agree =
    ap (λ b. cond b (apply a.change (play_rows p table rest start)) (play_rows p table rest start))
    (on (bytes_eq table a.table) refl)
    ∙ ap (λ rows. cond (r a && bytes_eq table a.table) (apply a.change rows) rows)
    (play_agrees_on p r table rest start agree.1)
  where
    off : (b c : Bool) → (b && false) ≡ (c && false)
    off true true = refl
    off true false = refl
    off false true = refl
    off false false = refl

    on : (b : Bool) → bytes_eq table a.table ≡ b → (p a && b) ≡ (r a && b)
    on true is = ap (λ b. b && true) (agree.0 is)
    on false is = off (p a) (r a)

-- actions that do not pass the test leave the rows that the others make
pub play_skips : (test : Action → Bool) (table : List ℕ) (more rest : List Action) (start : Rows) →
    AllByRecursion (λ a. test a ≡ false) more →
    play_rows test table (more ++ rest) start ≡ play_rows test table rest start
play_skips test table [] rest start none = refl
play_skips test table (a ∷ more) rest start none =
    ap (λ b. cond (b && bytes_eq table a.table) (apply a.change (play_rows test table (more ++ rest) start))
    (play_rows test table (more ++ rest) start)) none.0
    ∙ play_skips test table more rest start none.1

none_played : (table k : List ℕ) (actions : List Action) (start : Rows) →
    get (play_rows (λ a. false) table actions start) k ≡ get start k
none_played table k [] start = refl
none_played table k (a ∷ rest) start = none_played table k rest start

-- where no action on the row passes the test the row stays
pub played_none : (test : Action → Bool) (table k : List ℕ) (actions : List Action) (start : Rows) →
    AllByRecursion (λ a. is_on table k a ≡ true → test a ≡ false) actions →
    get (play_rows test table actions start) k ≡ get start k
played_none test table k actions start none =
    played_at test (λ a. false) table k actions start start (none, refl) ∙ none_played table k actions start

-- no action that passes the first test is followed by one on its row that passes the second
abbrev pub NoneBetween : (Action → Bool) → (Action → Bool) → Action → Action → Type 0
NoneBetween own stood a b = conflicts a b ≡ true → own a ≡ true → stood b ≡ false

-- One action at a row, by whether it passes the first test (own) or the second (stood), and whether it is on the row.
-- Of the actions before it, r is the row that those make that pass one of the tests, p that of the second test, and q
-- that of the first over p. With this action those of the second test make the row before, and after is the first over
-- that.
record AtRow (own stood table touched : Bool) : Type 0 where
  f : Option Row → Option Row
  r : Option Row
  p : Option Row
  q : Option Row
  before : Option Row
  after : Option Row
  same : r ≡ q
  first : before ≡ cond ((stood && table) && touched) (f p) p
  start : before ≡ p → after ≡ q
  none : (table && touched) ≡ true → stood ≡ true → (after ≡ before) × (q ≡ p)
  apart : own ≡ true → stood ≡ false

one_action : (own stood table touched : Bool) (a : AtRow own stood table touched) →
    cond (((own || stood) && table) && touched) (a.f a.r) a.r
    ≡ cond ((own && table) && touched) (a.f a.after) a.after
one_action true true table touched a = absurd (true≢false (a.apart refl))
one_action true false table touched a =
    ap (λ o. cond (table && touched) (a.f o) o) (a.same ∙ sym (a.start a.first))
one_action false true true true a = ap a.f (a.same ∙ (a.none refl refl).1) ∙ sym a.first ∙ sym (a.none refl refl).0
one_action false true true false a = a.same ∙ sym (a.start a.first)
one_action false true false touched a = a.same ∙ sym (a.start a.first)
one_action false false table touched a = a.same ∙ sym (a.start a.first)

-- Two tests that no action passes both of.
pub record Apart : Type 0 where
  pub own : Action → Bool
  pub stood : Action → Bool
  pub apart : (a : Action) → own a ≡ true → stood a ≡ false

-- behind an action of the second test on a row none of the first is on it
none_own : (t : Apart) (table k : List ℕ) (b : Action) → (is_on table k b ≡ true) × (t.stood b ≡ true) →
    (rest : List Action) → AllByRecursion (λ a. NoneBetween t.own t.stood a b) rest →
    AllByRecursion (λ a. is_on table k a ≡ true → t.own a ≡ false) rest
none_own t table k b came rest between =
    all_map (λ a. NoneBetween t.own t.stood a b) (λ a. is_on table k a ≡ true → t.own a ≡ false)
    (λ a apart on. false_from_ne_true _ (λ own. false≢true (sym (apart (conflict a on) own) ∙ came.1))) rest between
  where
    conflict : (a : Action) → is_on table k a ≡ true → conflicts a b ≡ true
    conflict a on =
        let at = on_row table k a on in
        let here = on_row table k b came.0 in
        from_one_row a b (sym at.0 ∙ here.0) (sym at.1 ∙ here.1)

split_at : (t : Apart) (table k : List ℕ) (actions : List Action) (start : Rows) →
    Pairs (NoneBetween t.own t.stood) actions →
    get (play_rows (λ a. t.own a || t.stood a) table actions start) k
    ≡ get (play_rows t.own table actions (play_rows t.stood table actions start)) k
split_at t table k [] start pairs = refl
split_at t table k (a ∷ rest) start pairs =
    get-played (λ a. t.own a || t.stood a) table k a rest start
    ∙ one_action (t.own a) (t.stood a) (bytes_eq table a.table) (touches k a.change) (record {
      f = change_at a.change;
      r = get (play_rows (λ a. t.own a || t.stood a) table rest start) k;
      p = get stood_rest k;
      q = get (play_rows t.own table rest stood_rest) k;
      before = get stood k;
      after = get (play_rows t.own table rest stood) k;
      same = split_at t table k rest start pairs.1;
      first = get-played t.stood table k a rest start;
      start = λ same. played_at t.own t.own table k rest stood stood_rest (each rest, same);
      none = λ here came.
          let none = none_own t table k a (here, came) rest pairs.0 in
          (played_none t.own table k rest stood none, played_none t.own table k rest stood_rest none);
      apart = t.apart a;
    })
    ∙ sym (get-played t.own table k a rest stood)
  where
    stood : Rows
    stood = play_rows t.stood table (a ∷ rest) start

    stood_rest : Rows
    stood_rest = play_rows t.stood table rest start

    each : (actions : List Action) → AllByRecursion (λ a. is_on table k a ≡ true → t.own a ≡ t.own a) actions
    each [] = tt
    each (a ∷ rest) = ((λ on. refl), each rest)

-- What passes one of two tests is played as what passes the second, and then what passes the first over it.
pub split_played : (t : Apart) (table : List ℕ) (actions : List Action) (start : Rows) →
    Pairs (NoneBetween t.own t.stood) actions →
    play_rows (λ a. t.own a || t.stood a) table actions start
    ≡ play_rows t.own table actions (play_rows t.stood table actions start)
split_played t table actions start pairs =
    same_map nat_list_cmp_total same_keys (play_rows (λ a. t.own a || t.stood a) table actions start)
    (play_rows t.own table actions (play_rows t.stood table actions start))
    (λ k. split_at t table k actions start pairs)
