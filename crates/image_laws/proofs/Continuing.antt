-- A stretch of a node is found again, whatever happens later, and only its end may have come.
use Rattle.std.proofs.Common.{◌≡◌, ℕ, ◌≤◌, ◌<◌, Bool, true, false, cond, [], ◌∷◌, Option, Some, None, refl, sym, ap}
use Rattle.std.proofs.Common.{List}
use Rattle.std.proofs.Common.{subst, ◌∙◌, arith, inl, inr}
use Rattle.std.specs.Prelude.{find, option_map}
use Rattle.std.specs.Option.{option_or}
use Rattle.std.proofs.lemmas.Bool.{lt-ltb}
use Rattle.slon_model.specs.Config.{Config}
use Rattle.slon_model.specs.Deeds.{Node, Deed, knowledge, with_deeds}
use Rattle.slon_model.specs.Tasks.{Task}
use Rattle.slon_model.specs.Place.{Place}
use Rattle.slon_model.specs.Moves.{Move, prepared, done, commit_deed, with_commit}
use Rattle.slon_model.specs.Sessions.{Commit, committing, in_doubt}
use Rattle.slon_model.specs.Eras.{Stretch, reigns, ended, stretches, is_stretch, is_before}
use Rattle.slon_model.proofs.Names.{one_found}
use Rattle.slon_laws.specs.Sound.{Sound}
use Rattle.slon_laws.specs.Allowed.{MayMove}
use Rattle.slon_laws.specs.Keeps.{KeepsTasks}
use Rattle.slon_laws.specs.Turning.{Turned, Commits, Falls, Doubts}
use Rattle.slon_laws.proofs.Covering.{Outlasts, outlasts_itself, keeps_outlasting}
use Rattle.stream_laws.proofs.Steps.{Logs, prepared_node, done_logs}
use Rattle.image_laws.specs.Fits.{IsListed, Fit, Keeps, CreatesSet, AddsTable, FollowsTable, AllDone, IsFit, MayStand}
use Rattle.image_laws.specs.Fits.{Does, Becomes, DropsSet}
use Rattle.image_laws.specs.Facts.{HoldsStretch, Holds}
use Rattle.image_laws.proofs.Adding.{OneDeed, known_behind, finds_behind}
use Rattle.image_laws.proofs.Found.{find_has}
use Rattle.image_laws.proofs.Moving.{doing_holds}
use Rattle.image_laws.proofs.Stretching.{behind, behind_same}
use Rattle.image_laws.proofs.Since.{prepared_same}

-- No action below this number is behind the end of the stretch.
pub record IsLate (first : ℕ) (s : Stretch) : Type 0 where
  pub each : (x : ℕ) → x < first → is_before x s.last ≡ true

-- The node of the database has the stretch, and no action below this number is behind its end.
pub record Continues (s : Stretch) (first : ℕ) (q : Place) : Type 0 where
  pub node : Node
  pub is : q.node ≡ Some node
  pub stretch : Stretch
  pub found : find (is_stretch s.set_id s.era s.table) (stretches node) ≡ Some stretch
  pub same : stretch ≡ record s { last = stretch.last }
  pub late : IsLate first stretch
  pub numbers : first ≤ q.numbers.next

-- the node stays
stays : (s : Stretch) (first : ℕ) (q r : Place) → r.node ≡ q.node → q.numbers.next ≤ r.numbers.next →
    Continues s first q → Continues s first r
stays s first q r same later c = record {
  node = c.node;
  is = same ∙ c.is;
  stretch = c.stretch;
  found = c.found;
  same = c.same;
  late = c.late;
  numbers = let numbers = c.numbers in omega (arith, numbers, later);
}

-- ---- a deed

-- and where it comes, it comes behind what was drawn
behind_late : (own : ℕ) (c : Config) (d : Deed) (s : Stretch) (first : ℕ) → IsLate first s → first ≤ d.first →
    IsLate first (behind own c d s)
behind_late own c d s first late below = record { each = λ x less. by x less s.last refl }
  where
    by : (x : ℕ) → x < first → (o : Option ℕ) → s.last ≡ o → is_before x (ended own c d.first o s).last ≡ true
    by x less (Some last) is = late.each x less
    by x less None is =
        elim (reigns own c s) as (λ b. is_before x (cond b s (record s { last = Some d.first })).last ≡ true) [
          | true ↦ late.each x less
          | false ↦ lt-ltb x d.first (omega (arith, less, below))
        ]

deed_continues : (s : Stretch) (first : ℕ) (q r : Place) (d : OneDeed q) →
    (q.node ≡ Some d.node) × (r.node ≡ Some (with_deeds (d.deed ∷ []) d.node)) ×
    (q.numbers.next ≤ r.numbers.next) → Holds q → Continues s first q → Continues s first r
deed_continues s first q r d is h c = record {
  node = with_deeds (d.deed ∷ []) d.node;
  is = is.1;
  stretch = later;
  found =
      finds_behind q d s.set_id s.era s.table h.0 (h.1 d.node is.0) listed
      ∙ ap (option_map (behind d.node.id (known_behind q d) d.deed)) found;
  same =
      behind_same d.node.id (known_behind q d) d.deed c.stretch
      ∙ ap (λ (t : Stretch). record t { last = later.last }) c.same;
  late =
      behind_late d.node.id (known_behind q d) d.deed c.stretch first c.late
      (let numbers = c.numbers in let now = d.first in omega (arith, numbers, now));
  numbers = let numbers = c.numbers in let on = is.2 in omega (arith, numbers, on);
}
  where
    later : Stretch
    later = behind d.node.id (known_behind q d) d.deed c.stretch

    found : find (is_stretch s.set_id s.era s.table) (stretches d.node) ≡ Some c.stretch
    found =
        ap (λ (n : Node). find (is_stretch s.set_id s.era s.table) (stretches n))
        (one_found d.node c.node (sym is.0 ∙ c.is)) ∙ c.found

    listed : IsListed s.table (knowledge d.node).config
    listed =
        subst (λ (t : Stretch). IsListed t.table (knowledge d.node).config) c.same
        (find_has (HoldsStretch q d.node.id (knowledge d.node).config) _ c.stretch (stretches d.node)
        (h.1 d.node is.0).each found).0.listed

-- ---- a task of the database

outlasting : (task : Task) (move : Move) (q : Place) → MayMove task q move → Sound q → Outlasts q (done move q)
outlasting task move q may sound = (keeps_outlasting q).tasks.moves task move q tt may (sound, outlasts_itself q)

done_continues : (s : Stretch) (first : ℕ) (task : Task) (move : Move) (q : Place) → MayMove task q move → Holds q →
    Continues s first q → Continues s first (done move q)
done_continues s first task move q may h c = by (done_logs move q)
  where
    later : q.numbers.next ≤ (done move q).numbers.next
    later = (outlasting task move q may h.0).numbers

    by : Logs q (done move q).node → Continues s first (done move q)
    by (inl same) = stays s first q (done move q) same later c
    by (inr (xid, log)) =
        deed_continues s first q (done move q) (record {
          node = c.node;
          deed = commit_deed xid q c.node;
          first = refl;
          fit = Keeps refl (record { sets = refl; tables = refl; nodes = λ id known. known });
        }) (c.is, log ∙ ap (option_map (with_commit xid q)) c.is, later) h c

pub keeps_continuing : (s : Stretch) (first : ℕ) →
    KeepsTasks (λ task. Unit {0}) (λ q. Holds q × Continues s first q) (Continues s first)
keeps_continuing s first = record {
  stays = λ q is. is.1;
  prepares = λ task move q may is.
      let number = (prepared_same move q).number in
      stays s first q (prepared move q) (prepared_node move q) (omega (arith, number)) is.1;
  moves = λ task move q one may is. done_continues s first task move q may is.0 is.1;
  falls = λ count q c. stays s first q _ refl (omega arith) c;
  wavers = λ stands q c. stays s first q _ refl (omega arith) c;
}

-- ---- a commit of a script or a turn

-- what it does is fit for a database with another node, too
pub fit_beside : (p : Place) (o : Option Node) (n : Node) (d : Deed) → Fit p n d → Fit (record p { node = o }) n d
fit_beside p o n d (Keeps none kept) = Keeps none kept
fit_beside p o n d (CreatesSet a) = CreatesSet a
fit_beside p o n d (AddsTable a) =
    AddsTable (record { table = a.table; rows = a.rows; leads = a.leads; free = a.free })
fit_beside p o n d (FollowsTable f) = FollowsTable f
fit_beside p o n d (DropsSet e) = DropsSet e

-- the database with the node behind these deeds
abbrev pub doing_so : Place → Node → List Deed → Place
doing_so q n ds = record q { node = Some (with_deeds ds n) }

deeds_continue : (s : Stretch) (first : ℕ) (q : Place) (n : Node) (ds : List Deed) → q.node ≡ Some n →
    AllDone q n ds → Holds q × Continues s first q → Continues s first (doing_so q n ds)
deeds_continue s first q n [] is done on = stays s first q (doing_so q n []) (sym is) (omega arith) on.1
deeds_continue s first q n (d ∷ ds) is done on =
    deed_continues s first (doing_so q n ds) (doing_so q n (d ∷ ds)) (record {
      node = with_deeds ds n;
      deed = d;
      first = done.1.first;
      fit = fit_beside q (Some (with_deeds ds n)) (with_deeds ds n) d done.2;
    }) (refl, refl, omega arith) (doing_holds q n ds is done.0 on.0) (deeds_continue s first q n ds is done.0 on)

commit_continues : (s : Stretch) (first : ℕ) (commit : Commit) (q : Place) → IsFit commit q → Holds q →
    Continues s first q → Continues s first (committing commit q)
commit_continues s first commit q (Does n is none done others) h c =
    stays s first (doing_so q n commit.deeds) (committing commit q)
    (ap (λ o. option_map (with_deeds commit.deeds) (option_or o q.node)) none
    ∙ ap (option_map (with_deeds commit.deeds)) is) (omega arith)
    (deeds_continue s first q n commit.deeds is done (h, c))
commit_continues s first commit q (Becomes n none is deeds new) h c =
    let never : None ≡ Some c.node = sym none ∙ c.is in absurd cc

pub turned_continues : (s : Stretch) (first : ℕ) (p q : Place) → Turned MayStand p q → Holds p → Continues s first p →
    Continues s first q
turned_continues s first p q (Commits commit fit is) h c =
    subst (Continues s first) (sym is) (commit_continues s first commit p fit.1 h c)
turned_continues s first p q (Falls count is) h c =
    subst (Continues s first) (sym is) (stays s first p _ refl (omega arith) c)
turned_continues s first p q (Doubts commit stands fit is) h c =
    subst (Continues s first) (sym is) (by stands)
  where
    by : (b : Bool) → Continues s first (in_doubt commit b p)
    by true = stays s first (committing commit p) _ refl (omega arith) (commit_continues s first commit p fit.1 h c)
    by false = stays s first p _ refl (omega arith) c
