-- What a database does after a snapshot is taken there, which the snapshot does not see.
use Rattle.std.proofs.Common.{◌≡◌, ℕ, ◌<◌, Bool, true, false, cond, List, [], ◌∷◌, ◌++◌, refl, sym, ap, ◌∙◌}
use Rattle.std.specs.Prelude.{◌==◌, ◌||◌}
use Rattle.std.specs.List.{AllByRecursion}
use Rattle.std.proofs.lemmas.Bool.{false≢true, false_from_ne_true, eqb-true}
use Rattle.slon_model.specs.declared.numbering.Numbering.{Numbering}
use Rattle.slon_model.specs.declared.numbering.Numbering.TheVariants.{Xids, Actions}
use Rattle.slon_model.specs.Rows.{Action, member}
use Rattle.slon_model.specs.Snapshots.{sees}
use Rattle.slon_model.specs.Tasks.{Task}
use Rattle.slon_model.specs.Place.{Place, lifted, open_xids, raised, stamped, taken, founded, with_counter}
use Rattle.slon_model.specs.Moves.{Move, Founds, Begins, Writes, Commits, Rises, first_rows, prepared}
use Rattle.slon_model.specs.Moves.{done}
use Rattle.slon_laws.specs.Sound.{Sound}
use Rattle.slon_laws.specs.Allowed.{MayMove}
use Rattle.slon_laws.specs.Turning.{IsWithin}
use Rattle.slon_laws.specs.Keeps.{Keeps}
use Rattle.slon_laws.proofs.Covering.{Outlasts, outlasts_itself, keeps_outlasting, past, ended}
use Rattle.slon_laws.proofs.Decides.{IsSame, raised_same}
use Rattle.slon_laws.proofs.Later.{KeptBySteps}
use Rattle.slon_laws.proofs.Opens.{found_member}

-- ---- what a snapshot sees

-- it sees an id exactly where the transaction was drawn and is not open
pub unseen_open : (p q : Place) → Sound p → Outlasts p q → (x : ℕ) → member x (open_xids q) ≡ true →
    sees (taken p) x ≡ false
unseen_open p q s lasts x is_open =
    false_from_ne_true _ (λ seen. let was = past x p.xids.next (open_xids p) s.running s.opened seen in
    was.1 (lasts.still x was.0 is_open))

pub seen_ended : (p : Place) → (x : ℕ) → x < p.xids.next → (member x (open_xids p) ≡ true → ⊥) →
    sees (taken p) x ≡ true
seen_ended p x below closed = ended x p.xids.next (open_xids p) below closed

pub seen_committed : (p : Place) → Sound p → (x : ℕ) → member x p.commits ≡ true → sees (taken p) x ≡ true
seen_committed p s x came = seen_ended p x (s.ended x came) (λ is_open. s.apart x is_open came)

-- ---- what it has done since

-- The database is this one later: the actions before are there still, and the snapshot sees none of those behind them.
pub record Since (p q : Place) : Type 0 where
  pub lasts : Outlasts p q
  pub more : List Action
  pub actions : q.actions ≡ more ++ p.actions
  pub unseen : AllByRecursion (λ a. sees (taken p) a.xid ≡ false) more
  pub commits : (x : ℕ) → sees (taken p) x ≡ true → member x q.commits ≡ member x p.commits

pub since_itself : (p : Place) → Since p p
since_itself p = record {
  lasts = outlasts_itself p;
  more = [];
  actions = refl;
  unseen = tt;
  commits = λ x seen. refl;
}

-- the actions and the commits stay
stays_since : (p q r : Place) → Since p q → Outlasts p r → r.actions ≡ q.actions → r.commits ≡ q.commits → Since p r
stays_since p q r s lasts actions commits = record {
  lasts = lasts;
  more = s.more;
  actions = actions ∙ s.actions;
  unseen = s.unseen;
  commits = λ x seen. ap (member x) commits ∙ s.commits x seen;
}

pub first_same : (p : Place) → IsSame p (first_rows p)
first_same p =
    elim (p.stamp == 0) as (λ b. IsSame p (cond b (founded p) p)) [
      | true ↦ record { xid = refl; number = refl; tables = refl; actions = refl; commits = refl; opens = refl }
      | false ↦ record { xid = refl; number = refl; tables = refl; actions = refl; commits = refl; opens = refl }
    ]

-- what comes before a move changes none of it
pub prepared_same : (move : Move) (p : Place) → IsSame p (prepared move p)
prepared_same (Begins name) p = raised_same Xids p
prepared_same (Writes xid table change) p = raised_same Actions p
prepared_same Rises p = first_same p
prepared_same others p =
    record { xid = refl; number = refl; tables = refl; actions = refl; commits = refl; opens = refl }

raised_fillings : (kind : Numbering) (p : Place) → (raised kind p).fillings ≡ p.fillings
raised_fillings Xids p = by (p.xids.next == p.xids.ceiling)
  where
    by : (b : Bool) → (cond b (stamped (with_counter Xids (lifted p.xids) p)) p).fillings ≡ p.fillings
    by true = refl
    by false = refl
raised_fillings Actions p = by (p.numbers.next == p.numbers.ceiling)
  where
    by : (b : Bool) → (cond b (stamped (with_counter Actions (lifted p.numbers) p)) p).fillings ≡ p.fillings
    by true = refl
    by false = refl

pub first_fillings : (p : Place) → (first_rows p).fillings ≡ p.fillings
first_fillings p =
    elim (p.stamp == 0) as (λ b. (cond b (founded p) p).fillings ≡ p.fillings) [ true ↦ refl | false ↦ refl ]

-- nor what tables were filled with
pub prepared_fillings : (move : Move) (p : Place) → (prepared move p).fillings ≡ p.fillings
prepared_fillings (Begins name) p = raised_fillings Xids p
prepared_fillings (Writes xid table change) p = raised_fillings Actions p
prepared_fillings Rises p = first_fillings p
prepared_fillings others p = refl

-- a write of a transaction that is open now
written_since : (p q r : Place) (a : Action) → Sound p → Since p q → Outlasts p r →
    (r.actions ≡ a ∷ q.actions) × (r.commits ≡ q.commits) × (member a.xid (open_xids q) ≡ true) → Since p r
written_since p q r a sound s lasts is = record {
  lasts = lasts;
  more = a ∷ s.more;
  actions = is.0 ∙ ap (λ old. a ∷ old) s.actions;
  unseen = (unseen_open p q sound s.lasts a.xid is.2, s.unseen);
  commits = λ x seen. ap (member x) is.1 ∙ s.commits x seen;
}

-- a commit of a transaction that is open now
committed_since : (p q r : Place) (xid : ℕ) → Sound p → Since p q → Outlasts p r →
    (r.actions ≡ q.actions) × (r.commits ≡ xid ∷ q.commits) × (member xid (open_xids q) ≡ true) → Since p r
committed_since p q r xid sound s lasts is = record {
  lasts = lasts;
  more = s.more;
  actions = is.0 ∙ s.actions;
  unseen = s.unseen;
  commits = λ x seen. ap (member x) is.1 ∙ ap (λ b. b || member x q.commits) (another x seen) ∙ s.commits x seen;
}
  where
    another : (x : ℕ) → sees (taken p) x ≡ true → (x == xid) ≡ false
    another x seen =
        false_from_ne_true _ (λ same. false≢true (sym (unseen_open p q sound s.lasts xid is.2)
        ∙ ap (sees (taken p)) (sym (eqb-true x xid same)) ∙ seen))

moved_since : (p q : Place) (move : Move) (task : Task) → Sound p → Since p q → MayMove task q move →
    Outlasts p (done move q) → Since p (done move q)
moved_since p q (Writes xid table change) task sound s may lasts =
    let same = prepared_same (Writes xid table change) q in
    let a : Action = record {
      number = (prepared (Writes xid table change) q).numbers.next;
      xid = xid;
      table = table;
      change = change;
    } in
    written_since p q (done (Writes xid table change) q) a sound s lasts
    (ap (λ old. a ∷ old) same.actions, same.commits, found_member may.allows.name xid q.opens may.allows.opened)
moved_since p q (Commits name xid) task sound s may lasts =
    committed_since p q (done (Commits name xid) q) xid sound s lasts
    (refl, refl, found_member name xid q.opens may.allows)
moved_since p q Founds task sound s may lasts =
    let same = first_same q in stays_since p q (done Founds q) s lasts same.actions same.commits
moved_since p q others task sound s may lasts =
    let same = prepared_same others q in stays_since p q (done others q) s lasts same.actions same.commits

pub keeps_since : (p : Place) → Sound p → KeptBySteps (Since p)
keeps_since p sound = record {
  tasks = record {
    stays = λ q s. s.1;
    prepares = λ task move q may s.
        let same = prepared_same move q in
        stays_since p q (prepared move q) s.1 (lasts.tasks.prepares task move q may (s.0, s.1.lasts)) same.actions
        same.commits;
    moves = λ task move q one may s.
        moved_since p q move task sound s.1 may (lasts.tasks.moves task move q tt may (s.0, s.1.lasts));
    falls = λ count q s. stays_since p q _ s (lasts.tasks.falls count q s.lasts) refl refl;
    wavers = λ stands q s. stays_since p q _ s (lasts.tasks.wavers stands q s.lasts) refl refl;
  };
  commits = λ c q first s. stays_since p q _ s (lasts.commits c q first s.lasts) refl refl;
  promises = λ node q s. stays_since p q _ s (lasts.promises node q s.lasts) refl refl;
}
  where
    lasts : Keeps IsWithin (λ task. Unit {0}) (λ q. Sound q × Outlasts p q) (Outlasts p)
    lasts = keeps_outlasting p
