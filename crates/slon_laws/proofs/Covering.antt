-- What ended stays ended, so that later snapshots see it.
use Rattle.std.proofs.Common.{◌≡◌, ℕ, ◌<◌, ◌≤◌, true, false, cond, List, [], ◌∷◌, Some}
use Rattle.std.proofs.Common.{refl, sym, ap, subst, ◌∙◌, arith, inl, inr}
use Rattle.std.specs.Prelude.{◌==◌, ◌||◌, not, nat_lt}
use Rattle.std.proofs.lemmas.Bool.{false≢true, false_from_ne_true, lt-ltb, ltb-true, eqb-true, eq-eqb, or_cases}
use Rattle.slon_model.specs.declared.numbering.Numbering.{Numbering}
use Rattle.slon_model.specs.declared.numbering.Numbering.TheVariants.{Xids, Actions}
use Rattle.slon_model.specs.Names.{find_named}
use Rattle.slon_model.specs.Rows.{member}
use Rattle.slon_model.specs.Snapshots.{Covers, first_or, Rising}
use Rattle.slon_model.specs.Place.{Place, open_xids, taken, founded, raised}
use Rattle.slon_model.specs.Moves.{Move, Founds, Begins, Writes, Commits, Aborts, Falls, Rises, prepared}
use Rattle.slon_model.specs.Moves.{moved, begun, done}
use Rattle.slon_model.specs.World.{World, Happening, Leads}
use Rattle.slon_model.proofs.Names.{all_found, one_found}
use Rattle.slon_laws.specs.Sound.{Sound, ids_of}
use Rattle.slon_laws.specs.Worlds.{AllPlaces}
use Rattle.slon_laws.specs.Laws.{SnapshotsCover}
use Rattle.slon_laws.specs.Turning.{IsWithin}
use Rattle.slon_laws.specs.Keeps.{Keeps}
use Rattle.slon_laws.proofs.Decides.{raised_same}
use Rattle.slon_laws.proofs.Later.{HoldsOf, holds_later}
use Rattle.slon_laws.proofs.Opens.{member_behind, member_without, member_all}
use Rattle.slon_laws.proofs.Sounds.{sound_prepared}
use Rattle.slon_laws.proofs.Worlds.{sound_world}

-- ids and numbers only rise, and what is no more open is never open again
pub record Outlasts (p q : Place) : Type 0 where
  pub later : p.xids.next ≤ q.xids.next
  pub numbers : p.numbers.next ≤ q.numbers.next
  pub still : (x : ℕ) → x < p.xids.next → member x (ids_of q.opens) ≡ true → member x (ids_of p.opens) ≡ true

pub outlasts_itself : (p : Place) → Outlasts p p
outlasts_itself p = record { later = omega arith; numbers = omega arith; still = λ x below is. is }

pub outlasts_on : (p q r : Place) → Outlasts p q → Outlasts q r → Outlasts p r
outlasts_on p q r one two = record {
  later = omega (arith, one.later, two.later);
  numbers = omega (arith, one.numbers, two.numbers);
  still = λ x below is. one.still x below (two.still x (omega (arith, below, one.later)) is);
}

-- ---- each move

-- open transactions stay, or fewer are left
fewer_open : (p q : Place) → p.xids.next ≤ q.xids.next → p.numbers.next ≤ q.numbers.next →
    ((x : ℕ) → member x (ids_of q.opens) ≡ true → member x (ids_of p.opens) ≡ true) → Outlasts p q
fewer_open p q ids numbers fewer = record { later = ids; numbers = numbers; still = λ x below is. fewer x is }

raised_outlasts : (kind : Numbering) (p : Place) → Outlasts p (raised kind p)
raised_outlasts kind p =
    let same = raised_same kind p in
    let xid = same.xid in
    let number = same.number in
    fewer_open p (raised kind p) (omega (arith, xid)) (omega (arith, number))
    (λ x is. ap (λ os. member x (ids_of os)) (sym same.opens) ∙ is)

begun_outlasts : (name : List ℕ) (p : Place) → Outlasts p (begun name p)
begun_outlasts name p = record {
  later = omega arith;
  numbers = omega arith;
  still = λ x below is. elim (member_behind x p.xids.next name p.opens is) [
    | inl old ↦ old
    | inr new ↦ absurd (omega (arith, below, new))
  ];
}

prepared_outlasts : (move : Move) (p : Place) → Outlasts p (prepared move p)
prepared_outlasts (Begins name) p = raised_outlasts Xids p
prepared_outlasts (Writes xid table change) p = raised_outlasts Actions p
prepared_outlasts Rises p =
    elim (p.stamp == 0) as (λ b. Outlasts p (cond b (founded p) p)) [
      | true ↦ fewer_open p (founded p) (omega arith) (omega arith) (λ x is. is)
      | false ↦ outlasts_itself p
    ]
prepared_outlasts others p = outlasts_itself p

none_open : (p q : Place) → p.xids.next ≤ q.xids.next → p.numbers.next ≤ q.numbers.next → q.opens ≡ [] → Outlasts p q
none_open p q later numbers none =
    fewer_open p q later numbers (λ x is. absurd (false≢true (ap (λ os. member x (ids_of os)) (sym none) ∙ is)))

moved_outlasts : (move : Move) (p : Place) → Sound p → Outlasts p (moved move p)
moved_outlasts (Begins name) p s = begun_outlasts name p
moved_outlasts (Commits name xid) p s =
    fewer_open p (moved (Commits name xid) p) (omega arith) (omega arith) (λ x. member_without x name p.opens)
moved_outlasts (Aborts name) p s =
    fewer_open p (moved (Aborts name) p) (omega arith) (omega arith) (λ x. member_without x name p.opens)
moved_outlasts Falls p s = none_open p (moved Falls p) (omega arith) (omega arith) refl
moved_outlasts Rises p s = none_open p (moved Rises p) s.xids_below s.numbers_below refl
moved_outlasts Founds p s =
    let on = prepared_outlasts Rises p in
    record { later = on.later; numbers = on.numbers; still = on.still }
moved_outlasts others p s = fewer_open p (moved others p) (omega arith) (omega arith) (λ x is. is)

done_outlasts : (move : Move) (p : Place) → Sound p → Outlasts p (done move p)
done_outlasts move p s =
    outlasts_on p (prepared move p) (done move p) (prepared_outlasts move p)
    (moved_outlasts move (prepared move p) (sound_prepared move p s))

pub keeps_outlasting : (first : Place) →
    Keeps IsWithin (λ task. Unit {0}) (λ p. Sound p × Outlasts first p) (Outlasts first)
keeps_outlasting first = record {
  tasks = record {
    stays = λ p s. s.1;
    prepares = λ task move p may s. outlasts_on first p (prepared move p) s.1 (prepared_outlasts move p);
    moves = λ task move p one may s. outlasts_on first p (done move p) s.1 (done_outlasts move p s.0);
    falls = λ count p lasts. outlasts_on first p _ lasts (none_open p _ (omega arith) (omega arith) refl);
    wavers = λ stands p lasts. outlasts_on first p _ lasts (none_open p _ (omega arith) (omega arith) refl);
  };
  commits = λ c p within lasts. record { later = lasts.later; numbers = lasts.numbers; still = lasts.still };
  promises = λ node p lasts. record { later = lasts.later; numbers = lasts.numbers; still = lasts.still };
}

-- ---- each history

-- what a database became outlasts it
pub later_place : (later : List Happening) (w v : World) → AllPlaces Sound w → Leads w later v →
    (name : List ℕ) (p : Place) → find_named name w.places ≡ Some p →
    AllPlaces Sound v × HoldsOf (Outlasts p) name v.places
later_place later w v all leads name p found =
    holds_later (keeps_outlasting p) later w v all leads name (p, found, outlasts_itself p)

-- ---- snapshots

-- an id that a snapshot sees was drawn, and is not open
pub past : (x next : ℕ) (xids : List ℕ) → Rising xids → ((y : ℕ) → member y xids ≡ true → y < next) →
    cond (nat_lt x (first_or next xids)) true (cond (nat_lt x next) (not (member x xids)) false) ≡ true →
    (x < next) × (member x xids ≡ true → ⊥)
past x next xids rising below is =
    elim (nat_lt x (first_or next xids))
    as (λ b. nat_lt x (first_or next xids) ≡ b → cond b true (cond (nat_lt x next) (not (member x xids)) false)
    ≡ true → (x < next) × (member x xids ≡ true → ⊥)) [
      | true ↦ λ less seen. before_first xids rising below (ltb-true x (first_or next xids) less)
      | false ↦
          λ not_less seen. elim (nat_lt x next) as (λ b. nat_lt x next ≡ b → cond b (not (member x xids)) false ≡ true →
          (x < next) × (member x xids ≡ true → ⊥)) [
            | true ↦ λ less ended. (ltb-true x next less, λ among. false≢true (sym (ap not among) ∙ ended))
            | false ↦ λ more no_end. absurd (false≢true no_end)
          ] refl seen
    ] refl is
  where
    before_first : (ys : List ℕ) → Rising ys → ((y : ℕ) → member y ys ≡ true → y < next) → x < first_or next ys →
        (x < next) × (member x ys ≡ true → ⊥)
    before_first [] up under less = (less, λ among. false≢true among)
    before_first (y ∷ ys) up under less =
        let first : y < next = under y (ap (λ b. b || member y ys) (eq-eqb y y refl)) in (
          omega (arith, less, first),
          λ among. elim (or_cases (x == y) (member x ys) among) [
            | inl same ↦ let is = eqb-true x y same in omega (arith, less, is)
            | inr more ↦ let above : y < x = member_all (λ z. y < z) x ys up.0 more in omega (arith, less, above)
          ],
        )

-- a drawn id that is not open is seen
pub ended : (x next : ℕ) (xids : List ℕ) → x < next → (member x xids ≡ true → ⊥) →
    cond (nat_lt x (first_or next xids)) true (cond (nat_lt x next) (not (member x xids)) false) ≡ true
ended x next xids below closed =
    elim (nat_lt x (first_or next xids))
    as (λ b. cond b true (cond (nat_lt x next) (not (member x xids)) false) ≡ true) [
      | true ↦ refl
      | false ↦ ap (λ b. cond b (not (member x xids)) false) (lt-ltb x next below)
          ∙ ap not (false_from_ne_true (member x xids) closed)
    ]

pub covers : (p q : Place) → Sound p → Outlasts p q → Covers (taken q) (taken p)
covers p q s lasts x seen =
    let was = past x p.xids.next (open_xids p) s.running s.opened seen in
    ended x q.xids.next (open_xids q) (omega (arith, was.0, lasts.later)) (λ is. was.1 (lasts.still x was.0 is))

pub snapshots_cover : SnapshotsCover
snapshots_cover limit history later w v leads goes_on name p q found found_later =
    let sound = sound_world limit history w leads in
    let became = (later_place later w v sound goes_on name p found).1 in
    let same : became.0 ≡ q = one_found became.0 q (sym became.1 ∙ found_later) in
    subst (λ r. Covers (taken r) (taken p)) same
    (covers p became.0 (all_found Sound name p w.places sound found) became.2)
