-- Work at one database of a session, as a step of all databases.
use Rattle.std.proofs.Common.{◌≡◌, ◌∙◌, ℕ, Bool, true, false, cond, List, [], ◌∷◌, map, set, get_or, Option, Some, None}
use Rattle.std.proofs.Common.{Result, refl, sym, ap, subst, arith}
use Rattle.std.specs.Option.{option_map}
use Rattle.std.proofs.lemmas.Bool.{false≢true}
use Rattle.std.specs.Str.{bytes_eq}
use Rattle.slon_base.specs.declared.fault.Halt.{Halt as HaltOf}
use Rattle.slon_model.specs.declared.reply.Refusal.{Refusal}
use Rattle.slon_model.specs.declared.reply.Refusal.TheVariants as refused
use Rattle.slon_model.specs.declared.reply.Reply.{Reply}
use Rattle.slon_model.specs.declared.reply.Reply.TheVariants.{Refused, InDoubt}
use Rattle.slon_model.specs.Names.{Named, find_named, put_named}
use Rattle.slon_model.specs.Place.{Place, is_running, fallen}
use Rattle.slon_model.specs.Sessions.{World, Stated, Commit, Excess, committing, in_doubt, stood_at, beyond_at}
use Rattle.slon_model.specs.Sessions.{felled_at, has_late, excess_by, excess_of}
use Rattle.slon_model.specs.Moves.{is_last_stamp}
use Rattle.slon_model.specs.World.{CanFail, broken_at, wavering_at}
use Rattle.slon_model.proofs.Names.{bytes_same, bytes_itself}
use Rattle.app_store.specs.Base.{Base}
use Rattle.app_store.specs.Fits.{Fits}
use Rattle.app_store.specs.Serves.{is_failure}
use Rattle.node_store.specs.Acting.{excess_at}
use Rattle.slonik_exec.specs.Databases.{FitsAll, Runs, TriesAll, Trouble, told_by, trouble_here, is_calm}
use Rattle.slonik_exec.specs.Telling.{troubled}
use Rattle.slonik_exec.specs.Answering.{trouble_in, Answers, ComesAt, RefusesAt, StandsAt, BurstsAt}
use Rattle.slonik_exec.specs.Answering.{BreaksAt, WaversAt}
use Rattle.slonik_exec.specs.Executing.{Comes, Refuses, Stands, Bursts, Breaks, Wavers}
use Rattle.slonik_exec.proofs.Lists.{IsAt, is_first, find_position, put_position, fits_put}
use Rattle.slonik_exec.proofs.Hearing.{put_itself}
use Rattle.slonik_exec.proofs.Trying.{tries_put}

-- ---- over every store

-- a calm reply tells of no failure
calm_none : (name : List ℕ) (reply : Reply) → is_calm reply ≡ true → is_failure (trouble_in name reply) ≡ false
calm_none name (Refused (refused.Fault database count)) calm = absurd (false≢true calm)
calm_none name (InDoubt database answer) calm = absurd (false≢true calm)
calm_none name others calm = refl

-- all that is told is told of this database
told_own : (name : List ℕ) (o : Option Trouble) →
    ((other : List ℕ) (halt : HaltOf) → o ≡ Some (other, halt) → other ≡ name) →
    o ≡ troubled name (trouble_here o name)
told_own name None own = refl
told_own name (Some (other, halt)) own =
    let same = own other halt refl in
    ap (λ n. Some (n, halt)) same
    ∙ sym (ap (λ b. option_map (λ h. (name, h)) (cond b (Some halt) None))
    (ap (λ n. bytes_eq n name) same ∙ bytes_itself name))

-- work at the first database of a name
pub runs_at : {name : List ℕ} {reply : Reply} {old new : Base} (bases : Named Base) →
    find_named name bases ≡ Some old → Answers name old reply new → Runs bases reply (put_named name new bases)
runs_at {name} {reply} {old} {new} bases found answers =
    subst (λ t. TriesAll (is_calm reply) t bases (put_named name new bases))
    (sym (told_own name (told_by reply) answers.own))
    (tries_put (is_calm reply) name (trouble_in name reply) old new bases found (record {
      tries = answers.acts.tries;
      quiet = λ calm. answers.acts.quiet (calm_none name reply calm);
    }))

-- ---- by the rules

-- The place of a database that is up, in a world that agrees.
pub record Sits (w : World) (name : List ℕ) (p : Place) (bases : Named Base) : Type 0 where
  pub found : find_named name w.places ≡ Some p
  pub running : is_running p.standing ≡ true
  pub fits : FitsAll w.places bases

-- it is as it was
pub still_all : {w : World} {name : List ℕ} {p : Place} {bases : Named Base} {new : Base} → Sits w name p bases →
    Fits p new → FitsAll w.places (put_named name new bases)
still_all {w} {name} {p} {bases} {new} s fits =
    subst (λ ps. FitsAll ps (put_named name new bases)) (put_itself name p w.places s.found)
    (fits_put name p new w.places bases s.fits fits)

-- the place of its commit is another one
put_commit : {w : World} {name : List ℕ} {p : Place} {bases : Named Base} {new : Base} (s : Sits w name p bases)
    (c : Commit) (q : Place) → c.name ≡ name → Fits q new →
    FitsAll (put_named c.name q w.places) (put_named name new bases)
put_commit {w} {name} {p} {bases} {new} s c q named fits =
    subst (λ n. FitsAll (put_named n q w.places) (put_named name new bases)) (sym named)
    (fits_put name q new w.places bases s.fits fits)

found_commit : {w : World} {name : List ℕ} {p : Place} {bases : Named Base} (s : Sits w name p bases) (c : Commit) →
    c.name ≡ name → find_named c.name w.places ≡ Some p
found_commit {w} s c named = ap (λ n. find_named n w.places) named ∙ s.found

-- a number that is too big of a database
abbrev excess : List ℕ → ℕ → Excess
excess name space = record { name = name; space = space }

one_excess : (name : List ℕ) (last late : Bool) →
    excess_by (cond last (Some name) None) (cond late (Some name) None)
    ≡ option_map (excess name) (cond last (Some 1) (cond late (Some 10) None))
one_excess name true late = refl
one_excess name false true = refl
one_excess name false false = refl

-- a number of its commit is too big, or none
excess_is : {w : World} {name : List ℕ} {p : Place} {bases : Named Base} (s : Sits w name p bases) (c : Commit)
    (found : Option ℕ) → c.name ≡ name → excess_at c p ≡ found →
    excess_of (c ∷ []) w.places ≡ option_map (excess c.name) found
excess_is {p = p} s c found named is =
    ap (λ o. excess_by (beyond_at c o None) (cond (has_late c.deeds) (Some c.name) None)) (found_commit s c named)
    ∙ one_excess c.name (is_last_stamp p) (has_late c.deeds) ∙ ap (option_map (excess c.name)) is

-- what it comes to there is what it comes to
pub comes_at : {w : World} {name : List ℕ} {p : Place} {bases : Named Base} {due : Result Stated Refusal}
    {reply : Reply} {new : Base} → Sits w name p bases → ComesAt name p due reply new →
    Comes w due reply (put_named name new bases)
comes_at s (RefusesAt refusal due is fits) = Refuses refusal due is (still_all s fits)
comes_at {w} {name} {p} {bases} {new = new} s (StandsAt answer c one last is fits) =
    Stands (record { answer = answer; commits = c ∷ [] }) one.is (excess_is s c None one.named last) is
    (subst (λ o. FitsAll (stood_at c o w.places) (put_named name new bases)) (sym (found_commit s c one.named))
    (put_commit s c (committing c p) one.named fits))
comes_at {w} {name} {p} {bases} {new = new} s (BurstsAt answer c space one last is fits) =
    Bursts (record { answer = answer; commits = c ∷ [] }) (excess c.name space) one.is
    (excess_is s c (Some space) one.named last) is
    (subst (λ o. FitsAll (felled_at c.name o w).places (put_named name new bases)) (sym (found_commit s c one.named))
    (put_commit s c (fallen p.told p) one.named fits))
comes_at {w} {name} {p} {bases} {new = new} s (BreaksAt count is rose fits) =
    Breaks name count is (subst (CanFail count) (sym s.found) (s.running, rose))
    (subst (λ o. FitsAll (broken_at name count o w).places (put_named name new bases)) (sym s.found)
    (fits_put name (fallen count p) new w.places bases s.fits fits))
comes_at {w} {name} {p} {bases} {new = new} s (WaversAt answer c stands one last is fits) =
    Wavers (record { answer = answer; commits = c ∷ [] }) 0 stands one.is (excess_is s c None one.named last)
    (omega arith) (is ∙ ap (λ n. InDoubt n answer) (sym one.named))
    (subst (λ o. FitsAll (wavering_at c stands o w).places (put_named name new bases))
    (sym (found_commit s c one.named)) (put_commit s c (in_doubt c stands p) one.named fits))

-- ---- at an index

-- the name of the database at its first index
pub own_at : {X : Type 0} {f : X → List ℕ × Base} {name : List ℕ} {items : List X} {i : ℕ} {x : X} →
    IsAt f name items i x → (f x).0 ≡ name
own_at {f = f} {name} {items} {i} {x} is =
    ap (λ y. (f y).0) is.held ∙ sym (bytes_same name (f (get_or items i x)).0 (is_first f name x items i is.at).named)

-- The database at the first index of a name, and another one that stands there then.
pub record Worked {X : Type 0} (f : X → List ℕ × Base) (name : List ℕ) (items : List X) (i : ℕ) (x y : X) :
    Type 0 where
  pub is : IsAt f name items i x
  pub same : (f y).0 ≡ (f x).0

pub put_worked : {X : Type 0} {f : X → List ℕ × Base} {name : List ℕ} {items : List X} {i : ℕ} {x y : X} →
    Worked f name items i x y → put_named name (f y).1 (map f items) ≡ map f (set items i y)
put_worked {f = f} {name} {items} {i} {x} {y} at = sym (put_position f name items i x y (at.is, at.same))

pub runs_worked : {X : Type 0} {f : X → List ℕ × Base} {name : List ℕ} {items : List X} {i : ℕ} {x y : X}
    (reply : Reply) → Worked f name items i x y → Answers (f x).0 (f x).1 reply (f y).1 →
    Runs (map f items) reply (map f (set items i y))
runs_worked {f = f} {name} {items} {i} {x} {y} reply at answers =
    subst (Runs (map f items) reply) (put_worked at)
    (runs_at (map f items) (find_position f name items i x at.is)
    (subst (λ n. Answers n (f x).1 reply (f y).1) (own_at at.is) answers))
