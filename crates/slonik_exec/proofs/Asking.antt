-- One database after the other is asked: what is the same of every question.
use Rattle.std.proofs.Common.{◌≡◌, ◌∙◌, ℕ, suc, ◌<◌, Bool, true, false, List, ◌∷◌, length, drop, map, get_or, set}
use Rattle.std.proofs.Common.{Some, None, Result, Ok, Err, refl, sym, ap, subst, not}
use Rattle.std.specs.Prelude.{is_err, if◌then◌else◌}
use Rattle.std.specs.List.{slice_get}
use Rattle.slon_model.specs.declared.fault.DbFault.{DbFault}
use Rattle.slon_model.specs.declared.reply.Reply.{Reply}
use Rattle.slon_model.specs.Names.{Named, find_named, put_named}
use Rattle.slon_model.specs.Place.{Place, is_running, fallen}
use Rattle.slon_model.specs.Sessions.{World}
use Rattle.slon_model.specs.World.{CanFail, broken_at, refusal_of, halt_in}
use Rattle.slon_model.proofs.Names.{one_found}
use Rattle.app_store.specs.Base.{Base}
use Rattle.app_store.specs.Fits.{Fits, Ready}
use Rattle.app_store.specs.Parts.{FellTo, Fell, Remembers}
use Rattle.app_store.specs.Serves.{halts, is_failure, is_memory}
use Rattle.node_store.specs.Acting.{Acts}
use Rattle.slonik_exec.specs.Databases.{FitsAll, AreReady, TriesAll, Runs}
use Rattle.slonik_exec.specs.Telling.{told_at}
use Rattle.slonik_exec.specs.Heard.{AreDistinct, AreSame, BreaksDown}
use Rattle.slonik_exec.proofs.Hearing.{NextPlace, next_place, put_itself, same_put, distinct_same, is_first_by}
use Rattle.slonik_exec.proofs.Lists.{IsFirst, find_at, put_at, ready_at}
use Rattle.slonik_exec.proofs.Seats.{same_up}
use Rattle.slonik_exec.proofs.Telling.{words_at, runs_told}
use Rattle.slonik_exec.proofs.Trying.{tries_on, tries_at}

-- A database of a list that is asked, at an index.
pub record Round (T : Type 0) : Type 0 where
  -- all databases before the first question, and now
  pub olds : Named Base
  pub news : Named Base
  pub i : ℕ
  pub name : List ℕ
  -- what it was and is, and what it answered
  pub before : Base
  pub behind : Base
  pub result : Result T DbFault

-- It is its turn, and it is the first one of its name.
pub record Turn {T : Type 0} (r : Round T) : Type 0 where
  pub tries : TriesAll true None r.olds r.news
  pub same : AreSame r.olds r.news
  pub found : find_named r.name r.news ≡ Some r.before
  pub next : (places : Named Place) → FitsAll places r.news → NextPlace r.name places r.i

-- What it answered left this of it.
pub record Left {T : Type 0} (r : Round T) : Type 0 where
  pub acts : Acts (halts r.result) r.before r.behind
  pub same : Remembers r.before r.result r.behind
  pub up : is_err r.result ≡ true → r.before.memory.up ≡ true

-- the round of the element at an index
abbrev pub round_at : {X T : Type 0} → (X → List ℕ × Base) → List X → ℕ → X → Named Base → Base → Result T DbFault →
    Round T
round_at f items i d olds behind result =
    record {
      olds = olds;
      news = map f items;
      i = i;
      name = (f (get_or items i d)).0;
      before = (f (get_or items i d)).1;
      behind = behind;
      result = result;
    }

-- ---- in a list of the code

-- the databases of a list in which no name stands twice
pub record Listed {X T : Type 0} (f : X → List ℕ × Base) (d : X) (items : List X) (r : Round T) : Type 0 where
  pub inside : r.i < length items
  pub distinct : AreDistinct r.olds
  pub tries : TriesAll true None r.olds (map f items)
  pub same : AreSame r.olds (map f items)
  pub news : r.news ≡ map f items
  pub held : f (get_or items r.i d) ≡ (r.name, r.before)

first_listed : {X T : Type 0} (f : X → List ℕ × Base) (d : X) (items : List X) (r : Round T) → Listed f d items r →
    IsFirst f r.name d items r.i
first_listed f d items r l =
    subst (λ n. IsFirst f n d items r.i) (ap (λ e. e.0) l.held)
    (is_first_by f d items r.i (distinct_same r.olds (map f items) l.same l.distinct) l.inside)

pub turn_at : {X T : Type 0} (f : X → List ℕ × Base) (d : X) (items : List X) (r : Round T) → Listed f d items r →
    Turn r
turn_at f d items r l =
    let first = first_listed f d items r l in
    record {
      tries = subst (TriesAll true None r.olds) (sym l.news) l.tries;
      same = subst (AreSame r.olds) (sym l.news) l.same;
      found = ap (find_named r.name) l.news ∙ find_at f r.name d items r.i first ∙ ap (λ e. Some e.1) l.held;
      next = λ places all. next_place f r.name d places items r.i (subst (FitsAll places) l.news all, first);
    }

-- another database at its index is another one under its name
pub put_turn : {X T : Type 0} (f : X → List ℕ × Base) (d y : X) (items : List X) (r : Round T) → Listed f d items r →
    f y ≡ (r.name, r.behind) → put_named r.name r.behind r.news ≡ map f (set items r.i y)
put_turn f d y items r l is =
    let name : (f (get_or items r.i d)).0 ≡ r.name = ap (λ e. e.0) l.held in
    sym (put_at f r.name d y items r.i (first_listed f d items r l, ap (λ e. e.0) is ∙ sym name)
    ∙ ap (λ e. put_named r.name e.1 (map f items)) is ∙ ap (put_named r.name r.behind) (sym l.news))

-- ---- over every store

-- it answered, and the trouble of its store is told
pub runs_turn : {T : Type 0} (r : Round T) → Turn r → Left r →
    TriesAll (not (is_failure (halts r.result))) (told_at r.name (halts r.result)) r.olds
    (put_named r.name r.behind r.news)
runs_turn r turn left =
    tries_on (not (is_failure (halts r.result))) (told_at r.name (halts r.result)) r.olds r.news
    (put_named r.name r.behind r.news) turn.tries
    (tries_at r.name (halts r.result) r.before r.behind r.news turn.found left.acts)

-- a round with this answer, and one at which the store stopped
abbrev pub answering : {T : Type 0} → T → Round T → Round T
answering {T} x r = record r { result = Ok x }

abbrev pub stopping : {T : Type 0} → DbFault → Round T → Round T
stopping {T} fault r = record r { result = Err fault }

-- all remember what they did
pub same_turn : {T : Type 0} (x : T) (r : Round T) → Turn (answering x r) → Left (answering x r) →
    AreSame r.olds (put_named r.name r.behind r.news)
same_turn x r turn left = same_put r.name r.before r.behind r.olds r.news turn.same turn.found left.same

-- the reply where a store stopped, of which there was memory to tell
pub record Told (name : List ℕ) (fault : DbFault) (reply : Reply) : Type 0 where
  pub is : reply ≡ refusal_of (words_at name) fault
  pub memory : is_memory (halt_in fault) ≡ false

pub runs_stop : {T : Type 0} (fault : DbFault) (reply : Reply) (r : Round T) → Turn (stopping fault r) →
    Left (stopping fault r) → reply ≡ refusal_of (words_at r.name) fault →
    Runs r.olds reply (put_named r.name r.behind r.news)
runs_stop fault reply r turn left told =
    runs_told (words_at r.name) fault reply r.olds (put_named r.name r.behind r.news) told
    (runs_turn (stopping fault r) turn left)

-- ---- by the rules

-- the place of the database, in a world that agrees
pub record Placed {T : Type 0} (r : Round T) (w : World) : Type 0 where
  pub place : Place
  pub found : find_named r.name w.places ≡ Some place
  pub ready : Ready place r.before
  pub puts : (q : Place) (d : Base) → Fits q d → FitsAll (put_named r.name q w.places) (put_named r.name d r.news)
  pub at : slice_get w.places r.i ≡ Some (r.name, place)
  pub next : drop r.i w.places ≡ (r.name, place) ∷ drop (suc r.i) w.places

pub placed : {T : Type 0} (r : Round T) → Turn r → (w : World) → AreReady w r.olds → FitsAll w.places r.news →
    Placed r w
placed r turn w ready fits =
    let at = ready_at r.name r.before w r.news
    (record { fits = fits; sound = ready.sound; spelled = ready.spelled }) turn.found in
    let next = turn.next w.places fits in
    let same : next.entry.1 ≡ at.place = one_found next.entry.1 at.place (sym next.found ∙ at.found) in
    let is : next.entry ≡ (r.name, at.place) = λ j. (next.named j, same j) in
    record {
      place = at.place;
      found = at.found;
      ready = at.ready;
      puts = at.puts;
      at = next.at ∙ ap (λ e. Some e) is;
      next = next.next ∙ ap (λ e. e ∷ drop (suc r.i) w.places) is;
    }

-- it is up and answered, so all else is as it was
pub still_fits : {T : Type 0} (r : Round T) (w : World) (p : Placed r w) → Fits p.place r.behind →
    FitsAll w.places (put_named r.name r.behind r.news)
still_fits r w p fits =
    subst (λ ps. FitsAll ps (put_named r.name r.behind r.news)) (put_itself r.name p.place w.places p.found)
    (p.puts p.place r.behind fits)

-- whichever of two equal places stands
pub one_place : (p : Place) (count : ℕ) (stands : Bool) (d : Base) → Fits (fallen count (if stands then p else p)) d →
    Fits (fallen count p) d
one_place p count true d fits = fits
one_place p count false d fits = fits

-- its store stopped
pub breaks : {T : Type 0} (r : Round T) (fault : DbFault) (reply : Reply) (w : World) (p : Placed r w) →
    is_running p.place.standing ≡ true → reply ≡ refusal_of (words_at r.name) fault →
    FellTo p.place p.place fault r.behind → BreaksDown w reply (put_named r.name r.behind r.news)
breaks r fault reply w p running told (Fell count stands is rose fits) = record {
  name = r.name;
  count = count;
  told = told ∙ ap (refusal_of (words_at r.name)) is;
  can = subst (CanFail count) (sym p.found) (running, rose);
  fits = subst (λ o. FitsAll (broken_at r.name count o w).places (put_named r.name r.behind r.news)) (sym p.found)
      (p.puts (fallen count p.place) r.behind (one_place p.place count stands r.behind fits));
}

pub breaks_at : {T : Type 0} (r : Round T) (fault : DbFault) (reply : Reply) (w : World)
    (p : Placed (stopping fault r) w) → Left (stopping fault r) → Told r.name fault reply →
    FellTo p.place p.place fault r.behind → BreaksDown w reply (put_named r.name r.behind r.news)
breaks_at r fault reply w p left told fell =
    breaks (stopping fault r) fault reply w p
    (sym (same_up p.place r.before p.ready.fits) ∙ left.up refl) told.is fell
