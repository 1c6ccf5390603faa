-- Of questions to all nodes: one database after the other.
use Rattle.std.proofs.Common.{◌≡◌, ◌∙◌, ℕ, suc, ◌+◌, ◌||◌, Bool, true, false, List, drop, map, set, None, Result}
use Rattle.std.proofs.Common.{refl, sym, ap, subst, arith}
use Rattle.slon_model.specs.declared.fault.DbFault.{DbFault}
use Rattle.slon_model.specs.declared.reply.Reply.{Reply}
use Rattle.slon_model.specs.Names.{Named, put_named}
use Rattle.slon_model.specs.Config.{Config}
use Rattle.slon_model.specs.Place.{Place}
use Rattle.slon_model.specs.Sessions.{World}
use Rattle.slon_model.specs.Reaching.{any_down, known_somewhere}
use Rattle.app_store.specs.Base.{Base}
use Rattle.app_store.specs.Parts.{LooksUp}
use Rattle.app_store.specs.Serves.{halts, is_memory}
use Rattle.slonik_exec.specs.declared.knowing.Heard.{Heard}
use Rattle.slonik_exec.specs.declared.knowing.Heard.TheVariants.{Known, Stopped}
use Rattle.slonik_exec.specs.Databases.{AreReady}
use Rattle.slonik_exec.specs.Heard.{known_by, IsKnownBy, Knows, RunsHeard, HearsIn}
use Rattle.slonik_exec.proofs.Hearing.{somewhere, somewhere_by, none_down, AreAsked}
use Rattle.slonik_exec.proofs.Asking.{Round, Turn, Left, Listed, Told, Placed, answering, stopping, turn_at, put_turn}
use Rattle.slonik_exec.proofs.Asking.{runs_turn, same_turn, runs_stop, placed, still_fits, breaks_at}

-- What it answered, and what that left of it.
pub record Answers (test : Config → Bool) (r : Round Bool) : Type 0 where
  pub left : Left r
  pub knows : Knows test r.before r.result r.behind

-- the same with another account of what it answered
pub answers_as : {test : Config → Bool} (r : Round Bool) (was result : Result Bool DbFault) → was ≡ result →
    Answers test (record r { result = was }) → Answers test (record r { result = result })
answers_as {test} r was result is answers = subst (λ x. Answers test (record r { result = x })) is answers

-- ---- by the rules

-- the place of the database, and what was answered of it
record Said (test : Config → Bool) (r : Round Bool) (w : World) : Type 0 where
  at : Placed r w
  looks : LooksUp (IsKnownBy test) at.place r.result r.behind
  known : known_somewhere test w ≡ (known_by test at.place.node || somewhere test (drop (suc r.i) w.places))

said : {test : Config → Bool} {r : Round Bool} → Turn r → AreAsked test r.olds r.news r.i → Answers test r →
    is_memory (halts r.result) ≡ false → (w : World) → AreReady w r.olds → any_down w ≡ None → Said test r w
said {test} {r} turn asked answers memory w ready awake =
    let left = asked.left w ready awake in
    let at = placed r turn w ready left.0 in
    let e : List ℕ × Place = (r.name, at.place) in
    record {
      at = at;
      looks = answers.knows at.place at.ready (none_down r.name at.place w.places awake at.found) memory;
      known = left.1 ∙ ap (somewhere test) at.next
          ∙ somewhere_by test at.place.node e (drop (suc r.i) w.places) refl;
    }

-- ---- a turn

-- it knows nothing of it
asked_no : {test : Config → Bool} (r : Round Bool) → Turn (answering false r) → AreAsked test r.olds r.news r.i →
    Answers test (answering false r) → AreAsked test r.olds (put_named r.name r.behind r.news) (r.i + 1)
asked_no {test} r turn asked answers = record {
  tries = runs_turn (answering false r) turn answers.left;
  same = same_turn false r turn answers.left;
  left = λ w ready awake.
      let s = said turn asked answers refl w ready awake in
      let later : suc r.i ≡ r.i + 1 = omega arith in (
        still_fits (answering false r) w s.at s.looks.1,
        s.known
            ∙ ap (λ b. b || somewhere test (drop (suc r.i) w.places)) (sym s.looks.0)
            ∙ ap (λ n. somewhere test (drop n w.places)) later,
      );
}

-- what is promised of all, over every store and by the rules
pub record Promised (test : Config → Bool) (olds : Named Base) (heard : Heard) (news : Named Base) : Type 0 where
  pub runs : RunsHeard olds heard news
  pub hears : (w : World) → AreReady w olds → any_down w ≡ None → HearsIn test w heard news

-- it knows of it
heard_yes : {test : Config → Bool} (r : Round Bool) → Turn (answering true r) → AreAsked test r.olds r.news r.i →
    Answers test (answering true r) → Promised test r.olds (Known true) (put_named r.name r.behind r.news)
heard_yes {test} r turn asked answers = record {
  runs = (runs_turn (answering true r) turn answers.left, same_turn true r turn answers.left);
  hears = λ w ready awake.
      let s = said turn asked answers refl w ready awake in (
        sym (s.known ∙ ap (λ b. b || somewhere test (drop (suc r.i) w.places)) (sym s.looks.0)),
        still_fits (answering true r) w s.at s.looks.1,
      );
}

-- its store stopped
heard_stop : {test : Config → Bool} (r : Round Bool) (fault : DbFault) (reply : Reply) → Turn (stopping fault r) →
    AreAsked test r.olds r.news r.i → Answers test (stopping fault r) → Told r.name fault reply →
    Promised test r.olds (Stopped reply) (put_named r.name r.behind r.news)
heard_stop {test} r fault reply turn asked answers told = record {
  runs = runs_stop fault reply r turn answers.left told.is;
  hears = λ w ready awake.
      let s = said turn asked answers told.memory w ready awake in
      breaks_at r fault reply w s.at answers.left told s.looks;
}

-- ---- a turn in a list of the code

-- The element at an index was asked, and this one stands there now.
pub record Gone {X : Type 0} (test : Config → Bool) (f : X → List ℕ × Base) (d y : X) (items : List X)
    (r : Round Bool) : Type 0 where
  pub listed : Listed f d items r
  pub asked : AreAsked test r.olds r.news r.i
  pub answers : Answers test r
  pub stands : f y ≡ (r.name, r.behind)

pub gone_no : {X : Type 0} {test : Config → Bool} (f : X → List ℕ × Base) (d y : X) (items : List X)
    (r : Round Bool) → Gone test f d y items (answering false r) →
    AreAsked test r.olds (map f (set items r.i y)) (r.i + 1)
gone_no {test = test} f d y items r gone =
    subst (λ bases. AreAsked test r.olds bases (r.i + 1))
    (put_turn f d y items (answering false r) gone.listed gone.stands)
    (asked_no r (turn_at f d items (answering false r) gone.listed) gone.asked gone.answers)

pub gone_yes : {X : Type 0} {test : Config → Bool} (f : X → List ℕ × Base) (d y : X) (items : List X)
    (r : Round Bool) → Gone test f d y items (answering true r) →
    Promised test r.olds (Known true) (map f (set items r.i y))
gone_yes {test = test} f d y items r gone =
    subst (Promised test r.olds (Known true)) (put_turn f d y items (answering true r) gone.listed gone.stands)
    (heard_yes r (turn_at f d items (answering true r) gone.listed) gone.asked gone.answers)

pub gone_stop : {X : Type 0} {test : Config → Bool} (f : X → List ℕ × Base) (d y : X) (items : List X)
    (r : Round Bool) (fault : DbFault) (reply : Reply) →
    Gone test f d y items (stopping fault r) × Told r.name fault reply →
    Promised test r.olds (Stopped reply) (map f (set items r.i y))
gone_stop {test = test} f d y items r fault reply (gone, told) =
    subst (Promised test r.olds (Stopped reply)) (put_turn f d y items (stopping fault r) gone.listed gone.stands)
    (heard_stop r fault reply (turn_at f d items (stopping fault r) gone.listed) gone.asked gone.answers told)
