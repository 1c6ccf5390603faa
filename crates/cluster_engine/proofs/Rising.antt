-- A database that is up behind a step of a script or a turn was up before it.
use Rattle.std.proofs.Common.{◌≡◌, ◌∙◌, ℕ, Bool, true, false, List, [], ◌∷◌, take, drop, Option, Some, None, Result}
use Rattle.std.proofs.Common.{refl, sym, ap}
use Rattle.std.proofs.lemmas.Bool.{false≢true}
use Rattle.std.specs.Str.{bytes_eq}
use Rattle.slon_model.specs.declared.reply.Reply.{Reply}
use Rattle.slon_model.specs.Names.{Named, find_named, put_named}
use Rattle.slon_model.specs.Place.{Place, Standing, IsRunning, is_running, downed, fallen}
use Rattle.slon_model.specs.declared.reply.Refusal.{Refusal}
use Rattle.slon_model.specs.Sessions.{World, Commit, Stated, Outcome, after_outcome, committing, felled, felled_at}
use Rattle.slon_model.specs.Sessions.{in_doubt, stand, stood, stood_at, with_memory}
use Rattle.slon_model.specs.Scripts.{Stepping}
use Rattle.slon_model.specs.World.{broken_at, wavering, wavering_at}
use Rattle.slon_model.proofs.Names.{bytes_same, one_found, put_found, put_other}
use Rattle.app_store.specs.Base.{Base}
use Rattle.slonik_exec.specs.Databases.{FitsAll}
use Rattle.slonik_exec.specs.Executing as executing
use Rattle.slonik_exec.specs.Executing.{Comes}
use Rattle.slonik_exec.proofs.Lists.{fitting, missing_fits}
use Rattle.slonik_exec.proofs.Seats.{same_up}
use Rattle.slon_turns.specs.Holding.{IsUpIn}
use Rattle.cluster_engine.specs.Walking.{Fares, Stood, Broke, Wavered}
use Rattle.cluster_engine.specs.declared.scripts.Walked.{Walked}

-- ---- under the rules

-- a place that runs ran before
record Was (q : Option Place) (p : Place) : Type 0 where
  now : Place
  is : q ≡ Some now
  ran : is_running now.standing ≡ true → is_running p.standing ≡ true

-- each database is there still, and none came up
abbrev AreLower : Named Place → Named Place → Type 0
AreLower ps qs = (name : List ℕ) (p : Place) → find_named name ps ≡ Some p → Was (find_named name qs) p

lower_same : (ps : Named Place) → AreLower ps ps
lower_same ps name p found = record { now = p; is = found; ran = λ up. up }

lower_then : (ps qs rs : Named Place) → AreLower ps qs → AreLower qs rs → AreLower ps rs
lower_then ps qs rs one two name p found =
    let mid = one name p found in
    let last = two name mid.now mid.is in
    record { now = last.now; is = last.is; ran = λ up. mid.ran (last.ran up) }

lower_put : (name : List ℕ) (p q : Place) (ps : Named Place) → find_named name ps ≡ Some p →
    (is_running q.standing ≡ true → is_running p.standing ≡ true) → AreLower ps (put_named name q ps)
lower_put name p q ps here ran other x found = by (bytes_eq other name) refl
  where
    by : (b : Bool) → bytes_eq other name ≡ b → Was (find_named other (put_named name q ps)) x
    by false apart = record { now = x; is = put_other other name q ps apart ∙ found; ran = λ up. up }
    by true is =
        let same = bytes_same other name is in
        let place : p ≡ x = one_found p x (sym here ∙ ap (λ n. find_named n ps) (sym same) ∙ found) in
        record {
          now = q;
          is = ap (λ n. find_named n (put_named name q ps)) same ∙ put_found name q p ps here;
          ran = λ up. ap (λ (z : Place). is_running z.standing) (sym place) ∙ ran up;
        }

-- a database that goes down
lower_down : (name : List ℕ) (p q : Place) (ps : Named Place) → find_named name ps ≡ Some p →
    is_running q.standing ≡ false → AreLower ps (put_named name q ps)
lower_down name p q ps here down = lower_put name p q ps here (λ up. absurd (false≢true (sym down ∙ up)))

pub downed_stops : (s : Standing) → is_running (downed s) ≡ false
downed_stops IsRunning = refl
downed_stops others = refl

stood_lower : (cs : List Commit) (ps : Named Place) → AreLower ps (stood cs ps)
stood_lower [] ps = lower_same ps
stood_lower (c ∷ cs) ps =
    lower_then ps (stood_at c (find_named c.name ps) ps) (stood (c ∷ cs) ps) (by (find_named c.name ps) refl)
    (stood_lower cs (stood_at c (find_named c.name ps) ps))
  where
    by : (o : Option Place) → find_named c.name ps ≡ o → AreLower ps (stood_at c o ps)
    by None is = lower_same ps
    by (Some p) is = lower_put c.name p (committing c p) ps is (λ up. up)

felled_lower : (falls : Option (List ℕ)) (w : World) → AreLower w.places (felled falls w).places
felled_lower None w = lower_same w.places
felled_lower (Some name) w = by (find_named name w.places) refl
  where
    by : (o : Option Place) → find_named name w.places ≡ o → AreLower w.places (felled_at name o w).places
    by None is = lower_same w.places
    by (Some p) is = lower_down name p (fallen p.told p) w.places is (downed_stops p.standing)

broken_lower : (name : List ℕ) (count : ℕ) (w : World) →
    AreLower w.places (broken_at name count (find_named name w.places) w).places
broken_lower name count w = by (find_named name w.places) refl
  where
    by : (o : Option Place) → find_named name w.places ≡ o → AreLower w.places (broken_at name count o w).places
    by None is = lower_same w.places
    by (Some p) is = lower_down name p (fallen count p) w.places is (downed_stops p.standing)

wavering_lower : (cs : List Commit) (stands : Bool) (w : World) → AreLower w.places (wavering cs stands w).places
wavering_lower [] stands w = lower_same w.places
wavering_lower (c ∷ cs) stands w = by (find_named c.name w.places) refl
  where
    by : (o : Option Place) → find_named c.name w.places ≡ o → AreLower w.places (wavering_at c stands o w).places
    by None is = lower_same w.places
    by (Some p) is = lower_down c.name p (in_doubt c stands p) w.places is refl

-- the commits before the doubt stand
wavered_lower : (before : ℕ) (cs : List Commit) (stands : Bool) (w : World) →
    AreLower w.places (wavering (drop before cs) stands (stand (take before cs) w)).places
wavered_lower before cs stands w =
    lower_then w.places (stood (take before cs) w.places)
    (wavering (drop before cs) stands (stand (take before cs) w)).places (stood_lower (take before cs) w.places)
    (wavering_lower (drop before cs) stands (stand (take before cs) w))

-- ---- so it is of the databases

-- where each database of a name is up in the new ones, each was in the old ones
abbrev pub WereUp : Named Base → Named Base → Type 0
WereUp old new = (name : List ℕ) → IsUpIn name new → IsUpIn name old

were_up : (ps qs : Named Place) (old new : Named Base) → AreLower ps qs → FitsAll ps old → FitsAll qs new →
    WereUp old new
were_up ps qs old new lower fits later name up b found =
    let fit = fitting name b ps old fits found in
    let was = lower name fit.place fit.found in
    same_up fit.place b fit.fits ∙ was.ran (by was.now was.is (find_named name new) refl)
  where
    by : (q : Place) → find_named name qs ≡ Some q → (o : Option Base) → find_named name new ≡ o →
        is_running q.standing ≡ true
    by q is None none =
        let never : None ≡ Some q = sym (missing_fits name qs new later none) ∙ is in absurd cc
    by q is (Some d) there =
        let fit = fitting name d qs new later there in
        let same = one_found fit.place q (sym fit.found ∙ is) in
        ap (λ (z : Place). is_running z.standing) (sym same) ∙ sym (same_up fit.place d fit.fits) ∙ up d there

-- behind a statement or a turn
pub comes_up : {due : Result Stated Refusal} (w : World) (old : Named Base) (reply : Reply) (new : Named Base) →
    FitsAll w.places old → Comes w due reply new → WereUp old new
comes_up w old reply new fits (executing.Refuses refusal is told later) =
    were_up w.places w.places old new (lower_same w.places) fits later
comes_up w old reply new fits (executing.Stands stated is beyond told later) =
    were_up w.places (stood stated.commits w.places) old new (stood_lower stated.commits w.places) fits later
comes_up w old reply new fits (executing.Bursts stated e is beyond told later) =
    were_up w.places (felled (Some e.name) w).places old new (felled_lower (Some e.name) w) fits later
comes_up w old reply new fits (executing.Breaks name count told can later) =
    were_up w.places (broken_at name count (find_named name w.places) w).places old new (broken_lower name count w)
    fits later
comes_up w old reply new fits (executing.Wavers stated before stands is beyond less told later) =
    let cs = stated.commits in
    were_up w.places (wavering (drop before cs) stands (stand (take before cs) w)).places old new
    (wavered_lower before cs stands w) fits later

-- behind a step of a script
pub fares_up : (s : Stepping) (w : World) (o : Outcome) (old : Named Base) (went : Walked) (new : Named Base) →
    FitsAll w.places old → Fares s w o went new → WereUp old new
fares_up s w o old went new fits (Stood told memory later) =
    were_up w.places (after_outcome o w).places old new
    (lower_then w.places (stood o.commits w.places) (after_outcome o w).places (stood_lower o.commits w.places)
    (felled_lower o.falls (stand o.commits (with_memory o.memory w)))) fits later
fares_up s w o old went new fits (Broke name count ends told left can later) =
    were_up w.places (broken_at name count (find_named name w.places) w).places old new (broken_lower name count w)
    fits later
fares_up s w o old went new fits (Wavered before stands ends less told later) =
    let cs = o.commits in
    were_up w.places (wavering (drop before cs) stands (stand (take before cs) w)).places old new
    (wavered_lower before cs stands w) fits later
