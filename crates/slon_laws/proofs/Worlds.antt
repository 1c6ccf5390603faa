-- Every database of a legal history is sound, spelled and small.
use Rattle.std.proofs.Common.{◌≡◌, ℕ, List, [], ◌∷◌, sym, subst}
use Rattle.slon_model.specs.Tasks.{Task, ToFound, OnOne, Act, subject_of}
use Rattle.slon_model.specs.Sessions.{Commit}
use Rattle.slon_model.specs.Spoken.{IsTask, IsSubject, IsSpoken}
use Rattle.slon_model.specs.Place.{Place, bare_place}
use Rattle.slon_model.specs.World.{World, start, Happening, Step, Grants, Denies, Misses, Asks, Acts, Leads, outcome}
use Rattle.slon_model.proofs.Names.{all_map, all_put, all_behind, all_found}
use Rattle.slon_laws.specs.Fetches.{IsFormedFound, KeepFormed}
use Rattle.slon_laws.specs.Sound.{AreNamedOnce, Sound}
use Rattle.slon_laws.specs.Spelled.{IsSpelled}
use Rattle.slon_laws.specs.Keeps.{Keeps}
use Rattle.slon_laws.specs.Turning.{AllHold, IsFormed, IsWithin}
use Rattle.slon_laws.specs.Worlds.{AllPlaces, AllSpoken}
use Rattle.slon_laws.proofs.Keeps.{kept, carried}
use Rattle.slon_laws.proofs.Acting.{acting_turns, outcome_all}
use Rattle.slon_laws.proofs.Bringing.{fetch_formed, outcome_formed}
use Rattle.slon_laws.proofs.Fetches.{kept_step}
use Rattle.slon_laws.proofs.Foreign.{KeepForeign, foreign_step}
use Rattle.slon_laws.proofs.Named.{named_world}
use Rattle.slon_laws.proofs.Sounds.{sound_bare, keeps_sound}
use Rattle.slon_laws.proofs.Spells.{spelled_bare, keeps_spelled}

-- What every step keeps of one database, from the first on.
pub record Lasts (F : Commit → Place → Type 0) (IsOne : Task → Type 0) (P Q : Place → Type 0) : Type 0 where
  pub keeps : Keeps F IsOne P Q
  pub first : P bare_place
  pub founds : IsOne ToFound

-- A step of a history.
pub record Stepped : Type 0 where
  pub old : World
  pub new : World
  pub happening : Happening
  pub step : Step old happening new

abbrev pub stepped : (w v : World) (h : Happening) → Step w h v → Stepped
stepped w v h step = record { old = w; new = v; happening = h; step = step }

-- It is kept of all databases of a session, where F holds of each commit of a script or a turn.
pub all_step : {F : Commit → Place → Type 0} {IsOne : Task → Type 0} {P Q : Place → Type 0} → Lasts F IsOne P Q →
    (s : Stepped) →
    ((name : List ℕ) (task : Task) → subject_of s.happening.command ≡ OnOne name task → IsOne task) →
    ((act : Act) → AllHold F (outcome act s.old).commits s.old.places) → AllPlaces P s.old → AllPlaces Q s.new
all_step {P = P} {Q = Q} l s one acts all = by s.step
  where
    still : AllPlaces Q s.old
    still = all_map (λ e. P e.1) (λ e. Q e.1) (λ e. l.keeps.tasks.stays e.1) s.old.places all

    by : Step s.old s.happening s.new → AllPlaces Q s.new
    by (Grants name result about granted takes told is) =
        subst (AllPlaces Q) (sym is)
        (all_behind Q name _ s.old.places (kept l.keeps ToFound bare_place s.happening.choice (l.founds, l.first))
        still)
    by (Denies name about denied sure told is) = subst (AllPlaces Q) (sym is) still
    by (Misses name task about none sure told is) = subst (AllPlaces Q) (sym is) still
    by (Asks t) =
        subst (AllPlaces Q) (sym t.is)
        (all_put Q t.name _ s.old.places
        (kept l.keeps t.task t.place s.happening.choice
        (one t.name t.task t.about, all_found P t.name t.place s.old.places all t.found)) still)
    by (Acts t) = acting_turns (carried l.keeps) s.old s.new s.happening t (acts t.act) still

-- ---- sound

lasts_sound : Lasts IsWithin (λ task. Unit {0}) Sound Sound
lasts_sound = record { keeps = keeps_sound; first = sound_bare; founds = tt }

pub sound_world_step : (w v : World) (h : Happening) → Step w h v → AllPlaces Sound w → AllPlaces Sound v
sound_world_step w v h step all =
    all_step lasts_sound (stepped w v h step) (λ name task about. tt) (λ act. outcome_all act w) all

pub sound_world : (limit : ℕ) (history : List Happening) (w : World) → Leads (start limit) history w → AllPlaces Sound w
sound_world limit [] w is = subst (AllPlaces Sound) (sym is) tt
sound_world limit (h ∷ hs) w leads = sound_world_step leads.0 w h leads.2 (sound_world limit hs leads.0 leads.1)

-- ---- sound and spelled

lasts_spelled : Lasts IsFormed IsTask (λ p. Sound p × IsSpelled p) (λ p. Sound p × IsSpelled p)
lasts_spelled = record {
  keeps = keeps_spelled;
  first = (sound_bare, spelled_bare);
  founds = tt;
}

formed_task : (h : Happening) → IsSpoken h.command → (name : List ℕ) (task : Task) →
    subject_of h.command ≡ OnOne name task → IsTask task
formed_task h spoken name task about = (subst IsSubject about spoken).1

-- What is known of a session: of its databases, and of what their nodes fetched and keep.
pub record IsFitWorld (w : World) : Type 0 where
  pub places : AllPlaces (λ p. Sound p × IsSpelled p) w
  pub formed : KeepFormed w
  pub foreign : KeepForeign w

pub fit_spelled : (w : World) → AllPlaces (λ p. Sound p × IsSpelled p) w → AllPlaces IsSpelled w
fit_spelled w all = all_map (λ e. Sound e.1 × IsSpelled e.1) (λ e. IsSpelled e.1) (λ e s. s.1) w.places all

fit_world_step : (w v : World) (h : Happening) → IsSpoken h.command → Step w h v → AreNamedOnce w.places →
    IsFitWorld w → IsFitWorld v
fit_world_step w v h spoken step once fit = record {
  places = all_step lasts_spelled (stepped w v h step) (formed_task h spoken) acts fit.places;
  formed = kept_step (λ name origin f. IsFormedFound f.found) w v h step (fetch_formed w spelled) fit.formed;
  foreign = foreign_step w v h step once acts fit.foreign;
}
  where
    spelled : AllPlaces IsSpelled w
    spelled = fit_spelled w fit.places

    acts : (act : Act) → AllHold IsFormed (outcome act w).commits w.places
    acts act = outcome_formed w (record { once = once; spelled = spelled; formed = fit.formed; foreign = fit.foreign })
        act (outcome_all act w)

pub fit_now : (limit : ℕ) (history : List Happening) (w : World) → AllSpoken history → Leads (start limit) history w →
    IsFitWorld w
fit_now limit [] w spoken is = subst IsFitWorld (sym is) (record { places = tt; formed = tt; foreign = tt })
fit_now limit (h ∷ hs) w spoken leads =
    fit_world_step leads.0 w h spoken.0 leads.2 (named_world limit hs leads.0 leads.1)
    (fit_now limit hs leads.0 spoken.1 leads.1)

pub spelled_world : (limit : ℕ) (history : List Happening) (w : World) → AllSpoken history →
    Leads (start limit) history w → AllPlaces IsSpelled w
spelled_world limit history w spoken leads = fit_spelled w (fit_now limit history w spoken leads).places

-- what nodes keep has its forms
pub keep_formed_world : (limit : ℕ) (history : List Happening) (w : World) → AllSpoken history →
    Leads (start limit) history w → KeepFormed w
keep_formed_world limit history w spoken leads = (fit_now limit history w spoken leads).formed
