-- How a database stands by the rules and by the code, and what comes of a decision.
use Rattle.std.proofs.Common.{◌≡◌, ℕ, ◌+◌, ◌≤◌, true, false, cond, Option, Some, None, Result, Ok, Err, refl, sym, ap}
use Rattle.std.proofs.Common.{subst, ◌∙◌, ◌⊎◌, inl, inr, arith}
use Rattle.std.proofs.lemmas.Bool.{false≢true}
use Rattle.slon_base.specs.Counts.{Rose}
use Rattle.slon_base.specs.Keeper.{Kept, Store}
use Rattle.slon_model.specs.declared.fault.DbFault.{DbFault}
use Rattle.slon_model.specs.declared.reply.Answer.{Answer}
use Rattle.slon_model.specs.declared.reply.Answered.{Answered}
use Rattle.slon_model.specs.declared.reply.Answered.TheVariants.{InDoubt}
use Rattle.slon_model.specs.Tasks.{Task}
use Rattle.slon_model.specs.Place.{Place, Standing, IsRunning, IsFallen, IsDoubtful, is_running, fallen, downed}
use Rattle.slon_model.specs.Place.{doubted, node_id}
use Rattle.slon_model.specs.Deeds.{Node}
use Rattle.node_state.specs.Known.{identity_of}
use Rattle.std.specs.Option.{option_map, option_or}
use Rattle.slon_model.specs.Moves.{Move, prepared, done, commits_at, crashed}
use Rattle.slon_model.specs.Deciding.{Decision, Accepts, AsDue, AtFault, Wavers, limited, decide, decide_by}
use Rattle.slon_model.specs.Deciding.{decide_up, calls_up, may_call, result_of, move_of, sure, unsure}
use Rattle.slon_model.specs.World.{halt_in}
use Rattle.store_rows.specs.declared.stop.Stop.{Stop}
use Rattle.store_rows.specs.declared.stop.Stop.TheVariants.{Failed as StopFailed, NoMemory as StopNoMemory}
use Rattle.app_store.specs.declared.opens.Transaction.{Transaction}
use Rattle.app_store.specs.Base.{Memory, Base, GoesDown}
use Rattle.app_store.specs.Fits.{Fits, Ready, Runs, StandsAs, OpensAs, IsNamed}
use Rattle.store_rows.specs.Steps.{IsOutside, is_stop_failed}
use Rattle.app_store.specs.Serves.{Comes, is_memory}
use Rattle.app_store.specs.Parts.{FellTo, Fell, halt_of}
use Rattle.app_store.specs.Targets.{Follows, Carried, StopsAt}
use Rattle.app_store.specs.Spelled.{Holds}
use Rattle.app_store.proofs.Holding.{holds_same}
use Rattle.app_store.proofs.Openings.{opened_same}

-- ---- standing

-- the code is up exactly where the place is
pub up_running : (p : Place) (b : Base) → Fits p b → b.memory.up ≡ true → (p.standing ≡ IsRunning) × Runs p b.memory
up_running p b fits up = by p.standing refl fits.stands
  where
    by : (s : Standing) → p.standing ≡ s → StandsAs s p b.memory → (p.standing ≡ IsRunning) × Runs p b.memory
    by IsRunning same stands = (same, stands)
    by IsFallen same stands = absurd (false≢true (sym stands.0 ∙ up))
    by (IsDoubtful d) same stands = absurd (false≢true (sym stands.0 ∙ up))

-- a database that is up, and agrees with a place
pub record IsUp (p : Place) (b : Base) : Type 0 where
  pub fits : Fits p b
  pub up : b.memory.up ≡ true

abbrev pub up_from : {p : Place} {b : Base} → Ready p b → b.memory.up ≡ true → IsUp p b
up_from ready up = record { fits = ready.fits; up = up }

pub running_as : (p : Place) (b : Base) → Fits p b → is_running p.standing ≡ true → Runs p b.memory
running_as p b fits is = by p.standing fits.stands is
  where
    by : (s : Standing) → StandsAs s p b.memory → is_running s ≡ true → Runs p b.memory
    by IsRunning stands is = stands
    by others stands is = absurd (false≢true is)

-- the memory of a database that is up has the id of its node
pub named_up : (p : Place) (m : Memory) → Runs p m → IsNamed p m
named_up p m runs = ap (option_map (λ i. i.id)) runs.known.identity_is ∙ by p.node p.promised runs.unpromised
  where
    by : (own : Option Node) (promised : Option ℕ) → promised ≡ None →
        option_map (λ i. i.id) (identity_of own) ≡ option_or (option_map (λ n. n.id) own) promised
    by None promised none = sym none
    by (Some n) promised none = refl

-- and keeps it where the node stays
pub named_as : (p q : Place) (old new : Memory) → IsNamed p old → new.identity ≡ old.identity → node_id q ≡ node_id p →
    IsNamed q new
named_as p q old new named same own = ap (option_map (λ i. i.id)) same ∙ named ∙ sym own

pub fits_running : (q : Place) (b : Base) (m : Store) → q.standing ≡ IsRunning → Runs q b.memory →
    q.told ≤ b.kept.faults → b.kept.held ≡ Some m → Holds q m → Fits q b
fits_running q b m is runs told held holds =
    record { stands = subst (λ s. StandsAs s q b.memory) (sym is) runs; told = told; held = (m, held, holds) }

-- ---- what comes of a decision

-- what is decided while the database is up
pub decided_up : (task : Task) (p : Place) (d : Decision) → p.standing ≡ IsRunning → decide_up task p ≡ d →
    decide task p ≡ limited p d
decided_up task p d is up = ap (λ s. limited p (decide_by s task p)) is ∙ ap (limited p) up

pub carried : (task : Task) (p : Place) (d : Decision) (new : Base) → decide task p ≡ d →
    Fits (done (move_of d) p) new → Comes task p (sure (result_of d)) new
carried task p d new decided fits = (
  AsDue,
  record { may = tt; told = ap (λ d. sure (result_of d)) (sym decided) },
  subst (λ d. Fits (done (move_of d) p) new) (sym decided) fits,
)

-- the store failed before the effect
pub fell : (task : Task) (p : Place) (d : Decision) (fault : DbFault) (new : Base) →
    may_call p.standing p.node task ≡ true →
    decide task p ≡ d →
    FellTo p (prepared (move_of d) p) fault new → Comes task p (Err fault) new
fell task p d fault new calls decided (Fell count stands same rose fits) = (
  AtFault count stands,
  record { may = (calls, rose); told = ap Err same },
  subst (λ d. Fits (fallen count (cond stands (prepared (move_of d) p) p)) new) (sym decided) fits,
)

pub followed : (task : Task) (p : Place) (result : Result Answered DbFault) (new : Base) → p.standing ≡ IsRunning →
    calls_up task p.node ≡ true → Follows (decide task p) p result new → Comes task p result new
followed task p result new is calls (Carried told fits) =
    subst (λ r. Comes task p r new) (sym told) (carried task p (decide task p) new refl fits)
followed task p result new is calls (StopsAt fault told stops) =
    subst (λ r. Comes task p r new) (sym told)
    (fell task p (decide task p) fault new (ap (λ s. may_call s p.node task) is ∙ calls) refl stops)

-- a stop before anything was prepared
pub fell_plain : (d : Decision) (p : Place) (fault : DbFault) (new : Base) → FellTo p p fault new →
    FellTo p (prepared (move_of d) p) fault new
fell_plain d p fault new (Fell count true same rose fits) = Fell count false same rose fits
fell_plain d p fault new (Fell count false same rose fits) = Fell count false same rose fits

-- What is known of the memory after a commit in doubt.
pub record IsInDoubt (move : Move) (p : Place) (m : Memory) : Type 0 where
  pub stamp : (done move p).stamp ≡ p.stamp + 1
  pub told : (done move p).told ≡ p.told
  pub up : m.up ≡ false
  pub doubt : m.doubt ≡ Some (p.stamp + 1)
  pub named : IsNamed p m
  pub node : node_id (done move p) ≡ node_id p

-- the store holds what it held before a commit in doubt, or what the move makes of it
pub record IsWavering (move : Move) (p : Place) (new : Base) : Type 0 where
  pub before : Store
  pub after : Store
  pub memory : IsInDoubt move p new.memory
  pub told : p.told ≤ new.kept.faults
  pub holds : Holds p before
  pub holds_after : Holds (done move p) after
  pub either : (new.kept.held ≡ Some before) ⊎ (new.kept.held ≡ Some after)

pub wavers : (task : Task) (p : Place) (answer : Answer) (move : Move) (new : Base) →
    decide task p ≡ Accepts answer move → commits_at move p ≡ true → IsWavering move p new →
    Comes task p (Ok (InDoubt answer)) new
wavers task p answer move new decided commits w =
    let doubt = w.memory in
    elim w.either [
      | inl before ↦ (
        Wavers false,
        record {
          may = ap (λ d. commits_at (move_of d) p) decided ∙ commits;
          told = ap (λ d. unsure (result_of d)) (sym decided);
        },
        record {
          stands = (doubt.up, doubt.doubt, λ is. absurd (false≢true is), doubt.named);
          told = w.told;
          held = (w.before, before, holds_same p (doubted false p) w.before refl w.holds);
        },
      )
      | inr made ↦ (
        Wavers true,
        record {
          may = ap (λ d. commits_at (move_of d) p) decided ∙ commits;
          told = ap (λ d. unsure (result_of d)) (sym decided);
        },
        subst (λ d. Fits (doubted true (done (move_of d) p)) new) (sym decided) (record {
          stands = (
            doubt.up,
            doubt.doubt ∙ ap (λ n. Some n) (sym doubt.stamp),
            λ _. omega (arith, doubt.stamp),
            doubt.named ∙ sym doubt.node,
          );
          told = omega (arith, w.told, doubt.told);
          held = (
            w.after,
            made,
            holds_same (done move p) (doubted true (done move p)) w.after refl w.holds_after,
          );
        }),
      )
    ]

-- ---- a database that is down

-- ---- a stop

-- a database that goes down keeps the commit in doubt and the id of its node
pub record IsDown (old new : Memory) : Type 0 where
  pub up : new.up ≡ false
  pub doubt : new.doubt ≡ old.doubt
  pub identity : new.identity ≡ old.identity

pub is_down : {old new : Memory} → GoesDown old new → IsDown old new
is_down down = record { up = down.up; doubt = down.doubt; identity = down.identity }

-- what a stop leaves, and why it is told
pub record Stopped (stop : Stop) (fault : DbFault) (old new : Base) : Type 0 where
  pub down : IsDown old.memory new.memory
  pub rose : is_stop_failed stop ≡ true → Rose old.kept.faults new.kept.faults
  pub fault_is : fault ≡ halt_of stop new.kept.faults
  pub no_memory : is_memory (halt_in fault) ≡ false
  pub only : IsOutside stop

-- the place of a database that was up, after a fault
fallen_fits : (p : Place) (b : Base) (m : Store) → p.standing ≡ IsRunning → StandsAs IsFallen p b.memory →
    b.kept.held ≡ Some m → Holds p m → Fits (fallen b.kept.faults p) b
fallen_fits p b m is down held holds = record {
  stands = subst (λ s. StandsAs (downed s) (fallen b.kept.faults p) b.memory) (sym is) down;
  told = omega arith;
  held = (m, held, holds_same p (fallen b.kept.faults p) m refl holds);
}

pub rose_from : {a b c : ℕ} → a ≤ b → Rose b c → Rose a c
rose_from le (inl lt) = inl (omega arith)
rose_from le (inr last) = inr last

-- the store holds this, or what it is to hold of a place that runs too
pub record MayHold (m : Store) (own : Option ℕ) (also : Place) (new : Base) : Type 0 where
  pub change : Store
  pub running : also.standing ≡ IsRunning
  pub node : node_id also ≡ own
  pub holds : Holds also change
  pub either : (new.kept.held ≡ Some m) ⊎ (new.kept.held ≡ Some change)

-- the store failed, and holds what it held, or what came before the effect too
pub fell_by : {p : Place} {old : Base} (also : Place) (new : Base) (stop : Stop) (fault : DbFault) (u : IsUp p old) →
    MayHold u.fits.held.0 (node_id p) also new → Stopped stop fault old new → FellTo p also fault new
fell_by {p} {old} also new StopFailed fault u h s =
    let fits = u.fits in
    let runs = up_running p old fits u.up in
    let sure : new.memory.doubt ≡ None = s.down.doubt ∙ runs.1.settled in
    let named : IsNamed p new.memory =
    named_as p p old.memory new.memory (named_up p old.memory runs.1) s.down.identity refl in
    elim h.either [
      | inl before ↦
          Fell new.kept.faults false s.fault_is (rose_from fits.told (s.rose refl))
          (fallen_fits p new fits.held.0 runs.0 (s.down.up, sure, named) before fits.held.2)
      | inr after ↦
          Fell new.kept.faults true s.fault_is (rose_from fits.told (s.rose refl))
          (fallen_fits also new h.change h.running (s.down.up, sure, named ∙ sym h.node) after h.holds)
    ]
fell_by also new StopNoMemory fault u h s =
    absurd (false≢true (sym s.no_memory ∙ ap (λ f. is_memory (halt_in f)) s.fault_is))
fell_by also new others fault u h s = absurd s.only

-- a look that stopped
pub look_fell : (p : Place) (old new : Base) (stop : Stop) (fault : DbFault) → IsUp p old →
    new.kept.held ≡ old.kept.held → Stopped stop fault old new → FellTo p p fault new
look_fell p old new stop fault u held s =
    fell_by p new stop fault u (record {
      change = u.fits.held.0;
      running = (up_running p old u.fits u.up).0;
      node = refl;
      holds = u.fits.held.2;
      either = inl (held ∙ u.fits.held.1);
    }) s

-- ---- what changes nothing

-- a look at the store
pub looked : (p : Place) (b : Base) (kept : Kept) (fits : Fits p b) → kept.held ≡ b.kept.held →
    b.kept.faults ≤ kept.faults → Fits p (record b { kept = kept })
looked p b kept fits held later =
    record {
      stands = fits.stands;
      told = omega (arith, fits.told, later);
      held = (fits.held.0, held ∙ fits.held.1, fits.held.2);
    }

-- what is open stays so where actions, commits and fillings stay
pub opens_same : (p q : Place) (x : Option ℕ) (t : Option Transaction) →
    (q.actions ≡ p.actions) × (q.commits ≡ p.commits) × (q.fillings ≡ p.fillings) → OpensAs p x t → OpensAs q x t
opens_same p q None None same o = tt
opens_same p q None (Some t) same o = o
opens_same p q (Some x) None same o = o
opens_same p q (Some x) (Some t) same o = opened_same p q x t same o

-- a database went down, and its store holds what it held
pub record HasCrashed (old new : Base) : Type 0 where
  pub down : IsDown old.memory new.memory
  pub held : new.kept.held ≡ old.kept.held
  pub later : old.kept.faults ≤ new.kept.faults

-- its place, with its numbers
pub crashed_fits : (p : Place) (old new : Base) → IsUp p old → HasCrashed old new → Fits (crashed p) new
crashed_fits p old new u c =
    let runs = (up_running p old u.fits u.up).1 in record {
      stands = (
        c.down.up,
        c.down.doubt ∙ runs.settled,
        named_as p (crashed p) old.memory new.memory (named_up p old.memory runs) c.down.identity refl,
      );
      told = omega (arith, u.fits.told, c.later);
      held = (
        u.fits.held.0,
        c.held ∙ u.fits.held.1,
        holds_same p (crashed p) u.fits.held.0 refl u.fits.held.2,
      );
    }
