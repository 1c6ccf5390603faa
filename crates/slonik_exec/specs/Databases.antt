-- What the code keeps of the databases of a session, and when the rules agree with it.
use Rattle.std.specs.Prelude.{◌≡◌, ◌==◌, ℕ, Bool, true, false, if◌then◌else◌, List, [], ◌∷◌, map, Option, Some, None}
use Rattle.std.specs.Str.{bytes_eq}
use Rattle.slon_base.specs.Keeper.{Kept}
use Rattle.slon_base.specs.declared.fault.Halt.{Halt as HaltOf}
use Rattle.slon_base.specs.declared.fault.Halt.TheVariants.{Fault, Doubt}
use Rattle.slon_base.specs.declared.keeper.Keeper.{Ghosts}
use Rattle.slon_model.specs.declared.reply.Refusal.{Refusal}
use Rattle.slon_model.specs.declared.reply.Refusal.TheVariants as refused
use Rattle.slon_model.specs.declared.reply.Reply.{Reply}
use Rattle.slon_model.specs.declared.reply.Reply.TheVariants.{Refused, InDoubt}
use Rattle.slon_model.specs.Names.{Named}
use Rattle.slon_model.specs.Place.{Place}
use Rattle.slon_model.specs.Sessions.{World}
use Rattle.slon_laws.specs.Sound.{Sound}
use Rattle.slon_laws.specs.Spelled.{IsSpelled}
use Rattle.slon_laws.specs.Worlds.{AllPlaces}
use Rattle.store_rows.specs.Spending.{Rests}
use Rattle.app_store.specs.Base.{Base, base_of}
use Rattle.app_store.specs.Fits.{Fits}
use Rattle.node_store.specs.Acting.{Tries}
use Rattle.slonik_exec.specs.declared.databases.Named.{Named as NamedDatabase}

-- ---- read off the code

abbrev pub named_base : {K : Type 0} {g : Ghosts K} → (K → Kept) → NamedDatabase K g → List ℕ × Base
named_base kept d = (d.name, base_of kept d.database)

abbrev pub bases_of : {K : Type 0} {g : Ghosts K} → (K → Kept) → List (NamedDatabase K g) → Named Base
bases_of kept databases = map (named_base kept) databases

-- ---- by the rules

-- the databases agree one by one
abbrev pub FitsAll : Named Place → Named Base → Type 0
FitsAll [] [] = Unit {0}
FitsAll (p ∷ ps) (b ∷ bs) = (p.0 ≡ b.0) × Fits p.1 b.1 × FitsAll ps bs
FitsAll places bases = ⊥

-- they do, and each database has what each one of a legal history has
pub record AreReady (w : World) (bases : Named Base) : Type 0 where
  pub fits : FitsAll w.places bases
  pub sound : AllPlaces Sound w
  pub spelled : AllPlaces IsSpelled w

-- ---- over every store

-- a database by its name, and why its store stopped
abbrev pub Trouble : Type 0
Trouble = List ℕ × HaltOf

-- of which database a reply tells a fault or a doubt
abbrev pub told_by : Reply → Option Trouble
told_by (Refused (refused.Fault database count)) = Some (database, Fault count)
told_by (InDoubt database answer) = Some (database, Doubt)
told_by others = None

-- a refusal that tells of no store, if there is one
abbrev pub IsQuiet : Refusal → Type 0
IsQuiet refusal = told_by (Refused refusal) ≡ None

abbrev pub AreQuiet : Option Refusal → Type 0
AreQuiet None = Unit {0}
AreQuiet (Some refusal) = IsQuiet refusal

-- what is told of a database of this name, and of those behind it
abbrev pub trouble_here : Option Trouble → List ℕ → Option HaltOf
trouble_here None name = None
trouble_here (Some t) name = if bytes_eq t.0 name then Some t.1 else None

abbrev pub trouble_later : Option Trouble → List ℕ → Option Trouble
trouble_later None name = None
trouble_later (Some t) name = if bytes_eq t.0 name then None else Some t

-- one database, where a fault that is counted is told of it, or of another one
pub record Tried (calm : Bool) (trouble : Option HaltOf) (old new : Base) : Type 0 where
  pub tries : Tries trouble old new
  pub quiet : calm ≡ true → Rests old.kept.faults new.kept.faults

-- All databases of a session over a step in which this is told of the first one of a name, which is there. No database
-- comes or goes.
abbrev pub TriesAll : Bool → Option Trouble → Named Base → Named Base → Type 0
TriesAll calm told [] [] = told ≡ None
TriesAll calm told (o ∷ os) (n ∷ ns) =
    (n.0 ≡ o.0) × Tried calm (trouble_here told o.0) o.1 n.1 × TriesAll calm (trouble_later told o.0) os ns
TriesAll calm told olds news = ⊥

-- it tells of no fault and no doubt, of no row that is not in its form, and of no number of an event
abbrev pub is_calm : Reply → Bool
is_calm (Refused (refused.Fault database count)) = false
is_calm (Refused (refused.BadRow space)) = false
is_calm (Refused (refused.TooBig space)) = space == 1
is_calm (InDoubt database answer) = false
is_calm others = true

-- what is promised of a step with this reply
abbrev pub Runs : Named Base → Reply → Named Base → Type 0
Runs old reply new = TriesAll (is_calm reply) (told_by reply) old new
