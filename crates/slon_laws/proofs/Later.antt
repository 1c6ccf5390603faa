-- What every step keeps of a database holds of what that database becomes.
use Rattle.std.proofs.Common.{ℕ, List, [], ◌∷◌, sym, subst}
use Rattle.slon_model.specs.Place.{Place}
use Rattle.slon_model.specs.Deciding.{place_by}
use Rattle.slon_model.specs.World.{World, Step, Grants, Denies, Misses, Asks, Acts, Happening, Leads}
use Rattle.slon_model.proofs.Names.{found_behind, all_found}
use Rattle.slon_laws.specs.Sound.{Sound}
use Rattle.slon_laws.specs.Worlds.{AllPlaces}
use Rattle.slon_laws.specs.Turning.{IsWithin}
use Rattle.slon_laws.specs.Keeps.{Keeps}
pub use Rattle.slon_laws.proofs.Holds.{HoldsOf, Becoming, put_holds}
use Rattle.slon_laws.proofs.Keeps.{kept, turned_keeps}
use Rattle.slon_laws.proofs.Acting.{acting_carries}
use Rattle.slon_laws.proofs.Worlds.{sound_world_step}

-- each step of a database keeps it, where the database is sound
abbrev pub KeptBySteps : (Place → Type 0) → Type 0
KeptBySteps R = Keeps IsWithin (λ task. Unit {0}) (λ p. Sound p × R p) R

holds_step : {R : Place → Type 0} → KeptBySteps R → (name : List ℕ) (w v : World) (h : Happening) → Step w h v →
    AllPlaces Sound w → HoldsOf R name w.places → HoldsOf R name v.places
holds_step {R} k name w v h (Grants other result about granted takes told is) all (q, found, holds) =
    subst (λ u. HoldsOf R name u.places) (sym is) (q, found_behind name other _ q w.places found, holds)
holds_step {R} k name w v h (Denies other about denied sure told is) all holds =
    subst (λ u. HoldsOf R name u.places) (sym is) holds
holds_step {R} k name w v h (Misses other task about none sure told is) all holds =
    subst (λ u. HoldsOf R name u.places) (sym is) holds
holds_step {R} k name w v h (Asks t) all holds =
    subst (λ u. HoldsOf R name u.places) (sym t.is)
    (put_holds name w.places (record {
      name = t.name;
      before = t.place;
      behind = place_by t.task t.place h.choice;
      at = t.found;
      on = λ is. kept k t.task t.place h.choice (tt, (all_found Sound t.name t.place w.places all t.found, is));
    }) holds)
holds_step {R} k name w v h (Acts t) all holds =
    acting_carries (λ other r q ps at turned. put_holds name ps (record {
      name = other;
      before = r;
      behind = q;
      at = at;
      on = turned_keeps k r q turned;
    })) w v h t holds

-- it holds still, whatever a history brings
pub holds_later : {R : Place → Type 0} → KeptBySteps R → (later : List Happening) (w v : World) → AllPlaces Sound w →
    Leads w later v → (name : List ℕ) → HoldsOf R name w.places → AllPlaces Sound v × HoldsOf R name v.places
holds_later {R} k [] w v all is name holds =
    (subst (AllPlaces Sound) (sym is) all, subst (λ u. HoldsOf R name u.places) (sym is) holds)
holds_later k (h ∷ hs) w v all leads name holds =
    let before = holds_later k hs w leads.0 all leads.1 name holds in (
      sound_world_step leads.0 v h leads.2 before.0,
      holds_step k name leads.0 v h leads.2 before.0 before.1,
    )
