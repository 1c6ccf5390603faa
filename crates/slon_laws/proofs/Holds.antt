-- What holds of the database of a name holds of what it becomes.
use Rattle.std.proofs.Common.{◌≡◌, ℕ, Bool, true, false, List, Some, refl, sym, ap, subst, ◌∙◌}
use Rattle.std.specs.Str.{bytes_eq}
use Rattle.slon_model.specs.Names.{Named, find_named, put_named}
use Rattle.slon_model.specs.Tasks.{Act}
use Rattle.slon_model.specs.Place.{Place}
use Rattle.slon_model.specs.Deciding.{place_by}
use Rattle.slon_model.specs.Sessions.{Commit}
use Rattle.slon_model.specs.World.{World, Step, Grants, Denies, Misses, Asks, Acts, Happening, outcome}
use Rattle.slon_model.proofs.Names.{bytes_same, found_behind, put_found, put_other, one_found}
use Rattle.slon_laws.specs.Keeps.{Keeps}
use Rattle.slon_laws.specs.Turning.{AllHold}
use Rattle.slon_laws.proofs.Acting.{acting_turns}
use Rattle.slon_laws.proofs.Keeps.{kept, turned_keeps}

-- it holds of the database of this name
abbrev pub HoldsOf : (Place → Type 0) → List ℕ → Named Place → Type 0
HoldsOf R name ps = (q : Place) × (find_named name ps ≡ Some q) × R q

-- A database of this name becomes another one, and what held of it holds still.
pub record Becoming (R : Place → Type 0) (ps : Named Place) : Type 0 where
  pub name : List ℕ
  pub before : Place
  pub behind : Place
  pub at : find_named name ps ≡ Some before
  pub on : R before → R behind

pub put_holds : {R : Place → Type 0} (name : List ℕ) (ps : Named Place) (b : Becoming R ps) → HoldsOf R name ps →
    HoldsOf R name (put_named b.name b.behind ps)
put_holds {R} name ps b (q, found, is) = by (bytes_eq name b.name) refl
  where
    by : (c : Bool) → bytes_eq name b.name ≡ c → HoldsOf R name (put_named b.name b.behind ps)
    by true same =
        let here : name ≡ b.name = bytes_same name b.name same in
        let one : q ≡ b.before = one_found q b.before (sym found ∙ ap (λ k. find_named k ps) here ∙ b.at) in (
          b.behind,
          ap (λ k. find_named k (put_named b.name b.behind ps)) here ∙ put_found b.name b.behind b.before ps b.at,
          b.on (subst R one is),
        )
    by false differ = (q, put_other name b.name b.behind ps differ ∙ found, is)

-- what every way keeps in which a database goes on, where F holds of each commit of a script or a turn
pub on_step : {F : Commit → Place → Type 0} {R : Place → Type 0} → Keeps F (λ task. Unit {0}) R R → (name : List ℕ)
    (w v : World) (h : Happening) → Step w h v → ((act : Act) → AllHold F (outcome act w).commits w.places) →
    HoldsOf R name w.places → HoldsOf R name v.places
on_step {R = R} k name w v h (Grants other result about granted takes told is) acts (q, found, holds) =
    subst (λ u. HoldsOf R name u.places) (sym is) (q, found_behind name other _ q w.places found, holds)
on_step {R = R} k name w v h (Denies other about denied sure told is) acts holds =
    subst (λ u. HoldsOf R name u.places) (sym is) holds
on_step {R = R} k name w v h (Misses other task about none sure told is) acts holds =
    subst (λ u. HoldsOf R name u.places) (sym is) holds
on_step {R = R} k name w v h (Asks t) acts holds =
    subst (λ u. HoldsOf R name u.places) (sym t.is)
    (put_holds name w.places (record {
      name = t.name;
      before = t.place;
      behind = place_by t.task t.place h.choice;
      at = t.found;
      on = λ is. kept k t.task t.place h.choice (tt, is);
    }) holds)
on_step {R = R} k name w v h (Acts t) acts holds =
    acting_turns {R = HoldsOf R name} (λ other r q ps at turned was. put_holds name ps (record {
      name = other;
      before = r;
      behind = q;
      at = at;
      on = turned_keeps k r q turned;
    }) was) w v h t (acts t.act) holds
