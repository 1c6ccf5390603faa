-- The node that a turn finds is that of a database of the session.
use Rattle.std.proofs.Common.{◌≡◌, ℕ, true, false, cond, List, [], ◌∷◌, Option, Some, None, Ok, Err, refl, not}
use Rattle.std.specs.Prelude.{option_map}
use Rattle.std.specs.Option.{option_or}
use Rattle.std.specs.List.{AllByRecursion}
use Rattle.slon_model.specs.declared.reply.Refusal.{Refusal}
use Rattle.slon_model.specs.declared.reply.Refusal.TheVariants as refused
use Rattle.slon_model.specs.Names.{Named, find_named}
use Rattle.slon_model.specs.Rows.{member}
use Rattle.slon_model.specs.Deeds.{Node, knowledge}
use Rattle.slon_model.specs.Maps.{entry_at}
use Rattle.slon_model.specs.Membership.{already}
use Rattle.slon_model.specs.Place.{Place, is_running, node_id}
use Rattle.slon_model.specs.Reaching.{database_by, database_of_line, database_up}
use Rattle.slon_model.specs.Sessions.{World, Running, Seat, when, seat_of}
use Rattle.slon_model.specs.Turns.{at_node, seat_at, on_turn}
use Rattle.slon_model.proofs.Names.{all_map}
use Rattle.slon_laws.specs.Sound.{AreNamedOnce}
use Rattle.slon_laws.proofs.Named.{found_first, found_later, found_once}
use Rattle.slon_laws.proofs.Results.{OnOk, bind_ok, kept_ok}

-- The seat is that of a node of the session, with what that knows.
pub record IsSeat (ps : Named Place) (s : Seat) : Type 0 where
  pub found : find_named s.name ps ≡ Some s.place
  pub node : s.place.node ≡ Some s.node
  pub known : s.known ≡ knowledge s.node

-- the database is one of the session
abbrev pub IsFound : Named Place → List ℕ × Place → Type 0
IsFound ps e = find_named e.0 ps ≡ Some e.1

-- each database of a session is found by its name
pub all_once : (ps : Named Place) → AreNamedOnce ps → AllByRecursion (IsFound ps) ps
all_once [] once = tt
all_once (p ∷ ps) once = (
  found_first p ps,
  all_map (IsFound ps) (IsFound (p ∷ ps)) (λ e found. found_later p ps e once.0 found) ps (all_once ps once.1),
)

pub at_node_found : (node : ℕ) (w : World) (e : List ℕ × Place) → AreNamedOnce w.places → at_node node w ≡ Some e →
    IsFound w.places e
at_node_found node w e once is = found_once _ w.places e once is

pub seat_of_ok : (ps : Named Place) (none : Refusal) (e : List ℕ × Place) → IsFound ps e →
    OnOk (IsSeat ps) (seat_of none e e.1.node)
seat_of_ok ps none e found = by e.1.node refl
  where
    by : (o : Option Node) → e.1.node ≡ o → OnOk (IsSeat ps) (seat_of none e o)
    by None is = tt
    by (Some n) is = record { found = found; node = is; known = refl }

pub seat_at_ok : (node : ℕ) (w : World) (o : Option (List ℕ × Place)) →
    ((e : List ℕ × Place) → o ≡ Some e → IsFound w.places e) → OnOk (IsSeat w.places) (seat_at node o)
seat_at_ok node w None found = tt
seat_at_ok node w (Some e) found =
    elim (is_running e.1.standing)
    as (λ b. OnOk (IsSeat w.places)
    (cond b (seat_of (refused.NoNode node) e e.1.node) (Err (refused.Down e.0)))) [
      | true ↦ seat_of_ok w.places (refused.NoNode node) e (found e refl)
      | false ↦ tt
    ]

pub turn_ok : (node : ℕ) (w : World) → AreNamedOnce w.places → OnOk (IsSeat w.places) (on_turn node w)
turn_ok node w once =
    bind_ok (IsSeat w.places) (IsSeat w.places) (seat_at node (at_node node w)) _
    (seat_at_ok node w (at_node node w) (λ e is. at_node_found node w e once is))
    (λ s is. kept_ok (IsSeat w.places) (when (not (member node w.memory.started)) (refused.Off node) ∷ []) s is)

-- ---- databases that are reached

up_ok : (w : World) (name : List ℕ) → OnOk (IsFound w.places) (database_up name (find_named name w.places))
up_ok w name = by (find_named name w.places) refl
  where
    by : (o : Option Place) → find_named name w.places ≡ o → OnOk (IsFound w.places) (database_up name o)
    by None is = tt
    by (Some p) is =
        elim (is_running p.standing)
        as (λ b. OnOk (IsFound w.places) (cond b (Ok (name, p)) (Err (refused.Down name)))) [
          | true ↦ is
          | false ↦ tt
        ]

pub line_ok : (run : Running) (id : ℕ) (w : World) → OnOk (IsFound w.places) (database_of_line run id w)
line_ok run id w = by (entry_at id run.lines)
  where
    by : (o : Option (List ℕ)) → OnOk (IsFound w.places) (database_by w id o)
    by None = tt
    by (Some conninfo) = up_ok w _

-- a database that is no node, nor would be one by a commit in doubt
pub already_none : (o : Option ℕ) → already o ≡ None → o ≡ None
already_none None none = refl
already_none (Some node) none = absurd cc

pub no_node : (p : Place) → node_id p ≡ None → p.node ≡ None
no_node p none = by p.node none
  where
    by : (o : Option Node) → option_or (option_map (λ n. n.id) o) p.promised ≡ None → o ≡ None
    by None none = refl
    by (Some n) none = absurd cc
