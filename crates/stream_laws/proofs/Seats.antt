-- What a script or a turn reaches is a node of the session, and what it was not refused for is not so.
use Rattle.std.proofs.Common.{◌≡◌, ℕ, Bool, true, false, cond, List, [], ◌∷◌, Option, Some, None, refl}
use Rattle.std.proofs.Common.{sym, ap, subst, ◌∙◌, not}
use Rattle.std.specs.Prelude.{◌==◌, ◌||◌, filter_map, option_map}
use Rattle.std.specs.List.{list_any, cons_option}
use Rattle.std.specs.Str.{bytes_eq}
use Rattle.std.proofs.lemmas.Bool.{false≢true, eqb-true, not-false, and_parts}
use Rattle.slon_model.specs.declared.reply.Refusal.TheVariants as refused
use Rattle.slon_model.specs.Names.{Named, find_named}
use Rattle.slon_model.specs.Config.{Config, is_origin}
use Rattle.slon_model.specs.Deeds.{Node, knowledge}
use Rattle.slon_model.specs.Place.{Place, node_id}
use Rattle.slon_model.specs.Sessions.{World, Running, Seat, when}
use Rattle.slon_model.specs.Reaching.{database_of_line, is_node_of, reach, origin_checks}
use Rattle.slon_model.specs.Reaching.{origin_of, best_of, found_owner, owner}
use Rattle.slon_model.specs.Membership.{first_id}
use Rattle.slon_model.proofs.Names.{all_map, one_found}
pub use Rattle.slon_laws.proofs.Results.{OnOk, bind_ok, ok_then, checked_ok, kept_ok, none_first, all_none, when_none}
pub use Rattle.slon_laws.proofs.Results.{last_none, none_busy}
pub use Rattle.slon_laws.proofs.Seats.{IsSeat, IsFound, already_none, at_node_found, line_ok, no_node, seat_at_ok}
pub use Rattle.slon_laws.proofs.Seats.{turn_ok}
use Rattle.slon_laws.specs.Sound.{AreNamedOnce}
use Rattle.slon_laws.proofs.Owners.{OnSome, OfNode, owner_is}
use Rattle.slon_laws.proofs.Seats.{all_once, seat_of_ok}
use Rattle.stream_laws.specs.Nodes.{nodes_in, node_in}

-- ---- seats

-- the node of a seat, by the name of its database
pub seat_node : (ps : Named Place) (s : Seat) → IsSeat ps s → nodes_in ps s.name ≡ Some s.node
seat_node ps s is = ap node_in is.found ∙ is.node

-- the seat is that of the node of this id
abbrev pub IsReached : Named Place → ℕ → Seat → Type 0
IsReached ps id s = IsSeat ps s × (s.node.id ≡ id)

pub reach_ok : (run : Running) (id : ℕ) (w : World) → OnOk (IsReached w.places id) (reach run id w)
reach_ok run id w =
    bind_ok (IsFound w.places) (IsReached w.places id) (database_of_line run id w) _ (line_ok run id w)
    (λ e found. bind_ok (IsSeat w.places) (IsReached w.places id) _ _
    (seat_of_ok w.places (refused.NotInitialised id) e found)
    (λ s is. checked_ok (IsReached w.places id) (when (not (is_node_of run id s)) (refused.OtherNode id) ∷ []) s
    (λ none. let same = not-false (is_node_of run id s) (when_none _ (refused.OtherNode id) (none_first _ [] none).0) in
    (is, eqb-true s.node.id id (and_parts (s.node.id == id) (bytes_eq s.node.cluster run.cluster) same).0))))

-- the node is the origin of this set
abbrev pub IsLeading : Named Place → ℕ → Seat → Type 0
IsLeading ps set s = IsSeat ps s × (is_origin s.node.id set (knowledge s.node).config ≡ true)

pub origin_ok : (run : Running) (origin set : ℕ) (w : World) →
    OnOk (IsLeading w.places set) (origin_of run origin set w)
origin_ok run origin set w =
    bind_ok (IsReached w.places origin) (IsLeading w.places set) (reach run origin w) _ (reach_ok run origin w)
    (λ s is. checked_ok (IsLeading w.places set) (origin_checks s set) s
    (λ none. (
      is.0,
      ap (λ k. is_origin s.node.id set k.config) (sym is.0.known)
          ∙ not-false (is_origin s.node.id set s.known.config)
          (when_none _ (refused.NotOrigin set) (all_none (origin_checks s set) none).1.0),
    )))

-- ---- the owner of a set

owner_found : (P : Seat → Type 0) (set : ℕ) (best : Option Seat) → OnSome P best → OnOk P (found_owner set best)
owner_found P set None is = tt
owner_found P set (Some s) is = is

pub owner_ok : (run : Running) (set : ℕ) (w : World) → AreNamedOnce w.places → OnOk (IsSeat w.places) (owner run set w)
owner_ok run set w once =
    owner_found (IsSeat w.places) set (best_of set run None w.places)
    (owner_is (IsSeat w.places) set run w
    (all_map (IsFound w.places) (OfNode (IsSeat w.places))
    (λ e found n is. record { found = found; node = is; known = refl }) w.places (all_once w.places once)))

-- ---- what no node knows, and sessions without nodes

neither : (a b : Bool) → (a || b) ≡ false → (a ≡ false) × (b ≡ false)
neither true b none = absurd (false≢true (sym none))
neither false b none = (refl, none)

-- what is known nowhere no node of the session knows
pub unknown : (test : Config → Bool) (ps : Named Place) →
    list_any (λ k. test k.config) (filter_map (λ e. option_map knowledge e.1.node) ps) ≡ false →
    (name : List ℕ) (n : Node) → nodes_in ps name ≡ Some n → test (knowledge n).config ≡ false
unknown test [] none name n is = absurd cc
unknown test (e ∷ es) none name n is =
    by (λ rest there. unknown test es rest name n there) e.1.node refl none (bytes_eq name e.0) is
  where
    by : (list_any (λ k. test k.config) (filter_map (λ e. option_map knowledge e.1.node) es) ≡ false →
        nodes_in es name ≡ Some n → test (knowledge n).config ≡ false) → (o : Option Node) → e.1.node ≡ o →
        list_any (λ k. test k.config) (cons_option (option_map knowledge o)
        (filter_map (λ e. option_map knowledge e.1.node) es)) ≡ false → (b : Bool) →
        node_in (cond b (Some e.1) (find_named name es)) ≡ Some n → test (knowledge n).config ≡ false
    by later None at none true here = absurd cc
    by later None at none false there = later none there
    by later (Some m) at none true here =
        subst (λ x. test (knowledge x).config ≡ false) (one_found m n (sym at ∙ here)) (neither _ _ none).0
    by later (Some m) at none false there = later (neither _ _ none).1 there

-- where no database is a node, or would be one
pub no_nodes : (ps : Named Place) → first_id (filter_map (λ e. node_id e.1) ps) ≡ None → (name : List ℕ) →
    nodes_in ps name ≡ None
no_nodes [] none name = refl
no_nodes (e ∷ es) none name =
    by (λ rest. no_nodes es rest name) (node_id e.1) refl none (bytes_eq name e.0)
  where
    by : (first_id (filter_map (λ e. node_id e.1) es) ≡ None → nodes_in es name ≡ None) → (o : Option ℕ) →
        node_id e.1 ≡ o → first_id (cons_option o (filter_map (λ e. node_id e.1) es)) ≡ None → (b : Bool) →
        node_in (cond b (Some e.1) (find_named name es)) ≡ None
    by later None at none true = no_node e.1 at
    by later None at none false = later none
    by later (Some id) at none b = absurd cc

pub no_node_at : (ps : Named Place) (e : List ℕ × Place) → IsFound ps e → node_id e.1 ≡ None → e.1.node ≡ None
no_node_at ps e found none = no_node e.1 none
