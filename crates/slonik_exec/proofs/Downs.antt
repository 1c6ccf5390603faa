-- The first database that is down or a node, and whether one is this node, by the code and by the rules.
use Rattle.std.proofs.Common.{◌≡◌, ◌∙◌, ℕ, ◌&&◌, ◌||◌, Bool, true, false, cond, not, List, [], ◌∷◌, filter, is_some}
use Rattle.std.proofs.Common.{Option, Some, None, refl, sym, ap}
use Rattle.std.specs.Prelude.{find, filter_map}
use Rattle.std.specs.List.{cons_option, list_any}
use Rattle.std.specs.Option.{option_map}
use Rattle.slon_base.specs.Keeper.{Kept}
use Rattle.slon_base.specs.declared.keeper.Keeper.{Ghosts}
use Rattle.slon_model.specs.declared.reply.Refusal.TheVariants as refused
use Rattle.slon_model.specs.Names.{Named}
use Rattle.slon_model.specs.Place.{Place, Standing, IsRunning, IsFallen, IsDoubtful, is_running, node_id}
use Rattle.slon_model.specs.Reaching.{down_among}
use Rattle.slon_model.specs.Membership.{first_id}
use Rattle.slon_model.specs.Turns.{is_id}
use Rattle.node_state.specs.declared.memory.Identity.{Identity}
use Rattle.app_store.specs.Base.{Memory, Base, base_of}
use Rattle.app_store.specs.Fits.{Fits, StandsAs, IsNamed}
use Rattle.app_store.proofs.Standing.{named_up}
use Rattle.slonik_exec.specs.declared.databases.Named.{Named as NamedDatabase}
use Rattle.slonik_exec.specs.Databases.{FitsAll, bases_of}
use Rattle.slonik_exec.specs.Reached.{IsDown, IsDownNode, IsFirstNode, HasNode}
use Rattle.slonik_exec.specs.Turning.{is_this}
use Rattle.slonik_exec.proofs.Seats.{same_up}

-- what code asks of a database
abbrev pub is_down : {K : Type 0} {g : Ghosts K} → NamedDatabase K g → Bool
is_down d = not d.database.state.up

abbrev pub is_node : {K : Type 0} {g : Ghosts K} → NamedDatabase K g → Bool
is_node d = is_some d.database.state.node.identity

abbrev pub is_down_node : {K : Type 0} {g : Ghosts K} → NamedDatabase K g → Bool
is_down_node d = is_down d && is_node d

abbrev pub name_in : {K : Type 0} {g : Ghosts K} → Option (NamedDatabase K g) → Option (List ℕ)
name_in found = option_map (λ d. d.name) found

abbrev pub id_in : {K : Type 0} {g : Ghosts K} → Option (NamedDatabase K g) → Option ℕ
id_in None = None
id_in (Some d) = option_map (λ i. i.id) d.database.state.node.identity

-- one entry of the rules and one of the code
step_down : {K : Type 0} {g : Ghosts K} (p : List ℕ × Place) (d : NamedDatabase K g) (ps : Named Place)
    (rest : Option (NamedDatabase K g)) (up : Bool) →
    (is_running p.1.standing ≡ up) × (d.database.state.up ≡ up) × (p.0 ≡ d.name) →
    down_among ps ≡ option_map refused.Down (name_in rest) →
    down_among (p ∷ ps) ≡ option_map refused.Down (name_in (cond (is_down d) (Some d) rest))
step_down p d ps rest up (running, up_is, name) later =
    ap (λ b. cond b (down_among ps) (Some (refused.Down p.0))) running ∙ middle up
    ∙ sym (ap (λ b. option_map refused.Down (name_in (cond (not b) (Some d) rest))) up_is)
  where
    middle : (b : Bool) → cond b (down_among ps) (Some (refused.Down p.0))
        ≡ option_map refused.Down (name_in (cond (not b) (Some d) rest))
    middle true = later
    middle false = ap (λ n. Some (refused.Down n)) name

downs : {K : Type 0} {g : Ghosts K} (kept : K → Kept) (ps : Named Place) (ds : List (NamedDatabase K g)) →
    FitsAll ps (bases_of kept ds) → down_among ps ≡ option_map refused.Down (name_in (find is_down ds))
downs kept [] [] all = refl
downs kept [] (d ∷ ds) all = absurd all
downs kept (p ∷ ps) [] all = absurd all
downs kept (p ∷ ps) (d ∷ ds) all =
    step_down p d ps (find is_down ds) (is_running p.1.standing)
    (refl, same_up p.1 (base_of kept d.database) all.1, all.0) (downs kept ps ds all.2)

pub is_down_by : {K : Type 0} {g : Ghosts K} (kept : K → Kept) (ds : List (NamedDatabase K g))
    (found : Option (NamedDatabase K g)) → found ≡ find is_down ds → IsDown (bases_of kept ds) (name_in found)
is_down_by kept ds found is w all =
    downs kept w.places ds all ∙ ap (λ o. option_map refused.Down (name_in o)) (sym is)

-- ---- nodes

-- the memory of a database says which node it is, or would be by a commit in doubt
named_by : (s : Standing) (p : Place) (m : Memory) → StandsAs s p m → IsNamed p m
named_by IsRunning p m runs = named_up p m runs
named_by IsFallen p m down = down.2
named_by (IsDoubtful stands) p m down = down.3

pub named_fits : (p : Place) (b : Base) → Fits p b → IsNamed p b.memory
named_fits p b fits = named_by p.standing p b.memory fits.stands

named_some : (identity : Option Identity) (own : Option ℕ) → option_map (λ i. i.id) identity ≡ own →
    is_some identity ≡ is_some own
named_some None own is = ap is_some is
named_some (Some i) own is = ap is_some is

step_node : {K : Type 0} {g : Ghosts K} (p : List ℕ × Place) (d : NamedDatabase K g) (others : Named Place)
    (rest : Option (NamedDatabase K g)) (up node : Bool) →
    (is_running p.1.standing ≡ up) × (d.database.state.up ≡ up) × (is_node d ≡ node) × (p.0 ≡ d.name) →
    down_among others ≡ option_map refused.Down (name_in rest) →
    cond node (down_among (p ∷ others)) (down_among others)
    ≡ option_map refused.Down (name_in (cond (is_down d && is_node d) (Some d) rest))
step_node p d others rest up node (running, up_is, node_is, name) later =
    ap (λ b. cond node (cond b (down_among others) (Some (refused.Down p.0))) (down_among others)) running
    ∙ middle up node
    ∙ sym (ap (λ b. option_map refused.Down (name_in (cond (not b && node) (Some d) rest))) up_is)
    ∙ sym (ap (λ b. option_map refused.Down (name_in (cond (is_down d && b) (Some d) rest))) node_is)
  where
    middle : (b n : Bool) → cond n (cond b (down_among others) (Some (refused.Down p.0))) (down_among others)
        ≡ option_map refused.Down (name_in (cond (not b && n) (Some d) rest))
    middle true true = later
    middle true false = later
    middle false true = ap (λ n. Some (refused.Down n)) name
    middle false false = later

out : (b : Bool) (p : List ℕ × Place) (others : Named Place) →
    down_among (cond b (p ∷ others) others) ≡ cond b (down_among (p ∷ others)) (down_among others)
out true p others = refl
out false p others = refl

down_nodes : {K : Type 0} {g : Ghosts K} (kept : K → Kept) (ps : Named Place) (ds : List (NamedDatabase K g)) →
    FitsAll ps (bases_of kept ds) →
    down_among (filter (λ e. is_some (node_id e.1)) ps)
    ≡ option_map refused.Down (name_in (find is_down_node ds))
down_nodes kept [] [] all = refl
down_nodes kept [] (d ∷ ds) all = absurd all
down_nodes kept (p ∷ ps) [] all = absurd all
down_nodes kept (p ∷ ps) (d ∷ ds) all =
    out (is_some (node_id p.1)) p (filter (λ e. is_some (node_id e.1)) ps)
    ∙ step_node p d (filter (λ e. is_some (node_id e.1)) ps) (find is_down_node ds) (is_running p.1.standing)
    (is_some (node_id p.1)) (
      refl,
      same_up p.1 (base_of kept d.database) all.1,
      named_some d.database.state.node.identity (node_id p.1) (named_fits p.1 (base_of kept d.database) all.1),
      all.0,
    )
    (down_nodes kept ps ds all.2)

pub is_down_node_by : {K : Type 0} {g : Ghosts K} (kept : K → Kept) (ds : List (NamedDatabase K g))
    (found : Option (NamedDatabase K g)) → found ≡ find is_down_node ds →
    IsDownNode (bases_of kept ds) (name_in found)
is_down_node_by kept ds found is w all =
    down_nodes kept w.places ds all ∙ ap (λ o. option_map refused.Down (name_in o)) (sym is)

step_first : {K : Type 0} {g : Ghosts K} (d : NamedDatabase K g) (own : Option ℕ) (more : List ℕ)
    (rest : Option (NamedDatabase K g)) (identity : Option Identity) →
    (d.database.state.node.identity ≡ identity) × (option_map (λ i. i.id) identity ≡ own) →
    first_id more ≡ id_in rest →
    first_id (cons_option own more) ≡ id_in (cond (is_node d) (Some d) rest)
step_first d own more rest None (is, named) later =
    ap (λ o. first_id (cons_option o more)) (sym named) ∙ later
    ∙ sym (ap (λ (o : Option Identity). id_in (cond (is_some o) (Some d) rest)) is)
step_first d own more rest (Some i) (is, named) later =
    ap (λ o. first_id (cons_option o more)) (sym named)
    ∙ sym (ap (λ (o : Option Identity). option_map (λ i. i.id) o) is)
    ∙ sym (ap (λ (o : Option Identity). id_in (cond (is_some o) (Some d) rest)) is)

firsts : {K : Type 0} {g : Ghosts K} (kept : K → Kept) (ps : Named Place) (ds : List (NamedDatabase K g)) →
    FitsAll ps (bases_of kept ds) →
    first_id (filter_map (λ e. node_id e.1) ps) ≡ id_in (find is_node ds)
firsts kept [] [] all = refl
firsts kept [] (d ∷ ds) all = absurd all
firsts kept (p ∷ ps) [] all = absurd all
firsts kept (p ∷ ps) (d ∷ ds) all =
    step_first d (node_id p.1) (filter_map (λ e. node_id e.1) ps) (find is_node ds) d.database.state.node.identity
    (refl, named_fits p.1 (base_of kept d.database) all.1) (firsts kept ps ds all.2)

pub is_first_node_by : {K : Type 0} {g : Ghosts K} (kept : K → Kept) (ds : List (NamedDatabase K g))
    (found : Option (NamedDatabase K g)) → found ≡ find is_node ds → IsFirstNode (bases_of kept ds) (id_in found)
is_first_node_by kept ds found is w all = firsts kept w.places ds all ∙ ap id_in (sym is)

-- ---- one node

step_this : {X : Type 0} (b : Bool) (x : X) (rest : Option X) (later : Bool) → is_some rest ≡ later →
    is_some (cond b (Some x) rest) ≡ b || later
step_this true x rest later is = refl
step_this false x rest later is = is

these : {K : Type 0} {g : Ghosts K} (kept : K → Kept) (node : ℕ) (ps : Named Place) (ds : List (NamedDatabase K g)) →
    FitsAll ps (bases_of kept ds) → is_some (find (λ e. is_id node (node_id e.1)) ps) ≡ list_any (is_this node) ds
these kept node [] [] all = refl
these kept node [] (d ∷ ds) all = absurd all
these kept node (p ∷ ps) [] all = absurd all
these kept node (p ∷ ps) (d ∷ ds) all =
    step_this (is_id node (node_id p.1)) p _ _ (these kept node ps ds all.2)
    ∙ ap (λ o. is_id node o || list_any (is_this node) ds) (sym (named_fits p.1 (base_of kept d.database) all.1))

pub has_node_by : {K : Type 0} {g : Ghosts K} (kept : K → Kept) (node : ℕ) (ds : List (NamedDatabase K g))
    (found : Bool) → found ≡ list_any (is_this node) ds → HasNode node (bases_of kept ds) found
has_node_by kept node ds found is w all = these kept node w.places ds all ∙ sym is
