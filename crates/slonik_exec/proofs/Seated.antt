-- The first database that is a node, by the code and by the rules.
use Rattle.std.proofs.Common.{◌≡◌, ◌∙◌, ◌<◌, ◌+◌, ◌==◌, ◌||◌, ℕ, zero, suc, Bool, true, false, cond, not, List, [], ◌∷◌}
use Rattle.std.proofs.Common.{length, set}
use Rattle.std.proofs.Common.{get_or, Option, Some, None, is_some, IfOk, Result, Ok, Err, refl, sym, ap, subst, arith}
use Rattle.std.specs.Prelude.{find}
use Rattle.std.specs.Option.{option_map}
use Rattle.std.specs.Cmp.{nat_eq_equiv}
use Rattle.std.specs.List.{list_any, position, position_from}
use Rattle.std.proofs.lemmas.Iterator.Adapters.{position_from-zero}
use Rattle.std.specs.Str.{bytes_eq}
use Rattle.std.proofs.lemmas.Bool.{false≢true}
use Rattle.std.proofs.lemmas.List.{get_or_default}
use Rattle.std.proofs.lemmas.List.Quantifiers.{position-Some}
use Rattle.slon_base.specs.Keeper.{Kept}
use Rattle.slon_base.specs.declared.keeper.Keeper.{Ghosts}
use Rattle.slon_model.specs.declared.reply.Refusal.{Refusal}
use Rattle.slon_model.specs.declared.reply.Refusal.TheVariants as refused
use Rattle.slon_model.specs.declared.reply.Reply.{Reply}
use Rattle.slon_model.specs.declared.reply.Reply.TheVariants as replied
use Rattle.slon_model.specs.Names.{Named, find_named}
use Rattle.slon_model.specs.Deeds.{Node}
use Rattle.slon_model.specs.Place.{Place, node_id}
use Rattle.slon_model.specs.Rows.{member}
use Rattle.slon_model.specs.Sessions.{World, Seat, Stated, bind, when, checked, seat, seat_of}
use Rattle.slon_model.specs.Turns.{is_id, at_node, seat_at, on_turn}
use Rattle.slon_model.specs.World.{is_of}
use Rattle.slon_model.proofs.Names.{bytes_same, bytes_itself}
use Rattle.node_state.specs.declared.memory.Identity.{Identity}
use Rattle.node_state.specs.Known.{identity_of}
use Rattle.app_store.specs.Base.{Base, base_of}
use Rattle.app_store.specs.Fits.{Fits}
use Rattle.slonik_exec.specs.declared.databases.Named.{Named as NamedDatabase}
use Rattle.slonik_exec.specs.declared.reaching.Reached.TheVariants.{At, Refused}
use Rattle.slonik_exec.specs.Databases.{FitsAll, bases_of, named_base, told_by}
use Rattle.slonik_exec.specs.Heard.{AreDistinct}
use Rattle.slonik_exec.specs.Answering.{Answers, AtNode}
use Rattle.slonik_exec.specs.Executing.{Comes, Refuses}
use Rattle.slonik_exec.specs.Reached.{IsSeatAt}
use Rattle.slonik_exec.specs.Turning.{is_this, IsSeatHere, SitsOn, HasTurn, Turns}
use Rattle.slonik_exec.proofs.Downs.{named_fits}
use Rattle.slonik_exec.proofs.Seats.{same_up, known_up}
use Rattle.slonik_exec.proofs.Lifting.{Worked}
use Rattle.slonik_exec.proofs.Seating.{comes_worked}

-- ---- lists

-- an id is among these
pub any_member : (id : ℕ) (xs : List ℕ) → list_any (λ x. x == id) xs ≡ member id xs
any_member id [] = refl
any_member id (x ∷ xs) =
    ap (λ b. b || list_any (λ y. y == id) xs) (nat_eq_equiv.symm x id) ∙ ap (λ b. (id == x) || b) (any_member id xs)

shifted : {X : Type 0} (p : X → Bool) (i : ℕ) (xs : List X) →
    position_from p (i + 1) xs ≡ option_map suc (position_from p i xs)
shifted p i [] = refl
shifted p i (x ∷ xs) = by (p x) (shifted p (i + 1) xs)
  where
    by : (b : Bool) →
        position_from p (i + 1 + 1) xs ≡ option_map suc (position_from p (i + 1) xs) →
        cond b (Some (i + 1)) (position_from p (i + 1 + 1) xs)
        ≡ option_map suc (cond b (Some i) (position_from p (i + 1) xs))
    by true rest = ap (λ n. Some n) (omega arith)
    by false rest = rest

position-cons : {X : Type 0} (p : X → Bool) (x : X) (xs : List X) →
    position p (x ∷ xs) ≡ cond (p x) (Some 0) (option_map suc (position p xs))
position-cons p x xs =
    position_from-zero p (x ∷ xs)
    ∙ ap (λ o. cond (p x) (Some 0) o) (shifted p 0 xs ∙ ap (option_map suc) (sym (position_from-zero p xs)))

-- ---- a name that stands once

apart_from : (one other : List ℕ) (bases : Named Base) (b : Base) → find_named other bases ≡ None →
    find_named one bases ≡ Some b → bytes_eq one other ≡ false
apart_from one other bases b none some = by (bytes_eq one other) refl
  where
    by : (c : Bool) → bytes_eq one other ≡ c → c ≡ false
    by false is = refl
    by true is = let same = ap (λ n. find_named n bases) (bytes_same one other is) in absurd cc

-- The database at an index is the first of its name, and found by it.
pub record IsAlone {K : Type 0} {g : Ghosts K} (kept : K → Kept) (ds : List (NamedDatabase K g)) (i : ℕ)
    (d : NamedDatabase K g) : Type 0 where
  pub at : position (λ x. bytes_eq d.name x.name) ds ≡ Some i
  pub base : find_named d.name (bases_of kept ds) ≡ Some (base_of kept d.database)

pub alone_at : {K : Type 0} {g : Ghosts K} (kept : K → Kept) (ds : List (NamedDatabase K g)) (i : ℕ)
    (d : NamedDatabase K g) → AreDistinct (bases_of kept ds) → i < length ds → IsAlone kept ds i (get_or ds i d)
alone_at kept [] i d distinct inside = absurd (omega (arith, inside))
alone_at kept (x ∷ xs) zero d distinct inside = record {
  at = position-cons (λ y. bytes_eq x.name y.name) x xs
      ∙ ap (λ b. cond b (Some 0) (option_map suc (position (λ y. bytes_eq x.name y.name) xs))) (bytes_itself x.name);
  base = ap (λ b. cond b (Some (base_of kept x.database)) (find_named x.name (bases_of kept xs)))
      (bytes_itself x.name);
}
alone_at kept (x ∷ xs) (suc i) d distinct inside =
    let rest = alone_at kept xs i d distinct.1 (omega (arith, inside)) in
    let name = (get_or xs i d).name in
    let apart = apart_from name x.name (bases_of kept xs) _ distinct.0 rest.base in
    record {
      at = position-cons (λ y. bytes_eq name y.name) x xs
          ∙ ap (λ b. cond b (Some 0) (option_map suc (position (λ y. bytes_eq name y.name) xs))) apart
          ∙ ap (option_map suc) rest.at;
      base = ap (λ b. cond b (Some (base_of kept x.database)) (find_named name (bases_of kept xs))) apart ∙ rest.base;
    }

-- ---- where the node is

-- the database that stands first among those that are the node, with its place
pub record IsFoundAt {K : Type 0} {g : Ghosts K} (kept : K → Kept) (node : ℕ) (ps : Named Place)
    (d : NamedDatabase K g) : Type 0 where
  pub place : Place
  pub first : find (λ e. is_id node (node_id e.1)) ps ≡ Some (d.name, place)
  pub found : find_named d.name ps ≡ Some place
  pub fits : Fits place (base_of kept d.database)

-- the database in front is the node
found_here : {K : Type 0} {g : Ghosts K} (kept : K → Kept) (node : ℕ) (p : List ℕ × Place) (ps : Named Place)
    (d : NamedDatabase K g) → (p.0 ≡ d.name) × Fits p.1 (base_of kept d.database) → is_this node d ≡ true →
    IsFoundAt kept node (p ∷ ps) d
found_here kept node p ps d (name, fits) this = record {
  place = p.1;
  first = ap (λ b. cond b (Some p) (find (λ e. is_id node (node_id e.1)) ps))
      (ap (is_id node) (sym (named_fits p.1 (base_of kept d.database) fits)) ∙ this)
      ∙ ap (λ n. Some (n, p.1)) name;
  found = ap (λ b. cond b (Some p.1) (find_named d.name ps)) (ap (bytes_eq d.name) name ∙ bytes_itself d.name);
  fits = fits;
}

-- or it stands behind it
found_behind : {K : Type 0} {g : Ghosts K} (kept : K → Kept) (node : ℕ) (p : List ℕ × Place) (ps : Named Place)
    (d x : NamedDatabase K g) →
    (p.0 ≡ d.name) × Fits p.1 (base_of kept d.database) × (bytes_eq x.name d.name ≡ false) × (is_this node d ≡ false) →
    IsFoundAt kept node ps x → IsFoundAt kept node (p ∷ ps) x
found_behind kept node p ps d x (name, fits, apart, other) rest = record {
  place = rest.place;
  first = ap (λ b. cond b (Some p) (find (λ e. is_id node (node_id e.1)) ps))
      (ap (is_id node) (sym (named_fits p.1 (base_of kept d.database) fits)) ∙ other) ∙ rest.first;
  found = ap (λ b. cond b (Some p.1) (find_named x.name ps)) (ap (bytes_eq x.name) name ∙ apart) ∙ rest.found;
  fits = rest.fits;
}

-- what an index that is found lies in
pub found_inside : {X : Type 0} (p : X → Bool) (xs : List X) (i : ℕ) (d : X) → position p xs ≡ Some i → i < length xs
found_inside p xs i d at = (position-Some p xs i d at).0

found_at : {K : Type 0} {g : Ghosts K} (kept : K → Kept) (node : ℕ) (ps : Named Place)
    (ds : List (NamedDatabase K g)) (i : ℕ) (d : NamedDatabase K g) →
    FitsAll ps (bases_of kept ds) × AreDistinct (bases_of kept ds) → position (is_this node) ds ≡ Some i →
    IsFoundAt kept node ps (get_or ds i d)
found_at kept node [] [] i d (all, distinct) at = absurd cc
found_at kept node [] (x ∷ xs) i d (all, distinct) at = absurd all
found_at kept node (p ∷ ps) [] i d (all, distinct) at = absurd all
found_at {K} {g} kept node (p ∷ ps) (x ∷ xs) i d (all, distinct) at =
    by (is_this node x) refl (position (is_this node) xs) refl (sym (position-cons (is_this node) x xs) ∙ at)
    (λ j is. found_at kept node ps xs j d (all.2, distinct.1) is)
  where
    by : (b : Bool) → is_this node x ≡ b → (o : Option ℕ) → position (is_this node) xs ≡ o →
        cond b (Some 0) (option_map suc o) ≡ Some i →
        ((j : ℕ) → position (is_this node) xs ≡ Some j → IsFoundAt kept node ps (get_or xs j d)) →
        IsFoundAt kept node (p ∷ ps) (get_or (x ∷ xs) i d)
    by true this o is at rest =
        let zero_is : 0 ≡ i = cc in
        subst (λ k. IsFoundAt kept node (p ∷ ps) (get_or (x ∷ xs) k d)) zero_is
        (found_here kept node p ps x (all.0, all.1) this)
    by false other None is at rest = absurd cc
    by false other (Some j) is at rest =
        let suc_is : suc j ≡ i = cc in
        let alone = alone_at kept xs j d distinct.1 (found_inside (is_this node) xs j d is) in
        let apart = apart_from (get_or xs j d).name x.name (bases_of kept xs) _ distinct.0 alone.base in
        subst (λ k. IsFoundAt kept node (p ∷ ps) (get_or (x ∷ xs) k d)) suc_is
        (found_behind kept node p ps x (get_or xs j d) (all.0, all.1, apart, other) (rest j is))

pub none_at : {K : Type 0} {g : Ghosts K} (kept : K → Kept) (node : ℕ) (ps : Named Place)
    (ds : List (NamedDatabase K g)) → FitsAll ps (bases_of kept ds) → position (is_this node) ds ≡ None →
    find (λ e. is_id node (node_id e.1)) ps ≡ None
none_at kept node [] [] all none = refl
none_at kept node [] (x ∷ xs) all none = absurd all
none_at kept node (p ∷ ps) [] all none = absurd all
none_at kept node (p ∷ ps) (x ∷ xs) all none =
    by (is_this node x) refl (position (is_this node) xs) refl (sym (position-cons (is_this node) x xs) ∙ none)
    (none_at kept node ps xs all.2)
  where
    by : (b : Bool) → is_this node x ≡ b → (o : Option ℕ) → position (is_this node) xs ≡ o →
        cond b (Some 0) (option_map suc o) ≡ None →
        (position (is_this node) xs ≡ None → find (λ e. is_id node (node_id e.1)) ps ≡ None) →
        find (λ e. is_id node (node_id e.1)) (p ∷ ps) ≡ None
    by true this o is at rest = absurd cc
    by false other None is at rest =
        ap (λ b. cond b (Some p) (find (λ e. is_id node (node_id e.1)) ps))
        (ap (is_id node) (sym (named_fits p.1 (base_of kept x.database) all.1)) ∙ other) ∙ rest is
    by false other (Some j) is at rest = absurd cc

-- ---- what its turn comes to

-- no database is the node
pub missed_turn : {K : Type 0} {g : Ghosts K} (kept : K → Kept) (node : ℕ) (started : List ℕ)
    (ds : List (NamedDatabase K g)) → position (is_this node) ds ≡ None →
    HasTurn kept node started ds (Refused (refused.NoNode node))
missed_turn kept node started ds none w all on =
    ap (λ o. bind (seat_at node o) (λ s. checked (when (not (member node w.memory.started)) (refused.Off node) ∷ []) s))
    (none_at kept node w.places ds all none)

-- the turn of the database that is the node
turn_by : (node : ℕ) (w : World) (o : Option (List ℕ × Place)) → at_node node w ≡ o →
    on_turn node w
    ≡ bind (seat_at node o) (λ s. checked (when (not (member node w.memory.started)) (refused.Off node) ∷ []) s)
turn_by node w o is =
    ap (λ o. bind (seat_at node o) (λ s. checked (when (not (member node w.memory.started)) (refused.Off node) ∷ []) s))
    is

-- what stands at an index is one
same_held : {X : Type 0} (xs : List X) (i : ℕ) (x y : X) → i < length xs → x ≡ get_or xs i x → y ≡ get_or xs i y → x ≡ y
same_held xs i x y inside first second = first ∙ get_or_default xs i x y inside ∙ sym second

-- A database at the first index of those that are the node.
pub record Turning {K : Type 0} {g : Ghosts K} (kept : K → Kept) (node : ℕ) (ds : List (NamedDatabase K g)) (i : ℕ)
    (d : NamedDatabase K g) : Type 0 where
  pub at : position (is_this node) ds ≡ Some i
  pub held : d ≡ get_or ds i d
  pub distinct : AreDistinct (bases_of kept ds)

-- which stands there whatever the list is asked with
pub turning : {K : Type 0} {g : Ghosts K} {kept : K → Kept} {node : ℕ} (ds : List (NamedDatabase K g)) (i : ℕ)
    (d : NamedDatabase K g) → position (is_this node) ds ≡ Some i → AreDistinct (bases_of kept ds) →
    Turning kept node ds i (get_or ds i d)
turning {node = node} ds i d at distinct = record {
  at = at;
  held = get_or_default ds i d (get_or ds i d) (found_inside (is_this node) ds i d at);
  distinct = distinct;
}

-- it is a node by its memory
pub is_some_this : {K : Type 0} {g : Ghosts K} {kept : K → Kept} {node : ℕ} {ds : List (NamedDatabase K g)} {i : ℕ}
    {d : NamedDatabase K g} → Turning kept node ds i d → is_some d.database.state.node.identity ≡ true
is_some_this {node = node} {ds} {i} {d} t =
    by d.database.state.node.identity
    (subst (λ x. is_this node x ≡ true) (sym t.held) (position-Some (is_this node) ds i d t.at).1)
  where
    by : (o : Option Identity) → is_id node (option_map (λ i. i.id) o) ≡ true → is_some o ≡ true
    by None this = absurd (false≢true this)
    by (Some own) this = refl

pub turning_at : {K : Type 0} {g : Ghosts K} {kept : K → Kept} {node : ℕ} {ds : List (NamedDatabase K g)} {i : ℕ}
    {d : NamedDatabase K g} (ps : Named Place) → Turning kept node ds i d → FitsAll ps (bases_of kept ds) →
    IsFoundAt kept node ps d
turning_at {kept = kept} {node} {ds} {i} {d} ps t all =
    subst (IsFoundAt kept node ps) (sym t.held) (found_at kept node ps ds i d (all, t.distinct) t.at)

-- it is down
pub down_turn : {K : Type 0} {g : Ghosts K} {kept : K → Kept} {node : ℕ} {ds : List (NamedDatabase K g)} {i : ℕ}
    {d : NamedDatabase K g} (started : List ℕ) → Turning kept node ds i d → d.database.state.up ≡ false →
    HasTurn kept node started ds (Refused (refused.Down d.name))
down_turn {kept = kept} {node} {ds} {i} {d} started t down w all on =
    let f = turning_at w.places t all in
    let e : List ℕ × Place = (d.name, f.place) in
    let running = sym (same_up f.place (base_of kept d.database) f.fits) ∙ down in
    turn_by node w (Some e) f.first
    ∙ ap (λ b. bind (cond b (seat_of (refused.NoNode node) e f.place.node) (Err (refused.Down d.name)))
    (λ s. checked (when (not (member node w.memory.started)) (refused.Off node) ∷ []) s)) running

-- the node of a database that is up
pub node_up : {K : Type 0} {g : Ghosts K} {kept : K → Kept} {node : ℕ} {d : NamedDatabase K g}
    (ps : Named Place) (f : IsFoundAt kept node ps d) → d.database.state.up ≡ true →
    is_some d.database.state.node.identity ≡ true → (n : Node) × (f.place.node ≡ Some n)
node_up {kept = kept} {d = d} ps f up some = by f.place.node refl
  where
    by : (o : Option Node) → f.place.node ≡ o → (n : Node) × (f.place.node ≡ Some n)
    by None none =
        let known = known_up f.place (base_of kept d.database) f.fits
        (sym (same_up f.place (base_of kept d.database) f.fits) ∙ up) in
        absurd (false≢true (sym (ap is_some (known.identity_is ∙ ap identity_of none)) ∙ some))
    by (Some n) is = (n, is)

-- a database that is up and a node, for every one that stands at the index
pub seat_here : {K : Type 0} {g : Ghosts K} {d : NamedDatabase K g} (kept : K → Kept) (ds : List (NamedDatabase K g))
    (i : ℕ) → AreDistinct (bases_of kept ds) → (i < length ds) × (d ≡ get_or ds i d) →
    (d.database.state.up ≡ true) × (is_some d.database.state.node.identity ≡ true) → IsSeatAt ds i
seat_here {d = d} kept ds i distinct (inside, at) (up, some) = (
  inside,
  λ x held. record {
    here = record {
      inside = inside;
      at = subst (λ y. position (λ z. bytes_eq y.name z.name) ds ≡ Some i) (sym held)
          (alone_at kept ds i x distinct inside).at;
      up = λ y there. subst (λ z. z.database.state.up ≡ true) (same_held ds i d y inside at there) up;
    };
    node = λ y there.
        subst (λ z. is_some z.database.state.node.identity ≡ true) (same_held ds i d y inside at there) some;
  },
)

-- so is one that is up and has its turn
pub seat_at_turn : {K : Type 0} {g : Ghosts K} {kept : K → Kept} {node : ℕ} {ds : List (NamedDatabase K g)} {i : ℕ}
    {d : NamedDatabase K g} → Turning kept node ds i d →
    (d.database.state.up ≡ true) × (is_some d.database.state.node.identity ≡ true) → IsSeatHere {g = g} ds (At i)
seat_at_turn {kept = kept} {node} {ds} {i} {d} t seated =
    seat_here kept ds i t.distinct (found_inside (is_this node) ds i d t.at, t.held) seated

-- up to whether its slon is on
up_turn : {K : Type 0} {g : Ghosts K} {kept : K → Kept} {node : ℕ} {d : NamedDatabase K g}
    (started : List ℕ) (on : Bool) (w : World) (f : IsFoundAt kept node w.places d)
    (n : Node) → (f.place.node ≡ Some n) × (d.database.state.up ≡ true) →
    (w.memory.started ≡ started) × (member node started ≡ on) →
    on_turn node w ≡ checked (when (not on) (refused.Off node) ∷ []) (seat d.name f.place n)
up_turn {kept = kept} {node} {d = d} started on w f n (is, up) (same, has) =
    let e : List ℕ × Place = (d.name, f.place) in
    let running = sym (same_up f.place (base_of kept d.database) f.fits) ∙ up in
    let then : Seat → Result Seat Refusal
    = λ s. checked (when (not (member node w.memory.started)) (refused.Off node) ∷ []) s in
    turn_by node w (Some e) f.first
    ∙ ap (λ b. bind (cond b (seat_of (refused.NoNode node) e f.place.node) (Err (refused.Down d.name))) then) running
    ∙ ap (λ o. bind (seat_of (refused.NoNode node) e o) then) is
    ∙ ap (λ b. checked (when (not b) (refused.Off node) ∷ []) (seat d.name f.place n)) (ap (member node) same ∙ has)

-- its slon is off
pub off_turn : {K : Type 0} {g : Ghosts K} {kept : K → Kept} {node : ℕ} {ds : List (NamedDatabase K g)} {i : ℕ}
    {d : NamedDatabase K g} (started : List ℕ) → Turning kept node ds i d →
    (d.database.state.up ≡ true) × (is_some d.database.state.node.identity ≡ true) → member node started ≡ false →
    HasTurn kept node started ds (Refused (refused.Off node))
off_turn started t (up, some) off w all on =
    let f = turning_at w.places t all in
    let own = node_up w.places f up some in
    up_turn started false w f own.0 (own.1, up) (on, off)

-- or on
pub on_turn_at : {K : Type 0} {g : Ghosts K} {kept : K → Kept} {node : ℕ} {ds : List (NamedDatabase K g)} {i : ℕ}
    {d : NamedDatabase K g} (started : List ℕ) → Turning kept node ds i d →
    (d.database.state.up ≡ true) × (is_some d.database.state.node.identity ≡ true) → member node started ≡ true →
    HasTurn kept node started ds (At i)
on_turn_at {kept = kept} {node} {ds} {i} {d} started t (up, some) has w all on x held =
    let f = turning_at w.places t all in
    let own = node_up w.places f up some in
    subst (λ y. SitsOn node w y.name) (same_held ds i d x (found_inside (is_this node) ds i d t.at) t.held held)
    (record {
      place = f.place;
      own = own.0;
      due = up_turn started true w f own.0 (own.1, up) (on, has);
      at = f.first;
      found = f.found;
      running = sym (same_up f.place (base_of kept d.database) f.fits) ∙ up;
      is = own.1;
    })

-- ---- on all databases

-- a turn that is refused before it begins
pub turns_refused : {K : Type 0} {g : Ghosts K} (kept : K → Kept) (node : ℕ) (started : List ℕ)
    (ds : List (NamedDatabase K g)) (refusal : Refusal) (does : Seat → Result Stated Refusal) →
    (told_by (replied.Refused refusal) ≡ None) × HasTurn kept node started ds (Refused refusal) →
    Turns node started (λ w. bind (on_turn node w) does) (bases_of kept ds) (replied.Refused refusal) (bases_of kept ds)
turns_refused kept node started ds refusal does (quiet, turns) w ready on = record {
  comes = Refuses refusal (ap (λ r. bind r does) (turns w ready.fits on)) refl ready.fits;
  own = λ name halt told. let none = quiet in absurd cc;
}

-- what a database that has its turn comes to is what the turn comes to
pub turns_worked : {K : Type 0} {g : Ghosts K} {node : ℕ} {started : List ℕ} {ds : List (NamedDatabase K g)} {i : ℕ}
    {x y : NamedDatabase K g} (kept : K → Kept) (does : Seat → Result Stated Refusal)
    (reply : Reply) → Worked (named_base kept) x.name ds i x y → HasTurn kept node started ds (At i) →
    Answers x.name (base_of kept x.database) reply (base_of kept y.database) ×
    AtNode x.name does (base_of kept x.database) reply (base_of kept y.database) →
    Turns node started (λ w. bind (on_turn node w) does) (bases_of kept ds) reply (bases_of kept (set ds i y))
turns_worked {node = node} {ds = ds} {i} {x} {y} kept does reply at turns (answers, comes) w ready on =
    let sits = turns w ready.fits on x at.is.held in
    record {
      comes = subst (λ due. Comes w due reply (bases_of kept (set ds i y))) (sym (ap (λ r. bind r does) sits.due))
          (comes_worked does at ready
          (record { found = sits.found; running = sits.running; fits = ready.fits }) sits.is comes);
      own = λ name halt told.
          ap (is_of name) sits.at ∙ ap (bytes_eq name) (sym (answers.own name halt told)) ∙ bytes_itself name;
    }

pub turns_if : {E K : Type 0} {g : Ghosts K} {node : ℕ} {started : List ℕ} {ds : List (NamedDatabase K g)} {i : ℕ}
    {x y : NamedDatabase K g} (kept : K → Kept) (does : Seat → Result Stated Refusal)
    (r : Result Reply E) → Worked (named_base kept) x.name ds i x y → HasTurn kept node started ds (At i) →
    IfOk r (λ reply. Answers x.name (base_of kept x.database) reply (base_of kept y.database)) ×
    IfOk r (λ reply. AtNode x.name does (base_of kept x.database) reply (base_of kept y.database)) →
    IfOk r (λ reply. Turns node started (λ w. bind (on_turn node w) does) (bases_of kept ds) reply
    (bases_of kept (set ds i y)))
turns_if kept does (Ok reply) at turns both = turns_worked kept does reply at turns both
turns_if kept does (Err e) at turns both = tt
