-- What STORE NODE comes to: each way on which it is refused, and the join at two places.
use Rattle.std.proofs.Common.{◌≡◌, ◌∙◌, ℕ, ◌||◌, Bool, true, false, cond, List, [], ◌∷◌, map, get_or, set, Option, Some}
use Rattle.std.proofs.Common.{None, Result, Ok, Err, is_some, refl, sym, ap, subst}
use Rattle.std.proofs.lemmas.Bool.{false≢true, false_from_ne_true}
use Rattle.std.specs.List.{position}
use Rattle.std.specs.Option.{option_map}
use Rattle.std.specs.Str.{bytes_eq}
use Rattle.slon_base.specs.Keeper.{Kept}
use Rattle.slon_base.specs.declared.keeper.Keeper.{Ghosts}
use Rattle.slon_model.specs.declared.reply.Refusal.{Refusal}
use Rattle.slon_model.specs.declared.reply.Refusal.TheVariants as refused
use Rattle.slon_model.specs.declared.reply.Reply.{Reply}
use Rattle.slon_model.specs.declared.reply.Reply.TheVariants.{Refused}
use Rattle.slon_model.specs.Names.{Named, find_named, put_named}
use Rattle.slon_model.specs.Maps.{entry_at}
use Rattle.slon_model.specs.Config.{Config}
use Rattle.slon_model.specs.Deeds.{Node, knowledge}
use Rattle.slon_model.specs.Place.{Place, node_id}
use Rattle.slon_model.specs.Sessions.{World, Running, Stated, Seat, seat, bind, when, checked, first_refusal}
use Rattle.slon_model.specs.Sessions.{unless_refused}
use Rattle.slon_model.specs.Reaching.{database_of_line, reach, any_down, known_somewhere}
use Rattle.slon_model.specs.Membership.{already, stored_by, store_node}
use Rattle.slon_model.proofs.Names.{bytes_same}
use Rattle.node_state.specs.declared.memory.Identity.{Identity}
use Rattle.node_state.specs.Known.{identity_of}
use Rattle.node_state.proofs.Learning.{plain_learns}
use Rattle.app_store.specs.Base.{Base, base_of}
use Rattle.app_store.specs.Fits.{Fits, Ready}
use Rattle.node_store.specs.Acting.{own_id}
use Rattle.node_store.specs.Joining.{Pair, Joiner, Stage, IsReady, joiner}
use Rattle.slonik_exec.specs.declared.databases.Named.{Named as NamedDatabase}
use Rattle.slonik_exec.specs.declared.membership.Spots.{Spots}
use Rattle.slonik_exec.specs.Databases.{FitsAll, AreReady, Runs, bases_of, named_base}
use Rattle.slonik_exec.specs.Executing.{Comes, Refuses}
use Rattle.slonik_exec.specs.Reached.{SitsAt, OnLine}
use Rattle.slonik_exec.specs.Stored.{PairNames, Couple, JoinsTold, couple_of, pair_of, AreJoinable, JoinedAt}
use Rattle.slonik_exec.proofs.Lists.{find_position, put_position, put_at, is_first, ready_at}
use Rattle.slonik_exec.proofs.Seats.{known_up, name_here}
use Rattle.slonik_exec.proofs.Downs.{named_fits}
use Rattle.slonik_exec.proofs.Hearing.{somewhere, somewhere_by}
use Rattle.slonik_exec.proofs.Free.{apart_names}
use Rattle.slonik_exec.proofs.Couples.{TwoNamed, put_both, runs_joined, names_set, first_set}
use Rattle.slonik_exec.proofs.Joins.{Scene, comes_joined}

-- ---- what is due

-- What a statement STORE NODE says.
pub record Order : Type 0 where
  pub id : ℕ
  pub event_node : ℕ
  pub comment : List ℕ

abbrev pub is_known : Order → Config → Bool
is_known o c = is_some (entry_at o.id c.nodes)

abbrev pub due_of : Order → Running → World → Result Stated Refusal
due_of o run w = store_node o.id o.event_node (Some o.comment) run w

abbrev checks_of : Order → World → Place → List (Option Refusal)
checks_of o w q = already (node_id q) ∷ any_down w ∷ when (known_somewhere (is_known o) w) (refused.IdUsed o.id) ∷ []

-- behind the event node, and behind the database of the new one
abbrev line_due : Order → Running → World → Seat → Result (List ℕ × Place) Refusal → Result Stated Refusal
line_due o run w s r = bind r (λ e. checked (checks_of o w e.1) (stored_by s e.0 o.id o.comment run))

abbrev seat_due : Order → Running → World → Result Seat Refusal → Result Stated Refusal
seat_due o run w r = bind r (λ s. line_due o run w s (database_of_line run o.id w))

-- both databases were found under these names
pub record Led (o : Order) (run : Running) (w : World) (a b : List ℕ) : Type 0 where
  pub seat : SitsAt run o.event_node w a
  pub line : OnLine run o.id w b

due_led : (o : Order) (run : Running) (w : World) (a b : List ℕ) (l : Led o run w a b) →
    due_of o run w ≡ checked (checks_of o w l.line.place)
    (stored_by (seat a l.seat.place l.seat.node) b o.id o.comment run)
due_led o run w a b l =
    ap (seat_due o run w) l.seat.due ∙ ap (line_due o run w (seat a l.seat.place l.seat.node)) l.line.due

-- ---- refusals

-- the event node is not reached
pub seat_refused : (o : Order) (w : World) (run : Running) (refusal : Refusal) (news : Named Base) →
    reach run o.event_node w ≡ Err refusal → FitsAll w.places news → Comes w (due_of o run w) (Refused refusal) news
seat_refused o w run refusal news is fits = Refuses refusal (ap (seat_due o run w) is) refl fits

-- the database of the new one is not reached
pub line_refused : (o : Order) (w : World) (run : Running) (a : List ℕ) (refusal : Refusal) (news : Named Base) →
    SitsAt run o.event_node w a × (database_of_line run o.id w ≡ Err refusal) → FitsAll w.places news →
    Comes w (due_of o run w) (Refused refusal) news
line_refused o w run a refusal news (sits, is) fits =
    Refuses refusal (ap (seat_due o run w) sits.due ∙ ap (line_due o run w (seat a sits.place sits.node)) is) refl fits

-- a check refuses it
pub led_refused : (o : Order) (w : World) (run : Running) (a b : List ℕ) (refusal : Refusal) (news : Named Base) →
    ((l : Led o run w a b) × (first_refusal (checks_of o w l.line.place) ≡ Some refusal)) × FitsAll w.places news →
    Comes w (due_of o run w) (Refused refusal) news
led_refused o w run a b refusal news ((l, is), fits) =
    Refuses refusal (due_led o run w a b l
    ∙ ap (λ x. unless_refused x (stored_by (seat a l.seat.place l.seat.node) b o.id o.comment run)) is) refl fits

pub is_node_refused : (o : Order) (w : World) (q : Place) (node : ℕ) → node_id q ≡ Some node →
    first_refusal (checks_of o w q) ≡ Some (refused.AlreadyNode node)
is_node_refused o w q node is =
    ap (λ n. first_refusal (already n ∷ any_down w ∷ when (known_somewhere (is_known o) w) (refused.IdUsed o.id) ∷ []))
    is

pub is_down_refused : (o : Order) (w : World) (q : Place) (refusal : Refusal) → node_id q ≡ None →
    any_down w ≡ Some refusal → first_refusal (checks_of o w q) ≡ Some refusal
is_down_refused o w q refusal none down =
    ap (λ n. first_refusal (already n ∷ any_down w ∷ when (known_somewhere (is_known o) w) (refused.IdUsed o.id) ∷ []))
    none
    ∙ ap (λ d. first_refusal (d ∷ when (known_somewhere (is_known o) w) (refused.IdUsed o.id) ∷ [])) down

known_checks : (o : Order) (w : World) (q : Place) (known : Bool) → node_id q ≡ None → any_down w ≡ None →
    known ≡ known_somewhere (is_known o) w →
    first_refusal (checks_of o w q) ≡ first_refusal (when known (refused.IdUsed o.id) ∷ [])
known_checks o w q known none awake is =
    ap (λ n. first_refusal (already n ∷ any_down w ∷ when (known_somewhere (is_known o) w) (refused.IdUsed o.id) ∷ []))
    none
    ∙ ap (λ d. first_refusal (d ∷ when (known_somewhere (is_known o) w) (refused.IdUsed o.id) ∷ [])) awake
    ∙ ap (λ k. first_refusal (when k (refused.IdUsed o.id) ∷ [])) (sym is)

pub is_used_refused : (o : Order) (w : World) (q : Place) → node_id q ≡ None → any_down w ≡ None →
    true ≡ known_somewhere (is_known o) w → first_refusal (checks_of o w q) ≡ Some (refused.IdUsed o.id)
is_used_refused o w q none awake is = known_checks o w q true none awake is

-- no check does
due_passed : {o : Order} {run : Running} {w : World} {a b : List ℕ} (l : Led o run w a b) →
    node_id l.line.place ≡ None → any_down w ≡ None → false ≡ known_somewhere (is_known o) w →
    due_of o run w ≡ Ok (stored_by (seat a l.seat.place l.seat.node) b o.id o.comment run)
due_passed {o} {run} {w} {a} {b} l none awake is =
    due_led o run w a b l
    ∙ ap (λ x. unless_refused x (stored_by (seat a l.seat.place l.seat.node) b o.id o.comment run))
    (known_checks o w l.line.place false none awake is)

-- ---- the node of a place

pub id_at : (p : Place) (b : Base) → Fits p b → node_id p ≡ option_map (λ i. i.id) b.memory.identity
id_at p b fits = sym (named_fits p b fits)

free_id : (p : Place) (b : Base) (found : Option Identity) → b.memory.identity ≡ found → Fits p b →
    is_some found ≡ false → node_id p ≡ None
free_id p b None is fits none = id_at p b fits ∙ ap (λ (o : Option Identity). option_map (λ i. i.id) o) is
free_id p b (Some own) is fits none = absurd (false≢true (sym none))

pub no_id : (p : Place) (b : Base) → Fits p b → is_some b.memory.identity ≡ false → node_id p ≡ None
no_id p b fits none = free_id p b b.memory.identity refl fits none

pub no_node : (p : Place) (found : Option Node) → p.node ≡ found → node_id p ≡ None → found ≡ None
no_node p None is none = refl
no_node p (Some n) is none =
    let some : node_id p ≡ Some n.id = ap (λ o. node_id (record p { node = o })) is in
    absurd cc

-- the node of a name knows nothing that no node knows
node_knows : (test : Config → Bool) (name : List ℕ) (p : Place) (n : Node) (places : Named Place) →
    somewhere test places ≡ false → find_named name places ≡ Some p → p.node ≡ Some n →
    test (knowledge n).config ≡ false
node_knows test name p n [] none found is = absurd cc
node_knows test name p n (e ∷ es) none found is =
    by (bytes_eq name e.0) found e.1.node refl (λ rest later. node_knows test name p n es rest later is)
  where
    parts : (a b : Bool) → (a || b) ≡ false → (a ≡ false) × (b ≡ false)
    parts false false is = (refl, refl)
    parts true b is = absurd cc
    parts false true is = absurd cc

    rest_none : (found : Option Node) → e.1.node ≡ found → somewhere test es ≡ false
    rest_none None at = sym (somewhere_by test None e es at) ∙ none
    rest_none (Some m) at =
        (parts (test (knowledge m).config) (somewhere test es) (sym (somewhere_by test (Some m) e es at) ∙ none)).1

    by : (b : Bool) → cond b (Some e.1) (find_named name es) ≡ Some p → (held : Option Node) → e.1.node ≡ held →
        (somewhere test es ≡ false → find_named name es ≡ Some p → test (knowledge n).config ≡ false) →
        test (knowledge n).config ≡ false
    by true at held at_node later =
        let same : e.1 ≡ p = cc in
        let own : e.1.node ≡ Some n = ap (λ x. x.node) same ∙ is in
        (parts (test (knowledge n).config) (somewhere test es) (sym (somewhere_by test (Some n) e es own) ∙ none)).0
    by false at held at_node later = later (rest_none held at_node) at

-- ---- at two places

-- both databases under the names of their NODE lines
pub record MetAt {K : Type 0} {g : Ghosts K} (databases : List (NamedDatabase K g)) (at : Spots) : Type 0 where
  pub names : PairNames
  pub from : position (λ d. bytes_eq names.from d.name) databases ≡ Some at.from
  pub to : position (λ d. bytes_eq names.to d.name) databases ≡ Some at.to
  pub joinable : AreJoinable databases at

-- what the join is of all bases
pub record Whole {K : Type 0} {g : Ghosts K} (kept : K → Kept) (olds news : List (NamedDatabase K g))
    (names : PairNames) (c : Couple) (new : Pair) : Type 0 where
  pub two : TwoNamed (bases_of kept olds) c
  pub from : names.from ≡ c.names.from
  pub to : names.to ≡ c.names.to
  pub is : bases_of kept news ≡ put_both c.names new (bases_of kept olds)

named_held : {K : Type 0} {g : Ghosts K} (kept : K → Kept) (databases : List (NamedDatabase K g)) (i : ℕ)
    (name : List ℕ) (d : NamedDatabase K g) → position (λ d. bytes_eq name d.name) databases ≡ Some i →
    d ≡ get_or databases i d → name ≡ d.name
named_held {K} {g} kept databases i name d at held =
    name_here kept databases i name d at ∙ sym (ap (λ (x : NamedDatabase K g). x.name) held)

-- Two databases at two places are others, under their names.
pub record ChangedAt {K : Type 0} {g : Ghosts K} (at : Spots) (olds news : List (NamedDatabase K g)) : Type 0 where
  pub from_old : NamedDatabase K g
  pub from_new : NamedDatabase K g
  pub to_old : NamedDatabase K g
  pub to_new : NamedDatabase K g
  pub from_held : from_old ≡ get_or olds at.from from_old
  pub to_held : to_old ≡ get_or olds at.to to_old
  pub from_name : from_new.name ≡ from_old.name
  pub to_name : to_new.name ≡ to_old.name
  pub is : news ≡ set (set olds at.from from_new) at.to to_new

put_two : {K : Type 0} {g : Ghosts K} (kept : K → Kept) (at : Spots) (olds news : List (NamedDatabase K g))
    (joined : ChangedAt {g = g} at olds news) →
    (position (λ d. bytes_eq joined.from_old.name d.name) olds ≡ Some at.from)
    × (position (λ d. bytes_eq joined.to_old.name d.name) olds ≡ Some at.to) →
    bases_of {g = g} kept news
    ≡ put_named joined.to_old.name (base_of kept joined.to_new.database)
    (put_named joined.from_old.name (base_of kept joined.from_new.database) (bases_of kept olds))
put_two {K} {g} kept at olds news joined (first, second) =
    let f = named_base {g = g} kept in
    let x = joined.from_new in
    let y = joined.to_new in
    let d = joined.to_old in
    let e = joined.from_old in
    let same : x.name ≡ (get_or olds at.from d).name
    = joined.from_name ∙ named_held kept olds at.from e.name e first joined.from_held
    ∙ sym (named_held kept olds at.from e.name e first joined.from_held)
    ∙ name_here kept olds at.from e.name d first in
    let here = first_set f d.name d x olds at.from at.to (same, is_first f d.name d olds at.to second) in
    ap (map f) joined.is
    ∙ put_at f d.name d y (set olds at.from x) at.to (
      here,
      joined.to_name ∙ name_here kept olds at.to d.name d second ∙ sym (names_set f d x olds at.from at.to same),
    )
    ∙ ap (put_named d.name (f y).1)
    (put_position f e.name olds at.from e x (record { at = first; held = joined.from_held }, joined.from_name))

-- Names stand first at two places, which differ.
pub record NamesAt {K : Type 0} {g : Ghosts K} (databases : List (NamedDatabase K g)) (at : Spots) : Type 0 where
  pub names : PairNames
  pub from : position (λ d. bytes_eq names.from d.name) databases ≡ Some at.from
  pub to : position (λ d. bytes_eq names.to d.name) databases ≡ Some at.to
  pub apart : at.from ≡ at.to → ⊥

pub whole_at : {K : Type 0} {g : Ghosts K} (kept : K → Kept) (at : Spots) (olds news : List (NamedDatabase K g))
    (joined : ChangedAt {g = g} at olds news) (met : NamesAt {g = g} olds at) →
    Whole kept olds news met.names (couple_of kept joined.from_old joined.to_old)
    (pair_of kept joined.from_new joined.to_new)
whole_at {K} {g} kept at olds news joined met =
    let f = named_base {g = g} kept in
    let e = joined.from_old in
    let d = joined.to_old in
    let a_is = named_held kept olds at.from met.names.from e met.from joined.from_held in
    let b_is = named_held kept olds at.to met.names.to d met.to joined.to_held in
    let place : List ℕ → Option ℕ = λ n. position (λ (x : NamedDatabase K g). bytes_eq n x.name) olds in
    let first = subst (λ n. place n ≡ Some at.from) a_is met.from in
    let second = subst (λ n. place n ≡ Some at.to) b_is met.to in
    record {
      two = record {
        from = find_position f e.name olds at.from e (record { at = first; held = joined.from_held });
        to = find_position f d.name olds at.to d (record { at = second; held = joined.to_held });
        apart = false_from_ne_true (bytes_eq e.name d.name) (λ same. met.apart
            (apart_names olds e.name d.name at.from at.to first second (bytes_same e.name d.name same)));
      };
      from = a_is;
      to = b_is;
      is = put_two kept at olds news joined (first, second);
    }

pub whole : {K : Type 0} {g : Ghosts K} (kept : K → Kept) (j : Joiner) (at : Spots) (olds : List (NamedDatabase K g))
    (reply : Reply) (news : List (NamedDatabase K g)) (joined : JoinedAt kept j at olds reply news)
    (met : MetAt olds at) →
    Whole kept olds news met.names (couple_of kept joined.from_old joined.to_old)
    (pair_of kept joined.from_new joined.to_new)
whole {K} {g} kept j at olds reply news joined met =
    whole_at {g = g} kept at olds news (record {
      from_old = joined.from_old;
      from_new = joined.from_new;
      to_old = joined.to_old;
      to_new = joined.to_new;
      from_held = joined.from_held;
      to_held = joined.to_held;
      from_name = joined.from_name;
      to_name = joined.to_name;
      is = joined.is;
    }) (record { names = met.names; from = met.from; to = met.to; apart = met.joinable.apart })

-- over every store
pub runs_stored : {K : Type 0} {g : Ghosts K} (kept : K → Kept) (j : Joiner) (at : Spots)
    (olds : List (NamedDatabase K g)) (reply : Reply) (news : List (NamedDatabase K g)) →
    JoinedAt kept j at olds reply news → MetAt olds at → Runs (bases_of kept olds) reply (bases_of kept news)
runs_stored kept j at olds reply news joined met =
    let all = whole kept j at olds reply news joined met in
    subst (Runs (bases_of kept olds) reply) (sym all.is)
    (runs_joined j (bases_of kept olds) (couple_of kept joined.from_old joined.to_old) reply
    (pair_of kept joined.from_new joined.to_new) all.two joined.told)

-- ---- by the rules

-- Two databases that agree with the rules, and that no check refuses.
pub record IsLed (o : Order) (run : Running) (w : World) (bases : Named Base) (c : Couple) : Type 0 where
  pub ready : AreReady w bases
  pub two : TwoNamed bases c
  pub led : Led o run w c.names.from c.names.to
  pub free : is_some c.bases.to.memory.identity ≡ false
  pub awake : any_down w ≡ None
  pub unknown : false ≡ known_somewhere (is_known o) w

abbrev stage_of : {o : Order} {run : Running} {w : World} {bases : Named Base} {c : Couple} → IsLed o run w bases c →
    Stage
stage_of {run = run} {c = c} l =
    record {
      from = l.led.seat.place;
      to = l.led.line.place;
      node = l.led.seat.node;
      from_name = c.names.from;
      to_name = c.names.to;
      run = run;
    }

pub ready_here : (name : List ℕ) (b : Base) (w : World) (bases : Named Base) (p : Place) → AreReady w bases →
    find_named name bases ≡ Some b → find_named name w.places ≡ Some p → Ready p b
ready_here name b w bases p ready held found =
    let at = ready_at name b w bases ready held in
    let same : at.place ≡ p = cc (at.found, found) in
    subst (λ q. Ready q b) same at.ready

scene_of : {o : Order} {run : Running} {w : World} {bases : Named Base} {c : Couple} (l : IsLed o run w bases c) →
    Scene w bases (stage_of l)
scene_of l = record {
  fits = l.ready.fits;
  from = l.led.seat.found;
  to = l.led.line.found;
  apart = l.two.apart;
  from_up = l.led.seat.running;
  to_up = l.led.line.running;
}

ready_led : {o : Order} {run : Running} {w : World} {bases : Named Base} {c : Couple} (l : IsLed o run w bases c) →
    IsReady (joiner o.id o.comment) (stage_of l) c.bases
ready_led {o} {run} {w} {bases} {c} l =
    let sits = l.led.seat in
    let line = l.led.line in
    let from = ready_here c.names.from c.bases.from w bases sits.place l.ready l.two.from sits.found in
    let to = ready_here c.names.to c.bases.to w bases line.place l.ready l.two.to line.found in
    record {
      from = from;
      to = to;
      is = sits.is;
      none = no_node line.place line.place.node refl (no_id line.place c.bases.to to.fits l.free);
      cluster = sym sits.cluster;
      learns = plain_learns _ _ refl;
      fresh = node_knows (is_known o) c.names.from sits.place sits.node w.places (sym l.unknown) sits.found sits.is;
    }

own_led : {o : Order} {run : Running} {w : World} {bases : Named Base} {c : Couple} (l : IsLed o run w bases c) →
    own_id c.bases.from.memory.identity ≡ l.led.seat.node.id
own_led {o} {run} {w} {bases} {c} l =
    let sits = l.led.seat in
    let from = ready_here c.names.from c.bases.from w bases sits.place l.ready l.two.from sits.found in
    ap own_id ((known_up sits.place c.bases.from from.fits sits.running).identity_is ∙ ap identity_of sits.is)

comes_led : (o : Order) (run : Running) (w : World) (bases : Named Base) (c : Couple) (reply : Reply) (new : Pair) →
    IsLed o run w bases c × JoinsTold (joiner o.id o.comment) c reply new →
    Comes w (due_of o run w) reply (put_both c.names new bases)
comes_led o run w bases c reply new (l, told) =
    let line = l.led.line in
    let to = ready_here c.names.to c.bases.to w bases line.place l.ready l.two.to line.found in
    subst (λ due. Comes w due reply (put_both c.names new bases))
    (sym (due_passed l.led (no_id line.place c.bases.to to.fits l.free) l.awake l.unknown))
    (comes_joined w bases (joiner o.id o.comment) (stage_of l) c.bases new reply
    (scene_of l, ready_led l, own_led l, told))

-- What is known of the databases before a join, at this place of the code.
pub record IsMet {K : Type 0} {g : Ghosts K} (kept : K → Kept) (o : Order) (run : Running) (w : World)
    (olds : List (NamedDatabase K g)) (at : Spots) : Type 0 where
  pub met : MetAt olds at
  pub ready : AreReady w (bases_of kept olds)
  pub led : Led o run w met.names.from met.names.to
  pub awake : any_down w ≡ None
  pub unknown : false ≡ known_somewhere (is_known o) w

pub comes_stored : {K : Type 0} {g : Ghosts K} (kept : K → Kept) (o : Order) (at : Spots)
    (olds : List (NamedDatabase K g)) (reply : Reply) (news : List (NamedDatabase K g)) →
    JoinedAt kept (joiner o.id o.comment) at olds reply news →
    {run : Running} {w : World} → IsMet kept o run w olds at → Comes w (due_of o run w) reply (bases_of kept news)
comes_stored kept o at olds reply news joined {run} {w} is =
    let c = couple_of kept joined.from_old joined.to_old in
    let all = whole kept (joiner o.id o.comment) at olds reply news joined is.met in
    subst (Comes w (due_of o run w) reply) (sym all.is)
    (comes_led o run w (bases_of kept olds) c reply (pair_of kept joined.from_new joined.to_new) (
      record {
        ready = is.ready;
        two = all.two;
        led = subst (λ n. Led o run w c.names.from n) all.to
            (subst (λ n. Led o run w n is.met.names.to) all.from is.led);
        free = is.met.joinable.free joined.to_old joined.to_held;
        awake = is.awake;
        unknown = is.unknown;
      },
      joined.told,
    ))
