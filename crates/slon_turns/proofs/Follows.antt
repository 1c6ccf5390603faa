-- What a node reads of sets with one provider, at its own database and at that of the provider.
use Rattle.std.proofs.Common.{◌≡◌, ◌∙◌, ◌<◌, ◌||◌, ℕ, zero, suc, nat_lt, Bool, true, false, cond, not, List, [], ◌∷◌}
use Rattle.std.proofs.Common.{length, get_or, set, Option, Some, None, Result, Ok, Err, refl, sym, ap, subst, arith}
use Rattle.std.proofs.Common.{is_some}
use Rattle.std.proofs.lemmas.List.{get_or_default}
use Rattle.std.specs.Str.{bytes_eq}
use Rattle.slon_base.specs.Keeper.{Kept as KeptStore}
use Rattle.slon_base.specs.declared.keeper.Keeper.{Ghosts}
use Rattle.slon_model.specs.declared.reply.Refusal.{Refusal}
use Rattle.slon_model.specs.declared.reply.Refusal.TheVariants as refused
use Rattle.slon_model.specs.declared.reply.Reply.{Reply}
use Rattle.slon_model.specs.Config.{is_known}
use Rattle.slon_model.specs.Deeds.{Node, knowledge, progress}
use Rattle.slon_model.specs.Events.{Event}
use Rattle.slon_model.specs.Following.{SetSync}
use Rattle.slon_model.specs.Logs.{logged}
use Rattle.slon_model.specs.Names.{Named, put_named}
use Rattle.slon_model.specs.Place.{Place, fallen, is_running}
use Rattle.slon_model.specs.Sessions.{World, Memory, Seat, bind, checked, first_refusal, seat, seat_of}
use Rattle.slon_model.specs.Sessions.{unless_refused, when}
use Rattle.slon_model.specs.Turns.{seat_at}
use Rattle.slon_model.specs.Working.{progress_in}
use Rattle.slon_model.specs.World.{CanFail, broken_at, is_of, is_of_one}
use Rattle.slon_model.proofs.Names.{bytes_itself}
use Rattle.app_store.specs.Base.{Base, base_of}
use Rattle.node_store.proofs.Chaining.{acts_then}
use Rattle.remote_worker.specs.declared.loading.SetFetch.{SetFetch}
use Rattle.remote_worker.specs.Fetching.{is_loud, provider_checks}
use Rattle.remote_worker.specs.Running.{taken_run}
use Rattle.slonik_exec.specs.declared.databases.Named.{Named as NamedDatabase}
use Rattle.slonik_exec.specs.declared.reaching.Reached.TheVariants.{At}
use Rattle.slonik_exec.specs.Answering.{BrokenAt, EndsAt, RefusedAt}
use Rattle.slonik_exec.specs.Databases.{FitsAll, bases_of}
use Rattle.slonik_exec.specs.Heard.{AreDistinct, AreSame}
use Rattle.slonik_exec.specs.Turning.{IsSeatHere}
use Rattle.slonik_exec.proofs.Hearing.{same_itself, same_put}
use Rattle.slonik_exec.proofs.Lifting.{Sits, put_worked, still_all}
use Rattle.slonik_exec.proofs.Lists.{fits_put}
use Rattle.slonik_exec.proofs.Seated.{seat_here}
use Rattle.slonik_exec.proofs.Works.{Checked, answers_then, ready_still}
use Rattle.slon_turns.specs.declared.following.Looked.{Looked as Taken}
use Rattle.slon_turns.specs.declared.following.Looked.TheVariants.{Told, Gives}
use Rattle.slon_turns.specs.Applying.{provided_in}
use Rattle.slon_turns.specs.Following.{BrokenSo, EndsLook, GivesAt, Group, Reader, RefusedSo, TakesAt}
use Rattle.slon_turns.specs.Planning.{link_checks}
use Rattle.slon_turns.proofs.Mids.{LookedAt, found_here, worked_here}

-- ---- at the provider

abbrev pub Due : Reader → Group → Seat → List (Option Refusal)
Due r k s = provider_checks r.node k.first.provider r.event s.node

-- where nothing is checked the store failed
ends_any : {name : List ℕ} {p : Place} {reply : Reply} {new : Base} (checks : List (Option Refusal)) →
    EndsAt name p [] reply new → EndsAt name p checks reply new
ends_any checks (RefusedAt refusal first is fits) = absurd cc
ends_any checks (BrokenAt count is rose fits) = BrokenAt count is rose fits

-- it can be read, and gives what it has logged, or its store fails
pub takes_behind : {name : List ℕ} {old mid : Base} (r : Reader) (k : Group) (new : Base)
    (given : Taken (List SetFetch)) →
    Checked name (Due r k) old None mid → GivesAt r.event r.known k name mid given new → TakesAt r k name old given new
takes_behind {name} r k new (Told reply) first gives = (
  answers_then first.checks.0 gives.0,
  λ p n ready is past.
      let here = first.refuses p n ready is in
      ends_any (Due r k (seat name p n)) (gives.1 p n (ready_still ready here.1) is past),
)
takes_behind r k new (Gives fetches) first gives = (
  (acts_then None _ _ _ first.checks.0 gives.0.0, gives.0.1 ∙ first.checks.1),
  λ p n ready is past.
      let here = first.refuses p n ready is in
      let given = gives.1 p n (ready_still ready here.1) is past in (here.0, given.1, given.0),
)

-- ---- what is due of sets

-- where the provider is found so
abbrev pub kept_due : Memory → Seat → Event → Group → Option (List ℕ × Place) → Result (List SetSync) Refusal
kept_due m s e k found = bind (provided_in k.first.provider m s e found) (λ p. Ok (taken_run e (logged p.node) k.all))

-- 62, 63
abbrev known_at : ℕ → ℕ → Event → Seat → Result Seat Refusal
known_at own provider e p =
    checked (when (not (is_known own p.known.config)) (refused.NotKnown own)
    ∷ when (nat_lt (progress_in e p) e.number) (refused.Behind provider (progress_in e p) e.number) ∷ []) p

abbrev seated_kept : Seat → Event → Group → Result Seat Refusal → Result (List SetSync) Refusal
seated_kept s e k seated =
    bind (bind seated (known_at s.node.id k.first.provider e)) (λ p. Ok (taken_run e (logged p.node) k.all))

abbrev linked_kept : Seat → Event → Group → Option (List ℕ × Place) → Option Refusal → Result (List SetSync) Refusal
linked_kept s e k found refusal =
    seated_kept s e k (bind (unless_refused refusal found) (λ f. seat_at k.first.provider f))

-- What is asked for at a seat, and whether the provider can be reached.
pub record Asking : Type 0 where
  pub memory : Memory
  pub seat : Seat
  pub event : Event
  pub sets : Group

abbrev pub link_of : Asking → List (Option Refusal)
link_of a = link_checks a.seat.node.id a.sets.first.provider a.memory.cuts a.seat

abbrev pub due_of : Asking → Option (List ℕ × Place) → Result (List SetSync) Refusal
due_of a found = kept_due a.memory a.seat a.event a.sets found

pub kept_refused : (a : Asking) (found : Option (List ℕ × Place)) (refusal : Refusal) →
    first_refusal (link_of a) ≡ Some refusal → due_of a found ≡ Err refusal
kept_refused a found refusal first = ap (linked_kept a.seat a.event a.sets found) first

-- no database is the provider
pub kept_missed : (a : Asking) (found : Option (List ℕ × Place)) → first_refusal (link_of a) ≡ None → found ≡ None →
    due_of a found ≡ Err (refused.NoNode a.sets.first.provider)
kept_missed a found none is =
    ap (linked_kept a.seat a.event a.sets found) none
    ∙ ap (λ f. seated_kept a.seat a.event a.sets (seat_at a.sets.first.provider f)) is

-- it is down
pub kept_down : (a : Asking) (found : Option (List ℕ × Place)) (at : List ℕ × Place) →
    first_refusal (link_of a) ≡ None → found ≡ Some at → is_running at.1.standing ≡ false →
    due_of a found ≡ Err (refused.Down at.0)
kept_down a found at none is down =
    ap (linked_kept a.seat a.event a.sets found) none
    ∙ ap (λ f. seated_kept a.seat a.event a.sets (seat_at a.sets.first.provider f)) is
    ∙ ap (λ b. seated_kept a.seat a.event a.sets
    (cond b (seat_of (refused.NoNode a.sets.first.provider) at at.1.node) (Err (refused.Down at.0)))) down

-- it is up, and this node
abbrev pub kept_by : Asking → Seat → Option Refusal → Result (List SetSync) Refusal
kept_by a p refusal =
    bind (unless_refused refusal p) (λ q. Ok (taken_run a.event (logged q.node) a.sets.all))

pub kept_reached : (a : Asking) (found : Option (List ℕ × Place)) (at : List ℕ × Place) (n : Node) →
    first_refusal (link_of a) ≡ None → found ≡ Some at → (is_running at.1.standing ≡ true) × (at.1.node ≡ Some n) →
    due_of a found ≡ kept_by a (seat at.0 at.1 n)
    (first_refusal (provider_checks a.seat.node.id a.sets.first.provider a.event n))
kept_reached a found at n none is (up, own) =
    ap (linked_kept a.seat a.event a.sets found) none
    ∙ ap (λ f. seated_kept a.seat a.event a.sets (seat_at a.sets.first.provider f)) is
    ∙ ap (λ b. seated_kept a.seat a.event a.sets
    (cond b (seat_of (refused.NoNode a.sets.first.provider) at at.1.node) (Err (refused.Down at.0)))) up
    ∙ ap (λ o. seated_kept a.seat a.event a.sets (seat_of (refused.NoNode a.sets.first.provider) at o)) own

-- a refusal of the provider tells of no store
pub calm_provider : (own provider : ℕ) (e : Event) (n : Node) (refusal : Refusal) →
    first_refusal (provider_checks own provider e n) ≡ Some refusal → is_loud refusal ≡ false
calm_provider own provider e n refusal =
    by (not (is_known own (knowledge n).config)) (nat_lt (progress e.origin (knowledge n)) e.number)
  where
    number : ℕ
    number = progress e.origin (knowledge n)

    by : (a b : Bool) → first_refusal (when a (refused.NotKnown own)
        ∷ when b (refused.Behind provider number e.number) ∷ []) ≡ Some refusal → is_loud refusal ≡ false
    by true b is = let same : refused.NotKnown own ≡ refusal = cc in subst (λ r. is_loud r ≡ false) same refl
    by false true is =
        let same : refused.Behind provider number e.number ≡ refusal = cc in
        subst (λ r. is_loud r ≡ false) same refl
    by false false is = absurd cc

-- ---- at all databases

pub or_right : (a b : Bool) → b ≡ true → (a || b) ≡ true
or_right true b is = refl
or_right false b is = is

pub or_left : (a b : Bool) → a ≡ true → (a || b) ≡ true
or_left true b is = refl
or_left false b is = absurd cc

-- the name of the provider is among those that may be told of
pub is_provider : (name own : List ℕ) (p : Place) (found : Option (List ℕ × Place)) → found ≡ Some (name, p) →
    (bytes_eq name own || (is_of name found || false)) ≡ true
is_provider name own p found is =
    or_right (bytes_eq name own) (is_of name found || false)
    (or_left (is_of name found) false (ap (is_of name) is ∙ bytes_itself name))

pub is_own_name : (name : List ℕ) (b : Bool) → (bytes_eq name name || b) ≡ true
is_own_name name b = or_left (bytes_eq name name) b (bytes_itself name)

-- What ended at one database, whose name may be told of.
pub record EndedAt {X : Type 0} (w : World) (name own among : List ℕ) (due : Result X Refusal)
    (checks : List (Option Refusal)) : Type 0 where
  pub refuses : (refusal : Refusal) → first_refusal checks ≡ Some refusal →
      (due ≡ Err refusal) × (is_loud refusal ≡ false)
  pub named : (bytes_eq name own || is_of_one name among w) ≡ true

-- it ended in the session
pub ends_look : {X : Type 0} {w : World} {name own among : List ℕ} {due : Result X Refusal}
    {checks : List (Option Refusal)} {p : Place} {bases : Named Base} {reply : Reply} {new : Base} →
    EndedAt w name own among due checks → Sits w name p bases → EndsAt name p checks reply new →
    EndsLook w own among due reply (put_named name new bases)
ends_look e s (RefusedAt refusal first is fits) =
    let no = e.refuses refusal first in RefusedSo refusal no.0 no.1 is (still_all s fits)
ends_look {w = w} {name} {p = p} {bases} {new = new} e s (BrokenAt count is rose fits) =
    BrokenSo (record {
      name = name;
      count = count;
      told = is;
      can = subst (CanFail count) (sym s.found) (s.running, rose);
      fits = subst (λ o. FitsAll (broken_at name count o w).places (put_named name new bases)) (sym s.found)
          (fits_put name (fallen count p) new w.places bases s.fits fits);
    }) e.named

-- ---- lists whose databases have the names and the memories that they had

-- What stands at an index of both.
pub record SameAt {K : Type 0} {g : Ghosts K} (kept : K → KeptStore) (olds news : List (NamedDatabase K g)) (i : ℕ)
    (d : NamedDatabase K g) : Type 0 where
  pub inside : i < length news
  pub name : (get_or news i d).name ≡ (get_or olds i d).name
  pub memory : (base_of kept (get_or news i d).database).memory ≡ (base_of kept (get_or olds i d).database).memory

pub same_at : {K : Type 0} {g : Ghosts K} {kept : K → KeptStore} (olds news : List (NamedDatabase K g)) (i : ℕ)
    (d : NamedDatabase K g) → AreSame (bases_of kept olds) (bases_of kept news) → i < length olds →
    SameAt kept olds news i d
same_at [] news i d same inside = absurd (omega (arith, inside))
same_at (o ∷ os) [] i d same inside = absurd same
same_at (o ∷ os) (n ∷ ns) zero d same inside = record { inside = omega arith; name = same.0; memory = same.1 }
same_at {kept = kept} (o ∷ os) (n ∷ ns) (suc i) d same inside =
    let rest = same_at {kept = kept} os ns i d same.2 (omega (arith, inside)) in
    let less = rest.inside in
    record { inside = omega (arith, less); name = rest.name; memory = rest.memory }

-- the node of a database sits there still
pub seat_same : {K : Type 0} {g : Ghosts K} (kept : K → KeptStore) (olds news : List (NamedDatabase K g)) (i : ℕ) →
    AreSame (bases_of kept olds) (bases_of kept news) → AreDistinct (bases_of kept news) →
    IsSeatHere olds (At i) → IsSeatHere news (At i)
seat_same kept [] news i same distinct sits = let inside = sits.0 in absurd (omega (arith, inside))
seat_same kept (o ∷ os) news i same distinct sits =
    let at = same_at {kept = kept} (o ∷ os) news i o same sits.0 in
    let x = get_or (o ∷ os) i o in
    let y = get_or news i o in
    let held = get_or_default (o ∷ os) i o x sits.0 in
    seat_here {d = y} kept news i distinct (at.inside, get_or_default news i o y at.inside) (
      ap (λ m. m.up) at.memory ∙ (sits.1 x held).here.up x held,
      ap (λ m. is_some m.identity) at.memory ∙ (sits.1 x held).node x held,
    )

-- and has the name that it had
pub name_same : {K : Type 0} {g : Ghosts K} (kept : K → KeptStore) (olds news : List (NamedDatabase K g)) (i : ℕ)
    (d : NamedDatabase K g) → AreSame (bases_of kept olds) (bases_of kept news) → i < length olds →
    d ≡ get_or olds i d → (get_or news i d).name ≡ d.name
name_same kept olds news i d same inside held =
    (same_at {kept = kept} olds news i d same inside).name ∙ ap (λ x. x.name) (sym held)

-- a look at one database leaves all as they were
pub looked_same : {K : Type 0} {g : Ghosts K} {kept : K → KeptStore} {olds : List (NamedDatabase K g)} {i : ℕ}
    {x y : NamedDatabase K g} → LookedAt kept olds i x y → AreSame (bases_of kept olds) (bases_of kept (set olds i y))
looked_same {kept = kept} {olds} {i} {x} {y} l =
    subst (AreSame (bases_of kept olds)) (put_worked (worked_here kept olds i x y l.distinct (l.inside, l.held) l.name))
    (same_put x.name (base_of kept x.database) (base_of kept y.database) (bases_of kept olds) (bases_of kept olds)
    (same_itself (bases_of kept olds)) (found_here kept olds i x l.distinct (l.inside, l.held)) l.same)

pub same_then : (olds mids news : Named Base) → AreSame olds mids → AreSame mids news → AreSame olds news
same_then [] [] [] one two = tt
same_then [] [] (n ∷ ns) one two = absurd two
same_then [] (m ∷ ms) news one two = absurd one
same_then (o ∷ os) [] news one two = absurd one
same_then (o ∷ os) (m ∷ ms) [] one two = absurd two
same_then (o ∷ os) (m ∷ ms) (n ∷ ns) one two =
    (two.0 ∙ one.0, two.1 ∙ one.1, same_then os ms ns one.2 two.2)
