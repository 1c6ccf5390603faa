-- What a database by its name is for a script that looks for a node.
use Rattle.std.proofs.Common.{◌≡◌, ◌∙◌, ℕ, ◌<◌, length, ◌==◌, ◌&&◌, Bool, true, false, cond, not, List, [], ◌∷◌, get_or}
use Rattle.std.proofs.Common.{Option, Some, None, Result, Ok, Err, refl, sym, ap, subst, eqb, Bor}
use Rattle.std.proofs.lemmas.Bool.{false≢true, and_parts}
use Rattle.std.proofs.lemmas.List.{get_or_default}
use Rattle.std.proofs.lemmas.List.Quantifiers.{position-Some}
use Rattle.std.specs.List.{position}
use Rattle.std.specs.Map.{lookup}
use Rattle.std.specs.Option.{option_copied}
use Rattle.std.specs.Prelude.{nat_eq, unwrap_or}
use Rattle.std.specs.Str.{bytes_eq}
use borrow.Author.Tests.{eqb-true}
use Rattle.slon_base.specs.Keeper.{Kept}
use Rattle.slon_base.specs.declared.keeper.Keeper.{Ghosts}
use Rattle.slon_model.specs.declared.reply.Refusal.{Refusal}
use Rattle.slon_model.specs.declared.reply.Refusal.TheVariants as refused
use Rattle.slon_model.specs.Names.{Named, find_named}
use Rattle.slon_model.specs.Maps.{Map, entry_at}
use Rattle.slon_model.specs.Deeds.{Node}
use Rattle.slon_model.specs.Place.{Place, Standing, IsRunning, IsFallen, IsDoubtful, is_running}
use Rattle.slon_model.specs.Sessions.{World, Running, Seat, bind, when, checked, seat, seat_of}
use Rattle.slon_model.specs.Reaching.{database_in, database_up, database_by, database_of_line, reach, is_node_of}
use Rattle.slon_model.proofs.Names.{bytes_same}
use Rattle.node_state.specs.declared.memory.Identity.{Identity}
use Rattle.node_state.specs.Known.{IsKnown, identity_of}
use Rattle.app_store.specs.Base.{Memory, Base, base_of}
use Rattle.app_store.specs.Fits.{Fits, Runs, StandsAs}
use Rattle.slonik_exec.specs.declared.databases.Named.{Named as NamedDatabase}
use Rattle.slonik_exec.specs.declared.reaching.Reached.TheVariants.{At, Refused}
use Rattle.slonik_exec.specs.Databases.{FitsAll, bases_of, named_base}
use Rattle.slonik_exec.specs.Reached.{name_on, seat_in, IsUpAt, IsQuietly, OnLine, FindsLine, NodeIs}
use Rattle.slonik_exec.specs.Reached.{Addresses, Reaches}
use Rattle.slonik_exec.proofs.Lists.{fitting, missing_fits, find_missing, find_at, is_first}

-- ---- NODE lines

-- the lines as the code has them are those of the rules
pub line_is : {X : Type 0} (id : ℕ) (lines : Map X) → lookup (nat_eq id) lines ≡ entry_at id lines
line_is id [] = refl
line_is id (e ∷ es) = ap (λ o. cond (eqb id e.0) (Some e.1) o) (line_is id es)

-- ---- a place and its database

-- the code and the rules agree on what is up
stands_up : (s : Standing) (p : Place) (m : Memory) → StandsAs s p m → m.up ≡ is_running s
stands_up IsRunning p m runs = runs.up
stands_up IsFallen p m down = down.0
stands_up (IsDoubtful stands) p m down = down.0

pub same_up : (p : Place) (b : Base) → Fits p b → b.memory.up ≡ is_running p.standing
same_up p b fits = stands_up p.standing p b.memory fits.stands

runs_by : (s : Standing) (p : Place) (m : Memory) → is_running s ≡ true → StandsAs s p m → Runs p m
runs_by IsRunning p m up runs = runs
runs_by IsFallen p m up down = absurd (false≢true up)
runs_by (IsDoubtful stands) p m up down = absurd (false≢true up)

-- a database that is up knows which node it is
pub known_up : (p : Place) (b : Base) → Fits p b → is_running p.standing ≡ true → IsKnown p.node b.memory.identity
    b.memory.members
known_up p b fits up = (runs_by p.standing p b.memory up fits.stands).known

-- ---- the database of a NODE line

-- what the rules make of it
line_due : (lines : Map (List ℕ)) (id : ℕ) (w : World) (run : Running) (o : Option (List ℕ)) → run.lines ≡ lines →
    entry_at id lines ≡ o → database_of_line run id w ≡ database_by w id o
line_due lines id w run o same at =
    ap (λ ls. database_by w id (entry_at id ls)) same ∙ ap (λ o. database_by w id o) at

pub line_none : (lines : Map (List ℕ)) (id : ℕ) (bases : Named Base) → entry_at id lines ≡ None →
    FindsLine lines id bases (Refused (refused.NoConninfo id))
line_none lines id bases none w fits run same = line_due lines id w run None same none

pub line_missing : (lines : Map (List ℕ)) (id : ℕ) (conninfo : List ℕ) (bases : Named Base) →
    entry_at id lines ≡ Some conninfo → find_named (database_in conninfo) bases ≡ None →
    FindsLine lines id bases (Refused (refused.NoDatabase (database_in conninfo)))
line_missing lines id conninfo bases at none w fits run same =
    line_due lines id w run (Some conninfo) same at
    ∙ ap (database_up (database_in conninfo)) (missing_fits (database_in conninfo) w.places bases fits none)

-- the database that is named, and its place
up_is : (name : List ℕ) (p : Place) (up : Bool) → is_running p.standing ≡ up →
    database_up name (Some p) ≡ cond up (Ok (name, p)) (Err (refused.Down name))
up_is name p up is = ap (λ c. cond c (Ok (name, p)) (Err (refused.Down name))) is

line_found : (lines : Map (List ℕ)) (id : ℕ) (conninfo : List ℕ) (w : World) (run : Running) (p : Place) →
    (run.lines ≡ lines) × (entry_at id lines ≡ Some conninfo) → find_named (database_in conninfo) w.places ≡ Some p →
    database_of_line run id w ≡ database_up (database_in conninfo) (Some p)
line_found lines id conninfo w run p (same, at) found =
    line_due lines id w run (Some conninfo) same at ∙ ap (database_up (database_in conninfo)) found

-- a database of the code under the name of a NODE line
pub record LineBase (lines : Map (List ℕ)) (id : ℕ) (conninfo : List ℕ) (bases : Named Base) (b : Base) : Type 0 where
  pub at : entry_at id lines ≡ Some conninfo
  pub found : find_named (database_in conninfo) bases ≡ Some b

pub line_down : (lines : Map (List ℕ)) (id : ℕ) (conninfo : List ℕ) (bases : Named Base) (b : Base) →
    LineBase lines id conninfo bases b → b.memory.up ≡ false →
    FindsLine lines id bases (Refused (refused.Down (database_in conninfo)))
line_down lines id conninfo bases b line down w fits run same =
    let name = database_in conninfo in
    let fit = fitting name b w.places bases fits line.found in
    line_found lines id conninfo w run fit.place (same, line.at) fit.found
    ∙ up_is name fit.place false (sym (same_up fit.place b fit.fits) ∙ down)

on_line : {lines : Map (List ℕ)} {id : ℕ} {conninfo : List ℕ} {bases : Named Base} {b : Base} →
    LineBase lines id conninfo bases b → b.memory.up ≡ true →
    (w : World) → FitsAll w.places bases → (run : Running) → run.lines ≡ lines →
    OnLine run id w (database_in conninfo)
on_line {lines} {id} {conninfo} {bases} {b} line up w fits run same =
    let name = database_in conninfo in
    let fit = fitting name b w.places bases fits line.found in
    let running = sym (same_up fit.place b fit.fits) ∙ up in
    record {
      place = fit.place;
      due = line_found lines id conninfo w run fit.place (same, line.at) fit.found ∙ up_is name fit.place true running;
      found = fit.found;
      running = running;
    }

pub name_is : (lines : Map (List ℕ)) (id : ℕ) (conninfo : List ℕ) → entry_at id lines ≡ Some conninfo →
    name_on id lines ≡ database_in conninfo
name_is lines id conninfo at = ap (λ o. database_in (unwrap_or o [])) at

pub line_up : (lines : Map (List ℕ)) (id i : ℕ) (conninfo : List ℕ) (bases : Named Base) (b : Base) →
    LineBase lines id conninfo bases b → b.memory.up ≡ true → FindsLine lines id bases (At i)
line_up lines id i conninfo bases b line up w fits run same =
    subst (OnLine run id w) (sym (name_is lines id conninfo line.at))
    (on_line line up w fits run same)

-- ---- the node of a NODE line

-- what the rules say of the place of a NODE line
abbrev Seated : Running → ℕ → List ℕ → Place → Option Node → Result Seat Refusal
Seated run id name p found =
    bind (seat_of (refused.NotInitialised id) (name, p) found)
    (λ s. checked (when (not (is_node_of run id s)) (refused.OtherNode id) ∷ []) s)

seat_due : (run : Running) (id : ℕ) (w : World) (name : List ℕ) (line : OnLine run id w name) →
    reach run id w ≡ Seated run id name line.place line.place.node
seat_due run id w name line =
    ap (λ r. bind r (λ e. bind (seat_of (refused.NotInitialised id) e e.1.node)
    (λ s. checked (when (not (is_node_of run id s)) (refused.OtherNode id) ∷ []) s))) line.due

-- a database that is the node or another one
is_seat : {run : Running} {id : ℕ} {w : World} {name : List ℕ} (own : Bool) (i : ℕ) (line : OnLine run id w name)
    (n : Node) → line.place.node ≡ Some n → (n.id == id && bytes_eq n.cluster run.cluster) ≡ own →
    NodeIs name run id w (cond own (At i) (Refused (refused.OtherNode id)))
is_seat {run} {id} {w} {name} true i line n is own =
    let parts = and_parts (eqb n.id id) (bytes_eq n.cluster run.cluster) own in
    record {
      place = line.place;
      node = n;
      due = seat_due run id w name line ∙ ap (Seated run id name line.place) is
          ∙ ap (λ b. checked (when (not b) (refused.OtherNode id) ∷ []) (seat name line.place n)) own;
      found = line.found;
      running = line.running;
      is = is;
      own = eqb-true n.id id parts.0;
      cluster = bytes_same n.cluster run.cluster parts.1;
    }
is_seat {run} {id} {w} {name} false i line n is own =
    seat_due run id w name line ∙ ap (Seated run id name line.place) is
    ∙ ap (λ b. checked (when (not b) (refused.OtherNode id) ∷ []) (seat name line.place n)) own

seats_by : (found : Option Node) (run : Running) (id i : ℕ) (w : World) (name : List ℕ)
    (line : OnLine run id w name) → line.place.node ≡ found →
    NodeIs name run id w (seat_in i id run.cluster (identity_of found))
seats_by None run id i w name line is = seat_due run id w name line ∙ ap (Seated run id name line.place) is
seats_by (Some n) run id i w name line is =
    is_seat (eqb n.id id && bytes_eq n.cluster run.cluster) i line n is refl

-- what the code makes of the database of a NODE line
pub record Candidate (a : Addresses) (id i : ℕ) (bases : Named Base) (b : Base) : Type 0 where
  pub line : FindsLine a.lines id bases (At i)
  pub found : find_named (name_on id a.lines) bases ≡ Some b

pub reaches_seat : (a : Addresses) (id i : ℕ) (bases : Named Base) (b : Base) → Candidate a id i bases b →
    Reaches a id bases (seat_in i id a.cluster b.memory.identity)
reaches_seat a id i bases b cand w fits run lines cluster =
    let name = name_on id a.lines in
    let line : OnLine run id w name = cand.line w fits run lines in
    let fit = fitting name b w.places bases fits cand.found in
    let same : line.place ≡ fit.place = cc (line.found, fit.found) in
    let fits_it : Fits line.place b = subst (λ p. Fits p b) (sym same) fit.fits in
    let known = known_up line.place b fits_it line.running in
    subst (λ c. NodeIs name run id w (seat_in i id c b.memory.identity)) cluster
    (subst (λ o. NodeIs name run id w (seat_in i id run.cluster o)) (sym known.identity_is)
    (seats_by line.place.node run id i w name line refl))

pub reaches_refused : (a : Addresses) (id : ℕ) (bases : Named Base) (refusal : Refusal) →
    FindsLine a.lines id bases (Refused refusal) → Reaches a id bases (Refused refusal)
reaches_refused a id bases refusal line w fits run lines cluster =
    ap (λ r. bind r (λ e. bind (seat_of (refused.NotInitialised id) e e.1.node)
    (λ s. checked (when (not (is_node_of run id s)) (refused.OtherNode id) ∷ []) s))) (line w fits run lines)

-- the database at an index
pub record HeldAt {K : Type 0} {g : Ghosts K} (name : List ℕ) (databases : List (NamedDatabase K g)) (i : ℕ)
    (d : NamedDatabase K g) : Type 0 where
  pub here : IsUpAt name databases i
  pub held : d ≡ get_or databases i d

-- a database that is another node, or none, is refused with no word of its store
quiet_seat_by : (own : Bool) (i id : ℕ) → IsQuietly (cond own (At i) (Refused (refused.OtherNode id)))
quiet_seat_by true i id = tt
quiet_seat_by false i id = refl

pub quiet_seat : (i id : ℕ) (cluster : List ℕ) (o : Option Identity) → IsQuietly (seat_in i id cluster o)
quiet_seat i id cluster None = refl
quiet_seat i id cluster (Some own) = quiet_seat_by (eqb own.id id && bytes_eq own.cluster cluster) i id

-- a database that is up, at the first index of a name
pub up_here : {K : Type 0} {g : Ghosts K} (name : List ℕ) (databases : List (NamedDatabase K g)) (i : ℕ)
    (d : NamedDatabase K g) → position (λ d. bytes_eq name d.name) databases ≡ Some i →
    (get_or databases i d).database.state.up ≡ true → IsUpAt name databases i
up_here name databases i d at up =
    let inside : i < length databases = (position-Some (λ d. bytes_eq name d.name) databases i d at).0 in
    record {
      inside = inside;
      at = at;
      up = λ e held. subst (λ x. x.database.state.up ≡ true) (get_or_default databases i d e inside ∙ sym held) up;
    }

-- A NODE line, and the name that code read in it.
pub record Entry : Type 0 where
  pub lines : Map (List ℕ)
  pub id : ℕ
  pub conninfo : List ℕ
  pub name : List ℕ

pub record IsNamed (e : Entry) : Type 0 where
  pub at : entry_at e.id e.lines ≡ Some e.conninfo
  pub is : e.name ≡ database_in e.conninfo

-- what code read, as it read it
pub named_by : (e : Entry) (found : Option (Bor (List ℕ))) (line : Bor (List ℕ)) →
    option_copied found ≡ lookup (nat_eq e.id) e.lines → found ≡ Some line → e.conninfo ≡ line.now →
    e.name ≡ database_in e.conninfo → IsNamed e
named_by e found line told is same name = record {
  at = sym (line_is e.id e.lines) ∙ sym told ∙ ap option_copied is ∙ ap (λ l. Some l) (sym same);
  is = name;
}

-- so it is the name on the line
pub named_on : (e : Entry) → IsNamed e → e.name ≡ name_on e.id e.lines
named_on e named = named.is ∙ sym (name_is e.lines e.id e.conninfo named.at)

pub missing_here : {K : Type 0} {g : Ghosts K} (kept : K → Kept) (databases : List (NamedDatabase K g))
    (e : Entry) → IsNamed e → position (λ d. bytes_eq e.name d.name) databases ≡ None →
    FindsLine e.lines e.id (bases_of kept databases) (Refused (refused.NoDatabase e.name))
missing_here kept databases e named none =
    subst (λ n. FindsLine e.lines e.id (bases_of kept databases) (Refused (refused.NoDatabase n))) (sym named.is)
    (line_missing e.lines e.id e.conninfo (bases_of kept databases) named.at
    (subst (λ n. find_named n (bases_of kept databases) ≡ None) named.is
    (find_missing (named_base kept) e.name databases none)))

-- the database at the index of a name, under that name
pub base_here : {K : Type 0} {g : Ghosts K} (kept : K → Kept) (databases : List (NamedDatabase K g)) (i : ℕ)
    (name : List ℕ) (d : NamedDatabase K g) → position (λ d. bytes_eq name d.name) databases ≡ Some i →
    find_named name (bases_of kept databases) ≡ Some (base_of kept (get_or databases i d).database)
base_here kept databases i name d at =
    find_at (named_base kept) name d databases i (is_first (named_base kept) name d databases i at)

pub name_here : {K : Type 0} {g : Ghosts K} (kept : K → Kept) (databases : List (NamedDatabase K g)) (i : ℕ)
    (name : List ℕ) (d : NamedDatabase K g) → position (λ d. bytes_eq name d.name) databases ≡ Some i →
    name ≡ (get_or databases i d).name
name_here kept databases i name d at =
    bytes_same name (get_or databases i d).name (is_first (named_base kept) name d databases i at).named

-- A database that code found by the name of a NODE line.
pub record FoundBy {K : Type 0} {g : Ghosts K} (databases : List (NamedDatabase K g)) (i : ℕ) (e : Entry) : Type 0 where
  pub named : IsNamed e
  pub at : position (λ d. bytes_eq e.name d.name) databases ≡ Some i

line_base : {K : Type 0} {g : Ghosts K} (kept : K → Kept) (databases : List (NamedDatabase K g)) (i : ℕ) (e : Entry)
    (d : NamedDatabase K g) → FoundBy databases i e →
    LineBase e.lines e.id e.conninfo (bases_of kept databases) (base_of kept (get_or databases i d).database)
line_base kept databases i e d by = record {
  at = by.named.at;
  found = subst (λ n. find_named n (bases_of kept databases) ≡ Some (base_of kept (get_or databases i d).database))
      by.named.is (base_here kept databases i e.name d by.at);
}

pub up_line : {K : Type 0} {g : Ghosts K} (kept : K → Kept) (databases : List (NamedDatabase K g)) (i : ℕ) (e : Entry)
    (d : NamedDatabase K g) → FoundBy databases i e → (get_or databases i d).database.state.up ≡ true →
    FindsLine e.lines e.id (bases_of kept databases) (At i)
up_line kept databases i e d by up =
    line_up e.lines e.id i e.conninfo (bases_of kept databases) (base_of kept (get_or databases i d).database)
    (line_base kept databases i e d by) up

pub down_line : {K : Type 0} {g : Ghosts K} (kept : K → Kept) (databases : List (NamedDatabase K g)) (i : ℕ)
    (e : Entry) (d : NamedDatabase K g) → FoundBy databases i e →
    (get_or databases i d).database.state.up ≡ false →
    FindsLine e.lines e.id (bases_of kept databases) (Refused (refused.Down e.name))
down_line kept databases i e d by down =
    subst (λ n. FindsLine e.lines e.id (bases_of kept databases) (Refused (refused.Down n))) (sym by.named.is)
    (line_down e.lines e.id e.conninfo (bases_of kept databases) (base_of kept (get_or databases i d).database)
    (line_base kept databases i e d by) down)
