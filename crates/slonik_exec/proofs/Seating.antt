-- A statement that reached the node of a NODE line, on all databases.
use Rattle.std.proofs.Common.{◌≡◌, ◌∙◌, ℕ, true, List, map, set, get_or, Some, Result, refl, sym, ap}
use Rattle.std.proofs.Common.{subst}
use Rattle.std.proofs.lemmas.List.{get_or_default}
use Rattle.std.specs.List.{position}
use Rattle.std.specs.Str.{bytes_eq}
use Rattle.slon_model.specs.declared.reply.Refusal.{Refusal}
use Rattle.slon_model.specs.declared.reply.Reply.{Reply}
use Rattle.slon_model.specs.declared.reply.Reply.TheVariants as replied
use Rattle.slon_model.specs.Names.{Named, find_named}
use Rattle.slon_model.specs.Deeds.{Node}
use Rattle.slon_model.specs.Place.{Place}
use Rattle.slon_model.specs.Sessions.{World, Running, Seat, Stated, bind, seat}
use Rattle.slon_model.specs.Reaching.{reach}
use Rattle.slon_model.proofs.Names.{one_found}
use Rattle.app_store.specs.Base.{Base}
use Rattle.app_store.specs.Fits.{Ready}
use Rattle.slonik_exec.specs.declared.reaching.Reached.TheVariants.{At, Refused}
use Rattle.slonik_exec.specs.Databases.{FitsAll, AreReady, Runs, IsQuiet}
use Rattle.slonik_exec.specs.Answering.{AtNode}
use Rattle.slonik_exec.specs.Executing.{Comes, Refuses, Executes}
use Rattle.slonik_exec.specs.Reached.{name_on, Addresses, Reaches, SitsAt}
use Rattle.slonik_exec.proofs.Lists.{IsAt, is_first, find_position, ready_at}
use Rattle.slonik_exec.proofs.Trying.{tries_itself, runs_calm}
use Rattle.slonik_exec.proofs.Lifting.{Sits, comes_at, own_at, Worked, put_worked}

-- ---- refusals

-- a refusal that tells of no store, with nothing done
pub runs_quiet : (refusal : Refusal) (bases : Named Base) → IsQuiet refusal → Runs bases (replied.Refused refusal) bases
runs_quiet refusal bases quiet = runs_calm (replied.Refused refusal) bases bases quiet (tries_itself true bases)

-- the node was not reached
pub executes_refused : (a : Addresses) (id : ℕ) (bases : Named Base) (refusal : Refusal)
    (does : Running → World → Seat → Result Stated Refusal) → Reaches a id bases (Refused refusal) →
    Executes a (λ run w. bind (reach run id w) (does run w)) bases (replied.Refused refusal) bases
executes_refused a id bases refusal does reaches w run ready lines cluster =
    Refuses refusal (ap (λ r. bind r (does run w)) (reaches w ready.fits run lines cluster)) refl ready.fits

-- ---- the node

-- A script reached its node, where the databases agree.
pub record Called (name : List ℕ) (id : ℕ) (run : Running) (w : World) (bases : Named Base) : Type 0 where
  pub ready : AreReady w bases
  pub sits : SitsAt run id w name

-- what the statement comes to at that node
pub executes_called : {a : Addresses} {id : ℕ} {bases news : Named Base} (i : ℕ)
    (does : Running → World → Seat → Result Stated Refusal) (reply : Reply) → Reaches a id bases (At i) →
    ((w : World) (run : Running) (call : Called (name_on id a.lines) id run w bases) →
    Comes w (does run w (seat (name_on id a.lines) call.sits.place call.sits.node)) reply news) →
    Executes a (λ run w. bind (reach run id w) (does run w)) bases reply news
executes_called {a} {id} {bases} {news} i does reply reaches comes w run ready lines cluster =
    let sits : SitsAt run id w (name_on id a.lines) = reaches w ready.fits run lines cluster in
    subst (λ r. Comes w (bind r (does run w)) reply news) (sym sits.due)
    (comes w run (record { ready = ready; sits = sits }))

-- by whatever equal account of what is due
pub executes_as : {a : Addresses} {olds news : Named Base} {reply : Reply}
    (was due : Running → World → Result Stated Refusal) → ((run : Running) (w : World) → due run w ≡ was run w) →
    Executes a was olds reply news → Executes a due olds reply news
executes_as {olds = olds} {news} {reply} was due same executes w run ready lines cluster =
    subst (λ d. Comes w d reply news) (sym (same run w)) (executes w run ready lines cluster)

-- the databases are others by now, and agree with the same places
pub ready_mids : {w : World} {bases mids : Named Base} → AreReady w bases → FitsAll w.places mids → AreReady w mids
ready_mids ready fits = record { fits = fits; sound = ready.sound; spelled = ready.spelled }

pub ready_sat : {name : List ℕ} {id : ℕ} {run : Running} {w : World} {base : Base} (mids : Named Base)
    (s : SitsAt run id w name) → AreReady w mids → find_named name mids ≡ Some base → Ready s.place base
ready_sat {name} {w = w} {base} mids s ready found =
    let at = ready_at name base w mids ready found in
    let same : at.place ≡ s.place = one_found at.place s.place (sym at.found ∙ s.found) in
    subst (λ p. Ready p base) same at.ready

pub sits_among : {name : List ℕ} {id : ℕ} {run : Running} {w : World} (mids : Named Base) (s : SitsAt run id w name) →
    FitsAll w.places mids → Sits w name s.place mids
sits_among mids s fits = record { found = s.found; running = s.running; fits = fits }

-- ---- at an index

pub is_at : {X : Type 0} (f : X → List ℕ × Base) (name : List ℕ) (items : List X) (i : ℕ) (d : X) →
    position (λ x. bytes_eq name (f x).0) items ≡ Some i → IsAt f name items i (get_or items i d)
is_at f name items i d at =
    record { at = at; held = get_or_default items i d (get_or items i d) (is_first f name d items i at).inside }

pub worked_at : {X : Type 0} (f : X → List ℕ × Base) (name : List ℕ) (items : List X) (i : ℕ) (d y : X) →
    position (λ x. bytes_eq name (f x).0) items ≡ Some i → (f y).0 ≡ (f (get_or items i d)).0 →
    Worked f name items i (get_or items i d) y
worked_at f name items i d y at same = record { is = is_at f name items i d at; same = same }

-- work at a database that is up and this node is what its node comes to
pub comes_worked : {X : Type 0} {f : X → List ℕ × Base} {name : List ℕ} {items : List X} {i : ℕ} {x y : X} {w : World}
    {p : Place} {n : Node} {reply : Reply} (does : Seat → Result Stated Refusal) → Worked f name items i x y →
    AreReady w (map f items) → Sits w name p (map f items) → p.node ≡ Some n →
    AtNode name does (f x).1 reply (f y).1 → Comes w (does (seat name p n)) reply (map f (set items i y))
comes_worked {f = f} {name} {items} {i} {x} {w = w} {p} {n} {reply} does at ready sits is comes =
    let found = ready_at name (f x).1 w (map f items) ready (find_position f name items i x at.is) in
    let same : found.place ≡ p = one_found found.place p (sym found.found ∙ sits.found) in
    subst (Comes w (does (seat name p n)) reply) (put_worked at)
    (comes_at sits (comes p n (subst (λ q. Ready q (f x).1) same found.ready) is))

-- what a statement comes to at the node that it reached is what it comes to
pub executes_worked : {X : Type 0} {f : X → List ℕ × Base} {items : List X} {i : ℕ} {x y : X} {a : Addresses} {id : ℕ}
    (does : Seat → Result Stated Refusal) (reply : Reply) → Worked f (name_on id a.lines) items i x y →
    Reaches a id (map f items) (At i) → AtNode (f x).0 does (f x).1 reply (f y).1 →
    Executes a (λ run w. bind (reach run id w) does) (map f items) reply (map f (set items i y))
executes_worked {f = f} {items} {i} {x} {y} {a} {id} does reply at reaches comes =
    executes_called {a = a} {id = id} i (λ run w. does) reply reaches (λ w run call.
    comes_worked does at call.ready (sits_among (map f items) call.sits call.ready.fits) call.sits.is
    (subst (λ n. AtNode n does (f x).1 reply (f y).1) (own_at at.is) comes))
