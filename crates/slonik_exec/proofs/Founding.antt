-- What INIT CLUSTER comes to: each way on which it is refused, and the work at the database that becomes a node.
use Rattle.std.proofs.Common.{◌≡◌, ◌∙◌, ℕ, true, false, List, [], ◌∷◌, get_or, set, Option, Some, None, Result, Ok, Err}
use Rattle.std.proofs.Common.{is_some, refl, sym, ap, subst}
use Rattle.std.proofs.lemmas.Bool.{false≢true, false_from_ne_true}
use Rattle.std.specs.Prelude.{is_err, IfOk}
use Rattle.slon_base.specs.Keeper.{Kept}
use Rattle.slon_base.specs.declared.keeper.Keeper.{Ghosts}
use Rattle.slon_model.specs.declared.fault.DbFault.{DbFault}
use Rattle.slon_model.specs.declared.reply.Answer.TheVariants.{Done}
use Rattle.slon_model.specs.declared.reply.Answered.{Answered}
use Rattle.slon_model.specs.declared.reply.Refusal.{Refusal}
use Rattle.slon_model.specs.declared.reply.Refusal.TheVariants as refused
use Rattle.slon_model.specs.declared.reply.Reply.{Reply}
use Rattle.slon_model.specs.declared.reply.Reply.TheVariants.{Refused as ReplyRefused}
use Rattle.slon_model.specs.Names.{Named, put_named}
use Rattle.slon_model.specs.Place.{Place}
use Rattle.slon_model.specs.Sessions.{World, Running, Stated, bind, checked, unless_refused, first_refusal}
use Rattle.slon_model.specs.Reaching.{down_among}
use Rattle.slon_model.specs.Membership.{already, becoming, first_node, first_of_cluster, init_cluster}
use Rattle.slon_model.specs.World.{reply_of}
use Rattle.app_store.specs.Base.{Base, base_of}
use Rattle.app_store.specs.Serves.{is_memory, trouble}
use Rattle.node_store.specs.Acting.{FoundsNode, NewNode, node_of}
use Rattle.slonik_exec.specs.declared.databases.Named.{Named as NamedDatabase}
use Rattle.slonik_exec.specs.declared.reaching.Reached.TheVariants.{At, Refused}
use Rattle.slonik_exec.specs.Databases.{Runs, bases_of, named_base}
use Rattle.slonik_exec.specs.Answering.{Answers, ComesAt}
use Rattle.slonik_exec.specs.Executing.{Comes, Executes, Refuses}
use Rattle.slonik_exec.specs.Reached.{name_on, OnLine, IsUpAt, Addresses, FindsLine, IsDown, IsFirstNode}
use Rattle.slonik_exec.specs.Statements.{FoundsAt}
use Rattle.slonik_exec.proofs.Lists.{find_position}
use Rattle.slonik_exec.proofs.Telling.{words_at}
use Rattle.slonik_exec.proofs.Works.{commits_due}
use Rattle.slonik_exec.proofs.Lifting.{Worked, own_at, put_worked, runs_worked, comes_at}
use Rattle.slonik_exec.proofs.Stores.{no_id, no_node, ready_here}

-- ---- at the database

-- The reply to what it did, of which there was memory to tell.
record Founded (name : List ℕ) (n : NewNode) (old : Base) (reply : Reply) (new : Base) : Type 0 where
  result : Result Answered DbFault
  told : reply ≡ reply_of (words_at name) result
  memory : is_memory (trouble result) ≡ false
  founds : FoundsNode n old result new

founds_so : {name : List ℕ} {n : NewNode} {old new : Base} {reply : Reply} → Founded name n old reply new →
    FoundsAt name n old reply new
founds_so {name} f p run ready none cluster =
    commits_due f.told (record { is = refl; named = refl }) (f.founds p ready none f.memory name run cluster)

pub founds_if : {E : Type 0} {n : NewNode} {old new : Base} (name : List ℕ) (r : Result Reply E)
    (result : Result Answered DbFault) → IfOk r (λ reply. reply ≡ reply_of (words_at name) result) →
    (is_memory (trouble result) ≡ true → is_err r ≡ true) → FoundsNode n old result new →
    IfOk r (λ reply. FoundsAt name n old reply new)
founds_if name (Ok reply) result told memory founds = founds_so (record {
  result = result;
  told = told;
  memory = false_from_ne_true (is_memory (trouble result)) (λ short. false≢true (memory short));
  founds = founds;
})
founds_if name (Err e) result told memory founds = tt

-- ---- what is due

abbrev pub init_of : ℕ → List ℕ → Running → World → Result Stated Refusal
init_of id comment run w = init_cluster id (Some comment) run w

abbrev founded : ℕ → List ℕ → Running → List ℕ → Stated
founded id comment run name =
    record { answer = Done; commits = becoming name (first_of_cluster id comment run) ∷ [] }

abbrev founded_due : ℕ → List ℕ → Running → World → Result (List ℕ × Place) Refusal → Result Stated Refusal
founded_due id comment run w r =
    bind r (λ e. checked (down_among w.places ∷ already (first_node w) ∷ []) (founded id comment run e.0))

-- what the checks make of it
due_line : (id : ℕ) (comment : List ℕ) (run : Running) (w : World) (name : List ℕ) (line : OnLine run id w name)
    (found : Option Refusal) → first_refusal (down_among w.places ∷ already (first_node w) ∷ []) ≡ found →
    init_of id comment run w ≡ unless_refused found (founded id comment run name)
due_line id comment run w name line found is =
    ap (founded_due id comment run w) line.due ∙ ap (λ o. unless_refused o (founded id comment run name)) is

checks_are : (w : World) (down : Option Refusal) (own : Option ℕ) → down_among w.places ≡ down →
    first_node w ≡ own →
    first_refusal (down_among w.places ∷ already (first_node w) ∷ []) ≡ first_refusal (down ∷ already own ∷ [])
checks_are w down own one two =
    ap (λ d. first_refusal (d ∷ already (first_node w) ∷ [])) one
    ∙ ap (λ n. first_refusal (down ∷ already n ∷ [])) two

-- ---- refusals

pub init_refuses : (a : Addresses) (id : ℕ) (comment : List ℕ) (bases : Named Base) (refusal : Refusal) →
    FindsLine a.lines id bases (Refused refusal) →
    Executes a (init_of id comment) bases (ReplyRefused refusal) bases
init_refuses a id comment bases refusal finds w run ready lines cluster =
    Refuses refusal (ap (founded_due id comment run w) (finds w ready.fits run lines)) refl ready.fits

pub init_down : (a : Addresses) (id : ℕ) (comment : List ℕ) (bases : Named Base) (i : ℕ) (name : List ℕ) →
    FindsLine a.lines id bases (At i) → IsDown bases (Some name) →
    Executes a (init_of id comment) bases (ReplyRefused (refused.Down name)) bases
init_down a id comment bases i name finds down w run ready lines cluster =
    Refuses (refused.Down name)
    (due_line id comment run w (name_on id a.lines) (finds w ready.fits run lines) (Some (refused.Down name))
    (ap (λ d. first_refusal (d ∷ already (first_node w) ∷ [])) (down w ready.fits)))
    refl ready.fits

pub init_node : (a : Addresses) (id : ℕ) (comment : List ℕ) (bases : Named Base) (i node : ℕ) →
    FindsLine a.lines id bases (At i) → IsDown bases None × IsFirstNode bases (Some node) →
    Executes a (init_of id comment) bases (ReplyRefused (refused.AlreadyNode node)) bases
init_node a id comment bases i node finds (up, first) w run ready lines cluster =
    Refuses (refused.AlreadyNode node)
    (due_line id comment run w (name_on id a.lines) (finds w ready.fits run lines) (Some (refused.AlreadyNode node))
    (checks_are w None (Some node) (up w ready.fits) (first w ready.fits)))
    refl ready.fits

-- ---- the work

-- Nothing speaks against it: the database is up and no node, as all others.
pub record Vacant {K : Type 0} {g : Ghosts K} (kept : K → Kept) (a : Addresses) (id : ℕ)
    (databases : List (NamedDatabase K g)) (i : ℕ) : Type 0 where
  pub here : IsUpAt (name_on id a.lines) databases i
  pub finds : FindsLine a.lines id (bases_of kept databases) (At i)
  pub up : IsDown (bases_of kept databases) None
  pub first : IsFirstNode (bases_of kept databases) None

-- the database at the index, before and behind
pub record Changed {K : Type 0} {g : Ghosts K} (databases : List (NamedDatabase K g)) (i : ℕ) : Type 0 where
  pub old : NamedDatabase K g
  pub new : NamedDatabase K g
  pub held : old ≡ get_or databases i old
  pub name : new.name ≡ old.name

abbrev pub changed_at : {K : Type 0} {g : Ghosts K} (databases : List (NamedDatabase K g)) (i : ℕ)
    (x y : NamedDatabase K g) → x ≡ get_or databases i x → y.name ≡ (get_or databases i x).name → Changed databases i
changed_at databases i x y held name =
    record {
      old = get_or databases i x;
      new = y;
      held = subst (λ z. z ≡ get_or databases i z) held held;
      name = name;
    }

worked : {K : Type 0} {g : Ghosts K} (kept : K → Kept) (name : List ℕ) (databases : List (NamedDatabase K g)) (i : ℕ)
    (d : Changed databases i) → IsUpAt name databases i → Worked (named_base {g = g} kept) name databases i d.old d.new
worked kept name databases i d here = record { is = record { at = here.at; held = d.held }; same = d.name }

pub init_runs : {K : Type 0} {g : Ghosts K} {kept : K → Kept} {a : Addresses} {id : ℕ}
    {databases : List (NamedDatabase K g)} {i : ℕ} (reply : Reply) → Vacant kept a id databases i →
    (d : Changed databases i) →
    Answers d.old.name (base_of kept d.old.database) reply (base_of kept d.new.database) →
    Runs (bases_of kept databases) reply (bases_of kept (set databases i d.new))
init_runs {g = g} {kept} {a} {id} {databases} {i} reply vacant d answers =
    runs_worked reply (worked kept (name_on id a.lines) databases i d vacant.here) answers

pub init_founds : {K : Type 0} {g : Ghosts K} {kept : K → Kept} {a : Addresses} {id : ℕ}
    {databases : List (NamedDatabase K g)} {i : ℕ} (comment : List ℕ) (reply : Reply) →
    Vacant kept a id databases i → (d : Changed databases i) →
    (is_some d.old.database.state.node.identity ≡ false)
    × FoundsAt d.old.name (node_of id a.cluster comment) (base_of kept d.old.database) reply
    (base_of kept d.new.database) →
    Executes a (init_of id comment) (bases_of kept databases) reply (bases_of kept (set databases i d.new))
init_founds {g = g} {kept} {a} {id} {databases} {i} comment reply vacant d (none, founds) w run ready lines cluster =
    let name = name_on id a.lines in
    let f = named_base {g = g} kept in
    let at = worked kept name databases i d vacant.here in
    let old = base_of kept d.old.database in
    let line = vacant.finds w ready.fits run lines in
    let held = find_position f name databases i d.old at.is in
    let fit = ready_here name old w (bases_of kept databases) line.place ready held line.found in
    let here = founds line.place run fit (no_node line.place line.place.node refl (no_id line.place old fit.fits none))
    cluster in
    let due = due_line id comment run w name line None
    (checks_are w None None (vacant.up w ready.fits) (vacant.first w ready.fits)) in
    subst (Comes w (init_of id comment run w) reply) (put_worked at)
    (subst (λ r. Comes w r reply (put_named name (base_of kept d.new.database) (bases_of kept databases))) (sym due)
    (comes_at (record { found = line.found; running = line.running; fits = ready.fits })
    (subst (λ n. ComesAt n line.place (Ok (founded id comment run n)) reply (base_of kept d.new.database))
    (own_at at.is) here)))
