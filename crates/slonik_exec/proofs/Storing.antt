-- What STORE NODE promises at each of its ends, by what the code found before.
use Rattle.std.proofs.Common.{◌≡◌, ◌∙◌, ℕ, true, false, List, get_or, Option, Some, None, is_some, refl, subst}
use Rattle.std.specs.Option.{option_map}
use Rattle.slon_base.specs.Keeper.{Kept}
use Rattle.slon_base.specs.declared.keeper.Keeper.{Ghosts}
use Rattle.slon_model.specs.declared.reply.Refusal.{Refusal}
use Rattle.slon_model.specs.declared.reply.Refusal.TheVariants as refused
use Rattle.slon_model.specs.declared.reply.Reply.{Reply}
use Rattle.slon_model.specs.declared.reply.Reply.TheVariants.{Refused as ReplyRefused}
use Rattle.slon_model.specs.Names.{Named, find_named}
use Rattle.slon_model.specs.Place.{Place, node_id}
use Rattle.slon_model.specs.Sessions.{World, Running}
use Rattle.app_store.specs.Base.{Base, base_of}
use Rattle.node_store.specs.Joining.{joiner}
use Rattle.slonik_exec.specs.declared.databases.Named.{Named as NamedDatabase}
use Rattle.slonik_exec.specs.declared.knowing.Heard.TheVariants.{Known, Stopped}
use Rattle.slonik_exec.specs.declared.knowing.Question.TheVariants.{Node as OfNode}
use Rattle.slonik_exec.specs.declared.membership.Spots.{Spots}
use Rattle.slonik_exec.specs.declared.reaching.Reached.{Reached}
use Rattle.slonik_exec.specs.declared.reaching.Reached.TheVariants.{At, Refused}
use Rattle.slonik_exec.specs.Databases.{FitsAll, AreReady, TriesAll, Runs, IsQuiet, bases_of, named_base}
use Rattle.slonik_exec.specs.Executing.{Executes, Breaks}
use Rattle.slonik_exec.specs.Heard.{AreSame, Hears}
use Rattle.slonik_exec.specs.Reached.{name_on, IsNodeHere, IsUpHere, Addresses, Reaches, FindsLine}
use Rattle.slonik_exec.specs.Reached.{IsDownNode}
use Rattle.slonik_exec.specs.Stored.{AreJoinable, JoinedAt}
use Rattle.slonik_exec.proofs.Lists.{find_position}
use Rattle.slonik_exec.proofs.Trying.{tries_itself, runs_then, runs_calm}
use Rattle.slonik_exec.proofs.Still.{up_still, node_still}
use Rattle.slonik_exec.proofs.Free.{joinable, joinable_still}
use Rattle.slonik_exec.proofs.Stores.{Order, Led, MetAt, due_of, seat_refused, line_refused, led_refused}
use Rattle.slonik_exec.proofs.Stores.{is_node_refused, is_down_refused, is_used_refused, id_at, ready_here}
use Rattle.slonik_exec.proofs.Stores.{runs_stored, comes_stored}

-- ---- what was reached

-- What was found by the NODE lines of the event node and of the new one.
pub record Seen {K : Type 0} {g : Ghosts K} (kept : K → Kept) (a : Addresses) (o : Order)
    (databases : List (NamedDatabase K g)) (reached found : Reached) : Type 0 where
  pub here : IsNodeHere (name_on o.event_node a.lines) databases reached
  pub reaches : Reaches a o.event_node (bases_of kept databases) reached
  pub there : IsUpHere (name_on o.id a.lines) databases found
  pub finds : FindsLine a.lines o.id (bases_of kept databases) found

pub seen_by : {K : Type 0} {g : Ghosts K} {kept : K → Kept} {a : Addresses} {o : Order}
    {databases : List (NamedDatabase K g)} {reached found : Reached} {i j : ℕ} →
    IsNodeHere (name_on o.event_node a.lines) databases reached
    × Reaches a o.event_node (bases_of kept databases) reached → reached ≡ At i →
    IsUpHere (name_on o.id a.lines) databases found × FindsLine a.lines o.id (bases_of kept databases) found →
    found ≡ At j → Seen kept a o databases (At i) (At j)
seen_by {kept = kept} {a} {o} {databases} {reached} {found} {i} {j} (here, reaches) first (there, finds) second =
    subst (Seen kept a o databases (At i)) second (subst (λ r. Seen kept a o databases r found) first
    (record { here = here; reaches = reaches; there = there; finds = finds }))

led_by : {K : Type 0} {g : Ghosts K} {kept : K → Kept} {a : Addresses} {o : Order}
    {databases : List (NamedDatabase K g)} {i j : ℕ} → Seen kept a o databases (At i) (At j) →
    (w : World) (run : Running) → FitsAll w.places (bases_of kept databases) →
    (run.lines ≡ a.lines) × (run.cluster ≡ a.cluster) →
    Led o run w (name_on o.event_node a.lines) (name_on o.id a.lines)
led_by seen w run fits (lines, cluster) =
    record { seat = seen.reaches w fits run lines cluster; line = seen.finds w fits run lines }

-- the database that is to become a node, at its index
pub record Target {K : Type 0} {g : Ghosts K} (databases : List (NamedDatabase K g)) (i : ℕ) : Type 0 where
  pub database : NamedDatabase K g
  pub held : database ≡ get_or databases i database

abbrev pub target_at : {K : Type 0} {g : Ghosts K} (databases : List (NamedDatabase K g)) (i : ℕ)
    (x : NamedDatabase K g) → x ≡ get_or databases i x → Target databases i
target_at databases i x held =
    record { database = get_or databases i x; held = subst (λ z. z ≡ get_or databases i z) held held }

-- what the rules say of its node
target_id : {K : Type 0} {g : Ghosts K} {kept : K → Kept} {a : Addresses} {o : Order}
    {databases : List (NamedDatabase K g)} {i j : ℕ} → Seen kept a o databases (At i) (At j) →
    (t : Target databases j) (w : World) → AreReady w (bases_of kept databases) → (q : Place) →
    find_named (name_on o.id a.lines) w.places ≡ Some q →
    node_id q ≡ option_map (λ i. i.id) t.database.database.state.node.identity
target_id {g = g} {kept} {a} {o} {databases} {i} {j} seen t w ready q found =
    let b = base_of kept t.database.database in
    let held = find_position (named_base {g = g} kept) (name_on o.id a.lines) databases j t.database
    (record { at = seen.there.at; held = t.held }) in
    id_at q b (ready_here (name_on o.id a.lines) b w (bases_of kept databases) q ready held found).fits

-- ---- refusals

-- a refusal that tells of no store, with all as it was
pub runs_refused : (refusal : Refusal) (bases : Named Base) → IsQuiet refusal →
    Runs bases (ReplyRefused refusal) bases
runs_refused refusal bases none = runs_calm (ReplyRefused refusal) bases bases none (tries_itself true bases)

pub reach_refuses : (a : Addresses) (o : Order) (bases : Named Base) (refusal : Refusal) →
    Reaches a o.event_node bases (Refused refusal) → Executes a (due_of o) bases (ReplyRefused refusal) bases
reach_refuses a o bases refusal reaches w run ready lines cluster =
    seat_refused o w run refusal bases (reaches w ready.fits run lines cluster) ready.fits

pub line_refuses : (a : Addresses) (o : Order) (bases : Named Base) (i : ℕ) (refusal : Refusal) →
    Reaches a o.event_node bases (At i) × FindsLine a.lines o.id bases (Refused refusal) →
    Executes a (due_of o) bases (ReplyRefused refusal) bases
line_refuses a o bases i refusal (reaches, finds) w run ready lines cluster =
    line_refused o w run (name_on o.event_node a.lines) refusal bases
    (reaches w ready.fits run lines cluster, finds w ready.fits run lines) ready.fits

pub node_refuses : {K : Type 0} {g : Ghosts K} {kept : K → Kept} {a : Addresses} {o : Order}
    {databases : List (NamedDatabase K g)} {i j : ℕ} (node : ℕ) → Seen kept a o databases (At i) (At j) →
    (t : Target databases j) → option_map (λ i. i.id) t.database.database.state.node.identity ≡ Some node →
    Executes a (due_of o) (bases_of kept databases) (ReplyRefused (refused.AlreadyNode node)) (bases_of kept databases)
node_refuses {kept = kept} {a} {o} {databases} node seen t is w run ready lines cluster =
    let led = led_by seen w run ready.fits (lines, cluster) in
    led_refused o w run (name_on o.event_node a.lines) (name_on o.id a.lines) (refused.AlreadyNode node)
    (bases_of kept databases) (
      (led, is_node_refused o w led.line.place node (target_id seen t w ready led.line.place led.line.found ∙ is)),
      ready.fits,
    )

-- the database is no node
pub record IsFree {K : Type 0} {g : Ghosts K} (databases : List (NamedDatabase K g)) (i : ℕ) : Type 0 where
  pub target : Target databases i
  pub none : is_some target.database.database.state.node.identity ≡ false

abbrev pub free_at : {K : Type 0} {g : Ghosts K} (databases : List (NamedDatabase K g)) (i : ℕ)
    (x : NamedDatabase K g) → x ≡ get_or databases i x →
    is_some (get_or databases i x).database.state.node.identity ≡ false → IsFree databases i
free_at databases i x held none = record { target = target_at databases i x held; none = none }

none_of : {X : Type 0} (f : X → ℕ) (o : Option X) → is_some o ≡ false → option_map f o ≡ None
none_of f None is = refl
none_of f (Some x) is = absurd cc

free_target : {K : Type 0} {g : Ghosts K} {kept : K → Kept} {a : Addresses} {o : Order}
    {databases : List (NamedDatabase K g)} {i j : ℕ} → Seen kept a o databases (At i) (At j) →
    IsFree databases j → (w : World) → AreReady w (bases_of kept databases) → (q : Place) →
    find_named (name_on o.id a.lines) w.places ≡ Some q → node_id q ≡ None
free_target seen free w ready q found =
    target_id seen free.target w ready q found
    ∙ none_of (λ i. i.id) free.target.database.database.state.node.identity free.none

pub down_refuses : {K : Type 0} {g : Ghosts K} {kept : K → Kept} {a : Addresses} {o : Order}
    {databases : List (NamedDatabase K g)} {i j : ℕ} (name : List ℕ) → Seen kept a o databases (At i) (At j) →
    IsFree databases j → IsDownNode (bases_of kept databases) (Some name) →
    Executes a (due_of o) (bases_of kept databases) (ReplyRefused (refused.Down name)) (bases_of kept databases)
down_refuses {kept = kept} {a} {o} {databases} name seen free down w run ready lines cluster =
    let led = led_by seen w run ready.fits (lines, cluster) in
    led_refused o w run (name_on o.event_node a.lines) (name_on o.id a.lines) (refused.Down name)
    (bases_of kept databases) (
      (
        led,
        is_down_refused o w led.line.place (refused.Down name)
            (free_target seen free w ready led.line.place led.line.found) (down w ready.fits),
      ),
      ready.fits,
    )

pub used_refuses : {K : Type 0} {g : Ghosts K} {kept : K → Kept} {a : Addresses} {o : Order}
    {databases : List (NamedDatabase K g)} {i j : ℕ} (news : Named Base) → Seen kept a o databases (At i) (At j) →
    IsFree databases j → IsDownNode (bases_of kept databases) None →
    Hears (OfNode o.id) (bases_of kept databases) (Known true) news →
    Executes a (due_of o) (bases_of kept databases) (ReplyRefused (refused.IdUsed o.id)) news
used_refuses {kept = kept} {a} {o} {databases} news seen free up hears w run ready lines cluster =
    let led = led_by seen w run ready.fits (lines, cluster) in
    let awake = up w ready.fits in
    let heard = hears w ready awake in
    led_refused o w run (name_on o.event_node a.lines) (name_on o.id a.lines) (refused.IdUsed o.id) news (
      (
        led,
        is_used_refused o w led.line.place (free_target seen free w ready led.line.place led.line.found) awake
            heard.0,
      ),
      heard.1,
    )

-- the store of a node stopped that was asked
pub stop_breaks : (a : Addresses) (o : Order) (olds : Named Base) (reply : Reply) (news : Named Base) →
    IsDownNode olds None → Hears (OfNode o.id) olds (Stopped reply) news → Executes a (due_of o) olds reply news
stop_breaks a o olds reply news up hears w run ready lines cluster =
    let broke = hears w ready (up w ready.fits) in
    Breaks broke.name broke.count broke.told broke.can broke.fits

-- ---- the join

pub joinable_seen : {K : Type 0} {g : Ghosts K} {kept : K → Kept} {a : Addresses} {o : Order}
    {databases : List (NamedDatabase K g)} {i j : ℕ} (news : List (NamedDatabase K g)) →
    Seen kept a o databases (At i) (At j) → IsFree databases j →
    AreSame (bases_of kept databases) (bases_of kept news) →
    AreJoinable news (record { from = i; to = j })
joinable_seen {kept = kept} {a} {o} {databases} {i} {j} news seen free same =
    let at : Spots = record { from = i; to = j } in
    let first = name_on o.event_node a.lines in
    let second = name_on o.id a.lines in
    joinable_still kept databases news at same (seen.here, seen.there)
    (joinable databases at first second free.target.database seen.here seen.there (free.target.held, free.none))

-- Nothing speaks against the join, and no node knows of one of this id.
pub record Asked {K : Type 0} {g : Ghosts K} (kept : K → Kept) (a : Addresses) (o : Order)
    (olds news : List (NamedDatabase K g)) (i j : ℕ) : Type 0 where
  pub seen : Seen kept a o olds (At i) (At j)
  pub free : IsFree olds j
  pub runs : TriesAll true None (bases_of kept olds) (bases_of kept news)
  pub same : AreSame (bases_of kept olds) (bases_of kept news)
  pub up : IsDownNode (bases_of kept olds) None
  pub hears : Hears (OfNode o.id) (bases_of kept olds) (Known false) (bases_of kept news)

met_asked : {K : Type 0} {g : Ghosts K} {kept : K → Kept} {a : Addresses} {o : Order}
    {olds news : List (NamedDatabase K g)} {i j : ℕ} → Asked kept a o olds news i j →
    MetAt news (record { from = i; to = j })
met_asked {kept = kept} {a} {o} {olds} {news} {i} {j} asked =
    let first = name_on o.event_node a.lines in
    let second = name_on o.id a.lines in
    record {
      names = record { from = first; to = second };
      from = (node_still kept first olds news i asked.same asked.seen.here).here.at;
      to = (up_still kept second olds news j asked.same asked.seen.there).at;
      joinable = joinable_seen news asked.seen asked.free asked.same;
    }

pub asked_runs : {K : Type 0} {g : Ghosts K} {kept : K → Kept} {a : Addresses} {o : Order}
    {olds mids : List (NamedDatabase K g)} {i j : ℕ} (reply : Reply) (news : List (NamedDatabase K g)) →
    Asked kept a o olds mids i j →
    JoinedAt kept (joiner o.id o.comment) (record { from = i; to = j }) mids reply news →
    Runs (bases_of kept olds) reply (bases_of kept news)
asked_runs {kept = kept} {o = o} {olds} {mids} {i} {j} reply news asked joined =
    runs_then reply (bases_of kept olds) (bases_of kept mids) (bases_of kept news) asked.runs
    (runs_stored kept (joiner o.id o.comment) (record { from = i; to = j }) mids reply news joined (met_asked asked))

pub asked_executes : {K : Type 0} {g : Ghosts K} {kept : K → Kept} {a : Addresses} {o : Order}
    {olds mids : List (NamedDatabase K g)} {i j : ℕ} (reply : Reply) (news : List (NamedDatabase K g)) →
    Asked kept a o olds mids i j →
    JoinedAt kept (joiner o.id o.comment) (record { from = i; to = j }) mids reply news →
    Executes a (due_of o) (bases_of kept olds) reply (bases_of kept news)
unfolding met_asked
asked_executes {kept = kept} {o = o} {olds} {mids} {i} {j} reply news asked joined w run ready lines cluster =
    let awake = asked.up w ready.fits in
    let heard = asked.hears w ready awake in
    comes_stored kept o (record { from = i; to = j }) mids reply news joined (record {
      met = met_asked asked;
      ready = record { fits = heard.1; sound = ready.sound; spelled = ready.spelled };
      led = led_by asked.seen w run ready.fits (lines, cluster);
      awake = awake;
      unknown = heard.0;
    })
