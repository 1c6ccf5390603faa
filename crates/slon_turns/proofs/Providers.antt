-- What a node reads of sets with one provider, on all databases of a session.
use Rattle.std.proofs.Common.{◌≡◌, ◌∙◌, ◌<◌, ℕ, true, false, List, [], ◌∷◌, length, get_or, set, Option, Some, None}
use Rattle.std.proofs.Common.{refl, sym, ap, subst}
use Rattle.std.specs.List.{position}
use Rattle.slon_base.specs.Keeper.{Kept as KeptStore}
use Rattle.slon_base.specs.declared.keeper.Keeper.{Ghosts}
use Rattle.slon_model.specs.declared.reply.Refusal.TheVariants as refused
use Rattle.slon_model.specs.declared.reply.Reply.{Reply}
use Rattle.slon_model.specs.declared.reply.Reply.TheVariants as replied
use Rattle.slon_model.specs.Deeds.{Node}
use Rattle.slon_model.specs.Events.{Event}
use Rattle.slon_model.specs.Logs.{logged}
use Rattle.slon_model.specs.Sessions.{World, Seat, first_refusal, seat}
use Rattle.slon_model.specs.Turns.{at_node}
use Rattle.app_store.specs.Base.{base_of}
use Rattle.app_store.specs.Fits.{Ready}
use Rattle.remote_worker.specs.declared.loading.SetFetch.{SetFetch}
use Rattle.remote_worker.specs.Fetching.{provider_checks}
use Rattle.remote_worker.specs.Loading.{HaveFetches}
use Rattle.remote_worker.specs.Running.{taken_run}
use Rattle.slonik_exec.specs.declared.databases.Named.{Named as NamedDatabase}
use Rattle.slonik_exec.specs.Answering.{AtSeat, Checks}
use Rattle.slonik_exec.specs.Databases.{AreReady, FitsAll, bases_of}
use Rattle.slonik_exec.specs.Heard.{AreDistinct}
use Rattle.slonik_exec.specs.Turning.{SitsOn, is_this}
use Rattle.slonik_exec.proofs.Lifting.{Sits, put_worked, runs_worked, still_all}
use Rattle.slonik_exec.proofs.Seated.{IsFoundAt, Turning, is_some_this, node_up, none_at, turning_at}
use Rattle.slonik_exec.proofs.Seats.{same_up}
use Rattle.slonik_exec.proofs.Stores.{ready_here}
use Rattle.slonik_exec.proofs.Trying.{runs_then, tries_on}
use Rattle.slon_turns.specs.declared.following.Looked.{Looked}
use Rattle.slon_turns.specs.declared.following.Looked.TheVariants.{Told, Gives}
use Rattle.slon_turns.specs.Following.{EndsLook, FollowsAt, FollowsGroup, Group, Reader, RefusedSo, RunsLooked, TakesAt}
use Rattle.slon_turns.specs.Following.{Heeds, LooksTo, Way, followed_group}
use Rattle.slon_turns.specs.Applying.{nodes_at}
use Rattle.slon_turns.specs.Bounds.{start_of}
use Rattle.slon_turns.specs.Planning.{link_checks}
use Rattle.slon_turns.proofs.Follows.{Asking, calm_provider, ends_look, is_own_name, is_provider, kept_by, kept_down}
use Rattle.slon_turns.proofs.Follows.{kept_missed, kept_reached, kept_refused, looked_same, same_then}
use Rattle.slon_turns.proofs.Known.{start_ended}
use Rattle.slon_turns.proofs.Linking.{calm_link}
use Rattle.slon_turns.proofs.Mids.{LookedAt, found_here, mids_ready, mids_try, worked_here}
use Rattle.slon_turns.proofs.Taking.{one_here}
use Rattle.slon_turns.proofs.Turned.{own_id}

-- ---- over every store

-- What was done at one database of a list.
pub record DoneAt {K : Type 0} {g : Ghosts K} (kept : K → KeptStore) (ds : List (NamedDatabase K g)) (i : ℕ)
    (x y : NamedDatabase K g) : Type 0 where
  pub distinct : AreDistinct (bases_of kept ds)
  pub inside : i < length ds
  pub held : x ≡ get_or ds i x
  pub name : y.name ≡ x.name

pub look_done : {K : Type 0} {g : Ghosts K} {kept : K → KeptStore} {ds : List (NamedDatabase K g)} {i : ℕ}
    {x y : NamedDatabase K g} → DoneAt kept ds i x y →
    Checks x.name (base_of kept x.database) None (base_of kept y.database) → LookedAt kept ds i x y
look_done d checks = record {
  distinct = d.distinct;
  inside = d.inside;
  held = d.held;
  name = d.name;
  acts = checks.0;
  same = checks.1;
}

pub runs_taken : {K : Type 0} {g : Ghosts K} {kept : K → KeptStore} {ds : List (NamedDatabase K g)} {i : ℕ}
    {x y : NamedDatabase K g} (r : Reader) (k : Group) (given : Looked (List SetFetch)) → DoneAt kept ds i x y →
    TakesAt r k x.name (base_of kept x.database) given (base_of kept y.database) →
    RunsLooked (bases_of kept ds) given (bases_of kept (set ds i y))
runs_taken {kept = kept} {ds} {i} {x} {y} r k (Told reply) d takes =
    runs_worked reply (worked_here kept ds i x y d.distinct (d.inside, d.held) d.name) takes.0
runs_taken r k (Gives fetches) d takes = let look = look_done d takes.0 in (mids_try look, looked_same look)

-- a look that passed, and then what was read
pub runs_behind : {K T : Type 0} {g : Ghosts K} {kept : K → KeptStore} {ds : List (NamedDatabase K g)} {i : ℕ}
    {x y : NamedDatabase K g} (news : List (NamedDatabase K g)) (given : Looked T) → LookedAt kept ds i x y →
    RunsLooked (bases_of kept (set ds i y)) given (bases_of kept news) →
    RunsLooked (bases_of kept ds) given (bases_of kept news)
runs_behind {kept = kept} {ds} {i} {y = y} news (Told reply) look runs =
    runs_then reply (bases_of kept ds) (bases_of kept (set ds i y)) (bases_of kept news) (mids_try look) runs
runs_behind {kept = kept} {ds} {i} {y = y} news (Gives x) look runs = (
  tries_on true None (bases_of kept ds) (bases_of kept (set ds i y)) (bases_of kept news) (mids_try look) runs.0,
  same_then (bases_of kept ds) (bases_of kept (set ds i y)) (bases_of kept news) (looked_same look) runs.1,
)

-- ---- at a node that reaches the provider

abbrev asking : World → Seat → Reader → Group → Asking
asking w s r k = record { memory = w.memory; seat = s; event = r.event; sets = k }

-- no database is the provider
pub follows_missed : {K : Type 0} {g : Ghosts K} (kept : K → KeptStore) (r : Reader) (k : Group)
    (ds : List (NamedDatabase K g)) → position (is_this k.first.provider) ds ≡ None →
    FollowsAt kept r k ds (Told (replied.Refused (refused.NoNode k.first.provider))) ds
follows_missed kept r k ds none w s ready own reach past =
    RefusedSo (refused.NoNode k.first.provider)
    (kept_missed (asking w s r k) (at_node k.first.provider w) reach
    (none_at kept k.first.provider w.places ds ready.fits none)) refl refl ready.fits

-- it is down
pub follows_down : {K : Type 0} {g : Ghosts K} {kept : K → KeptStore} {ds : List (NamedDatabase K g)} {to : ℕ}
    {q : NamedDatabase K g} (r : Reader) (k : Group) → Turning kept k.first.provider ds to q →
    q.database.state.up ≡ false →
    FollowsAt kept r k ds (Told (replied.Refused (refused.Down q.name))) ds
follows_down {kept = kept} {q = q} r k t down w s ready own reach past =
    let there = turning_at w.places t ready.fits in
    RefusedSo (refused.Down q.name)
    (kept_down (asking w s r k) (at_node k.first.provider w) (q.name, there.place) reach there.first
    (sym (same_up there.place (base_of kept q.database) there.fits) ∙ down)) refl refl ready.fits

-- What a provider that is up is by the rules, as a node reads at it.
record Read {K : Type 0} {g : Ghosts K} (kept : K → KeptStore) (w : World) (a : Asking)
    (ds : List (NamedDatabase K g)) (q : NamedDatabase K g) : Type 0 where
  there : IsFoundAt kept a.sets.first.provider w.places q
  node : Node
  is : there.place.node ≡ Some node
  here : Ready there.place (base_of kept q.database)
  sits : Sits w q.name there.place (bases_of kept ds)
  due : followed_group a.memory a.seat a.event (nodes_at w) a.sets
      ≡ kept_by a (seat q.name there.place node)
      (first_refusal (provider_checks a.seat.node.id a.sets.first.provider a.event node))

read_at : {K : Type 0} {g : Ghosts K} {kept : K → KeptStore} {ds : List (NamedDatabase K g)} {to : ℕ}
    {q z : NamedDatabase K g} (w : World) (a : Asking) →
    Turning kept a.sets.first.provider ds to q × DoneAt kept ds to q z → q.database.state.up ≡ true →
    AreReady w (bases_of kept ds) × (a.memory ≡ w.memory) →
    first_refusal (link_checks a.seat.node.id a.sets.first.provider a.memory.cuts a.seat) ≡ None → Read kept w a ds q
read_at {kept = kept} {ds} {to} {q} w a (t, d) up (ready, same) reach =
    let there = turning_at w.places t ready.fits in
    let node = node_up w.places there up (is_some_this {kept = kept} t) in
    let running = sym (same_up there.place (base_of kept q.database) there.fits) ∙ up in
    record {
      there = there;
      node = node.0;
      is = node.1;
      here = ready_here q.name (base_of kept q.database) w (bases_of kept ds) there.place ready
          (found_here kept ds to q d.distinct (d.inside, d.held)) there.found;
      sits = record { found = there.found; running = running; fits = ready.fits };
      due = kept_reached a (at_node a.sets.first.provider w) (q.name, there.place) node.0 reach there.first
          (running, node.1);
    }

-- it is up, and was read
pub follows_taken : {K : Type 0} {g : Ghosts K} {kept : K → KeptStore} {ds : List (NamedDatabase K g)} {to : ℕ}
    {q z : NamedDatabase K g} (r : Reader) (k : Group) (given : Looked (List SetFetch)) →
    Turning kept k.first.provider ds to q × DoneAt kept ds to q z → q.database.state.up ≡ true →
    TakesAt r k q.name (base_of kept q.database) given (base_of kept z.database) →
    FollowsAt kept r k ds given (set ds to z)
follows_taken {kept = kept} {ds} {to} {q} {z} r k (Told reply) (t, d) up takes w s ready own reach past =
    let a = asking w s r k in
    let x : Read kept w a ds q = read_at {z = z} w a (t, d) up (ready, refl) reach in
    let due = x.due ∙ ap (λ id. kept_by a (seat q.name x.there.place x.node)
    (first_refusal (provider_checks id k.first.provider r.event x.node))) own in
    subst (EndsLook w s.name (k.first.provider ∷ []) (followed_group w.memory s r.event (nodes_at w) k) reply)
    (put_worked (worked_here kept ds to q z d.distinct (d.inside, d.held) d.name))
    (ends_look {checks = provider_checks r.node k.first.provider r.event x.node} (record {
      refuses = λ refusal first. (
        due ∙ ap (kept_by a (seat q.name x.there.place x.node)) first,
        calm_provider r.node k.first.provider r.event x.node refusal first,
      );
      named = is_provider q.name s.name x.there.place (at_node k.first.provider w) x.there.first;
    }) x.sits (takes.1 x.there.place x.node x.here x.is (past q.name x.there.place x.there.found)))
follows_taken {kept = kept} {ds} {to} {q} {z} r k (Gives fetches) (t, d) up takes w s ready own reach past =
    let a = asking w s r k in
    let x : Read kept w a ds q = read_at {z = z} w a (t, d) up (ready, refl) reach in
    let passed = takes.1 x.there.place x.node x.here x.is (past q.name x.there.place x.there.found) in (
      taken_run r.event (logged x.node) k.all,
      x.due
          ∙ ap (λ id. kept_by a (seat q.name x.there.place x.node)
          (first_refusal (provider_checks id k.first.provider r.event x.node))) own
          ∙ ap (kept_by a (seat q.name x.there.place x.node)) passed.0,
      passed.2,
      subst (FitsAll w.places) (put_worked (worked_here kept ds to q z d.distinct (d.inside, d.held) d.name))
          (still_all {w = w} x.sits passed.1),
    )

-- ---- with the link to it

-- What was looked up of the link, at the node's own database.
pub record Linked {K : Type 0} {g : Ghosts K} (kept : K → KeptStore) (t : Way) (k : Group)
    (ds : List (NamedDatabase K g)) (x y : NamedDatabase K g) (found : Option Reply) : Type 0 where
  pub done : DoneAt kept ds t.index x y
  pub checks : Checks x.name (base_of kept x.database) found (base_of kept y.database)
  pub refuses : AtSeat x.name (link_checks t.node k.first.provider t.cuts) (base_of kept x.database) found
      (base_of kept y.database)

-- the checks are those of the seat of the node
links_as : {w : World} {name : List ℕ} (t : Way) (k : Group) → Heeds t w → (s : SitsOn t.node w name) →
    link_checks s.own.id k.first.provider w.memory.cuts (seat name s.place s.own)
    ≡ link_checks t.node k.first.provider t.cuts (seat name s.place s.own)
links_as {w} {name} t k heeds s =
    ap (λ id. link_checks id k.first.provider w.memory.cuts (seat name s.place s.own)) (own_id t.node w name s)
    ∙ ap (λ c. link_checks t.node k.first.provider c (seat name s.place s.own)) heeds.cuts

own_ready : {K : Type 0} {g : Ghosts K} {kept : K → KeptStore} {ds : List (NamedDatabase K g)}
    {x y : NamedDatabase K g} {w : World} (t : Way) → DoneAt kept ds t.index x y → AreReady w (bases_of kept ds) →
    (s : SitsOn t.node w x.name) → Ready s.place (base_of kept x.database)
own_ready {kept = kept} {ds} {x} {w = w} t d ready s =
    ready_here x.name (base_of kept x.database) w (bases_of kept ds) s.place ready
    (found_here kept ds t.index x d.distinct (d.inside, d.held)) s.found

-- the node does not reach the provider, or its own store failed
pub link_ended : {K : Type 0} {g : Ghosts K} {kept : K → KeptStore} {ds : List (NamedDatabase K g)} {t : Way}
    {x y : NamedDatabase K g} {reply : Reply} (e : Event) (k : Group) → Linked kept t k ds x y (Some reply) →
    FollowsGroup kept t e k ds (Told reply) (set ds t.index y)
link_ended {kept = kept} {ds} {t} {x} {y} {reply} e k l w d ready heeds is =
    subst (λ z. (s : SitsOn t.node w z.name) → EndsLook w z.name (k.first.provider ∷ [])
    (followed_group w.memory (seat z.name s.place s.own) e (nodes_at w) k) reply (bases_of kept (set ds t.index y)))
    (sym (one_here ds t.index x d (l.done.inside, l.done.held) is))
    (λ s.
    let p = seat x.name s.place s.own in
    let a : Asking = record { memory = w.memory; seat = p; event = e; sets = k } in
    subst (EndsLook w x.name (k.first.provider ∷ []) (followed_group w.memory p e (nodes_at w) k) reply)
    (put_worked (worked_here kept ds t.index x y l.done.distinct (l.done.inside, l.done.held) l.done.name))
    (ends_look {checks = link_checks t.node k.first.provider t.cuts p} (record {
      refuses = λ refusal first. (
        kept_refused a (at_node k.first.provider w) refusal (ap first_refusal (links_as t k heeds s) ∙ first),
        calm_link t.node k.first.provider t.cuts p refusal first,
      );
      named = is_own_name x.name _;
    }) (record { found = s.found; running = s.running; fits = ready.fits })
    (l.refuses s.place s.own (own_ready {y = y} t l.done ready s) s.is)))

-- it reaches it
pub link_passed : {K : Type 0} {g : Ghosts K} {kept : K → KeptStore} {ds : List (NamedDatabase K g)} {t : Way}
    {x y : NamedDatabase K g} (news : List (NamedDatabase K g)) (e : Event) (k : Group)
    (given : Looked (List SetFetch)) →
    Linked kept t k ds x y None →
    FollowsAt kept
    (record { node = t.node; event = e; known = start_of e.origin k.first.before.seen.xmin t.bounds }) k
    (set ds t.index y) given news →
    FollowsGroup kept t e k ds given news
link_passed {kept = kept} {ds} {t} {x} {y} news e k given l follows w d ready heeds is =
    subst (λ z. (s : SitsOn t.node w z.name) → LooksTo (HaveFetches e.origin) w z.name (k.first.provider ∷ [])
    (followed_group w.memory (seat z.name s.place s.own) e (nodes_at w) k) given (bases_of kept news))
    (sym (one_here ds t.index x d (l.done.inside, l.done.held) is))
    (λ s.
    let passed = l.refuses s.place s.own (own_ready {y = y} t l.done ready s) s.is in
    follows w (seat x.name s.place s.own)
    (mids_ready (look_done l.done l.checks) ready (s.found, s.running) passed.1) (own_id t.node w x.name s)
    (ap first_refusal (links_as t k heeds s) ∙ passed.0)
    (start_ended w e.origin k.first.before.seen.xmin t.bounds heeds.bounds))
