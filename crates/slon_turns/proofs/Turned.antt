-- A turn by which a node polls another one is one that the rules allow.
use Rattle.std.proofs.Common.{◌≡◌, ◌∙◌, ◌<◌, ℕ, ◌==◌, ◌||◌, Bool, true, false, cond, List, [], ◌∷◌, Option, Some}
use Rattle.std.proofs.Common.{None}
use Rattle.std.proofs.Common.{Err, refl, sym, ap, subst, get_or, length}
use Rattle.std.proofs.lemmas.Bool.{false≢true}
use Rattle.std.proofs.lemmas.List.{get_or_default}
use Rattle.std.proofs.lemmas.List.Quantifiers.{position-Some}
use Rattle.std.specs.Prelude.{find}
use Rattle.std.specs.FinMap.{get, insert, remove}
use Rattle.std.specs.List.{position}
use Rattle.std.specs.Option.{option_map, option_or}
use Rattle.std.specs.Str.{bytes_eq}
use Rattle.slon_base.specs.Keeper.{Kept as KeptStore}
use Rattle.slon_base.specs.declared.keeper.Keeper.{Ghosts}
use Rattle.slon_model.specs.declared.reply.Refusal.{Refusal}
use Rattle.slon_model.specs.declared.reply.Refusal.TheVariants as refused
use Rattle.slon_model.specs.declared.reply.Reply.{Reply}
use Rattle.slon_model.specs.declared.reply.Reply.TheVariants as replied
use Rattle.slon_model.specs.Deeds.{Node, knowledge}
use Rattle.slon_model.specs.Place.{Place, node_id}
use Rattle.slon_model.specs.Sessions.{World, bind, seat}
use Rattle.slon_model.specs.Turns.{is_id, at_node}
use Rattle.slon_model.specs.Config.{heard_in}
use Rattle.slon_model.specs.Polls.{is_empty, poll_at, polled, stated_of}
use Rattle.slon_model.specs.World.{is_of}
use Rattle.set_config.proofs.Entries.{eq_of, self_eq}
use Rattle.event_store.specs.declared.queue.Queue.{Queue}
use Rattle.app_store.specs.Base.{base_of}
use Rattle.slonik_exec.specs.declared.databases.Named.{Named as NamedDatabase}
use Rattle.slonik_exec.specs.declared.membership.Spots.{Spots}
use Rattle.slonik_exec.specs.declared.reaching.Reached.TheVariants.{At, Refused}
use Rattle.slonik_exec.specs.Databases.{AreReady, Runs, bases_of, told_by}
use Rattle.slonik_exec.specs.Executing.{Comes, Refuses}
use Rattle.slonik_exec.specs.Heard.{AreDistinct}
use Rattle.slonik_exec.specs.Stored.{couple_of, pair_of}
use Rattle.slonik_exec.specs.Turning.{is_this, IsSeatHere, SitsOn, HasTurn}
use Rattle.slonik_exec.proofs.Seated.{IsFoundAt, turning_at, alone_at, found_inside, none_at, is_some_this}
use Rattle.slonik_exec.proofs.Stores.{ChangedAt, Whole, whole_at, ready_here}
use Rattle.slon_turns.specs.declared.polling.Listen.{Listen}
use Rattle.slon_turns.specs.Pairing.{AreMeeting, PolledAt}
use Rattle.slon_turns.specs.Polling.{left_when, Meeting, due_in}
use Rattle.slon_turns.specs.declared.held.Held.{Held}
use Rattle.slon_turns.specs.Holding.{Holdings, IsTaken, KeepsIn, WaitsIn}
use Rattle.slon_turns.specs.Turning.{Kept, Polls}
use Rattle.slon_turns.proofs.Due.{unlisted}
use Rattle.slon_turns.proofs.Left.{fetches_left, own_poll, waits_left, waits_between}
use Rattle.slon_turns.proofs.Lifted.{runs_between, told_of_two, comes_between}
use Rattle.slon_turns.proofs.Listens.{left_refused}
use Rattle.slon_turns.proofs.Waiting.{keeps_on, taken_keeps, taken_waits}

-- ---- refusals

-- the poll is refused before it reaches both databases
pub refused_polls : (l : Listen) (started : List ℕ) (old : Kept) (refusal : Refusal) →
    told_by (replied.Refused refusal) ≡ None →
    ((w : World) → AreReady w old.bases → w.memory.started ≡ started → polled l.node l.server w ≡ Err refusal) →
    Polls l started old (replied.Refused refusal) old
refused_polls l started old refusal calm is w ready on cut holds = record {
  comes = Refuses refusal (ap (stated_of l.delivery) (is w ready on)) refl ready.fits;
  own = λ name halt told. let none = calm in absurd cc;
  waits = λ name here. subst (λ m. WaitsIn name m (get old.held name))
      (sym (left_refused l.delivery (polled l.node l.server w) refusal w.memory)) here;
  keeps = λ name here. subst (λ m. KeepsIn name m (get old.held name))
      (sym (left_refused l.delivery (polled l.node l.server w) refusal w.memory)) here;
}

-- the turn is refused
pub turn_refused : {K : Type 0} {g : Ghosts K} (kept : K → KeptStore) (l : Listen) (started : List ℕ)
    (ds : List (NamedDatabase K g)) (held : Holdings) (refusal : Refusal) →
    (told_by (replied.Refused refusal) ≡ None) × HasTurn kept l.node started ds (Refused refusal) →
    let old : Kept = record { bases = bases_of kept ds; held = held } in
    Polls l started old (replied.Refused refusal) old
turn_refused kept l started ds held refusal (calm, turns) =
    refused_polls l started (record { bases = bases_of kept ds; held = held }) refusal calm
    (λ w ready on. ap (λ r. bind r (λ s. poll_at l.server w.memory s (at_node l.server w))) (turns w ready.fits on))

-- what is polled at the seat of the node, and the server as it is found
polled_at : {node : ℕ} {w : World} {name : List ℕ} (server : ℕ) (s : SitsOn node w name)
    (found : Option (List ℕ × Place)) → at_node server w ≡ found →
    polled node server w ≡ poll_at server w.memory (seat name s.place s.own) found
polled_at {w = w} {name} server s found is =
    ap (λ r. bind r (λ s. poll_at server w.memory s (at_node server w))) s.due
    ∙ ap (poll_at server w.memory (seat name s.place s.own)) is

-- something stands where a node was found
held_one : {K : Type 0} {g : Ghosts K} (node : ℕ) (ds : List (NamedDatabase K g)) (i : ℕ) →
    position (is_this node) ds ≡ Some i → (d : NamedDatabase K g) × (d ≡ get_or ds i d)
held_one node [] i at = absurd cc
held_one node (x ∷ xs) i at = (
  get_or (x ∷ xs) i x,
  get_or_default (x ∷ xs) i x (get_or (x ∷ xs) i x) (found_inside (is_this node) (x ∷ xs) i x at),
)

-- no database is the server
pub server_missed : {K : Type 0} {g : Ghosts K} (kept : K → KeptStore) (l : Listen) (started : List ℕ)
    (ds : List (NamedDatabase K g)) (held : Holdings) (i : ℕ) → position (is_this l.server) ds ≡ None →
    HasTurn kept l.node started ds (At i) × (position (is_this l.node) ds ≡ Some i) →
    let old : Kept = record { bases = bases_of kept ds; held = held } in
    Polls l started old (replied.Refused (refused.NoNode l.server)) old
server_missed kept l started ds held i none (turns, at) =
    let own = held_one l.node ds i at in
    refused_polls l started (record { bases = bases_of kept ds; held = held }) (refused.NoNode l.server) refl
    (λ w ready on. polled_at l.server (turns w ready.fits on own.0 own.1) None
    (none_at kept l.server w.places ds ready.fits none))

-- the test of what was found
found_test : {X : Type 0} (p : X → Bool) (xs : List X) (x : X) → find p xs ≡ Some x → p x ≡ true
found_test p [] x found = absurd cc
found_test p (y ∷ ys) x found = by (p y) refl (found_test p ys x) found
  where
    by : (b : Bool) → p y ≡ b → (find p ys ≡ Some x → p x ≡ true) → cond b (Some y) (find p ys) ≡ Some x →
        p x ≡ true
    by true is rest here = let same : y ≡ x = cc in subst (λ z. p z ≡ true) same is
    by false is rest later = rest later

-- the id of the node of a place
some_id : (id : ℕ) (o : Option ℕ) → is_id id o ≡ true → o ≡ Some id
some_id id None is = absurd (false≢true is)
some_id id (Some own) is = ap (λ x. Some x) (eq_of own id is)

pub place_id : (node : ℕ) (w : World) (name : List ℕ) (p : Place) → at_node node w ≡ Some (name, p) →
    node_id p ≡ Some node
place_id node w name p at =
    some_id node (node_id p) (found_test (λ e. is_id node (node_id e.1)) w.places (name, p) at)

pub own_id : (node : ℕ) (w : World) (name : List ℕ) (s : SitsOn node w name) → s.own.id ≡ node
own_id node w name s =
    let some : Some s.own.id ≡ Some node
    = sym (ap (λ (o : Option Node). option_or (option_map (λ m. m.id) o) s.place.promised) s.is)
    ∙ place_id node w name s.place s.at in
    cc

-- the node is named as its own server
pub self_listed : {K : Type 0} {g : Ghosts K} (kept : K → KeptStore) (l : Listen) (started : List ℕ)
    (ds : List (NamedDatabase K g)) (held : Holdings) (i : ℕ) → l.server ≡ l.node →
    HasTurn kept l.node started ds (At i) × (position (is_this l.node) ds ≡ Some i) →
    let old : Kept = record { bases = bases_of kept ds; held = held } in
    Polls l started old (replied.Refused (refused.NotListed l.server)) old
self_listed kept l started ds held i same (turns, at) =
    refused_polls l started (record { bases = bases_of kept ds; held = held }) (refused.NotListed l.server) refl
    (λ w ready on.
    let own = held_one l.node ds i at in
    let d = own.0 in
    let s = turns w ready.fits on d own.1 in
    polled_at l.server s (Some (d.name, s.place)) (ap (λ n. at_node n w) same ∙ s.at)
    ∙ unlisted (record {
      server = l.server;
      memory = w.memory;
      seat = seat d.name s.place s.own;
      found = (d.name, s.place);
    }) (ap (λ b. b || is_empty (heard_in s.own.id l.server (knowledge s.own).config))
    (ap (λ n. n == s.own.id) (same ∙ sym (own_id l.node w d.name s)) ∙ self_eq s.own.id)))

-- ---- at two places

-- The places of the node that has its turn, and of the server, which is another node.
pub record Found {K : Type 0} {g : Ghosts K} (kept : K → KeptStore) (l : Listen) (started : List ℕ)
    (ds : List (NamedDatabase K g)) (at : Spots) : Type 0 where
  pub distinct : AreDistinct (bases_of kept ds)
  pub own_at : position (is_this l.node) ds ≡ Some at.from
  pub server_at : position (is_this l.server) ds ≡ Some at.to
  pub turns : HasTurn kept l.node started ds (At at.from)
  pub apart : l.server ≡ l.node → ⊥

one_id : (a b : ℕ) (o : Option ℕ) → is_id a o ≡ true → is_id b o ≡ true → a ≡ b
one_id a b o first second =
    let some : Some a ≡ Some b = sym (some_id a o first) ∙ some_id b o second in
    cc

pub places_apart : {K : Type 0} {g : Ghosts K} {kept : K → KeptStore} {l : Listen} {started : List ℕ}
    {ds : List (NamedDatabase K g)} {at : Spots} (d : NamedDatabase K g) → Found kept l started ds at →
    at.from ≡ at.to → ⊥
places_apart {l = l} {ds = ds} {at} d f same =
    let server = (position-Some (is_this l.server) ds at.to d f.server_at).1 in
    let own = (position-Some (is_this l.node) ds at.from d f.own_at).1 in
    f.apart (one_id l.server l.node _ (subst (λ i. is_this l.server (get_or ds i d) ≡ true) (sym same) server) own)

pub meeting_at : {K : Type 0} {g : Ghosts K} {kept : K → KeptStore} {l : Listen} {started : List ℕ}
    {ds : List (NamedDatabase K g)} {at : Spots} → Found kept l started ds at → (d : NamedDatabase K g) →
    IsSeatHere {g = g} ds (At at.from) → AreMeeting ds at
meeting_at {kept = kept} {l} {ds = ds} {at} f d here = record {
  inside = here.0;
  other = found_inside (is_this l.server) ds at.to d f.server_at;
  apart = places_apart d f;
  up = λ x held. (here.1 x held).here.up x held;
  node = λ x held. (here.1 x held).node x held;
  server = λ x held. is_some_this {kept = kept} (record { at = f.server_at; held = held; distinct = f.distinct });
}

name_first : {K : Type 0} {g : Ghosts K} (kept : K → KeptStore) (ds : List (NamedDatabase K g)) (i : ℕ)
    (d : NamedDatabase K g) → AreDistinct (bases_of kept ds) → i < length ds → d ≡ get_or ds i d →
    position (λ x. bytes_eq d.name x.name) ds ≡ Some i
name_first kept ds i d distinct inside held =
    subst (λ e. position (λ x. bytes_eq e.name x.name) ds ≡ Some i) (sym held) (alone_at kept ds i d distinct inside).at

abbrev changed : {K : Type 0} {g : Ghosts K} {kept : K → KeptStore} {l : Listen} {at : Spots}
    {old new : List (NamedDatabase K g) × Queue} {reply : Reply} → PolledAt kept (l, at) old reply new →
    ChangedAt {g = g} at old.0 new.0
changed p = record {
  from_old = p.own_old;
  from_new = p.own_new;
  to_old = p.server_old;
  to_new = p.server_new;
  from_held = p.own_held;
  to_held = p.server_held;
  from_name = p.own_name;
  to_name = p.server_name;
  is = p.is;
}

pub both : {K : Type 0} {g : Ghosts K} {kept : K → KeptStore} {l : Listen} {started : List ℕ} {at : Spots}
    {old new : List (NamedDatabase K g) × Queue} {reply : Reply} (p : PolledAt kept (l, at) old reply new) →
    Found kept l started old.0 at →
    Whole kept old.0 new.0 (record { from = p.own_old.name; to = p.server_old.name })
    (couple_of kept p.own_old p.server_old) (pair_of kept p.own_new p.server_new)
both {kept = kept} {l} {at = at} {old} {new} p f =
    whole_at kept at old.0 new.0 (changed p) (record {
      names = record { from = p.own_old.name; to = p.server_old.name };
      from = name_first kept old.0 at.from p.own_old f.distinct
          (found_inside (is_this l.node) old.0 at.from p.own_old f.own_at) p.own_held;
      to = name_first kept old.0 at.to p.server_old f.distinct
          (found_inside (is_this l.server) old.0 at.to p.server_old f.server_at) p.server_held;
      apart = places_apart p.own_old f;
    })

pub runs_polled : {K : Type 0} {g : Ghosts K} {kept : K → KeptStore} {l : Listen} {started : List ℕ} {at : Spots}
    {old new : List (NamedDatabase K g) × Queue} {reply : Reply} → PolledAt kept (l, at) old reply new →
    Found kept l started old.0 at → Runs (bases_of kept old.0) reply (bases_of kept new.0)
runs_polled {kept = kept} {old = old} {reply = reply} p f =
    let all = both p f in
    subst (Runs (bases_of kept old.0) reply) (sym all.is)
    (runs_between (bases_of kept old.0) (couple_of kept p.own_old p.server_old) reply
    (pair_of kept p.own_new p.server_new) all.two p.runs)

-- what a poll came to at both places is what the turn comes to
pub polls_polled : {K : Type 0} {g : Ghosts K} {kept : K → KeptStore} {l : Listen} {started : List ℕ} {at : Spots}
    {olds : List (NamedDatabase K g)} {new : List (NamedDatabase K g) × Queue} {reply : Reply} (own : Held)
    (held : Holdings) (p : PolledAt kept (l, at) (olds, own.queue) reply new) → Found kept l started olds at →
    IsTaken (get held p.own_old.name) own →
    Polls l started (record { bases = bases_of kept olds; held = held }) reply
    (record {
      bases = bases_of kept new.0;
      held = insert (remove held p.own_old.name) p.own_old.name (record own { queue = new.1 });
    })
polls_polled {kept = kept} {l} {at = at} {olds} {new} {reply} own held p f taken w ready on cut holds =
    let couple = couple_of kept p.own_old p.server_old in
    let pair = pair_of kept p.own_new p.server_new in
    let all = both p f in
    let sits = f.turns w ready.fits on p.own_old p.own_held in
    let there : IsFoundAt kept l.server w.places p.server_old =
    turning_at w.places (record { at = f.server_at; held = p.server_held; distinct = f.distinct }) ready.fits in
    let meeting : Meeting l couple own.queue = record {
      spot = record { delivery = l.delivery; name = p.own_old.name; place = sits.place; memory = w.memory };
      node = sits.own;
      server = there.place;
      named = refl;
      delivery = refl;
      fits = record {
        ready = ready_here p.own_old.name (base_of kept p.own_old.database) w (bases_of kept olds)
            sits.place ready all.two.from sits.found;
        is = sits.is;
        waits = taken_waits p.own_old.name w.memory (get held p.own_old.name) own taken
            (holds.waits p.own_old.name sits.place sits.found sits.running);
      };
      own = own_id l.node w p.own_old.name sits;
      cut = cut;
      ready = ready_here p.server_old.name (base_of kept p.server_old.database) w (bases_of kept olds)
          there.place ready all.two.to there.found;
      id = place_id l.server w p.server_old.name there.place there.first;
    } in
    let listens = p.listens meeting in
    let due_is : polled l.node l.server w ≡ due_in meeting =
    polled_at l.server sits (Some (p.server_old.name, there.place)) there.first in
    record {
      comes = subst (λ due. Comes w (stated_of l.delivery due) reply (bases_of kept new.0)) (sym due_is)
          (subst (Comes w (stated_of l.delivery (due_in meeting)) reply) (sym all.is)
          (comes_between {c = couple} (due_in meeting) reply pair new.1 (record {
            fits = ready.fits;
            named = refl;
            from = sits.found;
            to = there.found;
            running = sits.running;
            apart = all.two.apart;
          }) listens));
      own = λ name halt told.
          ap (λ o. is_of name o || is_of name (at_node l.server w)) sits.at
          ∙ ap (λ o. bytes_eq name p.own_old.name || is_of name o) there.first
          ∙ told_of_two couple reply pair name halt p.runs told;
      waits = λ name here. subst (λ due. WaitsIn name (left_when l.delivery due reply w.memory)
          (get (insert (remove held p.own_old.name) p.own_old.name (record own { queue = new.1 })) name)) (sym due_is)
          (waits_left w.memory held (record {
            delivery = l.delivery;
            name = p.own_old.name;
            due = due_in meeting;
            reply = reply;
            held = record own { queue = new.1 };
            own = record {
              own = λ b is. ap (λ s. s.name)
                  (own_poll l.server w.memory (seat p.own_old.name sits.place sits.own)
                  (Some (p.server_old.name, there.place)) b is);
            };
            here = waits_between listens;
          }) name here);
      keeps = λ name here. keeps_on w.memory (left_when l.delivery (polled l.node l.server w) reply w.memory) held
          p.own_old.name (record own { queue = new.1 }) (
            fetches_left l.delivery (polled l.node l.server w) reply w.memory,
            taken_keeps p.own_old.name w.memory (get held p.own_old.name) own taken
                (holds.keeps p.own_old.name sits.place sits.found sits.running),
          ) name here;
    }

-- the same under a key that is its name
pub polls_under : {K : Type 0} {g : Ghosts K} {kept : K → KeptStore} {l : Listen} {started : List ℕ} {at : Spots}
    {olds : List (NamedDatabase K g)} {new : List (NamedDatabase K g) × Queue} {reply : Reply} (own : Held)
    (held : Holdings) (key : List ℕ) (p : PolledAt kept (l, at) (olds, own.queue) reply new) →
    Found kept l started olds at → (key ≡ p.own_old.name) × IsTaken (get held key) own →
    Polls l started (record { bases = bases_of kept olds; held = held }) reply
    (record { bases = bases_of kept new.0; held = insert (remove held key) key (record own { queue = new.1 }) })
polls_under {kept = kept} {l} {started} {olds = olds} {new} {reply} own held key p f (same, taken) =
    subst (λ n. Polls l started (record { bases = bases_of kept olds; held = held }) reply
    (record { bases = bases_of kept new.0; held = insert (remove held n) n (record own { queue = new.1 }) })) (sym same)
    (polls_polled own held p f (subst (λ n. IsTaken (get held n) own) same taken))

-- the name of what stands at the place of the node
pub own_named : {K : Type 0} {g : Ghosts K} {kept : K → KeptStore} {l : Listen} {started : List ℕ} {at : Spots}
    {old new : List (NamedDatabase K g) × Queue} {reply : Reply} (p : PolledAt kept (l, at) old reply new) →
    Found kept l started old.0 at → (d : NamedDatabase K g) → (get_or old.0 at.from d).name ≡ p.own_old.name
own_named {l = l} {at = at} {old = old} p f d =
    ap (λ x. x.name) (get_or_default old.0 at.from d p.own_old (found_inside (is_this l.node) old.0 at.from d f.own_at)
    ∙ sym p.own_held)
