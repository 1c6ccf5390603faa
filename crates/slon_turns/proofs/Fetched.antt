-- What the turn of a node comes to that brings something, on all databases of a session.
use Rattle.std.proofs.Common.{◌≡◌, ◌∙◌, ◌||◌, ℕ, true, false, List, Option, Some, None, Result, Err}
use Rattle.std.proofs.Common.{get_or, refl, sym, ap, subst}
use Rattle.std.proofs.lemmas.Bool.{false≢true}
use Rattle.std.proofs.lemmas.List.{get_or_default}
use Rattle.std.proofs.lemmas.List.Quantifiers.{position-Some}
use Rattle.std.specs.List.{position}
use Rattle.std.specs.Option.{option_map, option_or}
use Rattle.std.specs.Str.{bytes_eq}
use Rattle.slon_base.specs.Keeper.{Kept}
use Rattle.slon_base.specs.declared.keeper.Keeper.{Ghosts}
use Rattle.slon_model.specs.declared.reply.Refusal.{Refusal}
use Rattle.slon_model.specs.declared.reply.Refusal.TheVariants as refused
use Rattle.slon_model.specs.declared.reply.Reply.{Reply}
use Rattle.slon_model.specs.declared.reply.Reply.TheVariants as replied
use Rattle.slon_model.specs.Names.{Named, put_named}
use Rattle.slon_model.specs.Deeds.{Node}
use Rattle.slon_model.specs.Place.{Place, node_id}
use Rattle.slon_model.specs.Sessions.{World}
use Rattle.slon_model.specs.Turns.{at_node, is_id}
use Rattle.slon_model.specs.World.{is_of}
use Rattle.slon_model.proofs.Names.{put_found, put_other}
use Rattle.set_config.proofs.Entries.{eq_of}
use Rattle.app_store.specs.Base.{Base, base_of}
use Rattle.app_store.specs.Fits.{Fits}
use Rattle.node_state.specs.declared.memory.Identity.{Identity}
use Rattle.node_store.specs.Acting.{own_id}
use Rattle.node_store.specs.Joining.{Pair}
use Rattle.remote_worker.specs.Fetching.{is_loud}
use Rattle.remote_worker.specs.Working.{seen_copying}
use Rattle.slonik_exec.specs.declared.databases.Named.{Named as NamedDatabase}
use Rattle.slonik_exec.specs.declared.membership.Spots.{Spots}
use Rattle.slonik_exec.specs.declared.reaching.Reached.TheVariants.{At}
use Rattle.slonik_exec.specs.Databases.{AreReady, FitsAll, Runs, bases_of, told_by}
use Rattle.slonik_exec.specs.Executing.{Comes, Refuses}
use Rattle.slonik_exec.specs.Heard.{AreDistinct}
use Rattle.slonik_exec.specs.Stored.{Couple, couple_of, pair_of}
use Rattle.slonik_exec.specs.Turning.{IsSeatHere, is_this}
use Rattle.slonik_exec.proofs.Couples.{TwoNamed, put_both}
use Rattle.slonik_exec.proofs.Seated.{IsFoundAt, Turning, found_inside, is_some_this, node_up, none_at}
use Rattle.slonik_exec.proofs.Seated.{turning_at}
use Rattle.slonik_exec.proofs.Seats.{same_up}
use Rattle.slonik_exec.proofs.Stores.{Whole, whole_at, ready_here}
use Rattle.slon_turns.specs.declared.fetching.Trip.{Trip}
use Rattle.slon_turns.specs.declared.held.Held.{Held}
use Rattle.slon_turns.specs.Applying.{Post, left_in}
use Rattle.slon_turns.specs.Holding.{IsUpIn, Keeps, Stays}
use Rattle.slon_turns.specs.Fetching.{AreVisiting, BroughtAt, BringsFrom, Delivers, IsOwnAt, Sent, Visit, goal_of}
use Rattle.slon_turns.specs.Fetching.{due_from}
use Rattle.slon_turns.specs.Fetching.{due_sent, sent_post, WorksBetween, ByOwn, ByProvider}
use Rattle.slon_model.specs.declared.command.Delivery.TheVariants.{Once as IsOnce}
use Rattle.slon_turns.specs.Polling.{Spot, GoesAt, Waits}
use Rattle.slon_turns.specs.Working.{CanTurn, Due, stated_turn}
use Rattle.slon_turns.proofs.Applying.{left_fault, left_refused, stays_on}
use Rattle.slon_turns.proofs.Lifted.{Stage, breaks_between, goes_between, runs_between, told_of_two}
use Rattle.slon_turns.proofs.Linking.{fetch_down, fetch_missed, fetch_reached}
use Rattle.slon_turns.proofs.Mids.{worked_here}
use Rattle.slon_turns.proofs.Turned.{place_id}

-- ---- the provider cannot be read

-- it is refused, and nothing is done
refuses_sent : {a : Trip} {w : World} {name : List ℕ} {held : Held} (s : Sent a w name held) (refusal : Refusal)
    (bases : Named Base) → (told_by (replied.Refused refusal) ≡ None) × (is_loud refusal ≡ false) →
    due_sent s ≡ Err refusal → FitsAll w.places bases → Delivers s (replied.Refused refusal) bases held
refuses_sent {a} {w} {name} {held} s refusal bases (quiet, calm) is fits =
    let left = left_refused (goal_of a) (Some (name, s.sits.place)) (due_sent s) refusal w.memory calm in
    record {
      comes = Refuses refusal (ap stated_turn is) refl fits;
      own = λ other halt told. let none = quiet in absurd cc;
      waits = subst (λ m. Waits name m held.queue) (sym left) s.holds.waits;
      keeps = λ up. subst (λ m. Keeps name m held.fetches) (sym left) s.holds.keeps;
    }

-- no database is the provider
pub provider_missed : {K : Type 0} {g : Ghosts K} (kept : K → Kept) (a : Trip) (index : ℕ)
    (ds : List (NamedDatabase K g)) (held : Held) → position (is_this a.copying.provider) ds ≡ None →
    BringsFrom kept a index (ds, held) (replied.Refused (refused.NoNode a.copying.provider)) (ds, held)
provider_missed kept a index ds held none w d ready is s can =
    refuses_sent s (refused.NoNode a.copying.provider) (bases_of kept ds) (refl, refl)
    (fetch_missed (sent_post s) s.event (seen_copying a.copying) (at_node a.copying.provider w)
    s.reaches
    (none_at kept a.copying.provider w.places ds ready.fits none)) ready.fits

-- it is down
pub provider_down : {K : Type 0} {g : Ghosts K} {to : ℕ} {e : NamedDatabase K g} (kept : K → Kept) (a : Trip)
    (index : ℕ) (ds : List (NamedDatabase K g)) (held : Held) → Turning kept a.copying.provider ds to e →
    e.database.state.up ≡ false →
    BringsFrom kept a index (ds, held) (replied.Refused (refused.Down e.name)) (ds, held)
provider_down {e = e} kept a index ds held turning down w d ready own s can =
    let there : IsFoundAt kept a.copying.provider w.places e = turning_at w.places turning ready.fits in
    refuses_sent s (refused.Down e.name) (bases_of kept ds) (refl, refl)
    (fetch_down (sent_post s) s.event (seen_copying a.copying) (at_node a.copying.provider w)
    (e.name, there.place) s.reaches there.first
    (sym (same_up there.place (base_of kept e.database) there.fits) ∙ down)) ready.fits

-- ---- at two places

-- the id by which a database is this node is its own
this_own : (node : ℕ) (o : Option Identity) → is_id node (option_map (λ i. i.id) o) ≡ true → own_id o ≡ node
this_own node None is = absurd (false≢true is)
this_own node (Some i) is = eq_of i.id node is

-- The node on its errand, and the place of the provider, which is another node.
pub record Pointed {K : Type 0} {g : Ghosts K} (kept : K → Kept) (a : Trip) (ds : List (NamedDatabase K g))
    (at : Spots) : Type 0 where
  pub distinct : AreDistinct (bases_of kept ds)
  pub seat : IsSeatHere ds (At at.from)
  pub own : IsOwnAt ds at.from a.taken.node
  pub to : position (is_this a.copying.provider) ds ≡ Some at.to
  pub other : a.copying.provider ≡ a.taken.node → ⊥

places_apart : {K : Type 0} {g : Ghosts K} {kept : K → Kept} {a : Trip} {ds : List (NamedDatabase K g)} {at : Spots}
    (d : NamedDatabase K g) → Pointed kept a ds at → at.from ≡ at.to → ⊥
places_apart {a = a} {ds} {at} d p same =
    let x = get_or ds at.from d in
    let held = get_or_default ds at.from d x p.seat.0 in
    let this = (position-Some (is_this a.copying.provider) ds at.to d p.to).1 in
    p.other (sym (this_own a.copying.provider x.database.state.node.identity
    (subst (λ i. is_this a.copying.provider (get_or ds i d) ≡ true) (sym same) this)) ∙ p.own x held)

pub visiting_at : {K : Type 0} {g : Ghosts K} {kept : K → Kept} {a : Trip} {ds : List (NamedDatabase K g)}
    {at : Spots}
    (d : NamedDatabase K g) → Pointed kept a ds at →
    ((e : NamedDatabase K g) → e ≡ get_or ds at.to e → e.database.state.up ≡ true) → AreVisiting ds at
visiting_at {kept = kept} {a} {ds} {at} d p up = record {
  inside = p.seat.0;
  other = found_inside (is_this a.copying.provider) ds at.to d p.to;
  apart = places_apart d p;
  up = λ x held. (p.seat.1 x held).here.up x held;
  node = λ x held. (p.seat.1 x held).node x held;
  provider = up;
  other_node = λ x held. is_some_this {kept = kept} (record { at = p.to; held = held; distinct = p.distinct });
}

both : {K : Type 0} {g : Ghosts K} {kept : K → Kept} {a : Trip} {at : Spots}
    {old new : List (NamedDatabase K g) × Held} {reply : Reply} (p : BroughtAt kept (a, at) old reply new) →
    Pointed kept a old.0 at →
    Whole kept old.0 new.0 (record { from = p.own_old.name; to = p.server_old.name })
    (couple_of kept p.own_old p.server_old) (pair_of kept p.own_new p.server_new)
both {kept = kept} {a} {at} {old} {new} p f =
    whole_at kept at old.0 new.0 (record {
      from_old = p.own_old;
      from_new = p.own_new;
      to_old = p.server_old;
      to_new = p.server_new;
      from_held = p.own_held;
      to_held = p.server_held;
      from_name = p.own_name;
      to_name = p.server_name;
      is = p.is;
    }) (record {
      names = record { from = p.own_old.name; to = p.server_old.name };
      from = (worked_here kept old.0 at.from p.own_old p.own_old f.distinct (f.seat.0, p.own_held) refl).is.at;
      to = (worked_here kept old.0 at.to p.server_old p.server_old f.distinct
          (found_inside (is_this a.copying.provider) old.0 at.to p.server_old f.to, p.server_held) refl).is.at;
      apart = places_apart p.own_old f;
    })

pub runs_brought : {K : Type 0} {g : Ghosts K} {kept : K → Kept} {a : Trip} {at : Spots}
    {old new : List (NamedDatabase K g) × Held} {reply : Reply} → BroughtAt kept (a, at) old reply new →
    Pointed kept a old.0 at → Runs (bases_of kept old.0) reply (bases_of kept new.0)
runs_brought {kept = kept} {old = old} {reply = reply} p f =
    let all = both p f in
    subst (Runs (bases_of kept old.0) reply) (sym all.is)
    (runs_between (bases_of kept old.0) (couple_of kept p.own_old p.server_old) reply
    (pair_of kept p.own_new p.server_new) all.two p.runs)

-- What a turn at two places is by the rules: the place of the provider, and what the node is to do.
record Visited {K : Type 0} {g : Ghosts K} {at : Spots} (kept : K → Kept) (a : Trip) (w : World)
    {old new : List (NamedDatabase K g) × Held} {reply : Reply} (p : BroughtAt kept (a, at) old reply new)
    (s : Sent a w p.own_old.name old.1) : Type 0 where
  there : IsFoundAt kept a.copying.provider w.places p.server_old
  visit : Visit a (couple_of kept p.own_old p.server_old) old.1
  due : due_sent s ≡ due_from visit
  post : visit.post ≡ sent_post s
  provider : visit.provider ≡ there.place

-- what came of it at both
works_between : {w : World} {bases : Named Base} {c : Couple} {s : Spot} {q : Place} {reply : Reply}
    (due : Result Due Refusal) (post : Post) (new : Pair) (held : Held) → Stage w bases c s q →
    (post.name ≡ s.name) × (post.place ≡ s.place) → WorksBetween post (c.names.to, q) due reply new held →
    Comes w (stated_turn due) reply (put_both c.names new bases)
works_between {s = s} {reply = reply} due post new held st (named, placed) (ByOwn works still) =
    goes_between new st (subst (λ n. GoesAt n s.place (stated_turn due) reply new.from) (named ∙ st.named)
    (subst (λ p. GoesAt post.name p (stated_turn due) reply new.from) placed works.goes)) still
works_between due post new held st (named, placed) (ByProvider count told can fell fits holds) =
    breaks_between new st count told can fell (subst (λ p. Fits p new.from) placed fits)

stays_between : {s : Post} {server : List ℕ × Place} {due : Result Due Refusal} {reply : Reply} {new : Pair}
    {held : Held} → WorksBetween s server due reply new held →
    Stays s.name (left_in s due reply) new.from held
stays_between (ByOwn works still) = works.stays
stays_between {s} {server} {due} {new = new} {held} (ByProvider count told can fell fits holds) =
    subst (λ r. Stays s.name (left_in s due r) new.from held) (sym told)
    (subst (λ m. Stays s.name m new.from held)
    (sym (left_fault s.goal (Some (s.name, s.place)) due server.0 count s.memory)) (stays_on holds))

-- what the node of a place is
node_of_id : (node : ℕ) (p : Place) (n : Node) → node_id p ≡ Some node → p.node ≡ Some n → n.id ≡ node
node_of_id node p n id is =
    let some : Some n.id ≡ Some node
    = sym (ap (λ (o : Option Node). option_or (option_map (λ m. m.id) o) p.promised) is) ∙ id in
    cc

-- both databases of a turn, as the rules have them
visit_of : {K : Type 0} {g : Ghosts K} {kept : K → Kept} {a : Trip} {at : Spots}
    {old new : List (NamedDatabase K g) × Held} {reply : Reply} (p : BroughtAt kept (a, at) old reply new)
    (f : Pointed kept a old.0 at) → p.server_old.database.state.up ≡ true → (w : World) →
    AreReady w (bases_of kept old.0) → (s : Sent a w p.own_old.name old.1) →
    Visited kept a w p s
visit_of {kept = kept} {a} {at} {old} p f up w ready s =
    let all = both p f in
    let turning : Turning kept a.copying.provider old.0 at.to p.server_old =
    record { at = f.to; held = p.server_held; distinct = f.distinct } in
    let there : IsFoundAt kept a.copying.provider w.places p.server_old = turning_at w.places turning ready.fits in
    let node = node_up w.places there up (is_some_this {kept = kept} turning) in
    record {
      there = there;
      visit = record {
        post = sent_post s;
        aimed = refl;
        event = s.event;
        provider = there.place;
        node = node.0;
        named = refl;
        fits = record {
          ready = ready_here p.own_old.name (base_of kept p.own_old.database) w (bases_of kept old.0)
              s.sits.place ready all.two.from s.sits.found;
          is = s.sits.is;
          holds = s.holds;
        };
        took = s.took;
        ready = ready_here p.server_old.name (base_of kept p.server_old.database) w (bases_of kept old.0)
            there.place ready all.two.to there.found;
        is = node.1;
        id = node_of_id a.copying.provider there.place node.0
            (place_id a.copying.provider w p.server_old.name there.place there.first) node.1;
      };
      due = fetch_reached (sent_post s) s.event (seen_copying a.copying)
          (at_node a.copying.provider w)
          (p.server_old.name, there.place) node.0 (s.reaches, there.first)
          (sym (same_up there.place (base_of kept p.server_old.database) there.fits) ∙ up, node.1);
      post = refl;
      provider = refl;
    }

-- of two databases that were changed the first one is up
up_at_from : {bases : Named Base} {c : Couple} → TwoNamed bases c → (new : Pair) →
    IsUpIn c.names.from (put_both c.names new bases) → new.from.memory.up ≡ true
up_at_from {bases} {c} two new up =
    up new.from
    (put_other c.names.from c.names.to new.to (put_named c.names.from new.from bases) two.apart
    ∙ put_found c.names.from new.from c.bases.from bases two.from)

delivered : {K : Type 0} {g : Ghosts K} {kept : K → Kept} {a : Trip} {at : Spots}
    {old new : List (NamedDatabase K g) × Held} {reply : Reply} (p : BroughtAt kept (a, at) old reply new)
    (f : Pointed kept a old.0 at) → p.server_old.database.state.up ≡ true → (w : World) →
    AreReady w (bases_of kept old.0) → (s : Sent a w p.own_old.name old.1) →
    CanTurn (due_sent s) → Delivers s reply (bases_of kept new.0) new.1
delivered {kept = kept} {a} {at} {old} {new} {reply} p f up w ready s can =
    let v = visit_of p f up w ready s in
    let all = both p f in
    let name = p.own_old.name in
    let there = v.there in
    let couple : Couple = couple_of kept p.own_old p.server_old in
    let pair : Pair = pair_of kept p.own_new p.server_new in
    let works = p.brings v.visit (subst CanTurn v.due can) in
    let stays = subst (λ due. Stays name (left_in (sent_post s) due reply) pair.from new.1) (sym v.due)
    (subst (λ z. Stays z.name (left_in z (due_from v.visit) reply) pair.from new.1) v.post (stays_between works)) in
    let spot : Spot = record { delivery = IsOnce; name = name; place = s.sits.place; memory = w.memory } in
    record {
      comes = subst (λ due. Comes w (stated_turn due) reply (bases_of kept new.0)) (sym v.due)
          (subst (Comes w (stated_turn (due_from v.visit)) reply) (sym all.is)
          (works_between {c = couple} {s = spot} {q = there.place} (due_from v.visit) v.visit.post pair new.1 (record {
            fits = ready.fits;
            named = refl;
            from = s.sits.found;
            to = there.found;
            running = s.sits.running;
            apart = all.two.apart;
          }) (ap (λ z. z.name) v.post, ap (λ z. z.place) v.post)
          (subst (λ q. WorksBetween v.visit.post (p.server_old.name, q) (due_from v.visit) reply pair new.1) v.provider
          works)));
      own = λ other halt told.
          ap (λ o. bytes_eq other name || is_of other o) there.first
          ∙ told_of_two couple reply pair other halt p.runs told;
      waits = stays.waits;
      keeps = λ up. stays.keeps (up_at_from all.two pair (subst (IsUpIn name) all.is up));
    }

-- what came of it at both places is what the turn comes to
pub brings_brought : {K : Type 0} {g : Ghosts K} {kept : K → Kept} {a : Trip} {at : Spots}
    {old new : List (NamedDatabase K g) × Held} {reply : Reply} (p : BroughtAt kept (a, at) old reply new) →
    Pointed kept a old.0 at →
    ((e : NamedDatabase K g) → e ≡ get_or old.0 at.to e → e.database.state.up ≡ true) →
    BringsFrom kept a at.from old reply new
brings_brought {kept = kept} {a} {at} {old} {new} {reply} p f up w d ready held s can =
    let same : d ≡ p.own_old = held ∙ get_or_default old.0 at.from d p.own_old f.seat.0 ∙ sym p.own_held in
    subst (λ e. (z : Sent a w e.name old.1) → CanTurn (due_sent z) →
    Delivers z reply (bases_of kept new.0) new.1) (sym same)
    (delivered p f (up p.server_old p.server_held) w ready) s can
