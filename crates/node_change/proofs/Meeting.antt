-- A node that holds one event more and carries it out, whether it emitted the event or another node did.
use Rattle.std.proofs.Common.{◌≡◌, ℕ, ◌≤◌, true, false, cond, List, [], ◌∷◌, ◌++◌, Some, refl, sym, ap, subst}
use Rattle.std.proofs.Common.{◌∙◌, arith, unwrap_or}
use Rattle.std.specs.Prelude.{◌==◌}
use Rattle.std.proofs.lemmas.Bool.{eqb-true}
use Rattle.slon_base.specs.Keeper.{Store, Kept}
use Rattle.store_rows.specs.Space.{IsPending}
use Rattle.node_rows.specs.Spellings.{CanBody}
use Rattle.slon_model.specs.Maps.{entry_at, with_entry, number_at}
use Rattle.slon_model.specs.Views.{Views, views_told}
use Rattle.slon_model.specs.Events.{Event}
use Rattle.slon_model.specs.Config.{change}
use Rattle.slon_model.specs.Deeds.{Node, Deed, Doing, Emits, Applies, Logged, knowledge, nothing_brought, with_deeds}
use Rattle.slon_model.specs.Logs.{logged}
use Rattle.event_store.specs.Keeping.{KeepsViews}
use Rattle.set_config.specs.Holds.{Shows}
use Rattle.set_config.proofs.Entries.{entry-with}
use Rattle.log_switch.specs.Holds.{HoldsLog}
use Rattle.event_store.specs.Following.{IsBehindLow}
use Rattle.event_store.specs.Holds.{HoldsStreams, ShowsStreams}
use Rattle.event_store.specs.Spellings.{IsNumbered}
use Rattle.event_store.specs.Streams.{Streams, streams_of, emitted}
use Rattle.event_store.proofs.Apart.{config_stays, streams_stay}
use Rattle.event_store.proofs.Deeds.{applying_adds, keeping_adds}
use Rattle.event_store.proofs.Regular.{regular_stays}
use Rattle.event_store.proofs.Holding.{moved}
use Rattle.node_state.specs.Held.{NodeHeld, items_of, IsMet}
use Rattle.node_state.specs.Known.{IsHomed}
use Rattle.node_change.specs.Done.{HasEmitted, HasApplied, CanApply}
use Rattle.node_change.specs.Forwarding.{ShowsBoth}
use Rattle.node_change.proofs.Homes.{change_homed}
use Rattle.node_change.proofs.Orderly.{change_orderly, change_known, change_met}
use Rattle.node_change.proofs.Spaces.{IsElse, own_else, spare_else, no_config, no_stream}

-- An event that a node meets: what the store held, what it held with the event and these views, and what it holds now.
pub record Meeting (n : Node) (e : Event) (views : Views) (m mid new : Store) : Type 0 where
  pub held : NodeHeld n m
  pub named : IsNumbered (e.origin, e.number)
  pub takes : CanApply n e
  pub home : IsHomed e.body (knowledge n).config
  pub keeps : KeepsViews e.body
  pub can : CanBody e.body
  pub streams : ShowsStreams m (record (emitted e (streams_of n)) { views = views }) mid
  pub config : Shows mid (change e (knowledge n).config) new

-- a space that is none of the node's stays
stays : {n : Node} {e : Event} {views : Views} {m mid new : Store} → Meeting n e views m mid new → (space : ℕ) →
    IsElse space → new space ≡ m space
stays em space other =
    em.config.others space (no_config space other) ∙ em.streams.others space (no_stream space other)

-- it is behind all that the node has deleted of its origin
behind_low : {n : Node} {e : Event} {views : Views} {m mid new : Store} → Meeting n e views m mid new →
    IsBehindLow e n
behind_low {n} {e} em = let later = em.takes.later in omega (arith, em.held.behind e.origin, later)

-- the node has deleted no event still that it has not met
behind_more : {n : Node} {e : Event} {views : Views} {m mid new : Store} → Meeting n e views m mid new →
    (origin : ℕ) →
    number_at origin (knowledge n).low ≤ number_at origin (with_entry e.origin e.number (knowledge n).progress)
behind_more {n} {e} em origin =
    subst (λ o. number_at origin (knowledge n).low ≤ unwrap_or o 0)
    (sym (entry-with origin e.origin e.number (knowledge n).progress))
    (elim (origin == e.origin) as (λ b. (origin == e.origin) ≡ b → number_at origin (knowledge n).low
    ≤ unwrap_or (cond b (Some e.number) (entry_at origin (knowledge n).progress)) 0) [
      | true ↦ λ is.
          let same = ap (λ o. number_at o (knowledge n).low) (eqb-true origin e.origin is) in
          omega (arith, behind_low em, same)
      | false ↦ λ is. em.held.behind origin
    ] refl)

-- the views of a node that is told how it receives a set
abbrev pub told_views : Node → Event → Views
told_views n e = views_told n.id e.body (knowledge n).config (knowledge n).views

-- the node with one more deed, which applies the event and logs nothing
applies_held : {n : Node} {e : Event} {m mid new : Store} → Meeting n e (told_views n e) m mid new → (d : Deed) →
    d.logs ≡ [] → NodeHeld (with_deeds (record d { doing = Applies e nothing_brought } ∷ []) n) new
applies_held {n} {e} {m} {mid} {new} em d none = record {
  id = em.held.id;
  cluster = em.held.cluster;
  config = em.config.config;
  orderly = change_orderly e.origin e.number e.body (knowledge n).config em.keeps em.can em.held.orderly;
  homes = change_homed e.origin e.number e.body (knowledge n).config em.keeps em.home em.held.homes;
  self = known n.id em.held.self;
  met = change_met e (knowledge n).config (knowledge n).progress em.keeps (known e.origin em.takes.known) em.held.met;
  streams = subst (λ s. HoldsStreams s new) (sym adds)
      (streams_stay mid new (record (emitted e (streams_of n)) { views = told_views n e })
      (change e (knowledge n).config) em.config em.streams.streams);
  log = subst (λ (logs : List Logged). HoldsLog (items_of (logs ++ logged n)) new) (sym none)
      (moved (sym (em.config.others 15 refl ∙ em.streams.others 15 refl)) em.held.log);
  status = em.held.status;
  behind = behind_more em;
  regular = regular_stays n done ((em.named, em.takes.later), tt) em.held.regular;
  spare = λ space other spare. stays em space (spare_else space spare) ∙ em.held.spare space other spare;
}
  where
    done : Deed
    done = record d { doing = Applies e nothing_brought }

    known : (id : ℕ) → IsMet id (knowledge n).config → IsMet id (change e (knowledge n).config)
    known id = change_known e.origin e.number id e.body (knowledge n).config em.keeps

    adds : streams_of (with_deeds (done ∷ []) n) ≡ record (emitted e (streams_of n)) { views = told_views n e }
    adds = applying_adds n done e nothing_brought refl (behind_low em)

-- and one that emits it
emits_held : {n : Node} {e : Event} {m mid new : Store} → Meeting n e (knowledge n).views m mid new → (d : Deed) →
    d.logs ≡ [] → NodeHeld (with_deeds (record d { doing = Emits e } ∷ []) n) new
emits_held {n} {e} {m} {mid} {new} em d none = record {
  id = em.held.id;
  cluster = em.held.cluster;
  config = em.config.config;
  orderly = change_orderly e.origin e.number e.body (knowledge n).config em.keeps em.can em.held.orderly;
  homes = change_homed e.origin e.number e.body (knowledge n).config em.keeps em.home em.held.homes;
  self = known n.id em.held.self;
  met = change_met e (knowledge n).config (knowledge n).progress em.keeps (known e.origin em.takes.known) em.held.met;
  streams = subst (λ s. HoldsStreams s new) (sym adds)
      (streams_stay mid new (emitted e (streams_of n)) (change e (knowledge n).config) em.config em.streams.streams);
  log = subst (λ (logs : List Logged). HoldsLog (items_of (logs ++ logged n)) new) (sym none)
      (moved (sym (em.config.others 15 refl ∙ em.streams.others 15 refl)) em.held.log);
  status = em.held.status;
  behind = behind_more em;
  regular = regular_stays n done ((em.named, em.takes.later), em.keeps) em.held.regular;
  spare = λ space other spare. stays em space (spare_else space spare) ∙ em.held.spare space other spare;
}
  where
    done : Deed
    done = record d { doing = Emits e }

    known : (id : ℕ) → IsMet id (knowledge n).config → IsMet id (change e (knowledge n).config)
    known id = change_known e.origin e.number id e.body (knowledge n).config em.keeps

    adds : streams_of (with_deeds (done ∷ []) n) ≡ emitted e (streams_of n)
    adds = keeping_adds n done e refl (behind_low em) em.keeps

pub has_applied : {n : Node} {e : Event} {m mid new : Store} → Meeting n e (told_views n e) m mid new →
    HasApplied n e m new
has_applied {n} {e} {new = new} em = record {
  held = λ d is none. subst (λ (doing : Doing). NodeHeld (with_deeds (record d { doing = doing } ∷ []) n) new) (sym is)
      (applies_held em d none);
  own = λ space own. stays em space (own_else space own);
}

pub has_emitted : {n : Node} {e : Event} {m mid new : Store} → Meeting n e (knowledge n).views m mid new →
    HasEmitted n e m new
has_emitted {n} {e} {new = new} em = record {
  held = λ d is none. subst (λ (doing : Doing). NodeHeld (with_deeds (record d { doing = doing } ∷ []) n) new) (sym is)
      (emits_held em d none);
  own = λ space own. stays em space (own_else space own);
}

-- ---- what a pending store shows

-- of the streams of its node
pub shows_streams : {n : Node} {m : Store} {k : Kept} → k.pending ≡ Some (Some m) → NodeHeld n m →
    IsPending (ShowsStreams m (streams_of n)) k
shows_streams {m = m} is held =
    record { store = m; is = is; has = record { streams = held.streams; others = λ space other. refl } }

-- and of what that knows of the cluster, whatever became of the streams
pub shows_config : {n : Node} {s : Streams} {m : Store} {k : Kept} → NodeHeld n m →
    (p : IsPending (ShowsStreams m s) k) → IsPending (Shows p.store (knowledge n).config) k
shows_config {n} {s} {m} held p = record {
  store = p.store;
  is = p.is;
  has = record {
    config = config_stays m p.store s (knowledge n).config p.has held.config;
    others = λ space other. refl;
  };
}

-- and of both
pub shows_both : {n : Node} {s : Streams} {m : Store} {k : Kept} → NodeHeld n m → IsPending (ShowsStreams m s) k →
    IsPending (ShowsBoth m (knowledge n).config s) k
shows_both {n} {s} {m} held p = record {
  store = p.store;
  is = p.is;
  has = (p.has, config_stays m p.store s (knowledge n).config p.has held.config);
}

-- the same of the node of an id
pub shows_told : (n : Node) (e : Event) {m mid : Store} {own : ℕ} → n.id ≡ own →
    ShowsStreams m (record (emitted e (streams_of n)) {
      views = views_told own e.body (knowledge n).config (knowledge n).views;
    }) mid → ShowsStreams m (record (emitted e (streams_of n)) { views = told_views n e }) mid
shows_told n e {m} {mid} is shows =
    subst (λ id. ShowsStreams m (record (emitted e (streams_of n)) {
      views = views_told id e.body (knowledge n).config (knowledge n).views;
    }) mid) (sym is) shows
