-- The slon of a node is turned on or off, and nodes are cut off from one another and joined again.
use Rattle.std.proofs.Common.{◌≡◌, ◌∙◌, ℕ, Bool, true, false, cond, List, Option, Some, None, is_some, refl, sym}
use Rattle.std.proofs.Common.{ap}
use Rattle.std.proofs.Common.{subst}
use Rattle.std.proofs.lemmas.Bool.{false≢true, true≢false}
use Rattle.std.specs.FinMap.{get, remove}
use Rattle.std.specs.Str.{bytes_eq}
use Rattle.slon_model.specs.declared.reply.Answer.TheVariants.{Done}
use Rattle.slon_model.specs.declared.reply.Refusal.TheVariants as refused
use Rattle.slon_model.specs.declared.reply.Reply.TheVariants.{Accepted, Refused}
use Rattle.slon_model.specs.Tasks.{Act, ToStart, ToStop, ToCut, ToJoin}
use Rattle.slon_model.specs.Names.{Named}
use Rattle.slon_model.specs.Maps.{entry_at}
use Rattle.slon_model.specs.Place.{Place}
use Rattle.slon_model.specs.Sessions.{World, Memory, forgotten}
use Rattle.slon_model.specs.Polls.{line_of}
use Rattle.slon_model.specs.Turns.{Switches, at_node, switched_at, switched, with_started, without_started, with_cut}
use Rattle.slon_model.specs.Turns.{without_cut, with_cuts}
use Rattle.slon_model.specs.World.{outcome}
use Rattle.app_store.specs.Base.{Base}
use Rattle.slonik_exec.specs.Databases.{FitsAll}
use Rattle.slonik_exec.specs.Reached.{HasNode}
use Rattle.slon_turns.specs.Holding.{Holdings, KeepsIn, WaitsIn}
use Rattle.slon_turns.proofs.Waiting.{found_in, waits_at, keeps_at, none_forgotten, beside_forgotten}
use Rattle.slon_turns.proofs.Waiting.{fetches_forgotten, fetches_stay}
use Rattle.cluster_engine.specs.Agreed.{AllKnown, Remembered, Clustered, Follows}
use Rattle.cluster_engine.specs.Calls.{IsActed}
use Rattle.cluster_engine.specs.Walking.{IsQuietly}
use Rattle.cluster_engine.proofs.Knowing.{known_removed}
use Rattle.cluster_engine.proofs.Walking.{Remembers, quietly_acted}

-- something else is switched
abbrev pub with_switches : Switches → Clustered → Clustered
with_switches switches c = record c { memory = record c.memory { switches = switches } }

-- the other slons are on
abbrev pub with_slons : List ℕ → Clustered → Clustered
with_slons started c = with_switches (record c.memory.switches { started = started }) c

-- other nodes are cut off
abbrev pub with_cuts_at : List (ℕ × ℕ) → Clustered → Clustered
with_cuts_at cuts c = with_switches (record c.memory.switches { cuts = cuts }) c

-- no database is the node, by the code and by the rules
abbrev pub HasNone : ℕ → Named Base → Type 0
HasNone node bases = (w : World) → FitsAll w.places bases → at_node node w ≡ None

pub none_has : (node : ℕ) (bases : Named Base) → HasNode node bases false → HasNone node bases
none_has node bases has w fits = by (at_node node w) (has w fits)
  where
    by : (o : Option (List ℕ × Place)) → is_some o ≡ false → o ≡ None
    by None none = refl
    by (Some e) none = absurd (true≢false none)

pub unknown_acted : (act : Act) (node : ℕ) (m : World → List ℕ → Memory) (old : Clustered) →
    ((w : World) → outcome act w ≡ switched node (m w) w) → HasNone node old.bases →
    IsActed act old (Refused (refused.NoNode node)) old
unknown_acted act node m old about none =
    quietly_acted act old (Refused (refused.NoNode node)) old.memory
    (λ w follows. subst (λ o. IsQuietly o (Refused (refused.NoNode node)) (λ n. Remembers n old))
    (sym (about w ∙ ap (λ o. switched_at node (m w) o w) (none w follows.agrees.fits)))
    (record {
      told = refl;
      commits = refl;
      falls = refl;
      memory = record { fits = follows.agrees.memory; keeps = follows.agrees.keeps };
    })) refl (λ w known. known)

-- the database of this name is the node, and this is in memory then
record Switching (act : Act) (node : ℕ) (w : World) (new : Clustered) : Type 0 where
  name : List ℕ
  place : Place
  at : at_node node w ≡ Some (name, place)
  left : List ℕ → Memory
  is : outcome act w ≡ switched node left w
  remembers : Remembers (left name) new

turned_acted : (act : Act) (node : ℕ) (old : Clustered) (r : Remembered) →
    ((w : World) → Follows w old → Switching act node w (record old { memory = r })) →
    ((w : World) → AllKnown w old.memory.held → AllKnown w r.held) →
    IsActed act old (Accepted Done) (record old { memory = r })
turned_acted act node old r switches stays =
    quietly_acted act old (Accepted Done) r
    (λ w follows. let s = switches w follows in
    subst (λ o. IsQuietly o (Accepted Done) (λ n. Remembers n (record old { memory = r })))
    (sym (s.is ∙ ap (λ o. switched_at node s.left o w) s.at))
    (record { told = refl; commits = refl; falls = refl; memory = s.remembers })) refl stays

-- a database is the node
some_has : (node : ℕ) (w : World) (bases : Named Base) → FitsAll w.places bases → HasNode node bases true →
    (e : List ℕ × Place) × (at_node node w ≡ Some e)
some_has node w bases fits has = by (at_node node w) refl (has w fits)
  where
    by : (o : Option (List ℕ × Place)) → at_node node w ≡ o → is_some o ≡ true →
        (e : List ℕ × Place) × (at_node node w ≡ Some e)
    by None is none = absurd (false≢true none)
    by (Some e) is some = (e, is)

pub on_acted : (node : ℕ) (old : Clustered) (started : List ℕ) → HasNode node old.bases true →
    started ≡ with_started node old.memory.switches.started →
    IsActed (ToStart node) old (Accepted Done) (with_slons started old)
on_acted node old started has is =
    turned_acted (ToStart node) node old (with_slons started old).memory
    (λ w follows. let found = some_has node w old.bases follows.agrees.fits has in
    record {
      name = found.0.0;
      place = found.0.1;
      at = found.1;
      left = _;
      is = refl;
      remembers = record {
        fits = record {
          scripts = follows.agrees.memory.scripts;
          switches = ap (λ (s : Switches). record s { started = with_started node s.started })
              follows.agrees.memory.switches
              ∙ ap (λ l. record old.memory.switches { started = l }) (sym is);
          waits = follows.agrees.memory.waits;
        };
        keeps = follows.agrees.keeps;
      };
    }) (λ w known. known)

-- what waits behind a queue that is forgotten
pub forgotten_waits : (name : List ℕ) (m : Memory) (queues : Holdings) →
    ((other : List ℕ) → WaitsIn other m (get queues other)) → (other : List ℕ) →
    WaitsIn other (forgotten name m) (get (remove queues name) other)
forgotten_waits name m queues waits other =
    subst (WaitsIn other (forgotten name m)) (sym (found_in other name queues)) (by (bytes_eq other name) refl)
  where
    by : (b : Bool) → bytes_eq other name ≡ b → WaitsIn other (forgotten name m) (cond b None (get queues other))
    by true here = λ origin. ap (line_of origin) (none_forgotten other name m here)
    by false apart =
        waits_at other m (forgotten name m) (get queues other) (beside_forgotten other name m apart) (waits other)

-- what was fetched is forgotten with it
pub forgotten_keeps : (name : List ℕ) (m : Memory) (held : Holdings) (other : List ℕ) →
    (bytes_eq other name ≡ false → KeepsIn other m (get held other)) →
    KeepsIn other (forgotten name m) (get (remove held name) other)
forgotten_keeps name m held other keeps =
    subst (KeepsIn other (forgotten name m)) (sym (found_in other name held)) (by (bytes_eq other name) refl)
  where
    by : (b : Bool) → bytes_eq other name ≡ b → KeepsIn other (forgotten name m) (cond b None (get held other))
    by true here = λ origin. ap (entry_at origin) (fetches_forgotten other name m here)
    by false apart =
        keeps_at other m (forgotten name m) (get held other) (fetches_stay other name m apart) (keeps apart)

-- no slon is on, and nothing waits at the database of this name
abbrev pub with_none_at : List ℕ → List ℕ → Holdings → Clustered → Clustered
with_none_at name started queues c =
    record c { memory = record c.memory { switches = record c.memory.switches { started = started }; held = queues } }

pub off_acted : (node : ℕ) (old : Clustered) (name started : List ℕ) (queues : Holdings) →
    ((w : World) → FitsAll w.places old.bases → (p : Place) × (at_node node w ≡ Some (name, p))) →
    started ≡ without_started node old.memory.switches.started → queues ≡ remove old.memory.held name →
    IsActed (ToStop node) old (Accepted Done) (with_none_at name started queues old)
off_acted node old name started queues at is gone =
    turned_acted (ToStop node) node old (with_none_at name started queues old).memory
    (λ w follows. let found = at w follows.agrees.fits in
    record {
      name = name;
      place = found.0;
      at = found.1;
      left = _;
      is = refl;
      remembers = record {
        fits = record {
          scripts = follows.agrees.memory.scripts;
          switches = ap (λ (s : Switches). record s { started = without_started node s.started })
              follows.agrees.memory.switches
              ∙ ap (λ l. record old.memory.switches { started = l }) (sym is);
          waits = subst (λ q. (other : List ℕ) → WaitsIn other (forgotten name (stopped w)) (get q other)) (sym gone)
              (forgotten_waits name (stopped w) old.memory.held follows.agrees.memory.waits);
        };
        keeps = λ other up. subst (λ (q : Holdings). KeepsIn other (forgotten name (stopped w)) (get q other))
            (sym gone) (forgotten_keeps name (stopped w) old.memory.held other
            (λ apart. follows.agrees.keeps other up));
      };
    })
    (λ w known. subst (AllKnown w) (sym gone) (known_removed w name old.memory.held known))
  where
    stopped : World → Memory
    stopped w = record w.memory { started = without_started node w.memory.started }

-- two nodes are cut off from one another, or joined again
cuts_acted : (act : Act) (change : List (ℕ × ℕ) → List (ℕ × ℕ)) (old : Clustered) (cuts : List (ℕ × ℕ)) →
    ((w : World) → outcome act w ≡ with_cuts (change w.memory.cuts) w) → cuts ≡ change old.memory.switches.cuts →
    IsActed act old (Accepted Done) (with_cuts_at cuts old)
cuts_acted act change old cuts about is =
    quietly_acted act old (Accepted Done) (with_cuts_at cuts old).memory
    (λ w follows. subst (λ o. IsQuietly o (Accepted Done) (λ n. Remembers n (with_cuts_at cuts old)))
    (sym (about w)) (record {
      told = refl;
      commits = refl;
      falls = refl;
      memory = record {
        fits = record {
          scripts = follows.agrees.memory.scripts;
          switches = ap (λ (s : Switches). record s { cuts = change s.cuts }) follows.agrees.memory.switches
              ∙ ap (λ l. record old.memory.switches { cuts = l }) (sym is);
          waits = follows.agrees.memory.waits;
        };
        keeps = follows.agrees.keeps;
      };
    })) refl (λ w known. known)

pub cut_acted : (a b : ℕ) (old : Clustered) (cuts : List (ℕ × ℕ)) → cuts ≡ with_cut a b old.memory.switches.cuts →
    IsActed (ToCut a b) old (Accepted Done) (with_cuts_at cuts old)
cut_acted a b old cuts is = cuts_acted (ToCut a b) (with_cut a b) old cuts (λ w. refl) is

pub join_acted : (a b : ℕ) (old : Clustered) (cuts : List (ℕ × ℕ)) → cuts ≡ without_cut a b old.memory.switches.cuts →
    IsActed (ToJoin a b) old (Accepted Done) (with_cuts_at cuts old)
join_acted a b old cuts is = cuts_acted (ToJoin a b) (without_cut a b) old cuts (λ w. refl) is
