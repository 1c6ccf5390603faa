-- What waits at the databases of a session, where it changes at one of them.
use Rattle.std.proofs.Common.{◌≡◌, ◌∙◌, ℕ, Bool, true, false, cond, List, [], map, Option, Some, None, refl, sym, ap}
use Rattle.std.proofs.Common.{subst}
use Rattle.std.specs.Prelude.{◌==◌, if◌then◌else◌, unwrap_or}
use Rattle.std.specs.Cmp.{nat_eq_equiv}
use Rattle.std.specs.Str.{bytes_eq}
use Rattle.std.specs.Cmp.Lexicographic.{nat_list_cmp_total}
use Rattle.std.specs.FinMap.{FinMap, get, insert, remove, get-insert, get-remove}
use Rattle.slon_base.specs.Keeper.{key_cmp}
use Rattle.slon_model.specs.Names.{Named, find_named, without}
use Rattle.slon_model.specs.Maps.{Map, entry_at, with_entry, without_entry}
use Rattle.slon_model.specs.Events.{Event}
use Rattle.slon_model.specs.Sessions.{Fetch, Memory, forgotten}
use Rattle.slon_model.specs.Polls.{queue_at, line_of, with_queue}
use Rattle.slon_model.specs.Working.{fetches_at, with_fetches, without_fetch}
use Rattle.slon_model.proofs.Names.{bytes_itself, bytes_same, find-without}
use Rattle.slon_laws.proofs.Keys.{key_test}
use Rattle.set_config.proofs.Entries.{entry-with, entry-without, eq_of}
use Rattle.event_store.specs.Seen.{seen_event}
use Rattle.app_store.specs.Base.{Base}
use Rattle.remote_worker.specs.declared.fetches.Fetches.{Fetches}
use Rattle.remote_worker.specs.Kept.{FitsFetch, FitsFetches, kept_at}
use Rattle.slon_turns.specs.declared.bounds.Bound.{Bound}
use Rattle.slon_turns.specs.declared.held.Held.{Held}
use Rattle.slon_turns.specs.Holding.{Holdings, IsTaken, IsUpIn, Keeps, KeepsBut, KeepsIn, WaitsIn, bounds_in}
use Rattle.slon_turns.specs.Polling.{Waits}

-- what waits follows from the queue of the database alone
pub waits_at : (name : List ℕ) (m n : Memory) (held : Option Held) → queue_at name n ≡ queue_at name m →
    WaitsIn name m held → WaitsIn name n held
waits_at name m n None same waits = λ origin. ap (line_of origin) same ∙ waits origin
waits_at name m n (Some held) same waits = λ origin. waits origin ∙ ap (line_of origin) (sym same)

-- another queue at a name
pub queue_here : (name : List ℕ) (queue : Map (List Event)) (m : Memory) →
    queue_at name (with_queue name queue m) ≡ queue
queue_here name queue m =
    ap (λ b. unwrap_or (cond b (Some queue) (find_named name (without name m.queues))) []) (bytes_itself name)

-- the queue at another name
without_beside : (other name : List ℕ) (m : Memory) → bytes_eq other name ≡ false →
    find_named other (without name m.queues) ≡ find_named other m.queues
without_beside other name m apart =
    find-without other name m.queues ∙ ap (λ b. cond b None (find_named other m.queues)) apart

pub queue_beside : (other name : List ℕ) (queue : Map (List Event)) (m : Memory) → bytes_eq other name ≡ false →
    queue_at other (with_queue name queue m) ≡ queue_at other m
queue_beside other name queue m apart =
    ap (λ b. unwrap_or (cond b (Some queue) (find_named other (without name m.queues))) []) apart
    ∙ ap (λ o. unwrap_or o []) (without_beside other name m apart)

-- a queue that is forgotten
pub none_forgotten : (other name : List ℕ) (m : Memory) → bytes_eq other name ≡ true →
    queue_at other (forgotten name m) ≡ []
none_forgotten other name m here =
    ap (λ o. unwrap_or o []) (find-without other name m.queues
    ∙ ap (λ b. cond b None (find_named other m.queues)) here)

pub beside_forgotten : (other name : List ℕ) (m : Memory) → bytes_eq other name ≡ false →
    queue_at other (forgotten name m) ≡ queue_at other m
beside_forgotten other name m apart = ap (λ o. unwrap_or o []) (without_beside other name m apart)

pub fetches_forgotten : (other name : List ℕ) (m : Memory) → bytes_eq other name ≡ true →
    fetches_at other (forgotten name m) ≡ []
fetches_forgotten other name m here =
    ap (λ o. unwrap_or o []) (find-without other name m.fetches
    ∙ ap (λ b. cond b None (find_named other m.fetches)) here)

pub fetches_stay : (other name : List ℕ) (m : Memory) → bytes_eq other name ≡ false →
    fetches_at other (forgotten name m) ≡ fetches_at other m
fetches_stay other name m apart =
    ap (λ o. unwrap_or o []) (find-without other name m.fetches
    ∙ ap (λ b. cond b None (find_named other m.fetches)) apart)

-- ---- what is held, by names

pub found_in : {V : Type 0} (other name : List ℕ) (m : FinMap key_cmp V) →
    get (remove m name) other ≡ cond (bytes_eq other name) None (get m other)
found_in other name m =
    get-remove nat_list_cmp_total m name other ∙ ap (λ b. cond b None (get m other)) (key_test other name)

pub found_put : {V : Type 0} (other name : List ℕ) (x : V) (m : FinMap key_cmp V) →
    get (insert m name x) other ≡ cond (bytes_eq other name) (Some x) (get m other)
found_put other name x m =
    get-insert nat_list_cmp_total m name x other ∙ ap (λ b. cond b (Some x) (get m other)) (key_test other name)

-- a queue that was taken out and put back
pub put_back : {V : Type 0} (other name : List ℕ) (x : V) (m : FinMap key_cmp V) →
    get (insert (remove m name) name x) other ≡ cond (bytes_eq other name) (Some x) (get m other)
put_back {V} other name x m =
    found_put other name x (remove m name) ∙ ap (cond (bytes_eq other name) (Some x)) (found_in other name m)
    ∙ by (bytes_eq other name)
  where
    by : (b : Bool) → cond b (Some x) (cond b None (get m other)) ≡ cond b (Some x) (get m other)
    by true = refl
    by false = refl

-- ---- at all databases

-- what was taken out is what waits
pub taken_waits : (name : List ℕ) (m : Memory) (found : Option Held) (held : Held) → IsTaken found held →
    WaitsIn name m found → Waits name m held.queue
taken_waits name m None held none waits = λ origin. ap (map seen_event) (none.0 origin) ∙ sym (waits origin)
taken_waits name m (Some other) held same waits = subst (λ (h : Held). Waits name m h.queue) (sym same) waits

-- and what was fetched
pub taken_keeps : (name : List ℕ) (m : Memory) (found : Option Held) (held : Held) → IsTaken found held →
    KeepsIn name m found → Keeps name m held.fetches
taken_keeps name m None held none keeps = λ origin.
    subst (λ o. FitsFetch origin o (kept_at origin held.fetches)) (sym (keeps origin))
    (subst (FitsFetch origin None) (sym (none.1 origin)) tt)
taken_keeps name m (Some other) held same keeps = subst (λ (h : Held). Keeps name m h.fetches) (sym same) keeps

-- and what was known
pub taken_bounds : (found : Option Held) (held : Held) → IsTaken found held → bounds_in found ≡ held.bounds.items
taken_bounds None held none = sym none.2
taken_bounds (Some other) held same = ap (λ (h : Held). h.bounds.items) (sym same)

-- at the database of one name other things may be known than before, and at the others the same are
pub bounds_beside : (P : List Bound → List Bound → Type 0) (held : Holdings) (name : List ℕ) (own : Held) →
    ((bounds : List Bound) → P bounds bounds) → P (bounds_in (get held name)) own.bounds.items → (other : List ℕ) →
    P (bounds_in (get held other)) (bounds_in (get (insert (remove held name) name own) other))
bounds_beside P held name own same here other =
    subst (λ o. P (bounds_in (get held other)) (bounds_in o)) (sym (put_back other name own held))
    (by (bytes_eq other name) refl)
  where
    by : (b : Bool) → bytes_eq other name ≡ b → P (bounds_in (get held other))
        (bounds_in (cond b (Some own) (get held other)))
    by true is =
        subst (λ n. P (bounds_in (get held n)) own.bounds.items) (sym (bytes_same other name is)) here
    by false is = same (bounds_in (get held other))

-- At the database of one name other events may wait than before, and at the others the same ones wait.
pub record Swapped (m : Memory) : Type 0 where
  pub name : List ℕ
  pub memory : Memory
  pub held : Held
  pub here : Waits name memory held.queue
  pub beside : (other : List ℕ) → bytes_eq other name ≡ false → queue_at other memory ≡ queue_at other m

pub waits_beside : (m : Memory) (held : Holdings) (s : Swapped m) (other : List ℕ) →
    WaitsIn other m (get held other) →
    WaitsIn other s.memory (get (insert (remove held s.name) s.name s.held) other)
waits_beside m held s other waits =
    subst (WaitsIn other s.memory) (sym (put_back other s.name s.held held)) (by (bytes_eq other s.name) refl)
  where
    by : (b : Bool) → bytes_eq other s.name ≡ b →
        WaitsIn other s.memory (cond b (Some s.held) (get held other))
    by true is = subst (λ n. Waits n s.memory s.held.queue) (sym (bytes_same other s.name is)) s.here
    by false is = waits_at other m s.memory (get held other) (s.beside other is) waits

-- what was fetched follows from that of the database alone
pub keeps_at : (name : List ℕ) (m n : Memory) (held : Option Held) → fetches_at name n ≡ fetches_at name m →
    KeepsIn name m held → KeepsIn name n held
keeps_at name m n None same keeps = λ origin. ap (entry_at origin) same ∙ keeps origin
keeps_at name m n (Some held) same keeps = subst (λ f. FitsFetches f held.fetches) (sym same) keeps

-- The same is kept at all databases, also at that of the name under which something else is held.
pub keeps_on : (m n : Memory) (held : Holdings) (name : List ℕ) (own : Held) →
    ((other : List ℕ) → fetches_at other n ≡ fetches_at other m) × Keeps name m own.fetches → (other : List ℕ) →
    KeepsIn other m (get held other) → KeepsIn other n (get (insert (remove held name) name own) other)
keeps_on m n held name own (same, here) other keeps =
    subst (KeepsIn other n) (sym (put_back other name own held)) (by (bytes_eq other name) refl)
  where
    by : (b : Bool) → bytes_eq other name ≡ b → KeepsIn other n (cond b (Some own) (get held other))
    by true is =
        subst (λ f. FitsFetches f own.fetches) (sym (same other))
        (subst (λ k. Keeps k m own.fetches) (sym (bytes_same other name is)) here)
    by false is = keeps_at other m n (get held other) (same other) keeps

-- Something else may be kept at the database of one name, if that is up, and the same at the others.
pub record Refetched (m : Memory) (new : Named Base) : Type 0 where
  pub name : List ℕ
  pub memory : Memory
  pub held : Held
  pub here : IsUpIn name new → Keeps name memory held.fetches
  pub beside : (other : List ℕ) → bytes_eq other name ≡ false → fetches_at other memory ≡ fetches_at other m

pub keeps_beside : (m : Memory) (held : Holdings) (new : Named Base) (s : Refetched m new) (other : List ℕ) →
    KeepsIn other m (get held other) → IsUpIn other new →
    KeepsIn other s.memory (get (insert (remove held s.name) s.name s.held) other)
keeps_beside m held new s other keeps up =
    subst (KeepsIn other s.memory) (sym (put_back other s.name s.held held)) (by (bytes_eq other s.name) refl)
  where
    by : (b : Bool) → bytes_eq other s.name ≡ b → KeepsIn other s.memory (cond b (Some s.held) (get held other))
    by true is =
        let same = bytes_same other s.name is in
        subst (λ n. Keeps n s.memory s.held.fetches) (sym same) (s.here (subst (λ n. IsUpIn n new) same up))
    by false is = keeps_at other m s.memory (get held other) (s.beside other is) keeps

-- ---- what is kept of one origin

fetches_here : (name : List ℕ) (fetches : Map Fetch) (m : Memory) →
    fetches_at name (with_fetches name fetches m) ≡ fetches
fetches_here name fetches m =
    ap (λ b. unwrap_or (cond b (Some fetches) (find_named name (without name m.fetches))) []) (bytes_itself name)

pub fetches_beside : (other name : List ℕ) (fetches : Map Fetch) (m : Memory) → bytes_eq other name ≡ false →
    fetches_at other (with_fetches name fetches m) ≡ fetches_at other m
fetches_beside other name fetches m apart =
    ap (λ b. unwrap_or (cond b (Some fetches) (find_named other (without name m.fetches))) []) apart
    ∙ ap (λ o. unwrap_or o []) (find-without other name m.fetches
    ∙ ap (λ b. cond b None (find_named other m.fetches)) apart)

-- all that was kept is kept but of one origin
pub keeps_but : (origin : ℕ) (name : List ℕ) (m : Memory) (fetches : Fetches) → Keeps name m fetches →
    KeepsBut origin name m fetches
keeps_but origin name m fetches keeps = λ other apart. keeps other

-- it was taken away
pub keeps_without : (origin : ℕ) (name : List ℕ) (m : Memory) (old new : Fetches) → KeepsBut origin name m old →
    ((other : ℕ) → kept_at other new ≡ (if origin == other then None else kept_at other old)) →
    Keeps name (without_fetch name origin m) new
keeps_without origin name m old new keeps rest =
    subst (λ f. FitsFetches f new) (sym (fetches_here name (without_entry origin (fetches_at name m)) m))
    (λ other. subst (λ o. FitsFetch other o (kept_at other new))
    (sym (entry-without other origin (fetches_at name m) ∙ ap (λ b. cond b None (entry_at other (fetches_at name m)))
    (nat_eq_equiv.symm other origin)))
    (subst (FitsFetch other (cond (origin == other) None (entry_at other (fetches_at name m)))) (sym (rest other))
    (by other (origin == other) refl)))
  where
    by : (other : ℕ) (b : Bool) → (origin == other) ≡ b →
        FitsFetch other (cond b None (entry_at other (fetches_at name m))) (cond b None (kept_at other old))
    by other true is = tt
    by other false is = keeps other is

-- something else is kept of it
pub keeps_with : (origin : ℕ) (name : List ℕ) (m : Memory) (f : Fetch) (old new : Fetches) →
    KeepsBut origin name m old × FitsFetch origin (Some f) (kept_at origin new) →
    ((other : ℕ) → (origin == other) ≡ false → kept_at other new ≡ kept_at other old) →
    Keeps name (with_fetches name (with_entry origin f (fetches_at name m)) m) new
keeps_with origin name m f old new (keeps, here) others =
    subst (λ fs. FitsFetches fs new) (sym (fetches_here name (with_entry origin f (fetches_at name m)) m))
    (λ other. subst (λ o. FitsFetch other o (kept_at other new))
    (sym (entry-with other origin f (fetches_at name m)
    ∙ ap (λ b. cond b (Some f) (entry_at other (fetches_at name m))) (nat_eq_equiv.symm other origin)))
    (by other (origin == other) refl))
  where
    by : (other : ℕ) (b : Bool) → (origin == other) ≡ b →
        FitsFetch other (cond b (Some f) (entry_at other (fetches_at name m))) (kept_at other new)
    by other true is = subst (λ o. FitsFetch o (Some f) (kept_at o new)) (eq_of origin other is) here
    by other false is =
        subst (FitsFetch other (entry_at other (fetches_at name m))) (sym (others other is)) (keeps other is)
