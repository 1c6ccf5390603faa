-- What a node reads of all sets that it keeps of an origin, one after the other.
use Rattle.std.proofs.Common.{◌≡◌, ◌∙◌, ◌++◌, ◌||◌, ℕ, Bool, true, false, List, [], ◌∷◌, get_or, map, None}
use Rattle.std.proofs.Common.{Result, Ok, Err, refl, sym, ap, subst}
use Rattle.std.proofs.lemmas.List.{append_assoc, append-nil, get_or_default}
use Rattle.std.specs.List.{AllByRecursion}
use Rattle.std.specs.Str.{bytes_eq}
use Rattle.slon_base.specs.Keeper.{Kept as KeptStore}
use Rattle.slon_base.specs.declared.keeper.Keeper.{Ghosts}
use Rattle.slon_model.specs.declared.reply.Refusal.{Refusal}
use Rattle.slon_model.specs.declared.reply.Reply.{Reply}
use Rattle.slon_model.specs.Events.{Event}
use Rattle.slon_model.specs.Following.{SetSync}
use Rattle.slon_model.specs.Logs.{logged}
use Rattle.slon_model.specs.Names.{Named}
use Rattle.slon_model.specs.Sessions.{World, Memory, Seat, bind, seat}
use Rattle.slon_model.specs.Turns.{at_node}
use Rattle.slon_model.specs.World.{is_of, is_of_one}
use Rattle.app_store.specs.Base.{Base}
use Rattle.remote_worker.specs.declared.keeping.KeptSet.{KeptSet}
use Rattle.remote_worker.specs.declared.loading.SetFetch.{SetFetch}
use Rattle.remote_worker.specs.declared.running.Run.{Run}
use Rattle.remote_worker.specs.Keeping.{Kept, seen_kept, taken_of}
use Rattle.remote_worker.specs.Loading.{HaveFetches}
use Rattle.remote_worker.specs.Running.{CanRun, IsBeside, sets_in, taken_run}
use Rattle.slonik_exec.specs.declared.databases.Named.{Named as NamedDatabase}
use Rattle.slonik_exec.specs.declared.reaching.Reached.TheVariants.{At}
use Rattle.slonik_exec.specs.Databases.{AreReady, FitsAll, TriesAll, bases_of}
use Rattle.slonik_exec.specs.Heard.{AreDistinct, AreSame}
use Rattle.slonik_exec.specs.Turning.{IsSeatHere, SitsOn}
use Rattle.slonik_exec.proofs.Distinct.{distinct_tries}
use Rattle.slonik_exec.proofs.Seating.{ready_mids}
use Rattle.slonik_exec.proofs.Trying.{runs_then, tries_on}
use Rattle.slon_turns.specs.declared.following.Looked.{Looked}
use Rattle.slon_turns.specs.declared.following.Looked.TheVariants.{Told, Gives}
use Rattle.slon_turns.specs.Applying.{Finder, nodes_at, provided_in}
use Rattle.slon_turns.specs.Following.{BrokenSo, EndsLook, FollowsAll, FollowsGroup, Heeds, LooksTo, RefusedSo}
use Rattle.slon_turns.specs.Following.{RunsLooked, Way}
use Rattle.slon_turns.specs.Following.{followed_each, followed_group, followed_kept, group_of}
use Rattle.slon_turns.proofs.Follows.{name_same, or_right, same_then, seat_same}

-- ---- over every store

-- Those before were read, and all databases are as they were.
pub record AreRead {K : Type 0} {g : Ghosts K} (kept : K → KeptStore) (i : ℕ) (olds news : List (NamedDatabase K g)) :
    Type 0 where
  pub distinct : AreDistinct (bases_of kept news)
  pub seat : IsSeatHere news (At i)
  pub tries : TriesAll true None (bases_of kept olds) (bases_of kept news)
  pub same : AreSame (bases_of kept olds) (bases_of kept news)

-- one more was read
pub read_next : {K : Type 0} {g : Ghosts K} {kept : K → KeptStore} {i : ℕ} {olds mids : List (NamedDatabase K g)}
    (news : List (NamedDatabase K g)) → AreRead kept i olds mids →
    TriesAll true None (bases_of kept mids) (bases_of kept news) × AreSame (bases_of kept mids) (bases_of kept news) →
    AreRead kept i olds news
read_next {kept = kept} {i} {olds} {mids} news r (tries, same) =
    let distinct = distinct_tries true None (bases_of kept mids) (bases_of kept news) tries r.distinct in
    record {
      distinct = distinct;
      seat = seat_same kept mids news i same distinct r.seat;
      tries = tries_on true None (bases_of kept olds) (bases_of kept mids) (bases_of kept news) r.tries tries;
      same = same_then (bases_of kept olds) (bases_of kept mids) (bases_of kept news) r.same same;
    }

-- ---- under the rules

abbrev each : Memory → Seat → Event → Finder → List KeptSet → Result (List SetSync) Refusal
each m s e find sets = followed_each m s e find (map seen_kept sets)

abbrev providers : List KeptSet → List ℕ
providers sets = map (λ (k : Kept). k.provider) (map seen_kept sets)

-- Behind these, what is due of the sets that are left makes up what is due of all.
pub record Leaves (w : World) (s : Seat) (e : Event) (all left : List KeptSet) (taken : List SetFetch) : Type 0 where
  pub syncs : List SetSync
  pub have : HaveFetches e.origin syncs taken
  pub due : each w.memory s e (nodes_at w) all
      ≡ bind (each w.memory s e (nodes_at w) left) (λ more. Ok (syncs ++ more))
  pub among : (name : List ℕ) → is_of_one name (providers left) w ≡ true → is_of_one name (providers all) w ≡ true

-- so it is at the node, wherever all databases agree, which they do still
abbrev pub LeavesSets : {K : Type 0} {g : Ghosts K} → (K → KeptStore) → Way → Event → List KeptSet → List KeptSet →
    List SetFetch → List (NamedDatabase K g) → List (NamedDatabase K g) → Type 0
LeavesSets {K} {g} kept t e all left taken olds news =
    (w : World) (d : NamedDatabase K g) → AreReady w (bases_of kept olds) → Heeds t w →
    d ≡ get_or olds t.index d → (s : SitsOn t.node w d.name) →
    FitsAll w.places (bases_of kept news) × Leaves w (seat d.name s.place s.own) e all left taken

bind_none : {X : Type 0} (r : Result (List X) Refusal) → r ≡ bind r (λ xs. Ok xs)
bind_none (Ok xs) = refl
bind_none (Err refusal) = refl

pub none_read : {K : Type 0} {g : Ghosts K} (kept : K → KeptStore) (t : Way) (e : Event) (all : List KeptSet)
    (ds : List (NamedDatabase K g)) → LeavesSets kept t e all all [] ds ds
none_read kept t e all ds w d ready cuts is s = (
  ready.fits,
  record {
    syncs = [];
    have = tt;
    due = bind_none (each w.memory (seat d.name s.place s.own) e (nodes_at w) all);
    among = λ name is. is;
  },
)

-- what is due of the sets that are left, by what is due of those that are read next
abbrev due_next : Memory → Seat → Event → Finder → List KeptSet → List SetSync → Result (List SetSync) Refusal →
    Result (List SetSync) Refusal
due_next m s e find left syncs r =
    bind (bind r (λ ts. bind (each m s e find left) (λ more. Ok (ts ++ more)))) (λ more. Ok (syncs ++ more))

bind_next : (r : Result (List SetSync) Refusal) (syncs ts : List SetSync) →
    bind (bind r (λ more. Ok (ts ++ more))) (λ more. Ok (syncs ++ more)) ≡ bind r (λ more. Ok ((syncs ++ ts) ++ more))
bind_next (Ok xs) syncs ts = ap (λ l. Ok l) (sym (append_assoc syncs ts xs))
bind_next (Err refusal) syncs ts = refl

bind_one : (r : Result (List SetSync) Refusal) (t : SetSync) (ts : List SetSync) →
    bind (bind r (λ more. Ok (ts ++ more))) (λ more. Ok (t ∷ more)) ≡ bind r (λ more. Ok (t ∷ ts ++ more))
bind_one (Ok xs) t ts = refl
bind_one (Err refusal) t ts = refl

have_both : (origin : ℕ) (ts us : List SetSync) (gs hs : List SetFetch) → HaveFetches origin ts gs →
    HaveFetches origin us hs → HaveFetches origin (ts ++ us) (gs ++ hs)
have_both origin [] us [] hs have more = more
have_both origin [] us (g ∷ gs) hs have more = absurd have
have_both origin (t ∷ ts) us [] hs have more = absurd have
have_both origin (t ∷ ts) us (g ∷ gs) hs have more = (have.0, have_both origin ts us gs hs have.1 more)

pub all_both : {X : Type 0} (P : X → Type 0) (xs ys : List X) → AllByRecursion P xs → AllByRecursion P ys →
    AllByRecursion P (xs ++ ys)
all_both P [] ys one two = two
all_both P (x ∷ xs) ys one two = (one.0, all_both P xs ys one.1 two)

-- ---- sets that are read together

-- What is asked for at a seat, where nodes are found so.
record Asked : Type 0 where
  memory : Memory
  seat : Seat
  event : Event
  find : Finder

abbrev each_at : Asked → List KeptSet → Result (List SetSync) Refusal
each_at x sets = each x.memory x.seat x.event x.find sets

abbrev provided_at : Asked → ℕ → Result Seat Refusal
provided_at x provider = provided_in provider x.memory x.seat x.event (x.find provider)

-- their provider can be read, and gives of each of them what it has logged
all_given : (x : Asked) (provider : ℕ) (p : Seat) (sets left : List KeptSet) → provided_at x provider ≡ Ok p →
    AllByRecursion (λ k. (seen_kept k).provider ≡ provider) sets →
    each_at x (sets ++ left)
    ≡ bind (each_at x left) (λ more. Ok (taken_run x.event (logged p.node) (map seen_kept sets) ++ more))
all_given x provider p [] left is same = bind_none (each_at x left)
all_given x provider p (k ∷ sets) left is same =
    ap (λ r. bind r (λ t. bind (each_at x (sets ++ left)) (λ more. Ok (t ∷ more)))) one
    ∙ ap (λ r. bind r (λ more. Ok (taken_of x.event (logged p.node) (seen_kept k) ∷ more)))
    (all_given x provider p sets left is same.1)
    ∙ bind_one (each_at x left) (taken_of x.event (logged p.node) (seen_kept k))
    (taken_run x.event (logged p.node) (map seen_kept sets))
  where
    one : followed_kept x.memory x.seat x.event x.find (seen_kept k)
        ≡ Ok (taken_of x.event (logged p.node) (seen_kept k))
    one = ap (λ id. bind (provided_at x id) (λ q. Ok (taken_of x.event (logged q.node) (seen_kept k)))) same.0
        ∙ ap (λ r. bind r (λ q. Ok (taken_of x.event (logged q.node) (seen_kept k)))) is

providers_alike : (first : Kept) (sets : List KeptSet) → AllByRecursion (λ k. IsBeside first (seen_kept k)) sets →
    AllByRecursion (λ k. (seen_kept k).provider ≡ first.provider) sets
providers_alike first [] beside = tt
providers_alike first (k ∷ sets) beside = (beside.0.provider, providers_alike first sets beside.1)

-- so what is due of all is what is due of them, and of those that are left
run_due : (x : Asked) (r : Run) (left : List KeptSet) → CanRun r →
    each_at x (sets_in r ++ left)
    ≡ bind (followed_group x.memory x.seat x.event x.find (group_of r))
    (λ ts. bind (each_at x left) (λ more. Ok (ts ++ more)))
run_due x r left can = by (provided_at x r.first.provider) refl
  where
    group : Result Seat Refusal → Result (List SetSync) Refusal
    group found =
        bind (bind found (λ p. Ok (taken_run x.event (logged p.node) (group_of r).all)))
        (λ ts. bind (each_at x left) (λ more. Ok (ts ++ more)))

    by : (found : Result Seat Refusal) → provided_at x r.first.provider ≡ found →
        each_at x (sets_in r ++ left) ≡ group (provided_at x r.first.provider)
    by (Ok p) is =
        all_given x r.first.provider p (sets_in r) left is
        (refl, providers_alike (seen_kept r.first) r.others can.beside)
        ∙ sym (ap group is)
    by (Err refusal) is =
        ap (λ found. bind (bind found (λ p. Ok (taken_of x.event (logged p.node) (seen_kept r.first))))
        (λ t. bind (each_at x (r.others ++ left)) (λ more. Ok (t ∷ more)))) is
        ∙ sym (ap group is)

-- a provider of the sets that are left is one of all
of_rest : (name : List ℕ) (w : World) (sets left : List KeptSet) → is_of_one name (providers left) w ≡ true →
    is_of_one name (providers (sets ++ left)) w ≡ true
of_rest name w [] left is = is
of_rest name w (k ∷ sets) left is =
    or_right (is_of name (at_node k.provider w)) (is_of_one name (providers (sets ++ left)) w)
    (of_rest name w sets left is)

or_alone : (a b : Bool) → (a || false) ≡ true → (a || b) ≡ true
or_alone true b is = refl
or_alone false b is = absurd cc

or_more : (a b c : Bool) → (b ≡ true → c ≡ true) → (a || b) ≡ true → (a || c) ≡ true
or_more true b c more is = refl
or_more false b c more is = more is

-- What came of reading the next ones, at the node.
next_looked : {K : Type 0} {g : Ghosts K} {kept : K → KeptStore} {t : Way}
    {olds mids : List (NamedDatabase K g)} {w : World} (e : Event) (r : Run) (news : List (NamedDatabase K g))
    (d : NamedDatabase K g) (given : Looked (List SetFetch)) →
    AreRead kept t.index olds mids × FollowsGroup kept t e (group_of r) mids given news →
    AreReady w (bases_of kept mids) × Heeds t w × ((get_or mids t.index d).name ≡ d.name) →
    (s : SitsOn t.node w d.name) →
    LooksTo (HaveFetches e.origin) w d.name (r.first.provider ∷ [])
    (followed_group w.memory (seat d.name s.place s.own) e (nodes_at w) (group_of r)) given (bases_of kept news)
next_looked {kept = kept} {t} {mids = mids} {w} e r news d given (read, follows) (ready, cuts, named) s =
    let x = get_or mids t.index d in
    subst (λ n. (z : SitsOn t.node w n) → LooksTo (HaveFetches e.origin) w n (r.first.provider ∷ [])
    (followed_group w.memory (seat n z.place z.own) e (nodes_at w) (group_of r)) given (bases_of kept news)) named
    (λ z. follows w x ready cuts (get_or_default mids t.index d x read.seat.0) z) s

-- the place at which a node asks
abbrev here : World → Seat → Event → Asked
here w s e = record { memory = w.memory; seat = s; event = e; find = nodes_at w }

-- some more were read
pub sets_next : {K : Type 0} {g : Ghosts K} {kept : K → KeptStore} {t : Way} {e : Event} {all left : List KeptSet}
    {taken : List SetFetch} {olds mids : List (NamedDatabase K g)} (news : List (NamedDatabase K g))
    (r : Run) (fetches : List SetFetch) →
    AreRead kept t.index olds mids × IsSeatHere olds (At t.index) × CanRun r →
    LeavesSets kept t e all (sets_in r ++ left) taken olds mids →
    FollowsGroup kept t e (group_of r) mids (Gives fetches) news →
    LeavesSets kept t e all left (taken ++ fetches) olds news
sets_next {kept = kept} {t} {e} {all} {left} {taken} {olds} {mids} news r fetches (read, seat_is, can) leaves follows
    w d ready cuts is s =
    let before = leaves w d ready cuts is s in
    let p = seat d.name s.place s.own in
    let named = name_same kept olds mids t.index d read.same seat_is.0 is in
    let some = next_looked e r news d (Gives fetches) (read, follows) (ready_mids ready before.0, cuts, named) s in
    let syncs = before.1.syncs in (
      some.3,
      record {
        syncs = syncs ++ some.0;
        have = have_both e.origin syncs some.0 taken fetches before.1.have some.2;
        due = before.1.due ∙ ap (λ o. bind o (λ more. Ok (syncs ++ more))) (run_due (here w p e) r left can)
            ∙ ap (due_next w.memory p e (nodes_at w) left syncs) some.1
            ∙ bind_next (each w.memory p e (nodes_at w) left) syncs some.0;
        among = λ name rest. before.1.among name (of_rest name w (sets_in r) left rest);
      },
    )

-- or they could not be read
ends_all : {w : World} {s : Seat} {e : Event} {all : List KeptSet} {taken : List SetFetch} {name : List ℕ}
    {reply : Reply} {new : Named Base} (left : List KeptSet) (r : Run) → CanRun r →
    Leaves w s e all (sets_in r ++ left) taken →
    EndsLook w name (r.first.provider ∷ []) (followed_group w.memory s e (nodes_at w) (group_of r)) reply new →
    EndsLook w name (providers all) (each w.memory s e (nodes_at w) all) reply new
ends_all {w} {s} {e} left r can l (RefusedSo refusal due calm is fits) =
    RefusedSo refusal
    (l.due ∙ ap (λ o. bind o (λ more. Ok (l.syncs ++ more))) (run_due (here w s e) r left can)
    ∙ ap (due_next w.memory s e (nodes_at w) left l.syncs) due) calm is fits
ends_all {w} {all = all} {name = name} left r can l (BrokenSo b among) =
    BrokenSo b (or_more (bytes_eq b.name name) (is_of_one b.name (r.first.provider ∷ []) w)
    (is_of_one b.name (providers all) w)
    (λ one. l.among b.name
    (or_alone (is_of b.name (at_node r.first.provider w)) (is_of_one b.name (providers (r.others ++ left)) w) one))
    among)

pub sets_told : {K : Type 0} {g : Ghosts K} {kept : K → KeptStore} {t : Way} {e : Event} {all : List KeptSet}
    {taken : List SetFetch} {olds mids : List (NamedDatabase K g)} {reply : Reply} (news : List (NamedDatabase K g))
    (left : List KeptSet) (r : Run) →
    AreRead kept t.index olds mids × IsSeatHere olds (At t.index) × CanRun r →
    LeavesSets kept t e all (sets_in r ++ left) taken olds mids →
    FollowsGroup kept t e (group_of r) mids (Told reply) news →
    FollowsAll kept t e (map seen_kept all) olds (Told reply) news
sets_told {kept = kept} {t} {e} {olds = olds} {mids} {reply = reply} news left r (read, seat_is, can) leaves
    follows w d ready cuts is s =
    let before = leaves w d ready cuts is s in
    let named = name_same kept olds mids t.index d read.same seat_is.0 is in
    ends_all left r can before.1
    (next_looked e r news d (Told reply) (read, follows) (ready_mids ready before.0, cuts, named) s)

-- all were read
pub sets_all : {K : Type 0} {g : Ghosts K} {e : Event} {all : List KeptSet} {taken : List SetFetch}
    (kept : K → KeptStore) (t : Way) (olds news : List (NamedDatabase K g)) →
    LeavesSets kept t e all [] taken olds news →
    FollowsAll kept t e (map seen_kept all) olds (Gives taken) news
sets_all {e = e} {taken = taken} kept t olds news leaves w d ready cuts is s =
    let found = leaves w d ready cuts is s in (
      found.1.syncs ++ [],
      found.1.due,
      subst (λ ts. HaveFetches e.origin ts taken) (sym (append-nil found.1.syncs)) found.1.have,
      found.0,
    )

-- the reply to those that could not be read
pub runs_told : {K : Type 0} {g : Ghosts K} {kept : K → KeptStore} {i : ℕ} {olds mids : List (NamedDatabase K g)}
    (reply : Reply) (news : List (NamedDatabase K g)) → AreRead kept i olds mids →
    RunsLooked {T = List SetFetch} (bases_of kept mids) (Told reply) (bases_of kept news) →
    RunsLooked {T = List SetFetch} (bases_of kept olds) (Told reply) (bases_of kept news)
runs_told {kept = kept} {olds = olds} {mids} reply news r runs =
    runs_then reply (bases_of kept olds) (bases_of kept mids) (bases_of kept news) r.tries runs
