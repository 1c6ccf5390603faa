-- How a net goes on as far as it is needed here: transactions end, and a node comes to where it passes events by.
use Rattle.net_laws.specs.Net.{Ticks}
use Rattle.net_laws.specs.Net.{Leaves}
use Rattle.net_laws.specs.Net.{Turn}
use Rattle.std.proofs.Common.{true≢false}
use Rattle.std.proofs.Common.{◌≡◌, ◌≢◌, ◌⊎◌, inl, inr, ℕ, zero, suc, ◌<◌, ◌≤◌, Bool, true, false, cond, List, [], ◌∷◌}
use Rattle.std.proofs.Common.{◌++◌, length, Option, Some, None, refl, sym, ap, subst, ◌∙◌, arith}
use mathlib.Core.Path.{fun_ext}
use Rattle.std.specs.Prelude.{◌+◌, ◌==◌, ◌||◌}
use Rattle.std.specs.List.{AllByRecursion}
use Rattle.std.proofs.lemmas.Bool.{eqb-true, cases_lt}
use Rattle.std.proofs.lemmas.List.{length-append, length-map, map-append}
use Rattle.node_rows.specs.declared.body.Body.{Body}
use Rattle.node_rows.specs.declared.body.Body.TheVariants.{Sync, SubscribeSet, EnableSubscription, UnsubscribeSet}
use Rattle.node_rows.specs.declared.body.Body.TheVariants.{DropSet as EndsSet}
use Rattle.net_laws.specs.Updates.{set_at}
use Rattle.net_laws.specs.Subscriptions.{Event as Said, Sync as Syncs, Subscribe, Enable, Unsubscribe, DropSet}
use Rattle.net_laws.specs.Subscriptions.{MoveSet, Unrelated}
use Rattle.net_laws.specs.Subscriptions.{Subscription as Row, up_to, last_moment, over_with, is_over, changed, row}
use Rattle.net_laws.specs.Subscriptions.{subscribed}
use Rattle.net_laws.specs.Net.{Net, Node as NetNode, Commits, Applies, Passes, Here, More, Leads, IsBegun}
use Rattle.net_laws.specs.Net.{passed, with_node}
use Rattle.net_laws.specs.Sound.{Sound}
use Rattle.net_laws.proofs.Prefixes.{up_to_new, up_to_old, up_to_whole}
use Rattle.net_laws.proofs.Sounds.{sound_begun, sound_leads}
use Rattle.net_laws.proofs.Updates.{set_here}
use Rattle.slon_model.specs.Snapshots.{Snapshot}
use Rattle.slon_model.specs.Events.{Event}
use Rattle.stream_laws.specs.Nodes.{IsAmong}
use Rattle.stream_laws.proofs.Lists.{all_among}
use Rattle.view_laws.specs.Known.{ends}
use Rattle.net_relation.specs.Reading.{said, said_by, read, unfed, fresh, first_net}

-- ---- the first net

first_begun : (origin : ℕ) → IsBegun (first_net origin)
first_begun origin = record {
  now = refl;
  full = refl;
  stream = tt;
  behind = λ n. omega arith;
  none = λ n is. refl;
  some = λ n r is. absurd cc;
  base = λ n. refl;
  log = λ n. refl;
  cleaned = λ n. refl;
  forwards = λ n r is other. absurd cc;
}

pub net_sound : (origin : ℕ) (n : Net) → Leads (first_net origin) n → Sound n
net_sound origin n leads = sound_leads (first_net origin) n leads (sound_begun (first_net origin) (first_begun origin))

pub leads_on : (a b c : Net) → Leads a b → Leads b c → Leads a c
leads_on a b c one Here = one
leads_on a b c one (More {u = u} two step) = More (leads_on a b u one two) step

-- ---- transactions end

over_said : (set : ℕ) (taken : Snapshot) (body : Body) (b : Bool) →
    over_with (said_by set taken body) b ≡ (ends set body || b)
over_said set taken (SubscribeSet id provider receiver forward) b =
    elim (id == set) as (λ c. over_with (cond c (Subscribe receiver provider forward) Unrelated) b ≡ b) [
      | true ↦ refl
      | false ↦ refl
    ]
over_said set taken (EnableSubscription id provider receiver forward era) b =
    elim (id == set) as (λ c. over_with (cond c (Enable receiver) Unrelated) b ≡ b) [
      | true ↦ refl
      | false ↦ refl
    ]
over_said set taken (UnsubscribeSet id receiver) b =
    elim (id == set) as (λ c. over_with (cond c (Unsubscribe receiver) Unrelated) b ≡ b) [
      | true ↦ refl
      | false ↦ refl
    ]
over_said set taken (EndsSet id) b =
    elim (id == set) as (λ c. over_with (cond c DropSet Unrelated) b ≡ (c || b)) [
      | true ↦ refl
      | false ↦ refl
    ]
over_said set taken Sync b = refl
over_said set taken others b = refl

-- a set of which no event says that it ends is not over
pub on_live : (set : ℕ) (es : List Event) → AllByRecursion (λ e. ends set e.body ≡ false) es →
    is_over (read set es) ≡ false
on_live set [] all = refl
on_live set (e ∷ es) all =
    over_said set e.taken e.body (is_over (read set es))
    ∙ ap (λ b. b || is_over (read set es)) all.0 ∙ on_live set es all.1

-- what is not over was not before
pub over_back : (e : Said) (b : Bool) → over_with e b ≡ false → b ≡ false
over_back DropSet b is = absurd (true≢false is)
over_back MoveSet b is = absurd (true≢false is)
over_back others b is = is

-- So many more transactions have ended. They count as those of the era, if the set is not over.
pub record Ticked (n : ℕ) (w v : Net) : Type 0 where
  pub leads : Leads w v
  pub origin : v.origin ≡ w.origin
  pub start : v.start ≡ w.start
  pub stream : v.stream ≡ w.stream
  pub nodes : v.nodes ≡ w.nodes
  pub now : v.now ≡ w.now + n
  pub full : is_over v.stream ≡ false → v.full ≡ v.now

-- one more has ended
tick_more : (n : ℕ) (w : Net) (before : (v : Net) × Ticked n w v) (b : Bool) → is_over w.stream ≡ b →
    (v : Net) × Ticked (suc n) w v
tick_more n w (u, t) false on = (
  record u { now = u.now + 1; full = u.now + 1 },
  record {
    leads = More t.leads (Commits (ap is_over t.stream ∙ on) refl);
    origin = t.origin;
    start = t.start;
    stream = t.stream;
    nodes = t.nodes;
    now = let now = t.now in omega (arith, now);
    full = λ still. refl;
  },
)
tick_more n w (u, t) true over = (
  record u { now = u.now + 1 },
  record {
    leads = More t.leads (Ticks refl);
    origin = t.origin;
    start = t.start;
    stream = t.stream;
    nodes = t.nodes;
    now = let now = t.now in omega (arith, now);
    full = λ on. absurd (true≢false (sym (ap is_over t.stream ∙ over) ∙ on));
  },
)

pub ticks : (n : ℕ) (w : Net) → (is_over w.stream ≡ false → w.full ≡ w.now) → (v : Net) × Ticked n w v
ticks zero w full = (
  w,
  record {
    leads = Here;
    origin = refl;
    start = refl;
    stream = refl;
    nodes = refl;
    now = omega arith;
    full = full;
  },
)
ticks (suc n) w full = tick_more n w (ticks n w full) (is_over w.stream) refl

-- ---- events that are not of a receiver

abbrev pub Spares : ℕ → Said → Type 0
Spares r (Subscribe n p f) = n ≢ r
Spares r (Enable n) = n ≢ r
Spares r (Unsubscribe n) = n ≢ r
Spares r others = Unit {0}

-- for a node that keeps no view nothing changes by it but how far it is
spared_turn : (r : ℕ) (w : Net) (e : Said) (node : NetNode) → (w.nodes r).view ≡ None → Spares r e →
    node ≡ passed (w.nodes r) → Turn w r e node
spared_turn r w (Syncs m) node none spares is = Passes (inl none) is
spared_turn r w (Subscribe n p f) node none spares is = Passes (inl (λ same. none)) is
spared_turn r w (Enable n) node none spares is = Passes (inl spares) is
spared_turn r w (Unsubscribe n) node none spares is = Passes (inl spares) is
spared_turn r w DropSet node none spares is = Leaves tt (is ∙ (λ i. record (passed (w.nodes r)) { view = none i }))
spared_turn r w others node none spares is = Passes (inl tt) is

abbrev no_row : Option Row
no_row = None

none_changed : (r k c : ℕ) (e : Said) → Spares r e → changed r k c e None ≡ None
none_changed r k c (Subscribe n p f) spares = by (r == n) refl
  where
    by : (b : Bool) → (r == n) ≡ b → cond b (Some (subscribed k c p f None)) None ≡ None
    by true same = absurd (spares (sym (eqb-true r n same)))
    by false other = refl
none_changed r k c (Enable n) spares = by (r == n) refl
  where
    by : (b : Bool) → (r == n) ≡ b → cond b no_row no_row ≡ no_row
    by true same = refl
    by false other = refl
none_changed r k c (Unsubscribe n) spares = by (r == n)
  where
    by : (b : Bool) → cond b no_row no_row ≡ no_row
    by true = refl
    by false = refl
none_changed r k c DropSet spares = refl
none_changed r k c others spares = refl

pub spared_none : (r : ℕ) (z : List Said) → AllByRecursion (Spares r) z → row unfed r z ≡ None
spared_none r [] all = refl
spared_none r (e ∷ z) all =
    ap (changed r (length z + 1) (last_moment z) e) (spared_none r z all.1)
    ∙ none_changed r (length z + 1) (last_moment z) e all.0

-- ---- prefixes

pub all_up_to : (P : Said → Type 0) (k : ℕ) (z : List Said) → AllByRecursion P z → AllByRecursion P (up_to k z)
all_up_to P k [] all = tt
all_up_to P k (e ∷ z) all =
    by (cases_lt (length z) k) (all_up_to P k z all.1)
  where
    by : (length z < k) ⊎ (k ≤ length z) → AllByRecursion P (up_to k z) → AllByRecursion P (up_to k (e ∷ z))
    by (inl more) rest = subst (AllByRecursion P) (sym (up_to_new k e z more)) all
    by (inr less) rest = subst (AllByRecursion P) (sym (up_to_old k e z less)) rest

-- the first events of a stream are those behind the others
pub up_to_behind : (more z : List Said) (k : ℕ) → k ≤ length z → up_to k (more ++ z) ≡ up_to k z
up_to_behind [] z k less = refl
up_to_behind (e ∷ more) z k less =
    let long = length-append more z in
    up_to_old k e (more ++ z) (omega (arith, long, less)) ∙ up_to_behind more z k less

-- there is a next one
pub record HasNext (k : ℕ) (z : List Said) : Type 0 where
  pub event : Said
  pub among : IsAmong event z
  pub is : up_to (k + 1) z ≡ event ∷ up_to k z

pub has_next : (k : ℕ) (z : List Said) → k < length z → HasNext k z
has_next k [] less = absurd (omega (arith, less))
has_next k (e ∷ z) less = by (cases_lt k (length z)) (has_next k z)
  where
    by : (k < length z) ⊎ (length z ≤ k) → (k < length z → HasNext k z) → HasNext k (e ∷ z)
    by (inl later) rest =
        let n = rest later in
        record {
          event = n.event;
          among = inr n.among;
          is = up_to_old (k + 1) e z (omega (arith, later)) ∙ n.is
              ∙ ap (λ y. n.event ∷ y) (sym (up_to_old k e z (omega (arith, later))));
        }
    by (inr last) rest =
        let here : length z ≡ k = omega (arith, last, less) in
        record {
          event = e;
          among = inl refl;
          is = up_to_new (k + 1) e z (omega (arith, here))
              ∙ ap (λ y. e ∷ y) (sym (up_to_whole z) ∙ ap (λ i. up_to i z) here
              ∙ sym (up_to_old k e z (omega (arith, here))));
        }

-- the event of a stream behind the first k is the next one for who has applied these
pub said_next : (set : ℕ) (later : List Event) (e : Event) (earlier : List Event) (k : ℕ) → length earlier ≡ k →
    (k < length (read set (later ++ e ∷ earlier)))
    × (up_to (k + 1) (read set (later ++ e ∷ earlier)) ≡ said set e ∷ up_to k (read set (later ++ e ∷ earlier)))
    × (up_to k (read set (later ++ e ∷ earlier)) ≡ read set earlier)
said_next set later e earlier k here = (
  let long = ap length all ∙ length-append (read set later) (read set (e ∷ earlier)) in omega (arith, long, far),
  ap (up_to (k + 1)) all ∙ up_to_behind (read set later) (said set e ∷ read set earlier) (k + 1) (omega (arith, far))
      ∙ up_to_new (k + 1) (said set e) (read set earlier) (omega (arith, far)) ∙ ap (λ z. said set e ∷ z) (sym heard),
  heard,
)
  where
    all : read set (later ++ e ∷ earlier) ≡ read set later ++ said set e ∷ read set earlier
    all = map-append (said set) later (e ∷ earlier)

    far : length (read set earlier) ≡ k
    far = length-map earlier (said set) ∙ here

    heard : up_to k (read set (later ++ e ∷ earlier)) ≡ read set earlier
    heard =
        ap (up_to k) all ∙ up_to_behind (read set later) (said set e ∷ read set earlier) k (omega (arith, far))
        ∙ up_to_old k (said set e) (read set earlier) (omega (arith, far))
        ∙ ap (λ i. up_to i (read set earlier)) (sym far) ∙ up_to_whole (read set earlier)

-- ---- a node passes events by

abbrev pub at_fresh : ℕ → NetNode
at_fresh k = record fresh { progress = k }

-- one node has come so far, and nothing else has changed
pub record Passed (n k : ℕ) (w v : Net) : Type 0 where
  pub leads : Leads w v
  pub is : v ≡ with_node n (at_fresh k) w

set_twice : {X : Type 0} (n : ℕ) (x y : X) (f : ℕ → X) → set_at n y (set_at n x f) ≡ set_at n y f
set_twice n x y f = fun_ext (λ k. by (k == n) k)
  where
    by : (b : Bool) (k : ℕ) → cond b y (cond b x (f k)) ≡ cond b y (f k)
    by true k = refl
    by false k = refl

set_same : {X : Type 0} (n : ℕ) (f : ℕ → X) (x : X) → f n ≡ x → f ≡ set_at n x f
set_same n f x is = fun_ext (λ k. by k (k == n) refl)
  where
    by : (k : ℕ) (b : Bool) → (k == n) ≡ b → f k ≡ cond b x (f k)
    by k true same = ap f (eqb-true k n same) ∙ is
    by k false other = refl

pub passes : (n k : ℕ) (w : Net) → w.nodes n ≡ fresh → k ≤ length w.stream → AllByRecursion (Spares n) w.stream →
    (v : Net) × Passed n k w v
passes n zero w new less all =
    (w, record { leads = Here; is = λ i. record w { nodes = set_same n w.nodes fresh new i } })
passes n (suc k) w new less all =
    let before = passes n k w new (omega (arith, less)) all in
    let p = before.1 in
    let v : Net = with_node n (at_fresh k) w in
    let next = has_next k w.stream (omega (arith, less)) in
    let at : v.nodes n ≡ at_fresh k = set_here n (at_fresh k) w.nodes n refl in (
      with_node n (at_fresh (suc k)) w,
      record {
        leads = More (subst (Leads w) p.is p.leads) (Applies n (record {
          event = next.event;
          node = at_fresh (suc k);
          comes = record {
            more = let far = ap (λ (o : NetNode). o.progress) at in omega (arith, far, less);
            next = ap (λ (o : NetNode). up_to (o.progress + 1) w.stream) at ∙ next.is
                ∙ ap (λ (o : NetNode). next.event ∷ up_to o.progress w.stream) (sym at);
          };
          turn = spared_turn n v next.event (at_fresh (suc k)) (ap (λ (o : NetNode). o.view) at)
              (all_among (Spares n) next.event w.stream all next.among) (one_more k ∙ ap passed (sym at));
        }) (sym (λ i. record w { nodes = set_twice n (at_fresh k) (at_fresh (suc k)) w.nodes i })));
        is = refl;
      },
    )
  where
    one_more : (k : ℕ) → at_fresh (suc k) ≡ passed (at_fresh k)
    one_more k = ap at_fresh (omega arith)
