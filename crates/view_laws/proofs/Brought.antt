-- What there is for an event that a node applies was found in a session of the history: in the present one, or in one
-- before, in which the node fetched it.
use Rattle.std.proofs.Common.{◌≡◌, ◌∙◌, inl, inr, ℕ, true, List, [], ◌∷◌, Option, Some, None, Ok, refl, sym}
use Rattle.std.proofs.Common.{ap, filter, subst}
use Rattle.std.specs.Prelude.{◌==◌, ◌&&◌}
use Rattle.std.specs.List.{AllByRecursion}
use Rattle.std.specs.Str.{bytes_eq}
use Rattle.std.proofs.lemmas.Bool.{and_parts, eqb-true, false≢true}
use Rattle.slon_model.specs.Snapshots.{Snapshot}
use Rattle.slon_model.specs.Events.{Event}
use Rattle.slon_model.specs.Views.{View, Views, first_view, view_after}
use Rattle.slon_model.specs.Names.{find_named}
use Rattle.slon_model.specs.Deeds.{Node, Brought, Knowledge, nothing_brought, view_of}
use Rattle.slon_model.specs.Logs.{logged}
use Rattle.slon_model.specs.Following.{Found, SetSync, brought_of, kept_from}
use Rattle.slon_model.specs.Following.{FoundCopy, is_on_one, with_syncs}
use Rattle.slon_model.specs.Sessions.{World, Fetch, Seat}
use Rattle.slon_model.specs.Turns.{same_snapshot}
use Rattle.slon_model.specs.Working.{Carried, Fetched, fetch_of, fetched, is_view, kept_fetch, names_taken, rows_at}
use Rattle.slon_model.specs.Working.{same_view, stands, still}
use Rattle.slon_model.specs.World.{start, Happening, Leads}
use Rattle.slon_model.proofs.Names.{bytes_same, one_found}
use Rattle.slon_laws.proofs.Later.{HoldsOf}
use Rattle.stream_laws.proofs.Seats.{IsSeat}
use Rattle.image_laws.proofs.Staying.{Stays}
use Rattle.slon_laws.specs.Fetches.{AllKept, FoundOn}
use Rattle.slon_laws.proofs.Fetches.{IsKeptFor, all_kept, kept_for, kept_step}
use Rattle.slon_laws.proofs.Fillable.{still_on}
use Rattle.slon_laws.proofs.Following.{sync_on}
use Rattle.slon_laws.proofs.Results.{OnOk, any_ok, ok_is}
use Rattle.stream_laws.specs.Nodes.{IsAmong}
use Rattle.stream_laws.proofs.Copies.{AreTakenOf, Finds, IsCopy, IsFollowed, IsTakenOf, IsVain}
use Rattle.stream_laws.proofs.Copies.{Nothing as FindsNothing}
use Rattle.stream_laws.proofs.Copies.{Brings as FindsSyncs, Copies as FindsCopy}
use Rattle.stream_laws.proofs.Lists.{all_each, all_passed, among_all}
use Rattle.stream_laws.proofs.Works.{IsCarried, IsFetched, IsThere, IsWork, Fresh, Kept, fetched_ok}
use Rattle.view_laws.specs.Past.{Past, IsBefore, IsPastBefore, PastBefore, PastUpTo, WasUpTo, past}
use Rattle.view_laws.proofs.Reached.{event_now, now_stays, one_of, regular_now}
use Rattle.view_laws.proofs.Rising.{found_stands}

-- ---- what is kept

-- a session of the history up to one before is one before
pub past_earlier : (limit : ℕ) (history : List Happening) (w : World) (leads : Leads (start limit) history w)
    (s : Past) → IsPastBefore limit history w leads s → (u : World) → WasUpTo s u → IsBefore limit history w leads u
past_earlier limit [] w leads s to u was = absurd to
past_earlier limit (h ∷ hs) w leads s (inl same) u was = subst (λ r. WasUpTo r u) same was
past_earlier limit (h ∷ hs) w leads s (inr to) u was = inr (past_earlier limit hs leads.0 leads.1 s to u was)

-- What the node of the database of this name keeps for this origin, a turn fetched in a session to which one of these
-- histories leads.
pub record WasFetched (Was : Past → Type 0) (name : List ℕ) (origin : ℕ) (f : Fetch) : Type 0 where
  pub to : Past
  pub was : Was to
  pub by : ℕ
  pub of : ℕ
  pub read : Fetched
  pub turn : fetched by of to.world ≡ Ok read
  pub named : read.seat.name ≡ name
  pub own : read.event.origin ≡ origin
  pub same : fetch_of read ≡ f

kept_was : (limit : ℕ) (history : List Happening) (w : World) (leads : Leads (start limit) history w) →
    AllKept (WasFetched (IsPastBefore limit history w leads)) w.memory.fetches
kept_was limit [] w is = subst (λ u. AllKept (WasFetched (λ s. ⊥)) u.memory.fetches) (sym is) tt
kept_was limit (h ∷ hs) w leads =
    kept_step Now leads.0 w h leads.2
    (λ node origin. ok_is (λ x. Unit {0}) (λ x. Now x.seat.name x.event.origin (fetch_of x))
    (fetched node origin leads.0) (any_ok (λ x. Unit {0}) (fetched node origin leads.0) (λ x. tt))
    (λ x turn any. record {
      to = past limit hs leads.0 leads.1;
      was = inl refl;
      by = node;
      of = origin;
      read = x;
      turn = turn;
      named = refl;
      own = refl;
      same = refl;
    }))
    (all_kept (WasFetched (IsPastBefore limit hs leads.0 leads.1)) Now
    (λ name origin f was. record {
      to = was.to;
      was = inr was.was;
      by = was.by;
      of = was.of;
      read = was.read;
      turn = was.turn;
      named = was.named;
      own = was.own;
      same = was.same;
    }) leads.0.memory.fetches (kept_was limit hs leads.0 leads.1))
  where
    Now : List ℕ → ℕ → Fetch → Type 0
    Now = WasFetched (IsPastBefore limit (h ∷ hs) w leads)

-- ---- what is brought

-- The history up to the session in which the node at its seat found what there is for an event, which was the next one
-- then.
pub record Finding (t : Past) (s : Seat) (e : Event) : Type 0 where
  pub to : Past
  pub within : PastUpTo t to
  pub seat : Seat
  pub name : seat.name ≡ s.name
  pub origin : ℕ
  pub work : IsWork to.world origin seat e

-- What is taken of a set with a SYNC goes on from the view that the node keeps of it.
pub record IsKept (k : Knowledge) (e : Event) (y : SetSync) : Type 0 where
  pub among : IsAmong (y.set_id, y.before) k.views
  pub origin : y.before.origin ≡ e.origin
  pub view : y.view ≡ view_after e y.before

-- all of these, or those of which the view stands
pub data IsPart (k : Knowledge) (ys all : List SetSync) : Type 0 where
  Whole : ys ≡ all → IsPart k ys all
  Standing : ys ≡ filter (stands k) all → IsPart k ys all

pub part_has : (P : SetSync → Type 0) (k : Knowledge) (ys all : List SetSync) → IsPart k ys all → AllByRecursion P all →
    AllByRecursion P ys
part_has P k ys all (Whole is) have = subst (AllByRecursion P) (sym is) have
part_has P k ys all (Standing is) have =
    subst (AllByRecursion P) (sym is) (all_passed P P (stands k) (λ y has passes. has) all have)

-- Nothing is brought, as there was nothing to be found.
pub record IsSilent (t : Past) (s : Seat) (e : Event) (b : Brought) : Type 0 where
  pub at : Finding t s e
  pub none : b ≡ nothing_brought
  pub vain : IsVain at.to.world at.seat e

-- the view that begins with a copy, and what is found for it
abbrev pub copied_view : {w : World} {s : Seat} {e : Event} {f : Found} → IsCopy w s e f → View
copied_view {e = e} k = first_view k.copying.era e.origin e.number k.seen

abbrev pub found_copy : {w : World} {s : Seat} {e : Event} {f : Found} → IsCopy w s e f → Found
found_copy {s = s} k =
    FoundCopy k.copying.set_id (copied_view k) (rows_at k.provider.place (names_taken s k.copying.set_id))

-- A set was copied.
pub record IsCopied (t : Past) (s : Seat) (e : Event) (b : Brought) : Type 0 where
  pub at : Finding t s e
  pub found : Found
  pub copy : IsCopy at.to.world at.seat e found
  pub is : b ≡ brought_of s.place (found_copy copy)

-- What was read for a SYNC of the logs of providers, of the sets of which the view stands.
pub record IsSynced (t : Past) (s : Seat) (e : Event) (b : Brought) : Type 0 where
  pub at : Finding t s e
  pub found : Found
  pub follows : IsFollowed at.to.world at.seat e found
  pub syncs : List SetSync
  pub kept : AllByRecursion (IsKept s.known e) syncs
  pub part : IsPart s.known syncs follows.syncs
  pub is : b ≡ with_syncs s.place syncs nothing_brought

-- what a node brings with an event
pub data IsBrought (t : Past) (s : Seat) (e : Event) (b : Brought) : Type 0 where
  Nothing : IsSilent t s e b → IsBrought t s e b
  Copies : IsCopied t s e b → IsBrought t s e b
  Brings : IsSynced t s e b → IsBrought t s e b

-- ---- views that stand

same_snapshot_is : (a b : Snapshot) → same_snapshot a b ≡ true → a ≡ b
same_snapshot_is a b same =
    let one = and_parts (a.xmin == b.xmin) (a.xmax == b.xmax && bytes_eq a.running b.running) same in
    let two = and_parts (a.xmax == b.xmax) (bytes_eq a.running b.running) one.1 in
    let xmin = eqb-true a.xmin b.xmin one.0 in
    let xmax = eqb-true a.xmax b.xmax two.0 in
    let running = bytes_same a.running b.running two.1 in
    λ i. record { xmin = xmin i; xmax = xmax i; running = running i }

same_view_is : (a b : View) → same_view a b ≡ true → a ≡ b
same_view_is a b same =
    let one = and_parts (a.era == b.era) _ same in
    let two = and_parts (a.origin == b.origin) _ one.1 in
    let three = and_parts (a.number == b.number) _ two.1 in
    let four = and_parts (same_snapshot a.seen b.seen) _ three.1 in
    let five = and_parts (a.base_era == b.base_era) (same_snapshot a.base b.base) four.1 in
    let era = eqb-true a.era b.era one.0 in
    let origin = eqb-true a.origin b.origin two.0 in
    let number = eqb-true a.number b.number three.0 in
    let seen = same_snapshot_is a.seen b.seen four.0 in
    let base_era = eqb-true a.base_era b.base_era five.0 in
    let base = same_snapshot_is a.base b.base five.1 in
    λ i. record {
      era = era i;
      origin = origin i;
      number = number i;
      seen = seen i;
      base_era = base_era i;
      base = base i;
    }

-- a view that stands is one that is kept
stands_among : (k : Knowledge) (y : SetSync) → stands k y ≡ true → IsAmong (y.set_id, y.before) k.views
stands_among k y stands = by (view_of y.set_id k) refl stands
  where
    by : (o : Option View) → view_of y.set_id k ≡ o → is_view y.before o ≡ true → IsAmong (y.set_id, y.before) k.views
    by None found none = absurd (false≢true none)
    by (Some v) found same =
        subst (λ u. IsAmong (y.set_id, u) k.views) (same_view_is v y.before same)
        (found_stands y.set_id v k.views found)

-- what holds of all that is taken of a set that is kept holds of all that is taken
pub taken_each : {w : World} {s : Seat} {e : Event} (P : ℕ × View → Type 0) (Q : SetSync → Type 0) →
    ((v : ℕ × View) (y : SetSync) → P v → IsTakenOf w s e v y → Q y) → (vs : Views) (ys : List SetSync) →
    AreTakenOf w s e vs ys → AllByRecursion P vs → AllByRecursion Q ys
taken_each P Q each [] [] taken have = tt
taken_each P Q each (v ∷ vs) (y ∷ ys) taken have =
    (each v y have.0 taken.0, taken_each P Q each vs ys taken.1 have.1)
taken_each P Q each [] (y ∷ ys) taken have = absurd taken
taken_each P Q each (v ∷ vs) [] taken have = absurd taken

-- of each set that is kept something is taken
pub taken_at : {w : World} {s : Seat} {e : Event} (v : ℕ × View) (vs : Views) (ys : List SetSync) →
    AreTakenOf w s e vs ys → IsAmong v vs → (y : SetSync) × IsAmong y ys × IsTakenOf w s e v y
taken_at {w} {s} {e} v (u ∷ vs) (y ∷ ys) taken (inl is) =
    (y, inl refl, subst (λ x. IsTakenOf w s e x y) (sym is) taken.0)
taken_at v (u ∷ vs) (y ∷ ys) taken (inr later) =
    let rest = taken_at v vs ys taken.1 later in (rest.0, inr rest.1, rest.2)
taken_at v (u ∷ vs) [] taken among = absurd taken
taken_at v [] ys taken among = absurd among

-- and what holds of all that is taken, of each set that is kept
pub taken_back : {w : World} {s : Seat} {e : Event} (P : ℕ × View → Type 0) (Q : SetSync → Type 0) →
    ((v : ℕ × View) (y : SetSync) → Q y → IsTakenOf w s e v y → P v) → (vs : Views) (ys : List SetSync) →
    AreTakenOf w s e vs ys → AllByRecursion Q ys → AllByRecursion P vs
taken_back P Q each [] [] taken have = tt
taken_back P Q each (v ∷ vs) (y ∷ ys) taken have =
    (each v y have.0 taken.0, taken_back P Q each vs ys taken.1 have.1)
taken_back P Q each [] (y ∷ ys) taken have = absurd taken
taken_back P Q each (v ∷ vs) [] taken have = absurd taken

-- the sets that a node keeps of an origin
pub all_kept_from : (k : Knowledge) (origin : ℕ) →
    AllByRecursion (λ v. IsAmong v k.views × (v.1.origin ≡ origin)) (kept_from origin k)
all_kept_from k origin =
    all_passed (λ v. IsAmong v k.views) (λ v. IsAmong v k.views × (v.1.origin ≡ origin))
    (λ v. v.1.origin == origin) (λ v among from. (among, eqb-true v.1.origin origin from)) k.views
    (among_all (λ v. IsAmong v k.views) k.views (λ v among. among))

-- what is read for a SYNC
syncs_kept : (w : World) (s : Seat) (e : Event) (f : Found) (k : IsFollowed w s e f) →
    AllByRecursion (IsKept s.known e) k.syncs
syncs_kept w s e f k =
    taken_each (λ v. IsAmong v s.known.views × (v.1.origin ≡ e.origin)) (IsKept s.known e)
    (λ v y is taken. record {
      among = subst (λ (z : SetSync). IsAmong (z.set_id, z.before) s.known.views) (sym taken.is) is.0;
      origin = ap (λ (z : SetSync). z.before.origin) taken.is ∙ is.1;
      view = ap (λ (z : SetSync). z.view) taken.is ∙ ap (λ (z : SetSync). view_after e z.before) (sym taken.is);
    }) (kept_from e.origin s.known) k.syncs k.taken (all_kept_from s.known e.origin)

-- of which the view still stands
standing_kept : (k now : Knowledge) (e : Event) (ys : List SetSync) → AllByRecursion (IsKept k e) ys →
    AllByRecursion (IsKept now e) (filter (stands now) ys)
standing_kept k now e ys all =
    all_passed (IsKept k e) (IsKept now e) (stands now)
    (λ y is passes. record { among = stands_among now y passes; origin = is.origin; view = is.view }) ys all

-- ---- what there is for an event

-- What a node keeps for an event, it found for that in an earlier session.
pub record KeptFinding (t : Past) (s : Seat) (e : Event) (f : Found) : Type 0 where
  pub at : Finding t s e
  pub finds : Finds at.to.world at.seat e f

kept_found : (t : Past) (origin : ℕ) (s : Seat) (e : Event) → IsWork t.world origin s e → (f : Found) →
    kept_fetch s.name e.origin e t.world.memory ≡ Some f → KeptFinding t s e f
kept_found t origin s e work f some = record {
  at = record {
    to = k.to;
    within = inr k.was;
    seat = k.read.seat;
    name = k.named;
    origin = k.of;
    work = subst (IsWork k.to.world k.of k.read.seat) one is.work;
  };
  finds =
      subst (Finds k.to.world k.read.seat e) (ap (λ (g : Fetch). g.found) k.same ∙ kept.found)
      (subst (λ ev. Finds k.to.world k.read.seat ev k.read.found) one is.finds);
}
  where
    kept : IsKeptFor (WasFetched (PastBefore t)) s.name e f
    kept = kept_for (WasFetched (PastBefore t)) s.name e t.world.memory f
        (kept_was t.limit t.history t.world t.leads) some

    k : WasFetched (PastBefore t) s.name e.origin kept.fetch
    k = kept.has

    is : IsFetched k.to.world k.of k.read
    is = subst (OnOk (IsFetched k.to.world k.of)) k.turn (fetched_ok k.by k.of k.to.world (regular_now k.to))

    one : k.read.event ≡ e
    one =
        one_of t k.read.event e
        (event_now t k.read.event (record {
          session = k.to.world;
          was = inr (past_earlier t.limit t.history t.world t.leads k.to k.was k.to.world (inl refl));
          is = is.work.event;
        })) work.event
        (k.own, ap (λ (g : Fetch). g.number) k.same ∙ kept.number)

finds_on : (w : World) (s : Seat) (e : Event) (f : Found) → Finds w s e f → FoundOn f
finds_on w s e f (FindsNothing none vain) = subst FoundOn (sym none) tt
finds_on w s e f (FindsCopy k) = subst FoundOn (sym k.is) tt
finds_on w s e f (FindsSyncs k) =
    subst FoundOn (sym k.is) (taken_each (λ v. Unit {0})
    (λ y. AllByRecursion (λ l. is_on_one y.tables l ≡ true) y.rows)
    (λ v y any taken. subst (λ (z : SetSync). AllByRecursion (λ l. is_on_one z.tables l ≡ true) z.rows) (sym taken.is)
    (sync_on s.node.id s.known e (logged taken.provider.node) v)) (kept_from e.origin s.known) k.syncs k.taken
    (all_each (λ v. Unit {0}) (λ v. tt) (kept_from e.origin s.known)))

-- its actions are on the tables that it names
pub there_on : (t : Past) (origin : ℕ) (s : Seat) (e : Event) (f : Found) → IsWork t.world origin s e →
    IsThere t.world s e f → FoundOn f
there_on t origin s e f work (Fresh finds) = finds_on t.world s e f finds
there_on t origin s e f work (Kept g some same) =
    let k = kept_found t origin s e work g some in
    subst FoundOn (sym same) (still_on s.known g (finds_on k.at.to.world k.at.seat e g k.finds))

pub brought_is : (t : Past) (origin : ℕ) (x : Carried) → IsCarried t.world origin x →
    IsBrought t x.seat x.event x.brought
brought_is t origin x c = by c.there
  where
    s : Seat
    s = x.seat

    e : Event
    e = x.event

    now : Finding t s e
    now = record {
      to = t;
      within = inl refl;
      seat = s;
      name = refl;
      origin = origin;
      work = c.work;
    }

    fresh : Finds t.world s e c.found → IsBrought t s e x.brought
    fresh (FindsNothing none vain) =
        Nothing (record { at = now; none = c.is ∙ ap (brought_of s.place) none; vain = vain })
    fresh (FindsCopy k) =
        Copies (record { at = now; found = c.found; copy = k; is = c.is ∙ ap (brought_of s.place) k.is })
    fresh (FindsSyncs k) = Brings (record {
      at = now;
      found = c.found;
      follows = k;
      syncs = k.syncs;
      kept = syncs_kept t.world s e c.found k;
      part = Whole refl;
      is = c.is ∙ ap (brought_of s.place) k.is;
    })

    kept : (g : Found) → c.found ≡ still s.known g → (k : KeptFinding t s e g) → Finds k.at.to.world k.at.seat e g →
        IsBrought t s e x.brought
    kept g same k (FindsNothing none vain) =
        Nothing (record {
          at = k.at;
          none = c.is ∙ ap (brought_of s.place) (same ∙ ap (still s.known) none);
          vain = vain;
        })
    kept g same k (FindsCopy copy) =
        Copies (record {
          at = k.at;
          found = g;
          copy = copy;
          is = c.is ∙ ap (brought_of s.place) (same ∙ ap (still s.known) copy.is);
        })
    kept g same k (FindsSyncs f) =
        Brings (record {
          at = k.at;
          found = g;
          follows = f;
          syncs = filter (stands s.known) f.syncs;
          kept = standing_kept k.at.seat.known s.known e f.syncs (syncs_kept k.at.to.world k.at.seat e g f);
          part = Standing refl;
          is = c.is ∙ ap (brought_of s.place) (same ∙ ap (still s.known) f.is);
        })

    by : IsThere t.world s e c.found → IsBrought t s e x.brought
    by (Fresh finds) = fresh finds
    by (Kept g some same) = let k = kept_found t origin s e c.work g some in kept g same k k.finds

-- ---- the node then and now

-- a session of the history up to there is one of the history
pub earlier : {t : Past} {s : Seat} {e : Event} (a : Finding t s e) (u : World) → WasUpTo a.to u → WasUpTo t u
earlier {t = t} a u was = by a.within
  where
    by : PastUpTo t a.to → WasUpTo t u
    by (inl same) = subst (λ r. WasUpTo r u) same was
    by (inr to) = inr (past_earlier t.limit t.history t.world t.leads a.to to u was)

-- that session is one of the history
abbrev pub was_then : {t : Past} {s : Seat} {e : Event} (a : Finding t s e) → WasUpTo t a.to.world
was_then a = earlier a a.to.world (inl refl)

-- the node is the same one
pub seat_stays : (t : Past) (s : Seat) (e : Event) (a : Finding t s e) → IsSeat t.world.places s →
    Stays a.seat.node s.place
seat_stays t s e a is =
    subst (Stays a.seat.node)
    (one_found now.0 s.place (sym now.1 ∙ ap (λ name. find_named name t.world.places) a.name ∙ is.found)) now.2
  where
    now : HoldsOf (Stays a.seat.node) a.seat.name t.world.places
    now = now_stays t a.to.world (was_then a) a.seat.name a.seat.place a.seat.node a.work.seat.found a.work.seat.node

pub same_id : (t : Past) (s : Seat) (e : Event) (a : Finding t s e) → IsSeat t.world.places s →
    a.seat.node.id ≡ s.node.id
same_id t s e a is =
    let stays = seat_stays t s e a is in
    sym stays.id ∙ ap (λ (n : Node). n.id) (one_found stays.node s.node (sym stays.is ∙ is.node))
