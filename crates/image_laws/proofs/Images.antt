-- An image is the committed rows, in every session that a legal history leads to.
use Rattle.image_laws.specs.Fits.{IsListed}
use Rattle.slon_model.specs.Names.{find_named}
use Rattle.std.proofs.Common.{inr}
use Rattle.std.proofs.Common.{inl}
use Rattle.image_laws.specs.Facts.{IsOf}
use Rattle.std.proofs.lemmas.Bool.{and_from}
use Rattle.image_laws.specs.Facts.{IsLogged}
use Rattle.slon_model.specs.Eras.{is_within}
use Rattle.image_laws.specs.Fits.{MayStand}
use Rattle.slon_laws.specs.Turning.{Turned}
use Rattle.slon_laws.specs.Keeps.{KeepsTasks}
use Rattle.image_laws.proofs.Deltas.{delta_leads}
use Rattle.image_laws.proofs.Reading.{has_had, read_leads}
use Rattle.image_laws.proofs.Had.{HadLogs, had_later, held_owned}
use Rattle.image_laws.specs.Deltas.{applied, IsRead}
use Rattle.stream_laws.proofs.Lists.{all_among, all_each, among_behind, append_parts}
use Rattle.slon_model.specs.Logs.{logged}
use Rattle.image_laws.proofs.Logs.{keeps_all, bare_all, turned_all}
use Rattle.std.proofs.Common.{◌≡◌, ℕ, ◌<◌, Bool, true, false, List, [], ◌∷◌, ◌++◌, Some, refl, sym, ap, subst, None}
use Rattle.std.proofs.Common.{◌∙◌, arith}
use Rattle.std.specs.Prelude.{◌==◌, ◌&&◌, find, nat_le}
use Rattle.std.specs.Str.{bytes_eq}
use Rattle.std.specs.List.{AllByRecursion}
use Rattle.std.proofs.lemmas.Bool.{false≢true, eqb-true, and_parts}
use Rattle.slon_model.specs.Names.{Named}
use Rattle.slon_model.specs.Rows.{Action, member, play_rows}
use Rattle.slon_model.specs.Snapshots.{sees}
use Rattle.slon_model.specs.Tasks.{ToFound}
use Rattle.slon_model.specs.Config.{era_of}
use Rattle.slon_model.specs.Deeds.{Logged, Node, knowledge}
use Rattle.slon_model.specs.Place.{Place, bare_place, standing_rows, taken}
use Rattle.slon_model.specs.Deciding.{place_by}
use Rattle.slon_model.specs.Eras.{Stretch, stretches, is_stretch, stretch_of, is_before, image_of}
use Rattle.slon_model.specs.World.{World, start, Happening, Step, Grants, Denies, Misses, Asks, Acts, Leads}
use Rattle.slon_model.proofs.Names.{all_map, all_put, all_behind, all_found, one_found, found_behind, bytes_same}
use Rattle.slon_model.proofs.Names.{bytes_itself}
use Rattle.slon_laws.specs.Sound.{Sound}
use Rattle.slon_laws.specs.Worlds.{AllPlaces}
use Rattle.slon_laws.proofs.Acting.{acting_turns}
use Rattle.slon_laws.proofs.Fetches.{all_kept, kept_step}
use Rattle.slon_laws.proofs.Keeps.{kept_task}
use Rattle.slon_laws.proofs.Later.{HoldsOf, put_holds, holds_later}
use Rattle.slon_laws.proofs.Played.{play_agrees, play_skips}
use Rattle.slon_laws.proofs.Sounds.{sound_bare}
use Rattle.slon_laws.proofs.Worlds.{sound_world}
use Rattle.stream_laws.proofs.Steps.{regular_world}
use Rattle.image_laws.specs.Laws.{ImageIsCommittedRows, SnapshotsAreMoments, LogsHaveTheActions, LogHas, ReadingLeads}
use Rattle.image_laws.specs.Laws.{LogHad, LogsHadTheActions, ReadingLed, WasTaken}
use Rattle.image_laws.proofs.Older.{seen_there}
use Rattle.stream_laws.specs.Nodes.{IsAmong}
use Rattle.image_laws.specs.Facts.{Lasts, HoldsStretch, HasStretch, NodeHolds, Holds, HasLogged, HoldsAll}
use Rattle.image_laws.proofs.Continuing.{IsLate, Continues, keeps_continuing, turned_continues}
use Rattle.image_laws.proofs.Fitting.{IsKeptOthers, KeepOthers, Ready, fetched_others, outcome_fit}
use Rattle.image_laws.proofs.Found.{find_has}
use Rattle.image_laws.proofs.Moving.{keeps_holding, bare_holds, turned_holds}
use Rattle.image_laws.proofs.Staying.{KeptLater, node_stays, stays_itself}
use Rattle.image_laws.proofs.Since.{Since, since_itself, keeps_since, seen_committed}
use Rattle.image_laws.proofs.Ticking.{Ticking, keeps_ticking, bare_ticks, turned_ticks, has_moments}

-- ---- every session

-- What holds of a database that is made, and is kept by each task, and by each way in which a step on several databases
-- changes one of them.
record LivesOn (R : Place → Type 0) : Type 0 where
  tasks : KeepsTasks (λ task. Unit {0}) R R
  bare : R bare_place
  turns : (p q : Place) → Turned MayStand p q → R p → R q

each_step : {R : Place → Type 0} → LivesOn R → (w v : World) (h : Happening) → Step w h v → Ready w → AllPlaces R w →
    AllPlaces R v
each_step {R} l w v h (Grants name result about granted takes told is) r all =
    subst (AllPlaces R) (sym is)
    (all_behind R name _ w.places (kept_task l.tasks ToFound bare_place h.choice (tt, l.bare)) all)
each_step {R} l w v h (Denies name about denied sure told is) r all = subst (AllPlaces R) (sym is) all
each_step {R} l w v h (Misses name task about none sure told is) r all = subst (AllPlaces R) (sym is) all
each_step {R} l w v h (Asks t) r all =
    subst (AllPlaces R) (sym t.is)
    (all_put R t.name _ w.places
    (kept_task l.tasks t.task t.place h.choice (tt, all_found R t.name t.place w.places all t.found)) all)
each_step {R} l w v h (Acts t) r all =
    acting_turns (λ name p q ps found turned was. all_put R name q ps (l.turns p q turned
    (all_found R name p ps was found)) was) w v h t (outcome_fit w r t.act) all

holds_on : LivesOn Holds
holds_on = record { tasks = keeps_holding; bare = bare_holds sound_bare; turns = turned_holds }

-- ---- a database, later

abbrev Both : (Place → Type 0) → List ℕ → Named Place → Type 0
Both R name ps = AllByRecursion (λ e. Holds e.1) ps × HoldsOf R name ps

pub later_step : {R : Place → Type 0} → KeptLater R → (name : List ℕ) (w v : World) (h : Happening) → Ready w →
    Step w h v → HoldsOf R name w.places → HoldsOf R name v.places
later_step {R} k name w v h ready step (q, found, holds) = by step
  where
    by : Step w h v → HoldsOf R name v.places
    by (Grants other result about granted takes told is) =
        subst (λ u. HoldsOf R name u.places) (sym is) (q, found_behind name other _ q w.places found, holds)
    by (Denies other about denied sure told is) = subst (λ u. HoldsOf R name u.places) (sym is) (q, found, holds)
    by (Misses other task about none sure told is) = subst (λ u. HoldsOf R name u.places) (sym is) (q, found, holds)
    by (Asks t) =
        subst (λ u. HoldsOf R name u.places) (sym t.is)
        (put_holds name w.places (record {
          name = t.name;
          before = t.place;
          behind = place_by t.task t.place h.choice;
          at = t.found;
          on = λ was. kept_task k.tasks t.task t.place h.choice
              (tt, (all_found Holds t.name t.place w.places ready.holds t.found, was));
        }) (q, found, holds))
    by (Acts t) =
        (acting_turns {R = Both R name} (λ other p q ps at turned both. (
          all_put Holds other q ps (turned_holds p q turned (all_found Holds other p ps both.0 at)) both.0,
          put_holds name ps (record {
            name = other;
            before = p;
            behind = q;
            at = at;
            on = λ was. k.turns p q turned (all_found Holds other p ps both.0 at) was;
          }) both.1,
        )) w v h t (outcome_fit w ready t.act) (ready.holds, (q, found, holds))).1

-- ---- every session

-- what nodes keep is of sets of others still
keep_others_step : (w v : World) (h : Happening) → Ready w → Step w h v → KeepOthers v
keep_others_step w v h ready step =
    all_kept (IsKeptOthers w) (IsKeptOthers v)
    (λ name origin f k. record {
      node = k.node;
      whole = k.whole;
      others = k.others;
      stays = later_step (node_stays k.node) name w v h ready step k.stays;
    }) v.memory.fetches (kept_step (IsKeptOthers w) w v h step (fetched_others w ready) ready.kept)

pub ready_world : (limit : ℕ) (history : List Happening) (w : World) → Leads (start limit) history w → Ready w
ready_world limit [] w is = record {
  regular = regular_world limit [] w is;
  holds = subst (AllPlaces Holds) (sym is) tt;
  kept = subst KeepOthers (sym is) tt;
}
ready_world limit (h ∷ hs) w leads = ready_by (ready_world limit hs leads.0 leads.1)
  where
    ready_by : Ready leads.0 → Ready w
    ready_by before = record {
      regular = regular_world limit (h ∷ hs) w leads;
      holds = each_step holds_on leads.0 w h leads.2 before before.holds;
      kept = keep_others_step leads.0 w h before leads.2;
    }

-- it holds of every database of every session
each_world : {R : Place → Type 0} → LivesOn R → (limit : ℕ) (history : List Happening) (w : World) →
    Leads (start limit) history w → AllPlaces R w
each_world {R} l limit [] w is = subst (AllPlaces R) (sym is) tt
each_world {R} l limit (h ∷ hs) w leads =
    each_step l leads.0 w h leads.2 (ready_world limit hs leads.0 leads.1) (each_world l limit hs leads.0 leads.1)

-- ---- a stretch, later

-- A stretch, the number below which no action may be behind its end, and the name of the database that has it.
record Sought : Type 0 where
  stretch : Stretch
  first : ℕ
  name : List ℕ

-- the database of the name continues the stretch
abbrev IsThere : Sought → Named Place → Type 0
IsThere s ps = HoldsOf (Continues s.stretch s.first) s.name ps

continues_step : (s : Sought) (w v : World) (h : Happening) → Step w h v → Ready w → IsThere s w.places →
    IsThere s v.places
continues_step s w v h step ready =
    later_step (record {
      tasks = keeps_continuing s.stretch s.first;
      turns = turned_continues s.stretch s.first;
    }) s.name w v h ready step

-- a history that goes on
pub joined : (limit : ℕ) (history later : List Happening) (w v : World) → Leads (start limit) history w →
    Leads w later v → Leads (start limit) (later ++ history) v
joined limit history [] w v leads is = subst (Leads (start limit) history) (sym is) leads
joined limit history (h ∷ later) w v leads goes_on =
    (goes_on.0, joined limit history later w goes_on.0 leads goes_on.1, goes_on.2)

-- A session that a history leads to, and what holds of a database of it.
record Reached (limit : ℕ) (w : World) : Type 0 where
  history : List Happening
  leads : Leads (start limit) history w

continues_later : (s : Sought) (limit : ℕ) (w : World) (r : Reached limit w) (later : List Happening) (v : World) →
    Leads w later v → IsThere s w.places → IsThere s v.places
continues_later s limit w r [] v is there = subst (λ u. IsThere s u.places) (sym is) there
continues_later s limit w r (h ∷ later) v leads there =
    continues_step s leads.0 v h leads.2
    (ready_world limit (later ++ r.history) leads.0 (joined limit r.history later w leads.0 r.leads leads.1))
    (continues_later s limit w r later leads.0 leads.1 there)

-- ---- the image

-- an action by whether the snapshot sees it, whether it is committed now and was then, and whether it is within the
-- stretch
image_by : (seen now then within late : Bool) → (seen ≡ true → now ≡ then) → (then ≡ true → seen ≡ true) →
    late ≡ true → ((seen && now) && (within && late)) ≡ (then && within)
image_by true now then within late same came is =
    ap (λ b. b && (within && late)) (same refl) ∙ ap (λ b. then && (within && b)) is ∙ by then within
  where
    by : (a b : Bool) → (a && (b && true)) ≡ (a && b)
    by true true = refl
    by true false = refl
    by false b = refl
image_by false now true within late same came is = absurd (false≢true (came refl))
image_by false now false within late same came is = refl

image_since : (p q : Place) (s t : Stretch) → Sound p → Since p q → t ≡ record s { last = t.last } →
    IsLate p.numbers.next t → image_of q.actions q.commits (taken p) (Some t)
    ≡ play_rows (λ a. member a.xid p.commits && nat_le s.first a.number) s.table p.actions s.before
image_since p q s t sound since same late =
    ap (λ u. image_of q.actions q.commits (taken p) (Some u)) same
    ∙ ap (λ actions. play_rows test s.table actions s.before) since.actions
    ∙ play_skips test s.table since.more p.actions s.before
    (all_map (λ a. sees (taken p) a.xid ≡ false) (λ a. test a ≡ false)
    (λ a unseen. ap (λ b. (b && member a.xid q.commits)
    && (nat_le s.first a.number && is_before a.number t.last)) unseen) since.more since.unseen)
    ∙ play_agrees test (λ a. member a.xid p.commits && nat_le s.first a.number) s.table p.actions s.before
    (all_map (λ a. a.number < p.numbers.next) (λ a. test a ≡ (member a.xid p.commits && nat_le s.first a.number))
    (λ a below. image_by (sees (taken p) a.xid) (member a.xid q.commits) (member a.xid p.commits)
    (nat_le s.first a.number) (is_before a.number t.last) (since.commits a.xid) (seen_committed p sound a.xid)
    (late.each a.number below)) p.actions sound.numbered)
  where
    test : Action → Bool
    test a =
        (sees (taken p) a.xid && member a.xid q.commits)
        && (nat_le s.first a.number && is_before a.number t.last)

pub image_is_committed_rows : ImageIsCommittedRows
image_is_committed_rows limit history later w v leads goes_on name p q found found_later n m is_n is_m set table held =
    ap (image_of q.actions q.commits (taken p)) there
    ∙ image_since p q s c.stretch sound since c.same c.late
    ∙ sym lasts.fills.rows ∙ ap (standing_rows p) same_table
  where
    ready : Ready w
    ready = ready_world limit history w leads

    sound : Sound p
    sound = (all_found Holds name p w.places ready.holds found).0

    holds : NodeHolds p n
    holds = (all_found Holds name p w.places ready.holds found).1 n is_n

    era : ℕ
    era = era_of set (knowledge n).config

    has : HasStretch (knowledge n).config (stretches n) set table
    has = holds.there set table held

    s : Stretch
    s = has.stretch

    is : HoldsStretch p n.id (knowledge n).config s × (is_stretch set era table s ≡ true)
    is = find_has (HoldsStretch p n.id (knowledge n).config) (is_stretch set era table) s (stretches n) holds.each
        has.found

    lasts : Lasts p n.id (knowledge n).config s
    lasts = is.0.lasts has.lasts

    parts : (s.set_id ≡ set) × ((s.era ≡ era) × (s.table ≡ table))
    parts =
        let first = and_parts (s.set_id == set) (s.era == era && bytes_eq table s.table) is.1 in
        let second = and_parts (s.era == era) (bytes_eq table s.table) first.1 in
        (eqb-true s.set_id set first.0, (eqb-true s.era era second.0, sym (bytes_same table s.table second.1)))

    same_table : s.table ≡ table
    same_table = parts.1.1

    test : is_stretch s.set_id s.era s.table ≡ is_stretch set era table
    test i = is_stretch (parts.0 i) (parts.1.0 i) (parts.1.1 i)

    begins : Continues s p.numbers.next p
    begins = record {
      node = n;
      is = is_n;
      stretch = s;
      found = ap (λ test. find test (stretches n)) test ∙ has.found;
      same = refl;
      late = record { each = λ x less. ap (is_before x) has.lasts };
      numbers = omega arith;
    }

    c : Continues s p.numbers.next q
    c =
        let there = continues_later (record { stretch = s; first = p.numbers.next; name = name }) limit w
        (record { history = history; leads = leads }) later v goes_on (p, found, begins) in
        subst (Continues s p.numbers.next) (one_found there.0 q (sym there.1 ∙ found_later)) there.2

    since : Since p q
    since =
        let there = (holds_later (keeps_since p sound) later w v (sound_world limit history w leads) goes_on name
        (p, found, since_itself p)).1 in
        subst (Since p) (one_found there.0 q (sym there.1 ∙ found_later)) there.2

    there : stretch_of set era table m ≡ Some c.stretch
    there =
        ap (λ test. find test (stretches m)) (sym test)
        ∙ ap (λ (x : Node). find (is_stretch s.set_id s.era s.table) (stretches x))
        (one_found m c.node (sym is_m ∙ c.is)) ∙ c.found

-- ---- moments

ticks_on : LivesOn Ticking
ticks_on = record { tasks = keeps_ticking; bare = bare_ticks sound_bare; turns = turned_ticks }

pub snapshots_are_moments : SnapshotsAreMoments
snapshots_are_moments limit history w leads name p found n is =
    has_moments p n (all_found Ticking name p w.places (each_world ticks_on limit history w leads) found) is

-- ---- logs

logs_on : LivesOn HoldsAll
logs_on = record { tasks = keeps_all; bare = bare_all sound_bare; turns = turned_all }

pub logs_have_the_actions : LogsHaveTheActions
logs_have_the_actions limit history w leads name p found n is set table held = (
  s,
  has.found,
  record {
    lasts = has.lasts;
    all = λ a among on came within.
        all_among _ a p.actions log.all among (same_bytes s.table a.table (sym on)) came
        (and_parts (nat_le s.first a.number) (is_before a.number s.last) within).0;
    only = λ l among on. all_among _ l (logged n) log.only among (same_bytes s.table l.action.table (sym on));
  },
)
  where
    holds : HoldsAll p
    holds = all_found HoldsAll name p w.places (each_world logs_on limit history w leads) found

    has : HasStretch (knowledge n).config (stretches n) set table
    has = (holds.0.1 n is).there set table held

    s : Stretch
    s = has.stretch

    log : HasLogged p n.id (logged n) s
    log =
        (find_has (λ t. t.last ≡ None → HasLogged p n.id (logged n) t) _ s (stretches n) (holds.1 n is).each
        has.found).0 has.lasts

    same_bytes : (x y : List ℕ) → x ≡ y → bytes_eq x y ≡ true
    same_bytes x y same = subst (λ z. bytes_eq x z ≡ true) same (bytes_itself x)

pub reading_leads : ReadingLeads
reading_leads limit name w p found n is old new was now covers set table held actions read =
    ap (λ o. applied actions (image_of p.actions p.commits old o)) log.1
    ∙ read_leads p n s sound.rising (record {
      old = old;
      new = new;
      actions = actions;
      is = subst (λ t. IsRead n t old new actions) (sym same) read;
    }) (has_had p n s new log.2) (image_of p.actions p.commits old (Some s))
    ∙ delta_leads limit name w p found old new was now covers s
    ∙ sym (ap (image_of p.actions p.commits new) log.1)
  where
    leads : Leads (start limit) (was.later ++ was.history) w
    leads = joined limit was.history was.later was.before w was.leads was.goes_on

    sound : Sound p
    sound = all_found Sound name p w.places (sound_world limit (was.later ++ was.history) w leads) found

    log : (s : Stretch) × (stretch_of set (era_of set (knowledge n).config) table n ≡ Some s) × LogHas p n s
    log = logs_have_the_actions limit (was.later ++ was.history) w leads name p found n is set table held

    s : Stretch
    s = log.0

    same : s.table ≡ table
    same =
        let passes = (find_has (λ t. Unit {0}) (is_stretch set (era_of set (knowledge n).config) table) s (stretches n)
        (all_each (λ t. Unit {0}) (λ t. tt) (stretches n)) log.1).1 in
        let first =
        and_parts (s.set_id == set) (s.era == era_of set (knowledge n).config && bytes_eq table s.table) passes in
        sym (bytes_same table s.table (and_parts (s.era == era_of set (knowledge n).config) (bytes_eq table s.table)
        first.1).1)

-- ---- sets that may have ended

-- what is kept of a database by each step holds later
kept_on : {R : Place → Type 0} → KeptLater R → (name : List ℕ) (limit : ℕ) (w : World) →
    Reached limit w × HoldsOf R name w.places → (later : List Happening) (v : World) → Leads w later v →
    HoldsOf R name v.places
kept_on {R} k name limit w (r, there) [] v is = subst (λ u. HoldsOf R name u.places) (sym is) there
kept_on k name limit w (r, there) (h ∷ later) v leads =
    later_step k name leads.0 v h
    (ready_world limit (later ++ r.history) leads.0 (joined limit r.history later w leads.0 r.leads leads.1)) leads.2
    (kept_on k name limit w (r, there) later leads.0 leads.1)

pub logs_had_the_actions : LogsHadTheActions
logs_had_the_actions limit name w p found n is k set era table h =
    (t, there, record { all = all; only = only })
  where
    was : WasTaken limit name w k
    was = h.taken

    q : Place
    q = was.place

    m : Node
    m = h.node

    sound : Sound q
    sound = all_found Sound name q was.before.places (sound_world limit was.history was.before was.leads) was.found

    log : (s : Stretch) × (stretch_of set (era_of set (knowledge m).config) table m ≡ Some s) × LogHas q m s
    log = logs_have_the_actions limit was.history was.before was.leads name q was.found m h.at set table h.held

    s : Stretch
    s = log.0

    now : HadLogs q m table p
    now =
        let there = kept_on (had_later q m table sound (held_owned m set table h.held)) name limit was.before (
          record { history = was.history; leads = was.leads },
          (
            q,
            was.found,
            record {
              stays = stays_itself m q h.at;
              since = since_itself q;
              logs = record { newer = []; log = λ x at. ap logged (one_found x m (sym at ∙ h.at)); unseen = tt };
            },
          ),
        ) was.later w was.goes_on in
        subst (HadLogs q m table) (one_found there.0 p (sym there.1 ∙ found)) there.2

    parts : (s.set_id ≡ set) × ((s.era ≡ era) × (s.table ≡ table))
    parts =
        let passes = (find_has (λ t. Unit {0}) (is_stretch set (era_of set (knowledge m).config) table) s (stretches m)
        (all_each (λ t. Unit {0}) (λ t. tt) (stretches m)) log.1).1 in
        let first =
        and_parts (s.set_id == set) (s.era == era_of set (knowledge m).config && bytes_eq table s.table) passes in
        let second = and_parts (s.era == era_of set (knowledge m).config) (bytes_eq table s.table) first.1 in (
          eqb-true s.set_id set first.0,
          (
            eqb-true s.era (era_of set (knowledge m).config) second.0 ∙ sym h.is_era,
            sym (bytes_same table s.table second.1),
          ),
        )

    test : is_stretch s.set_id s.era s.table ≡ is_stretch set era table
    test i = is_stretch (parts.0 i) (parts.1.0 i) (parts.1.1 i)

    c : Continues s q.numbers.next p
    c =
        let there = continues_later (record { stretch = s; first = q.numbers.next; name = name }) limit was.before
        (record { history = was.history; leads = was.leads }) was.later w was.goes_on (
          q,
          was.found,
          record {
            node = m;
            is = h.at;
            stretch = s;
            found = ap (λ test. find test (stretches m)) test
                ∙ ap (λ era. find (is_stretch set era table) (stretches m)) h.is_era ∙ log.1;
            same = refl;
            late = record { each = λ x less. ap (is_before x) log.2.lasts };
            numbers = omega arith;
          },
        ) in
        subst (Continues s q.numbers.next) (one_found there.0 p (sym there.1 ∙ found)) there.2

    t : Stretch
    t = c.stretch

    there : stretch_of set era table n ≡ Some t
    there =
        ap (λ test. find test (stretches n)) (sym test)
        ∙ ap (λ (x : Node). find (is_stretch s.set_id s.era s.table) (stretches x))
        (one_found n c.node (sym is ∙ c.is)) ∙ c.found

    since : Since q p
    since = now.since

    newer : List Logged
    newer = now.logs.newer

    logs : logged n ≡ newer ++ logged m
    logs = now.logs.log n is

    -- a transaction that the snapshot sees had committed then
    came : (x : ℕ) → sees k x ≡ true → member x p.commits ≡ member x q.commits
    came x seen = since.commits x (subst (λ j. sees j x ≡ true) was.is seen)

    all : (a : Action) → IsAmong a p.actions → a.table ≡ t.table → member a.xid p.commits ≡ true →
        is_within t a ≡ true → sees k a.xid ≡ true → IsLogged (logged n) a
    all a among on committed within seen =
        let then = seen_there (taken q) a since.more q.actions since.unseen (subst (IsAmong a) since.actions among)
        (subst (λ j. sees j a.xid ≡ true) was.is seen) in
        let first = (and_parts (nat_le t.first a.number) (is_before a.number t.last) within).0 in
        let had = log.2.all a then (on ∙ ap (λ (x : Stretch). x.table) c.same) (sym (came a.xid seen) ∙ committed)
        (and_from (nat_le s.first a.number) (is_before a.number s.last)
        (ap (λ (x : Stretch). nat_le x.first a.number) (sym c.same) ∙ first)
        (ap (is_before a.number) log.2.lasts)) in
        (had.0, subst (IsAmong had.0) (sym logs) (among_behind had.0 newer (logged m) had.1), had.2)

    of_old : (l : Logged) → IsAmong l (logged m) → l.action.table ≡ t.table → sees k l.action.xid ≡ true →
        IsOf p n.id t l × (is_within t l.action ≡ true)
    of_old l among on seen =
        let one = log.2.only l among (on ∙ ap (λ (x : Stretch). x.table) c.same) in
        let drawn = all_among (λ a. a.number < q.numbers.next) l.action q.actions sound.numbered one.among in (
          record {
            set_id = one.set_id ∙ ap (λ (x : Stretch). x.set_id) (sym c.same);
            era = one.era ∙ ap (λ (x : Stretch). x.era) (sym c.same);
            origin = one.origin ∙ sym now.stays.id
                ∙ ap (λ (x : Node). x.id) (one_found now.stays.node n (sym now.stays.is ∙ is));
            among = subst (IsAmong l.action) (sym since.actions)
                (among_behind l.action since.more q.actions one.among);
            came = came l.action.xid seen ∙ one.came;
            first = ap (λ (x : Stretch). nat_le x.first l.action.number) c.same ∙ one.first;
          },
          and_from (nat_le t.first l.action.number) (is_before l.action.number t.last)
              (ap (λ (x : Stretch). nat_le x.first l.action.number) c.same ∙ one.first)
              (c.late.each l.action.number drawn),
        )

    only : (l : Logged) → IsAmong l (logged n) → l.action.table ≡ t.table → sees k l.action.xid ≡ true →
        IsOf p n.id t l × (is_within t l.action ≡ true)
    only l among on seen =
        elim (append_parts l newer (logged m) (subst (IsAmong l) logs among)) [
          | inl new ↦ absurd (false≢true (sym (all_among (λ l. l.action.table ≡ table →
              sees (taken q) l.action.xid ≡ false) l newer now.logs.unseen new
              (on ∙ ap (λ (x : Stretch). x.table) c.same ∙ parts.1.1))
              ∙ subst (λ j. sees j l.action.xid ≡ true) was.is seen))
          | inr old ↦ of_old l old on seen
        ]

pub reading_led : ReadingLed
reading_led limit name w p found n is old new was covers set era table held actions read =
    ap (λ o. applied actions (image_of p.actions p.commits old o)) log.1
    ∙ read_leads p n s sound.rising (record {
      old = old;
      new = new;
      actions = actions;
      is = subst (λ t. IsRead n t old new actions) (sym same) read;
    }) log.2 (image_of p.actions p.commits old (Some s))
    ∙ delta_leads limit name w p found old new was held.taken covers s
    ∙ sym (ap (image_of p.actions p.commits new) log.1)
  where
    leads : Leads (start limit) (was.later ++ was.history) w
    leads = joined limit was.history was.later was.before w was.leads was.goes_on

    sound : Sound p
    sound = all_found Sound name p w.places (sound_world limit (was.later ++ was.history) w leads) found

    log : (s : Stretch) × (stretch_of set era table n ≡ Some s) × LogHad p n s new
    log = logs_had_the_actions limit name w p found n is new set era table held

    s : Stretch
    s = log.0

    same : s.table ≡ table
    same =
        let passes = (find_has (λ t. Unit {0}) (is_stretch set era table) s (stretches n)
        (all_each (λ t. Unit {0}) (λ t. tt) (stretches n)) log.1).1 in
        let first = and_parts (s.set_id == set) (s.era == era && bytes_eq table s.table) passes in
        sym (bytes_same table s.table (and_parts (s.era == era) (bytes_eq table s.table) first.1).1)

-- each table of an entry of the log of this place's node is known to it
abbrev pub ListsLogged : Place → Type 0
ListsLogged p =
    (n : Node) → p.node ≡ Some n → AllByRecursion (λ l. IsListed l.action.table (knowledge n).config) (logged n)

-- so it is of each place
pub logs_listed : (limit : ℕ) (history : List Happening) (w : World) → Leads (start limit) history w →
    (name : List ℕ) (p : Place) → find_named name w.places ≡ Some p → ListsLogged p
logs_listed limit history w leads name p found n is =
    ((all_found HoldsAll name p w.places (each_world logs_on limit history w leads) found).1 n is).listed
