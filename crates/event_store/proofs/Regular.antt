-- What holds of the streams of every node holds of them whatever the node does.
use Rattle.std.proofs.Common.{◌≡◌, ◌∙◌, ℕ, ◌<◌, ◌≤◌, Bool, true, false, cond, List, [], ◌∷◌, map, Some}
use Rattle.std.proofs.Common.{None, refl, sym, ap, subst, arith, eq-eqb, unwrap_or}
use Rattle.std.specs.Prelude.{◌==◌, ◌&&◌, ◌||◌, nat_lt, not}
use Rattle.std.specs.List.{AllByRecursion}
use borrow.Author.Tests.{eqb-true}
use Rattle.slon_base.specs.Codec.{AllAre}
use Rattle.store_rows.specs.Rows.{IsId}
use Rattle.slon_model.specs.Events.{Event}
use Rattle.slon_model.specs.Maps.{Map, Map2, entry_at, number_at, row_at, pair_at, with_entry, with_pair}
use Rattle.slon_model.specs.Maps.{without_entry}
use Rattle.slon_model.specs.Deeds.{Doing, Node, Emits, Applies, Commits, Hears, raised, heard, knowledge, held}
use Rattle.slon_model.specs.Deeds.{with_deeds, noticed, told_to, told_progress}
use Rattle.slon_model.specs.Config.{Config, forwards}
use Rattle.slon_model.specs.Views.{View, Views, based, based_at, views_emitted, views_told}
use Rattle.slon_model.specs.Views.{with_views}
use Rattle.node_rows.specs.declared.body.Body.{Body}
use Rattle.node_rows.specs.declared.body.Body.TheVariants.{Sync, SubscribeSet, UnsubscribeSet, DropSet}
use Rattle.event_store.proofs.Deeds.{kept_views}
use Rattle.set_config.specs.Holds.{AreIds}
use Rattle.set_config.proofs.Entries.{entry-with}
use Rattle.set_config.proofs.Ranges.{are_map}
use Rattle.event_store.specs.Following.{GoesOn, IsNewAt, RegularStays, FirstRegular, GivenRegular}
use Rattle.event_store.specs.Giving.{HearsOfOthers}
use Rattle.event_store.specs.Ordered.{IsOrdered, AreOrdered}
use Rattle.event_store.specs.Regular.{AreFalling, IsRegular}
use Rattle.event_store.specs.Streams.{Streams, streams_of, given}
use Rattle.event_store.proofs.NewNodes.{pair_told}
use Rattle.event_store.proofs.Ordered.{ordered_with, with_one, ordered_mapped, ordered_filtered, ordered_without}
use Rattle.event_store.proofs.Rising.{told_other}

-- ---- an event more

-- a number that was put at an id, seen from another id
number_put : (q id x : ℕ) (es : Map ℕ) → number_at q (with_entry id x es) ≡ cond (q == id) x (number_at q es)
number_put q id x es = ap (λ o. unwrap_or o 0) (entry-with q id x es) ∙ by (q == id)
  where
    by : (b : Bool) → unwrap_or (cond b (Some x) (entry_at q es)) 0 ≡ cond b x (number_at q es)
    by true = refl
    by false = refl

-- A node that met all of these, and an event behind them.
record Next (e : Event) (progress : Map ℕ) (events : List Event) : Type 0 where
  next : number_at e.origin progress < e.number
  met : AllAre (λ f. f.number ≤ number_at f.origin progress) events

older : (e : Event) (progress : Map ℕ) (events : List Event) → Next e progress events →
    AllAre (λ f. f.origin ≡ e.origin → f.number < e.number) events
older e progress events n =
    are_map events (λ f within same.
    let here = ap (λ o. number_at o progress) same in
    let next = n.next in
    omega (arith, within, here, next)) n.met

met_more : (e : Event) (progress : Map ℕ) (events : List Event) → Next e progress events →
    AllAre (λ f. f.number ≤ number_at f.origin (with_entry e.origin e.number progress)) events
met_more e progress events n =
    are_map events (λ f within. subst (λ m. f.number ≤ m) (sym (number_put f.origin e.origin e.number progress))
    (elim (f.origin == e.origin)
    as (λ b. (f.origin == e.origin) ≡ b → f.number ≤ cond b e.number (number_at f.origin progress)) [
      | true ↦ λ is.
          let here = ap (λ o. number_at o progress) (eqb-true f.origin e.origin is) in
          let next = n.next in
          omega (arith, within, here, next)
      | false ↦ λ is. within
    ] refl)) n.met

met_itself : (e : Event) (progress : Map ℕ) →
    e.number ≤ number_at e.origin (with_entry e.origin e.number progress)
met_itself e progress =
    let same : number_at e.origin (with_entry e.origin e.number progress) ≡ e.number =
    number_put e.origin e.origin e.number progress
    ∙ ap (λ b. cond b e.number (number_at e.origin progress)) (eq-eqb e.origin e.origin refl) in
    omega (arith, same)

-- the streams of a node that met an event, with these views
abbrev meeting : Node → Event → Views → Streams
meeting n e views =
    let k = knowledge n in
    record {
      own = n.id;
      views = views;
      events = cond (nat_lt (number_at e.origin k.low) e.number) (e ∷ held n) (held n);
      progress = with_entry e.origin e.number k.progress;
      low = k.low;
      news = noticed e k.news;
      told = k.told;
    }

meets_regular : (n : Node) (e : Event) (views : Views) → IsNewAt n e → IsOrdered views → IsRegular (streams_of n) →
    IsRegular (meeting n e views)
meets_regular n e views (can, more) ordered regular =
    let k = knowledge n in
    let next : Next e k.progress (held n) = record { next = more; met = regular.met } in
    record {
      others = regular.others;
      views = ordered;
      progress = ordered_with e.origin e.number k.progress can.0 regular.progress;
      told = regular.told;
      falling = elim (nat_lt (number_at e.origin k.low) e.number)
          as (λ b. AreFalling (cond b (e ∷ held n) (held n))) [
            | true ↦ (can, older e k.progress (held n) next, regular.falling)
            | false ↦ regular.falling
          ];
      met = elim (nat_lt (number_at e.origin k.low) e.number)
          as (λ b. AllAre (λ f. f.number ≤ number_at f.origin (with_entry e.origin e.number k.progress))
          (cond b (e ∷ held n) (held n))) [
            | true ↦ (met_itself e k.progress, met_more e k.progress (held n) next)
            | false ↦ met_more e k.progress (held n) next
          ];
    }

-- ---- confirmations

-- of the node itself it is told nothing by a confirmation of another
raised_other : (own origin : ℕ) (c : ℕ × ℕ × ℕ) (told : Map2 ℕ) → (c.1 ≡ own → ⊥) →
    pair_at origin own (raised c told) ≡ pair_at origin own told
raised_other own origin c told differ =
    elim (nat_lt (number_at c.1 (row_at c.0 told)) c.2)
    as (λ b. pair_at origin own (cond b (with_pair c.0 c.1 c.2 told) told) ≡ pair_at origin own told) [
      | true ↦ told_other origin own (c.0, c.1) c.2 told differ
      | false ↦ refl
    ]

raised_ordered : (c : ℕ × ℕ × ℕ) (told : Map2 ℕ) → AreIds (c.0, c.1) → AreOrdered told → AreOrdered (raised c told)
raised_ordered c told ids ordered =
    elim (nat_lt (number_at c.1 (row_at c.0 told)) c.2)
    as (λ b. AreOrdered (cond b (with_pair c.0 c.1 c.2 told) told)) [
      | true ↦ with_one c.0 c.1 c.2 told ids.0 ids.1 ordered
      | false ↦ ordered
    ]

-- confirmations of others, of ids in their range
abbrev AreOfOthers : ℕ → List (ℕ × ℕ × ℕ) → Type 0
AreOfOthers own confirms = AllByRecursion (λ c. (c.1 ≡ own → ⊥) × AreIds (c.0, c.1)) confirms

heard_other : (own origin : ℕ) (confirms : List (ℕ × ℕ × ℕ)) (told : Map2 ℕ) → AreOfOthers own confirms →
    pair_at origin own (heard confirms told) ≡ pair_at origin own told
heard_other own origin [] told others = refl
heard_other own origin (c ∷ cs) told others =
    heard_other own origin cs (raised c told) others.1 ∙ raised_other own origin c told others.0.0

heard_ordered : (own : ℕ) (confirms : List (ℕ × ℕ × ℕ)) (told : Map2 ℕ) → AreOfOthers own confirms →
    AreOrdered told → AreOrdered (heard confirms told)
heard_ordered own [] told others ordered = ordered
heard_ordered own (c ∷ cs) told others ordered =
    heard_ordered own cs (raised c told) others.1 (raised_ordered c told others.0.1 ordered)

-- views of sets that are put among others
views_ordered : (new views : Views) → AllByRecursion (λ v. IsId v.0) new → IsOrdered views →
    IsOrdered (with_views new views)
views_ordered [] views ids ordered = ordered
views_ordered (v ∷ more) views ids ordered =
    ordered_with v.0 v.1 (with_views more views) ids.0 (views_ordered more views ids.1 ordered)

-- views of sets, one of which is logged from here on
based_ordered : (set : ℕ) (views : Views) → IsOrdered views → IsOrdered (based_at set views)
based_ordered set views ordered =
    ordered_mapped (λ v. cond (v.0 == set) (v.0, based v.1) v) views (λ v. same v (v.0 == set)) ordered
  where
    same : (v : ℕ × View) (b : Bool) → (cond b (v.0, based v.1) v).0 ≡ v.0
    same v true = refl
    same v false = refl

pub told_views_ordered : (own : ℕ) (body : Body) (c : Config) (views : Views) → IsOrdered views →
    IsOrdered (views_told own body c views)
told_views_ordered own Sync c views ordered = ordered
told_views_ordered own (SubscribeSet set provider receiver forward) c views ordered =
    elim (receiver == own && (forward && not (forwards set own c))) as
    (λ b. IsOrdered (cond b (based_at set views) views)) [
      | true ↦ based_ordered set views ordered
      | false ↦ ordered
    ]
told_views_ordered own (UnsubscribeSet set receiver) c views ordered =
    elim (receiver == own) as (λ b. IsOrdered (cond b (without_entry set views) views)) [
      | true ↦ ordered_without set views ordered
      | false ↦ ordered
    ]
told_views_ordered own (DropSet set) c views ordered = ordered_without set views ordered
told_views_ordered own others c views ordered = ordered

pub regular_stays : RegularStays
regular_stays n d goes regular = of d.doing goes
  where
    of : (doing : Doing) → GoesOn n doing → IsRegular (streams_of (with_deeds (record d { doing = doing } ∷ []) n))
    of (Emits e) goes =
        meets_regular n e (views_emitted e e.body (knowledge n).views) goes.0
        (subst IsOrdered (sym (kept_views e e.body (knowledge n).views goes.1)) regular.views) regular
    of (Applies e b) goes =
        let told = views_told n.id e.body (knowledge n).config (knowledge n).views in
        meets_regular n e (with_views b.views told) goes.0
        (views_ordered b.views told goes.1
        (told_views_ordered n.id e.body (knowledge n).config (knowledge n).views regular.views)) regular
    of (Commits xid) goes = record {
      others = regular.others;
      views = regular.views;
      progress = regular.progress;
      told = regular.told;
      falling = regular.falling;
      met = regular.met;
    }
    of (Hears confirms) goes = record {
      others = λ origin. heard_other n.id origin confirms (streams_of n).told goes ∙ regular.others origin;
      views = regular.views;
      progress = regular.progress;
      told = heard_ordered n.id confirms (streams_of n).told goes regular.told;
      falling = regular.falling;
      met = regular.met;
    }

-- ---- nodes that begin

none_ordered : {X : Type 0} → IsOrdered {X = X} []
none_ordered = record { ids_are = tt; rising = tt }

pub first_regular : FirstRegular
first_regular id comment run = record {
  others = λ origin. refl;
  views = none_ordered;
  progress = none_ordered;
  told = record { firsts = none_ordered; seconds = tt };
  falling = tt;
  met = tt;
}

-- how far a node is, told as confirmations, is in order too
progress_told : (own : ℕ) (ps : Map ℕ) (told : Map2 ℕ) → IsId own → AllAre (λ p. IsId p.0) ps → AreOrdered told →
    AreOrdered (told_progress own ps told)
progress_told own [] told one all ordered = ordered
progress_told own (p ∷ ps) told one all ordered =
    with_one p.0 own p.1 (told_progress own ps told) all.0 one (progress_told own ps told one all.1 ordered)

-- and so are its rows without those that are not handed on
rows_told : (new : ℕ) (m : Map2 ℕ) → AllAre (λ e. IsOrdered e.1) m → AllAre (λ e. IsOrdered e.1) (map (told_to new) m)
rows_told new [] all = tt
rows_told new (e ∷ es) all =
    (ordered_filtered (λ c. not (c.0 == new || c.0 == e.0)) e.1 all.0, rows_told new es all.1)

pub told_ordered : (own : ℕ) (progress : Map ℕ) (told : Map2 ℕ) → IsId own → IsOrdered progress → AreOrdered told →
    AreOrdered (told_progress own progress told)
told_ordered own progress told one ordered are = progress_told own progress told one ordered.ids_are are

given_hears : (id : ℕ) (s : Streams) → HearsOfOthers (given id s)
given_hears id s origin =
    pair_told id (origin, id) (told_progress s.own s.progress s.told)
    ∙ ap (λ b. cond (b || id == origin) None (pair_at origin id (told_progress s.own s.progress s.told)))
    (eq-eqb id id refl)

pub given_regular : GivenRegular
given_regular id s one own regular =
    let all = told_ordered s.own s.progress s.told own regular.progress regular.told in
    record {
      others = given_hears id s;
      views = none_ordered;
      progress = regular.progress;
      told = record {
        firsts = ordered_mapped (told_to id) _ (λ e. refl) all.firsts;
        seconds = rows_told id _ all.seconds;
      };
      falling = regular.falling;
      met = regular.met;
    }
