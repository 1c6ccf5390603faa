-- The events of an origin behind a number, in a store that holds the streams of a node.
use Rattle.std.proofs.Common.{◌≡◌, ◌⊎◌, inl, inr, ℕ, ◌<◌, ◌≤◌, Result, Ok, Err}
use Rattle.std.proofs.Common.{Bool, true, false, cond, T, List, [], ◌∷◌, ◌++◌, map}
use Rattle.std.proofs.Common.{length, drop, Some, refl, sym, ap, subst, ◌∙◌, arith}
use Rattle.std.specs.Prelude.{◌==◌, ◌&&◌, nat_lt, nat_eq}
use Rattle.std.specs.List.{starts_with, AllByRecursion}
use Rattle.std.specs.Cmp.{nat_eq_equiv, tied_itself}
use Rattle.std.specs.Cmp.Lexicographic.{nat_list_cmp_total}
use Rattle.std.specs.Ordering.{is_lt, ordering_reverse}
use Rattle.std.specs.declared.cmp.Ordering.TheVariants.{Less}
use Rattle.std.specs.FinMap.{entries, entries_sorted}
use Rattle.std.specs.FinMap.Entries.{is_sorted, below_all}
use Rattle.std.proofs.lemmas.Bool.{cases_lt, false≢true, le-ltb, lt-ltb, ltb-true, ltb-false}
use Rattle.std.proofs.lemmas.List.{append-nil}
use mathlib.Core.HLevel.{is_prop→PathP}
use Rattle.slon_base.specs.Codec.{number_bytes, AllAre}
use Rattle.slon_base.specs.Keeper.{Store, key_cmp, after}
use Rattle.slon_base.proofs.Order.{Entries, less_of, front_of, back_of, behind, prefixed, past_prefix}
use Rattle.slon_base.proofs.Spelled.{number_front, length-number_bytes}
use Rattle.store_rows.specs.Rows.{IsId}
use Rattle.store_rows.specs.Scan.{ranged, spelled_rows}
use Rattle.store_rows.specs.Steps.{Gives}
use Rattle.store_rows.specs.declared.stop.Stop.{Stop}
use Rattle.store_rows.proofs.Listing.{after_sorted, after_below}
use Rattle.slon_base.proofs.Numbers.{behind_front, numbers_ordered}
use Rattle.slon_model.specs.Events.{Event as Model}
use Rattle.slon_model.specs.Maps.{ids}
use Rattle.slon_model.specs.Snapshots.{Rising}
use Rattle.set_config.specs.Holds.{pair_key}
use Rattle.set_config.specs.Loaded.{same_id}
use Rattle.set_config.specs.Rows.{row_of}
use Rattle.set_config.proofs.Entries.{self_eq, not_eq}
use Rattle.set_config.proofs.Keyed.{id_test}
use Rattle.set_config.proofs.Ranges.{IsRange, are_map, both_are, scanned, scanned_rows, row_found, sorted_in}
use Rattle.event_store.specs.declared.event.Event.{Event}
use Rattle.event_store.specs.declared.event.EventRow.{EventRow}
use Rattle.event_store.specs.Behind.{numbered, row_as, AreOf, AreMade, AreBehind, AreAfter}
use Rattle.event_store.specs.Holds.{HoldsStreams}
use Rattle.event_store.specs.Parts.{event_by, CanEvent-prop}
use Rattle.event_store.specs.Seen.{seen_event, snapshot_as, row_bytes, CanRow}
use Rattle.event_store.specs.Spellings.{IsStored, IsNumbered, event_bytes, CanEvent}
use Rattle.event_store.specs.Streams.{Streams, event_at}
use Rattle.event_store.proofs.Events.{event_named}
use Rattle.event_store.proofs.Holding.{numbered_unique}

-- ---- pairs behind a key with the prefix

after_same : (at : List ℕ) (es : Entries) → T (below_all key_cmp at es) → after at es ≡ es
after_same at [] below = refl
after_same at (e ∷ es) below = ap (λ o. cond (is_lt o) (e ∷ es) (after at es)) (less_of _ (front_of _ _ below))

-- they are the pairs with the prefix, behind that key
behind_in : (p y : List ℕ) (es : Entries) → 0 < length y → T (is_sorted key_cmp es) →
    ranged p (after (p ++ y) es) ≡ after (p ++ y) (ranged p (after p es))
behind_in p y [] some sorted = refl
behind_in p y (e ∷ es) some sorted = by (is_lt (key_cmp (p ++ y) e.0)) refl (is_lt (key_cmp p e.0)) refl
    (behind_in p y es some (back_of _ _ sorted))
  where
    from : List ℕ
    from = p ++ y

    less : (k : List ℕ) → is_lt (key_cmp k e.0) ≡ true → key_cmp k e.0 ≡ Less
    less k is = less_of _ (subst T (sym is) tt)

    below : is_lt (key_cmp p e.0) ≡ true → T (below_all key_cmp p (e ∷ es))
    below is = subst (λ b. T (below_all key_cmp p (cond b (e ∷ es) (after p es)))) is (after_below p (e ∷ es) sorted)

    -- the first pair is behind the key
    here : is_lt (key_cmp from e.0) ≡ true → ranged p (e ∷ es) ≡ after from (ranged p (e ∷ es))
    here is = elim (starts_with nat_eq e.0 p) as (λ b. cond b (e ∷ ranged p es) []
        ≡ after from (cond b (e ∷ ranged p es) [])) [
          | true ↦ sym (ap (λ b. cond b (e ∷ ranged p es) (after from (ranged p es))) is)
          | false ↦ refl
        ]

    -- the first pair is behind the prefix, and not behind the key, so it has the prefix
    between : is_lt (key_cmp from e.0) ≡ false → is_lt (key_cmp p e.0) ≡ true →
        ranged p (after from es) ≡ after from (ranged p (after p es)) →
        ranged p (after from es) ≡ after from (ranged p (e ∷ es))
    between not_behind is rest = elim (starts_with nat_eq e.0 p) as (λ b. starts_with nat_eq e.0 p ≡ b →
        ranged p (after from es) ≡ after from (cond b (e ∷ ranged p es) [])) [
          | true ↦ λ has. rest ∙ ap (λ fs. after from (ranged p fs)) (after_same p es (back_of _ _ (below is)))
              ∙ sym (ap (λ b. cond b (e ∷ ranged p es) (after from (ranged p es))) not_behind)
          | false ↦ λ lacks. absurd (false≢true (sym not_behind ∙ ap is_lt (past_prefix p [] y e.0
              (ap (λ k. key_cmp k e.0) (append-nil p) ∙ less p is) lacks)))
        ] refl

    by : (b : Bool) → is_lt (key_cmp from e.0) ≡ b → (d : Bool) → is_lt (key_cmp p e.0) ≡ d →
        ranged p (after from es) ≡ after from (ranged p (after p es)) →
        ranged p (cond b (e ∷ es) (after from es)) ≡ after from (ranged p (cond d (e ∷ es) (after p es)))
    by true is true first rest = here is
    by true is false first rest = absurd (false≢true (sym first
        ∙ ap is_lt (nat_list_cmp_total.trans p from e.0 (behind p y some) (less from is))))
    by false is true first rest = between is first rest
    by false is false first rest = rest

-- ---- the order of the keys

number_tells : (p : List ℕ) (a b : ℕ) → IsStored a → IsStored b →
    is_lt (key_cmp (p ++ number_bytes a) (p ++ number_bytes b)) ≡ nat_lt a b
number_tells p a b one two = by (cases_lt a b) (cases_lt b a)
  where
    x : List ℕ
    x = number_bytes a

    y : List ℕ
    y = number_bytes b

    by : (a < b) ⊎ (b ≤ a) → (b < a) ⊎ (a ≤ b) → is_lt (key_cmp (p ++ x) (p ++ y)) ≡ nat_lt a b
    by (inl less) other =
        ap is_lt (behind_front p x y ∙ numbers_ordered a b less (omega (arith, two))) ∙ sym (lt-ltb a b less)
    by (inr le) (inl more) =
        ap is_lt (behind_front p x y ∙ nat_list_cmp_total.antisymm x y
        ∙ ap ordering_reverse (numbers_ordered b a more (omega (arith, one)))) ∙ sym (le-ltb a b le)
    by (inr le) (inr ge) =
        let same : a ≡ b = omega arith in
        ap is_lt (behind_front p x y ∙ ap (λ k. key_cmp (number_bytes a) (number_bytes k)) (sym same)
        ∙ tied_itself nat_list_cmp_total x) ∙ sym (le-ltb a b le)

-- ---- rows behind a number

rows_after : {X : Type 0} → ℕ → List (ℕ × X) → List (ℕ × X)
rows_after number [] = []
rows_after number (r ∷ rs) = cond (nat_lt number r.0) (r ∷ rs) (rows_after number rs)

all_after : {X : Type 0} (P : ℕ × X → Type 0) (number : ℕ) (rows : List (ℕ × X)) → AllAre P rows →
    AllAre P (rows_after number rows)
unfolding rows_after
all_after P number [] all = tt
all_after P number (r ∷ rs) all =
    elim (nat_lt number r.0) as (λ b. AllAre P (cond b (r ∷ rs) (rows_after number rs))) [
      | true ↦ all
      | false ↦ all_after P number rs all.1
    ]

spelled_after : {X : Type 0} (value : X → List ℕ) (p : List ℕ) (number : ℕ) (rows : List (ℕ × X)) →
    IsStored number → AllAre (λ r. IsStored r.0) rows →
    after (p ++ number_bytes number) (spelled_rows p number_bytes value rows)
    ≡ spelled_rows p number_bytes value (rows_after number rows)
unfolding rows_after
spelled_after value p number [] one all = refl
spelled_after {X} value p number (r ∷ rs) one all =
    ap (λ b. cond b (spelled_rows p number_bytes value (r ∷ rs))
    (after (p ++ number_bytes number) (spelled_rows p number_bytes value rs))) (number_tells p number r.0 one all.0)
    ∙ step (nat_lt number r.0) (spelled_after value p number rs one all.1)
  where
    step : (b : Bool) → after (p ++ number_bytes number) (spelled_rows p number_bytes value rs)
        ≡ spelled_rows p number_bytes value (rows_after number rs) →
        cond b (spelled_rows p number_bytes value (r ∷ rs))
        (after (p ++ number_bytes number) (spelled_rows p number_bytes value rs))
        ≡ spelled_rows p number_bytes value (cond b (r ∷ rs) (rows_after number rs))
    step true rest = refl
    step false rest = rest

-- a look for a number behind that one
row_after : {X : Type 0} (number n : ℕ) (rows : List (ℕ × X)) → number < n →
    row_of same_id n (rows_after number rows) ≡ row_of same_id n rows
unfolding rows_after
row_after number n [] less = refl
row_after number n (r ∷ rs) less =
    elim (nat_lt number r.0) as (λ b. nat_lt number r.0 ≡ b →
    row_of same_id n (cond b (r ∷ rs) (rows_after number rs)) ≡ row_of same_id n (r ∷ rs)) [
      | true ↦ λ is. refl
      | false ↦ λ is. row_after number n rs less ∙ sym (ap (λ b. cond b (Some r.1) (row_of same_id n rs))
          (not_eq n r.0 (λ same. absurd (omega (arith, same, less, ltb-false number r.0 is)))))
    ] refl

-- the numbers of rows whose keys ascend
rows_above : {X : Type 0} (value : X → List ℕ) (p : List ℕ) (a : ℕ) (rows : List (ℕ × X)) → IsStored a →
    AllAre (λ r. IsStored r.0) rows →
    T (below_all key_cmp (p ++ number_bytes a) (spelled_rows p number_bytes value rows)) →
    AllByRecursion (λ y. a < y) (ids rows)
rows_above value p a [] one all below = tt
rows_above value p a (r ∷ rs) one all below = (
  ltb-true a r.0 (sym (number_tells p a r.0 one all.0) ∙ ap is_lt (less_of _ (front_of _ _ below))),
  rows_above value p a rs one all.1 (back_of _ _ below),
)

rows_rise : {X : Type 0} (value : X → List ℕ) (p : List ℕ) (rows : List (ℕ × X)) → AllAre (λ r. IsStored r.0) rows →
    T (is_sorted key_cmp (spelled_rows p number_bytes value rows)) → Rising (ids rows)
rows_rise value p [] all sorted = tt
rows_rise value p (r ∷ rs) all sorted = (
  rows_above value p r.0 rs all.0 all.1 (front_of _ _ sorted),
  rows_rise value p rs all.1 (back_of _ _ sorted),
)

-- ---- the events of an origin

-- the keys of the events of an origin, by the number
event_range : (origin : ℕ) → IsId origin →
    IsRange pair_key IsNumbered (number_bytes origin) number_bytes IsStored (λ n. (origin, n))
event_range origin id = record {
  spelled = λ n. refl;
  one = λ n one. (id, one);
  covers = λ i one has.
      let rest = drop (length (number_bytes origin)) (pair_key i) in
      let parts = number_front i.0 origin (number_bytes i.1) rest (omega (arith, one.0.1)) (omega (arith, id.1))
      (prefixed (number_bytes origin) (pair_key i) has) in
      (i.1, one.1, λ k. (parts.0 k, i.1));
  some = λ n. omega (arith, length-number_bytes n);
  unique = λ a b one two is.
      let same = numbered_unique (origin, a) (origin, b) (id, one) (id, two) is in λ k. (same k).1;
}

-- rows that are events of the origin, each at its number
abbrev IsEvent : ℕ → List Model → ℕ × Model → Type 0
IsEvent origin held r = CanEvent r.1 × (event_at held (origin, r.0) ≡ Some r.1)

-- the events of these rows
record Named (origin : ℕ) (rows : List (ℕ × Model)) : Type 0 where
  events : List Event
  origins : AreOf origin events
  rows_are : rows ≡ map numbered events

held_as : (e : Model) → CanEvent e → Event
held_as e can = record { origin = e.origin; number = e.number; taken = snapshot_as e.taken; body = e.body; can = can }

named : (origin : ℕ) (held : List Model) (rows : List (ℕ × Model)) → AllAre (IsEvent origin held) rows →
    Named origin rows
unfolding held_as
named origin held [] all = record { events = []; origins = tt; rows_are = refl }
named origin held (r ∷ rs) all =
    let rest = named origin held rs all.1 in
    let names = event_named held (origin, r.0) r.1 all.0.1 in
    let number = sym names.1 in
    let behind = rest.rows_are in
    record {
      events = held_as r.1 all.0.0 ∷ rest.events;
      origins = (names.0, rest.origins);
      rows_are = λ k. (number k, r.1) ∷ behind k;
    }

-- a look for a number among events of one origin
found_event : (origin n : ℕ) (events : List Event) → AreOf origin events →
    event_at (map seen_event events) (origin, n) ≡ row_of same_id n (map numbered events)
found_event origin n [] all = refl
found_event origin n (e ∷ es) all =
    ap (λ b. cond (b && (e.number == n)) (Some (seen_event e)) (event_at (map seen_event es) (origin, n)))
    (ap (λ o. o == origin) all.0 ∙ self_eq origin)
    ∙ ap (λ b. cond b (Some (seen_event e)) (event_at (map seen_event es) (origin, n))) (nat_eq_equiv.symm e.number n)
    ∙ ap (cond (n == e.number) (Some (seen_event e))) (found_event origin n es all.1)

-- what their numbers are
numbers_are : (events : List Event) → ids (map numbered events) ≡ map (λ e. e.number) events
numbers_are [] = refl
numbers_are (e ∷ es) = ap (λ ns. e.number ∷ ns) (numbers_are es)

-- the events behind a number in a store that holds the streams
pub record IsRead (origin number : ℕ) (held : List Model) (m : Store) : Type 0 where
  pub events : List Event
  pub are_behind : AreBehind origin number m events
  pub are_after : AreAfter origin number held events

are_within : (number : ℕ) (events : List Event) → AllByRecursion (λ y. number < y) (map (λ e. e.number) events) →
    AllAre (λ e. (number < e.number) × IsStored e.number) events
are_within number [] above = tt
are_within number (e ∷ es) above = ((above.0, e.can.numbered.1), are_within number es above.1)

pub read_after : (origin number : ℕ) (s : Streams) (m : Store) → IsNumbered (origin, number) → HoldsStreams s m →
    IsRead origin number s.events m
read_after origin number s m one held =
    let p = number_bytes origin in
    let from = p ++ number_bytes number in
    let r = scanned_rows (m 10) (event_range origin one.0) held.events in
    let small = are_map r.rows (λ e can. can.0) r.can in
    let rows = rows_after number r.rows in
    let few = all_after (λ e. IsStored e.0) number r.rows small in
    let spelled = ap (after from) r.spelled ∙ spelled_after event_bytes p number r.rows one.1 small in
    let all = scanned p (m 10) in
    let sorted = subst (λ es. T (is_sorted key_cmp es)) spelled (after_sorted from all (sorted_in p (m 10))) in
    let below = subst (λ es. T (below_all key_cmp from es)) spelled (after_below from all (sorted_in p (m 10))) in
    let n = named origin s.events rows (all_after (IsEvent origin s.events) number r.rows
    (both_are (λ e. CanEvent e.1) (λ e. event_at s.events (origin, e.0) ≡ Some e.1) r.rows
    (are_map r.rows (λ e can. can.1) r.can) r.stand)) in
    let numbers = ap ids n.rows_are ∙ numbers_are n.events in
    record {
      events = n.events;
      are_behind = record {
        origins = n.origins;
        spelled = behind_in p (number_bytes number) (entries (m 10)) (omega (arith, length-number_bytes number))
            (entries_sorted (m 10)) ∙ spelled ∙ ap (spelled_rows p number_bytes event_bytes) n.rows_are;
      };
      are_after = record {
        rising = subst Rising numbers (rows_rise event_bytes p rows few sorted);
        within = are_within number n.events (subst (AllByRecursion (λ y. number < y)) numbers
            (rows_above event_bytes p number rows one.1 few below));
        origins = n.origins;
        events_are = λ k less fits. found_event origin k n.events n.origins
            ∙ ap (row_of same_id k) (sym n.rows_are) ∙ row_after number k r.rows less
            ∙ row_found (m 10) k id_test (event_range origin one.0) held.events r fits;
      };
    }

-- ---- events and their rows

-- the two keys of the scan
abbrev pub AreKeys : ℕ → ℕ → List ℕ → List ℕ → Type 0
AreKeys origin number prefix from = (prefix ≡ number_bytes origin) × (from ≡ pair_key (origin, number))

pub rows_can : (events : List Event) → AllAre (λ r. IsStored r.0 × CanRow r.1) (map row_as events)
rows_can [] = tt
rows_can (e ∷ es) = ((e.can.numbered.1, (e.can.taken, e.can.body)), rows_can es)

rows_spelled : (p : List ℕ) (events : List Event) →
    spelled_rows p number_bytes event_bytes (map numbered events)
    ≡ spelled_rows p number_bytes row_bytes (map row_as events)
rows_spelled p [] = refl
rows_spelled p (e ∷ es) =
    ap (λ rest. (p ++ number_bytes e.number, event_bytes (seen_event e)) ∷ rest) (rows_spelled p es)

pub of_keys : {origin number : ℕ} {m : Store} {events : List Event} (prefix from : List ℕ) →
    AreKeys origin number prefix from → AreBehind origin number m events →
    ranged prefix (after from (entries (m 10))) ≡ spelled_rows prefix number_bytes row_bytes (map row_as events)
of_keys {origin} {number} {m} {events} prefix from keys are =
    ap (λ p. ranged p (after from (entries (m 10)))) keys.0
    ∙ ap (λ k. ranged (number_bytes origin) (after k (entries (m 10)))) keys.1
    ∙ are.spelled ∙ rows_spelled (number_bytes origin) events
    ∙ ap (λ p. spelled_rows p number_bytes row_bytes (map row_as events)) (sym keys.0)

-- an event is known by its origin, its number and its row
same_event : (e f : Event) → e.origin ≡ f.origin → row_as e ≡ row_as f → e ≡ f
same_event e f origin row =
    let parts : (k : 𝕀) → Model = λ k. event_by (origin k) (row k).0 (row k).1.taken (row k).1.body in
    let can = is_prop→PathP (λ k. CanEvent (parts k)) (λ k. CanEvent-prop (parts k)) e.can f.can in
    λ k. record { origin = origin k; number = (row k).0; taken = (row k).1.taken; body = (row k).1.body; can = can k }

-- and so are the events of an origin by their rows
pub same_events : (origin : ℕ) (es fs : List Event) → AreOf origin es → AreOf origin fs →
    map row_as es ≡ map row_as fs → es ≡ fs
same_events origin [] [] one two is = refl
same_events origin [] (f ∷ fs) one two is = cc
same_events origin (e ∷ es) [] one two is = cc
same_events origin (e ∷ es) (f ∷ fs) one two is =
    let first = same_event e f (one.0 ∙ sym two.0) cc in
    let rest = same_events origin es fs one.1 two.1 cc in
    λ k. first k ∷ rest k

-- what was read are the events behind the number
pub made_behind : {m : Store} {rows : List (ℕ × EventRow)} (origin number : ℕ) (events : List Event)
    (prefix from : List ℕ) → AreKeys origin number prefix from → AreMade origin rows events
    × (ranged prefix (after from (entries (m 10))) ≡ spelled_rows prefix number_bytes row_bytes rows) →
    AreBehind origin number m events
made_behind {m} {rows} origin number events prefix from keys (made, spelled) = record {
  origins = made.origins;
  spelled = ap (λ p. ranged p (after (pair_key (origin, number)) (entries (m 10)))) (sym keys.0)
      ∙ ap (λ k. ranged prefix (after k (entries (m 10)))) (sym keys.1) ∙ spelled
      ∙ ap (λ p. spelled_rows p number_bytes row_bytes rows) keys.0
      ∙ ap (spelled_rows (number_bytes origin) number_bytes row_bytes) (sym made.rows_are)
      ∙ sym (rows_spelled (number_bytes origin) events);
}

-- what is given has a property of these events
pub gives_as : (P : List Event → Type 0) (events : List Event) (result : Result (List Event) Stop) → P events →
    Gives (λ found. found ≡ events) result → Gives P result
gives_as P events (Ok found) has is = subst P (sym is) has
gives_as P events (Err stop) has is = is
