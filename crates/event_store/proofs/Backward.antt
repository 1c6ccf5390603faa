-- The events behind a number, ascending, are those that a node holds, the other way round.
use Rattle.std.proofs.Common.{◌≡◌, ◌∙◌, ◌⊎◌, inl, inr, ℕ, ◌<◌, ◌≤◌, ◌++◌, Bool, true, false, cond, List, [], ◌∷◌, map}
use Rattle.std.proofs.Common.{filter, Option, Some, None, refl, sym, ap, subst, arith, eq-eqb, ◌^◌}
use Rattle.std.specs.Prelude.{◌==◌, ◌&&◌, nat_lt, reverse}
use Rattle.std.specs.Option.{option_or}
use Rattle.std.proofs.lemmas.Bool.{false≢true, and_parts, cases_lt, lt-ltb, ltb-true}
use Rattle.std.proofs.lemmas.List.{reverse-append}
use borrow.Author.Tests.{eqb-true}
use Rattle.slon_base.specs.Codec.{AllAre}
use Rattle.slon_model.specs.Events.{Event as Model, event_at}
use Rattle.slon_model.specs.Snapshots.{Rising}
use Rattle.set_config.proofs.Ranges.{are_map}
use Rattle.event_store.specs.Behind.{events_behind, AfterIsAll}
use Rattle.event_store.specs.Regular.{AreFalling}
use Rattle.event_store.specs.Seen.{seen_event}
use Rattle.event_store.specs.Spellings.{IsStored}
use Rattle.event_store.specs.declared.event.Event.{Event}

-- ---- events of one origin, in order

abbrev AreRising : ℕ → List Model → Type 0
AreRising origin [] = Unit {0}
AreRising origin (e ∷ es) = (e.origin ≡ origin) × AllAre (λ f. e.number < f.number) es × AreRising origin es

abbrev AreSinking : ℕ → List Model → Type 0
AreSinking origin [] = Unit {0}
AreSinking origin (e ∷ es) = (e.origin ≡ origin) × AllAre (λ f. f.number < e.number) es × AreSinking origin es

-- an event by its number, and one of another number
here : (origin : ℕ) (e : Model) (es : List Model) → e.origin ≡ origin → event_at (e ∷ es) (origin, e.number) ≡ Some e
here origin e es own =
    ap (λ b. cond b (Some e) (event_at es (origin, e.number)))
    (ap (λ b. b && e.number == e.number) (eq-eqb e.origin origin own) ∙ eq-eqb e.number e.number refl)

unlike : (a b : ℕ) → (a ≡ b → ⊥) → (a == b) ≡ false
unlike a b differ = by (a == b) refl
  where
    by : (c : Bool) → (a == b) ≡ c → c ≡ false
    by true is = absurd (differ (eqb-true a b is))
    by false is = refl

and_false : (a : Bool) → (a && false) ≡ false
and_false true = refl
and_false false = refl

passed : (origin n : ℕ) (e : Model) (es : List Model) → (e.number ≡ n → ⊥) →
    event_at (e ∷ es) (origin, n) ≡ event_at es (origin, n)
passed origin n e es differ =
    ap (λ b. cond b (Some e) (event_at es (origin, n)))
    (ap (λ b. e.origin == origin && b) (unlike e.number n differ) ∙ and_false (e.origin == origin))

-- none has this number
none_of : (origin n : ℕ) (es : List Model) → AllAre (λ e. e.origin ≡ origin → e.number ≡ n → ⊥) es →
    event_at es (origin, n) ≡ None
none_of origin n [] all = refl
none_of origin n (e ∷ es) all =
    by (e.origin == origin && e.number == n) refl (none_of origin n es all.1)
  where
    by : (b : Bool) → (e.origin == origin && e.number == n) ≡ b → event_at es (origin, n) ≡ None →
        cond b (Some e) (event_at es (origin, n)) ≡ None
    by true is rest =
        let parts = and_parts (e.origin == origin) (e.number == n) is in
        absurd (all.0 (eqb-true e.origin origin parts.0) (eqb-true e.number n parts.1))
    by false is rest = rest

-- ---- lists that rise, and find the same, are the same

tails_same : (origin : ℕ) (e : Model) (xs ys : List Model) → AllAre (λ f. e.number < f.number) xs →
    AllAre (λ f. e.number < f.number) ys →
    ((n : ℕ) → event_at (e ∷ xs) (origin, n) ≡ event_at (e ∷ ys) (origin, n)) →
    (n : ℕ) → event_at xs (origin, n) ≡ event_at ys (origin, n)
tails_same origin e xs ys above over same n = by (cases_lt e.number n)
  where
    none : (es : List Model) → AllAre (λ f. e.number < f.number) es → n ≤ e.number → event_at es (origin, n) ≡ None
    none es all low = none_of origin n es (are_map es (λ f less own is. omega (arith, less, is, low)) all)

    by : (e.number < n) ⊎ (n ≤ e.number) → event_at xs (origin, n) ≡ event_at ys (origin, n)
    by (inl less) =
        let differ : e.number ≡ n → ⊥ = λ is. omega (arith, less, is) in
        sym (passed origin n e xs differ) ∙ same n ∙ passed origin n e ys differ
    by (inr low) = none xs above low ∙ sym (none ys over low)

rising_same : (origin : ℕ) (xs ys : List Model) → AreRising origin xs → AreRising origin ys →
    ((n : ℕ) → event_at xs (origin, n) ≡ event_at ys (origin, n)) → xs ≡ ys
rising_same origin [] [] one two same = refl
rising_same origin [] (b ∷ ys) one two same =
    let found = same b.number ∙ here origin b ys two.0 in absurd cc
rising_same origin (a ∷ xs) [] one two same =
    let found = sym (same a.number) ∙ here origin a xs one.0 in absurd cc
rising_same origin (a ∷ xs) (b ∷ ys) one two same =
    by (cases_lt a.number b.number) (cases_lt b.number a.number)
    (λ is. rising_same origin xs ys one.2 two.2 is)
  where
    lacks : (e f : Model) (es fs : List Model) → e.number < f.number → AllAre (λ g. f.number < g.number) fs →
        event_at (f ∷ fs) (origin, e.number) ≡ None
    lacks e f es fs less above =
        none_of origin e.number (f ∷ fs) (
          λ own is. omega (arith, less, is),
          are_map fs (λ g more own is. omega (arith, less, more, is)) above,
        )

    by : (a.number < b.number) ⊎ (b.number ≤ a.number) → (b.number < a.number) ⊎ (a.number ≤ b.number) →
        (((n : ℕ) → event_at xs (origin, n) ≡ event_at ys (origin, n)) → xs ≡ ys) → a ∷ xs ≡ b ∷ ys
    by (inl less) other rest =
        let found = sym (here origin a xs one.0) ∙ same a.number ∙ lacks a b xs ys less two.1 in absurd cc
    by (inr ge) (inl more) rest =
        let found = sym (here origin b ys two.0) ∙ sym (same b.number) ∙ lacks b a ys xs more one.1 in absurd cc
    by (inr ge) (inr le) rest =
        let number : a.number ≡ b.number = omega (arith, ge, le) in
        let found = sym (here origin a xs one.0) ∙ same a.number ∙ ap (λ n. event_at (b ∷ ys) (origin, n)) number
        ∙ here origin b ys two.0 in
        let first : a ≡ b = cc in
        let more = rest (tails_same origin a xs ys one.1
        (subst (λ e. AllAre (λ f. e.number < f.number) ys) (sym first) two.1)
        (λ n. same n ∙ ap (λ e. event_at (e ∷ ys) (origin, n)) (sym first))) in
        λ i. first i ∷ more i

-- ---- the other way round

all_behind : {X : Type 0} (P : X → Type 0) (xs : List X) (x : X) → AllAre P xs → P x → AllAre P (xs ++ x ∷ [])
all_behind P [] x all one = (one, tt)
all_behind P (y ∷ ys) x all one = (all.0, all_behind P ys x all.1 one)

turned_first : {X : Type 0} (x : X) (xs : List X) → reverse (x ∷ xs) ≡ reverse xs ++ x ∷ []
turned_first x xs = reverse-append (x ∷ []) xs

all_turned : {X : Type 0} (P : X → Type 0) (xs : List X) → AllAre P xs → AllAre P (reverse xs)
all_turned P [] all = tt
all_turned P (x ∷ xs) all =
    subst (AllAre P) (sym (turned_first x xs)) (all_behind P (reverse xs) x (all_turned P xs all.1) all.0)

rising_behind : (origin : ℕ) (es : List Model) (e : Model) → AreRising origin es → e.origin ≡ origin →
    AllAre (λ f. f.number < e.number) es → AreRising origin (es ++ e ∷ [])
rising_behind origin [] e rising own below = (own, tt, tt)
rising_behind origin (f ∷ fs) e rising own below = (
  rising.0,
  all_behind (λ g. f.number < g.number) fs e rising.1 below.0,
  rising_behind origin fs e rising.2 own below.1,
)

turned_rises : (origin : ℕ) (es : List Model) → AreSinking origin es → AreRising origin (reverse es)
turned_rises origin [] sinking = tt
turned_rises origin (e ∷ es) sinking =
    subst (AreRising origin) (sym (turned_first e es))
    (rising_behind origin (reverse es) e (turned_rises origin es sinking.2) sinking.0
    (all_turned (λ f. f.number < e.number) es sinking.1))

found_behind : (i : ℕ × ℕ) (es fs : List Model) → event_at (es ++ fs) i ≡ option_or (event_at es i) (event_at fs i)
found_behind i [] fs = refl
found_behind i (e ∷ es) fs =
    by (e.origin == i.0 && e.number == i.1) (found_behind i es fs)
  where
    by : (b : Bool) → event_at (es ++ fs) i ≡ option_or (event_at es i) (event_at fs i) →
        cond b (Some e) (event_at (es ++ fs) i) ≡ option_or (cond b (Some e) (event_at es i)) (event_at fs i)
    by true rest = refl
    by false rest = rest

or_none : {X : Type 0} (o : Option X) → option_or o None ≡ o
or_none None = refl
or_none (Some x) = refl

turned_finds : (origin n : ℕ) (es : List Model) → AreSinking origin es →
    event_at (reverse es) (origin, n) ≡ event_at es (origin, n)
turned_finds origin n [] sinking = refl
turned_finds origin n (e ∷ es) sinking =
    ap (λ xs. event_at xs (origin, n)) (turned_first e es)
    ∙ found_behind (origin, n) (reverse es) (e ∷ [])
    ∙ ap (λ o. option_or o (event_at (e ∷ []) (origin, n))) (turned_finds origin n es sinking.2)
    ∙ by (e.number == n) refl
  where
    by : (b : Bool) → (e.number == n) ≡ b →
        option_or (event_at es (origin, n)) (event_at (e ∷ []) (origin, n)) ≡ event_at (e ∷ es) (origin, n)
    by true is =
        let same = eqb-true e.number n is in
        let none : event_at es (origin, n) ≡ None =
        none_of origin n es (are_map es (λ f less own there. omega (arith, less, there, same)) sinking.1) in
        ap (λ o. option_or o (event_at (e ∷ []) (origin, n))) none
        ∙ ap (λ k. event_at (e ∷ []) (origin, k)) (sym same) ∙ here origin e [] sinking.0
        ∙ sym (ap (λ k. event_at (e ∷ es) (origin, k)) (sym same) ∙ here origin e es sinking.0)
    by false is =
        let differ : e.number ≡ n → ⊥ = λ same. false≢true (sym is ∙ eq-eqb e.number n same) in
        ap (option_or (event_at es (origin, n))) (passed origin n e [] differ) ∙ or_none (event_at es (origin, n))
        ∙ sym (passed origin n e es differ)

-- ---- the events of one origin behind a number

below_kept : (p : Model → Bool) (P : Model → Type 0) (es : List Model) → AllAre P es → AllAre P (filter p es)
below_kept p P [] all = tt
below_kept p P (e ∷ es) all =
    elim (p e) as (λ b. AllAre P (cond b (e ∷ filter p es) (filter p es))) [
      | true ↦ (all.0, below_kept p P es all.1)
      | false ↦ below_kept p P es all.1
    ]

-- what is kept is of the origin
kept_own : (origin number : ℕ) (es : List Model) → AllAre (λ e. e.origin ≡ origin) (events_behind origin number es)
kept_own origin number [] = tt
kept_own origin number (e ∷ es) =
    by (e.origin == origin && nat_lt number e.number) refl (kept_own origin number es)
  where
    by : (b : Bool) → (e.origin == origin && nat_lt number e.number) ≡ b →
        AllAre (λ e. e.origin ≡ origin) (events_behind origin number es) →
        AllAre (λ e. e.origin ≡ origin) (cond b (e ∷ events_behind origin number es) (events_behind origin number es))
    by true is rest = (eqb-true e.origin origin (and_parts (e.origin == origin) (nat_lt number e.number) is).0, rest)
    by false is rest = rest

kept_sinks : (origin number : ℕ) (es : List Model) → AreFalling es → AreSinking origin (events_behind origin number es)
kept_sinks origin number [] falling = tt
kept_sinks origin number (e ∷ es) falling =
    by (e.origin == origin && nat_lt number e.number) refl (kept_sinks origin number es falling.2)
  where
    kept : List Model
    kept = events_behind origin number es

    both_map : (fs : List Model) →
        ((f : Model) → f.origin ≡ origin → (f.origin ≡ e.origin → f.number < e.number) → f.number < e.number) →
        AllAre (λ f. f.origin ≡ origin) fs → AllAre (λ f. f.origin ≡ e.origin → f.number < e.number) fs →
        AllAre (λ f. f.number < e.number) fs
    both_map [] on one two = tt
    both_map (f ∷ fs) on one two = (on f one.0 two.0, both_map fs on one.1 two.1)

    lower : e.origin ≡ origin → AllAre (λ f. f.number < e.number) kept
    lower own =
        both_map kept (λ f fs first. first (fs ∙ sym own)) (kept_own origin number es)
        (below_kept (λ e. e.origin == origin && nat_lt number e.number) (λ f. f.origin ≡ e.origin → f.number < e.number)
        es falling.1)

    by : (b : Bool) → (e.origin == origin && nat_lt number e.number) ≡ b → AreSinking origin kept →
        AreSinking origin (cond b (e ∷ kept) kept)
    by true is rest =
        let own = eqb-true e.origin origin (and_parts (e.origin == origin) (nat_lt number e.number) is).0 in
        (own, lower own, rest)
    by false is rest = rest

kept_finds : (origin number n : ℕ) (es : List Model) → number < n →
    event_at (events_behind origin number es) (origin, n) ≡ event_at es (origin, n)
kept_finds origin number n [] less = refl
kept_finds origin number n (e ∷ es) less =
    by (e.origin == origin) refl (e.number == n) refl (nat_lt number e.number) refl
    (kept_finds origin number n es less)
  where
    kept : List Model
    kept = events_behind origin number es

    by : (own : Bool) → (e.origin == origin) ≡ own → (same : Bool) → (e.number == n) ≡ same → (more : Bool) →
        nat_lt number e.number ≡ more → event_at kept (origin, n) ≡ event_at es (origin, n) →
        event_at (cond (own && more) (e ∷ kept) kept) (origin, n) ≡ cond (own && same) (Some e)
        (event_at es (origin, n))
    by true is true same true more rest =
        ap (λ b. cond b (Some e) (event_at kept (origin, n))) (ap (λ b. b && e.number == n) is ∙ same)
    by true is false other true more rest =
        ap (λ b. cond b (Some e) (event_at kept (origin, n))) (ap (λ b. b && e.number == n) is ∙ other) ∙ rest
    by true is true same false low rest =
        let there = eqb-true e.number n same in
        absurd (false≢true (sym low ∙ lt-ltb number e.number (omega (arith, less, there))))
    by true is false other false low rest = rest
    by false is same at more above rest = rest

kept_lacks : (origin number n : ℕ) (es : List Model) → n ≤ number →
    event_at (events_behind origin number es) (origin, n) ≡ None
kept_lacks origin number n es low = none_of origin n (events_behind origin number es) (all es)
  where
    all : (es : List Model) → AllAre (λ e. e.origin ≡ origin → e.number ≡ n → ⊥) (events_behind origin number es)
    all [] = tt
    all (e ∷ es) =
        by (e.origin == origin && nat_lt number e.number) refl (all es)
      where
        by : (b : Bool) → (e.origin == origin && nat_lt number e.number) ≡ b →
            AllAre (λ e. e.origin ≡ origin → e.number ≡ n → ⊥) (events_behind origin number es) →
            AllAre (λ e. e.origin ≡ origin → e.number ≡ n → ⊥)
            (cond b (e ∷ events_behind origin number es) (events_behind origin number es))
        by true is rest = (
          λ own there.
              let more = ltb-true number e.number
              (and_parts (e.origin == origin) (nat_lt number e.number) is).1 in
              omega (arith, low, there, more),
          rest,
        )
        by false is rest = rest

-- ---- what the store answers

seen_rises : (origin : ℕ) (events : List Event) → AllAre (λ e. e.origin ≡ origin) events →
    Rising (map (λ e. e.number) events) → AreRising origin (map seen_event events)
seen_rises origin [] own rising = tt
seen_rises origin (e ∷ es) own rising = (own.0, above es rising.0, seen_rises origin es own.1 rising.1)
  where
    above : (fs : List Event) → AllAre (λ n. e.number < n) (map (λ f. f.number) fs) →
        AllAre (λ f. e.number < f.number) (map seen_event fs)
    above [] all = tt
    above (f ∷ fs) all = (all.0, above fs all.1)

seen_all : (P : ℕ → Type 0) (events : List Event) → AllAre (λ e. P e.number) events →
    AllAre (λ e. P e.number) (map seen_event events)
seen_all P [] all = tt
seen_all P (e ∷ es) all = (all.0, seen_all P es all.1)

-- events of a node have numbers that a store takes
held_small : (es : List Model) → AreFalling es → AllAre (λ e. IsStored e.number) es
held_small [] falling = tt
held_small (e ∷ es) falling = (falling.0.1, held_small es falling.2)

pub after_is_all : AfterIsAll
after_is_all origin number held events falling after =
    let kept = events_behind origin number held in
    let sinks = kept_sinks origin number held falling in
    rising_same origin (map seen_event events) (reverse kept) (seen_rises origin events after.origins after.rising)
    (turned_rises origin kept sinks)
    (λ n. by n (cases_lt number n) (cases_lt n (2 ^ 63)) ∙ sym (turned_finds origin n kept sinks))
  where
    none : (n : ℕ) (es : List Model) → AllAre (λ e. e.number ≡ n → ⊥) es → event_at es (origin, n) ≡ None
    none n es all = none_of origin n es (are_map es (λ e differ own. differ) all)

    by : (n : ℕ) → (number < n) ⊎ (n ≤ number) → (n < 2 ^ 63) ⊎ (2 ^ 63 ≤ n) →
        event_at (map seen_event events) (origin, n) ≡ event_at (events_behind origin number held) (origin, n)
    by n (inl less) (inl small) =
        after.events_are n less small ∙ sym (kept_finds origin number n held less)
    by n (inl less) (inr big) =
        none n (map seen_event events)
        (seen_all (λ m. m ≡ n → ⊥) events (are_map events (λ e both is. omega (arith, both.1, is, big)) after.within))
        ∙ sym (none n held (are_map held (λ e small is. omega (arith, small, is, big)) (held_small held falling)))
        ∙ sym (kept_finds origin number n held less)
    by n (inr low) size =
        none n (map seen_event events)
        (seen_all (λ m. m ≡ n → ⊥) events (are_map events (λ e both is. omega (arith, both.0, is, low)) after.within))
        ∙ sym (kept_lacks origin number n held low)
