-- What is read of a log: its entries of one origin, in the order of the numbers of their actions.
use Rattle.std.proofs.Common.{◌≡◌, ◌⊎◌, inl, inr, ℕ, ◌<◌, Bool, true, false, cond, List, [], ◌∷◌, Some, refl}
use Rattle.std.proofs.Common.{sym, ap, ◌∙◌, arith, map, filter}
use Rattle.std.specs.Prelude.{◌==◌}
use Rattle.std.specs.List.{AllByRecursion}
use Rattle.std.proofs.lemmas.Bool.{false≢true, eqb-true, eq-eqb}
use Rattle.slon_model.specs.Maps.{Map, entry_at, with_entry}
use Rattle.slon_model.specs.Rows.{Action}
use Rattle.slon_model.specs.Deeds.{Logged}
use Rattle.slon_model.specs.Following.{numbered}
use Rattle.slon_model.proofs.Names.{all_map}
use Rattle.slon_laws.specs.Sound.{Pairs}
use Rattle.stream_laws.specs.Nodes.{IsAmong}
use Rattle.stream_laws.proofs.Lists.{all_among, all_mapped, all_passed, all_with, entry-with}
pub use Rattle.stream_laws.proofs.Lists.{among_map, mapped_among}
use Rattle.image_laws.specs.Deltas.{AreInOrder}
use Rattle.view_laws.specs.Known.{AreRising}
use Rattle.view_laws.proofs.Rising.{with_rising}

-- ---- lists

-- two actions with one number
pub same_action : (actions : List Action) (a b : Action) → Pairs (λ a b. a.number < b.number) actions →
    IsAmong a actions → IsAmong b actions → a.number ≡ b.number → a ≡ b
same_action [] a b pairs among_a among_b same = absurd among_a
same_action (c ∷ rest) a b pairs (inl is_a) (inl is_b) same = is_a ∙ sym is_b
same_action (c ∷ rest) a b pairs (inl is_a) (inr later) same =
    let at = ap (λ (d : Action). d.number) is_a in
    let below : b.number < c.number = all_among (λ d. d.number < c.number) b rest pairs.0 later in
    absurd (omega (arith, at, below, same))
same_action (c ∷ rest) a b pairs (inr later) (inl is_b) same =
    let at = ap (λ (d : Action). d.number) is_b in
    let below : a.number < c.number = all_among (λ d. d.number < c.number) a rest pairs.0 later in
    absurd (omega (arith, at, below, same))
same_action (c ∷ rest) a b pairs (inr later_a) (inr later_b) same = same_action rest a b pairs.1 later_a later_b same

-- ---- entries in order

-- each has a lower number than those behind it
abbrev pub AreSorted : List Logged → Type 0
AreSorted [] = Unit {0}
AreSorted (l ∷ ls) = AllByRecursion (λ k. l.action.number < k.action.number) ls × AreSorted ls

pub sorted_filter : (test : Logged → Bool) (ls : List Logged) → AreSorted ls → AreSorted (filter test ls)
sorted_filter test [] sorted = tt
sorted_filter test (l ∷ ls) sorted =
    elim (test l) as (λ b. AreSorted (cond b (l ∷ filter test ls) (filter test ls))) [
      | true ↦ (
        all_passed (λ k. l.action.number < k.action.number) (λ k. l.action.number < k.action.number) test
            (λ k below passes. below) ls sorted.0,
        sorted_filter test ls sorted.1,
      )
      | false ↦ sorted_filter test ls sorted.1
    ]

pub sorted_actions : (ls : List Logged) → AreSorted ls → AreInOrder (map (λ l. l.action) ls)
sorted_actions [] sorted = tt
sorted_actions (l ∷ ls) sorted = (
  all_mapped (λ k. l.action.number < k.action.number) (λ b. l.action.number < b.number) (λ (k : Logged). k.action)
      (λ k below. below) ls sorted.0,
  sorted_actions ls sorted.1,
)

-- ---- by numbers

-- An entry of the log, of the origin, by its number.
pub record IsNumbered (origin : ℕ) (logs : List Logged) (e : ℕ × Logged) : Type 0 where
  pub number : e.0 ≡ e.1.action.number
  pub own : e.1.origin ≡ origin
  pub among : IsAmong e.1 logs

pub are_numbered : (origin : ℕ) (logs : List Logged) → AllByRecursion (IsNumbered origin logs) (numbered origin logs)
are_numbered origin [] = tt
are_numbered origin (l ∷ logs) = by (are_numbered origin logs) (l.origin == origin) refl
  where
    rest : AllByRecursion (IsNumbered origin logs) (numbered origin logs) →
        AllByRecursion (IsNumbered origin (l ∷ logs)) (numbered origin logs)
    rest all = all_map (IsNumbered origin logs) (IsNumbered origin (l ∷ logs))
        (λ e is. record { number = is.number; own = is.own; among = inr is.among }) (numbered origin logs) all

    by : AllByRecursion (IsNumbered origin logs) (numbered origin logs) → (b : Bool) → (l.origin == origin) ≡ b →
        AllByRecursion (IsNumbered origin (l ∷ logs))
        (cond b (with_entry l.action.number l (numbered origin logs)) (numbered origin logs))
    by again true same =
        all_with (IsNumbered origin (l ∷ logs)) l.action.number l (numbered origin logs)
        (record { number = refl; own = eqb-true l.origin origin same; among = inl refl }) (rest again)
    by again false other = rest again

numbers_rise : (origin : ℕ) (logs : List Logged) → AreRising (numbered origin logs)
numbers_rise origin [] = tt
numbers_rise origin (l ∷ logs) =
    elim (l.origin == origin) as (λ b. AreRising (cond b (with_entry l.action.number l (numbered origin logs))
    (numbered origin logs))) [
      | true ↦ with_rising l.action.number l (numbered origin logs) (numbers_rise origin logs)
      | false ↦ numbers_rise origin logs
    ]

sorted_by : (origin : ℕ) (logs : List Logged) (es : Map Logged) → AllByRecursion (IsNumbered origin logs) es →
    AreRising es → AreSorted (map (λ e. e.1) es)
sorted_by origin logs [] are rising = tt
sorted_by origin logs (e ∷ es) are rising = (
  all_mapped (λ (f : ℕ × Logged). (e.0 < f.0) × IsNumbered origin logs f) (λ k. e.1.action.number < k.action.number)
      (λ f. f.1) (λ f both. let one = are.0.number in let two = both.1.number in let less = both.0 in
      omega (arith, one, two, less)) es (both es rising.0 are.1),
  sorted_by origin logs es are.1 rising.1,
)
  where
    both : (fs : Map Logged) → AllByRecursion (λ f. e.0 < f.0) fs → AllByRecursion (IsNumbered origin logs) fs →
        AllByRecursion (λ f. (e.0 < f.0) × IsNumbered origin logs f) fs
    both [] less are = tt
    both (f ∷ fs) less are = ((less.0, are.0), both fs less.1 are.1)

pub numbered_sorted : (origin : ℕ) (logs : List Logged) → AreSorted (map (λ e. e.1) (numbered origin logs))
numbered_sorted origin logs =
    sorted_by origin logs (numbered origin logs) (are_numbered origin logs) (numbers_rise origin logs)

-- of each entry of the origin there is one with its number
pub numbered_all : (origin : ℕ) (logs : List Logged) (l : Logged) → IsAmong l logs → l.origin ≡ origin →
    (k : Logged) × (entry_at l.action.number (numbered origin logs) ≡ Some k)
numbered_all origin [] l among is = absurd among
numbered_all origin (m ∷ logs) l among is =
    by among (λ later. numbered_all origin logs l later is) (m.origin == origin) refl
  where
    Has : Map Logged → Type 0
    Has es = (k : Logged) × (entry_at l.action.number es ≡ Some k)

    put : Has (numbered origin logs) ⊎ (m ≡ l) → (b : Bool) → (l.action.number == m.action.number) ≡ b →
        Has (with_entry m.action.number m (numbered origin logs))
    put had true same = (
      m,
      entry-with l.action.number m.action.number m (numbered origin logs)
          ∙ ap (λ b. cond b (Some m) (entry_at l.action.number (numbered origin logs))) same,
    )
    put (inl had) false other = (
      had.0,
      entry-with l.action.number m.action.number m (numbered origin logs)
          ∙ ap (λ b. cond b (Some m) (entry_at l.action.number (numbered origin logs))) other ∙ had.1,
    )
    put (inr one) false other =
        absurd (false≢true (sym other ∙ eq-eqb l.action.number m.action.number
        (ap (λ (k : Logged). k.action.number) (sym one))))

    by : IsAmong l (m ∷ logs) → (IsAmong l logs → Has (numbered origin logs)) → (b : Bool) → (m.origin == origin) ≡ b →
        Has (cond b (with_entry m.action.number m (numbered origin logs)) (numbered origin logs))
    by (inl here) later true same = put (inr (sym here)) (l.action.number == m.action.number) refl
    by (inl here) later false other =
        absurd (false≢true (sym other ∙ eq-eqb m.origin origin (ap (λ (k : Logged). k.origin) (sym here) ∙ is)))
    by (inr there) later true same = put (inl (later there)) (l.action.number == m.action.number) refl
    by (inr there) later false other = later there
