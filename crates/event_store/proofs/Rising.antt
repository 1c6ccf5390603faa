-- What a node is told of another one.
use Rattle.std.proofs.Common.{◌≡◌, ℕ, ◌<◌, ◌≤◌, Bool, true, false, cond, Some, None, refl, sym, ap, subst, ◌∙◌}
use Rattle.std.proofs.Common.{arith, unwrap_or, option_map}
use Rattle.std.specs.Prelude.{◌==◌, nat_lt, max}
use Rattle.std.specs.Cmp.Lexicographic.{nat_list_cmp_total}
use Rattle.std.specs.FinMap.{get, get-insert}
use Rattle.std.proofs.lemmas.Bool.{le-ltb, lt-ltb, ltb-true, ltb-false}
use Rattle.slon_base.specs.Codec.{number_bytes}
use Rattle.slon_base.specs.Keeper.{Store, Kept, put_at}
use Rattle.slon_base.proofs.Order.{tied}
use Rattle.store_rows.specs.Space.{Alters, IsPending}
use Rattle.store_rows.proofs.Spaces.{Turns, altered, pending_as, pending_on}
use Rattle.slon_model.specs.Maps.{Map2, entry_at, with_entry, row_at, pair_at, with_pair}
use Rattle.set_config.specs.Holds.{AreIds, pair_key}
use Rattle.set_config.proofs.Entries.{eq_of, not_eq, pair_unique, alters_pair, entry-with, row-with}
use Rattle.set_config.proofs.Holding.{write_in}
use Rattle.event_store.specs.Hearing.{number_of, Stands, confirmed_by, IsRaised}
use Rattle.event_store.specs.Hearing.{ConfirmingHears, ConfirmingRaises, ConfirmingStays}
use Rattle.event_store.specs.Holds.{ShowsStreams}
use Rattle.event_store.specs.Spellings.{IsStored}
use Rattle.event_store.specs.Streams.{Streams, confirmed_at}
use Rattle.event_store.proofs.Holding.{whole, elsewhere}

-- ---- what stands of the others

-- of another node it is told nothing
pub told_other : (origin own : ℕ) (i : ℕ × ℕ) (number : ℕ) (t : Map2 ℕ) → (i.1 ≡ own → ⊥) →
    pair_at origin own (with_pair i.0 i.1 number t) ≡ pair_at origin own t
told_other origin own i number t differ =
    let row = with_entry i.1 number (row_at i.0 t) in
    ap (entry_at own) (row-with origin i.0 row t)
    ∙ elim (origin == i.0) as (λ b. (origin == i.0) ≡ b →
    entry_at own (cond b row (row_at origin t)) ≡ entry_at own (row_at origin t)) [
      | true ↦ λ is. entry-with own i.1 number (row_at i.0 t)
          ∙ ap (λ b. cond b (Some number) (entry_at own (row_at i.0 t))) (not_eq own i.1 (λ same. differ (sym same)))
          ∙ ap (λ o. entry_at own (row_at o t)) (sym (eq_of origin i.0 is))
      | false ↦ λ is. refl
    ] refl

-- one pair changes
told_alters : (i : ℕ × ℕ) (number : ℕ) (t : Map2 ℕ) →
    Alters AreIds i (Some number) (λ j. pair_at j.0 j.1 t) (λ j. pair_at j.0 j.1 (with_pair i.0 i.1 number t))
told_alters i number t =
    let row = row_at i.0 t in
    alters_pair i (Some number) (with_entry i.1 number row) t (λ q. entry-with q i.1 number row)

-- it is told that another node is as far as this
puts_told : (s : Streams) (i : ℕ × ℕ) (number : ℕ) → AreIds i → (i.1 ≡ s.own → ⊥) → IsStored number →
    Turns pair_key AreIds IsStored (confirmed_at s)
    (confirmed_at (record s { told = with_pair i.0 i.1 number s.told })) i (Some number)
puts_told s i number ids differ can =
    let alters = told_alters i number s.told in record {
      unique = pair_unique;
      one = ids;
      can = can;
      alters = record {
        here = ap (λ b. cond b (entry_at i.0 s.progress) (pair_at i.0 i.1 (with_pair i.0 i.1 number s.told)))
            (not_eq i.1 s.own differ) ∙ alters.here;
        there = λ j one other. ap (cond (j.1 == s.own) (entry_at j.0 s.progress)) (alters.there j one other);
      };
    }

with_told : {base : Store} {s : Streams} (i : ℕ × ℕ) (number : ℕ) (m : Store) → AreIds i × IsStored number →
    (i.1 ≡ s.own → ⊥) → ShowsStreams base s m →
    ShowsStreams base (record s { told = with_pair i.0 i.1 number s.told })
    (write_in 11 (Some (number_bytes number)) (pair_key i) m)
with_told {s = s} i number m can differ shows = record {
  streams = whole shows.streams.views shows.streams.events
      (altered (puts_told s i number can.0 differ can.1) shows.streams.confirmations)
      shows.streams.cleaned shows.streams.news;
  others = λ space other. elsewhere 11 (Some (number_bytes number)) (pair_key i) m refl space other
      ∙ shows.others space other;
}

-- ---- the number is above what stood, or it is not

abbrev same_told : (s : Streams) (i : ℕ × ℕ) (number : ℕ) (b : Bool) → nat_lt (number_of s i) number ≡ b →
    confirmed_by i.0 i.1 number s ≡ record s { told = cond b (with_pair i.0 i.1 number s.told) s.told }
same_told s i number b is = ap (λ above. record s { told = cond above (with_pair i.0 i.1 number s.told) s.told }) is

pub stays : {base : Store} {s : Streams} (i : ℕ × ℕ) (number standing : ℕ) {new : Kept} → standing ≡ number_of s i →
    number ≤ standing → IsPending (ShowsStreams base s) new →
    (false ≡ nat_lt (number_of s i) number)
    × IsPending (ShowsStreams base (confirmed_by i.0 i.1 number s)) new
stays {base} {s} i number standing says le p =
    let not_above = le-ltb (number_of s i) number (omega (arith, says, le)) in (
      sym not_above,
      pending_as (λ m shows. subst (λ t. ShowsStreams base t m) (sym (same_told s i number false not_above)) shows) p,
    )

pub rises : {base : Store} {s : Streams} (i : ℕ × ℕ) (number standing : ℕ) (old : Kept) {new : Kept} →
    (standing ≡ number_of s i) × (standing < number) → (AreIds i × IsStored number) × (i.1 ≡ s.own → ⊥) →
    IsPending (ShowsStreams base s) old →
    new.pending ≡ option_map (option_map (put_at 11 (pair_key i) (number_bytes number))) old.pending →
    (true ≡ nat_lt (number_of s i) number)
    × IsPending (ShowsStreams base (confirmed_by i.0 i.1 number s)) new
rises {base} {s} i number standing old (says, less) can p put =
    let above = lt-ltb (number_of s i) number (omega (arith, says, less)) in (
      sym above,
      pending_on (put_at 11 (pair_key i) (number_bytes number)) p put (λ m shows.
          subst (λ t. ShowsStreams base t (put_at 11 (pair_key i) (number_bytes number) m))
          (sym (same_told s i number true above)) (with_told i number m can.0 can.1 shows)),
    )

-- ---- the same in any store

pub not_raised : (i : ℕ × ℕ) (number standing : ℕ) (m : Store) {new : Kept} → Stands m i standing →
    number ≤ standing → new.pending ≡ Some (Some m) → IsPending (IsRaised i number false m) new
not_raised i number standing m stood le is = record {
  store = m;
  is = is;
  has = record {
    old = standing;
    stood = stood;
    stands = subst (Stands m i) (omega (arith, le)) stood;
    rises = sym (le-ltb standing number le);
    is = refl;
  };
}

pub raised : (i : ℕ × ℕ) (number standing : ℕ) (m : Store) {new : Kept} → IsStored number → Stands m i standing →
    standing < number → new.pending ≡ Some (Some (put_at 11 (pair_key i) (number_bytes number) m)) →
    IsPending (IsRaised i number true m) new
raised i number standing m can stood less is =
    let key = pair_key i in
    let value = number_bytes number in
    record {
      store = put_at 11 key value m;
      is = is;
      has = record {
        old = standing;
        stood = stood;
        stands = record {
          row = Some number;
          can = can;
          spelled = get-insert nat_list_cmp_total (m 11) key value key
              ∙ ap (λ b. cond b (Some value) (get (m 11) key)) (tied key);
          is = omega (arith, less);
        };
        rises = sym (lt-ltb standing number less);
        is = refl;
      };
    }

-- ---- laws

pub confirming_hears : ConfirmingHears
confirming_hears origin node number s differ hears first =
    elim (nat_lt (number_of s (origin, node)) number) as
    (λ b. pair_at first s.own (cond b (with_pair origin node number s.told) s.told) ≡ None) [
      | true ↦ told_other first s.own (origin, node) number s.told differ ∙ hears first
      | false ↦ hears first
    ]

pub confirming_raises : ConfirmingRaises
confirming_raises origin node number s differ =
    let i : ℕ × ℕ = (origin, node) in
    let old = number_of s i in
    elim (nat_lt old number) as (λ b. nat_lt old number ≡ b →
    number_of (record s { told = cond b (with_pair origin node number s.told) s.told }) i ≡ max old number) [
      | true ↦ λ is. ap (λ b. unwrap_or (cond b (entry_at origin s.progress)
          (pair_at origin node (with_pair origin node number s.told))) 0) (not_eq node s.own differ)
          ∙ ap (λ o. unwrap_or o 0) (told_alters i number s.told).here
          ∙ omega (arith, ltb-true old number is)
      | false ↦ λ is. omega (arith, ltb-false old number is)
    ] refl

pub confirming_stays : ConfirmingStays
confirming_stays origin node number s j ids differ =
    let i : ℕ × ℕ = (origin, node) in
    elim (nat_lt (number_of s i) number) as
    (λ b. confirmed_at (record s { told = cond b (with_pair origin node number s.told) s.told }) j
    ≡ confirmed_at s j) [
      | true ↦ ap (cond (j.1 == s.own) (entry_at j.0 s.progress))
          ((told_alters i number s.told).there j ids differ)
      | false ↦ refl
    ]
