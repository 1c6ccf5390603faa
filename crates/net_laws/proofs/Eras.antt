-- Eras are passed in their order.
use Rattle.std.proofs.Common.{◌≡◌, ℕ, ◌+◌, ◌<◌, ◌≤◌, refl, sym, ap, subst, ◌∙◌, arith, ◌⊎◌, inl, inr}
use Rattle.std.proofs.lemmas.Bool.{cases_eq, cases_lt}
use Rattle.net_laws.specs.Updates.{set_at, one_more}
use Rattle.net_laws.specs.Eras.{Eras, opened, OpensNone, MayEnter, Step, Emits, Opens, Goes, Enters, Leads, Here, More}
use Rattle.net_laws.specs.Eras.{IsFirst, OfAllEras, ErasInOrder, StandsInLast, OpensRise, ReadsOwnEra}
use Rattle.net_laws.proofs.Updates.{set_here, set_other, set_more, one_case, one_grows}

pub record IsOrdered (w : Eras) : Type 0 where
  progress : (n x : ℕ) → w.progress n x ≤ w.lengths x
  parents : (j : ℕ) → 0 < j → j ≤ w.count → w.parents j < j
  after : (j : ℕ) → 0 < j → j ≤ w.count → w.opens (w.parents j) ≤ w.leaves j
  order : (n j : ℕ) → 0 < j → j ≤ w.count → w.opens j ≤ w.progress n (w.origins j) →
      w.leaves j ≤ w.progress n (w.origins (w.parents j))
  opens : (j : ℕ) → j ≤ w.count → w.opens j ≤ w.lengths (w.origins j)
  rising : (i j : ℕ) → i < j → j ≤ w.count → w.origins i ≡ w.origins j → w.opens i < w.opens j
  stands : (n : ℕ) → w.era n ≤ w.count
  last : (n j : ℕ) → j ≤ w.count → w.origins j ≡ w.origins (w.era n) → w.opens j ≤ w.progress n (w.origins j) →
      w.opens j ≤ w.opens (w.era n)

-- ---- an event that opens no era

ordered_emits : (w : Eras) (x : ℕ) → IsOrdered w →
    IsOrdered (record w { lengths = set_at x (w.lengths x + 1) w.lengths })
ordered_emits w x o = record {
  progress = λ n y. let old = o.progress n y in let more = longer y in omega (arith, old, more);
  parents = o.parents;
  after = o.after;
  order = o.order;
  opens = λ j less. let old = o.opens j less in let more = longer (w.origins j) in omega (arith, old, more);
  rising = o.rising;
  stands = o.stands;
  last = o.last;
}
  where
    longer : (y : ℕ) → w.lengths y ≤ set_at x (w.lengths x + 1) w.lengths y
    longer y = set_more x (w.lengths x + 1) w.lengths y (omega arith)

-- ---- the next era is opened

ordered_opens : (w : Eras) (y parent leave : ℕ) → parent ≤ w.count → w.opens parent ≤ leave → IsOrdered w →
    IsOrdered (opened y parent leave w)
ordered_opens w y parent leave within past o = record {
  progress = λ n x. let old = o.progress n x in let more = longer x in omega (arith, old, more);
  parents = λ j more less. elim (cases_eq j new) [
    | inl now ↦ let is = set_here new parent w.parents j now in omega (arith, is, within, now)
    | inr old ↦
        let is = set_other new parent w.parents j old in
        let kept = o.parents j more (omega (arith, less, old)) in
        omega (arith, is, kept)
  ];
  after = λ j more less. elim (cases_eq j new) [
    | inl now ↦
        let leave_is = set_here new leave w.leaves j now in
        let opened_is = opens_old parent within in
        subst (λ i. v.opens i ≤ v.leaves j) (sym (set_here new parent w.parents j now))
        (omega (arith, leave_is, opened_is, past))
    | inr old ↦
        let leave_is = set_other new leave w.leaves j old in
        let low = o.parents j more (omega (arith, less, old)) in
        let opened_is = opens_old (w.parents j) (omega (arith, low, less)) in
        let kept = o.after j more (omega (arith, less, old)) in
        subst (λ i. v.opens i ≤ v.leaves j) (sym (set_other new parent w.parents j old))
        (omega (arith, leave_is, opened_is, kept))
  ];
  order = λ n j more less passed. elim (cases_eq j new) [
    | inl now ↦ unpassed n j now passed
    | inr old ↦
        let opened_is = set_other new (w.lengths y + 1) w.opens j old in
        let leave_is = set_other new leave w.leaves j old in
        let origin = set_other new y w.origins j old in
        let here = subst (λ i. v.opens j ≤ w.progress n i) origin passed in
        let kept = o.order n j more (omega (arith, less, old)) (omega (arith, opened_is, here)) in
        let low = o.parents j more (omega (arith, less, old)) in
        let before = origins_old (w.parents j) (omega (arith, low, less)) in
        subst (λ i. v.leaves j ≤ w.progress n (v.origins i)) (sym (set_other new parent w.parents j old))
        (subst (λ i. v.leaves j ≤ w.progress n i) (sym before) (omega (arith, leave_is, kept)))
  ];
  opens = λ j less. elim (cases_eq j new) [
    | inl now ↦
        let opened_is = set_here new (w.lengths y + 1) w.opens j now in
        let here = set_here y (w.lengths y + 1) w.lengths y refl in
        subst (λ i. v.opens j ≤ v.lengths i) (sym (set_here new y w.origins j now)) (omega (arith, opened_is, here))
    | inr old ↦
        let opened_is = set_other new (w.lengths y + 1) w.opens j old in
        let kept = o.opens j (omega (arith, less, old)) in
        let more = longer (w.origins j) in
        subst (λ i. v.opens j ≤ v.lengths i) (sym (set_other new y w.origins j old))
        (omega (arith, opened_is, kept, more))
  ];
  rising = λ i j more less same. elim (cases_eq j new) [
    | inl now ↦
        let opened_is = set_here new (w.lengths y + 1) w.opens j now in
        let low : i ≤ w.count = omega (arith, more, now) in
        let before_is = opens_old i low in
        let kept = o.opens i low in
        let origin = sym (origins_old i low) ∙ (same ∙ set_here new y w.origins j now) in
        let lengths = ap w.lengths origin in
        omega (arith, opened_is, before_is, kept, lengths)
    | inr old ↦
        let opened_is = set_other new (w.lengths y + 1) w.opens j old in
        let low : i ≤ w.count = omega (arith, more, less) in
        let before_is = opens_old i low in
        let origin = sym (origins_old i low) ∙ (same ∙ set_other new y w.origins j old) in
        let kept = o.rising i j more (omega (arith, less, old)) origin in
        omega (arith, opened_is, before_is, kept)
  ];
  stands = λ n. elim (cases_eq n y) [
    | inl now ↦ let is = set_here y new w.era n now in omega (arith, is)
    | inr old ↦
        let is = set_other y new w.era n old in
        let kept = o.stands n in
        omega (arith, is, kept)
  ];
  last = λ n j less same passed. elim (cases_eq j new) [
    | inl now ↦ unpassed n j now passed
    | inr old ↦ last_old n j (omega (arith, less, old)) same passed
  ];
}
  where
    new : ℕ
    new = w.count + 1

    v : Eras
    v = opened y parent leave w

    longer : (x : ℕ) → w.lengths x ≤ v.lengths x
    longer x = set_more y (w.lengths y + 1) w.lengths x (omega arith)

    opens_old : (i : ℕ) → i ≤ w.count → v.opens i ≡ w.opens i
    opens_old i low = set_other new (w.lengths y + 1) w.opens i (λ is. omega (arith, is, low))

    origins_old : (i : ℕ) → i ≤ w.count → v.origins i ≡ w.origins i
    origins_old i low = set_other new y w.origins i (λ is. omega (arith, is, low))

    -- no node has passed the new opening
    unpassed : {X : Type 0} (n j : ℕ) → j ≡ new → v.opens j ≤ w.progress n (v.origins j) → X
    unpassed n j now passed = absurd (
        let opened_is = set_here new (w.lengths y + 1) w.opens j now in
        let here = subst (λ i. v.opens j ≤ w.progress n i) (set_here new y w.origins j now) passed in
        let most = o.progress n y in
        omega (arith, opened_is, here, most))

    last_old : (n j : ℕ) → j ≤ w.count → v.origins j ≡ v.origins (v.era n) → v.opens j ≤ w.progress n (v.origins j) →
        v.opens j ≤ v.opens (v.era n)
    last_old n j low same passed = elim (cases_eq n y) [
      | inl mine ↦
          let era_is = set_here y new w.era n mine in
          let new_is = set_here new (w.lengths y + 1) w.opens (v.era n) era_is in
          let own = sym origin ∙ (same ∙ set_here new y w.origins (v.era n) era_is) in
          let kept = o.opens j low in
          let lengths = ap w.lengths own in
          omega (arith, opened_is, new_is, kept, lengths)
      | inr other ↦
          let era_is = set_other y new w.era n other in
          let stands = o.stands n in
          let mine_is = ap v.opens era_is ∙ opens_old (w.era n) stands in
          let same_origin = sym origin ∙ (same ∙ (ap v.origins era_is ∙ origins_old (w.era n) stands)) in
          let here = subst (λ i. v.opens j ≤ w.progress n i) origin passed in
          let kept = o.last n j low same_origin (omega (arith, opened_is, here)) in
          omega (arith, opened_is, mine_is, kept)
    ]
      where
        opened_is : v.opens j ≡ w.opens j
        opened_is = opens_old j low

        origin : v.origins j ≡ w.origins j
        origin = origins_old j low

-- ---- a node applies an event

-- what n passes newly is opened by that event
newly_passed : (w : Eras) (n x k j : ℕ) → w.opens j ≤ one_more n x w.progress k (w.origins j) →
    (w.opens j ≤ w.progress k (w.origins j)) ⊎
    ((k ≡ n) × ((w.origins j ≡ x) × (w.opens j ≡ w.progress n x + 1)))
newly_passed w n x k j passed = elim (one_case n x w.progress k (w.origins j)) [
  | inl same ↦ inl (omega (arith, passed, same))
  | inr (who, (whose, is)) ↦ elim (cases_lt (w.progress n x) (w.opens j)) [
    | inl now ↦ inr (who, (whose, omega (arith, now, passed, is)))
    | inr before ↦
        let mine = ap (λ i. w.progress i (w.origins j)) who in
        let there = ap (w.progress n) whose in
        inl (omega (arith, before, mine, there))
  ]
]

progress_goes : (w : Eras) (n x : ℕ) → w.progress n x < w.lengths x → IsOrdered w → (k y : ℕ) →
    one_more n x w.progress k y ≤ w.lengths y
progress_goes w n x less o k y = elim (one_case n x w.progress k y) [
  | inl same ↦ let old = o.progress k y in omega (arith, old, same)
  | inr (who, (whose, is)) ↦
      subst (λ i. one_more n x w.progress k y ≤ w.lengths i) (sym whose) (omega (arith, is, less))
]

ordered_goes : (w : Eras) (n x : ℕ) → w.progress n x < w.lengths x → OpensNone w n x → IsOrdered w →
    IsOrdered (record w { progress = one_more n x w.progress })
ordered_goes w n x less none o = record {
  progress = progress_goes w n x less o;
  parents = o.parents;
  after = o.after;
  order = λ k j more within passed.
      let up = one_grows n x w.progress k (w.origins (w.parents j)) in
      elim (newly_passed w n x k j passed) [
        | inl before ↦ let old = o.order k j more within before in omega (arith, old, up)
        | inr (who, (whose, is)) ↦ absurd (none j within whose is)
      ];
  opens = o.opens;
  rising = o.rising;
  stands = o.stands;
  last = λ k j within same passed. elim (newly_passed w n x k j passed) [
    | inl before ↦ o.last k j within same before
    | inr (who, (whose, is)) ↦ absurd (none j within whose is)
  ];
}

-- two eras of one origin are not opened by one event
same_era : (w : Eras) → IsOrdered w → (i j : ℕ) → i ≤ w.count → j ≤ w.count → w.origins i ≡ w.origins j →
    w.opens i ≡ w.opens j → i ≡ j
same_era w o i j within_i within_j same is = elim (cases_lt i j) [
  | inl less ↦ absurd (let rise = o.rising i j less within_j same in omega (arith, rise, is))
  | inr most ↦ elim (cases_lt j i) [
    | inl more ↦ absurd (let rise = o.rising j i more within_i (sym same) in omega (arith, rise, is))
    | inr least ↦ omega (arith, most, least)
  ]
]

ordered_enters : (w : Eras) (n e : ℕ) → MayEnter w n e → IsOrdered w →
    IsOrdered (record w { progress = one_more n (w.origins e) w.progress; era = set_at n e w.era })
ordered_enters w n e m o = record {
  progress = progress_goes w n x (let most = o.opens e within in omega (arith, next, most)) o;
  parents = o.parents;
  after = o.after;
  order = λ k j more below passed.
      let up = one_grows n x w.progress k (w.origins (w.parents j)) in
      elim (newly_passed w n x k j passed) [
        | inl before ↦ let old = o.order k j more below before in omega (arith, old, up)
        | inr (who, (whose, is)) ↦
            let one : j ≡ e = same_era w o j e below within whose (omega (arith, is, next)) in
            let leave = ap w.leaves one in
            let left = m.left in
            let there = ap (λ i. w.progress i (w.origins (w.parents j))) who ∙
            ap (λ i. w.progress n (w.origins (w.parents i))) one in
            omega (arith, left, leave, there, up)
      ];
  opens = o.opens;
  rising = o.rising;
  stands = λ k. elim (cases_eq k n) [
    | inl mine ↦ let is = set_here n e w.era k mine in omega (arith, is, within)
    | inr other ↦
        let is = set_other n e w.era k other in
        let kept = o.stands k in
        omega (arith, is, kept)
  ];
  last = λ k j below same passed. elim (cases_eq k n) [
    | inl mine ↦
        let is = set_here n e w.era k mine in
        let opens_is = ap w.opens is in
        let origin : w.origins j ≡ x = same ∙ ap w.origins is in
        elim (newly_passed w n x k j passed) [
          | inl before ↦
              let here = ap (λ i. w.progress i (w.origins j)) mine ∙ ap (w.progress n) origin in
              omega (arith, opens_is, before, here, next)
          | inr (who, (whose, now)) ↦ omega (arith, opens_is, now, next)
        ]
    | inr other ↦
        let is = set_other n e w.era k other in
        let opens_is = ap w.opens is in
        elim (newly_passed w n x k j passed) [
          | inl before ↦
              let kept = o.last k j below (same ∙ ap w.origins is) before in
              omega (arith, kept, opens_is)
          | inr (who, rest) ↦ absurd (other who)
        ]
  ];
}
  where
    x : ℕ
    x = w.origins e

    within : e ≤ w.count
    within = m.within

    next : w.opens e ≡ w.progress n x + 1
    next = m.next

-- ---- the beginning, and each step

ordered_first : (w : Eras) → IsFirst w → IsOrdered w
ordered_first w first = record {
  progress = first.progress;
  parents = λ j more less. absurd (omega (arith, none, more, less));
  after = λ j more less. absurd (omega (arith, none, more, less));
  order = λ n j more less. absurd (omega (arith, none, more, less));
  opens = λ j less. subst (λ i. w.opens i ≤ w.lengths (w.origins i)) (omega (arith, none, less)) first.opens;
  rising = λ i j more less. absurd (omega (arith, none, more, less));
  stands = λ n. let is = first.era n in omega (arith, is);
  last = λ n j less same passed.
      let is = ap w.opens (first.era n) in
      let zero_is : w.opens j ≡ w.opens 0 = ap w.opens (omega (arith, none, less)) in
      omega (arith, is, zero_is);
}
  where
    none : w.count ≡ 0
    none = first.count

ordered_step : (w v : Eras) → Step w v → IsOrdered w → IsOrdered v
ordered_step w v (Emits x is) o = subst IsOrdered (sym is) (ordered_emits w x o)
ordered_step w v (Opens y parent leave within past is) o =
    subst IsOrdered (sym is) (ordered_opens w y parent leave within past o)
ordered_step w v (Goes n x less none is) o = subst IsOrdered (sym is) (ordered_goes w n x less none o)
ordered_step w v (Enters n j may is) o = subst IsOrdered (sym is) (ordered_enters w n j may o)

ordered_leads : (f w : Eras) → IsFirst f → Leads f w → IsOrdered w
ordered_leads f w first Here = ordered_first f first
ordered_leads f w first (More {u = u} leads step) = ordered_step u w step (ordered_leads f u first leads)

-- ---- the laws

pub of_eras : (P : Eras → Type 0) → ((w : Eras) → IsOrdered w → P w) → OfAllEras P
of_eras P from f w first leads = from w (ordered_leads f w first leads)

pub eras_in_order : (w : Eras) → IsOrdered w → ErasInOrder w
eras_in_order w o n j more less passed =
    let left = o.order n j more less passed in
    let after = o.after j more less in
    record { before = o.parents j more less; left = left; passed = omega (arith, left, after) }

pub stands_in_last : (w : Eras) → IsOrdered w → StandsInLast w
stands_in_last w o = o.last

pub opens_rise : (w : Eras) → IsOrdered w → OpensRise w
opens_rise w o = o.rising

pub reads_own_era : (w : Eras) → IsOrdered w → ReadsOwnEra w
reads_own_era w o n j within same before =
    let most = o.last n j within same (omega (arith, before)) in
    elim (cases_lt (w.opens j) (w.opens (w.era n))) [
      | inl less ↦ inr less
      | inr least ↦ inl (same_era w o j (w.era n) within (o.stands n) same (omega (arith, most, least)))
    ]
