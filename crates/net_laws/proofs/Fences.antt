-- Fences hold.
use Rattle.std.proofs.Common.{◌≡◌, ℕ, ◌+◌, ◌≤◌, Option, Some, sym, subst, arith}
use Rattle.std.proofs.lemmas.Option.{same_Some}
use Rattle.net_laws.specs.Updates.{set_at}
use Rattle.net_laws.specs.Fences.{Fences, Step, Goes, Stops, Opens, Here, More, FencesHold}
use Rattle.net_laws.proofs.Options.{not_both}
use Rattle.net_laws.proofs.Updates.{set_each}

abbrev IsWithin : ℕ → ℕ → Option ℕ → Type 0
IsWithin most progress limit = (l : ℕ) → limit ≡ Some l → (progress ≤ l) × (l ≤ most)

abbrev AllWithin : ℕ → Fences → Type 0
AllWithin most w = (n : ℕ) → IsWithin most (w.progress n) (w.limits n)

-- a fence is written
limited : (most : ℕ) (w : Fences) (n limit : ℕ) → w.progress n ≤ limit → limit ≤ most → AllWithin most w → (k : ℕ) →
    IsWithin most (w.progress k) (set_at n (Some limit) w.limits k)
limited most w n limit low high old = set_each (λ k l. IsWithin most (w.progress k) l) n (Some limit) w.limits
    (λ l has. let same = same_Some limit l has in (omega (arith, same, low), omega (arith, same, high)))
    (λ k differ. old k)

within_step : (most : ℕ) (w v : Fences) → Step most w v → AllWithin most w → AllWithin most v
within_step most w v (Goes n room is) old = subst (AllWithin most) (sym is)
    (set_each (λ k p. IsWithin most p (w.limits k)) n (w.progress n + 1) w.progress
    (λ l has. (room l has, (old n l has).1)) (λ k differ. old k))
within_step most w v (Stops n low is) old =
    subst (AllWithin most) (sym is) (limited most w n (w.progress n) (omega arith) low old)
within_step most w v (Opens n limit low high is) old =
    subst (AllWithin most) (sym is) (limited most w n limit low high old)

pub fences_hold : FencesHold
fences_hold most w v none Here n l has = not_both (w.limits n) l (none n) has
fences_hold most w v none (More {u = u} leads step) n l has =
    within_step most u v step (fences_hold most w u none leads) n l has
