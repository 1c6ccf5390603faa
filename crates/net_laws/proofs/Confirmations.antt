-- What nodes were told stays behind.
use Rattle.std.proofs.Common.{◌≡◌, ℕ, ◌+◌, ◌≤◌, max, true, false, cond, refl, sym, subst, arith}
use Rattle.std.specs.Prelude.{◌==◌}
use Rattle.std.proofs.lemmas.Bool.{eqb-true}
use Rattle.net_laws.specs.Updates.{set_at}
use Rattle.net_laws.specs.Confirmations.{Confirmations, tells, Step, Grows, Goes, Polls, Leads, Here, More, silent}
use Rattle.net_laws.specs.Confirmations.{ToldIsBehind}
use Rattle.net_laws.proofs.Updates.{set_each, set_more, one_grows}

record IsBehind (h : Confirmations) : Type 0 where
  told : (n x r : ℕ) → h.told n x r ≤ h.progress r x
  progress : (n x : ℕ) → h.progress n x ≤ h.lengths x

tells_behind : (h : Confirmations) → IsBehind h → (n x r : ℕ) → tells h n x r ≤ h.progress r x
tells_behind h b n x r = elim (n == r)
    as (λ c. (n == r) ≡ c → cond c (h.progress n x) (h.told n x r) ≤ h.progress r x) [
      | true ↦ λ is. subst (λ j. h.progress n x ≤ h.progress j x) (eqb-true n r is) (omega arith)
      | false ↦ λ not. b.told n x r
    ] refl

behind_step : (h g : Confirmations) → Step h g → IsBehind h → IsBehind g
behind_step h g (Grows x is) b = subst IsBehind (sym is) (record {
  told = b.told;
  progress = λ n y.
      let old = b.progress n y in
      let more = set_more x (h.lengths x + 1) h.lengths y (omega arith) in
      omega (arith, old, more);
})
behind_step h g (Goes n x less is) b = subst IsBehind (sym is) (record {
  told = λ m y r.
      let old = b.told m y r in
      let more = one_grows n x h.progress r y in
      omega (arith, old, more);
  progress = λ m y. set_each (λ k f. f y ≤ h.lengths y) n (set_at x (h.progress n x + 1) (h.progress n)) h.progress
      (set_each (λ k p. p ≤ h.lengths k) x (h.progress n x + 1) (h.progress n) (omega (arith, less))
      (λ k differ. b.progress n k) y)
      (λ k differ. b.progress k y) m;
})
behind_step h g (Polls n p x r is) b = subst IsBehind (sym is) (record {
  told = λ m y q. set_each (λ k f. f y q ≤ h.progress q y) n (set_at x (set_at r k (h.told n x)) (h.told n)) h.told
      (set_each (λ j f. f q ≤ h.progress q j) x (set_at r k (h.told n x)) (h.told n)
      (set_each (λ i v. v ≤ h.progress i x) r k (h.told n x) least (λ i differ. b.told n x i) q)
      (λ j differ. b.told n j q) y)
      (λ k differ. b.told k y q) m;
  progress = b.progress;
})
  where
    k : ℕ
    k = max (h.told n x r) (tells h p x r)

    least : k ≤ h.progress r x
    least =
        let old = b.told n x r in
        let said = tells_behind h b p x r in
        omega (arith, old, said)

behind_leads : (h : Confirmations) → Leads silent h → IsBehind h
behind_leads h Here = record { told = λ n x r. omega arith; progress = λ n x. omega arith }
behind_leads h (More {g = g} leads step) = behind_step g h step (behind_leads g leads)

pub told_is_behind : ToldIsBehind
told_is_behind h leads n x r = let b = behind_leads h leads in (tells_behind h b n x r, b.progress r x)
