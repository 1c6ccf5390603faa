-- One node changes: what is sound stays so, if what is claimed of that node is shown.
use Rattle.std.proofs.Common.{◌≡◌, ℕ, ◌<◌, ◌≤◌, true, false, length, Some, refl, sym, subst, ◌∙◌, arith}
use Rattle.net_laws.specs.Updates.{set_at}
use Rattle.net_laws.specs.Subscriptions.{Subscription, up_to, last_moment, row}
use Rattle.net_laws.specs.Net.{Node, IsViewed, member, Net, with_node, owned}
use Rattle.net_laws.specs.Sound.{Sound, Holds, Provides, IsSpared}
use Rattle.net_laws.proofs.Updates.{set_each}

-- n is the provider of a row by the first a events
pub record IsProvider (w : Net) (n a : ℕ) : Type 0 where
  pub within : a ≤ length w.stream
  pub receiver : ℕ
  pub own : Subscription
  pub has : row w.start receiver (up_to a w.stream) ≡ Some own
  pub provider : own.provider ≡ n

-- what has to be shown of a node that is put in the place of n
pub record IsFit (w : Net) (n : ℕ) (new : Node) : Type 0 where
  pub progress : (w.nodes n).progress ≤ new.progress
  pub behind : new.progress ≤ length w.stream
  pub holds : Holds w.start w.now (up_to new.progress w.stream) n new
  pub active : (u : Subscription) → new.gave_up ≡ false → owned w n ≡ Some u → u.ready ≡ true →
      u.made ≤ new.progress → IsViewed new
  pub provides : (a : ℕ) (p : IsProvider w n a) → (n ≡ w.origin → ⊥) →
      Provides w.start (up_to a w.stream) n p.own.cut (w.nodes n) →
      Provides w.start (up_to a w.stream) n p.own.cut new
  pub cleaned : new.cleaned ≤ last_moment w.stream
  pub spared : (moment : ℕ) → IsSpared w.start w.stream moment n (w.nodes n) →
      IsSpared w.start w.stream moment n new
  pub spares : (r : ℕ) → (r ≡ w.origin → ⊥) → member r new.barred ≡ false →
      IsSpared w.start w.stream new.cleaned r (w.nodes r)

pub sound_with : (w : Net) (n : ℕ) (new : Node) → IsFit w n new → Sound w → Sound (with_node n new w)
sound_with w n new i s = record {
  bound = s.bound;
  filled = s.filled;
  closed = s.closed;
  behind = set_each (λ k d. d.progress ≤ length w.stream) n new w.nodes i.behind (λ k differ. s.behind k);
  holds = set_each (λ k d. Holds w.start w.now (up_to d.progress w.stream) k d) n new w.nodes i.holds
      (λ k differ. s.holds k);
  active = set_each (λ k d. (u : Subscription) → d.gave_up ≡ false → owned w k ≡ Some u → u.ready ≡ true →
      u.made ≤ d.progress → IsViewed d) n new w.nodes i.active (λ k differ. s.active k);
  marked = set_each (λ k d. (u : Subscription) → owned w k ≡ Some u → u.made < u.mark → u.made ≤ d.progress) n new
      w.nodes (λ u is less. let old = s.marked n u is less in omega (arith, old, i.progress)) (λ k differ. s.marked k);
  provided = λ a within r u is other.
      let old = s.provided a within r u is other in
      set_each (λ k d. k ≡ u.provider → Provides w.start (up_to a w.stream) k u.cut d) n new w.nodes
      (λ same. i.provides a
      (record { within = within; receiver = r; own = u; has = is; provider = sym same })
      (λ o. other (sym same ∙ o)) (at a u.cut u.provider n (sym same) old))
      (λ k differ same. at a u.cut u.provider k (sym same) old) u.provider refl;
  moved = s.moved;
  frozen = s.frozen;
  expected = s.expected;
  swept = set_each (λ k d. d.cleaned ≤ last_moment w.stream) n new w.nodes i.cleaned (λ k differ. s.swept k);
  spared = λ p r other.
      set_each (λ k d. member r d.barred ≡ false → IsSpared w.start w.stream d.cleaned r (set_at n new w.nodes r)) n
      new w.nodes (λ known. after new.cleaned r (i.spares r other known))
      (λ k differ known. after (w.nodes k).cleaned r (s.spared k r other known)) p;
}
  where
    -- the provider by another name
    at : (a cut p k : ℕ) → p ≡ k → Provides w.start (up_to a w.stream) p cut (w.nodes p) →
        Provides w.start (up_to a w.stream) k cut (w.nodes k)
    at a cut p k same old = subst (λ j. Provides w.start (up_to a w.stream) j cut (w.nodes j)) same old

    after : (moment r : ℕ) → IsSpared w.start w.stream moment r (w.nodes r) →
        IsSpared w.start w.stream moment r (set_at n new w.nodes r)
    after moment r = set_each (λ k d. IsSpared w.start w.stream moment k (w.nodes k) →
        IsSpared w.start w.stream moment k d) n new w.nodes (i.spared moment) (λ k differ old. old) r
