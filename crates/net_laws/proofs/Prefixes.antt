-- Prefixes of streams: the moments that they tell, and whether the set has gone.
use Rattle.std.proofs.Common.{◌≡◌, ℕ, ◌+◌, ◌<◌, ◌≤◌, Bool, true, List, [], ◌∷◌, length, refl, sym, ap, subst, ◌∙◌}
use Rattle.std.proofs.Common.{arith, inl, inr}
use Rattle.std.specs.Prelude.{nat_le}
use Rattle.std.proofs.lemmas.Bool.{le-leb, lt-leb, cond-true, cond-false, cases_lt}
use Rattle.net_laws.specs.Subscriptions.{Event, Sync, DropSet, MoveSet, up_to, moment_with, last_moment, moved_with}
use Rattle.net_laws.specs.Subscriptions.{is_moved, over_with, is_over}

pub up_to_old : (k : ℕ) (e : Event) (z : List Event) → k ≤ length z → up_to k (e ∷ z) ≡ up_to k z
up_to_old k e z less = cond-true (nat_le k (length z)) (up_to k z) (e ∷ z) (le-leb k (length z) less)

pub up_to_new : (k : ℕ) (e : Event) (z : List Event) → length z < k → up_to k (e ∷ z) ≡ e ∷ z
up_to_new k e z more = cond-false (nat_le k (length z)) (up_to k z) (e ∷ z) (lt-leb k (length z) more)

pub up_to_all : (k : ℕ) (z : List Event) → length z ≤ k → up_to k z ≡ z
up_to_all k [] all = refl
up_to_all k (e ∷ z) all = up_to_new k e z (omega (arith, all))

pub up_to_whole : (z : List Event) → up_to (length z) z ≡ z
up_to_whole z = up_to_all (length z) z (omega arith)

pub length_up_to : (k : ℕ) (z : List Event) → k ≤ length z → length (up_to k z) ≡ k
length_up_to k [] less = omega (arith, less)
length_up_to k (e ∷ z) less = elim (cases_lt (length z) k) [
  | inl more ↦ ap length (up_to_new k e z more) ∙ omega (arith, less, more)
  | inr old ↦ ap length (up_to_old k e z old) ∙ length_up_to k z old
]

-- a prefix of a prefix
pub up_to_both : (k a : ℕ) (z : List Event) → k ≤ a → up_to k (up_to a z) ≡ up_to k z
up_to_both k a [] less = refl
up_to_both k a (e ∷ z) less = elim (cases_lt (length z) a) [
  | inl more ↦ ap (up_to k) (up_to_new a e z more)
  | inr old ↦
      ap (up_to k) (up_to_old a e z old) ∙
      (up_to_both k a z less ∙ sym (up_to_old k e z (omega (arith, less, old))))
]

-- what holds of each prefix, and of the whole with one more event
pub grown : (P : List Event → Type 0) (e : Event) (z : List Event) → ((a : ℕ) → a ≤ length z → P (up_to a z)) →
    P (e ∷ z) → (a : ℕ) → a ≤ length z + 1 → P (up_to a (e ∷ z))
grown P e z old new a less = elim (cases_lt (length z) a) [
  | inl more ↦ subst P (sym (up_to_new a e z more)) new
  | inr at ↦ subst P (sym (up_to_old a e z at)) (old a at)
]

-- ---- moments

pub moment_more : (e : Event) (m : ℕ) → m ≤ moment_with e m
moment_more (Sync k) m = omega arith
moment_more others m = omega arith

pub moment_up_to : (k : ℕ) (z : List Event) → last_moment (up_to k z) ≤ last_moment z
moment_up_to k [] = omega arith
moment_up_to k (e ∷ z) = elim (cases_lt (length z) k) [
  | inl more ↦ subst (λ y. last_moment y ≤ last_moment (e ∷ z)) (sym (up_to_new k e z more)) (omega arith)
  | inr old ↦
      let before = moment_up_to k z in
      let more = moment_more e (last_moment z) in
      subst (λ y. last_moment y ≤ last_moment (e ∷ z)) (sym (up_to_old k e z old)) (omega (arith, before, more))
]

pub moment_between : (k a : ℕ) (z : List Event) → k ≤ a → last_moment (up_to k z) ≤ last_moment (up_to a z)
moment_between k a z less =
    subst (λ y. last_moment y ≤ last_moment (up_to a z)) (up_to_both k a z less) (moment_up_to k (up_to a z))

-- ---- the end

moved_more : (e : Event) (b : Bool) → b ≡ true → moved_with e b ≡ true
moved_more MoveSet b is = refl
moved_more others b is = is

pub moved_up_to : (k : ℕ) (z : List Event) → is_moved (up_to k z) ≡ true → is_moved z ≡ true
moved_up_to k [] is = is
moved_up_to k (e ∷ z) is = elim (cases_lt (length z) k) [
  | inl more ↦ ap is_moved (sym (up_to_new k e z more)) ∙ is
  | inr old ↦ moved_more e (is_moved z) (moved_up_to k z (ap is_moved (sym (up_to_old k e z old)) ∙ is))
]

over_more : (e : Event) (a b : Bool) → (a ≡ true → b ≡ true) → moved_with e a ≡ true → over_with e b ≡ true
over_more DropSet a b more is = refl
over_more MoveSet a b more is = refl
over_more others a b more is = more is

-- a set that has moved has gone
pub moved_over : (z : List Event) → is_moved z ≡ true → is_over z ≡ true
moved_over [] is = is
moved_over (e ∷ z) is = over_more e (is_moved z) (is_over z) (moved_over z) is
