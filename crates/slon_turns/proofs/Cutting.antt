-- Two elements of a list that was cut between them, each at its place in the whole list.
use Rattle.std.proofs.Common.{◌≡◌, ◌∙◌, ℕ, ◌<◌, ◌≤◌, List, ◌++◌, drop, get_or, length, set, subst, take}
use Rattle.slonik_exec.proofs.Halves.{Halves, halves_set, held_front, held_back, other_less, set_turned}

-- It was cut at the second of two places, or at the first.
pub halves : {X : Type 0} {front back : List X} (all : List X) (i n : ℕ) →
    (front ≡ take n all) × (back ≡ drop n all) → i < n → n < length all → Halves all front back i n
halves all i n (front_is, back_is) less inside =
    record { front_is = front_is; back_is = back_is; less = less; inside = inside }

pub other_halves : {X : Type 0} {front back : List X} (all : List X) (i n : ℕ) →
    (front ≡ take i all) × (back ≡ drop i all) → n ≤ i → (i ≡ n → ⊥) → i < length all → Halves all front back n i
other_halves all i n cut le apart inside = halves all n i cut (other_less i n le apart) inside

-- the one in the front, and the first one behind the cut
pub front_held : {X : Type 0} {all front back : List X} {i n : ℕ} {x : X} → Halves all front back i n →
    x ≡ get_or front i x → get_or front i x ≡ get_or all i (get_or front i x)
front_held {all = all} {front} {back} {i} {n} {x} h is =
    subst (λ z. z ≡ get_or all i z) is (held_front all front back i n x h is)

pub back_held : {X : Type 0} {all front back : List X} {i n : ℕ} {y : X} → Halves all front back i n →
    y ≡ get_or back 0 y → get_or back 0 y ≡ get_or all n (get_or back 0 y)
back_held {all = all} {front} {back} {i} {n} {y} h is =
    subst (λ z. z ≡ get_or all n z) is (held_back all front back i n y h is)

-- What is known of an element at one place and of another one at another place, and of the list with what they became.
pub record Sides {X : Type 0} (all : List X) (i n : ℕ) (one one_new other other_new : X) (news : List X) : Type 0
  where
    pub one_held : one ≡ get_or all i one
    pub other_held : other ≡ get_or all n other
    pub is : news ≡ set (set all i one_new) n other_new

-- the one is in the front
pub one_first : {X : Type 0} {all front back : List X} {i n : ℕ} {x y : X} (one other : X) →
    Halves all front back i n → x ≡ get_or front i x → y ≡ get_or back 0 y →
    Sides all i n (get_or front i x) one (get_or back 0 y) other (set front i one ++ set back 0 other)
one_first {all = all} {front} {back} {i} {n} one other h at there = record {
  one_held = front_held h at;
  other_held = back_held h there;
  is = halves_set all front back i n one other h;
}

-- or the other one is
pub other_first : {X : Type 0} {all front back : List X} {i n : ℕ} {x y : X} (one other : X) →
    Halves all front back n i → x ≡ get_or back 0 x → y ≡ get_or front n y →
    Sides all i n (get_or back 0 x) one (get_or front n y) other (set front n other ++ set back 0 one)
other_first {all = all} {front} {back} {i} {n} one other h at there = record {
  one_held = back_held h at;
  other_held = front_held h there;
  is = halves_set all front back n i other one h ∙ set_turned all n i other one h.less;
}
