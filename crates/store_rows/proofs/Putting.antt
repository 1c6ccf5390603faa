-- How many pairs calls put.
use Rattle.std.proofs.Common.{◌≡◌, ℕ, ◌+◌, ◌≤◌, Option, Some, None, arith, subst, sym}
use Rattle.slon_base.specs.Keeper.{one_put}
use Rattle.store_rows.specs.Spending.{HavePut, IsToldUpTo, PutsUpTo}

told_within : (n m : ℕ) (count : Option ℕ) → IsToldUpTo n count → n ≤ m → IsToldUpTo m count
told_within n m None told le = absurd told
told_within n m (Some c) told le = omega (arith, told, le)

-- a greater number
pub have_put : {n m : ℕ} {count : Option ℕ} → HavePut n count → n ≤ m → HavePut m count
have_put {n} {m} {count} had le = record { told = told_within n m count had.told le }

-- the count stands as it stood
pub none_more : {old new : Option ℕ} → new ≡ old → PutsUpTo 0 old new
none_more same n had = have_put (subst (HavePut n) (sym same) had) (omega arith)

counted : (old : Option ℕ) (n : ℕ) → IsToldUpTo n old → IsToldUpTo (n + 1) (one_put old)
counted None n told = absurd told
counted (Some c) n told = omega (arith, told)

-- one pair was put
pub one_more : {old new : Option ℕ} → new ≡ one_put old → PutsUpTo 1 old new
one_more {old} same n had = subst (HavePut (n + 1)) (sym same) (record { told = counted old n had.told })

-- and so at most as many as a greater number
pub puts_within : (j k : ℕ) {old new : Option ℕ} → PutsUpTo j old new → j ≤ k → PutsUpTo k old new
puts_within j k puts le n had = have_put (puts n had) (omega (arith, le))

-- one pair was put, or none
pub one_at_most : {old new : Option ℕ} → new ≡ old → PutsUpTo 1 old new
one_at_most same = puts_within 0 1 (none_more same) (omega arith)

-- one call after another
pub puts_on : (i j k : ℕ) {old mid new : Option ℕ} → PutsUpTo i old mid → PutsUpTo j mid new → i + j ≤ k →
    PutsUpTo k old new
puts_on i j k first second le n had = have_put (second (n + i) (first n had)) (omega (arith, le))

-- so few pairs were put that as many as are left make at most the total
abbrev pub LeavesRoom : ℕ → ℕ → Option ℕ → Option ℕ → Type 0
LeavesRoom left total old new = (k : ℕ) × (k + left ≤ total) × PutsUpTo k old new

-- room for what is left, before the first of them, after one more, and behind the last one
pub room_first : (j left total : ℕ) {old new : Option ℕ} → PutsUpTo j old new → j + left ≤ total →
    LeavesRoom left total old new
room_first j left total puts le = (j, le, puts)

pub room_on : (j left more total : ℕ) {old mid new : Option ℕ} → LeavesRoom left total old mid →
    PutsUpTo j mid new → more + j ≤ left → LeavesRoom more total old new
room_on j left more total room puts le =
    (room.0 + j, omega (arith, le, room.1), puts_on room.0 j (room.0 + j) room.2 puts (omega arith))

pub room_end : (left total : ℕ) {old new : Option ℕ} → LeavesRoom left total old new → PutsUpTo total old new
room_end left total room = puts_within room.0 total room.2 (omega (arith, room.1))
