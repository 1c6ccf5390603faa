-- Options and numbers that a test decides.
use Rattle.std.proofs.Common.{◌≡◌, ◌&&◌, T, Bool, true, false, cond, Option, Some, None, refl, is_some}

-- an option that has nothing
pub none_of : {X : Type 0} (o : Option X) → is_some o ≡ false → o ≡ None
none_of None e = refl
none_of (Some x) e = cc

-- a value that came only if the test passed
pub passed : {X : Type 0} (b : Bool) (x y : X) → cond b (Some x) None ≡ Some y → (b ≡ true) × (x ≡ y)
passed true x y e = (refl, cc)
passed false x y e = cc

-- an option that came only if the test passed
pub tested : {X : Type 0} (b : Bool) (o : Option X) (x : X) → cond b o None ≡ Some x → (b ≡ true) × (o ≡ Some x)
tested true o x e = (refl, e)
tested false o x e = cc

-- the first of two tests that passed
pub front_of : (a b : Bool) → T (a && b) → T a
front_of true b t = tt
front_of false b t = absurd t

-- the second of two tests that passed
pub back_of : (a b : Bool) → T (a && b) → T b
back_of true b t = t
back_of false b t = absurd t
