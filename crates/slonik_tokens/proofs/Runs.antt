-- How far bytes of one class run from the front.
use Rattle.std.proofs.Common.{◌≡◌, ℕ, suc, ◌+◌, cond, Bool, true, false, List, [], ◌∷◌, ◌++◌, length, take, drop, refl}
use Rattle.std.proofs.Common.{ap, arith}
use Rattle.std.proofs.lemmas.Bool.{and_parts, and_from}
use Rattle.std.proofs.Math.Seq.{take-append_seam, drop-append_seam}
use Rattle.std.specs.List.{list_all, prefix_len, take_while}
use Rattle.slonik_tokens.specs.Spelling.{Stops}

-- the bytes of the run, and what is behind it
pub record Runs (p : ℕ → Bool) (bytes front rest : List ℕ) : Type 0 where
  pub parts : bytes ≡ front ++ rest
  pub each : list_all p front ≡ true
  pub stops : Stops p rest

pub one_more : (n : ℕ) → 1 + n ≡ suc n
one_more n = omega arith

run_more : (p : ℕ → Bool) (c : ℕ) (front bytes rest : List ℕ) → p c ≡ true → Runs p bytes front rest
    → Runs p (c ∷ bytes) (c ∷ front) rest
run_more p c front bytes rest e r =
    record { parts = ap (λ l. c ∷ l) r.parts; each = and_from (p c) (list_all p front) e r.each; stops = r.stops }

run_on : (p : ℕ → Bool) (c : ℕ) (cs : List ℕ) (b : Bool) → p c ≡ b
    → Runs p cs (take_while p cs) (drop (prefix_len p cs) cs)
    → Runs p (c ∷ cs) (take (cond b (1 + prefix_len p cs) 0) (c ∷ cs)) (drop (cond b (1 + prefix_len p cs) 0) (c ∷ cs))
run_on p c cs true e r = rw one_more (run_more p c (take_while p cs) cs (drop (prefix_len p cs) cs) e r)
run_on p c cs false e r = record { parts = refl; each = refl; stops = e }

pub run : (p : ℕ → Bool) (bytes : List ℕ) → Runs p bytes (take_while p bytes) (drop (prefix_len p bytes) bytes)
run p [] = record { parts = refl; each = refl; stops = tt }
run p (c ∷ cs) = run_on p c cs (p c) refl (run p cs)

pub stopped : (p : ℕ → Bool) (rest : List ℕ) → Stops p rest → prefix_len p rest ≡ 0
stopped p [] h = refl
stopped p (c ∷ cs) h = rw h

-- a run is found again
pub run_again : (p : ℕ → Bool) (front rest : List ℕ) → list_all p front ≡ true → Stops p rest
    → prefix_len p (front ++ rest) ≡ length front
run_again p [] rest e h = stopped p rest h
run_again p (c ∷ cs) rest e h =
    let k = and_parts (p c) (list_all p cs) e in
    rw (k.0, run_again p cs rest k.1 h) (omega arith)

pub front_again : (p : ℕ → Bool) (front rest : List ℕ) → list_all p front ≡ true → Stops p rest
    → take_while p (front ++ rest) ≡ front
front_again p front rest e h = rw (run_again p front rest e h) (take-append_seam front rest)

pub rest_again : (p : ℕ → Bool) (front rest : List ℕ) → list_all p front ≡ true → Stops p rest
    → drop (prefix_len p (front ++ rest)) (front ++ rest) ≡ rest
rest_again p front rest e h = rw (run_again p front rest e h) (drop-append_seam front rest)
