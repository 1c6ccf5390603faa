-- A file is read piece by piece.
use Rattle.std.proofs.Common.{◌≡◌, ℕ, List, ◌++◌, take, drop, Option, Some, None, Result, ap, ◌∙◌, arith, append_assoc}
use Rattle.std.proofs.lemmas.List.{take-append-drop}
use Rattle.slon_base.specs.declared.fault.OutFault.{OutFault}
use Rattle.slon_base.specs.Outside.{Filed, Reads, ReadsOn}
use Rattle.slonik_expand.specs.Reading.{KeepsOthers}

pub keeps_on : (into : List ℕ) (old mid new : Filed) (r : Result ℕ OutFault) → KeepsOthers old mid
    → ReadsOn into mid new r → KeepsOthers old new
keeps_on into old mid new r a b =
    record {
      faults = omega (arith, a.faults, b.cause.later);
      names = b.names ∙ a.names;
      depth = b.depth ∙ a.depth;
      others = b.others ∙ a.others;
    }

-- What is left of a file, and what was read of it, are all of its bytes.
pub record Partly (left : Option (List ℕ)) (got all : List ℕ) : Type 0 where
  pub rest : List ℕ
  pub is : left ≡ Some rest
  pub whole : got ++ rest ≡ all

-- a number of bytes was read of what is left
pub read_more : (into : List ℕ) (n : ℕ) (before after : Option (List ℕ)) (got all : List ℕ)
    → Reads into n before after → Partly before got all
    → (rest : List ℕ) × (after ≡ Some rest) × ((got ++ take n into) ++ rest ≡ all)
read_more into n None after got all h p = let none = p.is in cc
read_more into n (Some bytes) after got all h p =
    let is = p.is in
    let same : bytes ≡ p.rest = cc in (
      drop n bytes,
      h.2,
      append_assoc got (take n into) (drop n bytes) ∙ ap (λ l. got ++ (l ++ drop n bytes)) h.0
          ∙ ap (λ l. got ++ l) (take-append-drop n bytes ∙ same) ∙ p.whole,
    )
