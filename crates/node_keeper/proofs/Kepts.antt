-- What a store in memory holds and what is pending in it.
use Rattle.std.proofs.Common.{◌≡◌, ◌⊎◌, ℕ, zero, suc, Bool, true, false, ◌&&◌, List, [], ◌∷◌, ◌++◌, map, get_or, Some}
use Rattle.std.proofs.Common.{if◌then◌else◌, refl, sym, ap, ◌∙◌, inl, inr, is_some}
use Rattle.std.proofs.lemmas.Bool.{false≢true}
use Rattle.std.proofs.Math.ListN.{get_or-map}
use Rattle.std.specs.FinMap.{empty, entries, same_entries_map}
use Rattle.slon_base.specs.Keeper.{Space, Store, sight}
use Rattle.node_keeper.specs.declared.fault_plan.FaultPlan.{FaultPlan}
use Rattle.node_keeper.specs.declared.mem_keeper.MemKeeper.{MemKeeper}
use Rattle.node_keeper.specs.declared.mem_keeper.Phase.{Phase}
use Rattle.node_keeper.specs.declared.mem_keeper.Phase.TheVariants.{Idle, Open, Torn}
use Rattle.node_keeper.specs.MemKept.{held_store, pending_store, pending_in, IsSettled, mem_kept, is_open, ended}
use Rattle.node_keeper.specs.Told.{kept_of}

same_some : {A : Type 0} (x y : A) → Some x ≡ Some y → x ≡ y
same_some x y e = cc

-- with no transaction, what is pending is what is held
pub settled_store : (spaces : List (Space × Space)) → IsSettled Idle spaces → pending_store spaces ≡ held_store spaces
settled_store spaces settled = λ i space. same_entries_map _ _ (settled refl space) i

-- what reads see is pending
seen : (spaces : List (Space × Space)) (phase : Phase) (plan : FaultPlan) (doubts puts : ℕ) (m : Store) →
    IsSettled phase spaces → sight (mem_kept spaces plan phase doubts puts) ≡ Some m → pending_store spaces ≡ m
seen spaces Idle plan doubts puts m settled e = settled_store spaces settled ∙ same_some _ _ e
seen spaces Open plan doubts puts m settled e = same_some _ _ e
seen spaces Torn plan doubts puts m settled e = cc

-- and so is what a call finds in the spaces after it was counted
pub seen_in : (k : MemKeeper) (counted : List (Space × Space)) (space : ℕ) (at : Space × Space) →
    at ≡ get_or counted space (empty, empty) → counted ≡ k.spaces.items → (m : Store) → sight (kept_of k) ≡ Some m →
    at.1 ≡ m space
seen_in k counted space at is same m e = ap (λ p. p.1) is ∙ ap (λ spaces. pending_store spaces space) same
    ∙ ap (λ s. s space) (seen k.spaces.items k.phase k.plan k.doubts k.puts m k.settled e)

ended-at : (commits : Bool) (spaces : List (Space × Space)) (space : ℕ) → get_or (map (ended commits) spaces) space
    (empty, empty) ≡ ended commits (get_or spaces space (empty, empty))
ended-at true spaces space = get_or-map (ended true) spaces space (empty, empty)
ended-at false spaces space = get_or-map (ended false) spaces space (empty, empty)

pub settled_end : (commits : Bool) (spaces : List (Space × Space)) (space : ℕ) →
    entries (pending_store (map (ended commits) spaces) space) ≡ entries (held_store (map (ended commits) spaces) space)
settled_end commits spaces space = ap (λ p. entries p.1) (ended-at commits spaces space) ∙ both commits
    ∙ sym (ap (λ p. entries p.0) (ended-at commits spaces space))
  where
    both : (b : Bool) → entries (ended b (get_or spaces space (empty, empty))).1 ≡ entries
        (ended b (get_or spaces space (empty, empty))).0
    both true = refl
    both false = refl

pub held_end : (commits : Bool) (spaces : List (Space × Space)) →
    held_store (map (ended commits) spaces) ≡ (if commits then pending_store spaces else held_store spaces)
held_end true spaces = λ i space. (ended-at true spaces space i).0
held_end false spaces = λ i space. (ended-at false spaces space i).0

-- what a commit that fails leaves
pub in_doubt : (commits rest : Bool) (phase : Phase) (spaces : List (Space × Space)) →
    commits ≡ (is_open phase && rest) → (Some (held_store (map (ended commits) spaces)) ≡ Some (held_store spaces))
    ⊎ (pending_in phase (pending_store spaces) ≡ Some (Some (held_store (map (ended commits) spaces))))
in_doubt false rest phase spaces e = inl (ap Some (held_end false spaces))
in_doubt true rest Idle spaces e = absurd (false≢true (sym e))
in_doubt true rest Open spaces e = inr (ap (λ s. Some (Some s)) (sym (held_end true spaces)))
in_doubt true rest Torn spaces e = absurd (false≢true (sym e))

-- one more empty space
pub empty_push : (spaces : List (Space × Space)) → ((space : ℕ) → get_or spaces space (empty, empty) ≡ (empty, empty)) →
    (space : ℕ) → get_or (spaces ++ (empty, empty) ∷ []) space (empty, empty) ≡ (empty, empty)
empty_push [] h zero = refl
empty_push [] h (suc n) = refl
empty_push (p ∷ spaces) h zero = h zero
empty_push (p ∷ spaces) h (suc n) = empty_push spaces (λ space. h (suc space)) n

pub idle : (phase : Phase) (store : Store) → is_some (pending_in phase store) ≡ false → phase ≡ Idle
idle Idle store e = refl
idle Open store e = absurd (false≢true (sym e))
idle Torn store e = absurd (false≢true (sym e))
