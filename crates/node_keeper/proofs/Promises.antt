-- A store that was made as its item says is as it was promised.
use Rattle.std.proofs.Common.{◌≡◌, ℕ, Bool, List, Vec, Some, ap, sym, subst, arith}
use Rattle.std.specs.declared.alloc.Global.{Global}
use Rattle.std.specs.List.{slice_get}
use Rattle.slon_base.specs.Keeper.{Kept, nothing}
use Rattle.slon_base.specs.Counts.{Within}
use Rattle.slon_base.specs.Shelf.{IsAsPromised}
use Rattle.node_keeper.specs.MemShelved.{can_fail, promised}
use Rattle.node_keeper.specs.Told.{fresh}

pub as_promised : (keepers : List (Vec ℕ Global × Bool)) (place : ℕ) (k : Kept) →
    k ≡ fresh (can_fail (slice_get keepers place)) → IsAsPromised (promised keepers place) k
as_promised keepers place k is = record {
  told = λ _. (nothing, ap (λ x. x.held) is);
  empty = λ _ _. ap (λ x. x.held) is;
  left = subst (λ x. Within (Some (can_fail (slice_get keepers place))) x.can_fail) (sym is) (omega arith);
}
