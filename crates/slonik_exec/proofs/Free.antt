-- Databases that are no nodes, and two databases of which the one is a node and the other is none.
use Rattle.std.proofs.Common.{◌≡◌, ◌∙◌, ℕ, zero, suc, ◌<◌, false, cond, List, [], ◌∷◌, length, get_or, find}
use Rattle.std.proofs.Common.{Option, Some, None, is_some, refl, sym, ap, subst, arith}
use Rattle.std.proofs.lemmas.Bool.{false≢true}
use Rattle.std.proofs.lemmas.List.{get_or_default}
use Rattle.std.specs.List.{position}
use Rattle.std.specs.Option.{option_map}
use Rattle.std.specs.Str.{bytes_eq}
use Rattle.slon_base.specs.Keeper.{Kept}
use Rattle.slon_base.specs.declared.keeper.Keeper.{Ghosts}
use Rattle.node_state.specs.declared.memory.Identity.{Identity}
use Rattle.slonik_exec.specs.declared.databases.Named.{Named as NamedDatabase}
use Rattle.slonik_exec.specs.declared.membership.Spots.{Spots}
use Rattle.slonik_exec.specs.Databases.{bases_of}
use Rattle.slonik_exec.specs.Heard.{AreSame}
use Rattle.slonik_exec.specs.Reached.{IsUpAt, IsNodeAt, AreFree}
use Rattle.slonik_exec.specs.Stored.{AreJoinable}
use Rattle.slonik_exec.proofs.Downs.{is_node, id_in}
use Rattle.slonik_exec.proofs.Still.{same_memory, up_still, node_still}

-- ---- no database is a node

free_by : {K : Type 0} {g : Ghosts K} (ds : List (NamedDatabase K g)) → id_in (find is_node ds) ≡ None → AreFree ds
free_by [] none i less d held = absurd (omega (arith, less))
free_by {K} {g} (x ∷ xs) none i less d held =
    by x.database.state.node.identity refl i less held (λ rest k below is. free_by xs rest k below d is)
  where
    by : (o : Option Identity) → x.database.state.node.identity ≡ o → (i : ℕ) → i < length (x ∷ xs) →
        d ≡ get_or (x ∷ xs) i d →
        (id_in (find is_node xs) ≡ None → (k : ℕ) → k < length xs → d ≡ get_or xs k d →
        is_some d.database.state.node.identity ≡ false) → is_some d.database.state.node.identity ≡ false
    by (Some own) is i less held later =
        let some : id_in (find is_node (x ∷ xs)) ≡ Some own.id
        = ap (λ (o : Option Identity). id_in (cond (is_some o) (Some x) (find is_node xs))) is
        ∙ ap (λ (o : Option Identity). option_map (λ i. i.id) o) is in
        absurd cc
    by None is zero less held later =
        ap (λ (y : NamedDatabase K g). is_some y.database.state.node.identity) held ∙ ap is_some is
    by None is (suc i) less held later =
        later (sym (ap (λ (o : Option Identity). id_in (cond (is_some o) (Some x) (find is_node xs))) is) ∙ none)
        i (omega (arith, less)) held

pub are_free : {K : Type 0} {g : Ghosts K} (ds : List (NamedDatabase K g)) (found : Option (NamedDatabase K g)) →
    found ≡ find is_node ds → id_in found ≡ None → AreFree ds
are_free ds found is none = free_by ds (sym (ap id_in is) ∙ none)

-- ---- two databases

-- they stand under two names
pub apart_names : {K : Type 0} {g : Ghosts K} (databases : List (NamedDatabase K g)) (a b : List ℕ) (i j : ℕ) →
    position (λ d. bytes_eq a d.name) databases ≡ Some i → position (λ d. bytes_eq b d.name) databases ≡ Some j →
    (a ≡ b → i ≡ j)
apart_names databases a b i j one two same =
    let here : position (λ d. bytes_eq b d.name) databases ≡ Some i
    = subst (λ n. position (λ d. bytes_eq n d.name) databases ≡ Some i) same one in
    cc

-- the one is a node, and the other is up and no node
pub joinable : {K : Type 0} {g : Ghosts K} (databases : List (NamedDatabase K g)) (at : Spots) (a b : List ℕ)
    (free : NamedDatabase K g) → IsNodeAt a databases at.from → IsUpAt b databases at.to →
    (free ≡ get_or databases at.to free) × (is_some free.database.state.node.identity ≡ false) →
    AreJoinable databases at
joinable {K} {g} databases at a b free node here (held, none) = record {
  inside = node.here.inside;
  other = here.inside;
  apart = λ same. false≢true (sym none ∙ node.node free (subst (λ i. free ≡ get_or databases i free) (sym same) held));
  from_up = node.here.up;
  node = node.node;
  to_up = here.up;
  free = λ d is. subst (λ (x : NamedDatabase K g). is_some x.database.state.node.identity ≡ false)
      (held ∙ get_or_default databases at.to free d here.inside ∙ sym is) none;
}

-- and so where they remember the same
pub joinable_still : {K : Type 0} {g : Ghosts K} (kept : K → Kept) (olds news : List (NamedDatabase K g)) (at : Spots)
    {a b : List ℕ} → AreSame (bases_of kept olds) (bases_of kept news) →
    IsNodeAt a olds at.from × IsUpAt b olds at.to → AreJoinable olds at → AreJoinable news at
joinable_still {K} {g} kept olds news at {a} {b} same (from, to) old =
    let node = node_still kept a olds news at.from same from in
    let here = up_still kept b olds news at.to same to in
    record {
      inside = node.here.inside;
      other = here.inside;
      apart = old.apart;
      from_up = node.here.up;
      node = node.node;
      to_up = here.up;
      free = λ d held.
          ap (λ (x : NamedDatabase K g). is_some x.database.state.node.identity) held
          ∙ ap (λ m. is_some m.identity) (same_memory kept olds news at.to d d same old.other)
          ∙ old.free (get_or olds at.to d) (get_or_default olds at.to d (get_or olds at.to d) old.other);
    }
