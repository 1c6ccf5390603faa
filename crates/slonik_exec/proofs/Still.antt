-- What was found of a database holds still where all have the names and the memory that they had.
use Rattle.std.proofs.Common.{◌≡◌, ◌∙◌, ℕ, zero, suc, ◌+◌, ◌<◌, true, cond, not, ltb, List, [], ◌∷◌, length, get_or}
use Rattle.std.proofs.Common.{Some, None, refl, sym, ap, subst, is_some, arith}
use Rattle.std.proofs.lemmas.List.{get_or_default}
use Rattle.std.specs.List.{position, prefix_len}
use Rattle.std.specs.Str.{bytes_eq}
use Rattle.slon_base.specs.Keeper.{Kept}
use Rattle.slon_base.specs.declared.keeper.Keeper.{Ghosts}
use Rattle.app_store.specs.Base.{base_of}
use Rattle.slonik_exec.specs.declared.databases.Named.{Named as NamedDatabase}
use Rattle.slonik_exec.specs.Databases.{bases_of}
use Rattle.slonik_exec.specs.Heard.{AreSame, KeepsAll}
use Rattle.slonik_exec.specs.Reached.{IsUpAt, IsNodeAt, IsSeatAt}
use Rattle.slonik_exec.proofs.Seats.{name_here}

-- how many databases stand before the first one of a name
before_name : {K : Type 0} {g : Ghosts K} → List ℕ → List (NamedDatabase K g) → ℕ
before_name name ds = prefix_len (λ d. not (bytes_eq name d.name)) ds

same_before : {K : Type 0} {g : Ghosts K} (kept : K → Kept) (name : List ℕ) (olds news : List (NamedDatabase K g)) →
    AreSame (bases_of kept olds) (bases_of kept news) → before_name name olds ≡ before_name name news
unfolding before_name
same_before kept name [] [] same = refl
same_before kept name [] (n ∷ ns) same = absurd same
same_before kept name (o ∷ os) [] same = absurd same
same_before kept name (o ∷ os) (n ∷ ns) same =
    ap (λ x. cond (not (bytes_eq name x)) (1 + before_name name os) 0) (sym same.0)
    ∙ ap (λ k. cond (not (bytes_eq name n.name)) (1 + k) 0) (same_before kept name os ns same.2)

same_count : {K : Type 0} {g : Ghosts K} (kept : K → Kept) (olds news : List (NamedDatabase K g)) →
    AreSame (bases_of kept olds) (bases_of kept news) → length olds ≡ length news
same_count kept [] [] same = refl
same_count kept [] (n ∷ ns) same = absurd same
same_count kept (o ∷ os) [] same = absurd same
same_count kept (o ∷ os) (n ∷ ns) same = ap suc (same_count kept os ns same.2)

pub same_position : {K : Type 0} {g : Ghosts K} (kept : K → Kept) (name : List ℕ)
    (olds news : List (NamedDatabase K g)) →
    AreSame (bases_of kept olds) (bases_of kept news) →
    position (λ d. bytes_eq name d.name) olds ≡ position (λ d. bytes_eq name d.name) news
unfolding before_name
same_position kept name olds news same =
    ap (λ n. cond (ltb n (length olds)) (Some n) None) (same_before kept name olds news same)
    ∙ ap (λ l. cond (ltb (before_name name news) l) (Some (before_name name news)) None)
    (same_count kept olds news same)

-- the database at an index remembers the same
pub same_memory : {K : Type 0} {g : Ghosts K} (kept : K → Kept) (olds news : List (NamedDatabase K g)) (i : ℕ)
    (o n : NamedDatabase K g) → AreSame (bases_of kept olds) (bases_of kept news) → i < length olds →
    (base_of kept (get_or news i n).database).memory ≡ (base_of kept (get_or olds i o).database).memory
same_memory kept [] news i o n same less = absurd (omega (arith, less))
same_memory kept (x ∷ xs) [] i o n same less = absurd same
same_memory kept (x ∷ xs) (y ∷ ys) zero o n same less = same.1
same_memory kept (x ∷ xs) (y ∷ ys) (suc i) o n same less =
    same_memory kept xs ys i o n same.2 (omega (arith, less))

pub up_still : {K : Type 0} {g : Ghosts K} (kept : K → Kept) (name : List ℕ) (olds news : List (NamedDatabase K g))
    (i : ℕ) → AreSame (bases_of kept olds) (bases_of kept news) → IsUpAt name olds i → IsUpAt name news i
up_still {K} {g} kept name olds news i same here =
    let count = same_count kept olds news same in
    record {
      inside = omega (arith, count, here.inside);
      at = sym (same_position kept name olds news same) ∙ here.at;
      up = λ d held.
          ap (λ (x : NamedDatabase K g). x.database.state.up) held
          ∙ ap (λ m. m.up) (same_memory kept olds news i d d same here.inside)
          ∙ here_up d;
    }
  where
    here_up : (d : NamedDatabase K g) → (get_or olds i d).database.state.up ≡ true
    here_up d = here.up (get_or olds i d) (get_or_default olds i d (get_or olds i d) here.inside)

pub node_still : {K : Type 0} {g : Ghosts K} (kept : K → Kept) (name : List ℕ) (olds news : List (NamedDatabase K g))
    (i : ℕ) → AreSame (bases_of kept olds) (bases_of kept news) → IsNodeAt name olds i → IsNodeAt name news i
node_still {K} {g} kept name olds news i same at = record {
  here = up_still kept name olds news i same at.here;
  node = λ d held.
      ap (λ (x : NamedDatabase K g). is_some x.database.state.node.identity) held
      ∙ ap (λ m. is_some m.identity) (same_memory kept olds news i d d same at.here.inside)
      ∙ here_node d;
}
  where
    here_node : (d : NamedDatabase K g) → is_some (get_or olds i d).database.state.node.identity ≡ true
    here_node d = at.node (get_or olds i d) (get_or_default olds i d (get_or olds i d) at.here.inside)

pub all_still : {K : Type 0} {g : Ghosts K} (kept : K → Kept) (olds news : List (NamedDatabase K g)) →
    AreSame (bases_of kept olds) (bases_of kept news) → KeepsAll olds news
all_still kept olds news same = record {
  ups = λ name i here. up_still kept name olds news i same here;
  nodes = λ name i at. node_still kept name olds news i same at;
}

-- and so does a database at an index that is up and a node
pub seat_still : {K : Type 0} {g : Ghosts K} (kept : K → Kept) (olds news : List (NamedDatabase K g)) (i : ℕ) →
    AreSame (bases_of kept olds) (bases_of kept news) → IsSeatAt olds i → IsSeatAt news i
seat_still {K} {g} kept olds news i same (inside, each) =
    let count = same_count kept olds news same in (omega (arith, count, inside), λ d held. here d held)
  where
    here : (d : NamedDatabase K g) → d ≡ get_or news i d → IsNodeAt d.name news i
    here d held =
        let o = get_or olds i d in
        let still = node_still kept o.name olds news i same (each o (get_or_default olds i d o inside)) in
        subst (λ n. IsNodeAt n news i)
        (name_here kept news i o.name d still.here.at ∙ ap (λ (x : NamedDatabase K g). x.name) (sym held)) still
