-- Pairs of one store that are put into another, one after the other.
use Rattle.std.proofs.Common.{◌≡◌, ℕ, ◌+◌, ◌≤◌, true, false, cond, List, [], ◌∷◌, length, Option, Some, None, refl, sym}
use Rattle.std.proofs.Common.{ap, subst, ◌∙◌, arith, eq-eqb}
use Rattle.std.specs.Prelude.{◌==◌}
use Rattle.std.specs.Option.{option_map}
use Rattle.std.specs.FinMap.{insert, entries, entries_sorted}
use Rattle.std.proofs.lemmas.Bool.{eqb-true}
use Rattle.slon_base.specs.Keeper.{Space, Store, Kept, put_at, after, first}
use Rattle.slon_base.proofs.Order.{Entries, after-next}
use Rattle.store_rows.specs.Space.{Any}
use Rattle.store_rows.proofs.Scanning.{Comes, none_gone, none_comes}
use Rattle.node_state.proofs.Listing.{ranged_all}
use Rattle.node_change.specs.Pairs.{with_pairs, put_pairs, pairs_of}

-- ---- what is put into a store

put_none : (space : ℕ) (m : Store) → put_pairs space [] m ≡ m
put_none space m = λ k other. at other k
  where
    at : (other : ℕ) → put_pairs space [] m other ≡ m other
    at other =
        elim (other == space) as (λ b. (other == space) ≡ b → cond b (m space) (m other) ≡ m other) [
          | true ↦ λ is. ap m (sym (eqb-true other space is))
          | false ↦ λ is. refl
        ] refl

put_more : (space : ℕ) (e : List ℕ × List ℕ) (es : Entries) (m : Store) →
    put_pairs space es (put_at space e.0 e.1 m) ≡ put_pairs space (e ∷ es) m
put_more space e es m = λ k other. at other k
  where
    now : Space
    now = insert (m space) e.0 e.1

    at : (other : ℕ) → put_pairs space es (put_at space e.0 e.1 m) other ≡ put_pairs space (e ∷ es) m other
    at other =
        elim (other == space) as (λ b. cond b (with_pairs es (cond (space == space) now (m space)))
        (cond b now (m other)) ≡ cond b (with_pairs es now) (m other)) [
          | true ↦ ap (λ b. with_pairs es (cond b now (m space))) (eq-eqb space space refl)
          | false ↦ refl
        ]

-- what is pending where nothing is changed, and where two changes are one
pub map_same : (f : Store → Store) → ((m : Store) → f m ≡ m) → (pending : Option (Option Store)) →
    option_map (option_map f) pending ≡ pending
map_same f same (Some (Some m)) = ap (λ n. Some (Some n)) (same m)
map_same f same (Some None) = refl
map_same f same None = refl

pub map_twice : (f g h : Store → Store) → ((m : Store) → f (g m) ≡ h m) → (pending : Option (Option Store)) →
    option_map (option_map f) (option_map (option_map g) pending) ≡ option_map (option_map h) pending
map_twice f g h same (Some (Some m)) = ap (λ n. Some (Some n)) (same m)
map_twice f g h same (Some None) = refl
map_twice f g h same None = refl

-- ---- pair by pair

-- the change that is left to be made, behind the key `at` where `n` pairs were copied
pub record Copying (space : ℕ) (from : Space) (old now : Kept) (at : List ℕ) (n : ℕ) : Type 0 where
  pub rest : option_map (option_map (put_pairs space (after at (entries from)))) now.pending
      ≡ option_map (option_map (put_pairs space (pairs_of from))) old.pending
  pub count : length (after at (entries from)) + n ≤ length (entries from)

pub none_copied : {space : ℕ} {from : Space} {old : Kept} → Copying space from old old [] 0
none_copied {from = from} = record {
  rest = refl;
  count = (none_gone {prefix = []} {spell = λ e. e} {Can = Any} {all = entries from} {from = []}).count;
}

pub one_copied : {space : ℕ} {from : Space} {old now : Kept} {at : List ℕ} {n : ℕ} (new : Kept)
    (e : List ℕ × List ℕ) → Copying space from old now at n → Comes (entries from) at e →
    new.pending ≡ option_map (option_map (put_at space e.0 e.1)) now.pending → Copying space from old new e.0 (n + 1)
one_copied {space} {from} {old} {now} {at} new e c next put =
    let step = after-next at (entries from) e next.more (entries_sorted from) next.next in
    let left = after e.0 (entries from) in
    let ahead : e ∷ left ≡ after at (entries from) = ap (λ es. e ∷ es) step.1 ∙ sym next.next in
    record {
      rest = ap (option_map (option_map (put_pairs space left))) put
          ∙ map_twice (put_pairs space left) (put_at space e.0 e.1) (put_pairs space (e ∷ left))
          (put_more space e left) now.pending
          ∙ ap (λ es. option_map (option_map (put_pairs space es)) now.pending) ahead ∙ c.rest;
      count = omega (arith, c.count, ap length next.next, ap length step.1);
    }

-- another name of the key
pub copied_at : {space : ℕ} {from : Space} {old now : Kept} {at key : List ℕ} {n : ℕ} → at ≡ key →
    Copying space from old now at n → Copying space from old now key n
copied_at {space} {from} {old} {now} {n = n} is c = subst (λ key. Copying space from old now key n) is c

-- ---- all of them

abbrev IsDone : ℕ → Space → Kept → Kept → Type 0
IsDone space from old now = now.pending ≡ option_map (option_map (put_pairs space (pairs_of from))) old.pending

none_ahead : {space : ℕ} {from : Space} {old now : Kept} {at : List ℕ} {n : ℕ} → Copying space from old now at n →
    after at (entries from) ≡ [] → IsDone space from old now
none_ahead {space} {now = now} c none =
    sym (map_same (put_pairs space []) (put_none space) now.pending)
    ∙ ap (λ es. option_map (option_map (put_pairs space es)) now.pending) (sym none) ∙ c.rest

pub all_copied : {space : ℕ} {from : Space} {old now : Kept} {at : List ℕ} {n : ℕ} (key : List ℕ)
    (found : Option (List ℕ × List ℕ)) → Copying space from old now at n → key ≡ at → found ≡ None →
    found ≡ first (after key (entries from)) → IsDone space from old now
all_copied {from = from} {at = at} key found c same none is =
    none_ahead c (sym (ranged_all (after at (entries from))) ∙ none_comes [] (entries from) key found same none is)

no_pairs : (es : Entries) → length es ≤ 0 → es ≡ []
no_pairs [] few = refl
no_pairs (e ∷ es) few = absurd (omega (arith, few))

pub counted : {space : ℕ} {from : Space} {old now : Kept} {at : List ℕ} {n : ℕ} → Copying space from old now at n →
    length (entries from) ≤ n → IsDone space from old now
counted {from = from} {at = at} c all =
    none_ahead c (no_pairs (after at (entries from)) (omega (arith, c.count, all)))
