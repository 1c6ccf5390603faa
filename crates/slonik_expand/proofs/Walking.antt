-- The tokens of a definition come out one by one.
use Rattle.std.proofs.Common.{◌≡◌, ℕ, ◌+◌, ◌<◌, List, [], ◌∷◌, ◌++◌, length, get_or, refl, sym, ap, ◌∙◌, arith, ltb}
use Rattle.std.proofs.Common.{true, append_assoc}
use Rattle.std.proofs.Math.ListN.{get_or-append}
use Rattle.std.proofs.lemmas.Bool.{ltb-true}
use Rattle.std.proofs.lemmas.List.{append-nil, nil_from_length}
use Rattle.std.specs.Borrow.{Bor}
use Rattle.slonik_tokens.specs.declared.token.Token.{Token}
use Rattle.slonik_expand.specs.declared.definition.Part.{Part}
use Rattle.slonik_expand.specs.declared.definition.Part.TheVariants.{Single, Earlier}
use Rattle.slonik_expand.specs.declared.definition.Definition.{Definition}
use Rattle.slonik_expand.specs.declared.output.Output.{Output}
use Rattle.slonik_expand.specs.Expansion.{place_behind}
use Rattle.slonik_expand.specs.Shared.{part_tokens, parts_tokens, values_behind, meanings, meaning, is_below, are_below}
use Rattle.slonik_expand.specs.Shared.{are_ordered, parts_at}
use Rattle.slonik_expand.specs.Steps.{IsBehind}
use Rattle.slonik_expand.proofs.SharedDefinitions.{both, value_at, meaning_at}

-- what comes out of parts that are pending, of which the last come first
pub pending_tokens : List (List Token) → List (Bor (List Part)) → List Token
pending_tokens table [] = []
pending_tokens table (parts ∷ pending) = pending_tokens table pending ++ parts_tokens table parts.now

pending_one : (table : List (List Token)) (pending : List (Bor (List Part))) (parts : Bor (List Part))
    → pending_tokens table (pending ++ parts ∷ []) ≡ parts_tokens table parts.now ++ pending_tokens table pending
unfolding pending_tokens
pending_one table [] parts = sym (append-nil (parts_tokens table parts.now))
pending_one table (other ∷ pending) parts =
    ap (λ l. l ++ parts_tokens table other.now) (pending_one table pending parts)
    ∙ append_assoc (parts_tokens table parts.now) (pending_tokens table pending) (parts_tokens table other.now)

-- how many steps a walk over a part takes, where the table has how many it takes over each definition
pub part_steps : List ℕ → Part → ℕ
part_steps table (Single token) = 1
part_steps table (Earlier place) = 2 + get_or table place 0

pub parts_steps : List ℕ → List Part → ℕ
parts_steps table [] = 0
parts_steps table (part ∷ parts) = part_steps table part + parts_steps table parts

-- how many steps a walk over each definition takes
pub steps_of : List Definition → List ℕ
steps_of made = values_behind parts_steps [] made

-- how many steps are left
pub pending_steps : List ℕ → List (Bor (List Part)) → ℕ
pending_steps table [] = 0
pending_steps table (parts ∷ pending) = 1 + parts_steps table parts.now + pending_steps table pending

steps_one : (table : List ℕ) (pending : List (Bor (List Part))) (parts : Bor (List Part))
    → pending_steps table (pending ++ parts ∷ []) ≡ 1 + parts_steps table parts.now + pending_steps table pending
unfolding pending_steps
steps_one table [] parts = refl
steps_one table (other ∷ pending) parts = omega (arith, steps_one table pending parts)

steady_steps : (xs ys : List ℕ) (ps : List Part) → are_below (length xs) ps ≡ true
    → parts_steps (xs ++ ys) ps ≡ parts_steps xs ps
unfolding part_steps parts_steps are_below is_below
steady_steps xs ys [] h = refl
steady_steps xs ys (Single t ∷ ps) h = ap (λ n. 1 + n) (steady_steps xs ys ps h)
steady_steps xs ys (Earlier i ∷ ps) h =
    let parts = both (ltb i (length xs)) (are_below (length xs) ps) h in
    omega (arith, get_or-append xs ys 0 i (ltb-true i (length xs) parts.0), steady_steps xs ys ps parts.1)

steps_at : (made : List Definition) (place : ℕ) → are_ordered 0 made ≡ true
    → get_or (steps_of made) place 0 ≡ parts_steps (steps_of made) (parts_at made place)
unfolding steps_of parts_steps
steps_at made place h =
    let there : place ≡ 0 + place = omega arith in
    ap (λ n. get_or (steps_of made) n 0) there ∙ value_at parts_steps 0 steady_steps (λ table. refl) [] made place h

-- A walk over the definition at a place, and what came out before it.
pub record Walk : Type 0 where
  pub made : List Definition
  pub place : ℕ
  pub old : Output

-- What came out, and what is pending.
pub record Halfway : Type 0 where
  pub out : Output
  pub pending : List (Bor (List Part))

-- What came out and what is pending are all that a definition stands for.
pub record Walks (walk : Walk) (now : Halfway) : Type 0 where
  pub tokens : walk.old.tokens.items ++ meaning walk.made walk.place
      ≡ now.out.tokens.items ++ pending_tokens (meanings walk.made) now.pending
  pub places : place_behind (meaning walk.made walk.place) walk.old.place
      ≡ place_behind (pending_tokens (meanings walk.made) now.pending) now.out.place

-- what is pending stands for the same
pub walks_on : (walk : Walk) (now : Halfway) (after : List (Bor (List Part))) → Walks walk now
    → pending_tokens (meanings walk.made) now.pending ≡ pending_tokens (meanings walk.made) after
    → Walks walk (record now { pending = after })
walks_on walk now after w e = record {
  tokens = w.tokens ∙ ap (λ l. now.out.tokens.items ++ l) e;
  places = w.places ∙ ap (λ l. place_behind l now.out.place) e;
}

-- The first part of the last pending parts is taken.
pub record Pops (before : List (Bor (List Part))) (part : Part) (after : List (Bor (List Part))) : Type 0 where
  pub popped : List (Bor (List Part))
  pub parts : Bor (List Part)
  pub rest : Bor (List Part)
  pub was : before ≡ popped ++ parts ∷ []
  pub first : parts.now ≡ part ∷ rest.now
  pub now : after ≡ popped ++ rest ∷ []

pops_tokens : (table : List (List Token)) (before after : List (Bor (List Part))) (part : Part) → Pops before part after
    → pending_tokens table before ≡ part_tokens table part ++ pending_tokens table after
unfolding parts_tokens
pops_tokens table before after part p =
    ap (pending_tokens table) p.was ∙ pending_one table p.popped p.parts
    ∙ ap (λ l. parts_tokens table l ++ pending_tokens table p.popped) p.first
    ∙ append_assoc (part_tokens table part) (parts_tokens table p.rest.now) (pending_tokens table p.popped)
    ∙ ap (λ l. part_tokens table part ++ l) (sym (ap (pending_tokens table) p.now ∙ pending_one table p.popped p.rest))

pops_steps : (table : List ℕ) (before after : List (Bor (List Part))) (part : Part) → Pops before part after
    → pending_steps table before ≡ part_steps table part + pending_steps table after
unfolding parts_steps
pops_steps table before after part p =
    let front : pending_steps table before ≡ 1 + parts_steps table p.parts.now + pending_steps table p.popped =
    ap (pending_steps table) p.was ∙ steps_one table p.popped p.parts in
    let back : pending_steps table after ≡ 1 + parts_steps table p.rest.now + pending_steps table p.popped =
    ap (pending_steps table) p.now ∙ steps_one table p.popped p.rest in
    omega (arith, front, back, ap (parts_steps table) p.first)

-- a token comes out
pub walks_single : (walk : Walk) (now next : Halfway) (t : Token) → Walks walk now
    → Pops now.pending (Single t) next.pending → IsBehind now.out (t ∷ []) next.out → Walks walk next
unfolding part_tokens
walks_single walk now next t w p b =
    let table = meanings walk.made in
    let e : pending_tokens table now.pending ≡ t ∷ pending_tokens table next.pending =
    pops_tokens table now.pending next.pending (Single t) p in
    record {
      tokens = w.tokens ∙ ap (λ l. now.out.tokens.items ++ l) e
          ∙ sym (append_assoc now.out.tokens.items (t ∷ []) (pending_tokens table next.pending))
          ∙ ap (λ l. l ++ pending_tokens table next.pending) (sym b.tokens);
      places = w.places ∙ ap (λ l. place_behind l now.out.place) e
          ∙ ap (place_behind (pending_tokens table next.pending)) (sym b.place);
    }

pub single_steps : (table : List ℕ) (before after : List (Bor (List Part))) (t : Token) → Pops before (Single t) after
    → pending_steps table after < pending_steps table before
unfolding part_steps
single_steps table before after t p = omega (arith, pops_steps table before after (Single t) p)

-- An earlier definition is entered, in the place of a part that names it.
pub record Enters (made : List Definition) (before after : List (Bor (List Part))) : Type 0 where
  pub other : ℕ
  pub mid : List (Bor (List Part))
  pub parts : Bor (List Part)
  pub pops : Pops before (Earlier other) mid
  pub is : parts.now ≡ parts_at made other
  pub now : after ≡ mid ++ parts ∷ []

pub earlier_same : (made : List Definition) (before after : List (Bor (List Part))) → are_ordered 0 made ≡ true
    → Enters made before after → pending_tokens (meanings made) before ≡ pending_tokens (meanings made) after
unfolding part_tokens meaning
earlier_same made before after order e =
    let table = meanings made in
    let entered : pending_tokens table after ≡ meaning made e.other ++ pending_tokens table e.mid =
    ap (pending_tokens table) e.now ∙ pending_one table e.mid e.parts
    ∙ ap (λ l. l ++ pending_tokens table e.mid) (ap (parts_tokens table) e.is ∙ sym (meaning_at made e.other order)) in
    pops_tokens table before e.mid (Earlier e.other) e.pops ∙ sym entered

pub earlier_steps : (made : List Definition) (before after : List (Bor (List Part))) → are_ordered 0 made ≡ true
    → Enters made before after → pending_steps (steps_of made) after < pending_steps (steps_of made) before
unfolding part_steps
earlier_steps made before after order e =
    let table = steps_of made in
    let entered : pending_steps table after ≡ 1 + parts_steps table e.parts.now + pending_steps table e.mid =
    ap (pending_steps table) e.now ∙ steps_one table e.mid e.parts in
    omega (
      arith,
      pops_steps table before e.mid (Earlier e.other) e.pops,
      entered,
      ap (parts_steps table) e.is,
      steps_at made e.other order,
    )

-- parts of which none is left
pub past_same : (table : List (List Token)) (before after : List (Bor (List Part))) (parts : Bor (List Part))
    → before ≡ after ++ parts ∷ [] → length parts.now ≡ 0 → pending_tokens table before ≡ pending_tokens table after
unfolding parts_tokens
past_same table before after parts e none =
    ap (pending_tokens table) e ∙ pending_one table after parts
    ∙ ap (λ l. parts_tokens table l ++ pending_tokens table after) (nil_from_length parts.now none)

pub past_steps : (table : List ℕ) (before after : List (Bor (List Part))) (parts : Bor (List Part))
    → before ≡ after ++ parts ∷ []
    → pending_steps table after < pending_steps table before
past_steps table before after parts e = omega (arith, ap (pending_steps table) e, steps_one table after parts)

-- nothing is pending
pub walks_over : (walk : Walk) (now : Halfway) → Walks walk now → length now.pending ≡ 0
    → IsBehind walk.old (meaning walk.made walk.place) now.out
unfolding pending_tokens
walks_over walk now w none =
    let over : pending_tokens (meanings walk.made) now.pending ≡ [] =
    ap (pending_tokens (meanings walk.made)) (nil_from_length now.pending none) in
    record {
      tokens = sym (w.tokens ∙ ap (λ l. now.out.tokens.items ++ l) over ∙ append-nil now.out.tokens.items);
      place = sym (w.places ∙ ap (λ l. place_behind l now.out.place) over);
    }

pub walks_first : (walk : Walk) (parts : Bor (List Part)) (pending : List (Bor (List Part)))
    → are_ordered 0 walk.made ≡ true → parts.now ≡ parts_at walk.made walk.place → pending ≡ [] ++ parts ∷ []
    → Walks walk (record { out = walk.old; pending = pending })
unfolding pending_tokens
walks_first walk parts pending order is e =
    let table = meanings walk.made in
    let all : meaning walk.made walk.place ≡ pending_tokens table pending =
    meaning_at walk.made walk.place order ∙ ap (parts_tokens table) (sym is)
    ∙ sym (append-nil (parts_tokens table parts.now)) ∙ sym (pending_one table [] parts)
    ∙ ap (pending_tokens table) (sym e) in
    record { tokens = ap (λ l. walk.old.tokens.items ++ l) all; places = ap (λ l. place_behind l walk.old.place) all }
